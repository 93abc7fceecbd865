-- At most eight bytes spell the same once they stand in an array of eight, zeros behind them. By their number.
use Rattle.std.proofs.Common.{ℕ, ◌≤◌, ◌≡◌, List, [], ◌∷◌, ◌++◌, length, drop, arith, replicate, refl}
use Rattle.std.specs.Int.{from_le_bytes, w64}
use Rattle.format.specs.Number.{little}

pub padded : (bytes : List ℕ) → length bytes ≤ 8 → from_le_bytes w64 (bytes ++ drop (length bytes) (replicate 8 0)) ≡ little bytes
unfolding little
padded [] h = refl
padded (a ∷ []) h = omega arith
padded (a ∷ b ∷ []) h = omega arith
padded (a ∷ b ∷ c ∷ []) h = omega arith
padded (a ∷ b ∷ c ∷ d ∷ []) h = omega arith
padded (a ∷ b ∷ c ∷ d ∷ e ∷ []) h = omega arith
padded (a ∷ b ∷ c ∷ d ∷ e ∷ f ∷ []) h = omega arith
padded (a ∷ b ∷ c ∷ d ∷ e ∷ f ∷ g ∷ []) h = omega arith
padded (a ∷ b ∷ c ∷ d ∷ e ∷ f ∷ g ∷ i ∷ []) h = omega arith
padded (a ∷ b ∷ c ∷ d ∷ e ∷ f ∷ g ∷ i ∷ j ∷ more) h = absurd (omega arith)

-- How large a number is, by how many bytes spell it.
use Rattle.std.proofs.Common.{ℕ, zero, suc, ◌+◌, ◌<◌, ◌≤◌, ◌^◌, List, [], ◌∷◌, length, get_or, arith, drop}
use Rattle.std.proofs.Math.Nat.{pow-succ'}
use Rattle.std.proofs.Common.{length-drop}
use Rattle.std.proofs.lemmas.List.{get_or-drop}
use Rattle.format.specs.Number.{little}

pub positive : (n : ℕ) → 0 < 256 ^ n
positive zero = omega arith
positive (suc n) = omega (arith, pow-succ' 256 n, positive n)

pub below_power : (bs : List ℕ) (n : ℕ) → length bs ≤ n → ((i : ℕ) → get_or bs i 0 < 256) → little bs < 256 ^ n
unfolding little
below_power [] n h bytes = positive n
below_power (b ∷ bs) zero h bytes = absurd (omega arith)
below_power (b ∷ bs) (suc n) h bytes = omega (arith, pow-succ' 256 n, below_power bs n (omega arith) (λ i. bytes (suc i)), bytes 0)

pub tail_below : (bytes : List ℕ) (k n : ℕ) → length bytes ≤ k + n → ((i : ℕ) → get_or bytes i 0 < 256) → little (drop k bytes) < 256 ^ n
tail_below bytes k n h each = below_power (drop k bytes) n (rw length-drop (omega arith)) (λ i. rw get_or-drop (each (k + i)))

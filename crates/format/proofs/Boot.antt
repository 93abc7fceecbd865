-- Bytes past the first 512 are ignored: each field is a part of the first 512, and the length is only asked to reach 512.
use Rattle.std.specs.Prelude.{Option, Some, None}
use Prim.Native.Nat.{ℕ, zero, suc, ◌+◌, ◌*◌, ◌≤◌}
use mathlib.Core.Path.{◌≡◌, refl, ap, ◌∙◌}
use mathlib.Core.Bool.{false, not}
use mathlib.Core.List.{List, [], ◌∷◌}
use native.Mathlib.Omega.{arith}
use borrow.Author.Tests.{le-ltb}
use lib.ListN.{length, get_or, take, drop}
use lib.Seq.{get_or-take, take-take, length-take-le}
use lib.Dec.{eqb}
use lib.IntN.{pos}
use Rattle.format.specs.Pick.{pick}
use Rattle.format.specs.Number.{little, unsigned, twos}
use Rattle.format.specs.Boot.{Boot, boot, clustered, sectored, recorded, record_size_of, sectors_of, marked}
use Rattle.format.specs.Boot.Boot.{refused}

-- m elements from a place on, of the first n
part_of_first : (s : List ℕ) (from m n : ℕ) → from + m ≤ n → take m (drop from (take n s)) ≡ take m (drop from s)
part_of_first s zero m n h = take-take m n s (omega arith)
part_of_first [] (suc from) m zero h = refl
part_of_first [] (suc from) m (suc n) h = refl
part_of_first (x ∷ s) (suc from) m zero h = absurd (omega arith)
part_of_first (x ∷ s) (suc from) m (suc n) h = part_of_first s from m n (omega arith)

field_past : (s : List ℕ) (from m n : ℕ) → from + m ≤ n → unsigned (take n s) from m ≡ unsigned s from m
unfolding unsigned
field_past s from m n h = ap little (part_of_first s from m n h)

module _ (s : List ℕ) (n : ℕ) (h : 512 ≤ n) where
  recorded_past : (cluster : ℕ) (w : Option ℕ) → recorded (take n s) cluster w ≡ recorded s cluster w
  recorded_past cluster None = rw (get_or-take n s 64 0 (omega arith))
  recorded_past cluster (Some size) =
      rw (get_or-take n s 68 0 (omega arith), field_past s 11 2 n (omega arith), field_past s 40 8 n (omega arith), field_past s 48 8 n (omega arith), field_past s 56 8 n (omega arith), field_past s 72 8 n (omega arith))

  clustered_past : (cluster : ℕ) → clustered (take n s) cluster ≡ clustered s cluster
  unfolding clustered
  clustered_past cluster =
      rw (field_past s 48 8 n (omega arith))
      (ap (pick (eqb (unsigned s 48 8) 0) (refused 6 [])) (recorded_past cluster (record_size_of (twos 1 (get_or (take n s) 64 0)) cluster) ∙ ap (λ (z : ℕ). recorded s cluster (record_size_of (twos 1 z) cluster)) (get_or-take n s 64 0 (omega arith))))

  sectored_past : (w : Option ℕ) → sectored (take n s) w ≡ sectored s w
  sectored_past None = rw (get_or-take n s 13 0 (omega arith))
  sectored_past (Some k) = rw (field_past s 11 2 n (omega arith), clustered_past (k * unsigned s 11 2))

  pub past_ignored : n ≤ length s → boot (take n s) ≡ boot s
  unfolding boot
  past_ignored k =
      let l : length (take n s) ≡ n = length-take-le n s k in
      rw (l, le-ltb n 512 h, le-ltb (length s) 512 (omega arith), get_or-take n s 510 0 (omega arith), get_or-take n s 511 0 (omega arith))
      (ap (λ (b : Boot). pick false (refused 1 []) (pick (not (marked (get_or s 510 0) (get_or s 511 0))) (refused 2 (pos (get_or s 510 0) ∷ pos (get_or s 511 0) ∷ [])) b))
      (sectored_past (sectors_of (get_or (take n s) 13 0)) ∙ ap (λ (z : ℕ). sectored s (sectors_of z)) (get_or-take n s 13 0 (omega arith))))

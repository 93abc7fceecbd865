-- Laws of numbers: differences of naturals as integers, the two's complement from the largest number of n bytes (once, over
-- the byte length), a number within a word, and little-endian numbers byte by byte.
use Rattle.std.specs.Prelude.{Some}
use Prim.Native.Nat.{ℕ, zero, suc, ◌+◌, ◌-◌, ◌*◌, ◌/◌, ◌^◌, ◌<◌, ◌≤◌}
use mathlib.Core.Path.{◌≡◌, sym, ap, ◌∙◌}
use mathlib.Core.List.{List}
use native.Mathlib.Omega.{arith}
use native.Mathlib.Numerals.{add-one}
use borrow.Author.Tests.{lt-ltb, le-ltb}
use lib.ListN.{length, get_or, take, drop}
use lib.Seq.{drop-cons}
use lib.IntN.{pos, negsuc, ◌-ℤ◌}
use Rattle.format.specs.Pick.{pick_yes, pick_no}
use Rattle.format.specs.Number.{little, twos, unsigned, within}

pub sub_lt : (a b : ℕ) → a < b → pos a -ℤ pos b ≡ negsuc (b - suc a)
sub_lt a zero h = absurd (omega arith)
sub_lt a (suc k) h = simp (lt-ltb a (suc k) h)

pub sub_le : (a b : ℕ) → b ≤ a → pos a -ℤ pos b ≡ pos (a - b)
sub_le a zero h = ap pos (omega arith)
sub_le a (suc k) h = simp (le-ltb a (suc k) h)

-- the top bit is clear, or set; `most` is the largest number of n bytes
module _ (n x most : ℕ) (e : most + 1 ≡ 256 ^ n) where
  pub twos_up : x ≤ most / 2 → pos x ≡ twos n x
  unfolding twos
  twos_up h = sym (pick_yes _ _ (lt-ltb (x * 2) (256 ^ n) (omega arith)))

  pub twos_down : most / 2 < x → x ≤ most → negsuc (most - x) ≡ twos n x
  unfolding twos
  twos_down h k = sym (pick_no _ _ (le-ltb (x * 2) (256 ^ n) (omega arith)) ∙ sub_lt x (256 ^ n) (omega arith) ∙ ap negsuc (omega arith))

  pub twos_past : most / 2 < x → most < x → pos (x - most - 1) ≡ twos n x
  unfolding twos
  twos_past h k = sym (pick_no _ _ (le-ltb (x * 2) (256 ^ n) (omega arith)) ∙ sub_le x (256 ^ n) (omega arith) ∙ ap pos (omega arith))

pub within_is : (n : ℕ) → n < 2 ^ 64 → Some n ≡ within n
unfolding within
within_is n h = sym (pick_yes _ _ (lt-ltb n (2 ^ 64) h))

-- one more byte in front
pub little_step : (s : List ℕ) (j m : ℕ) → j < length s → little (take (suc m) (drop j s)) ≡ get_or s j 0 + 256 * little (take m (drop (suc j) s))
unfolding little
little_step s j m h = rw (drop-cons s j 0 h)

pub unsigned_two : (s : List ℕ) (at : ℕ) → at + 2 ≤ length s → unsigned s at 2 ≡ get_or s at 0 + 256 * get_or s (at + 1) 0
unfolding unsigned little
unsigned_two s at h =
    let a : little (take 2 (drop at s)) ≡ get_or s at 0 + 256 * little (take 1 (drop (suc at) s)) = little_step s at 1 (omega arith) in
    let b : little (take 1 (drop (suc at) s)) ≡ get_or s (suc at) 0 + 256 * little (take 0 (drop (suc (suc at)) s)) = little_step s (suc at) 0 (omega arith) in
    rw (add-one at) (omega (arith, a, b))

-- The real decoder is lawful: each run it finds isn't empty, takes two bytes of the list or more, and ends inside; at the list's length
-- the list is over. By going down the choices of a step with what must hold of the answer.
use Rattle.std.specs.Prelude.{Option, Some, None}
use Prim.Native.Nat.{ℕ, ◌+◌, ◌-◌, ◌*◌, ◌/◌, ◌%◌, ◌^◌, ◌<◌, ◌≤◌}
use mathlib.Core.Path.{◌≡◌, subst}
use mathlib.Core.Bool.{true}
use mathlib.Core.List.{List}
use native.Mathlib.Omega.{arith}
use native.Mathlib.Nat.{mul-pos}
use native.Mathlib.Decide.{dec_lt}
use lib.ListN.{length, get_or}
use lib.Dec.{ltb, leb, eqb}
use lib.IntN.{ℤ, pos, ◌+ℤ◌}
use borrow.Author.Tests.{ltb-true, ltb-false, leb-false, le-leb, eqb-false}
use Rattle.format.specs.Pick.{pick, pick_all, pick_yes}
use Rattle.format.specs.Number.{little, unsigned, signed, within, within_ℤ}
use Rattle.format.specs.Runs.{Place, Run, Step, is_hole, ends, Inside, on_disk, moved, delta_part, sized, count_part, step}
use Rattle.format.specs.Runs.Place.{disk, hole}
use Rattle.format.specs.Runs.Step.{over, found, faulty}
use Rattle.std.proofs.lemmas.Bool.Decides.{nat_tests}
use Rattle.format.specs.Listed.{run_list, Lawful}
use Rattle.format.proofs.Listed.{Moves}

-- what holds of a run that a step at a cursor of a list of n bytes finds
abbrev pub Ahead : ℕ → ℕ → Step → Type 0
Ahead at n over = Unit {0}
Ahead at n (found r to lcn) = (at + 1 < to) × (to ≤ n) × (0 < r.size) × Inside r.place r.size
Ahead at n (faulty k vs) = Unit {0}

abbrev Positive : Option ℕ → Type 0
Positive (Some n) = 0 < n
Positive None = Unit {0}

within_positive : (n : ℕ) → 0 < n → Positive (within n)
unfolding within
within_positive n h = pick_all Positive (ltb n (2 ^ 64)) _ _ (λ _. h) (λ _. tt)

none_is_zero : (s : List ℕ) (from n : ℕ) → n ≡ 0 → unsigned s from n ≡ 0
unfolding unsigned little
none_is_zero s from n e = rw e

ends_inside : (p size : ℕ) → ends p size ≡ true → p + size < 2 ^ 64
unfolding ends
ends_inside p size e = ltb-true (p + size) (2 ^ 64) e

module _ (cluster at n : ℕ) where
  on_disk_ahead : (to lcn size : ℕ) (w : Option ℕ) → at + 1 < to → to ≤ n → 0 < size → Ahead at n (on_disk cluster at to lcn size w)
  on_disk_ahead to lcn size None h k z = tt
  on_disk_ahead to lcn size (Some p) h k z = pick_all (Ahead at n) (ends p size) _ _ (λ e. (h, k, z, ends_inside p size e)) (λ _. tt)

  moved_ahead : (to lcn size m : ℕ) (d : ℤ) (w : Option ℕ) → at + 1 < to → to ≤ n → 0 < size → Ahead at n (moved cluster at to lcn size m d w)
  moved_ahead to lcn size m d None h k z = tt
  moved_ahead to lcn size m d (Some x) h k z = pick_all (Ahead at n) (is_hole m d x) _ _ (λ _. (h, k, z, tt)) (λ _. on_disk_ahead to x size (within (x * cluster)) h k z)

module _ (cluster at : ℕ) (s : List ℕ) (lcn : ℕ) where
  delta_ahead : (from m size : ℕ) → at + 1 < from → from ≤ length s → 0 < size → Ahead at (length s) (delta_part cluster at s lcn from m size)
  unfolding delta_part
  delta_ahead from m size h k z =
      pick_all (Ahead at (length s)) (ltb 8 m) _ _ (λ _. tt) (λ _.
      pick_all (Ahead at (length s)) (ltb (length s - from) m) _ _ (λ _. tt) (λ e.
      let q : m ≤ length s - from = ltb-false (length s - from) m e in
      moved_ahead cluster at (length s) (from + m) lcn size m (signed s from m) (within_ℤ (pos lcn +ℤ signed s from m)) (omega arith) (omega arith) z))

  sized_ahead : (head : ℕ) (w : Option ℕ) → 0 < head % 16 → at + 1 + head % 16 ≤ length s → Positive w → Ahead at (length s) (sized cluster at s lcn head w)
  sized_ahead head None h k z = tt
  sized_ahead head (Some size) h k z = delta_ahead (at + 1 + head % 16) (head / 16) size (omega arith) k z

  count_ahead : (head : ℕ) → 0 < cluster → at < length s → Ahead at (length s) (count_part cluster at s lcn head)
  unfolding count_part
  count_ahead head c h =
      pick_all (Ahead at (length s)) (eqb head 0) _ _ (λ _. tt) (λ _.
      pick_all (Ahead at (length s)) (ltb 8 (head % 16)) _ _ (λ _. tt) (λ _.
      pick_all (Ahead at (length s)) (ltb (length s - (at + 1)) (head % 16)) _ _ (λ _. tt) (λ e.
      let q : head % 16 ≤ length s - (at + 1) = ltb-false (length s - (at + 1)) (head % 16) e in
      pick_all (Ahead at (length s)) (eqb (unsigned s (at + 1) (head % 16)) 0) _ _ (λ _. tt) (λ f.
      let some : 0 < unsigned s (at + 1) (head % 16) = omega (arith, eqb-false (unsigned s (at + 1) (head % 16)) 0 f) in
      let bytes : 0 < head % 16 = elim (dec_lt 0 (head % 16)) [ yes p ↦ p | no p ↦ (let z = none_is_zero s (at + 1) (head % 16) (omega arith) in absurd (omega arith)) ] in
      sized_ahead head (within (unsigned s (at + 1) (head % 16) * cluster)) bytes (omega arith) (within_positive (unsigned s (at + 1) (head % 16) * cluster) (mul-pos some c))))))

  pub ahead : 0 < cluster → Ahead at (length s) (step cluster s at lcn)
  unfolding step
  ahead c = pick_all (Ahead at (length s)) (leb (length s) at) _ _ (λ _. tt) (λ e. count_ahead (get_or s at 0) c (leb-false (length s) at e))

-- what is inside with a size is so with a smaller one
pub inside_less : (p : Place) (size o : ℕ) → Inside p size → o ≤ size → Inside p o
inside_less (disk p) size o h k = omega arith
inside_less hole size o h k = tt

-- a run that is found keeps rule 19
pub found_inside : (cluster : ℕ) (s : List ℕ) (a l : ℕ) (r : Run) (a' l' : ℕ) → 0 < cluster → step cluster s a l ≡ found r a' l' → Inside r.place r.size
found_inside cluster s a l r a' l' c e = (subst (Ahead a (length s)) e (ahead cluster a s l c)).3

pub lawful : (cluster : ℕ) (s : List ℕ) → 0 < cluster → Lawful (run_list cluster s)
unfolding step
lawful cluster s c =
    record {
      sized = λ a l r a' l' e. (subst (Ahead a (length s)) e (ahead cluster a s l c)).2;
      moves = λ a l r a' l' e. let h = subst (Ahead a (length s)) e (ahead cluster a s l c) in (h.0, h.1);
      stops = λ a l h. pick_yes _ _ (le-leb (length s) a h);
    }

-- rule 19 by a difference

-- a run takes two bytes of the list or more, whatever the cluster size
pub step_moves : (cluster : ℕ) (s : List ℕ) → Moves (run_list cluster s)
unfolding step count_part delta_part within pick
step_moves cluster s a l r a' l' e = grind (arith, nat_tests)

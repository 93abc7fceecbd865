-- What the tests in front of a repair say of the record.
use Prim.Native.Nat.{ℕ, ◌+◌, ◌-◌, ◌*◌, ◌≤◌}
use mathlib.Core.Path.{◌≡◌}
use mathlib.Core.Bool.{true, false}
use native.Mathlib.Omega.{arith}
use borrow.Author.Tests.{ltb-false}
use lib.Dec.{ltb}
use Rattle.format.specs.Pick.{pick_not}
use Rattle.format.proofs.Powers.{between_bounds}
use Rattle.format.specs.Record.{length_fits, min_record, max_record, reaches_past}

-- what the tests before the sectors leave
pub fits_bounds : (n : ℕ) → length_fits n ≡ true → (8 ≤ n) × (n ≤ 4096)
unfolding length_fits
fits_bounds n e = between_bounds min_record max_record n e

pub reaches_not : (len offset count : ℕ) → reaches_past len offset count ≡ false → (offset + 2 * count ≤ len) × (512 * (count - 1) ≤ len)
unfolding reaches_past
reaches_not len offset count e =
    let h = pick_not (ltb len (offset + 2 * count)) true (ltb len (512 * (count - 1))) false (λ z. let f : ◌≡◌ {A = ℕ} 0 1 = cc in omega arith) e in
    (ltb-false len (offset + 2 * count) h.0, ltb-false len (512 * (count - 1)) h.1)

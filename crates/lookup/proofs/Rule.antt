-- The lookup rule of the code's list, by what stands at the cursor; and an offset inside a run.
use Rattle.std.proofs.Common.{ℕ, ◌+◌, ◌<◌, ◌^◌, ◌≡◌, List, arith, refl, Ok, lt-ltb}
use Rattle.format.specs.Pick.{pick_yes}
use Rattle.format.specs.Number.{within}
use Rattle.format.specs.Runs.{step, Inside}
use Rattle.format.specs.Listed.{run_list, listed, byte, lookup}
use Rattle.format.proofs.Listed.{looks, lookup_rule as rule}
use Rattle.format.proofs.Runs.{step_moves}
use Rattle.data_runs.specs.declared.Place.{Place}
use Rattle.data_runs.specs.declared.Place.TheVariants.{Disk, Hole}
use Rattle.data_runs.specs.Shown.{shown_place, further_on}
use Rattle.lookup.specs.Shown.{shown}

pub lookup_rule : (cluster : ℕ) (bytes : List ℕ) (at lcn offset : ℕ) → lookup (listed (run_list cluster bytes) at lcn) offset ≡ looks (run_list cluster bytes) offset (step cluster bytes at lcn)
lookup_rule cluster bytes at lcn offset = rule (run_list cluster bytes) (step_moves cluster bytes) at lcn offset

-- an offset inside a run has a place
pub inside_run : (place : Place) (offset size : ℕ) → Inside (shown_place place) size → offset < size → shown (Ok (further_on place offset)) ≡ byte (shown_place place) offset
unfolding byte within
inside_run (Disk p) offset size h k = rw (pick_yes _ _ (lt-ltb (p + offset) (2 ^ 64) (omega arith))) refl
inside_run Hole offset size h k = refl

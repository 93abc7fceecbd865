-- Passing whole runs of the code's list from a cursor on, by what stands there.
use Rattle.std.proofs.Common.{ℕ, ◌≡◌, List}
use Rattle.format.specs.Runs.{step}
use Rattle.format.specs.Listed.{run_list, listed}
use Rattle.format.specs.Reader.{settle}
use Rattle.format.proofs.Runs.{step_moves}
use Rattle.format.proofs.Reader.{settles, settle_rule as rule}

pub settle_rule : (cluster : ℕ) (bytes : List ℕ) (at lcn n : ℕ) → settle (run_list cluster bytes) (listed (run_list cluster bytes) at lcn) n ≡ settles (run_list cluster bytes) lcn n (step cluster bytes at lcn)
settle_rule cluster bytes at lcn n = rule (run_list cluster bytes) (step_moves cluster bytes) at lcn n

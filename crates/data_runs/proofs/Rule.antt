-- What an iterator over a list gives is what stands at its cursor, and then what an iterator behind that gives. This
-- holds of every cluster size.
use Rattle.std.proofs.Common.{ℕ, ◌≡◌, List, [], ◌∷◌, refl, ap, ◌∙◌}
use Rattle.format.specs.Runs.{Step, step}
use Rattle.format.specs.Runs.Step.{over, found, faulty}
use Rattle.format.specs.Listed.{run_list, listed, unroll}
use Rattle.format.proofs.Listed.{listed_again}
use Rattle.format.proofs.Runs.{step_moves}
use Rattle.data_runs.specs.Shown.{steps}

-- what an iterator gives whose list has this step at its cursor
abbrev pub after : ℕ → List ℕ → Step → List Step
after cluster bytes over = []
after cluster bytes (found r at lcn) = found r at lcn ∷ steps (listed (run_list cluster bytes) at lcn)
after cluster bytes (faulty k vs) = faulty k vs ∷ []

unrolled : (cluster : ℕ) (bytes : List ℕ) (x : Step) (lcn : ℕ) → steps (unroll x lcn (listed (run_list cluster bytes))) ≡ after cluster bytes x
unfolding unroll
unrolled cluster bytes over lcn = refl
unrolled cluster bytes (found r at lcn') lcn = refl
unrolled cluster bytes (faulty k vs) lcn = refl

pub steps_rule : (cluster : ℕ) (bytes : List ℕ) (at lcn : ℕ) → steps (listed (run_list cluster bytes) at lcn) ≡ after cluster bytes (step cluster bytes at lcn)
steps_rule cluster bytes at lcn =
    ap steps (listed_again (run_list cluster bytes) (step_moves cluster bytes) at lcn) ∙ unrolled cluster bytes (step cluster bytes at lcn) lcn

-- This crate's answers in the format's terms; no second answer is shown alike.
use Rattle.std.specs.Prelude.{ℕ, [], ◌∷◌, ◌+◌, List, length, ◌≡◌, refl, Option, option_map, Some, None, Result, Ok, Err, nat_le, if◌then◌else◌}
use Rattle.std.proofs.Common.{sym, ap, ◌∙◌}
use Rattle.format.specs.Runs.{Place as P, Run as R, Step as S}
use Rattle.refusal.specs.Refusals.{number, values, refusal_back, refusal_restored}
use Rattle.data_runs.specs.declared.Run.{Run}
use Rattle.data_runs.specs.declared.Place.{Place}
use Rattle.data_runs.specs.declared.Place.TheVariants.{Disk, Hole}
use Rattle.data_runs.specs.declared.Cursor.{Cursor}
use Rattle.data_runs.specs.declared.DataRuns.{DataRuns}
use Rattle.format.specs.Listed.{Listed, run_list, list, listed, Listed as L}
use Rattle.refusal.specs.declared.Refusal.{Refusal}
use Rattle.refusal.specs.declared.Refusal.TheVariants.{Unsound}
use Rattle.format.specs.Number.{within, cluster_sound}

abbrev pub shown_place : Place → P
shown_place (Disk p) = P.disk p
shown_place Hole = P.hole

abbrev pub shown_run : Run → R
shown_run r = record { size = r.size; place = shown_place r.place }

abbrev pub shown : Result (Option (Run × Cursor)) Refusal → S
shown (Ok (Some (run, cursor))) = S.found (shown_run run) cursor.at cursor.lcn
shown (Ok None) = S.over
shown (Err why) = S.faulty (number why) (values why)

-- For private contracts alone: what stands in so many bytes from a place on, if they are there.
abbrev pub inside : {A : Type 0} → List ℕ → ℕ → ℕ → A → Option A
inside bytes from len x = if nat_le (from + len) (length bytes) then Some x else None

-- what is met of a list, step by step to the last run or to a refused one
abbrev pub steps : Listed → List S
steps (L.ends lcn) = []
steps (L.run r at lcn rest) = S.found r at lcn ∷ steps rest
steps (L.breaks k vs) = S.faulty k vs ∷ []

abbrev pub step_of : Result (Run × Cursor) Refusal → S
step_of (Ok (run, cursor)) = S.found (shown_run run) cursor.at cursor.lcn
step_of (Err why) = S.faulty (number why) (values why)

abbrev pub steps_from : ℕ → List ℕ → Option Cursor → List S
steps_from cluster bytes None = []
steps_from cluster bytes (Some cursor) = steps (listed (run_list cluster bytes) cursor.at cursor.lcn)

-- what an iterator still gives, and what one over a list gives
abbrev pub runs_left : DataRuns → List S
runs_left runs = steps_from runs.cluster runs.list.now runs.cursor

abbrev pub runs_of : ℕ → List ℕ → Result (List S) Refusal
runs_of cluster bytes = if cluster_sound cluster then Ok (steps (list (run_list cluster bytes))) else Err Unsound

-- a place further on in its run
abbrev pub further_on : Place → ℕ → Option Place
further_on (Disk p) by = option_map Disk (within (p + by))
further_on Hole by = Some Hole

-- the answer back from what is shown
pub place_back : P → Place
place_back (P.disk p) = Disk p
place_back P.hole = Hole

pub place_restored : (x : Place) → place_back (shown_place x) ≡ x
unfolding place_back
place_restored (Disk p) = refl
place_restored Hole = refl

unfoldable pub run_back : R → Run
run_back r = record { size = r.size; place = place_back r.place }

pub run_restored : (x : Run) → run_back (shown_run x) ≡ x
unfolding run_back
run_restored x = rw (place_restored x.place)

pub back : S → Result (Option (Run × Cursor)) Refusal
back (S.found run at lcn) = Ok (Some (run_back run, record { at = at; lcn = lcn }))
back S.over = Ok None
back (S.faulty k vs) = Err (refusal_back k vs)

pub back_shown : (x : Result (Option (Run × Cursor)) Refusal) → back (shown x) ≡ x
unfolding back
back_shown (Ok (Some (run, cursor))) = rw (run_restored run)
back_shown (Ok None) = refl
back_shown (Err why) = rw (refusal_restored why)

pub shown_injective : (x y : Result (Option (Run × Cursor)) Refusal) → shown x ≡ shown y → x ≡ y
shown_injective x y e = sym (back_shown x) ∙ ap back e ∙ back_shown y

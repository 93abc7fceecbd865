-- This crate's answer in the format's terms; no second answer is shown alike.
use Rattle.std.specs.Prelude.{◌≡◌, refl, Option, Some, None, Result, Ok, Err}
use Rattle.std.proofs.Common.{sym, ap, ◌∙◌}
use Rattle.format.specs.Listed.{Where as W}
use Rattle.refusal.specs.Refusals.{number, values, refusal_back, refusal_restored}
use Rattle.refusal.specs.declared.Refusal.{Refusal}
use Rattle.data_runs.specs.declared.Place.{Place}
use Rattle.data_runs.specs.declared.Place.TheVariants.{Disk, Hole}

abbrev pub shown : Result (Option Place) Refusal → W
shown (Ok (Some (Disk p))) = W.position p
shown (Ok (Some Hole)) = W.in_hole
shown (Ok None) = W.not_covered
shown (Err why) = W.unknown (number why) (values why)

pub back : W → Result (Option Place) Refusal
back (W.position p) = Ok (Some (Disk p))
back W.in_hole = Ok (Some Hole)
back W.not_covered = Ok None
back (W.unknown k vs) = Err (refusal_back k vs)

pub back_shown : (x : Result (Option Place) Refusal) → back (shown x) ≡ x
unfolding back
back_shown (Ok (Some (Disk p))) = refl
back_shown (Ok (Some Hole)) = refl
back_shown (Ok None) = refl
back_shown (Err why) = rw (refusal_restored why)

pub shown_injective : (x y : Result (Option Place) Refusal) → shown x ≡ shown y → x ≡ y
shown_injective x y e = sym (back_shown x) ∙ ap back e ∙ back_shown y

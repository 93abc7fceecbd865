-- This crate's answer with the record left behind, in the format's terms; no second pair of answer and record is shown
-- alike.
use Rattle.std.specs.Prelude.{◌≡◌, refl, List, ℕ, slice_index, Result, Ok, Err}
use Rattle.std.proofs.Common.{sym, ap, ◌∙◌}
use Rattle.format.specs.Record.{Repair as R, mend, after, sectors}
use Rattle.refusal.specs.declared.Refusal.{Refusal}
use Rattle.refusal.specs.Refusals.{number, values, refusal_back, refusal_restored}

abbrev pub outcome : Result (Unit {0}) Refusal → List ℕ → R
outcome (Ok done) s = R.repaired s
outcome (Err why) s = R.refused (number why) (values why) s

-- n sectors from k on, and sector k alone, with the sequence number as its two bytes
abbrev pub sectors_from : ℕ → ℕ → List ℕ → ℕ → List ℕ → List ℕ → R
sectors_from n offset number k lent s = sectors n offset (slice_index number 0) (slice_index number 1) k lent s

abbrev pub sector_at : ℕ → List ℕ → ℕ → List ℕ → R
sector_at offset number k s = after (mend offset (slice_index number 0) (slice_index number 1) k s s) k s R.repaired

pub answer_back : R → Result (Unit {0}) Refusal
answer_back (R.repaired s) = Ok tt
answer_back (R.refused k vs s) = Err (refusal_back k vs)

pub record_back : R → List ℕ
record_back (R.repaired s) = s
record_back (R.refused k vs s) = s

answer_restored : (x : Result (Unit {0}) Refusal) (s : List ℕ) → answer_back (outcome x s) ≡ x
unfolding answer_back
answer_restored (Ok done) s = refl
answer_restored (Err why) s = rw (refusal_restored why)

record_restored : (x : Result (Unit {0}) Refusal) (s : List ℕ) → record_back (outcome x s) ≡ s
unfolding record_back
record_restored (Ok done) s = refl
record_restored (Err why) s = refl

pub outcome_injective : (x y : Result (Unit {0}) Refusal) (s t : List ℕ)
    → outcome x s ≡ outcome y t → (x ≡ y) × (s ≡ t)
outcome_injective x y s t e = (
  sym (answer_restored x s) ∙ ap answer_back e ∙ answer_restored y t,
  sym (record_restored x s) ∙ ap record_back e ∙ record_restored y t,
)

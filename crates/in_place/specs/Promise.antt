-- What the calls on a lent reader promise: the by-value call's answer and store, and a reader that is the answer's, or
-- the old one where the call is refused. `old` is what was lent, `new` what stands there afterwards.
use Rattle.std.specs.Prelude.{ℕ, ℤ, ◌≡◌, List, Result}
use Rattle.std.proofs.Common.{sym, ◌∙◌}
use Rattle.format.specs.Calls.{seeking, reading, counted, held, leaves, stored}
use Rattle.non_resident.specs.Shown.{seen, shown_from, shown_sought, shown_outcome, reader_injective, sought_injective, outcome_injective}
use Rattle.non_resident.specs.declared.Reader.{Reader}
use Rattle.non_resident.specs.declared.Whence.{Whence}
use Rattle.non_resident.specs.declared.Reading.{Reading}
use Rattle.refusal.specs.declared.Refusal.{Refusal}

abbrev pub Seeks : Reader → List ℕ → Whence → ℤ → Result Reader Refusal → Reader → Type 0
Seeks old s from by a new =
    let x = seeking s (seen old) (shown_from from) by in
    (shown_sought a ≡ x) × (seen new ≡ leaves (seen old) x)

abbrev pub Reads : Reader → List ℕ → ℕ → List ℕ → Result Reading Refusal → Reader → List ℕ → Type 0
Reads old s w store a new after =
    let x = reading s (seen old) w store in
    (shown_outcome a ≡ counted old.cluster x) × (seen new ≡ leaves (seen old) (held (counted old.cluster x))) × (after ≡ stored store x)

-- NO SECOND OUTCOME.
pub seeks_once : (old : Reader) (s : List ℕ) (from : Whence) (by : ℤ) (a a' : Result Reader Refusal) (new new' : Reader) → Seeks old s from by a new → Seeks old s from by a' new' → (a ≡ a') × (new ≡ new')
seeks_once old s from by a a' new new' e e' = (sought_injective a a' (e.0 ∙ sym e'.0), reader_injective new new' (e.1 ∙ sym e'.1))

pub reads_once : (old : Reader) (s : List ℕ) (w : ℕ) (store : List ℕ) (a a' : Result Reading Refusal) (new new' : Reader) (after after' : List ℕ) → Reads old s w store a new after → Reads old s w store a' new' after' → (a ≡ a') × (new ≡ new') × (after ≡ after')
reads_once old s w store a a' new new' after after' e e' = (outcome_injective a a' (e.0 ∙ sym e'.0), reader_injective new new' (e.1 ∙ sym e'.1), e.2 ∙ sym e'.2)

-- What a read does, whatever the reader: the byte count is the sum of the spans, none is empty, and data position follows the spans. What
-- it says where a run is used up. The statements, of a list; their proofs, for every lawful one, are proofs/Laws.antt.
use Rattle.std.specs.Prelude.{ℕ, ◌+◌, ◌<◌, ◌≡◌, List, [], ◌∷◌}
use Rattle.format.specs.Runs.{Run}
use Rattle.format.specs.Runs.Place.{disk}
use Rattle.format.specs.Runs.Step.{found}
use Rattle.format.specs.Listed.{Gives, IfGiven, RunList}
use Rattle.format.specs.Reader.{Reader, left, seek_to, Span, Reading, further, read, Position, position_of, data_position}
use Rattle.format.specs.Reader.Position.{at_byte}
use Rattle.format.specs.History.{total, NoneEmpty, amount}
use Rattle.format.specs.Demand3.{Named}

pub record Summed (g : Reading) : Type 0 where
  pub sum : g.bytes ≡ total g.spans
  pub full : NoneEmpty g.spans

abbrev pub EveryReadSums : RunList → Type 0
EveryReadSums L = (room w : ℕ) (r : Reader) → IfGiven Summed (read L room w r)

-- With w, room and covered data left a read moves at least one byte: said of what demand 3 names.
abbrev pub ReadMoves : RunList → Type 0
ReadMoves L = (p z w room : ℕ) (g : Reading) → Named L p z w room g → 0 < room → 0 < amount L p z w → 0 < g.bytes

-- After any read data position is the place behind the last span, or what it was where there is none: behind a run that was used up it is
-- that run's end.
abbrev pub behind : Position → List Span → Position
behind p [] = p
behind p (x ∷ xs) = behind (position_of (further x.place x.length)) xs

abbrev pub PositionFollows : RunList → Type 0
PositionFollows L = (room w : ℕ) (r : Reader) → IfGiven (λ g. data_position g.reader ≡ behind (data_position r) g.spans) (read L room w r)

-- A seek to where a run is used up is at the start of the next run y.
abbrev pub SeeksOn : RunList → Type 0
SeeksOn L = (r : Reader) (y : Run) (a l e : ℕ) → 0 < left r.stand → L.step r.stand.cursor r.stand.lcn ≡ found y a l → y.place ≡ disk e
    → Gives (λ r'. data_position r' ≡ at_byte e) (seek_to L r (r.place + left r.stand))

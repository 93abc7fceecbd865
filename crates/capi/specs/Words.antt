-- What the calls for C answer, in words: each answer of the definitions as a number (0 accepted, otherwise the
-- refusal's) and eight words, and a reader as sixteen.
use Rattle.std.specs.Prelude.{◌≡◌, ℕ, ◌-◌, Bool, false, not, List, [], ◌∷◌, length, get_or, ltb, eqb, ℤ, pos, negsuc}
use Rattle.std.specs.Prelude.{None, Option, Some}
use Rattle.std.proofs.lemmas.List.Edits.{sets}
use Rattle.format.specs.Pick.{pick}
use Rattle.format.specs.Boot.{Boot as B}
use Rattle.format.specs.Record.{Repair as R}
use Rattle.format.specs.Runs.{Place, Step}
use Rattle.format.specs.Runs.Place.{disk, hole}
use Rattle.format.specs.Runs.Step.{over, found, faulty}
use Rattle.format.specs.Listed.{Answer, Where as W}
use Rattle.format.specs.Listed.Answer.{given, refused}
use Rattle.format.specs.Reader.{Current, From, Reading, Position}
use Rattle.format.specs.Reader.From.{from_start, from_place, from_end}
use Rattle.format.specs.Reader.Position.{at_byte, nowhere}
use Rattle.format.specs.Calls.{Held, Count, counted, held, stored, position, kind}

pub record Told : Type 0 where
  pub number : ℕ
  pub words : List ℕ

abbrev pub accepted : List ℕ → Told
accepted ws = record { number = 0; words = ws }

abbrev pub zeros : List ℕ
zeros = 0 ∷ 0 ∷ 0 ∷ 0 ∷ 0 ∷ 0 ∷ 0 ∷ 0 ∷ []

abbrev pub two : ℕ → ℕ → List ℕ
two a b = a ∷ b ∷ 0 ∷ 0 ∷ 0 ∷ 0 ∷ 0 ∷ 0 ∷ []

-- A signed number as a word, in two's complement; a refusal's values as words, the rest 0.
abbrev pub bits : ℤ → ℕ
bits (pos n) = n
bits (negsuc n) = 18446744073709551615 - n

abbrev pub valued : List ℤ → List ℕ
valued [] = zeros
valued (a ∷ []) = two (bits a) 0
valued (a ∷ b ∷ []) = two (bits a) (bits b)
valued (a ∷ b ∷ c ∷ rest) = bits a ∷ bits b ∷ bits c ∷ 0 ∷ 0 ∷ 0 ∷ 0 ∷ 0 ∷ []

abbrev pub refusal : ℕ → List ℤ → Told
refusal k vs = record { number = k; words = valued vs }

-- THE ANSWERS.
abbrev pub tell_word : Option ℕ → Told
tell_word (Some n) = accepted (two 1 n)
tell_word None = accepted zeros

abbrev pub tell_boot : B → Told
tell_boot (B.geometry g) =
    accepted (g.sector ∷ g.cluster ∷ g.sectors ∷ g.mft ∷ g.mirror ∷ g.record_size ∷ bits g.index_info ∷ g.serial ∷ [])
tell_boot (B.refused k v) = refusal k v

abbrev pub tell_repair : R → Told
tell_repair (R.repaired s) = accepted zeros
tell_repair (R.refused k v s) = refusal k v

abbrev pub record_left : R → List ℕ
record_left (R.repaired s) = s
record_left (R.refused k v s) = s

-- 1, size, position, kind, cursor and LCN; or 0 where the list is over
abbrev pub tell_step : Step → Told
tell_step over = accepted zeros
tell_step (found r at lcn) = accepted (1 ∷ r.size ∷ position r.place ∷ kind r.place ∷ at ∷ lcn ∷ 0 ∷ 0 ∷ [])
tell_step (faulty k v) = refusal k v

-- 1 and the position on the disk; 2 for a hole; 0 where it isn't covered
abbrev pub tell_where : W → Told
tell_where (W.position p) = accepted (two 1 p)
tell_where W.in_hole = accepted (two 2 0)
tell_where W.not_covered = accepted zeros
tell_where (W.unknown k v) = refusal k v

abbrev pub tell_held : Answer Held → Told
tell_held (given h) = accepted zeros
tell_held (refused k v) = refusal k v

abbrev pub tell_count : Answer Count → Told
tell_count (given c) = accepted (two c.spans c.bytes)
tell_count (refused k v) = refusal k v

abbrev pub tell_at : Position → Told
tell_at (at_byte p) = accepted (two 1 p)
tell_at nowhere = accepted zeros

abbrev pub tell_position : Answer Position → Told
tell_position (given p) = tell_at p
tell_position (refused k v) = refusal k v

-- THE STORES. One of fewer than eight words is too short: the call answers 255 and changes nothing.
abbrev pub short : ℕ
short = 255

abbrev pub fits : List ℕ → Bool
fits out = not (ltb (length out) 8)

abbrev pub answered : Bool → Told → ℕ
answered ok t = pick ok t.number short

abbrev pub written : Bool → List ℕ → Told → List ℕ
written ok out t = pick ok (sets out 0 t.words) out

-- A READER as sixteen words: cluster size, cursor, previous LCN, current run (0 none, 1 on the disk, 2 a hole), its
-- size, its place, displacement, place, data size, and seven to spare.
abbrev pub both_fit : List ℕ → List ℕ → Bool
both_fit reader out = pick (ltb (length reader) 16) false (fits out)

abbrev pub run_kind : Place → ℕ
run_kind (disk p) = 1
run_kind hole = 2

abbrev pub current_kind : Current → ℕ
current_kind None = 0
current_kind (Some r) = run_kind r.place

abbrev pub current_size : Current → ℕ
current_size None = 0
current_size (Some r) = r.size

abbrev pub current_place : Current → ℕ
current_place None = 0
current_place (Some r) = position r.place

abbrev pub packed_as : ℕ → ℕ → ℕ → Held → List ℕ
packed_as kind size place h =
    let r = h.reader in
    let s = r.stand in
    h.cluster ∷ s.cursor ∷ s.lcn ∷ kind ∷ size ∷ place ∷ s.displacement ∷ r.place ∷ r.size
    ∷ 0 ∷ 0 ∷ 0 ∷ 0 ∷ 0 ∷ 0 ∷ 0 ∷ []

abbrev pub packed : Held → List ℕ
packed h =
    let c = h.reader.stand.current in
    packed_as (current_kind c) (current_size c) (current_place c) h

abbrev pub current_of : ℕ → ℕ → ℕ → Current
current_of k size place =
    pick (eqb k 0) None
    (pick (eqb k 1) (Some (record { size = size; place = disk place }))
    (Some (record { size = size; place = hole })))

unfoldable pub held_of : List ℕ → Held
held_of ws =
    record {
      cluster = get_or ws 0 0;
      reader = record {
        stand = record {
          cursor = get_or ws 1 0;
          lcn = get_or ws 2 0;
          current = current_of (get_or ws 3 0) (get_or ws 4 0) (get_or ws 5 0);
          displacement = get_or ws 6 0;
        };
        place = get_or ws 7 0;
        size = get_or ws 8 0;
      };
    }

-- A refusal leaves the words as they were.
abbrev pub reader_left : List ℕ → Answer Held → List ℕ
reader_left ws (given h) = sets ws 0 (packed h)
reader_left ws (refused k v) = ws

-- Where from: 0 the start, 1 the place, any other number the end.
abbrev pub from_of : ℕ → From
from_of n = pick (eqb n 0) from_start (pick (eqb n 1) from_place from_end)

-- THE PROMISES, of stores of any length. Each says of the number n that a call answers, and of what it leaves of each
-- store that it was lent (out', reader', ..), that they are what the definition's answer makes of them.
-- Any call: what is told, where the stores are long enough.
abbrev pub Tells : Told → Bool → List ℕ → ℕ → List ℕ → Type 0
Tells told fit out n out' = (n ≡ answered fit told) × (out' ≡ written fit out told)

-- A repair: also the record.
abbrev pub Mends : R → List ℕ → List ℕ → ℕ → List ℕ → List ℕ → Type 0
Mends x lent out n lent' out' =
    let fit = fits out in
    Tells (tell_repair x) fit out n out' × (lent' ≡ pick fit (record_left x) lent)

-- An opening or a seek: also the reader.
abbrev pub Keeps : Answer Held → List ℕ → List ℕ → ℕ → List ℕ → List ℕ → Type 0
Keeps x reader out n reader' out' =
    let fit = both_fit reader out in
    Tells (tell_held x) fit out n out' × (reader' ≡ pick fit (reader_left reader x) reader)

-- A read: also the reader and the store.
abbrev pub Reads : Answer Reading → List ℕ → List ℕ → List ℕ → ℕ → List ℕ → List ℕ → List ℕ → Type 0
Reads x reader store out n reader' store' out' =
    let fit = both_fit reader out in
    let c = counted (held_of reader).cluster x in
    Tells (tell_count c) fit out n out'
    × (reader' ≡ pick fit (reader_left reader (held c)) reader)
    × (store' ≡ pick fit (stored store x) store)

-- The reader and this crate's answers in the format's terms; no second answer is shown alike.
use Rattle.std.specs.Prelude.{ℕ, ◌≡◌, refl, List, [], ◌∷◌, Option, Some, None, Result, Ok, Err, option_map}
use Rattle.std.proofs.Common.{sym, ap, ◌∙◌}
use Rattle.format.specs.Listed.{Answer as G}
use Rattle.format.specs.Reader.{Current as K, Stand as S, From as F, Span as X, Turn as T, Position as Q}
use Rattle.format.specs.Calls.{Held, Count, position, kind}
use Rattle.refusal.specs.Refusals.{number, values, refusal_back, refusal_restored}
use Rattle.refusal.specs.declared.Refusal.{Refusal}
use Rattle.data_runs.specs.declared.Run.{Run}
use Rattle.data_runs.specs.declared.Place.{Place as P}
use Rattle.data_runs.specs.declared.Place.TheVariants.{Hole}
use Rattle.std.specs.Option.{unwrap_or}
use Rattle.data_runs.specs.Shown.{shown_place, shown_run, run_back, run_restored, further_on}
use Rattle.non_resident.specs.declared.Reader.{Reader}
use Rattle.non_resident.specs.declared.Whence.{Whence}
use Rattle.non_resident.specs.declared.Whence.TheVariants.{Start, Place, End}
use Rattle.non_resident.specs.declared.Reading.{Reading}
use Rattle.non_resident.specs.declared.stand.Stand.{Stand}
use Rattle.non_resident.specs.declared.span.Span.{Span}

-- THE READER, what a seek is given, and the answers.
abbrev pub shown_current : Option Run → K
shown_current current = option_map shown_run current

abbrev pub shown_stand : Stand → S
shown_stand s = record { cursor = s.cursor.at; lcn = s.cursor.lcn; current = shown_current s.current; displacement = s.displacement }

abbrev pub seen : Reader → Held
seen r = record { cluster = r.cluster; reader = record { stand = shown_stand r.stand; place = r.place; size = r.size } }

abbrev pub shown_from : Whence → F
shown_from Start = F.from_start
shown_from Place = F.from_place
shown_from End = F.from_end

abbrev pub shown_sought : Result Reader Refusal → G Held
shown_sought (Ok r) = G.given (seen r)
shown_sought (Err why) = G.refused (number why) (values why)

abbrev pub shown_reading : Reading → Count
shown_reading g = record { spans = g.spans; bytes = g.bytes; reader = seen g.reader }

abbrev pub shown_outcome : Result Reading Refusal → G Count
shown_outcome (Ok g) = G.given (shown_reading g)
shown_outcome (Err why) = G.refused (number why) (values why)

abbrev pub shown_position : Result (Option ℕ) Refusal → G Q
shown_position (Ok (Some p)) = G.given (Q.at_byte p)
shown_position (Ok None) = G.given Q.nowhere
shown_position (Err why) = G.refused (number why) (values why)

-- WHAT STANDS INSIDE THE CRATE ONLY.
abbrev pub shown_settled : Result Stand Refusal → G S
shown_settled (Ok s) = G.given (shown_stand s)
shown_settled (Err why) = G.refused (number why) (values why)

-- For private contracts alone: the place of a displacement in a run, a hole where there is none, or past 2^64 - 1.
abbrev pub place_at : Option Run → ℕ → P
place_at None d = Hole
place_at (Some r) d = unwrap_or (further_on r.place d) Hole

abbrev pub shown_span : Span → X
shown_span x = record { place = shown_place x.place; length = x.length }

abbrev pub shown_turn : Result (Option Span × Reader) Refusal → T
shown_turn (Ok (None, r)) = T.stops (seen r).reader
shown_turn (Ok (Some x, r)) = T.gives (shown_span x) (seen r).reader
shown_turn (Err why) = T.refuses (number why) (values why)

abbrev pub span_words : X → List ℕ
span_words x = position x.place ∷ x.length ∷ kind x.place ∷ []

-- NO SECOND ANSWER: each answer back from what is shown.
pub current_back : K → Option Run
current_back None = None
current_back (Some r) = Some (run_back r)

current_restored : (x : Option Run) → current_back (shown_current x) ≡ x
unfolding current_back
current_restored None = refl
current_restored (Some r) = rw (run_restored r)

pub reader_back : Held → Reader
reader_back h =
    let s = h.reader.stand in
    record { cluster = h.cluster; stand = record { cursor = record { at = s.cursor; lcn = s.lcn }; current = current_back s.current; displacement = s.displacement }; place = h.reader.place; size = h.reader.size }

pub reader_restored : (x : Reader) → reader_back (seen x) ≡ x
unfolding reader_back
reader_restored x = rw (current_restored x.stand.current)

sought_back : G Held → Result Reader Refusal
sought_back (G.given h) = Ok (reader_back h)
sought_back (G.refused k v) = Err (refusal_back k v)

sought_restored : (x : Result Reader Refusal) → sought_back (shown_sought x) ≡ x
unfolding sought_back
sought_restored (Ok r) = rw (reader_restored r)
sought_restored (Err why) = rw (refusal_restored why)

outcome_back : G Count → Result Reading Refusal
outcome_back (G.given g) = Ok (record { spans = g.spans; bytes = g.bytes; reader = reader_back g.reader })
outcome_back (G.refused k v) = Err (refusal_back k v)

outcome_restored : (x : Result Reading Refusal) → outcome_back (shown_outcome x) ≡ x
unfolding outcome_back
outcome_restored (Ok g) = rw (reader_restored g.reader)
outcome_restored (Err why) = rw (refusal_restored why)

position_back : G Q → Result (Option ℕ) Refusal
position_back (G.given (Q.at_byte p)) = Ok (Some p)
position_back (G.given Q.nowhere) = Ok None
position_back (G.refused k v) = Err (refusal_back k v)

position_restored : (x : Result (Option ℕ) Refusal) → position_back (shown_position x) ≡ x
unfolding position_back
position_restored (Ok (Some p)) = refl
position_restored (Ok None) = refl
position_restored (Err why) = rw (refusal_restored why)

pub reader_injective : (x y : Reader) → seen x ≡ seen y → x ≡ y
reader_injective x y e = sym (reader_restored x) ∙ ap reader_back e ∙ reader_restored y

pub sought_injective : (x y : Result Reader Refusal) → shown_sought x ≡ shown_sought y → x ≡ y
sought_injective x y e = sym (sought_restored x) ∙ ap sought_back e ∙ sought_restored y

pub outcome_injective : (x y : Result Reading Refusal) → shown_outcome x ≡ shown_outcome y → x ≡ y
outcome_injective x y e = sym (outcome_restored x) ∙ ap outcome_back e ∙ outcome_restored y

pub position_injective : (x y : Result (Option ℕ) Refusal) → shown_position x ≡ shown_position y → x ≡ y
position_injective x y e = sym (position_restored x) ∙ ap position_back e ∙ position_restored y

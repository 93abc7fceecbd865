-- The reader of a list: opening, seeking, reading. Over any decoder of runs, so with no cluster size; `Held` in Calls has all seven parts.
use Rattle.std.specs.Prelude.{ℕ, zero, suc, ◌+◌, ◌-◌, min, List, [], ◌∷◌, ltb, leb, eqb, ℤ, pos, ◌+ℤ◌, None, Option, Some}
use Rattle.format.specs.Pick.{pick}
use Rattle.format.specs.Number.{within_ℤ}
use Rattle.format.specs.Runs.{Place, Run, Step}
use Rattle.format.specs.Runs.Place.{disk, hole}
use Rattle.format.specs.Runs.Step.{over, found, faulty}
use Rattle.format.specs.Listed.{Answer, then, either, RunList, Listed, listed}
use Rattle.format.specs.Listed.Answer.{given, refused}
use Rattle.format.specs.Listed.Listed.{ends, run, breaks}

-- THE READER: where it stands in the list, its place in the stream, the data size.
abbrev pub Current : Type 0
Current = Option Run

pub record Stand : Type 0 where
  pub cursor : ℕ
  pub lcn : ℕ
  pub current : Current
  pub displacement : ℕ

pub record Reader : Type 0 where
  pub stand : Stand
  pub place : ℕ
  pub size : ℕ

-- At the list's start with nothing decoded; in front of a run that was fetched; at the list's length.
abbrev pub start : Stand
start = record { cursor = 0; lcn = 0; current = None; displacement = 0 }

abbrev pub entered : Run → ℕ → ℕ → Stand
entered r a l = record { cursor = a; lcn = l; current = Some r; displacement = 0 }

abbrev pub at_end : RunList → ℕ → Current → ℕ → Stand
at_end L l c d = record { cursor = L.fin; lcn = l; current = c; displacement = d }

-- What is left of the current run, nothing without one; the displacement moved.
unfoldable pub left_of : Current → ℕ → ℕ
left_of None d = 0
left_of (Some r) d = r.size - d

abbrev pub left : Stand → ℕ
left s = left_of s.current s.displacement

abbrev pub moved : Stand → ℕ → Stand
moved s n = record { cursor = s.cursor; lcn = s.lcn; current = s.current; displacement = s.displacement + n }

-- The next run is fetched. It is the current one if n is below its size; otherwise its size is taken off n and the next one fetched.
-- If there is none the current run becomes none.
unfoldable pub settle : RunList → Listed → ℕ → Answer Stand
settle L (ends l) n = given (at_end L l None 0)
settle L (run r a l rest) n = pick (ltb n r.size) (given (moved (entered r a l) n)) (settle L rest (n - r.size))
settle L (breaks k v) n = refused k v

-- Going forward by n: inside what is left of the current run, or what is left is taken off n and the next run fetched.
unfoldable pub forward : RunList → Stand → ℕ → Answer Stand
forward L s n = pick (ltb n (left s)) (given (moved s n)) (settle L (listed L s.cursor s.lcn) (n - left s))

abbrev pub at : ℕ → ℕ → Answer Stand → Answer Reader
at place size x = then x (λ s. given (record { stand = s; place = place; size = size }))

-- OPENING decodes the first run.
unfoldable pub opened : RunList → ℕ → Answer Reader
opened L size = at 0 size (forward L start 0)

-- SEEK to a target: equal to the place changes nothing, behind it rewinds and goes forward, ahead of it goes forward.
unfoldable pub seek_to : RunList → Reader → ℕ → Answer Reader
seek_to L r t =
    pick (eqb t r.place) (given r)
    (at t r.size (pick (ltb t r.place) (forward L start t) (forward L r.stand (t - r.place))))

-- From the start, the place or the end, by an integer: a u64 or an i64. A target below 0 or above 2^64 - 1 is refusal 20.
pub data From : Type 0 where
  from_start : From
  from_place : From
  from_end : From

unfoldable pub base : ℕ → ℕ → From → ℕ
base place size from_start = 0
base place size from_place = place
base place size from_end = size

abbrev pub in_range : Option ℕ → Answer ℕ
in_range (Some t) = given t
in_range None = refused 20 []

unfoldable pub target : ℕ → ℤ → Answer ℕ
target b z = in_range (within_ℤ (pos b +ℤ z))

unfoldable pub seek : RunList → Reader → From → ℤ → Answer Reader
seek L r f z = then (target (base r.place r.size f) z) (seek_to L r)

-- READ: the spans, how many bytes they are, the reader afterwards.
pub record Span : Type 0 where
  pub place : Place
  pub length : ℕ

pub record Reading : Type 0 where
  pub spans : List Span
  pub bytes : ℕ
  pub reader : Reader

-- The place of the displacement in the current run.
unfoldable pub further : Place → ℕ → Place
further (disk d) i = disk (d + i)
further hole i = hole

unfoldable pub here : Current → ℕ → Place
here None d = hole
here (Some r) d = further r.place d

abbrev pub nothing : Reader → Reading
nothing r = record { spans = []; bytes = 0; reader = r }

abbrev pub before : Span → Reading → Reading
before x g = record { spans = x ∷ g.spans; bytes = x.length + g.bytes; reader = g.reader }

-- What comes next of a read: it stops, it gives a span, or the run that it needs is refused.
pub data Turn : Type 0 where
  stops : Reader → Turn
  gives : Span → Reader → Turn
  refuses : ℕ → List ℤ → Turn

-- A span of the run where s stands: the least of the three remainders, w, run and data.
unfoldable pub give : ℕ → Reader → Stand → Turn
give w r s =
    let n = min w (min (left s) (r.size - r.place)) in
    gives (record { place = here s.current s.displacement; length = n }) (record { stand = moved s n; place = r.place + n; size = r.size })

-- The next run is fetched. List over is a stop, with the cursor at the list's length and the current run kept.
unfoldable pub fetch : RunList → ℕ → Reader → Step → Turn
fetch L w r over = stops (record { stand = at_end L r.stand.lcn r.stand.current r.stand.displacement; place = r.place; size = r.size })
fetch L w r (found x a l) = give w r (entered x a l)
fetch L w r (faulty k v) = refuses k v

-- It stops if w is reached or the place is at or past the data size; if the current run is none or used up it fetches the next.
unfoldable pub turn : RunList → ℕ → Reader → Turn
turn L w r =
    pick (eqb w 0) (stops r)
    (pick (leb r.size r.place) (stops r)
    (pick (ltb 0 (left r.stand)) (give w r r.stand)
    (fetch L w r (L.step r.stand.cursor r.stand.lcn))))

-- A refused run refuses the read; after a span it is a stop.
unfoldable pub follow : (ℕ → Reader → Answer Reading) → ℕ → Turn → Answer Reading
follow rest w (stops r) = given (nothing r)
follow rest w (gives x r) = given (before x (either (rest (w - x.length) r) (λ g. g) (nothing r)))
follow rest w (refuses k v) = refused k v

-- Of w bytes, with room for so many spans.
unfoldable pub read : RunList → ℕ → ℕ → Reader → Answer Reading
read L zero w r = given (nothing r)
read L (suc room) w r = follow (read L room) w (turn L w r)

-- DATA POSITION: run place plus displacement, or none in a hole or without a run.
pub data Position : Type 0 where
  at_byte : ℕ → Position
  nowhere : Position

abbrev pub position_of : Place → Position
position_of (disk p) = at_byte p
position_of hole = nowhere

abbrev pub data_position : Reader → Position
data_position r = position_of (here r.stand.current r.stand.displacement)

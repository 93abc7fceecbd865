-- The reader's calls as the scope has them: what is unsound (21), opening, seeking, reading into a store, data position. The list comes
-- with each call as its bytes.
use Rattle.std.specs.Prelude.{ℕ, ◌/◌, Bool, true, false, not, List, [], ◌∷◌, ◌++◌, length, drop, ltb, eqb, ℤ, None, Some}
use Rattle.format.specs.Pick.{pick}
use Rattle.format.specs.Number.{cluster_sound}
use Rattle.format.specs.Runs.{Place, ends}
use Rattle.format.specs.Runs.Place.{disk, hole}
use Rattle.format.specs.Listed.{Answer, then, run_list}
use Rattle.format.specs.Listed.Answer.{given, refused}
use Rattle.format.specs.Reader.{Current, Reader, opened, From, seek, Span, Reading, read, Position, data_position}

-- THE READER between calls, in seven parts: its cluster size; and the reader of a list, which is cursor, previous LCN, current run and
-- displacement (its stand), place and data size.
pub record Held : Type 0 where
  pub cluster : ℕ
  pub reader : Reader

abbrev pub hold : ℕ → Answer Reader → Answer Held
hold cluster x = then x (λ r. given (record { cluster = cluster; reader = r }))

-- UNSOUND is: a cluster size not a power of two from 512 to 2,097,152; a cursor past the list; a displacement over the run's size, or not
-- 0 without a run; a disk run that breaks rule 19. Without a list the cursor is skipped.
unfoldable pub place_sound : Place → ℕ → Bool
place_sound (disk p) size = ends p size
place_sound hole size = true

unfoldable pub current_sound : Current → ℕ → Bool
current_sound None d = eqb d 0
current_sound (Some r) d = pick (ltb r.size d) false (place_sound r.place r.size)

unfoldable pub sound : Held → Bool
sound h = pick (not (cluster_sound h.cluster)) false (current_sound h.reader.stand.current h.reader.stand.displacement)

unfoldable pub sound_in : ℕ → Held → Bool
sound_in end h = pick (ltb end h.reader.stand.cursor) false (sound h)

-- OPEN: 21, then runs.
unfoldable pub opening : ℕ → List ℕ → ℕ → Answer Held
opening cluster s size = pick (not (cluster_sound cluster)) (refused 21 []) (hold cluster (opened (run_list cluster s) size))

-- SEEK: 21, then 20, then runs.
unfoldable pub seeking : List ℕ → Held → From → ℤ → Answer Held
seeking s h f z = pick (not (sound_in (length s) h)) (refused 21 []) (hold h.cluster (seek (run_list h.cluster s) h.reader f z))

-- READ: 21, then runs. Room is the store's length / 3, rounded down; the answer is span count, byte count and reader.
unfoldable pub reading : List ℕ → Held → ℕ → List ℕ → Answer Reading
reading s h w store = pick (not (sound_in (length s) h)) (refused 21 []) (read (run_list h.cluster s) (length store / 3) w h.reader)

pub record Count : Type 0 where
  pub spans : ℕ
  pub bytes : ℕ
  pub reader : Held

abbrev pub counted : ℕ → Answer Reading → Answer Count
counted cluster x = then x (λ g. given (record { spans = length g.spans; bytes = g.bytes; reader = record { cluster = cluster; reader = g.reader } }))

-- The reader that a read gives; and what a call leaves of a reader that it was lent: the new one, or the old one where it is refused.
abbrev pub held : Answer Count → Answer Held
held x = then x (λ c. given c.reader)

abbrev pub leaves : Held → Answer Held → Held
leaves old (given h) = h
leaves old (refused k v) = old

-- Three words a span: position (0 for a hole), length, kind (1 disk, 0 hole). Words past the spans keep their values.
abbrev pub position : Place → ℕ
position (disk p) = p
position hole = 0

abbrev pub kind : Place → ℕ
kind (disk p) = 1
kind hole = 0

unfoldable pub words : List Span → List ℕ
words [] = []
words (x ∷ xs) = position x.place ∷ x.length ∷ kind x.place ∷ words xs

abbrev pub stored : List ℕ → Answer Reading → List ℕ
stored store (given g) = words g.spans ++ drop (length (words g.spans)) store
stored store (refused k v) = store

-- DATA POSITION: 21, then run place plus displacement, or none.
unfoldable pub standing : Held → Answer Position
standing h = pick (not (sound h)) (refused 21 []) (given (data_position h.reader))

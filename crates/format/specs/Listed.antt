-- A run list as a whole: its runs, and where each offset of the stream lies. Over any decoder of runs; `run_list` is the real one.
use Rattle.std.specs.Prelude.{ℕ, zero, suc, ◌+◌, ◌-◌, ◌<◌, ◌≤◌, ◌≡◌, Bool, not, List, [], length, ltb, leb, ℤ}
use Rattle.format.specs.Pick.{pick}
use Rattle.format.specs.Number.{cluster_sound}
use Rattle.format.specs.Runs.{Place, Run, Step, step}
use Rattle.format.specs.Runs.Place.{disk, hole}
use Rattle.format.specs.Runs.Step.{over, found, faulty}

-- An answer, or a refusal: its number and its values.
pub data Answer (A : Type 0) : Type 0 where
  given : A → Answer A
  refused : ℕ → List ℤ → Answer A

-- What follows an answer; what is made of it, or else `y`.
abbrev pub then : {A B : Type 0} → Answer A → (A → Answer B) → Answer B
then (given a) f = f a
then (refused k v) f = refused k v

abbrev pub either : {A B : Type 0} → Answer A → (A → B) → B → B
either (given a) f y = f a
either (refused k v) f y = y

-- What holds of an answer: no refusal, and so; so, unless it is a refusal.
abbrev pub Gives : {A : Type 0} → (A → Type 0) → Answer A → Type 0
Gives P (given a) = P a
Gives P (refused k v) = ⊥

abbrev pub IfGiven : {A : Type 0} → (A → Type 0) → Answer A → Type 0
IfGiven P (given a) = P a
IfGiven P (refused k v) = Unit

-- A list as it is lent with each call: what is decoded at a cursor after an LCN, and the list's length.
pub record RunList : Type 0 where
  pub step : ℕ → ℕ → Step
  pub fin : ℕ

abbrev pub run_list : ℕ → List ℕ → RunList
run_list cluster s = record { step = step cluster s; fin = length s }

-- THE RUNS from a cursor on, each with the cursor and the LCN behind it, to the list's end with the LCN there, or to a refused run.
-- The recursion is on fuel: a run takes bytes of the list, so those left are enough, and the law `listed_rule` has no fuel in it.
pub data Listed : Type 0 where
  ends : ℕ → Listed
  run : Run → ℕ → ℕ → Listed → Listed
  breaks : ℕ → List ℤ → Listed

unfoldable pub unroll : Step → ℕ → (ℕ → ℕ → Listed) → Listed
unroll over l rest = ends l
unroll (found r a l') l rest = run r a l' (rest a l')
unroll (faulty k v) l rest = breaks k v

unfoldable pub listed_by : RunList → ℕ → ℕ → ℕ → Listed
listed_by L zero a l = ends l
listed_by L (suc f) a l = unroll (L.step a l) l (listed_by L f)

unfoldable pub listed : RunList → ℕ → ℕ → Listed
listed L a l = listed_by L (suc (L.fin - a)) a l

abbrev pub list : RunList → Listed
list L = listed L 0 0

-- How many runs, how many bytes they cover, and that the list decodes to its end.
unfoldable pub runs : Listed → ℕ
runs (ends l) = 0
runs (run r a l rest) = suc (runs rest)
runs (breaks k v) = 0

unfoldable pub covered : Listed → ℕ
covered (ends l) = 0
covered (run r a l rest) = r.size + covered rest
covered (breaks k v) = 0

abbrev pub ToItsEnd : Listed → Type 0
ToItsEnd (ends l) = Unit
ToItsEnd (run r a l rest) = ToItsEnd rest
ToItsEnd (breaks k v) = ⊥

-- Where a byte of the stream lies: disk position, hole, not covered; or behind a refused run.
pub data Where : Type 0 where
  position : ℕ → Where
  in_hole : Where
  not_covered : Where
  unknown : ℕ → List ℤ → Where

unfoldable pub byte : Place → ℕ → Where
byte (disk d) i = position (d + i)
byte hole i = in_hole

-- THE LOOKUP RULE: an offset belongs to the first run if it is below that run's size, otherwise to the rest of the list with the size
-- taken off.
unfoldable pub lookup : Listed → ℕ → Where
lookup (ends l) o = not_covered
lookup (run r a l rest) o = pick (ltb o r.size) (byte r.place o) (lookup rest (o - r.size))
lookup (breaks k v) o = unknown k v

-- The rule for a lookup list's length: up to 4,096 bytes. The public call: 21, then 22, then runs.
unfoldable pub list_fits : ℕ → Bool
list_fits n = leb n 4096

unfoldable pub looked_up : ℕ → List ℕ → ℕ → Where
looked_up cluster s o =
    pick (not (cluster_sound cluster)) (unknown 21 [])
    (pick (not (list_fits (length s))) (unknown 22 [])
    (lookup (list (run_list cluster s)) o))

-- What is known of a decoder: a run isn't empty, it takes two bytes of the list or more, and at the list's length the list is over.
pub record Lawful (L : RunList) : Type 0 where
  pub sized : (a l : ℕ) (r : Run) (a' l' : ℕ) → L.step a l ≡ found r a' l' → 0 < r.size
  pub moves : (a l : ℕ) (r : Run) (a' l' : ℕ) → L.step a l ≡ found r a' l' → (a + 1 < a') × (a' ≤ L.fin)
  pub stops : (a l : ℕ) → L.fin ≤ a → L.step a l ≡ over

-- DEMAND 3 OF THE CODE: over what `Reader::open`, `Reader::seek` and `Reader::read` answer. Nothing is known of an
-- answer but that its call kept its contract (`Learnt` is that contract, as the compiler has it).
use Rattle.std.specs.Prelude.{ℕ, ◌+◌, ◌/◌, ◌≡◌, true, List, [], ◌∷◌, ◌++◌, length, drop, fold, ℤ, pos, Result, Ok, Err}
use Rattle.std.specs.Result.{result_unwrap_or, IsOkAnd}
use contract.Lifetimes.{Lfts}
use denote.Triple.Clauses.{AtExit}
use borrow.Fn.Kinds.{Dens, ended_of}
use Rattle.format.specs.Number.{cluster_sound}
use Rattle.format.specs.Listed.{Answer as G, either, run_list, list, ToItsEnd}
use Rattle.format.specs.Reader.{base, target, Reading as R}
use Rattle.format.specs.Calls.{counted, words}
use Rattle.format.specs.Demand3.{Named}
use Rattle.refusal.specs.declared.Refusal.{Refusal}
use Rattle.non_resident.specs.Shown.{shown_from, shown_outcome}
use Rattle.non_resident.specs.declared.Reader.{Reader}
use Rattle.non_resident.specs.declared.Reading.{Reading}
use Rattle.non_resident.specs.declared.Whence.{Whence}
use Rattle.non_resident.specs.declared.Whence.TheVariants.{Start}
use Rattle.non_resident.proofs.Reader.open.Reads as open-reads
use Rattle.non_resident.proofs.Reader.open.Kinds as open-kinds
use Rattle.non_resident.proofs.Reader.seek.Reads as seek-reads
use Rattle.non_resident.proofs.Reader.seek.Kinds as seek-kinds
use Rattle.non_resident.proofs.Reader.read.Reads as read-reads
use Rattle.non_resident.proofs.Reader.read.Kinds as read-kinds

-- A CALL ANSWERED x, lent a list of these bytes (and a read a store of words, which it left as `left`).
pub record OpenAnswers (bytes : List ℕ) (cluster size : ℕ) (x : Result Reader Refusal) : Type 0 where
  pub κs : Lfts 1
  pub args : Dens κs open-kinds.ps
  pub exit : AtExit (ended_of 1 open-kinds.ps open-kinds.r) κs
  pub list_is : args.0.now ≡ bytes
  pub cluster_is : args.1.0 ≡ cluster
  pub size_is : args.1.1.0 ≡ size
  pub kept : open-reads.Learnt κs args x exit

pub record SeekAnswers (bytes : List ℕ) (reader : Reader) (from : Whence) (by : ℤ) (x : Result Reader Refusal)
    : Type 0 where
  pub κs : Lfts 1
  pub args : Dens κs seek-kinds.ps
  pub exit : AtExit (ended_of 1 seek-kinds.ps seek-kinds.r) κs
  pub self_is : args.0 ≡ reader
  pub list_is : args.1.0.now ≡ bytes
  pub from_is : args.1.1.0 ≡ from
  pub by_is : args.1.1.1.0 ≡ by
  pub kept : seek-reads.Learnt κs args x exit

pub record ReadAnswers
    (bytes : List ℕ) (reader : Reader) (wanted : ℕ) (store : List ℕ) (x : Result Reading Refusal) (left : List ℕ)
    : Type 0 where
  pub κs : Lfts 2
  pub args : Dens κs read-kinds.ps
  pub exit : AtExit (ended_of 2 read-kinds.ps read-kinds.r) κs
  pub self_is : args.0 ≡ reader
  pub list_is : args.1.0.now ≡ bytes
  pub wanted_is : args.1.1.0 ≡ wanted
  pub store_is : args.1.1.1.0.now ≡ store
  pub left_is : exit.1.1.1.0.now ≡ left
  pub kept : read-reads.Learnt κs args x exit

-- A HISTORY of the code: calls with their answers, each on the reader that the one before left.
pub data Answered : Type 0 where
  sought : Whence → ℤ → Result Reader Refusal → Answered
  given : ℕ → List ℕ → Result Reading Refusal → List ℕ → Answered

-- the reader that a call leaves: the answer's, or the one before where it is refused
abbrev pub got : Reader → Result Reading Refusal → Reader
got r (Ok reading) = reading.reader
got r (Err why) = r

abbrev pub next : Reader → Answered → Reader
next r (sought from by x) = result_unwrap_or x r
next r (given wanted store x left) = got r x

abbrev pub Answers : List ℕ → Reader → Answered → Type 0
Answers bytes r (sought from by x) = SeekAnswers bytes r from by x
Answers bytes r (given wanted store x left) = ReadAnswers bytes r wanted store x left

abbrev pub Ran : List ℕ → Reader → List Answered → Type 0
Ran bytes r [] = Unit
Ran bytes r (c ∷ cs) = Answers bytes r c × Ran bytes (next r c) cs

-- Its place, of a stream of so many bytes: an accepted seek puts it at its target, a read adds its byte count, a
-- refusal adds nothing.
abbrev pub sought_place : ℕ → ℕ → Whence → ℤ → Result Reader Refusal → ℕ
sought_place size p from by (Ok r) = either (target (base p size (shown_from from)) by) (λ t. t) p
sought_place size p from by (Err why) = p

abbrev pub read_place : ℕ → Result Reading Refusal → ℕ
read_place p (Ok reading) = p + reading.bytes
read_place p (Err why) = p

abbrev pub place_after : ℕ → ℕ → Answered → ℕ
place_after size p (sought from by x) = sought_place size p from by x
place_after size p (given wanted store x left) = read_place p x

-- WHAT HOLDS of a reader r at the place p that its history gives; `new` is the newly opened one.
-- The answer x and the store `left` of a read say what `g` says, which names what the lookup rule names.
pub record Names
    (bytes : List ℕ) (cluster p size wanted : ℕ) (store : List ℕ) (x : Result Reading Refusal) (left : List ℕ)
    : Type 0 where
  pub g : R
  pub named : Named (run_list cluster bytes) p size wanted (length store / 3) g
  pub answer : shown_outcome x ≡ counted cluster (G.given g)
  pub store_is : left ≡ words g.spans ++ drop (length (words g.spans)) store

pub record Holds (bytes : List ℕ) (cluster size : ℕ) (new r : Reader) (p : ℕ) : Type 0 where
  pub parts : (r.cluster ≡ cluster) × (r.size ≡ size)
  pub at : r.place ≡ p
  pub read : (wanted : ℕ) (store : List ℕ) (x : Result Reading Refusal) (left : List ℕ)
      → ReadAnswers bytes r wanted store x left → Names bytes cluster p size wanted store x left
  pub seek : (from : Whence) (by : ℤ) (t : ℕ) → target (base p size (shown_from from)) by ≡ G.given t → (t ≡ p → ⊥)
      → (x y : Result Reader Refusal) → SeekAnswers bytes r from by x → SeekAnswers bytes new Start (pos t) y → x ≡ y
  pub goes : (from : Whence) (by : ℤ) (t : ℕ) → target (base p size (shown_from from)) by ≡ G.given t
      → (x : Result Reader Refusal) → SeekAnswers bytes r from by x → IsOkAnd x (λ reader. reader.place ≡ t)

-- A list that decodes to its end opens, and then, whatever the calls and whatever they answered.
abbrev pub AfterAll : List ℕ → ℕ → ℕ → Reader → Type 0
AfterAll bytes cluster size new =
    (cs : List Answered) → Ran bytes new cs
    → Holds bytes cluster size new (fold next new cs) (fold (place_after size) 0 cs)

abbrev pub Demand3OfCode : Type 0
Demand3OfCode =
    (bytes : List ℕ) (cluster size : ℕ) → cluster_sound cluster ≡ true → ToItsEnd (list (run_list cluster bytes))
    → (x : Result Reader Refusal) → OpenAnswers bytes cluster size x → IsOkAnd x (AfterAll bytes cluster size)

-- Demand 3 of the code, proved: each answered call is the definition's (by its contract), so a history of the code is
-- one of the definitions, and demand 3 of those says the rest.
use Rattle.std.specs.Prelude.{ℕ, ◌/◌, ◌≡◌, refl, List, [], ◌∷◌, length, map, fold, ℤ, pos, Result, Ok, Err}
use Rattle.std.specs.Result.{IsOkAnd}
use Rattle.std.proofs.Common.{sym, ap, subst, ◌∙◌}
use Rattle.format.specs.Listed.{Answer as G, Gives, run_list}
use Rattle.format.specs.Reader.{Reading as R}
use Rattle.format.specs.Calls.{Held, opening, seeking, reading, counted, stored}
use Rattle.format.specs.History.{Call, after, history}
use Rattle.format.specs.History.Call.{seeks, reads}
use Rattle.format.specs.Demand3.{Named, Demand3}
use Rattle.format.proofs.Demand3.{demand3}
use Rattle.refusal.specs.declared.Refusal.{Refusal}
use Rattle.non_resident.specs.Shown.{seen, shown_from, shown_sought, shown_outcome, sought_injective}
use Rattle.non_resident.specs.declared.Reader.{Reader}
use Rattle.non_resident.specs.declared.Reading.{Reading}
use Rattle.non_resident.specs.declared.Whence.{Whence}
use Rattle.non_resident.specs.declared.Whence.TheVariants.{Start}
use native.Mathlib.Omega.{arith}
use Rattle.demand3.specs.Linked.{OpenAnswers, SeekAnswers, ReadAnswers, Answered, next, Answers, Ran, place_after}
use Rattle.demand3.specs.Linked.{Names, Holds, AfterAll, Demand3OfCode}
use Rattle.demand3.specs.Linked.Answered.{sought, given}

-- WHAT A CONTRACT SAYS, of the arguments by name.
open_says : (s : List ℕ) (cluster size : ℕ) (x : Result Reader Refusal) → OpenAnswers s cluster size x
    → shown_sought x ≡ opening cluster s size
open_says s cluster size x h = h.kept ∙ rw (h.list_is, h.cluster_is, h.size_is)

seek_says : (s : List ℕ) (r : Reader) (from : Whence) (by : ℤ) (x : Result Reader Refusal) → SeekAnswers s r from by x
    → shown_sought x ≡ seeking s (seen r) (shown_from from) by
seek_says s r from by x h = h.kept ∙ rw (h.list_is, h.self_is, h.from_is, h.by_is)

read_says : (s : List ℕ) (r : Reader) (w : ℕ) (store : List ℕ) (x : Result Reading Refusal) (left : List ℕ)
    → ReadAnswers s r w store x left → shown_outcome x ≡ counted r.cluster (reading s (seen r) w store)
read_says s r w store x left h = h.kept.0 ∙ rw (h.list_is, h.self_is, h.wanted_is, h.store_is)

read_leaves : (s : List ℕ) (r : Reader) (w : ℕ) (store : List ℕ) (x : Result Reading Refusal) (left : List ℕ)
    → ReadAnswers s r w store x left → left ≡ stored store (reading s (seen r) w store)
read_leaves s r w store x left h =
    sym h.left_is ∙ h.kept.1 ∙ rw (h.list_is, h.self_is, h.wanted_is, h.store_is)

-- THE SAME HISTORY.
abbrev call : Answered → Call
call (sought from by x) = seeks (shown_from from) by
call (given w store x left) = reads w store

same_call : (s : List ℕ) (z : ℕ) (r : Reader) (p : ℕ) (c : Answered) → Answers s r c
    → after s z (seen r, p) (call c) ≡ (seen (next r c), place_after z p c)
unfolding after
same_call s z r p (sought from by x) h = grind (arith, seek_says s r from by x h)
same_call s z r p (given w store x left) h = grind (arith, read_says s r w store x left h)

same_history : (s : List ℕ) (z : ℕ) (r : Reader) (p : ℕ) (cs : List Answered) → Ran s r cs
    → history s z (seen r, p) (map call cs) ≡ (seen (fold next r cs), fold (place_after z) p cs)
unfolding history
same_history s z r p [] h = refl
same_history s z r p (c ∷ cs) h =
    ap (λ now. history s z now (map call cs)) (same_call s z r p c h.0)
    ∙ same_history s z (next r c) (place_after z p c) cs h.1

-- WHAT THE DEFINITIONS SAY of an answer, and of a reader with a history, said of the code's.
answers : (P : Held → Type 0) (Q : Reader → Type 0) → ((r : Reader) → P (seen r) → Q r)
    → (x : Result Reader Refusal) (y : G Held) → shown_sought x ≡ y → Gives P y → IsOkAnd x Q
answers P Q keeps (Ok r) y e h = keeps r (subst (Gives P) (sym e) h)
answers P Q keeps (Err why) y e h = subst (Gives P) (sym e) h

names : (s : List ℕ) (cluster p z w : ℕ) (store : List ℕ) (x : Result Reading Refusal) (left : List ℕ) (y : G R)
    → Gives (Named (run_list cluster s) p z w (length store / 3)) y
    → shown_outcome x ≡ counted cluster y → left ≡ stored store y → Names s cluster p z w store x left
names s cluster p z w store x left (G.given g) n e q = record { g = g; named = n; answer = e; store_is = q }
names s cluster p z w store x left (G.refused k v) n e q = absurd n

holds : (s : List ℕ) (cluster z : ℕ) (new r : Reader) (p : ℕ)
    → Demand3 cluster s z (seen new) (seen r) p → Holds s cluster z new r p
holds s cluster z new r p d = record {
  parts = d.parts;
  at = d.place;
  read = λ w store x left h.
      names s cluster p z w store x left _ (d.reads w store)
      (read_says s r w store x left h ∙ rw d.parts.0) (read_leaves s r w store x left h);
  seek = λ from by t e ne x y h k.
      sought_injective x y (seek_says s r from by x h ∙ d.seeks (shown_from from) by t e ne
      ∙ sym (seek_says s new Start (pos t) y k));
  goes = λ from by t e x h. answers _ _ (λ r k. k) x _ (seek_says s r from by x h) (d.goes (shown_from from) by t e);
}

after_all : (s : List ℕ) (cluster z : ℕ) (new : Reader)
    → ((cs : List Call) → let h = history s z (seen new, 0) cs in Demand3 cluster s z (seen new) h.0 h.1)
    → AfterAll s cluster z new
after_all s cluster z new d cs ran =
    let same = same_history s z new 0 cs ran in
    holds s cluster z new _ _ (subst (λ (h : Held × ℕ). Demand3 cluster s z (seen new) h.0 h.1) same (d (map call cs)))

pub demand3_of_code : Demand3OfCode
demand3_of_code s cluster z c end x h =
    answers _ _ (after_all s cluster z) x _ (open_says s cluster z x h) (demand3 cluster s c end z)

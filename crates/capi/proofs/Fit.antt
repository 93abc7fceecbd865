-- Whether the stores of a call are long enough, by the code's tests; and what a call leaves of a whole store whose first
-- words it writes.
use Rattle.std.proofs.Common.{ℕ, ◌≡◌, ◌<◌, ◌≤◌, ◌++◌, true, false, List, length, take, drop}
use Rattle.std.proofs.Common.{refl, sym, ◌∙◌, arith, zero-add, take-append-drop, to_z-of_z}
use Rattle.std.proofs.lemmas.List.{get_or-take}
use Rattle.std.proofs.lemmas.List.Edits.{sets, sets-eq}
use borrow.Author.Tests.{lt-ltb, le-ltb}
use Rattle.format.specs.Pick.{pick_yes, pick_no}
use Rattle.format.specs.Listed.{Answer}
use Rattle.format.specs.Listed.Answer.{given, refused}
use Rattle.format.specs.Calls.{Held}
use Rattle.capi.specs.Words.{fits, both_fit, packed, held_of, reader_left}
use Rattle.capi.specs.Shown.{words_left}

pub fits_yes : (out : List ℕ) → 8 ≤ length out → fits out ≡ true
fits_yes out h = rw (le-ltb (length out) 8 h)

pub fits_no : (out : List ℕ) → length out < 8 → fits out ≡ false
fits_no out h = rw (lt-ltb (length out) 8 h)

pub reader_short : (reader out : List ℕ) → length reader < 16 → both_fit reader out ≡ false
reader_short reader out h = pick_yes _ _ (lt-ltb (length reader) 16 h)

pub reader_long : (reader out : List ℕ) → 16 ≤ length reader → both_fit reader out ≡ fits out
reader_long reader out h = pick_no _ _ (le-ltb (length reader) 16 h)

-- words put over the first n of a store
put_first : (n : ℕ) (words store : List ℕ) → length words ≡ n → n ≤ length store
    → sets store 0 words ≡ words ++ drop n store
put_first n words store e h = sets-eq words store 0 (omega (arith, e, h)) ∙ rw (zero-add (length words), e)

pub put_eight : (words out : List ℕ) → length words ≡ 8 → 8 ≤ length out → sets out 0 words ≡ words ++ drop 8 out
put_eight = put_first 8

-- a reader is its first sixteen words, and what an answer leaves of them, with what stands behind, is what it leaves of all
pub held_front : (reader : List ℕ) → 16 ≤ length reader → held_of (take 16 reader) ≡ held_of reader
unfolding held_of
held_front reader h = grind (arith, get_or-take)

pub left_of : (reader : List ℕ) (x : Answer Held) → 16 ≤ length reader
    → words_left (take 16 reader) x ++ drop 16 reader ≡ reader_left reader x
left_of reader (given h) e = sym (put_first 16 (packed h) reader refl e)
left_of reader (refused k v) e = take-append-drop 16 reader

-- for a call that writes its answer alone; for one on a reader
pub ruleset out_only = (fits_yes, fits_no, put_eight)

pub ruleset with_reader = (out_only, reader_short, reader_long, held_front, left_of, to_z-of_z)

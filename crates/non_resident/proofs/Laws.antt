-- What the loop that lays spans keeps: the words of the spans so far stand in front of the store as it was, and what is
-- left of the read, put behind those spans, is the whole read.
use Rattle.std.specs.Prelude.{Some, None, Option, option_map, ◌^◌}
use Prim.Native.Nat.{ℕ, zero, suc, ◌+◌, ◌-◌, ◌*◌, ◌<◌, ◌≤◌}
use mathlib.Core.Path.{◌≡◌, refl, sym, ap, subst, ◌∙◌}
use mathlib.Core.Bool.{true}
use mathlib.Core.List.{List, [], ◌∷◌, ◌++◌, append_assoc, append-nil}
use native.Mathlib.Omega.{arith}
use native.Mathlib.Nat.{add-zero, zero-add, add_assoc, sub-zero}
use lib.ListN.{length, take, drop, length-append, length-drop}
use lib.IntN.{ℤ}
use lib.Seq.{sets, sets-eq, take_at, drop_at, drop-drop}
use Rattle.format.specs.Runs.{Run, Step, Inside}
use borrow.Author.Tests.{lt-ltb}
use Rattle.format.specs.Pick.{pick_yes, pick_no, pick_true}
use Rattle.std.specs.Option.{unwrap_or}
use Rattle.format.specs.Reader.Position.{at_byte, nowhere}
use Rattle.non_resident.specs.declared.Reader.{Reader as ReaderOf}
use Rattle.std.proofs.Common.{not}
use Rattle.format.specs.Number.{within, cluster_sound}
use Rattle.data_runs.specs.declared.Run.{Run as RunOf}
use Rattle.data_runs.specs.declared.Place.{Place as PlaceOf}
use Rattle.data_runs.specs.declared.Place.TheVariants.{Disk, Hole}
use Rattle.data_runs.specs.Shown.{shown_place, shown_run, further_on}
use Rattle.format.specs.Runs.Step.{over, found, faulty}
use Rattle.format.specs.Listed.{Answer, either, RunList, run_list}
use Rattle.format.specs.Listed.Answer.{given, refused}
use borrow.Rule.Slice.PartMut.{put_mid}
use Rattle.format.specs.Reader.{position_of, here, further, Stand, Reader, Span, Reading, nothing, before, Turn, give, fetch, turn, follow, read}
use Rattle.format.specs.Reader.Turn.{stops, gives, refuses}
use Rattle.format.specs.Calls.{Held, sound, standing, current_sound, Count, counted, words, stored}
use Rattle.format.specs.History.{total}
use Rattle.format.proofs.Runs.{inside_less, lawful, found_inside}
use Rattle.format.proofs.Reader.{turn_all}
use Rattle.format.proofs.Sound.{fits_sound, Good, current_fits, GoodTurn, turn_good}
use Rattle.non_resident.specs.Shown.{seen, span_words, place_at}

-- the displacement of a sound run fits behind its place
pub run_fits : (r : Run) (d : ℕ) → current_sound (Some r) d ≡ true → Inside r.place d
run_fits r d e = let h = current_fits (Some r) d e in inside_less r.place r.size d h.1 h.0

-- a run that was just fetched is sound in front
pub entered_sound : (run : RunOf) → Inside (shown_place run.place) run.size → current_sound (Some (shown_run run)) 0 ≡ true
entered_sound run h = fits_sound (Some (shown_run run)) 0 (omega arith, h)

-- the code's place of a sound displacement is the definition's
pub here_sound : (current : Option RunOf) (d : ℕ) → current_sound (option_map shown_run current) d ≡ true → shown_place (place_at current d) ≡ here (option_map shown_run current) d
unfolding here further within
here_sound None d e = refl
here_sound (Some r) d e = go r.place (run_fits (shown_run r) d e)
  where
    go : (place : PlaceOf) → Inside (shown_place place) d → shown_place (unwrap_or (further_on place d) Hole) ≡ further (shown_place place) d
    go (Disk p) h = rw (pick_yes (Some (p + d)) None (lt-ltb (p + d) (2 ^ 64) h)) refl
    go Hole h = refl

-- the place of a sound displacement is no sum that is too large
pub no_end : (r : RunOf) (d p : ℕ) → current_sound (Some (shown_run r)) d ≡ true → r.place ≡ Disk p → p + d < 2 ^ 64
no_end r d p e h = subst (λ x. Inside (shown_place x) d) h (run_fits (shown_run r) d e)

pub stands : (r : ReaderOf) → sound (seen r) ≡ true → current_sound (option_map shown_run r.stand.current) r.stand.displacement ≡ true
unfolding sound
stands r e = (pick_true (not (cluster_sound r.cluster)) _ e).1

-- data position of a sound reader, by the code's place
position_rule : (r : ReaderOf) → sound (seen r) ≡ true → given (position_of (shown_place (place_at r.stand.current r.stand.displacement))) ≡ standing (seen r)
unfolding sound standing
position_rule r e =
    let fits = (pick_true (not (cluster_sound r.cluster)) _ e).1 in
    ap (λ p. given (position_of p)) (here_sound r.stand.current r.stand.displacement fits) ∙ sym (pick_no _ _ (ap not e))

pub on_disk : (r : ReaderOf) (n : ℕ) → sound (seen r) ≡ true → place_at r.stand.current r.stand.displacement ≡ Disk n → given (at_byte n) ≡ standing (seen r)
on_disk r n e h = ap (λ p. given (position_of (shown_place p))) (sym h) ∙ position_rule r e

pub in_hole : (r : ReaderOf) → sound (seen r) ≡ true → place_at r.stand.current r.stand.displacement ≡ Hole → given nowhere ≡ standing (seen r)
in_hole r e h = ap (λ p. given (position_of (shown_place p))) (sym h) ∙ position_rule r e

-- SPANS AND THEIR WORDS, one more.
words_length : (xs : List Span) → length (words xs) ≡ 3 * length xs
unfolding words
words_length [] = refl
words_length (x ∷ xs) = omega (arith, words_length xs)

words_more : (xs : List Span) (x : Span) → words (xs ++ x ∷ []) ≡ words xs ++ span_words x
unfolding words
words_more [] x = refl
words_more (y ∷ ys) x = rw (words_more ys x)

total_more : (xs : List Span) (x : Span) → total (xs ++ x ∷ []) ≡ total xs + x.length
unfolding total
total_more [] x = omega arith
total_more (y ∷ ys) x = omega (arith, total_more ys x)

-- three words put into the part of a store that they fill
pub part_put : (store three : List ℕ) (at : ℕ) → length three ≡ 3 → at + 3 ≤ length store → put_mid at (at + 3 - at) store three ≡ sets store at three
part_put store three at e h =
    let k : at + 3 - at ≡ 3 = omega arith in
    rw k (sym (sets-eq three store at (omega (arith, e)) ∙ rw (e, ← (drop-drop 3 at store)) (append_assoc (take at store) three (drop 3 (drop at store)))))

-- Three words behind the first ones.
store_more : (front store three : List ℕ) (n : ℕ) → length front ≡ n → length three ≡ 3 → n + 3 ≤ length store
    → sets (front ++ drop n store) n three ≡ (front ++ three) ++ drop (n + 3) store
store_more front store three n e e₃ h =
    let all = front ++ drop n store in
    let len : length all ≡ length store = length-append front (drop n store) ∙ rw (e, length-drop n store) (omega arith) in
    let t : take n all ≡ front = take_at front (drop n store) n e in
    let d : drop (n + 3) all ≡ drop (n + 3) store = sym (drop-drop 3 n all) ∙ ap (drop 3) (drop_at front (drop n store) n e) ∙ drop-drop 3 n store in
    sets-eq three all n (omega arith) ∙ rw (t, e₃, d)

-- WHAT IS LEFT behind the spans so far. A refusal there is a stop, if there are any.
pub joined : List Span → Reader → Answer Reading → Answer Reading
joined [] r x = x
joined (y ∷ ys) r x =
    let g = either x (λ g. g) (nothing r) in
    given (record { spans = (y ∷ ys) ++ g.spans; bytes = total (y ∷ ys) + g.bytes; reader = g.reader })

abbrev laid : List Span → Reader → Answer Reading
laid xs r = given (record { spans = xs; bytes = total xs; reader = r })

joined_nothing : (xs : List Span) (r r' : Reader) → joined xs r (given (nothing r')) ≡ laid xs r'
unfolding joined total
joined_nothing [] r r' = refl
joined_nothing (y ∷ ys) r r' = rw (append-nil ys, add-zero)

joined_refused : (xs : List Span) (r : Reader) (k : ℕ) (v : List ℤ) → 0 < length xs → joined xs r (refused k v) ≡ laid xs r
unfolding joined total
joined_refused [] r k v h = absurd (omega arith)
joined_refused (y ∷ ys) r k v h = rw (append-nil ys, add-zero)

joined_more : (xs : List Span) (x : Span) (r r' : Reader) (y : Answer Reading) → joined xs r (given (before x (either y (λ g. g) (nothing r')))) ≡ joined (xs ++ x ∷ []) r' y
unfolding joined total
joined_more [] x r r' y = rw add-zero
joined_more (z ∷ zs) x r r' y = rw (append_assoc zs (x ∷ []), total_more zs x) (simp add_assoc)

none_laid : (xs : List Span) → length xs ≡ 0 → xs ≡ []
none_laid [] e = refl
none_laid (x ∷ xs) e = absurd (omega arith)

-- A span is no longer than what was asked.
abbrev Short : ℕ → Turn → Type 0
Short w (stops r) = Unit {0}
Short w (gives x r) = x.length ≤ w
Short w (refuses k v) = Unit {0}

give_short : (w : ℕ) (r : Reader) (s : Stand) → Short w (give w r s)
unfolding give
give_short w r s = omega arith

fetch_short : (L : RunList) (w : ℕ) (r : Reader) (x : Step) → Short w (fetch L w r x)
unfolding fetch
fetch_short L w r over = tt
fetch_short L w r (found x a l) = give_short w r _
fetch_short L w r (faulty k v) = tt

turn_short : (L : RunList) (w : ℕ) (r : Reader) → Short w (turn L w r)
turn_short L w r =
    turn_all L (Short w) w r (λ _. tt) (λ _ _ _. give_short w r r.stand)
    (λ _ _ _. fetch_short L w r (L.step r.stand.cursor r.stand.lcn))

read_turn : (L : RunList) (room w : ℕ) (r : Reader) (t : Turn) → 0 < room → turn L w r ≡ t → read L room w r ≡ follow (read L (room - 1)) w t
unfolding read
read_turn L zero w r t h e = absurd (omega arith)
read_turn L (suc room) w r t h e = let q : suc room - 1 ≡ room = omega arith in rw (e, q)

read_full : (L : RunList) (room w : ℕ) (r : Reader) → room ≡ 0 → read L room w r ≡ given (nothing r)
unfolding read
read_full L room w r e = rw e

-- THE INVARIANT: k spans are laid, `rest` bytes are still asked, and the reader h reads on.
pub record Laid (L : RunList) (cluster : ℕ) (store₀ : List ℕ) (room w : ℕ) (r₀ : Reader) (store : List ℕ) (h : Held) (k rest : ℕ) : Type 0 where
  pub full : 0 < cluster
  pub done : List Span
  pub count : length done ≡ k
  pub few : k ≤ room
  pub enough : room * 3 ≤ length store₀
  pub store_is : store ≡ words done ++ drop (3 * k) store₀
  pub bytes : total done + rest ≡ w
  pub whole : read L room w r₀ ≡ joined done h.reader (read L (room - k) rest h.reader)
  pub cluster_is : h.cluster ≡ cluster
  pub sound : Good L.fin h.reader.stand

pub laid_none : (L : RunList) (store : List ℕ) (room w : ℕ) (h : Held) → room * 3 ≤ length store → 0 < h.cluster → Good L.fin h.reader.stand → Laid L h.cluster store room w h.reader store h 0 w
unfolding joined words total
laid_none L store room w h e f g = record { full = f; done = []; count = refl; few = omega arith; enough = e; store_is = refl; bytes = zero-add w; whole = rw (sub-zero room); cluster_is = refl; sound = g }

module _ (list : List ℕ) {cluster : ℕ} {store₀ : List ℕ} {room w : ℕ} {r₀ : Reader} {store : List ℕ} {h : Held} {k rest : ℕ}
    (i : Laid (run_list cluster list) cluster store₀ room w r₀ store h k rest) where
  abbrev L : RunList
  L = run_list cluster list

  pub laid_short : (x : Span) (r : Reader) → turn L rest h.reader ≡ gives x r → x.length ≤ rest
  laid_short x r e = subst (Short rest) e (turn_short L rest h.reader)

  pub laid_more : (x : Span) (h' : Held) → k < room → turn L rest h.reader ≡ gives x h'.reader → h'.cluster ≡ cluster
      → Laid L cluster store₀ room w r₀ (sets store (3 * k) (span_words x)) h' (k + 1) (rest - x.length)
  unfolding follow
  laid_more x h' lt e c =
      let good = lawful cluster list i.full in
      let within : (a l : ℕ) (r : Run) (a' l' : ℕ) → L.step a l ≡ found r a' l' → Inside r.place r.size = λ a l r a' l' q. found_inside cluster list a l r a' l' i.full q in
      let m : room - k - 1 ≡ room - (k + 1) = omega arith in
      let n : 3 * k + 3 ≡ 3 * (k + 1) = omega arith in
      record {
        full = i.full;
        done = i.done ++ x ∷ [];
        count = length-append i.done (x ∷ []) ∙ rw i.count;
        few = omega arith;
        enough = i.enough;
        store_is = rw (i.store_is, words_more i.done x, ← n) (store_more (words i.done) store₀ (span_words x) (3 * k) (words_length i.done ∙ rw i.count) refl (omega (arith, i.enough)));
        bytes = rw (total_more i.done x) (omega (arith, i.bytes, laid_short x h'.reader e));
        whole = i.whole ∙ ap (joined i.done h.reader) (read_turn L (room - k) rest h.reader (gives x h'.reader) (omega arith) e)
            ∙ joined_more i.done x h.reader h'.reader (read L (room - k - 1) (rest - x.length) h'.reader) ∙ rw m;
        cluster_is = c;
        sound = subst (GoodTurn L good within) e (turn_good L good within rest h.reader i.sound);
      }

  -- THE ENDS: the answer and the store are what is to be said of them.
  abbrev Done : Answer Count → Type 0
  Done a = (a ≡ counted cluster (read L room w r₀)) × (store ≡ stored store₀ (read L room w r₀))

  abbrev answer : Held → Answer Count
  answer h' = given (record { spans = k; bytes = w - rest; reader = h' })

  laid_done : (h' : Held) → h'.cluster ≡ cluster → read L room w r₀ ≡ laid i.done h'.reader → Done (answer h')
  laid_done h' c e =
      let b : w - rest ≡ total i.done = omega (arith, i.bytes) in
      let n : length (words i.done) ≡ 3 * k = words_length i.done ∙ rw i.count in
      rw e (rw (b, ← i.count) (ap (λ q. given (record { spans = length i.done; bytes = total i.done; reader = record { cluster = q; reader = h'.reader } })) c), rw n i.store_is)

  pub laid_stop : (h' : Held) → k < room → turn L rest h.reader ≡ stops h'.reader → h'.cluster ≡ cluster → Done (answer h')
  unfolding follow
  laid_stop h' lt e c =
      laid_done h' c (i.whole ∙ ap (joined i.done h.reader) (read_turn L (room - k) rest h.reader (stops h'.reader) (omega arith) e) ∙ joined_nothing i.done h.reader h'.reader)

  pub laid_full : room ≤ k → Done (answer h)
  laid_full le = laid_done h i.cluster_is (i.whole ∙ ap (joined i.done h.reader) (read_full L (room - k) rest h.reader (omega arith)) ∙ joined_nothing i.done h.reader h.reader)

  broken : (n : ℕ) (v : List ℤ) → k < room → turn L rest h.reader ≡ refuses n v → read L room w r₀ ≡ joined i.done h.reader (refused n v)
  unfolding follow
  broken n v lt e = i.whole ∙ ap (joined i.done h.reader) (read_turn L (room - k) rest h.reader (refuses n v) (omega arith) e)

  pub laid_broken : (n : ℕ) (v : List ℤ) → k < room → 0 < k → turn L rest h.reader ≡ refuses n v → Done (answer h)
  laid_broken n v lt any e = laid_done h i.cluster_is (broken n v lt e ∙ joined_refused i.done h.reader n v (omega (arith, i.count)))

  pub laid_refused : (n : ℕ) (v : List ℤ) → k < room → k ≡ 0 → turn L rest h.reader ≡ refuses n v → Done (refused n v)
  unfolding joined words
  laid_refused n v lt z e =
      let d : i.done ≡ [] = none_laid i.done (i.count ∙ z) in
      let q : read L room w r₀ ≡ refused n v = broken n v lt e ∙ rw d in
      rw q (refl, i.store_is ∙ rw (d, z))

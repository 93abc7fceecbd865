-- A reader that a call gives is sound, and stays so: whatever is fetched keeps rule 19 and leaves the cursor inside the list, and a move
-- inside a run never passes its size. So 21 never meets a reader that was opened over the same list.
use Rattle.std.specs.Prelude.{Some, None}
use Prim.Native.Nat.{ℕ, zero, suc, ◌+◌, ◌-◌, ◌^◌, ◌<◌, ◌≤◌, min}
use mathlib.Core.Path.{◌≡◌, refl, ap, ◌∙◌}
use mathlib.Core.Bool.{Bool, true, false, not}
use native.Mathlib.Omega.{arith}
use lib.Dec.{ltb, eqb}
use borrow.Author.Tests.{ltb-true, ltb-false, lt-ltb, le-ltb, eq-eqb, eqb-true}
use Rattle.format.specs.Pick.{pick, pick_all, pick_lt, pick_no, pick_true}
use Rattle.format.specs.Number.{cluster_sound}
use Rattle.format.specs.Runs.{Place, Run, Step, ends, Inside}
use Rattle.format.specs.Runs.Place.{disk, hole}
use Rattle.format.specs.Runs.Step.{over, found, faulty}
use Rattle.format.specs.Listed.{Answer, IfGiven, then, either, RunList, Lawful, Listed, unroll, listed_by, listed}
use Rattle.format.specs.Listed.Answer.{given, refused}
use Rattle.format.specs.Listed.Listed.{ends as ended, run, breaks}
use Rattle.format.specs.Reader.{Current, Stand, Reader, start, entered, left_of, left, settle, forward, at, opened, seek_to, Reading, Turn, nothing, give, fetch, turn, follow, read}
use Rattle.format.specs.Reader.Turn.{stops, gives, refuses}
use Rattle.format.specs.Calls.{Held, place_sound, current_sound, sound, sound_in}
use Rattle.format.proofs.Powers.{sound_bounds}
use Rattle.format.proofs.Reader.{turn_all}

-- SOUND in words that proofs use: a stand in a list of so many bytes.
abbrev pub FitsIn : Current → ℕ → Type 0
FitsIn None d = d ≡ 0
FitsIn (Some r) d = (d ≤ r.size) × Inside r.place r.size

pub record Good (end : ℕ) (s : Stand) : Type 0 where
  pub inside : s.cursor ≤ end
  pub fits : FitsIn s.current s.displacement

pub inside_sound : (p : Place) (n : ℕ) → Inside p n → place_sound p n ≡ true
unfolding place_sound ends
inside_sound (disk p) n h = lt-ltb (p + n) (2 ^ 64) h
inside_sound hole n h = refl

pub place_inside : (p : Place) (n : ℕ) → place_sound p n ≡ true → Inside p n
unfolding place_sound ends
place_inside (disk p) n e = ltb-true (p + n) (2 ^ 64) e
place_inside hole n e = tt

pub fits_sound : (c : Current) (d : ℕ) → FitsIn c d → current_sound c d ≡ true
unfolding current_sound
fits_sound None d h = eq-eqb d 0 h
fits_sound (Some r) d h = pick_no _ _ (le-ltb r.size d h.0) ∙ inside_sound r.place r.size h.1

pub current_fits : (c : Current) (d : ℕ) → current_sound c d ≡ true → FitsIn c d
unfolding current_sound
current_fits None d e = eqb-true d 0 e
current_fits (Some r) d e = let h = pick_true (ltb r.size d) (place_sound r.place r.size) e in (ltb-false r.size d h.0, place_inside r.place r.size h.1)

pub not-true : (b : Bool) → not b ≡ false → b ≡ true
not-true true e = refl
not-true false e = cc

-- the two forms of soundness say the same
pub sound_good : (end : ℕ) (h : Held) → sound_in end h ≡ true → (cluster_sound h.cluster ≡ true) × Good end h.reader.stand
unfolding sound_in sound
sound_good end h e =
    let a = pick_true (ltb end h.reader.stand.cursor) (sound h) e in
    let b = pick_true (not (cluster_sound h.cluster)) (current_sound h.reader.stand.current h.reader.stand.displacement) a.1 in
    (not-true (cluster_sound h.cluster) b.0, record { inside = ltb-false end h.reader.stand.cursor a.0; fits = current_fits h.reader.stand.current h.reader.stand.displacement b.1 })

pub good_sound : (end : ℕ) (h : Held) → cluster_sound h.cluster ≡ true → Good end h.reader.stand → sound_in end h ≡ true
unfolding sound_in sound
good_sound end h c g =
    pick_no _ _ (le-ltb end h.reader.stand.cursor g.inside) ∙ pick_no _ _ (ap not c) ∙ fits_sound h.reader.stand.current h.reader.stand.displacement g.fits

-- a sound reader's clusters aren't empty
pub sound_full : (end : ℕ) (h : Held) → sound_in end h ≡ true → 0 < h.cluster
sound_full end h e = omega (arith, (sound_bounds h.cluster (sound_good end h e).0).0)

-- inside what is left the displacement moves on
pub moved_fits : (c : Current) (d n : ℕ) → FitsIn c d → n ≤ left_of c d → FitsIn c (d + n)
unfolding left_of
moved_fits None d n h k = omega arith
moved_fits (Some r) d n h k = (omega (arith, h.0), h.1)

module _ (L : RunList) (good : Lawful L) (within : (a l : ℕ) (r : Run) (a' l' : ℕ) → L.step a l ≡ found r a' l' → Inside r.place r.size) where
  abbrev pub GoodTurn : Turn → Type 0
  GoodTurn (stops r) = Good L.fin r.stand
  GoodTurn (gives x r) = Good L.fin r.stand
  GoodTurn (refuses k v) = Unit {0}

  found_good : (a l : ℕ) (r : Run) (a' l' : ℕ) → L.step a l ≡ found r a' l' → Good L.fin (entered r a' l')
  found_good a l r a' l' e = record { inside = (good.moves a l r a' l' e).1; fits = (omega arith, within a l r a' l' e) }

  -- GOING FORWARD: the runs of a list are good to enter, so who settles among them stands well.
  abbrev AllGood : Listed → Type 0
  AllGood (ended l) = Unit {0}
  AllGood (run r a l rest) = Good L.fin (entered r a l) × AllGood rest
  AllGood (breaks k v) = Unit {0}

  listed_good : (f a l : ℕ) → AllGood (listed_by L f a l)
  unfolding listed_by unroll
  listed_good zero a l = tt
  listed_good (suc f) a l = go (L.step a l) refl (listed_good f)
    where
      go : (x : Step) → L.step a l ≡ x → ((a l : ℕ) → AllGood (listed_by L f a l)) → AllGood (unroll x l (listed_by L f))
      go over e more = tt
      go (found r a' l') e more = (found_good a l r a' l' e, more a' l')
      go (faulty k v) e more = tt

  settle_good : (d : Listed) (n : ℕ) → AllGood d → IfGiven (Good L.fin) (settle L d n)
  unfolding settle
  settle_good (ended l) n h = record { inside = omega arith; fits = refl }
  settle_good (run r a l rest) n h = pick_lt (IfGiven (Good L.fin)) n r.size _ _
      (λ k. record { inside = h.0.inside; fits = (omega arith, h.0.fits.1) })
      (λ k. settle_good rest (n - r.size) h.1)
  settle_good (breaks k v) n h = tt

  pub forward_good : (s : Stand) (n : ℕ) → Good L.fin s → IfGiven (Good L.fin) (forward L s n)
  unfolding forward listed
  forward_good s n g = pick_lt (IfGiven (Good L.fin)) n (left s) _ _
      (λ k. record { inside = g.inside; fits = moved_fits s.current s.displacement n g.fits (omega arith) })
      (λ k. settle_good _ (n - left s) (listed_good _ s.cursor s.lcn))

  start_good : Good L.fin start
  start_good = record { inside = omega arith; fits = refl }

  abbrev pub GoodReader : Reader → Type 0
  GoodReader r = Good L.fin r.stand

  at_good : (p z : ℕ) (x : Answer Stand) → IfGiven (Good L.fin) x → IfGiven GoodReader (at p z x)
  at_good p z (given s) h = h
  at_good p z (refused k v) h = tt

  pub opened_good : (z : ℕ) → IfGiven GoodReader (opened L z)
  unfolding opened
  opened_good z = at_good 0 z (forward L start 0) (forward_good start 0 start_good)

  seek_to_good : (r : Reader) (t : ℕ) → GoodReader r → IfGiven GoodReader (seek_to L r t)
  unfolding seek_to
  seek_to_good r t g = pick_all (IfGiven GoodReader) (eqb t r.place) _ _ (λ _. g) (λ _.
      at_good t r.size (pick (ltb t r.place) (forward L start t) (forward L r.stand (t - r.place)))
      (pick_lt (IfGiven (Good L.fin)) t r.place (forward L start t) (forward L r.stand (t - r.place)) (λ _. forward_good start t start_good) (λ _. forward_good r.stand (t - r.place) g)))

  pub seek_good : (r : Reader) (x : Answer ℕ) → GoodReader r → IfGiven GoodReader (then x (seek_to L r))
  seek_good r (given t) g = seek_to_good r t g
  seek_good r (refused k v) g = tt

  -- READING.
  give_good : (w : ℕ) (r : Reader) (s : Stand) → Good L.fin s → GoodTurn (give w r s)
  unfolding give
  give_good w r s g = record { inside = g.inside; fits = moved_fits s.current s.displacement (min w (min (left s) (r.size - r.place))) g.fits (omega arith) }

  fetch_good : (w : ℕ) (r : Reader) (a l : ℕ) (x : Step) → L.step a l ≡ x → GoodReader r → GoodTurn (fetch L w r x)
  unfolding fetch
  fetch_good w r a l over e g = record { inside = omega arith; fits = g.fits }
  fetch_good w r a l (found x a' l') e g = give_good w r (entered x a' l') (found_good a l x a' l' e)
  fetch_good w r a l (faulty k v) e g = tt

  pub turn_good : (w : ℕ) (r : Reader) → GoodReader r → GoodTurn (turn L w r)
  turn_good w r g =
      turn_all L GoodTurn w r (λ _. g) (λ _ _ _. give_good w r r.stand g)
      (λ _ _ _. fetch_good w r r.stand.cursor r.stand.lcn (L.step r.stand.cursor r.stand.lcn) refl g)

  pub read_good : (room w : ℕ) (r : Reader) → GoodReader r → IfGiven (λ g. GoodReader g.reader) (read L room w r)
  unfolding read follow
  read_good zero w r g = g
  read_good (suc room) w r g = go (turn L w r) (turn_good w r g) (read_good room)
    where
      kept : (r' : Reader) → GoodReader r' → (x : Answer Reading) → IfGiven (λ g. GoodReader g.reader) x → GoodReader (either x (λ g. g) (nothing r')).reader
      kept r' g' (given y) h = h
      kept r' g' (refused k v) h = g'

      go : (t : Turn) → GoodTurn t → ((w : ℕ) (r : Reader) → GoodReader r → IfGiven (λ g. GoodReader g.reader) (read L room w r)) → IfGiven (λ g. GoodReader g.reader) (follow (read L room) w t)
      go (stops r') h more = h
      go (gives x r') h more = kept r' h (read L room (w - x.length) r') (more (w - x.length) r' h)
      go (refuses k v) h more = tt

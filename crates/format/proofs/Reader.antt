-- The laws of lists and of readers over them, up to: every read of a reader that tracks the list names what the lookup rule names.
use Rattle.std.specs.Prelude.{Some, None}
use Prim.Native.Nat.{ℕ, zero, suc, ◌+◌, ◌-◌, ◌≤◌, ◌<◌, min}
use mathlib.Core.Path.{◌≡◌, refl, ap, sym, subst, ◌∙◌}
use mathlib.Core.List.{◌∷◌, ◌++◌}
use native.Mathlib.Omega.{arith}
use native.Mathlib.Nat.{sub-zero, zero-add, suc-add, add-zero, add_assoc}
use lib.Dec.{ltb, leb, eqb}
use lib.ListN.{length}
use borrow.Author.Tests.{leb-true, leb-false, eqb-true, eqb-false, lt-ltb, le-ltb}
use Rattle.format.specs.Pick.{pick, pick_yes, pick_all, pick_lt, same_test}
use Rattle.format.specs.Listed.{Lawful}
use Rattle.format.proofs.Listed.{Moves, listed_again, listed_rule}
use Rattle.format.specs.Listed.{Answer, IfGiven, then, either, RunList, Listed, unroll, listed, list, runs, covered, Where, byte, lookup}
use Rattle.format.specs.Listed.Answer.{given, refused}
use Rattle.format.specs.Runs.{Place, Run, Step}
use Rattle.format.specs.Runs.Place.{disk, hole}
use Rattle.format.specs.Runs.Step.{over, found, faulty}
use Rattle.format.specs.Listed.Listed.{ends, run, breaks}
use Rattle.format.specs.Listed.Where.{position, not_covered, unknown}
use Rattle.format.specs.Reader.{Current, Stand, Reader, start, entered, at_end, left_of, left, moved, settle, forward, at, opened, seek_to, Reading, further, here, nothing, before, Turn, give, fetch, turn, follow, read}
use Rattle.format.specs.History.{upto, expand, bytes_at, amount, total, NoneEmpty}
use Rattle.format.specs.Reader.Turn.{stops}

-- How many runs lie from offset p on.
pub runs_at : Listed → ℕ → ℕ
runs_at (ends l) p = 0
runs_at (run r a l rest) p = pick (ltb p r.size) (suc (runs_at rest 0)) (runs_at rest (p - r.size))
runs_at (breaks k v) p = 0

pub runs_at_most : (d : Listed) (p : ℕ) → runs_at d p ≤ runs d
unfolding runs_at runs
runs_at_most (ends l) p = omega arith
runs_at_most (run r a l rest) p =
    let i = runs_at_most rest 0 in
    let j = runs_at_most rest (p - r.size) in
    pick_lt (λ n. n ≤ suc (runs rest)) p r.size _ _ (λ h. omega arith) (λ h. omega arith)
runs_at_most (breaks k v) p = omega arith

runs_at_none : (d : Listed) (p : ℕ) → runs_at d p ≡ 0 → covered d ≤ p
unfolding runs_at covered
runs_at_none (ends l) p e = omega arith
runs_at_none (run r a l rest) p e = pick_lt (λ n. n ≡ 0 → r.size + covered rest ≤ p) p r.size _ _ (λ h e. omega arith) (λ h e. omega (arith, runs_at_none rest (p - r.size) e)) e
runs_at_none (breaks k v) p e = omega arith

-- THE CURRENT RUN. What is left of it after a move; what it says of the byte at the displacement.
left_moved : (c : Current) (d m : ℕ) → left_of c (d + m) ≡ left_of c d - m
unfolding left_of
left_moved None d m = omega arith
left_moved (Some r) d m = omega arith

spot_at : Current → ℕ → Where
spot_at None d = not_covered
spot_at (Some r) d = byte r.place d

abbrev spot : Answer Stand → Where
spot (given s) = spot_at s.current s.displacement
spot (refused k v) = unknown k v

here_spot : (c : Current) (d i : ℕ) → 0 < left_of c d → byte (here c d) i ≡ spot_at c (d + i)
unfolding spot_at here left_of byte further
here_spot None d i h = absurd (omega arith)
here_spot (Some r) d i h = go r.place
  where
    go : (q : Place) → byte (further q d) i ≡ byte q (d + i)
    go (disk k) = ap position (add_assoc k d i)
    go hole = refl

-- THE VALUES of a function at 0, 1, .. n - 1.
upto_same : {A : Type 0} (f g : ℕ → A) (n : ℕ) → ((i : ℕ) → i < n → f i ≡ g i) → upto f n ≡ upto g n
unfolding upto
upto_same f g zero h = refl
upto_same f g (suc n) h = rw (h 0 (omega arith), upto_same (λ i. f (suc i)) (λ i. g (suc i)) n (λ i hi. h (suc i) (omega arith)))

upto_add : {A : Type 0} (f : ℕ → A) (m n : ℕ) → upto f (m + n) ≡ upto f m ++ upto (λ i. f (m + i)) n
unfolding upto
upto_add f zero n = simp zero-add
upto_add f (suc m) n = simp suc-add (ap (λ t. f 0 ∷ t) (upto_add (λ i. f (suc i)) m n))

min_cut : (n a b : ℕ) → n ≤ a → n ≤ b → min a b ≡ n + min (a - n) (b - n)
min_cut n a b ha hb = omega arith

pub min_sub : (n a b : ℕ) → min (a - n) (b - n) ≡ min a b - n
min_sub n a b = omega arith

pub sub_sum : (a b c : ℕ) → a - (b + c) ≡ a - b - c
sub_sum a b c = omega arith

module _ (L : RunList) where
  -- Bytes named from p on, and more from where they end.
  pub bytes_add : (p m n : ℕ) → bytes_at L p (m + n) ≡ bytes_at L p m ++ bytes_at L (p + m) n
  bytes_add p m n = upto_add (λ i. lookup (list L) (p + i)) m n ∙ simp add_assoc

  -- LOOKUP AND SETTLE: an offset lies where the reader that settles there stands.
  lookup_spot : (d : Listed) (o : ℕ) → lookup d o ≡ spot (settle L d o)
  unfolding lookup settle spot_at pick
  lookup_spot (ends l) o = refl
  lookup_spot (run r a l rest) o = pick_all (λ x. x ≡ spot (settle L (run r a l rest) o)) (ltb o r.size) _ _ (λ e. rw e (rw zero-add)) (λ e. rw (e, lookup_spot rest (o - r.size)))
  lookup_spot (breaks k v) o = refl

  -- What is left there: covered bytes, and some if any are covered; behind it lies one run less.
  abbrev LeftAt : Listed → ℕ → Answer Stand → Type 0
  LeftAt d p (given s) = (left s ≤ covered d - p) × (min 1 (covered d - p) ≤ left s) × (min 1 (left s) + runs_at d (p + left s) ≡ runs_at d p)
  LeftAt d p (refused k v) = covered d ≤ p

  settle_left : (d : Listed) (p : ℕ) → LeftAt d p (settle L d p)
  unfolding settle covered runs_at left_of pick
  settle_left (ends l) p = omega arith
  settle_left (run r a l rest) p = pick_lt (LeftAt (run r a l rest) p) p r.size _ _
      (λ h. let q : p + (r.size - (0 + p)) - r.size ≡ 0 = omega arith in
      rw (le-ltb (p + (r.size - (0 + p))) r.size (omega arith), lt-ltb p r.size h, q) (omega arith))
      (λ h. go h (settle L rest (p - r.size)) (settle_left rest (p - r.size)))
    where
      go : r.size ≤ p → (x : Answer Stand) → LeftAt rest (p - r.size) x → LeftAt (run r a l rest) p x
      go h (given s) i =
          let q : p + left s - r.size ≡ p - r.size + left s = omega arith in
          let c : r.size + covered rest - p ≡ covered rest - (p - r.size) = omega arith in
          rw (le-ltb (p + left s) r.size (omega arith), le-ltb p r.size h, q, c) i
      go h (refused k v) i = omega arith
  settle_left (breaks k v) p = omega arith

  -- A TURN: nothing is asked or nothing is left of the data; a span of the current run; the next run fetched.
  pub turn_all : (P : Turn → Type 0) (w : ℕ) (r : Reader) → (min w (r.size - r.place) ≡ 0 → P (stops r))
      → (0 < w → r.place < r.size → 0 < left r.stand → P (give w r r.stand))
      → (0 < w → r.place < r.size → left r.stand ≡ 0 → P (fetch L w r (L.step r.stand.cursor r.stand.lcn)))
      → P (turn L w r)
  unfolding turn
  turn_all P w r none_left in-run behind =
      pick_all P (eqb w 0) _ _ (λ y. let h = eqb-true w 0 y in none_left (omega arith)) (λ y. let hw = eqb-false w 0 y in
      pick_all P (leb r.size r.place) _ _ (λ y. let h = leb-true r.size r.place y in none_left (omega arith)) (λ y. let hp = leb-false r.size r.place y in
      pick_lt P 0 (left r.stand) _ _ (λ h. in-run (omega arith) hp h) (λ h. behind (omega arith) hp (omega arith))))

  -- GOING FORWARD: inside the current run; after a move; with nothing left of the current run.
  pub forward_in : (s : Stand) (n : ℕ) → n < left s → forward L s n ≡ given (moved s n)
  unfolding forward pick
  forward_in s n h = rw (lt-ltb n (left s) h)

  forward_moved : (s : Stand) (m n : ℕ) → m ≤ left s → forward L (moved s m) n ≡ forward L s (m + n)
  unfolding forward
  forward_moved s m n h =
      let e : left (moved s m) ≡ left s - m = left_moved s.current s.displacement m in
      let q : n - (left s - m) ≡ m + n - left s = omega arith in
      rw (e, same_test n (left s - m) (m + n) (left s) (λ p. omega arith) (λ p. omega arith), q, add_assoc)

  forward_used : (s : Stand) (n : ℕ) → left s ≡ 0 → forward L s n ≡ settle L (listed L s.cursor s.lcn) n
  unfolding forward pick
  forward_used s n z = rw (z, le-ltb n 0 (omega arith), sub-zero)

  forward_from_start : (n : ℕ) → forward L start n ≡ settle L (list L) n
  unfolding left_of
  forward_from_start n = forward_used start n refl

  -- To settle in a list whose first run was fetched is to go forward in that run.
  pub settle_entered : (r : Run) (a l n : ℕ) → forward L (entered r a l) n ≡ settle L (run r a l (listed L a l)) n
  unfolding forward settle left_of
  settle_entered r a l n = rw sub-zero

  -- A READER TRACKS THE LIST if going forward from it by any n is settling at its place + n.
  abbrev pub Tracks : Stand → ℕ → Type 0
  Tracks s p = (n : ℕ) → forward L s n ≡ settle L (list L) (p + n)

  pub record At (p z : ℕ) (r : Reader) : Type 0 where
    pub tracks : Tracks r.stand p
    pub place : r.place ≡ p
    pub size : r.size ≡ z

  -- Going forward to t from whatever tracks the list at or before t (K7's stored readers too).
  pub from_any : (s : Stand) (p t : ℕ) → Tracks s p → p ≤ t → forward L s (t - p) ≡ settle L (list L) t
  from_any s p t tk h = let q : p + (t - p) ≡ t = omega arith in tk (t - p) ∙ ap (settle L (list L)) q

  -- Opening is settling at 0, and a seek is settling at the target, unless that is the place.
  pub opened_is : (z : ℕ) → opened L z ≡ at 0 z (settle L (list L) 0)
  unfolding opened
  opened_is z = ap (at 0 z) (forward_from_start 0)

  pub seek_case : (p z t : ℕ) (r : Reader) → At p z r → (P : Answer Reader → Type 0) → (t ≡ p → P (given r)) → P (at t z (settle L (list L) t)) → P (seek_to L r t)
  unfolding seek_to
  seek_case p z t r h P same other = pick_all P (eqb t r.place) _ _ (λ y. same (eqb-true t r.place y ∙ h.place)) (λ y. subst P (sym away) other)
    where
      away : at t r.size (pick (ltb t r.place) (forward L start t) (forward L r.stand (t - r.place))) ≡ at t z (settle L (list L) t)
      away = rw (h.place, h.size) (ap (at t z) (pick_lt (λ x. x ≡ settle L (list L) t) t p _ _ (λ b. forward_from_start t) (λ b. from_any r.stand p t h.tracks b)))

  -- THE AMOUNT: cut in two; none where nothing is covered.
  pub amount_cut : (p z w n : ℕ) → n ≤ w → n ≤ z - p → n ≤ covered (list L) - p → amount L p z w ≡ n + amount L (p + n) z (w - n)
  unfolding amount
  amount_cut p z w n hw hz hc =
      let c = covered (list L) in
      rw (sub_sum z p n, sub_sum c p n, min_sub n (z - p) (c - p)) (min_cut n w (min (z - p) (c - p)) hw (omega arith))

  amount_none : (p z w : ℕ) → covered (list L) ≤ p → amount L p z w ≡ 0
  unfolding amount
  amount_none p z w h = omega arith

  -- WHAT A READ GIVES at place p of z bytes. All there is, if the room isn't used up or there is room for the runs from p on.
  pub record Reads (p z w room : ℕ) (g : Reading) : Type 0 where
    pub reader : At (p + g.bytes) z g.reader
    pub named : expand g.spans ≡ bytes_at L p g.bytes
    pub full : NoneEmpty g.spans
    pub sum : g.bytes ≡ total g.spans
    pub fits : length g.spans ≤ room
    pub most : g.bytes ≤ amount L p z w
    pub least : min (suc (length g.spans)) (runs_at (list L) p) ≤ room → amount L p z w ≤ g.bytes

  -- It is refused only as settling there is.
  abbrev pub Outcome : ℕ → ℕ → ℕ → ℕ → Answer Reading → Type 0
  Outcome p z w room (given g) = Reads p z w room g
  Outcome p z w room (refused k v) = settle L (list L) p ≡ refused k v

  abbrev AllReads : ℕ → Type 0
  AllReads room = (w : ℕ) (r : Reader) → Tracks r.stand r.place → Outcome r.place r.size w room (read L room w r)

  -- A stop, also at a refused run.
  stop : (p z w room : ℕ) (r : Reader) → At p z r → (min 1 (runs_at (list L) p) ≤ room → amount L p z w ≡ 0) → Reads p z w room (nothing r)
  unfolding total expand upto
  stop p z w room r t h = record { reader = rw (add-zero p) t; named = refl; full = tt; sum = refl; fits = omega arith; most = omega arith; least = λ e. omega (arith, h e) }

  or_stop : (p z w room : ℕ) (r : Reader) → At p z r → (x : Answer Reading) → Outcome p z w room x → Reads p z w room (either x (λ g. g) (nothing r))
  or_stop p z w room r t (given g) o = o
  or_stop p z w room r t (refused k v) o = stop p z w room r t (λ e. amount_none p z w (rw o at (settle_left (list L) p)))

  -- Standing in a run it has these left, and its bytes are the rule's.
  inside : (p : ℕ) (s : Stand) → Tracks s p → 0 < left s → LeftAt (list L) p (given s)
  inside p s tk h = subst (LeftAt (list L) p) (rw (add-zero p, add-zero s.displacement) at (sym (tk 0) ∙ forward_in s 0 h)) (settle_left (list L) p)

  inside_named : (p n : ℕ) (s : Stand) → Tracks s p → n ≤ left s → upto (byte (here s.current s.displacement)) n ≡ bytes_at L p n
  inside_named p n s tk hn = upto_same (byte (here s.current s.displacement)) (λ i. lookup (list L) (p + i)) n
      (λ i hi. here_spot s.current s.displacement i (omega arith) ∙ sym (lookup_spot (list L) (p + i) ∙ ap spot (sym (tk i) ∙ forward_in s i (omega arith))))

  -- A span in front of a reading.
  prepend : (p z w room n : ℕ) (s : Stand) (g : Reading) → Tracks s p → 0 < n → n ≤ w → n ≤ left s → n ≤ z - p → (n < left s → amount L p z w ≤ n)
      → Reads (p + n) z (w - n) room g → Reads p z w (suc room) (before (record { place = here s.current s.displacement; length = n }) g)
  unfolding total expand
  prepend p z w room n s g tk h0 hw hl hz hs o =
      let i = inside p s tk (omega arith) in
      let c = amount_cut p z w n hw hz (omega arith) in
      record {
        reader = rw add_assoc at o.reader;
        named = rw (inside_named p n s tk hl, o.named) (sym (bytes_add p n g.bytes));
        full = (h0, o.full);
        sum = omega (arith, o.sum);
        fits = omega (arith, o.fits);
        most = omega (arith, o.most);
        least = λ e. pick_lt (λ (x : ℕ). amount L p z w ≤ n + g.bytes) n (left s) 0 0 (λ h. omega (arith, hs h)) (λ h. let q : n ≡ left s = omega arith in omega (arith, o.least (rw q (omega arith))));
      }

  module _ (good : Lawful L) where
    -- At the list's length it is over; behind the first run it goes on.
    listed_end : (l : ℕ) → listed L L.fin l ≡ ends l
    unfolding unroll
    listed_end l = rw (listed_rule L good L.fin l, good.stops L.fin l (omega arith))

    listed_next : (a l a' l' : ℕ) (r : Run) (rest : Listed) → listed L a l ≡ run r a' l' rest → listed L a' l' ≡ rest
    unfolding unroll
    listed_next a l a' l' r rest e = go (L.step a l) (sym (listed_rule L good a l) ∙ e)
      where
        go : (x : Step) → unroll x l (listed L) ≡ run r a' l' rest → listed L a' l' ≡ rest
        go over q = cc
        go (found x b m) q = cc
        go (faulty k v) q = cc

    -- To settle at m and go forward by n is to settle at m + n.
    settle_add : (d : Listed) (a l : ℕ) → listed L a l ≡ d → (m n : ℕ) → then (settle L d m) (λ s. forward L s n) ≡ settle L d (m + n)
    unfolding settle pick left_of
    settle_add (ends l') a l e m n = rw (forward_used (at_end L l' None 0) n refl, listed_end l')
    settle_add (run r a' l' rest) a l e m n =
        let k = listed_next a l a' l' r rest e in
        pick_lt (λ x. then x (λ s. forward L s n) ≡ settle L (run r a' l' rest) (m + n)) m r.size _ _
        (λ h. rw (← k) (forward_moved (entered r a' l') m n (omega arith) ∙ settle_entered r a' l' (m + n)))
        (λ h. let q : m + n - r.size ≡ m - r.size + n = omega arith in
        rw (le-ltb (m + n) r.size (omega arith), q) (settle_add rest a' l' k (m - r.size) n))
    settle_add (breaks k v) a l e m n = refl

    -- Who settles at t tracks the list there.
    pub settle_at : (t z : ℕ) → IfGiven (At t z) (at t z (settle L (list L) t))
    settle_at t z = go (settle L (list L) t) refl
      where
        go : (x : Answer Stand) → settle L (list L) t ≡ x → IfGiven (At t z) (at t z x)
        go (given s) e = record { tracks = λ n. ap (λ x. then x (λ s. forward L s n)) (sym e) ∙ settle_add (list L) 0 0 refl t n; place = refl; size = refl }
        go (refused k v) e = tt

    -- A span of the run where s stands.
    gives : (room : ℕ) → AllReads room → (w : ℕ) (r : Reader) (s : Stand) → 0 < w → r.place < r.size → 0 < left s → Tracks s r.place
        → Outcome r.place r.size w (suc room) (follow (read L room) w (give w r s))
    unfolding give follow amount
    gives room all w r s hw hp hl tk =
        let n = min w (min (left s) (r.size - r.place)) in
        let r' : Reader = record { stand = moved s n; place = r.place + n; size = r.size } in
        let tk' : Tracks (moved s n) (r.place + n) = λ k. forward_moved s n k (omega arith) ∙ tk (n + k) ∙ ap (settle L (list L)) (sym (add_assoc r.place n k)) in
        prepend r.place r.size w room n s _ tk (omega arith) (omega arith) (omega arith) (omega arith) (λ h. omega arith)
        (or_stop (r.place + n) r.size (w - n) room r' (record { tracks = tk'; place = refl; size = refl }) (read L room (w - n) r') (all (w - n) r' tk'))

    -- The next run is fetched: what is left of the list settles as the reader goes forward.
    fetches : (room : ℕ) → AllReads room → (w : ℕ) (r : Reader) → 0 < w → r.place < r.size → left r.stand ≡ 0
        → (x : Step) → L.step r.stand.cursor r.stand.lcn ≡ x → ((n : ℕ) → settle L (unroll x r.stand.lcn (listed L)) n ≡ settle L (list L) (r.place + n))
        → Outcome r.place r.size w (suc room) (follow (read L room) w (fetch L w r x))
    unfolding fetch follow unroll settle left_of
    fetches room all w r hw hp hl over e u =
        let p = r.place in
        let i = subst (LeftAt (list L) p) (sym (rw add-zero at (u 0))) (settle_left (list L) p) in
        let s = at_end L r.stand.lcn r.stand.current r.stand.displacement in
        let tk : Tracks s p = λ n. forward_used s n hl ∙ ap (λ d. settle L d n) (listed_end r.stand.lcn) ∙ u n in
        stop p r.size w (suc room) _ (record { tracks = tk; place = refl; size = refl }) (λ h. amount_none p r.size w (omega (arith, i.1)))
    fetches room all w r hw hp hl (found x a l) e u =
        gives room all w r (entered x a l) hw hp (omega (arith, good.sized r.stand.cursor r.stand.lcn x a l e)) (λ n. settle_entered x a l n ∙ u n)
    fetches room all w r hw hp hl (faulty k v) e u = sym (rw add-zero at (u 0))

    -- EVERY READ of a reader that tracks the list.
    every_read : (room : ℕ) → AllReads room
    unfolding read follow amount
    every_read zero w r tk = stop r.place r.size w zero r (record { tracks = tk; place = refl; size = refl }) (λ h. amount_none r.place r.size w (runs_at_none (list L) r.place (omega arith)))
    every_read (suc room) w r tk =
        let s = r.stand in
        turn_all (λ t. Outcome r.place r.size w (suc room) (follow (read L room) w t)) w r
        (λ h. stop r.place r.size w (suc room) r (record { tracks = tk; place = refl; size = refl }) (λ e. omega arith))
        (λ hw hp hl. gives room (every_read room) w r s hw hp hl tk)
        (λ hw hp z. fetches room (every_read room) w r hw hp z (L.step s.cursor s.lcn) refl (λ n. ap (λ d. settle L d n) (sym (listed_rule L good s.cursor s.lcn)) ∙ sym (forward_used s n z) ∙ tk n))

    pub read_at : (p z w room : ℕ) (r : Reader) → At p z r → Outcome p z w room (read L room w r)
    read_at p z w room r t = subst (λ x. Outcome p x w room (read L room w r)) t.size (subst (λ x. Outcome x r.size w room (read L room w r)) t.place (every_read room w r (rw t.place t.tracks)))

-- SETTLING n on from a cursor, by what stands there.
abbrev pub settles : RunList → ℕ → ℕ → Step → Answer Stand
settles L l n over = given (at_end L l None 0)
settles L l n (found r a l') = pick (ltb n r.size) (given (moved (entered r a l') n)) (settle L (listed L a l') (n - r.size))
settles L l n (faulty k v) = refused k v

module _ (L : RunList) (moves : Moves L) where
  settles_unrolled : (x : Step) (l n : ℕ) → settle L (unroll x l (listed L)) n ≡ settles L l n x
  unfolding unroll settle
  settles_unrolled over l n = refl
  settles_unrolled (found r a l') l n = refl
  settles_unrolled (faulty k v) l n = refl

  pub settle_rule : (a l n : ℕ) → settle L (listed L a l) n ≡ settles L l n (L.step a l)
  settle_rule a l n = ap (λ d. settle L d n) (listed_again L moves a l) ∙ settles_unrolled (L.step a l) l n

  pub settle_in : (a l n : ℕ) (r : Run) (a' l' : ℕ) → L.step a l ≡ found r a' l' → n < r.size → settle L (listed L a l) n ≡ given (record { cursor = a'; lcn = l'; current = Some r; displacement = n })
  settle_in a l n r a' l' e h = settle_rule a l n ∙ ap (settles L l n) e ∙ pick_yes _ _ (lt-ltb n r.size h) ∙ rw zero-add

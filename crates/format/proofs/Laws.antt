-- Reads by the turn: each span is the least of three remainders that aren't 0, and the reader then stands behind it.
use Rattle.std.specs.Prelude.{Some, None}
use Prim.Native.Nat.{ℕ, zero, suc, ◌+◌, ◌-◌, ◌<◌, min}
use mathlib.Core.Path.{◌≡◌, refl, sym, ap, subst, ◌∙◌}
use mathlib.Core.List.{List, [], ◌∷◌}
use native.Mathlib.Omega.{arith}
use native.Mathlib.Nat.{add-zero, add_assoc}
use borrow.Author.Tests.{le-ltb, ne_eqb}
use Rattle.format.specs.Pick.{pick_no}
use Rattle.format.specs.Runs.{Place, Run, Step}
use Rattle.format.specs.Runs.Place.{disk, hole}
use Rattle.format.specs.Runs.Step.{over, found, faulty}
use Rattle.format.specs.Listed.{Answer, Gives, IfGiven, either, RunList, Lawful}
use Rattle.format.specs.Listed.Answer.{given, refused}
use Rattle.format.specs.Reader.{Current, Stand, Reader, entered, left_of, left, forward, at, seek_to, Span, Reading, further, here, nothing, before, Turn, give, fetch, turn, follow, read, data_position, position_of}
use Rattle.format.specs.Reader.Turn.{stops, gives, refuses}
use Rattle.format.specs.Reader.Position.{at_byte}
use Rattle.format.specs.History.{total, NoneEmpty}
use Rattle.format.specs.Laws.{Summed, EveryReadSums, ReadMoves, behind, PositionFollows, SeeksOn}
use Rattle.format.proofs.Reader.{turn_all, settle_in}

-- SUMS. A turn's span isn't empty.
abbrev Moving : Turn → Type 0
Moving (stops r) = Unit {0}
Moving (gives x r) = 0 < x.length
Moving (refuses k v) = Unit {0}

module _ (L : RunList) (good : Lawful L) where
  give_some : (w : ℕ) (r : Reader) (s : Stand) → 0 < w → r.place < r.size → 0 < left s → Moving (give w r s)
  unfolding give
  give_some w r s hw hp hl = omega arith

  fetch_some : (w : ℕ) (r : Reader) (a l : ℕ) (x : Step) → L.step a l ≡ x → 0 < w → r.place < r.size → Moving (fetch L w r x)
  unfolding fetch left_of
  fetch_some w r a l over e hw hp = tt
  fetch_some w r a l (found x a' l') e hw hp = give_some w r (entered x a' l') hw hp (omega (arith, good.sized a l x a' l' e))
  fetch_some w r a l (faulty k v) e hw hp = tt

  turn_some : (w : ℕ) (r : Reader) → Moving (turn L w r)
  turn_some w r =
      turn_all L Moving w r (λ _. tt) (λ hw hp hl. give_some w r r.stand hw hp hl)
      (λ hw hp _. fetch_some w r r.stand.cursor r.stand.lcn (L.step r.stand.cursor r.stand.lcn) refl hw hp)

  none_summed : (r : Reader) → Summed (nothing r)
  unfolding total
  none_summed r = record { sum = refl; full = tt }

  pub every_read_sums : EveryReadSums L
  unfolding read follow total
  every_read_sums zero w r = none_summed r
  every_read_sums (suc room) w r = go (turn L w r) (turn_some w r) (every_read_sums room)
    where
      or_none : (r' : Reader) (x : Answer Reading) → IfGiven Summed x → Summed (either x (λ g. g) (nothing r'))
      or_none r' (given g) h = h
      or_none r' (refused k v) h = none_summed r'

      with : (x : Span) (g : Reading) → 0 < x.length → Summed g → Summed (before x g)
      with x g h s = record { sum = ap (λ n. x.length + n) s.sum; full = (h, s.full) }

      go : (t : Turn) → Moving t → ((w : ℕ) (r : Reader) → IfGiven Summed (read L room w r)) → IfGiven Summed (follow (read L room) w t)
      go (stops r') h more = none_summed r'
      go (gives x r') h more = with x _ h (or_none r' (read L room (w - x.length) r') (more (w - x.length) r'))
      go (refuses k v) h more = tt

  -- MOVES: with no span there is room left over, so all that can be named was.
  pub read_moves : ReadMoves L
  unfolding total
  read_moves p z w room g n hr ha = go g.spans refl
    where
      go : (xs : List Span) → g.spans ≡ xs → 0 < g.bytes
      go [] e = let q = n.unused (rw e hr) in omega arith
      go (x ∷ xs) e = let f = subst NoneEmpty e n.full in let s = n.sum ∙ ap total e in rw s (omega (arith, f.0))

  -- DATA POSITION FOLLOWS: a span's place with its length behind it is where the reader then stands.
  go_on : (c : Current) (d n : ℕ) → position_of (here c (d + n)) ≡ position_of (further (here c d) n)
  unfolding here further
  go_on None d n = refl
  go_on (Some r) d n = on r.place
    where
      on : (p : Place) → position_of (further p (d + n)) ≡ position_of (further (further p d) n)
      on (disk p) = ap at_byte (sym (add_assoc p d n))
      on hole = refl

  abbrev Follows : Reader → Turn → Type 0
  Follows r (stops r') = data_position r' ≡ data_position r
  Follows r (gives x r') = data_position r' ≡ position_of (further x.place x.length)
  Follows r (refuses k v) = Unit {0}

  give_follows : (w : ℕ) (r : Reader) (s : Stand) → Follows r (give w r s)
  unfolding give
  give_follows w r s = go_on s.current s.displacement (min w (min (left s) (r.size - r.place)))

  fetch_follows : (w : ℕ) (r : Reader) (x : Step) → Follows r (fetch L w r x)
  unfolding fetch
  fetch_follows w r over = refl
  fetch_follows w r (found x a l) = give_follows w r (entered x a l)
  fetch_follows w r (faulty k v) = tt

  turn_follows : (w : ℕ) (r : Reader) → Follows r (turn L w r)
  turn_follows w r = turn_all L (Follows r) w r (λ _. refl) (λ _ _ _. give_follows w r r.stand) (λ _ _ _. fetch_follows w r (L.step r.stand.cursor r.stand.lcn))

  pub position_follows : PositionFollows L
  unfolding read follow
  position_follows zero w r = refl
  position_follows (suc room) w r = go (turn L w r) (turn_follows w r) (position_follows room)
    where
      or_none : (r' : Reader) (x : Answer Reading) → IfGiven (λ g. data_position g.reader ≡ behind (data_position r') g.spans) x
          → let g = either x (λ g. g) (nothing r') in data_position g.reader ≡ behind (data_position r') g.spans
      or_none r' (given g) h = h
      or_none r' (refused k v) h = refl

      go : (t : Turn) → Follows r t → ((w : ℕ) (r : Reader) → IfGiven (λ g. data_position g.reader ≡ behind (data_position r) g.spans) (read L room w r))
          → IfGiven (λ g. data_position g.reader ≡ behind (data_position r) g.spans) (follow (read L room) w t)
      go (stops r') h more = h
      go (gives x r') h more =
          let y = read L room (w - x.length) r' in
          or_none r' y (more (w - x.length) r') ∙ ap (λ p. behind p (either y (λ g. g) (nothing r')).spans) h
      go (refuses k v) h more = tt

  start_of : (y : Run) (e : ℕ) → y.place ≡ disk e → position_of (here (Some y) 0) ≡ at_byte e
  unfolding here further
  start_of y e p = rw (p, add-zero)

  pub seeks_on : SeeksOn L
  unfolding seek_to forward
  seeks_on r y a l e hl st p =
      let s = r.stand in
      let w = left s in
      let t = r.place + w in
      let q : t - r.place ≡ w = omega arith in
      let z : w - w ≡ 0 = omega arith in
      let f : forward L s (t - r.place) ≡ given (record { cursor = a; lcn = l; current = Some y; displacement = 0 }) =
      rw q (pick_no _ _ (le-ltb w w (omega arith)) ∙ rw z (settle_in L good.moves s.cursor s.lcn 0 y a l st (good.sized s.cursor s.lcn y a l st))) in
      let k : seek_to L r t ≡ given (record { stand = record { cursor = a; lcn = l; current = Some y; displacement = 0 }; place = t; size = r.size }) =
      pick_no _ _ (ne_eqb t r.place (λ h. omega arith)) ∙ ap (at t r.size) (pick_no _ _ (le-ltb t r.place (omega arith)) ∙ f) in
      subst (Gives (λ r'. data_position r' ≡ at_byte e)) (sym k) (start_of y e p)

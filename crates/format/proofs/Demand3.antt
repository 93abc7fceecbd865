-- Demand 3, proved. A reader with a history tracks the list (Reader) and is sound (Sound), so each of its calls is the call on a list.
use Rattle.std.specs.Prelude.{Option, Some, None}
use Prim.Native.Nat.{ℕ, ◌+◌, ◌-◌, ◌/◌, ◌^◌, ◌<◌}
use mathlib.Core.Path.{◌≡◌, refl, sym, ap, subst, ◌∙◌}
use mathlib.Core.Bool.{true, not}
use mathlib.Core.List.{List, [], ◌∷◌}
use native.Mathlib.Omega.{arith}
use lib.ListN.{length}
use lib.IntN.{ℤ, pos, negsuc, ◌+ℤ◌}
use Rattle.format.specs.Pick.{pick_lt, pick_no}
use Rattle.format.specs.Number.{within, within_ℤ, cluster_sound}
use Rattle.format.specs.Runs.{Run, Inside}
use Rattle.format.specs.Runs.Step.{found}
use Rattle.format.specs.Listed.{Answer, Gives, IfGiven, then, either, RunList, run_list, Lawful, Listed, list, ToItsEnd}
use Rattle.format.specs.Listed.Answer.{given, refused}
use Rattle.format.specs.Listed.Listed.{ends, run, breaks}
use Rattle.format.specs.Reader.{Stand, Reader, settle, at, opened, seek_to, From, base, in_range, target, seek, Reading, read}
use Rattle.format.specs.Reader.From.{from_start}
use Rattle.format.specs.Calls.{Held, hold, opening, seeking, reading}
use Rattle.format.specs.History.{Call, after, history}
use Rattle.format.specs.History.Call.{seeks, reads}
use Rattle.format.specs.Demand3.{Named, Demand3, Demand}
use native.Mathlib.Nat.{zero-add}
use Rattle.format.proofs.Numbers.{within_is}
use Rattle.format.proofs.Powers.{sound_bounds}
use Rattle.format.proofs.Runs.{lawful, found_inside}
use Rattle.format.proofs.Reader.{At, Outcome, runs_at_most, opened_is, seek_case, settle_at, read_at}
use Rattle.format.proofs.Sound.{Good, good_sound, opened_good, seek_good, read_good}

-- A target in range is in range from the start too.
abbrev Below : Option ℕ → Type 0
Below (Some n) = n < 2 ^ 64
Below None = Unit {0}

within_below : (z : ℤ) → Below (within_ℤ z)
unfolding within
within_below (pos n) = pick_lt Below n (2 ^ 64) _ _ (λ h. h) (λ _. tt)
within_below (negsuc n) = tt

target_again : (b : ℕ) (a : ℤ) (t : ℕ) → target b a ≡ given t → target 0 (pos t) ≡ given t
unfolding target
target_again b a t e = go (within_ℤ (pos b +ℤ a)) (within_below (pos b +ℤ a)) e
  where
    go : (x : Option ℕ) → Below x → in_range x ≡ given t → in_range (within_ℤ (pos 0 +ℤ pos t)) ≡ given t
    go (Some n) h q = let f : n ≡ t = cc in rw zero-add (ap in_range (sym (within_is t (omega arith))))
    go None h q = cc

-- A list that decodes to its end refuses nothing.
settle_gives : (L : RunList) (d : Listed) (n : ℕ) → ToItsEnd d → Gives (λ s. Unit) (settle L d n)
unfolding settle
settle_gives L (ends l) n e = tt
settle_gives L (run r a l rest) n e = pick_lt (Gives (λ s. Unit)) n r.size _ _ (λ y. tt) (λ y. settle_gives L rest (n - r.size) e)
settle_gives L (breaks k v) n e = e

module _ (cluster : ℕ) (s : List ℕ) (c : cluster_sound cluster ≡ true) where
  abbrev L : RunList
  L = run_list cluster s

  full : 0 < cluster
  full = omega (arith, (sound_bounds cluster c).0)

  good : Lawful L
  good = lawful cluster s full

  inside : (a l : ℕ) (r : Run) (a' l' : ℕ) → L.step a l ≡ found r a' l' → Inside r.place r.size
  inside a l r a' l' e = found_inside cluster s a l r a' l' full e

  -- What holds of a reader that has a history of place p over this list.
  pub record Since (p z : ℕ) (h : Held) : Type 0 where
    pub cluster_is : h.cluster ≡ cluster
    pub tracks : At L p z h.reader
    pub stands : Good L.fin h.reader.stand

  -- Of such a reader 21 never is.
  seek_is : (p z : ℕ) (h : Held) → Since p z h → (f : From) (a : ℤ) → seeking s h f a ≡ hold cluster (then (target (base p z f) a) (seek_to L h.reader))
  unfolding seeking seek
  seek_is p z h i f a =
      pick_no _ _ (ap not (good_sound (length s) h (rw i.cluster_is c) i.stands)) ∙ rw (i.cluster_is, i.tracks.place, i.tracks.size)

  read_is : (p z : ℕ) (h : Held) → Since p z h → (w : ℕ) (store : List ℕ) → reading s h w store ≡ read L (length store / 3) w h.reader
  unfolding reading
  read_is p z h i w store = pick_no _ _ (ap not (good_sound (length s) h (rw i.cluster_is c) i.stands)) ∙ rw i.cluster_is

  open_is : (z : ℕ) → opening cluster s z ≡ hold cluster (opened L z)
  unfolding opening
  open_is z = pick_no _ _ (ap not c)

  -- Opening, every call and every history leave such a reader.
  held_since : (p z : ℕ) (x : Answer Reader) → IfGiven (At L p z) x → IfGiven (λ r. Good L.fin r.stand) x → IfGiven (Since p z) (hold cluster x)
  held_since p z (given r) t g = record { cluster_is = refl; tracks = t; stands = g }
  held_since p z (refused k v) t g = tt

  pub open_since : (z : ℕ) → IfGiven (Since 0 z) (opening cluster s z)
  open_since z = rw (open_is z) (held_since 0 z (opened L z) (rw (opened_is L z) (settle_at L good 0 z)) (opened_good L good inside z))

  seek_since : (p z : ℕ) (h : Held) → Since p z h → (x : Answer ℕ) → IfGiven (Since (either x (λ t. t) p) z) (hold cluster (then x (seek_to L h.reader)))
  seek_since p z h i (given t) =
      held_since t z (seek_to L h.reader t)
      (seek_case L p z t h.reader i.tracks (IfGiven (At L t z)) (λ e. rw e i.tracks) (settle_at L good t z))
      (seek_good L good inside h.reader (given t) i.stands)
  seek_since p z h i (refused k v) = tt

  call_since : (z : ℕ) (h : Held × ℕ) (call : Call) → Since h.1 z h.0 → Since (after s z h call).1 z (after s z h call).0
  unfolding after
  call_since z h (seeks f a) i =
      let x = target (base h.1 z f) a in
      rw (seek_is h.1 z h.0 i f a) (go (either x (λ t. t) h.1) (hold cluster (then x (seek_to L h.0.reader))) (seek_since h.1 z h.0 i x))
    where
      go : (to : ℕ) (x : Answer Held) → IfGiven (Since to z) x → Since (either x (λ k. (k, to)) h).1 z (either x (λ k. (k, to)) h).0
      go to (given k) o = o
      go to (refused k v) o = i
  call_since z h (reads w store) i =
      let room = length store / 3 in
      rw (read_is h.1 z h.0 i w store) (go (read L room w h.0.reader) (read_at L good h.1 z w room h.0.reader i.tracks) (read_good L good inside room w h.0.reader i.stands))
    where
      go : (x : Answer Reading) → Outcome L h.1 z w (length store / 3) x → IfGiven (λ g. Good L.fin g.reader.stand) x → Since (either x (λ g. (record { cluster = h.0.cluster; reader = g.reader }, h.1 + g.bytes)) h).1 z (either x (λ g. (record { cluster = h.0.cluster; reader = g.reader }, h.1 + g.bytes)) h).0
      go (given g) o k = record { cluster_is = i.cluster_is; tracks = o.reader; stands = k }
      go (refused k v) o n = i

  pub history_since : (z : ℕ) (h : Held × ℕ) (calls : List Call) → Since h.1 z h.0 → Since (history s z h calls).1 z (history s z h calls).0
  unfolding history
  history_since z h [] i = i
  history_since z h (x ∷ calls) i = history_since z (after s z h x) calls (call_since z h x i)

  -- What is asked of a reader with a history.
  module _ (end : ToItsEnd (list L)) (z : ℕ) where
    names : (p w room : ℕ) (x : Answer Reading) → Outcome L p z w room x → Gives (Named L p z w room) x
    names p w room (given g) o =
        let m = runs_at_most (list L) p in
        record { bytes = o.named; full = o.full; sum = o.sum; fits = o.fits; enough = λ u. omega (arith, o.most, o.least (omega arith)); unused = λ u. omega (arith, o.most, o.least (omega arith)) }
    names p w room (refused k v) o = subst (Gives (λ s. Unit)) o (settle_gives L (list L) p end)

    placed : (t : ℕ) (x : Answer Stand) → Gives (λ s. Unit) x → Gives (λ h. h.reader.place ≡ t) (hold cluster (at t z x))
    placed t (given s) u = refl
    placed t (refused k v) u = u

    -- Newly opened and sought to t it is what settles there.
    anew : (new : Held) → opening cluster s z ≡ given new → Since 0 z new → (t : ℕ) → seek_to L new.reader t ≡ at t z (settle L (list L) t)
    anew new e i t = seek_case L 0 z t new.reader i.tracks (λ x. x ≡ at t z (settle L (list L) t)) (λ q. rw q (first (opened L z) (sym (open_is z) ∙ e) ∙ opened_is L z)) refl
      where
        first : (x : Answer Reader) → hold cluster x ≡ given new → given new.reader ≡ x
        first (given r) q = let f : record { cluster = cluster; reader = r } ≡ new = cc in rw (← f)
        first (refused k v) q = cc

    asked : (new : Held) → opening cluster s z ≡ given new → Since 0 z new → (h : Held) (p : ℕ) → Since p z h → Demand3 cluster s z new h p
    unfolding base
    asked new e n h p i = record {
      parts = (i.cluster_is, i.tracks.size);
      place = i.tracks.place;
      reads = λ w store. rw (read_is p z h i w store) (names p w (length store / 3) (read L (length store / 3) w h.reader) (read_at L good p z w (length store / 3) h.reader i.tracks));
      seeks = λ f a t q ne. rw (seek_is p z h i f a, q, seek_is 0 z new n from_start (pos t), target_again (base p z f) a t q, anew new e n t) (seek_case L p z t h.reader i.tracks (λ x. hold cluster x ≡ hold cluster (at t z (settle L (list L) t))) (λ y. absurd (ne y)) refl);
      goes = λ f a t q. rw (seek_is p z h i f a, q) (seek_case L p z t h.reader i.tracks (λ x. Gives (λ h'. h'.reader.place ≡ t) (hold cluster x)) (λ y. i.tracks.place ∙ sym y) (placed t (settle L (list L) t) (settle_gives L (list L) t end)));
    }

    opens : (x : Answer Held) → opening cluster s z ≡ x → IfGiven (Since 0 z) x → Gives (λ new. (calls : List Call) → let h = history s z (new, 0) calls in Demand3 cluster s z new h.0 h.1) x
    opens (given new) e i = λ calls. asked new e i (history s z (new, 0) calls).0 (history s z (new, 0) calls).1 (history_since z (new, 0) calls i)
    opens (refused k v) e i = subst (Gives (λ h. h.reader.place ≡ 0)) (sym (ap (hold cluster) (opened_is L z)) ∙ sym (open_is z) ∙ e) (placed 0 (settle L (list L) 0) (settle_gives L (list L) 0 end))

-- THE THEOREM.
pub demand3 : (cluster : ℕ) (s : List ℕ) → Demand cluster s
demand3 cluster s c end z = opens cluster s c end z (opening cluster s z) refl (open_since cluster s c z)

-- What a repair leaves, in one form: the record with the first j sectors mended, for some j. From there: the length never changes,
-- bytes other than sector ends never change, a mended end is its entry as it stood (and plainly the array's entry where the
-- array lies on no sector's end), and a mismatch at k leaves the sectors before k mended and everything else as lent.
use Prim.Native.Nat.{ℕ, zero, suc, ◌+◌, ◌-◌, ◌*◌, ◌<◌, ◌≤◌}
use mathlib.Core.Path.{◌≡◌, refl, sym, ap, subst, ◌∙◌}
use mathlib.Core.Bool.{Bool, true, false, not, ◌&&◌}
use mathlib.Core.Logic.{◌⊎◌, inl, inr, ⊎_elim}
use mathlib.Core.List.{List, [], ◌∷◌}
use native.Mathlib.Omega.{arith}
use native.Mathlib.Nat.{add-zero}
use native.Mathlib.Numerals.{add-one}
use native.Mathlib.Decide.{dec_lt}
use lib.ListN.{length, get_or, set, length-set}
use lib.Seq.{get_or-set_same, get_or-set_other}
use lib.Dec.{ltb, eqb}
use lib.IntN.{pos}
use Rattle.format.specs.Pick.{pick_all}
use Rattle.format.specs.Record.{Repair, Sector, end_at, entry_at, ended, mend, mismatch, after, sectors, repair, sequence_offset, sequence_count, length_fits, reaches_past, from_number}
use Rattle.format.proofs.Record.{reaches_not}
use Rattle.format.specs.Record.Repair.{repaired, refused}

-- the record with its first j sectors mended, each by its entry as it stands then
unfoldable pub up_to : ℕ → ℕ → List ℕ → List ℕ
up_to offset zero s = s
up_to offset (suc j) s = ended offset j (up_to offset j s) (up_to offset j s)

abbrev pub left : Repair → List ℕ
left (repaired s) = s
left (refused k vs s) = s

-- neither byte of sector j's end
abbrev pub Off : ℕ → ℕ → Type 0
Off i j = (i ≡ end_at j → ⊥) × (i ≡ end_at j + 1 → ⊥)

module _ (offset : ℕ) where
  ended_elsewhere : (u : List ℕ) (k i : ℕ) → Off i k → get_or (ended offset k u u) i 0 ≡ get_or u i 0
  unfolding ended
  ended_elsewhere u k i h =
      get_or-set_other (set u (end_at k) (get_or u (entry_at offset k) 0)) (end_at k + 1) i (get_or u (entry_at offset k + 1) 0) 0 h.1
      ∙ get_or-set_other u (end_at k) i (get_or u (entry_at offset k) 0) 0 h.0

  ended_ends : (u : List ℕ) (k : ℕ) → end_at k + 1 < length u → (get_or (ended offset k u u) (end_at k) 0 ≡ get_or u (entry_at offset k) 0) × (get_or (ended offset k u u) (end_at k + 1) 0 ≡ get_or u (entry_at offset k + 1) 0)
  unfolding ended
  ended_ends u k room =
      let x = get_or u (entry_at offset k) 0 in
      let y = get_or u (entry_at offset k + 1) 0 in (
        get_or-set_other (set u (end_at k) x) (end_at k + 1) (end_at k) y 0 (λ e. omega (arith, e)) ∙ get_or-set_same u (end_at k) x 0 (omega arith),
        get_or-set_same (set u (end_at k) x) (end_at k + 1) y 0 (simp length-set room),
      )

module _ (offset : ℕ) (s : List ℕ) where
  pub up_to_length : (j : ℕ) → length (up_to offset j s) ≡ length s
  unfolding up_to ended
  up_to_length zero = refl
  up_to_length (suc j) = simp length-set (up_to_length j)

  pub up_to_elsewhere : (j i : ℕ) → ((k : ℕ) → k < j → Off i k) → get_or (up_to offset j s) i 0 ≡ get_or s i 0
  unfolding up_to
  up_to_elsewhere zero i h = refl
  up_to_elsewhere (suc j) i h = ended_elsewhere offset (up_to offset j s) j i (h j (omega arith)) ∙ up_to_elsewhere j i (λ k less. h k (omega arith))

  -- a mended end is its entry as it stood, whatever is mended after it
  pub up_to_ends : (j k : ℕ) → k < j → end_at k + 1 < length s → (get_or (up_to offset j s) (end_at k) 0 ≡ get_or (up_to offset k s) (entry_at offset k) 0) × (get_or (up_to offset j s) (end_at k + 1) 0 ≡ get_or (up_to offset k s) (entry_at offset k + 1) 0)
  unfolding up_to
  up_to_ends zero k h room = absurd (omega arith)
  up_to_ends (suc j) k h room =
      elim (dec_lt k j) [
        | yes less ↦ (let more = up_to_ends j k less room in (
          ended_elsewhere offset (up_to offset j s) j (end_at k) ((λ e. omega (arith, e)), (λ e. omega (arith, e))) ∙ more.0,
          ended_elsewhere offset (up_to offset j s) j (end_at k + 1) ((λ e. omega (arith, e)), (λ e. omega (arith, e))) ∙ more.1,
        ))
        | no more ↦ (let e : j ≡ k = omega arith in rw e (ended_ends offset (up_to offset k s) k (rw (up_to_length k) room)))
      ]

  -- where the array lies on no sector's end, the ends are plainly the array's entries
  pub up_to_entries : (j k : ℕ) → k < j → end_at k + 1 < length s → ((m : ℕ) → m < k → Off (entry_at offset k) m × Off (entry_at offset k + 1) m) → (get_or (up_to offset j s) (end_at k) 0 ≡ get_or s (entry_at offset k) 0) × (get_or (up_to offset j s) (end_at k + 1) 0 ≡ get_or s (entry_at offset k + 1) 0)
  up_to_entries j k h room apart =
      let e = up_to_ends j k h room in
      (e.0 ∙ up_to_elsewhere k (entry_at offset k) (λ m less. (apart m less).0), e.1 ∙ up_to_elsewhere k (entry_at offset k + 1) (λ m less. (apart m less).1))

  -- sector j's end, with the sectors before it mended, is the number lo hi
  unfoldable pub end_is : ℕ → ℕ → ℕ → Bool
  end_is lo hi j = eqb (get_or (up_to offset j s) (end_at j) 0) lo && eqb (get_or (up_to offset j s) (end_at j + 1) 0) hi

  -- what n sectors from k on leave: all of them mended, each end the number before; or those before the first j whose end is not
  -- the number
  abbrev pub Left : ℕ → ℕ → ℕ → ℕ → Repair → Type 0
  Left lo hi n k (repaired t) = (t ≡ up_to offset (k + n) s) × ((j : ℕ) → k ≤ j → j < k + n → end_is lo hi j ≡ true)
  Left lo hi n k (refused m vs t) = (j : ℕ) × (k ≤ j) × (j < k + n) × (t ≡ up_to offset j s) × (m ≡ 12) × (vs ≡ pos j ∷ pos (get_or t (end_at j) 0) ∷ pos (get_or t (end_at j + 1) 0) ∷ []) × (end_is lo hi j ≡ false) × ((i : ℕ) → k ≤ i → i < j → end_is lo hi i ≡ true)

  next : (k : ℕ) (t : List ℕ) → t ≡ up_to offset k s → ended offset k t t ≡ up_to offset (k + 1) s
  unfolding up_to
  next k t e = rw (add-one k) (ap (λ (x : List ℕ). ended offset k x x) e)

  before : (lo hi k j : ℕ) → end_is lo hi k ≡ true → ((i : ℕ) → k + 1 ≤ i → i < j → end_is lo hi i ≡ true) → (i : ℕ) → k ≤ i → i < j → end_is lo hi i ≡ true
  before lo hi k j e h i low high = elim (dec_lt k i) [ yes p ↦ h i (omega arith) high | no p ↦ (let z : k ≡ i = omega arith in rw z at e) ]

  left_shift : (lo hi n k : ℕ) (r : Repair) → end_is lo hi k ≡ true → Left lo hi n (k + 1) r → Left lo hi (suc n) k r
  left_shift lo hi n k (repaired t) f h =
      let e : k + 1 + n ≡ k + suc n = omega arith in
      (h.0 ∙ ap (λ (x : ℕ). up_to offset x s) e, before lo hi k (k + suc n) f (λ i low high. h.1 i low (omega arith)))
  left_shift lo hi n k (refused m vs t) f h = (h.0, omega (arith, h.1), omega (arith, h.2), h.3, h.4, h.5, h.6, before lo hi k h.0 f h.7)

  sectors_left : (n k lo hi : ℕ) (t : List ℕ) → t ≡ up_to offset k s → Left lo hi n k (sectors n offset lo hi k s t)
  unfolding sectors mend mismatch end_is
  sectors_left zero k lo hi t e = (e ∙ ap (λ (x : ℕ). up_to offset x s) (sym (add-zero k)), λ j low high. absurd (omega arith))
  sectors_left (suc n) k lo hi t e =
      pick_all (λ (x : Sector). Left lo hi (suc n) k (after x k s (sectors n offset lo hi (k + 1) s))) (eqb (get_or t (end_at k) 0) lo && eqb (get_or t (end_at k + 1) 0) hi) _ _
      (λ f. left_shift lo hi n k (sectors n offset lo hi (k + 1) s (ended offset k t t)) (rw e at f) (sectors_left n (k + 1) lo hi (ended offset k t t) (next k t e)))
      (λ f. (k, omega arith, omega arith, e, refl, refl, rw e at f, λ i low high. absurd (omega arith)))

-- the sequence number, of the record as it was lent
abbrev low_of : List ℕ → ℕ
low_of s = get_or s (sequence_offset s) 0

abbrev high_of : List ℕ → ℕ
high_of s = get_or s (sequence_offset s + 1) 0

-- THE WHOLE REPAIR: refused with 8 to 11 the record is as lent; otherwise it is what the sectors leave.
abbrev pub Leaves : List ℕ → Repair → Type 0
Leaves s (repaired t) = (512 * (sequence_count s - 1) ≤ length s) × Left (sequence_offset s) s (low_of s) (high_of s) (sequence_count s - 1) 0 (repaired t)
Leaves s (refused m vs t) = ((t ≡ s) × (m < 12)) ⊎ Left (sequence_offset s) s (low_of s) (high_of s) (sequence_count s - 1) 0 (refused m vs t)

of_sectors : (s : List ℕ) (r : Repair) → 512 * (sequence_count s - 1) ≤ length s → Left (sequence_offset s) s (low_of s) (high_of s) (sequence_count s - 1) 0 r → Leaves s r
of_sectors s (repaired t) room h = (room, h)
of_sectors s (refused m vs t) room h = inr h

pub repair_leaves : (s : List ℕ) → Leaves s (repair s)
unfolding repair up_to
repair_leaves s =
    pick_all (Leaves s) (not (length_fits (length s))) _ _ (λ _. inl (refl, omega arith)) (λ _.
    pick_all (Leaves s) (ltb (length s) (sequence_offset s + 2)) _ _ (λ _. inl (refl, omega arith)) (λ _.
    pick_all (Leaves s) (eqb (sequence_count s) 0) _ _ (λ _. inl (refl, omega arith)) (λ _.
    pick_all (Leaves s) (reaches_past (length s) (sequence_offset s) (sequence_count s)) _ _ (λ _. inl (refl, omega arith)) (λ e.
    of_sectors s (from_number (sequence_offset s) (sequence_count s) s) (reaches_not (length s) (sequence_offset s) (sequence_count s) e).1 (sectors_left (sequence_offset s) s (sequence_count s - 1) 0 (low_of s) (high_of s) s refl)))))

-- so the record left is the lent one with its first j sectors mended
up_to_some : (s : List ℕ) (r : Repair) → Leaves s r → (j : ℕ) × (left r ≡ up_to (sequence_offset s) j s)
unfolding up_to
up_to_some s (repaired t) h = (0 + (sequence_count s - 1), h.1.0)
up_to_some s (refused m vs t) h = ⊎_elim (λ e. (0, e.0)) (λ w. (w.0, w.3)) h

pub repair_up_to : (s : List ℕ) → (j : ℕ) × (left (repair s) ≡ up_to (sequence_offset s) j s)
repair_up_to s = up_to_some s (repair s) (repair_leaves s)

pub repair_length : (s : List ℕ) → length (left (repair s)) ≡ length s
repair_length s = let h = repair_up_to s in ap length h.1 ∙ up_to_length (sequence_offset s) s h.0

pub repair_elsewhere : (s : List ℕ) (i : ℕ) → ((k : ℕ) → Off i k) → get_or (left (repair s)) i 0 ≡ get_or s i 0
repair_elsewhere s i h = let e = repair_up_to s in ap (λ (t : List ℕ). get_or t i 0) e.1 ∙ up_to_elsewhere (sequence_offset s) s e.0 i (λ k _. h k)

-- ON SUCCESS each sector's end is its entry as it stood when the sectors before it were mended.
pub repaired_ends : (s t : List ℕ) (k : ℕ) → repair s ≡ repaired t → k < sequence_count s - 1 → (get_or t (end_at k) 0 ≡ get_or (up_to (sequence_offset s) k s) (entry_at (sequence_offset s) k) 0) × (get_or t (end_at k + 1) 0 ≡ get_or (up_to (sequence_offset s) k s) (entry_at (sequence_offset s) k + 1) 0)
repaired_ends s t k e h =
    let l = subst (Leaves s) e (repair_leaves s) in
    rw l.1.0 (up_to_ends (sequence_offset s) s (0 + (sequence_count s - 1)) k (omega arith) (omega (arith, l.0)))

-- and was the sequence number before
pub repaired_matched : (s t : List ℕ) (k : ℕ) → repair s ≡ repaired t → k < sequence_count s - 1 → end_is (sequence_offset s) s (low_of s) (high_of s) k ≡ true
repaired_matched s t k e h = (subst (Leaves s) e (repair_leaves s)).1.1 k (omega arith) (omega arith)

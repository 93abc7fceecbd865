-- Run lists: what stands at a cursor of a list after a previous LCN, with refusals 13 to 19 in their order, each its number and its
-- values. The cursor given is the refused run's header.
use Rattle.std.specs.Prelude.{ℕ, ◌+◌, ◌-◌, ◌*◌, ◌/◌, ◌%◌, ◌^◌, ◌<◌, Bool, true, not, List, [], ◌∷◌, length, get_or, ltb, leb, eqb, ℤ, pos, negsuc, ◌+ℤ◌, None, Option, Some}
use Rattle.format.specs.Pick.{pick}
use Rattle.format.specs.Number.{unsigned, signed, within, within_ℤ, cluster_sound}

-- a run is a size in bytes with either a disk place or a hole inside it
pub data Place : Type 0 where
  disk : ℕ → Place
  hole : Place

pub record Run : Type 0 where
  pub size : ℕ
  pub place : Place

-- the list is over; a run with the cursor and the LCN behind it; a refused run
pub data Step : Type 0 where
  over : Step
  found : Run → ℕ → ℕ → Step
  faulty : ℕ → List ℤ → Step

-- THE HOLE RULE, of the delta's byte length, the delta and the LCN that it leads to: delta 0 is a hole, and so is LCN 0.
unfoldable pub is_hole : ℕ → ℤ → ℕ → Bool
is_hole n (pos d) to = pick (eqb d 0) true (eqb to 0)
is_hole n (negsuc d) to = eqb to 0

-- rule 19: a disk run ends inside
unfoldable pub ends : ℕ → ℕ → Bool
ends p size = ltb (p + size) (2 ^ 64)

-- the same of a place: nothing is asked of a hole
abbrev pub Inside : Place → ℕ → Type 0
Inside (disk p) size = p + size < 2 ^ 64
Inside hole size = Unit {0}

module _ (cluster at : ℕ) where
  -- at a place: 18, 19
  abbrev pub on_disk : ℕ → ℕ → ℕ → Option ℕ → Step
  on_disk next lcn size None = faulty 18 (pos at ∷ [])
  on_disk next lcn size (Some p) = pick (ends p size) (found (record { size = size; place = disk p }) next lcn) (faulty 19 (pos at ∷ []))

  -- at the LCN that the delta d of n bytes leads to: 17
  abbrev pub moved : ℕ → ℕ → ℕ → ℕ → ℤ → Option ℕ → Step
  moved next lcn size n d None = faulty 17 (pos at ∷ pos lcn ∷ [])
  moved next lcn size n d (Some to) = pick (is_hole n d to) (found (record { size = size; place = hole }) next to) (on_disk next to size (within (to * cluster)))

  -- the delta, of n bytes: 13, 14
  unfoldable pub delta_part : List ℕ → ℕ → ℕ → ℕ → ℕ → Step
  delta_part s lcn from n size =
      pick (ltb 8 n) (faulty 13 (pos at ∷ []))
      (pick (ltb (length s - from) n) (faulty 14 (pos at ∷ []))
      (moved (from + n) lcn size n (signed s from n) (within_ℤ (pos lcn +ℤ signed s from n))))

  -- with the size, where it is one: 16
  abbrev pub sized : List ℕ → ℕ → ℕ → Option ℕ → Step
  sized s lcn head None = faulty 16 (pos at ∷ [])
  sized s lcn head (Some size) = delta_part s lcn (at + 1 + head % 16) (head / 16) size

  -- the count, of as many bytes as the header's low nibble says: 13, 14, 15
  unfoldable pub count_part : List ℕ → ℕ → ℕ → Step
  count_part s lcn head =
      pick (eqb head 0) over
      (pick (ltb 8 (head % 16)) (faulty 13 (pos at ∷ []))
      (pick (ltb (length s - (at + 1)) (head % 16)) (faulty 14 (pos at ∷ []))
      (pick (eqb (unsigned s (at + 1) (head % 16)) 0) (faulty 15 (pos at ∷ []))
      (sized s lcn head (within (unsigned s (at + 1) (head % 16) * cluster))))))

unfoldable pub step : ℕ → List ℕ → ℕ → ℕ → Step
step cluster s at lcn = pick (leb (length s) at) over (count_part cluster at s lcn (get_or s at 0))

-- the public call: 21 before all others
unfoldable pub next : ℕ → List ℕ → ℕ → ℕ → Step
next cluster s at lcn =
    pick (not (cluster_sound cluster)) (faulty 21 [])
    (pick (ltb (length s) at) (faulty 21 [])
    (step cluster s at lcn))

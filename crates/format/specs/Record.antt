-- Record repair: the outcome and the record that is left behind, by the steps as they are written. The sequence number is copied
-- first; sector by sector, the two bytes at its end must equal the number, and are then replaced by the sector's entry as it stands
-- at that moment.
use Rattle.std.specs.Prelude.{ℕ, zero, suc, ◌+◌, ◌-◌, ◌*◌, Bool, true, not, ◌&&◌, List, [], ◌∷◌, length, get_or, set, ltb, eqb, ℤ, pos}
use Rattle.format.specs.Pick.{pick}
use Rattle.format.specs.Number.{unsigned, between}

-- the record left behind, and where it was refused the number and the values
pub data Repair : Type 0 where
  repaired : List ℕ → Repair
  refused : ℕ → List ℤ → List ℕ → Repair

-- The rule for a record's length: 8 to 4,096 bytes.
abbrev pub min_record : ℕ
min_record = 8

abbrev pub max_record : ℕ
max_record = 4096

unfoldable pub length_fits : ℕ → Bool
length_fits n = between min_record max_record n

-- The fields.
abbrev pub sequence_offset : List ℕ → ℕ
sequence_offset s = unsigned s 4 2

abbrev pub sequence_count : List ℕ → ℕ
sequence_count s = unsigned s 6 2

-- where sector k's end stands, and entry k
abbrev pub end_at : ℕ → ℕ
end_at k = 510 + 512 * k

abbrev pub entry_at : ℕ → ℕ → ℕ
entry_at offset k = offset + 2 + 2 * k

-- sector k's end in s, replaced by its entry as it stands in `from`
unfoldable pub ended : ℕ → ℕ → List ℕ → List ℕ → List ℕ
ended offset k from s = set (set s (end_at k) (get_or from (entry_at offset k) 0)) (end_at k + 1) (get_or from (entry_at offset k + 1) 0)

-- one sector: mended by the entry of `from`, or the two bytes that were found and the record as it stands
pub data Sector : Type 0 where
  mended : List ℕ → Sector
  torn : ℕ → ℕ → List ℕ → Sector

unfoldable pub mend : ℕ → ℕ → ℕ → ℕ → List ℕ → List ℕ → Sector
mend offset lo hi k from s =
    pick (eqb (get_or s (end_at k) 0) lo && eqb (get_or s (end_at k + 1) 0) hi) (mended (ended offset k from s))
    (torn (get_or s (end_at k) 0) (get_or s (end_at k + 1) 0) s)

-- The mismatch rule: what a wrong end at k gives, and what it leaves, of the record as it was lent and as it stands.
unfoldable pub mismatch : ℕ → ℕ → ℕ → List ℕ → List ℕ → Repair
mismatch k a b lent s = refused 12 (pos k ∷ pos a ∷ pos b ∷ []) s

-- n sectors, from k on, of a lent record as it stands
abbrev pub after : Sector → ℕ → List ℕ → (List ℕ → Repair) → Repair
after (mended s) k lent rest = rest s
after (torn a b s) k lent rest = mismatch k a b lent s

unfoldable pub sectors : ℕ → ℕ → ℕ → ℕ → ℕ → List ℕ → List ℕ → Repair
sectors zero offset lo hi k lent s = repaired s
sectors (suc n) offset lo hi k lent s = after (mend offset lo hi k s s) k lent (sectors n offset lo hi (k + 1) lent)

-- the sequence number, copied from the record as it was lent
abbrev pub from_number : ℕ → ℕ → List ℕ → Repair
from_number offset count s = sectors (count - 1) offset (get_or s offset 0) (get_or s (offset + 1) 0) 0 s s

-- the array or the sectors reach past the record
unfoldable pub reaches_past : ℕ → ℕ → ℕ → Bool
reaches_past len offset count = pick (ltb len (offset + 2 * count)) true (ltb len (512 * (count - 1)))

unfoldable pub repair : List ℕ → Repair
repair s =
    pick (not (length_fits (length s))) (refused 8 (pos (length s) ∷ []) s)
    (pick (ltb (length s) (sequence_offset s + 2)) (refused 9 (pos (sequence_offset s) ∷ []) s)
    (pick (eqb (sequence_count s) 0) (refused 10 [] s)
    (pick (reaches_past (length s) (sequence_offset s) (sequence_count s)) (refused 11 (pos (sequence_count s) ∷ []) s)
    (from_number (sequence_offset s) (sequence_count s) s))))

-- Repairs worked out by hand, in one table under one proved statement: a sample record with some bytes changed, and what is left.
-- The sample: 1,024 bytes, the sequence number 07 00 at 48, entries A1 A2 and B1 B2.
use Rattle.std.specs.Prelude.{ℕ, ◌≡◌, refl, List, [], ◌∷◌, replicate}
use lib.IntN.{pos}
use Rattle.format.specs.Pick.{pick}
use Rattle.format.specs.Number.{little, unsigned, between}
use Rattle.format.specs.Record.{ended, mend, mismatch, sectors, length_fits, reaches_past, repair}
use Rattle.format.specs.Record.Repair.{repaired, refused}
use Rattle.format.specs.Sample.{Change, changed}
use Rattle.format.specs.Sample.Change.{at}

unfoldable pub record_sample : List ℕ
record_sample =
    changed (replicate 1024 0) (
    at 0 0x46 ∷ at 1 0x49 ∷ at 2 0x4c ∷ at 3 0x45
    ∷ at 4 48 ∷ at 6 3
    ∷ at 48 7 ∷ at 50 0xa1 ∷ at 51 0xa2 ∷ at 52 0xb1 ∷ at 53 0xb2
    ∷ at 510 7 ∷ at 1022 7 ∷ [])

-- what is lent, and what a repair of it leaves: a refusal, or the changes to it
pub data Case : Type 0 where
  leaves : List Change → List Change → Case
  refuses : List Change → ℕ → List lib.IntN.ℤ → List Change → Case

abbrev lent : List Change → List ℕ
lent cs = changed record_sample cs

abbrev pub Holds : Case → Type 0
Holds (leaves cs ds) = repair (lent cs) ≡ repaired (changed (lent cs) ds)
Holds (refuses cs k vs ds) = repair (lent cs) ≡ refused k vs (changed (lent cs) ds)

abbrev pub AllHold : List Case → Type 0
AllHold [] = Unit {0}
AllHold (c ∷ cs) = Holds c × AllHold cs

abbrev pub table : List Case
table =
    leaves [] (at 510 0xa1 ∷ at 511 0xa2 ∷ at 1022 0xb1 ∷ at 1023 0xb2 ∷ [])
    -- a mismatch at 1 leaves sector 0 repaired; at 0 nothing
    ∷ refuses (at 1022 8 ∷ []) 12 (pos 1 ∷ pos 8 ∷ pos 0 ∷ []) (at 510 0xa1 ∷ at 511 0xa2 ∷ [])
    ∷ refuses (at 1023 9 ∷ []) 12 (pos 1 ∷ pos 7 ∷ pos 9 ∷ []) (at 510 0xa1 ∷ at 511 0xa2 ∷ [])
    ∷ refuses (at 510 8 ∷ at 1022 8 ∷ []) 12 (pos 0 ∷ pos 8 ∷ pos 0 ∷ []) []
    -- count 1 changes nothing, 0 is refused, 4 needs more sectors than there are
    ∷ leaves (at 6 1 ∷ at 510 8 ∷ []) []
    ∷ refuses (at 6 0 ∷ []) 10 [] []
    ∷ refuses (at 6 4 ∷ []) 11 (pos 4 ∷ []) []
    -- the array up to the record's very end, one byte further, and the number up to the end, one byte further
    ∷ refuses (at 4 0xfa ∷ at 5 3 ∷ []) 12 (pos 0 ∷ pos 7 ∷ pos 0 ∷ []) []
    ∷ refuses (at 4 0xfb ∷ at 5 3 ∷ []) 11 (pos 3 ∷ []) []
    ∷ leaves (at 4 0xfe ∷ at 5 3 ∷ at 6 1 ∷ []) []
    ∷ refuses (at 4 0xfc ∷ at 5 3 ∷ []) 11 (pos 3 ∷ []) []
    ∷ refuses (at 4 0xff ∷ at 5 3 ∷ []) 9 (pos 1023 ∷ []) []
    -- entry 1 lies on the end of sector 0: it is what sector 0's repair left there
    ∷ leaves (at 4 0xfa ∷ at 5 1 ∷ at 506 7 ∷ at 508 0xc1 ∷ at 509 0xc2 ∷ []) (at 510 0xc1 ∷ at 511 0xc2 ∷ at 1022 0xc1 ∷ at 1023 0xc2 ∷ [])
    -- entry 0 begins on the byte before the end of sector 0 and overlaps it by one: both bytes are read before either is written
    ∷ leaves (at 4 0xfb ∷ at 5 1 ∷ at 6 2 ∷ at 507 7 ∷ at 509 0xc1 ∷ []) (at 510 0xc1 ∷ at 511 7 ∷ [])
    -- the number itself lies on the end of sector 0: sector 1 is compared with the copy
    ∷ leaves (at 4 0xfe ∷ at 5 1 ∷ at 512 0xd1 ∷ at 513 0xd2 ∷ at 514 0xe1 ∷ []) (at 510 0xd1 ∷ at 511 0xd2 ∷ at 1022 0xe1 ∷ at 1023 0 ∷ [])
    ∷ []

pub cases : AllHold table
unfolding pick little unsigned between ended mend mismatch sectors length_fits reaches_past repair changed record_sample
cases = (refl, (refl, (refl, (refl, (refl, (refl, (refl, (refl, (refl, (refl, (refl, (refl, (refl, (refl, (refl, tt)))))))))))))))

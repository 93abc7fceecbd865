-- Each refusal's number and values, in the order in which they are told. No two refusals are shown alike.
use Rattle.std.specs.Fmt.{decimal, signed_decimal}
use Rattle.std.specs.Prelude.{◌<◌, ◌^◌, negsuc, Some, None, slice_get, codes, ◌++◌, ℕ, ◌≡◌, refl, List, [], ◌∷◌, get_or, eqb, ℤ, pos, nat_abs, Option}
use Rattle.format.specs.Pick.{pick}
use Rattle.refusal.specs.declared.Refusal.{Refusal}
use Rattle.refusal.specs.declared.Refusal.TheVariants.{Short, Mark, PerCluster, SectorSize, ClusterSize, MftLcn, RecordInfo, RecordLength, SequenceOffset, SequenceCount, SequenceArray, Torn, Nibble, Cut, NoClusters, RunSize, RunLcn, RunPlace, RunEnd, Target, Unsound, ListLength}

abbrev pub number : Refusal → ℕ
number Short = 1
number (Mark a b) = 2
number (PerCluster b) = 3
number (SectorSize size) = 4
number (ClusterSize size) = 5
number MftLcn = 6
number (RecordInfo info cluster) = 7
number (RecordLength len) = 8
number (SequenceOffset offset) = 9
number SequenceCount = 10
number (SequenceArray count) = 11
number (Torn k a b) = 12
number (Nibble at) = 13
number (Cut at) = 14
number (NoClusters at) = 15
number (RunSize at) = 16
number (RunLcn at lcn) = 17
number (RunPlace at) = 18
number (RunEnd at) = 19
number Target = 20
number Unsound = 21
number ListLength = 22

abbrev pub values : Refusal → List ℤ
values Short = []
values (Mark a b) = pos a ∷ pos b ∷ []
values (PerCluster b) = pos b ∷ []
values (SectorSize size) = pos size ∷ []
values (ClusterSize size) = pos size ∷ []
values MftLcn = []
values (RecordInfo info cluster) = info ∷ pos cluster ∷ []
values (RecordLength len) = pos len ∷ []
values (SequenceOffset offset) = pos offset ∷ []
values SequenceCount = []
values (SequenceArray count) = pos count ∷ []
values (Torn k a b) = pos k ∷ pos a ∷ pos b ∷ []
values (Nibble at) = pos at ∷ []
values (Cut at) = pos at ∷ []
values (NoClusters at) = pos at ∷ []
values (RunSize at) = pos at ∷ []
values (RunLcn at lcn) = pos at ∷ pos lcn ∷ []
values (RunPlace at) = pos at ∷ []
values (RunEnd at) = pos at ∷ []
values Target = []
values Unsound = []
values ListLength = []

-- the refusal back from what is shown
abbrev signed_at : List ℤ → ℕ → ℤ
signed_at vs i = get_or vs i (pos 0)

abbrev at : List ℤ → ℕ → ℕ
at vs i = nat_abs (signed_at vs i)

unfoldable pub refusal_back : ℕ → List ℤ → Refusal
refusal_back k vs =
    pick (eqb k 1) Short
    (pick (eqb k 2) (Mark (at vs 0) (at vs 1))
    (pick (eqb k 3) (PerCluster (at vs 0))
    (pick (eqb k 4) (SectorSize (at vs 0))
    (pick (eqb k 5) (ClusterSize (at vs 0))
    (pick (eqb k 6) MftLcn
    (pick (eqb k 7) (RecordInfo (signed_at vs 0) (at vs 1))
    (pick (eqb k 8) (RecordLength (at vs 0))
    (pick (eqb k 9) (SequenceOffset (at vs 0))
    (pick (eqb k 10) SequenceCount
    (pick (eqb k 11) (SequenceArray (at vs 0))
    (pick (eqb k 12) (Torn (at vs 0) (at vs 1) (at vs 2))
    (pick (eqb k 13) (Nibble (at vs 0))
    (pick (eqb k 14) (Cut (at vs 0))
    (pick (eqb k 15) (NoClusters (at vs 0))
    (pick (eqb k 16) (RunSize (at vs 0))
    (pick (eqb k 17) (RunLcn (at vs 0) (at vs 1))
    (pick (eqb k 18) (RunPlace (at vs 0))
    (pick (eqb k 19) (RunEnd (at vs 0))
    (pick (eqb k 20) Target
    (pick (eqb k 21) Unsound ListLength))))))))))))))))))))

pub refusal_restored : (x : Refusal) → refusal_back (number x) (values x) ≡ x
unfolding pick refusal_back
refusal_restored Short = refl
refusal_restored (Mark a b) = refl
refusal_restored (PerCluster b) = refl
refusal_restored (SectorSize size) = refl
refusal_restored (ClusterSize size) = refl
refusal_restored MftLcn = refl
refusal_restored (RecordInfo info cluster) = refl
refusal_restored (RecordLength len) = refl
refusal_restored (SequenceOffset offset) = refl
refusal_restored SequenceCount = refl
refusal_restored (SequenceArray count) = refl
refusal_restored (Torn k a b) = refl
refusal_restored (Nibble at) = refl
refusal_restored (Cut at) = refl
refusal_restored (NoClusters at) = refl
refusal_restored (RunSize at) = refl
refusal_restored (RunLcn at lcn) = refl
refusal_restored (RunPlace at) = refl
refusal_restored (RunEnd at) = refl
refusal_restored Target = refl
refusal_restored Unsound = refl
refusal_restored ListLength = refl

-- The values as the code hands them out, none behind the last.
abbrev pub three : List ℤ → List (Option ℤ)
three vs = slice_get vs 0 ∷ slice_get vs 1 ∷ slice_get vs 2 ∷ []

-- Each of them fits a word of 64 bits, a negative one in two's complement.
abbrev pub FitsWord : ℤ → Type 0
FitsWord (pos n) = n < 2 ^ 64
FitsWord (negsuc n) = n < 2 ^ 63

abbrev pub WordsFit : List (Option ℤ) → Type 0
WordsFit [] = Unit {0}
WordsFit (None ∷ vs) = WordsFit vs
WordsFit (Some v ∷ vs) = FitsWord v × WordsFit vs

-- No value is lost there.
abbrev pub given : List (Option ℤ) → List ℤ
given [] = []
given (None ∷ vs) = []
given (Some v ∷ vs) = v ∷ given vs

pub none_lost : (x : Refusal) → given (three (values x)) ≡ values x
none_lost Short = refl
none_lost (Mark a b) = refl
none_lost (PerCluster b) = refl
none_lost (SectorSize size) = refl
none_lost (ClusterSize size) = refl
none_lost MftLcn = refl
none_lost (RecordInfo info cluster) = refl
none_lost (RecordLength len) = refl
none_lost (SequenceOffset offset) = refl
none_lost SequenceCount = refl
none_lost (SequenceArray count) = refl
none_lost (Torn k a b) = refl
none_lost (Nibble at) = refl
none_lost (Cut at) = refl
none_lost (NoClusters at) = refl
none_lost (RunSize at) = refl
none_lost (RunLcn at lcn) = refl
none_lost (RunPlace at) = refl
none_lost (RunEnd at) = refl
none_lost Target = refl
none_lost Unsound = refl
none_lost ListLength = refl

-- The refusal as it is written: `refused 12: 1, 7, 9`.
abbrev pub further : List ℤ → List ℕ
further [] = []
further (v ∷ vs) = codes ", " ++ signed_decimal v ++ further vs

abbrev pub behind : List ℤ → List ℕ
behind [] = []
behind (v ∷ vs) = codes ": " ++ signed_decimal v ++ further vs

abbrev pub told : Refusal → List ℕ
told x = codes "refused " ++ decimal (number x) ++ behind (values x)

-- One sector more of the definition's, by what it gave; and how two bytes are copied.
use Rattle.std.proofs.Common.{ℕ, suc, ◌+◌, ◌-◌, ◌<◌, ◌≤◌, ◌≡◌, List, [], ◌∷◌, length, get_or, set, refl, sym, arith}
use Rattle.std.specs.Prelude.{ℤ}
use Rattle.std.specs.List.{copy_within}
use Rattle.std.proofs.Math.Seq.{drop-cons}
use Rattle.std.proofs.lemmas.List.Edits.{sets-eq}
use Rattle.format.specs.Record.{Sector, Repair, mend, after, mismatch, sectors}
use Rattle.format.specs.Record.Sector.{mended, torn}
use Rattle.format.specs.Record.Repair.{repaired, refused}

module _ (k : ℕ) (lent s t : List ℕ) (rest : List ℕ → Repair) where
  after_mended : (x : Sector) → repaired t ≡ after x k s repaired → after x k lent rest ≡ rest t
  unfolding mismatch
  after_mended (mended u) e = let same : t ≡ u = cc in rw same refl
  after_mended (torn a b u) e = cc

  after_torn : (x : Sector) (c : ℕ) (vs : List ℤ) → refused c vs t ≡ after x k s repaired
      → after x k lent rest ≡ refused c vs t
  unfolding mismatch
  after_torn (mended u) c vs e = cc
  after_torn (torn a b u) c vs e = sym e

module _ (n m offset lo hi k j : ℕ) (lent s t : List ℕ) where
  pub sector_mended : n ≡ m + 1 → j ≡ k + 1 → repaired t ≡ after (mend offset lo hi k s s) k s repaired
      → sectors n offset lo hi k lent s ≡ sectors m offset lo hi j lent t
  unfolding sectors
  sector_mended e f h =
      let more : n ≡ suc m = omega arith in
      rw (more, f) (after_mended k lent s t (sectors m offset lo hi (k + 1) lent) (mend offset lo hi k s s) h)

  pub sector_torn : (c : ℕ) (vs : List ℤ) → 0 < n → refused c vs t ≡ after (mend offset lo hi k s s) k s repaired
      → sectors n offset lo hi k lent s ≡ refused c vs t
  unfolding sectors
  sector_torn c vs e h =
      let more : n ≡ suc (n - 1) = omega arith in
      rw more (after_torn k lent s t (sectors (n - 1) offset lo hi (k + 1) lent) (mend offset lo hi k s s) c vs h)

pub sectors_over : (n offset lo hi k : ℕ) (lent s : List ℕ) → n ≡ 0 → sectors n offset lo hi k lent s ≡ repaired s
unfolding sectors
sectors_over n offset lo hi k lent s e = rw e

pub copied : (xs : List ℕ) (from to : ℕ) → from + 2 ≤ length xs → to + 2 ≤ length xs
    → copy_within xs from (from + 2) to ≡ set (set xs to (get_or xs from 0)) (to + 1) (get_or xs (from + 1) 0)
copied xs from to h k =
    let two : from + 2 - from ≡ 2 = omega arith in
    let next : to + 1 ≡ suc to = omega arith in
    let more : from + 1 ≡ suc from = omega arith in
    let pair = get_or xs from 0 ∷ get_or xs (suc from) 0 ∷ [] in
    let first = drop-cons xs from 0 (omega arith) in
    let second = drop-cons xs (suc from) 0 (omega arith) in
    rw (two, next, more, first, second) (sym (sets-eq pair xs to (omega arith)))

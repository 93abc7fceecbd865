-- What is left of the definition's sectors on the record as it stands is all of them on the record as lent.
use Rattle.std.proofs.Common.{◌≡◌, ◌-◌, length}
use Rattle.record.specs.Shown.{sectors_from}
use Rattle.record.proofs.mend_all.Given as goal

abbrev pub invariant-loop-sector : goal.invariant-loop-sector
invariant-loop-sector l =
    let lent = l.initial.lent in
    let left = sectors_from (l.sectors - l.sector) l.offset l.number l.sector lent l.lent in
    (length l.lent ≡ length lent) × (left ≡ sectors_from l.sectors l.offset l.number 0 lent lent)

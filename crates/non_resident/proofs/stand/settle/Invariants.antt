-- what is left to pass from the cursor is what was to be passed from the first; the bytes left of the list fall
use Rattle.std.proofs.Common.{◌≡◌, ◌-◌, length}
use Rattle.format.specs.Listed.{run_list, listed}
use Rattle.format.specs.Reader.{settle}
use Rattle.non_resident.proofs.stand.settle.Given as goal

abbrev pub invariant-loop-run : goal.invariant-loop-run
invariant-loop-run l =
    let L = run_list l.cluster l.list in
    settle L (listed L l.cursor.at l.cursor.lcn) l.by ≡ settle L (listed L l.fn.from.at l.fn.from.lcn) l.fn.by

abbrev pub decreases-loop-run : goal.decreases-loop-run
decreases-loop-run l = length l.list - l.cursor.at

-- the bytes left of the list fall at each call
use Rattle.std.proofs.Common.{◌-◌, length}
use Rattle.lookup.proofs.+from.Given as goal

abbrev pub decreases-from : goal.decreases-from
decreases-from l = length l.list.now - l.cursor.at

-- No more is read than there is room.
use Rattle.std.proofs.Common.{◌≤◌, length}
use Rattle.archthimble.proofs.files.read_full.Given as goal

abbrev pub invariant-loop : goal.invariant-loop
invariant-loop g l = l.len ≤ length l.room

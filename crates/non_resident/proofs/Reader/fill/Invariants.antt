-- The invariant is Laid (Laws): the spans so far and what is left of the read.
use Rattle.std.proofs.Common.{◌/◌, ◌≡◌, length}
use Rattle.format.specs.Listed.{run_list}
use Rattle.non_resident.proofs.Laws.{Laid}
use Rattle.non_resident.specs.Shown.{seen}
use Rattle.non_resident.proofs.Reader.fill.Given as goal

abbrev pub invariant-loop-spans : goal.invariant-loop-spans
invariant-loop-spans l =
    (l.room ≡ length l.initial.store / 3)
    × Laid (run_list l.fn.self.cluster l.list) l.fn.self.cluster l.initial.store l.room l.wanted (seen l.fn.self).reader l.store (seen l.reader) l.spans l.left

use Rattle.std.proofs.Common.{◌≡◌, ◌++◌, length, drop}
use Rattle.format.specs.Number.{little}
use Rattle.types.proofs.little.Given as goal

abbrev pub invariant-loop-byte : goal.invariant-loop-byte
invariant-loop-byte l = let rest = l.byte-iterator.iter.rest.now in
    (l.bytes ≡ rest ++ drop (length rest) l.bytes) × (l.number ≡ little (drop (length rest) l.bytes))

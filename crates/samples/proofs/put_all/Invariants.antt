-- What is still to be put changes the bytes as they stand into what all of it makes of them.
use Rattle.std.proofs.Common.{◌≡◌, length, drop, map}
use Rattle.format.specs.Sample.{changed}
use Rattle.samples.specs.Places.{change_of}
use Rattle.samples.proofs.put_all.Given as goal

abbrev pub invariant-loop-place : goal.invariant-loop-place
invariant-loop-place l =
    let left = drop l.place-index l.puts in
    (length l.bytes ≡ length l.initial.bytes)
    × (changed l.bytes (map change_of left) ≡ changed l.initial.bytes (map change_of l.puts))

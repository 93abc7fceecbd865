use Rattle.std.proofs.Common.{◌≡◌, ◌-◌}
use Rattle.format.specs.Number.{is_power, power_of_two}
use Rattle.types.proofs.power_of_two.Given as goal

abbrev pub invariant-loop-k : goal.invariant-loop-k
invariant-loop-k l = is_power l.k (64 - l.k) l.n ≡ power_of_two l.n

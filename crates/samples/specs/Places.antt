-- A byte with its place, as the definitions say it.
use Rattle.std.specs.Prelude.{ℕ}
use Rattle.format.specs.Sample.{Change}
use Rattle.format.specs.Sample.Change.{at}

abbrev pub change_of : ℕ × ℕ → Change
change_of put = at put.0 put.1

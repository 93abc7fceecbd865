-- What this crate's contracts name beside the format's own words.
use Rattle.std.specs.Prelude.{ℕ, leb}
use Rattle.format.specs.Pick.{pick}

-- at most eight bytes make a number
abbrev pub eight_at_most : ℕ → ℕ
eight_at_most n = pick (leb n 8) n 8

-- A boot sector is read from its first 512 bytes alone, as format's law has it.
use Rattle.std.proofs.Common.{ℕ, ◌≤◌, ◌≡◌, List, length, take, ap, ◌∙◌, arith}
use Rattle.format.specs.Boot.{boot}
use Rattle.format.proofs.Boot.{past_ignored}

pub boot_first : (s first : List ℕ) → 512 ≤ length s → first ≡ take 512 s → boot first ≡ boot s
boot_first s first h e = ap boot e ∙ past_ignored s 512 (omega arith) h

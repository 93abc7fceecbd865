-- A boot sector to try things on: 512-byte sectors, 8 to a cluster, MFT at LCN 4, records of 1,024 bytes. Each byte that is not 0,
-- at its place.
use Rattle.std.specs.Prelude.{ℕ, List, [], ◌∷◌, set, replicate}

pub data Change : Type 0 where
  at : ℕ → ℕ → Change

unfoldable pub changed : List ℕ → List Change → List ℕ
changed s [] = s
changed s (at i b ∷ cs) = changed (set s i b) cs

unfoldable pub boot_sample : List ℕ
boot_sample =
    changed (replicate 512 0) (
    at 12 0x02 ∷ at 13 0x08
    ∷ at 40 0xff ∷ at 41 0x1f ∷ at 42 0x03
    ∷ at 48 0x04
    ∷ at 56 0xff ∷ at 57 0x31
    ∷ at 64 0xf6 ∷ at 68 0x01
    ∷ at 72 0xef ∷ at 73 0xcd ∷ at 74 0xab ∷ at 75 0x12
    ∷ at 510 0x55 ∷ at 511 0xaa ∷ [])

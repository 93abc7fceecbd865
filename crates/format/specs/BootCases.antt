-- What the scope's text says of the boot sector, number by number, in one table under one proved statement: a sample with some
-- bytes changed, and what is read.
use Rattle.std.specs.Prelude.{ℕ, ◌≡◌, refl, List, [], ◌∷◌, ◌++◌, take, pos, negsuc}
use Rattle.format.specs.Pick.{pick}
use Rattle.format.specs.Number.{little, twos, unsigned, within, is_power, power_of_two, between, power_between}
use Rattle.format.specs.Boot.{boot, Boot, marked, sectors_of, record_size_of, clustered}
use Rattle.format.specs.Boot.Boot.{geometry, refused}
use Rattle.format.specs.Sample.{Change, changed, boot_sample}
use Rattle.format.specs.Sample.Change.{at}

pub data Case : Type 0 where
  given : List ℕ → Boot → Case
  case : List Change → Boot → Case

abbrev pub Holds : Case → Type 0
Holds (given s answer) = boot s ≡ answer
Holds (case cs answer) = boot (changed boot_sample cs) ≡ answer

abbrev pub AllHold : List Case → Type 0
AllHold [] = Unit {0}
AllHold (c ∷ cs) = Holds c × AllHold cs

-- the sample with another sector, cluster or record size
abbrev sized : ℕ → ℕ → ℕ → Boot
sized sector cluster size =
    geometry (record { sector = sector; cluster = cluster; sectors = 204799; mft = 4; mirror = 12799; record_size = size; index_info = pos 1; serial = 313249263 })

abbrev pub table : List Case
table =
    given [] (refused 1 [])
    ∷ given (take 511 boot_sample) (refused 1 [])
    ∷ given boot_sample (sized 512 4096 1024)
    ∷ given (boot_sample ++ (0xff ∷ [])) (sized 512 4096 1024)
    -- the mark
    ∷ case (at 510 0x54 ∷ []) (refused 2 (pos 0x54 ∷ pos 0xaa ∷ []))
    ∷ case (at 511 0xab ∷ []) (refused 2 (pos 0x55 ∷ pos 0xab ∷ []))
    -- sectors per cluster
    ∷ case (at 13 0 ∷ []) (refused 3 (pos 0 ∷ []))
    ∷ case (at 13 1 ∷ []) (sized 512 512 1024)
    ∷ case (at 13 3 ∷ []) (refused 3 (pos 3 ∷ []))
    ∷ case (at 13 128 ∷ []) (sized 512 65536 1024)
    ∷ case (at 13 129 ∷ []) (refused 3 (pos 129 ∷ []))
    ∷ case (at 13 243 ∷ []) (refused 3 (pos 243 ∷ []))
    ∷ case (at 13 244 ∷ []) (sized 512 2097152 1024)
    ∷ case (at 13 255 ∷ []) (sized 512 1024 1024)
    -- sector and cluster size
    ∷ case (at 12 1 ∷ []) (refused 4 (pos 256 ∷ []))
    ∷ case (at 11 1 ∷ []) (refused 4 (pos 513 ∷ []))
    ∷ case (at 12 12 ∷ []) (refused 4 (pos 3072 ∷ []))
    ∷ case (at 12 16 ∷ []) (sized 4096 32768 1024)
    ∷ case (at 12 32 ∷ []) (refused 4 (pos 8192 ∷ []))
    ∷ case (at 13 244 ∷ at 12 4 ∷ []) (refused 5 (pos 4194304 ∷ []))
    ∷ case (at 13 245 ∷ at 12 4 ∷ []) (sized 1024 2097152 1024)
    -- the MFT's LCN, the record size info
    ∷ case (at 48 0 ∷ []) (refused 6 [])
    ∷ case (at 48 0 ∷ at 55 1 ∷ []) (geometry (record { sector = 512; cluster = 4096; sectors = 204799; mft = 72057594037927936; mirror = 12799; record_size = 1024; index_info = pos 1; serial = 313249263 }))
    ∷ case (at 68 255 ∷ []) (geometry (record { sector = 512; cluster = 4096; sectors = 204799; mft = 4; mirror = 12799; record_size = 1024; index_info = negsuc 0; serial = 313249263 }))
    ∷ case (at 64 1 ∷ []) (sized 512 4096 4096)
    ∷ case (at 64 2 ∷ []) (sized 512 4096 8192)
    ∷ case (at 64 128 ∷ []) (refused 7 (negsuc 127 ∷ pos 4096 ∷ []))
    ∷ case (at 64 0 ∷ []) (refused 7 (pos 0 ∷ pos 4096 ∷ []))
    ∷ case (at 64 247 ∷ []) (refused 7 (negsuc 8 ∷ pos 4096 ∷ []))
    ∷ case (at 64 245 ∷ []) (sized 512 4096 2048)
    ∷ case (at 64 244 ∷ []) (sized 512 4096 4096)
    ∷ case (at 64 243 ∷ []) (refused 7 (negsuc 12 ∷ pos 4096 ∷ []))
    -- of two refusals the first in order
    ∷ case (at 511 0 ∷ at 13 3 ∷ []) (refused 2 (pos 0x55 ∷ pos 0 ∷ []))
    ∷ case (at 13 3 ∷ at 12 32 ∷ []) (refused 3 (pos 3 ∷ []))
    ∷ case (at 13 244 ∷ at 12 32 ∷ []) (refused 4 (pos 8192 ∷ []))
    ∷ case (at 13 244 ∷ at 12 4 ∷ at 48 0 ∷ []) (refused 5 (pos 4194304 ∷ []))
    ∷ case (at 48 0 ∷ at 64 0 ∷ []) (refused 6 [])
    ∷ []

pub cases : AllHold table
unfolding pick little twos unsigned within is_power power_of_two between power_between boot marked sectors_of record_size_of clustered changed boot_sample
cases = (refl, (refl, (refl, (refl, (refl, (refl, (refl, (refl, (refl, (refl, (refl, (refl, (refl, (refl, (refl, (refl, (refl, (refl, (refl, (refl, (refl, (refl, (refl, (refl, (refl, (refl, (refl, (refl, (refl, (refl, (refl, (refl, (refl, (refl, (refl, (refl, (refl, tt)))))))))))))))))))))))))))))))))))))

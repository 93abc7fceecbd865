-- The boot sector: what its first 512 bytes say of the disk's geometry, or a refusal (1 to 7, tried in that order) as its
-- number with its values.
use Rattle.std.specs.Prelude.{ℕ, suc, ◌-◌, ◌*◌, ◌^◌, Bool, not, ◌&&◌, List, [], ◌∷◌, length, get_or, ltb, eqb, ℤ, pos, negsuc, None, Option, Some}
use Rattle.format.specs.Pick.{pick}
use Rattle.format.specs.Number.{unsigned, twos, within, power_of_two, power_between, between, min_cluster, max_cluster}

pub record Geometry : Type 0 where
  pub sector : ℕ
  pub cluster : ℕ
  pub sectors : ℕ
  pub mft : ℕ
  pub mirror : ℕ
  pub record_size : ℕ
  pub index_info : ℤ
  pub serial : ℕ

pub data Boot : Type 0 where
  geometry : Geometry → Boot
  refused : ℕ → List ℤ → Boot

-- The limits that are the sector's own; the cluster's stand with the numbers.
abbrev pub boot_length : ℕ
boot_length = 512

abbrev pub min_sector : ℕ
min_sector = 512

abbrev pub max_sector : ℕ
max_sector = 4096

-- The fields, little-endian, where they stand.
abbrev pub sector_size : List ℕ → ℕ
sector_size s = unsigned s 11 2

abbrev pub per_cluster : List ℕ → ℕ
per_cluster s = get_or s 13 0

abbrev pub total_sectors : List ℕ → ℕ
total_sectors s = unsigned s 40 8

abbrev pub mft_lcn : List ℕ → ℕ
mft_lcn s = unsigned s 48 8

abbrev pub mirror_lcn : List ℕ → ℕ
mirror_lcn s = unsigned s 56 8

abbrev pub record_info : List ℕ → ℤ
record_info s = twos 1 (get_or s 64 0)

abbrev pub index_info : List ℕ → ℤ
index_info s = twos 1 (get_or s 68 0)

abbrev pub serial_number : List ℕ → ℕ
serial_number s = unsigned s 72 8

-- bytes 55 AA at 510
unfoldable pub marked : ℕ → ℕ → Bool
marked a b = eqb a 0x55 && eqb b 0xaa

-- Sectors per cluster: 1 to 128 must be a power of two; 244 to 255 mean 2 to the power 256 - byte; all else is refused.
unfoldable pub sectors_of : ℕ → Option ℕ
sectors_of b =
    pick (between 1 128 b) (pick (power_of_two b) (Some b) None)
    (pick (between 244 255 b) (Some (2 ^ (256 - b))) None)

-- The rule for the file record size. Above 0: that many clusters. Otherwise -10, -11, -12 mean 1,024, 2,048, 4,096.
unfoldable pub record_size_of : ℤ → ℕ → Option ℕ
record_size_of (pos n) cluster = pick (eqb n 0) None (within (n * cluster))
record_size_of (negsuc k) cluster = pick (between 10 12 (suc k)) (Some (2 ^ suc k)) None

-- with the size of a record, where there is one: 7, or all that the sector says
abbrev pub recorded : List ℕ → ℕ → Option ℕ → Boot
recorded s cluster None = refused 7 (record_info s ∷ pos cluster ∷ [])
recorded s cluster (Some size) =
    geometry (record {
      sector = sector_size s;
      cluster = cluster;
      sectors = total_sectors s;
      mft = mft_lcn s;
      mirror = mirror_lcn s;
      record_size = size;
      index_info = index_info s;
      serial = serial_number s;
    })

-- with a cluster size: 6, then 7
unfoldable pub clustered : List ℕ → ℕ → Boot
clustered s cluster =
    pick (eqb (mft_lcn s) 0) (refused 6 [])
    (recorded s cluster (record_size_of (record_info s) cluster))

-- with the sectors per cluster, where there are some: 3, 4, 5, then the rest
abbrev pub sectored : List ℕ → Option ℕ → Boot
sectored s None = refused 3 (pos (per_cluster s) ∷ [])
sectored s (Some n) =
    pick (not (power_between min_sector max_sector (sector_size s))) (refused 4 (pos (sector_size s) ∷ []))
    (pick (not (between min_cluster max_cluster (n * sector_size s))) (refused 5 (pos (n * sector_size s) ∷ []))
    (clustered s (n * sector_size s)))

unfoldable pub boot : List ℕ → Boot
boot s =
    pick (ltb (length s) boot_length) (refused 1 [])
    (pick (not (marked (get_or s 510 0) (get_or s 511 0))) (refused 2 (pos (get_or s 510 0) ∷ pos (get_or s 511 0) ∷ []))
    (sectored s (sectors_of (per_cluster s))))

-- This crate's answer in the format's terms; no two answers are shown alike.
use Rattle.std.specs.Prelude.{◌≡◌, refl, Result, Ok, Err}
use Rattle.std.proofs.Common.{sym, ap, ◌∙◌}
use Rattle.format.specs.Boot.{Geometry as G, Boot as B}
use Rattle.refusal.specs.declared.Refusal.{Refusal}
use Rattle.refusal.specs.Refusals.{number, values, refusal_back, refusal_restored}
use Rattle.boot_sector.specs.declared.Geometry.{Geometry}

abbrev pub shown_geometry : Geometry → G
shown_geometry g =
    record {
      sector = g.sector_size;
      cluster = g.cluster_size;
      sectors = g.total_sectors;
      mft = g.mft_lcn;
      mirror = g.mirror_lcn;
      record_size = g.record_size;
      index_info = g.index_info;
      serial = g.serial;
    }

abbrev pub shown : Result Geometry Refusal → B
shown (Ok g) = B.geometry (shown_geometry g)
shown (Err why) = B.refused (number why) (values why)

-- the answer back from what is shown
pub geometry_back : G → Geometry
geometry_back g =
    record {
      sector_size = g.sector;
      cluster_size = g.cluster;
      total_sectors = g.sectors;
      mft_lcn = g.mft;
      mirror_lcn = g.mirror;
      record_size = g.record_size;
      index_info = g.index_info;
      serial = g.serial;
    }

pub back : B → Result Geometry Refusal
back (B.geometry g) = Ok (geometry_back g)
back (B.refused k vs) = Err (refusal_back k vs)

pub back_shown : (x : Result Geometry Refusal) → back (shown x) ≡ x
unfolding back geometry_back
back_shown (Ok g) = refl
back_shown (Err why) = rw (refusal_restored why)

pub shown_injective : (x y : Result Geometry Refusal) → shown x ≡ shown y → x ≡ y
shown_injective x y e = sym (back_shown x) ∙ ap back e ∙ back_shown y

-- NO SECOND OUTCOME: of each public call of the libraries, two outcomes that both keep its contract are the same; of
-- `DataRuns::new`, whose answer is an iterator with fields of its own, they give the same. `Learnt` is the contract as the compiler has it; the arguments a are one and the same, and so is what was lent. Each
-- contract is an equation with a definition, of the answer or of what shows it, and what shows it is injective. Two
-- crates have it beside their code: `in_place`, whose calls promise a relation of its `Promise`, in `seeks_once` and
-- `reads_once` there, and `capi_c`, which C links, in its own `Unique`.
use Rattle.std.specs.Prelude.{◌≡◌, [], ◌∷◌}
use Rattle.std.specs.Result.{result_map_both}
use Rattle.std.proofs.Common.{sym, ◌∙◌}
use native.Mathlib.Omega.{arith}
use Rattle.refusal.specs.Refusals.{refusal_restored}
use Rattle.boot_sector.specs.Shown as B
use Rattle.record.specs.Shown.{outcome_injective as repair_injective}
use Rattle.data_runs.specs.Shown as D
use Rattle.lookup.specs.Shown as L
use Rattle.non_resident.specs.Shown.{sought_injective, outcome_injective, position_injective}
use Rattle.types.proofs.Lcn.plus.Reads as types-lcn-plus
use Rattle.types.proofs.Lcn.moved.Reads as types-lcn-moved
use Rattle.types.proofs.Lcn.position.Reads as types-lcn-position
use Rattle.types.proofs.sum.Reads as types-sum
use Rattle.types.proofs.times.Reads as types-times
use Rattle.types.proofs.number_at.Reads as types-number-at
use Rattle.types.proofs.extended.Reads as types-extended
use Rattle.types.proofs.power_of_two.Reads as types-power-of-two
use Rattle.types.proofs.in_range.Reads as types-in-range
use Rattle.types.proofs.power_between.Reads as types-power-between
use Rattle.types.proofs.cluster_sound.Reads as types-cluster-sound
use Rattle.types.proofs.ClusterSize.new.Reads as types-cluster-size-new
use Rattle.types.proofs.ClusterSize.bytes.Reads as types-cluster-size-bytes
use Rattle.refusal.proofs.Refusal.number.Reads as refusal-refusal-number
use Rattle.refusal.proofs.Refusal.values.Reads as refusal-refusal-values
use Rattle.boot_sector.proofs.Geometry.read.Reads as boot-sector-geometry-read
use Rattle.record.proofs.repair.Reads as record-repair
use Rattle.data_runs.proofs.DataRuns.new.Reads as data-runs-data-runs-new
use Rattle.data_runs.proofs.DataRunsIterator.next.Reads as data-runs-data-runs-next
use Rattle.data_runs.proofs.Place.further.Reads as data-runs-place-further
use Rattle.data_runs.proofs.Cursor.decode.Reads as data-runs-cursor-decode
use Rattle.data_runs.proofs.Cursor.next.Reads as data-runs-cursor-next
use Rattle.data_runs.proofs.ends_inside.Reads as data-runs-ends-inside
use Rattle.lookup.proofs.lookup.Reads as lookup-lookup
use Rattle.non_resident.proofs.Reader.open.Reads as non-resident-reader-open
use Rattle.non_resident.proofs.Reader.seek.Reads as non-resident-reader-seek
use Rattle.non_resident.proofs.Reader.read.Reads as non-resident-reader-read
use Rattle.non_resident.proofs.Reader.data_position.Reads as non-resident-reader-data-position
use Rattle.samples.proofs.boot.Reads as samples-boot
use Rattle.samples.proofs.record.Reads as samples-record
use Rattle.capi.proofs.archthimble_lcn_plus.Reads as capi-lcn-plus
use Rattle.capi.proofs.archthimble_lcn_position.Reads as capi-lcn-position
use Rattle.capi.proofs.archthimble_geometry.Reads as capi-geometry
use Rattle.capi.proofs.archthimble_next_run.Reads as capi-next-run
use Rattle.capi.proofs.archthimble_lookup.Reads as capi-lookup
use Rattle.capi.proofs.archthimble_repair.Reads as capi-repair
use Rattle.capi.proofs.archthimble_open.Reads as capi-open
use Rattle.capi.proofs.archthimble_seek.Reads as capi-seek
use Rattle.capi.proofs.archthimble_seek_signed.Reads as capi-seek-signed
use Rattle.capi.proofs.archthimble_read.Reads as capi-read
use Rattle.capi.proofs.archthimble_data_position.Reads as capi-data-position

-- One answer.
abbrev pub One : {K : Type 0} {A X E : K → Type 0} → ((κs : K) → A κs → X κs → E κs → Type 0) → Type 0
One {K} {A} {X} {E} Learnt =
    (κs : K) (a : A κs) (x y : X κs) (e e' : E κs) → Learnt κs a x e → Learnt κs a y e' → x ≡ y

-- One up to what is seen of it.
abbrev pub OneSeen : {K S : Type 0} {A X E : K → Type 0}
    → ((κs : K) → A κs → X κs → E κs → Type 0) → ((κs : K) → X κs → S) → Type 0
OneSeen {K} {S} {A} {X} {E} Learnt seen =
    (κs : K) (a : A κs) (x y : X κs) (e e' : E κs) → Learnt κs a x e → Learnt κs a y e' → seen κs x ≡ seen κs y

-- One answer, and what was lent is left in one way.
abbrev pub OneLeft : {K S : Type 0} {A X E : K → Type 0}
    → ((κs : K) → A κs → X κs → E κs → Type 0) → ((κs : K) → E κs → S) → Type 0
OneLeft {K} {S} {A} {X} {E} Learnt left =
    (κs : K) (a : A κs) (x y : X κs) (e e' : E κs) → Learnt κs a x e → Learnt κs a y e'
    → (x ≡ y) × (left κs e ≡ left κs e')

pub types_lcn_plus : One types-lcn-plus.Learnt
types_lcn_plus κs a x y e e' p q = grind (arith, p, q)

pub types_lcn_moved : One types-lcn-moved.Learnt
types_lcn_moved κs a x y e e' p q = grind (arith, p, q)

pub types_lcn_position : One types-lcn-position.Learnt
types_lcn_position κs a x y e e' p q = p ∙ sym q

pub types_sum : One types-sum.Learnt
types_sum κs a x y e e' p q = p ∙ sym q

pub types_times : One types-times.Learnt
types_times κs a x y e e' p q = p ∙ sym q

pub types_number_at : One types-number-at.Learnt
types_number_at κs a x y e e' p q = p ∙ sym q

pub types_extended : One types-extended.Learnt
types_extended κs a x y e e' p q = p ∙ sym q

pub types_power_of_two : One types-power-of-two.Learnt
types_power_of_two κs a x y e e' p q = p ∙ sym q

pub types_in_range : One types-in-range.Learnt
types_in_range κs a x y e e' p q = p ∙ sym q

pub types_power_between : One types-power-between.Learnt
types_power_between κs a x y e e' p q = p ∙ sym q

pub types_cluster_sound : One types-cluster-sound.Learnt
types_cluster_sound κs a x y e e' p q = p ∙ sym q

pub types_cluster_size_new : One types-cluster-size-new.Learnt
types_cluster_size_new κs a x y e e' p q = p ∙ sym q

pub types_cluster_size_bytes : One types-cluster-size-bytes.Learnt
types_cluster_size_bytes κs a x y e e' p q = p.0 ∙ sym q.0

pub refusal_refusal_number : One refusal-refusal-number.Learnt
refusal_refusal_number κs a x y e e' p q = p ∙ sym q

pub refusal_refusal_values : One refusal-refusal-values.Learnt
refusal_refusal_values κs a x y e e' p q = p.0 ∙ sym q.0

pub boot_sector_geometry_read : One boot-sector-geometry-read.Learnt
boot_sector_geometry_read κs a x y e e' p q = B.shown_injective x y (p ∙ sym q)

pub record_repair : OneLeft record-repair.Learnt (λ κs e. e.0.now)
record_repair κs a x y e e' p q = repair_injective x y e.0.now e'.0.now (p ∙ sym q)

-- What is seen of the runs of a list is what they still give.
pub data_runs_data_runs_new : OneSeen data-runs-data-runs-new.Learnt (λ κs. result_map_both D.runs_left (λ why. why))
data_runs_data_runs_new κs a x y e e' p q = p ∙ sym q

pub data_runs_data_runs_next : OneLeft data-runs-data-runs-next.Learnt (λ κs e. D.runs_left e.0.now)
data_runs_data_runs_next κs a x y e e' p q = grind (arith, p.0, q.0, D.run_restored, refusal_restored)

pub data_runs_place_further : One data-runs-place-further.Learnt
data_runs_place_further κs a x y e e' p q = p ∙ sym q

pub data_runs_cursor_decode : One data-runs-cursor-decode.Learnt
data_runs_cursor_decode κs a x y e e' p q = D.shown_injective x y (p.0 ∙ sym q.0)

pub data_runs_cursor_next : One data-runs-cursor-next.Learnt
data_runs_cursor_next κs a x y e e' p q = D.shown_injective x y (p ∙ sym q)

pub data_runs_ends_inside : One data-runs-ends-inside.Learnt
data_runs_ends_inside κs a x y e e' p q = p.0 ∙ sym q.0

pub lookup_lookup : One lookup-lookup.Learnt
lookup_lookup κs a x y e e' p q = L.shown_injective x y (p ∙ sym q)

pub non_resident_reader_open : One non-resident-reader-open.Learnt
non_resident_reader_open κs a x y e e' p q = sought_injective x y (p ∙ sym q)

pub non_resident_reader_seek : One non-resident-reader-seek.Learnt
non_resident_reader_seek κs a x y e e' p q = sought_injective x y (p ∙ sym q)

pub non_resident_reader_read : OneLeft non-resident-reader-read.Learnt (λ κs e. e.1.1.1.0.now)
non_resident_reader_read κs a x y e e' p q = (outcome_injective x y (p.0 ∙ sym q.0), p.1 ∙ sym q.1)

pub non_resident_reader_data_position : One non-resident-reader-data-position.Learnt
non_resident_reader_data_position κs a x y e e' p q = position_injective x y (p ∙ sym q)

pub samples_boot : One samples-boot.Learnt
samples_boot κs a x y e e' p q = p ∙ sym q

pub samples_record : One samples-record.Learnt
samples_record κs a x y e e' p q = p ∙ sym q

-- THE CALLS FOR C: one number, and each lent store is left in one way.
pub capi_lcn_plus : OneLeft capi-lcn-plus.Learnt (λ κs e. e.1.1.0.now)
capi_lcn_plus κs a x y e e' p q = grind (arith, p, q)

pub capi_lcn_position : OneLeft capi-lcn-position.Learnt (λ κs e. e.1.1.0.now)
capi_lcn_position κs a x y e e' p q = grind (arith, p, q)

pub capi_geometry : OneLeft capi-geometry.Learnt (λ κs e. e.1.0.now)
capi_geometry κs a x y e e' p q = grind (arith, p, q)

pub capi_next_run : OneLeft capi-next-run.Learnt (λ κs e. e.1.1.1.1.0.now)
capi_next_run κs a x y e e' p q = grind (arith, p, q)

pub capi_lookup : OneLeft capi-lookup.Learnt (λ κs e. e.1.1.1.0.now)
capi_lookup κs a x y e e' p q = grind (arith, p, q)

pub capi_repair : OneLeft capi-repair.Learnt (λ κs e. e.1.0.now ∷ e.0.now ∷ [])
capi_repair κs a x y e e' p q = grind (arith, p, q)

pub capi_open : OneLeft capi-open.Learnt (λ κs e. e.1.1.1.1.0.now ∷ e.1.1.1.0.now ∷ [])
capi_open κs a x y e e' p q = grind (arith, p, q)

pub capi_seek : OneLeft capi-seek.Learnt (λ κs e. e.1.1.1.1.0.now ∷ e.1.0.now ∷ [])
capi_seek κs a x y e e' p q = grind (arith, p, q)

pub capi_seek_signed : OneLeft capi-seek-signed.Learnt (λ κs e. e.1.1.1.1.0.now ∷ e.1.0.now ∷ [])
capi_seek_signed κs a x y e e' p q = grind (arith, p, q)

pub capi_read : OneLeft capi-read.Learnt (λ κs e. e.1.1.1.1.0.now ∷ e.1.0.now ∷ e.1.1.1.0.now ∷ [])
capi_read κs a x y e e' p q = grind (arith, p, q)

pub capi_data_position : OneLeft capi-data-position.Learnt (λ κs e. e.1.0.now)
capi_data_position κs a x y e e' p q = grind (arith, p, q)

-- NO SECOND OUTCOME of the calls that C links: two outcomes that both keep a call's contract, called with the same
-- arguments, are one number, and each lent store is left in one way. `Learnt` is the contract as the compiler has it. The
-- same is proved of the calls of `capi` below these in demand3's `Unique`.
use mathlib.Core.Path.{◌≡◌, sym, ◌∙◌}
use contract.Lifetimes.{Lfts}
use denote.Triple.Clauses.{AtExit}
use borrow.Fn.Kinds.{Dens, res_t, ended_of}
use Rattle.capi_c.proofs.archthimble_lcn_plus.Reads as c-lcn-plus-reads
use Rattle.capi_c.proofs.archthimble_lcn_plus.Kinds as c-lcn-plus-kinds
use Rattle.capi_c.proofs.archthimble_lcn_position.Reads as c-lcn-position-reads
use Rattle.capi_c.proofs.archthimble_lcn_position.Kinds as c-lcn-position-kinds
use Rattle.capi_c.proofs.archthimble_geometry.Reads as c-geometry-reads
use Rattle.capi_c.proofs.archthimble_geometry.Kinds as c-geometry-kinds
use Rattle.capi_c.proofs.archthimble_next_run.Reads as c-next-run-reads
use Rattle.capi_c.proofs.archthimble_next_run.Kinds as c-next-run-kinds
use Rattle.capi_c.proofs.archthimble_lookup.Reads as c-lookup-reads
use Rattle.capi_c.proofs.archthimble_lookup.Kinds as c-lookup-kinds
use Rattle.capi_c.proofs.archthimble_repair.Reads as c-repair-reads
use Rattle.capi_c.proofs.archthimble_repair.Kinds as c-repair-kinds
use Rattle.capi_c.proofs.archthimble_open.Reads as c-open-reads
use Rattle.capi_c.proofs.archthimble_open.Kinds as c-open-kinds
use Rattle.capi_c.proofs.archthimble_seek.Reads as c-seek-reads
use Rattle.capi_c.proofs.archthimble_seek.Kinds as c-seek-kinds
use Rattle.capi_c.proofs.archthimble_seek_signed.Reads as c-seek-signed-reads
use Rattle.capi_c.proofs.archthimble_seek_signed.Kinds as c-seek-signed-kinds
use Rattle.capi_c.proofs.archthimble_read.Reads as c-read-reads
use Rattle.capi_c.proofs.archthimble_read.Kinds as c-read-kinds
use Rattle.capi_c.proofs.archthimble_data_position.Reads as c-data-position-reads
use Rattle.capi_c.proofs.archthimble_data_position.Kinds as c-data-position-kinds

pub c_lcn_plus : (κs : Lfts 1) (a : Dens κs c-lcn-plus-kinds.ps) (x y : (res_t c-lcn-plus-kinds.r κs).Denot) (e e' : AtExit (ended_of 1 c-lcn-plus-kinds.ps c-lcn-plus-kinds.r) κs)
    → c-lcn-plus-reads.Learnt κs a x e → c-lcn-plus-reads.Learnt κs a y e' → (x ≡ y) × (e.1.1.0.now ≡ e'.1.1.0.now)
c_lcn_plus κs a x y e e' p q = (p.0 ∙ sym q.0, p.1 ∙ sym q.1)

pub c_lcn_position : (κs : Lfts 1) (a : Dens κs c-lcn-position-kinds.ps) (x y : (res_t c-lcn-position-kinds.r κs).Denot) (e e' : AtExit (ended_of 1 c-lcn-position-kinds.ps c-lcn-position-kinds.r) κs)
    → c-lcn-position-reads.Learnt κs a x e → c-lcn-position-reads.Learnt κs a y e' → (x ≡ y) × (e.1.1.0.now ≡ e'.1.1.0.now)
c_lcn_position κs a x y e e' p q = (p.0 ∙ sym q.0, p.1 ∙ sym q.1)

pub c_geometry : (κs : Lfts 2) (a : Dens κs c-geometry-kinds.ps) (x y : (res_t c-geometry-kinds.r κs).Denot) (e e' : AtExit (ended_of 2 c-geometry-kinds.ps c-geometry-kinds.r) κs)
    → c-geometry-reads.Learnt κs a x e → c-geometry-reads.Learnt κs a y e' → (x ≡ y) × (e.1.0.now ≡ e'.1.0.now)
c_geometry κs a x y e e' p q = (p.0 ∙ sym q.0, p.1 ∙ sym q.1)

pub c_next_run : (κs : Lfts 2) (a : Dens κs c-next-run-kinds.ps) (x y : (res_t c-next-run-kinds.r κs).Denot) (e e' : AtExit (ended_of 2 c-next-run-kinds.ps c-next-run-kinds.r) κs)
    → c-next-run-reads.Learnt κs a x e → c-next-run-reads.Learnt κs a y e' → (x ≡ y) × (e.1.1.1.1.0.now ≡ e'.1.1.1.1.0.now)
c_next_run κs a x y e e' p q = (p.0 ∙ sym q.0, p.1 ∙ sym q.1)

pub c_lookup : (κs : Lfts 2) (a : Dens κs c-lookup-kinds.ps) (x y : (res_t c-lookup-kinds.r κs).Denot) (e e' : AtExit (ended_of 2 c-lookup-kinds.ps c-lookup-kinds.r) κs)
    → c-lookup-reads.Learnt κs a x e → c-lookup-reads.Learnt κs a y e' → (x ≡ y) × (e.1.1.1.0.now ≡ e'.1.1.1.0.now)
c_lookup κs a x y e e' p q = (p.0 ∙ sym q.0, p.1 ∙ sym q.1)

pub c_repair : (κs : Lfts 2) (a : Dens κs c-repair-kinds.ps) (x y : (res_t c-repair-kinds.r κs).Denot) (e e' : AtExit (ended_of 2 c-repair-kinds.ps c-repair-kinds.r) κs)
    → c-repair-reads.Learnt κs a x e → c-repair-reads.Learnt κs a y e' → (x ≡ y) × (e.1.0.now ≡ e'.1.0.now) × (e.0.now ≡ e'.0.now)
c_repair κs a x y e e' p q = (p.0.0 ∙ sym q.0.0, p.0.1 ∙ sym q.0.1, p.1 ∙ sym q.1)

pub c_open : (κs : Lfts 3) (a : Dens κs c-open-kinds.ps) (x y : (res_t c-open-kinds.r κs).Denot) (e e' : AtExit (ended_of 3 c-open-kinds.ps c-open-kinds.r) κs)
    → c-open-reads.Learnt κs a x e → c-open-reads.Learnt κs a y e' → (x ≡ y) × (e.1.1.1.1.0.now ≡ e'.1.1.1.1.0.now) × (e.1.1.1.0.now ≡ e'.1.1.1.0.now)
c_open κs a x y e e' p q = (p.0.0 ∙ sym q.0.0, p.0.1 ∙ sym q.0.1, p.1 ∙ sym q.1)

pub c_seek : (κs : Lfts 3) (a : Dens κs c-seek-kinds.ps) (x y : (res_t c-seek-kinds.r κs).Denot) (e e' : AtExit (ended_of 3 c-seek-kinds.ps c-seek-kinds.r) κs)
    → c-seek-reads.Learnt κs a x e → c-seek-reads.Learnt κs a y e' → (x ≡ y) × (e.1.1.1.1.0.now ≡ e'.1.1.1.1.0.now) × (e.1.0.now ≡ e'.1.0.now)
c_seek κs a x y e e' p q = (p.0.0 ∙ sym q.0.0, p.0.1 ∙ sym q.0.1, p.1 ∙ sym q.1)

pub c_seek_signed : (κs : Lfts 3) (a : Dens κs c-seek-signed-kinds.ps) (x y : (res_t c-seek-signed-kinds.r κs).Denot) (e e' : AtExit (ended_of 3 c-seek-signed-kinds.ps c-seek-signed-kinds.r) κs)
    → c-seek-signed-reads.Learnt κs a x e → c-seek-signed-reads.Learnt κs a y e' → (x ≡ y) × (e.1.1.1.1.0.now ≡ e'.1.1.1.1.0.now) × (e.1.0.now ≡ e'.1.0.now)
c_seek_signed κs a x y e e' p q = (p.0.0 ∙ sym q.0.0, p.0.1 ∙ sym q.0.1, p.1 ∙ sym q.1)

pub c_read : (κs : Lfts 4) (a : Dens κs c-read-kinds.ps) (x y : (res_t c-read-kinds.r κs).Denot) (e e' : AtExit (ended_of 4 c-read-kinds.ps c-read-kinds.r) κs)
    → c-read-reads.Learnt κs a x e → c-read-reads.Learnt κs a y e' → (x ≡ y) × (e.1.1.1.1.0.now ≡ e'.1.1.1.1.0.now) × (e.1.0.now ≡ e'.1.0.now) × (e.1.1.1.0.now ≡ e'.1.1.1.0.now)
c_read κs a x y e e' p q = (p.0.0 ∙ sym q.0.0, p.0.1 ∙ sym q.0.1, p.1 ∙ sym q.1, p.2 ∙ sym q.2)

pub c_data_position : (κs : Lfts 2) (a : Dens κs c-data-position-kinds.ps) (x y : (res_t c-data-position-kinds.r κs).Denot) (e e' : AtExit (ended_of 2 c-data-position-kinds.ps c-data-position-kinds.r) κs)
    → c-data-position-reads.Learnt κs a x e → c-data-position-reads.Learnt κs a y e' → (x ≡ y) × (e.1.0.now ≡ e'.1.0.now)
c_data_position κs a x y e e' p q = (p.0 ∙ sym q.0, p.1 ∙ sym q.1)

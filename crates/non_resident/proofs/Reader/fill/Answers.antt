-- Each way out of the loop is one of the ends of Laid (Laws).
use Rattle.std.proofs.Common.{ℕ, ◌-◌, ◌/◌, length, List, Option, Some, None, Result, Ok, ◌≡◌, refl, sym, ap, ◌∙◌, arith}
use Rattle.format.specs.Listed.{run_list}
use Rattle.format.specs.Listed.Answer.{given}
use Rattle.format.specs.Reader.{turn}
use Rattle.format.specs.Reader.Turn.{stops, gives}
use Rattle.format.proofs.Sound.{sound_good, sound_full, fits_sound}
use Rattle.refusal.specs.declared.Refusal.{Refusal}
use Rattle.non_resident.specs.declared.Reader.{Reader}
use Rattle.non_resident.specs.declared.span.Span.{Span}
use Rattle.non_resident.specs.Shown.{seen, shown_span, shown_turn}
use Rattle.non_resident.proofs.Laws.{laid_none, laid_more, laid_stop, laid_full, laid_broken, laid_refused, laid_short}
use Rattle.non_resident.proofs.Reader.fill.Goals as goal

-- A turn of the reader at hand is one over the list of the reader that came in.
turned : (cluster : ℕ) (list : List ℕ) (r : Reader) (w : ℕ) (x t : Result (Option Span × Reader) Refusal) → r.cluster ≡ cluster → shown_turn x ≡ turn (run_list r.cluster list) w (seen r).reader → x ≡ t
    → turn (run_list cluster list) w (seen r).reader ≡ shown_turn t
turned cluster list r w x t c e h = ap (λ q. turn (run_list q list) w (seen r).reader) (sym c) ∙ sym e ∙ ap shown_turn h

stopped : (t : Option Span × Reader) → t.0 ≡ None → shown_turn (Ok t) ≡ stops (seen t.1).reader
stopped t e = rw e

given_one : (t : Option Span × Reader) (x : Span) → t.0 ≡ Some x → shown_turn (Ok t) ≡ gives (shown_span x) (seen t.1).reader
given_one t x e = rw e

pub loop-spans-init : goal.loop-spans-init
loop-spans-init c = let e = c.requires in (refl, laid_none _ _ _ _ _ (omega arith) (sound_full _ _ e) (sound_good _ _ e).1)

pub turn-requires : goal.turn-requires
turn-requires c = let i = c.loop-spans.invariant.1 in fits_sound _ _ i.sound.fits

pub returns-in-Err : goal.returns-in-Err
returns-in-Err c =
    let i = c.loop-spans.invariant.1 in
    let a = c.args in
    laid_refused a.list.now i _ _ c.loop-spans-test.true c.if-spans-eq0.true (turned _ a.list.now c.loop-spans.reader _ _ _ i.cluster_is c.turn.ensures.turns c.in-Err.is)

pub returns-in-Err-2 : goal.returns-in-Err-2
returns-in-Err-2 c =
    let i = c.loop-spans.invariant.1 in
    let a = c.args in
    let d = laid_broken a.list.now i _ _ c.loop-spans-test.true (omega (arith, c.if-spans-eq0.false)) (turned _ a.list.now c.loop-spans.reader _ _ _ i.cluster_is c.turn.ensures.turns c.in-Err.is) in
    (ap given c.after.ensures ∙ d.0, d.1)

pub returns-in_default : goal.returns-in_default
returns-in_default c =
    let i = c.loop-spans.invariant.1 in
    let a = c.args in
    let t = turned _ a.list.now c.loop-spans.reader _ _ _ i.cluster_is c.turn.ensures.turns c.in-Ok.is ∙ stopped c.in-Ok.turn c.in_default.is in
    let d = laid_stop a.list.now i (seen c.in-Ok.turn.1) c.loop-spans-test.true t ((rw c.in-Ok.is at c.turn.ensures.same) ∙ i.cluster_is) in
    (ap given c.after-in_default.ensures ∙ d.0, d.1)

pub overflow_sub-left : goal.overflow_sub-left
overflow_sub-left c =
    let i = c.loop-spans.invariant.1 in
    let a = c.args in
    laid_short a.list.now i _ _ (turned _ a.list.now c.loop-spans.reader _ _ _ i.cluster_is c.turn.ensures.turns c.in-Ok.is ∙ given_one c.in-Ok.turn c.in-Some.span c.in-Some.is)

pub loop-spans-preserved : goal.loop-spans-preserved
loop-spans-preserved c =
    let i = c.loop-spans.invariant.1 in
    let a = c.args in
    let t = turned _ a.list.now c.loop-spans.reader _ _ _ i.cluster_is c.turn.ensures.turns c.in-Ok.is ∙ given_one c.in-Ok.turn c.in-Some.span c.in-Some.is in
    (refl, rw c.put.ensures (laid_more a.list.now i _ (seen c.in-Ok.turn.1) c.loop-spans-test.true t ((rw c.in-Ok.is at c.turn.ensures.same) ∙ i.cluster_is)))

pub returns : goal.returns
returns c =
    let i = c.loop-spans.invariant.1 in
    let d = laid_full c.args.list.now i (omega (arith, c.loop-spans-test.false)) in
    let all : length c.args.store.now / 3 ≡ c.loop-spans.spans = omega (arith, i.few, c.loop-spans-test.false) in
    (ap given (c.after-2.ensures ∙ ap (λ k. record { spans = k; bytes = c.args.wanted - c.loop-spans.left; reader = seen c.loop-spans.reader }) all) ∙ d.0, d.1)

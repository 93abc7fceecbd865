use Rattle.std.proofs.Common.{◌+◌, ◌-◌, ◌∙◌, ap, refl}
use borrow.Rule.Slice.PartMut.{put_mid}
use Rattle.non_resident.proofs.Laws.{part_put}
use Rattle.non_resident.specs.Shown.{shown_span, span_words}
use Rattle.non_resident.proofs.span.Span.put.Goals as goal

pub returns : goal.returns
returns c =
    let a = c.args in
    ap (put_mid a.at (a.at + 3 - a.at) a.store.now) (c.copy_from_slice.ensures.after ∙ c.words.ensures) ∙ part_put a.store.now (span_words (shown_span a.self)) a.at refl c.requires

use Rattle.std.proofs.Common.{◌≡◌, ◌+◌, length, arith, ap, ◌∙◌}
use Rattle.std.proofs.lemmas.List.{length_push}
use Rattle.types.proofs.Bounds.{tail_below}
use Rattle.types.proofs.little.Goals as goal

pub overflow_mul-number : goal.overflow_mul-number
overflow_mul-number c =
    let rest = c.loop-byte.byte-iterator.iter.rest.now in
    let more : length rest ≡ length c.next.new.self.iter.rest.now + 1 = ap length c.in-Some.ensures.steps ∙ length_push _ _ in
    omega (arith, c.loop-byte.invariant.1, tail_below c.args.bytes.now (length rest) 7 (omega arith) (λ i. omega (arith, c.type_inv.bytes i)))

pub overflow_add-number : goal.overflow_add-number
overflow_add-number c =
    let rest = c.loop-byte.byte-iterator.iter.rest.now in
    let more : length rest ≡ length c.next.new.self.iter.rest.now + 1 = ap length c.in-Some.ensures.steps ∙ length_push _ _ in
    omega (arith, c.loop-byte.invariant.1, tail_below c.args.bytes.now (length rest) 7 (omega arith) (λ i. omega (arith, c.type_inv.bytes i)))

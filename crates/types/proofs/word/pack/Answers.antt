-- `pack` meets its contract.
use native.Mathlib.Omega.{arith}
use Rattle.types.proofs.Words.{tag_le, pack_law}
use Rattle.types.proofs.word.pack.Goals as goal

pub overflow_add-n : goal.overflow_add-n
overflow_add-n c = omega (arith, tag_le c.args.t.base, c.tag.ensures, c.class_in.type_inv)

pub overflow_mul-result-3 : goal.overflow_mul-result-3
overflow_mul-result-3 c = omega (arith, tag_le c.args.t.base, c.tag.ensures, c.class_in.type_inv)

pub overflow_add-result-3 : goal.overflow_add-result-3
overflow_add-result-3 c = omega (arith, tag_le c.args.t.base, c.tag.ensures, c.class_in.type_inv, c.three_bits-o.ensures.small, c.three_bits-m.ensures.small, c.three_bits-i.ensures.small)

pub returns : goal.returns
returns c = pack_law c.args.t _ _ _ _ (omega (arith, c.class_in.ensures, c.class_in.type_inv)) (omega (arith, c.tag.ensures, c.class_in.ensures)) c.three_bits-o.ensures c.three_bits-m.ensures c.three_bits-i.ensures

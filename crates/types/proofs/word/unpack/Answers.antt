-- `unpack` meets its contract.
use mathlib.Core.Path.{ap}
use Rattle.types.specs.Word.{type_in, flat_in}
use Rattle.types.specs.Flat.{ty_of}
use Rattle.types.specs.declared.Base.{Base}
use Prim.Native.Nat.{◌/◌, ◌%◌}
use Rattle.types.proofs.word.unpack.Goals as goal

pub returns : goal.returns
unfolding type_in flat_in
returns c = ap (λ (b : Base). ty_of (record { base = b; outer = c.args.w % 8; middle = c.args.w / 8 % 8; inner = c.args.w / 64 % 8 })) c.base_in-b.ensures

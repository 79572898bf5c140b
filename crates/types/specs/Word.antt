-- A type as one word: outer code + 8 · middle code + 64 · inner code + 512 · base, where a base is 0 for Void, 1 for Bool, 2
-- for Int, 3 for Any, 4 for Real and 5 + c for class c, whose number is a byte. Every word is a type.
use Rattle.std.specs.Prelude.{◌≡◌, ℕ, zero, suc, ◌/◌, ◌%◌, ◌<◌}
use Rattle.ocl.specs.Types.{Ty}
use Rattle.types.specs.declared.Base.{Base}
use Rattle.types.specs.declared.Base.TheVariants as b
use Rattle.types.specs.declared.FlatType.{FlatType}
use Rattle.types.specs.Flat.{ty_of, layer}

unfoldable pub base_in : ℕ → Base
base_in zero = b.Void
base_in (suc zero) = b.Bool
base_in (suc (suc zero)) = b.Int
base_in (suc (suc (suc zero))) = b.Any
base_in (suc (suc (suc (suc zero)))) = b.Real
base_in (suc (suc (suc (suc (suc c))))) = b.Class (c % 256)

unfoldable pub flat_in : ℕ → FlatType
flat_in w = record { base = base_in (w / 512); outer = w % 8; middle = w / 8 % 8; inner = w / 64 % 8 }

-- the type that a word stands for
unfoldable pub type_in : ℕ → Ty
type_in w = ty_of (flat_in w)

-- a code of three bits that says what code k says
pub record ThreeBits (k r : ℕ) : Type 0 where
  pub small : r < 8
  pub same : (base under : Ty) → layer r base under ≡ layer k base under

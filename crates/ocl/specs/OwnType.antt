-- Document 02, F-12: a node of `including`, `union` or `collect` that is typed has a type `Q(..)` exactly where its first operand has one.
-- So its own type tells whether it stands in the profile.
use Rattle.std.specs.Prelude.{◌≡◌, ℕ, T}
use Rattle.ocl.specs.Types.{Ty}
use Rattle.ocl.specs.Model.{Schema}
use Rattle.ocl.specs.Forms.{of_members, Binary}
use Rattle.ocl.specs.Typing.{typed, binary_type, attribute_type}
use Rattle.ocl.specs.Profile.{is_sequence, joins}

pub record OwnType (s : Schema) (p : ℕ) (t : Ty) : Type 0 where
  pub of_joining : (op : Binary) → T (joins op) → (u w : Ty) → (binary_type s p op t u).answer ≡ typed w → is_sequence w ≡ is_sequence t
  pub of_collect : (name : ℕ) (w : Ty) → (attribute_type s p of_members name t).answer ≡ typed w → is_sequence w ≡ is_sequence t

abbrev pub OwnTypeLaw : Type 0
OwnTypeLaw = (s : Schema) (p : ℕ) (t : Ty) → OwnType s p t

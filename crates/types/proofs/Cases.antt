-- Bases and letter codes case by case, once for all laws that go over them. Assumes nothing.
use mathlib.Core.Path.{◌≡◌, refl}
use Prim.Native.Nat.{ℕ, zero, suc}
use native.Mathlib.Omega.{arith}
use Rattle.ocl.specs.Types.{Simple, any, boolean, integer, real, class, collection, Ty, void, simple}
use Rattle.types.specs.declared.Base.{Base}
use Rattle.types.specs.declared.Base.TheVariants as b
use Rattle.types.specs.Flat.{base_type, base_tag, base_class, letter_of}

-- a base is Void or a simple type
pub by_base : (P : Ty → Type 0) → P void → ((a : Simple) → P (simple a)) → (x : Base) → P (base_type x)
by_base P v s b.Void = v
by_base P v s b.Bool = s boolean
by_base P v s b.Int = s integer
by_base P v s b.Any = s any
by_base P v s b.Real = s real
by_base P v s (b.Class c) = s (class c)

-- a base that is not Void is a simple type
pub by_simple : (P : Ty → Type 0) → ((a : Simple) → P (simple a)) → (x : Base) → (base_tag x ≡ 0 → ⊥) → P (base_type x)
by_simple P s b.Void h = absurd (h refl)
by_simple P s b.Bool h = s boolean
by_simple P s b.Int h = s integer
by_simple P s b.Any h = s any
by_simple P s b.Real h = s real
by_simple P s (b.Class c) h = s (class c)

pub is_void : (x : Base) → base_tag x ≡ 0 → base_type x ≡ void
is_void b.Void e = refl
is_void b.Bool e = absurd (omega arith)
is_void b.Int e = absurd (omega arith)
is_void b.Any e = absurd (omega arith)
is_void b.Real e = absurd (omega arith)
is_void (b.Class c) e = absurd (omega arith)

pub is_any_lem : (x : Base) → base_tag x ≡ 3 → base_type x ≡ simple any
is_any_lem b.Void e = absurd (omega arith)
is_any_lem b.Bool e = absurd (omega arith)
is_any_lem b.Int e = absurd (omega arith)
is_any_lem b.Any e = refl
is_any_lem b.Real e = absurd (omega arith)
is_any_lem (b.Class c) e = absurd (omega arith)

pub is_class : (x : Base) → base_tag x ≡ 5 → base_type x ≡ simple (class (base_class x))
is_class b.Void e = absurd (omega arith)
is_class b.Bool e = absurd (omega arith)
is_class b.Int e = absurd (omega arith)
is_class b.Any e = absurd (omega arith)
is_class b.Real e = absurd (omega arith)
is_class (b.Class c) e = refl

-- every code but those of S, Q and B says C
pub other_letter : (k : ℕ) → (k ≡ 2 → ⊥) → (k ≡ 3 → ⊥) → (k ≡ 4 → ⊥) → letter_of k ≡ collection
unfolding letter_of
other_letter zero s q h = refl
other_letter (suc zero) s q h = refl
other_letter (suc (suc zero)) s q h = absurd (s refl)
other_letter (suc (suc (suc zero))) s q h = absurd (q refl)
other_letter (suc (suc (suc (suc zero)))) s q h = absurd (h refl)
other_letter (suc (suc (suc (suc (suc k))))) s q h = refl

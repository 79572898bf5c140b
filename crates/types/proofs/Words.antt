-- Laws of a type as one word. Assumes nothing.
use mathlib.Core.Path.{◌≡◌, refl, ap}
use Prim.Native.Nat.{ℕ, zero, suc, ◌+◌, ◌*◌, ◌-◌, ◌/◌, ◌%◌, ◌≤◌, ◌<◌}
use native.Mathlib.Omega.{arith}
use Rattle.ocl.specs.Types.{Ty}
use Rattle.types.specs.declared.Base.{Base}
use Rattle.types.specs.declared.Base.TheVariants as b
use Rattle.types.specs.declared.FlatType.{FlatType}
use Rattle.types.specs.Flat.{base_tag, base_class, letter_of, layer, ty_of}
use Rattle.types.specs.Word.{base_in, flat_in, type_in, ThreeBits}

pub bits_low : (k : ℕ) → k < 8 → ThreeBits k k
bits_low k h = record { small = h; same = λ base under. refl }

high_same : (k : ℕ) (base under : Ty) → 8 ≤ k → layer 1 base under ≡ layer k base under
unfolding layer letter_of
high_same zero base under h = absurd (omega arith)
high_same (suc zero) base under h = absurd (omega arith)
high_same (suc (suc zero)) base under h = absurd (omega arith)
high_same (suc (suc (suc zero))) base under h = absurd (omega arith)
high_same (suc (suc (suc (suc zero)))) base under h = absurd (omega arith)
high_same (suc (suc (suc (suc (suc k))))) base under h = refl

pub bits_high : (k : ℕ) → 8 ≤ k → ThreeBits k 1
bits_high k h = record { small = omega arith; same = λ base under. high_same k base under h }

-- a base's number says the base
base_back : (a : Base) (n : ℕ) → base_class a < 256 → n ≡ base_tag a + base_class a → base_in n ≡ a
unfolding base_in
base_back b.Void n s e = rw e
base_back b.Bool n s e = rw e
base_back b.Int n s e = rw e
base_back b.Any n s e = rw e
base_back b.Real n s e = rw e
base_back (b.Class c) n s e =
    let q : n ≡ suc (suc (suc (suc (suc c)))) = omega arith in
    let l : c % 256 ≡ c = omega arith in
    rw q (ap b.Class l)

pub base_class_lem : (n : ℕ) → 5 ≤ n → b.Class ((n - 5) % 256) ≡ base_in n
unfolding base_in
base_class_lem zero h = absurd (omega arith)
base_class_lem (suc zero) h = absurd (omega arith)
base_class_lem (suc (suc zero)) h = absurd (omega arith)
base_class_lem (suc (suc (suc zero))) h = absurd (omega arith)
base_class_lem (suc (suc (suc (suc zero)))) h = absurd (omega arith)
base_class_lem (suc (suc (suc (suc (suc c))))) h = let e : suc (suc (suc (suc (suc c)))) - 5 ≡ c = omega arith in ap (λ (k : ℕ). b.Class (k % 256)) e

pub pack_law : (t : FlatType) (n o m i : ℕ) → base_class t.base < 256 → n ≡ base_tag t.base + base_class t.base → ThreeBits t.outer o → ThreeBits t.middle m → ThreeBits t.inner i → type_in (o + 8 * m + 64 * i + 512 * n) ≡ ty_of t
unfolding type_in flat_in
pack_law t n o m i s e p q r =
    let w = o + 8 * m + 64 * i + 512 * n in
    let wo : w % 8 ≡ o = omega (arith, p.small) in
    let w8 : w / 8 ≡ m + 8 * (i + 8 * n) = omega (arith, p.small) in
    let wm : w / 8 % 8 ≡ m = rw w8 (omega (arith, q.small)) in
    let w64 : w / 64 ≡ i + 8 * n = omega (arith, p.small, q.small) in
    let wi : w / 64 % 8 ≡ i = rw w64 (omega (arith, r.small)) in
    let wn : w / 512 ≡ n = omega (arith, p.small, q.small, r.small) in
    rw (wo, wm, wi, wn, base_back t.base n s e, p.same, q.same, r.same)

pub tag_le : (a : Base) → base_tag a ≤ 5
tag_le b.Void = omega arith
tag_le b.Bool = omega arith
tag_le b.Int = omega arith
tag_le b.Any = omega arith
tag_le b.Real = omega arith
tag_le (b.Class c) = omega arith

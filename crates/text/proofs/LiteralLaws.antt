-- Laws of numbers as words: what the code makes of a field's Integer or Real, and what a word tells of the field. Assumes nothing.
use Prim.Native.Nat.{ℕ, ◌<◌}
use mathlib.Core.Path.{◌≡◌, refl, sym, ap, ◌∙◌, subst}
use mathlib.Core.Bool.{Bool, true, false}
use mathlib.Core.Option.{Option, none, some}
use native.Mathlib.Omega.{arith}
use lib.IntN.{ℤ}
use lib.Dec.{T}
use lib.Ieee.{Float}
use lib.Ieee.Scale.{finite}
use Rattle.laws.specs.Choice.{map_some}
use Rattle.std.specs.Prelude.{if◌then◌else◌, Result, Ok, Err}
use Rattle.laws.specs.Integers.{bias}
use Rattle.laws.proofs.Tests.{Any?, any_some, test_true}
use Rattle.reals.specs.Reals.{Real, is_binary64, Number, int, real, in_range, kept}
use Rattle.reals.specs.Words.{cell}
use Rattle.reals.specs.Floats.{f64_of}
use Rattle.reals.specs.Spelling.{reads, refused, read_real}
use Rattle.reals.proofs.Spelling.{spelling_laws}
use Rattle.floats.specs.Meanings.{coded_of, spelled_of, SoundText, ReadsReal, CellOf}
use Rattle.floats.specs.declared.Number.TheVariants as coded
use Rattle.ocl.proofs.Ranges.{bias_small}
use Rattle.sheet.specs.Text.{Bytes}
use Rattle.sheet.specs.Lines.{a_real}
use Rattle.sheet.specs.SpellingLaws.{reading_of}
use Rattle.sheet.proofs.RealFields.{field_alike}
use Rattle.text.specs.Numbers.{whole_of}
use Rattle.text.specs.Literals.{Narrow, literal_of}
use Rattle.text.proofs.IntegerLaws.{whole_bad, whole_out, whole_is}
use Rattle.memory.specs.declared.refusals.Misread.{Misread}
use Rattle.memory.specs.declared.refusals.Misread.TheVariants.{Malformed, OverLimit}

-- ---- what a word tells

pub literal_bad : (o : Option Number) → Err Malformed ≡ literal_of o → o ≡ none
unfolding literal_of
literal_bad none h = refl
literal_bad (some x) h = absurd (go (kept x) h)
  where
    go : (t : Bool) → Err Malformed ≡ (if t then Ok (cell x) else Err OverLimit) → ⊥
    go true h = let z : ◌≡◌ {A = ℕ} 0 1 = cc in omega arith
    go false h = let z : ◌≡◌ {A = ℕ} 0 1 = cc in omega arith

pub literal_over : (o : Option Number) → Err OverLimit ≡ literal_of o → Any? (λ x. kept x ≡ false) o
unfolding literal_of
literal_over none h = absurd (let z : ◌≡◌ {A = ℕ} 0 1 = cc in omega arith)
literal_over (some x) h = any_some (go (kept x) h)
  where
    go : (t : Bool) → Err OverLimit ≡ (if t then Ok (cell x) else Err OverLimit) → t ≡ false
    go true h = absurd (let z : ◌≡◌ {A = ℕ} 0 1 = cc in omega arith)
    go false h = refl

pub literal_is : {w : ℕ} (o : Option Number) → Ok w ≡ literal_of o → Any? (λ x. (kept x ≡ true) × (w ≡ cell x)) o
unfolding literal_of
literal_is none h = absurd (let z : ◌≡◌ {A = ℕ} 0 1 = cc in omega arith)
literal_is {w} (some x) h = any_some (go (kept x) h)
  where
    go : (t : Bool) → Ok w ≡ (if t then Ok (cell x) else Err OverLimit) → (t ≡ true) × (w ≡ cell x)
    go true h = (refl, cc)
    go false h = absurd (let z : ◌≡◌ {A = ℕ} 0 1 = cc in omega arith)

-- ---- Integers

pub whole_narrow : {z : Result ℕ Misread} (o : Option ℤ) → z ≡ whole_of o → Narrow z
unfolding whole_of
whole_narrow none e = subst Narrow (sym e) tt
whole_narrow (some z) e = subst Narrow (sym e) (go (in_range z) refl)
  where
    go : (t : Bool) → in_range z ≡ t → Narrow (if t then Ok (bias z) else Err OverLimit)
    go true h = bias_small z h
    go false h = tt

-- what may be handed to `cell_of`
pub integer_sound : {z : Result ℕ Misread} {n : ℕ} → Narrow z → z ≡ Ok n → n < 4294967296
integer_sound h e = subst Narrow e h

module _ {z : Result ℕ Misread} (o : Option ℤ) (e : z ≡ whole_of o) where
  pub integer_none : {m : Misread} → z ≡ Err m → Err m ≡ literal_of (map_some int o)
  unfolding literal_of map_some kept
  integer_none {m = Malformed} h = rw (whole_bad o (sym h ∙ e))
  integer_none {m = OverLimit} h = go (whole_out o (sym h ∙ e))
    where
      go : {o : Option ℤ} → Any? (λ z. in_range z ≡ false) o → Err OverLimit ≡ literal_of (map_some int o)
      go (any_some t) = rw t

  pub integer_is : {n w : ℕ} → z ≡ Ok n → CellOf (coded.Integer n) w → Ok w ≡ literal_of (map_some int o)
  unfolding literal_of map_some kept coded_of
  integer_is {n} {w} h c = go (whole_is o (sym h ∙ e))
    where
      go : {o : Option ℤ} → Any? (λ z. (in_range z ≡ true) × (n ≡ bias z)) o → Ok w ≡ literal_of (map_some int o)
      go (any_some {x = z} t) = rw t.0 (ap Ok (c.is (int z) (subst T (sym t.0) tt) (ap coded.Integer t.1)))

-- ---- Reals

-- what the crate `floats` makes of a field that reads so
data Told : Option Real → Result Float Misread → Type 0 where
  told_bad : Told none (Err Malformed)
  told_over : {y : Real} → kept (real y) ≡ false → Told (some y) (Err OverLimit)
  told_is : {y : Real} → kept (real y) ≡ true → Told (some y) (Ok (f64_of y))

told : (f : Bytes) → Told (a_real f) (spelled_of (read_real f))
unfolding a_real reading_of spelled_of kept
told f = go (a_real f) (field_alike f)
  where
    go : (o : Option Real) → read_real f ≡ reading_of o → Told o (spelled_of (read_real f))
    go none e = rw e told_bad
    go (some y) e = by (is_binary64 y) refl e
      where
        by : (t : Bool) → is_binary64 y ≡ t → read_real f ≡ (if t then reads y else refused 4) → Told (some y) (spelled_of (read_real f))
        by true b e = rw e (told_is (test_true (kept (real y)) (spelling_laws.only f y e).0))
        by false b e = rw e (told_over {y = y} (rw b))

module _ (f : Bytes) {s : Result Float Misread} (got : ReadsReal f s) where
  of_field : Told (a_real f) s
  of_field = subst (Told (a_real f)) (sym got.is) (told f)

  pub real_none : {m : Misread} → s ≡ Err m → Err m ≡ literal_of (map_some real (a_real f))
  unfolding literal_of map_some
  real_none {m} h = go of_field h
    where
      go : {o : Option Real} {s : Result Float Misread} → Told o s → s ≡ Err m → Err m ≡ literal_of (map_some real o)
      go told_bad h = cc
      go (told_over k) h = rw k cc
      go (told_is k) h = absurd (let z : ◌≡◌ {A = ℕ} 0 1 = cc in omega arith)

  pub real_is : {x : Float} {w : ℕ} → s ≡ Ok x → CellOf (coded.Real x) w → Ok w ≡ literal_of (map_some real (a_real f))
  unfolding literal_of map_some coded_of
  real_is {x} {w} h c = go of_field h
    where
      go : {o : Option Real} {s : Result Float Misread} → Told o s → s ≡ Ok x → Ok w ≡ literal_of (map_some real o)
      go told_bad h = absurd (let z : ◌≡◌ {A = ℕ} 0 1 = cc in omega arith)
      go (told_over k) h = absurd (let z : ◌≡◌ {A = ℕ} 0 1 = cc in omega arith)
      go (told_is {y} k) h = rw k (ap Ok (c.is (real y) (subst T (sym k) tt) (let e : x ≡ f64_of y = cc in ap coded.Real e)))

  pub real_sound : {x : Float} → s ≡ Ok x → T (finite x)
  real_sound e = subst SoundText e got.sound

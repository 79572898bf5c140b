-- The fields of a line by their places, as code reads them: how many there are, each field, and the number in it. Assumes nothing.
use mathlib.Core.Path.{◌≡◌, refl, sym, ap, ◌∙◌}
use mathlib.Core.Bool.{Bool, true, false, ◌&&◌, true≢false}
use mathlib.Core.Option.{Option, none, some}
use mathlib.Core.List.{List, [], ◌∷◌}
use Prim.Native.Nat.{ℕ, suc, ◌≤◌, ◌<◌, min}
use native.Mathlib.Omega.{arith}
use borrow.Author.Tests.{eqb-true}
use lib.Dec.{eqb}
use lib.ListN.{length, get_or, drop, drop_of_length-le}
use lib.Seq.{drop-cons}
use Rattle.laws.specs.Choice.{on_some}
use Rattle.sheet.specs.Text.{Bytes}
use Rattle.sheet.specs.Lines.{is, next, done}
use Rattle.text.specs.Numbers.{cut_num}
use Rattle.std.specs.Prelude.{Option as Optional, Some, None, Result, Ok, Err}
use Rattle.std.specs.Option.{ok_or}
use Rattle.memory.specs.declared.refusals.Refusal.{Refusal}
use Rattle.memory.specs.declared.refusals.Refusal.TheVariants.{BadLine}

pub word_is : (f w : Bytes) → is f w ≡ true → f ≡ w
unfolding is
word_is [] [] h = refl
word_is [] (c ∷ w) h = absurd (true≢false (sym h))
word_is (b ∷ f) [] h = absurd (true≢false (sym h))
word_is (b ∷ f) (c ∷ w) h = go (eqb b c) refl (word_is f w) h
  where
    go : (t : Bool) → t ≡ eqb b c → (is f w ≡ true → f ≡ w) → (t && is f w) ≡ true → ◌≡◌ {A = Bytes} (b ∷ f) (c ∷ w)
    go true e ih q = rw (eqb-true b c (sym e), ih q)
    go false e ih q = absurd (true≢false (sym q))

-- ---- a reader of exactly n fields

abbrev pub Takes : {A : Type 0} → ℕ → (List Bytes → Option A) → Type 0
Takes n p = (fs : List Bytes) → (length fs ≡ n → ⊥) → p fs ≡ none

pub takes_none : {A : Type 0} (x : A) → Takes 0 (done x)
unfolding done
takes_none x [] h = absurd (h refl)
takes_none x (f ∷ fs) h = refl

pub takes_more : {A B : Type 0} (read : Bytes → Option A) (p : A → List Bytes → Option B) (n : ℕ) → ((x : A) → Takes n (p x)) → Takes (suc n) (next read p)
unfolding next on_some
takes_more read p n each [] h = refl
takes_more read p n each (f ∷ fs) h = go (read f)
  where
    go : (o : Option _) → on_some o (λ x. p x fs) ≡ none
    go none = refl
    go (some x) = each x fs (λ e. h (ap suc e))

-- ---- the field at a place

module _ {A B : Type 0} (read : Bytes → Option A) (p : A → List Bytes → Option B) (fs : List Bytes) (i : ℕ) (here : i < length fs) where
  pub field_bad : read (get_or fs i []) ≡ none → next read p (drop i fs) ≡ none
  unfolding next on_some
  field_bad h = rw (drop-cons fs i [] here, h)

  pub field_some : {x : A} → read (get_or fs i []) ≡ some x → next read p (drop i fs) ≡ p x (drop (suc i) fs)
  unfolding next on_some
  field_some h = rw (drop-cons fs i [] here, h)

pub fields_done : {A : Type 0} (x : A) (fs : List Bytes) (i : ℕ) → length fs ≤ i → done x (drop i fs) ≡ some x
unfolding done
fields_done x fs i h = rw (drop_of_length-le fs h)

-- ---- the number in a field

abbrev pub the : Option ℕ → ℕ
the none = 0
the (some n) = n

module _ {m : ℕ} (o : Option ℕ) (read : Some m ≡ cut_num o) where
  pub num_some : o ≡ some (the o)
  unfolding cut_num
  num_some = go o read
    where
      go : (o : Option ℕ) → Some m ≡ cut_num o → o ≡ some (the o)
      go none h = absurd (let z : ◌≡◌ {A = ℕ} 0 1 = cc in omega arith)
      go (some n) h = refl

  pub num_cut : m ≡ min (the o) 1000000
  unfolding cut_num
  num_cut = go o read
    where
      go : (o : Option ℕ) → Some m ≡ cut_num o → m ≡ min (the o) 1000000
      go none h = absurd (let z : ◌≡◌ {A = ℕ} 0 1 = cc in omega arith)
      go (some n) h = cc

  -- a number below the cut is the number itself
  pub num_exact : m < 1000000 → o ≡ some m
  num_exact h = num_some ∙ ap some (omega (arith, num_cut))

-- ---- a field that is read, or for which its line is refused

module _ {A : Type 0} {o p : Optional A} (read : o ≡ p) where
  pub is_read : {x : A} → ◌≡◌ {A = Result A Refusal} (Ok x) (ok_or o BadLine) → Some x ≡ p
  is_read {x} h = go o h ∙ read
    where
      go : (o : Optional A) → ◌≡◌ {A = Result A Refusal} (Ok x) (ok_or o BadLine) → Some x ≡ o
      go None h = absurd (let z : ◌≡◌ {A = ℕ} 0 1 = cc in omega arith)
      go (Some y) h = let z : x ≡ y = cc in ap Some z

  pub not_read : {d : Refusal} → ◌≡◌ {A = Result A Refusal} (Err d) (ok_or o BadLine) → (None ≡ p) × (d ≡ BadLine)
  not_read {d} h = let z = go o h in (z.0 ∙ read, z.1)
    where
      go : (o : Optional A) → ◌≡◌ {A = Result A Refusal} (Err d) (ok_or o BadLine) → (◌≡◌ {A = Optional A} None o) × (d ≡ BadLine)
      go None h = (refl, cc)
      go (Some y) h = absurd (let z : ◌≡◌ {A = ℕ} 0 1 = cc in omega arith)

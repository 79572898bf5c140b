-- What begins at a place of a field: the answers of `object_at`, `whole_at`, `real_at`, `opens_at` and `part_at`. Assumes nothing.
use mathlib.Core.Path.{◌≡◌, refl, sym, ap, ◌∙◌, subst}
use mathlib.Core.Bool.{Bool, true, false}
use mathlib.Core.Option.{Option, none, some}
use mathlib.Core.List.{[], ◌∷◌, ◌++◌}
use Prim.Native.Nat.{ℕ, suc, ◌+◌, ◌-◌, ◌<◌, ◌≤◌, min}
use native.Mathlib.Omega.{arith}
use native.Mathlib.Decide.{dec_lt}
use lib.IntN.{ℤ}
use lib.ListN.{length, get_or, take, drop, length-drop, take-append-drop, drop_of_length-le}
use lib.Seq.{drop-drop, length-take-le}
use lib.Dec.{eqb}
use borrow.Author.Tests.{ne_eqb, lt-ltb, le-ltb}
use Rattle.laws.specs.Choice.{or_else, on_some, map_some}
use Rattle.std.specs.Prelude.{if◌then◌else◌, Option as Optional, Some, None, Result, Ok, Err}
use Rattle.laws.proofs.Tests.{Any?, any_some}
use Rattle.laws.proofs.Options.{on_some_some, or_else_none}
use Rattle.laws.proofs.Parts.{at_next}
use Rattle.ocl.specs.Types.{Kind, set, sequence, bag, kind_code}
use Rattle.ocl.specs.Values.{bool, num, obj, coll}
use Rattle.reals.specs.Reals.{Number, int, real, kept}
use Rattle.reals.specs.Words.{cell}
use Rattle.sheet.specs.Text.{Bytes, bytes, after, literal, behind, ◌or◌, mapped, Parser, number_parser, integer_parser, real_parser, digits, plain, is_digit}
use Rattle.sheet.specs.Lines.{a_real}
use Rattle.sheet.specs.Spelling.{value_parser, members_parser, letter_byte, kind_byte}
use Rattle.sheet.specs.Limits.{part_within}
use Rattle.sheet.proofs.RealFields.{front_real, short_none}
use Rattle.text.specs.Numbers.{cut_num, leading, DigitsEnd, IntegerEnd, whole_of, minus_at, leading_integer}
use Rattle.text.specs.Literals.{literal_of}
use Rattle.text.proofs.NumberLaws.{number_from, end_from, num_bad, num_is}
use Rattle.text.proofs.IntegerLaws.{integer_from}
use Rattle.values.specs.Cells.{bit, head}
use Rattle.values.proofs.Heads.{head_obj}
use Rattle.slots.specs.declared.parts.Part.{Part}
use Rattle.slots.specs.declared.parts.Part.TheVariants as part
use Rattle.slots.specs.Parts.{alone_bool, alone_num, alone_obj, After, told_simple, told_wide, ObjectIs, object_bad, object_is, part_of, NumberIs, number_bad, number_is, OpensIs, opens_not, opens, PartIs, part_bad, part_alone, part_opens}
use Rattle.memory.specs.declared.refusals.Misread.{Misread}
use Rattle.memory.specs.declared.refusals.Misread.TheVariants.{OverLimit}

-- ---- an object's number

module _ {f : Bytes} {at e : ℕ} (to : DigitsEnd f at e) {r : Optional ℕ} (got : r ≡ cut_num (leading (drop at f))) where
  pub object_none : r ≡ None → ObjectIs f at None
  unfolding map_some
  object_none h = object_bad refl (number_from to ∙ rw (num_bad (leading (drop at f)) (sym h ∙ got)))

  ends : (from : ℕ) → from < at → After f from e
  ends from h = record { up = omega (arith, end_from to); within = to.within }

  pub object_small : {m : ℕ} → r ≡ Some m → m < 96 → ObjectIs f at (Some (part.Simple (18442240474082181120 + m) e))
  unfolding map_some part_within
  object_small {m} h l = go (leading (drop at f)) (number_from to) (num_is _ (sym h ∙ got))
    where
      go : (o : Option ℕ) → number_parser (drop at f) ≡ map_some (λ n. (n, drop e f)) o → Any? (λ n. m ≡ min n 1000000) o → ObjectIs f at (Some (part.Simple (18442240474082181120 + m) e))
      go (some n) d (any_some q) =
          let s : m ≡ n = omega arith in
          object_is n (λ from g. told_simple (ends from g) (ap (λ (k : ℕ). 18442240474082181120 + k) s ∙ sym (head_obj n)) (lt-ltb n 96 (omega arith))) d
      go none d x'' = elim x'' [ ]

  pub object_wide : {m : ℕ} → r ≡ Some m → 96 ≤ m → ObjectIs f at (Some (part.Wide e))
  unfolding map_some part_within
  object_wide {m} h l = go (leading (drop at f)) (number_from to) (num_is _ (sym h ∙ got))
    where
      go : (o : Option ℕ) → number_parser (drop at f) ≡ map_some (λ n. (n, drop e f)) o → Any? (λ n. m ≡ min n 1000000) o → ObjectIs f at (Some (part.Wide e))
      go (some n) d (any_some q) = object_is n (λ from g. told_wide (ends from g) (le-ltb n 96 (omega arith))) d
      go none d x'' = elim x'' [ ]

-- ---- a number

-- o is what is read at `at`, up to e
number_told : {A : Type 0} {p : Parser A} {number : A → Number} {f : Bytes} {at e : ℕ} {l : Result ℕ Misread} {r : Optional Part} (o : Option A) → p (drop at f) ≡ map_some (λ x. (x, drop e f)) o
    → ((x : A) → o ≡ some x → After f at e) → l ≡ literal_of (map_some number o) → r ≡ part_of l e → NumberIs p number f at r
unfolding map_some literal_of head part_within
number_told {e = e} none d a got is = number_bad (is ∙ ap (λ (l : Result ℕ Misread). part_of l e) got) d
number_told {p = p} {number} {f} {at} {e} {r = r} (some x) d a got is = go (kept (number x)) refl (is ∙ ap (λ (l : Result ℕ Misread). part_of l e) got)
  where
    go : (t : Bool) → kept (number x) ≡ t → r ≡ part_of (if t then Ok (cell (number x)) else Err OverLimit) e → NumberIs p number f at r
    go true k q = subst (NumberIs p number f at) (sym q) (number_is x (told_simple (a x refl) refl k) d)
    go false k q = subst (NumberIs p number f at) (sym q) (number_is x (told_wide (a x refl) k) d)

-- ---- an Integer

some_digit : (s : Bytes) {n : ℕ} → leading s ≡ some n → 0 < length (digits s)
unfolding leading plain
some_digit s {n} e = go (digits s) _ e
  where
    go : (d : Bytes) (m : ℕ) → (if plain d then some m else none) ≡ some n → 0 < length d
    go [] m h = absurd (let z : ◌≡◌ {A = ℕ} 0 1 = cc in omega arith)
    go (b ∷ d) m h = omega arith

reached : {f : Bytes} {at e : ℕ} → IntegerEnd f at e → {z : ℤ} → leading_integer (drop at f) ≡ some z → After f at e
unfolding leading_integer
reached {f} {at} {e} to h =
    let m = on_some_some (leading (drop (minus_at (drop at f)) (drop at f))) _ h in
    let d = some_digit (drop (minus_at (drop at f)) (drop at f)) m.1 in
    let q = drop-drop (minus_at (drop at f)) at f in
    let g : 0 < length (digits (drop (at + minus_at (drop at f)) f)) = rw q at d in
    record { up = omega (arith, to.digits.is); within = to.digits.within }

pub whole_part : {f : Bytes} {at e : ℕ} {z : Result ℕ Misread} {l : Result ℕ Misread} {r : Optional Part} → IntegerEnd f at e → z ≡ whole_of (leading_integer (drop at f))
    → ((o : Option ℤ) → z ≡ whole_of o → l ≡ literal_of (map_some int o)) → r ≡ part_of l e → NumberIs integer_parser int f at r
whole_part {f} {at} to read got is = number_told (leading_integer (drop at f)) (integer_from to) (λ z h. reached to h) (got _ read) is

-- ---- a Real

pub real_none : {f : Bytes} {at : ℕ} → at ≤ length f → length f - at < 17 → NumberIs real_parser real f at None
real_none {f} {at} h k = number_bad refl (short_none (drop at f) (omega (arith, length-drop at f)))

pub real_part : {f : Bytes} {at : ℕ} {l : Result ℕ Misread} {r : Optional Part} → at ≤ length f → 17 ≤ length f - at → l ≡ literal_of (map_some real (a_real (take (at + 17 - at) (drop at f)))) → r ≡ part_of l (at + 17)
    → NumberIs real_parser real f at r
unfolding a_real
real_part {f} {at} h k got is =
    let n : at + 17 - at ≡ 17 = omega arith in
    number_told (a_real (take 17 (drop at f))) front (λ y e. record { up = omega arith; within = omega arith }) (rw n at got) is
  where
    front : real_parser (drop at f) ≡ map_some (λ y. (y, drop (at + 17) f)) (a_real (take 17 (drop at f)))
    front =
        ap real_parser (sym (take-append-drop 17 (drop at f)) ∙ ap (λ (s : Bytes). take 17 (drop at f) ++ s) (drop-drop 17 at f))
        ∙ front_real (take 17 (drop at f)) (drop (at + 17) f) (length-take-le 17 (drop at f) (omega (arith, length-drop at f)))

-- ---- what `value_parser` makes of the first byte

two_more : (at : ℕ) → at + 1 + 1 ≡ at + 2
two_more at = omega arith

module _ (n : ℕ) where
  true_first : (s : Bytes) → value_parser (suc n) (116 ∷ s) ≡ some (bool true, s)
  unfolding value_parser bytes after literal ◌or◌ or_else map_some
  true_first s = refl

  false_first : (s : Bytes) → value_parser (suc n) (102 ∷ s) ≡ some (bool false, s)
  unfolding value_parser bytes after literal ◌or◌ or_else map_some
  false_first s = refl

  real_first : (s : Bytes) → value_parser (suc n) (114 ∷ s) ≡ mapped (λ r. num (real r)) real_parser (114 ∷ s)
  unfolding value_parser bytes after literal behind ◌or◌ mapped or_else on_some map_some integer_parser number_parser digits plain is_digit
  real_first s = or_else_none _

  object_first : (s : Bytes) → value_parser (suc n) (64 ∷ s) ≡ or_else (mapped obj number_parser s) none
  unfolding value_parser bytes after literal behind ◌or◌ mapped or_else on_some map_some integer_parser real_parser number_parser digits plain is_digit
  object_first s = refl

  -- a collection's letter at the end, before another byte, and before its bracket
  letter_last : (k : Kind) → value_parser (suc n) (kind_byte k ∷ []) ≡ none
  unfolding value_parser kind_byte letter_byte bytes after literal behind ◌or◌ mapped or_else on_some map_some integer_parser real_parser number_parser digits plain is_digit
  letter_last set = refl
  letter_last sequence = refl
  letter_last bag = refl

  letter_other : (k : Kind) (c : ℕ) (s : Bytes) → eqb 40 c ≡ false → value_parser (suc n) (kind_byte k ∷ c ∷ s) ≡ none
  unfolding value_parser kind_byte letter_byte bytes after literal behind ◌or◌ mapped or_else on_some map_some integer_parser real_parser number_parser digits plain is_digit
  letter_other set c s e = rw e
  letter_other sequence c s e = rw e
  letter_other bag c s e = rw e

  letter_first : (k : Kind) (s : Bytes) → value_parser (suc n) (kind_byte k ∷ 40 ∷ s) ≡ mapped (coll k) (members_parser n) s
  unfolding value_parser kind_byte letter_byte bytes after literal behind ◌or◌ mapped or_else on_some map_some integer_parser real_parser number_parser digits plain is_digit
  letter_first set s = or_else_none _
  letter_first sequence s = or_else_none _
  letter_first bag s = refl

  -- any other byte begins an Integer or nothing
  integer_first : (b : ℕ) (s : Bytes) → (116 ≡ b → ⊥) → (102 ≡ b → ⊥) → (64 ≡ b → ⊥) → (114 ≡ b → ⊥) → (83 ≡ b → ⊥) → (81 ≡ b → ⊥) → (66 ≡ b → ⊥) → value_parser (suc n) (b ∷ s) ≡ mapped (λ z. num (int z)) integer_parser (b ∷ s)
  unfolding value_parser bytes after literal behind ◌or◌ mapped or_else on_some map_some real_parser
  integer_first b s p q r g x y z = rw (ne_eqb 116 b p, ne_eqb 102 b q, ne_eqb 64 b r, ne_eqb 114 b g, ne_eqb 83 b x, ne_eqb 81 b y, ne_eqb 66 b z) (or_else_none _)

-- ---- the part

module _ (f : Bytes) (at : ℕ) (h : at < length f) where
  pub from_byte : {b : ℕ} → get_or f at 0 ≡ b → drop at f ≡ b ∷ drop (at + 1) f
  from_byte e = at_next 0 f at h ∙ ap (λ (c : ℕ). c ∷ drop (at + 1) f) e

  next_byte : After f at (at + 1)
  next_byte = record { up = omega arith; within = omega arith }

  pub part_true : get_or f at 0 ≡ 116 → PartIs f at (Some (part.Simple 1 (at + 1)))
  unfolding head bit part_within
  part_true e = part_alone (bool true) alone_bool (told_simple {c = 1} next_byte (omega arith) refl) (λ n. ap (value_parser (suc n)) (from_byte e) ∙ true_first n _)

  pub part_false : get_or f at 0 ≡ 102 → PartIs f at (Some (part.Simple 0 (at + 1)))
  unfolding head bit part_within
  part_false e = part_alone (bool false) alone_bool (told_simple {c = 0} next_byte (omega arith) refl) (λ n. ap (value_parser (suc n)) (from_byte e) ∙ false_first n _)

  pub part_object : {r : Optional Part} → get_or f at 0 ≡ 64 → ObjectIs f (at + 1) r → PartIs f at r
  unfolding or_else mapped map_some
  part_object e (object_bad q d) = part_bad q (λ n. ap (value_parser (suc n)) (from_byte e) ∙ object_first n _ ∙ rw d)
  part_object e (object_is o t d) = part_alone (obj o) alone_obj (t at (omega arith)) (λ n. ap (value_parser (suc n)) (from_byte e) ∙ object_first n _ ∙ rw d)

  pub part_letter : {r : Optional Part} {kind : ℕ} (k : Kind) → get_or f at 0 ≡ kind_byte k → kind ≡ kind_code k → OpensIs f at kind r → PartIs f at r
  part_letter k e c (opens m z q l d) =
      let two : drop (at + 1) f ≡ 40 ∷ drop (at + 2) f = at_next 0 f (at + 1) l ∙ rw (d, two_more at) in
      part_opens k (q ∙ ap (λ (m : ℕ). Some (part.Opens m (at + 2))) (z.is k c)) (omega arith)
      (λ n. ap (value_parser (suc n)) (from_byte e ∙ ap (λ (s : Bytes). kind_byte k ∷ s) two) ∙ letter_first n k _)
  part_letter k e c (opens_not q d) = part_bad q (λ n. ap (value_parser (suc n)) (from_byte e) ∙ rest n (dec_lt (at + 1) (length f)))
    where
      rest : (n : ℕ) → Dec (at + 1 < length f) → value_parser (suc n) (kind_byte k ∷ drop (at + 1) f) ≡ none
      rest n (yes l) = rw (at_next 0 f (at + 1) l) (letter_other n k _ _ (ne_eqb 40 (get_or f (at + 1) 0) (λ g. d l (sym g))))
      rest n (no l) = rw (drop_of_length-le f {i = at + 1} (omega arith)) (letter_last n k)

  -- a number is read as p reads it, whatever parts may follow
  by_number : {A : Type 0} {p : Parser A} {number : A → Number} {r : Optional Part} → ((n : ℕ) → value_parser (suc n) (drop at f) ≡ mapped (λ x. num (number x)) p (drop at f)) → NumberIs p number f at r → PartIs f at r
  unfolding mapped map_some
  by_number e (number_bad q d) = part_bad q (λ n. e n ∙ rw d)
  by_number {number = number} e (number_is x t d) = part_alone (num (number x)) alone_num t (λ n. e n ∙ rw d)

  pub part_real : {r : Optional Part} → get_or f at 0 ≡ 114 → NumberIs real_parser real f at r → PartIs f at r
  part_real e i = by_number (λ n. ap (value_parser (suc n)) (from_byte e) ∙ real_first n _ ∙ ap (mapped (λ y. num (real y)) real_parser) (sym (from_byte e))) i

  pub part_whole : {r : Optional Part} (b : ℕ) → get_or f at 0 ≡ b → (116 ≡ b → ⊥) → (102 ≡ b → ⊥) → (64 ≡ b → ⊥) → (114 ≡ b → ⊥) → (83 ≡ b → ⊥) → (81 ≡ b → ⊥) → (66 ≡ b → ⊥)
      → NumberIs integer_parser int f at r → PartIs f at r
  part_whole b e p q u g x y z i =
      by_number (λ n. ap (value_parser (suc n)) (from_byte e) ∙ integer_first n b _ p q u g x y z ∙ ap (mapped (λ k. num (int k)) integer_parser) (sym (from_byte e))) i

-- `int`, `real` and `coll`, and codes of no form. Assumes nothing.
use mathlib.Core.Path.{◌≡◌, refl, sym, ◌∙◌}
use mathlib.Core.Bool.{Bool, true, false, not, true≢false}
use mathlib.Core.Option.{Option, none, some}
use mathlib.Core.List.{List, [], ◌∷◌, map}
use Prim.Native.Nat.{ℕ, ◌<◌, ◌≤◌}
use native.Mathlib.Nat.{zero-add}
use native.Mathlib.Omega.{arith}
use borrow.Author.Tests.{eq-eqb, ne_eqb, eqb-true, eqb-false, le-leb, lt-leb, not-true, not-false}
use lib.Dec.{eqb}
use lib.ListN.{length, get_or, take}
use Rattle.laws.specs.Choice.{or_else, on_some, map_some}
use Rattle.std.specs.Prelude.{if◌then◌else◌, Ok, Err}
use Rattle.laws.proofs.Cases.{zero_least}
use Rattle.laws.proofs.Options.{nowhere}
use Rattle.laws.proofs.Tests.{Any?, any_some}
use Rattle.ocl.specs.Types.{Kind, set, sequence, bag}
use Rattle.reals.specs.Reals.{Number, int, real, kept}
use Rattle.reals.specs.Words.{cell}
use Rattle.ocl.specs.Forms.{number}
use Rattle.sheet.specs.Text.{Bytes, bytes, after, literal, ◌or◌, whole, at_end}
use Rattle.sheet.specs.Lines.{Shape, leaf, assemble, next, done, each, a_number, an_integer, a_real, a_kind, at_most_four, assemble_fields}
use Rattle.sheet.specs.Sheet.{operands_of}
use Rattle.sheet.specs.Limits.{leaf_held, held_by, form_within}
use Rattle.sheet.specs.Refusals.{two_variables, form_known}
use Rattle.text.specs.Forms.{shape_by}
use Rattle.text.specs.Literals.{literal_of}
use Rattle.text.specs.Words.{only_byte}
use Rattle.text.proofs.ShapeLaws.{over_forms, between_forms, no_shape, integer_shape, real_shape, assemble_shape}
use Rattle.text.proofs.LiteralLaws.{literal_bad, literal_over, literal_is}
use Rattle.nodes.specs.Nodes.{Called, leaf_words, assemble_code, operand_word, shape_words}
use Rattle.shapes.specs.declared.Parsed.{Parsed}
use Rattle.shapes.specs.declared.numbers.Numbers.{Numbers}
use Rattle.shapes.specs.Fields.{cut, four, Read, unread, read, NumbersRead}
use Rattle.shapes.specs.Calls.{called_by, by_number}
use Rattle.shapes.specs.Forms.{StandsFor, Spelled, spelled, FormRead, kind_byte_code}
use Rattle.shapes.specs.Built.{Assembles}
use Rattle.shapes.proofs.ExactLaws.{each-length}
use Rattle.shapes.proofs.FormLaws.{nodes_small, is_iterate, no_type}
use Rattle.memory.specs.declared.refusals.Misread.TheVariants.{Malformed, OverLimit}

-- ---- `int` and `real`

-- the form of a number that one field spells
abbrev a_number_in : {A : Type 0} → (Bytes → Option A) → (A → Number) → List Bytes → Option Shape
a_number_in p c = next p (λ z. done (leaf (number (c z))))

other_fields : {A : Type 0} (p : Bytes → Option A) (c : A → Number) (fs : List Bytes) → (length fs ≡ 1 → ⊥) → a_number_in p c fs ≡ none
unfolding next done
other_fields p c [] h = refl
other_fields p c (f ∷ []) h = absurd (h refl)
other_fields p c (f ∷ g ∷ fs) h = nowhere (p f) _ (λ z. refl)

one_field : {A : Type 0} (p : Bytes → Option A) (c : A → Number) (fs : List Bytes) → length fs ≡ 1 → a_number_in p c fs ≡ map_some (λ x. leaf (number x)) (map_some c (p (get_or fs 0 [])))
unfolding next done on_some map_some
one_field p c [] h = absurd (omega arith)
one_field {A} p c (f ∷ []) h = go (p f)
  where
    go : (o : Option A) → on_some o (λ z. some (leaf (number (c z)))) ≡ map_some (λ x. leaf (number x)) (map_some c o)
    go none = refl
    go (some z) = refl
one_field p c (f ∷ g ∷ fs) h = absurd (omega arith)

module _ (fs : List Bytes) where
  pub integer_not : (length fs ≡ 1 → ⊥) → shape_by 3 fs ≡ none
  integer_not h = integer_shape fs ∙ other_fields an_integer int fs h

  pub real_not : (length fs ≡ 1 → ⊥) → shape_by 38 fs ≡ none
  real_not h = real_shape fs ∙ other_fields a_real real fs h

  pub integer_one : length fs ≡ 1 → shape_by 3 fs ≡ map_some (λ x. leaf (number x)) (map_some int (an_integer (get_or fs 0 [])))
  integer_one h = integer_shape fs ∙ one_field an_integer int fs h

  pub real_one : length fs ≡ 1 → shape_by 38 fs ≡ map_some (λ x. leaf (number x)) (map_some real (a_real (get_or fs 0 [])))
  real_one h = real_shape fs ∙ one_field a_real real fs h

-- what `number_form` answers
module _ (o : Option Number) where
  pub number_bad : (Err Malformed) ≡ literal_of o → map_some (λ x. leaf (number x)) o ≡ none
  unfolding map_some
  number_bad h = rw (literal_bad o h)

  pub number_over : {line : ℕ} → Err OverLimit ≡ literal_of o
      → FormRead line (map_some (λ x. leaf (number x)) o) (record { spelled = true; words = 3 ∷ 0 ∷ 0 ∷ 0 ∷ 0 ∷ 0 ∷ 0 ∷ line ∷ []; count = 0; within = false; apart = true; classes = 0 })
  unfolding map_some held_by leaf_held form_within two_variables operands_of is_iterate
  number_over {line} h = record { is = go (literal_over o h); few = omega arith; size = refl; low = omega arith }
    where
      p : Parsed
      p = record { spelled = true; words = 3 ∷ 0 ∷ 0 ∷ 0 ∷ 0 ∷ 0 ∷ 0 ∷ line ∷ []; count = 0; within = false; apart = true; classes = 0 }

      go : {o : Option Number} → Any? (λ x. kept x ≡ false) o → Spelled line (map_some (λ x. leaf (number x)) o) p
      go (any_some {x} e) =
          spelled {p = p} refl
          (record {
            within = sym e;
            apart = λ h. refl;
            known = λ h n q. absurd (true≢false (sym h ∙ e));
            counted = refl;
            operands = refl;
            type = 0;
            said = λ h. no_type (leaf (number x)) refl;
            words = λ h k. absurd (true≢false (sym h ∙ e));
          })

  pub number_is : {line w : ℕ} → Ok w ≡ literal_of o
      → FormRead line (map_some (λ x. leaf (number x)) o) (record { spelled = true; words = 3 ∷ w ∷ 0 ∷ 0 ∷ 0 ∷ 0 ∷ 0 ∷ line ∷ []; count = 0; within = true; apart = true; classes = 0 })
  unfolding map_some held_by leaf_held form_within two_variables form_known operands_of shape_words leaf_words is_iterate
  number_is {line} {w} h = record { is = go (literal_is o h); few = omega arith; size = refl; low = omega arith }
    where
      p : Parsed
      p = record { spelled = true; words = 3 ∷ w ∷ 0 ∷ 0 ∷ 0 ∷ 0 ∷ 0 ∷ line ∷ []; count = 0; within = true; apart = true; classes = 0 }

      go : {o : Option Number} → Any? (λ x. (kept x ≡ true) × (w ≡ cell x)) o → Spelled line (map_some (λ x. leaf (number x)) o) p
      go (any_some {x} e) =
          spelled {p = p} refl
          (record {
            within = sym e.0;
            apart = λ h. refl;
            known = λ h n q. zero_least n;
            counted = refl;
            operands = refl;
            type = 0;
            said = λ h. no_type (leaf (number x)) refl;
            words = λ h k. rw e.1;
          })

-- ---- the kind of `coll`

module _ (b : ℕ) where
  pub kind_set : b ≡ 83 → 27 ≡ kind_byte_code b
  unfolding kind_byte_code
  kind_set e = rw e

  pub kind_sequence : b ≡ 81 → 28 ≡ kind_byte_code b
  unfolding kind_byte_code
  kind_sequence e = rw e

  pub kind_bag : b ≡ 66 → 29 ≡ kind_byte_code b
  unfolding kind_byte_code
  kind_bag e = rw e

  pub kind_other : (b ≡ 83 → ⊥) → (b ≡ 81 → ⊥) → (b ≡ 66 → ⊥) → 0 ≡ kind_byte_code b
  unfolding kind_byte_code
  kind_other s q g = rw (ne_eqb b 83 s, ne_eqb b 81 q, ne_eqb b 66 g)

data KindSaid : Option Kind → ℕ → Type 0 where
  no_kind : KindSaid none 0
  a_kind_lem : {k : Kind} → KindSaid (some k) (assemble_code k)

kind_one : (b : ℕ) → KindSaid (a_kind (b ∷ [])) (kind_byte_code b)
unfolding a_kind whole ◌or◌ literal after bytes or_else on_some map_some at_end kind_byte_code assemble_code
kind_one b = go (eqb b 83) (eqb b 81) (eqb b 66) refl refl refl
  where
    turn : (c : ℕ) (t : Bool) → eqb b c ≡ t → eqb c b ≡ t
    turn c true e = eq-eqb c b (sym (eqb-true b c e))
    turn c false e = ne_eqb c b (λ q. eqb-false b c e (sym q))

    go : (s q g : Bool) → eqb b 83 ≡ s → eqb b 81 ≡ q → eqb b 66 ≡ g → KindSaid (a_kind (b ∷ [])) (if s then 27 else if q then 28 else if g then 29 else 0)
    go true q g d e f = rw (turn 83 true d) a_kind_lem
    go false true g d e f = rw (turn 83 false d, turn 81 true e) a_kind_lem
    go false false true d e f = rw (turn 83 false d, turn 81 false e, turn 66 true f) a_kind_lem
    go false false false d e f = rw (turn 83 false d, turn 81 false e, turn 66 false f) no_kind

kind_more : (b c : ℕ) (s : Bytes) → a_kind (b ∷ c ∷ s) ≡ none
unfolding a_kind whole ◌or◌ literal after bytes or_else on_some map_some at_end
kind_more b c s = go (eqb 83 b) (eqb 81 b) (eqb 66 b) refl refl refl
  where
    go : (p q g : Bool) → eqb 83 b ≡ p → eqb 81 b ≡ q → eqb 66 b ≡ g → a_kind (b ∷ c ∷ s) ≡ none
    go true q g d e f = rw d
    go false true g d e f = rw (d, e)
    go false false true d e f = rw (d, e, f)
    go false false false d e f = rw (d, e, f)

kind_said : (f : Bytes) → KindSaid (a_kind f) (kind_byte_code (only_byte f))
unfolding only_byte kind_byte_code a_kind whole ◌or◌ literal after bytes or_else on_some map_some at_end
kind_said [] = no_kind
kind_said (b ∷ []) = kind_one b
kind_said (b ∷ c ∷ s) = rw (kind_more b c s) no_kind

-- ---- `coll`

assemble_operands : (es : List ℕ) (m a b : ℕ) → length es ≤ 4 → take (length es) (get_or (map cut es) 0 0 ∷ get_or (map cut es) 1 0 ∷ get_or (map cut es) 2 0 ∷ get_or (map cut es) 3 0 ∷ m ∷ a ∷ b ∷ []) ≡ map cut es
assemble_operands [] m a b h = refl
assemble_operands (w ∷ []) m a b h = refl
assemble_operands (w ∷ x ∷ []) m a b h = refl
assemble_operands (w ∷ x ∷ y ∷ []) m a b h = refl
assemble_operands (w ∷ x ∷ y ∷ z ∷ []) m a b h = refl
assemble_operands (w ∷ x ∷ y ∷ z ∷ v ∷ es) m a b h = absurd (omega arith)

assemble_words : (k : Kind) (es : List ℕ) (d : Called) (line : ℕ) → length es ≤ 4
    → assemble_code k ∷ get_or es 0 0 ∷ get_or es 1 0 ∷ get_or es 2 0 ∷ get_or es 3 0 ∷ length es ∷ 0 ∷ line ∷ [] ≡ shape_words 0 0 d line (assemble k es)
unfolding shape_words operand_word
assemble_words k [] d line h = refl
assemble_words k (w ∷ []) d line h = simp zero-add
assemble_words k (w ∷ x ∷ []) d line h = simp zero-add
assemble_words k (w ∷ x ∷ y ∷ []) d line h = simp zero-add
assemble_words k (w ∷ x ∷ y ∷ z ∷ []) d line h = simp zero-add
assemble_words k (w ∷ x ∷ y ∷ z ∷ v ∷ es) d line h = absurd (omega arith)

assemble_stands : {line m code : ℕ} {at : List ℕ} (k : Kind) (es : List ℕ) → code ≡ assemble_code k → length es ≡ m → m ≤ 4 → at ≡ four (map cut es)
    → StandsFor line (assemble k es) (record { spelled = true; words = code ∷ get_or at 0 0 ∷ get_or at 1 0 ∷ get_or at 2 0 ∷ get_or at 3 0 ∷ m ∷ 0 ∷ line ∷ []; count = m; within = true; apart = true; classes = 0 })
unfolding held_by form_within two_variables form_known operands_of is_iterate
assemble_stands {line} k es c n few e = record {
  within = refl;
  apart = λ h. refl;
  known = λ h n q. zero_least n;
  counted = sym n;
  operands = rw (e, ← n) (assemble_operands es (length es) 0 line (omega arith));
  type = 0;
  said = λ h. no_type (assemble k es) refl;
  words = λ h q. rw (c, e, nodes_small es q, ← n) (assemble_words k es (called_by by_number (assemble k es)) line (omega arith));
}

-- over four members, and no kind
assemble_many : (k : Kind) (gs : List Bytes) → 4 < length gs → on_some (each a_number gs) (at_most_four k) ≡ none
unfolding on_some at_most_four
assemble_many k gs h = go (each a_number gs) refl
  where
    go : (o : Option (List ℕ)) → each a_number gs ≡ o → on_some o (at_most_four k) ≡ none
    go none e = refl
    go (some es) e = rw (lt-leb (length es) 4 (omega (arith, each-length gs es e)))

pub assemble_none : (fs : List Bytes) → length fs ≡ 0 → shape_by 27 fs ≡ none
unfolding assemble_fields next
assemble_none [] h = assemble_shape []
assemble_none (f ∷ fs) h = absurd (omega arith)

pub assemble_over : (fs : List Bytes) → 5 < length fs → shape_by 27 fs ≡ none
unfolding assemble_fields next on_some
assemble_over [] h = absurd (omega arith)
assemble_over (f ∷ gs) h = assemble_shape (f ∷ gs) ∙ go (a_kind f)
  where
    go : (o : Option Kind) → on_some o (λ k. on_some (each a_number gs) (at_most_four k)) ≡ none
    go none = refl
    go (some k) = assemble_many k gs (omega arith)

pub assemble_other : {code : ℕ} (f : Bytes) (gs : List Bytes) → code ≡ kind_byte_code (only_byte f) → code ≡ 0 → shape_by 27 (f ∷ gs) ≡ none
unfolding assemble_fields next on_some assemble_code
assemble_other {code} f gs c z = assemble_shape (f ∷ gs) ∙ go (kind_said f) (sym c ∙ z)
  where
    never : (k : Kind) → assemble_code k ≡ 0 → ⊥
    never set e = omega arith
    never sequence e = omega arith
    never bag e = omega arith

    go : {o : Option Kind} {n : ℕ} → KindSaid o n → n ≡ 0 → on_some o (λ k. on_some (each a_number gs) (at_most_four k)) ≡ none
    go no_kind e = refl
    go (a_kind_lem {k}) e = absurd (never k e)

pub assemble_built : {code m line : ℕ} {at : List ℕ} → m ≤ 4
    → Assembles code at m line (record { spelled = true; words = code ∷ get_or at 0 0 ∷ get_or at 1 0 ∷ get_or at 2 0 ∷ get_or at 3 0 ∷ m ∷ 0 ∷ line ∷ []; count = m; within = true; apart = true; classes = 0 })
assemble_built few = record {
  is = λ k es c n e. assemble_stands k es c n few e;
  fine = record { spelled = refl; few = few; size = refl; classes = omega arith };
}

module _ {m code : ℕ} {r : Numbers} (f : Bytes) (gs : List Bytes) (c : code ≡ kind_byte_code (only_byte f)) (z : code ≡ 0 → ⊥) (n : length gs ≡ m) (few : m ≤ 4) (is : NumbersRead (each a_number gs) r) where
  -- a member that is no number, and members that are
  pub assemble_bad : not r.good ≡ true → shape_by 27 (f ∷ gs) ≡ none
  unfolding assemble_fields next on_some
  assemble_bad b = assemble_shape (f ∷ gs) ∙ go (a_kind f) (each a_number gs) is.is
    where
      go : (o : Option Kind) (q : Option (List ℕ)) → Read q r → on_some o (λ k. on_some q (at_most_four k)) ≡ none
      go none q x = refl
      go (some k) none (unread e) = refl
      go (some k) (some es) (read e a) = absurd (true≢false (sym e ∙ not-true r.good b))

  pub assemble_read : {line : ℕ} {p : Parsed} → not r.good ≡ false → Assembles code r.at m line p → FormRead line (shape_by 27 (f ∷ gs)) p
  unfolding assemble_fields next on_some at_most_four
  assemble_read {line} {p} b y = rw (assemble_shape (f ∷ gs)) (record { is = go (kind_said f) c; few = y.fine.few; size = y.fine.size; low = y.fine.classes })
    where
      members : (k : Kind) → code ≡ assemble_code k → (o : Option (List ℕ)) → each a_number gs ≡ o → Read o r → Spelled line (on_some o (at_most_four k)) p
      members k c none e (unread x) = absurd (true≢false (sym (not-false r.good b) ∙ x))
      members k c (some es) e (read x a) =
          let l : length es ≡ m = each-length gs es e ∙ n in
          rw (le-leb (length es) 4 (omega arith)) (spelled {p = p} y.fine.spelled (y.is k es c l a))

      go : {o : Option Kind} {n : ℕ} → KindSaid o n → code ≡ n → Spelled line (on_some o (λ k. on_some (each a_number gs) (at_most_four k))) p
      go no_kind c = absurd (z c)
      go (a_kind_lem {k}) c = members k c (each a_number gs) refl is.is

-- ---- codes of no form

pub no_code : (k : ℕ) (fs : List Bytes) → 38 < k → shape_by k fs ≡ none
no_code k fs h = no_shape k fs (over_forms k (omega arith))

pub gap_code : (k : ℕ) (fs : List Bytes) → 28 ≤ k → k < 30 → shape_by k fs ≡ none
gap_code k fs l h = no_shape k fs (between_forms k l h)

-- The form that fields spell, from code to code: what the code's words stand for. Assumes nothing.
use mathlib.Core.Path.{◌≡◌, refl, sym, ap, ◌∙◌}
use mathlib.Core.Bool.{Bool, true, false, ◌&&◌, true≢false}
use mathlib.Core.Option.{none, some}
use mathlib.Core.List.{List, [], ◌∷◌, map}
use Prim.Native.Nat.{ℕ, ◌+◌, ◌<◌, ◌≤◌}
use native.Mathlib.Nat.{zero-add}
use native.Mathlib.Omega.{arith}
use native.Mathlib.Decide.{dec_lt}
use borrow.Author.Tests.{lt-leb, le-leb, ltb-true, lt-ltb, le-ltb}
use lib.Dec.{ltb, leb}
use lib.ListN.{length, get_or, take}
use Rattle.std.specs.Prelude.{if◌then◌else◌}
use Rattle.laws.specs.Lists.{all_of}
use Rattle.laws.proofs.Cases.{AllBelow, all-below, from_below, zero_least}
use Rattle.ocl.specs.Types.{set, sequence, bag}
use Rattle.ocl.specs.Forms.{plus, minus, times, div, modulo, Connective, and, or, Leaf, truth, undef, self, Unary, negation, size_of, convert, Binary, equal, less, arith as calculation, divide, over, includes, including, union}
use Rattle.sheet.specs.Lines.{Shape, leaf, unary, binary, connective, is_undef, conditional, let_in, attribute, call, quantified, iterate, assemble, no_field, one_number, two_numbers, forms}
use Rattle.sheet.specs.Sheet.{operands_of}
use Rattle.sheet.specs.Limits.{is_node, is_variable, Held, nothing, leaf_held, unary_held, held_by, form_within}
use Rattle.sheet.specs.Refusals.{two_variables, form_known}
use Rattle.text.specs.Words.{form_codes}
use Rattle.text.specs.Forms.{with_code, fields_by}
use Rattle.nodes.specs.Nodes.{Called, TypeSaid, leaf_words, unary_words, binary_code, arith_code, division_code, connective_code, shape_words}
use Rattle.shapes.specs.Fields.{cut, four}
use Rattle.shapes.specs.Calls.{called_by, by_number}
use Rattle.shapes.specs.Forms.{StandsFor, misspelled, FormRead, PlainCode, constant, itself, one, two, undef_test, conditional as conditional_code, quotient}
use Rattle.shapes.specs.Built.{class_count, count_of, form_with, numbers_of, shape_in, Builds}

-- ---- tests that do not see the cut

not_variable : (i : ℕ) → 16 ≤ i → is_variable i ≡ false
unfolding is_variable
not_variable i h = rw (le-leb 1 i (omega arith), lt-leb i 15 (omega arith))

pub cut_variable : (i : ℕ) → is_variable (cut i) ≡ is_variable i
cut_variable i = go (dec_lt i 1000000)
  where
    go : Dec (i < 1000000) → is_variable (cut i) ≡ is_variable i
    go (yes l) = ap is_variable (omega arith)
    go (no l) = not_variable (cut i) (omega arith) ∙ sym (not_variable i (omega arith))

pub variable_small : (i : ℕ) → is_variable i ≡ true → cut i ≡ i
variable_small i h = go (dec_lt i 1000000)
  where
    go : Dec (i < 1000000) → cut i ≡ i
    go (yes l) = omega arith
    go (no l) = absurd (true≢false (sym h ∙ not_variable i (omega arith)))

pub below_small : (i n : ℕ) → n ≤ 1000000 → ltb i n ≡ true → cut i ≡ i
below_small i n l h = omega (arith, ltb-true i n h)

-- the class that is named is one of n
pub class_known : (c n : ℕ) → n ≤ 64 → leb (class_count (cut c)) n ≡ ltb c n
unfolding class_count
class_known c n h = go (dec_lt c n) (dec_lt (cut c) 64)
  where
    go : Dec (c < n) → Dec (cut c < 64) → leb (if ltb (cut c) 64 then cut c + 1 else 65) n ≡ ltb c n
    go (yes l) (yes k) = rw (lt-ltb (cut c) 64 k) (le-leb (cut c + 1) n (omega arith) ∙ sym (lt-ltb c n l))
    go (yes l) (no k) = absurd (omega arith)
    go (no l) (yes k) = rw (lt-ltb (cut c) 64 k) (lt-leb (cut c + 1) n (omega arith) ∙ sym (le-ltb c n (omega arith)))
    go (no l) (no k) = rw (le-ltb (cut c) 64 (omega arith)) (lt-leb 65 n (omega arith) ∙ sym (le-ltb c n (omega arith)))

pub class_low : (c : ℕ) → class_count c ≤ 65
unfolding class_count
class_low c = go (dec_lt c 64)
  where
    go : Dec (c < 64) → (if ltb c 64 then c + 1 else 65) ≤ 65
    go (yes k) = rw (lt-ltb c 64 k) (omega arith)
    go (no k) = rw (le-ltb c 64 (omega arith)) (omega arith)

pub nodes_small : (l : List ℕ) → all_of is_node l ≡ true → map cut l ≡ l
unfolding all_of is_node
nodes_small [] h = refl
nodes_small (a ∷ l) h = go (ltb a 768) refl (nodes_small l) h
  where
    go : (b : Bool) → ltb a 768 ≡ b → (all_of is_node l ≡ true → map cut l ≡ l) → (b && all_of is_node l) ≡ true → cut a ∷ map cut l ≡ a ∷ l
    go true e ih h = rw (below_small a 768 (omega arith) e, ih h)
    go false e ih h = absurd (true≢false (sym h))

-- ---- no form

pub no_form : (line : ℕ) → FormRead line none (record { spelled = false; words = 0 ∷ 0 ∷ 0 ∷ 0 ∷ 0 ∷ 0 ∷ 0 ∷ 0 ∷ []; count = 0; within = false; apart = false; classes = 0 })
no_form line = record { is = misspelled refl; few = omega arith; size = refl; low = omega arith }

-- ---- nothing but operands

record Plain (code : ℕ) (l : List ℕ) (x : Shape) : Type 0 where
  bare : held_by x ≡ nothing
  operands : operands_of x ≡ l
  words : (d : Called) (line : ℕ) → shape_words 0 0 d line x ≡ code ∷ get_or l 0 0 ∷ get_or l 1 0 ∷ get_or l 2 0 ∷ 0 ∷ 0 ∷ 0 ∷ line ∷ []
  said : TypeSaid 0 x

-- of m numbers
record PlainForm (code m : ℕ) : Type 0 where
  counts : numbers_of code ≡ m
  is : (l : List ℕ) → length l ≡ m → Plain code l (shape_in code l)

plain_operands : (l : List ℕ) (d : ℕ) → length l ≤ 3 → take (length l) (get_or (map cut l) 0 0 ∷ get_or (map cut l) 1 0 ∷ get_or (map cut l) 2 0 ∷ 0 ∷ 0 ∷ 0 ∷ d ∷ []) ≡ map cut l
plain_operands [] d h = refl
plain_operands (x ∷ []) d h = refl
plain_operands (x ∷ y ∷ []) d h = refl
plain_operands (x ∷ y ∷ z ∷ []) d h = refl
plain_operands (x ∷ y ∷ z ∷ w ∷ l) d h = absurd (omega arith)

plain_stands : {code line m : ℕ} {at : List ℕ} (l : List ℕ) {x : Shape} → Plain code l x → length l ≡ m → m ≤ 3 → at ≡ four (map cut l)
    → StandsFor line x (record { spelled = true; words = code ∷ get_or at 0 0 ∷ get_or at 1 0 ∷ get_or at 2 0 ∷ 0 ∷ 0 ∷ 0 ∷ line ∷ []; count = m; within = true; apart = true; classes = 0 })
unfolding form_within two_variables form_known
plain_stands {code} {line} {m} l {x} is n few e = record {
  within = ap (λ (h : Held). h.within) (sym is.bare);
  apart = λ h. ap (λ (h : Held). h.apart) (sym is.bare);
  known = λ h n l. zero_least n ∙ ap (λ (h : Held). h.known n) (sym is.bare);
  counted = sym n ∙ ap length (sym is.operands);
  operands = rw (← n, e, is.operands) (plain_operands l line (omega arith));
  type = 0;
  said = λ h. is.said;
  words = λ h k. rw (e, nodes_small l (rw is.operands at k)) (sym (is.words (called_by by_number x) line));
}

unfoldable pub is_iterate : Shape → Bool
is_iterate (leaf l) = false
is_iterate (unary op a) = false
is_iterate (binary op a b) = false
is_iterate (connective c a b) = false
is_iterate (is_undef a) = false
is_iterate (conditional c a b) = false
is_iterate (let_in i a b) = false
is_iterate (attribute x name a) = false
is_iterate (call a n) = false
is_iterate (quantified q i a b) = false
is_iterate (iterate i j t a e b) = true
is_iterate (assemble k es) = false

pub no_type : (x : Shape) → is_iterate x ≡ false → TypeSaid 0 x
unfolding is_iterate
no_type x h = record { said = λ i j t a e b q. absurd (true≢false (sym (ap is_iterate q) ∙ h)) }

module _ (code : ℕ) where
  leaf_plain : (l : Leaf) → leaf_held l ≡ nothing → leaf_words l ≡ (code, 0) → fields_by code ≡ some (no_field (leaf l)) → PlainForm code 0
  unfolding held_by operands_of shape_words is_iterate count_of form_with
  leaf_plain l bare e r = record { counts = rw r; is = is }
    where
      is : (es : List ℕ) → length es ≡ 0 → Plain code es (shape_in code es)
      is [] h = rw r (record { bare = bare; operands = refl; words = λ d line. rw e; said = no_type (leaf l) refl })
      is (a ∷ es) h = absurd (omega arith)

  -- a form of one operand and nothing else
  one_plain : (f : ℕ → Shape) → ((a : ℕ) → Plain code (a ∷ []) (f a)) → fields_by code ≡ some (one_number f) → PlainForm code 1
  unfolding count_of form_with
  one_plain f p r = record { counts = rw r; is = is }
    where
      is : (es : List ℕ) → length es ≡ 1 → Plain code es (shape_in code es)
      is [] h = absurd (omega arith)
      is (a ∷ []) h = rw r (p a)
      is (a ∷ b ∷ es) h = absurd (omega arith)

  unary_plain : (op : Unary) → unary_held op ≡ nothing → unary_words op ≡ (code, 0) → fields_by code ≡ some (one_number (unary op)) → PlainForm code 1
  unfolding held_by operands_of shape_words is_iterate
  unary_plain op bare e = one_plain (unary op) (λ a. record { bare = bare; operands = refl; words = λ d line. simp (e, zero-add); said = no_type (unary op a) refl })

  -- of two
  two_plain : (f : ℕ → ℕ → Shape) → ((a b : ℕ) → Plain code (a ∷ b ∷ []) (f a b)) → fields_by code ≡ some (two_numbers f) → PlainForm code 2
  unfolding count_of form_with
  two_plain f p r = record { counts = rw r; is = is }
    where
      is : (es : List ℕ) → length es ≡ 2 → Plain code es (shape_in code es)
      is [] h = absurd (omega arith)
      is (a ∷ []) h = absurd (omega arith)
      is (a ∷ b ∷ []) h = rw r (p a b)
      is (a ∷ b ∷ c ∷ es) h = absurd (omega arith)

  binary_plain : (op : Binary) → binary_code op ≡ code → fields_by code ≡ some (two_numbers (binary op)) → PlainForm code 2
  unfolding held_by operands_of shape_words is_iterate
  binary_plain op e = two_plain (binary op) (λ a b. record { bare = refl; operands = refl; words = λ d line. simp (e, zero-add); said = no_type (binary op a b) refl })

  connective_plain : (op : Connective) → connective_code op ≡ code → fields_by code ≡ some (two_numbers (connective op)) → PlainForm code 2
  unfolding held_by operands_of shape_words is_iterate
  connective_plain op e = two_plain (connective op) (λ a b. record { bare = refl; operands = refl; words = λ d line. simp (e, zero-add); said = no_type (connective op a b) refl })

is_undef_plain : PlainForm 30 1
unfolding held_by operands_of shape_words is_iterate fields_by with_code forms form_codes
is_undef_plain = one_plain 30 is_undef (λ a. record { bare = refl; operands = refl; words = λ d line. simp zero-add; said = no_type (is_undef a) refl }) refl

conditional_plain : PlainForm 31 3
unfolding held_by operands_of shape_words is_iterate count_of form_with fields_by with_code forms form_codes
conditional_plain = record { counts = refl; is = is }
  where
    is : (es : List ℕ) → length es ≡ 3 → Plain 31 es (conditional (get_or es 0 0) (get_or es 1 0) (get_or es 2 0))
    is [] h = absurd (omega arith)
    is (a ∷ []) h = absurd (omega arith)
    is (a ∷ b ∷ []) h = absurd (omega arith)
    is (a ∷ b ∷ c ∷ []) h = record { bare = refl; operands = refl; words = λ d line. simp zero-add; said = no_type (conditional a b c) refl }
    is (a ∷ b ∷ c ∷ d ∷ es) h = absurd (omega arith)

plain_code : {code m : ℕ} → PlainCode code m → PlainForm code m
unfolding fields_by with_code forms form_codes leaf_held leaf_words unary_held unary_words binary_code arith_code division_code connective_code AllBelow
plain_code (constant {k} h) =
    all-below (λ k. PlainForm k 0) 3
    (((tt, leaf_plain 0 (truth false) refl refl refl), leaf_plain 1 (truth true) refl refl refl), leaf_plain 2 undef refl refl refl)
    k h
plain_code itself = leaf_plain 4 self refl refl refl
plain_code (one {k} l h) =
    from_below (λ k. PlainForm k 1) 7 5 (
      (
        (((tt, unary_plain 7 negation refl refl refl), unary_plain 8 size_of refl refl refl), unary_plain 9 (convert set) refl refl refl),
        unary_plain 10 (convert sequence) refl refl refl,
      ),
      unary_plain 11 (convert bag) refl refl refl,
    )
    k l (omega arith)
plain_code (two {k} l h) =
    from_below (λ k. PlainForm k 2) 13 12 (
      (
        (
          (
            (
              (
                (
                  (
                    ((((tt, binary_plain 13 equal refl refl), binary_plain 14 less refl refl), binary_plain 15 (calculation plus) refl refl), binary_plain 16 (calculation minus) refl refl),
                    binary_plain 17 (calculation times) refl refl,
                  ),
                  binary_plain 18 (divide div) refl refl,
                ),
                binary_plain 19 (divide modulo) refl refl,
              ),
              binary_plain 20 includes refl refl,
            ),
            binary_plain 21 including refl refl,
          ),
          binary_plain 22 union refl refl,
        ),
        connective_plain 23 and refl refl,
      ),
      connective_plain 24 or refl refl,
    )
    k l (omega arith)
plain_code undef_test = is_undef_plain
plain_code conditional_code = conditional_plain
plain_code quotient = binary_plain 37 over refl refl

plain_few : {code m : ℕ} → PlainCode code m → m ≤ 3
plain_few (constant h) = omega arith
plain_few itself = omega arith
plain_few (one l h) = omega arith
plain_few (two l h) = omega arith
plain_few undef_test = omega arith
plain_few conditional_code = omega arith
plain_few quotient = omega arith

pub plain_built : {code m line : ℕ} {at : List ℕ} → PlainCode code m
    → Builds code at line (record { spelled = true; words = code ∷ get_or at 0 0 ∷ get_or at 1 0 ∷ get_or at 2 0 ∷ 0 ∷ 0 ∷ 0 ∷ line ∷ []; count = m; within = true; apart = true; classes = 0 })
plain_built c =
    let p = plain_code c in
    let few = plain_few c in
    record {
      is = λ l s n e. plain_stands l (p.is l (n ∙ p.counts)) (n ∙ p.counts) few e;
      fine = record { spelled = refl; few = omega arith; size = refl; classes = omega arith };
    }

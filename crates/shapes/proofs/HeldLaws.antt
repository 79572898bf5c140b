-- Forms that hold a number besides their operands: a variable, a class, a name. Assumes nothing.
use mathlib.Core.Path.{◌≡◌, refl, ap, ◌∙◌}
use mathlib.Core.Bool.{Bool, true}
use mathlib.Core.List.{List, [], ◌∷◌, map}
use Prim.Native.Nat.{ℕ}
use native.Mathlib.Nat.{zero-add}
use native.Mathlib.Omega.{arith}
use lib.Dec.{ltb}
use lib.ListN.{get_or, get_or-map}
use Rattle.laws.specs.Lists.{all_of}
use Rattle.laws.proofs.Bounds.{cut_lt}
use Rattle.laws.proofs.Cases.{AllBelow, from_below, zero_least}
use Rattle.ocl.specs.Forms.{Quantifier, for_all, exists, Access, of_object, of_members, var, all, cast_to}
use Rattle.sheet.specs.Lines.{leaf, unary, let_in, attribute, call, quantified, forms}
use Rattle.sheet.specs.Sheet.{operands_of}
use Rattle.sheet.specs.Limits.{is_node, is_class, is_variable, is_definition, leaf_held, unary_held, held_by, form_within}
use Rattle.sheet.specs.Refusals.{two_variables, form_known}
use Rattle.text.specs.Words.{form_codes}
use Rattle.text.specs.Forms.{with_code, fields_by}
use Rattle.nodes.specs.Nodes.{leaf_words, unary_words, quantifier_code, access_code, shape_words}
use Rattle.shapes.specs.Fields.{cut, four}
use Rattle.shapes.specs.Calls.{called_by}
use Rattle.shapes.specs.Forms.{StandsFor, QuantifierCode, AccessCode}
use Rattle.shapes.specs.Built.{class_count, form_with, shape_from, Builds}
use Rattle.shapes.proofs.FormLaws.{cut_variable, variable_small, below_small, class_known, class_low, nodes_small, is_iterate, no_type}

-- ---- the numbers that were read

pub cut_at : (l : List ℕ) (k : ℕ) → get_or (map cut l) k 0 ≡ cut (get_or l k 0)
cut_at l k = get_or-map cut l k 0

-- operands inside their limits were not cut
node_small : (a : ℕ) (l : List ℕ) → all_of is_node (a ∷ l) ≡ true → cut a ≡ a
node_small a l h = ap (λ (x : List ℕ). get_or x 0 0) (nodes_small (a ∷ l) h)

next_small : (a b : ℕ) (l : List ℕ) → all_of is_node (a ∷ b ∷ l) ≡ true → cut b ≡ b
next_small a b l h = ap (λ (x : List ℕ). get_or x 1 0) (nodes_small (a ∷ b ∷ l) h)

module _ (at l : List ℕ) (e : at ≡ four (map cut l)) where
  first : get_or at 0 0 ≡ cut (get_or l 0 0)
  first = rw e (cut_at l 0)

  second : get_or at 1 0 ≡ cut (get_or l 1 0)
  second = rw e (cut_at l 1)

  third : get_or at 2 0 ≡ cut (get_or l 2 0)
  third = rw e (cut_at l 2)

  variable_stands : {line : ℕ} {w : Bool} → w ≡ is_variable (get_or at 0 0)
      → StandsFor line (leaf (var (get_or l 0 0))) (record { spelled = true; words = 5 ∷ get_or at 0 0 ∷ 0 ∷ 0 ∷ 0 ∷ 0 ∷ 0 ∷ line ∷ []; count = 0; within = w; apart = true; classes = 0 })
  unfolding held_by leaf_held form_within two_variables form_known operands_of shape_words leaf_words is_iterate
  variable_stands v = record {
    within = v ∙ ap is_variable first ∙ cut_variable (get_or l 0 0);
    apart = λ h. refl;
    known = λ h n q. zero_least n;
    counted = refl;
    operands = refl;
    type = 0;
    said = λ h. no_type (leaf (var (get_or l 0 0))) refl;
    words = λ h k. rw (first, variable_small (get_or l 0 0) h);
  }

  all_stands : {line : ℕ} → StandsFor line (leaf (all (get_or l 0 0))) (record { spelled = true; words = 6 ∷ get_or at 0 0 ∷ 0 ∷ 0 ∷ 0 ∷ 0 ∷ 0 ∷ line ∷ []; count = 0; within = ltb (get_or at 0 0) 64; apart = true; classes = class_count (get_or at 0 0) })
  unfolding held_by leaf_held form_within is_class two_variables form_known operands_of shape_words leaf_words is_iterate
  all_stands = record {
    within = ap (λ (c : ℕ). ltb c 64) first ∙ cut_lt (get_or l 0 0) 1000000 64 (omega arith);
    apart = λ h. refl;
    known = λ h n q. rw first (class_known (get_or l 0 0) n q);
    counted = refl;
    operands = refl;
    type = 0;
    said = λ h. no_type (leaf (all (get_or l 0 0))) refl;
    words = λ h k. rw (first, below_small (get_or l 0 0) 64 (omega arith) h);
  }

  cast_stands : {line : ℕ} → StandsFor line (unary (cast_to (get_or l 1 0)) (get_or l 0 0)) (record { spelled = true; words = 12 ∷ get_or at 0 0 ∷ get_or at 1 0 ∷ 0 ∷ 0 ∷ 0 ∷ 0 ∷ line ∷ []; count = 1; within = ltb (get_or at 1 0) 64; apart = true; classes = class_count (get_or at 1 0) })
  unfolding held_by unary_held form_within is_class two_variables form_known operands_of shape_words unary_words is_iterate
  cast_stands = record {
    within = ap (λ (c : ℕ). ltb c 64) second ∙ cut_lt (get_or l 1 0) 1000000 64 (omega arith);
    apart = λ h. refl;
    known = λ h n q. rw second (class_known (get_or l 1 0) n q);
    counted = refl;
    operands = rw first;
    type = 0;
    said = λ h. no_type (unary (cast_to (get_or l 1 0)) (get_or l 0 0)) refl;
    words = λ h k. rw (first, second, node_small (get_or l 0 0) [] k, below_small (get_or l 1 0) 64 (omega arith) h, zero-add);
  }

  attribute_stands : {line code : ℕ} (x : Access) → access_code x ≡ code → StandsFor line (attribute x (get_or l 1 0) (get_or l 0 0)) (record { spelled = true; words = code ∷ get_or at 0 0 ∷ get_or at 1 0 ∷ 0 ∷ 0 ∷ 0 ∷ 0 ∷ line ∷ []; count = 1; within = ltb (get_or at 1 0) 256; apart = true; classes = 0 })
  unfolding held_by form_within two_variables form_known operands_of shape_words is_iterate
  attribute_stands x c = record {
    within = ap (λ (c : ℕ). ltb c 256) second ∙ cut_lt (get_or l 1 0) 1000000 256 (omega arith);
    apart = λ h. refl;
    known = λ h n q. zero_least n;
    counted = refl;
    operands = rw first;
    type = 0;
    said = λ h. no_type (attribute x (get_or l 1 0) (get_or l 0 0)) refl;
    words = λ h k. rw (c, first, second, node_small (get_or l 0 0) [] k, below_small (get_or l 1 0) 256 (omega arith) h, zero-add);
  }

  call_stands : {line : ℕ} → StandsFor line (call (get_or l 0 0) (get_or l 1 0)) (record { spelled = true; words = 36 ∷ get_or at 0 0 ∷ get_or at 1 0 ∷ 0 ∷ 0 ∷ 0 ∷ 0 ∷ line ∷ []; count = 1; within = ltb (get_or at 1 0) 32; apart = true; classes = 0 })
  unfolding held_by form_within is_definition two_variables form_known operands_of shape_words is_iterate called_by
  call_stands = record {
    within = ap (λ (c : ℕ). ltb c 32) second ∙ cut_lt (get_or l 1 0) 1000000 32 (omega arith);
    apart = λ h. refl;
    known = λ h n q. zero_least n;
    counted = refl;
    operands = rw first;
    type = 0;
    said = λ h. no_type (call (get_or l 0 0) (get_or l 1 0)) refl;
    words = λ h k. rw (first, second, node_small (get_or l 0 0) [] k, below_small (get_or l 1 0) 32 (omega arith) h, zero-add);
  }

  let_stands : {line : ℕ} {w : Bool} → w ≡ is_variable (get_or at 0 0)
      → StandsFor line (let_in (get_or l 0 0) (get_or l 1 0) (get_or l 2 0)) (record { spelled = true; words = 32 ∷ get_or at 1 0 ∷ get_or at 2 0 ∷ get_or at 0 0 ∷ 0 ∷ 0 ∷ 0 ∷ line ∷ []; count = 2; within = w; apart = true; classes = 0 })
  unfolding held_by form_within two_variables form_known operands_of shape_words is_iterate
  let_stands v = record {
    within = v ∙ ap is_variable first ∙ cut_variable (get_or l 0 0);
    apart = λ h. refl;
    known = λ h n q. zero_least n;
    counted = refl;
    operands = rw (second, third);
    type = 0;
    said = λ h. no_type (let_in (get_or l 0 0) (get_or l 1 0) (get_or l 2 0)) refl;
    words = λ h k. simp (first, second, third, node_small (get_or l 1 0) _ k, next_small (get_or l 1 0) (get_or l 2 0) [] k, variable_small (get_or l 0 0) h, zero-add);
  }

  quantifier_stands : {line code : ℕ} {w : Bool} (q : Quantifier) → quantifier_code q ≡ code → w ≡ is_variable (get_or at 1 0)
      → StandsFor line (quantified q (get_or l 1 0) (get_or l 0 0) (get_or l 2 0)) (record { spelled = true; words = code ∷ get_or at 0 0 ∷ get_or at 2 0 ∷ get_or at 1 0 ∷ 0 ∷ 0 ∷ 0 ∷ line ∷ []; count = 2; within = w; apart = true; classes = 0 })
  unfolding held_by form_within two_variables form_known operands_of shape_words is_iterate
  quantifier_stands q c v = record {
    within = v ∙ ap is_variable second ∙ cut_variable (get_or l 1 0);
    apart = λ h. refl;
    known = λ h n q. zero_least n;
    counted = refl;
    operands = rw (first, third);
    type = 0;
    said = λ h. no_type (quantified q (get_or l 1 0) (get_or l 0 0) (get_or l 2 0)) refl;
    words = λ h k. simp (c, first, second, third, node_small (get_or l 0 0) _ k, next_small (get_or l 0 0) (get_or l 2 0) [] k, variable_small (get_or l 1 0) h, zero-add);
  }

-- ---- by their codes

record QuantifierForm (code : ℕ) : Type 0 where
  which : Quantifier
  says : quantifier_code which ≡ code
  shape : (a b c : ℕ) → shape_from code a b c ≡ quantified which b a c

quantifier_form : {code : ℕ} → QuantifierCode code → QuantifierForm code
unfolding form_with fields_by with_code forms form_codes quantifier_code AllBelow
quantifier_form {code} c =
    from_below QuantifierForm 25 2
    ((tt, record { which = for_all; says = refl; shape = λ a b c. refl }), record { which = exists; says = refl; shape = λ a b c. refl })
    code c.low c.high

record AccessForm (code : ℕ) : Type 0 where
  which : Access
  says : access_code which ≡ code
  shape : (a b c : ℕ) → shape_from code a b c ≡ attribute which b a

access_form : {code : ℕ} → AccessCode code → AccessForm code
unfolding form_with fields_by with_code forms form_codes access_code AllBelow
access_form {code} c =
    from_below AccessForm 33 2
    ((tt, record { which = of_object; says = refl; shape = λ a b c. refl }), record { which = of_members; says = refl; shape = λ a b c. refl })
    code c.low c.high

module _ {line : ℕ} {at : List ℕ} where
  pub variable_built : {w : Bool} → w ≡ is_variable (get_or at 0 0)
      → Builds 5 at line (record { spelled = true; words = 5 ∷ get_or at 0 0 ∷ 0 ∷ 0 ∷ 0 ∷ 0 ∷ 0 ∷ line ∷ []; count = 0; within = w; apart = true; classes = 0 })
  unfolding form_with fields_by with_code forms form_codes
  variable_built v = record { is = λ l s n e. variable_stands at l e v; fine = record { spelled = refl; few = omega arith; size = refl; classes = omega arith } }

  pub all_built : {n : ℕ} → n ≡ class_count (get_or at 0 0)
      → Builds 6 at line (record { spelled = true; words = 6 ∷ get_or at 0 0 ∷ 0 ∷ 0 ∷ 0 ∷ 0 ∷ 0 ∷ line ∷ []; count = 0; within = ltb (get_or at 0 0) 64; apart = true; classes = n })
  unfolding form_with fields_by with_code forms form_codes
  all_built c = rw c (record { is = λ l s n e. all_stands at l e; fine = record { spelled = refl; few = omega arith; size = refl; classes = class_low (get_or at 0 0) } })

  pub cast_built : {n : ℕ} → n ≡ class_count (get_or at 1 0)
      → Builds 12 at line (record { spelled = true; words = 12 ∷ get_or at 0 0 ∷ get_or at 1 0 ∷ 0 ∷ 0 ∷ 0 ∷ 0 ∷ line ∷ []; count = 1; within = ltb (get_or at 1 0) 64; apart = true; classes = n })
  unfolding form_with fields_by with_code forms form_codes
  cast_built c = rw c (record { is = λ l s n e. cast_stands at l e; fine = record { spelled = refl; few = omega arith; size = refl; classes = class_low (get_or at 1 0) } })

  pub attribute_built : {code : ℕ} → AccessCode code
      → Builds code at line (record { spelled = true; words = code ∷ get_or at 0 0 ∷ get_or at 1 0 ∷ 0 ∷ 0 ∷ 0 ∷ 0 ∷ line ∷ []; count = 1; within = ltb (get_or at 1 0) 256; apart = true; classes = 0 })
  attribute_built c =
      let q = access_form c in
      record {
        is = λ l s n e. rw (q.shape (get_or l 0 0) (get_or l 1 0) (get_or l 2 0)) (attribute_stands at l e q.which q.says);
        fine = record { spelled = refl; few = omega arith; size = refl; classes = omega arith };
      }

  pub call_built : Builds 36 at line (record { spelled = true; words = 36 ∷ get_or at 0 0 ∷ get_or at 1 0 ∷ 0 ∷ 0 ∷ 0 ∷ 0 ∷ line ∷ []; count = 1; within = ltb (get_or at 1 0) 32; apart = true; classes = 0 })
  unfolding form_with fields_by with_code forms form_codes
  call_built = record { is = λ l s n e. call_stands at l e; fine = record { spelled = refl; few = omega arith; size = refl; classes = omega arith } }

  pub let_built : {w : Bool} → w ≡ is_variable (get_or at 0 0)
      → Builds 32 at line (record { spelled = true; words = 32 ∷ get_or at 1 0 ∷ get_or at 2 0 ∷ get_or at 0 0 ∷ 0 ∷ 0 ∷ 0 ∷ line ∷ []; count = 2; within = w; apart = true; classes = 0 })
  unfolding form_with fields_by with_code forms form_codes
  let_built v = record { is = λ l s n e. let_stands at l e v; fine = record { spelled = refl; few = omega arith; size = refl; classes = omega arith } }

  pub quantifier_built : {code : ℕ} {w : Bool} → QuantifierCode code → w ≡ is_variable (get_or at 1 0)
      → Builds code at line (record { spelled = true; words = code ∷ get_or at 0 0 ∷ get_or at 2 0 ∷ get_or at 1 0 ∷ 0 ∷ 0 ∷ 0 ∷ line ∷ []; count = 2; within = w; apart = true; classes = 0 })
  quantifier_built c v =
      let q = quantifier_form c in
      record {
        is = λ l s n e. rw (q.shape (get_or l 0 0) (get_or l 1 0) (get_or l 2 0)) (quantifier_stands at l e q.which q.says v);
        fine = record { spelled = refl; few = omega arith; size = refl; classes = omega arith };
      }

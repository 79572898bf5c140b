-- Document 01, Calls: when a well-spelled line is refused with 4, being outside its limits. Each test says what must hold. What is asked
-- of a form is listed form by form, for Refusals.antt too.
use Rattle.std.specs.Prelude.{ℕ, suc, ◌+◌, max, Bool, true, not, ◌&&◌, List, [], ◌∷◌, length, eqb, leb, ltb}
use Rattle.std.proofs.Math.Option.{Option, none, some}
use Rattle.laws.specs.Lists.{all_of}
use Rattle.reals.specs.Reals.{kept}
use Rattle.ocl.specs.Types.{Simple, any, boolean, integer, real, class, Ty, void, simple, around, depth}
use Rattle.ocl.specs.Values.{Value, bool, num, obj, coll, Values, nil, cons, size, largest, every_part}
use Rattle.ocl.specs.Forms.{Leaf, truth, undef, number, self, var, all, Unary, negation, size_of, convert, cast_to}
use Rattle.sheet.specs.Sizes.{most_classes, most_rows, most_names, most_objects, most_values, most_cells, most_definitions, most_rules, most_nodes}
use Rattle.sheet.specs.Lines.{Shape, leaf, unary, binary, connective, is_undef, conditional, let_in, attribute, call, quantified, iterate, assemble, Line, class_line, row_line, object_line, value_line, definition_line, rule_line, node_line, text_line}
use Rattle.sheet.specs.Texts.{nodes_of}
use Rattle.sheet.specs.Sheet.{Slot, Sheet, operands_of}

-- ---- parts of lines

-- the class inside a type is below n
unfoldable pub simple_class_below : ℕ → Simple → Bool
simple_class_below n any = true
simple_class_below n boolean = true
simple_class_below n integer = true
simple_class_below n real = true
simple_class_below n (class c) = ltb c n

unfoldable pub class_below : ℕ → Ty → Bool
class_below n void = true
class_below n (simple a) = simple_class_below n a
class_below n (around l t) = class_below n t

-- an Integer is in range, "object 0 to 95"; document 02, F-8: "Bits of an infinity or a NaN are 4"
unfoldable pub part_within : Value → Bool
part_within (bool b) = true
part_within (num x) = kept x
part_within (obj o) = ltb o most_objects
part_within (coll k vs) = true

-- how many collections stand inside one another: "at most three such letters deep, in a sheet's values too"
unfoldable mutual
  pub nesting : Value → ℕ
  nesting (bool b) = 0
  nesting (num x) = 0
  nesting (obj o) = 0
  nesting (coll k vs) = suc (nestings vs)

  pub nestings : Values → ℕ
  nestings nil = 0
  nestings (cons v vs) = max (nesting v) (nestings vs)

-- "class 0 to 63", "variables have numbers 1 to 15", "node numbers 0 to 767"
unfoldable pub is_class : ℕ → Bool
is_class c = ltb c most_classes

unfoldable pub is_variable : ℕ → Bool
is_variable i = leb 1 i && leb i 15

unfoldable pub is_node : ℕ → Bool
is_node a = ltb a most_nodes

-- document 02, F-13: "numbered 0 to 31 without gap"
unfoldable pub is_definition : ℕ → Bool
is_definition n = ltb n most_definitions

unfoldable pub type_within : Ty → Bool
type_within t = leb (depth t) 3 && class_below most_classes t

unfoldable pub value_within : Value → Bool
value_within v = every_part part_within v && leb (size v) largest && leb (nesting v) 3

-- ---- what a form holds besides its operands

-- what is asked of it
pub record Held : Type 0 where
  -- 4: it is within its limits
  pub within : Bool
  -- 5: the accumulator is another variable than the member
  pub apart : Bool
  -- 6: a class that is named is one of n
  pub known : ℕ → Bool
  -- 23, 24: a definition that is called is one of the first n (document 02, F-13)
  pub called : ℕ → Bool

-- nothing but its limits
abbrev pub limited : Bool → Held
limited b = record { within = b; apart = true; known = λ n. true; called = λ n. true }

-- a form that holds nothing else
abbrev pub nothing : Held
nothing = limited true

abbrev pub class_held : ℕ → Held
class_held c = record { within = is_class c; apart = true; known = λ n. ltb c n; called = λ n. true }

unfoldable pub leaf_held : Leaf → Held
leaf_held (truth b) = nothing
leaf_held undef = nothing
leaf_held (number x) = limited (kept x)
leaf_held self = nothing
leaf_held (var i) = limited (is_variable i)
leaf_held (all c) = class_held c

unfoldable pub unary_held : Unary → Held
unary_held negation = nothing
unary_held size_of = nothing
unary_held (convert k) = nothing
unary_held (cast_to c) = class_held c

unfoldable pub held_by : Shape → Held
held_by (leaf l) = leaf_held l
held_by (unary op a) = unary_held op
held_by (binary op a b) = nothing
held_by (connective c a b) = nothing
held_by (is_undef a) = nothing
held_by (conditional c a b) = nothing
held_by (let_in i a b) = limited (is_variable i)
held_by (attribute x name a) = limited (ltb name most_names)
held_by (call a d) = record { within = is_definition d; apart = true; known = λ n. true; called = λ n. ltb d n }
held_by (quantified q i a b) = limited (is_variable i)
held_by (iterate i j t a e b) = record {
  within = is_variable i && is_variable j && type_within t;
  apart = not (eqb i j);
  known = λ n. class_below n t;
  called = λ n. true;
}
held_by (assemble k es) = nothing

-- ---- what a line holds

unfoldable pub form_within : Shape → Bool
form_within x = (held_by x).within

unfoldable pub parent_within : Option ℕ → Bool
parent_within none = true
parent_within (some p) = is_class p

-- the sizes of the values so far
unfoldable pub total_size : List Slot → ℕ
total_size [] = 0
total_size (x ∷ xs) = size x.value + total_size xs

unfoldable pub within_limits : Sheet → Line → Bool
within_limits s (class_line n p) = is_class n && parent_within p
within_limits s (row_line n c name t) = ltb n most_rows && is_class c && ltb name most_names && type_within t
within_limits s (object_line n c) = ltb n most_objects && is_class c
-- "At most 1,024 lines, sizes together at most 2,048"
within_limits s (value_line o a v) =
    ltb o most_objects && ltb a most_rows && value_within v && ltb (length s.slots) most_values && leb (total_size s.slots + size v) most_cells
within_limits s (definition_line n c t) = is_definition n && is_class c && type_within t
within_limits s (rule_line n c) = ltb n most_rules && is_class c
-- "at most 768 nodes in all rules together"; document 02, F-13: "Definitions share the 768 nodes"
within_limits s (node_line n x) = is_node n && form_within x && all_of is_node (operands_of x) && ltb (length s.lines) most_nodes
within_limits s (text_line x) = all_of form_within (nodes_of x) && leb (length s.lines + length (nodes_of x)) most_nodes

-- Document 01, Calls: when a well-spelled line is refused with 5, 6, 23, 24, 7 or 8; Limits.antt has 4. Each test says what must hold.
use Prim.Native.Nat.{ℕ, Ordering}
use Rattle.std.specs.Prelude.{Bool, true, false, not, ◌&&◌, ◌||◌, List, [], ◌∷◌, length, eqb, leb, ltb}
use Rattle.std.proofs.Math.Option.{Option, none, some}
use Rattle.laws.specs.Lists.{all_of, member}
use Rattle.reals.specs.Reals.{is_less}
use Rattle.ocl.specs.Types.{class, Kind, set, sequence, bag, Ty}
use Rattle.ocl.specs.Values.{Value, bool, num, obj, coll, Values, nil, cons, every_part, order}
use Rattle.ocl.specs.Model.{Row, is_a, belongs}
use Rattle.sheet.specs.Lines.{Shape, Line, class_line, row_line, object_line, value_line, definition_line, rule_line, node_line, text_line}
use Rattle.sheet.specs.Texts.{nodes_of}
use Rattle.sheet.specs.Sheet.{Slot, Current, Sheet, model_of, operands_of}
use Rattle.sheet.specs.Limits.{class_below, held_by}

-- ---- 5, "block, number or member order; name twice in a class; i equal to j"

-- may w follow v: "Sets are strictly ascending, Bags ascending with repeats, Sequences as given"
unfoldable pub may_follow : Kind → Ordering → Bool
may_follow set q = is_less q
may_follow sequence q = true
may_follow bag Ordering.lt = true
may_follow bag Ordering.eq = true
may_follow bag Ordering.gt = false

unfoldable pub followed : Kind → Value → Values → Bool
followed k v nil = true
followed k v (cons w ws) = may_follow k (order v w)

-- the members of each Set and Bag are in order
unfoldable mutual
  pub ordered : Value → Bool
  ordered (bool b) = true
  ordered (num x) = true
  ordered (obj o) = true
  ordered (coll k vs) = all_ordered k vs

  pub all_ordered : Kind → Values → Bool
  all_ordered k nil = true
  all_ordered k (cons v vs) = ordered v && followed k v vs && all_ordered k vs

-- "Blocks in this order": C, A, O, V, D, R; an N stands in D and in R, an X in R
unfoldable pub block_of : Line → ℕ
block_of (class_line n p) = 0
block_of (row_line n c name t) = 1
block_of (object_line n c) = 2
block_of (value_line o a v) = 3
block_of (definition_line n c t) = 4
block_of (rule_line n c) = 5
block_of (node_line n x) = 5
block_of (text_line x) = 5

-- does class c declare the name
unfoldable pub declares : List Row → ℕ → ℕ → Bool
declares [] c name = false
declares (r ∷ rs) c name = eqb r.owner c && eqb r.name name || declares rs c name

-- "V ascends strictly by (o, a)": is it after the object and row of each slot so far; they ascend, so that the last decides
unfoldable pub after_slots : List Slot → ℕ → ℕ → Bool
after_slots [] o a = true
after_slots (x ∷ []) o a = ltb x.object o || eqb x.object o && ltb x.row a
after_slots (x ∷ y ∷ xs) o a = after_slots (y ∷ xs) o a

-- a node line stands in a definition or a rule, with the next number; document 02, F-7: "both in one rule .. are 5"
unfoldable pub next_node : Option Current → ℕ → Bool
next_node none n = false
next_node (some c) n = not c.text && eqb n (length c.trees)

-- is it a definition that is open
unfoldable pub has_type : Option Ty → Bool
has_type none = false
has_type (some t) = true

-- a text line stands in a rule that has neither a node line nor a text line yet: "both in one rule, or two `X` lines, are 5"; in a
-- definition "an `X` there is 5" (F-13)
unfoldable pub may_be_text : Option Current → Bool
may_be_text none = false
may_be_text (some c) = not (has_type c.result) && not c.text && eqb (length c.trees) 0

-- the accumulator is another variable than the member
unfoldable pub two_variables : Shape → Bool
two_variables x = (held_by x).apart

unfoldable pub numbered : Sheet → Line → Bool
numbered s (class_line n p) = eqb n (length s.parents)
numbered s (row_line n c name t) = eqb n (length s.rows) && not (declares s.rows c name)
numbered s (object_line n c) = eqb n (length s.objects)
numbered s (value_line o a v) = after_slots s.slots o a && ordered v
numbered s (definition_line n c t) = eqb n (length s.definitions)
numbered s (rule_line n c) = eqb n (length s.rules)
numbered s (node_line n x) = next_node s.current n && two_variables x
numbered s (text_line x) = may_be_text s.current && all_of two_variables (nodes_of x)

unfoldable pub in_order : Sheet → Line → Bool
in_order s l = leb s.block (block_of l) && numbered s l

-- ---- 6, "class, row or object not on the sheet; parent not smaller"

-- an object's number is below n
unfoldable pub object_below : ℕ → Value → Bool
object_below n (bool b) = true
object_below n (num x) = true
object_below n (obj o) = ltb o n
object_below n (coll k vs) = true

unfoldable pub parent_smaller : ℕ → Option ℕ → Bool
parent_smaller n none = true
parent_smaller n (some p) = ltb p n

-- the class after `all` and `as` and in the type of `iter`, of n classes
unfoldable pub form_known : ℕ → Shape → Bool
form_known n x = (held_by x).known n

unfoldable pub parts_known : Sheet → Line → Bool
parts_known s (class_line n p) = parent_smaller n p
parts_known s (row_line n c name t) = ltb c (length s.parents) && class_below (length s.parents) t
parts_known s (object_line n c) = ltb c (length s.parents)
parts_known s (value_line o a v) =
    ltb o (length s.objects) && ltb a (length s.rows) && every_part (object_below (length s.objects)) v
parts_known s (definition_line n c t) = ltb c (length s.parents) && class_below (length s.parents) t
parts_known s (rule_line n c) = ltb c (length s.parents)
parts_known s (node_line n x) = form_known (length s.parents) x
parts_known s (text_line x) = all_of (form_known (length s.parents)) (nodes_of x)

-- ---- document 02, F-13: 23, "when a definition calls itself or a larger one"; 24, "when n isn't on the sheet"

-- the definition that a form calls is below n
unfoldable pub call_below : ℕ → Shape → Bool
call_below n x = (held_by x).called n

unfoldable pub in_definition : Option Current → Bool
in_definition none = false
in_definition (some c) = has_type c.result

-- the open definition's number is how many have ended, so that it and all larger ones are those not below
unfoldable pub calls_smaller : Sheet → Line → Bool
calls_smaller s (class_line n p) = true
calls_smaller s (row_line n c name t) = true
calls_smaller s (object_line n c) = true
calls_smaller s (value_line o a v) = true
calls_smaller s (definition_line n c t) = true
calls_smaller s (rule_line n c) = true
calls_smaller s (node_line n x) = not (in_definition s.current) || call_below (length s.definitions) x
-- it stands in a rule
calls_smaller s (text_line x) = true

-- in a rule all definitions have ended
unfoldable pub calls_known : Sheet → Line → Bool
calls_known s (class_line n p) = true
calls_known s (row_line n c name t) = true
calls_known s (object_line n c) = true
calls_known s (value_line o a v) = true
calls_known s (definition_line n c t) = true
calls_known s (rule_line n c) = true
calls_known s (node_line n x) = call_below (length s.definitions) x
calls_known s (text_line x) = all_of (call_below (length s.definitions)) (nodes_of x)

-- ---- 7, "V whose row or value doesn't suit": o's "class is the row's class or below it; v belongs to the row's type"

unfoldable pub suits : Sheet → Line → Bool
suits s (class_line n p) = true
suits s (row_line n c name t) = true
suits s (object_line n c) = true
suits s (value_line o a v) =
    is_a (model_of s) o (class ((model_of s).row a).owner) && belongs (model_of s) ((model_of s).row a).type v
suits s (definition_line n c t) = true
suits s (rule_line n c) = true
suits s (node_line n x) = true
suits s (text_line x) = true

-- ---- 8, "operand not smaller or used already"

-- of node n of a definition or rule, where some nodes are operands already
unfoldable pub fresh : ℕ → List ℕ → List ℕ → Bool
fresh n used [] = true
fresh n used (a ∷ es) = ltb a n && not (member a used) && fresh n (a ∷ used) es

unfoldable pub operands_fresh : Option Current → Shape → Bool
operands_fresh none x = true
operands_fresh (some c) x = fresh (length c.trees) c.used (operands_of x)

unfoldable pub tree_holds : Sheet → Line → Bool
tree_holds s (class_line n p) = true
tree_holds s (row_line n c name t) = true
tree_holds s (object_line n c) = true
tree_holds s (value_line o a v) = true
tree_holds s (definition_line n c t) = true
tree_holds s (rule_line n c) = true
tree_holds s (node_line n x) = operands_fresh s.current x
-- the nodes of a text make a tree (TextLaws.antt)
tree_holds s (text_line x) = true

-- Small sheets and what the program prints for each, or a call answers, as one table. Document 01's own sheet is the first.
use Rattle.std.specs.Prelude.{◌≡◌, List, [], ◌∷◌, ◌++◌, ℕ, zero, suc, replicate, eqb}
use Prim.Native.String.{String}
use Rattle.std.specs.Prelude.{if◌then◌else◌}
use Rattle.sheet.specs.Text.{Bytes, bytes, spell_number}
use Rattle.sheet.specs.Calls.{Verdict, answer, refusal_at, refusal, read_call, evaluate_call}
use Rattle.sheet.specs.Report.{program}
use Rattle.sheet.specs.Rows.{rows_into, rows_program}

-- a space stands for the tab between two fields
unfoldable pub tabbed : Bytes → Bytes
tabbed [] = []
tabbed (b ∷ s) = (if eqb b 32 then 9 else b) ∷ tabbed s

-- each text is a line, with its line feed
unfoldable pub lines : List String → Bytes
lines [] = []
lines (l ∷ ls) = tabbed (bytes l) ++ bytes "\n" ++ lines ls

-- what the program prints for the lines
unfoldable pub prints : List String → Bytes
prints ls = program (lines ls)

-- and what the program prints that tells a rule's rows
unfoldable pub prints_rows : List String → Bytes
prints_rows ls = rows_program (lines ls)

-- after these lines, nodes in which n times `not` stands over `true`
unfoldable pub nots : List String → ℕ → Bytes
nots ls zero = lines ls ++ lines ("N 0 true" ∷ [])
nots ls (suc n) = nots ls n ++ bytes "N\t" ++ spell_number (suc n) ++ bytes "\tnot\t" ++ spell_number n ++ bytes "\n"

-- a rule of such nodes, a definition, and a rule that calls it
unfoldable pub deep_rule : ℕ → Bytes
deep_rule n = nots ("C 0 -" ∷ "R 0 0" ∷ []) n

unfoldable pub deep_definition : ℕ → Bytes
deep_definition n = nots ("C 0 -" ∷ "D 0 0 Bool" ∷ []) n

unfoldable pub deep_call : ℕ → Bytes
deep_call n = deep_definition n ++ lines ("R 0 0" ∷ "N 0 self" ∷ "N 1 call 0 0" ∷ [])

-- what reading them answers, into an output of so many bytes, and what evaluating a rule for an object does
unfoldable pub words : List ℕ
words = replicate 8192 0

unfoldable pub reads_into : ℕ → List String → Verdict
reads_into n ls = read_call (lines ls) words words words (replicate n 0)

unfoldable pub evaluates : ℕ → ℕ → List String → Verdict
evaluates r o ls = evaluate_call (lines ls) r o words words words (replicate 2560 0)

-- two rules of class 0, the second of which asks `not` of an Integer, on a sheet with an object of another class
unfoldable pub second_untyped : List String
second_untyped = "C 0 -" ∷ "C 1 -" ∷ "O 0 1" ∷ "R 0 0" ∷ "N 0 true" ∷ "R 1 0" ∷ "N 0 int 1" ∷ "N 1 not 0" ∷ []

pub record Examples : Type 0 where
  pub paper : prints ("C 0 -" ∷ "C 1 0" ∷ "A 0 0 5 Int" ∷ "O 0 1" ∷ "O 1 0" ∷ "V 0 0 9" ∷ "R 0 0"
      ∷ "N 0 self" ∷ "N 1 attr 0 5" ∷ "N 2 int 12" ∷ "N 3 less 1 2" ∷ []) ≡ bytes "0 0 t 4\n0 1 u 3\n"
  pub nothing : prints [] ≡ []
  -- 3: no line feed; a leading zero; a field too many; -0; `u` as a value
  pub no_line_feed : program (bytes "C\t0\t-") ≡ bytes "! 3 1\n"
  pub leading_zero : prints ("C 0 -" ∷ "C 01 0" ∷ []) ≡ bytes "! 3 2\n"
  pub field_too_many : prints ("C 0 - 1" ∷ []) ≡ bytes "! 3 1\n"
  pub minus_zero : prints ("C 0 -" ∷ "R 0 0" ∷ "N 0 int -0" ∷ []) ≡ bytes "! 3 3\n"
  pub no_undefined : prints ("C 0 -" ∷ "A 0 0 5 S(Int)" ∷ "O 0 0" ∷ "V 0 0 S(u)" ∷ []) ≡ bytes "! 3 4\n"
  pub five_members : prints ("C 0 -" ∷ "R 0 0" ∷ "N 0 coll S 9 9 9 9 9" ∷ []) ≡ bytes "! 3 3\n"
  -- 4: a class number of 64; an Integer out of range; four letters deep. It comes before 5 and 6
  pub class_64 : prints ("C 64 7" ∷ []) ≡ bytes "! 4 1\n"
  pub integer_range : prints ("C 0 -" ∷ "R 0 0" ∷ "N 0 int 2147483648" ∷ []) ≡ bytes "! 4 3\n"
  pub four_deep : prints ("C 0 -" ∷ "A 0 9 5 S(Q(B(C(Int))))" ∷ []) ≡ bytes "! 4 2\n"
  -- 5: a gap; a block that comes again; a name twice in a class; two values in one row of an object; members out of order, before 6; the
  -- same variable twice
  pub gap : prints ("C 0 -" ∷ "C 2 0" ∷ []) ≡ bytes "! 5 2\n"
  pub block_again : prints ("C 0 -" ∷ "O 0 0" ∷ "C 1 0" ∷ []) ≡ bytes "! 5 3\n"
  pub name_twice : prints ("C 0 -" ∷ "A 0 0 5 Int" ∷ "A 1 0 5 Bool" ∷ []) ≡ bytes "! 5 3\n"
  pub value_twice : prints ("C 0 -" ∷ "A 0 0 5 Int" ∷ "O 0 0" ∷ "V 0 0 1" ∷ "V 0 0 2" ∷ []) ≡ bytes "! 5 5\n"
  pub members_order : prints ("C 0 -" ∷ "A 0 0 5 S(#0)" ∷ "O 0 0" ∷ "V 0 0 S(@7,@7)" ∷ []) ≡ bytes "! 5 4\n"
  pub one_variable : prints ("C 0 -" ∷ "R 0 0" ∷ "N 0 iter 5 1 1 Int 6 7" ∷ []) ≡ bytes "! 5 3\n"
  -- 6: a parent that is the class itself
  pub own_parent : prints ("C 0 0" ∷ []) ≡ bytes "! 6 1\n"
  -- 7: a value of another type
  pub wrong_value : prints ("C 0 -" ∷ "A 0 0 5 Int" ∷ "O 0 0" ∷ "V 0 0 t" ∷ []) ≡ bytes "! 7 4\n"
  -- 8: an operand used twice; a node unused, at the rule's last line and before the next line's 3; no node; at the text's end
  pub used_twice : prints ("C 0 -" ∷ "R 0 0" ∷ "N 0 true" ∷ "N 1 and 0 0" ∷ []) ≡ bytes "! 8 4\n"
  pub unused : prints ("C 0 -" ∷ "R 0 0" ∷ "N 0 true" ∷ "N 1 true" ∷ "x" ∷ []) ≡ bytes "! 8 4\n"
  pub no_node : prints ("C 0 -" ∷ "R 0 0" ∷ []) ≡ bytes "! 8 2\n"
  -- 19 levels pass, 20 do not
  pub deepest_rule : program (deep_rule 18) ≡ []
  pub too_deep_rule : program (deep_rule 19) ≡ bytes "! 8 22\n"
  -- 9 to 13, at the node's line
  pub unbound : prints ("C 0 -" ∷ "R 0 0" ∷ "N 0 true" ∷ "N 1 var 3" ∷ "N 2 and 0 1" ∷ []) ≡ bytes "! 9 4\n"
  pub no_common_type : prints ("C 0 -" ∷ "R 0 0" ∷ "N 0 true" ∷ "N 1 coll S" ∷ "N 2 eq 0 1" ∷ []) ≡ bytes "! 10 5\n"
  pub not_boolean : prints ("C 0 -" ∷ "R 0 0" ∷ "N 0 int 1" ∷ "N 1 not 0" ∷ []) ≡ bytes "! 11 4\n"
  pub no_attribute : prints ("C 0 -" ∷ "R 0 0" ∷ "N 0 self" ∷ "N 1 attr 0 5" ∷ []) ≡ bytes "! 12 4\n"
  pub too_deep_type : prints ("C 0 -" ∷ "R 0 0" ∷ "N 0 coll S" ∷ "N 1 coll S 0" ∷ "N 2 coll S 1" ∷ "N 3 coll S 2" ∷ []) ≡ bytes "! 13 6\n"
  -- the source is checked before the body is typed
  pub source_first : prints ("C 0 -" ∷ "R 0 0" ∷ "N 0 var 2" ∷ "N 1 int 1" ∷ "N 2 forAll 1 1 0" ∷ []) ≡ bytes "! 11 5\n"
  -- reading writes one type a line; where a rule does not type it writes none; no rule, no line
  pub two_types : reads_into 2560 ("C 0 -" ∷ "R 0 0" ∷ "N 0 self" ∷ "R 1 0" ∷ "N 0 int 1" ∷ "N 1 coll S 0" ∷ []) ≡ answer (bytes "#0\nS(Int)\n")
  pub second_untyped_lem : reads_into 2560 second_untyped ≡ refusal_at 11 8
  pub no_rules : reads_into 2560 ("C 0 -" ∷ "O 0 0" ∷ []) ≡ answer []
  pub short_output_lem : reads_into 2559 [] ≡ refusal 1
  pub enough_output : reads_into 2560 [] ≡ answer []
  -- evaluate refuses where another rule does not type, before an absent rule or object and an object of another class
  pub other_untyped : evaluates 0 0 second_untyped ≡ refusal_at 11 8
  pub untyped_first : evaluates 7 7 second_untyped ≡ refusal_at 11 8
  pub no_such_rule : evaluates 1 0 ("C 0 -" ∷ "O 0 0" ∷ "R 0 0" ∷ "N 0 true" ∷ []) ≡ refusal 14
  pub other_class : evaluates 0 0 ("C 0 -" ∷ "C 1 -" ∷ "O 0 1" ∷ "R 0 0" ∷ "N 0 true" ∷ []) ≡ refusal 15
  -- the static class decides the row; two rules, and objects of the class or below it alone
  pub static_row : prints ("C 0 -" ∷ "C 1 0" ∷ "A 0 0 5 Int" ∷ "A 1 1 5 Bool" ∷ "O 0 0" ∷ "O 1 1" ∷ "V 1 0 7" ∷ "V 1 1 t"
      ∷ "R 0 0" ∷ "N 0 self" ∷ "N 1 attr 0 5" ∷ "R 1 1" ∷ "N 0 self" ∷ "N 1 attr 0 5" ∷ []) ≡ bytes "0 0 u 2\n0 1 7 2\n1 1 t 2\n"
  -- `collect`: a Bag of a Set's members' values, repeats and all; undefined where one has none; 11 where the members are of no class
  pub collect : prints ("C 0 -" ∷ "A 0 0 5 Int" ∷ "O 0 0" ∷ "O 1 0" ∷ "O 2 0" ∷ "V 0 0 7" ∷ "V 1 0 7" ∷ "V 2 0 -1" ∷ "R 0 0" ∷ "N 0 all 0" ∷ "N 1 collect 0 5" ∷ [])
      ≡ bytes "0 0 B(-1,7,7) 2\n0 1 B(-1,7,7) 2\n0 2 B(-1,7,7) 2\n"
  pub collect_undefined : prints ("C 0 -" ∷ "A 0 0 5 Int" ∷ "O 0 0" ∷ "O 1 0" ∷ "V 0 0 7" ∷ "R 0 0" ∷ "N 0 all 0" ∷ "N 1 collect 0 5" ∷ []) ≡ bytes "0 0 u 2\n0 1 u 2\n"
  pub collect_sequence : prints ("C 0 -" ∷ "A 0 0 5 Int" ∷ "O 0 0" ∷ "V 0 0 7" ∷ "R 0 0" ∷ "N 0 self" ∷ "N 1 coll Q 0" ∷ "N 2 collect 1 5" ∷ []) ≡ bytes "0 0 Q(7) 3\n"
  pub collect_no_class : prints ("C 0 -" ∷ "R 0 0" ∷ "N 0 coll S" ∷ "N 1 collect 0 5" ∷ []) ≡ bytes "! 11 4\n"
  -- a definition that calls another, with the steps of each call, its operand and its body; its row is that of its own class, and its
  -- variable is none of the caller's, whose own is there again
  pub call : prints ("C 0 -" ∷ "C 1 0" ∷ "A 0 0 5 Int" ∷ "A 1 1 5 Bool" ∷ "O 0 1" ∷ "V 0 0 9" ∷ "V 0 1 t" ∷ "D 0 0 Int" ∷ "N 0 self" ∷ "N 1 attr 0 5" ∷ "D 1 1 Any" ∷ "N 0 self" ∷ "N 1 call 0 0"
      ∷ "R 0 1" ∷ "N 0 self" ∷ "N 1 call 0 1" ∷ "R 1 1" ∷ "N 0 self" ∷ "N 1 attr 0 5" ∷ []) ≡ bytes "0 0 9 6\n1 0 t 2\n"
  pub call_of_operand : prints ("C 0 -" ∷ "A 0 0 5 #0" ∷ "O 0 0" ∷ "O 1 0" ∷ "V 0 0 @1" ∷ "D 0 0 #0" ∷ "N 0 self" ∷ "R 0 0" ∷ "N 0 self" ∷ "N 1 attr 0 5" ∷ "N 2 call 1 0" ∷ "N 3 self" ∷ "N 4 eq 2 3" ∷ [])
      ≡ bytes "0 0 f 6\n0 1 u 4\n"
  pub call_hides : prints ("C 0 -" ∷ "O 0 0" ∷ "D 0 0 Int" ∷ "N 0 var 1" ∷ "R 0 0" ∷ "N 0 int 1" ∷ "N 1 self" ∷ "N 2 call 1 0" ∷ "N 3 let 1 0 2" ∷ []) ≡ bytes "! 9 4\n"
  pub call_binds : prints ("C 0 -" ∷ "O 0 0" ∷ "D 0 0 Int" ∷ "N 0 int 5" ∷ "N 1 var 1" ∷ "N 2 let 1 0 1" ∷ "R 0 0" ∷ "N 0 int 1" ∷ "N 1 self" ∷ "N 2 call 1 0" ∷ "N 3 var 1" ∷ "N 4 plus 2 3" ∷ "N 5 let 1 0 4" ∷ [])
      ≡ bytes "0 0 6 9\n"
  -- a call of an undefined operand does not run the body, and a stop in a body is the call's
  pub call_undefined : prints ("C 0 -" ∷ "A 0 0 5 #0" ∷ "O 0 0" ∷ "D 0 0 Int" ∷ "N 0 int 1" ∷ "R 0 0" ∷ "N 0 self" ∷ "N 1 attr 0 5" ∷ "N 2 call 1 0" ∷ "N 3 isUndef 2" ∷ []) ≡ bytes "0 0 t 4\n"
  pub call_stops : prints ("C 0 -" ∷ "O 0 0" ∷ "D 0 0 Int" ∷ "N 0 int -2147483648" ∷ "N 1 int 1" ∷ "N 2 minus 0 1" ∷ "R 0 0" ∷ "N 0 self" ∷ "N 1 call 0 0" ∷ "N 2 isUndef 1" ∷ []) ≡ bytes "0 0 !19 6\n"
  -- reading writes the definition's type for a call, and no line for a definition; evaluate numbers the rules
  pub call_type_lem : reads_into 2560 ("C 0 -" ∷ "D 0 0 Any" ∷ "N 0 int 1" ∷ "R 0 0" ∷ "N 0 self" ∷ "N 1 call 0 0" ∷ "R 1 0" ∷ "N 0 true" ∷ []) ≡ answer (bytes "Any\nBool\n")
  pub call_rule : evaluates 1 0 ("C 0 -" ∷ "O 0 0" ∷ "D 0 0 Any" ∷ "N 0 int 1" ∷ "R 0 0" ∷ "N 0 self" ∷ "N 1 call 0 0" ∷ []) ≡ refusal 14
  -- 11: a class that is not the definition's or below, and Void; a body that is not below its type, at the root, whether it is called
  -- or not, before any rule is typed; the first definition comes first
  pub call_class : prints ("C 0 -" ∷ "C 1 0" ∷ "D 0 1 Int" ∷ "N 0 int 1" ∷ "R 0 0" ∷ "N 0 self" ∷ "N 1 call 0 0" ∷ []) ≡ bytes "! 11 7\n"
  pub call_void : prints ("C 0 -" ∷ "D 0 0 Int" ∷ "N 0 int 1" ∷ "R 0 0" ∷ "N 0 undef" ∷ "N 1 call 0 0" ∷ []) ≡ bytes "! 11 6\n"
  pub body_type : prints ("C 0 -" ∷ "D 0 0 Bool" ∷ "N 0 int 1" ∷ "N 1 int 1" ∷ "N 2 plus 0 1" ∷ "R 0 0" ∷ "N 0 var 1" ∷ []) ≡ bytes "! 11 5\n"
  pub first_definition : prints ("C 0 -" ∷ "D 0 0 Bool" ∷ "N 0 int 1" ∷ "D 1 0 Bool" ∷ "N 0 var 1" ∷ []) ≡ bytes "! 11 3\n"
  -- 23: a definition calls itself, or a larger one, on the sheet or not; it comes after 5 and before 8
  pub call_itself : prints ("C 0 -" ∷ "D 0 0 Int" ∷ "N 0 self" ∷ "N 1 call 0 0" ∷ []) ≡ bytes "! 23 4\n"
  pub call_upward : prints ("C 0 -" ∷ "D 0 0 Int" ∷ "N 0 int 1" ∷ "D 1 0 Int" ∷ "N 0 call 7 31" ∷ []) ≡ bytes "! 23 5\n"
  pub order_first : prints ("C 0 -" ∷ "D 0 0 Int" ∷ "N 1 call 0 0" ∷ []) ≡ bytes "! 5 3\n"
  -- 24: a definition that is not on the sheet, before 8; 4: a number over 31
  pub call_unknown : prints ("C 0 -" ∷ "D 0 0 Int" ∷ "N 0 int 1" ∷ "R 0 0" ∷ "N 0 call 7 1" ∷ []) ≡ bytes "! 24 5\n"
  pub call_limit : prints ("C 0 -" ∷ "R 0 0" ∷ "N 0 call 7 32" ∷ []) ≡ bytes "! 4 3\n"
  pub definition_limit : prints ("C 0 -" ∷ "D 32 9 Int" ∷ []) ≡ bytes "! 4 2\n"
  pub definition_deep : prints ("C 0 -" ∷ "D 1 9 S(S(S(S(Int))))" ∷ []) ≡ bytes "! 4 2\n"
  -- 5: a gap, where 31 is within the limit; a value after a definition, a definition after a rule; 6: its class, and its type's; 3: a field too many
  pub definition_gap : prints ("C 0 -" ∷ "D 31 9 Int" ∷ []) ≡ bytes "! 5 2\n"
  pub value_late : prints ("C 0 -" ∷ "A 0 0 5 Int" ∷ "O 0 0" ∷ "D 0 0 Int" ∷ "N 0 int 1" ∷ "V 0 0 1" ∷ []) ≡ bytes "! 5 6\n"
  pub definition_late : prints ("C 0 -" ∷ "R 0 0" ∷ "N 0 true" ∷ "D 0 0 Int" ∷ []) ≡ bytes "! 5 4\n"
  pub definition_class : prints ("C 0 -" ∷ "D 0 1 Int" ∷ []) ≡ bytes "! 6 2\n"
  pub definition_type : prints ("C 0 -" ∷ "D 0 0 S(#1)" ∷ []) ≡ bytes "! 6 2\n"
  pub definition_fields : prints ("C 0 -" ∷ "D 0 0 Int 1" ∷ []) ≡ bytes "! 3 2\n"
  -- 8: a definition without a node, and one with a node unused, before the next line
  pub definition_empty : prints ("C 0 -" ∷ "D 0 0 Int" ∷ "R 0 0" ∷ []) ≡ bytes "! 8 2\n"
  pub definition_unused : prints ("C 0 -" ∷ "D 0 0 Int" ∷ "N 0 int 1" ∷ "N 1 int 1" ∷ "x" ∷ []) ≡ bytes "! 8 4\n"
  -- a called body lies below the call: 18 levels may be called, 19 may not, 20 are none of a definition's
  pub deepest_call : program (deep_call 17) ≡ []
  pub too_deep_call : program (deep_call 18) ≡ bytes "! 8 24\n"
  pub too_deep_definition : program (deep_definition 19) ≡ bytes "! 8 22\n"
  -- the sum of a Sequence's members, and each body counted
  pub sum : prints ("C 0 -" ∷ "O 0 0" ∷ "R 0 0" ∷ "N 0 int 3" ∷ "N 1 int 1" ∷ "N 2 int -9" ∷ "N 3 coll Q 0 1 2" ∷ "N 4 int 0"
      ∷ "N 5 var 1" ∷ "N 6 var 2" ∷ "N 7 plus 5 6" ∷ "N 8 iter 3 1 2 Int 4 7" ∷ []) ≡ bytes "0 0 -5 15\n"
  -- a quantifier ends at the member that decides; a Set is in order
  pub decided : prints ("C 0 -" ∷ "O 0 0" ∷ "R 0 0" ∷ "N 0 int 4" ∷ "N 1 int 1" ∷ "N 2 coll S 0 1" ∷ "N 3 var 1" ∷ "N 4 int 2" ∷ "N 5 less 3 4"
      ∷ "N 6 exists 2 1 5" ∷ []) ≡ bytes "0 0 t 7\n"
  -- an undefined body does not hide a false one; with none false it shows
  pub blank_then_false : prints ("C 0 -" ∷ "A 0 0 5 Int" ∷ "O 0 0" ∷ "O 1 0" ∷ "V 1 0 9" ∷ "R 0 0" ∷ "N 0 all 0" ∷ "N 1 var 1" ∷ "N 2 attr 1 5" ∷ "N 3 int 3" ∷ "N 4 less 2 3"
      ∷ "N 5 forAll 0 1 4" ∷ []) ≡ bytes "0 0 f 9\n0 1 f 9\n"
  pub blank_then_true : prints ("C 0 -" ∷ "A 0 0 5 Int" ∷ "O 0 0" ∷ "O 1 0" ∷ "V 1 0 2" ∷ "R 0 0" ∷ "N 0 all 0" ∷ "N 1 var 1" ∷ "N 2 attr 1 5" ∷ "N 3 int 3" ∷ "N 4 less 2 3"
      ∷ "N 5 forAll 0 1 4" ∷ []) ≡ bytes "0 0 u 9\n0 1 u 9\n"
  -- 2, 4, .. 128 members: 17 with the steps begun
  pub size_stop : prints ("C 0 -" ∷ "O 0 0" ∷ "R 0 0" ∷ "N 0 int 1" ∷ "N 1 int 1" ∷ "N 2 coll Q 0 1" ∷ "N 3 var 1" ∷ "N 4 var 1" ∷ "N 5 union 3 4"
      ∷ "N 6 var 2" ∷ "N 7 var 2" ∷ "N 8 union 6 7" ∷ "N 9 var 3" ∷ "N 10 var 3" ∷ "N 11 union 9 10" ∷ "N 12 var 4" ∷ "N 13 var 4" ∷ "N 14 union 12 13"
      ∷ "N 15 var 5" ∷ "N 16 var 5" ∷ "N 17 union 15 16" ∷ "N 18 var 6" ∷ "N 19 var 6" ∷ "N 20 union 18 19"
      ∷ "N 21 let 6 17 20" ∷ "N 22 let 5 14 21" ∷ "N 23 let 4 11 22" ∷ "N 24 let 3 8 23" ∷ "N 25 let 2 5 24" ∷ "N 26 let 1 2 25" ∷ []) ≡ bytes "0 0 !17 27\n"
  -- 19 with the steps begun, which `isUndef` does not hide; not where the operand is unrun
  pub over_range_lem : prints ("C 0 -" ∷ "O 0 0" ∷ "R 0 0" ∷ "N 0 int 2147483647" ∷ "N 1 int 1" ∷ "N 2 plus 0 1" ∷ "N 3 isUndef 2" ∷ []) ≡ bytes "0 0 !19 4\n"
  pub over_unrun : prints ("C 0 -" ∷ "O 0 0" ∷ "R 0 0" ∷ "N 0 true" ∷ "N 1 int -2147483648" ∷ "N 2 int -1" ∷ "N 3 div 1 2" ∷ "N 4 isUndef 3" ∷ "N 5 or 0 4" ∷ [])
      ≡ bytes "0 0 t 2\n"
  -- values with members, as they are spelled
  pub spelled : prints ("C 0 -" ∷ "A 0 0 5 S(Q(Any))" ∷ "O 0 0" ∷ "V 0 0 S(Q(),Q(f,-3),Q(@0,t))" ∷ "R 0 0" ∷ "N 0 self" ∷ "N 1 attr 0 5" ∷ "N 2 asBag 1" ∷ [])
      ≡ bytes "0 0 B(Q(),Q(f,-3),Q(@0,t)) 3\n"
  -- document 02, F-9: the rows that each rule sees: of a branch that is not run, of a definition that it reaches, of `collect`, of none
  pub rows_seen_lem : prints_rows ("C 0 -" ∷ "C 1 -" ∷ "A 0 0 1 Int" ∷ "A 1 0 2 #1" ∷ "A 2 1 3 Int" ∷ "A 3 1 4 Int" ∷ "D 0 1 Int" ∷ "N 0 self" ∷ "N 1 attr 0 3"
      ∷ "R 0 0" ∷ "N 0 false" ∷ "N 1 self" ∷ "N 2 attr 1 1" ∷ "N 3 int 7" ∷ "N 4 if 0 2 3" ∷ "R 1 0" ∷ "N 0 self" ∷ "N 1 attr 0 2" ∷ "N 2 call 1 0"
      ∷ "R 2 0" ∷ "N 0 all 1" ∷ "N 1 collect 0 4" ∷ "R 3 0" ∷ "N 0 true" ∷ []) ≡ bytes "0 0\n1 1 2\n2 3\n3\n"
  -- it refuses as the report does, and with 18 by its own lines
  pub rows_refused : prints_rows ("C 0 0" ∷ []) ≡ bytes "! 6 1\n"
  pub rows_too_long : rows_into (lines ("C 0 -" ∷ "R 0 0" ∷ "N 0 true" ∷ [])) 1 ≡ refusal 18

-- Document 02, F-7: small sheets with rules in text, and what the program prints for each, as one table.
use Rattle.std.specs.Prelude.{◌≡◌, List, [], ◌∷◌, ◌++◌, ℕ, zero, suc, true, false, replicate, eqb}
use Prim.Native.String.{String}
use Rattle.std.specs.Prelude.{if◌then◌else◌}
use Rattle.sheet.specs.Text.{Bytes, byte, bytes}
use Rattle.sheet.specs.Report.{program}
use Rattle.sheet.specs.Examples.{tabbed}
use Rattle.sheet.specs.Lines.{text_line}
use Rattle.sheet.specs.Sheet.{empty}
use Rattle.sheet.specs.Limits.{within_limits}
use Rattle.sheet.specs.TextLaws.{with_lines}

-- in an X line the first space stands for the tab, and the others are the text's own; in other lines each stands for a tab
unfoldable pub keyed : Bytes → Bytes
keyed [] = []
keyed (b ∷ s) = if eqb b (byte " ") then byte "\t" ∷ s else b ∷ keyed s

unfoldable pub line_for : Bytes → Bytes
line_for [] = []
line_for (b ∷ s) = if eqb b (byte "X") then b ∷ keyed s else tabbed (b ∷ s)

unfoldable pub sheet_of : List String → Bytes
sheet_of [] = []
sheet_of (l ∷ ls) = line_for (bytes l) ++ bytes "\n" ++ sheet_of ls

-- what the program prints for the lines
unfoldable pub prints_for : List String → Bytes
prints_for ls = program (sheet_of ls)

-- one object, and a rule that has begun
unfoldable pub small : List String
small = "C 0 -" ∷ "O 0 0" ∷ "R 0 0" ∷ []

-- document 01's own sheet, up to the rule's nodes
unfoldable pub paper_lines : List String
paper_lines = "C 0 -" ∷ "C 1 0" ∷ "A 0 0 5 Int" ∷ "O 0 1" ∷ "O 1 0" ∷ "V 0 0 9" ∷ "R 0 0" ∷ []

-- n times a text
unfoldable pub repeated : ℕ → String → Bytes
repeated zero w = []
repeated (suc n) w = bytes w ++ repeated n w

pub record TextExamples : Type 0 where
  -- document 01's own rule, and the same with other spaces
  pub paper : prints_for (paper_lines ++ ("X self.a5 < 12" ∷ [])) ≡ bytes "0 0 t 4\n0 1 u 3\n"
  pub spaces : prints_for (paper_lines ++ ("X  self . a5<12 " ∷ [])) ≡ bytes "0 0 t 4\n0 1 u 3\n"
  -- signs of one level lean left; products stand inside sums, sums inside comparisons
  pub leaning : prints_for (small ++ ("X 9 - 4 - 3*2" ∷ [])) ≡ bytes "0 0 -1 7\n"
  pub divided : prints_for (small ++ ("X 7 div 2 mod 2 = 9 - 2 * 4" ∷ [])) ≡ bytes "0 0 t 11\n"
  -- `and` inside `or`, comparisons inside `and`; `not` binds tighter than `=`
  pub connected : prints_for (small ++ ("X true or 1 < 0 and undef" ∷ [])) ≡ bytes "0 0 t 2\n"
  pub negated : prints_for (small ++ ("X not true = false and not not true" ∷ [])) ≡ bytes "0 0 t 8\n"
  -- brackets, and `let` where a whole expression may stand
  pub bracketed : prints_for (small ++ ("X (1 + 2) * (let v1 = 3 in v1 + v1)" ∷ [])) ≡ bytes "0 0 18 9\n"
  pub let_in_let : prints_for (small ++ ("X let v1 = let v2 = 4 in v2 + 1 in if v1 < 5 then 0 else let v2 = 2 in v1 * v2 endif" ∷ [])) ≡ bytes "0 0 10 15\n"
  -- collections: members, their steps one after the other, a quantifier and `iter`
  pub collected : prints_for (small ++ ("X Set{3, 1, 1+0}->including(2)->asSequence()->union(Sequence{})->size()" ∷ [])) ≡ bytes "0 0 3 12\n"
  pub quantified : prints_for (small ++ ("X Bag{1, 2, 3}->forAll(v1 | v1 < 3) or Set{1}->exists(v2 | v2 = 1)" ∷ [])) ≡ bytes "0 0 t 21\n"
  pub type_spaced : prints_for (small ++ ("X Set{}->iter(v1;v2:S ( Int )=Set{}|v2)" ∷ [])) ≡ bytes "0 0 S() 3\n"
  pub summed : prints_for (small ++ ("X Sequence{3, 1, 7}->iter(v1; v2 : Int = 0 | v2 - v1)" ∷ [])) ≡ bytes "0 0 -11 15\n"
  pub instances : prints_for (paper_lines ++ ("X #1.allInstances()->collect(a5)->asSet()->includes(self.a5)" ∷ [])) ≡ bytes "0 0 t 6\n0 1 u 6\n"
  pub cast : prints_for (paper_lines ++ ("X self.oclAsType(#1).isUndef()" ∷ [])) ≡ bytes "0 0 f 3\n0 1 t 3\n"
  -- a definition, by node lines as ever
  pub called : prints_for ("C 0 -" ∷ "A 0 0 5 Int" ∷ "O 0 0" ∷ "V 0 0 9" ∷ "D 0 0 Int" ∷ "N 0 self" ∷ "N 1 attr 0 5" ∷ "R 0 0" ∷ "X self.d0() + self.d0()" ∷ []) ≡ bytes "0 0 18 9\n"
  -- a text and node lines in two rules; the second rule's nodes go on from the first's
  pub both : prints_for (small ++ ("X 1 + 1" ∷ "R 1 0" ∷ "N 0 int 7" ∷ "R 2 0" ∷ "X 1 < 2" ∷ [])) ≡ bytes "0 0 2 3\n1 0 7 1\n2 0 t 3\n"
  -- typing's refusals, at the X line
  pub mistyped : prints_for (small ++ ("X true" ∷ "R 1 0" ∷ "X not 1" ∷ "R 2 0" ∷ "X v1" ∷ [])) ≡ bytes "! 11 6\n"
  -- 3: not two fields; 20: no text, a minus with one side, two comparisons, a leading zero, `let` inside a sum, a fifth member
  pub no_field : prints_for (small ++ ("X" ∷ [])) ≡ bytes "! 3 4\n"
  pub tab_inside : program (sheet_of small ++ bytes "X\t1\t+ 2\n") ≡ bytes "! 3 4\n"
  pub no_text : prints_for (small ++ ("X " ∷ [])) ≡ bytes "! 20 4\n"
  pub blank : prints_for (small ++ ("X    " ∷ [])) ≡ bytes "! 20 4\n"
  pub one_sided : prints_for (small ++ ("X -1" ∷ [])) ≡ bytes "! 20 4\n"
  pub twice_compared : prints_for (small ++ ("X 1 < 2 = true" ∷ [])) ≡ bytes "! 20 4\n"
  pub leading_zero : prints_for (small ++ ("X self.a05" ∷ [])) ≡ bytes "! 20 4\n"
  pub let_inside : prints_for (small ++ ("X 1 + let v1 = 2 in v1" ∷ [])) ≡ bytes "! 20 4\n"
  pub fifth_member : prints_for (small ++ ("X Set{1, 2, 3, 4, 5}" ∷ [])) ≡ bytes "! 20 4\n"
  pub run_on : prints_for (small ++ ("X 1and true" ∷ [])) ≡ bytes "! 20 4\n"
  pub parted : prints_for (small ++ ("X Set{} - > size()" ∷ [])) ≡ bytes "! 20 4\n"
  pub class_alone : prints_for (small ++ ("X #0" ∷ [])) ≡ bytes "! 20 4\n"
  pub dot_for_arrow : prints_for (small ++ ("X Set{}.size()" ∷ [])) ≡ bytes "! 20 4\n"
  pub attribute_called : prints_for (small ++ ("X self.a5()" ∷ [])) ≡ bytes "! 20 4\n"
  pub other_sign : prints_for (small ++ ("X 1 > 2" ∷ [])) ≡ bytes "! 20 4\n"
  -- 20 before 4, where 4 is not the brackets'; 4: numbers, a type's nesting
  pub sentence_first : prints_for (small ++ ("X v0 +" ∷ [])) ≡ bytes "! 20 4\n"
  pub variable_16 : prints_for (small ++ ("X let v16 = 1 in 2" ∷ [])) ≡ bytes "! 4 4\n"
  pub class_64 : prints_for (small ++ ("X self.oclAsType(#64)" ∷ [])) ≡ bytes "! 4 4\n"
  pub name_256 : prints_for (small ++ ("X self.a256" ∷ [])) ≡ bytes "! 4 4\n"
  pub definition_32 : prints_for (small ++ ("X self.d32()" ∷ [])) ≡ bytes "! 4 4\n"
  pub too_large : prints_for (small ++ ("X 2147483648" ∷ [])) ≡ bytes "! 4 4\n"
  pub four_deep : prints_for (small ++ ("X Set{}->iter(v1; v2 : S(S(S(S(Int)))) = 1 | 1)" ∷ [])) ≡ bytes "! 4 4\n"
  -- 5: outside a rule, in a definition, after a node line, a second X line, a node line after it, the same variable twice; 20 before it
  pub outside : prints_for ("C 0 -" ∷ "X 1" ∷ []) ≡ bytes "! 5 2\n"
  pub outside_no_sentence : prints_for ("C 0 -" ∷ "X 1 +" ∷ []) ≡ bytes "! 20 2\n"
  pub in_definition_lem : prints_for ("C 0 -" ∷ "D 0 0 Int" ∷ "X 1" ∷ []) ≡ bytes "! 5 3\n"
  pub after_node : prints_for (small ++ ("N 0 true" ∷ "X true" ∷ [])) ≡ bytes "! 5 5\n"
  pub after_nodes : prints_for (small ++ ("N 0 true" ∷ "N 1 true" ∷ "X true" ∷ [])) ≡ bytes "! 5 6\n"
  pub second : prints_for (small ++ ("X true" ∷ "X true" ∷ [])) ≡ bytes "! 5 5\n"
  pub node_after : prints_for (small ++ ("X true" ∷ "N 0 true" ∷ [])) ≡ bytes "! 5 5\n"
  pub next_node_after : prints_for (small ++ ("X true" ∷ "N 1 not 0" ∷ [])) ≡ bytes "! 5 5\n"
  pub same_variable : prints_for (small ++ ("X Set{}->iter(v1; v1 : #9 = 1 | 1)" ∷ [])) ≡ bytes "! 5 4\n"
  -- 6 and 24: a class and a definition that are not on the sheet
  pub no_class : prints_for (small ++ ("X self.oclAsType(#2)" ∷ [])) ≡ bytes "! 6 4\n"
  pub no_definition : prints_for (small ++ ("X self.d0()" ∷ [])) ≡ bytes "! 24 4\n"
  -- 8: twenty levels, at the rule's end, so that a node line after it is 5
  pub nineteen_levels : prints_for (small ++ ("X 1+1+1+1+1+1+1+1+1+1+1+1+1+1+1+1+1+1+1" ∷ [])) ≡ bytes "0 0 19 37\n"
  pub twenty_levels : prints_for (small ++ ("X 1+1+1+1+1+1+1+1+1+1+1+1+1+1+1+1+1+1+1+1" ∷ [])) ≡ bytes "! 8 4\n"
  pub deep_then_node : prints_for (small ++ ("X 1+1+1+1+1+1+1+1+1+1+1+1+1+1+1+1+1+1+1+1" ∷ "N 0 true" ∷ [])) ≡ bytes "! 5 5\n"
  -- 64 brackets may be open together, 65 are 4 in a text that is no sentence too; the count never goes below 0
  pub open_64 : program (sheet_of small ++ bytes "X\t" ++ repeated 64 "(" ++ bytes "1" ++ repeated 64 ")" ++ bytes "\n") ≡ bytes "0 0 1 1\n"
  pub open_65 : program (sheet_of small ++ bytes "X\t" ++ repeated 65 "(" ++ bytes "\n") ≡ bytes "! 4 4\n"
  pub never_below : program (sheet_of small ++ bytes "X\t" ++ repeated 5 ")" ++ repeated 65 "{" ++ bytes "\n") ≡ bytes "! 4 4\n"
  pub open_ifs : program (sheet_of small ++ bytes "X\t" ++ repeated 65 "if " ++ bytes "\n") ≡ bytes "! 4 4\n"
  pub no_ifs : program (sheet_of small ++ bytes "X\t" ++ repeated 65 "iff " ++ bytes "\n") ≡ bytes "! 20 4\n"
  -- the 768th node, and the 769th
  pub last_node : within_limits (with_lines empty (replicate 767 1)) (text_line (bytes "1")) ≡ true
  pub one_too_many : within_limits (with_lines empty (replicate 767 1)) (text_line (bytes "not true")) ≡ false
  -- F-8: the `r` spelling, and `/`, which leans left as the other products do
  pub real_literal : prints_for (small ++ ("X r3ff8000000000000 * 2" ∷ [])) ≡ bytes "0 0 3 3\n"
  pub quotients : prints_for (small ++ ("X 12 / 4 / 2 - 1/2" ∷ [])) ≡ bytes "0 0 1 9\n"
  pub zero_divisor : prints_for (small ++ ("X (1 / 0).isUndef()" ∷ [])) ≡ bytes "0 0 t 4\n"
  pub real_type : prints_for (small ++ ("X Bag{1, r3fe0000000000000}->iter(v1; v2 : Real = 0 | v1 + v2)" ∷ [])) ≡ bytes "0 0 r3ff8000000000000 11\n"
  -- 20: a whole number in the Integer range, minus zero, a digit too few, a capital digit
  pub real_whole : prints_for (small ++ ("X r4008000000000000" ∷ [])) ≡ bytes "! 20 4\n"
  pub real_minus_zero : prints_for (small ++ ("X r8000000000000000" ∷ [])) ≡ bytes "! 20 4\n"
  pub real_short : prints_for (small ++ ("X r3ff800000000000" ∷ [])) ≡ bytes "! 20 4\n"
  pub real_capital : prints_for (small ++ ("X r3FF8000000000000" ∷ [])) ≡ bytes "! 20 4\n"
  -- 4: an infinity, no number; 20 before it
  pub infinite : prints_for (small ++ ("X 1 + r7ff0000000000000" ∷ [])) ≡ bytes "! 4 4\n"
  pub no_number : prints_for (small ++ ("X rfff8000000000001" ∷ [])) ≡ bytes "! 4 4\n"
  pub infinite_no_sentence : prints_for (small ++ ("X r7ff0000000000000 +" ∷ [])) ≡ bytes "! 20 4\n"

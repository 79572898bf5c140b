-- Document 02, F-11: small sheets, and what the tool prints for each, as one table. A node's line is that of its N line, of its rule's X
-- line, or of its definition's N line.
use Rattle.std.specs.Prelude.{◌≡◌, List, [], ◌∷◌, ◌++◌, replicate}
use Prim.Native.String.{String}
use Rattle.sheet.specs.Text.{Bytes, bytes}
use Rattle.sheet.specs.Calls.{answer, refusal}
use Rattle.sheet.specs.Report.{report_of}
use Rattle.sheet.specs.Origin.{origins_of, origin_call, origin_program}
use Rattle.sheet.specs.Examples.{words}
use Rattle.sheet.specs.TextExamples.{sheet_of, small, paper_lines}

-- what the tool prints for the lines
unfoldable pub names : List String → Bytes
names ls = origin_program (sheet_of ls)

-- `forAll` of `attr v1 5 < 3` over all objects: nodes 7 to 12, or 8 to 13 with an object more
unfoldable pub all_below : List String
all_below = "R 0 0" ∷ "N 0 all 0" ∷ "N 1 var 1" ∷ "N 2 attr 1 5" ∷ "N 3 int 3" ∷ "N 4 less 2 3" ∷ "N 5 forAll 0 1 4" ∷ []

-- a definition of `attr self 5`, an Integer that object 0 has no value of
unfoldable pub reading : List String
reading = "C 0 -" ∷ "A 0 0 5 Int" ∷ "O 0 0" ∷ "D 0 0 Int" ∷ "N 0 self" ∷ "N 1 attr 0 5" ∷ []

pub record OriginExamples : Type 0 where
  -- document 01's own sheet: the second object has no value, of which `attr` is asked at step 2; the same rule in text, at its X line
  pub paper : names (paper_lines ++ ("N 0 self" ∷ "N 1 attr 0 5" ∷ "N 2 int 12" ∷ "N 3 less 1 2" ∷ [])) ≡ bytes "0 1 9 2\n"
  pub paper_text : names (paper_lines ++ ("X self.a5 < 12" ∷ [])) ≡ bytes "0 1 8 2\n"
  pub nothing : names [] ≡ []
  -- where undefined can arise: the root begins at step 1
  pub undef : names (small ++ ("N 0 undef" ∷ [])) ≡ bytes "0 0 4 1\n"
  pub div-zero : names (small ++ ("N 0 int 1" ∷ "N 1 int 0" ∷ "N 2 div 0 1" ∷ [])) ≡ bytes "0 0 6 1\n"
  pub mod-zero : names (small ++ ("X 1 + 7 mod 0" ∷ [])) ≡ bytes "0 0 4 3\n"
  pub over_zero : names (small ++ ("N 0 real r3ff8000000000000" ∷ "N 1 int 0" ∷ "N 2 over 0 1" ∷ "N 3 real r3ff8000000000000" ∷ "N 4 less 2 3" ∷ [])) ≡ bytes "0 0 6 2\n"
  pub cast : names (paper_lines ++ ("N 0 self" ∷ "N 1 as 0 1" ∷ [])) ≡ bytes "0 1 9 1\n"
  -- members are no nodes: `collect` is named
  pub collected : names ("C 0 -" ∷ "A 0 0 5 Int" ∷ "O 0 0" ∷ "O 1 0" ∷ "V 0 0 7" ∷ "R 0 0" ∷ "N 0 all 0" ∷ "N 1 collect 0 5" ∷ "N 2 size 1" ∷ []) ≡ bytes "0 0 8 2\n0 1 8 2\n"
  -- a strict form's first undefined operand, which ends it; a member of `coll`
  pub left_operand : names (small ++ ("N 0 undef" ∷ "N 1 int 1" ∷ "N 2 plus 0 1" ∷ [])) ≡ bytes "0 0 4 2\n"
  pub right_operand : names (small ++ ("N 0 int 1" ∷ "N 1 undef" ∷ "N 2 plus 0 1" ∷ [])) ≡ bytes "0 0 5 3\n"
  pub member : names (small ++ ("X Set{1, 1 div 0, undef}" ∷ [])) ≡ bytes "0 0 4 3\n"
  -- `and` and `or`: the left side where both are undefined, and where the right one does not decide; the right side after a left one
  -- that does not; none where one decides
  pub both_sides : names (small ++ ("N 0 undef" ∷ "N 1 undef" ∷ "N 2 and 0 1" ∷ [])) ≡ bytes "0 0 4 2\n"
  pub left_side : names (small ++ ("N 0 undef" ∷ "N 1 false" ∷ "N 2 or 0 1" ∷ [])) ≡ bytes "0 0 4 2\n"
  pub right_side : names (small ++ ("N 0 true" ∷ "N 1 undef" ∷ "N 2 and 0 1" ∷ [])) ≡ bytes "0 0 5 3\n"
  pub decided : names (small ++ ("N 0 undef" ∷ "N 1 false" ∷ "N 2 and 0 1" ∷ [])) ≡ []
  -- `if`: the condition, or the branch that ran
  pub condition : names (small ++ ("N 0 undef" ∷ "N 1 true" ∷ "N 2 true" ∷ "N 3 if 0 1 2" ∷ [])) ≡ bytes "0 0 4 2\n"
  pub branch : names (small ++ ("N 0 false" ∷ "N 1 undef" ∷ "N 2 undef" ∷ "N 3 if 0 1 2" ∷ [])) ≡ bytes "0 0 6 3\n"
  -- `let`: its e, where that is undefined, and no `var` is reached; else its body
  pub let_value : names (small ++ ("N 0 undef" ∷ "N 1 var 1" ∷ "N 2 let 1 0 1" ∷ [])) ≡ bytes "0 0 4 2\n"
  pub let_body : names (small ++ ("N 0 int 0" ∷ "N 1 int 1" ∷ "N 2 var 1" ∷ "N 3 div 1 2" ∷ "N 4 let 1 0 3" ∷ [])) ≡ bytes "0 0 7 3\n"
  -- a quantifier's source; its first undefined body, also where it is not the first; none where a later body decides
  pub source : names ("C 0 -" ∷ "A 0 0 5 S(Int)" ∷ "O 0 0" ∷ "R 0 0" ∷ "N 0 self" ∷ "N 1 attr 0 5" ∷ "N 2 true" ∷ "N 3 forAll 1 1 2" ∷ []) ≡ bytes "0 0 6 2\n"
  pub first_body : names ("C 0 -" ∷ "A 0 0 5 Int" ∷ "O 0 0" ∷ "O 1 0" ∷ "V 1 0 2" ∷ all_below) ≡ bytes "0 0 9 4\n0 1 9 4\n"
  pub second_body : names ("C 0 -" ∷ "A 0 0 5 Int" ∷ "O 0 0" ∷ "O 1 0" ∷ "O 2 0" ∷ "V 0 0 2" ∷ all_below) ≡ bytes "0 0 10 8\n0 1 10 8\n0 2 10 8\n"
  pub later_false : names ("C 0 -" ∷ "A 0 0 5 Int" ∷ "O 0 0" ∷ "O 1 0" ∷ "V 1 0 9" ∷ all_below) ≡ []
  pub exists_body : names (small ++ ("X Set{0, 1}->exists(v1 | 1 div v1 = 2)" ∷ [])) ≡ bytes "0 0 4 6\n"
  -- `iter`: its first value, or the body that ended it
  pub first_value : names (small ++ ("X Set{7}->iter(v1; v2 : Int = 1 div 0 | v2)" ∷ [])) ≡ bytes "0 0 4 4\n"
  pub last_body : names (small ++ ("X Sequence{1, 0, 2}->iter(v1; v2 : Int = 9 | v2 div v1)" ∷ [])) ≡ bytes "0 0 4 10\n"
  -- a call: its operand; its body, at the definition's line, through two calls, and from a text
  pub call_operand : names ("C 0 -" ∷ "A 0 0 5 #0" ∷ "O 0 0" ∷ "D 0 0 Int" ∷ "N 0 undef" ∷ "R 0 0" ∷ "N 0 self" ∷ "N 1 attr 0 5" ∷ "N 2 call 1 0" ∷ []) ≡ bytes "0 0 8 2\n"
  pub call_body : names (reading ++ ("R 0 0" ∷ "N 0 self" ∷ "N 1 call 0 0" ∷ [])) ≡ bytes "0 0 6 3\n"
  pub call_of_call : names (reading ++ ("D 1 0 Int" ∷ "N 0 self" ∷ "N 1 call 0 0" ∷ "R 0 0" ∷ "X 1 - self.d1()" ∷ [])) ≡ bytes "0 0 6 7\n"
  -- what `isUndef` was told is no verdict; a stop is none either
  pub hidden : names (small ++ ("X (1 div 0).isUndef()" ∷ [])) ≡ []
  pub stopped : names (small ++ ("X 2147483647 + 1 = 1 div 0" ∷ [])) ≡ []
  -- two rules, in the report's order; objects of the class or below alone
  pub two_rules : names ("C 0 -" ∷ "C 1 0" ∷ "O 0 0" ∷ "O 1 1" ∷ "R 0 1" ∷ "X undef" ∷ "R 1 0" ∷ "X true" ∷ "R 2 0" ∷ "X true and undef" ∷ []) ≡ bytes "0 1 6 1\n2 0 10 3\n2 1 10 3\n"
  -- refused as the report refuses
  pub over_measure : names ("C 64 7" ∷ []) ≡ bytes "! 4 1\n"
  pub no_sentence : names (small ++ ("X 1 +" ∷ [])) ≡ bytes "! 20 4\n"
  pub not_boolean : names (small ++ ("N 0 undef" ∷ "R 1 0" ∷ "N 0 int 1" ∷ "N 1 not 0" ∷ [])) ≡ bytes "! 11 7\n"
  pub short_output_lem : origin_call [] words words words (replicate 2559 0) ≡ refusal 1
  -- 18 by its own lines, not by the report's
  pub too_long : origins_of (sheet_of (small ++ ("N 0 undef" ∷ []))) 7 ≡ refusal 18
  pub just_fits : origins_of (sheet_of (small ++ ("N 0 undef" ∷ []))) 8 ≡ answer (bytes "0 0 4 1\n")
  pub long_report : report_of (sheet_of (small ++ ("N 0 true" ∷ []))) 7 ≡ refusal 18
  pub no_lines : origins_of (sheet_of (small ++ ("N 0 true" ∷ []))) 7 ≡ answer []

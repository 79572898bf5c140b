-- Document 02, F-12: small sheets, and what the call that holds a sheet to the profile answers for each, as one table.
use Rattle.std.specs.Prelude.{◌≡◌, List, [], ◌∷◌, ℕ, replicate}
use Prim.Native.String.{String}
use Rattle.sheet.specs.Text.{bytes}
use Rattle.sheet.specs.Calls.{Verdict, answer, refusal_at, refusal}
use Rattle.sheet.specs.Profile.{profile_call}
use Rattle.sheet.specs.Examples.{words}
use Rattle.sheet.specs.TextExamples.{sheet_of}

-- what it answers for the lines, into an output of so many bytes
unfoldable pub profiles_into : ℕ → List String → Verdict
profiles_into n ls = profile_call (sheet_of ls) words words words (replicate n 0)

unfoldable pub profiles : List String → Verdict
profiles ls = profiles_into 2560 ls

-- the nodes of a rule on a sheet with one class, from line 3 on
unfoldable pub rule_of : List String → Verdict
rule_of ls = profiles ("C 0 -" ∷ "R 0 0" ∷ ls)

-- a definition that makes a Sequence, in line 4, and what follows from line 6 on
unfoldable pub after_sequence : List String → Verdict
after_sequence ls = profiles ("C 0 -" ∷ "D 0 0 Int" ∷ "N 0 all 0" ∷ "N 1 asSequence 0" ∷ "N 2 size 1" ∷ ls)

pub record ProfileExamples : Type 0 where
  -- `iter`, and `asSequence` on any type
  pub iterated : rule_of ("N 0 int 1" ∷ "N 1 coll S 0" ∷ "N 2 int 0" ∷ "N 3 var 2" ∷ "N 4 iter 1 1 2 Int 2 3" ∷ []) ≡ refusal_at 22 7
  pub set_as_sequence : rule_of ("N 0 all 0" ∷ "N 1 asSequence 0" ∷ []) ≡ refusal_at 22 4
  pub sequence_as_sequence : rule_of ("N 0 coll Q" ∷ "N 1 asSequence 0" ∷ []) ≡ refusal_at 22 4
  -- `including`, `union` and `collect` on a type `Q(..)`, and on others; `C(..)` is none
  pub including_sequence : rule_of ("N 0 coll Q" ∷ "N 1 int 1" ∷ "N 2 including 0 1" ∷ []) ≡ refusal_at 22 5
  pub including_set : rule_of ("N 0 coll S" ∷ "N 1 int 1" ∷ "N 2 including 0 1" ∷ []) ≡ answer (bytes "S(Int)\n")
  pub union_sequences : rule_of ("N 0 coll Q" ∷ "N 1 coll Q" ∷ "N 2 union 0 1" ∷ []) ≡ refusal_at 22 5
  pub union_bags : rule_of ("N 0 coll B" ∷ "N 1 coll B" ∷ "N 2 union 0 1" ∷ []) ≡ answer (bytes "B(Void)\n")
  pub collect_sequence : profiles ("C 0 -" ∷ "A 0 0 5 Int" ∷ "R 0 0" ∷ "N 0 self" ∷ "N 1 coll Q 0" ∷ "N 2 collect 1 5" ∷ []) ≡ refusal_at 22 6
  pub collect_set : profiles ("C 0 -" ∷ "A 0 0 5 Int" ∷ "R 0 0" ∷ "N 0 self" ∷ "N 1 coll S 0" ∷ "N 2 collect 1 5" ∷ []) ≡ answer (bytes "B(Int)\n")
  pub collect_any_kind : profiles ("C 0 -" ∷ "A 0 0 5 Int" ∷ "A 1 0 6 C(#0)" ∷ "R 0 0" ∷ "N 0 self" ∷ "N 1 attr 0 6" ∷ "N 2 collect 1 5" ∷ []) ≡ answer (bytes "B(Int)\n")
  -- all else on a Sequence is inside: `coll`, `attr`, `size`, `asSet`, `includes`, quantifiers
  pub inside : profiles ("C 0 -" ∷ "A 0 0 5 Q(#0)" ∷ "R 0 0" ∷ "N 0 self" ∷ "N 1 attr 0 5" ∷ "N 2 size 1" ∷ "R 1 0" ∷ "N 0 self" ∷ "N 1 coll Q 0" ∷ "N 2 asSet 1"
      ∷ "R 2 0" ∷ "N 0 self" ∷ "N 1 attr 0 5" ∷ "N 2 self" ∷ "N 3 attr 2 5" ∷ "N 4 var 1" ∷ "N 5 includes 3 4" ∷ "N 6 forAll 1 1 5" ∷ [])
      ≡ answer (bytes "Int\nS(#0)\nBool\n")
  -- the type of a variable decides too: of `let`, of a quantifier
  pub let_sequence : rule_of ("N 0 coll Q" ∷ "N 1 var 1" ∷ "N 2 int 1" ∷ "N 3 including 1 2" ∷ "N 4 let 1 0 3" ∷ []) ≡ refusal_at 22 6
  pub member_sequence : profiles ("C 0 -" ∷ "A 0 0 5 S(Q(Int))" ∷ "R 0 0" ∷ "N 0 self" ∷ "N 1 attr 0 5" ∷ "N 2 var 1" ∷ "N 3 int 1" ∷ "N 4 including 2 3"
      ∷ "N 5 int 1" ∷ "N 6 includes 4 5" ∷ "N 7 forAll 1 1 6" ∷ []) ≡ refusal_at 22 8
  -- a node counts whether it runs or not
  pub unrun : rule_of ("N 0 false" ∷ "N 1 all 0" ∷ "N 2 asSequence 1" ∷ "N 3 size 2" ∷ "N 4 int 1" ∷ "N 5 if 0 3 4" ∷ []) ≡ refusal_at 22 5
  -- a definition's nodes are those of the rules that reach it, through another one too; where no rule does they are none
  pub reached : after_sequence ("R 0 0" ∷ "N 0 self" ∷ "N 1 call 0 0" ∷ []) ≡ refusal_at 22 4
  pub reached_through : after_sequence ("D 1 0 Int" ∷ "N 0 self" ∷ "N 1 call 0 0" ∷ "R 0 0" ∷ "N 0 self" ∷ "N 1 call 0 1" ∷ []) ≡ refusal_at 22 4
  pub unreached : after_sequence ("D 1 0 Int" ∷ "N 0 self" ∷ "N 1 call 0 0" ∷ "R 0 0" ∷ "N 0 true" ∷ []) ≡ answer (bytes "Bool\n")
  -- the lowest line, and not that of the first rule's node
  pub lowest_line : after_sequence ("R 0 0" ∷ "N 0 all 0" ∷ "N 1 asSequence 0" ∷ "R 1 0" ∷ "N 0 self" ∷ "N 1 call 0 0" ∷ []) ≡ refusal_at 22 4
  -- the line of a text
  pub text_line : rule_of ("X #0.allInstances()->asSequence()->size()" ∷ []) ≡ refusal_at 22 3
  -- every rule's typing comes first, and what reading refuses
  pub typed_first : rule_of ("N 0 all 0" ∷ "N 1 asSequence 0" ∷ "R 1 0" ∷ "N 0 coll S" ∷ "N 1 coll S 0" ∷ "N 2 coll S 1" ∷ "N 3 coll S 2" ∷ []) ≡ refusal_at 13 9
  pub read_first : rule_of ("N 0 all 0" ∷ "N 1 asSequence 0" ∷ "x" ∷ []) ≡ refusal_at 3 5
  pub no_rules : profiles [] ≡ answer []
  pub short_output_lem : profiles_into 2559 [] ≡ refusal 1

-- Document 01, Calls, as document 02, F-6 has it: what read and evaluate answer, for all texts, numbers and lengths of what is lent.
use Rattle.std.specs.Prelude.{ℕ, Bool, ◌||◌, List, [], ◌∷◌, ◌++◌, length, get_or, drop, replicate, eqb, ltb}
use Rattle.std.proofs.Math.Option.{Option, none, some}
use Rattle.std.proofs.Math.ListN.{get_elem?}
use Rattle.std.specs.Prelude.{if◌then◌else◌}
use Rattle.ocl.specs.Types.{class, Ty}
use Rattle.ocl.specs.Model.{Schema, Model, is_a}
use Rattle.ocl.specs.Forms.{Definition}
use Rattle.ocl.specs.Marks.{Mark, Marks, mark_in}
use Rattle.ocl.specs.Typing.{Answer, typed, refused, Typed, type_rule, type_definition}
use Rattle.ocl.specs.Operations.{Outcome, value, undefined, stuck, stop}
use Rattle.ocl.specs.Evaluation.{evaluate_rule}
use Rattle.sheet.specs.Sizes.{least_words, least_output}
use Rattle.sheet.specs.Text.{Bytes, byte, bytes}
use Rattle.sheet.specs.Spelling.{spell_type, spell_value}
use Rattle.sheet.specs.Sheet.{Rule, Sheet, schema_in, model_of}
use Rattle.sheet.specs.Reading.{Reading, accepted, rejected, read_text}

-- what a call comes to: its number, steps and place (document 01's word: the line that is to blame), and the bytes that it writes, none
-- where it refuses
pub record Verdict : Type 0 where
  pub number : ℕ
  pub steps : ℕ
  pub place : ℕ
  pub output : Bytes

unfoldable pub answer : Bytes → Verdict
answer b = record { number = 0; steps = 0; place = 0; output = b }

-- a refusal at a line, and one with no place
unfoldable pub refusal_at : ℕ → ℕ → Verdict
refusal_at n k = record { number = n; steps = 0; place = k; output = [] }

unfoldable pub refusal : ℕ → Verdict
refusal n = refusal_at n 0

-- ---- memory: the words and the output after a call

-- "the first 8,192 words of each word slice end as zero and the rest is untouched"
unfoldable pub wiped : List ℕ → List ℕ
wiped w = replicate least_words 0 ++ drop least_words w

-- "Except after 1, which leaves all untouched"
unfoldable pub words_after : Verdict → List ℕ → List ℕ
words_after v w = if eqb v.number 1 then w else wiped w

-- "A refusal leaves the output untouched; an answer changes only its length"
unfoldable pub output_after : Verdict → Bytes → Bytes
output_after v out = v.output ++ drop (length v.output) out

-- 1, "a lent slice below its minimum": of words, and of output bytes
unfoldable pub short_words : List ℕ → List ℕ → List ℕ → Bool
short_words w0 w1 w2 = ltb (length w0) least_words || ltb (length w1) least_words || ltb (length w2) least_words

unfoldable pub short_output : Bytes → Bool
short_output out = ltb (length out) least_output

-- ---- document 02, F-6: "It reads the sheet, types all rules in order and writes one type a line"; definitions come first (F-13)

-- 2 to 8, 20, 23 or 24, or what follows for a sheet
unfoldable pub on_sheet : Reading → (Sheet → Verdict) → Verdict
on_sheet (accepted s) f = f s
on_sheet (rejected n k) f = refusal_at n k

unfoldable pub typing_of : Sheet → Rule → Typed
typing_of s r = type_rule (schema_in s) r.context r.body

-- "9 to 13 (place: that N line)", or what follows for a type
unfoldable pub on_type : Sheet → Answer → (Ty → Verdict) → Verdict
on_type s (typed t) f = f t
on_type s (refused n p) f = refusal_at n (get_or s.lines p 0)

-- the first refusal, or what follows for the rules' types
unfoldable pub on_types : Sheet → List Rule → (List Ty → Verdict) → Verdict
on_types s [] f = f []
on_types s (x ∷ xs) f = on_type s (typing_of s x).answer (λ t. on_types s xs (λ ts. f (t ∷ ts)))

-- document 02, F-13: "typed in order before the rules, writing no line": the first refusal, or what follows
unfoldable pub on_definitions : Sheet → List Definition → Verdict → Verdict
on_definitions s [] v = v
on_definitions s (d ∷ ds) v = on_type s (type_definition (schema_in s) d).answer (λ t. on_definitions s ds v)

-- a sheet is accepted only if all its definitions and rules type: 2 to 13, 20, 23 or 24, or what follows for an accepted sheet and its
-- rules' types
unfoldable pub on_accepted : Bytes → (Sheet → List Ty → Verdict) → Verdict
on_accepted text f = on_sheet (read_text text) (λ s. on_definitions s s.definitions (on_types s s.rules (f s)))

-- document 02, F-6: "writes one type a line, each ended by a line feed"
unfoldable pub type_lines : List Ty → Bytes
type_lines [] = []
type_lines (t ∷ ts) = spell_type t ++ byte "\n" ∷ type_lines ts

unfoldable pub read_call : Bytes → List ℕ → List ℕ → List ℕ → Bytes → Verdict
read_call text w0 w1 w2 out =
    if short_words w0 w1 w2 || short_output out then refusal 1 else on_accepted text (λ s ts. answer (type_lines ts))

-- ---- "evaluate a rule for an object"; document 02, F-6: "Evaluate and report rest on it"

-- 14, "rule or object asked for isn't there"
unfoldable pub on_rule : Option Rule → (Rule → Verdict) → Verdict
on_rule none f = refusal 14
on_rule (some r) f = f r

-- 14 likewise; 15, "object not of the context class or below"
unfoldable pub on_object : Model → Option ℕ → ℕ → ℕ → Verdict → Verdict
on_object m none o c v = refusal 14
on_object m (some d) o c v = if is_a m o (class c) then v else refusal 15

-- the marks of all definitions and rules, whose nodes are numbered through all of them, so that no node has two
unfoldable pub definition_marks : Schema → List Definition → Marks
definition_marks k [] = []
definition_marks k (d ∷ ds) = (type_definition k d).marks ++ definition_marks k ds

unfoldable pub rule_marks : Schema → List Rule → Marks
rule_marks k [] = []
rule_marks k (x ∷ xs) = (type_rule k x.context x.body).marks ++ rule_marks k xs

unfoldable pub marks_of : Sheet → ℕ → Mark
marks_of s = mark_in (definition_marks (schema_in s) s.definitions ++ rule_marks (schema_in s) s.rules)

unfoldable pub outcome_of : Sheet → Rule → ℕ → Outcome
outcome_of s r o = evaluate_rule (model_of s) (marks_of s) r.body o

-- stuck has no number of document 01, and 100 stands for it; no call ends so (`NeverStuck`, Soundness.antt)
unfoldable pub ended : Outcome → Verdict
ended (value v n) = record { number = 0; steps = n; place = 0; output = spell_value v }
ended (undefined n) = record { number = 0; steps = n; place = 0; output = bytes "u" }
ended stuck = refusal 100
ended (stop c n) = record { number = c; steps = n; place = 0; output = [] }

unfoldable pub evaluate_on : Sheet → ℕ → ℕ → Verdict
evaluate_on s r o = on_rule (get_elem? s.rules r) (λ x.
    on_object (model_of s) ((model_of s).class_of o) o x.context (ended (outcome_of s x o)))

unfoldable pub evaluate_call : Bytes → ℕ → ℕ → List ℕ → List ℕ → List ℕ → Bytes → Verdict
evaluate_call text r o w0 w1 w2 out =
    if short_words w0 w1 w2 || short_output out then refusal 1 else on_accepted text (λ s ts. evaluate_on s r o)

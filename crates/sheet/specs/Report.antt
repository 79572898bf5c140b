-- Document 01, Calls: the report's bytes, the report call, and what the program prints.
use Rattle.std.specs.Prelude.{ℕ, zero, suc, ◌||◌, List, [], ◌∷◌, ◌++◌, length, eqb, ltb}
use Rattle.std.specs.Prelude.{if◌then◌else◌}
use Rattle.ocl.specs.Types.{class}
use Rattle.ocl.specs.Model.{is_a}
use Rattle.ocl.specs.Operations.{Outcome, value, undefined, stuck, stop, steps_of}
use Rattle.sheet.specs.Text.{Bytes, byte, bytes, spell_number}
use Rattle.sheet.specs.Spelling.{spell_value}
use Rattle.sheet.specs.Sheet.{Rule, Sheet, model_of}
use Rattle.sheet.specs.Calls.{Verdict, answer, refusal, short_words, short_output, on_accepted, outcome_of}
use Rattle.sheet.specs.Sizes.{program_output}

-- the value, or a stop's number behind `!`; stuck would be `!100`, which is in no report (`NeverStuck`, Soundness.antt)
unfoldable pub spell_outcome : Outcome → Bytes
spell_outcome (value v n) = spell_value v
spell_outcome (undefined n) = bytes "u"
spell_outcome stuck = bytes "!100"
spell_outcome (stop c n) = byte "!" ∷ spell_number c

-- "rule, object, value or `!16`/`!17`, steps, parted by one space"; document 02, F-5: "prints `!19` as they do"
unfoldable pub report_line : ℕ → ℕ → Outcome → Bytes
report_line r o x =
    spell_number r ++ bytes " " ++ spell_number o ++ bytes " " ++ spell_outcome x ++ bytes " " ++ spell_number (steps_of x) ++ bytes "\n"

-- "for each rule, each object of its class or below, ascending, one line": those of rule r for the first n objects
unfoldable pub object_lines : Sheet → ℕ → Rule → ℕ → Bytes
object_lines s r x zero = []
object_lines s r x (suc n) =
    object_lines s r x n ++ (if is_a (model_of s) n (class x.context) then report_line r n (outcome_of s x n) else [])

-- the lines of the rules from number r on
unfoldable pub rule_lines : Sheet → ℕ → List Rule → Bytes
rule_lines s r [] = []
rule_lines s r (x ∷ xs) = object_lines s r x (length s.objects) ++ rule_lines s (suc r) xs

-- 18, "report longer than the output"
unfoldable pub fitting : ℕ → Bytes → Verdict
fitting room b = if ltb room (length b) then refusal 18 else answer b

-- the report of a text into an output of so many bytes: "The report types all rules in order, then 18"
unfoldable pub report_of : Bytes → ℕ → Verdict
report_of text room = on_accepted text (λ s ts. fitting room (rule_lines s 0 s.rules))

unfoldable pub report_call : Bytes → List ℕ → List ℕ → List ℕ → Bytes → Verdict
report_call text w0 w1 w2 out =
    if short_words w0 w1 w2 || short_output out then refusal 1 else report_of text (length out)

-- "prints the report, or one line of `!`, number and place, also parted"
unfoldable pub printed : Verdict → Bytes
printed v =
    if eqb v.number 0 then v.output
    else bytes "! " ++ spell_number v.number ++ bytes " " ++ spell_number v.place ++ bytes "\n"

-- it "lends 65,536 output bytes"
unfoldable pub program : Bytes → Bytes
program text = printed (report_of text program_output)

-- Document 02, F-11: the lines that name where undefined came from, the call that writes them, and what its program prints. The laws are
-- in OriginLaws.antt.
use Rattle.std.specs.Prelude.{◌||◌, List, [], ◌∷◌, ◌++◌, ℕ, zero, suc, length, get_or}
use Rattle.std.specs.Prelude.{if◌then◌else◌}
use Rattle.ocl.specs.Types.{class}
use Rattle.ocl.specs.Model.{is_a}
use Rattle.ocl.specs.Trace.{Traced, value_t, undefined_t, stuck_t, stop_t, trace_rule}
use Rattle.sheet.specs.Text.{Bytes, bytes, spell_number}
use Rattle.sheet.specs.Sheet.{Rule, Sheet, model_of}
use Rattle.sheet.specs.Calls.{Verdict, refusal, short_words, short_output, on_accepted, marks_of}
use Rattle.sheet.specs.Report.{fitting, printed}
use Rattle.sheet.specs.Sizes.{program_output}

-- a rule for an object, with where its undefined arose
unfoldable pub trace_of : Sheet → Rule → ℕ → Traced
trace_of s r o = trace_rule (model_of s) (marks_of s) r.body o

-- "rule, object, and the line and the step", "parted by one space"
unfoldable pub place_line : ℕ → ℕ → ℕ → ℕ → Bytes
place_line r o k j = spell_number r ++ bytes " " ++ spell_number o ++ bytes " " ++ spell_number k ++ bytes " " ++ spell_number j ++ bytes "\n"

-- "Each undefined verdict gets exactly one such line, and other verdicts get none"
unfoldable pub origin_line : Sheet → ℕ → ℕ → Traced → Bytes
origin_line s r o (value_t v n) = []
origin_line s r o (undefined_t n q j) = place_line r o (get_or s.lines q 0) j
origin_line s r o stuck_t = []
origin_line s r o (stop_t c n) = []

-- "in the report's order": the lines of rule r for the first n objects, and of the rules from number r on
unfoldable pub object_origins : Sheet → ℕ → Rule → ℕ → Bytes
object_origins s r x zero = []
object_origins s r x (suc n) =
    object_origins s r x n ++ (if is_a (model_of s) n (class x.context) then origin_line s r n (trace_of s x n) else [])

unfoldable pub rule_origins : Sheet → ℕ → List Rule → Bytes
rule_origins s r [] = []
rule_origins s r (x ∷ xs) = object_origins s r x (length s.objects) ++ rule_origins s (suc r) xs

-- "reads, lends and refuses as the report's program does (18 by its own lines)"
unfoldable pub origins_of : Bytes → ℕ → Verdict
origins_of text room = on_accepted text (λ s ts. fitting room (rule_origins s 0 s.rules))

unfoldable pub origin_call : Bytes → List ℕ → List ℕ → List ℕ → Bytes → Verdict
origin_call text w0 w1 w2 out = if short_words w0 w1 w2 || short_output out then refusal 1 else origins_of text (length out)

-- it lends 65,536 output bytes
unfoldable pub origin_program : Bytes → Bytes
origin_program text = printed (origins_of text program_output)

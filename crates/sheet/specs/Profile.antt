-- Document 02, F-12: "One more call, else like F-6's, holds a sheet to a profile".
use Rattle.std.specs.Prelude.{◌||◌, List, [], ◌∷◌, ◌++◌, map, ℕ, min, get_or}
use Rattle.std.proofs.Math.Option.{Option, none, some}
use Rattle.std.specs.Prelude.{if◌then◌else◌}
use Rattle.ocl.specs.Model.{Schema}
use Rattle.ocl.specs.Profile.{outside_rule}
use Rattle.sheet.specs.Text.{Bytes}
use Rattle.sheet.specs.Sheet.{Rule, Sheet, schema_in}
use Rattle.sheet.specs.Calls.{Verdict, answer, refusal_at, refusal, short_words, short_output, on_accepted, type_lines}

-- the nodes of all rules that stand outside the profile; those of a definition that no rule reaches are none of them
unfoldable pub outside_rules : Schema → List Rule → List ℕ
outside_rules k [] = []
outside_rules k (x ∷ xs) = outside_rule k x.context x.body ++ outside_rules k xs

-- the lowest of some numbers
unfoldable pub lowest_from : ℕ → List ℕ → ℕ
lowest_from n [] = n
lowest_from n (m ∷ ns) = lowest_from (min n m) ns

unfoldable pub lowest : List ℕ → Option ℕ
lowest [] = none
lowest (n ∷ ns) = some (lowest_from n ns)

-- "the lowest line of such a node", if there is one
unfoldable pub first_outside : Sheet → Option ℕ
first_outside s = lowest (map (λ p. get_or s.lines p 0) (outside_rules (schema_in s) s.rules))

-- 22 at that line
unfoldable pub on_profile : Option ℕ → Verdict → Verdict
on_profile none v = v
on_profile (some k) v = refusal_at 22 k

-- 22 comes "after every rule's 13"; without it the answer is reading's
unfoldable pub profile_of : Bytes → Verdict
profile_of text = on_accepted text (λ s ts. on_profile (first_outside s) (answer (type_lines ts)))

unfoldable pub profile_call : Bytes → List ℕ → List ℕ → List ℕ → Bytes → Verdict
profile_call text w0 w1 w2 out = if short_words w0 w1 w2 || short_output out then refusal 1 else profile_of text

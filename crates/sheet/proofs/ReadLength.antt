-- What reading writes is at most 64 lines of 14 bytes. Assumes nothing.
use mathlib.Core.Path.{◌≡◌, refl}
use mathlib.Core.Bool.{◌||◌}
use mathlib.Core.Option.{some}
use mathlib.Core.List.{List, [], ◌∷◌}
use Prim.Native.Nat.{ℕ, zero, suc, ◌*◌, ◌≤◌}
use native.Mathlib.Omega.{arith}
use lib.ListN.{length, get_or, get_elem?, length-append}
use Rattle.laws.specs.Lists.{Each, each_nil, each-cons}
use Rattle.laws.proofs.Tests.{by-if}
use Rattle.laws.proofs.Elements.{each_elem}
use Rattle.ocl.specs.Types.{Ty, depth}
use Rattle.ocl.specs.Model.{Row}
use Rattle.ocl.specs.Forms.{Definition}
use Rattle.ocl.specs.Typing.{Answer, typed, refused, type_definition}
use Rattle.ocl.proofs.Answered.{rule_answered}
use Rattle.sheet.specs.Text.{Bytes}
use Rattle.sheet.specs.Spelling.{spell_type}
use Rattle.sheet.specs.Sheet.{Rule, Sheet, no_row, schema_in}
use Rattle.sheet.specs.Reading.{Reading, accepted, rejected, read_text}
use Rattle.sheet.specs.Limits.{class_below}
use Rattle.sheet.specs.Calls.{Verdict, answer, refusal_at, refusal, short_words, short_output, on_sheet, typing_of, on_type, on_types, on_definitions, on_accepted, type_lines, read_call, marks_of}
use Rattle.sheet.specs.Laws.{ReadLength, AllTyped, none_typed, one_typed}
use Rattle.sheet.proofs.Lengths.{type_length}
use Rattle.sheet.proofs.TypeFits.{Fits, class_fits, fits_closed}
use Rattle.sheet.proofs.Good.{Good}
use Rattle.sheet.proofs.Acceptance.{accepted_good}
use Rattle.sheet.proofs.Marks.{rule_agrees}

-- a row that is not there has type Void
row_fits : {rows : List Row} → Each (λ (x : Row). Fits 3 x.type) rows → (i : ℕ) → Fits 3 (get_or rows i no_row).type
unfolding no_row depth class_below
row_fits each_nil i = record { deep = omega arith; below = tt }
row_fits (each-cons p h) zero = p
row_fits (each-cons p h) (suc i) = row_fits h i

-- the type of a rule of a good sheet is at most three letters deep, and a class in it is below 64
pub rule_fits : (s : Sheet) → Good s → (r : ℕ) (x : Rule) (t : Ty) → get_elem? s.rules r ≡ some x → (typing_of s x).answer ≡ typed t → Fits 3 t
unfolding typing_of
rule_fits s g r x t e q =
    let k = each_elem r g.rules e in
    rule_answered (schema_in s) (marks_of s) (Fits 3) (fits_closed (schema_in s) g.parents (row_fits g.rows)) x.context x.body t (class_fits 3 x.context k.context) k.names q (rule_agrees s g r x e)

-- ---- so many bytes

pub type_short : (t : Ty) → Fits 3 t → length (spell_type t) ≤ 13
type_short t h = let d = h.deep in omega (arith, type_length t h.below)

lines_short : {s : Sheet} {xs : List Rule} {ts : List Ty} → AllTyped s xs ts → ((r : ℕ) (x : Rule) (t : Ty) → get_elem? xs r ≡ some x → (typing_of s x).answer ≡ typed t → Fits 3 t)
    → length (type_lines ts) ≤ 14 * length xs
unfolding type_lines
lines_short none_typed h = omega arith
lines_short (one_typed {x} {xs} {t} {ts} q a) h =
    omega (arith, length-append (spell_type t) (10 ∷ type_lines ts), type_short t (h 0 x t refl q), lines_short a (λ r y u. h (suc r) y u))

-- what is written, whatever follows the types
types_short : (n : ℕ) (s : Sheet) (xs : List Rule) (f : List Ty → Verdict) → ((ts : List Ty) → AllTyped s xs ts → length (f ts).output ≤ n) → length (on_types s xs f).output ≤ n
unfolding on_types on_type refusal_at
types_short n s [] f h = h [] none_typed
types_short n s (x ∷ xs) f h = by (typing_of s x).answer refl (λ t q. types_short n s xs (λ ts. f (t ∷ ts)) (λ ts a. h (t ∷ ts) (one_typed q a)))
  where
    by : (a : Answer) → (typing_of s x).answer ≡ a → ((t : Ty) → (typing_of s x).answer ≡ typed t → length (on_types s xs (λ ts. f (t ∷ ts))).output ≤ n)
        → length (on_type s a (λ t. on_types s xs (λ ts. f (t ∷ ts)))).output ≤ n
    by (typed t) q g = g t q
    by (refused m p) q g = omega arith

definitions_short : (n : ℕ) (s : Sheet) (ds : List Definition) (v : Verdict) → length v.output ≤ n → length (on_definitions s ds v).output ≤ n
unfolding on_definitions on_type refusal_at
definitions_short n s [] v h = h
definitions_short n s (d ∷ ds) v h = by (type_definition (schema_in s) d).answer (definitions_short n s ds v h)
  where
    by : (a : Answer) → length (on_definitions s ds v).output ≤ n → length (on_type s a (λ t. on_definitions s ds v)).output ≤ n
    by (typed t) g = g
    by (refused m p) g = omega arith

-- and no more than these
pub accepted_short : (text : Bytes) (f : Sheet → List Ty → Verdict) → ((s : Sheet) (ts : List Ty) → length (f s ts).output ≤ length (type_lines ts))
    → length (on_accepted text f).output ≤ 896
unfolding on_accepted on_sheet refusal_at
accepted_short text f w = by (read_text text) refl
  where
    by : (x : Reading) → read_text text ≡ x → length (on_sheet x (λ s. on_definitions s s.definitions (on_types s s.rules (f s)))).output ≤ 896
    by (accepted s) q =
        let g = accepted_good text s q in
        definitions_short 896 s s.definitions _ (types_short 896 s s.rules (f s) (λ ts a. let l = lines_short a (λ r x t e h. rule_fits s g r x t e h) in omega (arith, g.few, w s ts)))
    by (rejected n k) q = omega arith

pub read_length : ReadLength
unfolding read_call refusal refusal_at
read_length text w0 w1 w2 out =
    by-if (λ (v : Verdict). length v.output ≤ 896) (short_words w0 w1 w2 || short_output out) (refusal 1) _ (λ t. omega arith)
    (λ t. accepted_short text (λ s ts. answer (type_lines ts)) (λ s ts. unfold answer in omega arith))

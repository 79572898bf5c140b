-- What the text of an X line is to the sheet: its rule's end, and that every call answers as for its node lines. Assumes nothing.
use mathlib.Core.Path.{◌≡◌, refl, sym, ap, ◌∙◌, subst}
use mathlib.Core.Bool.{Bool, true, false, ◌||◌}
use mathlib.Core.Option.{Option, none, some}
use mathlib.Core.List.{List, [], ◌∷◌, ◌++◌, append_assoc, append-nil}
use Prim.Native.Nat.{ℕ, zero, suc, ◌+◌, ◌-◌, ◌≤◌}
use native.Mathlib.Omega.{arith}
use lib.ListN.{length, replicate, get_or-replicate}
use lib.Seq.{get_or-append-add}
use lib.Dec.{T, ltb, ltb→lt}
use Rattle.laws.specs.Choice.{on_some}
use Rattle.std.specs.Prelude.{if◌then◌else◌}
use Rattle.laws.proofs.Tests.{test_true, by-if}
use Rattle.ocl.specs.Types.{Ty}
use Rattle.ocl.specs.Forms.{Definition}
use Rattle.ocl.specs.Typing.{Answer, typed, refused, type_definition}
use Rattle.sheet.specs.Text.{Bytes, lines_of}
use Rattle.sheet.specs.Lines.{Shape}
use Rattle.sheet.specs.Texts.{is_there, is_sentence, nodes_of}
use Rattle.sheet.specs.Sheet.{Rule, Current, empty, added, Sheet, schema_in, model_of, operands_of, with_node, with_nodes, as_text, all_used, end_of}
use Rattle.sheet.specs.Reading.{accepted, read_lines, read_text}
use Rattle.sheet.specs.Calls.{Verdict, answer, refusal_at, refusal, short_words, short_output, on_sheet, typing_of, on_type, on_types, on_definitions, on_accepted, read_call, marks_of, outcome_of, evaluate_on, evaluate_call}
use Rattle.sheet.specs.Report.{object_lines, rule_lines, fitting, report_of, report_call}
use Rattle.sheet.specs.Grammar.Tokens.{tokens}
use Rattle.sheet.specs.Grammar.Trees.{Tree, count, shapes}
use Rattle.sheet.specs.Grammar.Parser.{sentence, reading_of}
use Rattle.sheet.specs.TextLaws.{Sentence, SentenceExact, PlaceOfText, EndOfText, with_lines, Rewritten, SameAnswer, TextLaws}
use Rattle.sheet.proofs.Grammar.Exact.{exact}
use Rattle.sheet.proofs.TextNodes.{operands_all, shapes_size, text_used}
use Rattle.sheet.proofs.Numbering.{body_of_text}
use Rattle.sheet.proofs.GoodTexts.{nodes_result}
use Rattle.sheet.proofs.NodeSpelling.{has_node_lines}
use Rattle.sheet.proofs.NodesRead.{not_accepted, one_more}
use Rattle.sheet.proofs.AsNodeLines.{as_node_lines}

-- ---- the end of a text's rule

nodes_context : (ds : List Definition) (c : Current) (xs : List Shape) → (with_nodes ds c xs).context ≡ c.context
unfolding with_nodes with_node
nodes_context ds c [] = refl
nodes_context ds c (x ∷ xs) = nodes_context ds (with_node ds c x) xs

nodes_used : (ds : List Definition) (c : Current) (xs : List Shape) → (with_nodes ds c xs).used ≡ c.used ++ operands_all xs
unfolding with_nodes with_node operands_all
nodes_used ds c [] = sym (append-nil c.used)
nodes_used ds c (x ∷ xs) = nodes_used ds (with_node ds c x) xs ∙ append_assoc c.used (operands_of x) (operands_all xs)

nodes_count : (ds : List Definition) (c : Current) (xs : List Shape) → length (with_nodes ds c xs).trees ≡ length c.trees + length xs
unfolding with_nodes
nodes_count ds c [] = omega arith
nodes_count ds c (x ∷ xs) = let h = nodes_count ds (with_node ds c x) xs in let e = one_more ds c x in h ∙ (omega arith)

end_of_text : EndOfText
unfolding end_of as_text on_some
end_of_text t s c e d =
    let ds = s.definitions in
    let xs = shapes t 0 in
    let used : (with_nodes ds c xs).used ≡ operands_all xs = nodes_used ds c xs ∙ ap (λ l. l ++ operands_all xs) d in
    let size : length (with_nodes ds c xs).trees ≡ count t = nodes_count ds c xs ∙ ap (λ l. length l + length xs) e ∙ (let z = shapes_size t 0 in let y : 0 + length xs ≡ count t = omega arith in y) in
    rw (body_of_text t ds c e, used, size, nodes_context ds c xs, nodes_result ds c xs, test_true (all_used (operands_all xs) (count t - 1)) (text_used t))

-- ---- 20

sentence_exact : SentenceExact
unfolding is_sentence reading_of
sentence_exact text = (forth (sentence (tokens text)) refl, back)
  where
    forth : (o : Option Tree) → sentence (tokens text) ≡ o → T (is_there o) → Sentence text
    forth none e h = absurd (unfold is_there in h)
    forth (some t) e h = record { tree = t; reads = (exact (tokens text) t).0 e }

    back : Sentence text → T (is_there (sentence (tokens text)))
    back x = subst (λ o. T (is_there o)) (sym ((exact (tokens text) x.tree).1 x.reads)) (unfold is_there in tt)

-- ---- places

place_of_text : PlaceOfText
unfolding added
place_of_text s k text p h l =
    let q = p - length s.lines in
    let z : p ≡ length s.lines + q = omega arith in
    rw z (get_or-append-add s.lines (replicate (length (nodes_of text)) k) q 0 ∙ get_or-replicate (length (nodes_of text)) q k 0 (omega arith))

-- ---- calls

same_answer : (v : Verdict) → SameAnswer v v
same_answer v = record { same_number = refl; same_steps = refl; same_output = refl }

on_type_lem : (s t : Sheet) (a : Answer) {f g : Ty → Verdict} → ((x : Ty) → SameAnswer (f x) (g x)) → SameAnswer (on_type s a f) (on_type t a g)
unfolding on_type refusal_at
on_type_lem s t (typed x) h = h x
on_type_lem s t (refused n p) h = record { same_number = refl; same_steps = refl; same_output = refl }

module _ (s : Sheet) (ls : List ℕ) where
  on_types_lem : (xs : List Rule) {f g : List Ty → Verdict} → ((ts : List Ty) → SameAnswer (f ts) (g ts)) → SameAnswer (on_types s xs f) (on_types (with_lines s ls) xs g)
  unfolding on_types typing_of with_lines
  on_types_lem [] h = h []
  on_types_lem (x ∷ xs) h = on_type_lem s (with_lines s ls) (typing_of s x).answer (λ t. on_types_lem xs (λ ts. h (t ∷ ts)))

  on_definitions_lem : (ds : List Definition) {v w : Verdict} → SameAnswer v w → SameAnswer (on_definitions s ds v) (on_definitions (with_lines s ls) ds w)
  unfolding on_definitions with_lines
  on_definitions_lem [] h = h
  on_definitions_lem (d ∷ ds) h = on_type_lem s (with_lines s ls) (type_definition (schema_in s) d).answer (λ t. on_definitions_lem ds h)

  same_outcome : (x : Rule) (o : ℕ) → outcome_of (with_lines s ls) x o ≡ outcome_of s x o
  unfolding outcome_of marks_of model_of with_lines
  same_outcome x o = refl

  same_evaluation : (r o : ℕ) → evaluate_on (with_lines s ls) r o ≡ evaluate_on s r o
  unfolding evaluate_on outcome_of marks_of model_of with_lines
  same_evaluation r o = refl

  same_objects : (r : ℕ) (x : Rule) (n : ℕ) → object_lines (with_lines s ls) r x n ≡ object_lines s r x n
  unfolding object_lines model_of with_lines
  same_objects r x zero = refl
  same_objects r x (suc n) = rw (same_objects r x n, same_outcome x n)

  same_rules : (r : ℕ) (xs : List Rule) → rule_lines (with_lines s ls) r xs ≡ rule_lines s r xs
  unfolding rule_lines with_lines
  same_rules r [] = refl
  same_rules r (x ∷ xs) = rw (same_objects r x (length s.objects), same_rules (suc r) xs)

pub lines_read : (text : Bytes) (s : Sheet) → read_text text ≡ accepted s → read_lines empty 0 (lines_of text) ≡ accepted s
unfolding read_text
lines_read text s e = by-if (λ r. r ≡ accepted s → read_lines empty 0 (lines_of text) ≡ accepted s) (ltb 49152 (length text)) _ _ (λ t q. absurd (not_accepted q)) (λ t q. q) e

pub text_read : (text : Bytes) (s : Sheet) → length text ≤ 49152 → read_lines empty 0 (lines_of text) ≡ accepted s → read_text text ≡ accepted s
unfolding read_text
text_read text s l e = by-if (λ r. r ≡ accepted s) (ltb 49152 (length text)) _ _ (λ t. absurd (let k = ltb→lt 49152 (length text) t in omega arith)) (λ t. e)

accepted_alike : (text nodes : Bytes) (x : Rewritten text nodes) (f : Sheet → List Ty → Verdict) → ((ls : List ℕ) (ts : List Ty) → f (with_lines x.sheet ls) ts ≡ f x.sheet ts)
    → SameAnswer (on_accepted text f) (on_accepted nodes f)
unfolding on_accepted on_sheet with_lines
accepted_alike text nodes x f h =
    let s = x.sheet in
    let y = as_node_lines (lines_of text) (lines_of nodes) x.in_lines s (lines_read text s x.reads) in
    rw (x.reads, text_read nodes (with_lines s y.numbers) x.short y.reads)
    (on_definitions_lem s y.numbers s.definitions (on_types_lem s y.numbers s.rules (λ ts. rw (h y.numbers ts) (same_answer (f s ts)))))

-- 1 or what follows
lent : (b : Bool) {v w : Verdict} → SameAnswer v w → SameAnswer (if b then refusal 1 else v) (if b then refusal 1 else w)
lent true h = same_answer (refusal 1)
lent false h = h

pub text_laws : TextLaws
unfolding read_call evaluate_call report_call report_of with_lines
text_laws = record {
  sentence_exact = sentence_exact;
  body_of_text = body_of_text;
  end_of_text = end_of_text;
  place_of_text = place_of_text;
  has_node_lines = has_node_lines;
  as_node_lines = as_node_lines;
  reads_alike = λ text nodes x w0 w1 w2 out. lent (short_words w0 w1 w2 || short_output out) (accepted_alike text nodes x _ (λ ls ts. refl));
  evaluates_alike = λ text nodes x r o w0 w1 w2 out. lent (short_words w0 w1 w2 || short_output out) (accepted_alike text nodes x _ (λ ls ts. same_evaluation x.sheet ls r o));
  reports_alike = λ text nodes x w0 w1 w2 out. lent (short_words w0 w1 w2 || short_output out) (accepted_alike text nodes x _ (λ ls ts. ap (fitting (length out)) (same_rules x.sheet ls 0 x.sheet.rules)));
}

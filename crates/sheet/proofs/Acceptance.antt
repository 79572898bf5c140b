-- What every sheet that reading accepts has: parents that are smaller, slots that ascend, values that belong to their rows' types and are
-- formed, definitions and rules whose trees share no node and have at most 19 levels, Integers and types within their limits. The induction over the
-- lines, over the laws of proofs/Good.antt. Assumes nothing.
use mathlib.Core.Path.{◌≡◌, refl, sym, ap, ◌∙◌, subst}
use mathlib.Core.Bool.{◌&&◌}
use mathlib.Core.Option.{Option, none, some}
use mathlib.Core.List.{List, [], ◌∷◌, ◌++◌, map, append-nil, append_assoc}
use Prim.Native.Nat.{ℕ, suc, ◌+◌, ◌-◌, ◌<◌, ◌≤◌}
use native.Mathlib.Omega.{arith}
use lib.ListN.{length, get_or}
use lib.Dec.{T, eqb, eqb→eq, ltb, leb, leb→le}
use Rattle.laws.specs.Choice.{on_some}
use Rattle.std.specs.Prelude.{if◌then◌else◌}
use Rattle.laws.specs.Lists.{Each, each_nil, each-cons, Distinct}
use Rattle.laws.proofs.Tests.{and_r, by-if, All?, all_none, all_some, at_some}
use Rattle.laws.proofs.Lists.{length_more, each_imp, each_append, each_left, distinct_append}
use Rattle.ocl.specs.Types.{Ty}
use Rattle.ocl.specs.Values.{Value, size}
use Rattle.ocl.specs.Model.{Model, belongs}
use Rattle.ocl.specs.Forms.{Expr, Definition, levels, calls}
use Rattle.ocl.specs.Laws.{numbers_kept, Formed, numbers, literals}
use Rattle.ocl.specs.Soundness.{AcceptedModel}
use Rattle.sheet.specs.Text.{Bytes, fields_of, lines_of}
use Rattle.sheet.specs.Lines.{Line, line_of, in_body}
use Rattle.sheet.specs.Sheet.{Slot, Rule, Current, Sheet, empty, lookup, no_row, model_of, tree_of, last_tree, all_used, with_body, most_levels, end_of, end_for, end_rule}
use Rattle.sheet.specs.Reading.{Step, taken, refuse, step_spelled, step, Reading, accepted, rejected, on_step, on_end, closing, read_last, read_lines, read_text}
use Rattle.sheet.proofs.Belonging.{belongs_same}
use Rattle.sheet.proofs.TypeFits.{Fits, NamesFit, tree_names}
use Rattle.sheet.proofs.Bodies.{body_numbers, bodies_more, Among, among_more, tree_called}
use Rattle.sheet.proofs.Good.{plain, SlotOk, BodyOk, DefinitionOk, CurrentOk, OpenOk, none_open, one_open, blocks_none, sheet_numbers, Good, good_empty}
use Rattle.sheet.proofs.Steps.{Steps, not_taken, takes, spelled_steps}
use Rattle.sheet.proofs.GoodTexts.{good_added}
use Rattle.sheet.proofs.NumbersKept.{AllKept, tree_kept}

-- ---- the end of a definition or rule

-- the body is the tree of one of its nodes
record Root (trees : List Expr) (body : Expr) : Type 0 where
  index : ℕ
  inside : index < length trees
  is : tree_of trees index ≡ body

last_tree_lem : (trees : List Expr) (body : Expr) → last_tree trees ≡ some body → Root trees body
unfolding last_tree tree_of
last_tree_lem [] body e = absurd (let z : ◌≡◌ {A = ℕ} 0 1 = cc in omega arith)
last_tree_lem (x ∷ []) body e = record { index = 0; inside = omega arith; is = (let z : x ≡ body = cc in z) }
last_tree_lem (x ∷ y ∷ trees) body e = let r = last_tree_lem (y ∷ trees) body e in record { index = suc r.index; inside = omega arith; is = r.is }

module _ (ds : List Definition) (n : ℕ) (c : Current) (body : Expr) (h : CurrentOk ds n c) (e : last_tree c.trees ≡ some body) where
  root_is : Root c.trees body
  root_is = last_tree_lem c.trees body e

  body_ok : levels body ≤ most_levels → BodyOk ds n c.context body
  body_ok l = let r = root_is in record {
    context = h.context;
    on_sheet = subst (λ i. Each (λ p. p < i) (numbers body)) h.count (subst (λ x. Each (λ p. p < c.first + length c.trees) (numbers x)) r.is (h.forest.below r.index r.inside));
    shallow = l;
    numbers_kept_lem = subst (λ x. AllKept (literals x)) r.is (tree_kept h.numbers_kept_lem r.index);
    names = subst NamesFit r.is (tree_names h.names r.index);
    called = subst (λ x. Each (Among ds) (calls x)) r.is (tree_called h.called r.index);
  }

  -- its nodes come after all others
  body_distinct : {ns : List ℕ} → Distinct ns → Each (λ p. p < c.first) ns → Distinct (ns ++ numbers body)
  body_distinct d l = let r = root_is in
      distinct_append d (subst (λ x. Distinct (numbers x)) r.is (h.forest.distinct r.index r.inside))
      (each_imp (λ n k. each_imp (λ m i q. omega arith) (subst (λ x. Each (λ p. c.first ≤ p) (numbers x)) r.is (h.forest.above r.index r.inside))) l)

-- a definition more on the sheet
body_among : {ds : List Definition} {n c : ℕ} (d : Definition) {e : Expr} → BodyOk ds n c e → BodyOk (ds ++ (d ∷ [])) n c e
body_among d x = record { context = x.context; on_sheet = x.on_sheet; shallow = x.shallow; numbers_kept_lem = x.numbers_kept_lem; names = x.names; called = among_more d x.called }

definition_among : {ds : List Definition} {n : ℕ} (d : Definition) {e : Definition} → DefinitionOk ds n e → DefinitionOk (ds ++ (d ∷ [])) n e
definition_among d x = record { type = x.type; body = body_among d x.body }

-- where there is no rule, the definitions' nodes are all
no_rules : (s : Sheet) (es : List Expr) → s.rules ≡ [] → body_numbers es ++ body_numbers (map (λ (r : Rule). r.body) s.rules) ≡ body_numbers es
unfolding body_numbers
no_rules s es z = ap (λ rs. body_numbers es ++ body_numbers (map (λ (r : Rule). r.body) rs)) z ∙ append-nil (body_numbers es)

fits_result : {t : Ty} {o : Option Ty} → o ≡ some t → All? (Fits 3) o → Fits 3 t
fits_result e h = at_some (subst (All? (Fits 3)) e h)

ended_definition : (s : Sheet) (c : Current) (t : Ty) (body : Expr) → Good s → s.current ≡ some c → c.result ≡ some t → CurrentOk s.definitions (length s.lines) c
    → last_tree c.trees ≡ some body → levels body ≤ most_levels → Good (with_body s c.context (some t) body)
unfolding with_body plain sheet_numbers
ended_definition s c t body g q r h e l =
    let d : Definition = record { context = c.context; type = t; body = body } in
    let z : s.rules ≡ [] = g.blocks.late (g.blocks.in_definition_lem c t q r) in
    let f : Definition → Expr = λ x. x.body in
    record {
      parents = g.parents;
      rows = g.rows;
      early = g.early;
      slots = g.slots;
      ascending = g.ascending;
      definitions = each_append (each_imp (λ x. definition_among d) g.definitions)
          (each-cons (record { type = fits_result r h.result; body = body_among d (body_ok s.definitions (length s.lines) c body h e l) }) each_nil);
      rules = each_imp (λ x. body_among d) g.rules;
      distinct = subst Distinct (sym (no_rules s (map f (s.definitions ++ (d ∷ []))) z ∙ bodies_more f s.definitions d))
          (body_distinct s.definitions (length s.lines) c body h e (subst Distinct (no_rules s (map f s.definitions) z) g.distinct)
          (each_left (body_numbers (map f s.definitions)) _ (g.earlier c q)));
      earlier = λ d e. absurd (let z : ◌≡◌ {A = ℕ} 0 1 = cc in omega arith);
      few = g.few;
      blocks = blocks_none g.blocks.late;
      current = none_open;
      room = λ d e. absurd (let z : ◌≡◌ {A = ℕ} 0 1 = cc in omega arith);
    }

ended_rule : (s : Sheet) (c : Current) (body : Expr) → Good s → s.current ≡ some c → c.result ≡ none → CurrentOk s.definitions (length s.lines) c
    → last_tree c.trees ≡ some body → levels body ≤ most_levels → Good (with_body s c.context none body)
unfolding with_body plain sheet_numbers
ended_rule s c body g q r h e l =
    let x : Rule = record { context = c.context; body = body } in
    let f : Rule → Expr = λ x. x.body in
    record {
      parents = g.parents;
      rows = g.rows;
      early = g.early;
      slots = g.slots;
      ascending = g.ascending;
      definitions = g.definitions;
      rules = each_append g.rules (each-cons (body_ok s.definitions (length s.lines) c body h e l) each_nil);
      distinct = subst Distinct
          (append_assoc (body_numbers (map (λ (d : Definition). d.body) s.definitions)) (body_numbers (map f s.rules)) (numbers body)
          ∙ ap (λ l. body_numbers (map (λ (d : Definition). d.body) s.definitions) ++ l) (sym (bodies_more f s.rules x)))
          (body_distinct s.definitions (length s.lines) c body h e g.distinct (g.earlier c q));
      earlier = λ d e. absurd (let z : ◌≡◌ {A = ℕ} 0 1 = cc in omega arith);
      few = omega (arith, (g.room c q).for_rule r, length_more s.rules x);
      blocks = blocks_none (λ k. absurd (let z = g.blocks.in_rule c q r in omega arith));
      current = none_open;
      room = λ d e. absurd (let z : ◌≡◌ {A = ℕ} 0 1 = cc in omega arith);
    }

good_ended : (s : Sheet) (c : Current) (t : Option Ty) (body : Expr) → Good s → s.current ≡ some c → c.result ≡ t → CurrentOk s.definitions (length s.lines) c
    → last_tree c.trees ≡ some body → levels body ≤ most_levels → Good (with_body s c.context t body)
good_ended s c none body g q r h e l = ended_rule s c body g q r h e l
good_ended s c (some t) body g q r h e l = ended_definition s c t body g q r h e l

good_body : (s : Sheet) (c : Current) → Good s → s.current ≡ some c → CurrentOk s.definitions (length s.lines) c → (o : Option Expr) → last_tree c.trees ≡ o
    → All? Good (on_some o (λ body. if all_used c.used (length c.trees - 1) && leb (levels body) most_levels then some (with_body s c.context c.result body) else none))
unfolding on_some
good_body s c g q h none e = all_none
good_body s c g q h (some body) e =
    by-if (All? Good) (all_used c.used (length c.trees - 1) && leb (levels body) most_levels) _ none
    (λ t. all_some (good_ended s c c.result body g q refl h e (leb→le (levels body) most_levels (and_r (all_used c.used (length c.trees - 1)) _ t))))
    (λ t. all_none)

good_close : (s : Sheet) → Good s → (o : Option Current) → s.current ≡ o → OpenOk s.definitions (length s.lines) o → All? Good (end_for s o)
unfolding end_for end_of
good_close s g none q none_open = all_some g
good_close s g (some c) q (one_open h) = good_body s c g q h (last_tree c.trees) refl

pub good_end_rule : (s : Sheet) → Good s → All? Good (end_rule s)
unfolding end_rule
good_end_rule s g = good_close s g s.current refl g.current

-- ---- a line, and a whole text

pub data GoodStep : Step → Type 0 where
  no_step : {n : ℕ} → GoodStep (refuse n)
  good_step : {s : Sheet} → Good s → GoodStep (taken s)

good_spelled : (s : Sheet) (k : ℕ) (o : Option Line) → Good s → GoodStep (step_spelled s k o)
good_spelled s k o g = of (spelled_steps s k o)
  where
    of : {x : Step} → Steps s k o x → GoodStep x
    of not_taken = no_step
    of (takes l e m) = good_step (good_added s k l g m)

pub good_fields : (s : Sheet) (k : ℕ) (fs : List Bytes) → Good s → GoodStep (step s k fs)
unfolding step
good_fields s k fs g = good_spelled s k (line_of fs) g

-- a reading that accepts, accepts a good sheet
data GoodReading : Reading → Type 0 where
  no_reading : {n k : ℕ} → GoodReading (rejected n k)
  good_reading : {s : Sheet} → Good s → GoodReading (accepted s)

on_step_lem : {x : Step} (k : ℕ) {f : Sheet → Reading} → GoodStep x → ((s : Sheet) → Good s → GoodReading (f s)) → GoodReading (on_step x k f)
unfolding on_step
on_step_lem k no_step h = no_reading
on_step_lem k (good_step {s} g) h = h s g

on_end_lem : {o : Option Sheet} (k : ℕ) {f : Sheet → Reading} → All? Good o → ((s : Sheet) → Good s → GoodReading (f s)) → GoodReading (on_end o k f)
unfolding on_end
on_end_lem k all_none h = no_reading
on_end_lem k (all_some {x = s} g) h = h s g

on_closing : (s : Sheet) (k : ℕ) (fs : List Bytes) {f : Sheet → Reading} → Good s → ((s : Sheet) → Good s → GoodReading (f s)) → GoodReading (closing s k fs f)
unfolding closing
on_closing s k fs g h = by-if GoodReading (in_body fs) _ _ (λ t. h s g) (λ t. on_end_lem k (good_end_rule s g) h)

on_last : (k : ℕ) (l : Bytes) (s : Sheet) → Good s → GoodReading (read_last k l s)
unfolding read_last
on_last k [] s g = good_reading g
on_last k (b ∷ l) s g = no_reading

good_lines : (s : Sheet) (k : ℕ) (ls : List Bytes) → Good s → GoodReading (read_lines s k ls)
unfolding read_lines
good_lines s k [] g = good_reading g
good_lines s k (l ∷ []) g = on_closing s k (fields_of l) g (on_last k l)
good_lines s k (l ∷ m ∷ ls) g =
    on_closing s k (fields_of l) g (λ t h. on_step_lem (suc k) (good_fields t (suc k) (fields_of l) h) (λ u i. good_lines u (suc k) (m ∷ ls) i))

good_text : (text : Bytes) → GoodReading (read_text text)
unfolding read_text
good_text text = by-if GoodReading (ltb 49152 (length text)) _ _ (λ t. no_reading) (λ t. good_lines empty 0 (lines_of text) good_empty)

-- every accepted sheet is good
pub accepted_good : (text : Bytes) (s : Sheet) → read_text text ≡ accepted s → Good s
accepted_good text s e = of (subst GoodReading e (good_text text))
  where
    of : GoodReading (accepted s) → Good s
    of (good_reading g) = g

-- ---- and so its model is what demand 3 asks

-- what a slot says of its value
record ValueOk (m : Model) (i : ℕ) (v : Value) : Type 0 where
  belong : T (belongs m (m.row i).type v)
  small : size v ≤ 128
  numbers_kept_lem : T (numbers_kept v)
  formed : Formed v

lookup_ok : (m : Model) (l : List Slot) (o i : ℕ) (v : Value) → Each (SlotOk m) l → lookup l o i ≡ some v → ValueOk m i v
unfolding lookup
lookup_ok m [] o i v each_nil e = absurd (let z : ◌≡◌ {A = ℕ} 0 1 = cc in omega arith)
lookup_ok m (x ∷ l) o i v (each-cons h hs) e =
    by-if (λ y. y ≡ some v → ValueOk m i v) (eqb o x.object && eqb i x.row) _ _
    (λ t q. let z : x.value ≡ v = cc in let r : i ≡ x.row = eqb→eq i x.row (and_r (eqb o x.object) _ t) in
    rw (← z, r) (record { belong = h.belong; small = h.small; numbers_kept_lem = h.numbers_kept_lem; formed = h.formed }))
    (λ t q. lookup_ok m l o i v hs q) e

pub good_model : (s : Sheet) → Good s → AcceptedModel (model_of s)
unfolding model_of plain
good_model s g = record {
  parents_smaller = g.parents;
  values_belong = λ o i v e. subst T (belongs_same (plain s) (model_of s) refl refl (get_or s.rows i no_row).type v) (lookup_ok (plain s) s.slots o i v g.slots e).belong;
  values_small = λ o i v e. (lookup_ok (plain s) s.slots o i v g.slots e).small;
  values_kept = λ o i v e. (lookup_ok (plain s) s.slots o i v g.slots e).numbers_kept_lem;
  values_formed = λ o i v e. (lookup_ok (plain s) s.slots o i v g.slots e).formed;
}

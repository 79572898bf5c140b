-- Each C, A, O, V, D and R line that is taken keeps a sheet good. Assumes nothing.
use mathlib.Core.Path.{◌≡◌, refl, sym, ap, ◌∙◌, subst}
use mathlib.Core.Bool.{false, ◌&&◌}
use mathlib.Core.Option.{Option, none, some, some-injective}
use mathlib.Core.List.{List, []}
use Prim.Native.Nat.{ℕ, ◌<◌, ◌≤◌}
use native.Mathlib.Omega.{arith}
use lib.ListN.{length, get_or}
use lib.Dec.{T, eqb→eq, ltb, ltb→lt, leb, leb→le}
use Rattle.laws.specs.Lists.{Each, each_nil, each-cons}
use Rattle.laws.proofs.Tests.{and_l, and_r, All?, all_none, all_some}
use Rattle.laws.proofs.Lists.{each_imp, each_append}
use Rattle.ocl.specs.Types.{Ty}
use Rattle.ocl.specs.Values.{Value, size, every_part}
use Rattle.ocl.specs.Model.{is_a}
use Rattle.ocl.specs.Forms.{Definition}
use Rattle.sheet.specs.Lines.{Line, class_line, row_line, object_line, value_line, definition_line, rule_line}
use Rattle.sheet.specs.Texts.{brackets_within, is_sentence, on_text}
use Rattle.sheet.specs.Sheet.{Rule, Current, Sheet, no_row, model_of, added}
use Rattle.sheet.specs.Limits.{is_class, is_definition, part_within, value_within, within_limits}
use Rattle.sheet.specs.Refusals.{block_of, numbered, in_order, after_slots, ordered, parent_smaller, parts_known, calls_smaller, calls_known, suits, tree_holds}
use Rattle.sheet.proofs.Belonging.{belongs_same}
use Rattle.sheet.proofs.Parents.{parent_more}
use Rattle.sheet.proofs.Ascending.{ascending_more}
use Rattle.sheet.proofs.NumbersKept.{value_kept}
use Rattle.sheet.proofs.TypeFits.{Fits, within_fits}
use Rattle.sheet.proofs.Formed.{value_formed}
use Rattle.sheet.proofs.Forest.{forest_empty}
use Rattle.sheet.proofs.Bodies.{bodies_below}
use Rattle.sheet.proofs.Good.{plain, SlotOk, OpenOk, one_open, Blocks, sheet_numbers, Good}

-- what a line has met when it is added
pub record Met (s : Sheet) (l : Line) : Type 0 where
  pub brackets : T (on_text l brackets_within)
  pub sentence : T (on_text l is_sentence)
  pub limits : T (within_limits s l)
  pub order : T (in_order s l)
  pub parts : T (parts_known s l)
  pub smaller : T (calls_smaller s l)
  pub known : T (calls_known s l)
  pub suit : T (suits s l)
  pub tree : T (tree_holds s l)

pub block_le : (s : Sheet) (l : Line) → Met s l → s.block ≤ block_of l
unfolding in_order
block_le s l m = leb→le s.block (block_of l) (and_l (leb s.block (block_of l)) _ m.order)

pub met_numbered : (s : Sheet) (l : Line) → Met s l → T (numbered s l)
unfolding in_order
met_numbered s l m = and_r (leb s.block (block_of l)) _ m.order

-- no value yet, so that the classes, rows and objects may grow
no_slot : (s : Sheet) (l : Line) → Good s → Met s l → block_of l < 3 → s.slots ≡ []
no_slot s l g m h = g.early (let k = block_le s l m in omega arith)

each_none : {A : Type 0} {P : A → Type 0} {l : List A} → l ≡ [] → Each P l
each_none {P} e = subst (Each P) (sym e) each_nil

-- a line of an earlier block than R's, which opens nothing
blocks_early : (s : Sheet) (l : Line) (b : ℕ) → Good s → Met s l → block_of l ≡ b → b < 5 → Blocks b s.rules s.current
blocks_early s l b g m e h = let k = block_le s l m in record {
  late = λ i. g.blocks.late (omega arith);
  in_rule = λ c p q. absurd (let i = g.blocks.in_rule c p q in omega arith);
  in_definition_lem = λ c t p q. h;
}

pub good_class : (s : Sheet) (k n : ℕ) (p : Option ℕ) → Good s → Met s (class_line n p) → Good (added s k (class_line n p))
unfolding added sheet_numbers block_of numbered parts_known
good_class s k n p g m = let e = no_slot s (class_line n p) g m (omega arith) in record {
  parents = parent_more s.parents p g.parents (subst (λ i. T (parent_smaller i p)) (eqb→eq n (length s.parents) (met_numbered s (class_line n p) m)) m.parts);
  rows = g.rows;
  early = λ h. e;
  slots = each_none e;
  ascending = g.ascending;
  definitions = g.definitions;
  rules = g.rules;
  distinct = g.distinct;
  earlier = g.earlier;
  few = g.few;
  blocks = blocks_early s (class_line n p) 0 g m refl (omega arith);
  current = g.current;
  room = g.room;
}

pub good_row : (s : Sheet) (k n c name : ℕ) (t : Ty) → Good s → Met s (row_line n c name t) → Good (added s k (row_line n c name t))
unfolding added sheet_numbers block_of within_limits
good_row s k n c name t g m = let e = no_slot s (row_line n c name t) g m (omega arith) in record {
  parents = g.parents;
  rows = each_append g.rows (each-cons (within_fits t (and_r (ltb n 64 && is_class c && ltb name 256) _ m.limits)) each_nil);
  early = λ h. e;
  slots = each_none e;
  ascending = g.ascending;
  definitions = g.definitions;
  rules = g.rules;
  distinct = g.distinct;
  earlier = g.earlier;
  few = g.few;
  blocks = blocks_early s (row_line n c name t) 1 g m refl (omega arith);
  current = g.current;
  room = g.room;
}

pub good_object : (s : Sheet) (k n c : ℕ) → Good s → Met s (object_line n c) → Good (added s k (object_line n c))
unfolding added sheet_numbers block_of
good_object s k n c g m = let e = no_slot s (object_line n c) g m (omega arith) in record {
  parents = g.parents;
  rows = g.rows;
  early = λ h. e;
  slots = each_none e;
  ascending = g.ascending;
  definitions = g.definitions;
  rules = g.rules;
  distinct = g.distinct;
  earlier = g.earlier;
  few = g.few;
  blocks = blocks_early s (object_line n c) 2 g m refl (omega arith);
  current = g.current;
  room = g.room;
}

-- the value of a V line belongs to its row's type, is small and is formed
pub slot_ok : (s : Sheet) (o a : ℕ) (v : Value) → Met s (value_line o a v) → SlotOk (plain s) (record { object = o; row = a; value = v })
unfolding plain model_of suits within_limits value_within numbered
slot_ok s o a v m =
    let x = and_l (ltb o 96 && ltb a 64 && value_within v) _ (and_l (ltb o 96 && ltb a 64 && value_within v && ltb (length s.slots) 1024) _ m.limits) in
    let y = and_l (every_part part_within v && leb (size v) 128) _ (and_r (ltb o 96 && ltb a 64) _ x) in
    record {
      belong = subst T (belongs_same (model_of s) (plain s) refl refl (get_or s.rows a no_row).type v) (and_r (is_a (model_of s) o _) _ m.suit);
      small = leb→le (size v) 128 (and_r (every_part part_within v) _ y);
      numbers_kept_lem = value_kept v (and_l (every_part part_within v) _ y);
      formed = value_formed v (and_r (after_slots s.slots o a) (ordered v) (met_numbered s (value_line o a v) m));
      low_row = ltb→lt a 64 (and_r (ltb o 96) (ltb a 64) (and_l (ltb o 96 && ltb a 64) (value_within v) x));
    }

pub good_value : (s : Sheet) (k o a : ℕ) (v : Value) → Good s → Met s (value_line o a v) → Good (added s k (value_line o a v))
unfolding added sheet_numbers block_of plain numbered
good_value s k o a v g m = record {
  parents = g.parents;
  rows = g.rows;
  early = λ h. absurd (omega arith);
  slots = each_append g.slots (each-cons (slot_ok s o a v m) each_nil);
  ascending = ascending_more s.slots (record { object = o; row = a; value = v }) g.ascending (and_l (after_slots s.slots o a) (ordered v) (met_numbered s (value_line o a v) m));
  definitions = g.definitions;
  rules = g.rules;
  distinct = g.distinct;
  earlier = g.earlier;
  few = g.few;
  blocks = blocks_early s (value_line o a v) 3 g m refl (omega arith);
  current = g.current;
  room = g.room;
}

-- ---- a definition or rule begins

-- every node so far is an ended body's
all_earlier : (s : Sheet) → Good s → Each (λ p. p < length s.lines) (sheet_numbers s)
unfolding sheet_numbers
all_earlier s g =
    each_append (bodies_below (λ (d : Definition). d.body) (each_imp (λ d h. h.body.on_sheet) g.definitions)) (bodies_below (λ (r : Rule). r.body) (each_imp (λ r h. h.on_sheet) g.rules))

abbrev beginning : ℕ → Option Ty → ℕ → Current
beginning c t n = record { context = c; result = t; text = false; first = n; trees = []; used = [] }

begin_ok : (ds : List Definition) (n c : ℕ) {t : Option Ty} → T (is_class c) → All? (Fits 3) t → OpenOk ds n (some (beginning c t n))
begin_ok ds n c h t = one_open (record { context = h; result = t; forest = forest_empty n; count = omega arith; operands = each_nil; numbers_kept_lem = each_nil; names = each_nil; called = each_nil })

begin_earlier : (s : Sheet) → Good s → {c : ℕ} {t : Option Ty} (d : Current) → some (beginning c t (length s.lines)) ≡ some d → Each (λ p. p < d.first) (sheet_numbers s)
begin_earlier s g d e = subst (λ i. Each (λ p. p < i) (sheet_numbers s)) (ap (λ (x : Current). x.first) (some-injective _ _ e)) (all_earlier s g)

result_of : {c n : ℕ} {t : Option Ty} {d : Current} → some (beginning c t n) ≡ some d → t ≡ d.result
result_of e = ap (λ (x : Current). x.result) (some-injective _ _ e)

typed_none : {A : Type 0} {t : Ty} → some t ≡ none → A
typed_none e = absurd (let y : ◌≡◌ {A = ℕ} 0 1 = cc in omega arith)

pub good_definition : (s : Sheet) (k n c : ℕ) (t : Ty) → Good s → Met s (definition_line n c t) → Good (added s k (definition_line n c t))
unfolding added sheet_numbers plain block_of within_limits is_definition numbered
good_definition s k n c t g m = let x = and_l (is_definition n && is_class c) _ m.limits in record {
  parents = g.parents;
  rows = g.rows;
  early = λ h. absurd (omega arith);
  slots = g.slots;
  ascending = g.ascending;
  definitions = g.definitions;
  rules = g.rules;
  distinct = g.distinct;
  earlier = begin_earlier s g;
  few = g.few;
  blocks = record {
    late = λ h. g.blocks.late (let k = block_le s (definition_line n c t) m in omega arith);
    in_rule = λ d e q. typed_none (result_of e ∙ q);
    in_definition_lem = λ d u e q. omega arith;
  };
  current = begin_ok s.definitions (length s.lines) c (and_r (is_definition n) _ x) (all_some (within_fits t (and_r (is_definition n && is_class c) _ m.limits)));
  room = λ d e. record {
    for_rule = λ q. typed_none (result_of e ∙ q);
    for_definition = λ u q. omega (arith, eqb→eq n (length s.definitions) (met_numbered s (definition_line n c t) m), ltb→lt n 32 (and_l (is_definition n) _ x));
  };
}

pub good_rule : (s : Sheet) (k n c : ℕ) → Good s → Met s (rule_line n c) → Good (added s k (rule_line n c))
unfolding added sheet_numbers plain within_limits numbered
good_rule s k n c g m = record {
  parents = g.parents;
  rows = g.rows;
  early = λ h. absurd (omega arith);
  slots = g.slots;
  ascending = g.ascending;
  definitions = g.definitions;
  rules = g.rules;
  distinct = g.distinct;
  earlier = begin_earlier s g;
  few = g.few;
  blocks = record { late = λ h. absurd (omega arith); in_rule = λ d e q. omega arith; in_definition_lem = λ d t e q. typed_none (sym (result_of e ∙ q)) };
  current = begin_ok s.definitions (length s.lines) c (and_r (ltb n 64) _ m.limits) all_none;
  room = λ d e. record {
    for_rule = λ q. omega (arith, eqb→eq n (length s.rules) (met_numbered s (rule_line n c) m), ltb→lt n 64 (and_l (ltb n 64) _ m.limits));
    for_definition = λ t q. typed_none (sym (result_of e ∙ q));
  };
}

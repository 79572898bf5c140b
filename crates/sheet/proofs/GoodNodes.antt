-- Each N line that is taken keeps a sheet good. Assumes nothing.
use mathlib.Core.Path.{◌≡◌, refl, sym, ap, ◌∙◌, subst}
use mathlib.Core.Bool.{◌&&◌}
use mathlib.Core.Option.{Option, none, some, some-injective}
use mathlib.Core.List.{List, [], ◌∷◌, ◌++◌}
use Prim.Native.Nat.{ℕ, suc, ◌+◌, ◌<◌, ◌≤◌}
use native.Mathlib.Omega.{arith}
use lib.ListN.{length, length-append}
use lib.Dec.{T}
use Rattle.laws.specs.Choice.{on_some}
use Rattle.laws.specs.Lists.{all_of, Each, each_nil, each-cons}
use Rattle.laws.proofs.Tests.{and_l, and_r}
use Rattle.laws.proofs.Lists.{length_more, each_imp, each_append}
use Rattle.ocl.specs.Forms.{Expr, node, Definition, calls}
use Rattle.ocl.specs.Laws.{literals}
use Rattle.ocl.proofs.Answered.{Named}
use Rattle.sheet.specs.Lines.{node_line, Shape}
use Rattle.sheet.specs.Sheet.{Current, Sheet, operands_of, grow, tree_of, definition_of, with_node, added}
use Rattle.sheet.specs.Limits.{is_node, form_within, within_limits}
use Rattle.sheet.specs.Refusals.{call_below, calls_known, fresh, operands_fresh, tree_holds}
use Rattle.sheet.proofs.NumbersKept.{tree_kept, definition_kept, grown_kept}
use Rattle.sheet.proofs.TypeFits.{tree_names, definition_fits, grown_names}
use Rattle.sheet.proofs.Forest.{forest_more, fresh_each}
use Rattle.sheet.proofs.Bodies.{tree_called, grown_called}
use Rattle.sheet.proofs.Good.{plain, BodyOk, DefinitionOk, CurrentOk, OpenOk, none_open, one_open, Blocks, Room, sheet_numbers, Good}
use Rattle.sheet.proofs.GoodLines.{Met}

-- ---- on a sheet with more nodes

body_more : {ds : List Definition} {n m c : ℕ} {e : Expr} → n ≤ m → BodyOk ds n c e → BodyOk ds m c e
body_more l x = record { context = x.context; on_sheet = each_imp (λ p k. omega arith) x.on_sheet; shallow = x.shallow; numbers_kept_lem = x.numbers_kept_lem; names = x.names; called = x.called }

pub definitions_more : {ds es : List Definition} {n m : ℕ} → n ≤ m → Each (DefinitionOk ds n) es → Each (DefinitionOk ds m) es
definitions_more l h = each_imp (λ d y. record { type = y.type; body = body_more l y.body }) h

-- one was open already
record WasOpen (f : Current → Current) (o : Option Current) (c : Current) : Type 0 where
  before : Current
  is : o ≡ some before
  more : f before ≡ c

was_open : (f : Current → Current) (o : Option Current) (c : Current) → on_some o (λ d. some (f d)) ≡ some c → WasOpen f o c
unfolding on_some
was_open f none c e = absurd (let z : ◌≡◌ {A = ℕ} 0 1 = cc in omega arith)
was_open f (some d) c e = record { before = d; is = refl; more = some-injective _ _ e }

-- what keeps the first node and the type of what is open
pub record Keeps (f : Current → Current) : Type 0 where
  pub same_first : (c : Current) → (f c).first ≡ c.first
  pub same_result : (c : Current) → (f c).result ≡ c.result

module _ (s : Sheet) (f : Current → Current) (g : Good s) (w : Keeps f) where
  result_before : {c : Current} (d : WasOpen f s.current c) → d.before.result ≡ c.result
  result_before d = sym (w.same_result d.before) ∙ ap (λ (y : Current). y.result) d.more

  blocks_more : Blocks s.block s.rules (on_some s.current (λ c. some (f c)))
  blocks_more = record {
    late = g.blocks.late;
    in_rule = λ c e q. let d = was_open f s.current c e in g.blocks.in_rule d.before d.is (result_before d ∙ q);
    in_definition_lem = λ c t e q. let d = was_open f s.current c e in g.blocks.in_definition_lem d.before t d.is (result_before d ∙ q);
  }

  room_more : (c : Current) → on_some s.current (λ d. some (f d)) ≡ some c → Room s.definitions s.rules c
  room_more c e = let d = was_open f s.current c e in let r = g.room d.before d.is in
      record { for_rule = λ q. r.for_rule (result_before d ∙ q); for_definition = λ t q. r.for_definition t (result_before d ∙ q) }

  -- nodes more for what is open, at the lines ks
  pub good_more : (ks : List ℕ) → OpenOk s.definitions (length s.lines + length ks) (on_some s.current (λ c. some (f c)))
      → Good (record { block = s.block; parents = s.parents; rows = s.rows; objects = s.objects; slots = s.slots; lines = s.lines ++ ks; definitions = s.definitions; rules = s.rules; current = on_some s.current (λ c. some (f c)) })
  unfolding sheet_numbers plain
  good_more ks h = let e = length-append s.lines ks in record {
    parents = g.parents;
    rows = g.rows;
    early = g.early;
    slots = g.slots;
    ascending = g.ascending;
    definitions = definitions_more (omega arith) g.definitions;
    rules = each_imp (λ r. body_more (omega arith)) g.rules;
    distinct = g.distinct;
    earlier = λ c q. let d = was_open f s.current c q in subst (λ i. Each (λ p. p < i) (sheet_numbers s)) (sym (w.same_first d.before) ∙ ap (λ (y : Current). y.first) d.more) (g.earlier d.before d.is);
    few = g.few;
    blocks = blocks_more;
    current = subst (λ i. OpenOk s.definitions i (on_some s.current (λ c. some (f c)))) (sym e) h;
    room = room_more;
  }

-- ---- one node

pub node_ok : (ds : List Definition) (n : ℕ) (x : Shape) (c : Current) → Each (DefinitionOk ds n) ds → CurrentOk ds n c → T (form_within x) → T (call_below (length ds) x) → T (fresh (length c.trees) c.used (operands_of x))
    → CurrentOk ds (suc n) (with_node ds c x)
unfolding with_node literals calls Named
node_ok ds n x c k r w b h =
    let f = tree_of c.trees in
    let e = length_more c.trees (node (c.first + length c.trees) (grow f (definition_of ds) x)) in
    record {
      context = r.context;
      result = r.result;
      forest = forest_more c.first c.trees c.used (definition_of ds) x r.forest h;
      count = omega (arith, r.count, e);
      operands = each_append (each_imp (λ a l. omega arith) r.operands) (each_imp (λ a l. let z = l.smaller in omega arith) (fresh_each (length c.trees) c.used (operands_of x) h));
      numbers_kept_lem = each_append r.numbers_kept_lem (each-cons (grown_kept f (tree_kept r.numbers_kept_lem) (definition_of ds) (definition_kept (each_imp (λ d y. y.body.numbers_kept_lem) k)) x w) each_nil);
      names = each_append r.names (each-cons (grown_names f (tree_names r.names) (definition_of ds) (definition_fits (each_imp (λ d y. y.type) k)) x w) each_nil);
      called = each_append r.called (each-cons (grown_called f (tree_called r.called) (each_imp (λ d y. y.body.called) k) x b) each_nil);
    }

open_node : (ds : List Definition) (n : ℕ) (x : Shape) {o : Option Current} → Each (DefinitionOk ds n) ds → OpenOk ds n o → T (form_within x) → T (call_below (length ds) x) → T (operands_fresh o x)
    → OpenOk ds (n + 1) (on_some o (λ c. some (with_node ds c x)))
unfolding on_some operands_fresh
open_node ds n x k none_open w b h = none_open
open_node ds n x k (one_open {c} r) w b h = subst (λ i. OpenOk ds i (some (with_node ds c x))) (let z : suc n ≡ n + 1 = omega arith in z) (one_open (node_ok ds n x c k r w b h))

pub good_node : (s : Sheet) (k n : ℕ) (x : Shape) → Good s → Met s (node_line n x) → Good (added s k (node_line n x))
unfolding added tree_holds within_limits calls_known with_node
good_node s k n x g m =
    let w = and_r (is_node n) _ (and_l (is_node n && form_within x) _ (and_l (is_node n && form_within x && all_of is_node (operands_of x)) _ m.limits)) in
    good_more s (λ c. with_node s.definitions c x) g (record { same_first = λ c. refl; same_result = λ c. refl }) (k ∷ [])
    (open_node s.definitions (length s.lines) x g.definitions g.current w m.known m.tree)

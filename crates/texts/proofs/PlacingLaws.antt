-- A text's nodes, placed one after the other: each is taken, and together they are what the text adds. Assumes nothing.
use mathlib.Core.Path.{◌≡◌, refl, sym, ap, ◌∙◌, subst}
use mathlib.Core.Bool.{Bool, true}
use mathlib.Core.Option.{Option, none, some}
use mathlib.Core.List.{List, [], ◌∷◌, ◌++◌, append-nil, append_assoc}
use Prim.Native.Nat.{ℕ, suc, ◌+◌, ◌<◌, ◌≤◌}
use native.Mathlib.Omega.{arith}
use lib.ListN.{length, get_or, take, drop, replicate, replicate-append-replicate}
use lib.Seq.{take-suc, take_all, drop-cons}
use lib.Dec.{T}
use Rattle.ocl.specs.Types.{Ty}
use Rattle.ocl.specs.Forms.{undef, Definition}
use Rattle.sheet.specs.Text.{Bytes}
use Rattle.sheet.specs.Lines.{Shape, leaf, node_line, text_line}
use Rattle.sheet.specs.Texts.{on_text, nodes_of}
use Rattle.sheet.specs.Sheet.{Current, Sheet, with_node, with_nodes, as_text, added}
use Rattle.sheet.specs.Reading.{Step, taken, must, step_line, step_spelled}
use Rattle.sheet.proofs.NodesRead.{with_open, is_open, Ready, node_taken, ready_later, one_more}
use Rattle.sheet.proofs.AsNodeLines.{in_rule, no_node, may_be_lem, text_ready, text_added}
use Rattle.tables.specs.declared.Counts.{Counts}
use Rattle.tables.specs.Layout.{open_code, HoldsCurrent, HoldsOpen, closed, opened, Holds, Fine, Kept, Moved, moved_next, moved_refused}
use Rattle.tables.proofs.Tables.{kept_refl, kept_then}
use Rattle.tables.proofs.Entries.{tables_same, definitions_same}
use Rattle.shapes.specs.declared.Parsed.{Parsed}
use Rattle.shapes.specs.Fields.{cut}
use Rattle.trees.specs.Rules.{Placed}
use Rattle.emission.specs.Nodes.{parsed_in, NodeIs, HoldsNodes}
use Rattle.texts.specs.Placing.{HeldNodes, text_counts, Passed, TextPlaced}
use Rattle.std.specs.Prelude.{Result, Ok, Err}
use Rattle.memory.specs.declared.refusals.Refusal.{Refusal}

-- ---- a node that waits, as crates/trees wants it

pub waits : {line nodes : ℕ} {w2 : List ℕ} {p : Parsed} (i : ℕ) → HeldNodes line nodes w2 → i < nodes → p ≡ parsed_in line w2 i → (length p.words ≡ 8) × (p.count ≤ 4)
unfolding parsed_in
waits i h l e = rw e (refl, (h.holds.at i (omega (arith, h.size))).few)

-- ---- on the way: the sheet with the first i nodes

pub record Along (s : Sheet) (line i : ℕ) (xs : List Shape) (st : Counts) (w0 w1 : List ℕ) : Type 0 where
  pub rule : Current
  pub is : s.current ≡ some rule
  pub lines : List ℕ
  pub so_many : lines ≡ s.lines ++ replicate i line
  pub body : Current
  pub so_far : body ≡ with_nodes s.definitions rule (take i xs)
  pub number : length body.trees ≡ i
  pub ready : Ready s (length lines) body (drop i xs)
  pub holds : Holds st w0 w1 (with_open s lines body)

pub passed_true : {b : Bool} → b ≡ true → T b
passed_true e = rw e tt

pub held_open : {st : Counts} {w1 : List ℕ} {n : ℕ} {o : Option Current} (c : Current) → HoldsOpen st w1 n o → o ≡ some c → HoldsCurrent st w1 n c
held_open c (closed z) e = absurd (let q : ◌≡◌ {A = ℕ} 0 1 = cc in omega arith)
held_open {st} {w1} {n} c (opened {c = d} h) e = let q : d ≡ c = cc in subst (HoldsCurrent st w1 n) q h

along_start : (s : Sheet) (x : Bytes) {st : Counts} {w0 w1 : List ℕ} (line : ℕ) → Holds st w0 w1 s → Passed s x → Along s line 0 (nodes_of x) st w0 w1
unfolding with_nodes
along_start s x {st} {w0} {w1} line h q =
    let r = in_rule s.current (may_be_lem s x (passed_true q.order)) in
    let c = held_open r.rule h.current r.is in
    record {
      rule = r.rule;
      is = r.is;
      lines = s.lines;
      so_many = sym (append-nil s.lines);
      body = r.rule;
      so_far = refl;
      number = no_node r.rule r.may;
      ready = text_ready s x r c.used (passed_true q.limits) (passed_true q.order) (passed_true q.parts) (passed_true q.calls);
      holds = subst (Holds st w0 w1) (is_open s r.rule r.is) h;
    }

nodes_more : (ds : List Definition) (c : Current) (ys : List Shape) (x : Shape) → with_nodes ds c (ys ++ (x ∷ [])) ≡ with_node ds (with_nodes ds c ys) x
unfolding with_nodes
nodes_more ds c [] x = refl
nodes_more ds c (y ∷ ys) x = nodes_more ds (with_node ds c y) ys x

module _ {s : Sheet} {line i : ℕ} {xs : List Shape} {st : Counts} {w0 w1 : List ℕ} (a : Along s line i xs st w0 w1) (l : i < length xs) where
  abbrev new : Shape
  new = get_or xs i (leaf undef)

  ready_new : Ready s (length a.lines) a.body (new ∷ drop (suc i) xs)
  ready_new = subst (Ready s (length a.lines) a.body) (drop-cons xs i (leaf undef) l) a.ready

  next_taken : step_line (with_open s a.lines a.body) line (node_line i new) ≡ taken (with_open s (a.lines ++ (line ∷ [])) (with_node s.definitions a.body new))
  unfolding step_spelled on_text must
  next_taken = subst (λ n. step_line (with_open s a.lines a.body) line (node_line n new) ≡ taken (with_open s (a.lines ++ (line ∷ [])) (with_node s.definitions a.body new))) a.number
      (node_taken s a.lines a.body new (drop (suc i) xs) ready_new line)

  along_next : {su : Counts} {v1 : List ℕ} → Holds su w0 v1 (with_open s (a.lines ++ (line ∷ [])) (with_node s.definitions a.body new)) → Along s line (i + 1) xs su w0 v1
  along_next h = record {
    rule = a.rule;
    is = a.is;
    lines = a.lines ++ (line ∷ []);
    so_many = ap (λ (ks : List ℕ). ks ++ (line ∷ [])) a.so_many ∙ append_assoc s.lines (replicate i line) (line ∷ []) ∙ ap (λ (ks : List ℕ). s.lines ++ ks) (replicate-append-replicate i 1 line);
    body = with_node s.definitions a.body new;
    so_far = ap (λ (c : Current). with_node s.definitions c new) a.so_far ∙ sym (nodes_more s.definitions a.rule (take i xs) new)
        ∙ ap (with_nodes s.definitions a.rule) (sym (take-suc xs i (leaf undef) l) ∙ ap (λ (n : ℕ). take n xs) (let z : suc i ≡ i + 1 = omega arith in z));
    number = let e = one_more s.definitions a.body new in omega (arith, a.number);
    ready = subst (λ n. Ready s (length (a.lines ++ (line ∷ []))) (with_node s.definitions a.body new) (drop n xs)) (let z : suc i ≡ i + 1 = omega arith in z)
        (ready_later s a.lines a.body new (drop (suc i) xs) ready_new line);
    holds = h;
  }

-- ---- at the end: the same nodes, given by an X line

rule_code : (o : Option Ty) → o ≡ none → 3 ≡ open_code o true
unfolding open_code
rule_code none e = refl
rule_code (some t) e = absurd (let q : ◌≡◌ {A = ℕ} 0 1 = cc in omega arith)

text_fine : {st : Counts} → Fine st → Fine (text_counts st)
unfolding text_counts
text_fine f = record {
  classes = f.classes;
  rows = f.rows;
  objects = f.objects;
  slots = f.slots;
  cells = f.cells;
  nodes = f.nodes;
  definitions = f.definitions;
  rules = f.rules;
  first = f.first;
  context = f.context;
}

text_holds : (s : Sheet) {ls : List ℕ} {c : Current} {st : Counts} {w0 w1 : List ℕ} → c.result ≡ none → Holds st w0 w1 (with_open s ls c) → Holds (text_counts st) w0 w1 (with_open s ls (as_text c))
unfolding text_counts as_text
text_holds s {ls} {c} {st} {w0} {w1} e h = record {
  counted = record {
    block = h.counted.block;
    classes = h.counted.classes;
    rows = h.counted.rows;
    objects = h.counted.objects;
    slots = h.counted.slots;
    cells = h.counted.cells;
    nodes = h.counted.nodes;
    definitions = h.counted.definitions;
    rules = h.counted.rules;
  };
  tables = tables_same refl refl refl refl refl h.tables;
  definitions = definitions_same refl refl h.definitions;
  rules = record { bodies = h.rules.bodies; roots = h.rules.roots; lines = h.rules.lines };
  current = opened (by (held_open c h.current refl));
}
  where
    by : HoldsCurrent st w1 (length ls) c → HoldsCurrent (text_counts st) w1 (length ls) (as_text c)
    by k = record {
      is_open = rule_code c.result e;
      of_rule = λ t. e;
      context = k.context;
      result = k.result;
      first = k.first;
      count = k.count;
      trees = k.trees;
      depths = k.depths;
      used = k.used;
    }

along_end : {s : Sheet} {line i : ℕ} (x : Bytes) {st : Counts} {w0 w1 : List ℕ} → Along s line i (nodes_of x) st w0 w1 → i ≡ length (nodes_of x) → Holds (text_counts st) w0 w1 (added s line (text_line x))
along_end {s} {line} {i} x {st} {w0} {w1} a e =
    let d : a.body ≡ with_nodes s.definitions a.rule (nodes_of x) = a.so_far ∙ ap (with_nodes s.definitions a.rule) (take_all i (nodes_of x) (omega arith)) in
    let ls : a.lines ≡ s.lines ++ replicate (length (nodes_of x)) line = a.so_many ∙ ap (λ (n : ℕ). s.lines ++ replicate n line) e in
    subst (Holds (text_counts st) w0 w1) (ap (λ (c : Current). with_open s a.lines (as_text c)) d ∙ ap (λ (ks : List ℕ). with_open s ks (as_text (with_nodes s.definitions a.rule (nodes_of x)))) ls ∙ sym (text_added s line x a.rule a.is))
    (text_holds s a.ready.rule a.holds)

-- ---- the loop

pub record Placing (st : Counts) (line nodes : ℕ) (w0 w1 w2 : List ℕ) (su : Counts) (i : ℕ) (v1 : List ℕ) : Type 0 where
  pub is : (s : Sheet) (x : Bytes) → length (nodes_of x) ≡ nodes → HoldsNodes line (nodes_of x) w2 → Holds st w0 w1 s → Passed s x → Along s line i (nodes_of x) su w0 v1
  pub fine : Fine su
  pub kept : Kept w1 v1

pub placing_start : (line nodes : ℕ) (w0 w1 w2 : List ℕ) {st : Counts} → Fine st → Placing st line nodes w0 w1 w2 st 0 w1
placing_start line nodes w0 w1 w2 f = record { is = λ s x e z h q. along_start s x line h q; fine = f; kept = kept_refl w1 }

went_on : {w0 v1 : List ℕ} {r : Result Counts Refusal} {su : Counts} {x : Step} {t : Sheet} → Moved w0 v1 r x → r ≡ Ok su → x ≡ taken t → Holds su w0 v1 t
went_on {w0} {v1} {su = su} {t = t} (moved_next {st = sv} {s = s} f h) d e =
    let p : sv ≡ su = cc in
    let q : s ≡ t = cc in
    subst (λ y. Holds y w0 v1 t) p (subst (Holds sv w0 v1) q h)
went_on moved_refused d e = absurd (let q : ◌≡◌ {A = ℕ} 0 1 = cc in omega arith)

not_stopped : {w0 v1 : List ℕ} {r : Result Counts Refusal} {n : Refusal} {x : Step} {t : Sheet} → Moved w0 v1 r x → r ≡ Err n → x ≡ taken t → ⊥
not_stopped (moved_next f h) d e = let q : ◌≡◌ {A = ℕ} 0 1 = cc in omega arith
not_stopped moved_refused d e = let q : ◌≡◌ {A = ℕ} 0 1 = cc in omega arith

text_moved : {w0 v1 : List ℕ} {su sv : Counts} {t : Sheet} → sv ≡ su → Fine su → Holds su w0 v1 t → Moved w0 v1 (Ok sv) (taken t)
text_moved {w0} {v1} {t = t} e f h = subst (λ y. Moved w0 v1 (Ok y) (taken t)) (sym e) (moved_next f h)

module _ {st su : Counts} {line nodes i : ℕ} {w0 w1 w2 v1 u1 : List ℕ} {p : Parsed} {r : Result Counts Refusal} (so : Placing st line nodes w0 w1 w2 su i v1) (l : i < nodes) (low : nodes ≤ 768)
    (told : p ≡ parsed_in line w2 i) (done : Placed su i p r w0 v1 u1) where
  module _ (s : Sheet) (x : Bytes) (e : length (nodes_of x) ≡ nodes) (z : HoldsNodes line (nodes_of x) w2) (a : Along s line i (nodes_of x) su w0 v1) where
    here : i < length (nodes_of x)
    here = omega arith

    node_moved : Moved w0 u1 r (step_line (with_open s a.lines a.body) line (node_line i (get_or (nodes_of x) i (leaf undef))))
    node_moved =
        done.is line (with_open s a.lines a.body) i (get_or (nodes_of x) i (leaf undef)) (let q : i ≡ cut i = omega arith in q)
        (subst (λ y. NodeIs line (get_or (nodes_of x) i (leaf undef)) y) (sym told) (z.at i here)).stands a.holds

  pub placing_next : {sv : Counts} → r ≡ Ok sv → Placing st line nodes w0 w1 w2 sv (i + 1) u1
  placing_next {sv} d = record {
    is = λ s x e z h q.
        let a = so.is s x e z h q in
        along_next a (here s x e z a) (went_on (node_moved s x e z a) d (next_taken a (here s x e z a)));
    fine = done.fine sv d;
    kept = kept_then so.kept done.kept;
  }

  pub placing_stop : {m : Refusal} → r ≡ Err m → TextPlaced st line nodes (Err m) w0 w1 w2 u1
  placing_stop d = record {
    is = λ s x e z h q.
        let a = so.is s x e z h q in
        absurd (not_stopped (node_moved s x e z a) d (next_taken a (here s x e z a)));
    kept = kept_then so.kept done.kept;
  }

pub placing_end : {st su sv : Counts} {line nodes i : ℕ} {w0 w1 w2 v1 : List ℕ} → Placing st line nodes w0 w1 w2 su i v1 → i ≤ nodes → nodes ≤ i → sv ≡ text_counts su → TextPlaced st line nodes (Ok sv) w0 w1 w2 v1
placing_end so l m d = record {
  is = λ s x e z h q. text_moved d (text_fine so.fine) (along_end x (so.is s x e z h q) (omega arith));
  kept = so.kept;
}

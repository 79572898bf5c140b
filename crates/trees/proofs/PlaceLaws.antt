-- A node line's tests, the code's and the definition's, and its refusals. Assumes nothing.
use mathlib.Core.Path.{◌≡◌, refl, sym, ap, ◌∙◌}
use mathlib.Core.Bool.{Bool, true, false, not, ◌&&◌}
use mathlib.Core.Option.{Option, none, some, none-ne-some}
use mathlib.Core.List.{List, [], ◌∷◌, map}
use Prim.Native.Nat.{ℕ, ◌-◌, ◌<◌, ◌≤◌}
use native.Mathlib.Omega.{arith}
use borrow.Author.Tests.{eq-eqb, ne_eqb, eqb-true, eqb-false, lt-ltb, ltb-true, le-leb, lt-leb, not-true, not-false}
use lib.Dec.{eqb, leb, ltb}
use lib.ListN.{length}
use Rattle.laws.specs.Lists.{all_of}
use Rattle.laws.proofs.Bounds.{cut_lt}
use Rattle.laws.proofs.Tests.{and-true}
use Rattle.ocl.specs.Types.{Ty}
use Rattle.sheet.specs.Lines.{Shape, node_line}
use Rattle.sheet.specs.Sheet.{Current, Sheet, operands_of}
use Rattle.sheet.specs.Limits.{is_node, form_within, within_limits}
use Rattle.sheet.specs.Refusals.{two_variables, form_known, block_of, next_node, numbered, in_order, parts_known, call_below, has_type, in_definition, calls_smaller, calls_known}
use Rattle.nodes.specs.Nodes.{shape_words}
use Rattle.tables.specs.Layout.{open_code, Holds, HoldsOpen, closed, opened, Fine, moved_refused}
use Rattle.tables.specs.declared.Counts.{Counts}
use Rattle.tables.proofs.Tables.{kept_refl}
use Rattle.tables.proofs.Steps.{over_limits, out_of_order, unknown_part, calls_up, calls_none}
use Rattle.shapes.specs.declared.Parsed.{Parsed}
use Rattle.shapes.specs.Fields.{cut}
use Rattle.shapes.specs.Forms.{operands_at, StandsFor}
use Rattle.shapes.specs.Calls.{called_by, by_number}
use Rattle.trees.specs.Calls.{calls_in, called_at, resolved_in}
use Rattle.trees.specs.Rules.{node_limits, node_order, Placed}
use Rattle.shapes.proofs.FormLaws.{nodes_small}
use Rattle.trees.proofs.CallLaws.{calls_shape, resolved_shape}
use Rattle.std.specs.Prelude.{Ok, Err}
use Rattle.memory.specs.declared.refusals.Refusal.{Refusal}
use Rattle.memory.specs.declared.refusals.Refusal.TheVariants.{CallUpward, OutOfRow, OverMeasure, UnknownDefinition, UnknownPart}

-- ---- what the code's tests answer

module _ (st : Counts) (n : ℕ) (p : Parsed) where
  module _ {b : Bool} (told : b ≡ all_of is_node (operands_at p.words p.count)) where
    pub limits_operands : n < 768 → not p.within ≡ false → b ≡ false → false ≡ node_limits st n p
    unfolding node_limits is_node
    limits_operands h k q = rw (lt-ltb n 768 h, not-false p.within k, ← told, q)

    pub limits_nodes : n < 768 → not p.within ≡ false → b ≡ true → ltb st.nodes 768 ≡ node_limits st n p
    unfolding node_limits is_node
    limits_nodes h k q = rw (lt-ltb n 768 h, not-false p.within k, ← told, q)

  pub order_block : 5 < st.block → false ≡ node_order st n p
  unfolding node_order
  order_block h = rw (lt-leb st.block 5 h)

  pub order_open : st.block ≤ 5 → st.«open» ≡ 0 → false ≡ node_order st n p
  unfolding node_order
  order_open h k = rw (le-leb st.block 5 h, eq-eqb st.«open» 0 k)

  pub order_text : st.block ≤ 5 → (st.«open» ≡ 0 → ⊥) → st.«open» ≡ 3 → false ≡ node_order st n p
  unfolding node_order
  order_text h k t = rw (le-leb st.block 5 h, ne_eqb st.«open» 0 k, eq-eqb st.«open» 3 t)

  pub order_number : st.block ≤ 5 → (st.«open» ≡ 0 → ⊥) → (st.«open» ≡ 3 → ⊥) → (n ≡ st.nodes - st.first → ⊥) → false ≡ node_order st n p
  unfolding node_order
  order_number h k t q = rw (le-leb st.block 5 h, ne_eqb st.«open» 0 k, ne_eqb st.«open» 3 t, ne_eqb n (st.nodes - st.first) q)

  pub order_apart : st.block ≤ 5 → (st.«open» ≡ 0 → ⊥) → (st.«open» ≡ 3 → ⊥) → n ≡ st.nodes - st.first → p.apart ≡ node_order st n p
  unfolding node_order
  order_apart h k t q = rw (le-leb st.block 5 h, ne_eqb st.«open» 0 k, ne_eqb st.«open» 3 t, eq-eqb n (st.nodes - st.first) q)

  -- ---- what a node that passes them has

  module _ (ok : node_limits st n p ≡ true) where
    front : (is_node n && p.within && all_of is_node (operands_at p.words p.count)) ≡ true
    unfolding node_limits
    front = (and-true _ (ltb st.nodes 768) ok).0

    pub node_low : n < 768
    unfolding is_node
    node_low = ltb-true n 768 (and-true (is_node n) p.within (and-true (is_node n && p.within) _ front).0).0

    pub form_fine : p.within ≡ true
    form_fine = (and-true (is_node n) p.within (and-true (is_node n && p.within) _ front).0).1

    pub operands_fine : all_of is_node (operands_at p.words p.count) ≡ true
    operands_fine = (and-true (is_node n && p.within) _ front).1

    pub nodes_low : st.nodes < 768
    unfolding node_limits
    nodes_low = ltb-true st.nodes 768 (and-true (is_node n && p.within && all_of is_node (operands_at p.words p.count)) (ltb st.nodes 768) ok).1

  module _ (ok : node_order st n p ≡ true) where
    behind : (not (eqb st.«open» 0) && not (eqb st.«open» 3) && eqb n (st.nodes - st.first) && p.apart) ≡ true
    unfolding node_order
    behind = (and-true (leb st.block 5) _ ok).1

    both : (not (eqb st.«open» 0) && not (eqb st.«open» 3) && eqb n (st.nodes - st.first)) ≡ true
    both = (and-true (not (eqb st.«open» 0) && not (eqb st.«open» 3) && eqb n (st.nodes - st.first)) p.apart behind).0

    pub is_open : st.«open» ≡ 0 → ⊥
    is_open =
        eqb-false st.«open» 0
        (not-true (eqb st.«open» 0) (and-true (not (eqb st.«open» 0)) _ (and-true (not (eqb st.«open» 0) && not (eqb st.«open» 3)) _ both).0).0)

    pub is_next : n ≡ st.nodes - st.first
    is_next = eqb-true n (st.nodes - st.first) (and-true (not (eqb st.«open» 0) && not (eqb st.«open» 3)) _ both).1

-- ---- the two agree

opens : (o : Option Ty) (b : Bool) → eqb (open_code o b) 0 ≡ false
unfolding open_code
opens none true = refl
opens none false = refl
opens (some t) b = refl

by_text : (o : Option Ty) (b : Bool) → (b ≡ true → o ≡ none) → eqb (open_code o b) 3 ≡ b
unfolding open_code
by_text none true h = refl
by_text none false h = refl
by_text (some t) true h = absurd (none-ne-some t (sym (h refl)))
by_text (some t) false h = refl

nodes_cut : (l : List ℕ) → all_of is_node (map cut l) ≡ all_of is_node l
unfolding all_of is_node
nodes_cut [] = refl
nodes_cut (a ∷ l) = rw (cut_lt a 1000000 768 (omega arith), nodes_cut l)

module _ {st : Counts} {n line : ℕ} {p : Parsed} {w0 w1 : List ℕ} {s : Sheet} {x : Shape} (i : ℕ)
    (number : n ≡ cut i) (z : StandsFor line x p) (h : Holds st w0 w1 s) where
  pub limits_same : node_limits st n p ≡ within_limits s (node_line i x)
  unfolding node_limits within_limits is_node
  limits_same = rw (number, cut_lt i 1000000 768 (omega arith), z.within, z.operands, nodes_cut (operands_of x), h.counted.nodes)

  module _ (fine : Fine st) (ok : node_limits st n p ≡ true) where
    pub form_within_lem : form_within x ≡ true
    form_within_lem = sym z.within ∙ form_fine st n p ok

    pub operands_small : all_of is_node (operands_of x) ≡ true
    operands_small = sym (nodes_cut (operands_of x)) ∙ rw (← z.operands) (operands_fine st n p ok)

    pub operands_are : operands_at p.words p.count ≡ operands_of x
    operands_are = z.operands ∙ nodes_small (operands_of x) operands_small

    pub number_is : n ≡ i
    number_is = omega (arith, number, node_low st n p ok)

    pub order_same : node_order st n p ≡ in_order s (node_line i x)
    unfolding node_order in_order block_of numbered next_node
    order_same = rw (h.counted.block, z.apart form_within_lem) (ap (λ (b : Bool). leb s.block 5 && (b && two_variables x)) (go s.current h.current))
      where
        go : (o : Option Current) → HoldsOpen st w1 (length s.lines) o → (not (eqb st.«open» 0) && not (eqb st.«open» 3) && eqb n (st.nodes - st.first)) ≡ next_node o i
        go none (closed e) = rw e
        go (some c) (opened q) =
            let l : st.nodes - st.first ≡ length c.trees = omega (arith, q.count, q.first, h.counted.nodes) in
            rw (q.is_open, opens c.result c.text, by_text c.result c.text q.of_rule, l, number_is)

    pub known_same : leb p.classes st.classes ≡ parts_known s (node_line i x)
    unfolding parts_known
    known_same = z.known form_within_lem st.classes fine.classes ∙ ap (λ (m : ℕ). form_known m x) h.counted.classes

    form_words : p.words ≡ shape_words 0 z.type (called_by by_number x) line x
    form_words = z.words form_within_lem operands_small

    pub calls_same : leb (calls_in p.words p.count) st.definitions ≡ call_below (length s.definitions) x
    calls_same = rw (form_words, z.counted, h.counted.definitions) (calls_shape z.type line (length s.definitions) x)

    pub full_words : (v0 : List ℕ) → resolved_in v0 p.words p.count ≡ shape_words 0 z.type (called_by (called_at v0) x) line x
    full_words v0 = rw (form_words, z.counted) (resolved_shape z.type line v0 x)

-- a definition is open
defines : {st : Counts} {w1 : List ℕ} {m : ℕ} (o : Option Current) → HoldsOpen st w1 m o → in_definition o ≡ eqb st.«open» 2
unfolding in_definition has_type open_code
defines none (closed e) = rw e
defines (some c) (opened q) = rw q.is_open (go c.result c.text)
  where
    go : (o : Option Ty) (b : Bool) → has_type o ≡ eqb (open_code o b) 2
    go none true = refl
    go none false = refl
    go (some t) b = refl

-- ---- 4, 5, 6, 23 and 24

-- a refusal has no counts
pub stopped : {e : Refusal} (u : Counts) → Err e ≡ Ok u → Fine u
stopped u e = absurd (let z : ◌≡◌ {A = ℕ} 0 1 = cc in omega arith)

module _ {st : Counts} {n : ℕ} {p : Parsed} (w0 w1 : List ℕ) (fine : Fine st) where
  pub place_4 : {b : Bool} → b ≡ node_limits st n p → b ≡ false → Placed st n p (Err OverMeasure) w0 w1 w1
  place_4 {b} e q = record {
    is = λ line s i x u z h. rw (over_limits s line (node_line i x) (sym (limits_same i u z h) ∙ sym e ∙ q)) moved_refused;
    fine = stopped;
    kept = kept_refl w1;
  }

  module _ (ok : node_limits st n p ≡ true) where
    pub place_5 : {b : Bool} → b ≡ node_order st n p → b ≡ false → Placed st n p (Err OutOfRow) w0 w1 w1
    place_5 {b} e q = record {
      is = λ line s i x u z h. rw (out_of_order s line (node_line i x) (sym (limits_same i u z h) ∙ ok) (sym (order_same i u z h fine ok) ∙ sym e ∙ q)) moved_refused;
      fine = stopped;
      kept = kept_refl w1;
    }

    module _ (o : node_order st n p ≡ true) where
      pub place_6 : st.classes < p.classes → Placed st n p (Err UnknownPart) w0 w1 w1
      place_6 l = record {
        is = λ line s i x u z h.
            rw (unknown_part s line (node_line i x) (sym (limits_same i u z h) ∙ ok) (sym (order_same i u z h fine ok) ∙ o) (sym (known_same i u z h fine ok) ∙ lt-leb p.classes st.classes l)) moved_refused;
        fine = stopped;
        kept = kept_refl w1;
      }

      module _ (classes : p.classes ≤ st.classes) {b : Bool} (told : b ≡ leb (calls_in p.words p.count) st.definitions) (upward : b ≡ false) where
        pub place_23 : st.«open» ≡ 2 → Placed st n p (Err CallUpward) w0 w1 w1
        unfolding calls_smaller
        place_23 e = record {
          is = λ line s i x u z h.
              rw (calls_up s line (node_line i x) (sym (limits_same i u z h) ∙ ok) (sym (order_same i u z h fine ok) ∙ o) (sym (known_same i u z h fine ok) ∙ le-leb p.classes st.classes classes)
              (rw (defines s.current h.current, eq-eqb st.«open» 2 e) (sym (calls_same i u z h fine ok) ∙ sym told ∙ upward))) moved_refused;
          fine = stopped;
          kept = kept_refl w1;
        }

        pub place_24 : (st.«open» ≡ 2 → ⊥) → Placed st n p (Err UnknownDefinition) w0 w1 w1
        unfolding calls_smaller calls_known
        place_24 e = record {
          is = λ line s i x u z h.
              rw (calls_none s line (node_line i x) (sym (limits_same i u z h) ∙ ok) (sym (order_same i u z h fine ok) ∙ o) (sym (known_same i u z h fine ok) ∙ le-leb p.classes st.classes classes)
              (rw (defines s.current h.current, ne_eqb st.«open» 2 e)) (sym (calls_same i u z h fine ok) ∙ sym told ∙ upward)) moved_refused;
          fine = stopped;
          kept = kept_refl w1;
        }

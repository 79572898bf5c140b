-- Node lines that come one after the other are read, each with the next number, where a text of the same nodes would be. Assumes nothing.
use mathlib.Core.Path.{◌≡◌, refl, sym, ap, ◌∙◌, subst}
use mathlib.Core.Bool.{Bool, true, false, not, ◌&&◌, ◌||◌, true≢false}
use mathlib.Core.Option.{Option, none, some, none-ne-some}
use mathlib.Core.List.{List, [], ◌∷◌, ◌++◌}
use Prim.Native.Nat.{ℕ, suc, ◌+◌, ◌<◌, ◌≤◌}
use native.Mathlib.Omega.{arith}
use lib.ListN.{length}
use lib.Dec.{T, eqb, eqb_refl, leb, ltb, lt→ltb}
use Rattle.laws.specs.Choice.{on_some}
use Rattle.laws.specs.Lists.{all_of, Each, each_nil, each-cons}
use Rattle.laws.proofs.Lists.{length_more, each_imp}
use Rattle.laws.proofs.Tests.{and_i, and_l, and_r}
use Rattle.ocl.specs.Types.{Ty}
use Rattle.ocl.specs.Forms.{Definition}
use Rattle.sheet.specs.Text.{Bytes, fields_of}
use Rattle.sheet.specs.Lines.{Shape, Line, node_line, line_of, in_body}
use Rattle.sheet.specs.Texts.{on_text}
use Rattle.sheet.specs.Sheet.{Current, Sheet, operands_of, with_node, with_nodes, added}
use Rattle.sheet.specs.Limits.{is_node, form_within, within_limits}
use Rattle.sheet.specs.Refusals.{two_variables, form_known, call_below, has_type, in_definition, next_node, block_of, numbered, fresh, operands_fresh, in_order, parts_known, calls_smaller, calls_known, suits, tree_holds}
use Rattle.sheet.specs.Reading.{Step, taken, refuse, must, step_line, step_spelled, step, Reading, accepted, rejected, on_step, closing, read_last, read_lines}
use Rattle.sheet.specs.TextLaws.{NodeLines, no_lines, more_lines}
use Rattle.sheet.proofs.Forest.{fresh_each}
use Rattle.sheet.proofs.Stays.{of_body, line_stays as stays}
use Rattle.sheet.proofs.TextNodes.{FreshAll, fresh_cons}

-- ---- steps

pub taken_by : (b : Bool) (n : ℕ) (x : Step) → T b → must b n x ≡ x
unfolding must
taken_by true n x h = refl
taken_by false n x h = absurd h

pub data Refuses : Step → Type 0 where
  refuses : {n : ℕ} → Refuses (refuse n)

pub must_refuses : (b : Bool) (n : ℕ) {x : Step} → Refuses x → Refuses (must b n x)
unfolding must
must_refuses true n h = h
must_refuses false n h = refuses

pub must_not : (b : Bool) (n : ℕ) (x : Step) → b ≡ false → Refuses (must b n x)
unfolding must
must_not true n x e = absurd (true≢false e)
must_not false n x e = refuses

pub not_accepted : {n k : ℕ} {s : Sheet} → rejected n k ≡ accepted s → ⊥
not_accepted e = let y : ◌≡◌ {A = ℕ} 0 1 = cc in omega arith

pub on_refusal : {x : Step} (k : ℕ) (f : Sheet → Reading) {u : Sheet} → Refuses x → on_step x k f ≡ accepted u → ⊥
unfolding on_step
on_refusal k f refuses e = not_accepted e

-- ---- a sheet with an open body

abbrev pub with_open : Sheet → List ℕ → Current → Sheet
with_open s ls c = record { block = s.block; parents = s.parents; rows = s.rows; objects = s.objects; slots = s.slots; lines = ls; definitions = s.definitions; rules = s.rules; current = some c }

pub is_open : (s : Sheet) (c : Current) → s.current ≡ some c → s ≡ with_open s s.lines c
is_open s c e = ap (λ (o : Option Current). record { block = s.block; parents = s.parents; rows = s.rows; objects = s.objects; slots = s.slots; lines = s.lines; definitions = s.definitions; rules = s.rules; current = o }) e

-- what nodes must meet that are added to the open body of a sheet with m nodes
pub record Ready (s : Sheet) (m : ℕ) (c : Current) (xs : List Shape) : Type 0 where
  pub block : T (leb s.block 5)
  pub rule : c.result ≡ none
  pub plain : c.text ≡ false
  pub early : length c.trees ≤ m
  pub room : m + length xs ≤ 768
  pub within : T (all_of form_within xs)
  pub two : T (all_of two_variables xs)
  pub parts : T (all_of (form_known (length s.parents)) xs)
  pub called : T (all_of (call_below (length s.definitions)) xs)
  pub fresh_nodes : FreshAll (length c.trees) c.used xs

pub no_type : (o : Option Ty) (b : Bool) → o ≡ none → T (not (has_type o) || b)
unfolding has_type
no_type none b e = tt
no_type (some t) b e = absurd (none-ne-some t (sym e))

pub one_more : (ds : List Definition) (c : Current) (x : Shape) → length (with_node ds c x).trees ≡ suc (length c.trees)
unfolding with_node
one_more ds c x = length_more c.trees _

pub nodes_below : {n : ℕ} {es : List ℕ} → n ≤ 768 → Each (λ a. a < n) es → T (all_of is_node es)
unfolding all_of is_node
nodes_below l each_nil = tt
nodes_below l (each-cons {n = a} {ns = es} p h) = and_i (ltb a 768) _ (lt→ltb a 768 (omega arith)) (nodes_below l h)

module _ (s : Sheet) (ls : List ℕ) (c : Current) (x : Shape) (xs : List Shape) (r : Ready s (length ls) c (x ∷ xs)) where
  first_fresh : T (fresh (length c.trees) c.used (operands_of x))
  first_fresh = of r.fresh_nodes
    where
      of : {n : ℕ} {used : List ℕ} → FreshAll n used (x ∷ xs) → T (fresh n used (operands_of x))
      of (fresh_cons p h) = p

  later_fresh : FreshAll (suc (length c.trees)) (c.used ++ operands_of x) xs
  later_fresh = of r.fresh_nodes
    where
      of : {n : ℕ} {used : List ℕ} → FreshAll n used (x ∷ xs) → FreshAll (suc n) (used ++ operands_of x) xs
      of (fresh_cons p h) = h

  pub node_taken : (j : ℕ) → step_spelled (with_open s ls c) j (some (node_line (length c.trees) x)) ≡ taken (with_open s (ls ++ (j ∷ [])) (with_node s.definitions c x))
  unfolding step_spelled step_line on_text within_limits in_order block_of numbered next_node parts_known calls_smaller in_definition has_type calls_known suits tree_holds operands_fresh added on_some all_of is_node must
  node_taken j =
      let n = length c.trees in
      let room = r.room in
      let early = r.early in
      let t = with_open s ls c in
      let l = node_line n x in
      taken_by (within_limits t l) 4 _ (and_i (is_node n && form_within x && all_of is_node (operands_of x)) (ltb (length ls) 768)
      (and_i (is_node n && form_within x) (all_of is_node (operands_of x))
      (and_i (is_node n) (form_within x) (lt→ltb n 768 (omega arith)) (and_l (form_within x) _ r.within))
      (nodes_below {n = n} (omega arith) (each_imp (λ a f. f.smaller) (fresh_each n c.used (operands_of x) first_fresh))))
      (lt→ltb (length ls) 768 (omega arith)))
      ∙ taken_by (in_order t l) 5 _ (and_i (leb s.block 5) (not c.text && eqb n n && two_variables x) r.block (and_i (not c.text && eqb n n) (two_variables x) (and_i (not c.text) (eqb n n) (rw r.plain tt) (eqb_refl n)) (and_l (two_variables x) _ r.two)))
      ∙ taken_by (parts_known t l) 6 _ (and_l (form_known (length s.parents) x) _ r.parts)
      ∙ taken_by (calls_smaller t l) 23 _ (no_type c.result _ r.rule)
      ∙ taken_by (calls_known t l) 24 _ (and_l (call_below (length s.definitions) x) _ r.called)
      ∙ taken_by (tree_holds t l) 8 _ first_fresh

  pub ready_later : (j : ℕ) → Ready s (length (ls ++ (j ∷ []))) (with_node s.definitions c x) xs
  unfolding all_of with_node
  ready_later j =
      let p = length_more ls j in
      let q = one_more s.definitions c x in
      let early = r.early in
      let room = r.room in
      record {
        block = r.block;
        rule = r.rule;
        plain = r.plain;
        early = omega arith;
        room = omega arith;
        within = and_r (form_within x) _ r.within;
        two = and_r (two_variables x) _ r.two;
        parts = and_r (form_known (length s.parents) x) _ r.parts;
        called = and_r (call_below (length s.definitions) x) _ r.called;
        fresh_nodes = subst (λ i. FreshAll i (c.used ++ operands_of x) xs) (sym q) later_fresh;
      }

-- ---- node lines, one after the other

-- they have been read: the open body has the nodes
pub record Read (s : Sheet) (m : ℕ) (c : Current) (xs : List Shape) (rest : List Bytes) (r : Reading) : Type 0 where
  pub numbers : List ℕ
  pub as_many : length numbers ≡ m + length xs
  pub at : ℕ
  pub same : r ≡ read_lines (with_open s numbers (with_nodes s.definitions c xs)) at rest

-- one line, and more after it
pub read_line : (s : Sheet) (k : ℕ) (l m : Bytes) (rest : List Bytes) → in_body (fields_of l) ≡ true
    → read_lines s k (l ∷ m ∷ rest) ≡ on_step (step s (suc k) (fields_of l)) (suc k) (λ u. read_lines u (suc k) (m ∷ rest))
unfolding read_lines closing
read_line s k l m rest e = rw e

pub read_last_lem : (s : Sheet) (k : ℕ) (l : Bytes) → in_body (fields_of l) ≡ true → read_lines s k (l ∷ []) ≡ read_last k l s
unfolding read_lines closing
read_last_lem s k l e = rw e

-- a line that is taken
pub read_taken : (s t : Sheet) (k : ℕ) (l : Bytes) (x : Line) (m : Bytes) (rest : List Bytes) → line_of (fields_of l) ≡ some x → of_body x ≡ true → step_spelled s (suc k) (some x) ≡ taken t
    → read_lines s k (l ∷ m ∷ rest) ≡ read_lines t (suc k) (m ∷ rest)
unfolding step on_step
read_taken s t k l x m rest e b h =
    read_line s k l m rest (sym (stays (fields_of l) x e) ∙ b) ∙ rw (e, h)

pub read_more : (s t : Sheet) (k : ℕ) (l : Bytes) (x : Line) (lines : List Bytes) (m : Bytes) (rest : List Bytes) → line_of (fields_of l) ≡ some x → of_body x ≡ true → step_spelled s (suc k) (some x) ≡ taken t
    → read_lines s k (l ∷ (lines ++ (m ∷ rest))) ≡ read_lines t (suc k) (lines ++ (m ∷ rest))
read_more s t k l x [] m rest e b h = read_taken s t k l x m rest e b h
read_more s t k l x (l2 ∷ lines) m rest e b h = read_taken s t k l x l2 (lines ++ (m ∷ rest)) e b h

pub nodes_read : (s : Sheet) (ls : List ℕ) (c : Current) (k n : ℕ) {lines : List Bytes} {xs : List Shape} (m : Bytes) (rest : List Bytes) → n ≡ length c.trees → NodeLines n lines xs → Ready s (length ls) c xs
    → Read s (length ls) c xs (m ∷ rest) (read_lines (with_open s ls c) k (lines ++ (m ∷ rest)))
unfolding with_nodes of_body
nodes_read s ls c k n m rest e no_lines r = record { numbers = ls; as_many = omega arith; at = k; same = refl }
nodes_read s ls c k n m rest e (more_lines {l} {ls = lines} {x} {xs} p h) r =
    let q = nodes_read s (ls ++ (suc k ∷ [])) (with_node s.definitions c x) (suc k) (suc n) m rest (ap suc e ∙ sym (one_more s.definitions c x)) h (ready_later s ls c x xs r (suc k)) in
    record {
      numbers = q.numbers;
      as_many = let z = length_more ls (suc k) in let y = q.as_many in omega arith;
      at = q.at;
      same = read_more (with_open s ls c) _ k l (node_line n x) lines m rest p refl (rw e (node_taken s ls c x xs r (suc k))) ∙ q.same;
    }

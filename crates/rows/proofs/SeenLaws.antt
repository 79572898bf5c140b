-- A node's rows are its operands' and its own, by the range that its code is in; and the words of the nodes, one after the other. Assumes
-- nothing.
use mathlib.Core.Path.{◌≡◌, refl, sym, ap, ◌∙◌}
use mathlib.Core.Bool.{Bool, true, false, ◌||◌, or-false, or_comm, or_assoc}
use mathlib.Core.Logic.{◌⊎◌, inl, inr}
use mathlib.Core.List.{List, [], ◌∷◌, ◌++◌, append-nil}
use Prim.Native.Nat.{ℕ, suc, ◌+◌, ◌-◌, ◌*◌, ◌%◌, ◌^◌, ◌≤◌, ◌<◌}
use native.Mathlib.Omega.{arith}
use native.Mathlib.Nat.{one-mul}
use native.Mathlib.Decide.{dec_lt}
use lib.Pow.{shl_exact}
use lib.Bits.{bit_or}
use lib.Dec.{ltb}
use lib.ListN.{length, get_or, set}
use lib.Seq.{get_or-set_same, get_or-set_other}
use borrow.Author.Tests.{eq-eqb, ne_eqb, ltb-true, ltb-false, lt-ltb, le-ltb}
use Rattle.std.specs.Prelude.{if◌then◌else◌}
use Rattle.laws.specs.Lists.{member}
use Rattle.laws.proofs.Lists.{member_append}
use Rattle.memory.specs.Map as memory
use Rattle.ocl.specs.Forms.{Form}
use Rattle.ocl.specs.Marks.{Mark, row_marked}
use Rattle.ocl.specs.Unseen.{tree_rows, tree_rows_in}
use Rattle.nodes.specs.Nodes.{word, operands_in, form_of, trees_below, tree_at}
use Rattle.nodes.proofs.Nodes.{tree_law, below_law, late_law, no_form, leaf_range, unary_range, binary_range, connective_range, quantified_range, assemble_range, attribute_range, assemble_over, is_undef_code, conditional_code, let_code, iterate_code, call_code}
use Rattle.tables.specs.Layout.{Kept}
use Rattle.tables.proofs.Tables.{kept_refl, kept_set, kept_then}
use Rattle.rows.specs.Bits.{bit, Bits}
use Rattle.rows.specs.Seen.{own_row, operand_rows, operands_rows, Parts, RowsMarked, SeenTo, SeesOperand, SeesOwn, SeesNode, SeesAll}
use Rattle.rows.proofs.BitLaws.{no_bits, row_bits, or_bit}

-- ---- operands, by the node's code

module _ (t : List ℕ) (n k : ℕ) (e : k ≡ word t n 0) where
  abbrev form : ℕ → Form
  form = form_of (trees_below t n) (word t n)

  by_form : {f : Form} → form k ≡ f → (mark : ℕ → Mark) → tree_rows mark (tree_at t n) ≡ tree_rows_in mark n f
  unfolding tree_rows
  by_form h mark = ap (tree_rows mark) (tree_law t n) ∙ ap (tree_rows_in mark n) (ap form (sym e) ∙ h)

  not_own : (k ≡ 33 → ⊥) → (k ≡ 34 → ⊥) → (mark : ℕ → Mark) → own_row mark n (word t n 0) ≡ []
  unfolding own_row
  not_own a b mark = rw (← e, ne_eqb k 33 a, ne_eqb k 34 b)

  -- no row of its own
  plain : {f : Form} (c : ℕ) → c ≤ 4 → (k ≡ 33 → ⊥) → (k ≡ 34 → ⊥) → form k ≡ f → ((mark : ℕ → Mark) → tree_rows_in mark n f ≡ operands_rows mark t n c 1)
      → Parts t n c
  plain c l a b h q = record {
    few = l;
    rows = λ mark. by_form h mark ∙ q mark ∙ sym (ap (λ o. operands_rows mark t n c 1 ++ o) (not_own a b mark) ∙ append-nil (operands_rows mark t n c 1));
  }

  pub leaf_parts : k < 7 → Parts t n 0
  unfolding tree_rows operands_in
  leaf_parts h = plain 0 (omega arith) (λ q. omega arith) (λ q. omega arith) (leaf_range _ _ k h) (λ mark. refl)

  pub none_parts : 37 < k → Parts t n 0
  unfolding tree_rows operands_in
  none_parts h = plain 0 (omega arith) (λ q. omega arith) (λ q. omega arith) (no_form _ _ k h) (λ mark. refl)

  -- ---- one operand

  own_row_lem : 33 ≤ k → k < 35 → (mark : ℕ → Mark) → own_row mark n (word t n 0) ≡ row_marked (mark n) ∷ []
  unfolding own_row
  own_row_lem l h mark = by (dec_lt k 34)
    where
      by : Dec (k < 34) → own_row mark n (word t n 0) ≡ row_marked (mark n) ∷ []
      by (yes z) = rw (← e, eq-eqb k 33 (omega arith))
      by (no z) = rw (← e, ne_eqb k 33 (λ q. omega arith), eq-eqb k 34 (omega arith))

  attributed : 33 ≤ k → k < 35 → Parts t n 1
  unfolding tree_rows operands_in own_row
  attributed l h = record { few = omega arith; rows = λ mark. by_form (attribute_range _ _ k l h) mark ∙ rw (append-nil (operand_rows mark t n 1)) (ap (λ o. operand_rows mark t n 1 ++ o) (sym (own_row_lem l h mark))) }

  -- as a match leaves them: codes 30, 32, and 31 and 35 have arms of their own
  pub attribute_parts : 30 ≤ k → k < 35 → (k ≡ 30 → ⊥) → (k ≡ 32 → ⊥) → ((k ≡ 31) ⊎ (k ≡ 35) → ⊥) → Parts t n 1
  attribute_parts l h a b d = attributed (let z : k ≡ 31 → ⊥ = (λ q. d (inl q)) in omega arith) h

  pub is_undef_parts : k ≡ 30 → Parts t n 1
  unfolding tree_rows operands_in
  is_undef_parts q = plain 1 (omega arith) (λ z. omega arith) (λ z. omega arith) (ap form q ∙ is_undef_code _ _) (λ mark. sym (append-nil _))

  pub unary_parts : 7 ≤ k → k < 13 → Parts t n 1
  unfolding tree_rows operands_in
  unary_parts l h = plain 1 (omega arith) (λ q. omega arith) (λ q. omega arith) (unary_range _ _ k l h) (λ mark. sym (append-nil _))

  -- ---- two operands

  pair_rows : (mark : ℕ → Mark) → operand_rows mark t n 1 ++ operand_rows mark t n 2 ≡ operands_rows mark t n 2 1
  unfolding tree_rows operands_in
  pair_rows mark = ap (λ o. operand_rows mark t n 1 ++ o) (sym (append-nil (operand_rows mark t n 2)))

  strict : 13 ≤ k → k < 27 → Dec (k < 23) → Dec (k < 25) → Parts t n 2
  unfolding tree_rows
  strict l h (yes a) b = plain 2 (omega arith) (λ q. omega arith) (λ q. omega arith) (binary_range _ _ k (inr (l, a))) pair_rows
  strict l h (no a) (yes b) = plain 2 (omega arith) (λ q. omega arith) (λ q. omega arith) (connective_range _ _ k (omega arith) b) pair_rows
  strict l h (no a) (no b) = plain 2 (omega arith) (λ q. omega arith) (λ q. omega arith) (quantified_range _ _ k (omega arith) h) pair_rows

  last : 36 ≤ k → k < 38 → Dec (k < 37) → Parts t n 2
  unfolding tree_rows
  last l h (yes a) =
      let q : k ≡ 36 = omega arith in
      plain 2 (omega arith) (λ z. omega arith) (λ z. omega arith) (ap form q ∙ call_code _ _) pair_rows
  last l h (no a) = plain 2 (omega arith) (λ q. omega arith) (λ q. omega arith) (binary_range _ _ k (inl (omega arith))) pair_rows

  pub two_parts : 13 ≤ k → k < 27 → Parts t n 2
  two_parts l h = strict l h (dec_lt k 23) (dec_lt k 25)

  pub let_parts : k ≡ 32 → Parts t n 2
  unfolding tree_rows
  let_parts q = plain 2 (omega arith) (λ z. omega arith) (λ z. omega arith) (ap form q ∙ let_code _ _) pair_rows

  pub call_parts : 35 ≤ k → k < 38 → ((k ≡ 31) ⊎ (k ≡ 35) → ⊥) → Parts t n 2
  call_parts l h d = last (let z : k ≡ 35 → ⊥ = (λ q. d (inr q)) in omega arith) h (dec_lt k 37)

  -- ---- three operands, and those of `coll`

  three_rows : (mark : ℕ → Mark) → operand_rows mark t n 1 ++ (operand_rows mark t n 2 ++ operand_rows mark t n 3) ≡ operands_rows mark t n 3 1
  unfolding tree_rows operands_in
  three_rows mark = ap (λ o. operand_rows mark t n 1 ++ (operand_rows mark t n 2 ++ o)) (sym (append-nil (operand_rows mark t n 3)))

  pub three_parts : (k ≡ 31) ⊎ (k ≡ 35) → Parts t n 3
  unfolding tree_rows
  three_parts (inl q) = plain 3 (omega arith) (λ z. omega arith) (λ z. omega arith) (ap form q ∙ conditional_code _ _) three_rows
  three_parts (inr q) = plain 3 (omega arith) (λ z. omega arith) (λ z. omega arith) (ap form q ∙ iterate_code _ _) three_rows

  members : 27 ≤ k → k < 30 → (b : Bool) → ltb 4 (word t n 5) ≡ b → Parts t n (if b then 0 else word t n 5)
  unfolding tree_rows operands_in
  members l h true q = plain 0 (omega arith) (λ q. omega arith) (λ q. omega arith) (assemble_over _ _ k l h (ltb-true 4 (word t n 5) q)) (λ mark. refl)
  members l h false q =
      let few = ltb-false 4 (word t n 5) q in
      plain (word t n 5) few (λ q. omega arith) (λ q. omega arith) (assemble_range _ _ k l h few) (λ mark. refl)

  pub member_parts : {c : ℕ} → 27 ≤ k → k < 30 → c ≡ (if ltb 4 (word t n 5) then 0 else word t n 5) → Parts t n c
  member_parts l h q = rw q (members l h (ltb 4 (word t n 5)) refl)

-- how many members there are
pub many_members : {a b w : ℕ} → a ≡ b → b ≡ w → 4 < a → 0 ≡ (if ltb 4 w then 0 else w)
many_members {w = w} p q h = rw (lt-ltb 4 w (omega arith))

pub few_members : {a b w : ℕ} → a ≡ b → b ≡ w → a ≤ 4 → a ≡ (if ltb 4 w then 0 else w)
few_members {w = w} p q h = rw (le-ltb 4 w (omega arith)) (p ∙ q)

-- ---- the word of an operand, and of the node's own row

module _ {w1 w2 : List ℕ} {n k a b : ℕ} (f : a ≡ b) (g : b ≡ word w1 n k) where
  pub operand_seen : a < n → SeesOperand w1 w2 n k (get_or w2 a 0)
  operand_seen h = let e : a ≡ word w1 n k = f ∙ g in record { is = λ mark s. rw (← e, below_law w1 n a h) (s.at a h) }

  pub late_seen : n ≤ a → SeesOperand w1 w2 n k 0
  unfolding tree_rows
  late_seen h = let e : a ≡ word w1 n k = f ∙ g in record { is = λ mark s. rw (← e, late_law w1 n a h) no_bits }

module _ {w1 : List ℕ} {n k : ℕ} (e : k ≡ word w1 n 0) where
  pub before_own : k < 33 → SeesOwn w1 n 0
  before_own h = record { is = λ mark m. rw (not_own w1 n k e (λ q. omega arith) (λ q. omega arith) mark) no_bits }

  pub behind_own : 35 ≤ k → SeesOwn w1 n 0
  behind_own h = record { is = λ mark m. rw (not_own w1 n k e (λ q. omega arith) (λ q. omega arith) mark) no_bits }

  pub at_own : 33 ≤ k → k < 35 → n < 768 → SeesOwn w1 n (1 * 2 ^ (get_or w1 (memory.marks + n) 0 % 64) % 18446744073709551616)
  at_own l h z = record {
    is = λ mark m.
        let i = get_or w1 (memory.marks + n) 0 % 64 in
        let one : 1 * 2 ^ i % 2 ^ 64 ≡ 2 ^ i = shl_exact 1 i 64 (omega arith) (omega arith) ∙ one-mul (2 ^ i) in
        rw (one, own_row_lem w1 n k e l (omega arith) mark, m.at n z) (row_bits i);
  }

-- ---- a node: what is gathered, with the rows of the operands that are left

pub record Gathered (mark : ℕ → Mark) (t : List ℕ) (n c k seen : ℕ) : Type 0 where
  pub is : (i : ℕ) → bit seen i || member i (operands_rows mark t n (c - k) (k + 1)) ≡ member i (tree_rows mark (tree_at t n))

pub record Gathers (w1 w2 : List ℕ) (n c k seen : ℕ) : Type 0 where
  pub is : (mark : ℕ → Mark) → RowsMarked w1 mark → SeenTo mark w1 w2 n → Gathered mark w1 n c k seen

module _ {w1 w2 : List ℕ} {n c : ℕ} where
  pub gathers_own : {r : ℕ} → Parts w1 n c → SeesOwn w1 n r → Gathers w1 w2 n c 0 r
  gathers_own {r} p o = record {
    is = λ mark m s. record {
      is = λ i.
          let own = own_row mark n (word w1 n 0) in
          let all = operands_rows mark w1 n c 1 in
          let d : c - 0 ≡ c = omega arith in
          rw (d, (o.is mark m).is i, p.rows mark, member_append i all own) (or_comm (member i own) (member i all));
    };
  }

  pub gathers_next : {k r x : ℕ} → Gathers w1 w2 n c k r → k < c → SeesOperand w1 w2 n (k + 1) x → Gathers w1 w2 n c (k + 1) (bit_or r x)
  unfolding tree_rows operands_in
  gathers_next {k} {r} {x} g h y = record {
    is = λ mark m s. record {
      is = λ i.
          let d : c - k ≡ suc (c - (k + 1)) = omega arith in
          let now = operand_rows mark w1 n (k + 1) in
          let left = operands_rows mark w1 n (c - (k + 1)) (k + 1 + 1) in
          let whole : bit r i || member i (now ++ left) ≡ member i (tree_rows mark (tree_at w1 n)) = rw d at ((g.is mark m s).is i) in
          rw (or_bit r x i, (y.is mark s).is i) (or_assoc (bit r i) (member i now) (member i left) ∙ ap (λ b. bit r i || b) (sym (member_append i now left)) ∙ whole);
    };
  }

  pub gathers_all : {k r : ℕ} → Gathers w1 w2 n c k r → c ≤ k → SeesNode w1 w2 n r
  unfolding operands_in tree_rows member
  gathers_all {k} {r} g h = record {
    is = λ mark m s. record {
      is = λ i.
          let d : c - k ≡ 0 = omega arith in
          let whole : bit r i || false ≡ member i (tree_rows mark (tree_at w1 n)) = rw d at ((g.is mark m s).is i) in
          sym (or-false (bit r i)) ∙ whole;
    };
  }

-- ---- all nodes: the words of the first n are in w2, which was `before`

pub record Seeing (w1 before now : List ℕ) (n : ℕ) : Type 0 where
  pub seen : (mark : ℕ → Mark) → RowsMarked w1 mark → SeenTo mark w1 now n
  pub kept : Kept before now
  pub within : n ≤ 768

pub seeing_none : {w1 : List ℕ} (w2 : List ℕ) → Seeing w1 w2 w2 0
seeing_none w2 = record { seen = λ mark m. record { at = λ a h. absurd (omega arith) }; kept = kept_refl w2; within = omega arith }

module _ {w1 before now : List ℕ} {n : ℕ} (so : Seeing w1 before now n) where
  pub seeing_next : {r : ℕ} → n < 768 → 8192 ≤ length before → SeesNode w1 now n r → Seeing w1 before (set now n r) (n + 1)
  seeing_next {r} h l y = record {
    seen = λ mark m. record { at = λ a q. by mark m a q (dec_lt a n) };
    kept = kept_then so.kept (kept_set now n r (omega arith));
    within = omega arith;
  }
    where
      by : (mark : ℕ → Mark) → RowsMarked w1 mark → (a : ℕ) → a < n + 1 → Dec (a < n) → Bits (get_or (set now n r) a 0) (tree_rows mark (tree_at w1 a))
      by mark m a q (yes z) = rw (get_or-set_other now n a r 0 (λ e. omega arith)) ((so.seen mark m).at a z)
      by mark m a q (no z) =
          let e : a ≡ n = omega arith in
          rw (e, get_or-set_same now n r 0 (omega (arith, so.kept.size))) (y.is mark m (so.seen mark m))

  pub seeing_all : 768 ≤ n → SeesAll w1 before now
  seeing_all h = let e : n ≡ 768 = omega (arith, so.within) in record { seen = λ mark m. rw e at (so.seen mark m); kept = so.kept }

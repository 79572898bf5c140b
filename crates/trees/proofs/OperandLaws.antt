-- A node's operands, marked and written one after the other: the turns of the loops. Assumes nothing.
use mathlib.Core.Path.{◌≡◌, refl, sym, ap, ◌∙◌}
use mathlib.Core.Bool.{Bool, true, false, ◌&&◌, true≢false}
use mathlib.Core.List.{List, [], ◌∷◌}
use Prim.Native.Nat.{ℕ, zero, suc, ◌+◌, ◌-◌, ◌/◌, ◌%◌, ◌<◌, ◌≤◌, min, max}
use native.Mathlib.Omega.{arith}
use native.Mathlib.Decide.{dec_lt}
use borrow.Author.Tests.{eq-eqb, ne_eqb, lt-ltb, le-ltb, le-leb, lt-leb, ltb-true}
use Rattle.std.specs.List.{list_all}
use Rattle.std.proofs.lemmas.List.Recursion.{same_from_clauses}
use lib.Dec.{ltb}
use lib.ListN.{length, get_or, drop, set, drop_of_length-le}
use lib.Seq.{get_or-take, get_or-drop, get_or-set_same, get_or-set_other}
use Rattle.laws.specs.Lists.{all_of}
use Rattle.laws.proofs.Parts.{at_next}
use Rattle.sheet.specs.Limits.{is_node}
use Rattle.tables.proofs.Tables.{kept_refl, kept_set, kept_then}
use Rattle.shapes.specs.Forms.{operands_at}
use Rattle.trees.specs.Operands.{Marking, malformed, deepest, depth_at, marking, shifted, WroteWords}

-- ---- within their limits

pub all_within : (es : List ℕ) {r : Bool} → r ≡ list_all (λ a. ltb a 768) es → r ≡ all_of is_node es
unfolding all_of is_node
all_within es e = e ∙ same_from_clauses (list_all (λ a. ltb a 768)) (all_of is_node) (λ a b. ltb a 768 && b) refl (λ _ _. refl) (λ _ _. refl) es

-- ---- marked: the first i operands are

module _ (es : List ℕ) (i first n d : ℕ) (w : List ℕ) {x : Marking} (inv : marking first n d (drop i es) w ≡ x) where
  pub mark_late : i < length es → n ≤ get_or es i 0 → malformed w ≡ x
  unfolding marking
  mark_late h l = rw (at_next 0 es i h, le-ltb (get_or es i 0) n l) at inv

  pub mark_used : i < length es → get_or es i 0 < n → get_or w (depth_at first (get_or es i 0)) 0 % 2 ≡ 1 → malformed w ≡ x
  unfolding marking
  mark_used h l e = rw (at_next 0 es i h, lt-ltb (get_or es i 0) n l, e) at inv

  pub mark_next : {e : ℕ} → i < length es → get_or es i 0 < n → (get_or w (depth_at first (get_or es i 0)) 0 % 2 ≡ 1 → ⊥)
      → e ≡ max d (min (get_or w (depth_at first (get_or es i 0)) 0 / 2) 1000)
      → marking first n e (drop (i + 1) es) (set w (depth_at first (get_or es i 0)) (get_or w (depth_at first (get_or es i 0)) 0 + 1)) ≡ x
  unfolding marking
  mark_next h l u e = rw e (rw (at_next 0 es i h, lt-ltb (get_or es i 0) n l, ne_eqb _ _ u) at inv)

  pub mark_end : length es ≤ i → deepest d w ≡ x
  unfolding marking
  mark_end h = rw (drop_of_length-le es {i = i} h) at inv

-- ---- a word as the table has it

all_nodes : (l : List ℕ) (j : ℕ) → all_of is_node l ≡ true → get_or l j 0 < 768
unfolding all_of is_node
all_nodes [] j h = omega arith
all_nodes (a ∷ l) zero h = go (ltb a 768) refl h
  where
    go : (b : Bool) → ltb a 768 ≡ b → (b && all_of is_node l) ≡ true → a < 768
    go true e h = ltb-true a 768 e
    go false e h = absurd (true≢false (sym h))
all_nodes (a ∷ l) (suc j) h = go (ltb a 768) (all_nodes l j) h
  where
    go : (b : Bool) → (all_of is_node l ≡ true → get_or l j 0 < 768) → (b && all_of is_node l) ≡ true → get_or l j 0 < 768
    go true ih h = ih h
    go false ih h = absurd (true≢false (sym h))

module _ (words : List ℕ) (count first k : ℕ) where
  pub shift_room : all_of is_node (operands_at words count) ≡ true → (k ≡ 0 → ⊥) → k ≤ count → get_or words k 0 < 768
  shift_room h z l =
      let e : 1 + (k - 1) ≡ k = omega arith in
      let q : get_or (operands_at words count) (k - 1) 0 ≡ get_or words k 0
      = get_or-take count (drop 1 words) (k - 1) 0 (omega arith) ∙ get_or-drop 1 words (k - 1) 0 ∙ ap (λ (j : ℕ). get_or words j 0) e in
      rw q at (all_nodes (operands_at words count) (k - 1) h)

  pub shift_code : k ≡ 0 → get_or words k 0 ≡ shifted words count first k
  unfolding shifted
  shift_code h = rw (eq-eqb k 0 h)

  pub shift_operand : (k ≡ 0 → ⊥) → k ≤ count → first + get_or words k 0 ≡ shifted words count first k
  unfolding shifted
  shift_operand h l = rw (ne_eqb k 0 h, le-leb k count l)

  pub shift_other : (k ≡ 0 → ⊥) → count < k → get_or words k 0 ≡ shifted words count first k
  unfolding shifted
  shift_other h l = rw (ne_eqb k 0 h, lt-leb k count l)

-- ---- words written

pub wrote_none : (at : ℕ) (v : ℕ → ℕ) (w : List ℕ) → WroteWords at 0 v w w
wrote_none at v w = record { kept = kept_refl w; each = λ k h. absurd (omega arith); low = λ i h. refl; high = λ i h. refl }

pub wrote_next : {at n x : ℕ} {v : ℕ → ℕ} {before after : List ℕ} → WroteWords at n v before after → at + n < 8192 → at + n < length after → x ≡ v n → WroteWords at (n + 1) v before (set after (at + n) x)
wrote_next {at} {n} {x} {v} {before} {after} so room long e = record {
  kept = kept_then so.kept (kept_set after (at + n) x room);
  each = λ k h. each k h (dec_lt k n);
  low = λ i h. get_or-set_other after (at + n) i x 0 (omega arith) ∙ so.low i h;
  high = λ i h. get_or-set_other after (at + n) i x 0 (omega arith) ∙ so.high i (omega arith);
}
  where
    each : (k : ℕ) → k < n + 1 → Dec (k < n) → get_or (set after (at + n) x) (at + k) 0 ≡ v k
    each k h (yes l) = get_or-set_other after (at + n) (at + k) x 0 (omega arith) ∙ so.each k l
    each k h (no l) = let q : k ≡ n = omega arith in rw q (get_or-set_same after (at + n) x 0 long ∙ e)

pub wrote_all : {at n m : ℕ} {v : ℕ → ℕ} {before after : List ℕ} → WroteWords at n v before after → n ≡ m → WroteWords at m v before after
wrote_all so e = rw (← e) so

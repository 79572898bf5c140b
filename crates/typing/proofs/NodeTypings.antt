-- What the recursion's contracts come to: each node by the range of its code, each operand, and what follows the operands of the
-- forms that bind. Assumes nothing.
use mathlib.Core.Path.{◌≡◌, refl, sym, ap, ◌∙◌, fun_ext}
use mathlib.Core.Bool.{Bool, true, false}
use mathlib.Core.Logic.{◌⊎◌, inl, inr}
use mathlib.Core.List.{List}
use Prim.Native.Nat.{ℕ, ◌<◌, ◌≤◌}
use native.Mathlib.Omega.{arith}
use lib.Dec.{eqb, ltb}
use borrow.Author.Tests.{ltb-true, ltb-false, eqb-true, eqb-false, ne_eqb}
use Rattle.std.specs.Prelude.{if◌then◌else◌, Result, Ok, Err}
use Rattle.ocl.specs.Types.{Letter, Ty, void, Parents, subtype}
use Rattle.ocl.specs.Environment.{Env, extend}
use Rattle.ocl.specs.Forms.{undef}
use Rattle.ocl.specs.Model.{Schema}
use Rattle.ocl.specs.Typing.{typed, refused, Typed, pure, and_then, on_collection, leaf_type, leaf_typing, unary_typing, is_undef_typing, attribute_typing, call_typing, iterate_typing}
use Rattle.types.specs.declared.FlatType.{FlatType}
use Rattle.types.specs.Flat.{parents_in, letter_of, ty_of}
use Rattle.types.specs.Parts.{outer_code, member_type}
use Rattle.types.specs.Word.{type_in}
use Rattle.types.proofs.Members.{no_collection, is_collection}
use Rattle.nodes.specs.Nodes.{word, variable, leaf_of, access_of}
use Rattle.nodes.proofs.Typing.{operand_typing, leaf_typing_lem, unary_typing_lem, binary_typing_lem, connective_typing_lem, quantified_typing_lem, assemble_typing_lem, is_undef_typing_lem, conditional_typing_lem, let_typing_lem, attribute_typing_lem, iterate_typing_lem, call_typing_lem, over_typing, none_typing, operand_typing_lem, late_typing}
use Rattle.judgements.specs.Replies.{Tells}
use Rattle.judgements.specs.Single.{single_type}
use Rattle.typing.specs.Tables.{node_at, operand_at, members_at, single_at, binary_at, connective_at, conditional_at, let_at, quantified_at, iterate_at, body_at, assemble_at}
use Rattle.judgements.proofs.Composition.{done}
use Rattle.memory.specs.Refusals.{at}
use Rattle.memory.specs.declared.refusals.Refusal.TheVariants.{WrongPiece}
use Rattle.memory.specs.declared.refusals.Refused.{Refused}

-- ---- a node by its code

module _ (m : Schema) (t : List ℕ) (n k : ℕ) (e : k ≡ word t n 0) where
  pub leaf_node : k < 7 → node_at t n m ≡ leaf_typing n (leaf_of k (word t n))
  leaf_node h = leaf_typing_lem m t n k e h

  unary_node : 7 ≤ k → k < 13 → node_at t n m ≡ single_at t n k m
  unfolding operand_at operand_typing single_at single_type unary_typing
  unary_node l h = unary_typing_lem m t n k e l h ∙ fun_ext (λ Γ. ap (and_then (operand_at t n 1 m Γ)) (fun_ext (λ u. rw (ne_eqb k 30 (λ q. omega arith), ne_eqb k 33 (λ q. omega arith), ne_eqb k 34 (λ q. omega arith), ne_eqb k 36 (λ q. omega arith)))))

  pub binary_node : (k ≡ 37) ⊎ ((13 ≤ k) × (k < 23)) → node_at t n m ≡ binary_at t n k m
  unfolding operand_at operand_typing
  binary_node h = binary_typing_lem m t n k e h

  pub connective_node : 23 ≤ k → k < 25 → node_at t n m ≡ connective_at t n m
  unfolding operand_at operand_typing
  connective_node l h = connective_typing_lem m t n k e l h

  pub quantified_node : 25 ≤ k → k < 27 → node_at t n m ≡ quantified_at t n m
  unfolding operand_at operand_typing
  quantified_node l h = quantified_typing_lem m t n k e l h

  by_count : (b : Bool) → ltb 4 (word t n 5) ≡ b → 27 ≤ k → k < 30 → node_at t n m ≡ assemble_at t n k m
  unfolding assemble_at members_at
  by_count true c l h = rw c (over_typing m t n k e l h (ltb-true 4 (word t n 5) c))
  by_count false c l h = rw c (assemble_typing_lem m t n k e l h (ltb-false 4 (word t n 5) c))

  pub assemble_node : 27 ≤ k → k < 30 → node_at t n m ≡ assemble_at t n k m
  assemble_node l h = by_count (ltb 4 (word t n 5)) refl l h

  is_undef_node : k ≡ 30 → node_at t n m ≡ single_at t n k m
  unfolding operand_at operand_typing single_at single_type is_undef_typing
  is_undef_node h = is_undef_typing_lem m t n k e h ∙ fun_ext (λ Γ. rw h)

  pub conditional_node : k ≡ 31 → node_at t n m ≡ conditional_at t n m
  unfolding operand_at operand_typing
  conditional_node h = conditional_typing_lem m t n k e h

  pub let_node : k ≡ 32 → node_at t n m ≡ let_at t n m
  unfolding operand_at operand_typing
  let_node h = let_typing_lem m t n k e h

  attribute_node : k ≡ 33 → node_at t n m ≡ single_at t n k m
  unfolding operand_at operand_typing single_at single_type attribute_typing access_of
  attribute_node h = attribute_typing_lem m t n k e (omega arith) (omega arith) ∙ fun_ext (λ Γ. rw h)

  collect_node : k ≡ 34 → node_at t n m ≡ single_at t n k m
  unfolding operand_at operand_typing single_at single_type attribute_typing access_of
  collect_node h = attribute_typing_lem m t n k e (omega arith) (omega arith) ∙ fun_ext (λ Γ. rw h)

  pub iterate_node : k ≡ 35 → node_at t n m ≡ iterate_at t n m
  unfolding operand_at operand_typing
  iterate_node h = iterate_typing_lem m t n k e h

  call_node : k ≡ 36 → node_at t n m ≡ single_at t n k m
  unfolding operand_at operand_typing single_at single_type call_typing
  call_node h = call_typing_lem m t n k e h ∙ fun_ext (λ Γ. rw h)

  by_access : (b : Bool) → eqb k 33 ≡ b → 33 ≤ k → k < 35 → node_at t n m ≡ single_at t n k m
  by_access true q l h = attribute_node (eqb-true k 33 q)
  by_access false q l h = collect_node (let d = eqb-false k 33 q in omega arith)

  pub single_node : ((k ≡ 30) ⊎ (k ≡ 36)) ⊎ (((7 ≤ k) × (k < 13)) ⊎ ((33 ≤ k) × (k < 35))) → node_at t n m ≡ single_at t n k m
  single_node (inl (inl h)) = is_undef_node h
  single_node (inl (inr h)) = call_node h
  single_node (inr (inl (l, h))) = unary_node l h
  single_node (inr (inr (l, h))) = by_access (eqb k 33) refl l h

  pub none_node : 35 ≤ k → (k ≡ 35 → ⊥) → ((k ≡ 30) ⊎ (k ≡ 36) → ⊥) → (k ≡ 37 → ⊥) → node_at t n m ≡ leaf_typing n undef
  none_node l a b c = none_typing m t n k e (let d : k ≡ 36 → ⊥ = (λ q. b (inr q)) in omega arith)

-- the codes of forms with two strict operands come after those with one
pub from_13 : (k : ℕ) → (k ≡ 37) ⊎ ((13 ≤ k) × (k < 23)) → 13 ≤ k
from_13 k (inl h) = omega arith
from_13 k (inr h) = h.0

-- the codes of `attr` and `collect` come after that of `let`
pub from_33 : (k : ℕ) → 30 ≤ k → ((k ≡ 30) ⊎ (k ≡ 36) → ⊥) → (k ≡ 31 → ⊥) → (k ≡ 32 → ⊥) → 33 ≤ k
from_33 k h a b c = let d : k ≡ 30 → ⊥ = (λ q. a (inl q)) in omega arith

-- ---- operands

module _ (m : Schema) (t : List ℕ) (n k a : ℕ) (e : a ≡ word t n k) where
  pub operand_node : a < n → operand_at t n k m ≡ node_at t a m
  unfolding operand_at operand_typing
  operand_node h = operand_typing_lem m t n k a e h

  pub late_node : n ≤ a → operand_at t n k m ≡ leaf_typing 0 undef
  unfolding operand_at operand_typing
  late_node h = late_typing m t n k a e h

-- what no accepted sheet has counts as `undef`, of type Void
pub undef_done : {B : List ℕ} {r : FlatType} (n : ℕ) (Γ : Env Ty) → ty_of r ≡ void → Tells (leaf_typing n undef Γ) B B (Ok r)
unfolding leaf_typing leaf_type
undef_done n Γ h = done (ap typed h)

-- ---- a body, in the environment that the code made for it

pub in_env : {B A : List ℕ} {r : Result FlatType Refused} (t : List ℕ) (n k : ℕ) (m : Schema) (Γ Δ : Env Ty) {i j : ℕ} {x y : Ty} → Δ ≡ extend Γ i x → i ≡ j → x ≡ y
    → Tells (operand_at t n k m Δ) B A r → Tells (operand_at t n k m (extend Γ j y)) B A r
in_env t n k m Γ Δ h p q d = rw (h, p, q) at d

-- ---- a source that is a collection, or is none

module _ {B : List ℕ} (k : Letter → Ty → Typed) (t : Ty) {c : ℕ} (h : c ≡ outer_code t) where
  pub no_source : (n : ℕ) → c ≡ 0 → Tells (on_collection t (pure (refused 11 n)) k) B B (Err (at WrongPiece n))
  no_source n z = rw (no_collection (pure (refused 11 n)) k t (sym h ∙ z)) (done refl)

  pub on_source : {A : List ℕ} {r : Result FlatType Refused} (other : Typed) → (c ≡ 0 → ⊥) → Tells (k (letter_of (outer_code t)) (member_type t)) B A r → Tells (on_collection t other k) B A r
  on_source other z d = rw (is_collection other k t (λ q. z (h ∙ q))) d

if_yes : {B A : List ℕ} {r : Result FlatType Refused} {x : Typed} (y : Typed) (b : Bool) → true ≡ b → Tells x B A r → Tells (if b then x else y) B A r
if_yes y b h d = rw (← h) d

-- ---- `iter`, once source and start are typed: their checks, then the body

unfoldable pub iter_rest : Schema → List ℕ → ℕ → Env Ty → Ty → Ty → Typed
iter_rest m t n Γ c e = on_collection c (pure (refused 11 n)) (λ l x.
    if subtype m.parent e (type_in (word t n 6)) then body_at t n (type_in (word t n 6)) m (extend Γ (variable (word t n 4)) x) else pure (refused 11 n))

pub iter_rest_lem : {B A : List ℕ} {r : Result FlatType Refused} (m : Schema) (t : List ℕ) (n : ℕ) (Γ : Env Ty)
    → Tells (and_then (operand_at t n 1 m Γ) (λ c. and_then (operand_at t n 2 m Γ) (iter_rest m t n Γ c))) B A r → Tells (iterate_at t n m Γ) B A r
unfolding iterate_typing iter_rest body_at
iter_rest_lem m t n Γ d = d

module _ (m : Schema) (ps : List ℕ) (q : m.parent ≡ parents_in ps) (t : List ℕ) (n : ℕ) (Γ : Env Ty) (s e : Ty) {c : ℕ} (h : c ≡ outer_code s) where
  pub iter_source : {B : List ℕ} → c ≡ 0 → Tells (iter_rest m t n Γ s e) B B (Err (at WrongPiece n))
  unfolding iter_rest
  iter_source z = no_source _ s h n z

  pub iter_start : {B : List ℕ} {w : Ty} → (c ≡ 0 → ⊥) → w ≡ type_in (word t n 6) → false ≡ subtype (parents_in ps) e w → Tells (iter_rest m t n Γ s e) B B (Err (at WrongPiece n))
  unfolding iter_rest
  iter_start z v p = on_source _ s h _ z (rw (q, ← v, ← p) (done refl))

  pub iter_body : {B A : List ℕ} {r : Result FlatType Refused} {Δ : Env Ty} {w x : Ty} {i : ℕ} → (c ≡ 0 → ⊥) → w ≡ type_in (word t n 6) → true ≡ subtype (parents_in ps) e w → x ≡ member_type s → i ≡ variable (word t n 4)
      → Δ ≡ extend Γ i x → Tells (body_at t n w m Δ) B A r → Tells (iter_rest m t n Γ s e) B A r
  unfolding iter_rest
  iter_body z v p y o g d =
      on_source _ s h _ z (if_yes _ (subtype m.parent e (type_in (word t n 6))) (p ∙ ap (subtype (parents_in ps) e) v ∙ ap (λ (f : Parents). subtype f e (type_in (word t n 6))) (sym q)) (rw (← v, ← y, ← o, ← g) d))

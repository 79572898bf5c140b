-- `coll`: its members are typed one by one, and what is left, with the common type so far, comes to what the whole comes to.
-- Assumes nothing.
use mathlib.Core.Path.{◌≡◌, refl, ap, ◌∙◌, fun_ext}
use mathlib.Core.Option.{Option, none, some}
use mathlib.Core.List.{List}
use Prim.Native.Nat.{ℕ, zero, suc, ◌+◌, ◌-◌, ◌<◌, ◌≤◌}
use native.Mathlib.Omega.{arith}
use borrow.Author.Tests.{lt-ltb, le-ltb}
use Rattle.laws.specs.Choice.{on_some}
use Rattle.ocl.specs.Types.{exactly, Letter, Ty, void, join}
use Rattle.ocl.specs.Environment.{Env}
use Rattle.ocl.specs.Model.{Schema}
use Rattle.ocl.specs.Typing.{typed, Typed, pure, then_for, and_then, common, wrap, no_operand_typing, operand_typing, assemble_typing, operands_typing}
use Rattle.types.specs.declared.FlatType.{FlatType}
use Rattle.types.specs.Flat.{parents_in, letter_of, ty_of}
use Rattle.types.proofs.Parents.{parents_small}
use Rattle.nodes.specs.Nodes.{word, kind_of, operands_in}
use Rattle.judgements.specs.Replies.{meaning, join_more, Tells}
use Rattle.typing.specs.Tables.{operand_at, members_at, assemble_at}
use Rattle.judgements.proofs.Composition.{early, after, done, then_then}
use Rattle.typing.proofs.NodeTypings.{undef_done}
use Rattle.judgements.proofs.Joins.{void_first, void_last, more_two}
use Rattle.std.specs.Prelude.{Result, Ok, Err}
use Rattle.memory.specs.declared.refusals.Refused.{Refused}

-- ---- codes and letters

kind_by : (i : ℕ) → i < 3 → letter_of (2 + i) ≡ exactly (kind_of (27 + i))
unfolding letter_of kind_of
kind_by zero h = refl
kind_by (suc zero) h = refl
kind_by (suc (suc zero)) h = refl
kind_by (suc (suc (suc i))) h = absurd (omega arith)

-- codes 27 to 29 are the letters of codes 2 to 4
kind_letter : (k : ℕ) → 27 ≤ k → k < 30 → letter_of (k - 25) ≡ exactly (kind_of k)
kind_letter k l h =
    let x : k - 25 ≡ 2 + (k - 27) = omega arith in
    let y : 27 + (k - 27) ≡ k = omega arith in
    ap letter_of x ∙ kind_by (k - 27) (omega arith) ∙ ap (λ (z : ℕ). exactly (kind_of z)) y

-- ---- c members from word d on, where o is the common type of those before: their common type with o, and the letter around it

unfoldable pub lettered : ℕ → ℕ → Option Ty → Typed
lettered n k o = pure (common n o (wrap n (letter_of (k - 25))))

unfoldable pub members_left : Schema → List ℕ → ℕ → ℕ → ℕ → ℕ → Option Ty → Env Ty → Typed
members_left m t n k c d o Γ = and_then (members_at t n c d m Γ) (λ u. lettered n k (join_more m.parent o u))

-- i of the c members are typed
pub record Left (m : Schema) (t : List ℕ) (n k c i : ℕ) (o : Option Ty) (Γ : Env Ty) (before now : List ℕ) : Type 0 where
  pub goes : {after : List ℕ} {r : Result FlatType Refused} → Tells (members_left m t n k (c - i) (i + 1) o Γ) now after r → Tells (assemble_at t n k m Γ) before after r

-- ---- the definition, member by member

-- a refusal for want of a common type ends what follows
common_then : (n k : ℕ) (q : Option Ty) (f : Ty → Option Ty) → and_then (pure (common n q typed)) (λ w. lettered n k (f w)) ≡ lettered n k (on_some q f)
unfolding and_then then_for common lettered on_some
common_then n k none f = refl
common_then n k (some w) f = refl

members_by : (m : Schema) (t : List ℕ) (n c k d : ℕ) → c ≡ suc d → members_at t n c k m ≡ operand_typing m n (operand_at t n k m) (members_at t n d (k + 1) m)
unfolding members_at operands_in operands_typing operand_at
members_by m t n c k d e = rw e

members_none : (m : Schema) (t : List ℕ) (n c k : ℕ) (Γ : Env Ty) → c ≡ 0 → members_at t n c k m Γ ≡ pure (typed void)
unfolding members_at operands_in operands_typing no_operand_typing
members_none m t n c k Γ e = rw e

two_more : (m : Schema) (ps : List ℕ) → m.parent ≡ parents_in ps → (o : Option Ty) (s u : Ty) → on_some (join m.parent s u) (join_more m.parent o) ≡ join_more m.parent (join_more m.parent o s) u
two_more m ps q o s u = rw q (more_two (parents_in ps) (parents_small ps) o s u)

module _ (m : Schema) (t : List ℕ) (n k : ℕ) (Γ : Env Ty) (c : ℕ) where
  -- the members after member i
  abbrev others : ℕ → Typed
  others i = members_at t n (c - (i + 1)) (i + 1 + 1) m Γ

  -- the next member, and then the others with the common type so far
  left_by : (i : ℕ) (o : Option Ty) → i < c
      → members_left m t n k (c - i) (i + 1) o Γ
      ≡ and_then (operand_at t n (i + 1) m Γ) (λ s. and_then (and_then (others i) (λ u. pure (common n (join m.parent s u) typed))) (λ u. lettered n k (join_more m.parent o u)))
  unfolding members_left operand_typing
  left_by i o h = rw (members_by m t n (c - i) (i + 1) (c - (i + 1)) (omega arith)) (then_then (operand_at t n (i + 1) m Γ) _ _)

  others_by : (ps : List ℕ) → m.parent ≡ parents_in ps → (i : ℕ) (o : Option Ty) (s : Ty)
      → and_then (and_then (others i) (λ u. pure (common n (join m.parent s u) typed))) (λ u. lettered n k (join_more m.parent o u))
      ≡ members_left m t n k (c - (i + 1)) (i + 1 + 1) (join_more m.parent o s) Γ
  unfolding members_left
  others_by ps q i o s =
      then_then (others i) _ _
      ∙ ap (and_then (others i)) (fun_ext (λ u. common_then n k (join m.parent s u) (join_more m.parent o) ∙ ap (lettered n k) (two_more m ps q o s u)))

  pub assemble_over : {B : List ℕ} {r : FlatType} → c ≡ word t n 5 → 4 < c → ty_of r ≡ void → Tells (assemble_at t n k m Γ) B B (Ok r)
  unfolding assemble_at
  assemble_over e h v = rw (← e, lt-ltb 4 c h) (undef_done n Γ v)

  all_left : 27 ≤ k → k < 30 → members_left m t n k c 1 (some void) Γ ≡ assemble_typing n (kind_of k) (members_at t n c 1 m) Γ
  unfolding members_left lettered assemble_typing common
  all_left l g =
      ap (and_then (members_at t n c 1 m Γ))
      (fun_ext (λ u. ap (lettered n k) (void_first m.parent u) ∙ ap (λ (z : Letter). pure (wrap n z u)) (kind_letter k l g)))

  pub left_all : {B : List ℕ} {o : Option Ty} → c ≡ word t n 5 → c ≤ 4 → 27 ≤ k → k < 30 → o ≡ some void → Left m t n k c 0 o Γ B B
  unfolding assemble_at
  left_all e h l g v =
      let z : c - 0 ≡ c = omega arith in
      record { goes = λ d. rw (← e, le-ltb 4 c h) (rw (z, v, all_left l g) at d) }

  module _ {B now : List ℕ} (i : ℕ) (o : Option Ty) (left : Left m t n k c i o Γ B now) where
    pub left_refused : {next : List ℕ} {r : Result FlatType Refused} {a : Refused} → i < c → Tells (operand_at t n (i + 1) m Γ) now next r → r ≡ Err a → Tells (assemble_at t n k m Γ) B next (Err a)
    left_refused h d q = left.goes (rw (left_by i o h) (early _ d q))

    pub left_next : {next : List ℕ} {r : Result FlatType Refused} {s : FlatType} {w : Option Ty} (ps : List ℕ) → m.parent ≡ parents_in ps → i < c → Tells (operand_at t n (i + 1) m Γ) now next r → r ≡ Ok s
        → w ≡ join_more (parents_in ps) o (ty_of s) → Left m t n k c (i + 1) w Γ B next
    left_next {s = s} {w = w} ps e h d q v = record { goes = λ y. left.goes (rw (left_by i o h) (after _ d q (rw (others_by ps e i o (ty_of s)) (rw (v, ← e) at y)))) }

    pub left_done : {r : Result FlatType Refused} → c ≤ i → meaning r ≡ common n o (wrap n (letter_of (k - 25))) → Tells (assemble_at t n k m Γ) B now r
    unfolding members_left lettered and_then then_for
    left_done h v = left.goes (rw (members_none m t n (c - i) (i + 1) Γ (omega arith), void_last m.parent o) (done v))

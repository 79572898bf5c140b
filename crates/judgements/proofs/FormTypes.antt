-- The type of each form as the code finds it: one law for each answer. Assumes nothing.
use mathlib.Core.Path.{◌≡◌, refl, sym, ap, ◌∙◌}
use mathlib.Core.Bool.{Bool, true, false, ◌&&◌, ◌||◌}
use mathlib.Core.Option.{none, some, none-ne-some}
use mathlib.Core.List.{List}
use Prim.Native.Nat.{ℕ, zero, suc, ◌+◌, ◌-◌, ◌<◌, ◌≤◌}
use native.Mathlib.Omega.{arith}
use borrow.Author.Tests.{eq-eqb, ne_eqb, le-leb, lt-leb}
use Rattle.std.specs.Prelude.{if◌then◌else◌, Option as Optional, Some, None}
use Rattle.reals.specs.Words.{number_in}
use Rattle.ocl.specs.Types.{any, boolean, integer, real, class, Kind, set, sequence, bag, kind_code, same_kind, Letter, collection, exactly, Ty, void, simple, around, Boolean, Integer, Class, depth, Parents, simple_subtype, subtype, join}
use Rattle.ocl.specs.Environment.{Env}
use Rattle.ocl.specs.Model.{Schema, number_type}
use Rattle.ocl.specs.Typing.{Answer, typed, refused, below, common, wrap, on_collection, on_kind, bound_type, leaf_type, cast_type, unary_type, both_below, includes_type, including_type, union_type, conditional_type}
use Rattle.types.specs.declared.FlatType.{FlatType}
use Rattle.types.specs.Flat.{parents_in, letter_of, ty_of, joined_type}
use Rattle.types.specs.Parts.{code_of, outer_code, member_type, simple_class, class_of, is_any, class_number}
use Rattle.types.proofs.Members.{no_collection, is_collection, class_is}
use Rattle.nodes.specs.Nodes.{variable, class_in, leaf_of, unary_of}
use Rattle.judgements.proofs.Joins.{joined_yes, joined_no}

-- ---- collections and kinds

-- Void and simple types are no collection
pub no_members : {A : Type 0} (other : A) (k : Letter → Ty → A) (t : Ty) {c : ℕ} → c ≡ outer_code t → c ≡ 0 → other ≡ on_collection t other k
no_members other k t h z = sym (no_collection other k t (sym h ∙ z))

pub on_members : {A : Type 0} {a : A} (other : A) (k : Letter → Ty → A) (t : Ty) {c : ℕ} → c ≡ outer_code t → (c ≡ 0 → ⊥) → a ≡ k (letter_of (outer_code t)) (member_type t) → a ≡ on_collection t other k
on_members other k t h z e = e ∙ sym (is_collection other k t (λ q. z (h ∙ q)))

-- one answer for what is no collection of a kind
pub no_kind : (no11 : Answer) (k : Kind → Ty → Answer) (t : Ty) → outer_code t ≤ 1 → no11 ≡ on_collection t no11 (λ l x. on_kind l no11 (λ c. k c x))
unfolding on_collection on_kind outer_code code_of
no_kind no11 k void h = refl
no_kind no11 k (simple a) h = refl
no_kind no11 k (around collection t) h = refl
no_kind no11 k (around (exactly set) t) h = absurd (omega arith)
no_kind no11 k (around (exactly sequence) t) h = absurd (omega arith)
no_kind no11 k (around (exactly bag) t) h = absurd (omega arith)

-- and for one of a kind, whose code is at least 2
on_kind_lem : {a : Answer} (no11 : Answer) (k : Kind → Ty → Answer) (t : Ty) → 1 < outer_code t
    → ((c : Kind) → letter_of (outer_code t) ≡ exactly c → kind_code c + 2 ≡ outer_code t → a ≡ k c (member_type t)) → a ≡ on_collection t no11 (λ l x. on_kind l no11 (λ c. k c x))
unfolding on_collection on_kind outer_code code_of member_type letter_of kind_code
on_kind_lem no11 k void h f = absurd (omega arith)
on_kind_lem no11 k (simple a) h f = absurd (omega arith)
on_kind_lem no11 k (around collection t) h f = absurd (omega arith)
on_kind_lem no11 k (around (exactly set) t) h f = f set refl refl
on_kind_lem no11 k (around (exactly sequence) t) h f = f sequence refl refl
on_kind_lem no11 k (around (exactly bag) t) h f = f bag refl refl

-- ---- depth

module _ (n d : ℕ) (l : Letter) (t : Ty) (h : d ≡ depth t) where
  pub wrap_yes : {r : Ty} → d ≤ 2 → r ≡ around l t → typed r ≡ wrap n l t
  unfolding wrap
  wrap_yes k e = rw (e, ← h, le-leb d 2 k)

  pub wrap_no : 2 < d → refused 13 n ≡ wrap n l t
  unfolding wrap
  wrap_no k = rw (← h, lt-leb d 2 k)

-- ---- forms with no operand

module _ (n : ℕ) (w : ℕ → ℕ) (Γ : Env Ty) where
  pub leaf_truth : (k : ℕ) {r : Ty} → k < 2 → r ≡ Boolean → typed r ≡ leaf_type n (leaf_of k w) Γ
  unfolding leaf_type leaf_of
  leaf_truth zero h e = ap typed e
  leaf_truth (suc zero) h e = ap typed e
  leaf_truth (suc (suc k)) h e = absurd (omega arith)

  pub leaf_void : (k : ℕ) {r : Ty} → k ≡ 2 → r ≡ void → typed r ≡ leaf_type n (leaf_of k w) Γ
  unfolding leaf_type leaf_of
  leaf_void k q e = rw q (ap typed e)

  pub leaf_number : (k : ℕ) {v : ℕ} {r : Ty} → k ≡ 3 → v ≡ w 1 → r ≡ simple (number_type (number_in v)) → typed r ≡ leaf_type n (leaf_of k w) Γ
  unfolding leaf_type leaf_of
  leaf_number k q g e = rw (q, ← g) (ap typed e)

  pub leaf_self : (k : ℕ) {a : Answer} → k ≡ 4 → a ≡ bound_type n (Γ 0) → a ≡ leaf_type n (leaf_of k w) Γ
  unfolding leaf_type leaf_of
  leaf_self k q e = rw q e

  pub leaf_var : (k : ℕ) {a : Answer} → k ≡ 5 → a ≡ bound_type n (Γ (variable (w 1))) → a ≡ leaf_type n (leaf_of k w) Γ
  unfolding leaf_type leaf_of
  leaf_var k q e = rw q e

  pub leaf_all : (k : ℕ) {r : Ty} → 2 ≤ k → (k ≡ 2 → ⊥) → (k ≡ 3 → ⊥) → (k ≡ 4 → ⊥) → (k ≡ 5 → ⊥) → r ≡ around (exactly set) (Class (class_in (w 1))) → typed r ≡ leaf_type n (leaf_of k w) Γ
  unfolding leaf_type leaf_of
  leaf_all k h a b c d e = rw (ne_eqb k 0 (λ q. omega arith), ne_eqb k 1 (λ q. omega arith), ne_eqb k 2 a, ne_eqb k 3 b, ne_eqb k 4 c, ne_eqb k 5 d) (ap typed e)

-- ---- over a model whose parents the code reads

module _ (m : Schema) (ps : List ℕ) (e : m.parent ≡ parents_in ps) (n : ℕ) where
  -- a test of the code is the model's
  tested : {q : Bool} (t : Ty) {u w : Ty} → q ≡ subtype (parents_in ps) t u → u ≡ w → q ≡ subtype m.parent t w
  tested t h k = rw (e, ← k) h

  pub condition_yes : (t : Ty) {r w : Ty} → r ≡ Boolean → w ≡ Boolean → true ≡ subtype (parents_in ps) t w → typed r ≡ below m n t Boolean (typed Boolean)
  condition_yes t p k h = rw (← tested t h k) (ap typed p)

  pub condition_no : (t : Ty) {w : Ty} → w ≡ Boolean → false ≡ subtype (parents_in ps) t w → refused 11 n ≡ below m n t Boolean (typed Boolean)
  condition_no t k h = rw (← tested t h k)

  -- a type that is below w, or not
  pub below_yes : (t w : Ty) → true ≡ subtype (parents_in ps) t w → typed w ≡ below m n t w (typed w)
  below_yes t w h = rw (e, ← h)

  pub below_no : (t w : Ty) → false ≡ subtype (parents_in ps) t w → refused 11 n ≡ below m n t w (typed w)
  below_no t w h = rw (e, ← h)

  module _ (w r t u : Ty) where
    both_by : (a b c : Bool) → c ≡ (a && b) → (if c then typed r else refused 11 n) ≡ (if a then (if b then typed r else refused 11 n) else refused 11 n)
    both_by true b c h = rw h
    both_by false b c h = rw h

    module _ {b : Bool} (under : b ≡ (subtype (parents_in ps) t w && subtype (parents_in ps) u w)) where
      both_is : (if b then typed r else refused 11 n) ≡ both_below m n w r t u
      unfolding both_below
      both_is = rw e (both_by (subtype (parents_in ps) t w) (subtype (parents_in ps) u w) b under)

      pub both_yes : b ≡ true → typed r ≡ both_below m n w r t u
      both_yes k = rw k at both_is

      pub both_no : b ≡ false → refused 11 n ≡ both_below m n w r t u
      both_no k = rw k at both_is

  -- the common type, and whatever it leads to
  module _ (t u : Ty) (k : Ty → Answer) (x : Optional FlatType) (h : joined_type x ≡ join (parents_in ps) t u) where
    pub common_of : {a : Answer} → a ≡ common n (joined_type x) k → a ≡ common n (join m.parent t u) k
    common_of p = rw (e, ← h) p

    pub common_yes : {w : FlatType} {a : Answer} → x ≡ Some w → a ≡ k (ty_of w) → a ≡ common n (join m.parent t u) k
    common_yes q p = common_of (joined_yes n k x q p)

    pub common_no : x ≡ None → refused 10 n ≡ common n (join m.parent t u) k
    common_no q = common_of (joined_no n k x q)

  -- `if`
  pub choice_yes : (c t u : Ty) {w : Ty} {a : Answer} → w ≡ Boolean → true ≡ subtype (parents_in ps) c w → a ≡ common n (join m.parent t u) typed → a ≡ conditional_type m n c t u
  unfolding conditional_type
  choice_yes c t u k h p = rw (← tested c h k) p

  pub choice_no : (c t u : Ty) {w : Ty} → w ≡ Boolean → false ≡ subtype (parents_in ps) c w → refused 11 n ≡ conditional_type m n c t u
  unfolding conditional_type
  choice_no c t u k h = rw (← tested c h k)

  -- `as`
  module _ (c : ℕ) where
    pub cast_any : (t : Ty) {r : Ty} → true ≡ is_any t → r ≡ Class c → typed r ≡ cast_type m n c t
    unfolding cast_type is_any
    cast_any void h p = absurd (let z : ◌≡◌ {A = ℕ} 0 1 = cc in omega arith)
    cast_any (simple any) h p = ap typed p
    cast_any (simple boolean) h p = absurd (let z : ◌≡◌ {A = ℕ} 0 1 = cc in omega arith)
    cast_any (simple integer) h p = absurd (let z : ◌≡◌ {A = ℕ} 0 1 = cc in omega arith)
    cast_any (simple real) h p = absurd (let z : ◌≡◌ {A = ℕ} 0 1 = cc in omega arith)
    cast_any (simple (class d)) h p = absurd (let z : ◌≡◌ {A = ℕ} 0 1 = cc in omega arith)
    cast_any (around l t) h p = absurd (let z : ◌≡◌ {A = ℕ} 0 1 = cc in omega arith)

    cast_not : (t : Ty) → false ≡ is_any t → none ≡ class_of t → refused 11 n ≡ cast_type m n c t
    unfolding cast_type is_any class_of simple_class
    cast_not void h p = refl
    cast_not (simple any) h p = absurd (let z : ◌≡◌ {A = ℕ} 0 1 = cc in omega arith)
    cast_not (simple boolean) h p = refl
    cast_not (simple integer) h p = refl
    cast_not (simple real) h p = refl
    cast_not (simple (class d)) h p = absurd (none-ne-some _ p)
    cast_not (around l t) h p = refl

    -- neither Any nor a class
    pub cast_other : (t : Ty) (x : Optional ℕ) → false ≡ is_any t → class_number x ≡ class_of t → x ≡ None → refused 11 n ≡ cast_type m n c t
    unfolding class_number
    cast_other t x h p q = cast_not t h (ap class_number (sym q) ∙ p)

    cast_by : (t : Ty) (d : ℕ) → some d ≡ class_of t → cast_type m n c t ≡ (if simple_subtype m.parent (class d) (class c) || simple_subtype m.parent (class c) (class d) then typed (Class c) else refused 10 n)
    unfolding cast_type subtype
    cast_by t d p = ap (cast_type m n c) (class_is t d p)

    module _ (t : Ty) (d : ℕ) (x : Optional ℕ) (p : class_number x ≡ class_of t) (q : x ≡ Some d) where
      cast_is : cast_type m n c t ≡ (if simple_subtype (parents_in ps) (class d) (class c) || simple_subtype (parents_in ps) (class c) (class d) then typed (Class c) else refused 10 n)
      unfolding class_number
      cast_is = cast_by t d (ap class_number (sym q) ∙ p) ∙ ap (λ (f : Parents). if simple_subtype f (class d) (class c) || simple_subtype f (class c) (class d) then typed (Class c) else refused 10 n) e

      pub cast_up : {r : Ty} → true ≡ simple_subtype (parents_in ps) (class d) (class c) → r ≡ Class c → typed r ≡ cast_type m n c t
      cast_up h k = ap typed k ∙ sym (cast_is ∙ rw (← h))

      pub cast_down : {r : Ty} → false ≡ simple_subtype (parents_in ps) (class d) (class c) → true ≡ simple_subtype (parents_in ps) (class c) (class d) → r ≡ Class c → typed r ≡ cast_type m n c t
      cast_down h g k = ap typed k ∙ sym (cast_is ∙ rw (← h, ← g))

      pub cast_apart : false ≡ simple_subtype (parents_in ps) (class d) (class c) → false ≡ simple_subtype (parents_in ps) (class c) (class d) → refused 10 n ≡ cast_type m n c t
      cast_apart h g = sym (cast_is ∙ rw (← h, ← g))

-- ---- the second operand of `union`, where the first is of kind k

unfoldable both_kinds : Schema → ℕ → Ty → Kind → Ty → Answer
both_kinds m n u k x = on_collection u (refused 11 n) (λ r y. on_kind r (refused 11 n) (λ l. if same_kind k l then common n (join m.parent x y) (wrap n (exactly k)) else refused 11 n))

module _ (m : Schema) (n : ℕ) (u : Ty) (k : Kind) (x : Ty) where
  other_kind : (d : ℕ) → d ≡ outer_code u → (kind_code k + 2 ≡ d → ⊥) → refused 11 n ≡ both_kinds m n u k x
  unfolding both_kinds same_kind
  other_kind zero g ne = no_kind (refused 11 n) (λ l y. if same_kind k l then common n (join m.parent x y) (wrap n (exactly k)) else refused 11 n) u (omega arith)
  other_kind (suc zero) g ne = no_kind (refused 11 n) (λ l y. if same_kind k l then common n (join m.parent x y) (wrap n (exactly k)) else refused 11 n) u (omega arith)
  other_kind (suc (suc d)) g ne =
      on_kind_lem (refused 11 n) (λ l y. if same_kind k l then common n (join m.parent x y) (wrap n (exactly k)) else refused 11 n) u (omega arith)
      (λ l q s. rw (ne_eqb (kind_code k) (kind_code l) (λ e. ne (omega arith))))

  same_kind_lem : {a : Answer} → kind_code k + 2 ≡ outer_code u → a ≡ common n (join m.parent x (member_type u)) (wrap n (exactly k)) → a ≡ both_kinds m n u k x
  unfolding both_kinds same_kind
  same_kind_lem g p =
      on_kind_lem (refused 11 n) (λ l y. if same_kind k l then common n (join m.parent x y) (wrap n (exactly k)) else refused 11 n) u (omega arith)
      (λ l q s. rw (eq-eqb (kind_code k) (kind_code l) (omega arith)) p)

-- ---- which form a code is

module _ (m : Schema) (n : ℕ) where
  module _ (w : ℕ → ℕ) (k : ℕ) (t : Ty) {a : Answer} where
    pub unary_not : k ≡ 7 → a ≡ below m n t Boolean (typed Boolean) → a ≡ unary_type m n (unary_of k w) t
    unfolding unary_type unary_of
    unary_not q h = rw q h

    pub unary_size : k ≡ 8 → a ≡ on_collection t (refused 11 n) (λ l u. typed Integer) → a ≡ unary_type m n (unary_of k w) t
    unfolding unary_type unary_of
    unary_size q h = rw q h

    pub unary_cast : (k ≡ 7 → ⊥) → (k ≡ 8 → ⊥) → (9 ≤ k → k ≤ 11 → ⊥) → a ≡ cast_type m n (class_in (w 2)) t → a ≡ unary_type m n (unary_of k w) t
    unfolding unary_type unary_of
    unary_cast p q r h = rw (ne_eqb k 7 p, ne_eqb k 8 q, ne_eqb k 9 (λ z. r (omega arith) (omega arith)), ne_eqb k 10 (λ z. r (omega arith) (omega arith)), ne_eqb k 11 (λ z. r (omega arith) (omega arith))) h

  convert_by : (w : ℕ → ℕ) (i : ℕ) (t : Ty) {a : Answer} → i < 3 → a ≡ on_collection t (refused 11 n) (λ l u. wrap n (letter_of (2 + i)) u) → a ≡ unary_type m n (unary_of (9 + i) w) t
  unfolding unary_type unary_of letter_of
  convert_by w zero t h p = p
  convert_by w (suc zero) t h p = p
  convert_by w (suc (suc zero)) t h p = p
  convert_by w (suc (suc (suc i))) t h p = absurd (omega arith)

  -- codes 9 to 11 are the kinds of codes 2 to 4
  pub unary_convert : (w : ℕ → ℕ) (k : ℕ) (t : Ty) {a : Answer} → 9 ≤ k → k ≤ 11 → a ≡ on_collection t (refused 11 n) (λ l u. wrap n (letter_of (k - 7)) u) → a ≡ unary_type m n (unary_of k w) t
  unary_convert w k t l h p =
      let x : k ≡ 9 + (k - 9) = omega arith in
      let y : k - 7 ≡ 2 + (k - 9) = omega arith in
      rw x (convert_by w (k - 9) t (omega arith) (rw y at p))

  -- ---- `includes`, `including` and `union`

  module _ (t u : Ty) (c : ℕ) (h : c ≡ outer_code t) where
    pub includes_no : c ≡ 0 → refused 11 n ≡ includes_type m n t u
    unfolding includes_type
    includes_no z = no_members (refused 11 n) (λ l x. common n (join m.parent x u) (λ w. typed Boolean)) t h z

    pub includes_yes : {x : Ty} {a : Answer} → (c ≡ 0 → ⊥) → x ≡ member_type t → a ≡ common n (join m.parent x u) (λ w. typed Boolean) → a ≡ includes_type m n t u
    unfolding includes_type
    includes_yes z e p = on_members (refused 11 n) (λ l x. common n (join m.parent x u) (λ w. typed Boolean)) t h z (rw (← e) p)

    pub including_no : c ≤ 1 → refused 11 n ≡ including_type m n t u
    unfolding including_type
    including_no z = no_kind (refused 11 n) (λ k x. common n (join m.parent x u) (wrap n (exactly k))) t (omega arith)

    pub including_yes : {x : Ty} {a : Answer} → 1 < c → x ≡ member_type t → a ≡ common n (join m.parent x u) (wrap n (letter_of c)) → a ≡ including_type m n t u
    unfolding including_type
    including_yes z e p = on_kind_lem (refused 11 n) (λ k x. common n (join m.parent x u) (wrap n (exactly k))) t (omega arith) (λ k l s. rw (← l, ← h, ← e) p)

    pub union_no : c ≤ 1 → refused 11 n ≡ union_type m n t u
    unfolding union_type both_kinds
    union_no z = no_kind (refused 11 n) (both_kinds m n u) t (omega arith)

    module _ (d : ℕ) (g : d ≡ outer_code u) (z : 1 < c) where
      pub union_other : (d ≡ c → ⊥) → refused 11 n ≡ union_type m n t u
      unfolding union_type both_kinds
      union_other ne = on_kind_lem (refused 11 n) (both_kinds m n u) t (omega arith) (λ k l s. other_kind m n u k (member_type t) d g (λ e. ne (omega arith)))

      pub union_yes : {x y : Ty} {a : Answer} → d ≡ c → x ≡ member_type t → y ≡ member_type u → a ≡ common n (join m.parent x y) (wrap n (letter_of c)) → a ≡ union_type m n t u
      unfolding union_type both_kinds
      union_yes q v w p = on_kind_lem (refused 11 n) (both_kinds m n u) t (omega arith) (λ k l s. same_kind_lem m n u k (member_type t) (omega arith) (rw (← w, ← v, ← l, ← h) p))

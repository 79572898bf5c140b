-- Laws of a type's codes: the subtype test and the common type, one code after the other. Assumes nothing.
use mathlib.Core.Path.{◌≡◌, refl, sym, ap, ◌∙◌}
use mathlib.Core.Bool.{Bool, true, false, ◌&&◌}
use mathlib.Core.Option.{none, some}
use Prim.Native.Nat.{ℕ, zero, suc, ◌≤◌, ◌<◌}
use native.Mathlib.Omega.{arith}
use lib.Dec.{eqb}
use borrow.Author.Tests.{ne_eqb}
use Rattle.laws.proofs.Tests.{test_true}
use Rattle.ocl.specs.Types.{Letter, collection, exactly, Ty, around, Parents, kind_code, same_kind, letter_subtype, letter_join, subtype, join, around_some}
use Rattle.ocl.proofs.Types.{same_kind_refl}
use Rattle.types.specs.declared.Base.{Base}
use Rattle.types.specs.declared.Base.TheVariants as b
use Rattle.types.specs.declared.FlatType.{FlatType}
use Rattle.types.specs.Flat.{base_type, base_tag, letter_of, layer, ty_of, under, bare, level, joined_type, type_to, joined_to, JoinsOneMore}
use Rattle.types.proofs.Cases.{by_base, by_simple, is_void}
use Rattle.std.specs.Prelude.{Option as Optional, Some, None}

-- ---- letters

below_collection : (x : Letter) → true ≡ letter_subtype x collection
unfolding letter_subtype
below_collection collection = refl
below_collection (exactly k) = refl

pub letter_low : (k l : ℕ) → l < 2 → true ≡ letter_subtype (letter_of k) (letter_of l)
unfolding letter_of
letter_low k zero h = below_collection (letter_of k)
letter_low k (suc zero) h = below_collection (letter_of k)
letter_low k (suc (suc l)) h = absurd (omega arith)

pub letter_high : (k l : ℕ) → 4 < l → true ≡ letter_subtype (letter_of k) (letter_of l)
unfolding letter_of
letter_high k zero h = absurd (omega arith)
letter_high k (suc zero) h = absurd (omega arith)
letter_high k (suc (suc zero)) h = absurd (omega arith)
letter_high k (suc (suc (suc zero))) h = absurd (omega arith)
letter_high k (suc (suc (suc (suc zero)))) h = absurd (omega arith)
letter_high k (suc (suc (suc (suc (suc l))))) h = below_collection (letter_of k)

-- a letter of one kind is below itself alone
pub letter_exact : (k l : ℕ) → 2 ≤ l → l ≤ 4 → eqb k l ≡ letter_subtype (letter_of k) (letter_of l)
unfolding letter_of letter_subtype same_kind kind_code
letter_exact k zero h m = absurd (omega arith)
letter_exact k (suc zero) h m = absurd (omega arith)
letter_exact zero (suc (suc zero)) h m = refl
letter_exact (suc zero) (suc (suc zero)) h m = refl
letter_exact (suc (suc zero)) (suc (suc zero)) h m = refl
letter_exact (suc (suc (suc zero))) (suc (suc zero)) h m = refl
letter_exact (suc (suc (suc (suc zero)))) (suc (suc zero)) h m = refl
letter_exact (suc (suc (suc (suc (suc k))))) (suc (suc zero)) h m = ne_eqb (suc (suc (suc (suc (suc k))))) 2 (λ e. omega arith)
letter_exact zero (suc (suc (suc zero))) h m = refl
letter_exact (suc zero) (suc (suc (suc zero))) h m = refl
letter_exact (suc (suc zero)) (suc (suc (suc zero))) h m = refl
letter_exact (suc (suc (suc zero))) (suc (suc (suc zero))) h m = refl
letter_exact (suc (suc (suc (suc zero)))) (suc (suc (suc zero))) h m = refl
letter_exact (suc (suc (suc (suc (suc k))))) (suc (suc (suc zero))) h m = ne_eqb (suc (suc (suc (suc (suc k))))) 3 (λ e. omega arith)
letter_exact zero (suc (suc (suc (suc zero)))) h m = refl
letter_exact (suc zero) (suc (suc (suc (suc zero)))) h m = refl
letter_exact (suc (suc zero)) (suc (suc (suc (suc zero)))) h m = refl
letter_exact (suc (suc (suc zero))) (suc (suc (suc (suc zero)))) h m = refl
letter_exact (suc (suc (suc (suc zero)))) (suc (suc (suc (suc zero)))) h m = refl
letter_exact (suc (suc (suc (suc (suc k))))) (suc (suc (suc (suc zero)))) h m = ne_eqb (suc (suc (suc (suc (suc k))))) 4 (λ e. omega arith)
letter_exact k (suc (suc (suc (suc (suc l))))) h m = absurd (omega arith)

join_self : (x : Letter) → x ≡ letter_join x x
unfolding letter_join
join_self collection = refl
join_self (exactly k) = rw (test_true (same_kind k k) (same_kind_refl k))

pub letter_same : (k l : ℕ) → k ≡ l → letter_of k ≡ letter_join (letter_of k) (letter_of l)
letter_same k l e = rw (sym e) (join_self (letter_of k))

pub letter_apart : (k l : ℕ) → (k ≡ l → ⊥) → letter_of 1 ≡ letter_join (letter_of k) (letter_of l)
unfolding letter_of letter_join same_kind kind_code
letter_apart zero l n = refl
letter_apart (suc zero) l n = refl
letter_apart (suc (suc (suc (suc (suc k))))) l n = refl
letter_apart (suc (suc zero)) zero n = refl
letter_apart (suc (suc zero)) (suc zero) n = refl
letter_apart (suc (suc zero)) (suc (suc zero)) n = absurd (n refl)
letter_apart (suc (suc zero)) (suc (suc (suc zero))) n = refl
letter_apart (suc (suc zero)) (suc (suc (suc (suc zero)))) n = refl
letter_apart (suc (suc zero)) (suc (suc (suc (suc (suc l))))) n = refl
letter_apart (suc (suc (suc zero))) zero n = refl
letter_apart (suc (suc (suc zero))) (suc zero) n = refl
letter_apart (suc (suc (suc zero))) (suc (suc zero)) n = refl
letter_apart (suc (suc (suc zero))) (suc (suc (suc zero))) n = absurd (n refl)
letter_apart (suc (suc (suc zero))) (suc (suc (suc (suc zero)))) n = refl
letter_apart (suc (suc (suc zero))) (suc (suc (suc (suc (suc l))))) n = refl
letter_apart (suc (suc (suc (suc zero)))) zero n = refl
letter_apart (suc (suc (suc (suc zero)))) (suc zero) n = refl
letter_apart (suc (suc (suc (suc zero)))) (suc (suc zero)) n = refl
letter_apart (suc (suc (suc (suc zero)))) (suc (suc (suc zero))) n = refl
letter_apart (suc (suc (suc (suc zero)))) (suc (suc (suc (suc zero)))) n = absurd (n refl)
letter_apart (suc (suc (suc (suc zero)))) (suc (suc (suc (suc (suc l))))) n = refl

-- ---- one level of the subtype test

void_by : (t l : ℕ) (ends more : Bool) → (l ≡ 0 → ⊥) → eqb t 0 ≡ level t 0 l ends more
unfolding level
void_by t zero ends more h = absurd (h refl)
void_by t (suc l) ends more h = refl

none_by : (t k : ℕ) (ends more : Bool) → (k ≡ 0 → ⊥) → false ≡ level t k 0 ends more
unfolding level
none_by t zero ends more h = absurd (h refl)
none_by t (suc k) ends more h = refl

pub level_both : (t k l : ℕ) (ends more : Bool) → (k ≡ 0 → ⊥) → (l ≡ 0 → ⊥) → (x : Bool) → x ≡ letter_subtype (letter_of k) (letter_of l) → x && more ≡ level t k l ends more
unfolding level
level_both t zero l ends more h n x e = absurd (h refl)
level_both t (suc k) zero ends more h n x e = absurd (n refl)
level_both t (suc k) (suc l) ends more h n x e = rw (sym e)

module _ (t k l : ℕ) (ends more : Bool) where
  pub level_ends : k ≡ 0 → l ≡ 0 → ends ≡ level t k l ends more
  unfolding level
  level_ends p q = rw (p, q)

  pub level_void : k ≡ 0 → (l ≡ 0 → ⊥) → eqb t 0 ≡ level t k l ends more
  level_void p q = rw p (void_by t l ends more q)

  pub level_none : (k ≡ 0 → ⊥) → l ≡ 0 → false ≡ level t k l ends more
  level_none p q = rw q (none_by t k ends more p)

-- the level's test is that of the types
void_end : (parent : Parents) (a : Base) (l : Letter) (u : Ty) → eqb (base_tag a) 0 ≡ subtype parent (base_type a) (around l u)
unfolding subtype
void_end parent b.Void l u = refl
void_end parent b.Bool l u = refl
void_end parent b.Int l u = refl
void_end parent b.Any l u = refl
void_end parent b.Real l u = refl
void_end parent (b.Class n) l u = refl

collection_end : (parent : Parents) (x : Base) (k : Letter) (t : Ty) → false ≡ subtype parent (around k t) (base_type x)
unfolding subtype
collection_end parent x k t = by_base (λ u. false ≡ subtype parent (around k t) u) refl (λ s. refl) x

level_law : (parent : Parents) (a x : Base) (k l : ℕ) (t u : Ty) → level (base_tag a) k l (subtype parent (base_type a) (base_type x)) (subtype parent t u) ≡ subtype parent (layer k (base_type a) t) (layer l (base_type x) u)
unfolding level layer subtype
level_law parent a x zero zero t u = refl
level_law parent a x zero (suc l) t u = void_end parent a (letter_of (suc l)) u
level_law parent a x (suc k) zero t u = collection_end parent x (letter_of (suc k)) t
level_law parent a x (suc k) (suc l) t u = refl

-- the three levels
pub subtype_law : (parent : Parents) (f g : FlatType) (v : ℕ) (e x y r : Bool) → v ≡ base_tag f.base → e ≡ subtype parent (base_type f.base) (base_type g.base)
    → x ≡ level v f.inner g.inner e e → y ≡ level v f.middle g.middle e x → r ≡ level v f.outer g.outer e y → r ≡ subtype parent (ty_of f) (ty_of g)
subtype_law parent f g v e x y r a h p q s =
    let p' = p ∙ ap (λ z. level z f.inner g.inner e e) a ∙ ap (λ z. level (base_tag f.base) f.inner g.inner z z) h ∙ level_law parent f.base g.base f.inner g.inner _ _ in
    let q' = q ∙ ap (λ z. level z f.middle g.middle e x) a ∙ ap (λ z. level (base_tag f.base) f.middle g.middle z x) h ∙ ap (level (base_tag f.base) f.middle g.middle _) p' ∙ level_law parent f.base g.base f.middle g.middle _ _ in
    s ∙ ap (λ z. level z f.outer g.outer e y) a ∙ ap (λ z. level (base_tag f.base) f.outer g.outer z y) h ∙ ap (level (base_tag f.base) f.outer g.outer _) q' ∙ level_law parent f.base g.base f.outer g.outer _ _

-- ---- one level of the common type

pub layer_on : (k : ℕ) (x t : Ty) → (k ≡ 0 → ⊥) → layer k x t ≡ around (letter_of k) t
unfolding layer
layer_on zero x t h = absurd (h refl)
layer_on (suc k) x t h = refl

void_left : (parent : Parents) (a : Base) (u : Ty) → base_tag a ≡ 0 → some u ≡ join parent (base_type a) u
unfolding join
void_left parent a u h = rw (is_void a h)

no_left : (parent : Parents) (a : Base) (k : Letter) (u : Ty) → (base_tag a ≡ 0 → ⊥) → none ≡ join parent (base_type a) (around k u)
unfolding join
no_left parent a k u = by_simple (λ t. none ≡ join parent t (around k u)) (λ s. refl) a

void_right : (parent : Parents) (a : Base) (k : Letter) (u : Ty) → base_tag a ≡ 0 → some (around k u) ≡ join parent (around k u) (base_type a)
unfolding join
void_right parent a k u h = rw (is_void a h)

no_right : (parent : Parents) (a : Base) (k : Letter) (u : Ty) → (base_tag a ≡ 0 → ⊥) → none ≡ join parent (around k u) (base_type a)
unfolding join
no_right parent a k u = by_simple (λ t. none ≡ join parent (around k u) t) (λ s. refl) a

-- below the third code the first two say all
inner_free : (d : ℕ) (f : FlatType) → d < 3 → type_to d (record { base = f.base; outer = f.outer; middle = f.middle; inner = 0 }) ≡ type_to d f
unfolding type_to
inner_free zero f h = refl
inner_free (suc zero) f h = refl
inner_free (suc (suc zero)) f h = refl
inner_free (suc (suc (suc d))) f h = absurd (omega arith)

module _ (parent : Parents) (e : Base) (f g : FlatType) (inner : Optional FlatType) where
  pub join_ends : f.outer ≡ 0 → g.outer ≡ 0 → (t : FlatType) → t ≡ bare e → JoinsOneMore parent e f g inner (Some t)
  unfolding joined_to type_to layer
  join_ends p q t n = record { step = λ h d l i. rw (n, p, q) h }

  pub join_left : f.outer ≡ 0 → base_tag f.base ≡ 0 → JoinsOneMore parent e f g inner (Some g)
  unfolding joined_to type_to layer
  join_left p t = record { step = λ h d l i. rw p (void_left parent f.base _ t) }

  pub join_no_left : f.outer ≡ 0 → (g.outer ≡ 0 → ⊥) → (base_tag f.base ≡ 0 → ⊥) → JoinsOneMore parent e f g inner None
  unfolding joined_to type_to layer
  join_no_left p q t = record { step = λ h d l i. rw (layer_on g.outer (base_type g.base) (type_to d (under g)) q, p) (no_left parent f.base (letter_of g.outer) (type_to d (under g)) t) }

  pub join_right : (f.outer ≡ 0 → ⊥) → g.outer ≡ 0 → base_tag g.base ≡ 0 → JoinsOneMore parent e f g inner (Some f)
  unfolding joined_to type_to layer
  join_right p q t = record { step = λ h d l i. rw (layer_on f.outer (base_type f.base) (type_to d (under f)) p, q) (void_right parent g.base (letter_of f.outer) (type_to d (under f)) t) }

  pub join_no_right : (f.outer ≡ 0 → ⊥) → g.outer ≡ 0 → (base_tag g.base ≡ 0 → ⊥) → JoinsOneMore parent e f g inner None
  unfolding joined_to type_to layer
  join_no_right p q t = record { step = λ h d l i. rw (layer_on f.outer (base_type f.base) (type_to d (under f)) p, q) (no_right parent g.base (letter_of f.outer) (type_to d (under f)) t) }

  pub join_nothing : (f.outer ≡ 0 → ⊥) → (g.outer ≡ 0 → ⊥) → inner ≡ None → JoinsOneMore parent e f g inner inner
  unfolding joined_to type_to join around_some
  join_nothing p q n = record {
    step = λ h d l i.
        let z : none ≡ join parent (type_to d (under f)) (type_to d (under g)) = (rw n at i) in
        rw (n, layer_on f.outer (base_type f.base) (type_to d (under f)) p, layer_on g.outer (base_type g.base) (type_to d (under g)) q, ← z) refl;
  }

  pub join_both : (t : FlatType) (m : ℕ) → (f.outer ≡ 0 → ⊥) → (g.outer ≡ 0 → ⊥) → inner ≡ Some t → (0 < m) × (letter_of m ≡ letter_join (letter_of f.outer) (letter_of g.outer)) → JoinsOneMore parent e f g inner (Some (record { base = t.base; outer = m; middle = t.outer; inner = t.middle }))
  unfolding joined_to type_to join around_some
  join_both t m p q n w = record {
    step = λ h d l i.
        let z : some (type_to d t) ≡ join parent (type_to d (under f)) (type_to d (under g)) = (rw n at i) in
        let k : m ≡ 0 → ⊥ = (λ u. let v = w.0 in omega arith) in
        rw (layer_on f.outer (base_type f.base) (type_to d (under f)) p, layer_on g.outer (base_type g.base) (type_to d (under g)) q, ← z, ← w.1, layer_on m (base_type t.base) (type_to d (under (record { base = t.base; outer = m; middle = t.outer; inner = t.middle }))) k) (ap (λ x. some (around (letter_of m) x)) (inner_free d t l));
  }

-- the three levels
joined_whole : (x : Optional FlatType) → joined_to 3 x ≡ joined_type x
unfolding joined_to joined_type type_to
joined_whole (Some f) = refl
joined_whole None = refl

pub join_law : (parent : Parents) (e : Base) (f g : FlatType) (x y r : Optional FlatType) → some (base_type e) ≡ join parent (base_type f.base) (base_type g.base)
    → JoinsOneMore parent e (under (under f)) (under (under g)) (Some (bare e)) x → JoinsOneMore parent e (under f) (under g) x y → JoinsOneMore parent e f g y r
    → joined_type r ≡ join parent (ty_of f) (ty_of g)
unfolding type_to joined_to
join_law parent e f g x y r h a c d =
    sym (joined_whole r) ∙ d.step h 2 (omega arith) (c.step h 1 (omega arith) (a.step h 0 (omega arith) h))

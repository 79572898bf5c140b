-- What holds of every type that typing answers with, where it holds of the types that a tree names, of the rows' and of the variables':
-- one induction over the forms. Assumes nothing.
use mathlib.Core.Path.{◌≡◌}
use mathlib.Core.Bool.{true, ◌&&◌, ◌||◌}
use mathlib.Core.Option.{Option, none, some}
use Prim.Native.Nat.{ℕ}
use lib.Dec.{T, eqb, leb}
use Rattle.laws.proofs.Tests.{by-if, All?, all_none, all_some}
use Rattle.reals.specs.Reals.{Number, int, real}
use Rattle.ocl.specs.Environment.{Env, extend, start}
use Rattle.ocl.specs.Types.{Simple, any, boolean, integer, class, set, Letter, exactly, Ty, void, simple, around, Boolean, Integer, Real, Class, depth, same_kind, subtype, join}
use Rattle.ocl.specs.Model.{Schema, number_type, row_read}
use Rattle.ocl.specs.Forms.{Access, of_object, of_members, Leaf, truth, undef, number, self, var, all, Unary, negation, size_of, convert, cast_to, Binary, equal, less, arith, divide, over, includes, including, union, Expr, node, Form, leaf, unary, binary, connective, is_undef, conditional, let_in, attribute, call, quantified, iterate, assemble, Operands, no_operand, operand}
use Rattle.ocl.specs.Marks.{Scale, integers, reals, Mark, of_row, of_rows}
use Rattle.ocl.specs.Typing.{Answer, typed, scale_type, scaled, on_numbers, includes_type, including_type, union_type, wrap, collect_kind, bound_type, leaf_type, cast_type, unary_type, both_below, binary_type, conditional_type, row_type, attribute_type, leaf_typing, unary_typing, binary_typing, connective_typing, is_undef_typing, conditional_typing, let_typing, attribute_typing, call_type, call_typing, quantified_typing, iterate_typing, no_operand_typing, operand_typing, assemble_typing, typing, form_typing, operands_typing, type_rule}
use Rattle.ocl.specs.Laws.{Agree}
use Rattle.ocl.proofs.Means.{Gives, no_type, gives, gives_type, gives_if, gives_common, gives_collection, gives_class, gives_kind, Means, means_pure, means_then, means_collection, means_class, means_if}

-- ---- the types that a tree names, with those of the definitions that it calls itself

unfoldable pub leaf_names : Leaf → Option Ty
leaf_names (truth b) = none
leaf_names undef = none
leaf_names (number x) = none
leaf_names self = none
leaf_names (var i) = none
leaf_names (all c) = some (Class c)

unfoldable pub unary_names : Unary → Option Ty
unary_names negation = none
unary_names size_of = none
unary_names (convert k) = none
unary_names (cast_to c) = some (Class c)

unfoldable mutual
  pub Named : (Ty → Type 0) → Expr → Type 0
  Named W (node n f) = NamedIn W f

  pub NamedIn : (Ty → Type 0) → Form → Type 0
  NamedIn W (leaf l) = All? W (leaf_names l)
  NamedIn W (unary op a) = All? W (unary_names op) × Named W a
  NamedIn W (binary op a b) = Named W a × Named W b
  NamedIn W (connective c a b) = Named W a × Named W b
  NamedIn W (is_undef a) = Named W a
  NamedIn W (conditional c a b) = Named W c × Named W a × Named W b
  NamedIn W (let_in i a b) = Named W a × Named W b
  NamedIn W (attribute x name a) = Named W a
  NamedIn W (call c t a b) = W t × Named W a
  NamedIn W (quantified q i a b) = Named W a × Named W b
  NamedIn W (iterate i j t a e b) = W t × Named W a × Named W e × Named W b
  NamedIn W (assemble k es) = NamedOf W es

  pub NamedOf : (Ty → Type 0) → Operands → Type 0
  NamedOf W no_operand = T true
  NamedOf W (operand e es) = Named W e × NamedOf W es

-- ---- what typing makes of types

pub record Closed (s : Schema) (W : Ty → Type 0) : Type 0 where
  pub of_void : W void
  pub of_boolean : W Boolean
  pub of_integer : W Integer
  pub of_real : W Real
  pub inside : (l : Letter) (t : Ty) → W (around l t) → W t
  pub outside : (l : Letter) (t : Ty) → T (leb (depth t) 2) → W t → W (around l t)
  pub joined : (t u : Ty) → W t → W u → All? W (join s.parent t u)
  pub of_row_lem : (i : ℕ) → W (s.row i).type

module _ (s : Schema) (mark : ℕ → Mark) (W : Ty → Type 0) (k : Closed s W) where
  abbrev Bound : Env Ty → Type 0
  Bound Γ = (i : ℕ) → All? W (Γ i)

  bound_more : {Γ : Env Ty} (i : ℕ) {t : Ty} → W t → Bound Γ → Bound (extend Γ i t)
  unfolding extend
  bound_more i h b j = by-if (All? W) (eqb j i) _ _ (λ e. all_some h) (λ e. b j)

  bound_type_lem : (p : ℕ) {o : Option Ty} → All? W o → Gives W (bound_type p o)
  unfolding bound_type
  bound_type_lem p all_none = no_type
  bound_type_lem p (all_some h) = gives h

  wrapped : (p : ℕ) (l : Letter) (t : Ty) → W t → Gives W (wrap p l t)
  unfolding wrap
  wrapped p l t h = gives_if (leb (depth t) 2) (λ d. gives (k.outside l t d h)) no_type

  number_type_lem : (x : Number) → W (simple (number_type x))
  unfolding number_type
  number_type_lem (int z) = k.of_integer
  number_type_lem (real r) = k.of_real

  leaf_type_lem : (p : ℕ) (l : Leaf) {Γ : Env Ty} → All? W (leaf_names l) → Bound Γ → Gives W (leaf_type p l Γ)
  unfolding leaf_type leaf_names depth
  leaf_type_lem p (truth b) h g = gives k.of_boolean
  leaf_type_lem p undef h g = gives k.of_void
  leaf_type_lem p (number x) h g = gives (number_type_lem x)
  leaf_type_lem p self h g = bound_type_lem p (g 0)
  leaf_type_lem p (var i) h g = bound_type_lem p (g i)
  leaf_type_lem p (all c) (all_some h) g = gives (k.outside (exactly set) (Class c) tt h)

  cast_type_lem : (p c : ℕ) (t : Ty) → W (Class c) → Gives W (cast_type s p c t)
  unfolding cast_type
  cast_type_lem p c void h = no_type
  cast_type_lem p c (simple any) h = gives h
  cast_type_lem p c (simple boolean) h = no_type
  cast_type_lem p c (simple integer) h = no_type
  cast_type_lem p c (simple Simple.real) h = no_type
  cast_type_lem p c (simple (class d)) h = gives_if (subtype s.parent (Class d) (Class c) || subtype s.parent (Class c) (Class d)) (λ z. gives h) no_type
  cast_type_lem p c (around l t) h = no_type

  unary_type_lem : (p : ℕ) (op : Unary) (t : Ty) → All? W (unary_names op) → W t → Gives W (unary_type s p op t)
  unfolding unary_type unary_names
  unary_type_lem p negation t n h = gives_if (subtype s.parent t Boolean) (λ z. gives k.of_boolean) no_type
  unary_type_lem p size_of t n h = gives_collection W p t h (λ l m i. gives k.of_integer)
  unary_type_lem p (convert c) t n h = gives_collection W p t h (λ l m i. wrapped p (exactly c) m (k.inside l m i))
  unary_type_lem p (cast_to c) t (all_some n) h = cast_type_lem p c t n

  both_below_lem : (p : ℕ) (w r t u : Ty) → W r → Gives W (both_below s p w r t u)
  unfolding both_below
  both_below_lem p w r t u h = gives_if (subtype s.parent t w) (λ z. gives_if (subtype s.parent u w) (λ y. gives h) no_type) no_type

  scale_type_lem : (x : Scale) → W (scale_type x)
  unfolding scale_type
  scale_type_lem integers = k.of_integer
  scale_type_lem reals = k.of_real

  scaled_type : (p : ℕ) (type : Scale → Ty) (x : Scale) → W (type x) → Means mark W (scaled p type x)
  unfolding scaled
  scaled_type p type x h = record { means = λ t e z. gives_type {G = W} (gives h) e }

  numbers_type : (p : ℕ) (type : Scale → Ty) (t u : Ty) → ((x : Scale) → W (type x)) → Means mark W (on_numbers s p type t u)
  unfolding on_numbers
  numbers_type p type t u h =
      means_if (subtype s.parent t Integer && subtype s.parent u Integer) (λ z. scaled_type p type integers (h integers))
      (means_if (subtype s.parent t Real && subtype s.parent u Real) (λ z. scaled_type p type reals (h reals)) (means_pure no_type))

  binary_type_lem : (p : ℕ) (op : Binary) (t u : Ty) → W t → W u → Means mark W (binary_type s p op t u)
  unfolding binary_type includes_type including_type union_type
  binary_type_lem p equal t u h i = means_pure (gives_common p (k.joined t u h i) (λ w j. gives k.of_boolean))
  binary_type_lem p less t u h i = numbers_type p (λ x. Boolean) t u (λ x. k.of_boolean)
  binary_type_lem p (arith o) t u h i = numbers_type p scale_type t u scale_type_lem
  binary_type_lem p (divide o) t u h i = means_pure (both_below_lem p Integer Integer t u k.of_integer)
  binary_type_lem p over t u h i = means_pure (both_below_lem p Real Real t u k.of_real)
  binary_type_lem p includes t u h i = means_pure (gives_collection W p t h (λ l m j. gives_common p (k.joined m u (k.inside l m j) i) (λ w q. gives k.of_boolean)))
  binary_type_lem p including t u h i = means_pure (
      gives_collection W p t h (λ l m j. gives_kind (λ c. W (around c m)) p l j (λ c y. gives_common p (k.joined m u (k.inside l m j) i) (λ w q. wrapped p (exactly c) w q))))
  binary_type_lem p union t u h i = means_pure (
      gives_collection W p t h (λ l m j. gives_kind (λ c. W (around c m)) p l j (λ c y. gives_collection W p u i (λ r n z. gives_kind (λ c. W (around c n)) p r z (λ d x.
      gives_if (same_kind c d) (λ e. gives_common p (k.joined m n (k.inside l m j) (k.inside r n z)) (λ w q. wrapped p (exactly c) w q)) no_type)))))

  row_type_lem : (p : ℕ) (m : ℕ → Mark) (f : Ty → Answer) (o : Option ℕ) → ((i : ℕ) → Gives W (f (s.row i).type)) → Means mark W (row_type s p m f o)
  unfolding row_type
  row_type_lem p m f none h = means_pure no_type
  row_type_lem p m f (some i) h = record { means = λ t e z. gives_type (h i) e }

  attribute_type_lem : (p : ℕ) (x : Access) (name : ℕ) (t : Ty) → W t → Means mark W (attribute_type s p x name t)
  unfolding attribute_type
  attribute_type_lem p of_object name t h = means_class W p t h (λ c i. row_type_lem p of_row typed (row_read s c name) (λ j. gives (k.of_row_lem j)))
  attribute_type_lem p of_members name t h =
      means_collection W p t h (λ l m i. means_class W p m (k.inside l m i) (λ c j.
      row_type_lem p (of_rows (collect_kind l)) (wrap p (exactly (collect_kind l))) (row_read s c name) (λ r. wrapped p (exactly (collect_kind l)) (s.row r).type (k.of_row_lem r))))

  call_type_lem : (p c : ℕ) (t u : Ty) → W t → W u → Gives W (call_type s p c t u)
  unfolding call_type
  call_type_lem p c t u h i = gives_class W p u i (λ d j. gives_if (subtype s.parent (Class d) (Class c)) (λ z. gives h) no_type)

  mutual
    unfolding Named typing leaf_typing unary_typing binary_typing connective_typing is_undef_typing conditional_typing let_typing attribute_typing call_typing quantified_typing iterate_typing no_operand_typing operand_typing assemble_typing conditional_type

    answered : (e : Expr) {Γ : Env Ty} → Named W e → Bound Γ → Means mark W (typing s e Γ)
    answered (node p f) n b = answered_form f p n b

    answered_form : (f : Form) (p : ℕ) {Γ : Env Ty} → NamedIn W f → Bound Γ → Means mark W (form_typing s p f Γ)
    answered_form (leaf l) p n b = means_pure (leaf_type_lem p l n b)
    answered_form (unary op a) p n b = means_then (answered a n.1 b) (λ t h. means_pure (unary_type_lem p op t n.0 h))
    answered_form (binary op a c) p n b = means_then (answered a n.0 b) (λ t h. means_then (answered c n.1 b) (λ u i. binary_type_lem p op t u h i))
    answered_form (connective o a c) p n b = means_then (answered a n.0 b) (λ t h. means_then (answered c n.1 b) (λ u i. means_pure (both_below_lem p Boolean Boolean t u k.of_boolean)))
    answered_form (is_undef a) p n b = means_then (answered a n b) (λ t h. means_pure (gives k.of_boolean))
    answered_form (conditional c a e) p n b = means_then (answered c n.0 b) (λ t h. means_then (answered a n.1 b) (λ u i. means_then (answered e n.2 b) (λ w j.
        means_pure (gives_if (subtype s.parent t Boolean) (λ z. gives_common p (k.joined u w i j) (λ x q. gives q)) no_type))))
    answered_form (let_in i a c) p n b = means_then (answered a n.0 b) (λ t h. answered c n.1 (bound_more i h b))
    answered_form (attribute x name a) p n b = means_then (answered a n b) (λ t h. attribute_type_lem p x name t h)
    answered_form (call c t a e) p n b = means_then (answered a n.1 b) (λ u h. means_pure (call_type_lem p c t u n.0 h))
    answered_form (quantified q i a c) p n b = means_then (answered a n.0 b) (λ t h. means_collection W p t h (λ l m j.
        means_then (answered c n.1 (bound_more i (k.inside l m j) b)) (λ u y. means_pure (gives_if (subtype s.parent u Boolean) (λ z. gives k.of_boolean) no_type))))
    answered_form (iterate i j t a e c) p n b = means_then (answered a n.1 b) (λ r h. means_then (answered e n.2 b) (λ u y. means_collection W p r h (λ l m x.
        means_if (subtype s.parent u t)
        (λ v. means_then (answered c n.3 (bound_more j n.0 (bound_more i (k.inside l m x) b))) (λ w z. means_pure (gives_if (subtype s.parent w t) (λ q. gives n.0) no_type)))
        (means_pure no_type))))
    answered_form (assemble c es) p n b = means_then (answered_all es p n b) (λ t h. means_pure (wrapped p (exactly c) t h))

    answered_all : (es : Operands) (p : ℕ) {Γ : Env Ty} → NamedOf W es → Bound Γ → Means mark W (operands_typing s p es Γ)
    answered_all no_operand p n b = means_pure (gives k.of_void)
    answered_all (operand e es) p n b =
        means_then (answered e n.0 b) (λ t h. means_then (answered_all es p n.1 b) (λ u i. means_pure (gives_common p (k.joined t u h i) (λ w q. gives q))))

  -- a rule's type, if its class has it
  pub rule_answered : (c : ℕ) (e : Expr) (t : Ty) → W (Class c) → Named W e → (type_rule s c e).answer ≡ typed t → Agree mark (type_rule s c e).marks → W t
  unfolding type_rule start
  rule_answered c e t h n q g = (answered e n (bound_more 0 h (λ i. all_none))).means t q g

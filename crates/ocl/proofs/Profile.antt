-- A rule that has a type and no node outside the profile is free of the forms whose value may follow the numbers of objects: `iter`, and
-- what makes a Sequence of the members of another collection. Assumes nothing.
use mathlib.Core.Path.{◌≡◌, refl, sym, ap, ◌∙◌, subst}
use mathlib.Core.Bool.{Bool, true, false, ◌&&◌}
use mathlib.Core.Option.{Option, none, some}
use mathlib.Core.List.{List, [], ◌∷◌, ◌++◌}
use Prim.Native.Nat.{ℕ}
use native.Mathlib.Omega.{arith as linear}
use lib.Dec.{T}
use Rattle.laws.specs.Lists.{Each}
use Rattle.laws.proofs.Tests.{and_i}
use Rattle.laws.proofs.Lists.{each_left, each_right, each_head}
use Rattle.ocl.specs.Types.{Kind, set, sequence, bag, Letter, collection, exactly, Ty, Class, same_kind, kind_code}
use Rattle.ocl.specs.Model.{Schema, Model, schema_of, row_read}
use Rattle.ocl.specs.Environment.{Env, extend, start}
use Rattle.ocl.specs.Forms.{Access, of_object, of_members, Unary, negation, size_of, convert, cast_to, Expr, node, Form, leaf, unary, binary, connective, is_undef, conditional, let_in, attribute, call, quantified, iterate, assemble, Operands, no_operand, operand, Definition, calls, calls_in, calls_of}
use Rattle.ocl.specs.Marks.{Mark, of_rows, kind_marked}
use Rattle.ocl.specs.Typing.{Answer, typed, refused, Typed, wrap, on_collection, row_type, collect_kind, attribute_type, leaf_typing, unary_typing, binary_typing, connective_typing, is_undef_typing, conditional_typing, let_typing, attribute_typing, call_typing, quantified_typing, iterate_typing, no_operand_typing, operand_typing, assemble_typing, typing, form_typing, operands_typing, type_rule, type_definition}
use Rattle.ocl.specs.Laws.{Agree}
use Rattle.ocl.specs.Soundness.{TypedDefinition}
use Rattle.ocl.specs.Profile.{is_q, is_sequence, makes_sequence, collects, node_if, for_type, outside, outside_in, outside_of, outside_rule}
use Rattle.ocl.proofs.Marks.{marks_first}
use Rattle.ocl.proofs.Means.{Gives, no_type, gives, Means, means_pure, means_then, means_imp, means_collection, means_class}

-- ---- free of those forms, by the marks that evaluation reads

unfoldable pub no_sequence : Kind → Bool
no_sequence set = true
no_sequence sequence = false
no_sequence bag = true

unfoldable pub orderless : Unary → Bool
orderless negation = true
orderless size_of = true
orderless (convert k) = no_sequence k
orderless (cast_to c) = true

unfoldable pub access_free : Access → Mark → Bool
access_free of_object m = true
access_free of_members m = no_sequence (kind_marked m)

-- with the bodies that are called
unfoldable mutual
  pub free : (ℕ → Mark) → Expr → Bool
  free mark (node n f) = free_in mark n f

  pub free_in : (ℕ → Mark) → ℕ → Form → Bool
  free_in mark n (leaf l) = true
  free_in mark n (unary op a) = orderless op && free mark a
  free_in mark n (binary op a b) = free mark a && free mark b
  free_in mark n (connective c a b) = free mark a && free mark b
  free_in mark n (is_undef a) = free mark a
  free_in mark n (conditional c a b) = free mark c && (free mark a && free mark b)
  free_in mark n (let_in i a b) = free mark a && free mark b
  free_in mark n (attribute x name a) = access_free x (mark n) && free mark a
  free_in mark n (call c t a b) = free mark a && free mark b
  free_in mark n (quantified q i a b) = free mark a && free mark b
  free_in mark n (iterate i j t a e b) = false
  free_in mark n (assemble k es) = free_of mark es

  pub free_of : (ℕ → Mark) → Operands → Bool
  free_of mark no_operand = true
  free_of mark (operand e es) = free mark e && free_of mark es

-- ---- what no type is asked for

gives_any : {C : Type 0} (a : Answer) → C → Gives (λ t. C) a
gives_any (typed t) c = gives c
gives_any (refused n p) c = no_type

means_any : {mark : ℕ → Mark} {C : Type 0} {x : Typed} → C → Means mark (λ t. C) x
means_any c = record { means = λ t e g. c }

-- the type itself is known
means_known : {mark : ℕ → Mark} {G : Ty → Type 0} {x : Typed} → Means mark G x → Means mark (λ t. (x.answer ≡ typed t) × G t) x
means_known h = record { means = λ t e g. (e, h.means t e g) }

-- ---- a list with nothing in it has parts with nothing in them

none_left : (a b : List ℕ) → a ++ b ≡ [] → a ≡ []
none_left [] b e = refl
none_left (x ∷ a) b e = absurd (let z : ◌≡◌ {A = ℕ} 0 1 = cc in omega linear)

none_right : (a b : List ℕ) → a ++ b ≡ [] → b ≡ []
none_right [] b e = e
none_right (x ∷ a) b e = absurd (let z : ◌≡◌ {A = ℕ} 0 1 = cc in omega linear)

some_node : {C : Type 0} (p : ℕ) → node_if p true ≡ [] → C
unfolding node_if
some_node p e = absurd (let z : ◌≡◌ {A = ℕ} 0 1 = cc in omega linear)

-- no `asSequence`
no_sequence_made : (p : ℕ) (op : Unary) → node_if p (makes_sequence op) ≡ [] → T (orderless op)
unfolding makes_sequence orderless no_sequence same_kind kind_code
no_sequence_made p negation e = tt
no_sequence_made p size_of e = tt
no_sequence_made p (convert set) e = tt
no_sequence_made p (convert sequence) e = some_node p e
no_sequence_made p (convert bag) e = tt
no_sequence_made p (cast_to c) e = tt

-- `collect` on no Sequence makes none
no_sequence_lem : (p : ℕ) (l : Letter) → node_if p (is_q l) ≡ [] → T (no_sequence (collect_kind l))
unfolding is_q no_sequence collect_kind same_kind kind_code
no_sequence_lem p collection e = tt
no_sequence_lem p (exactly set) e = tt
no_sequence_lem p (exactly sequence) e = some_node p e
no_sequence_lem p (exactly bag) e = tt

module _ (s : Model) (mark : ℕ → Mark) where
  abbrev k : Schema
  k = schema_of s

  abbrev Typed? : List Definition → Type 0
  Typed? ds = Each (TypedDefinition s mark) ds

  -- where no node is outside, none of those forms is there
  abbrev Within : Expr → Env Ty → Type 0
  Within e Γ = outside k e Γ ≡ [] → T (free mark e)

  row_free : (p : ℕ) (l : Letter) (o : Option ℕ) → node_if p (is_q l) ≡ []
      → Means mark (λ t. T (no_sequence (kind_marked (mark p)))) (row_type k p (of_rows (collect_kind l)) (wrap p (exactly (collect_kind l))) o)
  unfolding row_type kind_marked
  row_free p l none e = means_pure no_type
  row_free p l (some i) e = record { means = λ t q g. subst (λ x. T (no_sequence (kind_marked x))) (sym (marks_first g)) (no_sequence_lem p l e) }

  access_free_lem : (p : ℕ) (x : Access) (name : ℕ) (a : Expr) (Γ : Env Ty) (t : Ty) → Within a Γ
      → Means mark (λ u. outside k a Γ ++ node_if p (collects x && is_sequence t) ≡ [] → T (access_free x (mark p) && free mark a)) (attribute_type k p x name t)
  unfolding attribute_type collects is_sequence access_free on_collection
  access_free_lem p of_object name a Γ t h = means_any (λ o. h (none_left (outside k a Γ) _ o))
  access_free_lem p of_members name a Γ t h = record { means = λ u e g o. (by t (none_right (outside k a Γ) _ o)).means u e g (h (none_left (outside k a Γ) _ o)) }
    where
      by : (t : Ty) → node_if p (is_sequence t) ≡ []
          → Means mark (λ u. T (free mark a) → T (access_free of_members (mark p) && free mark a)) (attribute_type k p of_members name t)
      by t q = means_collection (λ u. node_if p (is_sequence u) ≡ []) p t q (λ l m q. means_class (λ u. Unit) p m tt (λ c y.
          means_imp (λ u r f. and_i (no_sequence (kind_marked (mark p))) (free mark a) r f) (row_free p l (row_read k c name) q)))

  body_free : (c : ℕ) (t : Ty) (b : Expr) → Means mark (λ u. Within b (start (Class c))) (typing k b (start (Class c)))
      → TypedDefinition s mark (record { context = c; type = t; body = b }) → Within b (start (Class c))
  unfolding type_definition type_rule
  body_free c t b h d = (means_then {G = λ u. Within b (start (Class c))} h (λ u w. means_pure (gives_any _ w))).means t d.typed_body d.marked

  -- what follows an operand's type, once it is known
  for_type_lem : (a : Expr) (Γ : Env Ty) (t : Ty) (f : Ty → List ℕ) → (typing k a Γ).answer ≡ typed t → outside k a Γ ++ for_type (typing k a Γ).answer f ≡ [] → f t ≡ []
  unfolding for_type
  for_type_lem a Γ t f e o = sym (ap (λ z. for_type z f) e) ∙ none_right (outside k a Γ) _ o

  mutual
    unfolding typing free outside calls leaf_typing unary_typing binary_typing connective_typing is_undef_typing conditional_typing let_typing attribute_typing call_typing quantified_typing iterate_typing no_operand_typing operand_typing assemble_typing for_type on_collection

    within : (e : Expr) → Typed? (calls e) → (Γ : Env Ty) → Means mark (λ t. Within e Γ) (typing k e Γ)
    within (node p f) d Γ = form_within_lem f p d Γ

    form_within_lem : (f : Form) (p : ℕ) → Typed? (calls_in f) → (Γ : Env Ty) → Means mark (λ t. outside_in k p f Γ ≡ [] → T (free_in mark p f)) (form_typing k p f Γ)
    form_within_lem (leaf l) p d Γ = means_any (λ o. tt)
    form_within_lem (unary op a) p d Γ = means_then (within a d Γ) (λ t ha. means_any (λ o.
        and_i (orderless op) (free mark a) (no_sequence_made p op (none_right (outside k a Γ) _ o)) (ha (none_left (outside k a Γ) _ o))))
    form_within_lem (binary op a b) p d Γ = means_then (within a (each_left (calls a) (calls b) d) Γ) (λ t ha. means_then (within b (each_right (calls a) d) Γ) (λ u hb. means_any (λ o.
        and_i (free mark a) (free mark b) (ha (none_left (outside k a Γ) _ o)) (hb (none_left (outside k b Γ) _ (none_right (outside k a Γ) _ o))))))
    form_within_lem (connective c a b) p d Γ = means_then (within a (each_left (calls a) (calls b) d) Γ) (λ t ha. means_then (within b (each_right (calls a) d) Γ) (λ u hb. means_any (λ o.
        and_i (free mark a) (free mark b) (ha (none_left (outside k a Γ) _ o)) (hb (none_right (outside k a Γ) _ o)))))
    form_within_lem (is_undef a) p d Γ = means_then (within a d Γ) (λ t ha. means_any ha)
    form_within_lem (conditional c a b) p d Γ = let r = each_right (calls c) d in
        means_then (within c (each_left (calls c) (calls a ++ calls b) d) Γ) (λ t hc. means_then (within a (each_left (calls a) (calls b) r) Γ) (λ u ha. means_then (within b (each_right (calls a) r) Γ) (λ w hb. means_any (λ o.
        let q = none_right (outside k c Γ) _ o in
        and_i (free mark c) _ (hc (none_left (outside k c Γ) _ o)) (and_i (free mark a) (free mark b) (ha (none_left (outside k a Γ) _ q)) (hb (none_right (outside k a Γ) _ q)))))))
    form_within_lem (let_in i a b) p d Γ = means_then (means_known (within a (each_left (calls a) (calls b) d) Γ)) (λ t ha. means_imp (λ u hb o.
        and_i (free mark a) (free mark b) (ha.1 (none_left (outside k a Γ) _ o)) (hb (for_type_lem a Γ t (λ u. outside k b (extend Γ i u)) ha.0 o)))
        (within b (each_right (calls a) d) (extend Γ i t)))
    form_within_lem (attribute x name a) p d Γ = means_then (means_known (within a d Γ)) (λ t ha. means_imp (λ u h o. h (ap (λ z. outside k a Γ ++ for_type z (λ u. node_if p (collects x && is_sequence u))) (sym ha.0) ∙ o))
        (access_free_lem p x name a Γ t ha.1))
    form_within_lem (call c t a b) p d Γ = let r = each_right (calls a) d in
        let hb = body_free c t b (within b (each_left (calls b) _ r) (start (Class c))) (each_head (each_right (calls b) r)) in
        means_then (within a (each_left (calls a) _ d) Γ) (λ u ha. means_any (λ o. and_i (free mark a) (free mark b) (ha (none_left (outside k a Γ) _ o)) (hb (none_right (outside k a Γ) _ o))))
    form_within_lem (quantified q i a b) p d Γ = means_then (means_known (within a (each_left (calls a) (calls b) d) Γ)) (λ t ha. means_collection (λ u. (typing k a Γ).answer ≡ typed u) p t ha.0 (λ l m e.
        means_then (within b (each_right (calls a) d) (extend Γ i m)) (λ u hb. means_any (λ o.
        and_i (free mark a) (free mark b) (ha.1 (none_left (outside k a Γ) _ o)) (hb (for_type_lem a Γ _ (λ u. on_collection u [] (λ l m. outside k b (extend Γ i m))) e o))))))
    form_within_lem (iterate i j t a e b) p d Γ = means_any (λ o.
        absurd (let z = none_right (for_type (typing k a Γ).answer (λ u. on_collection u [] (λ l m. outside k b (extend (extend Γ i m) j t)))) (p ∷ []) (none_right (outside k e Γ) _ (none_right (outside k a Γ) _ o)) in
        let y : ◌≡◌ {A = ℕ} 0 1 = cc in omega linear))
    form_within_lem (assemble c es) p d Γ = means_then (all_within es p d Γ) (λ t h. means_any h)

    all_within : (es : Operands) (p : ℕ) → Typed? (calls_of es) → (Γ : Env Ty) → Means mark (λ t. outside_of k es Γ ≡ [] → T (free_of mark es)) (operands_typing k p es Γ)
    all_within no_operand p d Γ = means_any (λ o. tt)
    all_within (operand e es) p d Γ = means_then (within e (each_left (calls e) (calls_of es) d) Γ) (λ t h. means_then (all_within es p (each_right (calls e) d) Γ) (λ u hs. means_any (λ o.
        and_i (free mark e) (free_of mark es) (h (none_left (outside k e Γ) _ o)) (hs (none_right (outside k e Γ) _ o)))))

-- with its marks in the table, as those of each definition that it reaches
pub profile_free : (s : Model) (mark : ℕ → Mark) (e : Expr) → Each (TypedDefinition s mark) (calls e) → (c : ℕ) (t : Ty) → (type_rule (schema_of s) c e).answer ≡ typed t
    → Agree mark (type_rule (schema_of s) c e).marks → outside_rule (schema_of s) c e ≡ [] → T (free mark e)
unfolding type_rule outside_rule
profile_free s mark e d c t q g o = (within s mark e d (start (Class c))).means t q g o

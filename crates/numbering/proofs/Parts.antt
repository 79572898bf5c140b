-- The nodes that a tree has outside are those of its root's operands, of its body and of itself, by the code of its form. Assumes nothing.
use mathlib.Core.Path.{◌≡◌, refl, sym, ap, ◌∙◌, subst}
use mathlib.Core.Bool.{Bool, true, false}
use mathlib.Core.List.{List, [], ◌∷◌, ◌++◌, append-nil, append_assoc}
use Prim.Native.Nat.{ℕ, zero, suc, ◌+◌, ◌-◌, ◌<◌, ◌≤◌}
use native.Mathlib.Omega.{arith}
use native.Mathlib.Decide.{dec_lt}
use lib.Dec.{ltb}
use borrow.Author.Tests.{lt-ltb, le-ltb, ne_eqb}
use Rattle.std.specs.Prelude.{if◌then◌else◌}
use Rattle.ocl.specs.Types.{Kind, set, sequence, bag, kind_code, same_kind, Ty, void, simple, around}
use Rattle.ocl.specs.Environment.{Env, extend}
use Rattle.ocl.specs.Forms.{leaf, undef, assemble}
use Rattle.ocl.specs.Model.{Schema}
use Rattle.ocl.specs.Typing.{Answer, typed, refused, on_collection}
use Rattle.ocl.specs.Profile.{is_sequence, makes_sequence, joins, collects, node_if, for_type, outside, outside_in, outside_of}
use Rattle.types.specs.Parts.{member_type}
use Rattle.types.specs.Word.{type_in}
use Rattle.nodes.specs.Nodes.{word, variable, unary_of, binary_of, connective_of, quantifier_of, kind_of, access_of, operands_in, form_of, trees_below, tree_at}
use Rattle.nodes.proofs.Nodes.{tree_law}
use Rattle.numbering.specs.Forms.{member_count, late_count, operand_count, members_at, operand_at, source_type, binds, body_operand, enters, inner_env, body_of, called_at, scope_at, looks, on_sequence, is_own}

-- ---- lists

one_more : (a x : List ℕ) → a ++ x ≡ (a ++ []) ++ x
one_more a x = ap (λ l. l ++ x) (sym (append-nil a))

two_more : (a b x : List ℕ) → a ++ (b ++ x) ≡ (a ++ (b ++ [])) ++ x
two_more a b x = ap (λ l. a ++ l) (one_more b x) ∙ sym (append_assoc a (b ++ []) x)

three_more : (a b c : List ℕ) → a ++ (b ++ c) ≡ (a ++ (b ++ (c ++ []))) ++ []
three_more a b c = ap (λ l. a ++ (b ++ l)) (sym (append-nil c)) ∙ sym (append-nil (a ++ (b ++ (c ++ []))))

-- ---- what follows a type

no_look : (a : Answer) → for_type a (λ u. []) ≡ []
unfolding for_type
no_look (typed u) = refl
no_look (refused n p) = refl

a_look : (p : ℕ) (a : Answer) → for_type a (λ u. node_if p (is_sequence u)) ≡ node_if p (on_sequence a)
unfolding for_type node_if on_sequence
a_look p (typed u) = refl
a_look p (refused n q) = refl

into_body : (f : Ty → List ℕ) (a : Answer)
    → for_type a (λ u. on_collection u [] (λ l m. f m)) ≡ for_type a (λ u. if on_collection u false (λ l m. true) then f (member_type u) else [])
unfolding for_type on_collection member_type
into_body f (typed void) = refl
into_body f (typed (simple b)) = refl
into_body f (typed (around l u)) = refl
into_body f (refused n p) = refl

-- ---- by the code of the form

module _ (k : Schema) (t : List ℕ) (n : ℕ) (Γ : Env Ty) where
  abbrev A : ℕ → List ℕ
  A i = operand_at k t n i Γ

  abbrev Whole : ℕ → List ℕ
  Whole form = members_at k t n (operand_count form (word t n 5)) 1 Γ ++ (scope_at k t n form Γ ++ node_if n (is_own k t n form Γ))

  abbrev Q : ℕ → Type 0
  Q form = outside_in k n (form_of (trees_below t n) (word t n) form) Γ ≡ Whole form

  leaf_part : (i : ℕ) → i < 7 → Q i
  unfolding form_of outside_in outside_of operand_count operands_in scope_at binds is_own looks node_if
  leaf_part zero h = refl
  leaf_part (suc zero) h = refl
  leaf_part (suc (suc zero)) h = refl
  leaf_part (suc (suc (suc zero))) h = refl
  leaf_part (suc (suc (suc (suc zero)))) h = refl
  leaf_part (suc (suc (suc (suc (suc zero))))) h = refl
  leaf_part (suc (suc (suc (suc (suc (suc zero)))))) h = refl
  leaf_part (suc (suc (suc (suc (suc (suc (suc i))))))) h = absurd (omega arith)

  unary_part : (i : ℕ) → i < 6 → Q (7 + i)
  unfolding form_of unary_of outside_in outside_of makes_sequence operand_count operands_in scope_at binds is_own looks node_if same_kind kind_code
  unary_part zero h = one_more (A 1) []
  unary_part (suc zero) h = one_more (A 1) []
  unary_part (suc (suc zero)) h = one_more (A 1) []
  unary_part (suc (suc (suc zero))) h = one_more (A 1) (n ∷ [])
  unary_part (suc (suc (suc (suc zero)))) h = one_more (A 1) []
  unary_part (suc (suc (suc (suc (suc zero))))) h = one_more (A 1) []
  unary_part (suc (suc (suc (suc (suc (suc i)))))) h = absurd (omega arith)

  -- two operands, with no look at a type, and with one
  plain_two : A 1 ++ (A 2 ++ for_type (source_type k t n Γ) (λ u. [])) ≡ (A 1 ++ (A 2 ++ [])) ++ []
  plain_two = ap (λ l. A 1 ++ (A 2 ++ l)) (no_look (source_type k t n Γ)) ∙ two_more (A 1) (A 2) []

  looking_two : A 1 ++ (A 2 ++ for_type (source_type k t n Γ) (λ u. node_if n (is_sequence u))) ≡ (A 1 ++ (A 2 ++ [])) ++ node_if n (on_sequence (source_type k t n Γ))
  looking_two = ap (λ l. A 1 ++ (A 2 ++ l)) (a_look n (source_type k t n Γ)) ∙ two_more (A 1) (A 2) (node_if n (on_sequence (source_type k t n Γ)))

  binary_part : (i : ℕ) → i < 10 → Q (13 + i)
  unfolding form_of binary_of outside_in outside_of joins operand_count operands_in scope_at binds is_own looks node_if
  binary_part zero h = plain_two
  binary_part (suc zero) h = plain_two
  binary_part (suc (suc zero)) h = plain_two
  binary_part (suc (suc (suc zero))) h = plain_two
  binary_part (suc (suc (suc (suc zero)))) h = plain_two
  binary_part (suc (suc (suc (suc (suc zero))))) h = plain_two
  binary_part (suc (suc (suc (suc (suc (suc zero)))))) h = plain_two
  binary_part (suc (suc (suc (suc (suc (suc (suc zero))))))) h = plain_two
  binary_part (suc (suc (suc (suc (suc (suc (suc (suc zero)))))))) h = looking_two
  binary_part (suc (suc (suc (suc (suc (suc (suc (suc (suc zero))))))))) h = looking_two
  binary_part (suc (suc (suc (suc (suc (suc (suc (suc (suc (suc i)))))))))) h = absurd (omega arith)

  -- a body, in an environment e that follows from the member type
  bodied : (e : Ty → Env Ty) → A 1 ++ for_type (source_type k t n Γ) (λ u. on_collection u [] (λ l m. operand_at k t n 2 (e m)))
      ≡ (A 1 ++ []) ++ (for_type (source_type k t n Γ) (λ u. if on_collection u false (λ l m. true) then operand_at k t n 2 (e (member_type u)) else []) ++ [])
  bodied e = ap (λ l. A 1 ++ l) (into_body (λ m. operand_at k t n 2 (e m)) (source_type k t n Γ) ∙ sym (append-nil _)) ∙ one_more (A 1) _

  iterated : (e : Ty → Env Ty) → A 1 ++ (A 2 ++ (for_type (source_type k t n Γ) (λ u. on_collection u [] (λ l m. operand_at k t n 3 (e m))) ++ (n ∷ [])))
      ≡ (A 1 ++ (A 2 ++ [])) ++ (for_type (source_type k t n Γ) (λ u. if on_collection u false (λ l m. true) then operand_at k t n 3 (e (member_type u)) else []) ++ (n ∷ []))
  iterated e = ap (λ l. A 1 ++ (A 2 ++ (l ++ (n ∷ [])))) (into_body (λ m. operand_at k t n 3 (e m)) (source_type k t n Γ)) ∙ two_more (A 1) (A 2) _

  assembled : (kind : Kind) (b : Bool) (c : ℕ)
      → outside_in k n (if b then leaf undef else assemble kind (operands_in (trees_below t n) (word t n) c 1)) Γ ≡ members_at k t n (if b then 0 else c) 1 Γ ++ []
  unfolding outside_in outside_of operands_in
  assembled kind true c = refl
  assembled kind false c = sym (append-nil _)

  middle_part : (i : ℕ) → i < 7 → Q (23 + i)
  unfolding form_of connective_of quantifier_of kind_of outside_in outside_of operand_count member_count operands_in scope_at binds body_operand body_of enters inner_env is_own looks node_if
  middle_part zero h = ap (λ l. A 1 ++ l) (sym (append-nil (A 2))) ∙ sym (append-nil _)
  middle_part (suc zero) h = ap (λ l. A 1 ++ l) (sym (append-nil (A 2))) ∙ sym (append-nil _)
  middle_part (suc (suc zero)) h = bodied (extend Γ (variable (word t n 3)))
  middle_part (suc (suc (suc zero))) h = bodied (extend Γ (variable (word t n 3)))
  middle_part (suc (suc (suc (suc zero)))) h = assembled set (ltb 4 (word t n 5)) (word t n 5)
  middle_part (suc (suc (suc (suc (suc zero))))) h = assembled sequence (ltb 4 (word t n 5)) (word t n 5)
  middle_part (suc (suc (suc (suc (suc (suc zero)))))) h = assembled bag (ltb 4 (word t n 5)) (word t n 5)
  middle_part (suc (suc (suc (suc (suc (suc (suc i))))))) h = absurd (omega arith)

  late_part : (i : ℕ) → i < 8 → Q (30 + i)
  unfolding form_of binary_of access_of outside_in outside_of joins collects operand_count late_count operands_in scope_at binds body_operand body_of enters inner_env is_own looks node_if
  late_part zero h = sym (append-nil (A 1)) ∙ sym (append-nil (A 1 ++ []))
  late_part (suc zero) h = three_more (A 1) (A 2) (A 3)
  late_part (suc (suc zero)) h = ap (λ l. A 1 ++ l) (sym (append-nil _)) ∙ one_more (A 1) _
  late_part (suc (suc (suc zero))) h = ap (λ l. A 1 ++ l) (no_look (source_type k t n Γ)) ∙ one_more (A 1) []
  late_part (suc (suc (suc (suc zero)))) h = ap (λ l. A 1 ++ l) (a_look n (source_type k t n Γ)) ∙ one_more (A 1) _
  late_part (suc (suc (suc (suc (suc zero))))) h = iterated (λ m. extend (extend Γ (variable (word t n 4)) m) (variable (word t n 5)) (type_in (word t n 6)))
  late_part (suc (suc (suc (suc (suc (suc zero)))))) h = ap (λ l. A 1 ++ l) (sym (append-nil (called_at k t n))) ∙ one_more (A 1) _
  late_part (suc (suc (suc (suc (suc (suc (suc zero))))))) h = plain_two
  late_part (suc (suc (suc (suc (suc (suc (suc (suc i)))))))) h = absurd (omega arith)

  no_part : (form : ℕ) → 37 < form → Q form
  unfolding form_of outside_in outside_of operand_count operands_in scope_at binds is_own looks node_if
  no_part form h =
      rw (lt-ltb 37 form h, ne_eqb form 36 (λ e. omega arith), ne_eqb form 32 (λ e. omega arith), ne_eqb form 35 (λ e. omega arith), le-ltb form 25 (omega arith), le-ltb form 27 (omega arith), ne_eqb form 10 (λ e. omega arith), ne_eqb form 34 (λ e. omega arith), le-ltb form 21 (omega arith), le-ltb form 23 (omega arith))

  from : (a form : ℕ) → a ≤ form → Q (a + (form - a)) → Q form
  from a form h q = subst Q (let e : a + (form - a) ≡ form = omega arith in e) q

  part : (form : ℕ) → Q form
  part form = by (dec_lt form 7) (dec_lt form 13) (dec_lt form 23) (dec_lt form 30) (dec_lt form 38)
    where
      by : Dec (form < 7) → Dec (form < 13) → Dec (form < 23) → Dec (form < 30) → Dec (form < 38) → Q form
      by (yes a) b c d e = leaf_part form a
      by (no a) (yes b) c d e = from 7 form (omega arith) (unary_part (form - 7) (omega arith))
      by (no a) (no b) (yes c) d e = from 13 form (omega arith) (binary_part (form - 13) (omega arith))
      by (no a) (no b) (no c) (yes d) e = from 23 form (omega arith) (middle_part (form - 23) (omega arith))
      by (no a) (no b) (no c) (no d) (yes e) = from 30 form (omega arith) (late_part (form - 30) (omega arith))
      by (no a) (no b) (no c) (no d) (no e) = no_part form (omega arith)

  -- the nodes outside in node n's tree
  pub parts : (form : ℕ) → form ≡ word t n 0 → outside k (tree_at t n) Γ ≡ Whole form
  unfolding outside
  parts form e = ap (λ x. outside k x Γ) (tree_law t n) ∙ ap (λ i. outside_in k n (form_of (trees_below t n) (word t n) i) Γ) (sym e) ∙ part form

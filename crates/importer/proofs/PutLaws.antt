-- Nodes after their operands: the form that a code and its numbers build is the one that the grammar has there. Assumes nothing.
use mathlib.Core.Path.{◌≡◌, refl, sym, ap, ◌∙◌, subst}
use mathlib.Core.Logic.{◌≢◌}
use mathlib.Core.Option.{some}
use mathlib.Core.List.{List, [], ◌∷◌}
use Prim.Native.Nat.{ℕ, ◌+◌, ◌-◌, ◌≤◌, ◌<◌}
use native.Mathlib.Omega.{arith}
use Rattle.ocl.specs.Types.{set, sequence, bag, Ty}
use Rattle.ocl.specs.Forms.{plus, minus, times, div, modulo, and, or, for_all, exists, of_object, of_members, negation, size_of, convert, cast_to, equal, less, arith as arithmetic, divide, over, includes, including, union}
use Rattle.sheet.specs.Lines.{Shape, forms}
use Rattle.sheet.specs.Grammar.Trees.{One, unary, is_undef, attribute, call, Two, binary, connective, let_in, quantified, conditional, iterate, one_shape, two_shape, three_shape}
use Rattle.types.specs.Reading.{type_field, held}
use Rattle.nodes.specs.Nodes.{unary_words, access_code, binary_code, arith_code, division_code, connective_code, quantifier_code}
use Rattle.phrases.specs.Forms.{one_words, two_words}
use Rattle.phrases.specs.Meanings.{StandsAs, StandsAsTwo}
use Rattle.shapes.specs.Fields.{cut}
use Rattle.shapes.specs.Forms.{StandsFor}
use Rattle.text.specs.Words.{form_codes}
use Rattle.text.specs.Forms.{with_code, fields_by}
use Rattle.shapes.specs.Built.{count_of, form_with, numbers_of, shape_in, Builds, Iterates}
use Rattle.shapes.specs.Iterate.{HoldsType, TypeSpelled, a_type, TypeTold}
use Rattle.shapes.specs.declared.Parsed.{Parsed}
use Rattle.shapes.specs.declared.iterate.TypeRead.{TypeRead}
use Rattle.tokens.specs.declared.Token.{Token}
use Rattle.emission.specs.Nodes.{Emitted}
use Rattle.importer.specs.Puts.{PutNode, Behind, behind_one, Joins, joins_none, joins_one}
use Rattle.std.specs.Prelude.{Option as Optional, Result, Some, None}
use Rattle.memory.specs.declared.refusals.Misread.{Misread}
use Rattle.types.specs.declared.FlatType.{FlatType}

pub put_as : {k n : ℕ} {p : Parsed} {u v : List ℕ} (x : Shape) → (n < 768 → StandsFor k x p) → Emitted n p u v → PutNode k n x u v
put_as {k} {n} x z put = record { node = λ l xs s h. put.node l k x (z l) xs s h; kept = put.kept }

-- y is what the code holds of r; numbers below a million are as they are
record Of (r y : ℕ) : Type 0 where
  pub is : y ≡ cut r

same : (r : ℕ) → r < 768 → Of r r
same r l = record { is = omega arith }

pair : {y r x z : ℕ} → Of r y → Of z x → ◌≡◌ {A = List ℕ} (y ∷ x ∷ 0 ∷ 0 ∷ []) (cut r ∷ cut z ∷ 0 ∷ 0 ∷ [])
pair {y} {r} {x} {z} a b = ap (λ (i : ℕ). i ∷ x ∷ 0 ∷ 0 ∷ []) a.is ∙ ap (λ (i : ℕ). cut r ∷ i ∷ 0 ∷ 0 ∷ []) b.is

triple : {y r x z v q : ℕ} → Of r y → Of z x → Of q v → ◌≡◌ {A = List ℕ} (y ∷ x ∷ v ∷ 0 ∷ []) (cut r ∷ cut z ∷ cut q ∷ 0 ∷ [])
triple {y} {r} {x} {z} {v} {q} a b c =
    ap (λ (i : ℕ). i ∷ x ∷ v ∷ 0 ∷ []) a.is ∙ ap (λ (i : ℕ). cut r ∷ i ∷ v ∷ 0 ∷ []) b.is ∙ ap (λ (i : ℕ). cut r ∷ cut z ∷ i ∷ 0 ∷ []) c.is

module _ {k code x y r : ℕ} {p : Parsed} (built : Builds code (y ∷ x ∷ 0 ∷ 0 ∷ []) k p) (e : Of r y) where
  -- by a code that holds one number, and by one that holds two
  alone : {c : ℕ} → c ≡ code → x ≡ 0 → numbers_of c ≡ 1 → StandsFor k (shape_in c (r ∷ [])) p
  alone {c} q z n = go (subst (λ (i : ℕ). Builds i (y ∷ x ∷ 0 ∷ 0 ∷ []) k p) (sym q) built)
    where
      go : Builds c (y ∷ x ∷ 0 ∷ 0 ∷ []) k p → StandsFor k (shape_in c (r ∷ [])) p
      go b = b.is (r ∷ []) (omega arith) (sym n) (pair {z = 0} e (record { is = z }))

  both : {c z : ℕ} → c ≡ code → Of z x → numbers_of c ≡ 2 → StandsFor k (shape_in c (r ∷ z ∷ [])) p
  both {c} {z} q h n = go (subst (λ (i : ℕ). Builds i (y ∷ x ∷ 0 ∷ 0 ∷ []) k p) (sym q) built)
    where
      go : Builds c (y ∷ x ∷ 0 ∷ 0 ∷ []) k p → StandsFor k (shape_in c (r ∷ z ∷ [])) p
      go b = b.is (r ∷ z ∷ []) (omega arith) (sym n) (pair e h)

  one_is : (f : One) → StandsAs f code x → StandsFor k (one_shape f r) p
  unfolding one_words unary_words access_code one_shape count_of form_with fields_by with_code forms form_codes
  one_is (unary negation) s = alone s.code s.number refl
  one_is (unary size_of) s = alone s.code s.number refl
  one_is (unary (convert set)) s = alone s.code s.number refl
  one_is (unary (convert sequence)) s = alone s.code s.number refl
  one_is (unary (convert bag)) s = alone s.code s.number refl
  one_is (unary (cast_to c)) s = both s.code (record { is = s.number }) refl
  one_is is_undef s = alone s.code s.number refl
  one_is (attribute of_object n) s = both s.code (record { is = s.number }) refl
  one_is (attribute of_members n) s = both s.code (record { is = s.number }) refl
  one_is (call n) s = both s.code (record { is = s.number }) refl

  -- signs and arguments without a variable
  two_is : {z : ℕ} → Of z x → code ≢ 25 → code ≢ 26 → code ≢ 32 → {v : ℕ} (f : Two) → StandsAsTwo f code v → StandsFor k (two_shape f r z) p
  unfolding two_words binary_code arith_code division_code connective_code quantifier_code two_shape count_of form_with fields_by with_code forms form_codes
  two_is h a b c (binary equal) s = both s.code h refl
  two_is h a b c (binary less) s = both s.code h refl
  two_is h a b c (binary (arithmetic plus)) s = both s.code h refl
  two_is h a b c (binary (arithmetic minus)) s = both s.code h refl
  two_is h a b c (binary (arithmetic times)) s = both s.code h refl
  two_is h a b c (binary (divide div)) s = both s.code h refl
  two_is h a b c (binary (divide modulo)) s = both s.code h refl
  two_is h a b c (binary over) s = both s.code h refl
  two_is h a b c (binary includes) s = both s.code h refl
  two_is h a b c (binary including) s = both s.code h refl
  two_is h a b c (binary union) s = both s.code h refl
  two_is h a b c (connective and) s = both s.code h refl
  two_is h a b c (connective or) s = both s.code h refl
  two_is h a b c (let_in i) s = absurd (c (sym s.code))
  two_is h a b c (quantified for_all i) s = absurd (a (sym s.code))
  two_is h a b c (quantified exists i) s = absurd (b (sym s.code))

module _ {k code x v w : ℕ} {p : Parsed} (built : Builds code (x ∷ v ∷ w ∷ 0 ∷ []) k p) where
  three_by : {c r i q : ℕ} → c ≡ code → Of r x → Of i v → Of q w → numbers_of c ≡ 3 → StandsFor k (shape_in c (r ∷ i ∷ q ∷ [])) p
  three_by {c} {r} {i} {q} e h j z n = go (subst (λ (y : ℕ). Builds y (x ∷ v ∷ w ∷ 0 ∷ []) k p) (sym e) built)
    where
      go : Builds c (x ∷ v ∷ w ∷ 0 ∷ []) k p → StandsFor k (shape_in c (r ∷ i ∷ q ∷ [])) p
      go b = b.is (r ∷ i ∷ q ∷ []) (omega arith) (sym n) (triple h j z)

  quantified_is : {r q : ℕ} → Of r x → Of q w → 25 ≤ code → code < 27 → (f : Two) → StandsAsTwo f code v → StandsFor k (two_shape f r q) p
  unfolding two_words binary_code arith_code division_code connective_code quantifier_code two_shape count_of form_with fields_by with_code forms form_codes
  quantified_is h z a b (binary equal) s = absurd (let e = s.code in omega arith)
  quantified_is h z a b (binary less) s = absurd (let e = s.code in omega arith)
  quantified_is h z a b (binary (arithmetic plus)) s = absurd (let e = s.code in omega arith)
  quantified_is h z a b (binary (arithmetic minus)) s = absurd (let e = s.code in omega arith)
  quantified_is h z a b (binary (arithmetic times)) s = absurd (let e = s.code in omega arith)
  quantified_is h z a b (binary (divide div)) s = absurd (let e = s.code in omega arith)
  quantified_is h z a b (binary (divide modulo)) s = absurd (let e = s.code in omega arith)
  quantified_is h z a b (binary over) s = absurd (let e = s.code in omega arith)
  quantified_is h z a b (binary includes) s = absurd (let e = s.code in omega arith)
  quantified_is h z a b (binary including) s = absurd (let e = s.code in omega arith)
  quantified_is h z a b (binary union) s = absurd (let e = s.code in omega arith)
  quantified_is h z a b (connective and) s = absurd (let e = s.code in omega arith)
  quantified_is h z a b (connective or) s = absurd (let e = s.code in omega arith)
  quantified_is h z a b (let_in i) s = absurd (let e = s.code in omega arith)
  quantified_is h z a b (quantified for_all i) s = three_by s.code h (record { is = s.number }) z refl
  quantified_is h z a b (quantified exists i) s = three_by s.code h (record { is = s.number }) z refl

let_is : {k x v w r q : ℕ} {p : Parsed} → Builds 32 (v ∷ x ∷ w ∷ 0 ∷ []) k p → Of r x → Of q w → (f : Two) → StandsAsTwo f 32 v → StandsFor k (two_shape f r q) p
unfolding two_words binary_code arith_code division_code connective_code quantifier_code two_shape count_of form_with fields_by with_code forms form_codes
let_is b h z (binary equal) s = absurd (let e = s.code in omega arith)
let_is b h z (binary less) s = absurd (let e = s.code in omega arith)
let_is b h z (binary (arithmetic plus)) s = absurd (let e = s.code in omega arith)
let_is b h z (binary (arithmetic minus)) s = absurd (let e = s.code in omega arith)
let_is b h z (binary (arithmetic times)) s = absurd (let e = s.code in omega arith)
let_is b h z (binary (divide div)) s = absurd (let e = s.code in omega arith)
let_is b h z (binary (divide modulo)) s = absurd (let e = s.code in omega arith)
let_is b h z (binary over) s = absurd (let e = s.code in omega arith)
let_is b h z (binary includes) s = absurd (let e = s.code in omega arith)
let_is b h z (binary including) s = absurd (let e = s.code in omega arith)
let_is b h z (binary union) s = absurd (let e = s.code in omega arith)
let_is b h z (connective and) s = absurd (let e = s.code in omega arith)
let_is b h z (connective or) s = absurd (let e = s.code in omega arith)
let_is b h z (let_in i) s = three_by b s.code (record { is = s.number }) h z refl
let_is b h z (quantified for_all i) s = absurd (let e = s.code in omega arith)
let_is b h z (quantified exists i) s = absurd (let e = s.code in omega arith)

-- ---- the nodes

module _ {k a : ℕ} {p : Parsed} {u v : List ℕ} where
  pub put_one_is : {code x : ℕ} → 0 < a → Builds code ((a - 1) ∷ x ∷ 0 ∷ 0 ∷ []) k p → Emitted a p u v → (f : One) → StandsAs f code x → PutNode k a (one_shape f (a - 1)) u v
  put_one_is m b put f s = put_as (one_shape f (a - 1)) (λ l. one_is b (same (a - 1) (omega arith)) f s) put

module _ {k a b x : ℕ} {p : Parsed} {u v : List ℕ} (some-a : 0 < a) (more : a < b) (put : Emitted b p u v) where
  pub put_two_is : {code : ℕ} → code ≢ 25 → code ≢ 26 → code ≢ 32 → Builds code ((a - 1) ∷ (b - 1) ∷ 0 ∷ 0 ∷ []) k p
      → (f : Two) → StandsAsTwo f code x → PutNode k b (two_shape f (a - 1) (b - 1)) u v
  put_two_is h i j z f s = put_as (two_shape f (a - 1) (b - 1)) (λ l. two_is z (same (a - 1) (omega arith)) (same (b - 1) (omega arith)) h i j f s) put

  pub put_quantified_is : {code : ℕ} → 25 ≤ code → code < 27 → Builds code ((a - 1) ∷ x ∷ (b - 1) ∷ 0 ∷ []) k p
      → (f : Two) → StandsAsTwo f code x → PutNode k b (two_shape f (a - 1) (b - 1)) u v
  put_quantified_is h i z f s = put_as (two_shape f (a - 1) (b - 1)) (λ l. quantified_is z (same (a - 1) (omega arith)) (same (b - 1) (omega arith)) h i f s) put

  pub put_let_is : {code : ℕ} → code ≡ 32 → Builds 32 (x ∷ (a - 1) ∷ (b - 1) ∷ 0 ∷ []) k p → (f : Two) → StandsAsTwo f code x → PutNode k b (two_shape f (a - 1) (b - 1)) u v
  put_let_is e z f s =
      put_as (two_shape f (a - 1) (b - 1)) (λ l. let_is z (same (a - 1) (omega arith)) (same (b - 1) (omega arith)) f (record { code = s.code ∙ e; number = s.number })) put

module _ {k a b c : ℕ} {p : Parsed} {u v : List ℕ} (some-a : 0 < a) (more : a < b) (most : b < c) (put : Emitted c p u v) where
  pub put_condition_is : Builds 31 ((a - 1) ∷ (b - 1) ∷ (c - 1) ∷ 0 ∷ []) k p → PutNode k c (three_shape conditional (a - 1) (b - 1) (c - 1)) u v
  unfolding count_of form_with fields_by with_code forms form_codes three_shape
  put_condition_is z =
      put_as (three_shape conditional (a - 1) (b - 1) (c - 1))
      (λ l. three_by z refl (same (a - 1) (omega arith)) (same (b - 1) (omega arith)) (same (c - 1) (omega arith)) refl) put

  pub put_iteration_is : {i j : ℕ} {g : Result FlatType Misread} {y : TypeRead} → TypeTold g y → Iterates ((a - 1) ∷ i ∷ j ∷ 0 ∷ []) y ((b - 1) ∷ (c - 1) ∷ 0 ∷ 0 ∷ []) k p
      → (x z : ℕ) (t : Ty) → i ≡ cut x → j ≡ cut z → type_field g ≡ held (some t) → PutNode k c (three_shape (iterate x z t) (a - 1) (b - 1) (c - 1)) u v
  unfolding three_shape
  put_iteration_is {g = g} {y = y} told it x z t e q h =
      put_as (three_shape (iterate x z t) (a - 1) (b - 1) (c - 1))
      (λ l. it.is (a - 1) x z (b - 1) (c - 1) t (triple (same (a - 1) (omega arith)) (record { is = e }) (record { is = q })) (pair (same (b - 1) (omega arith)) (same (c - 1) (omega arith))) (holds (told.is (some t) h))) put
    where
      holds : TypeSpelled (some t) y → HoldsType t y
      holds (a_type s m) = m

-- ---- a sign's form, once its right operand has been looked for

pub behind_is : {a : ℕ} {r : Optional (Token × ℕ)} → Behind a r → {u : Token} {b : ℕ} → r ≡ Some (u, b) → (a < b) × (b < 18446744073709551615)
behind_is {a} h {u} {b} e = go (rw e at h)
  where
    go : Behind a (Some (u, b)) → (a < b) × (b < 18446744073709551615)
    go (behind_one l m) = (l, m)

module _ {k code a : ℕ} {w : List ℕ} {r : Optional (Token × ℕ)} where
  pub joined_none : r ≡ None → Joins k code a w r None w
  joined_none e = rw e joins_none

  pub joined_one : {u : Token} {b : ℕ} {v : List ℕ} → r ≡ Some (u, b) → ((f : Two) → StandsAsTwo f code 0 → PutNode k b (two_shape f (a - 1) (b - 1)) w v) → Joins k code a w r (Some (u, b + 1)) v
  joined_one e put = rw e (joins_one put)

-- `attr` and `collect`: the row that the tables give a class, its type, and its mark. Assumes nothing.
use mathlib.Core.Path.{◌≡◌, refl, sym, ap, ◌∙◌}
use mathlib.Core.Bool.{Bool, true, false}
use mathlib.Core.Option.{Option, none, some, none-ne-some}
use mathlib.Core.List.{List}
use Prim.Native.Nat.{ℕ, zero, suc, ◌+◌, ◌*◌, ◌-◌, ◌<◌, ◌≤◌}
use native.Mathlib.Omega.{arith}
use lib.ListN.{get_or, set, take, drop}
use lib.Seq.{get_or-take, get_or-drop}
use lib.Dec.{eqb}
use borrow.Author.Tests.{ne_eqb}
use Rattle.std.specs.Prelude.{if◌then◌else◌, Option as Optional, Some, None, Result, Ok, Err}
use Rattle.memory.specs.Map as memory
use Rattle.ocl.specs.Types.{any, boolean, integer, real, class, kind_code, same_kind, Letter, exactly, Ty, void, simple, around}
use Rattle.ocl.specs.Forms.{of_object, of_members}
use Rattle.ocl.specs.Model.{Row, Schema, row_read}
use Rattle.ocl.specs.Typing.{Answer, typed, refused, Typed, pure, then_for, and_then, wrap, on_class, collect_kind, row_type, attribute_type}
use Rattle.ocl.specs.Marks.{Mark, of_row, of_rows, row_marked, kind_marked}
use Rattle.types.specs.declared.FlatType.{FlatType}
use Rattle.types.specs.Flat.{letter_of, ty_of}
use Rattle.types.specs.Parts.{outer_code, member_type, simple_class, class_of, class_number}
use Rattle.types.specs.Rows.{row_read_in, found}
use Rattle.types.specs.Word.{type_in}
use Rattle.types.proofs.Members.{class_is, no_collection, is_collection}
use Rattle.types.proofs.RowLaws.{ReadsTables, row_read_law}
use Rattle.types.proofs.RowBounds.{row_below}
use Rattle.nodes.specs.Marks.{mark_word}
use Rattle.judgements.specs.Replies.{meaning, write_marks, Tells, ReadsRows}
use Rattle.judgements.specs.Single.{collect_code}
use Rattle.judgements.proofs.Composition.{early, after, done}
use Rattle.memory.specs.Refusals.{at}
use Rattle.memory.specs.declared.refusals.Refusal.TheVariants.{NoSuchMark, WrongPiece}
use Rattle.memory.specs.declared.refusals.Refused.{Refused}

-- ---- which types are classes

no_class : {A : Type 0} (x : A) (k : ℕ → A) (t : Ty) → none ≡ class_of t → on_class t x k ≡ x
unfolding on_class class_of simple_class
no_class x k void h = refl
no_class x k (simple any) h = refl
no_class x k (simple boolean) h = refl
no_class x k (simple integer) h = refl
no_class x k (simple real) h = refl
no_class x k (simple (class c)) h = absurd (none-ne-some _ h)
no_class x k (around l t) h = refl

a_class : {A : Type 0} (x : A) (k : ℕ → A) (t : Ty) (c : ℕ) → some c ≡ class_of t → on_class t x k ≡ k c
unfolding on_class
a_class x k t c h = ap (λ (u : Ty). on_class u x k) (class_is t c h)

module _ {A : Type 0} (x : A) (k : ℕ → A) (t : Ty) (y : Optional ℕ) (p : class_number y ≡ class_of t) where
  class_none : y ≡ None → on_class t x k ≡ x
  unfolding class_number
  class_none q = no_class x k t (ap class_number (sym q) ∙ p)

  class_some : (c : ℕ) → y ≡ Some c → on_class t x k ≡ k c
  unfolding class_number
  class_some c q = a_class x k t c (ap class_number (sym q) ∙ p)

-- ---- the row that the tables give

abbrev owners_in : List ℕ → List ℕ
owners_in tables = take 64 (drop 64 tables)

abbrev names_in : List ℕ → List ℕ
names_in tables = take 64 (drop 128 tables)

pub row_small : (ps owners names : List ℕ) (rows c name : ℕ) (x : Optional ℕ) {i : ℕ} → found x ≡ row_read_in ps owners names rows c name → x ≡ Some i → i < rows
unfolding found
row_small ps owners names rows c name x {i} h q = row_below ps owners names rows c name i (sym h ∙ ap found q)

module _ {ps tables : List ℕ} {rows : ℕ} (m : Schema) (to : ReadsRows ps tables rows m) where
  read_tables : ReadsTables m ps (owners_in tables) (names_in tables) rows
  read_tables = record {
    parents = to.classes.parent;
    count = to.count;
    owner = λ i h. let k : i < m.row_count = omega (arith, to.count) in ap (λ (r : Row). r.owner) (to.classes.row i k);
    name = λ i h. let k : i < m.row_count = omega (arith, to.count) in ap (λ (r : Row). r.name) (to.classes.row i k);
  }

  type_of_row : (i : ℕ) → i < rows → i < 64 → (m.row i).type ≡ type_in (get_or tables (memory.types + i) 0)
  type_of_row i h s =
      let k : i < m.row_count = omega (arith, to.count) in
      ap (λ (r : Row). r.type) (to.classes.row i k) ∙ ap type_in (get_or-take 64 (drop 192 tables) i 0 s ∙ get_or-drop 192 tables i 0)

  module _ (n name c : ℕ) (mark : ℕ → Mark) (y : Optional ℕ) (h : found y ≡ row_read_in ps (owners_in tables) (names_in tables) rows c name) where
    row_is : row_type m n mark typed (row_read m c name) ≡ row_type m n mark typed (found y)
    row_is = ap (row_type m n mark typed) (row_read_law m ps (owners_in tables) (names_in tables) rows read_tables c name ∙ sym h)

    pub no_row_lem : {B : List ℕ} → y ≡ None → Tells (row_type m n mark typed (row_read m c name)) B B (Err (at NoSuchMark n))
    unfolding found row_type
    no_row_lem z = rw (row_is, z) (done refl)

    pub row_at : {B : List ℕ} {i j w : ℕ} {u : FlatType} → rows ≤ 64 → y ≡ Some i → j ≡ i → ty_of u ≡ type_in (get_or tables (memory.types + j) 0) → mark_word (mark i) ≡ w
        → Tells (row_type m n mark typed (row_read m c name)) B (set B n w) (Ok u)
    unfolding found row_type write_marks
    row_at {B} {i} s z l g e =
        let k = row_small ps (owners_in tables) (names_in tables) rows c name y h z in
        rw (row_is, z) (record {
          is = ap typed (g ∙ ap (λ (a : ℕ). type_in (get_or tables (memory.types + a) 0)) l ∙ sym (type_of_row i k (omega arith)));
          wrote = ap (set B n) (sym e);
        })

-- ---- `attr`

module _ (m : Schema) (n name : ℕ) (t : Ty) (y : Optional ℕ) (p : class_number y ≡ class_of t) {B : List ℕ} where
  pub attribute_not : y ≡ None → Tells (attribute_type m n of_object name t) B B (Err (at WrongPiece n))
  unfolding attribute_type
  attribute_not q = rw (class_none (pure (refused 11 n)) (λ c. row_type m n of_row typed (row_read m c name)) t y p q) (done refl)

  pub attribute_row : {A : List ℕ} {r : Result FlatType Refused} (c : ℕ) → y ≡ Some c → Tells (row_type m n of_row typed (row_read m c name)) B A r → Tells (attribute_type m n of_object name t) B A r
  unfolding attribute_type
  attribute_row c q d = rw (class_some (pure (refused 11 n)) (λ c. row_type m n of_row typed (row_read m c name)) t y p c q) d

pub row_word : (i : ℕ) → mark_word (of_row i) ≡ 0 + i
unfolding mark_word kind_marked row_marked same_kind kind_code
row_word i = omega arith

-- ---- `collect`

-- the kind goes around the row's type, once that is found
row_then : (m : Schema) (n : ℕ) (mark : ℕ → Mark) (k : Ty → Answer) (o : Option ℕ) → row_type m n mark k o ≡ and_then (row_type m n mark typed o) (λ u. pure (k u))
unfolding row_type and_then then_for
row_then m n mark k none = refl
row_then m n mark k (some i) = refl

collect_letter : (c : ℕ) → letter_of (collect_code c) ≡ exactly (collect_kind (letter_of c))
unfolding collect_code letter_of collect_kind
collect_letter zero = refl
collect_letter (suc zero) = refl
collect_letter (suc (suc zero)) = refl
collect_letter (suc (suc (suc zero))) = refl
collect_letter (suc (suc (suc (suc zero)))) = refl
collect_letter (suc (suc (suc (suc (suc c))))) = rw (ne_eqb (suc (suc (suc (suc (suc c))))) 3 (λ e. omega arith))

collect_word : (c i : ℕ) → mark_word (of_rows (collect_kind (letter_of c)) i) ≡ 64 * (4 - collect_code c) + i
unfolding mark_word kind_marked row_marked same_kind kind_code collect_code letter_of collect_kind
collect_word zero i = omega arith
collect_word (suc zero) i = omega arith
collect_word (suc (suc zero)) i = omega arith
collect_word (suc (suc (suc zero))) i = refl
collect_word (suc (suc (suc (suc zero)))) i = omega arith
collect_word (suc (suc (suc (suc (suc c))))) i = rw (ne_eqb (suc (suc (suc (suc (suc c))))) 3 (λ e. omega arith)) (omega arith)

pub code_sequence : (c : ℕ) → c ≡ 3 → 3 ≡ collect_code c
unfolding collect_code
code_sequence c e = rw e

pub code_other : (c : ℕ) → (c ≡ 3 → ⊥) → 4 ≡ collect_code c
unfolding collect_code
code_other c n = rw (ne_eqb c 3 n)

code_small : (c : ℕ) → (3 ≤ collect_code c) × (collect_code c ≤ 4)
unfolding collect_code
code_small c = by (eqb c 3)
  where
    by : (b : Bool) → (3 ≤ (if b then 3 else 4)) × ((if b then 3 else 4) ≤ 4)
    by true = (omega arith, omega arith)
    by false = (omega arith, omega arith)

module _ (c : ℕ) {k : ℕ} (e : k ≡ collect_code c) where
  pub code_low : k ≤ 4
  code_low = let h = code_small c in omega arith

  pub code_some : 0 < k
  code_some = let h = code_small c in omega arith

  pub code_room : 64 * (4 - k) ≤ 64
  code_room = let h = code_small c in omega arith

pub more_word : (c i : ℕ) {k : ℕ} → k ≡ collect_code c → mark_word (of_rows (collect_kind (letter_of c)) i) ≡ 64 * (4 - k) + i
more_word c i e = rw e (collect_word c i)

-- what a collection with the letter, of members of class d, leads to
abbrev of_class : Schema → ℕ → ℕ → Letter → ℕ → Typed
of_class m n name l d = row_type m n (of_rows (collect_kind l)) (wrap n (exactly (collect_kind l))) (row_read m d name)

module _ (m : Schema) (n name : ℕ) (t : Ty) {c : ℕ} (e : c ≡ outer_code t) where
  pub collect_not : {B : List ℕ} → c ≡ 0 → Tells (attribute_type m n of_members name t) B B (Err (at WrongPiece n))
  unfolding attribute_type
  collect_not z = rw (no_collection (pure (refused 11 n)) (λ l u. on_class u (pure (refused 11 n)) (of_class m n name l)) t (sym e ∙ z)) (done refl)

  module _ (z : c ≡ 0 → ⊥) (y : Optional ℕ) {u : Ty} (g : u ≡ member_type t) (p : class_number y ≡ class_of u) where
    on_class_lem : attribute_type m n of_members name t ≡ on_class (member_type t) (pure (refused 11 n)) (of_class m n name (letter_of c))
    unfolding attribute_type
    on_class_lem = is_collection (pure (refused 11 n)) (λ l u. on_class u (pure (refused 11 n)) (of_class m n name l)) t (λ q. z (e ∙ q)) ∙ ap (λ (k : ℕ). on_class (member_type t) (pure (refused 11 n)) (of_class m n name (letter_of k))) (sym e)

    pub collect_no_class : {B : List ℕ} → y ≡ None → Tells (attribute_type m n of_members name t) B B (Err (at WrongPiece n))
    collect_no_class q = rw (on_class_lem, class_none (pure (refused 11 n)) (of_class m n name (letter_of c)) (member_type t) y (p ∙ ap class_of g) q) (done refl)

    module _ (d : ℕ) (q : y ≡ Some d) {B A : List ℕ} {x : Result FlatType Refused} (D : Tells (row_type m n (of_rows (collect_kind (letter_of c))) typed (row_read m d name)) B A x) where
      the_row : attribute_type m n of_members name t ≡ and_then (row_type m n (of_rows (collect_kind (letter_of c))) typed (row_read m d name)) (λ u. pure (wrap n (exactly (collect_kind (letter_of c))) u))
      the_row =
          on_class_lem ∙ class_some (pure (refused 11 n)) (of_class m n name (letter_of c)) (member_type t) y (p ∙ ap class_of g) d q
          ∙ row_then m n (of_rows (collect_kind (letter_of c))) (wrap n (exactly (collect_kind (letter_of c)))) (row_read m d name)

      pub collect_early : {f : Refused} → x ≡ Err f → Tells (attribute_type m n of_members name t) B A (Err f)
      collect_early o = rw the_row (early (λ u. pure (wrap n (exactly (collect_kind (letter_of c))) u)) D o)

      pub collect_done : {w : FlatType} {r : Result FlatType Refused} {k : ℕ} → x ≡ Ok w → k ≡ collect_code c → meaning r ≡ wrap n (letter_of k) (ty_of w) → Tells (attribute_type m n of_members name t) B A r
      collect_done {w} {k = k} o i h =
          let a : letter_of k ≡ exactly (collect_kind (letter_of c)) = ap letter_of i ∙ collect_letter c in
          rw the_row (after (λ u. pure (wrap n (exactly (collect_kind (letter_of c))) u)) D o (done (h ∙ ap (λ (l : Letter). wrap n l (ty_of w)) a)))

-- The strict forms on numbers, over values that lie on the stack. Assumes nothing.
use mathlib.Core.Path.{◌≡◌, refl, sym, ap, ◌∙◌}
use mathlib.Core.Bool.{Bool, true, false}
use mathlib.Core.List.{List}
use Prim.Native.Nat.{ℕ, zero, suc, ◌+◌, ◌%◌, ◌<◌, compare}
use native.Mathlib.Omega.{arith}
use lib.ListN.{get_or}
use lib.IntN.{ℤ}
use lib.Dec.{T, leb, ltb, eqb}
use borrow.Author.Tests.{lt-ltb, le-ltb, leb-true, leb-false}
use Rattle.laws.proofs.Orders.{compare-lt, compare-eq, compare-gt, Three, less, same, over, three}
use Rattle.reals.specs.Reals.{Number, int, real, in_range, kept, order_int, by_number, is_less, lesser, Operation, Result, result, no_result, over_range, calculated}
use Rattle.reals.specs.Words.{cell}
use Rattle.reals.proofs.Laws.{number_laws, word_laws}
use Rattle.floats.specs.Meanings.{computed_of, Sound, SoundWhole, SoundResult, IntegerIn, IntegerCell, NumberOf, CellOf, operation_of, Calculates as Operates}
use Rattle.floats.specs.declared.Number.{Number as Coded}
use Rattle.ocl.specs.Values.{Value, bool, num, obj, coll, sort}
use Rattle.ocl.specs.Marks.{Scale, integers, reals, scale_marked}
use Rattle.ocl.specs.Forms.{Arith, Division, arith as calculation, divide, less as less_form, over as over_form}
use Rattle.ocl.specs.Operations.{Outcome, value, stuck, on_int, on_num, on_two, resulting, arithmetic, division, operation_of as widened_of, on_scale, binary_apply, is_int, is_num}
use Rattle.ocl.proofs.Ends.{Results, results, arithmetic_all, division_all, calculated_all}
use Rattle.values.specs.Cells.{bias, head, Fits, fits_bool, fits_num}
use Rattle.values.specs.Meanings.{means_bool, SortOf}
use Rattle.values.specs.Integers.{num_of, Calculates, Divides, arith_of}
use Rattle.values.specs.declared.Simple.TheVariants as simple
use Rattle.values.proofs.Heads.{shape, bias_small}
use Rattle.nodes.specs.Marks.{Marked, scale_in}
use Rattle.outcomes.specs.declared.Ended.{Ended}
use Rattle.outcomes.specs.declared.Ended.TheVariants as ended
use Rattle.outcomes.specs.Answers.{Ran, SmallAnswer, GivesCell, Gives}
use Rattle.operations.specs.Operations.{AnyMark, OfTwo, of_integers, of_numbers, Calculated, Settled, GoesByReals, FitsScale}
use Rattle.outcomes.proofs.Words.{head_at_lem}
use Rattle.operations.proofs.Sorts.{no_ints, no_int, is_int_lem, int_stuck, no_nums, no_num, is_num_lem, num_stuck, num_test}
use Rattle.operations.proofs.OperationLaws.{ran_stuck, ran_undefined, ran_stop}
use Rattle.std.specs.Prelude.{Option as Optional, Some, None, Result as Fallible, Ok, Err}
use Rattle.floats.specs.declared.NoNumber.{NoNumber}
use Rattle.floats.specs.declared.NoNumber.TheVariants.{OverRange, Undefined}

-- ---- what an operation came to

-- an Integer in range, as arithmetic on Integers gives, and any number that a value may hold
data Ranged : Value → Type 0 where
  ranged_int : {z : ℤ} → T (in_range z) → Ranged (num (int z))

data Held : Value → Type 0 where
  held_num : {x : Number} → T (kept x) → Held (num x)

module _ {sp s : ℕ} {B : List ℕ} where
  calculated_by : {c : Fallible ℕ NoNumber} {A : List ℕ} {r : Ended} → SmallAnswer r → ((x : Result) → Results Ranged x → c ≡ num_of x → Ran (resulting x s) sp B A r) → Calculated c sp s B A r
  calculated_by m g = record {
    small = m;
    arith = λ o x y e. g (arithmetic o x y) (arithmetic_all Ranged (λ z h. ranged_int h) o x y) e;
    divide = λ o x y e. g (division o x y) (division_all Ranged (λ z h. ranged_int h) o x y) e;
  }

  pub calculated_is : {x : Fallible ℕ NoNumber} {n c : ℕ} {A : List ℕ} {r : Ended} → x ≡ Ok n → IntegerCell (n % 4294967296) c → GivesCell c sp s B A r → Calculated x sp s B A r
  unfolding num_of kept head sort
  calculated_is {n = n} {A = A} {r = r} q C G = rw q (calculated_by G.small by)
    where
      by : (x : Result) → Results Ranged x → Ok n ≡ num_of x → Ran (resulting x s) sp B A r
      by (result x) (results (ranged_int {z} h)) e =
          let m : n ≡ bias z = cc in
          let k = bias_small z h in
          G.is (num (int z)) (fits_num h) (omega arith) (C.is z h (omega arith))
      by no_result h e = absurd (let z : ◌≡◌ {A = ℕ} 0 1 = cc in omega arith)
      by over_range h e = absurd (let z : ◌≡◌ {A = ℕ} 0 1 = cc in omega arith)

  pub calculated_undefined : {x : Fallible ℕ NoNumber} {e : NoNumber} → x ≡ Err e → e ≡ Undefined → Calculated x sp s B B (ended.Undef s)
  unfolding num_of
  calculated_undefined q p = rw (q, p) (calculated_by tt by)
    where
      by : (x : Result) → Results Ranged x → Err Undefined ≡ num_of x → Ran (resulting x s) sp B B (ended.Undef s)
      by (result x) (results (ranged_int h)) e = absurd (let z : ◌≡◌ {A = ℕ} 0 1 = cc in omega arith)
      by no_result h e = ran_undefined
      by over_range h e = absurd (let z : ◌≡◌ {A = ℕ} 0 1 = cc in omega arith)

  pub calculated_over : {x : Fallible ℕ NoNumber} {e : NoNumber} → x ≡ Err e → e ≡ OverRange → Calculated x sp s B B (ended.Stop 19 s)
  unfolding num_of
  calculated_over q p = rw (q, p) (calculated_by tt by)
    where
      by : (x : Result) → Results Ranged x → Err OverRange ≡ num_of x → Ran (resulting x s) sp B B (ended.Stop 19 s)
      by (result x) (results (ranged_int h)) e = absurd (let z : ◌≡◌ {A = ℕ} 0 1 = cc in omega arith)
      by no_result h e = absurd (let z : ◌≡◌ {A = ℕ} 0 1 = cc in omega arith)
      by over_range h e = ran_stop

  settled_by : {c : Fallible Coded NoNumber} {A : List ℕ} {r : Ended} → SmallAnswer r → ((x : Result) → Results Held x → c ≡ computed_of x → Ran (resulting x s) sp B A r) → Settled c sp s B A r
  settled_by m g = record { small = m; is = λ o x y e. g (calculated o x y) (calculated_all Held (λ z h. held_num h) o x y) e }

  pub settled_is : {x : Fallible Coded NoNumber} {n : Coded} {c : ℕ} {A : List ℕ} {r : Ended} → x ≡ Ok n → CellOf n c → GivesCell c sp s B A r → Settled x sp s B A r
  unfolding computed_of head sort
  settled_is {n = n} {A = A} {r = r} q C G = rw q (settled_by G.small by)
    where
      by : (x : Result) → Results Held x → Ok n ≡ computed_of x → Ran (resulting x s) sp B A r
      by (result x) (results (held_num h)) e = G.is (num x) (fits_num h) (omega arith) (C.is x h cc)
      by no_result h e = absurd (let z : ◌≡◌ {A = ℕ} 0 1 = cc in omega arith)
      by over_range h e = absurd (let z : ◌≡◌ {A = ℕ} 0 1 = cc in omega arith)

  pub settled_undefined : {x : Fallible Coded NoNumber} {e : NoNumber} → x ≡ Err e → e ≡ Undefined → Settled x sp s B B (ended.Undef s)
  unfolding computed_of
  settled_undefined q p = rw (q, p) (settled_by tt by)
    where
      by : (x : Result) → Results Held x → Err Undefined ≡ computed_of x → Ran (resulting x s) sp B B (ended.Undef s)
      by (result x) h e = absurd (let z : ◌≡◌ {A = ℕ} 0 1 = cc in omega arith)
      by no_result h e = ran_undefined
      by over_range h e = absurd (let z : ◌≡◌ {A = ℕ} 0 1 = cc in omega arith)

  pub settled_over : {x : Fallible Coded NoNumber} {e : NoNumber} → x ≡ Err e → e ≡ OverRange → Settled x sp s B B (ended.Stop 19 s)
  unfolding computed_of
  settled_over q p = rw (q, p) (settled_by tt by)
    where
      by : (x : Result) → Results Held x → Err OverRange ≡ computed_of x → Ran (resulting x s) sp B B (ended.Stop 19 s)
      by (result x) h e = absurd (let z : ◌≡◌ {A = ℕ} 0 1 = cc in omega arith)
      by no_result h e = absurd (let z : ◌≡◌ {A = ℕ} 0 1 = cc in omega arith)
      by over_range h e = ran_stop

pub result_sound : {x : Fallible Coded NoNumber} {n : Coded} → SoundResult x → x ≡ Ok n → Sound n
result_sound h e = rw e at h

-- ---- two operands

pub whole_narrow : {t : Optional ℕ} {n : ℕ} → SoundWhole t → t ≡ Some n → n < 4294967296
whole_narrow h e = rw e at h

module _ {sp la lb s : ℕ} {B : List ℕ} where
  pub ints_left : {t : Optional ℕ} (f : ℤ → ℤ → Result) → IntegerIn (get_or B sp 0) t → t ≡ None → OfTwo AnyMark (of_integers f) sp la lb s B B ended.Stuck
  unfolding of_integers
  ints_left f I q = record { small = tt; ran = λ m M v w l k. rw (no_int l I q (λ x. on_int w (λ y. resulting (f x y) s))) ran_stuck }

  pub ints_right : {u : Optional ℕ} (f : ℤ → ℤ → Result) → IntegerIn (get_or B (sp + la) 0) u → u ≡ None → OfTwo AnyMark (of_integers f) sp la lb s B B ended.Stuck
  unfolding of_integers
  ints_right f J q = record { small = tt; ran = λ m M v w l k. rw (no_ints v w (λ x y. resulting (f x y) s) (no_int k J q)) ran_stuck }

  module _ {t u : Optional ℕ} {p q : ℕ} (I : IntegerIn (get_or B sp 0) t) (e : t ≡ Some p) (J : IntegerIn (get_or B (sp + la) 0) u) (f : u ≡ Some q) where
    pub arith_done : {o : Arith} {c : Fallible ℕ NoNumber} {A : List ℕ} {r : Ended} → Calculates o p q c → Calculated c sp s B A r → OfTwo AnyMark (of_integers (arithmetic o)) sp la lb s B A r
    unfolding of_integers
    arith_done {o} C G = record {
      small = G.small;
      ran = λ m M v w l k.
          let i = is_int_lem l I e in let j = is_int_lem k J f in
          rw (i.is, j.is) (G.arith o i.z j.z (C.is i.z j.z i.ranged j.ranged i.biased j.biased));
    }

    pub divide_done : {o : Division} {c : Fallible ℕ NoNumber} {A : List ℕ} {r : Ended} → Divides o p q c → Calculated c sp s B A r → OfTwo AnyMark (of_integers (division o)) sp la lb s B A r
    unfolding of_integers
    divide_done {o} C G = record {
      small = G.small;
      ran = λ m M v w l k.
          let i = is_int_lem l I e in let j = is_int_lem k J f in
          rw (i.is, j.is) (G.divide o i.z j.z (C.is i.z j.z i.ranged j.ranged i.biased j.biased));
    }

  -- two numbers

  module _ {t : ℕ} (S : SortOf (get_or B sp 0) t) where
    pub nums_left : (o : Operation) → (t ≡ 1 → ⊥) → OfTwo AnyMark (of_numbers o) sp la lb s B B ended.Stuck
    unfolding of_numbers
    nums_left o n = record { small = tt; ran = λ m M v w l k. rw (no_num l S n (λ x. on_num w (λ y. resulting (calculated o x y) s))) ran_stuck }

  module _ {u : ℕ} (R : SortOf (get_or B (sp + la) 0) u) where
    pub nums_right : (o : Operation) → (u ≡ 1 → ⊥) → OfTwo AnyMark (of_numbers o) sp la lb s B B ended.Stuck
    unfolding of_numbers
    nums_right o n = record { small = tt; ran = λ m M v w l k. rw (no_nums v w (λ x y. resulting (calculated o x y) s) (no_num k R n)) ran_stuck }

    pub nums_done : {t : ℕ} {a b : Coded} {o : Operation} {c : Fallible Coded NoNumber} {A : List ℕ} {r : Ended} → SortOf (get_or B sp 0) t → t ≡ 1 → u ≡ 1 → NumberOf (get_or B sp 0) a → NumberOf (get_or B (sp + la) 0) b
        → Operates o a b c → Settled c sp s B A r → OfTwo AnyMark (of_numbers o) sp la lb s B A r
    unfolding of_numbers head
    nums_done {o = o} S e f X Y C G = record {
      small = G.small;
      ran = λ m M v w l k.
          let i = is_num_lem l S e in let j = is_num_lem k R f in
          rw (i.is, j.is) (G.is o i.x j.x (C.is i.x j.x i.held j.held (X.is i.x i.held (rw i.is at (head_at_lem l))) (Y.is j.x j.held (rw j.is at (head_at_lem k)))));
    }

-- ---- by the mark

pub goes_by : (mark : ℕ) → GoesByReals mark (leb 128 mark)
unfolding scale_in
goes_by mark = record { yes = λ e. rw (le-ltb mark 128 (leb-true 128 mark e)); no = λ e. rw (lt-ltb mark 128 (leb-false 128 mark e)) }

codes : (n : ℕ) → n < 3 → operation_of n ≡ widened_of (arith_of n)
unfolding operation_of widened_of arith_of
codes zero h = refl
codes (suc zero) h = refl
codes (suc (suc zero)) h = refl
codes (suc (suc (suc n))) h = absurd (omega arith)

module _ {mark : ℕ} {b : Bool} (G : GoesByReals mark b) where
  pub scale_reals : {cell t : ℕ} → b ≡ true → SortOf cell t → FitsScale mark cell (eqb t 1)
  scale_reals q S = record { is = λ m M v f h. num_test (shape f (S.is v f h) (λ n. refl)) ∙ sym (ap (λ (x : Scale). on_scale x v) (M.scale ∙ G.yes q)) }

  module _ {sp la lb s : ℕ} {B A : List ℕ} {r : Ended} where
    pub by_integers : (o : Arith) → b ≡ false → OfTwo AnyMark (of_integers (arithmetic o)) sp la lb s B A r → OfTwo (Marked mark) (λ m. binary_apply m (calculation o)) sp la lb s B A r
    unfolding binary_apply of_integers
    by_integers o q x = record { small = x.small; ran = λ m M v w l k. rw (M.scale ∙ G.no q) (x.ran m (record {}) v w l k) }

    pub by_reals : (op : ℕ) → op < 3 → b ≡ true → OfTwo AnyMark (of_numbers (operation_of op)) sp la lb s B A r → OfTwo (Marked mark) (λ m. binary_apply m (calculation (arith_of op))) sp la lb s B A r
    unfolding binary_apply of_numbers
    by_reals op h q x = record { small = x.small; ran = λ m M v w l k. rw (M.scale ∙ G.yes q, ← codes op h) (x.ran m (record {}) v w l k) }

module _ {sp la lb s : ℕ} {B A : List ℕ} {r : Ended} where
  pub by_division : (o : Division) → OfTwo AnyMark (of_integers (division o)) sp la lb s B A r → OfTwo AnyMark (λ m. binary_apply m (divide o)) sp la lb s B A r
  unfolding binary_apply of_integers
  by_division o x = record { small = x.small; ran = λ m M v w l k. x.ran m M v w l k }

  pub by_over : OfTwo AnyMark (of_numbers (operation_of 3)) sp la lb s B A r → OfTwo AnyMark (λ m. binary_apply m over_form) sp la lb s B A r
  unfolding binary_apply of_numbers operation_of
  by_over x = record { small = x.small; ran = λ m M v w l k. x.ran m M v w l k }

-- ---- `less`

less_than : (a b : ℕ) → is_less (compare a b) ≡ ltb a b
unfolding is_less
less_than a b = by (three a b)
  where
    by : Three a b → is_less (compare a b) ≡ ltb a b
    by (less h) = ap is_less (compare-lt a b h) ∙ sym (lt-ltb a b h)
    by (same h) = ap is_less (compare-eq a b h) ∙ sym (le-ltb a b (omega arith))
    by (over h) = ap is_less (compare-gt a b h) ∙ sym (le-ltb a b (omega arith))

less_words : (x y : Number) → T (kept x) → T (kept y) → is_less (by_number x y) ≡ ltb (cell x) (cell y)
less_words x y h k = sym (ap is_less (word_laws.order x y h k)) ∙ less_than (cell x) (cell y)

-- what `less` of the two comes to
abbrev less_of : Scale → Value → Value → ℕ → Outcome
less_of x v w n = on_two x v w (λ x y. value (bool (is_less (order_int x y))) n) (λ x y. value (bool (lesser x y)) n)

less_left : (x : Scale) (v w : Value) (n : ℕ) → on_scale x v ≡ false → less_of x v w n ≡ stuck
less_left integers v w n e = int_stuck v e _
less_left reals v w n e = num_stuck v e _

less_right : (x : Scale) (v w : Value) (n : ℕ) → on_scale x w ≡ false → less_of x v w n ≡ stuck
less_right integers v w n e = no_ints v w _ (int_stuck w e)
less_right reals v w n e = no_nums v w _ (num_stuck w e)

int_of : (v : Value) → is_int v ≡ true → (z : ℤ) × (v ≡ num (int z))
int_of (bool b) e = absurd (let z : ◌≡◌ {A = ℕ} 0 1 = cc in omega arith)
int_of (num (int z)) e = (z, refl)
int_of (num (real r)) e = absurd (let z : ◌≡◌ {A = ℕ} 0 1 = cc in omega arith)
int_of (obj o) e = absurd (let z : ◌≡◌ {A = ℕ} 0 1 = cc in omega arith)
int_of (coll k vs) e = absurd (let z : ◌≡◌ {A = ℕ} 0 1 = cc in omega arith)

num_of_lem : (v : Value) → is_num v ≡ true → (x : Number) × (v ≡ num x)
num_of_lem (bool b) e = absurd (let z : ◌≡◌ {A = ℕ} 0 1 = cc in omega arith)
num_of_lem (num x) e = (x, refl)
num_of_lem (obj o) e = absurd (let z : ◌≡◌ {A = ℕ} 0 1 = cc in omega arith)
num_of_lem (coll k vs) e = absurd (let z : ◌≡◌ {A = ℕ} 0 1 = cc in omega arith)

fits_kept : {x : Number} → Fits (num x) → T (kept x)
fits_kept (fits_num h) = h

less_both : (x : Scale) (v w : Value) (n : ℕ) → Fits v → Fits w → on_scale x v ≡ true → on_scale x w ≡ true → less_of x v w n ≡ value (bool (ltb (head v) (head w))) n
unfolding head
less_both integers v w n f g d e =
    let a = int_of v d in let b = int_of w e in
    let h = fits_kept (rw a.1 at f) in let k = fits_kept (rw b.1 at g) in
    rw (a.1, b.1) (ap (λ (b : Bool). value (bool b) n) (ap is_less (sym (number_laws.integers a.0 b.0)) ∙ less_words (int a.0) (int b.0) h k))
less_both reals v w n f g d e =
    let a = num_of_lem v d in let b = num_of_lem w e in
    let h = fits_kept (rw a.1 at f) in let k = fits_kept (rw b.1 at g) in
    rw (a.1, b.1) (ap (λ (b : Bool). value (bool b) n) (number_laws.less_order a.0 b.0 h k ∙ less_words a.0 b.0 h k))

module _ {mark sp la lb s : ℕ} {B : List ℕ} where
  pub less_no_left : {b : Bool} → FitsScale mark (get_or B sp 0) b → b ≡ false → OfTwo (Marked mark) (λ m. binary_apply m less_form) sp la lb s B B ended.Stuck
  unfolding binary_apply
  less_no_left F q = record { small = tt; ran = λ m M v w l k. rw (less_left (scale_marked m) v w s (sym (F.is m M v l.fits (head_at_lem l)) ∙ q)) ran_stuck }

  pub less_no_right : {b : Bool} → FitsScale mark (get_or B (sp + la) 0) b → b ≡ false → OfTwo (Marked mark) (λ m. binary_apply m less_form) sp la lb s B B ended.Stuck
  unfolding binary_apply
  less_no_right F q = record { small = tt; ran = λ m M v w l k. rw (less_right (scale_marked m) v w s (sym (F.is m M w k.fits (head_at_lem k)) ∙ q)) ran_stuck }

  pub less_done : {a b : Bool} {A : List ℕ} {r : Ended} → FitsScale mark (get_or B sp 0) a → a ≡ true → FitsScale mark (get_or B (sp + la) 0) b → b ≡ true
      → Gives (simple.Bool (ltb (get_or B sp 0) (get_or B (sp + la) 0))) sp s B A r → OfTwo (Marked mark) (λ m. binary_apply m less_form) sp la lb s B A r
  unfolding binary_apply
  less_done F p G q x = record {
    small = x.small;
    ran = λ m M v w l k.
        rw (less_both (scale_marked m) v w s l.fits k.fits (sym (F.is m M v l.fits (head_at_lem l)) ∙ p) (sym (G.is m M w k.fits (head_at_lem k)) ∙ q))
        (x.is (bool (ltb (head v) (head w))) fits_bool (rw (head_at_lem l, head_at_lem k) means_bool));
  }

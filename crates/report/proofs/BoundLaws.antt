-- Laws of how long a rule's lines, and those of all rules, can be. Assumes nothing.
use mathlib.Core.Path.{◌≡◌, refl, sym, ap, ◌∙◌}
use mathlib.Core.Bool.{Bool, true, false, cond}
use mathlib.Core.List.{List}
use Prim.Native.Nat.{ℕ, zero, suc, ◌+◌, ◌*◌, ◌≤◌, ◌<◌}
use native.Mathlib.Omega.{arith}
use native.Mathlib.Nat.{mul-le-mul}
use native.Mathlib.Numerals.{add-one}
use lib.ListN.{length, get_or}
use Rattle.std.specs.Prelude.{count_by, filter}
use Rattle.std.specs.List.{range_with_len}
use Rattle.std.proofs.lemmas.List.Sums.{length-filter, sum_by-cons}
use Rattle.memory.specs.Map as memory
use Rattle.ocl.specs.Types.{class, Ty}
use Rattle.ocl.specs.Model.{Model, is_a}
use Rattle.sheet.specs.Sheet.{Rule, Sheet, model_of}
use Rattle.types.specs.declared.Base.{Base}
use Rattle.types.specs.declared.FlatType.{FlatType}
use Rattle.types.specs.Flat.{base_type, ty_of}
use Rattle.types.specs.Word.{type_in}
use Rattle.types.proofs.Members.{ends, goes_on}
use Rattle.tables.specs.declared.Counts.{Counts}
use Rattle.tables.specs.Stored.{HoldsModel}
use Rattle.outcomes.specs.Tables.{Bounds, IsA}
use Rattle.rules.specs.Accepted.{Accepted, TypesIn}
use Rattle.rules.specs.Width.{width}
use Rattle.rules.proofs.Lengths.{width_within}
use Rattle.rules.proofs.Ready.{ready}
use Rattle.report.specs.Bound.{objects_of, CountsObjects, line_width, BoundsLines, lines_bound, rules_bound, BoundsAll}
use Rattle.report.specs.Passes.{TypedRule}
use Rattle.report.proofs.ReportLaws.{rule_of, bound_to, bound_rule, bound_all}

-- ---- the width of a type

pub width_on : (t : FlatType) → (t.outer ≡ 0 → ⊥) → 2304 ≡ width (ty_of t)
unfolding width
width_on t h = sym (ap width (goes_on t h))

pub width_ends : (t : FlatType) (a : Base) → t.outer ≡ 0 → t.base ≡ a → width (base_type a) ≡ width (ty_of t)
width_ends t a e q = ap (λ (x : Base). width (base_type x)) (sym q) ∙ ap width (sym (ends t e))

-- ---- a line

pub width_within_line : (origins : Bool) (t : Ty) → line_width origins t ≤ 2319
unfolding line_width
width_within_line true t = omega arith
width_within_line false t = omega (arith, (width_within t).1)

pub origin_width : {origins : Bool} (t : Ty) → origins ≡ true → 20 ≡ line_width origins t
unfolding line_width
origin_width t e = rw e

pub report_width : {origins : Bool} {n : ℕ} (t : Ty) → origins ≡ false → n ≡ width t → 15 + n ≡ line_width origins t
unfolding line_width
report_width t e q = rw (e, q)

-- ---- counting objects

pub is_a_told : {st : Counts} {w0 : List ℕ} {m : Model} (c : ℕ) → HoldsModel st w0 m → (o : ℕ) (b : Bool) → IsA st w0 o c b → b ≡ is_a m o (class c)
is_a_told {m = m} c h o b a = a.is m h

module _ (m : Model) (c : ℕ) where
  counted_from : (a n : ℕ) → objects_of m c (a + n) ≡ objects_of m c a + count_by (λ o. is_a m o (class c)) (range_with_len a n)
  unfolding objects_of
  counted_from a zero = let e : a + zero ≡ a = omega arith in rw e (omega arith)
  counted_from a (suc n) =
      let e : a + suc n ≡ a + 1 + n = omega arith in
      rw (e, counted_from (a + 1) n, add-one a, sum_by-cons (λ o. cond (is_a m o (class c)) 1 0) a (range_with_len (suc a) n)) (omega arith)

  pub objects_counted : (n : ℕ) → length (filter (λ o. is_a m o (class c)) (range_with_len 0 n)) ≡ objects_of m c n
  unfolding objects_of
  objects_counted n =
      let z : 0 + n ≡ n = omega arith in
      let e : objects_of m c (0 + n) ≡ count_by (λ o. is_a m o (class c)) (range_with_len 0 n) = counted_from 0 n ∙ omega arith in
      length-filter (λ o. is_a m o (class c)) (range_with_len 0 n) ∙ sym e ∙ ap (objects_of m c) z

-- ---- a rule's lines

module _ (origins : Bool) {st : Counts} {w0 : List ℕ} {c n w : ℕ} (t : Ty) (count : CountsObjects st w0 c n) (wide : w ≡ line_width origins t) where
  pub bound_few : n * w ≤ 222624
  bound_few =
      let h : w ≤ 2319 = omega (arith, width_within_line origins t, wide) in
      omega (arith, mul-le-mul count.few h)

  pub bounds_lines : BoundsLines origins st w0 c t (n * w)
  bounds_lines = record { is = λ m h. rw (wide, count.is m h); few = bound_few }

-- a rule of an accepted sheet, by its words
lines_bound_is : {origins : Bool} {st : Counts} {w0 w1 : List ℕ} {r n : ℕ} {s : Sheet} {x : Rule} {t : Ty} → TypedRule st w0 w1 r s x t
    → BoundsLines origins st w0 (get_or w0 (memory.contexts + r) 0) t n → n ≡ lines_bound origins s x t (length s.objects)
unfolding lines_bound
lines_bound_is {r = r} {s = s} {x = x} m b =
    let all = ready m.lies in
    b.is (model_of s) all.model ∙ rw ((all.rule r x m.rule).context, m.lies.holds.counted.objects)

-- ---- all rules: the bound of the first r

pub record BoundedTo (origins : Bool) (st : Counts) (w0 w2 : List ℕ) (bound r : ℕ) : Type 0 where
  pub is : (w1 : List ℕ) (s : Sheet) (ts : List Ty) → Accepted st w0 w1 s ts → TypesIn w2 ts → bound ≡ bound_to origins s ts r
  pub few : bound ≤ r * 222624
  pub within : r ≤ st.rules

module _ {origins : Bool} {st : Counts} {w0 w2 : List ℕ} where
  pub bounded_none : BoundedTo origins st w0 w2 0 0
  unfolding rules_bound
  bounded_none = record { is = λ w1 s ts a w. refl; few = omega arith; within = omega arith }

  pub bounded_next : {rules bound r n : ℕ} {t : Ty} → rules ≡ st.rules → BoundedTo origins st w0 w2 bound r → r < rules → t ≡ type_in (get_or w2 (768 + r) 0)
      → BoundsLines origins st w0 (get_or w0 (memory.contexts + r) 0) t n → BoundedTo origins st w0 w2 (bound + n) (r + 1)
  bounded_next {rules} {bound} {r} {n} {t} count so h e b = record {
    is = λ w1 s ts a w.
        let there : r < st.rules = omega arith in
        let y = rule_of a there in
        let q : t ≡ y.type = e ∙ w.at r y.type y.listed in
        rw (add-one r, bound_rule origins y, so.is w1 s ts a w, lines_bound_is y.is (rw q at b));
    few = omega (arith, so.few, b.few);
    within = omega arith;
  }

  pub bounded_all : {rules bound r words : ℕ} → Bounds st words → rules ≡ st.rules → BoundedTo origins st w0 w2 bound r → rules ≤ r → BoundsAll origins st w0 w2 bound
  bounded_all {r = r} lent count so h = let e : r ≡ st.rules = omega (arith, so.within) in record {
    is = λ w1 s ts a w. so.is w1 s ts a w ∙ bound_all origins s ts r (e ∙ a.lies.holds.counted.rules);
    few = omega (arith, so.few, lent.fine.rules);
  }

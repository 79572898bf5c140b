-- How many bytes spell a number, a type and a value. Assumes nothing.
use mathlib.Core.Path.{◌≡◌}
use mathlib.Core.Bool.{true, false}
use Prim.Native.Nat.{suc, ◌+◌, ◌*◌, ◌≤◌, ◌<◌}
use native.Mathlib.Omega.{arith}
use lib.IntN.{ℤ, pos, negsuc}
use lib.ListN.{length, length-append}
use lib.Dec.{T, ltb→lt}
use Rattle.laws.proofs.Tests.{and_l, and_r}
use Rattle.reals.specs.Reals.{Real, Number, int, real, in_range, kept}
use Rattle.reals.specs.Bits.{bits}
use Rattle.reals.specs.Spelling.{spell_real}
use Rattle.reals.proofs.Digits.{hex_length}
use Rattle.ocl.specs.Types.{Simple, any, boolean, integer, class, Ty, void, simple, around, depth}
use Rattle.ocl.specs.Values.{Value, bool, obj, coll, Values, nil, cons, size, sizes, every_part, every_parts, num}
use Rattle.sheet.specs.Text.{bytes, spell_integer}
use Rattle.sheet.specs.Spelling.{spell_simple, spell_type, spell_bool, spell_value, spell_members, spell_more, spell_num}
use Rattle.sheet.specs.Limits.{simple_class_below, class_below, part_within}
use Rattle.sheet.specs.SpellingLaws.{LengthLaws}
use Rattle.sheet.proofs.Numbers.{digits_at_most}

pub integer_length : (z : ℤ) → T (in_range z) → length (spell_integer z) ≤ 11
unfolding in_range spell_integer
integer_length (pos n) t =
    let h = ltb→lt n 2147483648 t in
    let d = digits_at_most 10 n (omega arith) (omega arith) in
    omega arith
integer_length (negsuc n) t =
    let h = ltb→lt n 2147483648 t in
    let d = digits_at_most 10 (suc n) (omega arith) (omega arith) in
    omega arith

pub real_length : (r : Real) → length (spell_real r) ≡ 17
unfolding spell_real
real_length r = let h = hex_length 16 (bits r) in omega (arith, h)

num_length : (x : Number) → T (kept x) → length (spell_num x) ≤ 17
unfolding spell_num kept
num_length (int z) h = omega (arith, integer_length z h)
num_length (real r) h = omega (arith, real_length r)

-- ---- types

simple_length : (a : Simple) → T (simple_class_below 64 a) → length (spell_simple a) ≤ 4
unfolding spell_simple simple_class_below bytes
simple_length any t = omega arith
simple_length boolean t = omega arith
simple_length integer t = omega arith
simple_length Simple.real t = omega arith
simple_length (class c) t =
    let h = ltb→lt c _ t in
    let d = digits_at_most 2 c (omega arith) (omega arith) in
    omega arith

-- three bytes for each letter with its brackets
pub type_length : (t : Ty) → T (class_below 64 t) → length (spell_type t) ≤ 4 + 3 * depth t
unfolding spell_type class_below depth bytes
type_length void h = omega arith
type_length (simple a) h = omega (arith, simple_length a h)
type_length (around l t) h = omega (arith, type_length t h, length-append (spell_type t) (bytes ")"))

-- ---- values

-- eighteen bytes for each part, with what parts it from the next
mutual
  unfolding spell_value spell_bool every_part part_within size bytes

  pub value_length : (v : Value) → T (every_part part_within v) → length (spell_value v) < 18 * size v
  value_length (bool true) h = omega arith
  value_length (bool false) h = omega arith
  value_length (num x) h = omega (arith, num_length x h)
  value_length (obj o) h =
      let l = ltb→lt o _ h in
      let d = digits_at_most 2 o (omega arith) (omega arith) in
      omega arith
  value_length (coll k vs) h = omega (arith, members_length vs h)

  members_length : (vs : Values) → T (every_parts part_within vs) → length (spell_members vs) ≤ 18 * sizes vs + 1
  members_length nil h = omega arith
  members_length (cons v vs) h =
      omega
      (arith, length-append (spell_value v) (spell_more vs), value_length v (and_l (every_part part_within v) _ h), more_length vs (and_r (every_part part_within v) _ h))

  more_length : (vs : Values) → T (every_parts part_within vs) → length (spell_more vs) ≤ 18 * sizes vs + 1
  more_length nil h = omega arith
  more_length (cons v vs) h =
      omega
      (arith, length-append (spell_value v) (spell_more vs), value_length v (and_l (every_part part_within v) _ h), more_length vs (and_r (every_part part_within v) _ h))

pub length_laws : LengthLaws
length_laws =
    record {
      number_length = digits_at_most;
      steps_length = λ n h. digits_at_most 7 n (omega arith) (omega arith);
      integer_length = integer_length;
      real_length = real_length;
      type_length = λ t d h. omega (arith, type_length t h);
      value_length = λ v h s. omega (arith, value_length v h);
    }

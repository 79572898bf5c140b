-- How long a report line can be, for a rule of an accepted sheet with a type and an object of its context. Assumes nothing.
use mathlib.Core.Path.{◌≡◌, refl}
use mathlib.Core.Bool.{Bool, true, false}
use mathlib.Core.Option.{Option, none, some}
use mathlib.Core.List.{List}
use Prim.Native.Nat.{ℕ, ◌+◌, ◌≤◌, ◌<◌}
use native.Mathlib.Omega.{arith}
use borrow.Author.Tests.{lt-ltb}
use lib.ListN.{length, get_elem?, length-append}
use lib.Dec.{T, ltb→lt}
use Rattle.laws.specs.Lists.{Each}
use Rattle.laws.proofs.Tests.{and_i, and_l, and_r}
use Rattle.laws.proofs.Elements.{elem_at}
use Rattle.ocl.specs.Types.{Simple, any, boolean, integer, real, class, exactly, Ty, void, simple, around, simple_subtype, letter_subtype, climbs, height, up, same_simple, simple_code}
use Rattle.ocl.specs.Values.{Value, bool, num, obj, coll, Values, size, every_part, every_parts}
use Rattle.reals.specs.Reals.{Number, int, real as a_real, kept}
use Rattle.ocl.specs.Model.{Model, class_is_a, is_a, every, number_type, belongs}
use Rattle.ocl.specs.Forms.{reach}
use Rattle.ocl.specs.Typing.{typed}
use Rattle.ocl.specs.Operations.{Outcome, value, undefined, stuck, stop, steps_of}
use Rattle.ocl.specs.Soundness.{Sound}
use Rattle.ocl.proofs.SimpleTypes.{integer_not_class, real_not_class}
use Rattle.ocl.proofs.Steps.{steps_limited}
use Rattle.ocl.proofs.Stops.{stop_within}
use Rattle.sheet.specs.Text.{bytes, spell_number}
use Rattle.sheet.specs.Spelling.{spell_bool, spell_num, spell_value}
use Rattle.sheet.specs.Sheet.{Rule, Sheet, model_of}
use Rattle.sheet.specs.Limits.{part_within}
use Rattle.sheet.specs.Calls.{typing_of, outcome_of}
use Rattle.sheet.specs.Laws.{Defined}
use Rattle.sheet.specs.Report.{spell_outcome, report_line}
use Rattle.sheet.proofs.Soundness.{sound_rule}
use Rattle.sheet.proofs.Lengths.{length_laws}
use Rattle.values.specs.Cells.{Fits, fits_num, fits_coll, AllFit, fit_nil, fit_cons}
use Rattle.tables.specs.declared.Counts.{Counts}
use Rattle.outcomes.specs.declared.Ended.{Ended}
use Rattle.outcomes.specs.Answers.{Ends, ends_value, ends_undefined, ends_stuck, ends_stop}
use Rattle.rules.specs.Accepted.{InWords}
use Rattle.rules.specs.Width.{width}

-- ---- the parts of a value that belongs to a type, in a model with few objects

module _ (m : Model) (few : (o c : ℕ) → m.class_of o ≡ some c → o < 96) where
  object_few : (o : ℕ) (b : Simple) → T (is_a m o b) → o < 96
  unfolding is_a class_is_a
  object_few o b h = by (m.class_of o) refl h
    where
      by : (c : Option ℕ) → m.class_of o ≡ c → T (class_is_a m.parent c b) → o < 96
      by none e k = absurd k
      by (some c) e k = few o c e

  all_within : (t : Ty) {vs : Values} → ((v : Value) → Fits v → T (belongs m t v) → T (every_part part_within v)) → AllFit vs → T (every (belongs m t) vs) → T (every_parts part_within vs)
  unfolding every every_parts
  all_within t h fit_nil e = tt
  all_within t h (fit_cons {v} {vs} f fs) e =
      and_i (every_part part_within v) (every_parts part_within vs) (h v f (and_l (belongs m t v) _ e)) (all_within t h fs (and_r (belongs m t v) _ e))

  parts_within : (t : Ty) (v : Value) → Fits v → T (belongs m t v) → T (every_part part_within v)
  unfolding belongs every_part part_within
  parts_within void v f h = absurd h
  parts_within (simple b) (bool x) f h = tt
  parts_within (simple b) (num x) (fits_num l) h = l
  parts_within (simple b) (obj o) f h = rw (lt-ltb o 96 (object_few o b h)) tt
  parts_within (simple b) (coll k vs) f h = absurd h
  parts_within (around l t) (bool x) f h = absurd h
  parts_within (around l t) (num x) f h = absurd h
  parts_within (around l t) (obj o) f h = absurd h
  parts_within (around l t) (coll k vs) (fits_coll n fs) h = all_within t (parts_within t) fs (and_r (letter_subtype (exactly k) l) _ h)

-- ---- a value by its type

bool_length : (b : Bool) → length (spell_value (bool b)) ≤ 3
unfolding spell_value spell_bool bytes
bool_length true = omega arith
bool_length false = omega arith

object_length : (o : ℕ) → T (part_within (obj o)) → length (spell_value (obj o)) ≤ 3
unfolding spell_value part_within
object_length o h = let l = ltb→lt o 96 h in let d = length_laws.number_length 2 o (omega arith) (omega arith) in omega arith

-- an Integer has eleven bytes at most, a Real 17
num_length : (x : Number) → T (part_within (num x)) → length (spell_value (num x)) ≤ 17
unfolding spell_value spell_num part_within kept
num_length (int z) p = let n = length_laws.integer_length z p in omega arith
num_length (a_real r) p = let n = length_laws.real_length r in omega arith

value_width : (m : Model) (t : Ty) (v : Value) → T (belongs m t v) → T (every_part part_within v) → size v ≤ 128 → length (spell_value v) ≤ width t
unfolding belongs number_type every_part part_within kept spell_value spell_num width simple_subtype climbs height up same_simple simple_code
value_width m void v h p l = absurd h
value_width m (simple any) v h p l = length_laws.value_length v p l
value_width m (simple boolean) (bool b) h p l = bool_length b
value_width m (simple boolean) (num (int z)) h p l = absurd h
value_width m (simple boolean) (num (a_real r)) h p l = absurd h
value_width m (simple boolean) (obj o) h p l = object_length o p
value_width m (simple boolean) (coll k vs) h p l = absurd h
value_width m (simple integer) (bool b) h p l = let n = bool_length b in omega arith
value_width m (simple integer) (num (int z)) h p l = length_laws.integer_length z p
value_width m (simple integer) (num (a_real r)) h p l = absurd h
value_width m (simple integer) (obj o) h p l = let n = object_length o p in omega arith
value_width m (simple integer) (coll k vs) h p l = absurd h
value_width m (simple real) (bool b) h p l = let n = bool_length b in omega arith
value_width m (simple real) (num x) h p l = num_length x p
value_width m (simple real) (obj o) h p l = let n = object_length o p in omega arith
value_width m (simple real) (coll k vs) h p l = absurd h
value_width m (simple (class c)) (bool b) h p l = bool_length b
value_width m (simple (class c)) (num (int z)) h p l = absurd (integer_not_class m.parent c h)
value_width m (simple (class c)) (num (a_real r)) h p l = absurd (real_not_class m.parent c h)
value_width m (simple (class c)) (obj o) h p l = object_length o p
value_width m (simple (class c)) (coll k vs) h p l = absurd h
value_width m (around q t) v h p l = length_laws.value_length v p l

-- ---- an outcome

-- the width of each type is between these
pub width_within : (t : Ty) → (3 ≤ width t) × (width t ≤ 2304)
unfolding width
width_within void = (omega arith, omega arith)
width_within (simple any) = (omega arith, omega arith)
width_within (simple boolean) = (omega arith, omega arith)
width_within (simple integer) = (omega arith, omega arith)
width_within (simple real) = (omega arith, omega arith)
width_within (simple (class c)) = (omega arith, omega arith)
width_within (around l t) = (omega arith, omega arith)

outcome_width : (m : Model) (t : Ty) (k : ℕ) (o : Outcome) → Sound m t k o → ((v : Value) (n : ℕ) → o ≡ value v n → T (every_part part_within v))
    → length (spell_outcome o) ≤ width t
unfolding spell_outcome bytes
outcome_width m t k (value v n) h p = value_width m t v (h.of_type v n refl) (p v n refl) (h.of_size v n refl)
outcome_width m t k (undefined n) h p = let w = (width_within t).0 in omega arith
outcome_width m t k stuck h p = absurd (h.not_stuck refl)
outcome_width m t k (stop c n) h p =
    let w = (width_within t).0 in
    let d = length_laws.number_length 2 c (omega arith) (omega (arith, stop_within (h.known_stop c n refl))) in
    omega arith

-- what lies in the words fits
ends_fit : {sp : ℕ} {A : List ℕ} {o : Outcome} {e : Ended} → Ends sp A o e → (v : Value) (n : ℕ) → o ≡ value v n → Fits v
ends_fit (ends_value {v} l k) w n q = let z : v ≡ w = cc in rw (← z) l.fits
ends_fit ends_undefined w n q = absurd (let z : ◌≡◌ {A = ℕ} 0 1 = cc in omega arith)
ends_fit ends_stuck w n q = absurd (let z : ◌≡◌ {A = ℕ} 0 1 = cc in omega arith)
ends_fit ends_stop w n q = absurd (let z : ◌≡◌ {A = ℕ} 0 1 = cc in omega arith)

-- ---- a line

pub steps_length : (s : Sheet) (x : Rule) (o : ℕ) → length (spell_number (steps_of (outcome_of s x o))) ≤ 7
unfolding outcome_of
steps_length s x o = length_laws.steps_length (steps_of (outcome_of s x o)) (steps_limited (model_of s) _ x.body o)

line_by : (r o n : ℕ) (x : Outcome) → r < 100 → o < 100 → length (spell_outcome x) ≤ n → length (spell_number (steps_of x)) ≤ 7 → length (report_line r o x) ≤ 15 + n
unfolding report_line bytes
line_by r o n x a b h l =
    let d = length_laws.number_length 2 r (omega arith) (omega arith) in
    let e = length_laws.number_length 2 o (omega arith) (omega arith) in
    simp length-append (omega arith)

module _ {st : Counts} {w0 w1 : List ℕ} {s : Sheet} (a : InWords st w0 w1 s) (defined : Each (Defined s) s.definitions) (r o : ℕ) {x : Rule} {t : Ty} (is : get_elem? s.rules r ≡ some x)
    (type : (typing_of s x).answer ≡ typed t) (of : T (is_a (model_of s) o (class x.context))) {sp : ℕ} {A : List ℕ} {e : Ended} (ends : Ends sp A (outcome_of s x o) e) where
  few_objects : (i c : ℕ) → (model_of s).class_of i ≡ some c → i < 96
  unfolding model_of
  few_objects i c q = let h = (elem_at s.objects i c q).0 in let n = a.holds.counted.objects in let f = a.fine.objects in omega arith

  sound : Sound (model_of s) t (reach x.body) (outcome_of s x o)
  sound = sound_rule s a.good defined r o x t is type of

  within : (v : Value) (n : ℕ) → outcome_of s x o ≡ value v n → T (every_part part_within v)
  within v n q = parts_within (model_of s) few_objects t v (ends_fit ends v n q) (sound.of_type v n q)

  -- a value
  pub value_length : {v : Value} {n : ℕ} → outcome_of s x o ≡ value v n → length (spell_value v) ≤ 2304
  value_length {v} {n} q = length_laws.value_length v (within v n q) (sound.of_size v n q)

  -- a value or a stop
  pub outcome_length : length (spell_outcome (outcome_of s x o)) ≤ width t
  outcome_length = outcome_width (model_of s) t (reach x.body) (outcome_of s x o) sound within

  pub line_length : length (report_line r o (outcome_of s x o)) ≤ 15 + width t
  line_length =
      let h = (elem_at s.rules r x is).0 in
      let n = a.holds.counted.rules in
      let f = a.fine.rules in
      let k = object_few (model_of s) few_objects o (class x.context) of in
      line_by r o (width t) (outcome_of s x o) (omega arith) (omega arith) outcome_length (steps_length s x o)

-- Lines that are spelled make a text, and O and V lines have a spelling: so there is a text with objects numbered anew. Assumes nothing.
use mathlib.Core.Path.{◌≡◌, refl, sym, ap, ◌∙◌, subst}
use mathlib.Core.Logic.{◌≢◌}
use mathlib.Core.Bool.{Bool, true, false}
use mathlib.Core.Option.{some, none-ne-some, some-injective}
use mathlib.Core.List.{List, [], ◌∷◌}
use Prim.Native.Nat.{ℕ, suc, ◌<◌}
use native.Mathlib.Omega.{arith}
use lib.ListN.{length}
use lib.Dec.{leb, ltb, T}
use Rattle.laws.specs.Choice.{on_some, map_some}
use Rattle.laws.specs.Lists.{Each, each_nil, each-cons}
use Rattle.laws.proofs.Tests.{by-if}
use Rattle.laws.proofs.Lists.{each_imp, each_append}
use Rattle.laws.proofs.Options.{on_some_some, map_some_some}
use Rattle.reals.specs.Reals.{int, real, Number, kept}
use Rattle.ocl.specs.Types.{set, sequence, bag}
use Rattle.ocl.specs.Values.{Value, bool, num, obj, coll, Values, nil, cons, every_part}
use Rattle.ocl.specs.Laws.{numbers_kept, number_kept}
use Rattle.ocl.proofs.NumbersKept.{AllKept}
use Rattle.sheet.specs.Text.{Bytes, bytes, lines_of, fields_of, spell_number}
use Rattle.sheet.specs.Spelling.{letter_byte, kind_byte, spell_bool, spell_num, spell_value, spell_members, spell_more}
use Rattle.sheet.specs.SpellingLaws.{joined, Parted, parted_nil, parted_cons, real_kept}
use Rattle.sheet.specs.Lines.{Line, object_line, value_line, is, next, done, line_of}
use Rattle.sheet.specs.Sheet.{Slot}
use Rattle.sheet.specs.Refusals.{block_of}
use Rattle.sheet.specs.Calls.{answer, type_lines}
use Rattle.sheet.proofs.TypeLines.{High, number_high, integer_high, real_high}
use Rattle.sheet.proofs.Spelling.{value_back}
use Rattle.sheet.proofs.Split.{split_laws}
use Rattle.sheet.proofs.NodeBack.{number_back}
use Rattle.sheet.proofs.NodeFields.{Fields, parted, joined_line}
use Rattle.sheet.proofs.Soundness.{read_lent}
use Rattle.sheet.proofs.Accepted.{accepted_of}
use Rattle.profile.specs.Renumbering.{renumbered}
use Rattle.profile.specs.RenumberedLines.{at_last, lines_from, lines_in, objects_in, object_lines_from, value_lines, renumbered_lines, renumbered_objects, renumbered_slot, renumbered_slots, of_blocks}
use Rattle.profile.specs.FreeNumbering.{NewTextLaw}
use Rattle.profile.proofs.Taken.{lines_more, text_whole}
use Rattle.profile.proofs.ImageValues.{image_parts}
use Rattle.profile.proofs.SlotsInOrder.{each_renumbered}
use Rattle.profile.proofs.SlotImages.{value_fit}
use Rattle.profile.proofs.NewLines.{pieces}

-- ---- bytes that are no line feed and no tab

before : (c : ℕ) {b : Bytes} → 10 < c → High b → High (c ∷ b)
before c h r = each-cons h r

mutual
  unfolding spell_value spell_num spell_bool kind_byte letter_byte bytes

  value_high : (v : Value) → High (spell_value v)
  value_high (bool true) = before 116 (omega arith) each_nil
  value_high (bool false) = before 102 (omega arith) each_nil
  value_high (num (int z)) = integer_high z
  value_high (num (real r)) = real_high r
  value_high (obj o) = before 64 (omega arith) (number_high o)
  value_high (coll set vs) = before 83 (omega arith) (before 40 (omega arith) (members_high vs))
  value_high (coll sequence vs) = before 81 (omega arith) (before 40 (omega arith) (members_high vs))
  value_high (coll bag vs) = before 66 (omega arith) (before 40 (omega arith) (members_high vs))

  members_high : (vs : Values) → High (spell_members vs)
  members_high nil = before 41 (omega arith) each_nil
  members_high (cons v vs) = each_append (value_high v) (more_high vs)

  more_high : (vs : Values) → High (spell_more vs)
  more_high nil = before 41 (omega arith) each_nil
  more_high (cons v vs) = before 44 (omega arith) (each_append (value_high v) (more_high vs))

-- ---- a line with a spelling

record Spelled (x : Line) : Type 0 where
  text : Bytes
  one_line_lem : Each (λ c. c ≢ 10) text
  reads : line_of (fields_of text) ≡ some x

spelled_by : {x : Line} (f : Bytes) (fs : List Bytes) → Fields (f ∷ fs) → line_of (f ∷ fs) ≡ some x → Spelled x
unfolding fields_of
spelled_by f fs h e = record {
  text = joined 9 (f ∷ fs);
  one_line_lem = joined_line h;
  reads = ap line_of ((split_laws 9).no_other_parts (f ∷ fs) (omega arith) (parted 9 (omega arith) h)) ∙ e;
}

object_spelled : (n c : ℕ) → Spelled (object_line n c)
unfolding bytes
object_spelled n c =
    spelled_by (bytes "O") (spell_number n ∷ spell_number c ∷ []) (each-cons (each-cons (omega arith) each_nil) (each-cons (number_high n) (each-cons (number_high c) each_nil))) (reads n c)
  where
    reads : (n c : ℕ) → line_of (bytes "O" ∷ spell_number n ∷ spell_number c ∷ []) ≡ some (object_line n c)
    reads n c = unfold line_of is bytes next done on_some in rw (number_back n, number_back c)

value_spelled : (x : Slot) → T (every_part real_kept x.value) → Spelled (value_line x.object x.row x.value)
unfolding bytes
value_spelled x q =
    spelled_by (bytes "V") (spell_number x.object ∷ spell_number x.row ∷ spell_value x.value ∷ [])
    (each-cons (each-cons (omega arith) each_nil) (each-cons (number_high x.object) (each-cons (number_high x.row) (each-cons (value_high x.value) each_nil)))) (reads x.object x.row x.value q)
  where
    reads : (o a : ℕ) (v : Value) → T (every_part real_kept v) → line_of (bytes "V" ∷ spell_number o ∷ spell_number a ∷ spell_value v ∷ []) ≡ some (value_line o a v)
    reads o a v q = unfold line_of is bytes next done on_some in rw (number_back o, number_back a, value_back v q)

-- ---- lines of a text are spelled

lines_spelled : (parts : List Bytes) (ls : List Line) → Parted 10 parts → lines_from parts ≡ some ls → Each Spelled ls
unfolding lines_from
lines_spelled [] ls h e = absurd (none-ne-some ls e)
lines_spelled (l ∷ []) ls h e = last l ls e
  where
    last : (l : Bytes) (ls : List Line) → at_last l ≡ some ls → Each Spelled ls
    last [] ls e = unfold at_last in subst (Each Spelled) (some-injective [] ls e) each_nil
    last (b ∷ l) ls e = unfold at_last in absurd (none-ne-some ls e)
lines_spelled (l ∷ m ∷ parts) ls (parted_cons h r) e =
    let a = on_some_some (line_of (fields_of l)) (λ x. map_some (λ xs. x ∷ xs) (lines_from (m ∷ parts))) e in
    let b = map_some_some (λ xs. a.0 ∷ xs) (lines_from (m ∷ parts)) a.2 in
    subst (Each Spelled) b.2 (each-cons (record { text = l; one_line_lem = h; reads = a.1 }) (lines_spelled (m ∷ parts) b.0 r b.1))

each_of : {P : Line → Type 0} (f : ℕ → Bool) {ls : List Line} → Each P ls → Each P (of_blocks f ls)
unfolding of_blocks
each_of f each_nil = each_nil
each_of {P} f (each-cons {n = x} {ns = ls} h r) = by-if (Each P) (f (block_of x)) (x ∷ of_blocks f ls) (of_blocks f ls) (λ t. each-cons h (each_of f r)) (λ t. each_of f r)

objects_spelled : (n : ℕ) (os : List ℕ) → Each Spelled (object_lines_from n os)
unfolding object_lines_from
objects_spelled n [] = each_nil
objects_spelled n (c ∷ os) = each-cons (object_spelled n c) (objects_spelled (suc n) os)

values_spelled : {xs : List Slot} → Each (λ x. T (every_part real_kept x.value)) xs → Each Spelled (value_lines xs)
unfolding value_lines
values_spelled each_nil = each_nil
values_spelled (each-cons {n = x} q h) = each-cons (value_spelled x q) (values_spelled h)

-- ---- and spelled lines make a text

record Text (ls : List Line) : Type 0 where
  first : Bytes
  more : List Bytes
  apart : Parted 10 (first ∷ more)
  spells : lines_from (first ∷ more) ≡ some ls

text_of : {ls : List Line} → Each Spelled ls → Text ls
unfolding lines_from at_last
text_of each_nil = record { first = []; more = []; apart = parted_cons each_nil parted_nil; spells = refl }
text_of (each-cons {n = x} {ns = ls} h r) = let t = text_of r in record {
  first = h.text;
  more = t.first ∷ t.more;
  apart = parted_cons h.one_line_lem t.apart;
  spells = lines_more h.text t.first t.more x ls h.reads t.spells;
}

-- ---- the values of an accepted text, numbered anew, are read back

real_kept_lem : (x : Number) → T (kept x) → T (real_kept (num x))
unfolding real_kept
real_kept_lem (int z) h = tt
real_kept_lem (real r) h = h

image_legible : (to : ℕ → ℕ) (v : Value) → T (numbers_kept v) → T (every_part real_kept (renumbered to v))
unfolding numbers_kept number_kept real_kept
image_legible to v h = image_parts to number_kept real_kept (λ b k. tt) real_kept_lem (λ o k. tt) v h

slots_legible : (to : ℕ → ℕ) {xs : List Slot} → Each (λ x. T (numbers_kept x.value)) xs → Each (λ x. T (every_part real_kept x.value)) (renumbered_slots to xs)
unfolding renumbered_slot
slots_legible to h = each_renumbered to (λ x k. image_legible to x.value k) h

pub new_text : NewTextLaw
unfolding lines_in renumbered_lines map_some AllKept
new_text text w0 w1 w2 out l a to back =
    let x = accepted_of text (λ s ts. answer (type_lines ts)) (rw (read_lent text w0 w1 w2 out l) at a) in
    let w = text_whole text x.sheet x.is in
    let ls = w.lines in
    let c = pieces ls w.last w.number w.all in
    let h = lines_spelled (lines_of text) ls (lines_parted text) w.spelled in
    let k = slots_legible to (each_imp (λ y f. (value_fit y.value f.within f.in_order_lem).numbers_kept_lem) c.slots.facts) in
    let t = text_of (each_append (each_of (λ b. ltb b 2) h) (each_append (objects_spelled 0 (renumbered_objects back (objects_in ls) (length (objects_in ls)))) (each_append (values_spelled k) (each_of (λ b. leb 4 b) h)))) in
    (joined 10 (t.first ∷ t.more), ap lines_from (lines_joined t.first t.more t.apart) ∙ t.spells ∙ sym (ap (map_some (renumbered_lines to back)) w.spelled))
  where
    lines_parted : (text : Bytes) → Parted 10 (lines_of text)
    lines_parted text = unfold lines_of in (split_laws 10).parts_free text

    lines_joined : (p : Bytes) (ps : List Bytes) → Parted 10 (p ∷ ps) → lines_of (joined 10 (p ∷ ps)) ≡ p ∷ ps
    lines_joined p ps h = unfold lines_of in (split_laws 10).no_other_parts (p ∷ ps) (omega arith) h

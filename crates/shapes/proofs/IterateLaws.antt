-- Laws of `iter`: its type, and its six fields. Assumes nothing.
use mathlib.Core.Path.{◌≡◌, refl, sym, ap, ◌∙◌}
use mathlib.Core.Bool.{Bool, true, false, not, ◌&&◌, true≢false}
use mathlib.Core.Option.{Option, none, some}
use mathlib.Core.List.{List, [], ◌∷◌, map}
use Prim.Native.Nat.{ℕ, ◌+◌, ◌-◌, ◌<◌, ◌≤◌}
use native.Mathlib.Nat.{zero-add}
use native.Mathlib.Omega.{arith}
use borrow.Author.Tests.{le-leb, lt-leb, lt-ltb, le-ltb}
use native.Mathlib.Decide.{dec_lt}
use lib.Dec.{eqb, ltb, leb}
use lib.ListN.{length, get_or, take, drop}
use lib.Seq.{drop-drop, get_or-drop}
use Rattle.laws.specs.Choice.{on_some, map_some}
use Rattle.laws.proofs.Cases.{zero_least}
use Rattle.laws.proofs.Options.{nowhere}
use Rattle.laws.proofs.Tests.{and-true}
use Rattle.ocl.specs.Types.{Ty}
use Rattle.sheet.specs.Text.{Bytes, fields_of}
use Rattle.sheet.specs.Spelling.{read_type}
use Rattle.sheet.specs.Lines.{iterate, next, done, each, a_number, iterate_fields}
use Rattle.sheet.specs.Sheet.{operands_of}
use Rattle.sheet.specs.Limits.{is_variable, simple_class_below, class_below, type_within, held_by, form_within}
use Rattle.sheet.specs.Refusals.{two_variables, form_known}
use Rattle.types.specs.Flat.{base_type, base_class, ty_of}
use Rattle.types.specs.Word.{type_in}
use Rattle.types.specs.Reading.{type_field, held}
use Rattle.types.proofs.Within.{read_bad, read_big, read_is, type_class, within_class}
use Rattle.types.specs.declared.Base.{Base}
use Rattle.types.specs.declared.Base.TheVariants as b
use Rattle.types.specs.declared.FlatType.{FlatType}
use Rattle.text.specs.Forms.{shape_by}
use Rattle.text.proofs.ShapeLaws.{iterate_shape}
use Rattle.text.specs.Parts.{Cut}
use Rattle.text.specs.declared.parts.Fields.{Fields}
use Rattle.nodes.specs.Nodes.{shape_words}
use Rattle.shapes.specs.declared.Parsed.{Parsed}
use Rattle.shapes.specs.declared.numbers.Numbers.{Numbers}
use Rattle.shapes.specs.declared.iterate.TypeRead.{TypeRead}
use Rattle.shapes.specs.Fields.{cut, four, Read, unread, read, NumbersRead}
use Rattle.shapes.specs.Forms.{StandsFor, Spelled, misspelled, spelled, FormRead}
use Rattle.shapes.specs.Iterate.{classes_in, HoldsType, Held, TypeSpelled, no_type, a_type, TypeTold}
use Rattle.shapes.specs.Built.{Iterates}
use Rattle.shapes.proofs.FieldLaws.{rest_exact}
use Rattle.shapes.proofs.FormLaws.{cut_variable, variable_small, nodes_small}
use Rattle.std.specs.Prelude.{Result, Ok, Err}
use Rattle.memory.specs.declared.refusals.Misread.{Misread}
use Rattle.memory.specs.declared.refusals.Misread.TheVariants.{Malformed, OverLimit}

-- ---- the class in a type

base_known : (n : ℕ) (a : Base) → leb (classes_in a) n ≡ class_below n (base_type a)
unfolding classes_in class_below simple_class_below
base_known n b.Void = zero_least n
base_known n b.Bool = zero_least n
base_known n b.Int = zero_least n
base_known n b.Any = zero_least n
base_known n b.Real = zero_least n
base_known n (b.Class c) = go (dec_lt c n)
  where
    go : Dec (c < n) → leb (c + 1) n ≡ ltb c n
    go (yes l) = le-leb (c + 1) n (omega arith) ∙ sym (lt-ltb c n l)
    go (no l) = lt-leb (c + 1) n (omega arith) ∙ sym (le-ltb c n (omega arith))

few_classes : (a : Base) → base_class a < 64 → classes_in a ≤ 65
unfolding classes_in
few_classes b.Void h = omega arith
few_classes b.Bool h = omega arith
few_classes b.Int h = omega arith
few_classes b.Any h = omega arith
few_classes b.Real h = omega arith
few_classes (b.Class c) h = omega arith

-- ---- what was read as a type

module _ {r : Result FlatType Misread} where
  pub type_bad : r ≡ Err Malformed → TypeTold r (record { spelled = false; within = false; word = 0; classes = 0 })
  type_bad e = record { is = λ o told. rw (read_bad o told e) (no_type refl); low = omega arith }

  pub type_big : r ≡ Err OverLimit → TypeTold r (record { spelled = true; within = false; word = 0; classes = 0 })
  type_big e = record {
    is = λ o told.
        let x = read_big o told e in
        rw x.1 (a_type refl (record { within = sym x.2; word = λ k. absurd (true≢false (sym k ∙ x.2)); known = λ k. absurd (true≢false (sym k ∙ x.2)) }));
    low = omega arith;
  }

  module _ (t : FlatType) (h : Held r) (e : r ≡ Ok t) where
    pub type_small : base_class t.base < 64
    type_small = within_class t (read_is h.type h.is t e).1

    pub type_is : {word classes : ℕ} → type_in word ≡ ty_of t → classes ≡ classes_in t.base → TypeTold r (record { spelled = true; within = true; word = word; classes = classes })
    type_is {word} {classes} p q = record {
      is = λ o told.
          let x = read_is o told t e in
          rw x.0 (a_type {r = record { spelled = true; within = true; word = word; classes = classes }} refl (record { within = sym x.1; word = λ k. p; known = λ k n. rw (q, base_known n t.base) (sym (type_class n t)) }));
      low = rw q (few_classes t.base type_small);
    }

-- ---- the six fields

not_six : (fs : List Bytes) → (length fs ≡ 6 → ⊥) → iterate_fields fs ≡ none
unfolding iterate_fields next done
not_six [] h = refl
not_six (a ∷ []) h = nowhere _ _ (λ s. refl)
not_six (a ∷ b ∷ []) h = nowhere _ _ (λ s. nowhere _ _ (λ i. refl))
not_six (a ∷ b ∷ c ∷ []) h = nowhere _ _ (λ s. nowhere _ _ (λ i. nowhere _ _ (λ j. refl)))
not_six (a ∷ b ∷ c ∷ d ∷ []) h = nowhere _ _ (λ s. nowhere _ _ (λ i. nowhere _ _ (λ j. nowhere _ _ (λ t. refl))))
not_six (a ∷ b ∷ c ∷ d ∷ e ∷ []) h = nowhere _ _ (λ s. nowhere _ _ (λ i. nowhere _ _ (λ j. nowhere _ _ (λ t. nowhere _ _ (λ e. refl)))))
not_six (a ∷ b ∷ c ∷ d ∷ e ∷ f ∷ []) h = absurd (h refl)
not_six (a ∷ b ∷ c ∷ d ∷ e ∷ f ∷ g ∷ fs) h =
    nowhere _ _ (λ s. nowhere _ _ (λ i. nowhere _ _ (λ j. nowhere _ _ (λ t. nowhere _ _ (λ e. nowhere _ _ (λ b. refl))))))

pub iterate_not : (fs : List Bytes) → (length fs ≡ 6 → ⊥) → shape_by 35 fs ≡ none
iterate_not fs h = iterate_shape fs ∙ not_six fs h

-- what the code makes of them: s, i, j in h, the type in y, e and b in t
abbrev pub parsed : List ℕ → TypeRead → List ℕ → Bool → ℕ → Parsed
parsed h y t within line = record {
  spelled = true;
  words = 35 ∷ get_or h 0 0 ∷ get_or t 0 0 ∷ get_or t 1 0 ∷ get_or h 1 0 ∷ get_or h 2 0 ∷ y.word ∷ line ∷ [];
  count = 3;
  within = within;
  apart = not (eqb (get_or h 1 0) (get_or h 2 0));
  classes = y.classes;
}

module _ (h : List ℕ) (y : TypeRead) (t : List ℕ) {within : Bool} (line : ℕ)
    (w : within ≡ (is_variable (get_or h 1 0) && is_variable (get_or h 2 0) && y.within)) (low : y.classes ≤ 65) where
  iterate_stands : (s i j e b : ℕ) (u : Ty) → h ≡ four (map cut (s ∷ i ∷ j ∷ [])) → t ≡ four (map cut (e ∷ b ∷ [])) → HoldsType u y → StandsFor line (iterate i j u s e b) (parsed h y t within line)
  unfolding held_by form_within two_variables form_known operands_of shape_words
  iterate_stands s i j e b u p q of = record {
    within = w ∙ rw (p, cut_variable i, cut_variable j, of.within);
    apart = λ k. rw (p, variable_small i (member k), variable_small j (accumulator k));
    known = λ k n l. of.known (typed k) n;
    counted = refl;
    operands = rw (p, q);
    type = y.word;
    said = λ k. record { said = λ i' j' u' a' e' b' z. of.word (typed k) ∙ (let same : u ≡ u' = cc in same) };
    words = λ k n.
        let small = nodes_small (s ∷ e ∷ b ∷ []) n in
        simp (p, q, ap (λ (x : List ℕ). get_or x 0 0) small, ap (λ (x : List ℕ). get_or x 1 0) small, ap (λ (x : List ℕ). get_or x 2 0) small, variable_small i (member k), variable_small j (accumulator k), zero-add);
  }
    where
      both : (is_variable i && is_variable j && type_within u) ≡ true → (is_variable i && is_variable j) ≡ true
      both k = (and-true (is_variable i && is_variable j) (type_within u) k).0

      member : (is_variable i && is_variable j && type_within u) ≡ true → is_variable i ≡ true
      member k = (and-true (is_variable i) (is_variable j) (both k)).0

      accumulator : (is_variable i && is_variable j && type_within u) ≡ true → is_variable j ≡ true
      accumulator k = (and-true (is_variable i) (is_variable j) (both k)).1

      typed : (is_variable i && is_variable j && type_within u) ≡ true → type_within u ≡ true
      typed k = (and-true (is_variable i && is_variable j) (type_within u) k).1

  pub iterate_built : Iterates h y t line (parsed h y t within line)
  iterate_built = record { is = iterate_stands; fine = record { spelled = refl; few = omega arith; size = refl; classes = low } }

module _ (h t : Numbers) (y : TypeRead) {good : Bool} {line : ℕ} {p : Parsed} (all : good ≡ (h.good && y.spelled && t.good))
    (told : p.spelled ≡ good)
    (stands : good ≡ true → (s i j e b : ℕ) (u : Ty) → h.at ≡ four (map cut (s ∷ i ∷ j ∷ [])) → t.at ≡ four (map cut (e ∷ b ∷ [])) → HoldsType u y → StandsFor line (iterate i j u s e b) p)
    (few : p.count ≤ 4) (size : length p.words ≡ 8) (low : p.classes ≤ 65) where
  off_head : h.good ≡ false → p.spelled ≡ false
  off_head e = told ∙ all ∙ rw e

  off_type : h.good ≡ true → y.spelled ≡ false → p.spelled ≡ false
  off_type e f = told ∙ all ∙ rw (e, f)

  off_tail : h.good ≡ true → y.spelled ≡ true → t.good ≡ false → p.spelled ≡ false
  off_tail e f k = told ∙ all ∙ rw (e, f, k)

  on_all : h.good ≡ true → y.spelled ≡ true → t.good ≡ true → good ≡ true
  on_all e f k = all ∙ rw (e, f, k)

  -- by the parts of what is read
  parts : (s i j : Option ℕ) (u : Option Ty) (e b : Option ℕ)
      → Read (on_some s (λ s. map_some (λ l. s ∷ l) (on_some i (λ i. map_some (λ l. i ∷ l) (on_some j (λ j. map_some (λ l. j ∷ l) (some []))))))) h
      → TypeSpelled u y
      → Read (on_some e (λ e. map_some (λ l. e ∷ l) (on_some b (λ b. map_some (λ l. b ∷ l) (some []))))) t
      → Spelled line (on_some s (λ s. on_some i (λ i. on_some j (λ j. on_some u (λ u. on_some e (λ e. on_some b (λ b. some (iterate i j u s e b)))))))) p
  unfolding on_some map_some
  parts none i j u e b (unread f) ty tl = misspelled (off_head f)
  parts (some s) none j u e b (unread f) ty tl = misspelled (off_head f)
  parts (some s) (some i) none u e b (unread f) ty tl = misspelled (off_head f)
  parts (some s) (some i) (some j) none e b (read f p) (no_type k) tl = misspelled (off_type f k)
  parts (some s) (some i) (some j) (some u) none b (read f p) (a_type k of) (unread g) = misspelled (off_tail f k g)
  parts (some s) (some i) (some j) (some u) (some e) none (read f p) (a_type k of) (unread g) = misspelled (off_tail f k g)
  parts (some s) (some i) (some j) (some u) (some e) (some b) (read f x) (a_type k of) (read g q) =
      spelled (told ∙ on_all f k g) (stands (on_all f k g) s i j e b u x q of)

  six_read : (fs : List Bytes) → length fs ≡ 6 → NumbersRead (each a_number (take 3 fs)) h → TypeSpelled (read_type (get_or fs 3 [])) y → NumbersRead (each a_number (take 2 (drop 4 fs))) t
      → FormRead line (iterate_fields fs) p
  unfolding iterate_fields next done each
  six_read [] n hd ty tl = absurd (omega arith)
  six_read (p ∷ []) n hd ty tl = absurd (omega arith)
  six_read (p ∷ q ∷ []) n hd ty tl = absurd (omega arith)
  six_read (p ∷ q ∷ r ∷ []) n hd ty tl = absurd (omega arith)
  six_read (p ∷ q ∷ r ∷ s ∷ []) n hd ty tl = absurd (omega arith)
  six_read (p ∷ q ∷ r ∷ s ∷ u ∷ []) n hd ty tl = absurd (omega arith)
  six_read (o ∷ q ∷ r ∷ s ∷ u ∷ v ∷ []) n hd ty tl =
      record { is = parts (a_number o) (a_number q) (a_number r) (read_type s) (a_number u) (a_number v) hd.is ty tl.is; few = few; size = size; low = low }
  six_read (p ∷ q ∷ r ∷ s ∷ u ∷ v ∷ x ∷ fs) n hd ty tl = absurd (omega arith)

  fields_read : {text : Bytes} {f : Fields} → Cut text f → f.count ≡ 9 → NumbersRead (each a_number (take (6 - 3) (drop 3 (fields_of text)))) h → TypeSpelled (read_type (get_or (fields_of text) 6 [])) y
      → NumbersRead (each a_number (take (9 - 7) (drop 7 (fields_of text)))) t → FormRead line (shape_by 35 (drop 3 (fields_of text))) p
  fields_read {text} cut_up n hd ty tl =
      rw (iterate_shape (drop 3 (fields_of text)))
      (six_read (drop 3 (fields_of text)) (rest_exact cut_up 6 (omega arith) n) hd (rw (get_or-drop 3 (fields_of text) 3 []) ty) (rw (drop-drop 4 3 (fields_of text)) tl))

-- nine fields: one of them is spelled badly, or all are spelled well
module _ {h t : Numbers} {y : TypeRead} {good : Bool} {line : ℕ} {p : Parsed} {text : Bytes} {f : Fields} (all : good ≡ (h.good && y.spelled && t.good)) (cut_up : Cut text f) (n : f.count ≡ 9)
    (hd : NumbersRead (each a_number (take (6 - 3) (drop 3 (fields_of text)))) h) (ty : TypeSpelled (read_type (get_or (fields_of text) 6 [])) y)
    (tl : NumbersRead (each a_number (take (9 - 7) (drop 7 (fields_of text)))) t) where
  pub iterate_bad : good ≡ false → FormRead line none p → FormRead line (shape_by 35 (drop 3 (fields_of text))) p
  iterate_bad b q = fields_read h t y all (off q.is ∙ sym b) (λ g. absurd (true≢false (sym g ∙ b))) q.few q.size q.low cut_up n hd ty tl
    where
      off : Spelled line none p → p.spelled ≡ false
      off (misspelled e) = e

  pub iterate_read : good ≡ true → Iterates h.at y t.at line p → FormRead line (shape_by 35 (drop 3 (fields_of text))) p
  iterate_read b q = fields_read h t y all (q.fine.spelled ∙ sym b) (λ g. q.is) q.fine.few q.fine.size q.fine.classes cut_up n hd ty tl

-- a field's type
pub field_type : {g : Result FlatType Misread} {y : TypeRead} {f : Bytes} (e : Bytes) → f ≡ e → type_field g ≡ held (read_type f) → TypeTold g y → TypeSpelled (read_type e) y
field_type e q h y = rw (← q) (y.is _ h)

pub field_held : {g : Result FlatType Misread} (f : Bytes) → type_field g ≡ held (read_type f) → Held g
field_held f h = record { type = read_type f; is = h }

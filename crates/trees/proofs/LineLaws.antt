-- A line whose first field is `N`: what its fields spell, and what the code makes of it. Assumes nothing.
use mathlib.Core.Path.{◌≡◌, refl, sym, ◌∙◌}
use mathlib.Core.Bool.{Bool, true, false, not, true≢false}
use mathlib.Core.Option.{Option, none, some}
use mathlib.Core.List.{List, [], ◌∷◌}
use Prim.Native.Nat.{ℕ, ◌<◌, ◌≤◌}
use native.Mathlib.Omega.{arith}
use borrow.Author.Tests.{not-true, not-false}
use lib.ListN.{length, get_or, drop}
use Rattle.laws.specs.Choice.{on_some, map_some}
use Rattle.laws.proofs.Options.{nowhere}
use Rattle.laws.proofs.Tests.{Any?, any_some}
use Rattle.sheet.specs.Text.{Bytes, bytes, fields_of}
use Rattle.sheet.specs.Lines.{Shape, node_line, is, next, a_number, a_word, shape_of, line_of}
use Rattle.sheet.specs.Texts.{on_text}
use Rattle.text.specs.Forms.{shape_by}
use Rattle.text.specs.Numbers.{cut_num}
use Rattle.text.specs.Parts.{Cut}
use Rattle.text.specs.Words.{form_code}
use Rattle.text.specs.declared.parts.Fields.{Fields}
use Rattle.text.proofs.NumberLaws.{num_bad, num_is}
use Rattle.text.proofs.ShapeLaws.{shape_code}
use Rattle.tables.specs.Layout.{moved_refused, Took}
use Rattle.tables.specs.declared.Counts.{Counts}
use Rattle.tables.proofs.Tables.{kept_refl}
use Rattle.tables.proofs.LineFields.{word_is}
use Rattle.tables.proofs.Steps.{step_bad, step_line_lem}
use Rattle.shapes.specs.declared.Parsed.{Parsed}
use Rattle.shapes.specs.Fields.{cut}
use Rattle.shapes.specs.Forms.{StandsFor, Spelled, misspelled, spelled, FormRead}
use Rattle.trees.specs.Rules.{Placed}
use Rattle.shapes.proofs.FieldLaws.{field_count}
use Rattle.std.specs.Prelude.{Some, None, Result, Err}
use Rattle.memory.specs.declared.refusals.Refusal.{Refusal}
use Rattle.memory.specs.declared.refusals.Refusal.TheVariants.{BadLine}

-- ---- the fields

node_fields_lem : (fs : List Bytes) → is (get_or fs 0 []) (bytes "N") ≡ true → line_of fs ≡ next a_number (λ n. next a_word (λ form gs. map_some (node_line n) (shape_of form gs))) (drop 1 fs)
unfolding line_of is bytes
node_fields_lem [] h = absurd (true≢false (sym h))
node_fields_lem (w ∷ fs) h = rw (word_is w (bytes "N") h)

module _ (fs : List Bytes) (starts : is (get_or fs 0 []) (bytes "N") ≡ true) where
  few_fields : length fs < 3 → line_of fs ≡ none
  unfolding on_some next
  few_fields h = node_fields_lem fs starts ∙ go fs h
    where
      go : (fs : List Bytes) → length fs < 3 → next a_number (λ n. next a_word (λ form gs. map_some (node_line n) (shape_of form gs))) (drop 1 fs) ≡ none
      go [] l = refl
      go (w ∷ []) l = refl
      go (w ∷ a ∷ []) l = nowhere (a_number a) _ (λ n. refl)
      go (w ∷ a ∷ b ∷ fs) l = absurd (omega arith)

  line_of_lem : 3 ≤ length fs → line_of fs ≡ on_some (a_number (get_or fs 1 [])) (λ n. map_some (node_line n) (shape_by (form_code (get_or fs 2 [])) (drop 3 fs)))
  unfolding next on_some a_word
  line_of_lem h = node_fields_lem fs starts ∙ go fs h
    where
      go : (fs : List Bytes) → 3 ≤ length fs
          → next a_number (λ n. next a_word (λ form gs. map_some (node_line n) (shape_of form gs))) (drop 1 fs) ≡ on_some (a_number (get_or fs 1 [])) (λ n. map_some (node_line n) (shape_by (form_code (get_or fs 2 [])) (drop 3 fs)))
      go [] l = absurd (omega arith)
      go (w ∷ []) l = absurd (omega arith)
      go (w ∷ a ∷ []) l = absurd (omega arith)
      go (w ∷ a ∷ b ∷ fs) l = rw (← shape_code b fs)

-- ---- 3, and a line that spells a node

took_none : {st : Counts} {k : ℕ} {line w0 w : List ℕ} → line_of (fields_of line) ≡ none → Took st k line (Err BadLine) w0 w w0 w
took_none {k = k} {line = line} {w0 = w0} {w = w} e = record { is = λ s h. rw (step_bad s k (fields_of line) e) moved_refused; kept0 = kept_refl w0; kept1 = kept_refl w }

node_plain : (i : ℕ) (x : Shape) (test : Bytes → Bool) → on_text (node_line i x) test ≡ true
unfolding on_text
node_plain i x test = refl

took_node : {st : Counts} {k n : ℕ} {line w0 w v : List ℕ} {p : Parsed} {r : Result Counts Refusal} (i : ℕ) (x : Shape) → line_of (fields_of line) ≡ some (node_line i x) → n ≡ cut i → StandsFor k x p → Placed st n p r w0 w v → Took st k line r w0 w w0 v
took_node {k = k} {line = line} {w0 = w0} i x e q z d = record { is = λ s h. rw (step_line_lem s k (fields_of line) (node_plain i x) e) (d.is k s i x q z h); kept0 = kept_refl w0; kept1 = d.kept }

module _ {line : List ℕ} {f : Fields} (cut_up : Cut line f) (starts : is (get_or (fields_of line) 0 []) (bytes "N") ≡ true) where
  pub line_short : {st : Counts} {k : ℕ} {w0 w : List ℕ} → f.count < 3 → Took st k line (Err BadLine) w0 w w0 w
  line_short h = took_none (few_fields (fields_of line) starts (omega (arith, cut_up.counted)))

  module _ (long : 3 ≤ f.count) where
    spelled_line : line_of (fields_of line) ≡ on_some (a_number (get_or (fields_of line) 1 [])) (λ n. map_some (node_line n) (shape_by (form_code (get_or (fields_of line) 2 [])) (drop 3 (fields_of line))))
    spelled_line = line_of_lem (fields_of line) starts (field_count cut_up long)

    pub line_number : {st : Counts} {k : ℕ} {w0 w : List ℕ} → None ≡ cut_num (a_number (get_or (fields_of line) 1 [])) → Took st k line (Err BadLine) w0 w w0 w
    unfolding on_some
    line_number h = took_none (spelled_line ∙ rw (num_bad (a_number (get_or (fields_of line) 1 [])) h))

    module _ {k c : ℕ} {p : Parsed} (coded : c ≡ form_code (get_or (fields_of line) 2 [])) (form : FormRead k (shape_by c (drop 3 (fields_of line))) p) where
      pub line_form : {st : Counts} {w0 w : List ℕ} → not p.spelled ≡ true → Took st k line (Err BadLine) w0 w w0 w
      unfolding on_some map_some
      line_form h = took_none (spelled_line ∙ rw (← coded) (go (a_number (get_or (fields_of line) 1 [])) form.is))
        where
          go : (o : Option ℕ) {q : Option Shape} → Spelled k q p → on_some o (λ n. map_some (node_line n) q) ≡ none
          go o (misspelled e) = nowhere o _ (λ n. refl)
          go o (spelled e z) = absurd (true≢false (sym e ∙ not-true p.spelled h))

      pub line_placed : {st : Counts} {n : ℕ} {r : Result Counts Refusal} {w0 w v : List ℕ} → Some n ≡ cut_num (a_number (get_or (fields_of line) 1 [])) → not p.spelled ≡ false → Placed st n p r w0 w v → Took st k line r w0 w w0 v
      unfolding on_some map_some
      line_placed {st} {n} {r} {w0} {w} {v} e h d = go (a_number (get_or (fields_of line) 1 [])) refl (num_is (a_number (get_or (fields_of line) 1 [])) e) (shape_by c (drop 3 (fields_of line))) refl form.is
        where
          go : (o : Option ℕ) → a_number (get_or (fields_of line) 1 []) ≡ o → Any? (λ i. n ≡ cut i) o → (q : Option Shape) → shape_by c (drop 3 (fields_of line)) ≡ q → Spelled k q p → Took st k line r w0 w w0 v
          go (some i) a (any_some u) none b (misspelled z) = absurd (true≢false (sym (not-false p.spelled h) ∙ z))
          go (some i) a (any_some u) (some x) b (spelled s z) = took_node i x (spelled_line ∙ rw (a, ← coded, b)) u z d
          go none a x4 q b _ = elim x4 [ ]

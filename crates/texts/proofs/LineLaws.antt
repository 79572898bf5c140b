-- A line whose first field is `X`: what its fields spell, and what the code makes of it. Assumes nothing.
use mathlib.Core.Path.{◌≡◌, refl, sym, ap, ◌∙◌, subst}
use mathlib.Core.Bool.{Bool, true, false}
use mathlib.Core.Option.{none, some}
use mathlib.Core.List.{List, [], ◌∷◌}
use Prim.Native.Nat.{ℕ, ◌≤◌}
use native.Mathlib.Omega.{arith}
use lib.ListN.{length, get_or}
use Rattle.laws.specs.Choice.{on_some}
use Rattle.sheet.specs.Text.{Bytes, bytes, fields_of}
use Rattle.sheet.specs.Lines.{text_line, is, next, done, a_word, line_of}
use Rattle.sheet.specs.Texts.{brackets_within, is_there, is_sentence, on_text, nodes_of}
use Rattle.sheet.specs.Sheet.{Sheet}
use Rattle.sheet.specs.Reading.{refuse, must, step_line, step_spelled, step}
use Rattle.sheet.proofs.TextNodes.{shapes_size}
use Rattle.sheet.proofs.AsNodeLines.{nodes_of_lem}
use Rattle.text.specs.Parts.{Cut}
use Rattle.text.specs.declared.parts.Fields.{Fields}
use Rattle.tables.specs.declared.Counts.{Counts}
use Rattle.tables.specs.Layout.{moved_refused}
use Rattle.tables.proofs.Tables.{kept_refl}
use Rattle.tables.proofs.LineFields.{word_is}
use Rattle.tables.proofs.Steps.{step_bad}
use Rattle.emission.specs.Nodes.{HoldsNodes}
use Rattle.importer.specs.Imports.{SentenceIs, ImportedAs, no_sentence, a_sentence, Imports}
use Rattle.texts.specs.Placing.{HeldNodes}
use Rattle.texts.specs.Judging.{Judged, TookText}
use Rattle.std.specs.Prelude.{Some, None, Result, Err}
use Rattle.memory.specs.declared.refusals.Refusal.{Refusal}
use Rattle.memory.specs.declared.refusals.Refusal.TheVariants.{BadLine, NotASentence, OverMeasure}

-- ---- the fields

other_fields : (fs : List Bytes) → is (get_or fs 0 []) (bytes "X") ≡ true → (length fs ≡ 2 → ⊥) → line_of fs ≡ none
unfolding line_of is bytes next a_word done on_some
other_fields [] h n = refl
other_fields (w ∷ []) h n = rw (word_is w (bytes "X") h)
other_fields (w ∷ a ∷ []) h n = absurd (n refl)
other_fields (w ∷ a ∷ b ∷ fs) h n = rw (word_is w (bytes "X") h)

two_fields : (fs : List Bytes) → is (get_or fs 0 []) (bytes "X") ≡ true → length fs ≡ 2 → line_of fs ≡ some (text_line (get_or fs 1 []))
unfolding line_of is bytes next a_word done on_some
two_fields [] h n = absurd (omega arith)
two_fields (w ∷ []) h n = absurd (omega arith)
two_fields (w ∷ a ∷ []) h n = rw (word_is w (bytes "X") h)
two_fields (w ∷ a ∷ b ∷ fs) h n = absurd (omega arith)

-- ---- a text that the importer has read

pub no_sentence_is : {k : ℕ} {s : Bytes} {u v : List ℕ} → Imports k s u None v → is_sentence s ≡ false
no_sentence_is i = go i.is
  where
    go : {k : ℕ} {s : Bytes} {v : List ℕ} → ImportedAs k s v None → is_sentence s ≡ false
    go (no_sentence e) = e

sentence_is : {k n : ℕ} {s : Bytes} {u v : List ℕ} → Imports k s u (Some n) v → SentenceIs k s n v
sentence_is i = go i.is
  where
    go : {k n : ℕ} {s : Bytes} {v : List ℕ} → ImportedAs k s v (Some n) → SentenceIs k s n v
    go (a_sentence x) = x

module _ {k n : ℕ} {s : Bytes} {u v : List ℕ} (i : Imports k s u (Some n) v) where
  its_tree : SentenceIs k s n v
  its_tree = sentence_is i

  is_sentence_lem : is_sentence s ≡ true
  unfolding is_sentence is_there
  is_sentence_lem = rw its_tree.reading

  as_many : length (nodes_of s) ≡ n
  as_many = ap length (sym (nodes_of_lem s its_tree.tree its_tree.reading)) ∙ shapes_size its_tree.tree 0 ∙ sym its_tree.counted

  its_nodes : n ≤ 768 → HoldsNodes k (nodes_of s) v
  its_nodes l = subst (λ xs. HoldsNodes k xs v) (nodes_of_lem s its_tree.tree its_tree.reading) (its_tree.nodes l)

  pub nodes_held : n ≤ 768 → HeldNodes k n v
  nodes_held l = record { forms = nodes_of s; size = as_many; holds = its_nodes l }

-- ---- 3, the brackets' 4, 20, and a text that is judged

module _ {line : List ℕ} {f : Fields} (cut_up : Cut line f) (starts : is (get_or (fields_of line) 0 []) (bytes "X") ≡ true) where
  pub line_fields : {st : Counts} {k : ℕ} {w0 w1 w2 : List ℕ} → (f.count ≡ 2 → ⊥) → TookText st k line (Err BadLine) w0 w1 w2 w1 w2
  line_fields {k = k} {w0} {w1} {w2} h = record {
    took = record {
      is = λ s z. rw (step_bad s k (fields_of line) (other_fields (fields_of line) starts (λ e. h (omega (arith, cut_up.counted))))) moved_refused;
      kept0 = kept_refl w0;
      kept1 = kept_refl w1;
    };
    kept2 = kept_refl w2;
  }

  module _ {x : Bytes} (two : f.count ≡ 2) (field : x ≡ get_or (fields_of line) 1 []) where
    spelled : line_of (fields_of line) ≡ some (text_line x)
    spelled = two_fields (fields_of line) starts (omega (arith, cut_up.counted)) ∙ rw field

    module _ {b : Bool} (told : b ≡ brackets_within x) where
      pub line_brackets : {st : Counts} {k : ℕ} {w0 w1 w2 : List ℕ} → b ≡ false → TookText st k line (Err OverMeasure) w0 w1 w2 w1 w2
      unfolding step step_spelled on_text must
      line_brackets {k = k} {w0} {w1} {w2} h = record {
        took = record { is = λ s z. rw (open_many s) moved_refused; kept0 = kept_refl w0; kept1 = kept_refl w1 };
        kept2 = kept_refl w2;
      }
        where
          open_many : (s : Sheet) → step s k (fields_of line) ≡ refuse 4
          open_many s = rw (spelled, ← told, h)

      module _ (few : b ≡ true) where
        pub line_sentence : {st : Counts} {k : ℕ} {w0 w1 u2 v2 : List ℕ} → Imports k x u2 None v2 → TookText st k line (Err NotASentence) w0 w1 u2 w1 v2
        unfolding step step_spelled on_text must
        line_sentence {k = k} {w0} {w1} i = record {
          took = record { is = λ s z. rw (no_reading s) moved_refused; kept0 = kept_refl w0; kept1 = kept_refl w1 };
          kept2 = i.kept;
        }
          where
            no_reading : (s : Sheet) → step s k (fields_of line) ≡ refuse 20
            no_reading s = rw (spelled, ← told, few, no_sentence_is i)

        pub line_judged : {st : Counts} {k n : ℕ} {r : Result Counts Refusal} {w0 w1 v1 u2 v2 : List ℕ} → Imports k x u2 (Some n) v2 → Judged st k n r w0 w1 v2 v1 → TookText st k line r w0 w1 u2 v1 v2
        unfolding step step_spelled on_text must
        line_judged {k = k} {w0 = w0} i j = record {
          took = record { is = λ s y. rw (goes_on s) (j.is s x (as_many i) (its_nodes i) y); kept0 = kept_refl w0; kept1 = j.kept };
          kept2 = i.kept;
        }
          where
            goes_on : (s : Sheet) → step s k (fields_of line) ≡ step_line s k (text_line x)
            goes_on s = rw (spelled, ← told, few, is_sentence_lem i)

-- D lines: how they are spelled, by the fields that code reads. Assumes nothing.
use mathlib.Core.Path.{◌≡◌, sym, ◌∙◌}
use mathlib.Core.Bool.{true, true≢false}
use mathlib.Core.Option.{none, some}
use mathlib.Core.List.{List, [], ◌∷◌}
use Prim.Native.Nat.{ℕ}
use native.Mathlib.Omega.{arith}
use lib.ListN.{length, get_or, drop, length-drop}
use Rattle.ocl.specs.Types.{Ty}
use Rattle.sheet.specs.Text.{Bytes, bytes, fields_of}
use Rattle.sheet.specs.Spelling.{read_type}
use Rattle.sheet.specs.Lines.{definition_line, is, next, done, a_number, line_of}
use Rattle.text.specs.Numbers.{cut_num}
use Rattle.text.specs.declared.parts.Fields.{Fields}
use Rattle.text.proofs.NumberLaws.{num_bad}
use Rattle.text.proofs.PartLaws.{counted_exact}
use Rattle.tables.proofs.LineFields.{word_is, takes_none, takes_more, field_bad, field_some, fields_done, the, num_some}
use Rattle.declarations.specs.Taken.{Lettered}
use Rattle.std.specs.Prelude.{Some, None}

definition_fields : (fs : List Bytes) → is (get_or fs 0 []) (bytes "D") ≡ true
    → line_of fs ≡ next a_number (λ n. next a_number (λ c. next read_type (λ t. done (definition_line n c t)))) (drop 1 fs)
unfolding line_of is bytes
definition_fields [] h = absurd (true≢false (sym h))
definition_fields (w ∷ fs) h = rw (word_is w (bytes "D") h)

module _ {line : Bytes} {f : Fields} (so : Lettered "D" line f) where
  reads : line_of (fields_of line) ≡ next a_number (λ n. next a_number (λ c. next read_type (λ t. done (definition_line n c t)))) (drop 1 (fields_of line))
  reads = definition_fields (fields_of line) so.is_letter

  pub definition_count : (f.count ≡ 4 → ⊥) → line_of (fields_of line) ≡ none
  definition_count h =
      reads
      ∙ takes_more _ _ 2 (λ n. takes_more _ _ 1 (λ c. takes_more _ _ 0 (λ t. takes_none (definition_line n c t)))) (drop 1 (fields_of line))
      (λ e. h (omega (arith, so.cut.counted, length-drop 1 (fields_of line))))

  module _ (four : f.count ≡ 4) where
    long : length (fields_of line) ≡ 4
    long = counted_exact so.cut (omega arith) ∙ four

    module _ {x : Bytes} (at1 : x ≡ get_or (fields_of line) 1 []) where
      pub definition_number : None ≡ cut_num (a_number x) → line_of (fields_of line) ≡ none
      definition_number h = reads ∙ field_bad a_number _ (fields_of line) 1 (omega (arith, long)) (rw (← at1) (num_bad (a_number x) h))

      module _ {y : Bytes} (at2 : y ≡ get_or (fields_of line) 2 []) {n : ℕ} (number : Some n ≡ cut_num (a_number x)) where
        first : line_of (fields_of line) ≡ next a_number (λ c. next read_type (λ t. done (definition_line (the (a_number x)) c t))) (drop 2 (fields_of line))
        first = reads ∙ field_some a_number _ (fields_of line) 1 (omega (arith, long)) (rw (← at1) (num_some (a_number x) number))

        pub definition_class : None ≡ cut_num (a_number y) → line_of (fields_of line) ≡ none
        definition_class h = first ∙ field_bad a_number _ (fields_of line) 2 (omega (arith, long)) (rw (← at2) (num_bad (a_number y) h))

        module _ {z : Bytes} (at3 : z ≡ get_or (fields_of line) 3 []) {c : ℕ} (class : Some c ≡ cut_num (a_number y)) where
          second : line_of (fields_of line) ≡ next read_type (λ t. done (definition_line (the (a_number x)) (the (a_number y)) t)) (drop 3 (fields_of line))
          second = first ∙ field_some a_number _ (fields_of line) 2 (omega (arith, long)) (rw (← at2) (num_some (a_number y) class))

          pub definition_type : read_type z ≡ none → line_of (fields_of line) ≡ none
          definition_type h = second ∙ field_bad read_type _ (fields_of line) 3 (omega (arith, long)) (rw (← at3) h)

          pub definition_spelled : {t : Ty} → read_type z ≡ some t → line_of (fields_of line) ≡ some (definition_line (the (a_number x)) (the (a_number y)) t)
          definition_spelled {t} h =
              second
              ∙ field_some read_type _ (fields_of line) 3 (omega (arith, long)) (rw (← at3) h)
              ∙ fields_done (definition_line (the (a_number x)) (the (a_number y)) t) (fields_of line) 4 (omega (arith, long))

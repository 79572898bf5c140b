-- A lines: how they are spelled, by the fields that code reads. Assumes nothing.
use mathlib.Core.Path.{◌≡◌, sym, ◌∙◌}
use mathlib.Core.Bool.{true, true≢false}
use mathlib.Core.Option.{none, some}
use mathlib.Core.List.{List, [], ◌∷◌}
use Prim.Native.Nat.{ℕ, ◌<◌}
use native.Mathlib.Omega.{arith}
use lib.ListN.{length, get_or, drop, length-drop}
use Rattle.ocl.specs.Types.{Ty}
use Rattle.sheet.specs.Text.{Bytes, bytes, fields_of}
use Rattle.sheet.specs.Spelling.{read_type}
use Rattle.sheet.specs.Lines.{row_line, is, next, done, a_number, line_of}
use Rattle.text.specs.Numbers.{cut_num}
use Rattle.text.specs.declared.parts.Fields.{Fields}
use Rattle.text.proofs.NumberLaws.{num_bad}
use Rattle.text.proofs.PartLaws.{counted_exact}
use Rattle.tables.proofs.LineFields.{word_is, takes_none, takes_more, field_bad, field_some, fields_done, the, num_some, num_exact}
use Rattle.declarations.specs.Taken.{Lettered}
use Rattle.std.specs.Prelude.{Some, None}

row_fields : (fs : List Bytes) → is (get_or fs 0 []) (bytes "A") ≡ true
    → line_of fs ≡ next a_number (λ n. next a_number (λ c. next a_number (λ name. next read_type (λ t. done (row_line n c name t))))) (drop 1 fs)
unfolding line_of is bytes
row_fields [] h = absurd (true≢false (sym h))
row_fields (w ∷ fs) h = rw (word_is w (bytes "A") h)

module _ {line : Bytes} {f : Fields} (so : Lettered "A" line f) where
  reads : line_of (fields_of line) ≡ next a_number (λ n. next a_number (λ c. next a_number (λ name. next read_type (λ t. done (row_line n c name t))))) (drop 1 (fields_of line))
  reads = row_fields (fields_of line) so.is_letter

  pub row_count : (f.count ≡ 5 → ⊥) → line_of (fields_of line) ≡ none
  row_count h =
      reads
      ∙ takes_more _ _ 3 (λ n. takes_more _ _ 2 (λ c. takes_more _ _ 1 (λ name. takes_more _ _ 0 (λ t. takes_none (row_line n c name t))))) (drop 1 (fields_of line))
      (λ e. h (omega (arith, so.cut.counted, length-drop 1 (fields_of line))))

  module _ (five : f.count ≡ 5) where
    long : length (fields_of line) ≡ 5
    long = counted_exact so.cut (omega arith) ∙ five

    module _ {x : Bytes} (at1 : x ≡ get_or (fields_of line) 1 []) where
      pub row_number : None ≡ cut_num (a_number x) → line_of (fields_of line) ≡ none
      row_number h = reads ∙ field_bad a_number _ (fields_of line) 1 (omega (arith, long)) (rw (← at1) (num_bad (a_number x) h))

      module _ {y : Bytes} (at2 : y ≡ get_or (fields_of line) 2 []) {n : ℕ} (number : Some n ≡ cut_num (a_number x)) where
        first : line_of (fields_of line) ≡ next a_number (λ c. next a_number (λ name. next read_type (λ t. done (row_line (the (a_number x)) c name t)))) (drop 2 (fields_of line))
        first = reads ∙ field_some a_number _ (fields_of line) 1 (omega (arith, long)) (rw (← at1) (num_some (a_number x) number))

        pub row_class : None ≡ cut_num (a_number y) → line_of (fields_of line) ≡ none
        row_class h = first ∙ field_bad a_number _ (fields_of line) 2 (omega (arith, long)) (rw (← at2) (num_bad (a_number y) h))

        module _ {z : Bytes} (at3 : z ≡ get_or (fields_of line) 3 []) {c : ℕ} (class : Some c ≡ cut_num (a_number y)) where
          second : line_of (fields_of line) ≡ next a_number (λ name. next read_type (λ t. done (row_line (the (a_number x)) (the (a_number y)) name t))) (drop 3 (fields_of line))
          second = first ∙ field_some a_number _ (fields_of line) 2 (omega (arith, long)) (rw (← at2) (num_some (a_number y) class))

          pub row_name : None ≡ cut_num (a_number z) → line_of (fields_of line) ≡ none
          row_name h = second ∙ field_bad a_number _ (fields_of line) 3 (omega (arith, long)) (rw (← at3) (num_bad (a_number z) h))

          module _ {v : Bytes} (at4 : v ≡ get_or (fields_of line) 4 []) {name : ℕ} (named : Some name ≡ cut_num (a_number z)) where
            third : line_of (fields_of line) ≡ next read_type (λ t. done (row_line (the (a_number x)) (the (a_number y)) (the (a_number z)) t)) (drop 4 (fields_of line))
            third = second ∙ field_some a_number _ (fields_of line) 3 (omega (arith, long)) (rw (← at3) (num_some (a_number z) named))

            pub row_type_lem : read_type v ≡ none → line_of (fields_of line) ≡ none
            row_type_lem h = third ∙ field_bad read_type _ (fields_of line) 4 (omega (arith, long)) (rw (← at4) h)

            pub row_spelled : {t : Ty} → read_type v ≡ some t → line_of (fields_of line) ≡ some (row_line (the (a_number x)) (the (a_number y)) (the (a_number z)) t)
            row_spelled {t} h =
                third
                ∙ field_some read_type _ (fields_of line) 4 (omega (arith, long)) (rw (← at4) h)
                ∙ fields_done (row_line (the (a_number x)) (the (a_number y)) (the (a_number z)) t) (fields_of line) 5 (omega (arith, long))

            -- numbers below the cut are those of the line
            pub row_exact : {t : Ty} → read_type v ≡ some t → n < 64 → c < 64 → name < 256 → line_of (fields_of line) ≡ some (row_line n c name t)
            row_exact h p q r =
                row_spelled h
                ∙ rw (num_exact (a_number x) number (omega arith), num_exact (a_number y) class (omega arith), num_exact (a_number z) named (omega arith))

-- An edit's line that clears. Assumes nothing.
use mathlib.Core.Path.{◌≡◌, refl, sym, ap, ◌∙◌}
use mathlib.Core.Bool.{Bool, true, false, ◌&&◌}
use mathlib.Core.Option.{none, some}
use mathlib.Core.List.{List, [], ◌∷◌}
use Prim.Native.Nat.{ℕ, ◌+◌, ◌*◌, ◌<◌, ◌≤◌}
use native.Mathlib.Omega.{arith}
use borrow.Author.Tests.{lt-ltb, le-ltb, ne_eqb}
use lib.ListN.{length, get_or, drop}
use lib.Dec.{eqb}
use lib.Pointwise.{pointwise}
use Rattle.memory.specs.Map as memory
use Rattle.ocl.specs.Types.{class}
use Rattle.ocl.specs.Model.{is_a}
use Rattle.sheet.specs.Text.{Bytes, bytes, fields_of}
use Rattle.sheet.specs.Lines.{is, next, done, a_number}
use Rattle.sheet.specs.Sheet.{Sheet, model_of}
use Rattle.sheet.specs.Reading.{must}
use Rattle.board.specs.Edits.{Edit, a_value_or_none, edit_of, judged_value, judged}
use Rattle.text.specs.Numbers.{cut_num}
use Rattle.text.specs.Parts.{Cut}
use Rattle.text.specs.declared.parts.Fields.{Fields}
use Rattle.text.proofs.NumberLaws.{num_bad}
use Rattle.text.proofs.PartLaws.{counted_exact}
use Rattle.text.proofs.WordLaws.{same_bytes}
use Rattle.tables.specs.declared.Counts.{Counts}
use Rattle.tables.specs.Layout.{tab, Holds, Fine}
use Rattle.tables.proofs.Tables.{kept_refl}
use Rattle.tables.proofs.LineFields.{field_bad, field_some, fields_done, the, num_some, num_cut}
use Rattle.slots.specs.Suits.{ObjectSuits}
use Rattle.slots.proofs.SlotLaws.{its_object}
use Rattle.replay.specs.Judging.{clears_line, ClearedAs, cleared, not_cleared, ClearingAs, judged_edit, JudgedAs, judged_stop, judged_key, Judges}
use Rattle.replay.proofs.ValuedLaws.{empty_held}
use Rattle.replay.proofs.EditFieldLaws.{edit_fields_lem, clears_is, none_read}
use Rattle.std.specs.Prelude.{Some, None, Result, Ok, Err}
use Rattle.memory.specs.declared.refusals.Refusal.{Refusal}
use Rattle.memory.specs.declared.refusals.Refusal.TheVariants.{BadLine, OverMeasure, UnknownPart, WrongThread}

-- ---- the line

same_word : (z w : Bytes) → pointwise eqb z w ≡ is z w
same_word = same_bytes

module _ {line : Bytes} {f : Fields} (cut : Cut line f) where
  pub clears_count : (f.count ≡ 4 → ⊥) → eqb f.count 4 ≡ clears_line (fields_of line)
  unfolding clears_line
  clears_count h = ne_eqb f.count 4 h ∙ sym (ap (λ (b : Bool). b && is (get_or (fields_of line) 3 []) (bytes "-")) (ne_eqb (length (fields_of line)) 4 (λ e. h (omega (arith, cut.counted)))))

  pub clears_word : {z w : Bytes} {b : Bool} → f.count ≡ 4 → z ≡ get_or (fields_of line) 3 [] → w ≡ 45 ∷ [] → b ≡ pointwise eqb z w → b ≡ clears_line (fields_of line)
  unfolding clears_line bytes
  clears_word {z} {w} c at dash e =
      e ∙ same_word z w ∙ ap (is z) dash ∙ ap (λ (l : Bytes). is l (bytes "-")) at
      ∙ ap (λ (k : ℕ). eqb k 4 && is (get_or (fields_of line) 3 []) (bytes "-")) (sym (counted_exact cut (omega arith) ∙ c))

  pub clears_four : clears_line (fields_of line) ≡ true → f.count ≡ 4
  clears_four h = omega (arith, cut.counted, (clears_is (fields_of line) h).four)

  module _ (letter : is (get_or (fields_of line) 0 []) (bytes "V") ≡ true) (clears : clears_line (fields_of line) ≡ true) {x : Bytes} (at1 : x ≡ get_or (fields_of line) 1 []) where
    long : length (fields_of line) ≡ 4
    long = (clears_is (fields_of line) clears).four

    pub cleared_object : {r : _} → r ≡ cut_num (a_number x) → r ≡ None → edit_of (fields_of line) ≡ none
    cleared_object e h = edit_fields_lem (fields_of line) letter ∙ field_bad a_number _ (fields_of line) 1 (omega (arith, long)) (rw (← at1) (num_bad (a_number x) (sym h ∙ e)))

    module _ {r1 : _} {o : ℕ} (read1 : r1 ≡ cut_num (a_number x)) (is1 : r1 ≡ Some o) {y : Bytes} (at2 : y ≡ get_or (fields_of line) 2 []) where
      object : edit_of (fields_of line) ≡ next a_number (λ a. next a_value_or_none (λ v. done (record { object = the (a_number x); row = a; value = v }))) (drop 2 (fields_of line))
      object = edit_fields_lem (fields_of line) letter ∙ field_some a_number _ (fields_of line) 1 (omega (arith, long)) (rw (← at1) (num_some (a_number x) (sym is1 ∙ read1)))

      pub cleared_row : {r : _} → r ≡ cut_num (a_number y) → r ≡ None → edit_of (fields_of line) ≡ none
      cleared_row e h = object ∙ field_bad a_number _ (fields_of line) 2 (omega (arith, long)) (rw (← at2) (num_bad (a_number y) (sym h ∙ e)))

      module _ {r2 : _} {a : ℕ} (read2 : r2 ≡ cut_num (a_number y)) (is2 : r2 ≡ Some a) where
        abbrev edit : Edit
        edit = record { object = the (a_number x); row = the (a_number y); value = none }

        all_fields : edit_of (fields_of line) ≡ some edit
        all_fields =
            object ∙ field_some a_number _ (fields_of line) 2 (omega (arith, long)) (rw (← at2) (num_some (a_number y) (sym is2 ∙ read2)))
            ∙ field_some a_value_or_none _ (fields_of line) 3 (omega (arith, long)) (none_read (get_or (fields_of line) 3 []) (clears_is (fields_of line) clears).last)
            ∙ fields_done edit (fields_of line) 4 (omega (arith, long))

        pub clearing_judged : {st : Counts} {r : Result ℕ Refusal} {w0 w1 : List ℕ} → ClearingAs st o a w0 w1 r → Judges line st r w0 w1 w0
        unfolding judged_edit judged
        clearing_judged {st} {r} {w0} {w1} told = record {
          is = λ s h. by h (told.is s (the (a_number x)) (the (a_number y)) h (num_cut (a_number x) (sym is1 ∙ read1)) (num_cut (a_number y) (sym is2 ∙ read2)));
          kept = kept_refl w0;
        }
          where
            by : {s : Sheet} {q : Result ℕ Refusal} → Holds st w0 w1 s → ClearedAs s (the (a_number x)) (the (a_number y)) q → JudgedAs line st s w0 w1 q
            by {s} h (cleared l m e) = judged_key edit s all_fields e m (empty_held st refl refl refl refl refl refl h)
            by {s} h (not_cleared e) = judged_stop (ap (judged_edit s) all_fields ∙ e)

-- ---- clearing, by its numbers

module _ {st : Counts} {o a : ℕ} {w0 w1 : List ℕ} where
  pub clear_object : 96 ≤ o → ClearingAs st o a w0 w1 (Err OverMeasure)
  unfolding judged_value must
  clear_object h = record { is = λ s p q g e f. not_cleared {e = OverMeasure} (rw (le-ltb p 96 (omega arith))) }

  module _ (object : o < 96) where
    pub clear_row : 64 ≤ a → ClearingAs st o a w0 w1 (Err OverMeasure)
    unfolding judged_value must
    clear_row h = record { is = λ s p q g e f. not_cleared {e = OverMeasure} (rw (lt-ltb p 96 (omega arith), le-ltb q 64 (omega arith))) }

    module _ (row : a < 64) where
      pub clear_no_object : st.objects ≤ o → ClearingAs st o a w0 w1 (Err UnknownPart)
      unfolding judged_value must
      clear_no_object h = record {
        is = λ s p q g e f. not_cleared {e = UnknownPart} (rw (lt-ltb p 96 (omega arith), lt-ltb q 64 (omega arith), le-ltb p (length s.objects) (let c = g.counted.objects in omega arith)));
      }

      module _ (known : o < st.objects) where
        pub clear_no_row : st.rows ≤ a → ClearingAs st o a w0 w1 (Err UnknownPart)
        unfolding judged_value must
        clear_no_row h = record {
          is = λ s p q g e f. not_cleared {e = UnknownPart} (rw (
            lt-ltb p 96 (omega arith),
            lt-ltb q 64 (omega arith),
            lt-ltb p (length s.objects) (let c = g.counted.objects in omega arith),
            le-ltb q (length s.rows) (let c = g.counted.rows in omega arith),
          ));
        }

        module _ (there : a < st.rows) (room : 8192 ≤ length w0) (fine : Fine st) {P Q : List ℕ} {i : ℕ} (p : P ≡ tab memory.parents st.classes w0) (q : Q ≡ tab memory.objects st.objects w0) (e : i ≡ a)
            {b : Bool} (ob : ObjectSuits P Q o (get_or w0 (memory.owners + i) 0) b) where
          owner : (s : Sheet) → Holds st w0 w1 s → b ≡ is_a (model_of s) o (class ((model_of s).row a).owner)
          owner s h = its_object room fine p q e ob there h

          pub clear_unsuited : b ≡ false → ClearingAs st o a w0 w1 (Err WrongThread)
          unfolding judged_value must
          clear_unsuited z = record {
            is = λ s x y g k l.
                let m : x ≡ o = omega arith in
                let n : y ≡ a = omega arith in
                rw (m, n) (not_cleared {e = WrongThread} (rw (
                  lt-ltb o 96 object,
                  lt-ltb a 64 row,
                  lt-ltb o (length s.objects) (let c = g.counted.objects in omega arith),
                  lt-ltb a (length s.rows) (let c = g.counted.rows in omega arith),
                  sym (owner s g) ∙ z,
                )));
          }

          pub clear_taken : b ≡ true → ClearingAs st o a w0 w1 (Ok (o * 64 + a))
          unfolding judged_value must
          clear_taken z = record {
            is = λ s x y g k l.
                let m : x ≡ o = omega arith in
                let n : y ≡ a = omega arith in
                rw (m, n) (cleared object row (rw (
                  lt-ltb o 96 object,
                  lt-ltb a 64 row,
                  lt-ltb o (length s.objects) (let c = g.counted.objects in omega arith),
                  lt-ltb a (length s.rows) (let c = g.counted.rows in omega arith),
                  sym (owner s g) ∙ z,
                )));
          }

pub clearing_unread : {line : Bytes} {st : Counts} {w0 w1 : List ℕ} → edit_of (fields_of line) ≡ none → Judges line st (Err BadLine) w0 w1 w0
unfolding judged_edit
clearing_unread {line} {st} {w0} {w1} e = record { is = λ s h. judged_stop (ap (judged_edit s) e); kept = kept_refl w0 }

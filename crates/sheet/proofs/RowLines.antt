-- The lines that are printed for the rules are the rows that they see. Assumes nothing.
use mathlib.Core.Path.{◌≡◌, refl, sym, ap, ◌∙◌, subst}
use mathlib.Core.Logic.{◌≢◌}
use mathlib.Core.Bool.{false, ◌||◌}
use mathlib.Core.Option.{some, none-ne-some, some-injective}
use mathlib.Core.List.{List, [], ◌∷◌, ◌++◌, map, append-nil, append_assoc, map-append}
use Prim.Native.Nat.{ℕ, zero, suc, ◌+◌, ◌<◌}
use native.Mathlib.Omega.{arith}
use lib.ListN.{length, get_elem?}
use lib.Dec.{T, eqb, eqb→eq, eqb_refl, ltb, leb, leb→le}
use borrow.Author.Tests.{eqb-false}
use Rattle.std.specs.Prelude.{if◌then◌else◌}
use Rattle.laws.specs.Lists.{member, Each, each_nil, each-cons}
use Rattle.laws.proofs.Tests.{and_l, or_l, or_r, by-if, by-test, test_true, test_false, test_same}
use Rattle.laws.proofs.Lists.{member_exact, member_append, each_imp, each_append, each_at}
use Rattle.ocl.specs.Types.{Ty}
use Rattle.ocl.proofs.Rows.{rows_below_count}
use Rattle.sheet.specs.Text.{Bytes, byte, bytes, is_digit, split, lines_of, spell_number}
use Rattle.sheet.specs.Sheet.{Rule, Sheet, schema_in}
use Rattle.sheet.specs.Reading.{sheet_in}
use Rattle.sheet.specs.Calls.{Verdict, answer, refusal_at, refusal, short_words, short_output}
use Rattle.sheet.specs.Report.{fitting, printed}
use Rattle.sheet.specs.Rows.{rows_seen, row_fields, rows_line, rows_lines, rows_into, rows_call, rows_program}
use Rattle.sheet.specs.Unseen.{Ascends, ascends_nil, ascends_one, ascends_cons, SaysRows, RowsSaid, RowsExact, RowsPrinted}
use Rattle.sheet.proofs.Numbers.{decimal}
use Rattle.sheet.proofs.Split.{cut, only_part, first_part}
use Rattle.sheet.proofs.TypeLines.{High, number_high, apart_from}
use Rattle.sheet.proofs.Accepted.{accepted_of, on_accepted_lem}
use Rattle.sheet.proofs.Soundness.{sheet_is}

-- ---- one line

number_apart : (n : ℕ) → Each (λ b. b ≢ byte " ") (spell_number n)
unfolding is_digit
number_apart n = each_imp (λ b h e. let k = leb→le 48 b (and_l (leb 48 b) _ h) in omega arith) (decimal n).all_digits

ascends_more : {is : List ℕ} {n : ℕ} → Ascends is → Each (λ j. j < n) is → Ascends (is ++ (n ∷ []))
ascends_more ascends_nil each_nil = ascends_one
ascends_more ascends_one (each-cons l each_nil) = ascends_cons l ascends_one
ascends_more (ascends_cons k a) (each-cons l h) = ascends_cons k (ascends_more a h)

module _ (seen : List ℕ) where
  -- those of the first n rows
  unfoldable up_to : ℕ → List ℕ
  up_to zero = []
  up_to (suc n) = up_to n ++ (if member n seen then n ∷ [] else [])

  fields_high : (n : ℕ) → High (row_fields seen n)
  unfolding row_fields bytes
  fields_high zero = each_nil
  fields_high (suc n) = each_append (fields_high n)
      (by-if High (member n seen) (bytes " " ++ spell_number n) [] (λ t. each-cons {n = byte " "} (omega arith) (number_high n)) (λ t. each_nil))

  parts_of : (a : Bytes) → Each (λ b. b ≢ byte " ") a → (n : ℕ) → split (byte " ") (a ++ row_fields seen n) ≡ a ∷ map spell_number (up_to n)
  unfolding row_fields up_to bytes
  parts_of a h zero = rw (append-nil a) (only_part (byte " ") h)
  parts_of a h (suc n) = by-test (member n seen)
      (λ t. rw (
        test_true (member n seen) t,
        ← append_assoc a (row_fields seen n) (byte " " ∷ spell_number n),
        cut (byte " ") (a ++ row_fields seen n) (spell_number n),
        parts_of a h n,
        only_part (byte " ") (number_apart n),
        map-append spell_number (up_to n) (n ∷ []),
      ))
      (λ t. rw (test_false (member n seen) t, append-nil (row_fields seen n), append-nil (up_to n)) (parts_of a h n))

  up_to_low : (n : ℕ) → Each (λ i. i < n) (up_to n)
  unfolding up_to
  up_to_low zero = each_nil
  up_to_low (suc n) = each_append (each_imp (λ i l. omega arith) (up_to_low n))
      (by-if (Each (λ i. i < suc n)) (member n seen) (n ∷ []) [] (λ t. each-cons (omega arith) each_nil) (λ t. each_nil))

  up_to_ascends : (n : ℕ) → Ascends (up_to n)
  unfolding up_to
  up_to_ascends zero = ascends_nil
  up_to_ascends (suc n) = by-test (member n seen) (λ t. rw (test_true (member n seen) t) (ascends_more (up_to_ascends n) (up_to_low n)))
      (λ t. rw (test_false (member n seen) t, append-nil (up_to n)) (up_to_ascends n))

  up_to_seen : (n : ℕ) → Each (λ i. T (member i seen)) (up_to n)
  unfolding up_to
  up_to_seen zero = each_nil
  up_to_seen (suc n) = each_append (up_to_seen n) (by-if (Each (λ i. T (member i seen))) (member n seen) (n ∷ []) [] (λ t. each-cons t each_nil) (λ t. each_nil))

  in_up_to : (n i : ℕ) → i < n → T (member i seen) → T (member i (up_to n))
  unfolding up_to member
  in_up_to zero i l h = absurd (omega arith)
  in_up_to (suc n) i l h = rw (member_append i (up_to n) (if member n seen then n ∷ [] else [])) (by-test (eqb i n)
      (λ t. or_r (member i (up_to n)) _ (let e = eqb→eq i n t in rw (← e, test_true (member i seen) h) (or_l (eqb i i) false (eqb_refl i))))
      (λ t. or_l (member i (up_to n)) _ (in_up_to n i (let k = eqb-false i n (test_false (eqb i n) t) in omega arith) h)))

  -- where no row is seen but the first n
  exactly : (n : ℕ) → Each (λ i. i < n) seen → (i : ℕ) → member i (up_to n) ≡ member i seen
  exactly n h i = test_same (member i (up_to n)) (member i seen) (λ t. each_at (up_to_seen n) ((member_exact i (up_to n)).0 t)) (λ t. in_up_to n i (each_at h ((member_exact i seen).0 t)) t)

-- ---- all lines

module _ (s : Sheet) where
  -- a line without its line feed
  unfoldable line_for : ℕ → Rule → Bytes
  line_for r x = spell_number r ++ row_fields (rows_seen s x) (length s.rows)

  line_high : (r : ℕ) (x : Rule) → High (line_for r x)
  unfolding line_for
  line_high r x = each_append (number_high r) (fields_high (rows_seen s x) (length s.rows))

  says_rows : (r : ℕ) (x : Rule) → SaysRows (rows_seen s x) r (line_for r x)
  unfolding line_for rows_seen
  says_rows r x = let seen = rows_seen s x in let n = length s.rows in record {
    rows = up_to seen n;
    parts = parts_of seen (spell_number r) (number_apart r) n;
    ascend = up_to_ascends seen n;
    exact = exactly seen n (rows_below_count (schema_in s) x.context x.body);
  }

  first_line : (r : ℕ) (x : Rule) (xs : List Rule) → lines_of (rows_lines s r (x ∷ xs)) ≡ line_for r x ∷ lines_of (rows_lines s (suc r) xs)
  unfolding lines_of rows_lines rows_line line_for bytes
  first_line r x xs =
      ap (split (byte "\n")) (append_assoc (line_for r x) (byte "\n" ∷ []) (rows_lines s (suc r) xs))
      ∙ first_part (byte "\n") (line_for r x) (rows_lines s (suc r) xs) (apart_from (byte "\n") (omega arith) (line_high r x))

  line_at : (xs : List Rule) (k r : ℕ) (x : Rule) → get_elem? xs r ≡ some x → get_elem? (lines_of (rows_lines s k xs)) r ≡ some (line_for (k + r) x)
  line_at [] k r x e = absurd (none-ne-some _ e)
  line_at (y ∷ xs) k zero x e = let n : k + zero ≡ k = omega arith in rw (first_line k y xs, n) (ap (λ z. some (line_for k z)) (some-injective _ _ e))
  line_at (y ∷ xs) k (suc r) x e = let n : k + suc r ≡ suc k + r = omega arith in rw (first_line k y xs, n) (line_at xs (suc k) r x e)

  lines_count : (xs : List Rule) (k : ℕ) → length (lines_of (rows_lines s k xs)) ≡ suc (length xs)
  unfolding lines_of rows_lines split
  lines_count [] k = refl
  lines_count (x ∷ xs) k = rw (first_line k x xs) (ap suc (lines_count xs (suc k)))

  lines_end : (xs : List Rule) (k : ℕ) → get_elem? (lines_of (rows_lines s k xs)) (length xs) ≡ some []
  unfolding lines_of rows_lines split
  lines_end [] k = refl
  lines_end (x ∷ xs) k = rw (first_line k x xs) (lines_end xs (suc k))

said : (text : Bytes) (s : Sheet) → sheet_in text ≡ s → RowsSaid text (rows_lines s 0 s.rules)
said text s e = record {
  each_rule = λ r x q.
      let n : 0 + r ≡ r = omega arith in
      let h = line_at s s.rules 0 r x (subst (λ u. get_elem? u.rules r ≡ some x) e q) in
      record { line = line_for s r x; there = h ∙ ap (λ i. some (line_for s i x)) n; says = rw e (says_rows s r x) };
  as_many = rw e (lines_count s s.rules 0);
  ended = rw e (lines_end s s.rules 0);
}

-- ---- the call and the program

pub fits : (room : ℕ) (b : Bytes) → (fitting room b).number ≡ 0 → (fitting room b).output ≡ b
unfolding fitting answer refusal refusal_at
fits room b e = by-if (λ (v : Verdict). v.number ≡ 0 → v.output ≡ b) (ltb room (length b)) (refusal 18) (answer b) (λ t q. absurd (omega arith)) (λ t q. refl) e

into_said : (text : Bytes) (room : ℕ) → (rows_into text room).number ≡ 0 → RowsSaid text (rows_into text room).output
unfolding rows_into
into_said text room e =
    let f : Sheet → List Ty → Verdict = λ s ts. fitting room (rows_lines s 0 s.rules) in
    let a = accepted_of text f e in
    let s = a.sheet in
    let q = on_accepted_lem text a f in
    let z : (rows_into text room).output ≡ rows_lines s 0 s.rules = ap (λ (v : Verdict). v.output) q ∙ fits room (rows_lines s 0 s.rules) (sym (ap (λ (v : Verdict). v.number) q) ∙ e) in
    subst (RowsSaid text) (sym z) (said text s (sheet_is text s a.is))

pub rows_exact : RowsExact
unfolding rows_call refusal refusal_at
rows_exact text w0 w1 w2 out e =
    by-if (λ (v : Verdict). v.number ≡ 0 → RowsSaid text v.output) (short_words w0 w1 w2 || short_output out) (refusal 1) (rows_into text (length out))
    (λ t q. absurd (omega arith)) (λ t. into_said text (length out)) e

pub rows_printed : RowsPrinted
unfolding rows_program printed
rows_printed text e = rw e (into_said text 65536 e)

-- One line: a row, the rows so far, the rule before them and the line feed behind them. Assumes nothing.
use mathlib.Core.Path.{◌≡◌, refl, sym, ◌∙◌}
use mathlib.Core.List.{List, [], ◌∷◌}
use mathlib.Core.Bool.{Bool, true, false}
use Prim.Native.Nat.{ℕ, ◌+◌, ◌*◌, ◌≤◌, ◌<◌}
use native.Mathlib.Omega.{arith}
use native.Mathlib.Numerals.{add-one}
use lib.ListN.{length}
use Rattle.laws.specs.Lists.{member}
use Rattle.sheet.specs.Text.{Bytes, bytes, spell_number}
use Rattle.sheet.specs.Rows.{row_fields}
use Rattle.sheet.proofs.Numbers.{digits_at_most}
use Rattle.text.specs.Written.{Puts}
use Rattle.text.proofs.WrittenLaws.{puts_nothing, puts_then}
use Rattle.rows.specs.Bits.{bit, Bits}
use Rattle.rows.specs.Lines.{PutsRows, row_field, fields_of, line_of}

-- a rule or a row has at most two digits
pub two_digits : (n : ℕ) → n < 64 → length (spell_number n) ≤ 2
two_digits n h = digits_at_most 2 n (omega arith) (omega arith)

-- ---- a row

module _ {at i : ℕ} {out : Bytes} (l : i < 64) where
  pub row_unseen : {seen : ℕ} {b : Bool} → b ≡ bit seen i → b ≡ false → PutsRows (row_field i) 3 seen at out out at
  unfolding row_field
  row_unseen {seen} f h = record {
    is = λ rows z. let e : member i rows ≡ false = sym (z.is i) ∙ sym f ∙ h in rw e (puts_nothing at out);
    within = omega arith;
  }

  module _ {b : Bytes} {d : ℕ} (p : Puts at (32 ∷ []) out b d) (room : at + 3 ≤ length out) where
    pub row_room : length b ≡ length out → d + length (spell_number i) ≤ length b
    row_room z = omega (arith, p.end, two_digits i l)

    pub row_seen : {seen : ℕ} {t : Bool} {c : Bytes} {r : ℕ} → t ≡ bit seen i → t ≡ true → Puts d (spell_number i) b c r → PutsRows (row_field i) 3 seen at out c r
    unfolding row_field bytes
    row_seen {seen} f h q = record {
      is = λ rows z. let e : member i rows ≡ true = sym (z.is i) ∙ sym f ∙ h in rw e (puts_then p q (omega (arith, two_digits i l)));
      within = omega (arith, p.end, q.end, two_digits i l);
    }

-- ---- the first i rows

pub record RowsTo (seen at i : ℕ) (before now : Bytes) (end : ℕ) : Type 0 where
  pub is : (rows : List ℕ) → Bits seen rows → Puts at (row_fields rows i) before now end
  pub size : length now ≡ length before
  pub within : end ≤ at + 3 * i

module _ {seen at : ℕ} {before : Bytes} where
  pub rows_none : RowsTo seen at 0 before before at
  unfolding row_fields
  rows_none = record { is = λ rows b. puts_nothing at before; size = refl; within = omega arith }

  module _ {i end n : ℕ} {now : Bytes} (so : RowsTo seen at i before now end) (room : at + 192 ≤ length before) where
    pub rows_room : i < n → n ≤ 64 → end + 3 ≤ length now
    rows_room h l = omega (arith, so.size, so.within)

    pub rows_next : {after : Bytes} {r : ℕ} → i < n → n ≤ 64 → PutsRows (row_field i) 3 seen end now after r → length after ≡ length now → RowsTo seen at (i + 1) before after r
    unfolding row_fields row_field
    rows_next {after} {r} h l p z = record {
      is = λ rows b. let x = so.is rows b in let y = p.is rows b in
          rw (add-one i) (puts_then x y (omega (arith, x.end, y.end, p.within, so.within)));
      size = z ∙ so.size;
      within = omega (arith, p.within, so.within);
    }

    pub rows_all : n ≤ i → i ≤ n → n ≤ 64 → PutsRows (fields_of n) 192 seen at before now end
    unfolding fields_of
    rows_all h k l = let e : i ≡ n = omega arith in record { is = λ rows b. rw (← e) (so.is rows b); within = omega (arith, so.within) }

-- ---- the line

module _ {rule at : ℕ} {a b : Bytes} {first : ℕ} (p : Puts at (spell_number rule) a b first) (low : rule < 64) (room : at + 195 ≤ length a)
    (same : length b ≡ length a) where
  pub fields_room : first + 192 ≤ length b
  fields_room = omega (arith, p.end, two_digits rule low)

  module _ {rows seen : ℕ} {c : Bytes} {end : ℕ} (few : rows ≤ 64) (q : PutsRows (fields_of rows) 192 seen first b c end) (kept : length c ≡ length b) where
    pub feed_room : end < length c
    feed_room = omega (arith, p.end, two_digits rule low, q.within)

    pub line_put : {d : Bytes} {r : ℕ} → Puts end (10 ∷ []) c d r → PutsRows (line_of rows rule) 195 seen at a d r
    unfolding line_of fields_of bytes
    line_put f = record {
      is = λ l z. let y = q.is l z in let x = puts_then p y (omega (arith, p.end, y.end, feed_room)) in
          puts_then x f (omega (arith, x.end, feed_room));
      within = omega (arith, p.end, two_digits rule low, q.within, f.end);
    }

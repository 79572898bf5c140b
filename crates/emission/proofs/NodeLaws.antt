-- A form put down and found again, and the nodes with one more. Assumes nothing.
use mathlib.Core.Path.{◌≡◌, refl, sym, ap, ◌∙◌}
use mathlib.Core.Bool.{Bool, true, false}
use mathlib.Core.List.{List, [], ◌∷◌, ◌++◌}
use Prim.Native.Nat.{ℕ, ◌+◌, ◌*◌, ◌/◌, ◌%◌, ◌≤◌, ◌<◌}
use native.Mathlib.Omega.{arith}
use Rattle.std.specs.Int.{from_bool}
use native.Mathlib.Decide.{dec_lt}
use borrow.Author.Tests.{eq-eqb, ne_eqb}
use lib.ListN.{length, get_or, drop, length-drop, get_or-append}
use lib.Dec.{eqb}
use lib.Seq.{length-take-le, get_or-take, get_or-drop, ext_get_or, get_or_at}
use Rattle.std.specs.Prelude.{if◌then◌else◌}
use Rattle.laws.proofs.Cases.{AllBelow, all-below}
use Rattle.laws.proofs.Lists.{length_more}
use Rattle.ocl.specs.Forms.{undef}
use Rattle.sheet.specs.Lines.{Shape, leaf}
use Rattle.nodes.specs.Nodes.{word, shape_words}
use Rattle.tables.proofs.Tables.{kept_refl}
use Rattle.shapes.specs.Calls.{called_by, by_number}
use Rattle.shapes.specs.Forms.{operands_at, StandsFor}
use Rattle.trees.specs.Operands.{shifted, WroteWords}
use Rattle.shapes.specs.declared.Parsed.{Parsed}
use Rattle.trees.proofs.ShapeLaws.{shape_line}
use Rattle.emission.specs.Nodes.{packed, parsed_in, NodeIs, HoldsNodes, Emitted}

-- ---- one number for four facts

pub sum_is : (a b : Bool) (x y : ℕ) {m n : ℕ} → m ≡ from_bool a → n ≡ from_bool b → m + 2 * n + x + y ≡ (if a then 1 else 0) + ((if b then 2 else 0) + (x + y))
sum_is true true x y p q = omega (arith, p, q)
sum_is true false x y p q = omega (arith, p, q)
sum_is false true x y p q = omega (arith, p, q)
sum_is false false x y p q = omega (arith, p, q)

record Unpacked (m : ℕ) (a b : Bool) (c d : ℕ) : Type 0 where
  count : m / 4 % 8 ≡ c
  classes : m / 32 ≡ d
  within : eqb (m % 2) 1 ≡ a
  apart : eqb (m / 2 % 2) 1 ≡ b

unpacked : (a b : Bool) (c d : ℕ) → c ≤ 4 → Unpacked ((if a then 1 else 0) + ((if b then 2 else 0) + (4 * c + 32 * d))) a b c d
unpacked true true c d h = record {
  count = omega arith;
  classes = omega arith;
  within = eq-eqb ((1 + (2 + (4 * c + 32 * d))) % 2) 1 (omega arith);
  apart = eq-eqb ((1 + (2 + (4 * c + 32 * d))) / 2 % 2) 1 (omega arith);
}
unpacked true false c d h = record {
  count = omega arith;
  classes = omega arith;
  within = eq-eqb ((1 + (0 + (4 * c + 32 * d))) % 2) 1 (omega arith);
  apart = ne_eqb ((1 + (0 + (4 * c + 32 * d))) / 2 % 2) 1 (λ e. omega arith);
}
unpacked false true c d h = record {
  count = omega arith;
  classes = omega arith;
  within = ne_eqb ((0 + (2 + (4 * c + 32 * d))) % 2) 1 (λ e. omega arith);
  apart = eq-eqb ((0 + (2 + (4 * c + 32 * d))) / 2 % 2) 1 (omega arith);
}
unpacked false false c d h = record {
  count = omega arith;
  classes = omega arith;
  within = ne_eqb ((0 + (0 + (4 * c + 32 * d))) % 2) 1 (λ e. omega arith);
  apart = ne_eqb ((0 + (0 + (4 * c + 32 * d))) / 2 % 2) 1 (λ e. omega arith);
}

-- ---- a node found again

module _ (line : ℕ) (w : List ℕ) (n : ℕ) where
  abbrev ours : List ℕ
  ours = word w n 0 ∷ word w n 1 ∷ word w n 2 ∷ word w n 3 ∷ word w n 4 ∷ word w n 5 ∷ word w n 6 ∷ line ∷ []

  our_word : (j : ℕ) → j < 7 → get_or ours j 0 ≡ word w n j
  unfolding AllBelow
  our_word = all-below (λ j. get_or ours j 0 ≡ word w n j) 7 (((((((tt, refl), refl), refl), refl), refl), refl), refl)

  module _ (p : Parsed) (size : length p.words ≡ 8) (few : p.count ≤ 4) (same : (j : ℕ) → j < 7 → word w n j ≡ get_or p.words j 0) where
    take_long : (l : List ℕ) → length l ≡ 8 → length (operands_at l p.count) ≡ p.count
    take_long l e = length-take-le p.count (drop 1 l) (omega (arith, length-drop 1 l))

    operand_in : (l : List ℕ) (j : ℕ) → j < p.count → get_or (operands_at l p.count) j 0 ≡ get_or l (1 + j) 0
    operand_in l j h = get_or-take p.count (drop 1 l) j 0 h ∙ get_or-drop 1 l j 0

    our_operands : operands_at ours p.count ≡ operands_at p.words p.count
    our_operands =
        ext_get_or 0 (operands_at ours p.count) (operands_at p.words p.count) (take_long ours refl ∙ sym (take_long p.words size))
        (λ j h. our_operand j (omega (arith, take_long ours refl)))
      where
        our_operand : (j : ℕ) → j < p.count → get_or (operands_at ours p.count) j 0 ≡ get_or (operands_at p.words p.count) j 0
        our_operand j h = operand_in ours j h ∙ our_word (1 + j) (omega arith) ∙ same (1 + j) (omega arith) ∙ sym (operand_in p.words j h)

    -- words that end in the line are ours
    our_words : (l : List ℕ) → p.words ≡ l → get_or l 7 0 ≡ line → ours ≡ l
    our_words l e f = ext_get_or 0 ours l (sym size ∙ ap length e) (λ j h. go j (dec_lt j 7) h)
      where
        go : (j : ℕ) → Dec (j < 7) → j < 8 → get_or ours j 0 ≡ get_or l j 0
        go j (yes k) h = our_word j k ∙ same j k ∙ ap (λ (x : List ℕ). get_or x j 0) e
        go j (no k) h = let q : j ≡ 7 = omega arith in rw q (sym f)

    pub node_found : {x : Shape} → p.classes ≤ 65 → word w n 7 ≡ packed p → StandsFor line x p → NodeIs line x (parsed_in line w n)
    unfolding packed parsed_in
    node_found {x} low e z =
        let u = unpacked p.within p.apart p.count p.classes few in
        let c : word w n 7 / 4 % 8 ≡ p.count = ap (λ (m : ℕ). m / 4 % 8) e ∙ u.count in
        let d : word w n 7 / 32 ≡ p.classes = ap (λ (m : ℕ). m / 32) e ∙ u.classes in
        record {
          stands = record {
            within = ap (λ (m : ℕ). eqb (m % 2) 1) e ∙ u.within ∙ z.within;
            apart = λ h. ap (λ (m : ℕ). eqb (m / 2 % 2) 1) e ∙ u.apart ∙ z.apart h;
            known = λ h k l. rw d (z.known h k l);
            counted = c ∙ z.counted;
            operands = rw c (our_operands ∙ z.operands);
            type = z.type;
            said = z.said;
            words = λ h k. our_words (shape_words 0 z.type (called_by by_number x) line x) (z.words h k) (shape_line 0 z.type (called_by by_number x) line x);
          };
          few = rw c few;
          classes = rw d low;
        }

pub parsed_kept : (line : ℕ) (v w : List ℕ) (i : ℕ) → ((j : ℕ) → j < 8 → word w i j ≡ word v i j) → parsed_in line w i ≡ parsed_in line v i
unfolding parsed_in
parsed_kept line v w i h =
    rw (h 0 (omega arith), h 1 (omega arith), h 2 (omega arith), h 3 (omega arith), h 4 (omega arith), h 5 (omega arith), h 6 (omega arith), h 7 (omega arith))

-- ---- one node more

-- no word is an operand that a first node would be added to
plain_word : (l : List ℕ) (j : ℕ) → j < 8 → shifted l 0 0 j ≡ get_or l j 0
unfolding shifted AllBelow
plain_word l = all-below (λ j. shifted l 0 0 j ≡ get_or l j 0) 8 ((((((((tt, refl), refl), refl), refl), refl), refl), refl), refl)

pub not_emitted : {n : ℕ} {p : Parsed} (w : List ℕ) → 768 ≤ n → Emitted n p w w
not_emitted w h = record { node = λ l. absurd (omega arith); kept = record { kept = kept_refl w; behind = λ i l. refl } }

module _ {n : ℕ} (r : ℕ) (p : Parsed) (before after : List ℕ) (low : n < 768) (size : length p.words ≡ 8) (few : p.count ≤ 4) (classes : p.classes ≤ 65) (rest : r ≡ packed p) where
  abbrev written : List ℕ
  written = get_or p.words 0 0 ∷ get_or p.words 1 0 ∷ get_or p.words 2 0 ∷ get_or p.words 3 0 ∷ get_or p.words 4 0 ∷ get_or p.words 5 0 ∷ get_or p.words 6 0 ∷ r ∷ []

  written_at : (j : ℕ) → j < 7 → get_or written j 0 ≡ get_or p.words j 0
  unfolding AllBelow
  written_at = all-below (λ j. get_or written j 0 ≡ get_or p.words j 0) 7 (((((((tt, refl), refl), refl), refl), refl), refl), refl)

  pub is_emitted : WroteWords (8 * n) 8 (shifted written 0 0) before after → Emitted n p before after
  is_emitted wrote = record {
    node = λ l line x z xs e h. record { at = λ i k. go line x z xs e h i k (dec_lt i n) };
    kept = record { kept = wrote.kept; behind = λ i l. wrote.high i (omega arith) };
  }
    where
      new : (line : ℕ) (x : Shape) → StandsFor line x p → NodeIs line x (parsed_in line after n)
      new line x z =
          node_found line after n p size few (λ j l. wrote.each j (omega arith) ∙ plain_word written j (omega arith) ∙ written_at j l) classes
          (wrote.each 7 (omega arith) ∙ plain_word written 7 (omega arith) ∙ rest) z

      go : (line : ℕ) (x : Shape) → StandsFor line x p → (xs : List Shape) → length xs ≡ n → HoldsNodes line xs before
          → (i : ℕ) → i < length (xs ++ (x ∷ [])) → Dec (i < n) → NodeIs line (get_or (xs ++ (x ∷ [])) i (leaf undef)) (parsed_in line after i)
      go line x z xs e h i k (yes l) =
          rw (get_or-append xs (x ∷ []) (leaf undef) i (omega arith), parsed_kept line before after i (λ j m. wrote.low (8 * i + j) (omega arith))) (h.at i (omega arith))
      go line x z xs e h i k (no l) =
          let q : i ≡ n = omega (arith, length_more xs x) in
          rw (q, get_or_at xs x [] (leaf undef) n e) (new line x z)

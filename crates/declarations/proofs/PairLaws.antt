-- The fields of O and R lines: a number and a class, by the fields that code reads, and the lines that they make. Assumes nothing.
use mathlib.Core.Path.{◌≡◌, refl, sym, ap, ◌∙◌}
use mathlib.Core.Bool.{Bool, true, false, ◌&&◌, true≢false}
use mathlib.Core.Option.{Option, none, some}
use mathlib.Core.List.{List, [], ◌∷◌}
use Prim.Native.Nat.{ℕ, ◌≤◌, ◌<◌, min}
use native.Mathlib.Omega.{arith}
use borrow.Author.Tests.{lt-ltb, le-ltb, ltb-true}
use lib.Dec.{ltb}
use lib.ListN.{length, get_or, drop, length-drop}
use Rattle.laws.specs.Choice.{on_some, map_some}
use Rattle.std.specs.Prelude.{if◌then◌else◌, Some, None, Result, Ok, Err}
use Rattle.sheet.specs.Text.{Bytes, bytes, fields_of}
use Rattle.sheet.specs.Lines.{Line, object_line, rule_line, is, next, done, a_number, line_of}
use Rattle.sheet.specs.Texts.{on_text}
use Rattle.sheet.specs.Sheet.{Sheet}
use Rattle.sheet.specs.Limits.{is_class, within_limits}
use Rattle.text.specs.Numbers.{cut_num}
use Rattle.text.specs.Parts.{Cut}
use Rattle.text.specs.declared.parts.Fields.{Fields}
use Rattle.text.proofs.NumberLaws.{num_bad}
use Rattle.text.proofs.PartLaws.{counted_exact}
use Rattle.tables.proofs.LineFields.{word_is, takes_none, takes_more, field_bad, field_some, fields_done, the, num_some, num_cut}
use Rattle.tables.specs.declared.Counts.{Counts}
use Rattle.tables.specs.Layout.{Took}
use Rattle.tables.proofs.Steps.{over_limits}
use Rattle.declarations.specs.Taken.{TookSpelled}
use Rattle.declarations.specs.Fields.{two_numbers, pair_of}
use Rattle.declarations.proofs.TakenLaws.{stopped, unspelled, spelled}
use Rattle.memory.specs.declared.refusals.Refusal.{Refusal}
use Rattle.memory.specs.declared.refusals.Refusal.TheVariants.{BadLine, OverMeasure}

-- ---- the returns of `pair`

module _ {line : Bytes} {f : Fields} (limit : ℕ) (cut : Cut line f) where
  pub pair_count : (f.count ≡ 3 → ⊥) → Err BadLine ≡ pair_of limit (two_numbers (drop 1 (fields_of line)))
  unfolding pair_of two_numbers
  pair_count h =
      rw (takes_more {B = ℕ × ℕ} a_number (λ n. next a_number (λ c. done (n, c))) 1 (λ n. takes_more _ _ 0 (λ c. takes_none (n, c))) (drop 1 (fields_of line))
      (λ e. h (omega (arith, cut.counted, length-drop 1 (fields_of line)))))

  module _ (three : f.count ≡ 3) where
    long : length (fields_of line) ≡ 3
    long = counted_exact cut (omega arith) ∙ three

    pub pair_number : {x : Bytes} → x ≡ get_or (fields_of line) 1 [] → None ≡ cut_num (a_number x) → Err BadLine ≡ pair_of limit (two_numbers (drop 1 (fields_of line)))
    unfolding pair_of two_numbers
    pair_number {x} e h = rw (field_bad {B = ℕ × ℕ} a_number (λ n. next a_number (λ c. done (n, c))) (fields_of line) 1 (omega (arith, long)) (rw (← e) (num_bad (a_number x) h)))

    module _ {x y : Bytes} (at1 : x ≡ get_or (fields_of line) 1 []) (at2 : y ≡ get_or (fields_of line) 2 []) {n : ℕ} (number : Some n ≡ cut_num (a_number x)) where
      first : two_numbers (drop 1 (fields_of line)) ≡ next a_number (λ c. done (the (a_number x), c)) (drop 2 (fields_of line))
      unfolding two_numbers
      first = field_some a_number _ (fields_of line) 1 (omega (arith, long)) (rw (← at1) (num_some (a_number x) number))

      pub pair_class : None ≡ cut_num (a_number y) → Err BadLine ≡ pair_of limit (two_numbers (drop 1 (fields_of line)))
      unfolding pair_of
      pair_class h = rw (first ∙ field_bad {B = ℕ × ℕ} a_number (λ c. done (the (a_number x), c)) (fields_of line) 2 (omega (arith, long)) (rw (← at2) (num_bad (a_number y) h)))

      module _ {c : ℕ} (class : Some c ≡ cut_num (a_number y)) (small : limit ≤ 1000000) where
        both : two_numbers (drop 1 (fields_of line)) ≡ some (the (a_number x), the (a_number y))
        both =
            first
            ∙ field_some a_number _ (fields_of line) 2 (omega (arith, long)) (rw (← at2) (num_some (a_number y) class))
            ∙ fields_done (the (a_number x), the (a_number y)) (fields_of line) 3 (omega (arith, long))

        cut1 : n ≡ min (the (a_number x)) 1000000
        cut1 = num_cut (a_number x) number

        cut2 : c ≡ min (the (a_number y)) 1000000
        cut2 = num_cut (a_number y) class

        pub pair_over : limit ≤ n → Err OverMeasure ≡ pair_of limit (two_numbers (drop 1 (fields_of line)))
        unfolding pair_of
        pair_over h = rw (both, le-ltb (the (a_number x)) limit (omega (arith, cut1)))

        module _ (low : n < limit) where
          pub pair_over_class : 64 ≤ c → Err OverMeasure ≡ pair_of limit (two_numbers (drop 1 (fields_of line)))
          unfolding pair_of is_class
          pair_over_class h = rw (both, lt-ltb (the (a_number x)) limit (omega (arith, cut1)), le-ltb (the (a_number y)) 64 (omega (arith, cut2)))

          pub pair_are : c < 64 → Ok (n, c) ≡ pair_of limit (two_numbers (drop 1 (fields_of line)))
          unfolding pair_of is_class
          pair_are h =
              let p : the (a_number x) ≡ n = omega (arith, cut1) in
              let q : the (a_number y) ≡ c = omega (arith, cut2) in
              rw (both, p, q, lt-ltb n limit low, lt-ltb c 64 h)

-- ---- the lines

-- what the two numbers make
pairs : (to : ℕ → ℕ → Line) (fs : List Bytes) → next a_number (λ n. next a_number (λ c. done (to n c))) fs ≡ map_some (λ p. to p.0 p.1) (two_numbers fs)
unfolding two_numbers next done on_some map_some
pairs to [] = refl
pairs to (f ∷ []) = go (a_number f)
  where
    go : (o : Option ℕ) → on_some {B = Line} o (λ n. none) ≡ map_some (λ (p : ℕ × ℕ). to p.0 p.1) (on_some o (λ n. none))
    go none = refl
    go (some n) = refl
pairs to (f ∷ g ∷ fs) = go (a_number f) (a_number g) fs
  where
    go : (o q : Option ℕ) (fs : List Bytes)
        → on_some o (λ n. on_some q (λ c. done (to n c) fs)) ≡ map_some (λ (p : ℕ × ℕ). to p.0 p.1) (on_some o (λ n. on_some q (λ c. done (n, c) fs)))
    go none q fs = refl
    go (some n) none fs = refl
    go (some n) (some c) [] = refl
    go (some n) (some c) (h ∷ fs) = refl

pub object_fields : (fs : List Bytes) → is (get_or fs 0 []) (bytes "O") ≡ true → line_of fs ≡ map_some (λ p. object_line p.0 p.1) (two_numbers (drop 1 fs))
unfolding line_of is bytes
object_fields [] h = absurd (true≢false (sym h))
object_fields (w ∷ fs) h = rw (word_is w (bytes "O") h) (pairs object_line fs)

pub rule_fields : (fs : List Bytes) → is (get_or fs 0 []) (bytes "R") ≡ true → line_of fs ≡ map_some (λ p. rule_line p.0 p.1) (two_numbers (drop 1 fs))
unfolding line_of is bytes
rule_fields [] h = absurd (true≢false (sym h))
rule_fields (w ∷ fs) h = rw (word_is w (bytes "R") h) (pairs rule_line fs)

-- ---- what a caller learns by the answer

-- both are the numbers of the fields, and within their limits
pub record Within (limit : ℕ) (o : Option (ℕ × ℕ)) (n c : ℕ) : Type 0 where
  pub are : o ≡ some (n, c)
  pub low : n < limit
  pub class : c < 64

pub pair_within : {n c : ℕ} (limit : ℕ) (o : Option (ℕ × ℕ)) → ◌≡◌ {A = Result (ℕ × ℕ) Refusal} (Ok (n, c)) (pair_of limit o) → Within limit o n c
unfolding pair_of is_class
pair_within limit none h = absurd (let z : ◌≡◌ {A = ℕ} 0 1 = cc in omega arith)
pair_within {n} {c} limit (some p) h = go (ltb p.0 limit) refl (ltb p.1 64) refl h
  where
    go : (a : Bool) → a ≡ ltb p.0 limit → (b : Bool) → b ≡ ltb p.1 64 → ◌≡◌ {A = Result (ℕ × ℕ) Refusal} (Ok (n, c)) (if a && b then Ok (p.0, p.1) else Err OverMeasure) → Within limit (some p) n c
    go true d true e q =
        let i : n ≡ p.0 = cc in
        let j : c ≡ p.1 = cc in
        record { are = ap some (rw (i, j)); low = rw i (ltb-true p.0 limit (sym d)); class = rw j (ltb-true p.1 64 (sym e)) }
    go true d false e q = absurd (let z : ◌≡◌ {A = ℕ} 0 1 = cc in omega arith)
    go false d b e q = absurd (let z : ◌≡◌ {A = ℕ} 0 1 = cc in omega arith)

-- the refusal of a line that is made of two numbers and has these limits
module _ (st : Counts) (k : ℕ) (w0 w1 : List ℕ) (line : Bytes) (o : Option (ℕ × ℕ)) (to : ℕ → ℕ → Line) (limit : ℕ)
    (reads : line_of (fields_of line) ≡ map_some (λ p. to p.0 p.1) o)
    (plain : (n c : ℕ) (test : Bytes → Bool) → on_text (to n c) test ≡ true)
    (limits : (s : Sheet) (n c : ℕ) → within_limits s (to n c) ≡ (ltb n limit && is_class c)) where
  pub pair_stopped : {e : Refusal} → Err e ≡ pair_of limit o → Took st k line (Err e) w0 w1 w0 w1
  unfolding pair_of map_some
  pair_stopped {e} h = go o reads h
    where
      by_limits : (p : ℕ × ℕ) (b : Bool) → b ≡ (ltb p.0 limit && is_class p.1) → line_of (fields_of line) ≡ some (to p.0 p.1)
          → ◌≡◌ {A = Result (ℕ × ℕ) Refusal} (Err e) (if b then Ok (p.0, p.1) else Err OverMeasure) → Took st k line (Err e) w0 w1 w0 w1
      by_limits p true d r h = absurd (let z : ◌≡◌ {A = ℕ} 0 1 = cc in omega arith)
      by_limits p false d r h =
          let is : e ≡ OverMeasure = cc in
          rw is (spelled line (plain p.0 p.1) r (stopped st k w0 w1 _ OverMeasure (λ s q. over_limits s k _ (limits s p.0 p.1 ∙ sym d))))

      go : (o : Option (ℕ × ℕ)) → line_of (fields_of line) ≡ map_some (λ p. to p.0 p.1) o → Err e ≡ pair_of limit o → Took st k line (Err e) w0 w1 w0 w1
      go none r h = let is : e ≡ BadLine = cc in rw is (unspelled st k w0 w1 line r)
      go (some p) r h = by_limits p (ltb p.0 limit && is_class p.1) refl r h

  pub pair_taken : {n c : ℕ} {r : Result Counts Refusal} {v0 v1 : List ℕ} → o ≡ some (n, c) → TookSpelled st k (to n c) r w0 w1 v0 v1 → Took st k line r w0 w1 v0 v1
  unfolding map_some
  pair_taken {n} {c} e t = spelled line (plain n c) (reads ∙ ap (map_some (λ p. to p.0 p.1)) e) t

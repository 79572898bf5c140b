-- Laws of tokens at a place of a text. Assumes nothing.
use mathlib.Core.Path.{◌≡◌, refl, sym, ap, ◌∙◌}
use mathlib.Core.Logic.{◌≢◌}
use mathlib.Core.Bool.{Bool, true, false, ◌&&◌, ◌||◌, true≢false}
use mathlib.Core.List.{[], ◌∷◌}
use Prim.Native.Nat.{ℕ, suc, ◌+◌, ◌-◌, ◌<◌, ◌≤◌}
use native.Mathlib.Omega.{arith}
use borrow.Author.Tests.{eq-eqb, ne_eqb, eqb-true, eqb-false}
use lib.Dec.{eqb, leb}
use lib.Pointwise.{pointwise}
use lib.ListN.{length, get_or, take, drop, drop_of_length-le, length-drop}
use lib.Seq.{drop-drop}
use Rattle.std.specs.Char.{is_ascii_alphanumeric}
use Rattle.laws.proofs.Parts.{at_next, part_all, part_next}
use Rattle.sheet.specs.Text.{Bytes, onto, is_digit}
use Rattle.sheet.specs.Grammar.Tokens.{tokens, in_word, joins}
use Rattle.tokens.specs.Meanings.{Skipped, run, RunEnds, arrow_in, arrow_at, TokenEnds, part, onward, NextIs}
use Rattle.tokens.specs.Codes.{code_of, head_code}
use Rattle.tokens.specs.declared.Token.{Token}
use Rattle.tokens.proofs.CodeLaws.{never_end}

-- ---- spaces

module _ (s : Bytes) (i : ℕ) (h : i < length s) where
  pub space_next : get_or s i 0 ≡ 32 → tokens (drop (i + 1) s) ≡ tokens (drop i s)
  unfolding tokens
  space_next e = rw (at_next 0 s i h, e)

-- ---- a word byte is neither a space nor a minus

other_byte : (b k : ℕ) → in_word k ≡ false → in_word b ≡ true → eqb b k ≡ false
other_byte b k n e = ne_eqb b k (λ q. true≢false (sym e ∙ ap in_word q ∙ n))

space_none : in_word 32 ≡ false
unfolding in_word is_digit
space_none = refl

minus_none : in_word 45 ≡ false
unfolding in_word is_digit
minus_none = refl

greater_none : in_word 62 ≡ false
unfolding in_word is_digit
greater_none = refl

-- ---- a word is a longest run

pub word_run : (b : ℕ) (s : Bytes) → in_word b ≡ true → tokens (b ∷ s) ≡ (b ∷ take (run s) s) ∷ tokens (drop (run s) s)
unfolding tokens joins run onto
word_run b [] e = rw (other_byte b 32 space_none e)
word_run b (c ∷ s) e = go (in_word c) refl (word_run c s)
  where
    go : (t : Bool) → in_word c ≡ t → (in_word c ≡ true → tokens (c ∷ s) ≡ (c ∷ take (run s) s) ∷ tokens (drop (run s) s))
        → tokens (b ∷ c ∷ s) ≡ (b ∷ take (run (c ∷ s)) (c ∷ s)) ∷ tokens (drop (run (c ∷ s)) (c ∷ s))
    go true d ih = rw (other_byte b 32 space_none e, e, d) (ap (onto b) (ih d))
    go false d ih = rw (other_byte b 32 space_none e, e, d, other_byte b 45 minus_none e)

-- where a run ends: the turns of `run_end`
module _ (s : Bytes) (i : ℕ) {x : ℕ} (inv : i + run (drop i s) ≡ x) where
  pub run_none : length s ≤ i → i ≡ x
  unfolding run
  run_none h = let e : run (drop i s) ≡ 0 = rw (drop_of_length-le s h) in omega arith

  pub run_here : i < length s → in_word (get_or s i 0) ≡ false → i ≡ x
  unfolding run
  run_here h q = let e : run (drop i s) ≡ 0 = rw (at_next 0 s i h, q) in omega arith

  pub run_next : i < length s → in_word (get_or s i 0) ≡ true → (i + 1) + run (drop (i + 1) s) ≡ x
  unfolding run
  run_next h q = let e : run (drop i s) ≡ suc (run (drop (i + 1) s)) = rw (at_next 0 s i h, q) in omega arith

-- ---- the end of a token

pub word_ends : (s : Bytes) (at r : ℕ) → at < length s → in_word (get_or s at 0) ≡ true → RunEnds s (at + 1) r → TokenEnds s at r
word_ends s at r h e q =
    let d = q.is in
    let w = q.within in
    let n : run (drop (at + 1) s) ≡ r - (at + 1) = omega arith in
    record {
      from = omega arith;
      within = w;
      is = rw (part_next 0 s at r (omega arith) w, at_next 0 s at h)
          (word_run (get_or s at 0) (drop (at + 1) s) e
          ∙ ap (λ (k : ℕ). (get_or s at 0 ∷ take k (drop (at + 1) s)) ∷ tokens (drop k (drop (at + 1) s))) n
          ∙ ap (λ (l : Bytes). (get_or s at 0 ∷ take (r - (at + 1)) (drop (at + 1) s)) ∷ tokens l) (drops s at r (omega arith)));
    }
  where
    drops : (s : Bytes) (at r : ℕ) → at + 1 ≤ r → drop (r - (at + 1)) (drop (at + 1) s) ≡ drop r s
    drops s at r l = drop-drop (r - (at + 1)) (at + 1) s ∙ ap (λ (k : ℕ). drop k s) (let e : at + 1 + (r - (at + 1)) ≡ r = omega arith in e)

arrow_tokens : (b : ℕ) (s : Bytes) → arrow_in (b ∷ s) ≡ true → tokens (b ∷ s) ≡ take 2 (b ∷ s) ∷ tokens (drop 2 (b ∷ s))
unfolding tokens joins arrow_in onto
arrow_tokens b [] e = absurd (true≢false (sym e))
arrow_tokens b (c ∷ s) e = go (eqb b 45) (eqb c 62) refl refl e
  where
    greater : (s : Bytes) → tokens (62 ∷ s) ≡ (62 ∷ []) ∷ tokens s
    greater [] = refl
    greater (d ∷ s) = rw greater_none

    go : (x y : Bool) → eqb b 45 ≡ x → eqb c 62 ≡ y → x && y ≡ true → tokens (b ∷ c ∷ s) ≡ (b ∷ c ∷ []) ∷ tokens s
    go true true p q e = rw (eqb-true b 45 p, eqb-true c 62 q, minus_none) (ap (onto 45) (greater s))
    go true false p q e = absurd (true≢false (sym e))
    go false y p q e = absurd (true≢false (sym e))

arrow_here : (l : Bytes) {b : ℕ} {s : Bytes} → l ≡ b ∷ s → arrow_in l ≡ true → tokens l ≡ take 2 l ∷ tokens (drop 2 l)
arrow_here l {b} {s} d e = rw d (arrow_tokens b s (rw d at e))

arrow_two : (b : ℕ) (s : Bytes) → arrow_in (b ∷ s) ≡ true → 1 ≤ length s
unfolding arrow_in
arrow_two b [] e = absurd (true≢false (sym e))
arrow_two b (c ∷ s) e = omega arith

pub arrow_ends : (s : Bytes) (at : ℕ) → at < length s → arrow_at s at ≡ true → TokenEnds s at (at + 2)
unfolding arrow_at
arrow_ends s at h e =
    let x : arrow_in (get_or s at 0 ∷ drop (at + 1) s) ≡ true = rw (at_next 0 s at h) at e in
    let more = arrow_two (get_or s at 0) (drop (at + 1) s) x in
    let n : length (drop (at + 1) s) ≡ length s - (at + 1) = length-drop (at + 1) s in
    let two : (at + 2) - at ≡ 2 = omega arith in
    record {
      from = omega arith;
      within = omega arith;
      is = rw two (arrow_here (drop at s) (at_next 0 s at h) e ∙ ap (λ (l : Bytes). take 2 (drop at s) ∷ tokens l) (drop-drop 2 at s));
    }

sign_tokens : (b : ℕ) (s : Bytes) → b ≢ 32 → in_word b ≡ false → arrow_in (b ∷ s) ≡ false → tokens (b ∷ s) ≡ (b ∷ []) ∷ tokens s
unfolding tokens joins arrow_in
sign_tokens b [] n w a = rw (ne_eqb b 32 n)
sign_tokens b (c ∷ s) n w a = rw (ne_eqb b 32 n, w, a)

pub sign_ends : (s : Bytes) (at : ℕ) → at < length s → get_or s at 0 ≢ 32 → in_word (get_or s at 0) ≡ false → arrow_at s at ≡ false → TokenEnds s at (at + 1)
unfolding arrow_at
sign_ends s at h n w a =
    let one : (at + 1) - at ≡ 1 = omega arith in
    record {
      from = omega arith;
      within = omega arith;
      is = rw (one, at_next 0 s at h) (sign_tokens (get_or s at 0) (drop (at + 1) s) n w (rw (at_next 0 s at h) at a));
    }

-- ---- the turns of the functions

-- a letter, a digit or `#`
word_told : (b : ℕ) → (is_ascii_alphanumeric b || eqb b 35) ≡ in_word b
unfolding in_word is_digit
word_told b = go (leb 48 b && leb b 57) (leb 65 b && leb b 90) (leb 97 b && leb b 122) (eqb b 35)
  where
    go : (d u l h : Bool) → (((d || u) || l) || h) ≡ (d || l || u || h)
    go true u l h = refl
    go false true true h = refl
    go false true false h = refl
    go false false true h = refl
    go false false false h = refl

module _ (b : ℕ) {x : Bool} (e : x ≡ is_ascii_alphanumeric b) where
  pub letter_in : x ≡ true → x ≡ in_word b
  letter_in t = t ∙ ap (λ (u : Bool). u || eqb b 35) (sym t ∙ e) ∙ word_told b

  pub hash_in : x ≡ false → eqb b 35 ≡ in_word b
  hash_in t = ap (λ (u : Bool). u || eqb b 35) (sym t ∙ e) ∙ word_told b

turned : (a b : ℕ) → eqb a b ≡ eqb b a
turned a b = go (eqb a b) refl
  where
    go : (x : Bool) → eqb a b ≡ x → x ≡ eqb b a
    go true e = sym (eq-eqb b a (sym (eqb-true a b e)))
    go false e = sym (ne_eqb b a (λ q. eqb-false a b e (sym q)))

arrow_told : (l : Bytes) → pointwise eqb (45 ∷ 62 ∷ []) (take 2 l) ≡ arrow_in l
unfolding arrow_in
arrow_told [] = refl
arrow_told (b ∷ []) = go (eqb 45 b)
  where
    go : (x : Bool) → (x && false) ≡ false
    go true = refl
    go false = refl
arrow_told (b ∷ c ∷ s) = rw (turned 45 b, turned 62 c) (go (eqb b 45) (eqb c 62))
  where
    go : (x y : Bool) → (x && (y && true)) ≡ (x && y)
    go true true = refl
    go true false = refl
    go false y = refl

-- `starts_with` of what is left of s
pub arrow_starts : (s : Bytes) (at : ℕ) → pointwise eqb (45 ∷ 62 ∷ []) (take 2 (take (length s - at) (drop at s))) ≡ arrow_at s at
unfolding arrow_at
arrow_starts s at = rw (part_all s at) (arrow_told (drop at s))

-- ---- the next token

pub next_none : (s : Bytes) (at r : ℕ) (t : Token) → Skipped s at r → length s ≤ r → t.start ≡ r → t.end ≡ r → t.code ≡ 65 → NextIs s at t
unfolding tokens head_code
next_none s at r t k h p q z =
    let f = k.from in
    let w = k.within in
    let e : onward s t ≡ [] = rw p (rw (drop_of_length-le s h)) in
    record {
      ahead = record {
        order = omega arith;
        within = omega arith;
        code = z ∙ sym (ap head_code e);
        one = λ n. absurd (n z);
        none = λ _. e;
      };
      from = omega arith;
      rest = sym k.same ∙ ap (λ (i : ℕ). tokens (drop i s)) (sym p);
    }

pub next_one : (s : Bytes) (at r e : ℕ) (t : Token) → Skipped s at r → TokenEnds s r e → t.start ≡ r → t.end ≡ e → t.code ≡ code_of (part s r e) → NextIs s at t
unfolding head_code
next_one s at r e t k h p q z =
    let f = k.from in
    let a = h.from in
    let w = h.within in
    let here : onward s t ≡ part s t.start t.end ∷ tokens (drop t.end s) = rw (p, q) h.is in
    let first : onward s t ≡ part s r e ∷ tokens (drop e s) = rw p h.is in
    record {
      ahead = record {
        order = omega arith;
        within = omega arith;
        code = z ∙ sym (ap head_code first);
        one = λ _. (omega arith, here);
        none = λ n. absurd (never_end (part s r e) (sym z ∙ n));
      };
      from = omega arith;
      rest = sym k.same ∙ ap (λ (i : ℕ). tokens (drop i s)) (sym p);
    }

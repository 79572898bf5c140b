-- Laws of the codes: a word of the grammar is told by its code, and what the parser asks of a word is asked of its code. Assumes nothing.
use mathlib.Core.Path.{◌≡◌, refl, sym, ap, ◌∙◌}
use mathlib.Core.Logic.{◌≢◌}
use mathlib.Core.Bool.{Bool, true, false, not, ◌&&◌, ◌||◌, true≢false}
use mathlib.Core.Option.{Option, none, some, none-ne-some, some-injective}
use mathlib.Core.List.{List, [], ◌∷◌}
use Prim.Native.Nat.{ℕ, zero, suc, ◌<◌}
use Prim.Native.String.{String}
use native.Mathlib.Omega.{arith}
use borrow.Author.Tests.{eq-eqb, ne_eqb, eqb-true, eqb-false, ltb-true}
use lib.Dec.{eqb, ltb}
use Rattle.std.specs.Prelude.{if◌then◌else◌}
use Rattle.laws.specs.Lists.{member, all_of}
use Rattle.laws.proofs.Tests.{and-true}
use Rattle.sheet.specs.Text.{Bytes, bytes}
use Rattle.sheet.specs.Lines.{is}
use Rattle.sheet.specs.Grammar.Tokens.{Tokens}
use Rattle.sheet.specs.Grammar.Words.{Table, named}
use Rattle.sheet.specs.Grammar.Parser.{after}
use Rattle.sheet.proofs.Grammar.Single.{is_exact, is_itself}
use Rattle.tokens.specs.Codes.{codes, or_code, code_of, after_code}

-- ---- a table whose numbers differ tells each word by its number

unfoldable numbers : Table ℕ → List ℕ
numbers [] = []
numbers (x ∷ t) = x.1 ∷ numbers t

unfoldable differ : List ℕ → Bool
differ [] = true
differ (n ∷ ns) = not (member n ns) && differ ns

named_in : (t : Table ℕ) (w : Bytes) {k : ℕ} → named t w ≡ some k → member k (numbers t) ≡ true
unfolding named numbers member
named_in [] w e = absurd (none-ne-some _ e)
named_in (x ∷ t) w {k} e = go (is w (bytes x.0)) (λ q. named_in t w q) e
  where
    either : (b : Bool) → (b || true) ≡ true
    either true = refl
    either false = refl

    go : (b : Bool) → (named t w ≡ some k → member k (numbers t) ≡ true) → (if b then some x.1 else named t w) ≡ some k → (eqb k x.1 || member k (numbers t)) ≡ true
    go true ih e = rw (eq-eqb k x.1 (sym (some-injective _ _ e)))
    go false ih e = rw (ih e) (either (eqb k x.1))

not_there : {n : ℕ} (t : Table ℕ) (w : Bytes) → not (member n (numbers t)) ≡ true → named t w ≡ some n → ⊥
not_there {n} t w h e = true≢false (go (member n (numbers t)) (named_in t w e) h)
  where
    go : (b : Bool) → b ≡ true → not b ≡ true → true ≡ false
    go true p q = sym q
    go false p q = sym p

one_word : (t : Table ℕ) (w x : Bytes) {k : ℕ} → differ (numbers t) ≡ true → named t w ≡ some k → named t x ≡ some k → w ≡ x
unfolding named numbers differ
one_word [] w x d e f = absurd (none-ne-some _ e)
one_word (y ∷ t) w x {k} d e f =
    let h = and-true (not (member y.1 (numbers t))) (differ (numbers t)) d in
    go (is w (bytes y.0)) (is x (bytes y.0)) refl refl h.0 (λ p q. one_word t w x h.1 p q) e f
  where
    go : (a b : Bool) → is w (bytes y.0) ≡ a → is x (bytes y.0) ≡ b → not (member y.1 (numbers t)) ≡ true
        → (named t w ≡ some k → named t x ≡ some k → w ≡ x)
        → (if a then some y.1 else named t w) ≡ some k → (if b then some y.1 else named t x) ≡ some k → w ≡ x
    go true true p q h ih e f = is_exact w _ p ∙ sym (is_exact x _ q)
    go true false p q h ih e f = absurd (not_there t x h (f ∙ sym e))
    go false true p q h ih e f = absurd (not_there t w h (e ∙ sym f))
    go false false p q h ih e f = ih e f

all_differ : differ (numbers codes) ≡ true
unfolding differ numbers codes member
all_differ = refl

-- ---- words by their codes

a_row : (o : Option ℕ) {k : ℕ} → or_code 64 o ≡ k → k ≢ 64 → o ≡ some k
unfolding or_code
a_row none e n = absurd (n (sym e))
a_row (some m) e n = ap some e

pub word_told : (w x : Bytes) {k : ℕ} → code_of x ≡ k → k ≢ 64 → is w x ≡ eqb (code_of w) k
unfolding code_of
word_told w x {k} e n = go (is w x) refl
  where
    go : (b : Bool) → is w x ≡ b → b ≡ eqb (code_of w) k
    go true p = sym (eq-eqb _ _ (ap code_of (is_exact w x p) ∙ e))
    go false p = sym (ne_eqb _ _ (λ q. true≢false (sym (is_itself x) ∙ ap (λ (y : Bytes). is y x) (sym (one_word codes w x all_differ (a_row (named codes w) q n) (a_row (named codes x) e n))) ∙ p)))

-- ---- the numbers in the table

-- a number that no row has is no word's code
no_number : {n : ℕ} → not (member n (numbers codes)) ≡ true → (w : Bytes) → named codes w ≡ some n → ⊥
no_number h w = not_there codes w h

pub never_end : (w : Bytes) → code_of w ≢ 65
unfolding code_of or_code numbers codes member
never_end w = go (named codes w) refl
  where
    go : (o : Option ℕ) → named codes w ≡ o → or_code 64 o ≢ 65
    go none e = λ q. absurd (omega arith)
    go (some k) e = λ q. no_number refl w (e ∙ ap some q)

-- the two numbers for another word
pub other_code : (w : Bytes) {r : ℕ} → r ≡ or_code 99 (named codes w) → r ≡ 99 → 64 ≡ code_of w
unfolding code_of or_code numbers codes member
other_code w e z = go (named codes w) refl (sym e ∙ z)
  where
    go : (o : Option ℕ) → named codes w ≡ o → or_code 99 o ≡ 99 → 64 ≡ or_code 64 o
    go none e q = refl
    go (some k) e q = absurd (no_number refl w (e ∙ ap some q))

pub some_code : (w : Bytes) {r : ℕ} → r ≡ or_code 99 (named codes w) → r ≢ 99 → r ≡ code_of w
unfolding code_of or_code
some_code w e n = go (named codes w) e n
  where
    go : (o : Option ℕ) {r : ℕ} → r ≡ or_code 99 o → r ≢ 99 → r ≡ or_code 64 o
    go none e n = absurd (n e)
    go (some k) e n = e

-- a test that every code passes
unfoldable pub all_to : (ℕ → Bool) → ℕ → Bool
all_to f zero = true
all_to f (suc n) = f n && all_to f n

below_all : (f : ℕ → Bool) (n k : ℕ) → all_to f n ≡ true → k < n → f k ≡ true
unfolding all_to
below_all f zero k h l = absurd (omega arith)
below_all f (suc n) k h l = let p = and-true (f n) (all_to f n) h in go (eqb k n) refl p.0 (below_all f n k p.1)
  where
    go : (b : Bool) → eqb k n ≡ b → f n ≡ true → (k < n → f k ≡ true) → f k ≡ true
    go true e q ih = rw (eqb-true k n e) q
    go false e q ih = ih (let d = eqb-false k n e in omega arith)

small_row : (t : Table ℕ) (w : Bytes) {k : ℕ} → all_of (λ n. ltb n 64) (numbers t) ≡ true → named t w ≡ some k → k < 64
unfolding named numbers all_of
small_row [] w h e = absurd (none-ne-some _ e)
small_row (x ∷ t) w {k} h e =
    let p = and-true (ltb x.1 64) (all_of (λ n. ltb n 64) (numbers t)) h in
    go (is w (bytes x.0)) (λ q. small_row t w p.1 q) (ltb-true _ _ p.0) e
  where
    go : (b : Bool) → (named t w ≡ some k → k < 64) → x.1 < 64 → (if b then some x.1 else named t w) ≡ some k → k < 64
    go true ih l e = let q : x.1 ≡ k = some-injective _ _ e in omega arith
    go false ih l e = ih e

code_small : (w : Bytes) → code_of w < 65
unfolding code_of or_code numbers codes all_of
code_small w = go (named codes w) refl
  where
    go : (o : Option ℕ) → named codes w ≡ o → or_code 64 o < 65
    go none e = omega arith
    go (some k) e = let l = small_row codes w refl e in omega arith

pub every_code : (f : ℕ → Bool) → all_to f 65 ≡ true → (w : Bytes) → f (code_of w) ≡ true
every_code f h w = below_all f 65 (code_of w) h (code_small w)

-- what follows a word follows its code
pub after_told : (x : String) (s : Tokens) {k : ℕ} → code_of (bytes x) ≡ k → k ≢ 64 → after x s ≡ after_code k s
unfolding after after_code
after_told x [] e n = refl
after_told x (w ∷ s) {k} e n = ap (λ (b : Bool). if b then some s else none) (word_told w (bytes x) e n)

-- a table of words, by their codes
unfoldable pub by_code : {A : Type 0} → List (ℕ × A) → ℕ → Option A
by_code [] k = none
by_code (x ∷ t) k = if eqb k x.0 then some x.1 else by_code t k

unfoldable pub coded : {A : Type 0} → Table A → List (ℕ × A)
coded [] = []
coded (x ∷ t) = (code_of (bytes x.0), x.1) ∷ coded t

unfoldable pub all_coded : {A : Type 0} → Table A → Bool
all_coded [] = true
all_coded (x ∷ t) = not (eqb (code_of (bytes x.0)) 64) && all_coded t

pub named_told : {A : Type 0} (t : Table A) → all_coded t ≡ true → (w : Bytes) → named t w ≡ by_code (coded t) (code_of w)
unfolding named by_code coded all_coded
named_told [] h w = refl
named_told (x ∷ t) h w =
    let p = and-true (not (eqb (code_of (bytes x.0)) 64)) (all_coded t) h in
    rw (word_told w (bytes x.0) refl (is_coded p.0), named_told t p.1 w)
  where
    is_coded : not (eqb (code_of (bytes x.0)) 64) ≡ true → code_of (bytes x.0) ≢ 64
    is_coded h e = true≢false (sym (rw (eq-eqb _ _ e) at h))

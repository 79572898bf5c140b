-- Brackets by their bytes: where few are open by bytes, few are by tokens. Assumes nothing.
use mathlib.Core.Path.{◌≡◌, refl, sym, ap, ◌∙◌, subst}
use mathlib.Core.Bool.{Bool, true, false, ◌&&◌, ◌||◌, true≢false}
use mathlib.Core.List.{[], ◌∷◌}
use Prim.Native.Nat.{ℕ, suc, pred, ◌<◌, ◌≤◌}
use native.Mathlib.Omega.{arith}
use borrow.Author.Tests.{eqb-true, ne_eqb, leb-true, lt-ltb}
use lib.Dec.{eqb, leb, ltb}
use lib.ListN.{length, drop, get_or}
use Rattle.std.specs.Prelude.{if◌then◌else◌}
use Rattle.laws.proofs.Tests.{and-true}
use Rattle.sheet.specs.Text.{Bytes, bytes, onto, is_digit}
use Rattle.sheet.specs.Lines.{is}
use Rattle.sheet.specs.Grammar.Tokens.{Tokens, tokens, in_word, joins}
use Rattle.sheet.specs.Texts.{opens, closes, few_open, brackets_within}
use Rattle.tokens.specs.Meanings.{open_by, few_bytes, bytes_within}

-- ---- bytes that are no bracket

unfoldable bracket : ℕ → Bool
bracket b = (eqb b 40 || eqb b 123) || (eqb b 41 || eqb b 125)

grows : (p : Bool) (b m : ℕ) → bracket b ≡ false → m ≤ open_by p b m
unfolding bracket open_by
grows p b m = go (eqb b 40 || eqb b 123) (eqb b 41 || eqb b 125) (eqb b 102 && p)
  where
    go : (a c f : Bool) → a || c ≡ false → m ≤ (if a then suc m else if c then pred m else if f then suc m else m)
    go true c f e = absurd (true≢false e)
    go false true f e = absurd (true≢false e)
    go false false true e = omega arith
    go false false false e = omega arith

-- of a space and of brackets
no_word : (in_word 32 ≡ false) × (in_word 40 ≡ false) × (in_word 123 ≡ false) × (in_word 41 ≡ false) × (in_word 125 ≡ false)
unfolding in_word is_digit
no_word = (refl, refl, refl, refl, refl)

word_plain : (b : ℕ) → in_word b ≡ true → bracket b ≡ false
unfolding bracket
word_plain b h = rw (other 40 no_word.1, other 123 no_word.2, other 41 no_word.3, other 125 no_word.4)
  where
    other : (k : ℕ) → in_word k ≡ false → eqb b k ≡ false
    other k n = ne_eqb b k (λ q. true≢false (sym h ∙ ap in_word q ∙ n))

-- ---- one token

-- a token that opens nothing may close something
few_after : (d : ℕ) (w : Bytes) (ts : Tokens) → (opens w ≡ true → (d < 64) × (few_open (suc d) ts ≡ true)) → ((k : ℕ) → k ≤ d → few_open k ts ≡ true) → few_open d (w ∷ ts) ≡ true
unfolding few_open
few_after d w ts up down = go (opens w) (closes w) refl
  where
    go : (a c : Bool) → opens w ≡ a → (if a then ltb d 64 && few_open (suc d) ts else if c then few_open (pred d) ts else few_open d ts) ≡ true
    go true c e = let x = up e in rw (lt-ltb d 64 x.0, x.1)
    go false true e = down (pred d) (omega arith)
    go false false e = down d (omega arith)

-- what is open by tokens is no more than m, which is open by bytes; the byte before was an `i` if p is
record Few (s : Bytes) (p : Bool) (m : ℕ) : Type 0 where
  all : (d : ℕ) → d ≤ m → few_open d (tokens s) ≡ true
  rest : (c : ℕ) (w : Bytes) (ts : Tokens) → tokens s ≡ (c ∷ w) ∷ ts → bracket c ≡ false → (d : ℕ) → d ≤ m → few_open d ts ≡ true
  lone : p ≡ true → (l : Bytes) → s ≡ 102 ∷ l → (ts : Tokens) → tokens s ≡ (102 ∷ []) ∷ ts → (m < 64) × ((d : ℕ) → d ≤ suc m → few_open d ts ≡ true)

head_of : {x y : Bytes} {xs ys : Tokens} → x ∷ xs ≡ y ∷ ys → x ≡ y
head_of e = ap (λ (l : Tokens). get_or l 0 []) e

tail_of : {x y : Bytes} {xs ys : Tokens} → x ∷ xs ≡ y ∷ ys → xs ≡ ys
tail_of e = ap (drop 1) e

first_of : {b c : ℕ} {s l : Bytes} → b ∷ s ≡ c ∷ l → b ≡ c
first_of e = ap (λ (l : Bytes). get_or l 0 0) e

-- a byte that is no space begins a token
starts : (c : ℕ) (s : Bytes) → eqb c 32 ≡ false → (w : Bytes) × (ts : Tokens) × (tokens (c ∷ s) ≡ (c ∷ w) ∷ ts)
unfolding tokens onto
starts c s e = go (joins c s) (tokens s) refl refl
  where
    go : (j : Bool) (t : Tokens) → joins c s ≡ j → tokens s ≡ t → (w : Bytes) × (ts : Tokens) × (tokens (c ∷ s) ≡ (c ∷ w) ∷ ts)
    go false t i q = ([], tokens s, rw (e, i))
    go true [] i q = ([], [], rw (e, i, q))
    go true (w ∷ ts) i q = (w, ts, rw (e, i, q))

module _ (p : Bool) (b m : ℕ) (s : Bytes) (low : open_by p b m ≤ 64) (ih : Few s (eqb b 105) (open_by p b m)) where
  -- a space
  of_space : eqb b 32 ≡ true → Few (b ∷ s) p m
  unfolding tokens open_by
  of_space e =
      let q = eqb-true b 32 e in
      let o : open_by p b m ≡ m = rw q in
      let same : tokens (b ∷ s) ≡ tokens s = rw e in
      record {
        all = λ d h. ap (few_open d) same ∙ ih.all d (omega (arith, o));
        rest = λ c w ts t n d h. ih.rest c w ts (sym same ∙ t) n d (omega (arith, o));
        lone = λ x l y ts t. absurd (let z = first_of y in omega (arith, q));
      }

  -- a sign or a word of one byte
  module _ (e : eqb b 32 ≡ false) (j : joins b s ≡ false) where
    one : tokens (b ∷ s) ≡ (b ∷ []) ∷ tokens s
    unfolding tokens
    one = rw (e, j)

    opens_one : opens (b ∷ []) ≡ true → open_by p b m ≡ suc m
    unfolding opens is open_by bytes
    opens_one = go (eqb b 40) (eqb b 123) (eqb b 105)
      where
        go : (x y z : Bool) → x && true || y && true || z && false ≡ true → (if x || y then suc m else if eqb b 41 || eqb b 125 then pred m else if eqb b 102 && p then suc m else m) ≡ suc m
        go true y z q = refl
        go false true z q = refl
        go false false true q = absurd (true≢false (sym q))
        go false false false q = absurd (true≢false (sym q))

    of_one : Few (b ∷ s) p m
    unfolding few_open open_by opens closes is bracket bytes
    of_one = record {
      all = λ d h. ap (few_open d) one ∙ by_byte d h;
      rest = λ c w ts t n d h. subst (λ (l : Tokens). few_open d l ≡ true) (tail_of (sym one ∙ t)) (ih.all d (omega (arith, grows p b m (plain c w ts t n), h)));
      lone = λ x l y ts t. by_f x (first_of y) ts t;
    }
      where
        plain : (c : ℕ) (w : Bytes) (ts : Tokens) → tokens (b ∷ s) ≡ (c ∷ w) ∷ ts → bracket c ≡ false → bracket b ≡ false
        plain c w ts t n = ap bracket (first_of (head_of (sym one ∙ t))) ∙ n

        by_byte : (d : ℕ) → d ≤ m → few_open d ((b ∷ []) ∷ tokens s) ≡ true
        by_byte d h = go (opens (b ∷ [])) (closes (b ∷ [])) refl refl
          where
            go : (x y : Bool) → opens (b ∷ []) ≡ x → closes (b ∷ []) ≡ y → (if x then ltb d 64 && few_open (suc d) (tokens s) else if y then few_open (pred d) (tokens s) else few_open d (tokens s)) ≡ true
            go true y q r = let o = opens_one q in rw (lt-ltb d 64 (omega arith), ih.all (suc d) (omega arith))
            go false true q r = ih.all (pred d) (omega (arith, fewer))
              where
                fewer : pred m ≤ open_by p b m
                fewer = at (eqb b 40 || eqb b 123) (eqb b 41 || eqb b 125) (eqb b 102 && p)
                  where
                    at : (a c f : Bool) → pred m ≤ (if a then suc m else if c then pred m else if f then suc m else m)
                    at true c f = omega arith
                    at false true f = omega arith
                    at false false true = omega arith
                    at false false false = omega arith
            go false false q r = ih.all d (omega (arith, grows p b m (neither q r)))
              where
                neither : opens (b ∷ []) ≡ false → closes (b ∷ []) ≡ false → bracket b ≡ false
                neither = at (eqb b 40) (eqb b 123) (eqb b 105) (eqb b 41) (eqb b 125) (eqb b 101)
                  where
                    at : (x y z u v w : Bool) → x && true || y && true || z && false ≡ false → u && true || v && true || w && false ≡ false → (x || y) || (u || v) ≡ false
                    at true y z u v w q r = absurd (true≢false q)
                    at false true z u v w q r = absurd (true≢false q)
                    at false false z true v w q r = absurd (true≢false r)
                    at false false z false true w q r = absurd (true≢false r)
                    at false false z false false w q r = refl

        by_f : p ≡ true → b ≡ 102 → (ts : Tokens) → tokens (b ∷ s) ≡ (102 ∷ []) ∷ ts → (m < 64) × ((d : ℕ) → d ≤ suc m → few_open d ts ≡ true)
        by_f x y ts t =
            let o : open_by p b m ≡ suc m = rw (x, y) in
            (omega arith, λ d h. subst (λ (l : Tokens). few_open d l ≡ true) (tail_of (sym one ∙ t)) (ih.all d (omega arith)))

  -- a byte and the first of the token behind it
  module _ (e : eqb b 32 ≡ false) (c : ℕ) (l : Bytes) (ends : s ≡ c ∷ l) (j : joins b (c ∷ l) ≡ true) where
    both_plain : (bracket b ≡ false) × (bracket c ≡ false) × (eqb c 32 ≡ false)
    unfolding joins bracket
    both_plain = go (in_word b) (in_word c) (eqb b 45) (eqb c 62) refl refl refl refl j
      where
        go : (x y u v : Bool) → in_word b ≡ x → in_word c ≡ y → eqb b 45 ≡ u → eqb c 62 ≡ v → x && y || u && v ≡ true → (bracket b ≡ false) × (bracket c ≡ false) × (eqb c 32 ≡ false)
        go true true u v f g h i q = (word_plain b f, word_plain c g, ne_eqb c 32 (λ z. true≢false (sym g ∙ ap in_word z ∙ no_word.0)))
        go true false true true f g h i q = (rw (eqb-true b 45 h), rw (eqb-true c 62 i), rw (eqb-true c 62 i))
        go false y true true f g h i q = (rw (eqb-true b 45 h), rw (eqb-true c 62 i), rw (eqb-true c 62 i))
        go true false true false f g h i q = absurd (true≢false (sym q))
        go true false false v f g h i q = absurd (true≢false (sym q))
        go false y true false f g h i q = absurd (true≢false (sym q))
        go false y false v f g h i q = absurd (true≢false (sym q))

    of_join : Few (b ∷ s) p m
    unfolding tokens onto opens is bytes
    of_join = record {
      all = λ d h. ap (few_open d) long ∙ few_after d (b ∷ c ∷ w) ts (up d h) (λ k q. ih.rest c w ts inner both_plain.1 k (omega (arith, more)));
      rest = λ x y us t n d h. subst (λ (r : Tokens). few_open d r ≡ true) (tail_of (sym long ∙ t)) (ih.rest c w ts inner both_plain.1 d (omega (arith, more)));
      lone = λ x y z us t. absurd (two (head_of (sym long ∙ t)));
    }
      where
        begun : (w : Bytes) × (ts : Tokens) × (tokens (c ∷ l) ≡ (c ∷ w) ∷ ts)
        begun = starts c l both_plain.2

        w : Bytes
        w = begun.0

        ts : Tokens
        ts = begun.1

        inner : tokens s ≡ (c ∷ w) ∷ ts
        inner = ap tokens ends ∙ begun.2

        long : tokens (b ∷ s) ≡ (b ∷ c ∷ w) ∷ ts
        long = rw (e, ap (joins b) ends ∙ j) (ap (onto b) inner)

        more : m ≤ open_by p b m
        more = grows p b m both_plain.0

        two : b ∷ c ∷ w ≡ 102 ∷ [] → ⊥
        two z = let k : suc (suc (length w)) ≡ 1 = ap length z in omega arith

        up : (d : ℕ) → d ≤ m → opens (b ∷ c ∷ w) ≡ true → (d < 64) × (few_open (suc d) ts ≡ true)
        up d h u =
            let q = only (eqb b 40) (eqb b 123) (eqb b 105 && (eqb c 102 && is w [])) u in
            let r = and-true (eqb b 105) (eqb c 102 && is w []) q in
            let i = and-true (eqb c 102) (is w []) r.1 in
            let k = eqb-true c 102 i.0 in
            let a = ih.lone r.0 l (ends ∙ ap (λ n. n ∷ l) k) ts (inner ∙ ap (λ n. (n ∷ w) ∷ ts) k ∙ ap (λ v. (102 ∷ v) ∷ ts) (empty w i.1)) in
            (omega (arith, more, a.0), a.1 (suc d) (omega (arith, more)))
          where
            only : (x y z : Bool) → x && false || y && false || z ≡ true → z ≡ true
            only true true z q = q
            only true false z q = q
            only false true z q = q
            only false false z q = q

            empty : (v : Bytes) → is v [] ≡ true → v ≡ []
            empty [] q = refl
            empty (n ∷ v) q = absurd (true≢false (sym q))

-- ---- a text

few_step : (p : Bool) (b m : ℕ) (s : Bytes) → few_bytes p m (b ∷ s) ≡ true → (few_bytes (eqb b 105) (open_by p b m) s ≡ true → Few s (eqb b 105) (open_by p b m)) → Few (b ∷ s) p m
unfolding few_bytes joins
few_step p b m s h induct = go (eqb b 32) refl
  where
    here : (leb (open_by p b m) 64 ≡ true) × (few_bytes (eqb b 105) (open_by p b m) s ≡ true)
    here = and-true (leb (open_by p b m) 64) (few_bytes (eqb b 105) (open_by p b m) s) h

    low : open_by p b m ≤ 64
    low = leb-true (open_by p b m) 64 here.0

    ih : Few s (eqb b 105) (open_by p b m)
    ih = induct here.1

    apart : (l : Bytes) → s ≡ l → (j : Bool) → joins b l ≡ j → eqb b 32 ≡ false → Few (b ∷ s) p m
    apart l z false j e = of_one p b m s low ih e (ap (joins b) z ∙ j)
    apart [] z true j e = absurd (no_join j)
      where
        no_join : joins b [] ≡ true → ⊥
        no_join q = true≢false (sym q)
    apart (c ∷ l) z true j e = of_join p b m s low ih e c l z j

    go : (x : Bool) → eqb b 32 ≡ x → Few (b ∷ s) p m
    go true e = of_space p b m s low ih e
    go false e = apart s refl (joins b s) refl e

few_bytes_lem : (s : Bytes) (p : Bool) (m : ℕ) → few_bytes p m s ≡ true → Few s p m
unfolding few_bytes tokens few_open
few_bytes_lem [] p m h = record {
  all = λ d l. none d;
  rest = λ c w ts t. absurd (no_token t);
  lone = λ x l y. absurd (no_byte y);
}
  where
    none : (d : ℕ) → few_open d (tokens []) ≡ true
    none d = refl

    no_token : {w : Bytes} {ts : Tokens} → tokens [] ≡ w ∷ ts → ⊥
    no_token t = let k : 0 ≡ suc _ = ap length t in omega arith

    no_byte : {l : Bytes} → [] ≡ 102 ∷ l → ⊥
    no_byte y = let k : 0 ≡ suc _ = ap length y in omega arith
few_bytes_lem (b ∷ s) p m h = few_step p b m s h (few_bytes_lem s (eqb b 105) (open_by p b m))

pub bytes_few : (s : Bytes) → true ≡ bytes_within s → true ≡ brackets_within s
unfolding bytes_within brackets_within
bytes_few s h = sym ((few_bytes_lem s false 0 (sym h)).all 0 (omega arith))

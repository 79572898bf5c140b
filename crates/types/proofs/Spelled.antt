-- What `read_type` of crates/sheet reads is letters with their brackets, a base, closing brackets. Assumes nothing.
use Prim.Native.Nat.{ℕ, zero, suc, ◌≤◌}
use mathlib.Core.Path.{◌≡◌, refl, sym, ap, ◌∙◌}
use mathlib.Core.Bool.{Bool, true, false, ◌&&◌}
use mathlib.Core.Option.{Option, none, some}
use mathlib.Core.List.{[], ◌∷◌}
use native.Mathlib.Omega.{arith}
use native.Mathlib.Decide.{ℕ_discrete}
use borrow.Author.Tests.{ne_eqb, eqb-true, eqb-false}
use lib.Dec.{eqb}
use lib.ListN.{length}
use Rattle.laws.proofs.Tests.{if_same}
use Rattle.laws.proofs.Options.{or_else_none, or_else_assoc}
use Rattle.laws.specs.Choice.{or_else, on_some, map_some}
use Rattle.std.specs.Prelude.{if◌then◌else◌}
use Rattle.ocl.specs.Types.{set, sequence, bag, Letter, collection, exactly, Ty, void, around, Any, Boolean, Integer, Real, Class}
use Rattle.sheet.specs.Text.{Bytes, bytes, Parser, nothing, after, literal, behind, ◌or◌, ◌then◌, mapped, at_end, whole, is_digit, digits, plain, number_parser}
use Rattle.sheet.specs.Spelling.{collection_type, type_parser, read_type}
use Rattle.types.specs.Flat.{letter_of}
use Rattle.types.specs.Reading.{closes, closed, spells, base, base_before, hash_before, number_before, byte_code, lettered, type_before}
use Rattle.types.proofs.Closing.{literal_closed}

-- ---- the letters

-- the four collection types, with member types of the parser p
collections : Parser Ty → Parser Ty
collections p = collection_type "S(" (exactly set) p or collection_type "Q(" (exactly sequence) p or collection_type "B(" (exactly bag) p or collection_type "C(" collection p

-- a base, or a collection type
type_parts : (n : ℕ) (s : Bytes) → type_parser (suc n) s ≡ or_else (base s) (collections (type_parser n) s)
unfolding type_parser base collections ◌or◌
type_parts n s =
    let v = literal "Void" void s in
    let b = literal "Bool" Boolean s in
    let i = literal "Int" Integer s in
    let r = literal "Real" Real s in
    let a = literal "Any" Any s in
    let h = behind "#" (mapped Class number_parser) s in
    let c = collections (type_parser n) s in
    sym (or_else_assoc v (or_else b (or_else i (or_else r (or_else a h)))) c ∙ ap (or_else v) (or_else_assoc b (or_else i (or_else r (or_else a h))) c ∙ ap (or_else b) (or_else_assoc i (or_else r (or_else a h)) c ∙ ap (or_else i) (or_else_assoc r (or_else a h) c ∙ ap (or_else r) (or_else_assoc a h c)))))

-- no letter is read where no bracket is second
pair_off : (k a b : ℕ) (s : Bytes) → (b ≡ 40 → ⊥) → after (k ∷ 40 ∷ []) (a ∷ b ∷ s) ≡ none
unfolding after
pair_off k a b s h = rw (ne_eqb 40 b (λ e. h (sym e))) (if_same (eqb k a) none)

pair_end : (k a : ℕ) → after (k ∷ 40 ∷ []) (a ∷ []) ≡ none
unfolding after
pair_end k a = if_same (eqb k a) none

letters_off : (p : Parser Ty) (s : Bytes) → ((k : ℕ) → after (k ∷ 40 ∷ []) s ≡ none) → collections p s ≡ none
unfolding collections collection_type behind ◌or◌ bytes on_some or_else
letters_off p s h = rw (h 83, h 81, h 66, h 67)

-- and no base where one is
word_open : {A : Type 0} (k m a : ℕ) (w s : Bytes) (x : A) → eqb m 40 ≡ false → map_some {B = A × Bytes} (λ r. (x, r)) (after (k ∷ m ∷ w) (a ∷ 40 ∷ s)) ≡ none
unfolding after map_some
word_open {A} k m a w s x h = rw h (ap (map_some {B = A × Bytes} (λ (r : Bytes). (x, r))) (if_same (eqb k a) none))

hash_open : (a : ℕ) (s : Bytes) → behind "#" (mapped Class number_parser) (a ∷ 40 ∷ s) ≡ none
unfolding behind bytes after mapped on_some map_some number_parser digits plain is_digit
hash_open a s = go (eqb 35 a)
  where
    go : (t : Bool) → on_some (if t then some (40 ∷ s) else none) (mapped Class number_parser) ≡ none
    go true = refl
    go false = refl

base_open : (a : ℕ) (s : Bytes) → base (a ∷ 40 ∷ s) ≡ none
unfolding base literal ◌or◌ or_else bytes
base_open a s = rw (word_open 86 111 a (105 ∷ 100 ∷ []) s void refl, word_open 66 111 a (111 ∷ 108 ∷ []) s Boolean refl, word_open 73 110 a (116 ∷ []) s Integer refl, word_open 82 101 a (97 ∷ 108 ∷ []) s Real refl, word_open 65 110 a (121 ∷ []) s Any refl, hash_open a s)

-- one letter, before d brackets: its members stand before one more
member_closed : (l : Letter) (d : ℕ) (o : Option (Ty × Bytes)) → on_some (on_some o (λ x. literal ")" (around l x.0) x.1)) (closed d) ≡ map_some (around l) (on_some o (closed (suc d)))
unfolding on_some map_some literal bytes after closed closes
member_closed l d none = refl
member_closed l d (some (t, [])) = refl
member_closed l d (some (t, b ∷ s)) = go (eqb 41 b) refl
  where
    go : (x : Bool) → eqb 41 b ≡ x → on_some (map_some (λ (r : Bytes). (around l t, r)) (if eqb 41 b then some s else none)) (closed d) ≡ map_some (around l) (if eqb b 41 && closes d s then some t else none)
    go true e = let q : b ≡ 41 = sym (eqb-true 41 b e) in rw q (by (closes d s))
      where
        by : (y : Bool) → (if y then some (around l t) else none) ≡ map_some (around l) (if y then some t else none)
        by true = refl
        by false = refl
    go false e = rw (e, ne_eqb b 41 (λ z. eqb-false 41 b e (sym z)))

module _ (p : Parser Ty) (d a : ℕ) (s : Bytes) where
  letter_read : (l : Letter) → on_some (or_else (on_some (p s) (λ x. literal ")" (around l x.0) x.1)) none) (closed d) ≡ map_some (around l) (on_some (p s) (closed (suc d)))
  letter_read l = ap (λ (o : Option (Ty × Bytes)). on_some o (closed d)) (or_else_none (on_some (p s) (λ x. literal ")" (around l x.0) x.1))) ∙ member_closed l d (p s)

  letters_on : on_some (collections p (a ∷ 40 ∷ s)) (closed d) ≡ lettered a (on_some (p s) (closed (suc d)))
  unfolding collections collection_type behind bytes after on_some ◌or◌ ◌then◌ or_else lettered byte_code letter_of
  letters_on = by (ℕ_discrete a 83) (ℕ_discrete a 81) (ℕ_discrete a 66) (ℕ_discrete a 67)
    where
      by : Dec (a ≡ 83) → Dec (a ≡ 81) → Dec (a ≡ 66) → Dec (a ≡ 67) → on_some (collections p (a ∷ 40 ∷ s)) (closed d) ≡ lettered a (on_some (p s) (closed (suc d)))
      by (yes e) q b c = rw e (letter_read (exactly set))
      by (no h) (yes e) b c = rw e (letter_read (exactly sequence))
      by (no h) (no k) (yes e) c = rw e (letter_read (exactly bag))
      by (no h) (no k) (no l) (yes e) = rw e (member_closed collection d (p s))
      by (no h) (no k) (no l) (no m) = rw (ne_eqb 83 a (λ e. h (sym e)), ne_eqb 81 a (λ e. k (sym e)), ne_eqb 66 a (λ e. l (sym e)), ne_eqb 67 a (λ e. m (sym e)), ne_eqb a 83 h, ne_eqb a 81 k, ne_eqb a 66 l, ne_eqb a 67 m)

-- ---- the bases

word_read : {A : Type 0} (x : A) (w : Bytes) (d : ℕ) (s : Bytes) → on_some (or_else (map_some {B = A × Bytes} (λ r. (x, r)) (after w s)) none) (closed d) ≡ (if spells w d s then some x else none)
word_read {A} x w d s = ap (λ (o : Option (A × Bytes)). on_some o (closed d)) (or_else_none (map_some {B = A × Bytes} (λ r. (x, r)) (after w s))) ∙ literal_closed x w d s

-- the first byte tells which base can stand there
pub base_law : (d : ℕ) (s : Bytes) → base_before d s ≡ (if spells (bytes "Void") d s then some void else if spells (bytes "Bool") d s then some Boolean else if spells (bytes "Int") d s then some Integer else if spells (bytes "Real") d s then some Real else if spells (bytes "Any") d s then some Any else hash_before d s)
unfolding base_before base literal behind bytes after on_some map_some ◌or◌ or_else spells hash_before
base_law d [] = refl
base_law d (b ∷ s) = by (ℕ_discrete b 86) (ℕ_discrete b 66) (ℕ_discrete b 73) (ℕ_discrete b 82) (ℕ_discrete b 65)
  where
    by : Dec (b ≡ 86) → Dec (b ≡ 66) → Dec (b ≡ 73) → Dec (b ≡ 82) → Dec (b ≡ 65) → base_before d (b ∷ s) ≡ (if spells (bytes "Void") d (b ∷ s) then some void else if spells (bytes "Bool") d (b ∷ s) then some Boolean else if spells (bytes "Int") d (b ∷ s) then some Integer else if spells (bytes "Real") d (b ∷ s) then some Real else if spells (bytes "Any") d (b ∷ s) then some Any else hash_before d (b ∷ s))
    by (yes e) q i r a = rw e (word_read void (111 ∷ 105 ∷ 100 ∷ []) d s)
    by (no h) (yes e) i r a = rw e (word_read Boolean (111 ∷ 111 ∷ 108 ∷ []) d s)
    by (no h) (no k) (yes e) r a = rw e (word_read Integer (110 ∷ 116 ∷ []) d s)
    by (no h) (no k) (no l) (yes e) a = rw e (word_read Real (101 ∷ 97 ∷ 108 ∷ []) d s)
    by (no h) (no k) (no l) (no n) (yes e) = rw e (word_read Any (110 ∷ 121 ∷ []) d s)
    by (no h) (no k) (no l) (no n) (no m) = rw (ne_eqb 86 b (λ e. h (sym e)), ne_eqb 66 b (λ e. k (sym e)), ne_eqb 73 b (λ e. l (sym e)), ne_eqb 82 b (λ e. n (sym e)), ne_eqb 65 b (λ e. m (sym e)))

given_closed : {A B : Type 0} (f : A → B) (d : ℕ) (o : Option (A × Bytes)) → on_some (map_some {B = B × Bytes} (λ x. (f x.0, x.1)) o) (closed d) ≡ map_some f (on_some o (closed d))
unfolding on_some map_some closed
given_closed f d none = refl
given_closed f d (some (x, r)) = go (closes d r)
  where
    go : (t : Bool) → (if t then some (f x) else none) ≡ map_some f (if t then some x else none)
    go true = refl
    go false = refl

pub hash_none : (d : ℕ) (s : Bytes) → length s ≡ 0 → hash_before d s ≡ none
unfolding hash_before behind bytes after on_some
hash_none d [] e = refl
hash_none d (b ∷ s) e = absurd (omega arith)

pub hash_off : (d b : ℕ) (s : Bytes) → (b ≡ 35 → ⊥) → hash_before d (b ∷ s) ≡ none
unfolding hash_before behind bytes after on_some
hash_off d b s h = rw (ne_eqb 35 b (λ e. h (sym e)))

pub hash_on : (d b : ℕ) (s : Bytes) → b ≡ 35 → hash_before d (b ∷ s) ≡ map_some Class (number_before d s)
unfolding hash_before behind bytes after on_some mapped number_before
hash_on d b s e = rw e (given_closed Class d (number_parser s))

-- ---- the whole

base_nil : base [] ≡ none
unfolding base literal behind bytes after on_some map_some ◌or◌ or_else
base_nil = refl

after_nil : (k : ℕ) → after (k ∷ 40 ∷ []) [] ≡ none
unfolding after
after_nil k = refl

type_zero : (s : Bytes) → type_parser zero s ≡ none
unfolding type_parser nothing
type_zero s = refl

type_law : (n d : ℕ) (s : Bytes) → length s ≤ n → on_some (type_parser n s) (closed d) ≡ type_before d s
unfolding type_before base_before on_some or_else
type_law zero d [] h = ap (λ (o : Option (Ty × Bytes)). on_some o (closed d)) (type_zero [])
type_law zero d (b ∷ s) h = absurd (omega arith)
type_law (suc n) d [] h = ap (λ (o : Option (Ty × Bytes)). on_some o (closed d)) (type_parts n []) ∙ rw (base_nil, letters_off (type_parser n) [] after_nil)
type_law (suc n) d (a ∷ []) h = ap (λ (o : Option (Ty × Bytes)). on_some o (closed d)) (type_parts n (a ∷ [])) ∙ rw (letters_off (type_parser n) (a ∷ []) (λ k. pair_end k a), or_else_none (base (a ∷ [])))
type_law (suc n) d (a ∷ b ∷ s) h = ap (λ (o : Option (Ty × Bytes)). on_some o (closed d)) (type_parts n (a ∷ b ∷ s)) ∙ by (ℕ_discrete b 40) (type_law n (suc d) s (omega arith))
  where
    by : Dec (b ≡ 40) → on_some (type_parser n s) (closed (suc d)) ≡ type_before (suc d) s → on_some (or_else (base (a ∷ b ∷ s)) (collections (type_parser n) (a ∷ b ∷ s))) (closed d) ≡ (if eqb b 40 then lettered a (type_before (suc d) s) else on_some (base (a ∷ b ∷ s)) (closed d))
    by (yes e) ih = rw (e, base_open a s) (letters_on (type_parser n) d a s ∙ ap (lettered a) ih)
    by (no k) ih = rw (ne_eqb b 40 k, letters_off (type_parser n) (a ∷ b ∷ s) (λ m. pair_off m a b s k), or_else_none (base (a ∷ b ∷ s)))

end_closed : {A : Type 0} (o : Option (A × Bytes)) → on_some o (λ x. at_end x.0 x.1) ≡ on_some o (closed 0)
unfolding on_some at_end closed closes
end_closed none = refl
end_closed (some (x, [])) = refl
end_closed (some (x, b ∷ s)) = refl

pub read_law : (f : Bytes) → read_type f ≡ type_before 0 f
unfolding read_type whole
read_law f = end_closed (type_parser (length f) f) ∙ type_law (length f) 0 f (omega arith)

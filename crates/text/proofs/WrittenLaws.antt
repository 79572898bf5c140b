-- Laws of bytes written at a position, and of spelled Integers. Assumes nothing.
use Prim.Native.Nat.{ℕ, suc, ◌+◌, ◌-◌, ◌<◌, ◌≤◌}
use mathlib.Core.Path.{◌≡◌, refl, sym, ap, ◌∙◌}
use mathlib.Core.List.{[], ◌∷◌, ◌++◌, append_assoc, append-nil}
use native.Mathlib.Numerals.{add-one}
use native.Mathlib.Omega.{arith}
use borrow.Author.Tests.{lt-ltb, le-ltb}
use lib.Ieee.{Float}
use lib.ListN.{length, take, drop, set, length-append, length-take, length-drop, take-append-drop}
use lib.Seq.{append_snoc, set_split, take_at, drop-append-add, drop-drop}
use Rattle.sheet.specs.Text.{Bytes, spell_number, spell_integer}
use Rattle.laws.specs.Integers.{unbias}
use Rattle.floats.specs.Meanings.{Spells}
use Rattle.text.specs.Written.{Puts}
use Rattle.text.specs.WrittenReals.{PutsReal}

-- ---- bytes at a position

module _ {at r : ℕ} {w before after : Bytes} (puts : Puts at w before after r) (room : at + length w ≤ length before) where
  pub puts_length : length after ≡ length before
  puts_length = ap length puts.is ∙ simp (length-append, length-take, length-drop) (omega arith)

-- the room that is left behind it
pub puts_room : {at r : ℕ} {v a b : Bytes} (w : Bytes) → Puts at v a b r → at + length (v ++ w) ≤ length a → r + length w ≤ length b
puts_room {v} w p room = omega (arith, length-append v w, puts_length p (omega (arith, length-append v w)), p.end)

pub puts_as : {at r : ℕ} {v w a b : Bytes} → Puts at v a b r → v ≡ w → Puts at w a b r
puts_as p e = rw e at p

pub puts_nothing : (at : ℕ) (l : Bytes) → Puts at [] l l at
puts_nothing at l = record { is = sym (rw (append-nil (take at l)) (let z : at + 0 ≡ at = omega arith in rw z (take-append-drop at l))); end = omega arith }

-- one thing behind another
pub puts_then : {at r q : ℕ} {v w a b c : Bytes} → Puts at v a b r → Puts r w b c q → at + length v + length w ≤ length a → Puts at (v ++ w) a c q
puts_then {at} {r} {q} {v} {w} {a} {b} {c} p s room = record {
  is = s.is ∙ rw (p.is, front, back) (ap (λ (l : Bytes). l ++ drop (at + length v + length w) a) (append_assoc (take at a) v w) ∙ ap (λ (k : ℕ). take at a ++ (v ++ w) ++ drop k a) behind);
  end = s.end ∙ simp length-append (omega (arith, p.end));
}
  where
    long : length (take at a ++ v) ≡ r
    long = simp (length-append, length-take) (omega (arith, p.end))

    front : take r (take at a ++ v ++ drop (at + length v) a) ≡ take at a ++ v
    front = take_at (take at a ++ v) (drop (at + length v) a) r long

    back : drop (r + length w) (take at a ++ v ++ drop (at + length v) a) ≡ drop (at + length v + length w) a
    back = rw (← long) (drop-append-add (take at a ++ v) (drop (at + length v) a) (length w)) ∙ drop-drop (length w) (at + length v) a

    behind : at + length v + length w ≡ at + length (v ++ w)
    behind = simp length-append (omega arith)

pub byte_puts : (out : Bytes) (at b : ℕ) → at < length out → Puts at (b ∷ []) out (set out at b) (at + 1)
byte_puts out at b h = record { is = set_split out at b h ∙ rw (add-one at) (sym (append_snoc (take at out) b (drop (suc at) out))); end = refl }

-- the bytes of a Real's spelling
pub puts_real : {x : Float} {text : Bytes} {at r : ℕ} {a b : Bytes} → Spells x text → Puts at text a b r → PutsReal at x a b r
puts_real s p = record { is = λ y h e. puts_as p (s.is y h e) }

-- ---- Integers

module _ (p : ℕ) where
  pub spell_minus : p < 2147483648 → spell_integer (unbias p) ≡ 45 ∷ spell_number (2147483648 - p)
  unfolding unbias spell_integer
  spell_minus h = rw (lt-ltb p 2147483648 h) (ap (λ (k : ℕ). 45 ∷ spell_number k) (omega arith))

  pub spell_plus : 2147483648 ≤ p → spell_integer (unbias p) ≡ spell_number (p - 2147483648)
  unfolding unbias spell_integer
  spell_plus h = rw (le-ltb p 2147483648 h)

-- what `put_integer` asks of the calls in it, and what they give
module _ (p at : ℕ) (a : Bytes) (room : at + length (spell_integer (unbias p)) ≤ length a) where
  module _ (h : p < 2147483648) where
    pub room_minus : at < length a
    room_minus = omega (arith, ap length (spell_minus p h))

    module _ {b : Bytes} {e : ℕ} (sign : Puts at (45 ∷ []) a b e) where
      pub room_magnitude : e + length (spell_number (2147483648 - p)) ≤ length b
      room_magnitude =
          let one : at + 1 ≤ length a = omega (arith, room_minus) in
          omega (arith, ap length (spell_minus p h), puts_length sign one, sign.end)

      pub puts_minus : {c : Bytes} {r : ℕ} → Puts e (spell_number (2147483648 - p)) b c r → Puts at (spell_integer (unbias p)) a c r
      puts_minus q = rw (spell_minus p h) (puts_then sign q (omega (arith, ap length (spell_minus p h))))

  module _ (h : 2147483648 ≤ p) where
    pub room_plus : at + length (spell_number (p - 2147483648)) ≤ length a
    room_plus = omega (arith, ap length (spell_plus p h))

    pub puts_plus : {b : Bytes} {r : ℕ} → Puts at (spell_number (p - 2147483648)) a b r → Puts at (spell_integer (unbias p)) a b r
    puts_plus q = rw (spell_plus p h) q

-- Laws of a type's spelling part by part, and what its writing asks and gives. Assumes nothing.
use Prim.Native.Nat.{ℕ, zero, suc, ◌+◌, ◌^◌, ◌<◌, ◌≤◌}
use mathlib.Core.Path.{◌≡◌, refl, sym, ap, ◌∙◌}
use mathlib.Core.List.{[], ◌∷◌, ◌++◌, append_assoc, append-nil}
use native.Mathlib.Omega.{arith}
use lib.ListN.{length, length-append, length-take}
use Rattle.ocl.specs.Types.{Ty, depth}
use Rattle.sheet.specs.Text.{Bytes, bytes, spell_number}
use Rattle.sheet.specs.Spelling.{letter_byte, spell_simple, spell_type}
use Rattle.sheet.proofs.Numbers.{digits_at_most}
use Rattle.text.specs.Written.{Puts}
use Rattle.text.proofs.WrittenLaws.{puts_length, puts_room, puts_as, puts_nothing, puts_then}
use Rattle.types.specs.declared.Base.{Base}
use Rattle.types.specs.declared.Base.TheVariants as b
use Rattle.types.specs.declared.FlatType.{FlatType}
use Rattle.types.specs.Flat.{base_type, letter_of, layer, ty_of}
use Rattle.types.specs.Written.{opening, opened, letters, brackets}
use Rattle.types.proofs.Cases.{other_letter}
use Rattle.types.proofs.Members.{base_depth}

-- ---- a base

pub puts_word : {x y : Base} {at r : ℕ} {a c : Bytes} → x ≡ y → Puts at (spell_type (base_type y)) a c r → length (spell_type (base_type y)) ≤ 21
    → Puts at (spell_type (base_type x)) a c r × (r ≤ at + 21)
puts_word e p h = (rw e p, omega (arith, p.end))

-- what `put_base` asks of the calls in it for a class, and what they give
module _ {c : ℕ} (byte : c < 2 ^ 8) (at : ℕ) (a : Bytes) (room : at + 21 ≤ length a) {b' : Bytes} {e : ℕ} (sign : Puts at (35 ∷ []) a b' e) where
  class_room : at + length ((35 ∷ []) ++ spell_number c) ≤ length a
  class_room = omega (arith, length-append (35 ∷ []) (spell_number c), digits_at_most 20 c (omega arith) (omega arith))

  pub room_number : e + length (spell_number c) ≤ length b'
  room_number = puts_room (spell_number c) sign class_room

  pub puts_class : {x : Base} {z : Bytes} {r : ℕ} → x ≡ b.Class c → Puts e (spell_number c) b' z r → Puts at (spell_type (base_type x)) a z r × (r ≤ at + 21)
  unfolding spell_type spell_simple bytes
  puts_class is p =
      (rw is (puts_then sign p (omega (arith, class_room, length-append (35 ∷ []) (spell_number c)))), omega (arith, sign.end, p.end, digits_at_most 20 c (omega arith) (omega arith)))

-- ---- letters

pub letter_other : (k : ℕ) → (k ≡ 2 → ⊥) → (k ≡ 3 → ⊥) → (k ≡ 4 → ⊥) → 67 ≡ letter_byte (letter_of k)
unfolding letter_byte
letter_other k s q h = sym (ap letter_byte (other_letter k s q h))

opened_on : (k : ℕ) (w : Bytes) → (k ≡ 0 → ⊥) → opened k w ≡ opening k ++ w
unfolding opened
opened_on zero w h = absurd (h refl)
opened_on (suc k) w h = refl

opened_off : (k : ℕ) (w : Bytes) → k ≡ 0 → opened k w ≡ []
unfolding opened
opened_off zero w h = refl
opened_off (suc k) w h = absurd (omega arith)

-- one letter written, and what follows it
module _ (k : ℕ) (w : Bytes) (at : ℕ) (a : Bytes) (room : at + length (opened k w) ≤ length a) where
  opened_none : k ≡ 0 → Puts at (opened k w) a a at
  opened_none e = puts_as (puts_nothing at a) (sym (opened_off k w e))

  module _ (on : k ≡ 0 → ⊥) where
    both_room : at + length (opening k ++ w) ≤ length a
    both_room = rw (opened_on k w on) at room

    opened_room : at + 2 ≤ length a
    unfolding opening
    opened_room = omega (arith, both_room)

    module _ {b' : Bytes} {e : ℕ} (p : Puts at (opening k) a b' e) where
      opened_rest : e + length w ≤ length b'
      opened_rest = puts_room w p both_room

      opened_puts : {c : Bytes} {r : ℕ} → Puts e w b' c r → Puts at (opened k w) a c r
      opened_puts q = rw (opened_on k w on) (puts_then p q (omega (arith, both_room, length-append (opening k) w)))

-- what `put_letters` asks of the calls in it, and what they give
module _ (t : FlatType) (at : ℕ) (a : Bytes) (room : at + length (letters t) ≤ length a) where
  pub puts_none : t.outer ≡ 0 → Puts at (letters t) a a at
  unfolding letters
  puts_none = opened_none t.outer _ at a room

  module _ (o : t.outer ≡ 0 → ⊥) where
    pub room_outer : at + 2 ≤ length a
    unfolding letters
    room_outer = opened_room t.outer _ at a room o

    module _ {b' : Bytes} {e : ℕ} (outer : Puts at (opening t.outer) a b' e) where
      rest_outer : e + length (opened t.middle (opened t.inner [])) ≤ length b'
      unfolding letters
      rest_outer = opened_rest t.outer _ at a room o outer

      puts_outer : {c : Bytes} {r : ℕ} → Puts e (opened t.middle (opened t.inner [])) b' c r → Puts at (letters t) a c r
      unfolding letters
      puts_outer = opened_puts t.outer _ at a room o outer

      pub puts_one : t.middle ≡ 0 → Puts at (letters t) a b' e
      puts_one z = puts_outer (opened_none t.middle _ e b' rest_outer z)

      module _ (m : t.middle ≡ 0 → ⊥) where
        pub room_middle : e + 2 ≤ length b'
        room_middle = opened_room t.middle _ e b' rest_outer m

        module _ {c : Bytes} {q : ℕ} (middle : Puts e (opening t.middle) b' c q) where
          rest_middle : q + length (opened t.inner []) ≤ length c
          rest_middle = opened_rest t.middle _ e b' rest_outer m middle

          puts_middle : {d : Bytes} {r : ℕ} → Puts q (opened t.inner []) c d r → Puts at (letters t) a d r
          puts_middle p = puts_outer (opened_puts t.middle _ e b' rest_outer m middle p)

          pub puts_two : t.inner ≡ 0 → Puts at (letters t) a c q
          puts_two z = puts_middle (opened_none t.inner [] q c rest_middle z)

          module _ (i : t.inner ≡ 0 → ⊥) where
            pub room_inner : q + 2 ≤ length c
            room_inner = opened_room t.inner [] q c rest_middle i

            pub puts_three : {d : Bytes} {r : ℕ} → Puts q (opening t.inner) c d r → Puts at (letters t) a d r
            puts_three {d} {r} inner = puts_middle (puts_as inner (sym (opened_on t.inner [] i ∙ append-nil (opening t.inner))))

-- ---- a type: its letters, its base, closing brackets

spell_by : (o m i : ℕ) (x : Ty) → depth x ≡ 0 → spell_type (layer o x (layer m x (layer i x x))) ≡ opened o (opened m (opened i [])) ++ spell_type x ++ brackets (depth (layer o x (layer m x (layer i x x))))
unfolding layer opened opening brackets spell_type depth bytes
spell_by zero m i x e = rw e (sym (append-nil (spell_type x)))
spell_by (suc o) zero i x e = rw e
spell_by (suc o) (suc m) zero x e =
    rw e (ap (λ (w : Bytes). opening (suc o) ++ (opening (suc m) ++ w)) (append_assoc (spell_type x) (41 ∷ []) (41 ∷ [])))
spell_by (suc o) (suc m) (suc i) x e =
    rw e (ap (λ (w : Bytes). opening (suc o) ++ (opening (suc m) ++ (opening (suc i) ++ w)))
    (append_assoc (spell_type x ++ (41 ∷ [])) (41 ∷ []) (41 ∷ []) ∙ append_assoc (spell_type x) (41 ∷ []) (41 ∷ 41 ∷ [])))

spell_law : (t : FlatType) → spell_type (ty_of t) ≡ letters t ++ spell_type (base_type t.base) ++ brackets (depth (ty_of t))
unfolding letters
spell_law t = spell_by t.outer t.middle t.inner (base_type t.base) (base_depth t.base)

-- ---- lengths

opened_le : (k n : ℕ) (w : Bytes) → length w ≤ n → length (opened k w) ≤ n + 2
unfolding opened opening
opened_le zero n w h = omega arith
opened_le (suc k) n w h = omega arith

letters_le : (t : FlatType) → length (letters t) ≤ 6
unfolding letters
letters_le t = opened_le t.outer 4 _ (opened_le t.middle 2 _ (opened_le t.inner 0 [] (omega arith)))

brackets_le : (d : ℕ) → length (brackets d) ≤ 3
unfolding brackets
brackets_le d = simp length-take (omega arith)

-- what `put_type` asks of the calls in it, and what they give
module _ (t : FlatType) (at : ℕ) (a : Bytes) (room : at + 40 ≤ length a) where
  pub room_letters : at + length (letters t) ≤ length a
  room_letters = omega (arith, letters_le t)

  module _ {b' : Bytes} {e : ℕ} (front : Puts at (letters t) a b' e) where
    pub room_base : e + 21 ≤ length b'
    room_base = omega (arith, letters_le t, puts_length front room_letters, front.end)

    module _ {c : Bytes} {q : ℕ} (middle : Puts e (spell_type (base_type t.base)) b' c q) (short : q ≤ e + 21) (d : ℕ) where
      pub room_brackets : q + length (brackets d) ≤ length c
      room_brackets = omega (arith, brackets_le d, letters_le t, front.end, middle.end, puts_length front room_letters, puts_length middle (omega (arith, room_base, middle.end)))

      pub puts_type : {z : Bytes} {r : ℕ} → d ≡ depth (ty_of t) → Puts q (brackets d) c z r → Puts at (spell_type (ty_of t)) a z r
      puts_type is p =
          let two = puts_then front middle (omega (arith, letters_le t, front.end, middle.end)) in
          rw (spell_law t) (puts_then two (rw is at p) (omega (arith, letters_le t, brackets_le (depth (ty_of t)), front.end, middle.end, length-append (letters t) (spell_type (base_type t.base)))))

-- Laws of a type field: its leading letters, its base, and the limits. Assumes nothing.
use Prim.Native.Nat.{ℕ, zero, suc, ◌+◌, ◌-◌, ◌<◌, ◌≤◌, min}
use mathlib.Core.Path.{◌≡◌, refl, sym, ap, ◌∙◌}
use mathlib.Core.Bool.{Bool, true, false, ◌&&◌}
use mathlib.Core.Option.{Option, none, some}
use mathlib.Core.List.{[], ◌∷◌}
use native.Mathlib.Nat.{add-zero}
use native.Mathlib.Omega.{arith}
use native.Mathlib.Decide.{dec_lt}
use borrow.Author.Tests.{eq-eqb, ne_eqb, lt-ltb, le-ltb, le-leb, lt-leb}
use lib.Dec.{eqb, leb, ltb}
use lib.ListN.{length, get_or, take, drop, length-drop, get_or-eq_default}
use lib.Seq.{get_or-drop, drop-drop}
use Rattle.laws.specs.Choice.{on_some, map_some}
use Rattle.std.specs.Prelude.{if◌then◌else◌, Option as Optional, Some, Result, Ok, Err}
use Rattle.laws.proofs.Parts.{part_all}
use Rattle.ocl.specs.Types.{Letter, Ty, void, around, Any, Boolean, Integer, Real, Class, depth}
use Rattle.sheet.specs.Text.{Bytes, bytes}
use Rattle.sheet.specs.Lines.{a_number}
use Rattle.sheet.specs.Limits.{type_within, class_below, simple_class_below}
use Rattle.sheet.specs.Spelling.{read_type}
use Rattle.text.specs.Numbers.{cut_num}
use Rattle.types.specs.declared.FlatType.{FlatType}
use Rattle.types.specs.Flat.{letter_of, ty_of}
use Rattle.types.specs.Reading.{TypeField, bad, big, is, type_field, held, closes, spells, base_before, hash_before, number_before, byte_code, code_letter, lettered, type_before, opens_of, Opens, deeper, lettered_field, class_field}
use Rattle.types.proofs.Closing.{number_short, number_off, number_closed}
use Rattle.types.proofs.Spelled.{base_law, hash_none, hash_off, hash_on, read_law}
use Rattle.memory.specs.declared.refusals.Misread.{Misread}
use Rattle.memory.specs.declared.refusals.Misread.TheVariants.{Malformed, OverLimit}

-- ---- how many brackets lead

opens_two : (t : Bytes) → 1 < length t → get_or t 1 0 ≡ 40 → opens_of t ≡ suc (opens_of (drop 2 t))
unfolding opens_of
opens_two [] l q = absurd (omega arith)
opens_two (a ∷ []) l q = absurd (omega arith)
opens_two (a ∷ b ∷ t) l q = rw (eq-eqb _ _ q)

opens_no : (t : Bytes) → (get_or t 1 0 ≡ 40 → ⊥) → opens_of t ≡ 0
unfolding opens_of
opens_no [] q = refl
opens_no (a ∷ []) q = refl
opens_no (a ∷ b ∷ t) q = rw (ne_eqb _ _ q)

-- where a bracket leads, it is the second byte
opens_some : (t : Bytes) (d : ℕ) → 0 < opens_of t → (opens_of t ≡ suc (opens_of (drop 2 t))) × (type_before d t ≡ lettered (get_or t 0 0) (type_before (suc d) (drop 2 t)))
unfolding opens_of type_before
opens_some [] d l = absurd (omega arith)
opens_some (a ∷ []) d l = absurd (omega arith)
opens_some (a ∷ b ∷ t) d l = go (eqb b 40) l
  where
    go : (u : Bool) → 0 < (if u then suc (opens_of t) else 0) → ((if u then suc (opens_of t) else 0) ≡ suc (opens_of t)) × ((if u then lettered a (type_before (suc d) t) else base_before d (a ∷ b ∷ t)) ≡ lettered a (type_before (suc d) t))
    go true h = (refl, refl)
    go false h = absurd (omega arith)

base_nil : (d : ℕ) → none ≡ base_before d []
unfolding bytes spells
base_nil d = sym (base_law d [] ∙ hash_none d [] refl)

opens_base : (t : Bytes) (d : ℕ) → opens_of t ≡ 0 → type_before d t ≡ base_before d t
unfolding opens_of type_before
opens_base [] d q = base_nil d
opens_base (a ∷ []) d q = refl
opens_base (a ∷ b ∷ t) d q = go (eqb b 40) q
  where
    go : (u : Bool) → (if u then suc (opens_of t) else 0) ≡ 0 → (if u then lettered a (type_before (suc d) t) else base_before d (a ∷ b ∷ t)) ≡ base_before d (a ∷ b ∷ t)
    go true h = absurd (omega arith)
    go false h = refl

two_more : (s : Bytes) (k m : ℕ) → m ≡ k + 2 → drop m s ≡ drop 2 (drop k s)
two_more s k m e = rw e (sym (drop-drop 2 k s))

-- one turn of `opens`, where d brackets are passed
module _ (s : Bytes) (d : ℕ) (inv : d + opens_of (drop (d + d) s) ≡ opens_of s) where
  second : get_or (drop (d + d) s) 1 0 ≡ get_or s (d + d + 1) 0
  second = get_or-drop (d + d) s 1 0

  pub opens_stop : (get_or s (d + d + 1) 0 ≡ 40 → ⊥) → d ≡ opens_of s
  opens_stop q = omega (arith, opens_no (drop (d + d) s) (λ e. q (sym second ∙ e)))

  pub opens_end : length s ≤ d + d + 1 → d ≡ opens_of s
  opens_end l = opens_stop (λ e. absurd (let z : get_or s (d + d + 1) 0 ≡ 0 = get_or-eq_default s 0 l in omega arith))

  pub opens_more : d + d + 1 < length s → get_or s (d + d + 1) 0 ≡ 40 → (d + 1) + opens_of (drop ((d + 1) + (d + 1)) s) ≡ opens_of s
  opens_more l q =
      rw (two_more s (d + d) ((d + 1) + (d + 1)) (omega arith)) (omega (arith, opens_two (drop (d + d) s) (simp length-drop (omega arith)) (second ∙ q)))

-- after j brackets, so many are left
opens_left : (s : Bytes) (j : ℕ) → j ≤ opens_of s → j + opens_of (drop (j + j) s) ≡ opens_of s
opens_left s zero l = omega arith
opens_left s (suc j) l =
    let ih : j + opens_of (drop (j + j) s) ≡ opens_of s = opens_left s j (omega arith) in
    rw (two_more s (j + j) (suc j + suc j) (omega arith)) (omega (arith, (opens_some (drop (j + j) s) 0 (omega arith)).0))

-- ---- the limits

deep_by : (l : Letter) (t : Ty) (c : Bool) → depth t < 3 → (if c then is (around l t) else big) ≡ deeper l (if c then is t else big)
unfolding deeper
deep_by l t true h = rw (lt-ltb (depth t) 3 h)
deep_by l t false h = refl

full_by : (l : Letter) (t : Ty) (c : Bool) → 3 ≤ depth t → big ≡ deeper l (if c then is t else big)
unfolding deeper
full_by l t true h = rw (le-ltb (depth t) 3 h)
full_by l t false h = refl

deeper_held : (l : Letter) (t : Ty) → held (some (around l t)) ≡ deeper l (held (some t))
unfolding held type_within class_below depth
deeper_held l t = by (dec_lt (depth t) 3)
  where
    by : Dec (depth t < 3) → (if leb (suc (depth t)) 3 && class_below 64 t then is (around l t) else big) ≡ deeper l (if leb (depth t) 3 && class_below 64 t then is t else big)
    by (yes h) = rw (le-leb (suc (depth t)) 3 h, le-leb (depth t) 3 (omega arith)) (deep_by l t (class_below 64 t) h)
    by (no h) = rw (lt-leb (suc (depth t)) 3 (omega arith)) (full_by l t (leb (depth t) 3 && class_below 64 t) (omega arith))

pub letter_held : (k : ℕ) (o : Option Ty) → held (on_some (code_letter k) (λ l. map_some (around l) o)) ≡ lettered_field k (held o)
unfolding on_some map_some lettered_field held deeper
letter_held zero o = refl
letter_held (suc k) none = refl
letter_held (suc k) (some t) = deeper_held (letter_of (suc k)) t

-- the loop over the letters, from the inside out, where d brackets lead
module _ (s : Bytes) (d : ℕ) (to : Opens s d) where
  letter_in : (i : ℕ) → i < d → lettered_field (byte_code (get_or s (i + i) 0)) (held (type_before (suc i) (drop (suc i + suc i) s))) ≡ held (type_before i (drop (i + i) s))
  unfolding lettered
  letter_in i l =
      let t = drop (i + i) s in
      let b : get_or t 0 0 ≡ get_or s (i + i) 0 = get_or-drop (i + i) s 0 0 ∙ rw add-zero in
      rw ((opens_some t i (omega (arith, opens_left s i (omega (arith, to.is)), to.is))).1, b, two_more s (i + i) (suc i + suc i) (omega arith))
      (sym (letter_held (byte_code (get_or s (i + i) 0)) (type_before (suc i) (drop 2 t))))

  pub letter_next : (i j : ℕ) (g r : Result FlatType Misread) → i ≡ j - 1 → 0 < j → j ≤ d → type_field g ≡ held (type_before j (drop (j + j) s)) → type_field r ≡ lettered_field (byte_code (get_or s (i + i) 0)) (type_field g) → type_field r ≡ held (type_before i (drop (i + i) s))
  letter_next i j g r q z l e h = let k : j ≡ suc i = omega arith in h ∙ ap (lettered_field (byte_code (get_or s (i + i) 0))) (rw k at e) ∙ letter_in i (omega arith)

  pub letters_start : (g : Result FlatType Misread) → type_field g ≡ held (base_before d (take (length s - (d + d)) (drop (d + d) s))) → type_field g ≡ held (type_before d (drop (d + d) s))
  letters_start g e = e ∙ ap held (ap (base_before d) (part_all s (d + d)) ∙ sym (opens_base (drop (d + d) s) d (omega (arith, opens_left s d (omega (arith, to.is)), to.is))))

pub letters_end : (s : Bytes) (j : ℕ) (g : Result FlatType Misread) → j ≤ 0 → type_field g ≡ held (type_before j (drop (j + j) s)) → type_field g ≡ held (read_type s)
letters_end s j g h e = let z : j ≡ 0 = omega arith in (rw z at e) ∙ ap held (sym (read_law s))

-- ---- the bases

pub is_field : (x : Ty) (t : FlatType) {o : Option Ty} → o ≡ some x → ty_of t ≡ x → type_within x ≡ true → type_field (Ok t) ≡ held o
unfolding type_field held
is_field x t e q w = rw (e, q, w)

pub bad_field : {o : Option Ty} → o ≡ none → type_field (Err Malformed) ≡ held o
unfolding type_field held
bad_field e = rw e

first_off : (d : ℕ) (s : Bytes) → (length s ≡ 0 → ⊥) → (get_or s 0 0 ≡ 35 → ⊥) → hash_before d s ≡ none
first_off d [] l h = absurd (l refl)
first_off d (b ∷ s) l h = hash_off d b s h

first_on : (d : ℕ) (s : Bytes) → (length s ≡ 0 → ⊥) → get_or s 0 0 ≡ 35 → hash_before d s ≡ map_some Class (number_before d (drop 1 s))
first_on d [] l h = absurd (l refl)
first_on d (b ∷ s) l h = hash_on d b s h

module _ (d : ℕ) (s : Bytes) where
  pub void_base : spells (bytes "Void") d s ≡ true → base_before d s ≡ some void
  void_base e = base_law d s ∙ rw e

  module _ (v : spells (bytes "Void") d s ≡ false) where
    pub bool_base : spells (bytes "Bool") d s ≡ true → base_before d s ≡ some Boolean
    bool_base e = base_law d s ∙ rw (v, e)

    module _ (b : spells (bytes "Bool") d s ≡ false) where
      pub int_base : spells (bytes "Int") d s ≡ true → base_before d s ≡ some Integer
      int_base e = base_law d s ∙ rw (v, b, e)

      module _ (i : spells (bytes "Int") d s ≡ false) where
        pub real_base : spells (bytes "Real") d s ≡ true → base_before d s ≡ some Real
        real_base e = base_law d s ∙ rw (v, b, i, e)

        module _ (r : spells (bytes "Real") d s ≡ false) where
          pub any_base : spells (bytes "Any") d s ≡ true → base_before d s ≡ some Any
          any_base e = base_law d s ∙ rw (v, b, i, r, e)

          module _ (a : spells (bytes "Any") d s ≡ false) where
            other_base : base_before d s ≡ hash_before d s
            other_base = base_law d s ∙ rw (v, b, i, r, a)

            pub empty_base : length s ≡ 0 → base_before d s ≡ none
            empty_base e = other_base ∙ hash_none d s e

            pub no_base : (length s ≡ 0 → ⊥) → (get_or s 0 0 ≡ 35 → ⊥) → base_before d s ≡ none
            no_base l h = other_base ∙ first_off d s l h

            pub class_base : (length s ≡ 0 → ⊥) → get_or s 0 0 ≡ 35 → base_before d s ≡ map_some Class (number_before d (take (length s - 1) (drop 1 s)))
            class_base l h = other_base ∙ first_on d s l h ∙ ap (λ (u : Bytes). map_some Class (number_before d u)) (sym (part_all s 1))

-- ---- classes

pub class_held : (o : Option ℕ) → class_field (cut_num o) ≡ held (map_some Class o)
unfolding class_field cut_num held map_some type_within class_below simple_class_below depth
class_held none = refl
class_held (some m) = by (dec_lt m 64)
  where
    by : Dec (m < 64) → (if ltb (min m 1000000) 64 then is (Class (min m 1000000)) else big) ≡ (if leb 0 3 && ltb m 64 then is (Class m) else big)
    by (yes h) = let q : min m 1000000 ≡ m = omega arith in rw (q, lt-ltb m 64 h)
    by (no h) = rw (le-ltb (min m 1000000) 64 (omega arith), le-ltb m 64 (omega arith))

module _ (d : ℕ) (s : Bytes) where
  pub class_short : length s < d → type_field (Err Malformed) ≡ held (map_some Class (number_before d s))
  unfolding map_some
  class_short h = bad_field (ap (map_some Class) (number_short d s h))

  pub class_off : false ≡ closes d (take (length s - (length s - d)) (drop (length s - d) s)) → type_field (Err Malformed) ≡ held (map_some Class (number_before d s))
  unfolding map_some
  class_off e = bad_field (ap (map_some Class) (number_off d s (sym (ap (closes d) (part_all s (length s - d))) ∙ sym e)))

  pub class_on : {m : Optional ℕ} (r : Result FlatType Misread) → true ≡ closes d (take (length s - (length s - d)) (drop (length s - d) s)) → m ≡ cut_num (a_number (take (length s - d) s)) → type_field r ≡ class_field m → type_field r ≡ held (map_some Class (number_before d s))
  unfolding a_number
  class_on r e q h = h ∙ ap class_field q ∙ class_held _ ∙ ap (λ (o : Option ℕ). held (map_some Class o)) (sym (number_closed d (length s - d) s (sym (ap (closes d) (part_all s (length s - d))) ∙ sym e)))

pub small_class : (m : Optional ℕ) (c : ℕ) (t : FlatType) → m ≡ Some c → c < 64 → ty_of t ≡ Class c → type_field (Ok t) ≡ class_field m
unfolding type_field class_field
small_class m c t e h q = rw (e, lt-ltb c 64 h, q)

pub big_class : (m : Optional ℕ) (c : ℕ) → m ≡ Some c → 64 ≤ c → type_field (Err OverLimit) ≡ class_field m
unfolding type_field class_field
big_class m c e h = rw (e, le-ltb c 64 h)

-- ---- letters as answers

pub no_letter : (b : ℕ) → (b ≡ 67 → ⊥) → (b ≡ 83 → ⊥) → (b ≡ 81 → ⊥) → (b ≡ 66 → ⊥) → 0 ≡ byte_code b
unfolding byte_code
no_letter b h k l m = rw (ne_eqb b 67 h, ne_eqb b 83 k, ne_eqb b 81 l, ne_eqb b 66 m)

field_none : (x : TypeField) → bad ≡ lettered_field 0 x
unfolding lettered_field
field_none x = refl

field_on : (k : ℕ) (x : TypeField) → (k ≡ 0 → ⊥) → lettered_field k x ≡ deeper (letter_of k) x
unfolding lettered_field
field_on zero x h = absurd (h refl)
field_on (suc k) x h = refl

pub deeper_wrap : (k : ℕ) (t r : FlatType) → 0 < k → depth (ty_of t) < 3 → ty_of r ≡ around (letter_of k) (ty_of t) → type_field (Ok r) ≡ lettered_field k (is (ty_of t))
unfolding type_field deeper
deeper_wrap k t r z h e = sym (field_on k (is (ty_of t)) (λ q. omega arith) ∙ rw (lt-ltb (depth (ty_of t)) 3 h, e))

pub deeper_full : (k : ℕ) (t : FlatType) → 0 < k → 3 ≤ depth (ty_of t) → type_field (Err OverLimit) ≡ lettered_field k (is (ty_of t))
unfolding type_field deeper
deeper_full k t z h = sym (field_on k (is (ty_of t)) (λ q. omega arith) ∙ rw (le-ltb (depth (ty_of t)) 3 h))

module _ (b k : ℕ) (x : Result FlatType Misread) (at : k ≡ byte_code b) where
  pub lettered_none : k ≡ 0 → type_field (Err Malformed) ≡ lettered_field (byte_code b) (type_field x)
  unfolding type_field
  lettered_none z = field_none (type_field x) ∙ ap (λ (m : ℕ). lettered_field m (type_field x)) (sym z ∙ at)

  module _ (on : k ≡ 0 → ⊥) where
    pub lettered_misread : {m : Misread} → x ≡ Err m → type_field (Err m) ≡ lettered_field (byte_code b) (type_field x)
    unfolding type_field deeper
    lettered_misread {m = Malformed} e = sym (field_on (byte_code b) (type_field x) (λ q. on (at ∙ q)) ∙ rw e)
    lettered_misread {m = OverLimit} e = sym (field_on (byte_code b) (type_field x) (λ q. on (at ∙ q)) ∙ rw e)

    pub lettered_is : (t : FlatType) (r : Result FlatType Misread) → x ≡ Ok t → type_field r ≡ lettered_field k (is (ty_of t)) → type_field r ≡ lettered_field (byte_code b) (type_field x)
    unfolding type_field
    lettered_is t r e h = h ∙ rw (at, e)

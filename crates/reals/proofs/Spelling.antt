-- A Real that is written is read back, and nothing else is read so. Assumes nothing.
use mathlib.Core.Path.{◌≡◌, refl, sym, ap, ◌∙◌, subst}
use mathlib.Core.Bool.{Bool, true, false, ◌&&◌, true≢false}
use mathlib.Core.Option.{Option, none, some}
use mathlib.Core.List.{List, [], ◌∷◌}
use Prim.Native.Nat.{ℕ}
use lib.Dec.{T, eqb, eqb→eq}
use lib.ListN.{length}
use Rattle.std.specs.Prelude.{if◌then◌else◌}
use Rattle.laws.proofs.Tests.{and_i, and_l, and_r, test_true}
use Rattle.reals.specs.Reals.{Real, is_binary64, real, is_real, held, kept}
use Rattle.reals.specs.Bits.{bits, from_bits}
use Rattle.reals.specs.Digits.{hex_digits, hex_number}
use Rattle.reals.specs.Spelling.{spell_real, Reading, reads, refused, held_as_real, finite_real, of_digits, read_real}
use Rattle.reals.specs.Laws.{SpellingLaws}
use Rattle.reals.proofs.Bits.{bits_back, bits_below, real_bits}
use Rattle.reals.proofs.Digits.{hex_length, reads_digits, digit_laws}

-- ---- what is written is read

kept_reads : (r : Real) → T (kept (real r)) → finite_real r ≡ reads r
unfolding kept finite_real held_as_real
kept_reads r k =
    ap (λ t. if t then held_as_real r else refused 4) (test_true (is_binary64 r) (and_l (is_binary64 r) (is_real (held r)) k))
    ∙ ap (λ t. if t then reads r else refused 3) (test_true (is_real (held r)) (and_r (is_binary64 r) (is_real (held r)) k))

written_read : (r : Real) → T (kept (real r)) → read_real (spell_real r) ≡ reads r
unfolding kept read_real spell_real of_digits
written_read r k =
    let p = and_l (is_binary64 r) (is_real (held r)) k in
    ap (λ n. if eqb n 16 then of_digits (hex_number 0 (hex_digits 16 (bits r))) else refused 3) (hex_length 16 (bits r))
    ∙ ap of_digits (reads_digits (bits r) (bits_below r p))
    ∙ ap finite_real (bits_back r p)
    ∙ kept_reads r k

-- ---- what is read is written

abbrev read : Reading → Bool
read (reads r) = true
read (refused n) = false

abbrev real_or : Real → Reading → Real
real_or r (reads q) = q
real_or r (refused n) = r

not_read : {A : Type 0} {n : ℕ} {r : Real} → refused n ≡ reads r → A
not_read e = absurd (true≢false (sym (ap read e)))

reads_kept : (q r : Real) → finite_real q ≡ reads r → T (kept (real r)) × (q ≡ r)
unfolding finite_real held_as_real kept
reads_kept q r e = go (is_binary64 q) (is_real (held q)) refl refl e
  where
    go : (a b : Bool) → is_binary64 q ≡ a → is_real (held q) ≡ b → (if a then if b then reads q else refused 3 else refused 4) ≡ reads r → T (is_binary64 r && is_real (held r)) × (q ≡ r)
    go true true i j h =
        let w : q ≡ r = ap (real_or q) h in
        (subst (λ x. T (is_binary64 x && is_real (held x))) w (and_i (is_binary64 q) (is_real (held q)) (subst T (sym i) tt) (subst T (sym j) tt)), w)
    go true false i j h = not_read h
    go false b i j h = not_read h

digits_read : (cs : List ℕ) (r : Real) (o : Option ℕ) → hex_number 0 cs ≡ o → length cs ≡ 16 → of_digits o ≡ reads r → T (kept (real r)) × ((114 ∷ cs) ≡ spell_real r)
unfolding of_digits spell_real
digits_read cs r none i l e = not_read e
digits_read cs r (some b) i l e =
    let k = reads_kept (from_bits b) r e in
    let d = digit_laws.only cs b l i in
    (k.0, ap (λ x. 114 ∷ x) (d.1 ∙ ap (hex_digits 16) (sym (real_bits b d.0) ∙ ap bits k.1)))

read_written : (s : List ℕ) (r : Real) → read_real s ≡ reads r → T (kept (real r)) × (s ≡ spell_real r)
unfolding read_real
read_written [] r e = not_read e
read_written (c ∷ cs) r e = go (eqb c 114) (eqb (length cs) 16) (eqb→eq c 114) (eqb→eq (length cs) 16) e
  where
    go : (a b : Bool) → (T a → c ≡ 114) → (T b → length cs ≡ 16) → (if a && b then of_digits (hex_number 0 cs) else refused 3) ≡ reads r → T (kept (real r)) × ((c ∷ cs) ≡ spell_real r)
    go true true i j h = let k = digits_read cs r (hex_number 0 cs) refl (j tt) h in (k.0, ap (λ x. x ∷ cs) (i tt) ∙ k.1)
    go true false i j h = not_read h
    go false b i j h = not_read h

pub spelling_laws : SpellingLaws
spelling_laws = record { back = written_read; only = read_written }

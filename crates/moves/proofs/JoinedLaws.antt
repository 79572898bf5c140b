-- Pieces one behind the other: the first of them, and each by itself. Assumes nothing.
use mathlib.Core.Path.{◌≡◌, refl, sym, ap, ◌∙◌}
use mathlib.Core.Logic.{◌≢◌}
use mathlib.Core.Bool.{Bool, true, false}
use mathlib.Core.List.{List, [], ◌++◌, append-nil, append_assoc}
use Prim.Native.Nat.{ℕ, zero, suc, ◌+◌, ◌-◌, ◌≤◌, ◌<◌}
use native.Mathlib.Omega.{arith}
use native.Mathlib.Decide.{dec_lt}
use borrow.Author.Tests.{ne_eqb}
use lib.ListN.{length, get_or, take, drop, length-append}
use lib.Seq.{take-length, take-append-le, drop-append_seam, take-take}
use Rattle.laws.proofs.Slices.{cut_part}
use Rattle.std.specs.Prelude.{if◌then◌else◌}
use Rattle.sheet.specs.Text.{Bytes}
use Rattle.moves.specs.Joined.{joined, staying, arriving, replaced, EndsAt, start_in, Rising, staying_size, Stand}
use Rattle.moves.specs.Moves.{part}

module _ (f : ℕ → Bytes) where
  pub joined_length : (n : ℕ) → length (joined f (suc n)) ≡ length (joined f n) + length (f n)
  unfolding joined
  joined_length n = length-append (joined f n) (f n)

  -- some are no more than all
  pub joined_less : (r n : ℕ) → r ≤ n → length (joined f r) ≤ length (joined f n)
  joined_less r zero h = let e : r ≡ 0 = omega arith in rw e (omega arith)
  joined_less r (suc n) h = by (dec_lt n r) (joined_less r n)
    where
      by : Dec (n < r) → (r ≤ n → length (joined f r) ≤ length (joined f n)) → length (joined f r) ≤ length (joined f (suc n))
      by (yes k) ih = let e : r ≡ suc n = omega arith in rw e (omega arith)
      by (no k) ih = omega (arith, ih (omega arith), joined_length n)

  -- the first of them are in front
  pub joined_front : (r n : ℕ) → r ≤ n → take (length (joined f r)) (joined f n) ≡ joined f r
  unfolding joined
  joined_front r zero h = let e : r ≡ 0 = omega arith in rw e refl
  joined_front r (suc n) h = by (dec_lt n r) (joined_front r n)
    where
      by : Dec (n < r) → (r ≤ n → take (length (joined f r)) (joined f n) ≡ joined f r) → take (length (joined f r)) (joined f n ++ f n) ≡ joined f r
      by (yes k) ih = let e : r ≡ suc n = omega arith in rw e (take-length (joined f n ++ f n))
      by (no k) ih = take-append-le (length (joined f r)) (joined f n) (f n) (joined_less r n (omega arith)) ∙ ih (omega arith)

-- two that are alike
pub joined_same : (f g : ℕ → Bytes) (n : ℕ) → ((r : ℕ) → r < n → f r ≡ g r) → joined f n ≡ joined g n
unfolding joined
joined_same f g zero e = refl
joined_same f g (suc n) e = rw (joined_same f g n (λ r h. e r (omega arith)), e n (omega arith))

-- what stays and what arrives make up what is then there
module _ (t : ℕ → Bool) (new old : ℕ → Bytes) where
  pub replaced_length : (n : ℕ) → length (joined (replaced t new old) n) ≡ length (joined (staying t old) n) + length (joined (arriving t new) n)
  unfolding joined
  replaced_length zero = refl
  replaced_length (suc n) =
      let a = joined_length (replaced t new old) n in
      let b = joined_length (staying t old) n in
      let c = joined_length (arriving t new) n in
      omega (arith, replaced_length n, a, b, c, by (t n))
    where
      by : (b : Bool) → length (if b then new n else old n) ≡ length (if b then [] else old n) + length (if b then new n else [])
      by true = omega arith
      by false = omega arith

  pub staying_less : (n : ℕ) → length (joined (staying t old) n) ≤ length (joined old n)
  unfolding joined
  staying_less zero = omega arith
  staying_less (suc n) = omega (arith, staying_less n, joined_length (staying t old) n, joined_length old n, by (t n))
    where
      by : (b : Bool) → length (if b then [] else old n) ≤ length (old n)
      by true = omega arith
      by false = omega arith

-- ---- pieces in words and bytes

pub start_next : (ends : List ℕ) (r : ℕ) → start_in ends (suc r) ≡ get_or ends r 0
unfolding start_in
start_next ends r = let z : suc r - 1 ≡ r = omega arith in rw (ne_eqb (suc r) 0 (λ q. omega arith), z)

module _ {ends : List ℕ} {f : ℕ → Bytes} {n : ℕ} (e : EndsAt ends f n) where
  pub start_at_lem : (r : ℕ) → r ≤ n → start_in ends r ≡ length (joined f r)
  unfolding start_in joined
  start_at_lem zero h = refl
  start_at_lem (suc r) h = start_next ends r ∙ e.at r (omega arith)

  pub size_at : (r : ℕ) → r < n → get_or ends r 0 ≡ length (joined f r) + length (f r)
  size_at r h = e.at r h ∙ joined_length f r

  pub rising : Rising ends n
  rising = record { at = λ r h. omega (arith, start_at_lem r (omega arith), size_at r h) }

  pub piece_at : (r : ℕ) → r < n → get_or ends r 0 - start_in ends r ≡ length (f r)
  piece_at r h = omega (arith, size_at r h, start_at_lem r (omega arith))

  -- piece r, if it stays
  pub staying_at : (t : ℕ → Bool) (r : ℕ) → r < n → staying_size ends t r ≡ length (staying t f r)
  unfolding staying_size
  staying_at t r h = by (t r)
    where
      by : (b : Bool) → (if b then 0 else get_or ends r 0 - start_in ends r) ≡ length (if b then [] else f r)
      by true = refl
      by false = piece_at r h

-- n pieces stand in front
module _ (f : ℕ → Bytes) (n : ℕ) (out : Bytes) (within : length (joined f n) ≤ length out) (bytes : take (length (joined f n)) out ≡ joined f n) where
  pub in_front : (r : ℕ) → r ≤ n → take (length (joined f r)) out ≡ joined f r
  in_front r h =
      sym (take-take (length (joined f r)) (length (joined f n)) out (joined_less f r n h))
      ∙ ap (take (length (joined f r))) bytes ∙ joined_front f r n h

  pub piece_in_front : (r : ℕ) → r < n → part (length (joined f r)) (length (f r)) out ≡ f r
  unfolding joined
  piece_in_front r h =
      sym (cut_part (length (joined f r)) (length (f r)) out (omega (arith, joined_less f r n (omega arith))))
      ∙ ap (λ (k : ℕ). drop (length (joined f r)) (take k out)) (sym (joined_length f r))
      ∙ ap (drop (length (joined f r))) (in_front (suc r) (omega arith))
      ∙ drop-append_seam (joined f r) (f r)

module _ {ends : List ℕ} {out : Bytes} {f : ℕ → Bytes} {n : ℕ} (s : Stand ends out f n) where
  pub stand_within : (r : ℕ) → r ≤ n → length (joined f r) ≤ length out
  stand_within r h = omega (arith, joined_less f r n h, s.within)

  pub stand_part : (r : ℕ) → r < n → part (length (joined f r)) (length (f r)) out ≡ f r
  stand_part = piece_in_front f n out s.within s.bytes

-- ---- where a piece begins

pub start_first : (ends : List ℕ) {r : ℕ} → r ≡ 0 → 0 ≡ start_in ends r
unfolding start_in
start_first ends e = rw e

pub start_later : (ends : List ℕ) {r : ℕ} {n : ℕ} → r ≢ 0 → n ≡ get_or ends (r - 1) 0 → n ≡ start_in ends r
unfolding start_in
start_later ends {r} h e = rw (ne_eqb r 0 h) e

module _ (ends : List ℕ) (t : ℕ → Bool) {r : ℕ} {b : Bool} (is : b ≡ t r) where
  pub no_size : b ≡ true → 0 ≡ staying_size ends t r
  unfolding staying_size
  no_size e = rw (sym is ∙ e)

  pub some_size : {n : ℕ} → b ≡ false → n ≡ get_or ends r 0 - start_in ends r → n ≡ staying_size ends t r
  unfolding staying_size
  some_size e p = rw (sym is ∙ e) p

-- the first piece and the others
pub joined_cons : (f : ℕ → Bytes) (n : ℕ) → joined f (suc n) ≡ f 0 ++ joined (λ (i : ℕ). f (suc i)) n
unfolding joined
joined_cons f zero = sym (append-nil (f 0))
joined_cons f (suc n) = ap (λ (b : Bytes). b ++ f (suc n)) (joined_cons f n) ∙ append_assoc (f 0) (joined (λ (i : ℕ). f (suc i)) n) (f (suc n))

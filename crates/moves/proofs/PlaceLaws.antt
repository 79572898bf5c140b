-- The ends of pieces once the new ones have arrived, and words that can be the ends of pieces. Assumes nothing.
use mathlib.Core.Path.{◌≡◌, refl, sym, ap, ◌∙◌}
use mathlib.Core.Bool.{Bool, true, false}
use mathlib.Core.List.{List}
use Prim.Native.Nat.{ℕ, zero, suc, ◌+◌, ◌-◌, ◌≤◌, ◌<◌}
use native.Mathlib.Omega.{arith}
use native.Mathlib.Decide.{dec_lt}
use native.Mathlib.Numerals.{add-one}
use borrow.Author.Tests.{lt-leb, le-leb}
use lib.Dec.{leb}
use lib.ListN.{length, get_or, take, set, length-set, length-take}
use lib.Seq.{get_or-set_same, get_or-set_other, get_or-take, length-take-le, take-add}
use Rattle.std.specs.List.Sorted.{IsNonDecreasing}
use Rattle.sheet.specs.Text.{Bytes}
use Rattle.moves.specs.Joined.{joined, staying, arriving, replaced, EndsAt, start_in, Rising, staying_size, Standing, Told, Stand, they_stand, none_stand}
use Rattle.moves.specs.Moves.{part, Places, fits, too_long}
use Rattle.moves.proofs.JoinedLaws.{joined_length, joined_less, replaced_length, start_next, start_at_lem, piece_at, staying_at, rising}

-- ---- the ends of all

-- the first r ends are put, and the last is `total`
pub record PlacedTo (ends fresh : List ℕ) (n : ℕ) (t : ℕ → Bool) (room : ℕ) (before placed : List ℕ) (r total : ℕ) : Type 0 where
  pub is : (new old : ℕ → Bytes) → EndsAt ends old n → EndsAt fresh (arriving t new) n → total ≡ length (joined (replaced t new old) r)
  pub ended : (new old : ℕ → Bytes) → EndsAt ends old n → EndsAt fresh (arriving t new) n → EndsAt placed (replaced t new old) r
  pub within : total ≤ room
  pub few : r ≤ n
  pub size : length placed ≡ length before

module _ {ends fresh : List ℕ} {n : ℕ} {t : ℕ → Bool} {room : ℕ} {before : List ℕ} where
  pub placed_none : PlacedTo ends fresh n t room before before 0 0
  unfolding joined
  placed_none = record { is = λ new old a b. refl; ended = λ new old a b. record { at = λ r l. absurd (omega arith) }; within = omega arith; few = omega arith; size = refl }

  module _ {placed : List ℕ} {r total stays arrives : ℕ} (so : PlacedTo ends fresh n t room before placed r total) (h : r < n)
      (s : stays ≡ staying_size ends t r) (a : arrives ≡ get_or fresh r 0 - start_in fresh r) where
    sum : (new old : ℕ → Bytes) → EndsAt ends old n → EndsAt fresh (arriving t new) n → total + stays + arrives ≡ length (joined (replaced t new old) (suc r))
    sum new old e f =
        omega (arith, so.is new old e f, replaced_length t new old r, replaced_length t new old (suc r), joined_length (staying t old) r, joined_length (arriving t new) r, staying_at e t r h, piece_at f r h)

    more : (new old : ℕ → Bytes) → EndsAt ends old n → EndsAt fresh (arriving t new) n → total + stays + arrives ≤ length (joined (replaced t new old) n)
    more new old e f = omega (arith, sum new old e f, joined_less (replaced t new old) (suc r) n (omega arith))

    pub long_by_old : room - total < stays → Places ends fresh n t room before placed false
    long_by_old l = record { is = λ new old e f. too_long (omega (arith, more new old e f, so.within)); size = so.size }

    pub long_by_new : stays ≤ room - total → room - total - stays < arrives → Places ends fresh n t room before placed false
    long_by_new k l = record { is = λ new old e f. too_long (omega (arith, more new old e f, so.within)); size = so.size }

    pub placed_next : n ≤ length before → stays ≤ room - total → arrives ≤ room - total - stays
        → PlacedTo ends fresh n t room before (set placed r (total + stays + arrives)) (r + 1) (total + stays + arrives)
    placed_next few k l = record {
      is = λ new old e f. rw (add-one r) (sum new old e f);
      ended = λ new old e f. record { at = λ i j. by new old e f i (dec_lt i r) (omega arith) };
      within = omega (arith, so.within);
      few = omega arith;
      size = length-set placed r (total + stays + arrives) ∙ so.size;
    }
      where
        by : (new old : ℕ → Bytes) (e : EndsAt ends old n) (f : EndsAt fresh (arriving t new) n) (i : ℕ) → Dec (i < r) → i ≤ r
            → get_or (set placed r (total + stays + arrives)) i 0 ≡ length (joined (replaced t new old) (suc i))
        by new old e f i (yes z) q = get_or-set_other placed r i (total + stays + arrives) 0 (λ w. omega arith) ∙ (so.ended new old e f).at i z
        by new old e f i (no z) q =
            let w : i ≡ r = omega arith in
            rw w (get_or-set_same placed r (total + stays + arrives) 0 (omega (arith, so.size)) ∙ sum new old e f)

  pub placed_all : {placed : List ℕ} {r total : ℕ} → PlacedTo ends fresh n t room before placed r total → n ≤ r → Places ends fresh n t room before placed true
  placed_all {placed} {r} {total} so h =
      let z : r ≡ n = omega (arith, so.few) in
      record {
        is = λ new old e f. fits (omega (arith, rw z at (so.is new old e f), so.within)) (rw z at (so.ended new old e f));
        size = so.size;
      }

-- ---- words that can be ends

module _ {ends : List ℕ} {n : ℕ} (room : n ≤ length ends) where
  pub rises : IsNonDecreasing (take n ends) → Rising ends n
  unfolding start_in
  rises s = record { at = by }
    where
      by : (r : ℕ) → r < n → start_in ends r ≤ get_or ends r 0
      by zero h = omega arith
      by (suc r) h =
          omega (arith, s r (suc r) 0 (omega arith) (omega (arith, length-take-le n ends room)), start_next ends r, get_or-take n ends r 0 (omega arith), get_or-take n ends (suc r) 0 h)

  -- a word that is below the one in front of it
  pub falls : (out : Bytes) → (k : ℕ) × (k + 1 < length (take n ends)) × ((d : ℕ) → get_or (take n ends) (k + 1) d < get_or (take n ends) k d) → Told ends out n false
  falls out w = none_stand (λ f s. by w.0 (omega (arith, length-take-le n ends room, w.1)) (w.2 0) f s)
    where
      by : (k : ℕ) → k + 1 < n → get_or (take n ends) (k + 1) 0 < get_or (take n ends) k 0 → (f : ℕ → Bytes) → Stand ends out f n → ⊥
      by k h l f s =
          let e = add-one k in
          omega (arith, (rising s.ended).at (suc k) (omega arith), start_next ends k, get_or-take n ends k 0 (omega arith), get_or-take n ends (suc k) 0 (omega arith), rw e at l)

module _ {ends : List ℕ} {n : ℕ} where
  -- the pieces are what stands between the ends
  module _ (out : Bytes) (rises : Rising ends n) (within : start_in ends n ≤ length out) where
    abbrev piece : ℕ → Bytes
    piece r = part (start_in ends r) (get_or ends r 0 - start_in ends r) out

    start_up : (r m : ℕ) → r ≤ m → m ≤ n → start_in ends r ≤ start_in ends m
    start_up r zero h l = let z : r ≡ 0 = omega arith in rw z (omega arith)
    start_up r (suc m) h l = by (dec_lt m r) (start_up r m)
      where
        by : Dec (m < r) → (r ≤ m → m ≤ n → start_in ends r ≤ start_in ends m) → start_in ends r ≤ start_in ends (suc m)
        by (yes z) ih = let w : r ≡ suc m = omega arith in rw w (omega arith)
        by (no z) ih = omega (arith, ih (omega arith) (omega arith), rises.at m (omega arith), start_next ends m)

    all : (r : ℕ) → r ≤ n → joined piece r ≡ take (start_in ends r) out
    unfolding joined start_in
    all zero h = refl
    all (suc r) h =
        let z : start_in ends (suc r) ≡ start_in ends r + (get_or ends r 0 - start_in ends r) = omega (arith, start_next ends r, rises.at r (omega arith)) in
        rw (all r (omega arith)) (sym (ap (λ (k : ℕ). take k out) z ∙ take-add (start_in ends r) (get_or ends r 0 - start_in ends r) out))

    long : (r : ℕ) → r ≤ n → length (joined piece r) ≡ start_in ends r
    long r h = ap length (all r h) ∙ simp length-take (omega (arith, start_up r n h (omega arith)))

    pub pieces_stand : Standing ends out n
    pieces_stand = record {
      pieces = piece;
      stand = record {
        ended = record { at = λ r h. sym (long (suc r) (omega arith) ∙ start_next ends r) };
        within = omega (arith, long n (omega arith));
        bytes = rw (long n (omega arith)) (sym (all n (omega arith)));
      };
    }

  pub told_end : Rising ends n → (out : Bytes) {size : ℕ} → size ≡ start_in ends n → Told ends out n (leb size (length out))
  told_end rises out {size} e = by (dec_lt (length out) size)
    where
      by : Dec (length out < size) → Told ends out n (leb size (length out))
      by (yes k) = rw (lt-leb size (length out) k) (none_stand (λ f s. omega (arith, start_at_lem s.ended n (omega arith), s.within)))
      by (no k) = rw (le-leb size (length out) (omega arith)) (they_stand (pieces_stand out rises (omega arith)))

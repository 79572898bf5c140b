-- Pieces that were gathered in front, moved to where they belong from the last one on, and the new ones put between them. Assumes nothing.
use mathlib.Core.Path.{◌≡◌, sym, ap, ◌∙◌}
use mathlib.Core.Bool.{Bool}
use mathlib.Core.List.{◌++◌, append_assoc}
use Prim.Native.Nat.{ℕ, suc, ◌+◌, ◌-◌, ◌≤◌, ◌<◌}
use native.Mathlib.Omega.{arith}
use lib.ListN.{length, take, drop, length-append, length-take, length-drop, take-append-drop}
use lib.Seq.{take-append-le, take-append_seam, drop-append_seam, drop-append-add, drop-drop, take-take, drop_at, length-take-le}
use Rattle.sheet.specs.Text.{Bytes}
use Rattle.text.specs.Written.{put_bytes}
use Rattle.moves.specs.Joined.{joined, staying, replaced}
use Rattle.moves.proofs.JoinedLaws.{joined_length, joined_less, joined_front, in_front, replaced_length}

-- ---- bytes in front

-- bytes put in front of others, seen from a place behind them
pub drop_behind : (w out : Bytes) (k : ℕ) → length w ≤ k → drop k (put_bytes 0 w out) ≡ drop k out
drop_behind w out k h =
    let e : k ≡ length w + (k - length w) = omega arith in
    let z : 0 + length w + (k - length w) ≡ k = omega arith in
    ap (λ (j : ℕ). drop j (w ++ drop (0 + length w) out)) e ∙ drop-append-add w (drop (0 + length w) out) (k - length w)
    ∙ drop-drop (k - length w) (0 + length w) out ∙ ap (λ (j : ℕ). drop j out) z

module _ (at : ℕ) (w now : Bytes) (room : at ≤ length now) where
  pub take_put : (k : ℕ) → k ≤ at → take k (put_bytes at w now) ≡ take k now
  take_put k h =
      ap (take k) (append_assoc (take at now) w (drop (at + length w) now))
      ∙ take-append-le k (take at now) (w ++ drop (at + length w) now) (omega (arith, length-take-le at now room))
      ∙ take-take k at now h

  pub drop_put : drop at (put_bytes at w now) ≡ w ++ drop (at + length w) now
  drop_put =
      ap (drop at) (append_assoc (take at now) w (drop (at + length w) now))
      ∙ drop_at (take at now) (w ++ drop (at + length w) now) at (length-take-le at now room)

-- a piece and what is behind it
pub piece_behind : (f : ℕ → Bytes) (n : ℕ) (rest : Bytes) (r : ℕ) → r < n
    → drop (length (joined f r)) (joined f n ++ rest) ≡ f r ++ drop (length (joined f (suc r))) (joined f n ++ rest)
unfolding joined
piece_behind f n rest r h =
    let whole = joined f n ++ rest in
    let k = length (joined f (suc r)) in
    let front : take k whole ≡ joined f r ++ f r = take-append-le k (joined f n) rest (joined_less f (suc r) n (omega arith)) ∙ joined_front f (suc r) n (omega arith) in
    ap (drop (length (joined f r))) (sym (take-append-drop k whole) ∙ ap (λ (l : Bytes). l ++ drop k whole) front ∙ append_assoc (joined f r) (f r) (drop k whole))
    ∙ drop-append_seam (joined f r) (f r ++ drop k whole)

-- ---- the pieces from r on are where they belong, and those before it that stay are in front; the bytes were `first`

pub record SpreadTo (t : ℕ → Bool) (new old : ℕ → Bytes) (n : ℕ) (first now : Bytes) (r : ℕ) : Type 0 where
  pub front : take (length (joined (staying t old) r)) now ≡ joined (staying t old) r
  pub back : drop (length (joined (replaced t new old) r)) now ≡ drop (length (joined (replaced t new old) r)) (put_bytes 0 (joined (replaced t new old) n) first)
  pub size : length now ≡ length first

module _ {t : ℕ → Bool} {new old : ℕ → Bytes} {n : ℕ} {first : Bytes} (fits : length (joined (replaced t new old) n) ≤ length first) where
  pub spread_none : {now : Bytes} → now ≡ put_bytes 0 (joined (staying t old) n) first → length now ≡ length first → SpreadTo t new old n first now n
  spread_none {now} e l =
      let s = joined (staying t old) n in
      let q = joined (replaced t new old) n in
      let less : length s ≤ length q = omega (arith, replaced_length t new old n) in
      record {
        front = ap (take (length s)) e ∙ take-append_seam s (drop (0 + length s) first);
        back = ap (drop (length q)) e ∙ drop_behind s first (length q) less ∙ sym (drop_behind q first (length q) (omega arith));
        size = l;
      }

  module _ {now : Bytes} {r : ℕ} (so : SpreadTo t new old n first now (suc r)) (h : r < n) where
    up : length (joined (replaced t new old) (suc r)) ≤ length now
    up = omega (arith, joined_less (replaced t new old) (suc r) n (omega arith), so.size)

    staying_up : length (joined (staying t old) (suc r)) ≤ length now
    staying_up = omega (arith, up, replaced_length t new old (suc r))

    -- a piece that stays is found where it was gathered
    pub spread_next : {after : Bytes} → after ≡ put_bytes (length (joined (replaced t new old) r)) (replaced t new old r) now → SpreadTo t new old n first after r
    spread_next {after} e =
        let f = replaced t new old in
        let at = length (joined f r) in
        let room : at ≤ length now = omega (arith, up, joined_less f r (suc r) (omega arith)) in
        let less : length (joined (staying t old) r) ≤ at = omega (arith, replaced_length t new old r) in
        let z = joined_length f r in
        record {
          front = ap (take (length (joined (staying t old) r))) e ∙ take_put at (f r) now room (length (joined (staying t old) r)) less
              ∙ in_front (staying t old) (suc r) now staying_up so.front r (omega arith);
          back = ap (drop at) e ∙ drop_put at (f r) now room ∙ ap (λ (k : ℕ). f r ++ drop k now) (sym z) ∙ ap (λ (l : Bytes). f r ++ l) so.back
              ∙ sym (piece_behind f n (drop (0 + length (joined f n)) first) r h);
          size = ap length e ∙ simp (length-append, length-take, length-drop) (omega (arith, up, z, so.size));
        }

  pub spread_all : {now : Bytes} → SpreadTo t new old n first now 0 → now ≡ put_bytes 0 (joined (replaced t new old) n) first
  unfolding joined
  spread_all so = so.back

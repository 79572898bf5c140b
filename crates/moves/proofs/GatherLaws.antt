-- The pieces that stay, gathered one after the other. Assumes nothing.
use mathlib.Core.Path.{◌≡◌, refl, ap, ◌∙◌}
use mathlib.Core.Bool.{Bool, true, false}
use mathlib.Core.List.{List, [], ◌++◌}
use Prim.Native.Nat.{ℕ, suc, ◌+◌, ◌-◌, ◌≤◌, ◌<◌}
use native.Mathlib.Omega.{arith}
use native.Mathlib.Nat.{zero-add}
use native.Mathlib.Numerals.{add-one}
use lib.ListN.{length, get_or, take, drop}
use lib.Seq.{drop-drop, drop-append-add}
use Rattle.std.specs.Prelude.{if◌then◌else◌}
use Rattle.sheet.specs.Text.{Bytes}
use Rattle.text.specs.Written.{put_bytes, Puts}
use Rattle.text.proofs.WrittenLaws.{puts_nothing, puts_then}
use Rattle.moves.specs.Joined.{joined, staying, start_in, staying_size, Stand, Standing}
use Rattle.moves.specs.Moves.{part, Gathers}
use Rattle.moves.proofs.JoinedLaws.{joined_length, staying_less, start_at_lem, rising, staying_at, stand_part, stand_within}

-- those of the first r pieces that stay, up to `at`
pub record GatheredTo (ends : List ℕ) (n : ℕ) (t : ℕ → Bool) (before now : Bytes) (r at : ℕ) : Type 0 where
  pub is : (f : ℕ → Bytes) → Stand ends before f n → Puts 0 (joined (staying t f) r) before now at
  pub size : length now ≡ length before
  pub within : r ≤ n

pub starts_below : {ends : List ℕ} {n : ℕ} {out : Bytes} (r : ℕ) → Standing ends out n → r < n → start_in ends r ≤ get_or ends r 0
starts_below r k h = (rising k.stand.ended).at r h

module _ {ends : List ℕ} {n : ℕ} {t : ℕ → Bool} where
  pub gathered_none : (out : Bytes) → GatheredTo ends n t out out 0 0
  unfolding joined
  gathered_none out = record { is = λ f s. puts_nothing 0 out; size = refl; within = omega arith }

  module _ {before now : Bytes} {r at from size : ℕ} (so : GatheredTo ends n t before now r at) (h : r < n)
      (begins : from ≡ start_in ends r) (long : size ≡ staying_size ends t r) where
    module _ (f : ℕ → Bytes) (s : Stand ends before f n) where
      at-is : at ≡ length (joined (staying t f) r)
      at-is = (so.is f s).end ∙ zero-add _

      from_is : from ≡ length (joined f r)
      from_is = begins ∙ start_at_lem s.ended r (omega arith)

      size_is : size ≡ length (staying t f r)
      size_is = long ∙ staying_at s.ended t r h

      within_piece : size ≤ length (f r)
      within_piece = omega (arith, size_is, by (t r))
        where
          by : (b : Bool) → length (if b then [] else f r) ≤ length (f r)
          by true = omega arith
          by false = omega arith

      room : (at ≤ from) × (from + size ≤ length now)
      room = (
        omega (arith, at-is, from_is, staying_less t f f r),
        omega (arith, from_is, within_piece, joined_length f r, stand_within s (suc r) (omega arith), so.size),
      )

      -- the piece is where it was
      found : part from size now ≡ staying t f r
      found = ap (λ (l : Bytes). take size l) (untouched ∙ ap (λ (k : ℕ). drop k before) from_is) ∙ cut (t r) (size_is)
        where
          untouched : drop from now ≡ drop from before
          untouched =
              let w = joined (staying t f) r in
              let k : from ≡ length w + (from - length w) = omega (arith, room.0, at-is) in
              let back : 0 + length w + (from - length w) ≡ from = omega arith in
              ap (drop from) (so.is f s).is
              ∙ ap (λ (j : ℕ). drop j (w ++ drop (0 + length w) before)) k
              ∙ drop-append-add w (drop (0 + length w) before) (from - length w)
              ∙ drop-drop (from - length w) (0 + length w) before
              ∙ ap (λ (j : ℕ). drop j before) back

          cut : (b : Bool) → size ≡ length (if b then [] else f r) → take size (drop (length (joined f r)) before) ≡ (if b then [] else f r)
          cut true e = rw e
          cut false e = rw e (stand_part s r h)

    pub gather_left : Standing ends before n → at ≤ from
    gather_left k = (room k.pieces k.stand).0

    pub gather_within : Standing ends before n → from + size ≤ length now
    gather_within k = (room k.pieces k.stand).1

    pub gather_next : {after : Bytes} → Standing ends before n → after ≡ put_bytes at (part from size now) now → length after ≡ length now
        → GatheredTo ends n t before after (r + 1) (at + size)
    unfolding joined
    gather_next {after} k e same = record {
      is = λ f s. rw (add-one r) (puts f s);
      size = same ∙ so.size;
      within = omega arith;
    }
      where
        puts : (f : ℕ → Bytes) (s : Stand ends before f n) → Puts 0 (joined (staying t f) (suc r)) before after (at + size)
        puts f s = puts_then (so.is f s) (record { is = rw (found f s) at e; end = omega (arith, size_is f s) })
            (omega (arith, (room f s).0, (room f s).1, at-is f s, size_is f s, so.size))

  pub gather_end : {before now : Bytes} {r at : ℕ} → GatheredTo ends n t before now r at → n ≤ r → Gathers ends n t before now
  gather_end {r = r} so h = let e : r ≡ n = omega (arith, so.within) in record { is = λ f s. rw e at (so.is f s).is; size = so.size }

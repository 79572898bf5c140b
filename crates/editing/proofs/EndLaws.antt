-- The ends of a board's verdicts, in the board's words and as places of pieces. Assumes nothing.
use mathlib.Core.Path.{◌≡◌, refl, sym, ap, ◌∙◌}
use mathlib.Core.List.{List, [], ◌∷◌}
use Prim.Native.Nat.{ℕ, zero, suc, ◌+◌, ◌≤◌, ◌<◌}
use native.Mathlib.Omega.{arith}
use native.Mathlib.Nat.{zero-add}
use lib.ListN.{length, get_or, take, drop, length-append, length-take}
use lib.Seq.{get_or-take, ext_get_or}
use Rattle.laws.specs.Lists.{concat}
use Rattle.memory.specs.Map as memory
use Rattle.sheet.specs.Text.{Bytes}
use Rattle.board_words.specs.Layout.{ends_from}
use Rattle.board_words.proofs.Found.{ends_length}
use Rattle.moves.specs.Joined.{joined, EndsAt, Stand}
use Rattle.moves.proofs.JoinedLaws.{joined_cons}
use Rattle.renewal.specs.Renewed.{pieces}
use Rattle.renewal.proofs.RenewalLaws.{concat_joined}
use Rattle.editing.specs.Edited.{VerdictsLie}

end_at : (k : ℕ) (ls : List Bytes) (r : ℕ) → r < length ls → get_or (ends_from k ls) r 0 ≡ k + length (joined (pieces ls) (suc r))
unfolding ends_from joined
end_at k [] r h = absurd (omega arith)
end_at k (l ∷ ls) zero h = refl
end_at k (l ∷ ls) (suc r) h =
    let e = ap length (joined_cons (pieces (l ∷ ls)) (suc r)) ∙ length-append l (joined (pieces ls) (suc r)) in
    end_at (k + length l) ls r (omega arith) ∙ omega (arith, e)

-- as places of pieces they are the list of ends
pub ends_taken : {placed : List ℕ} (ls : List Bytes) {n : ℕ} → length ls ≡ n → n ≤ length placed → EndsAt placed (pieces ls) n → take n placed ≡ ends_from 0 ls
ends_taken {placed} ls {n} c h e = ext_get_or 0 (take n placed) (ends_from 0 ls) (long ∙ sym (ends_length 0 ls ∙ c)) at
  where
    long : length (take n placed) ≡ n
    long = simp length-take (omega arith)

    at : (i : ℕ) → i < length (take n placed) → get_or (take n placed) i 0 ≡ get_or (ends_from 0 ls) i 0
    at i l =
        let z : i < n = omega (arith, long) in
        get_or-take n placed i 0 z ∙ e.at i z ∙ sym (end_at 0 ls i (omega arith) ∙ zero-add _)

-- and the verdicts stand in their bytes
module _ {n : ℕ} {words : List ℕ} {out : Bytes} {ls : List Bytes} (v : VerdictsLie n words out ls) (few : n ≤ 64) where
  ended : EndsAt (take 64 (drop memory.board_ends words)) (pieces ls) n
  ended = record {
    at = λ r h.
        let z : r < length ls = omega (arith, v.count) in
        get_or-take 64 (drop memory.board_ends words) r 0 (omega arith)
        ∙ sym (get_or-take (length ls) (drop memory.board_ends words) r 0 z) ∙ ap (λ (l : List ℕ). get_or l r 0) v.ends ∙ end_at 0 ls r z ∙ zero-add _;
  }

  all : concat ls ≡ joined (pieces ls) n
  all = rw v.count at (concat_joined ls)

  pub verdicts_stand : Stand (take 64 (drop memory.board_ends words)) out (pieces ls) n
  verdicts_stand = record {
    ended = ended;
    within = omega (arith, ap length v.bytes, length-take (length (concat ls)) out, ap length all);
    bytes = rw all at v.bytes;
  }

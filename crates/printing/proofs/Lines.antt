-- A line that is written piece by piece. Assumes nothing.
use mathlib.Core.Path.{◌≡◌, sym, ap, ◌∙◌}
use mathlib.Core.List.{List, ◌++◌, append_assoc}
use Prim.Native.Nat.{ℕ, ◌-◌}
use lib.ListN.{length, take, drop}
use Rattle.std.proofs.Math.Seq.{take-length}
use Rattle.std.proofs.lemmas.List.{take-append-drop, length-drop}

-- one piece more
pub piece_more : (line front rest : List ℕ) (n : ℕ) → line ≡ front ++ rest → line ≡ (front ++ take n rest) ++ take (length rest - n) (drop n rest)
piece_more line front rest n e =
    e ∙ ap (λ l. front ++ l) (sym (take-append-drop n rest)) ∙ sym (append_assoc front (take n rest) (drop n rest))
    ∙ ap (λ l. (front ++ take n rest) ++ l) (sym (ap (λ i. take i (drop n rest)) (sym (length-drop n rest)) ∙ take-length (drop n rest)))

-- Parts of a list, cut and joined. Assumes nothing.
use mathlib.Core.Path.{◌≡◌, refl, sym, ap, ◌∙◌}
use mathlib.Core.List.{List, ◌++◌}
use Prim.Native.Nat.{ℕ, ◌+◌, ◌≤◌}
use native.Mathlib.Omega.{arith}
use lib.ListN.{length, take, drop, length-append, take-append-drop}
use lib.Seq.{slice, length-slice, drop-append-le, take-add, take-take, take_at, drop_at, drop-drop, length-take-le}

pub cut_part : (q a : ℕ) (L : List ℕ) → q ≤ length L → drop q (take (q + a) L) ≡ take a (drop q L)
cut_part q a L h = ap (drop q) (take-add q a L) ∙ drop_at (take q L) (take a (drop q L)) q (length-take-le q L h)

-- a part that is two lists, one after the other
module _ (S : List ℕ) (q end : ℕ) (A B : List ℕ) (room : end ≤ length S) (h : q ≤ end) (e : slice q end S ≡ A ++ B) where
  pub split_size : q + (length A + length B) ≡ end
  split_size = let a = sym (length-slice q end S room) ∙ ap length e ∙ length-append A B in omega arith

  pub split_left : slice q (q + length A) S ≡ A
  split_left =
      let s = split_size in
      let n = length-take-le end S room in
      let z : take (q + length A) S ≡ take (q + length A) (take end S) = sym (take-take (q + length A) end S (omega arith)) in
      ap (drop q) z ∙ cut_part q (length A) (take end S) (omega arith) ∙ ap (take (length A)) e ∙ take_at A B (length A) refl

  pub split_right : slice (q + length A) end S ≡ B
  split_right = sym (drop-drop (length A) q (take end S)) ∙ ap (drop (length A)) e ∙ drop_at A B (length A) refl

-- a list up to q is the list up to p, and the part from p to q
pub whole : (S : List ℕ) (p q : ℕ) → p ≤ q → take q S ≡ take p S ++ slice p q S
whole S p q h = sym (take-append-drop p (take q S)) ∙ ap (λ (l : List ℕ). l ++ slice p q S) (take-take p q S h)

-- a part in two
pub slice_join : (S : List ℕ) (p q r : ℕ) → p ≤ q → q ≤ r → q ≤ length S → slice p r S ≡ slice p q S ++ slice q r S
slice_join S p q r h k room =
    ap (drop p) (whole S q r k)
    ∙ drop-append-le p (take q S) (slice q r S) (let n = length-take-le q S room in omega arith)

-- two lists that are the same up to the top are the same up to any place below it
pub take_lower : (S T : List ℕ) (top q : ℕ) → q ≤ top → take top S ≡ take top T → take q S ≡ take q T
take_lower S T top q h e = sym (take-take q top S h) ∙ ap (take q) e ∙ take-take q top T h

-- and so are their parts below it
pub under_top : (S T : List ℕ) (top p q : ℕ) → q ≤ top → take top S ≡ take top T → slice p q S ≡ slice p q T
under_top S T top p q h e = ap (drop p) (take_lower S T top q h e)

-- what a list begins with, from what more of it is
pub trim : (sp k : ℕ) (A low Q : List ℕ) → length low ≡ sp → take (sp + k) A ≡ low ++ Q → take sp A ≡ low
trim sp k A low Q n e = sym (take-take sp (sp + k) A (omega arith)) ∙ ap (take sp) e ∙ take_at low Q sp n

-- Laws of the parts of a list, in the forms that code has them: `i + 1`, and `&s[a..]` as a part with an end. Assumes nothing.
use Prim.Native.Nat.{ℕ, suc, ◌+◌, ◌-◌, ◌<◌, ◌≤◌}
use mathlib.Core.Path.{◌≡◌}
use mathlib.Core.List.{List, [], ◌∷◌}
use native.Mathlib.Numerals.{add-one}
use native.Mathlib.Omega.{arith}
use lib.ListN.{length, get_or, take, drop, length-drop}
use lib.Seq.{drop-cons, take_all}

-- the rest of a list that is not at its end has a first element
pub at_next : {A : Type 0} (d : A) (s : List A) (i : ℕ) → i < length s → drop i s ≡ get_or s i d ∷ drop (i + 1) s
at_next d s i h = rw (add-one, drop-cons s i d)

-- `&s[a..]` is what is left of s after a
pub part_all : {A : Type 0} (s : List A) (a : ℕ) → take (length s - a) (drop a s) ≡ drop a s
part_all s a = take_all (length s - a) (drop a s) (simp length-drop (omega arith))

-- a part that is not empty, and one that is
pub part_next : {A : Type 0} (d : A) (s : List A) (i e : ℕ) → i < e → e ≤ length s → take (e - i) (drop i s) ≡ get_or s i d ∷ take (e - (i + 1)) (drop (i + 1) s)
part_next d s i e h l =
    let q : e - i ≡ suc (e - (i + 1)) = omega arith in
    rw (q, at_next d s i (omega arith))

pub part_none : {A : Type 0} (s : List A) (i e : ℕ) → e ≤ i → take (e - i) (drop i s) ≡ []
part_none s i e h = let z : e - i ≡ 0 = omega arith in rw z

-- Laws of the lowest line. Assumes nothing.
use mathlib.Core.Path.{◌≡◌, refl, sym, ap, ◌∙◌}
use mathlib.Core.Option.{Option, none, some}
use mathlib.Core.List.{List, [], ◌∷◌, ◌++◌}
use Prim.Native.Nat.{ℕ, ◌<◌, ◌≤◌}
use native.Mathlib.Omega.{arith}
use borrow.Author.Tests.{lt-ltb, le-ltb}
use Rattle.nodes.specs.Nodes.{word}
use Rattle.numbering.specs.Lowest.{line_of, lower, lowest_with}

-- ---- of lines

pub lower_none : (a : Option ℕ) → lower a none ≡ a
unfolding lower
lower_none none = refl
lower_none (some a) = refl

lower_assoc : (a b c : Option ℕ) → lower (lower a b) c ≡ lower a (lower b c)
unfolding lower
lower_assoc none b c = refl
lower_assoc (some a) none c = refl
lower_assoc (some a) (some b) none = refl
lower_assoc (some a) (some b) (some c) = ap some (omega arith)

pub lowest_append : (t : List ℕ) (a : Option ℕ) (xs ys : List ℕ) → lowest_with t a (xs ++ ys) ≡ lowest_with t (lowest_with t a xs) ys
unfolding lowest_with
lowest_append t a [] ys = refl
lowest_append t a (x ∷ xs) ys = lowest_append t (lower a (some (word t x 7))) xs ys

-- a line beside the lowest of some nodes
pub lowest_beside : (t : List ℕ) (a : Option ℕ) (ps : List ℕ) → lowest_with t a ps ≡ lower a (lowest_with t none ps)
unfolding lowest_with
lowest_beside t a [] = sym (lower_none a)
lowest_beside t a (p ∷ ps) =
    let b : Option ℕ = some (word t p 7) in
    lowest_beside t (lower a b) ps ∙ lower_assoc a b (lowest_with t none ps) ∙ ap (lower a) (sym (lowest_beside t b ps))
    ∙ ap (λ x. lower a (lowest_with t x ps)) (unfold lower in refl)

-- ---- of a node's line

pub line_there : (t : List ℕ) (p : ℕ) → p < 768 → line_of t p ≡ some (word t p 7)
unfolding line_of
line_there t p h = rw (lt-ltb p 768 h)

pub line_none : (t : List ℕ) (p : ℕ) → 768 ≤ p → line_of t p ≡ none
unfolding line_of
line_none t p h = rw (le-ltb p 768 h)

-- ---- of two nodes

module _ (t : List ℕ) (a b : ℕ) where
  pub lower_first : 768 ≤ b → line_of t a ≡ lower (line_of t a) (line_of t b)
  lower_first h = rw (line_none t b h) (sym (lower_none (line_of t a)))

  pub lower_second : 768 ≤ a → line_of t b ≡ lower (line_of t a) (line_of t b)
  unfolding lower
  lower_second h = rw (line_none t a h)

  module _ (h : a < 768) (k : b < 768) {x y : ℕ} (d : x ≡ word t a 7) (e : y ≡ word t b 7) where
    pub lower_right : y < x → line_of t b ≡ lower (line_of t a) (line_of t b)
    unfolding lower
    lower_right l = rw (line_there t a h, line_there t b k) (ap some (omega (arith, d, e)))

    pub lower_left : x ≤ y → line_of t a ≡ lower (line_of t a) (line_of t b)
    unfolding lower
    lower_left l = rw (line_there t a h, line_there t b k) (ap some (omega (arith, d, e)))

-- A permutation of the objects of a sheet alone, made whole: other numbers stay. Assumes nothing.
use mathlib.Core.Path.{◌≡◌, sym, ap, ◌∙◌, subst}
use Prim.Native.Nat.{ℕ, ◌<◌}
use borrow.Author.Tests.{lt-ltb}
use lib.Dec.{ltb, ltb→lt}
use Rattle.std.specs.Prelude.{if◌then◌else◌}
use Rattle.laws.proofs.Tests.{by-test, test_false}
use Rattle.profile.specs.Renumbering.{AnyPermutation}

-- f below n
unfoldable below : ℕ → (ℕ → ℕ) → ℕ → ℕ
below n f o = if ltb o n then f o else o

module _ (n : ℕ) where
  is_below : (f : ℕ → ℕ) (o : ℕ) → o < n → below n f o ≡ f o
  unfolding below
  is_below f o h = rw (lt-ltb o n h)

  inside : (f : ℕ → ℕ) → ((o : ℕ) → o < n → f o < n) → (o : ℕ) → o < n → below n f o < n
  inside f g o h = subst (λ i. i < n) (sym (is_below f o h)) (g o h)

  there_and_back : (f g : ℕ → ℕ) → ((o : ℕ) → o < n → g o < n) → ((o : ℕ) → o < n → f (g o) ≡ o) → (o : ℕ) → below n f (below n g o) ≡ o
  unfolding below
  there_and_back f g k e o =
      by-test (ltb o n) (λ t. let h = ltb→lt o n t in ap (below n f) (is_below g o h) ∙ is_below f (g o) (k o h) ∙ e o h)
      (λ t. let z = test_false (ltb o n) t in rw (z, z))

pub any_permutation : AnyPermutation
any_permutation n to back h = record {
  whole = record {
    to = below n to;
    back = below n back;
    to_back = there_and_back n to back h.back_inside h.to_back;
    back_to = there_and_back n back to h.to_inside h.back_to;
    to_inside = inside n to h.to_inside;
    back_inside = inside n back h.back_inside;
  };
  same = is_below n to;
}

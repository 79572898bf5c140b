-- Comparisons that say less, same or more, and when such a comparison is a total order.
use Rattle.std.specs.Prelude.{◌≡◌, ◌↔◌}
use Prim.Native.Nat.{Ordering}

-- what the comparison says with its two sides exchanged
unfoldable pub reverse : Ordering → Ordering
reverse Ordering.lt = Ordering.gt
reverse Ordering.eq = Ordering.eq
reverse Ordering.gt = Ordering.lt

-- any two are in order one way, and those with P one way only
pub record TotalOrder {A : Type 0} (P : A → Type 0) (order : A → A → Ordering) : Type 0 where
  -- two with P are the same in the order exactly where they are one
  pub same : (x y : A) → P x → P y → (order x y ≡ Ordering.eq) ↔ (x ≡ y)
  -- less one way is more the other way
  pub turned : (x y : A) → order y x ≡ reverse (order x y)
  -- less goes on
  pub chained : (x y z : A) → order x y ≡ Ordering.lt → order y z ≡ Ordering.lt → order x z ≡ Ordering.lt

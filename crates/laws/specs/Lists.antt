-- Lists: tests on their elements, and lists without repeats.
use Rattle.std.specs.Prelude.{Bool, true, false, ◌&&◌, ◌||◌, ◌≢◌, List, [], ◌∷◌, ◌++◌, ℕ, eqb}

-- does the test hold of each element
unfoldable pub all_of : {A : Type 0} → (A → Bool) → List A → Bool
all_of f [] = true
all_of f (x ∷ xs) = f x && all_of f xs

-- is n one of the numbers
unfoldable pub member : ℕ → List ℕ → Bool
member n [] = false
member n (m ∷ ms) = eqb n m || member n ms

-- the lists, one after the other
unfoldable pub concat : {A : Type 0} → List (List A) → List A
concat [] = []
concat (x ∷ xs) = x ++ concat xs

-- each of the elements
pub data Each {A : Type 0} (P : A → Type 0) : List A → Type 0 where
  each_nil : Each P []
  each-cons : {n : A} {ns : List A} → P n → Each P ns → Each P (n ∷ ns)

-- no number twice
pub data Distinct : List ℕ → Type 0 where
  distinct_nil : Distinct []
  distinct_cons : {n : ℕ} {ns : List ℕ} → Each (λ m. m ≢ n) ns → Distinct ns → Distinct (n ∷ ns)

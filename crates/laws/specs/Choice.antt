-- Options.
use Rattle.std.proofs.Math.Option.{Option, none, some}

-- the first of two options that is there
unfoldable pub or_else : {A : Type 0} → Option A → Option A → Option A
or_else none o = o
or_else (some x) o = some x

-- what an option's content leads to
unfoldable pub on_some : {A B : Type 0} → Option A → (A → Option B) → Option B
on_some none f = none
on_some (some x) f = f x

-- an option's content, changed
unfoldable pub map_some : {A B : Type 0} → (A → B) → Option A → Option B
map_some f none = none
map_some f (some x) = some (f x)

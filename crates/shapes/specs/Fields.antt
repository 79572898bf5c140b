-- The fields after a form's word as the code holds them. proofs/ ties them to crates/sheet's `shape_of`.
use Rattle.std.specs.Prelude.{◌≡◌, true, false, List, [], ◌∷◌, map, ℕ, ◌≤◌, length, get_or, eqb}
use Rattle.std.proofs.Math.Option.{Option, none, some}
use Rattle.std.specs.Prelude.{if◌then◌else◌}
use Rattle.sheet.specs.Text.{Bytes}
use Rattle.sheet.specs.Lines.{each, a_number}
pub use Rattle.text.specs.Numbers.{cut}
use Rattle.shapes.specs.declared.numbers.Numbers.{Numbers}

-- four numbers, 0 where there is none
abbrev pub four : List ℕ → List ℕ
four l = get_or l 0 0 ∷ get_or l 1 0 ∷ get_or l 2 0 ∷ get_or l 3 0 ∷ []

-- exactly m numbers
unfoldable pub exact : ℕ → List Bytes → Option (List ℕ)
exact m fs = if eqb (length fs) m then each a_number fs else none

pub data Read : Option (List ℕ) → Numbers → Type 0 where
  unread : {r : Numbers} → r.good ≡ false → Read none r
  read : {l : List ℕ} {r : Numbers} → r.good ≡ true → r.at ≡ four (map cut l) → Read (some l) r

pub record NumbersRead (o : Option (List ℕ)) (r : Numbers) : Type 0 where
  pub is : Read o r
  pub small : (k : ℕ) → get_or r.at k 0 ≤ 1000000
  pub size : length r.at ≡ 4

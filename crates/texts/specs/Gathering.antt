-- What is asked of the nodes of a text together, by what the code gathers of them.
use Rattle.std.specs.Prelude.{◌≡◌, Bool, true, ◌&&◌, List, ℕ, ◌+◌, ◌≤◌, min, max, length, leb}
use Rattle.laws.specs.Lists.{all_of}
use Rattle.sheet.specs.Sizes.{most_classes, most_definitions}
use Rattle.sheet.specs.Lines.{Shape}
use Rattle.sheet.specs.Sheet.{operands_of}
use Rattle.sheet.specs.Limits.{is_node, form_within}
use Rattle.sheet.specs.Refusals.{two_variables, form_known, call_below}
use Rattle.shapes.specs.declared.Parsed.{Parsed}
use Rattle.trees.specs.Calls.{calls_in}
use Rattle.emission.specs.Nodes.{HoldsNodes}
use Rattle.texts.specs.declared.gathering.Gathered.{Gathered}

-- with one node more
unfoldable pub joined : Gathered → Parsed → Gathered
joined g p = record {
  within = g.within && p.within;
  apart = g.apart && p.apart;
  classes = max g.classes p.classes;
  calls = max g.calls (min (calls_in p.words p.count) (most_definitions + 1));
}

-- each operand is a number that a node may have
unfoldable pub operands_within : Shape → Bool
operands_within x = all_of is_node (operands_of x)

-- of forms inside their limits it tells all that is asked of each
pub record Sums (xs : List Shape) (g : Gathered) : Type 0 where
  pub within : g.within ≡ all_of form_within xs
  pub apart : all_of form_within xs ≡ true → g.apart ≡ all_of two_variables xs
  pub known : all_of form_within xs ≡ true → (n : ℕ) → n ≤ most_classes → leb g.classes n ≡ all_of (form_known n) xs
  pub called : all_of form_within xs ≡ true → all_of operands_within xs ≡ true → (n : ℕ) → n ≤ most_definitions → leb g.calls n ≡ all_of (call_below n) xs

-- of the forms that the first nodes stand for
pub record Gathers (line nodes : ℕ) (w : List ℕ) (g : Gathered) : Type 0 where
  pub of : (xs : List Shape) → length xs ≡ nodes → HoldsNodes line xs w → Sums xs g

-- A node's operands in the tables: marked as used, and written into the node's words.
use Rattle.std.specs.Prelude.{◌≡◌, List, [], ◌∷◌, ℕ, ◌+◌, ◌/◌, ◌%◌, ◌≤◌, ◌<◌, min, max, get_or, set, eqb, leb, ltb, Option as Optional, Some, None}
use Rattle.std.specs.Prelude.{if◌then◌else◌}
use Rattle.memory.specs.Map as memory
use Rattle.tables.specs.Layout.{Kept}
use Rattle.trees.specs.Calls.{depth_cut}

-- ---- operands of the rule's node n, marked one after the other, after operands of which the deepest has depth d

-- a node that is no operand of node n, or the depth of the deepest operand; and the words
pub data Marking : Type 0 where
  malformed : List ℕ → Marking
  deepest : ℕ → List ℕ → Marking

-- where the depth and the use of the rule's node a stand
abbrev pub depth_at : ℕ → ℕ → ℕ
depth_at first a = memory.depths + (first + a)

unfoldable pub marking : ℕ → ℕ → ℕ → List ℕ → List ℕ → Marking
marking first n d [] w = deepest d w
marking first n d (a ∷ es) w =
    if ltb a n
    then (if eqb (get_or w (depth_at first a) 0 % 2) 1 then malformed w
    else marking first n (max d (min (get_or w (depth_at first a) 0 / 2) depth_cut)) es (set w (depth_at first a) (get_or w (depth_at first a) 0 + 1)))
    else malformed w

unfoldable pub marked : Optional ℕ → List ℕ → Marking
marked None w = malformed w
marked (Some d) w = deepest d w

-- ---- words written

-- word k of a node: an operand is counted from the rule's first node on
unfoldable pub shifted : List ℕ → ℕ → ℕ → ℕ → ℕ
shifted words count first k = if eqb k 0 then get_or words k 0 else if leb k count then first + get_or words k 0 else get_or words k 0

-- n words from `at` on are v's
pub record WroteWords (at n : ℕ) (v : ℕ → ℕ) (before after : List ℕ) : Type 0 where
  pub kept : Kept before after
  pub each : (k : ℕ) → k < n → get_or after (at + k) 0 ≡ v k
  pub low : (i : ℕ) → i < at → get_or after i 0 ≡ get_or before i 0
  pub high : (i : ℕ) → at + n ≤ i → get_or after i 0 ≡ get_or before i 0

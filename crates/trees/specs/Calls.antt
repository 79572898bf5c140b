-- A call's words: the line gives the definition's number, the tables the rest.
use Rattle.std.specs.Prelude.{Bool, ◌&&◌, List, [], ◌∷◌, ℕ, suc, ◌+◌, ◌/◌, min, get_or, eqb, ltb}
use Rattle.std.specs.Prelude.{if◌then◌else◌}
use Rattle.memory.specs.Codes as code
use Rattle.memory.specs.Map as memory
use Rattle.sheet.specs.Sizes.{most_nodes}
use Rattle.nodes.specs.Nodes.{Called}

-- words with the code of `call`, and its one operand
unfoldable pub is_call : List ℕ → ℕ → Bool
is_call words count = eqb count 1 && eqb (get_or words 0 0) code.call

-- how many definitions there must be for the one that is called
unfoldable pub calls_in : List ℕ → ℕ → ℕ
calls_in words count = if is_call words count then suc (get_or words 2 0) else 0

-- definition n in the tables
abbrev pub called_at : List ℕ → ℕ → Called
called_at w0 n = record { root = get_or w0 (memory.definition_roots + n) 0; context = get_or w0 (memory.definition_contexts + n) 0; type = get_or w0 (memory.definition_types + n) 0 }

-- a call with its definition's root, class and type in the number's place
unfoldable pub resolved_in : List ℕ → List ℕ → ℕ → List ℕ
resolved_in w0 words count =
    if is_call words count
    then code.call ∷ get_or words 1 0 ∷ get_or w0 (memory.definition_roots + get_or words 2 0) 0 ∷ get_or w0 (memory.definition_contexts + get_or words 2 0) 0 ∷ get_or w0 (memory.definition_types + get_or words 2 0) 0 ∷ 0 ∷ 0 ∷ get_or words 7 0 ∷ []
    else words

-- a depth is cut at this: no tree of 768 nodes is deeper
abbrev pub depth_cut : ℕ
depth_cut = 1000

-- the depth of the body that a call's words name, 0 where there is none
unfoldable pub body_depth : List ℕ → List ℕ → ℕ → ℕ
body_depth w1 words count =
    if is_call words count && ltb (get_or words 2 0) most_nodes then min (get_or w1 (memory.depths + get_or words 2 0) 0 / 2) depth_cut else 0

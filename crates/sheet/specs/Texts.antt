-- Document 02, F-7: what the text of an X line is held to by itself, and the node lines that it stands for.
use Rattle.std.specs.Prelude.{Bool, true, false, ◌&&◌, ◌||◌, List, [], ◌∷◌, ℕ, suc, pred, ltb}
use Rattle.std.proofs.Math.Option.{Option, none, some}
use Rattle.std.specs.Prelude.{if◌then◌else◌}
use Rattle.sheet.specs.Sizes.{most_open}
use Rattle.sheet.specs.Text.{Bytes, bytes}
use Rattle.sheet.specs.Lines.{Shape, Line, class_line, row_line, object_line, value_line, definition_line, rule_line, node_line, text_line, is}
use Rattle.sheet.specs.Grammar.Tokens.{Tokens, tokens}
use Rattle.sheet.specs.Grammar.Trees.{Tree, shapes}
use Rattle.sheet.specs.Grammar.Parser.{reading_of}

-- ---- 4, "and this 4 comes before 20": over 64 brackets and `if`s open together, in a text that is a sentence or not

-- "`(`, `{` and `if` count up"
unfoldable pub opens : Bytes → Bool
opens w = is w (bytes "(") || is w (bytes "{") || is w (bytes "if")

-- "`)`, `}` and `endif` down"
unfoldable pub closes : Bytes → Bool
closes w = is w (bytes ")") || is w (bytes "}") || is w (bytes "endif")

-- after d that are open; "never below 0"
unfoldable pub few_open : ℕ → Tokens → Bool
few_open d [] = true
few_open d (w ∷ s) =
    if opens w then ltb d most_open && few_open (suc d) s
    else if closes w then few_open (pred d) s
    else few_open d s

unfoldable pub brackets_within : Bytes → Bool
brackets_within text = few_open 0 (tokens text)

-- ---- 20, "when the text field has no reading by the grammar"

unfoldable pub is_there : {A : Type 0} → Option A → Bool
is_there none = false
is_there (some x) = true

unfoldable pub is_sentence : Bytes → Bool
is_sentence text = is_there (reading_of text)

-- a test of a text line's text; any other line passes it
unfoldable pub on_text : Line → (Bytes → Bool) → Bool
on_text (class_line n p) test = true
on_text (row_line n c name t) test = true
on_text (object_line n c) test = true
on_text (value_line o a v) test = true
on_text (definition_line n c t) test = true
on_text (rule_line n c) test = true
on_text (node_line n x) test = true
on_text (text_line x) test = test x

-- ---- "Accepted text is typed and evaluated as its node lines would be": these, from 0 on; of a text that is no sentence they are never
-- asked for

unfoldable pub nodes_in : Option Tree → List Shape
nodes_in none = []
nodes_in (some t) = shapes t 0

unfoldable pub nodes_of : Bytes → List Shape
nodes_of text = nodes_in (reading_of text)

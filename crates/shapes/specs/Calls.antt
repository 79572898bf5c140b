-- The definition that a form calls: a line gives its number.
use Rattle.std.specs.Prelude.{ℕ}
use Rattle.sheet.specs.Lines.{Shape, leaf, unary, binary, connective, is_undef, conditional, let_in, attribute, call, quantified, iterate, assemble}
use Rattle.nodes.specs.Nodes.{Called}

-- the definition that a form calls, by what g says of its number, where nothing calls definition 0
unfoldable pub called_by : (ℕ → Called) → Shape → Called
called_by g (leaf l) = g 0
called_by g (unary op a) = g 0
called_by g (binary op a b) = g 0
called_by g (connective c a b) = g 0
called_by g (is_undef a) = g 0
called_by g (conditional c a b) = g 0
called_by g (let_in i a b) = g 0
called_by g (attribute x name a) = g 0
called_by g (call a n) = g n
called_by g (quantified q i a b) = g 0
called_by g (iterate i j t a e b) = g 0
called_by g (assemble k es) = g 0

-- a line knows the number alone
abbrev pub by_number : ℕ → Called
by_number n = record { root = n; context = 0; type = 0 }

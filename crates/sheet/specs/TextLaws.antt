-- Document 02, F-7: what the text of an X line is to the sheet: its nodes in a rule, that rule's end, and that an accepted text reads, types and
-- evaluates as its node lines would. The statements; proofs/ has the proofs.
use Rattle.std.specs.Prelude.{ℕ, suc, ◌+◌, ◌≤◌, ◌<◌, ◌≡◌, ◌↔◌, List, [], ◌∷◌, ◌++◌, length, get_or, T, leb}
use Rattle.std.proofs.Math.Option.{none, some}
use Rattle.std.specs.Prelude.{if◌then◌else◌}
use Rattle.ocl.specs.Forms.{Expr, node, Form, Operands, no_operand, operand, Definition, levels}
use Rattle.sheet.specs.Sizes.{most_bytes}
use Rattle.sheet.specs.Text.{Bytes, byte, bytes, lines_of, fields_of}
use Rattle.sheet.specs.SpellingLaws.{joined}
use Rattle.sheet.specs.NodeSpelling.{node_texts}
use Rattle.sheet.specs.Lines.{Shape, node_line, text_line, line_of}
use Rattle.sheet.specs.Texts.{is_sentence, nodes_of}
use Rattle.sheet.specs.Sheet.{Current, Sheet, empty, definition_of, with_nodes, as_text, added, last_tree, with_body, most_levels, end_of}
use Rattle.sheet.specs.Reading.{accepted, read_lines, read_text}
use Rattle.sheet.specs.Calls.{Verdict, read_call, evaluate_call}
use Rattle.sheet.specs.Report.{report_call}
use Rattle.sheet.specs.Grammar.Tokens.{tokens}
use Rattle.sheet.specs.Grammar.Sentences.{Reads, whole}
use Rattle.sheet.specs.Grammar.Parser.{reading_of}
use Rattle.sheet.specs.Grammar.Trees.{One, unary, is_undef, attribute, call, Two, binary, connective, let_in, quantified, Three, conditional, iterate, Tree, leaf, one, two, three, assemble, Trees, none as no_tree, more, count, counts, shapes}

-- ---- a text's tree, with its nodes numbered

-- forms over their operands' trees and the sheet's definitions
unfoldable pub one_form : (ℕ → Definition) → One → Expr → Form
one_form g (unary op) a = Form.unary op a
one_form g is_undef a = Form.is_undef a
one_form g (attribute x name) a = Form.attribute x name a
one_form g (call n) a = Form.call (g n).context (g n).type a (g n).body

unfoldable pub two_form : Two → Expr → Expr → Form
two_form (binary op) a b = Form.binary op a b
two_form (connective c) a b = Form.connective c a b
two_form (let_in i) a b = Form.let_in i a b
two_form (quantified q i) a b = Form.quantified q i a b

unfoldable pub three_form : Three → Expr → Expr → Expr → Form
three_form conditional a b c = Form.conditional a b c
three_form (iterate i j t) a b c = Form.iterate i j t a b c

-- "numbers the nodes operands first, left to right", from n on
unfoldable mutual
  pub numbered : (ℕ → Definition) → Tree → ℕ → Expr
  numbered g (leaf l) n = node n (Form.leaf l)
  numbered g (one f a) n = node (n + count a) (one_form g f (numbered g a n))
  numbered g (two f a b) n = node (n + count a + count b) (two_form f (numbered g a n) (numbered g b (n + count a)))
  numbered g (three f a b c) n =
      node (n + count a + count b + count c) (three_form f (numbered g a n) (numbered g b (n + count a)) (numbered g c (n + count a + count b)))
  numbered g (assemble k es) n = node (n + counts es) (Form.assemble k (numbered_all g es n))

  pub numbered_all : (ℕ → Definition) → Trees → ℕ → Operands
  numbered_all g no_tree n = no_operand
  numbered_all g (more e es) n = operand (numbered g e n) (numbered_all g es (n + count e))

-- the nodes of a text, added to a rule that has none, end in the text's tree
abbrev pub BodyOfText : Type 0
BodyOfText =
    (t : Tree) (ds : List Definition) (c : Current) → c.trees ≡ []
    → last_tree (with_nodes ds c (shapes t 0)).trees ≡ some (numbered (definition_of ds) t c.first)

-- its rule ends in that tree, and badly only where it is too deep
abbrev pub EndOfText : Type 0
EndOfText =
    (t : Tree) (s : Sheet) (c : Current) → c.trees ≡ [] → c.used ≡ []
    → end_of s (as_text (with_nodes s.definitions c (shapes t 0)))
    ≡ (if leb (levels (numbered (definition_of s.definitions) t c.first)) most_levels
    then some (with_body s c.context c.result (numbered (definition_of s.definitions) t c.first)) else none)

-- "It accepts exactly that grammar's texts": a text passes 20 exactly where the grammar reads it
pub record Sentence (text : Bytes) : Type 0 where
  pub tree : Tree
  pub reads : Reads whole (tokens text) tree []

abbrev pub SentenceExact : Type 0
SentenceExact = (text : Bytes) → T (is_sentence text) ↔ Sentence text

-- "Its refusals have the `X` line as place": the X line is the line of each of its nodes
abbrev pub PlaceOfText : Type 0
PlaceOfText =
    (s : Sheet) (k : ℕ) (text : Bytes) (p : ℕ) → length s.lines ≤ p → p < length s.lines + length (nodes_of text)
    → get_or (added s k (text_line text)).lines p 0 ≡ k

-- ---- "Accepted text is typed and evaluated as its node lines would be"

-- the sheet with other line numbers
unfoldable pub with_lines : Sheet → List ℕ → Sheet
with_lines s ls = record {
  block = s.block;
  parents = s.parents;
  rows = s.rows;
  objects = s.objects;
  slots = s.slots;
  lines = ls;
  definitions = s.definitions;
  rules = s.rules;
  current = s.current;
}

-- lines of a sheet's text that are the node lines of shapes, from node n on
pub data NodeLines : ℕ → List Bytes → List Shape → Type 0 where
  no_lines : {n : ℕ} → NodeLines n [] []
  more_lines : {n : ℕ} {l : Bytes} {ls : List Bytes} {x : Shape} {xs : List Shape}
      → line_of (fields_of l) ≡ some (node_line n x) → NodeLines (suc n) ls xs → NodeLines n (l ∷ ls) (x ∷ xs)

-- the lines of two sheets, where the one has an X line and the other the node lines that it stands for
pub record InNodeLines (ls ks : List Bytes) : Type 0 where
  pub before : List Bytes
  pub line : Bytes
  pub lines : List Bytes
  pub after : List Bytes
  pub text_lines : ls ≡ before ++ (line ∷ after)
  pub node_lines : ks ≡ before ++ (lines ++ after)
  -- the X line's text
  pub field : Bytes
  pub is_text : fields_of line ≡ bytes "X" ∷ field ∷ []
  -- what it stands for
  pub tree : Tree
  pub reading : reading_of field ≡ some tree
  pub as_nodes : NodeLines 0 lines (shapes tree 0)

-- there are such node lines for every X line with a sentence: those written out
unfoldable pub in_nodes : List Bytes → Tree → List Bytes → Bytes
in_nodes before t after = joined (byte "\n") (before ++ (node_texts 0 (shapes t 0) ++ after))

abbrev pub HasNodeLines : Type 0
HasNodeLines =
    (text line field : Bytes) (before after : List Bytes) (t : Tree)
    → lines_of text ≡ before ++ (line ∷ after) → fields_of line ≡ bytes "X" ∷ field ∷ [] → reading_of field ≡ some t
    → InNodeLines (lines_of text) (lines_of (in_nodes before t after))

-- the lines read to the same sheet but for its line numbers, the byte limit set aside
pub record ReadAlike (ks : List Bytes) (s : Sheet) : Type 0 where
  pub numbers : List ℕ
  pub as_many : length numbers ≡ length s.lines
  pub reads : read_lines empty 0 ks ≡ accepted (with_lines s numbers)

abbrev pub AsNodeLines : Type 0
AsNodeLines = (ls ks : List Bytes) → InNodeLines ls ks → (s : Sheet) → read_lines empty 0 ls ≡ accepted s → ReadAlike ks s

-- a text that is read, and one with node lines in place of an X line that keeps the byte limit too
pub record Rewritten (text nodes : Bytes) : Type 0 where
  pub sheet : Sheet
  pub reads : read_text text ≡ accepted sheet
  pub in_lines : InNodeLines (lines_of text) (lines_of nodes)
  pub short : length nodes ≤ most_bytes

-- all but the place
pub record SameAnswer (v w : Verdict) : Type 0 where
  pub same_number : v.number ≡ w.number
  pub same_steps : v.steps ≡ w.steps
  pub same_output : v.output ≡ w.output

pub record TextLaws : Type 0 where
  pub sentence_exact : SentenceExact
  pub body_of_text : BodyOfText
  pub end_of_text : EndOfText
  pub place_of_text : PlaceOfText
  pub has_node_lines : HasNodeLines
  pub as_node_lines : AsNodeLines
  -- every call answers the same, with other places at most
  pub reads_alike :
      (text nodes : Bytes) → Rewritten text nodes → (w0 w1 w2 : List ℕ) (out : Bytes)
      → SameAnswer (read_call text w0 w1 w2 out) (read_call nodes w0 w1 w2 out)
  pub evaluates_alike :
      (text nodes : Bytes) → Rewritten text nodes → (r o : ℕ) (w0 w1 w2 : List ℕ) (out : Bytes)
      → SameAnswer (evaluate_call text r o w0 w1 w2 out) (evaluate_call nodes r o w0 w1 w2 out)
  pub reports_alike :
      (text nodes : Bytes) → Rewritten text nodes → (w0 w1 w2 : List ℕ) (out : Bytes)
      → SameAnswer (report_call text w0 w1 w2 out) (report_call nodes w0 w1 w2 out)

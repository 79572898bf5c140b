-- The forms of a text's trees by their codes in the node table (memory/specs/Codes.antt).
use Rattle.std.specs.Prelude.{Bool, ◌&&◌, [], ◌∷◌, ℕ, eqb, leb, ltb}
use Rattle.std.proofs.Math.Option.{Option, none}
use Rattle.laws.specs.Choice.{on_some, map_some}
use Rattle.std.specs.Prelude.{if◌then◌else◌}
use Rattle.memory.specs.Codes as code
use Rattle.ocl.specs.Forms.{cast_to}
use Rattle.sheet.specs.Grammar.Tokens.{Tokens}
use Rattle.sheet.specs.Grammar.Trees.{One, unary, is_undef, attribute, call, Two, binary, connective, let_in, quantified}
use Rattle.sheet.specs.Grammar.Words.{named, labelled, class_word, kinds}
use Rattle.sheet.specs.Grammar.Sentences.{Level, disjunction, conjunction, comparison, sum, product}
use Rattle.sheet.specs.Grammar.Parser.{after, taking, Start, instances_start, start_by, Next, plain}
use Rattle.tokens.specs.Codes.{after_code}
use Rattle.tokens.specs.Signs as sign
use Rattle.nodes.specs.Nodes.{unary_words, access_code, binary_code, connective_code, quantifier_code}

-- a form's code, and the class, attribute or definition that it holds
unfoldable pub one_words : One → ℕ × ℕ
one_words (unary op) = unary_words op
one_words is_undef = (code.is_undef, 0)
one_words (attribute x name) = (access_code x, name)
one_words (call n) = (code.call, n)

-- a form's code, and the variable that it holds
unfoldable pub two_words : Two → ℕ × ℕ
two_words (binary op) = (binary_code op, 0)
two_words (connective c) = (connective_code c, 0)
two_words (let_in i) = (code.let_in, i)
two_words (quantified q i) = (quantifier_code q, i)

-- the levels that have signs, the loosest first
unfoldable pub level_of : ℕ → Level
level_of n =
    if eqb n 0 then disjunction
    else if eqb n 1 then conjunction
    else if eqb n 2 then comparison
    else if eqb n 3 then sum
    else product

-- the number of the level that a code's sign is of, 5 where it is no two-sided sign
unfoldable pub sign_level : ℕ → ℕ
sign_level k =
    if eqb k code.or then 0
    else if eqb k code.and then 1
    else if ltb k code.equal then 5
    else if ltb k code.plus then 2
    else if ltb k code.times then 3
    else if ltb k code.includes then 4
    else if eqb k code.over then 4
    else 5

-- what stands in the brackets of a form by its word's code: 1 nothing, 2 an operand, 3 a variable and a body, 4 an attribute, 5 the
-- variables, type and operands of `iter`; 0 for what is no such form
unfoldable pub call_kind : ℕ → ℕ
call_kind k =
    if ltb k code.size_of then 0
    else if ltb k code.cast_to then 1
    else if ltb k code.includes then 0
    else if ltb k code.and then 2
    else if ltb k code.for_all then 0
    else if ltb k code.set then 3
    else if eqb k code.of_members then 4
    else if eqb k code.iterate then 5
    else 0

-- the codes of `Set`, `Sequence`, `Bag`, and of the letters of collection types
unfoldable pub is_collection : ℕ → Bool
is_collection k = leb code.set k && leb k code.bag

unfoldable pub is_letter : ℕ → Bool
is_letter k = leb sign.set_letter k && leb k sign.collection_letter

-- a number behind a letter, and then a token of code k
unfoldable pub labelled_before : ℕ → ℕ → Tokens → Option (ℕ × Tokens)
labelled_before letter k s = on_some (taking (labelled letter) s) (λ x. map_some (λ r. (x.0, r)) (after_code k x.1))

-- `(#1)`, after `oclAsType`
unfoldable pub cast_step : Tokens → Option Next
cast_step s = on_some (after "(" s) (λ r. on_some (taking class_word r) (λ x. map_some (plain (unary (cast_to x.0))) (after ")" x.1)))

-- `#1.allInstances()`
unfoldable pub class_start : Tokens → Option Start
class_start [] = none
class_start (w ∷ s) = instances_start w s

-- what starts at a token that is no leaf
unfoldable pub other_start : Tokens → Option Start
other_start [] = none
other_start (w ∷ s) = start_by none (named kinds w) w s

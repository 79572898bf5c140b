-- Document 02, F-7: a number for each word and sign of the grammar. One that stands for a form has the form's code in the node table
-- (memory/specs/Codes.antt).
use Rattle.std.proofs.Math.Option.{Option, none, some}
use Rattle.std.specs.Prelude.{[], ◌∷◌, ℕ, eqb}
use Rattle.std.specs.Prelude.{if◌then◌else◌}
use Rattle.memory.specs.Codes as code
use Rattle.sheet.specs.Text.{Bytes}
use Rattle.sheet.specs.Grammar.Tokens.{Tokens}
use Rattle.sheet.specs.Grammar.Words.{Table, named}
unfoldable pub use Rattle.text.specs.Words.{or_code}
use Rattle.tokens.specs.Signs as sign

unfoldable pub codes : Table ℕ
codes =
    ("false", code.false) ∷ ("true", code.true) ∷ ("undef", code.undef) ∷ ("self", code.self) ∷ ("allInstances", code.all)
    ∷ ("not", code.negation) ∷ ("size", code.size_of) ∷ ("asSet", code.to_set) ∷ ("asSequence", code.to_sequence)
    ∷ ("asBag", code.to_bag) ∷ ("oclAsType", code.cast_to) ∷ ("=", code.equal) ∷ ("<", code.less) ∷ ("+", code.plus)
    ∷ ("-", code.minus) ∷ ("*", code.times) ∷ ("div", code.div) ∷ ("mod", code.modulo) ∷ ("includes", code.includes)
    ∷ ("including", code.including) ∷ ("union", code.union) ∷ ("and", code.and) ∷ ("or", code.or) ∷ ("forAll", code.for_all)
    ∷ ("exists", code.exists) ∷ ("Set", code.set) ∷ ("Sequence", code.sequence) ∷ ("Bag", code.bag) ∷ ("isUndef", code.is_undef)
    ∷ ("if", code.conditional) ∷ ("let", code.let_in) ∷ ("collect", code.of_members) ∷ ("iter", code.iterate) ∷ ("/", code.over)
    ∷ ("(", sign.open_bracket) ∷ (")", sign.close_bracket) ∷ ("{", sign.open_brace) ∷ ("}", sign.close_brace) ∷ (",", sign.comma)
    ∷ (";", sign.semicolon) ∷ (":", sign.colon) ∷ ("|", sign.bar) ∷ (".", sign.dot) ∷ ("->", sign.arrow) ∷ ("in", sign.in_word)
    ∷ ("then", sign.then_word) ∷ ("else", sign.else_word) ∷ ("endif", sign.endif_word) ∷ ("Void", sign.void) ∷ ("Bool", sign.bool)
    ∷ ("Int", sign.int) ∷ ("Real", sign.real) ∷ ("Any", sign.any) ∷ ("S", sign.set_letter) ∷ ("Q", sign.sequence_letter)
    ∷ ("B", sign.bag_letter) ∷ ("C", sign.collection_letter) ∷ []

unfoldable pub code_of : Bytes → ℕ
code_of w = or_code sign.other (named codes w)

-- the code of the first token
unfoldable pub head_code : Tokens → ℕ
head_code [] = sign.end
head_code (w ∷ s) = code_of w

-- what follows a token of code k
unfoldable pub after_code : ℕ → Tokens → Option Tokens
after_code k [] = none
after_code k (w ∷ s) = if eqb (code_of w) k then some s else none

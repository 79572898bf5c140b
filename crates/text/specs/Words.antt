-- Kinds of bytes, a field's one letter, and the codes of the forms' words. proofs/WordLaws.antt ties each to crates/sheet's
-- tests of a word.
use Rattle.std.specs.Prelude.{ℕ, ◌+◌, List, [], ◌∷◌, length, take, drop, eqb}
use Rattle.std.proofs.Math.Option.{Option, none, some}
use Rattle.std.specs.Prelude.{if◌then◌else◌}
use Rattle.memory.specs.Codes as code
use Rattle.memory.specs.Lines as lines
use Rattle.sheet.specs.Text.{Bytes, byte, is_digit}
use Rattle.sheet.specs.Lines.{is, Table, named, forms}

-- the letters of lines, `D` and `X` among them (document 02, F-13 and F-7), and the digits
unfoldable pub byte_kind : ℕ → ℕ
byte_kind b =
    if is_digit b then lines.digit
    else if eqb b (byte "C") then lines.class_line
    else if eqb b (byte "A") then lines.row_line
    else if eqb b (byte "O") then lines.object_line
    else if eqb b (byte "V") then lines.value_line
    else if eqb b (byte "R") then lines.rule_line
    else if eqb b (byte "N") then lines.node_line
    else if eqb b (byte "D") then lines.definition_line
    else if eqb b (byte "X") then lines.text_line
    else lines.no_line

-- the byte of a field that has one
unfoldable pub only_byte : Bytes → ℕ
only_byte [] = 0
only_byte (b ∷ []) = b
only_byte (b ∷ c ∷ s) = 0

-- the code of w among words of its length, with a byte after each
unfoldable pub code_among : Bytes → Bytes → Bytes → ℕ
code_among w words [] = code.no_form
code_among w words (c ∷ codes) = if is w (take (length w) words) then c else code_among w (drop (length w + 1) words) codes

-- each form's code, in the order of crates/sheet's `forms`
unfoldable pub form_codes : List ℕ
form_codes =
    code.true ∷ code.false ∷ code.undef ∷ code.number ∷ code.real ∷ code.self ∷ code.var
    ∷ code.set ∷ code.let_in ∷ code.conditional
    ∷ code.and ∷ code.or ∷ code.negation ∷ code.is_undef
    ∷ code.equal ∷ code.less ∷ code.plus ∷ code.minus ∷ code.times ∷ code.div ∷ code.modulo ∷ code.over
    ∷ code.of_object ∷ code.of_members ∷ code.call
    ∷ code.all ∷ code.cast_to
    ∷ code.size_of ∷ code.includes ∷ code.to_set ∷ code.to_bag ∷ code.to_sequence ∷ code.including ∷ code.union
    ∷ code.iterate ∷ code.for_all ∷ code.exists
    ∷ []

-- the words of a table with codes in place of what they stand for
unfoldable pub coded_words : {A : Type 0} → Table A → List ℕ → Table ℕ
coded_words [] cs = []
coded_words (x ∷ t) [] = []
coded_words (x ∷ t) (c ∷ cs) = (x.0, c) ∷ coded_words t cs

unfoldable pub or_code : ℕ → Option ℕ → ℕ
or_code d none = d
or_code d (some k) = k

unfoldable pub form_code : Bytes → ℕ
form_code w = or_code code.no_form (named (coded_words forms form_codes) w)

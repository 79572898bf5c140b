-- Document 02, F-7: the code of each word and sign of the grammar that stands for no form; memory/specs/Codes.antt has those of forms.
use Rattle.std.specs.Prelude.{ℕ}

abbrev pub open_bracket : ℕ
open_bracket = 40

abbrev pub close_bracket : ℕ
close_bracket = 41

abbrev pub open_brace : ℕ
open_brace = 42

abbrev pub close_brace : ℕ
close_brace = 43

abbrev pub comma : ℕ
comma = 44

abbrev pub semicolon : ℕ
semicolon = 45

abbrev pub colon : ℕ
colon = 46

abbrev pub bar : ℕ
bar = 47

abbrev pub dot : ℕ
dot = 48

abbrev pub arrow : ℕ
arrow = 49

abbrev pub in_word : ℕ
in_word = 50

abbrev pub then_word : ℕ
then_word = 51

abbrev pub else_word : ℕ
else_word = 52

abbrev pub endif_word : ℕ
endif_word = 53

-- types
abbrev pub void : ℕ
void = 54

abbrev pub bool : ℕ
bool = 55

abbrev pub int : ℕ
int = 56

abbrev pub real : ℕ
real = 57

abbrev pub any : ℕ
any = 58

-- the letters of collections in types: `S`, `Q`, `B` and `C`
abbrev pub set_letter : ℕ
set_letter = 59

abbrev pub sequence_letter : ℕ
sequence_letter = 60

abbrev pub bag_letter : ℕ
bag_letter = 61

abbrev pub collection_letter : ℕ
collection_letter = 62

-- every other token: a number, `v1`, or what stands nowhere in the grammar; and where none is left
abbrev pub other : ℕ
other = 64

abbrev pub end : ℕ
end = 65

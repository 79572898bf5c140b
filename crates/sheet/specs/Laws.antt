-- What is proved of reading and the calls, besides demand 3 (Soundness.antt): the statements. proofs/ has the proofs.
use Rattle.std.specs.Prelude.{◌≡◌, ℕ, suc, ◌≤◌, ◌<◌, length, T, eqb, leb, Bool, ◌&&◌, ◌||◌, List, [], ◌∷◌}
use Rattle.std.proofs.Math.ListN.{get_elem?}
use Rattle.std.proofs.Math.Option.{some}
use Rattle.laws.specs.Lists.{member}
use Rattle.ocl.specs.Laws.{numbers}
use Rattle.ocl.specs.Types.{Ty}
use Rattle.ocl.specs.Forms.{Expr, Definition}
use Rattle.ocl.specs.Typing.{typed, refused, type_definition}
use Rattle.sheet.specs.Text.{Bytes, lines_of}
use Rattle.sheet.specs.Sheet.{Rule, Sheet, schema_in}
use Rattle.sheet.specs.Reading.{accepted, rejected, read_text}
use Rattle.sheet.specs.Calls.{typing_of, read_call}

-- how many of a text's parts are lines: what follows the last line feed is one only where it is not empty
unfoldable pub line_count : List Bytes → ℕ
line_count [] = 0
line_count ([] ∷ []) = 0
line_count ((b ∷ l) ∷ []) = 1
line_count (l ∷ m ∷ ls) = suc (line_count (m ∷ ls))

-- the numbers with which a line is refused
unfoldable pub listed : ℕ → Bool
listed n = leb 3 n && leb n 8 || eqb n 20 || eqb n 23 || eqb n 24

-- reading refuses with 2 and no place, or with 3 to 8, 20, 23 or 24 at a line of the text
pub data ReadRefusal (text : Bytes) (n k : ℕ) : Type 0 where
  over_length : n ≡ 2 → k ≡ 0 → ReadRefusal text n k
  at_line : T (listed n) → 1 ≤ k → k ≤ line_count (lines_of text) → ReadRefusal text n k

abbrev pub ReadRefusals : Type 0
ReadRefusals = (text : Bytes) (n k : ℕ) → read_text text ≡ rejected n k → ReadRefusal text n k

-- typing a definition or rule of a sheet that is read refuses with 9 to 13 at a node of its own, which has a line
pub record TypeRefusal (s : Sheet) (body : Expr) (n p : ℕ) : Type 0 where
  pub low : 9 ≤ n
  pub high : n ≤ 13
  pub own_node : T (member p (numbers body))
  pub on_sheet : p < length s.lines

abbrev pub TypeRefusals : Type 0
TypeRefusals =
    (text : Bytes) (s : Sheet) → read_text text ≡ accepted s → (r : ℕ) (x : Rule) → get_elem? s.rules r ≡ some x
    → (n p : ℕ) → (typing_of s x).answer ≡ refused n p → TypeRefusal s x.body n p

abbrev pub DefinitionRefusals : Type 0
DefinitionRefusals =
    (text : Bytes) (s : Sheet) → read_text text ≡ accepted s → (r : ℕ) (d : Definition) → get_elem? s.definitions r ≡ some d
    → (n p : ℕ) → (type_definition (schema_in s) d).answer ≡ refused n p → TypeRefusal s d.body n p

-- a definition of a sheet that is typed
pub record Defined (s : Sheet) (d : Definition) : Type 0 where
  pub typed_body : (type_definition (schema_in s) d).answer ≡ typed d.type

-- these rules of a sheet have these types
pub data AllTyped (s : Sheet) : List Rule → List Ty → Type 0 where
  none_typed : AllTyped s [] []
  one_typed : {x : Rule} {xs : List Rule} {t : Ty} {ts : List Ty} → (typing_of s x).answer ≡ typed t → AllTyped s xs ts → AllTyped s (x ∷ xs) (t ∷ ts)

-- what reading writes is at most 64 lines of 14 bytes, so that no output which it takes is too short
abbrev pub ReadLength : Type 0
ReadLength = (text : Bytes) (w0 w1 w2 : List ℕ) (out : Bytes) → length (read_call text w0 w1 w2 out).output ≤ 896

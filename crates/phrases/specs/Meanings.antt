-- What the code promises that looks at the next tokens of a text, by the parser's own functions on the tokens from t on
-- (crates/sheet, Grammar/Parser). Numbers are those that crates/text reads, a million at most.
use Rattle.std.specs.Prelude.{◌≡◌, Bool, true, false, ℕ, ◌<◌, Option as Optional, Some, None, Result}
use Rattle.std.proofs.Math.Option.{Option, none, some}
use Rattle.ocl.specs.Types.{Kind, Ty}
use Rattle.ocl.specs.Forms.{all}
use Rattle.sheet.specs.Text.{Bytes}
use Rattle.sheet.specs.Grammar.Tokens.{Tokens}
use Rattle.sheet.specs.Grammar.Trees.{One, Two, iterate, leaf, assemble, Trees}
use Rattle.sheet.specs.Grammar.Parser.{Start, Next}
use Rattle.text.specs.Numbers.{cut}
use Rattle.types.specs.Reading.{TypeField, bad, big, is, type_field, held}
use Rattle.nodes.specs.Nodes.{assemble_code}
use Rattle.tokens.specs.declared.Token.{Token}
use Rattle.tokens.specs.Codes.{after_code}
use Rattle.tokens.specs.Meanings.{onward, Ahead}
use Rattle.phrases.specs.Forms.{one_words, two_words}
use Rattle.phrases.specs.declared.Postfix.{Postfix}
use Rattle.phrases.specs.declared.Postfix.TheVariants as step
use Rattle.phrases.specs.declared.Opening.{Opening}
use Rattle.phrases.specs.declared.Opening.TheVariants as opening
use Rattle.memory.specs.declared.refusals.Misread.{Misread}
use Rattle.types.specs.declared.FlatType.{FlatType}

-- u is the next token of s at its place, and begins after t does
pub record Further (s : Bytes) (t u : Token) : Type 0 where
  pub ahead : Ahead s u
  pub from : t.start < u.start

-- a token of code k, and what follows it
pub data AfterIs (s : Bytes) (t : Token) (k : ℕ) : Optional Token → Type 0 where
  after_none : after_code k (onward s t) ≡ none → AfterIs s t k None
  after_one : {u : Token} → after_code k (onward s t) ≡ some (onward s u) → Further s t u → AfterIs s t k (Some u)

-- a number, and what follows it
pub data LabelledAs (s : Bytes) (t : Token) (o : Option (ℕ × Tokens)) : Optional (ℕ × Token) → Type 0 where
  labelled_none : o ≡ none → LabelledAs s t o None
  labelled_one : {x : ℕ} {u : Token} (n : ℕ) → o ≡ some (n, onward s u) → x ≡ cut n → Further s t u → LabelledAs s t o (Some (x, u))

-- a two-sided sign, and what follows it
pub data SignAs (s : Bytes) (t : Token) (o : Option (Two × Tokens)) : Optional (ℕ × Token) → Type 0 where
  sign_none : o ≡ none → SignAs s t o None
  sign_one : {k : ℕ} {u : Token} (f : Two) → o ≡ some (f, onward s u) → two_words f ≡ (k, 0) → Further s t u → SignAs s t o (Some (k, u))

unfoldable pub is_bad : TypeField → Bool
is_bad bad = true
is_bad big = false
is_bad (is t) = false

-- a type, and what follows it
pub data TypeAs (s : Bytes) (t : Token) (o : Option (Ty × Tokens)) : Optional (Result FlatType Misread × Token) → Type 0 where
  type_none : o ≡ none → TypeAs s t o None
  type_one : {g : Result FlatType Misread} {u : Token} (a : Ty) → o ≡ some (a, onward s u) → type_field g ≡ held (some a) → Further s t u → TypeAs s t o (Some (g, u))

-- a form with one operand by its code, and the number that it holds
pub record StandsAs (f : One) (k x : ℕ) : Type 0 where
  pub code : (one_words f).0 ≡ k
  pub number : x ≡ cut (one_words f).1

-- one with two operands
pub record StandsAsTwo (f : Two) (k x : ℕ) : Type 0 where
  pub code : (two_words f).0 ≡ k
  pub number : x ≡ cut (two_words f).1

-- a postfix step
pub data StepAs (s : Bytes) (t : Token) (n : Next) : Postfix → Type 0 where
  step_ends : n ≡ Next.ends → StepAs s t n step.Ends
  step_broken : n ≡ Next.broken → StepAs s t n step.Broken
  step_plain : {k x : ℕ} {u : Token} (f : One)
      → n ≡ Next.plain f (onward s u) → StandsAs f k x → Further s t u → StepAs s t n (step.Plain k x u)
  step_argument : {k x : ℕ} {u : Token} (f : Two)
      → n ≡ Next.argument f (onward s u) → StandsAsTwo f k x → Further s t u → StepAs s t n (step.Argument k x u)
  step_iteration : {x y : ℕ} {g : Result FlatType Misread} {u : Token} (i j : ℕ) (a : Ty)
      → n ≡ Next.iteration (iterate i j a) (onward s u) → x ≡ cut i → y ≡ cut j → type_field g ≡ held (some a) → Further s t u
      → StepAs s t n (step.Iteration x y g u)

-- a primary that is no leaf
pub data OpeningAs (s : Bytes) (t : Token) (o : Option Start) : Optional Opening → Type 0 where
  opening_none : o ≡ none → OpeningAs s t o None
  opening_all : {x : ℕ} {u : Token} (c : ℕ)
      → o ≡ some (Start.done (leaf (all c)) (onward s u)) → x ≡ cut c → Further s t u → OpeningAs s t o (Some (opening.All x u))
  opening_bracket : {u : Token} → o ≡ some (Start.bracket (onward s u)) → Further s t u → OpeningAs s t o (Some (opening.Bracket u))
  opening_condition : {u : Token} → o ≡ some (Start.condition (onward s u)) → Further s t u → OpeningAs s t o (Some (opening.Condition u))
  opening_empty : {k : ℕ} {u : Token} (a : Kind)
      → o ≡ some (Start.done (assemble a Trees.none) (onward s u)) → assemble_code a ≡ k → Further s t u → OpeningAs s t o (Some (opening.Empty k u))
  opening_members : {k : ℕ} {u : Token} (a : Kind)
      → o ≡ some (Start.collection a (onward s u)) → assemble_code a ≡ k → Further s t u → OpeningAs s t o (Some (opening.Members k u))

-- Document 02, F-7: a parser by recursive descent: each level calls the next, and primaries call the loosest one again. Its first
-- number bounds how deep the calls go; `enough` of them always suffice (Laws.antt).
use Rattle.std.proofs.Math.Option.{Option, none, some}
use Rattle.std.specs.Prelude.{[], ◌∷◌, ℕ, zero, suc, ◌+◌, ◌*◌, length}
use Prim.Native.String.{String}
use Rattle.laws.specs.Choice.{or_else, on_some, map_some}
use Rattle.std.specs.Prelude.{if◌then◌else◌}
use Rattle.ocl.specs.Types.{Kind, Ty, around}
use Rattle.ocl.specs.Forms.{of_object, of_members, Leaf, all, negation, cast_to}
use Rattle.sheet.specs.Text.{Bytes, bytes}
use Rattle.sheet.specs.Lines.{is}
use Rattle.sheet.specs.Grammar.Tokens.{Tokens, tokens}
use Rattle.sheet.specs.Grammar.Trees.{One, unary, is_undef, attribute, call, Two, let_in, quantified, Three, conditional, iterate, Tree, leaf, one, two, three, assemble, Trees}
use Rattle.sheet.specs.Grammar.Words.{Table, named, variable_word, attribute_word, class_word, definition_word, leaf_word, kinds, plain_forms, argument_forms, quantifiers, letters, type_word, disjunctions, conjunctions, comparisons, sums, products}
use Rattle.sheet.specs.Grammar.Sentences.{Level, whole, disjunction, conjunction, comparison, sum, product, prefix, postfix, primary}

-- ---- single tokens

-- what follows the word w
unfoldable pub after : String → Tokens → Option Tokens
after w [] = none
after w (x ∷ s) = if is x (bytes w) then some s else none

-- a token that stands for something, and what follows it
unfoldable pub taking : {A : Type 0} → (Bytes → Option A) → Tokens → Option (A × Tokens)
taking read [] = none
taking read (w ∷ s) = map_some (λ x. (x, s)) (read w)

-- `()` after a word, `(` alone
unfoldable pub after_call : Tokens → Option Tokens
after_call s = on_some (after "(" s) (after ")")

-- a type
unfoldable pub type_in : Tokens → Option (Ty × Tokens)
type_in [] = none
type_in (w ∷ []) = map_some (λ t. (t, [])) (type_word w)
type_in (w ∷ p ∷ s) =
    or_else (map_some (λ t. (t, p ∷ s)) (type_word w))
    (if is p (bytes "(")
    then on_some (named letters w) (λ l. on_some (type_in s) (λ x. map_some (λ r. (around l x.0, r)) (after ")" x.1)))
    else none)

-- ---- what begins at a token

-- `v1 =` after `let`
unfoldable pub binding : Tokens → Option (ℕ × Tokens)
binding s = on_some (taking variable_word s) (λ x. map_some (λ r. (x.0, r)) (after "=" x.1))

-- a primary: done, or an expression, a condition or members come next
pub data Start : Type 0 where
  done : Tree → Tokens → Start
  bracket : Tokens → Start
  condition : Tokens → Start
  collection : Kind → Tokens → Start

unfoldable pub instances_start : Bytes → Tokens → Option Start
instances_start w s = on_some (class_word w) (λ c. map_some (done (leaf (all c))) (on_some (after "." s) (λ r. on_some (after "allInstances" r) after_call)))

-- members, or what follows `}` where that stands in front
unfoldable pub braces : Kind → Tokens → Option Tokens → Start
braces k s none = collection k s
braces k s (some r) = done (assemble k Trees.none) r

unfoldable pub start_by : Option Leaf → Option Kind → Bytes → Tokens → Option Start
start_by (some l) k w s = some (done (leaf l) s)
start_by none (some k) w s = map_some (λ s'. braces k s' (after "}" s')) (after "{" s)
start_by none none w s =
    if is w (bytes "(") then some (bracket s) else if is w (bytes "if") then some (condition s) else instances_start w s

unfoldable pub start_of : Tokens → Option Start
start_of [] = none
start_of (w ∷ s) = start_by (leaf_word w) (named kinds w) w s

-- a postfix step: none, a broken one, one that is done, or the operands that come next: one, or two with `|` between them
pub data Next : Type 0 where
  ends : Next
  broken : Next
  plain : One → Tokens → Next
  argument : Two → Tokens → Next
  iteration : Three → Tokens → Next

unfoldable pub or_broken : Option Next → Next
or_broken none = broken
or_broken (some x) = x

-- after `.`
unfoldable pub dot_by : Option ℕ → Option ℕ → Bytes → Tokens → Option Next
dot_by (some n) d w s = some (plain (attribute of_object n) s)
dot_by none (some n) w s = map_some (plain (call n)) (after_call s)
dot_by none none w s =
    if is w (bytes "isUndef") then map_some (plain is_undef) (after_call s)
    else if is w (bytes "oclAsType")
    then on_some (after "(" s) (λ r. on_some (taking class_word r) (λ x. map_some (plain (unary (cast_to x.0))) (after ")" x.1)))
    else none

unfoldable pub dot_step : Tokens → Option Next
dot_step [] = none
dot_step (w ∷ s) = dot_by (attribute_word w) (definition_word w) w s

-- `v1 |`
unfoldable pub quantified_step : (ℕ → Two) → Tokens → Option Next
quantified_step f s = on_some (taking variable_word s) (λ x. map_some (argument (f x.0)) (after "|" x.1))

-- `v1; v2 : T =`
unfoldable pub iterate_step : Tokens → Option Next
iterate_step s =
    on_some (taking variable_word s) (λ x. on_some (after ";" x.1) (λ s'.
    on_some (taking variable_word s') (λ y. on_some (after ":" y.1) (λ s''.
    on_some (type_in s'') (λ t. map_some (iteration (iterate x.0 y.0 t.0)) (after "=" t.1))))))

-- `a5)`
unfoldable pub collect_step : Tokens → Option Next
collect_step s = on_some (taking attribute_word s) (λ x. map_some (plain (attribute of_members x.0)) (after ")" x.1))

-- by the form's word; s follows its bracket
unfoldable pub call_step : Bytes → Tokens → Option Next
call_step w s =
    or_else (on_some (named plain_forms w) (λ f. map_some (plain f) (after ")" s)))
    (or_else (map_some (λ f. argument f s) (named argument_forms w))
    (or_else (on_some (named quantifiers w) (λ q. quantified_step (quantified q) s))
    (if is w (bytes "iter") then iterate_step s else if is w (bytes "collect") then collect_step s else none)))

-- after `->`
unfoldable pub arrow_step : Tokens → Option Next
arrow_step [] = none
arrow_step (w ∷ s) = on_some (after "(" s) (call_step w)

unfoldable pub step_of : Tokens → Next
step_of [] = ends
step_of (w ∷ s) =
    if is w (bytes ".") then or_broken (dot_step s) else if is w (bytes "->") then or_broken (arrow_step s) else ends

-- the two-sided signs of a level
unfoldable pub signs : Level → Table Two
signs whole = []
signs disjunction = disjunctions
signs conjunction = conjunctions
signs comparison = comparisons
signs sum = sums
signs product = products
signs prefix = []
signs postfix = []
signs primary = []

unfoldable pub sign_of : Level → Tokens → Option (Two × Tokens)
sign_of l s = taking (named (signs l)) s

-- the next level
unfoldable pub tighter : Level → Level
tighter whole = disjunction
tighter disjunction = conjunction
tighter conjunction = comparison
tighter comparison = sum
tighter sum = product
tighter product = prefix
tighter prefix = postfix
tighter postfix = primary
tighter primary = primary

-- calls of a level without a token between them
unfoldable pub rank : Level → ℕ
rank whole = 12
rank disjunction = 10
rank conjunction = 9
rank comparison = 8
rank sum = 7
rank product = 6
rank prefix = 5
rank postfix = 3
rank primary = 2

-- ---- the descent

-- a tree, and what follows it
abbrev pub Found : Type 0
Found = Option (Tree × Tokens)

unfoldable mutual
  pub parse : ℕ → Level → Tokens → Found
  parse zero l s = none
  parse (suc f) whole s = parse_whole f s (after "let" s)
  parse (suc f) disjunction s = on_some (parse f conjunction s) (λ x. chain f disjunction x.0 x.1 (sign_of disjunction x.1))
  parse (suc f) conjunction s = on_some (parse f comparison s) (λ x. chain f conjunction x.0 x.1 (sign_of conjunction x.1))
  parse (suc f) comparison s = on_some (parse f sum s) (λ x. compare f x.0 x.1 (sign_of comparison x.1))
  parse (suc f) sum s = on_some (parse f product s) (λ x. chain f sum x.0 x.1 (sign_of sum x.1))
  parse (suc f) product s = on_some (parse f prefix s) (λ x. chain f product x.0 x.1 (sign_of product x.1))
  parse (suc f) prefix s = parse_prefix f s (after "not" s)
  parse (suc f) postfix s = on_some (parse f primary s) (λ x. steps f x.0 x.1 (step_of x.1))
  parse (suc f) primary s = parse_primary f (start_of s)

  -- with what follows `let`, if that stands in front
  pub parse_whole : ℕ → Tokens → Option Tokens → Found
  parse_whole zero s o = none
  parse_whole (suc f) s none = parse f disjunction s
  parse_whole (suc f) s (some s') =
      on_some (binding s') (λ v. on_some (parse f whole v.1) (λ e. on_some (after "in" e.1) (λ s''.
      map_some (λ b. (two (let_in v.0) e.0 b.0, b.1)) (parse f whole s''))))

  -- the level's signs and right sides, as long as there are any
  pub chain : ℕ → Level → Tree → Tokens → Option (Two × Tokens) → Found
  chain zero l a s o = none
  chain (suc f) l a s none = some (a, s)
  chain (suc f) l a s (some x) =
      on_some (parse f (tighter l) x.1) (λ b. chain f l (two x.0 a b.0) b.1 (sign_of l b.1))

  -- one sign and its right side, if there is one
  pub compare : ℕ → Tree → Tokens → Option (Two × Tokens) → Found
  compare zero a s o = none
  compare (suc f) a s none = some (a, s)
  compare (suc f) a s (some x) = map_some (λ b. (two x.0 a b.0, b.1)) (parse f sum x.1)

  -- with what follows `not`, if that stands in front
  pub parse_prefix : ℕ → Tokens → Option Tokens → Found
  parse_prefix zero s o = none
  parse_prefix (suc f) s none = parse f postfix s
  parse_prefix (suc f) s (some s') = map_some (λ a. (one (unary negation) a.0, a.1)) (parse f prefix s')

  -- postfix steps, as long as there are any
  pub steps : ℕ → Tree → Tokens → Next → Found
  steps zero a s n = none
  steps (suc f) a s ends = some (a, s)
  steps (suc f) a s broken = none
  steps (suc f) a s (plain g r) = steps f (one g a) r (step_of r)
  steps (suc f) a s (argument g s') =
      on_some (parse f whole s') (λ e. on_some (after ")" e.1) (λ r. steps f (two g a e.0) r (step_of r)))
  steps (suc f) a s (iteration g s') =
      on_some (parse f whole s') (λ e. on_some (after "|" e.1) (λ s''.
      on_some (parse f whole s'') (λ b. on_some (after ")" b.1) (λ r. steps f (three g a e.0 b.0) r (step_of r)))))

  pub parse_primary : ℕ → Option Start → Found
  parse_primary zero o = none
  parse_primary (suc f) none = none
  parse_primary (suc f) (some (done t r)) = some (t, r)
  parse_primary (suc f) (some (bracket s)) = on_some (parse f whole s) (λ x. map_some (λ r. (x.0, r)) (after ")" x.1))
  parse_primary (suc f) (some (condition s)) =
      on_some (parse f whole s) (λ c. on_some (after "then" c.1) (λ s'.
      on_some (parse f whole s') (λ a. on_some (after "else" a.1) (λ s''.
      on_some (parse f whole s'') (λ b. map_some (λ r. (three conditional c.0 a.0 b.0, r)) (after "endif" b.1))))))
  parse_primary (suc f) (some (collection k s)) = map_some (λ x. (assemble k x.0, x.1)) (parse_members f 4 s)

  -- one member or more, at most n, and the bracket
  pub parse_members : ℕ → ℕ → Tokens → Option (Trees × Tokens)
  parse_members zero n s = none
  parse_members (suc f) zero s = none
  parse_members (suc f) (suc n) s = on_some (parse f whole s) (λ e. parse_more f n e.0 e.1 (after "}" e.1))

  -- after a member, with what follows `}`, if that stands in front
  pub parse_more : ℕ → ℕ → Tree → Tokens → Option Tokens → Option (Trees × Tokens)
  parse_more zero n e s o = none
  parse_more (suc f) n e s (some r) = some (Trees.more e Trees.none, r)
  parse_more (suc f) n e s none = on_some (after "," s) (λ s'. map_some (λ x. (Trees.more e x.0, x.1)) (parse_members f n s'))

-- ---- a whole text

unfoldable pub enough : Tokens → ℕ
enough s = 16 * length s + rank whole

unfoldable pub at_end : Tree × Tokens → Option Tree
at_end x = elim x.1 [ [] ↦ some x.0 | w ∷ s ↦ none ]

-- the tree of a sentence, of its tokens and of its bytes
unfoldable pub sentence : Tokens → Option Tree
sentence s = on_some (parse (enough s) whole s) at_end

unfoldable pub reading_of : Bytes → Option Tree
reading_of text = sentence (tokens text)

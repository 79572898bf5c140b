-- What is left to do after an expression of a level, and where an expression ends. Assumes nothing.
use mathlib.Core.Path.{◌≡◌, refl, ap, ◌∙◌}
use mathlib.Core.Bool.{false}
use mathlib.Core.Option.{Option, some}
use Prim.Native.Nat.{ℕ, zero, suc, ◌+◌, ◌*◌, ◌≤◌}
use Prim.Native.String.{String}
use lib.ListN.{length}
use native.Mathlib.Omega.{arith}
use Rattle.laws.specs.Choice.{on_some}
use Rattle.sheet.specs.Text.{bytes}
use Rattle.sheet.specs.Lines.{is}
use Rattle.sheet.specs.Texts.{is_there}
use Rattle.sheet.specs.Grammar.Tokens.{Tokens}
use Rattle.sheet.specs.Grammar.Trees.{Two, Tree}
use Rattle.sheet.specs.Grammar.Words.{named, disjunctions, conjunctions, comparisons, sums, products}
use Rattle.sheet.specs.Grammar.Sentences.{◌then◌, Level, whole, disjunction, conjunction, comparison, sum, product, prefix, postfix, primary}
use Rattle.sheet.specs.Grammar.Parser.{after, Start, start_of, step_of, sign_of, tighter, rank, Found, parse, parse_whole, chain, compare, parse_prefix, steps, parse_primary, parse_members, parse_more}
use Rattle.sheet.proofs.Grammar.Stops.{step_word, product_word, sum_word, comparison_word, conjunction_word, disjunction_word, continues, Stops, stops_word, stops_tighter, no_sign, no_step}

-- a level whose expressions grow to the right is left by words that go on with it, but with nothing tighter
unfoldable pub inner : Level → Level
inner whole = whole
inner disjunction = conjunction
inner conjunction = comparison
inner comparison = comparison
inner sum = product
inner product = prefix
inner prefix = prefix
inner postfix = primary
inner primary = primary

-- what is left to do after an expression of the level
unfoldable pub resume : Level → ℕ → Tree → Tokens → Found
resume whole g t r = some (t, r)
resume disjunction g t r = chain g disjunction t r (sign_of disjunction r)
resume conjunction g t r = chain g conjunction t r (sign_of conjunction r)
resume comparison g t r = some (t, r)
resume sum g t r = chain g sum t r (sign_of sum r)
resume product g t r = chain g product t r (sign_of product r)
resume prefix g t r = some (t, r)
resume postfix g t r = steps g t r (step_of r)
resume primary g t r = some (t, r)

pub record Reached (f : ℕ) (l : Level) (s : Tokens) (t : Tree) (r : Tokens) : Type 0 where
  pub left : ℕ
  pub room : 16 * length r + 1 ≤ left
  pub same : parse f l s ≡ resume l left t r

abbrev pub Reach : Level → Tokens → Tree → Tokens → Type 0
Reach l s t r = Stops (inner l) r → (f : ℕ) → 16 * length s + rank l ≤ f → Reached f l s t r

abbrev pub Finds : Level → Tokens → Tree → Tokens → Type 0
Finds l s t r = Stops l r → (f : ℕ) → 16 * length s + rank l ≤ f → parse f l s ≡ some (t, r)

pub stops_inner : (l : Level) {r : Tokens} → Stops l r → Stops (inner l) r
unfolding inner tighter
stops_inner whole h = h
stops_inner disjunction h = stops_tighter disjunction h
stops_inner conjunction h = stops_tighter conjunction h
stops_inner comparison h = h
stops_inner sum h = stops_tighter sum h
stops_inner product h = stops_tighter product h
stops_inner prefix h = h
stops_inner postfix h = stops_tighter postfix h
stops_inner primary h = h

pub chain_ends : (l : Level) (g : ℕ) (t : Tree) (r : Tokens) → Stops l r → 1 ≤ g → chain g l t r (sign_of l r) ≡ some (t, r)
unfolding chain
chain_ends l zero t r h n = absurd (omega arith)
chain_ends l (suc g) t r h n = rw (no_sign l h)

pub steps_end : (g : ℕ) (t : Tree) (r : Tokens) → Stops postfix r → 1 ≤ g → steps g t r (step_of r) ≡ some (t, r)
unfolding steps
steps_end zero t r h n = absurd (omega arith)
steps_end (suc g) t r h n = rw (no_step h)

pub ends_here : (l : Level) (g : ℕ) (t : Tree) (r : Tokens) → Stops l r → 1 ≤ g → resume l g t r ≡ some (t, r)
unfolding resume
ends_here whole g t r h n = refl
ends_here disjunction g t r h n = chain_ends disjunction g t r h n
ends_here conjunction g t r h n = chain_ends conjunction g t r h n
ends_here comparison g t r h n = refl
ends_here sum g t r h n = chain_ends sum g t r h n
ends_here product g t r h n = chain_ends product g t r h n
ends_here prefix g t r h n = refl
ends_here postfix g t r h n = steps_end g t r h n
ends_here primary g t r h n = refl

pub found : (l : Level) {s : Tokens} {t : Tree} {r : Tokens} → Reach l s t r → Finds l s t r
found l {s} {t} {r} h st f n =
    let x = h (stops_inner l st) f n in
    let m = x.room in
    x.same ∙ ends_here l x.left t r st (omega arith)

-- ---- words after which an expression ends

pub closed : (k : String) (s : Tokens) → disjunction_word (bytes k) ≡ false → Stops whole (k then s)
unfolding continues
closed k s e = stops_word e

module _ (s : Tokens) where
  pub in_closes : Stops whole ("in" then s)
  unfolding disjunction_word conjunction_word comparison_word sum_word product_word step_word is_there named disjunctions conjunctions comparisons sums products is bytes
  in_closes = closed "in" s refl

  pub then_closes : Stops whole ("then" then s)
  unfolding disjunction_word conjunction_word comparison_word sum_word product_word step_word is_there named disjunctions conjunctions comparisons sums products is bytes
  then_closes = closed "then" s refl

  pub else_closes : Stops whole ("else" then s)
  unfolding disjunction_word conjunction_word comparison_word sum_word product_word step_word is_there named disjunctions conjunctions comparisons sums products is bytes
  else_closes = closed "else" s refl

  pub endif_closes : Stops whole ("endif" then s)
  unfolding disjunction_word conjunction_word comparison_word sum_word product_word step_word is_there named disjunctions conjunctions comparisons sums products is bytes
  endif_closes = closed "endif" s refl

  pub bracket_closes : Stops whole (")" then s)
  unfolding disjunction_word conjunction_word comparison_word sum_word product_word step_word is_there named disjunctions conjunctions comparisons sums products is bytes
  bracket_closes = closed ")" s refl

  pub brace_closes : Stops whole ("}" then s)
  unfolding disjunction_word conjunction_word comparison_word sum_word product_word step_word is_there named disjunctions conjunctions comparisons sums products is bytes
  brace_closes = closed "}" s refl

  pub comma_closes : Stops whole ("," then s)
  unfolding disjunction_word conjunction_word comparison_word sum_word product_word step_word is_there named disjunctions conjunctions comparisons sums products is bytes
  comma_closes = closed "," s refl

  pub bar_closes : Stops whole ("|" then s)
  unfolding disjunction_word conjunction_word comparison_word sum_word product_word step_word is_there named disjunctions conjunctions comparisons sums products is bytes
  bar_closes = closed "|" s refl

-- ---- the parser by what it sees

pub whole_by : (f : ℕ) (s : Tokens) {o : Option Tokens} → after "let" s ≡ o → parse (suc f) whole s ≡ parse_whole f s o
unfolding parse
whole_by f s e = ap (λ (o : Option Tokens). parse_whole f s o) e

pub prefix_by : (f : ℕ) (s : Tokens) {o : Option Tokens} → after "not" s ≡ o → parse (suc f) prefix s ≡ parse_prefix f s o
unfolding parse
prefix_by f s e = ap (λ (o : Option Tokens). parse_prefix f s o) e

pub primary_by : (f : ℕ) (s : Tokens) {o : Option Start} → start_of s ≡ o → parse (suc f) primary s ≡ parse_primary f o
unfolding parse
primary_by f s e = ap (λ (o : Option Start). parse_primary f o) e

pub compare_by : (f : ℕ) (s : Tokens) (a : Tree) (r : Tokens) {o : Option (Two × Tokens)} → parse f sum s ≡ some (a, r) → sign_of comparison r ≡ o
    → parse (suc f) comparison s ≡ compare f a r o
unfolding parse on_some
compare_by f s a r e d = rw e (ap (λ (o : Option (Two × Tokens)). compare f a r o) d)

pub members_by : (f n : ℕ) (s : Tokens) (e : Tree) (r : Tokens) {o : Option Tokens} → parse f whole s ≡ some (e, r) → after "}" r ≡ o
    → parse_members (suc f) (suc n) s ≡ parse_more f n e r o
unfolding parse on_some
members_by f n s e r h d = rw h (ap (λ (o : Option Tokens). parse_more f n e r o) d)

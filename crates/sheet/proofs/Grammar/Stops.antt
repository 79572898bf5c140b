-- Which words go on with an expression of a level, and which one may begin it. Assumes nothing.
use mathlib.Core.Path.{◌≡◌, refl}
use mathlib.Core.Bool.{Bool, false, ◌||◌, true≢false}
use mathlib.Core.Option.{Option, none, some}
use mathlib.Core.List.{[], ◌∷◌}
use Prim.Native.Nat.{◌<◌}
use Prim.Native.String.{String}
use lib.ListN.{length}
use native.Mathlib.Omega.{arith}
use Rattle.laws.specs.Choice.{or_else, map_some}
use Rattle.laws.proofs.Tests.{or-false}
use Rattle.ocl.specs.Types.{Ty}
use Rattle.sheet.specs.Text.{Bytes, bytes, after as after_bytes, behind, number_parser, real_parser, whole as whole_field, digits, plain as plain_digits, is_digit}
use Rattle.sheet.specs.Lines.{is, a_number, a_real}
use Rattle.sheet.specs.Texts.{is_there}
use Rattle.sheet.specs.Grammar.Tokens.{Tokens}
use Rattle.sheet.specs.Grammar.Trees.{Two, Tree}
use Rattle.sheet.specs.Grammar.Words.{named, labelled, variable_word, class_word, constants, leaf_word, kinds, disjunctions, conjunctions, comparisons, sums, products}
use Rattle.sheet.specs.Grammar.Sentences.{Level, whole, disjunction, conjunction, comparison, sum, product, prefix, postfix, primary, ◌over◌, whole_over, disjunction_over, conjunction_over, comparison_over, sum_over, product_over, prefix_over, postfix_over, ReadsType, simple_type, collection_type, Reads, let_in_lem, next, leaning, compared, negated, word, instances, bracketed, if_then_else, no_members, members, last_member, next_member, attribute_step, call_step_lem, cast_step, undefined_step, plain_step, collect_step_lem, argument_step, quantified_step_lem, iterate_step_lem}
use Rattle.sheet.specs.Grammar.Parser.{after, taking, signs, sign_of, tighter, ends, step_of}
use Rattle.sheet.proofs.Grammar.Single.{differs, Entries, entry}

-- ---- words that go on with an expression

unfoldable pub step_word : Bytes → Bool
step_word w = is w (bytes ".") || is w (bytes "->")

unfoldable pub product_word : Bytes → Bool
product_word w = is_there (named products w) || step_word w

unfoldable pub sum_word : Bytes → Bool
sum_word w = is_there (named sums w) || product_word w

unfoldable pub comparison_word : Bytes → Bool
comparison_word w = is_there (named comparisons w) || sum_word w

unfoldable pub conjunction_word : Bytes → Bool
conjunction_word w = is_there (named conjunctions w) || comparison_word w

unfoldable pub disjunction_word : Bytes → Bool
disjunction_word w = is_there (named disjunctions w) || conjunction_word w

unfoldable pub continues : Level → Bytes → Bool
continues whole w = disjunction_word w
continues disjunction w = disjunction_word w
continues conjunction w = conjunction_word w
continues comparison w = comparison_word w
continues sum w = sum_word w
continues product w = product_word w
continues prefix w = step_word w
continues postfix w = step_word w
continues primary w = false

-- nothing goes on with an expression of the level
pub data Stops (l : Level) : Tokens → Type 0 where
  stops_end : Stops l []
  stops_word : {w : Bytes} {s : Tokens} → continues l w ≡ false → Stops l (w ∷ s)

continues_tighter : (l : Level) (w : Bytes) → continues l w ≡ false → continues (tighter l) w ≡ false
unfolding continues tighter disjunction_word conjunction_word comparison_word sum_word product_word
continues_tighter whole w e = e
continues_tighter disjunction w e = (or-false (is_there (named disjunctions w)) (conjunction_word w) e).1
continues_tighter conjunction w e = (or-false (is_there (named conjunctions w)) (comparison_word w) e).1
continues_tighter comparison w e = (or-false (is_there (named comparisons w)) (sum_word w) e).1
continues_tighter sum w e = (or-false (is_there (named sums w)) (product_word w) e).1
continues_tighter product w e = (or-false (is_there (named products w)) (step_word w) e).1
continues_tighter prefix w e = e
continues_tighter postfix w e = refl
continues_tighter primary w e = refl

pub stops_tighter : (l : Level) {s : Tokens} → Stops l s → Stops (tighter l) s
stops_tighter l stops_end = stops_end
stops_tighter l (stops_word {w} e) = stops_word (continues_tighter l w e)

not_some : {A : Type 0} (o : Option A) → is_there o ≡ false → o ≡ none
unfolding is_there
not_some none e = refl
not_some (some x) e = absurd (true≢false e)

unsigned : (l : Level) (w : Bytes) → continues l w ≡ false → named (signs l) w ≡ none
unfolding continues signs named disjunction_word conjunction_word comparison_word sum_word product_word
unsigned whole w e = refl
unsigned disjunction w e = not_some _ (or-false (is_there (named disjunctions w)) (conjunction_word w) e).0
unsigned conjunction w e = not_some _ (or-false (is_there (named conjunctions w)) (comparison_word w) e).0
unsigned comparison w e = not_some _ (or-false (is_there (named comparisons w)) (sum_word w) e).0
unsigned sum w e = not_some _ (or-false (is_there (named sums w)) (product_word w) e).0
unsigned product w e = not_some _ (or-false (is_there (named products w)) (step_word w) e).0
unsigned prefix w e = refl
unsigned postfix w e = refl
unsigned primary w e = refl

pub no_sign : (l : Level) {s : Tokens} → Stops l s → sign_of l s ≡ none
unfolding sign_of taking map_some
no_sign l stops_end = refl
no_sign l (stops_word {w} e) = rw (unsigned l w e)

pub no_step : {s : Tokens} → Stops postfix s → step_of s ≡ ends
unfolding step_of continues step_word
no_step stops_end = refl
no_step (stops_word {w} e) = let q = or-false (is w (bytes ".")) (is w (bytes "->")) e in rw (q.0, q.1)

-- a sign of a level goes on with nothing tighter
sign_stops : (l : Level) → Entries (λ w f. continues (tighter l) w ≡ false) (signs l)
unfolding Entries signs tighter continues disjunction_word conjunction_word comparison_word sum_word product_word step_word is_there named disjunctions conjunctions comparisons sums products is bytes
sign_stops whole = tt
sign_stops disjunction = (refl, tt)
sign_stops conjunction = (refl, tt)
sign_stops comparison = (refl, (refl, tt))
sign_stops sum = (refl, (refl, tt))
sign_stops product = (refl, (refl, (refl, (refl, tt))))
sign_stops prefix = tt
sign_stops postfix = tt
sign_stops primary = tt

pub stops_sign : (l : Level) {w : Bytes} {f : Two} (s : Tokens) → named (signs l) w ≡ some f → Stops (tighter l) (w ∷ s)
stops_sign l s e = stops_word (entry (λ w f. continues (tighter l) w ≡ false) (signs l) (sign_stops l) e)

-- ---- words that begin an expression: `let` only a whole one, `not` none that is postfix

pub record Plain (s : Tokens) : Type 0 where
  pub no_let : after "let" s ≡ none

pub record Atomic (s : Tokens) : Type 0 where
  pub no_let : after "let" s ≡ none
  pub no_not : after "not" s ≡ none

unfoldable pub Fresh : Level → Tokens → Type 0
Fresh whole s = Unit
Fresh disjunction s = Plain s
Fresh conjunction s = Plain s
Fresh comparison s = Plain s
Fresh sum s = Plain s
Fresh product s = Plain s
Fresh prefix s = Plain s
Fresh postfix s = Atomic s
Fresh primary s = Atomic s

fresh_next : {l m : Level} → l over m → (s : Tokens) → Fresh m s → Fresh l s
unfolding Fresh
fresh_next whole_over s h = tt
fresh_next disjunction_over s h = h
fresh_next conjunction_over s h = h
fresh_next comparison_over s h = h
fresh_next sum_over s h = h
fresh_next product_over s h = h
fresh_next prefix_over s h = record { no_let = h.no_let }
fresh_next postfix_over s h = h

pub not_after : (k : String) (w : Bytes) (s : Tokens) → is w (bytes k) ≡ false → after k (w ∷ s) ≡ none
unfolding after
not_after k w s e = rw e

-- a word that is read otherwise is neither `let` nor `not`
atomic : {A : Type 0} (read : Bytes → Option A) → read (bytes "let") ≡ none → read (bytes "not") ≡ none
    → {w : Bytes} {x : A} (s : Tokens) → read w ≡ some x → Atomic (w ∷ s)
atomic read p q {w} s e = record {
  no_let = not_after "let" w s (differs read (bytes "let") p w e);
  no_not = not_after "not" w s (differs read (bytes "not") q w e);
}

leaf_let : leaf_word (bytes "let") ≡ none
unfolding leaf_word named constants variable_word labelled a_number a_real whole_field number_parser real_parser behind after_bytes digits plain_digits is_digit or_else map_some is bytes Rattle.laws.specs.Choice.on_some
leaf_let = refl

leaf_not : leaf_word (bytes "not") ≡ none
unfolding leaf_word named constants variable_word labelled a_number a_real whole_field number_parser real_parser behind after_bytes digits plain_digits is_digit or_else map_some is bytes Rattle.laws.specs.Choice.on_some
leaf_not = refl

class_let : class_word (bytes "let") ≡ none
unfolding class_word labelled bytes
class_let = refl

class_not : class_word (bytes "not") ≡ none
unfolding class_word labelled bytes
class_not = refl

kind_let : named kinds (bytes "let") ≡ none
unfolding named kinds is bytes
kind_let = refl

kind_not : named kinds (bytes "not") ≡ none
unfolding named kinds is bytes
kind_not = refl

pub fresh : {l : Level} {s : Tokens} {t : Tree} {r : Tokens} → Reads l s t r → Fresh l s
unfolding Fresh after is bytes
fresh (let_in_lem e h k) = tt
fresh (next {s} o h) = fresh_next o s (fresh h)
fresh (leaning g h k) = fresh h
fresh (compared e h k) = fresh h
fresh (negated h) = record { no_let = refl }
fresh (attribute_step e h) = fresh h
fresh (call_step_lem e h) = fresh h
fresh (cast_step e h) = fresh h
fresh (undefined_step h) = fresh h
fresh (plain_step e h) = fresh h
fresh (collect_step_lem e h) = fresh h
fresh (argument_step e h k) = fresh h
fresh (quantified_step_lem e d h k) = fresh h
fresh (iterate_step_lem e d h t k m) = fresh h
fresh (word {r} e) = atomic leaf_word leaf_let leaf_not r e
fresh (instances {r} e) = atomic class_word class_let class_not _ e
fresh (bracketed h) = record { no_let = refl; no_not = refl }
fresh (if_then_else h i j) = record { no_let = refl; no_not = refl }
fresh (no_members e) = atomic (named kinds) kind_let kind_not _ e
fresh (members e h) = atomic (named kinds) kind_let kind_not _ e

-- ---- an expression has a token

pub shorter_type : {s : Tokens} {t : Ty} {r : Tokens} → ReadsType s t r → length r < length s
shorter_type (simple_type e) = omega arith
shorter_type (collection_type e h) = let i = shorter_type h in omega arith

-- of s, something is left
abbrev pub Less : Tokens → Tokens → Type 0
Less r s = length r < length s

pub shorter : {l : Level} {s : Tokens} {t : Tree} {r : Tokens} → Reads l s t r → length r < length s
shorter d = elim d as (λ l s t r x. Less r s) (λ n s es r x. Less r s) [
  | let_in_lem e (h → i) (k → j) ↦ omega arith
  | next o (h → i) ↦ i
  | leaning g (h → i) (k → j) ↦ omega arith
  | compared e (h → i) (k → j) ↦ omega arith
  | negated (h → i) ↦ omega arith
  | attribute_step e (h → i) ↦ omega arith
  | call_step_lem e (h → i) ↦ omega arith
  | cast_step e (h → i) ↦ omega arith
  | undefined_step (h → i) ↦ omega arith
  | plain_step e (h → i) ↦ omega arith
  | collect_step_lem e (h → i) ↦ omega arith
  | argument_step e (h → i) (k → j) ↦ omega arith
  | quantified_step_lem e e' (h → i) (k → j) ↦ omega arith
  | iterate_step_lem e e' (h → i) t (k → j) (m → x) ↦ let y = shorter_type t in omega arith
  | word e ↦ omega arith
  | instances e ↦ omega arith
  | bracketed (h → i) ↦ omega arith
  | if_then_else (h → i) (k → j) (m → x) ↦ omega arith
  | no_members e ↦ omega arith
  | members e (h → i) ↦ omega arith
  | last_member (h → i) ↦ omega arith
  | next_member (h → i) (k → j) ↦ omega arith
]

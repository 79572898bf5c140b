-- How the parser's answers go together: whole expressions, and the `let`s that one stands in. Assumes nothing.
use mathlib.Core.Path.{◌≡◌, refl, ap, ◌∙◌}
use mathlib.Core.Option.{none, some}
use mathlib.Core.List.{List, [], ◌∷◌}
use Prim.Native.Nat.{ℕ, zero, suc, ◌+◌, ◌*◌, ◌<◌, ◌≤◌}
use native.Mathlib.Omega.{arith}
use lib.ListN.{length}
use Rattle.laws.specs.Choice.{on_some, map_some}
use Rattle.laws.proofs.Tests.{at_some}
use Rattle.sheet.specs.Grammar.Tokens.{Tokens}
use Rattle.sheet.specs.Grammar.Trees.{let_in, Tree, two, count}
use Rattle.sheet.specs.Grammar.Sentences.{whole, disjunction}
use Rattle.sheet.specs.Grammar.Parser.{Found, binding, rank, parse, parse_whole}
use Rattle.sheet.proofs.Grammar.Single.{binding_all}
use Rattle.sheet.proofs.Grammar.Reached.{whole_by}
use Rattle.tokens.specs.Codes.{after_code}
use Rattle.tokens.proofs.WordCodes.{after_let, after_in}
use Rattle.importer.specs.Answers.{Answers}
use Rattle.importer.specs.Lets.{Frame, value, body, counted, ended_in, left_open}
use Rattle.importer.proofs.AnswerLaws.{falls, after_falls}

-- without `let`
pub whole_as : (s : Tokens) (o : Found) → after_code 32 s ≡ none → Answers disjunction s o → Answers whole s o
unfolding parse rank
whole_as s o e a = record { answers = go }
  where
    go : (f : ℕ) → 16 * length s + rank whole ≤ f → parse f whole s ≡ o
    go zero n = absurd (omega arith)
    go (suc zero) n = absurd (omega arith)
    go (suc (suc f)) n = whole_by (suc f) s (after_let s ∙ e) ∙ a.answers f (omega arith)

-- ---- a `let`: its head, its value, `in`, its body

unfoldable pub bound : ℕ → Tree → Found → Found
bound i e none = none
bound i e (some x) = some (two (let_in i) e x.0, x.1)

bound_is : (i : ℕ) (e : Tree) (x : Found) → map_some (λ b. (two (let_in i) e b.0, b.1)) x ≡ bound i e x
unfolding bound map_some
bound_is i e none = refl
bound_is i e (some y) = refl

module _ (s s' : Tokens) (l : after_code 32 s ≡ some s') where
  after_head : (o : Found) → ((f : ℕ) → 16 * length s + 10 ≤ f → parse_whole (suc f) s (some s') ≡ o) → Answers whole s o
  unfolding rank
  after_head o h = record { answers = go }
    where
      go : (f : ℕ) → 16 * length s + rank whole ≤ f → parse f whole s ≡ o
      go zero n = absurd (omega arith)
      go (suc zero) n = absurd (omega arith)
      go (suc (suc f)) n = whole_by (suc f) s (after_let s ∙ l) ∙ h f (omega arith)

  pub let_broken : binding s' ≡ none → Answers whole s none
  unfolding parse_whole on_some
  let_broken b = after_head none (λ f n. rw b)

  module _ (i : ℕ) (k : Tokens) (b : binding s' ≡ some (i, k)) where
    bound_falls : length k < length s
    bound_falls =
        let t = at_some (rw b at (binding_all s')) in
        let e : length s' ≡ suc (suc (length k)) = ap length t.here in
        omega (arith, after_falls 32 s s' l)

    let_none : Answers whole k none → Answers whole s none
    unfolding parse_whole rank on_some
    let_none a = after_head none (λ f n. rw (b, a.answers f (omega (arith, bound_falls))))

    let_open : {e : Tree} {r : Tokens} → Answers whole k (some (e, r)) → after_code 50 r ≡ none → Answers whole s none
    unfolding parse_whole rank on_some
    let_open {e} {r} a c = after_head none (λ f n. rw (b, a.answers f (omega (arith, bound_falls)), after_in r, c))

    let_in_lem : {e : Tree} {r r' : Tokens} (x : Found) → Answers whole k (some (e, r)) → after_code 50 r ≡ some r' → Answers whole r' x → Answers whole s (bound i e x)
    unfolding parse_whole rank on_some
    let_in_lem {e} {r} {r'} x a c d =
        after_head _ (λ f n. rw (b, a.answers f (omega (arith, bound_falls)), after_in r, c, d.answers f (omega (arith, bound_falls, falls a, after_falls 50 r r' c))) (bound_is i e x))

-- ---- what becomes of an expression x that stands in `let`s

pub data Outer : List Frame → Found → Found → Type 0 where
  out_end : {x : Found} → Outer [] x x
  out_none : {fs : List Frame} → Outer fs none none
  out_body : {i : ℕ} {e b : Tree} {r : Tokens} {fs : List Frame} {o : Found} → Outer fs (some (two (let_in i) e b, r)) o → Outer (body i e ∷ fs) (some (b, r)) o
  out_open : {i : ℕ} {e : Tree} {r : Tokens} {fs : List Frame} → after_code 50 r ≡ none → Outer (value i ∷ fs) (some (e, r)) none
  out_in : {i : ℕ} {e : Tree} {r r' : Tokens} {fs : List Frame} {x o : Found} → after_code 50 r ≡ some r' → Answers whole r' x → Outer (body i e ∷ fs) x o
      → Outer (value i ∷ fs) (some (e, r)) o

pub none_outer : {x o : Found} → Outer [] x o → x ≡ o
none_outer out_end = refl
none_outer out_none = refl

-- a body ends
popped : {i : ℕ} {e : Tree} {fs : List Frame} {y o : Found} → Outer (body i e ∷ fs) y o → Outer fs (bound i e y) o
unfolding bound
popped out_none = out_none
popped (out_body q) = q

-- a `let` more: what becomes of its value
pub pushed : (s s' : Tokens) → after_code 32 s ≡ some s' → (i : ℕ) (k : Tokens) → binding s' ≡ some (i, k) → (fs : List Frame) (x o : Found) → Answers whole k x → Outer (value i ∷ fs) x o
    → (y : Found) × Answers whole s y × Outer fs y o
unfolding bound
pushed s s' l i k b fs x o a out_none = (none, let_none s s' l i k b a, out_none)
pushed s s' l i k b fs x o a (out_open c) = (none, let_open s s' l i k b a c, out_none)
pushed s s' l i k b fs x o a (out_in {e} {x = y} c d q) = (bound i e y, let_in_lem s s' l i k b y a c d, popped q)

-- ---- how many values are still being read

unfoldable pub unread : List Frame → ℕ
unread [] = 0
unread (value i ∷ fs) = suc (unread fs)
unread (body i e ∷ fs) = unread fs

-- the bodies that x ends: what becomes of x is what becomes of the last one in the `let`s that stay open
pub bodies_end : (fs : List Frame) (x : Tree) (r : Tokens) (o : Found) → Outer (left_open fs) (some (ended_in fs x, r)) o → Outer fs (some (x, r)) o
unfolding left_open ended_in
bodies_end [] x r o h = h
bodies_end (value i ∷ fs) x r o h = h
bodies_end (body i e ∷ fs) x r o h = out_body (bodies_end fs (two (let_in i) e x) r o h)

pub left_unread : (fs : List Frame) → unread (left_open fs) ≡ unread fs
unfolding unread left_open
left_unread [] = refl
left_unread (value i ∷ fs) = refl
left_unread (body i e ∷ fs) = left_unread fs

-- none is left but where a value is being read
pub left_none : (fs : List Frame) → unread fs ≡ 0 → left_open fs ≡ []
unfolding unread left_open
left_none [] z = refl
left_none (value i ∷ fs) z = absurd (omega arith)
left_none (body i e ∷ fs) z = left_none fs z

pub record LeftValue (fs : List Frame) : Type 0 where
  pub variable : ℕ
  pub rest : List Frame
  pub is : left_open fs ≡ value variable ∷ rest

pub left_value : (fs : List Frame) → 0 < unread fs → LeftValue fs
unfolding unread left_open
left_value [] z = absurd (omega arith)
left_value (value i ∷ fs) z = record { variable = i; rest = fs; is = refl }
left_value (body i e ∷ fs) z = let x = left_value fs z in record { variable = x.variable; rest = x.rest; is = x.is }

-- nodes and `let`s together
pub left_sum : (fs : List Frame) (x : Tree) → counted (left_open fs) + (length (left_open fs) + count (ended_in fs x)) ≡ counted fs + (length fs + count x)
unfolding counted left_open ended_in count
left_sum [] x = refl
left_sum (value i ∷ fs) x = refl
left_sum (body i e ∷ fs) x = let h = left_sum fs (two (let_in i) e x) in omega arith

-- How the parser's answers go together: levels that lean left, comparisons, `not`s. Assumes nothing.
use mathlib.Core.Path.{◌≡◌, refl, ◌∙◌}
use mathlib.Core.Bool.{Bool, true, false}
use mathlib.Core.Option.{none, some, none-ne-some, some-injective}
use mathlib.Core.List.{[], ◌∷◌}
use Prim.Native.Nat.{ℕ, zero, suc, ◌+◌, ◌*◌, ◌<◌, ◌≤◌}
use native.Mathlib.Omega.{arith}
use lib.ListN.{length}
use lib.Dec.{eqb}
use Rattle.laws.specs.Choice.{on_some, map_some}
use Rattle.std.specs.Prelude.{if◌then◌else◌}
use Rattle.laws.proofs.Tests.{at_some}
use Rattle.ocl.specs.Forms.{negation}
use Rattle.sheet.specs.Grammar.Tokens.{Tokens}
use Rattle.sheet.specs.Grammar.Trees.{unary, Two, Tree, one, two, count}
use Rattle.sheet.specs.Grammar.Words.{named}
use Rattle.sheet.specs.Grammar.Sentences.{Level, whole, disjunction, conjunction, comparison, sum, product, prefix, postfix, primary}
use Rattle.sheet.specs.Grammar.Parser.{Found, signs, sign_of, tighter, rank, parse, chain, compare}
use Rattle.sheet.proofs.Grammar.Sound.{sound}
use Rattle.sheet.proofs.Grammar.Stops.{shorter}
use Rattle.sheet.proofs.Grammar.Single.{taking_all}
use Rattle.sheet.proofs.Grammar.Reached.{prefix_by}
use Rattle.tokens.specs.Codes.{code_of, after_code}
use Rattle.tokens.proofs.WordCodes.{after_not}
use Rattle.importer.specs.Leaves.{Negated, no_not, one_not, negated}
use Rattle.importer.specs.Answers.{Answers}

-- what is left has fewer tokens
pub falls : {l : Level} {s : Tokens} {t : Tree} {r : Tokens} → Answers l s (some (t, r)) → length r < length s
falls {l} {s} a = shorter (at_some (rw (a.answers (16 * length s + rank l) (omega arith)) at (sound (16 * length s + rank l) l s)))

pub after_falls : (k : ℕ) (s s' : Tokens) → after_code k s ≡ some s' → length s' < length s
unfolding after_code
after_falls k [] s' e = absurd (none-ne-some _ e)
after_falls k (x ∷ s) s' e = go (eqb (code_of x) k) e
  where
    go : (b : Bool) → (if b then some s else none) ≡ some s' → length s' < suc (length s)
    go true q = let d = some-injective _ _ q in rw (← d) (omega arith)
    go false q = absurd (none-ne-some _ q)

pub small : (l : Level) → rank l ≤ 12
unfolding rank
small whole = omega arith
small disjunction = omega arith
small conjunction = omega arith
small comparison = omega arith
small sum = omega arith
small product = omega arith
small prefix = omega arith
small postfix = omega arith
small primary = omega arith

-- ---- levels that lean left

-- after a tree a of the level, what its signs and right sides make of it
pub record Chained (l : Level) (a : Tree) (s : Tokens) (o : Found) : Type 0 where
  pub answers : (f : ℕ) → 16 * length s + 1 ≤ f → chain f l a s (sign_of l s) ≡ o

pub data Leans : Level → Type 0 where
  or_leans : Leans disjunction
  and_leans : Leans conjunction
  sum_leans : Leans sum
  product_leans : Leans product

-- a level by the next one, and then its signs
pub start_with : {l : Level} → Leans l → (s : Tokens) (a : Tree) (r : Tokens) (o : Found) → Answers (tighter l) s (some (a, r)) → Chained l a r o → Answers l s o
unfolding parse rank tighter on_some
start_with {l} k s a r o h c = record { answers = go k (falls h) h c }
  where
    go : {l : Level} → Leans l → length r < length s → Answers (tighter l) s (some (a, r)) → Chained l a r o → (f : ℕ) → 16 * length s + rank l ≤ f → parse f l s ≡ o
    go or_leans m h c zero n = absurd (omega arith)
    go or_leans m h c (suc f) n = rw (h.answers f (omega arith)) (c.answers f (omega arith))
    go and_leans m h c zero n = absurd (omega arith)
    go and_leans m h c (suc f) n = rw (h.answers f (omega arith)) (c.answers f (omega arith))
    go sum_leans m h c zero n = absurd (omega arith)
    go sum_leans m h c (suc f) n = rw (h.answers f (omega arith)) (c.answers f (omega arith))
    go product_leans m h c zero n = absurd (omega arith)
    go product_leans m h c (suc f) n = rw (h.answers f (omega arith)) (c.answers f (omega arith))

pub start_none : {l : Level} → Leans l → (s : Tokens) → Answers (tighter l) s none → Answers l s none
unfolding parse rank tighter on_some
start_none k s h = record { answers = go k h }
  where
    go : {l : Level} → Leans l → Answers (tighter l) s none → (f : ℕ) → 16 * length s + rank l ≤ f → parse f l s ≡ none
    go or_leans h zero n = absurd (omega arith)
    go or_leans h (suc f) n = rw (h.answers f (omega arith))
    go and_leans h zero n = absurd (omega arith)
    go and_leans h (suc f) n = rw (h.answers f (omega arith))
    go sum_leans h zero n = absurd (omega arith)
    go sum_leans h (suc f) n = rw (h.answers f (omega arith))
    go product_leans h zero n = absurd (omega arith)
    go product_leans h (suc f) n = rw (h.answers f (omega arith))

module _ (l : Level) (a : Tree) (s : Tokens) where
  pub chain_ends : sign_of l s ≡ none → Chained l a s (some (a, s))
  unfolding chain
  chain_ends e = record { answers = go }
    where
      go : (f : ℕ) → 16 * length s + 1 ≤ f → chain f l a s (sign_of l s) ≡ some (a, s)
      go zero n = absurd (omega arith)
      go (suc f) n = rw e

  module _ (g : Two) (s' : Tokens) (e : sign_of l s ≡ some (g, s')) where
    -- a sign has a token
    pub sign_falls : length s' < length s
    unfolding sign_of
    sign_falls = let t = at_some (rw e at (taking_all (named (signs l)) s)) in rw t.here (omega arith)

    pub chain_fails : Answers (tighter l) s' none → Chained l a s none
    unfolding chain on_some
    chain_fails h = record { answers = go }
      where
        go : (f : ℕ) → 16 * length s + 1 ≤ f → chain f l a s (sign_of l s) ≡ none
        go zero n = absurd (omega arith)
        go (suc f) n = let d = sign_falls in let m = small (tighter l) in rw (e, h.answers f (omega arith))

    pub chain_goes : (b : Tree) (r : Tokens) (o : Found) → Answers (tighter l) s' (some (b, r)) → Chained l (two g a b) r o → Chained l a s o
    unfolding chain on_some
    chain_goes b r o h c = record { answers = go }
      where
        go : (f : ℕ) → 16 * length s + 1 ≤ f → chain f l a s (sign_of l s) ≡ o
        go zero n = absurd (omega arith)
        go (suc f) n =
            let d = sign_falls in
            let m = small (tighter l) in
            let q = falls h in
            rw (e, h.answers f (omega arith)) (c.answers f (omega arith))

-- ---- comparisons

pub compare_first : (s : Tokens) → Answers sum s none → Answers comparison s none
unfolding parse rank on_some
compare_first s h = record { answers = go }
  where
    go : (f : ℕ) → 16 * length s + rank comparison ≤ f → parse f comparison s ≡ none
    go zero n = absurd (omega arith)
    go (suc f) n = rw (h.answers f (omega arith))

module _ (s : Tokens) (a : Tree) (r : Tokens) (h : Answers sum s (some (a, r))) where
  compared : (o : Found) → ((f : ℕ) → 16 * length r + 1 ≤ f → compare f a r (sign_of comparison r) ≡ o) → Answers comparison s o
  unfolding parse rank on_some
  compared o c = record { answers = go }
    where
      go : (f : ℕ) → 16 * length s + rank comparison ≤ f → parse f comparison s ≡ o
      go zero n = absurd (omega arith)
      go (suc f) n = let m = falls h in rw (h.answers f (omega arith)) (c f (omega arith))

  pub compare_alone : sign_of comparison r ≡ none → Answers comparison s (some (a, r))
  unfolding compare
  compare_alone e = compared (some (a, r)) go
    where
      go : (f : ℕ) → 16 * length r + 1 ≤ f → compare f a r (sign_of comparison r) ≡ some (a, r)
      go zero n = absurd (omega arith)
      go (suc f) n = rw e

  pub compare_both : (g : Two) (s' : Tokens) (o : Found) → sign_of comparison r ≡ some (g, s') → Answers sum s' o
      → Answers comparison s (map_some (λ b. (two g a b.0, b.1)) o)
  unfolding compare rank
  compare_both g s' o e k = compared _ go
    where
      go : (f : ℕ) → 16 * length r + 1 ≤ f → compare f a r (sign_of comparison r) ≡ map_some (λ b. (two g a b.0, b.1)) o
      go zero n = absurd (omega arith)
      go (suc f) n = let d = sign_falls comparison a r g s' e in rw (e, k.answers f (omega arith))

-- ---- `not`s

pub negated_count : (n : ℕ) (t : Tree) → count (negated n t) ≡ n + count t
unfolding negated count
negated_count zero t = omega arith
negated_count (suc n) t = let h = negated_count n t in omega arith

-- what is found after n of them
unfoldable pub under_nots : ℕ → Found → Found
under_nots n none = none
under_nots n (some x) = some (negated n x.0, x.1)

one_more : (n : ℕ) (o : Found) → map_some (λ a. (one (unary negation) a.0, a.1)) (under_nots n o) ≡ under_nots (suc n) o
unfolding under_nots negated map_some
one_more n none = refl
one_more n (some x) = refl

none_under : (o : Found) → under_nots zero o ≡ o
unfolding under_nots negated
none_under none = refl
none_under (some x) = refl

pub nots_answer : {n : ℕ} {s r : Tokens} (o : Found) → Negated n s r → Answers prefix r o → Answers prefix s (under_nots n o)
unfolding parse rank
nots_answer o no_not a = rw (none_under o) a
nots_answer o (one_not {n} {s} {s'} e h) a = record { answers = go (nots_answer o h a) }
  where
    go : Answers prefix s' (under_nots n o) → (f : ℕ) → 16 * length s + rank prefix ≤ f → parse f prefix s ≡ under_nots (suc n) o
    go a zero m = absurd (omega arith)
    go a (suc zero) m = absurd (omega arith)
    go a (suc (suc f)) m =
        let d = after_falls 7 s s' e in
        prefix_by (suc f) s (after_not s ∙ e) ∙ rw (a.answers f (omega arith)) (one_more n o)

pub no_negation : (s : Tokens) (o : Found) → after_code 7 s ≡ none → Answers postfix s o → Answers prefix s o
unfolding parse rank
no_negation s o e a = record { answers = go }
  where
    go : (f : ℕ) → 16 * length s + rank prefix ≤ f → parse f prefix s ≡ o
    go zero m = absurd (omega arith)
    go (suc zero) m = absurd (omega arith)
    go (suc (suc f)) m = prefix_by (suc f) s (after_not s ∙ e) ∙ a.answers f (omega arith)

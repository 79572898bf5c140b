-- How the parser's answers go together: primaries. Assumes nothing.
use mathlib.Core.Path.{◌≡◌, refl, ◌∙◌}
use mathlib.Core.Option.{Option, none, some}
use Prim.Native.Nat.{ℕ, zero, suc, ◌+◌, ◌*◌, ◌<◌, ◌≤◌}
use native.Mathlib.Omega.{arith}
use lib.ListN.{length}
use Rattle.laws.specs.Choice.{on_some, map_some}
use Rattle.ocl.specs.Types.{Kind}
use Rattle.sheet.specs.Grammar.Tokens.{Tokens}
use Rattle.sheet.specs.Grammar.Trees.{conditional, Tree, three, assemble, Trees}
use Rattle.sheet.specs.Grammar.Sentences.{whole, primary}
use Rattle.sheet.specs.Grammar.Parser.{Found, after, Start, done, bracket, condition, collection, start_of, rank, parse, parse_primary, parse_members, parse_more}
use Rattle.sheet.proofs.Grammar.Reached.{primary_by, members_by}
use Rattle.tokens.specs.Codes.{after_code}
use Rattle.tokens.proofs.WordCodes.{after_then, after_else, after_endif, after_close_brace, after_comma}
use Rattle.importer.specs.Answers.{Answers}
use Rattle.importer.proofs.AnswerLaws.{falls, after_falls}

-- a primary by what starts it; s' is shorter
module _ (s : Tokens) where
  started : (o : Found) (x : Option Start) → start_of s ≡ x → ((f : ℕ) → 16 * length s ≤ f → parse_primary (suc f) x ≡ o) → Answers primary s o
  unfolding rank
  started o x e h = record { answers = go }
    where
      go : (f : ℕ) → 16 * length s + rank primary ≤ f → parse f primary s ≡ o
      go zero m = absurd (omega arith)
      go (suc zero) m = absurd (omega arith)
      go (suc (suc f)) m = primary_by (suc f) s e ∙ h f (omega arith)

  pub primary_no : start_of s ≡ none → Answers primary s none
  unfolding parse_primary
  primary_no e = started none none e (λ f m. refl)

  pub primary_done : (t : Tree) (r : Tokens) → start_of s ≡ some (done t r) → Answers primary s (some (t, r))
  unfolding parse_primary
  primary_done t r e = started _ _ e (λ f m. refl)

  module _ (s' : Tokens) (less : length s' < length s) where
    pub bracket_by : (o : Found) → start_of s ≡ some (bracket s') → Answers whole s' o → Answers primary s (on_some o (λ x. map_some (λ r. (x.0, r)) (after ")" x.1)))
    unfolding parse_primary rank
    bracket_by o e a = started _ _ e (λ f m. rw (a.answers f (omega arith)))

    module _ (e : start_of s ≡ some (condition s')) where
      pub condition_none : (x : Found) → Answers whole s' x → on_some x (λ y. after_code 51 y.1) ≡ none → Answers primary s none
      unfolding parse_primary rank on_some
      condition_none none h n = started none _ e (λ f m. rw (h.answers f (omega arith)))
      condition_none (some y) h n = started none _ e (λ f m. rw (h.answers f (omega arith), after_then y.1, n))

      module _ (c : Tree) (t t' : Tokens) (h : Answers whole s' (some (c, t))) (k : after_code 51 t ≡ some t') where
        then_less : length t' < length s
        then_less = omega (arith, less, falls h, after_falls 51 t t' k)

        pub then_none : (x : Found) → Answers whole t' x → on_some x (λ y. after_code 52 y.1) ≡ none → Answers primary s none
        unfolding parse_primary rank on_some
        then_none none g n = started none _ e (λ f m. rw (h.answers f (omega arith), after_then t, k, g.answers f (omega (arith, then_less))))
        then_none (some y) g n = started none _ e (λ f m. rw (h.answers f (omega arith), after_then t, k, g.answers f (omega (arith, then_less)), after_else y.1, n))

        module _ (a : Tree) (q q' : Tokens) (g : Answers whole t' (some (a, q))) (i : after_code 52 q ≡ some q') where
          else_less : length q' < length s
          else_less = omega (arith, then_less, falls g, after_falls 52 q q' i)

          pub else_none : (x : Found) → Answers whole q' x → on_some x (λ y. after_code 53 y.1) ≡ none → Answers primary s none
          unfolding parse_primary rank on_some map_some
          else_none none j n =
              started none _ e (λ f m. rw (h.answers f (omega arith), after_then t, k, g.answers f (omega (arith, then_less)), after_else q, i, j.answers f (omega (arith, else_less))))
          else_none (some y) j n =
              started none _ e (λ f m. rw (h.answers f (omega arith), after_then t, k, g.answers f (omega (arith, then_less)), after_else q, i, j.answers f (omega (arith, else_less)), after_endif y.1, n))

          pub condition_one : (b : Tree) (u r : Tokens) → Answers whole q' (some (b, u)) → after_code 53 u ≡ some r → Answers primary s (some (three conditional c a b, r))
          unfolding parse_primary rank on_some map_some
          condition_one b u r j n =
              started _ _ e (λ f m. rw (h.answers f (omega arith), after_then t, k, g.answers f (omega (arith, then_less)), after_else q, i, j.answers f (omega (arith, else_less)), after_endif u, n))

-- ---- members

-- at most n of them at s
pub record Members (n : ℕ) (s : Tokens) (o : Option (Trees × Tokens)) : Type 0 where
  pub answers : (f : ℕ) → 16 * length s + 14 ≤ f → parse_members f n s ≡ o

pub collection_by : (s : Tokens) (k : Kind) (s' : Tokens) (o : Option (Trees × Tokens)) → length s' < length s → start_of s ≡ some (collection k s') → Members 4 s' o
    → Answers primary s (map_some (λ x. (assemble k x.0, x.1)) o)
unfolding parse_primary
collection_by s k s' o l e h = started s _ _ e (λ f m. rw (h.answers f (omega arith)))

pub members_over : (s : Tokens) → Members 0 s none
unfolding parse_members
members_over s = record { answers = go }
  where
    go : (f : ℕ) → 16 * length s + 14 ≤ f → parse_members f 0 s ≡ none
    go zero m = absurd (omega arith)
    go (suc f) m = refl

pub member_none : (n : ℕ) (s : Tokens) → Answers whole s none → Members (suc n) s none
unfolding parse_members rank on_some
member_none n s h = record { answers = go }
  where
    go : (f : ℕ) → 16 * length s + 14 ≤ f → parse_members f (suc n) s ≡ none
    go zero m = absurd (omega arith)
    go (suc f) m = rw (h.answers f (omega arith))

module _ (n : ℕ) (s : Tokens) (e : Tree) (r : Tokens) (h : Answers whole s (some (e, r))) where
  after_member : (o : Option (Trees × Tokens)) (x : Option Tokens) → after "}" r ≡ x → ((f : ℕ) → 16 * length s + 12 ≤ f → parse_more (suc f) n e r x ≡ o) → Members (suc n) s o
  unfolding rank
  after_member o x q k = record { answers = go }
    where
      go : (f : ℕ) → 16 * length s + 14 ≤ f → parse_members f (suc n) s ≡ o
      go zero m = absurd (omega arith)
      go (suc zero) m = absurd (omega arith)
      go (suc (suc f)) m = members_by (suc f) n s e r (h.answers (suc f) (omega arith)) q ∙ k f (omega arith)

  pub member_last : (q : Tokens) → after_code 43 r ≡ some q → Members (suc n) s (some (Trees.more e Trees.none, q))
  unfolding parse_more
  member_last q c = after_member _ _ (after_close_brace r ∙ c) (λ f m. refl)

  pub member_open : after_code 43 r ≡ none → after_code 44 r ≡ none → Members (suc n) s none
  unfolding parse_more on_some
  member_open c d = after_member _ _ (after_close_brace r ∙ c) (λ f m. rw (after_comma r, d))

  pub member_more : (q : Tokens) (o : Option (Trees × Tokens)) → after_code 43 r ≡ none → after_code 44 r ≡ some q → Members n q o
      → Members (suc n) s (map_some (λ x. (Trees.more e x.0, x.1)) o)
  unfolding parse_more on_some
  member_more q o c d k = after_member _ _ (after_close_brace r ∙ c) (λ f m. rw (after_comma r, d, k.answers f (omega (arith, falls h, after_falls 44 r q d))))

-- How the parser's answers go together: postfix steps. Assumes nothing.
use mathlib.Core.Path.{◌≡◌, refl, ap}
use mathlib.Core.Bool.{Bool, true, false}
use mathlib.Core.Option.{Option, none, some}
use mathlib.Core.List.{[], ◌∷◌}
use Prim.Native.Nat.{ℕ, zero, suc, ◌+◌, ◌*◌, ◌<◌, ◌≤◌}
use native.Mathlib.Omega.{arith}
use Prim.Native.String.{String}
use lib.ListN.{length}
use Rattle.laws.specs.Choice.{on_some}
use Rattle.std.specs.Prelude.{if◌then◌else◌}
use Rattle.laws.proofs.Tests.{All?, all_none, all_some, all_imp, all_on, all_else}
use Rattle.ocl.specs.Forms.{of_object}
use Rattle.sheet.specs.Text.{Bytes, bytes}
use Rattle.sheet.specs.Lines.{is}
use Rattle.sheet.specs.Grammar.Tokens.{Tokens}
use Rattle.sheet.specs.Grammar.Trees.{One, attribute, Two, quantified, Three, Tree, one, two, three}
use Rattle.sheet.specs.Grammar.Words.{named, variable_word, attribute_word, class_word, definition_word, plain_forms, argument_forms, quantifiers}
use Rattle.sheet.specs.Grammar.Sentences.{whole, postfix, primary}
use Rattle.sheet.specs.Grammar.Parser.{Found, after, taking, after_call, Next, ends, broken, plain, argument, iteration, or_broken, dot_by, dot_step, quantified_step, iterate_step, collect_step, call_step, arrow_step, step_of, rank, parse, steps}
use Rattle.sheet.proofs.Grammar.Single.{all_map, all_if, after_all, after_call_all, taking_all, type_in_all}
use Rattle.sheet.proofs.Grammar.Stops.{shorter_type}
use Rattle.tokens.specs.Codes.{after_code}
use Rattle.tokens.proofs.WordCodes.{after_close, after_bar}
use Rattle.importer.specs.Answers.{Answers}
use Rattle.importer.specs.Steps.{Stepped}
use Rattle.importer.proofs.AnswerLaws.{falls, after_falls}

-- ---- a step has a token

-- what follows is at most n tokens long
unfoldable Within : ℕ → Next → Type 0
Within n ends = Unit
Within n broken = Unit
Within n (plain g r) = length r ≤ n
Within n (argument g r) = length r ≤ n
Within n (iteration g r) = length r ≤ n

pub word_less : (w : String) (s : Tokens) → All? (λ r. length r < length s) (after w s)
word_less w s = all_imp (λ r e. let l : length s ≡ suc (length r) = ap length e in omega arith) (after_all w s)

taken_less : {A : Type 0} (read : Bytes → Option A) (s : Tokens) → All? (λ (x : A × Tokens). length x.1 < length s) (taking read s)
taken_less read s = all_imp (λ x t. let l : length s ≡ suc (length x.1) = ap length t.here in omega arith) (taking_all read s)

called_less : (s : Tokens) → All? (λ r. length r < length s) (after_call s)
called_less s = all_imp (λ r e. let l : length s ≡ suc (suc (length r)) = ap length e in omega arith) (after_call_all s)

or_within : (n : ℕ) {o : Option Next} → All? (Within n) o → Within n (or_broken o)
unfolding Within or_broken
or_within n all_none = tt
or_within n (all_some h) = h

dot_within : (s : Tokens) → All? (Within (length s)) (dot_step s)
unfolding Within dot_step dot_by
dot_within [] = all_none
dot_within (w ∷ s) = go (attribute_word w) (definition_word w)
  where
    go : (a d : Option ℕ) → All? (Within (suc (length s))) (dot_by a d w s)
    go (some n) d = all_some {x = plain (attribute of_object n) s} (omega arith)
    go none (some n) = all_map _ (called_less s) (λ r l. omega arith)
    go none none =
        all_if (is w (bytes "isUndef")) (λ e. all_map _ (called_less s) (λ r l. omega arith)) (λ e.
        all_if (is w (bytes "oclAsType")) (λ e. all_on (word_less "(" s) (λ r l. all_on (taken_less class_word r) (λ x k.
        all_map _ (word_less ")" x.1) (λ q j. omega arith)))) (λ e. all_none))

quantified_within : (f : ℕ → Two) (s : Tokens) → All? (Within (length s)) (quantified_step f s)
unfolding Within quantified_step
quantified_within f s = all_on (taken_less variable_word s) (λ x l. all_map _ (word_less "|" x.1) (λ r k. omega arith))

collect_within : (s : Tokens) → All? (Within (length s)) (collect_step s)
unfolding Within collect_step
collect_within s = all_on (taken_less attribute_word s) (λ x l. all_map _ (word_less ")" x.1) (λ r k. omega arith))

iterate_within : (s : Tokens) → All? (Within (length s)) (iterate_step s)
unfolding Within iterate_step
iterate_within s =
    all_on (taken_less variable_word s) (λ x a. all_on (word_less ";" x.1) (λ s' b.
    all_on (taken_less variable_word s') (λ y c. all_on (word_less ":" y.1) (λ s'' d.
    all_on (all_imp (λ t h. shorter_type h) (type_in_all s'')) (λ t e. all_map _ (word_less "=" t.1) (λ r k. omega arith))))))

call_within : (w : Bytes) (s : Tokens) → All? (Within (length s)) (call_step w s)
unfolding Within call_step
call_within w s =
    all_else (all_on (all_any (named plain_forms w)) (λ f u. all_map _ (word_less ")" s) (λ r k. omega arith)))
    (all_else (all_map _ (all_any (named argument_forms w)) (λ f u. omega arith))
    (all_else (all_on (all_any (named quantifiers w)) (λ q u. quantified_within (quantified q) s))
    (all_if (is w (bytes "iter")) (λ e. iterate_within s) (λ e. all_if (is w (bytes "collect")) (λ e. collect_within s) (λ e. all_none)))))
  where
    all_any : {A : Type 0} (o : Option A) → All? (λ x. Unit {0}) o
    all_any none = all_none
    all_any (some x) = all_some tt

within_more : (m n : ℕ) → m ≤ n → (x : Next) → Within m x → Within n x
unfolding Within
within_more m n h ends k = tt
within_more m n h broken k = tt
within_more m n h (plain g r) k = omega arith
within_more m n h (argument g r) k = omega arith
within_more m n h (iteration g r) k = omega arith

arrow_within : (s : Tokens) → All? (Within (length s)) (arrow_step s)
unfolding arrow_step
arrow_within [] = all_none
arrow_within (w ∷ s) = all_on (word_less "(" s) (λ r l. all_imp (λ n h. within_more (length r) (suc (length s)) (omega arith) n h) (call_within w r))

-- fewer tokens than there were
unfoldable Less : ℕ → Next → Type 0
Less n ends = Unit
Less n broken = Unit
Less n (plain g r) = length r < n
Less n (argument g r) = length r < n
Less n (iteration g r) = length r < n

less_than : (n : ℕ) (x : Next) → Within n x → Less (suc n) x
unfolding Within Less
less_than n ends k = tt
less_than n broken k = tt
less_than n (plain g r) k = omega arith
less_than n (argument g r) k = omega arith
less_than n (iteration g r) k = omega arith

step_less : (s : Tokens) → Less (length s) (step_of s)
unfolding Less step_of
step_less [] = tt
step_less (w ∷ s) = go (is w (bytes ".")) (is w (bytes "->"))
  where
    go : (a b : Bool) → Less (suc (length s)) (if a then or_broken (dot_step s) else if b then or_broken (arrow_step s) else ends)
    go true b = less_than (length s) (or_broken (dot_step s)) (or_within (length s) (dot_within s))
    go false true = less_than (length s) (or_broken (arrow_step s)) (or_within (length s) (arrow_within s))
    go false false = tt

-- ---- steps, as long as there are any

pub steps_start : (s : Tokens) (a : Tree) (r : Tokens) (o : Found) → Answers primary s (some (a, r)) → Stepped a r o → Answers postfix s o
unfolding parse rank on_some
steps_start s a r o h c = record { answers = go (falls h) }
  where
    go : length r < length s → (f : ℕ) → 16 * length s + rank postfix ≤ f → parse f postfix s ≡ o
    go m zero n = absurd (omega arith)
    go m (suc f) n = rw (h.answers f (omega arith)) (c.answers f (omega arith))

pub steps_none : (s : Tokens) → Answers primary s none → Answers postfix s none
unfolding parse rank on_some
steps_none s h = record { answers = go }
  where
    go : (f : ℕ) → 16 * length s + rank postfix ≤ f → parse f postfix s ≡ none
    go zero n = absurd (omega arith)
    go (suc f) n = rw (h.answers f (omega arith))

module _ (a : Tree) (s : Tokens) where
  stepped : (o : Found) (x : Next) → step_of s ≡ x → ((f : ℕ) → 16 * length s ≤ f → steps (suc f) a s x ≡ o) → Stepped a s o
  stepped o x e h = record { answers = go }
    where
      go : (f : ℕ) → 16 * length s + 1 ≤ f → steps f a s (step_of s) ≡ o
      go zero n = absurd (omega arith)
      go (suc f) n = rw e (h f (omega arith))

  pub step_ends : step_of s ≡ ends → Stepped a s (some (a, s))
  unfolding steps
  step_ends e = stepped _ ends e (λ f n. refl)

  pub step_broken : step_of s ≡ broken → Stepped a s none
  unfolding steps
  step_broken e = stepped _ broken e (λ f n. refl)

  pub step_plain : (g : One) (r : Tokens) (o : Found) → step_of s ≡ plain g r → Stepped (one g a) r o → Stepped a s o
  unfolding steps Less
  step_plain g r o e c = stepped o (plain g r) e (λ f n. c.answers f (omega (arith, less)))
    where
      less : length r < length s
      less = rw e at (step_less s)

  module _ (g : Two) (s' : Tokens) (e : step_of s ≡ argument g s') where
    argument_less : length s' < length s
    unfolding Less
    argument_less = rw e at (step_less s)

    pub argument_none : (x : Found) → Answers whole s' x → on_some x (λ y. after_code 41 y.1) ≡ none → Stepped a s none
    unfolding steps rank on_some
    argument_none none h n = stepped none (argument g s') e (λ f m. rw (h.answers f (omega (arith, argument_less))))
    argument_none (some y) h n = stepped none (argument g s') e (λ f m. rw (h.answers f (omega (arith, argument_less)), after_close y.1, n))

    pub argument_goes : (b : Tree) (t r : Tokens) (o : Found) → Answers whole s' (some (b, t)) → after_code 41 t ≡ some r → Stepped (two g a b) r o → Stepped a s o
    unfolding steps rank on_some
    argument_goes b t r o h c k =
        stepped o (argument g s') e (λ f m. rw (h.answers f (omega (arith, argument_less)), after_close t, c) (k.answers f (omega (arith, argument_less, falls h, after_falls 41 t r c))))

  module _ (g : Three) (s' : Tokens) (e : step_of s ≡ iteration g s') where
    iteration_less : length s' < length s
    unfolding Less
    iteration_less = rw e at (step_less s)

    pub iteration_none : (x : Found) → Answers whole s' x → on_some x (λ y. after_code 47 y.1) ≡ none → Stepped a s none
    unfolding steps rank on_some
    iteration_none none h n = stepped none (iteration g s') e (λ f m. rw (h.answers f (omega (arith, iteration_less))))
    iteration_none (some y) h n = stepped none (iteration g s') e (λ f m. rw (h.answers f (omega (arith, iteration_less)), after_bar y.1, n))

    module _ (b : Tree) (t t' : Tokens) (h : Answers whole s' (some (b, t))) (c : after_code 47 t ≡ some t') where
      second_less : length t' < length s
      second_less = omega (arith, iteration_less, falls h, after_falls 47 t t' c)

      pub second_none : (x : Found) → Answers whole t' x → on_some x (λ y. after_code 41 y.1) ≡ none → Stepped a s none
      unfolding steps rank on_some
      second_none none k n = stepped none (iteration g s') e (λ f m. rw (h.answers f (omega (arith, iteration_less)), after_bar t, c, k.answers f (omega (arith, second_less))))
      second_none (some y) k n =
          stepped none (iteration g s') e (λ f m. rw (h.answers f (omega (arith, iteration_less)), after_bar t, c, k.answers f (omega (arith, second_less)), after_close y.1, n))

      pub iteration_goes : (d : Tree) (q r : Tokens) (o : Found) → Answers whole t' (some (d, q)) → after_code 41 q ≡ some r → Stepped (three g a b d) r o → Stepped a s o
      unfolding steps rank on_some
      iteration_goes d q r o k i z =
          stepped o (iteration g s') e (λ f m.
          rw (h.answers f (omega (arith, iteration_less)), after_bar t, c, k.answers f (omega (arith, second_less)), after_close q, i)
          (z.answers f (omega (arith, second_less, falls k, after_falls 41 q r i))))

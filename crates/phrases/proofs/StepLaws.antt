-- Laws of postfix steps: what each function's answer says of the parser's. Assumes nothing.
use mathlib.Core.Path.{◌≡◌, refl, ap}
use mathlib.Core.Option.{Option, none, some}
use Prim.Native.Nat.{ℕ, ◌≤◌}
use native.Mathlib.Omega.{arith}
use Rattle.laws.specs.Choice.{on_some, map_some}
use Rattle.ocl.specs.Forms.{Quantifier, of_members, cast_to}
use Rattle.sheet.specs.Text.{Bytes}
use Rattle.sheet.specs.Grammar.Tokens.{Tokens}
use Rattle.sheet.specs.Grammar.Trees.{One, unary, attribute, Two, quantified}
use Rattle.sheet.specs.Grammar.Words.{labelled, variable_word, attribute_word, class_word}
use Rattle.sheet.specs.Grammar.Parser.{after, taking, after_call, Next, plain, argument, or_broken, quantified_step, collect_step}
use Rattle.nodes.specs.Nodes.{unary_words, access_code, quantifier_code}
use Rattle.tokens.specs.Codes.{after_code}
use Rattle.tokens.specs.Meanings.{onward}
use Rattle.tokens.specs.declared.Token.{Token}
use Rattle.tokens.proofs.WordCodes.{after_close, after_bracket, after_bar}
use Rattle.phrases.specs.Forms.{one_words, two_words, labelled_before, cast_step}
use Rattle.phrases.specs.Meanings.{AfterIs, LabelledAs, labelled_one, StandsAs, StepAs, step_ends, step_broken, step_plain, step_argument, step_iteration}
use Rattle.phrases.specs.declared.Postfix.{Postfix}
use Rattle.phrases.specs.declared.Postfix.TheVariants as step
use Rattle.phrases.proofs.WordLaws.{later, gone, came, came_further, unlabelled, before_mapped}
use Rattle.std.specs.Prelude.{Option as Optional, Some, None}

-- ---- a step that begins earlier, and one that is told otherwise

pub step_later : {s : Bytes} {a t : Token} {n : Next} {r : Postfix} → a.start ≤ t.start → StepAs s t n r → StepAs s a n r
step_later l (step_ends e) = step_ends e
step_later l (step_broken e) = step_broken e
step_later l (step_plain f e c g) = step_plain f e c (later l g)
step_later l (step_argument f e c g) = step_argument f e c (later l g)
step_later l (step_iteration i j a e c d g h) = step_iteration i j a e c d g (later l h)

pub step_same : {s : Bytes} {t : Token} {n m : Next} {r : Postfix} → n ≡ m → StepAs s t m r → StepAs s t n r
step_same d h = rw d h

-- ---- `closing` and `empty_call`

module _ {s : Bytes} {t : Token} {q : Optional Token} (h : AfterIs s t 41 q) (f : One) where
  pub unclosed : q ≡ None → StepAs s t (or_broken (map_some (plain f) (after_code 41 (onward s t)))) step.Broken
  unfolding map_some or_broken
  unclosed d = step_broken (rw (gone h d))

  pub closed : {k x : ℕ} {u : Token} → q ≡ Some u → StandsAs f k x → StepAs s t (or_broken (map_some (plain f) (after_code 41 (onward s t)))) (step.Plain k x u)
  unfolding map_some or_broken
  closed {k} {x} {u} d c = step_plain {u = u} f (rw (came h d)) c (came_further h d)

module _ {s : Bytes} {t : Token} {q : Optional Token} (h : AfterIs s t 40 q) (f : One) where
  pub unopened : q ≡ None → StepAs s t (or_broken (map_some (plain f) (after_call (onward s t)))) step.Broken
  unfolding after_call on_some map_some or_broken
  unopened d = step_broken (rw (after_bracket (onward s t), gone h d))

  pub opened : {u : Token} {r : Postfix} → q ≡ Some u → StepAs s u (or_broken (map_some (plain f) (after_code 41 (onward s u)))) r
      → StepAs s t (or_broken (map_some (plain f) (after_call (onward s t)))) r
  unfolding after_call on_some
  opened {u} d g =
      let w = (came_further h d).from in
      step_later {t = u} (omega arith) (rw (after_bracket (onward s t), came h d, after_close (onward s u)) g)

-- ---- a number behind a letter, and a word

module _ {s : Bytes} {t : Token} {o : Option (ℕ × Tokens)} {r : Optional (ℕ × Token)} (h : LabelledAs s t o r) where
  pub no_label : (g : ℕ × Tokens → Next) → r ≡ None → StepAs s t (or_broken (map_some g o)) step.Broken
  unfolding map_some or_broken
  no_label g d = step_broken (rw (unlabelled h d))

  pub plain_label : (f : ℕ → One) {k x : ℕ} {u : Token} → ((n : ℕ) → one_words (f n) ≡ (k, n)) → r ≡ Some (x, u)
      → StepAs s t (or_broken (map_some (λ y. plain (f y.0) y.1) o)) (step.Plain k x u)
  unfolding map_some or_broken
  plain_label f {k} {x} {u} c d = go (rw d at h)
    where
      go : LabelledAs s t o (Some (x, u)) → StepAs s t (or_broken (map_some (λ y. plain (f y.0) y.1) o)) (step.Plain k x u)
      go (labelled_one n e p g) = step_plain {k = k} {x = x} {u = u} (f n) (rw e) (record { code = rw (c n); number = rw (c n) p }) g

  pub argument_label : (f : ℕ → Two) {k x : ℕ} {u : Token} → ((n : ℕ) → two_words (f n) ≡ (k, n)) → r ≡ Some (x, u)
      → StepAs s t (or_broken (map_some (λ y. argument (f y.0) y.1) o)) (step.Argument k x u)
  unfolding map_some or_broken
  argument_label f {k} {x} {u} c d = go (rw d at h)
    where
      go : LabelledAs s t o (Some (x, u)) → StepAs s t (or_broken (map_some (λ y. argument (f y.0) y.1) o)) (step.Argument k x u)
      go (labelled_one n e p g) = step_argument {k = k} {x = x} {u = u} (f n) (rw e) (record { code = rw (c n); number = rw (c n) p }) g

-- `v1 |`
quantified_told : (q : Quantifier) (s : Tokens) → quantified_step (quantified q) s ≡ map_some (λ y. argument (quantified q y.0) y.1) (labelled_before 118 47 s)
unfolding quantified_step variable_word
quantified_told q s = before_mapped 118 47 "|" (λ n. argument (quantified q n)) after_bar s

module _ {s : Bytes} {t : Token} {r : Optional (ℕ × Token)} (h : LabelledAs s t (labelled_before 118 47 (onward s t)) r) {k : ℕ} (q : Quantifier) (c : quantifier_code q ≡ k) where
  pub no_variable : r ≡ None → StepAs s t (or_broken (quantified_step (quantified q) (onward s t))) step.Broken
  no_variable d = rw (quantified_told q (onward s t)) (no_label h _ d)

  pub variable_bar : {x : ℕ} {u : Token} → r ≡ Some (x, u) → StepAs s t (or_broken (quantified_step (quantified q) (onward s t))) (step.Argument k x u)
  unfolding two_words
  variable_bar d = rw (quantified_told q (onward s t)) (argument_label h (quantified q) (λ n. ap (λ (z : ℕ). (z, n)) c) d)

-- `a5)`
collect_told : (s : Tokens) → collect_step s ≡ map_some (λ y. plain (attribute of_members y.0) y.1) (labelled_before 97 41 s)
unfolding collect_step attribute_word
collect_told s = before_mapped 97 41 ")" (λ n. plain (attribute of_members n)) after_close s

module _ {s : Bytes} {t : Token} {r : Optional (ℕ × Token)} (h : LabelledAs s t (labelled_before 97 41 (onward s t)) r) where
  pub no_collect : r ≡ None → StepAs s t (or_broken (collect_step (onward s t))) step.Broken
  no_collect d = rw (collect_told (onward s t)) (no_label h _ d)

  pub collected : {x : ℕ} {u : Token} → r ≡ Some (x, u) → StepAs s t (or_broken (collect_step (onward s t))) (step.Plain 34 x u)
  unfolding one_words access_code
  collected d = rw (collect_told (onward s t)) (plain_label h (attribute of_members) (λ n. refl) d)

-- `(#1)`
cast_told : (s : Tokens) → cast_step s ≡ on_some (after_code 40 s) (λ r. map_some (λ y. plain (unary (cast_to y.0)) y.1) (labelled_before 35 41 r))
unfolding cast_step class_word on_some
cast_told s = rw (after_bracket s) (go (after_code 40 s))
  where
    go : (o : Option Tokens) → on_some o (λ r. on_some (taking (labelled 35) r) (λ x. map_some (plain (unary (cast_to x.0))) (after ")" x.1)))
        ≡ on_some o (λ r. map_some (λ y. plain (unary (cast_to y.0)) y.1) (labelled_before 35 41 r))
    go none = refl
    go (some r) = before_mapped 35 41 ")" (λ n. plain (unary (cast_to n))) after_close r

module _ {s : Bytes} {t : Token} {q : Optional Token} (h : AfterIs s t 40 q) where
  pub no_cast : q ≡ None → StepAs s t (or_broken (cast_step (onward s t))) step.Broken
  unfolding on_some or_broken
  no_cast d = step_broken (rw (cast_told (onward s t), gone h d))

  module _ {u : Token} (d : q ≡ Some u) {r : Optional (ℕ × Token)} (g : LabelledAs s u (labelled_before 35 41 (onward s u)) r) where
    before : t.start ≤ u.start
    before = let w = (came_further h d).from in omega arith

    pub no_class : r ≡ None → StepAs s t (or_broken (cast_step (onward s t))) step.Broken
    unfolding on_some
    no_class e = step_later {t = u} before (rw (cast_told (onward s t), came h d) (no_label g _ e))

    pub cast_done : {x : ℕ} {v : Token} → r ≡ Some (x, v) → StepAs s t (or_broken (cast_step (onward s t))) (step.Plain 12 x v)
    unfolding on_some one_words unary_words
    cast_done e = step_later {t = u} before (rw (cast_told (onward s t), came h d) (plain_label g (λ n. unary (cast_to n)) (λ n. refl) e))

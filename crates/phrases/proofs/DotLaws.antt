-- Laws of the steps after `.` and `->`, and of `iter`: one for each return. Assumes nothing.
use mathlib.Core.Path.{◌≡◌, refl, sym, ap, ◌∙◌}
use mathlib.Core.Logic.{◌≢◌}
use mathlib.Core.Bool.{Bool, true, false, true≢false}
use mathlib.Core.Option.{Option, none, some}
use mathlib.Core.List.{[], ◌∷◌}
use Prim.Native.Nat.{ℕ, ◌<◌}
use native.Mathlib.Omega.{arith}
use borrow.Author.Tests.{eq-eqb, ne_eqb, eqb-true}
use lib.Dec.{eqb}
use Rattle.laws.specs.Choice.{on_some, map_some}
use Rattle.std.specs.Prelude.{if◌then◌else◌, Option as Optional, Some, None}
use Rattle.ocl.specs.Forms.{of_object}
use Rattle.sheet.specs.Text.{Bytes}
use Rattle.sheet.specs.Grammar.Tokens.{Tokens}
use Rattle.sheet.specs.Grammar.Trees.{One, is_undef, attribute, call}
use Rattle.sheet.specs.Grammar.Words.{labelled, attribute_word, definition_word}
use Rattle.sheet.specs.Grammar.Parser.{taking, after_call, Next, plain, or_broken, dot_by, dot_step, call_step, arrow_step, step_of}
use Rattle.nodes.specs.Nodes.{access_code}
use Rattle.tokens.specs.Codes.{code_of}
use Rattle.tokens.specs.Meanings.{part, onward, Ahead, NextIs}
use Rattle.tokens.specs.declared.Token.{Token}
use Rattle.tokens.proofs.WordCodes.{after_bracket, is_dot, is_arrow, is_undef_lem, is_cast}
use Rattle.phrases.specs.Forms.{one_words, cast_step}
use Rattle.phrases.specs.Meanings.{AfterIs, LabelledAs, labelled_one, StandsAs, StepAs, step_ends, step_broken, step_plain}
use Rattle.phrases.specs.declared.Postfix.{Postfix}
use Rattle.phrases.specs.declared.Postfix.TheVariants as step
use Rattle.phrases.proofs.WordLaws as words
use Rattle.phrases.proofs.StepLaws.{step_later}

-- ---- after `.`

-- by the attribute and the definition that a token may be, each with what follows
unfoldable dot_seen : Option (ℕ × Tokens) → Option (ℕ × Tokens) → Tokens → Option Next
dot_seen (some x) d l = some (plain (attribute of_object x.0) x.1)
dot_seen none (some x) l = map_some (plain (call x.0)) (after_call x.1)
dot_seen none none [] = none
dot_seen none none (w ∷ s) =
    if eqb (code_of w) 30 then map_some (plain is_undef) (after_call s) else if eqb (code_of w) 12 then cast_step s else none

dot_seen_lem : (l : Tokens) → dot_step l ≡ dot_seen (taking (labelled 97) l) (taking (labelled 100) l) l
unfolding dot_step dot_by dot_seen taking map_some attribute_word definition_word cast_step
dot_seen_lem [] = refl
dot_seen_lem (w ∷ s) = go (labelled 97 w) (labelled 100 w)
  where
    go : (a d : Option ℕ) → dot_by a d w s ≡ dot_seen (map_some (λ x. (x, s)) a) (map_some (λ x. (x, s)) d) (w ∷ s)
    go (some n) d = refl
    go none (some n) = refl
    go none none = rw (is_undef_lem w, is_cast w)

module _ {s : Bytes} {t : Token} {r : Optional (ℕ × Token)} (h : LabelledAs s t (taking (labelled 97) (onward s t)) r) where
  pub dot_attribute : {x : ℕ} {u : Token} → r ≡ Some (x, u) → StepAs s t (or_broken (dot_step (onward s t))) (step.Plain 33 x u)
  unfolding dot_seen or_broken one_words access_code
  dot_attribute {x} {u} d = go (rw d at h)
    where
      go : LabelledAs s t (taking (labelled 97) (onward s t)) (Some (x, u)) → StepAs s t (or_broken (dot_step (onward s t))) (step.Plain 33 x u)
      go (labelled_one n e p g) = step_plain {u = u} (attribute of_object n) (rw (dot_seen_lem (onward s t), e)) (record { code = refl; number = p }) g

  module _ (d : r ≡ None) {q : Optional (ℕ × Token)} (g : LabelledAs s t (taking (labelled 100) (onward s t)) q) where
    pub dot_definition : {x : ℕ} {u : Token} {a : Postfix} → q ≡ Some (x, u)
        → ((f : One) → StandsAs f 36 x → StepAs s u (or_broken (map_some (plain f) (after_call (onward s u)))) a) → StepAs s t (or_broken (dot_step (onward s t))) a
    unfolding dot_seen one_words
    dot_definition {x} {u} {a} e k = go (rw e at g)
      where
        go : LabelledAs s t (taking (labelled 100) (onward s t)) (Some (x, u)) → StepAs s t (or_broken (dot_step (onward s t))) a
        go (labelled_one n c p f) =
            let w = f.from in
            step_later {t = u} (omega arith) (rw (dot_seen_lem (onward s t), words.unlabelled h d, c) (k (call n) (record { code = refl; number = p })))

    module _ (e : q ≡ None) (a : Ahead s t) where
      seen : dot_step (onward s t) ≡ dot_seen none none (onward s t)
      seen = rw (dot_seen_lem (onward s t), words.unlabelled h d, words.unlabelled g e)

      module _ {u : Token} (m : NextIs s t.end u) where
        no_end : {k : ℕ} → k < 65 → t.code ≡ k → t.code ≢ 65
        no_end l c z = omega arith

        pub dot_undef : {b : Postfix} → t.code ≡ 30 → ((f : One) → StandsAs f 30 0 → StepAs s u (or_broken (map_some (plain f) (after_call (onward s u)))) b) → StepAs s t (or_broken (dot_step (onward s t))) b
        unfolding dot_seen one_words
        dot_undef c k =
            let z = no_end {k = 30} (omega arith) c in
            let w = (words.further a z m).from in
            step_later {t = u} (omega arith)
            (rw (seen, words.front a z m, eq-eqb _ 30 (sym (words.coded a z) ∙ c)) (k is_undef (record { code = refl; number = refl })))

        pub dot_cast : {b : Postfix} → t.code ≡ 12 → StepAs s u (or_broken (cast_step (onward s u))) b → StepAs s t (or_broken (dot_step (onward s t))) b
        unfolding dot_seen
        dot_cast c k =
            let z = no_end {k = 12} (omega arith) c in
            let w = (words.further a z m).from in
            let x : code_of (part s t.start t.end) ≡ 12 = sym (words.coded a z) ∙ c in
            step_later {t = u} (omega arith) (rw (seen, words.front a z m, x) k)

      pub dot_broken : t.code ≢ 30 → t.code ≢ 12 → StepAs s t (or_broken (dot_step (onward s t))) step.Broken
      unfolding dot_seen or_broken
      dot_broken x y = step_broken (ap or_broken seen ∙ go (eqb t.code 65) refl)
        where
          go : (b : Bool) → eqb t.code 65 ≡ b → or_broken (dot_seen none none (onward s t)) ≡ Next.broken
          go true z = rw (a.none (eqb-true _ _ z))
          go false z =
              let n : t.code ≢ 65 = λ v. true≢false (sym (eq-eqb _ _ v) ∙ z) in
              let c = words.coded a n in
              rw ((a.one n).1, ne_eqb _ 30 (λ v. x (c ∙ v)), ne_eqb _ 12 (λ v. y (c ∙ v)))

-- ---- after `->`

module _ {s : Bytes} {t : Token} (h : Ahead s t) where
  pub arrow_end : t.code ≡ 65 → StepAs s t (or_broken (arrow_step (onward s t))) step.Broken
  unfolding arrow_step or_broken
  arrow_end e = step_broken (rw (h.none e))

  module _ (n : t.code ≢ 65) {u : Token} (m : NextIs s t.end u) {q : Optional Token} (g : AfterIs s u 40 q) where
    pub arrow_unopened : q ≡ None → StepAs s t (or_broken (arrow_step (onward s t))) step.Broken
    unfolding arrow_step on_some or_broken
    arrow_unopened d = step_broken (rw (words.front h n m, after_bracket (onward s u), words.gone g d))

    pub arrow_call : {v : Token} {a : Postfix} → q ≡ Some v
        → ((b : Token) (w : Bytes) → b.start < v.start → code_of w ≡ t.code → StepAs s b (or_broken (call_step w (onward s v))) a) → StepAs s t (or_broken (arrow_step (onward s t))) a
    unfolding arrow_step on_some
    arrow_call {v} d k =
        let f = words.farther (words.further h n m) (words.came_further g d) in
        rw (words.front h n m, after_bracket (onward s u), words.came g d) (k t (part s t.start t.end) f.from (sym (words.coded h n)))

-- ---- a step

module _ {s : Bytes} {t : Token} (h : Ahead s t) where
  pub no_step : t.code ≢ 48 → t.code ≢ 49 → StepAs s t (step_of (onward s t)) step.Ends
  unfolding step_of
  no_step x y = step_ends (go (eqb t.code 65) refl)
    where
      go : (b : Bool) → eqb t.code 65 ≡ b → step_of (onward s t) ≡ Next.ends
      go true z = rw (h.none (eqb-true _ _ z))
      go false z =
          let n : t.code ≢ 65 = λ v. true≢false (sym (eq-eqb _ _ v) ∙ z) in
          let c = words.coded h n in
          rw ((h.one n).1, is_dot (part s t.start t.end), is_arrow (part s t.start t.end), ne_eqb _ 48 (λ v. x (c ∙ v)), ne_eqb _ 49 (λ v. y (c ∙ v)))

  module _ {u : Token} (m : NextIs s t.end u) {a : Postfix} where
    pub a_dot : t.code ≡ 48 → StepAs s u (or_broken (dot_step (onward s u))) a → StepAs s t (step_of (onward s t)) a
    unfolding step_of
    a_dot c k =
        let n : t.code ≢ 65 = λ z. omega arith in
        let w = (words.further h n m).from in
        let x : code_of (part s t.start t.end) ≡ 48 = sym (words.coded h n) ∙ c in
        step_later {t = u} (omega arith) (rw (words.front h n m, is_dot (part s t.start t.end), x) k)

    pub an_arrow : t.code ≡ 49 → StepAs s u (or_broken (arrow_step (onward s u))) a → StepAs s t (step_of (onward s t)) a
    unfolding step_of
    an_arrow c k =
        let n : t.code ≢ 65 = λ z. omega arith in
        let w = (words.further h n m).from in
        let x : code_of (part s t.start t.end) ≡ 49 = sym (words.coded h n) ∙ c in
        step_later {t = u} (omega arith) (rw (words.front h n m, is_dot (part s t.start t.end), is_arrow (part s t.start t.end), x) k)

-- Laws of the steps after `->`, by the code of the form's word. Assumes nothing.
use mathlib.Core.Path.{◌≡◌, refl, sym, ap, ◌∙◌}
use mathlib.Core.Logic.{◌≢◌}
use mathlib.Core.Bool.{Bool, true, false, not}
use mathlib.Core.Option.{Option, none}
use mathlib.Core.List.{List, [], ◌∷◌}
use Prim.Native.Nat.{ℕ, ◌<◌}
use native.Mathlib.Omega.{arith}
use borrow.Author.Tests.{ne_eqb, eqb-true}
use lib.Dec.{eqb}
use Rattle.laws.specs.Choice.{or_else, on_some, map_some}
use Rattle.std.specs.Prelude.{if◌then◌else◌}
use Rattle.laws.proofs.Options.{or_else_none}
use Rattle.ocl.specs.Types.{set, sequence, bag}
use Rattle.ocl.specs.Forms.{Quantifier, for_all, exists, size_of, convert, includes, including, union}
use Rattle.sheet.specs.Text.{Bytes, bytes}
use Rattle.sheet.specs.Lines.{is}
use Rattle.sheet.specs.Grammar.Tokens.{Tokens}
use Rattle.sheet.specs.Grammar.Trees.{One, unary, Two, binary, quantified}
use Rattle.sheet.specs.Grammar.Words.{named, plain_forms, argument_forms, quantifiers}
use Rattle.sheet.specs.Grammar.Parser.{after, Next, plain, argument, or_broken, quantified_step, iterate_step, collect_step, call_step}
use Rattle.nodes.specs.Nodes.{unary_words, binary_code, quantifier_code}
use Rattle.tokens.specs.Codes.{codes, or_code, code_of, after_code}
use Rattle.tokens.specs.Meanings.{onward, Ahead}
use Rattle.tokens.specs.declared.Token.{Token}
use Rattle.tokens.proofs.CodeLaws.{by_code, coded, all_coded, named_told, all_to, every_code}
use Rattle.tokens.proofs.WordCodes.{after_close, is_iter, is_collect}
use Rattle.phrases.specs.Forms.{one_words, two_words, call_kind}
use Rattle.phrases.specs.Meanings.{StandsAs, StepAs, step_broken, step_argument}
use Rattle.phrases.specs.declared.Postfix.{Postfix}
use Rattle.phrases.specs.declared.Postfix.TheVariants as step
use Rattle.phrases.proofs.RowLaws.{fits, Row, row, off_row, on_row, alone, is_alone, one_alone, two_alone}
use Rattle.phrases.proofs.StepLaws.{step_later, step_same}

-- ---- the forms by their codes

unfoldable plains : List (ℕ × One)
plains = (8, unary size_of) ∷ (9, unary (convert set)) ∷ (10, unary (convert sequence)) ∷ (11, unary (convert bag)) ∷ []

unfoldable arguments : List (ℕ × Two)
arguments = (20, binary includes) ∷ (21, binary including) ∷ (22, binary union) ∷ []

unfoldable quantifying : List (ℕ × Quantifier)
quantifying = (25, for_all) ∷ (26, exists) ∷ []

unfoldable call_by : ℕ → Tokens → Option Next
call_by k s =
    or_else (on_some (by_code plains k) (λ f. map_some (plain f) (after ")" s)))
    (or_else (map_some (λ f. argument f s) (by_code arguments k))
    (or_else (on_some (by_code quantifying k) (λ q. quantified_step (quantified q) s))
    (if eqb k 35 then iterate_step s else if eqb k 34 then collect_step s else none)))

plains_told : (w : Bytes) → named plain_forms w ≡ by_code plains (code_of w)
unfolding plains coded all_coded plain_forms code_of or_code named codes is bytes
plains_told w = named_told plain_forms refl w

arguments_told : (w : Bytes) → named argument_forms w ≡ by_code arguments (code_of w)
unfolding arguments coded all_coded argument_forms code_of or_code named codes is bytes
arguments_told w = named_told argument_forms refl w

quantifiers_told : (w : Bytes) → named quantifiers w ≡ by_code quantifying (code_of w)
unfolding quantifying coded all_coded quantifiers code_of or_code named codes is bytes
quantifiers_told w = named_told quantifiers refl w

call_told : (w : Bytes) (s : Tokens) → call_step w s ≡ call_by (code_of w) s
unfolding call_step call_by
call_told w s = rw (plains_told w, arguments_told w, quantifiers_told w, is_iter w, is_collect w)

-- ---- which of them a code is

-- a quantifier that has the code
unfoldable quantifies : Quantifier → ℕ → Bool
quantifies q k = eqb (quantifier_code q) k

plains_fit : all_to (λ k. fits call_kind one_alone 1 k (by_code plains k)) 65 ≡ true
unfolding all_to fits one_alone alone by_code plains call_kind one_words unary_words
plains_fit = refl

arguments_fit : all_to (λ k. fits call_kind two_alone 2 k (by_code arguments k)) 65 ≡ true
unfolding all_to fits two_alone alone by_code arguments call_kind two_words binary_code
arguments_fit = refl

quantifiers_fit : all_to (λ k. fits call_kind quantifies 3 k (by_code quantifying k)) 65 ≡ true
unfolding all_to fits quantifies by_code quantifying call_kind quantifier_code
quantifiers_fit = refl

-- `collect` and `iter`
unfoldable same : Bool → Bool → Bool
same true b = b
same false b = not b

same_is : (a b : Bool) → same a b ≡ true → a ≡ b
unfolding same
same_is true b e = sym e
same_is false true e = e
same_is false false e = refl

collects : all_to (λ k. same (eqb k 34) (eqb (call_kind k) 4)) 65 ≡ true
unfolding all_to same call_kind
collects = refl

iterates : all_to (λ k. same (eqb k 35) (eqb (call_kind k) 5)) 65 ≡ true
unfolding all_to same call_kind
iterates = refl

-- ---- the returns of `call_step`

module _ (s : Bytes) (t : Token) {k r : ℕ} (e : r ≡ call_kind k) (b : Token) (w : Bytes) (l : b.start < t.start) (c : code_of w ≡ k) where
  kind : {j : ℕ} → r ≡ j → call_kind (code_of w) ≡ j
  kind d = ap call_kind c ∙ sym e ∙ d

  no_plain : {j : ℕ} → r ≡ j → j ≢ 1 → by_code plains (code_of w) ≡ none
  no_plain d n = off_row plains call_kind one_alone 1 plains_fit w (λ x. n (sym (kind d) ∙ x))

  no_argument : {j : ℕ} → r ≡ j → j ≢ 2 → by_code arguments (code_of w) ≡ none
  no_argument d n = off_row arguments call_kind two_alone 2 arguments_fit w (λ x. n (sym (kind d) ∙ x))

  no_quantifier : {j : ℕ} → r ≡ j → j ≢ 3 → by_code quantifying (code_of w) ≡ none
  no_quantifier d n = off_row quantifying call_kind quantifies 3 quantifiers_fit w (λ x. n (sym (kind d) ∙ x))

  collect_is : {j : ℕ} → r ≡ j → eqb (code_of w) 34 ≡ eqb j 4
  collect_is d = same_is _ _ (every_code (λ i. same (eqb i 34) (eqb (call_kind i) 4)) collects w) ∙ ap (λ (i : ℕ). eqb i 4) (kind d)

  iterate_is : {j : ℕ} → r ≡ j → eqb (code_of w) 35 ≡ eqb j 5
  iterate_is d = same_is _ _ (every_code (λ i. same (eqb i 35) (eqb (call_kind i) 5)) iterates w) ∙ ap (λ (i : ℕ). eqb i 5) (kind d)

  told : {n : Next} {a : Postfix} → or_broken (call_by (code_of w) (onward s t)) ≡ n → StepAs s b n a → StepAs s b (or_broken (call_step w (onward s t))) a
  told q h = step_same (ap or_broken (call_told w (onward s t)) ∙ q) h

  pub plain_answer : {a : Postfix} → r ≡ 1 → ((f : One) → StandsAs f k 0 → StepAs s t (or_broken (map_some (plain f) (after_code 41 (onward s t)))) a) → StepAs s b (or_broken (call_step w (onward s t))) a
  unfolding call_by or_else on_some map_some one_alone
  plain_answer {a} d h = go (on_row plains call_kind one_alone 1 plains_fit w (kind d))
    where
      go : Row plains one_alone (code_of w) → StepAs s b (or_broken (call_step w (onward s t))) a
      go (row f p q) =
          let x = is_alone (one_words f) k (rw (← c) q) in
          told (ap or_broken (rw (p, no_argument d (λ z. omega arith), no_quantifier d (λ z. omega arith), iterate_is d, collect_is d, after_close (onward s t))
          (or_else_none (map_some (plain f) (after_code 41 (onward s t))))))
          (step_later {t = t} (omega arith) (h f (record { code = rw x; number = rw x })))

  pub argument_answer : Ahead s t → r ≡ 2 → StepAs s b (or_broken (call_step w (onward s t))) (step.Argument k 0 t)
  unfolding call_by or_else on_some map_some or_broken two_alone
  argument_answer h d = go (on_row arguments call_kind two_alone 2 arguments_fit w (kind d))
    where
      go : Row arguments two_alone (code_of w) → StepAs s b (or_broken (call_step w (onward s t))) (step.Argument k 0 t)
      go (row f p q) =
          let x = is_alone (two_words f) k (rw (← c) q) in
          told (rw (no_plain d (λ z. omega arith), p)) (step_argument {u = t} f refl (record { code = rw x; number = rw x }) (record { ahead = h; from = l }))

  pub quantifier_answer : {a : Postfix} → r ≡ 3 → ((q : Quantifier) → quantifier_code q ≡ k → StepAs s t (or_broken (quantified_step (quantified q) (onward s t))) a) → StepAs s b (or_broken (call_step w (onward s t))) a
  unfolding call_by or_else on_some map_some quantifies
  quantifier_answer {a} d h = go (on_row quantifying call_kind quantifies 3 quantifiers_fit w (kind d))
    where
      go : Row quantifying quantifies (code_of w) → StepAs s b (or_broken (call_step w (onward s t))) a
      go (row q p g) =
          told (ap or_broken (rw (no_plain d (λ z. omega arith), no_argument d (λ z. omega arith), p, iterate_is d, collect_is d) (or_else_none (quantified_step (quantified q) (onward s t)))))
          (step_later {t = t} (omega arith) (h q (eqb-true _ _ g ∙ c)))

  module _ {j : ℕ} (d : r ≡ j) (x : j ≢ 1) (y : j ≢ 2) (z : j ≢ 3) where
    late : call_by (code_of w) (onward s t) ≡ (if eqb j 5 then iterate_step (onward s t) else if eqb j 4 then collect_step (onward s t) else none)
    unfolding call_by or_else on_some map_some
    late = rw (no_plain d x, no_argument d y, no_quantifier d z, iterate_is d, collect_is d)

  pub collect_answer : {a : Postfix} → r ≡ 4 → StepAs s t (or_broken (collect_step (onward s t))) a → StepAs s b (or_broken (call_step w (onward s t))) a
  collect_answer {a} d h = told (ap or_broken (late d (λ z. omega arith) (λ z. omega arith) (λ z. omega arith))) (step_later {t = t} (omega arith) h)

  pub iterate_answer : {a : Postfix} → r ≡ 5 → StepAs s t (or_broken (iterate_step (onward s t))) a → StepAs s b (or_broken (call_step w (onward s t))) a
  iterate_answer {a} d h = told (ap or_broken (late d (λ z. omega arith) (λ z. omega arith) (λ z. omega arith))) (step_later {t = t} (omega arith) h)

  pub broken_answer : r ≢ 1 → r ≢ 2 → r ≢ 3 → r ≢ 4 → r ≢ 5 → StepAs s b (or_broken (call_step w (onward s t))) step.Broken
  unfolding or_broken
  broken_answer n m o p q = told (ap or_broken (late refl n m o) ∙ rw (ne_eqb r 5 q, ne_eqb r 4 p)) (step_broken refl)

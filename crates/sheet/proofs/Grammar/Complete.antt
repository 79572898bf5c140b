-- What the grammar reads, the parser finds, where nothing goes on with it and the descent is not cut short. Assumes nothing.
use mathlib.Core.Path.{◌≡◌, refl, ◌∙◌}
use mathlib.Core.Option.{none, some}
use mathlib.Core.List.{◌∷◌}
use Prim.Native.Nat.{ℕ, zero, suc, ◌+◌, ◌*◌, ◌<◌, ◌≤◌}
use lib.ListN.{length}
use native.Mathlib.Omega.{arith}
use Rattle.laws.specs.Choice.{on_some, map_some}
use Rattle.sheet.specs.Text.{Bytes, bytes}
use Rattle.sheet.specs.Lines.{is}
use Rattle.ocl.specs.Forms.{negation}
use Rattle.sheet.specs.Grammar.Tokens.{Tokens}
use Rattle.sheet.specs.Grammar.Trees.{One, unary, Two, let_in, Three, conditional, Tree, one, two, three, assemble, Trees}
use Rattle.sheet.specs.Grammar.Words.{named, variable_word, kinds, comparisons}
use Rattle.sheet.specs.Grammar.Sentences.{◌then◌, Level, whole, disjunction, conjunction, comparison, sum, product, prefix, postfix, primary, ◌over◌, whole_over, disjunction_over, conjunction_over, comparison_over, sum_over, product_over, prefix_over, postfix_over, Sign, or_sign, and_sign, sum_sign, product_sign, Reads, let_in_lem, next, leaning, compared, negated, word, instances, bracketed, if_then_else, no_members, members, last_member, next_member, attribute_step, call_step_lem, cast_step, undefined_step, plain_step, collect_step_lem, argument_step, quantified_step_lem, iterate_step_lem}
use Rattle.sheet.specs.Grammar.Parser.{after, done, start_of, plain, argument, iteration, step_of, signs, sign_of, tighter, rank, parse, chain, steps, parse_members}
use Rattle.sheet.proofs.Grammar.Single.{after_word, taking_one, binding_one}
use Rattle.sheet.proofs.Grammar.Stops.{continues, Stops, stops_word, stops_tighter, no_sign, stops_sign, Fresh, fresh, shorter, shorter_type}
use Rattle.sheet.proofs.Grammar.Seen.{start_word, start_bracket, start_condition, start_instances, start_empty, start_members, members_unclosed, step_attribute, step_call, step_cast, step_undefined, step_plain, step_collect, step_argument, step_quantified, step_iterate}
use Rattle.sheet.proofs.Grammar.Reached.{Finds, Reach, bar_closes, brace_closes, bracket_closes, comma_closes, compare_by, else_closes, endif_closes, found, in_closes, inner, members_by, prefix_by, primary_by, resume, then_closes, whole_by}

-- ---- one law for each way to read

reach_let : {v : Bytes} {i : ℕ} {s s' : Tokens} {e b : Tree} {r : Tokens} → variable_word v ≡ some i → length ("in" then s') < length s → length r < length s'
    → Finds whole s e ("in" then s') → Finds whole s' b r → Reach whole ("let" then v ∷ ("=" then s)) (two (let_in i) e b) r
unfolding parse resume rank inner on_some map_some
reach_let ev p q h k st zero n = absurd (omega arith)
reach_let ev p q h k st (suc zero) n = absurd (omega arith)
reach_let {v} {i} {s} {s'} {e} {b} {r} ev p q h k st (suc (suc f)) n = record {
  left = 16 * length r + 1;
  room = omega arith;
  same = whole_by (suc f) ("let" then v ∷ ("=" then s)) (after_word "let" (v ∷ ("=" then s)))
      ∙ rw (binding_one v s ev, h (in_closes s') f (omega arith), after_word "in" s', k st f (omega arith));
}

reach_next : {l m : Level} {s : Tokens} {t : Tree} {r : Tokens} → l over m → length r < length s → Fresh m s → Finds m s t r → Reach l s t r
unfolding parse resume rank inner tighter on_some Fresh
reach_next whole_over p q h st zero n = absurd (omega arith)
reach_next whole_over p q h st (suc zero) n = absurd (omega arith)
reach_next {s} {r} whole_over p q h st (suc (suc f)) n =
    record { left = 16 * length r + 1; room = omega arith; same = whole_by (suc f) s q.no_let ∙ h (stops_tighter whole st) f (omega arith) }
reach_next disjunction_over p q h st zero n = absurd (omega arith)
reach_next disjunction_over p q h st (suc f) n = record { left = f; room = omega arith; same = rw (h st f (omega arith)) }
reach_next conjunction_over p q h st zero n = absurd (omega arith)
reach_next conjunction_over p q h st (suc f) n = record { left = f; room = omega arith; same = rw (h st f (omega arith)) }
reach_next comparison_over p q h st zero n = absurd (omega arith)
reach_next comparison_over p q h st (suc zero) n = absurd (omega arith)
reach_next {s} {t} {r} comparison_over p q h st (suc (suc f)) n =
    record { left = 16 * length r + 1; room = omega arith; same = compare_by (suc f) s t r (h (stops_tighter comparison st) (suc f) (omega arith)) (no_sign comparison st) }
reach_next sum_over p q h st zero n = absurd (omega arith)
reach_next sum_over p q h st (suc f) n = record { left = f; room = omega arith; same = rw (h st f (omega arith)) }
reach_next product_over p q h st zero n = absurd (omega arith)
reach_next product_over p q h st (suc f) n = record { left = f; room = omega arith; same = rw (h st f (omega arith)) }
reach_next prefix_over p q h st zero n = absurd (omega arith)
reach_next prefix_over p q h st (suc zero) n = absurd (omega arith)
reach_next {s} {r} prefix_over p q h st (suc (suc f)) n =
    record { left = 16 * length r + 1; room = omega arith; same = prefix_by (suc f) s q.no_not ∙ h (stops_tighter prefix st) f (omega arith) }
reach_next postfix_over p q h st zero n = absurd (omega arith)
reach_next postfix_over p q h st (suc f) n = record { left = f; room = omega arith; same = rw (h st f (omega arith)) }

-- a level's sign and its right side, after what was reached before it
record Chained (f : ℕ) (l : Level) (s : Tokens) (t : Tree) (r : Tokens) : Type 0 where
  pub left : ℕ
  pub room : 16 * length r + 1 ≤ left
  pub same : parse f l s ≡ chain left l t r (sign_of l r)

chain_more : (l : Level) (w : Bytes) (g : Two) {f : ℕ} {s : Tokens} (s' : Tokens) (a b : Tree) (r : Tokens) → rank (tighter l) ≤ 12 → named (signs l) w ≡ some g
    → length r < length s' → Chained f l s a (w ∷ s') → Finds (tighter l) s' b r → Stops (tighter l) r → Chained f l s (two g a b) r
unfolding sign_of chain on_some
chain_more l w g {f} {s} s' a b r small e p x k st = go x.left x.room x.same
  where
    go : (left : ℕ) → 16 * length (w ∷ s') + 1 ≤ left → parse f l s ≡ chain left l a (w ∷ s') (sign_of l (w ∷ s')) → Chained f l s (two g a b) r
    go zero m q = absurd (omega arith)
    go (suc left) m q = record {
      left = left;
      room = omega arith;
      same = q ∙ rw (taking_one (named (signs l)) w s' e, k st left (omega arith));
    }

reach_leaning : {l m : Level} {w : Bytes} {g : Two} {s s' : Tokens} {a b : Tree} {r : Tokens} → Sign l m w g → length r < length s'
    → Reach l s a (w ∷ s') → Finds m s' b r → Reach l s (two g a b) r
unfolding resume inner signs tighter rank
reach_leaning {w} {g} {s'} {a} {b} {r} (or_sign e) p h k st f n =
    let x = h (stops_sign disjunction s' e) f n in
    let y = chain_more disjunction w g s' a b r (omega arith) e p (record { left = x.left; room = x.room; same = x.same }) k st in
    record { left = y.left; room = y.room; same = y.same }
reach_leaning {w} {g} {s'} {a} {b} {r} (and_sign e) p h k st f n =
    let x = h (stops_sign conjunction s' e) f n in
    let y = chain_more conjunction w g s' a b r (omega arith) e p (record { left = x.left; room = x.room; same = x.same }) k st in
    record { left = y.left; room = y.room; same = y.same }
reach_leaning {w} {g} {s'} {a} {b} {r} (sum_sign e) p h k st f n =
    let x = h (stops_sign sum s' e) f n in
    let y = chain_more sum w g s' a b r (omega arith) e p (record { left = x.left; room = x.room; same = x.same }) k st in
    record { left = y.left; room = y.room; same = y.same }
reach_leaning {w} {g} {s'} {a} {b} {r} (product_sign e) p h k st f n =
    let x = h (stops_sign product s' e) f n in
    let y = chain_more product w g s' a b r (omega arith) e p (record { left = x.left; room = x.room; same = x.same }) k st in
    record { left = y.left; room = y.room; same = y.same }

reach_compared : {w : Bytes} {g : Two} {s s' : Tokens} {a b : Tree} {r : Tokens} → named comparisons w ≡ some g → length (w ∷ s') < length s
    → Finds sum s a (w ∷ s') → Finds sum s' b r → Reach comparison s (two g a b) r
unfolding parse resume rank inner signs sign_of tighter on_some map_some
reach_compared e p h k st zero n = absurd (omega arith)
reach_compared e p h k st (suc zero) n = absurd (omega arith)
reach_compared {w} {s} {s'} {a} {r} e p h k st (suc (suc f)) n = record {
  left = 16 * length r + 1;
  room = omega arith;
  same = compare_by (suc f) s a (w ∷ s') (h (stops_sign comparison s' e) (suc f) (omega arith)) (taking_one (named comparisons) w s' e)
      ∙ rw (k (stops_tighter comparison st) f (omega arith));
}

reach_negated : {s : Tokens} {a : Tree} {r : Tokens} → Finds prefix s a r → Reach prefix ("not" then s) (one (unary negation) a) r
unfolding parse resume rank inner map_some
reach_negated h st zero n = absurd (omega arith)
reach_negated h st (suc zero) n = absurd (omega arith)
reach_negated {s} {r} h st (suc (suc f)) n =
    record { left = 16 * length r + 1; room = omega arith; same = prefix_by (suc f) ("not" then s) (after_word "not" s) ∙ rw (h st f (omega arith)) }

-- ---- postfix steps

any_word : (w : Bytes) (s : Tokens) → Stops primary (w ∷ s)
unfolding continues
any_word w s = stops_word refl

-- steps that were reached before s, with what the parser sees there
record Stepped (f : ℕ) (s₀ : Tokens) (a : Tree) (s : Tokens) : Type 0 where
  pub left : ℕ
  pub room : 16 * length s ≤ left
  pub same : parse f postfix s₀ ≡ steps (suc left) a s (step_of s)

stepped : (f : ℕ) (s₀ : Tokens) (a : Tree) (w : Bytes) (s : Tokens) → Reach postfix s₀ a (w ∷ s) → 16 * length s₀ + rank postfix ≤ f → Stepped f s₀ a (w ∷ s)
unfolding inner resume
stepped f s₀ a w s h n = go (h (any_word w s) f n).left (h (any_word w s) f n).room (h (any_word w s) f n).same
  where
    go : (left : ℕ) → 16 * length (w ∷ s) + 1 ≤ left → parse f postfix s₀ ≡ resume postfix left a (w ∷ s) → Stepped f s₀ a (w ∷ s)
    go zero m q = absurd (omega arith)
    go (suc left) m q = record { left = left; room = omega arith; same = q }

reach_plain : {s₀ : Tokens} {a : Tree} (w : Bytes) (s : Tokens) (g : One) {r : Tokens} → step_of (w ∷ s) ≡ plain g r → length r < length (w ∷ s)
    → Reach postfix s₀ a (w ∷ s) → Reach postfix s₀ (one g a) r
unfolding steps resume
reach_plain {s₀} {a} w s g {r} e p h st f n =
    let x = stepped f s₀ a w s h n in
    let m = x.room in
    record { left = x.left; room = omega arith; same = x.same ∙ rw e }

reach_argument : {s₀ : Tokens} {a e : Tree} (w : Bytes) (s : Tokens) (g : Two) (s' r : Tokens) → step_of (w ∷ s) ≡ argument g s'
    → length s' < length (w ∷ s) → length (")" then r) < length s'
    → Reach postfix s₀ a (w ∷ s) → Finds whole s' e (")" then r) → Reach postfix s₀ (two g a e) r
unfolding steps resume rank on_some
reach_argument {s₀} {a} {e} w s g s' r d p q h k st f n =
    let x = stepped f s₀ a w s h n in
    let m = x.room in
    record { left = x.left; room = omega arith; same = x.same ∙ rw (d, k (bracket_closes r) x.left (omega arith), after_word ")" r) }

reach_iteration : {s₀ : Tokens} {a e b : Tree} (w : Bytes) (s : Tokens) (g : Three) (s' s'' r : Tokens) → step_of (w ∷ s) ≡ iteration g s'
    → length s' < length (w ∷ s) → length ("|" then s'') < length s' → length (")" then r) < length s''
    → Reach postfix s₀ a (w ∷ s) → Finds whole s' e ("|" then s'') → Finds whole s'' b (")" then r) → Reach postfix s₀ (three g a e b) r
unfolding steps resume rank on_some
reach_iteration {s₀} {a} {e} {b} w s g s' s'' r d p q u h k j st f n =
    let x = stepped f s₀ a w s h n in
    let m = x.room in
    record {
      left = x.left;
      room = omega arith;
      same = x.same ∙ rw (d, k (bar_closes s'') x.left (omega arith), after_word "|" s'', j (bracket_closes r) x.left (omega arith), after_word ")" r);
    }

-- ---- primaries

reach_done : {s : Tokens} {t : Tree} {r : Tokens} → start_of s ≡ some (done t r) → length r < length s → Reach primary s t r
unfolding parse resume rank
reach_done e p st zero n = absurd (omega arith)
reach_done e p st (suc zero) n = absurd (omega arith)
reach_done {s} {t} {r} e p st (suc (suc f)) n = record { left = 16 * length r + 1; room = omega arith; same = primary_by (suc f) s e }

reach_bracketed : {s : Tokens} {t : Tree} {r : Tokens} → length (")" then r) < length s → Finds whole s t (")" then r) → Reach primary ("(" then s) t r
unfolding parse resume rank on_some map_some
reach_bracketed p h st zero n = absurd (omega arith)
reach_bracketed p h st (suc zero) n = absurd (omega arith)
reach_bracketed {s} {t} {r} p h st (suc (suc f)) n = record {
  left = 16 * length r + 1;
  room = omega arith;
  same = primary_by (suc f) ("(" then s) (start_bracket s) ∙ rw (h (bracket_closes r) f (omega arith), after_word ")" r);
}

reach_conditional : {s s' s'' : Tokens} {c a b : Tree} {r : Tokens} → length ("then" then s') < length s → length ("else" then s'') < length s' → length ("endif" then r) < length s''
    → Finds whole s c ("then" then s') → Finds whole s' a ("else" then s'') → Finds whole s'' b ("endif" then r)
    → Reach primary ("if" then s) (three conditional c a b) r
unfolding parse resume rank on_some map_some
reach_conditional p q u h k j st zero n = absurd (omega arith)
reach_conditional p q u h k j st (suc zero) n = absurd (omega arith)
reach_conditional {s} {s'} {s''} {r} p q u h k j st (suc (suc f)) n = record {
  left = 16 * length r + 1;
  room = omega arith;
  same = primary_by (suc f) ("if" then s) (start_condition s) ∙ rw (
    h (then_closes s') f (omega arith),
    after_word "then" s',
    k (else_closes s'') f (omega arith),
    after_word "else" s'',
    j (endif_closes r) f (omega arith),
    after_word "endif" r,
  );
}

abbrev FindsMembers : ℕ → Tokens → Trees → Tokens → Type 0
FindsMembers n s es r = (f : ℕ) → 16 * length s + 13 ≤ f → parse_members f n s ≡ some (es, r)

reach_members : {w : Bytes} {s : Tokens} {k : Rattle.ocl.specs.Types.Kind} {es : Trees} {r : Tokens} → named kinds w ≡ some k → after "}" s ≡ none
    → FindsMembers 4 s es r → Reach primary (w ∷ ("{" then s)) (assemble k es) r
unfolding parse resume rank map_some
reach_members e d h st zero n = absurd (omega arith)
reach_members e d h st (suc zero) n = absurd (omega arith)
reach_members {w} {s} {r} e d h st (suc (suc f)) n = record {
  left = 16 * length r + 1;
  room = omega arith;
  same = primary_by (suc f) (w ∷ ("{" then s)) (start_members w s e d) ∙ rw (h f (omega arith));
}

find_last : (n : ℕ) (s : Tokens) (e : Tree) (r : Tokens) → Finds whole s e ("}" then r) → FindsMembers (suc n) s (Trees.more e Trees.none) r
unfolding parse rank
find_last n s e r h zero m = absurd (omega arith)
find_last n s e r h (suc zero) m = absurd (omega arith)
find_last n s e r h (suc (suc f)) m = members_by (suc f) n s e ("}" then r) (h (brace_closes r) (suc f) (omega arith)) (after_word "}" r)

brace_comma : (s : Tokens) → after "}" ("," then s) ≡ none
unfolding after is bytes
brace_comma s = refl

find_next : (n : ℕ) (s s' : Tokens) (e : Tree) (es : Trees) (r : Tokens) → length ("," then s') < length s → Finds whole s e ("," then s')
    → FindsMembers n s' es r → FindsMembers (suc n) s (Trees.more e es) r
unfolding parse rank on_some map_some
find_next n s s' e es r p h k zero m = absurd (omega arith)
find_next n s s' e es r p h k (suc zero) m = absurd (omega arith)
find_next n s s' e es r p h k (suc (suc f)) m =
    members_by (suc f) n s e ("," then s') (h (comma_closes s') (suc f) (omega arith)) (brace_comma s')
    ∙ rw (after_word "," s', k f (omega arith))

-- ---- all of them

reach : {l : Level} {s : Tokens} {t : Tree} {r : Tokens} → Reads l s t r → Reach l s t r
reach d = elim d as (λ l s t r x. Reach l s t r) (λ n s es r x. FindsMembers n s es r) [
  | let_in_lem e (h → i) (k → j) ↦ reach_let e (shorter h) (shorter k) (found whole i) (found whole j)
  | next {l} {m} o (h → i) ↦ reach_next o (shorter h) (fresh h) (found m i)
  | leaning {l} {m} g (h → i) (k → j) ↦ reach_leaning g (shorter k) i (found m j)
  | compared e (h → i) (k → j) ↦ reach_compared e (shorter h) (found sum i) (found sum j)
  | negated (h → i) ↦ reach_negated (found prefix i)
  | attribute_step {w} {r} e (h → i) ↦ reach_plain _ _ _ (step_attribute w r e) (omega arith) i
  | call_step_lem {w} {r} e (h → i) ↦ reach_plain _ _ _ (step_call w r e) (omega arith) i
  | cast_step {w} {r} e (h → i) ↦ reach_plain _ _ _ (step_cast w r e) (omega arith) i
  | undefined_step {r} (h → i) ↦ reach_plain _ _ _ (step_undefined r) (omega arith) i
  | plain_step {w} {r} e (h → i) ↦ reach_plain _ _ _ (step_plain w r e) (omega arith) i
  | collect_step_lem {w} {r} e (h → i) ↦ reach_plain _ _ _ (step_collect w r e) (omega arith) i
  | argument_step {s'} {w} {r} e (h → i) (k → j) ↦ reach_argument _ _ _ s' r (step_argument w s' e) (omega arith) (shorter k) i (found whole j)
  | quantified_step_lem {s'} {w} {v} {r} e e' (h → i) (k → j) ↦ reach_argument _ _ _ s' r (step_quantified w v s' e e') (omega arith) (shorter k) i (found whole j)
  | iterate_step_lem {s₂} {s₃} {v} {u} {r} e e' (h → i) t (k → j) (m → x) ↦
      reach_iteration _ _ _ s₂ s₃ r (step_iterate v u s₂ e e' t) (let y = shorter_type t in omega arith) (shorter k) (shorter m) i (found whole j) (found whole x)
  | word {w} {r} e ↦ reach_done (start_word w r e) (omega arith)
  | instances {w} {r} e ↦ reach_done (start_instances w r e) (omega arith)
  | bracketed (h → i) ↦ reach_bracketed (shorter h) (found whole i)
  | if_then_else (h → i) (k → j) (m → x) ↦ reach_conditional (shorter h) (shorter k) (shorter m) (found whole i) (found whole j) (found whole x)
  | no_members {w} {r} e ↦ reach_done (start_empty w r e) (omega arith)
  | members e (h → i) ↦ reach_members e (members_unclosed h) i
  | last_member {n} {s} {e} {r} (h → i) ↦ find_last n s e r (found whole i)
  | next_member {n} {s} {s'} {e} {es} {r} (h → i) (k → j) ↦ find_next n s s' e es r (shorter h) (found whole i) j
]

pub complete : {l : Level} {s : Tokens} {t : Tree} {r : Tokens} → Reads l s t r → Finds l s t r
complete {l} h = found l (reach h)

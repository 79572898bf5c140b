-- What the parser sees at a token is what the grammar has there: primaries and postfix steps. Assumes nothing.
use mathlib.Core.Path.{◌≡◌, refl, ap, ◌∙◌}
use mathlib.Core.Bool.{Bool, true, false}
use mathlib.Core.Option.{Option, none, some}
use mathlib.Core.List.{[], ◌∷◌}
use Prim.Native.Nat.{ℕ}
use Rattle.std.specs.Prelude.{if◌then◌else◌}
use Rattle.laws.proofs.Tests.{All?, all_none, all_some, all_imp, all_on, all_else, all_self, at_some}
use Rattle.ocl.specs.Types.{Kind}
use Rattle.ocl.specs.Forms.{Leaf, of_object}
use Rattle.sheet.specs.Text.{Bytes, bytes}
use Rattle.sheet.specs.Lines.{is}
use Rattle.sheet.specs.Grammar.Tokens.{Tokens}
use Rattle.sheet.specs.Grammar.Trees.{Tree, one, two, three, assemble, Trees, conditional, attribute}
use Rattle.sheet.specs.Grammar.Words.{named, leaf_word, kinds, class_word, attribute_word, definition_word, variable_word, plain_forms, argument_forms, quantifiers}
use Rattle.sheet.specs.Grammar.Sentences.{◌then◌, Reads, whole, primary, word, instances, bracketed, if_then_else, no_members, members, ReadsMembers, postfix, attribute_step, call_step_lem, cast_step, undefined_step, plain_step, collect_step_lem, argument_step, quantified_step_lem, iterate_step_lem}
use Rattle.sheet.specs.Grammar.Parser.{after, Start, done, bracket, condition, collection, instances_start, braces, start_by, start_of, Next, ends, broken, plain, argument, iteration, or_broken, dot_by, dot_step, quantified_step, iterate_step, collect_step, call_step, arrow_step, step_of}
use Rattle.sheet.proofs.Grammar.Single.{all_map, all_if, is_exact, after_all, after_call_all, taking_all, type_in_all}

-- ---- primaries

-- what is left to read for a primary that starts so
unfoldable pub Begins : Tokens → Start → Type 0
Begins s (done t r) = Reads primary s t r
Begins s (bracket s') = (t : Tree) (r : Tokens) → Reads whole s' t (")" then r) → Reads primary s t r
Begins s (condition s') = (c a b : Tree) (p q r : Tokens)
    → Reads whole s' c ("then" then p) → Reads whole p a ("else" then q) → Reads whole q b ("endif" then r)
    → Reads primary s (three conditional c a b) r
Begins s (collection k s') = (es : Trees) (r : Tokens) → ReadsMembers 4 s' es r → Reads primary s (assemble k es) r

instances_begin : (w : Bytes) (s : Tokens) → All? (Begins (w ∷ s)) (instances_start w s)
unfolding instances_start Begins
instances_begin w s =
    all_on (all_self (class_word w)) (λ c e. all_map _
    (all_on (after_all "." s) (λ p d. all_on (after_all "allInstances" p) (λ q f. all_imp (λ r g. d ∙ ap (λ (x : Tokens). "." then x) (f ∙ ap (λ (x : Tokens). "allInstances" then x) g)) (after_call_all q))))
    (λ r h. rw h (instances e)))

braces_begin : (k : Kind) (w : Bytes) (s : Tokens) (o : Option Tokens) → named kinds w ≡ some k → All? (λ r. s ≡ ("}" then r)) o
    → Begins (w ∷ ("{" then s)) (braces k s o)
unfolding braces Begins
braces_begin k w s none d h = λ es r m. members d m
braces_begin k w s (some r) d h = rw (at_some h) (no_members d)

start_begins : (l : Option Leaf) (k : Option Kind) (w : Bytes) (s : Tokens) → leaf_word w ≡ l → named kinds w ≡ k → All? (Begins (w ∷ s)) (start_by l k w s)
unfolding start_by Begins
start_begins (some l) k w s e d = all_some (word e)
start_begins none (some k) w s e d = all_map _ (after_all "{" s) (λ s' h. rw h (braces_begin k w s' (after "}" s') d (after_all "}" s')))
start_begins none none w s e d =
    all_if (is w (bytes "("))
    (λ b. all_some (λ t r h. rw (is_exact w (bytes "(") b) (bracketed h)))
    (λ b. all_if (is w (bytes "if"))
    (λ b. all_some (λ x y z p q r h i j. rw (is_exact w (bytes "if") b) (if_then_else h i j)))
    (λ b. instances_begin w s))

pub begins : (s : Tokens) → All? (Begins s) (start_of s)
unfolding start_of
begins [] = all_none
begins (w ∷ s) = start_begins (leaf_word w) (named kinds w) w s refl refl

-- ---- postfix steps

-- what is left to read for a step that starts so
unfoldable pub Means : Tokens → Next → Type 0
Means s ends = Unit
Means s broken = Unit
Means s (plain g r) = (s₀ : Tokens) (a : Tree) → Reads postfix s₀ a s → Reads postfix s₀ (one g a) r
Means s (argument g s') = (s₀ : Tokens) (a e : Tree) (r : Tokens) → Reads postfix s₀ a s → Reads whole s' e (")" then r) → Reads postfix s₀ (two g a e) r
Means s (iteration g s') = (s₀ : Tokens) (a e b : Tree) (p r : Tokens)
    → Reads postfix s₀ a s → Reads whole s' e ("|" then p) → Reads whole p b (")" then r) → Reads postfix s₀ (three g a e b) r

or_broken_lem : (s : Tokens) {o : Option Next} → All? (Means s) o → Means s (or_broken o)
unfolding Means or_broken
or_broken_lem s all_none = tt
or_broken_lem s (all_some h) = h

dot_means : (o d : Option ℕ) (w : Bytes) (s : Tokens) → attribute_word w ≡ o → definition_word w ≡ d → All? (Means ("." then w ∷ s)) (dot_by o d w s)
unfolding dot_by Means
dot_means (some n) d w s e f = all_some {x = plain (attribute of_object n) s} (λ s₀ a x. attribute_step e x)
dot_means none (some n) w s e f = all_map _ (after_call_all s) (λ r h s₀ a x. call_step_lem f (rw h at x))
dot_means none none w s e f =
    all_if (is w (bytes "isUndef"))
    (λ b. all_map _ (after_call_all s) (λ r h s₀ a x. undefined_step (rw (is_exact w (bytes "isUndef") b, h) at x)))
    (λ b. all_if (is w (bytes "oclAsType"))
    (λ b. all_on (after_all "(" s) (λ p h. all_on (taking_all class_word p) (λ x t. all_map _ (after_all ")" x.1) (λ r i s₀ a y.
    cast_step t.means (rw (is_exact w (bytes "oclAsType") b, h, t.here, i) at y)))))
    (λ b. all_none))

dot_step_means : (s : Tokens) → All? (Means ("." then s)) (dot_step s)
unfolding dot_step
dot_step_means [] = all_none
dot_step_means (w ∷ s) = dot_means (attribute_word w) (definition_word w) w s refl refl

iterate_means : (s : Tokens) → All? (Means ("->" then "iter" then "(" then s)) (iterate_step s)
unfolding iterate_step Means
iterate_means s =
    all_on (taking_all variable_word s) (λ x t. all_on (after_all ";" x.1) (λ p d. all_on (taking_all variable_word p) (λ y u.
    all_on (after_all ":" y.1) (λ q f. all_on (type_in_all q) (λ z h. all_map _ (after_all "=" z.1) (λ v i s₀ a e b m r g j k.
    iterate_step_lem t.means u.means (rw (t.here, d, u.here, f) at g) (rw i at h) j k))))))

collect_means : (s : Tokens) → All? (Means ("->" then "collect" then "(" then s)) (collect_step s)
unfolding collect_step Means
collect_means s = all_on (taking_all attribute_word s) (λ x t. all_map _ (after_all ")" x.1) (λ r h s₀ a y. collect_step_lem t.means (rw (t.here, h) at y)))

call_means : (w : Bytes) (s : Tokens) → All? (Means ("->" then w ∷ ("(" then s))) (call_step w s)
unfolding call_step quantified_step Means
call_means w s =
    all_else (all_on (all_self (named plain_forms w)) (λ f e. all_map _ (after_all ")" s) (λ r h s₀ a x. plain_step e (rw h at x))))
    (all_else (all_map _ (all_self (named argument_forms w)) (λ f e s₀ a b r x h. argument_step e x h))
    (all_else (all_on (all_self (named quantifiers w)) (λ q e. all_on (taking_all variable_word s) (λ x t. all_map _ (after_all "|" x.1) (λ p d s₀ a b r y h.
    quantified_step_lem e t.means (rw (t.here, d) at y) h))))
    (all_if (is w (bytes "iter")) (λ b. rw (is_exact w (bytes "iter") b) (iterate_means s))
    (λ b. all_if (is w (bytes "collect")) (λ b. rw (is_exact w (bytes "collect") b) (collect_means s)) (λ b. all_none)))))

arrow_means : (s : Tokens) → All? (Means ("->" then s)) (arrow_step s)
unfolding arrow_step
arrow_means [] = all_none
arrow_means (w ∷ s) = all_on (after_all "(" s) (λ p h. rw h (call_means w p))

pub means : (s : Tokens) → Means s (step_of s)
unfolding step_of Means
means [] = tt
means (w ∷ s) = go (is w (bytes ".")) (is w (bytes "->")) refl refl
  where
    go : (b c : Bool) → is w (bytes ".") ≡ b → is w (bytes "->") ≡ c
        → Means (w ∷ s) (if b then or_broken (dot_step s) else if c then or_broken (arrow_step s) else ends)
    go true c e d = rw (is_exact w (bytes ".") e) (or_broken_lem ("." then s) (dot_step_means s))
    go false true e d = rw (is_exact w (bytes "->") d) (or_broken_lem ("->" then s) (arrow_means s))
    go false false e d = tt

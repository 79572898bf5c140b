-- What the grammar has at a token is what the parser sees there. Assumes nothing.
use mathlib.Core.Path.{◌≡◌, refl, ◌∙◌}
use mathlib.Core.Bool.{Bool, true, false}
use mathlib.Core.Option.{Option, none, some, none-ne-some}
use mathlib.Core.List.{[], ◌∷◌}
use Prim.Native.Nat.{ℕ}
use lib.Dec.{eqb}
use borrow.Author.Tests.{eqb-true}
use Rattle.laws.specs.Choice.{or_else, on_some, map_some}
use Rattle.std.specs.Prelude.{if◌then◌else◌}
use Rattle.ocl.specs.Types.{Kind, Ty}
use Rattle.ocl.specs.Forms.{Leaf, all, cast_to, Quantifier, of_object, of_members}
use Rattle.sheet.specs.Text.{Bytes, bytes, after as after_bytes, behind, number_parser, real_parser, whole as whole_field, digits, plain as plain_digits, is_digit}
use Rattle.sheet.specs.Lines.{is, a_number, a_real}
use Rattle.sheet.specs.Grammar.Tokens.{Tokens}
use Rattle.sheet.specs.Grammar.Trees.{One, unary, is_undef, attribute, call, Two, quantified, iterate, Tree, leaf, assemble, Trees}
use Rattle.sheet.specs.Grammar.Words.{named, labelled, variable_word, attribute_word, class_word, definition_word, constants, leaf_word, kinds, plain_forms, argument_forms, quantifiers}
use Rattle.sheet.specs.Grammar.Sentences.{◌then◌, Level, Reads, let_in_lem, next, leaning, compared, negated, word, instances, bracketed, if_then_else, no_members, members, ReadsType, ReadsMembers, last_member, next_member, attribute_step, call_step_lem, cast_step, undefined_step, plain_step, collect_step_lem, argument_step, quantified_step_lem, iterate_step_lem}
use Rattle.sheet.specs.Grammar.Parser.{after, after_call, done, bracket, condition, collection, instances_start, braces, start_by, start_of, plain, argument, iteration, or_broken, dot_by, dot_step, quantified_step, iterate_step, collect_step, call_step, arrow_step, step_of}
use Rattle.sheet.proofs.Grammar.Single.{differs, Entries, entry, after_word, taking_one, type_in_one}
use Rattle.sheet.proofs.Grammar.Stops.{not_after}

-- ---- primaries

pub start_word : (w : Bytes) {l : Leaf} (r : Tokens) → leaf_word w ≡ some l → start_of (w ∷ r) ≡ some (done (leaf l) r)
unfolding start_of start_by
start_word w r e = rw e

pub start_bracket : (s : Tokens) → start_of ("(" then s) ≡ some (bracket s)
unfolding start_of start_by leaf_word named constants kinds variable_word labelled a_number a_real whole_field number_parser real_parser behind after_bytes digits plain_digits is_digit or_else map_some on_some is bytes
start_bracket s = refl

pub start_condition : (s : Tokens) → start_of ("if" then s) ≡ some (condition s)
unfolding start_of start_by leaf_word named constants kinds variable_word labelled a_number a_real whole_field number_parser real_parser behind after_bytes digits plain_digits is_digit or_else map_some on_some is bytes
start_condition s = refl

-- a class is no other primary
hash_leaf : (s : Bytes) → leaf_word (35 ∷ s) ≡ none
unfolding leaf_word named constants variable_word labelled a_number a_real whole_field number_parser real_parser behind after_bytes digits plain_digits is_digit or_else map_some on_some is bytes
hash_leaf s = refl

hash_kind : (s : Bytes) → named kinds (35 ∷ s) ≡ none
unfolding named kinds is bytes
hash_kind s = refl

pub hash_start : (w : Bytes) (c : ℕ) (s : Tokens) → class_word w ≡ some c → start_of (w ∷ s) ≡ instances_start w s
unfolding start_of start_by class_word labelled is bytes
hash_start [] c s e = absurd (none-ne-some c e)
hash_start (b ∷ w) c s e = go (eqb b 35) refl e
  where
    go : (t : Bool) → eqb b 35 ≡ t → (if t then a_number w else none) ≡ some c → start_of ((b ∷ w) ∷ s) ≡ instances_start (b ∷ w) s
    go true d e = rw (eqb-true b 35 d, hash_leaf w, hash_kind w)
    go false d e = absurd (none-ne-some c e)

pub start_instances : (w : Bytes) {c : ℕ} (r : Tokens) → class_word w ≡ some c
    → start_of (w ∷ ("." then "allInstances" then "(" then ")" then r)) ≡ some (done (leaf (all c)) r)
unfolding instances_start after_call on_some map_some
start_instances w {c} r e =
    hash_start w c _ e
    ∙ rw (e, after_word "." ("allInstances" then "(" then ")" then r), after_word "allInstances" ("(" then ")" then r), after_word "(" (")" then r), after_word ")" r)

kind_leaf : Entries (λ w k. leaf_word w ≡ none) kinds
unfolding Entries kinds leaf_word named constants variable_word labelled a_number a_real whole_field number_parser real_parser behind after_bytes digits plain_digits is_digit or_else map_some on_some is bytes
kind_leaf = (refl, (refl, (refl, tt)))

pub start_empty : (w : Bytes) {k : Kind} (r : Tokens) → named kinds w ≡ some k
    → start_of (w ∷ ("{" then "}" then r)) ≡ some (done (assemble k Trees.none) r)
unfolding start_of start_by braces map_some
start_empty w {k} r e =
    rw (entry (λ w k. leaf_word w ≡ none) kinds kind_leaf e, e, after_word "{" ("}" then r), after_word "}" r)

pub start_members : (w : Bytes) {k : Kind} (s : Tokens) → named kinds w ≡ some k → after "}" s ≡ none
    → start_of (w ∷ ("{" then s)) ≡ some (collection k s)
unfolding start_of start_by braces map_some
start_members w {k} s e d = rw (entry (λ w k. leaf_word w ≡ none) kinds kind_leaf e, e, after_word "{" s, d)

-- ---- no expression begins with `}`

leaf_brace : leaf_word (bytes "}") ≡ none
unfolding leaf_word named constants variable_word labelled a_number a_real whole_field number_parser real_parser behind after_bytes digits plain_digits is_digit or_else map_some on_some is bytes
leaf_brace = refl

class_brace : class_word (bytes "}") ≡ none
unfolding class_word labelled bytes
class_brace = refl

kind_brace : named kinds (bytes "}") ≡ none
unfolding named kinds is bytes
kind_brace = refl

-- a word that is read otherwise
no_brace : {A : Type 0} (read : Bytes → Option A) → read (bytes "}") ≡ none → {w : Bytes} {x : A} (s : Tokens) → read w ≡ some x → after "}" (w ∷ s) ≡ none
no_brace read p {w} s e = not_after "}" w s (differs read (bytes "}") p w e)

unclosed : {l : Level} {s : Tokens} {t : Tree} {r : Tokens} → Reads l s t r → after "}" s ≡ none
unfolding after is bytes
unclosed (let_in_lem e h k) = refl
unclosed (next o h) = unclosed h
unclosed (leaning g h k) = unclosed h
unclosed (compared e h k) = unclosed h
unclosed (negated h) = refl
unclosed (attribute_step e h) = unclosed h
unclosed (call_step_lem e h) = unclosed h
unclosed (cast_step e h) = unclosed h
unclosed (undefined_step h) = unclosed h
unclosed (plain_step e h) = unclosed h
unclosed (collect_step_lem e h) = unclosed h
unclosed (argument_step e h k) = unclosed h
unclosed (quantified_step_lem e d h k) = unclosed h
unclosed (iterate_step_lem e d h t k m) = unclosed h
unclosed (word e) = no_brace leaf_word leaf_brace _ e
unclosed (instances e) = no_brace class_word class_brace _ e
unclosed (bracketed h) = refl
unclosed (if_then_else h i j) = refl
unclosed (no_members e) = no_brace (named kinds) kind_brace _ e
unclosed (members e h) = no_brace (named kinds) kind_brace _ e

pub members_unclosed : {n : ℕ} {s : Tokens} {es : Trees} {r : Tokens} → ReadsMembers n s es r → after "}" s ≡ none
members_unclosed (last_member h) = unclosed h
members_unclosed (next_member h k) = unclosed h

-- ---- postfix steps

step_dot : (s : Tokens) → step_of ("." then s) ≡ or_broken (dot_step s)
unfolding step_of is bytes
step_dot s = refl

step_arrow : (w : Bytes) (s : Tokens) → step_of ("->" then w ∷ ("(" then s)) ≡ or_broken (call_step w s)
unfolding step_of arrow_step on_some is bytes
step_arrow w s = rw (after_word "(" s)

pub step_attribute : (w : Bytes) {n : ℕ} (r : Tokens) → attribute_word w ≡ some n → step_of ("." then w ∷ r) ≡ plain (attribute of_object n) r
unfolding dot_step dot_by or_broken
step_attribute w r e = step_dot (w ∷ r) ∙ rw e

-- a definition is no attribute
label_attribute : (s : Bytes) → attribute_word (100 ∷ s) ≡ none
unfolding attribute_word labelled
label_attribute s = refl

not_attribute : (w : Bytes) {n : ℕ} → definition_word w ≡ some n → attribute_word w ≡ none
unfolding definition_word labelled
not_attribute [] {n} e = absurd (none-ne-some n e)
not_attribute (b ∷ w) {n} e = go (eqb b 100) refl e
  where
    go : (t : Bool) → eqb b 100 ≡ t → (if t then a_number w else none) ≡ some n → attribute_word (b ∷ w) ≡ none
    go true d e = rw (eqb-true b 100 d) (label_attribute w)
    go false d e = absurd (none-ne-some n e)

pub step_call : (w : Bytes) {n : ℕ} (r : Tokens) → definition_word w ≡ some n → step_of ("." then w ∷ ("(" then ")" then r)) ≡ plain (call n) r
unfolding dot_step dot_by or_broken after_call on_some map_some
step_call w r e = step_dot (w ∷ ("(" then ")" then r)) ∙ rw (not_attribute w e, e, after_word "(" (")" then r), after_word ")" r)

pub step_cast : (w : Bytes) {c : ℕ} (r : Tokens) → class_word w ≡ some c
    → step_of ("." then "oclAsType" then "(" then w ∷ (")" then r)) ≡ plain (unary (cast_to c)) r
unfolding dot_step dot_by or_broken attribute_word definition_word labelled on_some map_some is bytes
step_cast w r e =
    step_dot ("oclAsType" then "(" then w ∷ (")" then r))
    ∙ rw (after_word "(" (w ∷ (")" then r)), taking_one class_word w (")" then r) e, after_word ")" r)

pub step_undefined : (r : Tokens) → step_of ("." then "isUndef" then "(" then ")" then r) ≡ plain is_undef r
unfolding dot_step dot_by or_broken attribute_word definition_word labelled after_call on_some map_some is bytes
step_undefined r = step_dot ("isUndef" then "(" then ")" then r) ∙ rw (after_word "(" (")" then r), after_word ")" r)

pub step_plain : (w : Bytes) {f : One} (r : Tokens) → named plain_forms w ≡ some f → step_of ("->" then w ∷ ("(" then ")" then r)) ≡ plain f r
unfolding call_step or_broken or_else on_some map_some
step_plain w r e = step_arrow w (")" then r) ∙ rw (e, after_word ")" r)

pub step_collect : (w : Bytes) {n : ℕ} (r : Tokens) → attribute_word w ≡ some n
    → step_of ("->" then "collect" then "(" then w ∷ (")" then r)) ≡ plain (attribute of_members n) r
unfolding call_step collect_step or_broken or_else on_some map_some named plain_forms argument_forms quantifiers is bytes
step_collect w r e =
    step_arrow (bytes "collect") (w ∷ (")" then r)) ∙ rw (taking_one attribute_word w (")" then r) e, after_word ")" r)

argument_plain : Entries (λ w f. named plain_forms w ≡ none) argument_forms
unfolding Entries named plain_forms argument_forms is bytes
argument_plain = (refl, (refl, (refl, tt)))

pub step_argument : (w : Bytes) {f : Two} (s : Tokens) → named argument_forms w ≡ some f → step_of ("->" then w ∷ ("(" then s)) ≡ argument f s
unfolding call_step or_broken or_else on_some map_some
step_argument w s e = step_arrow w s ∙ rw (entry (λ w f. named plain_forms w ≡ none) argument_forms argument_plain e, e)

quantifier_plain : Entries (λ w q. named plain_forms w ≡ none) quantifiers
unfolding Entries named plain_forms quantifiers is bytes
quantifier_plain = (refl, (refl, tt))

quantifier_argument : Entries (λ w q. named argument_forms w ≡ none) quantifiers
unfolding Entries named argument_forms quantifiers is bytes
quantifier_argument = (refl, (refl, tt))

pub step_quantified : (w v : Bytes) {q : Quantifier} {i : ℕ} (s : Tokens) → named quantifiers w ≡ some q → variable_word v ≡ some i
    → step_of ("->" then w ∷ ("(" then v ∷ ("|" then s))) ≡ argument (quantified q i) s
unfolding call_step quantified_step or_broken or_else on_some map_some
step_quantified w v s e d =
    step_arrow w (v ∷ ("|" then s))
    ∙ rw (entry (λ w q. named plain_forms w ≡ none) quantifiers quantifier_plain e, entry (λ w q. named argument_forms w ≡ none) quantifiers quantifier_argument e, e, taking_one variable_word v ("|" then s) d, after_word "|" s)

pub step_iterate : (v u : Bytes) {i j : ℕ} {t : Ty} {s : Tokens} (r : Tokens) → variable_word v ≡ some i → variable_word u ≡ some j → ReadsType s t ("=" then r)
    → step_of ("->" then "iter" then "(" then v ∷ (";" then u ∷ (":" then s))) ≡ iteration (iterate i j t) r
unfolding call_step iterate_step or_broken or_else on_some map_some named plain_forms argument_forms quantifiers is bytes
step_iterate v u {s} r e d h =
    step_arrow (bytes "iter") (v ∷ (";" then u ∷ (":" then s)))
    ∙ rw (taking_one variable_word v (";" then u ∷ (":" then s)) e, after_word ";" (u ∷ (":" then s)), taking_one variable_word u (":" then s) d, after_word ":" s, type_in_one h, after_word "=" r)

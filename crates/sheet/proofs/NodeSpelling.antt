-- The nodes of every sentence can be written as node lines, in the X line's place. Assumes nothing.
use mathlib.Core.Path.{◌≡◌, refl, ap, ◌∙◌, subst}
use mathlib.Core.Option.{some}
use mathlib.Core.List.{List, [], ◌∷◌, ◌++◌}
use Prim.Native.Nat.{ℕ, suc, ◌+◌, ◌≤◌}
use native.Mathlib.Omega.{arith}
use lib.ListN.{length, length-append}
use lib.IntN.{pos}
use lib.Dec.{le→leb}
use Rattle.laws.specs.Lists.{Each, each_nil, each-cons}
use Rattle.laws.proofs.Tests.{All?, all_none, all_some, at_some, all_self, all_else}
use Rattle.laws.proofs.Lists.{each_append}
use Rattle.reals.specs.Reals.{int, real}
use Rattle.ocl.specs.Types.{Kind}
use Rattle.ocl.specs.Forms.{Leaf, number, var, all}
use Rattle.sheet.specs.Text.{Bytes, bytes, lines_of}
use Rattle.sheet.specs.SpellingLaws.{Parted, parted_nil, parted_cons}
use Rattle.sheet.specs.Lines.{Shape, leaf, assemble, is, a_number, a_real, line_of}
use Rattle.sheet.specs.NodeSpelling.{node_text, node_texts}
use Rattle.sheet.specs.Grammar.Tokens.{Tokens, tokens}
use Rattle.sheet.specs.Grammar.Trees.{One, unary as unary_one, is_undef as is_undef_one, attribute as attribute_one, call as call_one, Two, binary as binary_two, connective as connective_two, let_in as let_in_two, quantified as quantified_two, Three, conditional as conditional_three, iterate as iterate_three, Tree, leaf as leaf_tree, one, two, three, assemble as assemble_tree, Trees, none as none-tree, more, count, root, roots, one_shape, two_shape, three_shape, shapes, shapes_of}
use Rattle.sheet.specs.Grammar.Sentences.{Level, whole, Reads, let_in_lem, next as next_level, leaning, compared, negated, word, instances, bracketed, if_then_else, no_members, members, last_member, next_member, attribute_step, call_step_lem, cast_step, undefined_step, plain_step, collect_step_lem, argument_step, quantified_step_lem, iterate_step_lem}
use Rattle.sheet.specs.Grammar.Words.{named, constants, leaf_word, variable_word}
use Rattle.sheet.specs.Grammar.Parser.{reading_of}
use Rattle.sheet.specs.TextLaws.{NodeLines, no_lines, more_lines, in_nodes, HasNodeLines}
use Rattle.sheet.proofs.Split.{split_laws}
use Rattle.sheet.proofs.Grammar.Single.{all_map, all_if}
use Rattle.sheet.proofs.Grammar.Exact.{exact}
use Rattle.sheet.proofs.AsNodeLines.{some_line}
use Rattle.sheet.proofs.NodeBack.{real_back, Legible, Few, line_back}
use Rattle.sheet.proofs.NodeFields.{node_fields_lem, joined_line, fields_back}

-- ---- the node lines of shapes

texts_read : (n : ℕ) {xs : List Shape} → Each Few xs → NodeLines n (node_texts n xs) xs
unfolding node_texts
texts_read n each_nil = no_lines
texts_read n (each-cons {n = x} p h) = more_lines (ap line_of (fields_back n x) ∙ line_back n x p) (texts_read (suc n) h)

texts_parted : (n : ℕ) (xs : List Shape) → Parted 10 (node_texts n xs)
unfolding node_texts node_text
texts_parted n [] = parted_nil
texts_parted n (x ∷ xs) = parted_cons (joined_line (node_fields_lem n x)) (texts_parted (suc n) xs)

-- ---- the grammar has at most four members, and its Reals are read

unfoldable how_many : Trees → ℕ
how_many none-tree = 0
how_many (more t es) = suc (how_many es)

unfoldable mutual
  FewIn : Tree → Type 0
  FewIn (leaf_tree l) = Legible l
  FewIn (one f a) = FewIn a
  FewIn (two f a b) = FewIn a × FewIn b
  FewIn (three f a b c) = FewIn a × FewIn b × FewIn c
  FewIn (assemble_tree k es) = (how_many es ≤ 4) × FewAll es

  FewAll : Trees → Type 0
  FewAll none-tree = Unit
  FewAll (more t es) = FewIn t × FewAll es

record FewMembers (n : ℕ) (es : Trees) : Type 0 where
  at_most : how_many es ≤ n
  all_few : FewAll es

few_last : (n : ℕ) (e : Tree) → FewIn e → FewMembers (suc n) (more e none-tree)
unfolding how_many FewIn
few_last n e h = record { at_most = omega arith; all_few = (h, tt) }

few_next : (n : ℕ) (e : Tree) (es : Trees) → FewIn e → FewMembers n es → FewMembers (suc n) (more e es)
unfolding how_many FewIn
few_next n e es h x = record { at_most = let l = x.at_most in omega arith; all_few = (h, x.all_few) }

few_two : (f : Two) (a b : Tree) → FewIn a → FewIn b → FewIn (two f a b)
unfolding FewIn
few_two f a b h k = (h, k)

few_three : (f : Three) (a b c : Tree) → FewIn a → FewIn b → FewIn c → FewIn (three f a b c)
unfolding FewIn
few_three f a b c h k m = (h, k, m)

few_one : (f : One) (a : Tree) → FewIn a → FewIn (one f a)
unfolding FewIn
few_one f a h = h

few_none : (k : Kind) → FewIn (assemble_tree k none-tree)
unfolding FewIn how_many
few_none k = (omega arith, tt)

few_assemble : (k : Kind) (es : Trees) → FewMembers 4 es → FewIn (assemble_tree k es)
unfolding FewIn
few_assemble k es x = (x.at_most, x.all_few)

few_all : (c : ℕ) → FewIn (leaf_tree (all c))
unfolding FewIn Legible
few_all c = tt

-- a word that is read as a leaf
legible_named : (w : Bytes) → All? Legible (named constants w)
unfolding named constants Legible
legible_named w =
    all_if (is w (bytes "true")) (λ e. all_some tt) (λ e. all_if (is w (bytes "false")) (λ e. all_some tt) (λ e.
    all_if (is w (bytes "undef")) (λ e. all_some tt) (λ e. all_if (is w (bytes "self")) (λ e. all_some tt) (λ e. all_none))))

legible_word : (w : Bytes) (l : Leaf) → leaf_word w ≡ some l → FewIn (leaf_tree l)
unfolding leaf_word FewIn Legible
legible_word w l e = at_some (subst (All? Legible) e
    (all_else (legible_named w) (all_else (all_map (λ n. number (int (pos n))) (all_self (a_number w)) (λ n q. tt))
    (all_else (all_map (λ r. number (real r)) (all_self (a_real w)) (λ r q. real_back w r q)) (all_map var (all_self (variable_word w)) (λ i q. tt))))))

read_few : {l : Level} {s : Tokens} {t : Tree} {r : Tokens} → Reads l s t r → FewIn t
read_few d = elim d as (λ l s t r x. FewIn t) (λ n s es r x. FewMembers n es) [
  | let_in_lem e (h → i) (k → j) ↦ few_two _ _ _ i j
  | next_level o (h → i) ↦ i
  | leaning g (h → i) (k → j) ↦ few_two _ _ _ i j
  | compared e (h → i) (k → j) ↦ few_two _ _ _ i j
  | negated (h → i) ↦ few_one _ _ i
  | attribute_step e (h → i) ↦ few_one _ _ i
  | call_step_lem e (h → i) ↦ few_one _ _ i
  | cast_step e (h → i) ↦ few_one _ _ i
  | undefined_step (h → i) ↦ few_one _ _ i
  | plain_step e (h → i) ↦ few_one _ _ i
  | collect_step_lem e (h → i) ↦ few_one _ _ i
  | argument_step e (h → i) (k → j) ↦ few_two _ _ _ i j
  | quantified_step_lem e e' (h → i) (k → j) ↦ few_two _ _ _ i j
  | iterate_step_lem e e' (h → i) t (k → j) (m → x) ↦ few_three _ _ _ _ i j x
  | word {w} {l} e ↦ legible_word w l e
  | instances {c} e ↦ few_all c
  | bracketed (h → i) ↦ i
  | if_then_else (h → i) (k → j) (m → x) ↦ few_three _ _ _ _ i j x
  | no_members {k} e ↦ few_none k
  | members {k} {es} e (h → i) ↦ few_assemble k es i
  | last_member {n} {e} (h → i) ↦ few_last n e i
  | next_member {n} {e} {es} (h → i) (k → j) ↦ few_next n e es i j
]

roots_many : (n : ℕ) (es : Trees) → length (roots n es) ≡ how_many es
unfolding roots how_many
roots_many n none-tree = refl
roots_many n (more t es) = ap suc (roots_many (n + count t) es)

one_few : (f : One) (a : ℕ) → Few (one_shape f a)
unfolding one_shape Few
one_few (unary_one op) a = tt
one_few is_undef_one a = tt
one_few (attribute_one x name) a = tt
one_few (call_one n) a = tt

two_few : (f : Two) (a b : ℕ) → Few (two_shape f a b)
unfolding two_shape Few
two_few (binary_two op) a b = tt
two_few (connective_two c) a b = tt
two_few (let_in_two i) a b = tt
two_few (quantified_two q i) a b = tt

three_few : (f : Three) (a b c : ℕ) → Few (three_shape f a b c)
unfolding three_shape Few
three_few conditional_three a b c = tt
three_few (iterate_three i j t) a b c = tt

mutual
  unfolding FewIn shapes shapes_of Few

  shapes_few : (t : Tree) (n : ℕ) → FewIn t → Each Few (shapes t n)
  shapes_few (leaf_tree l) n h = each-cons {n = leaf l} h each_nil
  shapes_few (one f a) n h = each_append (shapes_few a n h) (each-cons (one_few f (root n a)) each_nil)
  shapes_few (two f a b) n h =
      let m = n + count a in
      each_append (shapes_few a n h.0) (each_append (shapes_few b m h.1) (each-cons (two_few f (root n a) (root m b)) each_nil))
  shapes_few (three f a b c) n h =
      let m = n + count a in
      let k = m + count b in
      each_append (shapes_few a n h.0) (each_append (shapes_few b m h.1) (each_append (shapes_few c k h.2) (each-cons (three_few f (root n a) (root m b) (root k c)) each_nil)))
  shapes_few (assemble_tree k es) n h =
      each_append (all_shapes_few es n h.1) (each-cons {n = assemble k (roots n es)} (le→leb (length (roots n es)) 4 (let e = roots_many n es in let l = h.0 in omega arith)) each_nil)

  all_shapes_few : (es : Trees) (n : ℕ) → FewAll es → Each Few (shapes_of es n)
  all_shapes_few none-tree n h = each_nil
  all_shapes_few (more t es) n h = each_append (shapes_few t n h.0) (all_shapes_few es (n + count t) h.1)

-- ---- a text with node lines in place of its X line

parted_left : (xs ys : List Bytes) → Parted 10 (xs ++ ys) → Parted 10 xs
parted_left [] ys h = parted_nil
parted_left (x ∷ xs) ys (parted_cons p h) = parted_cons p (parted_left xs ys h)

parted_right : (xs : List Bytes) {ys : List Bytes} → Parted 10 (xs ++ ys) → Parted 10 ys
parted_right [] h = h
parted_right (x ∷ xs) (parted_cons p h) = parted_right xs h

parted_append : {xs ys : List Bytes} → Parted 10 xs → Parted 10 ys → Parted 10 (xs ++ ys)
parted_append parted_nil k = k
parted_append (parted_cons p h) k = parted_cons p (parted_append h k)

parted_tail : {x : Bytes} {xs : List Bytes} → Parted 10 (x ∷ xs) → Parted 10 xs
parted_tail (parted_cons p h) = h

pub has_node_lines : HasNodeLines
unfolding in_nodes lines_of
has_node_lines text line field before after t e q r =
    let d : Reads whole (tokens field) t [] = (exact (tokens field) t).0 (unfold reading_of in r) in
    let lines = node_texts 0 (shapes t 0) in
    let p : Parted 10 (before ++ (line ∷ after)) = subst (Parted 10) e ((split_laws 10).parts_free text) in
    let nl = texts_read 0 (shapes_few t 0 (read_few d)) in
    record {
      before = before;
      line = line;
      lines = lines;
      after = after;
      text_lines = e;
      node_lines = (split_laws 10).no_other_parts (before ++ (lines ++ after))
          (let n = some_line t lines nl in let x = length-append before (lines ++ after) in let y = length-append lines after in omega arith)
          (parted_append (parted_left before (line ∷ after) p) (parted_append (texts_parted 0 (shapes t 0)) (parted_tail (parted_right before p))));
      field = field;
      is_text = q;
      tree = t;
      reading = r;
      as_nodes = nl;
    }

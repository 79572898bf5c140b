-- A sheet with an X line that is accepted reads to the same sheet, but for line numbers, with the node lines that the text stands for in
-- its place. Assumes nothing.
use mathlib.Core.Path.{◌≡◌, refl, sym, ap, ◌∙◌, subst}
use mathlib.Core.Bool.{Bool, true, false, not, ◌&&◌, true≢false}
use mathlib.Core.Option.{Option, none, some, none-ne-some, some-injective}
use mathlib.Core.List.{List, [], ◌∷◌, ◌++◌}
use Prim.Native.Nat.{ℕ, suc, ◌+◌, ◌<◌, ◌≤◌}
use native.Mathlib.Omega.{arith}
use lib.ListN.{length, length-append, replicate, length-replicate}
use lib.Dec.{T, eqb, eqb→eq, leb, leb→le}
use Rattle.laws.specs.Choice.{on_some}
use Rattle.std.specs.Prelude.{if◌then◌else◌}
use Rattle.laws.specs.Lists.{all_of, Each}
use Rattle.laws.proofs.Tests.{and_l, and_r, test_false, All?, all_none, all_some}
use Rattle.ocl.specs.Types.{Ty}
use Rattle.ocl.specs.Forms.{Definition}
use Rattle.sheet.specs.Text.{Bytes, bytes, split, fields_of}
use Rattle.sheet.specs.Lines.{Shape, Line, class_line, row_line, object_line, value_line, definition_line, rule_line, node_line, text_line, is, next, done, a_word, line_of, in_body}
use Rattle.sheet.specs.Texts.{brackets_within, is_sentence, on_text, nodes_in, nodes_of}
use Rattle.sheet.specs.Sheet.{Current, Sheet, empty, with_nodes, as_text, added, end_of, end_for, end_rule}
use Rattle.sheet.specs.Limits.{form_within, within_limits}
use Rattle.sheet.specs.Refusals.{two_variables, has_type, next_node, may_be_text, block_of, numbered, in_order, parts_known, calls_known}
use Rattle.sheet.specs.Reading.{Step, step_line, step_spelled, step, Reading, accepted, on_step, on_end, closing, read_last, read_lines}
use Rattle.sheet.specs.Grammar.Trees.{Tree, shapes}
use Rattle.sheet.specs.Grammar.Parser.{reading_of}
use Rattle.sheet.specs.TextLaws.{NodeLines, no_lines, more_lines, ReadAlike, AsNodeLines}
use Rattle.sheet.proofs.Stays.{of_body, line_stays as stays}
use Rattle.sheet.proofs.TextNodes.{shapes_size, some_node}
use Rattle.sheet.proofs.Good.{CurrentOk, OpenOk, none_open, one_open, Good, good_empty}
use Rattle.sheet.proofs.GoodLines.{Met}
use Rattle.sheet.proofs.Steps.{Steps, not_taken, takes, spelled_steps}
use Rattle.sheet.proofs.GoodTexts.{nodes_fresh}
use Rattle.sheet.proofs.Acceptance.{GoodStep, no_step, good_step, good_fields, good_end_rule}
use Rattle.sheet.proofs.Alike.{Alike, alike, LikeReading, both_accepted, both_rejected, LikeEnd, end_alike, on_end_lem, going, read_by, going_alike}
use Rattle.sheet.proofs.NodesRead.{Refuses, refuses, must_refuses, must_not, not_accepted, on_refusal, with_open, is_open, Ready, read_line, read_last_lem, nodes_read}

-- ---- readings that follow

-- a reading that accepts the same sheet but for line numbers
record Followed (u : Sheet) (r : Reading) : Type 0 where
  sheet : Sheet
  same : Alike u sheet
  reads : r ≡ accepted sheet

-- where the one accepts, the other does
abbrev Follows : Reading → Reading → Type 0
Follows r q = (u : Sheet) → r ≡ accepted u → Followed u q

likewise : {r q : Reading} → LikeReading r q → Follows r q
likewise (both_accepted {s} {t} h) u e = record { sheet = t; same = subst (λ v. Alike v t) (let z : s ≡ u = cc in z) h; reads = refl }
likewise both_rejected u e = absurd (not_accepted e)

-- the same step, and then one that follows
follows_step : {x : Step} (k j : ℕ) {f g : Sheet → Reading} → GoodStep x → ((s : Sheet) → Good s → Follows (f s) (g s)) → Follows (on_step x k f) (on_step x j g)
unfolding on_step
follows_step k j no_step r u e = absurd (not_accepted e)
follows_step k j (good_step {s} h) r u e = r s h u e

follows_end : {o : Option Sheet} (k j : ℕ) {f g : Sheet → Reading} → All? Good o → ((s : Sheet) → Good s → Follows (f s) (g s)) → Follows (on_end o k f) (on_end o j g)
unfolding on_end
follows_end k j all_none r u e = absurd (not_accepted e)
follows_end k j (all_some {x = s} h) r u e = r s h u e

follows_closing : (s : Sheet) (k j : ℕ) (fs : List Bytes) {f g : Sheet → Reading} → Good s → ((s : Sheet) → Good s → Follows (f s) (g s)) → Follows (closing s k fs f) (closing s j fs g)
unfolding closing
follows_closing s k j fs {f} {g} h r = by (in_body fs)
  where
    by : (b : Bool) → Follows (if b then f s else on_end (end_rule s) k f) (if b then g s else on_end (end_rule s) j g)
    by true = r s h
    by false = follows_end k j (good_end_rule s h) r

-- ---- after the X line

and-false : (a : Bool) → a && false ≡ false
and-false true = refl
and-false false = refl

and_false_more : (a b c : Bool) → a && false && b && c ≡ false
and_false_more true b c = refl
and_false_more false b c = refl

-- no line stays with a rule that an X line has given
no_more : (s : Sheet) (ls : List ℕ) (d : Current) (k : ℕ) (l : Line) → of_body l ≡ true → Refuses (step_spelled (with_open s ls (as_text d)) k (some l))
unfolding step_spelled step_line of_body in_order numbered next_node may_be_text as_text
no_more s ls d k (class_line n p) b = absurd (true≢false (sym b))
no_more s ls d k (row_line n c name t) b = absurd (true≢false (sym b))
no_more s ls d k (object_line n c) b = absurd (true≢false (sym b))
no_more s ls d k (value_line o a v) b = absurd (true≢false (sym b))
no_more s ls d k (definition_line n c t) b = absurd (true≢false (sym b))
no_more s ls d k (rule_line n c) b = absurd (true≢false (sym b))
no_more s ls d k (node_line n x) b =
    let l = node_line n x in
    must_refuses (on_text l brackets_within) 4 (must_refuses (on_text l is_sentence) 20 (must_refuses (within_limits (with_open s ls (as_text d)) l) 4
    (must_not (in_order (with_open s ls (as_text d)) l) 5 _ (and-false (leb s.block (block_of l))))))
no_more s ls d k (text_line x) b =
    let l = text_line x in
    must_refuses (on_text l brackets_within) 4 (must_refuses (on_text l is_sentence) 20 (must_refuses (within_limits (with_open s ls (as_text d)) l) 4
    (must_not (in_order (with_open s ls (as_text d)) l) 5 _
    (ap (λ y. leb s.block (block_of l) && y) (and_false_more (not (has_type d.result)) (eqb (length d.trees) 0) (all_of two_variables (nodes_of x))) ∙ and-false (leb s.block (block_of l))))))

none_stays : (s : Sheet) (ls : List ℕ) (d : Current) (k : ℕ) (fs : List Bytes) → in_body fs ≡ true → Refuses (step (with_open s ls (as_text d)) k fs)
unfolding step
none_stays s ls d k fs h = by (line_of fs) refl
  where
    by : (o : Option Line) → line_of fs ≡ o → Refuses (step_spelled (with_open s ls (as_text d)) k o)
    by none e = unfold step_spelled in refuses
    by (some l) e = no_more s ls d k l (stays fs l e ∙ h)

-- an empty line stays with nothing
some_byte : (k : ℕ) (m : Bytes) (s u : Sheet) → in_body (fields_of m) ≡ true → read_last k m s ≡ accepted u → ⊥
unfolding fields_of split in_body is bytes read_last
some_byte k [] s u h e = true≢false (sym h)
some_byte k (b ∷ m) s u h e = not_accepted e

goes_not : (s : Sheet) (ls : List ℕ) (d : Current) (k : ℕ) (m : Bytes) (rest : List Bytes) {u : Sheet} → in_body (fields_of m) ≡ true → going k m rest (with_open s ls (as_text d)) ≡ accepted u → ⊥
unfolding going
goes_not s ls d k m [] {u} h e = some_byte k m (with_open s ls (as_text d)) u h e
goes_not s ls d k m (n ∷ rest) h e = on_refusal (suc k) _ (none_stays s ls d (suc k) (fields_of m) h) e

same_end : (s : Sheet) (ls ks : List ℕ) (d : Current) → length ks ≡ length ls → LikeEnd (end_of (with_open s ls (as_text d)) (as_text d)) (end_of (with_open s ks d) d)
unfolding as_text
same_end s ls ks d z = end_alike (with_open s ls (as_text d)) ks (some d) (as_text d) d z refl refl refl refl

tail_follows : (s : Sheet) (ls ks : List ℕ) (d : Current) (k j : ℕ) (m : Bytes) (rest : List Bytes) → length ks ≡ length ls
    → Follows (read_lines (with_open s ls (as_text d)) k (m ∷ rest)) (read_lines (with_open s ks d) j (m ∷ rest))
unfolding closing end_rule end_for
tail_follows s ls ks d k j m rest z = rw (read_by (with_open s ls (as_text d)) k m rest, read_by (with_open s ks d) j m rest) (by (in_body (fields_of m)) refl)
  where
    by : (b : Bool) → in_body (fields_of m) ≡ b
        → Follows (if b then going k m rest (with_open s ls (as_text d)) else on_end (end_rule (with_open s ls (as_text d))) k (going k m rest)) (if b then going j m rest (with_open s ks d) else on_end (end_rule (with_open s ks d)) j (going j m rest))
    by true h = λ u e. absurd (goes_not s ls d k m rest h e)
    by false h = likewise (on_end_lem k j (same_end s ls ks d z) (λ s t. going_alike k j m rest))

-- ---- the X line

-- what an X line that is taken has met, and what follows it
record TakenText (s : Sheet) (k : ℕ) (x : Bytes) (f : Sheet → Reading) (u : Sheet) : Type 0 where
  met : Met s (text_line x)
  goes : f (added s k (text_line x)) ≡ accepted u

taken_text : (s : Sheet) (k : ℕ) (x : Bytes) (f : Sheet → Reading) (u : Sheet) → on_step (step_spelled s k (some (text_line x))) k f ≡ accepted u → TakenText s k x f u
unfolding on_step
taken_text s k x f u e = of (spelled_steps s k (some (text_line x))) e
  where
    of : {y : Step} → Steps s k (some (text_line x)) y → on_step y k f ≡ accepted u → TakenText s k x f u
    of not_taken q = absurd (not_accepted q)
    of (takes l z m) q = let i : l ≡ text_line x = sym (some-injective _ _ z) in record { met = subst (Met s) i m; goes = subst (λ y. f (added s k y) ≡ accepted u) i q }

-- the rule that it stands in
pub record InRule (o : Option Current) : Type 0 where
  pub rule : Current
  pub is : o ≡ some rule
  pub may : T (may_be_text (some rule))

pub in_rule : (o : Option Current) → T (may_be_text o) → InRule o
unfolding may_be_text
in_rule none h = absurd h
in_rule (some c) h = record { rule = c; is = refl; may = h }

pub no_node : (c : Current) → T (may_be_text (some c)) → length c.trees ≡ 0
unfolding may_be_text
no_node c h = eqb→eq (length c.trees) 0 (and_r (not (has_type c.result) && not c.text) _ h)

pub may_be_lem : (s : Sheet) (x : Bytes) → T (in_order s (text_line x)) → T (may_be_text s.current)
unfolding in_order numbered
may_be_lem s x h = and_l (may_be_text s.current) _ (and_r (leb s.block (block_of (text_line x))) _ h)

untyped : (o : Option Ty) → T (not (has_type o)) → o ≡ none
unfolding has_type
untyped none h = refl
untyped (some t) h = absurd h

rule_ok : {ds : List Definition} {n : ℕ} {o : Option Current} {c : Current} → OpenOk ds n o → o ≡ some c → CurrentOk ds n c
rule_ok none_open e = absurd (none-ne-some _ e)
rule_ok {ds} {n} (one_open {c = d} h) e = subst (CurrentOk ds n) (some-injective _ _ e) h

pub text_ready : (s : Sheet) (x : Bytes) (r : InRule s.current) → Each (λ a. a < length r.rule.trees) r.rule.used
    → T (within_limits s (text_line x)) → T (in_order s (text_line x)) → T (parts_known s (text_line x)) → T (calls_known s (text_line x)) → Ready s (length s.lines) r.rule (nodes_of x)
unfolding within_limits in_order numbered block_of parts_known calls_known may_be_text
text_ready s x r used limits ordered parts known =
    let c = r.rule in
    let may = r.may in
    let order = and_r (leb s.block 5) _ ordered in
    let empty = no_node c may in
    let start = and_l (not (has_type c.result) && not c.text) _ may in
    record {
      block = and_l (leb s.block 5) _ ordered;
      rule = untyped c.result (and_l (not (has_type c.result)) _ start);
      plain = test_false c.text (and_r (not (has_type c.result)) _ start);
      early = omega arith;
      room = leb→le (length s.lines + length (nodes_of x)) 768 (and_r (all_of form_within (nodes_of x)) _ limits);
      within = and_l (all_of form_within (nodes_of x)) _ limits;
      two = and_r (may_be_text s.current) _ order;
      parts = parts;
      called = known;
      fresh_nodes = nodes_fresh x c used may;
    }

-- what it adds
pub text_added : (s : Sheet) (k : ℕ) (x : Bytes) (c : Current) → s.current ≡ some c
    → added s k (text_line x) ≡ with_open s (s.lines ++ replicate (length (nodes_of x)) k) (as_text (with_nodes s.definitions c (nodes_of x)))
unfolding added on_some
text_added s k x c e = rw e

pub nodes_of_lem : (x : Bytes) (t : Tree) → reading_of x ≡ some t → shapes t 0 ≡ nodes_of x
unfolding nodes_of nodes_in
nodes_of_lem x t e = rw e

text_fields : (x : Bytes) → line_of (bytes "X" ∷ x ∷ []) ≡ some (text_line x)
unfolding line_of is bytes next a_word done on_some
text_fields x = refl

text_stays : (x : Bytes) → in_body (bytes "X" ∷ x ∷ []) ≡ true
unfolding in_body is bytes
text_stays x = refl

module _ (line field : Bytes) (q : fields_of line ≡ bytes "X" ∷ field ∷ []) (tree : Tree) (reading : reading_of field ≡ some tree) where
  line_stays : in_body (fields_of line) ≡ true
  line_stays = ap in_body q ∙ text_stays field

  line_is : line_of (fields_of line) ≡ some (text_line field)
  line_is = ap line_of q ∙ text_fields field

  text_follows : (s : Sheet) (k : ℕ) (lines : List Bytes) (after : List Bytes) → NodeLines 0 lines (shapes tree 0) → Good s → Follows (read_lines s k (line ∷ after)) (read_lines s k (lines ++ after))
  unfolding step
  text_follows s k lines [] nl g u e = absurd (some_byte k line s u line_stays (sym (read_last_lem s k line line_stays) ∙ e))
  text_follows s k lines (m ∷ rest) nl g u e = of (in_rule s.current (may_be_lem s field taken_x.met.order))
    where
      taken_x : TakenText s (suc k) field (λ v. read_lines v (suc k) (m ∷ rest)) u
      taken_x = taken_text s (suc k) field _ u (sym (read_line s k line m rest line_stays ∙ rw line_is) ∙ e)

      of : InRule s.current → Followed u (read_lines s k (lines ++ (m ∷ rest)))
      of r =
          let c = r.rule in
          let x = nodes_read s s.lines c k 0 m rest (sym (no_node c r.may)) (subst (NodeLines 0 lines) (nodes_of_lem field tree reading) nl) (text_ready s field r (rule_ok g.current r.is).operands taken_x.met.limits taken_x.met.order taken_x.met.parts taken_x.met.known) in
          let n = length (nodes_of field) in
          let y = tail_follows s (s.lines ++ replicate n (suc k)) x.numbers (with_nodes s.definitions c (nodes_of field)) (suc k) x.at m rest
          (x.as_many ∙ sym (length-append s.lines (replicate n (suc k)) ∙ ap (λ i. length s.lines + i) (length-replicate n (suc k))))
          u (ap (λ v. read_lines v (suc k) (m ∷ rest)) (sym (text_added s (suc k) field c r.is)) ∙ taken_x.goes) in
          record { sheet = y.sheet; same = y.same; reads = ap (λ v. read_lines v k (lines ++ (m ∷ rest))) (is_open s c r.is) ∙ x.same ∙ y.reads }

-- ---- the lines before it

same_length : {n : ℕ} {lines : List Bytes} {xs : List Shape} → NodeLines n lines xs → length lines ≡ length xs
same_length no_lines = refl
same_length (more_lines e h) = ap suc (same_length h)

-- a text has a node
pub some_line : (t : Tree) (lines : List Bytes) → NodeLines 0 lines (shapes t 0) → 1 ≤ length lines
some_line t lines h = let a = same_length h in let b = shapes_size t 0 in let c = some_node t in omega arith

-- one line before both
line_before : (s : Sheet) (k : ℕ) (l : Bytes) (xs ys : List Bytes) → 1 ≤ length xs → 1 ≤ length ys → Good s → ((t : Sheet) → Good t → Follows (read_lines t (suc k) xs) (read_lines t (suc k) ys))
    → Follows (read_lines s k (l ∷ xs)) (read_lines s k (l ∷ ys))
unfolding read_lines
line_before s k l [] ys p q g h = absurd (omega arith)
line_before s k l (x ∷ xs) [] p q g h = absurd (omega arith)
line_before s k l (x ∷ xs) (y ∷ ys) p q g h = follows_closing s k k (fields_of l) g (λ t i. follows_step (suc k) (suc k) (good_fields t (suc k) (fields_of l) i) h)

some_before : (xs ys : List Bytes) → 1 ≤ length ys → 1 ≤ length (xs ++ ys)
some_before xs ys h = let e = length-append xs ys in omega arith

lines_before : (before xs ys : List Bytes) (s : Sheet) (k : ℕ) → 1 ≤ length xs → 1 ≤ length ys → Good s → ((t : Sheet) (j : ℕ) → Good t → Follows (read_lines t j xs) (read_lines t j ys))
    → Follows (read_lines s k (before ++ xs)) (read_lines s k (before ++ ys))
lines_before [] xs ys s k p q g h = h s k g
lines_before (b ∷ before) xs ys s k p q g h =
    line_before s k b (before ++ xs) (before ++ ys) (some_before before xs p) (some_before before ys q) g (λ t i. lines_before before xs ys t (suc k) p q i h)

-- ---- all lines

read_alike : (ks : List Bytes) {s t : Sheet} → Alike s t → read_lines empty 0 ks ≡ accepted t → ReadAlike ks s
read_alike ks (alike s ls e) h = record { numbers = ls; as_many = e; reads = h }

pub as_node_lines : AsNodeLines
as_node_lines ls ks x s e =
    let n = some_line x.tree x.lines x.as_nodes in
    let z = length-append x.lines x.after in
    let h = lines_before x.before (x.line ∷ x.after) (x.lines ++ x.after) empty 0 (omega arith) (omega arith) good_empty
    (λ t j g. text_follows x.line x.field x.is_text x.tree x.reading t j x.lines x.after x.as_nodes g)
    s (ap (read_lines empty 0) (sym x.text_lines) ∙ e) in
    read_alike ks h.same (ap (read_lines empty 0) x.node_lines ∙ h.reads)

-- What is found in the tree at a root, in the body of each call, and in all rules. Assumes nothing.
use mathlib.Core.Path.{◌≡◌, refl, sym, ap, ◌∙◌, subst}
use mathlib.Core.Option.{none}
use mathlib.Core.List.{List, [], ◌++◌}
use Prim.Native.Nat.{ℕ, suc, ◌+◌, ◌-◌, ◌%◌, ◌<◌, ◌≤◌}
use native.Mathlib.Omega.{arith}
use native.Mathlib.Decide.{dec_lt}
use lib.ListN.{length, get_or, take, drop, set, length-set, length-append, length-drop}
use lib.Seq.{length-take-le, drop_at, get_or-drop, take-set-le, drop-set-lt, get_or-set_same, get_or-set_other}
use Rattle.laws.proofs.Parts.{part_all}
use Rattle.memory.specs.Map as memory
use Rattle.ocl.specs.Types.{Class}
use Rattle.ocl.specs.Environment.{start}
use Rattle.ocl.specs.Model.{Schema}
use Rattle.ocl.specs.Profile.{outside, outside_in, outside_rule}
use Rattle.nodes.specs.Nodes.{word, tree_at}
use Rattle.nodes.proofs.Nodes.{below_law, late_law}
use Rattle.judgements.specs.declared.TypeEnv.{TypeEnv}
use Rattle.judgements.specs.Replies.{env_of, ReadsRows}
use Rattle.tables.specs.declared.Counts.{Counts}
use Rattle.tables.specs.Layout.{Kept}
use Rattle.numbering.specs.Lowest.{line_of, lowest_with}
use Rattle.numbering.specs.Forms.{called_at}
use Rattle.numbering.specs.Walk.{CallsTold, Finds}
use Rattle.numbering.specs.Sheets.{nodes_in, least_in, KeepsTypes, FindsRoot, FindsCalled, TellsCalls, RootsIn, rules_at, FindsRules}
use Rattle.numbering.proofs.Lowest.{lowest_append, line_none}
use Rattle.numbering.proofs.Findings.{calls_less}

pub types_kept : (w : List ℕ) → KeepsTypes w w
types_kept w = record { rest = refl; size = refl }

then_kept : {u v w : List ℕ} → KeepsTypes u v → KeepsTypes v w → KeepsTypes u w
then_kept a b = record { rest = b.rest ∙ a.rest; size = b.size ∙ a.size }

-- ---- a root

module _ (w0 : List ℕ) (classes rows : ℕ) (w1 : List ℕ) (root context best : ℕ) (before part : List ℕ) (r : ℕ) where
  -- what is said of the first 768 words, of the whole
  pub root_found : (env : TypeEnv) → 8192 ≤ length before → length part ≡ length (take 768 before) → env_of env ≡ start (Class context)
      → Finds (nodes_in w1) (take (length w1 - memory.depths) (drop memory.depths w1)) (take classes w0) w0 rows root (λ k. outside k (tree_at (nodes_in w1) root) (env_of env)) best r
      → FindsRoot w0 classes rows w1 root context best before (part ++ drop 768 before) r
  unfolding outside_rule
  root_found env room size e d = record {
    found = record { at = λ k h m. d.at k h (subst (λ l. CallsTold (nodes_in w1) l k (suc root)) (sym (part_all w1 memory.depths)) m) ∙ rw e };
    kept = record {
      rest = drop_at part (drop 768 before) 768 (size ∙ length-take-le 768 before (omega arith));
      size = let l = length-take-le 768 before (omega arith) in simp (length-append, length-drop) (omega arith);
    };
  }

-- ---- a call

module _ (w0 : List ℕ) (classes rows : ℕ) (w1 : List ℕ) (n : ℕ) (before : List ℕ) where
  pub not_called : {f : ℕ} → f ≡ word (nodes_in w1) n 0 → (f ≡ 36 → ⊥) → FindsCalled w0 classes rows w1 n before before 768
  not_called e z = record { found = λ k h m q. absurd (z (e ∙ q)); kept = types_kept before }

  module _ {v a : ℕ} (d : v ≡ word (nodes_in w1) n 2) (e : a ≡ v) where
    pub called_late : n ≤ a → FindsCalled w0 classes rows w1 n before before 768
    unfolding outside outside_in lowest_with
    called_late h = record { found = λ k l m q. rw (line_none (nodes_in w1) 768 (omega arith), ← (e ∙ d), late_law (nodes_in w1) n a h); kept = types_kept before }

    pub called_found : {c x : ℕ} {after : List ℕ} (r : ℕ) → a < n → c ≡ word (nodes_in w1) n 3 → x ≡ c % 256
        → FindsRoot w0 classes rows w1 a x 768 before after r → FindsCalled w0 classes rows w1 n before after r
    unfolding outside_rule
    called_found r h f g y = record {
      found = λ k l m q. y.found.at k l (calls_less (omega arith) m) ∙ rw (line_none (nodes_in w1) 768 (omega arith), g, f, ← (e ∙ d), below_law (nodes_in w1) n a h);
      kept = y.kept;
    }

-- ---- all calls, of which those before n are told

calls_more : {t least more : List ℕ} {k : Schema} {n r : ℕ} → CallsTold t least k n → ((m : ℕ) → m < n → get_or more m 0 ≡ get_or least m 0) → get_or more n 0 ≡ r
    → (word t n 0 ≡ 36 → line_of t r ≡ lowest_with t none (called_at k t n)) → CallsTold t more k (n + 1)
calls_more {t} {least} {more} {k} {n} {r} c same new d = record { at = λ m l e. by m l e (dec_lt m n) }
  where
    by : (m : ℕ) → m < n + 1 → word t m 0 ≡ 36 → Dec (m < n) → line_of t (get_or more m 0) ≡ lowest_with t none (called_at k t m)
    by m l e (yes h) = ap (line_of t) (same m h) ∙ c.at m h e
    by m l e (no h) =
        let q : n ≡ m = omega arith in
        subst (λ i. line_of t (get_or more i 0) ≡ lowest_with t none (called_at k t i)) q (ap (line_of t) new ∙ d (ap (λ i. word t i 0) q ∙ e))

pub record Telling (w0 : List ℕ) (classes rows : ℕ) (u1 v1 u2 v2 : List ℕ) (n : ℕ) : Type 0 where
  pub told : (k : Schema) → ReadsRows (take classes w0) w0 rows k → CallsTold (nodes_in v1) (least_in v1) k n
  pub nodes : nodes_in v1 ≡ nodes_in u1
  pub kept1 : Kept u1 v1
  pub kept : KeepsTypes u2 v2

pub tell_none : (w0 : List ℕ) (classes rows : ℕ) (w1 w2 : List ℕ) → Telling w0 classes rows w1 w1 w2 w2 0
tell_none w0 classes rows w1 w2 = record {
  told = λ k h. record { at = λ m l. absurd (omega arith) };
  nodes = refl;
  kept1 = record { size = refl; rest = refl };
  kept = types_kept w2;
}

pub tell_more : {w0 : List ℕ} {classes rows : ℕ} {u1 v1 u2 v2 x2 : List ℕ} {n : ℕ} (r : ℕ) → 8192 ≤ length u1 → n < 768 → Telling w0 classes rows u1 v1 u2 v2 n
    → FindsCalled w0 classes rows v1 n v2 x2 r → Telling w0 classes rows u1 (set v1 (memory.depths + n) r) u2 x2 (n + 1)
tell_more {v1 = v1} {n = n} r room h c d =
    let y = set v1 (memory.depths + n) r in
    let same : nodes_in y ≡ nodes_in v1 = take-set-le memory.nodes_end v1 (memory.depths + n) r (omega arith) in
    record {
      told = λ k q. subst (λ t. CallsTold t (least_in y) k (n + 1)) (sym same) (calls_more (c.told k q)
          (λ m l. get_or-drop memory.depths y m 0 ∙ get_or-set_other v1 (memory.depths + n) (memory.depths + m) r 0 (λ e. absurd (omega arith)) ∙ sym (get_or-drop memory.depths v1 m 0))
          (get_or-drop memory.depths y n 0 ∙ get_or-set_same v1 (memory.depths + n) r 0 (omega (arith, c.kept1.size)))
          (d.found k q (c.told k q)));
      nodes = same ∙ c.nodes;
      kept1 = record { size = length-set v1 (memory.depths + n) r ∙ c.kept1.size; rest = drop-set-lt 8192 v1 (memory.depths + n) r (omega arith) ∙ c.kept1.rest };
      kept = then_kept c.kept d.kept;
    }

pub tell_done : {st : Counts} {w0 : List ℕ} {classes rows : ℕ} {u1 v1 u2 v2 : List ℕ} {n : ℕ} → classes ≡ st.classes → rows ≡ st.rows → 768 ≤ n
    → Telling w0 classes rows u1 v1 u2 v2 n → TellsCalls st w0 u1 v1 u2 v2
tell_done {w0 = w0} e f h c = record {
  told = λ k q. calls_less h (c.told k (rw (e, f) q));
  nodes = c.nodes;
  kept1 = c.kept1;
  kept = c.kept;
}

module _ {st : Counts} {w0 : List ℕ} {rules r : ℕ} (n : RootsIn st w0) (h : r < rules) (e : rules ≡ st.rules) where
  pub low_context : get_or w0 (memory.contexts + r) 0 < 256
  low_context = n.context r (omega arith)

  pub low_root : {root : ℕ} → root ≡ get_or w0 (memory.roots + r) 0 → root < 768
  low_root q = let l = n.root r (omega arith) in omega arith

-- ---- all rules, of which those before r are done: what is left comes to what all come to

pub record Going (w0 : List ℕ) (classes rows : ℕ) (w1 u2 v2 : List ℕ) (rules best r : ℕ) : Type 0 where
  pub goes : (k : Schema) → ReadsRows (take classes w0) w0 rows k → CallsTold (nodes_in w1) (least_in w1) k 768
      → lowest_with (nodes_in w1) (line_of (nodes_in w1) best) (rules_at k w0 (nodes_in w1) (rules - r) r) ≡ lowest_with (nodes_in w1) none (rules_at k w0 (nodes_in w1) rules 0)
  pub kept : KeepsTypes u2 v2

pub none_gone : (w0 : List ℕ) (classes rows : ℕ) (w1 w2 : List ℕ) (rules : ℕ) → Going w0 classes rows w1 w2 w2 rules 768 0
none_gone w0 classes rows w1 w2 rules = record {
  goes = λ k h m. rw (line_none (nodes_in w1) 768 (omega arith)) (ap (λ c. lowest_with (nodes_in w1) none (rules_at k w0 (nodes_in w1) c 0)) (let e : rules - 0 ≡ rules = omega arith in e));
  kept = types_kept w2;
}

rules_by : (k : Schema) (w0 t : List ℕ) (c d i : ℕ) → c ≡ suc d → rules_at k w0 t c i ≡ outside_rule k (get_or w0 (memory.contexts + i) 0) (tree_at t (get_or w0 (memory.roots + i) 0)) ++ rules_at k w0 t d (i + 1)
unfolding rules_at
rules_by k w0 t c d i e = rw e

rules_none : (k : Schema) (w0 t : List ℕ) (c i : ℕ) → c ≡ 0 → rules_at k w0 t c i ≡ []
unfolding rules_at
rules_none k w0 t c i e = rw e

pub one_gone : {w0 : List ℕ} {classes rows : ℕ} {w1 u2 v2 x2 : List ℕ} {rules best r root context : ℕ} (y : ℕ) → Going w0 classes rows w1 u2 v2 rules best r → r < rules
    → root < 768 → root ≡ get_or w0 (memory.roots + r) 0 → context ≡ get_or w0 (memory.contexts + r) 0 → FindsRoot w0 classes rows w1 root context best v2 x2 y → Going w0 classes rows w1 u2 x2 rules y (r + 1)
one_gone {w0} {w1 = w1} {rules = rules} {best = best} {r = r} y g h low e f d =
    let t = nodes_in w1 in
    record {
      goes = λ k q m.
          ap (λ o. lowest_with t o (rules_at k w0 t (rules - (r + 1)) (r + 1))) (d.found.at k q (calls_less (omega arith) m) ∙ rw (e, f))
          ∙ sym (lowest_append t (line_of t best) (outside_rule k (get_or w0 (memory.contexts + r) 0) (tree_at t (get_or w0 (memory.roots + r) 0))) (rules_at k w0 t (rules - (r + 1)) (r + 1)))
          ∙ ap (lowest_with t (line_of t best)) (sym (rules_by k w0 t (rules - r) (rules - (r + 1)) r (omega arith)))
          ∙ g.goes k q m;
      kept = then_kept g.kept d.kept;
    }

pub all_gone : {st : Counts} {w0 : List ℕ} {classes rows : ℕ} {w1 u2 v2 : List ℕ} {rules best r : ℕ} → classes ≡ st.classes → rows ≡ st.rows → rules ≡ st.rules → rules ≤ r
    → Going w0 classes rows w1 u2 v2 rules best r → FindsRules st w0 w1 u2 v2 best
unfolding lowest_with
all_gone {w0 = w0} {w1 = w1} {rules = rules} {best = best} {r = r} e f l h g = record {
  found = λ k q m.
      ap (lowest_with (nodes_in w1) (line_of (nodes_in w1) best)) (sym (rules_none k w0 (nodes_in w1) (rules - r) r (omega arith)))
      ∙ g.goes k (rw (e, f) q) m ∙ rw l;
  kept = g.kept;
}

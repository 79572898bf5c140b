-- The forms over the outcomes of their operands, one law for each way in which the code answers. Assumes nothing.
use mathlib.Core.Path.{◌≡◌, refl, sym, ap, ◌∙◌}
use mathlib.Core.Bool.{Bool, true, false}
use mathlib.Core.Option.{none}
use mathlib.Core.List.{List, ◌++◌}
use Prim.Native.Nat.{ℕ, ◌+◌, ◌<◌, ◌≤◌}
use native.Mathlib.Omega.{arith}
use lib.ListN.{length, get_or, take, drop, set}
use lib.Seq.{slice}
use lib.Dec.{eqb}
use borrow.Author.Tests.{eq-eqb, ne_eqb}
use Rattle.std.specs.Prelude.{if◌then◌else◌}
use Rattle.laws.proofs.Slices.{under_top}
use Rattle.ocl.specs.Values.{Value, Values}
use Rattle.ocl.specs.Environment.{Env, extend}
use Rattle.ocl.specs.Operations.{left_fits, binary_apply}
use Rattle.ocl.specs.Trace.{Traced, value_t, stuck_t, at, bind_t, on_bool_t, on_coll_t, binary_trace, conditional_trace, let_trace, seek_t, quantified_trace, fold_t, iterate_trace}
use Rattle.values.specs.Cells.{encs}
use Rattle.values.specs.Meanings.{SortOf}
use Rattle.values.proofs.Adding.{header}
use Rattle.values.proofs.Heads.{Shape, shape_bool, shape_num, shape_obj, shape_coll}
use Rattle.nodes.specs.Nodes.{word, variable, binary_of, quantifier_of}
use Rattle.nodes.specs.Marks.{Marked}
use Rattle.tables.specs.declared.Counts.{Counts}
use Rattle.outcomes.specs.declared.Ended.{Ended}
use Rattle.outcomes.specs.Answers.{Lies, Under, Truth}
use Rattle.operations.specs.Operations.{OfTwo, FitsLeft}
use Rattle.operations.specs.Operand.{mark_in, FromValue, FromUndefined}
use Rattle.operations.specs.Runs.{World, held, Rel}
use Rattle.evaluation.specs.declared.Traced.{Traced as Answer}
use Rattle.evaluation.specs.declared.Traced.TheVariants as traced
use Rattle.evaluation.specs.Traces.{place_of, ends_stop, arisen, EvalsT}
use Rattle.evaluation.specs.Evaluating.{ReadsWorld, operand_for, unary_node, binary_node, conditional_node, let_node, quantified_node, iterate_node, Seeks, Folds}
use Rattle.outcomes.proofs.Words.{under_then, under_down, lies_kept, head_at_lem, slid}
use Rattle.operations.proofs.Sorts.{bit_one, IsColl, is_coll_lem, sorted}
use Rattle.evaluation.proofs.Composition.{rel_kept, rel_bind, Other, bounds, its_place, valued, is_undefined, is_stuck, is_stop, falls, bind_value, arisen_small, arisen_ran, named, placed, early, after, ran_from, ran_value, ran_stuck_at}
use Rattle.evaluation.proofs.ConnectiveLaws.{bool_at, not_bool_at}

-- ---- one operand

module _ {st : Counts} {w0 : List ℕ} (t : List ℕ) (n k : ℕ) {env B A : List ℕ} {sp s : ℕ} {r : Answer} (x : EvalsT (ReadsWorld st w0 t) (operand_for t n 1) env sp s B A r) where
  pub unary_value : {la sa place : ℕ} {C : List ℕ} {r' : Ended} {a : Answer} → r ≡ traced.Value la sa → n < 768 → 1 ≤ s → s ≤ 1000000 → FromValue st w0 k (word t n) (mark_in t n) sp la sa A C r'
      → place ≡ place_of n s → a ≡ arisen r' place → EvalsT (ReadsWorld st w0 t) (unary_node t n k) env sp s B C a
  unfolding unary_node
  unary_value {r' = r'} q h l m z e i = rw i (record {
    small = arisen_small r' z.small (placed e h l m);
    ran = λ w ok ρ rel.
        let d = valued (x.ran w ok ρ rel) q in
        rw d.is (ran_from d.kept (arisen_ran (z.ran w.model ok.holds ok.plain (w.mark n) (ok.mark n h) d.v d.lies) (named e h)));
  })

  pub unary_undefined : {sa place : ℕ} {C : List ℕ} {r' : Ended} {a : Answer} → r ≡ traced.Undef sa place → FromUndefined k sp sa A C r' → a ≡ arisen r' place → EvalsT (ReadsWorld st w0 t) (unary_node t n k) env sp s B C a
  unfolding unary_node
  unary_undefined {r' = r'} q z i = rw i (record {
    small = arisen_small r' z.small (its_place x.small q);
    ran = λ w ok ρ rel.
        let y = x.ran w ok ρ rel in
        rw (is_undefined y q) (ran_from y.kept (arisen_ran z.ran (record { node = refl; step = refl })));
  })

  pub unary_stuck : r ≡ traced.Stuck → EvalsT (ReadsWorld st w0 t) (unary_node t n k) env sp s B A traced.Stuck
  unfolding unary_node
  unary_stuck q = record { small = tt; ran = λ w ok ρ rel. let y = x.ran w ok ρ rel in rw (is_stuck y q) (ran_stuck_at y.kept) }

  pub unary_stop : {c m : ℕ} → r ≡ traced.Stop c m → EvalsT (ReadsWorld st w0 t) (unary_node t n k) env sp s B A (traced.Stop c m)
  unfolding unary_node
  unary_stop q = record { small = tt; ran = λ w ok ρ rel. let y = x.ran w ok ρ rel in rw (is_stop y q) (record { kept = y.kept; ends = ends_stop }) }

-- ---- two strict operands

module _ {st : Counts} {w0 : List ℕ} (t : List ℕ) (n k : ℕ) {env B A : List ℕ} {sp s : ℕ} {r : Answer} (x : EvalsT (ReadsWorld st w0 t) (operand_for t n 1) env sp s B A r) where
  abbrev binary_rest : World → Env Value → Value → ℕ → Traced
  binary_rest w ρ v n' = if left_fits (w.mark n) (binary_of k) v then bind_t (operand_for t n 2 w ρ n') (λ y n'. at n s (binary_apply (w.mark n) (binary_of k) v y n')) else stuck_t

  pub binary_first : Other r → EvalsT (ReadsWorld st w0 t) (binary_node t n k) env sp s B A r
  unfolding binary_node binary_trace
  binary_first o = early binary_rest (λ w ρ. refl) x o

  module _ {la sa : ℕ} {b : Bool} (h : n < 768) (q : r ≡ traced.Value la sa) (z : FitsLeft k (mark_in t n) (get_or A sp 0) b) where
    fitting : {w : World} {v : Value} → ReadsWorld st w0 t w → Lies v sp la A → b ≡ left_fits (w.mark n) (binary_of k) v
    fitting {w} {v} ok l = z.is (w.mark n) (ok.mark n h) v l.fits (head_at_lem l)

    pub binary_stuck : b ≡ false → EvalsT (ReadsWorld st w0 t) (binary_node t n k) env sp s B A traced.Stuck
    unfolding binary_node binary_trace
    binary_stuck e = after binary_rest (λ w ρ. refl) x q tt (λ w ok ρ rel v l u. rw (sym (fitting ok l) ∙ e) (ran_stuck_at u))

    module _ {C : List ℕ} {r' : Answer} (e : b ≡ true) (y : EvalsT (ReadsWorld st w0 t) (operand_for t n 2) env (sp + la) sa A C r') where
      pub binary_second : Other r' → EvalsT (ReadsWorld st w0 t) (binary_node t n k) env sp s B C r'
      unfolding binary_node binary_trace
      binary_second o = after binary_rest (λ w ρ. refl) x q y.small
          (λ w ok ρ rel v l u. rw (sym (fitting ok l) ∙ e) (falls (operand_for t n 2 w ρ sa) (λ y n'. at n s (binary_apply (w.mark n) (binary_of k) v y n')) (omega arith) u (y.ran w ok ρ (rel_kept (omega arith) u rel)) o))

      pub binary_done : {lb sb place : ℕ} {D : List ℕ} {r'' : Ended} {a : Answer} → r' ≡ traced.Value lb sb → 1 ≤ s → s ≤ 1000000 → OfTwo (Marked (mark_in t n)) (λ m. binary_apply m (binary_of k)) sp la lb sb C D r''
          → place ≡ place_of n s → a ≡ arisen r'' place → EvalsT (ReadsWorld st w0 t) (binary_node t n k) env sp s B D a
      unfolding binary_node binary_trace
      binary_done {r'' = r''} p low high g f i = rw i (after binary_rest (λ w ρ. refl) x q (arisen_small r'' g.small (placed f h low high))
          (λ w ok ρ rel v l u.
          let d = valued (y.ran w ok ρ (rel_kept (omega arith) u rel)) p in
          rw (sym (fitting ok l) ∙ e, d.is)
          (ran_from (under_then (under_down (omega arith) d.kept) u) (arisen_ran (g.ran (w.mark n) (ok.mark n h) v d.v (lies_kept (omega arith) d.kept l) d.lies) (named f h)))))

-- a value that is no collection has no members
no_coll_t : {v : Value} {p len d : ℕ} {S : List ℕ} → Lies v p len S → SortOf (get_or S p 0) d → d < 3 → (k : Values → Traced) → on_coll_t v k ≡ stuck_t
no_coll_t {d = d} l z h k = by (sorted l z)
  where
    by : {q : ℕ} {v : Value} → Shape d q v → on_coll_t v k ≡ stuck_t
    by (shape_bool i j) = refl
    by (shape_num i j) = refl
    by (shape_obj i j m) = refl
    by (shape_coll i j m) = absurd (omega arith)

-- ---- `if`

module _ {Ok : World → Type 0} (t : List ℕ) (n : ℕ) {env B A : List ℕ} {sp s : ℕ} {r : Answer} (x : EvalsT Ok (operand_for t n 1) env sp s B A r) where
  abbrev branches : World → Env Value → Value → ℕ → Traced
  branches w ρ v n' = on_bool_t v (λ b. if b then operand_for t n 2 w ρ n' else operand_for t n 3 w ρ n')

  pub conditional_first : Other r → EvalsT Ok (conditional_node t n) env sp s B A r
  unfolding conditional_node conditional_trace
  conditional_first o = early branches (λ w ρ. refl) x o

  module _ {la sa d : ℕ} (q : r ≡ traced.Value la sa) (z : Truth (get_or A sp 0) d) where
    pub conditional_stuck : (d ≡ 1 → ⊥) → (d ≡ 0 → ⊥) → EvalsT Ok (conditional_node t n) env sp s B A traced.Stuck
    unfolding conditional_node conditional_trace
    conditional_stuck e f = after branches (λ w ρ. refl) x q tt (λ w ok ρ rel v l u. rw (not_bool_at l z (omega arith) (λ b. if b then operand_for t n 2 w ρ sa else operand_for t n 3 w ρ sa)) (ran_stuck_at u))

    pub conditional_then : {C : List ℕ} {r' : Answer} → d ≡ 1 → EvalsT Ok (operand_for t n 2) env sp sa A C r' → EvalsT Ok (conditional_node t n) env sp s B C r'
    unfolding conditional_node conditional_trace
    conditional_then e y = after branches (λ w ρ. refl) x q y.small (λ w ok ρ rel v l u.
        let b = bool_at l z (omega arith) in
        let c : b.b ≡ true = sym (bit_one b.b) ∙ ap (λ (i : ℕ). eqb i 1) (sym b.code) ∙ eq-eqb d 1 e in
        rw (b.is, c) (ran_from u (y.ran w ok ρ (rel_kept (omega arith) u rel))))

    pub conditional_else : {C : List ℕ} {r' : Answer} → d ≡ 0 → EvalsT Ok (operand_for t n 3) env sp sa A C r' → EvalsT Ok (conditional_node t n) env sp s B C r'
    unfolding conditional_node conditional_trace
    conditional_else e y = after branches (λ w ρ. refl) x q y.small (λ w ok ρ rel v l u.
        let b = bool_at l z (omega arith) in
        let c : b.b ≡ false = sym (bit_one b.b) ∙ ap (λ (i : ℕ). eqb i 1) (sym b.code) ∙ ne_eqb d 1 (λ i. omega arith) in
        rw (b.is, c) (ran_from u (y.ran w ok ρ (rel_kept (omega arith) u rel))))

  -- ---- `let`

  abbrev body : World → Env Value → Value → ℕ → Traced
  body w ρ v n' = operand_for t n 2 w (extend ρ (variable (word t n 3)) v) n'

  pub let_first : Other r → EvalsT Ok (let_node t n) env sp s B A r
  unfolding let_node let_trace
  let_first o = early body (λ w ρ. refl) x o

  module _ {la sa i : ℕ} {C : List ℕ} {r' : Answer} (q : r ≡ traced.Value la sa) (e : i ≡ variable (word t n 3)) (y : EvalsT Ok (operand_for t n 2) (set env i (sp + 1)) (sp + la) sa A C r') where
    inner : {ρ : Env Value} {v : Value} → Rel env B sp ρ → Lies v sp la A → Under sp A B → Rel (set env i (sp + 1)) A (sp + la) (extend ρ (variable (word t n 3)) v)
    inner {ρ} {v} rel l u = rw e (rel_bind v (omega arith) (held sp refl l (bounds x.small q).1 (omega arith)) (rel_kept (omega arith) u rel))

    pub let_second : Other r' → EvalsT Ok (let_node t n) env sp s B C r'
    unfolding let_node let_trace
    let_second o = after body (λ w ρ. refl) x q y.small (λ w ok ρ rel v l u.
        rw (bind_value (body w ρ v sa)) at (falls (body w ρ v sa) value_t (omega arith) u (y.ran w ok (extend ρ (variable (word t n 3)) v) (inner rel l u)) o))

    -- the body's value is moved down over the bound one
    pub let_done : {lb sb : ℕ} {D : List ℕ} → r' ≡ traced.Value lb sb → sp + la ≤ length C → take (sp + lb) D ≡ take sp C ++ take lb (drop (sp + la) C) → EvalsT Ok (let_node t n) env sp s B D (traced.Value lb sb)
    unfolding let_node let_trace
    let_done {lb} p room g = after body (λ w ρ. refl) x q (rw p at y.small) (λ w ok ρ rel v l u.
        let d = valued (y.ran w ok (extend ρ (variable (word t n 3)) v) (inner rel l u)) p in
        let m = slid {from = sp + la} {to = sp} {len = lb} g (omega arith) room d.lies in
        rw d.is (ran_value m.there (under_then m.kept (under_then (under_down (omega arith) d.kept) u)) (bounds y.small p).1))

  -- ---- a source whose members are gone through

  abbrev members : ℕ → World → Env Value → Value → ℕ → Traced
  members k w ρ v n' = on_coll_t v (λ vs. seek_t (quantifier_of k) (λ y. operand_for t n 2 w (extend ρ (variable (word t n 3)) y)) none vs n')

  abbrev fold_all : World → Env Value → Values → Value → ℕ → Traced
  fold_all w ρ vs a n' = fold_t (λ y z. operand_for t n 3 w (extend (extend ρ (variable (word t n 4)) y) (variable (word t n 5)) z)) vs a n'

  abbrev accumulate : World → Env Value → Value → ℕ → Traced
  accumulate w ρ v n' = on_coll_t v (λ vs. bind_t (operand_for t n 2 w ρ n') (λ a n'. fold_all w ρ vs a n'))

  pub quantified_first : (k : ℕ) → Other r → EvalsT Ok (quantified_node t n k) env sp s B A r
  unfolding quantified_node quantified_trace
  quantified_first k o = early (members k) (λ w ρ. refl) x o

  pub iterate_first : Other r → EvalsT Ok (iterate_node t n) env sp s B A r
  unfolding iterate_node iterate_trace
  iterate_first o = early accumulate (λ w ρ. refl) x o

  module _ {la sa d : ℕ} (q : r ≡ traced.Value la sa) (S : SortOf (get_or A sp 0) d) where
    pub quantified_stuck : (k : ℕ) → d < 3 → EvalsT Ok (quantified_node t n k) env sp s B A traced.Stuck
    unfolding quantified_node quantified_trace
    quantified_stuck k h = after (members k) (λ w ρ. refl) x q tt (λ w ok ρ rel v l u.
        rw (no_coll_t l S h (λ vs. seek_t (quantifier_of k) (λ y. operand_for t n 2 w (extend ρ (variable (word t n 3)) y)) none vs sa)) (ran_stuck_at u))

    pub iterate_stuck : d < 3 → EvalsT Ok (iterate_node t n) env sp s B A traced.Stuck
    unfolding iterate_node iterate_trace
    iterate_stuck h = after accumulate (λ w ρ. refl) x q tt (λ w ok ρ rel v l u.
        rw (no_coll_t l S h (λ vs. bind_t (operand_for t n 2 w ρ sa) (λ a n'. fold_all w ρ vs a n'))) (ran_stuck_at u))

    module _ (h : 3 ≤ d) (room : sp + la ≤ length A) where
      cells : {v : Value} (l : Lies v sp la A) → (y : IsColl l S) → slice (sp + 1) (sp + la) A ≡ encs y.members
      cells l y = (header A sp (sp + la) y.kind y.members (let m = bounds x.small q in omega arith) room (rw y.is at l.cells)).cells

      pub quantified_done : (k : ℕ) {C : List ℕ} {r' : Answer} → Seeks Ok (quantifier_of k) (variable (word t n 3)) (operand_for t n 2) env sp la sa A C r' → EvalsT Ok (quantified_node t n k) env sp s B C r'
      unfolding quantified_node quantified_trace
      quantified_done k g = after (members k) (λ w ρ. refl) x q g.small (λ w ok ρ rel v l u.
          let y = is_coll_lem l S h in
          rw y.is (ran_from u (g.ran w ok ρ (rel_kept (omega arith) u rel) y.members y.fits (cells l y))))

      module _ {C : List ℕ} {r' : Answer} (y : EvalsT Ok (operand_for t n 2) env (sp + la) sa A C r') where
        pub iterate_second : Other r' → EvalsT Ok (iterate_node t n) env sp s B C r'
        unfolding iterate_node iterate_trace
        iterate_second o = after accumulate (λ w ρ. refl) x q y.small (λ w ok ρ rel v l u.
            let z = is_coll_lem l S h in
            rw z.is (falls (operand_for t n 2 w ρ sa) (λ a n'. fold_all w ρ z.members a n') (omega arith) u (y.ran w ok ρ (rel_kept (omega arith) u rel)) o))

        pub iterate_done : {lb sb : ℕ} {D : List ℕ} {r'' : Answer} → r' ≡ traced.Value lb sb → Folds Ok (variable (word t n 4)) (variable (word t n 5)) (operand_for t n 3) env sp la lb sb C D r'' → EvalsT Ok (iterate_node t n) env sp s B D r''
        unfolding iterate_node iterate_trace
        iterate_done p g = after accumulate (λ w ρ. refl) x q g.small (λ w ok ρ rel v l u.
            let z = is_coll_lem l S h in
            let d = valued (y.ran w ok ρ (rel_kept (omega arith) u rel)) p in
            let o = under_then (under_down (omega arith) d.kept) u in
            rw (z.is, d.is)
            (ran_from o (g.ran w ok ρ (rel_kept (omega arith) o rel) z.members z.fits (under_top C A (sp + la) (sp + 1) (sp + la) (omega arith) d.kept.same ∙ cells l z) d.v d.lies)))

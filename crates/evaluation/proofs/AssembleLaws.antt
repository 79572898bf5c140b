-- `coll`: its operands run one after another, and their values are collected. Assumes nothing.
use mathlib.Core.Path.{◌≡◌, refl, sym, ap, ◌∙◌}
use mathlib.Core.Bool.{Bool, true, false}
use mathlib.Core.List.{List, ◌++◌, append-nil}
use Prim.Native.Nat.{ℕ, suc, ◌+◌, ◌-◌, ◌*◌, ◌<◌, ◌≤◌}
use native.Mathlib.Omega.{arith}
use lib.ListN.{length}
use lib.Seq.{slice, slice_empty}
use lib.Dec.{eqb}
use borrow.Author.Tests.{lt-ltb, le-ltb, eqb-true, eqb-false}
use Rattle.std.specs.Prelude.{if◌then◌else◌, Option as Optional}
use Rattle.laws.proofs.Slices.{under_top, slice_join}
use Rattle.ocl.specs.Types.{Kind, set, sequence, bag, kind_code}
use Rattle.ocl.specs.Values.{Value, coll, Values, nil, cons, append, add, add_all}
use Rattle.ocl.specs.Environment.{Env}
use Rattle.ocl.specs.Operations.{form}
use Rattle.ocl.specs.Evaluation.{leaf_run}
use Rattle.ocl.specs.Trace.{Traced, at, bind_t, leaf_trace, no_operand_trace, operand_trace, assemble_trace, operands_trace}
use Rattle.values.specs.Cells.{enc, encs, Fits, AllFit, fit_nil, fit_cons}
use Rattle.values.specs.Meanings.{Assembles}
use Rattle.values.proofs.Growing.{append_cells}
use Rattle.nodes.specs.Nodes.{word, kind_of, operands_in, trees_below}
use Rattle.outcomes.specs.declared.Ended.{Ended}
use Rattle.outcomes.specs.Answers.{Under, formed_as}
use Rattle.operations.specs.Runs.{World, Rel}
use Rattle.evaluation.specs.declared.Traced.{Traced as Answer}
use Rattle.evaluation.specs.declared.Traced.TheVariants as traced
use Rattle.evaluation.specs.Traces.{place_of, RanT, SmallTraced, arisen, EvalsT}
use Rattle.evaluation.specs.Evaluating.{operand_for, members_trace, assemble_node}
use Rattle.outcomes.proofs.Words.{under_refl, under_then, under_down, formed_small, formed_ran}
use Rattle.evaluation.proofs.Composition.{rel_kept, Other, bounds, valued, falls, arisen_small, arisen_ran, named, placed, ran_from, ran_undefined_at}

-- ---- one more value at the end

append_fits : {v : Value} {vs : Values} → Fits v → AllFit vs → AllFit (append v vs)
unfolding append
append_fits f fit_nil = fit_cons f fit_nil
append_fits f (fit_cons g gs) = fit_cons g (append_fits f gs)

add_last : (k : Kind) (v : Value) (vs us : Values) → add_all k (append v vs) us ≡ add k v (add_all k vs us)
unfolding append add_all
add_last k v nil us = refl
add_last k v (cons w ws) us = add_last k v ws (add k w us)

pub kind_number : (k : ℕ) → 27 ≤ k → k < 30 → k - 27 ≡ kind_code (kind_of k)
unfolding kind_code kind_of
kind_number k l h = by (eqb k 27) (eqb k 28) refl refl
  where
    by : (a b : Bool) → eqb k 27 ≡ a → eqb k 28 ≡ b → k - 27 ≡ kind_code (if a then set else if b then sequence else bag)
    by true b e f = let z = eqb-true k 27 e in omega arith
    by false true e f = let z = eqb-true k 28 f in omega arith
    by false false e f = let z = eqb-false k 27 e in let y = eqb-false k 28 f in omega arith

-- ---- the loop

-- c operands from word j on, to the members vs; the node began at step b
unfoldable pub gather_run : List ℕ → ℕ → ℕ → World → ℕ → ℕ → Kind → Values → Env Value → ℕ → Traced
gather_run t n b w c j k vs ρ s = operands_trace w.model w.mark (operands_in (trees_below t n) (word t n) c j) n b k vs ρ s

gather_step : (t : List ℕ) (n b : ℕ) (w : World) (c j : ℕ) (k : Kind) (vs : Values) (ρ : Env Value) (s : ℕ)
    → gather_run t n b w (suc c) j k vs ρ s ≡ bind_t (operand_for t n j w ρ s) (λ v m. gather_run t n b w c (j + 1) k (add k v vs) ρ m)
unfolding gather_run operands_in operands_trace operand_trace operand_for
gather_step t n b w c j k vs ρ s = refl

gather_end : (t : List ℕ) (n b : ℕ) (w : World) (j : ℕ) (k : Kind) (vs : Values) (ρ : Env Value) (s : ℕ) → gather_run t n b w 0 j k vs ρ s ≡ at n b (form (coll k vs) s)
unfolding gather_run operands_in operands_trace no_operand_trace
gather_end t n b w j k vs ρ s = refl

-- the values so far lie from sp to end
pub record GatherAt (t : List ℕ) (n : ℕ) (kind : Kind) (w : World) (ρ : Env Value) (sp end count : ℕ) (S₀ S : List ℕ) (s₀ s j : ℕ) (whole : Traced) : Type 0 where
  pub done : Values
  pub fits : AllFit done
  pub lies : slice sp end S ≡ encs done
  pub same : whole ≡ gather_run t n s₀ w (count - j) (j + 1) kind (add_all kind done nil) ρ s
  pub kept : Under sp S S₀

-- S₀ is the stack where the loop begins; an operand is there only where a level is left for it
pub record Gathering (Ok : World → Type 0) (t : List ℕ) (n : ℕ) (kind : Kind) (env : List ℕ) (sp left count : ℕ) (S₀ S : List ℕ) (s₀ s end j : ℕ) : Type 0 where
  pub long : length S ≡ length S₀
  pub up : sp ≤ end
  pub near : end ≤ sp + 128 * j
  pub room : end ≤ sp + 384 + 128 * left
  pub within : j ≤ count
  pub at : (w : World) → Ok w → (ρ : Env Value) → Rel env S₀ sp ρ → GatherAt t n kind w ρ sp end count S₀ S s₀ s j (gather_run t n s₀ w count 1 kind nil ρ s₀)

pub gather_starts : {Ok : World → Type 0} {t : List ℕ} {n : ℕ} {kind : Kind} {env S : List ℕ} {sp left count s : ℕ} → Gathering Ok t n kind env sp left count S S s s sp 0
unfolding encs add_all
gather_starts {t = t} {n = n} {kind = kind} {S = S} {sp = sp} {count = count} {s = s} = record {
  long = refl;
  up = omega arith;
  near = omega arith;
  room = omega arith;
  within = omega arith;
  at = λ w ok ρ rel. record { done = nil; fits = fit_nil; lies = slice_empty sp S; same = (let e : count ≡ count - 0 = omega arith in ap (λ (m : ℕ). gather_run t n s w m 1 kind nil ρ s) e); kept = under_refl };
}

module _ {Ok : World → Type 0} (t : List ℕ) (n k : ℕ) {env : List ℕ} {sp left count : ℕ} {S₀ S : List ℕ} {s₀ s end j : ℕ} (c : count ≡ word t n 5) (few : count ≤ 4)
    (G : Gathering Ok t n (kind_of k) env sp left count S₀ S s₀ s end j) where
  assembles : {A : List ℕ} {r : Answer} → SmallTraced r → ((w : World) → Ok w → (ρ : Env Value) → Rel env S₀ sp ρ → RanT (gather_run t n s₀ w count 1 (kind_of k) nil ρ s₀) sp S₀ A r) → EvalsT Ok (assemble_node t n k) env sp s₀ S₀ A r
  unfolding assemble_node members_trace assemble_trace gather_run
  assembles m x = record { small = m; ran = λ w ok ρ rel. rw (← c, le-ltb 4 count few) (x w ok ρ rel) }

  pub assemble_done : {D : List ℕ} (f : Optional ℕ) {r : Ended} {a : Answer} {kind place : ℕ} → count ≤ j → kind ≡ kind_code (kind_of k) → sp ≤ length S → Assembles kind sp sp end S D f → r ≡ formed_as f s
      → n < 768 → 1 ≤ s₀ → s₀ ≤ 1000000 → place ≡ place_of n s₀ → a ≡ arisen r place → EvalsT Ok (assemble_node t n k) env sp s₀ S₀ D a
  assemble_done f h e room x q node low high at i = rw (i, q) (assembles (arisen_small (formed_as f s) (formed_small f s x.small) (placed at node low high)) (λ w ok ρ rel.
      let a = G.at w ok ρ rel in
      let z : count - j ≡ 0 = omega arith in
      rw (a.same, z, gather_end t n s₀ w (j + 1) (kind_of k) (add_all (kind_of k) a.done nil) ρ s)
      (ran_from a.kept (arisen_ran (formed_ran S s room (x.is (kind_of k) a.done e a.fits a.lies)) (named at node)))))

  module _ {S' : List ℕ} {r : Answer} (more : j < count) (x : EvalsT Ok (operand_for t n (j + 1)) env end s S S' r) where
    step : {w : World} {ρ : Env Value} → (a : GatherAt t n (kind_of k) w ρ sp end count S₀ S s₀ s j (gather_run t n s₀ w count 1 (kind_of k) nil ρ s₀))
        → gather_run t n s₀ w count 1 (kind_of k) nil ρ s₀ ≡ bind_t (operand_for t n (j + 1) w ρ s) (λ v m. gather_run t n s₀ w (count - (j + 1)) (j + 1 + 1) (kind_of k) (add (kind_of k) v (add_all (kind_of k) a.done nil)) ρ m)
    step {w} {ρ} a =
        let z : count - j ≡ suc (count - (j + 1)) = omega arith in
        a.same ∙ ap (λ (m : ℕ). gather_run t n s₀ w m (j + 1) (kind_of k) (add_all (kind_of k) a.done nil) ρ s) z
        ∙ gather_step t n s₀ w (count - (j + 1)) (j + 1) (kind_of k) (add_all (kind_of k) a.done nil) ρ s

    pub assemble_early : Other r → EvalsT Ok (assemble_node t n k) env sp s₀ S₀ S' r
    assemble_early o = assembles x.small (λ w ok ρ rel.
        let a = G.at w ok ρ rel in
        rw (step a) (falls (operand_for t n (j + 1) w ρ s) (λ v m. gather_run t n s₀ w (count - (j + 1)) (j + 1 + 1) (kind_of k) (add (kind_of k) v (add_all (kind_of k) a.done nil)) ρ m)
        G.up a.kept (x.ran w ok ρ (rel_kept G.up a.kept rel)) o))

    pub assemble_again : {len sb : ℕ} → r ≡ traced.Value len sb → length S' ≡ length S → 1 ≤ left → end ≤ length S' → Gathering Ok t n (kind_of k) env sp left count S₀ S' s₀ sb (end + len) (j + 1)
    assemble_again {len} {sb} q l h room = record {
      long = l ∙ G.long;
      up = (let u = G.up in omega arith);
      near = (let u = G.near in let m = bounds x.small q in omega arith);
      room = (let u = G.near in let m = bounds x.small q in omega arith);
      within = omega arith;
      at = λ w ok ρ rel.
          let a = G.at w ok ρ rel in
          let d = valued (x.ran w ok ρ (rel_kept G.up a.kept rel)) q in
          record {
            done = append d.v a.done;
            fits = append_fits d.lies.fits a.fits;
            lies = slice_join S' sp end (end + len) G.up (omega arith) room
                ∙ ap (λ (y : List ℕ). y ++ slice end (end + len) S') (under_top S' S end sp end (omega arith) d.kept.same ∙ a.lies)
                ∙ ap (λ (y : List ℕ). encs a.done ++ y) (d.lies.cells ∙ sym (append-nil (enc d.v))) ∙ sym (append_cells d.v a.done);
            same = step a
                ∙ ap (λ (o : Traced). bind_t o (λ v m. gather_run t n s₀ w (count - (j + 1)) (j + 1 + 1) (kind_of k) (add (kind_of k) v (add_all (kind_of k) a.done nil)) ρ m)) d.is
                ∙ ap (λ (vs : Values). gather_run t n s₀ w (count - (j + 1)) (j + 1 + 1) (kind_of k) vs ρ sb) (sym (add_last (kind_of k) d.v a.done nil));
            kept = under_then (under_down G.up d.kept) a.kept;
          };
    }

-- more than four count as `undef`
pub assemble_over : {Ok : World → Type 0} (t : List ℕ) (n k : ℕ) {env B : List ℕ} {sp s count place : ℕ} → count ≡ word t n 5 → 4 < count
    → n < 768 → 1 ≤ s → s ≤ 1000000 → place ≡ place_of n s → EvalsT Ok (assemble_node t n k) env sp s B B (traced.Undef s place)
unfolding assemble_node leaf_trace leaf_run
assemble_over t n k {count = count} e h node low high at = record { small = placed at node low high; ran = λ w ok ρ rel. rw (← e, lt-ltb 4 count h) (ran_undefined_at under_refl (named at node)) }

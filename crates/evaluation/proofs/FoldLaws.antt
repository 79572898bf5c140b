-- The loop of `iter` over a collection's members: what is left means what the whole meant. Assumes nothing.
use mathlib.Core.Path.{◌≡◌, refl, ap, ◌∙◌}
use mathlib.Core.List.{List, ◌++◌}
use Prim.Native.Nat.{ℕ, ◌+◌, ◌<◌, ◌≤◌}
use native.Mathlib.Omega.{arith}
use lib.ListN.{length, take, drop, set}
use lib.Seq.{slice}
use Rattle.ocl.specs.Values.{Value, Values, cons}
use Rattle.ocl.specs.Environment.{Env, extend}
use Rattle.ocl.specs.Trace.{Traced, bind_t, fold_t}
use Rattle.values.specs.Cells.{encs, AllFit}
use Rattle.values.specs.Meanings.{Skips}
use Rattle.values.proofs.Members.{Left, none_left}
use Rattle.outcomes.specs.Answers.{Lies, Under}
use Rattle.operations.specs.Runs.{World, held, Rel}
use Rattle.evaluation.specs.declared.Traced.{Traced as Answer}
use Rattle.evaluation.specs.declared.Traced.TheVariants as traced
use Rattle.evaluation.specs.Traces.{RanT, MeaningT, EvalsT}
use Rattle.evaluation.specs.Evaluating.{Folds}
use Rattle.outcomes.proofs.Words.{under_refl, under_then, under_down, slid}
use Rattle.evaluation.proofs.Composition.{rel_kept, rel_bind, Other, bounds, valued, falls, ran_value}
use Rattle.evaluation.proofs.LoopLaws.{First, first_member, left_kept, after_first}

abbrev both : MeaningT → ℕ → ℕ → World → Env Value → Value → Value → ℕ → Traced
both h i j w ρ v a = h w (extend (extend ρ i v) j a)

-- the accumulator is the len cells at mid, after the source
pub record FoldAt (i j : ℕ) (h : MeaningT) (w : World) (ρ : Env Value) (mid : ℕ) (S₀ S : List ℕ) (s p len : ℕ) (whole : Traced) : Type 0 where
  pub rest : Values
  pub left : Left S p mid rest
  pub acc : Value
  pub lies : Lies acc mid len S
  pub same : whole ≡ fold_t (both h i j w ρ) rest acc s
  pub kept : Under mid S S₀

pub record Folding (Ok : World → Type 0) (i j : ℕ) (h : MeaningT) (env : List ℕ) (sp mid lb : ℕ) (S₀ S : List ℕ) (s₀ s p len : ℕ) : Type 0 where
  pub long : length S ≡ length S₀
  pub up : sp < p
  pub within : p ≤ mid
  pub some : 1 ≤ len
  pub small : len ≤ 128
  pub at : (w : World) → Ok w → (ρ : Env Value) → Rel env S₀ sp ρ → (vs : Values) → AllFit vs → slice (sp + 1) mid S₀ ≡ encs vs → (a : Value) → Lies a mid lb S₀
      → FoldAt i j h w ρ mid S₀ S s p len (fold_t (both h i j w ρ) vs a s₀)

pub fold_starts : {Ok : World → Type 0} {i j : ℕ} {h : MeaningT} {env S : List ℕ} {sp mid lb s : ℕ} → sp + 1 ≤ mid → 1 ≤ lb → lb ≤ 128 → Folding Ok i j h env sp mid lb S S s s (sp + 1) lb
fold_starts l m n = record {
  long = refl;
  up = omega arith;
  within = l;
  some = m;
  small = n;
  at = λ w ok ρ rel vs f e a k. record { rest = vs; left = record { fits = f; lies = e }; acc = a; lies = k; same = refl; kept = under_refl };
}

module _ {Ok : World → Type 0} {i j : ℕ} {h : MeaningT} {env : List ℕ} {sp la lb : ℕ} {S₀ S : List ℕ} {s₀ s p len : ℕ} (G : Folding Ok i j h env sp (sp + la) lb S₀ S s₀ s p len) (room : sp + la ≤ length S₀) where
  -- the accumulator is moved down over the source
  pub fold_none : {D : List ℕ} → sp + la ≤ p → take (sp + len) D ≡ take sp S ++ take len (drop (sp + la) S) → Folds Ok i j h env sp la lb s₀ S₀ D (traced.Value len s)
  unfolding fold_t
  fold_none m z = record {
    small = (G.some, G.small);
    ran = λ w ok ρ rel vs f e a k.
        let b = G.at w ok ρ rel vs f e a k in
        let n = none_left b.left (let x = G.within in omega arith) in
        let x = G.long in
        let y = slid {from = sp + la} {to = sp} {len = len} z (omega arith) (omega arith) b.lies in
        rw (b.same, n) (ran_value y.there (under_then y.kept (under_down (omega arith) b.kept)) G.small);
  }

  module _ {S' : List ℕ} {i' j' : ℕ} {r : Answer} (eq : i' ≡ i) (eq' : j' ≡ j) (low : i' < 16) (low' : j' < 16) (small : la ≤ 128) (more : p < sp + la)
      (z : EvalsT Ok h (set (set env i' (p + 1)) j' (sp + la + 1)) (sp + la + len) s S S' r) where
    turned : {w : World} {ρ : Env Value} {whole : Traced} → Ok w → Rel env S₀ sp ρ → (a : FoldAt i j h w ρ (sp + la) S₀ S s p len whole) → (f : First S p (sp + la) a.rest) → RanT (both h i j w ρ f.v a.acc s) (sp + la + len) S S' r
    turned {w} {ρ} ok rel a f =
        let u = G.up in
        rw (← eq, ← eq') (z.ran w ok (extend (extend ρ i' f.v) j' a.acc)
        (rel_bind a.acc low' (held (sp + la) refl a.lies G.small (omega arith))
        (rel_bind f.v low (held p refl f.lies (let k = f.within in omega arith) (let k = f.within in omega arith)) (rel_kept (omega arith) (under_down (omega arith) a.kept) rel))))

    following : {w : World} {ρ : Env Value} {whole : Traced} → (a : FoldAt i j h w ρ (sp + la) S₀ S s p len whole) → First S p (sp + la) a.rest
    following a = first_member a.left more (let k = G.long in omega arith)

    pub fold_early : Other r → Folds Ok i j h env sp la lb s₀ S₀ S' r
    unfolding fold_t
    fold_early o = record {
      small = z.small;
      ran = λ w ok ρ rel vs f e c k.
          let a = G.at w ok ρ rel vs f e c k in
          let b = following a in
          rw (a.same, b.are) (falls (both h i j w ρ b.v a.acc s) (λ x n. fold_t (both h i j w ρ) b.vs x n) (omega arith) (under_down (omega arith) a.kept) (turned ok rel a b) o);
    }

    -- the body's value is moved down over the accumulator
    pub fold_again : {lt sb p' : ℕ} {D : List ℕ} → r ≡ traced.Value lt sb → length S' ≡ length S → length D ≡ length S' → sp + la + len ≤ length S' → take (sp + la + lt) D ≡ take (sp + la) S' ++ take lt (drop (sp + la + len) S') → Skips p (sp + la) D p'
        → Folding Ok i j h env sp (sp + la) lb S₀ D s₀ sb p' lt
    unfolding fold_t
    fold_again {lt} {sb} {p'} {D} y n n' room' m k = record {
      long = n' ∙ n ∙ G.long;
      up = (let a = k.up more in let b = G.up in omega arith);
      within = k.within;
      some = (bounds z.small y).0;
      small = (bounds z.small y).1;
      at = λ w ok ρ rel vs f e c l.
          let a = G.at w ok ρ rel vs f e c l in
          let b = following a in
          let v = valued (turned ok rel a b) y in
          let d = slid {from = sp + la + len} {to = sp + la} {len = lt} m (omega arith) room' v.lies in
          let u : Under (sp + la) D S = under_then d.kept (under_down (omega arith) v.kept) in
          let x : fold_t (both h i j w ρ) (cons b.v b.vs) a.acc s ≡ fold_t (both h i j w ρ) b.vs v.v sb = ap (λ (o : Traced). bind_t o (λ y n. fold_t (both h i j w ρ) b.vs y n)) v.is in
          record {
            rest = b.vs;
            left = after_first b.v b.vs (let x = G.long in omega arith) more k (rw b.are at (left_kept u a.left));
            acc = v.v;
            lies = d.there;
            same = a.same ∙ ap (λ (x : Values). fold_t (both h i j w ρ) x a.acc s) b.are ∙ x;
            kept = under_then u a.kept;
          };
    }

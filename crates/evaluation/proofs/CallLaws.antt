-- `call` over the outcomes of its operand and of the body, one law for each way in which the code answers. Assumes nothing.
use mathlib.Core.Path.{◌≡◌, refl, sym, ◌∙◌}
use mathlib.Core.Bool.{Bool, true, false}
use mathlib.Core.List.{List, ◌++◌}
use Prim.Native.Nat.{ℕ, ◌+◌, ◌%◌, ◌≤◌}
use native.Mathlib.Omega.{arith}
use lib.ListN.{length, get_or, take, drop, set, replicate}
use Rattle.std.specs.Prelude.{if◌then◌else◌}
use Rattle.ocl.specs.Types.{class}
use Rattle.ocl.specs.Values.{Value, bool, num, obj, coll}
use Rattle.ocl.specs.Model.{Model, is_a}
use Rattle.ocl.specs.Environment.{Env, start}
use Rattle.ocl.specs.Trace.{Traced, value_t, stuck_t, on_obj_t, call_trace}
use Rattle.nodes.specs.Nodes.{word, class_in}
use Rattle.tables.specs.declared.Counts.{Counts}
use Rattle.outcomes.specs.Answers.{Lies}
use Rattle.outcomes.specs.Tables.{object_of, IsObject}
use Rattle.operations.specs.Runs.{World, held, Rel}
use Rattle.evaluation.specs.declared.Traced.{Traced as Answer}
use Rattle.evaluation.specs.declared.Traced.TheVariants as traced
use Rattle.evaluation.specs.Traces.{EvalsT}
use Rattle.evaluation.specs.Evaluating.{ReadsWorld, operand_for, call_node}
use Rattle.outcomes.proofs.Words.{under_then, under_down, head_at_lem, slid}
use Rattle.evaluation.proofs.Composition.{rel_bind, nothing_bound, Other, bounds, valued, falls, bind_value, early, after, ran_value, ran_stuck_at}

-- ---- the operand's value

module _ (m : Model) (c : ℕ) where
  not_called : (v : Value) (k : ℕ → Traced) → false ≡ object_of m c v → on_obj_t v (λ o. if is_a m o (class c) then k o else stuck_t) ≡ stuck_t
  unfolding object_of
  not_called (bool b) k e = refl
  not_called (num x) k e = refl
  not_called (obj o) k e = rw (← e)
  not_called (coll j vs) k e = refl

  record IsCalled (v : Value) : Type 0 where
    o : ℕ
    is : v ≡ obj o
    below : is_a m o (class c) ≡ true

  is_called : (v : Value) → true ≡ object_of m c v → IsCalled v
  unfolding object_of
  is_called (bool b) e = absurd (let z : ◌≡◌ {A = ℕ} 0 1 = cc in omega arith)
  is_called (num x) e = absurd (let z : ◌≡◌ {A = ℕ} 0 1 = cc in omega arith)
  is_called (obj o) e = record { o = o; is = refl; below = sym e }
  is_called (coll j vs) e = absurd (let z : ◌≡◌ {A = ℕ} 0 1 = cc in omega arith)

-- ---- the call

module _ {st : Counts} {w0 : List ℕ} (t : List ℕ) (n : ℕ) {env B A : List ℕ} {sp s : ℕ} {r : Answer} (x : EvalsT (ReadsWorld st w0 t) (operand_for t n 1) env sp s B A r) where
  abbrev body : World → ℕ → ℕ → Traced
  body w n' o = operand_for t n 2 w (start (obj o)) n'

  abbrev entered : World → Env Value → Value → ℕ → Traced
  entered w ρ v n' = on_obj_t v (λ o. if is_a w.model o (class (class_in (word t n 3))) then body w n' o else stuck_t)

  pub call_first : Other r → EvalsT (ReadsWorld st w0 t) (call_node t n) env sp s B A r
  unfolding call_node call_trace
  call_first o = early entered (λ w ρ. refl) x o

  module _ {la sa c : ℕ} {b : Bool} (q : r ≡ traced.Value la sa) (e : c ≡ word t n 3) (z : IsObject st w0 (c % 256) (get_or A sp 0) b) where
    tested : {w : World} → ReadsWorld st w0 t w → {v : Value} → Lies v sp la A → b ≡ object_of w.model (class_in (word t n 3)) v
    tested {w} ok {v} l = rw e at (z.is w.model ok.holds v l.fits (head_at_lem l))

    pub call_stuck : b ≡ false → EvalsT (ReadsWorld st w0 t) (call_node t n) env sp s B A traced.Stuck
    unfolding call_node call_trace
    call_stuck h = after entered (λ w ρ. refl) x q tt (λ w ok ρ rel v l u. rw (not_called w.model (class_in (word t n 3)) v (body w sa) (sym h ∙ tested ok l)) (ran_stuck_at u))

    module _ {C : List ℕ} {r' : Answer} (h : b ≡ true) (y : EvalsT (ReadsWorld st w0 t) (operand_for t n 2) (set (replicate 16 0) 0 (sp + 1)) (sp + la) sa A C r') where
      alone : {o : ℕ} → Lies (obj o) sp la A → Rel (set (replicate 16 0) 0 (sp + 1)) A (sp + la) (start (obj o))
      unfolding start
      alone {o} l = rel_bind (obj o) (omega arith) (held sp refl l (bounds x.small q).1 (omega arith)) (nothing_bound A (sp + la))

      pub call_second : Other r' → EvalsT (ReadsWorld st w0 t) (call_node t n) env sp s B C r'
      unfolding call_node call_trace
      call_second o = after entered (λ w ρ. refl) x q y.small (λ w ok ρ rel v l u.
          let g = is_called w.model (class_in (word t n 3)) v (sym h ∙ tested ok l) in
          rw (g.is, g.below) (rw (bind_value (body w sa g.o)) at (falls (body w sa g.o) value_t (omega arith) u (y.ran w ok (start (obj g.o)) (alone (rw g.is at l))) o)))

      -- the body's value is moved down over the object
      pub call_done : {lb sb : ℕ} {D : List ℕ} → r' ≡ traced.Value lb sb → sp + la ≤ length C → take (sp + lb) D ≡ take sp C ++ take lb (drop (sp + la) C) → EvalsT (ReadsWorld st w0 t) (call_node t n) env sp s B D (traced.Value lb sb)
      unfolding call_node call_trace
      call_done {lb} p room f = after entered (λ w ρ. refl) x q (rw p at y.small) (λ w ok ρ rel v l u.
          let g = is_called w.model (class_in (word t n 3)) v (sym h ∙ tested ok l) in
          let d = valued (y.ran w ok (start (obj g.o)) (alone (rw g.is at l))) p in
          let m = slid {from = sp + la} {to = sp} {len = lb} f (omega arith) room d.lies in
          rw (g.is, g.below, d.is) (ran_value m.there (under_then m.kept (under_then (under_down (omega arith) d.kept) u)) (bounds y.small p).1))

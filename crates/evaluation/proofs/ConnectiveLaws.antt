-- Truth values read back from the stack, and `and` and `or` over the outcomes of their sides. Assumes nothing.
use mathlib.Core.Path.{◌≡◌, refl, sym, ◌∙◌}
use mathlib.Core.Bool.{Bool, true, false, beq}
use mathlib.Core.List.{List}
use Prim.Native.Nat.{ℕ, ◌-◌, ◌/◌, ◌%◌, ◌<◌, ◌≤◌}
use native.Mathlib.Omega.{arith}
use lib.ListN.{get_or}
use lib.Dec.{eqb}
use borrow.Author.Tests.{eqb-true, eqb-false, eq-eqb, ne_eqb}
use Rattle.std.specs.Prelude.{if◌then◌else◌}
use Rattle.ocl.specs.Values.{Value, bool, num, obj, coll}
use Rattle.ocl.specs.Environment.{Env}
use Rattle.ocl.specs.Forms.{Connective, and, or}
use Rattle.ocl.specs.Evaluation.{decides}
use Rattle.ocl.specs.Trace.{Traced, value_t, undefined_t, stuck_t, bind_t, on_bool_t, connective_trace}
use Rattle.values.specs.Cells.{bit}
use Rattle.nodes.specs.Nodes.{connective_of}
use Rattle.outcomes.specs.Answers.{Lies, Under, truth_of, Truth}
use Rattle.operations.specs.Runs.{World, Rel}
use Rattle.outcomes.proofs.Words.{head_at_lem}
use Rattle.operations.proofs.Sorts.{bit_small, is_bool}
use Rattle.evaluation.specs.declared.Traced.{Traced as Answer}
use Rattle.evaluation.specs.declared.Traced.TheVariants as traced
use Rattle.evaluation.specs.Traces.{Placed, Perhaps, no_place, a_place, earlier_of, ends_stop, RanT, SmallTraced, MeaningT, EvalsT}
use Rattle.evaluation.specs.Evaluating.{operand_for, connective_node, known_left, undefined_left, right_side}
use Rattle.evaluation.proofs.Composition.{rel_kept, bounds, its_place, valued, is_undefined, is_stuck, is_stop, ran_from, ran_value, ran_stuck_at, ran_undefined_from}

-- ---- `and` and `or`

pub beq_yes : (a b : Bool) → bit a ≡ bit b → beq a b ≡ true
unfolding bit
beq_yes true true e = refl
beq_yes true false e = absurd (omega arith)
beq_yes false true e = absurd (omega arith)
beq_yes false false e = refl

pub beq_no : (a b : Bool) → (bit a ≡ bit b → ⊥) → beq a b ≡ false
unfolding bit
beq_no true true e = absurd (e refl)
beq_no true false e = refl
beq_no false true e = refl
beq_no false false e = absurd (e refl)

pub decides_code : (k : ℕ) → 23 ≤ k → k < 25 → k - 23 ≡ bit (decides (connective_of k))
unfolding bit decides connective_of
decides_code k l h = by (eqb k 23) refl
  where
    by : (b : Bool) → eqb k 23 ≡ b → k - 23 ≡ bit (decides (if b then and else or))
    by true e = let z = eqb-true k 23 e in omega arith
    by false e = let z = eqb-false k 23 e in omega arith

-- a Boolean at sp, by the number that the code reads
pub record BoolAt (v : Value) (x : ℕ) : Type 0 where
  pub b : Bool
  pub is : v ≡ bool b
  pub code : x ≡ bit b

pub bool_at : {v : Value} {p len x : ℕ} {S : List ℕ} → Lies v p len S → Truth (get_or S p 0) x → x ≤ 1 → BoolAt v x
bool_at {v} l z h = let e = z.is v l.fits (head_at_lem l) in let y = is_bool v (omega arith) in record { b = y.b; is = y.is; code = e ∙ y.code }

no_bool_t : (v : Value) (k : Bool → Traced) → 1 < truth_of v → on_bool_t v k ≡ stuck_t
unfolding truth_of
no_bool_t (bool b) k h = absurd (let z = bit_small b in omega arith)
no_bool_t (num x) k h = refl
no_bool_t (obj o) k h = refl
no_bool_t (coll c vs) k h = refl

pub not_bool_at : {v : Value} {p len x : ℕ} {S : List ℕ} → Lies v p len S → Truth (get_or S p 0) x → 1 < x → (k : Bool → Traced) → on_bool_t v k ≡ stuck_t
not_bool_at {v} l z h k = no_bool_t v k (let e = z.is v l.fits (head_at_lem l) in omega arith)

module _ {Ok : World → Type 0} (t : List ℕ) (n k : ℕ) {env B A : List ℕ} {sp s : ℕ} {r : Answer} (x : EvalsT Ok (operand_for t n 1) env sp s B A r) where
  abbrev on_left : World → Env Value → Value → ℕ → Traced
  on_left w ρ v n' = on_bool_t v (λ a. if beq a (decides (connective_of k)) then value_t (bool a) n' else bind_t (operand_for t n 2 w ρ n') (λ y n'. on_bool_t y (λ b. value_t (bool b) n')))

  pub connective_ends : r ≡ traced.Stuck → EvalsT Ok (connective_node t n k) env sp s B A traced.Stuck
  unfolding connective_node connective_trace
  connective_ends q = record { small = tt; ran = λ w ok ρ rel. let y = x.ran w ok ρ rel in rw (is_stuck y q) (ran_stuck_at y.kept) }

  pub connective_stops : {c m : ℕ} → r ≡ traced.Stop c m → EvalsT Ok (connective_node t n k) env sp s B A (traced.Stop c m)
  unfolding connective_node connective_trace
  connective_stops q = record { small = tt; ran = λ w ok ρ rel. let y = x.ran w ok ρ rel in rw (is_stop y q) (record { kept = y.kept; ends = ends_stop }) }

  module _ {la sa d : ℕ} (q : r ≡ traced.Value la sa) (z : Truth (get_or A sp 0) d) where
    left : {C : List ℕ} {r' : Answer} → SmallTraced r' → ((w : World) → Ok w → (ρ : Env Value) → Rel env B sp ρ → (v : Value) → Lies v sp la A → Under sp A B → RanT (on_left w ρ v sa) sp B C r') → EvalsT Ok (connective_node t n k) env sp s B C r'
    unfolding connective_node connective_trace
    left m y = record { small = m; ran = λ w ok ρ rel. let e = valued (x.ran w ok ρ rel) q in rw e.is (y w ok ρ rel e.v e.lies e.kept) }

    pub connective_stuck : 1 < d → EvalsT Ok (connective_node t n k) env sp s B A traced.Stuck
    connective_stuck h = left tt (λ w ok ρ rel v l u.
        rw (not_bool_at l z h (λ a. if beq a (decides (connective_of k)) then value_t (bool a) sa else bind_t (operand_for t n 2 w ρ sa) (λ y n'. on_bool_t y (λ b. value_t (bool b) n')))) (ran_stuck_at u))

    module _ (h : d ≤ 1) (low : 23 ≤ k) (high : k < 25) where
      pub connective_decided : d ≡ k - 23 → EvalsT Ok (connective_node t n k) env sp s B A (traced.Value la sa)
      connective_decided e = left (rw q at x.small) (λ w ok ρ rel v l u.
          let b = bool_at l z h in
          let c = decides_code k low high in
          let m = bounds x.small q in
          rw (b.is, beq_yes b.b (decides (connective_of k)) (sym b.code ∙ e ∙ c)) (ran_value (rw b.is at l) u m.1))

      pub connective_known : {C : List ℕ} {r' : Answer} → (d ≡ k - 23 → ⊥) → EvalsT Ok (right_side 0 (connective_of k) (operand_for t n 2)) env sp sa A C r' → EvalsT Ok (connective_node t n k) env sp s B C r'
      unfolding right_side known_left
      connective_known e y = left y.small (λ w ok ρ rel v l u.
          let b = bool_at l z h in
          let c = decides_code k low high in
          rw (b.is, beq_no b.b (decides (connective_of k)) (λ f. e (b.code ∙ f ∙ sym c))) (ran_from u (y.ran w ok ρ (rel_kept (omega arith) u rel))))

  pub connective_unknown : {sa place : ℕ} {C : List ℕ} {r' : Answer} → r ≡ traced.Undef sa place → EvalsT Ok (right_side place (connective_of k) (operand_for t n 2)) env sp sa A C r' → EvalsT Ok (connective_node t n k) env sp s B C r'
  unfolding connective_node connective_trace right_side undefined_left
  connective_unknown {place = place} q y =
      let z = its_place x.small q in
      let no : eqb place 0 ≡ false = ne_eqb place 0 (λ e. omega (arith, z.step)) in
      record {
        small = y.small;
        ran = λ w ok ρ rel.
            let e = x.ran w ok ρ rel in
            rw (is_undefined e q) (ran_from e.kept (rw no at (y.ran w ok ρ (rel_kept (omega arith) e.kept rel))));
      }

pub is_place : {place : ℕ} → Perhaps place → (place ≡ 0 → ⊥) → Placed place
is_place no_place h = absurd (h refl)
is_place (a_place p) h = p

-- the right side, after a left side with this place, or none
module _ {Ok : World → Type 0} (place : ℕ) (c : Connective) {g : MeaningT} {env B A : List ℕ} {sp s : ℕ} {r : Answer} (x : EvalsT Ok g env sp s B A r) where
  -- by what the right side ends in, for both kinds of left sides
  sides : {C : List ℕ} {r' : Answer} → SmallTraced r' → ((w : World) → Ok w → (ρ : Env Value) → Rel env B sp ρ → RanT (known_left g w ρ s) sp B C r' × RanT (undefined_left place c g w ρ s) sp B C r') → EvalsT Ok (right_side place c g) env sp s B C r'
  unfolding right_side
  sides {C} {r'} m y = record { small = m; ran = λ w ok ρ rel. by (eqb place 0) w ρ (y w ok ρ rel) }
    where
      by : (b : Bool) (w : World) (ρ : Env Value) → RanT (known_left g w ρ s) sp B C r' × RanT (undefined_left place c g w ρ s) sp B C r' → RanT ((if b then known_left g else undefined_left place c g) w ρ s) sp B C r'
      by true w ρ z = z.0
      by false w ρ z = z.1

  pub right_ends : r ≡ traced.Stuck → EvalsT Ok (right_side place c g) env sp s B A traced.Stuck
  unfolding known_left undefined_left
  right_ends q = sides tt (λ w ok ρ rel. let y = x.ran w ok ρ rel in (rw (is_stuck y q) (ran_stuck_at y.kept), rw (is_stuck y q) (ran_stuck_at y.kept)))

  pub right_stops : {n m : ℕ} → r ≡ traced.Stop n m → EvalsT Ok (right_side place c g) env sp s B A (traced.Stop n m)
  unfolding known_left undefined_left
  right_stops q = sides tt (λ w ok ρ rel. let y = x.ran w ok ρ rel in (rw (is_stop y q) (record { kept = y.kept; ends = ends_stop }), rw (is_stop y q) (record { kept = y.kept; ends = ends_stop })))

  -- "where two operands were undefined, the left one is followed"
  pub right_undefined : {sa own p : ℕ} → Perhaps place → r ≡ traced.Undef sa own → p ≡ earlier_of place own → EvalsT Ok (right_side place c g) env sp s B A (traced.Undef sa p)
  unfolding right_side known_left undefined_left earlier_of
  right_undefined {sa} {own} h q e = rw e (by (eqb place 0) refl)
    where
      by : (b : Bool) → eqb place 0 ≡ b → EvalsT Ok (if b then known_left g else undefined_left place c g) env sp s B A (traced.Undef sa (if b then own else place))
      by true i = record { small = its_place x.small q; ran = λ w ok ρ rel. let y = x.ran w ok ρ rel in rw (is_undefined y q) (ran_undefined_from y.kept) }
      by false i = record { small = is_place h (eqb-false place 0 i); ran = λ w ok ρ rel. let y = x.ran w ok ρ rel in rw (is_undefined y q) (ran_undefined_from y.kept) }

  module _ {la sa d : ℕ} (q : r ≡ traced.Value la sa) (z : Truth (get_or A sp 0) d) where
    pub right_stuck : 1 < d → EvalsT Ok (right_side place c g) env sp s B A traced.Stuck
    unfolding known_left undefined_left
    right_stuck h = sides tt (λ w ok ρ rel.
        let v = valued (x.ran w ok ρ rel) q in (
          rw (v.is, not_bool_at v.lies z h (λ b. value_t (bool b) sa)) (ran_stuck_at v.kept),
          rw (v.is, not_bool_at v.lies z h (λ b. if beq b (decides c) then value_t (bool b) sa else undefined_t sa (place % 1024) (place / 1024))) (ran_stuck_at v.kept),
        ))

    module _ (h : d ≤ 1) where
      pub right_known : place ≡ 0 → EvalsT Ok (right_side place c g) env sp s B A (traced.Value la sa)
      unfolding right_side known_left
      right_known e = record {
        small = rw q at x.small;
        ran = λ w ok ρ rel.
            let v = valued (x.ran w ok ρ rel) q in
            let b = bool_at v.lies z h in
            rw (eq-eqb place 0 e, v.is, b.is) (ran_value (rw b.is at v.lies) v.kept (bounds x.small q).1);
      }

      module _ (no : place ≡ 0 → ⊥) where
        pub right_decided : d ≡ bit (decides c) → EvalsT Ok (right_side place c g) env sp s B A (traced.Value la sa)
        unfolding right_side undefined_left
        right_decided f = record {
          small = rw q at x.small;
          ran = λ w ok ρ rel.
              let v = valued (x.ran w ok ρ rel) q in
              let b = bool_at v.lies z h in
              rw (ne_eqb place 0 no, v.is, b.is, beq_yes b.b (decides c) (sym b.code ∙ f)) (ran_value (rw b.is at v.lies) v.kept (bounds x.small q).1);
        }

        pub right_undecided : Perhaps place → (d ≡ bit (decides c) → ⊥) → EvalsT Ok (right_side place c g) env sp s B A (traced.Undef sa place)
        unfolding right_side undefined_left
        right_undecided p f = record {
          small = is_place p no;
          ran = λ w ok ρ rel.
              let v = valued (x.ran w ok ρ rel) q in
              let b = bool_at v.lies z h in
              rw (ne_eqb place 0 no, v.is, b.is, beq_no b.b (decides c) (λ j. f (b.code ∙ j))) (ran_undefined_from v.kept);
        }

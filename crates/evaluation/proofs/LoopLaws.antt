-- The loop of `forAll` and `exists` over a collection's members: what is left means what the whole meant. And the next member of a loop,
-- where it lies, for that of `iter` too (FoldLaws). Assumes nothing.
use mathlib.Core.Path.{◌≡◌, refl, sym, ap, ◌∙◌}
use mathlib.Core.Bool.{Bool, true, false, not, beq}
use mathlib.Core.Option.{Option, none, some}
use mathlib.Core.List.{List}
use Prim.Native.Nat.{ℕ, ◌+◌, ◌-◌, ◌/◌, ◌%◌, ◌<◌, ◌≤◌}
use native.Mathlib.Omega.{arith}
use lib.ListN.{length, get_or, set}
use lib.Seq.{slice, length-slice}
use lib.Dec.{eqb}
use borrow.Author.Tests.{eqb-true, eqb-false, ne_eqb}
use Rattle.std.specs.Prelude.{if◌then◌else◌}
use Rattle.laws.proofs.Slices.{under_top, split_left, split_size}
use Rattle.ocl.specs.Values.{Value, bool, Values, nil, cons, size}
use Rattle.ocl.specs.Environment.{Env, extend}
use Rattle.ocl.specs.Forms.{Quantifier, for_all, exists}
use Rattle.ocl.specs.Evaluation.{ends_at}
use Rattle.ocl.specs.Trace.{Traced, value_t, on_bool_t, earlier, seek_t}
use Rattle.values.specs.Cells.{bit, enc, encs, fits_bool, AllFit, fit_cons}
use Rattle.values.specs.Meanings.{means_bool, Pushes, Skips}
use Rattle.values.specs.declared.Simple.TheVariants as simple
use Rattle.values.proofs.Encoding.{size_law}
use Rattle.values.proofs.Members.{Left, next_member, none_left}
use Rattle.nodes.specs.Nodes.{variable, quantifier_of}
use Rattle.tables.specs.declared.Counts.{Counts}
use Rattle.outcomes.specs.Answers.{Lies, Under, Truth}
use Rattle.operations.specs.Runs.{World, held, Rel}
use Rattle.evaluation.specs.declared.Traced.{Traced as Answer}
use Rattle.evaluation.specs.declared.Traced.TheVariants as traced
use Rattle.evaluation.specs.Traces.{Placed, Perhaps, no_place, a_place, earlier_of, RanT, MeaningT, EvalsT}
use Rattle.evaluation.specs.Evaluating.{StackRoom, Seeks}
use Rattle.outcomes.proofs.Words.{under_refl, under_then, under_down, gives}
use Rattle.operations.proofs.Sorts.{bit_one}
use Rattle.evaluation.proofs.Composition.{rel_kept, rel_bind, Fatal, its_place, valued, is_undefined, breaks, arisen_ran, ran_from, ran_stuck_at, ran_undefined_from}
use Rattle.evaluation.proofs.ConnectiveLaws.{beq_yes, beq_no, bool_at, not_bool_at, is_place}

-- ---- the next member, where it lies

pub record First (S : List ℕ) (p end : ℕ) (rest : Values) : Type 0 where
  pub v : Value
  pub vs : Values
  pub are : rest ≡ cons v vs
  pub lies : Lies v p (size v) S
  pub within : p + size v ≤ end

pub first_member : {S : List ℕ} {p end : ℕ} {rest : Values} → Left S p end rest → p < end → end ≤ length S → First S p end rest
unfolding encs
first_member {S} {p} {end} {rest} l h room = by rest l.fits l.lies
  where
    by : (rest : Values) → AllFit rest → slice p end S ≡ encs rest → First S p end rest
    by nil f e = absurd (let a = sym (length-slice p end S room) ∙ ap length e in omega arith)
    by (cons v vs) (fit_cons f fs) e =
        let a = size_law v in
        let b = split_size S p end (enc v) (encs vs) room (omega arith) e in
        record {
          v = v;
          vs = vs;
          are = refl;
          lies = record { fits = f; long = refl; cells = ap (λ (n : ℕ). slice p (p + n) S) (sym a) ∙ split_left S p end (enc v) (encs vs) room (omega arith) e };
          within = omega arith;
        }

pub left_kept : {S T : List ℕ} {p end : ℕ} {rest : Values} → Under end T S → Left S p end rest → Left T p end rest
left_kept {S} {T} {p} {end} u l = record { fits = l.fits; lies = under_top T S end p end (omega arith) u.same ∙ l.lies }

-- and those after it
pub after_first : {S : List ℕ} {p end q : ℕ} (v : Value) (vs : Values) → end ≤ length S → p < end → Skips p end S q → Left S p end (cons v vs) → Left S q end vs
after_first v vs room h k l =
    let n = next_member room h k l in
    let a = n.are in
    let e : n.ws ≡ vs = cc in
    rw e at n.left

-- ---- `forAll` and `exists`

ends_code : (k : ℕ) → 25 ≤ k → k < 27 → k - 25 ≡ bit (ends_at (quantifier_of k))
unfolding bit ends_at quantifier_of
ends_code k l h = by (eqb k 25) refl
  where
    by : (b : Bool) → eqb k 25 ≡ b → k - 25 ≡ bit (ends_at (if b then for_all else exists))
    by true e = let z = eqb-true k 25 e in omega arith
    by false e = let z = eqb-false k 25 e in omega arith

none_code : (k : ℕ) → eqb k 25 ≡ not (ends_at (quantifier_of k))
unfolding ends_at quantifier_of
none_code k = by (eqb k 25) refl
  where
    by : (b : Bool) → eqb k 25 ≡ b → b ≡ not (ends_at (if b then for_all else exists))
    by true e = refl
    by false e = refl

abbrev each : MeaningT → ℕ → World → Env Value → Value → ℕ → Traced
each g i w ρ v = g w (extend ρ i v)

-- where the first undefined body's undefined arose, from its place or 0
unfoldable pub origin_in : ℕ → Option (ℕ × ℕ)
origin_in w = if eqb w 0 then none else some (w % 1024, w / 1024)

earlier_place : (a b : ℕ) → (b ≡ 0 → ⊥) → earlier (origin_in a) (b % 1024) (b / 1024) ≡ origin_in (earlier_of a b)
unfolding origin_in earlier_of
earlier_place a b h = by (eqb a 0) refl
  where
    by : (c : Bool) → eqb a 0 ≡ c → earlier (if c then none else some (a % 1024, a / 1024)) (b % 1024) (b / 1024) ≡ (let w = if c then b else a in if eqb w 0 then none else some (w % 1024, w / 1024))
    by true e = rw (ne_eqb b 0 h)
    by false e = rw e

first_place : {a b : ℕ} → Perhaps a → Placed b → Perhaps (earlier_of a b)
unfolding earlier_of
first_place no_place q = a_place q
first_place {a} (a_place p) q = rw (ne_eqb a 0 (λ e. omega (arith, p.step))) (a_place p)

-- where the loop stands: what is left of the members lies from p to end; blank is the place of the first undefined body, or 0; S₀ is the
-- stack where the loop begins
pub record SeekAt (q : Quantifier) (i : ℕ) (g : MeaningT) (w : World) (ρ : Env Value) (end : ℕ) (S₀ S : List ℕ) (blank : ℕ) (s p : ℕ) (whole : Traced) : Type 0 where
  pub rest : Values
  pub left : Left S p end rest
  pub same : whole ≡ seek_t q (each g i w ρ) (origin_in blank) rest s
  pub kept : Under end S S₀

pub record Seeking (Ok : World → Type 0) (q : Quantifier) (i : ℕ) (g : MeaningT) (env : List ℕ) (sp end : ℕ) (S₀ S : List ℕ) (s₀ : ℕ) (blank : ℕ) (s p : ℕ) : Type 0 where
  pub long : length S ≡ length S₀
  pub up : sp < p
  pub within : p ≤ end
  pub blank_place : Perhaps blank
  pub at : (w : World) → Ok w → (ρ : Env Value) → Rel env S₀ sp ρ → (vs : Values) → AllFit vs → slice (sp + 1) end S₀ ≡ encs vs
      → SeekAt q i g w ρ end S₀ S blank s p (seek_t q (each g i w ρ) none vs s₀)

pub seek_starts : {Ok : World → Type 0} {q : Quantifier} {i : ℕ} {g : MeaningT} {env S : List ℕ} {sp end s : ℕ} → sp + 1 ≤ end → Seeking Ok q i g env sp end S S s 0 s (sp + 1)
unfolding origin_in
seek_starts h = record {
  long = refl;
  up = omega arith;
  within = h;
  blank_place = no_place;
  at = λ w ok ρ rel vs f e. record { rest = vs; left = record { fits = f; lies = e }; same = refl; kept = under_refl };
}

-- a truth value that is put down
put_down : {sp s : ℕ} {B A : List ℕ} {x b : Bool} → Pushes (simple.Bool x) sp B A → sp < length B → x ≡ b → RanT (value_t (bool b) s) sp B A (traced.Value 1 s)
put_down {s = s} {b = b} z h e = arisen_ran {place = 0} ((gives {s = s} h z).is (bool b) fits_bool (rw e means_bool)) (record { node = refl; step = refl })

-- what the code knows in the loop: form k is a quantifier, its variable is i, and the stack has room
module _ {Ok : World → Type 0} (k i : ℕ) {g : MeaningT} {env : List ℕ} {sp la w0 w1 n levels : ℕ} {st : Counts} {S₀ S : List ℕ} {s₀ s p : ℕ} {blank : ℕ}
    (G : Seeking Ok (quantifier_of k) (variable i) g env sp (sp + la) S₀ S s₀ blank s p) (has : StackRoom st w0 w1 (length S₀) n sp levels) (small : la ≤ 128) where
  room : sp + la ≤ length S₀
  room = let a = has.room in let b = has.stack in omega arith

  -- no member is left
  pub seek_none : {D : List ℕ} → sp + la ≤ p → blank ≤ 0 → Pushes (simple.Bool (eqb k 25)) sp S D → Seeks Ok (quantifier_of k) (variable i) g env sp la s₀ S₀ D (traced.Value 1 s)
  unfolding seek_t origin_in
  seek_none m o z = record {
    small = omega arith;
    ran = λ w ok ρ rel vs f l.
        let a = G.at w ok ρ rel vs f l in
        let c = none_left a.left (let k = G.within in omega arith) in
        let e : blank ≡ 0 = omega arith in
        rw (a.same, c, e) (ran_from (under_down (omega arith) a.kept) (put_down z (let h = G.long in omega arith) (none_code k)));
  }

  pub seek_blank : sp + la ≤ p → 0 < blank → Seeks Ok (quantifier_of k) (variable i) g env sp la s₀ S₀ S (traced.Undef s blank)
  unfolding seek_t origin_in
  seek_blank m o = record {
    small = is_place G.blank_place (λ e. omega arith);
    ran = λ w ok ρ rel vs f l.
        let a = G.at w ok ρ rel vs f l in
        let c = none_left a.left (let k = G.within in omega arith) in
        rw (a.same, c, ne_eqb blank 0 (λ e. omega arith)) (ran_undefined_from (under_down (omega arith) a.kept));
  }

  module _ {S' : List ℕ} {i' : ℕ} {r : Answer} (eq : i' ≡ variable i) (more : p < sp + la) (z : EvalsT Ok g (set env i' (p + 1)) (sp + la) s S S' r) where
    low : i' < 16
    low = omega arith

    -- the body over the next member, at the loop's place
    turn : {w : World} {ρ : Env Value} {whole : Traced} → Ok w → Rel env S₀ sp ρ → (a : SeekAt (quantifier_of k) (variable i) g w ρ (sp + la) S₀ S blank s p whole) → (f : First S p (sp + la) a.rest) → RanT (each g (variable i) w ρ f.v s) (sp + la) S S' r
    turn {w} {ρ} ok rel a f =
        let u = G.up in
        rw (← eq) (z.ran w ok (extend ρ i' f.v)
        (rel_bind f.v low (held p refl f.lies (let k = f.within in omega arith) f.within) (rel_kept (omega arith) (under_down (omega arith) a.kept) rel)))

    next : {w : World} {ρ : Env Value} {whole : Traced} → (a : SeekAt (quantifier_of k) (variable i) g w ρ (sp + la) S₀ S blank s p whole) → First S p (sp + la) a.rest
    next a = first_member a.left more (let k = G.long in omega arith)

    -- one that stops, or is stuck
    pub seek_early : Fatal r → Seeks Ok (quantifier_of k) (variable i) g env sp la s₀ S₀ S' r
    unfolding seek_t
    seek_early o = record {
      small = z.small;
      ran = λ w ok ρ rel vs f l.
          let a = G.at w ok ρ rel vs f l in
          let b = next a in
          rw (a.same, b.are) (breaks (each g (variable i) w ρ b.v s)
          (λ x n. on_bool_t x (λ c. if beq c (ends_at (quantifier_of k)) then value_t (bool c) n else seek_t (quantifier_of k) (each g (variable i) w ρ) (origin_in blank) b.vs n)) (λ n q j. seek_t (quantifier_of k) (each g (variable i) w ρ) (earlier (origin_in blank) q j) b.vs n)
          (omega arith) (under_down (omega arith) a.kept) (turn ok rel a b) o);
    }

    -- one that is undefined is gone past
    pub seek_past : {sb p' place next' : ℕ} → r ≡ traced.Undef sb place → next' ≡ earlier_of blank place → length S' ≡ length S → Skips p (sp + la) S' p' → Seeking Ok (quantifier_of k) (variable i) g env sp (sp + la) S₀ S' s₀ next' sb p'
    unfolding seek_t
    seek_past {sb} {place = place} {next' = next'} y c m skips = record {
      long = m ∙ G.long;
      up = (let a = skips.up more in let b = G.up in omega arith);
      within = skips.within;
      blank_place = rw c (first_place G.blank_place (its_place z.small y));
      at = λ w ok ρ rel vs f l.
          let a = G.at w ok ρ rel vs f l in
          let b = next a in
          let v = turn ok rel a b in
          let d : earlier (origin_in blank) (place % 1024) (place / 1024) ≡ origin_in next' = earlier_place blank place (λ i. omega (arith, (its_place z.small y).step)) ∙ ap origin_in (sym c) in
          let e : seek_t (quantifier_of k) (each g (variable i) w ρ) (origin_in blank) (cons b.v b.vs) s ≡ seek_t (quantifier_of k) (each g (variable i) w ρ) (origin_in next') b.vs sb = rw (is_undefined v y) (ap (λ o. seek_t (quantifier_of k) (each g (variable i) w ρ) o b.vs sb) d) in
          record {
            rest = b.vs;
            left = after_first b.v b.vs (let x = G.long in omega arith) more skips (rw b.are at (left_kept v.kept a.left));
            same = a.same ∙ ap (λ (x : Values). seek_t (quantifier_of k) (each g (variable i) w ρ) (origin_in blank) x s) b.are ∙ e;
            kept = under_then v.kept a.kept;
          };
    }

    module _ {lb sb d : ℕ} (y : r ≡ traced.Value lb sb) (t : Truth (get_or S' (sp + la) 0) d) where
      pub seek_stuck : 1 < d → Seeks Ok (quantifier_of k) (variable i) g env sp la s₀ S₀ S' traced.Stuck
      unfolding seek_t
      seek_stuck h = record {
        small = tt;
        ran = λ w ok ρ rel vs f l.
            let a = G.at w ok ρ rel vs f l in
            let b = next a in
            let v = valued (turn ok rel a b) y in
            rw (a.same, b.are, v.is, not_bool_at v.lies t h (λ c. if beq c (ends_at (quantifier_of k)) then value_t (bool c) sb else seek_t (quantifier_of k) (each g (variable i) w ρ) (origin_in blank) b.vs sb))
            (ran_stuck_at (under_down (omega arith) (under_then v.kept a.kept)));
      }

      module _ (from : 25 ≤ k) (to : k < 27) (h : d ≤ 1) where
        pub seek_ends : {D : List ℕ} → d ≡ k - 25 → length S' ≡ length S → Pushes (simple.Bool (eqb d 1)) sp S' D → Seeks Ok (quantifier_of k) (variable i) g env sp la s₀ S₀ D (traced.Value 1 sb)
        unfolding seek_t
        seek_ends c size o = record {
          small = omega arith;
          ran = λ w ok ρ rel vs f l.
              let a = G.at w ok ρ rel vs f l in
              let b = next a in
              let v = valued (turn ok rel a b) y in
              let j = bool_at v.lies t h in
              let m : eqb d 1 ≡ j.b = ap (λ (c : ℕ). eqb c 1) j.code ∙ bit_one j.b in
              rw (a.same, b.are, v.is, j.is, beq_yes j.b (ends_at (quantifier_of k)) (sym j.code ∙ c ∙ ends_code k from to))
              (ran_from (under_down (omega arith) (under_then v.kept a.kept)) (put_down o (let x = G.long in let y = G.up in omega arith) m));
        }

        pub seek_again : {p' : ℕ} → (d ≡ k - 25 → ⊥) → length S' ≡ length S → Skips p (sp + la) S' p' → Seeking Ok (quantifier_of k) (variable i) g env sp (sp + la) S₀ S' s₀ blank sb p'
        unfolding seek_t
        seek_again c m skips = record {
          long = m ∙ G.long;
          up = (let a = skips.up more in let b = G.up in omega arith);
          within = skips.within;
          blank_place = G.blank_place;
          at = λ w ok ρ rel vs f l.
              let a = G.at w ok ρ rel vs f l in
              let b = next a in
              let v = valued (turn ok rel a b) y in
              let j = bool_at v.lies t h in
              let e : seek_t (quantifier_of k) (each g (variable i) w ρ) (origin_in blank) (cons b.v b.vs) s ≡ seek_t (quantifier_of k) (each g (variable i) w ρ) (origin_in blank) b.vs sb = rw (v.is, j.is, beq_no j.b (ends_at (quantifier_of k)) (λ e. c (j.code ∙ e ∙ sym (ends_code k from to)))) in
              record {
                rest = b.vs;
                left = after_first b.v b.vs (let x = G.long in omega arith) more skips (rw b.are at (left_kept v.kept a.left));
                same = a.same ∙ ap (λ (x : Values). seek_t (quantifier_of k) (each g (variable i) w ρ) (origin_in blank) x s) b.are ∙ e;
                kept = under_then v.kept a.kept;
              };
        }

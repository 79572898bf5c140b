-- An answer as one word and back. Assumes nothing.
use mathlib.Core.Path.{◌≡◌, refl, ap, ◌∙◌}
use mathlib.Core.List.{List}
use Prim.Native.Nat.{ℕ, ◌/◌, ◌%◌, ◌<◌}
use native.Mathlib.Omega.{arith}
use Rattle.ocl.specs.Operations.{Stop}
use Rattle.ocl.specs.Trace.{Traced, untraced}
use Rattle.ocl.proofs.Stops.{stop_within}
use Rattle.ocl.proofs.Steps.{Limited, limited_value, limited_undefined, limited_stuck, limited_stop}
use Rattle.evaluation.specs.declared.Traced.{Traced as Answer}
use Rattle.evaluation.specs.declared.Traced.TheVariants as traced
use Rattle.evaluation.specs.Traces.{EndsT, ends_value, ends_undefined, ends_stuck, ends_stop, SmallTraced, word_of, answer_of, answer_in, word_for, Packs}

-- the parts of a word
module _ (k x s p : ℕ) (h : k < 4) where
  variant_of : word_of k x s p % 4 ≡ k
  unfolding word_of
  variant_of = omega arith

  small_of : word_of k x s p / 4 % 256 ≡ x % 256
  unfolding word_of
  small_of = omega arith

  steps_of_lem : word_of k x s p / 1024 % 1048576 ≡ s % 1048576
  unfolding word_of
  steps_of_lem = omega arith

  place_of : word_of k x s p / 1073741824 ≡ p % 1073741824
  unfolding word_of
  place_of = omega arith

  pub answer_in_lem : {w : ℕ} → w ≡ word_of k x s p → answer_in w ≡ answer_of k (x % 256) (s % 1048576) (p % 1073741824)
  unfolding answer_in
  answer_in_lem e = rw (e, variant_of, small_of, steps_of_lem, place_of) refl

low_small : (x : ℕ) → x < 256 → x % 256 ≡ x
low_small x h = omega arith

low_steps : (s : ℕ) → s < 1048576 → s % 1048576 ≡ s
low_steps s h = omega arith

low_place : (p : ℕ) → p < 1073741824 → p % 1073741824 ≡ p
low_place p h = omega arith

pub packs_value : (len s : ℕ) {w : ℕ} → w ≡ word_of 0 len s 0 → Packs (traced.Value len s) w
unfolding answer_of word_for
packs_value len s e = record {
  is = e;
  small = λ h. rw (answer_in_lem 0 len s 0 (omega arith) e) (omega arith);
  same = λ h. answer_in_lem 0 len s 0 (omega arith) e ∙ rw (low_small len h.0, low_steps s h.1) refl;
}

pub packs_undefined : (s p : ℕ) {w : ℕ} → w ≡ word_of 1 0 s p → Packs (traced.Undef s p) w
unfolding answer_of word_for
packs_undefined s p e = record {
  is = e;
  small = λ h. rw (answer_in_lem 1 0 s p (omega arith) e, low_place p h.room) h;
  same = λ h. answer_in_lem 1 0 s p (omega arith) e ∙ rw (low_steps s h.0, low_place p h.1) refl;
}

pub packs_stuck : {e : Answer} → traced.Stuck ≡ e → Packs e 2
unfolding answer_in answer_of word_for
packs_stuck e = record { is = ap word_for e; small = λ h. tt; same = λ h. e }

pub packs_stop : (c s : ℕ) {w : ℕ} → w ≡ word_of 3 c s 0 → Packs (traced.Stop c s) w
unfolding answer_of word_for
packs_stop c s e = record {
  is = e;
  small = λ h. rw (answer_in_lem 3 c s 0 (omega arith) e) tt;
  same = λ h. answer_in_lem 3 c s 0 (omega arith) e ∙ rw (low_small c h.0, low_steps s h.1) refl;
}

-- ---- and back

pub in_value : (w : ℕ) {len : ℕ} → w % 4 ≡ 0 → len ≡ w / 4 % 256 → traced.Value len (w / 1024 % 1048576) ≡ answer_in w
unfolding answer_in answer_of
in_value w e f = rw (e, f) refl

pub in_undefined : (w : ℕ) → w % 4 ≡ 1 → traced.Undef (w / 1024 % 1048576) (w / 1073741824) ≡ answer_in w
unfolding answer_in answer_of
in_undefined w e = rw e refl

pub in_stuck : (w : ℕ) → w % 4 ≡ 2 → traced.Stuck ≡ answer_in w
unfolding answer_in answer_of
in_stuck w e = rw e refl

pub in_stop : (w : ℕ) → (w % 4 ≡ 0 → ⊥) → (w % 4 ≡ 1 → ⊥) → (w % 4 ≡ 2 → ⊥) → traced.Stop (w / 4 % 256) (w / 1024 % 1048576) ≡ answer_in w
unfolding answer_in answer_of
in_stop w a b c = let e : w % 4 ≡ 3 = omega arith in rw e refl

-- ---- an outcome's answer has room in a word

-- so has the number of each stop
stop_small : {c : ℕ} → Stop c → c < 256
stop_small h = omega (arith, stop_within h)

pub ends_packed : {sp w : ℕ} {A : List ℕ} {o : Traced} {r : Answer} → EndsT sp A o r → Limited (untraced o) → SmallTraced r → Packs r w → EndsT sp A o (answer_in w)
ends_packed (ends_value l m) (limited_value s) h p = rw (p.same (omega arith, omega arith)) (ends_value l m)
ends_packed (ends_undefined n) (limited_undefined s) h p = rw (p.same (omega arith, h.room)) (ends_undefined n)
ends_packed ends_stuck limited_stuck h p = rw (p.same tt) ends_stuck
ends_packed ends_stop (limited_stop c s) h p = rw (p.same (stop_small c, omega arith)) ends_stop

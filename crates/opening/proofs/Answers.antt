-- What all calls have in common: short slices leave everything as it was; long ones are wiped. Assumes nothing.
use mathlib.Core.Path.{◌≡◌, refl, sym, ap, ◌∙◌}
use mathlib.Core.Logic.{◌≢◌, ◌⊎◌, inl, inr}
use mathlib.Core.Bool.{Bool, true, false, ◌||◌}
use mathlib.Core.List.{List, ◌++◌}
use Prim.Native.Nat.{ℕ, ◌≤◌, ◌<◌}
use native.Mathlib.Omega.{arith}
use native.Mathlib.Nat.{zero-add}
use borrow.Author.Tests.{lt-ltb, le-ltb, ltb-false, ne_eqb}
use lib.ListN.{length, replicate}
use lib.Dec.{ltb, eqb}
use Rattle.std.specs.Prelude.{if◌then◌else◌, Result}
use Rattle.laws.proofs.Tests.{or-false}
use Rattle.sheet.specs.Text.{Bytes}
use Rattle.sheet.specs.Calls.{Verdict, refusal_at, refusal, wiped, words_after, output_after, short_words, short_output}
use Rattle.sheet.specs.Soundness.{Lent}
use Rattle.tables.specs.Layout.{Kept}
use Rattle.text.specs.Written.{Puts}
use Rattle.opening.specs.declared.Answer.{Answer}
use Rattle.opening.specs.Answers.{answer_of, AnswersWith}
use Rattle.opening.specs.Parts.{OpensText, GivesAnswer, Leaves, Wipes, written_to}
use Rattle.memory.specs.Refusals.{number, at}
use Rattle.memory.specs.declared.refusals.Refusal.TheVariants.{ShortBench}
use Rattle.memory.specs.declared.refusals.Refused.{Refused}
use Rattle.tables.specs.declared.Counts.{Counts}

-- ---- lengths

module _ (w0 w1 w2 : List ℕ) where
  -- one of the first two is short
  pub short01 : {t : Bool} → t ≡ true → (length w0 < 8192) ⊎ ((8192 ≤ length w0) × (length w1 < 8192)) → t ≡ short_words w0 w1 w2
  unfolding short_words
  short01 e (inl h) = e ∙ rw (lt-ltb (length w0) 8192 h) refl
  short01 e (inr h) = e ∙ rw (le-ltb (length w0) 8192 h.0, lt-ltb (length w1) 8192 h.1) refl

  pub short2 : 8192 ≤ length w0 → 8192 ≤ length w1 → ltb (length w2) 8192 ≡ short_words w0 w1 w2
  unfolding short_words
  short2 h k = rw (le-ltb (length w0) 8192 h, le-ltb (length w1) 8192 k)

  pub long_words : short_words w0 w1 w2 ≡ false → (8192 ≤ length w0) × (8192 ≤ length w1) × (8192 ≤ length w2)
  unfolding short_words
  long_words e =
      let a = or-false (ltb (length w0) 8192 || ltb (length w1) 8192) (ltb (length w2) 8192) e in
      let b = or-false (ltb (length w0) 8192) (ltb (length w1) 8192) a.0 in
      (ltb-false (length w0) 8192 b.0, ltb-false (length w1) 8192 b.1, ltb-false (length w2) 8192 a.1)

pub all_lent : {w0 w1 w2 : List ℕ} {out : Bytes} {b : Bool} → b ≡ (short_words w0 w1 w2 || short_output out) → b ≡ false → Lent w0 w1 w2 out
unfolding short_output
all_lent {w0} {w1} {w2} {out} e q =
    let a = or-false (short_words w0 w1 w2) (short_output out) (sym e ∙ q) in
    let l = long_words w0 w1 w2 a.0 in
    record { words0 = l.0; words1 = l.1; words2 = l.2; output = ltb-false (length out) 2560 a.1 }

-- the words are as many after as before
pub still_lent : {text : Bytes} {r : Result Counts Refused} {w0 w1 w2 v0 v1 v2 : List ℕ} {out : Bytes} → Lent w0 w1 w2 out → OpensText text r w0 w1 w2 v0 v1 v2 → Lent v0 v1 v2 out
still_lent l k = record {
  words0 = omega (arith, l.words0, k.kept0.size);
  words1 = omega (arith, l.words1, k.kept1.size);
  words2 = omega (arith, l.words2, k.kept2.size);
  output = l.output;
}

pub still_long : {v : Verdict} {a : Answer} {w0 w1 w2 v0 v1 v2 : List ℕ} {out after : Bytes} → Lent w0 w1 w2 out
    → Leaves v a w0 w1 w2 out v0 v1 v2 after → (8192 ≤ length v0) × (8192 ≤ length v1) × (8192 ≤ length v2)
still_long l k = (omega (arith, l.words0, k.kept0.size), omega (arith, l.words1, k.kept1.size), omega (arith, l.words2, k.kept2.size))

-- ---- a refusal, and an output with what was written

pub gives_refusal : {a : Answer} (n k : ℕ) (out : Bytes) → a ≡ answer_of (refusal_at n k) → GivesAnswer (refusal_at n k) a out out
unfolding refusal_at output_after
gives_refusal n k out e = record { is = e; output = refl }

pub gives_written : {a : Answer} {out after w : Bytes} {end steps : ℕ} → Puts 0 w out after end → a ≡ written_to end steps
    → GivesAnswer (record { number = 0; steps = steps; place = 0; output = w }) a out after
unfolding output_after
gives_written {w = w} p e = record { is = rw (p.end, zero-add (length w)) at e; output = rw (zero-add (length w)) at p.is }

-- ---- the words and the output after a call

pub untouched : {a : Answer} (w0 w1 w2 : List ℕ) (out : Bytes) → a ≡ answer_of (refusal_at 1 0) → AnswersWith (refusal 1) a w0 w1 w2 out w0 w1 w2 out
unfolding refusal refusal_at words_after output_after
untouched w0 w1 w2 out e = record { is = e; words0 = refl; words1 = refl; words2 = refl; output = refl }

pub wiped_kept : {w v : List ℕ} → Kept w v → wiped v ≡ wiped w
unfolding wiped
wiped_kept k = ap (λ l. replicate 8192 0 ++ l) k.rest

pub finished : {v : Verdict} {a : Answer} {w0 w1 w2 v0 v1 v2 x0 x1 x2 : List ℕ} {out after : Bytes} → v.number ≢ 1
    → Leaves v a w0 w1 w2 out v0 v1 v2 after → Wipes v0 v1 v2 x0 x1 x2 → AnswersWith v a w0 w1 w2 out x0 x1 x2 after
unfolding words_after
finished {v} n l z =
    let q : eqb v.number 1 ≡ false = ne_eqb v.number 1 n in
    record {
      is = l.gives.is;
      words0 = z.words0 ∙ wiped_kept l.kept0 ∙ rw q;
      words1 = z.words1 ∙ wiped_kept l.kept1 ∙ rw q;
      words2 = z.words2 ∙ wiped_kept l.kept2 ∙ rw q;
      output = l.gives.output;
    }

-- ---- a call, with the verdict v where nothing is short

abbrev call : Verdict → List ℕ → List ℕ → List ℕ → Bytes → Verdict
call v w0 w1 w2 out = if short_words w0 w1 w2 || short_output out then refusal 1 else v

module _ (v : Verdict) (w0 w1 w2 : List ℕ) (out : Bytes) {a : Answer} {b : Bool} (is : b ≡ (short_words w0 w1 w2 || short_output out)) where
  pub short_call : {x : Refused} → b ≡ true → x ≡ at ShortBench 0 → a ≡ answer_of (refusal_at (number x.refusal) x.place) → AnswersWith (call v w0 w1 w2 out) a w0 w1 w2 out w0 w1 w2 out
  short_call q s e = rw (sym is ∙ q) (untouched w0 w1 w2 out (rw s at e))

  pub long_call : {v0 v1 v2 x0 x1 x2 : List ℕ} {after : Bytes} → b ≡ false → v.number ≢ 1
      → Leaves v a w0 w1 w2 out v0 v1 v2 after → Wipes v0 v1 v2 x0 x1 x2 → AnswersWith (call v w0 w1 w2 out) a w0 w1 w2 out x0 x1 x2 after
  long_call q n d z = rw (sym is ∙ q) (finished n d z)

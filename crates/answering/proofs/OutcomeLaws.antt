-- How an evaluation ended, as an answer. Assumes nothing.
use mathlib.Core.Path.{◌≡◌, refl}
use mathlib.Core.List.{List, [], ◌∷◌}
use Prim.Native.Nat.{ℕ, ◌+◌, ◌≤◌}
use native.Mathlib.Omega.{arith}
use native.Mathlib.Nat.{zero-add}
use lib.ListN.{length}
use lib.Seq.{slice}
use Rattle.ocl.specs.Values.{Value}
use Rattle.ocl.specs.Operations.{Outcome, value}
use Rattle.sheet.specs.Text.{Bytes, bytes}
use Rattle.sheet.specs.Spelling.{spell_value}
use Rattle.sheet.specs.Calls.{refusal_at, refusal, output_after, ended}
use Rattle.text.specs.Written.{Puts}
use Rattle.values.specs.Cells.{enc, Fits}
use Rattle.spelling.specs.Meanings.{ValueFits}
use Rattle.outcomes.specs.declared.Ended.{Ended}
use Rattle.outcomes.specs.declared.Ended.TheVariants as end
use Rattle.outcomes.specs.Answers.{Ends, ends_value, ends_undefined, ends_stuck, ends_stop}
use Rattle.opening.specs.declared.Answer.{Answer}
use Rattle.opening.specs.Answers.{answer_of}
use Rattle.opening.specs.Parts.{GivesAnswer, written_to}
use Rattle.answering.specs.Outcomes.{Fitting, GivesEnded}
use Rattle.opening.proofs.Answers.{gives_refusal, gives_written}

module _ {w2 : List ℕ} {e : Ended} {len steps : ℕ} (f : Fitting w2 e) (q : e ≡ end.Value len steps) where
  value_room : (o : Outcome) → Ends 1 w2 o (end.Value len steps) → ((v : Value) (n : ℕ) → o ≡ value v n → length (spell_value v) ≤ 2560)
      → (room : ℕ) → 8192 ≤ length w2 → 2560 ≤ room → (len ≤ 128) × ValueFits 0 w2 1 (1 + len) room
  value_room o (ends_value {v} {len} {s} l small) h room a b =
      (small, record { v = v; fits = l.fits; order = omega arith; within = omega arith; lies = l.cells; enough = rw (zero-add (length (spell_value v))) (let k = h v s refl in omega arith) })

  pub value_fits : (room : ℕ) → 8192 ≤ length w2 → 2560 ≤ room → (len ≤ 128) × ValueFits 0 w2 1 (1 + len) room
  value_fits = value_room f.outcome (rw q at f.ends) f.short

module _ {w2 : List ℕ} {e : Ended} {a : Answer} {out after : Bytes} where
  pub gives_value : {len steps to : ℕ} → e ≡ end.Value len steps → ((v : Value) → Fits v → slice 1 (1 + len) w2 ≡ enc v → Puts 0 (spell_value v) out after to)
      → a ≡ written_to to steps → GivesEnded w2 e a out after
  unfolding ended
  gives_value {len} {steps} {to} q p i = rw q (record { for = go })
    where
      go : (o : Outcome) → Ends 1 w2 o (end.Value len steps) → GivesAnswer (ended o) a out after
      go o (ends_value {v} l small) = gives_written (p v l.fits l.cells) i

  pub gives_undefined : {steps to : ℕ} → e ≡ end.Undef steps → Puts 0 (117 ∷ []) out after to → a ≡ written_to to steps → GivesEnded w2 e a out after
  unfolding ended bytes
  gives_undefined {steps} {to} q p i = rw q (record { for = go })
    where
      go : (o : Outcome) → Ends 1 w2 o (end.Undef steps) → GivesAnswer (ended o) a out after
      go o ends_undefined = gives_written p i

module _ {w2 : List ℕ} {e : Ended} {a : Answer} (out : Bytes) where
  pub gives_stuck : e ≡ end.Stuck → a ≡ answer_of (refusal_at 100 0) → GivesEnded w2 e a out out
  unfolding ended refusal
  gives_stuck q i = rw q (record { for = go })
    where
      go : (o : Outcome) → Ends 1 w2 o end.Stuck → GivesAnswer (ended o) a out out
      go o ends_stuck = gives_refusal 100 0 out i

  pub gives_stopped : {number steps : ℕ} → e ≡ end.Stop number steps → a ≡ record { number = number; steps = steps; place = 0; length = 0 } → GivesEnded w2 e a out out
  unfolding ended output_after
  gives_stopped {number} {steps} q i = rw q (record { for = go })
    where
      go : (o : Outcome) → Ends 1 w2 o (end.Stop number steps) → GivesAnswer (ended o) a out out
      go o ends_stop = record { is = i; output = refl }

-- What a line that is taken has met, and that a line which meets it is taken. Assumes nothing.
use mathlib.Core.Path.{◌≡◌, refl}
use mathlib.Core.Bool.{Bool, true, false}
use mathlib.Core.Option.{Option, none, some}
use Prim.Native.Nat.{ℕ}
use lib.Dec.{T}
use Rattle.laws.proofs.Tests.{test_true}
use Rattle.sheet.specs.Lines.{Line}
use Rattle.sheet.specs.Texts.{brackets_within, is_sentence, on_text}
use Rattle.sheet.specs.Sheet.{Sheet, added}
use Rattle.sheet.specs.Limits.{within_limits}
use Rattle.sheet.specs.Refusals.{in_order, parts_known, calls_smaller, calls_known, suits, tree_holds}
use Rattle.sheet.specs.Reading.{Step, taken, refuse, must, step_line, step_spelled}
use Rattle.sheet.proofs.GoodLines.{Met}

pub data Steps (s : Sheet) (k : ℕ) (o : Option Line) : Step → Type 0 where
  not_taken : {n : ℕ} → Steps s k o (refuse n)
  takes : (x : Line) → o ≡ some x → Met s x → Steps s k o (taken (added s k x))

must_step : {s : Sheet} {k : ℕ} {o : Option Line} (b : Bool) (n : ℕ) {x : Step} → (T b → Steps s k o x) → Steps s k o (must b n x)
unfolding must
must_step true n h = h tt
must_step false n h = not_taken

pub spelled_steps : (s : Sheet) (k : ℕ) (o : Option Line) → Steps s k o (step_spelled s k o)
unfolding step_spelled step_line
spelled_steps s k none = not_taken
spelled_steps s k (some x) =
    must_step (on_text x brackets_within) 4 (λ p. must_step (on_text x is_sentence) 20 (λ q. must_step (within_limits s x) 4 (λ a. must_step (in_order s x) 5 (λ b. must_step (parts_known s x) 6 (λ c.
    must_step (calls_smaller s x) 23 (λ d. must_step (calls_known s x) 24 (λ e. must_step (suits s x) 7 (λ f. must_step (tree_holds s x) 8 (λ g.
    takes x refl (record { brackets = p; sentence = q; limits = a; order = b; parts = c; smaller = d; known = e; suit = f; tree = g }))))))))))

pub met_step : (s : Sheet) (k : ℕ) (x : Line) → Met s x → step_spelled s k (some x) ≡ taken (added s k x)
unfolding step_spelled step_line must
met_step s k x m =
    rw (test_true (on_text x brackets_within) m.brackets, test_true (on_text x is_sentence) m.sentence, test_true (within_limits s x) m.limits, test_true (in_order s x) m.order, test_true (parts_known s x) m.parts, test_true (calls_smaller s x) m.smaller, test_true (calls_known s x) m.known, test_true (suits s x) m.suit, test_true (tree_holds s x) m.tree)

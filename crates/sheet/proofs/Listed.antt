-- Reading refuses with listed numbers at lines of the text. One law for each piece that reading is written in. Assumes nothing.
use mathlib.Core.Path.{◌≡◌, refl, sym, ap, ◌∙◌}
use mathlib.Core.Bool.{Bool, true, false, ◌&&◌, ◌||◌}
use mathlib.Core.Option.{Option, none, some}
use mathlib.Core.List.{List, [], ◌∷◌}
use Prim.Native.Nat.{ℕ, zero, suc, ◌+◌, ◌≤◌}
use native.Mathlib.Omega.{arith}
use lib.ListN.{length}
use lib.Dec.{T, eqb, eqb→eq, ltb, leb, leb→le}
use Rattle.laws.proofs.Tests.{and_l, and_r, or-e, by-if}
use Rattle.sheet.specs.Text.{Bytes, lines_of, fields_of}
use Rattle.sheet.specs.Lines.{Line, line_of, in_body}
use Rattle.sheet.specs.Texts.{brackets_within, is_sentence, on_text}
use Rattle.sheet.specs.Sheet.{Current, Sheet, empty, end_for, end_rule}
use Rattle.sheet.specs.Limits.{within_limits}
use Rattle.sheet.specs.Refusals.{in_order, parts_known, calls_smaller, calls_known, suits, tree_holds}
use Rattle.sheet.specs.Reading.{Step, taken, refuse, must, step_line, step_spelled, step, Reading, accepted, rejected, on_step, on_end, closing, read_last, read_lines, read_text}
use Rattle.sheet.specs.Laws.{line_count, listed, ReadRefusal, over_length, at_line, ReadRefusals}

-- a line's refusal is 3 to 8, 20, 23 or 24
data LineStep : Step → Type 0 where
  goes_on : {s : Sheet} → LineStep (taken s)
  refuses : {n : ℕ} → T (listed n) → LineStep (refuse n)

pub listed_within : (n : ℕ) → T (listed n) → (2 ≤ n) × (n ≤ 24)
unfolding listed
listed_within n h =
    or-e (leb 3 n && leb n 8 || eqb n 20 || eqb n 23) (eqb n 24) h
    (λ p. or-e (leb 3 n && leb n 8 || eqb n 20) (eqb n 23) p
    (λ q. or-e (leb 3 n && leb n 8) (eqb n 20) q
    (λ r. let a = leb→le 3 n (and_l (leb 3 n) _ r) in let b = leb→le n 8 (and_r (leb 3 n) _ r) in (omega arith, omega arith))
    (λ r. let a = eqb→eq n 20 r in (omega arith, omega arith)))
    (λ q. let a = eqb→eq n 23 q in (omega arith, omega arith)))
    (λ p. let a = eqb→eq n 24 p in (omega arith, omega arith))

must_listed : (b : Bool) (n : ℕ) {x : Step} → T (listed n) → LineStep x → LineStep (must b n x)
unfolding must
must_listed true n l k = k
must_listed false n l k = refuses l

spelled_listed : (s : Sheet) (k : ℕ) (o : Option Line) → LineStep (step_spelled s k o)
unfolding step_spelled step_line listed
spelled_listed s k none = refuses {n = 3} tt
spelled_listed s k (some l) =
    must_listed (on_text l brackets_within) 4 tt (must_listed (on_text l is_sentence) 20 tt (must_listed (within_limits s l) 4 tt (must_listed (in_order s l) 5 tt (must_listed (parts_known s l) 6 tt (must_listed (calls_smaller s l) 23 tt (must_listed (calls_known s l) 24 tt
    (must_listed (suits s l) 7 tt (must_listed (tree_holds s l) 8 tt goes_on))))))))

-- a reading's refusal is at one of the first m lines
data Listed (m : ℕ) : Reading → Type 0 where
  sheet_there : {s : Sheet} → Listed m (accepted s)
  at_listed : {n k : ℕ} → T (listed n) → 1 ≤ k → k ≤ m → Listed m (rejected n k)

on_step_lem : {m : ℕ} {x : Step} (k : ℕ) {f : Sheet → Reading} → LineStep x → 1 ≤ k → k ≤ m → ((s : Sheet) → Listed m (f s)) → Listed m (on_step x k f)
unfolding on_step
on_step_lem k (goes_on {s}) a b h = h s
on_step_lem k (refuses l) a b h = at_listed l a b

-- no rule is open before the first line
abbrev Opened : ℕ → Sheet → Type 0
Opened k s = k ≡ 0 → s.current ≡ none

on_end_lem : {m : ℕ} (s : Sheet) (k : ℕ) {f : Sheet → Reading} (o : Option Current) → (k ≡ 0 → o ≡ none) → k ≤ m → ((t : Sheet) → Listed m (f t)) → (e : Option Sheet) → end_for s o ≡ e → Listed m (on_end e k f)
unfolding on_end end_for listed
on_end_lem s k o h l g (some t) e = g t
on_end_lem s zero o h l g none e = absurd (let q = h refl in let z : some s ≡ none = sym (ap (end_for s) q) ∙ e in let y : ◌≡◌ {A = ℕ} 0 1 = cc in omega arith)
on_end_lem s (suc k) o h l g none e = at_listed {n = 8} {k = suc k} tt (omega arith) l

on_closing : {m : ℕ} (s : Sheet) (k : ℕ) (fs : List Bytes) {f : Sheet → Reading} → Opened k s → k ≤ m → ((t : Sheet) → Listed m (f t)) → Listed m (closing s k fs f)
unfolding closing end_rule
on_closing {m} s k fs h l g = by-if (Listed m) (in_body fs) _ _ (λ t. g s) (λ t. on_end_lem s k s.current h l g (end_for s s.current) refl)

on_last : {m : ℕ} (k : ℕ) (l : Bytes) (s : Sheet) → k + line_count (l ∷ []) ≤ m → Listed m (read_last k l s)
unfolding read_last line_count listed
on_last k [] s h = sheet_there
on_last k (b ∷ l) s h = at_listed {n = 3} {k = suc k} tt (omega arith) (omega arith)

listed_lines : {m : ℕ} (s : Sheet) (k : ℕ) (ls : List Bytes) → Opened k s → k + line_count ls ≤ m → Listed m (read_lines s k ls)
unfolding read_lines step line_count
listed_lines s k [] h l = sheet_there
listed_lines s k (x ∷ []) h l = on_closing s k (fields_of x) h (omega arith) (λ t. on_last k x t l)
listed_lines s k (x ∷ y ∷ ls) h l =
    on_closing s k (fields_of x) h (omega arith) (λ t. on_step_lem (suc k) (spelled_listed t (suc k) (line_of (fields_of x))) (omega arith) (omega arith)
    (λ u. listed_lines u (suc k) (y ∷ ls) (λ e. absurd (omega arith)) (omega arith)))

refusal_of : {m : ℕ} {r : Reading} → Listed m r → (n k : ℕ) → r ≡ rejected n k → T (listed n) × (1 ≤ k) × (k ≤ m)
refusal_of sheet_there n k e = absurd (let z : ◌≡◌ {A = ℕ} 0 1 = cc in omega arith)
refusal_of {m} (at_listed {n = a} {k = b} p q r) n k e = let y : a ≡ n = cc in let z : b ≡ k = cc in rw (← y, ← z) (p, q, r)

pub read_refusals : ReadRefusals
unfolding read_text
read_refusals text n k e =
    by-if (λ r. r ≡ rejected n k → ReadRefusal text n k) (ltb 49152 (length text)) _ _
    (λ t q. over_length (let z : n ≡ 2 = cc in z) (let z : k ≡ 0 = cc in z))
    (λ t q. let h = refusal_of (listed_lines empty 0 (lines_of text) (λ z. unfold empty in refl) (omega arith)) n k q in at_line h.0 h.1 h.2) e

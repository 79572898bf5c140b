-- The marks of rules and definitions as evaluation reads them: their rows are rows, and their kinds no Set. Assumes nothing.
use mathlib.Core.Path.{◌≡◌}
use Prim.Native.Nat.{ℕ, ◌≤◌, ◌<◌}
use native.Mathlib.Omega.{arith as linear}
use lib.Dec.{eqb}
use Rattle.std.specs.Prelude.{if◌then◌else◌}
use Rattle.ocl.specs.Environment.{start}
use Rattle.ocl.specs.Types.{set, Class}
use Rattle.ocl.specs.Model.{Schema}
use Rattle.ocl.specs.Forms.{Expr, Definition}
use Rattle.ocl.specs.Marks.{Mark, of_row, row_marked, kind_marked, Marks, mark_or, mark_in}
use Rattle.ocl.specs.Typing.{type_rule, type_definition}
use Rattle.ocl.specs.Laws.{EachMark, no_mark, mark_then, RowBelow, row_below, rows_below, no_row_lem}
use Rattle.laws.proofs.Tests.{by-if}
use Rattle.ocl.proofs.Places.{each_mark_imp, typing_places, definition_marked}

each_or : (P : Mark → Type 0) (d : Mark) {m : Marks} (p : ℕ) → P d → EachMark (λ q x. P x) m → P (mark_or d m p)
unfolding mark_or
each_or P d p h no_mark = h
each_or P d p h (mark_then {p = q} {x} l k) = each_or P (if eqb p q then x else d) p (by-if P (eqb p q) x d (λ t. l) (λ t. h)) k

-- each node's row is below n, if the rows are
pub mark_below : {n : ℕ} {m : Marks} (p : ℕ) → 0 < n → EachMark (λ q x. row_marked x < n) m → row_marked (mark_in m p) < n
unfolding mark_in row_marked
mark_below {n} p h k = each_or (λ x. row_marked x < n) (of_row 0) p h k

row_in : {n k : ℕ} {m : Mark} → 0 < n → k ≤ n → RowBelow k m → row_marked m < n
unfolding row_marked
row_in h l (row_below i) = omega linear
row_in h l (rows_below i) = omega linear
row_in h l no_row_lem = h

pub rule_rows : (s : Schema) (c : ℕ) (e : Expr) {n : ℕ} → 0 < n → s.row_count ≤ n → EachMark (λ q x. row_marked x < n) (type_rule s c e).marks
unfolding type_rule
rule_rows s c e h l = each_mark_imp (λ q x k. row_in h l k.is_row) (typing_places s e (start (Class c))).marked

pub definition_rows : (s : Schema) (d : Definition) {n : ℕ} → 0 < n → s.row_count ≤ n → EachMark (λ q x. row_marked x < n) (type_definition s d).marks
definition_rows s d h l = each_mark_imp (λ q x k. row_in h l k.is_row) (definition_marked s d)

-- and its kind is no Set, if none is
pub mark_no_set : {m : Marks} (p : ℕ) → EachMark (λ q x. kind_marked x ≡ set → ⊥) m → kind_marked (mark_in m p) ≡ set → ⊥
unfolding mark_in kind_marked
mark_no_set p k = each_or (λ x. kind_marked x ≡ set → ⊥) (of_row 0) p (λ e. absurd (let z : ◌≡◌ {A = ℕ} 0 1 = cc in omega linear)) k

pub rule_no_set : (s : Schema) (c : ℕ) (e : Expr) → EachMark (λ q x. kind_marked x ≡ set → ⊥) (type_rule s c e).marks
unfolding type_rule
rule_no_set s c e = each_mark_imp (λ q x k. k.no_set) (typing_places s e (start (Class c))).marked

pub definition_no_set : (s : Schema) (d : Definition) → EachMark (λ q x. kind_marked x ≡ set → ⊥) (type_definition s d).marks
definition_no_set s d = each_mark_imp (λ q x k. k.no_set) (definition_marked s d)

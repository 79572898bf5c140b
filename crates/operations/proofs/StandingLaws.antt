-- How members stand to a row, and what the worst of them says of all. Assumes nothing.
use mathlib.Core.Path.{◌≡◌, refl, sym, ap, ◌∙◌}
use mathlib.Core.Bool.{Bool, true, false, ◌&&◌, and-false}
use mathlib.Core.Option.{Option, none, some}
use mathlib.Core.List.{List}
use Prim.Native.Nat.{ℕ, zero, suc, ◌+◌, ◌-◌, ◌<◌, ◌≤◌, max}
use native.Mathlib.Omega.{arith}
use lib.ListN.{length, get_or}
use lib.Seq.{slice}
use Rattle.laws.specs.Choice.{on_some, map_some}
use Rattle.std.specs.Prelude.{if◌then◌else◌, Option as Optional, Some, None}
use Rattle.ocl.specs.Values.{Value, obj, Values, nil, cons, size}
use Rattle.ocl.specs.Model.{Model, every}
use Rattle.ocl.specs.Operations.{has_row, value_in_row, values_in_row}
use Rattle.values.specs.Cells.{head, encs, Fits, AllFit}
use Rattle.values.specs.Meanings.{Skips}
use Rattle.values.proofs.Encoding.{size_law}
use Rattle.values.proofs.Members.{Left, next_member, none_left}
use Rattle.tables.specs.declared.Counts.{Counts}
use Rattle.tables.specs.Stored.{HoldsModel}
use Rattle.outcomes.specs.Answers.{Lies}
use Rattle.outcomes.specs.Tables.{Plain, HasRow, RowSlot}
use Rattle.operations.specs.Collect.{if_none, standing, worst, StandingOf, WorstOf}
use Rattle.outcomes.proofs.Words.{head_at_lem}
use Rattle.outcomes.proofs.Lookups.{has_object}

-- ---- how one value stands

module _ {st : Counts} {w0 : List ℕ} {i cell : ℕ} {b : Bool} (h : HasRow st w0 i cell b) where
  pub standing_other : b ≡ false → StandingOf st w0 i cell 2
  unfolding standing
  standing_other e = record { is = λ m H P v f d. rw (← h.is m H P v f d, e) }

  module _ (e : b ≡ true) where
    on_object_lem : {r : ℕ} → ((m : Model) → HoldsModel st w0 m → (o : ℕ) → Fits (obj o) → cell ≡ head (obj o) → r ≡ if_none (m.value_of o i)) → StandingOf st w0 i cell r
    unfolding standing value_in_row
    on_object_lem g = record {
      is = λ m H P v f d.
          let q = sym (h.is m H P v f d) ∙ e in
          let x = has_object m i v q in
          let f' : Fits (obj x.o) = rw x.is at f in
          let d' : cell ≡ head (obj x.o) = rw x.is at d in
          rw (q, x.is) (g m H x.o f' d');
    }

    pub standing_some : {x : Optional ℕ} {j : ℕ} → RowSlot st w0 i cell x → x ≡ Some j → StandingOf st w0 i cell 0
    unfolding if_none
    standing_some {x} {j} F y = let a : RowSlot st w0 i cell (Some j) = rw y at F in on_object_lem (λ m H o f d. let t = a.1 m H o f d in rw t.1.0)

    pub standing_none : {x : Optional ℕ} → RowSlot st w0 i cell x → x ≡ None → StandingOf st w0 i cell 1
    unfolding if_none
    standing_none F y = let a : RowSlot st w0 i cell None = rw y at F in on_object_lem (λ m H o f d. rw (a m H o f d))

-- ---- the worst of members

pub record WorstSoFar (m : Model) (i : ℕ) (vs : Values) (S : List ℕ) (q end all : ℕ) : Type 0 where
  pub rest : Values
  pub left : Left S q end rest
  pub same : max all (worst m i rest) ≡ worst m i vs

pub record Worsening (st : Counts) (w0 : List ℕ) (i from end : ℕ) (S : List ℕ) (q all : ℕ) : Type 0 where
  pub room : end ≤ length S
  pub below : q ≤ end
  pub going : (m : Model) → HoldsModel st w0 m → Plain st m → (vs : Values) → AllFit vs → slice from end S ≡ encs vs → WorstSoFar m i vs S q end all

pub worst_start : {st : Counts} {w0 : List ℕ} {i from end : ℕ} {S : List ℕ} → end ≤ length S → from ≤ end → Worsening st w0 i from end S from 0
worst_start room h = record { room = room; below = h; going = λ m H P vs f e. record { rest = vs; left = record { fits = f; lies = e }; same = omega arith } }

pub worst_again : {st : Counts} {w0 : List ℕ} {i from end : ℕ} {S : List ℕ} {q all r a n : ℕ} → Worsening st w0 i from end S q all → q < end → Skips q end S r → StandingOf st w0 i (get_or S q 0) a → n ≡ max all a
    → Worsening st w0 i from end S r n
unfolding worst
worst_again {i = i} {S = S} {q = q} {all = all} {r = r} W h k T e = record {
  room = W.room;
  below = k.within;
  going = λ m H P vs f d.
      let G = W.going m H P vs f d in
      let N = next_member W.room h k G.left in
      let z = N.at in
      let l : q + (r - q) ≡ q + size N.w = (let y = size_law N.w in omega arith) in
      let lies : Lies N.w q (size N.w) S = record { fits = N.fits; long = refl; cells = rw (← l) N.cells } in
      let t = T.is m H P N.w N.fits (head_at_lem lies) in
      let s : max all (max (standing m i N.w) (worst m i N.ws)) ≡ worst m i vs = ap (λ (x : Values). max all (worst m i x)) (sym N.are) ∙ G.same in
      record { rest = N.ws; left = N.left; same = omega arith };
}

pub worst_end : {st : Counts} {w0 : List ℕ} {i from end : ℕ} {S : List ℕ} {q all : ℕ} → Worsening st w0 i from end S q all → end ≤ q → WorstOf st w0 i from end S all
unfolding worst
worst_end {i = i} {all = all} W h = record {
  is = λ m H P vs f e.
      let G = W.going m H P vs f e in
      let b = W.below in
      let s : max all (worst m i nil) ≡ worst m i vs = ap (λ (x : Values). max all (worst m i x)) (sym (none_left G.left (omega arith))) ∙ G.same in
      omega arith;
}

-- ---- what the worst member says of all

pub standing_least : (m : Model) (i : ℕ) (v : Value) → standing m i v ≤ 1 → has_row m i v ≡ true
unfolding standing
standing_least m i v h = by (has_row m i v) h
  where
    by : (b : Bool) → (if b then if_none (value_in_row m i v) else 2) ≤ 1 → b ≡ true
    by true l = refl
    by false l = absurd (omega arith)

standing_most : (m : Model) (i : ℕ) (v : Value) → 2 ≤ standing m i v → has_row m i v ≡ false
unfolding standing if_none
standing_most m i v h = by (has_row m i v) (value_in_row m i v) h
  where
    by : (b : Bool) (o : Option Value) → 2 ≤ (if b then if_none o else 2) → b ≡ false
    by true none l = absurd (omega arith)
    by true (some w) l = absurd (omega arith)
    by false o l = refl

pub given_by : (m : Model) (i : ℕ) (v : Value) → standing m i v ≡ 0 → (w : Value) × (value_in_row m i v ≡ some w)
unfolding standing if_none
given_by m i v h = by (has_row m i v) (value_in_row m i v) refl h
  where
    by : (b : Bool) (o : Option Value) → value_in_row m i v ≡ o → (if b then if_none o else 2) ≡ 0 → (w : Value) × (value_in_row m i v ≡ some w)
    by true none u e = absurd (omega arith)
    by true (some w) u e = (w, u)
    by false o u e = absurd (omega arith)

lacking_by : (m : Model) (i : ℕ) (v : Value) → standing m i v ≡ 1 → value_in_row m i v ≡ none
unfolding standing if_none
lacking_by m i v h = by (has_row m i v) (value_in_row m i v) refl h
  where
    by : (b : Bool) (o : Option Value) → value_in_row m i v ≡ o → (if b then if_none o else 2) ≡ 1 → value_in_row m i v ≡ none
    by true none u e = u
    by true (some w) u e = absurd (omega arith)
    by false o u e = absurd (omega arith)

-- every member has the row unless one stands at 2
pub all_have : (m : Model) (i : ℕ) (vs : Values) → worst m i vs ≤ 1 → every (has_row m i) vs ≡ true
unfolding worst every
all_have m i nil h = refl
all_have m i (cons v vs) h = rw (standing_least m i v (omega arith), all_have m i vs (omega arith))

pub one_other : (m : Model) (i : ℕ) (vs : Values) → 1 < worst m i vs → every (has_row m i) vs ≡ false
unfolding worst every
one_other m i nil h = absurd (omega arith)
one_other m i (cons v vs) h = by (standing m i v) refl (one_other m i vs)
  where
    by : (n : ℕ) → standing m i v ≡ n → (1 < worst m i vs → every (has_row m i) vs ≡ false) → (has_row m i v && every (has_row m i) vs) ≡ false
    by zero e ih = rw (ih (omega arith)) (and-false (has_row m i v))
    by (suc zero) e ih = rw (ih (omega arith)) (and-false (has_row m i v))
    by (suc (suc n)) e ih = rw (standing_most m i v (omega arith))

pub values_cons : (m : Model) (i : ℕ) (v : Value) (vs : Values) (w : Value) (ws : Values) → value_in_row m i v ≡ some w → values_in_row m i vs ≡ some ws → values_in_row m i (cons v vs) ≡ some (cons w ws)
unfolding values_in_row on_some map_some
values_cons m i v vs w ws e f = rw (e, f)

-- and each has a value if the worst is 0
pub all_given : (m : Model) (i : ℕ) (vs : Values) → worst m i vs ≡ 0 → (ws : Values) × (values_in_row m i vs ≡ some ws)
unfolding worst values_in_row
all_given m i nil h = (nil, refl)
all_given m i (cons v vs) h =
    let a = given_by m i v (omega arith) in
    let b = all_given m i vs (omega arith) in
    (cons a.0 b.0, values_cons m i v vs a.0 b.0 a.1 b.1)

pub one_lacks : (m : Model) (i : ℕ) (vs : Values) → worst m i vs ≡ 1 → values_in_row m i vs ≡ none
unfolding worst values_in_row on_some map_some
one_lacks m i nil h = absurd (omega arith)
one_lacks m i (cons v vs) h = by (standing m i v) refl (value_in_row m i v) refl (one_lacks m i vs)
  where
    by : (n : ℕ) → standing m i v ≡ n → (o : Option Value) → value_in_row m i v ≡ o → (worst m i vs ≡ 1 → values_in_row m i vs ≡ none) → on_some o (λ w. map_some (cons w) (values_in_row m i vs)) ≡ none
    by n e none u ih = refl
    by zero e (some w) u ih = rw (ih (omega arith))
    by (suc zero) e (some w) u ih = absurd (let z : ◌≡◌ {A = ℕ} 0 1 = (let y = sym u ∙ lacking_by m i v e in cc) in omega arith)
    by (suc (suc n)) e (some w) u ih = absurd (omega arith)

-- The forms with no operand: variables, the objects of a class, and the forms by their codes. Assumes nothing.
use mathlib.Core.Path.{◌≡◌, refl, sym, ap, ◌∙◌}
use mathlib.Core.Bool.{Bool, true, false}
use mathlib.Core.Option.{Option, none, some}
use mathlib.Core.List.{List, ◌∷◌, ◌++◌}
use Prim.Native.Nat.{ℕ, zero, suc, ◌+◌, ◌-◌, ◌%◌, ◌<◌, ◌≤◌}
use native.Mathlib.Omega.{arith}
use native.Mathlib.Numerals.{add-one}
use lib.ListN.{length, get_or, take, set, length-set}
use lib.Seq.{slice, slice-cons, slice_empty, get_or-set_same, take-set-le}
use Rattle.laws.proofs.Slices.{whole}
use Rattle.laws.proofs.Tests.{by-if}
use Rattle.ocl.specs.Types.{class, kind_code, set as as_set}
use Rattle.ocl.specs.Values.{Value, bool, num, obj, coll, Values, nil, cons, size, sizes, sort, append}
use Rattle.reals.specs.Words.{cell, number_in}
use Rattle.reals.proofs.Laws.{word_laws}
use Rattle.ocl.specs.Forms.{truth}
use Rattle.ocl.specs.Model.{Model, is_a}
use Rattle.ocl.specs.Operations.{instances}
use Rattle.ocl.specs.Evaluation.{bound, leaf_run}
use Rattle.ocl.proofs.Values.{size_pos}
use Rattle.values.specs.Cells.{head, enc, fits_bool, fits_num, fits_obj}
use Rattle.values.specs.Meanings.{means_bool, means_obj, EmptyOf, Forms, Appends, Copies}
use Rattle.values.specs.declared.Simple.TheVariants as simple
use Rattle.values.proofs.Forming.{forms_done, done_size, over_size}
use Rattle.values.proofs.Growing.{nil_fits}
use Rattle.nodes.specs.Nodes.{leaf_of}
use Rattle.tables.specs.declared.Counts.{Counts}
use Rattle.tables.specs.Stored.{HoldsModel}
use Rattle.outcomes.specs.declared.Ended.{Ended}
use Rattle.outcomes.specs.declared.Ended.TheVariants as ended
use Rattle.outcomes.specs.Answers.{Lies, Under, Ran, GivesCell, Gives, formed_as}
use Rattle.outcomes.specs.Tables.{IsA, WithObject, Instances}
use Rattle.operations.specs.Runs.{ModelIn, Held, free, held, Evals, Variable, leaf_for}
use Rattle.outcomes.proofs.Words.{under_refl, under_then, lies_above, formed_small, formed_ran, formed_value}
use Rattle.operations.proofs.OperationLaws.{ran_stuck, ran_undefined}
use Rattle.std.specs.Prelude.{Option as Optional, Some, None}

-- ---- variables

module _ {i sp s : ℕ} {env B : List ℕ} where
  pub variable_free : get_or env i 0 ≡ 0 → Variable i env sp s B B ended.Stuck
  variable_free e = record { small = tt; ran = λ ρ rel. by (ρ i) (rel.at i) }
    where
      by : (o : Option Value) → Held B sp (get_or env i 0) o → Ran (bound o s) sp B B ended.Stuck
      by none h = ran_stuck
      by (some v) (held p a l m k) = absurd (omega arith)

  module _ {p : ℕ} (n : get_or env i 0 ≡ 0 → ⊥) (q : p ≡ get_or env i 0 - 1) where
    pub variable_above : sp ≤ p → Variable i env sp s B B ended.Stuck
    variable_above h = record { small = tt; ran = λ ρ rel. by (ρ i) (rel.at i) }
      where
        by : (o : Option Value) → Held B sp (get_or env i 0) o → Ran (bound o s) sp B B ended.Stuck
        by none (free e) = absurd (n e)
        by (some v) (held p' a l m k) = absurd (let z = l.long in let y = size_pos v in omega arith)

    pub variable_done : {A : List ℕ} (f : Optional ℕ) {r : Ended} → sp ≤ length B → Copies p sp B A f → r ≡ formed_as f s → Variable i env sp s B A r
    variable_done {A} f {r} room C e = rw e (record { small = formed_small f s C.small; ran = λ ρ rel. by (ρ i) (rel.at i) })
      where
        by : (o : Option Value) → Held B sp (get_or env i 0) o → Ran (bound o s) sp B A (formed_as f s)
        by none (free x) = absurd (n x)
        by (some v) (held p' {len = len} a l m k) =
            let z : p ≡ p' = omega arith in
            let y : len ≡ size v = l.long in
            formed_value B s room (C.is v l.fits (rw (z, ← y) k) (rw (z, ← y) l.cells)) (omega arith)

-- ---- the objects of a class

pub lies_forms : {v : Value} {sp len : ℕ} (B : List ℕ) {A : List ℕ} → Lies v sp len A → Under sp A B → len ≤ 128 → sp ≤ length B → Forms v sp (take sp B) A (Some len)
lies_forms {v} {sp} {len} B {A} l u h room =
    forms_done B l.fits (sym l.long) h room
    (whole A sp (sp + len) (omega arith) ∙ ap (λ (x : List ℕ). x ++ slice sp (sp + len) A) u.same ∙ ap (λ (x : List ℕ). take sp B ++ x) l.cells)

-- what was formed lies there
pub record FormedAt (v : Value) (sp n : ℕ) (B A : List ℕ) : Type 0 where
  pub lies : Lies v sp n A
  pub kept : Under sp A B
  pub small : n ≤ 128

pub formed_at : {v : Value} {sp n : ℕ} (B : List ℕ) {A : List ℕ} {f : Optional ℕ} → Forms v sp (take sp B) A f → f ≡ Some n → sp ≤ length B → FormedAt v sp n B A
formed_at {v} {sp} {n} B {A} F e room =
    let d = done_size F e in
    record { lies = rw d.0 (lies_above v sp B A (F.fits d.1) room (F.lies d.1)); kept = record { same = F.below }; small = omega arith }

sizes_append : (v : Value) (vs : Values) → sizes (append v vs) ≡ size v + sizes vs
unfolding append size
sizes_append v nil = refl
sizes_append v (cons w ws) = let e = sizes_append v ws in omega arith

instances_few : (m : Model) (c n : ℕ) → sizes (instances m c n) ≤ n
unfolding instances size
instances_few m c zero = omega arith
instances_few m c (suc n) =
    let a = instances_few m c n in
    by-if (λ (vs : Values). sizes vs ≤ suc n) (is_a m n (class c)) (append (obj n) (instances m c n)) (instances m c n)
    (λ h. let e = sizes_append (obj n) (instances m c n) in omega arith) (λ h. omega arith)

module _ {st : Counts} {w0 : List ℕ} {c sp len o : ℕ} {B : List ℕ} {b : Bool} (I : IsA st w0 o c b) where
  pub with_yes : {A : List ℕ} {f : Optional ℕ} → b ≡ true → o < 96 → Appends (simple.Object o) sp (sp + len) B A f → WithObject st w0 c sp len o B A f
  unfolding instances
  with_yes e h P = record {
    small = P.small;
    is = λ m H l. rw (← I.is m H, e) (P.is as_set (instances m c o) (obj o) l.fits (fits_obj (omega arith)) means_obj l.cells);
  }

  pub with_no : b ≡ false → 1 ≤ len → len ≤ 128 → sp ≤ length B → WithObject st w0 c sp len o B B (Some len)
  unfolding instances
  with_no e one small room = record { small = (one, small); is = λ m H l. rw (← I.is m H, e) (lies_forms B l under_refl small room) }

-- the loop's invariant: the Set of the objects before o; S₀ is the stack where the loop begins
pub record Gathered (st : Counts) (w0 : List ℕ) (c sp : ℕ) (S₀ S : List ℕ) (len o : ℕ) : Type 0 where
  pub long : length S ≡ length S₀
  pub some : 1 ≤ len
  pub small : len ≤ 128
  pub within : o ≤ st.objects
  pub lies : (m : Model) → HoldsModel st w0 m → Lies (coll as_set (instances m c o)) sp len S
  pub kept : (m : Model) → HoldsModel st w0 m → Under sp S S₀

pub gathered_none : {st : Counts} {w0 : List ℕ} {c sp x : ℕ} (B : List ℕ) → EmptyOf 0 x → sp < length B → Gathered st w0 c sp (set B sp x) (set B sp x) 1 0
unfolding instances size enc kind_code
gathered_none {sp = sp} {x = x} B E h = record {
  long = refl;
  some = omega arith;
  small = omega arith;
  within = omega arith;
  lies = λ m H. record {
    fits = nil_fits as_set;
    long = refl;
    cells = slice-cons sp (sp + 1) (set B sp x) 0 (omega arith) (rw (length-set B sp x) (omega arith))
        ∙ rw (get_or-set_same B sp x 0 h, E.is as_set refl) (ap (λ (l : List ℕ). head (coll as_set nil) ∷ l) (rw (add-one sp) (slice_empty (suc sp) (set B sp (head (coll as_set nil))))));
  };
  kept = λ m H. under_refl;
}

module _ {st : Counts} {w0 : List ℕ} {c sp len o : ℕ} {S₀ S S' : List ℕ} {f : Optional ℕ} (G : Gathered st w0 c sp S₀ S len o) (W : WithObject st w0 c sp len o S S' f) where
  pub gathered_more : {n : ℕ} → f ≡ Some n → length S' ≡ length S → sp ≤ length S → o < st.objects → Gathered st w0 c sp S₀ S' n (o + 1)
  gathered_more {n} e k room h =
      let s : (1 ≤ n) × (n ≤ 128) = rw e at W.small in
      record {
        long = k ∙ G.long;
        some = s.0;
        small = s.1;
        within = omega arith;
        lies = λ m H. rw (add-one o) (formed_at S (W.is m H (G.lies m H)) e room).lies;
        kept = λ m H. under_then (formed_at S (W.is m H (G.lies m H)) e room).kept (G.kept m H);
      }

  -- the Set of all objects is never too large
  pub gathered_over : {B : List ℕ} → f ≡ None → o < 96 → Instances st w0 c sp B S' f
  unfolding size
  gathered_over {B} e h = record {
    small = W.small;
    is = λ m H. absurd (let a = over_size (W.is m H (G.lies m H)) e in let b = instances_few m c (suc o) in omega arith);
  }

pub gathered_all : {st : Counts} {w0 : List ℕ} {c sp len o : ℕ} (B : List ℕ) (x : ℕ) {S : List ℕ} → Gathered st w0 c sp (set B sp x) S len o → st.objects ≤ o → sp ≤ length B → Instances st w0 c sp B S (Some len)
gathered_all {sp = sp} {o = o} B x G h room = record {
  small = (G.some, G.small);
  is = λ m H.
      let e : o ≡ m.object_count = (let a = H.object_count in let b = G.within in omega arith) in
      let k = take-set-le sp B sp x (omega arith) in
      rw e at (lies_forms B (G.lies m H) (under_then (G.kept m H) (record { same = k })) G.small room);
}

-- ---- by the form's code

module _ {st : Counts} {w0 env : List ℕ} (k x : ℕ) {sp s : ℕ} {B : List ℕ} where
  pub leaf_truth : (b : Bool) {A : List ℕ} {r : Ended} → leaf_of k (λ _. x) ≡ truth b → Gives (simple.Bool b) sp s B A r → Evals (ModelIn st w0) (leaf_for k x) env sp s B A r
  unfolding leaf_for leaf_run
  leaf_truth b e G = record { small = G.small; ran = λ w ok ρ rel. rw e (G.is (bool b) fits_bool means_bool) }

  pub leaf_undef : k ≡ 2 → Evals (ModelIn st w0) (leaf_for k x) env sp s B B (ended.Undef s)
  unfolding leaf_for leaf_of leaf_run
  leaf_undef e = record { small = tt; ran = λ w ok ρ rel. rw e ran_undefined }

  pub leaf_number : {c : ℕ} {A : List ℕ} {r : Ended} → k ≡ 3 → c ≡ cell (number_in x) → GivesCell c sp s B A r → Evals (ModelIn st w0) (leaf_for k x) env sp s B A r
  unfolding leaf_for leaf_of leaf_run head sort
  leaf_number e q G = record { small = G.small; ran = λ w ok ρ rel. rw e (G.is (num (number_in x)) (fits_num (word_laws.kept_all x)) (omega arith) q) }

  pub leaf_self : {A : List ℕ} {r : Ended} → k ≡ 4 → Variable 0 env sp s B A r → Evals (ModelIn st w0) (leaf_for k x) env sp s B A r
  unfolding leaf_for leaf_of leaf_run
  leaf_self e x₁ = record { small = x₁.small; ran = λ w ok ρ rel. rw e (x₁.ran ρ rel) }

  pub leaf_var : {i : ℕ} {A : List ℕ} {r : Ended} → k ≡ 5 → i ≡ x % 16 → Variable i env sp s B A r → Evals (ModelIn st w0) (leaf_for k x) env sp s B A r
  unfolding leaf_for leaf_of leaf_run
  leaf_var e q x₁ = record { small = x₁.small; ran = λ w ok ρ rel. rw (e, ← q) (x₁.ran ρ rel) }

  pub leaf_all : {A : List ℕ} (f : Optional ℕ) {r : Ended} → k ≡ 6 → sp ≤ length B → Instances st w0 (x % 256) sp B A f → r ≡ formed_as f s → Evals (ModelIn st w0) (leaf_for k x) env sp s B A r
  unfolding leaf_for leaf_of leaf_run
  leaf_all f e room N q = rw q (record { small = formed_small f s N.small; ran = λ w ok ρ rel. rw e (formed_ran B s room (N.is w.model ok.holds)) })

pub code_0 : (k x : ℕ) → k ≡ 0 → leaf_of k (λ _. x) ≡ truth false
unfolding leaf_of
code_0 k x e = rw e

pub code_1 : (k x : ℕ) → k ≡ 1 → leaf_of k (λ _. x) ≡ truth true
unfolding leaf_of
code_1 k x e = rw e

-- All definitions typed in order: the first d of them have their types, and their marks are made. Assumes nothing.
use mathlib.Core.Path.{◌≡◌, refl, sym, ap, ◌∙◌}
use mathlib.Core.Option.{some}
use mathlib.Core.List.{List, [], ◌∷◌, ◌++◌, append-nil, append_assoc}
use Prim.Native.Nat.{ℕ, suc, ◌+◌, ◌≤◌, ◌<◌}
use native.Mathlib.Omega.{arith}
use native.Mathlib.Numerals.{add-one}
use lib.ListN.{get_or, get_elem?, take, drop}
use lib.Seq.{take-length}
use Rattle.laws.specs.Lists.{Each, each_nil, each-cons}
use Rattle.laws.proofs.Lists.{each_append}
use Rattle.ocl.specs.Forms.{Definition}
use Rattle.ocl.specs.Model.{Schema}
use Rattle.ocl.specs.Typing.{typed, refused as untyped, type_definition}
use Rattle.ocl.specs.Marks.{Marks}
use Rattle.ocl.proofs.Means.{definition_type}
use Rattle.sheet.specs.Sheet.{Sheet, schema_in}
use Rattle.sheet.specs.Calls.{Verdict, refusal_at, on_type, on_definitions, definition_marks}
use Rattle.sheet.specs.Laws.{Defined}
use Rattle.types.specs.declared.FlatType.{FlatType}
use Rattle.types.specs.Flat.{ty_of}
use Rattle.nodes.specs.Nodes.{word}
use Rattle.tables.specs.declared.Counts.{Counts}
use Rattle.tables.specs.Layout.{Kept}
use Rattle.tables.proofs.Tables.{kept_refl, kept_then}
use Rattle.judgements.specs.Replies.{meaning, write_marks}
use Rattle.judgements.proofs.Composition.{write_append}
use Rattle.rules.specs.Accepted.{InWords, Known}
use Rattle.rules.specs.Numbered.{DefinesNumbered}
use Rattle.rules.specs.All.{not_defined, all_defined, DefinesAll}
use Rattle.rules.proofs.Ready.{ready}
use Rattle.rules.proofs.Marks.{kept_behind}
use Rattle.rules.proofs.RuleByRule.{take_elem, split_elem}
use Rattle.std.specs.Prelude.{Result, Ok, Err}
use Rattle.memory.specs.Refusals.{number, at}
use Rattle.memory.specs.declared.refusals.Refused.{Refused}

-- ---- one after the other

-- whatever follows, a refusal behind definitions with their types is the answer
first_undefined : {s : Sheet} {ds : List Definition} (d : Definition) {n p : ℕ} → Each (Defined s) ds → (type_definition (schema_in s) d).answer ≡ untyped n p
    → (es : List Definition) (v : Verdict) → on_definitions s (ds ++ d ∷ es) v ≡ refusal_at n (get_or s.lines p 0)
unfolding on_definitions on_type
first_undefined d each_nil e es v = rw e
first_undefined d (each-cons q h) e es v = rw q.typed_body (first_undefined d h e es v)

definition_marks_snoc : (k : Schema) (ds : List Definition) (d : Definition) → definition_marks k (ds ++ (d ∷ [])) ≡ definition_marks k ds ++ (type_definition k d).marks
unfolding definition_marks
definition_marks_snoc k [] d = append-nil (type_definition k d).marks
definition_marks_snoc k (e ∷ ds) d =
    let m = (type_definition k e).marks in
    ap (λ (l : Marks). m ++ l) (definition_marks_snoc k ds d) ∙ sym (append_assoc m (definition_marks k ds) (type_definition k d).marks)

-- ---- the loop

pub record DefinedTo (st : Counts) (w0 w1 before now : List ℕ) (d : ℕ) : Type 0 where
  pub defined : (s : Sheet) → InWords st w0 w1 s → Each (Defined s) (take d s.definitions)
  pub marked : (s : Sheet) → InWords st w0 w1 s → take 768 now ≡ write_marks (take 768 before) (definition_marks (schema_in s) (take d s.definitions))
  pub within : d ≤ st.definitions
  pub kept : Kept before now

module _ {st : Counts} {w0 w1 : List ℕ} where
  pub defined_none : (w2 : List ℕ) → DefinedTo st w0 w1 w2 w2 0
  unfolding definition_marks write_marks
  defined_none w2 = record { defined = λ s is. each_nil; marked = λ s is. refl; within = omega arith; kept = kept_refl w2 }

  pub defined_next : {w2 u v : List ℕ} {definitions d : ℕ} {a : Result FlatType Refused} {t : FlatType} → definitions ≡ st.definitions → DefinedTo st w0 w1 w2 u d
      → d < definitions → DefinesNumbered st w0 w1 d u v a → a ≡ Ok t → DefinedTo st w0 w1 w2 v (d + 1)
  defined_next {w2} {u} {v} {d = d} {t = t} count so h ty e = record {
    defined = λ s g. let x = definition s g in rw (add-one d, take_elem s.definitions d x.0 x.1) (each_append (so.defined s g) (each-cons (its s g) each_nil));
    marked = λ s g. let x = definition s g in marks s g ∙ rw (add-one d, take_elem s.definitions d x.0 x.1) refl;
    within = omega arith;
    kept = kept_then so.kept (kept_behind ty.rest ty.size);
  }
    where
      definition : (s : Sheet) → InWords st w0 w1 s → (x : Definition) × (get_elem? s.definitions d ≡ some x)
      definition s g = (ready g).some_definition d (omega arith)

      its : (s : Sheet) (g : InWords st w0 w1 s) → Defined s (definition s g).0
      its s g =
          let x = definition s g in
          let q : (type_definition (schema_in s) x.0).answer ≡ typed (ty_of t) = sym (ty.is s g x.0 x.1) ∙ ap meaning e in
          record { typed_body = q ∙ ap typed (definition_type (schema_in s) x.0 (ty_of t) q) }

      marks : (s : Sheet) (g : InWords st w0 w1 s) → take 768 v ≡ write_marks (take 768 w2) (definition_marks (schema_in s) (take d s.definitions ++ ((definition s g).0 ∷ [])))
      marks s g =
          let x = definition s g in
          let more = (type_definition (schema_in s) x.0).marks in
          ty.marked s g x.0 x.1 ∙ ap (λ (l : List ℕ). write_marks l more) (so.marked s g)
          ∙ sym (write_append (take 768 w2) (definition_marks (schema_in s) (take d s.definitions)) more)
          ∙ ap (write_marks (take 768 w2)) (sym (definition_marks_snoc (schema_in s) (take d s.definitions) x.0))

  -- the node of a refusal
  pub undefined_node : {u v : List ℕ} {definitions d : ℕ} {a : Result FlatType Refused} {f : Refused} → Known st w0 w1 → definitions ≡ st.definitions → d < definitions
      → DefinesNumbered st w0 w1 d u v a → a ≡ Err f → f.place < 768
  undefined_node {d = d} {f = f} k count h ty e =
      let all = ready k.lies in
      let x = all.some_definition d (omega arith) in
      (all.definition_place d x.0 (number f.refusal) f.place x.1 (sym (ty.is k.sheet k.lies x.0 x.1) ∙ ap meaning e)).0

  pub defined_refused : {w2 u v : List ℕ} {definitions d k : ℕ} {a : Result FlatType Refused} {f : Refused} → definitions ≡ st.definitions → DefinedTo st w0 w1 w2 u d → d < definitions
      → DefinesNumbered st w0 w1 d u v a → a ≡ Err f → k ≡ word w1 f.place 7 → DefinesAll st w0 w1 w2 v (Err (at f.refusal k))
  defined_refused {d = d} {f = f} count so h ty e l = record {
    is = λ s g. not_defined (λ v.
        let x = (ready g).some_definition d (omega arith) in
        let q : (type_definition (schema_in s) x.0).answer ≡ untyped (number f.refusal) f.place = sym (ty.is s g x.0 x.1) ∙ ap meaning e in
        ap (λ (ds : List Definition). on_definitions s ds v) (split_elem s.definitions d x.0 x.1)
        ∙ first_undefined x.0 (so.defined s g) q (drop (suc d) s.definitions) v
        ∙ ap (refusal_at (number f.refusal)) (((ready g).definition_place d x.0 (number f.refusal) f.place x.1 q).1 ∙ sym l));
    kept = kept_then so.kept (kept_behind ty.rest ty.size);
  }

  pub defined_all : {w2 u : List ℕ} {definitions d : ℕ} → definitions ≡ st.definitions → DefinedTo st w0 w1 w2 u d → definitions ≤ d → DefinesAll st w0 w1 w2 u (Ok tt)
  defined_all {d = d} count so h = let e : d ≡ st.definitions = omega (arith, so.within) in record {
    is = λ s g.
        let q : take d s.definitions ≡ s.definitions = ap (λ (n : ℕ). take n s.definitions) (e ∙ g.holds.counted.definitions) ∙ take-length s.definitions in
        all_defined (rw q at (so.defined s g)) (rw q at (so.marked s g));
    kept = so.kept;
  }

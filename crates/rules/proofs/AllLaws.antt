-- All rules typed in order: the first r of them have types, which wait in w2, and their marks are made; and definitions before rules.
-- Assumes nothing.
use mathlib.Core.Path.{◌≡◌, refl, sym, ap, ◌∙◌}
use mathlib.Core.Option.{some}
use mathlib.Core.List.{List, [], ◌∷◌, ◌++◌}
use Prim.Native.Nat.{ℕ, suc, ◌+◌, ◌≤◌, ◌<◌}
use native.Mathlib.Omega.{arith}
use native.Mathlib.Numerals.{add-one}
use lib.ListN.{length, get_elem?, set, take, drop, replicate, length-append, length-drop}
use lib.Seq.{take-length, take_at, drop_at, take-set-le}
use Rattle.ocl.specs.Types.{Ty}
use Rattle.ocl.specs.Typing.{refused as untyped}
use Rattle.sheet.specs.Sheet.{Rule, Sheet, schema_in}
use Rattle.sheet.specs.Calls.{refusal_at, typing_of, on_types, definition_marks, rule_marks}
use Rattle.sheet.specs.Laws.{AllTyped, none_typed}
use Rattle.sheet.proofs.Accepted.{on_defined}
use Rattle.types.specs.declared.FlatType.{FlatType}
use Rattle.types.specs.Flat.{ty_of}
use Rattle.types.specs.Word.{type_in}
use Rattle.nodes.specs.Nodes.{word}
use Rattle.tables.specs.declared.Counts.{Counts}
use Rattle.tables.specs.Layout.{Kept}
use Rattle.tables.proofs.Tables.{kept_refl, kept_set, kept_then}
use Rattle.judgements.specs.Replies.{meaning, write_marks}
use Rattle.judgements.proofs.Composition.{write_append}
use Rattle.rules.specs.Accepted.{InWords, Known, TypesIn}
use Rattle.rules.specs.Numbered.{TypesNumbered}
use Rattle.rules.specs.All.{cleared_marks, DefinesAs, not_defined, all_defined, DefinesAll, TypesAs, a_refusal, all_typed, TypesAll, KeepsMarks, AcceptsAs, refused, accepted, Accepts}
use Rattle.rules.proofs.Ready.{ready}
use Rattle.rules.proofs.Marks.{accepted_same, marks_kept, kept_behind, zeros_length, marks_in}
use Rattle.rules.proofs.RuleByRule.{take_elem, split_elem, typed_snoc, first_refusal, types_more, marks_snoc}
use Rattle.std.specs.Prelude.{Result, Ok, Err}
use Rattle.memory.specs.Refusals.{number, at}
use Rattle.memory.specs.declared.refusals.Refused.{Refused}

pub record TypedTo (st : Counts) (w0 w1 before now : List ℕ) (r : ℕ) : Type 0 where
  pub types : List Ty
  pub typed : (s : Sheet) → InWords st w0 w1 s → AllTyped s (take r s.rules) types
  pub marked : (s : Sheet) → InWords st w0 w1 s → take 768 now ≡ write_marks (take 768 before) (rule_marks (schema_in s) (take r s.rules))
  pub long : length types ≡ r
  pub waiting : TypesIn now types
  pub within : r ≤ st.rules
  pub kept : Kept before now

-- ---- the loop

module _ {st : Counts} {w0 w1 : List ℕ} where
  pub typed_none : (w2 : List ℕ) → TypedTo st w0 w1 w2 w2 0
  unfolding rule_marks write_marks
  typed_none w2 = record {
    types = [];
    typed = λ s is. none_typed;
    marked = λ s is. refl;
    long = refl;
    waiting = record { at = λ i t e. absurd (let z : ◌≡◌ {A = ℕ} 0 1 = cc in omega arith) };
    within = omega arith;
    kept = kept_refl w2;
  }

  -- rule r has a type, whose word is put behind the others
  pub typed_next : {w2 u v : List ℕ} {rules r : ℕ} (w : ℕ) {a : Result FlatType Refused} {t : FlatType} → Known st w0 w1 → 8192 ≤ length w2 → rules ≡ st.rules → TypedTo st w0 w1 w2 u r
      → r < rules → TypesNumbered st w0 w1 r u v a → a ≡ Ok t → type_in w ≡ ty_of t → TypedTo st w0 w1 w2 (set v (768 + r) w) (r + 1)
  unfolding typing_of
  typed_next {w2} {u} {v} {r = r} w {a} {t} known room count so h ty e is =
      let low : r < 64 = omega (arith, known.lies.fine.rules) in
      record {
        types = so.types ++ (ty_of t ∷ []);
        typed = λ s g. let x = rule s g in
            rw (add-one r, take_elem s.rules r x.0 x.1) (typed_snoc x.0 (so.typed s g) (sym (ty.is s g x.0 x.1) ∙ ap meaning e));
        marked = λ s g. let x = rule s g in
            take-set-le 768 v (768 + r) w (omega arith) ∙ marks s g ∙ rw (add-one r, take_elem s.rules r x.0 x.1) refl;
        long = length-append so.types (ty_of t ∷ []) ∙ omega (arith, so.long);
        waiting = types_more v w so.waiting so.long ty.rest (omega (arith, ty.size, so.kept.size)) is;
        within = omega arith;
        kept = kept_then so.kept (kept_then (kept_behind ty.rest ty.size) (kept_set v (768 + r) w (omega arith)));
      }
    where
      rule : (s : Sheet) → InWords st w0 w1 s → (x : Rule) × (get_elem? s.rules r ≡ some x)
      rule s g = (ready g).some_rule r (omega arith)

      marks : (s : Sheet) (g : InWords st w0 w1 s) → take 768 v ≡ write_marks (take 768 w2) (rule_marks (schema_in s) (take r s.rules ++ ((rule s g).0 ∷ [])))
      marks s g =
          let x = rule s g in
          let so_far = rule_marks (schema_in s) (take r s.rules) in
          ty.marked s g x.0 x.1 ∙ ap (λ (l : List ℕ). write_marks l (typing_of s x.0).marks) (so.marked s g)
          ∙ sym (write_append (take 768 w2) so_far (typing_of s x.0).marks)
          ∙ ap (write_marks (take 768 w2)) (sym (marks_snoc (schema_in s) (take r s.rules) x.0))

  -- the node of a refusal
  pub refused_node : {u v : List ℕ} {rules r : ℕ} {a : Result FlatType Refused} {f : Refused} → Known st w0 w1 → rules ≡ st.rules → r < rules → TypesNumbered st w0 w1 r u v a → a ≡ Err f → f.place < 768
  refused_node {r = r} {f = f} k count h ty e =
      let all = ready k.lies in
      let x = all.some_rule r (omega arith) in
      (all.place r x.0 (number f.refusal) f.place x.1 (sym (ty.is k.sheet k.lies x.0 x.1) ∙ ap meaning e)).0

  pub typed_refused : {w2 u v : List ℕ} {rules r k : ℕ} {a : Result FlatType Refused} {f : Refused} → rules ≡ st.rules → TypedTo st w0 w1 w2 u r → r < rules
      → TypesNumbered st w0 w1 r u v a → a ≡ Err f → k ≡ word w1 f.place 7 → TypesAll st w0 w1 w2 v (Err (at f.refusal k))
  typed_refused {r = r} {f = f} count so h ty e l = record {
    is = λ s g. a_refusal (λ v.
        let x = (ready g).some_rule r (omega arith) in
        let q : (typing_of s x.0).answer ≡ untyped (number f.refusal) f.place = sym (ty.is s g x.0 x.1) ∙ ap meaning e in
        ap (λ (xs : List Rule). on_types s xs v) (split_elem s.rules r x.0 x.1)
        ∙ first_refusal x.0 (so.typed s g) q (drop (suc r) s.rules) v
        ∙ ap (refusal_at (number f.refusal)) (((ready g).place r x.0 (number f.refusal) f.place x.1 q).1 ∙ sym l));
    kept = kept_then so.kept (kept_behind ty.rest ty.size);
  }

  pub typed_all : {w2 u : List ℕ} {rules r : ℕ} → rules ≡ st.rules → TypedTo st w0 w1 w2 u r → rules ≤ r → TypesAll st w0 w1 w2 u (Ok tt)
  typed_all {r = r} count so h = let e : r ≡ st.rules = omega (arith, so.within) in record {
    is = λ s g.
        let q : take r s.rules ≡ s.rules = ap (λ (n : ℕ). take n s.rules) (e ∙ g.holds.counted.rules) ∙ take-length s.rules in
        all_typed so.types (rw q at (so.typed s g)) so.waiting (rw q at (so.marked s g));
    kept = so.kept;
  }

-- ---- definitions typed over a cleared table, then rules, and their marks kept

kept_cleared : (w : List ℕ) → 768 ≤ length w → Kept w (cleared_marks w)
kept_cleared w h =
    kept_behind (drop_at (replicate 768 0) (drop 768 w) 768 zeros_length)
    (length-append (replicate 768 0) (drop 768 w) ∙ (let a = zeros_length in let b = length-drop 768 w in omega arith))

module _ {st : Counts} {w0 u1 v1 m2 v2 : List ℕ} (u2 : List ℕ) (k : KeepsMarks v2 u1 v1) where
  accepts_as : {a : Result Unit Refused} (s : Sheet) → InWords st w0 u1 s → DefinesAs s (cleared_marks u2) m2 (Ok tt) → TypesAs s m2 v2 a → AcceptsAs st w0 v1 v2 s a
  accepts_as s g (all_defined all made) (a_refusal f) = refused (λ h. on_defined all (on_types s s.rules h) ∙ f h)
  accepts_as s g (all_defined all made) (all_typed ts types waiting more) =
      let zeros = take_at (replicate 768 0) (drop 768 u2) 768 zeros_length in
      let first = definition_marks (schema_in s) s.definitions in
      let then = rule_marks (schema_in s) s.rules in
      accepted ts (record {
        lies = accepted_same k g;
        defined = all;
        typed = types;
        marks = marks_in s (more ∙ ap (λ (l : List ℕ). write_marks l then) (made ∙ ap (λ (l : List ℕ). write_marks l first) zeros) ∙ sym (write_append (replicate 768 0) first then)) k;
      }) waiting

  pub accepts : {a b : Result Unit Refused} {c : List ℕ} → 8192 ≤ length u2 → c ≡ cleared_marks u2 → DefinesAll st w0 u1 c m2 b → b ≡ Ok tt → TypesAll st w0 u1 m2 v2 a
      → Accepts st w0 u1 u2 v1 v2 a
  accepts room e d y t = let f = rw (e, y) at d in record {
    is = λ s g. accepts_as s g (f.is s g) (t.is s g);
    kept1 = marks_kept k;
    kept2 = kept_then (kept_cleared u2 (omega arith)) (kept_then f.kept t.kept);
  }

-- a definition that is refused: no rule is typed
pub accepts_none : {st : Counts} {w0 u1 u2 v2 c : List ℕ} {f : Refused} {b : Result Unit Refused} → 8192 ≤ length u2 → c ≡ cleared_marks u2 → DefinesAll st w0 u1 c v2 b → b ≡ Err f
    → Accepts st w0 u1 u2 u1 v2 (Err f)
accepts_none {st} {w0} {u1} {u2} {v2} {f = f} room e d y = let a = rw (e, y) at d in record {
  is = λ s g. by s (a.is s g);
  kept1 = kept_refl u1;
  kept2 = kept_then (kept_cleared u2 (omega arith)) a.kept;
}
  where
    by : (s : Sheet) → DefinesAs s (cleared_marks u2) v2 (Err f) → AcceptsAs st w0 u1 v2 s (Err f)
    by s (not_defined h) = refused (λ g. h (on_types s s.rules g))

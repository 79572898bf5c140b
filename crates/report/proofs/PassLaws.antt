-- Lines written one behind the other, or counted: one object's line, and the objects of one rule. Assumes nothing.
use mathlib.Core.Path.{◌≡◌, refl, sym, ap, ◌∙◌}
use mathlib.Core.Logic.{inl, inr, ⊎_elim}
use mathlib.Core.Bool.{Bool, true, false}
use mathlib.Core.List.{List, [], ◌++◌, append-nil}
use Prim.Native.Nat.{ℕ, ◌+◌, ◌≤◌, ◌<◌}
use native.Mathlib.Omega.{arith}
use native.Mathlib.Numerals.{add-one}
use lib.Dec.{T}
use lib.ListN.{length, get_or, take, drop, take-append-drop, length-append}
use Rattle.laws.proofs.Elements.{elem_at}
use Rattle.memory.specs.Map as memory
use Rattle.ocl.specs.Types.{class, Ty}
use Rattle.ocl.specs.Model.{is_a}
use Rattle.sheet.specs.Text.{Bytes}
use Rattle.sheet.specs.Sheet.{Rule, Sheet, model_of}
use Rattle.text.proofs.WrittenLaws.{puts_then}
use Rattle.tables.specs.declared.Counts.{Counts}
use Rattle.tables.specs.Layout.{Kept}
use Rattle.tables.proofs.Tables.{kept_refl, kept_then}
use Rattle.outcomes.specs.Tables.{IsA}
use Rattle.rules.specs.Accepted.{Known}
use Rattle.rules.proofs.Ready.{ready}
use Rattle.report.specs.Bound.{line_width, lines_bound}
use Rattle.report.specs.Passes.{AddsBytes, HasRoom, TypedRule, RoomForLine, PutsVerdict, verdict_line, object_line, lines_for, all_objects, line_bound, all_bound, RoomFor, AddsLines}
use Rattle.report.proofs.BoundLaws.{width_within_line}
use Rattle.report.proofs.ReportLaws.{no_lines, lines_object, lines_before, bound_object, bound_before}

-- ---- bytes added

pub adds_nothing : (keep : Bool) (total : ℕ) (out : Bytes) → AddsBytes keep total [] out out total
adds_nothing keep total out = record {
  end = omega arith;
  size = refl;
  kept = λ k. let z : total + 0 ≡ total = omega arith in
      rw z (sym (ap (λ (l : Bytes). l ++ drop total out) (append-nil (take total out)) ∙ take-append-drop total out));
}

pub adds_then : {keep : Bool} {total r q : ℕ} {v w a b c : Bytes} → AddsBytes keep total v a b r → AddsBytes keep r w b c q
    → (keep ≡ true → total + length v + length w ≤ length a) → AddsBytes keep total (v ++ w) a c q
adds_then {keep} {total} {r} {q} {v} {w} {a} {b} {c} p s room = record {
  end = s.end ∙ simp length-append (omega (arith, p.end));
  size = s.size ∙ p.size;
  kept = λ k. (puts_then {r = r} {q = q} (record { is = p.kept k; end = p.end }) (record { is = s.kept k; end = s.end }) (room k)).is;
}

-- ---- one object

module _ {st : Counts} {w0 w1 : List ℕ} {r : ℕ} {s : Sheet} {x : Rule} {t : Ty} (m : TypedRule st w0 w1 r s x t) where
  pub rule_there : r < st.rules
  rule_there = omega (arith, (elem_at s.rules r x m.rule).0, m.lies.holds.counted.rules)

  sheet_known : Known st w0 w1
  sheet_known = record { sheet = s; lies = m.lies }

  module _ {o : ℕ} {b : Bool} (a : IsA st w0 o (get_or w0 (memory.contexts + r) 0) b) where
    class_is : is_a (model_of s) o (class x.context) ≡ b
    class_is =
        let all = ready m.lies in
        rw (all.rule r x m.rule).context at (sym (a.is (model_of s) all.model))

    of_class : b ≡ true → T (is_a (model_of s) o (class x.context))
    of_class e = rw (class_is, e) tt

    line_none : (origins : Bool) → b ≡ false → object_line origins r o s x ≡ []
    unfolding object_line
    line_none origins e = rw (class_is, e)

    line_some : (origins : Bool) → b ≡ true → object_line origins r o s x ≡ verdict_line origins r o s x
    unfolding object_line
    line_some origins e = rw (class_is, e)

    bound_some : (origins : Bool) → b ≡ true → line_bound origins o s x t ≡ line_width origins t
    unfolding line_bound
    bound_some origins e = rw (class_is, e)

module _ (origins : Bool) {st : Counts} {w0 w1 : List ℕ} {r o : ℕ} {keep : Bool} {total : ℕ} {b : Bool} (a : IsA st w0 o (get_or w0 (memory.contexts + r) 0) b) where
  -- an object that is not of the class
  pub no_line : b ≡ false → (w2 : List ℕ) (out : Bytes) → AddsLines (object_line origins r o) (line_bound origins o) st w0 w1 r keep total w2 w2 out out total
  no_line e w2 out = record {
    is = λ s x t m. rw (line_none m a origins e) (adds_nothing keep total out);
    bounded = λ s x t m. omega arith;
    size = refl;
    kept = kept_refl w2;
  }

  module _ (yes : b ≡ true) {room : ℕ} (k : RoomFor (object_line origins r o) (line_bound origins o) st w0 w1 r keep total room) where
    pub room_kept : keep ≡ true → RoomForLine origins st w0 w1 r o total room
    room_kept q = record {
      sheet = k.sheet;
      rule = k.rule;
      type = k.type;
      typed = k.typed;
      of_class = of_class k.typed a yes;
      space = rw (line_some k.typed a origins yes, bound_some k.typed a origins yes) at (k.space.all q);
    }

    pub room_counted : RoomForLine origins st w0 w1 r o 0 room
    room_counted = record {
      sheet = k.sheet;
      rule = k.rule;
      type = k.type;
      typed = k.typed;
      of_class = of_class k.typed a yes;
      space = inl (omega (arith, width_within_line origins k.type, k.space.line));
    }

    module _ {n : ℕ} {w2 v2 : List ℕ} {out now : Bytes} where
      pub line_kept : keep ≡ true → PutsVerdict origins st w0 w1 r o total w2 v2 out now n
          → AddsLines (object_line origins r o) (line_bound origins o) st w0 w1 r keep total w2 v2 out now n
      line_kept q p = record {
        is = λ s x t m. let z = p.is s x t m (of_class m a yes) in
            rw (line_some m a origins yes) (record { end = z.end; size = p.size; kept = λ _. z.is });
        bounded = λ s x t m. rw (bound_some m a origins yes) (p.bounded s x t m (of_class m a yes));
        size = p.size;
        kept = p.kept;
      }

      module _ (p : PutsVerdict origins st w0 w1 r o 0 w2 v2 out now n) where
        pub counted_few : total + n ≤ 14247936
        counted_few = omega (arith, p.bounded k.sheet k.rule k.type k.typed (of_class k.typed a yes), bound_some k.typed a origins yes, k.space.few)

        pub line_counted : keep ≡ false → AddsLines (object_line origins r o) (line_bound origins o) st w0 w1 r keep total w2 v2 out now (total + n)
        line_counted q = record {
          is = λ s x t m. rw (line_some m a origins yes) (record {
            end = omega (arith, (p.is s x t m (of_class m a yes)).end);
            size = p.size;
            kept = λ z. absurd (let y : ◌≡◌ {A = ℕ} 0 1 = cc in omega arith);
          });
          bounded = λ s x t m. rw (bound_some m a origins yes) (omega (arith, p.bounded s x t m (of_class m a yes)));
          size = p.size;
          kept = p.kept;
        }

-- a verdict's evaluation

module _ {origins : Bool} {st : Counts} {w0 w1 : List ℕ} {r o at room : ℕ} (k : RoomForLine origins st w0 w1 r o at room) where
  pub verdict_known : Known st w0 w1
  verdict_known = sheet_known k.typed

  pub verdict_rule : r < st.rules
  verdict_rule = rule_there k.typed

  pub verdict_object : o < st.objects → o < 4294967296
  verdict_object h = omega (arith, h, k.typed.lies.fine.objects)

-- ---- the objects of one rule: the lines of the first o are added

pub record LinesTo (origins : Bool) (st : Counts) (w0 w1 : List ℕ) (r : ℕ) (keep : Bool) (total : ℕ) (before now : List ℕ) (out after : Bytes) (o sum : ℕ) : Type 0 where
  pub is : (s : Sheet) (x : Rule) (t : Ty) → TypedRule st w0 w1 r s x t → AddsBytes keep total (lines_for origins s r x o) out after sum
  pub bounded : (s : Sheet) (x : Rule) (t : Ty) → TypedRule st w0 w1 r s x t → sum ≤ total + lines_bound origins s x t o
  pub size : length after ≡ length out
  pub kept : Kept before now
  pub within : o ≤ st.objects

-- what is kept ends within the output
pub added_end : {f : Sheet → Rule → Bytes} {g : Sheet → Rule → Ty → ℕ} {st : Counts} {w0 w1 : List ℕ} {r : ℕ} {keep : Bool} {total room n : ℕ} {w2 v2 : List ℕ} {out now : Bytes}
    → RoomFor f g st w0 w1 r keep total room → AddsLines f g st w0 w1 r keep total w2 v2 out now n → keep ≡ true → n ≤ room
added_end k a q = ⊎_elim
    (λ h. omega (arith, a.bounded k.sheet k.rule k.type k.typed))
    (λ h. omega (arith, (a.is k.sheet k.rule k.type k.typed).end))
    (k.space.all q)

-- room for a whole is room for a part that is left of it
pub room_left : {keep : Bool} {t u m n c b room left : ℕ} → HasRoom keep t m c room → left ≡ room → u + n ≤ t + m → u + b ≤ t + c → HasRoom keep u n b left
room_left k e p q = record {
  all = λ h. ⊎_elim (λ i. inl (omega arith)) (λ i. inr (omega arith)) (k.all h);
  line = omega (arith, k.line);
  few = omega (arith, k.few);
}

module _ {origins : Bool} {st : Counts} {w0 w1 : List ℕ} {r : ℕ} {keep : Bool} {total : ℕ} where
  pub lines_none : (w2 : List ℕ) (out : Bytes) → LinesTo origins st w0 w1 r keep total w2 w2 out out 0 total
  lines_none w2 out = record {
    is = λ s x t m. rw (no_lines origins s r x) (adds_nothing keep total out);
    bounded = λ s x t m. omega arith;
    size = refl;
    kept = kept_refl w2;
    within = omega arith;
  }

  module _ {w2 u2 : List ℕ} {out mid : Bytes} {o sum : ℕ} (so : LinesTo origins st w0 w1 r keep total w2 u2 out mid o sum) (h : o < st.objects) where
    pub lines_room : {room now : ℕ} → RoomFor (all_objects origins r) (all_bound origins) st w0 w1 r keep total room → room ≡ length out → now ≡ length mid
        → RoomFor (object_line origins r o) (line_bound origins o) st w0 w1 r keep sum now
    lines_room {room} {now} k e l = record {
      sheet = s;
      rule = x;
      type = k.type;
      typed = k.typed;
      space = room_left k.space (omega (arith, so.size)) part bound;
    }
      where
        s : Sheet
        s = k.sheet

        x : Rule
        x = k.rule

        few : o < length s.objects
        few = omega (arith, k.typed.lies.holds.counted.objects)

        part : sum + length (object_line origins r o s x) ≤ total + length (lines_for origins s r x (length s.objects))
        part = omega (arith, (so.is s x k.type k.typed).end, lines_before origins s r x o (length s.objects) few)

        bound : sum + line_bound origins o s x k.type ≤ total + lines_bound origins s x k.type (length s.objects)
        bound = omega (arith, so.bounded s x k.type k.typed, bound_before origins s x k.type o (length s.objects) few)

    pub lines_next : {now : ℕ} {v2 : List ℕ} {after : Bytes} {n : ℕ} → RoomFor (object_line origins r o) (line_bound origins o) st w0 w1 r keep sum now → now ≡ length mid
        → AddsLines (object_line origins r o) (line_bound origins o) st w0 w1 r keep sum u2 v2 mid after n → LinesTo origins st w0 w1 r keep total w2 v2 out after (o + 1) n
    lines_next {now} {v2} {after} {n} k l a = record {
      is = λ s x t m. rw (add-one o, lines_object origins s r x o)
          (let p = so.is s x t m in let q = a.is s x t m in
          adds_then p q (λ e. omega (arith, added_end k a e, p.end, q.end, so.size)));
      bounded = λ s x t m. rw (add-one o, bound_object origins s x t o) (omega (arith, so.bounded s x t m, a.bounded s x t m));
      size = a.size ∙ so.size;
      kept = kept_then so.kept a.kept;
      within = omega arith;
    }

  pub lines_end : {w2 u2 : List ℕ} {out mid : Bytes} {o sum : ℕ} → LinesTo origins st w0 w1 r keep total w2 u2 out mid o sum → o ≡ st.objects
      → AddsLines (all_objects origins r) (all_bound origins) st w0 w1 r keep total w2 u2 out mid sum
  lines_end so e = record {
    is = λ s x t m. rw (← m.lies.holds.counted.objects, ← e) (so.is s x t m);
    bounded = λ s x t m. rw (← m.lies.holds.counted.objects, ← e) (so.bounded s x t m);
    size = so.size;
    kept = so.kept;
  }

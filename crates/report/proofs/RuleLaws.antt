-- Lines of all rules, written one behind the other, or counted: the lines of the first rules. Assumes nothing.
use mathlib.Core.Path.{◌≡◌, refl, ◌∙◌}
use mathlib.Core.Bool.{Bool}
use mathlib.Core.List.{List}
use Prim.Native.Nat.{ℕ, ◌+◌, ◌≤◌, ◌<◌}
use native.Mathlib.Omega.{arith}
use native.Mathlib.Numerals.{add-one}
use lib.ListN.{length}
use Rattle.ocl.specs.Types.{Ty}
use Rattle.sheet.specs.Text.{Bytes}
use Rattle.sheet.specs.Sheet.{Sheet}
use Rattle.tables.specs.declared.Counts.{Counts}
use Rattle.tables.specs.Layout.{Kept}
use Rattle.tables.proofs.Tables.{kept_refl, kept_then}
use Rattle.rules.specs.Accepted.{Accepted}
use Rattle.report.specs.Bound.{lines_bound, rules_bound}
use Rattle.report.specs.Passes.{AddsBytes, lines_for, all_lines, all_objects, all_bound, RoomFor, AddsLines, RoomForAll, AddsAll}
use Rattle.report.proofs.ReportLaws.{RuleOf, rule_of, lines_to, no_rule_lines, lines_rule, lines_all, rule_before, bound_to, bound_rule, bound_all, bound_rule_before}
use Rattle.report.proofs.PassLaws.{adds_nothing, adds_then, added_end, room_left}

-- the lines of the first r rules are added; w2 was `before`
pub record RulesTo (origins : Bool) (st : Counts) (w0 w1 before w2 : List ℕ) (keep : Bool) (out now : Bytes) (r total : ℕ) : Type 0 where
  pub is : (s : Sheet) (ts : List Ty) → Accepted st w0 w1 s ts → AddsBytes keep 0 (lines_to origins s r) out now total
  pub bounded : (s : Sheet) (ts : List Ty) → Accepted st w0 w1 s ts → total ≤ bound_to origins s ts r
  pub size : length now ≡ length out
  pub kept : Kept before w2
  pub within : r ≤ st.rules

module _ {origins : Bool} {st : Counts} {w0 w1 : List ℕ} {keep : Bool} where
  pub rules_none : (w2 : List ℕ) (out : Bytes) → RulesTo origins st w0 w1 w2 w2 keep out out 0 0
  rules_none w2 out = record {
    is = λ s ts a. rw (no_rule_lines origins s) (adds_nothing keep 0 out);
    bounded = λ s ts a. omega arith;
    size = refl;
    kept = kept_refl w2;
    within = omega arith;
  }

  module _ {before w2 : List ℕ} {out now : Bytes} {rules r total : ℕ} (count : rules ≡ st.rules)
      (so : RulesTo origins st w0 w1 before w2 keep out now r total) (h : r < rules) where
    there : r < st.rules
    there = omega arith

    pub rule_room : {room left : ℕ} → RoomForAll origins st w0 w1 keep room → room ≡ length out → left ≡ length now
        → RoomFor (all_objects origins r) (all_bound origins) st w0 w1 r keep total left
    rule_room {room} {left} k e l = record {
      sheet = s;
      rule = y.rule;
      type = y.type;
      typed = y.is;
      space = room_left k.space (omega (arith, so.size)) (omega (arith, part)) (omega (arith, bound));
    }
      where
        s : Sheet
        s = k.sheet

        y : RuleOf st w0 w1 r k.sheet k.types
        y = rule_of k.accepted there

        part : total + length (lines_for origins s r y.rule (length s.objects)) ≤ length (all_lines origins s)
        part = omega (arith, (so.is s k.types k.accepted).end, rule_before origins s r y.rule y.is.rule)

        bound : total + lines_bound origins s y.rule y.type (length s.objects) ≤ rules_bound origins s s.rules k.types
        bound = omega (arith, so.bounded s k.types k.accepted, bound_rule_before origins y)

    pub rules_next : {left n : ℕ} {v2 : List ℕ} {after : Bytes} → RoomFor (all_objects origins r) (all_bound origins) st w0 w1 r keep total left → left ≡ length now
        → AddsLines (all_objects origins r) (all_bound origins) st w0 w1 r keep total w2 v2 now after n → RulesTo origins st w0 w1 before v2 keep out after (r + 1) n
    rules_next {left} {n} {v2} {after} k l a = record {
      is = λ s ts g. let y = rule_of g there in
          rw (add-one r, lines_rule origins s r y.rule y.is.rule)
          (let p = so.is s ts g in let q = a.is s y.rule y.type y.is in
          adds_then p q (λ e. omega (arith, added_end k a e, p.end, q.end, so.size)));
      bounded = λ s ts g. let y = rule_of g there in
          rw (add-one r, bound_rule origins y) (omega (arith, so.bounded s ts g, a.bounded s y.rule y.type y.is));
      size = a.size ∙ so.size;
      kept = kept_then so.kept a.kept;
      within = omega arith;
    }

  pub rules_end : {before w2 : List ℕ} {out now : Bytes} {rules r total : ℕ} → rules ≡ st.rules → RulesTo origins st w0 w1 before w2 keep out now r total → rules ≤ r
      → AddsAll origins st w0 w1 before w2 keep out now total
  rules_end {r = r} count so h = let e : r ≡ st.rules = omega (arith, so.within) in record {
    is = λ s ts a. rw (lines_all origins s r (e ∙ a.lies.holds.counted.rules)) at (so.is s ts a);
    bounded = λ s ts a. rw (bound_all origins s ts r (e ∙ a.lies.holds.counted.rules)) at (so.bounded s ts a);
    size = so.size;
    kept = so.kept;
  }

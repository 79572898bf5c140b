-- The lines of the rules that a word names, evaluated again. Assumes nothing.
use mathlib.Core.Path.{◌≡◌, refl, sym, ap, ◌∙◌}
use mathlib.Core.Option.{some}
use mathlib.Core.List.{List, [], ◌∷◌}
use Prim.Native.Nat.{ℕ, zero, suc, ◌+◌, ◌*◌, ◌≤◌, ◌<◌}
use native.Mathlib.Omega.{arith}
use native.Mathlib.Decide.{dec_lt}
use native.Mathlib.Numerals.{add-one}
use lib.ListN.{length, get_or, get_elem?, take, set, length-set}
use lib.Seq.{get_or-set_same, get_or-set_other, take-length}
use Rattle.std.specs.Prelude.{if◌then◌else◌}
use Rattle.laws.specs.Lists.{member}
use Rattle.ocl.specs.Types.{Ty}
use Rattle.sheet.specs.Text.{Bytes}
use Rattle.sheet.specs.Sheet.{Rule, Sheet}
use Rattle.sheet.specs.Report.{object_lines}
use Rattle.sheet.specs.Rows.{rows_seen}
use Rattle.board.specs.Board.{verdicts_from, renewed_steps}
use Rattle.tables.specs.declared.Counts.{Counts}
use Rattle.tables.proofs.Tables.{kept_refl, kept_then}
use Rattle.rules.specs.Accepted.{Accepted}
use Rattle.report.proofs.ReportLaws.{rule_of}
use Rattle.rows.specs.Bits.{bit}
use Rattle.moves.specs.Joined.{joined, arriving}
use Rattle.renewal.specs.declared.fresh.Sums.{Sums}
use Rattle.renewal.specs.Fresh.{Buffers, KnownAccepted, SomeRule, all_lines, all_steps, AddsFresh, told_lines, told_steps, lines_at, FreshTo, FreshAll}
use Rattle.renewal.proofs.BufferLaws.{buffers_none}

-- ---- all rules

verdicts_at : (s : Sheet) (k : ℕ) (xs : List Rule) (i : ℕ) (x : Rule) → get_elem? xs i ≡ some x → get_or (verdicts_from s k xs) i [] ≡ object_lines s (k + i) x (length s.objects)
unfolding verdicts_from
verdicts_at s k [] i x e = absurd (let z : ◌≡◌ {A = ℕ} 0 1 = cc in omega arith)
verdicts_at s k (y ∷ xs) zero x e = let q : y ≡ x = cc in let z : k + 0 ≡ k = omega arith in rw (q, z)
verdicts_at s k (y ∷ xs) (suc i) x e = let z : k + suc i ≡ suc k + i = omega arith in rw z (verdicts_at s (suc k) xs i x e)

pub lines_at_lem : (s : Sheet) (r : ℕ) (x : Rule) → get_elem? s.rules r ≡ some x → lines_at s r ≡ all_lines r s x
lines_at_lem s r x e = let z : 0 + r ≡ r = omega arith in verdicts_at s 0 s.rules r x e ∙ ap (λ (n : ℕ). object_lines s n x (length s.objects)) z

steps_take : (s : Sheet) (a : ℕ) (xs : List Rule) (i : ℕ) (x : Rule) → get_elem? xs i ≡ some x
    → renewed_steps s a (take (suc i) xs) ≡ renewed_steps s a (take i xs) + (if member a (rows_seen s x) then all_steps s x else 0)
unfolding renewed_steps
steps_take s a [] i x e = absurd (let z : ◌≡◌ {A = ℕ} 0 1 = cc in omega arith)
steps_take s a (y ∷ xs) zero x e = let q : y ≡ x = cc in rw q (omega arith)
steps_take s a (y ∷ xs) (suc i) x e = omega (arith, steps_take s a xs i x e)

-- the first r rules
pub record RulesTo (st : Counts) (w0 w1 : List ℕ) (touched : ℕ) (before after : List ℕ) (buf now : Bytes) (was ends : List ℕ) (r : ℕ) (sums : Sums) : Type 0 where
  pub so : FreshTo r st w0 w1 touched (λ s a. renewed_steps s a (take r s.rules)) before after buf now was ends sums
  pub few_bytes_lem : sums.bytes ≤ 222624 * r
  pub few_steps : sums.steps ≤ 96000000 * r
  pub within : r ≤ st.rules

-- some accepted sheet has rule r
pub some_rule : {st : Counts} {w0 w1 : List ℕ} {r : ℕ} → KnownAccepted st w0 w1 → r < st.rules → SomeRule st w0 w1 r
some_rule k h = let y = rule_of k.accepted h in record { sheet = k.sheet; rule = y.rule; type = y.type; typed = y.is }

module _ {st : Counts} {w0 w1 : List ℕ} {touched : ℕ} where
  pub rules_none : (w2 : List ℕ) (buf : Bytes) (ends : List ℕ) → RulesTo st w0 w1 touched w2 w2 buf buf ends ends 0 (record { bytes = 0; steps = 0 })
  unfolding joined renewed_steps
  rules_none w2 buf ends = record {
    so = record {
      is = λ s ts g. buffers_none buf;
      ended = λ s ts g. record { at = λ r h. absurd (omega arith) };
      added = λ s ts g a z. refl;
      size = refl;
      ends_size = refl;
      kept = kept_refl w2;
    };
    few_bytes_lem = omega arith;
    few_steps = omega arith;
    within = omega arith;
  }

  pub rules_few : {w2 u2 : List ℕ} {buf mid : Bytes} {was ends : List ℕ} {r : ℕ} {m : Sums} → KnownAccepted st w0 w1 → RulesTo st w0 w1 touched w2 u2 buf mid was ends r m
      → (m.bytes ≤ 14247936) × (m.steps ≤ 6144000000)
  rules_few k p = let l = k.accepted.lies.fine.rules in (omega (arith, p.few_bytes_lem, p.within), omega (arith, p.few_steps, p.within))

  pub rules_next : {w2 u2 v2 : List ℕ} {buf mid now : Bytes} {was ends : List ℕ} {r rules : ℕ} {m n : Sums} → RulesTo st w0 w1 touched w2 u2 buf mid was ends r m
      → rules ≡ st.rules → r < rules → 64 ≤ length was → rules ≤ 64
      → AddsFresh (told_lines (bit touched) r) (told_steps (bit touched) r) 222624 96000000 st w0 w1 r m u2 v2 mid now n
      → RulesTo st w0 w1 touched w2 v2 buf now was (set ends r n.bytes) (r + 1) n
  unfolding joined
  rules_next {w2} {u2} {v2} {buf} {mid} {now} {was} {ends} {r} {rules} {m} {n} p count h room few q = rw (add-one r) (record {
    so = record {
      is = held;
      ended = λ s ts g. record { at = λ i l. by s ts g i (dec_lt i r) (omega arith) };
      added = λ s ts g a z.
          let y = rule_of g there in
          q.added s y.rule y.type y.is
          ∙ rw (p.so.added s ts g a z, z.at r y.rule y.is.rule) (sym (steps_take s a s.rules r y.rule y.is.rule));
      size = q.size ∙ p.so.size;
      ends_size = length-set ends r n.bytes ∙ p.so.ends_size;
      kept = kept_then p.so.kept q.kept;
    };
    few_bytes_lem = omega (arith, p.few_bytes_lem, q.few_bytes_lem);
    few_steps = omega (arith, p.few_steps, q.few_steps);
    within = omega arith;
  })
    where
      there : r < st.rules
      there = omega arith

      held : (s : Sheet) (ts : List Ty) → Accepted st w0 w1 s ts → Buffers now (joined (arriving (bit touched) (lines_at s)) (suc r)) n.bytes
      held s ts g =
          let y = rule_of g there in
          rw (lines_at_lem s r y.rule y.is.rule) (q.is s y.rule y.type y.is (joined (arriving (bit touched) (lines_at s)) r) (p.so.is s ts g))

      by : (s : Sheet) (ts : List Ty) (g : Accepted st w0 w1 s ts) (i : ℕ) → Dec (i < r) → i ≤ r
          → get_or (set ends r n.bytes) i 0 ≡ length (joined (arriving (bit touched) (lines_at s)) (suc i))
      by s ts g i (yes l) z = get_or-set_other ends r i n.bytes 0 (λ e. omega arith) ∙ (p.so.ended s ts g).at i l
      by s ts g i (no l) z =
          let e : i ≡ r = omega arith in
          rw e (get_or-set_same ends r n.bytes 0 (omega (arith, p.so.ends_size)) ∙ (held s ts g).long)

  pub rules_all : {w2 u2 : List ℕ} {buf mid : Bytes} {was ends : List ℕ} {r rules : ℕ} {m : Sums} → RulesTo st w0 w1 touched w2 u2 buf mid was ends r m
      → rules ≡ st.rules → rules ≤ r → FreshAll st w0 w1 touched w2 u2 buf mid was ends m
  rules_all {r = r} {rules} p count h =
      let e : r ≡ st.rules = omega (arith, p.within) in
      record {
        is = λ s ts g. rw e at (p.so.is s ts g);
        ended = λ s ts g. rw e at (p.so.ended s ts g);
        added = λ s ts g a z. p.so.added s ts g a z
            ∙ ap (renewed_steps s a) (ap (λ (i : ℕ). take i s.rules) (e ∙ g.lies.holds.counted.rules) ∙ take-length s.rules);
        size = p.so.size;
        ends_size = p.so.ends_size;
        kept = p.so.kept;
      }

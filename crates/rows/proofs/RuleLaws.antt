-- The lines of the rules, one behind the other: a rule's root has the rows that the rule sees. Assumes nothing.
use mathlib.Core.Path.{◌≡◌, refl, sym, ap, ◌∙◌}
use mathlib.Core.Option.{some}
use mathlib.Core.List.{List, ◌++◌}
use Prim.Native.Nat.{ℕ, suc, ◌+◌, ◌*◌, ◌%◌, ◌≤◌, ◌<◌}
use native.Mathlib.Omega.{arith}
use native.Mathlib.Numerals.{add-one}
use lib.ListN.{length, get_or, get_elem?, take}
use lib.Seq.{take-length}
use Rattle.memory.specs.Map as memory
use Rattle.ocl.specs.Types.{Ty}
use Rattle.sheet.specs.Text.{Bytes}
use Rattle.sheet.specs.Sheet.{Rule, Sheet}
use Rattle.sheet.specs.Calls.{marks_of}
use Rattle.sheet.specs.Rows.{rows_seen, rows_line, rows_lines}
use Rattle.sheet.proofs.Unseen.{rows_in_table}
use Rattle.text.specs.Written.{Puts}
use Rattle.text.proofs.WrittenLaws.{puts_nothing, puts_then}
use Rattle.tables.specs.declared.Counts.{Counts}
use Rattle.rules.specs.Accepted.{Accepted, KnownTyped}
use Rattle.rules.proofs.Ready.{ready}
use Rattle.report.proofs.ReportLaws.{lines_take}
use Rattle.rows.specs.Bits.{Bits}
use Rattle.rows.specs.Seen.{RowsMarked, AllSeen}
use Rattle.rows.specs.Lines.{PutsRows, line_of, Rooted, PutsLines}

module _ {st : Counts} {w0 w1 : List ℕ} {s : Sheet} {ts : List Ty} (a : Accepted st w0 w1 s ts) where
  rows_marked : RowsMarked w1 (marks_of s)
  rows_marked = record { at = λ p h. ((ready a.lies).mark p).row ∙ ap (λ (n : ℕ). n % 64) (sym (a.marks.at p h)) }

  -- the word of a rule's root
  pub rule_bits : {w2 : List ℕ} → AllSeen w1 w2 → (r : ℕ) (x : Rule) → get_elem? s.rules r ≡ some x
      → Bits (get_or w2 (get_or w0 (memory.roots + r) 0) 0) (rows_seen s x)
  rule_bits {w2} seen r x e =
      let k = (ready a.lies).rule r x e in
      let b = rw k.body at ((seen (marks_of s) rows_marked).at (get_or w0 (memory.roots + r) 0) k.root) in
      record { is = λ i. b.is i ∙ rows_in_table s a.lies.good a.defined a.typed r x e i }

  line_bits : {w2 : List ℕ} → AllSeen w1 w2 → (r : ℕ) (x : Rule) → get_elem? s.rules r ≡ some x → line_of st.rows r (rows_seen s x) ≡ rows_line s r x
  unfolding line_of rows_line
  line_bits seen r x e = rw a.lies.holds.counted.rows

pub accepted_rooted : {st : Counts} {w0 w1 : List ℕ} {s : Sheet} {ts : List Ty} → Accepted st w0 w1 s ts → Rooted st w0
accepted_rooted a =
    let y = ready a.lies in
    record { rules = a.lies.fine.rules; rows = a.lies.fine.rows; root = λ r h. let x = y.some_rule r h in (y.rule r x.0 x.1).root }

pub rooted : {st : Counts} {w0 w1 w2 : List ℕ} → KnownTyped st w0 w1 w2 → Rooted st w0
rooted k = accepted_rooted k.accepted

pub root_low : {st : Counts} {w0 : List ℕ} {rules r root : ℕ} → Rooted st w0 → rules ≡ st.rules → r < rules → root ≡ get_or w0 (memory.roots + r) 0 → root < 768
root_low {r = r} k e h q = omega (arith, k.root r (omega arith))

-- ---- the lines of the first r rules

abbrev lines_to : Sheet → ℕ → Bytes
lines_to s r = rows_lines s 0 (take r s.rules)

lines_rule : (s : Sheet) (r : ℕ) (x : Rule) → get_elem? s.rules r ≡ some x → lines_to s (suc r) ≡ lines_to s r ++ rows_line s r x
unfolding rows_lines
lines_rule s r x e =
    let z : 0 + r ≡ r = omega arith in
    lines_take (rows_line s) (rows_lines s) (λ k. refl) (λ k y ys. refl) s.rules 0 r x e ∙ ap (λ (n : ℕ). lines_to s r ++ rows_line s n x) z

pub record LinesTo (st : Counts) (w0 w2 : List ℕ) (before now : Bytes) (r end : ℕ) : Type 0 where
  pub is : (w1 : List ℕ) → AllSeen w1 w2 → (s : Sheet) (ts : List Ty) → Accepted st w0 w1 s ts → Puts 0 (lines_to s r) before now end
  pub size : length now ≡ length before
  pub within : end ≤ 195 * r
  pub rules : r ≤ st.rules

module _ {st : Counts} {w0 w2 : List ℕ} where
  pub lines_none : (out : Bytes) → LinesTo st w0 w2 out out 0 0
  unfolding rows_lines
  lines_none out = record { is = λ w1 seen s ts a. puts_nothing 0 out; size = refl; within = omega arith; rules = omega arith }

  module _ {before now : Bytes} {r end rules : ℕ} (so : LinesTo st w0 w2 before now r end) (count : rules ≡ st.rules) (k : Rooted st w0) (room : 12480 ≤ length before) where
    pub line_room : r < rules → end + 195 ≤ length now
    line_room h = omega (arith, so.size, so.within, k.rules)

    pub lines_next : {after : Bytes} {n root : ℕ} → r < rules → root ≡ get_or w0 (memory.roots + r) 0
        → PutsRows (line_of st.rows r) 195 (get_or w2 root 0) end now after n → length after ≡ length now → LinesTo st w0 w2 before after (r + 1) n
    lines_next {after} {n} h e p z = record {
      is = λ w1 seen s ts a.
          let x = (ready a.lies).some_rule r (omega arith) in
          let b = rw (← e) at (rule_bits a seen r x.0 x.1) in
          let y = so.is w1 seen s ts a in
          let l = p.is (rows_seen s x.0) b in
          rw (add-one r, lines_rule s r x.0 x.1, ← line_bits a seen r x.0 x.1) (puts_then y l (omega (arith, y.end, l.end, p.within, so.within, k.rules)));
      size = z ∙ so.size;
      within = omega (arith, p.within, so.within);
      rules = omega arith;
    }

    pub lines_all : rules ≤ r → PutsLines st w0 w2 before now end
    lines_all h =
        let e : r ≡ st.rules = omega (arith, so.rules) in
        record {
          is = λ w1 seen s ts a. rw (ap (λ (n : ℕ). take n s.rules) (e ∙ a.lies.holds.counted.rules) ∙ take-length s.rules) at (so.is w1 seen s ts a);
          within = omega (arith, so.within, so.rules, k.rules);
        }

-- The lines of a rule put once more, object by object. Assumes nothing.
use mathlib.Core.Path.{◌≡◌, refl, ap, ◌∙◌}
use mathlib.Core.List.{List, [], ◌++◌}
use Prim.Native.Nat.{ℕ, zero, suc, ◌+◌, ◌≤◌, ◌<◌}
use native.Mathlib.Omega.{arith}
use native.Mathlib.Decide.{dec_lt}
use native.Mathlib.Numerals.{add-one}
use lib.ListN.{length, take, length-append, length-take}
use lib.Seq.{take-length}
use Rattle.ocl.specs.Types.{Ty}
use Rattle.sheet.specs.Text.{Bytes}
use Rattle.sheet.specs.Sheet.{Rule, Sheet}
use Rattle.sheet.specs.Report.{object_lines}
use Rattle.text.specs.Written.{Puts}
use Rattle.text.proofs.WrittenLaws.{puts_nothing, puts_then}
use Rattle.tables.specs.declared.Counts.{Counts}
use Rattle.tables.specs.Layout.{Kept}
use Rattle.tables.proofs.Tables.{kept_refl, kept_then}
use Rattle.report.specs.Passes.{TypedRule}
use Rattle.renewal.specs.declared.fresh.Sums.{Sums}
use Rattle.renewal.specs.Fresh.{line_for, all_lines, object_step, AddsFresh, RoomAgain, PutsAgain}
use Rattle.renewal.proofs.BufferLaws.{buffers_none}

-- ---- one object

module _ {st : Counts} {w0 w1 : List ℕ} {r : ℕ} (o : ℕ) {w2 v2 : List ℕ} {blank line : Bytes} {sums : Sums}
    (a : AddsFresh (line_for r o) (object_step o) 2319 1000000 st w0 w1 r (record { bytes = 0; steps = 0 }) w2 v2 blank line sums) (long : length blank ≡ 5120) where
  formed : {s : Sheet} {x : Rule} {t : Ty} → TypedRule st w0 w1 r s x t → take sums.bytes line ≡ line_for r o s x
  formed {s} {x} {t} m =
      let b = a.is s x t m [] (buffers_none blank) in
      b.holds sums.bytes (omega (arith, a.few_bytes_lem, a.size)) (omega (arith, b.long)) ∙ rw b.long (take-length (line_for r o s x))

  pub line_size : sums.bytes ≡ length (take sums.bytes line)
  line_size = simp length-take (omega (arith, a.few_bytes_lem, a.size))

  pub line_room : {at room : ℕ} → RoomAgain (line_for r o) st w0 w1 r at room → at + length (take sums.bytes line) ≤ room
  line_room k = omega (arith, k.enough, ap length (formed k.known.typed))

  pub line_again : {at n : ℕ} {out now : Bytes} → Puts at (take sums.bytes line) out now n → length now ≡ length out
      → PutsAgain (line_for r o) st w0 w1 r at w2 v2 out now n
  line_again p same = record { is = λ s x t m. rw (formed m) at p; size = same; kept = a.kept }

-- ---- all objects: the lines of the first o are put

pub record AgainTo (st : Counts) (w0 w1 : List ℕ) (r at : ℕ) (before after : List ℕ) (out now : Bytes) (o end : ℕ) : Type 0 where
  pub is : (s : Sheet) (x : Rule) (t : Ty) → TypedRule st w0 w1 r s x t → Puts at (object_lines s r x o) out now end
  pub size : length now ≡ length out
  pub kept : Kept before after
  pub within : o ≤ st.objects

module _ (s : Sheet) (r : ℕ) (x : Rule) where
  lines_more : (o : ℕ) → object_lines s r x (suc o) ≡ object_lines s r x o ++ line_for r o s x
  unfolding object_lines line_for
  lines_more o = refl

  one_more : (o : ℕ) → length (object_lines s r x (suc o)) ≡ length (object_lines s r x o) + length (line_for r o s x)
  one_more o = ap length (lines_more o) ∙ length-append (object_lines s r x o) (line_for r o s x)

  no_more : (o n : ℕ) → o ≤ n → length (object_lines s r x o) ≤ length (object_lines s r x n)
  no_more o zero h = let e : o ≡ 0 = omega arith in rw e (omega arith)
  no_more o (suc n) h = by (dec_lt n o) (no_more o n)
    where
      by : Dec (n < o) → (o ≤ n → length (object_lines s r x o) ≤ length (object_lines s r x n)) → length (object_lines s r x o) ≤ length (object_lines s r x (suc n))
      by (yes k) ih = let e : o ≡ suc n = omega arith in rw e (omega arith)
      by (no k) ih = omega (arith, ih (omega arith), one_more n)

module _ {st : Counts} {w0 w1 : List ℕ} {r at : ℕ} where
  pub again_none : (w2 : List ℕ) (out : Bytes) → AgainTo st w0 w1 r at w2 w2 out out 0 at
  unfolding object_lines
  again_none w2 out = record { is = λ s x t m. puts_nothing at out; size = refl; kept = kept_refl w2; within = omega arith }

  module _ {w2 u2 : List ℕ} {out mid : Bytes} {o end : ℕ} (so : AgainTo st w0 w1 r at w2 u2 out mid o end) (h : o < st.objects) (k : RoomAgain (all_lines r) st w0 w1 r at (length out)) where
    line_enough : end + length (line_for r o k.known.sheet k.known.rule) ≤ length mid
    line_enough =
        let s = k.known.sheet in
        let x = k.known.rule in
        let m = k.known.typed in
        omega (arith, (so.is s x k.known.type m).end, one_more s r x o, no_more s r x (suc o) (length s.objects) (omega (arith, m.lies.holds.counted.objects)), k.enough, so.size)

    pub again_room : RoomAgain (line_for r o) st w0 w1 r end (length mid)
    again_room = record { known = k.known; enough = line_enough }

    pub again_next : {v2 : List ℕ} {now : Bytes} {n : ℕ} → PutsAgain (line_for r o) st w0 w1 r end u2 v2 mid now n → AgainTo st w0 w1 r at w2 v2 out now (o + 1) n
    again_next {v2} {now} {n} p = record { is = λ s x t m. rw (add-one o) (both s x t m); size = p.size ∙ so.size; kept = kept_then so.kept p.kept; within = omega arith }
      where
        -- the lines of every sheet in the words end at the same places
        both : (s : Sheet) (x : Rule) (t : Ty) → TypedRule st w0 w1 r s x t → Puts at (object_lines s r x (suc o)) out now n
        both s x t m =
            let a = so.is s x t m in
            let b = p.is s x t m in
            rw (lines_more s r x o) (puts_then a b (omega (arith, a.end, b.end, (p.is k.known.sheet k.known.rule k.known.type k.known.typed).end, line_enough, so.size)))

  pub again_all : {w2 u2 : List ℕ} {out mid : Bytes} {o end : ℕ} → AgainTo st w0 w1 r at w2 u2 out mid o end → st.objects ≤ o → PutsAgain (all_lines r) st w0 w1 r at w2 u2 out mid end
  again_all {o = o} so h =
      let e : o ≡ st.objects = omega (arith, so.within) in
      record { is = λ s x t m. rw (e ∙ m.lies.holds.counted.objects) at (so.is s x t m); size = so.size; kept = so.kept }

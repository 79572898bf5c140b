-- What a V line that is taken shows of its slot, whatever other slots there are: and with it the line is taken again among others.
-- Assumes nothing.
use mathlib.Core.Path.{◌≡◌, refl, sym, ◌∙◌, subst}
use mathlib.Core.Bool.{◌&&◌}
use Prim.Native.Nat.{ℕ, ◌+◌, ◌<◌, ◌≤◌}
use borrow.Author.Tests.{lt-ltb, le-leb}
use lib.ListN.{length}
use lib.Dec.{T, leb, ltb}
use Rattle.laws.proofs.Tests.{and_i, and_l, and_r}
use Rattle.ocl.specs.Types.{class}
use Rattle.ocl.specs.Values.{size, every_part}
use Rattle.ocl.specs.Model.{is_a, belongs}
use Rattle.sheet.specs.Lines.{Line, value_line}
use Rattle.sheet.specs.Texts.{on_text}
use Rattle.sheet.specs.Sheet.{Slot, Sheet, model_of, added}
use Rattle.sheet.specs.Limits.{total_size, value_within, within_limits}
use Rattle.sheet.specs.Refusals.{block_of, numbered, in_order, after_slots, ordered, object_below, parts_known, calls_smaller, calls_known, suits, tree_holds}
use Rattle.sheet.specs.Reading.{taken, step_line}
use Rattle.sheet.proofs.Belonging.{belongs_same}
use Rattle.sheet.proofs.NodesRead.{taken_by}
use Rattle.sheet.proofs.Good.{plain}
use Rattle.sheet.proofs.GoodLines.{Met}

-- a slot's V line
abbrev pub line_for : Slot → Line
line_for x = value_line x.object x.row x.value

pub record Fact (s : Sheet) (x : Slot) : Type 0 where
  pub low : T (ltb x.object 96 && ltb x.row 64 && value_within x.value)
  pub members : T (ordered x.value)
  pub parts : T (ltb x.object (length s.objects) && ltb x.row (length s.rows) && every_part (object_below (length s.objects)) x.value)
  pub owner : T (is_a (plain s) x.object (class ((plain s).row x.row).owner))
  pub belong : T (belongs (plain s) ((plain s).row x.row).type x.value)

-- no other field of the sheet plays a part
pub fact_same : (s t : Sheet) (x : Slot) → t.parents ≡ s.parents → t.rows ≡ s.rows → t.objects ≡ s.objects → Fact s x → Fact t x
unfolding plain
fact_same s t x p q r f = record { low = f.low; members = f.members; parts = rw (q, r) f.parts; owner = rw (p, q, r) f.owner; belong = rw (p, q, r) f.belong }

pub fact_of : (s : Sheet) (x : Slot) → Met s (line_for x) → Fact s x
unfolding within_limits in_order numbered parts_known suits model_of plain is_a
fact_of s x m =
    let o = x.object in let a = x.row in let v = x.value in
    let k = and_l (ltb o 96 && ltb a 64 && value_within v && ltb (length s.slots) 1024) (leb (total_size s.slots + size v) 2048) m.limits in
    record {
      low = and_l (ltb o 96 && ltb a 64 && value_within v) (ltb (length s.slots) 1024) k;
      members = and_r (after_slots s.slots o a) (ordered v) (and_r (leb s.block (block_of (line_for x))) _ m.order);
      parts = m.parts;
      owner = and_l (is_a (model_of s) o (class ((model_of s).row a).owner)) _ m.suit;
      belong = subst T (sym (belongs_same (plain s) (model_of s) refl refl ((plain s).row a).type v)) (and_r (is_a (model_of s) o (class ((model_of s).row a).owner)) _ m.suit);
    }

-- where there is room, and no slot comes after it
pub met_by : (s : Sheet) (x : Slot) → s.block ≤ 3 → Fact s x → length s.slots < 1024 → total_size s.slots + size x.value ≤ 2048
    → T (after_slots s.slots x.object x.row) → Met s (line_for x)
unfolding within_limits in_order numbered block_of parts_known calls_smaller calls_known suits tree_holds on_text model_of plain is_a
met_by s x l f n m t =
    let o = x.object in let a = x.row in let v = x.value in
    record {
      brackets = tt;
      sentence = tt;
      limits = and_i (ltb o 96 && ltb a 64 && value_within v && ltb (length s.slots) 1024) (leb (total_size s.slots + size v) 2048)
          (and_i (ltb o 96 && ltb a 64 && value_within v) (ltb (length s.slots) 1024) f.low (subst T (sym (lt-ltb (length s.slots) 1024 n)) tt))
          (subst T (sym (le-leb (total_size s.slots + size v) 2048 m)) tt);
      order = and_i (leb s.block 3) (after_slots s.slots o a && ordered v) (subst T (sym (le-leb s.block 3 l)) tt) (and_i (after_slots s.slots o a) (ordered v) t f.members);
      parts = f.parts;
      smaller = tt;
      known = tt;
      suit = and_i (is_a (model_of s) o (class ((model_of s).row a).owner)) _ f.owner (subst T (belongs_same (plain s) (model_of s) refl refl ((plain s).row a).type v) f.belong);
      tree = tt;
    }

pub met_taken : (s : Sheet) (k : ℕ) (x : Slot) → Met s (line_for x) → step_line s k (line_for x) ≡ taken (added s k (line_for x))
unfolding step_line
met_taken s k x m =
    let l = line_for x in
    taken_by (within_limits s l) 4 _ m.limits ∙ taken_by (in_order s l) 5 _ m.order ∙ taken_by (parts_known s l) 6 _ m.parts ∙ taken_by (calls_smaller s l) 23 _ m.smaller
    ∙ taken_by (calls_known s l) 24 _ m.known ∙ taken_by (suits s l) 7 _ m.suit ∙ taken_by (tree_holds s l) 8 _ m.tree

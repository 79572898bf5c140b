-- The values of members in a row, brought one after the other. Assumes nothing.
use mathlib.Core.Path.{◌≡◌, refl, sym, ap, subst, ◌∙◌}
use mathlib.Core.Option.{some}
use mathlib.Core.List.{List, [], ◌++◌, append_assoc, append-nil}
use Prim.Native.Nat.{ℕ, ◌+◌, ◌<◌, ◌≤◌, max}
use native.Mathlib.Omega.{arith}
use lib.ListN.{length, get_or}
use lib.Seq.{slice, length-slice, get_or-take}
use Rattle.laws.proofs.Slices.{split_left, split_right, slice_join, under_top}
use Rattle.ocl.specs.Values.{Value, obj, Values, nil, cons, size, sizes}
use Rattle.ocl.specs.Model.{Model}
use Rattle.ocl.specs.Operations.{value, value_in_row, values_in_row}
use Rattle.values.specs.Cells.{head, enc, encs, Fits, AllFit, fit_nil, fit_cons}
use Rattle.values.proofs.Encoding.{size_law}
use Rattle.values.proofs.Members.{Left, none_left}
use Rattle.tables.specs.declared.Counts.{Counts}
use Rattle.tables.specs.Stored.{HoldsModel}
use Rattle.outcomes.specs.declared.Ended.{Ended}
use Rattle.outcomes.specs.declared.Ended.TheVariants as ended
use Rattle.outcomes.specs.Answers.{Lies, Ends, ends_value, Under, Ran}
use Rattle.outcomes.specs.Tables.{Plain, RowSlot, SlotHolds, SlotStands}
use Rattle.operations.specs.Collect.{standing, worst, brought, too_many, FewCells, BringsAll}
use Rattle.outcomes.proofs.Words.{under_then, under_down, head_at_lem, Other}
use Rattle.outcomes.proofs.Lookups.{Object, has_object}
use Rattle.operations.proofs.StandingLaws.{standing_least, given_by, all_given, values_cons}
use Rattle.std.specs.Prelude.{Option as Optional, Some, None}

pub no_value : {A : Type 0} (n s : ℕ) → Other (ended.Value n s) → A
no_value n s z = absurd (z n s refl)

-- the value that stands at p, by the answer for it
stood : {v : Value} {p s n t : ℕ} {B A : List ℕ} {r : Ended} → Ran (value v s) p B A r → r ≡ ended.Value n t → Lies v p n A
stood {v} {p} {s} {n} {t} {B} {A} x q = by x.ends q
  where
    by : {r : Ended} → Ends p A (value v s) r → r ≡ ended.Value n t → Lies v p n A
    by (ends_value {len = l} a m) e = let i : l ≡ n = cc in rw i at a

stood_not : {v : Value} {p s : ℕ} {B A : List ℕ} {r : Ended} {X : Type 0} → Ran (value v s) p B A r → Other r → X
stood_not {v} {p} {s} {B} {A} {X = X} x z = by x.ends z
  where
    by : {r : Ended} → Ends p A (value v s) r → Other r → X
    by (ends_value {len = l} a m) z = no_value l s z

-- the first of the members that are left, where each is one cell
record First (S : List ℕ) (q end : ℕ) (rest : Values) : Type 0 where
  w : Value
  ws : Values
  are : rest ≡ cons w ws
  fits : Fits w
  at : get_or S q 0 ≡ head w
  next : size w ≡ 1 → Left S (q + 1) end ws

first_member : {S : List ℕ} {q end : ℕ} {rest : Values} → end ≤ length S → q < end → Left S q end rest → First S q end rest
unfolding encs
first_member {S} {q} {end} {rest} room h l = by rest l.fits l.lies
  where
    by : (rest : Values) → AllFit rest → slice q end S ≡ encs rest → First S q end rest
    by nil f e = absurd (let a = sym (length-slice q end S room) ∙ ap length e in omega arith)
    by (cons w ws) (fit_cons f fs) e =
        let z = size_law w in
        let here = split_left S q end (enc w) (encs ws) room (omega arith) e in
        let lies : Lies w q (size w) S = record { fits = f; long = refl; cells = rw (← z) here } in
        record {
          w = w;
          ws = ws;
          are = refl;
          fits = f;
          at = head_at_lem lies;
          next = λ one. let d : q + length (enc w) ≡ q + 1 = omega arith in record { fits = fs; lies = rw d at (split_right S q end (enc w) (encs ws) room (omega arith) e) };
        }

-- of the values ws, those of the members from q on are to come, and the others stand from end on
pub record Gone (m : Model) (i : ℕ) (ws : Values) (S₀ S : List ℕ) (q end len : ℕ) : Type 0 where
  pub rest : Values
  pub more : Values
  pub kept : Under end S S₀
  pub left : Left S₀ q end rest
  pub fine : worst m i rest ≡ 0
  pub values : values_in_row m i rest ≡ some more
  pub cells : slice end (end + len) S ++ encs more ≡ encs ws
  pub size : len + sizes more ≡ sizes ws
  pub fits : AllFit more → AllFit ws

pub record Bringing (st : Counts) (w0 : List ℕ) (i from end : ℕ) (S₀ S : List ℕ) (q len : ℕ) : Type 0 where
  pub room : end + 256 ≤ length S₀
  pub long : length S ≡ length S₀
  pub below : q ≤ end
  pub small : len ≤ 127
  pub going : (m : Model) → HoldsModel st w0 m → Plain st m → (vs ws : Values) → AllFit vs → slice from end S₀ ≡ encs vs → worst m i vs ≡ 0 → values_in_row m i vs ≡ some ws
      → Gone m i ws S₀ S q end len

module _ {st : Counts} {w0 : List ℕ} {i from end : ℕ} {S₀ S : List ℕ} {q len : ℕ} (G : Bringing st w0 i from end S₀ S q len) (h : q < end) where
  -- the cell at q is below what was brought
  same_cell : Under end S S₀ → get_or S q 0 ≡ get_or S₀ q 0
  same_cell u = sym (get_or-take end S q 0 h) ∙ ap (λ (l : List ℕ). get_or l q 0) u.same ∙ get_or-take end S₀ q 0 h

  -- the member at q is an object, with a value that comes first of those to come
  record Turn (m : Model) (ws : Values) : Type 0 where
    o : ℕ
    v : Value
    others : Values
    more : Values
    kept : Under end S S₀
    fits : Fits (obj o)
    at : get_or S q 0 ≡ head (obj o)
    given : m.value_of o i ≡ some v
    left : Left S₀ (q + 1) end others
    fine : worst m i others ≡ 0
    values : values_in_row m i others ≡ some more
    cells : slice end (end + len) S ++ (enc v ++ encs more) ≡ encs ws
    total : len + (size v + sizes more) ≡ sizes ws
    all : Fits v → AllFit more → AllFit ws

  object_value : (m : Model) (v : Value) (x : Object v) (w : Value) → value_in_row m i v ≡ some w → m.value_of x.o i ≡ some w
  unfolding value_in_row
  object_value m v x w e = sym (ap (value_in_row m i) x.is) ∙ e

  object_size : (v : Value) → Object v → size v ≡ 1
  unfolding size
  object_size v x = ap size x.is

  turn_with : (m : Model) (ws : Values) (x : Gone m i ws S₀ S q end len) (n : First S₀ q end x.rest) → Object n.w → (v : Value) → value_in_row m i n.w ≡ some v
      → (more : Values) → values_in_row m i n.ws ≡ some more → worst m i n.ws ≡ 0 → Turn m ws
  unfolding encs size
  turn_with m ws x n b v e more f z =
      let y : some (cons v more) ≡ some x.more = sym (ap (values_in_row m i) n.are ∙ values_cons m i n.w n.ws v more e f) ∙ x.values in
      let d : cons v more ≡ x.more = cc in
      record {
        o = b.o;
        v = v;
        others = n.ws;
        more = more;
        kept = x.kept;
        fits = subst Fits b.is n.fits;
        at = same_cell x.kept ∙ n.at ∙ ap head b.is;
        given = object_value m n.w b v e;
        left = n.next (object_size n.w b);
        fine = z;
        values = f;
        cells = ap (λ (l : Values). slice end (end + len) S ++ encs l) d ∙ x.cells;
        total = ap (λ (l : Values). len + sizes l) d ∙ x.size;
        all = λ fv fm. x.fits (rw d at (fit_cons fv fm));
      }

  turn_of : (m : Model) (ws : Values) (x : Gone m i ws S₀ S q end len) → First S₀ q end x.rest → Turn m ws
  unfolding worst
  turn_of m ws x n =
      let fine : max (standing m i n.w) (worst m i n.ws) ≡ 0 = ap (worst m i) (sym n.are) ∙ x.fine in
      let a = given_by m i n.w (omega arith) in
      let r = all_given m i n.ws (omega arith) in
      turn_with m ws x n (has_object m i n.w (standing_least m i n.w (omega arith))) a.0 a.1 r.0 r.1 (omega arith)

  turn : (m : Model) (H : HoldsModel st w0 m) (P : Plain st m) (vs ws : Values) → AllFit vs → slice from end S₀ ≡ encs vs → worst m i vs ≡ 0 → values_in_row m i vs ≡ some ws → Turn m ws
  turn m H P vs ws f e z g =
      let x = G.going m H P vs ws f e z g in
      let r = G.room in
      turn_of m ws x (first_member (omega arith) h x.left)

  pub bring_none : {s : ℕ} {x : Optional ℕ} → RowSlot st w0 i (get_or S q 0) x → x ≡ None → BringsAll st w0 i from end s S₀ S (ended.Undef s)
  bring_none F y =
      let a : RowSlot st w0 i (get_or S q 0) None = rw y at F in
      record {
        few = tt;
        is = λ m H P vs ws f e z g. absurd (let t = turn m H P vs ws f e z g in let d = sym (a m H t.o t.fits t.at) ∙ t.given in let n : ◌≡◌ {A = ℕ} 0 1 = cc in omega arith);
      }

  module _ {s j : ℕ} {x : Optional ℕ} {S' : List ℕ} {one : Ended} (F : RowSlot st w0 i (get_or S q 0) x) (y : x ≡ Some j) (D : SlotStands st w0 j (end + len) s S S' one) where
    -- it stands after the others
    stands_there : (m : Model) → HoldsModel st w0 m → Plain st m → (ws : Values) (t : Turn m ws) → Ran (value t.v s) (end + len) S S' one × Fits t.v
    stands_there m H P ws t =
        let a : RowSlot st w0 i (get_or S q 0) (Some j) = rw y at F in
        let b = a.1 m H t.o t.fits t.at in
        let d : some b.0 ≡ some t.v = sym b.1.0 ∙ t.given in
        let e : b.0 ≡ t.v = cc in
        let c : SlotHolds st w0 j t.v = rw e at b.1.1 in
        (D.is t.v c (P.small t.o i t.v t.given), c.fits)

    pub bring_ended : Other one → BringsAll st w0 i from end s S₀ S' one
    bring_ended z = record {
      few = by one z;
      is = λ m H P vs ws f e w g. let t = turn m H P vs ws f e w g in stood_not (stands_there m H P ws t).0 z;
    }
      where
        by : (r : Ended) → Other r → FewCells r
        by (ended.Value n t) z = no_value n t z
        by (ended.Undef t) z = tt
        by ended.Stuck z = tt
        by (ended.Stop c t) z = tt

    module _ {n k : ℕ} (d : one ≡ ended.Value n k) (long : length S' ≡ length S) where
      -- where it stands, and what was there before
      record Stood (m : Model) (ws : Values) (t : Turn m ws) : Type 0 where
        fits : Fits t.v
        length_is : n ≡ size t.v
        kept : Under end S' S₀
        cells : slice end (end + (len + n)) S' ++ encs t.more ≡ encs ws

      stood_there : (m : Model) → HoldsModel st w0 m → Plain st m → (ws : Values) (t : Turn m ws) → Stood m ws t
      stood_there m H P ws t =
          let a = stands_there m H P ws t in
          let l = stood a.0 d in
          let r = G.room in
          let b' = G.small in
          let j' = G.long in
          let assoc : end + len + n ≡ end + (len + n) = omega arith in
          let b = under_top S' S (end + len) end (end + len) (omega arith) a.0.kept.same in
          let c : slice (end + len) (end + (len + n)) S' ≡ enc t.v = rw (← assoc) l.cells in
          record {
            fits = a.1;
            length_is = l.long;
            kept = under_then (under_down (omega arith) a.0.kept) t.kept;
            cells = rw (slice_join S' end (end + len) (end + (len + n)) (omega arith) (omega arith) (omega arith), b, c, append_assoc (slice end (end + len) S) (enc t.v) (encs t.more)) t.cells;
          }

      pub bring_over : 127 < len + n → BringsAll st w0 i from end s S₀ S' (ended.Stop 17 s)
      bring_over o = record {
        few = tt;
        is = λ m H P vs ws f e z g.
            let t = turn m H P vs ws f e z g in
            let u = stood_there m H P ws t in
            let a = t.total in
            let b = u.length_is in
            (u.kept, too_many (omega arith));
      }

      pub bring_again : len + n ≤ 127 → Bringing st w0 i from end S₀ S' (q + 1) (len + n)
      bring_again o = record {
        room = G.room;
        long = long ∙ G.long;
        below = omega arith;
        small = o;
        going = λ m H P vs ws f e z g.
            let t = turn m H P vs ws f e z g in
            let u = stood_there m H P ws t in
            let a = t.total in
            let b = u.length_is in
            record {
              rest = t.others;
              more = t.more;
              kept = u.kept;
              left = t.left;
              fine = t.fine;
              values = t.values;
              cells = u.cells;
              size = omega arith;
              fits = t.all u.fits;
            };
      }

pub bring_end : {st : Counts} {w0 : List ℕ} {i from end : ℕ} {S₀ S : List ℕ} {q len s : ℕ} → Bringing st w0 i from end S₀ S q len → end ≤ q → BringsAll st w0 i from end s S₀ S (ended.Value len s)
unfolding values_in_row encs size
bring_end {i = i} {end = end} {S = S} {len = len} G h = record {
  few = G.small;
  is = λ m H P vs ws f e z g.
      let x = G.going m H P vs ws f e z g in
      let b = G.below in
      let n = none_left x.left (omega arith) in
      let y : some nil ≡ some x.more = sym (ap (values_in_row m i) n) ∙ x.values in
      let d : nil ≡ x.more = cc in
      let c : slice end (end + len) S ++ [] ≡ encs ws = ap (λ (l : Values). slice end (end + len) S ++ encs l) d ∙ x.cells in
      let t : len + 0 ≡ sizes ws = ap (λ (l : Values). len + sizes l) d ∙ x.size in
      (x.kept, brought {n = len} (omega arith) (x.fits (rw d at fit_nil)) (rw append-nil at c));
}

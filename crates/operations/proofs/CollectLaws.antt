-- `collect`: the collection of what the members have in a row, or what ends it before. Assumes nothing.
use mathlib.Core.Path.{◌≡◌}
use mathlib.Core.Bool.{Bool, true, false}
use mathlib.Core.List.{List}
use Prim.Native.Nat.{ℕ, suc, ◌+◌, ◌%◌, ◌<◌, ◌≤◌}
use native.Mathlib.Omega.{arith}
use lib.ListN.{length, get_or}
use lib.Seq.{slice}
use lib.Dec.{ltb}
use borrow.Author.Tests.{lt-leb, lt-ltb, le-ltb}
use Rattle.std.specs.Prelude.{if◌then◌else◌, Option as Optional}
use Rattle.ocl.specs.Types.{Kind, set, sequence, bag, kind_code}
use Rattle.ocl.specs.Values.{coll, Values, nil, size, sizes, add_all}
use Rattle.ocl.specs.Model.{Model, every}
use Rattle.ocl.specs.Forms.{of_members}
use Rattle.ocl.specs.Marks.{row_marked, kind_marked}
use Rattle.ocl.specs.Operations.{stuck, stop, form, has_row, values_in_row, form_all, access}
use Rattle.values.specs.Cells.{encs, AllFit}
use Rattle.values.specs.Meanings.{SortOf, Assembles}
use Rattle.values.proofs.Adding.{header}
use Rattle.values.proofs.Growing.{add_all_sizes}
use Rattle.nodes.specs.Marks.{kind_in}
use Rattle.tables.specs.declared.Counts.{Counts}
use Rattle.tables.specs.Stored.{HoldsModel}
use Rattle.outcomes.specs.declared.Ended.{Ended}
use Rattle.outcomes.specs.declared.Ended.TheVariants as ended
use Rattle.outcomes.specs.Answers.{Ends, ends_undefined, ends_stuck, ends_stop, Under, Ran, SmallAnswer, formed_as}
use Rattle.outcomes.specs.Tables.{Plain, Accesses}
use Rattle.operations.specs.Collect.{worst, WorstOf, Brought, brought, too_many, FewCells, BringsAll}
use Rattle.outcomes.proofs.Words.{under_refl, under_then, under_down, Other, formed_small, formed_ran}
use Rattle.operations.proofs.Sorts.{no_coll, is_coll_lem}
use Rattle.operations.proofs.StandingLaws.{all_have, one_other, all_given, one_lacks}
use Rattle.operations.proofs.BringLaws.{no_value}

-- a Sequence or Bag of more than 127 cells stops
many_stop : (k : Kind) (ws : Values) (s : ℕ) → (k ≡ set → ⊥) → 127 < sizes ws → form (coll k (add_all k ws nil)) s ≡ stop 17 s
unfolding form size
many_stop k ws s n h = let e = add_all_sizes k ws nil n in rw (lt-leb (suc (sizes (add_all k ws nil))) 128 (omega arith))

no_set : (word : ℕ) → kind_in word ≡ set → ⊥
unfolding kind_in
no_set word e = by (ltb (word % 128) 64) e
  where
    by : (b : Bool) → (if b then bag else sequence) ≡ set → ⊥
    by true e = absurd (let z : ◌≡◌ {A = ℕ} 0 1 = cc in omega arith)
    by false e = absurd (let z : ◌≡◌ {A = ℕ} 0 1 = cc in omega arith)

pub kind_low : (word : ℕ) → word % 128 < 64 → 2 ≡ kind_code (kind_in word)
unfolding kind_in kind_code
kind_low word h = rw (lt-ltb (word % 128) 64 h)

pub kind_high : (word : ℕ) → 64 ≤ word % 128 → 1 ≡ kind_code (kind_in word)
unfolding kind_in kind_code
kind_high word h = rw (le-ltb (word % 128) 64 h)

code_small : (k : Kind) → kind_code k < 3
unfolding kind_code
code_small set = omega arith
code_small sequence = omega arith
code_small bag = omega arith

pub kind_small : (word : ℕ) {k : ℕ} → k ≡ kind_code (kind_in word) → k < 3
kind_small word e = let h = code_small (kind_in word) in omega arith

pub few_cells : {r : Ended} {n s : ℕ} → FewCells r → r ≡ ended.Value n s → n ≤ 127
few_cells h e = rw e at h

module _ {st : Counts} {w0 : List ℕ} {mark sp len s t : ℕ} {B : List ℕ} (S : SortOf (get_or B sp 0) t) where
  pub collect_other : t < 3 → Accesses of_members st w0 mark sp len s B B ended.Stuck
  unfolding access
  collect_other h = record {
    small = tt;
    ran = λ m H P k K v l.
        rw (no_coll l S h (λ c vs. if every (has_row m (row_marked k)) vs then form_all (kind_marked k) (values_in_row m (row_marked k) vs) s else stuck)) (record { kept = under_refl; ends = ends_stuck });
  }

  module _ (h : 3 ≤ t) (one : 1 ≤ len) (room : sp + 512 ≤ length B) (few : len ≤ 128) where
    -- the members that lie there, whatever is made of them
    on_members : {A : List ℕ} {r : Ended} → SmallAnswer r
        → ((m : Model) → HoldsModel st w0 m → Plain st m → (vs : Values) → AllFit vs → slice (sp + 1) (sp + len) B ≡ encs vs
        → Ran (if every (has_row m (mark % 64)) vs then form_all (kind_in mark) (values_in_row m (mark % 64) vs) s else stuck) sp B A r)
        → Accesses of_members st w0 mark sp len s B A r
    unfolding access
    on_members sm g = record {
      small = sm;
      ran = λ m H P k K v l.
          let x = is_coll_lem l S h in
          let c = header B sp (sp + len) x.kind x.members (omega arith) (omega arith) (rw x.is at l.cells) in
          rw (x.is, K.row, K.kind) (g m H P x.members x.fits c.cells);
    }

    module _ {w : ℕ} (W : WorstOf st w0 (mark % 64) (sp + 1) (sp + len) B w) where
      pub collect_stuck : 1 < w → Accesses of_members st w0 mark sp len s B B ended.Stuck
      collect_stuck a = on_members tt (λ m H P vs f e.
          let b = W.is m H P vs f e in
          rw (one_other m (mark % 64) vs (omega arith)) (record { kept = under_refl; ends = ends_stuck }))

      pub collect_undefined : w ≡ 1 → Accesses of_members st w0 mark sp len s B B (ended.Undef s)
      collect_undefined a = on_members tt (λ m H P vs f e.
          let b = W.is m H P vs f e in
          rw (all_have m (mark % 64) vs (omega arith), one_lacks m (mark % 64) vs (omega arith)) (record { kept = under_refl; ends = ends_undefined }))

      module _ (a : w ≤ 1) (b : w ≡ 1 → ⊥) {C : List ℕ} {x : Ended} (D : BringsAll st w0 (mark % 64) (sp + 1) (sp + len) s B C x) where
        -- each member has a value, and these were brought
        on_values : {A : List ℕ} {r : Ended} → SmallAnswer r
            → ((ws : Values) → Under (sp + len) C B → Brought (sp + len) s C ws x → Ran (form (coll (kind_in mark) (add_all (kind_in mark) ws nil)) s) sp B A r) → Accesses of_members st w0 mark sp len s B A r
        on_values sm g = on_members sm (λ m H P vs f e.
            let c = W.is m H P vs f e in
            let z : worst m (mark % 64) vs ≡ 0 = omega arith in
            let y = all_given m (mark % 64) vs z in
            let d = D.is m H P vs y.0 f e z y.1 in
            rw (all_have m (mark % 64) vs (omega arith), y.1) (g y.0 d.0 d.1))

        pub collect_over : Other x → Accesses of_members st w0 mark sp len s B C x
        collect_over z = on_values (small x z) (λ ws u d. record { kept = under_down (omega arith) u; ends = by ws x d z })
          where
            small : (r : Ended) → Other r → SmallAnswer r
            small (ended.Value n u) z = no_value n u z
            small (ended.Undef u) z = tt
            small ended.Stuck z = tt
            small (ended.Stop c u) z = tt

            by : (ws : Values) (r : Ended) → Brought (sp + len) s C ws r → Other r → Ends sp C (form (coll (kind_in mark) (add_all (kind_in mark) ws nil)) s) r
            by ws (ended.Value n u) d z = no_value n u z
            by ws (ended.Stop c u) (too_many q) z = rw (many_stop (kind_in mark) ws s (no_set mark) q) ends_stop
            by ws (ended.Undef _) d z = elim d [ ]
            by ws ended.Stuck d z = elim d [ ]

        pub collect_done : {n u kind : ℕ} {A : List ℕ} (f : Optional ℕ) {r : Ended} → x ≡ ended.Value n u → length C ≡ length B → kind ≡ kind_code (kind_in mark) → Assembles kind sp (sp + len) (sp + len + n) C A f → r ≡ formed_as f u
            → Accesses of_members st w0 mark sp len s B A r
        collect_done {n} {u} {A = A} f e long k M q = rw q (on_values (formed_small f u M.small) (λ ws i d. by x e ws i d))
          where
            by : (y : Ended) → y ≡ ended.Value n u → (ws : Values) → Under (sp + len) C B → Brought (sp + len) s C ws y → Ran (form (coll (kind_in mark) (add_all (kind_in mark) ws nil)) s) sp B A (formed_as f u)
            by y e ws i (brought {n = j} g fs c) =
                let v : j ≡ n = cc in
                let z : s ≡ u = cc in
                let o = formed_ran C s (omega arith) (M.is (kind_in mark) ws k fs (rw v at c)) in
                rw (← z) (record { kept = under_then o.kept (under_down (omega arith) i); ends = o.ends })
            by y e ws i (too_many g) = absurd (let z : ◌≡◌ {A = ℕ} 0 1 = cc in omega arith)

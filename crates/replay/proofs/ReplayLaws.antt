-- The slots of a board and an edit's own, one after the other: the answers of `replay`. Assumes nothing.
use mathlib.Core.Path.{◌≡◌, refl, sym, ap, ◌∙◌, subst}
use mathlib.Core.List.{List, [], ◌∷◌, ◌++◌}
use Prim.Native.Nat.{ℕ, ◌<◌, ◌≤◌}
use native.Mathlib.Omega.{arith}
use lib.ListN.{get_or}
use Rattle.laws.proofs.Lists.{each_imp}
use Rattle.ocl.specs.Types.{Ty}
use Rattle.sheet.specs.Text.{Bytes}
use Rattle.sheet.specs.Sheet.{Slot, Sheet}
use Rattle.sheet.specs.Reading.{Step, taken, refuse, step_line}
use Rattle.board.specs.Edits.{slot_for}
use Rattle.board.specs.Laws.{on_taken, take_slots}
use Rattle.board.proofs.Facts.{line_for}
use Rattle.board.proofs.AsLines.{taken_same, not_taken}
use Rattle.tables.specs.declared.Counts.{Counts}
use Rattle.tables.specs.Layout.{Holds, Moved, moved_next, moved_refused}
use Rattle.tables.proofs.Tables.{kept_refl, kept_then}
use Rattle.slots.specs.Slots.{SmallRows}
use Rattle.rules.specs.Accepted.{Accepted}
use Rattle.replay.specs.Slots.{Lying, SlotsAt, FirstFrom, after_in, SlotsReplayed}
use Rattle.replay.specs.Judging.{OwnTook}
use Rattle.replay.specs.Replays.{Parted, Spelled, Comes, comes_next, comes_stop, Replaying}
use Rattle.replay.proofs.TakingLaws.{stop_next, rows_more, Onward, onward, stopped}
use Rattle.replay.proofs.FoundLaws.{first_same}
use Rattle.std.specs.Prelude.{Result, Ok, Err}
use Rattle.memory.specs.declared.refusals.Refusal.{Refusal}
use Rattle.memory.specs.declared.refusals.Refusal.TheVariants.{OverMeasure}

-- ---- slots one after the other

rows_taken : (xs : List Slot) (s t : Sheet) → take_slots s xs ≡ taken t → SmallRows s → SmallRows t
unfolding take_slots on_taken
rows_taken [] s t e m = subst SmallRows (taken_same e) m
rows_taken (x ∷ xs) s t e m = by (step_line s 1 (line_for x)) refl e (rows_taken xs)
  where
    by : (y : Step) → step_line s 1 (line_for x) ≡ y → on_taken y (λ u. take_slots u xs) ≡ taken t → ((u v : Sheet) → take_slots u xs ≡ taken v → SmallRows u → SmallRows v) → SmallRows t
    by (taken u) q e go = go u t e (rows_more s x q m)
    by (refuse n) q e go = not_taken e

take_append : (xs ys : List Slot) (s : Sheet) → take_slots s (xs ++ ys) ≡ on_taken (take_slots s xs) (λ t. take_slots t ys)
unfolding take_slots on_taken
take_append [] ys s = refl
take_append (x ∷ xs) ys s = by (step_line s 1 (line_for x)) (take_append xs ys)
  where
    by : (y : Step) → ((u : Sheet) → take_slots u (xs ++ ys) ≡ on_taken (take_slots u xs) (λ t. take_slots t ys))
        → on_taken y (λ t. take_slots t (xs ++ ys)) ≡ on_taken (on_taken y (λ t. take_slots t xs)) (λ t. take_slots t ys)
    by (taken u) h = h u
    by (refuse n) h = refl

then_taken : (s t : Sheet) (xs ys : List Slot) → take_slots s xs ≡ taken t → take_slots s (xs ++ ys) ≡ take_slots t ys
unfolding on_taken
then_taken s t xs ys e = take_append xs ys s ∙ ap (λ y. on_taken y (λ t. take_slots t ys)) e

then_refused : (s : Sheet) (xs ys : List Slot) {n : ℕ} → take_slots s xs ≡ refuse n → take_slots s (xs ++ ys) ≡ refuse n
unfolding on_taken
then_refused s xs ys e = take_append xs ys s ∙ ap (λ y. on_taken y (λ t. take_slots t ys)) e

comes : {w0 w1 : List ℕ} {r : Result Counts Refusal} {y : Step} → Moved w0 w1 r y → Comes w0 w1 r y
comes (moved_next f h) = comes_next f h
comes moved_refused = comes_stop

comes_refused : {w0 w1 : List ℕ} {e : Refusal} {n : ℕ} {y : Step} → y ≡ refuse n → Comes w0 w1 (Err e) y
comes_refused q = rw q comes_stop

-- ---- a sheet lies there

-- an accepted sheet lies in the words
pub lying_accepted : {st : Counts} {w0 w1 : List ℕ} {s : Sheet} {ts : List Ty} → Accepted st w0 w1 s ts → Lying st w0
lying_accepted {w1 = w1} {s} a = record {
  w1 = w1;
  sheet = s;
  holds = a.lies.holds;
  small = record { rows = each_imp (λ x k. k.low_row) a.lies.good.slots };
  fine = a.lies.fine;
}

pub lying_slots : {words : List ℕ} {n from to : ℕ} {st su : Counts} {w0 v0 : List ℕ} {r : Result Counts Refusal} → Lying st w0 → ((w1 : List ℕ) → SlotsReplayed words n from to st r w0 w1 v0)
    → r ≡ Ok su → Lying su v0
lying_slots {st = st} {su} {w0} {v0} y took e =
    let x = (took y.w1).found e in
    let p = onward (subst (λ c. Moved v0 y.w1 c (take_slots y.sheet x.0)) e ((took y.w1).is y.sheet x.0 y.holds y.small x.1)) in
    record { w1 = y.w1; sheet = p.sheet; holds = p.holds; small = rows_taken x.0 y.sheet p.sheet p.is y.small; fine = p.fine }

pub lying_own : {line : Bytes} {st su : Counts} {w0 v0 : List ℕ} {r : Result Counts Refusal} → Lying st w0 → Spelled line → ((w1 : List ℕ) → OwnTook line st r w0 w1 v0)
    → r ≡ Ok su → Lying su v0
lying_own {st = st} {su} {w0} {v0} y l took e =
    let own = slot_for l.edit.object l.edit.row l.edit.value in
    let p = onward (subst (λ c. Moved v0 y.w1 c (take_slots y.sheet own)) e ((took y.w1).is y.sheet l.edit y.holds y.small l.is)) in
    record { w1 = y.w1; sheet = p.sheet; holds = p.holds; small = rows_taken own y.sheet p.sheet p.is y.small; fine = p.fine }

-- ---- `replay`

pub replay_many : {line : Bytes} {key : ℕ} {words : List ℕ} {st : Counts} {w0 : List ℕ} {n : ℕ} → n ≡ get_or words 0 0 → 1024 < n → (w1 : List ℕ) → Replaying line key words st (Err OverMeasure) w0 w1 w0
replay_many {w0 = w0} e h w1 = record { is = λ s x xs ys g m q p. absurd (let f = p.few in omega arith); found = λ q. stop_next q; kept = kept_refl w0 }

same_place : {words : List ℕ} {key n p : ℕ} {xs ys : List Slot} → n ≡ get_or words 0 0 → FirstFrom words n key p → Parted words key xs ys → SlotsAt words n p 0 xs
same_place {words} {key} {n} {p} {xs} count first h =
    rw count (subst (λ i. SlotsAt words (get_or words 0 0) i 0 xs) (first_same h.first (rw (← count) first)) h.before)

same_after : {words : List ℕ} {key n p q : ℕ} {xs ys : List Slot} → n ≡ get_or words 0 0 → FirstFrom words n key p → q ≡ after_in words n p key → Parted words key xs ys → SlotsAt words n n q ys
same_after {words} {key} {n} {p} {q} {xs} {ys} count first e h =
    rw (e, count) (subst (λ i. SlotsAt words (get_or words 0 0) (get_or words 0 0) (after_in words (get_or words 0 0) i key) ys) (first_same h.first (rw (← count) first)) h.after)

module _ {line : Bytes} {key : ℕ} {words : List ℕ} {st : Counts} {w0 : List ℕ} {n p : ℕ} (count : n ≡ get_or words 0 0) (few : n ≤ 1024) (first : FirstFrom words n key p) where
  module _ {u0 : List ℕ} {r1 : Result Counts Refusal} (took1 : (w1 : List ℕ) → SlotsReplayed words n 0 p st r1 w0 w1 u0) where
    pub replay_first : {k : Refusal} → r1 ≡ Err k → (w1 : List ℕ) → Replaying line key words st (Err k) w0 w1 u0
    replay_first {k} e w1 = record {
      is = λ s x xs ys g m q h.
          let z = stopped (subst (λ c. Moved u0 w1 c (take_slots s xs)) e ((took1 w1).is s xs g m (same_place count first h))) in
          comes_refused (then_refused s (xs ++ slot_for x.object x.row x.value) ys (then_refused s xs (slot_for x.object x.row x.value) z));
      found = λ q. stop_next q;
      kept = (took1 w1).kept;
    }

    module _ {a : Counts} (next1 : r1 ≡ Ok a) {v0 : List ℕ} {r2 : Result Counts Refusal} (took2 : (w1 : List ℕ) → OwnTook line a r2 u0 w1 v0) where
      one : (w1 : List ℕ) (s : Sheet) (xs : List Slot) → Holds st w0 w1 s → SmallRows s → SlotsAt words n p 0 xs → Onward u0 w1 a (take_slots s xs)
      one w1 s xs g m h = onward (subst (λ c. Moved u0 w1 c (take_slots s xs)) next1 ((took1 w1).is s xs g m h))

      pub replay_own : {k : Refusal} → r2 ≡ Err k → (w1 : List ℕ) → Replaying line key words st (Err k) w0 w1 v0
      replay_own {k} e w1 = record {
        is = λ s x xs ys g m q h.
            let y = one w1 s xs g m (same_place count first h) in
            let own = slot_for x.object x.row x.value in
            let z = stopped (subst (λ c. Moved v0 w1 c (take_slots y.sheet own)) e ((took2 w1).is y.sheet x y.holds (rows_taken xs s y.sheet y.is m) q)) in
            comes_refused (then_refused s (xs ++ own) ys (then_taken s y.sheet xs own y.is ∙ z));
        found = λ q. stop_next q;
        kept = kept_then (took1 w1).kept (took2 w1).kept;
      }

      pub replay_last : {b : Counts} {q : ℕ} {x0 : List ℕ} {r : Result Counts Refusal} → r2 ≡ Ok b → q ≡ after_in words n p key
          → ((w1 : List ℕ) → SlotsReplayed words n q n b r v0 w1 x0) → (w1 : List ℕ) → Replaying line key words st r w0 w1 x0
      replay_last {b} {q} {x0} {r} next2 after took3 w1 = record {
        is = λ s x xs ys g m i h.
            let y = one w1 s xs g m (same_place count first h) in
            let own = slot_for x.object x.row x.value in
            let k = rows_taken xs s y.sheet y.is m in
            let z = onward (subst (λ c. Moved v0 w1 c (take_slots y.sheet own)) next2 ((took2 w1).is y.sheet x y.holds k i)) in
            subst (Comes x0 w1 r) (sym (then_taken s z.sheet (xs ++ own) ys (then_taken s y.sheet xs own y.is ∙ z.is)))
            (comes ((took3 w1).is z.sheet ys z.holds (rows_taken own y.sheet z.sheet z.is k) (same_after count first after h)));
        found = λ e.
            let xs = (took1 w1).found next1 in
            let ys = (took3 w1).found e in (
              xs.0,
              (
                ys.0,
                record {
                  few = omega arith;
                  place = p;
                  first = rw (← count) first;
                  before = rw (← count) xs.1;
                  after = subst (λ i. SlotsAt words i i (after_in words i p key) ys.0) count (subst (λ i. SlotsAt words n n i ys.0) after ys.1);
                },
              ),
            );
        kept = kept_then (kept_then (took1 w1).kept (took2 w1).kept) (took3 w1).kept;
      }

-- What fresh lines, places and moves come to: the verdicts after an edit. Assumes nothing.
use mathlib.Core.Path.{◌≡◌, refl, sym, ap, ◌∙◌}
use mathlib.Core.Bool.{Bool, true, false}
use mathlib.Core.Option.{some}
use mathlib.Core.List.{List, [], ◌∷◌, ◌++◌}
use Prim.Native.Nat.{ℕ, zero, suc, ◌+◌, ◌≤◌, ◌<◌}
use native.Mathlib.Omega.{arith}
use native.Mathlib.Nat.{zero-add}
use borrow.Author.Tests.{lt-ltb, le-ltb}
use lib.Dec.{ltb}
use lib.ListN.{length, get_elem?}
use Rattle.std.specs.Prelude.{if◌then◌else◌, Result, Ok, Err}
use Rattle.laws.specs.Lists.{member, concat}
use Rattle.ocl.specs.Types.{Ty}
use Rattle.sheet.specs.Text.{Bytes}
use Rattle.sheet.specs.Sheet.{Rule, Sheet}
use Rattle.sheet.specs.Calls.{refusal, refusal_at, output_after}
use Rattle.sheet.specs.Report.{object_lines}
use Rattle.sheet.specs.Rows.{rows_seen}
use Rattle.text.specs.Written.{put_bytes}
use Rattle.board.specs.Board.{renewed, renewed_steps}
use Rattle.tables.specs.declared.Counts.{Counts}
use Rattle.tables.proofs.Tables.{kept_then}
use Rattle.rules.specs.Accepted.{Accepted}
use Rattle.rules.proofs.Ready.{ready}
use Rattle.report.proofs.SheetLaws.{untouched}
use Rattle.rows.specs.Bits.{bit}
use Rattle.rows.specs.Seen.{SeesAll}
use Rattle.rows.specs.Lines.{Rooted}
use Rattle.rows.proofs.RuleLaws.{accepted_rooted}
use Rattle.moves.specs.Joined.{joined, replaced, EndsAt, start_in, Rising, Stand, Standing, Told, they_stand, none_stand}
use Rattle.moves.specs.Moves.{Places, PlacesAs, fits, too_long}
use Rattle.moves.proofs.JoinedLaws.{joined_same, joined_cons, start_at_lem, rising}
use Rattle.renewal.specs.declared.fresh.Sums.{Sums}
use Rattle.renewal.specs.Touched.{Touches, TellsTouched}
use Rattle.renewal.specs.Fresh.{KnownAccepted, lines_at, FreshAll}
use Rattle.renewal.specs.Spread.{Held, Placing, SomePlacing, Rearranges}
use Rattle.renewal.specs.Renewed.{pieces, written, GivesRenewal, RenewsTouched, Renews}
use Rattle.renewal.specs.Renewed.{too_long as says-long}
use Rattle.renewal.proofs.FreshRuleLaws.{lines_at_lem}
use Rattle.memory.specs.Refusals.{at}
use Rattle.memory.specs.declared.refusals.Refused.{Refused}
use Rattle.memory.specs.declared.refusals.Refusal.TheVariants.{BoardFull, SlipTooLong}

-- ---- lists of pieces

pub concat_joined : (ls : List Bytes) → concat ls ≡ joined (pieces ls) (length ls)
unfolding concat joined
concat_joined [] = refl
concat_joined (l ∷ ls) = ap (λ (b : Bytes). l ++ b) (concat_joined ls) ∙ sym (joined_cons (pieces (l ∷ ls)) (length ls))

module _ (s : Sheet) (a : ℕ) where
  pub renewed_length : (k : ℕ) (xs : List Rule) (ls : List Bytes) → length ls ≡ length xs → length (renewed s a k xs ls) ≡ length xs
  unfolding renewed
  renewed_length k [] ls e = refl
  renewed_length k (x ∷ xs) [] e = absurd (omega arith)
  renewed_length k (x ∷ xs) (l ∷ ls) e = ap suc (renewed_length (suc k) xs ls (omega arith))

  renewed_at : (k : ℕ) (xs : List Rule) (ls : List Bytes) → length ls ≡ length xs → (i : ℕ) (x : Rule) → get_elem? xs i ≡ some x
      → pieces (renewed s a k xs ls) i ≡ (if member a (rows_seen s x) then object_lines s (k + i) x (length s.objects) else pieces ls i)
  unfolding renewed
  renewed_at k [] ls e i x q = absurd (let z : ◌≡◌ {A = ℕ} 0 1 = cc in omega arith)
  renewed_at k (y ∷ xs) [] e i x q = absurd (omega arith)
  renewed_at k (y ∷ xs) (l ∷ ls) e zero x q = let p : y ≡ x = cc in let z : k + 0 ≡ k = omega arith in rw (p, z)
  renewed_at k (y ∷ xs) (l ∷ ls) e (suc i) x q = let z : k + suc i ≡ suc k + i = omega arith in rw z (renewed_at (suc k) xs ls (omega arith) i x q)

-- ---- an accepted sheet, and verdicts of its rules

module _ {st : Counts} {w0 w1 : List ℕ} {s : Sheet} {ts : List Ty} (g : Accepted st w0 w1 s ts) {touched a : ℕ} (z : Touches touched s a)
    (ls : List Bytes) (count : length ls ≡ st.rules) where
  abbrev after : List Bytes
  after = renewed s a 0 s.rules ls

  same_count : length ls ≡ length s.rules
  same_count = count ∙ g.lies.holds.counted.rules

  after_count : length after ≡ st.rules
  after_count = renewed_length s a 0 s.rules ls same_count ∙ sym g.lies.holds.counted.rules

  after_at : (r : ℕ) → r < st.rules → pieces after r ≡ replaced (bit touched) (lines_at s) (pieces ls) r
  after_at r h =
      let y = (ready g.lies).some_rule r h in
      let n : 0 + r ≡ r = omega arith in
      renewed_at s a 0 s.rules ls same_count r y.0 y.1
      ∙ rw (n, lines_at_lem s r y.0 y.1, z.at r y.0 y.1)

  pub after_joined : concat after ≡ joined (replaced (bit touched) (lines_at s) (pieces ls)) st.rules
  after_joined = concat_joined after ∙ rw after_count (joined_same (pieces after) (replaced (bit touched) (lines_at s) (pieces ls)) st.rules after_at)

  pub after_ends : {placed : List ℕ} → EndsAt placed (replaced (bit touched) (lines_at s) (pieces ls)) st.rules → EndsAt placed (pieces after) st.rules
  after_ends e = record {
    at = λ r h. e.at r h ∙ ap length (sym (joined_same (pieces after) (replaced (bit touched) (lines_at s) (pieces ls)) (suc r) (λ i l. after_at i (omega arith))));
  }

-- ---- the verdict bytes after the answer

put_first : (n : ℕ) (b out : Bytes) {now : Bytes} → now ≡ put_bytes 0 b out → now ≡ output_after (record { number = 0; steps = n; place = 0; output = b }) out
unfolding output_after
put_first n b out e = e ∙ rw (zero-add (length b))

refused : (refusal 18).number ≡ 0 → ⊥
unfolding refusal refusal_at
refused e = omega arith

-- ---- the rules that the word names

module _ {st : Counts} {w0 w1 w2 v2 : List ℕ} {touched : ℕ} {fresh : List ℕ} {blank buf : Bytes} {none : List ℕ} {sums : Sums}
    (f : FreshAll st w0 w1 touched w2 v2 blank buf none fresh sums) where
  held_by : {s : Sheet} {ts : List Ty} → Accepted st w0 w1 s ts → Held st w0 w1 (bit touched) fresh buf s ts
  held_by {s} {ts} g = record { accepted = g; end = sums.bytes; held = f.is s ts g; ended = f.ended s ts g }

  pub fresh_rises : KnownAccepted st w0 w1 → Rising fresh st.rules
  fresh_rises k = rising (f.ended k.sheet k.types k.accepted)

  module _ {ends : List ℕ} (out : Bytes) {was placed : List ℕ} {rules : ℕ} {b : Bool} (count : rules ≡ st.rules) (p : Places ends fresh rules (bit touched) (length out) was placed b) where
    places_as : {s : Sheet} {ts : List Ty} {old : ℕ → Bytes} → Accepted st w0 w1 s ts → EndsAt ends old st.rules
        → PlacesAs (bit touched) (lines_at s) old st.rules (length out) placed b
    places_as {s} {ts} {old} g e = (rw count at p).is (lines_at s) old e (f.ended s ts g)

    -- they fit
    module _ (good : b ≡ true) where
      placing : {s : Sheet} {ts : List Ty} {old : ℕ → Bytes} → Accepted st w0 w1 s ts → EndsAt ends old st.rules
          → Placing st w0 w1 touched fresh buf placed (length out) s ts old
      placing {s} {ts} {old} g e = by (rw good at (places_as g e))
        where
          by : PlacesAs (bit touched) (lines_at s) old st.rules (length out) placed true → Placing st w0 w1 touched fresh buf placed (length out) s ts old
          by (fits l q) = record { held = held_by g; placed_at = q; fits = l }

      pub some_placing : KnownAccepted st w0 w1 → Standing ends out st.rules → SomePlacing st w0 w1 touched fresh buf placed (length out)
      some_placing k o = record { sheet = k.sheet; types = k.types; old = o.pieces; is = placing k.accepted o.stand.ended }

      pub renewed_written : {x2 : List ℕ} {now : Bytes} {n : ℕ} → Rearranges st w0 w1 touched ends fresh buf placed v2 x2 out now → n ≡ start_in placed rules
          → RenewsTouched st w0 w1 w2 x2 touched ends out now was placed (Ok (n, sums.steps))
      renewed_written {x2} {now} {n} m l = record {
        for = λ s ts g a z ls c stand. gives s ts g a z ls c stand;
        size = m.size;
        placed_size = p.size;
        kept = kept_then f.kept m.kept;
      }
        where
          gives : (s : Sheet) (ts : List Ty) (g : Accepted st w0 w1 s ts) (a : ℕ) (z : Touches touched s a) (ls : List Bytes) (c : length ls ≡ st.rules)
              (stand : Stand ends out (pieces ls) st.rules) → GivesRenewal out now placed st.rules s a ls (Ok (n, sums.steps))
          gives s ts g a z ls c stand =
              let q = placing g stand.ended in
              let all = concat (renewed s a 0 s.rules ls) in
              let e : all ≡ joined (replaced (bit touched) (lines_at s) (pieces ls)) st.rules = after_joined g z ls c in
              let long : length all ≤ length out = omega (arith, ap length e, q.fits) in
              let end : n ≡ length all = l ∙ rw count (start_at_lem q.placed_at st.rules (omega arith)) ∙ ap length (sym e) in
              let test : ltb (length out) (length all) ≡ false = le-ltb (length out) (length all) long in
              let steps = f.added s ts g a z in
              record {
                is = rw (test, ← steps) (written all end);
                output = rw test (put_first (renewed_steps s a s.rules) all out (rw (← e) at (m.is s ts (pieces ls) q stand)));
                ended = λ w. after_ends g z ls c q.placed_at;
              }

    -- or they are too long
    pub renewed_short : b ≡ false → RenewsTouched st w0 w1 w2 v2 touched ends out out was placed (Err (at SlipTooLong 0))
    renewed_short bad = record {
      for = λ s ts g a z ls c stand.
          let test = short g z ls c stand in
          record { is = rw test says-long; output = rw test (untouched out); ended = λ w. absurd (refused (rw test at w)) };
      size = refl;
      placed_size = p.size;
      kept = f.kept;
    }
      where
        short : {s : Sheet} {ts : List Ty} (g : Accepted st w0 w1 s ts) {a : ℕ} (z : Touches touched s a) (ls : List Bytes) (c : length ls ≡ st.rules) → Stand ends out (pieces ls) st.rules
            → ltb (length out) (length (concat (renewed s a 0 s.rules ls))) ≡ true
        short {s} {ts} g {a} z ls c stand = by (rw bad at (places_as g stand.ended))
          where
            by : PlacesAs (bit touched) (lines_at s) (pieces ls) st.rules (length out) placed false → ltb (length out) (length (concat (renewed s a 0 s.rules ls))) ≡ true
            by (too_long l) = lt-ltb (length out) (length (concat (renewed s a 0 s.rules ls))) (omega (arith, ap length (after_joined g z ls c)))

-- ---- the rules that were resolved to the row

module _ {st : Counts} {w0 w1 w2 v2 : List ℕ} {a : ℕ} (sees : SeesAll w1 w2 v2) where
  pub renews : {touched : ℕ} {x2 ends : List ℕ} {out now : Bytes} {was placed : List ℕ} {r : Result (ℕ × ℕ) Refused} → TellsTouched st w0 v2 a touched
      → RenewsTouched st w0 w1 v2 x2 touched ends out now was placed r → Renews st w0 w1 w2 x2 a ends out now was placed r
  renews tells p = record {
    for = λ s ts g ls c stand. p.for s ts g a (tells.is w1 sees.seen s ts g) ls c stand;
    size = p.size;
    placed_size = p.placed_size;
    kept = kept_then sees.kept p.kept;
  }

  pub foreign : {ends : List ℕ} {out : Bytes} {rules : ℕ} {b : Bool} (placed : List ℕ) → rules ≡ st.rules → Told ends out rules b → b ≡ false
      → Renews st w0 w1 w2 v2 a ends out out placed placed (Err (at BoardFull 1))
  foreign {ends} {out} {rules} placed e told bad = record {
    for = λ s ts g ls c stand. absurd (by (rw (e, bad) at told) (pieces ls) stand);
    size = refl;
    placed_size = refl;
    kept = sees.kept;
  }
    where
      by : Told ends out st.rules false → (f : ℕ → Bytes) → Stand ends out f st.rules → ⊥
      by (none_stand h) = h

-- the words can be ends
pub told_standing : {ends : List ℕ} {out : Bytes} {n m : ℕ} {b : Bool} → Told ends out n b → b ≡ true → n ≡ m → Standing ends out m
told_standing {ends} {out} {n} {m} told good e = by (rw (good, e) at told)
  where
    by : Told ends out m true → Standing ends out m
    by (they_stand k) = k

pub rooted_known : {st : Counts} {w0 w1 : List ℕ} → KnownAccepted st w0 w1 → Rooted st w0
rooted_known k = accepted_rooted k.accepted

pub few_rules : {st : Counts} {w0 w1 : List ℕ} {n : ℕ} → n ≡ st.rules → KnownAccepted st w0 w1 → n ≤ 64
few_rules e k = omega (arith, k.accepted.lies.fine.rules)

pub rising_by : {ends : List ℕ} {out : Bytes} {n m : ℕ} → n ≡ m → Standing ends out m → Rising ends n
rising_by e k = rw e (rising k.stand.ended)

pub fresh_rising : {st : Counts} {w0 w1 w2 v2 : List ℕ} {touched : ℕ} {fresh : List ℕ} {blank buf : Bytes} {none : List ℕ} {sums : Sums} {n : ℕ} → n ≡ st.rules
    → FreshAll st w0 w1 touched w2 v2 blank buf none fresh sums → KnownAccepted st w0 w1 → Rising fresh n
fresh_rising e f k = rw e (fresh_rises f k)

-- Fresh lines out of the buffer, or evaluated once more; each rule's lines where they belong. Assumes nothing.
use mathlib.Core.Path.{◌≡◌, refl, sym, ap, ◌∙◌}
use mathlib.Core.Bool.{Bool, true, false}
use mathlib.Core.List.{List}
use Prim.Native.Nat.{ℕ, suc, ◌+◌, ◌-◌, ◌≤◌, ◌<◌}
use native.Mathlib.Omega.{arith}
use lib.ListN.{length, get_or, take, drop}
use lib.Seq.{drop-append_seam}
use Rattle.laws.proofs.Slices.{cut_part}
use Rattle.ocl.specs.Types.{Ty}
use Rattle.sheet.specs.Text.{Bytes}
use Rattle.sheet.specs.Sheet.{Sheet}
use Rattle.text.specs.Written.{put_bytes, Puts}
use Rattle.tables.specs.declared.Counts.{Counts}
use Rattle.tables.specs.Layout.{Kept}
use Rattle.tables.proofs.Tables.{kept_refl, kept_then}
use Rattle.report.proofs.ReportLaws.{rule_of}
use Rattle.rows.specs.Bits.{bit}
use Rattle.moves.specs.Joined.{joined, staying, arriving, replaced, start_in, Standing}
use Rattle.moves.specs.Moves.{part, Gathers}
use Rattle.moves.proofs.JoinedLaws.{joined_length, joined_less, joined_front, piece_in_front, replaced_length, start_at_lem, piece_at, rising}
use Rattle.moves.proofs.SpreadLaws.{SpreadTo, spread_none, spread_next, spread_all}
use Rattle.renewal.specs.Fresh.{all_lines, RoomAgain, PutsAgain, lines_at}
use Rattle.renewal.specs.Spread.{Held, FreshFits, PutsFresh, Placing, SomePlacing, PutsRule, SpreadsRules, Rearranges}
use Rattle.renewal.proofs.FreshRuleLaws.{lines_at_lem}

-- ---- fresh lines

module _ {st : Counts} {w0 w1 fresh : List ℕ} {buf : Bytes} {r : ℕ} (there : r < st.rules) where
  module _ {t : ℕ → Bool} {s : Sheet} {ts : List Ty} (h : Held st w0 w1 t fresh buf s ts) where
    abbrev lines : ℕ → Bytes
    lines = arriving t (lines_at s)

    start_is : start_in fresh r ≡ length (joined lines r)
    start_is = start_at_lem h.ended r (omega arith)

    end_is : get_or fresh r 0 ≡ length (joined lines (suc r))
    end_is = h.ended.at r there

    -- what the buffer holds of rule r
    held_lines : get_or fresh r 0 ≤ length buf - 2560 → 2560 ≤ length buf → t r ≡ true → part (start_in fresh r) (get_or fresh r 0 - start_in fresh r) buf ≡ lines_at s r
    unfolding joined
    held_lines l room e =
        let whole = joined lines st.rules in
        let start = start_in fresh r in
        let end = get_or fresh r 0 in
        let up : start ≤ end = (rising h.ended).at r there in
        let sum : start + (end - start) ≡ end = omega arith in
        let less = joined_less lines (suc r) st.rules (omega arith) in
        let long : end ≤ length whole = omega (arith, end_is) in
        let front : take end buf ≡ joined lines (suc r) = h.held.holds end (omega arith) long ∙ ap (λ (n : ℕ). take n whole) end_is ∙ joined_front lines (suc r) st.rules (omega arith) in
        let chosen : lines r ≡ lines_at s r = rw e in
        sym (cut_part start (end - start) buf (omega arith)) ∙ ap (λ (n : ℕ). drop start (take n buf)) sum ∙ ap (drop start) front
        ∙ ap (λ (n : ℕ). drop n (joined lines (suc r))) start_is ∙ drop-append_seam (joined lines r) (lines r) ∙ chosen

    pub held_part : {start end : ℕ} → start ≡ start_in fresh r → end ≡ get_or fresh r 0 → end ≤ length buf - 2560 → 2560 ≤ length buf → t r ≡ true → part start (end - start) buf ≡ lines_at s r
    held_part p q l room e = rw (p, q) (held_lines (omega arith) room e)

  module _ {at room : ℕ} (k : FreshFits st w0 w1 fresh buf r at room) where
    pub fresh_order : start_in fresh r ≤ get_or fresh r 0
    fresh_order = (rising k.is.ended).at r there

    pub fresh_room : {start end : ℕ} → start ≡ start_in fresh r → end ≡ get_or fresh r 0 → end ≤ length buf - 2560 → 2560 ≤ length buf → at + length (part start (end - start) buf) ≤ room
    fresh_room p q l z = omega (arith, k.enough, ap length (held_part k.is p q l z k.chosen))

    -- the lines are evaluated once more, with room for them
    pub again_fits : RoomAgain (all_lines r) st w0 w1 r at room
    again_fits =
        let y = rule_of k.is.accepted there in
        record {
          known = record { sheet = k.sheet; rule = y.rule; type = y.type; typed = y.is };
          enough = omega (arith, k.enough, ap length (lines_at_lem k.sheet r y.rule y.is.rule));
        }

  pub fresh_held : {at start end n : ℕ} {out now : Bytes} → start ≡ start_in fresh r → end ≡ get_or fresh r 0 → end ≤ length buf - 2560 → 2560 ≤ length buf
      → Puts at (part start (end - start) buf) out now n → length now ≡ length out → (w2 : List ℕ) → PutsFresh st w0 w1 fresh buf r at w2 w2 out now
  fresh_held p q l z put same w2 = record {
    is = λ s ts t h e. rw (held_part h p q l z e) at put.is;
    size = same;
    kept = kept_refl w2;
  }

  pub fresh_again : {at n : ℕ} {w2 v2 : List ℕ} {out now : Bytes} → PutsAgain (all_lines r) st w0 w1 r at w2 v2 out now n
      → PutsFresh st w0 w1 fresh buf r at w2 v2 out now
  fresh_again a = record {
    is = λ s ts t h e. let y = rule_of h.accepted there in rw (lines_at_lem s r y.rule y.is.rule) (a.is s y.rule y.type y.is).is;
    size = a.size;
    kept = a.kept;
  }

-- ---- one rule

module _ {st : Counts} {w0 w1 : List ℕ} {touched : ℕ} {fresh : List ℕ} {buf : Bytes} {placed : List ℕ} {r : ℕ} (there : r < st.rules) where
  module _ {room : ℕ} {s : Sheet} {ts : List Ty} {old : ℕ → Bytes} (p : Placing st w0 w1 touched fresh buf placed room s ts old) where
    abbrev all : ℕ → Bytes
    all = replaced (bit touched) (lines_at s) old

    at-is : start_in placed r ≡ length (joined all r)
    at-is = start_at_lem p.placed_at r (omega arith)

    before_is : start_in fresh r ≡ length (joined (arriving (bit touched) (lines_at s)) r)
    before_is = start_at_lem p.held.ended r (omega arith)

    from_is : start_in placed r - start_in fresh r ≡ length (joined (staying (bit touched) old) r)
    from_is = omega (arith, at-is, before_is, replaced_length (bit touched) (lines_at s) old r)

    size_is : get_or placed r 0 - start_in placed r ≡ length (all r)
    size_is = piece_at p.placed_at r there

    within : length (joined all r) + length (all r) ≤ room
    within = omega (arith, joined_length all r, joined_less all (suc r) st.rules (omega arith), p.fits)

  module _ {room : ℕ} (k : SomePlacing st w0 w1 touched fresh buf placed room) where
    pub rule_order : start_in placed r ≤ get_or placed r 0
    rule_order = (rising k.is.placed_at).at r there

    pub fresh_before : {at first : ℕ} → at ≡ start_in placed r → first ≡ start_in fresh r → first ≤ at
    fresh_before p q = omega (arith, at-is k.is, before_is k.is, replaced_length (bit touched) (lines_at k.sheet) k.old r)

    pub fresh_there : {at : ℕ} {b : Bool} → b ≡ bit touched r → b ≡ true → at ≡ start_in placed r → FreshFits st w0 w1 fresh buf r at room
    fresh_there {at} e q l = record {
      sheet = k.sheet;
      types = k.types;
      told = bit touched;
      is = k.is.held;
      chosen = sym e ∙ q;
      enough = omega (arith, at-is k.is, within k.is, chosen_size);
    }
      where
        chosen_size : length (lines_at k.sheet r) ≡ length (all k.is r)
        chosen_size = rw (sym e ∙ q)

    pub rule_room : {at size : ℕ} → at ≡ start_in placed r → size ≡ get_or placed r 0 - start_in placed r → at + size ≤ room
    rule_room p q = omega (arith, at-is k.is, size_is k.is, within k.is)

  -- fresh lines at their place
  pub rule_fresh : {at : ℕ} {b : Bool} {w2 v2 : List ℕ} {out now : Bytes} → b ≡ bit touched r → b ≡ true → at ≡ start_in placed r
      → PutsFresh st w0 w1 fresh buf r at w2 v2 out now → PutsRule st w0 w1 touched fresh buf placed r w2 v2 out now
  rule_fresh {at} {b} {w2} {v2} {out} {now} e q l f = record { is = λ s ts old p front. by s ts old p; size = f.size; kept = f.kept }
    where
      by : (s : Sheet) (ts : List Ty) (old : ℕ → Bytes) (p : Placing st w0 w1 touched fresh buf placed (length out) s ts old)
          → now ≡ put_bytes (length (joined (replaced (bit touched) (lines_at s) old) r)) (replaced (bit touched) (lines_at s) old r) out
      by s ts old p =
          let chosen : replaced (bit touched) (lines_at s) old r ≡ lines_at s r = rw (sym e ∙ q) in
          rw (chosen, ← at-is p, ← l) (f.is s ts (bit touched) p.held (sym e ∙ q))

  -- old lines moved to their place
  pub rule_moved : {at first size : ℕ} {b : Bool} {out now : Bytes} → b ≡ bit touched r → b ≡ false → at ≡ start_in placed r → first ≡ start_in fresh r
      → size ≡ get_or placed r 0 - start_in placed r → now ≡ put_bytes at (part (at - first) size out) out → length now ≡ length out → (w2 : List ℕ)
      → PutsRule st w0 w1 touched fresh buf placed r w2 w2 out now
  rule_moved {at} {first} {size} {b} {out} {now} e q l m z put same w2 = record { is = by; size = same; kept = kept_refl w2 }
    where
      by : (s : Sheet) (ts : List Ty) (old : ℕ → Bytes) (p : Placing st w0 w1 touched fresh buf placed (length out) s ts old)
          → take (length (joined (staying (bit touched) old) (suc r))) out ≡ joined (staying (bit touched) old) (suc r)
          → now ≡ put_bytes (length (joined (replaced (bit touched) (lines_at s) old) r)) (replaced (bit touched) (lines_at s) old r) out
      by s ts old p front =
          let t = bit touched in
          let kept : replaced t (lines_at s) old r ≡ old r = rw (sym e ∙ q) in
          let stays : staying t old r ≡ old r = rw (sym e ∙ q) in
          let here : at ≡ length (joined (replaced t (lines_at s) old) r) = l ∙ at-is p in
          let start : at - first ≡ length (joined (staying t old) r) = rw (l, m) (from_is p) in
          let long : size ≡ length (old r) = z ∙ size_is p ∙ ap length kept in
          let room : length (joined (staying t old) (suc r)) ≤ length out = omega (arith, replaced_length t (lines_at s) old (suc r), joined_less (replaced t (lines_at s) old) (suc r) st.rules (omega arith), p.fits) in
          let found : part (at - first) size out ≡ old r = rw (start, long) (rw stays at (piece_in_front (staying t old) (suc r) out room front r (omega arith))) in
          put ∙ rw (found, here, kept)

-- ---- all rules: those from r on are where they belong

pub record SpreadFrom (st : Counts) (w0 w1 : List ℕ) (touched : ℕ) (fresh : List ℕ) (buf : Bytes) (placed : List ℕ) (before after : List ℕ) (out now : Bytes) (r : ℕ) : Type 0 where
  pub is : (s : Sheet) (ts : List Ty) (old : ℕ → Bytes) (first : Bytes) → Placing st w0 w1 touched fresh buf placed (length out) s ts old
      → SpreadTo (bit touched) (lines_at s) old st.rules first out st.rules → SpreadTo (bit touched) (lines_at s) old st.rules first now r
  pub size : length now ≡ length out
  pub kept : Kept before after
  pub within : r ≤ st.rules

module _ {st : Counts} {w0 w1 : List ℕ} {touched : ℕ} {fresh : List ℕ} {buf : Bytes} {placed : List ℕ} where
  pub spread_start : {rules : ℕ} (w2 : List ℕ) (out : Bytes) → rules ≡ st.rules → SpreadFrom st w0 w1 touched fresh buf placed w2 w2 out out rules
  spread_start {rules} w2 out e = record { is = λ s ts old first p h. rw e h; size = refl; kept = kept_refl w2; within = omega arith }

  module _ {w2 u2 : List ℕ} {out mid : Bytes} {r : ℕ} (so : SpreadFrom st w0 w1 touched fresh buf placed w2 u2 out mid r) where
    pub still_placing : SomePlacing st w0 w1 touched fresh buf placed (length out) → SomePlacing st w0 w1 touched fresh buf placed (length mid)
    still_placing k = rw so.size k

    pub spread_turn : {v2 : List ℕ} {now : Bytes} → 0 < r → PutsRule st w0 w1 touched fresh buf placed (r - 1) u2 v2 mid now
        → SpreadFrom st w0 w1 touched fresh buf placed w2 v2 out now (r - 1)
    spread_turn {v2} {now} h p = record {
      is = next;
      size = p.size ∙ so.size;
      kept = kept_then so.kept p.kept;
      within = omega (arith, so.within);
    }
      where
        z : r ≡ suc (r - 1)
        z = omega arith

        next : (s : Sheet) (ts : List Ty) (old : ℕ → Bytes) (first : Bytes) → Placing st w0 w1 touched fresh buf placed (length out) s ts old
            → SpreadTo (bit touched) (lines_at s) old st.rules first out st.rules → SpreadTo (bit touched) (lines_at s) old st.rules first now (r - 1)
        next s ts old first q begins =
            let was : SpreadTo (bit touched) (lines_at s) old st.rules first mid (suc (r - 1)) = rw z at (so.is s ts old first q begins) in
            let fits : length (joined (replaced (bit touched) (lines_at s) old) st.rules) ≤ length first = omega (arith, q.fits, begins.size) in
            spread_next fits was (omega (arith, so.within)) (p.is s ts old (rw so.size q) was.front)

    pub spread_done : r ≤ 0 → SpreadsRules st w0 w1 touched fresh buf placed w2 u2 out mid
    spread_done h =
        let z : r ≡ 0 = omega arith in
        record {
          is = λ s ts old first q e l.
              let fits : length (joined (replaced (bit touched) (lines_at s) old) st.rules) ≤ length first = omega (arith, q.fits) in
              spread_all fits (rw z at (so.is s ts old first q (spread_none fits e l)));
          size = so.size;
          kept = so.kept;
        }

pub rearranged : {st : Counts} {w0 w1 : List ℕ} {touched : ℕ} {ends fresh : List ℕ} {buf : Bytes} {placed w2 v2 : List ℕ} {out mid now : Bytes} {rules : ℕ} → rules ≡ st.rules
    → Gathers ends rules (bit touched) out mid → SpreadsRules st w0 w1 touched fresh buf placed w2 v2 mid now
    → Rearranges st w0 w1 touched ends fresh buf placed w2 v2 out now
rearranged {st} {ends = ends} {out = out} {mid} {rules = rules} e g p = record {
  is = λ s ts old q stand. p.is s ts old out (rw g.size q) ((rw e at g).is old stand) g.size;
  size = p.size ∙ g.size;
  kept = p.kept;
}

pub gathered_placing : {st : Counts} {w0 w1 : List ℕ} {touched : ℕ} {ends fresh : List ℕ} {buf : Bytes} {placed : List ℕ} {t : ℕ → Bool} {out mid : Bytes} {rules : ℕ}
    → Gathers ends rules t out mid → SomePlacing st w0 w1 touched fresh buf placed (length out) → SomePlacing st w0 w1 touched fresh buf placed (length mid)
gathered_placing g k = rw g.size k

pub standing_by : {ends : List ℕ} {out : Bytes} {n m : ℕ} → n ≡ m → Standing ends out m → Standing ends out n
standing_by e k = rw e k

-- An edit of a board: renewed and stored, too long, or refused. Assumes nothing.
use mathlib.Core.Path.{◌≡◌, refl, sym, ap, ◌∙◌}
use mathlib.Core.Option.{some}
use mathlib.Core.List.{List, ◌++◌}
use Prim.Native.Nat.{ℕ, ◌≤◌, ◌<◌}
use mathlib.Core.Logic.{◌≢◌}
use native.Mathlib.Omega.{arith}
use borrow.Author.Tests.{eq-eqb, ne_eqb}
use lib.ListN.{length, take, drop}
use Rattle.memory.specs.Map as memory
use Rattle.ocl.specs.Types.{Ty}
use Rattle.sheet.specs.Text.{Bytes}
use Rattle.sheet.specs.Sheet.{Slot, Sheet}
use Rattle.sheet.specs.Calls.{Verdict, refusal, refusal_at, output_after}
use Rattle.board.specs.Edits.{Edit, read_edit, edited, with_slots}
use Rattle.board.specs.Board.{Board, all_verdicts, valued, renewed, after}
use Rattle.board.specs.Calls.{answered, edit_on, after_line, board_after}
use Rattle.board.specs.Laws.{edit_number, EditEnds, short_lent, refused_edit, too_long, answered_edit}
use Rattle.board.proofs.Ends.{ends_on}
use Rattle.tables.specs.declared.Counts.{Counts}
use Rattle.tables.proofs.Tables.{kept_refl}
use Rattle.rules.specs.Accepted.{Accepted}
use Rattle.board_words.specs.Layout.{board_words, BoardLies, StoresBoard}
use Rattle.replay.specs.Replays.{ReplayedAs, refused as not_made, replayed, Replays}
use Rattle.renewal.specs.Fresh.{KnownAccepted}
use Rattle.renewal.specs.Renewed.{renewal, SaysRenewal, GivesRenewal, Renews}
use Rattle.renewal.specs.Renewed.{written as renewal-written, too_long as renewal-short}
use Rattle.renewal.proofs.RenewalLaws.{renewed_length}
use Rattle.editing.specs.Edited.{SaysEdit, written, refused, VerdictsLie, GivesEdit, RenewsBoard, EditsBoard}
use Rattle.editing.proofs.EndLaws.{ends_taken, verdicts_stand}
use Rattle.std.specs.Prelude.{Result, Ok, Err}
use Rattle.memory.specs.Refusals.{number, at}
use Rattle.memory.specs.declared.refusals.Refusal.{Refusal}
use Rattle.memory.specs.declared.refusals.Refusal.TheVariants.{SlipTooLong}
use Rattle.memory.specs.declared.refusals.Refused.{Refused}

-- ---- verdicts renewed, and the board stored

says_written : {n k : ℕ} {v : Verdict} → SaysRenewal (Ok (n, k)) v → SaysEdit (Ok (n, k)) v
says_written (renewal-written b e) = written b e

number_written : {n k : ℕ} {v : Verdict} → SaysRenewal (Ok (n, k)) v → v.number ≡ 0
number_written (renewal-written b e) = refl

says_refused : {x : Refused} {v : Verdict} → SaysRenewal (Err x) v → (x ≡ at SlipTooLong 0) × (v ≡ refusal 18)
says_refused renewal-short = (refl, refl)

-- a refusal leaves the board
refused_board : (n k : ℕ) (laid words : List ℕ) → n ≢ 0 → words ≡ board_after (refusal_at n k) laid words
unfolding board_after refusal_at
refused_board n k laid words h = rw (ne_eqb n 0 h)

stored_board : (v : Verdict) (laid words : List ℕ) {after : List ℕ} → v.number ≡ 0 → after ≡ laid ++ drop 8192 words → after ≡ board_after v laid words
unfolding board_after
stored_board v laid words e q = q ∙ rw (eq-eqb v.number 0 e)

module _ {st : Counts} {w0 w1 u2 v2 : List ℕ} {a : ℕ} (words : List ℕ) {out now : Bytes} {was placed : List ℕ} {r : Result (ℕ × ℕ) Refused}
    (k : KnownAccepted st w0 w1) (d : Renews st w0 w1 u2 v2 a (take 64 (drop memory.board_ends words)) out now was placed r) where
  few : st.rules ≤ 64
  few = k.accepted.lies.fine.rules

  given : {s : Sheet} {ts : List Ty} → Accepted st w0 w1 s ts → (ls : List Bytes) → VerdictsLie st.rules words out ls → GivesRenewal out now placed st.rules s a ls r
  given {s} {ts} g ls lie = d.for s ts g ls lie.count (verdicts_stand lie few)

  pub board_renewed : {n steps : ℕ} {after : List ℕ} → r ≡ Ok (n, steps) → 64 ≤ length placed
      → ((x1 : List ℕ) → StoresBoard st w0 x1 placed words after) → length after ≡ length words
      → RenewsBoard st w0 w1 u2 v2 a words after out now (Ok (n, steps))
  board_renewed {n} {steps} {after} e room stores size = record {
    for = gives;
    words_size = size;
    out_size = d.size;
    kept = d.kept;
  }
    where
      gives : (s : Sheet) (ts : List Ty) → Accepted st w0 w1 s ts → (ls : List Bytes) → VerdictsLie st.rules words out ls
          → GivesEdit (renewal (length out) s a ls) (board_words (record { slots = s.slots; verdicts = renewed s a 0 s.rules ls })) (Ok (n, steps)) words after out now
      gives s ts g ls lie =
          let p = given g ls lie in
          let says : SaysRenewal (Ok (n, steps)) (renewal (length out) s a ls) = rw e at p.is in
          let zero = number_written says in
          let rules = g.lies.holds.counted.rules in
          let ends = ends_taken (renewed s a 0 s.rules ls) (renewed_length s a 0 s.rules ls (lie.count ∙ rules) ∙ sym rules) (omega (arith, few)) (p.ended zero) in
          record {
            is = says_written says;
            board = stored_board (renewal (length out) s a ls) _ words zero ((stores w1).is s (renewed s a 0 s.rules ls) g.lies.holds ends);
            output = p.output;
          }

  pub board_refused : {x : Refused} → r ≡ Err x → RenewsBoard st w0 w1 u2 v2 a words words out now (Err x)
  unfolding refusal
  board_refused e = record {
    for = λ s ts g ls lie.
        let p = given g ls lie in
        let q = says_refused (rw e at p.is) in
        record { is = rw (q.0, q.1) refused; board = rw q.1 (refused_board 18 0 _ words (λ z. omega arith)); output = p.output };
    words_size = refl;
    out_size = d.size;
    kept = d.kept;
  }

-- ---- the edit made, or refused

place_of : Verdict → ℕ
place_of v = v.place

number_of : Verdict → ℕ
number_of v = v.number

not-zero : {v : Verdict} → EditEnds v → {n : ℕ} → v ≡ refusal_at n 1 → n ≢ 0
unfolding refusal refusal_at edit_number place_of number_of
not-zero short_lent e z = omega (arith, ap place_of e)
not-zero (refused_edit m t) e z = let q : m ≡ 0 = ap number_of e ∙ z in rw q at t
not-zero too_long e z = omega (arith, ap place_of e)
not-zero (answered_edit m b) e z = omega (arith, ap place_of e)

kept_output : (n k : ℕ) (out : Bytes) → out ≡ output_after (refusal_at n k) out
unfolding output_after refusal_at
kept_output n k out = refl

-- the rules are the sheet's, whatever its slots
same_rules : {st su : Counts} {w0 v0 w1 : List ℕ} {s : Sheet} {ts : List Ty} (xs : List Slot) → Accepted st w0 w1 s ts → Accepted su v0 w1 (valued s xs) ts → su.rules ≡ st.rules
unfolding valued with_slots
same_rules xs g acc = acc.lies.holds.counted.rules ∙ sym g.lies.holds.counted.rules

made_is : (s : Sheet) (b : Board) (i : Edit) (room : ℕ) → answered room s b i ≡ renewal room (valued s (edited b.slots i)) i.row b.verdicts
unfolding answered all_verdicts after valued with_slots
made_is s b i room = refl

made_board : (s : Sheet) (b : Board) (i : Edit)
    → board_words (after s b i)
    ≡ board_words (record {
      slots = (valued s (edited b.slots i)).slots;
      verdicts = renewed (valued s (edited b.slots i)) i.row 0 (valued s (edited b.slots i)).rules b.verdicts;
    })
unfolding after valued with_slots
made_board s b i = refl

edit_is : (line : Bytes) {words : List ℕ} {st su : Counts} {w0 v0 w1 u2 v2 after : List ℕ} {out now : Bytes} {x : Result (ℕ × ℕ) Refused} (i : Edit) → RenewsBoard su v0 w1 u2 v2 i.row words after out now x
    → (s : Sheet) (ts : List Ty) → Accepted st w0 w1 s ts → (b : Board) → VerdictsLie st.rules words out b.verdicts → (xs : List Slot) → read_edit line ≡ some i
    → Accepted su v0 w1 (valued s xs) ts → xs ≡ edited b.slots i → edit_on (length out) s b (read_edit line) ≡ answered (length out) s b i
    → GivesEdit (edit_on (length out) s b (read_edit line)) (board_words (after_line s b (read_edit line))) x words after out now
unfolding after_line
edit_is line {out = out} i p s ts g b lie xs q acc same answers =
    rw (answers ∙ made_is s b i (length out), q, made_board s b i)
    (p.for (valued s (edited b.slots i)) ts (rw same at acc) b.verdicts (rw (same_rules xs g acc) lie))

parts_of : Counts × ℕ → Result (Counts × ℕ) Refusal → Counts × ℕ
parts_of p (Ok q) = q
parts_of p (Err e) = p

same_parts : {st su : Counts} {a b : ℕ} → ◌≡◌ {A = Result (Counts × ℕ) Refusal} (Ok (st, a)) (Ok (su, b)) → (st ≡ su) × (a ≡ b)
unfolding parts_of
same_parts {st} {su} {a} {b} e = let q : ◌≡◌ {A = Counts × ℕ} (st, a) (su, b) = ap (parts_of (st, a)) e in (ap (λ p. p.0) q, ap (λ p. p.1) q)

module _ {line : Bytes} {words : List ℕ} {st : Counts} {w0 v0 w1 : List ℕ} {r : Result (Counts × ℕ) Refusal} (d : Replays line words st w0 w1 v0 r) where
  pub edit_refused : {n : Refusal} → r ≡ Err n → (w2 : List ℕ) (out : Bytes) → EditsBoard line st w0 v0 w1 w2 w2 words words out out (Err (at n 1))
  edit_refused {n} e w2 out = record { for = gives; words_size = refl; out_size = refl; kept0 = d.kept; kept2 = kept_refl w2 }
    where
      gives : (s : Sheet) (ts : List Ty) → Accepted st w0 w1 s ts → (b : Board) → BoardLies words s b → VerdictsLie st.rules words out b.verdicts
          → GivesEdit (edit_on (length out) s b (read_edit line)) (board_words (after_line s b (read_edit line))) (Err (at n 1)) words words out out
      gives s ts g b lies lie = by (d.is s ts g) e
        where
          by : {y : Result (Counts × ℕ) Refusal} → ReplayedAs (read_edit line) words s ts v0 w1 y → y ≡ Err n
              → GivesEdit (edit_on (length out) s b (read_edit line)) (board_words (after_line s b (read_edit line))) (Err (at n 1)) words words out out
          by (replayed i xs q low acc h) z = absurd (let w : ◌≡◌ {A = ℕ} 0 1 = cc in omega arith)
          by (not_made {e = m} h) z =
              let w : m ≡ n = cc in
              let q : edit_on (length out) s b (read_edit line) ≡ refusal_at (number n) 1 = rw w at (h b lies (length out)) in
              record {
                is = rw q refused;
                board = rw q (refused_board (number n) 1 _ words (not-zero (ends_on (length out) s b (read_edit line)) q));
                output = rw q (kept_output (number n) 1 out);
              }

  module _ {su : Counts} {row : ℕ} (e : r ≡ Ok (su, row)) where
    made_known : {y : Result (Counts × ℕ) Refusal} {s : Sheet} {ts : List Ty} → ReplayedAs (read_edit line) words s ts v0 w1 y → y ≡ Ok (su, row) → KnownAccepted su v0 w1 × (row < 64)
    made_known (not_made h) z = absurd (let w : ◌≡◌ {A = ℕ} 0 1 = cc in omega arith)
    made_known {s = s} {ts} (replayed i xs p low g h) z =
        let q = same_parts z in
        (record { sheet = valued s xs; types = ts; accepted = rw q.0 at g }, rw q.1 at low)

    pub edit_known : KnownAccepted st w0 w1 → KnownAccepted su v0 w1
    edit_known k = (made_known (d.is k.sheet k.types k.accepted) e).0

    pub edit_row : KnownAccepted st w0 w1 → row < 64
    edit_row k = (made_known (d.is k.sheet k.types k.accepted) e).1

    pub edit_made : {u2 v2 after : List ℕ} {out now : Bytes} {x : Result (ℕ × ℕ) Refused} → RenewsBoard su v0 w1 u2 v2 row words after out now x
        → EditsBoard line st w0 v0 w1 u2 v2 words after out now x
    edit_made {u2} {v2} {after} {out} {now} {x} p = record { for = gives; words_size = p.words_size; out_size = p.out_size; kept0 = d.kept; kept2 = p.kept }
      where
        gives : (s : Sheet) (ts : List Ty) → Accepted st w0 w1 s ts → (b : Board) → BoardLies words s b → VerdictsLie st.rules words out b.verdicts
            → GivesEdit (edit_on (length out) s b (read_edit line)) (board_words (after_line s b (read_edit line))) x words after out now
        gives s ts g b lies lie = by (d.is s ts g) e
          where
            by : {y : Result (Counts × ℕ) Refusal} → ReplayedAs (read_edit line) words s ts v0 w1 y → y ≡ Ok (su, row)
                → GivesEdit (edit_on (length out) s b (read_edit line)) (board_words (after_line s b (read_edit line))) x words after out now
            by (not_made h) z = absurd (let w : ◌≡◌ {A = ℕ} 0 1 = cc in omega arith)
            by (replayed i xs q low acc h) z =
                let j = same_parts z in
                edit_is line i (rw (sym j.1) at p) s ts g b lie xs q (rw j.0 at acc) (h b lies).0 ((h b lies).1 (length out))

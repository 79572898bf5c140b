-- What is proved of the board and of an edit of it (BoardLaws of specs/Laws.antt). Assumes nothing.
use mathlib.Core.Path.{◌≡◌, refl, sym, ap, ◌∙◌, subst}
use mathlib.Core.Bool.{Bool, true, false, not, ◌&&◌}
use mathlib.Core.Option.{none, some, none-ne-some, some-injective}
use mathlib.Core.List.{List, [], ◌∷◌, ◌++◌, append-nil}
use Prim.Native.Nat.{ℕ, zero, suc, ◌+◌}
use native.Mathlib.Omega.{arith}
use borrow.Author.Tests.{eqb-true}
use lib.ListN.{length, get_elem?}
use lib.Dec.{T, eqb, leb, leb→le}
use Rattle.std.specs.Prelude.{if◌then◌else◌}
use Rattle.laws.specs.Lists.{member, concat, Each}
use Rattle.laws.proofs.Tests.{and_l, and_r, and-true, by-if, test_false}
use Rattle.ocl.specs.Types.{Ty}
use Rattle.sheet.specs.Text.{Bytes, bytes}
use Rattle.sheet.specs.Sheet.{Slot, Rule, Sheet, lookup}
use Rattle.sheet.specs.Limits.{total_size}
use Rattle.sheet.specs.Reading.{sheet_in}
use Rattle.sheet.specs.Calls.{Verdict, refusal, refusal_at, on_accepted}
use Rattle.sheet.specs.Report.{object_lines, rule_lines, fitting}
use Rattle.sheet.specs.Rows.{rows_seen}
use Rattle.sheet.specs.Laws.{Defined, AllTyped}
use Rattle.sheet.proofs.Good.{Good}
use Rattle.sheet.proofs.Acceptance.{accepted_good}
use Rattle.sheet.proofs.Accepted.{AcceptedSheet, accepted_of}
use Rattle.sheet.proofs.Soundness.{sheet_is}
use Rattle.sheet.proofs.NeverStuck.{clean_rules, sound_rules}
use Rattle.sheet.proofs.Clean.{Clean, clean_free}
use Rattle.board.specs.Edits.{Edit, slot_for, slots_before, slots_after, edited, all_edited, with_slots, has_room}
use Rattle.board.specs.Board.{Board, all_verdicts, valued, verdicts_from, made, renewed, after}
use Rattle.board.specs.Calls.{short_board, make_call, After}
use Rattle.board.specs.Laws.{sheet_with, BoardIs, EditIs, BoardLaws}
use Rattle.board.proofs.Cells.{other_cell, own_cell, cleared_same, cleared_count, cleared_size}
use Rattle.board.proofs.Within.{Small, room_of, read_small}
use Rattle.board.proofs.Taken.{slots_taken}
use Rattle.board.proofs.Verdicts.{verdicts_lines, valued_defined, valued_typed, renewed_all, Stands, stands}

-- ---- the sheet of a board that was made

pub record Ready (s : Sheet) : Type 0 where
  pub good : Good s
  pub small : Small s
  pub defined : Each (Defined s) s.definitions
  pub types : List Ty
  pub typed_all : AllTyped s s.rules types

pub ready : (text : Bytes) → AcceptedSheet text → Ready (sheet_in text)
ready text a = subst Ready (sym (sheet_is text a.sheet a.is)) (record {
  good = accepted_good text a.sheet a.is;
  small = read_small text a.sheet a.is;
  defined = a.defined;
  types = a.typing.types;
  typed_all = a.typing.all;
})

pub made_accepted : (text : Bytes) (w0 w1 w2 words : List ℕ) (out : Bytes) → (make_call text w0 w1 w2 words out).number ≡ 0 → AcceptedSheet text
unfolding make_call refusal refusal_at
made_accepted text w0 w1 w2 words out e =
    by-if (λ (v : Verdict). v.number ≡ 0 → AcceptedSheet text) (short_board w0 w1 w2 words out) (refusal 1) (on_accepted text (λ s ts. fitting (length out) (all_verdicts (made s))))
    (λ t q. absurd (omega arith)) (λ t q. accepted_of text (λ s ts. fitting (length out) (all_verdicts (made s))) q) e

-- ---- a rule's verdicts by its number

verdict_at : (u : Sheet) (rs : List Rule) (k i : ℕ) (x : Rule) → get_elem? rs i ≡ some x → get_elem? (verdicts_from u k rs) i ≡ some (object_lines u (k + i) x (length u.objects))
unfolding verdicts_from
verdict_at u [] k i x e = absurd (none-ne-some _ e)
verdict_at u (y ∷ rs) k zero x e = let n : k + zero ≡ k = omega arith in rw n (ap (λ z. some (object_lines u k z (length u.objects))) (some-injective _ _ e))
verdict_at u (y ∷ rs) k (suc i) x e = let n : k + suc i ≡ suc k + i = omega arith in rw n (verdict_at u rs (suc k) i x e)

renewed_kept : (u : Sheet) (a k : ℕ) (rs : List Rule) (ls : List Bytes) (i : ℕ) (x : Rule) → get_elem? rs i ≡ some x → T (not (member a (rows_seen u x)))
    → get_elem? (renewed u a k rs ls) i ≡ get_elem? ls i
unfolding renewed
renewed_kept u a k [] ls i x e n = absurd (none-ne-some _ e)
renewed_kept u a k (y ∷ rs) [] i x e n = refl
renewed_kept u a k (y ∷ rs) (l ∷ ls) zero x e n =
    let z : member a (rows_seen u y) ≡ false = rw (some-injective _ _ e) (test_false (member a (rows_seen u x)) n) in
    ap (λ (b : Bool). some (if b then object_lines u k y (length u.objects) else l)) z
renewed_kept u a k (y ∷ rs) (l ∷ ls) (suc i) x e n = renewed_kept u a (suc k) rs ls i x e n

-- ---- clearing

cleared_is : (xs : List Slot) (e : Edit) → e.value ≡ none → edited xs e ≡ slots_before xs e.object e.row ++ slots_after xs e.object e.row
unfolding edited slot_for
cleared_is xs e n =
    ap (λ v. (slots_before xs e.object e.row ++ slot_for e.object e.row v) ++ slots_after xs e.object e.row) n
    ∙ ap (λ l. l ++ slots_after xs e.object e.row) (append-nil (slots_before xs e.object e.row))

cleared_room : (xs : List Slot) (e : Edit) → T (has_room xs) → e.value ≡ none → T (has_room (edited xs e))
unfolding has_room
cleared_room xs e h n =
    let p = leb→le (length xs) 1024 (and_l (leb (length xs) 1024) (leb (total_size xs) 2048) h) in
    let q = leb→le (total_size xs) 2048 (and_r (leb (length xs) 1024) (leb (total_size xs) 2048) h) in
    subst (λ l. T (has_room l)) (sym (cleared_is xs e n))
    (room_of (slots_before xs e.object e.row ++ slots_after xs e.object e.row) (let c = cleared_count xs e.object e.row in omega arith) (let c = cleared_size xs e.object e.row in omega arith))

board_same : {xs ys : List Slot} {ls ms : List Bytes} → xs ≡ ys → ls ≡ ms → ◌≡◌ {A = Board} (record { slots = xs; verdicts = ls }) (record { slots = ys; verdicts = ms })
board_same {ys} {ls} p q = ap (λ l. record { slots = l; verdicts = ls }) p ∙ ap (λ l. record { slots = ys; verdicts = l }) q

-- ---- the laws

module _ (s : Sheet) (r : Ready s) (es : List Edit) (b : Board) (k : After s es b) where
  pub standing : Stands s es b
  standing = stands s r.good r.small r.defined r.typed_all k

  clean_board : Clean (rule_lines (valued s b.slots) 0 s.rules)
  unfolding valued with_slots
  clean_board = clean_rules (valued s b.slots) 0 s.rules
      (sound_rules (valued s b.slots) standing.good (valued_defined s b.slots r.defined) (valued_typed s b.slots r.typed_all))

  pub verdicts_report : all_verdicts b ≡ rule_lines (valued s b.slots) 0 s.rules
  unfolding all_verdicts
  verdicts_report = ap concat standing.by_rule ∙ verdicts_lines (valued s b.slots) 0 s.rules

  pub is_board : BoardIs s es b
  unfolding sheet_with bytes valued with_slots
  is_board =
      let z : valued s b.slots ≡ valued s (all_edited s.slots es) = ap (valued s) standing.slots in
      record {
        slots = standing.slots;
        report = verdicts_report ∙ ap (λ u. rule_lines u 0 s.rules) z;
        by_rule = standing.by_rule ∙ ap (λ u. verdicts_from u 0 s.rules) z;
        room = standing.room;
        as_lines = slots_taken s b.slots standing.good.ascending standing.room standing.facts;
        not_stuck = λ x y q. clean_free x y clean_board (sym verdicts_report ∙ q);
      }

  module _ (e : Edit) where
    cell : (o i : ℕ) → lookup (edited b.slots e) o i ≡ (if eqb o e.object && eqb i e.row then e.value else lookup b.slots o i)
    unfolding edited valued with_slots
    cell o i = by (eqb o e.object && eqb i e.row) refl
      where
        by : (c : Bool) → (eqb o e.object && eqb i e.row) ≡ c
            → lookup (slots_before b.slots e.object e.row ++ slot_for e.object e.row e.value ++ slots_after b.slots e.object e.row) o i ≡ (if c then e.value else lookup b.slots o i)
        by true q =
            let h = and-true (eqb o e.object) (eqb i e.row) q in
            rw (eqb-true o e.object h.0, eqb-true i e.row h.1) (own_cell e.object e.row e.value b.slots standing.good.ascending)
        by false q = other_cell e.object e.row o i q e.value b.slots

    later : (after s b e).verdicts ≡ verdicts_from (valued s (edited b.slots e)) 0 s.rules
    unfolding after
    later = ap (λ l. renewed (valued s (edited b.slots e)) e.row 0 s.rules l) standing.by_rule ∙ renewed_all s r.defined r.typed_all b.slots standing.good e

    pub is_edit : EditIs s b e
    unfolding after valued with_slots rows_seen
    is_edit = record {
      values = cell;
      again = λ i x q h. ap (λ l. get_elem? l i) later ∙ verdict_at (valued s (edited b.slots e)) s.rules 0 i x q
          ∙ ap (λ (k : ℕ). some (object_lines (valued s (edited b.slots e)) k x (length s.objects))) (let z : 0 + i ≡ i = omega arith in z);
      kept = λ i x q h. renewed_kept (valued s (edited b.slots e)) e.row 0 s.rules b.verdicts i x q h;
      clears_nothing = λ n m.
          let z : edited b.slots e ≡ b.slots = cleared_is b.slots e n ∙ cleared_same b.slots e.object e.row m in
          board_same z (later ∙ ap (λ l. verdicts_from (valued s l) 0 s.rules) z ∙ sym standing.by_rule);
      clears_within = λ n. cleared_room b.slots e standing.room n;
    }

pub board_laws : BoardLaws
board_laws = record {
  board_is = λ text w0 w1 w2 words out e es b k. is_board (sheet_in text) (ready text (made_accepted text w0 w1 w2 words out e)) es b k;
  edit_is = λ text w0 w1 w2 words out e es b k. is_edit (sheet_in text) (ready text (made_accepted text w0 w1 w2 words out e)) es b k;
}

-- An edit's line and its line feed: the answers of `edit_line` and `replay_edit`. Assumes nothing.
use mathlib.Core.Path.{◌≡◌, refl, sym, ap, ◌∙◌, subst}
use mathlib.Core.Bool.{Bool, true, false}
use mathlib.Core.Option.{Option, none}
use mathlib.Core.List.{List, [], ◌∷◌}
use Prim.Native.Nat.{ℕ, ◌+◌, ◌<◌, ◌≤◌}
use native.Mathlib.Omega.{arith}
use borrow.Author.Tests.{eq-eqb, eqb-true}
use lib.ListN.{length, get_or, take, drop, length-drop, drop_of_length-le}
use lib.Dec.{eqb}
use Rattle.std.specs.Prelude.{if◌then◌else◌, Result, Err}
use Rattle.sheet.specs.Text.{Bytes, bytes, onto, split, lines_of, fields_of}
use Rattle.sheet.specs.Lines.{is}
use Rattle.board.specs.Edits.{Edit, edit_of, one_line, read_edit}
use Rattle.board.specs.Calls.{edit_on}
use Rattle.text.specs.Parts.{PartEnd}
use Rattle.text.specs.Words.{byte_kind, only_byte}
use Rattle.text.proofs.PartLaws.{first_part, only_part}
use Rattle.text.proofs.WordLaws.{is_value_line}
use Rattle.tables.specs.declared.Counts.{Counts}
use Rattle.tables.specs.Layout.{Kept}
use Rattle.tables.proofs.Tables.{kept_refl}
use Rattle.replay.specs.Replays.{ReplayedAs, refused, EditTook, Replays}
use Rattle.memory.specs.declared.refusals.Refusal.{Refusal}
use Rattle.memory.specs.declared.refusals.Refusal.TheVariants.{BadLine}

-- ---- the line, and its line feed

-- the letter `V` by its kind
pub value_letter : (fs : List Bytes) {kind : ℕ} → kind ≡ byte_kind (only_byte (get_or fs 0 [])) → kind ≡ 4 → is (get_or fs 0 []) (bytes "V") ≡ true
value_letter fs {kind} e h = is_value_line (get_or fs 0 []) ∙ rw (← e) (eq-eqb kind 4 h)

value_kind : (f : Bytes) → is f (bytes "V") ≡ true → byte_kind (only_byte f) ≡ 4
value_kind f h = eqb-true (byte_kind (only_byte f)) 4 (sym (is_value_line f) ∙ h)

no_edit : (fs : List Bytes) → (is (get_or fs 0 []) (bytes "V") ≡ true → ⊥) → edit_of fs ≡ none
unfolding edit_of
no_edit [] h = refl
no_edit (w ∷ fs) h = by (is w (bytes "V")) refl _
  where
    by : (b : Bool) → is w (bytes "V") ≡ b → (x : Option Edit) → (if b then x else none) ≡ none
    by true e x = absurd (h e)
    by false e x = refl

-- something behind the line feed
second : (l y : Bytes) → one_line (l ∷ [] ∷ split 10 y) ≡ none
unfolding one_line split onto
second l [] = refl
second l (c ∷ y) = by (eqb c 10) (split 10 y)
  where
    by : (t : Bool) (ls : List Bytes) → one_line (l ∷ [] ∷ (if t then [] ∷ ls else onto c ls)) ≡ none
    by true ls = refl
    by false [] = refl
    by false (p ∷ ps) = refl

more : (l y : Bytes) → 0 < length y → one_line (l ∷ split 10 y) ≡ none
unfolding one_line split onto
more l [] h = absurd (omega arith)
more l (b ∷ y) h = by (eqb b 10) (split 10 y) (second l y)
  where
    by : (t : Bool) (ls : List Bytes) → one_line (l ∷ [] ∷ ls) ≡ none → one_line (l ∷ (if t then [] ∷ ls else onto b ls)) ≡ none
    by true ls h = h
    by false [] h = refl
    by false (p ∷ ps) h = refl

pub not_value : {line : Bytes} {words : List ℕ} {st : Counts} {w0 : List ℕ} {kind : ℕ} → kind ≡ byte_kind (only_byte (get_or (fields_of line) 0 [])) → (kind ≡ 4 → ⊥)
    → (w1 : List ℕ) → EditTook line words st (Err BadLine) w0 w1 w0
unfolding edit_on
not_value {line} {words} {st} {w0} e n w1 = record {
  is = λ s ts a. refused (λ b l room. ap (edit_on room s b) (no_edit (fields_of line) (λ h. n (e ∙ value_kind (get_or (fields_of line) 0 []) h))));
  kept = kept_refl w0;
}

module _ {line : Bytes} {words : List ℕ} {st : Counts} {w0 w1 : List ℕ} {e : ℕ} (part : PartEnd 10 line e) where
  unread : {v0 : List ℕ} → Kept w0 v0 → read_edit line ≡ none → Replays line words st w0 w1 v0 (Err BadLine)
  unfolding edit_on
  unread k h = record { is = λ s ts a. refused (λ b l room. ap (edit_on room s b) h); kept = k }

  pub no_feed : length line ≤ e → Replays line words st w0 w1 w0 (Err BadLine)
  unfolding read_edit one_line lines_of
  no_feed h = unread (kept_refl w0) (rw (only_part part h))

  pub two_lines : e + 1 < length line → Replays line words st w0 w1 w0 (Err BadLine)
  unfolding read_edit lines_of
  two_lines h = unread (kept_refl w0) (ap one_line (first_part part (omega arith)) ∙ more (take e line) (drop (e + 1) line) (omega (arith, length-drop (e + 1) line)))

  pub one_line_lem : {v0 : List ℕ} {r : Result (Counts × ℕ) Refusal} → e < length line → length line ≤ e + 1 → EditTook (take e line) words st r w0 w1 v0 → Replays line words st w0 w1 v0 r
  unfolding read_edit one_line lines_of split
  one_line_lem {v0} {r} h l t = record {
    is = λ s ts a. subst (λ x. ReplayedAs x words s ts v0 w1 r) (sym (ap one_line (first_part part h ∙ ap (λ (y : Bytes). take e line ∷ split 10 y) (drop_of_length-le line l)))) (t.is s ts a);
    kept = t.kept;
  }

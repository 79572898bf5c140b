-- A line, the end of a definition or rule before it and the text's end, put together as reading is defined. Assumes nothing.
use mathlib.Core.Path.{◌≡◌, refl, sym, ap, ◌∙◌, subst}
use mathlib.Core.Logic.{◌≢◌}
use mathlib.Core.Bool.{Bool, true, false, ◌||◌}
use mathlib.Core.Option.{Option, none, some}
use mathlib.Core.List.{List, [], ◌∷◌}
use Prim.Native.Nat.{ℕ, suc, ◌+◌, ◌<◌}
use native.Mathlib.Numerals.{add-one}
use native.Mathlib.Omega.{arith}
use borrow.Author.Tests.{eq-eqb, ne_eqb}
use lib.ListN.{length, get_or}
use lib.Dec.{eqb}
use Rattle.sheet.specs.Text.{Bytes, bytes, split, fields_of}
use Rattle.sheet.specs.Lines.{is, line_of, in_body}
use Rattle.laws.proofs.Tests.{or-false, All?, all_some}
use Rattle.laws.proofs.Lists.{each_imp}
use Rattle.sheet.specs.Sheet.{Current, Sheet}
use Rattle.sheet.specs.Reading.{Step, step, Reading, accepted, rejected, on_step, on_end, closing, read_last, read_lines}
use Rattle.sheet.proofs.Good.{Good}
use Rattle.sheet.proofs.Acceptance.{GoodStep, good_step, no_step, good_fields, good_end_rule}
use Rattle.text.specs.Words.{byte_kind, only_byte}
use Rattle.text.proofs.WordLaws.{is_class_line, is_row_line, is_object_line, is_value_line, is_definition_line, is_rule_line, is_node_line, is_text_line}
use Rattle.tables.specs.declared.Counts.{Counts}
use Rattle.tables.specs.Layout.{open_code, Holds, HoldsOpen, closed, opened, Fine, Moved, moved_next, moved_refused, Took}
use Rattle.tables.proofs.Tables.{kept_refl, kept_then}
use Rattle.slots.specs.Slots.{TookSlot}
use Rattle.texts.specs.Judging.{TookText}
use Rattle.trees.specs.Rules.{RuleRoom, EndMoved, ended, RuleEnded}
use Rattle.reader.specs.Meanings.{body_kind, placed_at, GoesOn, goes_on, refuses, TookLine, TookWhole, EndsAs, a_sheet, a_refusal, TookLast}
use Rattle.std.specs.Prelude.{Result, Ok, Err}
use Rattle.memory.specs.Refusals.{at}
use Rattle.memory.specs.declared.refusals.Refusal.{Refusal}
use Rattle.memory.specs.declared.refusals.Refusal.TheVariants.{BadLine}
use Rattle.memory.specs.declared.refusals.Refused.{Refused}

-- ---- the first field's letter

first-is : (fs : List Bytes) → in_body fs ≡ is (get_or fs 0 []) (bytes "N") || is (get_or fs 0 []) (bytes "X")
unfolding in_body is bytes
first-is [] = refl
first-is (w ∷ fs) = refl

pub kind_node : (k : ℕ) → k ≡ 6 → eqb k 6 ≡ body_kind k
unfolding body_kind
kind_node k e = rw (eq-eqb k 6 e)

pub kind_other : (k : ℕ) → (k ≡ 6 → ⊥) → eqb k 9 ≡ body_kind k
unfolding body_kind
kind_other k e = rw (ne_eqb k 6 e)

module _ (fs : List Bytes) (kind : ℕ) (e : kind ≡ byte_kind (only_byte (get_or fs 0 []))) where
  by_kind : in_body fs ≡ body_kind kind
  unfolding body_kind
  by_kind = first-is fs ∙ rw (is_node_line (get_or fs 0 []), is_text_line (get_or fs 0 []), ← e)

  pub in_body_lem : {b : Bool} → b ≡ body_kind kind → b ≡ true → in_body fs ≡ true
  in_body_lem told h = by_kind ∙ sym told ∙ h

  pub not_body : {b : Bool} → b ≡ body_kind kind → b ≡ false → in_body fs ≡ false
  not_body told h = by_kind ∙ sym told ∙ h

  pub node_letter : kind ≡ 6 → is (get_or fs 0 []) (bytes "N") ≡ true
  node_letter h = is_node_line (get_or fs 0 []) ∙ rw (← e) (eq-eqb kind 6 h)

  pub text_letter : body_kind kind ≡ true → (kind ≡ 6 → ⊥) → is (get_or fs 0 []) (bytes "X") ≡ true
  text_letter h n = is_text_line (get_or fs 0 []) ∙ rw (← e) (kind_other kind n ∙ h)

  pub class_letter : kind ≡ 1 → is (get_or fs 0 []) (bytes "C") ≡ true
  class_letter h = is_class_line (get_or fs 0 []) ∙ rw (← e) (eq-eqb kind 1 h)

  pub row_letter : kind ≡ 2 → is (get_or fs 0 []) (bytes "A") ≡ true
  row_letter h = is_row_line (get_or fs 0 []) ∙ rw (← e) (eq-eqb kind 2 h)

  pub object_letter : kind ≡ 3 → is (get_or fs 0 []) (bytes "O") ≡ true
  object_letter h = is_object_line (get_or fs 0 []) ∙ rw (← e) (eq-eqb kind 3 h)

  pub value_letter : kind ≡ 4 → is (get_or fs 0 []) (bytes "V") ≡ true
  value_letter h = is_value_line (get_or fs 0 []) ∙ rw (← e) (eq-eqb kind 4 h)

  pub rule_letter : kind ≡ 5 → is (get_or fs 0 []) (bytes "R") ≡ true
  rule_letter h = is_rule_line (get_or fs 0 []) ∙ rw (← e) (eq-eqb kind 5 h)

  pub definition_letter : kind ≡ 8 → is (get_or fs 0 []) (bytes "D") ≡ true
  definition_letter h = is_definition_line (get_or fs 0 []) ∙ rw (← e) (eq-eqb kind 8 h)

-- a first field that is no line's letter
no_line : (fs : List Bytes) → is (get_or fs 0 []) (bytes "C") ≡ false → is (get_or fs 0 []) (bytes "A") ≡ false → is (get_or fs 0 []) (bytes "O") ≡ false
    → is (get_or fs 0 []) (bytes "V") ≡ false → is (get_or fs 0 []) (bytes "D") ≡ false → is (get_or fs 0 []) (bytes "R") ≡ false → is (get_or fs 0 []) (bytes "N") ≡ false
    → is (get_or fs 0 []) (bytes "X") ≡ false → line_of fs ≡ none
unfolding line_of
no_line [] a b c d e f g h = refl
no_line (w ∷ fs) a b c d e f g h = rw (a, b, c, d, e, f, g, h)

pub unknown_line : (fs : List Bytes) (kind : ℕ) → kind ≡ byte_kind (only_byte (get_or fs 0 [])) → kind ≢ 1 → kind ≢ 2 → kind ≢ 3 → kind ≢ 4 → kind ≢ 5 → kind ≢ 8 → body_kind kind ≡ false → line_of fs ≡ none
unfolding body_kind
unknown_line fs kind e a b c d f i g =
    let n = or-false (eqb kind 6) (eqb kind 9) g in
    no_line fs
    (is_class_line (get_or fs 0 []) ∙ rw (← e) (ne_eqb kind 1 a)) (is_row_line (get_or fs 0 []) ∙ rw (← e) (ne_eqb kind 2 b))
    (is_object_line (get_or fs 0 []) ∙ rw (← e) (ne_eqb kind 3 c)) (is_value_line (get_or fs 0 []) ∙ rw (← e) (ne_eqb kind 4 d))
    (is_definition_line (get_or fs 0 []) ∙ rw (← e) (ne_eqb kind 8 i)) (is_rule_line (get_or fs 0 []) ∙ rw (← e) (ne_eqb kind 5 f))
    (is_node_line (get_or fs 0 []) ∙ rw (← e) n.0) (is_text_line (get_or fs 0 []) ∙ rw (← e) n.1)

-- ---- a line and the end of a definition or rule before it

pub by_any : {st : Counts} {k : ℕ} {line : Bytes} {r : Result Counts Refusal} {w0 w1 v0 v1 : List ℕ} → Took st k line r w0 w1 v0 v1 → TookLine st k line r w0 w1 v0 v1
by_any t = record { is = λ s h m. t.is s h; kept0 = t.kept0; kept1 = t.kept1 }

pub by_slot : {st : Counts} {k : ℕ} {line : Bytes} {r : Result Counts Refusal} {w0 w1 v0 v1 : List ℕ} → TookSlot st k line r w0 w1 v0 v1 → TookLine st k line r w0 w1 v0 v1
by_slot t = record { is = λ s h m. t.is s h (record { rows = each_imp (λ x o. o.low_row) m.slots }); kept0 = t.kept0; kept1 = t.kept1 }

pub by_node : {st : Counts} {k : ℕ} {line : Bytes} {r : Result Counts Refusal} {w0 w1 v1 : List ℕ} (w2 : List ℕ) → Took st k line r w0 w1 w0 v1 → TookText st k line r w0 w1 w2 v1 w2
by_node w2 t = record { took = t; kept2 = kept_refl w2 }

-- a step at line k
at_line : {v0 v1 : List ℕ} {r : Result Counts Refusal} {x : Step} (k : ℕ) (f : Sheet → Reading) → Moved v0 v1 r x → GoodStep x → GoesOn v0 v1 f (placed_at r k) (on_step x k f)
unfolding on_step
at_line k f (moved_next g h) (good_step t) = goes_on g h t
at_line k f moved_refused no_step = refuses

-- a step that is placed as `Ok` was one
pub placed_ok : (k : ℕ) {st : Counts} (r : Result Counts Refusal) → placed_at r k ≡ Ok st → r ≡ Ok st
placed_ok k {st} (Ok su) e = let z : su ≡ st = cc in ap Ok z
placed_ok k (Err n) e = absurd (let z : ◌≡◌ {A = ℕ} 0 1 = cc in omega arith)

pub ended_fine : {v0 w1 : List ℕ} {r : Result Counts Refusal} {o : Option Sheet} (st : Counts) → EndMoved v0 w1 r o → r ≡ Ok st → Fine st
ended_fine st (ended {st = su} g h) e = let z : su ≡ st = cc in subst Fine z g
ended_fine st EndMoved.refused e = absurd (let z : ◌≡◌ {A = ℕ} 0 1 = cc in omega arith)

-- an open definition or rule has room in the tables
pub rule_room : {st : Counts} {w0 w1 : List ℕ} (s : Sheet) → Holds st w0 w1 s → Good s → RuleRoom st
unfolding open_code
rule_room {st} {w0} {w1} s h t = record { room = (by s.current refl h.current).0; space = (by s.current refl h.current).1 }
  where
    no_definition : (b : Bool) → open_code none b ≡ 2 → ⊥
    no_definition true e = omega arith
    no_definition false e = omega arith

    by_type : (c : Current) → s.current ≡ some c → (o : Option _) → c.result ≡ o → st.«open» ≡ open_code o c.text → (st.«open» ≢ 0 → st.«open» ≢ 2 → st.rules < 64) × (st.«open» ≡ 2 → st.definitions < 32)
    by_type c e none u z = (λ p q. let l = (t.room c e).for_rule u in let m = h.counted.rules in omega arith, λ q. absurd (no_definition c.text (sym z ∙ q)))
    by_type c e (some a) u z = (λ p q. absurd (q z), λ q. let l = (t.room c e).for_definition a u in let m = h.counted.definitions in omega arith)

    by : (o : Option Current) → s.current ≡ o → HoldsOpen st w1 (length s.lines) o → (st.«open» ≢ 0 → st.«open» ≢ 2 → st.rules < 64) × (st.«open» ≡ 2 → st.definitions < 32)
    by none e (closed z) = (λ p. absurd (p z), λ q. absurd (omega arith))
    by (some c) e (opened z) = by_type c e c.result refl z.is_open

module _ (st : Counts) (k : ℕ) (line : Bytes) where
  pub body_whole : {r : Result Counts Refusal} {w0 w1 w2 v1 v2 : List ℕ} → in_body (fields_of line) ≡ true → TookText st (k + 1) line r w0 w1 w2 v1 v2 → TookWhole st k line (placed_at r (k + 1)) w0 w1 w2 w0 v1 v2
  unfolding closing
  body_whole e t = record {
    is = λ s h m f. rw (e, ← add-one k) (at_line (k + 1) f (t.took.is s h) (good_fields s (k + 1) (fields_of line) m));
    kept0 = t.took.kept0;
    kept1 = t.took.kept1;
    kept2 = t.kept2;
  }

  end_stop : {v0 w1 : List ℕ} {r : Result Counts Refusal} {d : Refused} {o : Option Sheet} (f g : Sheet → Reading) → EndMoved v0 w1 r o → placed_at r k ≡ Err d → GoesOn v0 w1 f (Err d) (on_end o k g)
  unfolding on_end
  end_stop f g (ended a h) q = absurd (let z : ◌≡◌ {A = ℕ} 0 1 = cc in omega arith)
  end_stop f g EndMoved.refused q = rw (← q) refuses

  pub stop_whole : {r : Result Counts Refusal} {d : Refused} {w0 w1 v0 : List ℕ} (w2 : List ℕ) → in_body (fields_of line) ≡ false → RuleEnded st r w0 w1 v0 → placed_at r k ≡ Err d → TookWhole st k line (Err d) w0 w1 w2 v0 w1 w2
  unfolding closing
  stop_whole {w1 = w1} w2 e t q = record { is = λ s h m f. rw e (end_stop f _ (t.is s h) q); kept0 = t.kept; kept1 = kept_refl w1; kept2 = kept_refl w2 }

  end_next : {v0 w1 u0 : List ℕ} {su : Counts} {r : Result Counts Refusal} {o : Option Sheet} (f : Sheet → Reading) → EndMoved v0 w1 (Ok su) o → All? Good o → TookLine su (k + 1) line r v0 w1 u0 w1
      → GoesOn u0 w1 f (placed_at r (k + 1)) (on_end o k (λ t. on_step (step t (suc k) (fields_of line)) (suc k) f))
  unfolding on_end
  end_next f (ended {s = s} g h) (all_some m) t = rw (← add-one k) (at_line (k + 1) f (t.is s h m) (good_fields s (k + 1) (fields_of line) m))

  pub next_whole : {su : Counts} {r : Result Counts Refusal} {w0 w1 v0 u0 : List ℕ} (w2 : List ℕ) → in_body (fields_of line) ≡ false → RuleEnded st (Ok su) w0 w1 v0 → TookLine su (k + 1) line r v0 w1 u0 w1
      → TookWhole st k line (placed_at r (k + 1)) w0 w1 w2 u0 w1 w2
  unfolding closing
  next_whole w2 e t q = record { is = λ s h m f. rw e (end_next f (t.is s h) (good_end_rule s m) q); kept0 = kept_then t.kept q.kept0; kept1 = q.kept1; kept2 = kept_refl w2 }

-- ---- the text's last part

last_empty : (k : ℕ) (part : Bytes) (s : Sheet) → length part ≡ 0 → read_last k part s ≡ accepted s
unfolding read_last
last_empty k [] s z = refl
last_empty k (b ∷ l) s z = absurd (omega arith)

last_left : (k : ℕ) (part : Bytes) (s : Sheet) → length part ≢ 0 → read_last k part s ≡ rejected 3 (suc k)
unfolding read_last
last_left k [] s z = absurd (z refl)
last_left k (b ∷ l) s z = refl

body_part : (s : Sheet) (k : ℕ) (part : Bytes) → in_body (fields_of part) ≡ true → read_lines s k (part ∷ []) ≡ rejected 3 (suc k)
unfolding read_lines closing read_last in_body fields_of split is bytes
body_part s k [] e = absurd (let z : false ≡ true = e in let y : ◌≡◌ {A = ℕ} 0 1 = cc in omega arith)
body_part s k (b ∷ l) e = rw e

module _ (st : Counts) (k : ℕ) (part : Bytes) where
  -- it is a letter and so not empty
  pub body_last : {w0 w1 : List ℕ} → in_body (fields_of part) ≡ true → TookLast st k part (Err (at BadLine (k + 1))) w0 w1 w0 w1
  body_last {w0} {w1} e = record { is = λ s h. rw (body_part s k part e, ← add-one k) a_refusal; kept0 = kept_refl w0; kept1 = kept_refl w1 }

  last_stop : {v0 w1 : List ℕ} {r : Result Counts Refusal} {d : Refused} {o : Option Sheet} (g : Sheet → Reading) → EndMoved v0 w1 r o → placed_at r k ≡ Err d → EndsAs v0 w1 (Err d) (on_end o k g)
  unfolding on_end
  last_stop g (ended a h) q = absurd (let z : ◌≡◌ {A = ℕ} 0 1 = cc in omega arith)
  last_stop g EndMoved.refused q = rw (← q) a_refusal

  pub stop_last : {r : Result Counts Refusal} {d : Refused} {w0 w1 v0 : List ℕ} → in_body (fields_of part) ≡ false → RuleEnded st r w0 w1 v0 → placed_at r k ≡ Err d → TookLast st k part (Err d) w0 w1 v0 w1
  unfolding read_lines closing
  stop_last {w1 = w1} e t q = record { is = λ s h. rw e (last_stop (read_last k part) (t.is s h) q); kept0 = t.kept; kept1 = kept_refl w1 }

  last_next : {v0 w1 : List ℕ} {su : Counts} {r : Result Counts Refused} {o : Option Sheet} (g : Sheet → Reading) → EndMoved v0 w1 (Ok su) o
      → ((s : Sheet) → Fine su → Holds su v0 w1 s → EndsAs v0 w1 r (g s)) → EndsAs v0 w1 r (on_end o k g)
  unfolding on_end
  last_next g (ended {s = s} a h) q = q s a h

  next_last : {su : Counts} {r : Result Counts Refused} {w0 w1 v0 : List ℕ} → in_body (fields_of part) ≡ false → RuleEnded st (Ok su) w0 w1 v0
      → ((s : Sheet) → Fine su → Holds su v0 w1 s → EndsAs v0 w1 r (read_last k part s)) → TookLast st k part r w0 w1 v0 w1
  unfolding read_lines closing
  next_last {w1 = w1} e t q = record { is = λ s h. rw e (last_next (read_last k part) (t.is s h) q); kept0 = t.kept; kept1 = kept_refl w1 }

  pub sheet_last : {su : Counts} {w0 w1 v0 : List ℕ} → in_body (fields_of part) ≡ false → RuleEnded st (Ok su) w0 w1 v0 → length part ≡ 0
      → TookLast st k part (Ok su) w0 w1 v0 w1
  sheet_last e t z = next_last e t (λ s a h. rw (last_empty k part s z) (a_sheet a h))

  pub left_last : {su : Counts} {w0 w1 v0 : List ℕ} → in_body (fields_of part) ≡ false → RuleEnded st (Ok su) w0 w1 v0 → length part ≢ 0
      → TookLast st k part (Err (at BadLine (k + 1))) w0 w1 v0 w1
  left_last e t z = next_last e t (λ s a h. rw (last_left k part s z, ← add-one k) a_refusal)

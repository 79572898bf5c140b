-- The call that reads: the types that wait in w2 are written one a line. Assumes nothing.
use mathlib.Core.Path.{◌≡◌, refl, sym, ap, ◌∙◌}
use mathlib.Core.Logic.{◌≢◌}
use mathlib.Core.Option.{some}
use mathlib.Core.List.{List, [], ◌∷◌, ◌++◌, append_assoc}
use Prim.Native.Nat.{ℕ, suc, ◌+◌, ◌-◌, ◌≤◌, ◌<◌}
use native.Mathlib.Omega.{arith}
use native.Mathlib.Numerals.{add-one}
use lib.ListN.{length, get_or, get_elem?, take, drop, length-append, length-take, length-drop, take-append-drop}
use lib.Seq.{take-length, get_or-take, get_or-drop}
use Rattle.laws.specs.Lists.{Each}
use Rattle.laws.proofs.Elements.{elem_some}
use Rattle.ocl.specs.Types.{Ty, void}
use Rattle.sheet.specs.Text.{Bytes}
use Rattle.sheet.specs.Spelling.{spell_type}
use Rattle.sheet.specs.Sheet.{Rule, Sheet}
use Rattle.sheet.specs.Reading.{accepted, read_text}
use Rattle.sheet.specs.Calls.{Verdict, answer, on_accepted, type_lines}
use Rattle.sheet.specs.Laws.{AllTyped, none_typed, one_typed, Defined}
use Rattle.sheet.specs.Soundness.{Lent}
use Rattle.sheet.proofs.Accepted.{AcceptedSheet, on_accepted_lem}
use Rattle.sheet.proofs.Soundness.{read_lent}
use Rattle.sheet.proofs.ReadLength.{read_length}
use Rattle.text.specs.Written.{Puts}
use Rattle.text.proofs.WrittenLaws.{puts_length, puts_as, puts_nothing, puts_then}
use Rattle.types.specs.Word.{type_in}
use Rattle.tables.specs.declared.Counts.{Counts}
use Rattle.tables.proofs.Tables.{kept_refl}
use Rattle.rules.specs.Accepted.{Accepted, TypesIn}
use Rattle.rules.proofs.RuleByRule.{take_elem}
use Rattle.opening.specs.declared.Answer.{Answer}
use Rattle.opening.specs.Parts.{OpensAs, opened, OpensText, Leaves, written_to}
use Rattle.answering.specs.TypeLines.{Waiting, PutsTypes}
use Rattle.opening.proofs.Answers.{gives_written}
use Rattle.opening.proofs.Readings.{leaves_on, accepted_number}
use Rattle.std.specs.Prelude.{Result, Ok}
use Rattle.memory.specs.declared.refusals.Refused.{Refused}

-- ---- lines

lines_append : (ts us : List Ty) → type_lines (ts ++ us) ≡ type_lines ts ++ type_lines us
unfolding type_lines
lines_append [] us = refl
lines_append (t ∷ ts) us =
    ap (λ (l : Bytes). spell_type t ++ 10 ∷ l) (lines_append ts us) ∙ sym (append_assoc (spell_type t) (10 ∷ type_lines ts) (type_lines us))

-- those of the first types are no longer than all
lines_within : (r : ℕ) (ts : List Ty) → length (type_lines (take r ts)) ≤ length (type_lines ts)
lines_within r ts =
    omega (
      arith,
      ap (λ (l : List Ty). length (type_lines l)) (take-append-drop r ts),
      ap length (lines_append (take r ts) (drop r ts)),
      length-append (type_lines (take r ts)) (type_lines (drop r ts)),
    )

-- ---- the lines of the first r types are put

abbrev pub type_at : List ℕ → ℕ → Ty
type_at w2 r = type_in (get_or w2 (768 + r) 0)

-- the words that hold the n types
module _ (w2 : List ℕ) {n : ℕ} (room : 768 + n ≤ length w2) where
  pub words_long : length (take (768 + n - 768) (drop 768 w2)) ≡ n
  words_long = simp (length-take, length-drop) (omega arith)

  pub word_type : {t : Ty} (r : ℕ) → r < n → t ≡ type_in (get_or (take (768 + n - 768) (drop 768 w2)) r 0) → t ≡ type_at w2 r
  word_type r h e = e ∙ ap type_in (get_or-take (768 + n - 768) (drop 768 w2) r 0 (omega arith) ∙ get_or-drop 768 w2 r 0)

pub record LinesTo (w2 : List ℕ) (n : ℕ) (before now : Bytes) (r at : ℕ) : Type 0 where
  pub is : (ts : List Ty) → TypesIn w2 ts → length ts ≡ n → Puts 0 (type_lines (take r ts)) before now at
  pub size : length now ≡ length before
  pub within : r ≤ n

pub lines_none : (w2 : List ℕ) (n : ℕ) (out : Bytes) → LinesTo w2 n out out 0 0
unfolding type_lines
lines_none w2 n out = record { is = λ ts i c. puts_nothing 0 out; size = refl; within = omega arith }

module _ {w2 : List ℕ} {n : ℕ} {before now : Bytes} {r at : ℕ} (wait : Waiting w2 n) (room : 2560 ≤ length before) (so : LinesTo w2 n before now r at) where
  pub type_room : at + 40 ≤ length now
  type_room = omega (arith, (so.is wait.types wait.waiting wait.count).end, lines_within r wait.types, wait.short, so.size)

  module _ (h : r < n) where
    -- the type that waits there
    next_type : (ts : List Ty) → TypesIn w2 ts → length ts ≡ n → get_elem? ts r ≡ some (type_at w2 r)
    next_type ts i c = let e = elem_some ts r void (omega arith) in e ∙ ap some (sym (i.at r (get_or ts r void) e))

    next_lines : (ts : List Ty) → TypesIn w2 ts → length ts ≡ n → type_lines (take (suc r) ts) ≡ type_lines (take r ts) ++ (spell_type (type_at w2 r) ++ 10 ∷ [])
    unfolding type_lines
    next_lines ts i c = ap type_lines (take_elem ts r (type_at w2 r) (next_type ts i c)) ∙ lines_append (take r ts) (type_at w2 r ∷ [])

    -- it ends within the lines
    next_room : at + length (spell_type (type_at w2 r)) + 1 ≤ 896
    next_room =
        let ts = wait.types in
        omega (
          arith,
          (so.is ts wait.waiting wait.count).end,
          lines_within (suc r) ts,
          wait.short,
          ap length (next_lines ts wait.waiting wait.count),
          length-append (type_lines (take r ts)) (spell_type (type_at w2 r) ++ 10 ∷ []),
          length-append (spell_type (type_at w2 r)) (10 ∷ []),
        )

    module _ {v : Bytes} {t : Ty} {end : ℕ} (is : t ≡ type_at w2 r) (p : Puts at (spell_type t) now v end) where
      type_puts : Puts at (spell_type (type_at w2 r)) now v end
      type_puts = puts_as p (ap spell_type is)

      type_size : length v ≡ length now
      type_size = puts_length type_puts (omega (arith, next_room, so.size))

      pub feed_room : end < length v
      feed_room = omega (arith, type_puts.end, type_size, next_room, so.size)

      pub lines_next : {u : Bytes} {to : ℕ} → Puts end (10 ∷ []) v u to → LinesTo w2 n before u (r + 1) to
      lines_next {u} {to} q = record {
        is = λ ts i c. rw (add-one r) (puts_as (both ts i c) (sym (next_lines ts i c)));
        size = puts_length q (omega (arith, feed_room)) ∙ type_size ∙ so.size;
        within = omega arith;
      }
        where
          line : Puts at (spell_type (type_at w2 r) ++ 10 ∷ []) now u to
          line = puts_then type_puts q (omega (arith, next_room, so.size))

          both : (ts : List Ty) → TypesIn w2 ts → length ts ≡ n → Puts 0 (type_lines (take r ts) ++ (spell_type (type_at w2 r) ++ 10 ∷ [])) before u to
          both ts i c =
              puts_then (so.is ts i c) line
              (omega (arith, next_room, (so.is ts i c).end, length-append (spell_type (type_at w2 r)) (10 ∷ [])))

pub lines_all : {w2 : List ℕ} {n : ℕ} {before now : Bytes} {r at : ℕ} → LinesTo w2 n before now r at → n ≤ r → PutsTypes w2 n before now at
lines_all {n = n} {r = r} so h = record {
  is = λ ts i c.
      let e : r ≡ length ts = omega (arith, so.within) in
      puts_as (so.is ts i c) (ap type_lines (ap (λ (k : ℕ). take k ts) e ∙ take-length ts));
}

-- ---- the types of an accepted sheet

types_count : {s : Sheet} {xs : List Rule} {ts : List Ty} → AllTyped s xs ts → length ts ≡ length xs
types_count none_typed = refl
types_count (one_typed e h) = ap suc (types_count h)

-- one for each of its rules
pub rule_count : {st : Counts} {w0 w1 : List ℕ} {s : Sheet} {ts : List Ty} {n : ℕ} → Accepted st w0 w1 s ts → n ≡ st.rules → length ts ≡ n
rule_count h e = omega (arith, types_count h.typed, h.lies.holds.counted.rules)

module _ {text : Bytes} {w0 w1 w2 v0 v1 v2 : List ℕ} {z : Result Counts Refused} {st : Counts} {n : ℕ} (t : OpensText text z w0 w1 w2 v0 v1 v2) (e : z ≡ Ok st) (c : n ≡ st.rules) where
  pub types_wait : {out : Bytes} → Lent v0 v1 v2 out → Waiting v2 n
  unfolding answer
  types_wait {out} l = by (rw e at t.is)
    where
      by : OpensAs text v0 v1 v2 (Ok st) → Waiting v2 n
      by (opened s ts q h i) =
          let a : AcceptedSheet text = record { sheet = s; is = q; defined = h.defined; typing = record { types = ts; all = h.typed } } in
          let r = read_lent text v0 v1 v2 out l ∙ on_accepted_lem text a (λ s ts. answer (type_lines ts)) in
          record {
            types = ts;
            waiting = i;
            count = rule_count h c;
            few = omega (arith, h.lies.fine.rules);
            short = omega (arith, ap (λ (v : Verdict). length v.output) r, read_length text v0 v1 v2 out);
          }

  pub reads_types : {a : Answer} {end : ℕ} {out after : Bytes} → PutsTypes v2 n out after end → a ≡ written_to end 0
      → Leaves (on_accepted text (λ s ts. answer (type_lines ts))) a w0 w1 w2 out v0 v1 v2 after
  unfolding answer
  reads_types p q = leaves_on t _ e (record { for = λ s ts h i. gives_written (p.is ts i (rule_count h c)) q }) (kept_refl v2)

-- ---- the call does not refuse with 1 once nothing is short

pub read_number : (text : Bytes) → (on_accepted text (λ s ts. answer (type_lines ts))).number ≢ 1
unfolding answer
read_number text = accepted_number text (λ s ts. answer (type_lines ts)) no_number
  where
    no_number : (s : Sheet) (ts : List Ty) → read_text text ≡ accepted s → Each (Defined s) s.definitions → AllTyped s s.rules ts → (answer (type_lines ts)).number ≢ 1
    no_number s ts e d h q = omega arith

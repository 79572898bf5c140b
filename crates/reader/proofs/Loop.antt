-- The loop over the lines of a text: what has been read and what is left are, read on, the whole. Assumes nothing.
use mathlib.Core.Path.{◌≡◌, refl, sym, ap, ◌∙◌, subst}
use mathlib.Core.List.{List, [], ◌∷◌}
use Prim.Native.Nat.{ℕ, suc, ◌+◌, ◌-◌, ◌≤◌, ◌<◌}
use native.Mathlib.Numerals.{add-one}
use native.Mathlib.Omega.{arith}
use lib.ListN.{length, take, drop, length-drop}
use Rattle.laws.specs.Lists.{each_nil, concat}
use Rattle.laws.proofs.Parts.{part_all}
use Rattle.sheet.specs.Text.{Bytes, lines_of, fields_of}
use Rattle.sheet.specs.Sheet.{Sheet, empty}
use Rattle.sheet.specs.Limits.{total_size}
use Rattle.sheet.specs.Reading.{Reading, rejected, step, on_step, closing, read_lines}
use Rattle.sheet.proofs.Split.{split_laws}
use Rattle.sheet.proofs.Good.{good_empty}
use Rattle.text.specs.Parts.{PartEnd}
use Rattle.text.proofs.PartLaws.{first_part, only_part}
use Rattle.tables.specs.declared.Counts.{Counts}
use Rattle.tables.specs.Layout.{Holds, closed, Kept, no_counts, starts_from, cells_of, lines_in}
use Rattle.tables.proofs.Tables.{kept_refl, kept_then}
use Rattle.reader.specs.Meanings.{HeldSheet, GoesOn, goes_on, refuses, TookWhole, EndsAs, a_refusal, TookLast, ReadsTo}
use Rattle.std.specs.Prelude.{Result, Ok, Err}
use Rattle.memory.specs.Refusals.{number}
use Rattle.memory.specs.declared.refusals.Refused.{Refused}

-- ---- before the first line

holds_empty : (w0 w1 : List ℕ) → Holds no_counts w0 w1 empty
unfolding empty starts_from cells_of concat lines_in total_size
holds_empty w0 w1 = record {
  counted = record { block = refl; classes = refl; rows = refl; objects = refl; slots = refl; cells = refl; nodes = refl; definitions = refl; rules = refl };
  tables = record { parents = refl; smaller = good_empty.parents; owners = refl; names = refl; types = refl; objects = refl; keys = refl; starts = refl; cells = refl; fits = each_nil; contexts = refl };
  definitions = record { contexts = refl; classes = each_nil; types = refl; bodies = refl; roots = each_nil; depths = each_nil };
  rules = record { bodies = refl; roots = each_nil; lines = refl };
  current = closed refl;
}

held_empty : (w0 w1 : List ℕ) → HeldSheet no_counts w0 w1
held_empty w0 w1 = record {
  sheet = empty;
  holds = holds_empty w0 w1;
  fine = record { classes = omega arith; rows = omega arith; objects = omega arith; slots = omega arith; cells = omega arith; nodes = omega arith; definitions = omega arith; rules = omega arith; first = omega arith; context = omega arith };
  good = good_empty;
}

-- ---- on the way: the sheet so far, read on over what is left

pub record Going (text : Bytes) (u0 u1 u2 w0 w1 w2 : List ℕ) (rest : Bytes) (st : Counts) (k e : ℕ) : Type 0 where
  pub held : HeldSheet st w0 w1
  pub same : read_lines held.sheet k (lines_of rest) ≡ read_lines empty 0 (lines_of text)
  pub ends : PartEnd 10 rest e
  pub kept0 : Kept u0 w0
  pub kept1 : Kept u1 w1
  pub kept2 : Kept u2 w2
  pub short : k + length rest ≤ length text

pub going_start : (text : Bytes) (w0 w1 w2 : List ℕ) (st : Counts) {e : ℕ} → st ≡ no_counts → PartEnd 10 text e → Going text w0 w1 w2 w0 w1 w2 text st 0 e
unfolding empty held_empty
going_start text w0 w1 w2 st {e} z n = subst (λ s. Going text w0 w1 w2 w0 w1 w2 text s 0 e) (sym z) (record {
  held = held_empty w0 w1;
  same = refl;
  ends = n;
  kept0 = kept_refl w0;
  kept1 = kept_refl w1;
  kept2 = kept_refl w2;
  short = omega arith;
})

-- a line that others, or the last part, follow
read_line : (s : Sheet) (k : ℕ) (l : Bytes) (ls : List Bytes) → 0 < length ls
    → read_lines s k (l ∷ ls) ≡ closing s k (fields_of l) (λ t. on_step (step t (suc k) (fields_of l)) (suc k) (λ u. read_lines u (suc k) ls))
unfolding read_lines
read_line s k l [] h = absurd (omega arith)
read_line s k l (m ∷ ls) h = refl

some_lines : (s : Bytes) → 0 < length (lines_of s)
unfolding lines_of
some_lines s = (split_laws 10).some_part s

refused_is : {v0 v1 : List ℕ} {f : Sheet → Reading} {e : Refused} {x : Reading} → GoesOn v0 v1 f (Err e) x → x ≡ rejected (number e.refusal) e.place
refused_is refuses = refl

record Onward (v0 v1 : List ℕ) (f : Sheet → Reading) (st : Counts) (x : Reading) : Type 0 where
  held : HeldSheet st v0 v1
  is : x ≡ f held.sheet

next_is : {v0 v1 : List ℕ} {f : Sheet → Reading} {st : Counts} {x : Reading} → GoesOn v0 v1 f (Ok st) x → Onward v0 v1 f st x
next_is (goes_on {s = s} g h m) = record { held = record { sheet = s; holds = h; fine = g; good = m }; is = refl }

module _ {text : Bytes} {u0 u1 u2 w0 w1 w2 : List ℕ} {rest : Bytes} {st : Counts} {k e : ℕ} (going : Going text u0 u1 u2 w0 w1 w2 rest st k e) where
  lines_split : e < length rest → lines_of rest ≡ take e rest ∷ lines_of (drop (e + 1) rest)
  unfolding lines_of
  lines_split h = first_part going.ends h

  whole_is : e < length rest → closing going.held.sheet k (fields_of (take e rest)) (λ t. on_step (step t (suc k) (fields_of (take e rest))) (suc k) (λ u. read_lines u (suc k) (lines_of (drop (e + 1) rest)))) ≡ read_lines empty 0 (lines_of text)
  whole_is h = sym (read_line going.held.sheet k (take e rest) (lines_of (drop (e + 1) rest)) (some_lines (drop (e + 1) rest))) ∙ ap (read_lines going.held.sheet k) (sym (lines_split h)) ∙ going.same

  pub going_refused : {v0 v1 v2 : List ℕ} {r : Refused} → e < length rest → TookWhole st k (take e rest) (Err r) w0 w1 w2 v0 v1 v2 → ReadsTo text (Err r) u0 u1 u2 v0 v1 v2
  going_refused h t = record {
    is = subst (EndsAs _ _ _) (sym (refused_is (t.is going.held.sheet going.held.holds going.held.good _)) ∙ whole_is h) a_refusal;
    kept0 = kept_then going.kept0 t.kept0;
    kept1 = kept_then going.kept1 t.kept1;
    kept2 = kept_then going.kept2 t.kept2;
  }

  going_on : {v0 v1 v2 : List ℕ} {su : Counts} {d : ℕ} → e < length rest → TookWhole st k (take e rest) (Ok su) w0 w1 w2 v0 v1 v2 → PartEnd 10 (drop (e + 1) rest) d
      → Going text u0 u1 u2 v0 v1 v2 (drop (e + 1) rest) su (k + 1) d
  going_on h t n = let x = next_is (t.is going.held.sheet going.held.holds going.held.good (λ u. read_lines u (suc k) (lines_of (drop (e + 1) rest)))) in record {
    held = x.held;
    same = rw (add-one k) (sym x.is ∙ whole_is h);
    ends = n;
    kept0 = kept_then going.kept0 t.kept0;
    kept1 = kept_then going.kept1 t.kept1;
    kept2 = kept_then going.kept2 t.kept2;
    short = omega (arith, going.short, length-drop (e + 1) rest);
  }

  -- the rest as the code has it, a part with an end
  pub going_next : {v0 v1 v2 : List ℕ} {su : Counts} {d : ℕ} → e < length rest → TookWhole st k (take e rest) (Ok su) w0 w1 w2 v0 v1 v2
      → PartEnd 10 (take (length rest - (e + 1)) (drop (e + 1) rest)) d → Going text u0 u1 u2 v0 v1 v2 (take (length rest - (e + 1)) (drop (e + 1) rest)) su (k + 1) d
  going_next h t n = rw (part_all rest (e + 1)) (going_on h t (rw (part_all rest (e + 1)) at n))

  lines_last : length rest ≤ e → lines_of rest ≡ rest ∷ []
  unfolding lines_of
  lines_last h = only_part going.ends h

  pub going_last : {v0 v1 : List ℕ} {r : Result Counts Refused} → length rest ≤ e → TookLast st k rest r w0 w1 v0 v1 → ReadsTo text r u0 u1 u2 v0 v1 w2
  going_last h t = record {
    is = subst (EndsAs _ _ _) (ap (read_lines going.held.sheet k) (sym (lines_last h)) ∙ going.same) (t.is going.held.sheet going.held.holds);
    kept0 = kept_then going.kept0 t.kept0;
    kept1 = kept_then going.kept1 t.kept1;
    kept2 = going.kept2;
  }

-- An accepted sheet without its values, and with others. Assumes nothing.
use mathlib.Core.Path.{◌≡◌, refl, sym, ◌∙◌, subst}
use mathlib.Core.Option.{none}
use mathlib.Core.List.{List, []}
use Prim.Native.Nat.{ℕ}
use native.Mathlib.Omega.{arith}
use lib.ListN.{length}
use Rattle.laws.specs.Lists.{each_nil, concat}
use Rattle.ocl.specs.Types.{Ty}
use Rattle.sheet.specs.Sheet.{Slot, Sheet}
use Rattle.sheet.specs.Limits.{total_size}
use Rattle.board.specs.Edits.{with_slots}
use Rattle.board.proofs.AsLines.{Lined, good_lined}
use Rattle.tables.specs.declared.Counts.{Counts}
use Rattle.tables.specs.Layout.{starts_from, cells_of, Holds, Fine, closed, HoldsOpen}
use Rattle.tables.proofs.Entries.{tables_same, definitions_same}
use Rattle.slots.specs.Slots.{SmallRows}
use Rattle.replay.specs.Judging.{empty_counts}
use Rattle.sheet.specs.Calls.{marks_of}
use Rattle.board.specs.Board.{valued}
use Rattle.board.proofs.Verdicts.{valued_defined, valued_typed}
use Rattle.rules.specs.Accepted.{Accepted}
use Rattle.replay.specs.Replays.{last_counts}

-- ---- without its values

pub empty_held : (st : Counts) {su : Counts} {w0 w1 : List ℕ} {u : Sheet} → su.classes ≡ st.classes → su.rows ≡ st.rows → su.objects ≡ st.objects → su.nodes ≡ st.nodes
    → su.definitions ≡ st.definitions → su.rules ≡ st.rules → Holds su w0 w1 u → Holds (empty_counts st) w0 w1 (with_slots u 3 [])
unfolding with_slots total_size cells_of concat starts_from
empty_held st a b c d e f h = record {
  counted = record {
    block = refl;
    classes = sym a ∙ h.counted.classes;
    rows = sym b ∙ h.counted.rows;
    objects = sym c ∙ h.counted.objects;
    slots = refl;
    cells = refl;
    nodes = sym d ∙ h.counted.nodes;
    definitions = sym e ∙ h.counted.definitions;
    rules = sym f ∙ h.counted.rules;
  };
  tables = record {
    parents = h.tables.parents;
    smaller = h.tables.smaller;
    owners = h.tables.owners;
    names = h.tables.names;
    types = h.tables.types;
    objects = h.tables.objects;
    keys = refl;
    starts = refl;
    cells = refl;
    fits = each_nil;
    contexts = h.tables.contexts;
  };
  definitions = definitions_same refl refl h.definitions;
  rules = record { bodies = h.rules.bodies; roots = h.rules.roots; lines = h.rules.lines };
  current = closed refl;
}

pub empty_fine : {st : Counts} → Fine st → Fine (empty_counts st)
empty_fine f = record {
  classes = f.classes;
  rows = f.rows;
  objects = f.objects;
  slots = omega arith;
  cells = omega arith;
  nodes = f.nodes;
  definitions = f.definitions;
  rules = f.rules;
  first = f.first;
  context = f.context;
}

pub empty_rows : (s : Sheet) → SmallRows (with_slots s 3 [])
unfolding with_slots
empty_rows s = record { rows = each_nil }

-- ---- with others

-- after the last block
last_held : {su : Counts} {v0 w1 : List ℕ} (s : Sheet) (xs : List Slot) → Holds su v0 w1 (with_slots s 3 xs) → Holds (last_counts su) v0 w1 (valued s xs)
unfolding with_slots valued
last_held {su} {v0} {w1} s xs h = record {
  counted = record {
    block = refl;
    classes = h.counted.classes;
    rows = h.counted.rows;
    objects = h.counted.objects;
    slots = h.counted.slots;
    cells = h.counted.cells;
    nodes = h.counted.nodes;
    definitions = h.counted.definitions;
    rules = h.counted.rules;
  };
  tables = tables_same refl refl refl refl refl h.tables;
  definitions = definitions_same refl refl h.definitions;
  rules = record { bodies = h.rules.bodies; roots = h.rules.roots; lines = h.rules.lines };
  current = nothing_open h.current;
}
  where
    nothing_open : HoldsOpen su w1 (length s.lines) none → HoldsOpen (last_counts su) w1 (length s.lines) none
    nothing_open (closed e) = closed e

last_fine : {su : Counts} → Fine su → Fine (last_counts su)
last_fine f = record {
  classes = f.classes;
  rows = f.rows;
  objects = f.objects;
  slots = f.slots;
  cells = f.cells;
  nodes = f.nodes;
  definitions = f.definitions;
  rules = f.rules;
  first = f.first;
  context = f.context;
}

-- the sheet with these slots is accepted as the sheet was: typing reads none of them
pub accepted_with : {st su : Counts} {w0 v0 w1 : List ℕ} {s t : Sheet} {ts : List Ty} {xs : List Slot} → Accepted st w0 w1 s ts → Lined s [] xs t → Fine su → Holds su v0 w1 t
    → Accepted (last_counts su) v0 w1 (valued s xs) ts
unfolding valued with_slots marks_of
accepted_with {su = su} {v0 = v0} {w1} {s} {t} {ts} {xs} a l f h = record {
  lies = record { good = good_lined s a.lies.good l; low = a.lies.low; fine = last_fine f; holds = last_held s xs (subst (Holds su v0 w1) l.is h) };
  defined = valued_defined s xs a.defined;
  typed = valued_typed s xs a.typed;
  marks = record { at = a.marks.at };
}

-- A word of w0 that no table of the sheet has yet: writing it changes nothing of what the words hold, so that a table's next
-- entry is written first and counted afterwards. Assumes nothing.
use mathlib.Core.Path.{◌≡◌, ap, ◌∙◌}
use mathlib.Core.Option.{Option}
use mathlib.Core.List.{List, [], ◌∷◌, ◌++◌, map, map-append}
use Prim.Native.Nat.{ℕ, suc, ◌+◌, ◌≤◌, ◌<◌}
use native.Mathlib.Omega.{arith}
use native.Mathlib.Decide.{dec_lt}
use borrow.Author.Rules.{rules}
use lib.ListN.{length, get_or, drop, set, length-drop}
use lib.Seq.{take-suc, get_or-drop}
use Rattle.laws.proofs.Lists.{length_more}
use Rattle.memory.specs.Map as memory
use Rattle.types.specs.Word.{type_in}
use Rattle.nodes.specs.Nodes.{tree_at}
use Rattle.sheet.specs.Sheet.{Current, Sheet}
use Rattle.sheet.specs.Limits.{total_size}
use Rattle.tables.specs.declared.Counts.{Counts}
use Rattle.tables.specs.Layout.{tab, HoldsTables, HoldsDefinitions, HoldsRules, HoldsOpen, closed, opened, Counted, Holds, Fine}
use Rattle.tables.proofs.Tables.{tab_before, tab_after}

-- ---- a word outside the tables

-- word i is not among the n words from an offset on
abbrev pub Away : ℕ → ℕ → ℕ → Type 0
Away i off n = off ≤ i → off + n ≤ i

-- it is in no table of the sheet
pub record Spare (i : ℕ) (s : Sheet) : Type 0 where
  pub parents : Away i memory.parents (length s.parents)
  pub owners : Away i memory.owners (length s.rows)
  pub names : Away i memory.names (length s.rows)
  pub types : Away i memory.types (length s.rows)
  pub objects : Away i memory.objects (length s.objects)
  pub keys : Away i memory.keys (length s.slots)
  pub starts : Away i memory.starts (length s.slots)
  pub cells : Away i memory.cells (total_size s.slots)
  pub contexts : Away i memory.contexts (length s.rules)
  pub roots : Away i memory.roots (length s.rules)
  pub classes : Away i memory.definition_contexts (length s.definitions)
  pub results : Away i memory.definition_types (length s.definitions)
  pub bodies : Away i memory.definition_roots (length s.definitions)

pub tab_away : (off n : ℕ) (w : List ℕ) (i x : ℕ) → Away i off n → tab off n (set w i x) ≡ tab off n w
tab_away off n w i x away = go (dec_lt i off)
  where
    go : Dec (i < off) → tab off n (set w i x) ≡ tab off n w
    go (yes l) = tab_before off n w i x l
    go (no l) = tab_after off n w i x (away (omega arith))

module _ {w0 : List ℕ} {s : Sheet} {i : ℕ} (x : ℕ) (away : Spare i s) where
  pub tables_kept : HoldsTables w0 s → HoldsTables (set w0 i x) s
  tables_kept h = record {
    parents = tab_away _ _ w0 i x away.parents ∙ h.parents;
    smaller = h.smaller;
    owners = tab_away _ _ w0 i x away.owners ∙ h.owners;
    names = tab_away _ _ w0 i x away.names ∙ h.names;
    types = ap (map type_in) (tab_away _ _ w0 i x away.types) ∙ h.types;
    objects = tab_away _ _ w0 i x away.objects ∙ h.objects;
    keys = tab_away _ _ w0 i x away.keys ∙ h.keys;
    starts = tab_away _ _ w0 i x away.starts ∙ h.starts;
    cells = tab_away _ _ w0 i x away.cells ∙ h.cells;
    fits = h.fits;
    contexts = tab_away _ _ w0 i x away.contexts ∙ h.contexts;
  }

  pub rules_kept : {w1 : List ℕ} → HoldsRules w0 w1 s → HoldsRules (set w0 i x) w1 s
  rules_kept {w1} h = record {
    bodies = ap (map (tree_at w1)) (tab_away _ _ w0 i x away.roots) ∙ h.bodies;
    roots = rw (tab_away memory.roots (length s.rules) w0 i x away.roots) h.roots;
    lines = h.lines;
  }

  pub definitions_kept : {w1 : List ℕ} → HoldsDefinitions w0 w1 s → HoldsDefinitions (set w0 i x) w1 s
  definitions_kept {w1} h = record {
    contexts = tab_away _ _ w0 i x away.classes ∙ h.contexts;
    classes = rw (tab_away memory.definition_contexts (length s.definitions) w0 i x away.classes) h.classes;
    types = ap (map type_in) (tab_away _ _ w0 i x away.results) ∙ h.types;
    bodies = ap (map (tree_at w1)) (tab_away _ _ w0 i x away.bodies) ∙ h.bodies;
    roots = rw (tab_away memory.definition_roots (length s.definitions) w0 i x away.bodies) h.roots;
    depths = rw (tab_away memory.definition_roots (length s.definitions) w0 i x away.bodies) h.depths;
  }

  pub holds_kept : {st : Counts} {w1 : List ℕ} → Holds st w0 w1 s → Holds st (set w0 i x) w1 s
  holds_kept h = record {
    counted = h.counted;
    tables = tables_kept h.tables;
    definitions = definitions_kept h.definitions;
    rules = rules_kept h.rules;
    current = h.current;
  }

-- ---- the next places

-- the sheet's counts are within document 01's limits
module _ {st : Counts} {s : Sheet} (fine : Fine st) (same : Counted st s) where
  pub spare_parent : st.classes < 64 → Spare st.classes s
  spare_parent h = search rules

  pub spare_owner : st.rows < 64 → Spare (memory.owners + st.rows) s
  spare_owner h = search rules

  pub spare_name : st.rows < 64 → Spare (memory.names + st.rows) s
  spare_name h = search rules

  pub spare_type : st.rows < 64 → Spare (memory.types + st.rows) s
  spare_type h = search rules

  pub spare_object : st.objects < 96 → Spare (memory.objects + st.objects) s
  spare_object h = search rules

  pub spare_key : st.slots < 1024 → Spare (memory.keys + st.slots) s
  spare_key h = search rules

  pub spare_start : st.slots < 1024 → Spare (memory.starts + st.slots) s
  spare_start h = search rules

  pub spare_context : st.rules < 64 → Spare (memory.contexts + st.rules) s
  spare_context h = search rules

  pub spare_root : st.rules < 64 → Spare (memory.roots + st.rules) s
  spare_root h = search rules

  pub spare_class : st.definitions < 32 → Spare (memory.definition_contexts + st.definitions) s
  spare_class h = search rules

  pub spare_result : st.definitions < 32 → Spare (memory.definition_types + st.definitions) s
  spare_result h = search rules

  pub spare_body : st.definitions < 32 → Spare (memory.definition_roots + st.definitions) s
  spare_body h = search rules

-- ---- one entry more

pub tab_next : (off n : ℕ) (w : List ℕ) → off + n < length w → tab off (suc n) w ≡ tab off n w ++ (get_or w (off + n) 0 ∷ [])
tab_next off n w h =
    take-suc (drop off w) n 0 (simp length-drop (omega arith)) ∙ ap (λ (y : ℕ). tab off n w ++ (y ∷ [])) (get_or-drop off w n 0)

-- a table of what f says of each element
pub tab_more_of : {A : Type 0} (f : A → ℕ) (off : ℕ) (w : List ℕ) (xs : List A) (x : A) → off + length xs < length w
    → tab off (length xs) w ≡ map f xs → get_or w (off + length xs) 0 ≡ f x → tab off (length (xs ++ (x ∷ []))) w ≡ map f (xs ++ (x ∷ []))
tab_more_of f off w xs x h is at =
    ap (λ (n : ℕ). tab off n w) (length_more xs x) ∙ tab_next off (length xs) w h ∙ rw (is, at, map-append f xs (x ∷ []))

-- a table whose words stand for what f says of each element
pub tab_more_by : {A B : Type 0} (read : ℕ → B) (f : A → B) (off : ℕ) (w : List ℕ) (xs : List A) (x : A) → off + length xs < length w
    → map read (tab off (length xs) w) ≡ map f xs → read (get_or w (off + length xs) 0) ≡ f x
    → map read (tab off (length (xs ++ (x ∷ []))) w) ≡ map f (xs ++ (x ∷ []))
tab_more_by read f off w xs x h is at =
    ap (λ (n : ℕ). map read (tab off n w)) (length_more xs x)
    ∙ ap (map read) (tab_next off (length xs) w h)
    ∙ map-append read (tab off (length xs) w) (get_or w (off + length xs) 0 ∷ [])
    ∙ rw (is, at, map-append f xs (x ∷ []))

-- ---- a sheet with the same tables

pub tables_same : {w0 : List ℕ} {s u : Sheet} → u.parents ≡ s.parents → u.rows ≡ s.rows → u.objects ≡ s.objects → u.slots ≡ s.slots → u.rules ≡ s.rules
    → HoldsTables w0 s → HoldsTables w0 u
tables_same p a o v r h = record {
  parents = rw p h.parents;
  smaller = rw p h.smaller;
  owners = rw a h.owners;
  names = rw a h.names;
  types = rw a h.types;
  objects = rw o h.objects;
  keys = rw v h.keys;
  starts = rw v h.starts;
  cells = rw v h.cells;
  fits = rw v h.fits;
  contexts = rw r h.contexts;
}

-- ---- a sheet with the same definitions

pub definitions_same : {w0 w1 : List ℕ} {s u : Sheet} → u.definitions ≡ s.definitions → u.lines ≡ s.lines → HoldsDefinitions w0 w1 s → HoldsDefinitions w0 w1 u
definitions_same d l h = record {
  contexts = rw d h.contexts;
  classes = rw d h.classes;
  types = rw d h.types;
  bodies = rw d h.bodies;
  roots = rw (d, l) h.roots;
  depths = rw d h.depths;
}

-- ---- the open definition or rule under other counts

pub open_kept : {st su : Counts} {w1 : List ℕ} {n : ℕ} {c : Option Current} → su.open ≡ st.open → su.context ≡ st.context → su.result ≡ st.result → su.first ≡ st.first
    → HoldsOpen st w1 n c → HoldsOpen su w1 n c
open_kept p q t r (closed e) = closed (p ∙ e)
open_kept p q t r (opened h) = opened (record {
  is_open = p ∙ h.is_open;
  of_rule = h.of_rule;
  context = q ∙ h.context;
  result = λ u e. ap type_in t ∙ h.result u e;
  first = r ∙ h.first;
  count = h.count;
  trees = h.trees;
  depths = h.depths;
  used = h.used;
})

-- The classes and rows of a sheet that lies in the words, as typing and evaluation read them. Assumes nothing.
use mathlib.Core.Path.{◌≡◌, refl}
use mathlib.Core.List.{List}
use Prim.Native.Nat.{ℕ, ◌≤◌, ◌<◌}
use native.Mathlib.Omega.{arith}
use lib.ListN.{length, get_or}
use Rattle.memory.specs.Map as memory
use Rattle.ocl.specs.Model.{Row}
use Rattle.sheet.specs.Sheet.{Sheet, no_row, schema_in}
use Rattle.types.specs.Word.{type_in}
use Rattle.nodes.specs.Classes.{HoldsClasses}
use Rattle.tables.specs.Layout.{tab, HoldsTables}
use Rattle.tables.proofs.Tables.{tab_at, entry_of, entry_by, parents_held}

-- the tables, each of at least as many words as it has entries
module _ {w0 : List ℕ} {s : Sheet} (h : HoldsTables w0 s) where
  row_back : (n i : ℕ) → length s.rows ≤ n → i < length s.rows
      → get_or s.rows i no_row ≡ record { owner = get_or (tab memory.owners n w0) i 0; name = get_or (tab memory.names n w0) i 0; type = type_in (get_or (tab memory.types n w0) i 0) }
  row_back n i l k =
      let z : i < n = omega arith in
      rw (
        tab_at 64 n w0 i z,
        tab_at 128 n w0 i z,
        tab_at 192 n w0 i z,
        entry_of (λ (r : Row). r.owner) memory.owners w0 s.rows no_row h.owners i k,
        entry_of (λ (r : Row). r.name) memory.names w0 s.rows no_row h.names i k,
        entry_by type_in (λ (r : Row). r.type) 192 w0 s.rows no_row h.types i k,
      ) refl

  pub classes_held : (c n : ℕ) → c ≡ length s.parents → length s.rows ≤ n
      → HoldsClasses (tab memory.parents c w0) (tab memory.owners n w0) (tab memory.names n w0) (tab memory.types n w0) (schema_in s)
  classes_held c n e l = record {
    parent = parents_held h c e;
    row = λ i k. row_back n i l k;
  }

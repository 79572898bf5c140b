-- A table at an offset of the words: one entry more, entries elsewhere, the classes' parents, and what stays. Assumes nothing.
use mathlib.Core.Path.{◌≡◌, refl, sym, ap, ◌∙◌, subst, fun_ext}
use mathlib.Core.Option.{Option, none, some}
use mathlib.Core.List.{List, map}
use Prim.Native.Nat.{ℕ, zero, suc, ◌+◌, ◌-◌, ◌≤◌, ◌<◌}
use native.Mathlib.Omega.{arith}
use lib.ListN
use lib.ListN.{length, get_or, take, drop, set, length-set, length-drop}
use lib.Seq.{length-take-le, take-set-le, drop-set-lt, drop-set-add, get_or-take, get_or-drop}
use lib.Dec.{leb}
use borrow.Author.Tests.{le-leb}
use Rattle.std.specs.Prelude.{if◌then◌else◌}
use Rattle.laws.specs.Lists.{Each, each_nil, each-cons}
use Rattle.laws.proofs.Elements.{get_d_map}
use Rattle.memory.specs.Map as memory
use Rattle.ocl.specs.Laws.{Small}
use Rattle.sheet.specs.Sheet.{Sheet}
use Rattle.types.specs.Flat.{parent_word, parent_of, parents_in}
use Rattle.tables.specs.Layout.{tab, parent_code, HoldsTables, Kept}

module _ (off n : ℕ) (w : List ℕ) where
  pub tab_length : off + n ≤ length w → length (tab off n w) ≡ n
  tab_length h = length-take-le n (drop off w) (let e = length-drop off w in omega arith)

  pub tab_at : (i : ℕ) → i < n → get_or (tab off n w) i 0 ≡ get_or w (off + i) 0
  tab_at i h = get_or-take n (drop off w) i 0 h ∙ get_or-drop off w i 0

  -- an entry before the table, and one after it
  pub tab_before : (i x : ℕ) → i < off → tab off n (set w i x) ≡ tab off n w
  tab_before i x h = ap (take n) (drop-set-lt off w i x h)

  pub tab_after : (i x : ℕ) → off + n ≤ i → tab off n (set w i x) ≡ tab off n w
  tab_after i x h =
      let e : off + (i - off) ≡ i = omega arith in
      ap (λ j. tab off n (set w j x)) (sym e) ∙ ap (take n) (drop-set-add off w (i - off) x) ∙ take-set-le n (drop off w) (i - off) x (omega arith)

-- ---- an entry of a whole table

-- a table of what f says of each element
pub entry_of : {A : Type 0} (f : A → ℕ) (off : ℕ) (w : List ℕ) (xs : List A) (d : A) → tab off (length xs) w ≡ map f xs
    → (i : ℕ) → i < length xs → get_or w (off + i) 0 ≡ f (get_or xs i d)
entry_of f off w xs d e i h = sym (tab_at off (length xs) w i h) ∙ ap (λ (l : List ℕ). get_or l i 0) e ∙ get_d_map f xs i d 0 h

-- a table whose words stand for what f says of each element
pub entry_by : {A B : Type 0} (read : ℕ → B) (f : A → B) (off : ℕ) (w : List ℕ) (xs : List A) (d : A) → map read (tab off (length xs) w) ≡ map f xs
    → (i : ℕ) → i < length xs → read (get_or w (off + i) 0) ≡ f (get_or xs i d)
entry_by {B = B} read f off w xs d e i h =
    ap read (sym (tab_at off (length xs) w i h))
    ∙ sym (ListN.get_or-map read (tab off (length xs) w) i 0)
    ∙ ap (λ (l : List B). get_or l i (read 0)) e
    ∙ get_d_map f xs i d (read 0) h

-- what holds of each word of a table
each_get_d : {P : ℕ → Type 0} {l : List ℕ} → Each P l → (i : ℕ) → i < length l → P (get_or l i 0)
each_get_d each_nil i h = absurd (omega arith)
each_get_d (each-cons p q) zero h = p
each_get_d (each-cons p q) (suc i) h = each_get_d q i (omega arith)

pub entry_each : {P : ℕ → Type 0} (off n : ℕ) (w : List ℕ) → off + n ≤ length w → Each P (tab off n w) → (i : ℕ) → i < n → P (get_or w (off + i) 0)
entry_each {P} off n w room q i h = subst P (tab_at off n w i h) (each_get_d q i (let e = tab_length off n w room in omega arith))

-- ---- parents: each is smaller, so that the guard of a parent's word never acts

parent_back : (c : ℕ) (o : Option ℕ) → ((p : ℕ) → o ≡ some p → p < c) → o ≡ parent_of (if leb (parent_code o) c then parent_code o else 0)
unfolding parent_code
parent_back c none h = rw (le-leb 0 c (omega arith))
parent_back c (some p) h = rw (le-leb (suc p) c (h p refl))

parents_back : (ps : List (Option ℕ)) → Small (λ c. get_or ps c none) → (c : ℕ) → get_or ps c none ≡ parents_in (map parent_code ps) c
unfolding parents_in parent_word parent_code
parents_back ps h c =
    let e : get_or (map parent_code ps) c 0 ≡ parent_code (get_or ps c none) = ListN.get_or-map parent_code ps c none in
    rw e (parent_back c (get_or ps c none) (h c))

pub parents_held : {w0 : List ℕ} {s : Sheet} → HoldsTables w0 s → (n : ℕ) → n ≡ length s.parents → (λ c. get_or s.parents c none) ≡ parents_in (tab memory.parents n w0)
parents_held {s = s} h n e = rw (e, h.parents) (fun_ext (parents_back s.parents h.smaller))

-- ---- the words from 8,192 on

pub kept_refl : (w : List ℕ) → Kept w w
kept_refl w = record { size = refl; rest = refl }

pub kept_set : (w : List ℕ) (i x : ℕ) → i < 8192 → Kept w (set w i x)
kept_set w i x h = record { size = length-set w i x; rest = drop-set-lt 8192 w i x h }

pub kept_then : {u v w : List ℕ} → Kept u v → Kept v w → Kept u w
kept_then p q = record { size = q.size ∙ p.size; rest = q.rest ∙ p.rest }

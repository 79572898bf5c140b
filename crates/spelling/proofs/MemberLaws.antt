-- Members one by one: none, the last, and one that others follow. What `put_members` asks of the calls in it, and what they give.
-- Assumes nothing.
use Prim.Native.Nat.{ℕ, suc, ◌+◌, ◌-◌, ◌<◌, ◌≤◌}
use mathlib.Core.Path.{◌≡◌, refl, sym, ap, ◌∙◌}
use mathlib.Core.List.{List, [], ◌∷◌, append-nil}
use native.Mathlib.Omega.{arith}
use lib.ListN.{length, length-append}
use Rattle.ocl.specs.Values.{Value, Values, nil, cons, count}
use Rattle.sheet.specs.Text.{Bytes, bytes}
use Rattle.sheet.specs.Spelling.{spell_value, spell_members, spell_more}
use Rattle.text.specs.Written.{Puts}
use Rattle.values.specs.Cells.{enc, encs, Fits, AllFit, fit_cons}
use Rattle.values.proofs.Encoding.{some_cells}
use Rattle.spelling.specs.declared.Next.{Next}
use Rattle.spelling.specs.Meanings.{CellsStand, ValueWaits, MembersWait, Wrote}
use Rattle.spelling.proofs.PutLaws.{puts_behind}
use Rattle.spelling.proofs.CellLaws.{stands_left, stands_right, value_within}
use Rattle.spelling.proofs.ValueLaws.{members_some}

-- what `put_next` and `put_members` promise
abbrev ValueWrote : List ℕ → ℕ → ℕ → Bytes → Bytes → Next → Type 0
ValueWrote cells at from a b r = (v : Value) → Fits v → CellsStand (enc v) cells from → Wrote (spell_value v) (length (enc v)) at from a b r

abbrev MembersWrote : ℕ → List ℕ → ℕ → ℕ → Bytes → Bytes → Next → Type 0
MembersWrote n cells at from a b r =
    (vs : Values) → AllFit vs → n ≡ count vs → CellsStand (encs vs) cells from → Wrote (spell_members vs) (length (encs vs)) at from a b r

-- ---- no member

pub bracket_room : {n at from room : ℕ} {cells : List ℕ} → MembersWait n at from cells room → at < room
bracket_room w = omega (arith, w.enough, members_some w.vs)

pub wrote_none : {n at from q : ℕ} {cells : List ℕ} {a b : Bytes} → n ≡ 0 → Puts at (41 ∷ []) a b q → MembersWrote n cells at from a b (record { at = q; from = from })
unfolding count encs spell_members bytes
wrote_none e p nil f m s = record { bytes = p; cells = omega arith }
wrote_none e p (cons v vs) f m s = absurd (omega arith)

-- ---- a member and what follows it

more_some : (vs : Values) → 0 < length (spell_more vs)
unfolding spell_more bytes
more_some nil = omega arith
more_some (cons v vs) = omega arith

more_members : (vs : Values) → (count vs ≡ 0 → ⊥) → spell_more vs ≡ 44 ∷ spell_members vs
unfolding count spell_more spell_members
more_members nil h = absurd (h refl)
more_members (cons v vs) h = refl

record First (n at from : ℕ) (cells : List ℕ) (room : ℕ) : Type 0 where
  v : Value
  vs : Values
  fits : Fits v
  more_fit : AllFit vs
  many : n ≡ suc (count vs)
  stands : CellsStand (enc v) cells from
  more_stand : CellsStand (encs vs) cells (from + length (enc v))
  enough : at + length (spell_value v) + length (spell_more vs) ≤ room

module _ {n at from room : ℕ} {cells : List ℕ} (w : MembersWait n at from cells room) (some : n ≡ 0 → ⊥) where
  first : First n at from cells room
  unfolding count encs spell_members
  first = go w.vs w.fits w.many w.stands w.enough
    where
      go : (vs : Values) → AllFit vs → n ≡ count vs → CellsStand (encs vs) cells from → at + length (spell_members vs) ≤ room → First n at from cells room
      go nil f m s e = absurd (some m)
      go (cons v vs) (fit_cons f g) m s e = record {
        v = v;
        vs = vs;
        fits = f;
        more_fit = g;
        many = m;
        stands = stands_left (enc v) (encs vs) s;
        more_stand = stands_right (enc v) (encs vs) s;
        enough = omega (arith, length-append (spell_value v) (spell_more vs));
      }

  pub value_waits : ValueWaits at from cells room
  value_waits = record { v = first.v; fits = first.fits; stands = first.stands; enough = omega (arith, first.enough) }

  pub cells_left : from < length cells
  cells_left = value_within first.v first.stands

  module _ {a b : Bytes} {r : Next} (one : ValueWrote cells at from a b r) where
    wrote_first : Wrote (spell_value first.v) (length (enc first.v)) at from a b r
    wrote_first = one first.v first.fits first.stands

    pub cells_passed : from < r.from
    cells_passed = omega (arith, wrote_first.cells, some_cells first.v)

    pub mark_room : r.at < room
    mark_room = omega (arith, wrote_first.bytes.end, first.enough, more_some first.vs)

    pub more_wait : {c : Bytes} {q k : ℕ} → Puts r.at (44 ∷ []) b c q → length c ≡ room → (n ≡ 1 → ⊥) → k ≡ n - 1 → MembersWait k q r.from cells (length c)
    more_wait comma kept several e = record {
      vs = first.vs;
      fits = first.more_fit;
      many = omega (arith, first.many);
      stands = rw wrote_first.cells first.more_stand;
      enough = omega (arith, wrote_first.bytes.end, comma.end, first.enough, ap length (more_members first.vs (λ z. several (omega (arith, first.many)))));
    }

module _ {n at from : ℕ} {cells : List ℕ} {a b : Bytes} {r : Next} (one : ValueWrote cells at from a b r) (same : length b ≡ length a) where
  pub wrote_last : {q : ℕ} {c : Bytes} → n ≡ 1 → Puts r.at (41 ∷ []) b c q → length c ≡ length b → MembersWrote n cells at from a c (record { at = q; from = r.from })
  unfolding count encs spell_members spell_more bytes
  wrote_last e p kept nil f m s = absurd (omega arith)
  wrote_last e p kept (cons v nil) (fit_cons f g) m s =
      let w = one v f (stands_left (enc v) [] s) in
      record { bytes = puts_behind w.bytes same p kept (omega arith); cells = w.cells ∙ ap (λ (l : List ℕ). from + length l) (sym (append-nil (enc v))) }
  wrote_last e p kept (cons v (cons u us)) f m s = absurd (omega arith)

  pub wrote_more : {q k : ℕ} {c d : Bytes} {t : Next} → (n ≡ 0 → ⊥) → (n ≡ 1 → ⊥) → k ≡ n - 1 → Puts r.at (44 ∷ []) b c q → length c ≡ length b
      → MembersWrote k cells q r.from c d t → length d ≡ length c → MembersWrote n cells at from a d t
  unfolding count encs spell_members spell_more bytes
  wrote_more some several e p kept more kept' nil f m s = absurd (some m)
  wrote_more some several e p kept more kept' (cons v nil) f m s = absurd (several m)
  wrote_more {q} {k} {c} {d} {t} some several e p kept more kept' (cons v (cons u us)) (fit_cons f g) m s =
      let vs : Values = cons u us in
      let w = one v f (stands_left (enc v) (encs vs) s) in
      let x : Wrote (spell_members vs) (length (encs vs)) q r.from c d t = more vs g (omega arith) (rw w.cells (stands_right (enc v) (encs vs) s)) in
      let y = puts_behind p kept x.bytes kept' (members_some vs) in
      record {
        bytes = puts_behind w.bytes same y (kept' ∙ kept) (omega arith);
        cells = x.cells ∙ (omega (arith, w.cells, length-append (enc v) (encs vs)));
      }

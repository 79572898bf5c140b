-- A value's spelling by its first cell: of one that is no collection, and of a collection with the spelling of its members.
-- What `put_next` asks of the calls in it, and what they give. Assumes nothing.
use Prim.Native.Nat.{ℕ, ◌+◌, ◌<◌, ◌≤◌}
use mathlib.Core.Path.{◌≡◌, refl, sym, ap, ◌∙◌}
use mathlib.Core.List.{List, [], ◌∷◌}
use native.Mathlib.Omega.{arith}
use lib.ListN.{length, get_or, length-append}
use Rattle.ocl.specs.Types.{Kind, kind_code}
use Rattle.ocl.specs.Values.{Value, bool, num, obj, coll, Values, nil, cons, count, sort, members}
use Rattle.sheet.specs.Text.{Bytes, bytes}
use Rattle.sheet.specs.Spelling.{kind_byte, spell_value, spell_members}
use Rattle.text.specs.Written.{Puts}
use Rattle.values.specs.Cells.{enc, encs, Fits, AllFit, kids}
use Rattle.values.specs.Meanings.{SortOf, SimpleOf, Means}
use Rattle.values.specs.declared.Simple.{Simple}
use Rattle.values.proofs.Heads.{members_fit, enc_parts, kids_head, sort_kind}
use Rattle.spelling.specs.declared.Next.{Next}
use Rattle.spelling.specs.Meanings.{SimpleWaits, CellsStand, ValueWaits, MembersWait, Wrote}
use Rattle.spelling.proofs.PutLaws.{puts_behind}
use Rattle.spelling.proofs.CellLaws.{first_cell, members_stand}

one_cell : (v : Value) → sort v < 3 → length (enc v) ≡ 1
unfolding enc
one_cell (bool b) h = refl
one_cell (num x) h = refl
one_cell (obj o) h = refl
one_cell (coll k vs) h = absurd (omega (arith, sort_kind k vs))

-- a value of a collection's sort is its kind's letter, a bracket, and its members
record Opens (v : Value) : Type 0 where
  kind : Kind
  sorted : sort v ≡ 3 + kind_code kind
  spelled : spell_value v ≡ kind_byte kind ∷ 40 ∷ spell_members (members v)

opens : (v : Value) → 3 ≤ sort v → Opens v
unfolding sort spell_value members
opens (bool b) h = absurd (omega arith)
opens (num x) h = absurd (omega arith)
opens (obj o) h = absurd (omega arith)
opens (coll k vs) h = record { kind = k; sorted = sort_kind k vs; spelled = refl }

-- the members' bracket at least
pub members_some : (vs : Values) → 0 < length (spell_members vs)
unfolding spell_members bytes
members_some nil = omega arith
members_some (cons v nil) = simp length-append (omega arith)
members_some (cons v (cons w ws)) = simp length-append (omega arith)

module _ {from s : ℕ} {cells : List ℕ} (so : SortOf (get_or cells from 0) s) where
  module _ {x : Simple} (is : SimpleOf (get_or cells from 0) x) (low : s < 3) where
    simple_value : (v : Value) → Fits v → CellsStand (enc v) cells from → Means x v
    simple_value v f st =
        let e = so.is v f (first_cell v st) in
        is.is v f (omega arith) (first_cell v st)

    pub simple_waits : {at room : ℕ} → ValueWaits at from cells room → SimpleWaits at x room
    simple_waits w = record { v = w.v; fits = w.fits; means = simple_value w.v w.fits w.stands; enough = w.enough }

    pub wrote_simple : {at r : ℕ} {a b : Bytes} → ((v : Value) → Fits v → Means x v → Puts at (spell_value v) a b r) → (v : Value) → Fits v → CellsStand (enc v) cells from
        → Wrote (spell_value v) (length (enc v)) at from a b (record { at = r; from = from + 1 })
    wrote_simple p v f st = record {
      bytes = p v f (simple_value v f st);
      cells = sym (ap (λ (n : ℕ). from + n) (one_cell v (let e = so.is v f (first_cell v st) in omega arith)));
    }

  module _ (high : 3 ≤ s) where
    opened : (v : Value) → Fits v → CellsStand (enc v) cells from → Opens v
    opened v f st = opens v (let e = so.is v f (first_cell v st) in omega arith)

    pub opening_room : {at room : ℕ} → ValueWaits at from cells room → at + 2 ≤ room
    opening_room w = omega (arith, w.enough, ap length (opened w.v w.fits w.stands).spelled)

    module _ {at q : ℕ} {a b : Bytes} (put : (k : Kind) → s ≡ 3 + kind_code k → Puts at (kind_byte k ∷ 40 ∷ []) a b q) (same : length b ≡ length a) where
      opening : (v : Value) (f : Fits v) (st : CellsStand (enc v) cells from) → Puts at (kind_byte (opened v f st).kind ∷ 40 ∷ []) a b q
      opening v f st = put (opened v f st).kind (so.is v f (first_cell v st) ∙ (opened v f st).sorted)

      pub members_wait : {n : ℕ} → n ≡ kids (get_or cells from 0) → ValueWaits at from cells (length a) → MembersWait n q (from + 1) cells (length b)
      members_wait {n} many w = record {
        vs = members w.v;
        fits = members_fit w.fits;
        many = many ∙ ap kids (first_cell w.v w.stands) ∙ kids_head w.fits;
        stands = members_stand w.v w.stands;
        enough = omega (arith, same, w.enough, ap length (opened w.v w.fits w.stands).spelled, (opening w.v w.fits w.stands).end);
      }

      pub wrote_opened : {n : ℕ} {c : Bytes} {r : Next}
          → ((vs : Values) → AllFit vs → n ≡ count vs → CellsStand (encs vs) cells (from + 1) → Wrote (spell_members vs) (length (encs vs)) q (from + 1) b c r)
          → length c ≡ length b → n ≡ kids (get_or cells from 0) → (v : Value) → Fits v → CellsStand (enc v) cells from
          → Wrote (spell_value v) (length (enc v)) at from a c r
      wrote_opened more kept many v f st =
          let m = more (members v) (members_fit f) (many ∙ ap kids (first_cell v st) ∙ kids_head f) (members_stand v st) in
          record {
            bytes = rw (opened v f st).spelled (puts_behind (opening v f st) same m.bytes kept (members_some (members v)));
            cells = m.cells ∙ (let e = ap length (enc_parts v) in omega arith);
          }

-- Which values belong to a type: letters and members. Assumes nothing.
use mathlib.Core.Path.{◌≡◌, refl, sym, ap, ◌∙◌}
use mathlib.Core.Bool.{Bool, true, false, ◌&&◌}
use mathlib.Core.List.{List, [], ◌∷◌}
use Prim.Native.Nat.{ℕ, zero, suc, ◌+◌, ◌-◌, ◌<◌, ◌≤◌}
use native.Mathlib.Omega.{arith}
use lib.ListN.{length, get_or}
use lib.Seq.{slice, slice-cons}
use lib.Dec.{eqb, leb}
use borrow.Author.Tests.{lt-leb}
use Rattle.laws.proofs.Slices.{split_right}
use Rattle.ocl.specs.Types.{Kind, set, sequence, bag, kind_code, same_kind, Letter, collection, exactly, Ty, around, letter_subtype}
use Rattle.ocl.specs.Values.{Value, bool, num, obj, coll, Values, sort, members}
use Rattle.ocl.specs.Model.{Model, every, belongs}
use Rattle.types.specs.declared.FlatType.{FlatType}
use Rattle.types.specs.Flat.{letter_of, ty_of, under}
use Rattle.types.proofs.Members.{ends, goes_on}
use Rattle.values.specs.Cells.{head, enc, encs, Fits}
use Rattle.values.specs.Meanings.{SortOf, Skips}
use Rattle.values.proofs.Heads.{enc_parts, members_fit, sort_kind}
use Rattle.values.proofs.Members.{Left, next_member, none_left}
use Rattle.slots.specs.Suits.{Seen, BaseSuits, kind_below, LetterSuits, BelongsAt}

-- ---- a letter

kind_letter : (n : ℕ) (k : Kind) (vs : Values) → 2 ≤ n → n ≤ 4 → eqb (sort (coll k vs)) (n + 1) ≡ letter_subtype (exactly k) (letter_of n)
unfolding letter_of letter_subtype same_kind kind_code sort
kind_letter zero k vs a b = absurd (omega arith)
kind_letter (suc zero) k vs a b = absurd (omega arith)
kind_letter (suc (suc zero)) set vs a b = refl
kind_letter (suc (suc zero)) sequence vs a b = refl
kind_letter (suc (suc zero)) bag vs a b = refl
kind_letter (suc (suc (suc zero))) set vs a b = refl
kind_letter (suc (suc (suc zero))) sequence vs a b = refl
kind_letter (suc (suc (suc zero))) bag vs a b = refl
kind_letter (suc (suc (suc (suc zero)))) set vs a b = refl
kind_letter (suc (suc (suc (suc zero)))) sequence vs a b = refl
kind_letter (suc (suc (suc (suc zero)))) bag vs a b = refl
kind_letter (suc (suc (suc (suc (suc n))))) k vs a b = absurd (omega arith)

one_letter : (n : ℕ) (v : Value) → 2 ≤ n → n ≤ 4 → 3 ≤ sort v → eqb (sort v) (n + 1) ≡ kind_below (letter_of n) v
unfolding kind_below sort
one_letter n (bool x) a b h = absurd (omega arith)
one_letter n (num x) a b h = absurd (omega arith)
one_letter n (obj x) a b h = absurd (omega arith)
one_letter n (coll k vs) a b h = kind_letter n k vs a b

any_letter : (l : Letter) → l ≡ collection → (v : Value) → 3 ≤ sort v → true ≡ kind_below l v
unfolding kind_below sort letter_subtype
any_letter l z (bool x) e = absurd (omega arith)
any_letter l z (num x) e = absurd (omega arith)
any_letter l z (obj x) e = absurd (omega arith)
any_letter l z (coll k vs) e = rw z

module _ {letter cell t : ℕ} (so : SortOf cell t) where
  pub letter_none : t < 3 → LetterSuits letter cell (leb 3 t)
  unfolding kind_below sort
  letter_none h = record { is = λ v f ce. lt-leb 3 t h ∙ go v (let q = so.is v f ce in omega arith) }
    where
      go : (v : Value) → sort v < 3 → false ≡ kind_below (letter_of letter) v
      go (bool x) e = refl
      go (num x) e = refl
      go (obj x) e = refl
      go (coll k vs) e = absurd (let q = sort_kind k vs in omega arith)

  pub letter_any : 3 ≤ t → letter_of letter ≡ collection → LetterSuits letter cell true
  letter_any h z = record { is = λ v f ce. any_letter (letter_of letter) z v (let q = so.is v f ce in omega arith) }

  pub letter_kind : 3 ≤ t → 2 ≤ letter → letter ≤ 4 → LetterSuits letter cell (eqb t (letter + 1))
  letter_kind h a b = record { is = λ v f ce. let q = so.is v f ce in ap (λ (i : ℕ). eqb i (letter + 1)) q ∙ one_letter letter v a b (omega arith) }

-- ---- a collection's members: the loop of `belongs`

pub record Some (cells : List ℕ) (m : Model) (u : Ty) (v : Value) (q end : ℕ) (r : Bool) : Type 0 where
  pub rest : Values
  pub left : Left cells q end rest
  pub same : r ≡ every (belongs m u) rest

pub record Belonging (parents objects cells : List ℕ) (p end : ℕ) (u : FlatType) (q : ℕ) : Type 0 where
  pub room : end ≤ length cells
  pub below : q ≤ end
  pub above : p < q
  pub going : (m : Model) (v : Value) → Seen parents objects m → Fits v → slice p end cells ≡ enc v → Some cells m (ty_of u) v q end (every (belongs m (ty_of u)) (members v))

-- the value's letter suits, so that its members decide
pub record Around (cells : List ℕ) (p end : ℕ) (t u : FlatType) : Type 0 where
  pub law : (m : Model) (v : Value) → Fits v → slice p end cells ≡ enc v → belongs m (ty_of t) v ≡ every (belongs m (ty_of u)) (members v)

first_at : (cells : List ℕ) (p end : ℕ) (v : Value) → p < end → end ≤ length cells → slice p end cells ≡ enc v → get_or cells p 0 ≡ head v
first_at cells p end v h room e = ap (λ (l : List ℕ). get_or l 0 0) (sym (slice-cons p end cells 0 h room) ∙ e ∙ enc_parts v)

around_law : (cells : List ℕ) (p end : ℕ) (t : FlatType) {b : Bool} → p < end → end ≤ length cells → (t.outer ≡ 0 → ⊥) → LetterSuits t.outer (get_or cells p 0) b
    → (m : Model) (v : Value) → Fits v → slice p end cells ≡ enc v → belongs m (ty_of t) v ≡ b && every (belongs m (ty_of (under t))) (members v)
unfolding belongs kind_below members
around_law cells p end t {b} h room n l m v f e = ap (λ (u : Ty). belongs m u v) (goes_on t n) ∙ parts v (l.is v f (first_at cells p end v h room e))
  where
    parts : (v : Value) → b ≡ kind_below (letter_of t.outer) v → belongs m (around (letter_of t.outer) (ty_of (under t))) v ≡ b && every (belongs m (ty_of (under t))) (members v)
    parts (bool x) d = rw d
    parts (num x) d = rw d
    parts (obj x) d = rw d
    parts (coll k vs) d = rw d

module _ {parents objects cells : List ℕ} {p end : ℕ} {t : FlatType} (h : p < end) (room : end ≤ length cells) where
  pub belongs_base : {r : Bool} → t.outer ≡ 0 → BaseSuits parents objects t.base (get_or cells p 0) r → BelongsAt parents objects cells p end t r
  belongs_base z b = record { is = λ m v sn f e. b.is m v sn f (first_at cells p end v h room e) ∙ ap (λ (u : Ty). belongs m u v) (sym (ends t z)) }

  module _ {b : Bool} (n : t.outer ≡ 0 → ⊥) (l : LetterSuits t.outer (get_or cells p 0) b) where
    pub belongs_other : b ≡ false → BelongsAt parents objects cells p end t false
    belongs_other z = record { is = λ m v sn f e. sym (around_law cells p end t h room n l m v f e ∙ ap (λ (x : Bool). x && every (belongs m (ty_of (under t))) (members v)) z) }

pub belongs_around : {cells : List ℕ} {p end : ℕ} {t u : FlatType} {b : Bool} → p < end → end ≤ length cells → (t.outer ≡ 0 → ⊥) → LetterSuits t.outer (get_or cells p 0) b → b ≡ true → u ≡ under t → Around cells p end t u
belongs_around {cells} {p} {end} {t} h room n l z ue = rw ue (record { law = λ m v f e. around_law cells p end t h room n l m v f e ∙ ap (λ (x : Bool). x && every (belongs m (ty_of (under t))) (members v)) z })

pub belongs_start : {parents objects cells : List ℕ} {p end : ℕ} → p < end → end ≤ length cells → (u : FlatType) → Belonging parents objects cells p end u (p + 1)
belongs_start {cells = cells} {p} {end} h room u = record {
  room = room;
  below = omega arith;
  above = omega arith;
  going = λ m v sn f e. record {
    rest = members v;
    left = record { fits = members_fit f; lies = split_right cells p end (head v ∷ []) (encs (members v)) room (omega arith) (e ∙ enc_parts v) };
    same = refl;
  };
}

module _ {parents objects cells : List ℕ} {p end q : ℕ} {u : FlatType} (F : Belonging parents objects cells p end u q) where
  pub belongs_end : {t : FlatType} → Around cells p end t u → end ≤ q → BelongsAt parents objects cells p end t true
  unfolding every
  belongs_end a h = record {
    is = λ m v sn f e.
        let G = F.going m v sn f e in
        sym (a.law m v f e ∙ G.same ∙ ap (every (belongs m (ty_of u))) (none_left G.left (let b = F.below in omega arith)));
  }

  module _ {r : ℕ} {b : Bool} (h : q < end) (k : Skips q end cells r) (c : BelongsAt parents objects cells q r u b) where
    record Step (m : Model) (v : Value) : Type 0 where
      ws : Values
      left : Left cells r end ws
      same : every (belongs m (ty_of u)) (members v) ≡ (b && every (belongs m (ty_of u)) ws)

    stepped : (m : Model) (v : Value) → Seen parents objects m → Fits v → slice p end cells ≡ enc v → Step m v
    unfolding every
    stepped m v sn f e =
        let G = F.going m v sn f e in
        let N = next_member F.room h k G.left in
        let z : q + (r - q) ≡ r = let a = N.at in omega arith in
        let d : slice q r cells ≡ enc N.w = ap (λ (i : ℕ). slice q i cells) (sym z) ∙ N.cells in
        let y : b ≡ belongs m (ty_of u) N.w = c.is m N.w sn N.fits d in
        record {
          ws = N.ws;
          left = N.left;
          same = G.same ∙ ap (every (belongs m (ty_of u))) N.are ∙ ap (λ (x : Bool). x && every (belongs m (ty_of u)) N.ws) (sym y);
        }

    pub belongs_not : {t : FlatType} → Around cells p end t u → b ≡ false → BelongsAt parents objects cells p end t false
    belongs_not a z = record { is = λ m v sn f e. let S = stepped m v sn f e in sym (a.law m v f e ∙ S.same ∙ ap (λ (x : Bool). x && every (belongs m (ty_of u)) S.ws) z) }

    pub belongs_again : b ≡ true → Belonging parents objects cells p end u r
    belongs_again z = record {
      room = F.room;
      below = k.within;
      above = let a = F.above in let u = k.up h in omega arith;
      going = λ m v sn f e. let S = stepped m v sn f e in record { rest = S.ws; left = S.left; same = S.same ∙ ap (λ (x : Bool). x && every (belongs m (ty_of u)) S.ws) z };
    }

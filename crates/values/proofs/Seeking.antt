-- The loop of `includes`: whether v is among all members is whether it is among those left. Assumes nothing.
use mathlib.Core.Path.{◌≡◌, refl, sym, ap, ◌∙◌}
use mathlib.Core.Bool.{Bool, true, false, ◌||◌}
use mathlib.Core.List.{List}
use Prim.Native.Nat.{ℕ, ◌+◌, ◌-◌, ◌<◌, ◌≤◌}
use native.Mathlib.Omega.{arith}
use lib.ListN.{length}
use lib.Seq.{slice}
use Rattle.ocl.specs.Values.{Value, Values, has, same as same_value}
use Rattle.values.specs.Cells.{enc, encs, Fits, AllFit}
use Rattle.values.specs.Meanings.{Skips, SameAt, HasAt}
use Rattle.values.proofs.Members.{Left, Next, next_member, none_left}

pub record Sought (v : Value) (vs : Values) (S : List ℕ) (q end : ℕ) : Type 0 where
  pub rest : Values
  pub left : Left S q end rest
  pub same : has v vs ≡ has v rest

pub record Seeking (S : List ℕ) (from end le q : ℕ) : Type 0 where
  pub room : end + le ≤ length S
  pub below : q ≤ end
  pub going : (v : Value) (vs : Values) → Fits v → AllFit vs → slice from end S ≡ encs vs → slice end (end + le) S ≡ enc v → Sought v vs S q end

pub seek_start : {S : List ℕ} {from end le : ℕ} → end + le ≤ length S → from ≤ end → Seeking S from end le from
seek_start room h = record { room = room; below = h; going = λ v vs g gs e f. record { rest = vs; left = record { fits = gs; lies = e }; same = refl } }

module _ {S : List ℕ} {from end le q r : ℕ} (F : Seeking S from end le q) (h : q < end) (k : Skips q end S r) where
  record Look (v : Value) (vs : Values) : Type 0 where
    rest : Values
    next : Next S q end r rest
    same : has v vs ≡ (same_value v next.w || has v next.ws)

  looked : (v : Value) (vs : Values) → Fits v → AllFit vs → slice from end S ≡ encs vs → slice end (end + le) S ≡ enc v → Look v vs
  unfolding has
  looked v vs g gs e f =
      let G = F.going v vs g gs e f in
      let N = next_member (let l = F.room in omega arith) h k G.left in
      record { rest = G.rest; next = N; same = G.same ∙ ap (has v) N.are }

  pub seek_found : {b : Bool} → SameAt S end le q (r - q) b → b ≡ true → HasAt S from end le true
  seek_found c z = record {
    is = λ v vs g gs e f.
        let t = looked v vs g gs e f in
        let y : same_value v t.next.w ≡ true = sym (c.is v t.next.w g t.next.fits f t.next.cells) ∙ z in
        sym (t.same ∙ rw y);
  }

  pub seek_again : {b : Bool} → SameAt S end le q (r - q) b → b ≡ false → Seeking S from end le r
  seek_again c z = record {
    room = F.room;
    below = k.within;
    going = λ v vs g gs e f.
        let t = looked v vs g gs e f in
        let y : same_value v t.next.w ≡ false = sym (c.is v t.next.w g t.next.fits f t.next.cells) ∙ z in
        record { rest = t.next.ws; left = t.next.left; same = t.same ∙ rw y };
  }

pub seek_end : {S : List ℕ} {from end le q : ℕ} → Seeking S from end le q → end ≤ q → HasAt S from end le false
unfolding has
seek_end F h = record {
  is = λ v vs g gs e f.
      let G = F.going v vs g gs e f in
      sym (G.same ∙ rw (none_left G.left (let k = F.below in omega arith)));
}

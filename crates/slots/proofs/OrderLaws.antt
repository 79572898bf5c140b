-- The order of members: rows of members make a whole ordered, and the two loops over them. Assumes nothing.
use mathlib.Core.Path.{◌≡◌, refl, sym, ap, ◌∙◌}
use mathlib.Core.Bool.{Bool, true, false, ◌&&◌, and-true, and_assoc}
use mathlib.Core.List.{List, [], ◌∷◌, ◌++◌, append_assoc, append-nil}
use Prim.Native.Nat.{ℕ, ◌+◌, ◌-◌, ◌<◌, ◌≤◌, Ordering as Compared}
use native.Mathlib.Omega.{arith}
use lib.ListN.{length, get_or}
use lib.Seq.{slice, slice-cons, length-slice, take-length}
use lib.Dec.{eqb}
use Rattle.std.specs.Prelude.{if◌then◌else◌}
use Rattle.std.specs.declared.cmp.Ordering.{Ordering as Library}
use Rattle.std.specs.declared.cmp.Ordering.TheVariants.{Greater}
use Rattle.std.specs.Ordering.{is_lt, is_le}
use Rattle.laws.proofs.Slices.{split_left, split_right}
use Rattle.ocl.specs.Types.{Kind, set, sequence, bag}
use Rattle.ocl.specs.Values.{Value, bool, num, obj, coll, Values, nil, cons, sort, members, order}
use Rattle.reals.specs.Reals.{is_less}
use Rattle.sheet.specs.Refusals.{may_follow, followed, ordered, all_ordered}
use Rattle.values.specs.Cells.{head, enc, encs, Fits, AllFit, fit_nil, fit_cons, lex, ordering}
use Rattle.values.specs.Meanings.{SortOf, Skips}
use Rattle.values.proofs.Heads.{enc_parts, members_fit}
use Rattle.values.proofs.Encoding.{order_law}
use Rattle.values.proofs.Forming.{after_value}
use Rattle.values.proofs.Members.{Left, next_member, none_left}
use Rattle.slots.specs.Machine.{glue}
use Rattle.slots.specs.Order.{follows, row, members_in_order, RowAt, OrderIs}

-- ---- rows make the whole

follows_kind : (k : Kind) (vs : Values) (o : Compared) → follows (sort (coll k vs)) (ordering o) ≡ may_follow k o
unfolding follows sort ordering may_follow is_less
follows_kind set vs Compared.lt = refl
follows_kind set vs Compared.eq = refl
follows_kind set vs Compared.gt = refl
follows_kind sequence vs o = refl
follows_kind bag vs Compared.lt = refl
follows_kind bag vs Compared.eq = refl
follows_kind bag vs Compared.gt = refl

unfoldable pub each_ordered : Values → Bool
each_ordered nil = true
each_ordered (cons v vs) = ordered v && each_ordered vs

three : (a b c d : Bool) → a && b && (c && d) ≡ (b && c) && (a && d)
three true true c d = refl
three true false c d = refl
three false true true d = refl
three false true false d = refl
three false false c d = refl

coll_ordered : (k : Kind) (us vs : Values) → all_ordered k vs ≡ row (sort (coll k us)) vs && each_ordered vs
unfolding all_ordered row each_ordered followed
coll_ordered k us nil = refl
coll_ordered k us (cons v nil) = plain (ordered v)
  where
    plain : (a : Bool) → a && true && true ≡ true && (a && true)
    plain true = refl
    plain false = refl
coll_ordered k us (cons v (cons w ws)) =
    ap (λ (b : Bool). ordered v && may_follow k (order v w) && b) (coll_ordered k us (cons w ws))
    ∙ rw (← follows_kind k us (order v w)) (three (ordered v) (follows (sort (coll k us)) (ordering (order v w))) (row (sort (coll k us)) (cons w ws)) (each_ordered (cons w ws)))

-- a value is ordered where its own members are in a row, and each of them is ordered
ordered_law : (v : Value) → ordered v ≡ members_in_order v && each_ordered (members v)
unfolding ordered members_in_order members row each_ordered
ordered_law (bool b) = refl
ordered_law (num x) = refl
ordered_law (obj o) = refl
ordered_law (coll k vs) = coll_ordered k vs vs

each_glue : (us vs : Values) → each_ordered (glue us vs) ≡ each_ordered us && each_ordered vs
unfolding glue each_ordered
each_glue nil vs = refl
each_glue (cons u us) vs = ap (λ (b : Bool). ordered u && b) (each_glue us vs) ∙ sym (and_assoc (ordered u) (each_ordered us) (each_ordered vs))

encs_glue : (us vs : Values) → encs (glue us vs) ≡ encs us ++ encs vs
unfolding glue encs
encs_glue nil vs = refl
encs_glue (cons u us) vs = ap (λ (l : List ℕ). enc u ++ l) (encs_glue us vs) ∙ sym (append_assoc (enc u) (encs us) (encs vs))

glue_fits : {us vs : Values} → AllFit us → AllFit vs → AllFit (glue us vs)
unfolding glue
glue_fits fit_nil g = g
glue_fits (fit_cons f fs) g = fit_cons f (glue_fits fs g)

-- ---- a value's own members: the loop of `in_row`

-- where a greater member may come first, each may follow each
free_follows : (t : ℕ) (c : Library) → follows t Greater ≡ true → follows t c ≡ true
unfolding follows
free_follows t c e = go (eqb t 3) (eqb t 5) e
  where
    go : (a b : Bool) → (if a then is_lt Greater else if b then is_le Greater else true) ≡ true → (if a then is_lt c else if b then is_le c else true) ≡ true
    go true b h = absurd (let z : ◌≡◌ {A = ℕ} 0 1 = cc in omega arith)
    go false true h = absurd (let z : ◌≡◌ {A = ℕ} 0 1 = cc in omega arith)
    go false false h = refl

free_row : (t : ℕ) → follows t Greater ≡ true → (vs : Values) → row t vs ≡ true
unfolding row
free_row t e nil = refl
free_row t e (cons v nil) = refl
free_row t e (cons v (cons w ws)) = rw (free_follows t (ordering (order v w)) e, free_row t e (cons w ws))

pub row_free : {S : List ℕ} {p t : ℕ} {b : Bool} → p < length S → SortOf (get_or S p 0) t → b ≡ follows t Greater → b ≡ true → RowAt S p true
unfolding members_in_order
row_free {S} {p} {t} h so got z = record { is = λ v y f e. told v y f e }
  where
    told : (v : Value) (y : List ℕ) → Fits v → slice p (length S) S ≡ enc v ++ y → true ≡ members_in_order v
    told v y f e =
        let g : get_or S p 0 ≡ head v = sym (ap (λ (l : List ℕ). get_or l 0 0) (slice-cons p (length S) S 0 h (omega arith))) ∙ ap (λ (l : List ℕ). get_or l 0 0) (e ∙ ap (λ (l : List ℕ). l ++ y) (enc_parts v)) in
        sym (ap (λ (n : ℕ). row n (members v)) (sym (so.is v f g)) ∙ free_row t (sym got ∙ z) (members v))

pub record InRow (S : List ℕ) (v : Value) (sort end q : ℕ) : Type 0 where
  pub rest : Values
  pub left : Left S q end rest
  pub same : members_in_order v ≡ row sort rest

pub record Rowing (S : List ℕ) (p sort end q : ℕ) : Type 0 where
  pub room : end ≤ length S
  pub below : q ≤ end
  pub going : (v : Value) (y : List ℕ) → Fits v → slice p (length S) S ≡ enc v ++ y → InRow S v sort end q

pub row_start : {S : List ℕ} {p t end : ℕ} → p < length S → SortOf (get_or S p 0) t → Skips p (length S) S end → Rowing S p t end (p + 1)
unfolding members_in_order
row_start {S} {p} {t} {end} h so sk = record {
  room = sk.within;
  below = let u = sk.up h in omega arith;
  going = λ v y f e. begin v y f e;
}
  where
    begin : (v : Value) (y : List ℕ) → Fits v → slice p (length S) S ≡ enc v ++ y → InRow S v t end (p + 1)
    begin v y f e =
        let a = after_value y f e sk in
        let c = split_left S p (length S) (enc v) y (omega arith) (omega arith) e in
        let d : slice p end S ≡ (head v ∷ []) ++ encs (members v) = rw a (c ∙ enc_parts v) in
        let x : slice (p + 1) end S ≡ encs (members v) = split_right S p end (head v ∷ []) (encs (members v)) sk.within (omega (arith, sk.up h)) d in
        let g : get_or S p 0 ≡ head v = sym (ap (λ (l : List ℕ). get_or l 0 0) (slice-cons p end S 0 (sk.up h) sk.within)) ∙ ap (λ (l : List ℕ). get_or l 0 0) d in
        record { rest = members v; left = record { fits = members_fit f; lies = x }; same = ap (λ (n : ℕ). row n (members v)) (sym (so.is v f g)) }

pub row_end : {S : List ℕ} {p t end q : ℕ} → Rowing S p t end q → end ≤ q → RowAt S p true
unfolding row
row_end F h = record { is = λ v y f e. let G = F.going v y f e in sym (G.same ∙ rw (none_left G.left (let b = F.below in omega arith))) }

module _ {S : List ℕ} {p t end q r : ℕ} (F : Rowing S p t end q) (h : q < end) (k : Skips q end S r) where
  pub row_last : r ≡ end → RowAt S p true
  unfolding row
  row_last z = record {
    is = λ v y f e.
        let G = F.going v y f e in
        let N = next_member F.room h k G.left in
        sym (G.same ∙ rw (N.are, none_left N.left z));
  }

  module _ {m : ℕ} {c : Library} {b : Bool} (l : (r ≡ end → ⊥)) (j : Skips r end S m)
      (cmp : c ≡ ordering (lex (slice q (q + (r - q)) S) (slice r (r + (m - r)) S))) (got : b ≡ follows t c) where
    record Two (v : Value) : Type 0 where
      w : Value
      ws : Values
      left : Left S r end ws
      same : members_in_order v ≡ (b && row t ws)

    two : (v : Value) (y : List ℕ) → Fits v → slice p (length S) S ≡ enc v ++ y → Two v
    unfolding row
    two v y f e =
        let G = F.going v y f e in
        let N = next_member F.room h k G.left in
        let M = next_member F.room (let x = k.within in omega arith) j N.left in
        let z : c ≡ ordering (order N.w M.w) = cmp ∙ rw (N.cells, M.cells) (ap ordering (order_law N.fits M.fits)) in
        record {
          w = N.w;
          ws = N.ws;
          left = N.left;
          same = G.same ∙ ap (row t) (N.are ∙ ap (cons N.w) M.are) ∙ rw (← z, ← got) (ap (λ (x : Values). b && row t x) (sym M.are));
        }

    pub row_not : b ≡ false → RowAt S p false
    row_not z = record { is = λ v y f e. sym ((two v y f e).same ∙ ap (λ (a : Bool). a && row t (two v y f e).ws) z) }

    pub row_again : b ≡ true → Rowing S p t end r
    row_again z = record {
      room = F.room;
      below = k.within;
      going = λ v y f e. let T = two v y f e in record { rest = T.ws; left = T.left; same = T.same ∙ ap (λ (a : Bool). a && row t T.ws) z };
    }

-- ---- all values in a value: the loop of `in_order`

pub record Ordered (S : List ℕ) (v : Value) (p : ℕ) : Type 0 where
  pub rest : Values
  pub left : Left S p (length S) rest
  pub same : ordered v ≡ each_ordered rest

pub record Ordering (S : List ℕ) (p : ℕ) : Type 0 where
  pub within : p ≤ length S
  pub going : (v : Value) → Fits v → S ≡ enc v → Ordered S v p

pub order_start : (S : List ℕ) → Ordering S 0
unfolding encs each_ordered
order_start S = record {
  within = omega arith;
  going = λ v f e. record { rest = cons v nil; left = record { fits = fit_cons f fit_nil; lies = take-length S ∙ e ∙ sym (append-nil (enc v)) }; same = sym (and-true (ordered v)) };
}

module _ {S : List ℕ} {p : ℕ} (F : Ordering S p) where
  pub order_end : length S ≤ p → OrderIs S true
  unfolding each_ordered
  order_end h = record { is = λ v f e. let G = F.going v f e in sym (G.same ∙ rw (none_left G.left (let b = F.within in omega arith))) }

  module _ {b : Bool} (h : p < length S) (r : RowAt S p b) where
    record Turned (v : Value) : Type 0 where
      w : Value
      ws : Values
      left : Left S (p + 1) (length S) (glue (members w) ws)
      same : ordered v ≡ (b && each_ordered (glue (members w) ws))

    turned : (v : Value) → Fits v → S ≡ enc v → Turned v
    unfolding encs each_ordered
    turned v f e = let G = F.going v f e in by G.rest G.left.fits G.left.lies G.same
      where
        by : (rest : Values) → AllFit rest → slice p (length S) S ≡ encs rest → ordered v ≡ each_ordered rest → Turned v
        by nil g d s = absurd (let a = sym (length-slice p (length S) S (omega arith)) ∙ ap length d in omega arith)
        by (cons w ws) (fit_cons g gs) d s =
            let x : slice p (length S) S ≡ (head w ∷ []) ++ encs (glue (members w) ws) = d ∙ ap (λ (l : List ℕ). l ++ encs ws) (enc_parts w) ∙ ap (λ (l : List ℕ). head w ∷ l) (sym (encs_glue (members w) ws)) in
            record {
              w = w;
              ws = ws;
              left = record { fits = glue_fits (members_fit g) gs; lies = split_right S p (length S) (head w ∷ []) (encs (glue (members w) ws)) (omega arith) (omega arith) x };
              same = s ∙ ap (λ (a : Bool). a && each_ordered ws) (ordered_law w) ∙ and_assoc (members_in_order w) (each_ordered (members w)) (each_ordered ws) ∙ rw (r.is w (encs ws) g d) (ap (λ (a : Bool). members_in_order w && a) (sym (each_glue (members w) ws)));
            }

    pub order_not : b ≡ false → OrderIs S false
    order_not z = record { is = λ v f e. let T = turned v f e in sym (T.same ∙ ap (λ (a : Bool). a && each_ordered (glue (members T.w) T.ws)) z) }

    pub order_again : b ≡ true → Ordering S (p + 1)
    order_again z = record {
      within = omega arith;
      going = λ v f e. let T = turned v f e in record { rest = glue (members T.w) T.ws; left = T.left; same = T.same ∙ ap (λ (a : Bool). a && each_ordered (glue (members T.w) T.ws)) z };
    }

-- Members that are each changed, and what they make when they are gathered through another collection. Assumes nothing.
use mathlib.Core.Path.{◌≡◌, refl, sym, ap, ◌∙◌}
use mathlib.Core.Bool.{Bool, true, false}
use Prim.Native.Nat.{Ordering}
use Rattle.ocl.specs.Types.{Kind, set, sequence, bag}
use Rattle.ocl.specs.Values.{Value, Values, nil, cons, order, put, insert, append, add, add_all}
use Rattle.ocl.proofs.Values.{Every, every_nil, every_cons, add_every}
use Rattle.ocl.proofs.NumbersKept.{AllKept}
use Rattle.profile.proofs.Arranged.{told, InLine, Tidy, tidy_nil, tidy_add, tidy_all, line_set, line_bag}
use Rattle.profile.proofs.Adding.{add_swap, add_twice, add_last, joined, sequence_joined, sequence_self}

-- ---- members changed one by one

unfoldable pub each : (Value → Value) → Values → Values
each f nil = nil
each f (cons v vs) = cons (f v) (each f vs)

pub changed_kept : (f : Value → Value) → ((v : Value) → AllKept v → AllKept (f v)) → {vs : Values} → Every AllKept vs → Every AllKept (each f vs)
unfolding each
changed_kept f g every_nil = every_nil
changed_kept f g (every_cons {v} p h) = every_cons (g v p) (changed_kept f g h)

-- how a member may be inserted if it is to go on into kind k: with repeats, or into a Set
data Inserts : Bool → Kind → Type 0 where
  with_repeats : {k : Kind} → Inserts true k
  into_set : Inserts false set

-- what goes into a Set or a Bag through another collection goes into it as if directly; but a Set drops repeats, which a Bag would take
pub data Through : Kind → Kind → Type 0 where
  through_sequence : {k : Kind} → Through sequence k
  through_bag : {k : Kind} → Through bag k
  through_set : Through set set

pub through_self : {k : Kind} → InLine k → Through k k
through_self line_set = through_set
through_self line_bag = through_bag

module _ (f : Value → Value) (keeps : (v : Value) → AllKept v → AllKept (f v)) where
  put_through : {k : Kind} → InLine k → {b : Bool} → Inserts b k → (v w : Value) (ws more acc : Values) (o : Ordering) → order v w ≡ o → AllKept v → AllKept w → Tidy k acc
      → add_all k (each f more) (add k (f w) acc) ≡ add_all k (each f ws) (add k (f v) (add k (f w) acc))
      → add_all k (each f (put b o v w ws more)) acc ≡ add_all k (each f ws) (add k (f w) (add k (f v) acc))
  unfolding put each add_all
  put_through l c v w ws more acc Ordering.lt e p q h g = refl
  put_through l with_repeats v w ws more acc Ordering.eq e p q h g = refl
  put_through l into_set v w ws more acc Ordering.eq e p q h g =
      let i = told v w p q e in
      ap (add_all set (each f ws)) (sym (ap (λ x. add set (f w) (add set (f x) acc)) i ∙ add_twice (f w) acc (keeps w q) h))
  put_through {k} l c v w ws more acc Ordering.gt e p q h g = g ∙ ap (add_all k (each f ws)) (add_swap l (f v) (f w) acc (keeps v p) (keeps w q) h)

  insert_through : {k : Kind} → InLine k → {b : Bool} → Inserts b k → (v : Value) {vs : Values} (acc : Values) → AllKept v → Every AllKept vs → Tidy k acc
      → add_all k (each f (insert b v vs)) acc ≡ add_all k (each f vs) (add k (f v) acc)
  unfolding insert each add_all
  insert_through l c v acc p every_nil h = refl
  insert_through {k} l {b} c v acc p (every_cons {v = w} {vs = ws} q r) h =
      put_through l c v w ws (insert b v ws) acc (order v w) refl p q h (insert_through l c v (add k (f w) acc) p r (tidy_add k (f w) (keeps w q) h))

  append_through : {k : Kind} → InLine k → (v : Value) {vs : Values} (acc : Values) → AllKept v → Every AllKept vs → Tidy k acc
      → add_all k (each f (append v vs)) acc ≡ add_all k (each f vs) (add k (f v) acc)
  unfolding append each add_all
  append_through l v acc p every_nil h = refl
  append_through {k} l v acc p (every_cons {v = w} {vs = ws} q r) h =
      append_through l v (add k (f w) acc) p r (tidy_add k (f w) (keeps w q) h) ∙ ap (add_all k (each f ws)) (add_swap l (f v) (f w) acc (keeps v p) (keeps w q) h)

  add_through : {j k : Kind} → InLine k → Through j k → (v : Value) {vs : Values} (acc : Values) → AllKept v → Every AllKept vs → Tidy k acc
      → add_all k (each f (add j v vs)) acc ≡ add_all k (each f vs) (add k (f v) acc)
  unfolding add
  add_through l through_sequence v acc p q h = append_through l v acc p q h
  add_through l through_bag v acc p q h = insert_through l with_repeats v acc p q h
  add_through l through_set v acc p q h = insert_through l into_set v acc p q h

  pub all_through : {j k : Kind} → InLine k → Through j k → {us vs : Values} (acc : Values) → Every AllKept us → Every AllKept vs → Tidy k acc
      → add_all k (each f (add_all j us vs)) acc ≡ add_all k (each f us) (add_all k (each f vs) acc)
  unfolding add_all each
  all_through l t acc every_nil q h = refl
  all_through {j} {k} l t {vs = vs} acc (every_cons {v = u} {vs = us} p r) q h =
      all_through l t acc r (add_every j u p q) h
      ∙ ap (add_all k (each f us)) (add_through l t u acc p q h ∙ add_last l (f u) acc (changed_kept f keeps q) (keeps u p) h)

pub each_self : (vs : Values) → each (λ v. v) vs ≡ vs
unfolding each
each_self nil = refl
each_self (cons v vs) = rw (each_self vs)

-- the same of members as they are
pub gathered_through : {j k : Kind} → InLine k → Through j k → (us acc : Values) → Every AllKept us → Tidy k acc → add_all k (add_all j us nil) acc ≡ add_all k us acc
unfolding each add_all
gathered_through {j} {k} l t us acc p h =
    ap (λ vs. add_all k vs acc) (sym (each_self (add_all j us nil))) ∙ all_through (λ v. v) (λ v q. q) l t acc p every_nil h ∙ ap (λ vs. add_all k vs acc) (each_self us)

-- ---- a kind's members formAll anew, each changed: adding and joining go on as before

each_append : (f : Value → Value) (v : Value) (vs : Values) → each f (append v vs) ≡ append (f v) (each f vs)
unfolding each append
each_append f v nil = refl
each_append f v (cons w ws) = rw (each_append f v ws)

each_joined : (f : Value → Value) (vs ws : Values) → each f (joined vs ws) ≡ joined (each f vs) (each f ws)
unfolding each joined
each_joined f nil ws = refl
each_joined f (cons v vs) ws = rw (each_joined f vs ws)

module _ (f : Value → Value) (keeps : (v : Value) → AllKept v → AllKept (f v)) where
  line_add : {k : Kind} → InLine k → (v : Value) {vs : Values} → AllKept v → Every AllKept vs → add_all k (each f (add k v vs)) nil ≡ add k (f v) (add_all k (each f vs) nil)
  line_add l v p q = add_through f keeps l (through_self l) v nil p q tidy_nil ∙ add_last l (f v) nil (changed_kept f keeps q) (keeps v p) tidy_nil

  pub each_add : (k : Kind) (v : Value) {vs : Values} → AllKept v → Every AllKept vs → add_all k (each f (add k v vs)) nil ≡ add k (f v) (add_all k (each f vs) nil)
  unfolding add
  each_add set v p q = line_add line_set v p q
  each_add sequence v {vs} p q = sequence_self (each f (append v vs)) ∙ each_append f v vs ∙ ap (append (f v)) (sym (sequence_self (each f vs)))
  each_add bag v p q = line_add line_bag v p q

  line_all : {k : Kind} → InLine k → (us vs : Values) → Every AllKept us → Every AllKept vs
      → add_all k (each f (add_all k us vs)) nil ≡ add_all k (add_all k (each f us) nil) (add_all k (each f vs) nil)
  line_all {k} l us vs p q =
      all_through f keeps l (through_self l) nil p q tidy_nil
      ∙ sym (gathered_through l (through_self l) (each f us) (add_all k (each f vs) nil) (changed_kept f keeps p) (tidy_all k (changed_kept f keeps q) tidy_nil))

  pub each_add_all : (k : Kind) (us vs : Values) → Every AllKept us → Every AllKept vs
      → add_all k (each f (add_all k us vs)) nil ≡ add_all k (add_all k (each f us) nil) (add_all k (each f vs) nil)
  each_add_all set us vs p q = line_all line_set us vs p q
  each_add_all sequence us vs p q =
      sequence_self (each f (add_all sequence us vs)) ∙ ap (each f) (sequence_joined us vs) ∙ each_joined f vs us
      ∙ sym (ap (λ x. add_all sequence x (add_all sequence (each f vs) nil)) (sequence_self (each f us)) ∙ ap (add_all sequence (each f us)) (sequence_self (each f vs)) ∙ sequence_joined (each f us) (each f vs))
  each_add_all bag us vs p q = line_all line_bag us vs p q

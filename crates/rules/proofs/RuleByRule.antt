-- Rules typed one after the other: their types, the first refusal, their marks. Assumes nothing.
use mathlib.Core.Path.{◌≡◌, sym, ap, ◌∙◌}
use mathlib.Core.Option.{some}
use mathlib.Core.List.{List, [], ◌∷◌, ◌++◌, append-nil, append_assoc}
use Prim.Native.Nat.{ℕ, suc, ◌+◌, ◌<◌}
use native.Mathlib.Omega.{arith}
use native.Mathlib.Decide.{dec_lt}
use lib.ListN.{length, get_or, get_elem?, set, take, drop, length-append, get_or-append}
use lib.Seq.{take-suc, split_at, get_or_at, get_or-drop, get_or-set_same, get_or-set_other}
use Rattle.laws.proofs.Elements.{elem_some, elem_at}
use Rattle.ocl.specs.Types.{Ty}
use Rattle.ocl.specs.Model.{Schema}
use Rattle.ocl.specs.Typing.{typed, refused as untyped, type_rule}
use Rattle.ocl.specs.Marks.{Marks}
use Rattle.sheet.specs.Sheet.{Rule, Sheet}
use Rattle.sheet.specs.Calls.{Verdict, refusal_at, typing_of, on_type, on_types, rule_marks}
use Rattle.sheet.specs.Laws.{AllTyped, none_typed, one_typed}
use Rattle.types.specs.Word.{type_in}
use Rattle.rules.specs.Accepted.{TypesIn}

-- ---- the rules before one, and it

module _ {A : Type 0} (l : List A) (i : ℕ) (x : A) (e : get_elem? l i ≡ some x) where
  pub take_elem : take (suc i) l ≡ take i l ++ (x ∷ [])
  take_elem = let h = elem_at l i x e in take-suc l i x h.0 ∙ ap (λ y. take i l ++ (y ∷ [])) h.1

  pub split_elem : l ≡ take i l ++ x ∷ drop (suc i) l
  split_elem = let h = elem_at l i x e in split_at l i x h.0 ∙ ap (λ y. take i l ++ y ∷ drop (suc i) l) h.1

-- ---- types

module _ {s : Sheet} where
  pub typed_snoc : {xs : List Rule} {ts : List Ty} (x : Rule) {t : Ty} → AllTyped s xs ts → (typing_of s x).answer ≡ typed t → AllTyped s (xs ++ (x ∷ [])) (ts ++ (t ∷ []))
  typed_snoc x none_typed e = one_typed e none_typed
  typed_snoc x (one_typed q h) e = one_typed q (typed_snoc x h e)

  -- whatever follows the types, a refusal behind rules with types is the answer
  pub first_refusal : {xs : List Rule} {ts : List Ty} (x : Rule) {n p : ℕ} → AllTyped s xs ts → (typing_of s x).answer ≡ untyped n p
      → (ys : List Rule) (f : List Ty → Verdict) → on_types s (xs ++ x ∷ ys) f ≡ refusal_at n (get_or s.lines p 0)
  unfolding on_types on_type
  first_refusal x none_typed e ys f = rw e
  first_refusal x (one_typed q h) e ys f = rw q (first_refusal x h e ys _)

-- a type more behind those that wait
pub types_more : {u : List ℕ} (v : List ℕ) {ts : List Ty} {r : ℕ} (w : ℕ) {t : Ty} → TypesIn u ts → length ts ≡ r → drop 768 v ≡ drop 768 u → 768 + r < length v → type_in w ≡ t
    → TypesIn (set v (768 + r) w) (ts ++ (t ∷ []))
types_more {u} v {ts} {r} w {t} so long rest room is = record { at = λ i y e. by i y (elem_at (ts ++ (t ∷ [])) i t e).0 (elem_at (ts ++ (t ∷ [])) i t e).1 (dec_lt i r) }
  where
    by : (i : ℕ) (y : Ty) → i < length (ts ++ (t ∷ [])) → get_or (ts ++ (t ∷ [])) i t ≡ y → Dec (i < r) → type_in (get_or (set v (768 + r) w) (768 + i) 0) ≡ y
    by i y h e (yes k) =
        ap type_in (get_or-set_other v (768 + r) (768 + i) w 0 (λ q. absurd (omega arith)) ∙ sym (get_or-drop 768 v i 0) ∙ ap (λ (l : List ℕ). get_or l i 0) rest ∙ get_or-drop 768 u i 0)
        ∙ so.at i y (elem_some ts i t (omega arith) ∙ ap some (sym (get_or-append ts (t ∷ []) t i (omega arith)) ∙ e))
    by i y h e (no k) =
        let z : i ≡ r = (let n = length-append ts (t ∷ []) in omega arith) in
        ap (λ (n : ℕ). type_in (get_or (set v (768 + r) w) (768 + n) 0)) z ∙ ap type_in (get_or-set_same v (768 + r) w 0 room) ∙ is
        ∙ sym (get_or_at ts t [] t i (long ∙ sym z)) ∙ e

-- ---- marks

pub marks_snoc : (k : Schema) (xs : List Rule) (x : Rule) → rule_marks k (xs ++ (x ∷ [])) ≡ rule_marks k xs ++ (type_rule k x.context x.body).marks
unfolding rule_marks
marks_snoc k [] x = append-nil (type_rule k x.context x.body).marks
marks_snoc k (y ∷ xs) x =
    let m = (type_rule k y.context y.body).marks in
    ap (λ (l : Marks). m ++ l) (marks_snoc k xs x) ∙ sym (append_assoc m (rule_marks k xs) (type_rule k x.context x.body).marks)

-- What is gathered of nodes, one after the other, tells all that is asked of each. Assumes nothing.
use mathlib.Core.Path.{◌≡◌, refl, sym, ap, ◌∙◌, subst}
use mathlib.Core.Bool.{Bool, true, false, ◌&&◌}
use mathlib.Core.List.{List, [], ◌∷◌, ◌++◌}
use Prim.Native.Nat.{ℕ, suc, ◌+◌, ◌<◌, ◌≤◌, min, max}
use native.Mathlib.Omega.{arith}
use native.Mathlib.Decide.{dec_lt}
use borrow.Author.Tests.{le-leb, lt-leb}
use lib.ListN.{length, get_or, take}
use lib.Seq.{length-take-le, get_or-take, take-suc, take_all}
use lib.Dec.{leb}
use Rattle.laws.specs.Lists.{all_of}
use Rattle.laws.proofs.Cases.{zero_least}
use Rattle.laws.proofs.Elements.{all_append}
use Rattle.laws.proofs.Tests.{and-true}
use Rattle.ocl.specs.Forms.{undef}
use Rattle.sheet.specs.Lines.{Shape, leaf}
use Rattle.sheet.specs.Limits.{form_within}
use Rattle.sheet.specs.Refusals.{two_variables, form_known, call_below}
use Rattle.shapes.specs.declared.Parsed.{Parsed}
use Rattle.trees.specs.Calls.{is_call, calls_in}
use Rattle.trees.proofs.CallLaws.{calls_shape}
use Rattle.emission.specs.Nodes.{parsed_in, NodeIs, HoldsNodes}
use Rattle.texts.specs.declared.gathering.Gathered.{Gathered}
use Rattle.texts.specs.Gathering.{joined, operands_within, Sums, Gathers}

-- ---- one call's number

module _ (words : List ℕ) (count : ℕ) {b : Bool} (told : b ≡ is_call words count) where
  pub called_none : b ≡ false → 0 ≡ min (calls_in words count) 33
  unfolding calls_in
  called_none h = rw (← told, h)

  module _ (h : b ≡ true) where
    calls_are : calls_in words count ≡ suc (get_or words 2 0)
    unfolding calls_in
    calls_are = rw (← told, h)

    pub called_low : get_or words 2 0 < 32 → get_or words 2 0 + 1 ≡ min (calls_in words count) 33
    called_low l = rw calls_are (omega arith)

    pub called_far : 32 ≤ get_or words 2 0 → 33 ≡ min (calls_in words count) 33
    called_far l = rw calls_are (omega arith)

-- ---- tests of the greater of two numbers, and of one that is cut

max_leb : (a b n : ℕ) → leb (max a b) n ≡ leb a n && leb b n
max_leb a b n = go (dec_lt n a) (dec_lt n b)
  where
    go : Dec (n < a) → Dec (n < b) → leb (max a b) n ≡ leb a n && leb b n
    go (yes l) d = rw (lt-leb a n l) (lt-leb (max a b) n (omega arith))
    go (no l) (yes m) = rw (le-leb a n (omega arith), lt-leb b n m) (lt-leb (max a b) n (omega arith))
    go (no l) (no m) = rw (le-leb a n (omega arith), le-leb b n (omega arith)) (le-leb (max a b) n (omega arith))

cut_leb : (a n : ℕ) → n ≤ 32 → leb (min a 33) n ≡ leb a n
cut_leb a n h = go (dec_lt n a)
  where
    go : Dec (n < a) → leb (min a 33) n ≡ leb a n
    go (yes l) = lt-leb (min a 33) n (omega arith) ∙ sym (lt-leb a n l)
    go (no l) = le-leb (min a 33) n (omega arith) ∙ sym (le-leb a n (omega arith))

-- ---- one node more

and_unit : (b : Bool) → b && true ≡ b
and_unit true = refl
and_unit false = refl

all_more : (f : Shape → Bool) (ys : List Shape) (x : Shape) → all_of f (ys ++ (x ∷ [])) ≡ all_of f ys && f x
unfolding all_of
all_more f ys x = all_append f ys (x ∷ []) ∙ ap (λ (b : Bool). all_of f ys && b) (and_unit (f x))

split_more : (f : Shape → Bool) (ys : List Shape) (x : Shape) → all_of f (ys ++ (x ∷ [])) ≡ true → (all_of f ys ≡ true) × (f x ≡ true)
split_more f ys x h = and-true (all_of f ys) (f x) (sym (all_more f ys x) ∙ h)

module _ {line : ℕ} {p : Parsed} {x : Shape} (z : NodeIs line x p) where
  calls_told : form_within x ≡ true → operands_within x ≡ true → (n : ℕ) → leb (calls_in p.words p.count) n ≡ call_below n x
  unfolding operands_within
  calls_told w o n = rw (z.stands.words w o, z.stands.counted) (calls_shape z.stands.type line n x)

  sums_more : {g : Gathered} (ys : List Shape) → Sums ys g → Sums (ys ++ (x ∷ [])) (joined g p)
  unfolding joined
  sums_more {g} ys s = record {
    within = rw (s.within, z.stands.within) (sym (all_more form_within ys x));
    apart = λ h. let e = split_more form_within ys x h in rw (s.apart e.0, z.stands.apart e.1) (sym (all_more two_variables ys x));
    known = λ h n l.
        let e = split_more form_within ys x h in
        max_leb g.classes p.classes n ∙ rw (s.known e.0 n l, z.stands.known e.1 n l) (sym (all_more (form_known n) ys x));
    called = λ h o n l.
        let e = split_more form_within ys x h in
        let f = split_more operands_within ys x o in
        max_leb g.calls (min (calls_in p.words p.count) 33) n
        ∙ rw (cut_leb (calls_in p.words p.count) n l, s.called e.0 f.0 n l, calls_told e.1 f.1 n) (sym (all_more (call_below n) ys x));
  }

pub joined_is : (g : Gathered) (p : Parsed) {a b : Bool} {c d e : ℕ} → a ≡ g.within && p.within → b ≡ g.apart && p.apart → c ≡ max g.classes p.classes
    → d ≡ min (calls_in p.words p.count) 33 → e ≡ max g.calls d → ◌≡◌ {A = Gathered} (record { within = a; apart = b; classes = c; calls = e }) (joined g p)
unfolding joined
joined_is g p h k l m n = rw (h, k, l, n, m)

pub eight_words : (line i : ℕ) (w : List ℕ) {p : Parsed} → p ≡ parsed_in line w i → length p.words ≡ 8
unfolding parsed_in
eight_words line i w e = rw e

-- ---- all nodes

pub gathers_none : (line : ℕ) (w : List ℕ) → Gathers line 0 w (record { within = true; apart = true; classes = 0; calls = 0 })
unfolding all_of
gathers_none line w = record { of = none }
  where
    none : (xs : List Shape) → length xs ≡ 0 → HoldsNodes line xs w → Sums xs (record { within = true; apart = true; classes = 0; calls = 0 })
    none [] e h = record { within = refl; apart = λ a. refl; known = λ a n l. zero_least n; called = λ a o n l. zero_least n }
    none (x ∷ xs) e h = absurd (omega arith)

holds_front : {line : ℕ} {w : List ℕ} (xs : List Shape) (i : ℕ) → i ≤ length xs → HoldsNodes line xs w → HoldsNodes line (take i xs) w
holds_front {line} {w} xs i l h = record { at = λ j k. front j (let e = length-take-le i xs l in omega arith) }
  where
    front : (j : ℕ) → j < i → NodeIs line (get_or (take i xs) j (leaf undef)) (parsed_in line w j)
    front j k = rw (get_or-take i xs j (leaf undef) k) (h.at j (omega arith))

pub gathers_next : {line i : ℕ} {w : List ℕ} {g r : Gathered} {p : Parsed} → Gathers line i w g → p ≡ parsed_in line w i → r ≡ joined g p → Gathers line (i + 1) w r
gathers_next {line} {i} {w} {g} {r} {p} inv told is = record { of = λ xs e h. more xs e h }
  where
    more : (xs : List Shape) → length xs ≡ i + 1 → HoldsNodes line xs w → Sums xs r
    more xs e h =
        let x = get_or xs i (leaf undef) in
        let all : take i xs ++ (x ∷ []) ≡ xs = sym (take-suc xs i (leaf undef) (omega arith)) ∙ take_all (suc i) xs (omega arith) in
        let z : NodeIs line x p = subst (NodeIs line x) (sym told) (h.at i (omega arith)) in
        subst (λ l. Sums l r) all (subst (Sums (take i xs ++ (x ∷ []))) (sym is) (sums_more z (take i xs) (inv.of (take i xs) (length-take-le i xs (omega arith)) (holds_front xs i (omega arith) h))))

pub gathers_all : {line nodes i : ℕ} {w : List ℕ} {g : Gathered} → Gathers line i w g → i ≤ nodes → nodes ≤ i → Gathers line nodes w g
gathers_all {line} {nodes} {i} {w} {g} h l m = let e : i ≡ nodes = omega arith in subst (λ n. Gathers line n w g) e h

-- What marking a node's operands tells: whether each is smaller and used for the first time, and the deepest. Assumes nothing.
use mathlib.Core.Path.{◌≡◌, refl, sym, ap, ◌∙◌}
use mathlib.Core.Bool.{Bool, true, false, not, ◌&&◌, ◌||◌, true≢false}
use mathlib.Core.List.{List, [], ◌∷◌, ◌++◌, append-nil}
use Prim.Native.Nat.{ℕ, ◌+◌, ◌*◌, ◌/◌, ◌%◌, ◌<◌, ◌≤◌, min, max}
use native.Mathlib.Omega.{arith}
use borrow.Author.Tests.{eq-eqb, ne_eqb, eqb-true, eqb-false, ltb-true}
use lib.Dec.{eqb, ltb}
use lib.ListN.{length, get_or, set, length-set}
use lib.Seq.{get_or-set_same, get_or-set_other}
use Rattle.std.specs.Prelude.{if◌then◌else◌}
use Rattle.laws.specs.Lists.{member, Each, each_nil, each-cons}
use Rattle.laws.proofs.Lists.{member_append}
use Rattle.memory.specs.Map as memory
use Rattle.sheet.specs.Refusals.{fresh}
use Rattle.tables.specs.Layout.{used_bit, Kept}
use Rattle.tables.proofs.Tables.{kept_refl, kept_set, kept_then}
use Rattle.trees.specs.Operands.{Marking, malformed, deepest, depth_at, marking}

-- ---- the words that marking leaves alone

unfoldable pub words_of : Marking → List ℕ
words_of (malformed w) = w
words_of (deepest d w) = w

unfoldable pub depth_of : Marking → ℕ
depth_of (malformed w) = 0
depth_of (deepest d w) = d

pub record Framed (before after : List ℕ) : Type 0 where
  pub kept : Kept before after
  pub low : (i : ℕ) → i < memory.depths → get_or after i 0 ≡ get_or before i 0

framed_refl : (w : List ℕ) → Framed w w
framed_refl w = record { kept = kept_refl w; low = λ i h. refl }

framed_set : {w v : List ℕ} (i x : ℕ) → memory.depths ≤ i → i < 8192 → Framed (set w i x) v → Framed w v
framed_set {w} i x l h so = record {
  kept = kept_then (kept_set w i x h) so.kept;
  low = λ j q. so.low j q ∙ get_or-set_other w i j x 0 (omega arith);
}

module _ (first n : ℕ) (room : first + n ≤ 768) where
  pub mark_frame : (es : List ℕ) (d : ℕ) (w : List ℕ) → Framed w (words_of (marking first n d es w))
  unfolding marking words_of
  mark_frame [] d w = framed_refl w
  mark_frame (a ∷ es) d w = go (ltb a n) (eqb (get_or w (depth_at first a) 0 % 2) 1) refl (mark_frame es)
    where
      go : (b u : Bool) → ltb a n ≡ b → ((d : ℕ) (w : List ℕ) → Framed w (words_of (marking first n d es w)))
          → Framed w (words_of (if b then (if u then malformed w else marking first n (max d (min (get_or w (depth_at first a) 0 / 2) 1000)) es (set w (depth_at first a) (get_or w (depth_at first a) 0 + 1))) else malformed w))
      go true true e ih = framed_refl w
      go true false e ih = let l = ltb-true a n e in framed_set (depth_at first a) _ (omega arith) (omega arith) (ih _ _)
      go false u e ih = framed_refl w

  pub mark_small : (es : List ℕ) (d : ℕ) (w : List ℕ) → d ≤ 1000 → depth_of (marking first n d es w) ≤ 1000
  unfolding marking depth_of
  mark_small [] d w h = h
  mark_small (a ∷ es) d w h = go (ltb a n) (eqb (get_or w (depth_at first a) 0 % 2) 1) (mark_small es)
    where
      go : (b u : Bool) → ((d : ℕ) (w : List ℕ) → d ≤ 1000 → depth_of (marking first n d es w) ≤ 1000)
          → depth_of (if b then (if u then malformed w else marking first n (max d (min (get_or w (depth_at first a) 0 / 2) 1000)) es (set w (depth_at first a) (get_or w (depth_at first a) 0 + 1))) else malformed w) ≤ 1000
      go true true ih = omega arith
      go true false ih = ih _ _ (omega arith)
      go false u ih = omega arith

  -- a mark does not change a depth
  pub mark_half : (es : List ℕ) (d : ℕ) (w : List ℕ) → 8192 ≤ length w → (i : ℕ) → get_or (words_of (marking first n d es w)) i 0 / 2 ≡ get_or w i 0 / 2
  unfolding marking words_of
  mark_half [] d w long i = refl
  mark_half (a ∷ es) d w long i = go (ltb a n) (eqb (get_or w (depth_at first a) 0 % 2) 1) refl refl (mark_half es)
    where
      same : a < n → (get_or w (depth_at first a) 0 % 2 ≡ 1 → ⊥) → (t : Bool) → eqb i (depth_at first a) ≡ t → get_or (set w (depth_at first a) (get_or w (depth_at first a) 0 + 1)) i 0 / 2 ≡ get_or w i 0 / 2
      same l u true e = rw (eqb-true i (depth_at first a) e, get_or-set_same w (depth_at first a) (get_or w (depth_at first a) 0 + 1) 0 (omega arith)) (omega arith)
      same l u false e = ap (λ (v : ℕ). v / 2) (get_or-set_other w (depth_at first a) i (get_or w (depth_at first a) 0 + 1) 0 (eqb-false i (depth_at first a) e))

      go : (b u : Bool) → ltb a n ≡ b → eqb (get_or w (depth_at first a) 0 % 2) 1 ≡ u
          → ((d : ℕ) (w : List ℕ) → 8192 ≤ length w → (i : ℕ) → get_or (words_of (marking first n d es w)) i 0 / 2 ≡ get_or w i 0 / 2)
          → get_or (words_of (if b then (if u then malformed w else marking first n (max d (min (get_or w (depth_at first a) 0 / 2) 1000)) es (set w (depth_at first a) (get_or w (depth_at first a) 0 + 1))) else malformed w)) i 0 / 2 ≡ get_or w i 0 / 2
      go true true e f ih = refl
      go true false e f ih = ih _ _ (simp length-set long) i ∙ same (ltb-true a n e) (eqb-false (get_or w (depth_at first a) 0 % 2) 1 f) (eqb i (depth_at first a)) refl
      go false u e f ih = refl

-- ---- what they hold

unfoldable pub deepest_of : (ℕ → ℕ) → List ℕ → ℕ
deepest_of lev [] = 0
deepest_of lev (a ∷ es) = max (lev a) (deepest_of lev es)

-- the rule's first n nodes have these depths, and these nodes are used
pub record Depths (first n : ℕ) (lev : ℕ → ℕ) (used w : List ℕ) : Type 0 where
  pub at : (a : ℕ) → a < n → get_or w (depth_at first a) 0 ≡ 2 * lev a + used_bit (member a used)

pub data Marks (first n : ℕ) (lev : ℕ → ℕ) (d : ℕ) (used es : List ℕ) : Bool → Marking → Type 0 where
  marks_malformed : {w : List ℕ} → Marks first n lev d used es false (malformed w)
  marks_deepest : {e : ℕ} {w : List ℕ} → e ≡ max d (deepest_of lev es) → Depths first n lev (used ++ es) w → Marks first n lev d used es true (deepest e w)

depths_same : {first n : ℕ} {lev : ℕ → ℕ} {u v w : List ℕ} → ((a : ℕ) → member a u ≡ member a v) → Depths first n lev u w → Depths first n lev v w
depths_same {first} {n} {lev} {u} {v} {w} e h = record { at = λ a l. h.at a l ∙ ap (λ (b : Bool). 2 * lev a + used_bit b) (e a) }

-- a node that is used from now on, in front or behind
or_turn : (a b c : Bool) → (a || b) || c ≡ b || (a || c)
or_turn true true c = refl
or_turn true false c = refl
or_turn false b c = refl

member_turn : (a : ℕ) (used es : List ℕ) (b : ℕ) → member b ((a ∷ used) ++ es) ≡ member b (used ++ (a ∷ es))
unfolding member
member_turn a used es b =
    member_append b (a ∷ used) es ∙ or_turn (eqb b a) (member b used) (member b es) ∙ sym (member_append b used (a ∷ es))

module _ (first n : ℕ) (lev : ℕ → ℕ) (low : (a : ℕ) → a < n → lev a ≤ 1000) where
  depths_more : (a : ℕ) (used w : List ℕ) → a < n → first + n ≤ 768 → 8192 ≤ length w → member a used ≡ false → Depths first n lev used w
      → Depths first n lev (a ∷ used) (set w (depth_at first a) (get_or w (depth_at first a) 0 + 1))
  unfolding member used_bit
  depths_more a used w l room long m h = record { at = λ b k. go b k (eqb b a) refl }
    where
      go : (b : ℕ) → b < n → (t : Bool) → eqb b a ≡ t → get_or (set w (depth_at first a) (get_or w (depth_at first a) 0 + 1)) (depth_at first b) 0 ≡ 2 * lev b + used_bit (t || member b used)
      go b k true e =
          let q : b ≡ a = eqb-true b a e in
          let at : get_or w (depth_at first a) 0 ≡ 2 * lev a + 0 = h.at a l ∙ rw m in
          rw (q, get_or-set_same w (depth_at first a) (get_or w (depth_at first a) 0 + 1) 0 (omega arith)) (omega arith)
      go b k false e = get_or-set_other w (depth_at first a) (depth_at first b) _ 0 (λ q. eqb-false b a e (omega arith)) ∙ h.at b k

  pub marks_law : (es : List ℕ) (d : ℕ) (used w : List ℕ) → first + n ≤ 768 → 8192 ≤ length w → Depths first n lev used w
      → Marks first n lev d used es (fresh n used es) (marking first n d es w)
  unfolding fresh marking deepest_of used_bit
  marks_law [] d used w room long h = let z : d ≡ max d 0 = omega arith in marks_deepest {w = w} z (rw (append-nil used) h)
  marks_law (a ∷ es) d used w room long h = go (ltb a n) (member a used) refl refl (marks_law es)
    where
      at : List ℕ
      at = set w (depth_at first a) (get_or w (depth_at first a) 0 + 1)

      more : {b : Bool} {m : Marking} (e : ℕ) → e ≡ max d (lev a) → Marks first n lev e (a ∷ used) es b m → Marks first n lev d used (a ∷ es) b m
      more e q marks_malformed = marks_malformed
      more e q (marks_deepest {e = f} z k) = let y : f ≡ max d (max (lev a) (deepest_of lev es)) = omega arith in marks_deepest y (depths_same (member_turn a used es) k)

      go : (b u : Bool) → ltb a n ≡ b → member a used ≡ u
          → ((d : ℕ) (used w : List ℕ) → first + n ≤ 768 → 8192 ≤ length w → Depths first n lev used w → Marks first n lev d used es (fresh n used es) (marking first n d es w))
          → Marks first n lev d used (a ∷ es) (b && not u && fresh n (a ∷ used) es)
          (if b then (if eqb (get_or w (depth_at first a) 0 % 2) 1 then malformed w else marking first n (max d (min (get_or w (depth_at first a) 0 / 2) 1000)) es at) else malformed w)
      go false u e m ih = marks_malformed
      go true true e m ih =
          let v : get_or w (depth_at first a) 0 ≡ 2 * lev a + 1 = h.at a (ltb-true a n e) ∙ rw m in
          rw (eq-eqb (get_or w (depth_at first a) 0 % 2) 1 (omega arith)) marks_malformed
      go true false e m ih =
          let l = ltb-true a n e in
          let v : get_or w (depth_at first a) 0 ≡ 2 * lev a + 0 = h.at a l ∙ rw m in
          rw (ne_eqb (get_or w (depth_at first a) 0 % 2) 1 (λ q. omega arith))
          (more (max d (min (get_or w (depth_at first a) 0 / 2) 1000)) (let b = low a l in omega arith)
          (ih (max d (min (get_or w (depth_at first a) 0 / 2) 1000)) (a ∷ used) at room (simp length-set long) (depths_more a used w l room long m h)))

-- operands that are taken are smaller
pub fresh_low : (n : ℕ) (used es : List ℕ) → fresh n used es ≡ true → Each (λ a. a < n) es
unfolding fresh
fresh_low n used [] h = each_nil
fresh_low n used (a ∷ es) h = go (ltb a n) (member a used) refl (fresh_low n (a ∷ used) es) h
  where
    go : (b u : Bool) → ltb a n ≡ b → (fresh n (a ∷ used) es ≡ true → Each (λ a. a < n) es) → (b && not u && fresh n (a ∷ used) es) ≡ true → Each (λ a. a < n) (a ∷ es)
    go true false e ih h = each-cons (ltb-true a n e) (ih h)
    go true true e ih h = absurd (true≢false (sym h))
    go false u e ih h = absurd (true≢false (sym h))

module _ {first n d : ℕ} {lev : ℕ → ℕ} {used es : List ℕ} where
  pub malformed_fresh : {b : Bool} {m : Marking} {w : List ℕ} → Marks first n lev d used es b m → malformed w ≡ m → b ≡ false
  malformed_fresh marks_malformed e = refl
  malformed_fresh (marks_deepest z k) e = absurd (let q : ◌≡◌ {A = ℕ} 0 1 = cc in omega arith)

  pub deepest_fresh : {b : Bool} {m : Marking} {e : ℕ} {w : List ℕ} → Marks first n lev d used es b m → deepest e w ≡ m
      → (b ≡ true) × (e ≡ max d (deepest_of lev es)) × Depths first n lev (used ++ es) w
  deepest_fresh marks_malformed q = absurd (let z : ◌≡◌ {A = ℕ} 0 1 = cc in omega arith)
  deepest_fresh {e = e} {w = w} (marks_deepest {e = f} {w = v} z k) q =
      let a : e ≡ f = cc in
      let b : w ≡ v = cc in
      (refl, a ∙ z, rw b k)

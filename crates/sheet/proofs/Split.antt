-- Lines of a text and fields of a line. Assumes nothing.
use mathlib.Core.Path.{◌≡◌, refl, ap, ◌∙◌, subst}
use mathlib.Core.Logic.{◌≢◌}
use mathlib.Core.Bool.{Bool, true, false}
use mathlib.Core.List.{List, [], ◌∷◌, ◌++◌}
use Prim.Native.Nat.{ℕ, ◌≤◌}
use native.Mathlib.Omega.{arith}
use lib.ListN.{length}
use lib.Dec.{T, eqb, eqb→eq, eqb_refl, T_not}
use borrow.Author.Tests.{ne_eqb}
use Rattle.std.specs.Prelude.{if◌then◌else◌}
use Rattle.laws.specs.Lists.{Each, each_nil, each-cons}
use Rattle.laws.proofs.Tests.{by-if, test_true}
use Rattle.sheet.specs.Text.{Bytes, onto, split}
use Rattle.sheet.specs.SpellingLaws.{joined, Parted, parted_nil, parted_cons, SplitLaws}

-- a byte in front leaves as many parts, or makes one
onto_long : (b : ℕ) (ps : List Bytes) → 1 ≤ length (onto b ps)
unfolding onto
onto_long b [] = omega arith
onto_long b (p ∷ ps) = omega arith

onto_append : (b : ℕ) (ps qs : List Bytes) → 1 ≤ length ps → onto b (ps ++ qs) ≡ onto b ps ++ qs
unfolding onto
onto_append b [] qs h = absurd (omega arith)
onto_append b (p ∷ ps) qs h = refl

onto_parted : (sep b : ℕ) {ps : List Bytes} → b ≢ sep → Parted sep ps → Parted sep (onto b ps)
unfolding onto
onto_parted sep b ne parted_nil = parted_cons (each-cons ne each_nil) parted_nil
onto_parted sep b ne (parted_cons p ps) = parted_cons (each-cons ne p) ps

onto_joined : (sep b : ℕ) (ps : List Bytes) → 1 ≤ length ps → joined sep (onto b ps) ≡ b ∷ joined sep ps
unfolding onto joined
onto_joined sep b [] h = absurd (omega arith)
onto_joined sep b (p ∷ []) h = refl
onto_joined sep b (p ∷ q ∷ ps) h = refl

nil_joined : (sep : ℕ) (ps : List Bytes) → 1 ≤ length ps → joined sep ([] ∷ ps) ≡ sep ∷ joined sep ps
unfolding joined
nil_joined sep [] h = absurd (omega arith)
nil_joined sep (p ∷ ps) h = refl

-- the first byte of a text that is cut
cut_step : (c : ℕ) (t : Bool) (all front rest : List Bytes) → all ≡ front ++ rest → 1 ≤ length front → (if t then [] ∷ all else onto c all) ≡ (if t then [] ∷ front else onto c front) ++ rest
cut_step c true all front rest e h = ap (λ (ps : List Bytes). [] ∷ ps) e
cut_step c false all front rest e h = ap (onto c) e ∙ onto_append c front rest h

module _ (sep : ℕ) where
  some_part : (s : Bytes) → 1 ≤ length (split sep s)
  unfolding split
  some_part [] = omega arith
  some_part (b ∷ s) =
      by-if (λ (ps : List Bytes). 1 ≤ length ps) (eqb b sep) ([] ∷ split sep s) (onto b (split sep s)) (λ t. omega arith) (λ t. onto_long b (split sep s))

  parts_free : (s : Bytes) → Parted sep (split sep s)
  unfolding split
  parts_free [] = parted_cons each_nil parted_nil
  parts_free (b ∷ s) =
      by-if (Parted sep) (eqb b sep) ([] ∷ split sep s) (onto b (split sep s)) (λ t. parted_cons each_nil (parts_free s))
      (λ t. onto_parted sep b (λ e. T_not (eqb b sep) t (subst (λ (k : ℕ). T (eqb b k)) e (eqb_refl b))) (parts_free s))

  rejoined : (s : Bytes) → joined sep (split sep s) ≡ s
  unfolding split
  rejoined [] = unfold joined in refl
  rejoined (b ∷ s) =
      by-if (λ (ps : List Bytes). joined sep ps ≡ b ∷ s) (eqb b sep) ([] ∷ split sep s) (onto b (split sep s))
      (λ t. let e = eqb→eq b sep t in nil_joined sep (split sep s) (some_part s) ∙ cc (rejoined s))
      (λ t. onto_joined sep b (split sep s) (some_part s) ∙ ap (λ (r : Bytes). b ∷ r) (rejoined s))

  pub cut : (a b : Bytes) → split sep (a ++ sep ∷ b) ≡ split sep a ++ split sep b
  unfolding split
  cut [] b = rw (test_true (eqb sep sep) (eqb_refl sep))
  cut (c ∷ a) b = cut_step c (eqb c sep) (split sep (a ++ sep ∷ b)) (split sep a) (split sep b) (cut a b) (some_part a)

  pub only_part : {a : Bytes} → Each (λ c. c ≢ sep) a → split sep a ≡ a ∷ []
  unfolding split onto
  only_part each_nil = refl
  only_part (each-cons {n = c} ne h) = rw (ne_eqb c sep ne, only_part h)

  pub first_part : (a b : Bytes) → Each (λ c. c ≢ sep) a → split sep (a ++ sep ∷ b) ≡ a ∷ split sep b
  first_part a b h = cut a b ∙ ap (λ (ps : List Bytes). ps ++ split sep b) (only_part h)

  no_other_parts : {ps : List Bytes} → 1 ≤ length ps → Parted sep ps → split sep (joined sep ps) ≡ ps
  unfolding joined
  no_other_parts h parted_nil = absurd (omega arith)
  no_other_parts h (parted_cons p parted_nil) = only_part p
  no_other_parts h (parted_cons {p = a} {ps = ps} p (parted_cons q qs)) =
      first_part a (joined sep ps) p ∙ ap (λ (r : List Bytes). a ∷ r) (no_other_parts (omega arith) (parted_cons q qs))

  pub split_laws : SplitLaws sep
  split_laws =
      record {
        some_part = some_part;
        parts_free = parts_free;
        rejoined = rejoined;
        no_other_parts = λ ps h p. no_other_parts h p;
        cut = cut;
        first_part = first_part;
        only_part = λ a h. only_part h;
      }

-- One law for each way of putting parsers together, for what is read back and for what can be read. Assumes nothing.
use mathlib.Core.Path.{◌≡◌, refl, sym, ap, ◌∙◌}
use mathlib.Core.Logic.{◌≢◌}
use mathlib.Core.Bool.{Bool, true, false}
use mathlib.Core.Option.{none, some, none-ne-some, some-injective}
use mathlib.Core.List.{[], ◌∷◌, ◌++◌, append-nil, append_assoc}
use Prim.Native.Nat.{ℕ}
use Prim.Native.String.{String}
use lib.Dec.{T, eqb, eqb_refl, eqb→eq}
use borrow.Author.Tests.{ne_eqb}
use Rattle.laws.specs.Choice.{or_else, on_some, map_some}
use Rattle.std.specs.Prelude.{if◌then◌else◌}
use Rattle.laws.proofs.Tests.{test_true}
use Rattle.laws.proofs.Options.{or_else_some, on_some_some, map_some_some}
use Rattle.sheet.specs.Text.{Bytes, bytes, Parser, nothing, after, literal, behind, ◌or◌, ◌then◌, mapped, at_end, whole}
use Rattle.sheet.specs.SpellingLaws.{Stops, at-end}

-- ---- what is read back

-- p reads the bytes w as x, where no digit follows
pub record Reads {A : Type 0} (p : Parser A) (w : Bytes) (x : A) : Type 0 where
  pub read : (rest : Bytes) → Stops rest → p (w ++ rest) ≡ some (x, rest)

-- p reads nothing where the bytes w stand in front
pub record Misses {A : Type 0} (p : Parser A) (w : Bytes) : Type 0 where
  pub missed : (rest : Bytes) → p (w ++ rest) ≡ none

-- no digit leads w, and there is a byte
pub record Halts (w : Bytes) : Type 0 where
  pub halts : (rest : Bytes) → Stops (w ++ rest)

after_word : (w rest : Bytes) → after w (w ++ rest) ≡ some rest
unfolding after
after_word [] rest = refl
after_word (b ∷ w) rest = rw (test_true (eqb b b) (eqb_refl b)) (after_word w rest)

pub literal_reads : {A : Type 0} (w : String) (x : A) → Reads (literal w x) (bytes w) x
unfolding literal map_some
literal_reads w x = record { read = λ rest st. rw (after_word (bytes w) rest) }

pub behind_reads : {A : Type 0} (w : String) {p : Parser A} {v : Bytes} {x : A} → Reads p v x → Reads (behind w p) (bytes w ++ v) x
unfolding behind on_some
behind_reads w {v} r = record { read = λ rest st. rw (append_assoc (bytes w) v rest, after_word (bytes w) (v ++ rest)) (r.read rest st) }

pub first_reads : {A : Type 0} {p : Parser A} (q : Parser A) {w : Bytes} {x : A} → Reads p w x → Reads (p or q) w x
unfolding ◌or◌ or_else
first_reads q r = record { read = λ rest st. rw (r.read rest st) }

pub second_reads : {A : Type 0} {p q : Parser A} {w : Bytes} {x : A} → Misses p w → Reads q w x → Reads (p or q) w x
unfolding ◌or◌ or_else
second_reads m r = record { read = λ rest st. rw (m.missed rest) (r.read rest st) }

pub then_reads : {A B : Type 0} {p : Parser A} (k : A → Parser B) {v w : Bytes} {x : A} {y : B} → Reads p v x → Halts w → Reads (k x) w y → Reads (p then k) (v ++ w) y
unfolding ◌then◌ on_some
then_reads k {v} {w} r h s =
    record { read = λ rest st. rw (append_assoc v w rest, r.read (w ++ rest) (h.halts rest)) (s.read rest st) }

pub mapped_reads : {A B : Type 0} (f : A → B) {p : Parser A} {w : Bytes} {x : A} → Reads p w x → Reads (mapped f p) w (f x)
unfolding mapped map_some
mapped_reads f r = record { read = λ rest st. rw (r.read rest st) }

-- the first byte of w is so
pub data Begins (P : ℕ → Type 0) : Bytes → Type 0 where
  begins : {b : ℕ} {s : Bytes} → P b → Begins P (b ∷ s)

pub begins_imp : {P Q : ℕ → Type 0} {w : Bytes} → ((b : ℕ) → P b → Q b) → Begins P w → Begins Q w
begins_imp f (begins {b} p) = begins (f b p)

-- a word is not there where another byte than its first one stands
pub other_byte : {b : ℕ} (w : Bytes) {v : Bytes} (rest : Bytes) → Begins (λ c. b ≢ c) v → after (b ∷ w) (v ++ rest) ≡ none
unfolding after
other_byte {b} w rest (begins {b = c} ne) = rw (ne_eqb b c ne)

pub literal_misses : {A : Type 0} (w : String) (x : A) (v : Bytes) → ((rest : Bytes) → after (bytes w) (v ++ rest) ≡ none) → Misses (literal w x) v
unfolding literal map_some
literal_misses w x v h = record { missed = λ rest. rw (h rest) }

pub behind_misses : {A : Type 0} (w : String) (p : Parser A) (v : Bytes) → ((rest : Bytes) → after (bytes w) (v ++ rest) ≡ none) → Misses (behind w p) v
unfolding behind on_some
behind_misses w p v h = record { missed = λ rest. rw (h rest) }

pub whole_reads : {A : Type 0} {p : Parser A} {w : Bytes} {x : A} → Reads p w x → whole p w ≡ some x
unfolding whole on_some at_end
whole_reads {A} {p} {w} {x} r = ap (λ (s : Bytes). whole p s) (sym (append-nil w)) ∙ rw (r.read [] at-end)

-- ---- what can be read

-- whatever p reads as x, behind the bytes v, is the spelling f x
pub record Spells {A : Type 0} (v : Bytes) (p : Parser A) (f : A → Bytes) : Type 0 where
  pub spelled : (s : Bytes) (x : A) (rest : Bytes) → p s ≡ some (x, rest) → v ++ s ≡ f x ++ rest

-- one byte of a word
byte_after : (b c : ℕ) (w s rest : Bytes) (t : Bool) → (T t → b ≡ c) → (after w s ≡ some rest → s ≡ w ++ rest) → (if t then after w s else none) ≡ some rest → c ∷ s ≡ b ∷ (w ++ rest)
byte_after b c w s rest true same further e = let d = same tt in let r = further e in cc
byte_after b c w s rest false same further e = absurd (none-ne-some _ e)

word_after : (w s : Bytes) {rest : Bytes} → after w s ≡ some rest → s ≡ w ++ rest
unfolding after
word_after [] s e = some-injective _ _ e
word_after (b ∷ w) [] e = absurd (none-ne-some _ e)
word_after (b ∷ w) (c ∷ s) {rest} e = byte_after b c w s rest (eqb b c) (eqb→eq b c) (word_after w s) e

pub nothing_spells : {A : Type 0} {v : Bytes} {f : A → Bytes} → Spells v nothing f
unfolding nothing
nothing_spells = record { spelled = λ s x rest e. absurd (none-ne-some _ e) }

pub literal_spells : {A : Type 0} {v : Bytes} (w : String) (x : A) {f : A → Bytes} → v ++ bytes w ≡ f x → Spells v (literal w x) f
unfolding literal
literal_spells {A} {v} w x {f} h = record { spelled = got }
  where
    got : (s : Bytes) (y : A) (rest : Bytes) → literal w x s ≡ some (y, rest) → v ++ s ≡ f y ++ rest
    got s y rest e =
        let m = map_some_some (λ (r : Bytes). (x, r)) (after (bytes w) s) e in
        let same : x ≡ y = ap (λ (q : A × Bytes). q.0) m.2 in
        let left : m.0 ≡ rest = ap (λ (q : A × Bytes). q.1) m.2 in
        ap (λ (t : Bytes). v ++ t) (word_after (bytes w) s m.1) ∙ sym (append_assoc v (bytes w) m.0) ∙ cc

pub behind_spells : {A : Type 0} {v : Bytes} (w : String) {p : Parser A} {f : A → Bytes} → Spells (v ++ bytes w) p f → Spells v (behind w p) f
unfolding behind
behind_spells {A} {v} w {p} {f} h = record { spelled = got }
  where
    got : (s : Bytes) (y : A) (rest : Bytes) → behind w p s ≡ some (y, rest) → v ++ s ≡ f y ++ rest
    got s y rest e =
        let m = on_some_some (after (bytes w) s) p e in
        ap (λ (t : Bytes). v ++ t) (word_after (bytes w) s m.1) ∙ sym (append_assoc v (bytes w) m.0) ∙ h.spelled m.0 y rest m.2

pub or_spells : {A : Type 0} {v : Bytes} {p q : Parser A} {f : A → Bytes} → Spells v p f → Spells v q f → Spells v (p or q) f
unfolding ◌or◌
or_spells {p} {q} h g = record { spelled = λ s x rest e. or_else_some (p s) (q s) e (h.spelled s x rest) (g.spelled s x rest) }

pub then_spells : {A B : Type 0} {v : Bytes} {p : Parser A} {k : A → Parser B} {g : A → Bytes} {f : B → Bytes} → Spells [] p g → ((x : A) → Spells (v ++ g x) (k x) f) → Spells v (p then k) f
unfolding ◌then◌
then_spells {A} {B} {v} {p} {k} {g} {f} h j = record { spelled = got }
  where
    got : (s : Bytes) (y : B) (rest : Bytes) → (p then k) s ≡ some (y, rest) → v ++ s ≡ f y ++ rest
    got s y rest e =
        let m = on_some_some (p s) (λ (x : A × Bytes). k x.0 x.1) e in
        ap (λ (t : Bytes). v ++ t) (h.spelled s m.0.0 m.0.1 m.1) ∙ sym (append_assoc v (g m.0.0) m.0.1) ∙ (j m.0.0).spelled m.0.1 y rest m.2

pub mapped_spells : {A B : Type 0} {v : Bytes} (k : A → B) {p : Parser A} {g : A → Bytes} {f : B → Bytes} → Spells [] p g → ((x : A) → v ++ g x ≡ f (k x)) → Spells v (mapped k p) f
unfolding mapped
mapped_spells {A} {B} {v} k {p} {g} {f} h j = record { spelled = got }
  where
    got : (s : Bytes) (y : B) (rest : Bytes) → mapped k p s ≡ some (y, rest) → v ++ s ≡ f y ++ rest
    got s y rest e =
        let m = map_some_some (λ (x : A × Bytes). (k x.0, x.1)) (p s) e in
        let same : k m.0.0 ≡ y = ap (λ (q : B × Bytes). q.0) m.2 in
        let left : m.0.1 ≡ rest = ap (λ (q : B × Bytes). q.1) m.2 in
        ap (λ (t : Bytes). v ++ t) (h.spelled s m.0.0 m.0.1 m.1) ∙ sym (append_assoc v (g m.0.0) m.0.1) ∙ cc (j m.0.0)

pub whole_spells : {A : Type 0} {p : Parser A} {f : A → Bytes} → Spells [] p f → (s : Bytes) (x : A) → whole p s ≡ some x → s ≡ f x
unfolding whole at_end
whole_spells {A} {p} {f} h s x e =
    let m = on_some_some (p s) (λ (q : A × Bytes). at_end q.0 q.1) e in
    h.spelled s m.0.0 m.0.1 m.1 ∙ ended m.0.0 m.0.1 m.2
  where
    ended : (y : A) (r : Bytes) → at_end y r ≡ some x → f y ++ r ≡ f x
    ended y [] t = append-nil (f y) ∙ ap f (some-injective _ _ t)
    ended y (b ∷ r) t = absurd (none-ne-some _ t)

-- What a test or a reading of single tokens tells of them. Assumes nothing.
use mathlib.Core.Path.{◌≡◌, refl, sym, ap, ◌∙◌}
use mathlib.Core.Bool.{Bool, true, false, true≢false}
use mathlib.Core.Option.{Option, none, some, none-ne-some}
use mathlib.Core.List.{[], ◌∷◌}
use Prim.Native.Nat.{ℕ}
use Prim.Native.String.{String}
use lib.Dec.{eqb, eqb_refl, eqb→eq}
use Rattle.laws.specs.Choice.{or_else, on_some, map_some}
use Rattle.std.specs.Prelude.{if◌then◌else◌}
use Rattle.laws.proofs.Tests.{All?, all_none, all_some, all_imp, all_on, all_else, all_self, at_some, test_true, and-true}
use Rattle.ocl.specs.Types.{Ty}
use Rattle.sheet.specs.Text.{Bytes, bytes}
use Rattle.sheet.specs.Lines.{is}
use Rattle.sheet.specs.Grammar.Tokens.{Tokens}
use Rattle.sheet.specs.Grammar.Words.{Table, named, letters, type_word, variable_word}
use Rattle.sheet.specs.Grammar.Sentences.{◌then◌, ReadsType, simple_type, collection_type}
use Rattle.sheet.specs.Grammar.Parser.{after, taking, after_call, type_in, binding}

-- ---- options

pub all_map : {A B : Type 0} {P : A → Type 0} {Q : B → Type 0} {o : Option A} (f : A → B) → All? P o → ((x : A) → P x → Q (f x)) → All? Q (map_some f o)
unfolding map_some
all_map f all_none k = all_none
all_map f (all_some {x} h) k = all_some (k x h)

pub all_if : {A : Type 0} {P : A → Type 0} (b : Bool) {x y : Option A} → (b ≡ true → All? P x) → (b ≡ false → All? P y) → All? P (if b then x else y)
all_if true f g = f refl
all_if false f g = g refl

-- ---- words

pub is_exact : (w k : Bytes) → is w k ≡ true → w ≡ k
unfolding is
is_exact [] [] e = refl
is_exact [] (c ∷ k) e = absurd (true≢false (sym e))
is_exact (b ∷ w) [] e = absurd (true≢false (sym e))
is_exact (b ∷ w) (c ∷ k) e =
    let p = and-true (eqb b c) (is w k) e in
    let q : b ≡ c = eqb→eq b c (rw p.0 tt) in
    let r = is_exact w k p.1 in
    cc

pub is_itself : (w : Bytes) → is w w ≡ true
unfolding is
is_itself [] = refl
is_itself (b ∷ w) = rw (test_true (eqb b b) (eqb_refl b)) (is_itself w)

-- a word that is read is none that is not read
pub differs : {A : Type 0} (read : Bytes → Option A) (k : Bytes) → read k ≡ none → (w : Bytes) {x : A} → read w ≡ some x → is w k ≡ false
differs {A} read k unread w {x} e = go (is w k) refl
  where
    go : (b : Bool) → is w k ≡ b → b ≡ false
    go true same = absurd (none-ne-some x (sym unread ∙ ap read (sym (is_exact w k same)) ∙ e))
    go false same = refl

-- ---- tables

-- what holds of each entry
unfoldable pub Entries : {A : Type 0} → (Bytes → A → Type 0) → Table A → Type 0
Entries P [] = Unit
Entries P (x ∷ t) = P (bytes x.0) x.1 × Entries P t

pub entries : {A : Type 0} (P : Bytes → A → Type 0) (t : Table A) → Entries P t → (w : Bytes) → All? (P w) (named t w)
unfolding Entries named
entries P [] h w = all_none
entries P (x ∷ t) h w =
    all_if (is w (bytes x.0)) (λ e. all_some (rw (is_exact w (bytes x.0) e) h.0)) (λ e. entries P t h.1 w)

pub entry : {A : Type 0} (P : Bytes → A → Type 0) (t : Table A) → Entries P t → {w : Bytes} {x : A} → named t w ≡ some x → P w x
entry P t h {w} {x} e = at_some (rw e at (entries P t h w))

-- ---- tokens in front

pub after_all : (w : String) (s : Tokens) → All? (λ r. s ≡ (w then r)) (after w s)
unfolding after
after_all w [] = all_none
after_all w (x ∷ s) = all_if (is x (bytes w)) (λ e. all_some (ap (λ (k : Bytes). k ∷ s) (is_exact x (bytes w) e))) (λ e. all_none)

pub after_word : (w : String) (s : Tokens) → after w (w then s) ≡ some s
unfolding after
after_word w s = rw (is_itself (bytes w))

pub after_call_all : (s : Tokens) → All? (λ r. s ≡ ("(" then ")" then r)) (after_call s)
unfolding after_call
after_call_all s = all_on (after_all "(" s) (λ s' e. all_imp (λ r d. rw (← d) e) (after_all ")" s'))

-- a token that was read as x
pub record Took {A : Type 0} (read : Bytes → Option A) (s : Tokens) (x : A × Tokens) : Type 0 where
  pub token : Bytes
  pub here : s ≡ token ∷ x.1
  pub means : read token ≡ some x.0

pub taking_all : {A : Type 0} (read : Bytes → Option A) (s : Tokens) → All? (Took read s) (taking read s)
unfolding taking
taking_all read [] = all_none
taking_all read (w ∷ s) = all_map _ (all_self (read w)) (λ x e. record { token = w; here = refl; means = e })

pub taking_one : {A : Type 0} (read : Bytes → Option A) (w : Bytes) (s : Tokens) {x : A} → read w ≡ some x → taking read (w ∷ s) ≡ some (x, s)
unfolding taking map_some
taking_one read w s e = rw e

pub record Bound (s : Tokens) (x : ℕ × Tokens) : Type 0 where
  pub token : Bytes
  pub here : s ≡ token ∷ ("=" then x.1)
  pub means : variable_word token ≡ some x.0

pub binding_all : (s : Tokens) → All? (Bound s) (binding s)
unfolding binding
binding_all s =
    all_on (taking_all variable_word s) (λ x t. all_map _ (after_all "=" x.1) (λ r e.
    record { token = t.token; here = rw (← e) t.here; means = t.means }))

pub binding_one : (v : Bytes) {i : ℕ} (s : Tokens) → variable_word v ≡ some i → binding (v ∷ ("=" then s)) ≡ some (i, s)
unfolding binding on_some map_some
binding_one v s e = rw (taking_one variable_word v ("=" then s) e, after_word "=" s)

-- ---- types

pub type_in_all : (s : Tokens) → All? (λ x. ReadsType s x.0 x.1) (type_in s)
unfolding type_in
type_in_all [] = all_none
type_in_all (w ∷ []) = all_map _ (all_self (type_word w)) (λ t e. simple_type e)
type_in_all (w ∷ p ∷ s) =
    all_else (all_map _ (all_self (type_word w)) (λ t e. simple_type e))
    (all_if (is p (bytes "("))
    (λ b. all_on (all_self (named letters w)) (λ l e. all_on (type_in_all s) (λ x h. all_map _ (after_all ")" x.1) (λ r d.
    rw (is_exact p (bytes "(") b) (collection_type e (rw d at h))))))
    (λ b. all_none))

-- a letter is no type
letter_type : Entries (λ w l. type_word w ≡ none) letters
unfolding Entries letters type_word named Rattle.sheet.specs.Grammar.Words.simple_types Rattle.sheet.specs.Grammar.Words.class_word Rattle.sheet.specs.Grammar.Words.labelled or_else map_some is bytes
letter_type = (refl, (refl, (refl, (refl, tt))))

pub type_in_one : {s : Tokens} {t : Ty} {r : Tokens} → ReadsType s t r → type_in s ≡ some (t, r)
unfolding type_in or_else map_some on_some
type_in_one (simple_type {w} {t} {r} e) = go r
  where
    go : (r : Tokens) → type_in (w ∷ r) ≡ some (t, r)
    go [] = rw e
    go (p ∷ s) = rw e
type_in_one (collection_type {w} {l} {s} {t} {r} e h) =
    rw (entry (λ w l. type_word w ≡ none) letters letter_type e, is_itself (bytes "("), e, type_in_one h, after_word ")" r)

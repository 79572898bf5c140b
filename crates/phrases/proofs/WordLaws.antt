-- Laws of single tokens: one for each return of the functions that look at them. Assumes nothing.
use mathlib.Core.Path.{◌≡◌, refl, sym, ap, ◌∙◌}
use mathlib.Core.Logic.{◌≢◌}
use mathlib.Core.Option.{Option, none, some}
use mathlib.Core.List.{[], ◌∷◌}
use Prim.Native.Nat.{ℕ, ◌≤◌}
use Prim.Native.String.{String}
use native.Mathlib.Omega.{arith}
use borrow.Author.Tests.{eq-eqb, ne_eqb}
use Rattle.laws.specs.Choice.{on_some, map_some}
use Rattle.sheet.specs.Text.{Bytes}
use Rattle.sheet.specs.Grammar.Tokens.{Tokens}
use Rattle.sheet.specs.Grammar.Words.{labelled, variable_word}
use Rattle.sheet.specs.Grammar.Parser.{after, taking, binding}
use Rattle.text.specs.Numbers.{cut, cut_num}
use Rattle.tokens.specs.Codes.{code_of, head_code, after_code}
use Rattle.tokens.specs.Meanings.{part, onward, Ahead, NextIs}
use Rattle.tokens.specs.declared.Token.{Token}
use Rattle.tokens.proofs.WordCodes.{after_equals}
use Rattle.phrases.specs.Forms.{labelled_before}
use Rattle.phrases.specs.Meanings.{Further, AfterIs, after_none, after_one, LabelledAs, labelled_none, labelled_one}
use Rattle.std.specs.Prelude.{Option as Optional, Some, None}

-- ---- the token after one

module _ {s : Bytes} {t : Token} (h : Ahead s t) (n : t.code ≢ 65) where
  pub coded : t.code ≡ code_of (part s t.start t.end)
  unfolding head_code
  coded = h.code ∙ ap head_code (h.one n).1

  module _ {u : Token} (m : NextIs s t.end u) where
    pub front : onward s t ≡ part s t.start t.end ∷ onward s u
    front = (h.one n).1 ∙ ap (λ (l : Tokens). part s t.start t.end ∷ l) m.rest

    pub further : Further s t u
    further = let o = (h.one n).0 in let f = m.from in record { ahead = m.ahead; from = omega arith }

-- what begins later
pub later : {s : Bytes} {a t u : Token} → a.start ≤ t.start → Further s t u → Further s a u
later l f = let g = f.from in record { ahead = f.ahead; from = omega arith }

pub farther : {s : Bytes} {a t u : Token} → Further s a t → Further s t u → Further s a u
farther e f = let g = e.from in later (omega arith) f

-- ---- `after`

other_head : (k : ℕ) (l : Tokens) → head_code l ≢ k → after_code k l ≡ none
unfolding after_code head_code
other_head k [] n = refl
other_head k (w ∷ s) n = rw (ne_eqb (code_of w) k n)

pub same_head : (k : ℕ) (w : Bytes) (l : Tokens) → code_of w ≡ k → after_code k (w ∷ l) ≡ some l
unfolding after_code
same_head k w l e = rw (eq-eqb (code_of w) k e)

pub after_other : {s : Bytes} {t : Token} {k : ℕ} → Ahead s t → t.code ≢ k → AfterIs s t k None
after_other {s} {t} {k} h n = after_none (other_head k (onward s t) (λ e. n (h.code ∙ e)))

pub after_here : {s : Bytes} {t u : Token} {k : ℕ} → Ahead s t → k ≢ 65 → t.code ≡ k → NextIs s t.end u → AfterIs s t k (Some u)
after_here {s} {t} {u} {k} h n e m =
    let q : t.code ≢ 65 = λ d. n (sym e ∙ d) in
    after_one (ap (after_code k) (front h q m) ∙ same_head k _ _ (sym (coded h q) ∙ e)) (further h q m)

-- what an answer of `after` says
module _ {s : Bytes} {t : Token} {k : ℕ} {r : Optional Token} (h : AfterIs s t k r) where
  pub gone : r ≡ None → after_code k (onward s t) ≡ none
  gone d = go (rw d at h)
    where
      go : AfterIs s t k None → after_code k (onward s t) ≡ none
      go (after_none e) = e

  module _ {u : Token} (d : r ≡ Some u) where
    pub came : after_code k (onward s t) ≡ some (onward s u)
    came = go (rw d at h)
      where
        go : AfterIs s t k (Some u) → after_code k (onward s t) ≡ some (onward s u)
        go (after_one e f) = e

    pub came_further : Further s t u
    came_further = go (rw d at h)
      where
        go : AfterIs s t k (Some u) → Further s t u
        go (after_one e f) = f

    pub came_ahead : Ahead s u
    came_ahead = came_further.ahead

-- ---- `labelled_at`

module _ {s : Bytes} {t : Token} (l : ℕ) (h : Ahead s t) where
  pub labelled_end : t.code ≡ 65 → LabelledAs s t (taking (labelled l) (onward s t)) None
  unfolding taking
  labelled_end e = labelled_none (rw (h.none e))

  module _ (n : t.code ≢ 65) {r : Optional ℕ} (e : r ≡ cut_num (labelled l (part s t.start t.end))) where
    pub labelled_bad : r ≡ None → LabelledAs s t (taking (labelled l) (onward s t)) None
    unfolding taking map_some cut_num
    labelled_bad d = labelled_none (rw (h.one n).1 (go (labelled l (part s t.start t.end)) _ (sym d ∙ e)))
      where
        go : {A : Type 0} (o : Option ℕ) (f : ℕ → A) → None ≡ cut_num o → map_some f o ≡ none
        go none f q = refl
        go (some x) f q = absurd (let z : ◌≡◌ {A = ℕ} 0 1 = cc in omega arith)

    pub labelled_is : {x : ℕ} {u : Token} → r ≡ Some x → NextIs s t.end u → LabelledAs s t (taking (labelled l) (onward s t)) (Some (x, u))
    unfolding taking map_some cut_num
    labelled_is {x} {u} d m = go (labelled l (part s t.start t.end)) refl (sym d ∙ e)
      where
        go : (o : Option ℕ) → labelled l (part s t.start t.end) ≡ o → Some x ≡ cut_num o → LabelledAs s t (taking (labelled l) (onward s t)) (Some (x, u))
        go none p q = absurd (let z : ◌≡◌ {A = ℕ} 0 1 = cc in omega arith)
        go (some y) p q = labelled_one {u = u} y (rw (front h n m, p)) (let z : x ≡ cut y = cc in z) (further h n m)

-- ---- `labelled_before`

module _ {s : Bytes} {t : Token} {o : Option (ℕ × Tokens)} {r : Optional (ℕ × Token)} (h : LabelledAs s t o r) where
  pub unlabelled : r ≡ None → o ≡ none
  unlabelled d = go (rw d at h)
    where
      go : LabelledAs s t o None → o ≡ none
      go (labelled_none e) = e

  pub labelled_ahead : {x : ℕ} {u : Token} → r ≡ Some (x, u) → Ahead s u
  labelled_ahead {x} {u} d = go (rw d at h)
    where
      go : LabelledAs s t o (Some (x, u)) → Ahead s u
      go (labelled_one n e c f) = f.ahead

module _ {s : Bytes} {t : Token} (l k : ℕ) {r : Optional (ℕ × Token)} (h : LabelledAs s t (taking (labelled l) (onward s t)) r) where
  pub before_none : r ≡ None → LabelledAs s t (labelled_before l k (onward s t)) None
  unfolding labelled_before on_some
  before_none d = labelled_none (rw (unlabelled h d))

  module _ {x : ℕ} {u : Token} (d : r ≡ Some (x, u)) {q : Optional Token} (a : AfterIs s u k q) where
    pub before_gone : q ≡ None → LabelledAs s t (labelled_before l k (onward s t)) None
    unfolding labelled_before on_some map_some
    before_gone e = go (rw d at h) (gone a e)
      where
        go : LabelledAs s t (taking (labelled l) (onward s t)) (Some (x, u)) → after_code k (onward s u) ≡ none → LabelledAs s t (labelled_before l k (onward s t)) None
        go (labelled_one n p c f) z = labelled_none (rw (p, z))

    pub before_is : {v : Token} → q ≡ Some v → LabelledAs s t (labelled_before l k (onward s t)) (Some (x, v))
    unfolding labelled_before on_some map_some
    before_is {v} e = go (rw d at h) (came a e) (came_further a e)
      where
        go : LabelledAs s t (taking (labelled l) (onward s t)) (Some (x, u)) → after_code k (onward s u) ≡ some (onward s v) → Further s u v → LabelledAs s t (labelled_before l k (onward s t)) (Some (x, v))
        go (labelled_one n p c f) z g = labelled_one {u = v} n (rw (p, z)) c (farther f g)

-- ---- a word behind a number, by its code

pub before_mapped : {B : Type 0} (l k : ℕ) (w : String) (f : ℕ → Tokens → B) → ((s : Tokens) → after w s ≡ after_code k s) → (s : Tokens)
    → on_some (taking (labelled l) s) (λ x. map_some (f x.0) (after w x.1)) ≡ map_some (λ (y : ℕ × Tokens). f y.0 y.1) (labelled_before l k s)
unfolding labelled_before on_some map_some
before_mapped {B} l k w f told s = go (taking (labelled l) s)
  where
    both : (n : ℕ) (o : Option Tokens) → map_some (f n) o ≡ map_some (λ (y : ℕ × Tokens). f y.0 y.1) (map_some {B = ℕ × Tokens} (λ r. (n, r)) o)
    both n none = refl
    both n (some r) = refl

    go : (o : Option (ℕ × Tokens)) → on_some o (λ x. map_some (f x.0) (after w x.1)) ≡ map_some (λ (y : ℕ × Tokens). f y.0 y.1) (on_some {B = ℕ × Tokens} o (λ x. map_some (λ r. (x.0, r)) (after_code k x.1)))
    go none = refl
    go (some x) = rw (told x.1) (both x.0 (after_code k x.1))

pub binding_told : (s : Tokens) → binding s ≡ labelled_before 118 13 s
unfolding binding variable_word labelled_before on_some
binding_told s = go (taking (labelled 118) s)
  where
    go : (o : Option (ℕ × Tokens)) → on_some {B = ℕ × Tokens} o (λ x. map_some (λ r. (x.0, r)) (after "=" x.1)) ≡ on_some {B = ℕ × Tokens} o (λ x. map_some (λ r. (x.0, r)) (after_code 13 x.1))
    go none = refl
    go (some x) = rw (after_equals x.1)

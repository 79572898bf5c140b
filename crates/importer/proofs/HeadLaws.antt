-- What a `let` begins with: each return of the code that reads it. Assumes nothing.
use mathlib.Core.Path.{◌≡◌}
use mathlib.Core.List.{List}
use Prim.Native.Nat.{ℕ}
use native.Mathlib.Omega.{arith}
use Rattle.sheet.specs.Text.{Bytes}
use Rattle.sheet.specs.Grammar.Parser.{binding}
use Rattle.tokens.specs.declared.Token.{Token}
use Rattle.tokens.specs.Meanings.{onward}
use Rattle.phrases.specs.Meanings.{Further, AfterIs, after_none, after_one, LabelledAs, labelled_none, labelled_one}
use Rattle.importer.specs.Lets.{LetOpened, BoundAt, not_bound, a_bound, HeadAt, no_head, broken_head, a_head}
use Rattle.std.specs.Prelude.{Option as Optional, Some, None}

pub after_further : {s : Bytes} {t : Token} {k : ℕ} {r : Optional Token} → AfterIs s t k r → {u : Token} → r ≡ Some u → Further s t u
after_further {s} {t} {k} h {u} e = go (rw e at h)
  where
    go : AfterIs s t k (Some u) → Further s t u
    go (after_one a f) = f

module _ {s : Bytes} {t : Token} {d : ℕ} {w : List ℕ} {q : Optional (ℕ × Token)} (l : LabelledAs s t (binding (onward s t)) q) where
  pub bound_none : q ≡ None → BoundAt s t d w None w
  bound_none z = go (rw z at l)
    where
      go : LabelledAs s t (binding (onward s t)) None → BoundAt s t d w None w
      go (labelled_none b) = not_bound b

  pub bound_one : {x : ℕ} {v : Token} {w' : List ℕ} → q ≡ Some (x, v) → LetOpened d x w w' → BoundAt s t d w (Some v) w'
  bound_one {x} {v} {w'} z o = go (rw z at l)
    where
      go : LabelledAs s t (binding (onward s t)) (Some (x, v)) → BoundAt s t d w (Some v) w'
      go (labelled_one i b c g) = a_bound i b c g o

module _ {s : Bytes} {t : Token} {d : ℕ} {w : List ℕ} {r : Optional Token} (l : AfterIs s t 32 r) where
  pub head_none : r ≡ None → HeadAt s t d w None w
  head_none z = go (rw z at l)
    where
      go : AfterIs s t 32 None → HeadAt s t d w None w
      go (after_none a) = no_head a

  pub head_some : {u : Token} {q : Optional Token} {w' : List ℕ} → r ≡ Some u → BoundAt s u d w q w' → HeadAt s t d w (Some q) w'
  head_some {u} {q} {w'} z b = go (rw z at l) b
    where
      go : {q : Optional Token} {w' : List ℕ} → AfterIs s t 32 (Some u) → BoundAt s u d w q w' → HeadAt s t d w (Some q) w'
      go (after_one a f) (not_bound b) = broken_head (onward s u) a b
      go (after_one a f) (a_bound i b c g o) = a_head (onward s u) i a b c (record { ahead = g.ahead; from = let p = f.from in let q = g.from in omega arith }) o

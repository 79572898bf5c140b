-- What was found at the start of a loop and has grown since, by signs and right sides or by postfix steps. Assumes nothing.
use mathlib.Core.Path.{◌≡◌}
use mathlib.Core.Option.{none}
use mathlib.Core.List.{List}
use Prim.Native.Nat.{ℕ, suc, ◌-◌, ◌<◌}
use native.Mathlib.Omega.{arith}
use lib.ListN.{length}
use Rattle.sheet.specs.Text.{Bytes}
use Rattle.sheet.specs.Grammar.Tokens.{Tokens}
use Rattle.sheet.specs.Grammar.Trees.{Tree}
use Rattle.sheet.specs.Grammar.Sentences.{Level}
use Rattle.sheet.specs.Grammar.Parser as parser
use Rattle.sheet.proofs.TextNodes.{some_node}
use Rattle.tables.specs.Layout.{Kept}
use Rattle.tokens.specs.declared.Token.{Token}
use Rattle.tokens.specs.Meanings.{onward}
use Rattle.phrases.specs.Meanings.{Further}
use Rattle.importer.specs.Descent.{Room, FoundAt, found_none, found_one}
use Rattle.descent.proofs.FoundLaws.{Grown, grown_start, room_grown, room_after}
use Rattle.std.specs.Prelude.{Option as Optional, Some, None}

-- nothing was found; or it broke off since; or it has grown. R is as in `Grown`
pub data Growing (R : Tree → Tokens → parser.Found → Type 0) (k : ℕ) (s : Bytes) (d : ℕ) : Optional (Token × ℕ) → List ℕ → Optional (Token × ℕ) → List ℕ → Type 0 where
  never : {w : List ℕ} → Growing R k s d None w None w
  breaks : {u : Token} {m : ℕ} {w v : List ℕ} → ((a : Tree) → R a (onward s u) none) → Kept w v → Growing R k s d (Some (u, m)) w None v
  goes : {u : Token} {m : ℕ} {w : List ℕ} {u' : Token} {m' : ℕ} {v : List ℕ} → Grown R k s u m d w u' m' v → Growing R k s d (Some (u, m)) w (Some (u', m')) v

-- what is left of the text
unfoldable pub left_of : Bytes → Optional (Token × ℕ) → ℕ
left_of s None = 0
left_of s (Some (u, m)) = suc (length s - u.start)

pub less_left : (s : Bytes) {r : Optional (Token × ℕ)} {u : Token} {m : ℕ} (i : ℕ) → r ≡ Some (u, m) → i < suc (length s - u.start) → i < left_of s r
unfolding left_of
less_left s i e l = rw e l

pub further_less : {s : Bytes} {u u' : Token} (m : ℕ) → Further s u u' → left_of s (Some (u', m)) < suc (length s - u.start)
unfolding left_of
further_less m f = let a = f.from in let b = f.ahead.order in let c = f.ahead.within in omega arith

module _ {R : Tree → Tokens → parser.Found → Type 0} {l : Level} {k : ℕ} {s : Bytes} {t : Token} {n d : ℕ} {v : List ℕ} where
  pub growing_start : {r : Optional (Token × ℕ)} {w : List ℕ} → FoundAt l k s t n d v r w → Growing R k s d r w r w
  growing_start (found_none a b) = never
  growing_start (found_one x) = goes (grown_start x.ahead)

  module _ {r : Optional (Token × ℕ)} {w : List ℕ} {r' : Optional (Token × ℕ)} {w' : List ℕ} (g : Growing R k s d r w r' w') (x : FoundAt l k s t n d v r w) where
    module _ {u : Token} {m : ℕ} (e : r' ≡ Some (u, m)) where
      pub room_growing : Room s t n d v → Room s u m d w'
      room_growing q = go x (rw e at g)
        where
          go : {r : Optional (Token × ℕ)} {w : List ℕ} → FoundAt l k s t n d v r w → Growing R k s d r w (Some (u, m)) w' → Room s u m d w'
          go (found_one y) (goes z) = room_grown z (room_after q y)
          go (found_none _ _) x11 = elim x11 [ ]

      -- some node has been put down, and some byte has been read
      pub growing_some : 0 < m
      growing_some = go x (rw e at g)
        where
          go : {r : Optional (Token × ℕ)} {w : List ℕ} → FoundAt l k s t n d v r w → Growing R k s d r w (Some (u, m)) w' → 0 < m
          go (found_one y) (goes z) = let a = some_node y.tree in let b = y.counted in let c = z.counted in omega arith
          go (found_none _ _) x11 = elim x11 [ ]

      pub growing_further : t.start < u.start
      growing_further = go x (rw e at g)
        where
          go : {r : Optional (Token × ℕ)} {w : List ℕ} → FoundAt l k s t n d v r w → Growing R k s d r w (Some (u, m)) w' → t.start < u.start
          go (found_one y) (goes z) = let a = some_node y.tree in let b = y.from in let c = z.from in omega arith
          go (found_none _ _) x11 = elim x11 [ ]

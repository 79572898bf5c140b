-- What a call found: that it is none, or what it is; whether what comes next has room; and a tree that grows. Assumes nothing.
use mathlib.Core.Path.{◌≡◌}
use mathlib.Core.Option.{none, some}
use mathlib.Core.List.{List, ◌++◌}
use Prim.Native.Nat.{ℕ, ◌+◌, ◌≤◌, ◌<◌}
use native.Mathlib.Omega.{arith}
use lib.ListN.{length}
use Rattle.sheet.specs.Text.{Bytes}
use Rattle.sheet.specs.Lines.{Shape}
use Rattle.sheet.specs.Grammar.Tokens.{Tokens}
use Rattle.sheet.specs.Grammar.Trees.{Tree, count, shapes}
use Rattle.sheet.specs.Grammar.Sentences.{Level}
use Rattle.sheet.specs.Grammar.Parser as parser
use Rattle.sheet.proofs.TextNodes.{some_node}
use Rattle.tables.specs.Layout.{Kept}
use Rattle.tables.proofs.Tables.{kept_refl, kept_then}
use Rattle.tokens.specs.declared.Token.{Token}
use Rattle.tokens.specs.Meanings.{onward, Ahead}
use Rattle.phrases.specs.Meanings.{Further}
use Rattle.emission.specs.Nodes.{HoldsNodes}
use Rattle.importer.specs.Lets.{SameLets}
use Rattle.importer.specs.Answers.{Answers}
use Rattle.importer.specs.Descent.{Room, FoundOne, FoundAt, found_none, found_one}
use Rattle.importer.proofs.LetLaws.{lets_refl, lets_then}
use Rattle.std.specs.Prelude.{Option as Optional, Some, None}

module _ {l : Level} {k : ℕ} {s : Bytes} {t : Token} {n d : ℕ} {w : List ℕ} {r : Optional (Token × ℕ)} {v : List ℕ} (h : FoundAt l k s t n d w r v) where
  pub found_kept : Kept w v
  found_kept = go h
    where
      go : {r : Optional (Token × ℕ)} → FoundAt l k s t n d w r v → Kept w v
      go (found_none a x) = x
      go (found_one x) = x.wrote.kept

  pub no_answer : r ≡ None → Answers l (onward s t) none
  no_answer e = go (rw e at h)
    where
      go : FoundAt l k s t n d w None v → Answers l (onward s t) none
      go (found_none a x) = a

  pub one_found : {u : Token} {m : ℕ} → r ≡ Some (u, m) → FoundOne l k s t n d w u m v
  one_found {u} {m} e = go (rw e at h)
    where
      go : FoundAt l k s t n d w (Some (u, m)) v → FoundOne l k s t n d w u m v
      go (found_one x) = x

-- ---- what comes next has room

pub room_after : {l : Level} {k : ℕ} {s : Bytes} {t u : Token} {n d m : ℕ} {w v : List ℕ} → Room s t n d w → FoundOne l k s t n d w u m v → Room s u m d v
room_after r x = record {
  ahead = x.ahead;
  few = let a = r.few in let b = x.from in let c = x.counted in omega arith;
  long = let a = r.long in let b = x.wrote.kept.size in omega arith;
}

pub room_further : {s : Bytes} {t u : Token} {n d : ℕ} {w : List ℕ} → Room s t n d w → Further s t u → Room s u n d w
room_further r f = record { ahead = f.ahead; few = let a = r.few in let b = f.from in omega arith; long = r.long }

-- ---- a tree that grows while its text is read from u up to u': by signs and right sides, or by postfix steps

-- R says what such signs or steps make of a tree and what follows it
pub record Grown (R : Tree → Tokens → parser.Found → Type 0) (k : ℕ) (s : Bytes) (u : Token) (m d : ℕ) (v : List ℕ) (u' : Token) (m' : ℕ) (v' : List ℕ) : Type 0 where
  pub grows : Tree → Tree
  pub more : ℕ
  pub count_is : (a : Tree) → count (grows a) ≡ count a + more
  pub on : (a : Tree) (o : parser.Found) → R (grows a) (onward s u') o → R a (onward s u) o
  pub ahead : Ahead s u'
  pub counted : m' ≡ m + more
  pub from : u.start + more ≤ u'.start
  pub nodes : (a : Tree) (i : ℕ) → m ≡ i + count a → m' + d ≤ 768 → (xs : List Shape) → length xs ≡ i → HoldsNodes k (xs ++ shapes a i) v → HoldsNodes k (xs ++ shapes (grows a) i) v'
  pub lets : SameLets d v v'
  pub kept : Kept v v'

module _ {R : Tree → Tokens → parser.Found → Type 0} {k : ℕ} {s : Bytes} {u : Token} {m d : ℕ} {v : List ℕ} where
  pub grown_start : Ahead s u → Grown R k s u m d v u m v
  grown_start h = record {
    grows = λ a. a;
    more = 0;
    count_is = λ a. omega arith;
    on = λ a o x. x;
    ahead = h;
    counted = omega arith;
    from = omega arith;
    nodes = λ a i e room xs q x. x;
    lets = lets_refl d v;
    kept = kept_refl v;
  }

  module _ {u' : Token} {m' : ℕ} {v' : List ℕ} (x : Grown R k s u m d v u' m' v') where
    pub grown_then : {u'' : Token} {m'' : ℕ} {v'' : List ℕ} → Grown R k s u' m' d v' u'' m'' v'' → Grown R k s u m d v u'' m'' v''
    grown_then y = record {
      grows = λ a. y.grows (x.grows a);
      more = x.more + y.more;
      count_is = λ a. let b = x.count_is a in let c = y.count_is (x.grows a) in omega arith;
      on = λ a o z. x.on a o (y.on (x.grows a) o z);
      ahead = y.ahead;
      counted = let b = x.counted in let c = y.counted in omega arith;
      from = let b = x.from in let c = y.from in omega arith;
      nodes = λ a i e room xs q h.
          let b = x.counted in
          let c = y.counted in
          let f = x.count_is a in
          y.nodes (x.grows a) i (omega arith) room xs q (x.nodes a i e (omega arith) xs q h);
      lets = lets_then x.lets y.lets;
      kept = kept_then x.kept y.kept;
    }

    pub room_grown : Room s u m d v → Room s u' m' d v'
    room_grown r = record {
      ahead = x.ahead;
      few = let a = r.few in let b = x.from in let c = x.counted in omega arith;
      long = let a = r.long in let b = x.kept.size in omega arith;
    }

    -- what was found of a tighter level, grown
    pub found_grown : {l l' : Level} {t : Token} {n : ℕ} {w : List ℕ} → (y : FoundOne l' k s t n d w u m v) → Answers l (onward s t) (some (x.grows y.tree, onward s u'))
        → FoundAt l k s t n d w (Some (u', m')) v'
    found_grown {n = n} y a = found_one {m = m'} record {
      tree = x.grows y.tree;
      answers = a;
      ahead = x.ahead;
      counted = let b = x.count_is y.tree in let c = y.counted in let e = x.counted in omega arith;
      from = let b = x.count_is y.tree in let c = y.from in let e = x.from in omega arith;
      wrote = record {
        nodes = λ room xs q h.
            let b = x.count_is y.tree in
            let c = y.counted in
            let e = x.counted in
            x.nodes y.tree n c (omega arith) xs q (y.wrote.nodes (omega arith) xs q h);
        lets = lets_then y.wrote.lets x.lets;
        kept = kept_then y.wrote.kept x.kept;
      };
    }

-- ---- how many there are: never more than bytes

pub room_small : {s : Bytes} {t : Token} {n d : ℕ} {w : List ℕ} → Room s t n d w → n + d ≤ length s
room_small r = let a = r.few in let b = r.ahead.order in let c = r.ahead.within in omega arith

pub room_more : {s : Bytes} {t u : Token} {n d : ℕ} {w : List ℕ} → Room s t n d w → Further s t u → n + 1 ≤ length s
room_more r f = let a = r.few in let b = f.from in let c = f.ahead.order in let e = f.ahead.within in omega arith

pub found_some : {l : Level} {k : ℕ} {s : Bytes} {t u : Token} {n d m : ℕ} {w v : List ℕ} → FoundOne l k s t n d w u m v → n < m
found_some x = let a = x.counted in let b = some_node x.tree in omega arith

pub found_further : {l : Level} {k : ℕ} {s : Bytes} {t u : Token} {n d m : ℕ} {w v : List ℕ} → FoundOne l k s t n d w u m v → t.start < u.start
found_further x = let a = x.from in let b = some_node x.tree in omega arith

-- Levels that lean left, comparisons and `not`s by what their calls found: one law for each return and each turn. Assumes nothing.
use mathlib.Core.Path.{◌≡◌, refl, sym, ap}
use mathlib.Core.Option.{Option, none, some}
use mathlib.Core.List.{List}
use Prim.Native.Nat.{ℕ, suc, ◌+◌, ◌-◌, ◌≤◌, ◌<◌}
use native.Mathlib.Omega.{arith}
use lib.ListN.{length}
use Rattle.laws.specs.Choice.{map_some}
use Rattle.sheet.specs.Text.{Bytes}
use Rattle.sheet.specs.Grammar.Tokens.{Tokens}
use Rattle.sheet.specs.Grammar.Trees.{Two, two, count, two_shape, shapes}
use Rattle.sheet.specs.Grammar.Sentences.{Level, comparison, sum, prefix, postfix}
use Rattle.sheet.specs.Grammar.Parser.{sign_of, tighter}
use Rattle.sheet.proofs.TextNodes.{some_node}
use Rattle.tables.proofs.Tables.{kept_then}
use Rattle.tokens.specs.declared.Token.{Token}
use Rattle.tokens.specs.Meanings.{onward}
use Rattle.phrases.specs.Forms.{two_words}
use Rattle.phrases.specs.Meanings.{Further, SignAs, sign_none, sign_one, StandsAsTwo}
use Rattle.shapes.specs.Fields.{cut}
use Rattle.importer.specs.Leaves.{NegationsAre, negated}
use Rattle.importer.specs.declared.leaves.Negations.{Negations}
use Rattle.importer.specs.Descent.{Room, FoundOne, FoundAt, found_none, found_one}
use Rattle.importer.specs.Steps.{Negates}
use Rattle.importer.specs.Puts.{PutNode, Behind, behind_none, behind_one, Joins, joins_none, joins_one}
use Rattle.importer.proofs.AnswerLaws.{Leans, Chained, start_with, start_none, chain_ends, chain_fails, chain_goes, compare_first, compare_alone, compare_both, negated_count, under_nots, nots_answer, no_negation}
use Rattle.importer.proofs.LetLaws.{lets_then, lets_behind}
use Rattle.descent.proofs.WroteLaws.{two_more, wrote_two, step_nodes}
use Rattle.descent.proofs.FoundLaws.{found_kept, no_answer, one_found, Grown, grown_then, found_grown}
use Rattle.descent.proofs.GrowthLaws.{Growing, never, breaks, goes, left_of}
use Rattle.std.specs.Prelude.{Option as Optional, Some, None}

pub sign_further : {s : Bytes} {t : Token} {o : Option (Two × Tokens)} {r : Optional (ℕ × Token)} → SignAs s t o r → {code : ℕ} {u : Token} → r ≡ Some (code, u) → Further s t u
sign_further {s} {t} {o} h {code} {u} e = go (rw e at h)
  where
    go : SignAs s t o (Some (code, u)) → Further s t u
    go (sign_one f a b c) = c

-- a sign's form by its code
sign_stands : (f : Two) (code : ℕ) → two_words f ≡ (code, 0) → StandsAsTwo f code 0
sign_stands f code e = record { code = ap (λ (x : ℕ × ℕ). x.0) e; number = ap (λ (x : ℕ × ℕ). cut x.1) (sym e) }

-- ---- a sign's right side

module _ {l : Level} {k : ℕ} {s : Bytes} {u' : Token} {m d : ℕ} {w : List ℕ} {r : Optional (Token × ℕ)} {v : List ℕ} (x : FoundAt l k s u' m d w r v) {u : Token} where
  pub right_long : Room s u m d w → 8192 ≤ length v
  right_long q = let a = q.long in let b = (found_kept x).size in omega arith

  pub right_behind : Room s u m d w → Further s u u' → length s ≤ 18446744073709551615 → Behind m r
  right_behind q f small = go x
    where
      go : {r : Optional (Token × ℕ)} → FoundAt l k s u' m d w r v → Behind m r
      go (found_none a b) = behind_none
      go (found_one {m = n} y) =
          let a = q.few in
          let b = f.from in
          let c = y.from in
          let e = y.counted in
          let i = some_node y.tree in
          let j = y.ahead.order in
          let o = y.ahead.within in
          behind_one {b = n} (omega arith) (omega arith)

  pub joined_less : Further s u u' → {code : ℕ} {r' : Optional (Token × ℕ)} {v' : List ℕ} → Joins k code m v r r' v' → left_of s r' < suc (length s - u.start)
  unfolding left_of
  joined_less f {code} j = go x j
    where
      go : {r r' : Optional (Token × ℕ)} {v v' : List ℕ} → FoundAt l k s u' m d w r v → Joins k code m v r r' v' → left_of s r' < suc (length s - u.start)
      go (found_none a b) joins_none = omega arith
      go (found_one y) (joins_one put) =
          let a = f.from in
          let b = y.from in
          let c = y.ahead.order in
          let e = y.ahead.within in
          omega arith

-- ---- levels that lean left

module _ {l : Level} (p : Leans l) {k : ℕ} {s : Bytes} {d : ℕ} {r : Optional (Token × ℕ)} {w : List ℕ} {r' : Optional (Token × ℕ)} {w' : List ℕ} (g : Growing (Chained l) k s d r w r' w')
    {t : Token} {n : ℕ} {v : List ℕ} (x : FoundAt (tighter l) k s t n d v r w) where
  pub level_fails : r' ≡ None → FoundAt l k s t n d v None w'
  level_fails e = go x (rw e at g)
    where
      go : {r : Optional (Token × ℕ)} {w : List ℕ} → FoundAt (tighter l) k s t n d v r w → Growing (Chained l) k s d r w None w' → FoundAt l k s t n d v None w'
      go (found_none a b) never = found_none (start_none p (onward s t) a) b
      go (found_one {u = u} y) (breaks a b) = found_none (start_with p (onward s t) y.tree (onward s u) none y.answers (a y.tree)) (kept_then y.wrote.kept b)

  pub level_ends : {u : Token} {m : ℕ} → r' ≡ Some (u, m) → {q : Optional (ℕ × Token)} → SignAs s u (sign_of l (onward s u)) q → q ≡ None → FoundAt l k s t n d v (Some (u, m)) w'
  level_ends {u} {m} e h i = go x (rw e at g) (rw i at h)
    where
      go : {r : Optional (Token × ℕ)} {w : List ℕ} → FoundAt (tighter l) k s t n d v r w → Growing (Chained l) k s d r w (Some (u, m)) w' → SignAs s u (sign_of l (onward s u)) None → FoundAt l k s t n d v (Some (u, m)) w'
      go (found_one {u = u₀} y) (goes z) (sign_none a) =
          found_grown z y (start_with p (onward s t) y.tree (onward s u₀) _ y.answers (z.on y.tree _ (chain_ends l (z.grows y.tree) (onward s u) a)))
      go (found_none _ _) x14 _ = elim x14 [ ]

-- a sign and its right side
going_on : {l : Level} {k : ℕ} {s : Bytes} {u : Token} {m d : ℕ} {v : List ℕ} {q : Optional (ℕ × Token)} → SignAs s u (sign_of l (onward s u)) q
    → {code : ℕ} {u' : Token} → q ≡ Some (code, u') → {r : Optional (Token × ℕ)} {v' : List ℕ} → FoundAt (tighter l) k s u' m d v r v'
    → {u'' : Token} {all : ℕ} {v'' : List ℕ} → r ≡ Some (u'', all) → ((f : Two) → StandsAsTwo f code 0 → PutNode k all (two_shape f (m - 1) (all - 1)) v' v'')
    → Grown (Chained l) k s u m d v u'' (all + 1) v''
unfolding count shapes
going_on {l} {k} {s} {u} {m} {d} {v} h {code} {u'} e {r} {v'} x {u''} {all} {v''} z put = go (rw e at h) (one_found x z)
  where
    go : SignAs s u (sign_of l (onward s u)) (Some (code, u')) → FoundOne (tighter l) k s u' m d v u'' all v' → Grown (Chained l) k s u m d v u'' (all + 1) v''
    go (sign_one f a b c) y = record {
      grows = λ t. two f t y.tree;
      more = suc (count y.tree);
      count_is = λ t. omega arith;
      on = λ t o i. chain_goes l t (onward s u) f (onward s u') a y.tree (onward s u'') o y.answers i;
      ahead = y.ahead;
      counted = let j = y.counted in omega arith;
      from = let j = y.from in let o = c.from in omega arith;
      nodes = λ t i o room xs q g. let j = y.counted in step_nodes t (two_more i t y.tree f o y.wrote y.counted (put f (sign_stands f code b))) o (omega arith) xs q g;
      lets = lets_then y.wrote.lets (lets_behind d (put f (sign_stands f code b)).kept);
      kept = kept_then y.wrote.kept (put f (sign_stands f code b)).kept.kept;
    }

-- a turn
pub level_turn : {l : Level} {k : ℕ} {s : Bytes} {d : ℕ} {r : Optional (Token × ℕ)} {w : List ℕ} {r' : Optional (Token × ℕ)} {w' : List ℕ} → Growing (Chained l) k s d r w r' w' → {u : Token} {m : ℕ} → r' ≡ Some (u, m)
    → {q : Optional (ℕ × Token)} → SignAs s u (sign_of l (onward s u)) q → {code : ℕ} {u' : Token} → q ≡ Some (code, u') → {o : Optional (Token × ℕ)} {w'' : List ℕ} → FoundAt (tighter l) k s u' m d w' o w''
    → {o' : Optional (Token × ℕ)} {w''' : List ℕ} → Joins k code m w'' o o' w''' → Growing (Chained l) k s d r w o' w'''
level_turn {l} {k} {s} {d} {w' = w'} g {u} {m} e {q} h {code} {u'} i y j = go (rw e at g) (rw i at h) y j
  where
    go : {r : Optional (Token × ℕ)} {w : List ℕ} {o o' : Optional (Token × ℕ)} {w'' w''' : List ℕ} → Growing (Chained l) k s d r w (Some (u, m)) w' → SignAs s u (sign_of l (onward s u)) (Some (code, u'))
        → FoundAt (tighter l) k s u' m d w' o w'' → Joins k code m w'' o o' w''' → Growing (Chained l) k s d r w o' w'''
    go (goes z) (sign_one f a b c) (found_none x v) joins_none =
        breaks (λ t. z.on t none (chain_fails l (z.grows t) (onward s u) f (onward s u') a x)) (kept_then z.kept v)
    go (goes z) n x (joins_one put) = goes (grown_then z (going_on n refl x refl put))

-- ---- comparisons

module _ {k : ℕ} {s : Bytes} {t : Token} {n d : ℕ} {w : List ℕ} {r : Optional (Token × ℕ)} {v : List ℕ} (x : FoundAt sum k s t n d w r v) where
  pub comparison_none : r ≡ None → FoundAt comparison k s t n d w None v
  comparison_none e = found_none (compare_first (onward s t) (no_answer x e)) (found_kept x)

  module _ {u : Token} {m : ℕ} (e : r ≡ Some (u, m)) {q : Optional (ℕ × Token)} (h : SignAs s u (sign_of comparison (onward s u)) q) where
    pub comparison_alone : q ≡ None → FoundAt comparison k s t n d w (Some (u, m)) v
    comparison_alone i = go (rw i at h) (one_found x e)
      where
        go : SignAs s u (sign_of comparison (onward s u)) None → FoundOne sum k s t n d w u m v → FoundAt comparison k s t n d w (Some (u, m)) v
        go (sign_none z) y = found_one record {
          tree = y.tree;
          answers = compare_alone (onward s t) y.tree (onward s u) y.answers z;
          ahead = y.ahead;
          counted = y.counted;
          from = y.from;
          wrote = y.wrote;
        }

    module _ {code : ℕ} {u' : Token} (i : q ≡ Some (code, u')) {r' : Optional (Token × ℕ)} {v' : List ℕ} (x' : FoundAt sum k s u' m d v r' v') where
      comparison_fails : r' ≡ None → FoundAt comparison k s t n d w None v'
      unfolding map_some
      comparison_fails z = go (rw i at h) (one_found x e)
        where
          go : SignAs s u (sign_of comparison (onward s u)) (Some (code, u')) → FoundOne sum k s t n d w u m v → FoundAt comparison k s t n d w None v'
          go (sign_one f a b c) y =
              found_none (compare_both (onward s t) y.tree (onward s u) y.answers f (onward s u') none a (no_answer x' z)) (kept_then y.wrote.kept (found_kept x'))

      comparison_both : {u'' : Token} {all : ℕ} {v'' : List ℕ} → r' ≡ Some (u'', all) → ((f : Two) → StandsAsTwo f code 0 → PutNode k all (two_shape f (m - 1) (all - 1)) v' v'')
          → FoundAt comparison k s t n d w (Some (u'', all + 1)) v''
      unfolding map_some count
      comparison_both {u''} {all} {v''} z put = go (rw i at h) (one_found x e) (one_found x' z)
        where
          go : SignAs s u (sign_of comparison (onward s u)) (Some (code, u')) → FoundOne sum k s t n d w u m v → FoundOne sum k s u' m d v u'' all v' → FoundAt comparison k s t n d w (Some (u'', all + 1)) v''
          go (sign_one f a b c) y y' = found_one {m = all + 1} record {
            tree = two f y.tree y'.tree;
            answers = compare_both (onward s t) y.tree (onward s u) y.answers f (onward s u') (some (y'.tree, onward s u'')) a y'.answers;
            ahead = y'.ahead;
            counted = let g = y.counted in let j = y'.counted in omega arith;
            from = let g = y.from in let j = y'.from in let o = c.from in omega arith;
            wrote = wrote_two y.tree y'.tree f y.wrote y.counted y'.wrote y'.counted (put f (sign_stands f code b));
          }

    pub comparison_joined : {code : ℕ} {u' : Token} → q ≡ Some (code, u') → {r' : Optional (Token × ℕ)} {v' : List ℕ} → FoundAt sum k s u' m d v r' v'
        → {r'' : Optional (Token × ℕ)} {v'' : List ℕ} → Joins k code m v' r' r'' v'' → FoundAt comparison k s t n d w r'' v''
    comparison_joined i x' joins_none = comparison_fails i x' refl
    comparison_joined i x' (joins_one put) = comparison_both i x' refl put

-- ---- `not`s

pub nots_room : {s : Bytes} {t : Token} {n d : ℕ} {w : List ℕ} {q : Negations} → Room s t n d w → NegationsAre s t q → Room s q.next n d w
nots_room r x = record { ahead = x.ahead; few = let a = r.few in let b = x.from in omega arith; long = r.long }

module _ {k : ℕ} {s : Bytes} {t : Token} {n d : ℕ} {w : List ℕ} {q : Negations} (a : NegationsAre s t q) {r : Optional (Token × ℕ)} {v : List ℕ} (x : FoundAt postfix k s q.next n d w r v) where
  pub prefix_none : r ≡ None → FoundAt prefix k s t n d w None v
  unfolding under_nots
  prefix_none e = found_none (nots_answer none a.nots (no_negation (onward s q.next) none a.stops (no_answer x e))) (found_kept x)

  pub prefix_one : {u : Token} {m : ℕ} {v' : List ℕ} → r ≡ Some (u, m) → Negates k m q.count v v' → FoundAt prefix k s t n d w (Some (u, m + q.count)) v'
  unfolding under_nots
  prefix_one {u} {m} {v'} e z = go (one_found x e)
    where
      go : FoundOne postfix k s q.next n d w u m v → FoundAt prefix k s t n d w (Some (u, m + q.count)) v'
      go y = found_one {m = m + q.count} record {
        tree = negated q.count y.tree;
        answers = nots_answer (some (y.tree, onward s u)) a.nots (no_negation (onward s q.next) (some (y.tree, onward s u)) a.stops y.answers);
        ahead = y.ahead;
        counted = let c = negated_count q.count y.tree in let i = y.counted in omega arith;
        from = let c = negated_count q.count y.tree in let i = y.from in let j = a.from in omega arith;
        wrote = record {
          nodes = λ room xs i h.
              let c = negated_count q.count y.tree in
              let j = y.counted in
              z.nodes y.tree n j (omega arith) xs i (y.wrote.nodes (omega arith) xs i h);
          lets = lets_then y.wrote.lets (lets_behind d z.kept);
          kept = kept_then y.wrote.kept z.kept.kept;
        };
      }

pub nots_small : {k : ℕ} {s : Bytes} {t u : Token} {n d m : ℕ} {w v : List ℕ} {q : Negations} → Room s t n d w → NegationsAre s t q → FoundOne postfix k s q.next n d w u m v → m + q.count ≤ length s
nots_small r a x = let b = r.few in let c = a.from in let e = x.from in let f = x.counted in let g = x.ahead.order in let h = x.ahead.within in omega arith

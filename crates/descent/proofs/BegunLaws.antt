-- Primaries, by what their calls found: one law for each return. Assumes nothing.
use mathlib.Core.Path.{◌≡◌, refl, ◌∙◌, subst}
use mathlib.Core.Option.{Option, none, some, none-ne-some}
use mathlib.Core.List.{List, [], ◌∷◌}
use Prim.Native.Nat.{ℕ, ◌+◌, ◌≤◌, ◌<◌}
use native.Mathlib.Omega.{arith}
use lib.ListN.{length}
use Rattle.laws.specs.Choice.{on_some, map_some}
use Rattle.laws.proofs.Tests.{All?, all_none, all_some, all_on, at_some}
use Rattle.ocl.specs.Types.{Kind}
use Rattle.ocl.specs.Forms.{Leaf}
use Rattle.sheet.specs.Text.{Bytes, bytes}
use Rattle.sheet.specs.Lines.{is}
use Rattle.sheet.specs.Grammar.Tokens.{Tokens}
use Rattle.sheet.specs.Grammar.Trees.{Tree}
use Rattle.sheet.specs.Grammar.Words.{leaf_word, class_word, named, kinds}
use Rattle.sheet.specs.Grammar.Sentences.{primary}
use Rattle.sheet.specs.Grammar.Parser as parser
use Rattle.sheet.specs.Grammar.Parser.{after, Start, done, bracket, condition, collection, instances_start, braces, start_by, start_of}
use Rattle.sheet.proofs.Grammar.Single.{all_map, all_if}
use Rattle.tables.specs.Layout.{Kept}
use Rattle.tables.proofs.Tables.{kept_refl}
use Rattle.nodes.specs.Nodes.{assemble_code}
use Rattle.tokens.specs.declared.Token.{Token}
use Rattle.tokens.specs.Codes.{after_code}
use Rattle.tokens.specs.Meanings.{onward}
use Rattle.tokens.proofs.WordCodes.{after_close}
use Rattle.phrases.specs.Meanings.{Further}
use Rattle.importer.specs.Answers.{Answers}
use Rattle.importer.specs.Descent.{Room, FoundAt, found_none, found_one, closed_by, ClosedAt, closed_none, closed_one}
use Rattle.importer.specs.Steps.{BegunAt, begun_none, begun_one}
use Rattle.importer.specs.Puts.{BeginAt, begin_none, begin_done, begin_bracket, begin_condition, begin_members}
use Rattle.importer.specs.declared.begin.Begun.{Begun}
use Rattle.importer.specs.declared.begin.Begun.TheVariants as begun
use Rattle.importer.proofs.StepLaws as steps
use Rattle.importer.proofs.PrimaryLaws.{primary_no, primary_done, bracket_by}
use Rattle.std.specs.Prelude.{Option as Optional, Some, None}

-- ---- a primary that has begun leaves fewer tokens

unfoldable Fewer : ℕ → Start → Type 0
Fewer n (done t r) = Unit
Fewer n (bracket r) = length r ≤ n
Fewer n (condition r) = length r ≤ n
Fewer n (collection k r) = length r ≤ n

start_fewer : (o : Option Leaf) (k : Option Kind) (w : Bytes) (s : Tokens) → All? (Fewer (length s)) (start_by o k w s)
unfolding Fewer start_by instances_start braces
start_fewer (some l) k w s = all_some {x = done (Tree.leaf l) s} tt
start_fewer none (some k) w s = all_map _ (steps.word_less "{" s) (λ r l. go r l (after "}" r))
  where
    go : (r : Tokens) → length r < length s → (o : Option Tokens) → Fewer (length s) (braces k r o)
    go r l none = omega arith
    go r l (some q) = tt
start_fewer none none w s =
    all_if (is w (bytes "(")) (λ e. all_some {x = bracket s} (omega arith)) (λ e.
    all_if (is w (bytes "if")) (λ e. all_some {x = condition s} (omega arith)) (λ e. all_on (any (class_word w)) (λ c u. all_map _ (any _) (λ r l. tt))))
  where
    any : {A : Type 0} (o : Option A) → All? (λ x. Unit {0}) o
    any none = all_none
    any (some x) = all_some tt

start_less : (w : Bytes) (s : Tokens) (x : Start) → start_of (w ∷ s) ≡ some x → Fewer (length s) x
unfolding start_of
start_less w s x e = at_some (rw e at (start_fewer (leaf_word w) (named kinds w) w s))

nothing_starts : {x : Start} → start_of [] ≡ some x → ⊥
unfolding start_of
nothing_starts e = none-ne-some _ e

bracket_less : (s r : Tokens) → start_of s ≡ some (bracket r) → length r < length s
unfolding Fewer
bracket_less [] r e = absurd (nothing_starts e)
bracket_less (w ∷ s) r e = let l = start_less w s (bracket r) e in omega arith

condition_less : (s r : Tokens) → start_of s ≡ some (condition r) → length r < length s
unfolding Fewer
condition_less [] r e = absurd (nothing_starts e)
condition_less (w ∷ s) r e = let l = start_less w s (condition r) e in omega arith

collection_less : (s r : Tokens) (k : Kind) → start_of s ≡ some (collection k r) → length r < length s
unfolding Fewer
collection_less [] r k e = absurd (nothing_starts e)
collection_less (w ∷ s) r k e = let l = start_less w s (collection k r) e in omega arith

-- ---- a primary

module _ {k : ℕ} {s : Bytes} {t : Token} {n : ℕ} {w : List ℕ} {r : Optional Begun} {v : List ℕ} (h : BeginAt k s t n w r v) where
  begin_kept : Kept w v
  begin_kept = go h
    where
      go : {r : Optional Begun} {v : List ℕ} → BeginAt k s t n w r v → Kept w v
      go (begin_none e) = kept_refl w
      go (begin_done x) = (x.wrote 0).kept
      go (begin_bracket e f) = kept_refl w
      go (begin_condition e f) = kept_refl w
      go (begin_members a e c f) = kept_refl w

  pub primary_none : {d : ℕ} → r ≡ None → FoundAt primary k s t n d w None v
  primary_none {d} e = go (rw e at h)
    where
      go : {v : List ℕ} → BeginAt k s t n w None v → FoundAt primary k s t n d w None v
      go (begin_none z) = found_none (primary_no (onward s t) z) (kept_refl w)

  room_begun : {d : ℕ} {u : Token} → Room s t n d w → Further s t u → Room s u n d v
  room_begun q f = record { ahead = f.ahead; few = let a = q.few in let b = f.from in omega arith; long = let a = q.long in let b = begin_kept.size in omega arith }

  from_begun : {d : ℕ} {u : Token} {start : Start} {r' : Optional (Token × ℕ)} {v' : List ℕ} → Further s t u → length (onward s u) < length (onward s t) → start_of (onward s t) ≡ some start
      → BegunAt start k s u n d w r' v' → FoundAt primary k s t n d w r' v'
  from_begun f l e (begun_none a b) = found_none (a (onward s t) l e) b
  from_begun f l e (begun_one {m = m} y) = found_one {m = m} record {
    tree = y.tree;
    answers = y.answers (onward s t) l e;
    ahead = y.ahead;
    counted = y.counted;
    from = let b = f.from in let c = y.from in omega arith;
    wrote = y.wrote;
  }

  module _ {o : Begun} (i : r ≡ Some o) where
    pub primary_one : {d : ℕ} {u : Token} → o ≡ begun.Done u → FoundAt primary k s t n d w (Some (u, n + 1)) v
    primary_one {d} {u} e = go (rw (i, e) at h)
      where
        go : BeginAt k s t n w (Some (begun.Done u)) v → FoundAt primary k s t n d w (Some (u, n + 1)) v
        go (begin_done x) = found_one {m = n + 1} record {
          tree = x.tree;
          answers = primary_done (onward s t) x.tree (onward s u) x.starts;
          ahead = x.further.ahead;
          counted = let c = x.single in omega arith;
          from = let c = x.single in let f = x.further.from in omega arith;
          wrote = x.wrote d;
        }

    pub done_further : {u : Token} → o ≡ begun.Done u → Further s t u
    done_further {u} e = go (rw (i, e) at h)
      where
        go : BeginAt k s t n w (Some (begun.Done u)) v → Further s t u
        go (begin_done x) = x.further

    -- ---- in brackets

    pub bracket_further : {u : Token} → o ≡ begun.Bracket u → Further s t u
    bracket_further {u} e = go (rw (i, e) at h)
      where
        go : {v : List ℕ} → BeginAt k s t n w (Some (begun.Bracket u)) v → Further s t u
        go (begin_bracket z f) = f

    pub room_bracket : {d : ℕ} {u : Token} → o ≡ begun.Bracket u → Room s t n d w → Room s u n d v
    room_bracket e q = room_begun q (bracket_further e)

    pub primary_bracket : {d : ℕ} {u : Token} → o ≡ begun.Bracket u → {r' : Optional (Token × ℕ)} {v' : List ℕ} → ClosedAt 41 k s u n d v r' v' → FoundAt primary k s t n d w r' v'
    unfolding closed_by on_some map_some
    primary_bracket {d} {u} e {r'} {v'} x = go (rw (i, e) at h) x
      where
        told : (o : parser.Found) → on_some o (λ (y : Tree × Tokens). map_some (λ (a : Tokens). (y.0, a)) (after ")" y.1)) ≡ closed_by 41 o
        told none = refl
        told (some y) = rw (after_close y.1)

        closed : (y : Tree) (a b : Tokens) → after_code 41 a ≡ some b → closed_by 41 (some (y, a)) ≡ some (y, b)
        closed y a b z = rw z

        go : {v : List ℕ} {r' : Optional (Token × ℕ)} → BeginAt k s t n w (Some (begun.Bracket u)) v → ClosedAt 41 k s u n d v r' v' → FoundAt primary k s t n d w r' v'
        go (begin_bracket z f) (closed_none {o} a c b) =
            found_none (subst (λ (y : parser.Found). Answers primary (onward s t) y) (told o ∙ c) (bracket_by (onward s t) (onward s u) (bracket_less (onward s t) (onward s u) z) o z a)) b
        go (begin_bracket z f) (closed_one {u = u'} {m = m} y) = found_one {m = m} record {
          tree = y.tree;
          answers =
              subst (λ (o : parser.Found). Answers primary (onward s t) o) (told (some (y.tree, y.rest)) ∙ closed y.tree y.rest (onward s u') y.closes)
              (bracket_by (onward s t) (onward s u) (bracket_less (onward s t) (onward s u) z) (some (y.tree, y.rest)) z y.answers);
          ahead = y.ahead;
          counted = y.counted;
          from = let b = f.from in let c = y.from in omega arith;
          wrote = y.wrote;
        }

    -- ---- with operands that come next

    pub condition_further : {u : Token} → o ≡ begun.Condition u → Further s t u
    condition_further {u} e = go (rw (i, e) at h)
      where
        go : {v : List ℕ} → BeginAt k s t n w (Some (begun.Condition u)) v → Further s t u
        go (begin_condition z f) = f

    pub room_condition : {d : ℕ} {u : Token} → o ≡ begun.Condition u → Room s t n d w → Room s u n d v
    room_condition e q = room_begun q (condition_further e)

    pub primary_condition : {d : ℕ} {u : Token} → o ≡ begun.Condition u → {r' : Optional (Token × ℕ)} {v' : List ℕ} → BegunAt (condition (onward s u)) k s u n d v r' v' → FoundAt primary k s t n d w r' v'
    primary_condition {d} {u} e {r'} {v'} x = go (rw (i, e) at h) x
      where
        go : {v : List ℕ} → BeginAt k s t n w (Some (begun.Condition u)) v → BegunAt (condition (onward s u)) k s u n d v r' v' → FoundAt primary k s t n d w r' v'
        go (begin_condition z f) y = from_begun f (condition_less (onward s t) (onward s u) z) z y

    pub members_further : {code : ℕ} {u : Token} → o ≡ begun.Members code u → Further s t u
    members_further {code} {u} e = go (rw (i, e) at h)
      where
        go : {v : List ℕ} → BeginAt k s t n w (Some (begun.Members code u)) v → Further s t u
        go (begin_members a z c f) = f

    pub room_members : {d code : ℕ} {u : Token} → o ≡ begun.Members code u → Room s t n d w → Room s u n d v
    room_members e q = room_begun q (members_further e)

    pub primary_members : {d code : ℕ} {u : Token} → o ≡ begun.Members code u → {r' : Optional (Token × ℕ)} {v' : List ℕ}
        → ((a : Kind) → assemble_code a ≡ code → BegunAt (collection a (onward s u)) k s u n d v r' v') → FoundAt primary k s t n d w r' v'
    primary_members {d} {code} {u} e {r'} {v'} x = go (rw (i, e) at h) x
      where
        go : {v : List ℕ} → BeginAt k s t n w (Some (begun.Members code u)) v → ((a : Kind) → assemble_code a ≡ code → BegunAt (collection a (onward s u)) k s u n d v r' v')
            → FoundAt primary k s t n d w r' v'
        go (begin_members a z c f) y = from_begun f (collection_less (onward s t) (onward s u) a z) z (y a c)

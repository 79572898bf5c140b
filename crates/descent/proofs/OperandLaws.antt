-- An operand and the token that closes it; steps and conditions by what their operands are: one law for each return and each turn.
-- Assumes nothing.
use mathlib.Core.Path.{◌≡◌, refl, sym}
use mathlib.Core.Option.{Option, none, some, none-ne-some}
use mathlib.Core.List.{List}
use Prim.Native.Nat.{ℕ, suc, ◌+◌, ◌-◌, ◌≤◌, ◌<◌}
use native.Mathlib.Omega.{arith}
use lib.ListN.{length}
use Rattle.laws.specs.Choice.{on_some, map_some}
use Rattle.ocl.specs.Types.{Ty}
use Rattle.sheet.specs.Text.{Bytes}
use Rattle.sheet.specs.Grammar.Tokens.{Tokens}
use Rattle.sheet.specs.Grammar.Trees.{Two, conditional, iterate, Tree, two, three, count, two_shape, three_shape, shapes}
use Rattle.sheet.specs.Grammar.Sentences.{whole}
use Rattle.sheet.specs.Grammar.Parser as parser
use Rattle.sheet.specs.Grammar.Parser.{Start, Next}
use Rattle.sheet.proofs.TextNodes.{some_node}
use Rattle.tables.specs.Layout.{Kept}
use Rattle.tables.proofs.Tables.{kept_then}
use Rattle.tokens.specs.declared.Token.{Token}
use Rattle.tokens.specs.Codes.{after_code}
use Rattle.tokens.specs.Meanings.{onward}
use Rattle.phrases.specs.Meanings.{AfterIs, after_none, after_one}
use Rattle.importer.specs.Answers.{Answers}
use Rattle.importer.specs.Descent.{Room, FoundOne, FoundAt, closed_by, ClosedOne, ClosedAt, closed_none, closed_one}
use Rattle.importer.specs.Steps.{BegunAt, begun_none, begun_one, StepAt, step_none, step_one}
use Rattle.importer.specs.Puts.{PutNode}
use Rattle.importer.proofs.LetLaws.{lets_then, lets_behind}
use Rattle.importer.proofs.StepLaws.{argument_none, argument_goes, iteration_none, second_none, iteration_goes}
use Rattle.importer.proofs.PrimaryLaws.{condition_none, then_none, else_none, condition_one}
use Rattle.descent.proofs.WroteLaws.{two_more, three_more, wrote_three, step_nodes}
use Rattle.descent.proofs.FoundLaws.{found_kept, no_answer, one_found}
use Rattle.std.specs.Prelude.{Option as Optional, Some, None}

-- ---- an operand

module _ {code k : ℕ} {s : Bytes} {t : Token} {n d : ℕ} {w : List ℕ} {r : Optional (Token × ℕ)} {v : List ℕ} (x : FoundAt whole k s t n d w r v) where
  pub operand_none : r ≡ None → ClosedAt code k s t n d w None v
  unfolding closed_by on_some
  operand_none e = closed_none {o = none} (no_answer x e) refl (found_kept x)

  module _ {u : Token} {m : ℕ} (e : r ≡ Some (u, m)) {q : Optional Token} (h : AfterIs s u code q) where
    pub operand_open : q ≡ None → ClosedAt code k s t n d w None v
    unfolding closed_by on_some map_some
    operand_open i = go (rw i at h) (one_found x e)
      where
        go : AfterIs s u code None → FoundOne whole k s t n d w u m v → ClosedAt code k s t n d w None v
        go (after_none a) y = closed_none {o = some (y.tree, onward s u)} y.answers (rw a) y.wrote.kept

    pub operand_one : {u' : Token} → q ≡ Some u' → ClosedAt code k s t n d w (Some (u', m)) v
    operand_one {u'} i = go (rw i at h) (one_found x e)
      where
        go : AfterIs s u code (Some u') → FoundOne whole k s t n d w u m v → ClosedAt code k s t n d w (Some (u', m)) v
        go (after_one a f) y = closed_one record {
          tree = y.tree;
          rest = onward s u;
          answers = y.answers;
          closes = a;
          ahead = f.ahead;
          counted = y.counted;
          from = let b = y.from in let c = f.from in omega arith;
          wrote = y.wrote;
        }

-- what a call for an operand says
pub record NoOperand (code : ℕ) (s : Tokens) : Type 0 where
  pub found : parser.Found
  pub answers : Answers whole s found
  pub lacks : on_some found (λ x. after_code code x.1) ≡ none

still_open : (code : ℕ) (o : parser.Found) → closed_by code o ≡ none → on_some o (λ x. after_code code x.1) ≡ none
unfolding closed_by on_some map_some
still_open code none e = refl
still_open code (some x) e = go (after_code code x.1) e
  where
    go : (a : Option Tokens) → map_some {B = Tree × Tokens} (λ (r : Tokens). (x.0, r)) a ≡ none → a ≡ none
    go none q = refl
    go (some r) q = absurd (none-ne-some _ (sym q))

module _ {code k : ℕ} {s : Bytes} {t : Token} {n d : ℕ} {w : List ℕ} {r : Optional (Token × ℕ)} {v : List ℕ} (x : ClosedAt code k s t n d w r v) where
  pub closed_kept : Kept w v
  closed_kept = go x
    where
      go : {r : Optional (Token × ℕ)} → ClosedAt code k s t n d w r v → Kept w v
      go (closed_none a b c) = c
      go (closed_one y) = y.wrote.kept

  pub no_operand : r ≡ None → NoOperand code (onward s t)
  no_operand e = go (rw e at x)
    where
      go : ClosedAt code k s t n d w None v → NoOperand code (onward s t)
      go (closed_none {o} a b c) = record { found = o; answers = a; lacks = still_open code o b }

  pub one_operand : {u : Token} {m : ℕ} → r ≡ Some (u, m) → ClosedOne code k s t n d w u m v
  one_operand {u} {m} e = go (rw e at x)
    where
      go : ClosedAt code k s t n d w (Some (u, m)) v → ClosedOne code k s t n d w u m v
      go (closed_one y) = y

pub room_closed : {code k : ℕ} {s : Bytes} {t u : Token} {n d m : ℕ} {w v : List ℕ} → Room s t n d w → ClosedOne code k s t n d w u m v → Room s u m d v
room_closed r x = record {
  ahead = x.ahead;
  few = let a = r.few in let b = x.from in let c = x.counted in omega arith;
  long = let a = r.long in let b = x.wrote.kept.size in omega arith;
}

pub more_nodes : {code k : ℕ} {s : Bytes} {t u : Token} {n d m : ℕ} {w v : List ℕ} → ClosedOne code k s t n d w u m v → n < m
more_nodes x = let a = x.counted in let b = some_node x.tree in omega arith

-- ---- the operand of a step

module _ {k : ℕ} {s : Bytes} {t : Token} {n d : ℕ} {w : List ℕ} {r : Optional (Token × ℕ)} {v : List ℕ} (x : ClosedAt 41 k s t n d w r v) where
  pub argument_fails : {g : Two} → r ≡ None → StepAt (Next.argument g (onward s t)) k s t n d w None v
  argument_fails {g} e = go (no_operand x e)
    where
      go : NoOperand 41 (onward s t) → StepAt (Next.argument g (onward s t)) k s t n d w None v
      go y = step_none (λ a s₀ q. argument_none a s₀ g (onward s t) q y.found y.answers y.lacks) (closed_kept x)

  pub argument_found : {g : Two} {u : Token} {m : ℕ} {v' : List ℕ} → r ≡ Some (u, m) → PutNode k m (two_shape g (n - 1) (m - 1)) v v' → StepAt (Next.argument g (onward s t)) k s t n d w (Some (u, m + 1)) v'
  unfolding count shapes
  argument_found {g} {u} {m} {v'} e put = go (one_operand x e)
    where
      go : ClosedOne 41 k s t n d w u m v → StepAt (Next.argument g (onward s t)) k s t n d w (Some (u, m + 1)) v'
      go y = step_one {m = m + 1} record {
        grows = λ a. two g a y.tree;
        more = suc (count y.tree);
        count_is = λ a. omega arith;
        answers = λ a s₀ q o z. argument_goes a s₀ g (onward s t) q y.tree y.rest (onward s u) o y.answers y.closes z;
        ahead = y.ahead;
        counted = let c = y.counted in omega arith;
        from = let c = y.from in omega arith;
        further = let c = y.from in omega arith;
        nodes = λ a i c room xs z h. let q = y.counted in step_nodes a (two_more i a y.tree g c y.wrote y.counted put) c (omega arith) xs z h;
        lets = lets_then y.wrote.lets (lets_behind d put.kept);
        kept = kept_then y.wrote.kept put.kept.kept;
      }

module _ {k : ℕ} {s : Bytes} {t : Token} {n d : ℕ} {w : List ℕ} {r : Optional (Token × ℕ)} {v : List ℕ} {i j : ℕ} {of : Ty} (x : ClosedAt 47 k s t n d w r v) where
  pub iteration_fails : r ≡ None → StepAt (Next.iteration (iterate i j of) (onward s t)) k s t n d w None v
  iteration_fails e = go (no_operand x e)
    where
      go : NoOperand 47 (onward s t) → StepAt (Next.iteration (iterate i j of) (onward s t)) k s t n d w None v
      go y = step_none (λ a s₀ q. iteration_none a s₀ (iterate i j of) (onward s t) q y.found y.answers y.lacks) (closed_kept x)

  module _ {u : Token} {m : ℕ} (e : r ≡ Some (u, m)) {r' : Optional (Token × ℕ)} {v' : List ℕ} (x' : ClosedAt 41 k s u m d v r' v') where
    pub second_fails : r' ≡ None → StepAt (Next.iteration (iterate i j of) (onward s t)) k s t n d w None v'
    second_fails e' = go (one_operand x e) (no_operand x' e')
      where
        go : ClosedOne 47 k s t n d w u m v → NoOperand 41 (onward s u) → StepAt (Next.iteration (iterate i j of) (onward s t)) k s t n d w None v'
        go y z =
            step_none (λ a s₀ q. second_none a s₀ (iterate i j of) (onward s t) q y.tree y.rest (onward s u) y.answers y.closes z.found z.answers z.lacks)
            (kept_then y.wrote.kept (closed_kept x'))

    pub iteration_found : {u' : Token} {l : ℕ} {v'' : List ℕ} → r' ≡ Some (u', l) → PutNode k l (three_shape (iterate i j of) (n - 1) (m - 1) (l - 1)) v' v''
        → StepAt (Next.iteration (iterate i j of) (onward s t)) k s t n d w (Some (u', l + 1)) v''
    unfolding count shapes
    iteration_found {u'} {l} {v''} e' put = go (one_operand x e) (one_operand x' e')
      where
        go : ClosedOne 47 k s t n d w u m v → ClosedOne 41 k s u m d v u' l v' → StepAt (Next.iteration (iterate i j of) (onward s t)) k s t n d w (Some (u', l + 1)) v''
        go y z = step_one {m = l + 1} record {
          grows = λ a. three (iterate i j of) a y.tree z.tree;
          more = suc (count y.tree + count z.tree);
          count_is = λ a. omega arith;
          answers = λ a s₀ q o p.
              iteration_goes a s₀ (iterate i j of) (onward s t) q y.tree y.rest (onward s u) y.answers y.closes z.tree z.rest (onward s u') o z.answers z.closes p;
          ahead = z.ahead;
          counted = let b = y.counted in let c = z.counted in omega arith;
          from = let b = y.from in let c = z.from in omega arith;
          further = let b = y.from in let c = z.from in omega arith;
          nodes = λ a i' c room xs q h.
              let b = y.counted in
              let f = z.counted in
              step_nodes a (three_more i' a y.tree z.tree (iterate i j of) c y.wrote y.counted z.wrote z.counted put) c (omega arith) xs q h;
          lets = lets_then (lets_then y.wrote.lets z.wrote.lets) (lets_behind d put.kept);
          kept = kept_then (kept_then y.wrote.kept z.wrote.kept) put.kept.kept;
        }

-- ---- conditions

module _ {k : ℕ} {s : Bytes} {t : Token} {n d : ℕ} {w : List ℕ} {r : Optional (Token × ℕ)} {v : List ℕ} (x : ClosedAt 51 k s t n d w r v) where
  pub test_fails : r ≡ None → BegunAt (Start.condition (onward s t)) k s t n d w None v
  test_fails e = go (no_operand x e)
    where
      go : NoOperand 51 (onward s t) → BegunAt (Start.condition (onward s t)) k s t n d w None v
      go y = begun_none (λ s₀ l q. condition_none s₀ (onward s t) l q y.found y.answers y.lacks) (closed_kept x)

  module _ {u : Token} {m : ℕ} (e : r ≡ Some (u, m)) {r' : Optional (Token × ℕ)} {v' : List ℕ} (x' : ClosedAt 52 k s u m d v r' v') where
    pub then_fails : r' ≡ None → BegunAt (Start.condition (onward s t)) k s t n d w None v'
    then_fails e' = go (one_operand x e) (no_operand x' e')
      where
        go : ClosedOne 51 k s t n d w u m v → NoOperand 52 (onward s u) → BegunAt (Start.condition (onward s t)) k s t n d w None v'
        go y z =
            begun_none (λ s₀ l q. then_none s₀ (onward s t) l q y.tree y.rest (onward s u) y.answers y.closes z.found z.answers z.lacks)
            (kept_then y.wrote.kept (closed_kept x'))

    module _ {u' : Token} {m' : ℕ} (e' : r' ≡ Some (u', m')) {r'' : Optional (Token × ℕ)} {v'' : List ℕ} (x'' : ClosedAt 53 k s u' m' d v' r'' v'') where
      pub else_fails : r'' ≡ None → BegunAt (Start.condition (onward s t)) k s t n d w None v''
      else_fails e'' = go (one_operand x e) (one_operand x' e') (no_operand x'' e'')
        where
          go : ClosedOne 51 k s t n d w u m v → ClosedOne 52 k s u m d v u' m' v' → NoOperand 53 (onward s u') → BegunAt (Start.condition (onward s t)) k s t n d w None v''
          go y y' z =
              begun_none (λ s₀ l q.
              else_none s₀ (onward s t) l q y.tree y.rest (onward s u) y.answers y.closes y'.tree y'.rest (onward s u') y'.answers y'.closes z.found z.answers z.lacks)
              (kept_then (kept_then y.wrote.kept y'.wrote.kept) (closed_kept x''))

      pub condition_found : {u'' : Token} {l : ℕ} {z : List ℕ} → r'' ≡ Some (u'', l) → PutNode k l (three_shape conditional (m - 1) (m' - 1) (l - 1)) v'' z
          → BegunAt (Start.condition (onward s t)) k s t n d w (Some (u'', l + 1)) z
      unfolding count
      condition_found {u''} {l} {z} e'' put = go (one_operand x e) (one_operand x' e') (one_operand x'' e'')
        where
          go : ClosedOne 51 k s t n d w u m v → ClosedOne 52 k s u m d v u' m' v' → ClosedOne 53 k s u' m' d v' u'' l v'' → BegunAt (Start.condition (onward s t)) k s t n d w (Some (u'', l + 1)) z
          go a b c = begun_one {m = l + 1} record {
            tree = three conditional a.tree b.tree c.tree;
            answers = λ s₀ h q.
                condition_one s₀ (onward s t) h q a.tree a.rest (onward s u) a.answers a.closes b.tree b.rest (onward s u') b.answers b.closes c.tree c.rest (onward s u'')
                c.answers c.closes;
            ahead = c.ahead;
            counted = let f = a.counted in let g = b.counted in let h = c.counted in omega arith;
            from = let f = a.from in let g = b.from in let h = c.from in omega arith;
            further = let f = a.from in let g = b.from in let h = c.from in omega arith;
            wrote = wrote_three a.tree b.tree c.tree conditional a.wrote a.counted b.wrote b.counted c.wrote c.counted put;
          }

pub closed_small : {code k : ℕ} {s : Bytes} {t u : Token} {n d m : ℕ} {w v : List ℕ} → Room s t n d w → ClosedOne code k s t n d w u m v → m + 1 ≤ length s
closed_small r x = let a = r.few in let b = x.from in let c = x.counted in let e = x.ahead.order in let f = x.ahead.within in omega arith

pub closed_further : {code k : ℕ} {s : Bytes} {t u : Token} {n d m : ℕ} {w v : List ℕ} → ClosedOne code k s t n d w u m v → t.start < u.start
closed_further x = let a = x.from in omega arith

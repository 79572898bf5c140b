-- Postfix steps, by what their calls found: one law for each return and each turn. Assumes nothing.
use mathlib.Core.Path.{◌≡◌, refl, subst}
use mathlib.Core.Option.{none, some}
use mathlib.Core.List.{List, [], ◌∷◌}
use Prim.Native.Nat.{ℕ, suc, ◌+◌, ◌-◌, ◌<◌}
use native.Mathlib.Omega.{arith}
use lib.ListN.{length}
use Rattle.ocl.specs.Types.{Ty}
use Rattle.sheet.specs.Text.{Bytes}
use Rattle.sheet.specs.Grammar.Trees.{One, Two, iterate, one, count, one_shape, shapes}
use Rattle.sheet.specs.Grammar.Sentences.{postfix, primary}
use Rattle.sheet.specs.Grammar.Parser.{Next, step_of}
use Rattle.types.specs.Reading.{type_field, held}
use Rattle.tables.proofs.Tables.{kept_then}
use Rattle.tokens.specs.declared.Token.{Token}
use Rattle.tokens.specs.Meanings.{onward}
use Rattle.phrases.specs.Meanings.{Further, StandsAs, StandsAsTwo, StepAs, step_ends, step_broken, step_plain, step_argument, step_iteration}
use Rattle.phrases.specs.declared.Postfix.{Postfix}
use Rattle.phrases.specs.declared.Postfix.TheVariants as step
use Rattle.shapes.specs.Fields.{cut}
use Rattle.shapes.specs.Iterate.{Held}
use Rattle.importer.specs.Descent.{FoundAt, found_none, found_one}
use Rattle.importer.specs.Steps.{Stepped, StepAt, step_none, step_one}
use Rattle.importer.specs.Puts.{PutNode}
use Rattle.importer.proofs.LetLaws.{lets_behind}
use Rattle.importer.proofs.StepLaws as steps
use Rattle.descent.proofs.WroteLaws.{Lays, lays_put, root_is, step_nodes}
use Rattle.descent.proofs.FoundLaws.{grown_then, found_grown}
use Rattle.descent.proofs.GrowthLaws.{Growing, never, breaks, goes, left_of}
use Rattle.std.specs.Prelude.{Option as Optional, Result, Some, None}
use Rattle.memory.specs.declared.refusals.Misread.{Misread}
use Rattle.types.specs.declared.FlatType.{FlatType}

-- ---- postfix steps

module _ {k : ℕ} {s : Bytes} {d : ℕ} {r : Optional (Token × ℕ)} {w : List ℕ} {r' : Optional (Token × ℕ)} {w' : List ℕ} (g : Growing Stepped k s d r w r' w') where
  module _ {t : Token} {n : ℕ} {v : List ℕ} (x : FoundAt primary k s t n d v r w) where
    pub steps_fail : r' ≡ None → FoundAt postfix k s t n d v None w'
    steps_fail e = go x (rw e at g)
      where
        go : {r : Optional (Token × ℕ)} {w : List ℕ} → FoundAt primary k s t n d v r w → Growing Stepped k s d r w None w' → FoundAt postfix k s t n d v None w'
        go (found_none a b) never = found_none (steps.steps_none (onward s t) a) b
        go (found_one {u = u} y) (breaks a b) = found_none (steps.steps_start (onward s t) y.tree (onward s u) none y.answers (a y.tree)) (kept_then y.wrote.kept b)

    module _ {u : Token} {m : ℕ} (e : r' ≡ Some (u, m)) where
      module _ {q : Postfix} (h : StepAs s u (step_of (onward s u)) q) where
        pub steps_end : q ≡ step.Ends → FoundAt postfix k s t n d v (Some (u, m)) w'
        steps_end i = go x (rw e at g) (rw i at h)
          where
            go : {r : Optional (Token × ℕ)} {w : List ℕ} → FoundAt primary k s t n d v r w → Growing Stepped k s d r w (Some (u, m)) w' → StepAs s u (step_of (onward s u)) step.Ends → FoundAt postfix k s t n d v (Some (u, m)) w'
            go (found_one {u = u₀} y) (goes z) (step_ends a) =
                found_grown z y (steps.steps_start (onward s t) y.tree (onward s u₀) _ y.answers (z.on y.tree _ (steps.step_ends (z.grows y.tree) (onward s u) a)))
            go (found_none _ _) x14 _ = elim x14 [ ]

        pub steps_break : q ≡ step.Broken → FoundAt postfix k s t n d v None w'
        steps_break i = go x (rw e at g) (rw i at h)
          where
            go : {r : Optional (Token × ℕ)} {w : List ℕ} → FoundAt primary k s t n d v r w → Growing Stepped k s d r w (Some (u, m)) w' → StepAs s u (step_of (onward s u)) step.Broken → FoundAt postfix k s t n d v None w'
            go (found_one {u = u₀} y) (goes z) (step_broken a) =
                found_none (steps.steps_start (onward s t) y.tree (onward s u₀) none y.answers (z.on y.tree none (steps.step_broken (z.grows y.tree) (onward s u) a)))
                (kept_then y.wrote.kept z.kept)
            go (found_none _ _) x14 _ = elim x14 [ ]

  -- ---- a turn

  module _ {u : Token} {m : ℕ} (e : r' ≡ Some (u, m)) {q : Postfix} (h : StepAs s u (step_of (onward s u)) q) where
    pub plain_further : {code x : ℕ} {u' : Token} → q ≡ step.Plain code x u' → Further s u u'
    plain_further {code} {x} {u'} i = go (rw i at h)
      where
        go : StepAs s u (step_of (onward s u)) (step.Plain code x u') → Further s u u'
        go (step_plain f a b c) = c

    pub plain_turn : {code x : ℕ} {u' : Token} → q ≡ step.Plain code x u' → {w'' : List ℕ} → ((f : One) → StandsAs f code x → PutNode k m (one_shape f (m - 1)) w' w'')
        → Growing Stepped k s d r w (Some (u', m + 1)) w''
    unfolding count shapes
    plain_turn {code} {x} {u'} i {w''} put = go (rw e at g) (rw i at h)
      where
        go : {r : Optional (Token × ℕ)} {w : List ℕ} → Growing Stepped k s d r w (Some (u, m)) w' → StepAs s u (step_of (onward s u)) (step.Plain code x u') → Growing Stepped k s d r w (Some (u', m + 1)) w''
        go (goes z) (step_plain f a b c) = goes (grown_then z record {
          grows = λ t. one f t;
          more = 1;
          count_is = λ t. omega arith;
          on = λ t o y. steps.step_plain t (onward s u) f (onward s u') o a y;
          ahead = c.ahead;
          counted = refl;
          from = let y = c.from in omega arith;
          nodes = λ t j y room xs l o.
              step_nodes t (subst (λ (z : ℕ). Lays k m d 1 (one_shape f z ∷ []) w' w'') (root_is j m t y) (lays_put refl (put f b))) y (omega arith) xs l o;
          lets = lets_behind d (put f b).kept;
          kept = (put f b).kept.kept;
        })

    step_turn : {next : Next} {u' : Token} {r'' : Optional (Token × ℕ)} {w'' : List ℕ} → step_of (onward s u) ≡ next → Further s u u' → StepAt next k s u' m d w' r'' w'' → Growing Stepped k s d r w r'' w''
    step_turn {next} {u'} {r''} {w''} a f y = go (rw e at g) y
      where
        go : {r r'' : Optional (Token × ℕ)} {w : List ℕ} → Growing Stepped k s d r w (Some (u, m)) w' → StepAt next k s u' m d w' r'' w'' → Growing Stepped k s d r w r'' w''
        go (goes z) (step_none b c) = breaks (λ t. z.on t none (b (z.grows t) (onward s u) a)) (kept_then z.kept c)
        go (goes z) (step_one b) = goes (grown_then z record {
          grows = b.grows;
          more = b.more;
          count_is = b.count_is;
          on = λ t o c. b.answers t (onward s u) a o c;
          ahead = b.ahead;
          counted = b.counted;
          from = let c = b.from in let i = f.from in omega arith;
          nodes = b.nodes;
          lets = b.lets;
          kept = b.kept;
        })

    step_less : {next : Next} {u' : Token} {r'' : Optional (Token × ℕ)} {w'' : List ℕ} → Further s u u' → StepAt next k s u' m d w' r'' w'' → left_of s r'' < suc (length s - u.start)
    unfolding left_of
    step_less f (step_none b c) = omega arith
    step_less f (step_one b) = let a = b.further in let c = f.from in let o = b.ahead.order in let i = b.ahead.within in omega arith

    module _ {code x : ℕ} {u' : Token} (i : q ≡ step.Argument code x u') where
      pub argument_further : Further s u u'
      argument_further = go (rw i at h)
        where
          go : StepAs s u (step_of (onward s u)) (step.Argument code x u') → Further s u u'
          go (step_argument f a b c) = c

      module _ {r'' : Optional (Token × ℕ)} {w'' : List ℕ} (y : (f : Two) → StandsAsTwo f code x → StepAt (Next.argument f (onward s u')) k s u' m d w' r'' w'') where
        pub argument_turn : Growing Stepped k s d r w r'' w''
        argument_turn = go (rw i at h)
          where
            go : StepAs s u (step_of (onward s u)) (step.Argument code x u') → Growing Stepped k s d r w r'' w''
            go (step_argument f a b c) = step_turn a c (y f b)

        pub argument_less : left_of s r'' < suc (length s - u.start)
        argument_less = go (rw i at h)
          where
            go : StepAs s u (step_of (onward s u)) (step.Argument code x u') → left_of s r'' < suc (length s - u.start)
            go (step_argument f a b c) = step_less c (y f b)

    module _ {x y : ℕ} {of : Result FlatType Misread} {u' : Token} (i : q ≡ step.Iteration x y of u') where
      pub iteration_further : Further s u u'
      iteration_further = go (rw i at h)
        where
          go : StepAs s u (step_of (onward s u)) (step.Iteration x y of u') → Further s u u'
          go (step_iteration j l a b c z o f) = f

      pub iteration_held : Held of
      iteration_held = go (rw i at h)
        where
          go : StepAs s u (step_of (onward s u)) (step.Iteration x y of u') → Held of
          go (step_iteration j l a b c z o f) = record { type = some a; is = o }

      module _ {r'' : Optional (Token × ℕ)} {w'' : List ℕ}
          (z : (j l : ℕ) (a : Ty) → x ≡ cut j → y ≡ cut l → type_field of ≡ held (some a) → StepAt (Next.iteration (iterate j l a) (onward s u')) k s u' m d w' r'' w'') where
        pub iteration_turn : Growing Stepped k s d r w r'' w''
        iteration_turn = go (rw i at h)
          where
            go : StepAs s u (step_of (onward s u)) (step.Iteration x y of u') → Growing Stepped k s d r w r'' w''
            go (step_iteration j l a b c p o f) = step_turn b f (z j l a c p o)

        pub iteration_less : left_of s r'' < suc (length s - u.start)
        iteration_less = go (rw i at h)
          where
            go : StepAs s u (step_of (onward s u)) (step.Iteration x y of u') → left_of s r'' < suc (length s - u.start)
            go (step_iteration j l a b c p o f) = step_less f (z j l a c p o)

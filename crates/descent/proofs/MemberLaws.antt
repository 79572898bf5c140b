-- The members of a collection: each return and each turn of the loop that reads them. Assumes nothing.
use mathlib.Core.Path.{◌≡◌, refl, sym, ap, ◌∙◌, subst}
use mathlib.Core.Option.{Option, none, some}
use mathlib.Core.List.{List, [], ◌∷◌, ◌++◌, map, append_assoc, append-nil}
use Prim.Native.Nat.{ℕ, zero, suc, ◌+◌, ◌-◌, ◌≤◌, ◌<◌}
use native.Mathlib.Omega.{arith}
use lib.ListN.{length, length-append, set, length-set}
use Rattle.laws.specs.Choice.{map_some}
use Rattle.ocl.specs.Types.{Kind}
use Rattle.sheet.specs.Text.{Bytes}
use Rattle.sheet.specs.Lines.{Shape}
use Rattle.sheet.specs.Grammar.Tokens.{Tokens}
use Rattle.sheet.specs.Grammar.Trees.{Tree, assemble, Trees, count, counts, root, roots, shapes, shapes_of}
use Rattle.sheet.specs.Grammar.Sentences.{whole}
use Rattle.sheet.specs.Grammar.Parser.{Start}
use Rattle.sheet.proofs.TextNodes.{some_node}
use Rattle.tables.specs.Layout.{Kept}
use Rattle.tables.proofs.Tables.{kept_refl, kept_then}
use Rattle.nodes.specs.Nodes.{assemble_code}
use Rattle.tokens.specs.declared.Token.{Token}
use Rattle.tokens.specs.Meanings.{onward, Ahead}
use Rattle.phrases.specs.Meanings.{AfterIs, after_none, after_one}
use Rattle.shapes.specs.Fields.{cut, four}
use Rattle.shapes.specs.Forms.{StandsFor}
use Rattle.shapes.specs.Built.{Assembles}
use Rattle.shapes.specs.declared.Parsed.{Parsed}
use Rattle.emission.specs.Nodes.{HoldsNodes, Emitted}
use Rattle.importer.specs.Descent.{Room, FoundOne, FoundAt}
use Rattle.importer.specs.Steps.{BegunAt, begun_none, begun_one}
use Rattle.importer.proofs.LetLaws.{lets_refl}
use Rattle.importer.proofs.PutLaws.{put_as}
use Rattle.importer.proofs.PrimaryLaws.{Members, collection_by, members_over, member_none, member_last, member_open, member_more}
use Rattle.descent.proofs.WroteLaws.{Lays, lays_tree, lays_put, lays_then, wrote_by, root_is}
use Rattle.descent.proofs.FoundLaws.{found_kept, no_answer, one_found}
use Rattle.std.specs.Prelude.{Option as Optional, Some, None}

-- ---- members, and more of them

unfoldable pub joined : Trees → Trees → Trees
joined Trees.none xs = xs
joined (Trees.more e es) xs = Trees.more e (joined es xs)

joined_more : (es : Trees) (e : Tree) (xs : Trees) → joined (joined es (Trees.more e Trees.none)) xs ≡ joined es (Trees.more e xs)
unfolding joined
joined_more Trees.none e xs = refl
joined_more (Trees.more a es) e xs = ap (λ (x : Trees). Trees.more a x) (joined_more es e xs)

counts_joined : (es : Trees) (e : Tree) → counts (joined es (Trees.more e Trees.none)) ≡ counts es + count e
unfolding joined counts
counts_joined Trees.none e = omega arith
counts_joined (Trees.more a es) e = let h = counts_joined es e in omega arith

roots_joined : (n : ℕ) (es : Trees) (e : Tree) → roots n (joined es (Trees.more e Trees.none)) ≡ roots n es ++ (root (n + counts es) e ∷ [])
unfolding joined counts roots
roots_joined n Trees.none e = ap (λ (i : ℕ). root i e ∷ []) (omega arith)
roots_joined n (Trees.more a es) e =
    ap (λ (l : List ℕ). root n a ∷ l) (roots_joined (n + count a) es e ∙ ap (λ (i : ℕ). roots (n + count a) es ++ (root i e ∷ [])) (omega arith))

shapes_joined : (n : ℕ) (es : Trees) (e : Tree) → shapes_of (joined es (Trees.more e Trees.none)) n ≡ shapes_of es n ++ shapes e (n + counts es)
unfolding joined counts shapes_of
shapes_joined n Trees.none e = append-nil (shapes e n) ∙ ap (λ (i : ℕ). shapes e i) (omega arith)
shapes_joined n (Trees.more a es) e =
    ap (λ (l : List Shape). shapes a n ++ l) (shapes_joined (n + count a) es e ∙ ap (λ (i : ℕ). shapes_of es (n + count a) ++ shapes e i) (omega arith))
    ∙ sym (append_assoc (shapes a n) (shapes_of es (n + count a)) (shapes e (n + (count a + counts es))))

-- ---- their roots in an array

set_root : (rs : List ℕ) (r : ℕ) → length rs < 4 → set (four (map cut rs)) (length rs) (cut r) ≡ four (map cut (rs ++ (r ∷ [])))
set_root [] r h = refl
set_root (a ∷ []) r h = refl
set_root (a ∷ b ∷ []) r h = refl
set_root (a ∷ b ∷ c ∷ []) r h = refl
set_root (a ∷ b ∷ c ∷ d ∷ rs) r h = absurd (omega arith)

-- m members after n nodes: their roots, and their nodes
pub record Held (k n d : ℕ) (before : List ℕ) (es : Trees) (at : List ℕ) (m all : ℕ) (w : List ℕ) : Type 0 where
  pub told : length (roots n es) ≡ m
  pub at-is : all ≤ 768 → at ≡ four (map cut (roots n es))
  pub counted : all ≡ n + counts es
  pub lays : Lays k n d (counts es) (shapes_of es n) before w

one_more : {k n d : ℕ} {before : List ℕ} {es : Trees} {at : List ℕ} {m nodes : ℕ} {w : List ℕ} → Held k n d before es at m nodes w → m < 4
    → {s : Bytes} {u v : Token} {all : ℕ} {w' : List ℕ} (x : FoundOne whole k s u nodes d w v all w')
    → Held k n d before (joined es (Trees.more x.tree Trees.none)) (set at m (all - 1)) (m + 1) all w'
one_more {k} {n} {d} {before} {es} {at} {m} {nodes} {w} h low {s} {u} {v} {all} {w'} x = record {
  told = let e = ap length (roots_joined n es x.tree) in let f = length-append (roots n es) (root (n + counts es) x.tree ∷ []) in let g = h.told in omega arith;
  at-is = λ l. places l;
  counted = let a = h.counted in let b = x.counted in let c = counts_joined es x.tree in omega arith;
  lays = subst (λ (c : ℕ). Lays k n d c (shapes_of es' n) before w') (sym (counts_joined es x.tree))
      (subst (λ (l : List Shape). Lays k n d (counts es + count x.tree) l before w') (sym (shapes_joined n es x.tree))
      (lays_then h.lays (subst (λ (i : ℕ). Lays k i d (count x.tree) (shapes x.tree i) w w') h.counted (lays_tree x.tree x.wrote))));
}
  where
    es' : Trees
    es' = joined es (Trees.more x.tree Trees.none)

    last : all ≤ 768 → all - 1 ≡ cut (root (n + counts es) x.tree)
    last l =
        let a = h.counted in
        let b = x.counted in
        let r = root_is nodes all x.tree b in
        let i = some_node x.tree in
        let q : all - 1 ≡ root (n + counts es) x.tree = r ∙ ap (λ (j : ℕ). root j x.tree) a in
        omega arith

    places : all ≤ 768 → set at m (all - 1) ≡ four (map cut (roots n es'))
    places l =
        let a = x.counted in
        let e = h.at-is (omega arith) in
        ap (λ (y : List ℕ). set y m (all - 1)) e
        ∙ ap (λ (i : ℕ). set (four (map cut (roots n es))) i (all - 1)) (sym h.told)
        ∙ ap (λ (i : ℕ). set (four (map cut (roots n es))) (length (roots n es)) i) (last l)
        ∙ set_root (roots n es) (root (n + counts es) x.tree) (let t = h.told in omega arith)
        ∙ ap (λ (y : List ℕ). four (map cut y)) (sym (roots_joined n es x.tree))

-- ---- the loop

-- m members have been read, and at most `left` more may come
pub record Gathering (k : ℕ) (s : Bytes) (t : Token) (n d : ℕ) (before at : List ℕ) (m : ℕ) (u : Token) (nodes : ℕ) (w : List ℕ) : Type 0 where
  pub members : Trees
  pub left : ℕ
  pub size : m + left ≡ 4
  pub on : (x : Trees) (r : Tokens) → Members left (onward s u) (some (x, r)) → Members 4 (onward s t) (some (joined members x, r))
  pub on_none : Members left (onward s u) none → Members 4 (onward s t) none
  pub long : length at ≡ 4
  pub ahead : Ahead s u
  pub from : t.start + counts members ≤ u.start
  pub held : Held k n d before members at m nodes w

pub gathering_start : {k : ℕ} {s : Bytes} {t : Token} {n d : ℕ} {w : List ℕ} → Room s t n d w → Gathering k s t n d w (0 ∷ 0 ∷ 0 ∷ 0 ∷ []) 0 t n w
unfolding joined counts roots shapes_of
gathering_start {k} {s} {t} {n} {d} {w} r = record {
  members = Trees.none;
  left = 4;
  size = refl;
  on = λ x q h. h;
  on_none = λ h. h;
  long = refl;
  ahead = r.ahead;
  from = omega arith;
  held = record {
    told = refl;
    at-is = λ l. refl;
    counted = omega arith;
    lays = record { size = refl; nodes = λ l xs e h. subst (λ (y : List Shape). HoldsNodes k y w) (sym (append-nil xs)) h; lets = lets_refl d w; kept = kept_refl w };
  };
}

module _ {k : ℕ} {s : Bytes} {t : Token} {n d : ℕ} {before at : List ℕ} {m : ℕ} {u : Token} {nodes : ℕ} {w : List ℕ} (g : Gathering k s t n d before at m u nodes w) where
  pub room_gathering : Room s t n d before → Room s u nodes d w
  room_gathering r = record {
    ahead = g.ahead;
    few = let a = r.few in let b = g.from in let c = g.held.counted in omega arith;
    long = let a = r.long in let b = g.held.lays.kept.size in omega arith;
  }

  pub gathering_kept : Kept before w
  gathering_kept = g.held.lays.kept

  pub gathering_long : (v : ℕ) → length (set at m v) ≡ 4
  gathering_long v = length-set at m v ∙ g.long

  none_begun : {a : Kind} {v : List ℕ} → Kept w v → Members 4 (onward s t) none → BegunAt (Start.collection a (onward s t)) k s t n d before None v
  unfolding map_some
  none_begun {a} x h = begun_none (λ s₀ l e. collection_by s₀ a (onward s t) none l e h) (kept_then gathering_kept x)

  -- there were four, and no bracket
  pub too_many : 4 ≤ m → {a : Kind} → BegunAt (Start.collection a (onward s t)) k s t n d before None w
  too_many l = none_begun (kept_refl w) (g.on_none (go g.left (let e = g.size in omega arith)))
    where
      go : (i : ℕ) → i ≡ 0 → Members i (onward s u) none
      go zero e = members_over (onward s u)
      go (suc i) e = absurd (omega arith)

  module _ (low : m < 4) where
    -- one may come
    allowed : {o : Option (Trees × Tokens)} → ((i : ℕ) → Members (suc i) (onward s u) o) → Members g.left (onward s u) o
    allowed {o} h = go g.left (let e = g.size in omega arith)
      where
        go : (i : ℕ) → 0 < i → Members i (onward s u) o
        go zero e = absurd (omega arith)
        go (suc i) e = h i

    module _ {r : Optional (Token × ℕ)} {v : List ℕ} (x : FoundAt whole k s u nodes d w r v) where
      pub member_fails : r ≡ None → {a : Kind} → BegunAt (Start.collection a (onward s t)) k s t n d before None v
      member_fails e = none_begun (found_kept x) (g.on_none (allowed (λ i. member_none i (onward s u) (no_answer x e))))

      module _ {u' : Token} {all : ℕ} (e : r ≡ Some (u', all)) {q : Optional Token} (c : AfterIs s u' 43 q) where
        pub members_end : {u'' : Token} → q ≡ Some u'' → {code : ℕ} {p : Parsed} {v' : List ℕ} → Assembles code (set at m (all - 1)) (m + 1) k p → Emitted all p v v'
            → (a : Kind) → assemble_code a ≡ code → BegunAt (Start.collection a (onward s t)) k s t n d before (Some (u'', all + 1)) v'
        unfolding map_some count shapes
        members_end {u''} i {code} {p} {v'} built put a z = go (rw i at c) (one_found x e)
          where
            go : AfterIs s u' 43 (Some u'') → FoundOne whole k s u nodes d w u' all v → BegunAt (Start.collection a (onward s t)) k s t n d before (Some (u'', all + 1)) v'
            go (after_one b f) y = begun_one {m = all + 1} record {
              tree = assemble a es;
              answers = λ s₀ l o.
                  collection_by s₀ a (onward s t) (some (es, onward s u'')) l o
                  (g.on (Trees.more y.tree Trees.none) (onward s u'') (allowed (λ j. member_last j (onward s u) y.tree (onward s u') y.answers (onward s u'') b)));
              ahead = f.ahead;
              counted = let l = h.counted in omega arith;
              from = let l = g.from in let o = y.from in let q = f.from in let j = counts_joined g.members y.tree in omega arith;
              further = let l = g.from in let o = y.from in let q = f.from in omega arith;
              wrote = wrote_by (assemble a es) (lays_then h.lays (lays_put h.counted (put_as (Shape.assemble a (roots n es)) stands put))) (omega arith) refl;
            }
              where
                es : Trees
                es = joined g.members (Trees.more y.tree Trees.none)

                h : Held k n d before es (set at m (all - 1)) (m + 1) all v
                h = one_more g.held low y

                stands : all < 768 → StandsFor k (Shape.assemble a (roots n es)) p
                stands l = built.is a (roots n es) (sym z) h.told (h.at-is (omega arith))

        module _ (i : q ≡ None) {q' : Optional Token} (c' : AfterIs s u' 44 q') where
          pub members_open : q' ≡ None → {a : Kind} → BegunAt (Start.collection a (onward s t)) k s t n d before None v
          members_open j {a} = go (rw i at c) (rw j at c') (one_found x e)
            where
              go : AfterIs s u' 43 None → AfterIs s u' 44 None → FoundOne whole k s u nodes d w u' all v → BegunAt (Start.collection a (onward s t)) k s t n d before None v
              go (after_none b) (after_none f) y =
                  none_begun y.wrote.kept (g.on_none (allowed (λ l. member_open l (onward s u) y.tree (onward s u') y.answers b f)))

          pub members_go : {u'' : Token} → q' ≡ Some u'' → Gathering k s t n d before (set at m (all - 1)) (m + 1) u'' all v
          unfolding map_some
          members_go {u''} j = go (rw i at c) (rw j at c') (one_found x e) g.left refl
            where
              go : AfterIs s u' 43 None → AfterIs s u' 44 (Some u'') → FoundOne whole k s u nodes d w u' all v → (l : ℕ) → g.left ≡ l
                  → Gathering k s t n d before (set at m (all - 1)) (m + 1) u'' all v
              go (after_none b) (after_one f o) y zero z = absurd (let p = g.size in omega arith)
              go (after_none b) (after_one f o) y (suc l) z = record {
                members = joined g.members (Trees.more y.tree Trees.none);
                left = l;
                size = let p = g.size in omega arith;
                on = λ xs p h.
                    subst (λ (es : Trees). Members 4 (onward s t) (some (es, p))) (sym (joined_more g.members y.tree xs))
                    (g.on (Trees.more y.tree xs) p (rw z (member_more l (onward s u) y.tree (onward s u') y.answers (onward s u'') (some (xs, p)) b f h)));
                on_none = λ h. g.on_none (rw z (member_more l (onward s u) y.tree (onward s u') y.answers (onward s u'') none b f h));
                long = gathering_long (all - 1);
                ahead = o.ahead;
                from = let p = g.from in let a = y.from in let q = o.from in let h = counts_joined g.members y.tree in omega arith;
                held = one_more g.held low y;
              }

-- How a primary begins: each return of the code that tells it. Assumes nothing.
use mathlib.Core.Path.{◌≡◌, refl, sym, ap, ◌∙◌}
use mathlib.Core.Logic.{◌≢◌}
use mathlib.Core.Bool.{true, false, true≢false}
use mathlib.Core.Option.{Option, none, some, none-ne-some}
use mathlib.Core.List.{List, [], ◌∷◌}
use Prim.Native.Nat.{ℕ}
use native.Mathlib.Omega.{arith}
use Rattle.laws.specs.Choice.{map_some}
use Rattle.ocl.specs.Forms.{Leaf, all}
use Rattle.sheet.specs.Text.{Bytes}
use Rattle.sheet.specs.Lines.{Shape, leaf as leaf_shape, forms}
use Rattle.sheet.specs.Grammar.Tokens.{Tokens}
use Rattle.sheet.specs.Grammar.Trees.{Tree, leaf, assemble, Trees, count, counts, roots, shapes, shapes_of}
use Rattle.sheet.specs.Grammar.Words.{leaf_word, kinds, named}
use Rattle.sheet.specs.Grammar.Parser.{done, start_by, start_of}
use Rattle.tokens.specs.declared.Token.{Token}
use Rattle.tokens.specs.Meanings.{part, onward, Ahead, NextIs}
use Rattle.phrases.specs.Forms.{other_start}
use Rattle.phrases.specs.Meanings.{OpeningAs, opening_none, opening_all, opening_bracket, opening_condition, opening_empty, opening_members}
use Rattle.phrases.specs.declared.Opening.{Opening}
use Rattle.phrases.specs.declared.Opening.TheVariants as opening
use Rattle.shapes.specs.Forms.{Spelled, spelled, misspelled, FormRead}
use Rattle.text.specs.Words.{form_codes}
use Rattle.text.specs.Forms.{with_code, fields_by}
use Rattle.shapes.specs.Built.{count_of, form_with, Builds, Assembles}
use Rattle.shapes.specs.declared.Parsed.{Parsed}
use Rattle.emission.specs.Nodes.{Emitted}
use Rattle.importer.specs.Leaves.{leaf_of}
use Rattle.importer.specs.Descent.{Wrote}
use Rattle.importer.specs.Puts.{PutNode, BeginAt, begin_none, begin_done, begin_bracket, begin_condition, begin_members}
use Rattle.importer.specs.declared.begin.Begun.TheVariants as begun
use Rattle.importer.proofs.LetLaws.{lets_behind}
use Rattle.importer.proofs.PutLaws.{put_as}
use Rattle.std.specs.Prelude.{Option as Optional, Some, None}

-- a tree of one node
wrote_single : {k n : ℕ} {u v : List ℕ} (x : Tree) (y : Shape) → shapes x n ≡ y ∷ [] → count x ≡ 1 → PutNode k n y u v → (d : ℕ) → Wrote k x n d u v
wrote_single {k} {n} {u} {v} x y e c put d = record {
  nodes = λ room xs s h. rw e (put.node (omega arith) xs s h);
  lets = lets_behind d put.kept;
  kept = put.kept.kept;
}

-- what starts with a leaf, and with no leaf
leaf_starts : (l : Leaf) (a : Tokens) → leaf_of a ≡ some l → {w : Bytes} {r : Tokens} → a ≡ w ∷ r → start_of a ≡ some (done (leaf l) r)
unfolding leaf_of start_of start_by
leaf_starts l a e {w} {r} q = rw q (go (rw q at e))
  where
    go : leaf_word w ≡ some l → start_by (leaf_word w) (named kinds w) w r ≡ some (done (leaf l) r)
    go z = rw z

no_leaf_starts : (a : Tokens) → leaf_of a ≡ none → start_of a ≡ other_start a
unfolding leaf_of start_of other_start
no_leaf_starts [] e = refl
no_leaf_starts (w ∷ a) e = rw e

coded : (l : Leaf) {s : Bytes} {t : Token} → Ahead s t → leaf_of (onward s t) ≡ some l → t.code ≢ 65
unfolding leaf_of
coded l h e z = none-ne-some _ (sym (ap leaf_of (h.none z)) ∙ e)

module _ {k : ℕ} {s : Bytes} {t : Token} (ahead : Ahead s t) {p : Parsed} (read : FormRead k (map_some leaf_shape (leaf_of (onward s t))) p) where
  pub begin_leaf : {n : ℕ} {w v : List ℕ} {u : Token} → p.spelled ≡ true → Emitted n p w v → NextIs s t.end u → BeginAt k s t n w (Some (begun.Done u)) v
  unfolding map_some count shapes
  begin_leaf {n} {w} {v} {u} b put next = go (leaf_of (onward s t)) refl read.is
    where
      go : (o : Option Leaf) → leaf_of (onward s t) ≡ o → Spelled k (map_some leaf_shape o) p → BeginAt k s t n w (Some (begun.Done u)) v
      go none e (misspelled f) = absurd (true≢false (sym b ∙ f))
      go (some l) e (spelled f z) =
          let o = ahead.one (coded l ahead e) in
          begin_done record {
            tree = leaf l;
            starts = leaf_starts l (onward s t) e (o.1 ∙ ap (λ (r : Tokens). part s t.start t.end ∷ r) next.rest);
            single = refl;
            further = record { ahead = next.ahead; from = let f = next.from in let g = o.0 in omega arith };
            wrote = wrote_single (leaf l) (leaf_shape l) refl refl (put_as (leaf_shape l) (λ m. z) put);
          }

  -- it is no leaf
  other_start_lem : p.spelled ≡ false → start_of (onward s t) ≡ other_start (onward s t)
  unfolding map_some
  other_start_lem b = go (leaf_of (onward s t)) refl read.is
    where
      go : (o : Option Leaf) → leaf_of (onward s t) ≡ o → Spelled k (map_some leaf_shape o) p → start_of (onward s t) ≡ other_start (onward s t)
      go none e z = no_leaf_starts (onward s t) e
      go (some l) e (spelled f z) = absurd (true≢false (sym f ∙ b))

  module _ {n : ℕ} {w : List ℕ} (b : p.spelled ≡ false) {r : Optional Opening} (h : OpeningAs s t (other_start (onward s t)) r) where
    pub begin_no : r ≡ None → BeginAt k s t n w None w
    begin_no e = go (rw e at h)
      where
        go : OpeningAs s t (other_start (onward s t)) None → BeginAt k s t n w None w
        go (opening_none z) = begin_none (other_start_lem b ∙ z)

    module _ {o : Opening} (i : r ≡ Some o) where
      pub begin_round : {u : Token} → o ≡ opening.Bracket u → BeginAt k s t n w (Some (begun.Bracket u)) w
      begin_round {u} e = go (rw (i, e) at h)
        where
          go : OpeningAs s t (other_start (onward s t)) (Some (opening.Bracket u)) → BeginAt k s t n w (Some (begun.Bracket u)) w
          go (opening_bracket z f) = begin_bracket (other_start_lem b ∙ z) f

      pub begin_if : {u : Token} → o ≡ opening.Condition u → BeginAt k s t n w (Some (begun.Condition u)) w
      begin_if {u} e = go (rw (i, e) at h)
        where
          go : OpeningAs s t (other_start (onward s t)) (Some (opening.Condition u)) → BeginAt k s t n w (Some (begun.Condition u)) w
          go (opening_condition z f) = begin_condition (other_start_lem b ∙ z) f

      pub begin_braces : {code : ℕ} {u : Token} → o ≡ opening.Members code u → BeginAt k s t n w (Some (begun.Members code u)) w
      begin_braces {code} {u} e = go (rw (i, e) at h)
        where
          go : OpeningAs s t (other_start (onward s t)) (Some (opening.Members code u)) → BeginAt k s t n w (Some (begun.Members code u)) w
          go (opening_members a z c f) = begin_members a (other_start_lem b ∙ z) c f

      module _ {v : List ℕ} {q : Parsed} (put : Emitted n q w v) where
        pub begin_all : {x : ℕ} {u : Token} → o ≡ opening.All x u → Builds 6 (x ∷ 0 ∷ 0 ∷ 0 ∷ []) k q → BeginAt k s t n w (Some (begun.Done u)) v
        unfolding count shapes count_of form_with fields_by with_code forms form_codes
        begin_all {x} {u} e built = go (rw (i, e) at h)
          where
            go : OpeningAs s t (other_start (onward s t)) (Some (opening.All x u)) → BeginAt k s t n w (Some (begun.Done u)) v
            go (opening_all c z y f) = begin_done record {
              tree = leaf (all c);
              starts = other_start_lem b ∙ z;
              single = refl;
              further = f;
              wrote =
                  wrote_single (leaf (all c)) (leaf_shape (all c)) refl refl
                  (put_as (leaf_shape (all c)) (λ m. built.is (c ∷ []) (omega arith) refl (ap (λ (i : ℕ). i ∷ 0 ∷ 0 ∷ 0 ∷ []) y)) put);
            }

        pub begin_empty : {code : ℕ} {u : Token} → o ≡ opening.Empty code u → Assembles code (0 ∷ 0 ∷ 0 ∷ 0 ∷ []) 0 k q → BeginAt k s t n w (Some (begun.Done u)) v
        unfolding count counts roots shapes shapes_of
        begin_empty {code} {u} e built = go (rw (i, e) at h)
          where
            go : OpeningAs s t (other_start (onward s t)) (Some (opening.Empty code u)) → BeginAt k s t n w (Some (begun.Done u)) v
            go (opening_empty a z y f) = begin_done record {
              tree = assemble a Trees.none;
              starts = other_start_lem b ∙ z;
              single = refl;
              further = f;
              wrote =
                  wrote_single (assemble a Trees.none) (Shape.assemble a []) refl refl
                  (put_as (Shape.assemble a []) (λ m. built.is a [] (sym y) refl refl) put);
            }

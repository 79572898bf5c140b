-- Laws of primaries that are no leaf: one for each return. Assumes nothing.
use mathlib.Core.Path.{◌≡◌, refl, sym, ap, ◌∙◌}
use mathlib.Core.Logic.{◌≢◌}
use mathlib.Core.Bool.{Bool, true, false, true≢false}
use mathlib.Core.Option.{Option, none, some}
use mathlib.Core.List.{List, [], ◌∷◌}
use Prim.Native.Nat.{ℕ}
use native.Mathlib.Omega.{arith}
use borrow.Author.Tests.{ne_eqb, leb-true}
use lib.Dec.{leb}
use Rattle.laws.specs.Choice.{on_some, map_some}
use Rattle.laws.proofs.Tests.{and-true}
use Rattle.laws.proofs.Cases.{AllBelow, from_below}
use Rattle.ocl.specs.Types.{Kind, set, sequence, bag}
use Rattle.ocl.specs.Forms.{all}
use Rattle.sheet.specs.Text.{Bytes, bytes}
use Rattle.sheet.specs.Lines.{is}
use Rattle.sheet.specs.Grammar.Tokens.{Tokens}
use Rattle.sheet.specs.Grammar.Trees.{leaf}
use Rattle.sheet.specs.Grammar.Words.{named, labelled, class_word, kinds}
use Rattle.sheet.specs.Grammar.Parser.{after, taking, after_call, Start, instances_start, braces, start_by}
use Rattle.text.specs.Numbers.{cut}
use Rattle.nodes.specs.Nodes.{assemble_code}
use Rattle.tokens.specs.Codes.{codes, or_code, code_of, after_code}
use Rattle.tokens.specs.Meanings.{part, onward, Ahead, NextIs}
use Rattle.tokens.specs.declared.Token.{Token}
use Rattle.tokens.proofs.CodeLaws.{by_code, coded, all_coded, named_told}
use Rattle.tokens.proofs.WordCodes.{after_dot, after_all, after_bracket, after_close, after_brace, after_close_brace, is_bracket, is_if}
use Rattle.phrases.specs.Forms.{is_collection, class_start, other_start}
use Rattle.phrases.specs.Meanings.{Further, AfterIs, LabelledAs, labelled_one, OpeningAs, opening_none, opening_all, opening_bracket, opening_condition, opening_empty, opening_members}
use Rattle.phrases.specs.declared.Opening.{Opening}
use Rattle.phrases.specs.declared.Opening.TheVariants as opening
use Rattle.phrases.proofs.WordLaws as words
use Rattle.std.specs.Prelude.{Option as Optional, Some, None}

-- ---- `#1.allInstances()`

-- by the codes of what follows the class
unfoldable instances_by : Option (ℕ × Tokens) → Option Start
instances_by o =
    on_some o (λ x. on_some (after_code 48 x.1) (λ p. on_some (after_code 6 p) (λ q. on_some (after_code 40 q) (λ r.
    map_some (Start.done (leaf (all x.0))) (after_code 41 r)))))

instances_told : (l : Tokens) → class_start l ≡ instances_by (taking (labelled 35) l)
unfolding class_start instances_start instances_by class_word taking after_call on_some map_some
instances_told [] = refl
instances_told (w ∷ s) = go (labelled 35 w)
  where
    fourth : (c : ℕ) (q : Option Tokens) → map_some (Start.done (leaf (all c))) (on_some q (after ")")) ≡ on_some q (λ r. map_some (Start.done (leaf (all c))) (after_code 41 r))
    fourth c none = refl
    fourth c (some r) = rw (after_close r)

    third : (c : ℕ) (p : Option Tokens) → map_some (Start.done (leaf (all c))) (on_some p after_call) ≡ on_some p (λ q. on_some (after_code 40 q) (λ r. map_some (Start.done (leaf (all c))) (after_code 41 r)))
    third c none = refl
    third c (some q) = rw (after_bracket q) (fourth c (after_code 40 q))

    second : (c : ℕ) (o : Option Tokens) → map_some (Start.done (leaf (all c))) (on_some o (λ p. on_some (after "allInstances" p) after_call))
        ≡ on_some o (λ p. on_some (after_code 6 p) (λ q. on_some (after_code 40 q) (λ r. map_some (Start.done (leaf (all c))) (after_code 41 r))))
    second c none = refl
    second c (some p) = rw (after_all p) (third c (after_code 6 p))

    go : (o : Option ℕ) → on_some o (λ c. map_some (Start.done (leaf (all c))) (on_some (after "." s) (λ r. on_some (after "allInstances" r) after_call))) ≡ instances_by (map_some (λ x. (x, s)) o)
    go none = refl
    go (some c) = rw (after_dot s) (second c (after_code 48 s))

module _ {s : Bytes} {t : Token} {r : Optional (ℕ × Token)} (h : LabelledAs s t (taking (labelled 35) (onward s t)) r) where
  pub no_class : r ≡ None → OpeningAs s t (class_start (onward s t)) None
  unfolding instances_by on_some
  no_class d = opening_none (rw (instances_told (onward s t), words.unlabelled h d))

  module _ {x : ℕ} {u : Token} (d : r ≡ Some (x, u)) where
    -- the class, and what follows it
    on_class_lem : {a : Optional Opening} → ((c : ℕ) → x ≡ cut c → Further s t u → OpeningAs s t (instances_by (some (c, onward s u))) a) → OpeningAs s t (class_start (onward s t)) a
    on_class_lem {a} k = go (rw d at h)
      where
        go : LabelledAs s t (taking (labelled 35) (onward s t)) (Some (x, u)) → OpeningAs s t (class_start (onward s t)) a
        go (labelled_one c e p f) = rw (instances_told (onward s t), e) (k c p f)

    module _ {q : Optional Token} (g : AfterIs s u 48 q) where
      pub no_dot : q ≡ None → OpeningAs s t (class_start (onward s t)) None
      unfolding instances_by on_some
      no_dot e = on_class_lem (λ c p f. opening_none (rw (words.gone g e)))

      module _ {v : Token} (e : q ≡ Some v) {q₂ : Optional Token} (g₂ : AfterIs s v 6 q₂) where
        pub no_all : q₂ ≡ None → OpeningAs s t (class_start (onward s t)) None
        unfolding instances_by on_some
        no_all e₂ = on_class_lem (λ c p f. opening_none (rw (words.came g e, words.gone g₂ e₂)))

        module _ {w : Token} (e₂ : q₂ ≡ Some w) {q₃ : Optional Token} (g₃ : AfterIs s w 40 q₃) where
          pub no_open : q₃ ≡ None → OpeningAs s t (class_start (onward s t)) None
          unfolding instances_by on_some
          no_open e₃ = on_class_lem (λ c p f. opening_none (rw (words.came g e, words.came g₂ e₂, words.gone g₃ e₃)))

          module _ {y : Token} (e₃ : q₃ ≡ Some y) {q₄ : Optional Token} (g₄ : AfterIs s y 41 q₄) where
            pub no_close : q₄ ≡ None → OpeningAs s t (class_start (onward s t)) None
            unfolding instances_by on_some map_some
            no_close e₄ = on_class_lem (λ c p f. opening_none (rw (words.came g e, words.came g₂ e₂, words.came g₃ e₃, words.gone g₄ e₄)))

            pub all_instances_lem : {z : Token} → q₄ ≡ Some z → OpeningAs s t (class_start (onward s t)) (Some (opening.All x z))
            unfolding instances_by on_some map_some
            all_instances_lem {z} e₄ =
                on_class_lem (λ c p f. opening_all {u = z} c (rw (words.came g e, words.came g₂ e₂, words.came g₃ e₃, words.came g₄ e₄)) p
                (words.farther f (words.farther (words.came_further g e) (words.farther (words.came_further g₂ e₂)
                (words.farther (words.came_further g₃ e₃) (words.came_further g₄ e₄))))))

-- ---- collections

unfoldable kind_rows : List (ℕ × Kind)
kind_rows = (27, set) ∷ (28, sequence) ∷ (29, bag) ∷ []

kinds_told : (w : Bytes) → named kinds w ≡ by_code kind_rows (code_of w)
unfolding kind_rows coded all_coded kinds code_of or_code named codes is bytes
kinds_told w = named_told kinds refl w

data KindCode (k : ℕ) : Type 0 where
  kind_code_lem : (a : Kind) → by_code kind_rows k ≡ some a → assemble_code a ≡ k → KindCode k

a_kind_lem : (k : ℕ) → is_collection k ≡ true → KindCode k
unfolding is_collection AllBelow by_code kind_rows assemble_code
a_kind_lem k h =
    let p = and-true (leb 27 k) (leb k 29) h in
    let l = leb-true 27 k p.0 in
    let m = leb-true k 29 p.1 in
    from_below KindCode 27 3 (((tt, kind_code_lem set refl refl), kind_code_lem sequence refl refl), kind_code_lem bag refl refl) k l (omega arith)

no_kind : (k : ℕ) → is_collection k ≡ false → by_code kind_rows k ≡ none
unfolding by_code kind_rows is_collection
no_kind k h = rw (ne_eqb k 27 (other 27 refl), ne_eqb k 28 (other 28 refl), ne_eqb k 29 (other 29 refl))
  where
    other : (j : ℕ) → is_collection j ≡ true → k ≢ j
    other j e q = true≢false (sym e ∙ ap is_collection (sym q) ∙ h)

-- a code that is a collection's is no end
pub kind_no_end : {k : ℕ} → is_collection k ≡ true → k ≢ 65
unfolding is_collection
kind_no_end {k} h e = true≢false (sym h ∙ ap is_collection e)

module _ {s : Bytes} {t : Token} (h : Ahead s t) where
  module _ (c : is_collection t.code ≡ true) {u : Token} (m : NextIs s t.end u) {q : Optional Token} (g : AfterIs s u 42 q) where
    -- the kind, and what follows it
    on_kind_lem : {a : Optional Opening} → ((k : Kind) → assemble_code k ≡ t.code → OpeningAs s t (map_some (λ l. braces k l (after "}" l)) (after "{" (onward s u))) a)
        → OpeningAs s t (other_start (onward s t)) a
    unfolding other_start start_by
    on_kind_lem {a} f = go (a_kind_lem t.code c)
      where
        n : t.code ≢ 65
        n = kind_no_end c

        go : KindCode t.code → OpeningAs s t (other_start (onward s t)) a
        go (kind_code_lem k e d) = rw (words.front h n m, kinds_told (part s t.start t.end), ← words.coded h n, e) (f k d)

    pub no_brace : q ≡ None → OpeningAs s t (other_start (onward s t)) None
    unfolding map_some
    no_brace d = on_kind_lem (λ k e. opening_none (rw (after_brace (onward s u), words.gone g d)))

    module _ {v : Token} (d : q ≡ Some v) {q₂ : Optional Token} (g₂ : AfterIs s v 43 q₂) where
      all_way : {w : Token} → Further s v w → Further s t w
      all_way f = words.farther (words.further h (kind_no_end c) m) (words.farther (words.came_further g d) f)

      pub no_members : {w : Token} → q₂ ≡ Some w → OpeningAs s t (other_start (onward s t)) (Some (opening.Empty t.code w))
      unfolding map_some braces
      no_members {w} e =
          on_kind_lem (λ k f. opening_empty {u = w} k (rw (after_brace (onward s u), words.came g d, after_close_brace (onward s v), words.came g₂ e)) f
          (all_way (words.came_further g₂ e)))

      pub members : q₂ ≡ None → OpeningAs s t (other_start (onward s t)) (Some (opening.Members t.code v))
      unfolding map_some braces
      members e =
          on_kind_lem (λ k f. opening_members {u = v} k (rw (after_brace (onward s u), words.came g d, after_close_brace (onward s v), words.gone g₂ e)) f
          (words.farther (words.further h (kind_no_end c) m) (words.came_further g d)))

  -- ---- the returns of `opening`

  pub at-end : t.code ≡ 65 → OpeningAs s t (other_start (onward s t)) None
  unfolding other_start
  at-end e = opening_none (rw (h.none e))

  module _ {u : Token} (m : NextIs s t.end u) where
    pub a_condition : t.code ≡ 31 → OpeningAs s t (other_start (onward s t)) (Some (opening.Condition u))
    unfolding other_start start_by by_code kind_rows
    a_condition c =
        let n : t.code ≢ 65 = λ z. omega arith in
        let x : code_of (part s t.start t.end) ≡ 31 = sym (words.coded h n) ∙ c in
        let y : named kinds (part s t.start t.end) ≡ none = kinds_told (part s t.start t.end) ∙ rw x in
        opening_condition {u = u} (rw (words.front h n m, y, is_bracket (part s t.start t.end), is_if (part s t.start t.end), x)) (words.further h n m)

    pub a_bracket : t.code ≡ 40 → OpeningAs s t (other_start (onward s t)) (Some (opening.Bracket u))
    unfolding other_start start_by by_code kind_rows
    a_bracket c =
        let n : t.code ≢ 65 = λ z. omega arith in
        let x : code_of (part s t.start t.end) ≡ 40 = sym (words.coded h n) ∙ c in
        let y : named kinds (part s t.start t.end) ≡ none = kinds_told (part s t.start t.end) ∙ rw x in
        opening_bracket {u = u} (rw (words.front h n m, y, is_bracket (part s t.start t.end), x)) (words.further h n m)

  pub a_class : {b : Bool} {a : Optional Opening} → b ≡ is_collection t.code → b ≡ false → t.code ≢ 31 → t.code ≢ 40 → t.code ≢ 65
      → OpeningAs s t (class_start (onward s t)) a → OpeningAs s t (other_start (onward s t)) a
  unfolding other_start start_by class_start
  a_class e f x y n k =
      let c = words.coded h n in
      let z : named kinds (part s t.start t.end) ≡ none = kinds_told (part s t.start t.end) ∙ rw (← c) (no_kind t.code (sym e ∙ f)) in
      rw ((h.one n).1, z, is_bracket (part s t.start t.end), is_if (part s t.start t.end), ← c, ne_eqb _ 40 y, ne_eqb _ 31 x) (rw (h.one n).1 at k)

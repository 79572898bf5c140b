-- Document 02, F-7: the grammar. `Reads l s t r`: the tokens s are an expression of level l, which stands for the tree t, and then r.
-- A text is a sentence, of tree t, where `Reads whole s t []` holds of its tokens s.
use Rattle.std.specs.Prelude.{◌≡◌, ◌∷◌, ℕ, suc}
use Rattle.std.proofs.Math.Option.{some}
use Prim.Native.String.{String}
use Rattle.ocl.specs.Types.{Kind, Letter, Ty, around}
use Rattle.ocl.specs.Forms.{Quantifier, of_object, of_members, Leaf, all, negation, cast_to}
use Rattle.sheet.specs.Text.{Bytes, bytes}
use Rattle.sheet.specs.Grammar.Tokens.{Tokens}
use Rattle.sheet.specs.Grammar.Trees.{One, unary, is_undef, attribute, call, Two, let_in, quantified, conditional, iterate, Tree, leaf, one, two, three, assemble, Trees, none, more}
use Rattle.sheet.specs.Grammar.Words.{named, variable_word, attribute_word, class_word, definition_word, leaf_word, kinds, plain_forms, argument_forms, quantifiers, letters, type_word, disjunctions, conjunctions, comparisons, sums, products}

-- a word or sign as it stands, and then more
infixr 50 ◌then◌
abbrev pub ◌then◌ : String → Tokens → Tokens
◌then◌ w s = bytes w ∷ s

-- "a comparison level over sums over products over prefix `not`s over postfix steps; `or` binds loosest, then `and`"; from the
-- loosest to the tightest
pub data Level : Type 0 where
  whole disjunction conjunction comparison sum product prefix postfix primary : Level

-- an expression of a level may be one of the next
infix 20 ◌over◌
pub data ◌over◌ : Level → Level → Type 0 where
  whole_over : whole over disjunction
  disjunction_over : disjunction over conjunction
  conjunction_over : conjunction over comparison
  comparison_over : comparison over sum
  sum_over : sum over product
  product_over : product over prefix
  prefix_over : prefix over postfix
  postfix_over : postfix over primary

-- "the other two-sided signs .. lean left": their level stands on the left side, the next one on the right
pub data Sign : Level → Level → Bytes → Two → Type 0 where
  or_sign : {w : Bytes} {f : Two} → named disjunctions w ≡ some f → Sign disjunction conjunction w f
  and_sign : {w : Bytes} {f : Two} → named conjunctions w ≡ some f → Sign conjunction comparison w f
  sum_sign : {w : Bytes} {f : Two} → named sums w ≡ some f → Sign sum product w f
  product_sign : {w : Bytes} {f : Two} → named products w ≡ some f → Sign product prefix w f

-- a type, as in a sheet
pub data ReadsType : Tokens → Ty → Tokens → Type 0 where
  -- Void   Bool   Int   Real   Any   #1
  simple_type : {w : Bytes} {t : Ty} {r : Tokens} → type_word w ≡ some t → ReadsType (w ∷ r) t r
  -- S( T )
  collection_type : {w : Bytes} {l : Letter} {s : Tokens} {t : Ty} {r : Tokens}
      → named letters w ≡ some l → ReadsType s t (")" then r) → ReadsType (w ∷ ("(" then s)) (around l t) r

mutual
  pub data Reads : Level → Tokens → Tree → Tokens → Type 0 where
    -- let v1 = E in E   "only where a whole expression may stand"
    let_in_lem : {v : Bytes} {i : ℕ} {s s' : Tokens} {e b : Tree} {r : Tokens}
        → variable_word v ≡ some i → Reads whole s e ("in" then s') → Reads whole s' b r
        → Reads whole ("let" then v ∷ ("=" then s)) (two (let_in i) e b) r
    -- one of the next level
    next : {l m : Level} {s : Tokens} {t : Tree} {r : Tokens} → l over m → Reads m s t r → Reads l s t r
    -- E or E   E and E   E + E   E - E   E * E   E div E   E mod E   E / E
    leaning : {l m : Level} {w : Bytes} {f : Two} {s s' : Tokens} {a b : Tree} {r : Tokens}
        → Sign l m w f → Reads l s a (w ∷ s') → Reads m s' b r → Reads l s (two f a b) r
    -- E = E   E < E   "A comparison has at most one"
    compared : {w : Bytes} {f : Two} {s s' : Tokens} {a b : Tree} {r : Tokens}
        → named comparisons w ≡ some f → Reads sum s a (w ∷ s') → Reads sum s' b r → Reads comparison s (two f a b) r
    -- not E
    negated : {s : Tokens} {a : Tree} {r : Tokens} → Reads prefix s a r → Reads prefix ("not" then s) (one (unary negation) a) r
    -- E.a5
    attribute_step : {s : Tokens} {a : Tree} {w : Bytes} {n : ℕ} {r : Tokens}
        → attribute_word w ≡ some n → Reads postfix s a ("." then w ∷ r) → Reads postfix s (one (attribute of_object n) a) r
    -- E.d0()   (F-13)
    call_step_lem : {s : Tokens} {a : Tree} {w : Bytes} {n : ℕ} {r : Tokens}
        → definition_word w ≡ some n → Reads postfix s a ("." then w ∷ ("(" then ")" then r)) → Reads postfix s (one (call n) a) r
    -- E.oclAsType(#1)
    cast_step : {s : Tokens} {a : Tree} {w : Bytes} {c : ℕ} {r : Tokens}
        → class_word w ≡ some c → Reads postfix s a ("." then "oclAsType" then "(" then w ∷ (")" then r))
        → Reads postfix s (one (unary (cast_to c)) a) r
    -- E.isUndef()
    undefined_step : {s : Tokens} {a : Tree} {r : Tokens}
        → Reads postfix s a ("." then "isUndef" then "(" then ")" then r) → Reads postfix s (one is_undef a) r
    -- E->size()   E->asSet()   E->asSequence()   E->asBag()
    plain_step : {s : Tokens} {a : Tree} {w : Bytes} {f : One} {r : Tokens}
        → named plain_forms w ≡ some f → Reads postfix s a ("->" then w ∷ ("(" then ")" then r)) → Reads postfix s (one f a) r
    -- E->collect(a5)   (F-4)
    collect_step_lem : {s : Tokens} {a : Tree} {w : Bytes} {n : ℕ} {r : Tokens}
        → attribute_word w ≡ some n → Reads postfix s a ("->" then "collect" then "(" then w ∷ (")" then r))
        → Reads postfix s (one (attribute of_members n) a) r
    -- E->includes( E )   E->including( E )   E->union( E )
    argument_step : {s s' : Tokens} {a e : Tree} {w : Bytes} {f : Two} {r : Tokens}
        → named argument_forms w ≡ some f → Reads postfix s a ("->" then w ∷ ("(" then s')) → Reads whole s' e (")" then r)
        → Reads postfix s (two f a e) r
    -- E->forAll(v1 | E )   E->exists(v1 | E )
    quantified_step_lem : {s s' : Tokens} {a b : Tree} {w v : Bytes} {q : Quantifier} {i : ℕ} {r : Tokens}
        → named quantifiers w ≡ some q → variable_word v ≡ some i
        → Reads postfix s a ("->" then w ∷ ("(" then v ∷ ("|" then s'))) → Reads whole s' b (")" then r)
        → Reads postfix s (two (quantified q i) a b) r
    -- E->iter(v1; v2 : T = E | E )
    iterate_step_lem : {s s₁ s₂ s₃ : Tokens} {a e b : Tree} {v u : Bytes} {i j : ℕ} {t : Ty} {r : Tokens}
        → variable_word v ≡ some i → variable_word u ≡ some j
        → Reads postfix s a ("->" then "iter" then "(" then v ∷ (";" then u ∷ (":" then s₁))) → ReadsType s₁ t ("=" then s₂)
        → Reads whole s₂ e ("|" then s₃) → Reads whole s₃ b (")" then r)
        → Reads postfix s (three (iterate i j t) a e b) r
    -- true   false   12   r3ff8000000000000   undef   self   v1
    word : {w : Bytes} {l : Leaf} {r : Tokens} → leaf_word w ≡ some l → Reads primary (w ∷ r) (leaf l) r
    -- #1.allInstances()
    instances : {w : Bytes} {c : ℕ} {r : Tokens}
        → class_word w ≡ some c → Reads primary (w ∷ ("." then "allInstances" then "(" then ")" then r)) (leaf (all c)) r
    -- ( E )
    bracketed : {s : Tokens} {t : Tree} {r : Tokens} → Reads whole s t (")" then r) → Reads primary ("(" then s) t r
    -- if E then E else E endif
    if_then_else : {s s' s'' : Tokens} {c a b : Tree} {r : Tokens}
        → Reads whole s c ("then" then s') → Reads whole s' a ("else" then s'') → Reads whole s'' b ("endif" then r)
        → Reads primary ("if" then s) (three conditional c a b) r
    -- Set{ }   Sequence{ }   Bag{ }
    no_members : {w : Bytes} {k : Kind} {r : Tokens} → named kinds w ≡ some k → Reads primary (w ∷ ("{" then "}" then r)) (assemble k none) r
    -- Set{ E , .. }, at most four
    members : {w : Bytes} {k : Kind} {s : Tokens} {es : Trees} {r : Tokens}
        → named kinds w ≡ some k → ReadsMembers 4 s es r → Reads primary (w ∷ ("{" then s)) (assemble k es) r

  -- one member or more, at most n, and the bracket that closes
  pub data ReadsMembers : ℕ → Tokens → Trees → Tokens → Type 0 where
    -- E }
    last_member : {n : ℕ} {s : Tokens} {e : Tree} {r : Tokens} → Reads whole s e ("}" then r) → ReadsMembers (suc n) s (more e none) r
    -- E , ..
    next_member : {n : ℕ} {s s' : Tokens} {e : Tree} {es : Trees} {r : Tokens}
        → Reads whole s e ("," then s') → ReadsMembers n s' es r → ReadsMembers (suc n) s (more e es) r

-- Laws of the brackets that are open: what `open_after` answers, and the turns of `few_open`. Assumes nothing.
use mathlib.Core.Path.{◌≡◌, refl, sym, ap, ◌∙◌}
use mathlib.Core.Logic.{◌≢◌, ◌⊎◌, inl, inr}
use mathlib.Core.Bool.{Bool, true, false, ◌&&◌, ◌||◌}
use mathlib.Core.List.{[], ◌∷◌}
use Prim.Native.Nat.{ℕ, zero, suc, pred, ◌+◌, ◌-◌, ◌<◌, ◌≤◌}
use native.Mathlib.Numerals.{add-one}
use native.Mathlib.Omega.{arith}
use borrow.Author.Tests.{ne_eqb, le-leb, lt-leb}
use lib.Dec.{eqb, leb, ltb}
use lib.ListN.{length, drop}
use Rattle.std.specs.Prelude.{if◌then◌else◌}
use Rattle.laws.specs.Lists.{member}
use Rattle.sheet.specs.Text.{Bytes}
use Rattle.sheet.specs.Grammar.Tokens.{Tokens, tokens}
use Rattle.sheet.specs.Texts.{opens, closes, few_open, brackets_within}
use Rattle.tokens.specs.Codes.{code_of, head_code}
use Rattle.tokens.specs.Meanings.{part, onward, Ahead, NextIs, open_after}
use Rattle.tokens.specs.declared.Token.{Token}
use Rattle.tokens.proofs.WordCodes.{is_bracket, is_brace, is_if, is_close, is_close_brace, is_endif}

-- ---- what is open after a token

pub less_one : (n : ℕ) → n - 1 ≡ pred n
less_one zero = refl
less_one (suc n) = omega arith

module _ (k d : ℕ) where
  pub opens_one : (k ≡ 31) ⊎ ((k ≡ 40) ⊎ (k ≡ 42)) → d + 1 ≡ open_after k d
  unfolding open_after member
  opens_one (inl e) = rw (e, add-one)
  opens_one (inr (inl e)) = rw (e, add-one)
  opens_one (inr (inr e)) = rw (e, add-one)

  closed : (k ≡ 41) ⊎ ((k ≡ 43) ⊎ (k ≡ 53)) → pred d ≡ open_after k d
  unfolding open_after member
  closed (inl e) = rw e
  closed (inr (inl e)) = rw e
  closed (inr (inr e)) = rw e

  pub closes_one : (k ≡ 41) ⊎ ((k ≡ 43) ⊎ (k ≡ 53)) → d - 1 ≡ open_after k d
  closes_one h = less_one d ∙ closed h

  pub neither : ((k ≡ 31) ⊎ ((k ≡ 40) ⊎ (k ≡ 42)) → ⊥) → ((k ≡ 41) ⊎ ((k ≡ 43) ⊎ (k ≡ 53)) → ⊥) → d ≡ open_after k d
  unfolding open_after member
  neither a b =
      simp (
        ne_eqb k 31 (λ e. a (inl e)),
        ne_eqb k 40 (λ e. a (inr (inl e))),
        ne_eqb k 42 (λ e. a (inr (inr e))),
        ne_eqb k 41 (λ e. b (inl e)),
        ne_eqb k 43 (λ e. b (inr (inl e))),
        ne_eqb k 53 (λ e. b (inr (inr e))),
      )

-- ---- one token of a text

any_order : (a b c : Bool) → (a || b || c) ≡ (c || (a || (b || false)))
any_order true b true = refl
any_order true b false = refl
any_order false true true = refl
any_order false true false = refl
any_order false false true = refl
any_order false false false = refl

as_they_stand : (a b c : Bool) → (a || b || c) ≡ (a || (b || (c || false)))
as_they_stand true b c = refl
as_they_stand false true c = refl
as_they_stand false false true = refl
as_they_stand false false false = refl

opens_told : (w : Bytes) → opens w ≡ member (code_of w) (31 ∷ 40 ∷ 42 ∷ [])
unfolding opens member
opens_told w = rw (is_bracket w, is_brace w, is_if w) (any_order (eqb (code_of w) 40) (eqb (code_of w) 42) (eqb (code_of w) 31))

closes_told : (w : Bytes) → closes w ≡ member (code_of w) (41 ∷ 43 ∷ 53 ∷ [])
unfolding closes member
closes_told w = rw (is_close w, is_close_brace w, is_endif w) (as_they_stand (eqb (code_of w) 41) (eqb (code_of w) 43) (eqb (code_of w) 53))

few_token : (d : ℕ) (w : Bytes) (s : Tokens) → d ≤ 64 → few_open d (w ∷ s) ≡ (leb (open_after (code_of w) d) 64 && few_open (open_after (code_of w) d) s)
unfolding few_open open_after
few_token d w s h = rw (opens_told w, closes_told w) (go (member (code_of w) (31 ∷ 40 ∷ 42 ∷ [])) (member (code_of w) (41 ∷ 43 ∷ 53 ∷ [])))
  where
    small : pred d ≤ 64
    small = omega arith

    go : (a b : Bool) → (if a then ltb d 64 && few_open (suc d) s else if b then few_open (pred d) s else few_open d s)
        ≡ (leb (if a then suc d else if b then pred d else d) 64 && few_open (if a then suc d else if b then pred d else d) s)
    go true b = refl
    go false true = rw (le-leb (pred d) 64 small)
    go false false = rw (le-leb d 64 h)

-- ---- the turns of `few_open`

pub record FewLeft (s : Bytes) (d : ℕ) (t : Token) : Type 0 where
  pub ahead : Ahead s t
  pub few : d ≤ 64
  pub rest : few_open d (onward s t) ≡ brackets_within s

pub few_begin : {s : Bytes} {t : Token} → NextIs s 0 t → FewLeft s 0 t
unfolding brackets_within
few_begin n = record { ahead = n.ahead; few = omega arith; rest = ap (few_open 0) (sym n.rest) }

module _ {s : Bytes} {d : ℕ} {t : Token} (left : FewLeft s d t) where
  pub few_end : t.code ≡ 65 → true ≡ brackets_within s
  unfolding few_open
  few_end e = rw (left.ahead.none e) at left.rest

  module _ (n : t.code ≢ 65) where
    here : few_open d (onward s t) ≡ (leb (open_after t.code d) 64 && few_open (open_after t.code d) (tokens (drop t.end s)))
    unfolding head_code
    here =
        let o = (left.ahead.one n).1 in
        let k : t.code ≡ code_of (part s t.start t.end) = left.ahead.code ∙ ap head_code o in
        ap (few_open d) o ∙ few_token d _ _ left.few ∙ rw (← k)

    pub few_less : {u : Token} → NextIs s t.end u → length s - u.start < length s - t.start
    few_less m = let o = (left.ahead.one n).0 in let w = left.ahead.within in let f = m.from in omega arith

    module _ {r : ℕ} (e : r ≡ open_after t.code d) where
      pub too_many : 64 < r → false ≡ brackets_within s
      too_many h = sym (sym left.rest ∙ here ∙ rw (← e, lt-leb r 64 h))

      pub few_next : r ≤ 64 → {u : Token} → NextIs s t.end u → FewLeft s r u
      few_next h {u} m = record {
        ahead = m.ahead;
        few = h;
        rest = ap (few_open r) (sym m.rest) ∙ sym (here ∙ rw (← e, le-leb r 64 h)) ∙ left.rest;
      }

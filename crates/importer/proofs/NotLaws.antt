-- `not`s in a row: each turn of the loop that counts them. Assumes nothing.
use mathlib.Core.Path.{◌≡◌, subst}
use Prim.Native.Nat.{ℕ, suc, ◌+◌, ◌≤◌}
use native.Mathlib.Omega.{arith}
use Rattle.sheet.specs.Text.{Bytes}
use Rattle.sheet.specs.Grammar.Tokens.{Tokens}
use Rattle.tokens.specs.declared.Token.{Token}
use Rattle.tokens.specs.Meanings.{onward, Ahead}
use Rattle.phrases.specs.Meanings.{AfterIs, after_none, after_one}
use Rattle.importer.specs.Leaves.{Negated, no_not, one_not, NegationsAre}
use Rattle.std.specs.Prelude.{Option as Optional, Some, None}

-- n of them stand from t up to u
pub record Noted (s : Bytes) (t u : Token) (n : ℕ) : Type 0 where
  pub ahead : Ahead s u
  pub from : t.start + n ≤ u.start
  pub on : (m : ℕ) (r : Tokens) → Negated m (onward s u) r → Negated (n + m) (onward s t) r

module _ {s : Bytes} {t u : Token} {n : ℕ} (x : Noted s t u n) {r : Optional Token} (h : AfterIs s u 7 r) where
  pub noted_next : {v : Token} → r ≡ Some v → Noted s t v (n + 1)
  noted_next {v} e = go (rw e at h)
    where
      go : AfterIs s u 7 (Some v) → Noted s t v (n + 1)
      go (after_one a f) = record {
        ahead = f.ahead;
        from = let p = x.from in let q = f.from in omega arith;
        on = λ m q y. subst (λ (j : ℕ). Negated j (onward s t) q) (omega arith) (x.on (suc m) q (one_not a y));
      }

  pub noted_end : r ≡ None → NegationsAre s t (record { next = u; count = n })
  noted_end e = go (rw e at h)
    where
      go : AfterIs s u 7 None → NegationsAre s t (record { next = u; count = n })
      go (after_none a) = record {
        ahead = x.ahead;
        from = x.from;
        nots = subst (λ (j : ℕ). Negated j (onward s t) (onward s u)) (omega arith) (x.on 0 (onward s u) no_not);
        stops = a;
      }

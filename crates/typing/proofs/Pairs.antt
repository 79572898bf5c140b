-- Two operands, composed as the definition composes typings. Assumes nothing.
use mathlib.Core.Path.{◌≡◌, ap}
use mathlib.Core.List.{List}
use Prim.Native.Nat.{ℕ}
use native.Mathlib.Omega.{arith}
use Rattle.ocl.specs.Types.{Ty}
use Rattle.ocl.specs.Typing.{Typed, and_then}
use Rattle.types.specs.declared.FlatType.{FlatType}
use Rattle.types.specs.Flat.{ty_of}
use Rattle.judgements.specs.Replies.{Tells}
use Rattle.typing.specs.Tables.{TellsTwo}
use Rattle.judgements.proofs.Composition.{early, after}
use Rattle.std.specs.Prelude.{Result, Ok, Err}
use Rattle.memory.specs.declared.refusals.Refused.{Refused}

pub two_first : {f g : Typed} {B A : List ℕ} {r : Result FlatType Refused} {a : Refused} → Tells f B A r → r ≡ Err a → TellsTwo f g B A (Err a)
two_first {f} {g} {a = a} d q = record {
  ends = λ {x} e k. let h : a ≡ x = cc in rw (← h) (early (λ (t : Ty). and_then g (k t)) d q);
  goes = λ e k y. let z : ◌≡◌ {A = ℕ} 0 1 = cc in absurd (omega arith);
}

pub two_second : {f g : Typed} {B A C : List ℕ} {r s : Result FlatType Refused} {t : FlatType} {a : Refused} → Tells f B A r → r ≡ Ok t → Tells g A C s → s ≡ Err a → TellsTwo f g B C (Err a)
two_second {f} {g} {t = t} {a = a} d q y w = record {
  ends = λ {x} e k. let h : a ≡ x = cc in rw (← h) (after (λ (t : Ty). and_then g (k t)) d q (early (k (ty_of t)) y w));
  goes = λ e k y. let z : ◌≡◌ {A = ℕ} 0 1 = cc in absurd (omega arith);
}

pub two_done : {f g : Typed} {B A C : List ℕ} {r s : Result FlatType Refused} {t u : FlatType} → Tells f B A r → r ≡ Ok t → Tells g A C s → s ≡ Ok u → TellsTwo f g B C (Ok (t, u))
two_done {f} {g} {t = t} {u = u} d q y w = record {
  ends = λ e k. let z : ◌≡◌ {A = ℕ} 0 1 = cc in absurd (omega arith);
  goes = λ {t = v} {u = z} e k {last} {x} h.
      let o : ◌≡◌ {A = FlatType × FlatType} (t, u) (v, z) = cc in
      after (λ (t : Ty). and_then g (k t)) d q (after (k (ty_of t)) y w (rw (← ap (λ (q : FlatType × FlatType). q.0) o, ← ap (λ (q : FlatType × FlatType). q.1) o) at h));
}

-- Answers and marks, composed as the definition composes typings. Assumes nothing.
use mathlib.Core.Path.{◌≡◌, refl, sym, ap, ◌∙◌}
use mathlib.Core.List.{List, [], ◌∷◌, ◌++◌, append_assoc}
use Prim.Native.Nat.{ℕ}
use lib.ListN.{set}
use Rattle.ocl.specs.Types.{Ty}
use Rattle.ocl.specs.Environment.{Env}
use Rattle.ocl.specs.Typing.{Answer, typed, refused, Typed, Typing, pure, then_for, and_then}
use Rattle.ocl.specs.Marks.{Marks}
use Rattle.types.specs.declared.FlatType.{FlatType}
use Rattle.types.specs.Flat.{ty_of}
use Rattle.nodes.specs.Marks.{mark_word}
use Rattle.judgements.specs.Replies.{meaning, write_marks, Tells}
use Rattle.std.specs.Prelude.{Result, Ok, Err}
use Rattle.memory.specs.declared.refusals.Refused.{Refused}

pub write_append : (l : List ℕ) (a c : Marks) → write_marks l (a ++ c) ≡ write_marks (write_marks l a) c
unfolding write_marks
write_append l [] c = refl
write_append l (x ∷ a) c = write_append (set l x.0 (mark_word x.1)) a c

-- what follows a typing that follows another
split_for : (a : Answer) (b c : Marks) (k : Ty → Typed) → then_for a (b ++ c) k ≡ record { answer = (then_for a c k).answer; marks = b ++ (then_for a c k).marks }
unfolding then_for
split_for (typed t) b c k = ap (λ (l : Marks). record { answer = (k t).answer; marks = l }) (append_assoc b c (k t).marks)
split_for (refused n p) b c k = refl

then_for_lem : (a : Answer) (b : Marks) (f g : Ty → Typed) → and_then (then_for a b f) g ≡ then_for a b (λ t. and_then (f t) g)
unfolding and_then then_for
then_for_lem (typed t) b f g = split_for (f t).answer b (f t).marks g
then_for_lem (refused n p) b f g = refl

pub then_then : (x : Typed) (f g : Ty → Typed) → and_then (and_then x f) g ≡ and_then x (λ t. and_then (f t) g)
unfolding and_then
then_then x f g = then_for_lem x.answer x.marks f g

-- a refusal ends what follows it
pub early : {x : Typed} {B A : List ℕ} {r : Result FlatType Refused} {e : Refused} (k : Ty → Typed) → Tells x B A r → r ≡ Err e → Tells (and_then x k) B A (Err e)
unfolding and_then then_for
early k d q = let h = ap meaning (sym q) ∙ d.is in rw (← h) (record { is = refl; wrote = d.wrote })

-- a type goes on to what follows it
pub after : {x : Typed} {B A C : List ℕ} {r s : Result FlatType Refused} {t : FlatType} (k : Ty → Typed) → Tells x B A r → r ≡ Ok t → Tells (k (ty_of t)) A C s → Tells (and_then x k) B C s
unfolding and_then then_for
after {x} {B} {t = t} k d q y =
    let e = ap meaning (sym q) ∙ d.is in
    rw (← e) (record { is = y.is; wrote = y.wrote ∙ ap (λ (l : List ℕ). write_marks l (k (ty_of t)).marks) d.wrote ∙ sym (write_append B x.marks (k (ty_of t)).marks) })

-- an answer that makes no mark
pub done : {a : Answer} {B : List ℕ} {r : Result FlatType Refused} → meaning r ≡ a → Tells (pure a) B B r
unfolding write_marks
done h = record { is = h; wrote = refl }

pub as_form : {f g : Typing} {Γ : Env Ty} {B A : List ℕ} {r : Result FlatType Refused} → f ≡ g → Tells (g Γ) B A r → Tells (f Γ) B A r
as_form p d = rw p d

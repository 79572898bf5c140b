-- What follows an expression plays no part in how it is read. Assumes nothing.
use mathlib.Core.Path.{◌≡◌, refl, sym, ap, ◌∙◌, subst}
use mathlib.Core.List.{[], ◌∷◌, ◌++◌, append_assoc}
use Prim.Native.Nat.{ℕ}
use Rattle.ocl.specs.Types.{Ty}
use Rattle.sheet.specs.Text.{Bytes, bytes}
use Rattle.sheet.specs.Grammar.Tokens.{Tokens}
use Rattle.sheet.specs.Grammar.Trees.{let_in, conditional, iterate, Tree, two, three, Trees}
use Rattle.sheet.specs.Grammar.Sentences.{◌then◌, Level, whole, sum, prefix, postfix, primary, Reads, let_in_lem, next, leaning, compared, negated, word, instances, bracketed, if_then_else, no_members, members, ReadsMembers, last_member, next_member, attribute_step, call_step_lem, cast_step, undefined_step, plain_step, collect_step_lem, argument_step, quantified_step_lem, iterate_step_lem, ReadsType, simple_type, collection_type}
use Rattle.sheet.specs.Grammar.Laws.{RestFree}

-- of anything that reads from the front: tokens of its own, and the same before anything else
record Front (P : Tokens → Tokens → Type 0) (s r : Tokens) : Type 0 where
  own : Tokens
  parts : s ≡ own ++ r
  before : (q : Tokens) → P (own ++ q) q

-- tokens w in front of what reads
put : {P Q : Tokens → Tokens → Type 0} (w : Tokens) {s r : Tokens} → ((s r : Tokens) → P s r → Q (w ++ s) r) → Front P s r → Front Q (w ++ s) r
put {P} {Q} w {s} {r} f x = record {
  own = w ++ x.own;
  parts = ap (λ l. w ++ l) x.parts ∙ sym (append_assoc w x.own r);
  before = λ q. subst (λ l. Q l q) (sym (append_assoc w x.own q)) (f (x.own ++ q) q (x.before q));
}

-- tokens w after it
take_off : {P Q : Tokens → Tokens → Type 0} (w : Tokens) {s r : Tokens} → ((s r : Tokens) → P s (w ++ r) → Q s r) → Front P s (w ++ r) → Front Q s r
take_off {P} {Q} w {s} {r} f x = record {
  own = x.own ++ w;
  parts = x.parts ∙ sym (append_assoc x.own w r);
  before = λ q. f ((x.own ++ w) ++ q) q (subst (λ l. P l (w ++ q)) (sym (append_assoc x.own w q)) (x.before (w ++ q)));
}

-- one, tokens w, and another
both : {P Q R : Tokens → Tokens → Type 0} (w : Tokens) {s m r : Tokens} → ((s m r : Tokens) → P s (w ++ m) → Q m r → R s r) → Front P s (w ++ m) → Front Q m r → Front R s r
both {P} {Q} {R} w {s} {m} {r} f x y = record {
  own = x.own ++ (w ++ y.own);
  parts = x.parts ∙ ap (λ l. x.own ++ (w ++ l)) y.parts ∙ ap (λ l. x.own ++ l) (sym (append_assoc w y.own r)) ∙ sym (append_assoc x.own (w ++ y.own) r);
  before = λ q. f ((x.own ++ (w ++ y.own)) ++ q) (y.own ++ q) q
      (subst (λ l. P l (w ++ (y.own ++ q))) (sym (append_assoc x.own (w ++ y.own) q ∙ ap (λ l. x.own ++ l) (append_assoc w y.own q))) (x.before (w ++ (y.own ++ q))))
      (y.before q);
}

-- tokens alone
tokens_alone : {Q : Tokens → Tokens → Type 0} (w r : Tokens) → ((q : Tokens) → Q (w ++ q) q) → Front Q (w ++ r) r
tokens_alone w r f = record { own = w; parts = refl; before = f }

-- the same tokens
same : {P Q : Tokens → Tokens → Type 0} {s r : Tokens} → ((s r : Tokens) → P s r → Q s r) → Front P s r → Front Q s r
same f x = record { own = x.own; parts = x.parts; before = λ q. f (x.own ++ q) q (x.before q) }

-- what is left to be followed by tokens w
ending : (P : Tokens → Tokens → Type 0) (w : Tokens) {s r : Tokens} → Front P s (w ++ r) → Front (λ a b. P a (w ++ b)) s r
ending P w x = take_off {P = P} {Q = λ a b. P a (w ++ b)} w (λ s r h. h) x

type_front : {s : Tokens} {t : Ty} {r : Tokens} → ReadsType s t r → Front (λ a b. ReadsType a t b) s r
type_front (simple_type {w} {r} e) = tokens_alone (w ∷ []) r (λ q. simple_type e)
type_front (collection_type {w} {l} {s} {t} {r} e h) =
    put {P = λ a b. ReadsType a t (")" then b)} (w ∷ (bytes "(" ∷ [])) (λ s r k. collection_type e k) (ending (λ a b. ReadsType a t b) (bytes ")" ∷ []) (type_front h))

-- an expression, and members
abbrev Expression : Level → Tree → Tokens → Tokens → Type 0
Expression l t a b = Reads l a t b

abbrev Members : ℕ → Trees → Tokens → Tokens → Type 0
Members n es a b = ReadsMembers n a es b

closed : {l : Level} {t : Tree} (w : Bytes) {s r : Tokens} → Front (Expression l t) s (w ∷ r) → Front (λ a b. Reads l a t (w ∷ b)) s r
closed {l} {t} w x = ending (Expression l t) (w ∷ []) x

front : {l : Level} {s : Tokens} {t : Tree} {r : Tokens} → Reads l s t r → Front (Expression l t) s r
front d = elim d as (λ l s t r x. Front (Expression l t) s r) (λ n s es r x. Front (Members n es) s r) [
  | let_in_lem {v} {i} {e} {b} f (h → x) (k → y) ↦
      put {P = λ a c. Reads whole ("let" then v ∷ ("=" then a)) (two (let_in i) e b) c} (bytes "let" ∷ v ∷ bytes "=" ∷ []) (λ s r z. z)
      (both {P = Expression whole e} {Q = Expression whole b} (bytes "in" ∷ []) (λ s m r p q. let_in_lem f p q) x y)
  | next {m} {t} o (h → x) ↦ same {P = Expression m t} (λ s r z. next o z) x
  | leaning {l} {m} {w} {a} {b} g (h → x) (k → y) ↦ both {P = Expression l a} {Q = Expression m b} (w ∷ []) (λ s m r p q. leaning g p q) x y
  | compared {w} {a} {b} e (h → x) (k → y) ↦ both {P = Expression sum a} {Q = Expression sum b} (w ∷ []) (λ s m r p q. compared e p q) x y
  | negated {a} (h → x) ↦ put {P = Expression prefix a} (bytes "not" ∷ []) (λ s r z. negated z) x
  | attribute_step {a} {w} e (h → x) ↦ take_off {P = Expression postfix a} (bytes "." ∷ w ∷ []) (λ s r z. attribute_step e z) x
  | call_step_lem {a} {w} e (h → x) ↦ take_off {P = Expression postfix a} (bytes "." ∷ w ∷ bytes "(" ∷ bytes ")" ∷ []) (λ s r z. call_step_lem e z) x
  | cast_step {a} {w} e (h → x) ↦ take_off {P = Expression postfix a} (bytes "." ∷ bytes "oclAsType" ∷ bytes "(" ∷ w ∷ bytes ")" ∷ []) (λ s r z. cast_step e z) x
  | undefined_step {a} (h → x) ↦ take_off {P = Expression postfix a} (bytes "." ∷ bytes "isUndef" ∷ bytes "(" ∷ bytes ")" ∷ []) (λ s r z. undefined_step z) x
  | plain_step {a} {w} e (h → x) ↦ take_off {P = Expression postfix a} (bytes "->" ∷ w ∷ bytes "(" ∷ bytes ")" ∷ []) (λ s r z. plain_step e z) x
  | collect_step_lem {a} {w} e (h → x) ↦ take_off {P = Expression postfix a} (bytes "->" ∷ bytes "collect" ∷ bytes "(" ∷ w ∷ bytes ")" ∷ []) (λ s r z. collect_step_lem e z) x
  | argument_step {a} {e} {w} f (h → x) (k → y) ↦
      both {P = Expression postfix a} {Q = λ c d. Reads whole c e (")" then d)} (bytes "->" ∷ w ∷ bytes "(" ∷ []) (λ s m r p q. argument_step f p q) x (closed (bytes ")") y)
  | quantified_step_lem {a} {b} {w} {v} f g (h → x) (k → y) ↦
      both {P = Expression postfix a} {Q = λ c d. Reads whole c b (")" then d)} (bytes "->" ∷ w ∷ bytes "(" ∷ v ∷ bytes "|" ∷ []) (λ s m r p q. quantified_step_lem f g p q) x (closed (bytes ")") y)
  | iterate_step_lem {a} {e} {b} {v} {u} {i} {j} {t} f g (h → x) z (k → y) (m → n) ↦
      both {P = Expression postfix a} {Q = λ c d. (s : Tokens) → Reads postfix s a ("->" then "iter" then "(" then v ∷ (";" then u ∷ (":" then c))) → Reads postfix s (three (iterate i j t) a e b) d}
      (bytes "->" ∷ bytes "iter" ∷ bytes "(" ∷ v ∷ bytes ";" ∷ u ∷ bytes ":" ∷ []) (λ s m r p q. q s p) x
      (both {P = λ c d. ReadsType c t d} {Q = λ c d. (s s₁ : Tokens) → Reads postfix s a ("->" then "iter" then "(" then v ∷ (";" then u ∷ (":" then s₁))) → ReadsType s₁ t ("=" then c) → Reads postfix s (three (iterate i j t) a e b) d}
      (bytes "=" ∷ []) (λ s m r p q s₀ w. q s₀ s w p) (type_front z)
      (both {P = Expression whole e} {Q = λ c d. Reads whole c b (")" then d)} (bytes "|" ∷ []) (λ s m r p q s₀ s₁ w c. iterate_step_lem f g w c p q) y (closed (bytes ")") n)))
  | word {w} {r} e ↦ tokens_alone (w ∷ []) r (λ q. word e)
  | instances {w} {r} e ↦ tokens_alone (w ∷ bytes "." ∷ bytes "allInstances" ∷ bytes "(" ∷ bytes ")" ∷ []) r (λ q. instances e)
  | bracketed {t} (h → x) ↦ put {P = λ a b. Reads whole a t (")" then b)} (bytes "(" ∷ []) (λ s r z. bracketed z) (closed (bytes ")") x)
  | if_then_else {c} {a} {b} (h → x) (k → y) (m → z) ↦
      put {P = λ d e. Reads primary ("if" then d) (three conditional c a b) e} (bytes "if" ∷ []) (λ s r w. w)
      (both {P = Expression whole c} {Q = λ d e. (s : Tokens) → Reads whole s c ("then" then d) → Reads primary ("if" then s) (three conditional c a b) e} (bytes "then" ∷ []) (λ s m r p q. q s p) x
      (both {P = Expression whole a} {Q = λ d e. Reads whole d b ("endif" then e)} (bytes "else" ∷ []) (λ s m r p q s₀ w. if_then_else w p q) y (closed (bytes "endif") z)))
  | no_members {w} {r} e ↦ tokens_alone (w ∷ bytes "{" ∷ bytes "}" ∷ []) r (λ q. no_members e)
  | members {w} {es} e (h → x) ↦ put {P = Members 4 es} (w ∷ bytes "{" ∷ []) (λ s r z. members e z) x
  | last_member {e} (h → x) ↦ take_off {P = Expression whole e} (bytes "}" ∷ []) (λ s r z. last_member z) x
  | next_member {n} {e} {es} (h → x) (k → y) ↦ both {P = Expression whole e} {Q = Members n es} (bytes "," ∷ []) (λ s m r p q. next_member p q) x y
]

pub rest_free : RestFree
rest_free l s t r h = let x = front h in record { own = x.own; parts = x.parts; before = x.before }

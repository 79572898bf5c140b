-- What the parser finds is read so by the grammar. Assumes nothing.
use mathlib.Core.Path.{◌≡◌}
use mathlib.Core.Option.{Option, none, some}
use Prim.Native.Nat.{ℕ, zero, suc}
use Rattle.laws.proofs.Tests.{All?, all_none, all_some, all_imp, all_on, at_some}
use Rattle.sheet.specs.Text.{Bytes}
use Rattle.sheet.specs.Grammar.Tokens.{Tokens}
use Rattle.sheet.specs.Grammar.Trees.{Two, Tree, one, two, three}
use Rattle.sheet.specs.Grammar.Words.{named}
use Rattle.sheet.specs.Grammar.Sentences.{◌then◌, Level, whole, disjunction, conjunction, comparison, sum, product, prefix, postfix, primary, whole_over, disjunction_over, conjunction_over, comparison_over, sum_over, product_over, prefix_over, postfix_over, Sign, or_sign, and_sign, sum_sign, product_sign, Reads, let_in_lem, next, leaning, compared, negated, ReadsMembers, last_member, next_member}
use Rattle.sheet.specs.Grammar.Parser.{after, Start, done, bracket, condition, collection, start_of, Next, ends, broken, plain, argument, iteration, step_of, signs, sign_of, tighter, Found, parse, parse_whole, chain, compare, parse_prefix, steps, parse_primary, parse_members, parse_more}
use Rattle.sheet.proofs.Grammar.Single.{all_map, after_all, taking_all, Took, binding_all}
use Rattle.sheet.proofs.Grammar.Starts.{Begins, begins, Means, means}

-- a finding that the grammar has
abbrev pub Right : Level → Tokens → Found → Type 0
Right l s o = All? (λ x. Reads l s x.0 x.1) o

-- the signs of a level that lean left
pub record Leaning (l : Level) : Type 0 where
  pub signed : {w : Bytes} {f : Two} → named (signs l) w ≡ some f → Sign l (tighter l) w f

pub or_leans : Leaning disjunction
unfolding signs tighter
or_leans = record { signed = or_sign }

pub and_leans : Leaning conjunction
unfolding signs tighter
and_leans = record { signed = and_sign }

pub sum_leans : Leaning sum
unfolding signs tighter
sum_leans = record { signed = sum_sign }

pub product_leans : Leaning product
unfolding signs tighter
product_leans = record { signed = product_sign }

sign_all : (l : Level) (s : Tokens) → All? (Took (named (signs l)) s) (sign_of l s)
unfolding sign_of
sign_all l s = taking_all (named (signs l)) s

mutual
  unfolding parse signs Means Begins

  pub sound : (f : ℕ) (l : Level) (s : Tokens) → Right l s (parse f l s)
  sound zero l s = all_none
  sound (suc f) whole s = whole_sound f s (after "let" s) (after_all "let" s)
  sound (suc f) disjunction s = all_on (sound f conjunction s) (λ x h. chain_sound f disjunction s x.0 x.1 (sign_of disjunction x.1) or_leans (next disjunction_over h) (sign_all disjunction x.1))
  sound (suc f) conjunction s = all_on (sound f comparison s) (λ x h. chain_sound f conjunction s x.0 x.1 (sign_of conjunction x.1) and_leans (next conjunction_over h) (sign_all conjunction x.1))
  sound (suc f) comparison s = all_on (sound f sum s) (λ x h. compare_sound f s x.0 x.1 (sign_of comparison x.1) h (sign_all comparison x.1))
  sound (suc f) sum s = all_on (sound f product s) (λ x h. chain_sound f sum s x.0 x.1 (sign_of sum x.1) sum_leans (next sum_over h) (sign_all sum x.1))
  sound (suc f) product s = all_on (sound f prefix s) (λ x h. chain_sound f product s x.0 x.1 (sign_of product x.1) product_leans (next product_over h) (sign_all product x.1))
  sound (suc f) prefix s = prefix_sound f s (after "not" s) (after_all "not" s)
  sound (suc f) postfix s = all_on (sound f primary s) (λ x h. steps_sound f s x.0 x.1 (step_of x.1) (next postfix_over h) (means x.1))
  sound (suc f) primary s = primary_sound f s (start_of s) (begins s)

  whole_sound : (f : ℕ) (s : Tokens) (o : Option Tokens) → All? (λ r. s ≡ ("let" then r)) o → Right whole s (parse_whole f s o)
  whole_sound zero s o h = all_none
  whole_sound (suc f) s none h = all_imp (λ x. next whole_over) (sound f disjunction s)
  whole_sound (suc f) s (some s') h =
      rw (at_some h) (all_on (binding_all s') (λ v p. all_on (sound f whole v.1) (λ e q. all_on (after_all "in" e.1) (λ s'' i.
      all_map _ (sound f whole s'') (λ b u. rw p.here (let_in_lem p.means (rw i at q) u))))))

  chain_sound : (f : ℕ) (l : Level) (s : Tokens) (a : Tree) (r : Tokens) (o : Option (Two × Tokens))
      → Leaning l → Reads l s a r → All? (Took (named (signs l)) r) o → Right l s (chain f l a r o)
  chain_sound zero l s a r o k h t = all_none
  chain_sound (suc f) l s a r none k h t = all_some h
  chain_sound (suc f) l s a r (some x) k h t =
      all_on (sound f (tighter l) x.1) (λ b q. chain_sound f l s (two x.0 a b.0) b.1 (sign_of l b.1) k
      (leaning (k.signed (at_some t).means) (rw (at_some t).here at h) q) (sign_all l b.1))

  compare_sound : (f : ℕ) (s : Tokens) (a : Tree) (r : Tokens) (o : Option (Two × Tokens))
      → Reads sum s a r → All? (Took (named (signs comparison)) r) o → Right comparison s (compare f a r o)
  compare_sound zero s a r o h t = all_none
  compare_sound (suc f) s a r none h t = all_some (next comparison_over h)
  compare_sound (suc f) s a r (some x) h t =
      all_map _ (sound f sum x.1) (λ b q. compared (at_some t).means (rw (at_some t).here at h) q)

  prefix_sound : (f : ℕ) (s : Tokens) (o : Option Tokens) → All? (λ r. s ≡ ("not" then r)) o → Right prefix s (parse_prefix f s o)
  prefix_sound zero s o h = all_none
  prefix_sound (suc f) s none h = all_imp (λ x. next prefix_over) (sound f postfix s)
  prefix_sound (suc f) s (some s') h = rw (at_some h) (all_map _ (sound f prefix s') (λ x. negated))

  steps_sound : (f : ℕ) (s : Tokens) (a : Tree) (r : Tokens) (n : Next) → Reads postfix s a r → Means r n → Right postfix s (steps f a r n)
  steps_sound zero s a r n h m = all_none
  steps_sound (suc f) s a r ends h m = all_some h
  steps_sound (suc f) s a r broken h m = all_none
  steps_sound (suc f) s a r (plain g q) h m = steps_sound f s (one g a) q (step_of q) (m s a h) (means q)
  steps_sound (suc f) s a r (argument g s') h m =
      all_on (sound f whole s') (λ e p. all_on (after_all ")" e.1) (λ q i.
      steps_sound f s (two g a e.0) q (step_of q) (m s a e.0 q h (rw i at p)) (means q)))
  steps_sound (suc f) s a r (iteration g s') h m =
      all_on (sound f whole s') (λ e p. all_on (after_all "|" e.1) (λ s'' i.
      all_on (sound f whole s'') (λ b u. all_on (after_all ")" b.1) (λ q j.
      steps_sound f s (three g a e.0 b.0) q (step_of q) (m s a e.0 b.0 s'' q h (rw i at p) (rw j at u)) (means q)))))

  primary_sound : (f : ℕ) (s : Tokens) (o : Option Start) → All? (Begins s) o → Right primary s (parse_primary f o)
  primary_sound zero s o h = all_none
  primary_sound (suc f) s none h = all_none
  primary_sound (suc f) s (some (done t r)) h = all_some (at_some h)
  primary_sound (suc f) s (some (bracket s')) h =
      all_on (sound f whole s') (λ x p. all_map _ (after_all ")" x.1) (λ r i. at_some h x.0 r (rw i at p)))
  primary_sound (suc f) s (some (condition s')) h =
      all_on (sound f whole s') (λ c p. all_on (after_all "then" c.1) (λ s'' i.
      all_on (sound f whole s'') (λ a q. all_on (after_all "else" a.1) (λ s''' j.
      all_on (sound f whole s''') (λ b u. all_map _ (after_all "endif" b.1) (λ r k.
      at_some h c.0 a.0 b.0 s'' s''' r (rw i at p) (rw j at q) (rw k at u)))))))
  primary_sound (suc f) s (some (collection k s')) h =
      all_map _ (members_sound f 4 s') (λ x m. at_some h x.0 x.1 m)

  members_sound : (f : ℕ) (n : ℕ) (s : Tokens) → All? (λ x. ReadsMembers n s x.0 x.1) (parse_members f n s)
  members_sound zero n s = all_none
  members_sound (suc f) zero s = all_none
  members_sound (suc f) (suc n) s = all_on (sound f whole s) (λ e p. more_sound f n s e.0 e.1 (after "}" e.1) p (after_all "}" e.1))

  more_sound : (f : ℕ) (n : ℕ) (s : Tokens) (e : Tree) (r : Tokens) (o : Option Tokens) → Reads whole s e r → All? (λ q. r ≡ ("}" then q)) o
      → All? (λ x. ReadsMembers (suc n) s x.0 x.1) (parse_more f n e r o)
  more_sound zero n s e r o p h = all_none
  more_sound (suc f) n s e r (some q) p h = all_some (last_member (rw (at_some h) at p))
  more_sound (suc f) n s e r none p h =
      all_on (after_all "," r) (λ s' i. all_map _ (members_sound f n s') (λ x m. next_member (rw i at p) m))

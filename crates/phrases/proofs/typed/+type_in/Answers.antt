-- `type_in` meets its contract. What is left of the text falls with each bracket. Assumes nothing.
use mathlib.Core.Path.{◌≡◌, ap, sym, ◌∙◌}
use native.Mathlib.Omega.{arith}
use mathlib.Core.Bool.{not}
use Rattle.std.specs.Prelude.{None}
use Rattle.std.proofs.Common.{rules}
use Rattle.phrases.proofs.WordLaws.{came_ahead}
use Rattle.phrases.proofs.TypeLaws.{letter_alone, letter_there, member_less, no_member, typed_ahead, member_unclosed, member_closed}
use Rattle.phrases.proofs.typed.+type_in.Goals as goal

pub single_type-requires : goal.single_type-requires
single_type-requires t c = (c.requires, sym c.is_letter.ensures ∙ c.if-not-is_letter.true)

pub returns-then-not-is_letter : goal.returns-then-not-is_letter
returns-then-not-is_letter t c = c.single_type.ensures

pub after-requires : goal.after-requires
after-requires t c = (c.next_token.ensures.ahead, λ e. omega arith)

pub returns-in_err-u : goal.returns-in_err-u
returns-in_err-u t c = let e : c.from_residual.result ≡ None = search rules in rw e (letter_alone c.requires c.is_letter.ensures (ap not c.if-not-is_letter.false) c.next_token.ensures c.after.ensures c.in_err-u.was)

pub type_in-requires : goal.type_in-requires
type_in-requires t c = (omega (arith, member_less c.requires c.is_letter.ensures (ap not c.if-not-is_letter.false) c.next_token.ensures c.after.ensures c.in_ok-u.was, c.decreases), came_ahead c.after.ensures c.in_ok-u.was)

pub returns-in_err-of : goal.returns-in_err-of
returns-in_err-of t c = let e : c.from_residual-in_err-of.result ≡ None = search rules in rw e (no_member c.requires c.is_letter.ensures (ap not c.if-not-is_letter.false) c.next_token.ensures c.after.ensures c.in_ok-u.was c.type_in.ensures c.in_err-of.was)

pub after-requires-2 : goal.after-requires-2
after-requires-2 t c = (typed_ahead c.type_in.ensures c.in_ok-of.was, λ e. omega arith)

pub returns-in_err-last : goal.returns-in_err-last
returns-in_err-last t c = let e : c.from_residual-in_err-last.result ≡ None = search rules in rw e (member_unclosed c.requires c.is_letter.ensures (ap not c.if-not-is_letter.false) c.next_token.ensures c.after.ensures c.in_ok-u.was c.type_in.ensures c.in_ok-of.was c.after-2.ensures c.in_err-last.was)

pub bounds-s-a : goal.bounds-s-a
bounds-s-a t c = letter_there c.requires c.is_letter.ensures (ap not c.if-not-is_letter.false) c.next_token.ensures c.after.ensures

pub returns : goal.returns
returns t c = member_closed c.requires c.is_letter.ensures (ap not c.if-not-is_letter.false) c.next_token.ensures c.after.ensures c.in_ok-u.was c.type_in.ensures c.in_ok-of.was c.after-2.ensures c.in_ok-last.was c.lettered.ensures

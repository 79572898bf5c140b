-- `read_form` meets its contract.
use native.Mathlib.Omega.{arith}
use Rattle.shapes.proofs.LiteralLaws.{gap_code, no_code}
use Rattle.shapes.proofs.BuiltLaws.{of_none, of_one, of_two, of_quantifier, of_three, of_access, of_last, one_of_none, one_of_one}
use borrow.Author.Rules.{rules}
use Rattle.shapes.proofs.forms.read_form.Goals as goal

pub numbers_form-requires : goal.numbers_form-requires
numbers_form-requires c = search (one_of_none, rules)

pub numbers_form-requires-in-30 : goal.numbers_form-requires-in-30
numbers_form-requires-in-30 c = search (one_of_one, rules)

pub numbers_form-requires-in-0-to-2 : goal.numbers_form-requires-in-0-to-2
numbers_form-requires-in-0-to-2 c = search (of_none, rules)

pub numbers_form-requires-in-5-to-11 : goal.numbers_form-requires-in-5-to-11
numbers_form-requires-in-5-to-11 c = (c.requires.0, c.requires.1, of_one _ (omega arith) (omega arith), omega arith)

pub numbers_form-requires-in-12-to-24 : goal.numbers_form-requires-in-12-to-24
numbers_form-requires-in-12-to-24 c = search (of_two, rules)

pub numbers_form-requires-in-25-to-26 : goal.numbers_form-requires-in-25-to-26
numbers_form-requires-in-25-to-26 c = search (of_quantifier, rules)

pub numbers_form-requires-in-31-to-32 : goal.numbers_form-requires-in-31-to-32
numbers_form-requires-in-31-to-32 c = (c.requires.0, c.requires.1, of_three _ (omega arith) (omega arith), omega arith)

pub numbers_form-requires-in-33-to-34 : goal.numbers_form-requires-in-33-to-34
numbers_form-requires-in-33-to-34 c = search (of_access, rules)

pub numbers_form-requires-in-36-to-37 : goal.numbers_form-requires-in-36-to-37
numbers_form-requires-in-36-to-37 c = (c.requires.0, c.requires.1, of_last _ (omega arith) (omega arith), omega arith)

pub returns-in-3 : goal.returns-in-3
returns-in-3 c = rw c.in-3.is c.integer_form.ensures

pub returns-in-4 : goal.returns-in-4
returns-in-4 c = rw c.in-4.is c.numbers_form.ensures

pub returns-in-27 : goal.returns-in-27
returns-in-27 c = rw c.in-27.is c.collection_form.ensures

pub returns-in-30 : goal.returns-in-30
returns-in-30 c = rw c.in-30.is c.numbers_form-in-30.ensures

pub returns-in-35 : goal.returns-in-35
returns-in-35 c = rw c.in-35.is c.iterate_form.ensures

pub returns-in-38 : goal.returns-in-38
returns-in-38 c = rw c.in-38.is c.real_form.ensures

pub returns-in-28-to-29 : goal.returns-in-28-to-29
returns-in-28-to-29 c = rw (gap_code c.args.code _ (omega arith) (omega arith)) (c.misspelled.ensures _)

pub returns-in_default : goal.returns-in_default
returns-in_default c = rw (no_code c.args.code _ (omega arith)) (c.misspelled-in_default.ensures _)

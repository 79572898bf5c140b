-- `built` meets its contract.
use Rattle.shapes.specs.Forms.{constant, itself, one, two, undef_test, conditional, quotient}
use Rattle.shapes.proofs.BuiltLaws.{over_none, gap_none, integer_none, iterate_none, not_built}
use native.Mathlib.Omega.{arith}
use Rattle.shapes.proofs.built.built.Goals as goal

pub plain-requires : goal.plain-requires
plain-requires c = search itself

pub plain-requires-in-30 : goal.plain-requires-in-30
plain-requires-in-30 c = search undef_test

pub plain-requires-in-31 : goal.plain-requires-in-31
plain-requires-in-31 c = search conditional

pub plain-requires-in-37 : goal.plain-requires-in-37
plain-requires-in-37 c = search quotient

pub plain-requires-in-0-to-2 : goal.plain-requires-in-0-to-2
plain-requires-in-0-to-2 c = search constant

pub plain-requires-in-7-to-11 : goal.plain-requires-in-7-to-11
plain-requires-in-7-to-11 c = (one {k = c.args.code} (omega arith) (omega arith), c.requires)

pub plain-requires-in-13-to-24 : goal.plain-requires-in-13-to-24
plain-requires-in-13-to-24 c = (two {k = c.args.code} (omega arith) (omega arith), c.requires)

pub attribute-requires : goal.attribute-requires
attribute-requires c = (record { low = omega arith; high = omega arith }, c.requires)

pub returns-in-3 : goal.returns-in-3
returns-in-3 c = rw c.in-3.is (not_built integer_none c.nothing.ensures)

pub returns-in-4 : goal.returns-in-4
returns-in-4 c = rw c.in-4.is c.plain.ensures

pub returns-in-5 : goal.returns-in-5
returns-in-5 c = rw c.in-5.is c.variable.ensures

pub returns-in-6 : goal.returns-in-6
returns-in-6 c = rw c.in-6.is c.instances.ensures

pub returns-in-12 : goal.returns-in-12
returns-in-12 c = rw c.in-12.is c.cast.ensures

pub returns-in-30 : goal.returns-in-30
returns-in-30 c = rw c.in-30.is c.plain-in-30.ensures

pub returns-in-31 : goal.returns-in-31
returns-in-31 c = rw c.in-31.is c.plain-in-31.ensures

pub returns-in-32 : goal.returns-in-32
returns-in-32 c = rw c.in-32.is c.let_in.ensures

pub returns-in-35 : goal.returns-in-35
returns-in-35 c = rw c.in-35.is (not_built iterate_none c.nothing-in-35.ensures)

pub returns-in-36 : goal.returns-in-36
returns-in-36 c = rw c.in-36.is c.call.ensures

pub returns-in-37 : goal.returns-in-37
returns-in-37 c = rw c.in-37.is c.plain-in-37.ensures

pub returns-in-27-to-29 : goal.returns-in-27-to-29
returns-in-27-to-29 c = search (not_built, gap_none)

pub returns-in_default : goal.returns-in_default
returns-in_default c = not_built (over_none _ (omega arith)) c.nothing-in_default.ensures

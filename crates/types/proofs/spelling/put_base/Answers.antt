-- `put_base` meets its contract.
use native.Mathlib.Omega.{arith}
use Rattle.sheet.specs.Text.{bytes}
use Rattle.sheet.specs.Spelling.{spell_type, spell_simple}
use Rattle.types.proofs.WrittenLaws.{room_number, puts_word, puts_class}
use Rattle.types.proofs.spelling.put_base.Goals as goal

pub put_number-requires : goal.put_number-requires
put_number-requires c = search room_number

pub returns-in-Void : goal.returns-in-Void
unfolding spell_type bytes
returns-in-Void c =
    let both = puts_word c.in-Void.is c.put_bytes.ensures (omega arith) in
    record { puts = both.0; upper_bound = both.1 }

pub returns-in-Bool : goal.returns-in-Bool
unfolding spell_type spell_simple bytes
returns-in-Bool c =
    let both = puts_word c.in-Bool.is c.put_bytes-in-Bool.ensures (omega arith) in
    record { puts = both.0; upper_bound = both.1 }

pub returns-in-Int : goal.returns-in-Int
unfolding spell_type spell_simple bytes
returns-in-Int c =
    let both = puts_word c.in-Int.is c.put_bytes-in-Int.ensures (omega arith) in
    record { puts = both.0; upper_bound = both.1 }

pub returns-in-Any : goal.returns-in-Any
unfolding spell_type spell_simple bytes
returns-in-Any c =
    let both = puts_word c.in-Any.is c.put_bytes-in-Any.ensures (omega arith) in
    record { puts = both.0; upper_bound = both.1 }

pub returns-in-Real : goal.returns-in-Real
unfolding spell_type spell_simple bytes
returns-in-Real c =
    let both = puts_word c.in-Real.is c.put_bytes-in-Real.ensures (omega arith) in
    record { puts = both.0; upper_bound = both.1 }

pub returns-in-Class : goal.returns-in-Class
returns-in-Class c =
    let both = puts_class (omega arith) _ c.args.out.now c.requires c.put_byte-e.ensures c.in-Class.is c.put_number.ensures in
    record { puts = both.0; upper_bound = both.1 }

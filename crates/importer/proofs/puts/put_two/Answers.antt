-- `put_two` meets its contract.
use native.Mathlib.Omega.{arith}
use Rattle.importer.proofs.PutLaws.{put_two_is, put_quantified_is, put_let_is}
use Rattle.importer.proofs.puts.put_two.Goals as goal

pub returns-in-32 : goal.returns-in-32
returns-in-32 c = search put_let_is

pub returns-in-25-to-26 : goal.returns-in-25-to-26
returns-in-25-to-26 c = search put_quantified_is

pub returns-in_default : goal.returns-in_default
returns-in_default c = put_two_is c.requires.1 c.requires.2 c.emit-in_default.ensures (omega arith) (omega arith) (omega arith) c.built-in_default.ensures

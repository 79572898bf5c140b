-- `emit` meets its contract.
use native.Mathlib.Omega.{arith}
use mathlib.Core.Path.{refl}
use Rattle.laws.specs.Lists.{all_of}
use Rattle.emission.proofs.NodeLaws.{not_emitted, is_emitted}
use Rattle.emission.proofs.emit.Goals as goal

pub put_words-requires : goal.put_words-requires
unfolding all_of
put_words-requires c = (c.requires.0, c.if-n-lt-NODES.true, omega arith, refl)

pub returns-then-n-lt-NODES : goal.returns-then-n-lt-NODES
returns-then-n-lt-NODES c = is_emitted _ _ _ _ c.if-n-lt-NODES.true c.requires.1 c.requires.2 c.requires.3 c.packed-rest.ensures c.put_words.ensures

pub returns-else-n-lt-NODES : goal.returns-else-n-lt-NODES
returns-else-n-lt-NODES c = not_emitted _ c.if-n-lt-NODES.false

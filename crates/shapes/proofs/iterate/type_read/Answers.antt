-- `type_read` meets its contract.
use borrow.Author.Rules.{rules}
use mathlib.Core.Path.{◌≡◌}
use Rattle.std.specs.Prelude.{Err}
use Rattle.memory.specs.declared.refusals.Misread.TheVariants.{Malformed, OverLimit}
use Rattle.shapes.proofs.IterateLaws.{type_bad, type_big, type_is, type_small}
use Rattle.shapes.proofs.iterate.type_read.Goals as goal

pub classes_in-requires : goal.classes_in-requires
classes_in-requires c = search type_small

pub returns-in-Err-Malformed : goal.returns-in-Err-Malformed
returns-in-Err-Malformed c = let e : c.args.g ≡ Err Malformed = search rules in type_bad e

pub returns-in-Err-OverLimit : goal.returns-in-Err-OverLimit
returns-in-Err-OverLimit c = let e : c.args.g ≡ Err OverLimit = search rules in type_big e

pub returns-in-Ok : goal.returns-in-Ok
returns-in-Ok c = search type_is

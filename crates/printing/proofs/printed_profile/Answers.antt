-- `printed_profile` meets its contract: what the profile's call answers is printed. Assumes nothing.
use mathlib.Core.Path.{refl}
use native.Mathlib.Omega.{arith}
use Rattle.printing.proofs.Verdicts.{profile_printed}
use Rattle.printing.proofs.printed_profile.Goals as goal

pub returns : goal.returns
returns c = profile_printed c.args.text.now _ _ _ _ refl refl refl (omega arith) c.put_answer.ensures c.ocl_read_free_numbering-answer.ensures

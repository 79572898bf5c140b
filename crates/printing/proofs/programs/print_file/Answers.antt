-- `print_file` meets its contract. Assumes nothing.
use mathlib.Core.Path.{refl, subst}
use mathlib.Core.List.{[], ◌∷◌, append_assoc}
use lib.ListN.{take}
use Rattle.std.specs.Io.KnownBytes.{Appends}
use Rattle.std.proofs.lemmas.Result.{on_ok_weaker}
use Rattle.std.proofs.KnownBytes.{Appends-trans}
use Rattle.printing.proofs.programs.print_file.Goals as goal

pub returns : goal.returns
returns g c =
    let a = c.in_ok-end.ensures in
    let left = take c.in_ok-end.end c.answer_input.new.out in
    on_ok_weaker c.write_all.result (λ w. (
      a.0,
      left,
      record { n = c.in_ok-end.end; out = c.answer_input.new.out; answers = a.3; is = refl },
      subst (Appends _ _) (append_assoc c.args.name.now (10 ∷ []) left) (Appends-trans _ _ _ _ _ c.in_ok-write_line.ensures w),
    )) c.write_all.ensures.bytes

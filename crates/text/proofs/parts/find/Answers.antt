-- `find` meets its contract. Assumes nothing.
use Rattle.std.proofs.Common.{◌≡◌, ◌≤◌, ◌<◌, ℕ}
use Rattle.std.proofs.lemmas.Grind.{common_steps}
use native.Mathlib.Omega.{arith}
use lib.ListN.{length, get_or}
use Rattle.text.proofs.PartLaws.{first_at}
use Rattle.text.proofs.parts.find.Goals as goal

pub returns : goal.returns
returns c =
    let within : c.unwrap_or.result ≤ length c.args.s.now = grind (arith, common_steps) in
    let before : (k : ℕ) → k < c.unwrap_or.result → get_or c.args.s.now k 0 ≡ c.args.sep → ⊥ = grind (arith, common_steps) in
    let here : c.unwrap_or.result < length c.args.s.now → get_or c.args.s.now c.unwrap_or.result 0 ≡ c.args.sep = grind (arith, common_steps) in
    record { is = first_at _ _ _ within before here; within = within }

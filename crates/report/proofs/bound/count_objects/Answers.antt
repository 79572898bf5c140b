-- `count_objects` meets its contract. Assumes nothing.
use mathlib.Core.Path.{◌≡◌, ap, ◌∙◌}
use native.Mathlib.Omega.{arith}
use borrow.Author.Rules.{rules}
use Rattle.std.proofs.lemmas.Iterator.{YieldsList-from_range}
use Rattle.std.proofs.lemmas.Iterator.Consumers.{YieldsList-from_filter, count_from_yields_List}
use Rattle.ocl.specs.Types.{class}
use Rattle.ocl.specs.Model.{is_a}
use Rattle.report.proofs.BoundLaws.{is_a_told, objects_counted}
use Rattle.report.proofs.bound.count_objects.Goals as goal

pub returns : goal.returns
returns c =
    let n = c.args.st.objects in
    let end : c.filter.result.iter.end ≡ n = ap (λ r. r.end) c.filter.ensures.source in
    record {
      is = λ m h.
          count_from_yields_List c.filter.result _ c.count.ensures.ran
          (YieldsList-from_filter _ (λ o. is_a m o (class c.args.c)) (YieldsList-from_range 0 n n c.filter.ensures.source (omega arith)) c.filter.ensures.closure (λ x r q k. search (rules, is_a_told c.args.c h)))
          ∙ objects_counted m c.args.c n;
      few = omega (arith, end, c.count.ensures.bound, c.requires.fine.objects);
    }

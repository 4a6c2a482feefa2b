-- `net_strands::Rebuild::extend_all` meets its contract: `Building` is the loop's invariant.
use mathlib.Core.Path.{refl, ◌∙◌}
use Rattle.net_strands.proofs.Extending.{gathering_on}
use Rattle.net_strands.proofs.Rebuild.extend_all.Goals as goal

pub returns-in_err-extend-clause-noted : goal.returns-in_err-extend-clause-noted
returns-in_err-extend-clause-noted c = c.extend.ensures.touched _ c.loop-x.invariant.noted.touched

pub loop-x-preserved : goal.loop-x-preserved
loop-x-preserved c =
    let v = c.loop-x.invariant in
    let x = c.in_ok-extend.ensures in
    record {
      same = c.extend.auto.cells ∙ v.same;
      gathered = gathering_on v.gathered c.loop-x-test.true _ _ refl _ x.answer;
      noted = record { given = x.given; touched = x.touched _ v.noted.touched };
    }

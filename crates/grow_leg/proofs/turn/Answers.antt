-- `grow_leg::turn` meets its contract: each way to end is a law of proofs/Turning.antt.
use mathlib.Core.Path.{ap, ◌∙◌}
use native.Mathlib.Omega.{arith}
use Rattle.std.specs.Prelude.{Ok}
use Rattle.grow_state.proofs.Keeping.{turned_refused, planned_in}
use Rattle.grow_leg.proofs.Walking.{some_front}
use Rattle.grow_leg.proofs.Turning.{take_refused, take_ended, took_ends, took_free, took_way, take_on}
use Rattle.grow_leg.proofs.turn.Goals as goal

pub walk_leg-requires : goal.walk_leg-requires
walk_leg-requires c = let s = c.requires in
    record { reals_room = s.reals_room; driving = s.driving }

pub end_leg-requires : goal.end_leg-requires
end_leg-requires c =
    let plan = planned_in _ c.args.p.now.planned c.requires.reals_room in
    let s = c.requires in
    let v = c.walk_leg in
    let d = (some_front s.driving).holds in
    record {
      reals_room = omega (arith, s.reals_room, v.auto);
      some_way = took_way plan d _ _ _ _ _ (omega (arith, v.auto)) v.result
          (v.ensures.walked _ _ _ _ d) v.ensures.more _ _ (c.in_ok-became.was ∙ ap Ok c.in-On.is);
    }

pub returns-in_err-became : goal.returns-in_err-became
returns-in_err-became c =
    let plan = planned_in _ c.args.p.now.planned c.requires.reals_room in
    let s = c.requires in
    let v = c.walk_leg in
    λ path net run saved d.
    turned_refused _ _ _ _ c.from_residual.result _ c.from_residual.ensures.1
    (take_refused plan d _ _ _ _ _ (omega (arith, v.auto)) v.result
    (v.ensures.walked path net run saved d) v.ensures.more _ c.in_err-became.was)

pub returns-in-Ended : goal.returns-in-Ended
returns-in-Ended c =
    let plan = planned_in _ c.args.p.now.planned c.requires.reals_room in
    let s = c.requires in
    let v = c.walk_leg in
    λ path net run saved d. take_ended plan d _ _ _ _ _ (omega (arith, v.auto)) v.result
    (v.ensures.walked path net run saved d) v.ensures.more _ (c.in_ok-became.was ∙ ap Ok c.in-Ended.is)

pub returns-in-On : goal.returns-in-On
returns-in-On c =
    let plan = planned_in _ c.args.p.now.planned c.requires.reals_room in
    let s = c.requires in
    let v = c.walk_leg in
    let e = c.end_leg in
    λ path net run saved d.
    take_on plan d _ _ _ _ _ (omega (arith, v.auto)) v.result (v.ensures.walked path net run saved d) v.ensures.more _ _
    (c.in_ok-became.was ∙ ap Ok c.in-On.is) _ _ e.result
    (e.ensures _ _ saved (took_ends plan d _ _ _ _ _ (omega (arith, v.auto)) v.result
    (v.ensures.walked path net run saved d) v.ensures.more _ _ (c.in_ok-became.was ∙ ap Ok c.in-On.is))
    (took_free plan d _ _ _ _ _ (omega (arith, v.auto)) v.result
    (v.ensures.walked path net run saved d) v.ensures.more _ _ (c.in_ok-became.was ∙ ap Ok c.in-On.is)))

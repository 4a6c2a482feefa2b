-- `grow_leg::go_on` meets its contract: each way is a law of proofs/Ending.antt.
use mathlib.Core.Path.{ap, ◌∙◌}
use native.Mathlib.Omega.{arith}
use Rattle.std.specs.Prelude.{Ok}
use Rattle.grow_state.proofs.Keeping.{turned_refused, planned_in}
use Rattle.grow_leg.proofs.Ending.{front_link, goes_nowhere, goes_on_lem, fork_refused, fork_saved, fork_free}
use Rattle.grow_leg.proofs.Ending.{fork_goes, fork_leg}
use Rattle.grow_leg.proofs.go_on.Goals as goal

pub ways_behind-requires : goal.ways_behind-requires
ways_behind-requires c =
    let plan = planned_in _ c.args.p.now.planned c.requires.reals_room in
    let s = c.requires in
    front_link plan s.some_going.way.ends _ s.leg_link

pub on_over-requires-in-Both : goal.on_over-requires-in-Both
on_over-requires-in-Both c =
    let s = c.requires in
    let y = s.some_going in
    let v = c.save_over in
    fork_leg y.way.ends _ s.leg_link c.ways_behind.result c.ways_behind.ensures _ _
    (c.in_ok-ways.was ∙ ap Ok c.in-Both.is) _ _ v.result (v.ensures _ _ _ _ _ y.way.ends (y.way.free _))
    (planned_in _ c.args.p.now.planned (omega (arith, c.requires.reals_room, v.auto))) _ c.in_ok-rest-in-Both.was

pub returns-in_err-ways : goal.returns-in_err-ways
returns-in_err-ways c = λ fs us net run rest a f.
    turned_refused _ _ _ _ c.from_residual.result _ c.from_residual.ensures.1
    (goes_nowhere a _ c.requires.leg_link c.ways_behind.result c.ways_behind.ensures _ c.in_err-ways.was)

pub returns-in-One : goal.returns-in-One
returns-in-One c =
    let plan = planned_in _ c.args.p.now.planned c.requires.reals_room in
    λ fs us net run rest a f. goes_on_lem a _ c.requires.leg_link c.ways_behind.result c.ways_behind.ensures _
    (c.in_ok-ways.was ∙ ap Ok c.in-One.is) _ _ c.on_over.result
    (c.on_over.ensures fs us _ _ net run rest plan a (f _))

pub returns-in_err-rest-in-Both : goal.returns-in_err-rest-in-Both
returns-in_err-rest-in-Both c = λ fs us net run rest a f.
    turned_refused _ _ _ _ c.from_residual-in_err-rest-in-Both.result _ c.from_residual-in_err-rest-in-Both.ensures.1
    (fork_refused a _ c.requires.leg_link c.ways_behind.result c.ways_behind.ensures _ _
    (c.in_ok-ways.was ∙ ap Ok c.in-Both.is) _ _ c.save_over.result
    (c.save_over.ensures fs us net run rest a (f _)) _ c.in_err-rest-in-Both.was)

pub returns-in_ok-rest-in-Both : goal.returns-in_ok-rest-in-Both
returns-in_ok-rest-in-Both c =
    let plan = planned_in _ c.args.p.now.planned c.requires.reals_room in
    let s = c.requires in
    let w = c.ways_behind in
    let v = c.save_over in
    let l = front_link plan s.some_going.way.ends _ s.leg_link in
    let o = c.in_ok-ways.was ∙ ap Ok c.in-Both.is in
    λ fs us net run rest a f.
    fork_goes a _ s.leg_link w.result w.ensures _ _ o _ _ v.result
    (v.ensures fs us net run rest a (f _)) _ c.in_ok-rest-in-Both.was c.on_over-in-Both.result
    (c.on_over-in-Both.ensures fs us _ _ net run _
    (planned_in _ c.args.p.now.planned (omega (arith, c.requires.reals_room, v.auto)))
    (fork_saved a _ s.leg_link w.result w.ensures _ _ o _ _ v.result
    (v.ensures fs us net run rest a (f _)) _ c.in_ok-rest-in-Both.was).ends
    (fork_free a _ s.leg_link w.result w.ensures _ _ o _ _ v.result
    (v.ensures fs us net run rest a (f _)) plan.readable.indices l f _ c.in_ok-rest-in-Both.was))

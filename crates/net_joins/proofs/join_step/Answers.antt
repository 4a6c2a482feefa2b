-- `net_joins::join_step` meets its contract: each way to end is a law of proofs/Answers.antt.
use mathlib.Core.Path.{◌≡◌, sym, ap, ◌∙◌, subst}
use mathlib.Core.List.{List, []}
use mathlib.Core.Option.{some}
use Rattle.net_node.specs.Table.{node_at}
use Rattle.net_join_paths.specs.declared.EstJoinPath.{EstJoinPath}
use Rattle.net_join_paths.specs.Entries.{Valid}
use Rattle.net_join_paths.proofs.Entries.{valid_wider}
use Rattle.net_strands.specs.Space.{extended_all}
use Rattle.net_joins.specs.Joins.{closest}
use Rattle.net_joins.proofs.Choosing.{chosen_within}
use Rattle.net_joins.proofs.Answers.{cells_mapped, list_built, beyond_as, step_over, step_joins, step_goes}
use Rattle.net_joins.proofs.join_step.Goals as goal
use Rattle.net_joins.proofs.join_step.Goals.{In_ok-update_join_paths_space, After-closest_of-best}

-- the list was rebuilt
built : (c : In_ok-update_join_paths_space)
    → extended_all (node_at c.args.floats.now c.args.numbers.now) c.args.n c.args.est_time_add.link_event
    c.contains-seen.result c.args.joins.now.items [] ≡ some c.update_join_paths_space.new.list.items
built c =
    ap (λ (old : List EstJoinPath). extended_all (node_at c.args.floats.now c.args.numbers.now) c.args.n
    c.args.est_time_add.link_event c.contains-seen.result old []) (sym c.deref.ensures.0)
    ∙ c.in_ok-update_join_paths_space.ensures.list

-- its entries name nodes
valid : (c : In_ok-update_join_paths_space) → Valid c.update_join_paths_space.new.list.items c.args.n
valid c = list_built c.requires.indexed _ _ _ _ c.requires.valid (built c)

-- the choice among them
best : (c : After-closest_of-best) → c.closest_of-best.result
    ≡ closest (node_at c.args.floats.now c.args.numbers.now) c.args.join c.args.est_time_add.speed
    c.update_join_paths_space.new.list.items
best c =
    c.closest_of-best.ensures ∙ ap (closest (node_at c.args.floats.now c.args.numbers.now) c.args.join
    c.args.est_time_add.speed) c.deref-2.ensures.0

pub returns-in_err-update_join_paths_space-clause-answer : goal.returns-in_err-update_join_paths_space-clause-answer
returns-in_err-update_join_paths_space-clause-answer c =
    let p = c.in_err-update_join_paths_space.ensures.list in
    let a =
    ap (λ (old : List EstJoinPath). extended_all (node_at c.args.floats.now c.args.numbers.now) c.args.n
    c.args.est_time_add.link_event c.contains-seen.result old []) (sym c.deref.ensures.0) ∙ p.0 in
    beyond_as _ _ c.from_residual.ensures (step_over _ _ _ _ _ _ c.contains-seen.result
    (c.contains-seen.ensures _ _ c.requires.mapped) a) p.1

pub closest_of-best-requires-clause-valid : goal.closest_of-best-requires-clause-valid
closest_of-best-requires-clause-valid c =
    subst (λ (es : List EstJoinPath). Valid es c.args.n) (sym c.deref-2.ensures.0)
    (valid (goal.at.closest_of-best-requires-clause-valid c).In_ok-update_join_paths_space)

pub join_target-requires-clause-target_lt_n : goal.join_target-requires-clause-target_lt_n
join_target-requires-clause-target_lt_n c =
    chosen_within _ _ _ _ _ _ (best (goal.at.join_target-requires-clause-target_lt_n c).After-closest_of-best)
    (valid (goal.at.join_target-requires-clause-target_lt_n c).In_ok-update_join_paths_space) c.if-best-join.true

pub returns-then-best-join-clause-answer : goal.returns-then-best-join-clause-answer
returns-then-best-join-clause-answer c =
    let at = goal.at.returns-then-best-join-clause-answer c in
    step_joins _ _ _ _ _ _ c.contains-seen.result (c.contains-seen.ensures _ _ c.requires.mapped)
    _ (built at.In_ok-update_join_paths_space) _ (best at.After-closest_of-best) _ _ c.if-best-join.true
    (c.join_target.ensures.answer _)

pub go_on-requires-clause-valid : goal.go_on-requires-clause-valid
go_on-requires-clause-valid c =
    valid_wider _ c.requires.n_le_places (valid (goal.at.go_on-requires-clause-valid c).In_ok-update_join_paths_space)

pub returns-clause-answer : goal.returns-clause-answer
returns-clause-answer c =
    let at = goal.at.returns-clause-answer c in
    step_goes _ _ _ _ _ _ c.contains-seen.result (c.contains-seen.ensures _ _ c.requires.mapped)
    _ (built at.In_ok-update_join_paths_space) _ (best at.After-closest_of-best) _ _ c.if-best-join.false
    (c.go_on.ensures.answer _ _ c.requires.n_le_places
    (cells_mapped c.requires.mapped c.update_join_paths_space.ensures.cells))

-- `net_strands::Rebuild::extend` meets its contract: each way through it is one law of Extending.
use mathlib.Core.Bool.{not}
use mathlib.Core.Path.{ap, ◌∙◌}
use Rattle.net_stack.proofs.Arrives.{arrive_eq}
use Rattle.net_strands.proofs.Extending.{extended_copied}
use Rattle.net_strands.proofs.Given.{extends_pushed}
use Rattle.net_strands.proofs.Rebuild.extend.Goals as goal

pub returns-then-not-arrive-cleared : goal.returns-then-not-arrive-cleared
returns-then-not-arrive-cleared c =
    let p = c.push_entry in
    extends_pushed c.requires.given _ c.args.x
    (extended_copied _ _ _ _ _ _ _ c.load-node.ensures c.if-node-eq0.false _ (c.eq-arrive.ensures ∙ arrive_eq _)
    (ap not c.if-not-arrive-cleared.true)) p.new.list.items p.result p.ensures.list

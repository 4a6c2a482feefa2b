-- `net_insertion::seek_place` meets its contract: `Seeking` is the loop's invariant, and each alternative is later.
use mathlib.Core.Path.{sym, ◌∙◌}
use Rattle.net_insertion.proofs.Seeking.{seeking_open, seeking_match, seeking_split}
use Rattle.net_insertion.proofs.seek_place.Goals as goal

pub returns-then-next-eq0 : goal.returns-then-next-eq0
returns-then-next-eq0 c =
    seeking_open c.args.nodes.now.indexed c.loop-e.invariant _ c.load-node.ensures c.if-next-eq0.true

pub returns-then-is_match : goal.returns-then-is_match
returns-then-is_match c =
    seeking_match c.args.nodes.now.indexed c.loop-e.invariant _ c.load-node.ensures
    c.if-next-eq0.false _ c.load-there.ensures (sym c.is_match.ensures ∙ c.if-is_match.true)

pub returns-then-node-eq0 : goal.returns-then-node-eq0
returns-then-node-eq0 c =
    seeking_split c.args.nodes.now.indexed c.loop-e.invariant _ c.load-node.ensures
    c.if-next-eq0.false _ c.load-there.ensures (sym c.is_match.ensures ∙ c.if-is_match.false) c.if-node-eq0.true

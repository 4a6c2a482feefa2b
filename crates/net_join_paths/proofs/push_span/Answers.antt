-- `net_join_paths::push_span` meets its contract: `Copying` is the loop's invariant.
use Rattle.net_join_paths.specs.Entries.{entry}
use Rattle.net_join_paths.proofs.Entries.{node_got, over_as}
use Rattle.net_join_paths.proofs.Spans.{copying_over, copying_on}
use Rattle.net_join_paths.proofs.push_span.Goals as goal

pub returns-in_err-push_entry : goal.returns-in_err-push_entry
unfolding entry
returns-in_err-push_entry c =
    let p = c.in_err-push_entry.ensures.list in
    over_as _ _ c.from_residual.ensures (copying_over c.loop-k.invariant c.loop-k-test.true c.requires.inside
    _ (node_got c.args.link_idx_match _ _ c.loop-k.k c.deref.ensures.0) p.0) p.1

pub loop-k-preserved : goal.loop-k-preserved
unfolding entry
loop-k-preserved c =
    copying_on c.loop-k.invariant c.loop-k-test.true c.requires.inside
    _ (node_got c.args.link_idx_match _ _ c.loop-k.k c.deref.ensures.0) _ c.in_ok-push_entry.ensures.list

-- `net_join_paths::push_span` meets its contract: `Copying` is the loop's invariant.
use Rattle.net_join_paths.proofs.Spans.{Copying}
use Rattle.net_join_paths.proofs.push_span.Given as goal

abbrev pub invariant-loop-k : goal.invariant-loop-k
invariant-loop-k l = Copying l.link_idx_match l.initial.list.items l.fn.span.begin l.fn.span.end l.list.items l.k

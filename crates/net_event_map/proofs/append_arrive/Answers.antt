-- `net_event_map::append_arrive` meets its contract.
use Rattle.net_event_map.proofs.Chains.{arrived_only}
use Rattle.net_event_map.proofs.append_arrive.Goals as goal

pub returns-clause-elsewhere : goal.returns-clause-elsewhere
returns-clause-elsewhere c =
    arrived_only c.args.link_idx c.requires.link_idx_lt_links c.open_cell-open.result c.args.i c.requires.last_placed
    c.open_cell-open.ensures.first c.open_cell-open.ensures.behind

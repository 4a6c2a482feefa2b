-- `book_legs::find_start` meets its contract.
use Rattle.book_legs.proofs.Starts.{start_missing, start_found}
use Rattle.book_legs.proofs.find_start.Goals as goal

pub returns-then-number-eq0 : goal.returns-then-number-eq0
returns-then-number-eq0 c = start_missing _ _ _ c.requires.started c.requires.link_idx_lt_links (rw (← c.links.ensures) c.if-number-eq0.true)

pub returns-else-number-eq0 : goal.returns-else-number-eq0
returns-else-number-eq0 c = start_found _ _ _ _ c.requires.started c.requires.link_idx_lt_links (rw (← c.links.ensures)) c.if-number-eq0.false

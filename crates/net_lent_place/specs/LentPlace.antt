-- Document 01 under "Some places and their forms": "the run's place is afterwards also lent and moved in place".
use Rattle.net_insertion.specs.declared.Place.{Place}
use Rattle.std.specs.Prelude.{Result, Ok, Err}
use Rattle.refusals.specs.declared.Refusal.{Refusal}
use Rattle.net_insertion.specs.declared.Insertion.{Insertion}
use Rattle.net_insertion.specs.declared.Insertion.TheVariants.{Added, Moved}

-- Where a run stands after insertion's answer: behind the event that was added, at the node that it moved to, and after
-- a refusal where it stood.
abbrev pub place_after : Result Insertion Refusal → Place → Place
place_after (Ok (Added p split)) old = p
place_after (Ok (Moved p)) old = p
place_after (Err r) old = old

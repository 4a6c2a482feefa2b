-- `event_formula::pass_at` meets its contract.
use Rattle.std.proofs.Common.{rules}
use Rattle.event_formula.specs.Event.{passing_at, twice_ahead, speed_at}
use Rattle.event_formula.proofs.pass_at.Goals as goal

pub returns : goal.returns
unfolding passing_at twice_ahead speed_at
returns c = search rules

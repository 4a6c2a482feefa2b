-- `event_formula::time_at` meets its contract.
use Rattle.std.proofs.Common.{rules}
use Rattle.event_formula.specs.Event.{time_at, stands_at, time_by_quotient}
use Rattle.event_formula.proofs.time_at.Goals as goal

pub returns-then-dist_diff_x2-speed_sum : goal.returns-then-dist_diff_x2-speed_sum
unfolding time_at stands_at time_by_quotient
returns-then-dist_diff_x2-speed_sum c = search rules

pub returns : goal.returns
unfolding time_at stands_at time_by_quotient
returns c = search rules

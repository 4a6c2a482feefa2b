-- `net_joins::closer_of` meets its contract.
use Rattle.net_joins.proofs.Choosing.{closer_by}
use Rattle.net_joins.proofs.closer_of.Goals as goal

pub returns-then-x-speed_diff : goal.returns-then-x-speed_diff
returns-then-x-speed_diff c =
    λ nodes l. closer_by nodes _ _ _ _ _ _ l c.speed_gap-speed_diff.ensures c.if-x-speed_diff.true

pub returns : goal.returns
returns c = λ nodes l. closer_by nodes _ _ _ _ _ _ l c.speed_gap-speed_diff.ensures c.if-x-speed_diff.false

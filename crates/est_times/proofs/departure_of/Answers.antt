-- `est_times::departure_of` meets its contract.
use Rattle.est_times.proofs.Stages.{departure_number, departure_is}
use Rattle.est_times.proofs.departure_of.Goals as goal

pub float_from_bits-result : goal.float_from_bits-result
float_from_bits-result c = departure_number _ c.u64_at.result c.requires.departure c.u64_at.ensures

pub returns : goal.returns
returns c = departure_is _ c.u64_at.result c.u64_at.ensures

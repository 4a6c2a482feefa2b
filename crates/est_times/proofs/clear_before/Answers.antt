-- `est_times::clear_before` meets its contract.
use Rattle.space.proofs.Zeros.{zeros_again}
use Rattle.est_times.proofs.Networks.{floats_again}
use Rattle.est_times.proofs.clear_before.Goals as goal

pub returns : goal.returns
returns c =
    record {
      floats = floats_again _ _ c.clear.ensures;
      numbers = zeros_again _ _ c.clear-2.ensures;
      cells = zeros_again _ _ c.clear-3.ensures;
      marks = zeros_again _ _ c.clear-4.ensures;
    }

-- `grow_state::take_up` meets its contract.
use native.Mathlib.Omega.{arith}
use Rattle.grow_state.proofs.TakingUp.{taken_up_lem, drive_pops, drive_few}
use Rattle.grow_state.proofs.take_up.Goals as goal

pub pop-popped-requires : goal.pop-popped-requires
pop-popped-requires c =
    let s = c.requires.some_drive in
    record {
      places_in_bounds = omega (arith, s.driving.holds.grown.apart.nodes_inside, s.plan.same_nodes, s.plan.same_places);
      pairs_in_bounds = s.plan.pairs;
      some_waits = drive_pops s c.requires.top_nonzero;
    }

pub overflow_sub-rest : goal.overflow_sub-rest
overflow_sub-rest c = omega (
  arith,
  drive_few c.requires.some_drive c.requires.top_nonzero _ _
      c.pop-popped.ensures.popped,
  c.len.ensures.value,
)

pub returns : goal.returns
returns c = λ b fs us path net runs d. taken_up_lem d c.requires.top_nonzero _ _ c.len.ensures.value _
    c.pop-popped.ensures.popped

-- `pass_table::update_times` meets its contract.
use mathlib.Core.Path.{ap, sym, ◌∙◌, subst}
use Prim.Native.Nat.{ℕ, ◌≤◌}
use Rattle.space.specs.Space.{zeros, zero_floats}
use Rattle.pass_table.proofs.Answers.{kept_fits, updated}
use Rattle.pass_table.proofs.update_times.Goals as goal

pub clear_behind-requires : goal.clear_behind-requires
clear_behind-requires c = subst (λ (k : ℕ). k ≤ 65535) (sym c.unwrap_or.ensures) (kept_fits _ _ _ _ _ c.time_nodes-timed.ensures.timed c.time_nodes-timed.ensures.nodes)

pub returns : goal.returns
returns c =
    let k = c.time_nodes-timed.auto in
    let both = c.clear_behind.ensures in
    let work = c.clear_work.ensures in
    updated _ _ _ c.time_nodes-timed.ensures.nodes _ c.time_nodes-timed.ensures.timed k.floats k.numbers _ c.unwrap_or.ensures _ both.floats both.numbers
    (record {
      reals = work.reals ∙ ap zero_floats k.reals;
      cells = work.cells ∙ ap zeros k.cells;
      marks = work.marks ∙ ap zeros k.marks;
    })

-- `pass_all::run_passes` meets its contract.
use native.Mathlib.Omega.{arith}
use Rattle.std.proofs.Common.{◌*◌}
use Rattle.std.proofs.lemmas.List.{length-take-le}
use Rattle.pass_all.proofs.Stages.{front_unset, back_unset, ended, failed, fifteen, told_14, told_forward, told_untimed, told_whole, told_backward, told_unpassed, told_zero, told_times}
use Rattle.pass_all.proofs.run_passes.Goals as goal

pub returns-then-checks_fail : goal.returns-then-checks_fail
returns-then-checks_fail c = told_14 _ _ _ _ _ c.checks_fail.ensures c.if-checks_fail.true

pub update_times_forward-requires : goal.update_times_forward-requires
update_times_forward-requires c = record {
  linked = c.requires.linked;
  three = c.requires.three_nodes;
  flags = omega (arith, c.split_at_mut-timed.ensures.front_len);
  unset = front_unset _ _ _ _ c.requires.cells_zero c.split_at_mut-timed.ensures.front;
  room = record { times = c.requires.times_room; nodes = c.requires.nodes_room };
}

pub returns-in_err-ok_or : goal.returns-in_err-ok_or
returns-in_err-ok_or c =
    let q = c.in_err-ok_or.ensures in
    fifteen _ _ _ c.from_residual.ensures.1 q.value q.ok_part _ _ (told_forward _ _ _ _ c.checks_fail.ensures c.if-checks_fail.false _ (failed _ _ _ _ _ _ c.update_times_forward.ensures q.ok_part))

pub returns-then-some_left : goal.returns-then-some_left
returns-then-some_left c =
    told_untimed _ _ _ _ c.checks_fail.ensures c.if-checks_fail.false _ (ended _ c.update_times_forward.ensures c.in_ok-ok_or.ensures.ok_part) _ (omega (arith, c.split_at_mut-timed.ensures.front_len, c.update_times_forward.auto)) _ c.some_left.ensures c.if-some_left.true

pub update_times_backward-requires : goal.update_times_backward-requires
update_times_backward-requires c =
    let k = c.update_times_forward.auto in
    let r = c.requires in
    record {
      linked = (ended _ c.update_times_forward.ensures c.in_ok-ok_or.ensures.ok_part).linked;
      three = r.three_nodes;
      flags = omega (arith, c.split_at_mut-timed.ensures.back_len, length-take-le (c.args.n * 2) c.args.cells.now r.flags_room);
      unset = back_unset _ _ _ _ r.cells_zero c.split_at_mut-timed.ensures.back;
      room = record { times = omega (arith, r.times_room, k); nodes = omega (arith, r.nodes_room, k) };
    }

pub returns-in_err-ok_or-2 : goal.returns-in_err-ok_or-2
returns-in_err-ok_or-2 c =
    let q = c.in_err-ok_or-2.ensures in
    fifteen _ _ _ c.from_residual-in_err-ok_or-2.ensures.1 q.value q.ok_part _ _
    (told_whole _ _ _ _ c.checks_fail.ensures c.if-checks_fail.false _ (ended _ c.update_times_forward.ensures c.in_ok-ok_or.ensures.ok_part) _ (omega (arith, c.split_at_mut-timed.ensures.front_len, c.update_times_forward.auto)) _ c.some_left.ensures c.if-some_left.false _ _ (told_backward _ _ _ (failed _ _ _ _ _ _ c.update_times_backward.ensures q.ok_part)))

pub returns-then-some_left-2 : goal.returns-then-some_left-2
returns-then-some_left-2 c =
    told_whole _ _ _ _ c.checks_fail.ensures c.if-checks_fail.false _ (ended _ c.update_times_forward.ensures c.in_ok-ok_or.ensures.ok_part) _ (omega (arith, c.split_at_mut-timed.ensures.front_len, c.update_times_forward.auto)) _ c.some_left.ensures c.if-some_left.false _ _
    (told_unpassed _ _ _ (ended _ c.update_times_backward.ensures c.in_ok-ok_or-2.ensures.ok_part) _ (omega (arith, c.split_at_mut-timed.ensures.back_len, length-take-le (c.args.n * 2) c.args.cells.now c.requires.flags_room, c.update_times_backward.auto)) _ c.some_left-2.ensures c.if-some_left-2.true)

pub returns-then-all_zero : goal.returns-then-all_zero
returns-then-all_zero c =
    told_whole _ _ _ _ c.checks_fail.ensures c.if-checks_fail.false _ (ended _ c.update_times_forward.ensures c.in_ok-ok_or.ensures.ok_part) _ (omega (arith, c.split_at_mut-timed.ensures.front_len, c.update_times_forward.auto)) _ c.some_left.ensures c.if-some_left.false _ _
    (told_zero _ _ _ (ended _ c.update_times_backward.ensures c.in_ok-ok_or-2.ensures.ok_part) _ (omega (arith, c.split_at_mut-timed.ensures.back_len, length-take-le (c.args.n * 2) c.args.cells.now c.requires.flags_room, c.update_times_backward.auto)) _ c.some_left-2.ensures c.if-some_left-2.false _ c.all_zero.ensures c.if-all_zero.true)

pub returns : goal.returns
returns c =
    told_whole _ _ _ _ c.checks_fail.ensures c.if-checks_fail.false _ (ended _ c.update_times_forward.ensures c.in_ok-ok_or.ensures.ok_part) _ (omega (arith, c.split_at_mut-timed.ensures.front_len, c.update_times_forward.auto)) _ c.some_left.ensures c.if-some_left.false _ _
    (told_times _ _ _ (ended _ c.update_times_backward.ensures c.in_ok-ok_or-2.ensures.ok_part) _ (omega (arith, c.split_at_mut-timed.ensures.back_len, length-take-le (c.args.n * 2) c.args.cells.now c.requires.flags_room, c.update_times_backward.auto)) _ c.some_left-2.ensures c.if-some_left-2.false _ c.all_zero.ensures c.if-all_zero.false)

-- `net_insertion::insert_est_time` meets its contract: each way to end is a law of proofs/Answers.antt.
use mathlib.Core.Path.{sym, ◌∙◌}
use native.Mathlib.Omega.{arith}
use Rattle.net_insertion.proofs.Seeking.{sought_found}
use Rattle.net_insertion.proofs.Answers.{flagged_clear, move_answer, open_added}
use Rattle.net_insertion.proofs.Answers.{split_added}
use Rattle.net_insertion.proofs.insert_est_time.Goals as goal

pub bounds-cells-ends_at : goal.bounds-cells-ends_at
bounds-cells-ends_at c =
    let f =
    sought_found _ _ _ _ _ _ (sym c.in-Open.is ∙ c.seek_place.ensures) c.requires.indexed
    c.requires.stands_inside in
    omega (arith, f.0, c.requires.ends_inside)

pub add_behind-requires-clause-i_lt_k : goal.add_behind-requires-clause-i_lt_k
add_behind-requires-clause-i_lt_k c =
    (sought_found _ _ _ _ _ _ (sym c.in-Open.is ∙ c.seek_place.ensures) c.requires.indexed c.requires.stands_inside).0

pub split_at-requires-clause-i_lt_k : goal.split_at-requires-clause-i_lt_k
split_at-requires-clause-i_lt_k c =
    (sought_found _ _ _ _ _ _ (sym c.in-Split.is ∙ c.seek_place.ensures) c.requires.indexed c.requires.stands_inside).0

pub returns-in-Match : goal.returns-in-Match
returns-in-Match c =
    let all = move_answer _ _ _ (record { is = sym c.in-Match.is ∙ c.seek_place.ensures }) c.place_at.ensures in
    record { answer = all.0; table = all.1 }

pub returns-else-cells-ends_at-gt0 : goal.returns-else-cells-ends_at-gt0
returns-else-cells-ends_at-gt0 c =
    let all =
    open_added _ _ _ _ _ (record { is = sym c.in-Open.is ∙ c.seek_place.ensures })
    (omega (arith, c.if-places-n.false)) (flagged_clear _ _ _ (omega (arith, c.if-cells-ends_at-gt0.false)))
    c.place_at-in-Open.ensures (c.add_behind.ensures.floats, c.add_behind.ensures.numbers) in
    record { answer = all.0; table = all.1 }

pub returns-else-places-n-2 : goal.returns-else-places-n-2
returns-else-places-n-2 c =
    let all =
    split_added _ _ _ _ _ _ _ (record { is = sym c.in-Split.is ∙ c.seek_place.ensures })
    (omega (arith, c.if-places-n-2.false)) c.place_at-in-Split.ensures
    (c.split_at.ensures.floats, c.split_at.ensures.numbers)
    (c.add_behind-in-Split.ensures.floats, c.add_behind-in-Split.ensures.numbers) in
    record { answer = all.0; table = all.1 }

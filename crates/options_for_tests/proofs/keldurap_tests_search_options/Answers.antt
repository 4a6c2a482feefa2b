-- `options_for_tests::keldurap_tests_search_options` meets its contract: proofs/Laws.antt, `searched_whole`.
use Rattle.std.proofs.Common.{◌≡◌, ◌∙◌, refl, arith}
use Rattle.laws.specs.Answer.{number_of}
use Rattle.refusals.specs.Refusals.{told}
use Rattle.space.specs.Lent.{Work, bytes_in}
use Rattle.space.proofs.Works.{cleared_as}
use Rattle.book_reader.specs.Reader.{read_number}
use Rattle.book_reader.proofs.Rooms.{number_moved}
use Rattle.options_for_tests.specs.Steps.{SearchedAfter}
use Rattle.options_for_tests.proofs.Laws.{read_refused, read_accepted, searched_whole}
use Rattle.options_for_tests.proofs.keldurap_tests_search_options.Goals as goal
use Rattle.options_for_tests.proofs.keldurap_tests_search_options.Goals.{in-Ok, in-Err}

pub returns : goal.returns
returns c =
    let k = c.clear_work.auto in
    let l = c.read_book-reading.auto in
    let lent : Work = record { reals = c.args.reals.now; cells = c.args.cells.now; marks = c.args.marks.now } in
    let read : number_of (told c.read_book-reading.result) ≡ read_number c.args.book.now c.args.places (bytes_in lent) =
    c.read_book-reading.ensures.number ∙ number_moved _ _ _ _ _ _ _ _ (omega (arith, k)) (omega (arith, k)) (omega (arith, k)) in
    let after : SearchedAfter c.args.book.now (read_number c.args.book.now c.args.places (bytes_in lent)) c.clear.new.s c.match-reading.part c.match-reading.found = elim c.match-reading.branch [
      | in-Ok w ↦ rw (w.part-is, w.found-is) (read_accepted read w.in-Ok.is w.in-Ok.ensures.into.0 w.search_part-found.ensures.number w.search_part-found.ensures.into)
      | in-Err w ↦ rw (w.part-is, w.found-is) (read_refused read w.in-Err.is refl refl)
    ] in
    searched_whole c.clear.ensures after c.unwrap_or.ensures c.number_of.ensures (cleared_as (omega (arith, k, l)) (omega (arith, k, l)) (omega (arith, k, l)) c.clear_work-2.ensures)

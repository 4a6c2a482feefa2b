-- `book_reader::read_book` meets its contract.
use Rattle.std.proofs.Common.{◌≡◌, refl, sym, ◌∙◌, ap, subst, ℕ, List, length, take, drop, arith}
use lib.Seq.{length-take-le}
use Rattle.refusals.proofs.Answers.{handed_on}
use Rattle.book_options.specs.Options.{search_room}
use Rattle.book_format.proofs.Given.{limits}
use Rattle.book_reader.specs.Stages.{Blank, RestRead}
use Rattle.book_reader.proofs.Numbers.{from_6}
use Rattle.book_reader.proofs.Rooms.{part_fits, blank_of, number_capped}
use Rattle.book_reader.proofs.Parts.{read_among, behind_part}
use Rattle.book_reader.proofs.read_book.Goals as goal
use Rattle.book_reader.proofs.read_book.Goals.{After-part-1, After-search_room-room}

pub returns-in_err-tested : goal.returns-in_err-tested
returns-in_err-tested c =
    rw (handed_on _ _ c.from_residual.ensures.1)
    (record {
      number = c.in_err-tested.ensures ∙ number_capped _ _ _ _ _ _ _ c.units.ensures c.lent_bytes-bytes.ensures;
      into = tt;
      rest = refl;
    })

pub search_room-room-requires : goal.search_room-room-requires
search_room-room-requires c =
    let t = c.in_ok-tested.ensures in
    let l = limits _ t.1.passed.counted.counts in
    let e = c.book.ensures.is ∙ t.0 in
    record {
      links_most = rw e l.links_most;
      destinations_most = rw e l.destinations_most;
      origins_most = rw e l.origins_most;
    }

-- how many marks the search asks for, and that there are so many
asked : (c : After-search_room-room) → c.search_room-room.result ≡ search_room c.args.book.now
asked c = c.search_room-room.ensures ∙ ap search_room (c.book.ensures.is ∙ c.in_ok-tested.ensures.0)

pub slice_bounds-part-end : goal.slice_bounds-part-end
slice_bounds-part-end c =
    omega (
      arith,
      part_fits _ _ _ _ _ c.args.cells.now c.args.marks.now c.lent_bytes-bytes.ensures c.in_ok-tested.ensures.1.row3 c.units.ensures,
      asked c,
    )

pub slice_bounds-part-end-2 : goal.slice_bounds-part-end-2
slice_bounds-part-end-2 c = sym (length-take-le _ _ (slice_bounds-part-end (goal.at.slice_bounds-part-end-2 c).After-search_room-room))

pub read_rest-requires-clause-blank : goal.read_rest-requires-clause-blank
read_rest-requires-clause-blank c =
    let t = c.in_ok-tested.ensures in
    subst (λ (b : List ℕ). Blank b c.args.cells.now (take c.search_room-room.result c.args.marks.now) (search_room b)) (sym t.0)
    (blank_of _ _ _ _ _ _ _ c.lent_bytes-bytes.ensures t.1.row3 c.units.ensures c.requires.cells_zero c.requires.marks_zero _ (asked (goal.at.read_rest-requires-clause-blank c).After-search_room-room))

pub returns : goal.returns
returns c =
    let t = c.in_ok-tested.ensures in
    let b = c.args.book.now in
    let part = c.read_rest.new.marks in
    let behind = drop c.search_room-room.result c.args.marks.now in
    let told = asked (goal.at.returns c).After-search_room-room in
    let e : length part ≡ search_room b =
    c.read_rest.auto.marks ∙ sym (slice_bounds-part-end-2 (goal.at.returns c).After-part-1) ∙ told in
    let r = subst (λ (x : List ℕ). RestRead x c.read_rest.new.cells part c.read_rest.result) t.0 c.read_rest.ensures in
    record {
      number =
          r.number
          ∙ sym (from_6 _ _ _ t.1.passed.row1 t.1.passed.row2 t.1.row3 t.1.passed.row4 t.1.passed.row5)
          ∙ number_capped _ _ _ _ _ _ _ c.units.ensures c.lent_bytes-bytes.ensures;
      into = read_among b c.read_rest.new.cells part behind e c.read_rest.result r.into;
      rest = behind_part b c.args.marks.now part c.search_room-room.result e told;
    }

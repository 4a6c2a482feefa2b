-- `Book::measure` meets its contract: each test of the length is one law of Measures.
use native.Mathlib.Omega.{arith}
use Rattle.book_format.proofs.Measures.{count_cut, short_head, short_links, short_origins, short_destinations}
use Rattle.book_format.proofs.Measures.{short-legs, short-samples, long-samples, whole-samples, sized-samples}
use Rattle.book_format.proofs.Book.measure.Goals as goal

pub returns-in_err-links : goal.returns-in_err-links
returns-in_err-links c =
    count_cut _ _ _ c.in_err-links.ensures.answer c.from_residual.ensures.1
    (short_head _)

pub returns-in_err-origins : goal.returns-in_err-origins
returns-in_err-origins c =
    count_cut _ _ _ c.in_err-origins.ensures.answer c.from_residual-in_err-origins.ensures.1
    (short_links _ c.in_ok-links.ensures.answer)

pub returns-in_err-destinations : goal.returns-in_err-destinations
returns-in_err-destinations c =
    count_cut _ _ _ c.in_err-destinations.ensures.answer c.from_residual-in_err-destinations.ensures.1
    (short_origins _ c.in_ok-links.ensures.answer c.in_ok-origins.ensures.answer)

pub returns-in_err-legs : goal.returns-in_err-legs
returns-in_err-legs c =
    count_cut _ _ _ c.in_err-legs.ensures.answer c.from_residual-in_err-legs.ensures.1
    (short_destinations _ c.in_ok-links.ensures.answer c.in_ok-origins.ensures.answer
    c.in_ok-destinations.ensures.answer)

pub returns-in_err-samples : goal.returns-in_err-samples
returns-in_err-samples c =
    count_cut _ _ _ c.in_err-samples.ensures.answer c.from_residual-in_err-samples.ensures.1
    (short-legs _ c.in_ok-links.ensures.answer c.in_ok-origins.ensures.answer
    c.in_ok-destinations.ensures.answer c.in_ok-legs.ensures.answer)

pub returns-then-len-end : goal.returns-then-len-end
returns-then-len-end c =
    short-samples _ c.in_ok-links.ensures.answer c.in_ok-origins.ensures.answer
    c.in_ok-destinations.ensures.answer c.in_ok-legs.ensures.answer
    c.in_ok-samples.ensures.answer (omega arith)

pub returns-then-end-len : goal.returns-then-end-len
returns-then-end-len c =
    long-samples _ c.in_ok-links.ensures.answer c.in_ok-origins.ensures.answer
    c.in_ok-destinations.ensures.answer c.in_ok-legs.ensures.answer
    c.in_ok-samples.ensures.answer (omega arith)

pub invariant_of-result : goal.invariant_of-result
invariant_of-result c =
    sized-samples _ c.in_ok-links.ensures.answer c.in_ok-origins.ensures.answer
    c.in_ok-destinations.ensures.answer c.in_ok-legs.ensures.answer
    c.in_ok-samples.ensures.answer (omega arith) (omega arith)

pub returns : goal.returns
returns c =
    whole-samples _ c.in_ok-links.ensures.answer c.in_ok-origins.ensures.answer
    c.in_ok-destinations.ensures.answer c.in_ok-legs.ensures.answer
    c.in_ok-samples.ensures.answer (omega arith) (omega arith)

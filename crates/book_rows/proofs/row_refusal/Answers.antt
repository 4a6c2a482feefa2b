-- `book_rows::row_refusal` meets its contract: each range of the count is one section's.
use Rattle.std.proofs.Common.{sym, ◌∙◌, arith}
use Rattle.book_rows.proofs.Elements.{element_sample, element_link, element_origin, element_destination, element_leg}
use Rattle.book_rows.proofs.row_refusal.Goals as goal

pub returns-then-k-samples : goal.returns-then-k-samples
returns-then-k-samples c = c.sample_row.ensures ∙ sym (element_sample _ _ (omega arith))

pub returns-then-i-links : goal.returns-then-i-links
returns-then-i-links c = c.link_row.ensures ∙ rw c.samples-samples.ensures (sym (element_link _ _ (omega arith) (omega arith)))

pub returns-then-o-origins : goal.returns-then-o-origins
returns-then-o-origins c =
    c.origin_row.ensures ∙ rw (c.samples-samples.ensures, c.links-links.ensures) (sym (element_origin _ _ (omega arith) (omega arith) (omega arith)))

pub returns-then-d-destinations : goal.returns-then-d-destinations
returns-then-d-destinations c =
    c.destination_row.ensures
    ∙ rw (c.samples-samples.ensures, c.links-links.ensures, c.origins-origins.ensures)
    (sym (element_destination _ _ (omega arith) (omega arith) (omega arith) (omega arith)))

pub returns : goal.returns
returns c =
    c.leg_row.ensures
    ∙ rw (c.samples-samples.ensures, c.links-links.ensures, c.origins-origins.ensures, c.destinations-destinations.ensures)
    (sym (element_leg _ _ (omega arith) (omega arith) (omega arith) (omega arith)))

-- `options_for_tests::search_part` meets its contract.
use Rattle.std.proofs.Common.{◌≡◌, sym, ◌∙◌, ap, subst, false, ℕ, List, length, refl}
use Rattle.book_format.proofs.Given.{limits}
use Rattle.book_options.specs.Options.{row8, link_options, search_room, OptionsIn}
use Rattle.options_for_tests.specs.Steps.{SearchedIn}
use Rattle.options_for_tests.proofs.Laws.{part_right, part_wrong, options_found}
use Rattle.options_for_tests.proofs.search_part.Goals as goal

pub search_room-requires : goal.search_room-requires
search_room-requires c =
    let l = limits _ c.book.ensures.readable.counted.counts in
    record { links_most = l.links_most; destinations_most = l.destinations_most; origins_most = l.origins_most }

pub returns-then-part-search_room : goal.returns-then-part-search_room
returns-then-part-search_room c = record {
  number = sym (part_wrong _ _ (λ (e : length c.args.part.now ≡ search_room c.args.book.now). c.if-part-search_room.true (e ∙ sym (c.search_room.ensures ∙ ap search_room c.book.ensures.is))));
  into = refl;
}

pub returns : goal.returns
returns c =
    let e = c.valid.ensures.is in
    let o = c.get_link_idx_options.ensures in
    let h = c.requires.row8_passed in
    let f = options_found _ _ h (o.answer ∙ ap link_options e) in
    let m = subst (λ (b : List ℕ). row8 b ≡ false → OptionsIn b c.get_link_idx_options.new.marks) e o.marked h in
    record {
      number = rw f (sym (part_right _ _ (c.if-part-search_room.false ∙ c.search_room.ensures ∙ ap search_room c.book.ensures.is)));
      into = subst (SearchedIn c.args.book.now c.args.part.now c.get_link_idx_options.new.marks) (sym f) (refl, m);
    }

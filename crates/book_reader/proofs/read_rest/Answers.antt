-- `book_reader::read_rest` meets its contract.
use Rattle.std.proofs.Common.{◌≡◌, refl, sym, ◌∙◌, ap, subst, false, ℕ, List, ◌≤◌, length, arith}
use Rattle.refusals.proofs.Answers.{handed_on}
use lib.Seq.{length-take-le}
use Rattle.space.proofs.Zeros.{zeros_front, zeros_back}
use Rattle.book_format.specs.Format.{links}
use Rattle.book_options.specs.Options.{link_options, row8, OptionsIn}
use Rattle.book_legs.specs.Legs.{Started, SameButStarts}
use Rattle.book_reader.proofs.Numbers.{from_6_third, from_6_none, no_path, some_path, ready_of}
use Rattle.book_reader.proofs.read_rest.Goals as goal

pub test_repeats-requires-clause-blank : goal.test_repeats-requires-clause-blank
test_repeats-requires-clause-blank c =
    let p = c.requires.blank in
    let n = c.links-links.result in
    let e : n ≡ links c.args.tested.book = c.links-links.ensures ∙ ap links c.book.ensures.is in
    let h : n ≤ length c.args.marks.now = omega (arith, p.marks_room) in
    record {
      cells_room = p.cells_room;
      marks_room = length-take-le n c.args.marks.now h ∙ e;
      cells_zero = p.cells_zero;
      marks_zero = zeros_front n p.marks_zero;
    }

pub get_link_idx_options-requires-clause-marks_zero : goal.get_link_idx_options-requires-clause-marks_zero
get_link_idx_options-requires-clause-marks_zero c =
    zeros_back c.links-links.result c.requires.blank.marks_zero c.in_ok-book.ensures.1.marks_zero refl

pub returns-in_err-kept : goal.returns-in_err-kept
returns-in_err-kept c =
    let q = c.in_ok-book.ensures in
    let n = no_path _ _ (sym (c.in_err-kept.ensures.answer ∙ ap link_options (c.valid.ensures.is ∙ q.0))) in
    rw (handed_on _ _ c.from_residual-in_err-kept.ensures.1, n.1) (record { number = from_6_third _ q.1.row6 q.1.row7 n.0; into = tt })

pub returns : goal.returns
returns c =
    let q = c.in_ok-book.ensures in
    let e = c.valid.ensures.is ∙ q.0 in
    let k = some_path _ _ (sym (c.in_ok-kept.ensures.answer ∙ ap link_options e)) in
    let m = subst (λ (b : List ℕ). row8 b ≡ false → OptionsIn b c.get_link_idx_options.new.marks) e c.in_ok-kept.ensures.marked k.0 in
    let t = subst (λ (b : List ℕ). Started b c.mark_starts.new.marks) q.0 c.mark_starts.ensures.starts in
    let o = subst (λ (b : List ℕ). SameButStarts b c.get_link_idx_options.new.marks c.mark_starts.new.marks) q.0 c.mark_starts.ensures.others in
    record {
      number = from_6_none _ q.1.row6 q.1.row7 k.0;
      into = (q.0, ready_of c.requires.rows_passed q.1 k.0 m (t, o) k.1);
    }

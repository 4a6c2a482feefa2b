-- `streams::answer_whole` meets its contract.
use Rattle.std.proofs.Common.{take, refl, sym, subst}
use Rattle.streams.specs.Streams.{PrintedBy}
use Rattle.streams.proofs.Laws.{of_input}
use Rattle.streams.proofs.answer_whole.Goals as goal

pub returns-clause-whole : goal.returns-clause-whole
returns-clause-whole g c =
    of_input c.say_unless-2.result (g.R.Read.remaining c.args.from.now) (λ k. take k c.read_whole.new.buf) (λ xs. PrintedBy g.F.FnOnce c.args.print xs c.args.to.now c.say_unless-2.result c.print.new.arg3)
    c.in-Some.is c.in_ok-n.ensures.whole
    (subst (λ r. PrintedBy g.F.FnOnce c.args.print (take c.in-Some.n c.read_whole.new.buf) c.args.to.now r c.print.new.arg3) (sym c.say_unless-2.ensures)
    record { input = _; shows = refl; output = _; held = refl; left = _; met = c.print.ensures; leaves = refl })

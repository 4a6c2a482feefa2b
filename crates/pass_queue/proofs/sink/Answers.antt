-- `pass_queue::sink` meets its contract: `Sinking` is the loop's invariant, and the hole sinks.
use mathlib.Core.Path.{sym, ◌∙◌}
use Rattle.pass_queue.proofs.Sifts.{sinking_start, sinking_end, sinking_stop, sinking_on}
use Rattle.pass_queue.proofs.sink.Goals as goal

pub loop-i-init : goal.loop-i-init
loop-i-init g c = let r = c.requires in sinking_start _ _ _ _ _ r.n_nonzero r.behind

pub returns-then-not-is_before : goal.returns-then-not-is_before
returns-then-not-is_before g c =
    let r = c.requires in
    let v = c.loop-i.invariant in
    record {
      within = v.within;
      held = sinking_stop _ _ _ _ _ v r.room _ c.best_child-k.ensures _ c.entry_at-x.ensures (sym c.is_before.ensures ∙ c.if-not-is_before.true);
    }

pub loop-i-preserved : goal.loop-i-preserved
loop-i-preserved g c =
    let r = c.requires in
    sinking_on _ _ _ _ _ c.loop-i.invariant r.room _ c.best_child-k.ensures _ c.entry_at-x.ensures (sym c.is_before.ensures ∙ c.if-not-is_before.false) _ _
    c.put_entry.ensures.times c.put_entry.ensures.nodes

pub returns : goal.returns
returns g c =
    let r = c.requires in
    let v = c.loop-i.invariant in
    record {
      within = v.within;
      held = sinking_end _ _ _ _ _ v r.room c.loop-i-test.false;
    }

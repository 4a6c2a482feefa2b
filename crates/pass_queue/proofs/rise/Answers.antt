-- `pass_queue::rise` meets its contract: `Rising` is the loop's invariant, and the hole rises.
use mathlib.Core.Path.{refl, sym, ◌∙◌}
use native.Mathlib.Omega.{arith}
use Rattle.pass_queue.proofs.Sifts.{rising_start, rising_top, rising_stop, rising_on}
use Rattle.pass_queue.proofs.rise.Goals as goal

pub loop-i-init : goal.loop-i-init
loop-i-init g c = rising_start _ _ _ _ _ c.requires.ordered

pub returns-then-not-is_before : goal.returns-then-not-is_before
returns-then-not-is_before g c =
    let r = c.requires in
    let v = c.loop-i.invariant in
    record {
      within = v.within;
      held = rising_stop _ _ _ _ _ v r.room (omega (arith, c.loop-i-test.true)) _ refl _ c.entry_at-x.ensures (sym c.is_before.ensures ∙ c.if-not-is_before.true);
    }

pub loop-i-preserved : goal.loop-i-preserved
loop-i-preserved g c =
    let r = c.requires in
    rising_on _ _ _ _ _ c.loop-i.invariant r.room (omega (arith, c.loop-i-test.true)) _ refl _ c.entry_at-x.ensures (sym c.is_before.ensures ∙ c.if-not-is_before.false) _ _
    c.put_entry.ensures.times c.put_entry.ensures.nodes

pub returns : goal.returns
returns g c =
    let r = c.requires in
    let v = c.loop-i.invariant in
    record {
      within = v.within;
      held = rising_top _ _ _ _ _ v r.room (omega (arith, c.loop-i-test.false));
    }

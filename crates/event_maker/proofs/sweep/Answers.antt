-- `event_maker::sweep` meets its contract.
use mathlib.Core.Path.{◌≡◌, sym, subst}
use mathlib.Core.Bool.{true, false}
use Prim.Native.Nat.{ℕ, ◌+◌, ◌-◌}
use native.Mathlib.Omega.{arith}
use Rattle.event_maker.proofs.Sweeps.{sweep_start, sweep_on, sweep_bad, sweep_end}
use Rattle.event_maker.proofs.sweep.Goals as goal

pub returns-then-is_bad : goal.returns-then-is_bad
returns-then-is_bad g c = λ bad fallen b f. sweep_bad _ bad fallen 0 c.requires.n_nonzero (sym (b 0 true c.requires.n_nonzero c.if-is_bad.ensures))

pub loop-i-init : goal.loop-i-init
loop-i-init g c = record {
  inside = omega (arith, c.requires.n_nonzero);
  before = c.if-is_bad.ensures;
  swept = λ bad fallen b f. sweep_start _ bad fallen (sym (b 0 false c.requires.n_nonzero c.if-is_bad.ensures));
}

pub returns-then-is_bad-2 : goal.returns-then-is_bad-2
returns-then-is_bad-2 g c = λ bad fallen b f. sweep_bad _ bad fallen c.loop-i.i c.loop-i-test.true (sym (b c.loop-i.i true c.loop-i-test.true c.if-is_bad-2.ensures))

pub loop-i-preserved : goal.loop-i-preserved
loop-i-preserved g c =
    let i = c.loop-i.i in
    let e : i ≡ i + 1 - 1 = omega arith in
    record {
      inside = omega (arith, c.loop-i-test.true);
      before = subst (λ (k : ℕ). g.B.Fn.post c.args.is_bad (k, tt) false) e c.if-is_bad-2.ensures;
      swept = λ bad fallen b f.
          sweep_on _ bad fallen i c.loop-i.fell c.falls-fell.result c.loop-i.auto.i (c.loop-i.invariant.swept bad fallen b f) (sym (b i false c.loop-i-test.true c.if-is_bad-2.ensures))
          (f (i - 1) c.falls-fell.result (omega (arith, c.loop-i.auto.i, c.loop-i-test.true)) c.falls-fell.ensures);
    }

pub returns : goal.returns
returns g c = λ bad fallen b f. sweep_end _ bad fallen c.loop-i.i c.loop-i.fell (omega (arith, c.loop-i.invariant.inside, c.loop-i-test.false)) (c.loop-i.invariant.swept bad fallen b f)

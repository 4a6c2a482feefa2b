-- `grow_leg::ways_behind` meets its contract: each way to end is `ways_are` or `ways_by` of proofs/Choosing.antt.
use mathlib.Core.Path.{refl}
use mathlib.Core.Bool.{true, false}
use borrow.Author.Tests.{eq-eqb, ne_eqb}
use Rattle.grow_leg.proofs.Choosing.{next_within, alt_within, ways_are, ways_by}
use Rattle.grow_leg.proofs.ways_behind.Goals as goal

pub returns-then-link-eq0 : goal.returns-then-link-eq0
returns-then-link-eq0 c = let v = c.valid.ensures in
    ways_are v.is v.readable _ c.requires c.link_at-link.ensures true _ _ (eq-eqb _ 0 c.if-link-eq0.true) refl refl

pub leads_on-by_next-requires : goal.leads_on-by_next-requires
leads_on-by_next-requires c = let v = c.valid.ensures in
    next_within v.is v.readable _ c.requires c.link_at-link.ensures _ c.args.p.now.marked

pub leads_on-by_alt-requires : goal.leads_on-by_alt-requires
leads_on-by_alt-requires c = let v = c.valid.ensures in
    alt_within v.is v.readable _ c.requires c.link_at-link.ensures _ c.args.p.now.marked

pub returns-in-true-true : goal.returns-in-true-true
returns-in-true-true c =
    let v = c.valid.ensures in
    let w = c.in-true-true in
    ways_by v.is v.readable _ c.requires c.link_at-link.ensures c.args.p.now.options true true
    (ne_eqb _ 0 c.if-link-eq0.false) w.ensures w.ensures'

pub returns-in-true-false : goal.returns-in-true-false
returns-in-true-false c =
    let v = c.valid.ensures in
    let w = c.in-true-false in
    ways_by v.is v.readable _ c.requires c.link_at-link.ensures c.args.p.now.options true false
    (ne_eqb _ 0 c.if-link-eq0.false) w.ensures w.ensures'

pub returns-in-false-true : goal.returns-in-false-true
returns-in-false-true c =
    let v = c.valid.ensures in
    let w = c.in-false-true in
    ways_by v.is v.readable _ c.requires c.link_at-link.ensures c.args.p.now.options false true
    (ne_eqb _ 0 c.if-link-eq0.false) w.ensures w.ensures'

pub returns-in-false-false : goal.returns-in-false-false
returns-in-false-false c =
    let v = c.valid.ensures in
    let w = c.in-false-false in
    ways_by v.is v.readable _ c.requires c.link_at-link.ensures c.args.p.now.options false false
    (ne_eqb _ 0 c.if-link-eq0.false) w.ensures w.ensures'

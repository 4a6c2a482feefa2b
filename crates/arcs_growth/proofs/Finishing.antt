-- A finish keeps the invariant: the run's place, open, becomes an end, and its arc leads out with zeros. The run is
-- over.
use mathlib.Core.Path.{◌≡◌, refl, sym, ap, ◌∙◌, subst}
use mathlib.Core.Logic.{◌⊎◌, inl, inr}
use mathlib.Core.Bool.{Bool, true, false, not, ◌||◌}
use mathlib.Core.List.{List, ◌∷◌}
use Prim.Native.Nat.{ℕ, suc, ◌-◌, ◌<◌}
use native.Mathlib.Omega.{arith}
use borrow.Author.Tests.{eqb-true, eq-eqb, ne_eqb, not-false}
use lib.Dec.{eqb}
use lib.Ieee.{binary64, of_bits}
use Rattle.laws.proofs.Truth.{not_both, equal_or_not}
use Rattle.net_node.specs.Table.{at}
use Rattle.laws.specs.Below.{sum_below}
use Rattle.laws.proofs.Below.{none_left, none_right}
use Rattle.net_node.specs.declared.EstTime.{EstTime}
use Rattle.grow_rules.specs.Run.{Arc, Net, Run, arc_to_end, member_of}
use Rattle.grow_rules.specs.Growth.{bad_finish, finished_at}
use Rattle.laws.proofs.Members.{all_so}
use Rattle.arcs_growth.proofs.Sums.{sum_point, total, total_more}
use Rattle.arcs_growth.proofs.Labels.{base_role, Labels, Extends}
use Rattle.arcs_growth.proofs.Laid.{Laid}
use Rattle.arcs_growth.proofs.Weights.{arc_out, weigh, weigh_empty, weigh_ended, weigh_same}
use Rattle.arcs_growth.proofs.Graphs.{next_within}
use Rattle.arcs_growth.proofs.Bodies.{EndAt, self_base}
use Rattle.arcs_growth.proofs.Invariant.{Grows, Stands, Tip, Waits, Later, stands_more, owned_popped}
use Rattle.arcs_growth.proofs.Joining.{last_popped}

-- what the test of row 13 leaves
pub finish_tip : (net : Net) (run : Run) → 0 < net.nodes → bad_finish net run ≡ false → Tip net run
unfolding bad_finish
finish_tip net run h e =
    let last : ℕ = net.nodes - 1 in
    let x : Bool = not (eqb run.place.idx_prev last) in
    let y : Bool = not (eqb (at net.table last).idx_next 0) in
    let c = none_left (x || y) (member_of net.ends last) e in
    let q : run.place.idx_prev ≡ last = eqb-true run.place.idx_prev last
    (not-false (eqb run.place.idx_prev last) (none_left x y c)) in
    let z : (at net.table last).idx_next ≡ 0 = eqb-true (at net.table last).idx_next 0
    (not-false (eqb (at net.table last).idx_next 0) (none_right x y c)) in
    let o : member_of net.ends last ≡ false = none_right (x || y) (member_of net.ends last) e in
    record {
      last = ends q;
      empty = ap (λ (k : ℕ). (at net.table k).idx_next) q ∙ z;
      no_end = ap (member_of net.ends) q ∙ o;
    }
  where
    ends : run.place.idx_prev ≡ net.nodes - 1 → suc run.place.idx_prev ≡ net.nodes
    ends q = omega arith

pub record Finishes (L : Labels) (places : ℕ) (net : Net) (saved : List Run) (more : Net) : Type 0 where
  pub later : Later L L net more
  pub grows : Grows L places more
  pub waits : Waits L more saved

module _ {L : Labels} {places : ℕ} {net : Net} {run : Run} {saved : List Run} (g : Grows L places net)
    (u : Waits L net (run ∷ saved)) (tip : Tip net run) where
  abbrev p : ℕ
  p = run.place.idx_prev

  abbrev n : ℕ
  n = net.nodes

  abbrev node : ℕ → EstTime
  node = at net.table

  s : Stands L net run
  s = u.stand.0

  v : Laid L node n
  v = g.body.graph.laid

  base : base_role (L.role p) ≡ true
  base = self_base (L.role p) s.self

  x : Extends L L n
  x = record { role = λ i h. refl; owner = λ i h. refl; goal = λ i h. refl; depth = λ i h. refl }

  -- p is an end now, and no other
  here : member_of (p ∷ net.ends) p ≡ true
  here = ap (λ (b : Bool). b || member_of net.ends p) (eq-eqb p p refl)

  beside : (i : ℕ) → (i ≡ p → ⊥) → member_of (p ∷ net.ends) i ≡ member_of net.ends i
  beside i d = ap (λ (b : Bool). b || member_of net.ends i) (ne_eqb p i (λ (q : p ≡ i). d (sym q)))

  arc_is : arc_to_end run.place ≡ arc_out L p
  unfolding arc_to_end arc_out
  arc_is = λ z. record {
    from = sym ((v.each p s.within).own s.self) z;
    to = 0;
    time = of_bits binary64 0;
    distance = of_bits binary64 0;
  }

  noted : (w : Arc → ℕ) → total w (arc_to_end run.place ∷ net.noted) ≡ sum_below n (weigh L node (p ∷ net.ends) w)
  noted w =
      let a = weigh_empty L node net.ends w p base tip.empty tip.no_end in
      let c = weigh_ended L node (p ∷ net.ends) w p base tip.empty here in
      let d = sum_point n (weigh L node net.ends w) (weigh L node (p ∷ net.ends) w) p (w (arc_out L p)) s.within
      (λ i h q. weigh_same node node x net.ends (p ∷ net.ends) w i h refl refl refl (next_within v i h)
      (beside i q)) (omega arith) in
      let f = g.body.graph.noted w in
      let k : w (arc_to_end run.place) ≡ w (arc_out L p) = ap w arc_is in
      let j = total_more w (arc_to_end run.place) net.noted in
      omega arith

  pub finish_keeps : Finishes L places net saved (finished_at net run)
  unfolding finished_at
  finish_keeps = record {
    later = later;
    grows = record {
      body = record {
        room = g.body.room;
        indexed = g.body.indexed;
        graph = record { laid = v; bases = g.body.graph.bases; noted = noted };
        no_stops = g.body.no_stops;
        chains = g.body.chains;
        ended = λ i o. ended i o (equal_or_not i p);
        bottom = g.body.bottom;
      };
      within = g.within;
      count = let k = g.count in omega arith;
      ended = let k = g.ended in omega arith;
      distinct = (tip.no_end, g.distinct);
    };
    waits = record {
      owned = λ i h b z o. owned_popped L run saved (u.owned i h b z (none_right (eqb p i) (member_of net.ends i) o))
          (λ (q : i ≡ p). not_both (ap (member_of (p ∷ net.ends)) q ∙ here) o);
      stand = all_so (Stands L net) (Stands L more) (stands_more later) saved u.stand.1;
      last = last_popped more saved u.last.1;
    };
  }
    where
      more : Net
      more = finished_at net run

      later : Later L L net more
      later = record {
        labels = x;
        nodes = omega arith;
        ends = λ i o. none_right (eqb p i) (member_of net.ends i) o;
        still = λ i h z. (z, (refl, refl));
      }

      ended : (i : ℕ) → member_of (p ∷ net.ends) i ≡ true → (i ≡ p) ⊎ (i ≡ p → ⊥) → EndAt L node n i
      ended i o (inl q) = subst (EndAt L node n) (sym q)
          (record { within = s.within; empty = tip.empty; self = s.self })
      ended i o (inr d) = g.body.ended i (sym (beside i d) ∙ o)

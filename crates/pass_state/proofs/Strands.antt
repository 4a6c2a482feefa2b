-- The loop along a strand, of either pass: a step, and on unless the walk stops there. Each step has one node done, so the fuel is enough.
use mathlib.Core.Path.{◌≡◌, refl, sym, ap, ◌∙◌}
use mathlib.Core.Bool.{Bool, true, false}
use mathlib.Core.List.{List}
use Prim.Native.Nat.{ℕ, zero, suc, ◌-◌, ◌≤◌, ◌<◌}
use native.Mathlib.Nat.{not-suc-le-zero, le_trans}
use native.Mathlib.Omega.{arith}
use lib.ListN.{length}
use Rattle.std.specs.Prelude.{Some, None}
use Rattle.net_node.specs.declared.EstTime.{EstTime}
use Rattle.net_node.specs.Table.{node_at, at}
use Rattle.laws.specs.Answer.{Answer, refused, given, and_then}
use Rattle.pass_rules.specs.Net.{Pass}
use Rattle.pass_rules.specs.Walks.{done_in}
use Rattle.pass_state.specs.declared.Stand.{Stand}
use Rattle.pass_state.specs.Held.{PassSlices, left, PassIn, Standing, Gives, StandsAs}
use Rattle.pass_state.specs.Promises.{stops_by}
use Rattle.pass_state.proofs.Kept.{works, node_in}

-- the slices have kept their lengths
pub record SameLengths (held₀ : PassSlices) (held : PassSlices) : Type 0 where
  pub floats : length held.floats ≡ length held₀.floats
  pub numbers : length held.numbers ≡ length held₀.numbers
  pub flags : length held.flags ≡ length held₀.flags
  pub times : length held.times ≡ length held₀.times
  pub nodes : length held.nodes ≡ length held₀.nodes

-- a strand of either pass: on unless it stops
pub record Walker : Type 1 where
  pub A : Type 0
  pub form : ℕ → ℕ → Pass → A
  pub step : A → Answer A
  pub stops : A → Bool
  pub stop_if : Bool → A → (A → Answer A) → Answer A
  pub stopped : (a : A) (f : A → Answer A) → stop_if true a f ≡ given a
  pub on : (a : A) (f : A → Answer A) → stop_if false a f ≡ f a
  pub strand : ℕ → A → Answer A
  pub none : (a : A) → strand 0 a ≡ refused 15
  pub more : (k : ℕ) (a : A) → strand (suc k) a ≡ and_then (step a) (λ (b : A). stop_if (stops b) b (strand k))

module _ (w : Walker) (k : ℕ) (a : w.A) where
  after_step : (x : Answer w.A) → w.step a ≡ x → w.strand (suc k) a ≡ and_then x (λ (b : w.A). w.stop_if (w.stops b) b (w.strand k))
  after_step x e = w.more k a ∙ ap (λ (y : Answer w.A). and_then y (λ (b : w.A). w.stop_if (w.stops b) b (w.strand k))) e

  after_stop : (b : w.A) (t : Bool) → w.step a ≡ given b → w.stops b ≡ t → w.strand (suc k) a ≡ w.stop_if t b (w.strand k)
  after_stop b t e h = after_step (given b) e ∙ ap (λ (x : Bool). w.stop_if x b (w.strand k)) h

-- whether a walk stops before a node
pub stops_in : (alt : EstTime → ℕ) {backward : Bool} {n : ℕ} {held : PassSlices} {count most : ℕ} {begun : List ℕ} {p : Pass}
    → PassIn begun backward n held count most p → (k : ℕ) (t : Bool) → t ≡ stops_by alt (node_at held.floats held.numbers k) → t ≡ stops_by alt (at p.table k)
stops_in alt {backward} {n} {held} v k t e = e ∙ ap (stops_by alt) (node_in v k (node_at held.floats held.numbers k) refl)

-- what is sought is what the strand of what is left gives
pub record Reached (begun : List ℕ) (w : Walker) (goal : Answer w.A) (backward : Bool) (n : ℕ) (held : PassSlices) (count most bound here ahead : ℕ) : Type 0 where
  pub pass : Pass
  pub fuel : ℕ
  pub is : goal ≡ w.strand fuel (w.form here ahead pass)
  pub holds : PassIn begun backward n held count most pass
  pub enough : left pass.done n ≤ fuel
  pub fewer : left pass.done n ≤ bound

-- where the loop stands
pub record Stranding (w : Walker) (backward : Bool) (n : ℕ) (held₀ : PassSlices) (first : Stand) (held : PassSlices) (at : Stand) : Type 0 where
  pub lengths : SameLengths held₀ held
  pub stands : Standing backward n held at
  pub sought : (p : Pass) (begun : List ℕ) → PassIn begun backward n held₀ first.count (n - 2) p
      → Reached begun w (w.strand n (w.form first.curr first.ahead p)) backward n held at.count (n - 2) (left p.done n) at.curr at.ahead

pub lengths_same : (held : PassSlices) → SameLengths held held
lengths_same held = record { floats = refl; numbers = refl; flags = refl; times = refl; nodes = refl }

module _ (w : Walker) {backward : Bool} {n : ℕ} {held₀ : PassSlices} {first : Stand} {held : PassSlices} {at : Stand} (s : Stranding w backward n held₀ first held at)
    {after : PassSlices} where
  -- a step fails
  pub strand_falls : ((p : Pass) (begun : List ℕ) → PassIn begun backward n held at.count (n - 2) p → StandsAs begun (w.step (w.form at.curr at.ahead p)) w.form backward n after (n - 2) (left p.done n) None)
      → (p : Pass) (begun : List ℕ) → PassIn begun backward n held₀ first.count (n - 2) p → StandsAs begun (w.strand n (w.form first.curr first.ahead p)) w.form backward n after (n - 2) (left p.done n) None
  strand_falls e p begun v =
      let k = s.sought p begun v in
      record { told = k.is ∙ go k.fuel (w.form at.curr at.ahead k.pass) (e k.pass begun k.holds).told }
    where
      go : (f : ℕ) (a : w.A) → w.step a ≡ refused 15 → w.strand f a ≡ refused 15
      go zero a h = w.none a
      go (suc f) a h = after_step w f a (refused 15) h

  module _ (to : Stand) (given_by : (p : Pass) (begun : List ℕ) → PassIn begun backward n held at.count (n - 2) p → StandsAs begun (w.step (w.form at.curr at.ahead p)) w.form backward n after (n - 2) (left p.done n) (Some to)) where
    pub strand_stands : Standing backward n after to
    strand_stands =
        let g = (given_by s.stands.working.pass s.stands.working.begun s.stands.working.holds).told in
        record { working = works g.0.holds; curr = g.1.0; ahead = g.1.1 }

    -- one fewer is left
    pub strand_less : left (done_in after.flags) n < left (done_in held.flags) n
    strand_less =
        let g = (given_by s.stands.working.pass s.stands.working.begun s.stands.working.holds).told.0 in
        let x : left g.pass.done n ≡ left (done_in after.flags) n = ap (λ (f : ℕ → Bool). left f n) g.holds.done in
        let y : left s.stands.working.pass.done n ≡ left (done_in held.flags) n = ap (λ (f : ℕ → Bool). left f n) s.stands.working.holds.done in
        omega (arith, g.fewer)

    module _ (t : Bool) (stop : (p : Pass) (begun : List ℕ) → PassIn begun backward n after to.count (n - 2) p → t ≡ w.stops (w.form to.curr to.ahead p)) where
      -- the walk stops
      pub strand_ends : t ≡ true → (p : Pass) (begun : List ℕ) → PassIn begun backward n held₀ first.count (n - 2) p
          → StandsAs begun (w.strand n (w.form first.curr first.ahead p)) w.form backward n after (n - 2) (left p.done n) (Some to)
      strand_ends h p begun v =
          let m = s.sought p begun v in
          let g = (given_by m.pass begun m.holds).told in
          record { told = (record { pass = g.0.pass; is = m.is ∙ go m.fuel m.enough g.0.pass g.0.is g.0.fewer (sym (stop g.0.pass begun g.0.holds) ∙ h); holds = g.0.holds; fewer = omega (arith, g.0.fewer, m.fewer) }, g.1) }
        where
          go : {p : Pass} (f : ℕ) → left p.done n ≤ f → (b : Pass) → w.step (w.form at.curr at.ahead p) ≡ given (w.form to.curr to.ahead b) → left b.done n < left p.done n → w.stops (w.form to.curr to.ahead b) ≡ true
              → w.strand f (w.form at.curr at.ahead p) ≡ given (w.form to.curr to.ahead b)
          go zero l b d z u = absurd (not-suc-le-zero (le_trans z l))
          go {p} (suc f) l b d z u = after_stop w f (w.form at.curr at.ahead p) (w.form to.curr to.ahead b) true d u ∙ w.stopped (w.form to.curr to.ahead b) (w.strand f)

      -- the walk goes on
      pub strand_goes : t ≡ false → SameLengths held after → Stranding w backward n held₀ first after to
      strand_goes h l = record {
        lengths = record {
          floats = l.floats ∙ s.lengths.floats;
          numbers = l.numbers ∙ s.lengths.numbers;
          flags = l.flags ∙ s.lengths.flags;
          times = l.times ∙ s.lengths.times;
          nodes = l.nodes ∙ s.lengths.nodes;
        };
        stands = strand_stands;
        sought = λ p begun v. on p begun (s.sought p begun v);
      }
        where
          further : {begun : List ℕ} {goal : Answer w.A} {p : Pass} {bound : ℕ} (f : ℕ) → goal ≡ w.strand f (w.form at.curr at.ahead p) → left p.done n ≤ f → left p.done n ≤ bound
              → Gives begun (w.step (w.form at.curr at.ahead p)) (w.form to.curr to.ahead) backward n after to.count (n - 2) (left p.done n) → Reached begun w goal backward n after to.count (n - 2) bound to.curr to.ahead
          further zero is l m g = absurd (not-suc-le-zero (le_trans g.fewer l))
          further {begun} {goal} {p} (suc f) is l m g =
              record {
                pass = g.pass;
                fuel = f;
                is = is ∙ after_stop w f (w.form at.curr at.ahead p) (w.form to.curr to.ahead g.pass) false g.is (sym (stop g.pass begun g.holds) ∙ h) ∙ w.on (w.form to.curr to.ahead g.pass) (w.strand f);
                holds = g.holds;
                enough = omega (arith, g.fewer);
                fewer = omega (arith, g.fewer);
              }

          on : (p : Pass) (begun : List ℕ) → Reached begun w (w.strand n (w.form first.curr first.ahead p)) backward n held at.count (n - 2) (left p.done n) at.curr at.ahead
              → Reached begun w (w.strand n (w.form first.curr first.ahead p)) backward n after to.count (n - 2) (left p.done n) to.curr to.ahead
          on p begun m = further m.fuel m.is m.enough m.fewer (given_by m.pass begun m.holds).told.0

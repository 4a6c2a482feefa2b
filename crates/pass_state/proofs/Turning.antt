-- The loop over the queue, of either pass: an entry is taken out, and its turn has a node done at least, so the fuel is enough.
use mathlib.Core.Path.{◌≡◌, sym, ap, ◌∙◌}
use mathlib.Core.Bool.{Bool}
use mathlib.Core.List.{List, [], ◌∷◌}
use Prim.Native.Nat.{ℕ, zero, suc, ◌-◌, ◌≤◌, ◌<◌}
use native.Mathlib.Nat.{not-suc-le-zero, le_trans}
use native.Mathlib.Omega.{arith}
use lib.ListN.{length}
use lib.Ieee.{Float}
use Rattle.std.specs.Prelude.{Some, None}
use Rattle.pass_queue.specs.declared.Entry.{Entry}
use Rattle.pass_queue.specs.Queue.{best, others, Holds}
use Rattle.laws.specs.Answer.{Answer, refused, given, and_then}
use Rattle.pass_rules.specs.Net.{Pass}
use Rattle.pass_rules.specs.Walks.{done_in}
use Rattle.pass_state.specs.Held.{PassSlices, table_in, slices, left, PassIn, Working, Gives, PassAs, Ends}
use Rattle.pass_state.proofs.Kept.{queueing, works, Popped, in_pop, none_queued}
use Rattle.pass_state.proofs.Strands.{SameLengths, lengths_same}

-- the turns of either pass
pub record Turner : Type 0 where
  pub backward : Bool
  pub turn : Pass → Entry → Answer Pass
  pub turns : ℕ → Pass → Answer Pass
  pub ended : (k : ℕ) (p : Pass) → p.queue ≡ [] → turns (suc k) p ≡ given p
  pub more : (k : ℕ) (p : Pass) (x : Entry) (xs : List Entry) → p.queue ≡ x ∷ xs → turns (suc k) p ≡ and_then (turn (queueing p (others backward x xs)) (best backward x xs)) (turns k)

after_turn : (w : Turner) (k : ℕ) (p : Pass) (x : Entry) (xs : List Entry) → p.queue ≡ x ∷ xs → (a : Answer Pass) → w.turn (queueing p (others w.backward x xs)) (best w.backward x xs) ≡ a → w.turns (suc k) p ≡ and_then a (w.turns k)
after_turn w k p x xs q a e = w.more k p x xs q ∙ ap (λ (b : Answer Pass). and_then b (w.turns k)) e

-- what is sought is what the turns left give
pub record Taken (begun : List ℕ) (w : Turner) (goal : Answer Pass) (n : ℕ) (held : PassSlices) (count : ℕ) : Type 0 where
  pub pass : Pass
  pub fuel : ℕ
  pub is : goal ≡ w.turns (suc fuel) pass
  pub holds : PassIn begun w.backward n held count (n - 1) pass
  pub enough : left pass.done n ≤ fuel

-- where the loop stands
pub record Turning (w : Turner) (n : ℕ) (held₀ : PassSlices) (count₀ : ℕ) (held : PassSlices) (count : ℕ) : Type 0 where
  pub lengths : SameLengths held₀ held
  pub working : Working w.backward n held count (n - 1)
  pub sought : (p : Pass) (begun : List ℕ) → PassIn begun w.backward n held₀ count₀ (n - 1) p → Taken begun w (w.turns n p) n held count

pub turning_start : (w : Turner) {n : ℕ} {held : PassSlices} {count : ℕ} → 0 < n → Working w.backward n held count (n - 1)
    → Turning w n held count held count
turning_start w {n} {held} h o = record {
  lengths = lengths_same held;
  working = o;
  sought = λ p begun v. record { pass = p; fuel = n - 1; is = let e : n ≡ suc (n - 1) = omega arith in ap (λ (k : ℕ). w.turns k p) e; holds = v; enough = omega (arith, v.few) };
}

module _ (w : Turner) {n : ℕ} {held₀ : PassSlices} {count₀ : ℕ} {held : PassSlices} {count : ℕ}
    (s : Turning w n held₀ count₀ held count) where
  -- no entry is left
  pub turning_ends : count ≤ 0 → (p : Pass) (begun : List ℕ) → PassIn begun w.backward n held₀ count₀ (n - 1) p → Ends begun (w.turns n p) n (table_in held) held.flags
  turning_ends h p begun v =
      let m = s.sought p begun v in
      let q = m.holds in
      record { pass = m.pass; is = m.is ∙ w.ended m.fuel m.pass (none_queued q (omega arith)); table = q.table; done = q.done; behind = q.behind; linked = q.linked }

  module _ (h : 0 < count) (e : Entry) {ts' : List Float} {ns' : List ℕ}
      (o : (x : Entry) (es : List Entry) → Holds w.backward held.times held.nodes count (x ∷ es) → (e ≡ best w.backward x es) × Holds w.backward ts' ns' (count - 1) (others w.backward x es))
      (lt : length held.times ≡ length ts') (ln : length held.nodes ≡ length ns') where
    taken_out : {begun : List ℕ} {p : Pass} (v : PassIn begun w.backward n held count (n - 1) p) → Popped v e ts' ns' (n - 2)
    taken_out v = in_pop v h e ts' ns' o lt ln (n - 2) (omega arith)

    pub turning_works : Working w.backward n (slices held.floats held.numbers held.flags ts' ns') (count - 1) (n - 2)
    turning_works = works (taken_out s.working.holds).holds

    pub turning_within : e.node < n
    turning_within = (taken_out s.working.holds).within

    module _ {after : PassSlices} where
      -- a turn fails
      pub turning_falls : ((p : Pass) (begun : List ℕ) → PassIn begun w.backward n (slices held.floats held.numbers held.flags ts' ns') (count - 1) (n - 2) p → PassAs begun (w.turn p e) w.backward n after (n - 1) (left p.done n) None)
          → (p : Pass) (begun : List ℕ) → PassIn begun w.backward n held₀ count₀ (n - 1) p → w.turns n p ≡ refused 15
      turning_falls a p begun v =
          let m = s.sought p begun v in
          let t = taken_out m.holds in
          let k = queueing m.pass (others w.backward t.first t.rest) in
          m.is ∙ after_turn w m.fuel m.pass t.first t.rest t.list (refused 15) (ap (w.turn k) (sym t.taken) ∙ (a k begun t.holds).told)

      module _ (more : ℕ) (given_by : (p : Pass) (begun : List ℕ) → PassIn begun w.backward n (slices held.floats held.numbers held.flags ts' ns') (count - 1) (n - 2) p → PassAs begun (w.turn p e) w.backward n after (n - 1) (left p.done n) (Some more)) where
        -- one fewer is left
        pub turning_less : left (done_in after.flags) n < left (done_in held.flags) n
        turning_less =
            let v = (taken_out s.working.holds).holds in
            let g = (given_by (queueing s.working.pass (others w.backward (taken_out s.working.holds).first (taken_out s.working.holds).rest)) s.working.begun v).told in
            let x : left g.pass.done n ≡ left (done_in after.flags) n = ap (λ (f : ℕ → Bool). left f n) g.holds.done in
            let y : left s.working.pass.done n ≡ left (done_in held.flags) n = ap (λ (f : ℕ → Bool). left f n) s.working.holds.done in
            omega (arith, g.fewer)

        -- the turn is over
        pub turning_goes : SameLengths held after → Turning w n held₀ count₀ after more
        turning_goes l =
            let v = taken_out s.working.holds in
            let g = (given_by (queueing s.working.pass (others w.backward v.first v.rest)) s.working.begun v.holds).told in
            record {
              lengths = record {
                floats = l.floats ∙ s.lengths.floats;
                numbers = l.numbers ∙ s.lengths.numbers;
                flags = l.flags ∙ s.lengths.flags;
                times = l.times ∙ s.lengths.times;
                nodes = l.nodes ∙ s.lengths.nodes;
              };
              working = works g.holds;
              sought = λ p begun x. on p begun (s.sought p begun x);
            }
          where
            further : {begun : List ℕ} {goal : Answer Pass} (p : Pass) (x : Entry) (xs : List Entry) (f : ℕ) → goal ≡ w.turns (suc f) p → left p.done n ≤ f → p.queue ≡ x ∷ xs → e ≡ best w.backward x xs
                → Gives begun (w.turn (queueing p (others w.backward x xs)) e) (λ p. p) w.backward n after more (n - 1) (left p.done n) → Taken begun w goal n after more
            further p x xs zero is l c b g = absurd (not-suc-le-zero (le_trans g.fewer l))
            further p x xs (suc f) is l c b g = record {
              pass = g.pass;
              fuel = f;
              is = is ∙ after_turn w (suc f) p x xs c (given g.pass) (ap (w.turn (queueing p (others w.backward x xs))) (sym b) ∙ g.is);
              holds = g.holds;
              enough = omega (arith, g.fewer);
            }

            on : (p : Pass) (begun : List ℕ) → Taken begun w (w.turns n p) n held count → Taken begun w (w.turns n p) n after more
            on p begun m =
                let t = taken_out m.holds in
                further m.pass t.first t.rest m.fuel m.is m.enough t.list t.taken (given_by (queueing m.pass (others w.backward t.first t.rest)) begun t.holds).told

-- The relink at the start of a turn, of either pass.
use mathlib.Core.Path.{◌≡◌, sym, ap, ◌∙◌, subst}
use mathlib.Core.Logic.{◌≢◌}
use mathlib.Core.Bool.{Bool, true, false, not}
use mathlib.Core.List.{List}
use Prim.Native.Nat.{ℕ, ◌+◌, ◌<◌}
use native.Mathlib.Omega.{arith}
use borrow.Author.Tests.{eq-eqb, ne_eqb}
use lib.Dec.{eqb}
use lib.Ieee.{Float}
use Rattle.std.specs.Prelude.{Some}
use Rattle.net_node.specs.declared.EstTime.{EstTime}
use Rattle.net_node.specs.Table.{node_at, Table, at}
use Rattle.laws.specs.Answer.{Answer, refused, given, and_then}
use Rattle.pass_rules.specs.Net.{asserting, Pass}
use Rattle.pass_rules.specs.Walks.{Linked, done_in, pass_of}
use Rattle.pass_state.specs.Held.{PassSlices, slices, table_in, left, PassIn, FindsBy}
use Rattle.pass_state.proofs.Links.{Names, names_in}
use Rattle.pass_state.proofs.Kept.{tabled, node_in, done_in_lem, linked_in, in_table}

-- over n nodes: which neighbour is followed, the walk from it, which looks at no queue, and what is linked anew where it ends elsewhere
pub record Relinker (n : ℕ) : Type 1 where
  pub A : Type 0
  pub form : ℕ → ℕ → Pass → A
  pub link : EstTime → ℕ
  pub inside : {x : EstTime} → Names x n → link x < n
  pub walk : Pass → ℕ → Answer ℕ
  pub same : (p : Pass) (i : ℕ) → walk p i ≡ walk (pass_of p.table p.done) i
  pub swap : Table → ℕ → ℕ → ℕ → Table
  pub linked : (t : Table) → Linked t n → (curr save found : ℕ) → curr < n → save < n → found < n → Linked (swap t curr save found) n
  pub relinked : Pass → ℕ → ℕ → ℕ → A
  pub kept : (p : Pass) (curr save found : ℕ) → eqb save found ≡ true → relinked p curr save found ≡ form curr found p
  pub swapped : (p : Pass) (curr save found : ℕ) → eqb save found ≡ false → relinked p curr save found ≡ form curr found (tabled p (swap p.table curr save found))

module _ {n : ℕ} (w : Relinker n) (p : Pass) (curr : ℕ) where
  -- what is found, by the neighbour, both assertions and the walk
  abbrev pub sought_by : ℕ → Bool → Bool → Answer ℕ → Answer w.A
  sought_by next a b found = asserting a (asserting (not b) (and_then found (λ (k : ℕ). given (w.relinked p curr next k))))

  abbrev pub relink_by : Answer w.A
  relink_by = let next = w.link (at p.table curr) in sought_by next (p.done curr) (p.done next) (w.walk p next)

module _ {n : ℕ} (w : Relinker n) {backward : Bool} {held : PassSlices} {count most : ℕ} {begun : List ℕ} {p : Pass}
    (v : PassIn begun backward n held count most p) (curr : ℕ) (x : EstTime) (l : x ≡ node_at held.floats held.numbers curr) (next : ℕ) (m : next ≡ w.link x) (d : Bool) (e : d ≡ done_in held.flags curr) where
  relink_by_lem : relink_by w p curr ≡ sought_by w p curr next d (p.done next) (w.walk p next)
  relink_by_lem =
      ap (λ (k : ℕ). sought_by w p curr k (p.done curr) (p.done k) (w.walk p k)) (ap w.link (sym (node_in v curr x l)) ∙ sym m)
      ∙ ap (λ (z : Bool). sought_by w p curr next z (p.done next) (w.walk p next)) (done_in_lem v curr d e)

  -- the node is not done
  pub relink_undone : d ≡ false → relink_by w p curr ≡ refused 15
  relink_undone t = relink_by_lem ∙ ap (λ (z : Bool). sought_by w p curr next z (p.done next) (w.walk p next)) t

  module _ (t : d ≡ true) (b : Bool) (f : b ≡ done_in held.flags next) where
    relink_next : (c : Bool) → b ≡ c → relink_by w p curr ≡ sought_by w p curr next true c (w.walk p next)
    relink_next c o =
        relink_by_lem ∙ ap (λ (z : Bool). sought_by w p curr next z (p.done next) (w.walk p next)) t ∙ ap (λ (z : Bool). sought_by w p curr next true z (w.walk p next)) (done_in_lem v next b f ∙ o)

    -- the neighbour is
    pub relink_done : b ≡ true → relink_by w p curr ≡ refused 15
    relink_done o = relink_next true o

    module _ (o : b ≡ false) where
      walked : w.walk p next ≡ w.walk (pass_of (table_in held) (done_in held.flags)) next
      walked = w.same p next ∙ ap (λ (s : Table). w.walk (pass_of s p.done) next) v.table ∙ ap (λ (h : ℕ → Bool). w.walk (pass_of (table_in held) h) next) v.done

      relink_walk_lem : (a : Answer ℕ) → w.walk (pass_of (table_in held) (done_in held.flags)) next ≡ a → relink_by w p curr ≡ sought_by w p curr next true false a
      relink_walk_lem a q = relink_next false o ∙ ap (sought_by w p curr next true false) (walked ∙ q)

      -- the walk doesn't end
      pub relink_endless : w.walk (pass_of (table_in held) (done_in held.flags)) next ≡ refused 15 → relink_by w p curr ≡ refused 15
      relink_endless = relink_walk_lem (refused 15)

      module _ (found : ℕ) (q : (w.walk (pass_of (table_in held) (done_in held.flags)) next ≡ given found) × (found < n)) where
        -- the neighbour itself is found
        pub relink-same : next ≡ found → FindsBy begun (relink_by w p curr) (w.form curr) backward n held count most (left p.done n + 1) (Some found)
        relink-same s = (record { pass = p; is = relink_walk_lem (given found) q.0 ∙ ap given (w.kept p curr next found (eq-eqb next found s)); holds = v; fewer = omega arith }, q.1)

        -- another is, and both are linked
        pub relink-swapped : next ≢ found → curr < n → {gs : List Float} {vs : List ℕ} → (gs ≡ (w.swap (table_in held) curr next found).floats) × (vs ≡ (w.swap (table_in held) curr next found).numbers)
            → FindsBy begun (relink_by w p curr) (w.form curr) backward n (slices gs vs held.flags held.times held.nodes) count most (left p.done n + 1) (Some found)
        relink-swapped s h {gs} {vs} c =
            let t = w.swap p.table curr next found in
            let fg = c.0 ∙ ap (λ (y : Table). (w.swap y curr next found).floats) (sym v.table) in
            let uv = c.1 ∙ ap (λ (y : Table). (w.swap y curr next found).numbers) (sym v.table) in
            let i : next < n = subst (λ (k : ℕ). k < n) (sym m) (w.inside (names_in held.floats held.numbers v.linked.inside curr h x l)) in
            let k : Linked t n = w.linked p.table (linked_in v) curr next found h i q.1 in (
              record { pass = tabled p t; is = relink_walk_lem (given found) q.0 ∙ ap given (w.swapped p curr next found (ne_eqb next found s)); holds = in_table v t gs vs fg uv k; fewer = omega arith },
              q.1,
            )

-- The invariant of growth, in two halves: the network (Grows) and the runs (Waits). An open event that is no end is the
-- running run's place, or lies as deep as an origin's Clear and is the place of a run that waits; and it holds its
-- run's own numbers.
-- A run that has added stands on the last node, open and no end. The runs are the running one and those that wait, the
-- last saved first.
use mathlib.Core.Path.{◌≡◌, sym, ap, ◌∙◌}
use mathlib.Core.Logic.{◌⊎◌, inl, inr}
use mathlib.Core.Bool.{true, false}
use mathlib.Core.List.{List, [], ◌∷◌}
use Prim.Native.Nat.{ℕ, suc, ◌+◌, ◌<◌, ◌≤◌}
use native.Mathlib.Omega.{arith}
use lib.ListN.{length}
use Rattle.net_node.specs.Table.{at}
use Rattle.net_join_paths.specs.declared.EstJoinPath.{EstJoinPath}
use Rattle.grow_rules.specs.Run.{Net, Run, member_of}
use Rattle.laws.proofs.Members.{All, Some, all_so}
use Rattle.arcs_growth.proofs.Labels.{base_role, itself, Labels, Extends}
use Rattle.arcs_growth.proofs.Bodies.{Body}

abbrev pub Distinct : List ℕ → Type 0
Distinct [] = Unit
Distinct (x ∷ xs) = (member_of xs x ≡ false) × Distinct xs

-- the network
pub record Grows (L : Labels) (places : ℕ) (net : Net) : Type 0 where
  pub body : Body L places net.table net.nodes net.ends net.noted (1 + net.added + net.splits)
  pub within : net.nodes ≤ places
  pub count : length net.noted ≡ net.added + net.joined + length net.ends
  pub ended : length net.runs ≡ net.joined + length net.ends
  pub distinct : Distinct net.ends

abbrev pub Listed : ℕ → List EstJoinPath → Type 0
Listed n es = All (λ (x : EstJoinPath). x.est_idx_next < n) es

-- a run's place, and the numbers that an open one holds
pub record Stands (L : Labels) (net : Net) (run : Run) : Type 0 where
  pub within : run.place.idx_prev < net.nodes
  pub self : itself (L.role run.place.idx_prev) ≡ true
  pub holds : (at net.table run.place.idx_prev).idx_next ≡ 0 → member_of net.ends run.place.idx_prev ≡ false
      → ((at net.table run.place.idx_prev).time_to_next ≡ run.place.time_to_next)
      × ((at net.table run.place.idx_prev).dist_to_next ≡ run.place.dist_to_next)
  pub listed : Listed net.nodes run.joins

-- whose an open node is
abbrev pub Owned : Labels → ℕ → List Run → Type 0
Owned L i [] = ⊥
Owned L i (r ∷ rs) = (i ≡ r.place.idx_prev) ⊎ ((L.depth i ≡ 2) × Some (λ (s : Run). i ≡ s.place.idx_prev) rs)

-- the last node, open and no end
pub record Tip (net : Net) (run : Run) : Type 0 where
  pub last : suc run.place.idx_prev ≡ net.nodes
  pub empty : (at net.table run.place.idx_prev).idx_next ≡ 0
  pub no_end : member_of net.ends run.place.idx_prev ≡ false

abbrev pub Last : Net → List Run → Type 0
Last net [] = Unit
Last net (r ∷ rs) = (r.has_split ≡ true → Tip net r) × All (λ (s : Run). s.has_split ≡ false) rs

-- the runs
pub record Waits (L : Labels) (net : Net) (runs : List Run) : Type 0 where
  pub owned : (i : ℕ) → i < net.nodes → base_role (L.role i) ≡ true → (at net.table i).idx_next ≡ 0
      → member_of net.ends i ≡ false → Owned L i runs
  pub stand : All (Stands L net) runs
  pub last : Last net runs

-- ---- more nodes

-- what is true of net stays true of more: nodes are not fewer, and an open one was open and holds what it held
pub record Later (L M : Labels) (net more : Net) : Type 0 where
  pub labels : Extends L M net.nodes
  pub nodes : net.nodes ≤ more.nodes
  pub ends : (i : ℕ) → member_of more.ends i ≡ false → member_of net.ends i ≡ false
  pub still : (i : ℕ) → i < net.nodes → (at more.table i).idx_next ≡ 0
      → ((at net.table i).idx_next ≡ 0) × (((at more.table i).time_to_next ≡ (at net.table i).time_to_next)
      × ((at more.table i).dist_to_next ≡ (at net.table i).dist_to_next))

pub listed_more : (n m : ℕ) → n ≤ m → (es : List EstJoinPath) → Listed n es → Listed m es
listed_more n m h = all_so (λ (x : EstJoinPath). x.est_idx_next < n) (λ (x : EstJoinPath). x.est_idx_next < m)
    (λ x l. omega arith)

pub stands_more : {L M : Labels} {net more : Net} → Later L M net more → (run : Run) → Stands L net run
    → Stands M more run
stands_more {L} {M} {net} {more} f run s =
    let p = run.place.idx_prev in
    let w = s.within in
    let n = f.nodes in
    record {
      within = omega arith;
      self = ap itself (f.labels.role p w) ∙ s.self;
      holds = λ e o. let c = f.still p w e in let d = s.holds c.0 (f.ends p o) in (c.1.0 ∙ d.0, c.1.1 ∙ d.1);
      listed = listed_more net.nodes more.nodes n run.joins s.listed;
    }

-- an open node that is not the running run's belongs to one that waits, also with more labels
pub owned_by_waiting : {L M : Labels} {n i : ℕ} → Extends L M n → i < n → (r q : Run) (saved : List Run)
    → Owned L i (r ∷ saved) → (i ≡ r.place.idx_prev → ⊥) → Owned M i (q ∷ saved)
owned_by_waiting x h r q saved (inl e) d = absurd (d e)
owned_by_waiting {i = i} x h r q saved (inr s) d = inr (x.depth i h ∙ s.0, s.1)

-- the running run is over: its place is open no more
pub owned_popped : (L : Labels) {i : ℕ} (r : Run) (saved : List Run) → Owned L i (r ∷ saved)
    → (i ≡ r.place.idx_prev → ⊥) → Owned L i saved
owned_popped L r saved (inl e) d = absurd (d e)
owned_popped L r [] (inr s) d = s.1
owned_popped L r (q ∷ saved) (inr (c, inl e)) d = inl e
owned_popped L r (q ∷ saved) (inr (c, inr s)) d = inr (c, s)

-- the running run stands on a new last node
pub waits_added : {L M : Labels} {net : Net} (run : Run) (saved : List Run) → Waits L net (run ∷ saved) → (more : Net)
    → Later L M net more → (next : Run)
    → ((i : ℕ) → i < more.nodes → base_role (M.role i) ≡ true → (at more.table i).idx_next ≡ 0
    → (i ≡ next.place.idx_prev) ⊎ ((i < net.nodes) × (i ≡ run.place.idx_prev → ⊥)))
    → Stands M more next → Tip more next → Waits M more (next ∷ saved)
waits_added {L} {M} {net} run saved u more f next which stands tip = record {
  owned = λ i h b z o. go i b z o (which i h b z);
  stand = (stands, all_so (Stands L net) (Stands M more) (stands_more f) saved u.stand.1);
  last = (λ w. tip, u.last.1);
}
  where
    go : (i : ℕ) → base_role (M.role i) ≡ true → (at more.table i).idx_next ≡ 0 → member_of more.ends i ≡ false
        → (i ≡ next.place.idx_prev) ⊎ ((i < net.nodes) × (i ≡ run.place.idx_prev → ⊥)) → Owned M i (next ∷ saved)
    go i b z o (inl q) = inl q
    go i b z o (inr (h, d)) = owned_by_waiting f.labels h run next saved
        (u.owned i h (ap base_role (sym (f.labels.role i h)) ∙ b) (f.still i h z).0 (f.ends i o)) d

-- What insertion's search reaches: the place itself or split Fakes among its alternatives, all of one owner; and what
-- is then done there.
use mathlib.Core.Path.{◌≡◌, refl, sym, ap, ◌∙◌, subst}
use mathlib.Core.Logic.{◌⊎◌, inl, inr}
use mathlib.Core.Bool.{Bool, true, false}
use Prim.Native.Nat.{ℕ, zero, suc, ◌+◌, ◌<◌, ◌≤◌}
use native.Mathlib.Omega.{arith}
use borrow.Author.Tests.{eqb-true, eqb-false, ltb-true}
use lib.Dec.{eqb, ltb}
use lib.Ieee.{Float}
use Rattle.net_node.specs.Table.{Table, at}
use Rattle.net_node.specs.declared.EstTime.{EstTime}
use Rattle.net_node.specs.declared.TimedEvent.{TimedEvent}
use Rattle.net_insertion.specs.declared.Place.{Place}
use Rattle.std.specs.Prelude.{Result, Ok, Err}
use Rattle.net_insertion.specs.declared.Insertion.{Insertion}
use Rattle.net_insertion.specs.declared.Insertion.TheVariants.{Added, Moved}
use Rattle.refusals.specs.declared.Refusal.{Refusal}
use Rattle.net_insertion.specs.Insertion.{matches, found, seek, sought_in, place_at, added_as, inserted_as, table_as}
use Rattle.net_insertion.specs.Insertion.{inserted, inserted_table, add_behind, split_at}
use Rattle.net_insertion.proofs.Seeking.{seek_turn}
use Rattle.arcs_growth.proofs.Labels.{split, base_role, Labels}
use Rattle.arcs_growth.proofs.Laid.{AltOf, Laid}

-- node i is reached from a start: itself, or a split's Fake of its own behind a start that has a next
pub record Reached (L : Labels) (node : ℕ → EstTime) (n first i : ℕ) : Type 0 where
  pub within : i < n
  pub base : base_role (L.role i) ≡ true
  pub owner : L.owner i ≡ L.owner first
  pub which : (i ≡ first) ⊎ ((L.role i ≡ split) × (0 < (node first).idx_next))

module _ (L : Labels) (t : Table) (n places : ℕ) (ended : ℕ → Bool) (join : Float) (p : Place) (e : TimedEvent) where
  -- the run moved on to the next of a node that is reached, a next that matches
  pub record MovesTo (after : Table) (q : Place) : Type 0 where
    pub from : ℕ
    pub reached : Reached L (at t) n p.idx_prev from
    pub some : 0 < (at t from).idx_next
    pub first_some : 0 < (at t p.idx_prev).idx_next
    pub same : matches join e (at t (at t from).idx_next) ≡ true
    pub place : q ≡ place_at (at t from).idx_next e
    pub table : after ≡ t

  -- the event was added behind a node without a next
  pub record AddsBehind (after : Table) (q : Place) : Type 0 where
    pub from : ℕ
    pub reached : Reached L (at t) n p.idx_prev from
    pub empty : (at t from).idx_next ≡ 0
    pub no_end : ended from ≡ false
    pub room : n < places
    pub place : q ≡ place_at n e
    pub table : after ≡ add_behind t from n e

  -- the event was added behind a Fake, a new alternative
  pub record Splits (after : Table) (q : Place) : Type 0 where
    pub from : ℕ
    pub reached : Reached L (at t) n p.idx_prev from
    pub first_some : 0 < (at t p.idx_prev).idx_next
    pub no_alt : (at t from).idx_next_alt ≡ 0
    pub room : n + 1 < places
    pub place : q ≡ place_at (n + 1) e
    pub table : after ≡ add_behind (split_at t from n p) n (n + 1) e

  abbrev pub Came : Table → Result Insertion Refusal → Type 0
  Came after (Ok (Moved q)) = MovesTo after q
  Came after (Ok (Added q false)) = AddsBehind after q
  Came after (Ok (Added q true)) = Splits after q
  Came after (Err r) = Unit

some : {m : ℕ} → eqb m 0 ≡ false → 0 < m
some {m} o = let q : m ≡ 0 → ⊥ = eqb-false m 0 o in omega arith

-- a search by turns, whatever it answers with
module _ {S : Type 0} (search : ℕ → ℕ → S) (answer : Bool → Bool → Bool → ℕ → ℕ → S → S) (P : S → Type 0) {L : Labels}
    {node : ℕ → EstTime} {n : ℕ} (v : Laid L node n) (join : Float) (e : TimedEvent) (first : ℕ)
    (turn : (k i : ℕ) (a b c : Bool) → eqb (node i).idx_next 0 ≡ a → matches join e (node (node i).idx_next) ≡ b
    → eqb (node i).idx_next_alt 0 ≡ c → search (suc k) i ≡ answer a b c i (node i).idx_next
    (search k (node i).idx_next_alt))
    (empty : (i : ℕ) (b c : Bool) (later : S) → Reached L node n first i → (node i).idx_next ≡ 0
    → P (answer true b c i (node i).idx_next later))
    (same : (i : ℕ) (c : Bool) (later : S) → Reached L node n first i → 0 < (node i).idx_next
    → 0 < (node first).idx_next → matches join e (node (node i).idx_next) ≡ true
    → P (answer false true c i (node i).idx_next later))
    (final : (i : ℕ) (later : S) → Reached L node n first i → 0 < (node first).idx_next → (node i).idx_next_alt ≡ 0
    → P (answer false false true i (node i).idx_next later))
    (on : (i : ℕ) (later : S) → P later → P (answer false false false i (node i).idx_next later)) where
  led_some : (i : ℕ) → Reached L node n first i → 0 < (node i).idx_next → 0 < (node first).idx_next
  led_some i r h = go r.which
    where
      go : (i ≡ first) ⊎ ((L.role i ≡ split) × (0 < (node first).idx_next)) → 0 < (node first).idx_next
      go (inl q) = subst (λ (k : ℕ). 0 < (node k).idx_next) q h
      go (inr q) = q.1

  pub search_reaches : (k i : ℕ) → n ≤ k + i → Reached L node n first i → P (search k i)
  search_reaches zero i l r = let h = r.within in absurd (omega arith)
  search_reaches (suc k) i l r =
      subst P (sym (turn k i _ _ _ refl refl refl))
      (go (eqb (node i).idx_next 0) (matches join e (node (node i).idx_next))
      (eqb (node i).idx_next_alt 0) refl refl refl
      (λ p q. search_reaches k (node i).idx_next_alt (enough q) (further p q)))
    where
      alt : eqb (node i).idx_next_alt 0 ≡ false → AltOf L node n i (node i).idx_next_alt
      alt q = (v.each i r.within).alt (node i).idx_next_alt refl (some q)

      enough : eqb (node i).idx_next_alt 0 ≡ false → n ≤ k + (node i).idx_next_alt
      enough q = let a = (alt q).rises in omega arith

      further : eqb (node i).idx_next 0 ≡ false → eqb (node i).idx_next_alt 0 ≡ false
          → Reached L node n first (node i).idx_next_alt
      further p q =
          let a = alt q in
          let s = (v.each (node i).idx_next_alt a.inside).splits i a.back a.fake in
          record {
            within = a.inside;
            base = ap base_role a.fake;
            owner = s.owner ∙ r.owner;
            which = inr (a.fake, led_some i r (some p));
          }

      go : (a b c : Bool) → eqb (node i).idx_next 0 ≡ a → matches join e (node (node i).idx_next) ≡ b
          → eqb (node i).idx_next_alt 0 ≡ c
          → (eqb (node i).idx_next 0 ≡ false → eqb (node i).idx_next_alt 0 ≡ false → P (search k (node i).idx_next_alt))
          → P (answer a b c i (node i).idx_next (search k (node i).idx_next_alt))
      go true b c p q s later = empty i b c (search k (node i).idx_next_alt) r (eqb-true (node i).idx_next 0 p)
      go false true c p q s later = same i c (search k (node i).idx_next_alt) r (some p) (led_some i r (some p)) q
      go false false true p q s later = final i (search k (node i).idx_next_alt) r (led_some i r (some p))
          (eqb-true (node i).idx_next_alt 0 s)
      go false false false p q s later = on i (search k (node i).idx_next_alt) (later p s)

pub insertion_came : {L : Labels} (t : Table) (n places : ℕ) (ended : ℕ → Bool) (join : Float) (p : Place)
    (e : TimedEvent) → Laid L (at t) n → p.idx_prev < n → base_role (L.role p.idx_prev) ≡ true
    → Came L t n places ended join p e (inserted_table t n join p e) (inserted t n places ended join p e)
unfolding inserted_table inserted sought_in
insertion_came {L} t n places ended join p e v h b =
    search_reaches (λ (k i : ℕ). seek k (at t) join e i) found
    (λ s. Came L t n places ended join p e (table_as s t n p e) (inserted_as s n places ended e)) v join e
    p.idx_prev
    (λ k i. seek_turn k (at t) join e i)
    (λ i b c later r q. behind i r q (ltb n places) (ended i) refl refl)
    (λ i c later r q f m. record {
      from = i;
      reached = r;
      some = q;
      first_some = f;
      same = m;
      place = refl;
      table = refl;
    })
    (λ i later r f q. divided i r f q (ltb (n + 1) places) refl)
    (λ i later q. q)
    n p.idx_prev (omega arith) (record { within = h; base = b; owner = refl; which = inl refl })
  where
    behind : (i : ℕ) → Reached L (at t) n p.idx_prev i → (at t i).idx_next ≡ 0 → (x y : Bool) → ltb n places ≡ x
        → ended i ≡ y → Came L t n places ended join p e (add_behind t i n e)
        (added_as x y (Added (place_at n e) false))
    behind i r q false y c d = tt
    behind i r q true true c d = tt
    behind i r q true false c d = record {
      from = i;
      reached = r;
      empty = q;
      no_end = d;
      room = ltb-true n places c;
      place = refl;
      table = refl;
    }

    divided : (i : ℕ) → Reached L (at t) n p.idx_prev i → 0 < (at t p.idx_prev).idx_next → (at t i).idx_next_alt ≡ 0
        → (x : Bool) → ltb (n + 1) places ≡ x
        → Came L t n places ended join p e (add_behind (split_at t i n p) n (n + 1) e)
        (added_as x false (Added (place_at (n + 1) e) true))
    divided i r f q false c = tt
    divided i r f q true c = record {
      from = i;
      reached = r;
      first_some = f;
      no_alt = q;
      room = ltb-true (n + 1) places c;
      place = refl;
      table = refl;
    }

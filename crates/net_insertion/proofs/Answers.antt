-- The answer by what was found, in each way that `insert_est_time` can end.
use mathlib.Core.Path.{◌≡◌, refl, sym, ap, ◌∙◌}
use mathlib.Core.Bool.{Bool, true, false}
use mathlib.Core.List.{List}
use Prim.Native.Nat.{ℕ, ◌+◌, ◌*◌, ◌≤◌, ◌<◌}
use borrow.Author.Tests.{lt-ltb, le-ltb}
use lib.ListN.{get_or}
use lib.Ieee.{Float}
use Rattle.net_node.specs.declared.TimedEvent.{TimedEvent}
use Rattle.net_node.specs.Table.{node_at, Table, at}
use Rattle.net_insertion.specs.declared.Place.{Place}
use Rattle.net_insertion.specs.declared.Seek.{Seek}
use Rattle.net_insertion.specs.declared.Seek.TheVariants.{Open, Match, Split}
use Rattle.std.specs.Prelude.{Ok, Err}
use Rattle.refusals.specs.declared.Refusal.TheVariants.{NoPlace, BadEnd}
use Rattle.net_insertion.specs.declared.Insertion.TheVariants.{Added, Moved}
use Rattle.net_insertion.specs.Insertion.{seek, add_behind, split_at, place_at, added_as, inserted_as, table_as}
use Rattle.net_insertion.specs.Insertion.{inserted, inserted_table, flagged}

pub flagged_set : (cells : List ℕ) (base i : ℕ) → 0 < get_or cells (base + i * 8) 0 → flagged cells base i ≡ true
unfolding flagged
flagged_set cells base i h = lt-ltb 0 (get_or cells (base + i * 8) 0) h

pub flagged_clear : (cells : List ℕ) (base i : ℕ) → get_or cells (base + i * 8) 0 ≤ 0 → flagged cells base i ≡ false
unfolding flagged
flagged_clear cells base i h = le-ltb 0 (get_or cells (base + i * 8) 0) h

-- what was found, as the search says it
pub record Sought (t : Table) (n : ℕ) (join : Float) (p : Place) (e : TimedEvent) (s : Seek) : Type 0 where
  pub is : s ≡ seek n (node_at t.floats t.numbers) join e p.idx_prev

module _ {t : Table} {n : ℕ} {join : Float} {p : Place} {e : TimedEvent} where
  answer_is : (s : Seek) (places : ℕ) (ended : ℕ → Bool) → Sought t n join p e s
      → inserted_as s n places ended e ≡ inserted t n places ended join p e
  unfolding inserted at
  answer_is s places ended f = ap (λ (s : Seek). inserted_as s n places ended e) f.is

  table_is : (s : Seek) → Sought t n join p e s → table_as s t n p e ≡ inserted_table t n join p e
  unfolding inserted_table at
  table_is s f = ap (λ (s : Seek). table_as s t n p e) f.is

  -- the lists hold the table that is wanted
  holds : (s : Seek) (fs : List Float) (us : List ℕ) → Sought t n join p e s → fs ≡ (table_as s t n p e).floats
      → us ≡ (table_as s t n p e).numbers
      → (fs ≡ (inserted_table t n join p e).floats) × (us ≡ (inserted_table t n join p e).numbers)
  holds s fs us f a b =
      (a ∙ ap (λ (x : Table). x.floats) (table_is s f), b ∙ ap (λ (x : Table). x.numbers) (table_is s f))

  module _ {i : ℕ} (places : ℕ) (ended : ℕ → Bool) where
    pub move_answer : (q : Place) → Sought t n join p e (Match i) → q ≡ place_at i e
        → (Ok (Moved q) ≡ inserted t n places ended join p e)
        × ((t.floats ≡ (inserted_table t n join p e).floats) × (t.numbers ≡ (inserted_table t n join p e).numbers))
    move_answer q f a = (
      ap (λ (q : Place). Ok (Moved q)) a ∙ answer_is (Match i) places ended f,
      holds (Match i) t.floats t.numbers f refl refl,
    )

    pub open_full : Sought t n join p e (Open i) → places ≤ n → Err NoPlace ≡ inserted t n places ended join p e
    open_full f h = ap (λ (b : Bool). added_as b (ended i) (Added (place_at n e) false)) (sym (le-ltb n places h))
        ∙ answer_is (Open i) places ended f

    pub split_full : Sought t n join p e (Split i) → places ≤ n + 1 → Err NoPlace ≡ inserted t n places ended join p e
    split_full f h =
        ap (λ (b : Bool). added_as b false (Added (place_at (n + 1) e) true)) (sym (le-ltb (n + 1) places h))
        ∙ answer_is (Split i) places ended f

    open_as : (b : Bool) → Sought t n join p e (Open i) → n < places → ended i ≡ b
        → added_as true b (Added (place_at n e) false) ≡ inserted t n places ended join p e
    open_as b f h g =
        ap (λ (b : Bool). added_as true b (Added (place_at n e) false)) (sym g)
        ∙ ap (λ (b : Bool). added_as b (ended i) (Added (place_at n e) false)) (sym (lt-ltb n places h))
        ∙ answer_is (Open i) places ended f

    pub open_ended : Sought t n join p e (Open i) → n < places → ended i ≡ true
        → Err BadEnd ≡ inserted t n places ended join p e
    open_ended = open_as true

    pub open_added : (q : Place) (fs : List Float) (us : List ℕ) → Sought t n join p e (Open i) → n < places
        → ended i ≡ false → q ≡ place_at n e
        → (fs ≡ (add_behind t i n e).floats) × (us ≡ (add_behind t i n e).numbers)
        → (Ok (Added q false) ≡ inserted t n places ended join p e)
        × ((fs ≡ (inserted_table t n join p e).floats) × (us ≡ (inserted_table t n join p e).numbers))
    open_added q fs us f h g a l =
        (ap (λ (q : Place). Ok (Added q false)) a ∙ open_as false f h g, holds (Open i) fs us f l.0 l.1)

    pub split_added : (q : Place) (fs gs : List Float) (us vs : List ℕ) → Sought t n join p e (Split i) → n + 1 < places
        → q ≡ place_at (n + 1) e
        → (fs ≡ (split_at t i n p).floats) × (us ≡ (split_at t i n p).numbers)
        → (let s : Table = record { floats = fs; numbers = us } in
        (gs ≡ (add_behind s n (n + 1) e).floats) × (vs ≡ (add_behind s n (n + 1) e).numbers))
        → (Ok (Added q true) ≡ inserted t n places ended join p e)
        × ((gs ≡ (inserted_table t n join p e).floats) × (vs ≡ (inserted_table t n join p e).numbers))
    split_added q fs gs us vs f h a l m =
        let z : ◌≡◌ {A = Table} (record { floats = fs; numbers = us }) (split_at t i n p) = λ k. record {
          floats = l.0 k;
          numbers = l.1 k;
        } in (
          ap (λ (q : Place). Ok (Added q true)) a ∙ ap
              (λ (b : Bool). added_as b false (Added (place_at (n + 1) e) true)) (sym (lt-ltb (n + 1) places h))
              ∙ answer_is (Split i) places ended f,
          holds (Split i) gs vs f (m.0 ∙ ap (λ (x : Table). (add_behind x n (n + 1) e).floats) z)
              (m.1 ∙ ap (λ (x : Table). (add_behind x n (n + 1) e).numbers) z),
        )

-- each way to refuse
pub ruleset refused_laws = (flagged_set, open_full, open_ended, split_full)

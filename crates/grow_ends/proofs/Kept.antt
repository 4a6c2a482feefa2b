-- What a caller may know: of the ends, one more of them, cells that leave them as they are, and the flags that
-- insertion reads; of nodes 0 and 1; and how many nodes there are after the end Fakes and the last node.
use mathlib.Core.Path.{◌≡◌, refl, sym, ap, ◌∙◌, subst}
use mathlib.Core.Logic.{◌⊎◌, inl, inr}
use mathlib.Core.Bool.{Bool, true, false, not, ◌||◌}
use mathlib.Core.List.{List, [], ◌∷◌}
use Prim.Native.Nat.{ℕ, zero, suc, ◌+◌, ◌-◌, ◌*◌, ◌≤◌, ◌<◌}
use native.Mathlib.Omega.{arith}
use borrow.Author.Tests.{eqb-true, eqb-false, eq-eqb, ltb-true}
use lib.Dec.{eqb, ltb}
use lib.ListN.{length, get_or, set}
use lib.Seq.{get_or-set_same, get_or-set_other}
use lib.Ieee.{Float, binary64, of_bits}
use Rattle.laws.proofs.Truth.{true_or_false, not_both}
use Rattle.net_node.proofs.Tables.{RoomIn, put_room, put_same, put_other, Fits, fits_indexed}
use Rattle.laws.specs.Answer.{Answer, refused, given, and_then}
use Rattle.net_node.specs.declared.EstTime.{EstTime}
use Rattle.net_node.specs.declared.EstType.TheVariants.{Fake}
use Rattle.net_node.specs.Table.{Indexed, blank, no_link_event, Table, put, at}
use Rattle.net_insertion.specs.Insertion.{flagged}
use Rattle.net_insertion.proofs.Answers.{flagged_set, flagged_clear}
use Rattle.net_event_map.specs.EventMap.{head_of}
use Rattle.laws.proofs.Below.{or_right}
use Rattle.grow_rules.specs.Run.{Net, Run, member_of}
use Rattle.grow_rules.specs.Growth.{fake_node, bad_finish, leads_to_end, room_for, end_fakes}
use Rattle.net_node.specs.Left.{Network}
use Rattle.std.specs.Prelude.{Ok}
use Rattle.grow_ends.specs.Ends.{EndsIn, Below, SomeEnds, TailAs, MarkedAs}

-- ---- members

pub member_first : (i : ℕ) (is : List ℕ) → member_of (i ∷ is) i ≡ true
member_first i is = ap (λ (b : Bool). b || member_of is i) (eq-eqb i i refl)

pub member_more : (i j : ℕ) (is : List ℕ) → member_of is j ≡ true → member_of (i ∷ is) j ≡ true
member_more i j is h = or_right (eqb i j) (member_of is j) h

-- a member and a number that is none differ
pub member_apart : (is : List ℕ) (i j : ℕ) → member_of is i ≡ false → member_of is j ≡ true → j ≡ i → ⊥
member_apart is i j f t e = not_both t (ap (member_of is) e ∙ f)

-- ---- ends below a number

pub below_all : (n : ℕ) (is : List ℕ) → ((i : ℕ) → member_of is i ≡ true → i < n) → Below n is
below_all n [] h = tt
below_all n (i ∷ is) h = (h i (member_first i is), below_all n is (λ j t. h j (member_more i j is t)))

pub below_member : (n : ℕ) (is : List ℕ) → Below n is → (i : ℕ) → member_of is i ≡ true → i < n
below_member n [] b i t = not_both t refl
below_member n (j ∷ js) b i t = go (below_member n js b.1 i) (true_or_false (eqb j i))
  where
    go : (member_of js i ≡ true → i < n) → (eqb j i ≡ true) ⊎ (eqb j i ≡ false) → i < n
    go r (inl e) = let d : j ≡ i = eqb-true j i e in omega (arith, d, b.0)
    go r (inr e) = r (sym (ap (λ (x : Bool). x || member_of js i) e) ∙ t)

pub below_more : (n m : ℕ) (is : List ℕ) → n ≤ m → Below n is → Below m is
below_more n m [] h b = tt
below_more n m (i ∷ is) h b = (omega (arith, b.0), below_more n m is h b.1)

-- ---- the chain

-- none at first: cells of zero
pub ends_none : (cells : List ℕ) (base : ℕ) → EndsIn cells base 0 []
ends_none cells base = refl

pub flag_none : (cells : List ℕ) (base i : ℕ) → get_or cells (base + i * 8) 0 ≡ 0
    → flagged cells base i ≡ member_of [] i
flag_none cells base i h = flagged_clear cells base i (omega (arith, h))

module _ (cells : List ℕ) (base : ℕ) where
  pub ends_last : (last : ℕ) (is : List ℕ) → EndsIn cells base last is → last ≡ head_of is
  ends_last last [] e = e
  ends_last last (i ∷ is) e = e.0

  pub last_below : (last n : ℕ) (is : List ℕ) → EndsIn cells base last is → Below n is → 0 < n → last < n
  last_below last n [] e b h = omega (arith, e)
  last_below last n (i ∷ is) e b h = omega (arith, e.0, b.0)

  pub some_ends : (last n : ℕ) (is : List ℕ) → EndsIn cells base last is → ((i : ℕ) → member_of is i ≡ true → i < n)
      → SomeEnds cells base last n
  some_ends last n is e h = record { ends = is; chained = e; below = below_all n is h }

  pub ends_real : (last : ℕ) (is : List ℕ) → EndsIn cells base last is → (i : ℕ) → member_of is i ≡ true
      → (0 < i) × (0 < get_or cells (base + i * 8) 0)
  ends_real last [] e i t = not_both t refl
  ends_real last (j ∷ js) e i t = go (ends_real (head_of js) js e.1.1.1 i) (true_or_false (eqb j i))
    where
      go : (member_of js i ≡ true → (0 < i) × (0 < get_or cells (base + i * 8) 0))
          → (eqb j i ≡ true) ⊎ (eqb j i ≡ false) → (0 < i) × (0 < get_or cells (base + i * 8) 0)
      go r (inl d) = let s : j ≡ i = eqb-true j i d in (
        subst (λ (k : ℕ). 0 < k) s e.1.0,
        subst (λ (k : ℕ). 0 < get_or cells (base + k * 8) 0) s
            (omega (arith, e.1.1.0)),
      )
      go r (inr d) = r (sym (ap (λ (x : Bool). x || member_of js i) d) ∙ t)

  pub ends_flagged : (last : ℕ) (is : List ℕ) → EndsIn cells base last is → (i : ℕ) → member_of is i ≡ true
      → flagged cells base i ≡ true
  ends_flagged last is e i t = flagged_set cells base i (ends_real last is e i t).1

  -- cells that say the same of each end
  pub ends_members : (cells' : List ℕ) (last : ℕ) (is : List ℕ)
      → ((i : ℕ) → member_of is i ≡ true → get_or cells' (base + i * 8) 0 ≡ get_or cells (base + i * 8) 0)
      → EndsIn cells base last is → EndsIn cells' base last is
  ends_members cells' last [] h e = e
  ends_members cells' last (i ∷ is) h e = (
    e.0,
    (
      e.1.0,
      (
        h i (member_first i is) ∙ e.1.1.0,
        ends_members cells' (head_of is) is
            (λ j t. h j (member_more i j is t)) e.1.1.1,
      ),
    ),
  )

  pub ends_same : (cells' : List ℕ) (last n : ℕ) (is : List ℕ) → Below n is
      → ((i : ℕ) → i < n → get_or cells' (base + i * 8) 0 ≡ get_or cells (base + i * 8) 0) → EndsIn cells base last is
      → EndsIn cells' base last is
  ends_same cells' last n is b h = ends_members cells' last is (λ i t. h i (below_member n is b i t))

  pub flags_same : (cells' : List ℕ) (i : ℕ) → get_or cells' (base + i * 8) 0 ≡ get_or cells (base + i * 8) 0
      → flagged cells' base i ≡ flagged cells base i
  unfolding flagged
  flags_same cells' i h = ap (ltb 0) h

  -- ---- one end more

  module _ (last i : ℕ) (is : List ℕ) (room : base + i * 8 < length cells) where
    pub ends_more : EndsIn cells base last is → member_of is i ≡ false → 0 < i
        → EndsIn (set cells (base + i * 8) (suc last)) base i (i ∷ is)
    ends_more e f h = (
      refl,
      (
        h,
        (
          get_or-set_same cells (base + i * 8) (suc last) 0 room ∙ ap suc (ends_last last is e),
          subst (λ (l : ℕ). EndsIn (set cells (base + i * 8) (suc last)) base l is) (ends_last last is e)
              (ends_members (set cells (base + i * 8) (suc last)) last is other e),
        ),
      ),
    )
      where
        other : (j : ℕ) → member_of is j ≡ true → get_or (set cells (base + i * 8) (suc last))
            (base + j * 8) 0 ≡ get_or cells (base + j * 8) 0
        other j t = let d : j ≡ i → ⊥ = member_apart is i j f t in
            get_or-set_other cells (base + i * 8) (base + j * 8) (suc last) 0
            (λ (q : base + j * 8 ≡ base + i * 8). d (omega (arith, q)))

    pub flag_more : (j : ℕ) → flagged cells base j ≡ member_of is j
        → flagged (set cells (base + i * 8) (suc last)) base j ≡ member_of (i ∷ is) j
    flag_more j h = go (true_or_false (eqb i j))
      where
        go : (eqb i j ≡ true) ⊎ (eqb i j ≡ false) → flagged (set cells (base + i * 8) (suc last)) base j ≡ member_of
            (i ∷ is) j
        go (inl t) =
            let d : i ≡ j = eqb-true i j t in
            let g : flagged (set cells (base + i * 8) (suc last)) base i ≡ true =
            flagged_set (set cells (base + i * 8) (suc last)) base i
            (omega (arith, get_or-set_same cells (base + i * 8) (suc last) 0 room)) in
            ap (flagged (set cells (base + i * 8) (suc last)) base) (sym d) ∙ g
            ∙ sym (ap (λ (x : Bool). x || member_of is j) t)
        go (inr f) =
            let d : i ≡ j → ⊥ = eqb-false i j f in
            flags_same (set cells (base + i * 8) (suc last)) j
            (get_or-set_other cells (base + i * 8) (base + j * 8) (suc last) 0
            (λ (q : base + j * 8 ≡ base + i * 8). d (omega (arith, q)))) ∙ h
            ∙ sym (ap (λ (x : Bool). x || member_of is j) f)

-- ---- a finish that is let through

pub record GoodFinish (net : Net) (run : Run) : Type 0 where
  pub last : run.place.idx_prev ≡ net.nodes - 1
  pub free : (at net.table (net.nodes - 1)).idx_next ≡ 0
  pub fresh : member_of net.ends (net.nodes - 1) ≡ false

pub good_finish : (net : Net) (run : Run) → bad_finish net run ≡ false → GoodFinish net run
unfolding bad_finish
good_finish net run h = go (eqb run.place.idx_prev (net.nodes - 1)) (eqb (at net.table (net.nodes - 1)).idx_next 0)
    (member_of net.ends (net.nodes - 1)) refl refl refl h
  where
    go : (a b m : Bool) → eqb run.place.idx_prev (net.nodes - 1) ≡ a → eqb (at net.table (net.nodes - 1)).idx_next 0 ≡ b
        → member_of net.ends (net.nodes - 1) ≡ m → (not a || not b || m) ≡ false
        → GoodFinish net run
    go true true m p q r e = record {
      last = eqb-true run.place.idx_prev (net.nodes - 1) p;
      free = eqb-true (at net.table (net.nodes - 1)).idx_next 0 q;
      fresh = r ∙ e;
    }
    go true false m p q r e = not_both refl e
    go false b m p q r e = not_both refl e

-- the ends and the flags after it
pub record Finished (net : Net) (run : Run) (cells cells' : List ℕ) (base : ℕ) : Type 0 where
  pub chained : EndsIn cells' base run.place.idx_prev (run.place.idx_prev ∷ net.ends)
  pub flags : (j : ℕ) → flagged cells base j ≡ member_of net.ends j
      → flagged cells' base j ≡ member_of (run.place.idx_prev ∷ net.ends) j
  pub within : run.place.idx_prev < net.nodes

pub finished : (net : Net) (run : Run) (cells cells' : List ℕ) (base last : ℕ) → bad_finish net run ≡ false
    → 1 < net.nodes → base + net.nodes * 8 ≤ length cells + 7
    → EndsIn cells base last net.ends → MarkedAs cells cells' base last run.place.idx_prev (Ok tt)
    → Finished net run cells cells' base
finished net run cells cells' base last h n l e m =
    let g = good_finish net run h in
    let p : run.place.idx_prev ≡ net.nodes - 1 = g.last in
    let r : base + run.place.idx_prev * 8 < length cells = omega (arith, p) in
    record {
      chained = subst (λ (c : List ℕ). EndsIn c base run.place.idx_prev (run.place.idx_prev ∷ net.ends)) (sym m)
          (ends_more cells base last run.place.idx_prev net.ends r e (ap (member_of net.ends) p ∙ g.fresh)
          (omega (arith, p)));
      flags = λ j f. ap (λ (c : List ℕ). flagged c base j) m
          ∙ flag_more cells base last run.place.idx_prev net.ends r j f;
      within = omega (arith, p);
    }

-- ---- nodes 0 and 1

module _ (t : Table) (time : Float) (places : ℕ) (room : RoomIn t places) (more : 1 < places) where
  abbrev first_table : Table
  first_table = put (put t 0 (fake_node 1 0 0 (of_bits binary64 0))) 1 (fake_node 0 0 0 time)

  pub first_room : RoomIn first_table places
  first_room = put_room (put t 0 (fake_node 1 0 0 (of_bits binary64 0))) 1 (fake_node 0 0 0 time) places
      (put_room t 0 (fake_node 1 0 0 (of_bits binary64 0)) places room)

  pub node_zero : at first_table 0 ≡ fake_node 1 0 0 (of_bits binary64 0)
  node_zero = put_other (put t 0 (fake_node 1 0 0 (of_bits binary64 0))) 1 (fake_node 0 0 0 time) 0
      (λ (e : 0 ≡ 1). omega arith) ∙ put_same t 0 (fake_node 1 0 0 (of_bits binary64 0)) places room (omega arith)

  pub node_one : at first_table 1 ≡ fake_node 0 0 0 time
  node_one = put_same (put t 0 (fake_node 1 0 0 (of_bits binary64 0))) 1 (fake_node 0 0 0 time) places
      (put_room t 0 (fake_node 1 0 0 (of_bits binary64 0)) places room) more

  pub first_indexed : Indexed (at first_table) 2
  unfolding fake_node
  first_indexed = fits_indexed each
    where
      fits : (next : ℕ) (held : Float) (i : ℕ) → next < 2 → Fits (fake_node next 0 0 held) i 2
      fits next held i h = record {
        next = h;
        next_alt = omega arith;
        prev = omega arith;
        prev_alt = omega arith;
        next_alt_rises = λ o. absurd (omega arith);
        prev_alt_rises = λ o. absurd (omega arith);
      }

      each : (i : ℕ) → i < 2 → Fits (at first_table i) i 2
      each zero h = subst (λ (x : EstTime). Fits x 0 2) (sym node_zero) (fits 1 (of_bits binary64 0) 0 (omega arith))
      each (suc zero) h = subst (λ (x : EstTime). Fits x 1 2) (sym node_one) (fits 0 time 1 (omega arith))
      each (suc (suc i)) h = absurd (omega arith)

  pub zero_fake : (at first_table 0).link_event.est_type ≡ Fake
  unfolding fake_node blank no_link_event
  zero_fake = ap (λ (x : EstTime). x.link_event.est_type) node_zero

  pub one_fake : (at first_table 1).link_event.est_type ≡ Fake
  unfolding fake_node blank no_link_event
  one_fake = ap (λ (x : EstTime). x.link_event.est_type) node_one

-- ---- how many nodes there are

abbrev Counted : ℕ → ℕ → Answer Network → Type 0
Counted m places (refused r) = Unit
Counted m places (given t) = (t.nodes ≡ m) × (t.nodes ≤ places)

counted_fakes : (places : ℕ) (is : List ℕ) (alt : ℕ) (t : Network) → t.nodes ≤ places
    → Counted (t.nodes + length is) places (end_fakes places is alt t)
unfolding end_fakes
counted_fakes places [] alt t h = (omega arith, h)
counted_fakes places (i ∷ is) alt t h = go (ltb t.nodes places) refl (counted_fakes places is t.nodes led)
  where
    fake : Table
    fake = put t.table t.nodes (fake_node (suc t.nodes) i alt (of_bits binary64 0))

    led : Network
    led = record { table = put fake i (leads_to_end (at fake i) t.nodes); nodes = suc t.nodes }

    go : (b : Bool) → ltb t.nodes places ≡ b → (suc t.nodes ≤ places
        → Counted (suc t.nodes + length is) places (end_fakes places is t.nodes led))
        → Counted (t.nodes + suc (length is)) places (and_then (room_for b led) (end_fakes places is t.nodes))
    go true e r = subst (λ (m : ℕ). Counted m places (end_fakes places is t.nodes led)) (omega arith)
        (r (ltb-true t.nodes places e))
    go false e r = tt

-- by the contract of `end_fakes`, where it has not refused
pub fakes_counted : (places n k : ℕ) (is : List ℕ) (t : Table) (fs : List Float) (us : List ℕ) → n ≤ places
    → TailAs (end_fakes places is 0 (record { table = t; nodes = n })) fs us (Ok k)
    → (k ≡ n + length is) × (k ≤ places)
fakes_counted places n k is t fs us h e = subst (Counted (n + length is) places) e
    (counted_fakes places is 0 (record { table = t; nodes = n }) h)

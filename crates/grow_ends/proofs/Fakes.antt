-- The nodes written: nodes 0 and 1, the last node, and the loop over the ends.
use mathlib.Core.Path.{◌≡◌, refl, sym, ap, ◌∙◌, subst}
use mathlib.Core.Bool.{Bool}
use mathlib.Core.List.{List, [], ◌∷◌}
use Prim.Native.Nat.{ℕ, suc, ◌+◌, ◌-◌, ◌*◌, ◌≤◌, ◌<◌}
use native.Mathlib.Numerals.{add-one}
use native.Mathlib.Omega.{arith}
use borrow.Author.Tests.{lt-ltb, le-ltb}
use lib.ListN.{length, get_or}
use lib.Ieee.{Float, binary64, of_bits}
use Rattle.laws.specs.Answer.{refused, given, and_then}
use Rattle.net_node.specs.declared.EstTime.{EstTime}
use Rattle.net_node.specs.Table.{node_at, put_floats, put_numbers, Table, put, at}
use Rattle.net_event_map.specs.EventMap.{head_of}
use Rattle.grow_rules.specs.Growth.{fake_node, leads_to_end, room_for, end_fakes, last_node}
use Rattle.net_node.specs.Left.{Network}
use Rattle.net_insertion.specs.Insertion.{table_of}
use Rattle.grow_ends.specs.Ends.{EndsIn, Below}

abbrev network_of : Table → ℕ → Network
network_of t k = record { table = t; nodes = k }

-- ---- one store

stored_is : (t : Table) (i : ℕ) (fs : List Float) (us : List ℕ) (u x : EstTime) → fs ≡ put_floats t.floats i u
    → us ≡ put_numbers t.numbers i u → u ≡ x → table_of fs us ≡ put t i x
unfolding put
stored_is t i fs us u x a b e =
    let s : table_of fs us ≡ put t i u = λ j. record { floats = a j; numbers = b j } in
    s ∙ ap (put t i) e

-- ---- nodes 0 and 1

pub first_stored : (t : Table) (time : Float) (fs gs : List Float) (us vs : List ℕ) (u v : EstTime)
    → u ≡ fake_node 1 0 0 (of_bits binary64 0) → fs ≡ put_floats t.floats 0 u → us ≡ put_numbers t.numbers 0 u
    → v ≡ fake_node 0 0 0 time → gs ≡ put_floats fs 1 v → vs ≡ put_numbers us 1 v
    → (gs ≡ (put (put t 0 (fake_node 1 0 0 (of_bits binary64 0))) 1 (fake_node 0 0 0 time)).floats)
    × (vs ≡ (put (put t 0 (fake_node 1 0 0 (of_bits binary64 0))) 1 (fake_node 0 0 0 time)).numbers)
first_stored t time fs gs us vs u v a f n b g m =
    (ap (λ (s : Table). s.floats) both, ap (λ (s : Table). s.numbers) both)
  where
    both : table_of gs vs ≡ put (put t 0 (fake_node 1 0 0 (of_bits binary64 0))) 1 (fake_node 0 0 0 time)
    both = stored_is (table_of fs us) 1 gs vs v (fake_node 0 0 0 time) g m b
        ∙ ap (λ (s : Table). put s 1 (fake_node 0 0 0 time))
        (stored_is t 0 fs us u (fake_node 1 0 0 (of_bits binary64 0)) f n a)

-- ---- the last node

module _ (t : Table) (n places : ℕ) where
  pub last_full : places ≤ n → last_node places (network_of t n) ≡ refused 12
  unfolding last_node
  last_full h = ap (λ (b : Bool). room_for b (network_of (put t n (fake_node 0 (n - 1) 0 (of_bits binary64 0)))
      (suc n))) (le-ltb n places h)

  pub last_stored : (fs : List Float) (us : List ℕ) (u : EstTime) → n < places
      → u ≡ fake_node 0 (n - 1) 0 (of_bits binary64 0) → fs ≡ put_floats t.floats n u → us ≡ put_numbers t.numbers n u
      → last_node places (network_of t n) ≡ given (network_of (table_of fs us) (n + 1))
  unfolding last_node
  last_stored fs us u h a f m =
      let s : table_of fs us ≡ put t n (fake_node 0 (n - 1) 0 (of_bits binary64 0)) =
      stored_is t n fs us u (fake_node 0 (n - 1) 0 (of_bits binary64 0)) f m a in
      ap (λ (b : Bool). room_for b (network_of (put t n (fake_node 0 (n - 1) 0 (of_bits binary64 0))) (suc n)))
      (lt-ltb n places h)
      ∙ sym (ap (λ (x : Table). given (network_of x (n + 1))) s
      ∙ ap (λ (k : ℕ). given (network_of (put t n (fake_node 0 (n - 1) 0 (of_bits binary64 0))) k)) (add-one n))

-- ---- a chain of ends

module _ (cells : List ℕ) (base : ℕ) where
  -- the cells say which ends there are
  pub ends_alone : (last : ℕ) (is js : List ℕ) → EndsIn cells base last is → EndsIn cells base last js → is ≡ js
  ends_alone last [] [] e f = refl
  ends_alone last [] (j ∷ js) e f = absurd (omega (arith, e, f.0, f.1.0))
  ends_alone last (i ∷ is) [] e f = absurd (omega (arith, f, e.0, e.1.0))
  ends_alone last (i ∷ is) (j ∷ js) e f =
      let a : i ≡ j = sym e.0 ∙ f.0 in
      let c : suc (head_of is) ≡ suc (head_of js) =
      sym e.1.1.0 ∙ ap (λ (k : ℕ). get_or cells (base + k * 8) 0) a ∙ f.1.1.0 in
      let b : head_of js ≡ head_of is = omega (arith, c) in
      let r : is ≡ js = ends_alone (head_of is) is js e.1.1.1 (moved b f.1.1.1) in
      (λ t. a t ∷ r t)
    where
      moved : {l m : ℕ} → l ≡ m → EndsIn cells base l js → EndsIn cells base m js
      moved q h = subst (λ (l : ℕ). EndsIn cells base l js) q h

-- an end that is not the last of its chain
record Next (cells : List ℕ) (base i n : ℕ) (is : List ℕ) : Type 0 where
  after : List ℕ
  is_more : is ≡ i ∷ after
  cell : get_or cells (base + i * 8) 0 ≡ suc (head_of after)
  chained : EndsIn cells base (head_of after) after
  inside : i < n
  below : Below n after

next_end : (cells : List ℕ) (base i n : ℕ) (is : List ℕ) → EndsIn cells base i is → Below n is → (i ≡ 0 → ⊥)
    → Next cells base i n is
next_end cells base i n [] e b h = absurd (h e)
next_end cells base i n (j ∷ js) e b h = record {
  after = js;
  is_more = ap (λ (k : ℕ). k ∷ js) (sym e.0);
  cell = ap (λ (k : ℕ). get_or cells (base + k * 8) 0) e.0 ∙ e.1.1.0;
  chained = e.1.1.1;
  inside = omega (arith, e.0, b.0);
  below = b.1;
}

-- ---- the definition, a turn at a time

module _ (places i alt : ℕ) (is : List ℕ) (s : Table) (k : ℕ) where
  abbrev fake_at : Table
  fake_at = put s k (fake_node (suc k) i alt (of_bits binary64 0))

  abbrev led_to : Table
  led_to = put fake_at i (leads_to_end (at fake_at i) k)

  fakes_full : places ≤ k → end_fakes places (i ∷ is) alt (network_of s k) ≡ refused 12
  unfolding end_fakes
  fakes_full h = ap (λ (b : Bool). and_then (room_for b (network_of led_to (suc k))) (end_fakes places is k))
      (le-ltb k places h)

  fakes_on : k < places → end_fakes places (i ∷ is) alt (network_of s k) ≡ end_fakes places is k
      (network_of led_to (suc k))
  unfolding end_fakes
  fakes_on h = ap (λ (b : Bool). and_then (room_for b (network_of led_to (suc k))) (end_fakes places is k))
      (lt-ltb k places h)

  -- what the code stores
  led_stored : (fs gs : List Float) (us vs : List ℕ) (u x v : EstTime)
      → u ≡ fake_node (k + 1) i alt (of_bits binary64 0) → fs ≡ put_floats s.floats k u → us ≡ put_numbers s.numbers k u
      → x ≡ node_at fs us i → v ≡ leads_to_end x k → gs ≡ put_floats fs i v → vs ≡ put_numbers us i v
      → table_of gs vs ≡ led_to
  unfolding at
  led_stored fs gs us vs u x v a f n l b g m =
      let o : table_of fs us ≡ fake_at = stored_is s k fs us u (fake_node (suc k) i alt (of_bits binary64 0)) f n
      (a ∙ ap (λ (j : ℕ). fake_node j i alt (of_bits binary64 0)) (add-one k)) in
      let y : v ≡ leads_to_end (at (table_of fs us) i) k = b ∙ ap (λ (z : EstTime). leads_to_end z k) l in
      stored_is (table_of fs us) i gs vs v (leads_to_end (at (table_of fs us) i) k) g m y
      ∙ ap (λ (z : Table). put z i (leads_to_end (at z i) k)) o

-- ---- the loop

-- of all ends, the rest from i on is still to be led to Fakes; the table was t and is s, with k nodes
pub record Faking (cells : List ℕ) (base last n places : ℕ) (t s : Table) (i alt k : ℕ) : Type 0 where
  pub floats_kept_lem : length s.floats ≡ length t.floats
  pub numbers_kept_lem : length s.numbers ≡ length t.numbers
  pub counted : n ≤ k
  pub within : k ≤ places
  pub all : List ℕ
  pub all_chained : EndsIn cells base last all
  pub rest : List ℕ
  pub chained : EndsIn cells base i rest
  pub below : Below n rest
  pub same : end_fakes places all 0 (network_of t n) ≡ end_fakes places rest alt (network_of s k)

module _ {cells : List ℕ} {base last n places : ℕ} {t s : Table} {i alt k : ℕ}
    (v : Faking cells base last n places t s i alt k) where
  -- any list of the ends is the loop's
  alone : (ends : List ℕ) → EndsIn cells base last ends
      → end_fakes places ends 0 (network_of t n) ≡ end_fakes places v.rest alt (network_of s k)
  alone ends e = ap (λ (is : List ℕ). end_fakes places is 0 (network_of t n))
      (ends_alone cells base last ends v.all e v.all_chained) ∙ v.same

  none_left : (is : List ℕ) → EndsIn cells base i is → i ≡ 0
      → end_fakes places is alt (network_of s k) ≡ given (network_of s k)
  unfolding end_fakes
  none_left [] e z = refl
  none_left (j ∷ js) e z = absurd (omega (arith, e.0, e.1.0, z))

  pub faking_end : i ≡ 0 → (ends : List ℕ) → EndsIn cells base last ends
      → end_fakes places ends 0 (network_of t n) ≡ given (network_of s k)
  faking_end z ends e = alone ends e ∙ none_left v.rest v.chained z

  module _ (h : i ≡ 0 → ⊥) where
    next : Next cells base i n v.rest
    next = next_end cells base i n v.rest v.chained v.below h

    pub faking_inside : i < n
    faking_inside = next.inside

    pub faking_cell : 0 < get_or cells (base + i * 8) 0
    faking_cell = omega (arith, next.cell)

    more_left : (ends : List ℕ) → EndsIn cells base last ends
        → end_fakes places ends 0 (network_of t n) ≡ end_fakes places (i ∷ next.after) alt (network_of s k)
    more_left ends e = alone ends e ∙ ap (λ (is : List ℕ). end_fakes places is alt (network_of s k)) next.is_more

    pub faking_full : places ≤ k → (ends : List ℕ) → EndsIn cells base last ends
        → end_fakes places ends 0 (network_of t n) ≡ refused 12
    faking_full g ends e = more_left ends e ∙ fakes_full places i alt next.after s k g

    pub faking_on : k < places → (fs gs : List Float) (us vs : List ℕ) (u x y : EstTime)
        → length gs ≡ length t.floats → length vs ≡ length t.numbers
        → u ≡ fake_node (k + 1) i alt (of_bits binary64 0) → fs ≡ put_floats s.floats k u
        → us ≡ put_numbers s.numbers k u
        → x ≡ node_at fs us i → y ≡ leads_to_end x k → gs ≡ put_floats fs i y → vs ≡ put_numbers us i y
        → Faking cells base last n places t (table_of gs vs) (get_or cells (base + i * 8) 0 - 1) k (k + 1)
    faking_on g fs gs us vs u x y lf ln a f m l b c d =
        let before : head_of next.after ≡ get_or cells (base + i * 8) 0 - 1 = omega (arith, next.cell) in
        record {
          floats_kept_lem = lf;
          numbers_kept_lem = ln;
          counted = omega (arith, v.counted);
          within = omega arith;
          all = v.all;
          all_chained = v.all_chained;
          rest = next.after;
          chained = subst (λ (j : ℕ). EndsIn cells base j next.after) before next.chained;
          below = next.below;
          same =
              more_left v.all v.all_chained
              ∙ fakes_on places i alt next.after s k g
              ∙ sym (ap (λ (z : Table). end_fakes places next.after k (network_of z (k + 1)))
              (led_stored places i alt next.after s k fs gs us vs u x y a f m l b c d)
              ∙ ap (λ (j : ℕ). end_fakes places next.after k (network_of (led_to places i alt next.after s k) j))
              (add-one k));
        }

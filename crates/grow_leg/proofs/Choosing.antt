-- Whether a link is a destination, and the links over which a run can go on behind it.
use mathlib.Core.Path.{◌≡◌, refl, sym, ap, ◌∙◌, subst}
use mathlib.Core.Bool.{Bool, true, false}
use mathlib.Core.List.{List}
use Prim.Native.Nat.{ℕ, ◌+◌, ◌%◌, ◌≤◌, ◌<◌}
use native.Mathlib.Omega.{arith}
use borrow.Author.Tests.{eq-eqb, ne_eqb}
use lib.Dec.{eqb}
use lib.ListN.{get_or}
use Rattle.laws.specs.Answer.{refused, and_then}
use Rattle.laws.specs.Below.{some_below}
use Rattle.laws.proofs.Below.{some_at, none_more}
use Rattle.book_format.specs.declared.Link.{Link}
use Rattle.book_format.specs.Format.{links, destinations, link_at, link_next, link_next_alt, destination_link}
use Rattle.book_format.specs.Rows.{row5}
use Rattle.book_format.specs.Chains.{Readable}
use Rattle.book_legs.proofs.Found.{next_named, next_alt_named}
use Rattle.book_options.specs.Options.{OptionsIn, in_set}
use Rattle.grow_rules.specs.Run.{Net, Run}
use Rattle.grow_rules.specs.Growth.{is_destination, on_over, save_over, on_as}
use Rattle.grow_leg.specs.declared.Ways.TheVariants.{One, Both}
use Rattle.std.specs.Prelude.{Ok, Err}
use Rattle.refusals.specs.declared.Refusal.{Refusal}
use Rattle.refusals.specs.declared.Refusal.TheVariants.{NoWayOn}
use Rattle.refusals.specs.Refusals.{refusal_number}
use Rattle.grow_leg.specs.OneLeg.{ways_as}

-- ---- destinations

module _ (b : List ℕ) (link : ℕ) where
  -- none of the first n is the link
  abbrev pub NoneOf : ℕ → Type 0
  NoneOf n = some_below n (λ i. eqb (destination_link b i) link) ≡ false

  pub none_yet : NoneOf 0
  unfolding some_below
  none_yet = refl

  pub none_next : (i : ℕ) → NoneOf i → (r : ℕ) → r ≡ destination_link b i → (r ≡ link → ⊥) → NoneOf (i + 1)
  none_next i n r e f = none_more i (λ k. eqb (destination_link b k) link) n
      (ne_eqb (destination_link b i) link (λ d. f (e ∙ d)))

  pub one_there : (i : ℕ) → i < destinations b → (r : ℕ) → r ≡ destination_link b i → r ≡ link
      → true ≡ is_destination b link
  unfolding is_destination
  one_there i h r e f = sym (some_at (destinations b) (λ k. eqb (destination_link b k) link) i h
      (eq-eqb (destination_link b i) link (sym e ∙ f)))

  pub none_there : (n : ℕ) → n ≡ destinations b → NoneOf n → false ≡ is_destination b link
  unfolding is_destination
  none_there n e h = sym (subst NoneOf e h)

-- of the destinations up to one, each way to go on or to end
pub ruleset destination_laws = (none_yet, none_next, one_there, none_there)

-- ---- the ways behind a link

-- link l as it was read
module _ {b b' : List ℕ} (same : b' ≡ b) (readable : Readable b') (l : ℕ) (h : l < links b) {x : Link}
    (e : x ≡ link_at b' l) where
  next_is : x.idx_next ≡ link_next b l
  unfolding link_at
  next_is = ap (λ (y : Link). y.idx_next) e ∙ ap (λ (a : List ℕ). link_next a l) same

  alt_is : x.idx_next_alt ≡ link_next_alt b l
  unfolding link_at
  alt_is = ap (λ (y : Link). y.idx_next_alt) e ∙ ap (λ (a : List ℕ). link_next_alt a l) same

  indices : row5 b ≡ false
  indices = (subst Readable same readable).indices

  -- both name links
  pub next_within : (n : ℕ) → links b ≤ n → x.idx_next < n
  next_within n g = omega (arith, next_is, next_named b indices l h)

  pub alt_within : (n : ℕ) → links b ≤ n → x.idx_next_alt < n
  alt_within n g = omega (arith, alt_is, next_alt_named b indices l h)

  pub ways_are : (z m a : Bool) → eqb x.idx_next 0 ≡ z → in_set b (link_next b l) ≡ m → in_set b (link_next_alt b l) ≡ a
      → ways_as z m a x.idx_next x.idx_next_alt ≡ ways_as (eqb (link_next b l) 0) (in_set b (link_next b l))
      (in_set b (link_next_alt b l)) (link_next b l) (link_next_alt b l)
  ways_are z m a p q r =
      ap (λ (t : Bool). ways_as t m a x.idx_next x.idx_next_alt) (sym p ∙ ap (λ (n : ℕ). eqb n 0) next_is)
      ∙ ap (λ (t : Bool). ways_as (eqb (link_next b l) 0) t a x.idx_next x.idx_next_alt) (sym q)
      ∙ ap (λ (t : Bool). ways_as (eqb (link_next b l) 0) (in_set b (link_next b l)) t x.idx_next x.idx_next_alt)
      (sym r)
      ∙ ap (λ (n : ℕ). ways_as (eqb (link_next b l) 0) (in_set b (link_next b l))
      (in_set b (link_next_alt b l)) n x.idx_next_alt) next_is
      ∙ ap (ways_as (eqb (link_next b l) 0) (in_set b (link_next b l)) (in_set b (link_next_alt b l)) (link_next b l))
      alt_is

  -- what a mark says of one of them
  module _ {marks : List ℕ} (k : OptionsIn b marks) where
    next_in : (r : Bool) → r ≡ eqb (get_or marks x.idx_next 0 % 2) 1 → in_set b (link_next b l) ≡ r
    next_in r f = sym (f ∙ ap (λ (n : ℕ). eqb (get_or marks n 0 % 2) 1) next_is
        ∙ k.set (link_next b l) (next_named b indices l h))

    alt_in : (r : Bool) → r ≡ eqb (get_or marks x.idx_next_alt 0 % 2) 1 → in_set b (link_next_alt b l) ≡ r
    alt_in r f = sym (f ∙ ap (λ (n : ℕ). eqb (get_or marks n 0 % 2) 1) alt_is
        ∙ k.set (link_next_alt b l) (next_alt_named b indices l h))

    -- the ways by both marks
    pub ways_by : (m a : Bool) → eqb x.idx_next 0 ≡ false → m ≡ eqb (get_or marks x.idx_next 0 % 2) 1
        → a ≡ eqb (get_or marks x.idx_next_alt 0 % 2) 1
        → ways_as false m a x.idx_next x.idx_next_alt ≡ ways_as (eqb (link_next b l) 0) (in_set b (link_next b l))
        (in_set b (link_next_alt b l)) (link_next b l) (link_next_alt b l)
    ways_by m a z f g = ways_are false m a z (next_in m f) (alt_in a g)

-- ---- what the run does with them

pub record Fork (z : Bool) (next alt x y : ℕ) : Type 0 where
  pub some : z ≡ false
  pub first : x ≡ next
  pub second : y ≡ alt

module _ (b : List ℕ) (places : ℕ) (net : Net) (run : Run) (rest : List Run) (next alt : ℕ) where
  pub go_none : (z m a : Bool) (r : Refusal) → Err r ≡ ways_as z m a next alt
      → on_as z m a b places net run next alt rest ≡ refused (refusal_number r)
  go_none true m a r e = let d : r ≡ NoWayOn = cc in ap (λ (x : Refusal). refused (refusal_number x)) (sym d)
  go_none false false false r e = let d : r ≡ NoWayOn = cc in ap (λ (x : Refusal). refused (refusal_number x)) (sym d)
  go_none false true false r e = cc
  go_none false false true r e = cc
  go_none false true true r e = cc

  pub go_one : (z m a : Bool) (x : ℕ) → Ok (One x) ≡ ways_as z m a next alt
      → on_as z m a b places net run next alt rest ≡ on_over b net run x rest
  go_one true m a x e = let o : ◌≡◌ {A = ℕ} 0 1 = cc in absurd (omega arith)
  go_one false false false x e = let o : ◌≡◌ {A = ℕ} 0 1 = cc in absurd (omega arith)
  go_one false true false x e = let d : x ≡ next = cc in ap (λ (k : ℕ). on_over b net run k rest) (sym d)
  go_one false false true x e = let d : x ≡ alt = cc in ap (λ (k : ℕ). on_over b net run k rest) (sym d)
  go_one false true true x e = let o : ◌≡◌ {A = ℕ} 0 1 = cc in absurd (omega arith)

  pub go_both : (z m a : Bool) (x y : ℕ) → Ok (Both x y) ≡ ways_as z m a next alt
      → on_as z m a b places net run next alt rest ≡ and_then (save_over b places run y rest) (on_over b net run x)
  go_both true m a x y e = let o : ◌≡◌ {A = ℕ} 0 1 = cc in absurd (omega arith)
  go_both false false false x y e = let o : ◌≡◌ {A = ℕ} 0 1 = cc in absurd (omega arith)
  go_both false true false x y e = let o : ◌≡◌ {A = ℕ} 0 1 = cc in absurd (omega arith)
  go_both false false true x y e = let o : ◌≡◌ {A = ℕ} 0 1 = cc in absurd (omega arith)
  go_both false true true x y e =
      let d : x ≡ next = cc in
      let f : y ≡ alt = cc in
      ap (λ (k : ℕ). and_then (save_over b places run k rest) (on_over b net run next)) (sym f)
      ∙ ap (λ (k : ℕ). and_then (save_over b places run y rest) (on_over b net run k)) (sym d)

-- both links are there, each where it was found
pub both_are : (z m a : Bool) (next alt x y : ℕ) → Ok (Both x y) ≡ ways_as z m a next alt → Fork z next alt x y
both_are true m a next alt x y e = let o : ◌≡◌ {A = ℕ} 0 1 = cc in absurd (omega arith)
both_are false false false next alt x y e = let o : ◌≡◌ {A = ℕ} 0 1 = cc in absurd (omega arith)
both_are false true false next alt x y e = let o : ◌≡◌ {A = ℕ} 0 1 = cc in absurd (omega arith)
both_are false false true next alt x y e = let o : ◌≡◌ {A = ℕ} 0 1 = cc in absurd (omega arith)
both_are false true true next alt x y e =
    let d : x ≡ next = cc in
    let f : y ≡ alt = cc in
    record { some = refl; first = d; second = f }

-- The loop over the legs: what holds after i of them, and each way a turn can end.
use mathlib.Core.Path.{◌≡◌, refl, sym, ap, ◌∙◌, subst}
use mathlib.Core.Bool.{Bool, true, false, not, ◌||◌}
use mathlib.Core.List.{List}
use Prim.Native.Nat.{ℕ, ◌+◌, ◌*◌, ◌≤◌, ◌<◌}
use native.Mathlib.Numerals.{add-one}
use native.Mathlib.Omega.{arith}
use lib.ListN.{length, get_or}
use Rattle.laws.specs.Below.{some_below, sum_below}
use Rattle.laws.proofs.Below.{none_more, some_at}
use Rattle.laws.proofs.Truth.{or_left, or_right, none_left, none_right, neither}
use Rattle.space.specs.Space.{zeros}
use Rattle.book_format.specs.declared.Leg.{Leg}
use Rattle.book_format.specs.Format.{legs, leg_parent, first_sample, leg_at}
use Rattle.book_format.specs.Rows.{leg_falls, leg_begins}
use Rattle.book_format.specs.Chains.{with_leg, linked, all_linked, Readable}
use Rattle.book_format.proofs.Given.{leg_parent_lem, leg_samples_lem}
use Rattle.book_legs.specs.Legs.{samples_fail}
use Rattle.book_legs.proofs.Counts.{leg_in_lem, first_next}
use Rattle.book_legs.proofs.Chains.{Room, linked_ends}

pub record Linking (b : List ℕ) (len : ℕ) (cells : List ℕ) (i first : ℕ) : Type 0 where
  pub is : cells ≡ linked b i (zeros len)
  pub begun : first ≡ first_sample b i
  pub falls : some_below i (leg_falls b) ≡ false
  pub begins : some_below i (λ j. not (leg_begins b j)) ≡ false
  pub within : i ≤ legs b

pub linking_start : (b : List ℕ) (cells : List ℕ) → cells ≡ zeros (length cells) → Linking b (length cells) cells 0 0
unfolding linked some_below first_sample sum_below
linking_start b cells z = record { is = z; begun = refl; falls = refl; begins = refl; within = omega arith }

pub room_of : {b : List ℕ} → Readable b → (len : ℕ) → (legs b + 1) * 8 ≤ len → Room b len
room_of r len h = record { room = h; parents = λ i g. (leg_in_lem r i g).parent }

-- the parent's end, as the cells have it
pub linking_end : {b : List ℕ} {len : ℕ} {cells : List ℕ} {i first : ℕ} → Room b len → Linking b len cells i first → i < legs b → (p : ℕ) → p ≡ leg_parent b i
    → get_or cells (p * 8 + 2) 0 ≡ first_sample b (leg_parent b i)
linking_end {b} {len} {cells} {i} h l g p e =
    ap (λ (q : ℕ). get_or cells (q * 8 + 2) 0) e
    ∙ ap (λ (w : List ℕ). get_or w (leg_parent b i * 8 + 2) 0) l.is
    ∙ linked_ends b len h i l.within (leg_parent b i) (h.parents i g)

-- a leg that fails
pub linking_found : (b : List ℕ) (i : ℕ) → i < legs b → (leg_falls b i || not (leg_begins b i)) ≡ true
    → true ≡ samples_fail b
linking_found b i g e = go (leg_falls b i) (not (leg_begins b i)) refl refl e
  where
    go : (x y : Bool) → leg_falls b i ≡ x → not (leg_begins b i) ≡ y → (x || y) ≡ true → true ≡ samples_fail b
    go true y p q t = sym (or_left (some_below (legs b) (leg_falls b)) (some_below (legs b) (λ j. not (leg_begins b j))) (some_at (legs b) (leg_falls b) i g p))
    go false y p q t = sym (or_right (some_below (legs b) (leg_falls b)) (some_below (legs b) (λ j. not (leg_begins b j))) (some_at (legs b) (λ j. not (leg_begins b j)) i g (q ∙ t)))

-- a leg that is linked
linked_one : (b : List ℕ) (i : ℕ) (w : List ℕ) → linked b (i + 1) w ≡ with_leg (linked b i w) (i + 1) (leg_parent b i) (first_sample b (i + 1))
unfolding linked
linked_one b i w = ap (λ (n : ℕ). linked b n w) (add-one i)

pub linking_on : {b : List ℕ} {len : ℕ} {cells : List ℕ} {i first : ℕ} → Linking b len cells i first → i < legs b → (leg_falls b i || not (leg_begins b i)) ≡ false
    → (l : Leg) → l ≡ leg_at b i → (cells' : List ℕ) → cells' ≡ with_leg cells (i + 1) l.parent (first + l.samples) → Linking b len cells' (i + 1) (first + l.samples)
linking_on {b} {len} {cells} {i} {first} k g e l d cells' w =
    let n : first + l.samples ≡ first_sample b (i + 1) = ap (λ (x : ℕ). x + l.samples) k.begun ∙ ap (λ (x : ℕ). first_sample b i + x) (leg_samples_lem b i l d) ∙ sym (first_next b i) in
    record {
      is =
          w
          ∙ ap (λ (v : List ℕ). with_leg v (i + 1) l.parent (first + l.samples)) k.is
          ∙ ap (λ (p : ℕ). with_leg (linked b i (zeros len)) (i + 1) p (first + l.samples)) (leg_parent_lem b i l d)
          ∙ ap (with_leg (linked b i (zeros len)) (i + 1) (leg_parent b i)) n
          ∙ sym (linked_one b i (zeros len));
      begun = n;
      falls = none_more i (leg_falls b) k.falls (none_left (leg_falls b i) (not (leg_begins b i)) e);
      begins = none_more i (λ j. not (leg_begins b j)) k.begins (none_right (leg_falls b i) (not (leg_begins b i)) e);
      within = omega arith;
    }

-- all legs are linked
pub linking_done : {b w cells : List ℕ} {i first : ℕ} → Linking b (length w) cells i first → w ≡ zeros (length w) → legs b ≤ i
    → (false ≡ samples_fail b) × (cells ≡ all_linked b w)
linking_done {b} {w} {cells} {i} k z h =
    let e : i ≡ legs b = omega (arith, k.within) in (
      sym
          (neither (some_below (legs b) (leg_falls b)) (some_below (legs b) (λ j. not (leg_begins b j)))
          (subst (λ (n : ℕ). some_below n (leg_falls b) ≡ false) e k.falls) (subst (λ (n : ℕ). some_below n (λ j. not (leg_begins b j)) ≡ false) e k.begins)),
      subst (λ (n : ℕ). cells ≡ linked b n (zeros (length w))) e k.is ∙ ap (linked b (legs b)) (sym z),
    )

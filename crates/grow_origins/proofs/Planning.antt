-- What growth goes by: a book that was read gives a plan.
use mathlib.Core.Path.{◌≡◌, refl, sym, ap, ◌∙◌, subst}
use mathlib.Core.Bool.{true, false, not, ◌||◌}
use mathlib.Core.List.{List}
use Prim.Native.Nat.{ℕ, ◌+◌, ◌*◌, ◌≤◌}
use native.Mathlib.Omega.{arith}
use borrow.Author.Tests.{not-false}
use lib.Dec.{T}
use lib.ListN.{length}
use lib.Ieee.{binary64, of_bits, nan_bits}
use Rattle.laws.specs.Below.{some_below}
use Rattle.laws.proofs.Below.{none_left, none_right}
use Rattle.floats.specs.Floats.{book_float}
use Rattle.book_format.specs.declared.HeadPatterns.{HeadPatterns}
use Rattle.book_format.specs.Format.{links, origins, samples, legs, link_length, join_bits, departure_bits, length_bits}
use Rattle.book_format.specs.Format.{head_patterns, end_of}
use Rattle.book_format.specs.Rows.{bad_origin_value, bad_sample, row4, row7}
use Rattle.book_format.specs.Chains.{Readable}
use Rattle.book_format.proofs.Floats.{book_no_nan}
use Rattle.book_format.proofs.Given.{limits, length_float}
use Rattle.grow_state.specs.declared.Plan.{Plan}
use Rattle.grow_state.specs.Held.{PlanIn}

-- ---- the floats at the head

module _ (b : List ℕ) (h : row4 b ≡ false) where
  both : (not (book_float (join_bits b)) || not (book_float (departure_bits b))) ≡ false
  unfolding row4
  both =
      let two = not (book_float (join_bits b)) || not (book_float (departure_bits b)) in
      let heads = two || not (book_float (length_bits b)) in
      let some_links = some_below (links b) (λ i. not (book_float (link_length b i))) in
      let some_origins = some_below (origins b) (bad_origin_value b) in
      none_left two (not (book_float (length_bits b)))
      (none_left heads some_links (none_left (heads || some_links) some_origins
      (none_left (heads || some_links || some_origins) (some_below (samples b) (bad_sample b)) h)))

  join_float : book_float (join_bits b) ≡ true
  join_float = not-false (book_float (join_bits b))
      (none_left (not (book_float (join_bits b))) (not (book_float (departure_bits b))) both)

  departure_float : book_float (departure_bits b) ≡ true
  departure_float = not-false (book_float (departure_bits b))
      (none_right (not (book_float (join_bits b))) (not (book_float (departure_bits b))) both)

-- what is read of the book that a reader holds
module _ {b b' : List ℕ} (is : b' ≡ b) (v : Readable b') where
  readable : Readable b
  readable = subst Readable is v

  pub legs_small : (j : ℕ) → j ≡ legs b' → j ≤ 65535
  legs_small j e = omega (arith, e, (limits b' v.counted.counts).legs_most)

  module _ (head : HeadPatterns) (read : head ≡ head_patterns b') where
    e : head ≡ head_patterns b
    e = read ∙ ap head_patterns is

    pub join_number : T (not (nan_bits binary64 head.join))
    unfolding head_patterns
    join_number = subst (λ (x : HeadPatterns). T (not (nan_bits binary64 x.join))) (sym e)
        (book_no_nan (join_bits b) (join_float b readable.floats))

    pub departure_number : T (not (nan_bits binary64 head.departure))
    unfolding head_patterns
    departure_number = subst (λ (x : HeadPatterns). T (not (nan_bits binary64 x.departure))) (sym e)
        (book_no_nan (departure_bits b) (departure_float b readable.floats))

    pub length_number : T (not (nan_bits binary64 head.length))
    unfolding head_patterns
    length_number = subst (λ (x : HeadPatterns). T (not (nan_bits binary64 x.length))) (sym e)
        (book_no_nan (length_bits b) (length_float b readable.floats))

    -- the plan, as the code puts it together
    abbrev plan_of : (j l places : ℕ) → (j + 1) * 8 ≤ (j + 1) * 8 → Plan
    plan_of j l places before = record {
      w = record { links_at = (j + 1) * 8 + places * 8; nodes_at = (j + 1) * 8; links = l; places = places };
      r = record { nodes_at = (j + 1) * 8; pairs_at = j + 2; legs = j; places = places; legs_before = before };
      join = of_bits binary64 head.join;
      departure = of_bits binary64 head.departure;
      length = of_bits binary64 head.length;
    }

    pub plan_holds : {bytes : List ℕ} → bytes ≡ b' → length bytes ≡ end_of bytes → row7 b ≡ false
        → (j l places reals : ℕ) (before : (j + 1) * 8 ≤ (j + 1) * 8) → j ≡ legs b' → l ≡ links b'
        → legs b * 3 + 4 ≤ reals → PlanIn b (plan_of j l places before) reals
    unfolding head_patterns
    plan_holds same whole seven j l places reals before many all h =
        let n : j ≡ legs b = many ∙ ap legs is in
        record {
          whole = subst (λ (x : List ℕ). length x ≡ end_of x) (same ∙ is) whole;
          readable = readable;
          row7 = seven;
          join = ap (λ (x : HeadPatterns). of_bits binary64 x.join) e;
          departs = ap (λ (x : HeadPatterns). of_bits binary64 x.departure) e;
          train = ap (λ (x : HeadPatterns). of_bits binary64 x.length) e;
          all_links = all ∙ ap links is;
          all_legs = n;
          nodes_at = omega (arith, n);
          same_nodes = refl;
          same_places = refl;
          pairs_at = omega (arith, n);
          pairs = omega (arith, n, h);
        }

-- the three patterns are numbers'
pub ruleset number_laws = (join_number, departure_number, length_number)

-- Where the walk begins: the front point found among all points is the one found from the back point on, and it is a point of the path.
use mathlib.Core.Path.{◌≡◌, refl, sym, ap, ◌∙◌, subst}
use mathlib.Core.Bool.{Bool, true, false, true≢false}
use Prim.Native.Nat.{ℕ, ◌-◌, ◌≤◌, ◌<◌}
use native.Mathlib.Omega.{arith}
use borrow.Author.Tests.{ltb-true, ltb-false}
use lib.Dec.{ltb}
use lib.Ieee.{Float, binary64, sub}
use Rattle.floats.proofs.Order.{le_trans, le_not_lt, sub_shrinks}
use Rattle.book_format.specs.declared.Sample.{Sample}
use Rattle.event_walk.specs.Course.{Course, Walkable}
use Rattle.event_walk.specs.Walk.{first_beyond, start_back, start_front, start, Within}
use Rattle.event_walk.proofs.Searches.{First, first_is, first_found}
use Rattle.event_walk.proofs.Turns.{heads}

module _ {c : Course} (w : Walkable c) where
  -- the first sample's offset, and where the train's end is then
  abbrev head : Float
  head = (c.sample 0).offset

  abbrev tail : Float
  tail = sub binary64 (c.sample 0).offset c.length

  abbrev front : ℕ
  front = first_beyond c.offset head 0 c.points

  abbrev back : ℕ
  back = first_beyond c.offset tail 0 c.points

  front_first : First c.offset head 0 c.points front
  front_first = first_found c.offset head 0 c.points

  back_first : First c.offset tail 0 c.points back
  back_first = first_found c.offset tail 0 c.points

  -- a sample lies before the last point
  front_inside : front < c.points
  front_inside = go (ltb front c.points) refl
    where
      go : (t : Bool) → ltb front c.points ≡ t → front < c.points
      go true e = ltb-true front c.points e
      go false e =
          let g : c.points ≤ front = ltb-false front c.points e in
          absurd
          (true≢false
          (sym (w.before_last 0 w.some) ∙ le_not_lt (c.offset (c.points - 1)) head (front_first.before (c.points - 1) (omega arith) (omega (arith, w.some_points)))))

  -- what is not beyond the train's end is not beyond its front
  back_first_too : back ≤ front
  back_first_too = go (ltb front back) refl
    where
      go : (t : Bool) → ltb front back ≡ t → back ≤ front
      go false e = ltb-false front back e
      go true e =
          absurd
          (true≢false
          (sym (le_trans (c.offset front) tail head (back_first.before front (omega arith) (ltb-true front back e)) (sub_shrinks head c.length (w.sizes 0 w.some) w.train w.bounded))
          ∙ front_first.beyond (omega (arith, front_inside))))

  from_back : first_beyond c.offset head back (c.points - back) ≡ front
  from_back =
      first_is c.offset head back (c.points - back) front
      (record {
        after = back_first_too;
        inside = omega (arith, front_inside);
        before = λ j h g. front_first.before j (omega arith) g;
        beyond = λ h. front_first.beyond (omega (arith, front_inside));
      })

  start_is : (b f : ℕ) → b ≡ back → f ≡ front → heads 1 b f ≡ start c
  unfolding start start_front start_back
  start_is b f p q = ap (λ (x : ℕ). heads 1 x f) p ∙ ap (heads 1 back) (q ∙ sym from_back)

  start_within : (b f : ℕ) → b ≡ back → f ≡ front → Within c (heads 1 b f)
  start_within b f p q = record { after = omega arith; order = omega (arith, back_first_too); inside = omega (arith, front_inside) }

  pub within_start : Within c (start c)
  within_start = subst (Within c) (start_is back front refl refl) (start_within back front refl refl)

  -- in the code's words
  module _ (s : Sample) (e : s ≡ c.sample 0) (b f : ℕ) (p : b ≡ first_beyond c.offset (sub binary64 s.offset c.length) 0 c.points) (q : f ≡ first_beyond c.offset s.offset 0 c.points) where
    back_is : b ≡ back
    back_is = p ∙ ap (λ (o : Sample). first_beyond c.offset (sub binary64 o.offset c.length) 0 c.points) e

    front_is : f ≡ front
    front_is = q ∙ ap (λ (o : Sample). first_beyond c.offset o.offset 0 c.points) e

    pub started : heads 1 b f ≡ start c
    started = start_is b f back_is front_is

    pub started_within : Within c (heads 1 b f)
    started_within = start_within b f back_is front_is

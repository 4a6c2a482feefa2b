-- Document 02, Ask 1, beside document 01's formula: which times it changes, and which it can't.
use mathlib.Core.Path.{◌≡◌, refl, sym, ap, ◌∙◌, subst}
use mathlib.Core.Logic.{⊎_elim}
use mathlib.Core.Bool.{Bool, true, false, not, ◌&&◌}
use Prim.Native.Nat.{ℕ, ◌^◌, ◌<◌, ◌≤◌}
use native.Mathlib.Omega.{arith}
use borrow.Author.Tests.{leb-true, not-false}
use lib.Dec.{T, ltb}
use lib.IntN.{ℤ, pos}
use lib.Ieee.{Float, nan, inf, fin, binary64, low, top, add, sub, eq, is_nan, fits, of_bits}
use lib.Ieee.Bits.{of_bits-fits}
use lib.Ieee.Exact.{HasValue}
use lib.Ieee.Scale.{finite}
use Rattle.laws.proofs.Truth.{never, true_or_false, and_left, and_right, and_none, both, none_left}
use Rattle.floats.specs.Floats.{table_float, book_float}
use Rattle.floats.proofs.Laws.{table_finite}
use Rattle.floats.proofs.Patterns.{book_is}
use Rattle.floats.proofs.Zeros.{zero_quotient, less_nan, zero_over, less_zero, finite_sum}
use Rattle.root.specs.Steps.{magnitude}
use Rattle.root.proofs.Patterns.{pattern_value}
use Rattle.book_format.specs.declared.Sample.{Sample}
use Rattle.event_formula.specs.Event.{twice_ahead, speed_at, time_by_quotient, stands_at, time_at, passing_at, bad_passing}
use Rattle.event_formula.proofs.Laws.{own_time, quotient_time}

abbrev origin : Float
origin = of_bits binary64 0

-- ---- which times change

-- where the train stands on the point the quotient has no value
pub no_quotient : (s : Sample) (speed d : Float) → stands_at s speed d ≡ true → time_by_quotient s speed d ≡ nan
unfolding stands_at time_by_quotient
no_quotient s speed d h =
    let sum = add binary64 s.speed speed in
    ap (sub binary64 s.time) (zero_quotient d sum (and_left (eq d origin) (eq sum origin) h) (and_right (eq d origin) (eq sum origin) h))
    ∙ less_nan s.time

-- so wherever document 01's formula gives a time, it is the event's, bit for bit
pub time_kept : (s : Sample) (speed d : Float) → is_nan (time_by_quotient s speed d) ≡ false → time_at s speed d ≡ time_by_quotient s speed d
unfolding is_nan
time_kept s speed d h = ⊎_elim (λ (p : stands_at s speed d ≡ true). never (ap is_nan (sym (no_quotient s speed d p)) ∙ h)) (λ (p : stands_at s speed d ≡ false). quotient_time s speed d p) (true_or_false (stands_at s speed d))

-- ---- which can't

-- a book's float is finite, with the sign clear
plus : (n : ℕ) → book_float n ≡ true → (m : ℕ) × (e : ℤ) × (of_bits binary64 n ≡ fin false m e)
plus n h = go (of_bits binary64 n) (pattern_value binary64 n (below n (leb-true n 0x41cd_cd65_0000_0000 (book_is n ∙ h))))
  where
    below : (n : ℕ) → n ≤ 0x41cd_cd65_0000_0000 → n < 9218868437227405312
    below n l = omega arith

    go : (x : Float) → HasValue x false (magnitude binary64 n) (2 ^ low binary64) → (m : ℕ) × (e : ℤ) × (x ≡ fin false m e)
    go nan v = absurd v
    go (inf s) v = absurd v
    go (fin true m e) v = never v.0
    go (fin false m e) v = (m, e, refl)

-- where d is zero and v + speed any other number, the quotient's time is the sample's own
own_quotient : (s : Sample) (speed d : Float) (n : ℕ) → book_float n ≡ true → s.time ≡ of_bits binary64 n → eq d origin ≡ true
    → is_nan (add binary64 s.speed speed) ≡ false → eq (add binary64 s.speed speed) origin ≡ false → time_by_quotient s speed d ≡ s.time
unfolding time_by_quotient
own_quotient s speed d n b e h k g =
    let q = zero_over d (add binary64 s.speed speed) h k g in
    let p = plus n b in
    let t : s.time ≡ fin false p.0 p.1 = e ∙ p.2 in
    ap (sub binary64 s.time) q.1
    ∙ ap (λ (x : Float). sub binary64 x (fin q.0 0 (pos 0))) t
    ∙ less_zero q.0 p.0 p.1 (subst (λ (x : Float). T (fits binary64 x)) p.2 (of_bits-fits binary64 n))
    ∙ sym t

stands : (s : Sample) (speed d : Float) → eq d origin ≡ true → eq (add binary64 s.speed speed) origin ≡ true → stands_at s speed d ≡ true
unfolding stands_at
stands s speed d p q = both (eq d origin) (eq (add binary64 s.speed speed) origin) p q

stands_not : (s : Sample) (speed d : Float) → eq (add binary64 s.speed speed) origin ≡ false → stands_at s speed d ≡ false
unfolding stands_at
stands_not s speed d q = ap (λ (z : Bool). eq d origin && z) q ∙ and_none (eq d origin)

-- So an event at the sample's own offset that row 11 lets through has the sample's own time, at whatever speed: a test of
-- d alone would change no answer. It would change an event whose speed is no number, which row 11 refuses.
pub own_at_sample : (s before : Sample) (offset : Float) (n k : ℕ) → book_float n ≡ true → s.time ≡ of_bits binary64 n → book_float k ≡ true → s.speed ≡ of_bits binary64 k
    → eq (twice_ahead s offset) origin ≡ true → bad_passing (passing_at s before offset) ≡ false → (passing_at s before offset).time ≡ s.time
unfolding passing_at bad_passing book_float
own_at_sample s before offset n k b e c f h good =
    let d = twice_ahead s offset in
    let v = speed_at s before d in
    let sum = add binary64 s.speed v in
    let number : is_nan sum ≡ false =
    finite_sum s.speed v (ap finite f ∙ table_finite (of_bits binary64 k) (and_right (ltb k (top binary64)) (table_float (of_bits binary64 k)) c))
    (not-false (finite v) (none_left (not (finite v)) (not (table_float (time_at s v d))) good)) in
    ⊎_elim (λ (z : eq sum origin ≡ true). own_time s v d (stands s v d h z))
    (λ (z : eq sum origin ≡ false). quotient_time s v d (stands_not s v d z) ∙ own_quotient s v d n b e h number z) (true_or_false (eq sum origin))

-- The order of entries: asymmetric; what may stand above is transitive; and of two entries one is before the other or they are equal. Assumes nothing.
use mathlib.Core.Path.{◌≡◌, refl, sym, ap, ◌∙◌}
use mathlib.Core.Bool.{Bool, true, false, ◌&&◌}
use Prim.Native.Nat.{ℕ, ◌≤◌, ◌<◌}
use native.Mathlib.Omega.{arith}
use borrow.Author.Tests.{ltb-true, ltb-false, le-ltb, eqb-true, eq-eqb}
use lib.Dec.{T, ltb, eqb}
use lib.Ieee.{Float, binary64, lt, is_nan, fits, of_bits, to_bits}
use lib.Ieee.Bits.{of_bits-to_bits}
use Rattle.laws.proofs.Truth.{never, and_is}
use Rattle.floats.proofs.Order.{lt_asym, not_lt, le_trans, le_not_lt}
use Rattle.pass_queue.specs.declared.Entry.{Entry}
use Rattle.pass_queue.specs.Queue.{then_by, by_bits, before_forward, before_backward, before, Ordered, same_entry}

-- what a heap asks of an order, over the entries that are in order at all
pub record Laws {E : Type 0} (Ok : E → Type 0) (bef : E → E → Bool) : Type 0 where
  pub asym : (a b : E) → bef a b ≡ true → bef b a ≡ false
  pub trans : (a b c : E) → Ok a → Ok b → Ok c → bef b a ≡ false → bef c b ≡ false → bef c a ≡ false

-- no entry is before itself
pub not_self : {E : Type 0} {Ok : E → Type 0} {bef : E → E → Bool} → Laws Ok bef → (a : E) → bef a a ≡ false
not_self {E} {Ok} {bef} o a = go (bef a a) refl
  where
    go : (t : Bool) → bef a a ≡ t → bef a a ≡ false
    go true p = o.asym a a p
    go false p = p

-- ---- by a first key

then_first : (s t r : Bool) → then_by s t r ≡ false → s ≡ false
then_first true t r h = h
then_first false t r h = refl

then_rest : (s t r : Bool) → then_by s t r ≡ false → t ≡ false → r ≡ false
then_rest true t r h q = never h
then_rest false true r h q = never q
then_rest false false r h q = h

then_none : (s t r : Bool) → s ≡ false → (t ≡ false → r ≡ false) → then_by s t r ≡ false
then_none true t r p f = never p
then_none false true r p f = refl
then_none false false r p f = f refl

-- by one order, and where it decides nothing by another
module _ {E : Type 0} {Ok : E → Type 0} {l r : E → E → Bool} where
  lex : Laws Ok l → Laws Ok r → Laws Ok (λ a b. then_by (l a b) (l b a) (r a b))
  lex L R = record {
    asym = λ a b h. reversed a b (l a b) refl (l b a) refl h;
    trans = λ a b c A B C h k.
        let p = then_first (l b a) (l a b) (r b a) h in
        let q = then_first (l c b) (l b c) (r c b) k in
        then_none (l c a) (l a c) (r c a) (L.trans a b c A B C p q)
        (λ (e : l a c ≡ false). R.trans a b c A B C (then_rest (l b a) (l a b) (r b a) h (L.trans b c a B C A q e)) (then_rest (l c b) (l b c) (r c b) k (L.trans c a b C A B e p)));
  }
    where
      reversed : (a b : E) (s : Bool) → l a b ≡ s → (t : Bool) → l b a ≡ t → then_by s t (r a b) ≡ true → then_by t s (r b a) ≡ false
      reversed a b true p true q h = sym q ∙ L.asym a b p
      reversed a b true p false q h = refl
      reversed a b false p true q h = sym h
      reversed a b false p false q h = R.asym a b h

-- where neither is before the other, the first order decides nothing, and neither does the second
module _ {E : Type 0} (l r : E → E → Bool) where
  lex_rest : (a b : E) → then_by (l a b) (l b a) (r a b) ≡ false → then_by (l b a) (l a b) (r b a) ≡ false → (r a b ≡ false) × (r b a ≡ false)
  lex_rest a b h k = (
    then_rest (l a b) (l b a) (r a b) h (then_first (l b a) (l a b) (r b a) k),
    then_rest (l b a) (l a b) (r b a) k (then_first (l a b) (l b a) (r a b) h),
  )

  lex_first : (a b : E) → then_by (l a b) (l b a) (r a b) ≡ false → l a b ≡ false
  lex_first a b h = then_first (l a b) (l b a) (r a b) h

-- the greater first
flipped : {E : Type 0} {Ok : E → Type 0} {l : E → E → Bool} → Laws Ok l → Laws Ok (λ a b. l b a)
flipped o = record { asym = λ a b h. o.asym b a h; trans = λ a b c A B C h k. o.trans c b a C B A k h }

by_float : {E : Type 0} {Ok : E → Type 0} (key : E → Float) → ((a : E) → Ok a → is_nan (key a) ≡ false) → Laws Ok (λ a b. lt (key a) (key b))
by_float key number = record {
  asym = λ a b h. lt_asym (key a) (key b) h;
  trans = λ a b c A B C h k.
      le_not_lt (key a) (key c) (le_trans (key a) (key b) (key c) (not_lt (key b) (key a) (number b B) (number a A) h) (not_lt (key c) (key b) (number c C) (number b B) k));
}

by_number : {E : Type 0} {Ok : E → Type 0} (key : E → ℕ) → Laws Ok (λ a b. ltb (key a) (key b))
by_number key = record {
  asym = λ a b h. let p : key a < key b = ltb-true (key a) (key b) h in le-ltb (key b) (key a) (omega arith);
  trans = λ a b c A B C h k.
      let p : key a ≤ key b = ltb-false (key b) (key a) h in
      let q : key b ≤ key c = ltb-false (key c) (key b) k in
      le-ltb (key c) (key a) (omega arith);
}

equal_numbers : (a b : ℕ) → ltb a b ≡ false → ltb b a ≡ false → a ≡ b
equal_numbers a b h k =
    let p : b ≤ a = ltb-false a b h in
    let q : a ≤ b = ltb-false b a k in
    omega arith

-- ---- the order of entries

by_time : Laws Ordered (λ a b. lt a.time b.time)
by_time = by_float (λ (e : Entry). e.time) (λ e o. o.time)

by_sub : Laws Ordered (λ a b. lt a.sub b.sub)
by_sub = by_float (λ (e : Entry). e.sub) (λ e o. o.sub)

by_node : Laws Ordered (λ a b. ltb a.node b.node)
by_node = by_number (λ (e : Entry). e.node)

by_bits_lem : Laws Ordered by_bits
unfolding by_bits
by_bits_lem = lex (by_number (λ (e : Entry). to_bits binary64 e.time)) (by_number (λ (e : Entry). to_bits binary64 e.sub))

pub before_laws : (backward : Bool) → Laws Ordered (before backward)
unfolding before before_forward before_backward
before_laws false = lex by_time (lex by_node by_bits_lem)
before_laws true = lex (flipped by_time) (lex (flipped by_sub) (lex (flipped by_node) by_bits_lem))

-- ---- entries of equal bits and nodes are equal

equal_floats : (x y : Float) → T (fits binary64 x) → T (fits binary64 y) → to_bits binary64 x ≡ to_bits binary64 y → x ≡ y
equal_floats x y f g e = sym (of_bits-to_bits binary64 x f) ∙ ap (of_bits binary64) e ∙ of_bits-to_bits binary64 y g

equal_entries : (a b : Entry) → Ordered a → Ordered b → to_bits binary64 a.time ≡ to_bits binary64 b.time → to_bits binary64 a.sub ≡ to_bits binary64 b.sub → a.node ≡ b.node → a ≡ b
equal_entries a b A B p q r =
    let time = equal_floats a.time b.time A.time_fits B.time_fits p in
    let sub = equal_floats a.sub b.sub A.sub_fits B.sub_fits q in
    λ t. record { time = time t; sub = sub t; node = r t }

pub same_equal : (a b : Entry) → Ordered a → Ordered b → same_entry a b ≡ true → a ≡ b
unfolding same_entry
same_equal a b A B h =
    let p = and_is (eqb (to_bits binary64 a.time) (to_bits binary64 b.time) && eqb (to_bits binary64 a.sub) (to_bits binary64 b.sub)) (eqb a.node b.node) h in
    let q = and_is (eqb (to_bits binary64 a.time) (to_bits binary64 b.time)) (eqb (to_bits binary64 a.sub) (to_bits binary64 b.sub)) p.0 in
    equal_entries a b A B (eqb-true (to_bits binary64 a.time) (to_bits binary64 b.time) q.0) (eqb-true (to_bits binary64 a.sub) (to_bits binary64 b.sub) q.1) (eqb-true a.node b.node p.1)

pub same_self : (a : Entry) → same_entry a a ≡ true
unfolding same_entry
same_self a = rw (eq-eqb (to_bits binary64 a.time) (to_bits binary64 a.time) refl, eq-eqb (to_bits binary64 a.sub) (to_bits binary64 a.sub) refl, eq-eqb a.node a.node refl)

-- ---- the order is total

bits_total : (a b : Entry) → Ordered a → Ordered b → by_bits a b ≡ false → by_bits b a ≡ false → a.node ≡ b.node → a ≡ b
unfolding by_bits
bits_total a b A B h k r =
    let l : Entry → Entry → Bool = λ x y. ltb (to_bits binary64 x.time) (to_bits binary64 y.time) in
    let m : Entry → Entry → Bool = λ x y. ltb (to_bits binary64 x.sub) (to_bits binary64 y.sub) in
    let s = lex_rest l m a b h k in
    equal_entries a b A B
    (equal_numbers (to_bits binary64 a.time) (to_bits binary64 b.time) (lex_first l m a b h) (lex_first l m b a k))
    (equal_numbers (to_bits binary64 a.sub) (to_bits binary64 b.sub) s.0 s.1)
    r

-- by node, then by bits, in either direction of the nodes
module _ (a b : Entry) (A : Ordered a) (B : Ordered b) where
  rest_total : (l : Entry → Entry → Bool) → (l a b ≡ false → l b a ≡ false → a.node ≡ b.node)
      → then_by (l a b) (l b a) (by_bits a b) ≡ false → then_by (l b a) (l a b) (by_bits b a) ≡ false → a ≡ b
  rest_total l f h k =
      let s = lex_rest l by_bits a b h k in
      bits_total a b A B s.0 s.1 (f (lex_first l by_bits a b h) (lex_first l by_bits b a k))

  -- Two entries neither of which is before the other are equal
  pub before_total : (backward : Bool) → before backward a b ≡ false → before backward b a ≡ false → a ≡ b
  unfolding before before_forward before_backward
  before_total false h k =
      let n : Entry → Entry → Bool = λ x y. ltb x.node y.node in
      let s = lex_rest (λ x y. lt x.time y.time) (λ x y. then_by (n x y) (n y x) (by_bits x y)) a b h k in
      rest_total n (λ p q. equal_numbers a.node b.node p q) s.0 s.1
  before_total true h k =
      let n : Entry → Entry → Bool = λ x y. ltb y.node x.node in
      let r : Entry → Entry → Bool = λ x y. then_by (n x y) (n y x) (by_bits x y) in
      let m : Entry → Entry → Bool = λ x y. lt y.sub x.sub in
      let s = lex_rest (λ x y. lt y.time x.time) (λ x y. then_by (m x y) (m y x) (r x y)) a b h k in
      let t = lex_rest m r a b s.0 s.1 in
      rest_total n (λ p q. equal_numbers a.node b.node q p) t.0 t.1

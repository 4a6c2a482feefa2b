-- The queue of a time pass, the source's `BinaryHeap`. Document 01 under "Passes": "Forward takes the smaller time,
-- ties the smaller index; backward the greatest by `EstTimePrev`'s `partial_cmp`": time, sub, index. The definition is
-- a list, out of which the best entry is taken; where entries stand in it says nothing.
use Rattle.std.specs.Prelude.{◌≡◌, Bool, true, false, ◌&&◌, cond, List, [], ◌∷◌, ℕ, zero, suc, ◌+◌, ◌-◌, ◌*◌, ◌≤◌, ◌<◌}
use Rattle.std.specs.Prelude.{T, ltb, eqb, length, get_or, Float}
use Rattle.std.specs.declared.cmp.Ordering.{Ordering}
use Rattle.std.specs.declared.cmp.Ordering.TheVariants.{Less, Equal, Greater}
use Rattle.std.specs.Float.{nan, binary64}
use Rattle.std.specs.Float.Ieee.{lt, is_nan, fits, to_bits}
use Rattle.pass_queue.specs.declared.Entry.{Entry}

-- ---- the order

-- by a first key: less, greater, or as the rest says
abbrev pub then_by : Bool → Bool → Bool → Bool
then_by true greater rest = true
then_by false true rest = false
then_by false false rest = rest

-- how two keys compare: the first is less, or greater
abbrev pub order_by : Bool → Bool → Ordering
order_by true greater = Less
order_by false true = Greater
order_by false false = Equal

-- Entries that differ in nothing but the sign of a zero: by their bits, so that the order is total. Both name one node.
unfoldable pub by_bits : Entry → Entry → Bool
by_bits a b =
    then_by (ltb (to_bits binary64 a.time) (to_bits binary64 b.time))
    (ltb (to_bits binary64 b.time) (to_bits binary64 a.time))
    (ltb (to_bits binary64 a.sub) (to_bits binary64 b.sub))

-- "Forward takes the smaller time, ties the smaller index"
unfoldable pub before_forward : Entry → Entry → Bool
unfolding by_bits
before_forward a b = then_by (lt a.time b.time) (lt b.time a.time)
    (then_by (ltb a.node b.node) (ltb b.node a.node) (by_bits a b))

-- "backward the greatest": by time, then by sub, then by index
unfoldable pub before_backward : Entry → Entry → Bool
unfolding by_bits
before_backward a b =
    then_by (lt b.time a.time) (lt a.time b.time)
    (then_by (lt b.sub a.sub) (lt a.sub b.sub)
    (then_by (ltb b.node a.node) (ltb a.node b.node) (by_bits a b)))

-- whether a is taken before b
unfoldable pub before : Bool → Entry → Entry → Bool
unfolding before_forward before_backward
before false a b = before_forward a b
before true a b = before_backward a b

-- no float of an entry is a NaN: the source asserts it when an entry is made
pub record Ordered (e : Entry) : Type 0 where
  pub time : is_nan e.time ≡ false
  pub sub : is_nan e.sub ≡ false
  pub time_fits : T (fits binary64 e.time)
  pub sub_fits : T (fits binary64 e.sub)

-- ---- taking the best

-- the better of two
abbrev pub better : Bool → Entry → Entry → Entry
better backward a b = cond (before backward b a) b a

-- the best of e and a list
unfoldable pub best : Bool → Entry → List Entry → Entry
best backward e [] = e
best backward e (x ∷ xs) = best backward (better backward e x) xs

-- what is left: every other entry, in its order
abbrev pub worse : Bool → Entry → Entry → Entry
worse backward a b = cond (before backward b a) a b

unfoldable pub others : Bool → Entry → List Entry → List Entry
others backward e [] = []
others backward e (x ∷ xs) = worse backward e x ∷ others backward (better backward e x) xs

-- ---- the heap in lent slices

-- the entry in slot i: its time and sub in the one slice, its node in the other
unfoldable pub slot : List Float → List ℕ → ℕ → Entry
slot ts ns i = record { time = get_or ts (i * 2) nan; sub = get_or ts (i * 2 + 1) nan; node = get_or ns i 0 }

-- Both slices have room for n entries. Stands in contracts of the heap's functions: the head of src/lib.rt says why the
-- slices stand in no struct.
pub record HeapRoom (ts : List Float) (ns : List ℕ) (n : ℕ) : Type 0 where
  pub times : n * 2 ≤ length ts
  pub nodes : n ≤ length ns

-- how often an entry, by its bits, is among the first n slots, and in a list
unfoldable pub same_entry : Entry → Entry → Bool
same_entry a b =
    eqb (to_bits binary64 a.time) (to_bits binary64 b.time)
    && eqb (to_bits binary64 a.sub) (to_bits binary64 b.sub)
    && eqb a.node b.node

abbrev pub one : Bool → ℕ
one true = 1
one false = 0

unfoldable pub times_in : Entry → List Entry → ℕ
unfolding same_entry
times_in e [] = 0
times_in e (x ∷ xs) = one (same_entry e x) + times_in e xs

unfoldable pub slots : List Float → List ℕ → ℕ → List Entry
unfolding slot
slots ts ns zero = []
slots ts ns (suc n) = slot ts ns n ∷ slots ts ns n

-- each entry of a list
abbrev pub Each : (Entry → Type 0) → List Entry → Type 0
Each P [] = Unit {0}
Each P (x ∷ xs) = P x × Each P xs

-- The first n slots are a heap that holds this list: no slot is taken before the one above it, slot i being above slots
-- 2 i + 1 and 2 i + 2, and each entry is in it as often as in the list. Entries are told apart by their bits, so those
-- of the list are f64s too.
pub record Holds (backward : Bool) (ts : List Float) (ns : List ℕ) (n : ℕ) (es : List Entry) : Type 0 where
  pub above : (i k : ℕ) → k < n → i * 2 < k → k ≤ i * 2 + 2 → before backward (slot ts ns k) (slot ts ns i) ≡ false
  pub ordered : (i : ℕ) → i < n → Ordered (slot ts ns i)
  pub listed : Each Ordered es
  pub many : n ≡ length es
  pub same : (e : Entry) → times_in e (slots ts ns n) ≡ times_in e es

-- a permutation, said of lists: each entry as often in the one as in the other
abbrev pub SameEntries : List Entry → List Entry → Type 0
SameEntries xs ys = (length xs ≡ length ys) × ((e : Entry) → times_in e xs ≡ times_in e ys)

-- ---- what becomes of a heap: both slices before and after

-- an entry is put into a heap of n
abbrev pub Added : Bool → List Float → List ℕ → List Float → List ℕ → ℕ → Entry → Type 0
Added backward ts ns ts' ns' n e = (es : List Entry) → Holds backward ts ns n es → Holds backward ts' ns' (n + 1)
    (e ∷ es)

-- the best entry is taken out, so that n are left
abbrev pub Dropped : Bool → List Float → List ℕ → List Float → List ℕ → ℕ → Type 0
Dropped backward ts ns ts' ns' n =
    (x : Entry) (es : List Entry) → Holds backward ts ns (n + 1) (x ∷ es) → Holds backward ts' ns' n
    (others backward x es)

-- r is the best entry of a heap of n, and is taken out
abbrev pub TakenOut : Bool → List Float → List ℕ → List Float → List ℕ → ℕ → Entry → Type 0
TakenOut backward ts ns ts' ns' n r =
    (x : Entry) (es : List Entry) → Holds backward ts ns n (x ∷ es) → (r ≡ best backward x es) × Holds backward ts' ns'
    (n - 1) (others backward x es)

-- Rows 3 to 5: what the tests of the size and of single nodes say together, and what they leave for the passes.
use mathlib.Core.Path.{◌≡◌, refl, sym, ap, ◌∙◌}
use mathlib.Core.Bool.{Bool, true, false, not, ◌||◌}
use mathlib.Core.List.{List, [], ◌∷◌}
use Prim.Native.Nat.{ℕ, suc, ◌+◌, ◌*◌, ◌≤◌, ◌<◌, min}
use native.Mathlib.Omega.{arith}
use borrow.Author.Tests.{lt-ltb, le-ltb, ltb-true, ltb-false, leb-false}
use lib.Dec.{ltb, leb}
use lib.ListN.{length, take}
use lib.Seq.{length-take-le}
use lib.Ieee.{Float}
use Rattle.laws.specs.Below.{some_below}
use Rattle.laws.specs.Refusals.{row, first_of}
use Rattle.laws.proofs.Refusals.{first_holds, first_passed, none_holds}
use Rattle.laws.proofs.Below.{or_left, none_left, none_right, some_more, none_more, some_at, none_at}
use Rattle.floats.specs.Floats.{table_float}
use Rattle.space.specs.Space.{units_of}
use Rattle.net_node.specs.declared.EstTime.{EstTime}
use Rattle.net_node.specs.Table.{float_width, number_width, node_at, Table, at}
use Rattle.net_node.specs.Left.{nodes_in, kind_at}
use Rattle.pass_rules.specs.Walks.{Inside, Linked, table_of}
use Rattle.pass_table.specs.TableEntry.{table_row3, table_row4, table_row5, table_rows, bad_floats, bad_node, stray_node}
use Rattle.pass_table.specs.Parts.{nodes_number, first_number}

-- ---- row 3

pub size_outside : (n units : ℕ) → (ltb n 3 || ltb 65535 n) ≡ true → true ≡ table_row3 n (64 * units)
unfolding table_row3
size_outside n units e = sym (or_left (ltb n 3 || ltb 65535 n) (ltb (64 * units) (36864 + 64 * min n 65535)) e)

-- a count that is not outside
pub size_most : (n : ℕ) → (ltb n 3 || ltb 65535 n) ≡ false → n ≤ 65535
size_most n e = ltb-false 65535 n (none_right (ltb n 3) (ltb 65535 n) e)

units_asked : (n units : ℕ) → n ≤ 65535 → ltb units (576 + n) ≡ ltb (64 * units) (36864 + 64 * min n 65535)
units_asked n units h = go (ltb units (576 + n)) refl
  where
    go : (t : Bool) → ltb units (576 + n) ≡ t → t ≡ ltb (64 * units) (36864 + 64 * min n 65535)
    go true e = let l = ltb-true units (576 + n) e in sym (lt-ltb (64 * units) (36864 + 64 * min n 65535) (omega arith))
    go false e = let l = ltb-false units (576 + n) e in sym (le-ltb (64 * units) (36864 + 64 * min n 65535) (omega arith))

pub size_inside : (n units : ℕ) → (ltb n 3 || ltb 65535 n) ≡ false → ltb units (576 + n) ≡ table_row3 n (64 * units)
unfolding table_row3
size_inside n units e = units_asked n units (size_most n e) ∙ sym (ap (λ (t : Bool). t || ltb (64 * units) (36864 + 64 * min n 65535)) e)

-- ---- the sweep over the nodes

pub record Swept (t : Table) (n i : ℕ) (found : Bool) : Type 0 where
  pub within : i ≤ n
  pub good : some_below i (bad_node t) ≡ false
  pub strays : found ≡ some_below i (λ k. stray_node n (at t k))

module _ (fs : List Float) (us : List ℕ) (n : ℕ) where
  abbrev lent : Table
  lent = record { floats = fs; numbers = us }

  pub sweep_start : Swept lent n 0 false
  unfolding some_below
  sweep_start = record { within = omega arith; good = refl; strays = refl }

  module _ (i : ℕ) (found : Bool) (v : Swept lent n i found) where
    bad_here : (x : EstTime) (kind : ℕ) (b : Bool) → x ≡ node_at fs us i → kind ≡ kind_at us i → b ≡ (bad_floats x || ltb 2 kind) → b ≡ bad_node lent i
    unfolding bad_node at
    bad_here x kind b e k f = f ∙ ap (λ (y : EstTime). bad_floats y || ltb 2 kind) e ∙ ap (λ (z : ℕ). bad_floats (node_at fs us i) || ltb 2 z) k

    stray_here : (x : EstTime) (b : Bool) → x ≡ node_at fs us i → b ≡ stray_node n x → b ≡ stray_node n (at lent i)
    unfolding at
    stray_here x b e f = f ∙ ap (stray_node n) e

    pub sweep_bad : (x : EstTime) (kind : ℕ) (b : Bool) → i < n → x ≡ node_at fs us i → kind ≡ kind_at us i → b ≡ (bad_floats x || ltb 2 kind) → b ≡ true → 4 ≡ nodes_number lent n
    unfolding nodes_number
    sweep_bad x kind b h e k f d = sym (first_holds 4 (some_below n (bad_node lent)) (row 5 (table_row5 lent n) ∷ []) (some_at n (bad_node lent) i h (sym (bad_here x kind b e k f) ∙ d)))

    pub sweep_on : (x : EstTime) (kind : ℕ) (b r : Bool) → i < n → x ≡ node_at fs us i → kind ≡ kind_at us i → b ≡ (bad_floats x || ltb 2 kind) → b ≡ false → r ≡ stray_node n x → Swept lent n (i + 1) (found || r)
    sweep_on x kind b r h e k f d g = record {
      within = omega arith;
      good = none_more i (bad_node lent) v.good (sym (bad_here x kind b e k f) ∙ d);
      strays =
          ap (λ (t : Bool). t || r) v.strays
          ∙ ap (λ (t : Bool). some_below i (λ k. stray_node n (at lent k)) || t) (stray_here x r e g)
          ∙ sym (some_more i (λ k. stray_node n (at lent k)));
    }

    pub sweep_end : (t : Bool) → n ≤ i → found ≡ t → first_of (row 5 t ∷ []) ≡ nodes_number lent n
    unfolding nodes_number table_row5
    sweep_end t h e =
        let d : i ≡ n = omega (arith, v.within) in
        ap (λ (u : Bool). first_of (row 5 u ∷ [])) (sym e)
        ∙ ap (λ (t : Bool). first_of (row 5 t ∷ [])) (v.strays ∙ ap (λ (k : ℕ). some_below k (λ j. stray_node n (at lent j))) d)
        ∙ sym (first_passed 4 (some_below n (bad_node lent)) (row 5 (table_row5 lent n) ∷ []) (ap (λ (k : ℕ). some_below k (bad_node lent)) (sym d) ∙ v.good))

-- ---- rows 3 to 5 together

module _ (t : Table) (n : ℕ) (departure : Float) (units : ℕ) where
  bad_departure : (x : Bool) → x ≡ table_float departure → not x ≡ true → table_row4 t n departure ≡ true
  unfolding table_row4
  bad_departure x f g = or_left (not (table_float departure)) (some_below n (bad_node t)) (ap not (sym f) ∙ g)

  good_departure : (x : Bool) → x ≡ table_float departure → not x ≡ false → table_row4 t n departure ≡ some_below n (bad_node t)
  unfolding table_row4
  good_departure x f g = ap (λ (y : Bool). y || some_below n (bad_node t)) (ap not (sym f) ∙ g)

  pub first_three : (b : Bool) → b ≡ table_row3 n (64 * units) → b ≡ true → 3 ≡ first_number t n departure (64 * units)
  unfolding first_number first_of
  first_three b e d = rw (← e, d)

  pub first_four : (b x : Bool) → b ≡ table_row3 n (64 * units) → b ≡ false → x ≡ table_float departure → not x ≡ true → 4 ≡ first_number t n departure (64 * units)
  unfolding first_number first_of
  first_four b x e d f g = rw (← e, d, bad_departure x f g)

  pub first_nodes_lem : (b x : Bool) (r : ℕ) → b ≡ table_row3 n (64 * units) → b ≡ false → x ≡ table_float departure → not x ≡ false → r ≡ nodes_number t n → r ≡ first_number t n departure (64 * units)
  unfolding first_number nodes_number first_of
  first_nodes_lem b x r e d f g h = h ∙ rw (← e, d, good_departure x f g)

-- ---- what they leave for the passes

pub nonzero : (k : ℕ) → suc k ≡ 0 → ⊥
nonzero k e = omega arith

none_of_three : (t : Table) (n : ℕ) (departure : Float) (bytes : ℕ) → first_number t n departure bytes ≡ 0 → (table_row3 n bytes ≡ false) × (table_row5 t n ≡ false)
unfolding first_number
none_of_three t n departure bytes e = let h = none_holds (table_rows t n departure bytes) refl e in (h.0, h.1.1.0)

none_of_four : (a b c d : Bool) → (a || b || c || d) ≡ false → (a ≡ false) × ((b ≡ false) × ((c ≡ false) × (d ≡ false)))
none_of_four a b c d e =
    let f = none_left (a || b || c) d e in
    let g = none_left (a || b) c f in (none_left a b g, (none_right a b g, (none_right (a || b) c f, none_right (a || b || c) d e)))

-- row 5: every index names a node
indices_inside : (fs : List Float) (us : List ℕ) (n : ℕ) → table_row5 (record { floats = fs; numbers = us }) n ≡ false → Inside (node_at fs us) n
unfolding table_row5 stray_node at
indices_inside fs us n e = record {
  next = λ i h. leb-false n (x i).idx_next (here i h).0;
  next_alt = λ i h. leb-false n (x i).idx_next_alt (here i h).1.0;
  prev = λ i h. leb-false n (x i).idx_prev (here i h).1.1.0;
  prev_alt = λ i h. leb-false n (x i).idx_prev_alt (here i h).1.1.1;
}
  where
    x : ℕ → EstTime
    x i = node_at fs us i

    here : (i : ℕ) → i < n → (leb n (x i).idx_next ≡ false) × ((leb n (x i).idx_next_alt ≡ false) × ((leb n (x i).idx_prev ≡ false) × (leb n (x i).idx_prev_alt ≡ false)))
    here i h = none_of_four (leb n (x i).idx_next) (leb n (x i).idx_next_alt) (leb n (x i).idx_prev) (leb n (x i).idx_prev_alt) (none_at n (λ k. stray_node n (x k)) i h e)

-- rows 3 to 5 leave at most so many nodes
pub most_nodes : (t : Table) (n : ℕ) (departure : Float) (bytes : ℕ) → first_number t n departure bytes ≡ 0 → n ≤ 65535
unfolding table_row3
most_nodes t n departure bytes e =
    let f = (none_of_three t n departure bytes e).0 in
    size_most n (none_left (ltb n 3 || ltb 65535 n) (ltb bytes (36864 + 64 * min n 65535)) f)

-- row 3: the sizes
sizes_hold : (n units : ℕ) → table_row3 n (64 * units) ≡ false → (3 ≤ n) × ((n ≤ 65535) × (576 + n ≤ units))
unfolding table_row3
sizes_hold n units e =
    let f = none_left (ltb n 3 || ltb 65535 n) (ltb (64 * units) (36864 + 64 * min n 65535)) e in
    let a : 3 ≤ n = ltb-false n 3 (none_left (ltb n 3) (ltb 65535 n) f) in
    let b : n ≤ 65535 = ltb-false 65535 n (none_right (ltb n 3) (ltb 65535 n) f) in
    let c : 36864 + 64 * min n 65535 ≤ 64 * units = ltb-false (64 * units) (36864 + 64 * min n 65535) (none_right (ltb n 3 || ltb 65535 n) (ltb (64 * units) (36864 + 64 * min n 65535)) e) in
    (a, (b, omega arith))

-- what the passes ask for, of slices of work space of these lengths
pub record Ready (fs : List Float) (us : List ℕ) (n rs cs ms : ℕ) : Type 0 where
  pub linked : Linked (table_of fs us) n
  pub three : 3 ≤ n
  pub reals : n * 2 ≤ rs
  pub cells : n * 2 ≤ cs
  pub marks : n ≤ ms

pub nodes_fit : (fs : List Float) (us : List ℕ) (n : ℕ) → n ≡ nodes_in (record { floats = fs; numbers = us }) → (n * float_width ≤ length fs) × (n * number_width ≤ length us)
unfolding nodes_in
nodes_fit fs us n e = (omega arith, omega arith)

pub ready : (fs : List Float) (us : List ℕ) (n : ℕ) (departure : Float) (units rs cs ms : ℕ) → n ≡ nodes_in (record { floats = fs; numbers = us }) → units ≡ units_of rs cs ms
    → 0 ≡ first_number (record { floats = fs; numbers = us }) n departure (64 * units) → Ready fs us n rs cs ms
unfolding units_of
ready fs us n departure units rs cs ms e f g =
    let d = none_of_three (record { floats = fs; numbers = us }) n departure (64 * units) (sym g) in
    let s = sizes_hold n units d.0 in
    let h = nodes_fit fs us n e in record {
      linked = record { room = record { floats = h.0; numbers = h.1; most = s.1.0 }; inside = indices_inside fs us n d.1 };
      three = s.0;
      reals = omega (arith, s.1.1);
      cells = omega (arith, s.1.1);
      marks = omega (arith, s.1.1);
    }

-- the cells of n nodes are as many as the passes ask for
pub flags_fit : (n : ℕ) (cells : List ℕ) (m : ℕ) → n * 2 ≤ length cells → m ≡ length (take (n * 2) cells) → n * 2 ≤ m
flags_fit n cells m h e = omega (arith, length-take-le (n * 2) cells h)

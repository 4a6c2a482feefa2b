-- The answer of rows 1 to 13, and what an accepted network is: growth on a table that was zero.
use mathlib.Core.Path.{◌≡◌, refl, sym, ap, ◌∙◌, subst}
use mathlib.Core.List.{List}
use Prim.Native.Nat.{ℕ, zero, suc, ◌≤◌}
use native.Mathlib.Omega.{arith}
use lib.ListN.{length}
use lib.Ieee.{Float}
use Rattle.laws.specs.Answer.{Answer, refused, given, unless, number_of}
use Rattle.laws.proofs.Answers.{Refuses}
use Rattle.space.specs.Space.{zeros, zero_floats}
use Rattle.space.proofs.Zeros.{zeros_length}
use Rattle.book_reader.specs.Reader.{read_number}
use Rattle.net_node.specs.Table.{Room}
use Rattle.net_node.specs.Lent.{Sizes, places_in}
use Rattle.grow_rules.specs.Growth.{Grown, grow}
use Rattle.std.specs.Prelude.{Result}
use Rattle.report.specs.declared.Report.{Report}
use Rattle.refusals.specs.declared.Refusal.{Refusal}
use Rattle.grow_book.specs.Answers.{GrownAs}
use Rattle.arcs_growth.specs.Read.{Read}
use Rattle.arcs_growth.proofs.Theorems.{GrownWell, well}
use Rattle.arcs_growth.proofs.Numbered.{OfGrowth, grow_numbered}
use Rattle.est_times.specs.Network.{zero_table, network}
use Rattle.est_times.proofs.Accepts.{Passes, passes_of, read_of, places_most, places_fit}

floats_length : (n : ℕ) → length (zero_floats n) ≡ n
unfolding zero_floats
floats_length zero = refl
floats_length (suc n) = ap suc (floats_length n)

-- what became zero is zero for its own length
pub floats_again : (n : ℕ) (s : List Float) → s ≡ zero_floats n → s ≡ zero_floats (length s)
floats_again n s e = e ∙ ap zero_floats (sym (floats_length n) ∙ ap length (sym e))

-- ---- rows 1 to 8, then growth

module _ (b : List ℕ) (z : Sizes) where
  abbrev number : ℕ
  number = read_number b (places_in z) z.bytes

  network_is : network b z ≡ unless number (grow b (places_in z) (zero_table z))
  unfolding network
  network_is = refl

  pub network_refused : (k : ℕ) → number ≡ k → (k ≡ 0 → ⊥) → network b z ≡ refused k
  network_refused k e h = network_is ∙ ap (λ (x : ℕ). unless x (grow b (places_in z) (zero_table z))) e ∙ go k h
    where
      go : (x : ℕ) → (x ≡ 0 → ⊥) → unless x (grow b (places_in z) (zero_table z)) ≡ refused x
      go zero h = absurd (h refl)
      go (suc x) h = refl

  pub zero_room : Room (zero_table z).floats (zero_table z).numbers (places_in z)
  unfolding zero_table
  zero_room =
      let h = places_fit z.floats z.numbers in
      record { floats = omega (arith, h.0, floats_length z.floats); numbers = omega (arith, h.1, zeros_length z.numbers); most = places_most z.floats z.numbers }

  -- a refusal's number is never 0
  pub network_numbered : (k : ℕ) → network b z ≡ refused k → k ≡ 0 → ⊥
  network_numbered k e = go number refl (sym network_is ∙ e)
    where
      go : (x : ℕ) → number ≡ x → unless x (grow b (places_in z) (zero_table z)) ≡ refused k → k ≡ 0 → ⊥
      go zero d q =
          let h : OfGrowth k = subst (Refuses OfGrowth) q (grow_numbered b (places_in z) (zero_table z) (read_of (passes_of b (places_in z) z.bytes d)) zero_room) in
          λ (o : k ≡ 0). omega (arith, h.0)
      go (suc x) d q = let h : suc x ≡ k = ap number_of q in λ (o : k ≡ 0). omega arith

  network_grows : number ≡ 0 → network b z ≡ grow b (places_in z) (zero_table z)
  network_grows e = network_is ∙ ap (λ (x : ℕ). unless x (grow b (places_in z) (zero_table z))) e

  -- a network that is given: no row holds, and growth gives it
  given_grows : (g : Grown) → network b z ≡ given g → (number ≡ 0) × (grow b (places_in z) (zero_table z) ≡ given g)
  given_grows g e = go number refl (sym network_is ∙ e)
    where
      go : (k : ℕ) → number ≡ k → unless k (grow b (places_in z) (zero_table z)) ≡ given g → (number ≡ 0) × (grow b (places_in z) (zero_table z) ≡ given g)
      go zero d q = (d, q)
      go (suc k) d q = let o : ◌≡◌ {A = ℕ} 0 1 = cc in absurd (omega arith)

  pub record Sound (g : Grown) : Type 0 where
    pub passes : Passes b (places_in z) z.bytes
    pub read : Read b
    pub grows : grow b (places_in z) (zero_table z) ≡ given g
    pub whole : GrownWell b (places_in z) g
    pub most : g.nodes ≤ 65535

  pub sound : (g : Grown) → network b z ≡ given g → Sound g
  sound g e =
      let d = given_grows g e in
      let p = passes_of b (places_in z) z.bytes d.0 in
      let w = well b (places_in z) (zero_table z) g (read_of p) zero_room d.1 in
      record { passes = p; read = read_of p; grows = d.1; whole = w; most = let i = w.inside in let m = places_most z.floats z.numbers in omega arith }

-- growth on the lent table, which is zero
module _ (b : List ℕ) (fs : List Float) (us : List ℕ) (bytes : ℕ) (e : fs ≡ zero_floats (length fs)) (d : us ≡ zeros (length us)) where
  abbrev lent : Sizes
  lent = record { floats = length fs; numbers = length us; bytes = bytes }

  same : zero_table lent ≡ record { floats = fs; numbers = us }
  unfolding zero_table
  same = λ i. record { floats = sym e i; numbers = sym d i }

  pub grown_network : read_number b (places_in lent) bytes ≡ 0 → (gs : List Float) (vs : List ℕ) (r : Result Report Refusal)
      → GrownAs (grow b (places_in lent) (record { floats = fs; numbers = us })) gs vs r → GrownAs (network b lent) gs vs r
  grown_network none gs vs r = subst (λ (a : Answer Grown). GrownAs a gs vs r) (sym (network_grows b lent none ∙ ap (grow b (places_in lent)) same))

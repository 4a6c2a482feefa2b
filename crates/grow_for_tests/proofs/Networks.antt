-- What the entry for tests leaves of the table, by the lengths of the slices as they are lent.
use mathlib.Core.Path.{◌≡◌, sym, ap, ◌∙◌, subst}
use mathlib.Core.List.{List}
use Prim.Native.Nat.{ℕ, ◌≤◌}
use native.Mathlib.Nat.{sub-zero}
use native.Mathlib.Omega.{arith}
use lib.ListN.{length}
use lib.Ieee.{Float}
use Rattle.laws.specs.Answer.{Answer, given}
use Rattle.space.specs.Space.{bytes_of, zeros, zero_floats}
use Rattle.space.specs.Lent.{Cleared}
use Rattle.net_node.specs.Left.{floats_kept, numbers_kept, floats_left, numbers_left}
use Rattle.net_node.specs.Lent.{Slices, Sizes, sizes_of}
use Rattle.report.specs.declared.Report.{Report}
use Rattle.grow_rules.specs.Growth.{Grown}
use Rattle.std.specs.Prelude.{Result, Ok, Err}
use Rattle.refusals.specs.declared.Refusal.{Refusal}
use Rattle.refusals.specs.Refusals.{told}
use Rattle.grow_book.specs.Answers.{GrownAs}
use Rattle.est_times.specs.Network.{network}
use Rattle.est_times.specs.Sheet.{report_of}
use Rattle.est_times.specs.Stages.{sheet_nodes}
use Rattle.est_times.proofs.Networks.{sound}
use Rattle.grow_for_tests.specs.Grown.{counted, nodes_grown, NetworkGrown}

-- no more nodes than a clearing counts
pub nodes_most : (b : List ℕ) (z : Sizes) (fs : List Float) (us : List ℕ) (r : Result Report Refusal)
    → GrownAs (network b z) fs us r → sheet_nodes r ≤ 65535
nodes_most b z fs us (Err k) h = omega arith
nodes_most b z fs us (Ok c) h = let m = (sound b z h.network h.is).most in let e = h.nodes_are in omega arith

report_is : (g : Grown) (c : Report) → g.nodes ≡ c.nodes → g.added ≡ c.added → g.splits ≡ c.splits → g.joined ≡ c.joined
    → g.finished ≡ c.finished → c ≡ report_of g
report_is g c p q r s t = λ i. record {
  nodes = sym p i;
  added = sym q i;
  splits = sym r i;
  joined = sym s i;
  finished = sym t i;
}

answer_counted : (a : Answer Grown) (fs : List Float) (us : List ℕ) (r : Result Report Refusal) → GrownAs a fs us r
    → told r ≡ counted a
answer_counted a fs us (Err k) h = sym (ap counted h)
answer_counted a fs us (Ok c) h = ap given (report_is h.network c h.nodes_are h.added_are h.splits_are h.joined_are
    h.finished_are) ∙ sym (ap counted h.is)

kept_floats_lem : (a : Answer Grown) (fs : List Float) (us : List ℕ) (r : Result Report Refusal) (size : ℕ)
    → GrownAs a fs us r → floats_kept (sheet_nodes r) fs size ≡ floats_left (nodes_grown a) size
kept_floats_lem a fs us (Err k) size h = ap zero_floats (sub-zero size)
    ∙ sym (ap (λ (x : Answer Grown). floats_left (nodes_grown x) size) h)
kept_floats_lem a fs us (Ok c) size h =
    ap (λ (x : ℕ). floats_kept x fs size) (sym h.nodes_are)
    ∙ ap (λ (s : List Float). floats_kept h.network.nodes s size) (sym h.floats)
    ∙ sym (ap (λ (x : Answer Grown). floats_left (nodes_grown x) size) h.is)

kept_numbers_lem : (a : Answer Grown) (fs : List Float) (us : List ℕ) (r : Result Report Refusal) (size : ℕ)
    → GrownAs a fs us r → numbers_kept (sheet_nodes r) us size ≡ numbers_left (nodes_grown a) size
kept_numbers_lem a fs us (Err k) size h = ap zeros (sub-zero size)
    ∙ sym (ap (λ (x : Answer Grown). numbers_left (nodes_grown x) size) h)
kept_numbers_lem a fs us (Ok c) size h =
    ap (λ (x : ℕ). numbers_kept x us size) (sym h.nodes_are)
    ∙ ap (λ (s : List ℕ). numbers_kept h.network.nodes s size) (sym h.numbers)
    ∙ sym (ap (λ (x : Answer Grown). numbers_left (nodes_grown x) size) h.is)

-- The network is grown on slices of the lent lengths; then the table is cleared behind the nodes, and the work space.
module _ (b : List ℕ) (lent left : Slices) (f n r c m : ℕ) (fs : List Float) (us : List ℕ)
    (grown : Result Report Refusal) (g : GrownAs (network b
    (record { floats = f; numbers = n; bytes = bytes_of r c m })) fs us grown)
    (ef : f ≡ length lent.table.floats) (en : n ≡ length lent.table.numbers) (er : r ≡ length lent.work.reals)
    (ec : c ≡ length lent.work.cells) (em : m ≡ length lent.work.marks) where
  abbrev whole : Answer Grown
  whole = network b (sizes_of lent)

  same_sizes : record { floats = f; numbers = n; bytes = bytes_of r c m } ≡ sizes_of lent
  same_sizes = λ i. record { floats = ef i; numbers = en i; bytes = bytes_of (er i) (ec i) (em i) }

  moved : GrownAs whole fs us grown
  moved = subst (λ (z : Sizes). GrownAs (network b z) fs us grown) same_sizes g

  pub network_grown : length fs ≡ length lent.table.floats → length us ≡ length lent.table.numbers → (k : ℕ)
      → k ≡ sheet_nodes grown
      → left.table.floats ≡ floats_kept k fs (length fs) → left.table.numbers ≡ numbers_kept k us (length us)
      → Cleared lent.work left.work → NetworkGrown b lent left grown
  network_grown lf lu k e p q w = record {
    answer = answer_counted whole fs us grown moved;
    floats = p ∙ ap (λ (x : ℕ). floats_kept x fs (length fs)) e ∙ kept_floats_lem whole fs us grown (length fs) moved
        ∙ ap (floats_left (nodes_grown whole)) lf;
    numbers = q ∙ ap (λ (x : ℕ). numbers_kept x us (length us)) e ∙ kept_numbers_lem whole fs us grown (length us) moved
        ∙ ap (numbers_left (nodes_grown whole)) lu;
    work = w;
  }

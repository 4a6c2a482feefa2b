-- The whole answer: what it leaves of the table, by the lengths of the slices as they are lent.
use mathlib.Core.Path.{◌≡◌, refl, ap, ◌∙◌, subst}
use mathlib.Core.List.{List}
use Prim.Native.Nat.{ℕ, ◌≤◌}
use native.Mathlib.Nat.{sub-zero}
use native.Mathlib.Omega.{arith}
use lib.ListN.{length}
use Rattle.laws.specs.Answer.{Answer, refused, given}
use Rattle.space.specs.Space.{bytes_of, zeros, zero_floats}
use Rattle.space.specs.Lent.{Cleared}
use Rattle.net_node.specs.Table.{Table}
use Rattle.net_node.specs.Left.{floats_kept, numbers_kept, floats_left, numbers_left}
use Rattle.net_node.specs.Lent.{Slices, Sizes, sizes_of}
use Rattle.std.specs.Prelude.{Result, Ok, Err}
use Rattle.report.specs.declared.Report.{Report}
use Rattle.refusals.specs.declared.Refusal.{Refusal}
use Rattle.refusals.specs.Refusals.{told}
use Rattle.refusals.proofs.Numbers.{refusal_some}
use Rattle.est_times.specs.Sheet.{Finished, job, answered, sheet_of, HasNumber, SheetMade}
use Rattle.est_times.specs.Stages.{BuiltAs, sheet_nodes}
use Rattle.est_times.proofs.Networks.{sound}
use Rattle.est_times.proofs.Finished.{job_finished}
use Rattle.est_times.proofs.Demands.{final_demand}

-- a refusal leaves none
none_left : (r : Result Report Refusal) (k : ℕ) → told r ≡ refused k → sheet_nodes r ≡ 0
none_left (Ok x) k h = cc
none_left (Err x) k h = refl

-- no more nodes than a clearing counts
pub nodes_most : (b : List ℕ) (z : Sizes) (t : Table) (sheet : Result Report Refusal) → BuiltAs (job b z) t sheet → sheet_nodes sheet ≤ 65535
nodes_most b z t sheet = go (job b z) refl
  where
    go : (j : Answer Finished) → job b z ≡ j → BuiltAs j t sheet → sheet_nodes sheet ≤ 65535
    go (refused k) e h = let q = none_left sheet k h in omega arith
    go (given f) e h = let q = ap sheet_nodes h.0 in let m = (sound b z f.grown (job_finished b z f e).network_given).most in omega arith

-- ---- the answer and the table

job_answered : (j : Answer Finished) (t : Table) (sheet : Result Report Refusal) → BuiltAs j t sheet → told sheet ≡ answered j
job_answered (refused k) t sheet h = h
job_answered (given f) t sheet h = ap told h.0

has_number : (sheet : Result Report Refusal) → HasNumber sheet
has_number (Ok r) = tt
has_number (Err k) = refusal_some k

kept_floats_lem : (j : Answer Finished) (t : Table) (sheet : Result Report Refusal) (size : ℕ) → BuiltAs j t sheet → floats_kept (sheet_nodes sheet) t.floats size ≡ floats_left (sheet_of j) size
kept_floats_lem (refused k) t sheet size h = ap (λ (n : ℕ). floats_kept n t.floats size) (none_left sheet k h) ∙ ap zero_floats (sub-zero size)
kept_floats_lem (given f) t sheet size h = ap (λ (s : Result Report Refusal). floats_kept (sheet_nodes s) t.floats size) h.0 ∙ ap (λ (x : Table). floats_kept f.grown.nodes x.floats size) h.1

kept_numbers_lem : (j : Answer Finished) (t : Table) (sheet : Result Report Refusal) (size : ℕ) → BuiltAs j t sheet → numbers_kept (sheet_nodes sheet) t.numbers size ≡ numbers_left (sheet_of j) size
kept_numbers_lem (refused k) t sheet size h = ap (λ (n : ℕ). numbers_kept n t.numbers size) (none_left sheet k h) ∙ ap zeros (sub-zero size)
kept_numbers_lem (given f) t sheet size h = ap (λ (s : Result Report Refusal). numbers_kept (sheet_nodes s) t.numbers size) h.0 ∙ ap (λ (x : Table). numbers_kept f.grown.nodes x.numbers size) h.1

-- ---- the promise

-- The job is built on slices of the lent lengths; then the table is cleared behind the nodes, and the work space.
module _ (b : List ℕ) (lent left : Slices) (f n r c m : ℕ) (built : Table) (sheet : Result Report Refusal) (made : BuiltAs (job b (record { floats = f; numbers = n; bytes = bytes_of r c m })) built sheet)
    (ef : f ≡ length lent.table.floats) (en : n ≡ length lent.table.numbers) (er : r ≡ length lent.work.reals) (ec : c ≡ length lent.work.cells) (em : m ≡ length lent.work.marks) where
  abbrev whole : Answer Finished
  whole = job b (sizes_of lent)

  same_sizes : record { floats = f; numbers = n; bytes = bytes_of r c m } ≡ sizes_of lent
  same_sizes = λ i. record { floats = ef i; numbers = en i; bytes = bytes_of (er i) (ec i) (em i) }

  moved : BuiltAs whole built sheet
  moved = subst (λ (z : Sizes). BuiltAs (job b z) built sheet) same_sizes made

  pub sheet_made : length built.floats ≡ length lent.table.floats → length built.numbers ≡ length lent.table.numbers → (k : ℕ) → k ≡ sheet_nodes sheet
      → left.table.floats ≡ floats_kept k built.floats (length built.floats) → left.table.numbers ≡ numbers_kept k built.numbers (length built.numbers)
      → Cleared lent.work left.work → SheetMade b lent left sheet
  sheet_made lf lu k e p q w = record {
    answer = job_answered whole built sheet moved;
    numbered = has_number sheet;
    floats = p ∙ ap (λ (x : ℕ). floats_kept x built.floats (length built.floats)) e ∙ kept_floats_lem whole built sheet (length built.floats) moved ∙ ap (floats_left (sheet_of whole)) lf;
    numbers = q ∙ ap (λ (x : ℕ). numbers_kept x built.numbers (length built.numbers)) e ∙ kept_numbers_lem whole built sheet (length built.numbers) moved ∙ ap (numbers_left (sheet_of whole)) lu;
    work = w;
    demand = final_demand b (sizes_of lent) built sheet moved lf lu k e left.table p q;
  }

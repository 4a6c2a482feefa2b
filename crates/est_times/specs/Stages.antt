-- What the stages of the job promise each other. Only contracts of inner functions use these words.
use Rattle.std.specs.Prelude.{◌≡◌, List, ℕ, length, Float, Result, Ok, Err}
use Rattle.laws.specs.Answer.{Answer, refused, given}
use Rattle.report.specs.declared.Report.{Report}
use Rattle.space.specs.Space.{zeros, zero_floats}
use Rattle.net_node.specs.Table.{Table}
use Rattle.refusals.specs.declared.Refusal.{Refusal}
use Rattle.refusals.specs.Refusals.{told}
use Rattle.est_times.specs.Sheet.{Finished, report_of}

-- what growth begins with: table, cells and marks are zero
pub record Begun (fs : List Float) (us cs ms : List ℕ) : Type 0 where
  pub floats : fs ≡ zero_floats (length fs)
  pub numbers : us ≡ zeros (length us)
  pub cells : cs ≡ zeros (length cs)
  pub marks : ms ≡ zeros (length ms)

-- what is built, before the table is cleared behind the nodes
abbrev pub BuiltAs : Answer Finished → Table → Result Report Refusal → Type 0
BuiltAs (refused k) t r = told r ≡ refused k
BuiltAs (given f) t r = (r ≡ Ok (report_of f.grown)) × (t ≡ f.timed)

-- how many nodes stay in the table
abbrev pub sheet_nodes : Result Report Refusal → ℕ
sheet_nodes (Ok r) = r.nodes
sheet_nodes (Err k) = 0

-- A report as a list of numbers, for callers of other languages. Document 01 under "Answers given": "a report of nodes,
-- added (origins' nodes included), splits, joined, finished".
use Rattle.std.specs.Prelude.{List, [], ◌∷◌, ℕ, get_or}
use Rattle.report.specs.declared.Report.{Report}

-- "Refused: the number; every lent table and the report are zero."
abbrev pub no_report : Report
no_report = record { nodes = 0; added = 0; splits = 0; joined = 0; finished = 0 }

abbrev pub numbers_of : Report → List ℕ
numbers_of r = r.nodes ∷ r.added ∷ r.splits ∷ r.joined ∷ r.finished ∷ []

abbrev pub report_in : List ℕ → Report
report_in ns = record {
  nodes = get_or ns 0 0;
  added = get_or ns 1 0;
  splits = get_or ns 2 0;
  joined = get_or ns 3 0;
  finished = get_or ns 4 0;
}

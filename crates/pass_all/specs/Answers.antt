-- What the code of rows 14 to 16 answers: the checks and both passes are `passes` of pass_rules' specs/Passes.antt.
use Rattle.std.specs.Prelude.{◌≡◌, ◌≢◌, ℕ}
use Rattle.laws.specs.Answer.{Answer, refused, given}
use Rattle.net_node.specs.Table.{Table}

-- document 01's number, and the table then: a refusal's, which is never 0; or 0 and the timed table
abbrev pub TimedAs : Answer Table → ℕ → Table → Type 0
TimedAs (refused k) number left = (number ≡ k) × (k ≢ 0)
TimedAs (given t) number left = (number ≡ 0) × (left ≡ t)

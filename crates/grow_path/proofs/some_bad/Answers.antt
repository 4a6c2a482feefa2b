-- `grow_path::some_bad` meets its contract.
use mathlib.Core.Path.{refl, sym, ◌∙◌}
use Rattle.std.proofs.Common.{rules}
use Rattle.std.proofs.lemmas.Iterator.Consumers.{YieldsList-from_first}
use Rattle.std.proofs.lemmas.Iterator.Search.{any_from_yields_List}
use Rattle.event_walk.specs.Walk.{bad_point}
use Rattle.grow_path.proofs.Testing.{some_bad_any}
use Rattle.grow_path.proofs.some_bad.Goals as goal

pub returns : goal.returns
returns c = any_from_yields_List bad_point _ _ _ c.any.ensures.ran
    (YieldsList-from_first (λ x. x) (λ l. l) c.args.events refl) (λ x b q k. search rules)
    ∙ sym (some_bad_any c.args.events)

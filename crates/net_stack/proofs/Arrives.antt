-- An Arrive, as the derived `==` has it.
use Rattle.std.specs.Prelude.{◌≡◌, refl}
use denote.Enum.Bare.{sameb}
use Rattle.net_node.specs.declared.EstType.{EstType}
use Rattle.net_node.specs.declared.EstType.TheVariants.{Arrive, Clear, Fake}
use Rattle.net_node.specs.contracts.EstType.{the_type}
use Rattle.net_stack.specs.Stack.{is_arrive}

-- `==` with Arrive
pub arrive_eq : (k : EstType) → sameb the_type k Arrive ≡ is_arrive k
arrive_eq Arrive = refl
arrive_eq Clear = refl
arrive_eq Fake = refl

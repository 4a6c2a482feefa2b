-- Events, kinds and blank nodes as the derived `==` and `default` have them.
use Rattle.std.specs.Prelude.{◌≡◌, refl, Bool, ◌&&◌, eqb}
use mathlib.Core.Path.{ap}
use denote.Enum.Bare.{sameb}
use Rattle.net_node.specs.declared.EstType.{EstType}
use Rattle.net_node.specs.declared.EstType.TheVariants.{Arrive, Clear, Fake}
use Rattle.net_node.specs.declared.LinkEvent.{LinkEvent}
use Rattle.net_node.specs.contracts.EstType.{the_type}
use Rattle.net_node.specs.Table.{same_kind, same_event}

-- `==` of two kinds
pub kind_eq : (a b : EstType) → sameb the_type a b ≡ same_kind a b
unfolding same_kind
kind_eq Arrive Arrive = refl
kind_eq Arrive Clear = refl
kind_eq Arrive Fake = refl
kind_eq Clear Arrive = refl
kind_eq Clear Clear = refl
kind_eq Clear Fake = refl
kind_eq Fake Arrive = refl
kind_eq Fake Clear = refl
kind_eq Fake Fake = refl

-- `==` of two events
pub event_eq : (a b : LinkEvent) → (eqb a.link_idx b.link_idx && sameb the_type a.est_type b.est_type) ≡ same_event a b
unfolding same_event
event_eq a b = ap (λ (k : Bool). eqb a.link_idx b.link_idx && k) (kind_eq a.est_type b.est_type)

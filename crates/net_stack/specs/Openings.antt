-- Words of the contracts: where a strand is left, and where a node is put on the stack itself. The stack is a list
-- whose first is on top.
use Rattle.std.specs.Prelude.{Bool, true, false, ◌||◌, List, ◌∷◌, ℕ, ◌+◌, ◌-◌, ◌*◌, ◌/◌, ◌%◌, eqb, ltb}
use Rattle.net_node.specs.declared.EstTime.{EstTime}
use Rattle.net_stack.specs.Stack.{is_arrive}

-- how many numbers the strand walk's stack has: one for an alternative of each next, and 512 for nodes to be closed
abbrev pub stack_length : ℕ
stack_length = 4608

-- "is an Arrive or has no next"
unfoldable pub ends_strand : EstTime → Bool
ends_strand x = is_arrive x.link_event.est_type || eqb x.idx_next 0

-- ---- nodes on the stack that are to be closed: what a node gives is noted when all that it stacked is walked

-- Of the stack's numbers those below 65,536 are nodes to be walked; each other one is an opening, and the number below
-- it the node that was opened. An opening says how many entries the new list had, and how many nexts were left, when
-- the walk came to the node: 1 to 4,096, so that it is at least 65,536.
abbrev pub opening_of : ℕ → ℕ → ℕ
opening_of at left = 65535 + at * 4096 + left

-- how many entries an opening says there were
abbrev pub opening_at : ℕ → ℕ
opening_at opening = (opening - 65536) / 4096

-- how many nexts it says were left
abbrev pub opening_left : ℕ → ℕ
opening_left opening = (opening - 65536) % 4096 + 1

-- A node is opened as long as the stack has room for it beside an alternative for each next that is left.
unfoldable pub opens : (left top : ℕ) → Bool
opens left top = ltb (top + left + 1) stack_length

-- a node and its opening on a stack, if it is opened
abbrev pub opened_if : Bool → ℕ → ℕ → List ℕ → List ℕ
opened_if true opening i stack = opening ∷ i ∷ stack
opened_if false opening i stack = stack

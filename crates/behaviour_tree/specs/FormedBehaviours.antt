-- What well-formed behaviours are, and how many members their parallels have.
use Rattle.std.specs.Prelude.{ℕ, suc, ◌+◌, Bool, true, false, not, ◌&&◌, nat_lt, nat_le}
use Rattle.std.specs.Prelude.{if◌then◌else◌, List, [], ◌∷◌, slice_get, None, Some, is_some, unwrap_or}
use Rattle.behaviour_tree.specs.declared.behaviour.HandlerKey.{HandlerKey}
use Rattle.behaviour_tree.specs.declared.behaviour.HandlerKey.TheVariants as key
use Rattle.behaviour_tree.specs.Data.{Proc, nothing, assign, undef, copy, bind, sequence, parallel, choose}
use Rattle.behaviour_tree.specs.Data.{repeat, choice, notify, solicit, install, throw, comp, inner_handler}
use Rattle.behaviour_tree.specs.Data.{scope, block, Procs, no_procs, proc, Branches, no_branches, one_way}
use Rattle.behaviour_tree.specs.Data.{request, HandlerList, no_handlers, handler, OperationPart}
use Rattle.behaviour_tree.specs.Distinct.{is_some_list, numbers_differ}
use Rattle.behaviour_tree.specs.FormedExpressions.{is_exp, is_path, is_target}

-- what behaviours may name by numbers: the operations of the input ports, those of the port of each number, where it is
-- one to which messages are sent, how many variables there are, and how many names
pub record Reach : Type 0 where
  pub inputs : List OperationPart
  pub outputs : List (List OperationPart)
  pub variables : ℕ
  pub names : ℕ

-- an operation that is there, and has an answer or none
abbrev pub has_operation : List OperationPart → ℕ → Bool → Bool
has_operation operations op answers =
    elim (slice_get operations op) [
      | None ↦ false
      | Some o ↦ if answers then is_some o.response else not (is_some o.response)
    ]

-- the operations of the port of a number
abbrev pub outputs_at : Reach → ℕ → List OperationPart
outputs_at r port = unwrap_or (slice_get r.outputs port) []

-- the operations of branches
abbrev pub branch_operations : Branches → List ℕ
branch_operations no_branches = []
branch_operations (one_way op x after branches) = op ∷ branch_operations branches
branch_operations (request op x y body after branches) = op ∷ branch_operations branches

-- the faults that handlers are for
abbrev pub handler_faults : HandlerList → List ℕ
handler_faults no_handlers = []
handler_faults (handler key.This p list) = handler_faults list
handler_faults (handler (key.Fault f) p list) = f ∷ handler_faults list
handler_faults (handler (key.Scope q) p list) = handler_faults list

-- how many handlers are for the scope itself
abbrev pub handlers_of_this : HandlerList → ℕ
handlers_of_this no_handlers = 0
handlers_of_this (handler key.This p list) = suc (handlers_of_this list)
handlers_of_this (handler (key.Fault f) p list) = handlers_of_this list
handlers_of_this (handler (key.Scope q) p list) = handlers_of_this list

-- no key stands twice
abbrev pub keys_differ : HandlerList → Bool
keys_differ list = numbers_differ (handler_faults list) && nat_le (handlers_of_this list) 1

-- a key that a text may have
abbrev pub is_key : ℕ → HandlerKey → Bool
is_key names key.This = true
is_key names (key.Fault f) = nat_lt f names
is_key names (key.Scope q) = false

abbrev mutual
  -- a behaviour that stands in a handler or not
  pub is_behaviour : Reach → Bool → Proc → Bool
  is_behaviour r inside nothing = true
  is_behaviour r inside (assign p e) = is_path p && is_exp e
  is_behaviour r inside (undef p) = is_path p
  is_behaviour r inside (copy p e) = is_path p && is_exp e
  is_behaviour r inside (bind v e) = nat_lt v r.variables && is_exp e
  is_behaviour r inside (sequence ps) = are_two r inside ps
  is_behaviour r inside (parallel ps) = are_two r inside ps
  is_behaviour r inside (choose e p q) = is_exp e && is_behaviour r inside p && is_behaviour r inside q
  is_behaviour r inside (repeat e p) = is_exp e && is_behaviour r inside p
  is_behaviour r inside (choice branches) =
      is_some_list (branch_operations branches) && numbers_differ (branch_operations branches)
      && are_branches r inside branches
  is_behaviour r inside (notify port op e) = has_operation (outputs_at r port) op false && is_exp e
  is_behaviour r inside (solicit port op e x list) =
      has_operation (outputs_at r port) op true && is_exp e && is_target x && keys_differ list && are_handlers r list
  is_behaviour r inside (install list) = keys_differ list && are_handlers r list
  is_behaviour r inside (throw f e) = nat_lt f r.names && is_exp e
  is_behaviour r inside (comp q) = inside && nat_lt q r.names
  is_behaviour r inside inner_handler = inside
  is_behaviour r inside (scope q p) = nat_lt q r.names && is_behaviour r inside p
  is_behaviour r inside (block p) = is_behaviour r inside p

  -- two behaviours at least
  pub are_two : Reach → Bool → Procs → Bool
  are_two r inside no_procs = false
  are_two r inside (proc p ps) = is_behaviour r inside p && are_some r inside ps

  -- one behaviour at least
  pub are_some : Reach → Bool → Procs → Bool
  are_some r inside no_procs = false
  are_some r inside (proc p ps) = is_behaviour r inside p && are_behaviours r inside ps

  -- behaviours
  pub are_behaviours : Reach → Bool → Procs → Bool
  are_behaviours r inside no_procs = true
  are_behaviours r inside (proc p ps) = is_behaviour r inside p && are_behaviours r inside ps

  -- branches: each has a reply part exactly where its operation has an answer
  pub are_branches : Reach → Bool → Branches → Bool
  are_branches r inside no_branches = true
  are_branches r inside (one_way op x after branches) =
      has_operation r.inputs op false && is_target x && is_behaviour r inside after && are_branches r inside branches
  are_branches r inside (request op x y body after branches) =
      has_operation r.inputs op true && is_target x && is_target y && is_behaviour r inside body
      && is_behaviour r inside after
      && are_branches r inside branches

  -- handlers: each body stands in a handler
  pub are_handlers : Reach → HandlerList → Bool
  are_handlers r no_handlers = true
  are_handlers r (handler k p list) = is_key r.names k && is_behaviour r true p && are_handlers r list

-- how many behaviours there are
abbrev pub count_of : Procs → ℕ
count_of no_procs = 0
count_of (proc p ps) = suc (count_of ps)

abbrev mutual
  -- how many members the parallels of a behaviour have in all, those in its handlers included
  pub parallel_members : Proc → ℕ
  parallel_members (sequence ps) = members_within ps
  parallel_members (parallel ps) = count_of ps + members_within ps
  parallel_members (choose e p q) = parallel_members p + parallel_members q
  parallel_members (repeat e p) = parallel_members p
  parallel_members (choice branches) = members_of_branches branches
  parallel_members (solicit port op e x list) = members_of_handlers list
  parallel_members (install list) = members_of_handlers list
  parallel_members (scope q p) = parallel_members p
  parallel_members (block p) = parallel_members p
  parallel_members p = 0

  -- in behaviours
  pub members_within : Procs → ℕ
  members_within no_procs = 0
  members_within (proc p ps) = parallel_members p + members_within ps

  -- in branches
  pub members_of_branches : Branches → ℕ
  members_of_branches no_branches = 0
  members_of_branches (one_way op x after branches) = parallel_members after + members_of_branches branches
  members_of_branches (request op x y body after branches) =
      parallel_members body + parallel_members after + members_of_branches branches

  -- in handlers
  pub members_of_handlers : HandlerList → ℕ
  members_of_handlers no_handlers = 0
  members_of_handlers (handler k p list) = parallel_members p + members_of_handlers list

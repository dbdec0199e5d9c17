-- In: a message comes to a choice.
use Rattle.std.specs.Prelude.{ℕ, suc, List, Option, None, Some, if◌then◌else◌, nat_eq}
use Rattle.jolie_trees.specs.Data.{Tree}
use Rattle.jolie_trees.specs.Limits.{in_u32}
use Rattle.behaviour_tree.specs.declared.words.Kind.TheVariants as kind
use Rattle.behaviour_tree.specs.declared.words.Need.TheVariants as need
use Rattle.behaviour_tree.specs.declared.words.Given.TheVariants as given
use Rattle.behaviour_tree.specs.Data.{PathTree, Proc, no_procs, proc, Branches, no_branches, one_way, request}
use Rattle.behaviour_tree.specs.FormedBehaviours.{branch_operations}
use Rattle.session_calculus.specs.Terms.{Term, seq, exec}
use Rattle.session_calculus.specs.Effects.{Effect, faults, stores, received}
use Rattle.session_calculus.specs.Moves.{Seen, Made, Move, moved_to, within, event_of, unchanged, starts, instead}

-- a message that came to a choice: its number, operation and value, the operations that the choice takes, and the
-- number of the branch that it has come to
pub record Coming : Type 0 where
  pub message : ℕ
  pub op : ℕ
  pub value : Tree
  pub ops : List ℕ
  pub branch : ℕ

-- the same message at the next branch
abbrev pub past : Coming → Coming
past m = record m { branch = suc m.branch }

-- what a message makes where it is taken; its event tells the branch as far as 32 bits hold its number
abbrev pub taken : Seen → Coming → Made
taken s m = unchanged s (event_of s kind.In m.message (in_u32 m.branch) 0) (need.Take m.ops)

-- the behaviour of a branch starts once the target has the value. Where that passes a limit of the store, the target is
-- not set, and StoreTooLarge stands in the place of the behaviour
abbrev pub goes_on : Seen → Coming → Proc → Effect → Move Term
goes_on s m p (faults f) = moved_to (instead f) (taken s m)
goes_on s m p (stores store) = starts p (record (taken s m) { store = store })

-- the body of a request stands under its message, its operation and the path of its reply, and what comes after stands
-- after it
abbrev pub asked : Coming → Option PathTree → Proc → Term → Term
asked m y p t = seq (exec m.message m.op y t) (proc p no_procs)

-- a message comes to the branch of its operation: a one-way goes on with what comes after; a request with its body, and
-- then with what comes after
abbrev pub comes : Seen → Coming → Branches → Option (Move Term)
comes s m no_branches = None
comes s m (one_way o x p bs) =
    if nat_eq o m.op then Some (goes_on s m p (received s.store x m.value)) else comes s (past m) bs
comes s m (request o x y body p bs) =
    if nat_eq o m.op then Some (within (asked m y p) (goes_on s m body (received s.store x m.value)))
    else comes s (past m) bs

-- the event of a choice, for a message that the office gave
abbrev pub inputs : Seen → Branches → Option (Move Term)
inputs s bs = elim s.gift [
  | given.Mail m o v ↦ comes s (record { message = m; op = o; value = v; ops = branch_operations bs; branch = 0 }) bs
  | _ ↦ None
]

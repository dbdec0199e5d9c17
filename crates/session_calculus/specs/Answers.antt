-- Answer: the answer of a call comes.
use Rattle.std.specs.Prelude.{ℕ, Bool, true, false, nat_eq, List, [], ◌∷◌, Option, None, Some, if◌then◌else◌, bytes_eq}
use Rattle.std.specs.List.{list_any, position_from}
use Rattle.std.specs.Option.{option_map_or}
use Rattle.jolie_trees.specs.declared.root.Root.TheVariants as root
use Rattle.jolie_trees.specs.Data.{Tree}
use Rattle.behaviour_tree.specs.declared.words.Kind.TheVariants as kind
use Rattle.behaviour_tree.specs.declared.words.Need.TheVariants as need
use Rattle.behaviour_tree.specs.declared.words.Given.TheVariants as given
use Rattle.behaviour_tree.specs.declared.words.Outcome.{Outcome}
use Rattle.behaviour_tree.specs.declared.words.Outcome.TheVariants as outcome
use Rattle.behaviour_tree.specs.declared.words.Reason.{Reason}
use Rattle.behaviour_tree.specs.declared.words.Reason.TheVariants as reason
use Rattle.behaviour_tree.specs.Data.{PathTree, HandlerList, ProgramParts}
use Rattle.behaviour_tree.specs.Values.{alone}
use Rattle.behaviour_tree.specs.Reasons.{code_of}
use Rattle.session_calculus.specs.Names.{io_exception, type_mismatch, correlation_error}
use Rattle.session_calculus.specs.Names.{refused, undeclared_fault, handler_too_large}
use Rattle.session_calculus.specs.Tables.{plus, fits}
use Rattle.session_calculus.specs.Terms.{Fault, bare, Term, done, thrown}
use Rattle.session_calculus.specs.Effects.{Effect, faults, stores, received}
use Rattle.session_calculus.specs.Accepted.{accepted, response_sent, throws_sent, type_thrown}
use Rattle.session_calculus.specs.Moves.{Seen, Made, Move, moved_to, event_of, unchanged, instead}

-- ---- how an outcome is read

-- what a caller reads in an outcome: a value or a fault
pub data Read : Type 0 where
  answered : Tree → Read
  faulted : Fault → Read

-- a call: its number, and the port and operation that it was sent to
pub record Call : Type 0 where
  pub number : ℕ
  pub port : ℕ
  pub op : ℕ

-- a call by its numbers
abbrev pub call_of : ℕ → ℕ → ℕ → Call
call_of k port op = record { number = k; port = port; op = op }

-- the number of a name
abbrev pub number_of : ProgramParts → List ℕ → Option ℕ
number_of parts name = position_from (bytes_eq name) 0 parts.names

-- the faults that pass as themselves though an operation does not throw them
abbrev pub is_passed : ℕ → Bool
is_passed f = list_any (nat_eq f) (io_exception ∷ type_mismatch ∷ correlation_error ∷ refused ∷ [])

-- a fault that its operation doesn't throw, or not with such a value
abbrev pub undeclared : Fault → Fault
undeclared f = if is_passed f.name then f else bare undeclared_fault

-- a fault by number as the answer of a call: it is itself where its operation throws it with a value of that type
abbrev pub read_fault : Seen → Call → Fault → Fault
read_fault s c f =
    option_map_or (λ v. record { name = f.name; value = v })
    (accepted s.parts.types (type_thrown (throws_sent s.parts s.service c.port c.op) f.name) f.value)
    (undeclared f)

-- a fault by its name as the answer of a call: a name that the program has not is no fault of the operation
abbrev pub read_named : Seen → Call → List ℕ → Tree → Fault
read_named s c name v =
    option_map_or (λ f. read_fault s c (record { name = f; value = v })) (number_of s.parts name)
    (bare undeclared_fault)

-- a refusal as a fault: Refused has its code as a long
abbrev pub read_refusal : Reason → Fault
read_refusal reason.Correlation = bare correlation_error
read_refusal reason.NotConforming = bare type_mismatch
read_refusal r = record { name = refused; value = alone (root.Long (code_of r)) }

-- the outcome of a call as its caller reads it
abbrev pub read : Seen → Call → Outcome → Read
read s c (outcome.Value v) =
    option_map_or answered (accepted s.parts.types (response_sent s.parts s.service c.port c.op) v)
    (faulted (bare type_mismatch))
read s c (outcome.Fault name v) = faulted (read_named s c name v)
read s c (outcome.Refused r) = faulted (read_refusal r)

-- ---- what it makes

-- the answer of a call comes
abbrev pub answer_comes : Seen → Call → Made
answer_comes s c = unchanged s (event_of s kind.Answer c.number 0 0) (need.Answer c.number)

-- the same with the handlers of the call installed in the nearest scope
abbrev pub with_handlers : Seen → Call → HandlerList → Made
with_handlers s c list = record (answer_comes s c) { table = plus s.scope s.table list }

-- the target of a call gets the value, unless that passes a limit
abbrev pub sets_target : Made → Effect → Move Term
sets_target m (faults f) = moved_to (instead f) m
sets_target m (stores store) = moved_to done (record m { store = store })

-- a value comes for a call that waits. Where its handlers don't fit, they are not installed and the target is not set;
-- where the target alone passes a limit, the handlers are installed all the same
abbrev pub value_comes : Seen → Call → Option PathTree → HandlerList → Tree → Move Term
value_comes s c x list v =
    elim (fits s.scope s.table list) [
      | false ↦ moved_to (instead handler_too_large) (answer_comes s c)
      | true ↦ sets_target (with_handlers s c list) (received s.store x v)
    ]

-- the answer of a call that waits
abbrev pub answers : Seen → Call → Option PathTree → HandlerList → Read → Move Term
answers s c x list (answered v) = value_comes s c x list v
answers s c x list (faulted f) = moved_to (thrown f) (answer_comes s c)

-- the answer of a call that was killed while it waited: a value installs its handlers where they fit, and that is all
abbrev pub dead_answers : Seen → Call → HandlerList → Read → Move Term
dead_answers s c list (answered v) =
    moved_to done (if fits s.scope s.table list then with_handlers s c list else answer_comes s c)
dead_answers s c list (faulted f) = moved_to done (answer_comes s c)

-- the event of a call, for an outcome that the office gave
abbrev pub with_answer : Seen → Call → (Read → Move Term) → Option (Move Term)
with_answer s c moves = elim s.gift [ given.Answer o ↦ Some (moves (read s c o)) | _ ↦ None ]

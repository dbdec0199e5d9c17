-- The operations that are sent to.
use Rattle.std.specs.Prelude.{ℕ, List, [], ◌∷◌, ◌++◌, slice_get, Option, option_and_then}
use Rattle.behaviour_tree.specs.Data.{OperationPart}
use Rattle.behaviour_tree.specs.FormedServices.{println}
use Rattle.behaviour_tree.specs.PartsSeen.{operation_view}
use Rattle.session_values.specs.declared.sent.Sent as sent

-- the operation that is sent to
abbrev pub sent_view : sent.Sent → OperationPart
sent_view sent.TheVariants.Console = println
sent_view (sent.TheVariants.Declared o) = operation_view o.now

-- the operation of a number of a port, where the ports have these operations and that of Console stands after them
abbrev pub operation_at_port : List (List OperationPart) → ℕ → ℕ → Option OperationPart
operation_at_port ports port op =
    option_and_then (λ operations. slice_get operations op) (slice_get (ports ++ (println ∷ []) ∷ []) port)

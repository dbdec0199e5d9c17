-- These definitions serve the proofs alone: no promise speaks of them.
-- What a message of Rust stands for.
use Rattle.std.specs.Prelude.{ℕ, Option, None, Some}
use Rattle.jolie_trees.specs.Data.{Tree}
use Rattle.session_events.specs.declared.message.Message as message

-- the name of the fault of a message, where it has one
abbrev pub fault_number : message.Message → Option ℕ
fault_number (message.TheVariants.Faults f) = Some f
fault_number (message.TheVariants.Sends v) = None

-- its value, where it has one
abbrev pub value_in : message.Message → Option Tree
value_in (message.TheVariants.Faults f) = None
value_in (message.TheVariants.Sends v) = Some v

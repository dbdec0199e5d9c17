-- These definitions serve the proofs alone: no promise speaks of them.
-- Which places the office gives nothing for.
use Rattle.std.specs.Prelude.{Bool, true, false}
use Rattle.behaviour_tree.specs.Data.{Proc, bind, choice, comp, install}

-- a place for whose event the office gives nothing: any but a choice and a binding
abbrev pub wants_nothing : Proc → Bool
wants_nothing (choice bs) = false
wants_nothing (bind v e) = false
wants_nothing p = true

-- such a place whose event leaves the handlers of the scope as they are; a choice and a binding, which leave them too,
-- are no such places
abbrev pub leaves_handlers : Proc → Bool
leaves_handlers (install list) = false
leaves_handlers (comp r) = false
leaves_handlers p = wants_nothing p

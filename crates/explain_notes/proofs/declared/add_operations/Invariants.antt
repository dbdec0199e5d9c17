use Rattle.std.proofs.Common.{◌≡◌, ◌++◌, take, flat_map}
use Rattle.check_base.specs.Files.{answering}
use Rattle.explain_notes.specs.Notes.{fault_names}
use Rattle.explain_notes.proofs.declared.add_operations.Given as goal

abbrev pub invariant-loop-operation : goal.invariant-loop-operation
invariant-loop-operation l =
    l.names ≡ l.initial.names ++ flat_map (λ o. fault_names (answering o).throws) (take l.operation-index l.operations)

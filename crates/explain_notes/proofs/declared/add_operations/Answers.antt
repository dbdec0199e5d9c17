use Rattle.std.proofs.Common.{arith, ap, ◌∙◌, ◌++◌, sym}
use Rattle.check_base.specs.Files.{Operation, answering}
use Rattle.explain_notes.specs.Notes.{fault_names}
use Rattle.explain_notes.proofs.Turns.{all_of, mapped_parts}
use Rattle.explain_notes.proofs.declared.add_operations.Goals as goal

pub returns : goal.returns
returns c =
    all_of (λ o. fault_names (answering o).throws) c.args.names.now c.loop-operation.names c.args.operations.now c.loop-operation.operation-index (omega arith) c.loop-operation.invariant
    ∙ ap (λ ns. c.args.names.now ++ ns) (sym (mapped_parts (λ (o : Operation). fault_names o.throws) answering c.args.operations.now))

use Rattle.std.proofs.Common.{arith, ap, ◌∙◌, ◌++◌, ◌∷◌, [], sym}
use Rattle.std.specs.Prelude.{if◌then◌else◌}
use Rattle.check_base.specs.Files.{Operation, answering}
use Rattle.explain_notes.specs.Answers.{is_content}
use Rattle.explain_notes.proofs.Turns.{all_of, mapped_parts}
use Rattle.explain_notes.proofs.content.add_content.Goals as goal

pub returns : goal.returns
returns c =
    all_of (λ o. if is_content c.args.types.now (answering o) then o.name.text ∷ [] else []) c.args.names.now c.loop-operation.names c.args.operations.now c.loop-operation.operation-index (omega arith) c.loop-operation.invariant
    ∙ ap (λ ns. c.args.names.now ++ ns) (sym (mapped_parts (λ (o : Operation). if is_content c.args.types.now o then o.name.text ∷ [] else []) answering c.args.operations.now))

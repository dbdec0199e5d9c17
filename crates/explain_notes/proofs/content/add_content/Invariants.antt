use Rattle.std.proofs.Common.{◌≡◌, ◌++◌, ◌∷◌, [], take, flat_map}
use Rattle.std.specs.Prelude.{if◌then◌else◌}
use Rattle.check_base.specs.Files.{answering}
use Rattle.explain_notes.specs.Answers.{is_content}
use Rattle.explain_notes.proofs.content.add_content.Given as goal

abbrev pub invariant-loop-operation : goal.invariant-loop-operation
invariant-loop-operation l =
    l.names ≡ l.initial.names ++ flat_map (λ o. if is_content l.types (answering o) then o.name.text ∷ [] else []) (take l.operation-index l.operations)

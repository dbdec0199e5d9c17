use Rattle.std.proofs.Common.{◌≡◌, ◌++◌, take, flat_map}
use Rattle.check_base.specs.Files.{group_operations}
use Rattle.explain_notes.specs.Answers.{content_among}
use Rattle.explain_notes.proofs.content.add_interface.Given as goal

abbrev pub invariant-loop-group : goal.invariant-loop-group
invariant-loop-group l = l.names ≡ l.initial.names ++ flat_map (λ g. content_among l.types (group_operations g)) (take l.group-index l.group-items)

use Rattle.std.proofs.Common.{◌≡◌, take}
use Rattle.explain_notes.specs.Answers.{content_in}
use Rattle.explain_notes.proofs.content.content_in.Given as goal

abbrev pub invariant-loop-definition : goal.invariant-loop-definition
invariant-loop-definition l = l.names ≡ content_in l.types (take l.definition-index l.file)

use Rattle.std.proofs.Common.{◌≡◌, drop}
use Rattle.explain_notes.specs.Answers.{asks_fields}
use Rattle.explain_notes.proofs.content.asks_fields.Given as goal

abbrev pub invariant-loop-field : goal.invariant-loop-field
invariant-loop-field l = asks_fields (drop l.field-index l.fields) ≡ asks_fields l.fields

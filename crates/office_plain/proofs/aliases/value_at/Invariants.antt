use Rattle.std.proofs.Common.{◌≡◌, drop}
use Rattle.office_core.specs.Keys.{value_at}
use Rattle.office_plain.proofs.aliases.value_at.Given as goal

abbrev pub invariant-loop-name : goal.invariant-loop-name
invariant-loop-name l = value_at l.value l.path ≡ value_at l.node (drop l.name-index l.path)

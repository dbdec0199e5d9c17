use Rattle.std.proofs.Common.{◌≡◌, map, drop}
use Rattle.behaviour_tree.specs.PartsView.{alias_view}
use Rattle.office_core.specs.Keys.{path_in}
use Rattle.office_plain.proofs.aliases.path_in.Given as goal

abbrev pub invariant-loop-alias : goal.invariant-loop-alias
invariant-loop-alias l =
    path_in l.ty (record { number = 0; aliases = map alias_view l.alias-items })
    ≡ path_in l.ty (record { number = 0; aliases = map alias_view (drop l.alias-index l.alias-items) })

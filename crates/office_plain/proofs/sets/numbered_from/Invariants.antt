use Rattle.std.proofs.Common.{◌≡◌, ◌+◌, ◌++◌, map, drop}
use Rattle.behaviour_tree.specs.FormedNumbers.{count_variables}
use Rattle.behaviour_tree.specs.PartsView.{set_view}
use Rattle.office_core.specs.Keys.{sets_from}
use Rattle.office_plain.specs.SetNumbers.{numbered_from}
use Rattle.office_plain.proofs.sets.numbered_from.Given as goal

abbrev pub invariant-loop-set : goal.invariant-loop-set
invariant-loop-set l = record {
  list : numbered_from l.first (sets_from 0 (map set_view l.sets))
      ≡ l.list.items ++ numbered_from l.number (sets_from l.variable (map set_view (drop l.set-index l.sets)));
  number : l.number ≡ l.first + l.set-index;
  variables : count_variables (map set_view l.sets)
      ≡ l.variable + count_variables (map set_view (drop l.set-index l.sets));
}

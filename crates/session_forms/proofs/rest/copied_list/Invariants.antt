use Rattle.std.proofs.Common.{◌≡◌, map, take}
use Rattle.behaviour_tree.specs.View.{behaviour_view}
use Rattle.session_forms.proofs.rest.copied_list.Given as goal

abbrev pub invariant-loop-behaviour : goal.invariant-loop-behaviour
invariant-loop-behaviour l = map behaviour_view l.copies.items ≡ map behaviour_view (take l.behaviour-index l.list)

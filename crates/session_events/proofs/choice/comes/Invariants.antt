use Rattle.std.proofs.Common.{map, ◌≡◌}
use Rattle.behaviour_tree.specs.View.{branch_view, branches_of}
use Rattle.behaviour_tree.specs.FormedBehaviours.{branch_operations}
use Rattle.session_calculus.specs.Inputs.{comes}
use Rattle.session_calculus.specs.Moves.{Seen}
use Rattle.session_events.specs.Comes.{coming}
use Rattle.session_events.proofs.Branches.{rest_from}
use Rattle.session_events.proofs.choice.comes.Given as goal

abbrev pub invariant-loop-i : goal.invariant-loop-i
invariant-loop-i l =
    ((s : Seen) → comes s (coming l.mail (branch_operations (branches_of (map branch_view l.list))) l.i) (rest_from l.list l.i) ≡ comes s (coming l.mail (branch_operations (branches_of (map branch_view l.list))) 0) (branches_of (map branch_view l.list)))
    × (l.memory ≡ l.initial.memory)

-- What comes after a head.
use Rattle.std.specs.Prelude.{List, drop}
use Rattle.std.specs.Arc.{arc_value}
use Rattle.behaviour_tree.specs.declared.behaviour.Behaviour.{Behaviour}
use Rattle.session_forms.specs.declared.rest.Rest.{Rest}

-- the forms of a rest, in order
abbrev pub rest_items : Rest → List Behaviour
rest_items rest = drop rest.from (arc_value rest.list).items

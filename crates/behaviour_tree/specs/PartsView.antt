-- The plain data that the parts of a program stand for.
use Rattle.std.specs.Arc.{arc_value}
pub use Rattle.behaviour_tree.specs.PartsSeen.{throws_view, operation_view, interface_view, port_view}
pub use Rattle.behaviour_tree.specs.PartsSeen.{alias_view, variable_view, set_view, service_view, parts_view}
use Rattle.behaviour_tree.specs.Data.{ProgramParts}
use Rattle.behaviour_tree.specs.declared.program.Parts.{Parts}
use Rattle.behaviour_tree.specs.declared.program.Program.{Program}

-- the parts that a program and its copies share
abbrev pub shared_by : Program → Parts
shared_by p = arc_value p.parts

-- the parts of a program
abbrev pub parts_of : Program → ProgramParts
parts_of p = parts_view (shared_by p)

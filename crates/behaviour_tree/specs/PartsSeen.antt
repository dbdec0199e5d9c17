-- The plain data that the parts of a program stand for, before there is a program.
use Rattle.std.specs.Prelude.{map, option_map}
use Rattle.behaviour_tree.specs.Data.{ThrowsPart, OperationPart, InterfacePart, PortPart}
use Rattle.behaviour_tree.specs.Data.{AliasPart, VariablePart, SetPart, ServicePart, ProgramParts}
use Rattle.behaviour_tree.specs.View.{type_view, behaviour_view}
use Rattle.behaviour_tree.specs.declared.program.Throws.{Throws}
use Rattle.behaviour_tree.specs.declared.program.Operation.{Operation}
use Rattle.behaviour_tree.specs.declared.program.Interface.{Interface}
use Rattle.behaviour_tree.specs.declared.program.Port.{Port}
use Rattle.behaviour_tree.specs.declared.program.Alias.{Alias}
use Rattle.behaviour_tree.specs.declared.program.SetVariable.{SetVariable}
use Rattle.behaviour_tree.specs.declared.program.CorrelationSet.{CorrelationSet}
use Rattle.behaviour_tree.specs.declared.program.Service.{Service}
use Rattle.behaviour_tree.specs.declared.program.Parts.{Parts}

-- a fault that an operation may answer
abbrev pub throws_view : Throws → ThrowsPart
throws_view t = record { fault = t.fault; ty = type_view t.ty }

-- an operation
abbrev pub operation_view : Operation → OperationPart
operation_view o = record {
  name = o.name;
  request = type_view o.request;
  response = option_map type_view o.response;
  throws = map throws_view o.throws.items;
}

-- an interface
abbrev pub interface_view : Interface → InterfacePart
interface_view i = record { name = i.name; operations = map operation_view i.operations.items }

-- a port
abbrev pub port_view : Port → PortPart
port_view p = record { name = p.name; input = p.input; location = p.location; interfaces = p.interfaces.items }

-- where a type has the value of a correlation variable
abbrev pub alias_view : Alias → AliasPart
alias_view a = record { ty = a.ty; path = a.path.items }

-- a correlation variable
abbrev pub variable_view : SetVariable → VariablePart
variable_view v = record { name = v.name; aliases = map alias_view v.aliases.items }

-- a correlation set
abbrev pub set_view : CorrelationSet → SetPart
set_view s = record { variables = map variable_view s.variables.items }

-- a service
abbrev pub service_view : Service → ServicePart
service_view s = record {
  name = s.name;
  execution = s.execution;
  ports = map port_view s.ports.items;
  sets = map set_view s.sets.items;
  init = behaviour_view s.init;
  main = behaviour_view s.main;
}

-- what a program consists of
abbrev pub parts_view : Parts → ProgramParts
parts_view p = record {
  types = map type_view p.types.items;
  interfaces = map interface_view p.interfaces.items;
  services = map service_view p.services.items;
  names = p.names.items;
}

-- A message to an operation of a service as the definitions have it.
use Rattle.behaviour_tree.specs.PartsView.{operation_view, service_view}
use Rattle.office_core.specs.Route as route
use Rattle.office_plain.specs.declared.asked.Asked.{Asked}

-- a message to an operation of a service
abbrev pub asked_view : Asked → route.Asked
asked_view a = record {
  number = a.number;
  service = service_view a.service.now;
  op = a.op;
  operation = operation_view a.operation.now;
  value = a.value.now;
}

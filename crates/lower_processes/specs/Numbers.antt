-- These definitions serve the proofs alone: `check` does not speak of them, the clauses of calls of this crate do.
-- What the processes of a service name by numbers, as the checker keeps it.
use Rattle.std.specs.Prelude.{◌≡◌, ℕ, List, map, Option, option_and_then, slice_get}
use Rattle.lower_processes.specs.declared.numbers.Numbers.{Numbers}
use Rattle.lower_processes.specs.declared.numbers.NumberedOperation.{NumberedOperation}
use Rattle.lower_processes.specs.Behaviours.{NumberedPort, Numbering}
use Rattle.check_base.specs.Files.{place_in}
use Rattle.check_base.specs.Repeated.{place_of}

-- the first port of a name, by the place of the name
abbrev pub port_named : List NumberedPort → List ℕ → Option NumberedPort
port_named ports name =
    option_and_then (λ place. slice_get ports place) (place_of (map (λ (p : NumberedPort). p.name) ports) name)

-- the numbers of a service, with the names of the file
abbrev pub numbering_of : Numbers → List (List ℕ) → Numbering
numbering_of n names = record {
  inputs = n.inputs;
  ports = n.ports;
  console = n.console;
  variables = n.variables;
  names = names;
}

-- an operation of an output port by the numbers of both
abbrev pub IsNumberedOperation : NumberedOperation → NumberedPort → List ℕ → Type 0
IsNumberedOperation o port operation = (o.port ≡ port.number) × (o.op ≡ place_in port.operations operation)

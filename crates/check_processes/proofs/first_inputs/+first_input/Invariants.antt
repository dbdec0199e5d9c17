use Rattle.std.proofs.Common.{◌≡◌, drop, map}
use Rattle.check_processes.specs.FirstInputParts.{beginning}
use Rattle.check_processes.specs.FirstInputs.{of_sequence}
use Rattle.check_processes.proofs.first_inputs.+first_input.Given as goal

abbrev pub invariant-first_input_of_sequence-loop-statement : goal.invariant-first_input_of_sequence-loop-statement
invariant-first_input_of_sequence-loop-statement l = of_sequence (map beginning l.statements) ≡ of_sequence (map beginning (drop l.statement-index l.statements))

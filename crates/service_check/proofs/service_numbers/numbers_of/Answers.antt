use Rattle.std.proofs.Common.{ap, sym, length, ◌∙◌}
use Rattle.std.proofs.lemmas.List.{length-map}
use Rattle.check_base.specs.Files.{each_once, texts_of}
use Rattle.service_check.specs.KeptPorts.{input_operations_among, sided}
use Rattle.service_check.specs.Programs.{numbered_from}
use Rattle.service_check.proofs.Numbering.{numbering_made}
use Rattle.service_check.proofs.service_numbers.numbers_of.Goals as goal

pub returns : goal.returns
returns c =
    numbering_made _ _ _ _ c.args.interfaces.now c.args.service.now
    (c.inputs.view_is ∙ c.in_ok-inputs.ensures ∙ ap (λ clauses. texts_of (each_once (input_operations_among c.args.interfaces.now clauses))) c.as_slice-clauses.ensures)
    (c.ports.view_is ∙ c.in_ok-ports.ensures ∙ ap (numbered_from c.args.interfaces.now 0) c.requires)
    (c.in_ok-console.ensures.value ∙ sym (length-map c.args.sides.now sided) ∙ ap length c.requires)
    c.in_ok-variables_of.ensures

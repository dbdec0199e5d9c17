use Rattle.std.proofs.Common.{ap, ◌∙◌}
use Rattle.check_base.specs.Repeated.{with_texts}
use Rattle.check_base.specs.Files.{texts_of, operations_among}
use Rattle.check_base.proofs.Firsts.{once_taken}
use Rattle.service_check.proofs.service_numbers.operation_texts.Goals as goal

pub returns : goal.returns
returns c =
    c.in_ok-include_interfaces.ensures
    ∙ ap (λ texts. with_texts texts (texts_of (operations_among c.args.interfaces.now c.args.interfaces_named.now))) c.new-texts.ensures
    ∙ once_taken (operations_among c.args.interfaces.now c.args.interfaces_named.now)

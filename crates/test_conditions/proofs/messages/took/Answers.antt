use Rattle.std.proofs.Common.{ap, ◌∙◌}
use Rattle.std.specs.List.{list_any}
use Rattle.office_core.specs.Boxes.{takes}
use Rattle.office_plain.specs.View.{setting_of, entries_of}
use Rattle.test_conditions.proofs.Entered.{some_in}
use Rattle.test_conditions.proofs.messages.took.Goals as goal

pub returns : goal.returns
returns c =
    let o = c.args.office.now in
    let is_it = takes c.args.session c.args.message in
    c.took.ensures ∙ ap (list_any is_it) c.history.ensures ∙ some_in (setting_of o) (entries_of o) is_it

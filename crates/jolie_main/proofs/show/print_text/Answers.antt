-- What is printed of a text with definitions, and what is said of another.
use Rattle.std.proofs.Common.{◌∙◌}
use Rattle.jolie_main.proofs.CommandsDone.{printed, not_printed}
use Rattle.jolie_main.proofs.show.print_text.Goals as goal

pub returns-in-Refused-clause-shows : goal.returns-in-Refused-clause-shows
returns-in-Refused-clause-shows g c =
    not_printed c.args.text.now _ c.in-Refused.refusal c.refuse.result _ _ c.in_ok-file.ensures c.in-Refused.is c.refuse.ensures.status c.refuse.ensures.written

pub returns-clause-shows : goal.returns-clause-shows
returns-clause-shows g c =
    printed c.args.text.now _ _ _ c.tell.result.status _ _ c.in_ok-file.ensures c.in-File.is (c.as_bytes.ensures.value ∙ c.as_str.ensures ∙ c.in_ok-printed.ensures)
    c.tell.ensures.says

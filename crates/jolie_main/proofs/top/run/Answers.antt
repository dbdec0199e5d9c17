-- What was understood of the words is done.
use Rattle.std.proofs.Common.{◌∙◌}
use Rattle.jolie_main.proofs.CommandsDone.{few_lines, promised, helped, loads, mistaken}
use Rattle.jolie_main.proofs.top.run.Goals as goal

pub returns-in-Command-clause-promises : goal.returns-in-Command-clause-promises
returns-in-Command-clause-promises g c =
    promised _ _ _ c.in-Command.command (g.F.Files.held c.args.world.now.files) _ c.obey.result c.in_ok-command.ensures.understood
    c.in-Command.is c.obey.ensures.obeyed

pub load-requires : goal.load-requires
load-requires g c = record { few = few_lines _ _ c.in-Load.lines c.in_ok-command.ensures.understood c.in-Load.is }

pub returns-in-Load-clause-promises : goal.returns-in-Load-clause-promises
returns-in-Load-clause-promises g c =
    loads _ _ _ c.in-Load.lines (g.F.Files.held c.args.world.now.files) _ _ _ _ _ _ _ c.load.result c.in_ok-command.ensures.understood c.in-Load.is
    c.load.ensures

pub returns-in-Help-clause-promises : goal.returns-in-Help-clause-promises
returns-in-Help-clause-promises g c =
    helped _ _ _ _ c.as_bytes.result.now (g.F.Files.held c.args.world.now.files) c.tell.result _ _ _ _ _ _ _ c.in_ok-command.ensures.understood
    c.in-Help.is (c.as_bytes.ensures.value ∙ c.as_str.ensures) c.tell.ensures.says c.tell.ensures.empty

pub returns-in-UsageError-clause-promises : goal.returns-in-UsageError-clause-promises
returns-in-UsageError-clause-promises g c =
    mistaken _ _ _ _ c.as_bytes-in-UsageError.result.now (g.F.Files.held c.args.world.now.files) c.show_usage_error.result _ _ _ _ _ _ _
    c.in_ok-command.ensures.understood c.in-UsageError.is (c.as_bytes-in-UsageError.ensures.value ∙ c.as_str-in-UsageError.ensures)
    c.show_usage_error.ensures.status c.show_usage_error.ensures.written c.show_usage_error.ensures.empty

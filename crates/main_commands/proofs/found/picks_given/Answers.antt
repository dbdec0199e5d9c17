-- The picks of the list that was given, or none.
use Rattle.std.proofs.Common.{rules, Some, None, ap}
use Rattle.std.proofs.lemmas.Result.{IfOk-weaker}
use Rattle.main_commands.proofs.AmongMatches.{picks_found}
use Rattle.main_commands.proofs.found.picks_given.Goals as goal

pub returns-in-Some : goal.returns-in-Some
returns-in-Some c =
    IfOk-weaker c.picks_of.result _ _ (λ picks is. picks_found c.args.given.now (Some c.in-Some.list.now) picks (search rules) is) c.picks_of.ensures

pub returns-in-None : goal.returns-in-None
returns-in-None c = picks_found c.args.given.now None (Some c.new.result) (search rules) (ap Some c.new.ensures)

-- The number that was given, or the most.
use Rattle.std.proofs.Common.{rules, refl, Some, None}
use Rattle.main_commands.proofs.AmongMatches.{number_found}
use Rattle.main_commands.proofs.found.number_given.Goals as goal

pub returns-in-Some : goal.returns-in-Some
returns-in-Some c =
    number_found c.args.most c.args.given.now c.args.name.now (Some c.in-Some.text.now) c.number_of.result (search rules) c.number_of.ensures

pub returns-in-None : goal.returns-in-None
returns-in-None c = number_found c.args.most c.args.given.now c.args.name.now None c.args.most (search rules) refl

use Rattle.std.proofs.Common.{subst}
use Rattle.jolie_parse.specs.Classes.{spelled}
use Rattle.jolie_parse.specs.LeftOut.{IsBeginning}
use Rattle.explain_hints.proofs.short.is_shallow.Goals as goal

pub returns-in-MayGoOn : goal.returns-in-MayGoOn
returns-in-MayGoOn c = λ yes. (subst (λ b. IsBeginning 32 (spelled c.args.text.now c.args.tokens.now) b) c.in-MayGoOn.is c.in_ok-begin_file.ensures).1

pub returns-in-Stops : goal.returns-in-Stops
returns-in-Stops c = λ yes. (subst (λ b. IsBeginning 32 (spelled c.args.text.now c.args.tokens.now) b) c.in-Stops.is c.in_ok-begin_file.ensures).1

-- What is said of the few tokens, of the bytes.
use Rattle.std.proofs.Common.{subst}
use Rattle.jolie_parse.specs.Classes.{spelled}
use Rattle.jolie_parse.specs.LeftOut.{IsBeginning}
use Rattle.explain_hints.proofs.FewTokens.{goes_on, goes_not}
use Rattle.explain_hints.proofs.trial.begins.Goals as goal

pub returns-in-MayGoOn : goal.returns-in-MayGoOn
returns-in-MayGoOn c =
    goes_on c.args.bytes.now c.args.short.now c.requires
    (subst (λ b. IsBeginning 64 (spelled c.args.bytes.now c.args.short.now) b) c.in-MayGoOn.is c.in_ok-begin_file.ensures).0

pub returns-in-Stops : goal.returns-in-Stops
returns-in-Stops c =
    goes_not c.args.bytes.now c.args.short.now c.requires
    (subst (λ b. IsBeginning 64 (spelled c.args.bytes.now c.args.short.now) b) c.in-Stops.is c.in_ok-begin_file.ensures).0

pub returns-in-TooDeep : goal.returns-in-TooDeep
returns-in-TooDeep c =
    goes_not c.args.bytes.now c.args.short.now c.requires
    (subst (λ b. IsBeginning 64 (spelled c.args.bytes.now c.args.short.now) b) c.in-TooDeep.is c.in_ok-begin_file.ensures)

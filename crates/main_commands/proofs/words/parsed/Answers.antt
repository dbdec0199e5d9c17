-- The program that is parsed with is that of the definitions, in which no argument has a rule on another.
use Rattle.std.proofs.Common.{◌∙◌, ap, subst}
use Rattle.clap.specs.Words.{App, FailsBy, fault_of, is_simple_and_free}
use Rattle.main_commands.specs.Usage.{spelled}
use Rattle.main_commands.proofs.ProgramBuilt.{is_free}
use Rattle.main_commands.proofs.words.parsed.Goals as goal

pub returns-clause-kinds : goal.returns-clause-kinds
returns-clause-kinds c =
    subst (λ (app : App). FailsBy (fault_of app (spelled c.args.words.now)) c.try_get_matches_from.result) c.in_ok-program.ensures
    (c.try_get_matches_from.ensures.kinds (ap is_simple_and_free c.in_ok-program.ensures ∙ is_free))

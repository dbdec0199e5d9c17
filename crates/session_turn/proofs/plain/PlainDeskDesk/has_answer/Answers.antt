-- A look finds the outcome that would be taken.
use Rattle.behaviour_tree.specs.declared.words.Need.TheVariants as need
use Rattle.session_turn.proofs.Passing.{acts_in, meets_in, outcome_there}
use Rattle.session_turn.proofs.plain.PlainDeskDesk.has_answer.Goals as goal

pub has_answer-requires-clause-acts : goal.has_answer-requires-clause-acts
has_answer-requires-clause-acts c =
    acts_in c.args.session (need.Answer c.args.call) c.requires.pass c.requires.may

pub has_answer-requires-clause-wanted : goal.has_answer-requires-clause-wanted
has_answer-requires-clause-wanted c =
    meets_in c.args.session (need.Answer c.args.call) c.requires.pass c.requires.may

pub returns-clause-exact : goal.returns-clause-exact
returns-clause-exact c =
    outcome_there c.args.session c.args.call c.has_answer.result c.requires.pass
    (c.has_answer.ensures c.requires.pass.ready)

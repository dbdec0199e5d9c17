-- A request that a session took and did not answer is open, so that the office takes its answer.
use Rattle.std.proofs.Common.{Some, refl}
use Rattle.behaviour_tree.specs.declared.words.Need.TheVariants as need
use Rattle.office_core.specs.declared.history.Act.TheVariants as act
use Rattle.office_plain.specs.Entries.{entry}
use Rattle.office_plain.specs.View.{entries_of, past_in, setting_of}
use Rattle.session_turn.proofs.Opened.{is_open_still, took_still}
use Rattle.session_turn.proofs.Passing.{acts_in, called_ok, grew_err, meets_in, ready_ok}
use Rattle.session_turn.proofs.plain.PlainDeskDesk.reply.Goals as goal

pub reply-requires-clause-acts : goal.reply-requires-clause-acts
reply-requires-clause-acts c =
    acts_in c.args.session (need.Reply c.args.message c.args.outcome) c.requires.pass c.requires.may

pub reply-requires-clause-took : goal.reply-requires-clause-took
reply-requires-clause-took c =
    took_still (setting_of c.args.pass.now) (past_in c.args.pass.now) c.args.session c.args.message
    (meets_in c.args.session (need.Reply c.args.message c.args.outcome) c.requires.pass c.requires.may)

pub reply-requires-clause-open : goal.reply-requires-clause-open
reply-requires-clause-open c =
    is_open_still (setting_of c.args.pass.now) (entries_of c.args.pass.now) c.args.session c.args.message
    c.args.pass.now.legal c.requires.pass.running
    (meets_in c.args.session (need.Reply c.args.message c.args.outcome) c.requires.pass c.requires.may)

pub returns-clause-pass : goal.returns-clause-pass
returns-clause-pass c =
    ready_ok _ c.reply.result (λ _. Some (entry c.args.session (act.Reply c.args.message c.args.outcome))) (λ _. refl)
    c.requires.pass c.reply.ensures.added c.reply.ensures.ready

pub returns-clause-replied : goal.returns-clause-replied
returns-clause-replied c =
    called_ok c.args.session _ c.reply.result (λ _. act.Reply c.args.message c.args.outcome) c.requires.pass
    c.reply.ensures.added

pub returns-clause-err : goal.returns-clause-err
returns-clause-err c = grew_err _ c.args.session _ _ c.reply.result c.reply.ensures.unchanged

-- A send is a call, placed where the office says.
use Rattle.std.proofs.Common.{refl}
use Rattle.behaviour_tree.specs.declared.words.Need.TheVariants as need
use Rattle.office_core.specs.declared.history.Act.{Act}
use Rattle.office_core.specs.declared.history.Act.TheVariants as act
use Rattle.office_core.specs.declared.history.Placed.{Placed}
use Rattle.office_core.specs.declared.history.Placed.TheVariants as at
use Rattle.office_core.specs.Accepted.{handed_in}
use Rattle.office_core.specs.Calls.{next_call}
use Rattle.office_core.specs.Legal.{placed}
use Rattle.office_plain.specs.Entries.{replied_entry}
use Rattle.office_plain.proofs.Lists.{eq_true}
use Rattle.office_plain.specs.View.{past_in, setting_of}
use Rattle.session_turn.proofs.Passing.{acts_in, grew_err, meets_in, ready_ok, sent_ok}
use Rattle.session_turn.proofs.plain.PlainDeskDesk.send.Goals as goal

pub send-requires-clause-acts : goal.send-requires-clause-acts
send-requires-clause-acts c =
    acts_in c.args.session (need.Send c.args.call c.args.port c.args.op c.args.value c.args.wants)
    c.requires.pass c.requires.may

pub send-requires-clause-next : goal.send-requires-clause-next
send-requires-clause-next c =
    eq_true c.args.call (next_call (past_in c.args.pass.now) c.args.session)
    (meets_in c.args.session (need.Send c.args.call c.args.port c.args.op c.args.value c.args.wants)
    c.requires.pass c.requires.may)

pub returns-clause-pass : goal.returns-clause-pass
returns-clause-pass c =
    ready_ok _ c.send.result
    (λ _. replied_entry (setting_of c.args.pass.now) (past_in c.args.pass.now) c.args.session
    (act.Send c.args.call c.args.port c.args.op c.args.value c.args.wants at.Out))
    (λ _. refl) c.requires.pass c.send.ensures.added c.send.ensures.ready

pub returns-clause-sent : goal.returns-clause-sent
returns-clause-sent c =
    let sent : Placed → Act = act.Send c.args.call c.args.port c.args.op c.args.value c.args.wants in
    let to : Placed
    = placed (setting_of c.args.pass.now) (past_in c.args.pass.now)
    (handed_in (setting_of c.args.pass.now) (past_in c.args.pass.now) c.args.session (sent at.Out)) in
    sent_ok c.args.session _ c.send.result sent to c.requires.pass c.send.ensures.added

pub returns-clause-err : goal.returns-clause-err
returns-clause-err c = grew_err _ c.args.session _ _ c.send.result c.send.ensures.unchanged

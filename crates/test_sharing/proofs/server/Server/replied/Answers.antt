use Rattle.behaviour_tree.specs.declared.words.Need.TheVariants as need
use Rattle.behaviour_tree.specs.declared.words.Outcome.TheVariants as ended
use Rattle.office_sharing.specs.Named.{parts_by}
use Rattle.test_sharing.proofs.Serving.{answered_serves, saw_serves}
use Rattle.test_sharing.proofs.server.Server.replied.Goals as goal

pub reply-requires-clause-calls : goal.reply-requires-clause-calls
reply-requires-clause-calls g c = c.args.self.now.serves.calls

pub reply-requires-clause-acts : goal.reply-requires-clause-acts
reply-requires-clause-acts g c =
    c.what_a_session_may_ask_stays.ensures.acts (parts_by g.N.Naming.program) c.args.self.now.pass
    (need.Reply c.args.message (ended.Value c.void.result)) (c.requires.may (ended.Value c.void.result))

pub reply-requires-clause-took : goal.reply-requires-clause-took
reply-requires-clause-took g c =
    c.what_a_session_may_ask_stays.ensures.took (parts_by g.N.Naming.program) c.args.self.now.pass c.args.message
    (ended.Value c.void.result) (c.requires.may (ended.Value c.void.result))

pub reply-requires-clause-open : goal.reply-requires-clause-open
reply-requires-clause-open g c =
    c.what_a_session_may_ask_stays.ensures.open (parts_by g.N.Naming.program) c.args.self.now.pass c.args.message
    (ended.Value c.void.result) (c.requires.may (ended.Value c.void.result))

pub invariant_of-self : goal.invariant_of-self
invariant_of-self g c = record {
  serves = saw_serves c.args.self.now.pass c.reply.new.pass c.args.self.now.serves c.in_err-reply.ensures.err;
  answers = c.args.self.now.answers;
}

pub invariant_of-self-2 : goal.invariant_of-self-2
invariant_of-self-2 g c = record {
  serves = answered_serves c.args.self.now.pass c.reply.new.pass c.args.self.now.serves c.args.message c.args.next _
      c.requires.above c.requires.next c.in_ok-reply.ensures.told;
  answers = c.args.self.now.answers;
}

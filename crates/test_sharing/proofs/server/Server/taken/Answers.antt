use Rattle.std.proofs.Common.{[], ◌∷◌}
use Rattle.behaviour_tree.specs.declared.words.Need.TheVariants as need
use Rattle.office_sharing.specs.Named.{parts_by}
use Rattle.test_sharing.proofs.Serving.{may_take, take_may, take_serves}
use Rattle.test_sharing.proofs.server.Server.taken.Goals as goal

pub take-requires-clause-calls : goal.take-requires-clause-calls
take-requires-clause-calls g c = c.args.self.now.serves.calls

pub take-requires-clause-acts : goal.take-requires-clause-acts
take-requires-clause-acts g c =
    c.what_a_session_may_ask_stays.ensures.acts (parts_by g.N.Naming.program) c.args.self.now.pass (need.Take (0 ∷ []))
    (may_take c.args.self.now.pass c.args.self.now.serves (0 ∷ []))

pub invariant_of-self : goal.invariant_of-self
invariant_of-self g c = record {
  serves = take_serves (parts_by g.N.Naming.program) c.take.new.pass c.args.self.now.serves (0 ∷ []) c.take.result
      c.take.ensures.told c.take.ensures.err;
  answers = c.args.self.now.answers;
}

pub returns-clause-may : goal.returns-clause-may
returns-clause-may g c =
    take_may (parts_by g.N.Naming.program) c.take.new.pass c.args.self.now.serves (0 ∷ []) c.take.result
    c.take.ensures.told

use Rattle.std.proofs.Common.{rules}
use Rattle.office_sharing.specs.Named.{parts_by}
use Rattle.test_sharing.proofs.Acting.{acts_still}
use Rattle.test_sharing.proofs.caller.Caller.take.Goals as goal

pub take-requires-clause-acts : goal.take-requires-clause-acts
take-requires-clause-acts g c =
    acts_still (parts_by g.N.Naming.program) c.args.self.now.pass c.args.self.now.calls
    (search (rules, c.if-not-self.false, c.args.self.now.adopts))

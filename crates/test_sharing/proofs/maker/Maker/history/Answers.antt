use Rattle.std.proofs.Common.{arith}
use Rattle.test_sharing.proofs.Making.{has_all}
use Rattle.test_sharing.proofs.maker.Maker.history.Goals as goal

pub into_office-requires : goal.into_office-requires
into_office-requires g c =
    has_all c.args.self.given c.args.self.joined c.args.self.pass c.args.self.makes
    (omega (arith, c.if-joined-given.false))

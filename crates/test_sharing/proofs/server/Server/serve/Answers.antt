-- A message that was taken and is of the next ones may be answered.
use Rattle.std.proofs.Common.{◌≡◌, true, sym, subst}
use Rattle.std.specs.Prelude.{IfSome}
use Rattle.office_core.specs.Limits.{run_of}
use Rattle.office_sharing.specs.Named.{parts_by}
use Rattle.session_turn.specs.Asking.{has_response}
use Rattle.test_sharing.specs.Servers.{MayAnswer}
use Rattle.test_sharing.proofs.server.Server.serve.Goals as goal

pub replied-requires-clause-may : goal.replied-requires-clause-may
replied-requires-clause-may g c o =
    let may : MayAnswer (parts_by g.N.Naming.program) c.taken.new.self.service c.taken.new.self.next c.taken.new.self.pass
    c.in-Some.mail
    = subst
    (λ x. IfSome x
    (MayAnswer (parts_by g.N.Naming.program) c.taken.new.self.service c.taken.new.self.next c.taken.new.self.pass))
    c.in-Some.is c.in_ok-mail.ensures.may in
    may c.if-mail-self.false
    (subst (λ op. has_response (run_of (parts_by g.N.Naming.program)) c.taken.new.self.service op ≡ true)
    (sym c.if-mail-ne-FIRST.false) c.taken.new.self.answers) o

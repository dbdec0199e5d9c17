use Rattle.std.proofs.Common.{sym, subst}
use Rattle.std.specs.Prelude.{IfNone, IfSome}
use Rattle.http_port.specs.Connections.{Reading}
use Rattle.http_port.specs.Walks.{LeadsOn}
use Rattle.http_port.proofs.HasReading.{reads_here, leads_on}
use Rattle.http_port.proofs.laws.request_in_front.Goals as goal

pub returns-clause-none : goal.returns-clause-none
returns-clause-none c =
    subst (λ o. IfNone o ∥ Reading c.args.bytes.now ∥₁) (sym c.length_of_open.ensures) (reads_here c.args.bytes.now c.judge-verdict.result c.judge-verdict.ensures.verdict)

pub returns-clause-some : goal.returns-clause-some
returns-clause-some c =
    subst (λ o. IfSome o (LeadsOn c.args.bytes.now)) (sym c.length_of_open.ensures) (leads_on c.args.bytes.now c.judge-verdict.result c.judge-verdict.ensures.verdict)

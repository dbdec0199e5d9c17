use Rattle.std.proofs.Common.{arith}
use Rattle.office_turn.proofs.Allowed.{committed_none, has_call, has_none}
use Rattle.office_turn.proofs.office.SharedOffice.commit_new.Goals as goal

pub commit-requires-clause-call : goal.commit-requires-clause-call
commit-requires-clause-call g c =
    has_call c.args.seat.now.me c.requires.made c.args.before c.requires.before
    (omega (arith, c.if-count-before.false, c.requires.count))

pub returns-then-count-before-clause-committed : goal.returns-then-count-before-clause-committed
returns-then-count-before-clause-committed g c =
    committed_none c.args.seat.now.me
    (has_none c.args.seat.now.me c.requires.made c.args.before c.requires.before
    (omega (arith, c.if-count-before.true, c.requires.count)))

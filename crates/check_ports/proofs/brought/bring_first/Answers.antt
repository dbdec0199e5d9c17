use Rattle.std.proofs.Common.{append-nil, sym}
use Rattle.check_ports.proofs.BroughtIn.{first_of_groups}
use Rattle.check_ports.proofs.brought.bring_first.Goals as goal

pub returns-in_default : goal.returns-in_default
returns-in_default c =
    rw (first_of_groups c.args.at c.args.groups.now, ← c.first_operation.ensures, c.in_default.is) (sym (append-nil c.args.mentions.now.items))

use Rattle.std.proofs.Common.{map, ap, ◌∙◌}
use Rattle.behaviour_tree.specs.View.{handler_view}
use Rattle.handler_table.specs.Entries.{entries_of}
use Rattle.handler_table.specs.View.{table_view}
use Rattle.handler_table.proofs.Takes.{installed}
use Rattle.handler_table.proofs.table.Table.install.Goals as goal

pub returns-clause-installed : goal.returns-clause-installed
returns-clause-installed c =
    c.put_all.ensures
    ∙ installed c.args.scope (table_view c.args.self.now) c.args.handlers.now (map handler_view c.in_ok-taken.taken.items) _ _ c.in_ok-taken.ensures
    (ap entries_of c.reserve.ensures.same) (ap entries_of c.reserve-2.ensures.same)

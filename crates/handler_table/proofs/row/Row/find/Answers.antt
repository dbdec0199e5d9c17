use Rattle.handler_table.proofs.row.Row.find.Goals as goal
use Rattle.handler_table.proofs.Places.{entry_found}

pub returns-in-Ok : goal.returns-in-Ok
returns-in-Ok c =
    entry_found c.args.number c.in-Ok.place c.args.self.now.list.items c.index.result.now c.args.self.now.rising c.in-Ok.ensures.place c.index.ensures

use Rattle.std.proofs.Common.{◌^◌, ◌-◌}
use Rattle.correlation.proofs.Mirrored.{bounded, found_in_sessions}
use Rattle.correlation.proofs.rows.Rows.find.Goals as goal

pub returns-clause-session : goal.returns-clause-session
returns-clause-session g c =
    let self = c.args.self.now in
    found_in_sessions self.index.sets.items self.sessions.items c.args.set c.args.sought.now.values c.find.result self.mirrors c.find.ensures.session

pub returns-clause-cost : goal.returns-clause-cost
returns-clause-cost g c =
    let self = c.args.self.now in
    bounded self.index.sets.items self.sessions.items c.args.set (2 ^ (c.find.new.sought.steps - c.args.sought.now.steps)) self.mirrors c.find.ensures.cost

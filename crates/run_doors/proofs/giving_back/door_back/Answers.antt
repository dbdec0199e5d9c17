-- A door that came back, by what it told.
use Rattle.run_doors.proofs.Telling.{one_door}
use Rattle.run_doors.proofs.giving_back.door_back.Goals as goal

pub returns-clause-doors : goal.returns-clause-doors
returns-clause-doors g c =
    let back = c.door_back.ensures in
    one_door (g.D.D.Door.told c.into_door.result) c.args.port.door
    (g.D.Doors.told c.args.doors.now)
    (g.D.Doors.told c.door_back.new.self)
    c.into_door.ensures
    back.tally back.returned back.listed back.tries back.raised back.unfailed

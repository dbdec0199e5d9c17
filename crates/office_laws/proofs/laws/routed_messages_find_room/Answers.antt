use Rattle.office_plain.proofs.Born.{finds_room}
use Rattle.office_laws.proofs.laws.routed_messages_find_room.Goals as goal

pub returns : goal.returns
returns c = record { room = finds_room }

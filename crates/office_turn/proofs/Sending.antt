-- A pass may go to another thread, and threads may share the office.
use denote.RattleType.{RattleType}
use denote.Param.Send.{IsSend, IsSync, sendable}
use Rattle.std.proofs.Crossing.{crosses}
use Rattle.atomic_table.proofs.owned.Table.TheSendSync as table
use Rattle.atomic_table.proofs.shared.Seat.TheSendSync as seat
use Rattle.office_sharing.specs.declared.naming.Naming.{Ghosts}
use Rattle.office_sharing.proofs.Sending.{office_send}
use Rattle.office_turn.specs.contracts.pass.Pass as pass
use Rattle.office_turn.specs.contracts.office.SharedOffice as office

pub pass_send : (N : RattleType) (g : Ghosts N.Denot) → IsSend (pass.the_row N g)
pass_send N g = search (sendable, seat.the_send, office_send) depth 20 fits 20000

pub office_sync : (N : RattleType) (g : Ghosts N.Denot) → IsSync (office.the_row N g)
office_sync N g = search (sendable, crosses, table.the_field_sync, office_send) depth 20 fits 20000

pub office_field_sync : (N : RattleType) (g : Ghosts N.Denot) → IsSync (office.the_field N g).row
office_field_sync N g = search (sendable, crosses, table.the_field_sync, office_send) depth 20 fits 20000

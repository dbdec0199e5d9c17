use Rattle.std.proofs.Common.{sym, ◌∙◌, arith}
use Rattle.office_sharing.proofs.Dealing.{copies}
use Rattle.office_turn.proofs.office.SharedOffice.split.Goals as goal

pub split_seat-seat-requires : goal.split_seat-seat-requires
split_seat-seat-requires g c = (
  c.pass.invariant.0 ∙ sym c.args.self.now.table_is,
  omega (arith, c.args.self.now.words),
  copies _ c.pass.inside.seat.id c.pass.inside.seat.me.0,
)

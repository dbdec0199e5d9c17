use Rattle.std.proofs.Common.{sym, subst, ◌≡◌, ◌∙◌, arith}
use Rattle.office_sharing.specs.declared.view.View.{View}
use Rattle.office_sharing.proofs.Dealing.{makes}
use Rattle.office_turn.proofs.office.SharedOffice.make.Goals as goal

pub split_seat-seat-requires : goal.split_seat-seat-requires
split_seat-seat-requires g c = (
  c.maker.invariant.0 ∙ sym c.args.self.now.table_is,
  omega (arith, c.args.self.now.words),
  makes _ c.maker.inside.seat.id c.maker.inside.seat.me.0 (rw c.maker.view_is c.requires.makes),
)

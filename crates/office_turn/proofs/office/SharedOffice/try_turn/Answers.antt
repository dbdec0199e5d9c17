use Rattle.std.proofs.Common.{ap, sym, ◌∙◌, arith}
use Rattle.office_turn.proofs.Allowed.{take_allowed}
use Rattle.office_sharing.specs.Named.{parts_by}
use Rattle.office_turn.proofs.office.SharedOffice.try_turn.Goals as goal

pub compare_exchange-requires : goal.compare_exchange-requires
compare_exchange-requires g c = (
  c.requires.table ∙ sym c.args.self.now.table_is,
  omega (arith, c.args.self.now.words),
  take_allowed _ (parts_by g.N.Naming.program) (ap parts_by c.args.self.now.program_is) _ c.args.seat.now.id
      c.args.self.now.slots c.args.seat.now.me
      c.requires.idle c.requires.calls,
)

use Rattle.std.proofs.Common.{ap, sym, ◌∙◌, arith}
use Rattle.office_turn.proofs.Allowed.{commit_allowed}
use Rattle.office_sharing.specs.Named.{parts_by}
use Rattle.office_turn.proofs.office.SharedOffice.commit.Goals as goal

pub fetch_add-requires : goal.fetch_add-requires
fetch_add-requires g c = (
  c.requires.table ∙ sym c.args.self.now.table_is,
  omega (arith, c.args.self.now.words),
  commit_allowed _ (parts_by g.N.Naming.program) (ap parts_by c.args.self.now.program_is) _ c.args.seat.now.id
      c.args.self.now.slots c.args.seat.now.me
      c.requires.turn c.requires.call,
)

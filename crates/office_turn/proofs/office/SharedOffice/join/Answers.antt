use Rattle.std.proofs.Common.{ap, sym, ◌∙◌, ◌≡◌, arith}
use Rattle.atomic_table.specs.Table.{Me}
use Rattle.office_plain.specs.declared.office.Office.{Office}
use Rattle.office_sharing.specs.declared.view.View.{View}
use Rattle.office_sharing.proofs.Joining.{joins}
use Rattle.office_turn.proofs.Joined.{took_in}
use Rattle.office_turn.proofs.Allowed.{look_allowed}
use Rattle.office_sharing.specs.Named.{parts_by}
use Rattle.office_turn.proofs.office.SharedOffice.join.Goals as goal

pub join_seat-requires : goal.join_seat-requires
join_seat-requires g c = (
  c.pass.invariant.0 ∙ sym c.args.self.now.table_is,
  c.other.invariant.0 ∙ sym c.args.self.now.table_is,
  c.other.invariant.1,
  omega (arith, c.args.self.now.words),
  joins _ c.pass.inside.seat.id c.other.inside.seat.id c.pass.inside.seat.me.0 c.other.inside.seat.me.0
      c.pass.invariant.2 c.other.invariant.2,
)

pub load-pass-inside-requires : goal.load-pass-inside-requires
load-pass-inside-requires g c = (
  c.join_seat.ensures.0 ∙ c.pass.invariant.0 ∙ sym c.args.self.now.table_is,
  omega (arith, c.args.self.now.words),
  look_allowed _ (parts_by g.N.Naming.program) (ap parts_by c.args.self.now.program_is) _ c.join_seat.new.seat.id
      c.args.self.now.slots
      c.join_seat.new.seat.me
      (ap (λ (m : Me Office View). m.1) c.join_seat.ensures.2 ∙ c.pass.invariant.1)
      (ap (λ (m : Me Office View). m.0.turn) c.join_seat.ensures.2 ∙ c.pass.invariant.2),
)

pub returns : goal.returns
returns g c =
    took_in c.pass.inside.seat.me.0 c.other.inside.seat.me.0 c.join_seat.new.seat.me.0
    c.load-pass-inside.new.seat.me.0 c.load-pass-inside.result
    (ap (λ (m : Me Office View). m.0) c.join_seat.ensures.2) c.pass.view_is c.other.view_is c.load-pass-inside.ensures.2.0

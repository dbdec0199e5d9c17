use Rattle.std.proofs.Common.{ap, sym, subst, ◌≡◌, ◌∙◌, arith}
use Rattle.behaviour_tree.specs.Data.{ProgramParts}
use Rattle.office_plain.specs.View.{entries_of}
use Rattle.office_sharing.specs.declared.view.View.{View}
use Rattle.office_sharing.specs.Plays.{Ended, HasAll}
use Rattle.office_sharing.proofs.Ending.{ends}
use Rattle.office_sharing.specs.Named.{parts_by}
use Rattle.office_turn.proofs.office.SharedOffice.into_office.Goals as goal

pub returns-clause-program : goal.returns-clause-program
returns-clause-program g c =
    (ends _ c.pass.inside.seat.id c.pass.inside.seat.me.0 _ _ c.take-office.result
    (subst HasAll (sym c.pass.view_is) c.requires) c.pass.invariant.2 c.close_with-closed.ensures.values.2
    c.take-office.ensures.value).0 ∙ ap parts_by c.args.self.program_is

pub returns-clause-history : goal.returns-clause-history
returns-clause-history g c =
    subst (λ (x : ProgramParts × View). Ended x.0 x.1 (entries_of c.take-office.result))
    (λ i. (ap parts_by c.args.self.program_is i, c.pass.view_is i))
    (ends _ c.pass.inside.seat.id c.pass.inside.seat.me.0 _ _ c.take-office.result
    (subst HasAll (sym c.pass.view_is) c.requires) c.pass.invariant.2 c.close_with-closed.ensures.values.2
    c.take-office.ensures.value).1

use Rattle.std.proofs.Common.{ap, sym, subst, ◌∙◌, ◌≡◌, length, [], true}
use Rattle.atomic_table.specs.Table.{Me}
use Rattle.office_plain.specs.declared.office.Office.{Office}
use Rattle.office_sharing.specs.declared.view.View.{View}
use Rattle.office_sharing.specs.Named.{parts_by}
use Rattle.office_sharing.specs.Plays.{in_hand}
use Rattle.office_sharing.specs.Views.{off_turn}
use Rattle.office_turn.specs.Hands.{HasMade, settled}
use Rattle.office_turn.proofs.Allowed.{committed_hand}
use Rattle.office_turn.proofs.Hands.{as_office}
use Rattle.office_turn.proofs.office.SharedOffice.finish.Goals as goal

pub count_in_hand-count-requires-clause-hand : goal.count_in_hand-count-requires-clause-hand
count_in_hand-count-requires-clause-hand g c = as_office c.args.seat.now.me c.requires.made.hand

pub commit_new-requires-clause-turn : goal.commit_new-requires-clause-turn
commit_new-requires-clause-turn g c =
    ap (λ (m : Me Office View). m.0.turn) c.count_in_hand-count.ensures.same ∙ c.requires.turn

pub commit_new-requires-clause-made : goal.commit_new-requires-clause-made
commit_new-requires-clause-made g c =
    subst (HasMade (parts_by g.N.Naming.program)) (sym c.count_in_hand-count.ensures.same) c.requires.made

pub commit_new-requires-clause-before : goal.commit_new-requires-clause-before
commit_new-requires-clause-before g c =
    c.requires.before ∙ ap (λ (m : Me Office View). length m.0.seen) (sym c.count_in_hand-count.ensures.same)

pub commit_new-requires-clause-count : goal.commit_new-requires-clause-count
commit_new-requires-clause-count g c =
    c.count_in_hand-count.ensures.count
    ∙ ap (λ (m : Me Office View). length (in_hand m.1)) (sym c.count_in_hand-count.ensures.same)

pub give_back-requires-clause-turn : goal.give_back-requires-clause-turn
give_back-requires-clause-turn g c =
    ap (λ (m : Me Office View). m.0.turn) c.commit_new.ensures.committed
    ∙ (ap (λ (m : Me Office View). m.0.turn) c.count_in_hand-count.ensures.same ∙ c.requires.turn)

pub give_back-requires-clause-hand : goal.give_back-requires-clause-hand
give_back-requires-clause-hand g c =
    committed_hand c.count_in_hand-count.new.seat.me c.commit_new.new.seat.me
    (subst (HasMade (parts_by g.N.Naming.program)) (sym c.count_in_hand-count.ensures.same) c.requires.made)
    c.commit_new.ensures.committed

pub returns-clause-settled : goal.returns-clause-settled
returns-clause-settled g c =
    c.give_back.ensures.gave
    ∙ (ap (λ (m : Me Office View). (off_turn m.0, [])) c.commit_new.ensures.committed
    ∙ ap (λ (m : Me Office View). (settled m.0 (in_hand m.1), [])) c.count_in_hand-count.ensures.same)

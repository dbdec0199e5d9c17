use Rattle.std.proofs.Common.{sym, ap, length, ◌∙◌, ◌≡◌, ℕ, List}
use Rattle.office_plain.specs.declared.office.Office.{Office}
use Rattle.office_sharing.specs.Plays.{in_hand}
use Rattle.office_turn.proofs.Hands.{as_lent, lent_hand}
use Rattle.office_turn.proofs.office.SharedOffice.count_in_hand.Goals as goal

pub slot_mut-office-requires : goal.slot_mut-office-requires
slot_mut-office-requires g c =
    (c.requires.table ∙ sym c.args.self.now.table_is, lent_hand c.args.seat.now.me c.requires.hand)

pub returns-clause-same : goal.returns-clause-same
returns-clause-same g c = as_lent c.args.seat.now.me c.slot_mut-office.result.now c.slot_mut-office.ensures.value

pub returns-clause-count : goal.returns-clause-count
returns-clause-count g c =
    c.len.ensures
    ∙ (c.history.result.now.entries.ok.0
    ∙ (ap length c.history.ensures
    ∙ sym (ap (λ (l : List (ℕ × Office)). length (in_hand l)) c.slot_mut-office.ensures.value)))

use Rattle.std.proofs.Common.{ap, sym, subst, ◌∙◌}
use Rattle.office_core.specs.Past.{some_entry, closes}
use Rattle.office_core.specs.Accepted.{past_of}
use Rattle.office_core.specs.Legal.{IsLegal}
use Rattle.office_plain.specs.Places.{places_kept}
use Rattle.office_plain.specs.Ties.{Ties}
use Rattle.office_plain.specs.View.{setting_of}
use Rattle.office_plain.proofs.office.Office.begin.Goals as goal

pub invariant_of-self-2 : goal.invariant_of-self-2
invariant_of-self-2 c =
    let old = c.args.self.now in
    let w = setting_of old in
    let same = sym c.reserve.ensures.entries in
    record {
      legal = subst (IsLegal w) same old.legal;
      places = c.reserve.ensures.kept ∙ old.places ∙ ap (λ es. places_kept (past_of w es)) same;
      closing = old.closing ∙ ap (λ es. some_entry (past_of w es) closes) same;
      tied = λ h. subst (λ es. Ties w (past_of w es) old.kept) same (old.tied h);
    }

use Rattle.std.proofs.Common.{ap, sym, subst, ◌∙◌}
use Rattle.office_core.specs.Past.{some_entry, closes}
use Rattle.office_core.specs.Accepted.{past_of}
use Rattle.office_core.specs.Legal.{IsLegal}
use Rattle.office_plain.specs.Places.{places_kept}
use Rattle.office_plain.specs.Ties.{Ties}
use Rattle.office_plain.specs.Facts.{setting_by}
use Rattle.office_plain.proofs.office.Office.new.Goals as goal

pub invariant_of-result : goal.invariant_of-result
invariant_of-result c =
    let w = setting_by c.args.program in
    let none = sym c.in_ok-log.ensures.entries in
    record {
      legal = subst (IsLegal w) none tt;
      places = c.in_ok-log.ensures.kept ∙ ap (λ es. places_kept (past_of w es)) none;
      closing = ap (λ es. some_entry (past_of w es) closes) none;
      tied = λ h. subst (λ es. Ties w (past_of w es) c.in_ok-kept.kept) none c.in_ok-kept.ensures;
    }

use Rattle.std.proofs.Common.{◌≡◌, ◌+◌, drop}
use Rattle.std.specs.List.{filter_map}
use Rattle.behaviour_tree.specs.PartsView.{parts_of}
use Rattle.office_core.specs.Keys.{first, sets_of}
use Rattle.office_core.specs.Route.{named_in, named_session}
use Rattle.office_plain.specs.SetNumbers.{sets_before}
use Rattle.office_plain.specs.Views.{asked_view}
use Rattle.office_plain.specs.View.{setting_of, past_in}
use Rattle.office_plain.proofs.office.Office.named_session.Given as goal

abbrev pub invariant-loop-set : goal.invariant-loop-set
invariant-loop-set l = record {
  number : l.number ≡ sets_before (parts_of l.self.program) l.asked.number + l.set-index;
  named : named_session (setting_of l.self) (past_in l.self) (asked_view l.asked)
      ≡ first (filter_map (named_in (setting_of l.self) (past_in l.self) (asked_view l.asked)) (drop l.set-index (sets_of (asked_view l.asked).service)));
}

use Rattle.std.proofs.Common.{sym, ◌∙◌}
use Rattle.office_core.specs.declared.history.Act.TheVariants as act
use Rattle.office_plain.specs.Entries.{entry}
use Rattle.office_plain.specs.Logs as logs
use Rattle.office_plain.proofs.Grows.{legal_after, ties_after}
use Rattle.office_plain.specs.View.{setting_of, entries_of, past_in}
use Rattle.office_plain.proofs.Closing.{legal_close, places_after_close, closed_now, ties_close}
use Rattle.office_plain.proofs.office.Office.close.Goals as goal

pub invariant_of-self : goal.invariant_of-self
invariant_of-self c =
    let old = c.args.self.now in
    let w = setting_of old in
    let es = entries_of old in
    let new = logs.entries_of c.put_kept.new.self in
    let actor = c.args.actor in
    let unclosed = sym old.closing ∙ c.if-self.false in
    let added = c.put_kept.ensures.entries in
    record {
      legal = legal_after w es new (entry actor act.Close) added old.legal (legal_close w (past_in old) actor c.requires unclosed);
      places = places_after_close w es new actor c.put_kept.new.self.kept added unclosed (c.put_kept.ensures.kept ∙ old.places);
      closing = closed_now w es new actor added;
      tied = λ h. ties_after w es new (entry actor act.Close) old.kept added (ties_close w (past_in old) actor old.kept (old.tied h));
    }

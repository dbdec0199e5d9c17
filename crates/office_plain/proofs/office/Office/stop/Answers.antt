use Rattle.std.proofs.Common.{ap, refl, ◌∙◌, length}
use Rattle.jolie_trees.specs.Limits.{in_u32}
use Rattle.office_core.specs.declared.history.Act.TheVariants as act
use Rattle.office_plain.specs.Entries.{entry}
use Rattle.office_plain.specs.Logs as logs
use Rattle.office_plain.proofs.Grows.{legal_after, ties_after, closing_after}
use Rattle.office_plain.specs.View.{setting_of, entries_of, past_in}
use Rattle.office_plain.proofs.Stopping.{legal_stop, works_unstopped, places_after_stop, small, ties_stop}
use Rattle.office_plain.proofs.office.Office.stop.Goals as goal

pub invariant_of-self : goal.invariant_of-self
invariant_of-self c =
    let old = c.args.self.now in
    let w = setting_of old in
    let es = entries_of old in
    let new = logs.entries_of c.put_kept.new.self in
    let actor = c.args.actor in
    let added = c.put_kept.ensures.entries in
    record {
      legal = legal_after w es new (entry actor act.Stop) added old.legal (legal_stop w (past_in old) actor c.requires);
      places = places_after_stop w es new actor c.put_kept.new.self.kept added c.requires (c.put_kept.ensures.kept ∙ old.places);
      closing = old.closing ∙ closing_after w es new (entry actor act.Stop) added refl;
      tied = λ h.
          let t = old.tied h in
          let count = c.in_u32.ensures ∙ ap in_u32 (c.len.ensures ∙ ap length t.messages) ∙ small (length (past_in old).messages) t.few in
          ties_after w es new (entry actor act.Stop) (record old.kept { book = c.answer_below.new.book }) added
          (ties_stop w (past_in old) actor c.in_u32.result old.kept c.answer_below.new.book (works_unstopped (past_in old) actor c.requires) count t
          c.answer_below.ensures.origins c.answer_below.ensures.standings);
    }

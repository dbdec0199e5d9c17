-- What the type of an office keeps, once its history has an entry more; and an office once there is room for one.
use Rattle.std.proofs.Common.{◌≡◌, Bool, false, [], ◌∷◌, ◌++◌, ap, ◌∙◌, None}
use Rattle.behaviour_tree.specs.declared.program.Program.{Program}
use Rattle.office_core.specs.declared.history.Entry.{Entry}
use Rattle.office_core.specs.Limits.{Setting, run_of}
use Rattle.office_core.specs.Past.{Past, some_entry, closes, stops}
use Rattle.office_core.specs.Accepted.{then_one, past_of}
use Rattle.office_core.specs.Legal.{IsLegalEntry}
use Rattle.office_plain.specs.declared.kept.Kept.{Kept}
use Rattle.office_plain.specs.declared.log.Log.{Log}
use Rattle.office_plain.specs.Logs as logs
use Rattle.office_plain.specs.Places.{places_kept}
use Rattle.office_plain.specs.Ties.{Ties}
use Rattle.office_plain.proofs.Grows.{legal_after, ties_after, closing_after, places_after}
use Rattle.office_plain.specs.declared.office.Office.{Office}
use Rattle.office_plain.specs.Facts.{setting_by, past_by, KeepsLegal}
use Rattle.office_plain.specs.View.{setting_of, past_in, entries_of, Adds}

-- what the type of an office keeps
pub record Whole (program : Program) (log : Log) (kept : Kept) (closed : Bool) : Type 0 where
  pub legal : KeepsLegal program log
  pub places : log.kept ≡ places_kept (past_by program log)
  pub closing : closed ≡ some_entry (past_by program log) closes
  pub tied : Ties (setting_by program) (past_by program log) kept

-- once a legal entry is added that neither closes nor stops, and what is kept is tied to it
pub whole_after : (o : Office) (log : Log) (e : Entry) (k : Kept)
    → logs.entries_of log ≡ entries_of o ++ e ∷ [] → log.kept ≡ o.log.kept → closes e ≡ false → stops e ≡ false
    → IsLegalEntry (setting_of o) (past_in o) e → Ties (setting_of o) (then_one (setting_of o) (past_in o) e) k
    → Whole o.program log k o.closed
whole_after o log e k added kept unclosed unstopped legal tied =
    let w : Setting = setting_of o in
    record {
      legal = legal_after w (entries_of o) (logs.entries_of log) e added o.legal legal;
      places = kept ∙ o.places ∙ places_after w (entries_of o) (logs.entries_of log) e added unclosed unstopped;
      closing = o.closing ∙ closing_after w (entries_of o) (logs.entries_of log) e added unclosed;
      tied = ties_after w (entries_of o) (logs.entries_of log) e k added tied;
    }

-- an office to which nothing was added works by the same
pub setting_same : (old new : Office) → Adds None old new → setting_of new ≡ setting_of old
setting_same old new a = ap run_of a.program

-- what happened in it is what happened before
pub past_same : (old new : Office) → Adds None old new → past_in new ≡ past_in old
past_same old new a = λ i. past_of (setting_same old new a i) (a.entries i)

-- what holds of the one holds of the other
pub still : (P : Setting → Past → Type 0) (old new : Office) → Adds None old new → P (setting_of old) (past_in old) → P (setting_of new) (past_in new)
still P old new a h = coe 1 0 (i. P (setting_same old new a i) (past_same old new a i)) h

pub before : (P : Setting → Past → Type 0) (old new : Office) → Adds None old new → P (setting_of new) (past_in new) → P (setting_of old) (past_in old)
before P old new a h = coe 0 1 (i. P (setting_same old new a i) (past_same old new a i)) h

-- What one worker did to the end, put together.
use Rattle.std.proofs.Common.{◌≡◌, ℕ, true, false, List, [], ◌∷◌, ◌++◌, map, length, refl, sym, subst, ◌∙◌, append_assoc}
use Rattle.std.specs.Prelude.{flat_map}
use Rattle.std.specs.List.{list_all}
use Rattle.std.proofs.lemmas.Bool.{and_from, and_parts, false≢true}
use Rattle.office_core.specs.declared.history.Act.{Act}
use Rattle.office_core.specs.declared.history.Act.TheVariants as act
use Rattle.office_core.specs.declared.history.Entry.{Entry}
use Rattle.office_core.specs.declared.outgoing.OutKind.TheVariants as kind
use Rattle.office_core.specs.Limits.{Setting, first_worker}
use Rattle.office_core.specs.Past.{closes}
use Rattle.office_core.specs.Accepted.{past_of}
use Rattle.office_core.specs.Calls.{outgoing}
use Rattle.office_core.specs.Legal.{IsLegal}
use Rattle.run_theorem.specs.Exchange.{Exchange, Told}
use Rattle.run_quiet_laws.specs.Ends.{CameThrough, Ended, is_by_worker, is_close, is_collect, stop_entry}
use Rattle.run_quiet_laws.proofs.Ending.{Looked, spent_exact}
use Rattle.run_quiet_laws.proofs.Finished.{is_run}
use Rattle.run_record.specs.Order.{order_alone}
use Rattle.run_record.specs.Outside.{note_of, notes}
use Rattle.run_record.specs.Quiet.{outstanding}
use Rattle.run_trip_laws.specs.Going.{AreSettled, NotedSoFar, is_inward, is_silent}
use Rattle.run_trip_laws.proofs.Settling.{all_noted, received_over, noted_on, over_all, quiet_none, settled_on}
use Rattle.run_trip_laws.proofs.Completing.{void_is}
use Rattle.run_posts.specs.CallStates.{Wait}
use Rattle.run_posts.proofs.Ending.{told_each}
use Rattle.run_posts.proofs.Opening.{IsOpen}
use Rattle.run_record.specs.Collected.{AreCollected}
use Rattle.run_alone.specs.Ran.{AreNotes, CollectedBefore, IsOver, LeavesNone, GaveNone, NotedBefore, SawFinished, ToldBefore, Ran, Rules}
use Rattle.run_alone.specs.declared.worker.Finished.{Finished}
use Rattle.run_alone.proofs.Stepping.{all_append, all_weaker}

-- ---- what comes at the end has nothing to do with calls

silent_close : (n : ℕ) (a : Act) → closes (record { actor = n; act = a }) ≡ true
    → is_silent (record { actor = n; act = a }) ≡ true
silent_close n act.Close h = refl
silent_close n a h = absurd (false≢true h)

silent_collect : (n : ℕ) (a : Act) → (elim a [ act.Collect m o ↦ true | _ ↦ false ]) ≡ true
    → is_silent (record { actor = n; act = a }) ≡ true
silent_collect n (act.Collect m o) h = refl
silent_collect n a h = absurd (false≢true h)

inward_silent : (n : ℕ) (a : Act) → is_silent (record { actor = n; act = a }) ≡ true
    → is_inward (record { actor = n; act = a }) ≡ true
inward_silent n (act.Fetch s k) h = absurd (false≢true h)
inward_silent n (act.Answered s k o) h = absurd (false≢true h)
inward_silent n a h = refl

module _ {h now : List Entry} (x : Ended h now) where
  abbrev pub added : List Entry
  added = x.closing ++ stop_entry ∷ x.collects

  pub added_is : h ++ added ≡ now
  added_is = sym (append_assoc h x.closing (stop_entry ∷ x.collects)) ∙ sym x.is

  pub silent_end : list_all is_silent added ≡ true
  silent_end =
      all_append is_silent x.closing (stop_entry ∷ x.collects)
      (all_weaker is_close is_silent
      (λ e g. silent_close e.actor e.act (and_parts (is_by_worker e) (closes e) g).1) x.closing x.closing_are)
      (and_from (is_silent stop_entry) (list_all is_silent x.collects) refl
      (all_weaker is_collect is_silent
      (λ e g. silent_collect e.actor e.act (and_parts (is_by_worker e) _ g).1) x.collects x.collects_are))

  pub inward_end : list_all is_inward added ≡ true
  inward_end = all_weaker is_silent is_inward (λ e g. inward_silent e.actor e.act g) added silent_end

  -- so how it stood with the calls, it stands at the end
  pub settled_end : (w : Setting) → IsLegal w now → AreSettled w h → AreSettled w now
  settled_end w legal s =
      subst (AreSettled w) added_is
      (over_all w is_inward (AreSettled w) (settled_on w) h added inward_end (subst (IsLegal w) (sym added_is) legal) s)

  pub noted_end : (w : Setting) (noted : List ℕ) → IsLegal w now → NotedSoFar w h noted → NotedSoFar w now noted
  noted_end w noted legal s =
      subst (λ (l : List Entry). NotedSoFar w l noted) added_is
      (over_all w is_inward (λ g. NotedSoFar w g noted) (noted_on w noted) h added inward_end
      (subst (IsLegal w) (sym added_is) legal) s)

-- ---- the run

-- What one worker has at the end of a run, of a history h before its end.
pub record HasEnded (r : Rules) (h : List Entry) (xs : List Wait) (new d : Exchange) (finished : Finished) : Type 0 where
  pub came : CameThrough r.setting r.budget d.sent.notes_failed h finished.report.sessions
  pub end : Ended h finished.report.history.entries.items
  pub legal : IsLegal r.setting finished.report.history.entries.items
  pub opens : IsOpen r.setting finished.report.history.entries.items d.received.given d.sent.told xs
  pub order : map (λ (t : Told). t.place) d.sent.told
      ≡ order_alone r.setting finished.report.history.entries.items first_worker (length d.received.given)
  pub settled : AreSettled r.setting h
  pub noted : NotedSoFar r.setting h d.sent.noted
  pub over : IsOver d
  pub left : LeavesNone new d
  pub asked : length d.received.seens ≡ length d.received.given
  pub told_before : ToldBefore r.setting finished.report.history.entries.items d
  pub gathered : AreCollected r.setting finished.report.history.entries.items
  pub collected : CollectedBefore r.setting finished.report.history.entries.items d
  pub seen : GaveNone d → SawFinished r.setting finished.report.history.entries.items d
  pub noted_then : NotedBefore r.setting finished.report.history.entries.items d
  pub looked : Looked r.setting r.budget h finished.report.sessions finished.spent
  pub traffic : finished.report.traffic ≡ []

notes_of : (r : Rules) (h : List Entry) (xs : List Wait) (new d : Exchange) (finished : Finished)
    → HasEnded r h xs new d finished
    → AreNotes d.sent.notes_failed d.sent.noted (notes r.setting finished.report.history.entries.items)
notes_of r h xs new d finished x = (
  (
    flat_map note_of (outgoing r.setting (past_of r.setting finished.report.history.entries.items) kind.Console),
    sym (noted_end x.end r.setting d.sent.noted x.legal x.noted),
  ),
  λ unfailed.
      all_noted r.setting finished.report.history.entries.items d.sent.noted
      (quiet_none r.setting finished.report.history.entries.items kind.Console (settled_end x.end r.setting x.legal x.settled)
      (subst (λ (l : List Entry). outstanding (past_of r.setting l) ≡ []) (added_is x.end)
      (received_over r.setting h (added x.end) (silent_end x.end) (subst (IsLegal r.setting) (sym (added_is x.end)) x.legal)
      x.settled (x.came.quiet unfailed).received)))
      (noted_end x.end r.setting d.sent.noted x.legal x.noted),
)

pub ran : (r : Rules) (text : List ℕ) (h : List Entry) (xs : List Wait) (new d : Exchange) (finished : Finished)
    → finished.report.program ≡ text → HasEnded r h xs new d finished → Ran r text new d finished
ran r text h xs new d finished program x = record {
  run = is_run {h = h} x.came x.end x.legal x.opens.posted.hands x.opens.posted.together x.gathered;
  program = program;
  traffic = x.traffic;
  exchanged = record {
    posted = x.opens.posted.posted;
    posters = x.opens.posted.posters;
    order = x.order;
    told = λ t c.
        told_each r.setting (past_of r.setting finished.report.history.entries.items) d.received.given d.sent.told t
        x.opens.told c;
    noted = notes_of r h xs new d finished x;
    over = x.over;
    left = x.left;
    asked = x.asked;
    told_before = x.told_before;
    collected = x.collected;
    seen = x.seen;
    noted_then = x.noted_then;
  };
  consoles =
      void_is r.setting finished.report.history.entries.items x.legal (settled_end x.end r.setting x.legal x.settled);
  spent = spent_exact {h = h} x.end x.came.few x.looked;
}

use Rattle.std.proofs.Common.{◌≡◌, ◌++◌, [], ◌∷◌, true, ap, refl, ◌∙◌}
use Rattle.office_core.specs.declared.history.Act.TheVariants as act
use Rattle.office_core.specs.Legal.{is_acting}
use Rattle.office_core.proofs.OneAnswer.{one_reply}
use Rattle.office_plain.specs.Entries.{entry}
use Rattle.office_plain.proofs.Acting.{acting_lives}
use Rattle.office_plain.specs.View.{setting_of, past_in, entries_of}
use Rattle.office_plain.proofs.Ending.{acting_runs, keyed_live, legal_end, ties_end}
use Rattle.office_plain.proofs.Whole.{whole_after, still}
use Rattle.office_plain.proofs.office.Office.end.Goals as goal

pub release-requires : goal.release-requires
release-requires c =
    let o = c.begin.new.self in
    let s = c.args.session in
    let acts = still (λ v p. is_acting v p s ≡ true) c.args.self.now o c.begin.ensures.same c.requires in
    keyed_live (setting_of o) (past_in o) s o.kept (o.tied c.in_ok-begin.ensures.ready) acts

pub invariant_of-self : goal.invariant_of-self
invariant_of-self c =
    let o = c.begin.new.self in
    let w = setting_of o in
    let past = past_in o in
    let s = c.args.session in
    let acts = still (λ v p. is_acting v p s ≡ true) c.args.self.now o c.begin.ensures.same c.requires in
    let sessions = c.end_row.new.rows in
    let boxes = c.answer_waiting.new.boxes in
    let book = c.answer_waiting.new.book in
    let rows = c.release.new.self in
    let whole = whole_after o c.put.new.self (entry s act.End) (record o.kept { sessions = sessions; boxes = boxes; book = book; rows = rows })
    c.put.ensures.entries c.put.ensures.kept refl refl
    (legal_end w past s acts)
    (ties_end w past s o.kept sessions boxes book rows (acting_runs w past s acts) (acting_lives w past s acts)
    (λ n. one_reply w (entries_of o) n o.legal) (o.tied c.in_ok-begin.ensures.ready)
    c.end_row.ensures c.answer_waiting.ensures.others c.answer_waiting.ensures.origins c.answer_waiting.ensures.standings c.release.ensures) in
    record { legal = whole.legal; places = whole.places; closing = whole.closing; tied = λ h. whole.tied }

pub returns-clause-added : goal.returns-clause-added
returns-clause-added c =
    let same = c.begin.ensures.same in
    record {
      program = same.program;
      entries = c.put.ensures.entries ∙ ap (λ es. es ++ entry c.args.session act.End ∷ []) same.entries;
    }

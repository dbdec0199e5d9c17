use Rattle.std.proofs.Common.{◌≡◌, ◌++◌, [], ◌∷◌, true, None, Some, ap, refl, sym, ◌∙◌}
use Rattle.std.specs.Prelude.{slice_get}
use Rattle.std.proofs.lemmas.Option.{slice_get_within}
use Rattle.office_core.specs.declared.history.Act.TheVariants as act
use Rattle.office_core.specs.Past.{is_running}
use Rattle.office_plain.specs.Entries.{entry}
use Rattle.office_plain.specs.Replies.{birth_of}
use Rattle.office_plain.specs.Rows.{unadopted_in}
use Rattle.office_plain.specs.View.{setting_of, past_in}
use Rattle.office_plain.proofs.Adopting.{Unadopted, unadopted, row_there, born, birth_is, legal_adopt, ties_adopt}
use Rattle.office_plain.proofs.Whole.{whole_after, still, before}
use Rattle.office_plain.proofs.office.Office.adopt.Goals as goal

pub returns-in_default-clause-birth : goal.returns-in_default-clause-birth
returns-in_default-clause-birth c =
    let o = c.begin.new.self in
    let s = c.args.session in
    let t = o.tied c.in_ok-begin.ensures.ready in
    before (λ w p. None ≡ birth_of w p s) c.args.self.now o c.begin.ensures.same
    (birth_is (setting_of o) (past_in o) s None (ap unadopted_in (sym (t.sessions s)) ∙ sym c.unadopted.ensures ∙ c.in_default.is))

pub set-requires : goal.set-requires
set-requires c =
    let kept = c.begin.new.self.kept in
    slice_get_within kept.sessions c.args.session c.in-Some.row
    (row_there (slice_get kept.sessions c.args.session) c.in-Some.row (sym c.unadopted.ensures ∙ c.in-Some.is))

pub invariant_of-self-2 : goal.invariant_of-self-2
invariant_of-self-2 c =
    let o = c.begin.new.self in
    let w = setting_of o in
    let past = past_in o in
    let s = c.args.session in
    let row = c.in-Some.row in
    let t = o.tied c.in_ok-begin.ensures.ready in
    let open_row = sym c.unadopted.ensures ∙ c.in-Some.is in
    let u : Unadopted w past s row = unadopted w past s row (ap unadopted_in (sym (t.sessions s)) ∙ open_row) in
    let runs = still (λ v p. is_running p ≡ true) c.args.self.now o c.begin.ensures.same c.requires in
    let rows = c.set.new.self in
    let whole = whole_after o c.put.new.self (entry s (act.Adopt row.service)) (record o.kept { sessions = rows })
    c.put.ensures.entries c.put.ensures.kept refl refl
    (legal_adopt w past s row.service runs u.new u.born)
    (ties_adopt w past s row.service row o.kept rows (row_there (slice_get o.kept.sessions s) row open_row) c.set.ensures t) in
    record { legal = whole.legal; places = whole.places; closing = whole.closing; tied = λ h. whole.tied }

pub returns-clause-birth : goal.returns-clause-birth
returns-clause-birth c =
    let o = c.begin.new.self in
    let s = c.args.session in
    let row = c.in-Some.row in
    let t = o.tied c.in_ok-begin.ensures.ready in
    before (λ w p. Some (born s row.service) ≡ birth_of w p s) c.args.self.now o c.begin.ensures.same
    (birth_is (setting_of o) (past_in o) s (Some row) (ap unadopted_in (sym (t.sessions s)) ∙ sym c.unadopted.ensures ∙ c.in-Some.is))

pub returns-clause-added : goal.returns-clause-added
returns-clause-added c =
    let same = c.begin.ensures.same in
    record {
      program = same.program;
      entries = c.put.ensures.entries ∙ ap (λ es. es ++ entry c.args.session (act.Adopt c.in-Some.row.service) ∷ []) same.entries;
    }

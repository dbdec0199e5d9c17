use Rattle.std.proofs.Common.{◌<◌, length, ap, sym, ◌∙◌, arith}
use Rattle.std.specs.List.{position_from}
use Rattle.std.proofs.lemmas.Option.{slice_get_within}
use Rattle.behaviour_tree.specs.PartsView.{parts_of}
use Rattle.office_core.specs.Sessions.{has_ended}
use Rattle.office_core.specs.Route.{into_box}
use Rattle.office_plain.specs.View.{setting_of, past_in}
use Rattle.office_plain.specs.Ways.{is_of}
use Rattle.office_plain.proofs.Few.{few_sessions}
use Rattle.office_plain.proofs.Routing.{position_there, single_none, single_ended, single_lives}
use Rattle.office_plain.proofs.office.Office.to_single.Goals as goal

pub returns-in_default : goal.returns-in_default
returns-in_default c =
    let o = c.args.self.now in
    single_none (setting_of o) (past_in o) o.kept.sessions c.args.service (o.tied c.requires).sessions
    (ap (position_from (is_of c.args.service) 0) (sym c.as_slice.ensures) ∙ sym c.in_default.ensures)

pub returns-in_default-get : goal.returns-in_default-get
returns-in_default-get c =
    let o = c.args.self.now in
    absurd (position_there (is_of c.args.service) c.in-Some.place o.kept.sessions
    (ap (position_from (is_of c.args.service) 0) (sym c.as_slice.ensures) ∙ sym c.in-Some.ensures)
    (sym c.in_default-get.ensures.value))

pub returns-then-row : goal.returns-then-row
returns-then-row c =
    let o = c.args.self.now in
    single_ended (setting_of o) (past_in o) o.kept.sessions c.args.service c.in-Some.place c.in-Some-get.row.now (o.tied c.requires).sessions
    (ap (position_from (is_of c.args.service) 0) (sym c.as_slice.ensures) ∙ sym c.in-Some.ensures)
    (sym c.in-Some-get.ensures.value) c.if-row.true

pub numbered-requires : goal.numbered-requires
numbered-requires c =
    let o = c.args.self.now in
    let t = o.tied c.requires in
    let there : c.in-Some.place < length o.kept.sessions =
    slice_get_within o.kept.sessions c.in-Some.place c.in-Some-get.row.now (sym c.in-Some-get.ensures.value) in
    omega (arith, there, few_sessions (parts_of o.program) (past_in o) o.kept.sessions t.sessions t.few)

pub into_box-requires-clause-lives : goal.into_box-requires-clause-lives
into_box-requires-clause-lives c =
    let o = c.args.self.now in
    let lives = single_lives (setting_of o) (past_in o) o.kept.sessions c.args.service c.in-Some.place c.in-Some-get.row.now (o.tied c.requires).sessions
    (ap (position_from (is_of c.args.service) 0) (sym c.as_slice.ensures) ∙ sym c.in-Some.ensures)
    (sym c.in-Some-get.ensures.value) c.if-row.false in
    ap (has_ended (past_in o)) c.numbered.ensures ∙ lives.0

pub returns : goal.returns
returns c =
    let o = c.args.self.now in
    let lives = single_lives (setting_of o) (past_in o) o.kept.sessions c.args.service c.in-Some.place c.in-Some-get.row.now (o.tied c.requires).sessions
    (ap (position_from (is_of c.args.service) 0) (sym c.as_slice.ensures) ∙ sym c.in-Some.ensures)
    (sym c.in-Some-get.ensures.value) c.if-row.false in
    c.into_box.ensures ∙ ap (into_box (setting_of o) (past_in o)) c.numbered.ensures ∙ lives.1

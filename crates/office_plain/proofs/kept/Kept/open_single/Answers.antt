use Rattle.std.proofs.Common.{◌<◌, ◌^◌, length, sym, subst, ◌∙◌, true≢false, rules}
use Rattle.behaviour_tree.specs.PartsView.{parts_of, service_view}
use Rattle.office_plain.proofs.Few.{few_singles}
use Rattle.office_plain.proofs.Singles.{opens_at}
use Rattle.office_plain.proofs.kept.Kept.open_single.Goals as goal

pub returns-then-not-has_session-clause-one : goal.returns-then-not-has_session-clause-one
returns-then-not-has_session-clause-one c =
    λ h. absurd (true≢false (sym h ∙ sym c.has_session.ensures ∙ c.if-not-has_session.true))

pub returns-clause-none : goal.returns-clause-none
returns-clause-none c = λ h. absurd (true≢false (sym c.if-not-has_session.false ∙ c.has_session.ensures ∙ h))

pub numbered-session-requires : goal.numbered-session-requires
numbered-session-requires c =
    subst (λ n. n < 2 ^ 32) (sym c.len.ensures)
    (few_singles (service_view c.args.service.now) (length c.args.self.now.sessions)
    (sym c.has_session.ensures ∙ c.if-not-has_session.false))

pub returns-clause-one : goal.returns-clause-one
returns-clause-one c =
    λ h. opens_at (parts_of c.args.program.now) c.numbered-session.result
    (length c.args.self.now.sessions) c.numbered-place.result
    c.args.number c.args.self.now c.open_session.new.self c.in_ok-open_session.ensures
    (search rules) c.numbered-place.ensures

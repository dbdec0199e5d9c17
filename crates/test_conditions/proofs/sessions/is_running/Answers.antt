use Rattle.std.proofs.Common.{ap, ◌∙◌}
use Rattle.std.specs.Prelude.{nat_lt, if◌then◌else◌}
use Rattle.office_plain.specs.declared.log.Log.{Log}
use Rattle.office_plain.specs.View.{past_in}
use Rattle.test_conditions.proofs.Acted.{running_is}
use Rattle.test_conditions.proofs.sessions.is_running.Goals as goal

pub returns : goal.returns
returns c =
    let o = c.args.office.now in
    c.keeps_more.ensures
    ∙ (λ i. nat_lt (if c.is_closed.ensures i then 0 else 1) ((c.places.ensures ∙ ap (λ (l : Log). l.kept) c.log.ensures) i))
    ∙ running_is (past_in o) o.closed o.log.kept o.closing o.places

use Rattle.session_forms.specs.View.{term_view}
use Rattle.term_session.proofs.Foretelling.{raised_by}
use Rattle.term_session.proofs.glance.is_raised.Goals as goal

pub returns : goal.returns
returns c =
    raised_by c.goes_on.result c.args.strand c.args.fault (term_view c.args.form.now) c.decided.result c.decided.ensures c.goes_on.ensures

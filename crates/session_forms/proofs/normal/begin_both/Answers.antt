use Rattle.std.proofs.Common.{◌∙◌, ap}
use Rattle.behaviour_tree.specs.Data.{no_procs, proc, sequence}
use Rattle.behaviour_tree.specs.View.{behaviour_view}
use Rattle.session_calculus.specs.Start as spec
use Rattle.session_forms.proofs.Settled.{begin-normal}
use Rattle.session_forms.proofs.normal.begin_both.Goals as goal

pub returns : goal.returns
returns c =
    c.in_ok-next.ensures
    ∙ ap (λ b. spec.normal b.form b.next) c.in_ok-form.ensures
    ∙ begin-normal (sequence (proc (behaviour_view c.args.first.now) (proc (behaviour_view c.args.second.now) no_procs))) c.args.next

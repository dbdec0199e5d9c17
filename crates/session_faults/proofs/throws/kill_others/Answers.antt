use Rattle.std.proofs.Common.{◌≡◌, ◌∙◌, length, ap, arith, length-take}
use Rattle.std.specs.Arc.{arc_value}
use Rattle.session_calculus.specs.Kill.{kill_members}
use Rattle.session_forms.specs.View.{fault_view, members_view}
use Rattle.session_faults.proofs.Positions.{all_behind, members-around}
use Rattle.session_faults.proofs.throws.kill_others.Goals as goal

pub returns : goal.returns
returns c = λ x is.
    let f = fault_view (arc_value c.args.fault.now) in
    let xs = c.args.strands.now in
    let front = c.kill_members.new.strands in
    let before : length front ≡ c.args.place = omega (arith, length-take c.args.place xs) in
    let behind = c.in_ok-kill_members-2.ensures ∙ ap (λ ys. kill_members f (members_view ys)) (all_behind xs front c.args.place x c.requires is before) in
    members-around xs front c.kill_members-2.new.strands c.args.place x _ _ c.requires is before c.in_ok-kill_members.ensures behind

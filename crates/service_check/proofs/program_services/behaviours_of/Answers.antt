use Rattle.std.proofs.Common.{IfOk, ap, subst, ◌≡◌, ◌∙◌}
use Rattle.std.specs.List.{filter_map}
use Rattle.behaviour_tree.specs.View.{behaviour_view}
use Rattle.behaviour_tree.specs.Data.{Proc}
use Rattle.lower_processes.specs.Behaviours.{Numbering, lowered_if_there}
use Rattle.check_base.specs.Files.{first_there, init_in, main_in}
use Rattle.service_check.specs.Programs.{numbering}
use Rattle.service_check.proofs.program_services.behaviours_of.Goals as goal

pub returns-clause-init : goal.returns-clause-init
returns-clause-init c =
    subst (λ (p : Proc). IfOk c.numbered_behaviours.result (λ b. behaviour_view b.init.value ≡ p))
    (ap (λ (e : Numbering). lowered_if_there e (first_there (filter_map init_in c.as_slice-clauses.result.now))) (c.in_ok-numbers.ensures c.args.names.now)
    ∙ ap (λ cs. lowered_if_there (numbering c.args.interfaces.now c.args.names.now c.args.service.now) (first_there (filter_map init_in cs))) c.as_slice-clauses.ensures)
    c.numbered_behaviours.ensures.init

pub returns-clause-main : goal.returns-clause-main
returns-clause-main c =
    subst (λ (p : Proc). IfOk c.numbered_behaviours.result (λ b. behaviour_view b.main.value ≡ p))
    (ap (λ (e : Numbering). lowered_if_there e (first_there (filter_map main_in c.as_slice-clauses.result.now))) (c.in_ok-numbers.ensures c.args.names.now)
    ∙ ap (λ cs. lowered_if_there (numbering c.args.interfaces.now c.args.names.now c.args.service.now) (first_there (filter_map main_in cs))) c.as_slice-clauses.ensures)
    c.numbered_behaviours.ensures.main

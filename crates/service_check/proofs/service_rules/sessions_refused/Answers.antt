use Rattle.std.proofs.Common.{ap, ◌∙◌, flat_map}
use Rattle.check_base.specs.Least.{joined}
use Rattle.check_processes.specs.Surroundings.{Surroundings, surroundings}
use Rattle.service_check.specs.Clauses.{some_lost}
use Rattle.service_check.specs.ServiceRules.{clause_refused, uncorrelated}
use Rattle.service_check.proofs.FileRefusals.{joined_then}
use Rattle.service_check.proofs.service_rules.sessions_refused.Goals as goal

pub returns : goal.returns
returns c =
    let s = c.args.service.now in
    joined_then c.args.least.now c.clauses_refused.new.least c.uncorrelated.new.least
    (flat_map (clause_refused (surroundings c.args.interfaces.now s)) s.clauses) (uncorrelated c.args.interfaces.now s)
    (c.in_ok-clauses_refused.ensures
    ∙ ap (λ cs. joined c.args.least.now (flat_map (clause_refused c.in_ok-surroundings.surroundings) cs)) c.as_slice.ensures
    ∙ ap (λ e. joined c.args.least.now (flat_map (clause_refused e) s.clauses)) c.in_ok-surroundings.ensures)
    (c.in_ok-uncorrelated.ensures
    ∙ ap (λ os. joined c.clauses_refused.new.least (some_lost os s)) (c.inputs.ensures ∙ ap (λ (e : Surroundings). e.inputs) c.in_ok-surroundings.ensures))

use Rattle.std.proofs.Common.{ap, refl, ◌∙◌, flat_map}
use Rattle.check_base.specs.Least.{joined}
use Rattle.check_ports.specs.PortRules.{ports_refused}
use Rattle.check_ports.specs.SetRules.{sets_refused}
use Rattle.check_processes.specs.Surroundings.{surroundings}
use Rattle.service_check.specs.Clauses.{seconds_among}
use Rattle.service_check.specs.ServiceRules.{clause_refused, no_start, uncorrelated}
use Rattle.check_base.proofs.Joined.{joined_append}
use Rattle.service_check.proofs.FileRefusals.{joined_six}
use Rattle.service_check.proofs.service_rules.service_refused.Goals as goal

pub returns : goal.returns
returns c =
    let s = c.args.service.now in
    let of_clauses = flat_map (clause_refused (surroundings c.args.interfaces.now s)) s.clauses in
    let lost = uncorrelated c.args.interfaces.now s in
    joined_six c.args.least.now c.seconds_refused.new.least c.ports_refused.new.least c.sets_refused.new.least (joined c.sets_refused.new.least of_clauses) c.sessions_refused.new.least c.no_start.new.least
    (seconds_among s.clauses) (ports_refused c.args.interfaces.now c.args.locations.now s) (sets_refused c.args.types.now s) of_clauses lost (no_start s)
    (c.seconds_refused.ensures ∙ ap (λ cs. joined c.args.least.now (seconds_among cs)) c.as_slice.ensures)
    c.in_ok-ports_refused.ensures
    c.in_ok-sets_refused.ensures
    refl
    (c.in_ok-sessions_refused.ensures ∙ joined_append c.sets_refused.new.least of_clauses lost)
    c.no_start.ensures

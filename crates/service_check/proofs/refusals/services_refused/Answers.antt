use Rattle.std.proofs.Common.{ap, ◌∙◌, arith, flat_map}
use Rattle.std.proofs.lemmas.List.{take_all}
use Rattle.service_check.specs.Clauses.{definition_refused}
use Rattle.check_base.specs.Least.{joined}
use Rattle.service_check.proofs.FileRefusals.{services_found}
use Rattle.check_base.proofs.Joined.{turn_of}
use Rattle.service_check.proofs.refusals.services_refused.Goals as goal

pub loop-definition-preserved : goal.loop-definition-preserved
loop-definition-preserved c =
    turn_of (definition_refused c.args.types.now c.args.interfaces.now c.args.locations.now) _ _ _ _ _ _ c.loop-definition-test.true c.definition-item.is c.loop-definition.invariant c.in_ok-definition_refused.ensures

pub returns : goal.returns
returns c =
    c.loop-definition.invariant
    ∙ ap (λ ds. joined c.args.least.now (flat_map (definition_refused c.args.types.now c.args.interfaces.now c.args.locations.now) ds)) (take_all c.loop-definition.definition-index c.args.file.now (omega arith))
    ∙ ap (joined c.args.least.now) (services_found c.args.types.now c.args.interfaces.now c.args.locations.now c.args.file.now)

use Rattle.service_check.specs.Mentioned.{definition_texts}
use Rattle.service_check.proofs.Mentions.{naming_turn}
use Rattle.service_check.proofs.mentioned.definitions_names.Goals as goal

pub loop-definition-preserved : goal.loop-definition-preserved
loop-definition-preserved c =
    naming_turn definition_texts c.args.names.now c.loop-definition.names c.definition_names.new.names c.args.file.now c.loop-definition.definition-index c.definition-item.result c.loop-definition-test.true c.definition-item.is c.loop-definition.invariant c.in_ok-definition_names.ensures

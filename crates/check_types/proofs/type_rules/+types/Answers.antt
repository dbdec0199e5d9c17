use Rattle.check_types.specs.TypeRules.{field_refused}
use Rattle.check_base.proofs.Joined.{turn_of}
use Rattle.check_types.proofs.type_rules.+types.Goals as goal

pub fields_refused-loop-field-preserved : goal.fields_refused-loop-field-preserved
fields_refused-loop-field-preserved t c =
    turn_of (field_refused c.args.types.now) _ _ _ _ _ _ c.loop-field-test.true c.field-item.is c.loop-field.invariant c.in_ok-field_refused.ensures

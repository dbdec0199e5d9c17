use Rattle.std.proofs.Common.{rules, flat_map, ap, sym, ◌∙◌}
use Rattle.std.proofs.lemmas.List.{take_all}
use Rattle.jolie_ast.specs.declared.interface.OperationGroup.{OperationGroup}
use Rattle.check_base.specs.Files.{group_operations}
use Rattle.service_check.specs.Mentioned.{thrown_by}
use Rattle.check_base.specs.Repeated.{with_texts}
use Rattle.service_check.proofs.Mentions.{naming_turn, groups_throw}
use Rattle.service_check.proofs.mentioned.interface_names.Goals as goal

pub loop-group-preserved : goal.loop-group-preserved
loop-group-preserved c =
    naming_turn (λ (g : OperationGroup). flat_map thrown_by (group_operations g)) c.args.names.now c.loop-group.names c.group_names.new.names c.as_slice-group-items.result.now c.loop-group.group-index c.group-item.result c.loop-group-test.true c.group-item.is c.loop-group.invariant c.in_ok-group_names.ensures

pub returns : goal.returns
returns c =
    c.loop-group.invariant
    ∙ ap (λ gs. with_texts c.args.names.now (flat_map (λ (g : OperationGroup). flat_map thrown_by (group_operations g)) gs))
    (take_all c.loop-group.group-index c.as_slice-group-items.result.now (search rules) ∙ c.as_slice-group-items.ensures)
    ∙ ap (with_texts c.args.names.now) (sym (groups_throw c.args.interface.now.groups))

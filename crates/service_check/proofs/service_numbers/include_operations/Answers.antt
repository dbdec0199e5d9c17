use Rattle.std.proofs.Common.{rules, flat_map, ap, sym, ◌∙◌}
use Rattle.std.proofs.lemmas.List.{take_all}
use Rattle.check_base.specs.Files.{Operation, group_operations, texts_of}
use Rattle.check_base.specs.Repeated.{with_texts}
use Rattle.service_check.proofs.Mentions.{naming_turn}
use Rattle.check_base.proofs.Loops.{mapped_each}
use Rattle.service_check.proofs.service_numbers.include_operations.Goals as goal

pub loop-group-preserved : goal.loop-group-preserved
loop-group-preserved c =
    naming_turn (λ g. texts_of (group_operations g)) c.args.texts.now c.loop-group.texts c.include_group.new.texts c.as_slice-group-items.result.now c.loop-group.group-index c.group-item.result c.loop-group-test.true c.group-item.is c.loop-group.invariant c.in_ok-include_group.ensures

pub returns : goal.returns
returns c =
    c.loop-group.invariant
    ∙ ap (λ xs. with_texts c.args.texts.now (flat_map (λ g. texts_of (group_operations g)) xs)) (take_all c.loop-group.group-index c.as_slice-group-items.result.now (search rules) ∙ c.as_slice-group-items.ensures)
    ∙ ap (with_texts c.args.texts.now) (sym (mapped_each (λ (o : Operation). o.name.text) group_operations c.args.interface.now.groups))

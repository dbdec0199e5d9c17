use Rattle.std.proofs.Common.{rules, flat_map, ap, sym, ◌∙◌}
use Rattle.std.proofs.lemmas.List.{take_all}
use Rattle.jolie_ast.specs.declared.name.Name.{Name}
use Rattle.check_base.specs.Files.{Operation, operations_named, texts_of}
use Rattle.check_base.specs.Repeated.{with_texts}
use Rattle.service_check.proofs.Mentions.{naming_turn}
use Rattle.check_base.proofs.Loops.{mapped_each}
use Rattle.service_check.proofs.service_numbers.include_interfaces.Goals as goal

pub loop-name-preserved : goal.loop-name-preserved
loop-name-preserved c =
    naming_turn (λ n. texts_of (operations_named c.args.interfaces.now n.text)) c.args.texts.now c.loop-name.texts c.include_named.new.texts c.args.names.now c.loop-name.name-index c.name-item.result c.loop-name-test.true c.name-item.is c.loop-name.invariant c.in_ok-include_named.ensures

pub returns : goal.returns
returns c =
    c.loop-name.invariant
    ∙ ap (λ xs. with_texts c.args.texts.now (flat_map (λ (n : Name). texts_of (operations_named c.args.interfaces.now n.text)) xs)) (take_all c.loop-name.name-index c.args.names.now (search rules))
    ∙ ap (with_texts c.args.texts.now) (sym (mapped_each (λ (o : Operation). o.name.text) (λ (n : Name). operations_named c.args.interfaces.now n.text) c.args.names.now))

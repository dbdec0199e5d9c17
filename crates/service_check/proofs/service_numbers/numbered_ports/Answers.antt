use Rattle.std.proofs.Common.{rules, map, ap, ◌∙◌}
use Rattle.std.proofs.lemmas.List.{take_all}
use Rattle.service_check.specs.KeptPorts.{sided}
use Rattle.service_check.specs.Programs.{numbered_from}
use Rattle.service_check.proofs.Numbering.{port_turn}
use Rattle.service_check.proofs.service_numbers.numbered_ports.Goals as goal

pub loop-place-preserved : goal.loop-place-preserved
loop-place-preserved c =
    port_turn c.args.interfaces.now c.loop-place.ports c.add_port.new.ports c.args.sides.now c.loop-place.place c.index-sides-place.result c.loop-place-test.true c.index-sides-place.is c.loop-place.invariant c.in_ok-add_port.ensures

pub returns : goal.returns
returns c =
    c.loop-place.invariant
    ∙ ap (λ ss. numbered_from c.args.interfaces.now 0 (map sided ss)) (take_all c.loop-place.place c.args.sides.now (search rules))

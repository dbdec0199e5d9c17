use Rattle.std.proofs.Common.{arith, ◌≡◌, sym, ◌∙◌, refl, [], ◌++◌, map, take, length, true, false}
use Rattle.std.proofs.lemmas.Option.{slice_get_past, slice_get_read}
use Rattle.behaviour_tree.specs.Operations.{inputs_of, is_among, mentions, rest_of}
use Rattle.behaviour_tree.specs.PartsView.{port_view}
use Rattle.behaviour_tree.proofs.Inputs.{inputs-none, inputs-some, inputs-repeated, rest-end, coming-at_end, rest-at_end, coming-at_more, rest-at_more}
use Rattle.behaviour_tree.proofs.operations.InputInterfaces.next.Goals as goal

pub loop-port-smaller-in-None : goal.loop-port-smaller-in-None
loop-port-smaller-in-None c =
    let ports = c.args.self.now.ports.now in
    let i = c.loop-port.self.port in
    let j = c.loop-port.self.at in
    let p = c.in-Some.port.now in
    let at = slice_get_read ports (length ports) i p refl c.in-Some.ensures.lookup.3.0 c.in-Some.ensures.lookup.1 in
    let none = inputs-none p j _ c.inputs_of-inputs.ensures c.in-None.ensures.lookup.3 in
    let within = c.in-Some.ensures.lookup.3.0 in
    rw (coming-at_end ports i j p at none) (omega (arith, within))

pub loop-port-preserved-in-None : goal.loop-port-preserved-in-None
loop-port-preserved-in-None c =
    let ports = c.args.self.now.ports.now in
    let i = c.loop-port.self.port in
    let j = c.loop-port.self.at in
    let p = c.in-Some.port.now in
    let at = slice_get_read ports (length ports) i p refl c.in-Some.ensures.lookup.3.0 c.in-Some.ensures.lookup.1 in
    let none = inputs-none p j _ c.inputs_of-inputs.ensures c.in-None.ensures.lookup.3 in
    record {
      same_ports = c.loop-port.invariant.same_ports;
      rest = c.loop-port.invariant.rest ∙ rw c.loop-port.invariant.same_ports (rest-at_end ports i j p at none);
    }

pub returns-then-not-repeated-clause-rest : goal.returns-then-not-repeated-clause-rest
returns-then-not-repeated-clause-rest c =
    let ports = c.args.self.now.ports.now in
    let i = c.loop-port.self.port in
    let j = c.loop-port.self.at in
    let p = c.in-Some.port.now in
    let n = c.in-Some-get.field-0.now in
    let at = slice_get_read ports (length ports) i p refl c.in-Some.ensures.lookup.3.0 c.in-Some.ensures.lookup.1 in
    let some = inputs-some p j n _ c.inputs_of-inputs.ensures c.in-Some-get.ensures.lookup.3.0 c.in-Some-get.ensures.lookup.1 in
    let new : false ≡ is_among (mentions (map port_view (take i ports)) ++ take j (inputs_of (port_view p))) n = inputs-repeated p _ j n _ false c.inputs_of-inputs.ensures (sym c.if-not-repeated.true ∙ c.is_repeated-repeated.ensures) in
    c.loop-port.invariant.rest ∙ rw c.loop-port.invariant.same_ports (rest-at_more ports i j n p false at some new)

pub loop-port-smaller : goal.loop-port-smaller
loop-port-smaller c =
    let ports = c.args.self.now.ports.now in
    let i = c.loop-port.self.port in
    let j = c.loop-port.self.at in
    let p = c.in-Some.port.now in
    let n = c.in-Some-get.field-0.now in
    let at = slice_get_read ports (length ports) i p refl c.in-Some.ensures.lookup.3.0 c.in-Some.ensures.lookup.1 in
    let some = inputs-some p j n _ c.inputs_of-inputs.ensures c.in-Some-get.ensures.lookup.3.0 c.in-Some-get.ensures.lookup.1 in
    rw (coming-at_more ports i j n p at some) (omega arith)

pub loop-port-preserved : goal.loop-port-preserved
loop-port-preserved c =
    let ports = c.args.self.now.ports.now in
    let i = c.loop-port.self.port in
    let j = c.loop-port.self.at in
    let p = c.in-Some.port.now in
    let n = c.in-Some-get.field-0.now in
    let at = slice_get_read ports (length ports) i p refl c.in-Some.ensures.lookup.3.0 c.in-Some.ensures.lookup.1 in
    let some = inputs-some p j n _ c.inputs_of-inputs.ensures c.in-Some-get.ensures.lookup.3.0 c.in-Some-get.ensures.lookup.1 in
    let known : true ≡ is_among (mentions (map port_view (take i ports)) ++ take j (inputs_of (port_view p))) n = inputs-repeated p _ j n _ true c.inputs_of-inputs.ensures (sym c.if-not-repeated.false ∙ c.is_repeated-repeated.ensures) in
    record {
      same_ports = c.loop-port.invariant.same_ports;
      rest = c.loop-port.invariant.rest ∙ rw c.loop-port.invariant.same_ports (rest-at_more ports i j n p true at some known);
    }

pub returns-clause-rest : goal.returns-clause-rest
returns-clause-rest c =
    let ports = c.args.self.now.ports.now in
    let i = c.loop-port.self.port in
    let j = c.loop-port.self.at in
    let none = slice_get_past ports i c.in_default.ensures.lookup.3 in
    c.loop-port.invariant.rest ∙ rw c.loop-port.invariant.same_ports (rest-end ports i j none)

pub returns-clause-ended : goal.returns-clause-ended
returns-clause-ended c =
    let ports = c.args.self.now.ports.now in
    let i = c.loop-port.self.port in
    let j = c.loop-port.self.at in
    let none = slice_get_past ports i c.in_default.ensures.lookup.3 in
    let ended : rest_of c.loop-port.self ≡ [] = rw c.loop-port.invariant.same_ports (rest-end ports i j none) in
    ended

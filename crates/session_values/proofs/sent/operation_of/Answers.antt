-- The port is one of the service's, or stands behind them.
use Rattle.std.proofs.Common.{◌≡◌, ◌<◌, length, map, sym, ap, ◌∙◌, refl, arith}
use Rattle.std.specs.Prelude.{option_map}
use Rattle.std.proofs.lemmas.List.{length-map}
use Rattle.std.proofs.lemmas.Option.{slice_get-map}
use Rattle.behaviour_tree.specs.PartsView.{interface_view, port_view}
use Rattle.behaviour_tree.proofs.Sent.{get_at}
use Rattle.session_values.proofs.Among.{one_alone, sent_before, sent_behind, sent_past}
use Rattle.session_values.proofs.sent.operation_of.Goals as goal

pub returns-then-port-ports : goal.returns-then-port-ports
returns-then-port-ports c =
    let ports = c.args.ports.now in
    let port = c.index-ports-port.result in
    let at = get_at ports c.args.port port c.if-port-ports.true c.index-ports-port.is in
    let seen = slice_get-map port_view ports c.args.port ∙ ap (option_map port_view) at in
    c.declared.ensures ∙ sym (sent_before (map interface_view c.args.parts.now.interfaces.items) (map port_view ports) c.args.port c.args.op (port_view port) seen)

pub returns-then-port-ports-2 : goal.returns-then-port-ports-2
returns-then-port-ports-2 c =
    let ports = map port_view c.args.ports.now in
    let past : length ports < c.args.port = rw (length-map c.args.ports.now port_view) c.if-port-ports-2.true in
    sym (sent_past (map interface_view c.args.parts.now.interfaces.items) ports c.args.port c.args.op past)

pub returns-then-op-eq0 : goal.returns-then-op-eq0
returns-then-op-eq0 c =
    let ports = map port_view c.args.ports.now in
    let below = c.if-port-ports.false in
    let above = c.if-port-ports-2.false in
    let at : c.args.port ≡ length ports = rw (length-map c.args.ports.now port_view) (omega (arith, below, above)) in
    sym (sent_behind (map interface_view c.args.parts.now.interfaces.items) ports c.args.port c.args.op at ∙ rw c.if-op-eq0.true refl)

pub returns-else-op-eq0 : goal.returns-else-op-eq0
returns-else-op-eq0 c =
    let ports = map port_view c.args.ports.now in
    let below = c.if-port-ports.false in
    let above = c.if-port-ports-2.false in
    let at : c.args.port ≡ length ports = rw (length-map c.args.ports.now port_view) (omega (arith, below, above)) in
    sym (sent_behind (map interface_view c.args.parts.now.interfaces.items) ports c.args.port c.args.op at ∙ one_alone c.args.op c.if-op-eq0.false)

-- The operation stands in the interface at hand, or in one of the others.
use Rattle.std.proofs.Common.{◌≡◌, ◌+◌, ◌-◌, ◌<◌, ◌≤◌, length, map, drop, sym, ap, ◌∙◌, arith}
use Rattle.std.specs.Prelude.{option_map, slice_get}
use Rattle.std.proofs.lemmas.List.{length-map}
use Rattle.std.proofs.lemmas.Option.{slice_get-map}
use Rattle.behaviour_tree.specs.Operations.{operations_of}
use Rattle.behaviour_tree.specs.PartsView.{interface_view, operation_view}
use Rattle.behaviour_tree.proofs.Sent.{get_at, get_behind, get_front, operations_off}
use Rattle.behaviour_tree.proofs.operations.operation_among.Goals as goal

pub returns-then-left-operations : goal.returns-then-left-operations
returns-then-left-operations c =
    let interfaces = map interface_view c.args.interfaces.now in
    let ns = c.args.numbers.now in
    let i = c.loop-number.number-index in
    let left = c.loop-number.left in
    let operations = c.operations_at-operations.result.now in
    let here = map operation_view operations in
    let rest = operations_of interfaces (drop (i + 1) ns) in
    let off = operations_off interfaces ns i here c.loop-number-test.true c.operations_at-operations.ensures in
    let within : left < length here = rw (length-map operations operation_view) c.if-left-operations.true in
    let at = get_at operations left c.index-operations-left.result c.if-left-operations.true c.index-operations-left.is in
    let found = slice_get-map operation_view operations left ∙ ap (option_map operation_view) at in
    sym (c.loop-number.invariant ∙ ap (λ l. slice_get l left) off ∙ get_front here rest left within ∙ found)

pub loop-number-preserved : goal.loop-number-preserved
loop-number-preserved c =
    let interfaces = map interface_view c.args.interfaces.now in
    let ns = c.args.numbers.now in
    let i = c.loop-number.number-index in
    let left = c.loop-number.left in
    let operations = c.operations_at-operations.result.now in
    let here = map operation_view operations in
    let rest = operations_of interfaces (drop (i + 1) ns) in
    let off = operations_off interfaces ns i here c.loop-number-test.true c.operations_at-operations.ensures in
    let past : length operations ≤ left = c.if-left-operations.false in
    let behind : left ≡ length here + (left - length operations) = rw (length-map operations operation_view) (omega (arith, past)) in
    c.loop-number.invariant ∙ ap (λ l. slice_get l left) off ∙ get_behind here rest left (left - length operations) behind

use Rattle.std.proofs.Common.{◌∙◌, ap, map}
use Rattle.std.specs.Prelude.{option_map}
use Rattle.std.specs.Option.{option_copied}
use Rattle.behaviour_tree.specs.Data.{ProgramParts}
use Rattle.behaviour_tree.specs.PartsView.{operation_view, parts_of}
use Rattle.behaviour_tree.specs.View.{type_view}
use Rattle.jsonrpc_calls.specs.CallTexts.{call_by}
use Rattle.jsonrpc_calls.proofs.call.call_text.Goals as goal

pub returns : goal.returns
returns c =
    let out = c.args.out.now in
    let types = ap (map type_view) c.as_slice-types.ensures.value ∙ ap (λ (p : ProgramParts). p.types) c.parts.ensures.parts in
    c.in_ok-text.ensures
    ∙ ap (λ t. call_by t (option_map operation_view (option_copied c.operation_called.result)) out) types
    ∙ ap (λ o. call_by (parts_of c.args.program.now).types o out) c.operation_called.ensures

use Rattle.std.proofs.Common.{◌≡◌, sym, ap, ◌∙◌, subst, IfOk}
use Rattle.serde_json.specs.Data.{array}
use Rattle.serde_json.specs.View.{view, items_view}
use Rattle.serde_json.proofs.Views.{view-Array}
use Rattle.jsonrpc_text.specs.Posted.{posted_in, batch_of}
use Rattle.jsonrpc_text.proofs.Reading.{posted_in-array}
use Rattle.jsonrpc_text.proofs.read.posted_in.Goals as goal

pub returns-in_default : goal.returns-in_default
returns-in_default c =
    let whole : batch_of (items_view c.as_slice.result.now) ≡ posted_in (view c.args.value.now) =
    posted_in-array c.as_slice.result.now c.in_default.len_at_least ∙ ap (λ vs. posted_in (array (items_view vs))) c.as_slice.ensures.value
    ∙ ap posted_in (sym (view-Array c.in-Array.items)) ∙ ap (λ v. posted_in (view v)) (sym c.in-Array.is) in
    subst (λ r. IfOk c.batch.result (λ read. read ≡ r)) whole c.batch.ensures

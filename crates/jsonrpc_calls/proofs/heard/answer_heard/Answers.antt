use Rattle.std.proofs.Common.{◌≡◌, sym, ap, ◌∙◌, subst, IfOk}
use Rattle.std.specs.Prelude.{unwrap_or}
use Rattle.jsonrpc_calls.specs.Heard.{io_exception}
use Rattle.jsonrpc_calls.proofs.heard.answer_heard.Goals as goal

pub returns-in-None : goal.returns-in-None
returns-in-None c =
    subst (λ r. IfOk c.nothing_heard.result (λ outcome. outcome ≡ r))
    (ap (λ o. unwrap_or o io_exception) (sym c.in-None.is ∙ c.in_ok-read_answer.ensures)) c.nothing_heard.ensures

pub returns-in-Some : goal.returns-in-Some
returns-in-Some c = ap (λ o. unwrap_or o io_exception) (sym c.in-Some.is ∙ c.in_ok-read_answer.ensures)

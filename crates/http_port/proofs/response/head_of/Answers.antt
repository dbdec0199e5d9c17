use Rattle.std.proofs.Common.{◌++◌, ◌∙◌, ap}
use Rattle.std.specs.Prelude.{codes, ◌==◌}
use Rattle.httparse.specs.Ascii.{crlf_bytes}
use Rattle.http_port.specs.Responses.{line_if, length_line}
use Rattle.http_port.proofs.response.head_of.Goals as goal

pub returns : goal.returns
returns c =
    c.in_ok-push_str.ensures.bytes
    ∙ ap (λ l. l ++ crlf_bytes) (c.in_ok-push_line_if-3.ensures
    ∙ ap (λ l. l ++ line_if c.args.close (codes "Connection: close")) (c.in_ok-push_length.ensures
    ∙ ap (λ l. l ++ length_line c.args.status c.args.length) (c.in_ok-push_line_if-2.ensures
    ∙ ap (λ l. l ++ line_if (c.args.status == 200) (codes "Content-Type: application/json")) (c.in_ok-push_line_if.ensures
    ∙ ap (λ l. l ++ line_if (c.args.status == 405) (codes "Allow: POST")) c.in_ok-head.ensures))))

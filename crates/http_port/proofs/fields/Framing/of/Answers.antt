use Rattle.std.proofs.Common.{◌∙◌, map, min, ap}
use Rattle.httparse.specs.Spans.{header_bytes}
use Rattle.http_port.proofs.KnownLemmas.{one_stated, framing_of_known}
use Rattle.http_port.proofs.fields.Framing.of.Goals as goal

pub returns-in-Value : goal.returns-in-Value
returns-in-Value c =
    let headers = map (header_bytes c.args.head.now) c.args.fields.now in
    ap one_stated (c.min.ensures ∙ ap (min c.in-Value.number) c.from.ensures)
    ∙ framing_of_known c.args.known headers c.in-Value.number c.requires.known c.in-Value.is c.if-known-eq1.true

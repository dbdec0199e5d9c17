use Rattle.std.proofs.Common.{◌≤◌, ◌++◌, length, take, ap, ◌∙◌}
use Rattle.std.proofs.lemmas.List.{length-take-le, take-append-le}
use Rattle.http_link.proofs.inbox.Inbox.fill.Goals as goal

pub returns-in-Ok-clause-read : goal.returns-in-Ok-clause-read
returns-in-Ok-clause-read g c =
    let count = c.in-Ok.count in
    let into = c.read_some.new.into in
    let fits : count ≤ length into = c.in-Ok.ensures.bound.0 in (
      take count into,
      length-take-le count into fits,
      c.keep.ensures ∙ ap (λ l. c.args.self.now ++ l) (take-append-le count into _ fits),
      c.in-Ok.ensures.given,
      c.in-Ok.ensures.calls,
    )

-- What was given is waited for, held, or has a text go out.
use Rattle.std.proofs.Common.{refl, subst, ap}
use Rattle.http_connection.specs.Steps.{IsFed}
use Rattle.conn_future.specs.Talking.{Seen, plain}
use Rattle.conn_future.specs.Steps.{unmade}
use Rattle.conn_future.proofs.Standing.{waits_now, holds_now, fed_spent}
use Rattle.conn_future.proofs.Writing.{invites, refuses}
use Rattle.conn_future.proofs.turn.take_up.Goals as goal

pub returns-in-NotYet-clause-talks : goal.returns-in-NotYet-clause-talks
returns-in-NotYet-clause-talks c = λ first line bodies texts f.
    let was : Seen = record { kept = c.args.kept.now; line = line } in
    let now : Seen = record { kept = c.stand.new.self; line = line } in
    waits_now first was now bodies texts (subst (λ x. IsFed first (plain was) x bodies texts) c.in-NotYet.is f) c.stand.ensures.same refl c.stand.ensures.next

pub returns-in_err-text-in-Interim-clause-talks : goal.returns-in_err-text-in-Interim-clause-talks
returns-in_err-text-in-Interim-clause-talks c = λ first line bodies texts f.
    fed_spent first (record { kept = c.args.kept.now; line = line }) c.args.fed bodies texts f c.requires

pub returns-in_ok-text-in-Interim-clause-talks : goal.returns-in_ok-text-in-Interim-clause-talks
returns-in_ok-text-in-Interim-clause-talks c = λ first line bodies texts f.
    let was : Seen = record { kept = c.args.kept.now; line = line } in
    let now : Seen = record { kept = c.send.new.self; line = line } in
    invites first was now _ bodies texts (subst (λ x. IsFed first (plain was) x bodies texts) c.in-Interim.is f) c.send.ensures.same refl c.send.ensures.due
    c.in_ok-text-in-Interim.ensures c.send.ensures.next

pub returns-in-Request-clause-talks : goal.returns-in-Request-clause-talks
returns-in-Request-clause-talks c = λ first line bodies texts f.
    let was : Seen = record { kept = c.args.kept.now; line = line } in
    let now : Seen = record { kept = c.stand-in-Request.new.self; line = line } in
    holds_now first was now c.in-Request.body c.in-Request.close bodies texts (subst (λ x. IsFed first (plain was) x bodies texts) c.in-Request.is f)
    c.stand-in-Request.ensures.same refl c.stand-in-Request.ensures.next

pub returns-in_err-text-in-Refused-clause-talks : goal.returns-in_err-text-in-Refused-clause-talks
returns-in_err-text-in-Refused-clause-talks c = λ first line bodies texts f.
    fed_spent first (record { kept = c.args.kept.now; line = line }) c.args.fed bodies texts f c.requires

pub returns-in_ok-text-in-Refused-clause-talks : goal.returns-in_ok-text-in-Refused-clause-talks
returns-in_ok-text-in-Refused-clause-talks c = λ first line bodies texts f.
    let was : Seen = record { kept = c.args.kept.now; line = line } in
    let now : Seen = record { kept = c.send-in-Refused.new.self; line = line } in
    refuses first was now c.in-Refused.status _ bodies texts (subst (λ x. IsFed first (plain was) x bodies texts) c.in-Refused.is f)
    c.send-in-Refused.ensures.same refl c.send-in-Refused.ensures.due c.in_ok-text-in-Refused.ensures c.send-in-Refused.ensures.next

pub returns-in-NotYet-clause-made : goal.returns-in-NotYet-clause-made
returns-in-NotYet-clause-made c = ap unmade c.stand.ensures.next

pub returns-in_err-text-in-Interim-clause-made : goal.returns-in_err-text-in-Interim-clause-made
returns-in_err-text-in-Interim-clause-made c = ap unmade c.requires

pub returns-in_ok-text-in-Interim-clause-made : goal.returns-in_ok-text-in-Interim-clause-made
returns-in_ok-text-in-Interim-clause-made c = ap unmade c.send.ensures.next

pub returns-in-Request-clause-made : goal.returns-in-Request-clause-made
returns-in-Request-clause-made c = ap unmade c.stand-in-Request.ensures.next

pub returns-in_err-text-in-Refused-clause-made : goal.returns-in_err-text-in-Refused-clause-made
returns-in_err-text-in-Refused-clause-made c = ap unmade c.requires

pub returns-in_ok-text-in-Refused-clause-made : goal.returns-in_ok-text-in-Refused-clause-made
returns-in_ok-text-in-Refused-clause-made c = ap unmade c.send-in-Refused.ensures.next

-- What the reader gives is taken up.
use Rattle.std.proofs.Common.{refl, ◌∙◌, ap}
use Rattle.http_connection.proofs.Passing.{fed_now}
use Rattle.conn_future.specs.Talking.{Seen, plain}
use Rattle.conn_future.specs.Steps.{unmade}
use Rattle.conn_future.proofs.Standing.{going_spent}
use Rattle.conn_future.proofs.turn.go_on.Goals as goal

pub returns-in_err-fed-clause-talks : goal.returns-in_err-fed-clause-talks
returns-in_err-fed-clause-talks c = λ first line bodies texts h.
    let was : Seen = record { kept = c.args.kept.now; line = line } in
    let now : Seen = record { kept = c.feed.new.self; line = line } in
    going_spent first was now c.args.piece.now bodies texts h
    (record { line = refl; read = c.in_err-fed.ensures.read; written = c.in_err-fed.ensures.written }) (c.in_err-fed.ensures.next ∙ c.requires)

pub returns-clause-talks : goal.returns-clause-talks
returns-clause-talks c = λ first line bodies texts h.
    let was : Seen = record { kept = c.args.kept.now; line = line } in
    let now : Seen = record { kept = c.feed.new.self; line = line } in
    c.take_up.ensures.talks first line bodies texts
    (fed_now first (plain was) (plain now) c.args.piece.now
    c.in_ok-fed.fed bodies texts h
    (record { line = refl; read = c.in_ok-fed.ensures.read; written = c.in_ok-fed.ensures.written }) c.in_ok-fed.ensures.gives)

pub returns-in_err-fed-clause-made : goal.returns-in_err-fed-clause-made
returns-in_err-fed-clause-made c = ap unmade (c.in_err-fed.ensures.next ∙ c.requires)

pub returns-clause-made : goal.returns-clause-made
returns-clause-made c = c.take_up.ensures.made

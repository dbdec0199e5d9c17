-- What is heard of a trip, by the bytes that came back or its failure.
use Rattle.std.proofs.Common.{◌≡◌, ◌∙◌, subst, IfOk, Some}
use Rattle.behaviour_tree.specs.PartsView.{parts_of}
use Rattle.outside_links.specs.Trips.{there_alone, there_and_back}
use Rattle.jsonrpc_calls.specs.Heard.{heard}
use Rattle.run_sweep.proofs.Heard.{counted_alone, heard_of}
use Rattle.run_sweep.proofs.elsewhere.trip.Goals as goal

pub returns-in-Ok : goal.returns-in-Ok
returns-in-Ok g c =
    heard_of (parts_of c.args.program.now) c.args.out.now (g.L.Link.told c.args.link.now)
    (g.L.Link.told c.trip.new.self)
    (there_and_back c.location_called-location.result.now c.as_bytes.result.now c.in-Ok.bytes.items)
    c.outcome_heard.result c.location_called-location.ensures
    (c.as_bytes.ensures.value ∙ c.as_str.ensures ∙ c.in_ok-text.ensures)
    c.in-Ok.ensures.back
    c.in-Ok.ensures.faults
    (subst (λ b. IfOk c.outcome_heard.result (λ o. o ≡ heard c.args.out.now (Some b))) c.as_slice.ensures.value
    c.outcome_heard.ensures)

pub returns-in-Err-Failed : goal.returns-in-Err-Failed
returns-in-Err-Failed g c =
    heard_of (parts_of c.args.program.now) c.args.out.now (g.L.Link.told c.args.link.now)
    (g.L.Link.told c.trip.new.self)
    (there_alone c.location_called-location.result.now c.as_bytes.result.now)
    c.nothing_heard.result c.location_called-location.ensures
    (c.as_bytes.ensures.value ∙ c.as_str.ensures ∙ c.in_ok-text.ensures)
    (c.trip.ensures.alone (cc))
    (counted_alone c.trip.result (g.L.Link.told c.args.link.now).faults (g.L.Link.told c.trip.new.self).faults
    c.location_called-location.result.now c.as_bytes.result.now (cc) c.trip.ensures.faults)
    c.nothing_heard.ensures

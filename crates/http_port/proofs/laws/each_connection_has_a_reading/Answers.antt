use Rattle.std.proofs.Common.{◌-◌, ◌≤◌, length, drop, subst, sym, arith}
use Rattle.std.proofs.Math.Logic.{∥∥₁_map}
use Rattle.std.proofs.lemmas.List.{drop-drop, length-drop, take_rest}
use Rattle.http_port.specs.Connections.{Reading}
use Rattle.http_port.specs.Walks.{LeadsOn}
use Rattle.http_port.proofs.laws.each_connection_has_a_reading.Goals as goal

pub loop-length-preserved : goal.loop-length-preserved
loop-length-preserved c =
    let bytes = c.args.bytes.now in
    let at = c.loop-length.at in
    let count = c.in-Some.length in
    let on : LeadsOn (drop at bytes) count = subst (λ l. LeadsOn l count) (take_rest bytes at) c.in-Some.ensures.some in
    let fits : count ≤ length bytes - at = subst (λ k. count ≤ k) (length-drop at bytes) on.within in
    record {
      within = omega arith;
      leads = λ r. c.loop-length.invariant.leads (∥∥₁_map r (λ x. on.leads (subst Reading (sym (drop-drop count at bytes)) x)));
    }

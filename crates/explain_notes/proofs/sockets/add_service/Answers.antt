use Rattle.std.proofs.Common.{arith, ap, ◌∙◌, ◌++◌, flat_map}
use Rattle.explain_notes.specs.Services.{socket_in}
use Rattle.explain_notes.proofs.Turns.{all_of, turn_of}
use Rattle.explain_notes.proofs.sockets.add_service.Goals as goal

pub loop-clause-preserved : goal.loop-clause-preserved
loop-clause-preserved c =
    turn_of socket_in _ _ _ _ _ _ c.loop-clause-test.true c.clause-item.is c.loop-clause.invariant c.in_ok-add_clause.ensures

pub returns : goal.returns
returns c =
    all_of socket_in c.args.names.now c.loop-clause.names c.as_slice-clause-items.result.now c.loop-clause.clause-index (omega arith) c.loop-clause.invariant
    ∙ ap (λ clauses. c.args.names.now ++ flat_map socket_in clauses) c.as_slice-clause-items.ensures

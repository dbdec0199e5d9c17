use Rattle.std.proofs.Common.{[], arith, ap, ◌∙◌, flat_map}
use Rattle.std.proofs.lemmas.List.{take_all}
use Rattle.explain_notes.specs.Services.{clause_mentions}
use Rattle.explain_notes.proofs.Lists.{turn_of}
use Rattle.explain_notes.proofs.services.mentions_of.Goals as goal

pub loop-clause-preserved : goal.loop-clause-preserved
loop-clause-preserved c =
    turn_of clause_mentions [] _ _ _ _ _ c.loop-clause-test.true c.clause-item.is c.loop-clause.invariant c.in_ok-clause.ensures

pub returns : goal.returns
returns c =
    c.loop-clause.invariant
    ∙ ap (flat_map clause_mentions) (take_all c.loop-clause.clause-index c.as_slice-clause-items.result.now (omega arith))
    ∙ ap (flat_map clause_mentions) c.as_slice-clause-items.ensures

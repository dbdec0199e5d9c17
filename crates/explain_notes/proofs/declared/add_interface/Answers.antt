use Rattle.std.proofs.Common.{arith, ap, ◌∙◌, ◌++◌, flat_map, sym}
use Rattle.check_base.specs.Files.{Operation, group_operations}
use Rattle.check_base.proofs.Loops.{each_of_each}
use Rattle.explain_notes.specs.Notes.{fault_names, faults_of}
use Rattle.explain_notes.proofs.Turns.{all_of, turn_of}
use Rattle.explain_notes.proofs.declared.add_interface.Goals as goal

pub loop-group-preserved : goal.loop-group-preserved
loop-group-preserved c =
    turn_of (λ g. faults_of (group_operations g)) _ _ _ _ _ _ c.loop-group-test.true c.group-item.is c.loop-group.invariant c.in_ok-add_group.ensures

pub returns : goal.returns
returns c =
    all_of (λ g. faults_of (group_operations g)) c.args.names.now c.loop-group.names c.as_slice-group-items.result.now c.loop-group.group-index (omega arith) c.loop-group.invariant
    ∙ ap (λ gs. c.args.names.now ++ flat_map (λ g. faults_of (group_operations g)) gs) c.as_slice-group-items.ensures
    ∙ ap (λ ns. c.args.names.now ++ ns) (sym (each_of_each (λ (o : Operation). fault_names o.throws) group_operations c.args.interface.now.groups))

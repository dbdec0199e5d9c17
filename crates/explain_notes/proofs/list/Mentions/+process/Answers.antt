use Rattle.std.proofs.Common.{ap, ◌∙◌}
use Rattle.explain_notes.specs.Parts.{branch_mentions, handler_mentions, otherwise_mentions, process_mentions}
use Rattle.explain_notes.specs.Statements.{if_written}
use Rattle.explain_notes.proofs.Lists.{nothing_added, turn_of}
use Rattle.explain_notes.proofs.ProcessForms.{block_is, inner_handler_is, no_else_is, nothing_is}
use Rattle.explain_notes.proofs.list.Mentions.+process.Goals as goal

pub process-returns-in-Nothing : goal.process-returns-in-Nothing
process-returns-in-Nothing t c = nothing_added _ _ (ap process_mentions c.in-Nothing.is ∙ nothing_is _)

pub process-returns-in-InnerHandler : goal.process-returns-in-InnerHandler
process-returns-in-InnerHandler t c =
    nothing_added _ _ (ap process_mentions c.in-InnerHandler.is ∙ inner_handler_is _)

pub block-returns-in-None : goal.block-returns-in-None
block-returns-in-None t c =
    nothing_added _ _ (block_is c.args.block.now ∙ ap (λ p. if_written process_mentions p) c.in-None.is)

pub otherwise-returns-in-Nothing : goal.otherwise-returns-in-Nothing
otherwise-returns-in-Nothing t c = nothing_added _ _ (ap otherwise_mentions c.in-Nothing.is ∙ no_else_is)

pub processes-loop-process-preserved : goal.processes-loop-process-preserved
processes-loop-process-preserved t c =
    turn_of process_mentions _ _ _ _ _ _ c.loop-process-test.true c.process-item.is c.loop-process.invariant c.in_ok-process.ensures

pub branches-loop-branch-preserved : goal.branches-loop-branch-preserved
branches-loop-branch-preserved t c =
    turn_of branch_mentions _ _ _ _ _ _ c.loop-branch-test.true c.branch-item.is c.loop-branch.invariant c.in_ok-branch.ensures

pub handlers-loop-handler-preserved : goal.handlers-loop-handler-preserved
handlers-loop-handler-preserved t c =
    turn_of handler_mentions _ _ _ _ _ _ c.loop-handler-test.true c.handler-item.is c.loop-handler.invariant c.in_ok-handler.ensures

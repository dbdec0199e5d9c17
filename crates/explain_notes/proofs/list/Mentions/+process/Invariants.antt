use Rattle.std.proofs.Common.{◌≡◌, ◌++◌, take, flat_map}
use Rattle.explain_notes.specs.Parts.{process_mentions, branch_mentions, handler_mentions}
use Rattle.explain_notes.proofs.list.Mentions.+process.Given as goal

abbrev pub invariant-processes-loop-process : goal.invariant-processes-loop-process
invariant-processes-loop-process l = l.self ≡ l.initial.self ++ flat_map process_mentions (take l.process-index l.processes)

abbrev pub invariant-branches-loop-branch : goal.invariant-branches-loop-branch
invariant-branches-loop-branch l = l.self ≡ l.initial.self ++ flat_map branch_mentions (take l.branch-index l.branches)

abbrev pub invariant-handlers-loop-handler : goal.invariant-handlers-loop-handler
invariant-handlers-loop-handler l = l.self ≡ l.initial.self ++ flat_map handler_mentions (take l.handler-index l.handlers)

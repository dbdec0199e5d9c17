use Rattle.std.proofs.Common.{◌≡◌, ◌∷◌, take, flat_map, codes}
use Rattle.jolie_ast.specs.Spacing.{after}
use Rattle.jolie_ast.specs.PrintedProcesses.{process_tokens, branch_tokens, handler_tokens}
use Rattle.jolie_ast.proofs.printer.Printer.+process.Given as goal

abbrev pub invariant-processes-loop-process : goal.invariant-processes-loop-process
invariant-processes-loop-process l = l.self ≡ after l.initial.self (flat_map (λ p. l.sign ∷ process_tokens p) (take l.process-index l.rest))

abbrev pub invariant-branches-loop-branch : goal.invariant-branches-loop-branch
invariant-branches-loop-branch l = l.self ≡ after l.initial.self (flat_map branch_tokens (take l.branch-index l.branches))

abbrev pub invariant-handlers-loop-handler : goal.invariant-handlers-loop-handler
invariant-handlers-loop-handler l = l.self ≡ after l.initial.self (flat_map (λ h. codes "," ∷ handler_tokens h) (take l.handler-index l.rest))

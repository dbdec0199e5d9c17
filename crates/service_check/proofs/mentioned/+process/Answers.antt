use Rattle.std.proofs.Common.{arith, ap, sym}
use Rattle.service_check.specs.Mentioned.{branch_texts, handler_texts, process_texts}
use Rattle.check_base.specs.Repeated.{with_texts}
use Rattle.service_check.proofs.Mentions.{naming_turn, empty_block, full_block, bare_input, answered_input, bare_answer, handled_answer}
use Rattle.service_check.proofs.mentioned.+process.Goals as goal

pub processes_names-loop-process-preserved : goal.processes_names-loop-process-preserved
processes_names-loop-process-preserved t c =
    naming_turn process_texts c.args.names.now c.loop-process.names c.process_names.new.names c.args.processes.now c.loop-process.process-index c.process-item.result c.loop-process-test.true c.process-item.is c.loop-process.invariant c.in_ok-process_names.ensures

pub branches_names-loop-branch-preserved : goal.branches_names-loop-branch-preserved
branches_names-loop-branch-preserved t c =
    naming_turn branch_texts c.args.names.now c.loop-branch.names c.branch_names.new.names c.args.branches.now c.loop-branch.branch-index c.branch-item.result c.loop-branch-test.true c.branch-item.is c.loop-branch.invariant c.in_ok-branch_names.ensures

pub handlers_names-loop-handler-preserved : goal.handlers_names-loop-handler-preserved
handlers_names-loop-handler-preserved t c =
    naming_turn handler_texts c.args.names.now c.loop-handler.names c.handler_names.new.names c.args.handlers.now c.loop-handler.handler-index c.handler-item.result c.loop-handler-test.true c.handler-item.is c.loop-handler.invariant c.in_ok-handler_names.ensures

pub block_names-returns-in-Some : goal.block_names-returns-in-Some
block_names-returns-in-Some t c = grind (arith, full_block c.args.block.now c.in-Some.body c.in-Some.is)

pub block_names-returns-in-None : goal.block_names-returns-in-None
block_names-returns-in-None t c = ap (with_texts c.args.names.now) (sym (empty_block c.args.block.now c.in-None.is))

pub input_names-returns-in-Some : goal.input_names-returns-in-Some
input_names-returns-in-Some t c = grind (arith, answered_input c.args.input.now c.in-Some.reply c.in-Some.is)

pub input_names-returns-in-None : goal.input_names-returns-in-None
input_names-returns-in-None t c = ap (with_texts c.args.names.now) (sym (bare_input c.args.input.now c.in-None.is))

pub awaited_names-returns-in-Some : goal.awaited_names-returns-in-Some
awaited_names-returns-in-Some t c = grind (arith, handled_answer c.args.answer.now c.in-Some.handlers c.in-Some.is)

pub awaited_names-returns-in-None : goal.awaited_names-returns-in-None
awaited_names-returns-in-None t c = ap (with_texts c.args.names.now) (sym (bare_answer c.args.answer.now c.in-None.is))

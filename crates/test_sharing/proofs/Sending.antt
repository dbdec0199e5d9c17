-- Callers, and a queue of what they have seen, may be shared among threads.
use denote.RattleType.{RattleType}
use denote.Param.Send.{IsSend, IsSync, sendable}
use Rattle.std.proofs.Crossing.{crosses}
use Rattle.std.specs.contracts.alloc.Global as Heap
use Rattle.std.specs.contracts.impls.GlobalAllocator.TheImpl.{ghosts}
use Rattle.crossbeam_queue.proofs.array_queue.plain.ArrayQueue.TheSendSync as sent
use Rattle.crossbeam_queue.specs.contracts.array_queue.plain.ArrayQueue as queue
use Rattle.office_sharing.specs.declared.naming.Naming.{Ghosts}
use Rattle.office_turn.proofs.Sending.{pass_send}
use Rattle.test_sharing.specs.contracts.caller.Caller as caller
use Rattle.test_sharing.specs.contracts.caller.Copied as copied

pub caller_send : (N : RattleType) (g : Ghosts N.Denot) → IsSend (caller.the_row N g)
caller_send N g = search (sendable, pass_send) depth 20 fits 20000

copied_send : (N : RattleType) (g : Ghosts N.Denot) → IsSend (copied.the_row N g)
copied_send N g = search (sendable, pass_send) depth 20 fits 20000

pub queue_sync : (N : RattleType) (g : Ghosts N.Denot) → IsSync (queue.the_row (copied.the_row N g) Heap.the_row ghosts)
queue_sync N g = search (sendable, crosses, sent.the_sync, copied_send) depth 20 fits 20000

use Rattle.std.proofs.Common.{◌+◌, ◌-◌}
use Rattle.std.specs.Vec.{vec_len}
use Rattle.run_cells.specs.News.{Keeps}
use Rattle.run_cells.proofs.news.reach.Given as goal

abbrev pub invariant-loop-senders : goal.invariant-loop-senders
invariant-loop-senders l = Keeps l.initial.senders.items l.senders.items

abbrev pub decreases-loop-senders : goal.decreases-loop-senders
decreases-loop-senders l = l.session + 1 - vec_len l.senders

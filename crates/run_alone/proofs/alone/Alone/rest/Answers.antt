-- What is left to do is done, or nothing.
use Rattle.std.proofs.Common.{sym, ◌∙◌}
use Rattle.run_alone.proofs.Rests.{mutes_by, quiet_not, quiet_swept, rested_unfailed, rested_not, was_unfailed}
use Rattle.run_alone.proofs.Taking.{between_received}
use Rattle.run_alone.proofs.alone.Alone.rest.Goals as goal

pub sweep-requires-clause-received : goal.sweep-requires-clause-received
sweep-requires-clause-received g c =
    between_received (was_unfailed c.args.unfailed c.halted-halted.result (sym c.is_stopped-stopped.ensures ∙ c.if-stopped.false))
    c.requires.between

pub returns-then-stopped-clause-rested : goal.returns-then-stopped-clause-rested
returns-then-stopped-clause-rested g c = rested_not _ c.requires.between.settled

pub returns-then-stopped-clause-completed : goal.returns-then-stopped-clause-completed
returns-then-stopped-clause-completed g c = λ first completed. completed

pub returns-then-stopped-clause-noted : goal.returns-then-stopped-clause-noted
returns-then-stopped-clause-noted g c =
    λ parts first before so closed.
    quiet_not _ before c.requires.between so closed (c.halted-halted.ensures parts first before so)
    (sym c.is_stopped-stopped.ensures ∙ c.if-stopped.true)

pub returns-clause-rested : goal.returns-clause-rested
returns-clause-rested g c =
    rested_unfailed (was_unfailed c.args.unfailed c.halted-halted.result (sym c.is_stopped-stopped.ensures ∙ c.if-stopped.false))
    c.in_ok-sweep.ensures.swept c.in_ok-sweep.ensures.still

pub returns-clause-noted : goal.returns-clause-noted
returns-clause-noted g c =
    λ parts first before so closed.
    quiet_swept _ _ before c.in_ok-sweep.ensures.swept.setting
    (c.in_ok-sweep.ensures.noted parts first before so
    (mutes_by closed (c.halted-halted.ensures parts first before so) (sym c.is_stopped-stopped.ensures ∙ c.if-stopped.false)))
    c.in_ok-sweep.ensures.quiet
    (λ stopped now is. c.in_ok-sweep.ensures.halted stopped parts first now is)

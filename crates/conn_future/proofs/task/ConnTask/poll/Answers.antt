-- Turn by turn, until one goes on no more.
use Rattle.std.proofs.Common.{inl, inr, refl, ap, ◌∙◌, subst}
use Rattle.outside_polling.specs.Polls.{once_more}
use Rattle.conn_future.specs.Stages.{stage_of, IsMoving}
use Rattle.conn_future.specs.Talking.{seen}
use Rattle.conn_future.proofs.Turning.{nothing_called, calls_on, prompt_on, rests_on, row_on, row_once, rows_kept, holds_on, unrested, spent_unmoving}
use Rattle.conn_future.proofs.task.ConnTask.poll.Goals as goal

pub loop-init : goal.loop-init
loop-init g c =
    let was = seen c.args.self.now.kept (g.W.PollWire.told c.args.self.now.wire) in
    record {
      talks = λ first bodies texts h. h;
      called = λ first bodies texts h. nothing_called was was bodies texts (record { reader = refl; read = refl; written = refl }) refl;
      waits = refl;
      rests = λ _. (refl, refl);
      owes = λ e. e;
      row = inl (refl, refl);
      longest = rows_kept _ _ _ _ (record { row = refl; longest = refl }) (λ a. a);
    }

pub loop-preserved : goal.loop-preserved
loop-preserved g c =
    let was = seen c.args.self.now.kept (g.W.PollWire.told c.args.self.now.wire) in
    let mid = seen c.loop.self.kept (g.W.PollWire.told c.loop.self.wire) in
    let now = seen c.take_turn.new.kept (g.W.PollWire.told c.take_turn.new.wire) in
    record {
      talks = λ first bodies texts h. c.in-Ok-GoesOn.ensures.talks first bodies texts (c.loop.invariant.talks first bodies texts h);
      called = calls_on was mid now c.loop.invariant.talks c.loop.invariant.called c.in-Ok-GoesOn.ensures.called;
      waits = (rw c.in-Ok-GoesOn.field-0-is at c.in-Ok-GoesOn.ensures.stops) ∙ c.loop.invariant.waits;
      rests = rests_on _ c.loop.self.kept c.take_turn.new.kept _ c.loop.self.wire c.take_turn.new.wire c.loop.invariant.rests c.in-Ok-GoesOn.ensures.rests;
      owes = λ e. c.loop.invariant.owes (c.in-Ok-GoesOn.ensures.owes e);
      row = row_on _ _ _ c.args.self.now.kept c.loop.self.kept c.take_turn.new.kept c.loop.invariant.row (rw c.in-Ok-GoesOn.field-0-is at c.in-Ok-GoesOn.ensures.row);
      longest = holds_on _ _ _ _ _ _ c.loop.invariant.longest c.in-Ok-GoesOn.ensures.longest;
    }

pub loop-smaller : goal.loop-smaller
loop-smaller g c = rw c.in-Ok-GoesOn.field-0-is at c.in-Ok-GoesOn.ensures.less

pub returns-in-Ok-Waits-clause-talks : goal.returns-in-Ok-Waits-clause-talks
returns-in-Ok-Waits-clause-talks g c = λ first bodies texts h. c.in-Ok-Waits.ensures.talks first bodies texts (c.loop.invariant.talks first bodies texts h)

pub returns-in-Ok-Owes-clause-talks : goal.returns-in-Ok-Owes-clause-talks
returns-in-Ok-Owes-clause-talks g c = λ first bodies texts h. c.in-Ok-Owes.ensures.talks first bodies texts (c.loop.invariant.talks first bodies texts h)

pub returns-in-Ok-Over-clause-talks : goal.returns-in-Ok-Over-clause-talks
returns-in-Ok-Over-clause-talks g c = λ first bodies texts h. c.in-Ok-Over.ensures.talks first bodies texts (c.loop.invariant.talks first bodies texts h)

pub returns-in-Err-clause-talks : goal.returns-in-Err-clause-talks
returns-in-Err-clause-talks g c = λ first bodies texts h. c.in-Err.ensures.talks first bodies texts (c.loop.invariant.talks first bodies texts h)

pub returns-in-Ok-Waits-clause-prompt : goal.returns-in-Ok-Waits-clause-prompt
returns-in-Ok-Waits-clause-prompt g c =
    prompt_on (seen c.args.self.now.kept (g.W.PollWire.told c.args.self.now.wire)) (seen c.loop.self.kept (g.W.PollWire.told c.loop.self.wire))
    (seen c.take_turn.new.kept (g.W.PollWire.told c.take_turn.new.wire)) c.loop.invariant.talks c.loop.invariant.called c.in-Ok-Waits.ensures.called

pub returns-in-Ok-Owes-clause-prompt : goal.returns-in-Ok-Owes-clause-prompt
returns-in-Ok-Owes-clause-prompt g c =
    prompt_on (seen c.args.self.now.kept (g.W.PollWire.told c.args.self.now.wire)) (seen c.loop.self.kept (g.W.PollWire.told c.loop.self.wire))
    (seen c.take_turn.new.kept (g.W.PollWire.told c.take_turn.new.wire)) c.loop.invariant.talks c.loop.invariant.called c.in-Ok-Owes.ensures.called

pub returns-in-Ok-Over-clause-prompt : goal.returns-in-Ok-Over-clause-prompt
returns-in-Ok-Over-clause-prompt g c =
    prompt_on (seen c.args.self.now.kept (g.W.PollWire.told c.args.self.now.wire)) (seen c.loop.self.kept (g.W.PollWire.told c.loop.self.wire))
    (seen c.take_turn.new.kept (g.W.PollWire.told c.take_turn.new.wire)) c.loop.invariant.talks c.loop.invariant.called c.in-Ok-Over.ensures.called

pub returns-in-Err-clause-prompt : goal.returns-in-Err-clause-prompt
returns-in-Err-clause-prompt g c =
    prompt_on (seen c.args.self.now.kept (g.W.PollWire.told c.args.self.now.wire)) (seen c.loop.self.kept (g.W.PollWire.told c.loop.self.wire))
    (seen c.take_turn.new.kept (g.W.PollWire.told c.take_turn.new.wire)) c.loop.invariant.talks c.loop.invariant.called c.in-Err.ensures.called

pub returns-in-Ok-Waits-clause-ends : goal.returns-in-Ok-Waits-clause-ends
returns-in-Ok-Waits-clause-ends g c =
    let stops = rw c.in-Ok-Waits.field-0-is at c.in-Ok-Waits.ensures.stops in
    inl (stops.0 ∙ ap once_more c.loop.invariant.waits, stops.1)

pub returns-in-Ok-Owes-clause-ends : goal.returns-in-Ok-Owes-clause-ends
returns-in-Ok-Owes-clause-ends g c =
    let stops = rw c.in-Ok-Owes.field-0-is at c.in-Ok-Owes.ensures.stops in
    inr (stops.0 ∙ c.loop.invariant.waits, stops.1)

pub returns-in-Ok-Over-clause-ends : goal.returns-in-Ok-Over-clause-ends
returns-in-Ok-Over-clause-ends g c =
    let stops = rw c.in-Ok-Over.field-0-is at c.in-Ok-Over.ensures.stops in
    (stops.0 ∙ c.loop.invariant.waits, stops.1)

pub returns-in-Err-clause-ends : goal.returns-in-Err-clause-ends
returns-in-Err-clause-ends g c = (c.in-Err.ensures.spent.0 ∙ c.loop.invariant.waits, ap stage_of c.in-Err.ensures.spent.1)

pub returns-in-Ok-Waits-clause-rests : goal.returns-in-Ok-Waits-clause-rests
returns-in-Ok-Waits-clause-rests g c =
    rests_on _ c.loop.self.kept c.take_turn.new.kept _ c.loop.self.wire c.take_turn.new.wire c.loop.invariant.rests c.in-Ok-Waits.ensures.rests

pub returns-in-Ok-Owes-clause-rests : goal.returns-in-Ok-Owes-clause-rests
returns-in-Ok-Owes-clause-rests g c =
    rests_on _ c.loop.self.kept c.take_turn.new.kept _ c.loop.self.wire c.take_turn.new.wire c.loop.invariant.rests c.in-Ok-Owes.ensures.rests

pub returns-in-Ok-Over-clause-rests : goal.returns-in-Ok-Over-clause-rests
returns-in-Ok-Over-clause-rests g c =
    rests_on _ c.loop.self.kept c.take_turn.new.kept _ c.loop.self.wire c.take_turn.new.wire c.loop.invariant.rests c.in-Ok-Over.ensures.rests

pub returns-in-Err-clause-rests : goal.returns-in-Err-clause-rests
returns-in-Err-clause-rests g c =
    rests_on _ c.loop.self.kept c.take_turn.new.kept _ c.loop.self.wire c.take_turn.new.wire c.loop.invariant.rests c.in-Err.ensures.rests

pub returns-in-Ok-Waits-clause-owes : goal.returns-in-Ok-Waits-clause-owes
returns-in-Ok-Waits-clause-owes g c = λ e. c.loop.invariant.owes (c.in-Ok-Waits.ensures.owes e)

pub returns-in-Ok-Owes-clause-owes : goal.returns-in-Ok-Owes-clause-owes
returns-in-Ok-Owes-clause-owes g c = λ e. c.loop.invariant.owes (c.in-Ok-Owes.ensures.owes e)

pub returns-in-Ok-Over-clause-owes : goal.returns-in-Ok-Over-clause-owes
returns-in-Ok-Over-clause-owes g c = λ e. c.loop.invariant.owes (c.in-Ok-Over.ensures.owes e)

pub returns-in-Err-clause-owes : goal.returns-in-Err-clause-owes
returns-in-Err-clause-owes g c = λ e. c.loop.invariant.owes (c.in-Err.ensures.owes e)

pub returns-in-Ok-Waits-clause-row : goal.returns-in-Ok-Waits-clause-row
returns-in-Ok-Waits-clause-row g c = λ moving read written.
    row_once _ _ _ c.args.self.now.kept c.loop.self.kept c.take_turn.new.kept c.loop.invariant.row (rw c.in-Ok-Waits.field-0-is at c.in-Ok-Waits.ensures.row) read written

pub returns-in-Ok-Owes-clause-row : goal.returns-in-Ok-Owes-clause-row
returns-in-Ok-Owes-clause-row g c = λ moving read written.
    absurd (unrested _ moving (inl (rw c.in-Ok-Owes.field-0-is at c.in-Ok-Owes.ensures.stops).1))

pub returns-in-Ok-Over-clause-row : goal.returns-in-Ok-Over-clause-row
returns-in-Ok-Over-clause-row g c = λ moving read written.
    absurd (unrested _ moving (inr (rw c.in-Ok-Over.field-0-is at c.in-Ok-Over.ensures.stops).1))

pub returns-in-Err-clause-row : goal.returns-in-Err-clause-row
returns-in-Err-clause-row g c = λ moving read written.
    absurd (spent_unmoving (subst (λ n. IsMoving (stage_of n)) c.in-Err.ensures.spent.1 moving))

pub returns-in-Ok-Waits-clause-longest : goal.returns-in-Ok-Waits-clause-longest
returns-in-Ok-Waits-clause-longest g c = (holds_on _ _ _ _ _ _ c.loop.invariant.longest c.in-Ok-Waits.ensures.longest).later

pub returns-in-Ok-Waits-clause-within : goal.returns-in-Ok-Waits-clause-within
returns-in-Ok-Waits-clause-within g c = (holds_on _ _ _ _ _ _ c.loop.invariant.longest c.in-Ok-Waits.ensures.longest).holds

pub returns-in-Ok-Owes-clause-longest : goal.returns-in-Ok-Owes-clause-longest
returns-in-Ok-Owes-clause-longest g c = (holds_on _ _ _ _ _ _ c.loop.invariant.longest c.in-Ok-Owes.ensures.longest).later

pub returns-in-Ok-Owes-clause-within : goal.returns-in-Ok-Owes-clause-within
returns-in-Ok-Owes-clause-within g c = (holds_on _ _ _ _ _ _ c.loop.invariant.longest c.in-Ok-Owes.ensures.longest).holds

pub returns-in-Ok-Over-clause-longest : goal.returns-in-Ok-Over-clause-longest
returns-in-Ok-Over-clause-longest g c = (holds_on _ _ _ _ _ _ c.loop.invariant.longest c.in-Ok-Over.ensures.longest).later

pub returns-in-Ok-Over-clause-within : goal.returns-in-Ok-Over-clause-within
returns-in-Ok-Over-clause-within g c = (holds_on _ _ _ _ _ _ c.loop.invariant.longest c.in-Ok-Over.ensures.longest).holds

pub returns-in-Err-clause-longest : goal.returns-in-Err-clause-longest
returns-in-Err-clause-longest g c = (holds_on _ _ _ _ _ _ c.loop.invariant.longest c.in-Err.ensures.longest).later

pub returns-in-Err-clause-within : goal.returns-in-Err-clause-within
returns-in-Err-clause-within g c = (holds_on _ _ _ _ _ _ c.loop.invariant.longest c.in-Err.ensures.longest).holds

-- Each turn carries what passed along.
use Rattle.std.proofs.Common.{refl, inl, inr, ap}
use Rattle.conn_future.specs.Stages.{stage_of}
use Rattle.conn_future.specs.Talking.{seen}
use Rattle.conn_future.specs.Steps.{unmade}
use Rattle.conn_future.proofs.Writing.{responds, responds_not}
use Rattle.conn_future.proofs.Turning.{nothing_called, over_stops, made_less, same_passed, rows_kept, unowed, unrested}
use Rattle.conn_future.proofs.turn.take_turn.Goals as goal

pub returns-in-Holds-clause-talks : goal.returns-in-Holds-clause-talks
returns-in-Holds-clause-talks g c = λ first bodies texts h. h

pub returns-in-Owes-clause-talks : goal.returns-in-Owes-clause-talks
returns-in-Owes-clause-talks g c = λ first bodies texts h. h

pub returns-in-Over-clause-talks : goal.returns-in-Over-clause-talks
returns-in-Over-clause-talks g c = λ first bodies texts h. h

pub returns-in-Spent-clause-talks : goal.returns-in-Spent-clause-talks
returns-in-Spent-clause-talks g c = λ first bodies texts h. h

pub returns-in_err-respond-in-Says-clause-talks : goal.returns-in_err-respond-in-Says-clause-talks
returns-in_err-respond-in-Says-clause-talks g c = λ first bodies texts h.
    responds_not first (seen c.args.kept.now (g.W.PollWire.told c.args.wire.now)) (seen c.respond.new.kept (g.W.PollWire.told c.args.wire.now)) _ bodies texts h
    c.in-Says.is c.in_err-respond-in-Says.ensures.made.0 refl c.in_err-respond-in-Says.ensures.made.1

pub returns-in_ok-respond-in-Says-clause-talks : goal.returns-in_ok-respond-in-Says-clause-talks
returns-in_ok-respond-in-Says-clause-talks g c = λ first bodies texts h.
    responds first (seen c.args.kept.now (g.W.PollWire.told c.args.wire.now)) (seen c.respond.new.kept (g.W.PollWire.told c.args.wire.now)) _ bodies texts h
    c.in-Says.is c.in_ok-respond-in-Says.ensures.made.0 refl c.in_ok-respond-in-Says.ensures.made.1 c.in_ok-respond-in-Says.ensures.made.2

pub returns-in-Holds-clause-called : goal.returns-in-Holds-clause-called
returns-in-Holds-clause-called g c = λ first bodies texts h.
    let was = seen c.args.kept.now (g.W.PollWire.told c.args.wire.now) in
    nothing_called was was bodies texts (record { reader = refl; read = refl; written = refl }) refl

pub returns-in-Owes-clause-called : goal.returns-in-Owes-clause-called
returns-in-Owes-clause-called g c = λ first bodies texts h.
    let was = seen c.args.kept.now (g.W.PollWire.told c.args.wire.now) in
    nothing_called was was bodies texts (record { reader = refl; read = refl; written = refl }) refl

pub returns-in-Over-clause-called : goal.returns-in-Over-clause-called
returns-in-Over-clause-called g c = λ first bodies texts h.
    let was = seen c.args.kept.now (g.W.PollWire.told c.args.wire.now) in
    nothing_called was was bodies texts (record { reader = refl; read = refl; written = refl }) refl

pub returns-in-Spent-clause-called : goal.returns-in-Spent-clause-called
returns-in-Spent-clause-called g c = λ first bodies texts h.
    let was = seen c.args.kept.now (g.W.PollWire.told c.args.wire.now) in
    nothing_called was was bodies texts (record { reader = refl; read = refl; written = refl }) refl

pub returns-in_err-respond-in-Says-clause-called : goal.returns-in_err-respond-in-Says-clause-called
returns-in_err-respond-in-Says-clause-called g c = λ first bodies texts h.
    nothing_called (seen c.args.kept.now (g.W.PollWire.told c.args.wire.now)) (seen c.respond.new.kept (g.W.PollWire.told c.args.wire.now)) bodies texts c.in_err-respond-in-Says.ensures.made.0 refl

pub returns-in_ok-respond-in-Says-clause-called : goal.returns-in_ok-respond-in-Says-clause-called
returns-in_ok-respond-in-Says-clause-called g c = λ first bodies texts h.
    nothing_called (seen c.args.kept.now (g.W.PollWire.told c.args.wire.now)) (seen c.respond.new.kept (g.W.PollWire.told c.args.wire.now)) bodies texts c.in_ok-respond-in-Says.ensures.made.0 refl

pub returns-in-Holds-clause-stops : goal.returns-in-Holds-clause-stops
returns-in-Holds-clause-stops g c = (refl, inl (ap stage_of c.in-Holds.is))

pub returns-in-Owes-clause-stops : goal.returns-in-Owes-clause-stops
returns-in-Owes-clause-stops g c = (refl, inr (ap stage_of c.in-Owes.is))

pub returns-in-Over-clause-stops : goal.returns-in-Over-clause-stops
returns-in-Over-clause-stops g c = over_stops _ _ _ c.args.kept.now.next _ refl refl c.in-Over.is

pub returns-in_ok-respond-in-Says-clause-less : goal.returns-in_ok-respond-in-Says-clause-less
returns-in_ok-respond-in-Says-clause-less g c =
    let made = c.in_ok-respond-in-Says.ensures.made in
    made_less c.args.kept.now c.respond.new.kept made.0 (ap unmade c.in-Says.is) (ap unmade made.2)

pub returns-in_ok-respond-in-Says-clause-row : goal.returns-in_ok-respond-in-Says-clause-row
returns-in_ok-respond-in-Says-clause-row g c = inl (refl, same_passed c.args.kept.now c.respond.new.kept c.in_ok-respond-in-Says.ensures.made.0)

pub returns-in-Waits-clause-rests : goal.returns-in-Waits-clause-rests
returns-in-Waits-clause-rests g c = λ r. absurd (unrested _ (inl (ap stage_of c.in-Waits.is)) r)

pub returns-in_ok-respond-in-Says-clause-rests : goal.returns-in_ok-respond-in-Says-clause-rests
returns-in_ok-respond-in-Says-clause-rests g c = λ r. absurd (unrested _ (inr (ap stage_of c.in-Says.is)) r)

pub returns-in_err-respond-in-Says-clause-rests : goal.returns-in_err-respond-in-Says-clause-rests
returns-in_err-respond-in-Says-clause-rests g c = λ r. absurd (unrested _ (inr (ap stage_of c.in-Says.is)) r)

pub returns-in-Sends-clause-rests : goal.returns-in-Sends-clause-rests
returns-in-Sends-clause-rests g c = λ r. absurd (unrested _ (inr (ap stage_of c.in-Sends.is)) r)

pub returns-in-Waits-clause-owes : goal.returns-in-Waits-clause-owes
returns-in-Waits-clause-owes g c = λ e. absurd (unowed _ c.read_on.ensures.made e)

pub returns-in-Sends-clause-owes : goal.returns-in-Sends-clause-owes
returns-in-Sends-clause-owes g c = λ e. absurd (unowed _ c.write_on.ensures.made e)

pub returns-in_ok-respond-in-Says-clause-owes : goal.returns-in_ok-respond-in-Says-clause-owes
returns-in_ok-respond-in-Says-clause-owes g c = λ e. absurd (unowed _ (ap unmade c.in_ok-respond-in-Says.ensures.made.2) e)

pub returns-in_err-respond-in-Says-clause-owes : goal.returns-in_err-respond-in-Says-clause-owes
returns-in_err-respond-in-Says-clause-owes g c = λ e. absurd (unowed _ (ap unmade c.in_err-respond-in-Says.ensures.made.1) e)

pub returns-in-Holds-clause-longest : goal.returns-in-Holds-clause-longest
returns-in-Holds-clause-longest g c = rows_kept _ _ _ _ (record { row = refl; longest = refl }) (λ a. a)

pub returns-in-Owes-clause-longest : goal.returns-in-Owes-clause-longest
returns-in-Owes-clause-longest g c = rows_kept _ _ _ _ (record { row = refl; longest = refl }) (λ a. a)

pub returns-in-Over-clause-longest : goal.returns-in-Over-clause-longest
returns-in-Over-clause-longest g c = rows_kept _ _ _ _ (record { row = refl; longest = refl }) (λ a. a)

pub returns-in-Spent-clause-longest : goal.returns-in-Spent-clause-longest
returns-in-Spent-clause-longest g c = rows_kept _ _ _ _ (record { row = refl; longest = refl }) (λ a. a)

pub returns-in_err-respond-in-Says-clause-longest : goal.returns-in_err-respond-in-Says-clause-longest
returns-in_err-respond-in-Says-clause-longest g c = rows_kept _ _ _ _ (record { row = refl; longest = refl }) (λ a. inr (ap stage_of c.in-Says.is))

pub returns-in_ok-respond-in-Says-clause-longest : goal.returns-in_ok-respond-in-Says-clause-longest
returns-in_ok-respond-in-Says-clause-longest g c = rows_kept _ _ _ _ (record { row = refl; longest = refl }) (λ a. inr (ap stage_of c.in-Says.is))

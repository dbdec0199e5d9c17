-- The connection of a place is told its answer, or memory ran out.
use Rattle.std.proofs.Common.{sym, ◌∙◌}
use Rattle.behaviour_tree.specs.PartsView.{parts_of}
use Rattle.run_door_front.proofs.Saying.{told_cut-so, told-so}
use Rattle.run_door_front.proofs.Telling.{memory-told}
use Rattle.run_door_front.proofs.front.DoorFrontFront.answer.Goals as goal

pub returns-then-halted-clause-told : goal.returns-then-halted-clause-told
returns-then-halted-clause-told g c = λ first before h due.
    told_cut-so _ (parts_of c.args.program.now) _ _ h.0 h.1 _ c.args.self.now.kept.now
    (g.N.Sink.told c.args.self.now.notes.now) before h.2 c.args.place c.args.outcomes.now
    (sym c.spent.ensures ∙ c.if-spent.false) (sym c.halted.ensures ∙ c.if-halted.true)

pub returns-clause-told : goal.returns-clause-told
returns-clause-told g c = λ first before h due.
    told-so _ (parts_of c.args.program.now) _ _ h.0 h.1 _ c.args.self.now.kept.now
    (g.N.Sink.told c.args.self.now.notes.now) before h.2 c.answer.result c.answer.new.self c.args.place
    c.args.outcomes.now (sym c.spent.ensures ∙ c.if-spent.false) (sym c.halted.ensures ∙ c.if-halted.false) due c.answer.ensures.answered c.answer.ensures.spent
    c.answer.ensures.halted

pub returns-then-spent-clause-told : goal.returns-then-spent-clause-told
returns-then-spent-clause-told g c = λ first before h due. h

pub returns-then-spent-clause-memory : goal.returns-then-spent-clause-memory
returns-then-spent-clause-memory g c = sym c.spent.ensures ∙ c.if-spent.true

pub returns-then-halted-clause-memory : goal.returns-then-halted-clause-memory
returns-then-halted-clause-memory g c = (sym c.spent.ensures ∙ c.if-spent.false, sym c.spent.ensures ∙ c.if-spent.false)

pub returns-clause-memory : goal.returns-clause-memory
returns-clause-memory g c =
    memory-told c.answer.result c.args.self.now.kept.now.spent c.answer.new.self.spent (sym c.spent.ensures ∙ c.if-spent.false) c.answer.ensures.spent

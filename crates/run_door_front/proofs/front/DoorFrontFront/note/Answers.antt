-- A note is written, as far as its sink takes it.
use Rattle.std.proofs.Common.{refl, sym, ap, ◌∙◌}
use Rattle.run_door_front.specs.Keeping.{Keeping}
use Rattle.run_door_front.proofs.Saying.{noted_cut-so, noted_whole-so, noted_part-so}
use Rattle.run_door_front.proofs.front.DoorFrontFront.note.Goals as goal

pub returns-then-halted-clause-noted : goal.returns-then-halted-clause-noted
returns-then-halted-clause-noted g c = λ parts first before h notes_failed.
    noted_cut-so _ parts _ _ h.0 h.1 _ c.args.self.now.kept.now (g.N.Sink.told c.args.self.now.notes.now)
    before h.2 c.args.text.now (sym c.halted.ensures ∙ c.if-halted.true) notes_failed

pub returns-then-write_cut-clause-noted : goal.returns-then-write_cut-clause-noted
returns-then-write_cut-clause-noted g c = λ parts first before h notes_failed.
    noted_part-so _ parts _ _ h.0 h.1 _ c.args.self.now.kept.now (g.N.Sink.told c.args.self.now.notes.now)
    before h.2 c.halt.new.self (g.N.Sink.told c.write_cut.new.sink) c.args.text.now c.write_cut.ensures.0
    (sym c.halted.ensures ∙ c.if-halted.false) (sym c.write_cut.ensures.2 ∙ c.if-write_cut.true) c.write_cut.ensures.1 c.halt.ensures

pub returns-else-write_cut-clause-noted : goal.returns-else-write_cut-clause-noted
returns-else-write_cut-clause-noted g c = λ parts first before h notes_failed.
    noted_whole-so _ parts _ _ h.0 h.1 _ c.args.self.now.kept.now (g.N.Sink.told c.args.self.now.notes.now)
    before h.2 (g.N.Sink.told c.write_cut.new.sink) c.args.text.now c.write_cut.ensures.0
    (sym c.halted.ensures ∙ c.if-halted.false) (sym c.write_cut.ensures.2 ∙ c.if-write_cut.false) c.write_cut.ensures.1

pub returns-then-halted-clause-memory : goal.returns-then-halted-clause-memory
returns-then-halted-clause-memory g c = refl

pub returns-then-write_cut-clause-memory : goal.returns-then-write_cut-clause-memory
returns-then-write_cut-clause-memory g c = ap (λ (k : Keeping). k.spent) c.halt.ensures

pub returns-else-write_cut-clause-memory : goal.returns-else-write_cut-clause-memory
returns-else-write_cut-clause-memory g c = refl

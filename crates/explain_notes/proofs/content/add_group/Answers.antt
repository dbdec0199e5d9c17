use Rattle.explain_notes.proofs.Silent.{none_behind}
use Rattle.explain_notes.proofs.Turns.{nothing_added}
use Rattle.explain_notes.proofs.content.add_group.Goals as goal

pub returns-in-OneWay : goal.returns-in-OneWay
returns-in-OneWay c = nothing_added _ _ (none_behind c.args.types.now _ _ _ c.in-OneWay.is)

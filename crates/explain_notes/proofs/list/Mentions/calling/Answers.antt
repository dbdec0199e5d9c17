use Rattle.explain_notes.proofs.Turns.{three_more}
use Rattle.explain_notes.proofs.list.Mentions.calling.Goals as goal

pub returns : goal.returns
returns c = three_more _ _ _ _ _ _ _ c.in_ok-put.ensures c.in_ok-put-2.ensures c.in_ok-put-3.ensures

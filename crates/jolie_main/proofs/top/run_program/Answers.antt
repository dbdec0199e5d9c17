-- A run by the first link is one that has it.
use Rattle.std.proofs.lemmas.Result.{IfOk-weaker}
use Rattle.jolie_main.proofs.CommandsDone.{at_first, with_picks}
use Rattle.jolie_main.proofs.top.run_program.Goals as goal

pub returns-clause-lined : goal.returns-clause-lined
returns-clause-lined g c = λ files doors.
    IfOk-weaker c.run_lines.result _ _
    (λ ended lined. at_first _ (λ l. g.L.Link.told l) c.args.links.now.items c.index_mut.result.now
    c.run_lines.new.link c.requires.link c.index_mut.ensures.value
    (with_picks _ _ _ _ _ _ _ c.as_slice.ensures lined))
    (c.run_lines.ensures doors)

-- A run by the first link is one that has it.
use Rattle.std.proofs.lemmas.Result.{IfOk-weaker}
use Rattle.jolie_main.proofs.CommandsDone.{at_first}
use Rattle.jolie_main.proofs.top.serve_program.Goals as goal

pub returns-clause-doored : goal.returns-clause-doored
returns-clause-doored g c = λ files input output.
    IfOk-weaker c.run_doors.result _ _
    (λ ended doored. at_first _ (λ l. g.L.Link.told l) c.args.links.now.items c.index_mut.result.now
    c.run_doors.new.link c.requires.link c.index_mut.ensures.value doored)
    (c.run_doors.ensures input output)

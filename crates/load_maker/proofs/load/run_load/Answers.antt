-- A run over the lines of a load is that of the load.
use Rattle.std.proofs.Common.{◌∙◌}
use Rattle.behaviour_tree.specs.PartsView.{parts_of}
use Rattle.outside_doors.specs.Returns.{none_told}
use Rattle.load_maker.proofs.Loading.{run_loaded}
use Rattle.load_maker.proofs.load.run_load.Goals as goal

pub returns : goal.returns
returns g c = λ count few are.
    run_loaded (parts_of c.args.program) c.args.text.now count few c.run_lines.new.input none_told _ _ c.in_ok-input.input c.run_lines.result
    (c.in_ok-input.ensures ∙ are) (c.run_lines.ensures none_told)

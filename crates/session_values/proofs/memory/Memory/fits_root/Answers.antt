-- The tree says it of every root.
use Rattle.std.proofs.Common.{◌∙◌}
use Rattle.jolie_trees.specs.Trees as spec
use Rattle.session_values.proofs.Limits.{is_some_fits}
use Rattle.session_values.proofs.memory.Memory.fits_root.Goals as goal

pub returns : goal.returns
returns c = λ r.
    c.is_some.ensures
    ∙ is_some_fits (spec.set_root c.args.path.now.steps r c.args.self.now.store) c.nodes_with_root.result (c.nodes_with_root.ensures r)

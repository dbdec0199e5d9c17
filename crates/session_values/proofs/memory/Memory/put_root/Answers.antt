-- What the tree says of every root it says of this one.
use Rattle.std.proofs.Common.{sym, ap, ◌∙◌}
use Rattle.jolie_trees.specs.Limits.{is_store}
use Rattle.jolie_trees.specs.Trees as spec
use Rattle.session_values.proofs.Limits.{unfit}
use Rattle.session_values.proofs.memory.Memory.put_root.Goals as goal

pub returns-in_default-clause-done : goal.returns-in_default-clause-done
returns-in_default-clause-done c =
    unfit (spec.set_root c.args.path.now.steps c.args.root c.args.self.now.store) (c.in_default.ensures c.args.root)

pub invariant_of-self-2 : goal.invariant_of-self-2
invariant_of-self-2 c =
    let fits = c.in-Some.ensures c.args.root in
    let now = c.in_ok-put_root_at.ensures.ok in
    record { within = ap is_store now ∙ fits.0; counted = fits.1 ∙ sym (ap spec.size now) }

use Rattle.std.proofs.Common.{Some, ap, ◌∙◌}
use Rattle.check_processes.specs.ProcessRules.{outlet_named}
use Rattle.check_processes.proofs.OperationTables.{outlet_found}
use Rattle.check_processes.proofs.surroundings.Outlets.get.Goals as goal

pub returns-in-Some : goal.returns-in-Some
returns-in-Some c =
    ap Some c.operations.ensures ∙ outlet_found c.self.inside.outlets.items c.self.inside.names c.args.name.now c.in-Some.place c.index.result.now c.self.invariant c.in-Some.ensures.place c.in-Some.ensures.within c.index.ensures
    ∙ ap (λ os. outlet_named os c.args.name.now) c.self.view_is

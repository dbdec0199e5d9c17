use Rattle.std.proofs.Common.{Some, ap, ◌∙◌}
use Rattle.check_processes.specs.OperationTables.{answers_named}
use Rattle.check_processes.proofs.OperationTables.{operation_found}
use Rattle.check_processes.proofs.operation_tables.Operations.answers.Goals as goal

pub returns-in-Some : goal.returns-in-Some
returns-in-Some c =
    ap Some c.answers.ensures ∙ operation_found c.self.inside.declared.items c.self.inside.names c.args.name.now c.in-Some.place c.index.result.now c.self.invariant c.in-Some.ensures.place c.in-Some.ensures.within c.index.ensures
    ∙ ap (λ os. answers_named os c.args.name.now) c.self.view_is

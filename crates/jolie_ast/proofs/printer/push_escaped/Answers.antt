use Rattle.jolie_ast.proofs.Escapes.{one_more_escaped, one_more_taken}
use Rattle.jolie_ast.proofs.printer.push_escaped.Goals as goal

pub loop-c-preserved : goal.loop-c-preserved
loop-c-preserved c = (
  one_more_escaped _ _ _ c.loop-c.yielded c.in-Some.c c.loop-c.invariant.0 c.in_ok-push_escaped_char.ensures,
  one_more_taken _ c.loop-c.yielded _ _ c.in-Some.c c.loop-c.invariant.1 c.in-Some.ensures.steps.0,
)

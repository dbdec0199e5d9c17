use Rattle.std.proofs.Common.{List, subst}
use Rattle.frame_arena.specs.Line.{Line}
use Rattle.frame_arena.specs.Lines.{IsOrdered}
use Rattle.frame_arena.proofs.arena.Arena.is_ordered.Goals as goal

pub returns : goal.returns
returns g c = subst (λ (ls : List (Line g.row.F.Denot g.row.K.Denot)). IsOrdered ls) c.self.view_is c.self.invariant.ordered

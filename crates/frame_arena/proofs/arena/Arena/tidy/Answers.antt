use Rattle.std.proofs.Common.{◌∙◌}
use Rattle.frame_arena.specs.Entries.{entries}
use Rattle.frame_arena.proofs.Changes.{squeeze_rows}
use Rattle.frame_arena.proofs.arena.Arena.tidy.Goals as goal

pub invariant_of-self : goal.invariant_of-self
invariant_of-self g c =
    let i = c.self.inside in
    (squeeze_rows (entries i.rows.items) (entries c.squeeze.new.rows.items) i.next c.squeeze.ensures c.self.invariant).1

pub returns : goal.returns
returns g c =
    let i = c.self.inside in
    (squeeze_rows (entries i.rows.items) (entries c.squeeze.new.rows.items) i.next c.squeeze.ensures c.self.invariant).0 ∙ c.self.view_is

use Rattle.std.proofs.Common.{length, sym, ap, ◌∙◌}
use Rattle.frame_arena.specs.Entries.{entries}
use Rattle.frame_arena.proofs.Lines.{length_lines}
use Rattle.frame_arena.proofs.arena.Arena.next.Goals as goal

pub returns : goal.returns
returns g c =
    let i = c.self.inside in
    sym (length_lines (entries i.rows.items) 0 i.next) ∙ ap length c.self.view_is

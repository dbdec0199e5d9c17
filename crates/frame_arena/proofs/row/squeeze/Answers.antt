use Rattle.std.proofs.Common.{rules, ap, ◌∙◌}
use Rattle.std.proofs.lemmas.Fn.{filter_same}
use Rattle.frame_arena.specs.Entries.{entries}
use Rattle.frame_arena.specs.declared.row.Row.{Row}
use Rattle.frame_arena.proofs.Rows.{filtered}
use Rattle.frame_arena.proofs.row.squeeze.Goals as goal

pub returns : goal.returns
returns g c =
    ap entries (filter_same _ (λ (r : Row g.row.F.Denot g.row.K.Denot). r.is_live) _ (λ x b f' k. search rules) _ _ c.retain.ensures.filtered)
    ∙ filtered c.args.rows.now.items

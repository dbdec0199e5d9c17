use Rattle.std.proofs.Common.{◌∙◌}
use Rattle.behaviour_tree.specs.PartsView.{parts_of}
use Rattle.term_session.specs.Configs.{config_view}
use Rattle.term_session.proofs.Needing.{needed_tells}
use Rattle.term_session.proofs.needed.evaluated_need.Goals as goal

pub returns : goal.returns
returns c =
    let a = c.args.actor in
    needed_tells (parts_of a.program.now) a.service (config_view c.args.config.now) a.strand c.unboxed.result (c.unboxed.ensures ∙ c.in_ok-need.ensures)

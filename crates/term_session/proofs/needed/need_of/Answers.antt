use Rattle.behaviour_tree.specs.PartsView.{parts_of}
use Rattle.term_session.specs.Configs.{config_view}
use Rattle.term_session.proofs.Foretelling.{nothing_asked}
use Rattle.term_session.proofs.needed.need_of.Goals as goal

pub returns-in-Stores : goal.returns-in-Stores
returns-in-Stores c =
    let a = c.args.actor in
    nothing_asked c.foretold.result (parts_of a.program.now) a.service (config_view c.args.config.now) a.strand c.in-Stores.is c.foretold.ensures

use Rattle.behaviour_tree.specs.PartsView.{parts_of}
use Rattle.term_session.specs.Configs.{config_view}
use Rattle.term_session.proofs.Foretelling.{stores_some}
use Rattle.term_session.proofs.enabled.needs.Goals as goal

pub returns-in-Stores : goal.returns-in-Stores
returns-in-Stores c =
    stores_some c.foretold.result (config_view c.args.config.now) c.args.strand c.in-Stores.is c.foretold.ensures (parts_of c.args.program.now) c.args.service

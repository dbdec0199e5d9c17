use Rattle.std.proofs.Common.{◌≡◌, is_some, ap, ◌∙◌, rules}
use Rattle.std.specs.List.{filter}
use Rattle.behaviour_tree.specs.PartsView.{parts_of}
use Rattle.term_session.specs.Asks.{needed}
use Rattle.term_session.specs.Configs.{config_view}
use Rattle.term_session.proofs.Needing.{enabled_exactly}
use Rattle.term_session.proofs.enabled.enabled.Goals as goal

pub returns-clause-exact : goal.returns-clause-exact
returns-clause-exact c =
    let parts = parts_of c.args.program.now in
    let here = config_view c.args.config.now in
    let standing = c.in_ok-standing.standing.items in
    let passed : c.in_ok-enabled.enabled ≡ filter (λ n. is_some (needed parts c.args.service here n)) standing =
    c.in_ok-enabled.ensures ∙ ap (filter (λ n. is_some (needed parts c.args.service here n))) c.deref.ensures.value in
    enabled_exactly parts c.args.service here standing c.in_ok-enabled.enabled c.in_ok-standing.ensures.all passed

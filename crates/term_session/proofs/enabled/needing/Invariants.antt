use Rattle.std.proofs.Common.{◌≡◌, is_some, take}
use Rattle.std.specs.List.{filter}
use Rattle.behaviour_tree.specs.PartsView.{parts_of}
use Rattle.term_session.specs.Asks.{needed}
use Rattle.term_session.specs.Configs.{config_view}
use Rattle.term_session.proofs.enabled.needing.Given as goal

abbrev pub invariant-loop-strand : goal.invariant-loop-strand
invariant-loop-strand l =
    l.needing ≡ filter (λ n. is_some (needed (parts_of l.program) l.service (config_view l.config) n)) (take l.strand-index l.strands)

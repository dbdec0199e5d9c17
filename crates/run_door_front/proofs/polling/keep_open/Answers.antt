use Rattle.std.proofs.Common.{rules}
use Rattle.std.proofs.lemmas.Fn.{filter_same}
use Rattle.run_door_front.specs.Keeping.{is_open_there}
use Rattle.run_door_front.proofs.polling.keep_open.Goals as goal

pub returns : goal.returns
returns g c = filter_same _ (is_open_there c.args.connections.now) _ (λ x b f' k. search rules) _ _ c.retain.ensures.filtered

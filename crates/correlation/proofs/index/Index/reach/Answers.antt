use Rattle.std.proofs.Common.{ap, ◌∙◌}
use Rattle.correlation.specs.Index.{keys_of}
use Rattle.correlation.proofs.KeySets.{keys_of_more}
use Rattle.correlation.proofs.index.Index.reach.Goals as goal

pub returns-in_ok-push-clause-keys : goal.returns-in_ok-push-clause-keys
returns-in_ok-push-clause-keys c =
    λ n. ap (λ l. keys_of l n) c.in_ok-push.ensures.items
    ∙ keys_of_more c.args.self.now.sets.items (record { set = c.args.set; keys = c.new.result }) n c.new.ensures

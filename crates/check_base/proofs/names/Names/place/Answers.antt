use Rattle.std.proofs.Common.{rules}
use Rattle.check_base.proofs.Lookups.{found_within}
use Rattle.check_base.proofs.names.Names.place.Goals as goal

pub returns-clause-within : goal.returns-clause-within
returns-clause-within c = found_within c.copied.result c.args.self.now c.args.text.now (search rules)

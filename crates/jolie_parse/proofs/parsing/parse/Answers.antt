use Rattle.std.proofs.Common.{length}
use Rattle.jolie_parse.specs.Classes.{spelled}
use Rattle.jolie_parse.proofs.Parses.{found_by, complete_by, syntax_by, too_deep_by, refused_by, deep_by}
use Rattle.jolie_parse.proofs.parsing.parse.Goals as goal

pub returns-clause-found : goal.returns-clause-found
returns-clause-found c = found_by 64 (spelled c.args.text.now c.args.tokens.now) (length c.args.text.now) c.parse_within.result c.parse_within.ensures

pub returns-clause-complete : goal.returns-clause-complete
returns-clause-complete c f d = complete_by 64 (spelled c.args.text.now c.args.tokens.now) (length c.args.text.now) c.parse_within.result f c.parse_within.ensures d

pub returns-clause-syntax : goal.returns-clause-syntax
returns-clause-syntax c at e = syntax_by 64 (spelled c.args.text.now c.args.tokens.now) (length c.args.text.now) c.parse_within.result at c.parse_within.ensures e

pub returns-clause-too_deep : goal.returns-clause-too_deep
returns-clause-too_deep c at e = too_deep_by 64 (spelled c.args.text.now c.args.tokens.now) (length c.args.text.now) c.parse_within.result at c.parse_within.ensures e

pub returns-clause-refused : goal.returns-clause-refused
returns-clause-refused c at d = refused_by 64 (spelled c.args.text.now c.args.tokens.now) (length c.args.text.now) c.parse_within.result at c.parse_within.ensures d

pub returns-clause-deep : goal.returns-clause-deep
returns-clause-deep c at d = deep_by 64 (spelled c.args.text.now c.args.tokens.now) (length c.args.text.now) c.parse_within.result at c.parse_within.ensures d

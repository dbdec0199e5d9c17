use Rattle.std.proofs.Common.{sym, ap, subst, ◌∙◌}
use Rattle.std.specs.List.{All}
use Rattle.jolie_parse.specs.Classes.{StandsIn}
use Rattle.jolie_parse.specs.Classes.{spelled}
use Rattle.jolie_parse.specs.WholeFiles.{read_file}
use Rattle.jolie_parse.proofs.Parses.{members_fit, members_formed}
use Rattle.jolie_parse.proofs.Spellings.{tokens_stand}
use Rattle.jolie_parse.proofs.parsing.parse_within.Goals as goal

pub new-cursor-requires : goal.new-cursor-requires
new-cursor-requires c = subst (All (StandsIn c.args.text.now)) (sym c.as_slice.ensures) (tokens_stand c.args.text.now c.args.tokens.now c.requires.lexed)

pub new-requires-clause-bound : goal.new-requires-clause-bound
new-requires-clause-bound c =
    let begun = c.new-cursor.ensures ∙ ap (spelled c.args.text.now) c.as_slice.ensures in
    members_fit c.args.levels c.args.text.now c.args.tokens.now c.in-Ok.definitions _ c.requires.fits c.requires.lexed (ap (read_file c.args.levels) (sym begun) ∙ c.in-Ok.ensures)

pub new-requires-clause-formed : goal.new-requires-clause-formed
new-requires-clause-formed c = members_formed c.args.levels _ c.in-Ok.definitions _ c.in-Ok.ensures

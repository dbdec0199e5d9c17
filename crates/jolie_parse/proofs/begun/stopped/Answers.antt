use Rattle.std.proofs.Common.{◌≡◌, true, false, sym, subst, ◌∙◌}
use Rattle.jolie_parse.specs.Reads.{Stops}
use Rattle.jolie_parse.specs.WholeFiles.{read_file}
use Rattle.jolie_parse.proofs.LeftOut.{begun_to_end, begun_no_more, begun_too_deep}
use Rattle.jolie_parse.proofs.begun.stopped.Goals as goal

pub returns-then-is_empty : goal.returns-then-is_empty
returns-then-is_empty c = λ levels tokens reading.
    begun_to_end levels tokens c.args.left.now (c.is_empty.ensures.0 c.if-is_empty.true)
    (subst (λ z. Stops (read_file levels tokens) z c.args.left.now) c.in-Syntax.is reading)

pub returns-else-is_empty : goal.returns-else-is_empty
returns-else-is_empty c = λ levels tokens reading.
    begun_no_more levels tokens c.args.left.now (λ none. let never : true ≡ false = sym (c.is_empty.ensures.1 none) ∙ c.if-is_empty.false in cc)
    (subst (λ z. Stops (read_file levels tokens) z c.args.left.now) c.in-Syntax.is reading)

pub returns-in-TooDeep : goal.returns-in-TooDeep
returns-in-TooDeep c = λ levels tokens reading.
    begun_too_deep levels tokens c.args.left.now (subst (λ z. Stops (read_file levels tokens) z c.args.left.now) c.in-TooDeep.is reading)

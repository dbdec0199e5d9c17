-- A blank line is passed, another is what comes next.
use Rattle.std.proofs.Common.{sym, ap, ◌∙◌}
use Rattle.run_theorem.specs.Split.{is_blank}
use Rattle.run_lines.proofs.Pieces.{blank_passed, line_found, passed_further}
use Rattle.run_lines.proofs.next_line.line_of.Goals as goal

pub returns-then-is_blank-clause-comes : goal.returns-then-is_blank-clause-comes
returns-then-is_blank-clause-comes c = λ left faults.
    blank_passed c.args.length c.args.lines.now left faults c.requires.line c.requires.ended c.pass.new.self c.pass.ensures.passed c.pass.ensures.rest
    (ap is_blank (sym c.line.ensures) ∙ sym c.is_blank.ensures ∙ c.if-is_blank.true)

pub returns-clause-comes : goal.returns-clause-comes
returns-clause-comes c = λ left faults.
    line_found c.args.length c.args.lines.now left faults c.requires.line c.requires.ended
    (ap is_blank (sym c.line.ensures) ∙ sym c.is_blank.ensures ∙ c.if-is_blank.false)

pub returns-then-is_blank-clause-further : goal.returns-then-is_blank-clause-further
returns-then-is_blank-clause-further c =
    passed_further c.args.length c.args.lines.now c.pass.new.self c.requires.line c.pass.ensures.passed c.pass.ensures.rest

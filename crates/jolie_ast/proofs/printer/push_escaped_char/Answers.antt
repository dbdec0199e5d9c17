use Rattle.std.proofs.Common.{rules, arith}
use Rattle.jolie_ast.proofs.Escapes.{plain_char}
use Rattle.jolie_ast.proofs.printer.push_escaped_char.Goals as goal

pub returns-in_default : goal.returns-in_default
returns-in_default c =
    rw (plain_char c.args.c (λ e. omega (arith, e, c.in_default)) (λ e. omega (arith, e, c.in_default)) (λ e. omega (arith, e, c.in_default)) (λ e. omega (arith, e, c.in_default)) (λ e. omega (arith, e, c.in_default)))
    (search rules)

use Rattle.std.proofs.Common.{◌≡◌, ◌∷◌, take, flat_map, codes}
use Rattle.jolie_ast.specs.Spacing.{after}
use Rattle.jolie_ast.specs.PrintedExpressions.{name_tokens}
use Rattle.jolie_ast.proofs.printer.Printer.further_fields.Given as goal

abbrev pub invariant-loop-field : goal.invariant-loop-field
invariant-loop-field l = l.self ≡ after l.initial.self (flat_map (λ name. codes "." ∷ name_tokens name) (take l.field-index l.fields))

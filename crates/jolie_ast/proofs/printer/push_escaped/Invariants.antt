use Rattle.std.proofs.Common.{◌≡◌, ◌++◌, flat_map, string_bytes}
use Rattle.std.specs.Prelude.{encode_utf8_all}
use Rattle.jolie_ast.specs.PrintedExpressions.{escaped_byte}
use Rattle.jolie_ast.proofs.printer.push_escaped.Given as goal

abbrev pub invariant-loop-c : goal.invariant-loop-c
invariant-loop-c l =
    (string_bytes l.quoted ≡ string_bytes l.initial.quoted ++ flat_map escaped_byte (encode_utf8_all l.yielded))
    × (l.text ≡ encode_utf8_all l.yielded ++ l.c-iterator.rest.now)

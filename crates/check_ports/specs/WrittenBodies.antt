-- These definitions serve the proofs alone: no promise speaks of them.
-- Which body of a type stands in the code.
use Rattle.std.specs.Prelude.{Some}
use Rattle.jolie_ast.specs.declared.types.RootKind.TheVariants as root
use Rattle.jolie_ast.specs.declared.types.TypeBody.{TypeBody, roll-TypeBody}
use Rattle.jolie_ast.specs.declared.types.TypeBody.TheOpen.{TypeBody-F}
use Rattle.check_ports.specs.declared.aliases.WrittenBody.{WrittenBody}
use Rattle.check_ports.specs.declared.aliases.WrittenBody.TheVariants as written

-- a body that is written, or fields alone, whose root is void
abbrev pub written_body : WrittenBody → TypeBody
written_body (written.Body body) = body.now
written_body (written.Fields fields) = roll-TypeBody (TypeBody-F.Root 0 root.Void (Some fields.now))

-- The port that every service has.
use Rattle.std.specs.Prelude.{ℕ, List, [], codes, Some}
use Rattle.check_base.specs.Repeated.{named}
use Rattle.check_base.specs.Files.{Operation}
use Rattle.jolie_ast.specs.declared.interface.TypeName.TheVariants as type_name
use Rattle.jolie_ast.specs.declared.types.RootKind.TheVariants as root

-- the name of the port that every service has
abbrev pub console : List ℕ
console = codes "Console"

-- the operation of the port that every service has
abbrev pub println : Operation
println = record {
  name = named (codes "println") 0;
  request = type_name.Root 0 root.Any;
  response = Some (type_name.Root 0 root.Void);
  throws = [];
}

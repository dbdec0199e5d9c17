-- What is refused of a file without a service.
use Rattle.std.proofs.Common.{◌≡◌, Bool, List, [], ◌∷◌, Option, Some, None, refl}
use Rattle.std.specs.Prelude.{not, ◌||◌, is_some}
use Rattle.std.specs.List.{list_any, cons_option}
use Rattle.jolie_ast.specs.declared.tree.Definition.{Definition}
use Rattle.jolie_ast.specs.declared.service.Service.{Service}
use Rattle.check_base.specs.declared.refusal.CheckName.TheVariants.{NoStart}
use Rattle.check_base.specs.Least.{refused_if}
use Rattle.check_base.specs.Files.{service_in, services_of}
use Rattle.service_check.specs.Refusals.{no_service}

-- a service may stand before the others
pub maybe_service : (o : Option Service) (b : Bool) (services : List Service) → refused_if (not b) NoStart 0 ≡ no_service services
    → refused_if (not (is_some o || b)) NoStart 0 ≡ no_service (cons_option o services)
maybe_service None b services e = e
maybe_service (Some s) b services e = refl

-- a file is without a service if none of its definitions is one
pub without_service : (file : List Definition) → refused_if (not (list_any (λ d. is_some (service_in d)) file)) NoStart 0 ≡ no_service (services_of file)
without_service [] = refl
without_service (d ∷ ds) = maybe_service (service_in d) (list_any (λ d. is_some (service_in d)) ds) (services_of ds) (without_service ds)

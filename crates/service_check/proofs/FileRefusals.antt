-- What is refused of a file, part by part.
use Rattle.std.proofs.Common.{◌≡◌, ℕ, List, ◌++◌, Option, None, ap, sym, ◌∙◌, flat_map}
use Rattle.jolie_ast.specs.declared.tree.Definition.{Definition}
use Rattle.jolie_ast.specs.declared.types.TypeDefinition.{TypeDefinition}
use Rattle.jolie_ast.specs.declared.interface.Interface.{Interface}
use Rattle.check_base.specs.declared.refusal.Refusal.{Refusal}
use Rattle.check_base.specs.Least.{joined}
use Rattle.check_base.specs.Files.{types_of, interfaces_of, service_in, services_of}
use Rattle.check_types.specs.TypeRules.{type_refused}
use Rattle.check_types.specs.InterfaceRules.{interface_refused}
use Rattle.check_ports.specs.PortRules.{input_locations}
use Rattle.service_check.specs.ServiceRules.{service_refused}
use Rattle.service_check.specs.Clauses.{definition_refused}
use Rattle.service_check.specs.Refusals.{no_service, names_refused, refusals, refusal_of}
use Rattle.check_base.proofs.Joined.{joined_append, joined_least}
use Rattle.check_base.proofs.Loops.{each_there}

-- what is refused of the services of a file, definition by definition
pub services_found : (types : List TypeDefinition) (interfaces : List Interface) (locations : List (List ℕ)) (file : List Definition) → flat_map (definition_refused types interfaces locations) file ≡ flat_map (service_refused types interfaces locations) (services_of file)
services_found types interfaces locations file = each_there (service_refused types interfaces locations) service_in file

-- what is refused of the types and interfaces of a file
abbrev pub parts_refused : List Definition → List Refusal
parts_refused file = flat_map (type_refused (types_of file)) (types_of file) ++ flat_map (interface_refused (types_of file)) (interfaces_of file)

-- what is refused of the services of a file
abbrev pub all_services_refused : List Definition → List Refusal
all_services_refused file = flat_map (service_refused (types_of file) (interfaces_of file) (input_locations (services_of file))) (services_of file)

-- refusals that are joined behind others
pub joined_then : (p0 p1 p2 : Option Refusal) (rs ss : List Refusal) → p1 ≡ joined p0 rs → p2 ≡ joined p1 ss → p2 ≡ joined p0 (rs ++ ss)
joined_then p0 p1 p2 rs ss first rest = rest ∙ ap (λ p. joined p ss) first ∙ sym (joined_append p0 rs ss)

-- six lists that are joined one after the other
pub joined_six : (p0 p1 p2 p3 p4 p5 p6 : Option Refusal) (r1 r2 r3 r4 r5 r6 : List Refusal)
    → p1 ≡ joined p0 r1 → p2 ≡ joined p1 r2 → p3 ≡ joined p2 r3 → p4 ≡ joined p3 r4 → p5 ≡ joined p4 r5 → p6 ≡ joined p5 r6 → p6 ≡ joined p0 (r1 ++ r2 ++ r3 ++ r4 ++ r5 ++ r6)
joined_six p0 p1 p2 p3 p4 p5 p6 r1 r2 r3 r4 r5 r6 e1 e2 e3 e4 e5 e6 =
    joined_then p0 p5 p6 (r1 ++ r2 ++ r3 ++ r4 ++ r5) r6
    (joined_then p0 p4 p5 (r1 ++ r2 ++ r3 ++ r4) r5
    (joined_then p0 p3 p4 (r1 ++ r2 ++ r3) r4 (joined_then p0 p2 p3 (r1 ++ r2) r3 (joined_then p0 p1 p2 r1 r2 e1 e2) e3) e4) e5) e6

-- four lists that are joined one after the other
pub joined_four : (so : Option Refusal) (ns bs cs ds es : List Refusal) → joined (joined (joined (joined so ns) bs) (cs ++ ds)) es ≡ joined so (ns ++ bs ++ cs ++ ds ++ es)
joined_four so ns bs cs ds es =
    ap (λ o. joined o es) (joined_append (joined (joined so ns) bs) cs ds)
    ∙ ap (λ o. joined (joined (joined o cs) ds) es) (sym (joined_append so ns bs))
    ∙ ap (λ o. joined (joined o ds) es) (sym (joined_append so (ns ++ bs) cs))
    ∙ ap (λ o. joined o es) (sym (joined_append so (ns ++ bs ++ cs) ds))
    ∙ sym (joined_append so (ns ++ bs ++ cs ++ ds) es)

-- the refusal that comes first of those of all parts
pub first_of_all : (file : List Definition) (p0 p1 p2 p3 p4 : Option Refusal) → p0 ≡ None → p1 ≡ joined p0 (no_service (services_of file)) → p2 ≡ joined p1 (names_refused file) → p3 ≡ joined p2 (parts_refused file)
    → p4 ≡ joined p3 (all_services_refused file) → p4 ≡ refusal_of file
unfolding refusals
first_of_all file p0 p1 p2 p3 p4 none services names parts all =
    all
    ∙ ap (λ p. joined p (all_services_refused file)) (parts ∙ ap (λ p. joined p (parts_refused file)) (names ∙ ap (λ p. joined p (names_refused file)) (services ∙ ap (λ p. joined p (no_service (services_of file))) none)))
    ∙ joined_four None (no_service (services_of file)) (names_refused file) (flat_map (type_refused (types_of file)) (types_of file)) (flat_map (interface_refused (types_of file)) (interfaces_of file)) (all_services_refused file)
    ∙ joined_least (refusals file)

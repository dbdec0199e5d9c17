-- These definitions serve the proofs alone: no promise speaks of them.
-- The operations that ports bring, kept short: an interface that a port names again stands for its first operation
-- alone.
use Rattle.std.specs.Prelude.{ℕ, List, [], ◌∷◌, ◌++◌, map, if◌then◌else◌}
use Rattle.jolie_ast.specs.declared.name.Name.{Name}
use Rattle.jolie_ast.specs.declared.interface.Interface.{Interface}
use Rattle.jolie_ast.specs.declared.interface.OperationGroup.{OperationGroup}
use Rattle.jolie_ast.specs.declared.service.Port.{Port}
use Rattle.behaviour_tree.specs.Distinct.{is_in}
use Rattle.check_base.specs.Files.{Operation, group_operations}
use Rattle.check_ports.specs.PortRules.{brought_by}

-- the first of a list alone
abbrev pub first_alone : {A : Type 0} → List A → List A
first_alone [] = []
first_alone (a ∷ rest) = a ∷ []

-- the names of the operations after one word
abbrev pub group_texts : OperationGroup → List (List ℕ)
group_texts g = map (λ (o : Operation). o.name.text) (group_operations g)

-- the operations of the interface that a port names: none where it is among others, the first alone where the port
-- named it before
abbrev pub spared_unless : List Interface → List (List ℕ) → List (List ℕ) → Name → List Name
spared_unless interfaces others seen n =
    if is_in n.text others then [] else if is_in n.text seen then first_alone (brought_by interfaces n) else brought_by
    interfaces n

-- the operations that a port brings, behind names that it has
abbrev pub spared_after : List Interface → List (List ℕ) → List (List ℕ) → List Name → List Name
spared_after interfaces others seen [] = []
spared_after interfaces others seen (n ∷ names) =
    spared_unless interfaces others seen n ++ spared_after interfaces others (seen ++ n.text ∷ []) names

-- the operations that a port brings
abbrev pub spared : List Interface → List (List ℕ) → List Name → List Name
spared interfaces others names = spared_after interfaces others [] names

-- the operations that input ports bring: an interface that an earlier port has brings nothing
abbrev pub spared_in : List Interface → List (List ℕ) → List Port → List Name
spared_in interfaces earlier [] = []
spared_in interfaces earlier (p ∷ ports) =
    spared interfaces earlier p.interfaces
    ++ spared_in interfaces (earlier ++ map (λ (n : Name). n.text) p.interfaces) ports

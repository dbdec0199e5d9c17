-- What the names of types lead to: a type may be defined as the name of another.
use Rattle.std.specs.Prelude.{◌≡◌, ℕ, Bool, true, not, ◌⊎◌, List, ◌∷◌, length, find, IsTrue, ◌↔◌}
use Rattle.std.specs.Prelude.{Option, Some, is_some, option_map, option_and_then}
use Rattle.jolie_ast.specs.declared.types.TypeDefinition.{TypeDefinition}
use Rattle.jolie_ast.specs.declared.types.TypeBody.{TypeBody, out-TypeBody}
use Rattle.behaviour_tree.specs.Distinct.{is_in}
use Rattle.behaviour_tree.specs.Leading.{LeadsTo, led_to}
use Rattle.check_base.specs.Files.{type_named, body_of, name_in}

-- the name that the type of a name is defined as, if it is one
abbrev pub next_name : List TypeDefinition → List ℕ → Option (List ℕ)
next_name types name =
    option_and_then (λ (ty : TypeDefinition). name_in (out-TypeBody (body_of ty.body))) (type_named types name)

-- a name that leads back to itself, in no more steps than there are types
abbrev pub leads_back : List TypeDefinition → List ℕ → Bool
leads_back types name = is_in name (led_to (next_name types) (length types) name)

-- the body of the type of a name
abbrev pub body_named : List TypeDefinition → List ℕ → Option TypeBody
body_named types name = option_map (λ (ty : TypeDefinition). body_of ty.body) (type_named types name)

-- the body of the type that a body is the name of
abbrev pub next_body : List TypeDefinition → TypeBody → Option TypeBody
next_body types body = option_and_then (body_named types) (name_in (out-TypeBody body))

-- a body that is no name
abbrev pub is_no_name : TypeBody → Bool
is_no_name body = not (is_some (name_in (out-TypeBody body)))

-- the type behind names: of a body and those that it leads to, in no more steps than there are types, the one that is
-- no name; there is none where a name has no type or leads back
abbrev pub behind_names : List TypeDefinition → TypeBody → Option TypeBody
behind_names types body = find is_no_name (body ∷ led_to (next_body types) (length types) body)

-- ---- no more steps need be counted

-- a name leads back to itself in so many steps where it does in any number
abbrev pub LeadsBackInAny : Type 0
LeadsBackInAny =
    (types : List TypeDefinition) (name : List ℕ) → IsTrue (leads_back types name) ↔ LeadsTo (next_name types) name name

-- the type behind a body's names is that to which any number of steps lead
abbrev pub BehindNamesInAny : Type 0
BehindNamesInAny =
    (types : List TypeDefinition) (body end : TypeBody) → (behind_names types body ≡ Some end)
    ↔ ((is_no_name end ≡ true) × ((body ≡ end) ⊎ LeadsTo (next_body types) body end))

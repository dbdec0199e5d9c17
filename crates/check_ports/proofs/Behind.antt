-- The type behind a body's names, name by name.
use Rattle.std.proofs.Common.{◌≡◌, ℕ, suc, ◌-◌, ◌<◌, arith, List, ◌∷◌, Option, None, Some, cond, refl, ap, sym, ◌∙◌}
use Rattle.std.specs.Prelude.{not, is_some, option_map, option_and_then, find}
use Rattle.jolie_ast.specs.declared.types.TypeDefinition.{TypeDefinition}
use Rattle.jolie_ast.specs.declared.types.TypeBody.{TypeBody, out-TypeBody}
use Rattle.behaviour_tree.specs.Leading.{led_to}
use Rattle.behaviour_tree.proofs.Leading.{from_there}
use Rattle.check_base.specs.Files.{type_named, body_of, name_in}
use Rattle.check_base.specs.TypeNames.{body_named, next_body, is_no_name}

-- the type behind a body's names, no more than so many
abbrev pub behind : List TypeDefinition → ℕ → TypeBody → Option TypeBody
behind types n body = find is_no_name (body ∷ led_to (next_body types) n body)

-- a body, or the type behind what follows it, by the name that it is
abbrev pub behind_by : List TypeDefinition → ℕ → TypeBody → Option (List ℕ) → Option TypeBody
behind_by types n body o = cond (not (is_some o)) (Some body) (find is_no_name (from_there (next_body types) n (option_and_then (body_named types) o)))

-- what is behind a body that may be there
there : (types : List TypeDefinition) (n : ℕ) (o : Option TypeBody) → find is_no_name (from_there (next_body types) n o) ≡ option_and_then (behind types n) o
there types n None = refl
there types n (Some body) = refl

-- the names of a body, and behind the first those of its type
pub behind_name : (types : List TypeDefinition) (n : ℕ) (body : TypeBody) (name : List ℕ) → Some name ≡ name_in (out-TypeBody body) → behind types (suc n) body ≡ option_and_then (behind types n) (body_named types name)
behind_name types n body name is = ap (behind_by types n body) (sym is) ∙ there types n (body_named types name)

-- a body that is no name
pub behind_no_name : (types : List TypeDefinition) (n : ℕ) (body : TypeBody) → None ≡ name_in (out-TypeBody body) → behind types n body ≡ Some body
behind_no_name types n body is = ap (λ (o : Option (List ℕ)). cond (not (is_some o)) (Some body) (find is_no_name (led_to (next_body types) n body))) (sym is)

-- a name where no more are followed
pub behind_last_name : (types : List TypeDefinition) (body : TypeBody) (name : List ℕ) → Some name ≡ name_in (out-TypeBody body) → behind types 0 body ≡ None
behind_last_name types body name is = ap (λ (o : Option (List ℕ)). cond (not (is_some o)) (Some body) None) (sym is)

-- a name without a type
pub behind_unknown : (types : List TypeDefinition) (n : ℕ) (body : TypeBody) (name : List ℕ) → 0 < n → Some name ≡ name_in (out-TypeBody body) → None ≡ type_named types name → behind types n body ≡ None
behind_unknown types n body name some is unknown =
    ap (λ k. behind types k body) (let e : n ≡ suc (n - 1) = omega (arith, some) in e)
    ∙ behind_name types (n - 1) body name is
    ∙ ap (λ (o : Option TypeDefinition). option_and_then (behind types (n - 1)) (option_map (λ (ty : TypeDefinition). body_of ty.body) o)) (sym unknown)

-- a name with its type
pub behind_known : (types : List TypeDefinition) (n : ℕ) (body : TypeBody) (name : List ℕ) (ty : TypeDefinition) → 0 < n → Some name ≡ name_in (out-TypeBody body) → Some ty ≡ type_named types name → behind types n body ≡ behind types (n - 1) (body_of ty.body)
behind_known types n body name ty some is known =
    ap (λ k. behind types k body) (let e : n ≡ suc (n - 1) = omega (arith, some) in e)
    ∙ behind_name types (n - 1) body name is
    ∙ ap (λ (o : Option TypeDefinition). option_and_then (behind types (n - 1)) (option_map (λ (ty : TypeDefinition). body_of ty.body) o)) (sym known)

-- The names of types are followed as far as any number of steps leads.
use Rattle.std.proofs.Common.{◌≡◌, ℕ, ◌≤◌, Bool, true, false, arith, List, [], ◌∷◌, length, Option, None, Some, cond, refl, ap, sym, ◌∙◌, subst, bytes_eq, inl, inr}
use Rattle.std.specs.Prelude.{◌||◌, ◌⊎◌, not, is_some, if◌then◌else◌, option_map, option_and_then, find}
use Rattle.std.specs.List.{list_any}
use Rattle.std.proofs.lemmas.Bool.{false≢true}
use Rattle.std.proofs.lemmas.List.{length-map}
use Rattle.std.proofs.lemmas.Slice.Eq.{bytes_eq-Decides}
use Rattle.jolie_ast.specs.declared.types.TypeDefinition.{TypeDefinition}
use Rattle.jolie_ast.specs.declared.types.TypeBody.{TypeBody, out-TypeBody}
use Rattle.behaviour_tree.specs.Distinct.{is_in}
use Rattle.behaviour_tree.specs.Leading.{LeadsTo, at_once, later, led_to}
use Rattle.behaviour_tree.proofs.Leading.{Only, all_reached, only_reached, found_leads, found_among, ends_same}
use Rattle.check_base.specs.Files.{type_named, type_names, body_of, name_in}
use Rattle.check_base.specs.TypeNames.{next_name, leads_back, body_named, next_body, is_no_name, behind_names, LeadsBackInAny, BehindNamesInAny}

unknown_turn : (b : Bool) (ty : TypeDefinition) (o : Option TypeDefinition) (i : Bool) → (i ≡ false → o ≡ None) → (b || i) ≡ false → (if b then Some ty else o) ≡ None
unknown_turn true ty o i rest e = absurd (false≢true (sym e))
unknown_turn false ty o i rest e = rest e

-- a name that no type has has no type
pub no_type : (types : List TypeDefinition) (name : List ℕ) → is_in name (type_names types) ≡ false → type_named types name ≡ None
no_type [] name e = refl
no_type (ty ∷ types) name e = unknown_turn (bytes_eq ty.name.text name) ty (type_named types name) (is_in name (type_names types)) (no_type types name) e

-- there are as many names as types
as_many : (types : List TypeDefinition) → length (type_names types) ≤ length types
as_many types = omega (arith, length-map types (λ (ty : TypeDefinition). ty.name.text))

-- ---- names that lead back

-- a name itself
abbrev pub itself : List ℕ → Option (List ℕ)
itself name = Some name

only_names : (types : List TypeDefinition) → Only (next_name types) (type_names types)
only_names types name out = ap (option_and_then (λ (ty : TypeDefinition). name_in (out-TypeBody (body_of ty.body)))) (no_type types name out)

tells_back : (types : List TypeDefinition) (name : List ℕ) → leads_back types name ≡ true → LeadsTo (next_name types) name name
tells_back types name e =
    let found = only_reached (next_name types) (λ t. bytes_eq t name) (length types) name e in
    subst (LeadsTo (next_name types) name) ((bytes_eq-Decides found.0 name).0 found.2) found.1

back_is_told : (types : List TypeDefinition) (name : List ℕ) → LeadsTo (next_name types) name name → leads_back types name ≡ true
back_is_told types name leads =
    all_reached itself (length types) (next_name types) (type_names types) (λ t. bytes_eq t name) name name (as_many types) (only_names types) leads ((bytes_eq-Decides name name).1 refl)

pub leads_back_in_any : LeadsBackInAny
leads_back_in_any types name = (tells_back types name, back_is_told types name)

-- ---- types behind names

-- the name that a body is
abbrev pub name_of : TypeBody → Option (List ℕ)
name_of body = name_in (out-TypeBody body)

only_bodies : (types : List TypeDefinition) → Only (body_named types) (type_names types)
only_bodies types name out = ap (option_map (λ (ty : TypeDefinition). body_of ty.body)) (no_type types name out)

-- a body that is no name leads nowhere
nowhere_turn : (types : List TypeDefinition) (o : Option (List ℕ)) → not (is_some o) ≡ true → option_and_then (body_named types) o ≡ None
nowhere_turn types None e = refl
nowhere_turn types (Some name) e = absurd (false≢true e)

leads_nowhere : (types : List TypeDefinition) (body : TypeBody) → is_no_name body ≡ true → next_body types body ≡ None
leads_nowhere types body e = nowhere_turn types (name_of body) e

-- a body that leads somewhere is a name
some_turn : (types : List TypeDefinition) (o : Option (List ℕ)) (b : TypeBody) → option_and_then (body_named types) o ≡ Some b → not (is_some o) ≡ false
some_turn types None b e = cc
some_turn types (Some name) b e = refl

leads_somewhere : (types : List TypeDefinition) (body end : TypeBody) → LeadsTo (next_body types) body end → is_no_name body ≡ false
leads_somewhere types body end (at_once _ _ step) = some_turn types (name_of body) end step
leads_somewhere types body end (later _ b _ step rest) = some_turn types (name_of body) b step

first_turn : (types : List TypeDefinition) (n : ℕ) (body end : TypeBody) (here : Bool) → is_no_name body ≡ here → cond here (Some body) (find is_no_name (led_to (next_body types) n body)) ≡ Some end
    → (is_no_name end ≡ true) × ((body ≡ end) ⊎ LeadsTo (next_body types) body end)
first_turn types n body end true e found = let same : body ≡ end = cc in (sym (ap is_no_name same) ∙ e, inl same)
first_turn types n body end false e found = let leads = found_leads (next_body types) is_no_name n body end found in (leads.1, inr leads.0)

end_is_found : (types : List TypeDefinition) (body end : TypeBody) → is_no_name end ≡ true → LeadsTo (next_body types) body end → behind_names types body ≡ Some end
end_is_found types body end last leads =
    let rest : List TypeBody = led_to (next_body types) (length types) body in
    let met : list_any is_no_name rest ≡ true = all_reached name_of (length types) (body_named types) (type_names types) is_no_name body end (as_many types) (only_bodies types) leads last in
    let found = found_among is_no_name rest met in
    let other = found_leads (next_body types) is_no_name (length types) body found.0 found.1 in
    ap (λ b. cond b (Some body) (find is_no_name rest)) (leads_somewhere types body end leads)
    ∙ found.1
    ∙ ap Some (ends_same (next_body types) body found.0 end other.0 leads (leads_nowhere types found.0 other.1) (leads_nowhere types end last))

pub behind_names_in_any : BehindNamesInAny
behind_names_in_any types body end = (
  λ found. first_turn types (length types) body end (is_no_name body) refl found,
  λ h. elim h.1 [
    | inl here ↦ ap (λ b. cond b (Some body) (find is_no_name (led_to (next_body types) (length types) body))) (ap is_no_name here ∙ h.0) ∙ ap Some here
    | inr leads ↦ end_is_found types body end h.0 leads
  ],
)

-- The aliases of correlation variables lead to values by the numbers of types as they do by their names.
use Rattle.std.proofs.Common.{◌≡◌, ℕ, zero, suc, ℤ, pos, negsuc, Bool, true, false, List, [], ◌∷◌, map, length, Option, None, Some, cond, slice_get, refl, ap, sym, ◌∙◌, bytes_eq}
use Rattle.std.specs.Prelude.{◌&&◌, ◌==◌, find, not, is_some, if◌then◌else◌, option_map, option_and_then, unwrap_or}
use Rattle.std.specs.Ordering.{int_eq}
use Rattle.std.proofs.lemmas.Bool.{and_right, eq-eqb, eqb-true, false≢true}
use Rattle.std.proofs.lemmas.Bool.Decides.{Decides-int_eq}
use Rattle.std.proofs.lemmas.List.{length-map}
use Rattle.jolie_ast.specs.declared.name.Name.{Name}
use Rattle.jolie_ast.specs.declared.types.RootKind.{RootKind}
use Rattle.jolie_ast.specs.declared.types.RootKind.TheVariants as written
use Rattle.jolie_ast.specs.declared.types.Cardinality.{Cardinality}
use Rattle.jolie_ast.specs.declared.types.Cardinality.TheVariants as cardinality
use Rattle.jolie_ast.specs.declared.types.TypeDefinition.{TypeDefinition}
use Rattle.jolie_ast.specs.declared.types.TypeBody.{TypeBody, roll-TypeBody, out-TypeBody, roll-out-TypeBody}
use Rattle.jolie_ast.specs.declared.types.TypeBody.TheVariants as body
use Rattle.jolie_ast.specs.declared.types.TypeBody.TheOpen.{TypeBody-F}
use Rattle.jolie_ast.specs.declared.types.Field.{Field, out-Field}
use Rattle.jolie_ast.specs.declared.service.Alias.{Alias}
use Rattle.behaviour_tree.specs.Data as plain
use Rattle.behaviour_tree.specs.Data.{TypeTree}
use Rattle.behaviour_tree.specs.Conforms.{shape}
use Rattle.behaviour_tree.specs.View.{FieldView, type_fields_of}
use Rattle.behaviour_tree.specs.FormedSets as formed_sets
use Rattle.behaviour_tree.specs.FormedSets.{fields_of, once_at, is_alias}
use Rattle.behaviour_tree.specs.Distinct.{is_in}
use Rattle.check_base.specs.declared.refusal.CheckName.TheVariants.{UnknownType}
use Rattle.check_base.specs.Files.{place_in, type_named, type_names, body_of, name_in}
use Rattle.check_base.specs.TypeNames.{next_body, is_no_name, behind_names}
use Rattle.behaviour_tree.proofs.Leading.{from_there}
use Rattle.check_ports.proofs.Behind.{behind, behind_by}
use Rattle.check_ports.specs.SetRules.{is_once, field_named, is_value_kind, fields_in, is_value, once_in, leads_to_value, alias_type, wrong_alias}
use Rattle.lower_types.specs.LoweredTypes.{natural, lowered_kind, lowered_body, lowered_field, lowered_definition}
use Rattle.lower_types.specs.FieldBounds.{least_of, most_of}
use Rattle.service_check.specs.Programs.{lowered_alias}
use Rattle.service_check.proofs.Emptied.{holds}
use Rattle.lower_types.proofs.LoweredTypes.{root_lowered, named_lowered, undefined_lowered, field_is}
use Rattle.service_check.proofs.WellTypes.{lowered_types, type_is_there}

-- ---- fields that stand once

same_tests : (a b : Bool) → (a ≡ true → b ≡ true) → (b ≡ true → a ≡ true) → a ≡ b
same_tests true b there back = sym (there refl)
same_tests false true there back = back refl
same_tests false false there back = refl

one_from : (z : ℤ) → natural z ≡ 1 → z ≡ pos 1
one_from (pos n) e = ap pos e
one_from (negsuc n) e = cc

-- a number that is written as one
pub is_one : (z : ℤ) → (natural z == 1) ≡ int_eq z (pos 1)
is_one z =
    same_tests (natural z == 1) (int_eq z (pos 1)) (λ e. (Decides-int_eq z (pos 1)).1 (one_from z (eqb-true (natural z) 1 e))) (λ e. eq-eqb (natural z) 1 (ap natural ((Decides-int_eq z (pos 1)).0 e)))

-- a field that stands once has one at least and at most
pub stands_once : (c : Option Cardinality) → ((least_of c == 1) && (unwrap_or (most_of c) 0 == 1)) ≡ is_once c
stands_once None = refl
stands_once (Some cardinality.Optional) = refl
stands_once (Some cardinality.Any) = refl
stands_once (Some (cardinality.Between least None)) = and_right (natural least == 1) (0 == 1) refl
stands_once (Some (cardinality.Between least (Some most))) = ap (λ b. b && (natural most == 1)) (is_one least) ∙ ap (λ b. int_eq least (pos 1) && b) (is_one most)

-- ---- types behind their names

type_turn : (m : TypeDefinition → TypeTree) (b : Bool) (ty : TypeDefinition) (types : List TypeDefinition) (p : ℕ) (o : Option TypeDefinition) → slice_get (map m types) p ≡ option_map m o
    → slice_get (map m (ty ∷ types)) (if b then zero else suc p) ≡ option_map m (if b then Some ty else o)
type_turn m true ty types p o e = refl
type_turn m false ty types p o e = e

-- the type of a name stands at its place
pub type_at_place : (m : TypeDefinition → TypeTree) (types : List TypeDefinition) (t : List ℕ) → slice_get (map m types) (place_in (type_names types) t) ≡ option_map m (type_named types t)
type_at_place m [] t = refl
type_at_place m (ty ∷ types) t = type_turn m (bytes_eq ty.name.text t) ty types (place_in (type_names types) t) (type_named types t) (type_at_place m types t)

-- what a body means, by its form
lowered_by_form : (types : List (List ℕ)) (x y : TypeBody) (b : TypeBody-F TypeBody Field) → out-TypeBody x ≡ b → roll-TypeBody b ≡ y → lowered_body types x ≡ lowered_body types y
lowered_by_form types x y b form rolls = ap (lowered_body types) (sym (roll-out-TypeBody x) ∙ ap roll-TypeBody form ∙ rolls)

-- a body behind no names, by its form
abbrev pub if_no_name : TypeBody → TypeBody-F TypeBody Field → Option TypeBody
if_no_name x b = elim (name_in b) as (λ _. Option TypeBody) [ None ↦ Some x | Some name ↦ None ]

-- a body, or the one behind its name
abbrev pub behind_form : List TypeDefinition → ℕ → TypeBody → TypeBody-F TypeBody Field → Option TypeBody
behind_form types n x b = elim (name_in b) as (λ _. Option TypeBody) [ None ↦ Some x | Some name ↦ elim (type_named types name) as (λ _. Option TypeBody) [ None ↦ None | Some ty ↦ behind types n (body_of ty.body) ] ]

end_turn : (x : TypeBody) (o : Option (List ℕ)) → cond (not (is_some o)) (Some x) None ≡ (elim o as (λ _. Option TypeBody) [ None ↦ Some x | Some name ↦ None ])
end_turn x None = refl
end_turn x (Some name) = refl

-- a body behind no names, where no more names are followed
behind_at_end : (types : List TypeDefinition) (x : TypeBody) → behind types zero x ≡ if_no_name x (out-TypeBody x)
behind_at_end types x = end_turn x (name_in (out-TypeBody x))

named_turn : (types : List TypeDefinition) (n : ℕ) (o : Option TypeDefinition)
    → find is_no_name (from_there (next_body types) n (option_map (λ (ty : TypeDefinition). body_of ty.body) o)) ≡ (elim o as (λ _. Option TypeBody) [ None ↦ None | Some ty ↦ behind types n (body_of ty.body) ])
named_turn types n None = refl
named_turn types n (Some ty) = refl

further_turn : (types : List TypeDefinition) (n : ℕ) (x : TypeBody) (o : Option (List ℕ))
    → behind_by types n x o ≡ (elim o as (λ _. Option TypeBody) [ None ↦ Some x | Some name ↦ elim (type_named types name) as (λ _. Option TypeBody) [ None ↦ None | Some ty ↦ behind types n (body_of ty.body) ] ])
further_turn types n x None = refl
further_turn types n x (Some name) = named_turn types n (type_named types name)

-- a body, or the one behind its name, where one name more is followed
behind_further : (types : List TypeDefinition) (n : ℕ) (x : TypeBody) → behind types (suc n) x ≡ behind_form types n x (out-TypeBody x)
behind_further types n x = further_turn types n x (name_in (out-TypeBody x))

behind_there : (types : List TypeDefinition) (n : ℕ) (o : Option TypeDefinition)
    → ((x : TypeBody) → shape (lowered_types types) n (lowered_body (type_names types) x) ≡ option_map (lowered_body (type_names types)) (behind types n x))
    → option_and_then (shape (lowered_types types) n) (option_map (lowered_definition (type_names types)) o)
    ≡ option_map (lowered_body (type_names types)) (elim o as (λ _. Option TypeBody) [ None ↦ None | Some ty ↦ behind types n (body_of ty.body) ])
behind_there types n None same = refl
behind_there types n (Some ty) same = same (body_of ty.body)

shape_at_end : (types : List TypeDefinition) (x : TypeBody) (b : TypeBody-F TypeBody Field) → out-TypeBody x ≡ b → shape (lowered_types types) zero (lowered_body (type_names types) x) ≡ option_map (lowered_body (type_names types)) (if_no_name x b)
shape_at_end types x (TypeBody-F.Root at kind fields) form =
    let means : lowered_body (type_names types) x ≡ plain.plain (lowered_kind kind) (type_fields_of (map (lowered_field (type_names types)) (unwrap_or fields []))) =
    lowered_by_form (type_names types) x (body.Root at kind fields) (TypeBody-F.Root at kind fields) form (body.rolls-Root at kind fields) ∙ root_lowered (type_names types) at kind fields in
    ap (shape (lowered_types types) zero) means ∙ ap Some (sym means)
shape_at_end types x (TypeBody-F.Named n) form =
    ap (shape (lowered_types types) zero) (lowered_by_form (type_names types) x (body.Named n) (TypeBody-F.Named n) form (body.rolls-Named n) ∙ named_lowered (type_names types) n)
shape_at_end types x (TypeBody-F.Undefined at) form =
    let means : lowered_body (type_names types) x ≡ plain.undefined = lowered_by_form (type_names types) x (body.Undefined at) (TypeBody-F.Undefined at) form (body.rolls-Undefined at) ∙ undefined_lowered (type_names types) at in
    ap (shape (lowered_types types) zero) means ∙ ap Some (sym means)

shape_further : (types : List TypeDefinition) (n : ℕ) (x : TypeBody) (b : TypeBody-F TypeBody Field) → out-TypeBody x ≡ b
    → ((y : TypeBody) → shape (lowered_types types) n (lowered_body (type_names types) y) ≡ option_map (lowered_body (type_names types)) (behind types n y))
    → shape (lowered_types types) (suc n) (lowered_body (type_names types) x) ≡ option_map (lowered_body (type_names types)) (behind_form types n x b)
shape_further types n x (TypeBody-F.Root at kind fields) form same =
    let means : lowered_body (type_names types) x ≡ plain.plain (lowered_kind kind) (type_fields_of (map (lowered_field (type_names types)) (unwrap_or fields []))) =
    lowered_by_form (type_names types) x (body.Root at kind fields) (TypeBody-F.Root at kind fields) form (body.rolls-Root at kind fields) ∙ root_lowered (type_names types) at kind fields in
    ap (shape (lowered_types types) (suc n)) means ∙ ap Some (sym means)
shape_further types n x (TypeBody-F.Named m) form same =
    ap (shape (lowered_types types) (suc n)) (lowered_by_form (type_names types) x (body.Named m) (TypeBody-F.Named m) form (body.rolls-Named m) ∙ named_lowered (type_names types) m)
    ∙ ap (option_and_then (shape (lowered_types types) n)) (type_at_place (lowered_definition (type_names types)) types m.text)
    ∙ behind_there types n (type_named types m.text) same
shape_further types n x (TypeBody-F.Undefined at) form same =
    let means : lowered_body (type_names types) x ≡ plain.undefined = lowered_by_form (type_names types) x (body.Undefined at) (TypeBody-F.Undefined at) form (body.rolls-Undefined at) ∙ undefined_lowered (type_names types) at in
    ap (shape (lowered_types types) (suc n)) means ∙ ap Some (sym means)

-- the type behind the numbers of a body is that behind its names
pub shape_is : (types : List TypeDefinition) (n : ℕ) (x : TypeBody) → shape (lowered_types types) n (lowered_body (type_names types) x) ≡ option_map (lowered_body (type_names types)) (behind types n x)
shape_is types zero x = shape_at_end types x (out-TypeBody x) refl ∙ ap (option_map (lowered_body (type_names types))) (sym (behind_at_end types x))
shape_is types (suc n) x = shape_further types n x (out-TypeBody x) refl (shape_is types n) ∙ ap (option_map (lowered_body (type_names types))) (sym (behind_further types n x))

-- ---- chains of fields

-- the fields of a body, by its form
fields_lowered : (types : List (List ℕ)) (x : TypeBody) (b : TypeBody-F TypeBody Field) → out-TypeBody x ≡ b → fields_of (lowered_body types x) ≡ type_fields_of (map (lowered_field types) (fields_in b))
fields_lowered types x (TypeBody-F.Root at kind None) form =
    ap fields_of (lowered_by_form types x (body.Root at kind None) (TypeBody-F.Root at kind None) form (body.rolls-Root at kind None) ∙ root_lowered types at kind None)
fields_lowered types x (TypeBody-F.Root at kind (Some fields)) form =
    ap fields_of (lowered_by_form types x (body.Root at kind (Some fields)) (TypeBody-F.Root at kind (Some fields)) form (body.rolls-Root at kind (Some fields)) ∙ root_lowered types at kind (Some fields))
fields_lowered types x (TypeBody-F.Named n) form = ap fields_of (lowered_by_form types x (body.Named n) (TypeBody-F.Named n) form (body.rolls-Named n) ∙ named_lowered types n)
fields_lowered types x (TypeBody-F.Undefined at) form = ap fields_of (lowered_by_form types x (body.Undefined at) (TypeBody-F.Undefined at) form (body.rolls-Undefined at) ∙ undefined_lowered types at)

value_kind : (k : RootKind) → formed_sets.is_value_kind (lowered_kind k) ≡ is_value_kind k
value_kind written.Void = refl
value_kind written.Bool = refl
value_kind written.Int = refl
value_kind written.Long = refl
value_kind written.Str = refl
value_kind written.Any = refl

-- whether a body is a value, by its form
value_lowered : (types : List (List ℕ)) (x : TypeBody) (b : TypeBody-F TypeBody Field) → out-TypeBody x ≡ b → formed_sets.is_value (lowered_body types x) ≡ is_value b
value_lowered types x (TypeBody-F.Root at kind fields) form =
    ap formed_sets.is_value (lowered_by_form types x (body.Root at kind fields) (TypeBody-F.Root at kind fields) form (body.rolls-Root at kind fields) ∙ root_lowered types at kind fields) ∙ value_kind kind
value_lowered types x (TypeBody-F.Named n) form = ap formed_sets.is_value (lowered_by_form types x (body.Named n) (TypeBody-F.Named n) form (body.rolls-Named n) ∙ named_lowered types n)
value_lowered types x (TypeBody-F.Undefined at) form = ap formed_sets.is_value (lowered_by_form types x (body.Undefined at) (TypeBody-F.Undefined at) form (body.rolls-Undefined at) ∙ undefined_lowered types at)

-- the type of a field, where it stands once
abbrev pub if_once : List (List ℕ) → Field → Option TypeTree
if_once types f = if is_once (out-Field f).cardinality then Some (lowered_body types (out-Field f).body) else None

-- a view that is found, or one behind it
abbrev found_or : List ℕ → Option TypeTree → FieldView → Option TypeTree
found_or name rest v = if bytes_eq v.name name then (if (v.least == 1) && (unwrap_or v.most 0 == 1) then Some v.ty else None) else rest

found_turn : (types : List (List ℕ)) (b : Bool) (f : Field) (o : Option Field) (rest : Option TypeTree) → rest ≡ option_and_then (if_once types) o
    → (if b then if_once types f else rest) ≡ option_and_then (if_once types) (if b then Some f else o)
found_turn types true f o rest e = refl
found_turn types false f o rest e = e

-- the field of a name
pub field_found : (types : List (List ℕ)) (fields : List Field) (name : List ℕ) → formed_sets.once_in (type_fields_of (map (lowered_field types) fields)) name ≡ option_and_then (if_once types) (field_named fields name)
field_found types [] name = refl
field_found types (f ∷ fields) name =
    let rest : Option TypeTree = formed_sets.once_in (type_fields_of (map (lowered_field types) fields)) name in
    ap (found_or name rest) (field_is types f)
    ∙ ap (λ b. if bytes_eq (out-Field f).name.text name then (if b then Some (lowered_body types (out-Field f).body) else None) else rest) (stands_once (out-Field f).cardinality)
    ∙ found_turn types (bytes_eq (out-Field f).name.text name) f (field_named fields name) rest (field_found types fields name)

behind_if : (types : List TypeDefinition) (n : ℕ) (b : Bool) (x : TypeBody) → option_and_then (shape (lowered_types types) n) (if b then Some (lowered_body (type_names types) x) else None) ≡ option_map (lowered_body (type_names types)) (if b then behind types n x else None)
behind_if types n true x = shape_is types n x
behind_if types n false x = refl

once_there : (types : List TypeDefinition) (n : ℕ) (o : Option Field) → option_and_then (shape (lowered_types types) n) (option_and_then (if_once (type_names types)) o)
    ≡ option_map (lowered_body (type_names types)) (option_and_then (λ (f : Field). if is_once (out-Field f).cardinality then behind types n (out-Field f).body else None) o)
once_there types n None = refl
once_there types n (Some f) = behind_if types n (is_once (out-Field f).cardinality) (out-Field f).body

-- a field that stands once leads to the same type
pub once_alike : (types : List TypeDefinition) (x : TypeBody) (n : Name) → once_at (lowered_types types) (lowered_body (type_names types) x) n.text ≡ option_map (lowered_body (type_names types)) (once_in types x n)
once_alike types x n =
    ap (λ k. option_and_then (shape (lowered_types types) k) (formed_sets.once_in (fields_of (lowered_body (type_names types) x)) n.text)) (length-map types (lowered_definition (type_names types)))
    ∙ ap (λ fs. option_and_then (shape (lowered_types types) (length types)) (formed_sets.once_in fs n.text)) (fields_lowered (type_names types) x (out-TypeBody x) refl)
    ∙ ap (option_and_then (shape (lowered_types types) (length types))) (field_found (type_names types) (fields_in (out-TypeBody x)) n.text)
    ∙ once_there types (length types) (field_named (fields_in (out-TypeBody x)) n.text)

-- a chain leads to a value by numbers as by names
pub leads_alike : (types : List TypeDefinition) (o : Option TypeBody) (path : List Name)
    → formed_sets.leads_to_value (lowered_types types) (option_map (lowered_body (type_names types)) o) (map (λ (n : Name). n.text) path) ≡ leads_to_value types o path
leads_alike types None path = refl
leads_alike types (Some x) [] = value_lowered (type_names types) x (out-TypeBody x) refl
leads_alike types (Some x) (n ∷ path) =
    ap (λ o. formed_sets.leads_to_value (lowered_types types) o (map (λ (m : Name). m.text) path)) (once_alike types x n) ∙ leads_alike types (once_in types x n) path

-- ---- aliases

alias_there : (types : List TypeDefinition) (n : ℕ) (o : Option TypeDefinition) → option_and_then (shape (lowered_types types) n) (option_map (lowered_definition (type_names types)) o)
    ≡ option_map (lowered_body (type_names types)) (option_and_then (λ (ty : TypeDefinition). behind types n (body_of ty.body)) o)
alias_there types n None = refl
alias_there types n (Some ty) = shape_is types n (body_of ty.body)

-- an alias that is not refused
pub alias_formed : (types : List TypeDefinition) (a : Alias) → wrong_alias types a ≡ [] → is_alias (lowered_types types) (lowered_alias (type_names types) a) ≡ true
alias_formed types a e =
    ap (λ k. formed_sets.leads_to_value (lowered_types types) (option_and_then (shape (lowered_types types) k) (slice_get (lowered_types types) (place_in (type_names types) a.ty.text))) (map (λ (n : Name). n.text) (a.first ∷ a.rest))) (length-map types (lowered_definition (type_names types)))
    ∙ ap (λ o. formed_sets.leads_to_value (lowered_types types) (option_and_then (shape (lowered_types types) (length types)) o) (map (λ (n : Name). n.text) (a.first ∷ a.rest))) (type_at_place (lowered_definition (type_names types)) types a.ty.text)
    ∙ ap (λ o. formed_sets.leads_to_value (lowered_types types) o (map (λ (n : Name). n.text) (a.first ∷ a.rest))) (alias_there types (length types) (type_named types a.ty.text))
    ∙ leads_alike types (alias_type types a) (a.first ∷ a.rest)
    ∙ holds (leads_to_value types (alias_type types a) (a.first ∷ a.rest)) UnknownType a.ty.at e

known_by : (types : List TypeDefinition) (path : List Name) (o : Option TypeDefinition) → leads_to_value types (option_and_then (λ (ty : TypeDefinition). behind_names types (body_of ty.body)) o) path ≡ true → is_some o ≡ true
known_by types path None e = absurd (false≢true e)
known_by types path (Some ty) e = refl

-- the type that it begins at is there
pub alias_known : (types : List TypeDefinition) (a : Alias) → wrong_alias types a ≡ [] → is_in a.ty.text (type_names types) ≡ true
alias_known types a e =
    sym (type_is_there types a.ty.text)
    ∙ known_by types (a.first ∷ a.rest) (type_named types a.ty.text) (holds (leads_to_value types (alias_type types a) (a.first ∷ a.rest)) UnknownType a.ty.at e)

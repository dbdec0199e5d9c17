-- The types of a file are well formed where nothing is refused of them.
use Rattle.std.proofs.Common.{◌≡◌, ℕ, zero, suc, ◌+◌, Bool, true, false, arith, List, [], ◌∷◌, ◌++◌, map, flat_map, length, Option, None, Some, slice_get, refl, ap, sym, subst, ◌∙◌, bytes_eq}
use Rattle.std.specs.Prelude.{not, ◌||◌, is_some, if◌then◌else◌, option_map, option_and_then}
use Rattle.std.specs.List.{list_all}
use Rattle.std.proofs.lemmas.Bool.{and_from, and_parts, not-true, not_from_false, or_left, or_right, false≢true}
use Rattle.std.proofs.lemmas.List.{length-map}
use Rattle.std.proofs.lemmas.Option.{same_Some, slice_get-map}
use Rattle.std.proofs.lemmas.Slice.Eq.{bytes_eq-Decides}
use Rattle.jolie_ast.specs.declared.name.Name.{Name}
use Rattle.jolie_ast.specs.declared.types.RootKind.{RootKind}
use Rattle.jolie_ast.specs.declared.types.Cardinality.{Cardinality}
use Rattle.jolie_ast.specs.declared.types.TypeDefinition.{TypeDefinition}
use Rattle.jolie_ast.specs.declared.types.TypeBody.{TypeBody, roll-TypeBody, out-TypeBody, roll-out-TypeBody}
use Rattle.jolie_ast.specs.declared.types.TypeBody.TheVariants as body
use Rattle.jolie_ast.specs.declared.types.TypeBody.TheOpen.{TypeBody-F}
use Rattle.jolie_ast.specs.declared.types.TypeBody.TheFolds.{map-TypeBody, ind-TypeBody, fold-roll-Field}
use Rattle.jolie_ast.specs.declared.types.Field.{Field, out-Field, roll-Field}
use Rattle.behaviour_tree.specs.Data.{TypeTree}
use Rattle.behaviour_tree.specs.View.{FieldView, type_fields_of}
use Rattle.behaviour_tree.specs.Distinct.{texts_differ, is_in}
use Rattle.behaviour_tree.specs.Leading.{led_to}
use Rattle.behaviour_tree.specs.Operations.{is_among}
use Rattle.behaviour_tree.specs.FormedTypes.{field_names, is_type, are_fields, number_in, next_number, number_leads_back, none_leads_back, are_types}
use Rattle.check_base.specs.declared.refusal.CheckName.TheVariants.{DuplicateName, UnknownType}
use Rattle.check_base.specs.declared.refusal.Refusal.{Refusal}
use Rattle.check_base.specs.Repeated.{place_of}
use Rattle.check_base.specs.Files.{place_in, type_named, type_names, body_of, name_in}
use Rattle.check_types.specs.TypeRules as rule
use Rattle.check_types.specs.TypeRules.{FieldFound, unknown_type, body_refused, field_refused, field_names_refused, circle, type_refused}
use Rattle.check_base.specs.TypeNames.{leads_back}
use Rattle.check_types.specs.Circles.{name_of, next_place}
use Rattle.lower_types.specs.LoweredTypes.{body_level, field_level, lowered_body, lowered_field, lowered_definition}
use Rattle.check_types.proofs.BodyRules as rules
use Rattle.service_check.proofs.Emptied.{left_empty, right_empty, fails, holds, mapped_empty, place_empty, another_text, has_place, names_differ}
use Rattle.check_types.proofs.Leading.{leads_by_place}
use Rattle.lower_types.proofs.LoweredTypes.{root_lowered, named_lowered, undefined_lowered, field_is}
use Rattle.behaviour_tree.proofs.Leading.{led_alike}

-- ---- types by their names

type_turn : (b : Bool) (ty : TypeDefinition) (o : Option TypeDefinition) (i : Bool) → is_some o ≡ i → is_some (if b then Some ty else o) ≡ (b || i)
type_turn true ty o i e = refl
type_turn false ty o i e = e

-- a type is found where its name is there
pub type_is_there : (types : List TypeDefinition) (name : List ℕ) → is_some (type_named types name) ≡ is_in name (type_names types)
type_is_there [] name = refl
type_is_there (ty ∷ types) name = type_turn (bytes_eq ty.name.text name) ty (type_named types name) (is_in name (type_names types)) (type_is_there types name)

-- a name of a type that is not refused is there
pub known_type : (types : List TypeDefinition) (n : Name) → unknown_type types n ≡ [] → is_in n.text (type_names types) ≡ true
known_type types n e = sym (type_is_there types n.text) ∙ holds (is_some (type_named types n.text)) UnknownType n.at e

-- ---- the bodies of types

abbrev pub BodyFormed : List TypeDefinition → TypeBody → Type 0
BodyFormed types x = body_refused types x ≡ [] → is_type (length (type_names types)) (lowered_body (type_names types) x) ≡ true

abbrev pub FieldFormed : List TypeDefinition → Field → Type 0
FieldFormed types f = field_refused types f ≡ [] → is_type (length (type_names types)) (lowered_field (type_names types) f).ty ≡ true

abbrev KnownBody : List TypeDefinition → Type 0
KnownBody types = (x : TypeBody) × BodyFormed types x

abbrev KnownField : List TypeDefinition → Type 0
KnownField types = (f : Field) × FieldFormed types f

-- the fields of which this is known
abbrev fields_by : (types : List TypeDefinition) → List (KnownField types) → List Field
fields_by types fields = map (λ f. f.0) fields

fields_known : (types : List TypeDefinition) (fields : List (KnownField types)) → flat_map (field_refused types) (fields_by types fields) ≡ []
    → are_fields (length (type_names types)) (type_fields_of (map (lowered_field (type_names types)) (fields_by types fields))) ≡ true
fields_known types [] e = refl
fields_known types (f ∷ fields) e =
    and_from (is_type (length (type_names types)) (lowered_field (type_names types) f.0).ty)
    (are_fields (length (type_names types)) (type_fields_of (map (lowered_field (type_names types)) (fields_by types fields))))
    (f.1 (left_empty (field_refused types f.0) (flat_map (field_refused types) (fields_by types fields)) e))
    (fields_known types fields (right_empty (field_refused types f.0) (flat_map (field_refused types) (fields_by types fields)) e))

-- the names of fields are kept
pub field_texts : (types : List (List ℕ)) (fields : List Field) → field_names (type_fields_of (map (lowered_field types) fields)) ≡ map (λ (n : Name). n.text) (map (λ (f : Field). (out-Field f).name) fields)
field_texts types [] = refl
field_texts types (f ∷ fields) =
    ap (λ (v : FieldView). v.name ∷ field_names (type_fields_of (map (lowered_field types) fields))) (field_is types f)
    ∙ ap (λ ts. (out-Field f).name.text ∷ ts) (field_texts types fields)

abbrev body_by : (types : List TypeDefinition) → TypeBody-F (KnownBody types) (KnownField types) → TypeBody
body_by types y = roll-TypeBody (map-TypeBody (KnownBody types) (KnownField types) TypeBody Field (λ e. e.0) (λ e. e.0) y)

root_formed : (types : List TypeDefinition) (at : ℕ) (kind : RootKind) (fields : List (KnownField types)) → BodyFormed types (body.Root at kind (Some (fields_by types fields)))
root_formed types at kind fields e =
    let fs : List Field = fields_by types fields in
    let none : field_names_refused fs ++ flat_map (field_refused types) fs ≡ [] = sym (rules.root_with_fields types at kind fs) ∙ e in
    ap (is_type (length (type_names types))) (root_lowered (type_names types) at kind (Some fs))
    ∙ and_from (texts_differ (field_names (type_fields_of (map (lowered_field (type_names types)) fs)))) (are_fields (length (type_names types)) (type_fields_of (map (lowered_field (type_names types)) fs)))
    (ap texts_differ (field_texts (type_names types) fs) ∙ names_differ DuplicateName (map (λ (f : Field). (out-Field f).name) fs) (left_empty (field_names_refused fs) (flat_map (field_refused types) fs) none))
    (fields_known types fields (right_empty (field_names_refused fs) (flat_map (field_refused types) fs) none))

body_known : (types : List TypeDefinition) (y : TypeBody-F (KnownBody types) (KnownField types)) → BodyFormed types (body_by types y)
body_known types (TypeBody-F.Root at kind None) =
    subst (BodyFormed types) (sym (body.rolls-Root at kind None)) (λ e. ap (is_type (length (type_names types))) (root_lowered (type_names types) at kind None))
body_known types (TypeBody-F.Root at kind (Some fields)) = subst (BodyFormed types) (sym (body.rolls-Root at kind (Some (fields_by types fields)))) (root_formed types at kind fields)
body_known types (TypeBody-F.Named n) =
    subst (BodyFormed types) (sym (body.rolls-Named n))
    (λ e. ap (is_type (length (type_names types))) (named_lowered (type_names types) n) ∙ has_place (type_names types) n.text (known_type types n (sym (rules.named_body types n) ∙ e)))
body_known types (TypeBody-F.Undefined at) =
    subst (BodyFormed types) (sym (body.rolls-Undefined at)) (λ e. ap (is_type (length (type_names types))) (undefined_lowered (type_names types) at))

-- what is refused of a field that is made of its parts
field_made_refused : (types : List TypeDefinition) (name : Name) (count : Option Cardinality) (ty : TypeBody) → field_refused types (roll-Field (record { name = name; cardinality = count; body = ty })) ≡ body_refused types ty
unfolding body_refused
field_made_refused types name count ty =
    sym (ap (λ (f : FieldFound). f.below) (rules.found_is types (roll-Field (record { name = name; cardinality = count; body = ty }))))
    ∙ ap (λ (f : FieldFound). f.below) (fold-roll-Field (List Refusal) FieldFound (rule.body_level types) rule.field_level (record { name = name; cardinality = count; body = ty }))

-- what it means
field_made_lowered : (types : List (List ℕ)) (name : Name) (count : Option Cardinality) (ty : TypeBody) → (lowered_field types (roll-Field (record { name = name; cardinality = count; body = ty }))).ty ≡ lowered_body types ty
unfolding lowered_body lowered_field
field_made_lowered types name count ty = ap (λ (v : FieldView). v.ty) (fold-roll-Field TypeTree FieldView (body_level types) field_level (record { name = name; cardinality = count; body = ty }))

field_known : (types : List TypeDefinition) (name : Name) (count : Option Cardinality) (ty : KnownBody types) → FieldFormed types (roll-Field (record { name = name; cardinality = count; body = ty.0 }))
field_known types name count (ty, k) e = ap (is_type (length (type_names types))) (field_made_lowered (type_names types) name count ty) ∙ k (sym (field_made_refused types name count ty) ∙ e)

-- ---- by induction

-- the type of a body of which nothing is refused
pub body_formed : (types : List TypeDefinition) (x : TypeBody) → BodyFormed types x
body_formed types = ind-TypeBody (BodyFormed types) (FieldFormed types)
    (λ x y is. subst (λ z. BodyFormed types (roll-TypeBody z)) is (body_known types y))
    (λ x y is. subst (λ z. FieldFormed types (roll-Field z)) is (field_known types y.name y.cardinality y.body))

-- ---- types that lead to types

-- the types of a file as plain data
abbrev pub lowered_types : List TypeDefinition → List TypeTree
lowered_types types = map (lowered_definition (type_names types)) types

place_turn : (b : Bool) (o : Option ℕ) (p : ℕ) → (b ≡ false → o ≡ Some p) → (if b then Some 0 else option_map suc o) ≡ Some (if b then zero else suc p)
place_turn true o p h = refl
place_turn false o p h = ap (option_map suc) (h refl)

-- a text that is there is found at its place
pub place_is_found : (ts : List (List ℕ)) (t : List ℕ) → is_in t ts ≡ true → place_of ts t ≡ Some (place_in ts t)
place_is_found [] t there = absurd (false≢true there)
place_is_found (s ∷ ts) t there = place_turn (bytes_eq s t) (place_of ts t) (place_in ts t) (λ other. place_is_found ts t (ap (λ b. b || is_in t ts) (sym other) ∙ there))

-- a text at a place is there
pub text_is_in : (ts : List (List ℕ)) (j : ℕ) (t : List ℕ) → slice_get ts j ≡ Some t → is_in t ts ≡ true
text_is_in [] j t e = cc
text_is_in (s ∷ ts) zero t e = or_left (bytes_eq s t) (is_in t ts) ((bytes_eq-Decides s t).1 (same_Some s t e))
text_is_in (s ∷ ts) (suc j) t e = or_right (bytes_eq s t) (is_in t ts) (text_is_in ts j t e)

-- where texts differ, the text at a place is first found there
pub own_place : (ts : List (List ℕ)) (j : ℕ) (t : List ℕ) → texts_differ ts ≡ true → slice_get ts j ≡ Some t → place_of ts t ≡ Some j
own_place [] j t differ e = cc
own_place (s ∷ ts) zero t differ e = ap (λ b. if b then Some 0 else option_map suc (place_of ts t)) ((bytes_eq-Decides s t).1 (same_Some s t e))
own_place (s ∷ ts) (suc j) t differ e =
    let parts : (not (is_in s ts) ≡ true) × (texts_differ ts ≡ true) = and_parts (not (is_in s ts)) (texts_differ ts) differ in
    ap (λ b. if b then Some 0 else option_map suc (place_of ts t)) (another_text (bytes_eq s t) s t ts refl (not-true (is_in s ts) parts.0) (text_is_in ts j t e))
    ∙ ap (option_map suc) (own_place ts j t parts.1 e)

-- the number that a body is has the place of its name
number_of_form : (types : List TypeDefinition) (b : TypeBody-F TypeBody Field) → body_refused types (roll-TypeBody b) ≡ [] → number_in (lowered_body (type_names types) (roll-TypeBody b)) ≡ option_and_then (place_of (type_names types)) (name_in b)
number_of_form types (TypeBody-F.Root at kind fields) e =
    ap (λ x. number_in (lowered_body (type_names types) x)) (body.rolls-Root at kind fields) ∙ ap number_in (root_lowered (type_names types) at kind fields)
number_of_form types (TypeBody-F.Named n) e =
    ap (λ x. number_in (lowered_body (type_names types) x)) (body.rolls-Named n)
    ∙ ap number_in (named_lowered (type_names types) n)
    ∙ sym (place_is_found (type_names types) n.text (known_type types n (sym (rules.named_body types n) ∙ sym (ap (body_refused types) (body.rolls-Named n)) ∙ e)))
number_of_form types (TypeBody-F.Undefined at) e =
    ap (λ x. number_in (lowered_body (type_names types) x)) (body.rolls-Undefined at) ∙ ap number_in (undefined_lowered (type_names types) at)

number_of_body : (types : List TypeDefinition) (x : TypeBody) → body_refused types x ≡ [] → number_in (lowered_body (type_names types) x) ≡ option_and_then (place_of (type_names types)) (name_in (out-TypeBody x))
number_of_body types x e =
    sym (ap (λ y. number_in (lowered_body (type_names types) y)) (roll-out-TypeBody x))
    ∙ number_of_form types (out-TypeBody x) (ap (body_refused types) (roll-out-TypeBody x) ∙ e)

number_there : (types : List TypeDefinition) (o : Option TypeDefinition) → ((ty : TypeDefinition) → o ≡ Some ty → body_refused types (body_of ty.body) ≡ [])
    → option_and_then number_in (option_map (lowered_definition (type_names types)) o) ≡ option_and_then (place_of (type_names types)) (option_and_then name_of o)
number_there types None e = refl
number_there types (Some ty) e = number_of_body types (body_of ty.body) (e ty refl)

-- numbers lead where names lead
pub number_leads : (types : List TypeDefinition) → flat_map (type_refused types) types ≡ [] → (q : ℕ) → next_number (lowered_types types) q ≡ next_place types q
number_leads types e q =
    ap (option_and_then number_in) (slice_get-map (lowered_definition (type_names types)) types q)
    ∙ number_there types (slice_get types q) (λ ty there. left_empty (body_refused types (body_of ty.body)) (circle types ty) (place_empty (type_refused types) types q ty e there))

-- a type whose name does not lead back: its number does not
no_way_back : (types : List TypeDefinition) (j : ℕ) (ty : TypeDefinition) → flat_map (type_refused types) types ≡ [] → texts_differ (type_names types) ≡ true → slice_get types j ≡ Some ty
    → is_among (led_to (next_number (lowered_types types)) (length types) j) j ≡ false
no_way_back types j ty e differ there =
    let place : place_of (type_names types) ty.name.text ≡ Some j = own_place (type_names types) j ty.name.text differ (slice_get-map (λ (t : TypeDefinition). t.name.text) types j ∙ ap (option_map (λ (t : TypeDefinition). t.name.text)) there) in
    ap (λ ns. is_among ns j) (led_alike (next_number (lowered_types types)) (next_place types) (number_leads types e) (length types) j)
    ∙ sym (leads_by_place types (length types) j j ty.name.text ty.name.text place place)
    ∙ fails (leads_back types ty.name.text) UnknownType ty.name.at (right_empty (body_refused types (body_of ty.body)) (circle types ty) (place_empty (type_refused types) types j ty e there))

none_back : (all : List TypeTree) (m : TypeDefinition → TypeTree) (n : ℕ) (rest : List TypeDefinition) → ((j : ℕ) (ty : TypeDefinition) → slice_get rest j ≡ Some ty → number_leads_back all (n + j) ≡ false)
    → none_leads_back all n (map m rest) ≡ true
none_back all m n [] h = refl
none_back all m n (ty ∷ rest) h =
    let here : n + 0 ≡ n = omega arith in
    and_from (not (number_leads_back all n)) (none_leads_back all (suc n) (map m rest))
    (not_from_false (number_leads_back all n) (subst (λ k. number_leads_back all k ≡ false) here (h 0 ty refl)))
    (none_back all m (suc n) rest (λ j t there. let further : n + suc j ≡ suc n + j = omega arith in subst (λ k. number_leads_back all k ≡ false) further (h (suc j) t there)))

-- ---- the types of a file

-- types of which nothing is refused and whose names differ
pub types_formed : (types : List TypeDefinition) → texts_differ (type_names types) ≡ true → flat_map (type_refused types) types ≡ [] → are_types (lowered_types types) ≡ true
types_formed types differ e =
    let size : length (lowered_types types) ≡ length types = length-map types (lowered_definition (type_names types)) in
    let names : length (type_names types) ≡ length types = length-map types (λ (t : TypeDefinition). t.name.text) in
    and_from (list_all (is_type (length (lowered_types types))) (lowered_types types)) (none_leads_back (lowered_types types) 0 (lowered_types types))
    (ap (λ n. list_all (is_type n) (lowered_types types)) (size ∙ sym names)
    ∙ mapped_empty (type_refused types) (lowered_definition (type_names types)) (is_type (length (type_names types))) types
    (λ ty h. body_formed types (body_of ty.body) (left_empty (body_refused types (body_of ty.body)) (circle types ty) h)) e)
    (none_back (lowered_types types) (lowered_definition (type_names types)) 0 types
    (λ j ty there. let place : j ≡ 0 + j = omega arith in
    subst (λ k. number_leads_back (lowered_types types) k ≡ false) place
    (ap (λ n. is_among (led_to (next_number (lowered_types types)) n j) j) size ∙ no_way_back types j ty e differ there)))

use Rattle.std.proofs.Common.{◌≡◌, ◌∙◌, Some, None, map, ap, sym, rules}
use Rattle.behaviour_tree.specs.Data.{plain, named, undefined}
use Rattle.behaviour_tree.specs.View.{field_view, type_fields_of, type_view}
use Rattle.behaviour_tree.specs.declared.types.TypeDef as type_def
use Rattle.jsonrpc_text.proofs.Children.{fields-by}
use Rattle.jsonrpc_text.proofs.to_json.fields_behind.Goals as goal

pub returns-in-Some-Plain : goal.returns-in-Some-Plain
returns-in-Some-Plain c =
    let seen : type_view c.in-Some-Plain.field-0.now ≡ plain c.in-Some-Plain.field-0-0 (type_fields_of (map field_view c.in-Some-Plain.fields.items)) = search (rules, type_def.the_lemmas) in
    let same : type_fields_of (map field_view c.as_slice.result.now) ≡ type_fields_of (map field_view c.in-Some-Plain.fields.items) = search rules in
    same ∙ fields-by c.args.types.now (type_view c.args.ty.now) (Some _) (ap Some (sym seen) ∙ c.in-Some-Plain.ensures)

pub returns-in-Some-Undefined : goal.returns-in-Some-Undefined
returns-in-Some-Undefined c =
    let seen : type_view c.in-Some-Undefined.field-0.now ≡ undefined = search (rules, type_def.the_lemmas) in
    fields-by c.args.types.now (type_view c.args.ty.now) (Some undefined) (ap Some (sym seen) ∙ c.in-Some-Undefined.ensures)

pub returns-in-Some-Named : goal.returns-in-Some-Named
returns-in-Some-Named c =
    let seen : type_view c.in-Some-Named.field-0.now ≡ named c.in-Some-Named.field-0-0 = search (rules, type_def.the_lemmas) in
    fields-by c.args.types.now (type_view c.args.ty.now) (Some (named _)) (ap Some (sym seen) ∙ c.in-Some-Named.ensures)

pub returns-in-None : goal.returns-in-None
returns-in-None c = fields-by c.args.types.now (type_view c.args.ty.now) None c.in-None.ensures

use Rattle.std.proofs.Common.{◌∙◌, map, ap, sym}
use Rattle.jolie_trees.specs.TreeView.{fields_of}
use Rattle.behaviour_tree.specs.View.{field_view, type_fields_of}
use Rattle.message_types.specs.Breaches.{all_have_fields}
use Rattle.message_types.proofs.Breaks.{all_have_fields-refused}
use Rattle.message_types.proofs.breach.all_have_fields.Goals as goal

pub returns-then-not-have_field : goal.returns-then-not-have_field
returns-then-not-have_field c =
    let fields = type_fields_of (map field_view c.args.fields.now) in
    all_have_fields-refused c.in-Some.name.now c.in-Some.members.now (fields_of c.next.new.self) fields (sym c.if-not-have_field.true ∙ c.have_field.ensures)
    ∙ sym (ap (λ es. all_have_fields (fields_of es) fields) c.in-Some.ensures.steps)
    ∙ c.loop-name.invariant

use Rattle.std.proofs.Common.{◌≡◌, sym, ap, ◌∙◌, rules}
use Rattle.behaviour_tree.specs.Data.{named}
use Rattle.behaviour_tree.specs.PartsView.{variable_view}
use Rattle.behaviour_tree.specs.View.{type_view}
use Rattle.behaviour_tree.specs.declared.types.TypeDef as type_def
use Rattle.office_core.specs.Keys as keys
use Rattle.office_plain.specs.Lookups.{variable_of}
use Rattle.office_plain.proofs.aliases.alias_of.Goals as goal

pub returns-in-Named : goal.returns-in-Named
returns-in-Named c =
    let seen : type_view c.args.ty.now ≡ named c.in-Named.number = search (rules, type_def.the_lemmas) in
    c.path_in.ensures ∙ sym (ap (λ t. keys.alias_of t (variable_of 0 (variable_view c.args.variable.now))) seen)

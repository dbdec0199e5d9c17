use Rattle.std.proofs.Common.{ap, sym, subst, ◌∙◌, ◌≡◌, ◌++◌, [], ◌∷◌, List}
use Rattle.atomic_table.specs.Table.{opening}
use Rattle.behaviour_tree.specs.PartsView.{parts_of}
use Rattle.office_plain.specs.declared.office.Office.{Office}
use Rattle.office_sharing.specs.Rule.{IsShared}
use Rattle.office_sharing.specs.Views.{founder}
use Rattle.office_sharing.proofs.Dealing.{begins}
use Rattle.office_turn.proofs.opened.Opened.new.Goals as goal

pub new-requires : goal.new-requires
new-requires c =
    subst (λ (xs : List Office). IsShared (parts_of c.of-program.result.value) (opening (0 ∷ 0 ∷ []) xs founder))
    (sym (c.push_reserved.ensures.items ∙ ap (λ (xs : List Office). xs ++ c.args.office ∷ []) c.in-Ok.ensures.items))
    (begins (parts_of c.of-program.result.value) c.args.office
    (ap parts_of (sym (c.of-program.ensures ∙ c.program.ensures))) c.requires)

use Rattle.std.proofs.Common.{◌≡◌, ◌∙◌, Some, None, map, ap, sym, arith, rules}
use Rattle.jolie_trees.specs.TreeView.{trees_of}
use Rattle.behaviour_tree.specs.Data.{named, undefined}
use Rattle.behaviour_tree.specs.Conforms.{members_fit}
use Rattle.behaviour_tree.specs.View.{type_view}
use Rattle.behaviour_tree.specs.declared.types.TypeDef as type_def
use Rattle.jolie_trees.proofs.Vectors.{levels-member}
use Rattle.message_types.proofs.Fits.{fits-by, members_fit-none}
use Rattle.message_types.proofs.conform.+fits.Goals as goal

pub all_fit-fits-requires : goal.all_fit-fits-requires
all_fit-fits-requires t c =
    let lower = levels-member c.args.members.now c.loop-member.member-index c.member-item.result c.loop-member-test.true c.member-item.is in
    (omega (arith, lower), tt)

pub members_fit-returns-in-None : goal.members_fit-returns-in-None
members_fit-returns-in-None t c =
    members_fit-none (map type_view c.args.types.now) c.args.members.now c.is_empty.result c.is_empty.ensures
    ∙ ap (λ o. members_fit (map type_view c.args.types.now) (trees_of c.args.members.now) o) c.in-None.ensures

pub fits-returns-in-Some-Undefined : goal.fits-returns-in-Some-Undefined
fits-returns-in-Some-Undefined t c =
    let seen : type_view c.in-Some-Undefined.field-0.now ≡ undefined = search (rules, type_def.the_lemmas) in
    fits-by c.args.types.now c.args.value.now (type_view c.args.ty.now) (Some undefined) (ap Some (sym seen) ∙ c.in-Some-Undefined.ensures)

pub fits-returns-in-Some-Named : goal.fits-returns-in-Some-Named
fits-returns-in-Some-Named t c =
    let seen : type_view c.in-Some-Named.field-0.now ≡ named c.in-Some-Named.field-0-0 = search (rules, type_def.the_lemmas) in
    fits-by c.args.types.now c.args.value.now (type_view c.args.ty.now) (Some (named _)) (ap Some (sym seen) ∙ c.in-Some-Named.ensures)

pub fits-returns-in-None : goal.fits-returns-in-None
fits-returns-in-None t c = fits-by c.args.types.now c.args.value.now (type_view c.args.ty.now) None c.in-None.ensures

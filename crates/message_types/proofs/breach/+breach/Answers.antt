use Rattle.std.proofs.Common.{◌≡◌, ◌∙◌, Some, None, Vec, Global, true, false, map, ap, sym, subst, arith, rules}
use Rattle.std.specs.Prelude.{IfOk, option_map}
use Rattle.jolie_trees.specs.declared.path.Step.{Step}
use Rattle.jolie_trees.specs.Trees.{children_of, root_of}
use Rattle.jolie_trees.specs.TreeView.{trees_of}
use Rattle.behaviour_tree.specs.Data.{named, undefined, plain}
use Rattle.behaviour_tree.specs.View.{type_view, field_view, type_fields_of}
use Rattle.behaviour_tree.specs.declared.types.TypeDef as type_def
use Rattle.message_types.specs.Breaches.{fits_alone, breach, breach_of_children, breach_of_members}
use Rattle.jolie_trees.proofs.Vectors.{levels-member}
use Rattle.message_types.proofs.Breaks.{breach-by, breach-below, breach-here, breach_of_members-none, same_fields, size-member, length-members}
use Rattle.message_types.proofs.breach.+breach.Goals as goal

pub breach-returns-then-fits_alone : goal.breach-returns-then-fits_alone
breach-returns-then-fits_alone t c =
    let v = c.args.value.now in
    let types = c.args.types.now in
    let ty = type_view c.args.ty.now in
    let k = c.in-Some-Plain.kind in
    let fields = type_fields_of (map field_view c.deref.result.now) in
    let passed = type_fields_of (map field_view c.deref-then-fits_alone.result.now) in
    let seen : type_view c.in-Some-Plain.field-0.now ≡ plain k fields = search (rules, type_def.the_lemmas) in
    let seen_again : type_view c.in-Some-Plain.field-0.now ≡ plain k passed = search (rules, type_def.the_lemmas) in
    let fit : fits_alone k fields (root_of v) (children_of v) ≡ true =
    ap (λ q. fits_alone q fields (root_of v) (children_of v)) (sym c.in-Some-Plain.kind-is) ∙ sym c.fits_alone.ensures ∙ c.if-fits_alone.true in
    let same : breach_of_children (map type_view types) (children_of v) passed ≡ breach (map type_view types) v ty =
    ap (breach_of_children (map type_view types) (children_of v)) (same_fields k passed fields (sym seen_again ∙ seen))
    ∙ breach-below types v ty k fields (ap Some (sym seen) ∙ c.in-Some-Plain.ensures) fit in
    subst (λ b. IfOk c.breach_of_children.result (λ steps. option_map (λ (p : Vec Step Global). p.items) steps ≡ b)) same c.breach_of_children.ensures

pub breach-returns-else-fits_alone : goal.breach-returns-else-fits_alone
breach-returns-else-fits_alone t c =
    let v = c.args.value.now in
    let k = c.in-Some-Plain.kind in
    let fields = type_fields_of (map field_view c.deref.result.now) in
    let seen : type_view c.in-Some-Plain.field-0.now ≡ plain k fields = search (rules, type_def.the_lemmas) in
    let fit : fits_alone k fields (root_of v) (children_of v) ≡ false =
    ap (λ q. fits_alone q fields (root_of v) (children_of v)) (sym c.in-Some-Plain.kind-is) ∙ sym c.fits_alone.ensures ∙ c.if-fits_alone.false in
    ap Some c.new.ensures.items ∙ breach-here c.args.types.now v (type_view c.args.ty.now) k fields (ap Some (sym seen) ∙ c.in-Some-Plain.ensures) fit

pub breach-returns-in-Some-Undefined : goal.breach-returns-in-Some-Undefined
breach-returns-in-Some-Undefined t c =
    let seen : type_view c.in-Some-Undefined.field-0.now ≡ undefined = search (rules, type_def.the_lemmas) in
    breach-by c.args.types.now c.args.value.now (type_view c.args.ty.now) (Some undefined) (ap Some (sym seen) ∙ c.in-Some-Undefined.ensures)

pub breach-returns-in-Some-Named : goal.breach-returns-in-Some-Named
breach-returns-in-Some-Named t c =
    let seen : type_view c.in-Some-Named.field-0.now ≡ named c.in-Some-Named.field-0-0 = search (rules, type_def.the_lemmas) in
    ap Some c.new-in-Some-Named.ensures.items
    ∙ breach-by c.args.types.now c.args.value.now (type_view c.args.ty.now) (Some (named c.in-Some-Named.field-0-0)) (ap Some (sym seen) ∙ c.in-Some-Named.ensures)

pub breach-returns-in-None : goal.breach-returns-in-None
breach-returns-in-None t c = ap Some c.new-in-None.ensures.items ∙ breach-by c.args.types.now c.args.value.now (type_view c.args.ty.now) None c.in-None.ensures

pub breach_of_members-breach-requires : goal.breach_of_members-breach-requires
breach_of_members-breach-requires t c =
    let members = c.args.members.now in
    let i = c.loop-index.index in
    let lower = levels-member members i c.index-members-index.result c.loop-index-test.true c.index-members-index.is in
    let fewer = size-member members i c.index-members-index.result c.loop-index-test.true c.index-members-index.is in
    (omega (arith, lower), omega (arith, fewer))

pub breach_of_members-overflow_cast-index : goal.breach_of_members-overflow_cast-index
breach_of_members-overflow_cast-index t c = omega (arith, length-members c.args.members.now)

pub breach_under-returns-in-None : goal.breach_under-returns-in-None
breach_under-returns-in-None t c =
    breach_of_members-none (map type_view c.args.types.now) c.args.name.now 0 (trees_of c.args.members.now)
    ∙ ap (λ o. breach_of_members (map type_view c.args.types.now) c.args.name.now 0 (trees_of c.args.members.now) o) c.in-None.ensures

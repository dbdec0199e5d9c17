use Rattle.std.proofs.Common.{◌≡◌, ◌∙◌, ◌+◌, true, false, Some, None, map, set, take, ap, sym, arith, rules}
use Rattle.std.proofs.lemmas.List.Edits.{map_over_more}
use Rattle.behaviour_tree.specs.Conforms.{wide, wide_members, field_type}
use Rattle.behaviour_tree.specs.Data.{named, undefined}
use Rattle.behaviour_tree.specs.View.{type_view, field_view, type_fields_of}
use Rattle.behaviour_tree.specs.declared.types.TypeDef as type_def
use Rattle.behaviour_tree.specs.declared.types.Field as field
use Rattle.jolie_trees.specs.Data.{Tree}
use Rattle.jolie_trees.specs.TreeView.{trees_of}
use Rattle.jolie_trees.specs.Lending.{written_over}
use Rattle.jolie_trees.proofs.Lent.{all_written}
use Rattle.jolie_trees.specs.Trees.{levels, trees_levels}
use Rattle.jolie_trees.proofs.Vectors.{levels-member}
use Rattle.message_types.proofs.Widens.{wide-by, whole, wide_members-map, member-kept, all-mapped, unwidened, grows-taken, step-new, step-same, step-missing, under-lent, levels-below, found}
use Rattle.message_types.proofs.widening.+widened.Goals as goal
use Rattle.message_types.proofs.widening.+widened.Goals.{widen_children-in-Some+then-is_none, widen_children-in-Some+else-is_none, widen_children-in_default}

pub widen_tree-returns-in-Some-Named : goal.widen_tree-returns-in-Some-Named
widen_tree-returns-in-Some-Named t c =
    let seen : type_view c.in-Some-Named.field-0.now ≡ named c.in-Some-Named.field-0-0 = search (rules, type_def.the_lemmas) in
    whole c.args.value.now ∙ wide-by c.args.types.now c.args.value.now (type_view c.args.ty.now) (Some (named _)) (ap Some (sym seen) ∙ c.in-Some-Named.ensures)

pub widen_tree-returns-in-Some-Undefined : goal.widen_tree-returns-in-Some-Undefined
widen_tree-returns-in-Some-Undefined t c =
    let seen : type_view c.in-Some-Undefined.field-0.now ≡ undefined = search (rules, type_def.the_lemmas) in
    whole c.args.value.now ∙ wide-by c.args.types.now c.args.value.now (type_view c.args.ty.now) (Some undefined) (ap Some (sym seen) ∙ c.in-Some-Undefined.ensures)

pub widen_tree-returns-in-None : goal.widen_tree-returns-in-None
widen_tree-returns-in-None t c = whole c.args.value.now ∙ wide-by c.args.types.now c.args.value.now (type_view c.args.ty.now) None c.in-None.ensures

pub widen_members-widen_tree-requires : goal.widen_members-widen_tree-requires
widen_members-widen_tree-requires t c =
    let f : Tree → Tree = λ u. wide (map type_view c.args.types.now) u (type_view c.args.ty.now) in
    let kept = member-kept f c.args.members.now c.loop-member.members c.loop-member.member-index c.member-item.result c.loop-member-test.true c.loop-member.invariant c.member-item.is in
    let lower = levels-member c.args.members.now c.loop-member.member-index c.member-item.result c.loop-member-test.true kept in
    let same = ap levels c.member-item.is in
    (omega (arith, lower, same), tt)

pub widen_members-loop-member-preserved : goal.widen_members-loop-member-preserved
widen_members-loop-member-preserved t c =
    let f : Tree → Tree = λ u. wide (map type_view c.args.types.now) u (type_view c.args.ty.now) in
    ap (set c.loop-member.members c.loop-member.member-index) (c.widen_tree.ensures ∙ ap f (sym c.member-item.is))
    ∙ map_over_more f c.args.members.now c.loop-member.members c.loop-member.member-index c.member-item.result c.loop-member-test.true c.loop-member.invariant c.member-item.is

pub widen_members-returns : goal.widen_members-returns
widen_members-returns t c =
    let types = map type_view c.args.types.now in
    let ty = type_view c.args.ty.now in
    let f : Tree → Tree = λ u. wide types u ty in
    ap trees_of (c.loop-member.invariant ∙ all-mapped f c.args.members.now c.loop-member.member-index c.loop-member-test.false) ∙ wide_members-map types c.args.members.now ty

pub widen_children-loop-place-init : goal.widen_children-loop-place-init
widen_children-loop-place-init t c = unwidened (map type_view c.args.types.now) c.args.value.now

pub widen_children-loop-place-preserved : goal.widen_children-loop-place-preserved
widen_children-loop-place-preserved t c =
    let f = c.index-fields-place.result in
    let types = map type_view c.args.types.now in
    let earlier = type_fields_of (map field_view (take c.loop-place.place c.args.fields.now)) in
    let all = type_fields_of (map field_view (take (c.loop-place.place + 1) c.args.fields.now)) in
    let grows = grows-taken c.args.fields.now c.loop-place.place f f.name (type_view f.ty) c.loop-place-test.true c.index-fields-place.is (search (rules, type_def.the_lemmas, field.the_lemmas)) (search (rules, type_def.the_lemmas, field.the_lemmas)) in
    elim c.match-members_mut.branch [
      | widen_children-in-Some+then-is_none w ↦
          let new = found w.field_named.result (field_type f.name earlier) false w.field_named.ensures w.if-is_none.ensures in
          let lent = w.as_mut_slice.ensures.value ∙ w.in-Some.ensures.value in
          let whole =
          ap (written_over w.widen_members.new.members) (sym w.as_mut_slice.ensures.value) ∙ all_written w.widen_members.new.members w.as_mut_slice.result.now w.widen_members.auto.members in
          w.value-is
          ∙ step-new types earlier all f.name (type_view f.ty) grows c.args.value.now c.loop-place.value c.loop-place.invariant _ new w.in-Some.ensures.ordered
          (whole ∙ w.widen_members.ensures ∙ ap (λ ts. wide_members types ts (Some (type_view f.ty))) lent)
      | widen_children-in-Some+else-is_none w ↦
          let old = found w.field_named.result (field_type f.name earlier) true w.field_named.ensures w.if-is_none.ensures in
          w.value-is ∙ step-same types earlier all f.name (type_view f.ty) grows c.args.value.now c.loop-place.value c.loop-place.invariant _ old w.in-Some.ensures.value
      | widen_children-in_default w ↦
          w.value-is ∙ step-missing types earlier all f.name (type_view f.ty) grows c.args.value.now c.loop-place.value c.loop-place.invariant w.in_default.ensures.ordered w.in_default.ensures.value
    ]

pub widen_children-widen_members-requires : goal.widen_children-widen_members-requires
widen_children-widen_members-requires t c =
    let f = c.index-fields-place.result in
    let types = map type_view c.args.types.now in
    let earlier = type_fields_of (map field_view (take c.loop-place.place c.args.fields.now)) in
    let all = type_fields_of (map field_view (take (c.loop-place.place + 1) c.args.fields.now)) in
    let grows = grows-taken c.args.fields.now c.loop-place.place f f.name (type_view f.ty) c.loop-place-test.true c.index-fields-place.is (search (rules, type_def.the_lemmas, field.the_lemmas)) (search (rules, type_def.the_lemmas, field.the_lemmas)) in
    let new = found c.field_named.result (field_type f.name earlier) false c.field_named.ensures c.if-is_none.ensures in
    let lent = c.as_mut_slice.ensures.value ∙ c.in-Some.ensures.value ∙ under-lent types earlier all f.name (type_view f.ty) grows c.args.value.now c.loop-place.value c.loop-place.invariant new in
    let same = ap trees_levels lent in
    let lower = levels-below f.name c.args.value.now in
    (omega (arith, lower, same), tt)

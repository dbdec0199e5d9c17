use Rattle.std.proofs.Common.{◌≡◌, ◌∙◌, refl, true≢false, map, ap, sym, arith, option_map}
use Rattle.std.proofs.lemmas.Result.{IfOk-weaker}
use Rattle.std.specs.Option.{option_copied}
use Rattle.serde_json.specs.Data.{array, put}
use Rattle.serde_json.specs.View.{view, members_view}
use Rattle.serde_json.proofs.Views.{view-Array, view-Object}
use Rattle.jolie_trees.specs.Trees.{children_of}
use Rattle.jolie_trees.specs.TreeView.{trees_of}
use Rattle.behaviour_tree.specs.View.{field_view, type_fields_of, type_view}
use Rattle.jsonrpc_text.specs.ToJson.{root_data, with_root, vector_json, items_json, json_of}
use Rattle.jsonrpc_text.specs.Walks.{node_json, part_of}
use Rattle.jolie_trees.proofs.Vectors.{levels-member}
use Rattle.jsonrpc_text.proofs.Children.{item-step, items-done, child-step, lower-step, children-done, node-empty, node-whole, node-same, several}
use Rattle.jsonrpc_text.proofs.to_json.+json_of.Goals as goal

pub array-json_of-requires : goal.array-json_of-requires
array-json_of-requires t c =
    let lower = levels-member c.args.trees.now c.loop-tree.tree-index c.tree-item.result c.loop-tree-test.true c.tree-item.is in
    (omega (arith, lower), tt)

pub array-loop-tree-preserved : goal.array-loop-tree-preserved
array-loop-tree-preserved t c =
    item-step (map type_view c.args.types.now) c.args.trees.now c.loop-tree.tree-index c.tree-item.result (type_view c.args.ty.now) c.loop-tree.items.items c.push.new.self.items c.in_ok-json_of.field-0 _
    c.loop-tree-test.true c.tree-item.is c.in_ok-json_of.ensures c.in_ok-push.ensures.items c.loop-tree.invariant

pub array-returns : goal.array-returns
array-returns t c =
    view-Array c.loop-tree.items
    ∙ ap array (items-done (map type_view c.args.types.now) c.args.trees.now c.loop-tree.tree-index (type_view c.args.ty.now) c.loop-tree.items.items (omega (arith, c.loop-tree-test.false)) c.loop-tree.invariant)

pub node-loop-name-preserved : goal.node-loop-name-preserved
node-loop-name-preserved t c =
    let types = map type_view c.args.types.now in
    let fields = type_fields_of (map field_view c.args.fields.now) in
    record {
      same = child-step types fields c.in-Some.name.now (trees_of c.in-Some.trees.now) c.loop-name.name-iterator c.next.new.self _ _ (view c.in_ok-value.value) _
          c.in-Some.ensures.steps (c.in_ok-value.ensures ∙ ap (vector_json types (trees_of c.in-Some.trees.now)) c.field_named.ensures)
          (c.in_ok-put.ensures ∙ ap (λ n. put n (view c.in_ok-value.value) (members_view c.loop-name.members.entries)) c.as_str.ensures) c.loop-name.invariant.same;
      lower = lower-step c.loop-name.name-iterator c.next.new.self (c.in-Some.name.now, trees_of c.in-Some.trees.now) _ c.in-Some.ensures.steps c.loop-name.invariant.lower;
    }

pub node-returns-then-is_empty : goal.node-returns-then-is_empty
node-returns-then-is_empty t c =
    let types = map type_view c.args.types.now in
    let fields = type_fields_of (map field_view c.args.fields.now) in
    let es = c.loop-name.members.entries in
    let done = children-done types fields (children_of c.args.tree.now) c.loop-name.name-iterator (members_view es) c.in-None.ensures.steps.0 c.children-name-items.ensures.ordered c.loop-name.invariant.same in
    IfOk-weaker c.root_value.result (λ value. view value ≡ root_data c.root.result.now) (λ value. view value ≡ node_json types c.args.tree.now fields)
    (λ value k. k ∙ ap root_data c.root.ensures ∙ node-empty types c.args.tree.now fields es (c.if-is_empty.ensures.0 refl) done) c.root_value.ensures

pub node-returns : goal.node-returns
node-returns t c =
    let types = map type_view c.args.types.now in
    let fields = type_fields_of (map field_view c.args.fields.now) in
    let es = c.loop-name.members.entries in
    let done = children-done types fields (children_of c.args.tree.now) c.loop-name.name-iterator (members_view es) c.in-None.ensures.steps.0 c.children-name-items.ensures.ordered c.loop-name.invariant.same in
    view-Object c.put_root.new.members
    ∙ node-whole types c.args.tree.now fields es (members_view c.put_root.new.members.entries) (λ h. true≢false (sym (c.if-is_empty.ensures.1 h))) done (c.in_ok-put_root.ensures ∙ ap (λ r. with_root r (members_view es)) c.root-2.ensures)

pub members_of-returns : goal.members_of-returns
members_of-returns t c =
    let types = map type_view c.args.types.now in
    let part = part_of (option_map field_view (option_copied c.args.field)) in
    let ts = c.args.trees.now in
    let ty = type_view c.member_type-ty.result.now in
    IfOk-weaker c.array-in-len2-up.result (λ value. view value ≡ array (items_json types (trees_of ts) ty)) (λ value. view value ≡ vector_json types (trees_of ts) part)
    (λ value k. k ∙ several types ts part ty c.in-len2-up.len_at_least c.member_type-ty.ensures) c.array-in-len2-up.ensures

pub json_of-returns : goal.json_of-returns
json_of-returns t c =
    let types = map type_view c.args.types.now in
    let ty = type_view c.args.ty.now in
    let fields = type_fields_of (map field_view c.fields_behind.result.now) in
    IfOk-weaker c.node.result (λ value. view value ≡ node_json types c.args.tree.now fields) (λ value. view value ≡ json_of types c.args.tree.now ty)
    (λ value k. k ∙ ap (node_json types c.args.tree.now) c.fields_behind.ensures ∙ node-same types c.args.tree.now ty) c.node.ensures

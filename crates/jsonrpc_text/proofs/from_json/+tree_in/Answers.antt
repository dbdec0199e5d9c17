use Rattle.std.proofs.Common.{◌≡◌, sym, ap, ◌∙◌, subst, false, true, not, Some, None, bytes_eq, IfOk, option_map, string_bytes}
use Rattle.std.specs.Option.{option_copied}
use Rattle.serde_json.specs.Find.{get_member}
use Rattle.serde_json.specs.View.{view, members_view}
use Rattle.serde_json.proofs.Views.{view-lookup}
use Rattle.jolie_trees.specs.Data.{node}
use Rattle.jsonrpc_text.specs.FromJson.{root_name, root_of_member, of_both, children_in}
use Rattle.jsonrpc_text.specs.Putting.{with_member, with_members}
use Rattle.jsonrpc_text.proofs.Sorted.{Entry, step-root, step-put, step-none, whole}
use Rattle.jsonrpc_text.proofs.from_json.+tree_in.Goals as goal

pub with_children-returns-in_default : goal.with_children-returns-in_default
unfolding root_name
with_children-returns-in_default t c =
    let e : Entry = (c.in-Some.name.now, c.in-Some.value.now) in
    let other : true ≡ not (bytes_eq (string_bytes e.0) root_name) = c.if-ne.ensures ∙ ap (λ x. not (bytes_eq x root_name)) c.as_str.ensures.value in
    let named : c.in_ok-name.name ≡ string_bytes e.0 = c.in_ok-name.ensures ∙ c.as_str-then-ne.ensures.value in
    let made : with_member (string_bytes e.0) (view e.1) c.loop-name.node ≡ None =
    ap (λ x. with_member x (view e.1) c.loop-name.node) (sym named) ∙ sym c.in_ok-larger.ensures ∙ c.in_default.is in
    whole c.args.members.now.entries c.loop-name.name-iterator c.args.root c.loop-name.node None c.iter-name-items.ensures.ordered
    (step-none e c.loop-name.name-iterator c.next.new.self c.loop-name.node c.in-Some.ensures.steps other made) c.loop-name.invariant

pub with_children-loop-name-preserved-then-ne : goal.with_children-loop-name-preserved-then-ne
unfolding root_name
with_children-loop-name-preserved-then-ne t c =
    let e : Entry = (c.in-Some.name.now, c.in-Some.value.now) in
    let other : true ≡ not (bytes_eq (string_bytes e.0) root_name) = c.if-ne.ensures ∙ ap (λ x. not (bytes_eq x root_name)) c.as_str.ensures.value in
    let named : c.in_ok-name.name ≡ string_bytes e.0 = c.in_ok-name.ensures ∙ c.as_str-then-ne.ensures.value in
    let made : with_member (string_bytes e.0) (view e.1) c.loop-name.node ≡ Some c.in-Some-2.larger =
    ap (λ x. with_member x (view e.1) c.loop-name.node) (sym named) ∙ sym c.in_ok-larger.ensures ∙ c.in-Some-2.is in
    sym (step-put e c.loop-name.name-iterator c.next.new.self c.loop-name.node c.in-Some-2.larger c.in-Some.ensures.steps other made) ∙ c.loop-name.invariant

pub with_children-loop-name-preserved : goal.with_children-loop-name-preserved
unfolding root_name
with_children-loop-name-preserved t c =
    let e : Entry = (c.in-Some.name.now, c.in-Some.value.now) in
    let is : false ≡ not (bytes_eq (string_bytes e.0) root_name) = c.if-ne.ensures ∙ ap (λ x. not (bytes_eq x root_name)) c.as_str.ensures.value in
    sym (step-root e c.loop-name.name-iterator c.next.new.self c.loop-name.node c.in-Some.ensures.steps is) ∙ c.loop-name.invariant

pub with_children-returns : goal.with_children-returns
with_children-returns t c =
    whole c.args.members.now.entries c.loop-name.name-iterator c.args.root c.loop-name.node (Some c.loop-name.node) c.iter-name-items.ensures.ordered
    (ap (λ es. with_members (members_view es) c.loop-name.node) c.in-None.ensures.steps.0) c.loop-name.invariant

pub node_in-returns-in-None : goal.node_in-returns-in-None
unfolding root_name
node_in-returns-in-None t c =
    let ms = c.args.members.now.entries in
    let found : option_map view (option_copied c.get.result) ≡ get_member root_name (members_view ms) = ap (option_map view) c.get.ensures.value ∙ view-lookup root_name ms in
    ap (λ o. of_both node o (children_in (members_view ms))) (sym c.in-None.is ∙ c.in_ok-root_of_member.ensures ∙ ap root_of_member found)

pub node_in-returns-in-Some : goal.node_in-returns-in-Some
unfolding root_name
node_in-returns-in-Some t c =
    let ms = c.args.members.now.entries in
    let found : option_map view (option_copied c.get.result) ≡ get_member root_name (members_view ms) = ap (option_map view) c.get.ensures.value ∙ view-lookup root_name ms in
    subst (λ o. IfOk c.with_children.result (λ tree. tree ≡ of_both node o (children_in (members_view ms))))
    (sym c.in-Some.is ∙ c.in_ok-root_of_member.ensures ∙ ap root_of_member found) c.with_children.ensures

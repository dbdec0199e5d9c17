-- A choice that has a branch asks for a message.
use Rattle.std.proofs.Common.{◌≡◌, ◌∙◌, ap, sym, length, map, Some, option_map, false}
use Rattle.std.specs.Prelude.{◌==◌}
use Rattle.std.proofs.lemmas.Result.{IfOk-weaker}
use Rattle.behaviour_tree.specs.View.{branch_view, branches_of}
use Rattle.behaviour_tree.specs.declared.words.Need.TheVariants as need
use Rattle.behaviour_tree.specs.FormedBehaviours.{branch_operations}
use Rattle.session_events.specs.Asked.{one_of}
use Rattle.session_events.proofs.Branches.{one_of_some}
use Rattle.session_events.proofs.asked.message_asked.Goals as goal

pub returns : goal.returns
returns c =
    let list = c.args.list.now in
    let some : (length list == 0) ≡ false = sym c.is_empty.ensures ∙ c.if-is_empty.false in
    let same : Some (need.Take c.in_ok-ops.ops) ≡ one_of (branch_operations (branches_of (map branch_view list))) =
    ap (λ o. Some (need.Take o)) c.in_ok-ops.ensures ∙ sym (one_of_some list some) in
    IfOk-weaker c.asked.result (λ n. option_map (λ b. b.value) n ≡ Some (need.Take c.in_ok-ops.ops))
    (λ n. option_map (λ b. b.value) n ≡ one_of (branch_operations (branches_of (map branch_view list)))) (λ n e. e ∙ same) c.asked.ensures

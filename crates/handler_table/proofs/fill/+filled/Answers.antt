use Rattle.std.proofs.Common.{◌≡◌, map, option_map, sym, ap, ◌∙◌, rules}
use Rattle.std.proofs.lemmas.List.{take_all}
use Rattle.behaviour_tree.specs.View.{behaviour_view, branch_view, branches_of, path_view, procs_of, reply_view}
use Rattle.behaviour_tree.specs.declared.behaviour.Branch.{out-Branch}
use Rattle.session_calculus.specs.Tables.{filled}
use Rattle.handler_table.specs.Filled.{filled_branch, filled_reply, former_of}
use Rattle.handler_table.proofs.Fills.{branch_made, branch_seen, filled_branch_list, filled_list}
use Rattle.handler_table.proofs.fill.+filled.Goals as goal

pub filled_all-returns : goal.filled_all-returns
filled_all-returns t c =
    let old = former_of c.args.former in
    ap procs_of
    (c.loop-body.invariant
    ∙ ap (λ bodies. map (filled old) (map behaviour_view bodies))
    (take_all c.loop-body.body-index c.deref-body-items.result.now c.loop-body-test.false ∙ c.deref-body-items.ensures.value))
    ∙ filled_list old (map behaviour_view c.args.list.now.items)

pub filled_branches-returns : goal.filled_branches-returns
filled_branches-returns t c =
    let old = former_of c.args.former in
    ap branches_of
    (c.loop-branch.invariant
    ∙ ap (λ branches. map (filled_branch old) (map branch_view branches))
    (take_all c.loop-branch.branch-index c.deref-branch-items.result.now c.loop-branch-test.false ∙ c.deref-branch-items.ensures.value))
    ∙ filled_branch_list old (map branch_view c.args.list.now.items)

pub filled_in_branch-returns-in-Ok : goal.filled_in_branch-returns-in-Ok
filled_in_branch-returns-in-Ok t c =
    let old = former_of c.args.former in
    let b = out-Branch c.args.branch.now in
    let target : option_map path_view c.in_ok-target.target ≡ option_map path_view b.target = search rules in
    let reply : option_map reply_view c.in-Ok.reply ≡ option_map (filled_reply old) (option_map reply_view b.reply) = search rules in
    let after : behaviour_view c.in_ok-after.after ≡ filled old (behaviour_view b.after) = search rules in
    branch_made b.op c.in_ok-target.target c.in-Ok.reply c.in_ok-after.after
    ∙ (λ i. record { op = b.op; target = target i; reply = reply i; after = after i })
    ∙ ap (filled_branch old) (sym (branch_seen c.args.branch.now))

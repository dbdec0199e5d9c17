use Rattle.std.proofs.Common.{[], ◌∷◌, ◌++◌, map, take, sym, ap, ◌∙◌}
use Rattle.std.proofs.lemmas.List.{take_all}
use Rattle.behaviour_tree.specs.declared.behaviour.Handler.{out-Handler}
use Rattle.behaviour_tree.specs.View.{behaviour_view, branch_view, branches_of, handler_view, handlers_of, procs_of}
use Rattle.session_calculus.specs.Tables.{filled, filled_all, filled_branches}
use Rattle.handler_table.specs.Filled.{former_of}
use Rattle.handler_table.specs.Sizes as spec
use Rattle.handler_table.proofs.Sums.{all_more, branches_more, handlers_more}
use Rattle.handler_table.proofs.Views.{handler_seen, handlers_seen, one_more}
use Rattle.handler_table.proofs.size.+size.Goals as goal

pub size_of_all-loop-body-preserved : goal.size_of_all-loop-body-preserved
size_of_all-loop-body-preserved t c =
    let old = former_of c.args.former.now.body in
    let bodies = c.deref-body-items.result.now in
    let before = map behaviour_view (take c.loop-body.body-index bodies) in
    c.beside-size.ensures
    ∙ ap (λ s. spec.beside s c.size_of.result) c.loop-body.invariant
    ∙ ap (spec.beside (spec.size_of_all (filled_all old (procs_of before)))) c.size_of.ensures
    ∙ all_more old before (behaviour_view c.body-item.result)
    ∙ ap (λ ps. spec.size_of_all (filled_all old (procs_of ps)))
    (one_more behaviour_view bodies c.loop-body.body-index c.body-item.result c.loop-body-test.true c.body-item.is)

pub size_of_branches-loop-branch-preserved : goal.size_of_branches-loop-branch-preserved
size_of_branches-loop-branch-preserved t c =
    let old = former_of c.args.former.now.body in
    let branches = c.deref-branch-items.result.now in
    let before = map branch_view (take c.loop-branch.branch-index branches) in
    c.beside-size.ensures
    ∙ ap (λ s. spec.beside s c.size_of_branch.result) c.loop-branch.invariant
    ∙ ap (spec.beside (spec.size_of_branches (filled_branches old (branches_of before)))) c.size_of_branch.ensures
    ∙ branches_more old before (branch_view c.branch-item.result)
    ∙ ap (λ bs. spec.size_of_branches (filled_branches old (branches_of bs)))
    (one_more branch_view branches c.loop-branch.branch-index c.branch-item.result c.loop-branch-test.true c.branch-item.is)

pub size_of_handlers-loop-handler-preserved : goal.size_of_handlers-loop-handler-preserved
size_of_handlers-loop-handler-preserved t c =
    let handlers = c.deref-handler-items.result.now in
    let before = map handler_view (take c.loop-handler.handler-index handlers) in
    let body = behaviour_view (out-Handler c.handler-item.result).body in
    c.beside-size.ensures
    ∙ ap (λ s. spec.beside s c.size_of.result) c.loop-handler.invariant
    ∙ ap (spec.beside (spec.size_of_handlers (handlers_of before))) (c.size_of.ensures ∙ ap (λ old. spec.size_of (filled old body)) c.nothing.ensures)
    ∙ handlers_more before (record { key = (out-Handler c.handler-item.result).key; body = body })
    ∙ ap (λ v. spec.size_of_handlers (handlers_of (before ++ v ∷ []))) (sym (handler_seen c.handler-item.result))
    ∙ ap (λ vs. spec.size_of_handlers (handlers_of vs))
    (one_more handler_view handlers c.loop-handler.handler-index c.handler-item.result c.loop-handler-test.true c.handler-item.is)

pub size_of_handlers-returns : goal.size_of_handlers-returns
size_of_handlers-returns t c =
    let handlers = c.deref-handler-items.result.now in
    c.loop-handler.invariant
    ∙ ap (λ hs. spec.size_of_handlers (handlers_of (map handler_view hs)))
    (take_all c.loop-handler.handler-index handlers c.loop-handler-test.false ∙ c.deref-handler-items.ensures.value)
    ∙ ap spec.size_of_handlers (sym (handlers_seen c.args.handlers.now))

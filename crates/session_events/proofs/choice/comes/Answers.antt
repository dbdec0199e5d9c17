-- A branch of another operation is passed by, and the first of the operation takes the message.
use Rattle.std.proofs.Common.{◌≡◌, ◌∙◌, ap, map, sym, None, Some, refl}
use Rattle.std.proofs.lemmas.List.{drop_all}
use Rattle.behaviour_tree.specs.View.{branch_view, branches_of}
use Rattle.behaviour_tree.specs.FormedBehaviours.{branch_operations}
use Rattle.session_calculus.specs.Inputs.{comes}
use Rattle.session_events.specs.Came.{moved}
use Rattle.session_events.specs.Comes.{arrives, coming, mail_of}
use Rattle.session_events.specs.Seen.{moved_in, seen_in}
use Rattle.session_events.proofs.Branches.{arrives_first, branch_op, passes_branch, rest_from}
use Rattle.session_events.proofs.choice.comes.Goals as goal

pub loop-i-preserved : goal.loop-i-preserved
loop-i-preserved c =
    let ops = branch_operations (branches_of (map branch_view c.args.list.now)) in
    let other : (branch_view c.index-list-i.result).op ≡ c.args.mail.op → ⊥ = λ e. c.if-branch-mail.false (branch_op c.index-list-i.result ∙ e) in
    ((λ s. passes_branch s c.args.mail ops c.args.list.now c.loop-i.i c.index-list-i.result c.loop-i-test.true c.index-list-i.is other ∙ c.loop-i.invariant.0 s), c.loop-i.invariant.1)

pub returns-then-branch-mail : goal.returns-then-branch-mail
returns-then-branch-mail c =
    let all = branches_of (map branch_view c.args.list.now) in
    let ops = branch_operations all in
    let mail = c.args.mail in
    let i = c.loop-i.i in
    let s = seen_in c.args.scene (mail_of mail) c.args.memory.now in
    let branch = branch_view c.index-list-i.result in
    let its : branch.op ≡ mail.op = sym (branch_op c.index-list-i.result) ∙ c.if-branch-mail.true in
    let first = arrives_first s mail ops c.args.list.now i c.index-list-i.result c.loop-i-test.true c.index-list-i.is its in
    let found : Some (arrives s (coming mail ops i) branch) ≡ comes s (coming mail ops 0) all = first ∙ c.loop-i.invariant.0 s in
    let came_so : moved_in c.args.scene c.in_ok-arrived.arrived c.arrived.new.memory ≡ arrives s (coming mail ops i) branch =
    c.in_ok-arrived.ensures ∙ rw (c.loop-i.invariant.1, c.in_ok-ops.ensures) refl in
    rw (← found) (ap moved came_so)

pub returns : goal.returns
returns c =
    let list = c.args.list.now in
    let all = branches_of (map branch_view list) in
    let ops = branch_operations all in
    let mail = c.args.mail in
    let s = seen_in c.args.scene (mail_of mail) c.args.memory.now in
    let none : comes s (coming mail ops c.loop-i.i) (rest_from list c.loop-i.i) ≡ None = rw (drop_all c.loop-i.i list c.loop-i-test.false) refl in
    let nowhere : None ≡ comes s (coming mail ops 0) all = sym none ∙ c.loop-i.invariant.0 s in
    rw (c.loop-i.invariant.1, ← nowhere) refl

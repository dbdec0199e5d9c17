-- Lists of behaviours and branches with a handler in place of each cH.
use Rattle.std.proofs.Common.{◌≡◌, ℕ, List, [], ◌∷◌, map, Option, Some, None, option_map, refl, sym, ap, ◌∙◌}
use Rattle.behaviour_tree.specs.Data.{PathTree, Proc, proc, Branches, HandlerList}
use Rattle.behaviour_tree.specs.View.{BranchView, HandlerView, ReplyView, behaviour_level, behaviour_view, branch_level, branch_of, branch_view, branches_of, handler_level, handlers_level, path_view, procs_of, reply_level, reply_view}
use Rattle.behaviour_tree.specs.declared.behaviour.Behaviour.{Behaviour}
use Rattle.behaviour_tree.specs.declared.behaviour.Behaviour.TheFolds.{fold-roll-Branch}
use Rattle.behaviour_tree.specs.declared.behaviour.Branch.{Branch, out-Branch, roll-Branch, roll-out-Branch}
use Rattle.behaviour_tree.specs.declared.behaviour.ReplyPart.{ReplyPart}
use Rattle.behaviour_tree.specs.declared.expr.PathExpr.{PathExpr}
use Rattle.session_calculus.specs.Tables.{filled, filled_all, filled_branches}
use Rattle.handler_table.specs.Filled.{filled_branch, filled_reply}

pub filled_list : (o : Proc) (ps : List Proc) → procs_of (map (filled o) ps) ≡ filled_all o (procs_of ps)
filled_list o [] = refl
filled_list o (p ∷ ps) = ap (proc (filled o p)) (filled_list o ps)

one_filled : (o : Proc) (op : ℕ) (x : Option PathTree) (r : Option ReplyView) (p : Proc) (bs : Branches)
    → branch_of op x (option_map (filled_reply o) r) (filled o p) (filled_branches o bs) ≡ filled_branches o (branch_of op x r p bs)
one_filled o op x None p bs = refl
one_filled o op x (Some r) p bs = refl

pub filled_branch_list : (o : Proc) (bs : List BranchView) → branches_of (map (filled_branch o) bs) ≡ filled_branches o (branches_of bs)
filled_branch_list o [] = refl
filled_branch_list o (b ∷ bs) =
    ap (branch_of b.op b.target (option_map (filled_reply o) b.reply) (filled o b.after)) (filled_branch_list o bs)
    ∙ one_filled o b.op b.target b.reply b.after (branches_of bs)

-- ---- a branch by its parts

pub branch_made : (op : ℕ) (target : Option PathExpr) (reply : Option ReplyPart) (after : Behaviour)
    → branch_view (roll-Branch (record { op = op; target = target; reply = reply; after = after })) ≡ record { op = op; target = option_map path_view target; reply = option_map reply_view reply; after = behaviour_view after }
branch_made op target None after = fold-roll-Branch Proc BranchView HandlerView HandlerList ReplyView behaviour_level branch_level handler_level handlers_level reply_level (record { op = op; target = target; reply = None; after = after })
branch_made op target (Some r) after = fold-roll-Branch Proc BranchView HandlerView HandlerList ReplyView behaviour_level branch_level handler_level handlers_level reply_level (record { op = op; target = target; reply = Some r; after = after })

pub branch_seen : (b : Branch) → branch_view b ≡ record { op = (out-Branch b).op; target = option_map path_view (out-Branch b).target; reply = option_map reply_view (out-Branch b).reply; after = behaviour_view (out-Branch b).after }
branch_seen b =
    let x = out-Branch b in
    ap branch_view (sym (roll-out-Branch b)) ∙ branch_made x.op x.target x.reply x.after

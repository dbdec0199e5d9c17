-- What behaviours of a program stand for, at each form.
use Rattle.std.proofs.Common.{◌≡◌, ℕ, map, Option, None, Some, Vec, Box, Global, ap, sym, ◌∙◌}
use Rattle.std.specs.Prelude.{option_map}
use Rattle.behaviour_tree.specs.declared.expr.Expr.{Expr}
use Rattle.behaviour_tree.specs.declared.expr.PathExpr.{PathExpr}
use Rattle.behaviour_tree.specs.declared.behaviour.HandlerKey.{HandlerKey}
use Rattle.behaviour_tree.specs.declared.behaviour.Behaviour.{Behaviour, roll-Behaviour}
use Rattle.behaviour_tree.specs.declared.behaviour.Behaviour.TheVariants as form
use Rattle.behaviour_tree.specs.declared.behaviour.Behaviour.TheOpen.{Behaviour-F}
use Rattle.behaviour_tree.specs.declared.behaviour.Behaviour.TheFolds.{map-Behaviour, fold-roll-Behaviour, fold-roll-Branch, fold-roll-Handler, fold-roll-Handlers, fold-roll-ReplyPart}
use Rattle.behaviour_tree.specs.declared.behaviour.Branch.{Branch, roll-Branch}
use Rattle.behaviour_tree.specs.declared.behaviour.Handler.{Handler, roll-Handler}
use Rattle.behaviour_tree.specs.declared.behaviour.Handlers.{Handlers, roll-Handlers}
use Rattle.behaviour_tree.specs.declared.behaviour.ReplyPart.{ReplyPart, roll-ReplyPart}
use Rattle.behaviour_tree.specs.Data as plain
use Rattle.behaviour_tree.specs.Data.{Proc, HandlerList}
use Rattle.behaviour_tree.specs.View.{BranchView, HandlerView, ReplyView, procs_of, branches_of, handlers_of, behaviour_level, branch_level, handler_level, handlers_level, reply_level, expr_view, path_view, behaviour_view, branch_view, handler_view, handlers_view, reply_view}

-- what a behaviour stands for, by the form that it is made of
behaviour_made : (x : Behaviour-F Behaviour Branch Handler Handlers ReplyPart) {b : Behaviour} → roll-Behaviour x ≡ b
    → behaviour_view b ≡ behaviour_level (map-Behaviour Behaviour Branch Handler Handlers ReplyPart Proc BranchView HandlerView HandlerList ReplyView behaviour_view branch_view handler_view handlers_view reply_view x)
behaviour_made x made = ap behaviour_view (sym made) ∙ fold-roll-Behaviour Proc BranchView HandlerView HandlerList ReplyView behaviour_level branch_level handler_level handlers_level reply_level x

pub nothing_seen : behaviour_view form.Nothing ≡ plain.nothing
nothing_seen = behaviour_made Behaviour-F.Nothing form.rolls-Nothing

pub assign_seen : (p : PathExpr) (e : Expr) → behaviour_view (form.Assign p e) ≡ plain.assign (path_view p) (expr_view e)
assign_seen p e = behaviour_made (Behaviour-F.Assign p e) (form.rolls-Assign p e)

pub undef_seen : (p : PathExpr) → behaviour_view (form.Undef p) ≡ plain.undef (path_view p)
undef_seen p = behaviour_made (Behaviour-F.Undef p) (form.rolls-Undef p)

pub copy_seen : (p : PathExpr) (e : Expr) → behaviour_view (form.Copy p e) ≡ plain.copy (path_view p) (expr_view e)
copy_seen p e = behaviour_made (Behaviour-F.Copy p e) (form.rolls-Copy p e)

pub bind_seen : (v : ℕ) (e : Expr) → behaviour_view (form.Bind v e) ≡ plain.bind v (expr_view e)
bind_seen v e = behaviour_made (Behaviour-F.Bind v e) (form.rolls-Bind v e)

pub sequence_seen : (ps : Vec Behaviour Global) → behaviour_view (form.Sequence ps) ≡ plain.sequence (procs_of (map behaviour_view ps.items))
sequence_seen ps = behaviour_made (Behaviour-F.Sequence ps) (form.rolls-Sequence ps)

pub parallel_seen : (ps : Vec Behaviour Global) → behaviour_view (form.Parallel ps) ≡ plain.parallel (procs_of (map behaviour_view ps.items))
parallel_seen ps = behaviour_made (Behaviour-F.Parallel ps) (form.rolls-Parallel ps)

pub if_seen : (e : Expr) (p q : Box Behaviour Global) → behaviour_view (form.If e p q) ≡ plain.choose (expr_view e) (behaviour_view p.value) (behaviour_view q.value)
if_seen e p q = behaviour_made (Behaviour-F.If e p q) (form.rolls-If e p q)

pub while_seen : (e : Expr) (p : Box Behaviour Global) → behaviour_view (form.While e p) ≡ plain.repeat (expr_view e) (behaviour_view p.value)
while_seen e p = behaviour_made (Behaviour-F.While e p) (form.rolls-While e p)

pub choice_seen : (bs : Vec Branch Global) → behaviour_view (form.Choice bs) ≡ plain.choice (branches_of (map branch_view bs.items))
choice_seen bs = behaviour_made (Behaviour-F.Choice bs) (form.rolls-Choice bs)

pub notify_seen : (port op : ℕ) (e : Expr) → behaviour_view (form.Notify port op e) ≡ plain.notify port op (expr_view e)
notify_seen port op e = behaviour_made (Behaviour-F.Notify port op e) (form.rolls-Notify port op e)

pub solicit_seen : (port op : ℕ) (e : Expr) (target : Option PathExpr) (hs : Handlers) → behaviour_view (form.Solicit port op e target hs) ≡ plain.solicit port op (expr_view e) (option_map path_view target) (handlers_view hs)
solicit_seen port op e target hs = behaviour_made (Behaviour-F.Solicit port op e target hs) (form.rolls-Solicit port op e target hs)

pub install_seen : (hs : Handlers) → behaviour_view (form.Install hs) ≡ plain.install (handlers_view hs)
install_seen hs = behaviour_made (Behaviour-F.Install hs) (form.rolls-Install hs)

pub throw_seen : (f : ℕ) (e : Expr) → behaviour_view (form.Throw f e) ≡ plain.throw f (expr_view e)
throw_seen f e = behaviour_made (Behaviour-F.Throw f e) (form.rolls-Throw f e)

pub comp_seen : (s : ℕ) → behaviour_view (form.Comp s) ≡ plain.comp s
comp_seen s = behaviour_made (Behaviour-F.Comp s) (form.rolls-Comp s)

pub inner_handler_seen : behaviour_view form.InnerHandler ≡ plain.inner_handler
inner_handler_seen = behaviour_made Behaviour-F.InnerHandler form.rolls-InnerHandler

pub scope_seen : (s : ℕ) (p : Box Behaviour Global) → behaviour_view (form.Scope s p) ≡ plain.scope s (behaviour_view p.value)
scope_seen s p = behaviour_made (Behaviour-F.Scope s p) (form.rolls-Scope s p)

pub block_seen : (p : Box Behaviour Global) → behaviour_view (form.Block p) ≡ plain.block (behaviour_view p.value)
block_seen p = behaviour_made (Behaviour-F.Block p) (form.rolls-Block p)

pub handler_seen : (key : HandlerKey) (body : Behaviour) → handler_view (roll-Handler (record { key = key; body = body })) ≡ record { key = key; body = behaviour_view body }
handler_seen key body = fold-roll-Handler Proc BranchView HandlerView HandlerList ReplyView behaviour_level branch_level handler_level handlers_level reply_level (record { key = key; body = body })

pub handlers_seen : (list : Vec Handler Global) → handlers_view (roll-Handlers (record { list = list })) ≡ handlers_of (map handler_view list.items)
handlers_seen list = fold-roll-Handlers Proc BranchView HandlerView HandlerList ReplyView behaviour_level branch_level handler_level handlers_level reply_level (record { list = list })

pub reply_seen : (path : Option PathExpr) (body : Behaviour) → reply_view (roll-ReplyPart (record { path = path; body = body })) ≡ record { path = option_map path_view path; body = behaviour_view body }
reply_seen path body = fold-roll-ReplyPart Proc BranchView HandlerView HandlerList ReplyView behaviour_level branch_level handler_level handlers_level reply_level (record { path = path; body = body })

pub branch_seen : (op : ℕ) (target : Option PathExpr) (reply : Option ReplyPart) (after : Behaviour)
    → branch_view (roll-Branch (record { op = op; target = target; reply = reply; after = after })) ≡ record { op = op; target = option_map path_view target; reply = option_map reply_view reply; after = behaviour_view after }
branch_seen op target None after = fold-roll-Branch Proc BranchView HandlerView HandlerList ReplyView behaviour_level branch_level handler_level handlers_level reply_level (record { op = op; target = target; reply = None; after = after })
branch_seen op target (Some r) after = fold-roll-Branch Proc BranchView HandlerView HandlerList ReplyView behaviour_level branch_level handler_level handlers_level reply_level (record { op = op; target = target; reply = Some r; after = after })

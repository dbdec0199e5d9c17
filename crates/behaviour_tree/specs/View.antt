-- The plain data that the types, expressions and behaviours of Rust stand for.
use Rattle.std.specs.Prelude.{ℕ, List, [], ◌∷◌, Option, Some, None, option_map}
use Rattle.behaviour_tree.specs.Data as plain
use Rattle.behaviour_tree.specs.Data.{TypeTree, TypeFields, PathTree, Exp, Exps, SumParts}
use Rattle.behaviour_tree.specs.Data.{MulParts, MemberList, Proc, Procs, Branches, HandlerList}
use Rattle.behaviour_tree.specs.declared.types.TypeDef as type_def
use Rattle.behaviour_tree.specs.declared.types.Field as field
use Rattle.behaviour_tree.specs.declared.types.TypeDef.TheOpen.{Field-F, TypeDef-F}
use Rattle.behaviour_tree.specs.declared.types.TypeDef.TheFolds.{fold-Field, fold-TypeDef}
use Rattle.behaviour_tree.specs.declared.expr.SumOp.{SumOp}
use Rattle.behaviour_tree.specs.declared.expr.MulOp.{MulOp}
use Rattle.behaviour_tree.specs.declared.expr.Expr as expr
use Rattle.behaviour_tree.specs.declared.expr.Member as member
use Rattle.behaviour_tree.specs.declared.expr.MulPart as mul_part
use Rattle.behaviour_tree.specs.declared.expr.PathExpr as path
use Rattle.behaviour_tree.specs.declared.expr.PathStep as path_step
use Rattle.behaviour_tree.specs.declared.expr.SumPart as sum_part
use Rattle.behaviour_tree.specs.declared.expr.Expr.TheOpen.{Expr-F, Member-F, MulPart-F}
use Rattle.behaviour_tree.specs.declared.expr.Expr.TheOpen.{PathExpr-F, PathStep-F, SumPart-F}
use Rattle.behaviour_tree.specs.declared.expr.Expr.TheFolds.{fold-Expr, fold-Member, fold-MulPart}
use Rattle.behaviour_tree.specs.declared.expr.Expr.TheFolds.{fold-PathExpr, fold-PathStep, fold-SumPart}
use Rattle.behaviour_tree.specs.declared.behaviour.HandlerKey.{HandlerKey}
use Rattle.behaviour_tree.specs.declared.behaviour.Behaviour as behaviour
use Rattle.behaviour_tree.specs.declared.behaviour.Branch as branch
use Rattle.behaviour_tree.specs.declared.behaviour.Handler as handler
use Rattle.behaviour_tree.specs.declared.behaviour.Handlers as handlers
use Rattle.behaviour_tree.specs.declared.behaviour.ReplyPart as reply
use Rattle.behaviour_tree.specs.declared.behaviour.Behaviour.TheOpen.{Behaviour-F, Branch-F, Handler-F}
use Rattle.behaviour_tree.specs.declared.behaviour.Behaviour.TheOpen.{Handlers-F, ReplyPart-F}
use Rattle.behaviour_tree.specs.declared.behaviour.Behaviour.TheFolds.{fold-Behaviour, fold-Branch, fold-Handler}
use Rattle.behaviour_tree.specs.declared.behaviour.Behaviour.TheFolds.{fold-Handlers, fold-ReplyPart}

-- a field of a type, its own type already seen as plain data
pub record FieldView : Type 0 where
  pub name : List ℕ
  pub least : ℕ
  pub most : Option ℕ
  pub ty : TypeTree

-- fields in the order of the text
abbrev pub type_fields_of : List FieldView → TypeFields
type_fields_of [] = plain.no_type_fields
type_fields_of (f ∷ fs) = plain.type_field f.name f.least f.most f.ty (type_fields_of fs)

-- one level of a type, with what is inside already seen
abbrev pub type_level : TypeDef-F TypeTree FieldView → TypeTree
type_level (TypeDef-F.Plain kind fs) = plain.plain kind (type_fields_of fs.items)
type_level (TypeDef-F.Named n) = plain.named n
type_level TypeDef-F.Undefined = plain.undefined

-- one level of a field
abbrev pub field_level : Field-F TypeTree FieldView → FieldView
field_level f = record { name = f.name; least = f.least; most = f.most; ty = f.ty }

-- the type that a Rust type stands for
abbrev pub type_view : type_def.TypeDef → TypeTree
type_view = fold-TypeDef TypeTree FieldView type_level field_level

-- the field that a Rust field stands for
abbrev pub field_view : field.Field → FieldView
field_view = fold-Field TypeTree FieldView type_level field_level

-- a step of a path, its index already seen as plain data
pub record StepView : Type 0 where
  pub name : List ℕ
  pub index : Option Exp

-- a part of a sum
pub record SumPartView : Type 0 where
  pub op : SumOp
  pub value : Exp

-- a part of a product
pub record MulPartView : Type 0 where
  pub op : MulOp
  pub value : Exp

-- a member of a literal
pub record MemberView : Type 0 where
  pub name : List ℕ
  pub value : Exp

-- a step with or without an index, before the rest of its path
abbrev pub step_of : List ℕ → Option Exp → PathTree → PathTree
step_of name None rest = plain.step name rest
step_of name (Some index) rest = plain.step_at name index rest

-- the path of some steps
abbrev pub path_of : List StepView → PathTree
path_of [] = plain.here
path_of (s ∷ ss) = step_of s.name s.index (path_of ss)

-- operands in the order of the text
abbrev pub exps_of : List Exp → Exps
exps_of [] = plain.no_exps
exps_of (e ∷ es) = plain.exp e (exps_of es)

-- parts of a sum in the order of the text
abbrev pub sum_parts_of : List SumPartView → SumParts
sum_parts_of [] = plain.no_sum_parts
sum_parts_of (p ∷ ps) = plain.sum_part p.op p.value (sum_parts_of ps)

-- parts of a product in the order of the text
abbrev pub mul_parts_of : List MulPartView → MulParts
mul_parts_of [] = plain.no_mul_parts
mul_parts_of (p ∷ ps) = plain.mul_part p.op p.value (mul_parts_of ps)

-- members of a literal in the order of the text
abbrev pub member_list_of : List MemberView → MemberList
member_list_of [] = plain.no_member_list
member_list_of (m ∷ ms) = plain.member_of m.name m.value (member_list_of ms)

-- one level of an expression, with what is inside already seen
abbrev pub expr_level : Expr-F Exp MemberView MulPartView PathTree StepView SumPartView → Exp
expr_level (Expr-F.Value r) = plain.constant r
expr_level (Expr-F.Path p) = plain.at_path p
expr_level (Expr-F.Count p) = plain.count_at p
expr_level (Expr-F.IsDefined p) = plain.defined_at p
expr_level (Expr-F.Literal ms) = plain.literal (member_list_of ms.items)
expr_level (Expr-F.Or es) = plain.any_of (exps_of es.items)
expr_level (Expr-F.And es) = plain.all_of (exps_of es.items)
expr_level (Expr-F.Compare l op r) = plain.compared l.value op r.value
expr_level (Expr-F.Sum first rest) = plain.sum first.value (sum_parts_of rest.items)
expr_level (Expr-F.Product first rest) = plain.product first.value (mul_parts_of rest.items)
expr_level (Expr-F.Minus e) = plain.minus e.value
expr_level (Expr-F.Not e) = plain.negation e.value
expr_level (Expr-F.Cast to e) = plain.cast to e.value

-- one level of a member of a literal
abbrev pub member_level : Member-F Exp MemberView MulPartView PathTree StepView SumPartView → MemberView
member_level m = record { name = m.name; value = m.value }

-- one level of a part of a product
abbrev pub mul_part_level : MulPart-F Exp MemberView MulPartView PathTree StepView SumPartView → MulPartView
mul_part_level p = record { op = p.op; value = p.value }

-- one level of a path
abbrev pub path_level : PathExpr-F Exp MemberView MulPartView PathTree StepView SumPartView → PathTree
path_level p = path_of p.steps.items

-- one level of a step of a path
abbrev pub step_level : PathStep-F Exp MemberView MulPartView PathTree StepView SumPartView → StepView
step_level s = record { name = s.name; index = s.index }

-- one level of a part of a sum
abbrev pub sum_part_level : SumPart-F Exp MemberView MulPartView PathTree StepView SumPartView → SumPartView
sum_part_level p = record { op = p.op; value = p.value }

-- the expression that a Rust expression stands for
abbrev pub expr_view : expr.Expr → Exp
expr_view =
    fold-Expr Exp MemberView MulPartView PathTree StepView SumPartView
    expr_level member_level mul_part_level path_level step_level sum_part_level

-- the member that a Rust member stands for
abbrev pub member_view : member.Member → MemberView
member_view =
    fold-Member Exp MemberView MulPartView PathTree StepView SumPartView
    expr_level member_level mul_part_level path_level step_level sum_part_level

-- the part of a product that a Rust part stands for
abbrev pub mul_part_view : mul_part.MulPart → MulPartView
mul_part_view =
    fold-MulPart Exp MemberView MulPartView PathTree StepView SumPartView
    expr_level member_level mul_part_level path_level step_level sum_part_level

-- the path that a Rust path stands for
abbrev pub path_view : path.PathExpr → PathTree
path_view =
    fold-PathExpr Exp MemberView MulPartView PathTree StepView SumPartView
    expr_level member_level mul_part_level path_level step_level sum_part_level

-- the step that a Rust step stands for
abbrev pub step_view : path_step.PathStep → StepView
step_view =
    fold-PathStep Exp MemberView MulPartView PathTree StepView SumPartView
    expr_level member_level mul_part_level path_level step_level sum_part_level

-- the part of a sum that a Rust part stands for
abbrev pub sum_part_view : sum_part.SumPart → SumPartView
sum_part_view =
    fold-SumPart Exp MemberView MulPartView PathTree StepView SumPartView
    expr_level member_level mul_part_level path_level step_level sum_part_level

-- what a request-response branch has beside, its body already seen as plain data
pub record ReplyView : Type 0 where
  pub path : Option PathTree
  pub body : Proc

-- a branch of a choice
pub record BranchView : Type 0 where
  pub op : ℕ
  pub target : Option PathTree
  pub reply : Option ReplyView
  pub after : Proc

-- a handler
pub record HandlerView : Type 0 where
  pub key : HandlerKey
  pub body : Proc

-- behaviours in the order of the text
abbrev pub procs_of : List Proc → Procs
procs_of [] = plain.no_procs
procs_of (p ∷ ps) = plain.proc p (procs_of ps)

-- a branch with or without a reply, before the rest of its choice
abbrev pub branch_of : ℕ → Option PathTree → Option ReplyView → Proc → Branches → Branches
branch_of op target None after rest = plain.one_way op target after rest
branch_of op target (Some r) after rest = plain.request op target r.path r.body after rest

-- branches in the order of the text
abbrev pub branches_of : List BranchView → Branches
branches_of [] = plain.no_branches
branches_of (b ∷ bs) = branch_of b.op b.target b.reply b.after (branches_of bs)

-- handlers in the order of the text
abbrev pub handlers_of : List HandlerView → HandlerList
handlers_of [] = plain.no_handlers
handlers_of (h ∷ hs) = plain.handler h.key h.body (handlers_of hs)

-- one level of a behaviour, with what is inside already seen
abbrev pub behaviour_level : Behaviour-F Proc BranchView HandlerView HandlerList ReplyView → Proc
behaviour_level Behaviour-F.Nothing = plain.nothing
behaviour_level (Behaviour-F.Assign p e) = plain.assign (path_view p) (expr_view e)
behaviour_level (Behaviour-F.Undef p) = plain.undef (path_view p)
behaviour_level (Behaviour-F.Copy p e) = plain.copy (path_view p) (expr_view e)
behaviour_level (Behaviour-F.Bind v e) = plain.bind v (expr_view e)
behaviour_level (Behaviour-F.Sequence ps) = plain.sequence (procs_of ps.items)
behaviour_level (Behaviour-F.Parallel ps) = plain.parallel (procs_of ps.items)
behaviour_level (Behaviour-F.If e p q) = plain.choose (expr_view e) p.value q.value
behaviour_level (Behaviour-F.While e p) = plain.repeat (expr_view e) p.value
behaviour_level (Behaviour-F.Choice bs) = plain.choice (branches_of bs.items)
behaviour_level (Behaviour-F.Notify port op e) = plain.notify port op (expr_view e)
behaviour_level (Behaviour-F.Solicit port op e target hs) =
    plain.solicit port op (expr_view e) (option_map path_view target) hs
behaviour_level (Behaviour-F.Install hs) = plain.install hs
behaviour_level (Behaviour-F.Throw f e) = plain.throw f (expr_view e)
behaviour_level (Behaviour-F.Comp s) = plain.comp s
behaviour_level Behaviour-F.InnerHandler = plain.inner_handler
behaviour_level (Behaviour-F.Scope s p) = plain.scope s p.value
behaviour_level (Behaviour-F.Block p) = plain.block p.value

-- one level of a branch
abbrev pub branch_level : Branch-F Proc BranchView HandlerView HandlerList ReplyView → BranchView
branch_level b = record { op = b.op; target = option_map path_view b.target; reply = b.reply; after = b.after }

-- one level of a handler
abbrev pub handler_level : Handler-F Proc BranchView HandlerView HandlerList ReplyView → HandlerView
handler_level h = record { key = h.key; body = h.body }

-- one level of handlers
abbrev pub handlers_level : Handlers-F Proc BranchView HandlerView HandlerList ReplyView → HandlerList
handlers_level hs = handlers_of hs.list.items

-- one level of a reply
abbrev pub reply_level : ReplyPart-F Proc BranchView HandlerView HandlerList ReplyView → ReplyView
reply_level r = record { path = option_map path_view r.path; body = r.body }

-- the behaviour that a Rust behaviour stands for
abbrev pub behaviour_view : behaviour.Behaviour → Proc
behaviour_view =
    fold-Behaviour Proc BranchView HandlerView HandlerList ReplyView
    behaviour_level branch_level handler_level handlers_level reply_level

-- the branch that a Rust branch stands for
abbrev pub branch_view : branch.Branch → BranchView
branch_view =
    fold-Branch Proc BranchView HandlerView HandlerList ReplyView
    behaviour_level branch_level handler_level handlers_level reply_level

-- the handler that a Rust handler stands for
abbrev pub handler_view : handler.Handler → HandlerView
handler_view =
    fold-Handler Proc BranchView HandlerView HandlerList ReplyView
    behaviour_level branch_level handler_level handlers_level reply_level

-- the handlers that Rust handlers stand for
abbrev pub handlers_view : handlers.Handlers → HandlerList
handlers_view =
    fold-Handlers Proc BranchView HandlerView HandlerList ReplyView
    behaviour_level branch_level handler_level handlers_level reply_level

-- the reply that a Rust reply stands for
abbrev pub reply_view : reply.ReplyPart → ReplyView
reply_view =
    fold-ReplyPart Proc BranchView HandlerView HandlerList ReplyView
    behaviour_level branch_level handler_level handlers_level reply_level

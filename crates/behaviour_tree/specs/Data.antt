-- A checked program as plain data: types, paths, expressions, behaviours, and the parts that hold them.
use Rattle.std.specs.Prelude.{ℕ, Bool, List, Option}
use Rattle.jolie_trees.specs.declared.root.Root.{Root}
use Rattle.behaviour_tree.specs.declared.types.RootKind.{RootKind}
use Rattle.behaviour_tree.specs.declared.expr.CompareOp.{CompareOp}
use Rattle.behaviour_tree.specs.declared.expr.SumOp.{SumOp}
use Rattle.behaviour_tree.specs.declared.expr.MulOp.{MulOp}
use Rattle.behaviour_tree.specs.declared.expr.CastKind.{CastKind}
use Rattle.behaviour_tree.specs.declared.behaviour.HandlerKey.{HandlerKey}
use Rattle.behaviour_tree.specs.declared.program.Execution.{Execution}

mutual
  -- a type: a kind of root with fields, the type of a number, or any tree at all
  pub data TypeTree : Type 0 where
    plain : RootKind → TypeFields → TypeTree
    named : ℕ → TypeTree
    undefined : TypeTree

  -- a field: its name, the least and the most of its occurrences (None is any number), and its type
  pub data TypeFields : Type 0 where
    no_type_fields : TypeFields
    type_field : List ℕ → ℕ → Option ℕ → TypeTree → TypeFields → TypeFields

mutual
  -- a path: names with or without an index
  pub data PathTree : Type 0 where
    here : PathTree
    step : List ℕ → PathTree → PathTree
    step_at : List ℕ → Exp → PathTree → PathTree

  -- an expression, operands of one level being a list from the left
  pub data Exp : Type 0 where
    constant : Root → Exp
    at_path : PathTree → Exp
    count_at : PathTree → Exp
    defined_at : PathTree → Exp
    literal : MemberList → Exp
    any_of : Exps → Exp
    all_of : Exps → Exp
    compared : Exp → CompareOp → Exp → Exp
    sum : Exp → SumParts → Exp
    product : Exp → MulParts → Exp
    minus : Exp → Exp
    negation : Exp → Exp
    cast : CastKind → Exp → Exp

  -- expressions in order
  pub data Exps : Type 0 where
    no_exps : Exps
    exp : Exp → Exps → Exps

  -- what is added and taken away, in order
  pub data SumParts : Type 0 where
    no_sum_parts : SumParts
    sum_part : SumOp → Exp → SumParts → SumParts

  -- what is multiplied and divided by, in order
  pub data MulParts : Type 0 where
    no_mul_parts : MulParts
    mul_part : MulOp → Exp → MulParts → MulParts

  -- the members of a literal, in order
  pub data MemberList : Type 0 where
    no_member_list : MemberList
    member_of : List ℕ → Exp → MemberList → MemberList

mutual
  -- a behaviour: the eighteen static forms
  pub data Proc : Type 0 where
    nothing : Proc
    assign : PathTree → Exp → Proc
    undef : PathTree → Proc
    copy : PathTree → Exp → Proc
    bind : ℕ → Exp → Proc
    sequence : Procs → Proc
    parallel : Procs → Proc
    choose : Exp → Proc → Proc → Proc
    repeat : Exp → Proc → Proc
    choice : Branches → Proc
    notify : ℕ → ℕ → Exp → Proc
    solicit : ℕ → ℕ → Exp → Option PathTree → HandlerList → Proc
    install : HandlerList → Proc
    throw : ℕ → Exp → Proc
    comp : ℕ → Proc
    inner_handler : Proc
    scope : ℕ → Proc → Proc
    block : Proc → Proc

  -- behaviours in order
  pub data Procs : Type 0 where
    no_procs : Procs
    proc : Proc → Procs → Procs

  -- the branches of a choice. A one-way branch has its operation, its target and what comes after;
  -- a request-response branch also has the path of its reply and its body
  pub data Branches : Type 0 where
    no_branches : Branches
    one_way : ℕ → Option PathTree → Proc → Branches → Branches
    request : ℕ → Option PathTree → Option PathTree → Proc → Proc → Branches → Branches

  -- handlers by key, in order
  pub data HandlerList : Type 0 where
    no_handlers : HandlerList
    handler : HandlerKey → Proc → HandlerList → HandlerList

-- a fault that an operation may answer, and the type of its data
pub record ThrowsPart : Type 0 where
  pub fault : ℕ
  pub ty : TypeTree

-- an operation: a one-way operation has no response
pub record OperationPart : Type 0 where
  pub name : List ℕ
  pub request : TypeTree
  pub response : Option TypeTree
  pub throws : List ThrowsPart

-- an interface and its operations
pub record InterfacePart : Type 0 where
  pub name : List ℕ
  pub operations : List OperationPart

-- an input or output port, its location and its interfaces by number
pub record PortPart : Type 0 where
  pub name : List ℕ
  pub input : Bool
  pub location : List ℕ
  pub interfaces : List ℕ

-- where a message of a type has the value of a correlation variable
pub record AliasPart : Type 0 where
  pub ty : ℕ
  pub path : List (List ℕ)

-- a correlation variable
pub record VariablePart : Type 0 where
  pub name : List ℕ
  pub aliases : List AliasPart

-- a correlation set
pub record SetPart : Type 0 where
  pub variables : List VariablePart

-- a service
pub record ServicePart : Type 0 where
  pub name : List ℕ
  pub execution : Execution
  pub ports : List PortPart
  pub sets : List SetPart
  pub init : Proc
  pub main : Proc

-- a program: types, interfaces and services by number, and the names of faults and scopes
pub record ProgramParts : Type 0 where
  pub types : List TypeTree
  pub interfaces : List InterfacePart
  pub services : List ServicePart
  pub names : List (List ℕ)

-- the behaviour that a session of the service runs: init and then main
abbrev pub behaviour_of : ServicePart → Proc
behaviour_of s = sequence (proc s.init (proc s.main no_procs))

-- What is refused of the processes of a service.
use Rattle.std.specs.Prelude.{ℕ, pos, int_le, Bool, true, false, not, List, [], ◌∷◌, ◌++◌, map, flat_map, bytes_eq}
use Rattle.std.specs.Prelude.{codes, if◌then◌else◌, Option, None, Some, is_some}
use Rattle.std.specs.Option.{option_map_or}
use Rattle.jolie_ast.specs.declared.name.Name.{Name}
use Rattle.jolie_ast.specs.declared.expression.Expr.{Expr, out-Expr}
use Rattle.jolie_ast.specs.declared.expression.ExprForm.{ExprForm, out-ExprForm}
use Rattle.jolie_ast.specs.declared.expression.ExprForm.TheOpen.{ExprForm-F}
use Rattle.jolie_ast.specs.declared.expression.Path.{Path, out-Path}
use Rattle.jolie_ast.specs.declared.expression.Step.{Step, out-Step}
use Rattle.jolie_ast.specs.declared.process.HandlerKey.{HandlerKey}
use Rattle.jolie_ast.specs.declared.process.HandlerKey.TheVariants as key
use Rattle.jolie_ast.specs.declared.process.Otherwise.TheOpen.{Input-F, Process-F}
use Rattle.jolie_ast.specs.declared.process.Process.{Process}
use Rattle.jolie_ast.specs.declared.process.Block.{Block}
use Rattle.jolie_ast.specs.Folds.{ProcessResults, ProcessFold, level, all_are, else_or, fold_process, fold_block}
use Rattle.behaviour_tree.specs.Distinct.{is_in}
use Rattle.check_base.specs.declared.refusal.CheckName.TheVariants.{DuplicateName, UnknownPort, UnknownOperation}
use Rattle.check_base.specs.declared.refusal.CheckName.TheVariants.{WrongKind, Uncorrelated, CompOutsideHandler}
use Rattle.check_base.specs.declared.refusal.CheckName.TheVariants.{ChOutsideHandler}
use Rattle.check_base.specs.declared.refusal.Refusal.{Refusal}
use Rattle.check_base.specs.Repeated.{named, repeated}
use Rattle.check_base.specs.Least.{refused, refused_if}
use Rattle.check_base.specs.Files.{Operation, operation_named}
use Rattle.check_base.specs.Console.{console, println}
use Rattle.check_processes.specs.Surroundings.{Outlet, Surroundings}

-- ---- operations

-- two that both hold or both don't
abbrev pub agree : Bool → Bool → Bool
agree true b = b
agree false b = not b

-- an operation of these that is used with or without an answer
abbrev pub used : List Operation → Name → Bool → List Refusal
used operations n answers =
    elim (operation_named operations n.text) [
      | None ↦ refused UnknownOperation (n.at ∷ [])
      | Some o ↦ refused_if (not (agree (is_some o.response) answers)) WrongKind n.at
    ]

-- the operations of the output port of a name
abbrev pub outlet_named : List Outlet → List ℕ → Option (List Operation)
outlet_named [] name = None
outlet_named (o ∷ os) name = if bytes_eq o.name name then Some o.operations else outlet_named os name

-- the operations behind the port of an output
abbrev pub port_named : Surroundings → List ℕ → Option (List Operation)
port_named e name = if bytes_eq name console then Some (println ∷ []) else outlet_named e.outlets name

-- an output of an operation to a port, with or without an answer
abbrev pub sends : Surroundings → Name → Name → Bool → List Refusal
sends e operation port answers =
    elim (port_named e port.text) [
      | None ↦ refused UnknownPort (port.at ∷ [])
      | Some operations ↦ used operations operation answers
    ]

-- ---- paths

-- an int literal, which has no sign
abbrev pub is_int_literal : ExprForm → Bool
is_int_literal form = elim (out-ExprForm form) [ ExprForm-F.Int n ↦ int_le (pos 0) n | _ ↦ false ]

-- an index that is no int literal
abbrev pub wrong_index : Expr → List Refusal
wrong_index e = refused_if (not (is_int_literal (out-Expr e).form)) WrongKind (out-Expr e).at

-- a step whose index is none
abbrev pub wrong_step : Step → List Refusal
wrong_step s = elim (out-Step s).index [ None ↦ [] | Some e ↦ wrong_index e ]

-- a path with such an index
abbrev pub wrong_path : Path → List Refusal
wrong_path p = flat_map wrong_step ((out-Path p).first ∷ (out-Path p).rest)

-- the same of a path that may be written
abbrev pub wrong_if_written : Option Path → List Refusal
wrong_if_written p = option_map_or wrong_path p []

-- ---- processes: what is refused inside a handler (true) or outside of one

-- what is refused at a place that is inside a handler or not
abbrev pub Found : Type 0
Found = Bool → List Refusal

-- an input, and what is refused of it
pub record InputFound : Type 0 where
  pub operation : Name
  pub found : Found

-- a handler's name, and what is refused in it
pub record HandlerFound : Type 0 where
  pub name : Name
  pub found : Found

-- what is found of each part of a process
abbrev pub findings : ProcessResults
findings = record (all_are Found) { input = InputFound; branch = InputFound; handler = HandlerFound }

-- what is refused of a part that may be there
abbrev pub maybe : Option Found → Found
maybe part h = option_map_or (λ (found : Found). found h) part []

-- what is refused of parts
abbrev pub each : List Found → Found
each parts h = flat_map (λ (found : Found). found h) parts

-- a handler's key as a name
abbrev pub key_name : HandlerKey → Name
key_name (key.This at) = named (codes "this") at
key_name (key.Named n) = n

-- what is refused of handlers: a name that stands a second time, and what stands in them, which is inside a handler
abbrev pub handlers : List HandlerFound → List Refusal
handlers list =
    refused DuplicateName (repeated (map (λ (f : HandlerFound). f.name) list))
    ++ flat_map (λ (f : HandlerFound). f.found true) list

-- a variable that the service lacks, at the word `csets`
abbrev pub lacks_variable : Surroundings → ℕ → Name → List Refusal
lacks_variable e at variable = refused_if (not (is_in variable.text e.variables)) Uncorrelated at

-- one level of a process
abbrev pub process_level : Surroundings → level findings Process-F → Found
process_level e (Process-F.Correlate at variable value) h = lacks_variable e at variable
process_level e (Process-F.If conditional) h = conditional h
process_level e (Process-F.While at test body) h = body h
process_level e (Process-F.For at path first test stepped step body) h = body h
process_level e (Process-F.Input input) h = input.found h
process_level e (Process-F.Choice at branches) h =
    refused DuplicateName (repeated (map (λ (b : InputFound). b.operation) branches))
    ++ flat_map (λ (b : InputFound). b.found h) branches
process_level e (Process-F.Output operation port value None) h = sends e operation port false
process_level e (Process-F.Output operation port value (Some answer)) h = sends e operation port true ++ answer h
process_level e (Process-F.Scope at name body) h = body h
process_level e (Process-F.Install at list) h = handlers list
process_level e (Process-F.Compensate at scope) h = refused_if (not h) CompOutsideHandler at
process_level e (Process-F.InnerHandler at) h = refused_if (not h) ChOutsideHandler at
process_level e (Process-F.Block block) h = block h
process_level e (Process-F.Sequence statements) h = each statements h
process_level e (Process-F.Parallel members) h = each members h
process_level e _ h = []

-- one level of an input: the operation, with an answer where second parentheses are written, and its path
abbrev pub input_level : Surroundings → level findings Input-F → InputFound
input_level e i = record {
  operation = i.operation;
  found = λ h. used e.inputs i.operation (is_some i.reply) ++ wrong_if_written i.request ++ maybe i.reply h;
}

-- what is refused of a part, from what is refused of the parts in it
abbrev pub parts_refused : Surroundings → ProcessFold findings
parts_refused e = record {
  process = process_level e;
  block = λ b h. maybe b.body h;
  conditional = λ i h. i.body h ++ i.otherwise h;
  otherwise = else_or (each []);
  input = input_level e;
  reply = λ r h. wrong_if_written r.path ++ r.body h;
  branch = λ b. record { operation = b.input.operation; found = λ h. b.input.found h ++ b.after h };
  answer = λ a h. wrong_if_written a.path ++ option_map_or handlers a.handlers [];
  handler = λ f. record { name = key_name f.key; found = f.body };
}

-- what is refused of a process
unfoldable pub process_refused : Surroundings → Process → Found
process_refused e = fold_process (parts_refused e)

-- what is refused of a block
unfoldable pub block_refused : Surroundings → Block → Found
block_refused e = fold_block (parts_refused e)

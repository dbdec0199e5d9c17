-- A scope that a fault beside it ends runs its termination handler, which compensates a scope that ended in it, once.
use Rattle.std.specs.Prelude.{◌≡◌, true, [], ◌∷◌, None, Some}
use Rattle.std.proofs.Common.{refl}
use Rattle.std.specs.Fmt.{digits}
use Rattle.jolie_trees.specs.declared.root.Root.TheVariants as root
use Rattle.jolie_trees.specs.Data.{node, no_fields, field, no_trees, tree}
use Rattle.behaviour_tree.specs.declared.types.RootKind.TheVariants as kinds
use Rattle.behaviour_tree.specs.declared.expr.SumOp.TheVariants as sums
use Rattle.behaviour_tree.specs.declared.behaviour.HandlerKey.TheVariants as key
use Rattle.behaviour_tree.specs.declared.program.Execution.TheVariants as execution
use Rattle.behaviour_tree.specs.declared.words.Kind.TheVariants as kind
use Rattle.behaviour_tree.specs.declared.words.Need.TheVariants as need
use Rattle.behaviour_tree.specs.declared.words.Given.TheVariants as given
use Rattle.behaviour_tree.specs.declared.words.Outcome.TheVariants as outcome
use Rattle.behaviour_tree.specs.Data.{plain, named, no_type_fields, type_field, here, step, constant, at_path, sum, no_sum_parts, sum_part, nothing, assign, sequence, parallel, choice, install, throw, comp, scope, block, no_procs, proc, no_branches, one_way, request, no_handlers, handler, ProgramParts}
use Rattle.test_calculus.specs.Told.{told, act, mail, happens, then_tries}

abbrev program : ProgramParts
program = record {
  types = ((plain kinds.Void (type_field (99 ∷ []) 0 (Some 1) (plain kinds.Text no_type_fields) (type_field (101 ∷ 110 ∷ 100 ∷ []) 0 (Some 1) (plain kinds.Text no_type_fields) (type_field (116 ∷ []) 0 (Some 1) (plain kinds.Text no_type_fields) no_type_fields)))) ∷ []);
  interfaces = (record { name = (73 ∷ []); operations = (record { name = (103 ∷ 111 ∷ []); request = (plain kinds.Void no_type_fields); response = (Some (named 0)); throws = [] } ∷ record { name = (112 ∷ 97 ∷ 117 ∷ 115 ∷ 101 ∷ []); request = (plain kinds.Void no_type_fields); response = None; throws = [] } ∷ []) } ∷ []);
  services = (record { name = (83 ∷ []); execution = execution.Single; ports = (record { name = (73 ∷ 110 ∷ []); input = true; location = (115 ∷ 111 ∷ 99 ∷ 107 ∷ 101 ∷ 116 ∷ 58 ∷ 47 ∷ 47 ∷ 108 ∷ 111 ∷ 99 ∷ 97 ∷ 108 ∷ 104 ∷ 111 ∷ 115 ∷ 116 ∷ 58 ∷ 56 ∷ 48 ∷ 48 ∷ 48 ∷ []); interfaces = (0 ∷ []) } ∷ []); sets = []; init = nothing; main = (choice (request 0 None (Some (step (121 ∷ []) here)) (scope 9 (sequence (proc (install (handler (key.Fault 10) (assign (step (121 ∷ []) (step (101 ∷ 110 ∷ 100 ∷ []) here)) (constant (root.Text (104 ∷ 97 ∷ 110 ∷ 100 ∷ 108 ∷ 101 ∷ 100 ∷ [])))) no_handlers)) (proc (block (parallel (proc (scope 11 (sequence (proc (install (handler key.This (sequence (proc (comp 12) (proc (comp 12) (proc (assign (step (121 ∷ []) (step (116 ∷ []) here)) (constant (root.Text (116 ∷ 101 ∷ 114 ∷ 109 ∷ [])))) no_procs)))) no_handlers)) (proc (scope 12 (install (handler key.This (assign (step (121 ∷ []) (step (99 ∷ []) here)) (sum (at_path (step (121 ∷ []) (step (99 ∷ []) here))) (sum_part sums.Plus (constant (root.Text (99 ∷ []))) no_sum_parts))) no_handlers))) (proc (choice (one_way 1 None nothing no_branches)) no_procs))))) (proc (scope 13 (throw 10 (constant root.Void))) no_procs)))) no_procs)))) nothing no_branches)) } ∷ []);
  names = ((73 ∷ 79 ∷ 69 ∷ 120 ∷ 99 ∷ 101 ∷ 112 ∷ 116 ∷ 105 ∷ 111 ∷ 110 ∷ []) ∷ (84 ∷ 121 ∷ 112 ∷ 101 ∷ 77 ∷ 105 ∷ 115 ∷ 109 ∷ 97 ∷ 116 ∷ 99 ∷ 104 ∷ []) ∷ (67 ∷ 111 ∷ 114 ∷ 114 ∷ 101 ∷ 108 ∷ 97 ∷ 116 ∷ 105 ∷ 111 ∷ 110 ∷ 69 ∷ 114 ∷ 114 ∷ 111 ∷ 114 ∷ []) ∷ (82 ∷ 101 ∷ 102 ∷ 117 ∷ 115 ∷ 101 ∷ 100 ∷ []) ∷ (85 ∷ 110 ∷ 100 ∷ 101 ∷ 99 ∷ 108 ∷ 97 ∷ 114 ∷ 101 ∷ 100 ∷ 70 ∷ 97 ∷ 117 ∷ 108 ∷ 116 ∷ []) ∷ (69 ∷ 120 ∷ 112 ∷ 114 ∷ 70 ∷ 97 ∷ 117 ∷ 108 ∷ 116 ∷ []) ∷ (72 ∷ 97 ∷ 110 ∷ 100 ∷ 108 ∷ 101 ∷ 114 ∷ 84 ∷ 111 ∷ 111 ∷ 76 ∷ 97 ∷ 114 ∷ 103 ∷ 101 ∷ []) ∷ (83 ∷ 116 ∷ 111 ∷ 114 ∷ 101 ∷ 84 ∷ 111 ∷ 111 ∷ 76 ∷ 97 ∷ 114 ∷ 103 ∷ 101 ∷ []) ∷ (109 ∷ 97 ∷ 105 ∷ 110 ∷ []) ∷ (111 ∷ 117 ∷ 116 ∷ 101 ∷ 114 ∷ []) ∷ (98 ∷ 97 ∷ 100 ∷ []) ∷ (108 ∷ 101 ∷ 102 ∷ 116 ∷ []) ∷ (99 ∷ 104 ∷ 105 ∷ 108 ∷ 100 ∷ []) ∷ (114 ∷ 105 ∷ 103 ∷ 104 ∷ 116 ∷ []) ∷ []);
}

pub compensates_once : happens program 0 (
    act 0 (mail program 0 0 0 (node root.Void no_fields)) ∷
    act 0 given.Nothing ∷
    act 1 given.Nothing ∷
    act 1 given.Nothing ∷
    act 1 given.Nothing ∷
    act 2 given.Nothing ∷
    act 1 given.Nothing ∷
    act 1 given.Nothing ∷
    act 1 given.Nothing ∷
    act 1 given.Nothing ∷
    act 1 given.Nothing ∷
    act 0 given.Nothing ∷
    act 0 given.Nothing ∷
    act 0 given.Nothing ∷
    act 0 given.Nothing ∷
    act 0 given.Nothing ∷ []) ≡ (
    told 0 kind.In 0 0 0 (need.Take (0 ∷ [])) ∷
    told 0 kind.Install 0 0 0 need.Nothing ∷
    told 1 kind.Install 0 0 0 need.Nothing ∷
    told 1 kind.Install 0 0 0 need.Nothing ∷
    told 1 kind.EndScope 0 12 0 need.Nothing ∷
    told 2 kind.Raise 0 9 10 need.Nothing ∷
    told 1 kind.Handle 1 11 0 need.Nothing ∷
    told 1 kind.Compensate 0 12 0 need.Nothing ∷
    told 1 kind.Local 0 0 0 need.Nothing ∷
    told 1 kind.Compensate 0 12 0 need.Nothing ∷
    told 1 kind.Local 0 0 0 need.Nothing ∷
    told 0 kind.Handle 0 9 10 need.Nothing ∷
    told 0 kind.Local 0 0 0 need.Nothing ∷
    told 0 kind.EndScope 0 9 0 need.Nothing ∷
    told 0 kind.Reply 0 0 0 (need.Reply 0 (outcome.Value (node root.Void (field (99 ∷ []) (tree (node (root.Text (99 ∷ [])) no_fields) no_trees) (field (101 ∷ 110 ∷ 100 ∷ []) (tree (node (root.Text (104 ∷ 97 ∷ 110 ∷ 100 ∷ 108 ∷ 101 ∷ 100 ∷ [])) no_fields) no_trees) (field (116 ∷ []) (tree (node (root.Text (116 ∷ 101 ∷ 114 ∷ 109 ∷ [])) no_fields) no_trees) no_fields)))))) ∷
    told 0 kind.Finish 0 0 0 need.Finish ∷ [])
unfolding digits
compensates_once = refl

-- after 5 events: not 1 nothing
pub compensates_once_refuses_0 : then_tries program 0 (
    act 0 (mail program 0 0 0 (node root.Void no_fields)) ∷
    act 0 given.Nothing ∷
    act 1 given.Nothing ∷
    act 1 given.Nothing ∷
    act 1 given.Nothing ∷ []) 1 given.Nothing ≡ None
unfolding digits
compensates_once_refuses_0 = refl

-- after 6 events: not 1 mail 1 pause v
pub compensates_once_refuses_1 : then_tries program 0 (
    act 0 (mail program 0 0 0 (node root.Void no_fields)) ∷
    act 0 given.Nothing ∷
    act 1 given.Nothing ∷
    act 1 given.Nothing ∷
    act 1 given.Nothing ∷
    act 2 given.Nothing ∷ []) 1 (mail program 0 1 1 (node root.Void no_fields)) ≡ None
unfolding digits
compensates_once_refuses_1 = refl

-- after 6 events: not 0 nothing
pub compensates_once_refuses_2 : then_tries program 0 (
    act 0 (mail program 0 0 0 (node root.Void no_fields)) ∷
    act 0 given.Nothing ∷
    act 1 given.Nothing ∷
    act 1 given.Nothing ∷
    act 1 given.Nothing ∷
    act 2 given.Nothing ∷ []) 0 given.Nothing ≡ None
unfolding digits
compensates_once_refuses_2 = refl

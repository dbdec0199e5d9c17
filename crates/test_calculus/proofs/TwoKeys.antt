-- Each cH is what stood under its own key; a fault and a scope of one name are apart.
use Rattle.std.specs.Prelude.{◌≡◌, true, [], ◌∷◌, None, Some}
use Rattle.std.proofs.Common.{refl}
use Rattle.std.specs.Fmt.{digits}
use Rattle.jolie_trees.specs.declared.root.Root.TheVariants as root
use Rattle.jolie_trees.specs.Data.{node, no_fields}
use Rattle.behaviour_tree.specs.declared.types.RootKind.TheVariants as kinds
use Rattle.behaviour_tree.specs.declared.expr.SumOp.TheVariants as sums
use Rattle.behaviour_tree.specs.declared.behaviour.HandlerKey.TheVariants as key
use Rattle.behaviour_tree.specs.declared.program.Execution.TheVariants as execution
use Rattle.behaviour_tree.specs.declared.words.Kind.TheVariants as kind
use Rattle.behaviour_tree.specs.declared.words.Need.TheVariants as need
use Rattle.behaviour_tree.specs.declared.words.Given.TheVariants as given
use Rattle.behaviour_tree.specs.declared.words.Outcome.TheVariants as outcome
use Rattle.behaviour_tree.specs.Data.{plain, no_type_fields, here, step, constant, at_path, sum, no_sum_parts, sum_part, nothing, assign, sequence, choice, install, throw, comp, inner_handler, scope, no_procs, proc, no_branches, request, no_handlers, handler, ProgramParts}
use Rattle.test_calculus.specs.Told.{told, act, mail, happens}

abbrev program : ProgramParts
program = record {
  types = [];
  interfaces = (record { name = (73 ∷ []); operations = (record { name = (103 ∷ 111 ∷ []); request = (plain kinds.Void no_type_fields); response = (Some (plain kinds.Any no_type_fields)); throws = [] } ∷ []) } ∷ []);
  services = (record { name = (83 ∷ []); execution = execution.Single; ports = (record { name = (73 ∷ 110 ∷ []); input = true; location = (115 ∷ 111 ∷ 99 ∷ 107 ∷ 101 ∷ 116 ∷ 58 ∷ 47 ∷ 47 ∷ 108 ∷ 111 ∷ 99 ∷ 97 ∷ 108 ∷ 104 ∷ 111 ∷ 115 ∷ 116 ∷ 58 ∷ 56 ∷ 48 ∷ 48 ∷ 48 ∷ []); interfaces = (0 ∷ []) } ∷ []); sets = []; init = nothing; main = (choice (request 0 None (Some (step (121 ∷ []) here)) (sequence (proc (scope 9 (sequence (proc (install (handler key.This (assign (step (121 ∷ []) here) (sum (at_path (step (121 ∷ []) here)) (sum_part sums.Plus (constant (root.Text (115 ∷ []))) no_sum_parts))) (handler (key.Fault 9) (assign (step (121 ∷ []) here) (sum (at_path (step (121 ∷ []) here)) (sum_part sums.Plus (constant (root.Text (97 ∷ []))) no_sum_parts))) (handler (key.Fault 10) (assign (step (121 ∷ []) here) (sum (at_path (step (121 ∷ []) here)) (sum_part sums.Plus (constant (root.Text (120 ∷ []))) no_sum_parts))) no_handlers)))) (proc (install (handler key.This (sequence (proc inner_handler (proc (assign (step (121 ∷ []) here) (sum (at_path (step (121 ∷ []) here)) (sum_part sums.Plus (constant (root.Text (116 ∷ []))) no_sum_parts))) no_procs))) (handler (key.Fault 9) (sequence (proc inner_handler (proc (assign (step (121 ∷ []) here) (sum (at_path (step (121 ∷ []) here)) (sum_part sums.Plus (constant (root.Text (98 ∷ []))) no_sum_parts))) no_procs))) (handler (key.Fault 10) (sequence (proc inner_handler (proc (assign (step (121 ∷ []) here) (sum (at_path (step (121 ∷ []) here)) (sum_part sums.Plus (constant (root.Text (99 ∷ []))) no_sum_parts))) no_procs))) no_handlers)))) (proc (throw 10 (constant root.Void)) no_procs))))) (proc (comp 9) no_procs))) nothing no_branches)) } ∷ []);
  names = ((73 ∷ 79 ∷ 69 ∷ 120 ∷ 99 ∷ 101 ∷ 112 ∷ 116 ∷ 105 ∷ 111 ∷ 110 ∷ []) ∷ (84 ∷ 121 ∷ 112 ∷ 101 ∷ 77 ∷ 105 ∷ 115 ∷ 109 ∷ 97 ∷ 116 ∷ 99 ∷ 104 ∷ []) ∷ (67 ∷ 111 ∷ 114 ∷ 114 ∷ 101 ∷ 108 ∷ 97 ∷ 116 ∷ 105 ∷ 111 ∷ 110 ∷ 69 ∷ 114 ∷ 114 ∷ 111 ∷ 114 ∷ []) ∷ (82 ∷ 101 ∷ 102 ∷ 117 ∷ 115 ∷ 101 ∷ 100 ∷ []) ∷ (85 ∷ 110 ∷ 100 ∷ 101 ∷ 99 ∷ 108 ∷ 97 ∷ 114 ∷ 101 ∷ 100 ∷ 70 ∷ 97 ∷ 117 ∷ 108 ∷ 116 ∷ []) ∷ (69 ∷ 120 ∷ 112 ∷ 114 ∷ 70 ∷ 97 ∷ 117 ∷ 108 ∷ 116 ∷ []) ∷ (72 ∷ 97 ∷ 110 ∷ 100 ∷ 108 ∷ 101 ∷ 114 ∷ 84 ∷ 111 ∷ 111 ∷ 76 ∷ 97 ∷ 114 ∷ 103 ∷ 101 ∷ []) ∷ (83 ∷ 116 ∷ 111 ∷ 114 ∷ 101 ∷ 84 ∷ 111 ∷ 111 ∷ 76 ∷ 97 ∷ 114 ∷ 103 ∷ 101 ∷ []) ∷ (109 ∷ 97 ∷ 105 ∷ 110 ∷ []) ∷ (102 ∷ []) ∷ (103 ∷ []) ∷ []);
}

pub each_its_own : happens program 0 (
    act 0 (mail program 0 0 0 (node root.Void no_fields)) ∷
    act 0 given.Nothing ∷
    act 0 given.Nothing ∷
    act 0 given.Nothing ∷
    act 0 given.Nothing ∷
    act 0 given.Nothing ∷
    act 0 given.Nothing ∷
    act 0 given.Nothing ∷
    act 0 given.Nothing ∷
    act 0 given.Nothing ∷
    act 0 given.Nothing ∷
    act 0 given.Nothing ∷
    act 0 given.Nothing ∷ []) ≡ (
    told 0 kind.In 0 0 0 (need.Take (0 ∷ [])) ∷
    told 0 kind.Install 0 0 0 need.Nothing ∷
    told 0 kind.Install 0 0 0 need.Nothing ∷
    told 0 kind.Raise 0 9 10 need.Nothing ∷
    told 0 kind.Handle 0 9 10 need.Nothing ∷
    told 0 kind.Local 0 0 0 need.Nothing ∷
    told 0 kind.Local 0 0 0 need.Nothing ∷
    told 0 kind.EndScope 0 9 0 need.Nothing ∷
    told 0 kind.Compensate 0 9 0 need.Nothing ∷
    told 0 kind.Local 0 0 0 need.Nothing ∷
    told 0 kind.Local 0 0 0 need.Nothing ∷
    told 0 kind.Reply 0 0 0 (need.Reply 0 (outcome.Value (node (root.Text (120 ∷ 99 ∷ 115 ∷ 116 ∷ [])) no_fields))) ∷
    told 0 kind.Finish 0 0 0 need.Finish ∷ [])
unfolding digits
each_its_own = refl

-- What would pass a limit: the target of a message, of an answer, the place of a caught fault, and handlers.
use Rattle.std.specs.Prelude.{◌≡◌, pos, true, false, [], ◌∷◌, None, Some}
use Rattle.std.proofs.Common.{refl}
use Rattle.std.specs.Fmt.{digits}
use Rattle.jolie_trees.specs.declared.root.Root.TheVariants as root
use Rattle.jolie_trees.specs.Data.{node, no_fields}
use Rattle.behaviour_tree.specs.declared.types.RootKind.TheVariants as kinds
use Rattle.behaviour_tree.specs.declared.expr.CompareOp.TheVariants as compare
use Rattle.behaviour_tree.specs.declared.behaviour.HandlerKey.TheVariants as key
use Rattle.behaviour_tree.specs.declared.program.Execution.TheVariants as execution
use Rattle.behaviour_tree.specs.declared.words.Kind.TheVariants as kind
use Rattle.behaviour_tree.specs.declared.words.Need.TheVariants as need
use Rattle.behaviour_tree.specs.declared.words.Given.TheVariants as given
use Rattle.behaviour_tree.specs.declared.words.Outcome.TheVariants as outcome
use Rattle.behaviour_tree.specs.Data.{plain, no_type_fields, here, step, constant, at_path, count_at, literal, compared, no_member_list, member_of, nothing, assign, sequence, choose, choice, solicit, install, throw, comp, scope, block, no_procs, proc, no_branches, one_way, request, no_handlers, handler, ProgramParts}
use Rattle.test_calculus.specs.Told.{told, act, mail, happens}

abbrev program : ProgramParts
program = record {
  types = [];
  interfaces = (record { name = (73 ∷ []); operations = (record { name = (103 ∷ 111 ∷ []); request = (plain kinds.Any no_type_fields); response = (Some (plain kinds.Any no_type_fields)); throws = [] } ∷ record { name = (97 ∷ 115 ∷ 107 ∷ []); request = (plain kinds.Any no_type_fields); response = (Some (plain kinds.Any no_type_fields)); throws = [] } ∷ record { name = (116 ∷ 101 ∷ 108 ∷ 108 ∷ []); request = (plain kinds.Any no_type_fields); response = None; throws = [] } ∷ []) } ∷ record { name = (81 ∷ []); operations = (record { name = (102 ∷ 97 ∷ 114 ∷ []); request = (plain kinds.Void no_type_fields); response = (Some (plain kinds.Any no_type_fields)); throws = [] } ∷ []) } ∷ []);
  services = (record { name = (83 ∷ []); execution = execution.Single; ports = (record { name = (73 ∷ 110 ∷ []); input = true; location = (115 ∷ 111 ∷ 99 ∷ 107 ∷ 101 ∷ 116 ∷ 58 ∷ 47 ∷ 47 ∷ 108 ∷ 111 ∷ 99 ∷ 97 ∷ 108 ∷ 104 ∷ 111 ∷ 115 ∷ 116 ∷ 58 ∷ 56 ∷ 48 ∷ 48 ∷ 48 ∷ []); interfaces = (0 ∷ []) } ∷ record { name = (80 ∷ []); input = false; location = (108 ∷ 111 ∷ 99 ∷ 97 ∷ 108 ∷ 58 ∷ 47 ∷ 47 ∷ 112 ∷ []); interfaces = (1 ∷ []) } ∷ []); sets = []; init = nothing; main = (choice (request 0 (Some (step (120 ∷ []) (step (97 ∷ []) (step (97 ∷ []) (step (97 ∷ []) (step (97 ∷ []) (step (97 ∷ []) (step (97 ∷ []) (step (97 ∷ []) (step (97 ∷ []) (step (97 ∷ []) (step (97 ∷ []) (step (97 ∷ []) (step (97 ∷ []) (step (97 ∷ []) (step (97 ∷ []) (step (97 ∷ []) (step (97 ∷ []) (step (97 ∷ []) (step (97 ∷ []) (step (97 ∷ []) (step (97 ∷ []) (step (97 ∷ []) (step (97 ∷ []) (step (97 ∷ []) (step (97 ∷ []) (step (97 ∷ []) (step (97 ∷ []) (step (97 ∷ []) (step (97 ∷ []) (step (97 ∷ []) (step (97 ∷ []) (step (97 ∷ []) (step (97 ∷ []) (step (97 ∷ []) (step (97 ∷ []) (step (97 ∷ []) (step (97 ∷ []) (step (97 ∷ []) (step (97 ∷ []) (step (97 ∷ []) (step (97 ∷ []) (step (97 ∷ []) (step (97 ∷ []) (step (97 ∷ []) (step (97 ∷ []) (step (97 ∷ []) (step (97 ∷ []) (step (97 ∷ []) (step (97 ∷ []) (step (97 ∷ []) (step (97 ∷ []) (step (97 ∷ []) (step (97 ∷ []) (step (97 ∷ []) (step (97 ∷ []) (step (97 ∷ []) (step (97 ∷ []) (step (97 ∷ []) (step (97 ∷ []) (step (97 ∷ []) (step (97 ∷ []) (step (97 ∷ []) (step (97 ∷ []) (step (97 ∷ []) here))))))))))))))))))))))))))))))))))))))))))))))))))))))))))))))))) (Some (step (121 ∷ []) here)) (assign (step (121 ∷ []) here) (constant (root.Int (pos 1)))) nothing (request 1 (Some (step (122 ∷ []) here)) (Some (step (121 ∷ []) here)) (sequence (proc (scope 9 (sequence (proc (install (handler (key.Fault 10) (assign (step (121 ∷ []) here) (count_at (step (115 ∷ []) (step (102 ∷ []) here)))) (handler (key.Fault 7) (assign (step (121 ∷ []) here) (constant (root.Text (108 ∷ 97 ∷ 114 ∷ 103 ∷ 101 ∷ [])))) (handler (key.Fault 6) (assign (step (121 ∷ []) here) (constant (root.Text (104 ∷ 97 ∷ 110 ∷ 100 ∷ 108 ∷ 101 ∷ 114 ∷ [])))) no_handlers)))) (proc (choose (compared (at_path (step (122 ∷ []) here)) compare.Equal (constant (root.Int (pos 1)))) (throw 10 (literal (member_of (97 ∷ []) (literal (member_of (97 ∷ []) (literal (member_of (97 ∷ []) (literal (member_of (97 ∷ []) (literal (member_of (97 ∷ []) (literal (member_of (97 ∷ []) (literal (member_of (97 ∷ []) (literal (member_of (97 ∷ []) (literal (member_of (97 ∷ []) (literal (member_of (97 ∷ []) (literal (member_of (97 ∷ []) (literal (member_of (97 ∷ []) (literal (member_of (97 ∷ []) (literal (member_of (97 ∷ []) (literal (member_of (97 ∷ []) (literal (member_of (97 ∷ []) (literal (member_of (97 ∷ []) (literal (member_of (97 ∷ []) (literal (member_of (97 ∷ []) (literal (member_of (97 ∷ []) (literal (member_of (97 ∷ []) (literal (member_of (97 ∷ []) (literal (member_of (97 ∷ []) (literal (member_of (97 ∷ []) (literal (member_of (97 ∷ []) (literal (member_of (97 ∷ []) (literal (member_of (97 ∷ []) (literal (member_of (97 ∷ []) (literal (member_of (97 ∷ []) (literal (member_of (97 ∷ []) (literal (member_of (97 ∷ []) (literal (member_of (97 ∷ []) (literal (member_of (97 ∷ []) (literal (member_of (97 ∷ []) (literal (member_of (97 ∷ []) (literal (member_of (97 ∷ []) (literal (member_of (97 ∷ []) (literal (member_of (97 ∷ []) (literal (member_of (97 ∷ []) (literal (member_of (97 ∷ []) (literal (member_of (97 ∷ []) (literal (member_of (97 ∷ []) (literal (member_of (97 ∷ []) (literal (member_of (97 ∷ []) (literal (member_of (97 ∷ []) (literal (member_of (97 ∷ []) (literal (member_of (97 ∷ []) (literal (member_of (97 ∷ []) (literal (member_of (97 ∷ []) (literal (member_of (97 ∷ []) (literal (member_of (97 ∷ []) (literal (member_of (97 ∷ []) (literal (member_of (97 ∷ []) (literal (member_of (97 ∷ []) (literal (member_of (97 ∷ []) (literal (member_of (97 ∷ []) (literal (member_of (97 ∷ []) (literal (member_of (97 ∷ []) (literal (member_of (97 ∷ []) (literal (member_of (97 ∷ []) (literal (member_of (97 ∷ []) (constant (root.Int (pos 1))) no_member_list)) no_member_list)) no_member_list)) no_member_list)) no_member_list)) no_member_list)) no_member_list)) no_member_list)) no_member_list)) no_member_list)) no_member_list)) no_member_list)) no_member_list)) no_member_list)) no_member_list)) no_member_list)) no_member_list)) no_member_list)) no_member_list)) no_member_list)) no_member_list)) no_member_list)) no_member_list)) no_member_list)) no_member_list)) no_member_list)) no_member_list)) no_member_list)) no_member_list)) no_member_list)) no_member_list)) no_member_list)) no_member_list)) no_member_list)) no_member_list)) no_member_list)) no_member_list)) no_member_list)) no_member_list)) no_member_list)) no_member_list)) no_member_list)) no_member_list)) no_member_list)) no_member_list)) no_member_list)) no_member_list)) no_member_list)) no_member_list)) no_member_list)) no_member_list)) no_member_list)) no_member_list)) no_member_list)) no_member_list)) no_member_list)) no_member_list)) no_member_list)) no_member_list)) no_member_list)) no_member_list))) (choose (compared (at_path (step (122 ∷ []) here)) compare.Equal (constant (root.Int (pos 2)))) (throw 10 (literal (member_of (97 ∷ []) (literal (member_of (97 ∷ []) (literal (member_of (97 ∷ []) (literal (member_of (97 ∷ []) (literal (member_of (97 ∷ []) (literal (member_of (97 ∷ []) (literal (member_of (97 ∷ []) (literal (member_of (97 ∷ []) (literal (member_of (97 ∷ []) (literal (member_of (97 ∷ []) (literal (member_of (97 ∷ []) (literal (member_of (97 ∷ []) (literal (member_of (97 ∷ []) (literal (member_of (97 ∷ []) (literal (member_of (97 ∷ []) (literal (member_of (97 ∷ []) (literal (member_of (97 ∷ []) (literal (member_of (97 ∷ []) (literal (member_of (97 ∷ []) (literal (member_of (97 ∷ []) (literal (member_of (97 ∷ []) (literal (member_of (97 ∷ []) (literal (member_of (97 ∷ []) (literal (member_of (97 ∷ []) (literal (member_of (97 ∷ []) (literal (member_of (97 ∷ []) (literal (member_of (97 ∷ []) (literal (member_of (97 ∷ []) (literal (member_of (97 ∷ []) (literal (member_of (97 ∷ []) (literal (member_of (97 ∷ []) (literal (member_of (97 ∷ []) (literal (member_of (97 ∷ []) (literal (member_of (97 ∷ []) (literal (member_of (97 ∷ []) (literal (member_of (97 ∷ []) (literal (member_of (97 ∷ []) (literal (member_of (97 ∷ []) (literal (member_of (97 ∷ []) (literal (member_of (97 ∷ []) (literal (member_of (97 ∷ []) (literal (member_of (97 ∷ []) (literal (member_of (97 ∷ []) (literal (member_of (97 ∷ []) (literal (member_of (97 ∷ []) (literal (member_of (97 ∷ []) (literal (member_of (97 ∷ []) (literal (member_of (97 ∷ []) (literal (member_of (97 ∷ []) (literal (member_of (97 ∷ []) (literal (member_of (97 ∷ []) (literal (member_of (97 ∷ []) (literal (member_of (97 ∷ []) (literal (member_of (97 ∷ []) (literal (member_of (97 ∷ []) (literal (member_of (97 ∷ []) (literal (member_of (97 ∷ []) (literal (member_of (97 ∷ []) (literal (member_of (97 ∷ []) (literal (member_of (97 ∷ []) (literal (member_of (97 ∷ []) (literal (member_of (97 ∷ []) (constant (root.Int (pos 1))) no_member_list)) no_member_list)) no_member_list)) no_member_list)) no_member_list)) no_member_list)) no_member_list)) no_member_list)) no_member_list)) no_member_list)) no_member_list)) no_member_list)) no_member_list)) no_member_list)) no_member_list)) no_member_list)) no_member_list)) no_member_list)) no_member_list)) no_member_list)) no_member_list)) no_member_list)) no_member_list)) no_member_list)) no_member_list)) no_member_list)) no_member_list)) no_member_list)) no_member_list)) no_member_list)) no_member_list)) no_member_list)) no_member_list)) no_member_list)) no_member_list)) no_member_list)) no_member_list)) no_member_list)) no_member_list)) no_member_list)) no_member_list)) no_member_list)) no_member_list)) no_member_list)) no_member_list)) no_member_list)) no_member_list)) no_member_list)) no_member_list)) no_member_list)) no_member_list)) no_member_list)) no_member_list)) no_member_list)) no_member_list)) no_member_list)) no_member_list)) no_member_list)) no_member_list)) no_member_list)) no_member_list)) no_member_list))) (choose (compared (at_path (step (122 ∷ []) here)) compare.Equal (constant (root.Int (pos 3)))) (solicit 1 0 (constant root.Void) (Some (step (120 ∷ []) (step (97 ∷ []) (step (97 ∷ []) (step (97 ∷ []) (step (97 ∷ []) (step (97 ∷ []) (step (97 ∷ []) (step (97 ∷ []) (step (97 ∷ []) (step (97 ∷ []) (step (97 ∷ []) (step (97 ∷ []) (step (97 ∷ []) (step (97 ∷ []) (step (97 ∷ []) (step (97 ∷ []) (step (97 ∷ []) (step (97 ∷ []) (step (97 ∷ []) (step (97 ∷ []) (step (97 ∷ []) (step (97 ∷ []) (step (97 ∷ []) (step (97 ∷ []) (step (97 ∷ []) (step (97 ∷ []) (step (97 ∷ []) (step (97 ∷ []) (step (97 ∷ []) (step (97 ∷ []) (step (97 ∷ []) (step (97 ∷ []) (step (97 ∷ []) (step (97 ∷ []) (step (97 ∷ []) (step (97 ∷ []) (step (97 ∷ []) (step (97 ∷ []) (step (97 ∷ []) (step (97 ∷ []) (step (97 ∷ []) (step (97 ∷ []) (step (97 ∷ []) (step (97 ∷ []) (step (97 ∷ []) (step (97 ∷ []) (step (97 ∷ []) (step (97 ∷ []) (step (97 ∷ []) (step (97 ∷ []) (step (97 ∷ []) (step (97 ∷ []) (step (97 ∷ []) (step (97 ∷ []) (step (97 ∷ []) (step (97 ∷ []) (step (97 ∷ []) (step (97 ∷ []) (step (97 ∷ []) (step (97 ∷ []) (step (97 ∷ []) (step (97 ∷ []) (step (97 ∷ []) (step (97 ∷ []) here))))))))))))))))))))))))))))))))))))))))))))))))))))))))))))))))) (handler key.This (assign (step (107 ∷ []) here) (constant (root.Int (pos 1)))) no_handlers)) (choose (compared (at_path (step (122 ∷ []) here)) compare.Equal (constant (root.Int (pos 4)))) (solicit 1 0 (constant root.Void) (Some (step (120 ∷ []) here)) (handler key.This (block (block (block (block (block (block (block (block (block (block (block (block (block (block (block (block (block (block (block (block (block (block (block (block (block (block (block (block (block (block (block (block (block (block (block (block (block (block (block (block (block (block (block (block (block (block (block (block (block (block (block (block (block (block (block (block (block (block (block (block (block (block (block (block (assign (step (107 ∷ []) here) (constant (root.Int (pos 1)))))))))))))))))))))))))))))))))))))))))))))))))))))))))))))))))))) no_handlers)) (solicit 1 0 (constant root.Void) (Some (step (120 ∷ []) here)) (handler key.This (block (block (block (block (block (block (block (block (block (block (block (block (block (block (block (block (block (block (block (block (block (block (block (block (block (block (block (block (block (block (block (block (block (block (block (block (block (block (block (block (block (block (block (block (block (block (block (block (block (block (block (block (block (block (block (block (block (block (block (block (block (block (block (assign (step (107 ∷ []) here) (constant (root.Int (pos 1))))))))))))))))))))))))))))))))))))))))))))))))))))))))))))))))))) no_handlers)))))) no_procs)))) (proc (comp 9) no_procs))) nothing (one_way 2 (Some (step (120 ∷ []) (step (97 ∷ []) (step (97 ∷ []) (step (97 ∷ []) (step (97 ∷ []) (step (97 ∷ []) (step (97 ∷ []) (step (97 ∷ []) (step (97 ∷ []) (step (97 ∷ []) (step (97 ∷ []) (step (97 ∷ []) (step (97 ∷ []) (step (97 ∷ []) (step (97 ∷ []) (step (97 ∷ []) (step (97 ∷ []) (step (97 ∷ []) (step (97 ∷ []) (step (97 ∷ []) (step (97 ∷ []) (step (97 ∷ []) (step (97 ∷ []) (step (97 ∷ []) (step (97 ∷ []) (step (97 ∷ []) (step (97 ∷ []) (step (97 ∷ []) (step (97 ∷ []) (step (97 ∷ []) (step (97 ∷ []) (step (97 ∷ []) (step (97 ∷ []) (step (97 ∷ []) (step (97 ∷ []) (step (97 ∷ []) (step (97 ∷ []) (step (97 ∷ []) (step (97 ∷ []) (step (97 ∷ []) (step (97 ∷ []) (step (97 ∷ []) (step (97 ∷ []) (step (97 ∷ []) (step (97 ∷ []) (step (97 ∷ []) (step (97 ∷ []) (step (97 ∷ []) (step (97 ∷ []) (step (97 ∷ []) (step (97 ∷ []) (step (97 ∷ []) (step (97 ∷ []) (step (97 ∷ []) (step (97 ∷ []) (step (97 ∷ []) (step (97 ∷ []) (step (97 ∷ []) (step (97 ∷ []) (step (97 ∷ []) (step (97 ∷ []) (step (97 ∷ []) (step (97 ∷ []) (step (97 ∷ []) here))))))))))))))))))))))))))))))))))))))))))))))))))))))))))))))))) (assign (step (121 ∷ []) here) (constant (root.Int (pos 2)))) no_branches)))) } ∷ []);
  names = ((73 ∷ 79 ∷ 69 ∷ 120 ∷ 99 ∷ 101 ∷ 112 ∷ 116 ∷ 105 ∷ 111 ∷ 110 ∷ []) ∷ (84 ∷ 121 ∷ 112 ∷ 101 ∷ 77 ∷ 105 ∷ 115 ∷ 109 ∷ 97 ∷ 116 ∷ 99 ∷ 104 ∷ []) ∷ (67 ∷ 111 ∷ 114 ∷ 114 ∷ 101 ∷ 108 ∷ 97 ∷ 116 ∷ 105 ∷ 111 ∷ 110 ∷ 69 ∷ 114 ∷ 114 ∷ 111 ∷ 114 ∷ []) ∷ (82 ∷ 101 ∷ 102 ∷ 117 ∷ 115 ∷ 101 ∷ 100 ∷ []) ∷ (85 ∷ 110 ∷ 100 ∷ 101 ∷ 99 ∷ 108 ∷ 97 ∷ 114 ∷ 101 ∷ 100 ∷ 70 ∷ 97 ∷ 117 ∷ 108 ∷ 116 ∷ []) ∷ (69 ∷ 120 ∷ 112 ∷ 114 ∷ 70 ∷ 97 ∷ 117 ∷ 108 ∷ 116 ∷ []) ∷ (72 ∷ 97 ∷ 110 ∷ 100 ∷ 108 ∷ 101 ∷ 114 ∷ 84 ∷ 111 ∷ 111 ∷ 76 ∷ 97 ∷ 114 ∷ 103 ∷ 101 ∷ []) ∷ (83 ∷ 116 ∷ 111 ∷ 114 ∷ 101 ∷ 84 ∷ 111 ∷ 111 ∷ 76 ∷ 97 ∷ 114 ∷ 103 ∷ 101 ∷ []) ∷ (109 ∷ 97 ∷ 105 ∷ 110 ∷ []) ∷ (115 ∷ []) ∷ (102 ∷ []) ∷ []);
}

pub request_too_deep : happens program 0 (
    act 0 (mail program 0 0 0 (node (root.Int (pos 1)) no_fields)) ∷
    act 0 given.Nothing ∷
    act 0 given.Nothing ∷
    act 0 given.Nothing ∷ []) ≡ (
    told 0 kind.In 0 0 0 (need.Take (0 ∷ [])) ∷
    told 0 kind.Raise 2 8 7 need.Nothing ∷
    told 0 kind.Reply 0 0 0 (need.Reply 0 (outcome.Fault (83 ∷ 116 ∷ 111 ∷ 114 ∷ 101 ∷ 84 ∷ 111 ∷ 111 ∷ 76 ∷ 97 ∷ 114 ∷ 103 ∷ 101 ∷ []) (node root.Void no_fields))) ∷
    told 0 kind.Finish 0 0 0 need.Finish ∷ [])
unfolding digits
request_too_deep = refl

pub message_too_deep : happens program 0 (
    act 0 (mail program 0 0 2 (node (root.Int (pos 1)) no_fields)) ∷
    act 0 given.Nothing ∷
    act 0 given.Nothing ∷ []) ≡ (
    told 0 kind.In 0 2 0 (need.Take (2 ∷ [])) ∷
    told 0 kind.Raise 2 8 7 need.Nothing ∷
    told 0 kind.Finish 0 0 0 need.Finish ∷ [])
unfolding digits
message_too_deep = refl

pub fault_is_kept : happens program 0 (
    act 0 (mail program 0 0 1 (node (root.Int (pos 1)) no_fields)) ∷
    act 0 given.Nothing ∷
    act 0 given.Nothing ∷
    act 0 given.Nothing ∷
    act 0 given.Nothing ∷
    act 0 given.Nothing ∷
    act 0 given.Nothing ∷
    act 0 given.Nothing ∷
    act 0 given.Nothing ∷
    act 0 given.Nothing ∷ []) ≡ (
    told 0 kind.In 0 1 0 (need.Take (1 ∷ [])) ∷
    told 0 kind.Install 0 0 0 need.Nothing ∷
    told 0 kind.Local 0 0 0 need.Nothing ∷
    told 0 kind.Raise 0 9 10 need.Nothing ∷
    told 0 kind.Handle 0 9 10 need.Nothing ∷
    told 0 kind.Local 0 0 0 need.Nothing ∷
    told 0 kind.EndScope 0 9 0 need.Nothing ∷
    told 0 kind.Compensate 0 9 0 need.Nothing ∷
    told 0 kind.Reply 0 0 0 (need.Reply 0 (outcome.Value (node (root.Int (pos 1)) no_fields))) ∷
    told 0 kind.Finish 0 0 0 need.Finish ∷ [])
unfolding digits
fault_is_kept = refl

pub fault_is_too_deep : happens program 0 (
    act 0 (mail program 0 0 1 (node (root.Int (pos 2)) no_fields)) ∷
    act 0 given.Nothing ∷
    act 0 given.Nothing ∷
    act 0 given.Nothing ∷
    act 0 given.Nothing ∷
    act 0 given.Nothing ∷
    act 0 given.Nothing ∷
    act 0 given.Nothing ∷
    act 0 given.Nothing ∷
    act 0 given.Nothing ∷
    act 0 given.Nothing ∷ []) ≡ (
    told 0 kind.In 0 1 0 (need.Take (1 ∷ [])) ∷
    told 0 kind.Install 0 0 0 need.Nothing ∷
    told 0 kind.Local 0 0 0 need.Nothing ∷
    told 0 kind.Local 0 0 0 need.Nothing ∷
    told 0 kind.Raise 0 9 10 need.Nothing ∷
    told 0 kind.Handle 0 9 10 need.Nothing ∷
    told 0 kind.Local 0 0 0 need.Nothing ∷
    told 0 kind.EndScope 0 9 0 need.Nothing ∷
    told 0 kind.Compensate 0 9 0 need.Nothing ∷
    told 0 kind.Reply 0 0 0 (need.Reply 0 (outcome.Value (node (root.Int (pos 0)) no_fields))) ∷
    told 0 kind.Finish 0 0 0 need.Finish ∷ [])
unfolding digits
fault_is_too_deep = refl

pub answer_too_deep : happens program 0 (
    act 0 (mail program 0 0 1 (node (root.Int (pos 3)) no_fields)) ∷
    act 0 given.Nothing ∷
    act 0 given.Nothing ∷
    act 0 given.Nothing ∷
    act 0 given.Nothing ∷
    act 0 given.Nothing ∷
    act 0 (given.Answer (outcome.Value (node (root.Int (pos 5)) no_fields))) ∷
    act 0 given.Nothing ∷
    act 0 given.Nothing ∷
    act 0 given.Nothing ∷
    act 0 given.Nothing ∷
    act 0 given.Nothing ∷
    act 0 given.Nothing ∷
    act 0 given.Nothing ∷
    act 0 given.Nothing ∷ []) ≡ (
    told 0 kind.In 0 1 0 (need.Take (1 ∷ [])) ∷
    told 0 kind.Install 0 0 0 need.Nothing ∷
    told 0 kind.Local 0 0 0 need.Nothing ∷
    told 0 kind.Local 0 0 0 need.Nothing ∷
    told 0 kind.Local 0 0 0 need.Nothing ∷
    told 0 kind.Solicit 0 0 0 (need.Send 0 1 0 (node root.Void no_fields) true) ∷
    told 0 kind.Answer 0 0 0 (need.Answer 0) ∷
    told 0 kind.Raise 0 9 7 need.Nothing ∷
    told 0 kind.Handle 0 9 7 need.Nothing ∷
    told 0 kind.Local 0 0 0 need.Nothing ∷
    told 0 kind.EndScope 0 9 0 need.Nothing ∷
    told 0 kind.Compensate 0 9 0 need.Nothing ∷
    told 0 kind.Local 0 0 0 need.Nothing ∷
    told 0 kind.Reply 0 0 0 (need.Reply 0 (outcome.Value (node (root.Text (108 ∷ 97 ∷ 114 ∷ 103 ∷ 101 ∷ [])) no_fields))) ∷
    told 0 kind.Finish 0 0 0 need.Finish ∷ [])
unfolding digits
answer_too_deep = refl

pub handlers_too_deep : happens program 0 (
    act 0 (mail program 0 0 1 (node (root.Int (pos 4)) no_fields)) ∷
    act 0 given.Nothing ∷
    act 0 given.Nothing ∷
    act 0 given.Nothing ∷
    act 0 given.Nothing ∷
    act 0 given.Nothing ∷
    act 0 given.Nothing ∷
    act 0 (given.Answer (outcome.Value (node (root.Int (pos 5)) no_fields))) ∷
    act 0 given.Nothing ∷
    act 0 given.Nothing ∷
    act 0 given.Nothing ∷
    act 0 given.Nothing ∷
    act 0 given.Nothing ∷
    act 0 given.Nothing ∷
    act 0 given.Nothing ∷ []) ≡ (
    told 0 kind.In 0 1 0 (need.Take (1 ∷ [])) ∷
    told 0 kind.Install 0 0 0 need.Nothing ∷
    told 0 kind.Local 0 0 0 need.Nothing ∷
    told 0 kind.Local 0 0 0 need.Nothing ∷
    told 0 kind.Local 0 0 0 need.Nothing ∷
    told 0 kind.Local 0 0 0 need.Nothing ∷
    told 0 kind.Solicit 0 0 0 (need.Send 0 1 0 (node root.Void no_fields) true) ∷
    told 0 kind.Answer 0 0 0 (need.Answer 0) ∷
    told 0 kind.Raise 0 9 6 need.Nothing ∷
    told 0 kind.Handle 0 9 6 need.Nothing ∷
    told 0 kind.Local 0 0 0 need.Nothing ∷
    told 0 kind.EndScope 0 9 0 need.Nothing ∷
    told 0 kind.Compensate 0 9 0 need.Nothing ∷
    told 0 kind.Reply 0 0 0 (need.Reply 0 (outcome.Value (node (root.Text (104 ∷ 97 ∷ 110 ∷ 100 ∷ 108 ∷ 101 ∷ 114 ∷ [])) no_fields))) ∷
    told 0 kind.Finish 0 0 0 need.Finish ∷ [])
unfolding digits
handlers_too_deep = refl

pub handlers_deep_enough : happens program 0 (
    act 0 (mail program 0 0 1 (node (root.Int (pos 5)) no_fields)) ∷
    act 0 given.Nothing ∷
    act 0 given.Nothing ∷
    act 0 given.Nothing ∷
    act 0 given.Nothing ∷
    act 0 given.Nothing ∷
    act 0 given.Nothing ∷
    act 0 (given.Answer (outcome.Value (node (root.Int (pos 5)) no_fields))) ∷
    act 0 given.Nothing ∷
    act 0 given.Nothing ∷
    act 0 given.Nothing ∷
    act 0 given.Nothing ∷
    act 0 given.Nothing ∷ []) ≡ (
    told 0 kind.In 0 1 0 (need.Take (1 ∷ [])) ∷
    told 0 kind.Install 0 0 0 need.Nothing ∷
    told 0 kind.Local 0 0 0 need.Nothing ∷
    told 0 kind.Local 0 0 0 need.Nothing ∷
    told 0 kind.Local 0 0 0 need.Nothing ∷
    told 0 kind.Local 0 0 0 need.Nothing ∷
    told 0 kind.Solicit 0 0 0 (need.Send 0 1 0 (node root.Void no_fields) true) ∷
    told 0 kind.Answer 0 0 0 (need.Answer 0) ∷
    told 0 kind.EndScope 0 9 0 need.Nothing ∷
    told 0 kind.Compensate 0 9 0 need.Nothing ∷
    told 0 kind.Local 0 0 0 need.Nothing ∷
    told 0 kind.Reply 0 0 0 (need.Reply 0 (outcome.Value (node root.Void no_fields))) ∷
    told 0 kind.Finish 0 0 0 need.Finish ∷ [])
unfolding digits
handlers_deep_enough = refl

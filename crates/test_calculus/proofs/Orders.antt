-- The order service: an order that is served, one whose payment fails and whose stock is released, and one too large.
use Rattle.std.specs.Prelude.{◌≡◌, pos, true, false, [], ◌∷◌, None, Some}
use Rattle.std.proofs.Common.{refl}
use Rattle.std.specs.Fmt.{digits}
use Rattle.jolie_trees.specs.declared.root.Root.TheVariants as root
use Rattle.jolie_trees.specs.Data.{node, no_fields, field, no_trees, tree}
use Rattle.behaviour_tree.specs.declared.types.RootKind.TheVariants as kinds
use Rattle.behaviour_tree.specs.declared.expr.CompareOp.TheVariants as compare
use Rattle.behaviour_tree.specs.declared.expr.SumOp.TheVariants as sums
use Rattle.behaviour_tree.specs.declared.expr.MulOp.TheVariants as muls
use Rattle.behaviour_tree.specs.declared.behaviour.HandlerKey.TheVariants as key
use Rattle.behaviour_tree.specs.declared.program.Execution.TheVariants as execution
use Rattle.behaviour_tree.specs.declared.words.Kind.TheVariants as kind
use Rattle.behaviour_tree.specs.declared.words.Need.TheVariants as need
use Rattle.behaviour_tree.specs.declared.words.Given.TheVariants as given
use Rattle.behaviour_tree.specs.declared.words.Outcome.TheVariants as outcome
use Rattle.behaviour_tree.specs.Data.{plain, named, no_type_fields, type_field, here, step, constant, at_path, literal, compared, sum, product, no_sum_parts, sum_part, no_mul_parts, mul_part, no_member_list, member_of, nothing, assign, sequence, choose, repeat, choice, solicit, install, throw, comp, scope, no_procs, proc, no_branches, request, no_handlers, handler, ProgramParts}
use Rattle.test_calculus.specs.Told.{told, act, mail, happens}

abbrev program : ProgramParts
program = record {
  types = ((plain kinds.Void (type_field (105 ∷ 100 ∷ []) 1 (Some 1) (plain kinds.Text no_type_fields) (type_field (115 ∷ 107 ∷ 117 ∷ []) 1 (Some 1) (plain kinds.Text no_type_fields) (type_field (110 ∷ []) 1 (Some 1) (plain kinds.Int no_type_fields) (type_field (112 ∷ 114 ∷ 105 ∷ 99 ∷ 101 ∷ []) 1 (Some 1) (plain kinds.Int no_type_fields) no_type_fields))))) ∷ (plain kinds.Void (type_field (115 ∷ 107 ∷ 117 ∷ []) 1 (Some 1) (plain kinds.Text no_type_fields) (type_field (110 ∷ []) 1 (Some 1) (plain kinds.Int no_type_fields) no_type_fields))) ∷ (plain kinds.Void (type_field (105 ∷ 100 ∷ []) 1 (Some 1) (plain kinds.Text no_type_fields) (type_field (97 ∷ 109 ∷ 111 ∷ 117 ∷ 110 ∷ 116 ∷ []) 1 (Some 1) (plain kinds.Int no_type_fields) no_type_fields))) ∷ []);
  interfaces = (record { name = (83 ∷ 104 ∷ 111 ∷ 112 ∷ 73 ∷ []); operations = (record { name = (111 ∷ 114 ∷ 100 ∷ 101 ∷ 114 ∷ []); request = (named 0); response = (Some (plain kinds.Text no_type_fields)); throws = [] } ∷ []) } ∷ record { name = (83 ∷ 116 ∷ 111 ∷ 99 ∷ 107 ∷ 73 ∷ []); operations = (record { name = (114 ∷ 101 ∷ 115 ∷ 101 ∷ 114 ∷ 118 ∷ 101 ∷ []); request = (named 1); response = (Some (plain kinds.Int no_type_fields)); throws = (record { fault = 9; ty = (plain kinds.Void no_type_fields) } ∷ []) } ∷ record { name = (114 ∷ 101 ∷ 108 ∷ 101 ∷ 97 ∷ 115 ∷ 101 ∷ []); request = (named 1); response = (Some (plain kinds.Int no_type_fields)); throws = [] } ∷ []) } ∷ record { name = (66 ∷ 97 ∷ 110 ∷ 107 ∷ 73 ∷ []); operations = (record { name = (112 ∷ 97 ∷ 121 ∷ []); request = (named 2); response = (Some (plain kinds.Void no_type_fields)); throws = (record { fault = 10; ty = (plain kinds.Void no_type_fields) } ∷ []) } ∷ []) } ∷ []);
  services = (record { name = (83 ∷ 104 ∷ 111 ∷ 112 ∷ []); execution = execution.Concurrent; ports = (record { name = (73 ∷ 110 ∷ []); input = true; location = (115 ∷ 111 ∷ 99 ∷ 107 ∷ 101 ∷ 116 ∷ 58 ∷ 47 ∷ 47 ∷ 108 ∷ 111 ∷ 99 ∷ 97 ∷ 108 ∷ 104 ∷ 111 ∷ 115 ∷ 116 ∷ 58 ∷ 56 ∷ 48 ∷ 48 ∷ 48 ∷ []); interfaces = (0 ∷ []) } ∷ record { name = (83 ∷ 116 ∷ 111 ∷ 99 ∷ 107 ∷ []); input = false; location = (108 ∷ 111 ∷ 99 ∷ 97 ∷ 108 ∷ 58 ∷ 47 ∷ 47 ∷ 115 ∷ 116 ∷ 111 ∷ 99 ∷ 107 ∷ []); interfaces = (1 ∷ []) } ∷ record { name = (66 ∷ 97 ∷ 110 ∷ 107 ∷ []); input = false; location = (108 ∷ 111 ∷ 99 ∷ 97 ∷ 108 ∷ 58 ∷ 47 ∷ 47 ∷ 98 ∷ 97 ∷ 110 ∷ 107 ∷ []); interfaces = (2 ∷ []) } ∷ []); sets = []; init = nothing; main = (choice (request 0 (Some (step (111 ∷ []) here)) (Some (step (121 ∷ []) here)) (scope 11 (sequence (proc (install (handler (key.Fault 9) (assign (step (121 ∷ []) here) (constant (root.Text (115 ∷ 104 ∷ 111 ∷ 114 ∷ 116 ∷ [])))) (handler (key.Fault 10) (sequence (proc (comp 12) (proc (assign (step (121 ∷ []) here) (constant (root.Text (110 ∷ 111 ∷ 102 ∷ 117 ∷ 110 ∷ 100 ∷ 115 ∷ [])))) no_procs))) no_handlers))) (proc (scope 12 (solicit 1 0 (literal (member_of (115 ∷ 107 ∷ 117 ∷ []) (at_path (step (111 ∷ []) (step (115 ∷ 107 ∷ 117 ∷ []) here))) (member_of (110 ∷ []) (at_path (step (111 ∷ []) (step (110 ∷ []) here))) no_member_list))) (Some (step (108 ∷ 101 ∷ 102 ∷ 116 ∷ []) here)) (handler key.This (solicit 1 1 (literal (member_of (115 ∷ 107 ∷ 117 ∷ []) (at_path (step (111 ∷ []) (step (115 ∷ 107 ∷ 117 ∷ []) here))) (member_of (110 ∷ []) (at_path (step (111 ∷ []) (step (110 ∷ []) here))) no_member_list))) (Some (step (108 ∷ 101 ∷ 102 ∷ 116 ∷ []) here)) no_handlers) no_handlers))) (proc (solicit 2 0 (literal (member_of (105 ∷ 100 ∷ []) (at_path (step (111 ∷ []) (step (105 ∷ 100 ∷ []) here))) (member_of (97 ∷ 109 ∷ 111 ∷ 117 ∷ 110 ∷ 116 ∷ []) (product (at_path (step (111 ∷ []) (step (110 ∷ []) here))) (mul_part muls.Times (at_path (step (111 ∷ []) (step (112 ∷ 114 ∷ 105 ∷ 99 ∷ 101 ∷ []) here))) no_mul_parts)) no_member_list))) None no_handlers) (proc (assign (step (121 ∷ []) here) (sum (constant (root.Text (111 ∷ 107 ∷ 32 ∷ []))) (sum_part sums.Plus (at_path (step (108 ∷ 101 ∷ 102 ∷ 116 ∷ []) here)) no_sum_parts))) no_procs)))))) nothing no_branches)) } ∷ record { name = (83 ∷ 116 ∷ 111 ∷ 99 ∷ 107 ∷ 83 ∷ []); execution = execution.Single; ports = (record { name = (73 ∷ 110 ∷ []); input = true; location = (108 ∷ 111 ∷ 99 ∷ 97 ∷ 108 ∷ 58 ∷ 47 ∷ 47 ∷ 115 ∷ 116 ∷ 111 ∷ 99 ∷ 107 ∷ []); interfaces = (1 ∷ []) } ∷ []); sets = []; init = (assign (step (108 ∷ 101 ∷ 102 ∷ 116 ∷ []) here) (constant (root.Int (pos 10)))); main = (repeat (constant (root.Bool true)) (scope 13 (sequence (proc (install (handler (key.Fault 9) nothing no_handlers)) (proc (choice (request 0 (Some (step (105 ∷ []) here)) (Some (step (114 ∷ []) here)) (sequence (proc (choose (compared (at_path (step (105 ∷ []) (step (110 ∷ []) here))) compare.More (at_path (step (108 ∷ 101 ∷ 102 ∷ 116 ∷ []) here))) (throw 9 (constant root.Void)) nothing) (proc (assign (step (108 ∷ 101 ∷ 102 ∷ 116 ∷ []) here) (sum (at_path (step (108 ∷ 101 ∷ 102 ∷ 116 ∷ []) here)) (sum_part sums.Minus (at_path (step (105 ∷ []) (step (110 ∷ []) here))) no_sum_parts))) (proc (assign (step (114 ∷ []) here) (at_path (step (108 ∷ 101 ∷ 102 ∷ 116 ∷ []) here))) no_procs)))) nothing (request 1 (Some (step (105 ∷ []) here)) (Some (step (114 ∷ []) here)) (sequence (proc (assign (step (108 ∷ 101 ∷ 102 ∷ 116 ∷ []) here) (sum (at_path (step (108 ∷ 101 ∷ 102 ∷ 116 ∷ []) here)) (sum_part sums.Plus (at_path (step (105 ∷ []) (step (110 ∷ []) here))) no_sum_parts))) (proc (assign (step (114 ∷ []) here) (at_path (step (108 ∷ 101 ∷ 102 ∷ 116 ∷ []) here))) no_procs))) nothing no_branches))) no_procs))))) } ∷ record { name = (66 ∷ 97 ∷ 110 ∷ 107 ∷ 83 ∷ []); execution = execution.Concurrent; ports = (record { name = (73 ∷ 110 ∷ []); input = true; location = (108 ∷ 111 ∷ 99 ∷ 97 ∷ 108 ∷ 58 ∷ 47 ∷ 47 ∷ 98 ∷ 97 ∷ 110 ∷ 107 ∷ []); interfaces = (2 ∷ []) } ∷ []); sets = []; init = nothing; main = (choice (request 0 (Some (step (112 ∷ []) here)) None (choose (compared (at_path (step (112 ∷ []) (step (97 ∷ 109 ∷ 111 ∷ 117 ∷ 110 ∷ 116 ∷ []) here))) compare.More (constant (root.Int (pos 100)))) (throw 10 (constant root.Void)) nothing) nothing no_branches)) } ∷ []);
  names = ((73 ∷ 79 ∷ 69 ∷ 120 ∷ 99 ∷ 101 ∷ 112 ∷ 116 ∷ 105 ∷ 111 ∷ 110 ∷ []) ∷ (84 ∷ 121 ∷ 112 ∷ 101 ∷ 77 ∷ 105 ∷ 115 ∷ 109 ∷ 97 ∷ 116 ∷ 99 ∷ 104 ∷ []) ∷ (67 ∷ 111 ∷ 114 ∷ 114 ∷ 101 ∷ 108 ∷ 97 ∷ 116 ∷ 105 ∷ 111 ∷ 110 ∷ 69 ∷ 114 ∷ 114 ∷ 111 ∷ 114 ∷ []) ∷ (82 ∷ 101 ∷ 102 ∷ 117 ∷ 115 ∷ 101 ∷ 100 ∷ []) ∷ (85 ∷ 110 ∷ 100 ∷ 101 ∷ 99 ∷ 108 ∷ 97 ∷ 114 ∷ 101 ∷ 100 ∷ 70 ∷ 97 ∷ 117 ∷ 108 ∷ 116 ∷ []) ∷ (69 ∷ 120 ∷ 112 ∷ 114 ∷ 70 ∷ 97 ∷ 117 ∷ 108 ∷ 116 ∷ []) ∷ (72 ∷ 97 ∷ 110 ∷ 100 ∷ 108 ∷ 101 ∷ 114 ∷ 84 ∷ 111 ∷ 111 ∷ 76 ∷ 97 ∷ 114 ∷ 103 ∷ 101 ∷ []) ∷ (83 ∷ 116 ∷ 111 ∷ 114 ∷ 101 ∷ 84 ∷ 111 ∷ 111 ∷ 76 ∷ 97 ∷ 114 ∷ 103 ∷ 101 ∷ []) ∷ (109 ∷ 97 ∷ 105 ∷ 110 ∷ []) ∷ (83 ∷ 104 ∷ 111 ∷ 114 ∷ 116 ∷ []) ∷ (78 ∷ 111 ∷ 70 ∷ 117 ∷ 110 ∷ 100 ∷ 115 ∷ []) ∷ (97 ∷ 108 ∷ 108 ∷ []) ∷ (115 ∷ 116 ∷ 111 ∷ 99 ∷ 107 ∷ []) ∷ (116 ∷ 117 ∷ 114 ∷ 110 ∷ []) ∷ []);
}

pub served : happens program 0 (
    act 0 (mail program 0 0 0 (node root.Void (field (105 ∷ 100 ∷ []) (tree (node (root.Text (97 ∷ [])) no_fields) no_trees) (field (110 ∷ []) (tree (node (root.Int (pos 3)) no_fields) no_trees) (field (112 ∷ 114 ∷ 105 ∷ 99 ∷ 101 ∷ []) (tree (node (root.Int (pos 10)) no_fields) no_trees) (field (115 ∷ 107 ∷ 117 ∷ []) (tree (node (root.Text (107 ∷ [])) no_fields) no_trees) no_fields)))))) ∷
    act 0 given.Nothing ∷
    act 0 given.Nothing ∷
    act 0 (given.Answer (outcome.Value (node (root.Int (pos 7)) no_fields))) ∷
    act 0 given.Nothing ∷
    act 0 given.Nothing ∷
    act 0 (given.Answer (outcome.Value (node root.Void no_fields))) ∷
    act 0 given.Nothing ∷
    act 0 given.Nothing ∷
    act 0 given.Nothing ∷
    act 0 given.Nothing ∷ []) ≡ (
    told 0 kind.In 0 0 0 (need.Take (0 ∷ [])) ∷
    told 0 kind.Install 0 0 0 need.Nothing ∷
    told 0 kind.Solicit 0 0 0 (need.Send 0 1 0 (node root.Void (field (110 ∷ []) (tree (node (root.Int (pos 3)) no_fields) no_trees) (field (115 ∷ 107 ∷ 117 ∷ []) (tree (node (root.Text (107 ∷ [])) no_fields) no_trees) no_fields))) true) ∷
    told 0 kind.Answer 0 0 0 (need.Answer 0) ∷
    told 0 kind.EndScope 0 12 0 need.Nothing ∷
    told 0 kind.Solicit 1 0 0 (need.Send 1 2 0 (node root.Void (field (97 ∷ 109 ∷ 111 ∷ 117 ∷ 110 ∷ 116 ∷ []) (tree (node (root.Int (pos 30)) no_fields) no_trees) (field (105 ∷ 100 ∷ []) (tree (node (root.Text (97 ∷ [])) no_fields) no_trees) no_fields))) true) ∷
    told 0 kind.Answer 1 0 0 (need.Answer 1) ∷
    told 0 kind.Local 0 0 0 need.Nothing ∷
    told 0 kind.EndScope 0 11 0 need.Nothing ∷
    told 0 kind.Reply 0 0 0 (need.Reply 0 (outcome.Value (node (root.Text (111 ∷ 107 ∷ 32 ∷ 55 ∷ [])) no_fields))) ∷
    told 0 kind.Finish 0 0 0 need.Finish ∷ [])
unfolding digits
served = refl

pub not_paid : happens program 0 (
    act 0 (mail program 0 0 0 (node root.Void (field (105 ∷ 100 ∷ []) (tree (node (root.Text (98 ∷ [])) no_fields) no_trees) (field (110 ∷ []) (tree (node (root.Int (pos 4)) no_fields) no_trees) (field (112 ∷ 114 ∷ 105 ∷ 99 ∷ 101 ∷ []) (tree (node (root.Int (pos 50)) no_fields) no_trees) (field (115 ∷ 107 ∷ 117 ∷ []) (tree (node (root.Text (107 ∷ [])) no_fields) no_trees) no_fields)))))) ∷
    act 0 given.Nothing ∷
    act 0 given.Nothing ∷
    act 0 (given.Answer (outcome.Value (node (root.Int (pos 3)) no_fields))) ∷
    act 0 given.Nothing ∷
    act 0 given.Nothing ∷
    act 0 (given.Answer (outcome.Fault (78 ∷ 111 ∷ 70 ∷ 117 ∷ 110 ∷ 100 ∷ 115 ∷ []) (node root.Void no_fields))) ∷
    act 0 given.Nothing ∷
    act 0 given.Nothing ∷
    act 0 given.Nothing ∷
    act 0 given.Nothing ∷
    act 0 (given.Answer (outcome.Value (node (root.Int (pos 7)) no_fields))) ∷
    act 0 given.Nothing ∷
    act 0 given.Nothing ∷
    act 0 given.Nothing ∷
    act 0 given.Nothing ∷ []) ≡ (
    told 0 kind.In 0 0 0 (need.Take (0 ∷ [])) ∷
    told 0 kind.Install 0 0 0 need.Nothing ∷
    told 0 kind.Solicit 0 0 0 (need.Send 0 1 0 (node root.Void (field (110 ∷ []) (tree (node (root.Int (pos 4)) no_fields) no_trees) (field (115 ∷ 107 ∷ 117 ∷ []) (tree (node (root.Text (107 ∷ [])) no_fields) no_trees) no_fields))) true) ∷
    told 0 kind.Answer 0 0 0 (need.Answer 0) ∷
    told 0 kind.EndScope 0 12 0 need.Nothing ∷
    told 0 kind.Solicit 1 0 0 (need.Send 1 2 0 (node root.Void (field (97 ∷ 109 ∷ 111 ∷ 117 ∷ 110 ∷ 116 ∷ []) (tree (node (root.Int (pos 200)) no_fields) no_trees) (field (105 ∷ 100 ∷ []) (tree (node (root.Text (98 ∷ [])) no_fields) no_trees) no_fields))) true) ∷
    told 0 kind.Answer 1 0 0 (need.Answer 1) ∷
    told 0 kind.Raise 0 11 10 need.Nothing ∷
    told 0 kind.Handle 0 11 10 need.Nothing ∷
    told 0 kind.Compensate 0 12 0 need.Nothing ∷
    told 0 kind.Solicit 2 0 0 (need.Send 2 1 1 (node root.Void (field (110 ∷ []) (tree (node (root.Int (pos 4)) no_fields) no_trees) (field (115 ∷ 107 ∷ 117 ∷ []) (tree (node (root.Text (107 ∷ [])) no_fields) no_trees) no_fields))) true) ∷
    told 0 kind.Answer 2 0 0 (need.Answer 2) ∷
    told 0 kind.Local 0 0 0 need.Nothing ∷
    told 0 kind.EndScope 0 11 0 need.Nothing ∷
    told 0 kind.Reply 0 0 0 (need.Reply 0 (outcome.Value (node (root.Text (110 ∷ 111 ∷ 102 ∷ 117 ∷ 110 ∷ 100 ∷ 115 ∷ [])) no_fields))) ∷
    told 0 kind.Finish 0 0 0 need.Finish ∷ [])
unfolding digits
not_paid = refl

pub too_many : happens program 0 (
    act 0 (mail program 0 0 0 (node root.Void (field (105 ∷ 100 ∷ []) (tree (node (root.Text (99 ∷ [])) no_fields) no_trees) (field (110 ∷ []) (tree (node (root.Int (pos 8)) no_fields) no_trees) (field (112 ∷ 114 ∷ 105 ∷ 99 ∷ 101 ∷ []) (tree (node (root.Int (pos 1)) no_fields) no_trees) (field (115 ∷ 107 ∷ 117 ∷ []) (tree (node (root.Text (107 ∷ [])) no_fields) no_trees) no_fields)))))) ∷
    act 0 given.Nothing ∷
    act 0 given.Nothing ∷
    act 0 (given.Answer (outcome.Fault (83 ∷ 104 ∷ 111 ∷ 114 ∷ 116 ∷ []) (node root.Void no_fields))) ∷
    act 0 given.Nothing ∷
    act 0 given.Nothing ∷
    act 0 given.Nothing ∷
    act 0 given.Nothing ∷
    act 0 given.Nothing ∷
    act 0 given.Nothing ∷ []) ≡ (
    told 0 kind.In 0 0 0 (need.Take (0 ∷ [])) ∷
    told 0 kind.Install 0 0 0 need.Nothing ∷
    told 0 kind.Solicit 0 0 0 (need.Send 0 1 0 (node root.Void (field (110 ∷ []) (tree (node (root.Int (pos 8)) no_fields) no_trees) (field (115 ∷ 107 ∷ 117 ∷ []) (tree (node (root.Text (107 ∷ [])) no_fields) no_trees) no_fields))) true) ∷
    told 0 kind.Answer 0 0 0 (need.Answer 0) ∷
    told 0 kind.Raise 0 11 9 need.Nothing ∷
    told 0 kind.Handle 0 11 9 need.Nothing ∷
    told 0 kind.Local 0 0 0 need.Nothing ∷
    told 0 kind.EndScope 0 11 0 need.Nothing ∷
    told 0 kind.Reply 0 0 0 (need.Reply 0 (outcome.Value (node (root.Text (115 ∷ 104 ∷ 111 ∷ 114 ∷ 116 ∷ [])) no_fields))) ∷
    told 0 kind.Finish 0 0 0 need.Finish ∷ [])
unfolding digits
too_many = refl

pub the_stock : happens program 1 (
    act 0 given.Nothing ∷
    act 0 given.Nothing ∷
    act 0 given.Nothing ∷
    act 0 (mail program 1 0 0 (node root.Void (field (110 ∷ []) (tree (node (root.Int (pos 3)) no_fields) no_trees) (field (115 ∷ 107 ∷ 117 ∷ []) (tree (node (root.Text (107 ∷ [])) no_fields) no_trees) no_fields)))) ∷
    act 0 given.Nothing ∷
    act 0 given.Nothing ∷
    act 0 given.Nothing ∷
    act 0 given.Nothing ∷
    act 0 given.Nothing ∷
    act 0 given.Nothing ∷
    act 0 given.Nothing ∷
    act 0 (mail program 1 1 0 (node root.Void (field (110 ∷ []) (tree (node (root.Int (pos 8)) no_fields) no_trees) (field (115 ∷ 107 ∷ 117 ∷ []) (tree (node (root.Text (107 ∷ [])) no_fields) no_trees) no_fields)))) ∷
    act 0 given.Nothing ∷
    act 0 given.Nothing ∷
    act 0 given.Nothing ∷
    act 0 given.Nothing ∷
    act 0 given.Nothing ∷
    act 0 given.Nothing ∷
    act 0 given.Nothing ∷
    act 0 (mail program 1 2 1 (node root.Void (field (110 ∷ []) (tree (node (root.Int (pos 4)) no_fields) no_trees) (field (115 ∷ 107 ∷ 117 ∷ []) (tree (node (root.Text (107 ∷ [])) no_fields) no_trees) no_fields)))) ∷
    act 0 given.Nothing ∷
    act 0 given.Nothing ∷
    act 0 given.Nothing ∷
    act 0 given.Nothing ∷ []) ≡ (
    told 0 kind.Local 0 0 0 need.Nothing ∷
    told 0 kind.Local 0 0 0 need.Nothing ∷
    told 0 kind.Install 0 0 0 need.Nothing ∷
    told 0 kind.In 0 0 0 (need.Take (0 ∷ [])) ∷
    told 0 kind.Local 0 0 0 need.Nothing ∷
    told 0 kind.Local 0 0 0 need.Nothing ∷
    told 0 kind.Local 0 0 0 need.Nothing ∷
    told 0 kind.Reply 0 0 0 (need.Reply 0 (outcome.Value (node (root.Int (pos 7)) no_fields))) ∷
    told 0 kind.EndScope 0 13 0 need.Nothing ∷
    told 0 kind.Local 0 0 0 need.Nothing ∷
    told 0 kind.Install 0 0 0 need.Nothing ∷
    told 0 kind.In 1 0 0 (need.Take (0 ∷ [])) ∷
    told 0 kind.Local 0 0 0 need.Nothing ∷
    told 0 kind.Raise 0 13 9 need.Nothing ∷
    told 0 kind.Reply 1 0 0 (need.Reply 1 (outcome.Fault (83 ∷ 104 ∷ 111 ∷ 114 ∷ 116 ∷ []) (node root.Void no_fields))) ∷
    told 0 kind.Handle 0 13 9 need.Nothing ∷
    told 0 kind.EndScope 0 13 0 need.Nothing ∷
    told 0 kind.Local 0 0 0 need.Nothing ∷
    told 0 kind.Install 0 0 0 need.Nothing ∷
    told 0 kind.In 2 1 0 (need.Take (1 ∷ [])) ∷
    told 0 kind.Local 0 0 0 need.Nothing ∷
    told 0 kind.Local 0 0 0 need.Nothing ∷
    told 0 kind.Reply 2 0 0 (need.Reply 2 (outcome.Value (node (root.Int (pos 11)) no_fields))) ∷
    told 0 kind.EndScope 0 13 0 need.Nothing ∷ [])
unfolding digits
the_stock = refl

pub the_bank : happens program 2 (
    act 0 (mail program 2 0 0 (node root.Void (field (97 ∷ 109 ∷ 111 ∷ 117 ∷ 110 ∷ 116 ∷ []) (tree (node (root.Int (pos 200)) no_fields) no_trees) (field (105 ∷ 100 ∷ []) (tree (node (root.Text (98 ∷ [])) no_fields) no_trees) no_fields)))) ∷
    act 0 given.Nothing ∷
    act 0 given.Nothing ∷
    act 0 given.Nothing ∷
    act 0 given.Nothing ∷ []) ≡ (
    told 0 kind.In 0 0 0 (need.Take (0 ∷ [])) ∷
    told 0 kind.Local 0 0 0 need.Nothing ∷
    told 0 kind.Raise 2 8 10 need.Nothing ∷
    told 0 kind.Reply 0 0 0 (need.Reply 0 (outcome.Fault (78 ∷ 111 ∷ 70 ∷ 117 ∷ 110 ∷ 100 ∷ 115 ∷ []) (node root.Void no_fields))) ∷
    told 0 kind.Finish 0 0 0 need.Finish ∷ [])
unfolding digits
the_bank = refl

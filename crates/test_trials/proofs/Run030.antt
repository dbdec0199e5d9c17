-- A recorded run.
use Rattle.std.specs.Prelude.{◌≡◌, ℕ, pos, negsuc, Bool, true, false, List, [], ◌∷◌, take, Option, None, Some}
use Rattle.std.proofs.Common.{refl}
use Rattle.std.specs.Fmt.{digits}
use Rattle.jolie_trees.specs.declared.root.Root.TheVariants as root
use Rattle.jolie_trees.specs.Data.{Tree, node, Fields, no_fields, field, Trees, no_trees, tree}
use Rattle.behaviour_tree.specs.declared.types.RootKind.TheVariants as kinds
use Rattle.behaviour_tree.specs.declared.expr.CompareOp.TheVariants as compare
use Rattle.behaviour_tree.specs.declared.expr.SumOp.TheVariants as sums
use Rattle.behaviour_tree.specs.declared.expr.MulOp.TheVariants as muls
use Rattle.behaviour_tree.specs.declared.expr.CastKind.TheVariants as casts
use Rattle.behaviour_tree.specs.declared.behaviour.HandlerKey.TheVariants as key
use Rattle.behaviour_tree.specs.declared.program.Execution.TheVariants as execution
use Rattle.behaviour_tree.specs.declared.words.Event.{Event}
use Rattle.behaviour_tree.specs.declared.words.Kind.TheVariants as kind
use Rattle.behaviour_tree.specs.declared.words.Outcome.TheVariants as outcome
use Rattle.behaviour_tree.specs.declared.words.Reason.TheVariants as reason
use Rattle.behaviour_tree.specs.Data.{plain, named, undefined, no_type_fields, type_field, here, step, step_at, constant, at_path, count_at, defined_at, literal, any_of, all_of, compared, sum, product, minus, negation, cast, no_exps, exp, no_sum_parts, sum_part, no_mul_parts, mul_part, no_member_list, member_of, Proc, nothing, assign, undef, copy, bind, sequence, parallel, choose, repeat, choice, notify, solicit, install, throw, comp, inner_handler, scope, block, no_procs, proc, no_branches, one_way, request, no_handlers, handler, ProgramParts}
use Rattle.correlation.specs.declared.bind_reply.BindReply.TheVariants as binding
use Rattle.office_core.specs.declared.post.PostReply.TheVariants as answer
use Rattle.office_core.specs.declared.history.Placed.TheVariants as at
use Rattle.office_core.specs.declared.history.Act.TheVariants as act
use Rattle.office_core.specs.declared.history.Entry.{Entry}
use Rattle.office_core.specs.declared.front.CallIn.TheVariants as call
use Rattle.office_core.specs.declared.front.Posting.{Posting}
use Rattle.office_core.specs.Limits.{Setting, run_of, first_worker}
use Rattle.office_core.specs.Accepted.{past_of}
use Rattle.office_core.specs.Legal.{IsLegal}
use Rattle.run_record.specs.Agrees.{IsSession}
use Rattle.run_record.specs.Quiet.{before_stop, sessions_at}
use Rattle.run_record.specs.Answered.{stand_together}
use Rattle.run_record.specs.Postings.{posts_by, posts_of}
use Rattle.run_record.specs.Order.{order_alone}
use Rattle.run_record.specs.Outside.{notes}
use Rattle.test_trials.specs.Counts.{legal_entries, with_at}
use Rattle.test_trials.specs.Fronts.{told_from}
use Rattle.test_trials.specs.Sessions.{event, agrees}
use Rattle.test_trials.specs.Quiet.{is_quiet, is_still}
use Rattle.test_trials.specs.Collected.{are_collected}
use Rattle.test_trials.proofs.Told.{is_session}
use Rattle.std.specs.Prelude.{◌++◌}
use Rattle.run_record.specs.declared.record.Record.{Record}
use Rattle.run_record.specs.Run.{alone, workers, IsRun, IsSpent}
use Rattle.test_trials.proofs.Runs.{is_run, unstopped, unclosed, foreign, missing, too_many, restless}
use Rattle.run_record.specs.Order.{IsOrder}
use Rattle.test_trials.proofs.Workers.{is_run_of_workers, stranger, posts_apart, second_first, not_as_posted, not_without_one, not_twice}
use Rattle.test_trials.specs.Quiet.{can_act}
use Rattle.test_trials.proofs.Spends.{spends, is_spent, not_spent}

-- the program
abbrev program : ProgramParts
program = record {
  types = ((plain kinds.Int (type_field (98 ∷ []) 0 (Some 3) (plain kinds.Int no_type_fields) (type_field (115 ∷ []) 1 (Some 1) undefined (type_field (110 ∷ []) 0 None (plain kinds.Bool no_type_fields) no_type_fields)))) ∷ []);
  interfaces = (record { name = (73 ∷ 83 ∷ 48 ∷ []); operations = (record { name = (111 ∷ 112 ∷ 48 ∷ 48 ∷ []); request = (named 0); response = (Some undefined); throws = [] } ∷ record { name = (111 ∷ 112 ∷ 48 ∷ 49 ∷ []); request = (plain kinds.Void no_type_fields); response = None; throws = [] } ∷ record { name = (111 ∷ 112 ∷ 48 ∷ 50 ∷ []); request = (plain kinds.Int no_type_fields); response = None; throws = [] } ∷ []) } ∷ record { name = (73 ∷ 83 ∷ 49 ∷ []); operations = (record { name = (111 ∷ 112 ∷ 49 ∷ 48 ∷ []); request = (plain kinds.Int no_type_fields); response = (Some undefined); throws = [] } ∷ record { name = (111 ∷ 112 ∷ 49 ∷ 49 ∷ []); request = undefined; response = (Some (plain kinds.Any no_type_fields)); throws = (record { fault = 3; ty = (plain kinds.Any no_type_fields) } ∷ []) } ∷ record { name = (111 ∷ 112 ∷ 49 ∷ 50 ∷ []); request = (plain kinds.Void no_type_fields); response = (Some undefined); throws = [] } ∷ []) } ∷ record { name = (82 ∷ []); operations = (record { name = (97 ∷ 115 ∷ 107 ∷ []); request = (plain kinds.Int no_type_fields); response = (Some undefined); throws = (record { fault = 9; ty = (plain kinds.Void no_type_fields) } ∷ []) } ∷ record { name = (116 ∷ 101 ∷ 108 ∷ 108 ∷ []); request = undefined; response = None; throws = [] } ∷ []) } ∷ []);
  services = (record { name = (83 ∷ 48 ∷ []); execution = execution.Single; ports = (record { name = (73 ∷ 110 ∷ []); input = true; location = (115 ∷ 111 ∷ 99 ∷ 107 ∷ 101 ∷ 116 ∷ 58 ∷ 47 ∷ 47 ∷ 108 ∷ 111 ∷ 99 ∷ 97 ∷ 108 ∷ 104 ∷ 111 ∷ 115 ∷ 116 ∷ 58 ∷ 56 ∷ 48 ∷ 48 ∷ 48 ∷ []); interfaces = (0 ∷ []) } ∷ record { name = (80 ∷ 83 ∷ 49 ∷ []); input = false; location = (108 ∷ 111 ∷ 99 ∷ 97 ∷ 108 ∷ 58 ∷ 47 ∷ 47 ∷ 108 ∷ 49 ∷ []); interfaces = (1 ∷ []) } ∷ []); sets = []; init = nothing; main = (repeat (constant (root.Bool true)) (scope 10 (sequence (proc (install (handler (key.Fault 2) nothing (handler (key.Fault 11) (assign (step (121 ∷ []) (step (110 ∷ []) here)) (constant (root.Text (103 ∷ [])))) (handler (key.Fault 5) nothing (handler (key.Fault 9) (assign (step (121 ∷ []) (step (110 ∷ []) here)) (constant (root.Text (102 ∷ [])))) (handler (key.Fault 0) (comp 10) (handler (key.Fault 1) nothing (handler (key.Fault 10) (assign (step (121 ∷ []) (step (110 ∷ []) here)) (constant (root.Text (112 ∷ [])))) (handler (key.Fault 6) nothing no_handlers))))))))) (proc (choice (request 0 (Some (step_at (120 ∷ []) (constant (root.Int (pos 1))) (step (98 ∷ []) here))) (Some (step (121 ∷ []) here)) (sequence (proc (block (sequence (proc (copy (step (98 ∷ []) here) (at_path (step (98 ∷ []) (step (97 ∷ []) here)))) (proc (scope 12 (sequence (proc (install (handler key.This (sequence (proc (throw 3 (constant root.Void)) (proc (undef (step (120 ∷ []) here)) no_procs))) no_handlers)) (proc (scope 10 (sequence (proc (install (handler (key.Fault 9) (sequence (proc (comp 10) (proc (comp 13) no_procs))) (handler (key.Fault 5) (sequence (proc (comp 10) (proc (solicit 2 0 (constant (root.Text (116 ∷ 49 ∷ 57 ∷ []))) None no_handlers) no_procs))) no_handlers))) (proc (scope 13 (sequence (proc (install (handler key.This (sequence (proc nothing (proc (throw 9 (sum (constant (root.Text (45 ∷ []))) (sum_part sums.Plus (count_at (step (98 ∷ []) here)) no_sum_parts))) no_procs))) no_handlers)) (proc (copy (step (121 ∷ []) here) (at_path (step (120 ∷ []) here))) no_procs)))) (proc (install (handler key.This (sequence (proc inner_handler (proc (assign (step (121 ∷ []) (step (98 ∷ []) here)) (sum (at_path (step (121 ∷ []) (step (98 ∷ []) here))) (sum_part sums.Plus (constant (root.Int (pos 1))) no_sum_parts))) (proc (throw 9 (sum (constant (root.Text [])) (sum_part sums.Plus (at_path (step (98 ∷ []) here)) (sum_part sums.Plus (constant (root.Text (46 ∷ []))) no_sum_parts)))) (proc (assign (step (97 ∷ []) (step (110 ∷ []) (step (98 ∷ []) here))) (constant (root.Int (pos 3)))) no_procs))))) no_handlers)) (proc (block (parallel (proc (sequence (proc (scope 13 (sequence (proc (install (handler key.This (assign (step_at (121 ∷ []) (constant (root.Int (pos 1))) here) (at_path (step_at (120 ∷ []) (at_path (step (121 ∷ []) (step (97 ∷ []) here))) (step (110 ∷ []) here)))) no_handlers)) (proc (solicit 1 1 (count_at (step_at (98 ∷ []) (constant (root.Int (pos 1))) (step (97 ∷ []) here))) None no_handlers) (proc (undef (step (97 ∷ []) here)) no_procs))))) (proc (assign (step (121 ∷ []) (step (114 ∷ []) here)) (sum (at_path (step (121 ∷ []) (step (114 ∷ []) here))) (sum_part sums.Plus (constant (root.Int (pos 1))) no_sum_parts))) no_procs))) (proc (sequence (proc (assign (step (98 ∷ []) (step (97 ∷ []) here)) (cast casts.Text (at_path (step (120 ∷ []) (step (99 ∷ []) here))))) (proc (throw 9 (constant root.Void)) no_procs))) (proc (sequence (proc (scope 13 (sequence (proc (install (handler key.This (assign (step (97 ∷ []) (step (99 ∷ []) here)) (sum (constant (root.Text (107 ∷ []))) (sum_part sums.Plus (at_path (step (99 ∷ []) (step (99 ∷ []) (step (97 ∷ []) here)))) no_sum_parts))) no_handlers)) (proc (solicit 1 0 (constant (root.Int (pos 1))) (Some (step (97 ∷ []) here)) no_handlers) (proc (copy (step (97 ∷ []) here) (constant (root.Int (pos 0)))) no_procs))))) (proc (assign (step (121 ∷ []) (step (114 ∷ []) here)) (sum (at_path (step (121 ∷ []) (step (114 ∷ []) here))) (sum_part sums.Plus (constant (root.Int (pos 1))) no_sum_parts))) no_procs))) no_procs))))) no_procs)))))) (proc nothing (proc (sequence (proc (assign (step (105 ∷ 49 ∷ []) here) (constant (root.Int (pos 0)))) (proc (repeat (compared (at_path (step (105 ∷ 49 ∷ []) here)) compare.Less (constant (root.Int (pos 2)))) (sequence (proc (copy (step (121 ∷ []) (step (98 ∷ []) (step_at (110 ∷ []) (count_at (step (121 ∷ []) (step (98 ∷ []) here))) here))) (at_path (step (121 ∷ []) here))) (proc (assign (step (105 ∷ 49 ∷ []) here) (sum (at_path (step (105 ∷ 49 ∷ []) here)) (sum_part sums.Plus (constant (root.Int (pos 1))) no_sum_parts))) no_procs)))) no_procs))) no_procs)))))) (proc (install (handler key.This (sequence (proc (scope 13 (sequence (proc (install (handler (key.Fault 11) (sequence (proc (comp 13) (proc (comp 10) no_procs))) (handler (key.Fault 14) (sequence (proc (comp 10) (proc (solicit 2 0 (constant (root.Text (116 ∷ 50 ∷ 56 ∷ []))) None no_handlers) no_procs))) (handler key.This (parallel (proc (comp 15) (proc (assign (step (97 ∷ []) (step_at (97 ∷ []) (constant (root.Long (pos 1))) here)) (sum (at_path (step (97 ∷ []) (step_at (97 ∷ []) (constant (root.Long (pos 1))) here))) (sum_part sums.Minus (constant (root.Int (pos 1))) no_sum_parts))) no_procs))) no_handlers)))) (proc (block (parallel (proc (sequence (proc (install (handler key.This (sequence (proc inner_handler (proc (comp 15) (proc (throw 11 (constant root.Void)) (proc (assign (step (120 ∷ []) here) (at_path (step (97 ∷ []) here))) no_procs))))) no_handlers)) (proc (assign (step (98 ∷ []) here) (sum (constant (root.Text (45 ∷ []))) (sum_part sums.Plus (count_at (step (120 ∷ []) (step (97 ∷ []) here))) no_sum_parts))) (proc (assign (step (97 ∷ []) (step (97 ∷ []) (step (98 ∷ []) here))) (product (count_at (step (121 ∷ []) (step (98 ∷ []) here))) (mul_part muls.Rest (constant (root.Int (pos 7))) no_mul_parts))) no_procs)))) (proc (sequence (proc (scope 15 (sequence (proc (assign (step (97 ∷ []) (step (97 ∷ []) (step (98 ∷ []) here))) (cast casts.Text (literal (member_of (99 ∷ []) (defined_at (step (97 ∷ []) here)) (member_of (97 ∷ []) (count_at (step (121 ∷ []) (step (98 ∷ []) here))) no_member_list))))) (proc (throw 14 (sum (constant (root.Text (45 ∷ []))) (sum_part sums.Plus (at_path (step (98 ∷ []) here)) no_sum_parts))) no_procs)))) (proc (comp 15) no_procs))) (proc (throw 14 (constant root.Void)) no_procs))))) no_procs)))) (proc (assign (step (120 ∷ []) (step (98 ∷ []) (step (98 ∷ []) here))) (all_of (exp (compared (at_path (step (97 ∷ []) here)) compare.Unequal (constant (root.Bool false))) (exp (defined_at (step (121 ∷ []) here)) no_exps)))) no_procs))) (handler (key.Fault 9) (solicit 2 0 (constant (root.Text (116 ∷ 51 ∷ 52 ∷ []))) None no_handlers) no_handlers))) (proc (copy (step (99 ∷ []) here) (count_at (step (121 ∷ []) (step (98 ∷ []) here)))) no_procs)))))) (proc (copy (step (99 ∷ []) here) (at_path (step (99 ∷ []) (step (97 ∷ []) (step (98 ∷ []) here))))) (proc (solicit 2 0 (constant (root.Text (116 ∷ 51 ∷ 53 ∷ []))) None no_handlers) (proc (assign (step (98 ∷ []) (step (97 ∷ []) here)) (at_path (step (121 ∷ []) here))) no_procs))))) nothing (one_way 1 (Some (step (120 ∷ []) (step (97 ∷ []) here))) nothing (one_way 2 (Some (step (120 ∷ []) (step (99 ∷ []) here))) (solicit 2 0 (constant (root.Text (116 ∷ 51 ∷ 54 ∷ []))) None no_handlers) no_branches)))) no_procs))))) } ∷ record { name = (83 ∷ 49 ∷ []); execution = execution.Single; ports = (record { name = (73 ∷ 110 ∷ []); input = true; location = (108 ∷ 111 ∷ 99 ∷ 97 ∷ 108 ∷ 58 ∷ 47 ∷ 47 ∷ 108 ∷ 49 ∷ []); interfaces = (1 ∷ []) } ∷ []); sets = []; init = nothing; main = (repeat (constant (root.Bool true)) (scope 12 (sequence (proc (choice (request 0 (Some (step_at (120 ∷ []) (constant (root.Int (pos 1))) here)) (Some (step_at (121 ∷ []) (constant (root.Int (pos 1))) here)) (sequence (proc (scope 10 (sequence (proc (install (handler (key.Fault 5) (sequence (proc inner_handler (proc inner_handler (proc (comp 13) no_procs)))) no_handlers)) (proc (install (handler key.This (sequence (proc inner_handler (proc (solicit 1 0 (constant (root.Text (116 ∷ 51 ∷ 57 ∷ []))) None no_handlers) (proc (solicit 1 0 (sum (constant (root.Text (116 ∷ 52 ∷ 48 ∷ []))) (sum_part sums.Plus (cast casts.Text (at_path (step (97 ∷ []) (step (98 ∷ []) (step (110 ∷ []) here))))) no_sum_parts)) None no_handlers) (proc (scope 10 (sequence (proc (copy (step (98 ∷ []) (step (110 ∷ []) here)) (at_path (step (120 ∷ []) (step (97 ∷ []) (step (110 ∷ []) here))))) (proc (assign (step (105 ∷ 50 ∷ []) here) (constant (root.Int (pos 5)))) (proc (repeat (compared (at_path (step (105 ∷ 50 ∷ []) here)) compare.More (constant (root.Int (pos 0)))) (sequence (proc (assign (step (105 ∷ 50 ∷ []) here) (sum (at_path (step (105 ∷ 50 ∷ []) here)) (sum_part sums.Minus (constant (root.Int (pos 1))) no_sum_parts))) (proc (assign (step (120 ∷ []) (step (110 ∷ []) (step (110 ∷ []) here))) (compared (literal (member_of (98 ∷ []) (constant (root.Text (107 ∷ []))) (member_of (97 ∷ []) (constant (root.Int (pos 0))) (member_of (99 ∷ []) (constant (root.Int (pos 0))) no_member_list)))) compare.Unequal (sum (constant (root.Text (107 ∷ []))) (sum_part sums.Plus (at_path (step (98 ∷ []) here)) (sum_part sums.Plus (constant (root.Text (46 ∷ []))) no_sum_parts))))) no_procs)))) (proc (comp 12) no_procs)))))) no_procs))))) no_handlers)) (proc (block (parallel (proc (throw 5 (constant root.Void)) (proc (scope 10 (sequence (proc (install (handler key.This (sequence (proc (throw 5 (constant root.Void)) (proc (assign (step (121 ∷ []) (step (99 ∷ []) here)) (at_path (step (98 ∷ []) here))) no_procs))) no_handlers)) (proc (solicit 1 0 (constant (root.Text (116 ∷ 52 ∷ 51 ∷ []))) None no_handlers) (proc (assign (step_at (121 ∷ []) (count_at (step (97 ∷ []) here)) (step (98 ∷ []) here)) (sum (constant (root.Text [])) (sum_part sums.Plus (at_path (step (120 ∷ []) (step (97 ∷ []) here))) (sum_part sums.Plus (constant (root.Text (46 ∷ []))) no_sum_parts)))) no_procs))))) (proc (install (handler key.This (sequence (proc (assign (step (97 ∷ []) here) (constant (root.Text (97 ∷ 98 ∷ [])))) (proc (throw 5 (literal (member_of (98 ∷ []) (at_path (step (99 ∷ []) here)) no_member_list))) no_procs))) no_handlers)) (proc (sequence (proc (install (handler key.This (sequence (proc (assign (step (121 ∷ []) (step (98 ∷ []) here)) (sum (at_path (step (121 ∷ []) (step (98 ∷ []) here))) (sum_part sums.Plus (constant (root.Int (pos 1))) no_sum_parts))) (proc (assign (step (99 ∷ []) (step (98 ∷ []) here)) (constant (root.Long (pos 5)))) (proc (block (assign (step (99 ∷ []) here) (sum (constant (root.Text (45 ∷ []))) (sum_part sums.Plus (at_path (step (120 ∷ []) here)) no_sum_parts)))) no_procs)))) no_handlers)) (proc (solicit 1 0 (constant (root.Text (116 ∷ 52 ∷ 50 ∷ []))) None no_handlers) no_procs))) no_procs)))))) no_procs))))) (proc (assign (step (120 ∷ []) here) (minus (product (constant (root.Int (pos 3))) (mul_part muls.Times (constant (root.Int (pos 2))) (mul_part muls.Times (constant (root.Bool false)) no_mul_parts))))) no_procs))) nothing (request 1 (Some (step_at (121 ∷ []) (constant (root.Int (pos 0))) here)) (Some (step_at (121 ∷ []) (constant (root.Int (pos 1))) here)) (sequence (proc (block (throw 14 (constant root.Void))) (proc (solicit 1 0 (sum (constant (root.Text (116 ∷ 52 ∷ 52 ∷ []))) (sum_part sums.Plus (cast casts.Text (at_path (step (98 ∷ []) here))) no_sum_parts)) None no_handlers) no_procs))) (scope 13 (sequence (proc (install (handler (key.Fault 10) (sequence (proc (solicit 1 0 (constant (root.Text (116 ∷ 52 ∷ 53 ∷ []))) None no_handlers) (proc (comp 10) no_procs))) (handler key.This (sequence (proc (assign (step (121 ∷ []) (step (99 ∷ []) here)) (sum (at_path (step (121 ∷ []) (step (99 ∷ []) here))) (sum_part sums.Plus (constant (root.Int (pos 1))) no_sum_parts))) (proc (comp 10) (proc (choice (request 0 (Some (step_at (120 ∷ []) (constant (root.Int (pos 0))) (step (98 ∷ []) here))) (Some (step_at (121 ∷ []) (constant (root.Int (pos 1))) here)) (scope 15 (sequence (proc (assign (step (121 ∷ []) (step (98 ∷ []) here)) (product (count_at (step (97 ∷ []) here)) (mul_part muls.Rest (constant (root.Int (pos 2))) no_mul_parts))) (proc (assign (step (99 ∷ []) here) (product (count_at (step (98 ∷ []) here)) (mul_part muls.Over (minus (constant (root.Int (pos 1)))) (mul_part muls.Over (literal (member_of (98 ∷ []) (at_path (step (97 ∷ []) (step_at (97 ∷ []) (count_at (step (121 ∷ []) (step (98 ∷ []) here))) here))) no_member_list)) no_mul_parts)))) (proc (assign (step (120 ∷ []) here) (count_at (step (97 ∷ []) here))) no_procs))))) nothing no_branches)) no_procs)))) no_handlers))) (proc (scope 10 (sequence (proc (install (handler key.This (sequence (proc (solicit 1 0 (sum (constant (root.Text (116 ∷ 53 ∷ 52 ∷ []))) (sum_part sums.Plus (count_at (step (121 ∷ []) here)) no_sum_parts)) None no_handlers) (proc (assign (step (121 ∷ []) (step (97 ∷ []) here)) (sum (at_path (step (121 ∷ []) (step (97 ∷ []) here))) (sum_part sums.Plus (constant (root.Int (pos 1))) no_sum_parts))) (proc (assign (step (98 ∷ []) (step (99 ∷ []) (step (97 ∷ []) here))) (sum (at_path (step (98 ∷ []) (step (99 ∷ []) (step (97 ∷ []) here)))) (sum_part sums.Plus (constant (root.Int (pos 1))) no_sum_parts))) no_procs)))) no_handlers)) (proc (scope 15 (throw 10 (constant root.Void))) no_procs)))) (proc (install (handler key.This (sequence (proc inner_handler (proc (comp 12) (proc (solicit 1 0 (sum (constant (root.Text (116 ∷ 53 ∷ 55 ∷ []))) (sum_part sums.Plus (count_at (step (97 ∷ []) here)) no_sum_parts)) None no_handlers) no_procs)))) no_handlers)) (proc (block (parallel (proc (block (parallel (proc (sequence (proc (copy (step (120 ∷ []) (step (110 ∷ []) (step (110 ∷ []) here))) (sum (constant (root.Text (45 ∷ []))) (sum_part sums.Plus (count_at (step (121 ∷ []) (step (98 ∷ []) here))) no_sum_parts))) (proc (copy (step (99 ∷ []) here) (constant (root.Text (53 ∷ [])))) no_procs))) (proc (undef (step (120 ∷ []) (step (99 ∷ []) (step_at (97 ∷ []) (sum (constant (root.Int (pos 1))) (sum_part sums.Minus (constant (root.Int (pos 1))) no_sum_parts)) here)))) no_procs)))) (proc (sequence (proc (throw 1 (constant root.Void)) (proc (throw 10 (constant (root.Int (pos 2)))) no_procs))) no_procs)))) no_procs)))))) (request 2 (Some (step (120 ∷ []) here)) None (solicit 1 0 (constant (root.Text (116 ∷ 53 ∷ 56 ∷ []))) None no_handlers) nothing no_branches)))) (proc nothing no_procs))))) } ∷ []);
  names = ((73 ∷ 79 ∷ 69 ∷ 120 ∷ 99 ∷ 101 ∷ 112 ∷ 116 ∷ 105 ∷ 111 ∷ 110 ∷ []) ∷ (84 ∷ 121 ∷ 112 ∷ 101 ∷ 77 ∷ 105 ∷ 115 ∷ 109 ∷ 97 ∷ 116 ∷ 99 ∷ 104 ∷ []) ∷ (67 ∷ 111 ∷ 114 ∷ 114 ∷ 101 ∷ 108 ∷ 97 ∷ 116 ∷ 105 ∷ 111 ∷ 110 ∷ 69 ∷ 114 ∷ 114 ∷ 111 ∷ 114 ∷ []) ∷ (82 ∷ 101 ∷ 102 ∷ 117 ∷ 115 ∷ 101 ∷ 100 ∷ []) ∷ (85 ∷ 110 ∷ 100 ∷ 101 ∷ 99 ∷ 108 ∷ 97 ∷ 114 ∷ 101 ∷ 100 ∷ 70 ∷ 97 ∷ 117 ∷ 108 ∷ 116 ∷ []) ∷ (69 ∷ 120 ∷ 112 ∷ 114 ∷ 70 ∷ 97 ∷ 117 ∷ 108 ∷ 116 ∷ []) ∷ (72 ∷ 97 ∷ 110 ∷ 100 ∷ 108 ∷ 101 ∷ 114 ∷ 84 ∷ 111 ∷ 111 ∷ 76 ∷ 97 ∷ 114 ∷ 103 ∷ 101 ∷ []) ∷ (83 ∷ 116 ∷ 111 ∷ 114 ∷ 101 ∷ 84 ∷ 111 ∷ 111 ∷ 76 ∷ 97 ∷ 114 ∷ 103 ∷ 101 ∷ []) ∷ (109 ∷ 97 ∷ 105 ∷ 110 ∷ []) ∷ (102 ∷ []) ∷ (112 ∷ []) ∷ (103 ∷ []) ∷ (115 ∷ []) ∷ (114 ∷ []) ∷ (104 ∷ []) ∷ (113 ∷ []) ∷ []);
}

-- what its office works by
abbrev setting : Setting
setting = run_of program

-- its history
abbrev history : List Entry
history = (
    record { actor = 4096; act = act.Post 0 0 (record { service = 0; op = (111 ∷ 112 ∷ 48 ∷ 50 ∷ []); value = (node (root.Int (pos 3)) no_fields) }) (answer.Accepted 0) } ∷
    record { actor = 0; act = act.Adopt 0 } ∷
    record { actor = 0; act = act.Take 0 } ∷
    record { actor = 0; act = act.Send 0 2 0 (node (root.Text (116 ∷ 51 ∷ 54 ∷ [])) no_fields) true at.Out } ∷
    record { actor = 1; act = act.Adopt 1 } ∷
    record { actor = 4096; act = act.Fetch 0 0 } ∷
    record { actor = 4096; act = act.Answered 0 0 (outcome.Value (node root.Void no_fields)) } ∷
    record { actor = 0; act = act.Answer 0 (outcome.Value (node root.Void no_fields)) } ∷
    record { actor = 4096; act = act.Collect 0 (outcome.Value (node root.Void no_fields)) } ∷
    record { actor = 4096; act = act.Post 1 0 (record { service = 0; op = (111 ∷ 112 ∷ 48 ∷ 49 ∷ []); value = (node root.Void no_fields) }) (answer.Accepted 1) } ∷
    record { actor = 0; act = act.Take 1 } ∷
    record { actor = 4096; act = act.Collect 1 (outcome.Value (node root.Void no_fields)) } ∷
    record { actor = 4096; act = act.Post 2 0 (record { service = 0; op = (111 ∷ 112 ∷ 48 ∷ 49 ∷ []); value = (node root.Void no_fields) }) (answer.Accepted 2) } ∷
    record { actor = 0; act = act.Take 2 } ∷
    record { actor = 4096; act = act.Collect 2 (outcome.Value (node root.Void no_fields)) } ∷
    record { actor = 4096; act = act.Post 3 0 (record { service = 0; op = (111 ∷ 112 ∷ 48 ∷ 49 ∷ []); value = (node root.Void no_fields) }) (answer.Accepted 3) } ∷
    record { actor = 0; act = act.Take 3 } ∷
    record { actor = 4096; act = act.Collect 3 (outcome.Value (node root.Void no_fields)) } ∷
    record { actor = 4096; act = act.Post 4 0 (record { service = 0; op = (111 ∷ 112 ∷ 48 ∷ 50 ∷ []); value = (node (root.Int (negsuc 0)) no_fields) }) (answer.Accepted 4) } ∷
    record { actor = 0; act = act.Take 4 } ∷
    record { actor = 0; act = act.Send 1 2 0 (node (root.Text (116 ∷ 51 ∷ 54 ∷ [])) no_fields) true at.Out } ∷
    record { actor = 4096; act = act.Fetch 0 1 } ∷
    record { actor = 4096; act = act.Answered 0 1 (outcome.Value (node root.Void no_fields)) } ∷
    record { actor = 0; act = act.Answer 1 (outcome.Value (node root.Void no_fields)) } ∷
    record { actor = 4096; act = act.Collect 4 (outcome.Value (node root.Void no_fields)) } ∷
    record { actor = 4096; act = act.Post 5 0 (record { service = 0; op = (111 ∷ 112 ∷ 48 ∷ 48 ∷ []); value = (node (root.Int (pos 1)) (field (98 ∷ []) (tree (node (root.Int (pos 0)) no_fields) (tree (node (root.Int (pos 1)) no_fields) (tree (node (root.Int (pos 2)) no_fields) no_trees))) (field (110 ∷ []) (tree (node (root.Bool true) no_fields) (tree (node (root.Bool true) no_fields) (tree (node (root.Bool false) no_fields) no_trees))) (field (115 ∷ []) (tree (node (root.Text (195 ∷ 169 ∷ [])) no_fields) no_trees) no_fields)))) }) (answer.Accepted 5) } ∷
    record { actor = 0; act = act.Take 5 } ∷
    record { actor = 0; act = act.Send 2 1 1 (node (root.Int (pos 0)) no_fields) true (at.At 6) } ∷
    record { actor = 1; act = act.Take 6 } ∷
    record { actor = 1; act = act.Reply 6 (outcome.Fault (104 ∷ []) (node root.Void no_fields)) } ∷
    record { actor = 1; act = act.End } ∷
    record { actor = 0; act = act.Answer 2 (outcome.Fault (104 ∷ []) (node root.Void no_fields)) } ∷
    record { actor = 0; act = act.Reply 5 (outcome.Fault (102 ∷ []) (node (root.Text (46 ∷ [])) no_fields)) } ∷
    record { actor = 4096; act = act.Collect 5 (outcome.Fault (102 ∷ []) (node (root.Text (46 ∷ [])) no_fields)) } ∷
    record { actor = 4096; act = act.Post 6 0 (record { service = 0; op = (111 ∷ 112 ∷ 48 ∷ 50 ∷ []); value = (node (root.Int (pos 9)) no_fields) }) (answer.Accepted 7) } ∷
    record { actor = 0; act = act.Take 7 } ∷
    record { actor = 0; act = act.Send 3 2 0 (node (root.Text (116 ∷ 51 ∷ 54 ∷ [])) no_fields) true at.Out } ∷
    record { actor = 4096; act = act.Fetch 0 3 } ∷
    record { actor = 4096; act = act.Answered 0 3 (outcome.Value (node root.Void no_fields)) } ∷
    record { actor = 0; act = act.Answer 3 (outcome.Value (node root.Void no_fields)) } ∷
    record { actor = 4096; act = act.Collect 7 (outcome.Value (node root.Void no_fields)) } ∷
    record { actor = 4096; act = act.Post 7 0 (record { service = 0; op = (111 ∷ 112 ∷ 48 ∷ 48 ∷ []); value = (node (root.Int (negsuc 0)) (field (110 ∷ []) (tree (node (root.Bool false) no_fields) (tree (node (root.Bool true) no_fields) (tree (node (root.Bool false) no_fields) no_trees))) (field (115 ∷ []) (tree (node (root.Text (107 ∷ 48 ∷ [])) no_fields) no_trees) no_fields))) }) (answer.Accepted 8) } ∷
    record { actor = 0; act = act.Take 8 } ∷
    record { actor = 0; act = act.Send 4 1 1 (node (root.Int (pos 0)) no_fields) true (at.Refused reason.Correlation) } ∷
    record { actor = 0; act = act.Answer 4 (outcome.Refused reason.Correlation) } ∷
    record { actor = 0; act = act.Reply 8 (outcome.Fault (67 ∷ 111 ∷ 114 ∷ 114 ∷ 101 ∷ 108 ∷ 97 ∷ 116 ∷ 105 ∷ 111 ∷ 110 ∷ 69 ∷ 114 ∷ 114 ∷ 111 ∷ 114 ∷ []) (node root.Void no_fields)) } ∷
    record { actor = 4096; act = act.Collect 8 (outcome.Fault (67 ∷ 111 ∷ 114 ∷ 114 ∷ 101 ∷ 108 ∷ 97 ∷ 116 ∷ 105 ∷ 111 ∷ 110 ∷ 69 ∷ 114 ∷ 114 ∷ 111 ∷ 114 ∷ []) (node root.Void no_fields)) } ∷
    record { actor = 4096; act = act.Close } ∷
    record { actor = 4096; act = act.Stop } ∷ [])

pub legal : IsLegal setting history
legal = (record { allowed = refl; reply = refl }, (record { allowed = refl; reply = refl }, (record { allowed = refl; reply = refl }, (record { allowed = refl; reply = refl }, (record { allowed = refl; reply = refl }, (record { allowed = refl; reply = refl }, (record { allowed = refl; reply = refl }, (record { allowed = refl; reply = refl }, (record { allowed = refl; reply = refl }, (record { allowed = refl; reply = refl }, (record { allowed = refl; reply = refl }, (record { allowed = refl; reply = refl }, (record { allowed = refl; reply = refl }, (record { allowed = refl; reply = refl }, (record { allowed = refl; reply = refl }, (record { allowed = refl; reply = refl }, (record { allowed = refl; reply = refl }, (record { allowed = refl; reply = refl }, (record { allowed = refl; reply = refl }, (record { allowed = refl; reply = refl }, (record { allowed = refl; reply = refl }, (record { allowed = refl; reply = refl }, (record { allowed = refl; reply = refl }, (record { allowed = refl; reply = refl }, (record { allowed = refl; reply = refl }, (record { allowed = refl; reply = refl }, (record { allowed = refl; reply = refl }, (record { allowed = refl; reply = refl }, (record { allowed = refl; reply = refl }, (record { allowed = refl; reply = refl }, (record { allowed = refl; reply = refl }, (record { allowed = refl; reply = refl }, (record { allowed = refl; reply = refl }, (record { allowed = refl; reply = refl }, (record { allowed = refl; reply = refl }, (record { allowed = refl; reply = refl }, (record { allowed = refl; reply = refl }, (record { allowed = refl; reply = refl }, (record { allowed = refl; reply = refl }, (record { allowed = refl; reply = refl }, (record { allowed = refl; reply = refl }, (record { allowed = refl; reply = refl }, (record { allowed = refl; reply = refl }, (record { allowed = refl; reply = refl }, (record { allowed = refl; reply = refl }, (record { allowed = refl; reply = refl }, (record { allowed = refl; reply = refl }, (record { allowed = refl; reply = refl }, (record { allowed = refl; reply = refl }, tt)))))))))))))))))))))))))))))))))))))))))))))))))

pub spoilt_call_number_again : legal_entries setting (with_at 3 (record { actor = 0; act = act.Send 0 2 0 (node (root.Text (116 ∷ 51 ∷ 54 ∷ [])) no_fields) true at.Out } ∷ record { actor = 0; act = act.Send 0 2 0 (node (root.Text (116 ∷ 51 ∷ 54 ∷ [])) no_fields) true at.Out } ∷ []) history) ≡ 4
spoilt_call_number_again = refl

pub spoilt_received_by_another : legal_entries setting (with_at 6 (record { actor = 4097; act = act.Answered 0 0 (outcome.Value (node root.Void no_fields)) } ∷ []) history) ≡ 6
spoilt_received_by_another = refl

pub spoilt_another_outcome : legal_entries setting (with_at 7 (record { actor = 0; act = act.Answer 0 (outcome.Fault (120 ∷ []) (node root.Void no_fields)) } ∷ []) history) ≡ 7
spoilt_another_outcome = refl

pub spoilt_answer_taken_twice : legal_entries setting (with_at 7 (record { actor = 0; act = act.Answer 0 (outcome.Value (node root.Void no_fields)) } ∷ record { actor = 0; act = act.Answer 0 (outcome.Value (node root.Void no_fields)) } ∷ []) history) ≡ 8
spoilt_answer_taken_twice = refl

-- the events of session 0
abbrev events_0 : List Event
events_0 = (
    event 0 kind.Local 0 0 0 ∷
    event 0 kind.Install 0 0 0 ∷
    event 0 kind.In 0 2 0 ∷
    event 0 kind.Solicit 0 0 0 ∷
    event 0 kind.Answer 0 0 0 ∷
    event 0 kind.EndScope 0 10 0 ∷
    event 0 kind.Local 0 0 0 ∷
    event 0 kind.Install 0 0 0 ∷
    event 0 kind.In 1 1 0 ∷
    event 0 kind.EndScope 0 10 0 ∷
    event 0 kind.Local 0 0 0 ∷
    event 0 kind.Install 0 0 0 ∷
    event 0 kind.In 2 1 0 ∷
    event 0 kind.EndScope 0 10 0 ∷
    event 0 kind.Local 0 0 0 ∷
    event 0 kind.Install 0 0 0 ∷
    event 0 kind.In 3 1 0 ∷
    event 0 kind.EndScope 0 10 0 ∷
    event 0 kind.Local 0 0 0 ∷
    event 0 kind.Install 0 0 0 ∷
    event 0 kind.In 4 2 0 ∷
    event 0 kind.Solicit 1 0 0 ∷
    event 0 kind.Answer 1 0 0 ∷
    event 0 kind.EndScope 0 10 0 ∷
    event 0 kind.Local 0 0 0 ∷
    event 0 kind.Install 0 0 0 ∷
    event 0 kind.In 5 0 0 ∷
    event 0 kind.Local 0 0 0 ∷
    event 0 kind.Install 0 0 0 ∷
    event 0 kind.Install 0 0 0 ∷
    event 0 kind.Install 0 0 0 ∷
    event 0 kind.Local 0 0 0 ∷
    event 0 kind.EndScope 0 13 0 ∷
    event 0 kind.Install 0 0 0 ∷
    event 1 kind.Install 0 0 0 ∷
    event 1 kind.Solicit 2 0 0 ∷
    event 2 kind.Local 0 0 0 ∷
    event 2 kind.Raise 0 10 9 ∷
    event 3 kind.Handle 1 13 0 ∷
    event 1 kind.Answer 2 0 0 ∷
    event 1 kind.Handle 1 13 0 ∷
    event 1 kind.Raise 1 13 5 ∷
    event 0 kind.Handle 0 10 9 ∷
    event 0 kind.Compensate 0 10 0 ∷
    event 0 kind.Local 0 0 0 ∷
    event 0 kind.Raise 0 10 9 ∷
    event 0 kind.Reply 5 0 0 ∷
    event 0 kind.Handle 0 10 9 ∷
    event 0 kind.Local 0 0 0 ∷
    event 0 kind.EndScope 0 10 0 ∷
    event 0 kind.Local 0 0 0 ∷
    event 0 kind.Install 0 0 0 ∷
    event 0 kind.In 7 2 0 ∷
    event 0 kind.Solicit 3 0 0 ∷
    event 0 kind.Answer 3 0 0 ∷
    event 0 kind.EndScope 0 10 0 ∷
    event 0 kind.Local 0 0 0 ∷
    event 0 kind.Install 0 0 0 ∷
    event 0 kind.In 8 0 0 ∷
    event 0 kind.Local 0 0 0 ∷
    event 0 kind.Install 0 0 0 ∷
    event 0 kind.Install 0 0 0 ∷
    event 0 kind.Install 0 0 0 ∷
    event 0 kind.Local 0 0 0 ∷
    event 0 kind.EndScope 0 13 0 ∷
    event 0 kind.Install 0 0 0 ∷
    event 4 kind.Install 0 0 0 ∷
    event 4 kind.Solicit 4 0 0 ∷
    event 4 kind.Answer 4 0 0 ∷
    event 4 kind.Raise 0 10 2 ∷
    event 0 kind.Reply 8 0 0 ∷
    event 6 kind.Handle 1 13 0 ∷
    event 0 kind.Handle 0 10 2 ∷
    event 0 kind.EndScope 0 10 0 ∷
    event 0 kind.Local 0 0 0 ∷
    event 0 kind.Install 0 0 0 ∷ [])

-- the events of session 1
abbrev events_1 : List Event
events_1 = (
    event 0 kind.Local 0 0 0 ∷
    event 0 kind.In 6 1 0 ∷
    event 0 kind.Raise 2 8 14 ∷
    event 0 kind.Reply 6 0 0 ∷
    event 0 kind.Finish 0 0 0 ∷ [])

-- the events of each session
abbrev sessions : List (List Event)
sessions = events_0 ∷ events_1 ∷ []

pub session_0 : IsSession setting history 0 events_0
unfolding digits
session_0 = is_session setting history 0 0 events_0 refl refl (refl, ((refl, refl, refl, refl, refl), (refl, (refl, (refl, (refl, (refl, ((refl, refl, refl, refl, refl), (refl, (refl, ((refl, refl, refl, refl, refl), (refl, ((refl, refl), (refl, ((refl, refl, refl, refl, refl), (refl, (refl, ((refl, refl, refl, refl, refl), (refl, ((refl, refl), tt))))))))))))))))))))

pub session_1 : IsSession setting history 1 events_1
unfolding digits
session_1 = is_session setting history 1 1 events_1 refl refl (refl, ((refl, refl), (tt, tt)))

pub quiet : is_quiet setting 1000 (before_stop history) sessions ≡ true
unfolding digits
quiet = refl

pub still : is_still setting 1000 history sessions ≡ true
unfolding digits
still = refl

pub collected : are_collected setting history ≡ true
unfolding digits
collected = refl

pub together : stand_together history ≡ true
together = refl

pub run : (r : Record) → r.history.entries.items ≡ history → r.sessions ≡ sessions
    → IsRun setting 1000 alone false r
run = is_run setting 1000 history sessions
    (record { legal = legal; stopped = refl; actors = refl; all = refl; each = (session_0, (session_1, tt)); within = refl; quiet = quiet; closed = refl; posted = together; still = still; collected = collected })

pub spoilt_run_without_its_stop : (r : Record) → r.history.entries.items ≡ (with_at 48 [] history) → IsRun setting 1000 alone false r → ⊥
spoilt_run_without_its_stop r has = unstopped setting 1000 false (with_at 48 [] history) r has refl

pub spoilt_run_that_is_not_closed : (r : Record) → r.history.entries.items ≡ (with_at 47 [] history) → IsRun setting 1000 alone false r → ⊥
spoilt_run_that_is_not_closed r has = unclosed setting 1000 false (with_at 47 [] history) r has refl

pub spoilt_run_stopped_by_another : (r : Record) → r.history.entries.items ≡ (with_at 48 (record { actor = 4097; act = act.Stop } ∷ []) history) → IsRun setting 1000 alone false r → ⊥
spoilt_run_stopped_by_another r has = foreign setting 1000 false (with_at 48 (record { actor = 4097; act = act.Stop } ∷ []) history) r has refl

pub spoilt_run_that_lacks_a_session : (r : Record) → r.history.entries.items ≡ history → r.sessions ≡ (events_1 ∷ [])
    → IsRun setting 1000 alone false r → ⊥
spoilt_run_that_lacks_a_session r has events = missing setting 1000 false history r has (events_1 ∷ []) events refl

pub spoilt_run_over_its_budget : (r : Record) → r.history.entries.items ≡ history → r.sessions ≡ sessions
    → IsRun setting 75 alone false r → ⊥
spoilt_run_over_its_budget r has events =
    too_many setting 75 false history r has sessions events 0 events_0 refl refl

-- the run, where it is stopped behind its first 29 entries
abbrev stopped_early : List Entry
stopped_early = take 29 history ++ record { actor = 4096; act = act.Stop } ∷ []

abbrev early_0 : List Event
early_0 = (
    event 0 kind.Local 0 0 0 ∷
    event 0 kind.Install 0 0 0 ∷
    event 0 kind.In 0 2 0 ∷
    event 0 kind.Solicit 0 0 0 ∷
    event 0 kind.Answer 0 0 0 ∷
    event 0 kind.EndScope 0 10 0 ∷
    event 0 kind.Local 0 0 0 ∷
    event 0 kind.Install 0 0 0 ∷
    event 0 kind.In 1 1 0 ∷
    event 0 kind.EndScope 0 10 0 ∷
    event 0 kind.Local 0 0 0 ∷
    event 0 kind.Install 0 0 0 ∷
    event 0 kind.In 2 1 0 ∷
    event 0 kind.EndScope 0 10 0 ∷
    event 0 kind.Local 0 0 0 ∷
    event 0 kind.Install 0 0 0 ∷
    event 0 kind.In 3 1 0 ∷
    event 0 kind.EndScope 0 10 0 ∷
    event 0 kind.Local 0 0 0 ∷
    event 0 kind.Install 0 0 0 ∷
    event 0 kind.In 4 2 0 ∷
    event 0 kind.Solicit 1 0 0 ∷
    event 0 kind.Answer 1 0 0 ∷
    event 0 kind.EndScope 0 10 0 ∷
    event 0 kind.Local 0 0 0 ∷
    event 0 kind.Install 0 0 0 ∷
    event 0 kind.In 5 0 0 ∷
    event 0 kind.Local 0 0 0 ∷
    event 0 kind.Install 0 0 0 ∷
    event 0 kind.Install 0 0 0 ∷
    event 0 kind.Install 0 0 0 ∷
    event 0 kind.Local 0 0 0 ∷
    event 0 kind.EndScope 0 13 0 ∷
    event 0 kind.Install 0 0 0 ∷
    event 1 kind.Install 0 0 0 ∷
    event 1 kind.Solicit 2 0 0 ∷
    event 2 kind.Local 0 0 0 ∷
    event 2 kind.Raise 0 10 9 ∷
    event 3 kind.Handle 1 13 0 ∷ [])

abbrev early_1 : List Event
early_1 = (
    event 0 kind.Local 0 0 0 ∷
    event 0 kind.In 6 1 0 ∷
    event 0 kind.Raise 2 8 14 ∷ [])

early_session_0 : IsSession setting (before_stop stopped_early) 0 early_0
unfolding digits
early_session_0 = is_session setting (before_stop stopped_early) 0 0 early_0 refl refl (refl, ((refl, refl, refl, refl, refl), (refl, (refl, (refl, (refl, (refl, ((refl, refl, refl, refl, refl), (refl, (refl, ((refl, refl, refl, refl, refl), tt)))))))))))

early_session_1 : IsSession setting (before_stop stopped_early) 1 early_1
unfolding digits
early_session_1 = is_session setting (before_stop stopped_early) 1 1 early_1 refl refl (refl, tt)

left_to_do : is_quiet setting 1000 (before_stop stopped_early) (early_0 ∷ early_1 ∷ []) ≡ false
unfolding digits
left_to_do = refl

pub spoilt_run_stopped_early : (r : Record) → r.history.entries.items ≡ stopped_early → r.sessions ≡ (early_0 ∷ early_1 ∷ [])
    → IsRun setting 1000 alone false r → ⊥
spoilt_run_stopped_early r has events =
    restless setting 1000 false stopped_early r has (early_0 ∷ early_1 ∷ []) events (early_session_0, (early_session_1, tt)) left_to_do refl

pub spoilt_event_cut_at_the_end : agrees setting history 1 (
    event 0 kind.Local 0 0 0 ∷
    event 0 kind.In 6 1 0 ∷
    event 0 kind.Raise 2 8 14 ∷
    event 0 kind.Reply 6 0 0 ∷ []) ≡ false
unfolding digits
spoilt_event_cut_at_the_end = refl

pub spoilt_events_exchanged : agrees setting history 0 (
    event 0 kind.Install 0 0 0 ∷
    event 0 kind.Local 0 0 0 ∷
    event 0 kind.In 0 2 0 ∷
    event 0 kind.Solicit 0 0 0 ∷
    event 0 kind.Answer 0 0 0 ∷
    event 0 kind.EndScope 0 10 0 ∷
    event 0 kind.Local 0 0 0 ∷
    event 0 kind.Install 0 0 0 ∷
    event 0 kind.In 1 1 0 ∷
    event 0 kind.EndScope 0 10 0 ∷
    event 0 kind.Local 0 0 0 ∷
    event 0 kind.Install 0 0 0 ∷
    event 0 kind.In 2 1 0 ∷
    event 0 kind.EndScope 0 10 0 ∷
    event 0 kind.Local 0 0 0 ∷
    event 0 kind.Install 0 0 0 ∷
    event 0 kind.In 3 1 0 ∷
    event 0 kind.EndScope 0 10 0 ∷
    event 0 kind.Local 0 0 0 ∷
    event 0 kind.Install 0 0 0 ∷
    event 0 kind.In 4 2 0 ∷
    event 0 kind.Solicit 1 0 0 ∷
    event 0 kind.Answer 1 0 0 ∷
    event 0 kind.EndScope 0 10 0 ∷
    event 0 kind.Local 0 0 0 ∷
    event 0 kind.Install 0 0 0 ∷
    event 0 kind.In 5 0 0 ∷
    event 0 kind.Local 0 0 0 ∷
    event 0 kind.Install 0 0 0 ∷
    event 0 kind.Install 0 0 0 ∷
    event 0 kind.Install 0 0 0 ∷
    event 0 kind.Local 0 0 0 ∷
    event 0 kind.EndScope 0 13 0 ∷
    event 0 kind.Install 0 0 0 ∷
    event 1 kind.Install 0 0 0 ∷
    event 1 kind.Solicit 2 0 0 ∷
    event 2 kind.Local 0 0 0 ∷
    event 2 kind.Raise 0 10 9 ∷
    event 3 kind.Handle 1 13 0 ∷
    event 1 kind.Answer 2 0 0 ∷
    event 1 kind.Handle 1 13 0 ∷
    event 1 kind.Raise 1 13 5 ∷
    event 0 kind.Handle 0 10 9 ∷
    event 0 kind.Compensate 0 10 0 ∷
    event 0 kind.Local 0 0 0 ∷
    event 0 kind.Raise 0 10 9 ∷
    event 0 kind.Reply 5 0 0 ∷
    event 0 kind.Handle 0 10 9 ∷
    event 0 kind.Local 0 0 0 ∷
    event 0 kind.EndScope 0 10 0 ∷
    event 0 kind.Local 0 0 0 ∷
    event 0 kind.Install 0 0 0 ∷
    event 0 kind.In 7 2 0 ∷
    event 0 kind.Solicit 3 0 0 ∷
    event 0 kind.Answer 3 0 0 ∷
    event 0 kind.EndScope 0 10 0 ∷
    event 0 kind.Local 0 0 0 ∷
    event 0 kind.Install 0 0 0 ∷
    event 0 kind.In 8 0 0 ∷
    event 0 kind.Local 0 0 0 ∷
    event 0 kind.Install 0 0 0 ∷
    event 0 kind.Install 0 0 0 ∷
    event 0 kind.Install 0 0 0 ∷
    event 0 kind.Local 0 0 0 ∷
    event 0 kind.EndScope 0 13 0 ∷
    event 0 kind.Install 0 0 0 ∷
    event 4 kind.Install 0 0 0 ∷
    event 4 kind.Solicit 4 0 0 ∷
    event 4 kind.Answer 4 0 0 ∷
    event 4 kind.Raise 0 10 2 ∷
    event 0 kind.Reply 8 0 0 ∷
    event 6 kind.Handle 1 13 0 ∷
    event 0 kind.Handle 0 10 2 ∷
    event 0 kind.EndScope 0 10 0 ∷
    event 0 kind.Local 0 0 0 ∷
    event 0 kind.Install 0 0 0 ∷ []) ≡ false
unfolding digits
spoilt_events_exchanged = refl

pub spoilt_left_in_the_middle : is_quiet setting 1000 (take 29 history) (sessions_at setting (take 29 history) 0 sessions) ≡ false
unfolding digits
spoilt_left_in_the_middle = refl

pub spoilt_call_left_out : agrees setting (with_at 29 [] history) 1 events_1 ≡ false
unfolding digits
spoilt_call_left_out = refl

pub spoilt_posted_too_soon : is_still setting 1000 (with_at 29 (record { actor = 4096; act = act.Post 6 0 (record { service = 0; op = (111 ∷ 112 ∷ 48 ∷ 50 ∷ []); value = (node (root.Int (pos 9)) no_fields) }) (answer.Accepted 7) } ∷ record { actor = 1; act = act.Reply 6 (outcome.Fault (104 ∷ []) (node root.Void no_fields)) } ∷ []) (with_at 34 [] history)) sessions ≡ false
unfolding digits
spoilt_posted_too_soon = refl

pub spoilt_posted_behind_the_start : is_still setting 1000 (record { actor = 0; act = act.Adopt 0 } ∷ with_at 1 [] history) sessions ≡ false
unfolding digits
spoilt_posted_behind_the_start = refl

-- what came in
abbrev postings : List Posting
postings = (
    record { calls = (call.Post (record { service = 0; op = (111 ∷ 112 ∷ 48 ∷ 50 ∷ []); value = (node (root.Int (pos 3)) no_fields) }) ∷ []) } ∷
    record { calls = (call.Post (record { service = 0; op = (111 ∷ 112 ∷ 48 ∷ 49 ∷ []); value = (node root.Void no_fields) }) ∷ []) } ∷
    record { calls = (call.Post (record { service = 0; op = (111 ∷ 112 ∷ 48 ∷ 49 ∷ []); value = (node root.Void no_fields) }) ∷ []) } ∷
    record { calls = (call.Post (record { service = 0; op = (111 ∷ 112 ∷ 48 ∷ 49 ∷ []); value = (node root.Void no_fields) }) ∷ []) } ∷
    record { calls = (call.Post (record { service = 0; op = (111 ∷ 112 ∷ 48 ∷ 50 ∷ []); value = (node (root.Int (negsuc 0)) no_fields) }) ∷ []) } ∷
    record { calls = (call.Post (record { service = 0; op = (111 ∷ 112 ∷ 48 ∷ 48 ∷ []); value = (node (root.Int (pos 1)) (field (98 ∷ []) (tree (node (root.Int (pos 0)) no_fields) (tree (node (root.Int (pos 1)) no_fields) (tree (node (root.Int (pos 2)) no_fields) no_trees))) (field (110 ∷ []) (tree (node (root.Bool true) no_fields) (tree (node (root.Bool true) no_fields) (tree (node (root.Bool false) no_fields) no_trees))) (field (115 ∷ []) (tree (node (root.Text (195 ∷ 169 ∷ [])) no_fields) no_trees) no_fields)))) }) ∷ []) } ∷
    record { calls = (call.Post (record { service = 0; op = (111 ∷ 112 ∷ 48 ∷ 50 ∷ []); value = (node (root.Int (pos 9)) no_fields) }) ∷ []) } ∷
    record { calls = (call.Post (record { service = 0; op = (111 ∷ 112 ∷ 48 ∷ 48 ∷ []); value = (node (root.Int (negsuc 0)) (field (110 ∷ []) (tree (node (root.Bool false) no_fields) (tree (node (root.Bool true) no_fields) (tree (node (root.Bool false) no_fields) no_trees))) (field (115 ∷ []) (tree (node (root.Text (107 ∷ 48 ∷ [])) no_fields) no_trees) no_fields))) }) ∷ []) } ∷ [])

pub posted : posts_by first_worker history ≡ posts_of 0 postings
posted = refl

pub tells : told_from setting (past_of setting history) 0 postings ≡ (
    Some ((outcome.Value (node root.Void no_fields)) ∷ []) ∷
    Some ((outcome.Value (node root.Void no_fields)) ∷ []) ∷
    Some ((outcome.Value (node root.Void no_fields)) ∷ []) ∷
    Some ((outcome.Value (node root.Void no_fields)) ∷ []) ∷
    Some ((outcome.Value (node root.Void no_fields)) ∷ []) ∷
    Some ((outcome.Fault (102 ∷ []) (node (root.Text (46 ∷ [])) no_fields)) ∷ []) ∷
    Some ((outcome.Value (node root.Void no_fields)) ∷ []) ∷
    Some ((outcome.Fault (67 ∷ 111 ∷ 114 ∷ 114 ∷ 101 ∷ 108 ∷ 97 ∷ 116 ∷ 105 ∷ 111 ∷ 110 ∷ 69 ∷ 114 ∷ 114 ∷ 111 ∷ 114 ∷ []) (node root.Void no_fields)) ∷ []) ∷ [])
tells = refl

pub order : order_alone setting history first_worker 8 ≡ (0 ∷ 1 ∷ 2 ∷ 3 ∷ 4 ∷ 5 ∷ 6 ∷ 7 ∷ [])
order = refl

pub noted : notes setting history ≡ (116 ∷ 51 ∷ 54 ∷ 10 ∷ 116 ∷ 51 ∷ 54 ∷ 10 ∷ 116 ∷ 51 ∷ 54 ∷ 10 ∷ [])
unfolding digits
noted = refl

could_act : spends setting 1000 (before_stop history) 0 sessions ≡ false
unfolding digits
could_act = refl

pub spent : (r : Record) → r.history.entries.items ≡ history → r.sessions ≡ sessions → IsSpent setting 1000 r → ⊥
spent = not_spent setting 1000 history sessions could_act

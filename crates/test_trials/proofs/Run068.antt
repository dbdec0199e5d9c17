-- A recorded run.
use Rattle.std.specs.Prelude.{◌≡◌, ℕ, pos, negsuc, Bool, true, false, List, [], ◌∷◌, take, Option, None, Some}
use Rattle.std.proofs.Common.{refl}
use Rattle.std.specs.Fmt.{digits}
use Rattle.jolie_trees.specs.declared.root.Root.TheVariants as root
use Rattle.jolie_trees.specs.Data.{Tree, node, Fields, no_fields, field, Trees, no_trees, tree}
use Rattle.behaviour_tree.specs.declared.types.RootKind.TheVariants as kinds
use Rattle.behaviour_tree.specs.declared.expr.CompareOp.TheVariants as compare
use Rattle.behaviour_tree.specs.declared.expr.SumOp.TheVariants as sums
use Rattle.behaviour_tree.specs.declared.expr.MulOp.TheVariants as muls
use Rattle.behaviour_tree.specs.declared.expr.CastKind.TheVariants as casts
use Rattle.behaviour_tree.specs.declared.behaviour.HandlerKey.TheVariants as key
use Rattle.behaviour_tree.specs.declared.program.Execution.TheVariants as execution
use Rattle.behaviour_tree.specs.declared.words.Event.{Event}
use Rattle.behaviour_tree.specs.declared.words.Kind.TheVariants as kind
use Rattle.behaviour_tree.specs.declared.words.Outcome.TheVariants as outcome
use Rattle.behaviour_tree.specs.declared.words.Reason.TheVariants as reason
use Rattle.behaviour_tree.specs.Data.{plain, named, undefined, no_type_fields, type_field, here, step, step_at, constant, at_path, count_at, defined_at, literal, any_of, all_of, compared, sum, product, minus, negation, cast, no_exps, exp, no_sum_parts, sum_part, no_mul_parts, mul_part, no_member_list, member_of, Proc, nothing, assign, undef, copy, bind, sequence, parallel, choose, repeat, choice, notify, solicit, install, throw, comp, inner_handler, scope, block, no_procs, proc, no_branches, one_way, request, no_handlers, handler, ProgramParts}
use Rattle.correlation.specs.declared.bind_reply.BindReply.TheVariants as binding
use Rattle.office_core.specs.declared.post.PostReply.TheVariants as answer
use Rattle.office_core.specs.declared.history.Placed.TheVariants as at
use Rattle.office_core.specs.declared.history.Act.TheVariants as act
use Rattle.office_core.specs.declared.history.Entry.{Entry}
use Rattle.office_core.specs.declared.front.CallIn.TheVariants as call
use Rattle.office_core.specs.declared.front.Posting.{Posting}
use Rattle.office_core.specs.Limits.{Setting, run_of, first_worker}
use Rattle.office_core.specs.Accepted.{past_of}
use Rattle.office_core.specs.Legal.{IsLegal}
use Rattle.run_record.specs.Agrees.{IsSession}
use Rattle.run_record.specs.Quiet.{before_stop, sessions_at}
use Rattle.run_record.specs.Answered.{stand_together}
use Rattle.run_record.specs.Postings.{posts_by, posts_of}
use Rattle.run_record.specs.Order.{order_alone}
use Rattle.run_record.specs.Outside.{notes}
use Rattle.test_trials.specs.Counts.{legal_entries, with_at}
use Rattle.test_trials.specs.Fronts.{told_from}
use Rattle.test_trials.specs.Sessions.{event, agrees}
use Rattle.test_trials.specs.Quiet.{is_quiet, is_still}
use Rattle.test_trials.specs.Collected.{are_collected}
use Rattle.test_trials.proofs.Told.{is_session}
use Rattle.std.specs.Prelude.{◌++◌}
use Rattle.run_record.specs.declared.record.Record.{Record}
use Rattle.run_record.specs.Run.{alone, workers, IsRun, IsSpent}
use Rattle.test_trials.proofs.Runs.{is_run, unstopped, unclosed, foreign, missing, too_many, restless}
use Rattle.run_record.specs.Order.{IsOrder}
use Rattle.test_trials.proofs.Workers.{is_run_of_workers, stranger, posts_apart, second_first, not_as_posted, not_without_one, not_twice}
use Rattle.test_trials.specs.Quiet.{can_act}
use Rattle.test_trials.proofs.Spends.{spends, is_spent, not_spent}

-- the program
abbrev program : ProgramParts
program = record {
  types = ((plain kinds.Int (type_field (99 ∷ []) 0 (Some 1) (plain kinds.Long no_type_fields) (type_field (98 ∷ []) 0 (Some 1) (plain kinds.Any no_type_fields) (type_field (110 ∷ []) 2 None (plain kinds.Int no_type_fields) no_type_fields)))) ∷ []);
  interfaces = (record { name = (73 ∷ 83 ∷ 48 ∷ []); operations = (record { name = (111 ∷ 112 ∷ 48 ∷ 48 ∷ []); request = (plain kinds.Void no_type_fields); response = (Some (named 0)); throws = [] } ∷ record { name = (111 ∷ 112 ∷ 48 ∷ 49 ∷ []); request = (plain kinds.Int no_type_fields); response = (Some (plain kinds.Void no_type_fields)); throws = [] } ∷ []) } ∷ record { name = (82 ∷ []); operations = (record { name = (97 ∷ 115 ∷ 107 ∷ []); request = (plain kinds.Int no_type_fields); response = (Some undefined); throws = (record { fault = 9; ty = (plain kinds.Void no_type_fields) } ∷ []) } ∷ record { name = (116 ∷ 101 ∷ 108 ∷ 108 ∷ []); request = undefined; response = None; throws = [] } ∷ []) } ∷ []);
  services = (record { name = (83 ∷ 48 ∷ []); execution = execution.Single; ports = (record { name = (73 ∷ 110 ∷ []); input = true; location = (115 ∷ 111 ∷ 99 ∷ 107 ∷ 101 ∷ 116 ∷ 58 ∷ 47 ∷ 47 ∷ 108 ∷ 111 ∷ 99 ∷ 97 ∷ 108 ∷ 104 ∷ 111 ∷ 115 ∷ 116 ∷ 58 ∷ 56 ∷ 48 ∷ 48 ∷ 48 ∷ []); interfaces = (0 ∷ []) } ∷ []); sets = []; init = nothing; main = (repeat (constant (root.Bool true)) (scope 10 (sequence (proc (install (handler (key.Fault 9) (solicit 1 0 (constant (root.Text (116 ∷ 49 ∷ []))) None no_handlers) (handler (key.Fault 11) nothing (handler (key.Fault 12) nothing (handler (key.Fault 10) (assign (step (121 ∷ []) (step (110 ∷ []) here)) (constant (root.Text (112 ∷ [])))) (handler (key.Fault 5) (solicit 1 0 (constant (root.Text (116 ∷ 57 ∷ []))) None no_handlers) (handler (key.Fault 1) (comp 10) (handler (key.Fault 3) nothing (handler (key.Fault 2) (assign (step (121 ∷ []) (step (110 ∷ []) here)) (constant (root.Text (67 ∷ 111 ∷ 114 ∷ 114 ∷ 101 ∷ 108 ∷ 97 ∷ 116 ∷ 105 ∷ 111 ∷ 110 ∷ 69 ∷ 114 ∷ 114 ∷ 111 ∷ 114 ∷ [])))) (handler (key.Fault 4) (comp 10) (handler (key.Fault 0) (sequence (proc (comp 10) (proc (solicit 1 0 (constant (root.Text (116 ∷ 50 ∷ 48 ∷ []))) None no_handlers) no_procs))) (handler (key.Fault 7) nothing (handler (key.Fault 6) (assign (step (121 ∷ []) (step (110 ∷ []) here)) (constant (root.Text (72 ∷ 97 ∷ 110 ∷ 100 ∷ 108 ∷ 101 ∷ 114 ∷ 84 ∷ 111 ∷ 111 ∷ 76 ∷ 97 ∷ 114 ∷ 103 ∷ 101 ∷ [])))) no_handlers))))))))))))) (proc (choice (request 0 (Some (step_at (120 ∷ []) (constant (root.Int (pos 0))) here)) (Some (step_at (121 ∷ []) (constant (root.Int (pos 0))) here)) (sequence (proc (scope 13 (sequence (proc (install (handler (key.Fault 11) (sequence (proc (comp 13) (proc (solicit 1 0 (constant (root.Text (116 ∷ 50 ∷ 53 ∷ []))) None no_handlers) no_procs))) (handler (key.Fault 10) (sequence (proc (solicit 1 0 (constant (root.Text (116 ∷ 50 ∷ 56 ∷ []))) None no_handlers) (proc (assign (step (121 ∷ []) (step (97 ∷ []) here)) (sum (at_path (step (121 ∷ []) (step (97 ∷ []) here))) (sum_part sums.Plus (constant (root.Int (pos 1))) no_sum_parts))) no_procs))) no_handlers))) (proc (block (parallel (proc (sequence (proc (solicit 1 0 (sum (constant (root.Text (116 ∷ 51 ∷ 48 ∷ []))) (sum_part sums.Plus (count_at (step (99 ∷ []) here)) no_sum_parts)) None no_handlers) (proc (solicit 1 0 (constant (root.Text (116 ∷ 51 ∷ 49 ∷ []))) None no_handlers) no_procs))) (proc (sequence (proc (solicit 1 0 (constant (root.Text (116 ∷ 51 ∷ 50 ∷ []))) None no_handlers) (proc (throw 11 (literal (member_of (99 ∷ []) (constant (root.Int (pos 3))) (member_of (99 ∷ []) (constant (root.Text (45 ∷ 49 ∷ 50 ∷ []))) (member_of (99 ∷ []) (at_path (step (120 ∷ []) here)) no_member_list))))) no_procs))) no_procs)))) no_procs)))) (proc (scope 14 (sequence (proc (install (handler (key.Fault 12) (sequence (proc (comp 14) (proc (comp 15) no_procs))) no_handlers)) (proc (install (handler key.This (sequence (proc inner_handler (proc inner_handler no_procs))) no_handlers)) (proc (block (parallel (proc (solicit 1 0 (constant (root.Text (116 ∷ 51 ∷ 54 ∷ []))) None no_handlers) (proc (sequence (proc (assign (step (98 ∷ []) (step (110 ∷ []) here)) (constant (root.Bool true))) (proc (throw 12 (compared (count_at (step (120 ∷ []) (step (97 ∷ []) here))) compare.Less (constant (root.Int (pos 2))))) no_procs))) no_procs)))) no_procs))))) no_procs))) nothing (request 1 (Some (step (120 ∷ []) here)) (Some (step (121 ∷ []) here)) (sequence (proc (undef (step (99 ∷ []) here)) (proc (sequence (proc (assign (step (105 ∷ 49 ∷ []) here) (constant (root.Int (pos 0)))) (proc (repeat (compared (at_path (step (105 ∷ 49 ∷ []) here)) compare.Less (constant (root.Int (pos 3)))) (sequence (proc (parallel (proc (sequence (proc (install (handler (key.Fault 9) (parallel (proc (assign (step (121 ∷ []) (step (98 ∷ []) here)) (sum (at_path (step (121 ∷ []) (step (98 ∷ []) here))) (sum_part sums.Plus (constant (root.Int (pos 1))) no_sum_parts))) (proc (sequence (proc (install (handler key.This (sequence (proc inner_handler (proc (throw 10 (constant root.Void)) no_procs))) no_handlers)) (proc (scope 15 (assign (step (121 ∷ []) here) (sum (constant (root.Text (107 ∷ []))) (sum_part sums.Plus (count_at (step (121 ∷ []) (step (98 ∷ []) here))) no_sum_parts)))) no_procs))) no_procs))) (handler key.This (sequence (proc (assign (step (121 ∷ []) (step (97 ∷ []) here)) (sum (at_path (step (121 ∷ []) (step (97 ∷ []) here))) (sum_part sums.Plus (constant (root.Int (pos 1))) no_sum_parts))) (proc (throw 2 (constant root.Void)) (proc (install (handler key.This (sequence (proc (solicit 1 0 (sum (constant (root.Text (116 ∷ 52 ∷ 48 ∷ []))) (sum_part sums.Plus (cast casts.Text (at_path (step (97 ∷ []) here))) no_sum_parts)) None no_handlers) (proc (assign (step (97 ∷ []) here) (literal no_member_list)) no_procs))) no_handlers)) no_procs)))) no_handlers))) (proc (scope 10 (sequence (proc (assign (step (105 ∷ 50 ∷ []) here) (constant (root.Int (pos 3)))) (proc (repeat (compared (at_path (step (105 ∷ 50 ∷ []) here)) compare.More (constant (root.Int (pos 0)))) (sequence (proc (assign (step (105 ∷ 50 ∷ []) here) (sum (at_path (step (105 ∷ 50 ∷ []) here)) (sum_part sums.Minus (constant (root.Int (pos 1))) no_sum_parts))) (proc (solicit 1 0 (sum (constant (root.Text (116 ∷ 52 ∷ 49 ∷ []))) (sum_part sums.Plus (cast casts.Text (at_path (step (97 ∷ []) here))) no_sum_parts)) None no_handlers) no_procs)))) (proc (scope 10 (sequence (proc (assign (step (99 ∷ []) (step (97 ∷ []) (step_at (98 ∷ []) (sum (constant (root.Int (pos 0))) (sum_part sums.Minus (constant (root.Int (pos 1))) no_sum_parts)) here))) (at_path (step (99 ∷ []) here))) (proc (assign (step (121 ∷ []) here) (count_at (step (121 ∷ []) here))) (proc (solicit 1 0 (sum (constant (root.Text (116 ∷ 52 ∷ 50 ∷ []))) (sum_part sums.Plus (cast casts.Text (at_path (step (98 ∷ []) (step (110 ∷ []) here)))) no_sum_parts)) None no_handlers) (proc (assign (step (120 ∷ []) (step (110 ∷ []) here)) (literal (member_of (97 ∷ []) (at_path (step (98 ∷ []) (step (97 ∷ []) here))) (member_of (98 ∷ []) (sum (cast casts.Text (at_path (step (99 ∷ []) here))) (sum_part sums.Minus (product (count_at (step (99 ∷ []) here)) (mul_part muls.Times (constant (root.Int (pos 2))) no_mul_parts)) (sum_part sums.Minus (at_path (step (98 ∷ []) (step (110 ∷ []) here))) no_sum_parts))) no_member_list)))) no_procs)))))) no_procs))))) (proc (scope 10 (sequence (proc (install (handler (key.Fault 9) (sequence (proc (solicit 1 0 (constant (root.Text (116 ∷ 52 ∷ 51 ∷ []))) None no_handlers) (proc (comp 13) no_procs))) (handler (key.Fault 10) (sequence (proc (comp 13) (proc (solicit 1 0 (constant (root.Text (116 ∷ 52 ∷ 54 ∷ []))) None no_handlers) no_procs))) no_handlers))) (proc (install (handler (key.Fault 9) (parallel (proc (sequence (proc inner_handler (proc inner_handler no_procs))) (proc inner_handler no_procs))) no_handlers)) (proc (block (parallel (proc (sequence (proc (assign (step (121 ∷ []) here) (constant (root.Text (53 ∷ [])))) (proc (throw 9 (constant root.Void)) no_procs))) (proc (scope 13 (sequence (proc (install (handler key.This (assign (step_at (120 ∷ []) (count_at (step (97 ∷ []) here)) here) (defined_at (step (98 ∷ []) (step (97 ∷ []) here)))) no_handlers)) (proc (solicit 1 0 (constant (root.Text (116 ∷ 53 ∷ 48 ∷ []))) None no_handlers) no_procs)))) no_procs)))) no_procs))))) no_procs)))) (proc (sequence (proc (copy (step (99 ∷ []) here) (constant (root.Text (53 ∷ [])))) (proc (solicit 1 0 (constant (root.Text (116 ∷ 53 ∷ 49 ∷ []))) None no_handlers) no_procs))) no_procs))) (proc (assign (step (105 ∷ 49 ∷ []) here) (sum (at_path (step (105 ∷ 49 ∷ []) here)) (sum_part sums.Plus (constant (root.Int (pos 1))) no_sum_parts))) no_procs)))) no_procs))) (proc (scope 14 (sequence (proc (install (handler (key.Fault 12) (sequence (proc (solicit 1 0 (sum (constant (root.Text (116 ∷ 53 ∷ 50 ∷ []))) (sum_part sums.Plus (cast casts.Text (at_path (step (120 ∷ []) (step (99 ∷ []) here)))) no_sum_parts)) None no_handlers) (proc (comp 14) no_procs))) (handler (key.Fault 11) (sequence (proc (comp 13) (proc (solicit 1 0 (sum (constant (root.Text (116 ∷ 53 ∷ 54 ∷ []))) (sum_part sums.Plus (count_at (step (120 ∷ []) here)) no_sum_parts)) None no_handlers) (proc (solicit 1 0 (constant (root.Text (116 ∷ 53 ∷ 52 ∷ []))) None no_handlers) no_procs)))) (handler key.This (block (parallel (proc (scope 14 (sequence (proc (solicit 1 0 (constant (root.Text (116 ∷ 53 ∷ 55 ∷ []))) None no_handlers) (proc nothing (proc (assign (step (98 ∷ []) here) (compared (count_at (step (120 ∷ []) (step (97 ∷ []) here))) compare.Less (constant (root.Int (pos 0))))) no_procs))))) (proc (assign (step (99 ∷ []) here) (sum (at_path (step (99 ∷ []) here)) (sum_part sums.Minus (constant (root.Int (pos 1))) no_sum_parts))) no_procs)))) no_handlers)))) (proc (scope 10 (sequence (proc (install (handler key.This (sequence (proc (solicit 1 0 (sum (constant (root.Text (116 ∷ 53 ∷ 57 ∷ []))) (sum_part sums.Plus (cast casts.Text (at_path (step (99 ∷ []) (step (97 ∷ []) (step (97 ∷ []) here))))) no_sum_parts)) None no_handlers) (proc (assign (step (121 ∷ []) here) (at_path (step_at (99 ∷ []) (count_at (step (97 ∷ []) here)) here))) (proc (scope 13 (sequence (proc (assign (step (98 ∷ []) here) (literal (member_of (98 ∷ []) (constant (root.Int (pos 2))) no_member_list))) (proc (install (handler key.This (sequence (proc inner_handler (proc (solicit 1 0 (sum (constant (root.Text (116 ∷ 54 ∷ 56 ∷ []))) (sum_part sums.Plus (cast casts.Text (at_path (step (98 ∷ []) (step (110 ∷ []) here)))) no_sum_parts)) None no_handlers) (proc (solicit 1 0 (constant (root.Text (116 ∷ 54 ∷ 57 ∷ []))) None no_handlers) no_procs)))) no_handlers)) (proc (throw 5 (constant root.Void)) (proc (scope 10 (sequence (proc (install (handler key.This inner_handler no_handlers)) (proc (copy (step (98 ∷ []) (step (97 ∷ []) here)) (count_at (step (121 ∷ []) (step (98 ∷ []) here)))) no_procs)))) (proc (install (handler (key.Fault 9) (sequence (proc (comp 13) (proc (solicit 1 0 (sum (constant (root.Text (116 ∷ 54 ∷ 48 ∷ []))) (sum_part sums.Plus (count_at (step (98 ∷ []) here)) no_sum_parts)) None no_handlers) no_procs))) (handler (key.Fault 5) (sequence (proc (comp 10) (proc (solicit 1 0 (sum (constant (root.Text (116 ∷ 54 ∷ 49 ∷ []))) (sum_part sums.Plus (cast casts.Text (at_path (step (121 ∷ []) here))) no_sum_parts)) None no_handlers) no_procs))) (handler key.This (sequence (proc (install (handler (key.Fault 5) (sequence (proc inner_handler (proc (comp 10) no_procs))) (handler key.This (sequence (proc (assign (step (121 ∷ []) (step (99 ∷ []) here)) (sum (at_path (step (121 ∷ []) (step (99 ∷ []) here))) (sum_part sums.Plus (constant (root.Int (pos 1))) no_sum_parts))) (proc (solicit 1 0 (constant (root.Text (116 ∷ 54 ∷ 53 ∷ []))) None no_handlers) no_procs))) no_handlers))) (proc (block nothing) no_procs))) no_handlers)))) no_procs))))))) no_procs)))) no_handlers)) (proc (block (parallel (proc (sequence (proc (solicit 1 0 (constant (root.Text (116 ∷ 55 ∷ 48 ∷ []))) None no_handlers) (proc (assign (step (120 ∷ []) (step (110 ∷ []) (step_at (110 ∷ []) (constant (root.Int (pos 2))) here))) (sum (constant (root.Text (107 ∷ []))) (sum_part sums.Plus (at_path (step (98 ∷ []) here)) no_sum_parts))) no_procs))) (proc (sequence (proc (assign (step (98 ∷ []) here) (sum (constant (root.Text (107 ∷ []))) (sum_part sums.Plus (count_at (step_at (98 ∷ []) (constant (root.Int (pos 1))) (step (97 ∷ []) here))) no_sum_parts))) (proc (assign (step (97 ∷ []) (step_at (110 ∷ []) (constant (root.Int (pos 0))) here)) (constant (root.Int (pos 0)))) (proc (assign (step (98 ∷ []) (step (97 ∷ []) (step_at (99 ∷ []) (count_at (step (97 ∷ []) here)) here))) (at_path (step (97 ∷ []) here))) no_procs)))) no_procs)))) no_procs)))) (proc (install (handler (key.Fault 12) (sequence (proc inner_handler (proc (comp 15) (proc (scope 10 (sequence (proc (copy (step_at (97 ∷ []) (count_at (step (97 ∷ []) here)) (step (97 ∷ []) (step_at (99 ∷ []) (at_path (step (97 ∷ []) here)) here))) (at_path (step (97 ∷ []) (step_at (110 ∷ []) (constant (root.Int (pos 1))) (step (99 ∷ []) here))))) (proc (solicit 1 0 (constant (root.Text (116 ∷ 55 ∷ 50 ∷ []))) None no_handlers) (proc (scope 10 (solicit 1 0 (sum (constant (root.Text (116 ∷ 55 ∷ 51 ∷ []))) (sum_part sums.Plus (cast casts.Text (at_path (step (121 ∷ []) here))) no_sum_parts)) None no_handlers)) (proc (assign (step (121 ∷ []) (step (99 ∷ []) here)) (at_path (step (98 ∷ []) here))) no_procs)))))) (proc (scope 14 (solicit 1 0 (sum (constant (root.Text (116 ∷ 55 ∷ 52 ∷ []))) (sum_part sums.Plus (count_at (step (98 ∷ []) here)) no_sum_parts)) None no_handlers)) no_procs))))) no_handlers)) (proc nothing (proc (throw 11 (cast casts.Text (at_path (step (97 ∷ []) here)))) no_procs))))))) no_procs)))) nothing no_branches))) (proc (assign (step (97 ∷ []) (step (97 ∷ []) here)) (at_path (step_at (97 ∷ []) (constant (root.Int (pos 0))) (step (99 ∷ []) (step (99 ∷ []) here))))) no_procs)))))) } ∷ []);
  names = ((73 ∷ 79 ∷ 69 ∷ 120 ∷ 99 ∷ 101 ∷ 112 ∷ 116 ∷ 105 ∷ 111 ∷ 110 ∷ []) ∷ (84 ∷ 121 ∷ 112 ∷ 101 ∷ 77 ∷ 105 ∷ 115 ∷ 109 ∷ 97 ∷ 116 ∷ 99 ∷ 104 ∷ []) ∷ (67 ∷ 111 ∷ 114 ∷ 114 ∷ 101 ∷ 108 ∷ 97 ∷ 116 ∷ 105 ∷ 111 ∷ 110 ∷ 69 ∷ 114 ∷ 114 ∷ 111 ∷ 114 ∷ []) ∷ (82 ∷ 101 ∷ 102 ∷ 117 ∷ 115 ∷ 101 ∷ 100 ∷ []) ∷ (85 ∷ 110 ∷ 100 ∷ 101 ∷ 99 ∷ 108 ∷ 97 ∷ 114 ∷ 101 ∷ 100 ∷ 70 ∷ 97 ∷ 117 ∷ 108 ∷ 116 ∷ []) ∷ (69 ∷ 120 ∷ 112 ∷ 114 ∷ 70 ∷ 97 ∷ 117 ∷ 108 ∷ 116 ∷ []) ∷ (72 ∷ 97 ∷ 110 ∷ 100 ∷ 108 ∷ 101 ∷ 114 ∷ 84 ∷ 111 ∷ 111 ∷ 76 ∷ 97 ∷ 114 ∷ 103 ∷ 101 ∷ []) ∷ (83 ∷ 116 ∷ 111 ∷ 114 ∷ 101 ∷ 84 ∷ 111 ∷ 111 ∷ 76 ∷ 97 ∷ 114 ∷ 103 ∷ 101 ∷ []) ∷ (109 ∷ 97 ∷ 105 ∷ 110 ∷ []) ∷ (102 ∷ []) ∷ (112 ∷ []) ∷ (103 ∷ []) ∷ (104 ∷ []) ∷ (114 ∷ []) ∷ (115 ∷ []) ∷ (113 ∷ []) ∷ []);
}

-- what its office works by
abbrev setting : Setting
setting = run_of program

-- its history
abbrev history : List Entry
history = (
    record { actor = 4096; act = act.Post 0 0 (record { service = 0; op = (111 ∷ 112 ∷ 48 ∷ 49 ∷ []); value = (node (root.Int (pos 9)) no_fields) }) (answer.Accepted 0) } ∷
    record { actor = 0; act = act.Adopt 0 } ∷
    record { actor = 0; act = act.Take 0 } ∷
    record { actor = 0; act = act.Send 0 1 0 (node (root.Text (116 ∷ 52 ∷ 49 ∷ [])) no_fields) true at.Out } ∷
    record { actor = 0; act = act.Send 1 1 0 (node (root.Text (116 ∷ 53 ∷ 49 ∷ [])) no_fields) true at.Out } ∷
    record { actor = 4096; act = act.Fetch 0 0 } ∷
    record { actor = 4096; act = act.Answered 0 0 (outcome.Value (node root.Void no_fields)) } ∷
    record { actor = 4096; act = act.Fetch 0 1 } ∷
    record { actor = 4096; act = act.Answered 0 1 (outcome.Value (node root.Void no_fields)) } ∷
    record { actor = 0; act = act.Answer 0 (outcome.Value (node root.Void no_fields)) } ∷
    record { actor = 0; act = act.Send 2 1 0 (node (root.Text (116 ∷ 52 ∷ 49 ∷ [])) no_fields) true at.Out } ∷
    record { actor = 0; act = act.Answer 1 (outcome.Value (node root.Void no_fields)) } ∷
    record { actor = 4096; act = act.Fetch 0 2 } ∷
    record { actor = 4096; act = act.Answered 0 2 (outcome.Value (node root.Void no_fields)) } ∷
    record { actor = 0; act = act.Answer 2 (outcome.Value (node root.Void no_fields)) } ∷
    record { actor = 4096; act = act.Post 1 0 (record { service = 0; op = (111 ∷ 112 ∷ 48 ∷ 49 ∷ []); value = (node (root.Int (pos 2147483647)) no_fields) }) (answer.Accepted 1) } ∷
    record { actor = 4096; act = act.Post 2 0 (record { service = 0; op = (111 ∷ 112 ∷ 48 ∷ 48 ∷ []); value = (node root.Void no_fields) }) (answer.Accepted 2) } ∷
    record { actor = 4096; act = act.Post 2 1 (record { service = 0; op = (111 ∷ 112 ∷ 48 ∷ 48 ∷ []); value = (node root.Void no_fields) }) (answer.Accepted 3) } ∷
    record { actor = 4096; act = act.Post 3 0 (record { service = 0; op = (111 ∷ 112 ∷ 49 ∷ 48 ∷ []); value = (node root.Void no_fields) }) (answer.Refused reason.UnknownOperation) } ∷
    record { actor = 4096; act = act.Post 4 0 (record { service = 0; op = (111 ∷ 112 ∷ 48 ∷ 48 ∷ []); value = (node (root.Long (negsuc 2147483648)) no_fields) }) (answer.Refused reason.NotConforming) } ∷
    record { actor = 4096; act = act.Post 5 0 (record { service = 0; op = (111 ∷ 112 ∷ 48 ∷ 48 ∷ []); value = (node root.Void no_fields) }) (answer.Accepted 4) } ∷
    record { actor = 4096; act = act.Post 5 1 (record { service = 0; op = (111 ∷ 112 ∷ 48 ∷ 49 ∷ []); value = (node (root.Int (pos 3)) no_fields) }) (answer.Accepted 5) } ∷
    record { actor = 4096; act = act.Post 5 2 (record { service = 0; op = (111 ∷ 112 ∷ 48 ∷ 48 ∷ []); value = (node root.Void no_fields) }) (answer.Accepted 6) } ∷
    record { actor = 4096; act = act.Post 6 0 (record { service = 0; op = (111 ∷ 112 ∷ 48 ∷ 49 ∷ []); value = (node (root.Int (pos 2)) no_fields) }) (answer.Accepted 7) } ∷
    record { actor = 4096; act = act.Post 7 0 (record { service = 0; op = (111 ∷ 112 ∷ 48 ∷ 48 ∷ []); value = (node root.Void no_fields) }) (answer.Accepted 8) } ∷
    record { actor = 4096; act = act.Post 7 2 (record { service = 0; op = (111 ∷ 112 ∷ 48 ∷ 49 ∷ []); value = (node (root.Int (pos 9)) no_fields) }) (answer.Accepted 9) } ∷
    record { actor = 4096; act = act.Post 8 0 (record { service = 0; op = (111 ∷ 112 ∷ 48 ∷ 48 ∷ []); value = (node root.Void no_fields) }) (answer.Accepted 10) } ∷
    record { actor = 4096; act = act.Post 10 0 (record { service = 0; op = (111 ∷ 112 ∷ 48 ∷ 48 ∷ []); value = (node root.Void no_fields) }) (answer.Accepted 11) } ∷
    record { actor = 4096; act = act.Post 10 1 (record { service = 0; op = (111 ∷ 112 ∷ 48 ∷ 49 ∷ []); value = (node (root.Int (pos 3)) no_fields) }) (answer.Accepted 12) } ∷
    record { actor = 4096; act = act.Post 13 0 (record { service = 0; op = (111 ∷ 112 ∷ 48 ∷ 49 ∷ []); value = (node (root.Int (pos 9)) no_fields) }) (answer.Accepted 13) } ∷
    record { actor = 4096; act = act.Post 14 0 (record { service = 0; op = (111 ∷ 112 ∷ 49 ∷ 48 ∷ []); value = (node (root.Int (pos 2)) no_fields) }) (answer.Refused reason.UnknownOperation) } ∷
    record { actor = 4096; act = act.Post 15 0 (record { service = 0; op = (111 ∷ 112 ∷ 48 ∷ 49 ∷ []); value = (node (root.Int (pos 2)) no_fields) }) (answer.Accepted 14) } ∷
    record { actor = 4096; act = act.Post 16 0 (record { service = 0; op = (111 ∷ 112 ∷ 48 ∷ 48 ∷ []); value = (node (root.Long (pos 9223372036854775807)) no_fields) }) (answer.Refused reason.NotConforming) } ∷
    record { actor = 4096; act = act.Post 16 1 (record { service = 0; op = (111 ∷ 112 ∷ 48 ∷ 48 ∷ []); value = (node root.Void no_fields) }) (answer.Accepted 15) } ∷
    record { actor = 4096; act = act.Post 17 0 (record { service = 0; op = (111 ∷ 112 ∷ 48 ∷ 49 ∷ []); value = (node (root.Int (negsuc 0)) no_fields) }) (answer.Accepted 16) } ∷
    record { actor = 4096; act = act.Post 18 0 (record { service = 0; op = (111 ∷ 112 ∷ 49 ∷ 48 ∷ []); value = (node (root.Int (pos 3)) no_fields) }) (answer.Refused reason.UnknownOperation) } ∷
    record { actor = 4096; act = act.Post 19 0 (record { service = 0; op = (111 ∷ 112 ∷ 48 ∷ 48 ∷ []); value = (node root.Void no_fields) }) (answer.Accepted 17) } ∷
    record { actor = 4096; act = act.Close } ∷
    record { actor = 4096; act = act.Stop } ∷
    record { actor = 4096; act = act.Collect 0 (outcome.Refused reason.Stopped) } ∷
    record { actor = 4096; act = act.Collect 1 (outcome.Refused reason.Stopped) } ∷
    record { actor = 4096; act = act.Collect 2 (outcome.Refused reason.Stopped) } ∷
    record { actor = 4096; act = act.Collect 3 (outcome.Refused reason.Stopped) } ∷
    record { actor = 4096; act = act.Collect 4 (outcome.Refused reason.Stopped) } ∷
    record { actor = 4096; act = act.Collect 5 (outcome.Refused reason.Stopped) } ∷
    record { actor = 4096; act = act.Collect 6 (outcome.Refused reason.Stopped) } ∷
    record { actor = 4096; act = act.Collect 7 (outcome.Refused reason.Stopped) } ∷
    record { actor = 4096; act = act.Collect 8 (outcome.Refused reason.Stopped) } ∷
    record { actor = 4096; act = act.Collect 9 (outcome.Refused reason.Stopped) } ∷
    record { actor = 4096; act = act.Collect 10 (outcome.Refused reason.Stopped) } ∷
    record { actor = 4096; act = act.Collect 11 (outcome.Refused reason.Stopped) } ∷
    record { actor = 4096; act = act.Collect 12 (outcome.Refused reason.Stopped) } ∷
    record { actor = 4096; act = act.Collect 13 (outcome.Refused reason.Stopped) } ∷
    record { actor = 4096; act = act.Collect 14 (outcome.Refused reason.Stopped) } ∷
    record { actor = 4096; act = act.Collect 15 (outcome.Refused reason.Stopped) } ∷
    record { actor = 4096; act = act.Collect 16 (outcome.Refused reason.Stopped) } ∷
    record { actor = 4096; act = act.Collect 17 (outcome.Refused reason.Stopped) } ∷ [])

pub legal : IsLegal setting history
legal = (record { allowed = refl; reply = refl }, (record { allowed = refl; reply = refl }, (record { allowed = refl; reply = refl }, (record { allowed = refl; reply = refl }, (record { allowed = refl; reply = refl }, (record { allowed = refl; reply = refl }, (record { allowed = refl; reply = refl }, (record { allowed = refl; reply = refl }, (record { allowed = refl; reply = refl }, (record { allowed = refl; reply = refl }, (record { allowed = refl; reply = refl }, (record { allowed = refl; reply = refl }, (record { allowed = refl; reply = refl }, (record { allowed = refl; reply = refl }, (record { allowed = refl; reply = refl }, (record { allowed = refl; reply = refl }, (record { allowed = refl; reply = refl }, (record { allowed = refl; reply = refl }, (record { allowed = refl; reply = refl }, (record { allowed = refl; reply = refl }, (record { allowed = refl; reply = refl }, (record { allowed = refl; reply = refl }, (record { allowed = refl; reply = refl }, (record { allowed = refl; reply = refl }, (record { allowed = refl; reply = refl }, (record { allowed = refl; reply = refl }, (record { allowed = refl; reply = refl }, (record { allowed = refl; reply = refl }, (record { allowed = refl; reply = refl }, (record { allowed = refl; reply = refl }, (record { allowed = refl; reply = refl }, (record { allowed = refl; reply = refl }, (record { allowed = refl; reply = refl }, (record { allowed = refl; reply = refl }, (record { allowed = refl; reply = refl }, (record { allowed = refl; reply = refl }, (record { allowed = refl; reply = refl }, (record { allowed = refl; reply = refl }, (record { allowed = refl; reply = refl }, (record { allowed = refl; reply = refl }, (record { allowed = refl; reply = refl }, (record { allowed = refl; reply = refl }, (record { allowed = refl; reply = refl }, (record { allowed = refl; reply = refl }, (record { allowed = refl; reply = refl }, (record { allowed = refl; reply = refl }, (record { allowed = refl; reply = refl }, (record { allowed = refl; reply = refl }, (record { allowed = refl; reply = refl }, (record { allowed = refl; reply = refl }, (record { allowed = refl; reply = refl }, (record { allowed = refl; reply = refl }, (record { allowed = refl; reply = refl }, (record { allowed = refl; reply = refl }, (record { allowed = refl; reply = refl }, (record { allowed = refl; reply = refl }, (record { allowed = refl; reply = refl }, tt)))))))))))))))))))))))))))))))))))))))))))))))))))))))))

pub spoilt_accepted_against_the_rules : legal_entries setting (with_at 18 (record { actor = 4096; act = act.Post 3 0 (record { service = 0; op = (111 ∷ 112 ∷ 49 ∷ 48 ∷ []); value = (node root.Void no_fields) }) (answer.Accepted 4) } ∷ []) history) ≡ 18
spoilt_accepted_against_the_rules = refl

pub spoilt_adopted_after_the_stop : legal_entries setting (with_at 38 (record { actor = 4096; act = act.Stop } ∷ record { actor = 0; act = act.Adopt 0 } ∷ []) history) ≡ 39
spoilt_adopted_after_the_stop = refl

-- the events of session 0
abbrev events_0 : List Event
events_0 = (
    event 0 kind.Local 0 0 0 ∷
    event 0 kind.Install 0 0 0 ∷
    event 0 kind.In 0 1 0 ∷
    event 0 kind.Local 0 0 0 ∷
    event 0 kind.Local 0 0 0 ∷
    event 0 kind.Local 0 0 0 ∷
    event 1 kind.Install 0 0 0 ∷
    event 1 kind.Local 0 0 0 ∷
    event 1 kind.Local 0 0 0 ∷
    event 1 kind.Local 0 0 0 ∷
    event 1 kind.Solicit 0 0 0 ∷
    event 2 kind.Local 0 0 0 ∷
    event 2 kind.Solicit 1 0 0 ∷
    event 1 kind.Answer 0 0 0 ∷
    event 1 kind.Local 0 0 0 ∷
    event 1 kind.Local 0 0 0 ∷
    event 1 kind.Solicit 2 0 0 ∷
    event 2 kind.Answer 1 0 0 ∷
    event 1 kind.Answer 2 0 0 ∷
    event 1 kind.Local 0 0 0 ∷ [])

-- the events of each session
abbrev sessions : List (List Event)
sessions = events_0 ∷ []

pub session_0 : IsSession setting history 0 events_0
unfolding digits
session_0 = is_session setting history 0 0 events_0 refl refl (refl, ((refl, refl, refl, refl, refl), ((refl, refl, refl, refl, refl), (refl, ((refl, refl, refl, refl, refl), (refl, (refl, tt)))))))

pub quiet : is_quiet setting 20 (before_stop history) sessions ≡ true
unfolding digits
quiet = refl

pub still : is_still setting 20 history sessions ≡ true
unfolding digits
still = refl

pub collected : are_collected setting history ≡ true
unfolding digits
collected = refl

pub together : stand_together history ≡ true
together = refl

pub run : (r : Record) → r.history.entries.items ≡ history → r.sessions ≡ sessions
    → IsRun setting 20 alone false r
run = is_run setting 20 history sessions
    (record { legal = legal; stopped = refl; actors = refl; all = refl; each = (session_0, tt); within = refl; quiet = quiet; closed = refl; posted = together; still = still; collected = collected })

pub spoilt_run_without_its_stop : (r : Record) → r.history.entries.items ≡ (with_at 38 [] history) → IsRun setting 20 alone false r → ⊥
spoilt_run_without_its_stop r has = unstopped setting 20 false (with_at 38 [] history) r has refl

pub spoilt_run_that_is_not_closed : (r : Record) → r.history.entries.items ≡ (with_at 37 [] history) → IsRun setting 20 alone false r → ⊥
spoilt_run_that_is_not_closed r has = unclosed setting 20 false (with_at 37 [] history) r has refl

pub spoilt_run_stopped_by_another : (r : Record) → r.history.entries.items ≡ (with_at 38 (record { actor = 4097; act = act.Stop } ∷ []) history) → IsRun setting 20 alone false r → ⊥
spoilt_run_stopped_by_another r has = foreign setting 20 false (with_at 38 (record { actor = 4097; act = act.Stop } ∷ []) history) r has refl

pub spoilt_run_that_lacks_a_session : (r : Record) → r.history.entries.items ≡ history → r.sessions ≡ ([])
    → IsRun setting 20 alone false r → ⊥
spoilt_run_that_lacks_a_session r has events = missing setting 20 false history r has ([]) events refl

pub spoilt_run_over_its_budget : (r : Record) → r.history.entries.items ≡ history → r.sessions ≡ sessions
    → IsRun setting 19 alone false r → ⊥
spoilt_run_over_its_budget r has events =
    too_many setting 19 false history r has sessions events 0 events_0 refl refl

pub spoilt_events_exchanged : agrees setting history 0 (
    event 0 kind.Install 0 0 0 ∷
    event 0 kind.Local 0 0 0 ∷
    event 0 kind.In 0 1 0 ∷
    event 0 kind.Local 0 0 0 ∷
    event 0 kind.Local 0 0 0 ∷
    event 0 kind.Local 0 0 0 ∷
    event 1 kind.Install 0 0 0 ∷
    event 1 kind.Local 0 0 0 ∷
    event 1 kind.Local 0 0 0 ∷
    event 1 kind.Local 0 0 0 ∷
    event 1 kind.Solicit 0 0 0 ∷
    event 2 kind.Local 0 0 0 ∷
    event 2 kind.Solicit 1 0 0 ∷
    event 1 kind.Answer 0 0 0 ∷
    event 1 kind.Local 0 0 0 ∷
    event 1 kind.Local 0 0 0 ∷
    event 1 kind.Solicit 2 0 0 ∷
    event 2 kind.Answer 1 0 0 ∷
    event 1 kind.Answer 2 0 0 ∷
    event 1 kind.Local 0 0 0 ∷ []) ≡ false
unfolding digits
spoilt_events_exchanged = refl

pub spoilt_posted_behind_the_start : is_still setting 20 (record { actor = 0; act = act.Adopt 0 } ∷ with_at 1 [] history) sessions ≡ false
unfolding digits
spoilt_posted_behind_the_start = refl

pub spoilt_post_apart : stand_together (with_at 16 (record { actor = 4096; act = act.Post 2 0 (record { service = 0; op = (111 ∷ 112 ∷ 48 ∷ 48 ∷ []); value = (node root.Void no_fields) }) (answer.Accepted 2) } ∷ record { actor = 0; act = act.End } ∷ []) history) ≡ false
unfolding digits
spoilt_post_apart = refl

pub spoilt_budget_left : is_quiet setting 21 (before_stop history) sessions ≡ false
unfolding digits
spoilt_budget_left = refl

-- what came in
abbrev postings : List Posting
postings = (
    record { calls = (call.Post (record { service = 0; op = (111 ∷ 112 ∷ 48 ∷ 49 ∷ []); value = (node (root.Int (pos 9)) no_fields) }) ∷ []) } ∷
    record { calls = (call.Post (record { service = 0; op = (111 ∷ 112 ∷ 48 ∷ 49 ∷ []); value = (node (root.Int (pos 2147483647)) no_fields) }) ∷ []) } ∷
    record { calls = (call.Post (record { service = 0; op = (111 ∷ 112 ∷ 48 ∷ 48 ∷ []); value = (node root.Void no_fields) }) ∷ call.Post (record { service = 0; op = (111 ∷ 112 ∷ 48 ∷ 48 ∷ []); value = (node root.Void no_fields) }) ∷ []) } ∷
    record { calls = (call.Post (record { service = 0; op = (111 ∷ 112 ∷ 49 ∷ 48 ∷ []); value = (node root.Void no_fields) }) ∷ []) } ∷
    record { calls = (call.Post (record { service = 0; op = (111 ∷ 112 ∷ 48 ∷ 48 ∷ []); value = (node (root.Long (negsuc 2147483648)) no_fields) }) ∷ []) } ∷
    record { calls = (call.Post (record { service = 0; op = (111 ∷ 112 ∷ 48 ∷ 48 ∷ []); value = (node root.Void no_fields) }) ∷ call.Post (record { service = 0; op = (111 ∷ 112 ∷ 48 ∷ 49 ∷ []); value = (node (root.Int (pos 3)) no_fields) }) ∷ call.Post (record { service = 0; op = (111 ∷ 112 ∷ 48 ∷ 48 ∷ []); value = (node root.Void no_fields) }) ∷ []) } ∷
    record { calls = (call.Post (record { service = 0; op = (111 ∷ 112 ∷ 48 ∷ 49 ∷ []); value = (node (root.Int (pos 2)) no_fields) }) ∷ []) } ∷
    record { calls = (call.Post (record { service = 0; op = (111 ∷ 112 ∷ 48 ∷ 48 ∷ []); value = (node root.Void no_fields) }) ∷ call.Answered (outcome.Refused (reason.Other (negsuc 32599))) ∷ call.Post (record { service = 0; op = (111 ∷ 112 ∷ 48 ∷ 49 ∷ []); value = (node (root.Int (pos 9)) no_fields) }) ∷ []) } ∷
    record { calls = (call.Post (record { service = 0; op = (111 ∷ 112 ∷ 48 ∷ 48 ∷ []); value = (node root.Void no_fields) }) ∷ []) } ∷
    record { calls = [] } ∷
    record { calls = (call.Post (record { service = 0; op = (111 ∷ 112 ∷ 48 ∷ 48 ∷ []); value = (node root.Void no_fields) }) ∷ call.Post (record { service = 0; op = (111 ∷ 112 ∷ 48 ∷ 49 ∷ []); value = (node (root.Int (pos 3)) no_fields) }) ∷ []) } ∷
    record { calls = [] } ∷
    record { calls = [] } ∷
    record { calls = (call.Post (record { service = 0; op = (111 ∷ 112 ∷ 48 ∷ 49 ∷ []); value = (node (root.Int (pos 9)) no_fields) }) ∷ []) } ∷
    record { calls = (call.Post (record { service = 0; op = (111 ∷ 112 ∷ 49 ∷ 48 ∷ []); value = (node (root.Int (pos 2)) no_fields) }) ∷ []) } ∷
    record { calls = (call.Post (record { service = 0; op = (111 ∷ 112 ∷ 48 ∷ 49 ∷ []); value = (node (root.Int (pos 2)) no_fields) }) ∷ []) } ∷
    record { calls = (call.Post (record { service = 0; op = (111 ∷ 112 ∷ 48 ∷ 48 ∷ []); value = (node (root.Long (pos 9223372036854775807)) no_fields) }) ∷ call.Post (record { service = 0; op = (111 ∷ 112 ∷ 48 ∷ 48 ∷ []); value = (node root.Void no_fields) }) ∷ []) } ∷
    record { calls = (call.Post (record { service = 0; op = (111 ∷ 112 ∷ 48 ∷ 49 ∷ []); value = (node (root.Int (negsuc 0)) no_fields) }) ∷ []) } ∷
    record { calls = (call.Post (record { service = 0; op = (111 ∷ 112 ∷ 49 ∷ 48 ∷ []); value = (node (root.Int (pos 3)) no_fields) }) ∷ []) } ∷
    record { calls = (call.Post (record { service = 0; op = (111 ∷ 112 ∷ 48 ∷ 48 ∷ []); value = (node root.Void no_fields) }) ∷ []) } ∷ [])

pub posted : posts_by first_worker history ≡ posts_of 0 postings
posted = refl

pub tells : told_from setting (past_of setting history) 0 postings ≡ (
    Some ((outcome.Refused reason.Stopped) ∷ []) ∷
    Some ((outcome.Refused reason.Stopped) ∷ []) ∷
    Some ((outcome.Refused reason.Stopped) ∷ (outcome.Refused reason.Stopped) ∷ []) ∷
    Some ((outcome.Refused reason.UnknownOperation) ∷ []) ∷
    Some ((outcome.Refused reason.NotConforming) ∷ []) ∷
    Some ((outcome.Refused reason.Stopped) ∷ (outcome.Refused reason.Stopped) ∷ (outcome.Refused reason.Stopped) ∷ []) ∷
    Some ((outcome.Refused reason.Stopped) ∷ []) ∷
    Some ((outcome.Refused reason.Stopped) ∷ (outcome.Refused (reason.Other (negsuc 32599))) ∷ (outcome.Refused reason.Stopped) ∷ []) ∷
    Some ((outcome.Refused reason.Stopped) ∷ []) ∷
    Some [] ∷
    Some ((outcome.Refused reason.Stopped) ∷ (outcome.Refused reason.Stopped) ∷ []) ∷
    Some [] ∷
    Some [] ∷
    Some ((outcome.Refused reason.Stopped) ∷ []) ∷
    Some ((outcome.Refused reason.UnknownOperation) ∷ []) ∷
    Some ((outcome.Refused reason.Stopped) ∷ []) ∷
    Some ((outcome.Refused reason.NotConforming) ∷ (outcome.Refused reason.Stopped) ∷ []) ∷
    Some ((outcome.Refused reason.Stopped) ∷ []) ∷
    Some ((outcome.Refused reason.UnknownOperation) ∷ []) ∷
    Some ((outcome.Refused reason.Stopped) ∷ []) ∷ [])
tells = refl

pub order : order_alone setting history first_worker 20 ≡ (3 ∷ 4 ∷ 9 ∷ 11 ∷ 12 ∷ 14 ∷ 18 ∷ 0 ∷ 1 ∷ 2 ∷ 5 ∷ 6 ∷ 7 ∷ 8 ∷ 10 ∷ 13 ∷ 15 ∷ 16 ∷ 17 ∷ 19 ∷ [])
order = refl

pub noted : notes setting history ≡ (116 ∷ 52 ∷ 49 ∷ 10 ∷ 116 ∷ 53 ∷ 49 ∷ 10 ∷ 116 ∷ 52 ∷ 49 ∷ 10 ∷ [])
unfolding digits
noted = refl

at_the_stop : IsSession setting (before_stop history) 0 events_0
unfolding digits
at_the_stop = is_session setting (before_stop history) 0 0 events_0 refl refl (refl, ((refl, refl, refl, refl, refl), ((refl, refl, refl, refl, refl), (refl, ((refl, refl, refl, refl, refl), (refl, (refl, tt)))))))

could_act : can_act setting (before_stop history) 0 events_0 ≡ true
unfolding digits
could_act = refl

pub spent : (r : Record) → r.history.entries.items ≡ history → r.sessions ≡ sessions → IsSpent setting 20 r
spent = is_spent setting 20 history sessions events_0 at_the_stop refl refl could_act

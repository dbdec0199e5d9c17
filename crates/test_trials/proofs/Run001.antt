-- A recorded run.
use Rattle.std.specs.Prelude.{◌≡◌, ℕ, pos, negsuc, Bool, true, false, List, [], ◌∷◌, take, Option, None, Some}
use Rattle.std.proofs.Common.{refl}
use Rattle.std.specs.Fmt.{digits}
use Rattle.jolie_trees.specs.declared.root.Root.TheVariants as root
use Rattle.jolie_trees.specs.Data.{Tree, node, Fields, no_fields, field, Trees, no_trees, tree}
use Rattle.behaviour_tree.specs.declared.types.RootKind.TheVariants as kinds
use Rattle.behaviour_tree.specs.declared.expr.CompareOp.TheVariants as compare
use Rattle.behaviour_tree.specs.declared.expr.SumOp.TheVariants as sums
use Rattle.behaviour_tree.specs.declared.expr.MulOp.TheVariants as muls
use Rattle.behaviour_tree.specs.declared.expr.CastKind.TheVariants as casts
use Rattle.behaviour_tree.specs.declared.behaviour.HandlerKey.TheVariants as key
use Rattle.behaviour_tree.specs.declared.program.Execution.TheVariants as execution
use Rattle.behaviour_tree.specs.declared.words.Event.{Event}
use Rattle.behaviour_tree.specs.declared.words.Kind.TheVariants as kind
use Rattle.behaviour_tree.specs.declared.words.Outcome.TheVariants as outcome
use Rattle.behaviour_tree.specs.declared.words.Reason.TheVariants as reason
use Rattle.behaviour_tree.specs.Data.{plain, named, undefined, no_type_fields, type_field, here, step, step_at, constant, at_path, count_at, defined_at, literal, any_of, all_of, compared, sum, product, minus, negation, cast, no_exps, exp, no_sum_parts, sum_part, no_mul_parts, mul_part, no_member_list, member_of, Proc, nothing, assign, undef, copy, bind, sequence, parallel, choose, repeat, choice, notify, solicit, install, throw, comp, inner_handler, scope, block, no_procs, proc, no_branches, one_way, request, no_handlers, handler, ProgramParts}
use Rattle.correlation.specs.declared.bind_reply.BindReply.TheVariants as binding
use Rattle.office_core.specs.declared.post.PostReply.TheVariants as answer
use Rattle.office_core.specs.declared.history.Placed.TheVariants as at
use Rattle.office_core.specs.declared.history.Act.TheVariants as act
use Rattle.office_core.specs.declared.history.Entry.{Entry}
use Rattle.office_core.specs.declared.front.CallIn.TheVariants as call
use Rattle.office_core.specs.declared.front.Posting.{Posting}
use Rattle.office_core.specs.Limits.{Setting, run_of, first_worker}
use Rattle.office_core.specs.Accepted.{past_of}
use Rattle.office_core.specs.Legal.{IsLegal}
use Rattle.run_record.specs.Agrees.{IsSession}
use Rattle.run_record.specs.Quiet.{before_stop, sessions_at}
use Rattle.run_record.specs.Answered.{stand_together}
use Rattle.run_record.specs.Postings.{posts_by, posts_of}
use Rattle.run_record.specs.Order.{order_alone}
use Rattle.run_record.specs.Outside.{notes}
use Rattle.test_trials.specs.Counts.{legal_entries, with_at}
use Rattle.test_trials.specs.Fronts.{told_from}
use Rattle.test_trials.specs.Sessions.{event, agrees}
use Rattle.test_trials.specs.Quiet.{is_quiet, is_still}
use Rattle.test_trials.specs.Collected.{are_collected}
use Rattle.test_trials.proofs.Told.{is_session}
use Rattle.std.specs.Prelude.{◌++◌}
use Rattle.run_record.specs.declared.record.Record.{Record}
use Rattle.run_record.specs.Run.{alone, workers, IsRun, IsSpent}
use Rattle.test_trials.proofs.Runs.{is_run, unstopped, unclosed, foreign, missing, too_many, restless}
use Rattle.run_record.specs.Order.{IsOrder}
use Rattle.test_trials.proofs.Workers.{is_run_of_workers, stranger, posts_apart, second_first, not_as_posted, not_without_one, not_twice}
use Rattle.test_trials.specs.Quiet.{can_act}
use Rattle.test_trials.proofs.Spends.{spends, is_spent, not_spent}

-- the program
abbrev program : ProgramParts
program = record {
  types = ((plain kinds.Int (type_field (98 ∷ []) 2 None (plain kinds.Int no_type_fields) no_type_fields)) ∷ (plain kinds.Void (type_field (115 ∷ 105 ∷ 100 ∷ []) 1 (Some 1) (plain kinds.Text no_type_fields) no_type_fields)) ∷ (plain kinds.Void (type_field (115 ∷ 105 ∷ 100 ∷ []) 1 (Some 1) (plain kinds.Text no_type_fields) no_type_fields)) ∷ []);
  interfaces = (record { name = (73 ∷ 83 ∷ 48 ∷ []); operations = (record { name = (111 ∷ 112 ∷ 48 ∷ 48 ∷ []); request = (named 1); response = (Some undefined); throws = [] } ∷ record { name = (111 ∷ 112 ∷ 48 ∷ 49 ∷ []); request = (plain kinds.Int no_type_fields); response = (Some (named 0)); throws = (record { fault = 9; ty = (plain kinds.Int no_type_fields) } ∷ record { fault = 1; ty = (plain kinds.Any no_type_fields) } ∷ []) } ∷ record { name = (111 ∷ 112 ∷ 48 ∷ 50 ∷ []); request = (plain kinds.Void no_type_fields); response = (Some (plain kinds.Any no_type_fields)); throws = (record { fault = 5; ty = (plain kinds.Void no_type_fields) } ∷ []) } ∷ record { name = (109 ∷ 111 ∷ 114 ∷ 101 ∷ 48 ∷ []); request = (named 2); response = (Some undefined); throws = [] } ∷ []) } ∷ record { name = (73 ∷ 83 ∷ 49 ∷ []); operations = (record { name = (111 ∷ 112 ∷ 49 ∷ 48 ∷ []); request = (plain kinds.Void no_type_fields); response = (Some (plain kinds.Int no_type_fields)); throws = (record { fault = 10; ty = (plain kinds.Void no_type_fields) } ∷ []) } ∷ record { name = (111 ∷ 112 ∷ 49 ∷ 49 ∷ []); request = (plain kinds.Int no_type_fields); response = (Some (plain kinds.Int no_type_fields)); throws = (record { fault = 1; ty = (plain kinds.Void no_type_fields) } ∷ []) } ∷ []) } ∷ record { name = (82 ∷ []); operations = (record { name = (97 ∷ 115 ∷ 107 ∷ []); request = (plain kinds.Int no_type_fields); response = (Some undefined); throws = (record { fault = 11; ty = (plain kinds.Void no_type_fields) } ∷ []) } ∷ record { name = (116 ∷ 101 ∷ 108 ∷ 108 ∷ []); request = undefined; response = None; throws = [] } ∷ []) } ∷ []);
  services = (record { name = (83 ∷ 48 ∷ []); execution = execution.Concurrent; ports = (record { name = (73 ∷ 110 ∷ []); input = true; location = (115 ∷ 111 ∷ 99 ∷ 107 ∷ 101 ∷ 116 ∷ 58 ∷ 47 ∷ 47 ∷ 108 ∷ 111 ∷ 99 ∷ 97 ∷ 108 ∷ 104 ∷ 111 ∷ 115 ∷ 116 ∷ 58 ∷ 56 ∷ 48 ∷ 48 ∷ 48 ∷ []); interfaces = (0 ∷ []) } ∷ record { name = (80 ∷ 83 ∷ 49 ∷ []); input = false; location = (108 ∷ 111 ∷ 99 ∷ 97 ∷ 108 ∷ 58 ∷ 47 ∷ 47 ∷ 108 ∷ 49 ∷ []); interfaces = (1 ∷ []) } ∷ []); sets = (record { variables = (record { name = (115 ∷ 105 ∷ 100 ∷ []); aliases = (record { ty = 2; path = ((115 ∷ 105 ∷ 100 ∷ []) ∷ []) } ∷ []) } ∷ []) } ∷ []); init = nothing; main = (sequence (proc (install (handler (key.Fault 10) (assign (step (121 ∷ []) (step (110 ∷ []) here)) (constant (root.Text (112 ∷ [])))) (handler (key.Fault 7) nothing (handler (key.Fault 2) nothing (handler (key.Fault 3) (solicit 2 0 (sum (constant (root.Text (116 ∷ 55 ∷ []))) (sum_part sums.Plus (count_at (step (121 ∷ []) here)) no_sum_parts)) None no_handlers) (handler (key.Fault 1) (assign (step (121 ∷ []) (step (110 ∷ []) here)) (constant (root.Text (84 ∷ 121 ∷ 112 ∷ 101 ∷ 77 ∷ 105 ∷ 115 ∷ 109 ∷ 97 ∷ 116 ∷ 99 ∷ 104 ∷ [])))) (handler (key.Fault 9) nothing (handler (key.Fault 0) nothing (handler (key.Fault 4) (solicit 2 0 (constant (root.Text (116 ∷ 49 ∷ 53 ∷ []))) None no_handlers) no_handlers))))))))) (proc (choice (request 0 (Some (step (120 ∷ []) (step (99 ∷ []) here))) (Some (step (121 ∷ []) here)) (solicit 1 0 (constant root.Void) (Some (step (120 ∷ []) here)) no_handlers) (sequence (proc (assign (step (99 ∷ []) here) (product (count_at (step_at (98 ∷ []) (constant (root.Int (pos 1))) (step (97 ∷ []) here))) (mul_part muls.Over (minus (constant (root.Int (pos 1)))) no_mul_parts))) (proc nothing no_procs))) (request 1 (Some (step (120 ∷ []) here)) (Some (step_at (121 ∷ []) (constant (root.Int (pos 0))) here)) (sequence (proc (scope 12 (sequence (proc (assign (step (120 ∷ []) here) (at_path (step (98 ∷ []) (step_at (97 ∷ []) (constant (root.Int (pos 1))) here)))) (proc (choice (request 3 None None (sequence (proc (scope 10 (sequence (proc (copy (step (97 ∷ []) (step_at (97 ∷ []) (constant (root.Int (pos 1))) (step (110 ∷ []) here))) (cast casts.Text (at_path (step (120 ∷ []) here)))) (proc (bind 0 (constant (root.Int (pos 1)))) (proc (solicit 1 0 (sum (constant (root.Text (107 ∷ []))) (sum_part sums.Plus (at_path (step (121 ∷ []) here)) (sum_part sums.Plus (constant (root.Text (46 ∷ []))) no_sum_parts))) (Some (step_at (120 ∷ []) (constant (root.Int (pos 1))) here)) no_handlers) no_procs))))) (proc (throw 11 (constant (root.Bool true))) (proc (assign (step (105 ∷ 49 ∷ []) here) (constant (root.Int (pos 2)))) (proc (repeat (compared (at_path (step (105 ∷ 49 ∷ []) here)) compare.More (constant (root.Int (pos 0)))) (sequence (proc (assign (step (105 ∷ 49 ∷ []) here) (sum (at_path (step (105 ∷ 49 ∷ []) here)) (sum_part sums.Minus (constant (root.Int (pos 1))) no_sum_parts))) (proc (assign (step (105 ∷ 50 ∷ []) here) (constant (root.Int (pos 3)))) (proc (repeat (compared (at_path (step (105 ∷ 50 ∷ []) here)) compare.More (constant (root.Int (pos 0)))) (sequence (proc (assign (step (105 ∷ 50 ∷ []) here) (sum (at_path (step (105 ∷ 50 ∷ []) here)) (sum_part sums.Minus (constant (root.Int (pos 1))) no_sum_parts))) (proc (assign (step (98 ∷ []) here) (at_path (step (97 ∷ []) here))) no_procs)))) (proc (scope 13 (sequence (proc (assign (step (98 ∷ []) here) (sum (constant (root.Text (45 ∷ []))) (sum_part sums.Plus (at_path (step (97 ∷ []) (step_at (99 ∷ []) (count_at (step (121 ∷ []) (step (98 ∷ []) here))) (step (110 ∷ []) here)))) no_sum_parts))) (proc (assign (step (97 ∷ []) here) (literal (member_of (98 ∷ []) (at_path (step (97 ∷ []) here)) no_member_list))) no_procs)))) no_procs)))))) (proc (choose (compared (at_path (step (98 ∷ []) (step (98 ∷ []) here))) compare.More (count_at (step (121 ∷ []) (step (98 ∷ []) here)))) (sequence (proc (assign (step (98 ∷ []) (step (97 ∷ []) (step_at (110 ∷ []) (count_at (step (97 ∷ []) here)) here))) (constant (root.Text (97 ∷ 98 ∷ [])))) (proc (solicit 2 0 (sum (constant (root.Text (116 ∷ 49 ∷ 56 ∷ []))) (sum_part sums.Plus (count_at (step (121 ∷ []) here)) no_sum_parts)) None no_handlers) no_procs))) (scope 14 (sequence (proc (assign (step (99 ∷ []) (step (110 ∷ []) (step (110 ∷ []) here))) (sum (at_path (step (99 ∷ []) (step (110 ∷ []) (step (110 ∷ []) here)))) (sum_part sums.Plus (constant (root.Int (pos 1))) no_sum_parts))) (proc (assign (step (121 ∷ []) here) (literal no_member_list)) no_procs))))) no_procs)))))) nothing no_branches)) (proc (scope 14 (sequence (proc (assign (step (97 ∷ []) here) (sum (at_path (step (97 ∷ []) here)) (sum_part sums.Minus (constant (root.Int (pos 1))) no_sum_parts))) (proc (assign (step (99 ∷ []) here) (sum (at_path (step (99 ∷ []) here)) (sum_part sums.Minus (constant (root.Int (pos 1))) no_sum_parts))) no_procs)))) (proc (assign (step (97 ∷ []) here) (count_at (step (121 ∷ []) (step (97 ∷ []) here)))) no_procs)))))) (proc (assign (step (98 ∷ []) (step (99 ∷ []) here)) (constant (root.Int (pos 0)))) (proc (assign (step (99 ∷ []) here) (at_path (step (121 ∷ []) (step (110 ∷ []) here)))) (proc (assign (step (98 ∷ []) here) (sum (at_path (step (98 ∷ []) here)) (sum_part sums.Plus (constant (root.Int (pos 1))) no_sum_parts))) no_procs))))) nothing (request 2 (Some (step (120 ∷ []) here)) (Some (step (121 ∷ []) here)) nothing nothing no_branches)))) (proc (bind 0 (at_path (step (120 ∷ []) (step (115 ∷ 105 ∷ 100 ∷ []) here)))) no_procs)))) } ∷ record { name = (83 ∷ 49 ∷ []); execution = execution.Single; ports = (record { name = (73 ∷ 110 ∷ []); input = true; location = (108 ∷ 111 ∷ 99 ∷ 97 ∷ 108 ∷ 58 ∷ 47 ∷ 47 ∷ 108 ∷ 49 ∷ []); interfaces = (1 ∷ []) } ∷ []); sets = []; init = nothing; main = (sequence (proc (install (handler (key.Fault 11) (assign (step (121 ∷ []) (step (110 ∷ []) here)) (constant (root.Text (102 ∷ [])))) (handler (key.Fault 15) (comp 10) (handler (key.Fault 9) (assign (step (121 ∷ []) (step (110 ∷ []) here)) (constant (root.Text (104 ∷ [])))) (handler (key.Fault 10) nothing (handler (key.Fault 5) (sequence (proc (comp 14) (proc (solicit 1 0 (sum (constant (root.Text (116 ∷ 51 ∷ 48 ∷ []))) (sum_part sums.Plus (count_at (step (99 ∷ []) here)) no_sum_parts)) None no_handlers) no_procs))) (handler (key.Fault 1) (sequence (proc (comp 13) (proc (solicit 1 0 (sum (constant (root.Text (116 ∷ 51 ∷ 50 ∷ []))) (sum_part sums.Plus (cast casts.Text (at_path (step (98 ∷ []) here))) no_sum_parts)) None no_handlers) no_procs))) (handler (key.Fault 3) (comp 10) (handler (key.Fault 2) (solicit 1 0 (constant (root.Text (116 ∷ 51 ∷ 53 ∷ []))) None no_handlers) (handler (key.Fault 4) (solicit 1 0 (constant (root.Text (116 ∷ 51 ∷ 55 ∷ []))) None no_handlers) (handler (key.Fault 0) nothing (handler (key.Fault 7) (assign (step (121 ∷ []) (step (110 ∷ []) here)) (constant (root.Text (83 ∷ 116 ∷ 111 ∷ 114 ∷ 101 ∷ 84 ∷ 111 ∷ 111 ∷ 76 ∷ 97 ∷ 114 ∷ 103 ∷ 101 ∷ [])))) (handler (key.Fault 6) nothing no_handlers))))))))))))) (proc (choice (request 0 (Some (step_at (121 ∷ []) (constant (root.Int (pos 1))) (step_at (97 ∷ []) (constant (root.Int (pos 1))) here))) (Some (step (121 ∷ []) here)) (scope 13 nothing) nothing no_branches)) (proc (scope 10 (sequence (proc (install (handler (key.Fault 10) (sequence (proc (solicit 1 0 (constant (root.Text (116 ∷ 52 ∷ 54 ∷ []))) None no_handlers) (proc (assign (step (121 ∷ []) (step (98 ∷ []) here)) (sum (at_path (step (121 ∷ []) (step (98 ∷ []) here))) (sum_part sums.Plus (constant (root.Int (pos 1))) no_sum_parts))) no_procs))) no_handlers)) (proc (scope 14 (sequence (proc (install (handler key.This (sequence (proc (comp 14) (proc (assign (step (121 ∷ []) (step (99 ∷ []) here)) (sum (at_path (step (121 ∷ []) (step (99 ∷ []) here))) (sum_part sums.Plus (constant (root.Int (pos 1))) no_sum_parts))) (proc (throw 10 (sum (constant (root.Text (45 ∷ []))) (sum_part sums.Plus (at_path (step (121 ∷ []) here)) no_sum_parts))) no_procs)))) no_handlers)) (proc (scope 13 (sequence (proc (scope 12 (sequence (proc (install (handler key.This (assign (step (120 ∷ []) here) (constant (root.Int (pos 2)))) no_handlers)) (proc (install (handler (key.Fault 5) (solicit 1 0 (constant (root.Text (116 ∷ 55 ∷ 55 ∷ []))) None no_handlers) (handler (key.Fault 7) (sequence (proc (assign (step (121 ∷ []) here) (at_path (step (121 ∷ []) here))) (proc (undef (step_at (97 ∷ []) (constant (root.Int (pos 2))) here)) no_procs))) (handler key.This (solicit 1 0 (sum (constant (root.Text (116 ∷ 55 ∷ 56 ∷ []))) (sum_part sums.Plus (count_at (step (99 ∷ []) here)) no_sum_parts)) None no_handlers) no_handlers)))) no_procs)))) (proc (install (handler key.This (sequence (proc inner_handler (proc (solicit 1 0 (constant (root.Text (116 ∷ 55 ∷ 57 ∷ []))) None no_handlers) (proc (solicit 1 0 (sum (constant (root.Text (116 ∷ 56 ∷ 48 ∷ []))) (sum_part sums.Plus (count_at (step (120 ∷ []) here)) no_sum_parts)) None no_handlers) no_procs)))) no_handlers)) (proc (block (parallel (proc (throw 3 (constant root.Void)) (proc (sequence (proc (install (handler key.This inner_handler no_handlers)) (proc (install (handler (key.Fault 1) (sequence (proc (assign (step (121 ∷ []) (step (98 ∷ []) here)) (sum (at_path (step (121 ∷ []) (step (98 ∷ []) here))) (sum_part sums.Plus (constant (root.Int (pos 1))) no_sum_parts))) (proc inner_handler (proc (throw 5 (constant (root.Text (97 ∷ 98 ∷ [])))) no_procs)))) (handler (key.Fault 4) (comp 10) (handler key.This (sequence (proc (comp 14) (proc inner_handler no_procs))) no_handlers)))) no_procs))) (proc (sequence (proc (scope 10 (sequence (proc (install (handler key.This (sequence (proc (comp 10) (proc (solicit 1 0 (constant (root.Text (116 ∷ 56 ∷ 56 ∷ []))) None no_handlers) no_procs))) no_handlers)) (proc (solicit 1 0 (constant (root.Text (116 ∷ 56 ∷ 57 ∷ []))) None no_handlers) (proc (solicit 1 0 (sum (constant (root.Text (116 ∷ 57 ∷ 48 ∷ []))) (sum_part sums.Plus (count_at (step (98 ∷ []) here)) no_sum_parts)) None no_handlers) no_procs))))) (proc (solicit 1 0 (constant (root.Text (116 ∷ 57 ∷ 49 ∷ []))) None no_handlers) no_procs))) no_procs))))) no_procs))))) no_procs)))) (proc (sequence (proc (assign (step (105 ∷ 52 ∷ []) here) (constant (root.Int (pos 0)))) (proc (repeat (compared (at_path (step (105 ∷ 52 ∷ []) here)) compare.Less (constant (root.Int (pos 0)))) (sequence (proc (solicit 1 0 (sum (constant (root.Text (116 ∷ 57 ∷ 50 ∷ []))) (sum_part sums.Plus (count_at (step (120 ∷ []) here)) no_sum_parts)) None no_handlers) (proc (assign (step (105 ∷ 52 ∷ []) here) (sum (at_path (step (105 ∷ 52 ∷ []) here)) (sum_part sums.Plus (constant (root.Int (pos 1))) no_sum_parts))) no_procs)))) no_procs))) (proc (scope 12 (sequence (proc (install (handler (key.Fault 5) (sequence (proc (undef (step_at (98 ∷ []) (count_at (step (97 ∷ []) here)) here)) (proc (block (parallel (proc (choose (compared (count_at (step (120 ∷ []) (step (97 ∷ []) here))) compare.AtLeast (constant (root.Int (pos 0)))) (sequence (proc (comp 13) (proc nothing no_procs))) (assign (step (99 ∷ []) (step (110 ∷ []) (step (99 ∷ []) here))) (constant (root.Int (pos 3))))) (proc (sequence (proc (copy (step (120 ∷ []) here) (cast casts.Text (at_path (step (121 ∷ []) here)))) (proc (solicit 1 0 (constant (root.Text (116 ∷ 57 ∷ 53 ∷ []))) None no_handlers) no_procs))) no_procs)))) (proc (comp 12) no_procs)))) (handler key.This (parallel (proc (comp 14) (proc (assign (step (121 ∷ []) (step (99 ∷ []) here)) (sum (at_path (step (121 ∷ []) (step (99 ∷ []) here))) (sum_part sums.Plus (constant (root.Int (pos 1))) no_sum_parts))) no_procs))) no_handlers))) (proc (block (parallel (proc (install (handler (key.Fault 5) (sequence (proc (comp 13) (proc (assign (step (121 ∷ []) here) (constant (root.Bool true))) (proc (undef (step (120 ∷ []) here)) no_procs)))) no_handlers)) (proc (throw 5 (constant root.Void)) (proc (scope 12 (solicit 1 0 (sum (constant (root.Text (116 ∷ 57 ∷ 56 ∷ []))) (sum_part sums.Plus (count_at (step (99 ∷ []) here)) no_sum_parts)) None no_handlers)) (proc (scope 13 (scope 10 (sequence (proc (install (handler (key.Fault 15) (sequence (proc (comp 10) (proc (comp 13) no_procs))) (handler key.This inner_handler no_handlers))) (proc (scope 13 (sequence (proc (install (handler key.This (sequence (proc (comp 10) (proc (solicit 1 0 (constant (root.Text (116 ∷ 49 ∷ 48 ∷ 50 ∷ []))) None no_handlers) (proc (assign (step (105 ∷ 53 ∷ []) here) (constant (root.Int (pos 1)))) (proc (repeat (compared (at_path (step (105 ∷ 53 ∷ []) here)) compare.More (constant (root.Int (pos 0)))) (sequence (proc (assign (step (105 ∷ 53 ∷ []) here) (sum (at_path (step (105 ∷ 53 ∷ []) here)) (sum_part sums.Minus (constant (root.Int (pos 1))) no_sum_parts))) (proc (copy (step (121 ∷ []) here) (sum (constant (root.Text (107 ∷ []))) (sum_part sums.Plus (count_at (step (120 ∷ []) here)) no_sum_parts))) (proc (copy (step (98 ∷ []) (step (97 ∷ []) here)) (literal no_member_list)) no_procs))))) (proc (assign (step (120 ∷ []) (step (110 ∷ []) (step (98 ∷ []) here))) (at_path (step (99 ∷ []) here))) no_procs)))))) no_handlers)) (proc (assign (step (99 ∷ []) (step (97 ∷ []) here)) (at_path (step_at (98 ∷ []) (constant (root.Int (pos 1))) here))) no_procs)))) (proc (block (parallel (proc (sequence (proc (assign (step_at (99 ∷ []) (sum (constant (root.Int (pos 1))) (sum_part sums.Minus (constant (root.Int (pos 1))) no_sum_parts)) (step (98 ∷ []) (step (98 ∷ []) here))) (sum (constant (root.Text (107 ∷ []))) (sum_part sums.Plus (at_path (step (98 ∷ []) (step_at (98 ∷ []) (constant (root.Int (pos 1))) here))) no_sum_parts))) (proc (throw 15 (constant root.Void)) no_procs))) (proc (sequence (proc (scope 14 (sequence (proc (undef (step (120 ∷ []) here)) (proc (assign (step (97 ∷ []) (step (97 ∷ []) here)) (sum (constant (root.Text (45 ∷ []))) (sum_part sums.Plus (at_path (step (99 ∷ []) here)) no_sum_parts))) no_procs)))) (proc (assign (step (121 ∷ []) (step (115 ∷ []) here)) (sum (at_path (step (121 ∷ []) (step (115 ∷ []) here))) (sum_part sums.Plus (constant (root.Int (pos 1))) no_sum_parts))) no_procs))) (proc (sequence (proc (assign (step (120 ∷ []) (step (97 ∷ []) here)) (product (count_at (step (97 ∷ []) here)) (mul_part muls.Times (constant (root.Int (pos 1))) no_mul_parts))) (proc (undef (step (97 ∷ []) here)) no_procs))) no_procs))))) no_procs)))))) no_procs)))))) no_procs)))) (proc (throw 10 (constant root.Void)) no_procs))))))) (proc (assign (step (98 ∷ []) (step (110 ∷ []) here)) (constant (root.Int (pos 7)))) (proc (assign (step (99 ∷ []) here) (constant (root.Text (97 ∷ 98 ∷ [])))) (proc (choice (request 0 None (Some (step (121 ∷ []) here)) nothing (solicit 1 0 (constant (root.Text (116 ∷ 49 ∷ 48 ∷ 54 ∷ []))) None no_handlers) (request 1 (Some (step (120 ∷ []) here)) (Some (step_at (121 ∷ []) (constant (root.Int (pos 1))) here)) (solicit 1 0 (constant (root.Text (116 ∷ 49 ∷ 48 ∷ 55 ∷ []))) None no_handlers) nothing no_branches))) no_procs))))))) } ∷ []);
  names = ((73 ∷ 79 ∷ 69 ∷ 120 ∷ 99 ∷ 101 ∷ 112 ∷ 116 ∷ 105 ∷ 111 ∷ 110 ∷ []) ∷ (84 ∷ 121 ∷ 112 ∷ 101 ∷ 77 ∷ 105 ∷ 115 ∷ 109 ∷ 97 ∷ 116 ∷ 99 ∷ 104 ∷ []) ∷ (67 ∷ 111 ∷ 114 ∷ 114 ∷ 101 ∷ 108 ∷ 97 ∷ 116 ∷ 105 ∷ 111 ∷ 110 ∷ 69 ∷ 114 ∷ 114 ∷ 111 ∷ 114 ∷ []) ∷ (82 ∷ 101 ∷ 102 ∷ 117 ∷ 115 ∷ 101 ∷ 100 ∷ []) ∷ (85 ∷ 110 ∷ 100 ∷ 101 ∷ 99 ∷ 108 ∷ 97 ∷ 114 ∷ 101 ∷ 100 ∷ 70 ∷ 97 ∷ 117 ∷ 108 ∷ 116 ∷ []) ∷ (69 ∷ 120 ∷ 112 ∷ 114 ∷ 70 ∷ 97 ∷ 117 ∷ 108 ∷ 116 ∷ []) ∷ (72 ∷ 97 ∷ 110 ∷ 100 ∷ 108 ∷ 101 ∷ 114 ∷ 84 ∷ 111 ∷ 111 ∷ 76 ∷ 97 ∷ 114 ∷ 103 ∷ 101 ∷ []) ∷ (83 ∷ 116 ∷ 111 ∷ 114 ∷ 101 ∷ 84 ∷ 111 ∷ 111 ∷ 76 ∷ 97 ∷ 114 ∷ 103 ∷ 101 ∷ []) ∷ (109 ∷ 97 ∷ 105 ∷ 110 ∷ []) ∷ (104 ∷ []) ∷ (112 ∷ []) ∷ (102 ∷ []) ∷ (113 ∷ []) ∷ (114 ∷ []) ∷ (115 ∷ []) ∷ (103 ∷ []) ∷ []);
}

-- what its office works by
abbrev setting : Setting
setting = run_of program

-- its history
abbrev history : List Entry
history = (
    record { actor = 4096; act = act.Post 0 0 (record { service = 0; op = (111 ∷ 112 ∷ 48 ∷ 48 ∷ []); value = (node root.Void (field (115 ∷ 105 ∷ 100 ∷ []) (tree (node (root.Text (107 ∷ [])) no_fields) no_trees) no_fields)) }) (answer.Accepted 0) } ∷
    record { actor = 4096; act = act.Post 0 1 (record { service = 0; op = (111 ∷ 112 ∷ 48 ∷ 48 ∷ []); value = (node root.Void (field (115 ∷ 105 ∷ 100 ∷ []) (tree (node (root.Text (107 ∷ [])) no_fields) no_trees) no_fields)) }) (answer.Accepted 1) } ∷
    record { actor = 4096; act = act.Post 0 2 (record { service = 0; op = (111 ∷ 112 ∷ 48 ∷ 48 ∷ []); value = (node root.Void (field (115 ∷ 105 ∷ 100 ∷ []) (tree (node (root.Text (107 ∷ [])) no_fields) no_trees) no_fields)) }) (answer.Accepted 2) } ∷
    record { actor = 0; act = act.Adopt 1 } ∷
    record { actor = 1; act = act.Adopt 0 } ∷
    record { actor = 1; act = act.Take 0 } ∷
    record { actor = 1; act = act.Send 0 1 0 (node root.Void no_fields) true (at.At 3) } ∷
    record { actor = 2; act = act.Adopt 0 } ∷
    record { actor = 2; act = act.Take 1 } ∷
    record { actor = 2; act = act.Send 0 1 0 (node root.Void no_fields) true (at.At 4) } ∷
    record { actor = 3; act = act.Adopt 0 } ∷
    record { actor = 3; act = act.Take 2 } ∷
    record { actor = 3; act = act.Send 0 1 0 (node root.Void no_fields) true (at.At 5) } ∷
    record { actor = 0; act = act.Take 3 } ∷
    record { actor = 0; act = act.Reply 3 (outcome.Fault (84 ∷ 121 ∷ 112 ∷ 101 ∷ 77 ∷ 105 ∷ 115 ∷ 109 ∷ 97 ∷ 116 ∷ 99 ∷ 104 ∷ []) (node root.Void no_fields)) } ∷
    record { actor = 0; act = act.End } ∷
    record { actor = 1; act = act.Answer 0 (outcome.Fault (84 ∷ 121 ∷ 112 ∷ 101 ∷ 77 ∷ 105 ∷ 115 ∷ 109 ∷ 97 ∷ 116 ∷ 99 ∷ 104 ∷ []) (node root.Void no_fields)) } ∷
    record { actor = 1; act = act.Reply 0 (outcome.Fault (84 ∷ 121 ∷ 112 ∷ 101 ∷ 77 ∷ 105 ∷ 115 ∷ 109 ∷ 97 ∷ 116 ∷ 99 ∷ 104 ∷ []) (node root.Void no_fields)) } ∷
    record { actor = 1; act = act.End } ∷
    record { actor = 2; act = act.Answer 0 (outcome.Refused reason.SessionEnded) } ∷
    record { actor = 2; act = act.Reply 1 (outcome.Fault (82 ∷ 101 ∷ 102 ∷ 117 ∷ 115 ∷ 101 ∷ 100 ∷ []) (node (root.Long (negsuc 32004)) no_fields)) } ∷
    record { actor = 2; act = act.Send 1 2 0 (node (root.Text (116 ∷ 55 ∷ 48 ∷ [])) no_fields) true at.Out } ∷
    record { actor = 3; act = act.Answer 0 (outcome.Refused reason.SessionEnded) } ∷
    record { actor = 3; act = act.Reply 2 (outcome.Fault (82 ∷ 101 ∷ 102 ∷ 117 ∷ 115 ∷ 101 ∷ 100 ∷ []) (node (root.Long (negsuc 32004)) no_fields)) } ∷
    record { actor = 3; act = act.Send 1 2 0 (node (root.Text (116 ∷ 55 ∷ 48 ∷ [])) no_fields) true at.Out } ∷
    record { actor = 4096; act = act.Fetch 2 1 } ∷
    record { actor = 4096; act = act.Answered 2 1 (outcome.Value (node root.Void no_fields)) } ∷
    record { actor = 4096; act = act.Fetch 3 1 } ∷
    record { actor = 4096; act = act.Answered 3 1 (outcome.Value (node root.Void no_fields)) } ∷
    record { actor = 2; act = act.Answer 1 (outcome.Value (node root.Void no_fields)) } ∷
    record { actor = 2; act = act.End } ∷
    record { actor = 3; act = act.Answer 1 (outcome.Value (node root.Void no_fields)) } ∷
    record { actor = 3; act = act.End } ∷
    record { actor = 4096; act = act.Collect 0 (outcome.Fault (84 ∷ 121 ∷ 112 ∷ 101 ∷ 77 ∷ 105 ∷ 115 ∷ 109 ∷ 97 ∷ 116 ∷ 99 ∷ 104 ∷ []) (node root.Void no_fields)) } ∷
    record { actor = 4096; act = act.Collect 1 (outcome.Fault (82 ∷ 101 ∷ 102 ∷ 117 ∷ 115 ∷ 101 ∷ 100 ∷ []) (node (root.Long (negsuc 32004)) no_fields)) } ∷
    record { actor = 4096; act = act.Collect 2 (outcome.Fault (82 ∷ 101 ∷ 102 ∷ 117 ∷ 115 ∷ 101 ∷ 100 ∷ []) (node (root.Long (negsuc 32004)) no_fields)) } ∷
    record { actor = 4096; act = act.Post 1 0 (record { service = 0; op = (111 ∷ 112 ∷ 48 ∷ 49 ∷ []); value = (node (root.Int (negsuc 0)) no_fields) }) (answer.Accepted 6) } ∷
    record { actor = 4; act = act.Adopt 0 } ∷
    record { actor = 4; act = act.Take 6 } ∷
    record { actor = 4096; act = act.Post 2 0 (record { service = 0; op = (111 ∷ 112 ∷ 48 ∷ 48 ∷ []); value = (node root.Void (field (115 ∷ 105 ∷ 100 ∷ []) (tree (node (root.Text (107 ∷ 48 ∷ [])) no_fields) no_trees) no_fields)) }) (answer.Accepted 7) } ∷
    record { actor = 5; act = act.Adopt 0 } ∷
    record { actor = 5; act = act.Take 7 } ∷
    record { actor = 5; act = act.Send 0 1 0 (node root.Void no_fields) true (at.Refused reason.Correlation) } ∷
    record { actor = 5; act = act.Answer 0 (outcome.Refused reason.Correlation) } ∷
    record { actor = 5; act = act.Reply 7 (outcome.Fault (67 ∷ 111 ∷ 114 ∷ 114 ∷ 101 ∷ 108 ∷ 97 ∷ 116 ∷ 105 ∷ 111 ∷ 110 ∷ 69 ∷ 114 ∷ 114 ∷ 111 ∷ 114 ∷ []) (node root.Void no_fields)) } ∷
    record { actor = 5; act = act.End } ∷
    record { actor = 4096; act = act.Collect 7 (outcome.Fault (67 ∷ 111 ∷ 114 ∷ 114 ∷ 101 ∷ 108 ∷ 97 ∷ 116 ∷ 105 ∷ 111 ∷ 110 ∷ 69 ∷ 114 ∷ 114 ∷ 111 ∷ 114 ∷ []) (node root.Void no_fields)) } ∷
    record { actor = 4096; act = act.Post 3 0 (record { service = 0; op = (111 ∷ 112 ∷ 48 ∷ 50 ∷ []); value = (node root.Void no_fields) }) (answer.Accepted 8) } ∷
    record { actor = 4096; act = act.Post 3 1 (record { service = 0; op = (111 ∷ 112 ∷ 48 ∷ 48 ∷ []); value = (node root.Void (field (115 ∷ 105 ∷ 100 ∷ []) (tree (node (root.Text (107 ∷ 48 ∷ [])) no_fields) no_trees) no_fields)) }) (answer.Accepted 9) } ∷
    record { actor = 4096; act = act.Post 3 2 (record { service = 0; op = (111 ∷ 112 ∷ 48 ∷ 50 ∷ []); value = (node root.Void no_fields) }) (answer.Accepted 10) } ∷
    record { actor = 4096; act = act.Post 3 3 (record { service = 0; op = (111 ∷ 112 ∷ 48 ∷ 50 ∷ []); value = (node (root.Int (pos 3)) no_fields) }) (answer.Refused reason.NotConforming) } ∷
    record { actor = 6; act = act.Adopt 0 } ∷
    record { actor = 6; act = act.Take 8 } ∷
    record { actor = 6; act = act.Reply 8 (outcome.Value (node root.Void no_fields)) } ∷
    record { actor = 6; act = act.End } ∷
    record { actor = 7; act = act.Adopt 0 } ∷
    record { actor = 7; act = act.Take 9 } ∷
    record { actor = 7; act = act.Send 0 1 0 (node root.Void no_fields) true (at.Refused reason.Correlation) } ∷
    record { actor = 7; act = act.Answer 0 (outcome.Refused reason.Correlation) } ∷
    record { actor = 7; act = act.Reply 9 (outcome.Fault (67 ∷ 111 ∷ 114 ∷ 114 ∷ 101 ∷ 108 ∷ 97 ∷ 116 ∷ 105 ∷ 111 ∷ 110 ∷ 69 ∷ 114 ∷ 114 ∷ 111 ∷ 114 ∷ []) (node root.Void no_fields)) } ∷
    record { actor = 7; act = act.End } ∷
    record { actor = 8; act = act.Adopt 0 } ∷
    record { actor = 8; act = act.Take 10 } ∷
    record { actor = 8; act = act.Reply 10 (outcome.Value (node root.Void no_fields)) } ∷
    record { actor = 8; act = act.End } ∷
    record { actor = 4096; act = act.Collect 8 (outcome.Value (node root.Void no_fields)) } ∷
    record { actor = 4096; act = act.Collect 9 (outcome.Fault (67 ∷ 111 ∷ 114 ∷ 114 ∷ 101 ∷ 108 ∷ 97 ∷ 116 ∷ 105 ∷ 111 ∷ 110 ∷ 69 ∷ 114 ∷ 114 ∷ 111 ∷ 114 ∷ []) (node root.Void no_fields)) } ∷
    record { actor = 4096; act = act.Collect 10 (outcome.Value (node root.Void no_fields)) } ∷
    record { actor = 4096; act = act.Post 5 0 (record { service = 0; op = (111 ∷ 112 ∷ 48 ∷ 48 ∷ []); value = (node (root.Int (pos 1)) (field (33 ∷ []) (tree (node (root.Int (pos 5)) no_fields) no_trees) (field (97 ∷ []) (tree (node (root.Int (pos 2)) no_fields) no_trees) (field (122 ∷ []) (tree (node (root.Int (pos 1)) no_fields) no_trees) no_fields)))) }) (answer.Refused reason.NotConforming) } ∷
    record { actor = 4096; act = act.Post 6 0 (record { service = 0; op = (111 ∷ 112 ∷ 48 ∷ 48 ∷ []); value = (node root.Void (field (115 ∷ 105 ∷ 100 ∷ []) (tree (node (root.Text (107 ∷ 48 ∷ [])) no_fields) no_trees) no_fields)) }) (answer.Accepted 11) } ∷
    record { actor = 9; act = act.Adopt 0 } ∷
    record { actor = 9; act = act.Take 11 } ∷
    record { actor = 9; act = act.Send 0 1 0 (node root.Void no_fields) true (at.Refused reason.Correlation) } ∷
    record { actor = 9; act = act.Answer 0 (outcome.Refused reason.Correlation) } ∷
    record { actor = 9; act = act.Reply 11 (outcome.Fault (67 ∷ 111 ∷ 114 ∷ 114 ∷ 101 ∷ 108 ∷ 97 ∷ 116 ∷ 105 ∷ 111 ∷ 110 ∷ 69 ∷ 114 ∷ 114 ∷ 111 ∷ 114 ∷ []) (node root.Void no_fields)) } ∷
    record { actor = 9; act = act.End } ∷
    record { actor = 4096; act = act.Collect 11 (outcome.Fault (67 ∷ 111 ∷ 114 ∷ 114 ∷ 101 ∷ 108 ∷ 97 ∷ 116 ∷ 105 ∷ 111 ∷ 110 ∷ 69 ∷ 114 ∷ 114 ∷ 111 ∷ 114 ∷ []) (node root.Void no_fields)) } ∷
    record { actor = 4096; act = act.Post 7 0 (record { service = 0; op = (111 ∷ 112 ∷ 48 ∷ 50 ∷ []); value = (node root.Void no_fields) }) (answer.Accepted 12) } ∷
    record { actor = 10; act = act.Adopt 0 } ∷
    record { actor = 10; act = act.Take 12 } ∷
    record { actor = 10; act = act.Reply 12 (outcome.Value (node root.Void no_fields)) } ∷
    record { actor = 10; act = act.End } ∷
    record { actor = 4096; act = act.Collect 12 (outcome.Value (node root.Void no_fields)) } ∷
    record { actor = 4096; act = act.Close } ∷
    record { actor = 4096; act = act.Stop } ∷
    record { actor = 4096; act = act.Collect 6 (outcome.Refused reason.Stopped) } ∷ [])

pub legal : IsLegal setting history
legal = (record { allowed = refl; reply = refl }, (record { allowed = refl; reply = refl }, (record { allowed = refl; reply = refl }, (record { allowed = refl; reply = refl }, (record { allowed = refl; reply = refl }, (record { allowed = refl; reply = refl }, (record { allowed = refl; reply = refl }, (record { allowed = refl; reply = refl }, (record { allowed = refl; reply = refl }, (record { allowed = refl; reply = refl }, (record { allowed = refl; reply = refl }, (record { allowed = refl; reply = refl }, (record { allowed = refl; reply = refl }, (record { allowed = refl; reply = refl }, (record { allowed = refl; reply = refl }, (record { allowed = refl; reply = refl }, (record { allowed = refl; reply = refl }, (record { allowed = refl; reply = refl }, (record { allowed = refl; reply = refl }, (record { allowed = refl; reply = refl }, (record { allowed = refl; reply = refl }, (record { allowed = refl; reply = refl }, (record { allowed = refl; reply = refl }, (record { allowed = refl; reply = refl }, (record { allowed = refl; reply = refl }, (record { allowed = refl; reply = refl }, (record { allowed = refl; reply = refl }, (record { allowed = refl; reply = refl }, (record { allowed = refl; reply = refl }, (record { allowed = refl; reply = refl }, (record { allowed = refl; reply = refl }, (record { allowed = refl; reply = refl }, (record { allowed = refl; reply = refl }, (record { allowed = refl; reply = refl }, (record { allowed = refl; reply = refl }, (record { allowed = refl; reply = refl }, (record { allowed = refl; reply = refl }, (record { allowed = refl; reply = refl }, (record { allowed = refl; reply = refl }, (record { allowed = refl; reply = refl }, (record { allowed = refl; reply = refl }, (record { allowed = refl; reply = refl }, (record { allowed = refl; reply = refl }, (record { allowed = refl; reply = refl }, (record { allowed = refl; reply = refl }, (record { allowed = refl; reply = refl }, (record { allowed = refl; reply = refl }, (record { allowed = refl; reply = refl }, (record { allowed = refl; reply = refl }, (record { allowed = refl; reply = refl }, (record { allowed = refl; reply = refl }, (record { allowed = refl; reply = refl }, (record { allowed = refl; reply = refl }, (record { allowed = refl; reply = refl }, (record { allowed = refl; reply = refl }, (record { allowed = refl; reply = refl }, (record { allowed = refl; reply = refl }, (record { allowed = refl; reply = refl }, (record { allowed = refl; reply = refl }, (record { allowed = refl; reply = refl }, (record { allowed = refl; reply = refl }, (record { allowed = refl; reply = refl }, (record { allowed = refl; reply = refl }, (record { allowed = refl; reply = refl }, (record { allowed = refl; reply = refl }, (record { allowed = refl; reply = refl }, (record { allowed = refl; reply = refl }, (record { allowed = refl; reply = refl }, (record { allowed = refl; reply = refl }, (record { allowed = refl; reply = refl }, (record { allowed = refl; reply = refl }, (record { allowed = refl; reply = refl }, (record { allowed = refl; reply = refl }, (record { allowed = refl; reply = refl }, (record { allowed = refl; reply = refl }, (record { allowed = refl; reply = refl }, (record { allowed = refl; reply = refl }, (record { allowed = refl; reply = refl }, (record { allowed = refl; reply = refl }, (record { allowed = refl; reply = refl }, (record { allowed = refl; reply = refl }, (record { allowed = refl; reply = refl }, (record { allowed = refl; reply = refl }, (record { allowed = refl; reply = refl }, (record { allowed = refl; reply = refl }, (record { allowed = refl; reply = refl }, tt))))))))))))))))))))))))))))))))))))))))))))))))))))))))))))))))))))))))))))))))))))))

pub spoilt_taken_by_another_session : legal_entries setting (with_at 5 (record { actor = 0; act = act.Take 0 } ∷ []) history) ≡ 5
spoilt_taken_by_another_session = refl

pub spoilt_call_number_skipped : legal_entries setting (with_at 6 (record { actor = 1; act = act.Send 1 1 0 (node root.Void no_fields) true (at.At 3) } ∷ []) history) ≡ 6
spoilt_call_number_skipped = refl

pub spoilt_reply_by_another_session : legal_entries setting (with_at 14 (record { actor = 1; act = act.Reply 3 (outcome.Fault (84 ∷ 121 ∷ 112 ∷ 101 ∷ 77 ∷ 105 ∷ 115 ∷ 109 ∷ 97 ∷ 116 ∷ 99 ∷ 104 ∷ []) (node root.Void no_fields)) } ∷ []) history) ≡ 14
spoilt_reply_by_another_session = refl

pub spoilt_fetched_twice : legal_entries setting (with_at 25 (record { actor = 4096; act = act.Fetch 2 1 } ∷ record { actor = 4096; act = act.Fetch 2 1 } ∷ []) history) ≡ 26
spoilt_fetched_twice = refl

pub spoilt_received_twice : legal_entries setting (with_at 26 (record { actor = 4096; act = act.Answered 2 1 (outcome.Value (node root.Void no_fields)) } ∷ record { actor = 4096; act = act.Answered 2 1 (outcome.Value (node root.Void no_fields)) } ∷ []) history) ≡ 27
spoilt_received_twice = refl

-- the events of session 0
abbrev events_0 : List Event
events_0 = (
    event 0 kind.Install 0 0 0 ∷
    event 0 kind.In 3 0 0 ∷
    event 0 kind.EndScope 0 13 0 ∷
    event 0 kind.Reply 3 0 0 ∷
    event 0 kind.Install 0 0 0 ∷
    event 0 kind.Install 0 0 0 ∷
    event 0 kind.Install 0 0 0 ∷
    event 0 kind.Install 0 0 0 ∷
    event 0 kind.EndScope 0 12 0 ∷
    event 0 kind.Install 0 0 0 ∷
    event 2 kind.Install 0 0 0 ∷
    event 2 kind.Install 0 0 0 ∷
    event 1 kind.Raise 0 8 3 ∷
    event 3 kind.Handle 1 10 0 ∷
    event 0 kind.Handle 0 8 3 ∷
    event 0 kind.Compensate 0 10 0 ∷
    event 0 kind.Finish 0 0 0 ∷ [])

-- the events of session 1
abbrev events_1 : List Event
events_1 = (
    event 0 kind.Install 0 0 0 ∷
    event 0 kind.In 0 0 0 ∷
    event 0 kind.Solicit 0 0 0 ∷
    event 0 kind.Answer 0 0 0 ∷
    event 0 kind.Raise 0 8 1 ∷
    event 0 kind.Reply 0 0 0 ∷
    event 0 kind.Handle 0 8 1 ∷
    event 0 kind.Local 0 0 0 ∷
    event 0 kind.Finish 0 0 0 ∷ [])

-- the events of session 2
abbrev events_2 : List Event
events_2 = (
    event 0 kind.Install 0 0 0 ∷
    event 0 kind.In 1 0 0 ∷
    event 0 kind.Solicit 0 0 0 ∷
    event 0 kind.Answer 0 0 0 ∷
    event 0 kind.Raise 0 8 3 ∷
    event 0 kind.Reply 1 0 0 ∷
    event 0 kind.Handle 0 8 3 ∷
    event 0 kind.Solicit 1 0 0 ∷
    event 0 kind.Answer 1 0 0 ∷
    event 0 kind.Finish 0 0 0 ∷ [])

-- the events of session 3
abbrev events_3 : List Event
events_3 = (
    event 0 kind.Install 0 0 0 ∷
    event 0 kind.In 2 0 0 ∷
    event 0 kind.Solicit 0 0 0 ∷
    event 0 kind.Answer 0 0 0 ∷
    event 0 kind.Raise 0 8 3 ∷
    event 0 kind.Reply 2 0 0 ∷
    event 0 kind.Handle 0 8 3 ∷
    event 0 kind.Solicit 1 0 0 ∷
    event 0 kind.Answer 1 0 0 ∷
    event 0 kind.Finish 0 0 0 ∷ [])

-- the events of session 4
abbrev events_4 : List Event
events_4 = (
    event 0 kind.Install 0 0 0 ∷
    event 0 kind.In 6 1 0 ∷
    event 0 kind.Local 0 0 0 ∷ [])

-- the events of session 5
abbrev events_5 : List Event
events_5 = (
    event 0 kind.Install 0 0 0 ∷
    event 0 kind.In 7 0 0 ∷
    event 0 kind.Solicit 0 0 0 ∷
    event 0 kind.Answer 0 0 0 ∷
    event 0 kind.Raise 0 8 2 ∷
    event 0 kind.Reply 7 0 0 ∷
    event 0 kind.Handle 0 8 2 ∷
    event 0 kind.Finish 0 0 0 ∷ [])

-- the events of session 6
abbrev events_6 : List Event
events_6 = (
    event 0 kind.Install 0 0 0 ∷
    event 0 kind.In 8 2 0 ∷
    event 0 kind.Reply 8 0 0 ∷
    event 0 kind.Raise 2 8 5 ∷
    event 0 kind.Finish 0 0 0 ∷ [])

-- the events of session 7
abbrev events_7 : List Event
events_7 = (
    event 0 kind.Install 0 0 0 ∷
    event 0 kind.In 9 0 0 ∷
    event 0 kind.Solicit 0 0 0 ∷
    event 0 kind.Answer 0 0 0 ∷
    event 0 kind.Raise 0 8 2 ∷
    event 0 kind.Reply 9 0 0 ∷
    event 0 kind.Handle 0 8 2 ∷
    event 0 kind.Finish 0 0 0 ∷ [])

-- the events of session 8
abbrev events_8 : List Event
events_8 = (
    event 0 kind.Install 0 0 0 ∷
    event 0 kind.In 10 2 0 ∷
    event 0 kind.Reply 10 0 0 ∷
    event 0 kind.Raise 2 8 5 ∷
    event 0 kind.Finish 0 0 0 ∷ [])

-- the events of session 9
abbrev events_9 : List Event
events_9 = (
    event 0 kind.Install 0 0 0 ∷
    event 0 kind.In 11 0 0 ∷
    event 0 kind.Solicit 0 0 0 ∷
    event 0 kind.Answer 0 0 0 ∷
    event 0 kind.Raise 0 8 2 ∷
    event 0 kind.Reply 11 0 0 ∷
    event 0 kind.Handle 0 8 2 ∷
    event 0 kind.Finish 0 0 0 ∷ [])

-- the events of session 10
abbrev events_10 : List Event
events_10 = (
    event 0 kind.Install 0 0 0 ∷
    event 0 kind.In 12 2 0 ∷
    event 0 kind.Reply 12 0 0 ∷
    event 0 kind.Raise 2 8 5 ∷
    event 0 kind.Finish 0 0 0 ∷ [])

-- the events of each session
abbrev sessions : List (List Event)
sessions = events_0 ∷ events_1 ∷ events_2 ∷ events_3 ∷ events_4 ∷ events_5 ∷ events_6 ∷ events_7 ∷ events_8 ∷ events_9 ∷ events_10 ∷ []

pub session_0 : IsSession setting history 0 events_0
unfolding digits
session_0 = is_session setting history 0 1 events_0 refl refl (refl, ((refl, refl), (tt, tt)))

pub session_1 : IsSession setting history 1 events_1
unfolding digits
session_1 = is_session setting history 1 0 events_1 refl refl (refl, ((refl, refl, refl, refl, refl), (refl, ((refl, refl), (tt, tt)))))

pub session_2 : IsSession setting history 2 events_2
unfolding digits
session_2 = is_session setting history 2 0 events_2 refl refl (refl, ((refl, refl, refl, refl, refl), (refl, ((refl, refl), ((refl, refl, refl, refl, refl), (refl, (tt, tt)))))))

pub session_3 : IsSession setting history 3 events_3
unfolding digits
session_3 = is_session setting history 3 0 events_3 refl refl (refl, ((refl, refl, refl, refl, refl), (refl, ((refl, refl), ((refl, refl, refl, refl, refl), (refl, (tt, tt)))))))

pub session_4 : IsSession setting history 4 events_4
unfolding digits
session_4 = is_session setting history 4 0 events_4 refl refl (refl, tt)

pub session_5 : IsSession setting history 5 events_5
unfolding digits
session_5 = is_session setting history 5 0 events_5 refl refl (refl, ((refl, refl, refl, refl, refl), (refl, ((refl, refl), (tt, tt)))))

pub session_6 : IsSession setting history 6 events_6
unfolding digits
session_6 = is_session setting history 6 0 events_6 refl refl (refl, ((refl, refl), (tt, tt)))

pub session_7 : IsSession setting history 7 events_7
unfolding digits
session_7 = is_session setting history 7 0 events_7 refl refl (refl, ((refl, refl, refl, refl, refl), (refl, ((refl, refl), (tt, tt)))))

pub session_8 : IsSession setting history 8 events_8
unfolding digits
session_8 = is_session setting history 8 0 events_8 refl refl (refl, ((refl, refl), (tt, tt)))

pub session_9 : IsSession setting history 9 events_9
unfolding digits
session_9 = is_session setting history 9 0 events_9 refl refl (refl, ((refl, refl, refl, refl, refl), (refl, ((refl, refl), (tt, tt)))))

pub session_10 : IsSession setting history 10 events_10
unfolding digits
session_10 = is_session setting history 10 0 events_10 refl refl (refl, ((refl, refl), (tt, tt)))

pub quiet : is_quiet setting 10000 (before_stop history) sessions ≡ true
unfolding digits
quiet = refl

pub still : is_still setting 10000 history sessions ≡ true
unfolding digits
still = refl

pub collected : are_collected setting history ≡ true
unfolding digits
collected = refl

pub together : stand_together history ≡ true
together = refl

pub run : (r : Record) → r.history.entries.items ≡ history → r.sessions ≡ sessions
    → IsRun setting 10000 alone false r
run = is_run setting 10000 history sessions
    (record { legal = legal; stopped = refl; actors = refl; all = refl; each = (session_0, (session_1, (session_2, (session_3, (session_4, (session_5, (session_6, (session_7, (session_8, (session_9, (session_10, tt))))))))))); within = refl; quiet = quiet; closed = refl; posted = together; still = still; collected = collected })

pub spoilt_run_without_its_stop : (r : Record) → r.history.entries.items ≡ (with_at 84 [] history) → IsRun setting 10000 alone false r → ⊥
spoilt_run_without_its_stop r has = unstopped setting 10000 false (with_at 84 [] history) r has refl

pub spoilt_run_that_is_not_closed : (r : Record) → r.history.entries.items ≡ (with_at 83 [] history) → IsRun setting 10000 alone false r → ⊥
spoilt_run_that_is_not_closed r has = unclosed setting 10000 false (with_at 83 [] history) r has refl

pub spoilt_run_stopped_by_another : (r : Record) → r.history.entries.items ≡ (with_at 84 (record { actor = 4097; act = act.Stop } ∷ []) history) → IsRun setting 10000 alone false r → ⊥
spoilt_run_stopped_by_another r has = foreign setting 10000 false (with_at 84 (record { actor = 4097; act = act.Stop } ∷ []) history) r has refl

pub spoilt_run_that_lacks_a_session : (r : Record) → r.history.entries.items ≡ history → r.sessions ≡ (events_1 ∷ events_2 ∷ events_3 ∷ events_4 ∷ events_5 ∷ events_6 ∷ events_7 ∷ events_8 ∷ events_9 ∷ events_10 ∷ [])
    → IsRun setting 10000 alone false r → ⊥
spoilt_run_that_lacks_a_session r has events = missing setting 10000 false history r has (events_1 ∷ events_2 ∷ events_3 ∷ events_4 ∷ events_5 ∷ events_6 ∷ events_7 ∷ events_8 ∷ events_9 ∷ events_10 ∷ []) events refl

pub spoilt_run_over_its_budget : (r : Record) → r.history.entries.items ≡ history → r.sessions ≡ sessions
    → IsRun setting 16 alone false r → ⊥
spoilt_run_over_its_budget r has events =
    too_many setting 16 false history r has sessions events 0 events_0 refl refl

pub spoilt_event_cut_at_the_end : agrees setting history 0 (
    event 0 kind.Install 0 0 0 ∷
    event 0 kind.In 3 0 0 ∷
    event 0 kind.EndScope 0 13 0 ∷
    event 0 kind.Reply 3 0 0 ∷
    event 0 kind.Install 0 0 0 ∷
    event 0 kind.Install 0 0 0 ∷
    event 0 kind.Install 0 0 0 ∷
    event 0 kind.Install 0 0 0 ∷
    event 0 kind.EndScope 0 12 0 ∷
    event 0 kind.Install 0 0 0 ∷
    event 2 kind.Install 0 0 0 ∷
    event 2 kind.Install 0 0 0 ∷
    event 1 kind.Raise 0 8 3 ∷
    event 3 kind.Handle 1 10 0 ∷
    event 0 kind.Handle 0 8 3 ∷
    event 0 kind.Compensate 0 10 0 ∷ []) ≡ false
unfolding digits
spoilt_event_cut_at_the_end = refl

pub spoilt_events_exchanged : agrees setting history 0 (
    event 0 kind.In 3 0 0 ∷
    event 0 kind.Install 0 0 0 ∷
    event 0 kind.EndScope 0 13 0 ∷
    event 0 kind.Reply 3 0 0 ∷
    event 0 kind.Install 0 0 0 ∷
    event 0 kind.Install 0 0 0 ∷
    event 0 kind.Install 0 0 0 ∷
    event 0 kind.Install 0 0 0 ∷
    event 0 kind.EndScope 0 12 0 ∷
    event 0 kind.Install 0 0 0 ∷
    event 2 kind.Install 0 0 0 ∷
    event 2 kind.Install 0 0 0 ∷
    event 1 kind.Raise 0 8 3 ∷
    event 3 kind.Handle 1 10 0 ∷
    event 0 kind.Handle 0 8 3 ∷
    event 0 kind.Compensate 0 10 0 ∷
    event 0 kind.Finish 0 0 0 ∷ []) ≡ false
unfolding digits
spoilt_events_exchanged = refl

pub spoilt_left_in_the_middle : is_quiet setting 10000 (take 14 history) (sessions_at setting (take 14 history) 0 sessions) ≡ false
unfolding digits
spoilt_left_in_the_middle = refl

pub spoilt_call_left_out : agrees setting (with_at 14 [] history) 0 events_0 ≡ false
unfolding digits
spoilt_call_left_out = refl

pub spoilt_posted_too_soon : is_still setting 10000 (with_at 14 (record { actor = 4096; act = act.Post 1 0 (record { service = 0; op = (111 ∷ 112 ∷ 48 ∷ 49 ∷ []); value = (node (root.Int (negsuc 0)) no_fields) }) (answer.Accepted 6) } ∷ record { actor = 0; act = act.Reply 3 (outcome.Fault (84 ∷ 121 ∷ 112 ∷ 101 ∷ 77 ∷ 105 ∷ 115 ∷ 109 ∷ 97 ∷ 116 ∷ 99 ∷ 104 ∷ []) (node root.Void no_fields)) } ∷ []) (with_at 36 [] history)) sessions ≡ false
unfolding digits
spoilt_posted_too_soon = refl

pub spoilt_posted_behind_the_start : is_still setting 10000 (record { actor = 0; act = act.Adopt 1 } ∷ with_at 3 [] history) sessions ≡ false
unfolding digits
spoilt_posted_behind_the_start = refl

pub spoilt_post_apart : stand_together (with_at 0 (record { actor = 4096; act = act.Post 0 0 (record { service = 0; op = (111 ∷ 112 ∷ 48 ∷ 48 ∷ []); value = (node root.Void (field (115 ∷ 105 ∷ 100 ∷ []) (tree (node (root.Text (107 ∷ [])) no_fields) no_trees) no_fields)) }) (answer.Accepted 0) } ∷ record { actor = 0; act = act.End } ∷ []) history) ≡ false
unfolding digits
spoilt_post_apart = refl

-- what came in
abbrev postings : List Posting
postings = (
    record { calls = (call.Post (record { service = 0; op = (111 ∷ 112 ∷ 48 ∷ 48 ∷ []); value = (node root.Void (field (115 ∷ 105 ∷ 100 ∷ []) (tree (node (root.Text (107 ∷ [])) no_fields) no_trees) no_fields)) }) ∷ call.Post (record { service = 0; op = (111 ∷ 112 ∷ 48 ∷ 48 ∷ []); value = (node root.Void (field (115 ∷ 105 ∷ 100 ∷ []) (tree (node (root.Text (107 ∷ [])) no_fields) no_trees) no_fields)) }) ∷ call.Post (record { service = 0; op = (111 ∷ 112 ∷ 48 ∷ 48 ∷ []); value = (node root.Void (field (115 ∷ 105 ∷ 100 ∷ []) (tree (node (root.Text (107 ∷ [])) no_fields) no_trees) no_fields)) }) ∷ []) } ∷
    record { calls = (call.Post (record { service = 0; op = (111 ∷ 112 ∷ 48 ∷ 49 ∷ []); value = (node (root.Int (negsuc 0)) no_fields) }) ∷ []) } ∷
    record { calls = (call.Post (record { service = 0; op = (111 ∷ 112 ∷ 48 ∷ 48 ∷ []); value = (node root.Void (field (115 ∷ 105 ∷ 100 ∷ []) (tree (node (root.Text (107 ∷ 48 ∷ [])) no_fields) no_trees) no_fields)) }) ∷ []) } ∷
    record { calls = (call.Post (record { service = 0; op = (111 ∷ 112 ∷ 48 ∷ 50 ∷ []); value = (node root.Void no_fields) }) ∷ call.Post (record { service = 0; op = (111 ∷ 112 ∷ 48 ∷ 48 ∷ []); value = (node root.Void (field (115 ∷ 105 ∷ 100 ∷ []) (tree (node (root.Text (107 ∷ 48 ∷ [])) no_fields) no_trees) no_fields)) }) ∷ call.Post (record { service = 0; op = (111 ∷ 112 ∷ 48 ∷ 50 ∷ []); value = (node root.Void no_fields) }) ∷ call.Post (record { service = 0; op = (111 ∷ 112 ∷ 48 ∷ 50 ∷ []); value = (node (root.Int (pos 3)) no_fields) }) ∷ []) } ∷
    record { calls = [] } ∷
    record { calls = (call.Post (record { service = 0; op = (111 ∷ 112 ∷ 48 ∷ 48 ∷ []); value = (node (root.Int (pos 1)) (field (33 ∷ []) (tree (node (root.Int (pos 5)) no_fields) no_trees) (field (97 ∷ []) (tree (node (root.Int (pos 2)) no_fields) no_trees) (field (122 ∷ []) (tree (node (root.Int (pos 1)) no_fields) no_trees) no_fields)))) }) ∷ []) } ∷
    record { calls = (call.Post (record { service = 0; op = (111 ∷ 112 ∷ 48 ∷ 48 ∷ []); value = (node root.Void (field (115 ∷ 105 ∷ 100 ∷ []) (tree (node (root.Text (107 ∷ 48 ∷ [])) no_fields) no_trees) no_fields)) }) ∷ []) } ∷
    record { calls = (call.Post (record { service = 0; op = (111 ∷ 112 ∷ 48 ∷ 50 ∷ []); value = (node root.Void no_fields) }) ∷ []) } ∷ [])

pub posted : posts_by first_worker history ≡ posts_of 0 postings
posted = refl

pub tells : told_from setting (past_of setting history) 0 postings ≡ (
    Some ((outcome.Fault (84 ∷ 121 ∷ 112 ∷ 101 ∷ 77 ∷ 105 ∷ 115 ∷ 109 ∷ 97 ∷ 116 ∷ 99 ∷ 104 ∷ []) (node root.Void no_fields)) ∷ (outcome.Fault (82 ∷ 101 ∷ 102 ∷ 117 ∷ 115 ∷ 101 ∷ 100 ∷ []) (node (root.Long (negsuc 32004)) no_fields)) ∷ (outcome.Fault (82 ∷ 101 ∷ 102 ∷ 117 ∷ 115 ∷ 101 ∷ 100 ∷ []) (node (root.Long (negsuc 32004)) no_fields)) ∷ []) ∷
    Some ((outcome.Refused reason.Stopped) ∷ []) ∷
    Some ((outcome.Fault (67 ∷ 111 ∷ 114 ∷ 114 ∷ 101 ∷ 108 ∷ 97 ∷ 116 ∷ 105 ∷ 111 ∷ 110 ∷ 69 ∷ 114 ∷ 114 ∷ 111 ∷ 114 ∷ []) (node root.Void no_fields)) ∷ []) ∷
    Some ((outcome.Value (node root.Void no_fields)) ∷ (outcome.Fault (67 ∷ 111 ∷ 114 ∷ 114 ∷ 101 ∷ 108 ∷ 97 ∷ 116 ∷ 105 ∷ 111 ∷ 110 ∷ 69 ∷ 114 ∷ 114 ∷ 111 ∷ 114 ∷ []) (node root.Void no_fields)) ∷ (outcome.Value (node root.Void no_fields)) ∷ (outcome.Refused reason.NotConforming) ∷ []) ∷
    Some [] ∷
    Some ((outcome.Refused reason.NotConforming) ∷ []) ∷
    Some ((outcome.Fault (67 ∷ 111 ∷ 114 ∷ 114 ∷ 101 ∷ 108 ∷ 97 ∷ 116 ∷ 105 ∷ 111 ∷ 110 ∷ 69 ∷ 114 ∷ 114 ∷ 111 ∷ 114 ∷ []) (node root.Void no_fields)) ∷ []) ∷
    Some ((outcome.Value (node root.Void no_fields)) ∷ []) ∷ [])
tells = refl

pub order : order_alone setting history first_worker 8 ≡ (0 ∷ 2 ∷ 3 ∷ 4 ∷ 5 ∷ 6 ∷ 7 ∷ 1 ∷ [])
order = refl

pub noted : notes setting history ≡ (116 ∷ 55 ∷ 48 ∷ 10 ∷ 116 ∷ 55 ∷ 48 ∷ 10 ∷ [])
unfolding digits
noted = refl

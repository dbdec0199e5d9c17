-- A recorded run.
use Rattle.std.specs.Prelude.{◌≡◌, ℕ, pos, negsuc, Bool, true, false, List, [], ◌∷◌, take, Option, None, Some}
use Rattle.std.proofs.Common.{refl}
use Rattle.std.specs.Fmt.{digits}
use Rattle.jolie_trees.specs.declared.root.Root.TheVariants as root
use Rattle.jolie_trees.specs.Data.{Tree, node, Fields, no_fields, field, Trees, no_trees, tree}
use Rattle.behaviour_tree.specs.declared.types.RootKind.TheVariants as kinds
use Rattle.behaviour_tree.specs.declared.expr.CompareOp.TheVariants as compare
use Rattle.behaviour_tree.specs.declared.expr.SumOp.TheVariants as sums
use Rattle.behaviour_tree.specs.declared.expr.MulOp.TheVariants as muls
use Rattle.behaviour_tree.specs.declared.expr.CastKind.TheVariants as casts
use Rattle.behaviour_tree.specs.declared.behaviour.HandlerKey.TheVariants as key
use Rattle.behaviour_tree.specs.declared.program.Execution.TheVariants as execution
use Rattle.behaviour_tree.specs.declared.words.Event.{Event}
use Rattle.behaviour_tree.specs.declared.words.Kind.TheVariants as kind
use Rattle.behaviour_tree.specs.declared.words.Outcome.TheVariants as outcome
use Rattle.behaviour_tree.specs.declared.words.Reason.TheVariants as reason
use Rattle.behaviour_tree.specs.Data.{plain, named, undefined, no_type_fields, type_field, here, step, step_at, constant, at_path, count_at, defined_at, literal, any_of, all_of, compared, sum, product, minus, negation, cast, no_exps, exp, no_sum_parts, sum_part, no_mul_parts, mul_part, no_member_list, member_of, Proc, nothing, assign, undef, copy, bind, sequence, parallel, choose, repeat, choice, notify, solicit, install, throw, comp, inner_handler, scope, block, no_procs, proc, no_branches, one_way, request, no_handlers, handler, ProgramParts}
use Rattle.correlation.specs.declared.bind_reply.BindReply.TheVariants as binding
use Rattle.office_core.specs.declared.post.PostReply.TheVariants as answer
use Rattle.office_core.specs.declared.history.Placed.TheVariants as at
use Rattle.office_core.specs.declared.history.Act.TheVariants as act
use Rattle.office_core.specs.declared.history.Entry.{Entry}
use Rattle.office_core.specs.declared.front.CallIn.TheVariants as call
use Rattle.office_core.specs.declared.front.Posting.{Posting}
use Rattle.office_core.specs.Limits.{Setting, run_of, first_worker}
use Rattle.office_core.specs.Accepted.{past_of}
use Rattle.office_core.specs.Legal.{IsLegal}
use Rattle.run_record.specs.Agrees.{IsSession}
use Rattle.run_record.specs.Quiet.{before_stop, sessions_at}
use Rattle.run_record.specs.Answered.{stand_together}
use Rattle.run_record.specs.Postings.{posts_by, posts_of}
use Rattle.run_record.specs.Order.{order_alone}
use Rattle.run_record.specs.Outside.{notes}
use Rattle.test_trials.specs.Counts.{legal_entries, with_at}
use Rattle.test_trials.specs.Fronts.{told_from}
use Rattle.test_trials.specs.Sessions.{event, agrees}
use Rattle.test_trials.specs.Quiet.{is_quiet, is_still}
use Rattle.test_trials.specs.Collected.{are_collected}
use Rattle.test_trials.proofs.Told.{is_session}
use Rattle.std.specs.Prelude.{◌++◌}
use Rattle.run_record.specs.declared.record.Record.{Record}
use Rattle.run_record.specs.Run.{alone, workers, IsRun, IsSpent}
use Rattle.test_trials.proofs.Runs.{is_run, unstopped, unclosed, foreign, missing, too_many, restless}
use Rattle.run_record.specs.Order.{IsOrder}
use Rattle.test_trials.proofs.Workers.{is_run_of_workers, stranger, posts_apart, second_first, not_as_posted, not_without_one, not_twice}
use Rattle.test_trials.specs.Quiet.{can_act}
use Rattle.test_trials.proofs.Spends.{spends, is_spent, not_spent}

-- the program
abbrev program : ProgramParts
program = record {
  types = ((plain kinds.Long (type_field (110 ∷ []) 1 (Some 1) (plain kinds.Text no_type_fields) (type_field (99 ∷ []) 0 None (plain kinds.Long no_type_fields) no_type_fields))) ∷ (plain kinds.Text no_type_fields) ∷ (plain kinds.Void (type_field (115 ∷ 105 ∷ 100 ∷ []) 1 (Some 1) (plain kinds.Long no_type_fields) (type_field (110 ∷ 117 ∷ 109 ∷ []) 1 (Some 1) (plain kinds.Int no_type_fields) no_type_fields))) ∷ (plain kinds.Void (type_field (115 ∷ 105 ∷ 100 ∷ []) 1 (Some 1) (plain kinds.Long no_type_fields) (type_field (110 ∷ 117 ∷ 109 ∷ []) 1 (Some 1) (plain kinds.Int no_type_fields) (type_field (98 ∷ []) 0 (Some 1) undefined no_type_fields)))) ∷ (plain kinds.Void (type_field (115 ∷ 105 ∷ 100 ∷ []) 1 (Some 1) (plain kinds.Long no_type_fields) no_type_fields)) ∷ (plain kinds.Void (type_field (115 ∷ 105 ∷ 100 ∷ []) 1 (Some 1) (plain kinds.Long no_type_fields) no_type_fields)) ∷ []);
  interfaces = (record { name = (73 ∷ 83 ∷ 48 ∷ []); operations = (record { name = (111 ∷ 112 ∷ 48 ∷ 48 ∷ []); request = undefined; response = (Some (plain kinds.Int no_type_fields)); throws = (record { fault = 3; ty = undefined } ∷ []) } ∷ record { name = (111 ∷ 112 ∷ 48 ∷ 49 ∷ []); request = (plain kinds.Int no_type_fields); response = (Some (plain kinds.Any no_type_fields)); throws = [] } ∷ record { name = (111 ∷ 112 ∷ 48 ∷ 50 ∷ []); request = (plain kinds.Int no_type_fields); response = (Some (named 1)); throws = [] } ∷ record { name = (109 ∷ 111 ∷ 114 ∷ 101 ∷ 48 ∷ []); request = (named 3); response = (Some undefined); throws = [] } ∷ record { name = (112 ∷ 117 ∷ 115 ∷ 104 ∷ 48 ∷ []); request = (named 3); response = None; throws = [] } ∷ []) } ∷ record { name = (73 ∷ 83 ∷ 49 ∷ []); operations = (record { name = (111 ∷ 112 ∷ 49 ∷ 49 ∷ []); request = (plain kinds.Int no_type_fields); response = (Some (plain kinds.Any no_type_fields)); throws = (record { fault = 1; ty = (plain kinds.Any no_type_fields) } ∷ record { fault = 2; ty = (plain kinds.Void no_type_fields) } ∷ []) } ∷ record { name = (111 ∷ 112 ∷ 49 ∷ 50 ∷ []); request = (plain kinds.Void no_type_fields); response = (Some (plain kinds.Long no_type_fields)); throws = [] } ∷ record { name = (109 ∷ 111 ∷ 114 ∷ 101 ∷ 49 ∷ []); request = (named 5); response = (Some undefined); throws = [] } ∷ record { name = (111 ∷ 112 ∷ 49 ∷ 48 ∷ []); request = (named 4); response = None; throws = [] } ∷ record { name = (112 ∷ 117 ∷ 115 ∷ 104 ∷ 49 ∷ []); request = (named 5); response = None; throws = [] } ∷ []) } ∷ record { name = (73 ∷ 83 ∷ 50 ∷ []); operations = (record { name = (111 ∷ 112 ∷ 50 ∷ 48 ∷ []); request = (plain kinds.Int no_type_fields); response = (Some (plain kinds.Any no_type_fields)); throws = [] } ∷ []) } ∷ record { name = (82 ∷ []); operations = (record { name = (97 ∷ 115 ∷ 107 ∷ []); request = (plain kinds.Int no_type_fields); response = (Some undefined); throws = (record { fault = 9; ty = (plain kinds.Void no_type_fields) } ∷ []) } ∷ record { name = (116 ∷ 101 ∷ 108 ∷ 108 ∷ []); request = undefined; response = None; throws = [] } ∷ []) } ∷ []);
  services = (record { name = (83 ∷ 48 ∷ []); execution = execution.Concurrent; ports = (record { name = (73 ∷ 110 ∷ []); input = true; location = (115 ∷ 111 ∷ 99 ∷ 107 ∷ 101 ∷ 116 ∷ 58 ∷ 47 ∷ 47 ∷ 108 ∷ 111 ∷ 99 ∷ 97 ∷ 108 ∷ 104 ∷ 111 ∷ 115 ∷ 116 ∷ 58 ∷ 56 ∷ 48 ∷ 48 ∷ 48 ∷ []); interfaces = (0 ∷ []) } ∷ record { name = (80 ∷ 83 ∷ 49 ∷ []); input = false; location = (108 ∷ 111 ∷ 99 ∷ 97 ∷ 108 ∷ 58 ∷ 47 ∷ 47 ∷ 108 ∷ 49 ∷ []); interfaces = (1 ∷ []) } ∷ record { name = (80 ∷ 83 ∷ 50 ∷ []); input = false; location = (108 ∷ 111 ∷ 99 ∷ 97 ∷ 108 ∷ 58 ∷ 47 ∷ 47 ∷ 108 ∷ 50 ∷ []); interfaces = (2 ∷ []) } ∷ []); sets = (record { variables = (record { name = (115 ∷ 105 ∷ 100 ∷ []); aliases = (record { ty = 2; path = ((115 ∷ 105 ∷ 100 ∷ []) ∷ []) } ∷ record { ty = 3; path = ((115 ∷ 105 ∷ 100 ∷ []) ∷ []) } ∷ []) } ∷ record { name = (110 ∷ 117 ∷ 109 ∷ []); aliases = (record { ty = 2; path = ((110 ∷ 117 ∷ 109 ∷ []) ∷ []) } ∷ record { ty = 3; path = ((110 ∷ 117 ∷ 109 ∷ []) ∷ []) } ∷ []) } ∷ []) } ∷ []); init = nothing; main = (sequence (proc (install (handler (key.Fault 9) (sequence (proc (comp 10) (proc (solicit 3 0 (sum (constant (root.Text (116 ∷ 50 ∷ []))) (sum_part sums.Plus (count_at (step (97 ∷ []) here)) no_sum_parts)) None no_handlers) no_procs))) (handler (key.Fault 11) (sequence (proc (comp 12) (proc (solicit 3 0 (sum (constant (root.Text (116 ∷ 52 ∷ []))) (sum_part sums.Plus (cast casts.Text (at_path (step (121 ∷ []) (step (97 ∷ []) here)))) no_sum_parts)) None no_handlers) no_procs))) (handler (key.Fault 13) (sequence (proc (comp 14) (proc (solicit 3 0 (sum (constant (root.Text (116 ∷ 54 ∷ []))) (sum_part sums.Plus (cast casts.Text (at_path (step (120 ∷ []) (step_at (97 ∷ []) (sum (constant (root.Int (pos 0))) (sum_part sums.Minus (constant (root.Int (pos 1))) no_sum_parts)) (step (98 ∷ []) here))))) no_sum_parts)) None no_handlers) no_procs))) (handler (key.Fault 14) nothing (handler (key.Fault 5) (sequence (proc (comp 12) (proc (solicit 3 0 (constant (root.Text (116 ∷ 49 ∷ 48 ∷ []))) None no_handlers) no_procs))) (handler (key.Fault 1) nothing (handler (key.Fault 3) (solicit 3 0 (constant (root.Text (116 ∷ 49 ∷ 51 ∷ []))) None no_handlers) (handler (key.Fault 2) (sequence (proc (comp 12) (proc (solicit 3 0 (sum (constant (root.Text (116 ∷ 49 ∷ 54 ∷ []))) (sum_part sums.Plus (count_at (step (99 ∷ []) here)) no_sum_parts)) None no_handlers) no_procs))) (handler (key.Fault 4) nothing (handler (key.Fault 0) (comp 14) (handler (key.Fault 7) (assign (step (121 ∷ []) (step (110 ∷ []) here)) (constant (root.Text (83 ∷ 116 ∷ 111 ∷ 114 ∷ 101 ∷ 84 ∷ 111 ∷ 111 ∷ 76 ∷ 97 ∷ 114 ∷ 103 ∷ 101 ∷ [])))) (handler (key.Fault 6) (comp 14) no_handlers))))))))))))) (proc (choice (request 0 (Some (step (120 ∷ []) here)) (Some (step (121 ∷ []) here)) (sequence (proc (scope 15 (sequence (proc (bind 1 (sum (constant (root.Text [])) (sum_part sums.Plus (at_path (step (98 ∷ []) (step (99 ∷ []) here))) (sum_part sums.Plus (constant (root.Text (46 ∷ []))) no_sum_parts)))) (proc (scope 10 (sequence (proc (install (handler (key.Fault 13) (sequence (proc (assign (step (121 ∷ []) (step (97 ∷ []) here)) (sum (at_path (step (121 ∷ []) (step (97 ∷ []) here))) (sum_part sums.Plus (constant (root.Int (pos 1))) no_sum_parts))) (proc (solicit 3 0 (constant (root.Text (116 ∷ 50 ∷ 55 ∷ []))) None no_handlers) (proc (comp 10) no_procs)))) (handler (key.Fault 11) (sequence (proc (comp 12) (proc inner_handler (proc (assign (step (121 ∷ []) (step (97 ∷ []) here)) (sum (at_path (step (121 ∷ []) (step (97 ∷ []) here))) (sum_part sums.Plus (constant (root.Int (pos 1))) no_sum_parts))) no_procs)))) (handler key.This (sequence (proc (solicit 3 0 (constant (root.Text (116 ∷ 51 ∷ 49 ∷ []))) None no_handlers) (proc (choose (constant (root.Bool true)) (sequence (proc (assign (step_at (99 ∷ []) (constant (root.Int (pos 1))) (step (98 ∷ []) (step_at (97 ∷ []) (count_at (step (121 ∷ []) (step (98 ∷ []) here))) here))) (count_at (step (121 ∷ []) (step (98 ∷ []) here)))) (proc (copy (step (99 ∷ []) (step (99 ∷ []) here)) (literal (member_of (98 ∷ []) (at_path (step (121 ∷ []) (step (98 ∷ []) here))) no_member_list))) no_procs))) nothing) no_procs))) no_handlers)))) (proc (assign (step_at (97 ∷ []) (at_path (step (121 ∷ []) (step (97 ∷ []) here))) here) (constant (root.Bool true))) (proc (solicit 2 0 (at_path (step_at (121 ∷ []) (constant (root.Int (pos 2))) here)) (Some (step_at (97 ∷ []) (constant (root.Int (pos 1))) here)) (handler key.This (parallel (proc (comp 15) (proc (solicit 2 0 (constant (root.Int (pos 6))) (Some (step (98 ∷ []) here)) no_handlers) no_procs))) (handler (key.Fault 5) (throw 4 (at_path (step (121 ∷ []) (step (110 ∷ []) here)))) no_handlers))) (proc (throw 11 (at_path (step (120 ∷ []) here))) no_procs)))))) no_procs)))) (proc (copy (step (98 ∷ []) here) (cast casts.Text (at_path (step (120 ∷ []) here)))) (proc (scope 15 (sequence (proc (solicit 3 0 (constant (root.Text (116 ∷ 51 ∷ 51 ∷ []))) None no_handlers) (proc (choose (compared (literal (member_of (97 ∷ []) (cast casts.Text (at_path (step (120 ∷ []) (step (99 ∷ []) (step (110 ∷ []) here))))) no_member_list)) compare.AtLeast (compared (constant (root.Text (53 ∷ []))) compare.AtLeast (constant (root.Text (107 ∷ []))))) (assign (step (120 ∷ []) here) (sum (at_path (step (120 ∷ []) here)) (sum_part sums.Minus (constant (root.Int (pos 1))) no_sum_parts))) nothing) (proc (sequence (proc (assign (step (105 ∷ 49 ∷ []) here) (constant (root.Int (pos 0)))) (proc (repeat (compared (at_path (step (105 ∷ 49 ∷ []) here)) compare.Less (constant (root.Int (pos 5)))) (sequence (proc (sequence (proc (assign (step (98 ∷ []) (step (97 ∷ []) here)) (sum (at_path (step (98 ∷ []) (step (97 ∷ []) here))) (sum_part sums.Plus (constant (root.Int (pos 1))) no_sum_parts))) (proc (choice (request 2 (Some (step_at (120 ∷ []) (constant (root.Int (pos 1))) (step (99 ∷ []) here))) (Some (step (121 ∷ []) here)) (sequence (proc (copy (step (98 ∷ []) here) (cast casts.Text (at_path (step (121 ∷ []) here)))) (proc (bind 1 (at_path (step (120 ∷ []) here))) (proc (copy (step (121 ∷ []) here) (literal no_member_list)) (proc (assign (step (120 ∷ []) here) (sum (constant (root.Text (45 ∷ []))) (sum_part sums.Plus (count_at (step (120 ∷ []) (step (97 ∷ []) here))) no_sum_parts))) no_procs))))) nothing (request 3 (Some (step (120 ∷ []) here)) (Some (step (121 ∷ []) here)) (sequence (proc (assign (step (105 ∷ 50 ∷ []) here) (constant (root.Int (pos 1)))) (proc (repeat (compared (at_path (step (105 ∷ 50 ∷ []) here)) compare.More (constant (root.Int (pos 0)))) (sequence (proc (assign (step (105 ∷ 50 ∷ []) here) (sum (at_path (step (105 ∷ 50 ∷ []) here)) (sum_part sums.Minus (constant (root.Int (pos 1))) no_sum_parts))) (proc (solicit 3 0 (sum (constant (root.Text (116 ∷ 51 ∷ 53 ∷ []))) (sum_part sums.Plus (count_at (step (120 ∷ []) here)) no_sum_parts)) None no_handlers) no_procs)))) no_procs))) nothing no_branches))) (proc (undef (step (121 ∷ []) here)) no_procs)))) (proc (assign (step (105 ∷ 49 ∷ []) here) (sum (at_path (step (105 ∷ 49 ∷ []) here)) (sum_part sums.Plus (constant (root.Int (pos 1))) no_sum_parts))) no_procs)))) no_procs))) (proc (solicit 3 0 (constant (root.Text (116 ∷ 51 ∷ 54 ∷ []))) None no_handlers) no_procs)))))) (proc (solicit 3 0 (sum (constant (root.Text (116 ∷ 51 ∷ 55 ∷ []))) (sum_part sums.Plus (cast casts.Text (at_path (step (99 ∷ []) here))) no_sum_parts)) None no_handlers) no_procs))))) (solicit 3 0 (constant (root.Text (116 ∷ 51 ∷ 56 ∷ []))) None no_handlers) (request 1 (Some (step (120 ∷ []) here)) (Some (step_at (121 ∷ []) (constant (root.Int (pos 0))) here)) nothing nothing (request 2 (Some (step (120 ∷ []) (step_at (99 ∷ []) (constant (root.Int (pos 1))) here))) (Some (step_at (121 ∷ []) (constant (root.Int (pos 1))) here)) nothing nothing no_branches)))) (proc (choice (request 0 None (Some (step_at (121 ∷ []) (constant (root.Int (pos 0))) here)) nothing nothing no_branches)) (proc (assign (step (99 ∷ []) (step (97 ∷ []) (step (99 ∷ []) here))) (literal no_member_list)) (proc (solicit 3 0 (constant (root.Text (116 ∷ 52 ∷ 51 ∷ []))) None no_handlers) no_procs)))))) } ∷ record { name = (83 ∷ 49 ∷ []); execution = execution.Concurrent; ports = (record { name = (73 ∷ 110 ∷ []); input = true; location = (108 ∷ 111 ∷ 99 ∷ 97 ∷ 108 ∷ 58 ∷ 47 ∷ 47 ∷ 108 ∷ 49 ∷ []); interfaces = (1 ∷ []) } ∷ record { name = (80 ∷ 83 ∷ 50 ∷ []); input = false; location = (108 ∷ 111 ∷ 99 ∷ 97 ∷ 108 ∷ 58 ∷ 47 ∷ 47 ∷ 108 ∷ 50 ∷ []); interfaces = (2 ∷ []) } ∷ []); sets = (record { variables = (record { name = (115 ∷ 105 ∷ 100 ∷ []); aliases = (record { ty = 5; path = ((115 ∷ 105 ∷ 100 ∷ []) ∷ []) } ∷ []) } ∷ []) } ∷ []); init = nothing; main = (sequence (proc (install (handler (key.Fault 9) (assign (step (121 ∷ []) (step (110 ∷ []) here)) (constant (root.Text (102 ∷ [])))) (handler (key.Fault 11) nothing (handler (key.Fault 13) (sequence (proc (comp 10) (proc (solicit 2 0 (sum (constant (root.Text (116 ∷ 52 ∷ 57 ∷ []))) (sum_part sums.Plus (cast casts.Text (at_path (step (97 ∷ []) here))) no_sum_parts)) None no_handlers) no_procs))) (handler (key.Fault 14) (solicit 2 0 (sum (constant (root.Text (116 ∷ 53 ∷ 48 ∷ []))) (sum_part sums.Plus (cast casts.Text (at_path (step_at (99 ∷ []) (count_at (step (121 ∷ []) (step (98 ∷ []) here))) (step (110 ∷ []) (step (98 ∷ []) here))))) no_sum_parts)) None no_handlers) (handler (key.Fault 5) (solicit 2 0 (sum (constant (root.Text (116 ∷ 53 ∷ 50 ∷ []))) (sum_part sums.Plus (cast casts.Text (at_path (step (121 ∷ []) (step (110 ∷ []) (step (110 ∷ []) here))))) no_sum_parts)) None no_handlers) (handler (key.Fault 1) (solicit 2 0 (sum (constant (root.Text (116 ∷ 53 ∷ 52 ∷ []))) (sum_part sums.Plus (count_at (step (121 ∷ []) here)) no_sum_parts)) None no_handlers) (handler (key.Fault 3) (comp 14) (handler (key.Fault 2) (solicit 2 0 (constant (root.Text (116 ∷ 53 ∷ 56 ∷ []))) None no_handlers) (handler (key.Fault 4) nothing (handler (key.Fault 0) (solicit 2 0 (constant (root.Text (116 ∷ 54 ∷ 50 ∷ []))) None no_handlers) (handler (key.Fault 7) (sequence (proc (comp 12) (proc (solicit 2 0 (sum (constant (root.Text (116 ∷ 54 ∷ 53 ∷ []))) (sum_part sums.Plus (count_at (step (120 ∷ []) here)) no_sum_parts)) None no_handlers) no_procs))) (handler (key.Fault 6) (sequence (proc (comp 15) (proc (solicit 2 0 (constant (root.Text (116 ∷ 54 ∷ 55 ∷ []))) None no_handlers) no_procs))) no_handlers))))))))))))) (proc (choice (one_way 3 (Some (step (97 ∷ []) here)) nothing (request 0 (Some (step (120 ∷ []) here)) (Some (step_at (121 ∷ []) (constant (root.Int (pos 1))) here)) (sequence (proc (scope 14 (sequence (proc (install (handler (key.Fault 9) (sequence (proc (comp 12) (proc (comp 14) no_procs))) (handler key.This (sequence (proc inner_handler (proc (throw 11 (sum (cast casts.Text (at_path (step_at (98 ∷ []) (constant (root.Int (pos 0))) (step_at (98 ∷ []) (count_at (step (97 ∷ []) here)) (step (99 ∷ []) here))))) (sum_part sums.Plus (literal (member_of (97 ∷ []) (constant (root.Text (107 ∷ []))) (member_of (98 ∷ []) (constant (root.Int (pos 7))) no_member_list))) no_sum_parts))) no_procs))) no_handlers))) (proc (scope 12 (sequence (proc (install (handler key.This (solicit 2 0 (constant (root.Text (116 ∷ 55 ∷ 50 ∷ []))) None no_handlers) no_handlers)) (proc (choose (constant (root.Bool false)) (sequence (proc (throw 9 (count_at (step (120 ∷ []) here))) (proc (assign (step (99 ∷ []) here) (sum (at_path (step (99 ∷ []) here)) (sum_part sums.Minus (constant (root.Int (pos 1))) no_sum_parts))) no_procs))) (scope 10 (sequence (proc (assign (step (120 ∷ []) here) (constant (root.Text (107 ∷ [])))) (proc (copy (step (121 ∷ []) here) (sum (constant (root.Text [])) (sum_part sums.Plus (at_path (step (98 ∷ []) here)) (sum_part sums.Plus (constant (root.Text (46 ∷ []))) no_sum_parts)))) no_procs))))) no_procs)))) (proc (scope 10 (parallel (proc (sequence (proc (scope 15 (sequence (proc (install (handler key.This (sequence (proc inner_handler (proc (throw 9 (constant root.Void)) no_procs))) no_handlers)) (proc (install (handler (key.Fault 11) (sequence (proc (assign (step (99 ∷ []) here) (sum (constant (root.Text (107 ∷ []))) (sum_part sums.Plus (count_at (step (98 ∷ []) here)) no_sum_parts))) (proc (assign (step (99 ∷ []) (step (98 ∷ []) (step (98 ∷ []) here))) (sum (constant (root.Text (107 ∷ []))) (sum_part sums.Plus (at_path (step (120 ∷ []) here)) no_sum_parts))) no_procs))) no_handlers)) (proc (assign (step (99 ∷ []) here) (defined_at (step (121 ∷ []) here))) no_procs))))) (proc (solicit 2 0 (sum (constant (root.Text (116 ∷ 55 ∷ 52 ∷ []))) (sum_part sums.Plus (count_at (step (97 ∷ []) here)) no_sum_parts)) None no_handlers) (proc (scope 10 (copy (step (99 ∷ []) here) (product (at_path (step (121 ∷ []) here)) (mul_part muls.Times (at_path (step (97 ∷ []) here)) no_mul_parts)))) no_procs)))) (proc (sequence (proc (assign (step (105 ∷ 51 ∷ []) here) (constant (root.Int (pos 0)))) (proc (repeat (compared (at_path (step (105 ∷ 51 ∷ []) here)) compare.More (constant (root.Int (pos 0)))) (sequence (proc (assign (step (105 ∷ 51 ∷ []) here) (sum (at_path (step (105 ∷ 51 ∷ []) here)) (sum_part sums.Minus (constant (root.Int (pos 1))) no_sum_parts))) (proc (copy (step (121 ∷ []) (step (98 ∷ []) here)) (sum (count_at (step (120 ∷ []) (step (97 ∷ []) here))) (sum_part sums.Plus (constant (root.Int (pos 1))) no_sum_parts))) (proc (assign (step_at (99 ∷ []) (constant (root.Int (pos 1))) (step_at (99 ∷ []) (count_at (step (121 ∷ []) (step (98 ∷ []) here))) here)) (at_path (step (98 ∷ []) here))) (proc (throw 9 (constant root.Void)) no_procs)))))) no_procs))) no_procs)))) (proc (throw 9 (constant root.Void)) no_procs)))))) (proc (scope 10 nothing) (proc (scope 12 (sequence (proc (solicit 2 0 (constant (root.Text (116 ∷ 55 ∷ 57 ∷ []))) None no_handlers) (proc (throw 13 (constant root.Void)) (proc (install (handler (key.Fault 13) (sequence (proc (solicit 2 0 (constant (root.Text (116 ∷ 55 ∷ 54 ∷ []))) None no_handlers) (proc (comp 12) (proc inner_handler (proc (solicit 1 0 (constant (root.Int (pos 1))) (Some (step_at (99 ∷ []) (constant (root.Int (pos 1))) here)) no_handlers) (proc (copy (step (99 ∷ []) (step (110 ∷ []) (step (99 ∷ []) here))) (constant (root.Long (pos 5)))) no_procs)))))) no_handlers)) no_procs))))) no_procs)))) nothing (request 1 (Some (step_at (120 ∷ []) (constant (root.Int (pos 1))) here)) (Some (step_at (121 ∷ []) (constant (root.Int (pos 0))) here)) nothing (scope 15 (sequence (proc nothing (proc (copy (step (99 ∷ []) (step (98 ∷ []) here)) (cast casts.Text (at_path (step (120 ∷ []) here)))) (proc (install (handler (key.Fault 9) (sequence (proc (comp 15) (proc inner_handler no_procs))) (handler key.This (sequence (proc (solicit 2 0 (constant (root.Text (116 ∷ 56 ∷ 52 ∷ []))) None no_handlers) (proc (install (handler (key.Fault 13) (sequence (proc (comp 14) (proc inner_handler (proc (solicit 1 0 (constant (root.Int (pos 7))) None no_handlers) (proc (install (handler key.This (sequence (proc (solicit 2 0 (constant (root.Text (116 ∷ 56 ∷ 55 ∷ []))) None no_handlers) (proc (solicit 2 0 (sum (constant (root.Text (116 ∷ 56 ∷ 56 ∷ []))) (sum_part sums.Plus (cast casts.Text (at_path (step_at (99 ∷ []) (constant (root.Int (pos 2))) here))) no_sum_parts)) None no_handlers) no_procs))) (handler (key.Fault 2) (assign (step (121 ∷ []) (step (97 ∷ []) here)) (sum (at_path (step (121 ∷ []) (step (97 ∷ []) here))) (sum_part sums.Plus (constant (root.Int (pos 1))) no_sum_parts))) no_handlers))) no_procs))))) (handler (key.Fault 2) (sequence (proc inner_handler (proc (solicit 2 0 (constant (root.Text (116 ∷ 57 ∷ 49 ∷ []))) None no_handlers) no_procs))) no_handlers))) no_procs))) (handler (key.Fault 6) (sequence (proc (solicit 2 0 (sum (constant (root.Text (116 ∷ 57 ∷ 50 ∷ []))) (sum_part sums.Plus (count_at (step (99 ∷ []) here)) no_sum_parts)) None no_handlers) (proc (comp 12) (proc (solicit 2 0 (sum (constant (root.Text (116 ∷ 57 ∷ 52 ∷ []))) (sum_part sums.Plus (count_at (step (98 ∷ []) here)) no_sum_parts)) None no_handlers) (proc (solicit 2 0 (constant (root.Text (116 ∷ 57 ∷ 53 ∷ []))) None no_handlers) no_procs))))) no_handlers)))) (proc (solicit 2 0 (sum (constant (root.Text (116 ∷ 57 ∷ 54 ∷ []))) (sum_part sums.Plus (cast casts.Text (at_path (step_at (97 ∷ []) (constant (root.Int (pos 1))) here))) no_sum_parts)) None no_handlers) no_procs)))))) no_branches)))) (proc (bind 0 (constant (root.Int (pos 1)))) (proc (choice (one_way 4 (Some (step_at (99 ∷ []) (constant (root.Int (pos 0))) here)) (assign (step (120 ∷ []) (step (97 ∷ []) (step_at (98 ∷ []) (sum (constant (root.Int (pos 1))) (sum_part sums.Minus (constant (root.Int (pos 1))) no_sum_parts)) here))) (sum (constant (root.Text (45 ∷ []))) (sum_part sums.Plus (at_path (step (121 ∷ []) (step (110 ∷ []) here))) (sum_part sums.Plus (constant (root.Text (46 ∷ []))) no_sum_parts)))) (request 2 (Some (step (98 ∷ []) here)) (Some (step (121 ∷ []) here)) nothing nothing no_branches))) (proc (choice (one_way 4 (Some (step_at (98 ∷ []) (constant (root.Int (pos 0))) (step (98 ∷ []) here))) (solicit 2 0 (constant (root.Text (116 ∷ 57 ∷ 56 ∷ []))) None no_handlers) (request 2 (Some (step_at (120 ∷ []) (constant (root.Int (pos 0))) (step (97 ∷ []) here))) (Some (step (121 ∷ []) here)) nothing nothing no_branches))) (proc (assign (step (99 ∷ []) here) (constant (root.Text (45 ∷ 49 ∷ 50 ∷ [])))) (proc (assign (step (99 ∷ []) here) (cast casts.Text (at_path (step (120 ∷ []) here)))) (proc (copy (step (120 ∷ []) here) (negation (defined_at (step (120 ∷ []) (step (99 ∷ []) here))))) no_procs))))))))) } ∷ record { name = (83 ∷ 50 ∷ []); execution = execution.Single; ports = (record { name = (73 ∷ 110 ∷ []); input = true; location = (108 ∷ 111 ∷ 99 ∷ 97 ∷ 108 ∷ 58 ∷ 47 ∷ 47 ∷ 108 ∷ 50 ∷ []); interfaces = (2 ∷ []) } ∷ record { name = (80 ∷ 83 ∷ 49 ∷ []); input = false; location = (108 ∷ 111 ∷ 99 ∷ 97 ∷ 108 ∷ 58 ∷ 47 ∷ 47 ∷ 108 ∷ 49 ∷ []); interfaces = (1 ∷ []) } ∷ []); sets = []; init = nothing; main = (parallel (proc (sequence (proc (install (handler (key.Fault 9) (sequence (proc (comp 14) (proc (solicit 2 0 (constant (root.Text (116 ∷ 49 ∷ 48 ∷ 50 ∷ []))) None no_handlers) no_procs))) (handler (key.Fault 11) nothing (handler (key.Fault 13) (sequence (proc (comp 14) (proc (solicit 2 0 (sum (constant (root.Text (116 ∷ 49 ∷ 48 ∷ 54 ∷ []))) (sum_part sums.Plus (count_at (step (121 ∷ []) here)) no_sum_parts)) None no_handlers) no_procs))) (handler (key.Fault 14) nothing (handler (key.Fault 5) (solicit 2 0 (sum (constant (root.Text (116 ∷ 49 ∷ 48 ∷ 57 ∷ []))) (sum_part sums.Plus (cast casts.Text (at_path (step_at (120 ∷ []) (constant (root.Long (pos 1))) (step_at (97 ∷ []) (constant (root.Int (pos 1))) (step (98 ∷ []) here))))) no_sum_parts)) None no_handlers) (handler (key.Fault 1) (assign (step (121 ∷ []) (step (110 ∷ []) here)) (constant (root.Text (84 ∷ 121 ∷ 112 ∷ 101 ∷ 77 ∷ 105 ∷ 115 ∷ 109 ∷ 97 ∷ 116 ∷ 99 ∷ 104 ∷ [])))) (handler (key.Fault 3) (comp 14) (handler (key.Fault 2) (solicit 2 0 (sum (constant (root.Text (116 ∷ 49 ∷ 49 ∷ 53 ∷ []))) (sum_part sums.Plus (cast casts.Text (at_path (step (97 ∷ []) here))) no_sum_parts)) None no_handlers) (handler (key.Fault 4) (solicit 2 0 (constant (root.Text (116 ∷ 49 ∷ 49 ∷ 55 ∷ []))) None no_handlers) (handler (key.Fault 0) (sequence (proc (comp 14) (proc (solicit 2 0 (constant (root.Text (116 ∷ 49 ∷ 50 ∷ 48 ∷ []))) None no_handlers) no_procs))) (handler (key.Fault 7) (comp 14) (handler (key.Fault 6) (comp 14) no_handlers))))))))))))) (proc (choice (request 0 None (Some (step (121 ∷ []) here)) (sequence (proc (scope 15 (sequence (proc (install (handler (key.Fault 14) (sequence (proc (solicit 2 0 (constant (root.Text (116 ∷ 49 ∷ 50 ∷ 53 ∷ []))) None no_handlers) (proc (comp 10) no_procs))) (handler (key.Fault 11) (sequence (proc (comp 15) (proc (comp 10) no_procs))) no_handlers))) (proc (scope 10 (sequence (proc (install (handler key.This (sequence (proc (copy (step (98 ∷ []) here) (constant (root.Long (pos 5)))) (proc (copy (step (98 ∷ []) (step (99 ∷ []) (step (99 ∷ []) here))) (sum (constant (root.Text (45 ∷ []))) (sum_part sums.Plus (count_at (step (98 ∷ []) here)) no_sum_parts))) no_procs))) no_handlers)) (proc (assign (step (120 ∷ []) here) (sum (at_path (step (120 ∷ []) here)) (sum_part sums.Minus (constant (root.Int (pos 1))) no_sum_parts))) no_procs)))) (proc (block (parallel (proc (sequence (proc (install (handler key.This (sequence (proc (comp 10) (proc (assign (step (121 ∷ []) (step (99 ∷ []) here)) (sum (at_path (step (121 ∷ []) (step (99 ∷ []) here))) (sum_part sums.Plus (constant (root.Int (pos 1))) no_sum_parts))) (proc (assign (step (121 ∷ []) here) (count_at (step (120 ∷ []) (step (97 ∷ []) here)))) no_procs)))) no_handlers)) (proc (solicit 1 2 (at_path (step (97 ∷ []) (step (97 ∷ []) (step (99 ∷ []) here)))) (Some (step (97 ∷ []) (step (98 ∷ []) here))) no_handlers) (proc nothing no_procs)))) (proc (throw 11 (constant (root.Int (pos 3)))) (proc (scope 15 (sequence (proc (install (handler key.This (sequence (proc (comp 10) (proc (assign (step (120 ∷ []) here) (sum (constant (root.Text [])) (sum_part sums.Plus (count_at (step (121 ∷ []) (step (99 ∷ []) (step (97 ∷ []) here)))) no_sum_parts))) no_procs))) no_handlers)) (proc (solicit 1 0 (constant (root.Int (pos 4))) (Some (step (120 ∷ []) here)) no_handlers) (proc (copy (step (120 ∷ []) here) (constant (root.Int (pos 0)))) no_procs))))) no_procs))))) no_procs))))) (proc nothing (proc (solicit 2 0 (sum (constant (root.Text (116 ∷ 49 ∷ 53 ∷ 48 ∷ []))) (sum_part sums.Plus (count_at (step (99 ∷ []) here)) no_sum_parts)) None no_handlers) (proc (solicit 2 0 (constant (root.Text (116 ∷ 49 ∷ 53 ∷ 49 ∷ []))) None no_handlers) no_procs))))) (solicit 2 0 (constant (root.Text (116 ∷ 49 ∷ 53 ∷ 50 ∷ []))) None no_handlers) no_branches)) no_procs))) (proc (choice (request 0 (Some (step (120 ∷ []) (step (98 ∷ []) here))) None nothing nothing no_branches)) (proc (sequence (proc (choice (request 0 (Some (step (120 ∷ []) here)) (Some (step (121 ∷ []) here)) nothing nothing no_branches)) (proc (copy (step (120 ∷ []) (step (97 ∷ []) (step (97 ∷ []) here))) (at_path (step (120 ∷ []) (step_at (98 ∷ []) (constant (root.Long (pos 1))) (step (110 ∷ []) here))))) (proc (install (handler key.This (assign (step (121 ∷ []) (step (97 ∷ []) here)) (sum (at_path (step (121 ∷ []) (step (97 ∷ []) here))) (sum_part sums.Plus (constant (root.Int (pos 1))) no_sum_parts))) no_handlers)) (proc (sequence (proc (assign (step (105 ∷ 52 ∷ []) here) (constant (root.Int (pos 0)))) (proc (repeat (compared (at_path (step (105 ∷ 52 ∷ []) here)) compare.Less (constant (root.Int (pos 20)))) (sequence (proc (install (handler key.This (block (parallel (proc inner_handler (proc nothing no_procs)))) no_handlers)) (proc (assign (step (105 ∷ 52 ∷ []) here) (sum (at_path (step (105 ∷ 52 ∷ []) here)) (sum_part sums.Plus (constant (root.Int (pos 1))) no_sum_parts))) no_procs)))) no_procs))) (proc (assign (step (121 ∷ []) here) (sum (at_path (step (121 ∷ []) here)) (sum_part sums.Minus (constant (root.Int (pos 1))) no_sum_parts))) no_procs)))))) no_procs)))) } ∷ []);
  names = ((73 ∷ 79 ∷ 69 ∷ 120 ∷ 99 ∷ 101 ∷ 112 ∷ 116 ∷ 105 ∷ 111 ∷ 110 ∷ []) ∷ (84 ∷ 121 ∷ 112 ∷ 101 ∷ 77 ∷ 105 ∷ 115 ∷ 109 ∷ 97 ∷ 116 ∷ 99 ∷ 104 ∷ []) ∷ (67 ∷ 111 ∷ 114 ∷ 114 ∷ 101 ∷ 108 ∷ 97 ∷ 116 ∷ 105 ∷ 111 ∷ 110 ∷ 69 ∷ 114 ∷ 114 ∷ 111 ∷ 114 ∷ []) ∷ (82 ∷ 101 ∷ 102 ∷ 117 ∷ 115 ∷ 101 ∷ 100 ∷ []) ∷ (85 ∷ 110 ∷ 100 ∷ 101 ∷ 99 ∷ 108 ∷ 97 ∷ 114 ∷ 101 ∷ 100 ∷ 70 ∷ 97 ∷ 117 ∷ 108 ∷ 116 ∷ []) ∷ (69 ∷ 120 ∷ 112 ∷ 114 ∷ 70 ∷ 97 ∷ 117 ∷ 108 ∷ 116 ∷ []) ∷ (72 ∷ 97 ∷ 110 ∷ 100 ∷ 108 ∷ 101 ∷ 114 ∷ 84 ∷ 111 ∷ 111 ∷ 76 ∷ 97 ∷ 114 ∷ 103 ∷ 101 ∷ []) ∷ (83 ∷ 116 ∷ 111 ∷ 114 ∷ 101 ∷ 84 ∷ 111 ∷ 111 ∷ 76 ∷ 97 ∷ 114 ∷ 103 ∷ 101 ∷ []) ∷ (109 ∷ 97 ∷ 105 ∷ 110 ∷ []) ∷ (102 ∷ []) ∷ (115 ∷ []) ∷ (103 ∷ []) ∷ (114 ∷ []) ∷ (104 ∷ []) ∷ (112 ∷ []) ∷ (113 ∷ []) ∷ []);
}

-- what its office works by
abbrev setting : Setting
setting = run_of program

-- its history
abbrev history : List Entry
history = (
    record { actor = 4096; act = act.Post 0 0 (record { service = 0; op = (111 ∷ 112 ∷ 48 ∷ 48 ∷ []); value = (node (root.Int (pos 0)) no_fields) }) (answer.Accepted 0) } ∷
    record { actor = 0; act = act.Adopt 2 } ∷
    record { actor = 1; act = act.Adopt 0 } ∷
    record { actor = 1; act = act.Take 0 } ∷
    record { actor = 1; act = act.Bind 1 (root.Text (46 ∷ [])) binding.Bound } ∷
    record { actor = 1; act = act.Reply 0 (outcome.Fault (69 ∷ 120 ∷ 112 ∷ 114 ∷ 70 ∷ 97 ∷ 117 ∷ 108 ∷ 116 ∷ []) (node root.Void no_fields)) } ∷
    record { actor = 1; act = act.Send 0 3 0 (node (root.Text (116 ∷ 49 ∷ 48 ∷ [])) no_fields) true at.Out } ∷
    record { actor = 4096; act = act.Fetch 1 0 } ∷
    record { actor = 4096; act = act.Answered 1 0 (outcome.Value (node root.Void no_fields)) } ∷
    record { actor = 1; act = act.Answer 0 (outcome.Value (node root.Void no_fields)) } ∷
    record { actor = 1; act = act.End } ∷
    record { actor = 4096; act = act.Collect 0 (outcome.Fault (69 ∷ 120 ∷ 112 ∷ 114 ∷ 70 ∷ 97 ∷ 117 ∷ 108 ∷ 116 ∷ []) (node root.Void no_fields)) } ∷
    record { actor = 4096; act = act.Post 2 0 (record { service = 0; op = (109 ∷ 111 ∷ 114 ∷ 101 ∷ 48 ∷ []); value = (node root.Void (field (110 ∷ 117 ∷ 109 ∷ []) (tree (node (root.Int (pos 0)) no_fields) no_trees) (field (115 ∷ 105 ∷ 100 ∷ []) (tree (node (root.Int (pos 1)) no_fields) no_trees) no_fields))) }) (answer.Refused reason.Correlation) } ∷
    record { actor = 4096; act = act.Post 3 0 (record { service = 0; op = (111 ∷ 112 ∷ 48 ∷ 48 ∷ []); value = (node (root.Int (pos 2)) no_fields) }) (answer.Accepted 1) } ∷
    record { actor = 2; act = act.Adopt 0 } ∷
    record { actor = 2; act = act.Take 1 } ∷
    record { actor = 2; act = act.Bind 1 (root.Text (46 ∷ [])) binding.Bound } ∷
    record { actor = 2; act = act.Reply 1 (outcome.Fault (69 ∷ 120 ∷ 112 ∷ 114 ∷ 70 ∷ 97 ∷ 117 ∷ 108 ∷ 116 ∷ []) (node root.Void no_fields)) } ∷
    record { actor = 2; act = act.Send 0 3 0 (node (root.Text (116 ∷ 49 ∷ 48 ∷ [])) no_fields) true at.Out } ∷
    record { actor = 4096; act = act.Fetch 2 0 } ∷
    record { actor = 4096; act = act.Answered 2 0 (outcome.Value (node root.Void no_fields)) } ∷
    record { actor = 2; act = act.Answer 0 (outcome.Value (node root.Void no_fields)) } ∷
    record { actor = 2; act = act.End } ∷
    record { actor = 4096; act = act.Collect 1 (outcome.Fault (69 ∷ 120 ∷ 112 ∷ 114 ∷ 70 ∷ 97 ∷ 117 ∷ 108 ∷ 116 ∷ []) (node root.Void no_fields)) } ∷
    record { actor = 4096; act = act.Post 4 0 (record { service = 0; op = (111 ∷ 112 ∷ 48 ∷ 48 ∷ []); value = (node (root.Text (195 ∷ 169 ∷ [])) no_fields) }) (answer.Accepted 2) } ∷
    record { actor = 3; act = act.Adopt 0 } ∷
    record { actor = 3; act = act.Take 2 } ∷
    record { actor = 3; act = act.Bind 1 (root.Text (46 ∷ [])) binding.Bound } ∷
    record { actor = 3; act = act.Reply 2 (outcome.Fault (69 ∷ 120 ∷ 112 ∷ 114 ∷ 70 ∷ 97 ∷ 117 ∷ 108 ∷ 116 ∷ []) (node root.Void no_fields)) } ∷
    record { actor = 3; act = act.Send 0 3 0 (node (root.Text (116 ∷ 49 ∷ 48 ∷ [])) no_fields) true at.Out } ∷
    record { actor = 4096; act = act.Fetch 3 0 } ∷
    record { actor = 4096; act = act.Answered 3 0 (outcome.Value (node root.Void no_fields)) } ∷
    record { actor = 3; act = act.Answer 0 (outcome.Value (node root.Void no_fields)) } ∷
    record { actor = 3; act = act.End } ∷
    record { actor = 4096; act = act.Collect 2 (outcome.Fault (69 ∷ 120 ∷ 112 ∷ 114 ∷ 70 ∷ 97 ∷ 117 ∷ 108 ∷ 116 ∷ []) (node root.Void no_fields)) } ∷
    record { actor = 4096; act = act.Close } ∷
    record { actor = 4096; act = act.Stop } ∷ [])

pub legal : IsLegal setting history
legal = (record { allowed = refl; reply = refl }, (record { allowed = refl; reply = refl }, (record { allowed = refl; reply = refl }, (record { allowed = refl; reply = refl }, (record { allowed = refl; reply = refl }, (record { allowed = refl; reply = refl }, (record { allowed = refl; reply = refl }, (record { allowed = refl; reply = refl }, (record { allowed = refl; reply = refl }, (record { allowed = refl; reply = refl }, (record { allowed = refl; reply = refl }, (record { allowed = refl; reply = refl }, (record { allowed = refl; reply = refl }, (record { allowed = refl; reply = refl }, (record { allowed = refl; reply = refl }, (record { allowed = refl; reply = refl }, (record { allowed = refl; reply = refl }, (record { allowed = refl; reply = refl }, (record { allowed = refl; reply = refl }, (record { allowed = refl; reply = refl }, (record { allowed = refl; reply = refl }, (record { allowed = refl; reply = refl }, (record { allowed = refl; reply = refl }, (record { allowed = refl; reply = refl }, (record { allowed = refl; reply = refl }, (record { allowed = refl; reply = refl }, (record { allowed = refl; reply = refl }, (record { allowed = refl; reply = refl }, (record { allowed = refl; reply = refl }, (record { allowed = refl; reply = refl }, (record { allowed = refl; reply = refl }, (record { allowed = refl; reply = refl }, (record { allowed = refl; reply = refl }, (record { allowed = refl; reply = refl }, (record { allowed = refl; reply = refl }, (record { allowed = refl; reply = refl }, (record { allowed = refl; reply = refl }, tt)))))))))))))))))))))))))))))))))))))

pub spoilt_bound_otherwise : legal_entries setting (with_at 4 (record { actor = 1; act = act.Bind 1 (root.Text (46 ∷ [])) binding.Fixed } ∷ []) history) ≡ 4
spoilt_bound_otherwise = refl

pub spoilt_fetched_by_a_session : legal_entries setting (with_at 7 (record { actor = 0; act = act.Fetch 1 0 } ∷ []) history) ≡ 7
spoilt_fetched_by_a_session = refl

pub spoilt_received_by_another : legal_entries setting (with_at 8 (record { actor = 4097; act = act.Answered 1 0 (outcome.Value (node root.Void no_fields)) } ∷ []) history) ≡ 8
spoilt_received_by_another = refl

pub spoilt_refused_for_another_reason : legal_entries setting (with_at 12 (record { actor = 4096; act = act.Post 2 0 (record { service = 0; op = (109 ∷ 111 ∷ 114 ∷ 101 ∷ 48 ∷ []); value = (node root.Void (field (110 ∷ 117 ∷ 109 ∷ []) (tree (node (root.Int (pos 0)) no_fields) no_trees) (field (115 ∷ 105 ∷ 100 ∷ []) (tree (node (root.Int (pos 1)) no_fields) no_trees) no_fields))) }) (answer.Refused reason.RunFull) } ∷ []) history) ≡ 12
spoilt_refused_for_another_reason = refl

-- the events of session 0
abbrev events_0 : List Event
events_0 = (
    event 1 kind.Install 0 0 0 ∷ [])

-- the events of session 1
abbrev events_1 : List Event
events_1 = (
    event 0 kind.Install 0 0 0 ∷
    event 0 kind.In 0 0 0 ∷
    event 0 kind.Bind 0 0 0 ∷
    event 0 kind.Install 0 0 0 ∷
    event 0 kind.Raise 0 8 5 ∷
    event 0 kind.Reply 0 0 0 ∷
    event 0 kind.Handle 0 8 5 ∷
    event 0 kind.Compensate 0 12 0 ∷
    event 0 kind.Solicit 0 0 0 ∷
    event 0 kind.Answer 0 0 0 ∷
    event 0 kind.Finish 0 0 0 ∷ [])

-- the events of session 2
abbrev events_2 : List Event
events_2 = (
    event 0 kind.Install 0 0 0 ∷
    event 0 kind.In 1 0 0 ∷
    event 0 kind.Bind 0 0 0 ∷
    event 0 kind.Install 0 0 0 ∷
    event 0 kind.Raise 0 8 5 ∷
    event 0 kind.Reply 1 0 0 ∷
    event 0 kind.Handle 0 8 5 ∷
    event 0 kind.Compensate 0 12 0 ∷
    event 0 kind.Solicit 0 0 0 ∷
    event 0 kind.Answer 0 0 0 ∷
    event 0 kind.Finish 0 0 0 ∷ [])

-- the events of session 3
abbrev events_3 : List Event
events_3 = (
    event 0 kind.Install 0 0 0 ∷
    event 0 kind.In 2 0 0 ∷
    event 0 kind.Bind 0 0 0 ∷
    event 0 kind.Install 0 0 0 ∷
    event 0 kind.Raise 0 8 5 ∷
    event 0 kind.Reply 2 0 0 ∷
    event 0 kind.Handle 0 8 5 ∷
    event 0 kind.Compensate 0 12 0 ∷
    event 0 kind.Solicit 0 0 0 ∷
    event 0 kind.Answer 0 0 0 ∷
    event 0 kind.Finish 0 0 0 ∷ [])

-- the events of each session
abbrev sessions : List (List Event)
sessions = events_0 ∷ events_1 ∷ events_2 ∷ events_3 ∷ []

pub session_0 : IsSession setting history 0 events_0
unfolding digits
session_0 = is_session setting history 0 2 events_0 refl refl tt

pub session_1 : IsSession setting history 1 events_1
unfolding digits
session_1 = is_session setting history 1 0 events_1 refl refl (refl, ((refl, refl), ((refl, refl), ((refl, refl, refl, refl, refl), (refl, (tt, tt))))))

pub session_2 : IsSession setting history 2 events_2
unfolding digits
session_2 = is_session setting history 2 0 events_2 refl refl (refl, ((refl, refl), ((refl, refl), ((refl, refl, refl, refl, refl), (refl, (tt, tt))))))

pub session_3 : IsSession setting history 3 events_3
unfolding digits
session_3 = is_session setting history 3 0 events_3 refl refl (refl, ((refl, refl), ((refl, refl), ((refl, refl, refl, refl, refl), (refl, (tt, tt))))))

pub quiet : is_quiet setting 10000 (before_stop history) sessions ≡ true
unfolding digits
quiet = refl

pub still : is_still setting 10000 history sessions ≡ true
unfolding digits
still = refl

pub collected : are_collected setting history ≡ true
unfolding digits
collected = refl

pub together : stand_together history ≡ true
together = refl

pub run : (r : Record) → r.history.entries.items ≡ history → r.sessions ≡ sessions
    → IsRun setting 10000 alone false r
run = is_run setting 10000 history sessions
    (record { legal = legal; stopped = refl; actors = refl; all = refl; each = (session_0, (session_1, (session_2, (session_3, tt)))); within = refl; quiet = quiet; closed = refl; posted = together; still = still; collected = collected })

pub spoilt_run_without_its_stop : (r : Record) → r.history.entries.items ≡ (with_at 36 [] history) → IsRun setting 10000 alone false r → ⊥
spoilt_run_without_its_stop r has = unstopped setting 10000 false (with_at 36 [] history) r has refl

pub spoilt_run_that_is_not_closed : (r : Record) → r.history.entries.items ≡ (with_at 35 [] history) → IsRun setting 10000 alone false r → ⊥
spoilt_run_that_is_not_closed r has = unclosed setting 10000 false (with_at 35 [] history) r has refl

pub spoilt_run_stopped_by_another : (r : Record) → r.history.entries.items ≡ (with_at 36 (record { actor = 4097; act = act.Stop } ∷ []) history) → IsRun setting 10000 alone false r → ⊥
spoilt_run_stopped_by_another r has = foreign setting 10000 false (with_at 36 (record { actor = 4097; act = act.Stop } ∷ []) history) r has refl

pub spoilt_run_that_lacks_a_session : (r : Record) → r.history.entries.items ≡ history → r.sessions ≡ (events_1 ∷ events_2 ∷ events_3 ∷ [])
    → IsRun setting 10000 alone false r → ⊥
spoilt_run_that_lacks_a_session r has events = missing setting 10000 false history r has (events_1 ∷ events_2 ∷ events_3 ∷ []) events refl

pub spoilt_run_over_its_budget : (r : Record) → r.history.entries.items ≡ history → r.sessions ≡ sessions
    → IsRun setting 10 alone false r → ⊥
spoilt_run_over_its_budget r has events =
    too_many setting 10 false history r has sessions events 1 events_1 refl refl

pub spoilt_event_cut_at_the_end : agrees setting history 1 (
    event 0 kind.Install 0 0 0 ∷
    event 0 kind.In 0 0 0 ∷
    event 0 kind.Bind 0 0 0 ∷
    event 0 kind.Install 0 0 0 ∷
    event 0 kind.Raise 0 8 5 ∷
    event 0 kind.Reply 0 0 0 ∷
    event 0 kind.Handle 0 8 5 ∷
    event 0 kind.Compensate 0 12 0 ∷
    event 0 kind.Solicit 0 0 0 ∷
    event 0 kind.Answer 0 0 0 ∷ []) ≡ false
unfolding digits
spoilt_event_cut_at_the_end = refl

pub spoilt_events_exchanged : agrees setting history 1 (
    event 0 kind.In 0 0 0 ∷
    event 0 kind.Install 0 0 0 ∷
    event 0 kind.Bind 0 0 0 ∷
    event 0 kind.Install 0 0 0 ∷
    event 0 kind.Raise 0 8 5 ∷
    event 0 kind.Reply 0 0 0 ∷
    event 0 kind.Handle 0 8 5 ∷
    event 0 kind.Compensate 0 12 0 ∷
    event 0 kind.Solicit 0 0 0 ∷
    event 0 kind.Answer 0 0 0 ∷
    event 0 kind.Finish 0 0 0 ∷ []) ≡ false
unfolding digits
spoilt_events_exchanged = refl

pub spoilt_left_in_the_middle : is_quiet setting 10000 (take 5 history) (sessions_at setting (take 5 history) 0 sessions) ≡ false
unfolding digits
spoilt_left_in_the_middle = refl

pub spoilt_call_left_out : agrees setting (with_at 5 [] history) 1 events_1 ≡ false
unfolding digits
spoilt_call_left_out = refl

pub spoilt_posted_too_soon : is_still setting 10000 (with_at 5 (record { actor = 4096; act = act.Post 2 0 (record { service = 0; op = (109 ∷ 111 ∷ 114 ∷ 101 ∷ 48 ∷ []); value = (node root.Void (field (110 ∷ 117 ∷ 109 ∷ []) (tree (node (root.Int (pos 0)) no_fields) no_trees) (field (115 ∷ 105 ∷ 100 ∷ []) (tree (node (root.Int (pos 1)) no_fields) no_trees) no_fields))) }) (answer.Refused reason.Correlation) } ∷ record { actor = 1; act = act.Reply 0 (outcome.Fault (69 ∷ 120 ∷ 112 ∷ 114 ∷ 70 ∷ 97 ∷ 117 ∷ 108 ∷ 116 ∷ []) (node root.Void no_fields)) } ∷ []) (with_at 12 [] history)) sessions ≡ false
unfolding digits
spoilt_posted_too_soon = refl

pub spoilt_posted_behind_the_start : is_still setting 10000 (record { actor = 0; act = act.Adopt 2 } ∷ with_at 1 [] history) sessions ≡ false
unfolding digits
spoilt_posted_behind_the_start = refl

-- what came in
abbrev postings : List Posting
postings = (
    record { calls = (call.Post (record { service = 0; op = (111 ∷ 112 ∷ 48 ∷ 48 ∷ []); value = (node (root.Int (pos 0)) no_fields) }) ∷ []) } ∷
    record { calls = [] } ∷
    record { calls = (call.Post (record { service = 0; op = (109 ∷ 111 ∷ 114 ∷ 101 ∷ 48 ∷ []); value = (node root.Void (field (110 ∷ 117 ∷ 109 ∷ []) (tree (node (root.Int (pos 0)) no_fields) no_trees) (field (115 ∷ 105 ∷ 100 ∷ []) (tree (node (root.Int (pos 1)) no_fields) no_trees) no_fields))) }) ∷ []) } ∷
    record { calls = (call.Post (record { service = 0; op = (111 ∷ 112 ∷ 48 ∷ 48 ∷ []); value = (node (root.Int (pos 2)) no_fields) }) ∷ []) } ∷
    record { calls = (call.Post (record { service = 0; op = (111 ∷ 112 ∷ 48 ∷ 48 ∷ []); value = (node (root.Text (195 ∷ 169 ∷ [])) no_fields) }) ∷ []) } ∷ [])

pub posted : posts_by first_worker history ≡ posts_of 0 postings
posted = refl

pub tells : told_from setting (past_of setting history) 0 postings ≡ (
    Some ((outcome.Fault (69 ∷ 120 ∷ 112 ∷ 114 ∷ 70 ∷ 97 ∷ 117 ∷ 108 ∷ 116 ∷ []) (node root.Void no_fields)) ∷ []) ∷
    Some [] ∷
    Some ((outcome.Refused reason.Correlation) ∷ []) ∷
    Some ((outcome.Fault (69 ∷ 120 ∷ 112 ∷ 114 ∷ 70 ∷ 97 ∷ 117 ∷ 108 ∷ 116 ∷ []) (node root.Void no_fields)) ∷ []) ∷
    Some ((outcome.Fault (69 ∷ 120 ∷ 112 ∷ 114 ∷ 70 ∷ 97 ∷ 117 ∷ 108 ∷ 116 ∷ []) (node root.Void no_fields)) ∷ []) ∷ [])
tells = refl

pub order : order_alone setting history first_worker 5 ≡ (0 ∷ 1 ∷ 2 ∷ 3 ∷ 4 ∷ [])
order = refl

pub noted : notes setting history ≡ (116 ∷ 49 ∷ 48 ∷ 10 ∷ 116 ∷ 49 ∷ 48 ∷ 10 ∷ 116 ∷ 49 ∷ 48 ∷ 10 ∷ [])
unfolding digits
noted = refl

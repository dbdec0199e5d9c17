-- A recorded run.
use Rattle.std.specs.Prelude.{◌≡◌, ℕ, pos, negsuc, Bool, true, false, List, [], ◌∷◌, take, Option, None, Some}
use Rattle.std.proofs.Common.{refl}
use Rattle.std.specs.Fmt.{digits}
use Rattle.jolie_trees.specs.declared.root.Root.TheVariants as root
use Rattle.jolie_trees.specs.Data.{Tree, node, Fields, no_fields, field, Trees, no_trees, tree}
use Rattle.behaviour_tree.specs.declared.types.RootKind.TheVariants as kinds
use Rattle.behaviour_tree.specs.declared.expr.CompareOp.TheVariants as compare
use Rattle.behaviour_tree.specs.declared.expr.SumOp.TheVariants as sums
use Rattle.behaviour_tree.specs.declared.expr.MulOp.TheVariants as muls
use Rattle.behaviour_tree.specs.declared.expr.CastKind.TheVariants as casts
use Rattle.behaviour_tree.specs.declared.behaviour.HandlerKey.TheVariants as key
use Rattle.behaviour_tree.specs.declared.program.Execution.TheVariants as execution
use Rattle.behaviour_tree.specs.declared.words.Event.{Event}
use Rattle.behaviour_tree.specs.declared.words.Kind.TheVariants as kind
use Rattle.behaviour_tree.specs.declared.words.Outcome.TheVariants as outcome
use Rattle.behaviour_tree.specs.declared.words.Reason.TheVariants as reason
use Rattle.behaviour_tree.specs.Data.{plain, named, undefined, no_type_fields, type_field, here, step, step_at, constant, at_path, count_at, defined_at, literal, any_of, all_of, compared, sum, product, minus, negation, cast, no_exps, exp, no_sum_parts, sum_part, no_mul_parts, mul_part, no_member_list, member_of, Proc, nothing, assign, undef, copy, bind, sequence, parallel, choose, repeat, choice, notify, solicit, install, throw, comp, inner_handler, scope, block, no_procs, proc, no_branches, one_way, request, no_handlers, handler, ProgramParts}
use Rattle.correlation.specs.declared.bind_reply.BindReply.TheVariants as binding
use Rattle.office_core.specs.declared.post.PostReply.TheVariants as answer
use Rattle.office_core.specs.declared.history.Placed.TheVariants as at
use Rattle.office_core.specs.declared.history.Act.TheVariants as act
use Rattle.office_core.specs.declared.history.Entry.{Entry}
use Rattle.office_core.specs.declared.front.CallIn.TheVariants as call
use Rattle.office_core.specs.declared.front.Posting.{Posting}
use Rattle.office_core.specs.Limits.{Setting, run_of, first_worker}
use Rattle.office_core.specs.Accepted.{past_of}
use Rattle.office_core.specs.Legal.{IsLegal}
use Rattle.run_record.specs.Agrees.{IsSession}
use Rattle.run_record.specs.Quiet.{before_stop, sessions_at}
use Rattle.run_record.specs.Answered.{stand_together}
use Rattle.run_record.specs.Postings.{posts_by, posts_of}
use Rattle.run_record.specs.Order.{order_alone}
use Rattle.run_record.specs.Outside.{notes}
use Rattle.test_trials.specs.Counts.{legal_entries, with_at}
use Rattle.test_trials.specs.Fronts.{told_from}
use Rattle.test_trials.specs.Sessions.{event, agrees}
use Rattle.test_trials.specs.Quiet.{is_quiet, is_still}
use Rattle.test_trials.specs.Collected.{are_collected}
use Rattle.test_trials.proofs.Told.{is_session}
use Rattle.std.specs.Prelude.{◌++◌}
use Rattle.run_record.specs.declared.record.Record.{Record}
use Rattle.run_record.specs.Run.{alone, workers, IsRun, IsSpent}
use Rattle.test_trials.proofs.Runs.{is_run, unstopped, unclosed, foreign, missing, too_many, restless}
use Rattle.run_record.specs.Order.{IsOrder}
use Rattle.test_trials.proofs.Workers.{is_run_of_workers, stranger, posts_apart, second_first, not_as_posted, not_without_one, not_twice}
use Rattle.test_trials.specs.Quiet.{can_act}
use Rattle.test_trials.proofs.Spends.{spends, is_spent, not_spent}

-- the program
abbrev program : ProgramParts
program = record {
  types = ((plain kinds.Any (type_field (99 ∷ []) 0 (Some 1) (plain kinds.Void no_type_fields) (type_field (97 ∷ []) 1 (Some 1) undefined no_type_fields))) ∷ (plain kinds.Long (type_field (110 ∷ []) 0 None (plain kinds.Any no_type_fields) (type_field (97 ∷ []) 0 (Some 3) (plain kinds.Int no_type_fields) no_type_fields))) ∷ (plain kinds.Int (type_field (97 ∷ []) 1 (Some 1) (plain kinds.Void no_type_fields) (type_field (98 ∷ []) 0 None undefined no_type_fields))) ∷ (plain kinds.Void (type_field (99 ∷ []) 1 (Some 2) (named 0) (type_field (97 ∷ []) 1 (Some 2) (named 1) no_type_fields))) ∷ (plain kinds.Void (type_field (115 ∷ 105 ∷ 100 ∷ []) 1 (Some 1) (plain kinds.Long no_type_fields) (type_field (110 ∷ 117 ∷ 109 ∷ []) 1 (Some 1) (plain kinds.Int no_type_fields) (type_field (98 ∷ []) 0 (Some 1) undefined no_type_fields)))) ∷ (plain kinds.Void (type_field (115 ∷ 105 ∷ 100 ∷ []) 1 (Some 1) (plain kinds.Long no_type_fields) (type_field (110 ∷ 117 ∷ 109 ∷ []) 1 (Some 1) (plain kinds.Int no_type_fields) (type_field (98 ∷ []) 0 (Some 1) undefined no_type_fields)))) ∷ []);
  interfaces = (record { name = (73 ∷ 83 ∷ 48 ∷ []); operations = (record { name = (111 ∷ 112 ∷ 48 ∷ 48 ∷ []); request = (plain kinds.Int no_type_fields); response = (Some (plain kinds.Any no_type_fields)); throws = [] } ∷ record { name = (111 ∷ 112 ∷ 48 ∷ 49 ∷ []); request = (plain kinds.Void no_type_fields); response = None; throws = [] } ∷ []) } ∷ record { name = (73 ∷ 83 ∷ 49 ∷ []); operations = (record { name = (111 ∷ 112 ∷ 49 ∷ 48 ∷ []); request = (named 4); response = (Some undefined); throws = (record { fault = 9; ty = (plain kinds.Any no_type_fields) } ∷ record { fault = 2; ty = (plain kinds.Void no_type_fields) } ∷ []) } ∷ record { name = (111 ∷ 112 ∷ 49 ∷ 49 ∷ []); request = (plain kinds.Int no_type_fields); response = (Some (plain kinds.Int no_type_fields)); throws = (record { fault = 10; ty = undefined } ∷ []) } ∷ record { name = (111 ∷ 112 ∷ 49 ∷ 50 ∷ []); request = undefined; response = (Some (plain kinds.Void no_type_fields)); throws = [] } ∷ record { name = (109 ∷ 111 ∷ 114 ∷ 101 ∷ 49 ∷ []); request = (named 5); response = (Some undefined); throws = [] } ∷ record { name = (112 ∷ 117 ∷ 115 ∷ 104 ∷ 49 ∷ []); request = (named 5); response = None; throws = [] } ∷ []) } ∷ record { name = (82 ∷ []); operations = (record { name = (97 ∷ 115 ∷ 107 ∷ []); request = (plain kinds.Int no_type_fields); response = (Some undefined); throws = (record { fault = 9; ty = (plain kinds.Void no_type_fields) } ∷ []) } ∷ record { name = (116 ∷ 101 ∷ 108 ∷ 108 ∷ []); request = undefined; response = None; throws = [] } ∷ []) } ∷ []);
  services = (record { name = (83 ∷ 48 ∷ []); execution = execution.Single; ports = (record { name = (73 ∷ 110 ∷ []); input = true; location = (115 ∷ 111 ∷ 99 ∷ 107 ∷ 101 ∷ 116 ∷ 58 ∷ 47 ∷ 47 ∷ 108 ∷ 111 ∷ 99 ∷ 97 ∷ 108 ∷ 104 ∷ 111 ∷ 115 ∷ 116 ∷ 58 ∷ 56 ∷ 48 ∷ 48 ∷ 48 ∷ []); interfaces = (0 ∷ []) } ∷ record { name = (80 ∷ 83 ∷ 49 ∷ []); input = false; location = (108 ∷ 111 ∷ 99 ∷ 97 ∷ 108 ∷ 58 ∷ 47 ∷ 47 ∷ 108 ∷ 49 ∷ []); interfaces = (1 ∷ []) } ∷ []); sets = []; init = nothing; main = (parallel (proc (sequence (proc (install (handler key.This (sequence (proc (solicit 2 0 (constant (root.Text (116 ∷ 49 ∷ []))) None no_handlers) (proc (assign (step (97 ∷ []) here) (at_path (step (121 ∷ []) (step (110 ∷ []) here)))) (proc (copy (step (99 ∷ []) (step (97 ∷ []) here)) (at_path (step (97 ∷ []) here))) no_procs)))) no_handlers)) (proc (choice (one_way 1 (Some (step (97 ∷ []) (step_at (97 ∷ []) (constant (root.Int (pos 1))) here))) nothing no_branches)) (proc (scope 11 (sequence (proc (install (handler (key.Fault 9) (sequence (proc (comp 11) (proc (comp 10) no_procs))) no_handlers)) (proc (block (parallel (proc (sequence (proc (solicit 2 0 (sum (constant (root.Text (116 ∷ 52 ∷ 57 ∷ []))) (sum_part sums.Plus (count_at (step (99 ∷ []) here)) no_sum_parts)) None no_handlers) (proc (throw 9 (at_path (step_at (97 ∷ []) (constant (root.Int (pos 1))) here))) no_procs))) (proc (sequence (proc (solicit 1 0 (literal (member_of (115 ∷ 105 ∷ 100 ∷ []) (constant (root.Long (pos 8))) (member_of (110 ∷ 117 ∷ 109 ∷ []) (constant (root.Int (pos 9))) no_member_list))) (Some (step (120 ∷ []) (step (98 ∷ []) here))) (handler key.This (sequence (proc (assign (step (121 ∷ []) (step (97 ∷ []) here)) (sum (at_path (step (121 ∷ []) (step (97 ∷ []) here))) (sum_part sums.Plus (constant (root.Int (pos 1))) no_sum_parts))) (proc (assign (step (121 ∷ []) (step (99 ∷ []) here)) (sum (at_path (step (121 ∷ []) (step (99 ∷ []) here))) (sum_part sums.Plus (constant (root.Int (pos 1))) no_sum_parts))) (proc (scope 12 (sequence (proc (install (handler (key.Fault 10) (sequence (proc (solicit 2 0 (sum (constant (root.Text (116 ∷ 50 ∷ 55 ∷ []))) (sum_part sums.Plus (count_at (step (121 ∷ []) here)) no_sum_parts)) None no_handlers) (proc (solicit 2 0 (sum (constant (root.Text (116 ∷ 50 ∷ 54 ∷ []))) (sum_part sums.Plus (cast casts.Text (at_path (step (120 ∷ []) (step (99 ∷ []) here)))) no_sum_parts)) None no_handlers) no_procs))) (handler (key.Fault 5) (sequence (proc (comp 12) (proc (solicit 2 0 (constant (root.Text (116 ∷ 50 ∷ 56 ∷ []))) None no_handlers) no_procs))) no_handlers))) (proc (block (parallel (proc (sequence (proc (install (handler key.This (sequence (proc (assign (step_at (120 ∷ []) (constant (root.Int (pos 0))) here) (constant (root.Int (pos 3)))) (proc (solicit 2 0 (constant (root.Text (116 ∷ 51 ∷ 49 ∷ []))) None no_handlers) no_procs))) no_handlers)) (proc (solicit 2 0 (constant (root.Text (116 ∷ 51 ∷ 50 ∷ []))) None no_handlers) (proc (solicit 2 0 (constant (root.Text (116 ∷ 51 ∷ 51 ∷ []))) None no_handlers) (proc (solicit 2 0 (constant (root.Text (116 ∷ 51 ∷ 52 ∷ []))) None no_handlers) no_procs))))) (proc (install (handler (key.Fault 10) (sequence (proc inner_handler (proc (copy (step (121 ∷ []) here) (product (count_at (step (121 ∷ []) (step (99 ∷ []) (step (97 ∷ []) here)))) (mul_part muls.Over (constant (root.Int (pos 7))) no_mul_parts))) (proc (scope 13 (sequence (proc (assign (step (121 ∷ []) here) (sum (constant (root.Text [])) (sum_part sums.Plus (at_path (step (121 ∷ []) here)) no_sum_parts))) (proc (assign (step (99 ∷ []) (step (110 ∷ []) here)) (product (literal (member_of (99 ∷ []) (count_at (step (120 ∷ []) (step (97 ∷ []) here))) no_member_list)) (mul_part muls.Over (sum (at_path (step (99 ∷ []) here)) (sum_part sums.Plus (constant (root.Text (107 ∷ []))) no_sum_parts)) (mul_part muls.Over (at_path (step (98 ∷ []) here)) no_mul_parts)))) (proc (copy (step (121 ∷ []) here) (cast casts.Long (literal (member_of (97 ∷ []) (constant (root.Int (pos 2))) (member_of (97 ∷ []) (constant (root.Text (53 ∷ []))) no_member_list))))) no_procs))))) no_procs)))) no_handlers)) (proc (sequence (proc (install (handler key.This (sequence (proc (assign (step (121 ∷ []) (step (98 ∷ []) here)) (sum (at_path (step (121 ∷ []) (step (98 ∷ []) here))) (sum_part sums.Plus (constant (root.Int (pos 1))) no_sum_parts))) (proc (throw 5 (constant root.Void)) (proc (assign (step (120 ∷ []) (step (97 ∷ []) here)) (literal (member_of (99 ∷ []) (sum (constant (root.Text (107 ∷ []))) (sum_part sums.Plus (at_path (step_at (120 ∷ []) (at_path (step (97 ∷ []) here)) here)) (sum_part sums.Plus (constant (root.Text (46 ∷ []))) no_sum_parts))) no_member_list))) (proc (assign (step (120 ∷ []) here) (at_path (step (97 ∷ []) here))) no_procs))))) no_handlers)) (proc (solicit 1 2 (constant (root.Int (pos 3))) (Some (step (120 ∷ []) here)) no_handlers) (proc (throw 9 (constant root.Void)) no_procs)))) (proc (throw 5 (at_path (step (121 ∷ []) (step (98 ∷ []) here)))) no_procs)))))) no_procs)))) (proc (assign (step (120 ∷ []) here) (sum (constant (root.Text (45 ∷ []))) (sum_part sums.Plus (count_at (step_at (98 ∷ []) (constant (root.Int (pos 1))) (step (97 ∷ []) here))) no_sum_parts))) no_procs))))) (handler (key.Fault 5) (sequence (proc inner_handler (proc (scope 11 (sequence (proc (scope 13 (sequence (proc (install (handler key.This (sequence (proc (scope 12 (sequence (proc (solicit 2 0 (constant (root.Text (116 ∷ 52 ∷ 50 ∷ []))) None no_handlers) (proc (assign (step (97 ∷ []) (step (97 ∷ []) (step_at (99 ∷ []) (at_path (step (121 ∷ []) (step (97 ∷ []) here))) here))) (sum (constant (root.Text (107 ∷ []))) (sum_part sums.Plus (count_at (step (97 ∷ []) here)) no_sum_parts))) (proc (copy (step_at (99 ∷ []) (constant (root.Int (pos 2))) here) (constant (root.Bool false))) no_procs))))) (proc nothing no_procs))) no_handlers)) (proc (solicit 2 0 (constant (root.Text (116 ∷ 52 ∷ 52 ∷ []))) None no_handlers) no_procs)))) (proc (install (handler (key.Fault 10) (sequence (proc (comp 11) (proc (comp 13) no_procs))) (handler (key.Fault 14) (sequence (proc (comp 13) (proc (comp 11) no_procs))) (handler key.This (sequence (proc (assign (step (121 ∷ []) (step (97 ∷ []) here)) (sum (at_path (step (121 ∷ []) (step (97 ∷ []) here))) (sum_part sums.Plus (constant (root.Int (pos 1))) no_sum_parts))) (proc (throw 9 (sum (constant (root.Text (107 ∷ []))) (sum_part sums.Plus (at_path (step (120 ∷ []) here)) no_sum_parts))) no_procs))) no_handlers)))) (proc (block (parallel (proc (sequence (proc (assign (step (121 ∷ []) here) (literal (member_of (97 ∷ []) (sum (constant (root.Text (107 ∷ []))) (sum_part sums.Plus (count_at (step (121 ∷ []) (step (98 ∷ []) here))) no_sum_parts)) (member_of (97 ∷ []) (constant (root.Int (pos 3))) (member_of (99 ∷ []) (count_at (step_at (98 ∷ []) (constant (root.Int (pos 1))) (step (97 ∷ []) here))) no_member_list))))) (proc (throw 10 (constant root.Void)) no_procs))) (proc (sequence (proc (solicit 1 3 (literal (member_of (115 ∷ 105 ∷ 100 ∷ []) (constant (root.Long (pos 8))) (member_of (110 ∷ 117 ∷ 109 ∷ []) (constant (root.Int (pos 7))) no_member_list))) (Some (step (97 ∷ []) (step (97 ∷ []) here))) no_handlers) (proc (assign (step_at (121 ∷ []) (constant (root.Int (pos 1))) here) (at_path (step_at (98 ∷ []) (at_path (step (97 ∷ []) here)) (step (110 ∷ []) here)))) no_procs))) no_procs)))) no_procs))))) no_procs))) no_handlers))) (proc (solicit 2 0 (constant (root.Text (116 ∷ 52 ∷ 53 ∷ []))) None no_handlers) no_procs))) (proc (sequence (proc (install (handler key.This (sequence (proc (solicit 2 0 (sum (constant (root.Text (116 ∷ 52 ∷ 54 ∷ []))) (sum_part sums.Plus (count_at (step (99 ∷ []) here)) no_sum_parts)) None no_handlers) (proc (solicit 2 0 (constant (root.Text (116 ∷ 52 ∷ 55 ∷ []))) None no_handlers) (proc (assign (step (121 ∷ []) (step (98 ∷ []) (step_at (98 ∷ []) (at_path (step (121 ∷ []) (step (97 ∷ []) here))) here))) (at_path (step (120 ∷ []) here))) no_procs)))) no_handlers)) (proc (solicit 1 1 (constant (root.Int (pos 4))) (Some (step (120 ∷ []) (step (99 ∷ []) here))) (handler key.This (assign (step (121 ∷ []) (step (99 ∷ []) here)) (sum (at_path (step (121 ∷ []) (step (99 ∷ []) here))) (sum_part sums.Plus (constant (root.Int (pos 1))) no_sum_parts))) no_handlers)) (proc (assign (step (121 ∷ []) (step (99 ∷ []) (step (97 ∷ []) here))) (product (count_at (step (121 ∷ []) (step (97 ∷ []) here))) (mul_part muls.Rest (constant (root.Int (pos 7))) no_mul_parts))) no_procs)))) no_procs))))) no_procs)))) (proc (assign (step (120 ∷ []) (step (97 ∷ []) here)) (literal (member_of (98 ∷ []) (constant (root.Bool false)) no_member_list))) no_procs))))) (proc (choice (one_way 1 (Some (step_at (120 ∷ []) (constant (root.Int (pos 0))) here)) (solicit 2 0 (constant (root.Text (116 ∷ 53 ∷ 48 ∷ []))) None no_handlers) no_branches)) no_procs))) } ∷ record { name = (83 ∷ 49 ∷ []); execution = execution.Concurrent; ports = (record { name = (73 ∷ 110 ∷ []); input = true; location = (108 ∷ 111 ∷ 99 ∷ 97 ∷ 108 ∷ 58 ∷ 47 ∷ 47 ∷ 108 ∷ 49 ∷ []); interfaces = (1 ∷ []) } ∷ record { name = (82 ∷ []); input = false; location = (115 ∷ 111 ∷ 99 ∷ 107 ∷ 101 ∷ 116 ∷ 58 ∷ 47 ∷ 47 ∷ 108 ∷ 111 ∷ 99 ∷ 97 ∷ 108 ∷ 104 ∷ 111 ∷ 115 ∷ 116 ∷ 58 ∷ 57 ∷ 47 ∷ 120 ∷ []); interfaces = (2 ∷ []) } ∷ []); sets = (record { variables = (record { name = (115 ∷ 105 ∷ 100 ∷ []); aliases = (record { ty = 5; path = ((115 ∷ 105 ∷ 100 ∷ []) ∷ []) } ∷ []) } ∷ record { name = (110 ∷ 117 ∷ 109 ∷ []); aliases = (record { ty = 5; path = ((110 ∷ 117 ∷ 109 ∷ []) ∷ []) } ∷ []) } ∷ []) } ∷ []); init = nothing; main = (sequence (proc (install (handler (key.Fault 9) (sequence (proc (comp 13) (proc (solicit 2 0 (constant (root.Text (116 ∷ 53 ∷ 50 ∷ []))) None no_handlers) no_procs))) (handler (key.Fault 14) nothing (handler (key.Fault 15) nothing (handler (key.Fault 10) (sequence (proc (comp 10) (proc (solicit 2 0 (sum (constant (root.Text (116 ∷ 53 ∷ 56 ∷ []))) (sum_part sums.Plus (count_at (step (121 ∷ []) here)) no_sum_parts)) None no_handlers) no_procs))) (handler (key.Fault 5) (comp 10) (handler (key.Fault 1) (comp 10) (handler (key.Fault 3) (solicit 2 0 (sum (constant (root.Text (116 ∷ 54 ∷ 51 ∷ []))) (sum_part sums.Plus (cast casts.Text (at_path (step (98 ∷ []) here))) no_sum_parts)) None no_handlers) (handler (key.Fault 2) (comp 10) (handler (key.Fault 4) (solicit 2 0 (constant (root.Text (116 ∷ 54 ∷ 55 ∷ []))) None no_handlers) (handler (key.Fault 0) (sequence (proc (comp 13) (proc (solicit 2 0 (sum (constant (root.Text (116 ∷ 55 ∷ 48 ∷ []))) (sum_part sums.Plus (count_at (step (121 ∷ []) here)) no_sum_parts)) None no_handlers) no_procs))) (handler (key.Fault 7) (solicit 2 0 (constant (root.Text (116 ∷ 55 ∷ 49 ∷ []))) None no_handlers) (handler (key.Fault 6) (comp 10) no_handlers))))))))))))) (proc (scope 11 (sequence (proc (choice (request 0 (Some (step_at (120 ∷ []) (constant (root.Int (pos 0))) here)) (Some (step_at (121 ∷ []) (constant (root.Int (pos 0))) here)) (sequence (proc (solicit 2 0 (constant (root.Text (116 ∷ 55 ∷ 53 ∷ []))) None no_handlers) (proc (choose (any_of (exp (negation (defined_at (step (121 ∷ []) here))) (exp (defined_at (step (120 ∷ []) here)) no_exps))) (sequence (proc (scope 10 (sequence (proc (install (handler (key.Fault 14) (sequence (proc (solicit 2 0 (sum (constant (root.Text (116 ∷ 55 ∷ 54 ∷ []))) (sum_part sums.Plus (cast casts.Text (at_path (step (97 ∷ []) (step (110 ∷ []) (step (110 ∷ []) here))))) no_sum_parts)) None no_handlers) (proc (scope 11 (sequence (proc (install (handler (key.Fault 10) (sequence (proc (comp 11) (proc (scope 13 (sequence (proc (assign (step (121 ∷ []) here) (at_path (step (99 ∷ []) here))) (proc (solicit 2 0 (sum (constant (root.Text (116 ∷ 55 ∷ 56 ∷ []))) (sum_part sums.Plus (cast casts.Text (at_path (step (98 ∷ []) here))) no_sum_parts)) None no_handlers) (proc (copy (step (99 ∷ []) here) (at_path (step (97 ∷ []) here))) (proc (solicit 2 0 (constant (root.Text (116 ∷ 55 ∷ 57 ∷ []))) None no_handlers) no_procs)))))) (proc (scope 13 (solicit 2 0 (constant (root.Text (116 ∷ 56 ∷ 48 ∷ []))) None no_handlers)) no_procs)))) (handler key.This (sequence (proc (block (parallel (proc (sequence (proc nothing (proc (assign (step (98 ∷ []) here) (at_path (step (120 ∷ []) here))) (proc (assign (step_at (97 ∷ []) (count_at (step (97 ∷ []) here)) here) (sum (at_path (step_at (97 ∷ []) (count_at (step (97 ∷ []) here)) here)) (sum_part sums.Plus (constant (root.Int (pos 1))) no_sum_parts))) no_procs)))) (proc (assign (step (98 ∷ []) (step (98 ∷ []) here)) (sum (at_path (step (98 ∷ []) (step (98 ∷ []) here))) (sum_part sums.Minus (constant (root.Int (pos 1))) no_sum_parts))) no_procs)))) (proc (solicit 2 0 (constant (root.Text (116 ∷ 56 ∷ 50 ∷ []))) None no_handlers) no_procs))) no_handlers))) (proc (install (handler key.This (sequence (proc inner_handler (proc (comp 12) no_procs))) no_handlers)) (proc (block (parallel (proc (throw 10 (constant root.Void)) (proc (scope 11 (sequence (proc (install (handler key.This (sequence (proc (solicit 2 0 (sum (constant (root.Text (116 ∷ 56 ∷ 54 ∷ []))) (sum_part sums.Plus (cast casts.Text (at_path (step (97 ∷ []) (step (110 ∷ []) here)))) no_sum_parts)) None no_handlers) (proc (solicit 2 0 (sum (constant (root.Text (116 ∷ 56 ∷ 55 ∷ []))) (sum_part sums.Plus (cast casts.Text (at_path (step (120 ∷ []) here))) no_sum_parts)) None no_handlers) (proc (throw 14 (at_path (step (120 ∷ []) here))) no_procs)))) no_handlers)) (proc (copy (step (98 ∷ []) here) (product (at_path (step (120 ∷ []) (step (98 ∷ []) here))) (mul_part muls.Rest (at_path (step (98 ∷ []) (step (99 ∷ []) here))) (mul_part muls.Rest (constant (root.Int (pos 7))) no_mul_parts)))) (proc (assign (step (121 ∷ []) (step (97 ∷ []) (step (110 ∷ []) here))) (sum (constant (root.Text (45 ∷ []))) (sum_part sums.Plus (at_path (step (97 ∷ []) here)) no_sum_parts))) no_procs))))) (proc (sequence (proc (install (handler key.This (sequence (proc (assign (step (121 ∷ []) (step (97 ∷ []) here)) (sum (at_path (step (121 ∷ []) (step (97 ∷ []) here))) (sum_part sums.Plus (constant (root.Int (pos 1))) no_sum_parts))) (proc (copy (step (98 ∷ []) here) (sum (constant (root.Text (45 ∷ []))) (sum_part sums.Plus (at_path (step (99 ∷ []) here)) (sum_part sums.Plus (constant (root.Text (46 ∷ []))) no_sum_parts)))) (proc (solicit 2 0 (constant (root.Text (116 ∷ 56 ∷ 53 ∷ []))) None no_handlers) no_procs)))) no_handlers)) (proc (undef (step_at (121 ∷ []) (count_at (step (97 ∷ []) here)) here)) no_procs))) no_procs))))) no_procs))))) (proc (assign (step (99 ∷ []) here) (sum (at_path (step (99 ∷ []) here)) (sum_part sums.Plus (constant (root.Int (pos 1))) no_sum_parts))) no_procs)))) no_handlers)) (proc (copy (step (98 ∷ []) here) (sum (constant (root.Text [])) (sum_part sums.Plus (at_path (step (98 ∷ []) (step (99 ∷ []) here))) (sum_part sums.Plus (constant (root.Text (46 ∷ []))) no_sum_parts)))) (proc (copy (step (98 ∷ []) here) (literal no_member_list)) (proc (throw 14 (constant root.Void)) no_procs)))))) (proc (copy (step (97 ∷ []) (step (97 ∷ []) (step_at (99 ∷ []) (at_path (step (121 ∷ []) (step (97 ∷ []) here))) here))) (constant (root.Text (45 ∷ 49 ∷ 50 ∷ [])))) no_procs))) nothing) (proc (assign (step (98 ∷ []) here) (constant (root.Text (53 ∷ [])))) no_procs)))) nothing (request 1 (Some (step_at (98 ∷ []) (constant (root.Int (pos 1))) (step_at (98 ∷ []) (constant (root.Int (pos 1))) here))) (Some (step_at (121 ∷ []) (constant (root.Int (pos 0))) here)) nothing nothing (request 2 (Some (step (120 ∷ []) here)) (Some (step_at (121 ∷ []) (constant (root.Int (pos 0))) here)) nothing nothing no_branches)))) (proc (bind 0 (constant (root.Text (107 ∷ 48 ∷ [])))) (proc (bind 1 (constant (root.Int (pos 0)))) (proc (choice (request 3 None (Some (step (121 ∷ []) here)) nothing nothing no_branches)) (proc (assign (step (99 ∷ []) here) (sum (at_path (step (99 ∷ []) here)) (sum_part sums.Plus (constant (root.Int (pos 1))) no_sum_parts))) (proc (copy (step (97 ∷ []) here) (sum (constant (root.Text (45 ∷ []))) (sum_part sums.Plus (at_path (step (97 ∷ []) here)) no_sum_parts))) (proc (assign (step (120 ∷ []) (step (99 ∷ []) (step (98 ∷ []) here))) (sum (at_path (step (120 ∷ []) (step (99 ∷ []) (step (98 ∷ []) here)))) (sum_part sums.Minus (constant (root.Int (pos 1))) no_sum_parts))) no_procs))))))))) (proc (solicit 2 0 (sum (constant (root.Text (116 ∷ 57 ∷ 52 ∷ []))) (sum_part sums.Plus (count_at (step (121 ∷ []) here)) no_sum_parts)) None no_handlers) (proc (assign (step (98 ∷ []) here) (literal (member_of (99 ∷ []) (at_path (step (99 ∷ []) (step (98 ∷ []) here))) (member_of (97 ∷ []) (constant (root.Text (107 ∷ []))) no_member_list)))) (proc (undef (step (98 ∷ []) here)) no_procs)))))) } ∷ []);
  names = ((73 ∷ 79 ∷ 69 ∷ 120 ∷ 99 ∷ 101 ∷ 112 ∷ 116 ∷ 105 ∷ 111 ∷ 110 ∷ []) ∷ (84 ∷ 121 ∷ 112 ∷ 101 ∷ 77 ∷ 105 ∷ 115 ∷ 109 ∷ 97 ∷ 116 ∷ 99 ∷ 104 ∷ []) ∷ (67 ∷ 111 ∷ 114 ∷ 114 ∷ 101 ∷ 108 ∷ 97 ∷ 116 ∷ 105 ∷ 111 ∷ 110 ∷ 69 ∷ 114 ∷ 114 ∷ 111 ∷ 114 ∷ []) ∷ (82 ∷ 101 ∷ 102 ∷ 117 ∷ 115 ∷ 101 ∷ 100 ∷ []) ∷ (85 ∷ 110 ∷ 100 ∷ 101 ∷ 99 ∷ 108 ∷ 97 ∷ 114 ∷ 101 ∷ 100 ∷ 70 ∷ 97 ∷ 117 ∷ 108 ∷ 116 ∷ []) ∷ (69 ∷ 120 ∷ 112 ∷ 114 ∷ 70 ∷ 97 ∷ 117 ∷ 108 ∷ 116 ∷ []) ∷ (72 ∷ 97 ∷ 110 ∷ 100 ∷ 108 ∷ 101 ∷ 114 ∷ 84 ∷ 111 ∷ 111 ∷ 76 ∷ 97 ∷ 114 ∷ 103 ∷ 101 ∷ []) ∷ (83 ∷ 116 ∷ 111 ∷ 114 ∷ 101 ∷ 84 ∷ 111 ∷ 111 ∷ 76 ∷ 97 ∷ 114 ∷ 103 ∷ 101 ∷ []) ∷ (109 ∷ 97 ∷ 105 ∷ 110 ∷ []) ∷ (102 ∷ []) ∷ (112 ∷ []) ∷ (114 ∷ []) ∷ (113 ∷ []) ∷ (115 ∷ []) ∷ (103 ∷ []) ∷ (104 ∷ []) ∷ []);
}

-- what its office works by
abbrev setting : Setting
setting = run_of program

-- its history
abbrev history : List Entry
history = (
    record { actor = 4096; act = act.Post 0 0 (record { service = 0; op = (111 ∷ 112 ∷ 48 ∷ 48 ∷ []); value = (node (root.Int (pos 2147483647)) no_fields) }) (answer.Accepted 0) } ∷
    record { actor = 0; act = act.Adopt 0 } ∷
    record { actor = 4096; act = act.Post 1 0 (record { service = 0; op = (111 ∷ 112 ∷ 48 ∷ 48 ∷ []); value = (node (root.Int (pos 0)) no_fields) }) (answer.Accepted 1) } ∷
    record { actor = 4096; act = act.Post 2 0 (record { service = 0; op = (111 ∷ 112 ∷ 48 ∷ 48 ∷ []); value = (node (root.Int (pos 0)) no_fields) }) (answer.Accepted 2) } ∷
    record { actor = 4096; act = act.Post 3 0 (record { service = 0; op = (111 ∷ 112 ∷ 48 ∷ 49 ∷ []); value = (node root.Void no_fields) }) (answer.Accepted 3) } ∷
    record { actor = 0; act = act.Take 3 } ∷
    record { actor = 0; act = act.Send 0 2 0 (node (root.Text (116 ∷ 53 ∷ 48 ∷ [])) no_fields) true at.Out } ∷
    record { actor = 4096; act = act.Fetch 0 0 } ∷
    record { actor = 4096; act = act.Answered 0 0 (outcome.Value (node root.Void no_fields)) } ∷
    record { actor = 0; act = act.Answer 0 (outcome.Value (node root.Void no_fields)) } ∷
    record { actor = 4096; act = act.Collect 3 (outcome.Value (node root.Void no_fields)) } ∷
    record { actor = 4096; act = act.Post 4 0 (record { service = 0; op = (111 ∷ 112 ∷ 48 ∷ 48 ∷ []); value = (node (root.Int (negsuc 0)) no_fields) }) (answer.Accepted 4) } ∷
    record { actor = 4096; act = act.Post 5 0 (record { service = 0; op = (111 ∷ 112 ∷ 49 ∷ 48 ∷ []); value = (node (root.Int (pos 2147483647)) no_fields) }) (answer.Refused reason.UnknownOperation) } ∷
    record { actor = 4096; act = act.Post 6 0 (record { service = 0; op = (111 ∷ 112 ∷ 48 ∷ 49 ∷ []); value = (node root.Void no_fields) }) (answer.Accepted 5) } ∷
    record { actor = 0; act = act.Take 5 } ∷
    record { actor = 0; act = act.Send 1 2 0 (node (root.Text (116 ∷ 52 ∷ 57 ∷ 48 ∷ [])) no_fields) true at.Out } ∷
    record { actor = 0; act = act.Send 2 1 0 (node root.Void (field (110 ∷ 117 ∷ 109 ∷ []) (tree (node (root.Int (pos 9)) no_fields) no_trees) (field (115 ∷ 105 ∷ 100 ∷ []) (tree (node (root.Long (pos 8)) no_fields) no_trees) no_fields))) true (at.At 6) } ∷
    record { actor = 0; act = act.Send 3 1 1 (node (root.Int (pos 4)) no_fields) true (at.At 7) } ∷
    record { actor = 1; act = act.Adopt 1 } ∷
    record { actor = 1; act = act.Take 6 } ∷
    record { actor = 1; act = act.Send 0 2 0 (node (root.Text (116 ∷ 55 ∷ 53 ∷ [])) no_fields) true at.Out } ∷
    record { actor = 2; act = act.Adopt 1 } ∷
    record { actor = 2; act = act.Take 7 } ∷
    record { actor = 2; act = act.Reply 7 (outcome.Fault (84 ∷ 121 ∷ 112 ∷ 101 ∷ 77 ∷ 105 ∷ 115 ∷ 109 ∷ 97 ∷ 116 ∷ 99 ∷ 104 ∷ []) (node root.Void no_fields)) } ∷
    record { actor = 2; act = act.Bind 0 (root.Text (107 ∷ 48 ∷ [])) binding.Bound } ∷
    record { actor = 2; act = act.Bind 1 (root.Int (pos 0)) binding.Bound } ∷
    record { actor = 4096; act = act.Fetch 0 1 } ∷
    record { actor = 4096; act = act.Answered 0 1 (outcome.Value (node root.Void no_fields)) } ∷
    record { actor = 4096; act = act.Fetch 1 0 } ∷
    record { actor = 4096; act = act.Answered 1 0 (outcome.Value (node root.Void no_fields)) } ∷
    record { actor = 0; act = act.Answer 1 (outcome.Value (node root.Void no_fields)) } ∷
    record { actor = 0; act = act.Answer 3 (outcome.Fault (84 ∷ 121 ∷ 112 ∷ 101 ∷ 77 ∷ 105 ∷ 115 ∷ 109 ∷ 97 ∷ 116 ∷ 99 ∷ 104 ∷ []) (node root.Void no_fields)) } ∷
    record { actor = 1; act = act.Answer 0 (outcome.Value (node root.Void no_fields)) } ∷
    record { actor = 1; act = act.Send 1 2 0 (node (root.Text (116 ∷ 55 ∷ 54 ∷ [])) no_fields) true at.Out } ∷
    record { actor = 4096; act = act.Fetch 1 1 } ∷
    record { actor = 4096; act = act.Answered 1 1 (outcome.Value (node root.Void no_fields)) } ∷
    record { actor = 1; act = act.Answer 1 (outcome.Value (node root.Void no_fields)) } ∷
    record { actor = 1; act = act.Send 2 2 0 (node (root.Text (116 ∷ 56 ∷ 54 ∷ [])) no_fields) true at.Out } ∷
    record { actor = 4096; act = act.Fetch 1 2 } ∷
    record { actor = 4096; act = act.Answered 1 2 (outcome.Value (node root.Void no_fields)) } ∷
    record { actor = 1; act = act.Answer 2 (outcome.Value (node root.Void no_fields)) } ∷
    record { actor = 1; act = act.Send 3 2 0 (node (root.Text (116 ∷ 56 ∷ 55 ∷ [])) no_fields) true at.Out } ∷
    record { actor = 4096; act = act.Fetch 1 3 } ∷
    record { actor = 4096; act = act.Answered 1 3 (outcome.Value (node root.Void no_fields)) } ∷
    record { actor = 1; act = act.Answer 3 (outcome.Value (node root.Void no_fields)) } ∷
    record { actor = 1; act = act.Send 4 2 0 (node (root.Text (116 ∷ 56 ∷ 53 ∷ [])) no_fields) true at.Out } ∷
    record { actor = 4096; act = act.Fetch 1 4 } ∷
    record { actor = 4096; act = act.Answered 1 4 (outcome.Value (node root.Void no_fields)) } ∷
    record { actor = 1; act = act.Answer 4 (outcome.Value (node root.Void no_fields)) } ∷
    record { actor = 1; act = act.Send 5 2 0 (node (root.Text (116 ∷ 55 ∷ 56 ∷ 45 ∷ 46 ∷ [])) no_fields) true at.Out } ∷
    record { actor = 4096; act = act.Fetch 1 5 } ∷
    record { actor = 4096; act = act.Answered 1 5 (outcome.Value (node root.Void no_fields)) } ∷
    record { actor = 1; act = act.Answer 5 (outcome.Value (node root.Void no_fields)) } ∷
    record { actor = 1; act = act.Send 6 2 0 (node (root.Text (116 ∷ 55 ∷ 57 ∷ [])) no_fields) true at.Out } ∷
    record { actor = 4096; act = act.Fetch 1 6 } ∷
    record { actor = 4096; act = act.Answered 1 6 (outcome.Value (node root.Void no_fields)) } ∷
    record { actor = 1; act = act.Answer 6 (outcome.Value (node root.Void no_fields)) } ∷
    record { actor = 1; act = act.Send 7 2 0 (node (root.Text (116 ∷ 56 ∷ 48 ∷ [])) no_fields) true at.Out } ∷
    record { actor = 4096; act = act.Fetch 1 7 } ∷
    record { actor = 4096; act = act.Answered 1 7 (outcome.Value (node root.Void no_fields)) } ∷
    record { actor = 1; act = act.Answer 7 (outcome.Value (node root.Void no_fields)) } ∷
    record { actor = 1; act = act.Reply 6 (outcome.Value (node root.Void (field (97 ∷ []) (tree (node (root.Int (pos 1)) no_fields) no_trees) no_fields))) } ∷
    record { actor = 1; act = act.Bind 0 (root.Text (107 ∷ 48 ∷ [])) binding.Bound } ∷
    record { actor = 1; act = act.Bind 1 (root.Int (pos 0)) (binding.Held 2) } ∷
    record { actor = 1; act = act.End } ∷
    record { actor = 0; act = act.Answer 2 (outcome.Value (node root.Void (field (97 ∷ []) (tree (node (root.Int (pos 1)) no_fields) no_trees) no_fields))) } ∷
    record { actor = 0; act = act.Send 4 2 0 (node (root.Text (116 ∷ 51 ∷ 50 ∷ [])) no_fields) true at.Out } ∷
    record { actor = 0; act = act.Send 5 1 2 (node (root.Int (pos 3)) no_fields) true (at.At 8) } ∷
    record { actor = 3; act = act.Adopt 1 } ∷
    record { actor = 3; act = act.Take 8 } ∷
    record { actor = 3; act = act.Reply 8 (outcome.Value (node root.Void no_fields)) } ∷
    record { actor = 3; act = act.Bind 0 (root.Text (107 ∷ 48 ∷ [])) binding.Bound } ∷
    record { actor = 3; act = act.Bind 1 (root.Int (pos 0)) (binding.Held 2) } ∷
    record { actor = 3; act = act.End } ∷
    record { actor = 4096; act = act.Fetch 0 4 } ∷
    record { actor = 4096; act = act.Answered 0 4 (outcome.Value (node root.Void no_fields)) } ∷
    record { actor = 0; act = act.Answer 4 (outcome.Value (node root.Void no_fields)) } ∷
    record { actor = 0; act = act.Answer 5 (outcome.Value (node root.Void no_fields)) } ∷
    record { actor = 0; act = act.Send 6 2 0 (node (root.Text (116 ∷ 52 ∷ 52 ∷ [])) no_fields) true at.Out } ∷
    record { actor = 4096; act = act.Fetch 0 6 } ∷
    record { actor = 4096; act = act.Answered 0 6 (outcome.Value (node root.Void no_fields)) } ∷
    record { actor = 0; act = act.Answer 6 (outcome.Value (node root.Void no_fields)) } ∷
    record { actor = 0; act = act.End } ∷
    record { actor = 4096; act = act.Collect 0 (outcome.Refused reason.SessionEnded) } ∷
    record { actor = 4096; act = act.Collect 1 (outcome.Refused reason.SessionEnded) } ∷
    record { actor = 4096; act = act.Collect 2 (outcome.Refused reason.SessionEnded) } ∷
    record { actor = 4096; act = act.Collect 4 (outcome.Refused reason.SessionEnded) } ∷
    record { actor = 4096; act = act.Collect 5 (outcome.Value (node root.Void no_fields)) } ∷
    record { actor = 4096; act = act.Post 7 0 (record { service = 0; op = (111 ∷ 112 ∷ 48 ∷ 49 ∷ []); value = (node root.Void no_fields) }) (answer.Refused reason.Correlation) } ∷
    record { actor = 4096; act = act.Post 8 0 (record { service = 0; op = (111 ∷ 112 ∷ 48 ∷ 49 ∷ []); value = (node root.Void no_fields) }) (answer.Refused reason.Correlation) } ∷
    record { actor = 4096; act = act.Post 9 0 (record { service = 0; op = (111 ∷ 112 ∷ 48 ∷ 48 ∷ []); value = (node (root.Int (pos 2)) no_fields) }) (answer.Refused reason.Correlation) } ∷
    record { actor = 4096; act = act.Post 10 0 (record { service = 0; op = (111 ∷ 112 ∷ 48 ∷ 48 ∷ []); value = (node root.Void no_fields) }) (answer.Refused reason.NotConforming) } ∷
    record { actor = 4096; act = act.Post 11 0 (record { service = 0; op = (111 ∷ 112 ∷ 48 ∷ 49 ∷ []); value = (node root.Void no_fields) }) (answer.Refused reason.Correlation) } ∷
    record { actor = 4096; act = act.Post 13 0 (record { service = 0; op = (111 ∷ 112 ∷ 48 ∷ 48 ∷ []); value = (node (root.Int (pos 2)) no_fields) }) (answer.Refused reason.Correlation) } ∷
    record { actor = 4096; act = act.Post 14 0 (record { service = 0; op = (111 ∷ 112 ∷ 48 ∷ 48 ∷ []); value = (node (root.Int (pos 0)) no_fields) }) (answer.Refused reason.Correlation) } ∷
    record { actor = 4096; act = act.Post 15 0 (record { service = 0; op = (111 ∷ 112 ∷ 48 ∷ 48 ∷ []); value = (node (root.Int (negsuc 0)) no_fields) }) (answer.Refused reason.Correlation) } ∷
    record { actor = 4096; act = act.Post 16 0 (record { service = 0; op = (111 ∷ 112 ∷ 48 ∷ 48 ∷ []); value = (node (root.Int (pos 0)) no_fields) }) (answer.Refused reason.Correlation) } ∷
    record { actor = 4096; act = act.Post 18 0 (record { service = 0; op = (111 ∷ 112 ∷ 48 ∷ 48 ∷ []); value = (node (root.Int (pos 3)) no_fields) }) (answer.Refused reason.Correlation) } ∷
    record { actor = 4096; act = act.Post 19 0 (record { service = 0; op = (111 ∷ 112 ∷ 48 ∷ 48 ∷ []); value = (node (root.Int (negsuc 0)) no_fields) }) (answer.Refused reason.Correlation) } ∷
    record { actor = 4096; act = act.Close } ∷
    record { actor = 4096; act = act.Stop } ∷ [])

pub legal : IsLegal setting history
legal = (record { allowed = refl; reply = refl }, (record { allowed = refl; reply = refl }, (record { allowed = refl; reply = refl }, (record { allowed = refl; reply = refl }, (record { allowed = refl; reply = refl }, (record { allowed = refl; reply = refl }, (record { allowed = refl; reply = refl }, (record { allowed = refl; reply = refl }, (record { allowed = refl; reply = refl }, (record { allowed = refl; reply = refl }, (record { allowed = refl; reply = refl }, (record { allowed = refl; reply = refl }, (record { allowed = refl; reply = refl }, (record { allowed = refl; reply = refl }, (record { allowed = refl; reply = refl }, (record { allowed = refl; reply = refl }, (record { allowed = refl; reply = refl }, (record { allowed = refl; reply = refl }, (record { allowed = refl; reply = refl }, (record { allowed = refl; reply = refl }, (record { allowed = refl; reply = refl }, (record { allowed = refl; reply = refl }, (record { allowed = refl; reply = refl }, (record { allowed = refl; reply = refl }, (record { allowed = refl; reply = refl }, (record { allowed = refl; reply = refl }, (record { allowed = refl; reply = refl }, (record { allowed = refl; reply = refl }, (record { allowed = refl; reply = refl }, (record { allowed = refl; reply = refl }, (record { allowed = refl; reply = refl }, (record { allowed = refl; reply = refl }, (record { allowed = refl; reply = refl }, (record { allowed = refl; reply = refl }, (record { allowed = refl; reply = refl }, (record { allowed = refl; reply = refl }, (record { allowed = refl; reply = refl }, (record { allowed = refl; reply = refl }, (record { allowed = refl; reply = refl }, (record { allowed = refl; reply = refl }, (record { allowed = refl; reply = refl }, (record { allowed = refl; reply = refl }, (record { allowed = refl; reply = refl }, (record { allowed = refl; reply = refl }, (record { allowed = refl; reply = refl }, (record { allowed = refl; reply = refl }, (record { allowed = refl; reply = refl }, (record { allowed = refl; reply = refl }, (record { allowed = refl; reply = refl }, (record { allowed = refl; reply = refl }, (record { allowed = refl; reply = refl }, (record { allowed = refl; reply = refl }, (record { allowed = refl; reply = refl }, (record { allowed = refl; reply = refl }, (record { allowed = refl; reply = refl }, (record { allowed = refl; reply = refl }, (record { allowed = refl; reply = refl }, (record { allowed = refl; reply = refl }, (record { allowed = refl; reply = refl }, (record { allowed = refl; reply = refl }, (record { allowed = refl; reply = refl }, (record { allowed = refl; reply = refl }, (record { allowed = refl; reply = refl }, (record { allowed = refl; reply = refl }, (record { allowed = refl; reply = refl }, (record { allowed = refl; reply = refl }, (record { allowed = refl; reply = refl }, (record { allowed = refl; reply = refl }, (record { allowed = refl; reply = refl }, (record { allowed = refl; reply = refl }, (record { allowed = refl; reply = refl }, (record { allowed = refl; reply = refl }, (record { allowed = refl; reply = refl }, (record { allowed = refl; reply = refl }, (record { allowed = refl; reply = refl }, (record { allowed = refl; reply = refl }, (record { allowed = refl; reply = refl }, (record { allowed = refl; reply = refl }, (record { allowed = refl; reply = refl }, (record { allowed = refl; reply = refl }, (record { allowed = refl; reply = refl }, (record { allowed = refl; reply = refl }, (record { allowed = refl; reply = refl }, (record { allowed = refl; reply = refl }, (record { allowed = refl; reply = refl }, (record { allowed = refl; reply = refl }, (record { allowed = refl; reply = refl }, (record { allowed = refl; reply = refl }, (record { allowed = refl; reply = refl }, (record { allowed = refl; reply = refl }, (record { allowed = refl; reply = refl }, (record { allowed = refl; reply = refl }, (record { allowed = refl; reply = refl }, (record { allowed = refl; reply = refl }, (record { allowed = refl; reply = refl }, (record { allowed = refl; reply = refl }, (record { allowed = refl; reply = refl }, (record { allowed = refl; reply = refl }, (record { allowed = refl; reply = refl }, (record { allowed = refl; reply = refl }, (record { allowed = refl; reply = refl }, tt)))))))))))))))))))))))))))))))))))))))))))))))))))))))))))))))))))))))))))))))))))))))))))))))))))))

pub spoilt_refused_without_cause : legal_entries setting (with_at 0 (record { actor = 4096; act = act.Post 0 0 (record { service = 0; op = (111 ∷ 112 ∷ 48 ∷ 48 ∷ []); value = (node (root.Int (pos 2147483647)) no_fields) }) (answer.Refused reason.Correlation) } ∷ []) history) ≡ 0
spoilt_refused_without_cause = refl

pub spoilt_bound_otherwise : legal_entries setting (with_at 24 (record { actor = 2; act = act.Bind 0 (root.Text (107 ∷ 48 ∷ [])) binding.Fixed } ∷ []) history) ≡ 24
spoilt_bound_otherwise = refl

pub spoilt_bound_again : legal_entries setting (with_at 24 (record { actor = 2; act = act.Bind 0 (root.Text (107 ∷ 48 ∷ [])) binding.Bound } ∷ record { actor = 2; act = act.Bind 0 (root.Text (107 ∷ 48 ∷ [])) binding.Bound } ∷ []) history) ≡ 25
spoilt_bound_again = refl

pub spoilt_ended_twice : legal_entries setting (with_at 64 (record { actor = 1; act = act.End } ∷ record { actor = 1; act = act.End } ∷ []) history) ≡ 65
spoilt_ended_twice = refl

-- the events of session 0
abbrev events_0 : List Event
events_0 = (
    event 1 kind.Install 0 0 0 ∷
    event 2 kind.In 3 0 0 ∷
    event 2 kind.Solicit 0 0 0 ∷
    event 2 kind.Answer 0 0 0 ∷
    event 1 kind.In 5 0 0 ∷
    event 1 kind.Install 0 0 0 ∷
    event 3 kind.Solicit 1 0 0 ∷
    event 4 kind.Solicit 2 0 0 ∷
    event 5 kind.Install 0 0 0 ∷
    event 5 kind.Solicit 3 0 0 ∷
    event 3 kind.Answer 1 0 0 ∷
    event 3 kind.Raise 0 11 9 ∷
    event 5 kind.Answer 3 0 0 ∷
    event 4 kind.Answer 2 0 0 ∷
    event 1 kind.Handle 0 11 9 ∷
    event 1 kind.Compensate 0 11 0 ∷
    event 1 kind.Local 0 0 0 ∷
    event 1 kind.Local 0 0 0 ∷
    event 1 kind.Install 0 0 0 ∷
    event 6 kind.Install 0 0 0 ∷
    event 6 kind.Solicit 4 0 0 ∷
    event 7 kind.Install 0 0 0 ∷
    event 8 kind.Install 0 0 0 ∷
    event 8 kind.Solicit 5 0 0 ∷
    event 9 kind.Raise 0 12 5 ∷
    event 6 kind.Answer 4 0 0 ∷
    event 8 kind.Answer 5 0 0 ∷
    event 1 kind.Handle 0 12 5 ∷
    event 1 kind.Compensate 0 12 0 ∷
    event 1 kind.Local 0 0 0 ∷
    event 1 kind.Raise 0 11 5 ∷
    event 1 kind.Handle 0 11 5 ∷
    event 1 kind.Install 0 0 0 ∷
    event 1 kind.Solicit 6 0 0 ∷
    event 1 kind.Answer 6 0 0 ∷
    event 1 kind.EndScope 0 13 0 ∷
    event 1 kind.Install 0 0 0 ∷
    event 10 kind.Local 0 0 0 ∷
    event 10 kind.Raise 0 11 10 ∷
    event 1 kind.Handle 0 11 10 ∷
    event 1 kind.Compensate 0 11 0 ∷
    event 1 kind.Local 0 0 0 ∷
    event 1 kind.Raise 2 8 9 ∷
    event 0 kind.Finish 0 0 0 ∷ [])

-- the events of session 1
abbrev events_1 : List Event
events_1 = (
    event 0 kind.Install 0 0 0 ∷
    event 0 kind.In 6 0 0 ∷
    event 0 kind.Solicit 0 0 0 ∷
    event 0 kind.Answer 0 0 0 ∷
    event 0 kind.Local 0 0 0 ∷
    event 0 kind.Install 0 0 0 ∷
    event 0 kind.Local 0 0 0 ∷
    event 0 kind.Local 0 0 0 ∷
    event 0 kind.Raise 0 10 14 ∷
    event 0 kind.Handle 0 10 14 ∷
    event 0 kind.Solicit 1 0 0 ∷
    event 0 kind.Answer 1 0 0 ∷
    event 0 kind.Install 0 0 0 ∷
    event 0 kind.Install 0 0 0 ∷
    event 2 kind.Install 0 0 0 ∷
    event 3 kind.Install 0 0 0 ∷
    event 1 kind.Raise 0 11 10 ∷
    event 2 kind.Handle 1 11 0 ∷
    event 2 kind.Solicit 2 0 0 ∷
    event 2 kind.Answer 2 0 0 ∷
    event 2 kind.Solicit 3 0 0 ∷
    event 2 kind.Answer 3 0 0 ∷
    event 2 kind.Raise 1 11 14 ∷
    event 0 kind.Handle 0 11 10 ∷
    event 0 kind.Compensate 0 11 0 ∷
    event 0 kind.Local 0 0 0 ∷
    event 0 kind.Local 0 0 0 ∷
    event 0 kind.Solicit 4 0 0 ∷
    event 0 kind.Answer 4 0 0 ∷
    event 0 kind.Local 0 0 0 ∷
    event 0 kind.Solicit 5 0 0 ∷
    event 0 kind.Answer 5 0 0 ∷
    event 0 kind.Local 0 0 0 ∷
    event 0 kind.Solicit 6 0 0 ∷
    event 0 kind.Answer 6 0 0 ∷
    event 0 kind.EndScope 0 13 0 ∷
    event 0 kind.Solicit 7 0 0 ∷
    event 0 kind.Answer 7 0 0 ∷
    event 0 kind.EndScope 0 13 0 ∷
    event 0 kind.EndScope 0 11 0 ∷
    event 0 kind.Local 0 0 0 ∷
    event 0 kind.EndScope 0 10 0 ∷
    event 0 kind.Local 0 0 0 ∷
    event 0 kind.Local 0 0 0 ∷
    event 0 kind.Reply 6 0 0 ∷
    event 0 kind.Bind 0 0 0 ∷
    event 0 kind.Bind 0 0 0 ∷
    event 0 kind.Raise 0 8 2 ∷
    event 0 kind.Handle 0 8 2 ∷
    event 0 kind.Compensate 0 10 0 ∷
    event 0 kind.Finish 0 0 0 ∷ [])

-- the events of session 2
abbrev events_2 : List Event
events_2 = (
    event 0 kind.Install 0 0 0 ∷
    event 0 kind.In 7 1 0 ∷
    event 0 kind.Reply 7 0 0 ∷
    event 0 kind.Bind 0 0 0 ∷
    event 0 kind.Bind 0 0 0 ∷ [])

-- the events of session 3
abbrev events_3 : List Event
events_3 = (
    event 0 kind.Install 0 0 0 ∷
    event 0 kind.In 8 2 0 ∷
    event 0 kind.Reply 8 0 0 ∷
    event 0 kind.Bind 0 0 0 ∷
    event 0 kind.Bind 0 0 0 ∷
    event 0 kind.Raise 0 8 2 ∷
    event 0 kind.Handle 0 8 2 ∷
    event 0 kind.Compensate 0 10 0 ∷
    event 0 kind.Finish 0 0 0 ∷ [])

-- the events of each session
abbrev sessions : List (List Event)
sessions = events_0 ∷ events_1 ∷ events_2 ∷ events_3 ∷ []

pub session_0 : IsSession setting history 0 events_0
unfolding digits
session_0 = is_session setting history 0 0 events_0 refl refl (refl, ((refl, refl, refl, refl, refl), (refl, (refl, ((refl, refl, refl, refl, refl), ((refl, refl, refl, refl, refl), ((refl, refl, refl, refl, refl), (refl, (refl, (refl, ((refl, refl, refl, refl, refl), ((refl, refl, refl, refl, refl), (refl, (refl, ((refl, refl, refl, refl, refl), (refl, (tt, tt)))))))))))))))))

pub session_1 : IsSession setting history 1 events_1
unfolding digits
session_1 = is_session setting history 1 1 events_1 refl refl (refl, ((refl, refl, refl, refl, refl), (refl, ((refl, refl, refl, refl, refl), (refl, ((refl, refl, refl, refl, refl), (refl, ((refl, refl, refl, refl, refl), (refl, ((refl, refl, refl, refl, refl), (refl, ((refl, refl, refl, refl, refl), (refl, ((refl, refl, refl, refl, refl), (refl, ((refl, refl, refl, refl, refl), (refl, ((refl, refl), ((refl, refl), ((refl, refl), (tt, tt)))))))))))))))))))))

pub session_2 : IsSession setting history 2 events_2
unfolding digits
session_2 = is_session setting history 2 1 events_2 refl refl (refl, ((refl, refl), ((refl, refl), ((refl, refl), tt))))

pub session_3 : IsSession setting history 3 events_3
unfolding digits
session_3 = is_session setting history 3 1 events_3 refl refl (refl, ((refl, refl), ((refl, refl), ((refl, refl), (tt, tt)))))

pub quiet : is_quiet setting 10000 (before_stop history) sessions ≡ true
unfolding digits
quiet = refl

pub still : is_still setting 10000 history sessions ≡ true
unfolding digits
still = refl

pub collected : are_collected setting history ≡ true
unfolding digits
collected = refl

pub together : stand_together history ≡ true
together = refl

pub run : (r : Record) → r.history.entries.items ≡ history → r.sessions ≡ sessions
    → IsRun setting 10000 alone false r
run = is_run setting 10000 history sessions
    (record { legal = legal; stopped = refl; actors = refl; all = refl; each = (session_0, (session_1, (session_2, (session_3, tt)))); within = refl; quiet = quiet; closed = refl; posted = together; still = still; collected = collected })

pub spoilt_run_without_its_stop : (r : Record) → r.history.entries.items ≡ (with_at 100 [] history) → IsRun setting 10000 alone false r → ⊥
spoilt_run_without_its_stop r has = unstopped setting 10000 false (with_at 100 [] history) r has refl

pub spoilt_run_that_is_not_closed : (r : Record) → r.history.entries.items ≡ (with_at 99 [] history) → IsRun setting 10000 alone false r → ⊥
spoilt_run_that_is_not_closed r has = unclosed setting 10000 false (with_at 99 [] history) r has refl

pub spoilt_run_stopped_by_another : (r : Record) → r.history.entries.items ≡ (with_at 100 (record { actor = 4097; act = act.Stop } ∷ []) history) → IsRun setting 10000 alone false r → ⊥
spoilt_run_stopped_by_another r has = foreign setting 10000 false (with_at 100 (record { actor = 4097; act = act.Stop } ∷ []) history) r has refl

pub spoilt_run_that_lacks_a_session : (r : Record) → r.history.entries.items ≡ history → r.sessions ≡ (events_1 ∷ events_2 ∷ events_3 ∷ [])
    → IsRun setting 10000 alone false r → ⊥
spoilt_run_that_lacks_a_session r has events = missing setting 10000 false history r has (events_1 ∷ events_2 ∷ events_3 ∷ []) events refl

pub spoilt_run_over_its_budget : (r : Record) → r.history.entries.items ≡ history → r.sessions ≡ sessions
    → IsRun setting 50 alone false r → ⊥
spoilt_run_over_its_budget r has events =
    too_many setting 50 false history r has sessions events 1 events_1 refl refl

pub spoilt_event_cut_at_the_end : agrees setting history 0 (
    event 1 kind.Install 0 0 0 ∷
    event 2 kind.In 3 0 0 ∷
    event 2 kind.Solicit 0 0 0 ∷
    event 2 kind.Answer 0 0 0 ∷
    event 1 kind.In 5 0 0 ∷
    event 1 kind.Install 0 0 0 ∷
    event 3 kind.Solicit 1 0 0 ∷
    event 4 kind.Solicit 2 0 0 ∷
    event 5 kind.Install 0 0 0 ∷
    event 5 kind.Solicit 3 0 0 ∷
    event 3 kind.Answer 1 0 0 ∷
    event 3 kind.Raise 0 11 9 ∷
    event 5 kind.Answer 3 0 0 ∷
    event 4 kind.Answer 2 0 0 ∷
    event 1 kind.Handle 0 11 9 ∷
    event 1 kind.Compensate 0 11 0 ∷
    event 1 kind.Local 0 0 0 ∷
    event 1 kind.Local 0 0 0 ∷
    event 1 kind.Install 0 0 0 ∷
    event 6 kind.Install 0 0 0 ∷
    event 6 kind.Solicit 4 0 0 ∷
    event 7 kind.Install 0 0 0 ∷
    event 8 kind.Install 0 0 0 ∷
    event 8 kind.Solicit 5 0 0 ∷
    event 9 kind.Raise 0 12 5 ∷
    event 6 kind.Answer 4 0 0 ∷
    event 8 kind.Answer 5 0 0 ∷
    event 1 kind.Handle 0 12 5 ∷
    event 1 kind.Compensate 0 12 0 ∷
    event 1 kind.Local 0 0 0 ∷
    event 1 kind.Raise 0 11 5 ∷
    event 1 kind.Handle 0 11 5 ∷
    event 1 kind.Install 0 0 0 ∷
    event 1 kind.Solicit 6 0 0 ∷
    event 1 kind.Answer 6 0 0 ∷
    event 1 kind.EndScope 0 13 0 ∷
    event 1 kind.Install 0 0 0 ∷
    event 10 kind.Local 0 0 0 ∷
    event 10 kind.Raise 0 11 10 ∷
    event 1 kind.Handle 0 11 10 ∷
    event 1 kind.Compensate 0 11 0 ∷
    event 1 kind.Local 0 0 0 ∷
    event 1 kind.Raise 2 8 9 ∷ []) ≡ false
unfolding digits
spoilt_event_cut_at_the_end = refl

pub spoilt_events_exchanged : agrees setting history 0 (
    event 1 kind.Install 0 0 0 ∷
    event 2 kind.Solicit 0 0 0 ∷
    event 2 kind.In 3 0 0 ∷
    event 2 kind.Answer 0 0 0 ∷
    event 1 kind.In 5 0 0 ∷
    event 1 kind.Install 0 0 0 ∷
    event 3 kind.Solicit 1 0 0 ∷
    event 4 kind.Solicit 2 0 0 ∷
    event 5 kind.Install 0 0 0 ∷
    event 5 kind.Solicit 3 0 0 ∷
    event 3 kind.Answer 1 0 0 ∷
    event 3 kind.Raise 0 11 9 ∷
    event 5 kind.Answer 3 0 0 ∷
    event 4 kind.Answer 2 0 0 ∷
    event 1 kind.Handle 0 11 9 ∷
    event 1 kind.Compensate 0 11 0 ∷
    event 1 kind.Local 0 0 0 ∷
    event 1 kind.Local 0 0 0 ∷
    event 1 kind.Install 0 0 0 ∷
    event 6 kind.Install 0 0 0 ∷
    event 6 kind.Solicit 4 0 0 ∷
    event 7 kind.Install 0 0 0 ∷
    event 8 kind.Install 0 0 0 ∷
    event 8 kind.Solicit 5 0 0 ∷
    event 9 kind.Raise 0 12 5 ∷
    event 6 kind.Answer 4 0 0 ∷
    event 8 kind.Answer 5 0 0 ∷
    event 1 kind.Handle 0 12 5 ∷
    event 1 kind.Compensate 0 12 0 ∷
    event 1 kind.Local 0 0 0 ∷
    event 1 kind.Raise 0 11 5 ∷
    event 1 kind.Handle 0 11 5 ∷
    event 1 kind.Install 0 0 0 ∷
    event 1 kind.Solicit 6 0 0 ∷
    event 1 kind.Answer 6 0 0 ∷
    event 1 kind.EndScope 0 13 0 ∷
    event 1 kind.Install 0 0 0 ∷
    event 10 kind.Local 0 0 0 ∷
    event 10 kind.Raise 0 11 10 ∷
    event 1 kind.Handle 0 11 10 ∷
    event 1 kind.Compensate 0 11 0 ∷
    event 1 kind.Local 0 0 0 ∷
    event 1 kind.Raise 2 8 9 ∷
    event 0 kind.Finish 0 0 0 ∷ []) ≡ false
unfolding digits
spoilt_events_exchanged = refl

pub spoilt_left_in_the_middle : is_quiet setting 10000 (take 23 history) (sessions_at setting (take 23 history) 0 sessions) ≡ false
unfolding digits
spoilt_left_in_the_middle = refl

pub spoilt_call_left_out : agrees setting (with_at 23 [] history) 2 events_2 ≡ false
unfolding digits
spoilt_call_left_out = refl

pub spoilt_posted_too_soon : is_still setting 10000 (with_at 23 (record { actor = 4096; act = act.Post 7 0 (record { service = 0; op = (111 ∷ 112 ∷ 48 ∷ 49 ∷ []); value = (node root.Void no_fields) }) (answer.Refused reason.Correlation) } ∷ record { actor = 2; act = act.Reply 7 (outcome.Fault (84 ∷ 121 ∷ 112 ∷ 101 ∷ 77 ∷ 105 ∷ 115 ∷ 109 ∷ 97 ∷ 116 ∷ 99 ∷ 104 ∷ []) (node root.Void no_fields)) } ∷ []) (with_at 88 [] history)) sessions ≡ false
unfolding digits
spoilt_posted_too_soon = refl

pub spoilt_posted_behind_the_start : is_still setting 10000 (record { actor = 0; act = act.Adopt 0 } ∷ with_at 1 [] history) sessions ≡ false
unfolding digits
spoilt_posted_behind_the_start = refl

-- what came in
abbrev postings : List Posting
postings = (
    record { calls = (call.Post (record { service = 0; op = (111 ∷ 112 ∷ 48 ∷ 48 ∷ []); value = (node (root.Int (pos 2147483647)) no_fields) }) ∷ []) } ∷
    record { calls = (call.Post (record { service = 0; op = (111 ∷ 112 ∷ 48 ∷ 48 ∷ []); value = (node (root.Int (pos 0)) no_fields) }) ∷ []) } ∷
    record { calls = (call.Post (record { service = 0; op = (111 ∷ 112 ∷ 48 ∷ 48 ∷ []); value = (node (root.Int (pos 0)) no_fields) }) ∷ []) } ∷
    record { calls = (call.Post (record { service = 0; op = (111 ∷ 112 ∷ 48 ∷ 49 ∷ []); value = (node root.Void no_fields) }) ∷ []) } ∷
    record { calls = (call.Post (record { service = 0; op = (111 ∷ 112 ∷ 48 ∷ 48 ∷ []); value = (node (root.Int (negsuc 0)) no_fields) }) ∷ []) } ∷
    record { calls = (call.Post (record { service = 0; op = (111 ∷ 112 ∷ 49 ∷ 48 ∷ []); value = (node (root.Int (pos 2147483647)) no_fields) }) ∷ []) } ∷
    record { calls = (call.Post (record { service = 0; op = (111 ∷ 112 ∷ 48 ∷ 49 ∷ []); value = (node root.Void no_fields) }) ∷ []) } ∷
    record { calls = (call.Post (record { service = 0; op = (111 ∷ 112 ∷ 48 ∷ 49 ∷ []); value = (node root.Void no_fields) }) ∷ []) } ∷
    record { calls = (call.Post (record { service = 0; op = (111 ∷ 112 ∷ 48 ∷ 49 ∷ []); value = (node root.Void no_fields) }) ∷ []) } ∷
    record { calls = (call.Post (record { service = 0; op = (111 ∷ 112 ∷ 48 ∷ 48 ∷ []); value = (node (root.Int (pos 2)) no_fields) }) ∷ []) } ∷
    record { calls = (call.Post (record { service = 0; op = (111 ∷ 112 ∷ 48 ∷ 48 ∷ []); value = (node root.Void no_fields) }) ∷ []) } ∷
    record { calls = (call.Post (record { service = 0; op = (111 ∷ 112 ∷ 48 ∷ 49 ∷ []); value = (node root.Void no_fields) }) ∷ []) } ∷
    record { calls = [] } ∷
    record { calls = (call.Post (record { service = 0; op = (111 ∷ 112 ∷ 48 ∷ 48 ∷ []); value = (node (root.Int (pos 2)) no_fields) }) ∷ []) } ∷
    record { calls = (call.Post (record { service = 0; op = (111 ∷ 112 ∷ 48 ∷ 48 ∷ []); value = (node (root.Int (pos 0)) no_fields) }) ∷ []) } ∷
    record { calls = (call.Post (record { service = 0; op = (111 ∷ 112 ∷ 48 ∷ 48 ∷ []); value = (node (root.Int (negsuc 0)) no_fields) }) ∷ []) } ∷
    record { calls = (call.Post (record { service = 0; op = (111 ∷ 112 ∷ 48 ∷ 48 ∷ []); value = (node (root.Int (pos 0)) no_fields) }) ∷ []) } ∷
    record { calls = [] } ∷
    record { calls = (call.Post (record { service = 0; op = (111 ∷ 112 ∷ 48 ∷ 48 ∷ []); value = (node (root.Int (pos 3)) no_fields) }) ∷ []) } ∷
    record { calls = (call.Post (record { service = 0; op = (111 ∷ 112 ∷ 48 ∷ 48 ∷ []); value = (node (root.Int (negsuc 0)) no_fields) }) ∷ []) } ∷ [])

pub posted : posts_by first_worker history ≡ posts_of 0 postings
posted = refl

pub tells : told_from setting (past_of setting history) 0 postings ≡ (
    Some ((outcome.Refused reason.SessionEnded) ∷ []) ∷
    Some ((outcome.Refused reason.SessionEnded) ∷ []) ∷
    Some ((outcome.Refused reason.SessionEnded) ∷ []) ∷
    Some ((outcome.Value (node root.Void no_fields)) ∷ []) ∷
    Some ((outcome.Refused reason.SessionEnded) ∷ []) ∷
    Some ((outcome.Refused reason.UnknownOperation) ∷ []) ∷
    Some ((outcome.Value (node root.Void no_fields)) ∷ []) ∷
    Some ((outcome.Refused reason.Correlation) ∷ []) ∷
    Some ((outcome.Refused reason.Correlation) ∷ []) ∷
    Some ((outcome.Refused reason.Correlation) ∷ []) ∷
    Some ((outcome.Refused reason.NotConforming) ∷ []) ∷
    Some ((outcome.Refused reason.Correlation) ∷ []) ∷
    Some [] ∷
    Some ((outcome.Refused reason.Correlation) ∷ []) ∷
    Some ((outcome.Refused reason.Correlation) ∷ []) ∷
    Some ((outcome.Refused reason.Correlation) ∷ []) ∷
    Some ((outcome.Refused reason.Correlation) ∷ []) ∷
    Some [] ∷
    Some ((outcome.Refused reason.Correlation) ∷ []) ∷
    Some ((outcome.Refused reason.Correlation) ∷ []) ∷ [])
tells = refl

pub order : order_alone setting history first_worker 20 ≡ (3 ∷ 5 ∷ 0 ∷ 1 ∷ 2 ∷ 4 ∷ 6 ∷ 7 ∷ 8 ∷ 9 ∷ 10 ∷ 11 ∷ 12 ∷ 13 ∷ 14 ∷ 15 ∷ 16 ∷ 17 ∷ 18 ∷ 19 ∷ [])
order = refl

pub noted : notes setting history ≡ (116 ∷ 53 ∷ 48 ∷ 10 ∷ 116 ∷ 52 ∷ 57 ∷ 48 ∷ 10 ∷ 116 ∷ 55 ∷ 53 ∷ 10 ∷ 116 ∷ 55 ∷ 54 ∷ 10 ∷ 116 ∷ 56 ∷ 54 ∷ 10 ∷ 116 ∷ 56 ∷ 55 ∷ 10 ∷ 116 ∷ 56 ∷ 53 ∷ 10 ∷ 116 ∷ 55 ∷ 56 ∷ 45 ∷ 46 ∷ 10 ∷ 116 ∷ 55 ∷ 57 ∷ 10 ∷ 116 ∷ 56 ∷ 48 ∷ 10 ∷ 116 ∷ 51 ∷ 50 ∷ 10 ∷ 116 ∷ 52 ∷ 52 ∷ 10 ∷ [])
unfolding digits
noted = refl

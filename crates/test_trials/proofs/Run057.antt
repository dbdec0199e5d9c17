-- A recorded run.
use Rattle.std.specs.Prelude.{◌≡◌, ℕ, pos, negsuc, Bool, true, false, List, [], ◌∷◌, take, Option, None, Some}
use Rattle.std.proofs.Common.{refl}
use Rattle.std.specs.Fmt.{digits}
use Rattle.jolie_trees.specs.declared.root.Root.TheVariants as root
use Rattle.jolie_trees.specs.Data.{Tree, node, Fields, no_fields, field, Trees, no_trees, tree}
use Rattle.behaviour_tree.specs.declared.types.RootKind.TheVariants as kinds
use Rattle.behaviour_tree.specs.declared.expr.CompareOp.TheVariants as compare
use Rattle.behaviour_tree.specs.declared.expr.SumOp.TheVariants as sums
use Rattle.behaviour_tree.specs.declared.expr.MulOp.TheVariants as muls
use Rattle.behaviour_tree.specs.declared.expr.CastKind.TheVariants as casts
use Rattle.behaviour_tree.specs.declared.behaviour.HandlerKey.TheVariants as key
use Rattle.behaviour_tree.specs.declared.program.Execution.TheVariants as execution
use Rattle.behaviour_tree.specs.declared.words.Event.{Event}
use Rattle.behaviour_tree.specs.declared.words.Kind.TheVariants as kind
use Rattle.behaviour_tree.specs.declared.words.Outcome.TheVariants as outcome
use Rattle.behaviour_tree.specs.declared.words.Reason.TheVariants as reason
use Rattle.behaviour_tree.specs.Data.{plain, named, undefined, no_type_fields, type_field, here, step, step_at, constant, at_path, count_at, defined_at, literal, any_of, all_of, compared, sum, product, minus, negation, cast, no_exps, exp, no_sum_parts, sum_part, no_mul_parts, mul_part, no_member_list, member_of, Proc, nothing, assign, undef, copy, bind, sequence, parallel, choose, repeat, choice, notify, solicit, install, throw, comp, inner_handler, scope, block, no_procs, proc, no_branches, one_way, request, no_handlers, handler, ProgramParts}
use Rattle.correlation.specs.declared.bind_reply.BindReply.TheVariants as binding
use Rattle.office_core.specs.declared.post.PostReply.TheVariants as answer
use Rattle.office_core.specs.declared.history.Placed.TheVariants as at
use Rattle.office_core.specs.declared.history.Act.TheVariants as act
use Rattle.office_core.specs.declared.history.Entry.{Entry}
use Rattle.office_core.specs.declared.front.CallIn.TheVariants as call
use Rattle.office_core.specs.declared.front.Posting.{Posting}
use Rattle.office_core.specs.Limits.{Setting, run_of, first_worker}
use Rattle.office_core.specs.Accepted.{past_of}
use Rattle.office_core.specs.Legal.{IsLegal}
use Rattle.run_record.specs.Agrees.{IsSession}
use Rattle.run_record.specs.Quiet.{before_stop, sessions_at}
use Rattle.run_record.specs.Answered.{stand_together}
use Rattle.run_record.specs.Postings.{posts_by, posts_of}
use Rattle.run_record.specs.Order.{order_alone}
use Rattle.run_record.specs.Outside.{notes}
use Rattle.test_trials.specs.Counts.{legal_entries, with_at}
use Rattle.test_trials.specs.Fronts.{told_from}
use Rattle.test_trials.specs.Sessions.{event, agrees}
use Rattle.test_trials.specs.Quiet.{is_quiet, is_still}
use Rattle.test_trials.specs.Collected.{are_collected}
use Rattle.test_trials.proofs.Told.{is_session}
use Rattle.std.specs.Prelude.{◌++◌}
use Rattle.run_record.specs.declared.record.Record.{Record}
use Rattle.run_record.specs.Run.{alone, workers, IsRun, IsSpent}
use Rattle.test_trials.proofs.Runs.{is_run, unstopped, unclosed, foreign, missing, too_many, restless}
use Rattle.run_record.specs.Order.{IsOrder}
use Rattle.test_trials.proofs.Workers.{is_run_of_workers, stranger, posts_apart, second_first, not_as_posted, not_without_one, not_twice}
use Rattle.test_trials.specs.Quiet.{can_act}
use Rattle.test_trials.proofs.Spends.{spends, is_spent, not_spent}

-- the program
abbrev program : ProgramParts
program = record {
  types = ((plain kinds.Any no_type_fields) ∷ (plain kinds.Void no_type_fields) ∷ (plain kinds.Void (type_field (115 ∷ 105 ∷ 100 ∷ []) 1 (Some 1) (plain kinds.Long no_type_fields) no_type_fields)) ∷ (plain kinds.Void (type_field (115 ∷ 105 ∷ 100 ∷ []) 1 (Some 1) (plain kinds.Long no_type_fields) no_type_fields)) ∷ []);
  interfaces = (record { name = (73 ∷ 83 ∷ 48 ∷ []); operations = (record { name = (111 ∷ 112 ∷ 48 ∷ 48 ∷ []); request = (named 2); response = (Some undefined); throws = (record { fault = 9; ty = undefined } ∷ record { fault = 10; ty = (plain kinds.Void no_type_fields) } ∷ []) } ∷ record { name = (109 ∷ 111 ∷ 114 ∷ 101 ∷ 48 ∷ []); request = (named 3); response = (Some undefined); throws = [] } ∷ record { name = (112 ∷ 117 ∷ 115 ∷ 104 ∷ 48 ∷ []); request = (named 3); response = None; throws = [] } ∷ []) } ∷ record { name = (73 ∷ 83 ∷ 49 ∷ []); operations = (record { name = (111 ∷ 112 ∷ 49 ∷ 48 ∷ []); request = (plain kinds.Int no_type_fields); response = (Some (plain kinds.Int no_type_fields)); throws = [] } ∷ []) } ∷ record { name = (73 ∷ 83 ∷ 50 ∷ []); operations = (record { name = (111 ∷ 112 ∷ 50 ∷ 48 ∷ []); request = undefined; response = (Some (plain kinds.Bool no_type_fields)); throws = [] } ∷ record { name = (111 ∷ 112 ∷ 50 ∷ 49 ∷ []); request = (plain kinds.Void no_type_fields); response = (Some (plain kinds.Int no_type_fields)); throws = [] } ∷ record { name = (111 ∷ 112 ∷ 50 ∷ 50 ∷ []); request = (plain kinds.Int no_type_fields); response = (Some (plain kinds.Int no_type_fields)); throws = (record { fault = 9; ty = (plain kinds.Void no_type_fields) } ∷ []) } ∷ []) } ∷ record { name = (82 ∷ []); operations = (record { name = (97 ∷ 115 ∷ 107 ∷ []); request = (plain kinds.Int no_type_fields); response = (Some undefined); throws = (record { fault = 9; ty = (plain kinds.Void no_type_fields) } ∷ []) } ∷ record { name = (116 ∷ 101 ∷ 108 ∷ 108 ∷ []); request = undefined; response = None; throws = [] } ∷ []) } ∷ []);
  services = (record { name = (83 ∷ 48 ∷ []); execution = execution.Concurrent; ports = (record { name = (73 ∷ 110 ∷ []); input = true; location = (115 ∷ 111 ∷ 99 ∷ 107 ∷ 101 ∷ 116 ∷ 58 ∷ 47 ∷ 47 ∷ 108 ∷ 111 ∷ 99 ∷ 97 ∷ 108 ∷ 104 ∷ 111 ∷ 115 ∷ 116 ∷ 58 ∷ 56 ∷ 48 ∷ 48 ∷ 48 ∷ []); interfaces = (0 ∷ []) } ∷ record { name = (80 ∷ 83 ∷ 49 ∷ []); input = false; location = (108 ∷ 111 ∷ 99 ∷ 97 ∷ 108 ∷ 58 ∷ 47 ∷ 47 ∷ 108 ∷ 49 ∷ []); interfaces = (1 ∷ []) } ∷ record { name = (80 ∷ 83 ∷ 50 ∷ []); input = false; location = (108 ∷ 111 ∷ 99 ∷ 97 ∷ 108 ∷ 58 ∷ 47 ∷ 47 ∷ 108 ∷ 50 ∷ []); interfaces = (2 ∷ []) } ∷ []); sets = (record { variables = (record { name = (115 ∷ 105 ∷ 100 ∷ []); aliases = (record { ty = 2; path = ((115 ∷ 105 ∷ 100 ∷ []) ∷ []) } ∷ record { ty = 3; path = ((115 ∷ 105 ∷ 100 ∷ []) ∷ []) } ∷ []) } ∷ []) } ∷ []); init = nothing; main = (sequence (proc (install (handler (key.Fault 1) (assign (step (121 ∷ []) (step (110 ∷ []) here)) (constant (root.Text (84 ∷ 121 ∷ 112 ∷ 101 ∷ 77 ∷ 105 ∷ 115 ∷ 109 ∷ 97 ∷ 116 ∷ 99 ∷ 104 ∷ [])))) (handler (key.Fault 4) (assign (step (121 ∷ []) (step (110 ∷ []) here)) (constant (root.Text (85 ∷ 110 ∷ 100 ∷ 101 ∷ 99 ∷ 108 ∷ 97 ∷ 114 ∷ 101 ∷ 100 ∷ 70 ∷ 97 ∷ 117 ∷ 108 ∷ 116 ∷ [])))) (handler (key.Fault 11) nothing (handler (key.Fault 12) nothing (handler (key.Fault 10) (solicit 3 0 (constant (root.Text (116 ∷ 57 ∷ []))) None no_handlers) (handler (key.Fault 3) (comp 11) (handler (key.Fault 9) nothing (handler (key.Fault 6) (comp 11) no_handlers))))))))) (proc (choice (request 0 (Some (step_at (120 ∷ []) (constant (root.Int (pos 1))) here)) (Some (step (121 ∷ []) here)) (sequence (proc (scope 13 (sequence (proc (install (handler (key.Fault 11) (sequence (proc (comp 14) (proc (solicit 3 0 (constant (root.Text (116 ∷ 49 ∷ 55 ∷ []))) None no_handlers) no_procs))) no_handlers)) (proc (scope 14 (sequence (proc (install (handler key.This (sequence (proc inner_handler (proc (comp 14) no_procs))) no_handlers)) (proc (choose (compared (literal no_member_list) compare.Less (compared (at_path (step (98 ∷ []) here)) compare.Unequal (constant (root.Bool false)))) (sequence (proc (undef (step (99 ∷ []) (step (97 ∷ []) here))) (proc (sequence (proc (assign (step (105 ∷ 49 ∷ []) here) (constant (root.Int (pos 0)))) (proc (repeat (compared (at_path (step (105 ∷ 49 ∷ []) here)) compare.Less (constant (root.Int (pos 2)))) (sequence (proc (assign (step (97 ∷ []) here) (sum (at_path (step (97 ∷ []) here)) (sum_part sums.Minus (constant (root.Int (pos 1))) no_sum_parts))) (proc (assign (step (105 ∷ 49 ∷ []) here) (sum (at_path (step (105 ∷ 49 ∷ []) here)) (sum_part sums.Plus (constant (root.Int (pos 1))) no_sum_parts))) no_procs)))) no_procs))) no_procs))) (choose (negation (defined_at (step (121 ∷ []) here))) (sequence (proc (solicit 3 0 (constant (root.Text (116 ∷ 50 ∷ 50 ∷ []))) None no_handlers) (proc (solicit 2 2 (count_at (step (97 ∷ []) here)) (Some (step_at (120 ∷ []) (constant (root.Int (pos 0))) (step (98 ∷ []) here))) no_handlers) no_procs))) nothing)) no_procs)))) (proc (block (parallel (proc (throw 11 (constant root.Void)) (proc (sequence (proc (install (handler key.This (sequence (proc (solicit 3 0 (constant (root.Text (116 ∷ 51 ∷ 49 ∷ []))) None no_handlers) (proc nothing no_procs))) no_handlers)) (proc (solicit 2 1 (literal no_member_list) (Some (step_at (98 ∷ []) (constant (root.Int (pos 1))) (step (98 ∷ []) here))) (handler key.This (sequence (proc inner_handler (proc (throw 11 (constant root.Void)) (proc (choose (any_of (exp (defined_at (step (97 ∷ []) (step (98 ∷ []) here))) (exp (any_of (exp (constant (root.Bool true)) (exp (constant (root.Bool true)) no_exps))) no_exps))) (assign (step (98 ∷ []) (step_at (99 ∷ []) (constant (root.Int (pos 1))) here)) (sum (count_at (step (120 ∷ []) (step (97 ∷ []) here))) (sum_part sums.Minus (constant (root.Int (pos 2))) no_sum_parts))) nothing) (proc (choose (all_of (exp (compared (at_path (step (121 ∷ []) here)) compare.Unequal (constant (root.Text (53 ∷ [])))) (exp (compared (at_path (step (97 ∷ []) here)) compare.Equal (constant (root.Int (pos 0)))) no_exps))) (sequence (proc (solicit 3 0 (constant (root.Text (116 ∷ 51 ∷ 52 ∷ []))) None no_handlers) (proc (assign (step (97 ∷ []) (step (98 ∷ []) here)) (cast casts.Long (literal (member_of (98 ∷ []) (sum (constant (root.Text [])) (sum_part sums.Plus (at_path (step (97 ∷ []) (step (99 ∷ []) (step (98 ∷ []) here)))) no_sum_parts)) (member_of (98 ∷ []) (at_path (step_at (120 ∷ []) (constant (root.Int (pos 2))) here)) (member_of (98 ∷ []) (minus (constant (root.Text (53 ∷ [])))) no_member_list)))))) no_procs))) (sequence (proc (assign (step_at (98 ∷ []) (constant (root.Long (pos 1))) (step_at (97 ∷ []) (sum (constant (root.Int (pos 0))) (sum_part sums.Minus (constant (root.Int (pos 1))) no_sum_parts)) here)) (constant (root.Text []))) (proc (throw 11 (constant (root.Bool true))) no_procs)))) no_procs))))) no_handlers)) no_procs))) (proc (sequence (proc (scope 14 (sequence (proc (solicit 3 0 (constant (root.Text (116 ∷ 50 ∷ 51 ∷ []))) None no_handlers) (proc (install (handler (key.Fault 5) (sequence (proc (assign (step (121 ∷ []) (step (99 ∷ []) here)) (sum (at_path (step (121 ∷ []) (step (99 ∷ []) here))) (sum_part sums.Plus (constant (root.Int (pos 1))) no_sum_parts))) (proc (throw 11 (constant root.Void)) no_procs))) (handler key.This (sequence (proc inner_handler (proc (throw 11 (constant root.Void)) no_procs))) (handler (key.Fault 9) (sequence (proc inner_handler (proc (comp 14) (proc (install (handler key.This (assign (step (121 ∷ []) (step (99 ∷ []) here)) (sum (at_path (step (121 ∷ []) (step (99 ∷ []) here))) (sum_part sums.Plus (constant (root.Int (pos 1))) no_sum_parts))) no_handlers)) (proc (assign (step (120 ∷ []) here) (at_path (step (98 ∷ []) (step (97 ∷ []) here)))) no_procs))))) no_handlers)))) (proc (choice (request 1 (Some (step (120 ∷ []) here)) (Some (step (121 ∷ []) here)) (sequence (proc (assign (step (105 ∷ 50 ∷ []) here) (constant (root.Int (pos 0)))) (proc (repeat (compared (at_path (step (105 ∷ 50 ∷ []) here)) compare.More (constant (root.Int (pos 0)))) (sequence (proc (assign (step (105 ∷ 50 ∷ []) here) (sum (at_path (step (105 ∷ 50 ∷ []) here)) (sum_part sums.Minus (constant (root.Int (pos 1))) no_sum_parts))) (proc (throw 7 (constant root.Void)) no_procs)))) no_procs))) (block (parallel (proc (sequence (proc (assign (step (120 ∷ []) (step (98 ∷ []) here)) (cast casts.Int (product (count_at (step (121 ∷ []) here)) (mul_part muls.Times (constant (root.Int (pos 2))) no_mul_parts)))) (proc (assign (step_at (121 ∷ []) (sum (constant (root.Int (pos 0))) (sum_part sums.Minus (constant (root.Int (pos 1))) no_sum_parts)) here) (compared (count_at (step (121 ∷ []) here)) compare.More (constant (root.Int (pos 2))))) (proc (copy (step (97 ∷ []) (step (97 ∷ []) (step (110 ∷ []) here))) (at_path (step (98 ∷ []) here))) no_procs)))) (proc (sequence (proc (assign (step (121 ∷ []) (step (98 ∷ []) here)) (at_path (step (98 ∷ []) (step (98 ∷ []) (step (99 ∷ []) here))))) (proc (assign (step (99 ∷ []) here) (sum (at_path (step (99 ∷ []) here)) (sum_part sums.Plus (constant (root.Int (pos 1))) no_sum_parts))) no_procs))) no_procs)))) (request 0 (Some (step_at (120 ∷ []) (constant (root.Int (pos 1))) here)) (Some (step (121 ∷ []) here)) (throw 11 (constant root.Void)) (sequence (proc (solicit 3 0 (constant (root.Text (116 ∷ 50 ∷ 57 ∷ []))) None no_handlers) (proc (throw 11 (constant root.Void)) no_procs))) no_branches))) no_procs))))) (proc (solicit 3 0 (constant (root.Text (116 ∷ 51 ∷ 48 ∷ []))) None no_handlers) no_procs))) no_procs))))) no_procs))))) (proc (assign (step (120 ∷ []) here) (constant (root.Int (pos 1)))) (proc (scope 14 (scope 14 (sequence (proc (install (handler (key.Fault 5) (sequence (proc (comp 15) (proc (comp 14) no_procs))) (handler (key.Fault 11) (sequence (proc (solicit 3 0 (sum (constant (root.Text (116 ∷ 51 ∷ 57 ∷ []))) (sum_part sums.Plus (cast casts.Text (at_path (step (98 ∷ []) (step (98 ∷ []) here)))) no_sum_parts)) None no_handlers) (proc (scope 13 (solicit 3 0 (constant (root.Text (116 ∷ 52 ∷ 48 ∷ []))) None no_handlers)) no_procs))) (handler key.This (sequence (proc (comp 14) (proc (throw 10 (sum (constant (root.Text [])) (sum_part sums.Plus (at_path (step (99 ∷ []) (step (110 ∷ []) (step (99 ∷ []) here)))) no_sum_parts))) no_procs))) no_handlers)))) (proc (block (parallel (proc (throw 5 (constant root.Void)) (proc (install (handler (key.Fault 5) (sequence (proc (comp 14) (proc (assign (step (121 ∷ []) (step (99 ∷ []) here)) (sum (at_path (step (121 ∷ []) (step (99 ∷ []) here))) (sum_part sums.Plus (constant (root.Int (pos 1))) no_sum_parts))) (proc (throw 11 (constant root.Void)) (proc (scope 14 (sequence (proc (install (handler (key.Fault 5) (sequence (proc (comp 14) (proc (comp 13) no_procs))) (handler (key.Fault 9) (sequence (proc (solicit 3 0 (sum (constant (root.Text (116 ∷ 52 ∷ 56 ∷ []))) (sum_part sums.Plus (cast casts.Text (at_path (step (97 ∷ []) here))) no_sum_parts)) None no_handlers) (proc (comp 13) no_procs))) no_handlers))) (proc (throw 5 (literal (member_of (99 ∷ []) (constant (root.Text (53 ∷ []))) (member_of (99 ∷ []) (constant (root.Int (pos 7))) no_member_list)))) (proc (assign (step (99 ∷ []) here) (literal no_member_list)) (proc (assign (step (120 ∷ []) here) (constant (root.Text (107 ∷ [])))) (proc (install (handler (key.Fault 9) (sequence (proc inner_handler (proc (comp 11) (proc (block (parallel (proc (sequence (proc nothing (proc (copy (step (97 ∷ []) (step (97 ∷ []) (step (99 ∷ []) here))) (sum (constant (root.Text (45 ∷ []))) (sum_part sums.Plus (count_at (step (99 ∷ []) here)) no_sum_parts))) (proc (throw 5 (constant root.Void)) no_procs)))) (proc (sequence (proc (assign (step (120 ∷ []) (step (97 ∷ []) (step (110 ∷ []) here))) (any_of (exp (constant (root.Bool true)) (exp (negation (constant (root.Bool false))) no_exps)))) (proc (assign (step (120 ∷ []) (step (97 ∷ []) (step (98 ∷ []) here))) (sum (at_path (step (120 ∷ []) (step (97 ∷ []) (step (98 ∷ []) here)))) (sum_part sums.Minus (constant (root.Int (pos 1))) no_sum_parts))) (proc (copy (step (98 ∷ []) (step (98 ∷ []) here)) (constant (root.Bool true))) no_procs)))) no_procs)))) no_procs)))) no_handlers)) no_procs))))))) no_procs))))) no_handlers)) (proc (sequence (proc (install (handler key.This (sequence (proc (comp 15) (proc (solicit 3 0 (constant (root.Text (116 ∷ 52 ∷ 51 ∷ []))) None no_handlers) (proc (undef (step (99 ∷ []) here)) no_procs)))) no_handlers)) (proc (solicit 2 1 (sum (constant (root.Text [])) (sum_part sums.Plus (at_path (step_at (121 ∷ []) (sum (constant (root.Int (pos 1))) (sum_part sums.Minus (constant (root.Int (pos 1))) no_sum_parts)) (step (99 ∷ []) here))) (sum_part sums.Plus (constant (root.Text (46 ∷ []))) no_sum_parts))) (Some (step (121 ∷ []) (step (97 ∷ []) here))) no_handlers) (proc (assign (step (105 ∷ 51 ∷ []) here) (constant (root.Int (pos 2)))) (proc (repeat (compared (at_path (step (105 ∷ 51 ∷ []) here)) compare.More (constant (root.Int (pos 0)))) (sequence (proc (assign (step (105 ∷ 51 ∷ []) here) (sum (at_path (step (105 ∷ 51 ∷ []) here)) (sum_part sums.Minus (constant (root.Int (pos 1))) no_sum_parts))) (proc (solicit 3 0 (sum (constant (root.Text (116 ∷ 52 ∷ 52 ∷ []))) (sum_part sums.Plus (count_at (step (98 ∷ []) here)) no_sum_parts)) None no_handlers) no_procs)))) no_procs))))) no_procs))))) no_procs))))) no_procs)))) nothing no_branches)) (proc (choice (request 0 (Some (step_at (120 ∷ []) (constant (root.Int (pos 0))) (step (99 ∷ []) here))) (Some (step (121 ∷ []) here)) nothing nothing (one_way 2 (Some (step (120 ∷ []) here)) nothing no_branches))) (proc (assign (step (98 ∷ []) here) (sum (constant (root.Text (45 ∷ []))) (sum_part sums.Plus (count_at (step (121 ∷ []) here)) no_sum_parts))) (proc (solicit 3 0 (sum (constant (root.Text (116 ∷ 53 ∷ 54 ∷ []))) (sum_part sums.Plus (cast casts.Text (at_path (step (99 ∷ []) here))) no_sum_parts)) None no_handlers) (proc (solicit 3 0 (constant (root.Text (116 ∷ 53 ∷ 55 ∷ []))) None no_handlers) no_procs))))))) } ∷ record { name = (83 ∷ 49 ∷ []); execution = execution.Single; ports = (record { name = (73 ∷ 110 ∷ []); input = true; location = (108 ∷ 111 ∷ 99 ∷ 97 ∷ 108 ∷ 58 ∷ 47 ∷ 47 ∷ 108 ∷ 49 ∷ []); interfaces = (1 ∷ []) } ∷ record { name = (80 ∷ 83 ∷ 50 ∷ []); input = false; location = (108 ∷ 111 ∷ 99 ∷ 97 ∷ 108 ∷ 58 ∷ 47 ∷ 47 ∷ 108 ∷ 50 ∷ []); interfaces = (2 ∷ []) } ∷ []); sets = []; init = nothing; main = (sequence (proc (install (handler (key.Fault 7) (sequence (proc (comp 11) (proc (solicit 2 0 (sum (constant (root.Text (116 ∷ 53 ∷ 57 ∷ []))) (sum_part sums.Plus (count_at (step (97 ∷ []) here)) no_sum_parts)) None no_handlers) no_procs))) (handler (key.Fault 12) (comp 11) (handler (key.Fault 4) (sequence (proc (comp 15) (proc (solicit 2 0 (sum (constant (root.Text (116 ∷ 54 ∷ 51 ∷ []))) (sum_part sums.Plus (cast casts.Text (at_path (step_at (99 ∷ []) (sum (constant (root.Int (pos 1))) (sum_part sums.Minus (constant (root.Int (pos 1))) no_sum_parts)) (step (97 ∷ []) here)))) no_sum_parts)) None no_handlers) no_procs))) (handler (key.Fault 11) nothing (handler (key.Fault 9) nothing (handler (key.Fault 3) nothing (handler (key.Fault 1) (solicit 2 0 (constant (root.Text (116 ∷ 55 ∷ 48 ∷ []))) None no_handlers) (handler (key.Fault 10) (solicit 2 0 (constant (root.Text (116 ∷ 55 ∷ 50 ∷ []))) None no_handlers) no_handlers))))))))) (proc (block (parallel (proc (sequence (proc (assign (step (120 ∷ []) (step (99 ∷ []) here)) (compared (count_at (step (98 ∷ []) here)) compare.AtLeast (constant (root.Int (pos 0))))) (proc (assign (step (98 ∷ []) here) (count_at (step (121 ∷ []) (step (98 ∷ []) here)))) no_procs))) (proc (install (handler (key.Fault 10) (sequence (proc (scope 13 (sequence (proc (block (assign (step (121 ∷ []) (step (99 ∷ []) here)) (at_path (step_at (98 ∷ []) (count_at (step (121 ∷ []) (step (98 ∷ []) here))) here)))) (proc (assign (step (98 ∷ []) (step (98 ∷ []) (step_at (97 ∷ []) (constant (root.Int (pos 1))) here))) (at_path (step_at (97 ∷ []) (count_at (step (97 ∷ []) here)) here))) no_procs)))) (proc (solicit 1 0 (at_path (step (120 ∷ []) (step (97 ∷ []) here))) (Some (step_at (97 ∷ []) (constant (root.Int (pos 0))) (step (99 ∷ []) here))) no_handlers) no_procs))) (handler key.This (sequence (proc (throw 6 (at_path (step (97 ∷ []) here))) (proc (solicit 2 0 (constant (root.Text (116 ∷ 55 ∷ 52 ∷ []))) None no_handlers) no_procs))) (handler (key.Fault 5) (sequence (proc (assign (step (121 ∷ []) (step (97 ∷ []) here)) (sum (at_path (step (121 ∷ []) (step (97 ∷ []) here))) (sum_part sums.Plus (constant (root.Int (pos 1))) no_sum_parts))) (proc (scope 11 (sequence (proc (scope 15 (sequence (proc (install (handler key.This (sequence (proc (assign (step (121 ∷ []) (step (99 ∷ []) here)) (sum (at_path (step (121 ∷ []) (step (99 ∷ []) here))) (sum_part sums.Plus (constant (root.Int (pos 1))) no_sum_parts))) (proc (sequence (proc (assign (step (105 ∷ 52 ∷ []) here) (constant (root.Int (pos 0)))) (proc (repeat (compared (at_path (step (105 ∷ 52 ∷ []) here)) compare.Less (constant (root.Int (pos 1)))) (sequence (proc (install (handler key.This (parallel (proc inner_handler (proc (throw 5 (constant root.Void)) no_procs))) no_handlers)) (proc (assign (step (105 ∷ 52 ∷ []) here) (sum (at_path (step (105 ∷ 52 ∷ []) here)) (sum_part sums.Plus (constant (root.Int (pos 1))) no_sum_parts))) no_procs)))) no_procs))) no_procs))) no_handlers)) (proc (assign (step (120 ∷ []) (step (97 ∷ []) here)) (literal (member_of (99 ∷ []) (at_path (step (99 ∷ []) here)) (member_of (98 ∷ []) (constant (root.Int (pos 1))) (member_of (97 ∷ []) (at_path (step (98 ∷ []) (step_at (110 ∷ []) (count_at (step (97 ∷ []) here)) (step_at (110 ∷ []) (at_path (step (97 ∷ []) here)) here)))) no_member_list))))) no_procs)))) (proc (install (handler (key.Fault 9) (sequence (proc (comp 15) (proc (comp 11) no_procs))) (handler (key.Fault 12) (parallel (proc (sequence (proc (comp 11) (proc inner_handler no_procs))) (proc (sequence (proc (copy (step (120 ∷ []) here) (sum (count_at (step (121 ∷ []) (step (97 ∷ []) here))) (sum_part sums.Plus (constant (root.Long (pos 2))) no_sum_parts))) (proc (assign (step (98 ∷ []) here) (constant (root.Bool true))) no_procs))) no_procs))) (handler key.This (assign (step (121 ∷ []) (step (98 ∷ []) here)) (sum (at_path (step (121 ∷ []) (step (98 ∷ []) here))) (sum_part sums.Plus (constant (root.Int (pos 1))) no_sum_parts))) no_handlers)))) (proc (block (parallel (proc (sequence (proc (solicit 1 1 (sum (constant (root.Text [])) (sum_part sums.Plus (count_at (step (121 ∷ []) (step (99 ∷ []) (step (97 ∷ []) here)))) no_sum_parts)) (Some (step (99 ∷ []) here)) no_handlers) (proc inner_handler no_procs))) (proc (install (handler (key.Fault 9) (sequence (proc inner_handler (proc (solicit 2 0 (constant (root.Text (116 ∷ 49 ∷ 48 ∷ 52 ∷ []))) None no_handlers) no_procs))) no_handlers)) (proc (throw 12 (constant root.Void)) no_procs))))) no_procs))))) (proc (comp 13) no_procs)))) no_handlers)))) no_procs)))) (proc (assign (step (121 ∷ []) here) (at_path (step (120 ∷ []) here))) (proc (choice (request 0 (Some (step (120 ∷ []) here)) (Some (step (121 ∷ []) here)) (sequence (proc (install (handler key.This (sequence (proc (solicit 2 0 (constant (root.Text (116 ∷ 49 ∷ 48 ∷ 54 ∷ []))) None no_handlers) (proc (throw 4 (constant root.Void)) (proc inner_handler (proc (undef (step (97 ∷ []) here)) no_procs))))) no_handlers)) (proc (scope 11 (sequence (proc (install (handler (key.Fault 12) (sequence (proc (solicit 2 0 (constant (root.Text (116 ∷ 49 ∷ 48 ∷ 55 ∷ []))) None no_handlers) (proc (comp 11) no_procs))) (handler (key.Fault 9) (sequence (proc (comp 13) (proc (comp 15) (proc (solicit 2 0 (sum (constant (root.Text (116 ∷ 49 ∷ 50 ∷ 49 ∷ []))) (sum_part sums.Plus (cast casts.Text (at_path (step (120 ∷ []) here))) no_sum_parts)) None no_handlers) no_procs)))) no_handlers))) (proc (scope 13 (sequence (proc (install (handler key.This (sequence (proc (assign (step (98 ∷ []) here) (at_path (step (98 ∷ []) (step (99 ∷ []) here)))) (proc (assign (step (121 ∷ []) here) (constant (root.Bool false))) no_procs))) no_handlers)) (proc (solicit 2 0 (constant (root.Text (116 ∷ 49 ∷ 50 ∷ 52 ∷ []))) None no_handlers) no_procs)))) (proc (block (parallel (proc (sequence (proc (scope 11 (sequence (proc (solicit 2 0 (sum (constant (root.Text (116 ∷ 49 ∷ 50 ∷ 53 ∷ []))) (sum_part sums.Plus (cast casts.Text (at_path (step (97 ∷ []) (step (98 ∷ []) here)))) no_sum_parts)) None no_handlers) (proc (solicit 2 0 (constant (root.Text (116 ∷ 49 ∷ 50 ∷ 54 ∷ []))) None no_handlers) no_procs)))) (proc (solicit 2 0 (sum (constant (root.Text (116 ∷ 49 ∷ 50 ∷ 55 ∷ []))) (sum_part sums.Plus (cast casts.Text (at_path (step (99 ∷ []) here))) no_sum_parts)) None no_handlers) no_procs))) (proc (sequence (proc (scope 13 (solicit 1 0 (sum (constant (root.Text (45 ∷ []))) (sum_part sums.Plus (count_at (step (121 ∷ []) (step (98 ∷ []) here))) no_sum_parts)) None no_handlers)) (proc (solicit 2 0 (sum (constant (root.Text (116 ∷ 49 ∷ 50 ∷ 56 ∷ []))) (sum_part sums.Plus (cast casts.Text (at_path (step (97 ∷ []) (step (99 ∷ []) here)))) no_sum_parts)) None no_handlers) no_procs))) (proc (throw 11 (constant root.Void)) no_procs))))) no_procs))))) no_procs))) nothing no_branches)) (proc (solicit 2 0 (sum (constant (root.Text (116 ∷ 49 ∷ 50 ∷ 57 ∷ []))) (sum_part sums.Plus (count_at (step (99 ∷ []) here)) no_sum_parts)) None no_handlers) (proc (solicit 2 0 (constant (root.Text (116 ∷ 49 ∷ 51 ∷ 48 ∷ []))) None no_handlers) (proc (assign (step (99 ∷ []) here) (constant (root.Long (pos 9223372036854775807)))) no_procs)))))))) } ∷ record { name = (83 ∷ 50 ∷ []); execution = execution.Concurrent; ports = (record { name = (73 ∷ 110 ∷ []); input = true; location = (108 ∷ 111 ∷ 99 ∷ 97 ∷ 108 ∷ 58 ∷ 47 ∷ 47 ∷ 108 ∷ 50 ∷ []); interfaces = (2 ∷ []) } ∷ record { name = (80 ∷ 83 ∷ 49 ∷ []); input = false; location = (108 ∷ 111 ∷ 99 ∷ 97 ∷ 108 ∷ 58 ∷ 47 ∷ 47 ∷ 108 ∷ 49 ∷ []); interfaces = (1 ∷ []) } ∷ record { name = (82 ∷ []); input = false; location = (115 ∷ 111 ∷ 99 ∷ 107 ∷ 101 ∷ 116 ∷ 58 ∷ 47 ∷ 47 ∷ 108 ∷ 111 ∷ 99 ∷ 97 ∷ 108 ∷ 104 ∷ 111 ∷ 115 ∷ 116 ∷ 58 ∷ 57 ∷ 47 ∷ 120 ∷ []); interfaces = (3 ∷ []) } ∷ []); sets = []; init = nothing; main = (sequence (proc (choice (request 0 (Some (step_at (120 ∷ []) (constant (root.Int (pos 1))) here)) (Some (step (121 ∷ []) here)) (sequence (proc (choice (request 1 (Some (step (120 ∷ []) here)) None (parallel (proc (scope 13 (sequence (proc (install (handler (key.Fault 9) (sequence (proc (comp 14) (proc (solicit 3 0 (sum (constant (root.Text (116 ∷ 49 ∷ 51 ∷ 50 ∷ []))) (sum_part sums.Plus (count_at (step (98 ∷ []) here)) no_sum_parts)) None no_handlers) no_procs))) no_handlers)) (proc (scope 14 (sequence (proc (install (handler key.This (sequence (proc inner_handler (proc (throw 9 (constant root.Void)) (proc (install (handler key.This (sequence (proc (comp 11) (proc (choose (negation (defined_at (step (98 ∷ []) here))) (sequence (proc (assign (step (99 ∷ []) here) (sum (constant (root.Text (107 ∷ []))) (sum_part sums.Plus (count_at (step (97 ∷ []) here)) no_sum_parts))) (proc (assign (step_at (99 ∷ []) (at_path (step (121 ∷ []) (step (97 ∷ []) here))) here) (at_path (step (97 ∷ []) here))) no_procs))) (choose (any_of (exp (defined_at (step (120 ∷ []) (step_at (98 ∷ []) (count_at (step (121 ∷ []) (step (98 ∷ []) here))) here))) (exp (compared (cast casts.Int (constant (root.Int (pos 7)))) compare.Less (at_path (step (98 ∷ []) (step (98 ∷ []) here)))) no_exps))) (sequence (proc (assign (step (121 ∷ []) here) (sum (at_path (step (121 ∷ []) here)) (sum_part sums.Plus (constant (root.Int (pos 1))) no_sum_parts))) (proc (undef (step (97 ∷ []) here)) no_procs))) nothing)) (proc (solicit 2 0 (constant (root.Int (pos 3))) (Some (step_at (97 ∷ []) (constant (root.Int (pos 1))) (step (98 ∷ []) here))) no_handlers) no_procs)))) no_handlers)) no_procs)))) no_handlers)) (proc (solicit 3 0 (sum (constant (root.Text (116 ∷ 49 ∷ 51 ∷ 53 ∷ []))) (sum_part sums.Plus (cast casts.Text (at_path (step_at (120 ∷ []) (constant (root.Int (pos 2))) (step (99 ∷ []) here)))) no_sum_parts)) None no_handlers) no_procs)))) (proc (copy (step (99 ∷ []) here) (sum (constant (root.Text [])) (sum_part sums.Plus (at_path (step (98 ∷ []) here)) (sum_part sums.Plus (constant (root.Text (46 ∷ []))) no_sum_parts)))) (proc (throw 9 (constant root.Void)) no_procs)))))) (proc nothing no_procs))) (solicit 3 0 (constant (root.Text (116 ∷ 49 ∷ 51 ∷ 55 ∷ []))) None no_handlers) (request 2 (Some (step (120 ∷ []) here)) (Some (step_at (121 ∷ []) (constant (root.Int (pos 1))) here)) (sequence (proc (scope 14 nothing) (proc (assign (step (120 ∷ []) (step (99 ∷ []) here)) (constant (root.Int (pos 3)))) (proc (solicit 1 0 (constant (root.Int (pos 2))) (Some (step (120 ∷ []) here)) (handler key.This (sequence (proc (assign (step (121 ∷ []) (step (97 ∷ []) here)) (sum (at_path (step (121 ∷ []) (step (97 ∷ []) here))) (sum_part sums.Plus (constant (root.Int (pos 1))) no_sum_parts))) (proc (solicit 3 0 (sum (constant (root.Text (116 ∷ 49 ∷ 52 ∷ 48 ∷ []))) (sum_part sums.Plus (count_at (step (121 ∷ []) here)) no_sum_parts)) None no_handlers) (proc (solicit 3 0 (constant (root.Text (116 ∷ 49 ∷ 52 ∷ 49 ∷ []))) None no_handlers) (proc (scope 15 (sequence (proc (scope 14 (sequence (proc (assign (step (98 ∷ []) here) (sum (constant (root.Text (45 ∷ []))) (sum_part sums.Plus (at_path (step (99 ∷ []) (step (98 ∷ []) (step (99 ∷ []) here)))) no_sum_parts))) (proc (solicit 3 0 (constant (root.Text (116 ∷ 49 ∷ 52 ∷ 50 ∷ []))) None no_handlers) no_procs)))) (proc (comp 15) (proc (solicit 3 0 (constant (root.Text (116 ∷ 49 ∷ 52 ∷ 51 ∷ []))) None no_handlers) (proc (choice (request 1 (Some (step_at (120 ∷ []) (constant (root.Int (pos 1))) here)) (Some (step_at (121 ∷ []) (constant (root.Int (pos 1))) here)) (sequence (proc (assign (step (121 ∷ []) (step_at (110 ∷ []) (constant (root.Long (pos 1))) (step (99 ∷ []) here))) (sum (at_path (step (121 ∷ []) (step_at (110 ∷ []) (constant (root.Long (pos 1))) (step (99 ∷ []) here)))) (sum_part sums.Plus (constant (root.Int (pos 1))) no_sum_parts))) (proc (assign (step (97 ∷ []) (step_at (97 ∷ []) (constant (root.Long (pos 1))) here)) (sum (at_path (step (97 ∷ []) (step_at (97 ∷ []) (constant (root.Long (pos 1))) here))) (sum_part sums.Minus (constant (root.Int (pos 1))) no_sum_parts))) (proc (undef (step (121 ∷ []) (step_at (99 ∷ []) (sum (constant (root.Int (pos 1))) (sum_part sums.Minus (constant (root.Int (pos 1))) no_sum_parts)) here))) no_procs)))) nothing no_branches)) no_procs)))))) no_procs))))) (handler (key.Fault 7) (sequence (proc (throw 1 (count_at (step (121 ∷ []) here))) (proc (solicit 3 0 (constant (root.Text (116 ∷ 49 ∷ 52 ∷ 52 ∷ []))) None no_handlers) (proc (copy (step (98 ∷ []) here) (literal (member_of (99 ∷ []) (literal (member_of (97 ∷ []) (sum (count_at (step_at (98 ∷ []) (constant (root.Int (pos 1))) (step (97 ∷ []) here))) (sum_part sums.Minus (constant (root.Int (pos 7))) no_sum_parts)) (member_of (97 ∷ []) (compared (at_path (step_at (120 ∷ []) (sum (constant (root.Int (pos 0))) (sum_part sums.Minus (constant (root.Int (pos 1))) no_sum_parts)) here)) compare.Equal (constant (root.Int (pos 7)))) no_member_list))) no_member_list))) no_procs)))) no_handlers))) no_procs)))) (solicit 3 0 (sum (constant (root.Text (116 ∷ 49 ∷ 52 ∷ 53 ∷ []))) (sum_part sums.Plus (cast casts.Text (at_path (step (99 ∷ []) (step_at (99 ∷ []) (count_at (step (97 ∷ []) here)) (step (110 ∷ []) here))))) no_sum_parts)) None no_handlers) no_branches))) (proc (assign (step_at (98 ∷ []) (constant (root.Int (pos 2))) (step (98 ∷ []) here)) (constant (root.Long (pos 5)))) (proc (solicit 3 0 (constant (root.Text (116 ∷ 49 ∷ 52 ∷ 54 ∷ []))) None no_handlers) (proc (copy (step (98 ∷ []) here) (defined_at (step (97 ∷ []) here))) no_procs))))) nothing (request 1 (Some (step (120 ∷ []) here)) (Some (step (121 ∷ []) here)) (solicit 3 0 (constant (root.Text (116 ∷ 49 ∷ 52 ∷ 55 ∷ []))) None no_handlers) (solicit 3 0 (constant (root.Text (116 ∷ 49 ∷ 52 ∷ 56 ∷ []))) None no_handlers) (request 2 None (Some (step (121 ∷ []) here)) (solicit 3 0 (sum (constant (root.Text (116 ∷ 49 ∷ 52 ∷ 57 ∷ []))) (sum_part sums.Plus (count_at (step (120 ∷ []) here)) no_sum_parts)) None no_handlers) nothing no_branches)))) (proc (assign (step (98 ∷ []) here) (sum (at_path (step (98 ∷ []) here)) (sum_part sums.Plus (constant (root.Int (pos 1))) no_sum_parts))) (proc (assign (step (99 ∷ []) (step (110 ∷ []) here)) (count_at (step (121 ∷ []) here))) no_procs)))) } ∷ []);
  names = ((73 ∷ 79 ∷ 69 ∷ 120 ∷ 99 ∷ 101 ∷ 112 ∷ 116 ∷ 105 ∷ 111 ∷ 110 ∷ []) ∷ (84 ∷ 121 ∷ 112 ∷ 101 ∷ 77 ∷ 105 ∷ 115 ∷ 109 ∷ 97 ∷ 116 ∷ 99 ∷ 104 ∷ []) ∷ (67 ∷ 111 ∷ 114 ∷ 114 ∷ 101 ∷ 108 ∷ 97 ∷ 116 ∷ 105 ∷ 111 ∷ 110 ∷ 69 ∷ 114 ∷ 114 ∷ 111 ∷ 114 ∷ []) ∷ (82 ∷ 101 ∷ 102 ∷ 117 ∷ 115 ∷ 101 ∷ 100 ∷ []) ∷ (85 ∷ 110 ∷ 100 ∷ 101 ∷ 99 ∷ 108 ∷ 97 ∷ 114 ∷ 101 ∷ 100 ∷ 70 ∷ 97 ∷ 117 ∷ 108 ∷ 116 ∷ []) ∷ (69 ∷ 120 ∷ 112 ∷ 114 ∷ 70 ∷ 97 ∷ 117 ∷ 108 ∷ 116 ∷ []) ∷ (72 ∷ 97 ∷ 110 ∷ 100 ∷ 108 ∷ 101 ∷ 114 ∷ 84 ∷ 111 ∷ 111 ∷ 76 ∷ 97 ∷ 114 ∷ 103 ∷ 101 ∷ []) ∷ (83 ∷ 116 ∷ 111 ∷ 114 ∷ 101 ∷ 84 ∷ 111 ∷ 111 ∷ 76 ∷ 97 ∷ 114 ∷ 103 ∷ 101 ∷ []) ∷ (109 ∷ 97 ∷ 105 ∷ 110 ∷ []) ∷ (102 ∷ []) ∷ (103 ∷ []) ∷ (112 ∷ []) ∷ (104 ∷ []) ∷ (114 ∷ []) ∷ (113 ∷ []) ∷ (115 ∷ []) ∷ []);
}

-- what its office works by
abbrev setting : Setting
setting = run_of program

-- its history
abbrev history : List Entry
history = (
    record { actor = 4096; act = act.Post 0 0 (record { service = 0; op = (109 ∷ 111 ∷ 114 ∷ 101 ∷ 48 ∷ []); value = (node root.Void (field (115 ∷ 105 ∷ 100 ∷ []) (tree (node (root.Int (pos 1)) no_fields) no_trees) no_fields)) }) (answer.Refused reason.Correlation) } ∷
    record { actor = 0; act = act.Adopt 1 } ∷
    record { actor = 4096; act = act.Post 1 0 (record { service = 0; op = (111 ∷ 112 ∷ 48 ∷ 48 ∷ []); value = (node root.Void no_fields) }) (answer.Refused reason.NotConforming) } ∷
    record { actor = 4096; act = act.Post 2 0 (record { service = 0; op = (111 ∷ 112 ∷ 48 ∷ 48 ∷ []); value = (node (root.Int (pos 1)) (field (33 ∷ []) (tree (node (root.Int (pos 5)) no_fields) no_trees) (field (97 ∷ []) (tree (node (root.Int (pos 2)) no_fields) no_trees) (field (122 ∷ []) (tree (node (root.Int (pos 1)) no_fields) no_trees) no_fields)))) }) (answer.Refused reason.NotConforming) } ∷
    record { actor = 4096; act = act.Post 3 0 (record { service = 0; op = (111 ∷ 112 ∷ 48 ∷ 48 ∷ []); value = (node (root.Int (pos 3)) no_fields) }) (answer.Refused reason.NotConforming) } ∷
    record { actor = 4096; act = act.Post 4 0 (record { service = 0; op = (111 ∷ 112 ∷ 48 ∷ 48 ∷ []); value = (node root.Void (field (115 ∷ 105 ∷ 100 ∷ []) (tree (node (root.Int (pos 0)) no_fields) no_trees) no_fields)) }) (answer.Accepted 0) } ∷
    record { actor = 1; act = act.Adopt 0 } ∷
    record { actor = 1; act = act.Take 0 } ∷
    record { actor = 1; act = act.Reply 0 (outcome.Fault (69 ∷ 120 ∷ 112 ∷ 114 ∷ 70 ∷ 97 ∷ 117 ∷ 108 ∷ 116 ∷ []) (node root.Void no_fields)) } ∷
    record { actor = 1; act = act.End } ∷
    record { actor = 4096; act = act.Collect 0 (outcome.Fault (69 ∷ 120 ∷ 112 ∷ 114 ∷ 70 ∷ 97 ∷ 117 ∷ 108 ∷ 116 ∷ []) (node root.Void no_fields)) } ∷
    record { actor = 4096; act = act.Post 5 0 (record { service = 0; op = (111 ∷ 112 ∷ 48 ∷ 48 ∷ []); value = (node root.Void (field (115 ∷ 105 ∷ 100 ∷ []) (tree (node (root.Int (pos 1)) no_fields) no_trees) no_fields)) }) (answer.Accepted 1) } ∷
    record { actor = 2; act = act.Adopt 0 } ∷
    record { actor = 2; act = act.Take 1 } ∷
    record { actor = 2; act = act.Reply 1 (outcome.Fault (69 ∷ 120 ∷ 112 ∷ 114 ∷ 70 ∷ 97 ∷ 117 ∷ 108 ∷ 116 ∷ []) (node root.Void no_fields)) } ∷
    record { actor = 2; act = act.End } ∷
    record { actor = 4096; act = act.Collect 1 (outcome.Fault (69 ∷ 120 ∷ 112 ∷ 114 ∷ 70 ∷ 97 ∷ 117 ∷ 108 ∷ 116 ∷ []) (node root.Void no_fields)) } ∷
    record { actor = 4096; act = act.Post 6 0 (record { service = 0; op = (111 ∷ 112 ∷ 48 ∷ 48 ∷ []); value = (node root.Void (field (115 ∷ 105 ∷ 100 ∷ []) (tree (node (root.Int (pos 0)) no_fields) no_trees) no_fields)) }) (answer.Accepted 2) } ∷
    record { actor = 3; act = act.Adopt 0 } ∷
    record { actor = 3; act = act.Take 2 } ∷
    record { actor = 3; act = act.Reply 2 (outcome.Fault (69 ∷ 120 ∷ 112 ∷ 114 ∷ 70 ∷ 97 ∷ 117 ∷ 108 ∷ 116 ∷ []) (node root.Void no_fields)) } ∷
    record { actor = 3; act = act.End } ∷
    record { actor = 4096; act = act.Collect 2 (outcome.Fault (69 ∷ 120 ∷ 112 ∷ 114 ∷ 70 ∷ 97 ∷ 117 ∷ 108 ∷ 116 ∷ []) (node root.Void no_fields)) } ∷
    record { actor = 4096; act = act.Post 7 0 (record { service = 0; op = (109 ∷ 111 ∷ 114 ∷ 101 ∷ 48 ∷ []); value = (node root.Void (field (115 ∷ 105 ∷ 100 ∷ []) (tree (node (root.Int (pos 0)) no_fields) no_trees) no_fields)) }) (answer.Refused reason.Correlation) } ∷
    record { actor = 4096; act = act.Post 7 1 (record { service = 0; op = (111 ∷ 112 ∷ 48 ∷ 48 ∷ []); value = (node root.Void (field (115 ∷ 105 ∷ 100 ∷ []) (tree (node (root.Int (pos 0)) no_fields) no_trees) no_fields)) }) (answer.Accepted 3) } ∷
    record { actor = 4096; act = act.Post 7 2 (record { service = 0; op = (111 ∷ 112 ∷ 48 ∷ 48 ∷ []); value = (node root.Void (field (115 ∷ 105 ∷ 100 ∷ []) (tree (node (root.Int (pos 0)) no_fields) no_trees) no_fields)) }) (answer.Accepted 4) } ∷
    record { actor = 4; act = act.Adopt 0 } ∷
    record { actor = 4; act = act.Take 3 } ∷
    record { actor = 4; act = act.Reply 3 (outcome.Fault (69 ∷ 120 ∷ 112 ∷ 114 ∷ 70 ∷ 97 ∷ 117 ∷ 108 ∷ 116 ∷ []) (node root.Void no_fields)) } ∷
    record { actor = 4; act = act.End } ∷
    record { actor = 4096; act = act.Collect 3 (outcome.Fault (69 ∷ 120 ∷ 112 ∷ 114 ∷ 70 ∷ 97 ∷ 117 ∷ 108 ∷ 116 ∷ []) (node root.Void no_fields)) } ∷
    record { actor = 4096; act = act.Collect 4 (outcome.Refused reason.SessionEnded) } ∷
    record { actor = 4096; act = act.Post 8 0 (record { service = 0; op = (111 ∷ 112 ∷ 48 ∷ 48 ∷ []); value = (node root.Void (field (115 ∷ 105 ∷ 100 ∷ []) (tree (node (root.Int (pos 1)) no_fields) no_trees) no_fields)) }) (answer.Accepted 5) } ∷
    record { actor = 5; act = act.Adopt 0 } ∷
    record { actor = 5; act = act.Take 5 } ∷
    record { actor = 5; act = act.Reply 5 (outcome.Fault (69 ∷ 120 ∷ 112 ∷ 114 ∷ 70 ∷ 97 ∷ 117 ∷ 108 ∷ 116 ∷ []) (node root.Void no_fields)) } ∷
    record { actor = 5; act = act.End } ∷
    record { actor = 4096; act = act.Collect 5 (outcome.Fault (69 ∷ 120 ∷ 112 ∷ 114 ∷ 70 ∷ 97 ∷ 117 ∷ 108 ∷ 116 ∷ []) (node root.Void no_fields)) } ∷
    record { actor = 4096; act = act.Post 9 0 (record { service = 0; op = (111 ∷ 112 ∷ 48 ∷ 48 ∷ []); value = (node root.Void (field (115 ∷ 105 ∷ 100 ∷ []) (tree (node (root.Int (pos 0)) no_fields) no_trees) no_fields)) }) (answer.Accepted 6) } ∷
    record { actor = 6; act = act.Adopt 0 } ∷
    record { actor = 6; act = act.Take 6 } ∷
    record { actor = 6; act = act.Reply 6 (outcome.Fault (69 ∷ 120 ∷ 112 ∷ 114 ∷ 70 ∷ 97 ∷ 117 ∷ 108 ∷ 116 ∷ []) (node root.Void no_fields)) } ∷
    record { actor = 6; act = act.End } ∷
    record { actor = 4096; act = act.Collect 6 (outcome.Fault (69 ∷ 120 ∷ 112 ∷ 114 ∷ 70 ∷ 97 ∷ 117 ∷ 108 ∷ 116 ∷ []) (node root.Void no_fields)) } ∷
    record { actor = 4096; act = act.Post 10 0 (record { service = 0; op = (109 ∷ 111 ∷ 114 ∷ 101 ∷ 48 ∷ []); value = (node root.Void (field (115 ∷ 105 ∷ 100 ∷ []) (tree (node (root.Int (pos 1)) no_fields) no_trees) no_fields)) }) (answer.Refused reason.Correlation) } ∷
    record { actor = 4096; act = act.Post 11 0 (record { service = 0; op = (111 ∷ 112 ∷ 49 ∷ 48 ∷ []); value = (node root.Void (field (115 ∷ 105 ∷ 100 ∷ []) (tree (node (root.Int (pos 1)) no_fields) no_trees) no_fields)) }) (answer.Refused reason.UnknownOperation) } ∷
    record { actor = 4096; act = act.Post 12 0 (record { service = 0; op = (109 ∷ 111 ∷ 114 ∷ 101 ∷ 48 ∷ []); value = (node root.Void (field (115 ∷ 105 ∷ 100 ∷ []) (tree (node (root.Int (pos 1)) no_fields) no_trees) no_fields)) }) (answer.Refused reason.Correlation) } ∷
    record { actor = 4096; act = act.Post 13 0 (record { service = 0; op = (111 ∷ 112 ∷ 48 ∷ 48 ∷ []); value = (node root.Void no_fields) }) (answer.Refused reason.NotConforming) } ∷
    record { actor = 4096; act = act.Post 14 0 (record { service = 0; op = (109 ∷ 111 ∷ 114 ∷ 101 ∷ 48 ∷ []); value = (node root.Void (field (115 ∷ 105 ∷ 100 ∷ []) (tree (node (root.Long (pos 4294967296)) no_fields) no_trees) no_fields)) }) (answer.Refused reason.Correlation) } ∷
    record { actor = 4096; act = act.Post 15 0 (record { service = 0; op = (111 ∷ 112 ∷ 48 ∷ 48 ∷ []); value = (node root.Void (field (115 ∷ 105 ∷ 100 ∷ []) (tree (node (root.Int (pos 1)) no_fields) no_trees) no_fields)) }) (answer.Accepted 7) } ∷
    record { actor = 7; act = act.Adopt 0 } ∷
    record { actor = 7; act = act.Take 7 } ∷
    record { actor = 7; act = act.Reply 7 (outcome.Fault (69 ∷ 120 ∷ 112 ∷ 114 ∷ 70 ∷ 97 ∷ 117 ∷ 108 ∷ 116 ∷ []) (node root.Void no_fields)) } ∷
    record { actor = 7; act = act.End } ∷
    record { actor = 4096; act = act.Collect 7 (outcome.Fault (69 ∷ 120 ∷ 112 ∷ 114 ∷ 70 ∷ 97 ∷ 117 ∷ 108 ∷ 116 ∷ []) (node root.Void no_fields)) } ∷
    record { actor = 4096; act = act.Post 16 0 (record { service = 0; op = (111 ∷ 112 ∷ 48 ∷ 48 ∷ []); value = (node root.Void (field (115 ∷ 105 ∷ 100 ∷ []) (tree (node (root.Int (pos 1)) no_fields) no_trees) no_fields)) }) (answer.Accepted 8) } ∷
    record { actor = 8; act = act.Adopt 0 } ∷
    record { actor = 8; act = act.Take 8 } ∷
    record { actor = 8; act = act.Reply 8 (outcome.Fault (69 ∷ 120 ∷ 112 ∷ 114 ∷ 70 ∷ 97 ∷ 117 ∷ 108 ∷ 116 ∷ []) (node root.Void no_fields)) } ∷
    record { actor = 8; act = act.End } ∷
    record { actor = 4096; act = act.Collect 8 (outcome.Fault (69 ∷ 120 ∷ 112 ∷ 114 ∷ 70 ∷ 97 ∷ 117 ∷ 108 ∷ 116 ∷ []) (node root.Void no_fields)) } ∷
    record { actor = 4096; act = act.Post 17 0 (record { service = 0; op = (111 ∷ 112 ∷ 48 ∷ 48 ∷ []); value = (node root.Void no_fields) }) (answer.Refused reason.NotConforming) } ∷
    record { actor = 4096; act = act.Post 17 1 (record { service = 0; op = (111 ∷ 112 ∷ 48 ∷ 48 ∷ []); value = (node root.Void (field (115 ∷ 105 ∷ 100 ∷ []) (tree (node (root.Int (pos 0)) no_fields) no_trees) no_fields)) }) (answer.Accepted 9) } ∷
    record { actor = 4096; act = act.Post 17 2 (record { service = 0; op = (111 ∷ 112 ∷ 48 ∷ 48 ∷ []); value = (node root.Void (field (115 ∷ 105 ∷ 100 ∷ []) (tree (node (root.Int (pos 1)) no_fields) no_trees) no_fields)) }) (answer.Accepted 10) } ∷
    record { actor = 9; act = act.Adopt 0 } ∷
    record { actor = 9; act = act.Take 9 } ∷
    record { actor = 9; act = act.Reply 9 (outcome.Fault (69 ∷ 120 ∷ 112 ∷ 114 ∷ 70 ∷ 97 ∷ 117 ∷ 108 ∷ 116 ∷ []) (node root.Void no_fields)) } ∷
    record { actor = 9; act = act.End } ∷
    record { actor = 10; act = act.Adopt 0 } ∷
    record { actor = 10; act = act.Take 10 } ∷
    record { actor = 10; act = act.Reply 10 (outcome.Fault (69 ∷ 120 ∷ 112 ∷ 114 ∷ 70 ∷ 97 ∷ 117 ∷ 108 ∷ 116 ∷ []) (node root.Void no_fields)) } ∷
    record { actor = 10; act = act.End } ∷
    record { actor = 4096; act = act.Collect 9 (outcome.Fault (69 ∷ 120 ∷ 112 ∷ 114 ∷ 70 ∷ 97 ∷ 117 ∷ 108 ∷ 116 ∷ []) (node root.Void no_fields)) } ∷
    record { actor = 4096; act = act.Collect 10 (outcome.Fault (69 ∷ 120 ∷ 112 ∷ 114 ∷ 70 ∷ 97 ∷ 117 ∷ 108 ∷ 116 ∷ []) (node root.Void no_fields)) } ∷
    record { actor = 4096; act = act.Post 18 0 (record { service = 0; op = (111 ∷ 112 ∷ 48 ∷ 48 ∷ []); value = (node root.Void (field (115 ∷ 105 ∷ 100 ∷ []) (tree (node (root.Int (pos 1)) no_fields) no_trees) no_fields)) }) (answer.Accepted 11) } ∷
    record { actor = 4096; act = act.Post 18 1 (record { service = 0; op = (111 ∷ 112 ∷ 48 ∷ 48 ∷ []); value = (node root.Void (field (115 ∷ 105 ∷ 100 ∷ []) (tree (node (root.Int (pos 1)) no_fields) no_trees) no_fields)) }) (answer.Accepted 12) } ∷
    record { actor = 4096; act = act.Post 18 2 (record { service = 0; op = (109 ∷ 111 ∷ 114 ∷ 101 ∷ 48 ∷ []); value = (node root.Void (field (115 ∷ 105 ∷ 100 ∷ []) (tree (node (root.Int (pos 1)) no_fields) no_trees) no_fields)) }) (answer.Accepted 13) } ∷
    record { actor = 11; act = act.Adopt 0 } ∷
    record { actor = 11; act = act.Take 11 } ∷
    record { actor = 11; act = act.Reply 11 (outcome.Fault (69 ∷ 120 ∷ 112 ∷ 114 ∷ 70 ∷ 97 ∷ 117 ∷ 108 ∷ 116 ∷ []) (node root.Void no_fields)) } ∷
    record { actor = 11; act = act.End } ∷
    record { actor = 4096; act = act.Collect 11 (outcome.Fault (69 ∷ 120 ∷ 112 ∷ 114 ∷ 70 ∷ 97 ∷ 117 ∷ 108 ∷ 116 ∷ []) (node root.Void no_fields)) } ∷
    record { actor = 4096; act = act.Collect 12 (outcome.Refused reason.SessionEnded) } ∷
    record { actor = 4096; act = act.Collect 13 (outcome.Refused reason.SessionEnded) } ∷
    record { actor = 4096; act = act.Post 19 0 (record { service = 0; op = (110 ∷ 111 ∷ 115 ∷ 117 ∷ 99 ∷ 104 ∷ []); value = (node root.Void no_fields) }) (answer.Refused reason.UnknownOperation) } ∷
    record { actor = 4096; act = act.Close } ∷
    record { actor = 4096; act = act.Stop } ∷ [])

pub legal : IsLegal setting history
legal = (record { allowed = refl; reply = refl }, (record { allowed = refl; reply = refl }, (record { allowed = refl; reply = refl }, (record { allowed = refl; reply = refl }, (record { allowed = refl; reply = refl }, (record { allowed = refl; reply = refl }, (record { allowed = refl; reply = refl }, (record { allowed = refl; reply = refl }, (record { allowed = refl; reply = refl }, (record { allowed = refl; reply = refl }, (record { allowed = refl; reply = refl }, (record { allowed = refl; reply = refl }, (record { allowed = refl; reply = refl }, (record { allowed = refl; reply = refl }, (record { allowed = refl; reply = refl }, (record { allowed = refl; reply = refl }, (record { allowed = refl; reply = refl }, (record { allowed = refl; reply = refl }, (record { allowed = refl; reply = refl }, (record { allowed = refl; reply = refl }, (record { allowed = refl; reply = refl }, (record { allowed = refl; reply = refl }, (record { allowed = refl; reply = refl }, (record { allowed = refl; reply = refl }, (record { allowed = refl; reply = refl }, (record { allowed = refl; reply = refl }, (record { allowed = refl; reply = refl }, (record { allowed = refl; reply = refl }, (record { allowed = refl; reply = refl }, (record { allowed = refl; reply = refl }, (record { allowed = refl; reply = refl }, (record { allowed = refl; reply = refl }, (record { allowed = refl; reply = refl }, (record { allowed = refl; reply = refl }, (record { allowed = refl; reply = refl }, (record { allowed = refl; reply = refl }, (record { allowed = refl; reply = refl }, (record { allowed = refl; reply = refl }, (record { allowed = refl; reply = refl }, (record { allowed = refl; reply = refl }, (record { allowed = refl; reply = refl }, (record { allowed = refl; reply = refl }, (record { allowed = refl; reply = refl }, (record { allowed = refl; reply = refl }, (record { allowed = refl; reply = refl }, (record { allowed = refl; reply = refl }, (record { allowed = refl; reply = refl }, (record { allowed = refl; reply = refl }, (record { allowed = refl; reply = refl }, (record { allowed = refl; reply = refl }, (record { allowed = refl; reply = refl }, (record { allowed = refl; reply = refl }, (record { allowed = refl; reply = refl }, (record { allowed = refl; reply = refl }, (record { allowed = refl; reply = refl }, (record { allowed = refl; reply = refl }, (record { allowed = refl; reply = refl }, (record { allowed = refl; reply = refl }, (record { allowed = refl; reply = refl }, (record { allowed = refl; reply = refl }, (record { allowed = refl; reply = refl }, (record { allowed = refl; reply = refl }, (record { allowed = refl; reply = refl }, (record { allowed = refl; reply = refl }, (record { allowed = refl; reply = refl }, (record { allowed = refl; reply = refl }, (record { allowed = refl; reply = refl }, (record { allowed = refl; reply = refl }, (record { allowed = refl; reply = refl }, (record { allowed = refl; reply = refl }, (record { allowed = refl; reply = refl }, (record { allowed = refl; reply = refl }, (record { allowed = refl; reply = refl }, (record { allowed = refl; reply = refl }, (record { allowed = refl; reply = refl }, (record { allowed = refl; reply = refl }, (record { allowed = refl; reply = refl }, (record { allowed = refl; reply = refl }, (record { allowed = refl; reply = refl }, (record { allowed = refl; reply = refl }, (record { allowed = refl; reply = refl }, (record { allowed = refl; reply = refl }, (record { allowed = refl; reply = refl }, (record { allowed = refl; reply = refl }, (record { allowed = refl; reply = refl }, (record { allowed = refl; reply = refl }, (record { allowed = refl; reply = refl }, tt)))))))))))))))))))))))))))))))))))))))))))))))))))))))))))))))))))))))))))))))))))))))

pub spoilt_message_number_skipped : legal_entries setting (with_at 5 (record { actor = 4096; act = act.Post 4 0 (record { service = 0; op = (111 ∷ 112 ∷ 48 ∷ 48 ∷ []); value = (node root.Void (field (115 ∷ 105 ∷ 100 ∷ []) (tree (node (root.Int (pos 0)) no_fields) no_trees) no_fields)) }) (answer.Accepted 1) } ∷ []) history) ≡ 5
spoilt_message_number_skipped = refl

pub spoilt_refused_without_cause : legal_entries setting (with_at 5 (record { actor = 4096; act = act.Post 4 0 (record { service = 0; op = (111 ∷ 112 ∷ 48 ∷ 48 ∷ []); value = (node root.Void (field (115 ∷ 105 ∷ 100 ∷ []) (tree (node (root.Int (pos 0)) no_fields) no_trees) no_fields)) }) (answer.Refused reason.Correlation) } ∷ []) history) ≡ 5
spoilt_refused_without_cause = refl

pub spoilt_take_left_out : legal_entries setting (with_at 7 [] history) ≡ 7
spoilt_take_left_out = refl

-- the events of session 0
abbrev events_0 : List Event
events_0 = (
    event 0 kind.Install 0 0 0 ∷
    event 1 kind.Local 0 0 0 ∷
    event 1 kind.Local 0 0 0 ∷
    event 2 kind.Install 0 0 0 ∷
    event 0 kind.Local 0 0 0 ∷ [])

-- the events of session 1
abbrev events_1 : List Event
events_1 = (
    event 0 kind.Install 0 0 0 ∷
    event 0 kind.In 0 0 0 ∷
    event 0 kind.Install 0 0 0 ∷
    event 0 kind.Install 0 0 0 ∷
    event 0 kind.Raise 2 8 5 ∷
    event 0 kind.Reply 0 0 0 ∷
    event 0 kind.Finish 0 0 0 ∷ [])

-- the events of session 2
abbrev events_2 : List Event
events_2 = (
    event 0 kind.Install 0 0 0 ∷
    event 0 kind.In 1 0 0 ∷
    event 0 kind.Install 0 0 0 ∷
    event 0 kind.Install 0 0 0 ∷
    event 0 kind.Raise 2 8 5 ∷
    event 0 kind.Reply 1 0 0 ∷
    event 0 kind.Finish 0 0 0 ∷ [])

-- the events of session 3
abbrev events_3 : List Event
events_3 = (
    event 0 kind.Install 0 0 0 ∷
    event 0 kind.In 2 0 0 ∷
    event 0 kind.Install 0 0 0 ∷
    event 0 kind.Install 0 0 0 ∷
    event 0 kind.Raise 2 8 5 ∷
    event 0 kind.Reply 2 0 0 ∷
    event 0 kind.Finish 0 0 0 ∷ [])

-- the events of session 4
abbrev events_4 : List Event
events_4 = (
    event 0 kind.Install 0 0 0 ∷
    event 0 kind.In 3 0 0 ∷
    event 0 kind.Install 0 0 0 ∷
    event 0 kind.Install 0 0 0 ∷
    event 0 kind.Raise 2 8 5 ∷
    event 0 kind.Reply 3 0 0 ∷
    event 0 kind.Finish 0 0 0 ∷ [])

-- the events of session 5
abbrev events_5 : List Event
events_5 = (
    event 0 kind.Install 0 0 0 ∷
    event 0 kind.In 5 0 0 ∷
    event 0 kind.Install 0 0 0 ∷
    event 0 kind.Install 0 0 0 ∷
    event 0 kind.Raise 2 8 5 ∷
    event 0 kind.Reply 5 0 0 ∷
    event 0 kind.Finish 0 0 0 ∷ [])

-- the events of session 6
abbrev events_6 : List Event
events_6 = (
    event 0 kind.Install 0 0 0 ∷
    event 0 kind.In 6 0 0 ∷
    event 0 kind.Install 0 0 0 ∷
    event 0 kind.Install 0 0 0 ∷
    event 0 kind.Raise 2 8 5 ∷
    event 0 kind.Reply 6 0 0 ∷
    event 0 kind.Finish 0 0 0 ∷ [])

-- the events of session 7
abbrev events_7 : List Event
events_7 = (
    event 0 kind.Install 0 0 0 ∷
    event 0 kind.In 7 0 0 ∷
    event 0 kind.Install 0 0 0 ∷
    event 0 kind.Install 0 0 0 ∷
    event 0 kind.Raise 2 8 5 ∷
    event 0 kind.Reply 7 0 0 ∷
    event 0 kind.Finish 0 0 0 ∷ [])

-- the events of session 8
abbrev events_8 : List Event
events_8 = (
    event 0 kind.Install 0 0 0 ∷
    event 0 kind.In 8 0 0 ∷
    event 0 kind.Install 0 0 0 ∷
    event 0 kind.Install 0 0 0 ∷
    event 0 kind.Raise 2 8 5 ∷
    event 0 kind.Reply 8 0 0 ∷
    event 0 kind.Finish 0 0 0 ∷ [])

-- the events of session 9
abbrev events_9 : List Event
events_9 = (
    event 0 kind.Install 0 0 0 ∷
    event 0 kind.In 9 0 0 ∷
    event 0 kind.Install 0 0 0 ∷
    event 0 kind.Install 0 0 0 ∷
    event 0 kind.Raise 2 8 5 ∷
    event 0 kind.Reply 9 0 0 ∷
    event 0 kind.Finish 0 0 0 ∷ [])

-- the events of session 10
abbrev events_10 : List Event
events_10 = (
    event 0 kind.Install 0 0 0 ∷
    event 0 kind.In 10 0 0 ∷
    event 0 kind.Install 0 0 0 ∷
    event 0 kind.Install 0 0 0 ∷
    event 0 kind.Raise 2 8 5 ∷
    event 0 kind.Reply 10 0 0 ∷
    event 0 kind.Finish 0 0 0 ∷ [])

-- the events of session 11
abbrev events_11 : List Event
events_11 = (
    event 0 kind.Install 0 0 0 ∷
    event 0 kind.In 11 0 0 ∷
    event 0 kind.Install 0 0 0 ∷
    event 0 kind.Install 0 0 0 ∷
    event 0 kind.Raise 2 8 5 ∷
    event 0 kind.Reply 11 0 0 ∷
    event 0 kind.Finish 0 0 0 ∷ [])

-- the events of each session
abbrev sessions : List (List Event)
sessions = events_0 ∷ events_1 ∷ events_2 ∷ events_3 ∷ events_4 ∷ events_5 ∷ events_6 ∷ events_7 ∷ events_8 ∷ events_9 ∷ events_10 ∷ events_11 ∷ []

pub session_0 : IsSession setting history 0 events_0
unfolding digits
session_0 = is_session setting history 0 1 events_0 refl refl tt

pub session_1 : IsSession setting history 1 events_1
unfolding digits
session_1 = is_session setting history 1 0 events_1 refl refl (refl, ((refl, refl), (tt, tt)))

pub session_2 : IsSession setting history 2 events_2
unfolding digits
session_2 = is_session setting history 2 0 events_2 refl refl (refl, ((refl, refl), (tt, tt)))

pub session_3 : IsSession setting history 3 events_3
unfolding digits
session_3 = is_session setting history 3 0 events_3 refl refl (refl, ((refl, refl), (tt, tt)))

pub session_4 : IsSession setting history 4 events_4
unfolding digits
session_4 = is_session setting history 4 0 events_4 refl refl (refl, ((refl, refl), (tt, tt)))

pub session_5 : IsSession setting history 5 events_5
unfolding digits
session_5 = is_session setting history 5 0 events_5 refl refl (refl, ((refl, refl), (tt, tt)))

pub session_6 : IsSession setting history 6 events_6
unfolding digits
session_6 = is_session setting history 6 0 events_6 refl refl (refl, ((refl, refl), (tt, tt)))

pub session_7 : IsSession setting history 7 events_7
unfolding digits
session_7 = is_session setting history 7 0 events_7 refl refl (refl, ((refl, refl), (tt, tt)))

pub session_8 : IsSession setting history 8 events_8
unfolding digits
session_8 = is_session setting history 8 0 events_8 refl refl (refl, ((refl, refl), (tt, tt)))

pub session_9 : IsSession setting history 9 events_9
unfolding digits
session_9 = is_session setting history 9 0 events_9 refl refl (refl, ((refl, refl), (tt, tt)))

pub session_10 : IsSession setting history 10 events_10
unfolding digits
session_10 = is_session setting history 10 0 events_10 refl refl (refl, ((refl, refl), (tt, tt)))

pub session_11 : IsSession setting history 11 events_11
unfolding digits
session_11 = is_session setting history 11 0 events_11 refl refl (refl, ((refl, refl), (tt, tt)))

pub quiet : is_quiet setting 10000 (before_stop history) sessions ≡ true
unfolding digits
quiet = refl

pub still : is_still setting 10000 history sessions ≡ true
unfolding digits
still = refl

pub collected : are_collected setting history ≡ true
unfolding digits
collected = refl

pub together : stand_together history ≡ true
together = refl

pub run : (r : Record) → r.history.entries.items ≡ history → r.sessions ≡ sessions
    → IsRun setting 10000 alone false r
run = is_run setting 10000 history sessions
    (record { legal = legal; stopped = refl; actors = refl; all = refl; each = (session_0, (session_1, (session_2, (session_3, (session_4, (session_5, (session_6, (session_7, (session_8, (session_9, (session_10, (session_11, tt)))))))))))); within = refl; quiet = quiet; closed = refl; posted = together; still = still; collected = collected })

pub spoilt_run_without_its_stop : (r : Record) → r.history.entries.items ≡ (with_at 86 [] history) → IsRun setting 10000 alone false r → ⊥
spoilt_run_without_its_stop r has = unstopped setting 10000 false (with_at 86 [] history) r has refl

pub spoilt_run_that_is_not_closed : (r : Record) → r.history.entries.items ≡ (with_at 85 [] history) → IsRun setting 10000 alone false r → ⊥
spoilt_run_that_is_not_closed r has = unclosed setting 10000 false (with_at 85 [] history) r has refl

pub spoilt_run_stopped_by_another : (r : Record) → r.history.entries.items ≡ (with_at 86 (record { actor = 4097; act = act.Stop } ∷ []) history) → IsRun setting 10000 alone false r → ⊥
spoilt_run_stopped_by_another r has = foreign setting 10000 false (with_at 86 (record { actor = 4097; act = act.Stop } ∷ []) history) r has refl

pub spoilt_run_that_lacks_a_session : (r : Record) → r.history.entries.items ≡ history → r.sessions ≡ (events_1 ∷ events_2 ∷ events_3 ∷ events_4 ∷ events_5 ∷ events_6 ∷ events_7 ∷ events_8 ∷ events_9 ∷ events_10 ∷ events_11 ∷ [])
    → IsRun setting 10000 alone false r → ⊥
spoilt_run_that_lacks_a_session r has events = missing setting 10000 false history r has (events_1 ∷ events_2 ∷ events_3 ∷ events_4 ∷ events_5 ∷ events_6 ∷ events_7 ∷ events_8 ∷ events_9 ∷ events_10 ∷ events_11 ∷ []) events refl

pub spoilt_run_over_its_budget : (r : Record) → r.history.entries.items ≡ history → r.sessions ≡ sessions
    → IsRun setting 6 alone false r → ⊥
spoilt_run_over_its_budget r has events =
    too_many setting 6 false history r has sessions events 1 events_1 refl refl

pub spoilt_event_cut_at_the_end : agrees setting history 1 (
    event 0 kind.Install 0 0 0 ∷
    event 0 kind.In 0 0 0 ∷
    event 0 kind.Install 0 0 0 ∷
    event 0 kind.Install 0 0 0 ∷
    event 0 kind.Raise 2 8 5 ∷
    event 0 kind.Reply 0 0 0 ∷ []) ≡ false
unfolding digits
spoilt_event_cut_at_the_end = refl

pub spoilt_events_exchanged : agrees setting history 1 (
    event 0 kind.In 0 0 0 ∷
    event 0 kind.Install 0 0 0 ∷
    event 0 kind.Install 0 0 0 ∷
    event 0 kind.Install 0 0 0 ∷
    event 0 kind.Raise 2 8 5 ∷
    event 0 kind.Reply 0 0 0 ∷
    event 0 kind.Finish 0 0 0 ∷ []) ≡ false
unfolding digits
spoilt_events_exchanged = refl

pub spoilt_left_in_the_middle : is_quiet setting 10000 (take 8 history) (sessions_at setting (take 8 history) 0 sessions) ≡ false
unfolding digits
spoilt_left_in_the_middle = refl

pub spoilt_call_left_out : agrees setting (with_at 8 [] history) 1 events_1 ≡ false
unfolding digits
spoilt_call_left_out = refl

pub spoilt_posted_too_soon : is_still setting 10000 (with_at 8 (record { actor = 4096; act = act.Post 5 0 (record { service = 0; op = (111 ∷ 112 ∷ 48 ∷ 48 ∷ []); value = (node root.Void (field (115 ∷ 105 ∷ 100 ∷ []) (tree (node (root.Int (pos 1)) no_fields) no_trees) no_fields)) }) (answer.Accepted 1) } ∷ record { actor = 1; act = act.Reply 0 (outcome.Fault (69 ∷ 120 ∷ 112 ∷ 114 ∷ 70 ∷ 97 ∷ 117 ∷ 108 ∷ 116 ∷ []) (node root.Void no_fields)) } ∷ []) (with_at 11 [] history)) sessions ≡ false
unfolding digits
spoilt_posted_too_soon = refl

pub spoilt_posted_behind_the_start : is_still setting 10000 (record { actor = 0; act = act.Adopt 1 } ∷ with_at 1 [] history) sessions ≡ false
unfolding digits
spoilt_posted_behind_the_start = refl

pub spoilt_post_apart : stand_together (with_at 23 (record { actor = 4096; act = act.Post 7 0 (record { service = 0; op = (109 ∷ 111 ∷ 114 ∷ 101 ∷ 48 ∷ []); value = (node root.Void (field (115 ∷ 105 ∷ 100 ∷ []) (tree (node (root.Int (pos 0)) no_fields) no_trees) no_fields)) }) (answer.Refused reason.Correlation) } ∷ record { actor = 0; act = act.End } ∷ []) history) ≡ false
unfolding digits
spoilt_post_apart = refl

-- what came in
abbrev postings : List Posting
postings = (
    record { calls = (call.Post (record { service = 0; op = (109 ∷ 111 ∷ 114 ∷ 101 ∷ 48 ∷ []); value = (node root.Void (field (115 ∷ 105 ∷ 100 ∷ []) (tree (node (root.Int (pos 1)) no_fields) no_trees) no_fields)) }) ∷ []) } ∷
    record { calls = (call.Post (record { service = 0; op = (111 ∷ 112 ∷ 48 ∷ 48 ∷ []); value = (node root.Void no_fields) }) ∷ []) } ∷
    record { calls = (call.Post (record { service = 0; op = (111 ∷ 112 ∷ 48 ∷ 48 ∷ []); value = (node (root.Int (pos 1)) (field (33 ∷ []) (tree (node (root.Int (pos 5)) no_fields) no_trees) (field (97 ∷ []) (tree (node (root.Int (pos 2)) no_fields) no_trees) (field (122 ∷ []) (tree (node (root.Int (pos 1)) no_fields) no_trees) no_fields)))) }) ∷ []) } ∷
    record { calls = (call.Post (record { service = 0; op = (111 ∷ 112 ∷ 48 ∷ 48 ∷ []); value = (node (root.Int (pos 3)) no_fields) }) ∷ []) } ∷
    record { calls = (call.Post (record { service = 0; op = (111 ∷ 112 ∷ 48 ∷ 48 ∷ []); value = (node root.Void (field (115 ∷ 105 ∷ 100 ∷ []) (tree (node (root.Int (pos 0)) no_fields) no_trees) no_fields)) }) ∷ []) } ∷
    record { calls = (call.Post (record { service = 0; op = (111 ∷ 112 ∷ 48 ∷ 48 ∷ []); value = (node root.Void (field (115 ∷ 105 ∷ 100 ∷ []) (tree (node (root.Int (pos 1)) no_fields) no_trees) no_fields)) }) ∷ []) } ∷
    record { calls = (call.Post (record { service = 0; op = (111 ∷ 112 ∷ 48 ∷ 48 ∷ []); value = (node root.Void (field (115 ∷ 105 ∷ 100 ∷ []) (tree (node (root.Int (pos 0)) no_fields) no_trees) no_fields)) }) ∷ []) } ∷
    record { calls = (call.Post (record { service = 0; op = (109 ∷ 111 ∷ 114 ∷ 101 ∷ 48 ∷ []); value = (node root.Void (field (115 ∷ 105 ∷ 100 ∷ []) (tree (node (root.Int (pos 0)) no_fields) no_trees) no_fields)) }) ∷ call.Post (record { service = 0; op = (111 ∷ 112 ∷ 48 ∷ 48 ∷ []); value = (node root.Void (field (115 ∷ 105 ∷ 100 ∷ []) (tree (node (root.Int (pos 0)) no_fields) no_trees) no_fields)) }) ∷ call.Post (record { service = 0; op = (111 ∷ 112 ∷ 48 ∷ 48 ∷ []); value = (node root.Void (field (115 ∷ 105 ∷ 100 ∷ []) (tree (node (root.Int (pos 0)) no_fields) no_trees) no_fields)) }) ∷ []) } ∷
    record { calls = (call.Post (record { service = 0; op = (111 ∷ 112 ∷ 48 ∷ 48 ∷ []); value = (node root.Void (field (115 ∷ 105 ∷ 100 ∷ []) (tree (node (root.Int (pos 1)) no_fields) no_trees) no_fields)) }) ∷ []) } ∷
    record { calls = (call.Post (record { service = 0; op = (111 ∷ 112 ∷ 48 ∷ 48 ∷ []); value = (node root.Void (field (115 ∷ 105 ∷ 100 ∷ []) (tree (node (root.Int (pos 0)) no_fields) no_trees) no_fields)) }) ∷ []) } ∷
    record { calls = (call.Post (record { service = 0; op = (109 ∷ 111 ∷ 114 ∷ 101 ∷ 48 ∷ []); value = (node root.Void (field (115 ∷ 105 ∷ 100 ∷ []) (tree (node (root.Int (pos 1)) no_fields) no_trees) no_fields)) }) ∷ []) } ∷
    record { calls = (call.Post (record { service = 0; op = (111 ∷ 112 ∷ 49 ∷ 48 ∷ []); value = (node root.Void (field (115 ∷ 105 ∷ 100 ∷ []) (tree (node (root.Int (pos 1)) no_fields) no_trees) no_fields)) }) ∷ []) } ∷
    record { calls = (call.Post (record { service = 0; op = (109 ∷ 111 ∷ 114 ∷ 101 ∷ 48 ∷ []); value = (node root.Void (field (115 ∷ 105 ∷ 100 ∷ []) (tree (node (root.Int (pos 1)) no_fields) no_trees) no_fields)) }) ∷ []) } ∷
    record { calls = (call.Post (record { service = 0; op = (111 ∷ 112 ∷ 48 ∷ 48 ∷ []); value = (node root.Void no_fields) }) ∷ []) } ∷
    record { calls = (call.Post (record { service = 0; op = (109 ∷ 111 ∷ 114 ∷ 101 ∷ 48 ∷ []); value = (node root.Void (field (115 ∷ 105 ∷ 100 ∷ []) (tree (node (root.Long (pos 4294967296)) no_fields) no_trees) no_fields)) }) ∷ []) } ∷
    record { calls = (call.Post (record { service = 0; op = (111 ∷ 112 ∷ 48 ∷ 48 ∷ []); value = (node root.Void (field (115 ∷ 105 ∷ 100 ∷ []) (tree (node (root.Int (pos 1)) no_fields) no_trees) no_fields)) }) ∷ []) } ∷
    record { calls = (call.Post (record { service = 0; op = (111 ∷ 112 ∷ 48 ∷ 48 ∷ []); value = (node root.Void (field (115 ∷ 105 ∷ 100 ∷ []) (tree (node (root.Int (pos 1)) no_fields) no_trees) no_fields)) }) ∷ []) } ∷
    record { calls = (call.Post (record { service = 0; op = (111 ∷ 112 ∷ 48 ∷ 48 ∷ []); value = (node root.Void no_fields) }) ∷ call.Post (record { service = 0; op = (111 ∷ 112 ∷ 48 ∷ 48 ∷ []); value = (node root.Void (field (115 ∷ 105 ∷ 100 ∷ []) (tree (node (root.Int (pos 0)) no_fields) no_trees) no_fields)) }) ∷ call.Post (record { service = 0; op = (111 ∷ 112 ∷ 48 ∷ 48 ∷ []); value = (node root.Void (field (115 ∷ 105 ∷ 100 ∷ []) (tree (node (root.Int (pos 1)) no_fields) no_trees) no_fields)) }) ∷ []) } ∷
    record { calls = (call.Post (record { service = 0; op = (111 ∷ 112 ∷ 48 ∷ 48 ∷ []); value = (node root.Void (field (115 ∷ 105 ∷ 100 ∷ []) (tree (node (root.Int (pos 1)) no_fields) no_trees) no_fields)) }) ∷ call.Post (record { service = 0; op = (111 ∷ 112 ∷ 48 ∷ 48 ∷ []); value = (node root.Void (field (115 ∷ 105 ∷ 100 ∷ []) (tree (node (root.Int (pos 1)) no_fields) no_trees) no_fields)) }) ∷ call.Post (record { service = 0; op = (109 ∷ 111 ∷ 114 ∷ 101 ∷ 48 ∷ []); value = (node root.Void (field (115 ∷ 105 ∷ 100 ∷ []) (tree (node (root.Int (pos 1)) no_fields) no_trees) no_fields)) }) ∷ []) } ∷
    record { calls = (call.Post (record { service = 0; op = (110 ∷ 111 ∷ 115 ∷ 117 ∷ 99 ∷ 104 ∷ []); value = (node root.Void no_fields) }) ∷ []) } ∷ [])

pub posted : posts_by first_worker history ≡ posts_of 0 postings
posted = refl

pub tells : told_from setting (past_of setting history) 0 postings ≡ (
    Some ((outcome.Refused reason.Correlation) ∷ []) ∷
    Some ((outcome.Refused reason.NotConforming) ∷ []) ∷
    Some ((outcome.Refused reason.NotConforming) ∷ []) ∷
    Some ((outcome.Refused reason.NotConforming) ∷ []) ∷
    Some ((outcome.Fault (69 ∷ 120 ∷ 112 ∷ 114 ∷ 70 ∷ 97 ∷ 117 ∷ 108 ∷ 116 ∷ []) (node root.Void no_fields)) ∷ []) ∷
    Some ((outcome.Fault (69 ∷ 120 ∷ 112 ∷ 114 ∷ 70 ∷ 97 ∷ 117 ∷ 108 ∷ 116 ∷ []) (node root.Void no_fields)) ∷ []) ∷
    Some ((outcome.Fault (69 ∷ 120 ∷ 112 ∷ 114 ∷ 70 ∷ 97 ∷ 117 ∷ 108 ∷ 116 ∷ []) (node root.Void no_fields)) ∷ []) ∷
    Some ((outcome.Refused reason.Correlation) ∷ (outcome.Fault (69 ∷ 120 ∷ 112 ∷ 114 ∷ 70 ∷ 97 ∷ 117 ∷ 108 ∷ 116 ∷ []) (node root.Void no_fields)) ∷ (outcome.Refused reason.SessionEnded) ∷ []) ∷
    Some ((outcome.Fault (69 ∷ 120 ∷ 112 ∷ 114 ∷ 70 ∷ 97 ∷ 117 ∷ 108 ∷ 116 ∷ []) (node root.Void no_fields)) ∷ []) ∷
    Some ((outcome.Fault (69 ∷ 120 ∷ 112 ∷ 114 ∷ 70 ∷ 97 ∷ 117 ∷ 108 ∷ 116 ∷ []) (node root.Void no_fields)) ∷ []) ∷
    Some ((outcome.Refused reason.Correlation) ∷ []) ∷
    Some ((outcome.Refused reason.UnknownOperation) ∷ []) ∷
    Some ((outcome.Refused reason.Correlation) ∷ []) ∷
    Some ((outcome.Refused reason.NotConforming) ∷ []) ∷
    Some ((outcome.Refused reason.Correlation) ∷ []) ∷
    Some ((outcome.Fault (69 ∷ 120 ∷ 112 ∷ 114 ∷ 70 ∷ 97 ∷ 117 ∷ 108 ∷ 116 ∷ []) (node root.Void no_fields)) ∷ []) ∷
    Some ((outcome.Fault (69 ∷ 120 ∷ 112 ∷ 114 ∷ 70 ∷ 97 ∷ 117 ∷ 108 ∷ 116 ∷ []) (node root.Void no_fields)) ∷ []) ∷
    Some ((outcome.Refused reason.NotConforming) ∷ (outcome.Fault (69 ∷ 120 ∷ 112 ∷ 114 ∷ 70 ∷ 97 ∷ 117 ∷ 108 ∷ 116 ∷ []) (node root.Void no_fields)) ∷ (outcome.Fault (69 ∷ 120 ∷ 112 ∷ 114 ∷ 70 ∷ 97 ∷ 117 ∷ 108 ∷ 116 ∷ []) (node root.Void no_fields)) ∷ []) ∷
    Some ((outcome.Fault (69 ∷ 120 ∷ 112 ∷ 114 ∷ 70 ∷ 97 ∷ 117 ∷ 108 ∷ 116 ∷ []) (node root.Void no_fields)) ∷ (outcome.Refused reason.SessionEnded) ∷ (outcome.Refused reason.SessionEnded) ∷ []) ∷
    Some ((outcome.Refused reason.UnknownOperation) ∷ []) ∷ [])
tells = refl

pub order : order_alone setting history first_worker 20 ≡ (0 ∷ 1 ∷ 2 ∷ 3 ∷ 4 ∷ 5 ∷ 6 ∷ 7 ∷ 8 ∷ 9 ∷ 10 ∷ 11 ∷ 12 ∷ 13 ∷ 14 ∷ 15 ∷ 16 ∷ 17 ∷ 18 ∷ 19 ∷ [])
order = refl

pub noted : notes setting history ≡ []
unfolding digits
noted = refl

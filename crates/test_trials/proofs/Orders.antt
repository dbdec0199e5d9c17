-- The order service: served, not paid, too many, and the rest of the stock.
use Rattle.std.specs.Prelude.{◌≡◌, ℕ, pos, negsuc, Bool, true, false, List, [], ◌∷◌, take, Option, None, Some}
use Rattle.std.proofs.Common.{refl}
use Rattle.std.specs.Fmt.{digits}
use Rattle.jolie_trees.specs.declared.root.Root.TheVariants as root
use Rattle.jolie_trees.specs.Data.{Tree, node, Fields, no_fields, field, Trees, no_trees, tree}
use Rattle.behaviour_tree.specs.declared.types.RootKind.TheVariants as kinds
use Rattle.behaviour_tree.specs.declared.expr.CompareOp.TheVariants as compare
use Rattle.behaviour_tree.specs.declared.expr.SumOp.TheVariants as sums
use Rattle.behaviour_tree.specs.declared.expr.MulOp.TheVariants as muls
use Rattle.behaviour_tree.specs.declared.expr.CastKind.TheVariants as casts
use Rattle.behaviour_tree.specs.declared.behaviour.HandlerKey.TheVariants as key
use Rattle.behaviour_tree.specs.declared.program.Execution.TheVariants as execution
use Rattle.behaviour_tree.specs.declared.words.Event.{Event}
use Rattle.behaviour_tree.specs.declared.words.Kind.TheVariants as kind
use Rattle.behaviour_tree.specs.declared.words.Outcome.TheVariants as outcome
use Rattle.behaviour_tree.specs.declared.words.Reason.TheVariants as reason
use Rattle.behaviour_tree.specs.Data.{plain, named, undefined, no_type_fields, type_field, here, step, step_at, constant, at_path, count_at, defined_at, literal, any_of, all_of, compared, sum, product, minus, negation, cast, no_exps, exp, no_sum_parts, sum_part, no_mul_parts, mul_part, no_member_list, member_of, Proc, nothing, assign, undef, copy, bind, sequence, parallel, choose, repeat, choice, notify, solicit, install, throw, comp, inner_handler, scope, block, no_procs, proc, no_branches, one_way, request, no_handlers, handler, ProgramParts}
use Rattle.correlation.specs.declared.bind_reply.BindReply.TheVariants as binding
use Rattle.office_core.specs.declared.post.PostReply.TheVariants as answer
use Rattle.office_core.specs.declared.history.Placed.TheVariants as at
use Rattle.office_core.specs.declared.history.Act.TheVariants as act
use Rattle.office_core.specs.declared.history.Entry.{Entry}
use Rattle.office_core.specs.declared.front.CallIn.TheVariants as call
use Rattle.office_core.specs.declared.front.Posting.{Posting}
use Rattle.office_core.specs.Limits.{Setting, run_of, first_worker}
use Rattle.office_core.specs.Accepted.{past_of}
use Rattle.office_core.specs.Legal.{IsLegal}
use Rattle.run_record.specs.Agrees.{IsSession}
use Rattle.run_record.specs.Quiet.{before_stop, sessions_at}
use Rattle.run_record.specs.Answered.{stand_together}
use Rattle.run_record.specs.Postings.{posts_by, posts_of}
use Rattle.run_record.specs.Order.{order_alone}
use Rattle.run_record.specs.Outside.{notes}
use Rattle.test_trials.specs.Counts.{legal_entries, with_at}
use Rattle.test_trials.specs.Fronts.{told_from}
use Rattle.test_trials.specs.Sessions.{event, agrees}
use Rattle.test_trials.specs.Quiet.{is_quiet, is_still}
use Rattle.test_trials.specs.Collected.{are_collected}
use Rattle.test_trials.proofs.Told.{is_session}
use Rattle.std.specs.Prelude.{◌++◌}
use Rattle.run_record.specs.declared.record.Record.{Record}
use Rattle.run_record.specs.Run.{alone, workers, IsRun, IsSpent}
use Rattle.test_trials.proofs.Runs.{is_run, unstopped, unclosed, foreign, missing, too_many, restless}
use Rattle.run_record.specs.Order.{IsOrder}
use Rattle.test_trials.proofs.Workers.{is_run_of_workers, stranger, posts_apart, second_first, not_as_posted, not_without_one, not_twice}
use Rattle.test_trials.specs.Quiet.{can_act}
use Rattle.test_trials.proofs.Spends.{spends, is_spent, not_spent}

-- the program
abbrev program : ProgramParts
program = record {
  types = ((plain kinds.Void (type_field (105 ∷ 100 ∷ []) 1 (Some 1) (plain kinds.Text no_type_fields) (type_field (115 ∷ 107 ∷ 117 ∷ []) 1 (Some 1) (plain kinds.Text no_type_fields) (type_field (110 ∷ []) 1 (Some 1) (plain kinds.Int no_type_fields) (type_field (112 ∷ 114 ∷ 105 ∷ 99 ∷ 101 ∷ []) 1 (Some 1) (plain kinds.Int no_type_fields) no_type_fields))))) ∷ (plain kinds.Void (type_field (115 ∷ 107 ∷ 117 ∷ []) 1 (Some 1) (plain kinds.Text no_type_fields) (type_field (110 ∷ []) 1 (Some 1) (plain kinds.Int no_type_fields) no_type_fields))) ∷ (plain kinds.Void (type_field (105 ∷ 100 ∷ []) 1 (Some 1) (plain kinds.Text no_type_fields) (type_field (97 ∷ 109 ∷ 111 ∷ 117 ∷ 110 ∷ 116 ∷ []) 1 (Some 1) (plain kinds.Int no_type_fields) no_type_fields))) ∷ []);
  interfaces = (record { name = (83 ∷ 104 ∷ 111 ∷ 112 ∷ 73 ∷ []); operations = (record { name = (111 ∷ 114 ∷ 100 ∷ 101 ∷ 114 ∷ []); request = (named 0); response = (Some (plain kinds.Text no_type_fields)); throws = [] } ∷ []) } ∷ record { name = (83 ∷ 116 ∷ 111 ∷ 99 ∷ 107 ∷ 73 ∷ []); operations = (record { name = (114 ∷ 101 ∷ 115 ∷ 101 ∷ 114 ∷ 118 ∷ 101 ∷ []); request = (named 1); response = (Some (plain kinds.Int no_type_fields)); throws = (record { fault = 9; ty = (plain kinds.Void no_type_fields) } ∷ []) } ∷ record { name = (114 ∷ 101 ∷ 108 ∷ 101 ∷ 97 ∷ 115 ∷ 101 ∷ []); request = (named 1); response = (Some (plain kinds.Int no_type_fields)); throws = [] } ∷ []) } ∷ record { name = (66 ∷ 97 ∷ 110 ∷ 107 ∷ 73 ∷ []); operations = (record { name = (112 ∷ 97 ∷ 121 ∷ []); request = (named 2); response = (Some (plain kinds.Void no_type_fields)); throws = (record { fault = 10; ty = (plain kinds.Void no_type_fields) } ∷ []) } ∷ []) } ∷ []);
  services = (record { name = (83 ∷ 104 ∷ 111 ∷ 112 ∷ []); execution = execution.Concurrent; ports = (record { name = (73 ∷ 110 ∷ []); input = true; location = (115 ∷ 111 ∷ 99 ∷ 107 ∷ 101 ∷ 116 ∷ 58 ∷ 47 ∷ 47 ∷ 108 ∷ 111 ∷ 99 ∷ 97 ∷ 108 ∷ 104 ∷ 111 ∷ 115 ∷ 116 ∷ 58 ∷ 56 ∷ 48 ∷ 48 ∷ 48 ∷ []); interfaces = (0 ∷ []) } ∷ record { name = (83 ∷ 116 ∷ 111 ∷ 99 ∷ 107 ∷ []); input = false; location = (108 ∷ 111 ∷ 99 ∷ 97 ∷ 108 ∷ 58 ∷ 47 ∷ 47 ∷ 115 ∷ 116 ∷ 111 ∷ 99 ∷ 107 ∷ []); interfaces = (1 ∷ []) } ∷ record { name = (66 ∷ 97 ∷ 110 ∷ 107 ∷ []); input = false; location = (108 ∷ 111 ∷ 99 ∷ 97 ∷ 108 ∷ 58 ∷ 47 ∷ 47 ∷ 98 ∷ 97 ∷ 110 ∷ 107 ∷ []); interfaces = (2 ∷ []) } ∷ []); sets = []; init = nothing; main = (choice (request 0 (Some (step (111 ∷ []) here)) (Some (step (121 ∷ []) here)) (scope 11 (sequence (proc (install (handler (key.Fault 9) (assign (step (121 ∷ []) here) (constant (root.Text (115 ∷ 104 ∷ 111 ∷ 114 ∷ 116 ∷ [])))) (handler (key.Fault 10) (sequence (proc (comp 12) (proc (assign (step (121 ∷ []) here) (constant (root.Text (110 ∷ 111 ∷ 102 ∷ 117 ∷ 110 ∷ 100 ∷ 115 ∷ [])))) no_procs))) no_handlers))) (proc (scope 12 (solicit 1 0 (literal (member_of (115 ∷ 107 ∷ 117 ∷ []) (at_path (step (111 ∷ []) (step (115 ∷ 107 ∷ 117 ∷ []) here))) (member_of (110 ∷ []) (at_path (step (111 ∷ []) (step (110 ∷ []) here))) no_member_list))) (Some (step (108 ∷ 101 ∷ 102 ∷ 116 ∷ []) here)) (handler key.This (solicit 1 1 (literal (member_of (115 ∷ 107 ∷ 117 ∷ []) (at_path (step (111 ∷ []) (step (115 ∷ 107 ∷ 117 ∷ []) here))) (member_of (110 ∷ []) (at_path (step (111 ∷ []) (step (110 ∷ []) here))) no_member_list))) (Some (step (108 ∷ 101 ∷ 102 ∷ 116 ∷ []) here)) no_handlers) no_handlers))) (proc (solicit 2 0 (literal (member_of (105 ∷ 100 ∷ []) (at_path (step (111 ∷ []) (step (105 ∷ 100 ∷ []) here))) (member_of (97 ∷ 109 ∷ 111 ∷ 117 ∷ 110 ∷ 116 ∷ []) (product (at_path (step (111 ∷ []) (step (110 ∷ []) here))) (mul_part muls.Times (at_path (step (111 ∷ []) (step (112 ∷ 114 ∷ 105 ∷ 99 ∷ 101 ∷ []) here))) no_mul_parts)) no_member_list))) None no_handlers) (proc (assign (step (121 ∷ []) here) (sum (constant (root.Text (111 ∷ 107 ∷ 32 ∷ []))) (sum_part sums.Plus (at_path (step (108 ∷ 101 ∷ 102 ∷ 116 ∷ []) here)) no_sum_parts))) no_procs)))))) nothing no_branches)) } ∷ record { name = (83 ∷ 116 ∷ 111 ∷ 99 ∷ 107 ∷ 83 ∷ []); execution = execution.Single; ports = (record { name = (73 ∷ 110 ∷ []); input = true; location = (108 ∷ 111 ∷ 99 ∷ 97 ∷ 108 ∷ 58 ∷ 47 ∷ 47 ∷ 115 ∷ 116 ∷ 111 ∷ 99 ∷ 107 ∷ []); interfaces = (1 ∷ []) } ∷ []); sets = []; init = (assign (step (108 ∷ 101 ∷ 102 ∷ 116 ∷ []) here) (constant (root.Int (pos 10)))); main = (repeat (constant (root.Bool true)) (scope 13 (sequence (proc (install (handler (key.Fault 9) nothing no_handlers)) (proc (choice (request 0 (Some (step (105 ∷ []) here)) (Some (step (114 ∷ []) here)) (sequence (proc (choose (compared (at_path (step (105 ∷ []) (step (110 ∷ []) here))) compare.More (at_path (step (108 ∷ 101 ∷ 102 ∷ 116 ∷ []) here))) (throw 9 (constant root.Void)) nothing) (proc (assign (step (108 ∷ 101 ∷ 102 ∷ 116 ∷ []) here) (sum (at_path (step (108 ∷ 101 ∷ 102 ∷ 116 ∷ []) here)) (sum_part sums.Minus (at_path (step (105 ∷ []) (step (110 ∷ []) here))) no_sum_parts))) (proc (assign (step (114 ∷ []) here) (at_path (step (108 ∷ 101 ∷ 102 ∷ 116 ∷ []) here))) no_procs)))) nothing (request 1 (Some (step (105 ∷ []) here)) (Some (step (114 ∷ []) here)) (sequence (proc (assign (step (108 ∷ 101 ∷ 102 ∷ 116 ∷ []) here) (sum (at_path (step (108 ∷ 101 ∷ 102 ∷ 116 ∷ []) here)) (sum_part sums.Plus (at_path (step (105 ∷ []) (step (110 ∷ []) here))) no_sum_parts))) (proc (assign (step (114 ∷ []) here) (at_path (step (108 ∷ 101 ∷ 102 ∷ 116 ∷ []) here))) no_procs))) nothing no_branches))) no_procs))))) } ∷ record { name = (66 ∷ 97 ∷ 110 ∷ 107 ∷ 83 ∷ []); execution = execution.Concurrent; ports = (record { name = (73 ∷ 110 ∷ []); input = true; location = (108 ∷ 111 ∷ 99 ∷ 97 ∷ 108 ∷ 58 ∷ 47 ∷ 47 ∷ 98 ∷ 97 ∷ 110 ∷ 107 ∷ []); interfaces = (2 ∷ []) } ∷ []); sets = []; init = nothing; main = (choice (request 0 (Some (step (112 ∷ []) here)) None (choose (compared (at_path (step (112 ∷ []) (step (97 ∷ 109 ∷ 111 ∷ 117 ∷ 110 ∷ 116 ∷ []) here))) compare.More (constant (root.Int (pos 100)))) (throw 10 (constant root.Void)) nothing) nothing no_branches)) } ∷ []);
  names = ((73 ∷ 79 ∷ 69 ∷ 120 ∷ 99 ∷ 101 ∷ 112 ∷ 116 ∷ 105 ∷ 111 ∷ 110 ∷ []) ∷ (84 ∷ 121 ∷ 112 ∷ 101 ∷ 77 ∷ 105 ∷ 115 ∷ 109 ∷ 97 ∷ 116 ∷ 99 ∷ 104 ∷ []) ∷ (67 ∷ 111 ∷ 114 ∷ 114 ∷ 101 ∷ 108 ∷ 97 ∷ 116 ∷ 105 ∷ 111 ∷ 110 ∷ 69 ∷ 114 ∷ 114 ∷ 111 ∷ 114 ∷ []) ∷ (82 ∷ 101 ∷ 102 ∷ 117 ∷ 115 ∷ 101 ∷ 100 ∷ []) ∷ (85 ∷ 110 ∷ 100 ∷ 101 ∷ 99 ∷ 108 ∷ 97 ∷ 114 ∷ 101 ∷ 100 ∷ 70 ∷ 97 ∷ 117 ∷ 108 ∷ 116 ∷ []) ∷ (69 ∷ 120 ∷ 112 ∷ 114 ∷ 70 ∷ 97 ∷ 117 ∷ 108 ∷ 116 ∷ []) ∷ (72 ∷ 97 ∷ 110 ∷ 100 ∷ 108 ∷ 101 ∷ 114 ∷ 84 ∷ 111 ∷ 111 ∷ 76 ∷ 97 ∷ 114 ∷ 103 ∷ 101 ∷ []) ∷ (83 ∷ 116 ∷ 111 ∷ 114 ∷ 101 ∷ 84 ∷ 111 ∷ 111 ∷ 76 ∷ 97 ∷ 114 ∷ 103 ∷ 101 ∷ []) ∷ (109 ∷ 97 ∷ 105 ∷ 110 ∷ []) ∷ (83 ∷ 104 ∷ 111 ∷ 114 ∷ 116 ∷ []) ∷ (78 ∷ 111 ∷ 70 ∷ 117 ∷ 110 ∷ 100 ∷ 115 ∷ []) ∷ (97 ∷ 108 ∷ 108 ∷ []) ∷ (115 ∷ 116 ∷ 111 ∷ 99 ∷ 107 ∷ []) ∷ (116 ∷ 117 ∷ 114 ∷ 110 ∷ []) ∷ []);
}

-- what its office works by
abbrev setting : Setting
setting = run_of program

-- its history
abbrev history : List Entry
history = (
    record { actor = 4096; act = act.Post 0 0 (record { service = 0; op = (111 ∷ 114 ∷ 100 ∷ 101 ∷ 114 ∷ []); value = (node root.Void (field (105 ∷ 100 ∷ []) (tree (node (root.Text (48 ∷ [])) no_fields) no_trees) (field (110 ∷ []) (tree (node (root.Int (pos 3)) no_fields) no_trees) (field (112 ∷ 114 ∷ 105 ∷ 99 ∷ 101 ∷ []) (tree (node (root.Int (pos 10)) no_fields) no_trees) (field (115 ∷ 107 ∷ 117 ∷ []) (tree (node (root.Text (120 ∷ [])) no_fields) no_trees) no_fields))))) }) (answer.Accepted 0) } ∷
    record { actor = 0; act = act.Adopt 1 } ∷
    record { actor = 1; act = act.Adopt 0 } ∷
    record { actor = 1; act = act.Take 0 } ∷
    record { actor = 1; act = act.Send 0 1 0 (node root.Void (field (110 ∷ []) (tree (node (root.Int (pos 3)) no_fields) no_trees) (field (115 ∷ 107 ∷ 117 ∷ []) (tree (node (root.Text (120 ∷ [])) no_fields) no_trees) no_fields))) true (at.At 1) } ∷
    record { actor = 0; act = act.Take 1 } ∷
    record { actor = 0; act = act.Reply 1 (outcome.Value (node (root.Int (pos 7)) no_fields)) } ∷
    record { actor = 1; act = act.Answer 0 (outcome.Value (node (root.Int (pos 7)) no_fields)) } ∷
    record { actor = 1; act = act.Send 1 2 0 (node root.Void (field (97 ∷ 109 ∷ 111 ∷ 117 ∷ 110 ∷ 116 ∷ []) (tree (node (root.Int (pos 30)) no_fields) no_trees) (field (105 ∷ 100 ∷ []) (tree (node (root.Text (48 ∷ [])) no_fields) no_trees) no_fields))) true (at.At 2) } ∷
    record { actor = 2; act = act.Adopt 2 } ∷
    record { actor = 2; act = act.Take 2 } ∷
    record { actor = 2; act = act.Reply 2 (outcome.Value (node root.Void no_fields)) } ∷
    record { actor = 2; act = act.End } ∷
    record { actor = 1; act = act.Answer 1 (outcome.Value (node root.Void no_fields)) } ∷
    record { actor = 1; act = act.Reply 0 (outcome.Value (node (root.Text (111 ∷ 107 ∷ 32 ∷ 55 ∷ [])) no_fields)) } ∷
    record { actor = 1; act = act.End } ∷
    record { actor = 4096; act = act.Collect 0 (outcome.Value (node (root.Text (111 ∷ 107 ∷ 32 ∷ 55 ∷ [])) no_fields)) } ∷
    record { actor = 4096; act = act.Post 1 0 (record { service = 0; op = (111 ∷ 114 ∷ 100 ∷ 101 ∷ 114 ∷ []); value = (node root.Void (field (105 ∷ 100 ∷ []) (tree (node (root.Text (49 ∷ [])) no_fields) no_trees) (field (110 ∷ []) (tree (node (root.Int (pos 4)) no_fields) no_trees) (field (112 ∷ 114 ∷ 105 ∷ 99 ∷ 101 ∷ []) (tree (node (root.Int (pos 50)) no_fields) no_trees) (field (115 ∷ 107 ∷ 117 ∷ []) (tree (node (root.Text (120 ∷ [])) no_fields) no_trees) no_fields))))) }) (answer.Accepted 3) } ∷
    record { actor = 3; act = act.Adopt 0 } ∷
    record { actor = 3; act = act.Take 3 } ∷
    record { actor = 3; act = act.Send 0 1 0 (node root.Void (field (110 ∷ []) (tree (node (root.Int (pos 4)) no_fields) no_trees) (field (115 ∷ 107 ∷ 117 ∷ []) (tree (node (root.Text (120 ∷ [])) no_fields) no_trees) no_fields))) true (at.At 4) } ∷
    record { actor = 0; act = act.Take 4 } ∷
    record { actor = 0; act = act.Reply 4 (outcome.Value (node (root.Int (pos 3)) no_fields)) } ∷
    record { actor = 3; act = act.Answer 0 (outcome.Value (node (root.Int (pos 3)) no_fields)) } ∷
    record { actor = 3; act = act.Send 1 2 0 (node root.Void (field (97 ∷ 109 ∷ 111 ∷ 117 ∷ 110 ∷ 116 ∷ []) (tree (node (root.Int (pos 200)) no_fields) no_trees) (field (105 ∷ 100 ∷ []) (tree (node (root.Text (49 ∷ [])) no_fields) no_trees) no_fields))) true (at.At 5) } ∷
    record { actor = 4; act = act.Adopt 2 } ∷
    record { actor = 4; act = act.Take 5 } ∷
    record { actor = 4; act = act.Reply 5 (outcome.Fault (78 ∷ 111 ∷ 70 ∷ 117 ∷ 110 ∷ 100 ∷ 115 ∷ []) (node root.Void no_fields)) } ∷
    record { actor = 4; act = act.End } ∷
    record { actor = 3; act = act.Answer 1 (outcome.Fault (78 ∷ 111 ∷ 70 ∷ 117 ∷ 110 ∷ 100 ∷ 115 ∷ []) (node root.Void no_fields)) } ∷
    record { actor = 3; act = act.Send 2 1 1 (node root.Void (field (110 ∷ []) (tree (node (root.Int (pos 4)) no_fields) no_trees) (field (115 ∷ 107 ∷ 117 ∷ []) (tree (node (root.Text (120 ∷ [])) no_fields) no_trees) no_fields))) true (at.At 6) } ∷
    record { actor = 0; act = act.Take 6 } ∷
    record { actor = 0; act = act.Reply 6 (outcome.Value (node (root.Int (pos 7)) no_fields)) } ∷
    record { actor = 3; act = act.Answer 2 (outcome.Value (node (root.Int (pos 7)) no_fields)) } ∷
    record { actor = 3; act = act.Reply 3 (outcome.Value (node (root.Text (110 ∷ 111 ∷ 102 ∷ 117 ∷ 110 ∷ 100 ∷ 115 ∷ [])) no_fields)) } ∷
    record { actor = 3; act = act.End } ∷
    record { actor = 4096; act = act.Collect 3 (outcome.Value (node (root.Text (110 ∷ 111 ∷ 102 ∷ 117 ∷ 110 ∷ 100 ∷ 115 ∷ [])) no_fields)) } ∷
    record { actor = 4096; act = act.Post 2 0 (record { service = 0; op = (111 ∷ 114 ∷ 100 ∷ 101 ∷ 114 ∷ []); value = (node root.Void (field (105 ∷ 100 ∷ []) (tree (node (root.Text (50 ∷ [])) no_fields) no_trees) (field (110 ∷ []) (tree (node (root.Int (pos 8)) no_fields) no_trees) (field (112 ∷ 114 ∷ 105 ∷ 99 ∷ 101 ∷ []) (tree (node (root.Int (pos 1)) no_fields) no_trees) (field (115 ∷ 107 ∷ 117 ∷ []) (tree (node (root.Text (120 ∷ [])) no_fields) no_trees) no_fields))))) }) (answer.Accepted 7) } ∷
    record { actor = 5; act = act.Adopt 0 } ∷
    record { actor = 5; act = act.Take 7 } ∷
    record { actor = 5; act = act.Send 0 1 0 (node root.Void (field (110 ∷ []) (tree (node (root.Int (pos 8)) no_fields) no_trees) (field (115 ∷ 107 ∷ 117 ∷ []) (tree (node (root.Text (120 ∷ [])) no_fields) no_trees) no_fields))) true (at.At 8) } ∷
    record { actor = 0; act = act.Take 8 } ∷
    record { actor = 0; act = act.Reply 8 (outcome.Fault (83 ∷ 104 ∷ 111 ∷ 114 ∷ 116 ∷ []) (node root.Void no_fields)) } ∷
    record { actor = 5; act = act.Answer 0 (outcome.Fault (83 ∷ 104 ∷ 111 ∷ 114 ∷ 116 ∷ []) (node root.Void no_fields)) } ∷
    record { actor = 5; act = act.Reply 7 (outcome.Value (node (root.Text (115 ∷ 104 ∷ 111 ∷ 114 ∷ 116 ∷ [])) no_fields)) } ∷
    record { actor = 5; act = act.End } ∷
    record { actor = 4096; act = act.Collect 7 (outcome.Value (node (root.Text (115 ∷ 104 ∷ 111 ∷ 114 ∷ 116 ∷ [])) no_fields)) } ∷
    record { actor = 4096; act = act.Post 3 0 (record { service = 0; op = (111 ∷ 114 ∷ 100 ∷ 101 ∷ 114 ∷ []); value = (node root.Void (field (105 ∷ 100 ∷ []) (tree (node (root.Text (51 ∷ [])) no_fields) no_trees) (field (110 ∷ []) (tree (node (root.Int (pos 7)) no_fields) no_trees) (field (112 ∷ 114 ∷ 105 ∷ 99 ∷ 101 ∷ []) (tree (node (root.Int (pos 1)) no_fields) no_trees) (field (115 ∷ 107 ∷ 117 ∷ []) (tree (node (root.Text (120 ∷ [])) no_fields) no_trees) no_fields))))) }) (answer.Accepted 9) } ∷
    record { actor = 6; act = act.Adopt 0 } ∷
    record { actor = 6; act = act.Take 9 } ∷
    record { actor = 6; act = act.Send 0 1 0 (node root.Void (field (110 ∷ []) (tree (node (root.Int (pos 7)) no_fields) no_trees) (field (115 ∷ 107 ∷ 117 ∷ []) (tree (node (root.Text (120 ∷ [])) no_fields) no_trees) no_fields))) true (at.At 10) } ∷
    record { actor = 0; act = act.Take 10 } ∷
    record { actor = 0; act = act.Reply 10 (outcome.Value (node (root.Int (pos 0)) no_fields)) } ∷
    record { actor = 6; act = act.Answer 0 (outcome.Value (node (root.Int (pos 0)) no_fields)) } ∷
    record { actor = 6; act = act.Send 1 2 0 (node root.Void (field (97 ∷ 109 ∷ 111 ∷ 117 ∷ 110 ∷ 116 ∷ []) (tree (node (root.Int (pos 7)) no_fields) no_trees) (field (105 ∷ 100 ∷ []) (tree (node (root.Text (51 ∷ [])) no_fields) no_trees) no_fields))) true (at.At 11) } ∷
    record { actor = 7; act = act.Adopt 2 } ∷
    record { actor = 7; act = act.Take 11 } ∷
    record { actor = 7; act = act.Reply 11 (outcome.Value (node root.Void no_fields)) } ∷
    record { actor = 7; act = act.End } ∷
    record { actor = 6; act = act.Answer 1 (outcome.Value (node root.Void no_fields)) } ∷
    record { actor = 6; act = act.Reply 9 (outcome.Value (node (root.Text (111 ∷ 107 ∷ 32 ∷ 48 ∷ [])) no_fields)) } ∷
    record { actor = 6; act = act.End } ∷
    record { actor = 4096; act = act.Collect 9 (outcome.Value (node (root.Text (111 ∷ 107 ∷ 32 ∷ 48 ∷ [])) no_fields)) } ∷
    record { actor = 4096; act = act.Close } ∷
    record { actor = 4096; act = act.Stop } ∷ [])

pub legal : IsLegal setting history
legal = (record { allowed = refl; reply = refl }, (record { allowed = refl; reply = refl }, (record { allowed = refl; reply = refl }, (record { allowed = refl; reply = refl }, (record { allowed = refl; reply = refl }, (record { allowed = refl; reply = refl }, (record { allowed = refl; reply = refl }, (record { allowed = refl; reply = refl }, (record { allowed = refl; reply = refl }, (record { allowed = refl; reply = refl }, (record { allowed = refl; reply = refl }, (record { allowed = refl; reply = refl }, (record { allowed = refl; reply = refl }, (record { allowed = refl; reply = refl }, (record { allowed = refl; reply = refl }, (record { allowed = refl; reply = refl }, (record { allowed = refl; reply = refl }, (record { allowed = refl; reply = refl }, (record { allowed = refl; reply = refl }, (record { allowed = refl; reply = refl }, (record { allowed = refl; reply = refl }, (record { allowed = refl; reply = refl }, (record { allowed = refl; reply = refl }, (record { allowed = refl; reply = refl }, (record { allowed = refl; reply = refl }, (record { allowed = refl; reply = refl }, (record { allowed = refl; reply = refl }, (record { allowed = refl; reply = refl }, (record { allowed = refl; reply = refl }, (record { allowed = refl; reply = refl }, (record { allowed = refl; reply = refl }, (record { allowed = refl; reply = refl }, (record { allowed = refl; reply = refl }, (record { allowed = refl; reply = refl }, (record { allowed = refl; reply = refl }, (record { allowed = refl; reply = refl }, (record { allowed = refl; reply = refl }, (record { allowed = refl; reply = refl }, (record { allowed = refl; reply = refl }, (record { allowed = refl; reply = refl }, (record { allowed = refl; reply = refl }, (record { allowed = refl; reply = refl }, (record { allowed = refl; reply = refl }, (record { allowed = refl; reply = refl }, (record { allowed = refl; reply = refl }, (record { allowed = refl; reply = refl }, (record { allowed = refl; reply = refl }, (record { allowed = refl; reply = refl }, (record { allowed = refl; reply = refl }, (record { allowed = refl; reply = refl }, (record { allowed = refl; reply = refl }, (record { allowed = refl; reply = refl }, (record { allowed = refl; reply = refl }, (record { allowed = refl; reply = refl }, (record { allowed = refl; reply = refl }, (record { allowed = refl; reply = refl }, (record { allowed = refl; reply = refl }, (record { allowed = refl; reply = refl }, (record { allowed = refl; reply = refl }, (record { allowed = refl; reply = refl }, (record { allowed = refl; reply = refl }, (record { allowed = refl; reply = refl }, (record { allowed = refl; reply = refl }, (record { allowed = refl; reply = refl }, (record { allowed = refl; reply = refl }, tt)))))))))))))))))))))))))))))))))))))))))))))))))))))))))))))))))

pub spoilt_message_number_skipped : legal_entries setting (with_at 0 (record { actor = 4096; act = act.Post 0 0 (record { service = 0; op = (111 ∷ 114 ∷ 100 ∷ 101 ∷ 114 ∷ []); value = (node root.Void (field (105 ∷ 100 ∷ []) (tree (node (root.Text (48 ∷ [])) no_fields) no_trees) (field (110 ∷ []) (tree (node (root.Int (pos 3)) no_fields) no_trees) (field (112 ∷ 114 ∷ 105 ∷ 99 ∷ 101 ∷ []) (tree (node (root.Int (pos 10)) no_fields) no_trees) (field (115 ∷ 107 ∷ 117 ∷ []) (tree (node (root.Text (120 ∷ [])) no_fields) no_trees) no_fields))))) }) (answer.Accepted 1) } ∷ []) history) ≡ 0
spoilt_message_number_skipped = refl

pub spoilt_refused_without_cause : legal_entries setting (with_at 0 (record { actor = 4096; act = act.Post 0 0 (record { service = 0; op = (111 ∷ 114 ∷ 100 ∷ 101 ∷ 114 ∷ []); value = (node root.Void (field (105 ∷ 100 ∷ []) (tree (node (root.Text (48 ∷ [])) no_fields) no_trees) (field (110 ∷ []) (tree (node (root.Int (pos 3)) no_fields) no_trees) (field (112 ∷ 114 ∷ 105 ∷ 99 ∷ 101 ∷ []) (tree (node (root.Int (pos 10)) no_fields) no_trees) (field (115 ∷ 107 ∷ 117 ∷ []) (tree (node (root.Text (120 ∷ [])) no_fields) no_trees) no_fields))))) }) (answer.Refused reason.Correlation) } ∷ []) history) ≡ 0
spoilt_refused_without_cause = refl

pub spoilt_posted_by_a_session : legal_entries setting (with_at 0 (record { actor = 0; act = act.Post 0 0 (record { service = 0; op = (111 ∷ 114 ∷ 100 ∷ 101 ∷ 114 ∷ []); value = (node root.Void (field (105 ∷ 100 ∷ []) (tree (node (root.Text (48 ∷ [])) no_fields) no_trees) (field (110 ∷ []) (tree (node (root.Int (pos 3)) no_fields) no_trees) (field (112 ∷ 114 ∷ 105 ∷ 99 ∷ 101 ∷ []) (tree (node (root.Int (pos 10)) no_fields) no_trees) (field (115 ∷ 107 ∷ 117 ∷ []) (tree (node (root.Text (120 ∷ [])) no_fields) no_trees) no_fields))))) }) (answer.Accepted 0) } ∷ []) history) ≡ 0
spoilt_posted_by_a_session = refl

pub spoilt_adopted_for_another_service : legal_entries setting (with_at 1 (record { actor = 0; act = act.Adopt 2 } ∷ []) history) ≡ 1
spoilt_adopted_for_another_service = refl

pub spoilt_adopted_twice : legal_entries setting (with_at 1 (record { actor = 0; act = act.Adopt 1 } ∷ record { actor = 0; act = act.Adopt 1 } ∷ []) history) ≡ 2
spoilt_adopted_twice = refl

pub spoilt_taken_by_another_session : legal_entries setting (with_at 3 (record { actor = 0; act = act.Take 0 } ∷ []) history) ≡ 3
spoilt_taken_by_another_session = refl

pub spoilt_taken_twice : legal_entries setting (with_at 3 (record { actor = 1; act = act.Take 0 } ∷ record { actor = 1; act = act.Take 0 } ∷ []) history) ≡ 4
spoilt_taken_twice = refl

pub spoilt_call_number_skipped : legal_entries setting (with_at 4 (record { actor = 1; act = act.Send 1 1 0 (node root.Void (field (110 ∷ []) (tree (node (root.Int (pos 3)) no_fields) no_trees) (field (115 ∷ 107 ∷ 117 ∷ []) (tree (node (root.Text (120 ∷ [])) no_fields) no_trees) no_fields))) true (at.At 1) } ∷ []) history) ≡ 4
spoilt_call_number_skipped = refl

pub spoilt_call_number_again : legal_entries setting (with_at 4 (record { actor = 1; act = act.Send 0 1 0 (node root.Void (field (110 ∷ []) (tree (node (root.Int (pos 3)) no_fields) no_trees) (field (115 ∷ 107 ∷ 117 ∷ []) (tree (node (root.Text (120 ∷ [])) no_fields) no_trees) no_fields))) true (at.At 1) } ∷ record { actor = 1; act = act.Send 0 1 0 (node root.Void (field (110 ∷ []) (tree (node (root.Int (pos 3)) no_fields) no_trees) (field (115 ∷ 107 ∷ 117 ∷ []) (tree (node (root.Text (120 ∷ [])) no_fields) no_trees) no_fields))) true (at.At 1) } ∷ []) history) ≡ 5
spoilt_call_number_again = refl

pub spoilt_answered_twice : legal_entries setting (with_at 6 (record { actor = 0; act = act.Reply 1 (outcome.Value (node (root.Int (pos 7)) no_fields)) } ∷ record { actor = 0; act = act.Reply 1 (outcome.Value (node (root.Int (pos 7)) no_fields)) } ∷ []) history) ≡ 7
spoilt_answered_twice = refl

pub spoilt_answer_left_out : legal_entries setting (with_at 6 [] history) ≡ 6
spoilt_answer_left_out = refl

pub spoilt_told_before_the_answer : legal_entries setting (with_at 6 (record { actor = 1; act = act.Answer 0 (outcome.Value (node (root.Int (pos 7)) no_fields)) } ∷ record { actor = 0; act = act.Reply 1 (outcome.Value (node (root.Int (pos 7)) no_fields)) } ∷ []) history) ≡ 6
spoilt_told_before_the_answer = refl

pub spoilt_reply_by_another_session : legal_entries setting (with_at 6 (record { actor = 1; act = act.Reply 1 (outcome.Value (node (root.Int (pos 7)) no_fields)) } ∷ []) history) ≡ 6
spoilt_reply_by_another_session = refl

pub spoilt_another_outcome : legal_entries setting (with_at 7 (record { actor = 1; act = act.Answer 0 (outcome.Fault (120 ∷ []) (node root.Void no_fields)) } ∷ []) history) ≡ 7
spoilt_another_outcome = refl

pub spoilt_answer_taken_twice : legal_entries setting (with_at 7 (record { actor = 1; act = act.Answer 0 (outcome.Value (node (root.Int (pos 7)) no_fields)) } ∷ record { actor = 1; act = act.Answer 0 (outcome.Value (node (root.Int (pos 7)) no_fields)) } ∷ []) history) ≡ 8
spoilt_answer_taken_twice = refl

pub spoilt_ended_twice : legal_entries setting (with_at 12 (record { actor = 2; act = act.End } ∷ record { actor = 2; act = act.End } ∷ []) history) ≡ 13
spoilt_ended_twice = refl

pub spoilt_another_answer_collected : legal_entries setting (with_at 16 (record { actor = 4096; act = act.Collect 0 (outcome.Value (node (root.Int (pos 424242)) no_fields)) } ∷ []) history) ≡ 16
spoilt_another_answer_collected = refl

pub spoilt_collected_twice : legal_entries setting (with_at 16 (record { actor = 4096; act = act.Collect 0 (outcome.Value (node (root.Text (111 ∷ 107 ∷ 32 ∷ 55 ∷ [])) no_fields)) } ∷ record { actor = 4096; act = act.Collect 0 (outcome.Value (node (root.Text (111 ∷ 107 ∷ 32 ∷ 55 ∷ [])) no_fields)) } ∷ []) history) ≡ 17
spoilt_collected_twice = refl

pub spoilt_collected_by_another : legal_entries setting (with_at 16 (record { actor = 4097; act = act.Collect 0 (outcome.Value (node (root.Text (111 ∷ 107 ∷ 32 ∷ 55 ∷ [])) no_fields)) } ∷ []) history) ≡ 16
spoilt_collected_by_another = refl

pub spoilt_closed_twice : legal_entries setting (with_at 63 (record { actor = 4096; act = act.Close } ∷ record { actor = 4096; act = act.Close } ∷ []) history) ≡ 64
spoilt_closed_twice = refl

pub spoilt_stopped_twice : legal_entries setting (with_at 64 (record { actor = 4096; act = act.Stop } ∷ record { actor = 4096; act = act.Stop } ∷ []) history) ≡ 65
spoilt_stopped_twice = refl

pub spoilt_stopped_by_a_session : legal_entries setting (with_at 64 (record { actor = 0; act = act.Stop } ∷ []) history) ≡ 64
spoilt_stopped_by_a_session = refl

pub spoilt_adopted_after_the_stop : legal_entries setting (with_at 64 (record { actor = 4096; act = act.Stop } ∷ record { actor = 0; act = act.Adopt 0 } ∷ []) history) ≡ 65
spoilt_adopted_after_the_stop = refl

pub spoilt_adoption_left_out : legal_entries setting (with_at 2 [] history) ≡ 2
spoilt_adoption_left_out = refl

pub spoilt_take_left_out : legal_entries setting (with_at 5 [] history) ≡ 5
spoilt_take_left_out = refl

pub spoilt_take_before_the_adoption : legal_entries setting (with_at 2 (record { actor = 1; act = act.Take 0 } ∷ []) history) ≡ 2
spoilt_take_before_the_adoption = refl

-- the events of session 0
abbrev events_0 : List Event
events_0 = (
    event 0 kind.Local 0 0 0 ∷
    event 0 kind.Local 0 0 0 ∷
    event 0 kind.Install 0 0 0 ∷
    event 0 kind.In 1 0 0 ∷
    event 0 kind.Local 0 0 0 ∷
    event 0 kind.Local 0 0 0 ∷
    event 0 kind.Local 0 0 0 ∷
    event 0 kind.Reply 1 0 0 ∷
    event 0 kind.EndScope 0 13 0 ∷
    event 0 kind.Local 0 0 0 ∷
    event 0 kind.Install 0 0 0 ∷
    event 0 kind.In 4 0 0 ∷
    event 0 kind.Local 0 0 0 ∷
    event 0 kind.Local 0 0 0 ∷
    event 0 kind.Local 0 0 0 ∷
    event 0 kind.Reply 4 0 0 ∷
    event 0 kind.EndScope 0 13 0 ∷
    event 0 kind.Local 0 0 0 ∷
    event 0 kind.Install 0 0 0 ∷
    event 0 kind.In 6 1 0 ∷
    event 0 kind.Local 0 0 0 ∷
    event 0 kind.Local 0 0 0 ∷
    event 0 kind.Reply 6 0 0 ∷
    event 0 kind.EndScope 0 13 0 ∷
    event 0 kind.Local 0 0 0 ∷
    event 0 kind.Install 0 0 0 ∷
    event 0 kind.In 8 0 0 ∷
    event 0 kind.Local 0 0 0 ∷
    event 0 kind.Raise 0 13 9 ∷
    event 0 kind.Reply 8 0 0 ∷
    event 0 kind.Handle 0 13 9 ∷
    event 0 kind.EndScope 0 13 0 ∷
    event 0 kind.Local 0 0 0 ∷
    event 0 kind.Install 0 0 0 ∷
    event 0 kind.In 10 0 0 ∷
    event 0 kind.Local 0 0 0 ∷
    event 0 kind.Local 0 0 0 ∷
    event 0 kind.Local 0 0 0 ∷
    event 0 kind.Reply 10 0 0 ∷
    event 0 kind.EndScope 0 13 0 ∷
    event 0 kind.Local 0 0 0 ∷
    event 0 kind.Install 0 0 0 ∷ [])

-- the events of session 1
abbrev events_1 : List Event
events_1 = (
    event 0 kind.In 0 0 0 ∷
    event 0 kind.Install 0 0 0 ∷
    event 0 kind.Solicit 0 0 0 ∷
    event 0 kind.Answer 0 0 0 ∷
    event 0 kind.EndScope 0 12 0 ∷
    event 0 kind.Solicit 1 0 0 ∷
    event 0 kind.Answer 1 0 0 ∷
    event 0 kind.Local 0 0 0 ∷
    event 0 kind.EndScope 0 11 0 ∷
    event 0 kind.Reply 0 0 0 ∷
    event 0 kind.Finish 0 0 0 ∷ [])

-- the events of session 2
abbrev events_2 : List Event
events_2 = (
    event 0 kind.In 2 0 0 ∷
    event 0 kind.Local 0 0 0 ∷
    event 0 kind.Reply 2 0 0 ∷
    event 0 kind.Finish 0 0 0 ∷ [])

-- the events of session 3
abbrev events_3 : List Event
events_3 = (
    event 0 kind.In 3 0 0 ∷
    event 0 kind.Install 0 0 0 ∷
    event 0 kind.Solicit 0 0 0 ∷
    event 0 kind.Answer 0 0 0 ∷
    event 0 kind.EndScope 0 12 0 ∷
    event 0 kind.Solicit 1 0 0 ∷
    event 0 kind.Answer 1 0 0 ∷
    event 0 kind.Raise 0 11 10 ∷
    event 0 kind.Handle 0 11 10 ∷
    event 0 kind.Compensate 0 12 0 ∷
    event 0 kind.Solicit 2 0 0 ∷
    event 0 kind.Answer 2 0 0 ∷
    event 0 kind.Local 0 0 0 ∷
    event 0 kind.EndScope 0 11 0 ∷
    event 0 kind.Reply 3 0 0 ∷
    event 0 kind.Finish 0 0 0 ∷ [])

-- the events of session 4
abbrev events_4 : List Event
events_4 = (
    event 0 kind.In 5 0 0 ∷
    event 0 kind.Local 0 0 0 ∷
    event 0 kind.Raise 2 8 10 ∷
    event 0 kind.Reply 5 0 0 ∷
    event 0 kind.Finish 0 0 0 ∷ [])

-- the events of session 5
abbrev events_5 : List Event
events_5 = (
    event 0 kind.In 7 0 0 ∷
    event 0 kind.Install 0 0 0 ∷
    event 0 kind.Solicit 0 0 0 ∷
    event 0 kind.Answer 0 0 0 ∷
    event 0 kind.Raise 0 11 9 ∷
    event 0 kind.Handle 0 11 9 ∷
    event 0 kind.Local 0 0 0 ∷
    event 0 kind.EndScope 0 11 0 ∷
    event 0 kind.Reply 7 0 0 ∷
    event 0 kind.Finish 0 0 0 ∷ [])

-- the events of session 6
abbrev events_6 : List Event
events_6 = (
    event 0 kind.In 9 0 0 ∷
    event 0 kind.Install 0 0 0 ∷
    event 0 kind.Solicit 0 0 0 ∷
    event 0 kind.Answer 0 0 0 ∷
    event 0 kind.EndScope 0 12 0 ∷
    event 0 kind.Solicit 1 0 0 ∷
    event 0 kind.Answer 1 0 0 ∷
    event 0 kind.Local 0 0 0 ∷
    event 0 kind.EndScope 0 11 0 ∷
    event 0 kind.Reply 9 0 0 ∷
    event 0 kind.Finish 0 0 0 ∷ [])

-- the events of session 7
abbrev events_7 : List Event
events_7 = (
    event 0 kind.In 11 0 0 ∷
    event 0 kind.Local 0 0 0 ∷
    event 0 kind.Reply 11 0 0 ∷
    event 0 kind.Finish 0 0 0 ∷ [])

-- the events of each session
abbrev sessions : List (List Event)
sessions = events_0 ∷ events_1 ∷ events_2 ∷ events_3 ∷ events_4 ∷ events_5 ∷ events_6 ∷ events_7 ∷ []

pub session_0 : IsSession setting history 0 events_0
unfolding digits
session_0 = is_session setting history 0 1 events_0 refl refl (refl, ((refl, refl), (refl, ((refl, refl), (refl, ((refl, refl), (refl, ((refl, refl), (refl, ((refl, refl), tt))))))))))

pub session_1 : IsSession setting history 1 events_1
unfolding digits
session_1 = is_session setting history 1 0 events_1 refl refl (refl, ((refl, refl, refl, refl, refl), (refl, ((refl, refl, refl, refl, refl), (refl, ((refl, refl), (tt, tt)))))))

pub session_2 : IsSession setting history 2 events_2
unfolding digits
session_2 = is_session setting history 2 2 events_2 refl refl (refl, ((refl, refl), (tt, tt)))

pub session_3 : IsSession setting history 3 events_3
unfolding digits
session_3 = is_session setting history 3 0 events_3 refl refl (refl, ((refl, refl, refl, refl, refl), (refl, ((refl, refl, refl, refl, refl), (refl, ((refl, refl, refl, refl, refl), (refl, ((refl, refl), (tt, tt)))))))))

pub session_4 : IsSession setting history 4 events_4
unfolding digits
session_4 = is_session setting history 4 2 events_4 refl refl (refl, ((refl, refl), (tt, tt)))

pub session_5 : IsSession setting history 5 events_5
unfolding digits
session_5 = is_session setting history 5 0 events_5 refl refl (refl, ((refl, refl, refl, refl, refl), (refl, ((refl, refl), (tt, tt)))))

pub session_6 : IsSession setting history 6 events_6
unfolding digits
session_6 = is_session setting history 6 0 events_6 refl refl (refl, ((refl, refl, refl, refl, refl), (refl, ((refl, refl, refl, refl, refl), (refl, ((refl, refl), (tt, tt)))))))

pub session_7 : IsSession setting history 7 events_7
unfolding digits
session_7 = is_session setting history 7 2 events_7 refl refl (refl, ((refl, refl), (tt, tt)))

pub quiet : is_quiet setting 10000 (before_stop history) sessions ≡ true
unfolding digits
quiet = refl

pub still : is_still setting 10000 history sessions ≡ true
unfolding digits
still = refl

pub collected : are_collected setting history ≡ true
unfolding digits
collected = refl

pub together : stand_together history ≡ true
together = refl

pub run : (r : Record) → r.history.entries.items ≡ history → r.sessions ≡ sessions
    → IsRun setting 10000 alone false r
run = is_run setting 10000 history sessions
    (record { legal = legal; stopped = refl; actors = refl; all = refl; each = (session_0, (session_1, (session_2, (session_3, (session_4, (session_5, (session_6, (session_7, tt)))))))); within = refl; quiet = quiet; closed = refl; posted = together; still = still; collected = collected })

pub spoilt_run_without_its_stop : (r : Record) → r.history.entries.items ≡ (with_at 64 [] history) → IsRun setting 10000 alone false r → ⊥
spoilt_run_without_its_stop r has = unstopped setting 10000 false (with_at 64 [] history) r has refl

pub spoilt_run_that_is_not_closed : (r : Record) → r.history.entries.items ≡ (with_at 63 [] history) → IsRun setting 10000 alone false r → ⊥
spoilt_run_that_is_not_closed r has = unclosed setting 10000 false (with_at 63 [] history) r has refl

pub spoilt_run_stopped_by_another : (r : Record) → r.history.entries.items ≡ (with_at 64 (record { actor = 4097; act = act.Stop } ∷ []) history) → IsRun setting 10000 alone false r → ⊥
spoilt_run_stopped_by_another r has = foreign setting 10000 false (with_at 64 (record { actor = 4097; act = act.Stop } ∷ []) history) r has refl

pub spoilt_run_that_lacks_a_session : (r : Record) → r.history.entries.items ≡ history → r.sessions ≡ (events_1 ∷ events_2 ∷ events_3 ∷ events_4 ∷ events_5 ∷ events_6 ∷ events_7 ∷ [])
    → IsRun setting 10000 alone false r → ⊥
spoilt_run_that_lacks_a_session r has events = missing setting 10000 false history r has (events_1 ∷ events_2 ∷ events_3 ∷ events_4 ∷ events_5 ∷ events_6 ∷ events_7 ∷ []) events refl

pub spoilt_run_over_its_budget : (r : Record) → r.history.entries.items ≡ history → r.sessions ≡ sessions
    → IsRun setting 41 alone false r → ⊥
spoilt_run_over_its_budget r has events =
    too_many setting 41 false history r has sessions events 0 events_0 refl refl

pub spoilt_event_cut_at_the_end : agrees setting history 1 (
    event 0 kind.In 0 0 0 ∷
    event 0 kind.Install 0 0 0 ∷
    event 0 kind.Solicit 0 0 0 ∷
    event 0 kind.Answer 0 0 0 ∷
    event 0 kind.EndScope 0 12 0 ∷
    event 0 kind.Solicit 1 0 0 ∷
    event 0 kind.Answer 1 0 0 ∷
    event 0 kind.Local 0 0 0 ∷
    event 0 kind.EndScope 0 11 0 ∷
    event 0 kind.Reply 0 0 0 ∷ []) ≡ false
unfolding digits
spoilt_event_cut_at_the_end = refl

pub spoilt_events_exchanged : agrees setting history 0 (
    event 0 kind.Local 0 0 0 ∷
    event 0 kind.Install 0 0 0 ∷
    event 0 kind.Local 0 0 0 ∷
    event 0 kind.In 1 0 0 ∷
    event 0 kind.Local 0 0 0 ∷
    event 0 kind.Local 0 0 0 ∷
    event 0 kind.Local 0 0 0 ∷
    event 0 kind.Reply 1 0 0 ∷
    event 0 kind.EndScope 0 13 0 ∷
    event 0 kind.Local 0 0 0 ∷
    event 0 kind.Install 0 0 0 ∷
    event 0 kind.In 4 0 0 ∷
    event 0 kind.Local 0 0 0 ∷
    event 0 kind.Local 0 0 0 ∷
    event 0 kind.Local 0 0 0 ∷
    event 0 kind.Reply 4 0 0 ∷
    event 0 kind.EndScope 0 13 0 ∷
    event 0 kind.Local 0 0 0 ∷
    event 0 kind.Install 0 0 0 ∷
    event 0 kind.In 6 1 0 ∷
    event 0 kind.Local 0 0 0 ∷
    event 0 kind.Local 0 0 0 ∷
    event 0 kind.Reply 6 0 0 ∷
    event 0 kind.EndScope 0 13 0 ∷
    event 0 kind.Local 0 0 0 ∷
    event 0 kind.Install 0 0 0 ∷
    event 0 kind.In 8 0 0 ∷
    event 0 kind.Local 0 0 0 ∷
    event 0 kind.Raise 0 13 9 ∷
    event 0 kind.Reply 8 0 0 ∷
    event 0 kind.Handle 0 13 9 ∷
    event 0 kind.EndScope 0 13 0 ∷
    event 0 kind.Local 0 0 0 ∷
    event 0 kind.Install 0 0 0 ∷
    event 0 kind.In 10 0 0 ∷
    event 0 kind.Local 0 0 0 ∷
    event 0 kind.Local 0 0 0 ∷
    event 0 kind.Local 0 0 0 ∷
    event 0 kind.Reply 10 0 0 ∷
    event 0 kind.EndScope 0 13 0 ∷
    event 0 kind.Local 0 0 0 ∷
    event 0 kind.Install 0 0 0 ∷ []) ≡ false
unfolding digits
spoilt_events_exchanged = refl

pub spoilt_left_in_the_middle : is_quiet setting 10000 (take 6 history) (sessions_at setting (take 6 history) 0 sessions) ≡ false
unfolding digits
spoilt_left_in_the_middle = refl

pub spoilt_call_left_out : agrees setting (with_at 6 [] history) 0 events_0 ≡ false
unfolding digits
spoilt_call_left_out = refl

pub spoilt_posted_too_soon : is_still setting 10000 (with_at 6 (record { actor = 4096; act = act.Post 1 0 (record { service = 0; op = (111 ∷ 114 ∷ 100 ∷ 101 ∷ 114 ∷ []); value = (node root.Void (field (105 ∷ 100 ∷ []) (tree (node (root.Text (49 ∷ [])) no_fields) no_trees) (field (110 ∷ []) (tree (node (root.Int (pos 4)) no_fields) no_trees) (field (112 ∷ 114 ∷ 105 ∷ 99 ∷ 101 ∷ []) (tree (node (root.Int (pos 50)) no_fields) no_trees) (field (115 ∷ 107 ∷ 117 ∷ []) (tree (node (root.Text (120 ∷ [])) no_fields) no_trees) no_fields))))) }) (answer.Accepted 3) } ∷ record { actor = 0; act = act.Reply 1 (outcome.Value (node (root.Int (pos 7)) no_fields)) } ∷ []) (with_at 17 [] history)) sessions ≡ false
unfolding digits
spoilt_posted_too_soon = refl

pub spoilt_posted_behind_the_start : is_still setting 10000 (record { actor = 0; act = act.Adopt 1 } ∷ with_at 1 [] history) sessions ≡ false
unfolding digits
spoilt_posted_behind_the_start = refl

-- what came in
abbrev postings : List Posting
postings = (
    record { calls = (call.Post (record { service = 0; op = (111 ∷ 114 ∷ 100 ∷ 101 ∷ 114 ∷ []); value = (node root.Void (field (105 ∷ 100 ∷ []) (tree (node (root.Text (48 ∷ [])) no_fields) no_trees) (field (110 ∷ []) (tree (node (root.Int (pos 3)) no_fields) no_trees) (field (112 ∷ 114 ∷ 105 ∷ 99 ∷ 101 ∷ []) (tree (node (root.Int (pos 10)) no_fields) no_trees) (field (115 ∷ 107 ∷ 117 ∷ []) (tree (node (root.Text (120 ∷ [])) no_fields) no_trees) no_fields))))) }) ∷ []) } ∷
    record { calls = (call.Post (record { service = 0; op = (111 ∷ 114 ∷ 100 ∷ 101 ∷ 114 ∷ []); value = (node root.Void (field (105 ∷ 100 ∷ []) (tree (node (root.Text (49 ∷ [])) no_fields) no_trees) (field (110 ∷ []) (tree (node (root.Int (pos 4)) no_fields) no_trees) (field (112 ∷ 114 ∷ 105 ∷ 99 ∷ 101 ∷ []) (tree (node (root.Int (pos 50)) no_fields) no_trees) (field (115 ∷ 107 ∷ 117 ∷ []) (tree (node (root.Text (120 ∷ [])) no_fields) no_trees) no_fields))))) }) ∷ []) } ∷
    record { calls = (call.Post (record { service = 0; op = (111 ∷ 114 ∷ 100 ∷ 101 ∷ 114 ∷ []); value = (node root.Void (field (105 ∷ 100 ∷ []) (tree (node (root.Text (50 ∷ [])) no_fields) no_trees) (field (110 ∷ []) (tree (node (root.Int (pos 8)) no_fields) no_trees) (field (112 ∷ 114 ∷ 105 ∷ 99 ∷ 101 ∷ []) (tree (node (root.Int (pos 1)) no_fields) no_trees) (field (115 ∷ 107 ∷ 117 ∷ []) (tree (node (root.Text (120 ∷ [])) no_fields) no_trees) no_fields))))) }) ∷ []) } ∷
    record { calls = (call.Post (record { service = 0; op = (111 ∷ 114 ∷ 100 ∷ 101 ∷ 114 ∷ []); value = (node root.Void (field (105 ∷ 100 ∷ []) (tree (node (root.Text (51 ∷ [])) no_fields) no_trees) (field (110 ∷ []) (tree (node (root.Int (pos 7)) no_fields) no_trees) (field (112 ∷ 114 ∷ 105 ∷ 99 ∷ 101 ∷ []) (tree (node (root.Int (pos 1)) no_fields) no_trees) (field (115 ∷ 107 ∷ 117 ∷ []) (tree (node (root.Text (120 ∷ [])) no_fields) no_trees) no_fields))))) }) ∷ []) } ∷ [])

pub posted : posts_by first_worker history ≡ posts_of 0 postings
posted = refl

pub tells : told_from setting (past_of setting history) 0 postings ≡ (
    Some ((outcome.Value (node (root.Text (111 ∷ 107 ∷ 32 ∷ 55 ∷ [])) no_fields)) ∷ []) ∷
    Some ((outcome.Value (node (root.Text (110 ∷ 111 ∷ 102 ∷ 117 ∷ 110 ∷ 100 ∷ 115 ∷ [])) no_fields)) ∷ []) ∷
    Some ((outcome.Value (node (root.Text (115 ∷ 104 ∷ 111 ∷ 114 ∷ 116 ∷ [])) no_fields)) ∷ []) ∷
    Some ((outcome.Value (node (root.Text (111 ∷ 107 ∷ 32 ∷ 48 ∷ [])) no_fields)) ∷ []) ∷ [])
tells = refl

pub order : order_alone setting history first_worker 4 ≡ (0 ∷ 1 ∷ 2 ∷ 3 ∷ [])
order = refl

pub noted : notes setting history ≡ []
unfolding digits
noted = refl

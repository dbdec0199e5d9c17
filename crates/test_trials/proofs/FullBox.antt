-- The box of a session holds 256 messages.
use Rattle.std.specs.Prelude.{◌≡◌, ℕ, pos, negsuc, Bool, true, false, List, [], ◌∷◌, take, Option, None, Some}
use Rattle.std.proofs.Common.{refl}
use Rattle.std.specs.Fmt.{digits}
use Rattle.jolie_trees.specs.declared.root.Root.TheVariants as root
use Rattle.jolie_trees.specs.Data.{Tree, node, Fields, no_fields, field, Trees, no_trees, tree}
use Rattle.behaviour_tree.specs.declared.types.RootKind.TheVariants as kinds
use Rattle.behaviour_tree.specs.declared.expr.CompareOp.TheVariants as compare
use Rattle.behaviour_tree.specs.declared.expr.SumOp.TheVariants as sums
use Rattle.behaviour_tree.specs.declared.expr.MulOp.TheVariants as muls
use Rattle.behaviour_tree.specs.declared.expr.CastKind.TheVariants as casts
use Rattle.behaviour_tree.specs.declared.behaviour.HandlerKey.TheVariants as key
use Rattle.behaviour_tree.specs.declared.program.Execution.TheVariants as execution
use Rattle.behaviour_tree.specs.declared.words.Event.{Event}
use Rattle.behaviour_tree.specs.declared.words.Kind.TheVariants as kind
use Rattle.behaviour_tree.specs.declared.words.Outcome.TheVariants as outcome
use Rattle.behaviour_tree.specs.declared.words.Reason.TheVariants as reason
use Rattle.behaviour_tree.specs.Data.{plain, named, undefined, no_type_fields, type_field, here, step, step_at, constant, at_path, count_at, defined_at, literal, any_of, all_of, compared, sum, product, minus, negation, cast, no_exps, exp, no_sum_parts, sum_part, no_mul_parts, mul_part, no_member_list, member_of, Proc, nothing, assign, undef, copy, bind, sequence, parallel, choose, repeat, choice, notify, solicit, install, throw, comp, inner_handler, scope, block, no_procs, proc, no_branches, one_way, request, no_handlers, handler, ProgramParts}
use Rattle.correlation.specs.declared.bind_reply.BindReply.TheVariants as binding
use Rattle.office_core.specs.declared.post.PostReply.TheVariants as answer
use Rattle.office_core.specs.declared.history.Placed.TheVariants as at
use Rattle.office_core.specs.declared.history.Act.TheVariants as act
use Rattle.office_core.specs.declared.history.Entry.{Entry}
use Rattle.office_core.specs.declared.front.CallIn.TheVariants as call
use Rattle.office_core.specs.declared.front.Posting.{Posting}
use Rattle.office_core.specs.Limits.{Setting, run_of, first_worker}
use Rattle.office_core.specs.Accepted.{past_of}
use Rattle.office_core.specs.Legal.{IsLegal}
use Rattle.run_record.specs.Agrees.{IsSession}
use Rattle.run_record.specs.Quiet.{before_stop, sessions_at}
use Rattle.run_record.specs.Answered.{stand_together}
use Rattle.run_record.specs.Postings.{posts_by, posts_of}
use Rattle.run_record.specs.Order.{order_alone}
use Rattle.run_record.specs.Outside.{notes}
use Rattle.test_trials.specs.Counts.{legal_entries, with_at}
use Rattle.test_trials.specs.Fronts.{told_from}
use Rattle.test_trials.specs.Sessions.{event, agrees}
use Rattle.test_trials.specs.Quiet.{is_quiet, is_still}
use Rattle.test_trials.proofs.Told.{is_session}
use Rattle.std.specs.Prelude.{◌++◌}
use Rattle.run_record.specs.declared.record.Record.{Record}
use Rattle.run_record.specs.Run.{alone, workers, IsRun, IsSpent}
use Rattle.test_trials.proofs.Runs.{is_run, unstopped, unclosed, foreign, missing, too_many, restless}
use Rattle.run_record.specs.Order.{IsOrder}
use Rattle.test_trials.proofs.Workers.{is_run_of_workers, stranger, posts_apart, second_first, not_as_posted, not_without_one, not_twice}
use Rattle.test_trials.specs.Quiet.{can_act}
use Rattle.test_trials.proofs.Spends.{spends, is_spent, not_spent}

-- the program
abbrev program : ProgramParts
program = record {
  types = ((plain kinds.Void (type_field (115 ∷ 105 ∷ 100 ∷ []) 1 (Some 1) (plain kinds.Text no_type_fields) no_type_fields)) ∷ (plain kinds.Void (type_field (115 ∷ 105 ∷ 100 ∷ []) 1 (Some 1) (plain kinds.Text no_type_fields) no_type_fields)) ∷ []);
  interfaces = (record { name = (73 ∷ []); operations = (record { name = (111 ∷ 112 ∷ 101 ∷ 110 ∷ []); request = (named 0); response = (Some (plain kinds.Text no_type_fields)); throws = [] } ∷ record { name = (109 ∷ 111 ∷ 114 ∷ 101 ∷ []); request = (named 1); response = (Some (plain kinds.Text no_type_fields)); throws = [] } ∷ []) } ∷ []);
  services = (record { name = (83 ∷ []); execution = execution.Concurrent; ports = (record { name = (73 ∷ 110 ∷ []); input = true; location = (115 ∷ 111 ∷ 99 ∷ 107 ∷ 101 ∷ 116 ∷ 58 ∷ 47 ∷ 47 ∷ 108 ∷ 111 ∷ 99 ∷ 97 ∷ 108 ∷ 104 ∷ 111 ∷ 115 ∷ 116 ∷ 58 ∷ 56 ∷ 48 ∷ 48 ∷ 48 ∷ []); interfaces = (0 ∷ []) } ∷ []); sets = (record { variables = (record { name = (115 ∷ 105 ∷ 100 ∷ []); aliases = (record { ty = 0; path = ((115 ∷ 105 ∷ 100 ∷ []) ∷ []) } ∷ record { ty = 1; path = ((115 ∷ 105 ∷ 100 ∷ []) ∷ []) } ∷ []) } ∷ []) } ∷ []); init = nothing; main = (sequence (proc (choice (request 0 (Some (step (120 ∷ []) here)) (Some (step (121 ∷ []) here)) (assign (step (121 ∷ []) here) (sum (constant (root.Text (111 ∷ []))) (sum_part sums.Plus (at_path (step (120 ∷ []) (step (115 ∷ 105 ∷ 100 ∷ []) here))) no_sum_parts))) nothing no_branches)) (proc (choice (request 1 (Some (step (122 ∷ []) here)) (Some (step (119 ∷ []) here)) (assign (step (119 ∷ []) here) (sum (constant (root.Text (109 ∷ []))) (sum_part sums.Plus (at_path (step (122 ∷ []) (step (115 ∷ 105 ∷ 100 ∷ []) here))) no_sum_parts))) nothing no_branches)) no_procs))) } ∷ []);
  names = ((73 ∷ 79 ∷ 69 ∷ 120 ∷ 99 ∷ 101 ∷ 112 ∷ 116 ∷ 105 ∷ 111 ∷ 110 ∷ []) ∷ (84 ∷ 121 ∷ 112 ∷ 101 ∷ 77 ∷ 105 ∷ 115 ∷ 109 ∷ 97 ∷ 116 ∷ 99 ∷ 104 ∷ []) ∷ (67 ∷ 111 ∷ 114 ∷ 114 ∷ 101 ∷ 108 ∷ 97 ∷ 116 ∷ 105 ∷ 111 ∷ 110 ∷ 69 ∷ 114 ∷ 114 ∷ 111 ∷ 114 ∷ []) ∷ (82 ∷ 101 ∷ 102 ∷ 117 ∷ 115 ∷ 101 ∷ 100 ∷ []) ∷ (85 ∷ 110 ∷ 100 ∷ 101 ∷ 99 ∷ 108 ∷ 97 ∷ 114 ∷ 101 ∷ 100 ∷ 70 ∷ 97 ∷ 117 ∷ 108 ∷ 116 ∷ []) ∷ (69 ∷ 120 ∷ 112 ∷ 114 ∷ 70 ∷ 97 ∷ 117 ∷ 108 ∷ 116 ∷ []) ∷ (72 ∷ 97 ∷ 110 ∷ 100 ∷ 108 ∷ 101 ∷ 114 ∷ 84 ∷ 111 ∷ 111 ∷ 76 ∷ 97 ∷ 114 ∷ 103 ∷ 101 ∷ []) ∷ (83 ∷ 116 ∷ 111 ∷ 114 ∷ 101 ∷ 84 ∷ 111 ∷ 111 ∷ 76 ∷ 97 ∷ 114 ∷ 103 ∷ 101 ∷ []) ∷ (109 ∷ 97 ∷ 105 ∷ 110 ∷ []) ∷ []);
}

-- what its office works by
abbrev setting : Setting
setting = run_of program

-- its history
abbrev history : List Entry
history = (
    record { actor = 4096; act = act.Post 0 0 (record { service = 0; op = (111 ∷ 112 ∷ 101 ∷ 110 ∷ []); value = (node root.Void (field (115 ∷ 105 ∷ 100 ∷ []) (tree (node (root.Text (115 ∷ 49 ∷ [])) no_fields) no_trees) no_fields)) }) (answer.Accepted 0) } ∷
    record { actor = 0; act = act.Adopt 0 } ∷
    record { actor = 0; act = act.Take 0 } ∷
    record { actor = 0; act = act.Reply 0 (outcome.Value (node (root.Text (111 ∷ 115 ∷ 49 ∷ [])) no_fields)) } ∷
    record { actor = 4096; act = act.Collect 0 (outcome.Value (node (root.Text (111 ∷ 115 ∷ 49 ∷ [])) no_fields)) } ∷
    record { actor = 4096; act = act.Post 1 0 (record { service = 0; op = (109 ∷ 111 ∷ 114 ∷ 101 ∷ []); value = (node root.Void (field (115 ∷ 105 ∷ 100 ∷ []) (tree (node (root.Text (115 ∷ 49 ∷ [])) no_fields) no_trees) no_fields)) }) (answer.Accepted 1) } ∷
    record { actor = 4096; act = act.Post 1 1 (record { service = 0; op = (109 ∷ 111 ∷ 114 ∷ 101 ∷ []); value = (node root.Void (field (115 ∷ 105 ∷ 100 ∷ []) (tree (node (root.Text (115 ∷ 49 ∷ [])) no_fields) no_trees) no_fields)) }) (answer.Accepted 2) } ∷
    record { actor = 4096; act = act.Post 1 2 (record { service = 0; op = (109 ∷ 111 ∷ 114 ∷ 101 ∷ []); value = (node root.Void (field (115 ∷ 105 ∷ 100 ∷ []) (tree (node (root.Text (115 ∷ 49 ∷ [])) no_fields) no_trees) no_fields)) }) (answer.Accepted 3) } ∷
    record { actor = 4096; act = act.Post 1 3 (record { service = 0; op = (109 ∷ 111 ∷ 114 ∷ 101 ∷ []); value = (node root.Void (field (115 ∷ 105 ∷ 100 ∷ []) (tree (node (root.Text (115 ∷ 49 ∷ [])) no_fields) no_trees) no_fields)) }) (answer.Accepted 4) } ∷
    record { actor = 4096; act = act.Post 1 4 (record { service = 0; op = (109 ∷ 111 ∷ 114 ∷ 101 ∷ []); value = (node root.Void (field (115 ∷ 105 ∷ 100 ∷ []) (tree (node (root.Text (115 ∷ 49 ∷ [])) no_fields) no_trees) no_fields)) }) (answer.Accepted 5) } ∷
    record { actor = 4096; act = act.Post 1 5 (record { service = 0; op = (109 ∷ 111 ∷ 114 ∷ 101 ∷ []); value = (node root.Void (field (115 ∷ 105 ∷ 100 ∷ []) (tree (node (root.Text (115 ∷ 49 ∷ [])) no_fields) no_trees) no_fields)) }) (answer.Accepted 6) } ∷
    record { actor = 4096; act = act.Post 1 6 (record { service = 0; op = (109 ∷ 111 ∷ 114 ∷ 101 ∷ []); value = (node root.Void (field (115 ∷ 105 ∷ 100 ∷ []) (tree (node (root.Text (115 ∷ 49 ∷ [])) no_fields) no_trees) no_fields)) }) (answer.Accepted 7) } ∷
    record { actor = 4096; act = act.Post 1 7 (record { service = 0; op = (109 ∷ 111 ∷ 114 ∷ 101 ∷ []); value = (node root.Void (field (115 ∷ 105 ∷ 100 ∷ []) (tree (node (root.Text (115 ∷ 49 ∷ [])) no_fields) no_trees) no_fields)) }) (answer.Accepted 8) } ∷
    record { actor = 4096; act = act.Post 1 8 (record { service = 0; op = (109 ∷ 111 ∷ 114 ∷ 101 ∷ []); value = (node root.Void (field (115 ∷ 105 ∷ 100 ∷ []) (tree (node (root.Text (115 ∷ 49 ∷ [])) no_fields) no_trees) no_fields)) }) (answer.Accepted 9) } ∷
    record { actor = 4096; act = act.Post 1 9 (record { service = 0; op = (109 ∷ 111 ∷ 114 ∷ 101 ∷ []); value = (node root.Void (field (115 ∷ 105 ∷ 100 ∷ []) (tree (node (root.Text (115 ∷ 49 ∷ [])) no_fields) no_trees) no_fields)) }) (answer.Accepted 10) } ∷
    record { actor = 4096; act = act.Post 1 10 (record { service = 0; op = (109 ∷ 111 ∷ 114 ∷ 101 ∷ []); value = (node root.Void (field (115 ∷ 105 ∷ 100 ∷ []) (tree (node (root.Text (115 ∷ 49 ∷ [])) no_fields) no_trees) no_fields)) }) (answer.Accepted 11) } ∷
    record { actor = 4096; act = act.Post 1 11 (record { service = 0; op = (109 ∷ 111 ∷ 114 ∷ 101 ∷ []); value = (node root.Void (field (115 ∷ 105 ∷ 100 ∷ []) (tree (node (root.Text (115 ∷ 49 ∷ [])) no_fields) no_trees) no_fields)) }) (answer.Accepted 12) } ∷
    record { actor = 4096; act = act.Post 1 12 (record { service = 0; op = (109 ∷ 111 ∷ 114 ∷ 101 ∷ []); value = (node root.Void (field (115 ∷ 105 ∷ 100 ∷ []) (tree (node (root.Text (115 ∷ 49 ∷ [])) no_fields) no_trees) no_fields)) }) (answer.Accepted 13) } ∷
    record { actor = 4096; act = act.Post 1 13 (record { service = 0; op = (109 ∷ 111 ∷ 114 ∷ 101 ∷ []); value = (node root.Void (field (115 ∷ 105 ∷ 100 ∷ []) (tree (node (root.Text (115 ∷ 49 ∷ [])) no_fields) no_trees) no_fields)) }) (answer.Accepted 14) } ∷
    record { actor = 4096; act = act.Post 1 14 (record { service = 0; op = (109 ∷ 111 ∷ 114 ∷ 101 ∷ []); value = (node root.Void (field (115 ∷ 105 ∷ 100 ∷ []) (tree (node (root.Text (115 ∷ 49 ∷ [])) no_fields) no_trees) no_fields)) }) (answer.Accepted 15) } ∷
    record { actor = 4096; act = act.Post 1 15 (record { service = 0; op = (109 ∷ 111 ∷ 114 ∷ 101 ∷ []); value = (node root.Void (field (115 ∷ 105 ∷ 100 ∷ []) (tree (node (root.Text (115 ∷ 49 ∷ [])) no_fields) no_trees) no_fields)) }) (answer.Accepted 16) } ∷
    record { actor = 4096; act = act.Post 1 16 (record { service = 0; op = (109 ∷ 111 ∷ 114 ∷ 101 ∷ []); value = (node root.Void (field (115 ∷ 105 ∷ 100 ∷ []) (tree (node (root.Text (115 ∷ 49 ∷ [])) no_fields) no_trees) no_fields)) }) (answer.Accepted 17) } ∷
    record { actor = 4096; act = act.Post 1 17 (record { service = 0; op = (109 ∷ 111 ∷ 114 ∷ 101 ∷ []); value = (node root.Void (field (115 ∷ 105 ∷ 100 ∷ []) (tree (node (root.Text (115 ∷ 49 ∷ [])) no_fields) no_trees) no_fields)) }) (answer.Accepted 18) } ∷
    record { actor = 4096; act = act.Post 1 18 (record { service = 0; op = (109 ∷ 111 ∷ 114 ∷ 101 ∷ []); value = (node root.Void (field (115 ∷ 105 ∷ 100 ∷ []) (tree (node (root.Text (115 ∷ 49 ∷ [])) no_fields) no_trees) no_fields)) }) (answer.Accepted 19) } ∷
    record { actor = 4096; act = act.Post 1 19 (record { service = 0; op = (109 ∷ 111 ∷ 114 ∷ 101 ∷ []); value = (node root.Void (field (115 ∷ 105 ∷ 100 ∷ []) (tree (node (root.Text (115 ∷ 49 ∷ [])) no_fields) no_trees) no_fields)) }) (answer.Accepted 20) } ∷
    record { actor = 4096; act = act.Post 1 20 (record { service = 0; op = (109 ∷ 111 ∷ 114 ∷ 101 ∷ []); value = (node root.Void (field (115 ∷ 105 ∷ 100 ∷ []) (tree (node (root.Text (115 ∷ 49 ∷ [])) no_fields) no_trees) no_fields)) }) (answer.Accepted 21) } ∷
    record { actor = 4096; act = act.Post 1 21 (record { service = 0; op = (109 ∷ 111 ∷ 114 ∷ 101 ∷ []); value = (node root.Void (field (115 ∷ 105 ∷ 100 ∷ []) (tree (node (root.Text (115 ∷ 49 ∷ [])) no_fields) no_trees) no_fields)) }) (answer.Accepted 22) } ∷
    record { actor = 4096; act = act.Post 1 22 (record { service = 0; op = (109 ∷ 111 ∷ 114 ∷ 101 ∷ []); value = (node root.Void (field (115 ∷ 105 ∷ 100 ∷ []) (tree (node (root.Text (115 ∷ 49 ∷ [])) no_fields) no_trees) no_fields)) }) (answer.Accepted 23) } ∷
    record { actor = 4096; act = act.Post 1 23 (record { service = 0; op = (109 ∷ 111 ∷ 114 ∷ 101 ∷ []); value = (node root.Void (field (115 ∷ 105 ∷ 100 ∷ []) (tree (node (root.Text (115 ∷ 49 ∷ [])) no_fields) no_trees) no_fields)) }) (answer.Accepted 24) } ∷
    record { actor = 4096; act = act.Post 1 24 (record { service = 0; op = (109 ∷ 111 ∷ 114 ∷ 101 ∷ []); value = (node root.Void (field (115 ∷ 105 ∷ 100 ∷ []) (tree (node (root.Text (115 ∷ 49 ∷ [])) no_fields) no_trees) no_fields)) }) (answer.Accepted 25) } ∷
    record { actor = 4096; act = act.Post 1 25 (record { service = 0; op = (109 ∷ 111 ∷ 114 ∷ 101 ∷ []); value = (node root.Void (field (115 ∷ 105 ∷ 100 ∷ []) (tree (node (root.Text (115 ∷ 49 ∷ [])) no_fields) no_trees) no_fields)) }) (answer.Accepted 26) } ∷
    record { actor = 4096; act = act.Post 1 26 (record { service = 0; op = (109 ∷ 111 ∷ 114 ∷ 101 ∷ []); value = (node root.Void (field (115 ∷ 105 ∷ 100 ∷ []) (tree (node (root.Text (115 ∷ 49 ∷ [])) no_fields) no_trees) no_fields)) }) (answer.Accepted 27) } ∷
    record { actor = 4096; act = act.Post 1 27 (record { service = 0; op = (109 ∷ 111 ∷ 114 ∷ 101 ∷ []); value = (node root.Void (field (115 ∷ 105 ∷ 100 ∷ []) (tree (node (root.Text (115 ∷ 49 ∷ [])) no_fields) no_trees) no_fields)) }) (answer.Accepted 28) } ∷
    record { actor = 4096; act = act.Post 1 28 (record { service = 0; op = (109 ∷ 111 ∷ 114 ∷ 101 ∷ []); value = (node root.Void (field (115 ∷ 105 ∷ 100 ∷ []) (tree (node (root.Text (115 ∷ 49 ∷ [])) no_fields) no_trees) no_fields)) }) (answer.Accepted 29) } ∷
    record { actor = 4096; act = act.Post 1 29 (record { service = 0; op = (109 ∷ 111 ∷ 114 ∷ 101 ∷ []); value = (node root.Void (field (115 ∷ 105 ∷ 100 ∷ []) (tree (node (root.Text (115 ∷ 49 ∷ [])) no_fields) no_trees) no_fields)) }) (answer.Accepted 30) } ∷
    record { actor = 4096; act = act.Post 1 30 (record { service = 0; op = (109 ∷ 111 ∷ 114 ∷ 101 ∷ []); value = (node root.Void (field (115 ∷ 105 ∷ 100 ∷ []) (tree (node (root.Text (115 ∷ 49 ∷ [])) no_fields) no_trees) no_fields)) }) (answer.Accepted 31) } ∷
    record { actor = 4096; act = act.Post 1 31 (record { service = 0; op = (109 ∷ 111 ∷ 114 ∷ 101 ∷ []); value = (node root.Void (field (115 ∷ 105 ∷ 100 ∷ []) (tree (node (root.Text (115 ∷ 49 ∷ [])) no_fields) no_trees) no_fields)) }) (answer.Accepted 32) } ∷
    record { actor = 4096; act = act.Post 1 32 (record { service = 0; op = (109 ∷ 111 ∷ 114 ∷ 101 ∷ []); value = (node root.Void (field (115 ∷ 105 ∷ 100 ∷ []) (tree (node (root.Text (115 ∷ 49 ∷ [])) no_fields) no_trees) no_fields)) }) (answer.Accepted 33) } ∷
    record { actor = 4096; act = act.Post 1 33 (record { service = 0; op = (109 ∷ 111 ∷ 114 ∷ 101 ∷ []); value = (node root.Void (field (115 ∷ 105 ∷ 100 ∷ []) (tree (node (root.Text (115 ∷ 49 ∷ [])) no_fields) no_trees) no_fields)) }) (answer.Accepted 34) } ∷
    record { actor = 4096; act = act.Post 1 34 (record { service = 0; op = (109 ∷ 111 ∷ 114 ∷ 101 ∷ []); value = (node root.Void (field (115 ∷ 105 ∷ 100 ∷ []) (tree (node (root.Text (115 ∷ 49 ∷ [])) no_fields) no_trees) no_fields)) }) (answer.Accepted 35) } ∷
    record { actor = 4096; act = act.Post 1 35 (record { service = 0; op = (109 ∷ 111 ∷ 114 ∷ 101 ∷ []); value = (node root.Void (field (115 ∷ 105 ∷ 100 ∷ []) (tree (node (root.Text (115 ∷ 49 ∷ [])) no_fields) no_trees) no_fields)) }) (answer.Accepted 36) } ∷
    record { actor = 4096; act = act.Post 1 36 (record { service = 0; op = (109 ∷ 111 ∷ 114 ∷ 101 ∷ []); value = (node root.Void (field (115 ∷ 105 ∷ 100 ∷ []) (tree (node (root.Text (115 ∷ 49 ∷ [])) no_fields) no_trees) no_fields)) }) (answer.Accepted 37) } ∷
    record { actor = 4096; act = act.Post 1 37 (record { service = 0; op = (109 ∷ 111 ∷ 114 ∷ 101 ∷ []); value = (node root.Void (field (115 ∷ 105 ∷ 100 ∷ []) (tree (node (root.Text (115 ∷ 49 ∷ [])) no_fields) no_trees) no_fields)) }) (answer.Accepted 38) } ∷
    record { actor = 4096; act = act.Post 1 38 (record { service = 0; op = (109 ∷ 111 ∷ 114 ∷ 101 ∷ []); value = (node root.Void (field (115 ∷ 105 ∷ 100 ∷ []) (tree (node (root.Text (115 ∷ 49 ∷ [])) no_fields) no_trees) no_fields)) }) (answer.Accepted 39) } ∷
    record { actor = 4096; act = act.Post 1 39 (record { service = 0; op = (109 ∷ 111 ∷ 114 ∷ 101 ∷ []); value = (node root.Void (field (115 ∷ 105 ∷ 100 ∷ []) (tree (node (root.Text (115 ∷ 49 ∷ [])) no_fields) no_trees) no_fields)) }) (answer.Accepted 40) } ∷
    record { actor = 4096; act = act.Post 1 40 (record { service = 0; op = (109 ∷ 111 ∷ 114 ∷ 101 ∷ []); value = (node root.Void (field (115 ∷ 105 ∷ 100 ∷ []) (tree (node (root.Text (115 ∷ 49 ∷ [])) no_fields) no_trees) no_fields)) }) (answer.Accepted 41) } ∷
    record { actor = 4096; act = act.Post 1 41 (record { service = 0; op = (109 ∷ 111 ∷ 114 ∷ 101 ∷ []); value = (node root.Void (field (115 ∷ 105 ∷ 100 ∷ []) (tree (node (root.Text (115 ∷ 49 ∷ [])) no_fields) no_trees) no_fields)) }) (answer.Accepted 42) } ∷
    record { actor = 4096; act = act.Post 1 42 (record { service = 0; op = (109 ∷ 111 ∷ 114 ∷ 101 ∷ []); value = (node root.Void (field (115 ∷ 105 ∷ 100 ∷ []) (tree (node (root.Text (115 ∷ 49 ∷ [])) no_fields) no_trees) no_fields)) }) (answer.Accepted 43) } ∷
    record { actor = 4096; act = act.Post 1 43 (record { service = 0; op = (109 ∷ 111 ∷ 114 ∷ 101 ∷ []); value = (node root.Void (field (115 ∷ 105 ∷ 100 ∷ []) (tree (node (root.Text (115 ∷ 49 ∷ [])) no_fields) no_trees) no_fields)) }) (answer.Accepted 44) } ∷
    record { actor = 4096; act = act.Post 1 44 (record { service = 0; op = (109 ∷ 111 ∷ 114 ∷ 101 ∷ []); value = (node root.Void (field (115 ∷ 105 ∷ 100 ∷ []) (tree (node (root.Text (115 ∷ 49 ∷ [])) no_fields) no_trees) no_fields)) }) (answer.Accepted 45) } ∷
    record { actor = 4096; act = act.Post 1 45 (record { service = 0; op = (109 ∷ 111 ∷ 114 ∷ 101 ∷ []); value = (node root.Void (field (115 ∷ 105 ∷ 100 ∷ []) (tree (node (root.Text (115 ∷ 49 ∷ [])) no_fields) no_trees) no_fields)) }) (answer.Accepted 46) } ∷
    record { actor = 4096; act = act.Post 1 46 (record { service = 0; op = (109 ∷ 111 ∷ 114 ∷ 101 ∷ []); value = (node root.Void (field (115 ∷ 105 ∷ 100 ∷ []) (tree (node (root.Text (115 ∷ 49 ∷ [])) no_fields) no_trees) no_fields)) }) (answer.Accepted 47) } ∷
    record { actor = 4096; act = act.Post 1 47 (record { service = 0; op = (109 ∷ 111 ∷ 114 ∷ 101 ∷ []); value = (node root.Void (field (115 ∷ 105 ∷ 100 ∷ []) (tree (node (root.Text (115 ∷ 49 ∷ [])) no_fields) no_trees) no_fields)) }) (answer.Accepted 48) } ∷
    record { actor = 4096; act = act.Post 1 48 (record { service = 0; op = (109 ∷ 111 ∷ 114 ∷ 101 ∷ []); value = (node root.Void (field (115 ∷ 105 ∷ 100 ∷ []) (tree (node (root.Text (115 ∷ 49 ∷ [])) no_fields) no_trees) no_fields)) }) (answer.Accepted 49) } ∷
    record { actor = 4096; act = act.Post 1 49 (record { service = 0; op = (109 ∷ 111 ∷ 114 ∷ 101 ∷ []); value = (node root.Void (field (115 ∷ 105 ∷ 100 ∷ []) (tree (node (root.Text (115 ∷ 49 ∷ [])) no_fields) no_trees) no_fields)) }) (answer.Accepted 50) } ∷
    record { actor = 4096; act = act.Post 1 50 (record { service = 0; op = (109 ∷ 111 ∷ 114 ∷ 101 ∷ []); value = (node root.Void (field (115 ∷ 105 ∷ 100 ∷ []) (tree (node (root.Text (115 ∷ 49 ∷ [])) no_fields) no_trees) no_fields)) }) (answer.Accepted 51) } ∷
    record { actor = 4096; act = act.Post 1 51 (record { service = 0; op = (109 ∷ 111 ∷ 114 ∷ 101 ∷ []); value = (node root.Void (field (115 ∷ 105 ∷ 100 ∷ []) (tree (node (root.Text (115 ∷ 49 ∷ [])) no_fields) no_trees) no_fields)) }) (answer.Accepted 52) } ∷
    record { actor = 4096; act = act.Post 1 52 (record { service = 0; op = (109 ∷ 111 ∷ 114 ∷ 101 ∷ []); value = (node root.Void (field (115 ∷ 105 ∷ 100 ∷ []) (tree (node (root.Text (115 ∷ 49 ∷ [])) no_fields) no_trees) no_fields)) }) (answer.Accepted 53) } ∷
    record { actor = 4096; act = act.Post 1 53 (record { service = 0; op = (109 ∷ 111 ∷ 114 ∷ 101 ∷ []); value = (node root.Void (field (115 ∷ 105 ∷ 100 ∷ []) (tree (node (root.Text (115 ∷ 49 ∷ [])) no_fields) no_trees) no_fields)) }) (answer.Accepted 54) } ∷
    record { actor = 4096; act = act.Post 1 54 (record { service = 0; op = (109 ∷ 111 ∷ 114 ∷ 101 ∷ []); value = (node root.Void (field (115 ∷ 105 ∷ 100 ∷ []) (tree (node (root.Text (115 ∷ 49 ∷ [])) no_fields) no_trees) no_fields)) }) (answer.Accepted 55) } ∷
    record { actor = 4096; act = act.Post 1 55 (record { service = 0; op = (109 ∷ 111 ∷ 114 ∷ 101 ∷ []); value = (node root.Void (field (115 ∷ 105 ∷ 100 ∷ []) (tree (node (root.Text (115 ∷ 49 ∷ [])) no_fields) no_trees) no_fields)) }) (answer.Accepted 56) } ∷
    record { actor = 4096; act = act.Post 1 56 (record { service = 0; op = (109 ∷ 111 ∷ 114 ∷ 101 ∷ []); value = (node root.Void (field (115 ∷ 105 ∷ 100 ∷ []) (tree (node (root.Text (115 ∷ 49 ∷ [])) no_fields) no_trees) no_fields)) }) (answer.Accepted 57) } ∷
    record { actor = 4096; act = act.Post 1 57 (record { service = 0; op = (109 ∷ 111 ∷ 114 ∷ 101 ∷ []); value = (node root.Void (field (115 ∷ 105 ∷ 100 ∷ []) (tree (node (root.Text (115 ∷ 49 ∷ [])) no_fields) no_trees) no_fields)) }) (answer.Accepted 58) } ∷
    record { actor = 4096; act = act.Post 1 58 (record { service = 0; op = (109 ∷ 111 ∷ 114 ∷ 101 ∷ []); value = (node root.Void (field (115 ∷ 105 ∷ 100 ∷ []) (tree (node (root.Text (115 ∷ 49 ∷ [])) no_fields) no_trees) no_fields)) }) (answer.Accepted 59) } ∷
    record { actor = 4096; act = act.Post 1 59 (record { service = 0; op = (109 ∷ 111 ∷ 114 ∷ 101 ∷ []); value = (node root.Void (field (115 ∷ 105 ∷ 100 ∷ []) (tree (node (root.Text (115 ∷ 49 ∷ [])) no_fields) no_trees) no_fields)) }) (answer.Accepted 60) } ∷
    record { actor = 4096; act = act.Post 1 60 (record { service = 0; op = (109 ∷ 111 ∷ 114 ∷ 101 ∷ []); value = (node root.Void (field (115 ∷ 105 ∷ 100 ∷ []) (tree (node (root.Text (115 ∷ 49 ∷ [])) no_fields) no_trees) no_fields)) }) (answer.Accepted 61) } ∷
    record { actor = 4096; act = act.Post 1 61 (record { service = 0; op = (109 ∷ 111 ∷ 114 ∷ 101 ∷ []); value = (node root.Void (field (115 ∷ 105 ∷ 100 ∷ []) (tree (node (root.Text (115 ∷ 49 ∷ [])) no_fields) no_trees) no_fields)) }) (answer.Accepted 62) } ∷
    record { actor = 4096; act = act.Post 1 62 (record { service = 0; op = (109 ∷ 111 ∷ 114 ∷ 101 ∷ []); value = (node root.Void (field (115 ∷ 105 ∷ 100 ∷ []) (tree (node (root.Text (115 ∷ 49 ∷ [])) no_fields) no_trees) no_fields)) }) (answer.Accepted 63) } ∷
    record { actor = 4096; act = act.Post 1 63 (record { service = 0; op = (109 ∷ 111 ∷ 114 ∷ 101 ∷ []); value = (node root.Void (field (115 ∷ 105 ∷ 100 ∷ []) (tree (node (root.Text (115 ∷ 49 ∷ [])) no_fields) no_trees) no_fields)) }) (answer.Accepted 64) } ∷
    record { actor = 4096; act = act.Post 1 64 (record { service = 0; op = (109 ∷ 111 ∷ 114 ∷ 101 ∷ []); value = (node root.Void (field (115 ∷ 105 ∷ 100 ∷ []) (tree (node (root.Text (115 ∷ 49 ∷ [])) no_fields) no_trees) no_fields)) }) (answer.Accepted 65) } ∷
    record { actor = 4096; act = act.Post 1 65 (record { service = 0; op = (109 ∷ 111 ∷ 114 ∷ 101 ∷ []); value = (node root.Void (field (115 ∷ 105 ∷ 100 ∷ []) (tree (node (root.Text (115 ∷ 49 ∷ [])) no_fields) no_trees) no_fields)) }) (answer.Accepted 66) } ∷
    record { actor = 4096; act = act.Post 1 66 (record { service = 0; op = (109 ∷ 111 ∷ 114 ∷ 101 ∷ []); value = (node root.Void (field (115 ∷ 105 ∷ 100 ∷ []) (tree (node (root.Text (115 ∷ 49 ∷ [])) no_fields) no_trees) no_fields)) }) (answer.Accepted 67) } ∷
    record { actor = 4096; act = act.Post 1 67 (record { service = 0; op = (109 ∷ 111 ∷ 114 ∷ 101 ∷ []); value = (node root.Void (field (115 ∷ 105 ∷ 100 ∷ []) (tree (node (root.Text (115 ∷ 49 ∷ [])) no_fields) no_trees) no_fields)) }) (answer.Accepted 68) } ∷
    record { actor = 4096; act = act.Post 1 68 (record { service = 0; op = (109 ∷ 111 ∷ 114 ∷ 101 ∷ []); value = (node root.Void (field (115 ∷ 105 ∷ 100 ∷ []) (tree (node (root.Text (115 ∷ 49 ∷ [])) no_fields) no_trees) no_fields)) }) (answer.Accepted 69) } ∷
    record { actor = 4096; act = act.Post 1 69 (record { service = 0; op = (109 ∷ 111 ∷ 114 ∷ 101 ∷ []); value = (node root.Void (field (115 ∷ 105 ∷ 100 ∷ []) (tree (node (root.Text (115 ∷ 49 ∷ [])) no_fields) no_trees) no_fields)) }) (answer.Accepted 70) } ∷
    record { actor = 4096; act = act.Post 1 70 (record { service = 0; op = (109 ∷ 111 ∷ 114 ∷ 101 ∷ []); value = (node root.Void (field (115 ∷ 105 ∷ 100 ∷ []) (tree (node (root.Text (115 ∷ 49 ∷ [])) no_fields) no_trees) no_fields)) }) (answer.Accepted 71) } ∷
    record { actor = 4096; act = act.Post 1 71 (record { service = 0; op = (109 ∷ 111 ∷ 114 ∷ 101 ∷ []); value = (node root.Void (field (115 ∷ 105 ∷ 100 ∷ []) (tree (node (root.Text (115 ∷ 49 ∷ [])) no_fields) no_trees) no_fields)) }) (answer.Accepted 72) } ∷
    record { actor = 4096; act = act.Post 1 72 (record { service = 0; op = (109 ∷ 111 ∷ 114 ∷ 101 ∷ []); value = (node root.Void (field (115 ∷ 105 ∷ 100 ∷ []) (tree (node (root.Text (115 ∷ 49 ∷ [])) no_fields) no_trees) no_fields)) }) (answer.Accepted 73) } ∷
    record { actor = 4096; act = act.Post 1 73 (record { service = 0; op = (109 ∷ 111 ∷ 114 ∷ 101 ∷ []); value = (node root.Void (field (115 ∷ 105 ∷ 100 ∷ []) (tree (node (root.Text (115 ∷ 49 ∷ [])) no_fields) no_trees) no_fields)) }) (answer.Accepted 74) } ∷
    record { actor = 4096; act = act.Post 1 74 (record { service = 0; op = (109 ∷ 111 ∷ 114 ∷ 101 ∷ []); value = (node root.Void (field (115 ∷ 105 ∷ 100 ∷ []) (tree (node (root.Text (115 ∷ 49 ∷ [])) no_fields) no_trees) no_fields)) }) (answer.Accepted 75) } ∷
    record { actor = 4096; act = act.Post 1 75 (record { service = 0; op = (109 ∷ 111 ∷ 114 ∷ 101 ∷ []); value = (node root.Void (field (115 ∷ 105 ∷ 100 ∷ []) (tree (node (root.Text (115 ∷ 49 ∷ [])) no_fields) no_trees) no_fields)) }) (answer.Accepted 76) } ∷
    record { actor = 4096; act = act.Post 1 76 (record { service = 0; op = (109 ∷ 111 ∷ 114 ∷ 101 ∷ []); value = (node root.Void (field (115 ∷ 105 ∷ 100 ∷ []) (tree (node (root.Text (115 ∷ 49 ∷ [])) no_fields) no_trees) no_fields)) }) (answer.Accepted 77) } ∷
    record { actor = 4096; act = act.Post 1 77 (record { service = 0; op = (109 ∷ 111 ∷ 114 ∷ 101 ∷ []); value = (node root.Void (field (115 ∷ 105 ∷ 100 ∷ []) (tree (node (root.Text (115 ∷ 49 ∷ [])) no_fields) no_trees) no_fields)) }) (answer.Accepted 78) } ∷
    record { actor = 4096; act = act.Post 1 78 (record { service = 0; op = (109 ∷ 111 ∷ 114 ∷ 101 ∷ []); value = (node root.Void (field (115 ∷ 105 ∷ 100 ∷ []) (tree (node (root.Text (115 ∷ 49 ∷ [])) no_fields) no_trees) no_fields)) }) (answer.Accepted 79) } ∷
    record { actor = 4096; act = act.Post 1 79 (record { service = 0; op = (109 ∷ 111 ∷ 114 ∷ 101 ∷ []); value = (node root.Void (field (115 ∷ 105 ∷ 100 ∷ []) (tree (node (root.Text (115 ∷ 49 ∷ [])) no_fields) no_trees) no_fields)) }) (answer.Accepted 80) } ∷
    record { actor = 4096; act = act.Post 1 80 (record { service = 0; op = (109 ∷ 111 ∷ 114 ∷ 101 ∷ []); value = (node root.Void (field (115 ∷ 105 ∷ 100 ∷ []) (tree (node (root.Text (115 ∷ 49 ∷ [])) no_fields) no_trees) no_fields)) }) (answer.Accepted 81) } ∷
    record { actor = 4096; act = act.Post 1 81 (record { service = 0; op = (109 ∷ 111 ∷ 114 ∷ 101 ∷ []); value = (node root.Void (field (115 ∷ 105 ∷ 100 ∷ []) (tree (node (root.Text (115 ∷ 49 ∷ [])) no_fields) no_trees) no_fields)) }) (answer.Accepted 82) } ∷
    record { actor = 4096; act = act.Post 1 82 (record { service = 0; op = (109 ∷ 111 ∷ 114 ∷ 101 ∷ []); value = (node root.Void (field (115 ∷ 105 ∷ 100 ∷ []) (tree (node (root.Text (115 ∷ 49 ∷ [])) no_fields) no_trees) no_fields)) }) (answer.Accepted 83) } ∷
    record { actor = 4096; act = act.Post 1 83 (record { service = 0; op = (109 ∷ 111 ∷ 114 ∷ 101 ∷ []); value = (node root.Void (field (115 ∷ 105 ∷ 100 ∷ []) (tree (node (root.Text (115 ∷ 49 ∷ [])) no_fields) no_trees) no_fields)) }) (answer.Accepted 84) } ∷
    record { actor = 4096; act = act.Post 1 84 (record { service = 0; op = (109 ∷ 111 ∷ 114 ∷ 101 ∷ []); value = (node root.Void (field (115 ∷ 105 ∷ 100 ∷ []) (tree (node (root.Text (115 ∷ 49 ∷ [])) no_fields) no_trees) no_fields)) }) (answer.Accepted 85) } ∷
    record { actor = 4096; act = act.Post 1 85 (record { service = 0; op = (109 ∷ 111 ∷ 114 ∷ 101 ∷ []); value = (node root.Void (field (115 ∷ 105 ∷ 100 ∷ []) (tree (node (root.Text (115 ∷ 49 ∷ [])) no_fields) no_trees) no_fields)) }) (answer.Accepted 86) } ∷
    record { actor = 4096; act = act.Post 1 86 (record { service = 0; op = (109 ∷ 111 ∷ 114 ∷ 101 ∷ []); value = (node root.Void (field (115 ∷ 105 ∷ 100 ∷ []) (tree (node (root.Text (115 ∷ 49 ∷ [])) no_fields) no_trees) no_fields)) }) (answer.Accepted 87) } ∷
    record { actor = 4096; act = act.Post 1 87 (record { service = 0; op = (109 ∷ 111 ∷ 114 ∷ 101 ∷ []); value = (node root.Void (field (115 ∷ 105 ∷ 100 ∷ []) (tree (node (root.Text (115 ∷ 49 ∷ [])) no_fields) no_trees) no_fields)) }) (answer.Accepted 88) } ∷
    record { actor = 4096; act = act.Post 1 88 (record { service = 0; op = (109 ∷ 111 ∷ 114 ∷ 101 ∷ []); value = (node root.Void (field (115 ∷ 105 ∷ 100 ∷ []) (tree (node (root.Text (115 ∷ 49 ∷ [])) no_fields) no_trees) no_fields)) }) (answer.Accepted 89) } ∷
    record { actor = 4096; act = act.Post 1 89 (record { service = 0; op = (109 ∷ 111 ∷ 114 ∷ 101 ∷ []); value = (node root.Void (field (115 ∷ 105 ∷ 100 ∷ []) (tree (node (root.Text (115 ∷ 49 ∷ [])) no_fields) no_trees) no_fields)) }) (answer.Accepted 90) } ∷
    record { actor = 4096; act = act.Post 1 90 (record { service = 0; op = (109 ∷ 111 ∷ 114 ∷ 101 ∷ []); value = (node root.Void (field (115 ∷ 105 ∷ 100 ∷ []) (tree (node (root.Text (115 ∷ 49 ∷ [])) no_fields) no_trees) no_fields)) }) (answer.Accepted 91) } ∷
    record { actor = 4096; act = act.Post 1 91 (record { service = 0; op = (109 ∷ 111 ∷ 114 ∷ 101 ∷ []); value = (node root.Void (field (115 ∷ 105 ∷ 100 ∷ []) (tree (node (root.Text (115 ∷ 49 ∷ [])) no_fields) no_trees) no_fields)) }) (answer.Accepted 92) } ∷
    record { actor = 4096; act = act.Post 1 92 (record { service = 0; op = (109 ∷ 111 ∷ 114 ∷ 101 ∷ []); value = (node root.Void (field (115 ∷ 105 ∷ 100 ∷ []) (tree (node (root.Text (115 ∷ 49 ∷ [])) no_fields) no_trees) no_fields)) }) (answer.Accepted 93) } ∷
    record { actor = 4096; act = act.Post 1 93 (record { service = 0; op = (109 ∷ 111 ∷ 114 ∷ 101 ∷ []); value = (node root.Void (field (115 ∷ 105 ∷ 100 ∷ []) (tree (node (root.Text (115 ∷ 49 ∷ [])) no_fields) no_trees) no_fields)) }) (answer.Accepted 94) } ∷
    record { actor = 4096; act = act.Post 1 94 (record { service = 0; op = (109 ∷ 111 ∷ 114 ∷ 101 ∷ []); value = (node root.Void (field (115 ∷ 105 ∷ 100 ∷ []) (tree (node (root.Text (115 ∷ 49 ∷ [])) no_fields) no_trees) no_fields)) }) (answer.Accepted 95) } ∷
    record { actor = 4096; act = act.Post 1 95 (record { service = 0; op = (109 ∷ 111 ∷ 114 ∷ 101 ∷ []); value = (node root.Void (field (115 ∷ 105 ∷ 100 ∷ []) (tree (node (root.Text (115 ∷ 49 ∷ [])) no_fields) no_trees) no_fields)) }) (answer.Accepted 96) } ∷
    record { actor = 4096; act = act.Post 1 96 (record { service = 0; op = (109 ∷ 111 ∷ 114 ∷ 101 ∷ []); value = (node root.Void (field (115 ∷ 105 ∷ 100 ∷ []) (tree (node (root.Text (115 ∷ 49 ∷ [])) no_fields) no_trees) no_fields)) }) (answer.Accepted 97) } ∷
    record { actor = 4096; act = act.Post 1 97 (record { service = 0; op = (109 ∷ 111 ∷ 114 ∷ 101 ∷ []); value = (node root.Void (field (115 ∷ 105 ∷ 100 ∷ []) (tree (node (root.Text (115 ∷ 49 ∷ [])) no_fields) no_trees) no_fields)) }) (answer.Accepted 98) } ∷
    record { actor = 4096; act = act.Post 1 98 (record { service = 0; op = (109 ∷ 111 ∷ 114 ∷ 101 ∷ []); value = (node root.Void (field (115 ∷ 105 ∷ 100 ∷ []) (tree (node (root.Text (115 ∷ 49 ∷ [])) no_fields) no_trees) no_fields)) }) (answer.Accepted 99) } ∷
    record { actor = 4096; act = act.Post 1 99 (record { service = 0; op = (109 ∷ 111 ∷ 114 ∷ 101 ∷ []); value = (node root.Void (field (115 ∷ 105 ∷ 100 ∷ []) (tree (node (root.Text (115 ∷ 49 ∷ [])) no_fields) no_trees) no_fields)) }) (answer.Accepted 100) } ∷
    record { actor = 4096; act = act.Post 1 100 (record { service = 0; op = (109 ∷ 111 ∷ 114 ∷ 101 ∷ []); value = (node root.Void (field (115 ∷ 105 ∷ 100 ∷ []) (tree (node (root.Text (115 ∷ 49 ∷ [])) no_fields) no_trees) no_fields)) }) (answer.Accepted 101) } ∷
    record { actor = 4096; act = act.Post 1 101 (record { service = 0; op = (109 ∷ 111 ∷ 114 ∷ 101 ∷ []); value = (node root.Void (field (115 ∷ 105 ∷ 100 ∷ []) (tree (node (root.Text (115 ∷ 49 ∷ [])) no_fields) no_trees) no_fields)) }) (answer.Accepted 102) } ∷
    record { actor = 4096; act = act.Post 1 102 (record { service = 0; op = (109 ∷ 111 ∷ 114 ∷ 101 ∷ []); value = (node root.Void (field (115 ∷ 105 ∷ 100 ∷ []) (tree (node (root.Text (115 ∷ 49 ∷ [])) no_fields) no_trees) no_fields)) }) (answer.Accepted 103) } ∷
    record { actor = 4096; act = act.Post 1 103 (record { service = 0; op = (109 ∷ 111 ∷ 114 ∷ 101 ∷ []); value = (node root.Void (field (115 ∷ 105 ∷ 100 ∷ []) (tree (node (root.Text (115 ∷ 49 ∷ [])) no_fields) no_trees) no_fields)) }) (answer.Accepted 104) } ∷
    record { actor = 4096; act = act.Post 1 104 (record { service = 0; op = (109 ∷ 111 ∷ 114 ∷ 101 ∷ []); value = (node root.Void (field (115 ∷ 105 ∷ 100 ∷ []) (tree (node (root.Text (115 ∷ 49 ∷ [])) no_fields) no_trees) no_fields)) }) (answer.Accepted 105) } ∷
    record { actor = 4096; act = act.Post 1 105 (record { service = 0; op = (109 ∷ 111 ∷ 114 ∷ 101 ∷ []); value = (node root.Void (field (115 ∷ 105 ∷ 100 ∷ []) (tree (node (root.Text (115 ∷ 49 ∷ [])) no_fields) no_trees) no_fields)) }) (answer.Accepted 106) } ∷
    record { actor = 4096; act = act.Post 1 106 (record { service = 0; op = (109 ∷ 111 ∷ 114 ∷ 101 ∷ []); value = (node root.Void (field (115 ∷ 105 ∷ 100 ∷ []) (tree (node (root.Text (115 ∷ 49 ∷ [])) no_fields) no_trees) no_fields)) }) (answer.Accepted 107) } ∷
    record { actor = 4096; act = act.Post 1 107 (record { service = 0; op = (109 ∷ 111 ∷ 114 ∷ 101 ∷ []); value = (node root.Void (field (115 ∷ 105 ∷ 100 ∷ []) (tree (node (root.Text (115 ∷ 49 ∷ [])) no_fields) no_trees) no_fields)) }) (answer.Accepted 108) } ∷
    record { actor = 4096; act = act.Post 1 108 (record { service = 0; op = (109 ∷ 111 ∷ 114 ∷ 101 ∷ []); value = (node root.Void (field (115 ∷ 105 ∷ 100 ∷ []) (tree (node (root.Text (115 ∷ 49 ∷ [])) no_fields) no_trees) no_fields)) }) (answer.Accepted 109) } ∷
    record { actor = 4096; act = act.Post 1 109 (record { service = 0; op = (109 ∷ 111 ∷ 114 ∷ 101 ∷ []); value = (node root.Void (field (115 ∷ 105 ∷ 100 ∷ []) (tree (node (root.Text (115 ∷ 49 ∷ [])) no_fields) no_trees) no_fields)) }) (answer.Accepted 110) } ∷
    record { actor = 4096; act = act.Post 1 110 (record { service = 0; op = (109 ∷ 111 ∷ 114 ∷ 101 ∷ []); value = (node root.Void (field (115 ∷ 105 ∷ 100 ∷ []) (tree (node (root.Text (115 ∷ 49 ∷ [])) no_fields) no_trees) no_fields)) }) (answer.Accepted 111) } ∷
    record { actor = 4096; act = act.Post 1 111 (record { service = 0; op = (109 ∷ 111 ∷ 114 ∷ 101 ∷ []); value = (node root.Void (field (115 ∷ 105 ∷ 100 ∷ []) (tree (node (root.Text (115 ∷ 49 ∷ [])) no_fields) no_trees) no_fields)) }) (answer.Accepted 112) } ∷
    record { actor = 4096; act = act.Post 1 112 (record { service = 0; op = (109 ∷ 111 ∷ 114 ∷ 101 ∷ []); value = (node root.Void (field (115 ∷ 105 ∷ 100 ∷ []) (tree (node (root.Text (115 ∷ 49 ∷ [])) no_fields) no_trees) no_fields)) }) (answer.Accepted 113) } ∷
    record { actor = 4096; act = act.Post 1 113 (record { service = 0; op = (109 ∷ 111 ∷ 114 ∷ 101 ∷ []); value = (node root.Void (field (115 ∷ 105 ∷ 100 ∷ []) (tree (node (root.Text (115 ∷ 49 ∷ [])) no_fields) no_trees) no_fields)) }) (answer.Accepted 114) } ∷
    record { actor = 4096; act = act.Post 1 114 (record { service = 0; op = (109 ∷ 111 ∷ 114 ∷ 101 ∷ []); value = (node root.Void (field (115 ∷ 105 ∷ 100 ∷ []) (tree (node (root.Text (115 ∷ 49 ∷ [])) no_fields) no_trees) no_fields)) }) (answer.Accepted 115) } ∷
    record { actor = 4096; act = act.Post 1 115 (record { service = 0; op = (109 ∷ 111 ∷ 114 ∷ 101 ∷ []); value = (node root.Void (field (115 ∷ 105 ∷ 100 ∷ []) (tree (node (root.Text (115 ∷ 49 ∷ [])) no_fields) no_trees) no_fields)) }) (answer.Accepted 116) } ∷
    record { actor = 4096; act = act.Post 1 116 (record { service = 0; op = (109 ∷ 111 ∷ 114 ∷ 101 ∷ []); value = (node root.Void (field (115 ∷ 105 ∷ 100 ∷ []) (tree (node (root.Text (115 ∷ 49 ∷ [])) no_fields) no_trees) no_fields)) }) (answer.Accepted 117) } ∷
    record { actor = 4096; act = act.Post 1 117 (record { service = 0; op = (109 ∷ 111 ∷ 114 ∷ 101 ∷ []); value = (node root.Void (field (115 ∷ 105 ∷ 100 ∷ []) (tree (node (root.Text (115 ∷ 49 ∷ [])) no_fields) no_trees) no_fields)) }) (answer.Accepted 118) } ∷
    record { actor = 4096; act = act.Post 1 118 (record { service = 0; op = (109 ∷ 111 ∷ 114 ∷ 101 ∷ []); value = (node root.Void (field (115 ∷ 105 ∷ 100 ∷ []) (tree (node (root.Text (115 ∷ 49 ∷ [])) no_fields) no_trees) no_fields)) }) (answer.Accepted 119) } ∷
    record { actor = 4096; act = act.Post 1 119 (record { service = 0; op = (109 ∷ 111 ∷ 114 ∷ 101 ∷ []); value = (node root.Void (field (115 ∷ 105 ∷ 100 ∷ []) (tree (node (root.Text (115 ∷ 49 ∷ [])) no_fields) no_trees) no_fields)) }) (answer.Accepted 120) } ∷
    record { actor = 4096; act = act.Post 1 120 (record { service = 0; op = (109 ∷ 111 ∷ 114 ∷ 101 ∷ []); value = (node root.Void (field (115 ∷ 105 ∷ 100 ∷ []) (tree (node (root.Text (115 ∷ 49 ∷ [])) no_fields) no_trees) no_fields)) }) (answer.Accepted 121) } ∷
    record { actor = 4096; act = act.Post 1 121 (record { service = 0; op = (109 ∷ 111 ∷ 114 ∷ 101 ∷ []); value = (node root.Void (field (115 ∷ 105 ∷ 100 ∷ []) (tree (node (root.Text (115 ∷ 49 ∷ [])) no_fields) no_trees) no_fields)) }) (answer.Accepted 122) } ∷
    record { actor = 4096; act = act.Post 1 122 (record { service = 0; op = (109 ∷ 111 ∷ 114 ∷ 101 ∷ []); value = (node root.Void (field (115 ∷ 105 ∷ 100 ∷ []) (tree (node (root.Text (115 ∷ 49 ∷ [])) no_fields) no_trees) no_fields)) }) (answer.Accepted 123) } ∷
    record { actor = 4096; act = act.Post 1 123 (record { service = 0; op = (109 ∷ 111 ∷ 114 ∷ 101 ∷ []); value = (node root.Void (field (115 ∷ 105 ∷ 100 ∷ []) (tree (node (root.Text (115 ∷ 49 ∷ [])) no_fields) no_trees) no_fields)) }) (answer.Accepted 124) } ∷
    record { actor = 4096; act = act.Post 1 124 (record { service = 0; op = (109 ∷ 111 ∷ 114 ∷ 101 ∷ []); value = (node root.Void (field (115 ∷ 105 ∷ 100 ∷ []) (tree (node (root.Text (115 ∷ 49 ∷ [])) no_fields) no_trees) no_fields)) }) (answer.Accepted 125) } ∷
    record { actor = 4096; act = act.Post 1 125 (record { service = 0; op = (109 ∷ 111 ∷ 114 ∷ 101 ∷ []); value = (node root.Void (field (115 ∷ 105 ∷ 100 ∷ []) (tree (node (root.Text (115 ∷ 49 ∷ [])) no_fields) no_trees) no_fields)) }) (answer.Accepted 126) } ∷
    record { actor = 4096; act = act.Post 1 126 (record { service = 0; op = (109 ∷ 111 ∷ 114 ∷ 101 ∷ []); value = (node root.Void (field (115 ∷ 105 ∷ 100 ∷ []) (tree (node (root.Text (115 ∷ 49 ∷ [])) no_fields) no_trees) no_fields)) }) (answer.Accepted 127) } ∷
    record { actor = 4096; act = act.Post 1 127 (record { service = 0; op = (109 ∷ 111 ∷ 114 ∷ 101 ∷ []); value = (node root.Void (field (115 ∷ 105 ∷ 100 ∷ []) (tree (node (root.Text (115 ∷ 49 ∷ [])) no_fields) no_trees) no_fields)) }) (answer.Accepted 128) } ∷
    record { actor = 4096; act = act.Post 1 128 (record { service = 0; op = (109 ∷ 111 ∷ 114 ∷ 101 ∷ []); value = (node root.Void (field (115 ∷ 105 ∷ 100 ∷ []) (tree (node (root.Text (115 ∷ 49 ∷ [])) no_fields) no_trees) no_fields)) }) (answer.Accepted 129) } ∷
    record { actor = 4096; act = act.Post 1 129 (record { service = 0; op = (109 ∷ 111 ∷ 114 ∷ 101 ∷ []); value = (node root.Void (field (115 ∷ 105 ∷ 100 ∷ []) (tree (node (root.Text (115 ∷ 49 ∷ [])) no_fields) no_trees) no_fields)) }) (answer.Accepted 130) } ∷
    record { actor = 4096; act = act.Post 1 130 (record { service = 0; op = (109 ∷ 111 ∷ 114 ∷ 101 ∷ []); value = (node root.Void (field (115 ∷ 105 ∷ 100 ∷ []) (tree (node (root.Text (115 ∷ 49 ∷ [])) no_fields) no_trees) no_fields)) }) (answer.Accepted 131) } ∷
    record { actor = 4096; act = act.Post 1 131 (record { service = 0; op = (109 ∷ 111 ∷ 114 ∷ 101 ∷ []); value = (node root.Void (field (115 ∷ 105 ∷ 100 ∷ []) (tree (node (root.Text (115 ∷ 49 ∷ [])) no_fields) no_trees) no_fields)) }) (answer.Accepted 132) } ∷
    record { actor = 4096; act = act.Post 1 132 (record { service = 0; op = (109 ∷ 111 ∷ 114 ∷ 101 ∷ []); value = (node root.Void (field (115 ∷ 105 ∷ 100 ∷ []) (tree (node (root.Text (115 ∷ 49 ∷ [])) no_fields) no_trees) no_fields)) }) (answer.Accepted 133) } ∷
    record { actor = 4096; act = act.Post 1 133 (record { service = 0; op = (109 ∷ 111 ∷ 114 ∷ 101 ∷ []); value = (node root.Void (field (115 ∷ 105 ∷ 100 ∷ []) (tree (node (root.Text (115 ∷ 49 ∷ [])) no_fields) no_trees) no_fields)) }) (answer.Accepted 134) } ∷
    record { actor = 4096; act = act.Post 1 134 (record { service = 0; op = (109 ∷ 111 ∷ 114 ∷ 101 ∷ []); value = (node root.Void (field (115 ∷ 105 ∷ 100 ∷ []) (tree (node (root.Text (115 ∷ 49 ∷ [])) no_fields) no_trees) no_fields)) }) (answer.Accepted 135) } ∷
    record { actor = 4096; act = act.Post 1 135 (record { service = 0; op = (109 ∷ 111 ∷ 114 ∷ 101 ∷ []); value = (node root.Void (field (115 ∷ 105 ∷ 100 ∷ []) (tree (node (root.Text (115 ∷ 49 ∷ [])) no_fields) no_trees) no_fields)) }) (answer.Accepted 136) } ∷
    record { actor = 4096; act = act.Post 1 136 (record { service = 0; op = (109 ∷ 111 ∷ 114 ∷ 101 ∷ []); value = (node root.Void (field (115 ∷ 105 ∷ 100 ∷ []) (tree (node (root.Text (115 ∷ 49 ∷ [])) no_fields) no_trees) no_fields)) }) (answer.Accepted 137) } ∷
    record { actor = 4096; act = act.Post 1 137 (record { service = 0; op = (109 ∷ 111 ∷ 114 ∷ 101 ∷ []); value = (node root.Void (field (115 ∷ 105 ∷ 100 ∷ []) (tree (node (root.Text (115 ∷ 49 ∷ [])) no_fields) no_trees) no_fields)) }) (answer.Accepted 138) } ∷
    record { actor = 4096; act = act.Post 1 138 (record { service = 0; op = (109 ∷ 111 ∷ 114 ∷ 101 ∷ []); value = (node root.Void (field (115 ∷ 105 ∷ 100 ∷ []) (tree (node (root.Text (115 ∷ 49 ∷ [])) no_fields) no_trees) no_fields)) }) (answer.Accepted 139) } ∷
    record { actor = 4096; act = act.Post 1 139 (record { service = 0; op = (109 ∷ 111 ∷ 114 ∷ 101 ∷ []); value = (node root.Void (field (115 ∷ 105 ∷ 100 ∷ []) (tree (node (root.Text (115 ∷ 49 ∷ [])) no_fields) no_trees) no_fields)) }) (answer.Accepted 140) } ∷
    record { actor = 4096; act = act.Post 1 140 (record { service = 0; op = (109 ∷ 111 ∷ 114 ∷ 101 ∷ []); value = (node root.Void (field (115 ∷ 105 ∷ 100 ∷ []) (tree (node (root.Text (115 ∷ 49 ∷ [])) no_fields) no_trees) no_fields)) }) (answer.Accepted 141) } ∷
    record { actor = 4096; act = act.Post 1 141 (record { service = 0; op = (109 ∷ 111 ∷ 114 ∷ 101 ∷ []); value = (node root.Void (field (115 ∷ 105 ∷ 100 ∷ []) (tree (node (root.Text (115 ∷ 49 ∷ [])) no_fields) no_trees) no_fields)) }) (answer.Accepted 142) } ∷
    record { actor = 4096; act = act.Post 1 142 (record { service = 0; op = (109 ∷ 111 ∷ 114 ∷ 101 ∷ []); value = (node root.Void (field (115 ∷ 105 ∷ 100 ∷ []) (tree (node (root.Text (115 ∷ 49 ∷ [])) no_fields) no_trees) no_fields)) }) (answer.Accepted 143) } ∷
    record { actor = 4096; act = act.Post 1 143 (record { service = 0; op = (109 ∷ 111 ∷ 114 ∷ 101 ∷ []); value = (node root.Void (field (115 ∷ 105 ∷ 100 ∷ []) (tree (node (root.Text (115 ∷ 49 ∷ [])) no_fields) no_trees) no_fields)) }) (answer.Accepted 144) } ∷
    record { actor = 4096; act = act.Post 1 144 (record { service = 0; op = (109 ∷ 111 ∷ 114 ∷ 101 ∷ []); value = (node root.Void (field (115 ∷ 105 ∷ 100 ∷ []) (tree (node (root.Text (115 ∷ 49 ∷ [])) no_fields) no_trees) no_fields)) }) (answer.Accepted 145) } ∷
    record { actor = 4096; act = act.Post 1 145 (record { service = 0; op = (109 ∷ 111 ∷ 114 ∷ 101 ∷ []); value = (node root.Void (field (115 ∷ 105 ∷ 100 ∷ []) (tree (node (root.Text (115 ∷ 49 ∷ [])) no_fields) no_trees) no_fields)) }) (answer.Accepted 146) } ∷
    record { actor = 4096; act = act.Post 1 146 (record { service = 0; op = (109 ∷ 111 ∷ 114 ∷ 101 ∷ []); value = (node root.Void (field (115 ∷ 105 ∷ 100 ∷ []) (tree (node (root.Text (115 ∷ 49 ∷ [])) no_fields) no_trees) no_fields)) }) (answer.Accepted 147) } ∷
    record { actor = 4096; act = act.Post 1 147 (record { service = 0; op = (109 ∷ 111 ∷ 114 ∷ 101 ∷ []); value = (node root.Void (field (115 ∷ 105 ∷ 100 ∷ []) (tree (node (root.Text (115 ∷ 49 ∷ [])) no_fields) no_trees) no_fields)) }) (answer.Accepted 148) } ∷
    record { actor = 4096; act = act.Post 1 148 (record { service = 0; op = (109 ∷ 111 ∷ 114 ∷ 101 ∷ []); value = (node root.Void (field (115 ∷ 105 ∷ 100 ∷ []) (tree (node (root.Text (115 ∷ 49 ∷ [])) no_fields) no_trees) no_fields)) }) (answer.Accepted 149) } ∷
    record { actor = 4096; act = act.Post 1 149 (record { service = 0; op = (109 ∷ 111 ∷ 114 ∷ 101 ∷ []); value = (node root.Void (field (115 ∷ 105 ∷ 100 ∷ []) (tree (node (root.Text (115 ∷ 49 ∷ [])) no_fields) no_trees) no_fields)) }) (answer.Accepted 150) } ∷
    record { actor = 4096; act = act.Post 1 150 (record { service = 0; op = (109 ∷ 111 ∷ 114 ∷ 101 ∷ []); value = (node root.Void (field (115 ∷ 105 ∷ 100 ∷ []) (tree (node (root.Text (115 ∷ 49 ∷ [])) no_fields) no_trees) no_fields)) }) (answer.Accepted 151) } ∷
    record { actor = 4096; act = act.Post 1 151 (record { service = 0; op = (109 ∷ 111 ∷ 114 ∷ 101 ∷ []); value = (node root.Void (field (115 ∷ 105 ∷ 100 ∷ []) (tree (node (root.Text (115 ∷ 49 ∷ [])) no_fields) no_trees) no_fields)) }) (answer.Accepted 152) } ∷
    record { actor = 4096; act = act.Post 1 152 (record { service = 0; op = (109 ∷ 111 ∷ 114 ∷ 101 ∷ []); value = (node root.Void (field (115 ∷ 105 ∷ 100 ∷ []) (tree (node (root.Text (115 ∷ 49 ∷ [])) no_fields) no_trees) no_fields)) }) (answer.Accepted 153) } ∷
    record { actor = 4096; act = act.Post 1 153 (record { service = 0; op = (109 ∷ 111 ∷ 114 ∷ 101 ∷ []); value = (node root.Void (field (115 ∷ 105 ∷ 100 ∷ []) (tree (node (root.Text (115 ∷ 49 ∷ [])) no_fields) no_trees) no_fields)) }) (answer.Accepted 154) } ∷
    record { actor = 4096; act = act.Post 1 154 (record { service = 0; op = (109 ∷ 111 ∷ 114 ∷ 101 ∷ []); value = (node root.Void (field (115 ∷ 105 ∷ 100 ∷ []) (tree (node (root.Text (115 ∷ 49 ∷ [])) no_fields) no_trees) no_fields)) }) (answer.Accepted 155) } ∷
    record { actor = 4096; act = act.Post 1 155 (record { service = 0; op = (109 ∷ 111 ∷ 114 ∷ 101 ∷ []); value = (node root.Void (field (115 ∷ 105 ∷ 100 ∷ []) (tree (node (root.Text (115 ∷ 49 ∷ [])) no_fields) no_trees) no_fields)) }) (answer.Accepted 156) } ∷
    record { actor = 4096; act = act.Post 1 156 (record { service = 0; op = (109 ∷ 111 ∷ 114 ∷ 101 ∷ []); value = (node root.Void (field (115 ∷ 105 ∷ 100 ∷ []) (tree (node (root.Text (115 ∷ 49 ∷ [])) no_fields) no_trees) no_fields)) }) (answer.Accepted 157) } ∷
    record { actor = 4096; act = act.Post 1 157 (record { service = 0; op = (109 ∷ 111 ∷ 114 ∷ 101 ∷ []); value = (node root.Void (field (115 ∷ 105 ∷ 100 ∷ []) (tree (node (root.Text (115 ∷ 49 ∷ [])) no_fields) no_trees) no_fields)) }) (answer.Accepted 158) } ∷
    record { actor = 4096; act = act.Post 1 158 (record { service = 0; op = (109 ∷ 111 ∷ 114 ∷ 101 ∷ []); value = (node root.Void (field (115 ∷ 105 ∷ 100 ∷ []) (tree (node (root.Text (115 ∷ 49 ∷ [])) no_fields) no_trees) no_fields)) }) (answer.Accepted 159) } ∷
    record { actor = 4096; act = act.Post 1 159 (record { service = 0; op = (109 ∷ 111 ∷ 114 ∷ 101 ∷ []); value = (node root.Void (field (115 ∷ 105 ∷ 100 ∷ []) (tree (node (root.Text (115 ∷ 49 ∷ [])) no_fields) no_trees) no_fields)) }) (answer.Accepted 160) } ∷
    record { actor = 4096; act = act.Post 1 160 (record { service = 0; op = (109 ∷ 111 ∷ 114 ∷ 101 ∷ []); value = (node root.Void (field (115 ∷ 105 ∷ 100 ∷ []) (tree (node (root.Text (115 ∷ 49 ∷ [])) no_fields) no_trees) no_fields)) }) (answer.Accepted 161) } ∷
    record { actor = 4096; act = act.Post 1 161 (record { service = 0; op = (109 ∷ 111 ∷ 114 ∷ 101 ∷ []); value = (node root.Void (field (115 ∷ 105 ∷ 100 ∷ []) (tree (node (root.Text (115 ∷ 49 ∷ [])) no_fields) no_trees) no_fields)) }) (answer.Accepted 162) } ∷
    record { actor = 4096; act = act.Post 1 162 (record { service = 0; op = (109 ∷ 111 ∷ 114 ∷ 101 ∷ []); value = (node root.Void (field (115 ∷ 105 ∷ 100 ∷ []) (tree (node (root.Text (115 ∷ 49 ∷ [])) no_fields) no_trees) no_fields)) }) (answer.Accepted 163) } ∷
    record { actor = 4096; act = act.Post 1 163 (record { service = 0; op = (109 ∷ 111 ∷ 114 ∷ 101 ∷ []); value = (node root.Void (field (115 ∷ 105 ∷ 100 ∷ []) (tree (node (root.Text (115 ∷ 49 ∷ [])) no_fields) no_trees) no_fields)) }) (answer.Accepted 164) } ∷
    record { actor = 4096; act = act.Post 1 164 (record { service = 0; op = (109 ∷ 111 ∷ 114 ∷ 101 ∷ []); value = (node root.Void (field (115 ∷ 105 ∷ 100 ∷ []) (tree (node (root.Text (115 ∷ 49 ∷ [])) no_fields) no_trees) no_fields)) }) (answer.Accepted 165) } ∷
    record { actor = 4096; act = act.Post 1 165 (record { service = 0; op = (109 ∷ 111 ∷ 114 ∷ 101 ∷ []); value = (node root.Void (field (115 ∷ 105 ∷ 100 ∷ []) (tree (node (root.Text (115 ∷ 49 ∷ [])) no_fields) no_trees) no_fields)) }) (answer.Accepted 166) } ∷
    record { actor = 4096; act = act.Post 1 166 (record { service = 0; op = (109 ∷ 111 ∷ 114 ∷ 101 ∷ []); value = (node root.Void (field (115 ∷ 105 ∷ 100 ∷ []) (tree (node (root.Text (115 ∷ 49 ∷ [])) no_fields) no_trees) no_fields)) }) (answer.Accepted 167) } ∷
    record { actor = 4096; act = act.Post 1 167 (record { service = 0; op = (109 ∷ 111 ∷ 114 ∷ 101 ∷ []); value = (node root.Void (field (115 ∷ 105 ∷ 100 ∷ []) (tree (node (root.Text (115 ∷ 49 ∷ [])) no_fields) no_trees) no_fields)) }) (answer.Accepted 168) } ∷
    record { actor = 4096; act = act.Post 1 168 (record { service = 0; op = (109 ∷ 111 ∷ 114 ∷ 101 ∷ []); value = (node root.Void (field (115 ∷ 105 ∷ 100 ∷ []) (tree (node (root.Text (115 ∷ 49 ∷ [])) no_fields) no_trees) no_fields)) }) (answer.Accepted 169) } ∷
    record { actor = 4096; act = act.Post 1 169 (record { service = 0; op = (109 ∷ 111 ∷ 114 ∷ 101 ∷ []); value = (node root.Void (field (115 ∷ 105 ∷ 100 ∷ []) (tree (node (root.Text (115 ∷ 49 ∷ [])) no_fields) no_trees) no_fields)) }) (answer.Accepted 170) } ∷
    record { actor = 4096; act = act.Post 1 170 (record { service = 0; op = (109 ∷ 111 ∷ 114 ∷ 101 ∷ []); value = (node root.Void (field (115 ∷ 105 ∷ 100 ∷ []) (tree (node (root.Text (115 ∷ 49 ∷ [])) no_fields) no_trees) no_fields)) }) (answer.Accepted 171) } ∷
    record { actor = 4096; act = act.Post 1 171 (record { service = 0; op = (109 ∷ 111 ∷ 114 ∷ 101 ∷ []); value = (node root.Void (field (115 ∷ 105 ∷ 100 ∷ []) (tree (node (root.Text (115 ∷ 49 ∷ [])) no_fields) no_trees) no_fields)) }) (answer.Accepted 172) } ∷
    record { actor = 4096; act = act.Post 1 172 (record { service = 0; op = (109 ∷ 111 ∷ 114 ∷ 101 ∷ []); value = (node root.Void (field (115 ∷ 105 ∷ 100 ∷ []) (tree (node (root.Text (115 ∷ 49 ∷ [])) no_fields) no_trees) no_fields)) }) (answer.Accepted 173) } ∷
    record { actor = 4096; act = act.Post 1 173 (record { service = 0; op = (109 ∷ 111 ∷ 114 ∷ 101 ∷ []); value = (node root.Void (field (115 ∷ 105 ∷ 100 ∷ []) (tree (node (root.Text (115 ∷ 49 ∷ [])) no_fields) no_trees) no_fields)) }) (answer.Accepted 174) } ∷
    record { actor = 4096; act = act.Post 1 174 (record { service = 0; op = (109 ∷ 111 ∷ 114 ∷ 101 ∷ []); value = (node root.Void (field (115 ∷ 105 ∷ 100 ∷ []) (tree (node (root.Text (115 ∷ 49 ∷ [])) no_fields) no_trees) no_fields)) }) (answer.Accepted 175) } ∷
    record { actor = 4096; act = act.Post 1 175 (record { service = 0; op = (109 ∷ 111 ∷ 114 ∷ 101 ∷ []); value = (node root.Void (field (115 ∷ 105 ∷ 100 ∷ []) (tree (node (root.Text (115 ∷ 49 ∷ [])) no_fields) no_trees) no_fields)) }) (answer.Accepted 176) } ∷
    record { actor = 4096; act = act.Post 1 176 (record { service = 0; op = (109 ∷ 111 ∷ 114 ∷ 101 ∷ []); value = (node root.Void (field (115 ∷ 105 ∷ 100 ∷ []) (tree (node (root.Text (115 ∷ 49 ∷ [])) no_fields) no_trees) no_fields)) }) (answer.Accepted 177) } ∷
    record { actor = 4096; act = act.Post 1 177 (record { service = 0; op = (109 ∷ 111 ∷ 114 ∷ 101 ∷ []); value = (node root.Void (field (115 ∷ 105 ∷ 100 ∷ []) (tree (node (root.Text (115 ∷ 49 ∷ [])) no_fields) no_trees) no_fields)) }) (answer.Accepted 178) } ∷
    record { actor = 4096; act = act.Post 1 178 (record { service = 0; op = (109 ∷ 111 ∷ 114 ∷ 101 ∷ []); value = (node root.Void (field (115 ∷ 105 ∷ 100 ∷ []) (tree (node (root.Text (115 ∷ 49 ∷ [])) no_fields) no_trees) no_fields)) }) (answer.Accepted 179) } ∷
    record { actor = 4096; act = act.Post 1 179 (record { service = 0; op = (109 ∷ 111 ∷ 114 ∷ 101 ∷ []); value = (node root.Void (field (115 ∷ 105 ∷ 100 ∷ []) (tree (node (root.Text (115 ∷ 49 ∷ [])) no_fields) no_trees) no_fields)) }) (answer.Accepted 180) } ∷
    record { actor = 4096; act = act.Post 1 180 (record { service = 0; op = (109 ∷ 111 ∷ 114 ∷ 101 ∷ []); value = (node root.Void (field (115 ∷ 105 ∷ 100 ∷ []) (tree (node (root.Text (115 ∷ 49 ∷ [])) no_fields) no_trees) no_fields)) }) (answer.Accepted 181) } ∷
    record { actor = 4096; act = act.Post 1 181 (record { service = 0; op = (109 ∷ 111 ∷ 114 ∷ 101 ∷ []); value = (node root.Void (field (115 ∷ 105 ∷ 100 ∷ []) (tree (node (root.Text (115 ∷ 49 ∷ [])) no_fields) no_trees) no_fields)) }) (answer.Accepted 182) } ∷
    record { actor = 4096; act = act.Post 1 182 (record { service = 0; op = (109 ∷ 111 ∷ 114 ∷ 101 ∷ []); value = (node root.Void (field (115 ∷ 105 ∷ 100 ∷ []) (tree (node (root.Text (115 ∷ 49 ∷ [])) no_fields) no_trees) no_fields)) }) (answer.Accepted 183) } ∷
    record { actor = 4096; act = act.Post 1 183 (record { service = 0; op = (109 ∷ 111 ∷ 114 ∷ 101 ∷ []); value = (node root.Void (field (115 ∷ 105 ∷ 100 ∷ []) (tree (node (root.Text (115 ∷ 49 ∷ [])) no_fields) no_trees) no_fields)) }) (answer.Accepted 184) } ∷
    record { actor = 4096; act = act.Post 1 184 (record { service = 0; op = (109 ∷ 111 ∷ 114 ∷ 101 ∷ []); value = (node root.Void (field (115 ∷ 105 ∷ 100 ∷ []) (tree (node (root.Text (115 ∷ 49 ∷ [])) no_fields) no_trees) no_fields)) }) (answer.Accepted 185) } ∷
    record { actor = 4096; act = act.Post 1 185 (record { service = 0; op = (109 ∷ 111 ∷ 114 ∷ 101 ∷ []); value = (node root.Void (field (115 ∷ 105 ∷ 100 ∷ []) (tree (node (root.Text (115 ∷ 49 ∷ [])) no_fields) no_trees) no_fields)) }) (answer.Accepted 186) } ∷
    record { actor = 4096; act = act.Post 1 186 (record { service = 0; op = (109 ∷ 111 ∷ 114 ∷ 101 ∷ []); value = (node root.Void (field (115 ∷ 105 ∷ 100 ∷ []) (tree (node (root.Text (115 ∷ 49 ∷ [])) no_fields) no_trees) no_fields)) }) (answer.Accepted 187) } ∷
    record { actor = 4096; act = act.Post 1 187 (record { service = 0; op = (109 ∷ 111 ∷ 114 ∷ 101 ∷ []); value = (node root.Void (field (115 ∷ 105 ∷ 100 ∷ []) (tree (node (root.Text (115 ∷ 49 ∷ [])) no_fields) no_trees) no_fields)) }) (answer.Accepted 188) } ∷
    record { actor = 4096; act = act.Post 1 188 (record { service = 0; op = (109 ∷ 111 ∷ 114 ∷ 101 ∷ []); value = (node root.Void (field (115 ∷ 105 ∷ 100 ∷ []) (tree (node (root.Text (115 ∷ 49 ∷ [])) no_fields) no_trees) no_fields)) }) (answer.Accepted 189) } ∷
    record { actor = 4096; act = act.Post 1 189 (record { service = 0; op = (109 ∷ 111 ∷ 114 ∷ 101 ∷ []); value = (node root.Void (field (115 ∷ 105 ∷ 100 ∷ []) (tree (node (root.Text (115 ∷ 49 ∷ [])) no_fields) no_trees) no_fields)) }) (answer.Accepted 190) } ∷
    record { actor = 4096; act = act.Post 1 190 (record { service = 0; op = (109 ∷ 111 ∷ 114 ∷ 101 ∷ []); value = (node root.Void (field (115 ∷ 105 ∷ 100 ∷ []) (tree (node (root.Text (115 ∷ 49 ∷ [])) no_fields) no_trees) no_fields)) }) (answer.Accepted 191) } ∷
    record { actor = 4096; act = act.Post 1 191 (record { service = 0; op = (109 ∷ 111 ∷ 114 ∷ 101 ∷ []); value = (node root.Void (field (115 ∷ 105 ∷ 100 ∷ []) (tree (node (root.Text (115 ∷ 49 ∷ [])) no_fields) no_trees) no_fields)) }) (answer.Accepted 192) } ∷
    record { actor = 4096; act = act.Post 1 192 (record { service = 0; op = (109 ∷ 111 ∷ 114 ∷ 101 ∷ []); value = (node root.Void (field (115 ∷ 105 ∷ 100 ∷ []) (tree (node (root.Text (115 ∷ 49 ∷ [])) no_fields) no_trees) no_fields)) }) (answer.Accepted 193) } ∷
    record { actor = 4096; act = act.Post 1 193 (record { service = 0; op = (109 ∷ 111 ∷ 114 ∷ 101 ∷ []); value = (node root.Void (field (115 ∷ 105 ∷ 100 ∷ []) (tree (node (root.Text (115 ∷ 49 ∷ [])) no_fields) no_trees) no_fields)) }) (answer.Accepted 194) } ∷
    record { actor = 4096; act = act.Post 1 194 (record { service = 0; op = (109 ∷ 111 ∷ 114 ∷ 101 ∷ []); value = (node root.Void (field (115 ∷ 105 ∷ 100 ∷ []) (tree (node (root.Text (115 ∷ 49 ∷ [])) no_fields) no_trees) no_fields)) }) (answer.Accepted 195) } ∷
    record { actor = 4096; act = act.Post 1 195 (record { service = 0; op = (109 ∷ 111 ∷ 114 ∷ 101 ∷ []); value = (node root.Void (field (115 ∷ 105 ∷ 100 ∷ []) (tree (node (root.Text (115 ∷ 49 ∷ [])) no_fields) no_trees) no_fields)) }) (answer.Accepted 196) } ∷
    record { actor = 4096; act = act.Post 1 196 (record { service = 0; op = (109 ∷ 111 ∷ 114 ∷ 101 ∷ []); value = (node root.Void (field (115 ∷ 105 ∷ 100 ∷ []) (tree (node (root.Text (115 ∷ 49 ∷ [])) no_fields) no_trees) no_fields)) }) (answer.Accepted 197) } ∷
    record { actor = 4096; act = act.Post 1 197 (record { service = 0; op = (109 ∷ 111 ∷ 114 ∷ 101 ∷ []); value = (node root.Void (field (115 ∷ 105 ∷ 100 ∷ []) (tree (node (root.Text (115 ∷ 49 ∷ [])) no_fields) no_trees) no_fields)) }) (answer.Accepted 198) } ∷
    record { actor = 4096; act = act.Post 1 198 (record { service = 0; op = (109 ∷ 111 ∷ 114 ∷ 101 ∷ []); value = (node root.Void (field (115 ∷ 105 ∷ 100 ∷ []) (tree (node (root.Text (115 ∷ 49 ∷ [])) no_fields) no_trees) no_fields)) }) (answer.Accepted 199) } ∷
    record { actor = 4096; act = act.Post 1 199 (record { service = 0; op = (109 ∷ 111 ∷ 114 ∷ 101 ∷ []); value = (node root.Void (field (115 ∷ 105 ∷ 100 ∷ []) (tree (node (root.Text (115 ∷ 49 ∷ [])) no_fields) no_trees) no_fields)) }) (answer.Accepted 200) } ∷
    record { actor = 4096; act = act.Post 1 200 (record { service = 0; op = (109 ∷ 111 ∷ 114 ∷ 101 ∷ []); value = (node root.Void (field (115 ∷ 105 ∷ 100 ∷ []) (tree (node (root.Text (115 ∷ 49 ∷ [])) no_fields) no_trees) no_fields)) }) (answer.Accepted 201) } ∷
    record { actor = 4096; act = act.Post 1 201 (record { service = 0; op = (109 ∷ 111 ∷ 114 ∷ 101 ∷ []); value = (node root.Void (field (115 ∷ 105 ∷ 100 ∷ []) (tree (node (root.Text (115 ∷ 49 ∷ [])) no_fields) no_trees) no_fields)) }) (answer.Accepted 202) } ∷
    record { actor = 4096; act = act.Post 1 202 (record { service = 0; op = (109 ∷ 111 ∷ 114 ∷ 101 ∷ []); value = (node root.Void (field (115 ∷ 105 ∷ 100 ∷ []) (tree (node (root.Text (115 ∷ 49 ∷ [])) no_fields) no_trees) no_fields)) }) (answer.Accepted 203) } ∷
    record { actor = 4096; act = act.Post 1 203 (record { service = 0; op = (109 ∷ 111 ∷ 114 ∷ 101 ∷ []); value = (node root.Void (field (115 ∷ 105 ∷ 100 ∷ []) (tree (node (root.Text (115 ∷ 49 ∷ [])) no_fields) no_trees) no_fields)) }) (answer.Accepted 204) } ∷
    record { actor = 4096; act = act.Post 1 204 (record { service = 0; op = (109 ∷ 111 ∷ 114 ∷ 101 ∷ []); value = (node root.Void (field (115 ∷ 105 ∷ 100 ∷ []) (tree (node (root.Text (115 ∷ 49 ∷ [])) no_fields) no_trees) no_fields)) }) (answer.Accepted 205) } ∷
    record { actor = 4096; act = act.Post 1 205 (record { service = 0; op = (109 ∷ 111 ∷ 114 ∷ 101 ∷ []); value = (node root.Void (field (115 ∷ 105 ∷ 100 ∷ []) (tree (node (root.Text (115 ∷ 49 ∷ [])) no_fields) no_trees) no_fields)) }) (answer.Accepted 206) } ∷
    record { actor = 4096; act = act.Post 1 206 (record { service = 0; op = (109 ∷ 111 ∷ 114 ∷ 101 ∷ []); value = (node root.Void (field (115 ∷ 105 ∷ 100 ∷ []) (tree (node (root.Text (115 ∷ 49 ∷ [])) no_fields) no_trees) no_fields)) }) (answer.Accepted 207) } ∷
    record { actor = 4096; act = act.Post 1 207 (record { service = 0; op = (109 ∷ 111 ∷ 114 ∷ 101 ∷ []); value = (node root.Void (field (115 ∷ 105 ∷ 100 ∷ []) (tree (node (root.Text (115 ∷ 49 ∷ [])) no_fields) no_trees) no_fields)) }) (answer.Accepted 208) } ∷
    record { actor = 4096; act = act.Post 1 208 (record { service = 0; op = (109 ∷ 111 ∷ 114 ∷ 101 ∷ []); value = (node root.Void (field (115 ∷ 105 ∷ 100 ∷ []) (tree (node (root.Text (115 ∷ 49 ∷ [])) no_fields) no_trees) no_fields)) }) (answer.Accepted 209) } ∷
    record { actor = 4096; act = act.Post 1 209 (record { service = 0; op = (109 ∷ 111 ∷ 114 ∷ 101 ∷ []); value = (node root.Void (field (115 ∷ 105 ∷ 100 ∷ []) (tree (node (root.Text (115 ∷ 49 ∷ [])) no_fields) no_trees) no_fields)) }) (answer.Accepted 210) } ∷
    record { actor = 4096; act = act.Post 1 210 (record { service = 0; op = (109 ∷ 111 ∷ 114 ∷ 101 ∷ []); value = (node root.Void (field (115 ∷ 105 ∷ 100 ∷ []) (tree (node (root.Text (115 ∷ 49 ∷ [])) no_fields) no_trees) no_fields)) }) (answer.Accepted 211) } ∷
    record { actor = 4096; act = act.Post 1 211 (record { service = 0; op = (109 ∷ 111 ∷ 114 ∷ 101 ∷ []); value = (node root.Void (field (115 ∷ 105 ∷ 100 ∷ []) (tree (node (root.Text (115 ∷ 49 ∷ [])) no_fields) no_trees) no_fields)) }) (answer.Accepted 212) } ∷
    record { actor = 4096; act = act.Post 1 212 (record { service = 0; op = (109 ∷ 111 ∷ 114 ∷ 101 ∷ []); value = (node root.Void (field (115 ∷ 105 ∷ 100 ∷ []) (tree (node (root.Text (115 ∷ 49 ∷ [])) no_fields) no_trees) no_fields)) }) (answer.Accepted 213) } ∷
    record { actor = 4096; act = act.Post 1 213 (record { service = 0; op = (109 ∷ 111 ∷ 114 ∷ 101 ∷ []); value = (node root.Void (field (115 ∷ 105 ∷ 100 ∷ []) (tree (node (root.Text (115 ∷ 49 ∷ [])) no_fields) no_trees) no_fields)) }) (answer.Accepted 214) } ∷
    record { actor = 4096; act = act.Post 1 214 (record { service = 0; op = (109 ∷ 111 ∷ 114 ∷ 101 ∷ []); value = (node root.Void (field (115 ∷ 105 ∷ 100 ∷ []) (tree (node (root.Text (115 ∷ 49 ∷ [])) no_fields) no_trees) no_fields)) }) (answer.Accepted 215) } ∷
    record { actor = 4096; act = act.Post 1 215 (record { service = 0; op = (109 ∷ 111 ∷ 114 ∷ 101 ∷ []); value = (node root.Void (field (115 ∷ 105 ∷ 100 ∷ []) (tree (node (root.Text (115 ∷ 49 ∷ [])) no_fields) no_trees) no_fields)) }) (answer.Accepted 216) } ∷
    record { actor = 4096; act = act.Post 1 216 (record { service = 0; op = (109 ∷ 111 ∷ 114 ∷ 101 ∷ []); value = (node root.Void (field (115 ∷ 105 ∷ 100 ∷ []) (tree (node (root.Text (115 ∷ 49 ∷ [])) no_fields) no_trees) no_fields)) }) (answer.Accepted 217) } ∷
    record { actor = 4096; act = act.Post 1 217 (record { service = 0; op = (109 ∷ 111 ∷ 114 ∷ 101 ∷ []); value = (node root.Void (field (115 ∷ 105 ∷ 100 ∷ []) (tree (node (root.Text (115 ∷ 49 ∷ [])) no_fields) no_trees) no_fields)) }) (answer.Accepted 218) } ∷
    record { actor = 4096; act = act.Post 1 218 (record { service = 0; op = (109 ∷ 111 ∷ 114 ∷ 101 ∷ []); value = (node root.Void (field (115 ∷ 105 ∷ 100 ∷ []) (tree (node (root.Text (115 ∷ 49 ∷ [])) no_fields) no_trees) no_fields)) }) (answer.Accepted 219) } ∷
    record { actor = 4096; act = act.Post 1 219 (record { service = 0; op = (109 ∷ 111 ∷ 114 ∷ 101 ∷ []); value = (node root.Void (field (115 ∷ 105 ∷ 100 ∷ []) (tree (node (root.Text (115 ∷ 49 ∷ [])) no_fields) no_trees) no_fields)) }) (answer.Accepted 220) } ∷
    record { actor = 4096; act = act.Post 1 220 (record { service = 0; op = (109 ∷ 111 ∷ 114 ∷ 101 ∷ []); value = (node root.Void (field (115 ∷ 105 ∷ 100 ∷ []) (tree (node (root.Text (115 ∷ 49 ∷ [])) no_fields) no_trees) no_fields)) }) (answer.Accepted 221) } ∷
    record { actor = 4096; act = act.Post 1 221 (record { service = 0; op = (109 ∷ 111 ∷ 114 ∷ 101 ∷ []); value = (node root.Void (field (115 ∷ 105 ∷ 100 ∷ []) (tree (node (root.Text (115 ∷ 49 ∷ [])) no_fields) no_trees) no_fields)) }) (answer.Accepted 222) } ∷
    record { actor = 4096; act = act.Post 1 222 (record { service = 0; op = (109 ∷ 111 ∷ 114 ∷ 101 ∷ []); value = (node root.Void (field (115 ∷ 105 ∷ 100 ∷ []) (tree (node (root.Text (115 ∷ 49 ∷ [])) no_fields) no_trees) no_fields)) }) (answer.Accepted 223) } ∷
    record { actor = 4096; act = act.Post 1 223 (record { service = 0; op = (109 ∷ 111 ∷ 114 ∷ 101 ∷ []); value = (node root.Void (field (115 ∷ 105 ∷ 100 ∷ []) (tree (node (root.Text (115 ∷ 49 ∷ [])) no_fields) no_trees) no_fields)) }) (answer.Accepted 224) } ∷
    record { actor = 4096; act = act.Post 1 224 (record { service = 0; op = (109 ∷ 111 ∷ 114 ∷ 101 ∷ []); value = (node root.Void (field (115 ∷ 105 ∷ 100 ∷ []) (tree (node (root.Text (115 ∷ 49 ∷ [])) no_fields) no_trees) no_fields)) }) (answer.Accepted 225) } ∷
    record { actor = 4096; act = act.Post 1 225 (record { service = 0; op = (109 ∷ 111 ∷ 114 ∷ 101 ∷ []); value = (node root.Void (field (115 ∷ 105 ∷ 100 ∷ []) (tree (node (root.Text (115 ∷ 49 ∷ [])) no_fields) no_trees) no_fields)) }) (answer.Accepted 226) } ∷
    record { actor = 4096; act = act.Post 1 226 (record { service = 0; op = (109 ∷ 111 ∷ 114 ∷ 101 ∷ []); value = (node root.Void (field (115 ∷ 105 ∷ 100 ∷ []) (tree (node (root.Text (115 ∷ 49 ∷ [])) no_fields) no_trees) no_fields)) }) (answer.Accepted 227) } ∷
    record { actor = 4096; act = act.Post 1 227 (record { service = 0; op = (109 ∷ 111 ∷ 114 ∷ 101 ∷ []); value = (node root.Void (field (115 ∷ 105 ∷ 100 ∷ []) (tree (node (root.Text (115 ∷ 49 ∷ [])) no_fields) no_trees) no_fields)) }) (answer.Accepted 228) } ∷
    record { actor = 4096; act = act.Post 1 228 (record { service = 0; op = (109 ∷ 111 ∷ 114 ∷ 101 ∷ []); value = (node root.Void (field (115 ∷ 105 ∷ 100 ∷ []) (tree (node (root.Text (115 ∷ 49 ∷ [])) no_fields) no_trees) no_fields)) }) (answer.Accepted 229) } ∷
    record { actor = 4096; act = act.Post 1 229 (record { service = 0; op = (109 ∷ 111 ∷ 114 ∷ 101 ∷ []); value = (node root.Void (field (115 ∷ 105 ∷ 100 ∷ []) (tree (node (root.Text (115 ∷ 49 ∷ [])) no_fields) no_trees) no_fields)) }) (answer.Accepted 230) } ∷
    record { actor = 4096; act = act.Post 1 230 (record { service = 0; op = (109 ∷ 111 ∷ 114 ∷ 101 ∷ []); value = (node root.Void (field (115 ∷ 105 ∷ 100 ∷ []) (tree (node (root.Text (115 ∷ 49 ∷ [])) no_fields) no_trees) no_fields)) }) (answer.Accepted 231) } ∷
    record { actor = 4096; act = act.Post 1 231 (record { service = 0; op = (109 ∷ 111 ∷ 114 ∷ 101 ∷ []); value = (node root.Void (field (115 ∷ 105 ∷ 100 ∷ []) (tree (node (root.Text (115 ∷ 49 ∷ [])) no_fields) no_trees) no_fields)) }) (answer.Accepted 232) } ∷
    record { actor = 4096; act = act.Post 1 232 (record { service = 0; op = (109 ∷ 111 ∷ 114 ∷ 101 ∷ []); value = (node root.Void (field (115 ∷ 105 ∷ 100 ∷ []) (tree (node (root.Text (115 ∷ 49 ∷ [])) no_fields) no_trees) no_fields)) }) (answer.Accepted 233) } ∷
    record { actor = 4096; act = act.Post 1 233 (record { service = 0; op = (109 ∷ 111 ∷ 114 ∷ 101 ∷ []); value = (node root.Void (field (115 ∷ 105 ∷ 100 ∷ []) (tree (node (root.Text (115 ∷ 49 ∷ [])) no_fields) no_trees) no_fields)) }) (answer.Accepted 234) } ∷
    record { actor = 4096; act = act.Post 1 234 (record { service = 0; op = (109 ∷ 111 ∷ 114 ∷ 101 ∷ []); value = (node root.Void (field (115 ∷ 105 ∷ 100 ∷ []) (tree (node (root.Text (115 ∷ 49 ∷ [])) no_fields) no_trees) no_fields)) }) (answer.Accepted 235) } ∷
    record { actor = 4096; act = act.Post 1 235 (record { service = 0; op = (109 ∷ 111 ∷ 114 ∷ 101 ∷ []); value = (node root.Void (field (115 ∷ 105 ∷ 100 ∷ []) (tree (node (root.Text (115 ∷ 49 ∷ [])) no_fields) no_trees) no_fields)) }) (answer.Accepted 236) } ∷
    record { actor = 4096; act = act.Post 1 236 (record { service = 0; op = (109 ∷ 111 ∷ 114 ∷ 101 ∷ []); value = (node root.Void (field (115 ∷ 105 ∷ 100 ∷ []) (tree (node (root.Text (115 ∷ 49 ∷ [])) no_fields) no_trees) no_fields)) }) (answer.Accepted 237) } ∷
    record { actor = 4096; act = act.Post 1 237 (record { service = 0; op = (109 ∷ 111 ∷ 114 ∷ 101 ∷ []); value = (node root.Void (field (115 ∷ 105 ∷ 100 ∷ []) (tree (node (root.Text (115 ∷ 49 ∷ [])) no_fields) no_trees) no_fields)) }) (answer.Accepted 238) } ∷
    record { actor = 4096; act = act.Post 1 238 (record { service = 0; op = (109 ∷ 111 ∷ 114 ∷ 101 ∷ []); value = (node root.Void (field (115 ∷ 105 ∷ 100 ∷ []) (tree (node (root.Text (115 ∷ 49 ∷ [])) no_fields) no_trees) no_fields)) }) (answer.Accepted 239) } ∷
    record { actor = 4096; act = act.Post 1 239 (record { service = 0; op = (109 ∷ 111 ∷ 114 ∷ 101 ∷ []); value = (node root.Void (field (115 ∷ 105 ∷ 100 ∷ []) (tree (node (root.Text (115 ∷ 49 ∷ [])) no_fields) no_trees) no_fields)) }) (answer.Accepted 240) } ∷
    record { actor = 4096; act = act.Post 1 240 (record { service = 0; op = (109 ∷ 111 ∷ 114 ∷ 101 ∷ []); value = (node root.Void (field (115 ∷ 105 ∷ 100 ∷ []) (tree (node (root.Text (115 ∷ 49 ∷ [])) no_fields) no_trees) no_fields)) }) (answer.Accepted 241) } ∷
    record { actor = 4096; act = act.Post 1 241 (record { service = 0; op = (109 ∷ 111 ∷ 114 ∷ 101 ∷ []); value = (node root.Void (field (115 ∷ 105 ∷ 100 ∷ []) (tree (node (root.Text (115 ∷ 49 ∷ [])) no_fields) no_trees) no_fields)) }) (answer.Accepted 242) } ∷
    record { actor = 4096; act = act.Post 1 242 (record { service = 0; op = (109 ∷ 111 ∷ 114 ∷ 101 ∷ []); value = (node root.Void (field (115 ∷ 105 ∷ 100 ∷ []) (tree (node (root.Text (115 ∷ 49 ∷ [])) no_fields) no_trees) no_fields)) }) (answer.Accepted 243) } ∷
    record { actor = 4096; act = act.Post 1 243 (record { service = 0; op = (109 ∷ 111 ∷ 114 ∷ 101 ∷ []); value = (node root.Void (field (115 ∷ 105 ∷ 100 ∷ []) (tree (node (root.Text (115 ∷ 49 ∷ [])) no_fields) no_trees) no_fields)) }) (answer.Accepted 244) } ∷
    record { actor = 4096; act = act.Post 1 244 (record { service = 0; op = (109 ∷ 111 ∷ 114 ∷ 101 ∷ []); value = (node root.Void (field (115 ∷ 105 ∷ 100 ∷ []) (tree (node (root.Text (115 ∷ 49 ∷ [])) no_fields) no_trees) no_fields)) }) (answer.Accepted 245) } ∷
    record { actor = 4096; act = act.Post 1 245 (record { service = 0; op = (109 ∷ 111 ∷ 114 ∷ 101 ∷ []); value = (node root.Void (field (115 ∷ 105 ∷ 100 ∷ []) (tree (node (root.Text (115 ∷ 49 ∷ [])) no_fields) no_trees) no_fields)) }) (answer.Accepted 246) } ∷
    record { actor = 4096; act = act.Post 1 246 (record { service = 0; op = (109 ∷ 111 ∷ 114 ∷ 101 ∷ []); value = (node root.Void (field (115 ∷ 105 ∷ 100 ∷ []) (tree (node (root.Text (115 ∷ 49 ∷ [])) no_fields) no_trees) no_fields)) }) (answer.Accepted 247) } ∷
    record { actor = 4096; act = act.Post 1 247 (record { service = 0; op = (109 ∷ 111 ∷ 114 ∷ 101 ∷ []); value = (node root.Void (field (115 ∷ 105 ∷ 100 ∷ []) (tree (node (root.Text (115 ∷ 49 ∷ [])) no_fields) no_trees) no_fields)) }) (answer.Accepted 248) } ∷
    record { actor = 4096; act = act.Post 1 248 (record { service = 0; op = (109 ∷ 111 ∷ 114 ∷ 101 ∷ []); value = (node root.Void (field (115 ∷ 105 ∷ 100 ∷ []) (tree (node (root.Text (115 ∷ 49 ∷ [])) no_fields) no_trees) no_fields)) }) (answer.Accepted 249) } ∷
    record { actor = 4096; act = act.Post 1 249 (record { service = 0; op = (109 ∷ 111 ∷ 114 ∷ 101 ∷ []); value = (node root.Void (field (115 ∷ 105 ∷ 100 ∷ []) (tree (node (root.Text (115 ∷ 49 ∷ [])) no_fields) no_trees) no_fields)) }) (answer.Accepted 250) } ∷
    record { actor = 4096; act = act.Post 1 250 (record { service = 0; op = (109 ∷ 111 ∷ 114 ∷ 101 ∷ []); value = (node root.Void (field (115 ∷ 105 ∷ 100 ∷ []) (tree (node (root.Text (115 ∷ 49 ∷ [])) no_fields) no_trees) no_fields)) }) (answer.Accepted 251) } ∷
    record { actor = 4096; act = act.Post 1 251 (record { service = 0; op = (109 ∷ 111 ∷ 114 ∷ 101 ∷ []); value = (node root.Void (field (115 ∷ 105 ∷ 100 ∷ []) (tree (node (root.Text (115 ∷ 49 ∷ [])) no_fields) no_trees) no_fields)) }) (answer.Accepted 252) } ∷
    record { actor = 4096; act = act.Post 1 252 (record { service = 0; op = (109 ∷ 111 ∷ 114 ∷ 101 ∷ []); value = (node root.Void (field (115 ∷ 105 ∷ 100 ∷ []) (tree (node (root.Text (115 ∷ 49 ∷ [])) no_fields) no_trees) no_fields)) }) (answer.Accepted 253) } ∷
    record { actor = 4096; act = act.Post 1 253 (record { service = 0; op = (109 ∷ 111 ∷ 114 ∷ 101 ∷ []); value = (node root.Void (field (115 ∷ 105 ∷ 100 ∷ []) (tree (node (root.Text (115 ∷ 49 ∷ [])) no_fields) no_trees) no_fields)) }) (answer.Accepted 254) } ∷
    record { actor = 4096; act = act.Post 1 254 (record { service = 0; op = (109 ∷ 111 ∷ 114 ∷ 101 ∷ []); value = (node root.Void (field (115 ∷ 105 ∷ 100 ∷ []) (tree (node (root.Text (115 ∷ 49 ∷ [])) no_fields) no_trees) no_fields)) }) (answer.Accepted 255) } ∷
    record { actor = 4096; act = act.Post 1 255 (record { service = 0; op = (109 ∷ 111 ∷ 114 ∷ 101 ∷ []); value = (node root.Void (field (115 ∷ 105 ∷ 100 ∷ []) (tree (node (root.Text (115 ∷ 49 ∷ [])) no_fields) no_trees) no_fields)) }) (answer.Accepted 256) } ∷
    record { actor = 4096; act = act.Post 1 256 (record { service = 0; op = (109 ∷ 111 ∷ 114 ∷ 101 ∷ []); value = (node root.Void (field (115 ∷ 105 ∷ 100 ∷ []) (tree (node (root.Text (115 ∷ 49 ∷ [])) no_fields) no_trees) no_fields)) }) (answer.Refused reason.BoxFull) } ∷
    record { actor = 0; act = act.Take 1 } ∷
    record { actor = 0; act = act.Reply 1 (outcome.Value (node (root.Text (109 ∷ 115 ∷ 49 ∷ [])) no_fields)) } ∷
    record { actor = 0; act = act.End } ∷
    record { actor = 4096; act = act.Collect 1 (outcome.Value (node (root.Text (109 ∷ 115 ∷ 49 ∷ [])) no_fields)) } ∷
    record { actor = 4096; act = act.Collect 2 (outcome.Refused reason.SessionEnded) } ∷
    record { actor = 4096; act = act.Collect 3 (outcome.Refused reason.SessionEnded) } ∷
    record { actor = 4096; act = act.Collect 4 (outcome.Refused reason.SessionEnded) } ∷
    record { actor = 4096; act = act.Collect 5 (outcome.Refused reason.SessionEnded) } ∷
    record { actor = 4096; act = act.Collect 6 (outcome.Refused reason.SessionEnded) } ∷
    record { actor = 4096; act = act.Collect 7 (outcome.Refused reason.SessionEnded) } ∷
    record { actor = 4096; act = act.Collect 8 (outcome.Refused reason.SessionEnded) } ∷
    record { actor = 4096; act = act.Collect 9 (outcome.Refused reason.SessionEnded) } ∷
    record { actor = 4096; act = act.Collect 10 (outcome.Refused reason.SessionEnded) } ∷
    record { actor = 4096; act = act.Collect 11 (outcome.Refused reason.SessionEnded) } ∷
    record { actor = 4096; act = act.Collect 12 (outcome.Refused reason.SessionEnded) } ∷
    record { actor = 4096; act = act.Collect 13 (outcome.Refused reason.SessionEnded) } ∷
    record { actor = 4096; act = act.Collect 14 (outcome.Refused reason.SessionEnded) } ∷
    record { actor = 4096; act = act.Collect 15 (outcome.Refused reason.SessionEnded) } ∷
    record { actor = 4096; act = act.Collect 16 (outcome.Refused reason.SessionEnded) } ∷
    record { actor = 4096; act = act.Collect 17 (outcome.Refused reason.SessionEnded) } ∷
    record { actor = 4096; act = act.Collect 18 (outcome.Refused reason.SessionEnded) } ∷
    record { actor = 4096; act = act.Collect 19 (outcome.Refused reason.SessionEnded) } ∷
    record { actor = 4096; act = act.Collect 20 (outcome.Refused reason.SessionEnded) } ∷
    record { actor = 4096; act = act.Collect 21 (outcome.Refused reason.SessionEnded) } ∷
    record { actor = 4096; act = act.Collect 22 (outcome.Refused reason.SessionEnded) } ∷
    record { actor = 4096; act = act.Collect 23 (outcome.Refused reason.SessionEnded) } ∷
    record { actor = 4096; act = act.Collect 24 (outcome.Refused reason.SessionEnded) } ∷
    record { actor = 4096; act = act.Collect 25 (outcome.Refused reason.SessionEnded) } ∷
    record { actor = 4096; act = act.Collect 26 (outcome.Refused reason.SessionEnded) } ∷
    record { actor = 4096; act = act.Collect 27 (outcome.Refused reason.SessionEnded) } ∷
    record { actor = 4096; act = act.Collect 28 (outcome.Refused reason.SessionEnded) } ∷
    record { actor = 4096; act = act.Collect 29 (outcome.Refused reason.SessionEnded) } ∷
    record { actor = 4096; act = act.Collect 30 (outcome.Refused reason.SessionEnded) } ∷
    record { actor = 4096; act = act.Collect 31 (outcome.Refused reason.SessionEnded) } ∷
    record { actor = 4096; act = act.Collect 32 (outcome.Refused reason.SessionEnded) } ∷
    record { actor = 4096; act = act.Collect 33 (outcome.Refused reason.SessionEnded) } ∷
    record { actor = 4096; act = act.Collect 34 (outcome.Refused reason.SessionEnded) } ∷
    record { actor = 4096; act = act.Collect 35 (outcome.Refused reason.SessionEnded) } ∷
    record { actor = 4096; act = act.Collect 36 (outcome.Refused reason.SessionEnded) } ∷
    record { actor = 4096; act = act.Collect 37 (outcome.Refused reason.SessionEnded) } ∷
    record { actor = 4096; act = act.Collect 38 (outcome.Refused reason.SessionEnded) } ∷
    record { actor = 4096; act = act.Collect 39 (outcome.Refused reason.SessionEnded) } ∷
    record { actor = 4096; act = act.Collect 40 (outcome.Refused reason.SessionEnded) } ∷
    record { actor = 4096; act = act.Collect 41 (outcome.Refused reason.SessionEnded) } ∷
    record { actor = 4096; act = act.Collect 42 (outcome.Refused reason.SessionEnded) } ∷
    record { actor = 4096; act = act.Collect 43 (outcome.Refused reason.SessionEnded) } ∷
    record { actor = 4096; act = act.Collect 44 (outcome.Refused reason.SessionEnded) } ∷
    record { actor = 4096; act = act.Collect 45 (outcome.Refused reason.SessionEnded) } ∷
    record { actor = 4096; act = act.Collect 46 (outcome.Refused reason.SessionEnded) } ∷
    record { actor = 4096; act = act.Collect 47 (outcome.Refused reason.SessionEnded) } ∷
    record { actor = 4096; act = act.Collect 48 (outcome.Refused reason.SessionEnded) } ∷
    record { actor = 4096; act = act.Collect 49 (outcome.Refused reason.SessionEnded) } ∷
    record { actor = 4096; act = act.Collect 50 (outcome.Refused reason.SessionEnded) } ∷
    record { actor = 4096; act = act.Collect 51 (outcome.Refused reason.SessionEnded) } ∷
    record { actor = 4096; act = act.Collect 52 (outcome.Refused reason.SessionEnded) } ∷
    record { actor = 4096; act = act.Collect 53 (outcome.Refused reason.SessionEnded) } ∷
    record { actor = 4096; act = act.Collect 54 (outcome.Refused reason.SessionEnded) } ∷
    record { actor = 4096; act = act.Collect 55 (outcome.Refused reason.SessionEnded) } ∷
    record { actor = 4096; act = act.Collect 56 (outcome.Refused reason.SessionEnded) } ∷
    record { actor = 4096; act = act.Collect 57 (outcome.Refused reason.SessionEnded) } ∷
    record { actor = 4096; act = act.Collect 58 (outcome.Refused reason.SessionEnded) } ∷
    record { actor = 4096; act = act.Collect 59 (outcome.Refused reason.SessionEnded) } ∷
    record { actor = 4096; act = act.Collect 60 (outcome.Refused reason.SessionEnded) } ∷
    record { actor = 4096; act = act.Collect 61 (outcome.Refused reason.SessionEnded) } ∷
    record { actor = 4096; act = act.Collect 62 (outcome.Refused reason.SessionEnded) } ∷
    record { actor = 4096; act = act.Collect 63 (outcome.Refused reason.SessionEnded) } ∷
    record { actor = 4096; act = act.Collect 64 (outcome.Refused reason.SessionEnded) } ∷
    record { actor = 4096; act = act.Collect 65 (outcome.Refused reason.SessionEnded) } ∷
    record { actor = 4096; act = act.Collect 66 (outcome.Refused reason.SessionEnded) } ∷
    record { actor = 4096; act = act.Collect 67 (outcome.Refused reason.SessionEnded) } ∷
    record { actor = 4096; act = act.Collect 68 (outcome.Refused reason.SessionEnded) } ∷
    record { actor = 4096; act = act.Collect 69 (outcome.Refused reason.SessionEnded) } ∷
    record { actor = 4096; act = act.Collect 70 (outcome.Refused reason.SessionEnded) } ∷
    record { actor = 4096; act = act.Collect 71 (outcome.Refused reason.SessionEnded) } ∷
    record { actor = 4096; act = act.Collect 72 (outcome.Refused reason.SessionEnded) } ∷
    record { actor = 4096; act = act.Collect 73 (outcome.Refused reason.SessionEnded) } ∷
    record { actor = 4096; act = act.Collect 74 (outcome.Refused reason.SessionEnded) } ∷
    record { actor = 4096; act = act.Collect 75 (outcome.Refused reason.SessionEnded) } ∷
    record { actor = 4096; act = act.Collect 76 (outcome.Refused reason.SessionEnded) } ∷
    record { actor = 4096; act = act.Collect 77 (outcome.Refused reason.SessionEnded) } ∷
    record { actor = 4096; act = act.Collect 78 (outcome.Refused reason.SessionEnded) } ∷
    record { actor = 4096; act = act.Collect 79 (outcome.Refused reason.SessionEnded) } ∷
    record { actor = 4096; act = act.Collect 80 (outcome.Refused reason.SessionEnded) } ∷
    record { actor = 4096; act = act.Collect 81 (outcome.Refused reason.SessionEnded) } ∷
    record { actor = 4096; act = act.Collect 82 (outcome.Refused reason.SessionEnded) } ∷
    record { actor = 4096; act = act.Collect 83 (outcome.Refused reason.SessionEnded) } ∷
    record { actor = 4096; act = act.Collect 84 (outcome.Refused reason.SessionEnded) } ∷
    record { actor = 4096; act = act.Collect 85 (outcome.Refused reason.SessionEnded) } ∷
    record { actor = 4096; act = act.Collect 86 (outcome.Refused reason.SessionEnded) } ∷
    record { actor = 4096; act = act.Collect 87 (outcome.Refused reason.SessionEnded) } ∷
    record { actor = 4096; act = act.Collect 88 (outcome.Refused reason.SessionEnded) } ∷
    record { actor = 4096; act = act.Collect 89 (outcome.Refused reason.SessionEnded) } ∷
    record { actor = 4096; act = act.Collect 90 (outcome.Refused reason.SessionEnded) } ∷
    record { actor = 4096; act = act.Collect 91 (outcome.Refused reason.SessionEnded) } ∷
    record { actor = 4096; act = act.Collect 92 (outcome.Refused reason.SessionEnded) } ∷
    record { actor = 4096; act = act.Collect 93 (outcome.Refused reason.SessionEnded) } ∷
    record { actor = 4096; act = act.Collect 94 (outcome.Refused reason.SessionEnded) } ∷
    record { actor = 4096; act = act.Collect 95 (outcome.Refused reason.SessionEnded) } ∷
    record { actor = 4096; act = act.Collect 96 (outcome.Refused reason.SessionEnded) } ∷
    record { actor = 4096; act = act.Collect 97 (outcome.Refused reason.SessionEnded) } ∷
    record { actor = 4096; act = act.Collect 98 (outcome.Refused reason.SessionEnded) } ∷
    record { actor = 4096; act = act.Collect 99 (outcome.Refused reason.SessionEnded) } ∷
    record { actor = 4096; act = act.Collect 100 (outcome.Refused reason.SessionEnded) } ∷
    record { actor = 4096; act = act.Collect 101 (outcome.Refused reason.SessionEnded) } ∷
    record { actor = 4096; act = act.Collect 102 (outcome.Refused reason.SessionEnded) } ∷
    record { actor = 4096; act = act.Collect 103 (outcome.Refused reason.SessionEnded) } ∷
    record { actor = 4096; act = act.Collect 104 (outcome.Refused reason.SessionEnded) } ∷
    record { actor = 4096; act = act.Collect 105 (outcome.Refused reason.SessionEnded) } ∷
    record { actor = 4096; act = act.Collect 106 (outcome.Refused reason.SessionEnded) } ∷
    record { actor = 4096; act = act.Collect 107 (outcome.Refused reason.SessionEnded) } ∷
    record { actor = 4096; act = act.Collect 108 (outcome.Refused reason.SessionEnded) } ∷
    record { actor = 4096; act = act.Collect 109 (outcome.Refused reason.SessionEnded) } ∷
    record { actor = 4096; act = act.Collect 110 (outcome.Refused reason.SessionEnded) } ∷
    record { actor = 4096; act = act.Collect 111 (outcome.Refused reason.SessionEnded) } ∷
    record { actor = 4096; act = act.Collect 112 (outcome.Refused reason.SessionEnded) } ∷
    record { actor = 4096; act = act.Collect 113 (outcome.Refused reason.SessionEnded) } ∷
    record { actor = 4096; act = act.Collect 114 (outcome.Refused reason.SessionEnded) } ∷
    record { actor = 4096; act = act.Collect 115 (outcome.Refused reason.SessionEnded) } ∷
    record { actor = 4096; act = act.Collect 116 (outcome.Refused reason.SessionEnded) } ∷
    record { actor = 4096; act = act.Collect 117 (outcome.Refused reason.SessionEnded) } ∷
    record { actor = 4096; act = act.Collect 118 (outcome.Refused reason.SessionEnded) } ∷
    record { actor = 4096; act = act.Collect 119 (outcome.Refused reason.SessionEnded) } ∷
    record { actor = 4096; act = act.Collect 120 (outcome.Refused reason.SessionEnded) } ∷
    record { actor = 4096; act = act.Collect 121 (outcome.Refused reason.SessionEnded) } ∷
    record { actor = 4096; act = act.Collect 122 (outcome.Refused reason.SessionEnded) } ∷
    record { actor = 4096; act = act.Collect 123 (outcome.Refused reason.SessionEnded) } ∷
    record { actor = 4096; act = act.Collect 124 (outcome.Refused reason.SessionEnded) } ∷
    record { actor = 4096; act = act.Collect 125 (outcome.Refused reason.SessionEnded) } ∷
    record { actor = 4096; act = act.Collect 126 (outcome.Refused reason.SessionEnded) } ∷
    record { actor = 4096; act = act.Collect 127 (outcome.Refused reason.SessionEnded) } ∷
    record { actor = 4096; act = act.Collect 128 (outcome.Refused reason.SessionEnded) } ∷
    record { actor = 4096; act = act.Collect 129 (outcome.Refused reason.SessionEnded) } ∷
    record { actor = 4096; act = act.Collect 130 (outcome.Refused reason.SessionEnded) } ∷
    record { actor = 4096; act = act.Collect 131 (outcome.Refused reason.SessionEnded) } ∷
    record { actor = 4096; act = act.Collect 132 (outcome.Refused reason.SessionEnded) } ∷
    record { actor = 4096; act = act.Collect 133 (outcome.Refused reason.SessionEnded) } ∷
    record { actor = 4096; act = act.Collect 134 (outcome.Refused reason.SessionEnded) } ∷
    record { actor = 4096; act = act.Collect 135 (outcome.Refused reason.SessionEnded) } ∷
    record { actor = 4096; act = act.Collect 136 (outcome.Refused reason.SessionEnded) } ∷
    record { actor = 4096; act = act.Collect 137 (outcome.Refused reason.SessionEnded) } ∷
    record { actor = 4096; act = act.Collect 138 (outcome.Refused reason.SessionEnded) } ∷
    record { actor = 4096; act = act.Collect 139 (outcome.Refused reason.SessionEnded) } ∷
    record { actor = 4096; act = act.Collect 140 (outcome.Refused reason.SessionEnded) } ∷
    record { actor = 4096; act = act.Collect 141 (outcome.Refused reason.SessionEnded) } ∷
    record { actor = 4096; act = act.Collect 142 (outcome.Refused reason.SessionEnded) } ∷
    record { actor = 4096; act = act.Collect 143 (outcome.Refused reason.SessionEnded) } ∷
    record { actor = 4096; act = act.Collect 144 (outcome.Refused reason.SessionEnded) } ∷
    record { actor = 4096; act = act.Collect 145 (outcome.Refused reason.SessionEnded) } ∷
    record { actor = 4096; act = act.Collect 146 (outcome.Refused reason.SessionEnded) } ∷
    record { actor = 4096; act = act.Collect 147 (outcome.Refused reason.SessionEnded) } ∷
    record { actor = 4096; act = act.Collect 148 (outcome.Refused reason.SessionEnded) } ∷
    record { actor = 4096; act = act.Collect 149 (outcome.Refused reason.SessionEnded) } ∷
    record { actor = 4096; act = act.Collect 150 (outcome.Refused reason.SessionEnded) } ∷
    record { actor = 4096; act = act.Collect 151 (outcome.Refused reason.SessionEnded) } ∷
    record { actor = 4096; act = act.Collect 152 (outcome.Refused reason.SessionEnded) } ∷
    record { actor = 4096; act = act.Collect 153 (outcome.Refused reason.SessionEnded) } ∷
    record { actor = 4096; act = act.Collect 154 (outcome.Refused reason.SessionEnded) } ∷
    record { actor = 4096; act = act.Collect 155 (outcome.Refused reason.SessionEnded) } ∷
    record { actor = 4096; act = act.Collect 156 (outcome.Refused reason.SessionEnded) } ∷
    record { actor = 4096; act = act.Collect 157 (outcome.Refused reason.SessionEnded) } ∷
    record { actor = 4096; act = act.Collect 158 (outcome.Refused reason.SessionEnded) } ∷
    record { actor = 4096; act = act.Collect 159 (outcome.Refused reason.SessionEnded) } ∷
    record { actor = 4096; act = act.Collect 160 (outcome.Refused reason.SessionEnded) } ∷
    record { actor = 4096; act = act.Collect 161 (outcome.Refused reason.SessionEnded) } ∷
    record { actor = 4096; act = act.Collect 162 (outcome.Refused reason.SessionEnded) } ∷
    record { actor = 4096; act = act.Collect 163 (outcome.Refused reason.SessionEnded) } ∷
    record { actor = 4096; act = act.Collect 164 (outcome.Refused reason.SessionEnded) } ∷
    record { actor = 4096; act = act.Collect 165 (outcome.Refused reason.SessionEnded) } ∷
    record { actor = 4096; act = act.Collect 166 (outcome.Refused reason.SessionEnded) } ∷
    record { actor = 4096; act = act.Collect 167 (outcome.Refused reason.SessionEnded) } ∷
    record { actor = 4096; act = act.Collect 168 (outcome.Refused reason.SessionEnded) } ∷
    record { actor = 4096; act = act.Collect 169 (outcome.Refused reason.SessionEnded) } ∷
    record { actor = 4096; act = act.Collect 170 (outcome.Refused reason.SessionEnded) } ∷
    record { actor = 4096; act = act.Collect 171 (outcome.Refused reason.SessionEnded) } ∷
    record { actor = 4096; act = act.Collect 172 (outcome.Refused reason.SessionEnded) } ∷
    record { actor = 4096; act = act.Collect 173 (outcome.Refused reason.SessionEnded) } ∷
    record { actor = 4096; act = act.Collect 174 (outcome.Refused reason.SessionEnded) } ∷
    record { actor = 4096; act = act.Collect 175 (outcome.Refused reason.SessionEnded) } ∷
    record { actor = 4096; act = act.Collect 176 (outcome.Refused reason.SessionEnded) } ∷
    record { actor = 4096; act = act.Collect 177 (outcome.Refused reason.SessionEnded) } ∷
    record { actor = 4096; act = act.Collect 178 (outcome.Refused reason.SessionEnded) } ∷
    record { actor = 4096; act = act.Collect 179 (outcome.Refused reason.SessionEnded) } ∷
    record { actor = 4096; act = act.Collect 180 (outcome.Refused reason.SessionEnded) } ∷
    record { actor = 4096; act = act.Collect 181 (outcome.Refused reason.SessionEnded) } ∷
    record { actor = 4096; act = act.Collect 182 (outcome.Refused reason.SessionEnded) } ∷
    record { actor = 4096; act = act.Collect 183 (outcome.Refused reason.SessionEnded) } ∷
    record { actor = 4096; act = act.Collect 184 (outcome.Refused reason.SessionEnded) } ∷
    record { actor = 4096; act = act.Collect 185 (outcome.Refused reason.SessionEnded) } ∷
    record { actor = 4096; act = act.Collect 186 (outcome.Refused reason.SessionEnded) } ∷
    record { actor = 4096; act = act.Collect 187 (outcome.Refused reason.SessionEnded) } ∷
    record { actor = 4096; act = act.Collect 188 (outcome.Refused reason.SessionEnded) } ∷
    record { actor = 4096; act = act.Collect 189 (outcome.Refused reason.SessionEnded) } ∷
    record { actor = 4096; act = act.Collect 190 (outcome.Refused reason.SessionEnded) } ∷
    record { actor = 4096; act = act.Collect 191 (outcome.Refused reason.SessionEnded) } ∷
    record { actor = 4096; act = act.Collect 192 (outcome.Refused reason.SessionEnded) } ∷
    record { actor = 4096; act = act.Collect 193 (outcome.Refused reason.SessionEnded) } ∷
    record { actor = 4096; act = act.Collect 194 (outcome.Refused reason.SessionEnded) } ∷
    record { actor = 4096; act = act.Collect 195 (outcome.Refused reason.SessionEnded) } ∷
    record { actor = 4096; act = act.Collect 196 (outcome.Refused reason.SessionEnded) } ∷
    record { actor = 4096; act = act.Collect 197 (outcome.Refused reason.SessionEnded) } ∷
    record { actor = 4096; act = act.Collect 198 (outcome.Refused reason.SessionEnded) } ∷
    record { actor = 4096; act = act.Collect 199 (outcome.Refused reason.SessionEnded) } ∷
    record { actor = 4096; act = act.Collect 200 (outcome.Refused reason.SessionEnded) } ∷
    record { actor = 4096; act = act.Collect 201 (outcome.Refused reason.SessionEnded) } ∷
    record { actor = 4096; act = act.Collect 202 (outcome.Refused reason.SessionEnded) } ∷
    record { actor = 4096; act = act.Collect 203 (outcome.Refused reason.SessionEnded) } ∷
    record { actor = 4096; act = act.Collect 204 (outcome.Refused reason.SessionEnded) } ∷
    record { actor = 4096; act = act.Collect 205 (outcome.Refused reason.SessionEnded) } ∷
    record { actor = 4096; act = act.Collect 206 (outcome.Refused reason.SessionEnded) } ∷
    record { actor = 4096; act = act.Collect 207 (outcome.Refused reason.SessionEnded) } ∷
    record { actor = 4096; act = act.Collect 208 (outcome.Refused reason.SessionEnded) } ∷
    record { actor = 4096; act = act.Collect 209 (outcome.Refused reason.SessionEnded) } ∷
    record { actor = 4096; act = act.Collect 210 (outcome.Refused reason.SessionEnded) } ∷
    record { actor = 4096; act = act.Collect 211 (outcome.Refused reason.SessionEnded) } ∷
    record { actor = 4096; act = act.Collect 212 (outcome.Refused reason.SessionEnded) } ∷
    record { actor = 4096; act = act.Collect 213 (outcome.Refused reason.SessionEnded) } ∷
    record { actor = 4096; act = act.Collect 214 (outcome.Refused reason.SessionEnded) } ∷
    record { actor = 4096; act = act.Collect 215 (outcome.Refused reason.SessionEnded) } ∷
    record { actor = 4096; act = act.Collect 216 (outcome.Refused reason.SessionEnded) } ∷
    record { actor = 4096; act = act.Collect 217 (outcome.Refused reason.SessionEnded) } ∷
    record { actor = 4096; act = act.Collect 218 (outcome.Refused reason.SessionEnded) } ∷
    record { actor = 4096; act = act.Collect 219 (outcome.Refused reason.SessionEnded) } ∷
    record { actor = 4096; act = act.Collect 220 (outcome.Refused reason.SessionEnded) } ∷
    record { actor = 4096; act = act.Collect 221 (outcome.Refused reason.SessionEnded) } ∷
    record { actor = 4096; act = act.Collect 222 (outcome.Refused reason.SessionEnded) } ∷
    record { actor = 4096; act = act.Collect 223 (outcome.Refused reason.SessionEnded) } ∷
    record { actor = 4096; act = act.Collect 224 (outcome.Refused reason.SessionEnded) } ∷
    record { actor = 4096; act = act.Collect 225 (outcome.Refused reason.SessionEnded) } ∷
    record { actor = 4096; act = act.Collect 226 (outcome.Refused reason.SessionEnded) } ∷
    record { actor = 4096; act = act.Collect 227 (outcome.Refused reason.SessionEnded) } ∷
    record { actor = 4096; act = act.Collect 228 (outcome.Refused reason.SessionEnded) } ∷
    record { actor = 4096; act = act.Collect 229 (outcome.Refused reason.SessionEnded) } ∷
    record { actor = 4096; act = act.Collect 230 (outcome.Refused reason.SessionEnded) } ∷
    record { actor = 4096; act = act.Collect 231 (outcome.Refused reason.SessionEnded) } ∷
    record { actor = 4096; act = act.Collect 232 (outcome.Refused reason.SessionEnded) } ∷
    record { actor = 4096; act = act.Collect 233 (outcome.Refused reason.SessionEnded) } ∷
    record { actor = 4096; act = act.Collect 234 (outcome.Refused reason.SessionEnded) } ∷
    record { actor = 4096; act = act.Collect 235 (outcome.Refused reason.SessionEnded) } ∷
    record { actor = 4096; act = act.Collect 236 (outcome.Refused reason.SessionEnded) } ∷
    record { actor = 4096; act = act.Collect 237 (outcome.Refused reason.SessionEnded) } ∷
    record { actor = 4096; act = act.Collect 238 (outcome.Refused reason.SessionEnded) } ∷
    record { actor = 4096; act = act.Collect 239 (outcome.Refused reason.SessionEnded) } ∷
    record { actor = 4096; act = act.Collect 240 (outcome.Refused reason.SessionEnded) } ∷
    record { actor = 4096; act = act.Collect 241 (outcome.Refused reason.SessionEnded) } ∷
    record { actor = 4096; act = act.Collect 242 (outcome.Refused reason.SessionEnded) } ∷
    record { actor = 4096; act = act.Collect 243 (outcome.Refused reason.SessionEnded) } ∷
    record { actor = 4096; act = act.Collect 244 (outcome.Refused reason.SessionEnded) } ∷
    record { actor = 4096; act = act.Collect 245 (outcome.Refused reason.SessionEnded) } ∷
    record { actor = 4096; act = act.Collect 246 (outcome.Refused reason.SessionEnded) } ∷
    record { actor = 4096; act = act.Collect 247 (outcome.Refused reason.SessionEnded) } ∷
    record { actor = 4096; act = act.Collect 248 (outcome.Refused reason.SessionEnded) } ∷
    record { actor = 4096; act = act.Collect 249 (outcome.Refused reason.SessionEnded) } ∷
    record { actor = 4096; act = act.Collect 250 (outcome.Refused reason.SessionEnded) } ∷
    record { actor = 4096; act = act.Collect 251 (outcome.Refused reason.SessionEnded) } ∷
    record { actor = 4096; act = act.Collect 252 (outcome.Refused reason.SessionEnded) } ∷
    record { actor = 4096; act = act.Collect 253 (outcome.Refused reason.SessionEnded) } ∷
    record { actor = 4096; act = act.Collect 254 (outcome.Refused reason.SessionEnded) } ∷
    record { actor = 4096; act = act.Collect 255 (outcome.Refused reason.SessionEnded) } ∷
    record { actor = 4096; act = act.Collect 256 (outcome.Refused reason.SessionEnded) } ∷
    record { actor = 4096; act = act.Close } ∷
    record { actor = 4096; act = act.Stop } ∷ [])

pub legal : legal_entries setting history ≡ 523
legal = refl

pub spoilt_another_answer_collected : legal_entries setting (with_at 4 (record { actor = 4096; act = act.Collect 0 (outcome.Value (node (root.Int (pos 424242)) no_fields)) } ∷ []) history) ≡ 4
spoilt_another_answer_collected = refl

pub spoilt_accepted_against_the_rules : legal_entries setting (with_at 261 (record { actor = 4096; act = act.Post 1 256 (record { service = 0; op = (109 ∷ 111 ∷ 114 ∷ 101 ∷ []); value = (node root.Void (field (115 ∷ 105 ∷ 100 ∷ []) (tree (node (root.Text (115 ∷ 49 ∷ [])) no_fields) no_trees) no_fields)) }) (answer.Accepted 257) } ∷ []) history) ≡ 261
spoilt_accepted_against_the_rules = refl

-- the events of session 0
abbrev events_0 : List Event
events_0 = (
    event 0 kind.In 0 0 0 ∷
    event 0 kind.Local 0 0 0 ∷
    event 0 kind.Reply 0 0 0 ∷
    event 0 kind.In 1 0 0 ∷
    event 0 kind.Local 0 0 0 ∷
    event 0 kind.Reply 1 0 0 ∷
    event 0 kind.Finish 0 0 0 ∷ [])

-- the events of each session
abbrev sessions : List (List Event)
sessions = events_0 ∷ []

pub session_0 : IsSession setting history 0 events_0
unfolding digits
session_0 = is_session setting history 0 0 events_0 refl refl (refl, ((refl, refl), (refl, ((refl, refl), (tt, tt)))))

pub quiet : is_quiet setting 10000 (before_stop history) sessions ≡ true
unfolding digits
quiet = refl

pub still : is_still setting 10000 history sessions ≡ true
unfolding digits
still = refl

pub together : stand_together history ≡ true
together = refl

pub spoilt_event_cut_at_the_end : agrees setting history 0 (
    event 0 kind.In 0 0 0 ∷
    event 0 kind.Local 0 0 0 ∷
    event 0 kind.Reply 0 0 0 ∷
    event 0 kind.In 1 0 0 ∷
    event 0 kind.Local 0 0 0 ∷
    event 0 kind.Reply 1 0 0 ∷ []) ≡ false
unfolding digits
spoilt_event_cut_at_the_end = refl

pub spoilt_events_exchanged : agrees setting history 0 (
    event 0 kind.Local 0 0 0 ∷
    event 0 kind.In 0 0 0 ∷
    event 0 kind.Reply 0 0 0 ∷
    event 0 kind.In 1 0 0 ∷
    event 0 kind.Local 0 0 0 ∷
    event 0 kind.Reply 1 0 0 ∷
    event 0 kind.Finish 0 0 0 ∷ []) ≡ false
unfolding digits
spoilt_events_exchanged = refl

pub spoilt_left_in_the_middle : is_quiet setting 10000 (take 3 history) (sessions_at setting (take 3 history) 0 sessions) ≡ false
unfolding digits
spoilt_left_in_the_middle = refl

pub spoilt_call_left_out : agrees setting (with_at 3 [] history) 0 events_0 ≡ false
unfolding digits
spoilt_call_left_out = refl

pub spoilt_posted_too_soon : is_still setting 10000 (with_at 3 (record { actor = 4096; act = act.Post 1 0 (record { service = 0; op = (109 ∷ 111 ∷ 114 ∷ 101 ∷ []); value = (node root.Void (field (115 ∷ 105 ∷ 100 ∷ []) (tree (node (root.Text (115 ∷ 49 ∷ [])) no_fields) no_trees) no_fields)) }) (answer.Accepted 1) } ∷ record { actor = 0; act = act.Reply 0 (outcome.Value (node (root.Text (111 ∷ 115 ∷ 49 ∷ [])) no_fields)) } ∷ []) (with_at 5 [] history)) sessions ≡ false
unfolding digits
spoilt_posted_too_soon = refl

pub spoilt_post_apart : stand_together (with_at 5 (record { actor = 4096; act = act.Post 1 0 (record { service = 0; op = (109 ∷ 111 ∷ 114 ∷ 101 ∷ []); value = (node root.Void (field (115 ∷ 105 ∷ 100 ∷ []) (tree (node (root.Text (115 ∷ 49 ∷ [])) no_fields) no_trees) no_fields)) }) (answer.Accepted 1) } ∷ record { actor = 0; act = act.End } ∷ []) history) ≡ false
unfolding digits
spoilt_post_apart = refl

-- what came in
abbrev postings : List Posting
postings = (
    record { calls = (call.Post (record { service = 0; op = (111 ∷ 112 ∷ 101 ∷ 110 ∷ []); value = (node root.Void (field (115 ∷ 105 ∷ 100 ∷ []) (tree (node (root.Text (115 ∷ 49 ∷ [])) no_fields) no_trees) no_fields)) }) ∷ []) } ∷
    record { calls = (call.Post (record { service = 0; op = (109 ∷ 111 ∷ 114 ∷ 101 ∷ []); value = (node root.Void (field (115 ∷ 105 ∷ 100 ∷ []) (tree (node (root.Text (115 ∷ 49 ∷ [])) no_fields) no_trees) no_fields)) }) ∷ call.Post (record { service = 0; op = (109 ∷ 111 ∷ 114 ∷ 101 ∷ []); value = (node root.Void (field (115 ∷ 105 ∷ 100 ∷ []) (tree (node (root.Text (115 ∷ 49 ∷ [])) no_fields) no_trees) no_fields)) }) ∷ call.Post (record { service = 0; op = (109 ∷ 111 ∷ 114 ∷ 101 ∷ []); value = (node root.Void (field (115 ∷ 105 ∷ 100 ∷ []) (tree (node (root.Text (115 ∷ 49 ∷ [])) no_fields) no_trees) no_fields)) }) ∷ call.Post (record { service = 0; op = (109 ∷ 111 ∷ 114 ∷ 101 ∷ []); value = (node root.Void (field (115 ∷ 105 ∷ 100 ∷ []) (tree (node (root.Text (115 ∷ 49 ∷ [])) no_fields) no_trees) no_fields)) }) ∷ call.Post (record { service = 0; op = (109 ∷ 111 ∷ 114 ∷ 101 ∷ []); value = (node root.Void (field (115 ∷ 105 ∷ 100 ∷ []) (tree (node (root.Text (115 ∷ 49 ∷ [])) no_fields) no_trees) no_fields)) }) ∷ call.Post (record { service = 0; op = (109 ∷ 111 ∷ 114 ∷ 101 ∷ []); value = (node root.Void (field (115 ∷ 105 ∷ 100 ∷ []) (tree (node (root.Text (115 ∷ 49 ∷ [])) no_fields) no_trees) no_fields)) }) ∷ call.Post (record { service = 0; op = (109 ∷ 111 ∷ 114 ∷ 101 ∷ []); value = (node root.Void (field (115 ∷ 105 ∷ 100 ∷ []) (tree (node (root.Text (115 ∷ 49 ∷ [])) no_fields) no_trees) no_fields)) }) ∷ call.Post (record { service = 0; op = (109 ∷ 111 ∷ 114 ∷ 101 ∷ []); value = (node root.Void (field (115 ∷ 105 ∷ 100 ∷ []) (tree (node (root.Text (115 ∷ 49 ∷ [])) no_fields) no_trees) no_fields)) }) ∷ call.Post (record { service = 0; op = (109 ∷ 111 ∷ 114 ∷ 101 ∷ []); value = (node root.Void (field (115 ∷ 105 ∷ 100 ∷ []) (tree (node (root.Text (115 ∷ 49 ∷ [])) no_fields) no_trees) no_fields)) }) ∷ call.Post (record { service = 0; op = (109 ∷ 111 ∷ 114 ∷ 101 ∷ []); value = (node root.Void (field (115 ∷ 105 ∷ 100 ∷ []) (tree (node (root.Text (115 ∷ 49 ∷ [])) no_fields) no_trees) no_fields)) }) ∷ call.Post (record { service = 0; op = (109 ∷ 111 ∷ 114 ∷ 101 ∷ []); value = (node root.Void (field (115 ∷ 105 ∷ 100 ∷ []) (tree (node (root.Text (115 ∷ 49 ∷ [])) no_fields) no_trees) no_fields)) }) ∷ call.Post (record { service = 0; op = (109 ∷ 111 ∷ 114 ∷ 101 ∷ []); value = (node root.Void (field (115 ∷ 105 ∷ 100 ∷ []) (tree (node (root.Text (115 ∷ 49 ∷ [])) no_fields) no_trees) no_fields)) }) ∷ call.Post (record { service = 0; op = (109 ∷ 111 ∷ 114 ∷ 101 ∷ []); value = (node root.Void (field (115 ∷ 105 ∷ 100 ∷ []) (tree (node (root.Text (115 ∷ 49 ∷ [])) no_fields) no_trees) no_fields)) }) ∷ call.Post (record { service = 0; op = (109 ∷ 111 ∷ 114 ∷ 101 ∷ []); value = (node root.Void (field (115 ∷ 105 ∷ 100 ∷ []) (tree (node (root.Text (115 ∷ 49 ∷ [])) no_fields) no_trees) no_fields)) }) ∷ call.Post (record { service = 0; op = (109 ∷ 111 ∷ 114 ∷ 101 ∷ []); value = (node root.Void (field (115 ∷ 105 ∷ 100 ∷ []) (tree (node (root.Text (115 ∷ 49 ∷ [])) no_fields) no_trees) no_fields)) }) ∷ call.Post (record { service = 0; op = (109 ∷ 111 ∷ 114 ∷ 101 ∷ []); value = (node root.Void (field (115 ∷ 105 ∷ 100 ∷ []) (tree (node (root.Text (115 ∷ 49 ∷ [])) no_fields) no_trees) no_fields)) }) ∷ call.Post (record { service = 0; op = (109 ∷ 111 ∷ 114 ∷ 101 ∷ []); value = (node root.Void (field (115 ∷ 105 ∷ 100 ∷ []) (tree (node (root.Text (115 ∷ 49 ∷ [])) no_fields) no_trees) no_fields)) }) ∷ call.Post (record { service = 0; op = (109 ∷ 111 ∷ 114 ∷ 101 ∷ []); value = (node root.Void (field (115 ∷ 105 ∷ 100 ∷ []) (tree (node (root.Text (115 ∷ 49 ∷ [])) no_fields) no_trees) no_fields)) }) ∷ call.Post (record { service = 0; op = (109 ∷ 111 ∷ 114 ∷ 101 ∷ []); value = (node root.Void (field (115 ∷ 105 ∷ 100 ∷ []) (tree (node (root.Text (115 ∷ 49 ∷ [])) no_fields) no_trees) no_fields)) }) ∷ call.Post (record { service = 0; op = (109 ∷ 111 ∷ 114 ∷ 101 ∷ []); value = (node root.Void (field (115 ∷ 105 ∷ 100 ∷ []) (tree (node (root.Text (115 ∷ 49 ∷ [])) no_fields) no_trees) no_fields)) }) ∷ call.Post (record { service = 0; op = (109 ∷ 111 ∷ 114 ∷ 101 ∷ []); value = (node root.Void (field (115 ∷ 105 ∷ 100 ∷ []) (tree (node (root.Text (115 ∷ 49 ∷ [])) no_fields) no_trees) no_fields)) }) ∷ call.Post (record { service = 0; op = (109 ∷ 111 ∷ 114 ∷ 101 ∷ []); value = (node root.Void (field (115 ∷ 105 ∷ 100 ∷ []) (tree (node (root.Text (115 ∷ 49 ∷ [])) no_fields) no_trees) no_fields)) }) ∷ call.Post (record { service = 0; op = (109 ∷ 111 ∷ 114 ∷ 101 ∷ []); value = (node root.Void (field (115 ∷ 105 ∷ 100 ∷ []) (tree (node (root.Text (115 ∷ 49 ∷ [])) no_fields) no_trees) no_fields)) }) ∷ call.Post (record { service = 0; op = (109 ∷ 111 ∷ 114 ∷ 101 ∷ []); value = (node root.Void (field (115 ∷ 105 ∷ 100 ∷ []) (tree (node (root.Text (115 ∷ 49 ∷ [])) no_fields) no_trees) no_fields)) }) ∷ call.Post (record { service = 0; op = (109 ∷ 111 ∷ 114 ∷ 101 ∷ []); value = (node root.Void (field (115 ∷ 105 ∷ 100 ∷ []) (tree (node (root.Text (115 ∷ 49 ∷ [])) no_fields) no_trees) no_fields)) }) ∷ call.Post (record { service = 0; op = (109 ∷ 111 ∷ 114 ∷ 101 ∷ []); value = (node root.Void (field (115 ∷ 105 ∷ 100 ∷ []) (tree (node (root.Text (115 ∷ 49 ∷ [])) no_fields) no_trees) no_fields)) }) ∷ call.Post (record { service = 0; op = (109 ∷ 111 ∷ 114 ∷ 101 ∷ []); value = (node root.Void (field (115 ∷ 105 ∷ 100 ∷ []) (tree (node (root.Text (115 ∷ 49 ∷ [])) no_fields) no_trees) no_fields)) }) ∷ call.Post (record { service = 0; op = (109 ∷ 111 ∷ 114 ∷ 101 ∷ []); value = (node root.Void (field (115 ∷ 105 ∷ 100 ∷ []) (tree (node (root.Text (115 ∷ 49 ∷ [])) no_fields) no_trees) no_fields)) }) ∷ call.Post (record { service = 0; op = (109 ∷ 111 ∷ 114 ∷ 101 ∷ []); value = (node root.Void (field (115 ∷ 105 ∷ 100 ∷ []) (tree (node (root.Text (115 ∷ 49 ∷ [])) no_fields) no_trees) no_fields)) }) ∷ call.Post (record { service = 0; op = (109 ∷ 111 ∷ 114 ∷ 101 ∷ []); value = (node root.Void (field (115 ∷ 105 ∷ 100 ∷ []) (tree (node (root.Text (115 ∷ 49 ∷ [])) no_fields) no_trees) no_fields)) }) ∷ call.Post (record { service = 0; op = (109 ∷ 111 ∷ 114 ∷ 101 ∷ []); value = (node root.Void (field (115 ∷ 105 ∷ 100 ∷ []) (tree (node (root.Text (115 ∷ 49 ∷ [])) no_fields) no_trees) no_fields)) }) ∷ call.Post (record { service = 0; op = (109 ∷ 111 ∷ 114 ∷ 101 ∷ []); value = (node root.Void (field (115 ∷ 105 ∷ 100 ∷ []) (tree (node (root.Text (115 ∷ 49 ∷ [])) no_fields) no_trees) no_fields)) }) ∷ call.Post (record { service = 0; op = (109 ∷ 111 ∷ 114 ∷ 101 ∷ []); value = (node root.Void (field (115 ∷ 105 ∷ 100 ∷ []) (tree (node (root.Text (115 ∷ 49 ∷ [])) no_fields) no_trees) no_fields)) }) ∷ call.Post (record { service = 0; op = (109 ∷ 111 ∷ 114 ∷ 101 ∷ []); value = (node root.Void (field (115 ∷ 105 ∷ 100 ∷ []) (tree (node (root.Text (115 ∷ 49 ∷ [])) no_fields) no_trees) no_fields)) }) ∷ call.Post (record { service = 0; op = (109 ∷ 111 ∷ 114 ∷ 101 ∷ []); value = (node root.Void (field (115 ∷ 105 ∷ 100 ∷ []) (tree (node (root.Text (115 ∷ 49 ∷ [])) no_fields) no_trees) no_fields)) }) ∷ call.Post (record { service = 0; op = (109 ∷ 111 ∷ 114 ∷ 101 ∷ []); value = (node root.Void (field (115 ∷ 105 ∷ 100 ∷ []) (tree (node (root.Text (115 ∷ 49 ∷ [])) no_fields) no_trees) no_fields)) }) ∷ call.Post (record { service = 0; op = (109 ∷ 111 ∷ 114 ∷ 101 ∷ []); value = (node root.Void (field (115 ∷ 105 ∷ 100 ∷ []) (tree (node (root.Text (115 ∷ 49 ∷ [])) no_fields) no_trees) no_fields)) }) ∷ call.Post (record { service = 0; op = (109 ∷ 111 ∷ 114 ∷ 101 ∷ []); value = (node root.Void (field (115 ∷ 105 ∷ 100 ∷ []) (tree (node (root.Text (115 ∷ 49 ∷ [])) no_fields) no_trees) no_fields)) }) ∷ call.Post (record { service = 0; op = (109 ∷ 111 ∷ 114 ∷ 101 ∷ []); value = (node root.Void (field (115 ∷ 105 ∷ 100 ∷ []) (tree (node (root.Text (115 ∷ 49 ∷ [])) no_fields) no_trees) no_fields)) }) ∷ call.Post (record { service = 0; op = (109 ∷ 111 ∷ 114 ∷ 101 ∷ []); value = (node root.Void (field (115 ∷ 105 ∷ 100 ∷ []) (tree (node (root.Text (115 ∷ 49 ∷ [])) no_fields) no_trees) no_fields)) }) ∷ call.Post (record { service = 0; op = (109 ∷ 111 ∷ 114 ∷ 101 ∷ []); value = (node root.Void (field (115 ∷ 105 ∷ 100 ∷ []) (tree (node (root.Text (115 ∷ 49 ∷ [])) no_fields) no_trees) no_fields)) }) ∷ call.Post (record { service = 0; op = (109 ∷ 111 ∷ 114 ∷ 101 ∷ []); value = (node root.Void (field (115 ∷ 105 ∷ 100 ∷ []) (tree (node (root.Text (115 ∷ 49 ∷ [])) no_fields) no_trees) no_fields)) }) ∷ call.Post (record { service = 0; op = (109 ∷ 111 ∷ 114 ∷ 101 ∷ []); value = (node root.Void (field (115 ∷ 105 ∷ 100 ∷ []) (tree (node (root.Text (115 ∷ 49 ∷ [])) no_fields) no_trees) no_fields)) }) ∷ call.Post (record { service = 0; op = (109 ∷ 111 ∷ 114 ∷ 101 ∷ []); value = (node root.Void (field (115 ∷ 105 ∷ 100 ∷ []) (tree (node (root.Text (115 ∷ 49 ∷ [])) no_fields) no_trees) no_fields)) }) ∷ call.Post (record { service = 0; op = (109 ∷ 111 ∷ 114 ∷ 101 ∷ []); value = (node root.Void (field (115 ∷ 105 ∷ 100 ∷ []) (tree (node (root.Text (115 ∷ 49 ∷ [])) no_fields) no_trees) no_fields)) }) ∷ call.Post (record { service = 0; op = (109 ∷ 111 ∷ 114 ∷ 101 ∷ []); value = (node root.Void (field (115 ∷ 105 ∷ 100 ∷ []) (tree (node (root.Text (115 ∷ 49 ∷ [])) no_fields) no_trees) no_fields)) }) ∷ call.Post (record { service = 0; op = (109 ∷ 111 ∷ 114 ∷ 101 ∷ []); value = (node root.Void (field (115 ∷ 105 ∷ 100 ∷ []) (tree (node (root.Text (115 ∷ 49 ∷ [])) no_fields) no_trees) no_fields)) }) ∷ call.Post (record { service = 0; op = (109 ∷ 111 ∷ 114 ∷ 101 ∷ []); value = (node root.Void (field (115 ∷ 105 ∷ 100 ∷ []) (tree (node (root.Text (115 ∷ 49 ∷ [])) no_fields) no_trees) no_fields)) }) ∷ call.Post (record { service = 0; op = (109 ∷ 111 ∷ 114 ∷ 101 ∷ []); value = (node root.Void (field (115 ∷ 105 ∷ 100 ∷ []) (tree (node (root.Text (115 ∷ 49 ∷ [])) no_fields) no_trees) no_fields)) }) ∷ call.Post (record { service = 0; op = (109 ∷ 111 ∷ 114 ∷ 101 ∷ []); value = (node root.Void (field (115 ∷ 105 ∷ 100 ∷ []) (tree (node (root.Text (115 ∷ 49 ∷ [])) no_fields) no_trees) no_fields)) }) ∷ call.Post (record { service = 0; op = (109 ∷ 111 ∷ 114 ∷ 101 ∷ []); value = (node root.Void (field (115 ∷ 105 ∷ 100 ∷ []) (tree (node (root.Text (115 ∷ 49 ∷ [])) no_fields) no_trees) no_fields)) }) ∷ call.Post (record { service = 0; op = (109 ∷ 111 ∷ 114 ∷ 101 ∷ []); value = (node root.Void (field (115 ∷ 105 ∷ 100 ∷ []) (tree (node (root.Text (115 ∷ 49 ∷ [])) no_fields) no_trees) no_fields)) }) ∷ call.Post (record { service = 0; op = (109 ∷ 111 ∷ 114 ∷ 101 ∷ []); value = (node root.Void (field (115 ∷ 105 ∷ 100 ∷ []) (tree (node (root.Text (115 ∷ 49 ∷ [])) no_fields) no_trees) no_fields)) }) ∷ call.Post (record { service = 0; op = (109 ∷ 111 ∷ 114 ∷ 101 ∷ []); value = (node root.Void (field (115 ∷ 105 ∷ 100 ∷ []) (tree (node (root.Text (115 ∷ 49 ∷ [])) no_fields) no_trees) no_fields)) }) ∷ call.Post (record { service = 0; op = (109 ∷ 111 ∷ 114 ∷ 101 ∷ []); value = (node root.Void (field (115 ∷ 105 ∷ 100 ∷ []) (tree (node (root.Text (115 ∷ 49 ∷ [])) no_fields) no_trees) no_fields)) }) ∷ call.Post (record { service = 0; op = (109 ∷ 111 ∷ 114 ∷ 101 ∷ []); value = (node root.Void (field (115 ∷ 105 ∷ 100 ∷ []) (tree (node (root.Text (115 ∷ 49 ∷ [])) no_fields) no_trees) no_fields)) }) ∷ call.Post (record { service = 0; op = (109 ∷ 111 ∷ 114 ∷ 101 ∷ []); value = (node root.Void (field (115 ∷ 105 ∷ 100 ∷ []) (tree (node (root.Text (115 ∷ 49 ∷ [])) no_fields) no_trees) no_fields)) }) ∷ call.Post (record { service = 0; op = (109 ∷ 111 ∷ 114 ∷ 101 ∷ []); value = (node root.Void (field (115 ∷ 105 ∷ 100 ∷ []) (tree (node (root.Text (115 ∷ 49 ∷ [])) no_fields) no_trees) no_fields)) }) ∷ call.Post (record { service = 0; op = (109 ∷ 111 ∷ 114 ∷ 101 ∷ []); value = (node root.Void (field (115 ∷ 105 ∷ 100 ∷ []) (tree (node (root.Text (115 ∷ 49 ∷ [])) no_fields) no_trees) no_fields)) }) ∷ call.Post (record { service = 0; op = (109 ∷ 111 ∷ 114 ∷ 101 ∷ []); value = (node root.Void (field (115 ∷ 105 ∷ 100 ∷ []) (tree (node (root.Text (115 ∷ 49 ∷ [])) no_fields) no_trees) no_fields)) }) ∷ call.Post (record { service = 0; op = (109 ∷ 111 ∷ 114 ∷ 101 ∷ []); value = (node root.Void (field (115 ∷ 105 ∷ 100 ∷ []) (tree (node (root.Text (115 ∷ 49 ∷ [])) no_fields) no_trees) no_fields)) }) ∷ call.Post (record { service = 0; op = (109 ∷ 111 ∷ 114 ∷ 101 ∷ []); value = (node root.Void (field (115 ∷ 105 ∷ 100 ∷ []) (tree (node (root.Text (115 ∷ 49 ∷ [])) no_fields) no_trees) no_fields)) }) ∷ call.Post (record { service = 0; op = (109 ∷ 111 ∷ 114 ∷ 101 ∷ []); value = (node root.Void (field (115 ∷ 105 ∷ 100 ∷ []) (tree (node (root.Text (115 ∷ 49 ∷ [])) no_fields) no_trees) no_fields)) }) ∷ call.Post (record { service = 0; op = (109 ∷ 111 ∷ 114 ∷ 101 ∷ []); value = (node root.Void (field (115 ∷ 105 ∷ 100 ∷ []) (tree (node (root.Text (115 ∷ 49 ∷ [])) no_fields) no_trees) no_fields)) }) ∷ call.Post (record { service = 0; op = (109 ∷ 111 ∷ 114 ∷ 101 ∷ []); value = (node root.Void (field (115 ∷ 105 ∷ 100 ∷ []) (tree (node (root.Text (115 ∷ 49 ∷ [])) no_fields) no_trees) no_fields)) }) ∷ call.Post (record { service = 0; op = (109 ∷ 111 ∷ 114 ∷ 101 ∷ []); value = (node root.Void (field (115 ∷ 105 ∷ 100 ∷ []) (tree (node (root.Text (115 ∷ 49 ∷ [])) no_fields) no_trees) no_fields)) }) ∷ call.Post (record { service = 0; op = (109 ∷ 111 ∷ 114 ∷ 101 ∷ []); value = (node root.Void (field (115 ∷ 105 ∷ 100 ∷ []) (tree (node (root.Text (115 ∷ 49 ∷ [])) no_fields) no_trees) no_fields)) }) ∷ call.Post (record { service = 0; op = (109 ∷ 111 ∷ 114 ∷ 101 ∷ []); value = (node root.Void (field (115 ∷ 105 ∷ 100 ∷ []) (tree (node (root.Text (115 ∷ 49 ∷ [])) no_fields) no_trees) no_fields)) }) ∷ call.Post (record { service = 0; op = (109 ∷ 111 ∷ 114 ∷ 101 ∷ []); value = (node root.Void (field (115 ∷ 105 ∷ 100 ∷ []) (tree (node (root.Text (115 ∷ 49 ∷ [])) no_fields) no_trees) no_fields)) }) ∷ call.Post (record { service = 0; op = (109 ∷ 111 ∷ 114 ∷ 101 ∷ []); value = (node root.Void (field (115 ∷ 105 ∷ 100 ∷ []) (tree (node (root.Text (115 ∷ 49 ∷ [])) no_fields) no_trees) no_fields)) }) ∷ call.Post (record { service = 0; op = (109 ∷ 111 ∷ 114 ∷ 101 ∷ []); value = (node root.Void (field (115 ∷ 105 ∷ 100 ∷ []) (tree (node (root.Text (115 ∷ 49 ∷ [])) no_fields) no_trees) no_fields)) }) ∷ call.Post (record { service = 0; op = (109 ∷ 111 ∷ 114 ∷ 101 ∷ []); value = (node root.Void (field (115 ∷ 105 ∷ 100 ∷ []) (tree (node (root.Text (115 ∷ 49 ∷ [])) no_fields) no_trees) no_fields)) }) ∷ call.Post (record { service = 0; op = (109 ∷ 111 ∷ 114 ∷ 101 ∷ []); value = (node root.Void (field (115 ∷ 105 ∷ 100 ∷ []) (tree (node (root.Text (115 ∷ 49 ∷ [])) no_fields) no_trees) no_fields)) }) ∷ call.Post (record { service = 0; op = (109 ∷ 111 ∷ 114 ∷ 101 ∷ []); value = (node root.Void (field (115 ∷ 105 ∷ 100 ∷ []) (tree (node (root.Text (115 ∷ 49 ∷ [])) no_fields) no_trees) no_fields)) }) ∷ call.Post (record { service = 0; op = (109 ∷ 111 ∷ 114 ∷ 101 ∷ []); value = (node root.Void (field (115 ∷ 105 ∷ 100 ∷ []) (tree (node (root.Text (115 ∷ 49 ∷ [])) no_fields) no_trees) no_fields)) }) ∷ call.Post (record { service = 0; op = (109 ∷ 111 ∷ 114 ∷ 101 ∷ []); value = (node root.Void (field (115 ∷ 105 ∷ 100 ∷ []) (tree (node (root.Text (115 ∷ 49 ∷ [])) no_fields) no_trees) no_fields)) }) ∷ call.Post (record { service = 0; op = (109 ∷ 111 ∷ 114 ∷ 101 ∷ []); value = (node root.Void (field (115 ∷ 105 ∷ 100 ∷ []) (tree (node (root.Text (115 ∷ 49 ∷ [])) no_fields) no_trees) no_fields)) }) ∷ call.Post (record { service = 0; op = (109 ∷ 111 ∷ 114 ∷ 101 ∷ []); value = (node root.Void (field (115 ∷ 105 ∷ 100 ∷ []) (tree (node (root.Text (115 ∷ 49 ∷ [])) no_fields) no_trees) no_fields)) }) ∷ call.Post (record { service = 0; op = (109 ∷ 111 ∷ 114 ∷ 101 ∷ []); value = (node root.Void (field (115 ∷ 105 ∷ 100 ∷ []) (tree (node (root.Text (115 ∷ 49 ∷ [])) no_fields) no_trees) no_fields)) }) ∷ call.Post (record { service = 0; op = (109 ∷ 111 ∷ 114 ∷ 101 ∷ []); value = (node root.Void (field (115 ∷ 105 ∷ 100 ∷ []) (tree (node (root.Text (115 ∷ 49 ∷ [])) no_fields) no_trees) no_fields)) }) ∷ call.Post (record { service = 0; op = (109 ∷ 111 ∷ 114 ∷ 101 ∷ []); value = (node root.Void (field (115 ∷ 105 ∷ 100 ∷ []) (tree (node (root.Text (115 ∷ 49 ∷ [])) no_fields) no_trees) no_fields)) }) ∷ call.Post (record { service = 0; op = (109 ∷ 111 ∷ 114 ∷ 101 ∷ []); value = (node root.Void (field (115 ∷ 105 ∷ 100 ∷ []) (tree (node (root.Text (115 ∷ 49 ∷ [])) no_fields) no_trees) no_fields)) }) ∷ call.Post (record { service = 0; op = (109 ∷ 111 ∷ 114 ∷ 101 ∷ []); value = (node root.Void (field (115 ∷ 105 ∷ 100 ∷ []) (tree (node (root.Text (115 ∷ 49 ∷ [])) no_fields) no_trees) no_fields)) }) ∷ call.Post (record { service = 0; op = (109 ∷ 111 ∷ 114 ∷ 101 ∷ []); value = (node root.Void (field (115 ∷ 105 ∷ 100 ∷ []) (tree (node (root.Text (115 ∷ 49 ∷ [])) no_fields) no_trees) no_fields)) }) ∷ call.Post (record { service = 0; op = (109 ∷ 111 ∷ 114 ∷ 101 ∷ []); value = (node root.Void (field (115 ∷ 105 ∷ 100 ∷ []) (tree (node (root.Text (115 ∷ 49 ∷ [])) no_fields) no_trees) no_fields)) }) ∷ call.Post (record { service = 0; op = (109 ∷ 111 ∷ 114 ∷ 101 ∷ []); value = (node root.Void (field (115 ∷ 105 ∷ 100 ∷ []) (tree (node (root.Text (115 ∷ 49 ∷ [])) no_fields) no_trees) no_fields)) }) ∷ call.Post (record { service = 0; op = (109 ∷ 111 ∷ 114 ∷ 101 ∷ []); value = (node root.Void (field (115 ∷ 105 ∷ 100 ∷ []) (tree (node (root.Text (115 ∷ 49 ∷ [])) no_fields) no_trees) no_fields)) }) ∷ call.Post (record { service = 0; op = (109 ∷ 111 ∷ 114 ∷ 101 ∷ []); value = (node root.Void (field (115 ∷ 105 ∷ 100 ∷ []) (tree (node (root.Text (115 ∷ 49 ∷ [])) no_fields) no_trees) no_fields)) }) ∷ call.Post (record { service = 0; op = (109 ∷ 111 ∷ 114 ∷ 101 ∷ []); value = (node root.Void (field (115 ∷ 105 ∷ 100 ∷ []) (tree (node (root.Text (115 ∷ 49 ∷ [])) no_fields) no_trees) no_fields)) }) ∷ call.Post (record { service = 0; op = (109 ∷ 111 ∷ 114 ∷ 101 ∷ []); value = (node root.Void (field (115 ∷ 105 ∷ 100 ∷ []) (tree (node (root.Text (115 ∷ 49 ∷ [])) no_fields) no_trees) no_fields)) }) ∷ call.Post (record { service = 0; op = (109 ∷ 111 ∷ 114 ∷ 101 ∷ []); value = (node root.Void (field (115 ∷ 105 ∷ 100 ∷ []) (tree (node (root.Text (115 ∷ 49 ∷ [])) no_fields) no_trees) no_fields)) }) ∷ call.Post (record { service = 0; op = (109 ∷ 111 ∷ 114 ∷ 101 ∷ []); value = (node root.Void (field (115 ∷ 105 ∷ 100 ∷ []) (tree (node (root.Text (115 ∷ 49 ∷ [])) no_fields) no_trees) no_fields)) }) ∷ call.Post (record { service = 0; op = (109 ∷ 111 ∷ 114 ∷ 101 ∷ []); value = (node root.Void (field (115 ∷ 105 ∷ 100 ∷ []) (tree (node (root.Text (115 ∷ 49 ∷ [])) no_fields) no_trees) no_fields)) }) ∷ call.Post (record { service = 0; op = (109 ∷ 111 ∷ 114 ∷ 101 ∷ []); value = (node root.Void (field (115 ∷ 105 ∷ 100 ∷ []) (tree (node (root.Text (115 ∷ 49 ∷ [])) no_fields) no_trees) no_fields)) }) ∷ call.Post (record { service = 0; op = (109 ∷ 111 ∷ 114 ∷ 101 ∷ []); value = (node root.Void (field (115 ∷ 105 ∷ 100 ∷ []) (tree (node (root.Text (115 ∷ 49 ∷ [])) no_fields) no_trees) no_fields)) }) ∷ call.Post (record { service = 0; op = (109 ∷ 111 ∷ 114 ∷ 101 ∷ []); value = (node root.Void (field (115 ∷ 105 ∷ 100 ∷ []) (tree (node (root.Text (115 ∷ 49 ∷ [])) no_fields) no_trees) no_fields)) }) ∷ call.Post (record { service = 0; op = (109 ∷ 111 ∷ 114 ∷ 101 ∷ []); value = (node root.Void (field (115 ∷ 105 ∷ 100 ∷ []) (tree (node (root.Text (115 ∷ 49 ∷ [])) no_fields) no_trees) no_fields)) }) ∷ call.Post (record { service = 0; op = (109 ∷ 111 ∷ 114 ∷ 101 ∷ []); value = (node root.Void (field (115 ∷ 105 ∷ 100 ∷ []) (tree (node (root.Text (115 ∷ 49 ∷ [])) no_fields) no_trees) no_fields)) }) ∷ call.Post (record { service = 0; op = (109 ∷ 111 ∷ 114 ∷ 101 ∷ []); value = (node root.Void (field (115 ∷ 105 ∷ 100 ∷ []) (tree (node (root.Text (115 ∷ 49 ∷ [])) no_fields) no_trees) no_fields)) }) ∷ call.Post (record { service = 0; op = (109 ∷ 111 ∷ 114 ∷ 101 ∷ []); value = (node root.Void (field (115 ∷ 105 ∷ 100 ∷ []) (tree (node (root.Text (115 ∷ 49 ∷ [])) no_fields) no_trees) no_fields)) }) ∷ call.Post (record { service = 0; op = (109 ∷ 111 ∷ 114 ∷ 101 ∷ []); value = (node root.Void (field (115 ∷ 105 ∷ 100 ∷ []) (tree (node (root.Text (115 ∷ 49 ∷ [])) no_fields) no_trees) no_fields)) }) ∷ call.Post (record { service = 0; op = (109 ∷ 111 ∷ 114 ∷ 101 ∷ []); value = (node root.Void (field (115 ∷ 105 ∷ 100 ∷ []) (tree (node (root.Text (115 ∷ 49 ∷ [])) no_fields) no_trees) no_fields)) }) ∷ call.Post (record { service = 0; op = (109 ∷ 111 ∷ 114 ∷ 101 ∷ []); value = (node root.Void (field (115 ∷ 105 ∷ 100 ∷ []) (tree (node (root.Text (115 ∷ 49 ∷ [])) no_fields) no_trees) no_fields)) }) ∷ call.Post (record { service = 0; op = (109 ∷ 111 ∷ 114 ∷ 101 ∷ []); value = (node root.Void (field (115 ∷ 105 ∷ 100 ∷ []) (tree (node (root.Text (115 ∷ 49 ∷ [])) no_fields) no_trees) no_fields)) }) ∷ call.Post (record { service = 0; op = (109 ∷ 111 ∷ 114 ∷ 101 ∷ []); value = (node root.Void (field (115 ∷ 105 ∷ 100 ∷ []) (tree (node (root.Text (115 ∷ 49 ∷ [])) no_fields) no_trees) no_fields)) }) ∷ call.Post (record { service = 0; op = (109 ∷ 111 ∷ 114 ∷ 101 ∷ []); value = (node root.Void (field (115 ∷ 105 ∷ 100 ∷ []) (tree (node (root.Text (115 ∷ 49 ∷ [])) no_fields) no_trees) no_fields)) }) ∷ call.Post (record { service = 0; op = (109 ∷ 111 ∷ 114 ∷ 101 ∷ []); value = (node root.Void (field (115 ∷ 105 ∷ 100 ∷ []) (tree (node (root.Text (115 ∷ 49 ∷ [])) no_fields) no_trees) no_fields)) }) ∷ call.Post (record { service = 0; op = (109 ∷ 111 ∷ 114 ∷ 101 ∷ []); value = (node root.Void (field (115 ∷ 105 ∷ 100 ∷ []) (tree (node (root.Text (115 ∷ 49 ∷ [])) no_fields) no_trees) no_fields)) }) ∷ call.Post (record { service = 0; op = (109 ∷ 111 ∷ 114 ∷ 101 ∷ []); value = (node root.Void (field (115 ∷ 105 ∷ 100 ∷ []) (tree (node (root.Text (115 ∷ 49 ∷ [])) no_fields) no_trees) no_fields)) }) ∷ call.Post (record { service = 0; op = (109 ∷ 111 ∷ 114 ∷ 101 ∷ []); value = (node root.Void (field (115 ∷ 105 ∷ 100 ∷ []) (tree (node (root.Text (115 ∷ 49 ∷ [])) no_fields) no_trees) no_fields)) }) ∷ call.Post (record { service = 0; op = (109 ∷ 111 ∷ 114 ∷ 101 ∷ []); value = (node root.Void (field (115 ∷ 105 ∷ 100 ∷ []) (tree (node (root.Text (115 ∷ 49 ∷ [])) no_fields) no_trees) no_fields)) }) ∷ call.Post (record { service = 0; op = (109 ∷ 111 ∷ 114 ∷ 101 ∷ []); value = (node root.Void (field (115 ∷ 105 ∷ 100 ∷ []) (tree (node (root.Text (115 ∷ 49 ∷ [])) no_fields) no_trees) no_fields)) }) ∷ call.Post (record { service = 0; op = (109 ∷ 111 ∷ 114 ∷ 101 ∷ []); value = (node root.Void (field (115 ∷ 105 ∷ 100 ∷ []) (tree (node (root.Text (115 ∷ 49 ∷ [])) no_fields) no_trees) no_fields)) }) ∷ call.Post (record { service = 0; op = (109 ∷ 111 ∷ 114 ∷ 101 ∷ []); value = (node root.Void (field (115 ∷ 105 ∷ 100 ∷ []) (tree (node (root.Text (115 ∷ 49 ∷ [])) no_fields) no_trees) no_fields)) }) ∷ call.Post (record { service = 0; op = (109 ∷ 111 ∷ 114 ∷ 101 ∷ []); value = (node root.Void (field (115 ∷ 105 ∷ 100 ∷ []) (tree (node (root.Text (115 ∷ 49 ∷ [])) no_fields) no_trees) no_fields)) }) ∷ call.Post (record { service = 0; op = (109 ∷ 111 ∷ 114 ∷ 101 ∷ []); value = (node root.Void (field (115 ∷ 105 ∷ 100 ∷ []) (tree (node (root.Text (115 ∷ 49 ∷ [])) no_fields) no_trees) no_fields)) }) ∷ call.Post (record { service = 0; op = (109 ∷ 111 ∷ 114 ∷ 101 ∷ []); value = (node root.Void (field (115 ∷ 105 ∷ 100 ∷ []) (tree (node (root.Text (115 ∷ 49 ∷ [])) no_fields) no_trees) no_fields)) }) ∷ call.Post (record { service = 0; op = (109 ∷ 111 ∷ 114 ∷ 101 ∷ []); value = (node root.Void (field (115 ∷ 105 ∷ 100 ∷ []) (tree (node (root.Text (115 ∷ 49 ∷ [])) no_fields) no_trees) no_fields)) }) ∷ call.Post (record { service = 0; op = (109 ∷ 111 ∷ 114 ∷ 101 ∷ []); value = (node root.Void (field (115 ∷ 105 ∷ 100 ∷ []) (tree (node (root.Text (115 ∷ 49 ∷ [])) no_fields) no_trees) no_fields)) }) ∷ call.Post (record { service = 0; op = (109 ∷ 111 ∷ 114 ∷ 101 ∷ []); value = (node root.Void (field (115 ∷ 105 ∷ 100 ∷ []) (tree (node (root.Text (115 ∷ 49 ∷ [])) no_fields) no_trees) no_fields)) }) ∷ call.Post (record { service = 0; op = (109 ∷ 111 ∷ 114 ∷ 101 ∷ []); value = (node root.Void (field (115 ∷ 105 ∷ 100 ∷ []) (tree (node (root.Text (115 ∷ 49 ∷ [])) no_fields) no_trees) no_fields)) }) ∷ call.Post (record { service = 0; op = (109 ∷ 111 ∷ 114 ∷ 101 ∷ []); value = (node root.Void (field (115 ∷ 105 ∷ 100 ∷ []) (tree (node (root.Text (115 ∷ 49 ∷ [])) no_fields) no_trees) no_fields)) }) ∷ call.Post (record { service = 0; op = (109 ∷ 111 ∷ 114 ∷ 101 ∷ []); value = (node root.Void (field (115 ∷ 105 ∷ 100 ∷ []) (tree (node (root.Text (115 ∷ 49 ∷ [])) no_fields) no_trees) no_fields)) }) ∷ call.Post (record { service = 0; op = (109 ∷ 111 ∷ 114 ∷ 101 ∷ []); value = (node root.Void (field (115 ∷ 105 ∷ 100 ∷ []) (tree (node (root.Text (115 ∷ 49 ∷ [])) no_fields) no_trees) no_fields)) }) ∷ call.Post (record { service = 0; op = (109 ∷ 111 ∷ 114 ∷ 101 ∷ []); value = (node root.Void (field (115 ∷ 105 ∷ 100 ∷ []) (tree (node (root.Text (115 ∷ 49 ∷ [])) no_fields) no_trees) no_fields)) }) ∷ call.Post (record { service = 0; op = (109 ∷ 111 ∷ 114 ∷ 101 ∷ []); value = (node root.Void (field (115 ∷ 105 ∷ 100 ∷ []) (tree (node (root.Text (115 ∷ 49 ∷ [])) no_fields) no_trees) no_fields)) }) ∷ call.Post (record { service = 0; op = (109 ∷ 111 ∷ 114 ∷ 101 ∷ []); value = (node root.Void (field (115 ∷ 105 ∷ 100 ∷ []) (tree (node (root.Text (115 ∷ 49 ∷ [])) no_fields) no_trees) no_fields)) }) ∷ call.Post (record { service = 0; op = (109 ∷ 111 ∷ 114 ∷ 101 ∷ []); value = (node root.Void (field (115 ∷ 105 ∷ 100 ∷ []) (tree (node (root.Text (115 ∷ 49 ∷ [])) no_fields) no_trees) no_fields)) }) ∷ call.Post (record { service = 0; op = (109 ∷ 111 ∷ 114 ∷ 101 ∷ []); value = (node root.Void (field (115 ∷ 105 ∷ 100 ∷ []) (tree (node (root.Text (115 ∷ 49 ∷ [])) no_fields) no_trees) no_fields)) }) ∷ call.Post (record { service = 0; op = (109 ∷ 111 ∷ 114 ∷ 101 ∷ []); value = (node root.Void (field (115 ∷ 105 ∷ 100 ∷ []) (tree (node (root.Text (115 ∷ 49 ∷ [])) no_fields) no_trees) no_fields)) }) ∷ call.Post (record { service = 0; op = (109 ∷ 111 ∷ 114 ∷ 101 ∷ []); value = (node root.Void (field (115 ∷ 105 ∷ 100 ∷ []) (tree (node (root.Text (115 ∷ 49 ∷ [])) no_fields) no_trees) no_fields)) }) ∷ call.Post (record { service = 0; op = (109 ∷ 111 ∷ 114 ∷ 101 ∷ []); value = (node root.Void (field (115 ∷ 105 ∷ 100 ∷ []) (tree (node (root.Text (115 ∷ 49 ∷ [])) no_fields) no_trees) no_fields)) }) ∷ call.Post (record { service = 0; op = (109 ∷ 111 ∷ 114 ∷ 101 ∷ []); value = (node root.Void (field (115 ∷ 105 ∷ 100 ∷ []) (tree (node (root.Text (115 ∷ 49 ∷ [])) no_fields) no_trees) no_fields)) }) ∷ call.Post (record { service = 0; op = (109 ∷ 111 ∷ 114 ∷ 101 ∷ []); value = (node root.Void (field (115 ∷ 105 ∷ 100 ∷ []) (tree (node (root.Text (115 ∷ 49 ∷ [])) no_fields) no_trees) no_fields)) }) ∷ call.Post (record { service = 0; op = (109 ∷ 111 ∷ 114 ∷ 101 ∷ []); value = (node root.Void (field (115 ∷ 105 ∷ 100 ∷ []) (tree (node (root.Text (115 ∷ 49 ∷ [])) no_fields) no_trees) no_fields)) }) ∷ call.Post (record { service = 0; op = (109 ∷ 111 ∷ 114 ∷ 101 ∷ []); value = (node root.Void (field (115 ∷ 105 ∷ 100 ∷ []) (tree (node (root.Text (115 ∷ 49 ∷ [])) no_fields) no_trees) no_fields)) }) ∷ call.Post (record { service = 0; op = (109 ∷ 111 ∷ 114 ∷ 101 ∷ []); value = (node root.Void (field (115 ∷ 105 ∷ 100 ∷ []) (tree (node (root.Text (115 ∷ 49 ∷ [])) no_fields) no_trees) no_fields)) }) ∷ call.Post (record { service = 0; op = (109 ∷ 111 ∷ 114 ∷ 101 ∷ []); value = (node root.Void (field (115 ∷ 105 ∷ 100 ∷ []) (tree (node (root.Text (115 ∷ 49 ∷ [])) no_fields) no_trees) no_fields)) }) ∷ call.Post (record { service = 0; op = (109 ∷ 111 ∷ 114 ∷ 101 ∷ []); value = (node root.Void (field (115 ∷ 105 ∷ 100 ∷ []) (tree (node (root.Text (115 ∷ 49 ∷ [])) no_fields) no_trees) no_fields)) }) ∷ call.Post (record { service = 0; op = (109 ∷ 111 ∷ 114 ∷ 101 ∷ []); value = (node root.Void (field (115 ∷ 105 ∷ 100 ∷ []) (tree (node (root.Text (115 ∷ 49 ∷ [])) no_fields) no_trees) no_fields)) }) ∷ call.Post (record { service = 0; op = (109 ∷ 111 ∷ 114 ∷ 101 ∷ []); value = (node root.Void (field (115 ∷ 105 ∷ 100 ∷ []) (tree (node (root.Text (115 ∷ 49 ∷ [])) no_fields) no_trees) no_fields)) }) ∷ call.Post (record { service = 0; op = (109 ∷ 111 ∷ 114 ∷ 101 ∷ []); value = (node root.Void (field (115 ∷ 105 ∷ 100 ∷ []) (tree (node (root.Text (115 ∷ 49 ∷ [])) no_fields) no_trees) no_fields)) }) ∷ call.Post (record { service = 0; op = (109 ∷ 111 ∷ 114 ∷ 101 ∷ []); value = (node root.Void (field (115 ∷ 105 ∷ 100 ∷ []) (tree (node (root.Text (115 ∷ 49 ∷ [])) no_fields) no_trees) no_fields)) }) ∷ call.Post (record { service = 0; op = (109 ∷ 111 ∷ 114 ∷ 101 ∷ []); value = (node root.Void (field (115 ∷ 105 ∷ 100 ∷ []) (tree (node (root.Text (115 ∷ 49 ∷ [])) no_fields) no_trees) no_fields)) }) ∷ call.Post (record { service = 0; op = (109 ∷ 111 ∷ 114 ∷ 101 ∷ []); value = (node root.Void (field (115 ∷ 105 ∷ 100 ∷ []) (tree (node (root.Text (115 ∷ 49 ∷ [])) no_fields) no_trees) no_fields)) }) ∷ call.Post (record { service = 0; op = (109 ∷ 111 ∷ 114 ∷ 101 ∷ []); value = (node root.Void (field (115 ∷ 105 ∷ 100 ∷ []) (tree (node (root.Text (115 ∷ 49 ∷ [])) no_fields) no_trees) no_fields)) }) ∷ call.Post (record { service = 0; op = (109 ∷ 111 ∷ 114 ∷ 101 ∷ []); value = (node root.Void (field (115 ∷ 105 ∷ 100 ∷ []) (tree (node (root.Text (115 ∷ 49 ∷ [])) no_fields) no_trees) no_fields)) }) ∷ call.Post (record { service = 0; op = (109 ∷ 111 ∷ 114 ∷ 101 ∷ []); value = (node root.Void (field (115 ∷ 105 ∷ 100 ∷ []) (tree (node (root.Text (115 ∷ 49 ∷ [])) no_fields) no_trees) no_fields)) }) ∷ call.Post (record { service = 0; op = (109 ∷ 111 ∷ 114 ∷ 101 ∷ []); value = (node root.Void (field (115 ∷ 105 ∷ 100 ∷ []) (tree (node (root.Text (115 ∷ 49 ∷ [])) no_fields) no_trees) no_fields)) }) ∷ call.Post (record { service = 0; op = (109 ∷ 111 ∷ 114 ∷ 101 ∷ []); value = (node root.Void (field (115 ∷ 105 ∷ 100 ∷ []) (tree (node (root.Text (115 ∷ 49 ∷ [])) no_fields) no_trees) no_fields)) }) ∷ call.Post (record { service = 0; op = (109 ∷ 111 ∷ 114 ∷ 101 ∷ []); value = (node root.Void (field (115 ∷ 105 ∷ 100 ∷ []) (tree (node (root.Text (115 ∷ 49 ∷ [])) no_fields) no_trees) no_fields)) }) ∷ call.Post (record { service = 0; op = (109 ∷ 111 ∷ 114 ∷ 101 ∷ []); value = (node root.Void (field (115 ∷ 105 ∷ 100 ∷ []) (tree (node (root.Text (115 ∷ 49 ∷ [])) no_fields) no_trees) no_fields)) }) ∷ call.Post (record { service = 0; op = (109 ∷ 111 ∷ 114 ∷ 101 ∷ []); value = (node root.Void (field (115 ∷ 105 ∷ 100 ∷ []) (tree (node (root.Text (115 ∷ 49 ∷ [])) no_fields) no_trees) no_fields)) }) ∷ call.Post (record { service = 0; op = (109 ∷ 111 ∷ 114 ∷ 101 ∷ []); value = (node root.Void (field (115 ∷ 105 ∷ 100 ∷ []) (tree (node (root.Text (115 ∷ 49 ∷ [])) no_fields) no_trees) no_fields)) }) ∷ call.Post (record { service = 0; op = (109 ∷ 111 ∷ 114 ∷ 101 ∷ []); value = (node root.Void (field (115 ∷ 105 ∷ 100 ∷ []) (tree (node (root.Text (115 ∷ 49 ∷ [])) no_fields) no_trees) no_fields)) }) ∷ call.Post (record { service = 0; op = (109 ∷ 111 ∷ 114 ∷ 101 ∷ []); value = (node root.Void (field (115 ∷ 105 ∷ 100 ∷ []) (tree (node (root.Text (115 ∷ 49 ∷ [])) no_fields) no_trees) no_fields)) }) ∷ call.Post (record { service = 0; op = (109 ∷ 111 ∷ 114 ∷ 101 ∷ []); value = (node root.Void (field (115 ∷ 105 ∷ 100 ∷ []) (tree (node (root.Text (115 ∷ 49 ∷ [])) no_fields) no_trees) no_fields)) }) ∷ call.Post (record { service = 0; op = (109 ∷ 111 ∷ 114 ∷ 101 ∷ []); value = (node root.Void (field (115 ∷ 105 ∷ 100 ∷ []) (tree (node (root.Text (115 ∷ 49 ∷ [])) no_fields) no_trees) no_fields)) }) ∷ call.Post (record { service = 0; op = (109 ∷ 111 ∷ 114 ∷ 101 ∷ []); value = (node root.Void (field (115 ∷ 105 ∷ 100 ∷ []) (tree (node (root.Text (115 ∷ 49 ∷ [])) no_fields) no_trees) no_fields)) }) ∷ call.Post (record { service = 0; op = (109 ∷ 111 ∷ 114 ∷ 101 ∷ []); value = (node root.Void (field (115 ∷ 105 ∷ 100 ∷ []) (tree (node (root.Text (115 ∷ 49 ∷ [])) no_fields) no_trees) no_fields)) }) ∷ call.Post (record { service = 0; op = (109 ∷ 111 ∷ 114 ∷ 101 ∷ []); value = (node root.Void (field (115 ∷ 105 ∷ 100 ∷ []) (tree (node (root.Text (115 ∷ 49 ∷ [])) no_fields) no_trees) no_fields)) }) ∷ call.Post (record { service = 0; op = (109 ∷ 111 ∷ 114 ∷ 101 ∷ []); value = (node root.Void (field (115 ∷ 105 ∷ 100 ∷ []) (tree (node (root.Text (115 ∷ 49 ∷ [])) no_fields) no_trees) no_fields)) }) ∷ call.Post (record { service = 0; op = (109 ∷ 111 ∷ 114 ∷ 101 ∷ []); value = (node root.Void (field (115 ∷ 105 ∷ 100 ∷ []) (tree (node (root.Text (115 ∷ 49 ∷ [])) no_fields) no_trees) no_fields)) }) ∷ call.Post (record { service = 0; op = (109 ∷ 111 ∷ 114 ∷ 101 ∷ []); value = (node root.Void (field (115 ∷ 105 ∷ 100 ∷ []) (tree (node (root.Text (115 ∷ 49 ∷ [])) no_fields) no_trees) no_fields)) }) ∷ call.Post (record { service = 0; op = (109 ∷ 111 ∷ 114 ∷ 101 ∷ []); value = (node root.Void (field (115 ∷ 105 ∷ 100 ∷ []) (tree (node (root.Text (115 ∷ 49 ∷ [])) no_fields) no_trees) no_fields)) }) ∷ call.Post (record { service = 0; op = (109 ∷ 111 ∷ 114 ∷ 101 ∷ []); value = (node root.Void (field (115 ∷ 105 ∷ 100 ∷ []) (tree (node (root.Text (115 ∷ 49 ∷ [])) no_fields) no_trees) no_fields)) }) ∷ call.Post (record { service = 0; op = (109 ∷ 111 ∷ 114 ∷ 101 ∷ []); value = (node root.Void (field (115 ∷ 105 ∷ 100 ∷ []) (tree (node (root.Text (115 ∷ 49 ∷ [])) no_fields) no_trees) no_fields)) }) ∷ call.Post (record { service = 0; op = (109 ∷ 111 ∷ 114 ∷ 101 ∷ []); value = (node root.Void (field (115 ∷ 105 ∷ 100 ∷ []) (tree (node (root.Text (115 ∷ 49 ∷ [])) no_fields) no_trees) no_fields)) }) ∷ call.Post (record { service = 0; op = (109 ∷ 111 ∷ 114 ∷ 101 ∷ []); value = (node root.Void (field (115 ∷ 105 ∷ 100 ∷ []) (tree (node (root.Text (115 ∷ 49 ∷ [])) no_fields) no_trees) no_fields)) }) ∷ call.Post (record { service = 0; op = (109 ∷ 111 ∷ 114 ∷ 101 ∷ []); value = (node root.Void (field (115 ∷ 105 ∷ 100 ∷ []) (tree (node (root.Text (115 ∷ 49 ∷ [])) no_fields) no_trees) no_fields)) }) ∷ call.Post (record { service = 0; op = (109 ∷ 111 ∷ 114 ∷ 101 ∷ []); value = (node root.Void (field (115 ∷ 105 ∷ 100 ∷ []) (tree (node (root.Text (115 ∷ 49 ∷ [])) no_fields) no_trees) no_fields)) }) ∷ call.Post (record { service = 0; op = (109 ∷ 111 ∷ 114 ∷ 101 ∷ []); value = (node root.Void (field (115 ∷ 105 ∷ 100 ∷ []) (tree (node (root.Text (115 ∷ 49 ∷ [])) no_fields) no_trees) no_fields)) }) ∷ call.Post (record { service = 0; op = (109 ∷ 111 ∷ 114 ∷ 101 ∷ []); value = (node root.Void (field (115 ∷ 105 ∷ 100 ∷ []) (tree (node (root.Text (115 ∷ 49 ∷ [])) no_fields) no_trees) no_fields)) }) ∷ call.Post (record { service = 0; op = (109 ∷ 111 ∷ 114 ∷ 101 ∷ []); value = (node root.Void (field (115 ∷ 105 ∷ 100 ∷ []) (tree (node (root.Text (115 ∷ 49 ∷ [])) no_fields) no_trees) no_fields)) }) ∷ call.Post (record { service = 0; op = (109 ∷ 111 ∷ 114 ∷ 101 ∷ []); value = (node root.Void (field (115 ∷ 105 ∷ 100 ∷ []) (tree (node (root.Text (115 ∷ 49 ∷ [])) no_fields) no_trees) no_fields)) }) ∷ call.Post (record { service = 0; op = (109 ∷ 111 ∷ 114 ∷ 101 ∷ []); value = (node root.Void (field (115 ∷ 105 ∷ 100 ∷ []) (tree (node (root.Text (115 ∷ 49 ∷ [])) no_fields) no_trees) no_fields)) }) ∷ call.Post (record { service = 0; op = (109 ∷ 111 ∷ 114 ∷ 101 ∷ []); value = (node root.Void (field (115 ∷ 105 ∷ 100 ∷ []) (tree (node (root.Text (115 ∷ 49 ∷ [])) no_fields) no_trees) no_fields)) }) ∷ call.Post (record { service = 0; op = (109 ∷ 111 ∷ 114 ∷ 101 ∷ []); value = (node root.Void (field (115 ∷ 105 ∷ 100 ∷ []) (tree (node (root.Text (115 ∷ 49 ∷ [])) no_fields) no_trees) no_fields)) }) ∷ call.Post (record { service = 0; op = (109 ∷ 111 ∷ 114 ∷ 101 ∷ []); value = (node root.Void (field (115 ∷ 105 ∷ 100 ∷ []) (tree (node (root.Text (115 ∷ 49 ∷ [])) no_fields) no_trees) no_fields)) }) ∷ call.Post (record { service = 0; op = (109 ∷ 111 ∷ 114 ∷ 101 ∷ []); value = (node root.Void (field (115 ∷ 105 ∷ 100 ∷ []) (tree (node (root.Text (115 ∷ 49 ∷ [])) no_fields) no_trees) no_fields)) }) ∷ call.Post (record { service = 0; op = (109 ∷ 111 ∷ 114 ∷ 101 ∷ []); value = (node root.Void (field (115 ∷ 105 ∷ 100 ∷ []) (tree (node (root.Text (115 ∷ 49 ∷ [])) no_fields) no_trees) no_fields)) }) ∷ call.Post (record { service = 0; op = (109 ∷ 111 ∷ 114 ∷ 101 ∷ []); value = (node root.Void (field (115 ∷ 105 ∷ 100 ∷ []) (tree (node (root.Text (115 ∷ 49 ∷ [])) no_fields) no_trees) no_fields)) }) ∷ call.Post (record { service = 0; op = (109 ∷ 111 ∷ 114 ∷ 101 ∷ []); value = (node root.Void (field (115 ∷ 105 ∷ 100 ∷ []) (tree (node (root.Text (115 ∷ 49 ∷ [])) no_fields) no_trees) no_fields)) }) ∷ call.Post (record { service = 0; op = (109 ∷ 111 ∷ 114 ∷ 101 ∷ []); value = (node root.Void (field (115 ∷ 105 ∷ 100 ∷ []) (tree (node (root.Text (115 ∷ 49 ∷ [])) no_fields) no_trees) no_fields)) }) ∷ call.Post (record { service = 0; op = (109 ∷ 111 ∷ 114 ∷ 101 ∷ []); value = (node root.Void (field (115 ∷ 105 ∷ 100 ∷ []) (tree (node (root.Text (115 ∷ 49 ∷ [])) no_fields) no_trees) no_fields)) }) ∷ call.Post (record { service = 0; op = (109 ∷ 111 ∷ 114 ∷ 101 ∷ []); value = (node root.Void (field (115 ∷ 105 ∷ 100 ∷ []) (tree (node (root.Text (115 ∷ 49 ∷ [])) no_fields) no_trees) no_fields)) }) ∷ call.Post (record { service = 0; op = (109 ∷ 111 ∷ 114 ∷ 101 ∷ []); value = (node root.Void (field (115 ∷ 105 ∷ 100 ∷ []) (tree (node (root.Text (115 ∷ 49 ∷ [])) no_fields) no_trees) no_fields)) }) ∷ call.Post (record { service = 0; op = (109 ∷ 111 ∷ 114 ∷ 101 ∷ []); value = (node root.Void (field (115 ∷ 105 ∷ 100 ∷ []) (tree (node (root.Text (115 ∷ 49 ∷ [])) no_fields) no_trees) no_fields)) }) ∷ call.Post (record { service = 0; op = (109 ∷ 111 ∷ 114 ∷ 101 ∷ []); value = (node root.Void (field (115 ∷ 105 ∷ 100 ∷ []) (tree (node (root.Text (115 ∷ 49 ∷ [])) no_fields) no_trees) no_fields)) }) ∷ call.Post (record { service = 0; op = (109 ∷ 111 ∷ 114 ∷ 101 ∷ []); value = (node root.Void (field (115 ∷ 105 ∷ 100 ∷ []) (tree (node (root.Text (115 ∷ 49 ∷ [])) no_fields) no_trees) no_fields)) }) ∷ call.Post (record { service = 0; op = (109 ∷ 111 ∷ 114 ∷ 101 ∷ []); value = (node root.Void (field (115 ∷ 105 ∷ 100 ∷ []) (tree (node (root.Text (115 ∷ 49 ∷ [])) no_fields) no_trees) no_fields)) }) ∷ call.Post (record { service = 0; op = (109 ∷ 111 ∷ 114 ∷ 101 ∷ []); value = (node root.Void (field (115 ∷ 105 ∷ 100 ∷ []) (tree (node (root.Text (115 ∷ 49 ∷ [])) no_fields) no_trees) no_fields)) }) ∷ call.Post (record { service = 0; op = (109 ∷ 111 ∷ 114 ∷ 101 ∷ []); value = (node root.Void (field (115 ∷ 105 ∷ 100 ∷ []) (tree (node (root.Text (115 ∷ 49 ∷ [])) no_fields) no_trees) no_fields)) }) ∷ call.Post (record { service = 0; op = (109 ∷ 111 ∷ 114 ∷ 101 ∷ []); value = (node root.Void (field (115 ∷ 105 ∷ 100 ∷ []) (tree (node (root.Text (115 ∷ 49 ∷ [])) no_fields) no_trees) no_fields)) }) ∷ call.Post (record { service = 0; op = (109 ∷ 111 ∷ 114 ∷ 101 ∷ []); value = (node root.Void (field (115 ∷ 105 ∷ 100 ∷ []) (tree (node (root.Text (115 ∷ 49 ∷ [])) no_fields) no_trees) no_fields)) }) ∷ call.Post (record { service = 0; op = (109 ∷ 111 ∷ 114 ∷ 101 ∷ []); value = (node root.Void (field (115 ∷ 105 ∷ 100 ∷ []) (tree (node (root.Text (115 ∷ 49 ∷ [])) no_fields) no_trees) no_fields)) }) ∷ call.Post (record { service = 0; op = (109 ∷ 111 ∷ 114 ∷ 101 ∷ []); value = (node root.Void (field (115 ∷ 105 ∷ 100 ∷ []) (tree (node (root.Text (115 ∷ 49 ∷ [])) no_fields) no_trees) no_fields)) }) ∷ call.Post (record { service = 0; op = (109 ∷ 111 ∷ 114 ∷ 101 ∷ []); value = (node root.Void (field (115 ∷ 105 ∷ 100 ∷ []) (tree (node (root.Text (115 ∷ 49 ∷ [])) no_fields) no_trees) no_fields)) }) ∷ call.Post (record { service = 0; op = (109 ∷ 111 ∷ 114 ∷ 101 ∷ []); value = (node root.Void (field (115 ∷ 105 ∷ 100 ∷ []) (tree (node (root.Text (115 ∷ 49 ∷ [])) no_fields) no_trees) no_fields)) }) ∷ call.Post (record { service = 0; op = (109 ∷ 111 ∷ 114 ∷ 101 ∷ []); value = (node root.Void (field (115 ∷ 105 ∷ 100 ∷ []) (tree (node (root.Text (115 ∷ 49 ∷ [])) no_fields) no_trees) no_fields)) }) ∷ call.Post (record { service = 0; op = (109 ∷ 111 ∷ 114 ∷ 101 ∷ []); value = (node root.Void (field (115 ∷ 105 ∷ 100 ∷ []) (tree (node (root.Text (115 ∷ 49 ∷ [])) no_fields) no_trees) no_fields)) }) ∷ call.Post (record { service = 0; op = (109 ∷ 111 ∷ 114 ∷ 101 ∷ []); value = (node root.Void (field (115 ∷ 105 ∷ 100 ∷ []) (tree (node (root.Text (115 ∷ 49 ∷ [])) no_fields) no_trees) no_fields)) }) ∷ call.Post (record { service = 0; op = (109 ∷ 111 ∷ 114 ∷ 101 ∷ []); value = (node root.Void (field (115 ∷ 105 ∷ 100 ∷ []) (tree (node (root.Text (115 ∷ 49 ∷ [])) no_fields) no_trees) no_fields)) }) ∷ call.Post (record { service = 0; op = (109 ∷ 111 ∷ 114 ∷ 101 ∷ []); value = (node root.Void (field (115 ∷ 105 ∷ 100 ∷ []) (tree (node (root.Text (115 ∷ 49 ∷ [])) no_fields) no_trees) no_fields)) }) ∷ call.Post (record { service = 0; op = (109 ∷ 111 ∷ 114 ∷ 101 ∷ []); value = (node root.Void (field (115 ∷ 105 ∷ 100 ∷ []) (tree (node (root.Text (115 ∷ 49 ∷ [])) no_fields) no_trees) no_fields)) }) ∷ call.Post (record { service = 0; op = (109 ∷ 111 ∷ 114 ∷ 101 ∷ []); value = (node root.Void (field (115 ∷ 105 ∷ 100 ∷ []) (tree (node (root.Text (115 ∷ 49 ∷ [])) no_fields) no_trees) no_fields)) }) ∷ call.Post (record { service = 0; op = (109 ∷ 111 ∷ 114 ∷ 101 ∷ []); value = (node root.Void (field (115 ∷ 105 ∷ 100 ∷ []) (tree (node (root.Text (115 ∷ 49 ∷ [])) no_fields) no_trees) no_fields)) }) ∷ call.Post (record { service = 0; op = (109 ∷ 111 ∷ 114 ∷ 101 ∷ []); value = (node root.Void (field (115 ∷ 105 ∷ 100 ∷ []) (tree (node (root.Text (115 ∷ 49 ∷ [])) no_fields) no_trees) no_fields)) }) ∷ call.Post (record { service = 0; op = (109 ∷ 111 ∷ 114 ∷ 101 ∷ []); value = (node root.Void (field (115 ∷ 105 ∷ 100 ∷ []) (tree (node (root.Text (115 ∷ 49 ∷ [])) no_fields) no_trees) no_fields)) }) ∷ call.Post (record { service = 0; op = (109 ∷ 111 ∷ 114 ∷ 101 ∷ []); value = (node root.Void (field (115 ∷ 105 ∷ 100 ∷ []) (tree (node (root.Text (115 ∷ 49 ∷ [])) no_fields) no_trees) no_fields)) }) ∷ call.Post (record { service = 0; op = (109 ∷ 111 ∷ 114 ∷ 101 ∷ []); value = (node root.Void (field (115 ∷ 105 ∷ 100 ∷ []) (tree (node (root.Text (115 ∷ 49 ∷ [])) no_fields) no_trees) no_fields)) }) ∷ call.Post (record { service = 0; op = (109 ∷ 111 ∷ 114 ∷ 101 ∷ []); value = (node root.Void (field (115 ∷ 105 ∷ 100 ∷ []) (tree (node (root.Text (115 ∷ 49 ∷ [])) no_fields) no_trees) no_fields)) }) ∷ call.Post (record { service = 0; op = (109 ∷ 111 ∷ 114 ∷ 101 ∷ []); value = (node root.Void (field (115 ∷ 105 ∷ 100 ∷ []) (tree (node (root.Text (115 ∷ 49 ∷ [])) no_fields) no_trees) no_fields)) }) ∷ call.Post (record { service = 0; op = (109 ∷ 111 ∷ 114 ∷ 101 ∷ []); value = (node root.Void (field (115 ∷ 105 ∷ 100 ∷ []) (tree (node (root.Text (115 ∷ 49 ∷ [])) no_fields) no_trees) no_fields)) }) ∷ call.Post (record { service = 0; op = (109 ∷ 111 ∷ 114 ∷ 101 ∷ []); value = (node root.Void (field (115 ∷ 105 ∷ 100 ∷ []) (tree (node (root.Text (115 ∷ 49 ∷ [])) no_fields) no_trees) no_fields)) }) ∷ call.Post (record { service = 0; op = (109 ∷ 111 ∷ 114 ∷ 101 ∷ []); value = (node root.Void (field (115 ∷ 105 ∷ 100 ∷ []) (tree (node (root.Text (115 ∷ 49 ∷ [])) no_fields) no_trees) no_fields)) }) ∷ call.Post (record { service = 0; op = (109 ∷ 111 ∷ 114 ∷ 101 ∷ []); value = (node root.Void (field (115 ∷ 105 ∷ 100 ∷ []) (tree (node (root.Text (115 ∷ 49 ∷ [])) no_fields) no_trees) no_fields)) }) ∷ call.Post (record { service = 0; op = (109 ∷ 111 ∷ 114 ∷ 101 ∷ []); value = (node root.Void (field (115 ∷ 105 ∷ 100 ∷ []) (tree (node (root.Text (115 ∷ 49 ∷ [])) no_fields) no_trees) no_fields)) }) ∷ call.Post (record { service = 0; op = (109 ∷ 111 ∷ 114 ∷ 101 ∷ []); value = (node root.Void (field (115 ∷ 105 ∷ 100 ∷ []) (tree (node (root.Text (115 ∷ 49 ∷ [])) no_fields) no_trees) no_fields)) }) ∷ call.Post (record { service = 0; op = (109 ∷ 111 ∷ 114 ∷ 101 ∷ []); value = (node root.Void (field (115 ∷ 105 ∷ 100 ∷ []) (tree (node (root.Text (115 ∷ 49 ∷ [])) no_fields) no_trees) no_fields)) }) ∷ call.Post (record { service = 0; op = (109 ∷ 111 ∷ 114 ∷ 101 ∷ []); value = (node root.Void (field (115 ∷ 105 ∷ 100 ∷ []) (tree (node (root.Text (115 ∷ 49 ∷ [])) no_fields) no_trees) no_fields)) }) ∷ call.Post (record { service = 0; op = (109 ∷ 111 ∷ 114 ∷ 101 ∷ []); value = (node root.Void (field (115 ∷ 105 ∷ 100 ∷ []) (tree (node (root.Text (115 ∷ 49 ∷ [])) no_fields) no_trees) no_fields)) }) ∷ call.Post (record { service = 0; op = (109 ∷ 111 ∷ 114 ∷ 101 ∷ []); value = (node root.Void (field (115 ∷ 105 ∷ 100 ∷ []) (tree (node (root.Text (115 ∷ 49 ∷ [])) no_fields) no_trees) no_fields)) }) ∷ call.Post (record { service = 0; op = (109 ∷ 111 ∷ 114 ∷ 101 ∷ []); value = (node root.Void (field (115 ∷ 105 ∷ 100 ∷ []) (tree (node (root.Text (115 ∷ 49 ∷ [])) no_fields) no_trees) no_fields)) }) ∷ call.Post (record { service = 0; op = (109 ∷ 111 ∷ 114 ∷ 101 ∷ []); value = (node root.Void (field (115 ∷ 105 ∷ 100 ∷ []) (tree (node (root.Text (115 ∷ 49 ∷ [])) no_fields) no_trees) no_fields)) }) ∷ call.Post (record { service = 0; op = (109 ∷ 111 ∷ 114 ∷ 101 ∷ []); value = (node root.Void (field (115 ∷ 105 ∷ 100 ∷ []) (tree (node (root.Text (115 ∷ 49 ∷ [])) no_fields) no_trees) no_fields)) }) ∷ call.Post (record { service = 0; op = (109 ∷ 111 ∷ 114 ∷ 101 ∷ []); value = (node root.Void (field (115 ∷ 105 ∷ 100 ∷ []) (tree (node (root.Text (115 ∷ 49 ∷ [])) no_fields) no_trees) no_fields)) }) ∷ call.Post (record { service = 0; op = (109 ∷ 111 ∷ 114 ∷ 101 ∷ []); value = (node root.Void (field (115 ∷ 105 ∷ 100 ∷ []) (tree (node (root.Text (115 ∷ 49 ∷ [])) no_fields) no_trees) no_fields)) }) ∷ call.Post (record { service = 0; op = (109 ∷ 111 ∷ 114 ∷ 101 ∷ []); value = (node root.Void (field (115 ∷ 105 ∷ 100 ∷ []) (tree (node (root.Text (115 ∷ 49 ∷ [])) no_fields) no_trees) no_fields)) }) ∷ call.Post (record { service = 0; op = (109 ∷ 111 ∷ 114 ∷ 101 ∷ []); value = (node root.Void (field (115 ∷ 105 ∷ 100 ∷ []) (tree (node (root.Text (115 ∷ 49 ∷ [])) no_fields) no_trees) no_fields)) }) ∷ call.Post (record { service = 0; op = (109 ∷ 111 ∷ 114 ∷ 101 ∷ []); value = (node root.Void (field (115 ∷ 105 ∷ 100 ∷ []) (tree (node (root.Text (115 ∷ 49 ∷ [])) no_fields) no_trees) no_fields)) }) ∷ call.Post (record { service = 0; op = (109 ∷ 111 ∷ 114 ∷ 101 ∷ []); value = (node root.Void (field (115 ∷ 105 ∷ 100 ∷ []) (tree (node (root.Text (115 ∷ 49 ∷ [])) no_fields) no_trees) no_fields)) }) ∷ call.Post (record { service = 0; op = (109 ∷ 111 ∷ 114 ∷ 101 ∷ []); value = (node root.Void (field (115 ∷ 105 ∷ 100 ∷ []) (tree (node (root.Text (115 ∷ 49 ∷ [])) no_fields) no_trees) no_fields)) }) ∷ call.Post (record { service = 0; op = (109 ∷ 111 ∷ 114 ∷ 101 ∷ []); value = (node root.Void (field (115 ∷ 105 ∷ 100 ∷ []) (tree (node (root.Text (115 ∷ 49 ∷ [])) no_fields) no_trees) no_fields)) }) ∷ call.Post (record { service = 0; op = (109 ∷ 111 ∷ 114 ∷ 101 ∷ []); value = (node root.Void (field (115 ∷ 105 ∷ 100 ∷ []) (tree (node (root.Text (115 ∷ 49 ∷ [])) no_fields) no_trees) no_fields)) }) ∷ call.Post (record { service = 0; op = (109 ∷ 111 ∷ 114 ∷ 101 ∷ []); value = (node root.Void (field (115 ∷ 105 ∷ 100 ∷ []) (tree (node (root.Text (115 ∷ 49 ∷ [])) no_fields) no_trees) no_fields)) }) ∷ call.Post (record { service = 0; op = (109 ∷ 111 ∷ 114 ∷ 101 ∷ []); value = (node root.Void (field (115 ∷ 105 ∷ 100 ∷ []) (tree (node (root.Text (115 ∷ 49 ∷ [])) no_fields) no_trees) no_fields)) }) ∷ call.Post (record { service = 0; op = (109 ∷ 111 ∷ 114 ∷ 101 ∷ []); value = (node root.Void (field (115 ∷ 105 ∷ 100 ∷ []) (tree (node (root.Text (115 ∷ 49 ∷ [])) no_fields) no_trees) no_fields)) }) ∷ call.Post (record { service = 0; op = (109 ∷ 111 ∷ 114 ∷ 101 ∷ []); value = (node root.Void (field (115 ∷ 105 ∷ 100 ∷ []) (tree (node (root.Text (115 ∷ 49 ∷ [])) no_fields) no_trees) no_fields)) }) ∷ call.Post (record { service = 0; op = (109 ∷ 111 ∷ 114 ∷ 101 ∷ []); value = (node root.Void (field (115 ∷ 105 ∷ 100 ∷ []) (tree (node (root.Text (115 ∷ 49 ∷ [])) no_fields) no_trees) no_fields)) }) ∷ call.Post (record { service = 0; op = (109 ∷ 111 ∷ 114 ∷ 101 ∷ []); value = (node root.Void (field (115 ∷ 105 ∷ 100 ∷ []) (tree (node (root.Text (115 ∷ 49 ∷ [])) no_fields) no_trees) no_fields)) }) ∷ call.Post (record { service = 0; op = (109 ∷ 111 ∷ 114 ∷ 101 ∷ []); value = (node root.Void (field (115 ∷ 105 ∷ 100 ∷ []) (tree (node (root.Text (115 ∷ 49 ∷ [])) no_fields) no_trees) no_fields)) }) ∷ call.Post (record { service = 0; op = (109 ∷ 111 ∷ 114 ∷ 101 ∷ []); value = (node root.Void (field (115 ∷ 105 ∷ 100 ∷ []) (tree (node (root.Text (115 ∷ 49 ∷ [])) no_fields) no_trees) no_fields)) }) ∷ call.Post (record { service = 0; op = (109 ∷ 111 ∷ 114 ∷ 101 ∷ []); value = (node root.Void (field (115 ∷ 105 ∷ 100 ∷ []) (tree (node (root.Text (115 ∷ 49 ∷ [])) no_fields) no_trees) no_fields)) }) ∷ call.Post (record { service = 0; op = (109 ∷ 111 ∷ 114 ∷ 101 ∷ []); value = (node root.Void (field (115 ∷ 105 ∷ 100 ∷ []) (tree (node (root.Text (115 ∷ 49 ∷ [])) no_fields) no_trees) no_fields)) }) ∷ call.Post (record { service = 0; op = (109 ∷ 111 ∷ 114 ∷ 101 ∷ []); value = (node root.Void (field (115 ∷ 105 ∷ 100 ∷ []) (tree (node (root.Text (115 ∷ 49 ∷ [])) no_fields) no_trees) no_fields)) }) ∷ call.Post (record { service = 0; op = (109 ∷ 111 ∷ 114 ∷ 101 ∷ []); value = (node root.Void (field (115 ∷ 105 ∷ 100 ∷ []) (tree (node (root.Text (115 ∷ 49 ∷ [])) no_fields) no_trees) no_fields)) }) ∷ call.Post (record { service = 0; op = (109 ∷ 111 ∷ 114 ∷ 101 ∷ []); value = (node root.Void (field (115 ∷ 105 ∷ 100 ∷ []) (tree (node (root.Text (115 ∷ 49 ∷ [])) no_fields) no_trees) no_fields)) }) ∷ call.Post (record { service = 0; op = (109 ∷ 111 ∷ 114 ∷ 101 ∷ []); value = (node root.Void (field (115 ∷ 105 ∷ 100 ∷ []) (tree (node (root.Text (115 ∷ 49 ∷ [])) no_fields) no_trees) no_fields)) }) ∷ call.Post (record { service = 0; op = (109 ∷ 111 ∷ 114 ∷ 101 ∷ []); value = (node root.Void (field (115 ∷ 105 ∷ 100 ∷ []) (tree (node (root.Text (115 ∷ 49 ∷ [])) no_fields) no_trees) no_fields)) }) ∷ call.Post (record { service = 0; op = (109 ∷ 111 ∷ 114 ∷ 101 ∷ []); value = (node root.Void (field (115 ∷ 105 ∷ 100 ∷ []) (tree (node (root.Text (115 ∷ 49 ∷ [])) no_fields) no_trees) no_fields)) }) ∷ call.Post (record { service = 0; op = (109 ∷ 111 ∷ 114 ∷ 101 ∷ []); value = (node root.Void (field (115 ∷ 105 ∷ 100 ∷ []) (tree (node (root.Text (115 ∷ 49 ∷ [])) no_fields) no_trees) no_fields)) }) ∷ call.Post (record { service = 0; op = (109 ∷ 111 ∷ 114 ∷ 101 ∷ []); value = (node root.Void (field (115 ∷ 105 ∷ 100 ∷ []) (tree (node (root.Text (115 ∷ 49 ∷ [])) no_fields) no_trees) no_fields)) }) ∷ call.Post (record { service = 0; op = (109 ∷ 111 ∷ 114 ∷ 101 ∷ []); value = (node root.Void (field (115 ∷ 105 ∷ 100 ∷ []) (tree (node (root.Text (115 ∷ 49 ∷ [])) no_fields) no_trees) no_fields)) }) ∷ call.Post (record { service = 0; op = (109 ∷ 111 ∷ 114 ∷ 101 ∷ []); value = (node root.Void (field (115 ∷ 105 ∷ 100 ∷ []) (tree (node (root.Text (115 ∷ 49 ∷ [])) no_fields) no_trees) no_fields)) }) ∷ call.Post (record { service = 0; op = (109 ∷ 111 ∷ 114 ∷ 101 ∷ []); value = (node root.Void (field (115 ∷ 105 ∷ 100 ∷ []) (tree (node (root.Text (115 ∷ 49 ∷ [])) no_fields) no_trees) no_fields)) }) ∷ call.Post (record { service = 0; op = (109 ∷ 111 ∷ 114 ∷ 101 ∷ []); value = (node root.Void (field (115 ∷ 105 ∷ 100 ∷ []) (tree (node (root.Text (115 ∷ 49 ∷ [])) no_fields) no_trees) no_fields)) }) ∷ []) } ∷ [])

pub posted : posts_by first_worker history ≡ posts_of 0 postings
posted = refl

pub tells : told_from setting (past_of setting history) 0 postings ≡ (
    Some ((outcome.Value (node (root.Text (111 ∷ 115 ∷ 49 ∷ [])) no_fields)) ∷ []) ∷
    Some ((outcome.Value (node (root.Text (109 ∷ 115 ∷ 49 ∷ [])) no_fields)) ∷ (outcome.Refused reason.SessionEnded) ∷ (outcome.Refused reason.SessionEnded) ∷ (outcome.Refused reason.SessionEnded) ∷ (outcome.Refused reason.SessionEnded) ∷ (outcome.Refused reason.SessionEnded) ∷ (outcome.Refused reason.SessionEnded) ∷ (outcome.Refused reason.SessionEnded) ∷ (outcome.Refused reason.SessionEnded) ∷ (outcome.Refused reason.SessionEnded) ∷ (outcome.Refused reason.SessionEnded) ∷ (outcome.Refused reason.SessionEnded) ∷ (outcome.Refused reason.SessionEnded) ∷ (outcome.Refused reason.SessionEnded) ∷ (outcome.Refused reason.SessionEnded) ∷ (outcome.Refused reason.SessionEnded) ∷ (outcome.Refused reason.SessionEnded) ∷ (outcome.Refused reason.SessionEnded) ∷ (outcome.Refused reason.SessionEnded) ∷ (outcome.Refused reason.SessionEnded) ∷ (outcome.Refused reason.SessionEnded) ∷ (outcome.Refused reason.SessionEnded) ∷ (outcome.Refused reason.SessionEnded) ∷ (outcome.Refused reason.SessionEnded) ∷ (outcome.Refused reason.SessionEnded) ∷ (outcome.Refused reason.SessionEnded) ∷ (outcome.Refused reason.SessionEnded) ∷ (outcome.Refused reason.SessionEnded) ∷ (outcome.Refused reason.SessionEnded) ∷ (outcome.Refused reason.SessionEnded) ∷ (outcome.Refused reason.SessionEnded) ∷ (outcome.Refused reason.SessionEnded) ∷ (outcome.Refused reason.SessionEnded) ∷ (outcome.Refused reason.SessionEnded) ∷ (outcome.Refused reason.SessionEnded) ∷ (outcome.Refused reason.SessionEnded) ∷ (outcome.Refused reason.SessionEnded) ∷ (outcome.Refused reason.SessionEnded) ∷ (outcome.Refused reason.SessionEnded) ∷ (outcome.Refused reason.SessionEnded) ∷ (outcome.Refused reason.SessionEnded) ∷ (outcome.Refused reason.SessionEnded) ∷ (outcome.Refused reason.SessionEnded) ∷ (outcome.Refused reason.SessionEnded) ∷ (outcome.Refused reason.SessionEnded) ∷ (outcome.Refused reason.SessionEnded) ∷ (outcome.Refused reason.SessionEnded) ∷ (outcome.Refused reason.SessionEnded) ∷ (outcome.Refused reason.SessionEnded) ∷ (outcome.Refused reason.SessionEnded) ∷ (outcome.Refused reason.SessionEnded) ∷ (outcome.Refused reason.SessionEnded) ∷ (outcome.Refused reason.SessionEnded) ∷ (outcome.Refused reason.SessionEnded) ∷ (outcome.Refused reason.SessionEnded) ∷ (outcome.Refused reason.SessionEnded) ∷ (outcome.Refused reason.SessionEnded) ∷ (outcome.Refused reason.SessionEnded) ∷ (outcome.Refused reason.SessionEnded) ∷ (outcome.Refused reason.SessionEnded) ∷ (outcome.Refused reason.SessionEnded) ∷ (outcome.Refused reason.SessionEnded) ∷ (outcome.Refused reason.SessionEnded) ∷ (outcome.Refused reason.SessionEnded) ∷ (outcome.Refused reason.SessionEnded) ∷ (outcome.Refused reason.SessionEnded) ∷ (outcome.Refused reason.SessionEnded) ∷ (outcome.Refused reason.SessionEnded) ∷ (outcome.Refused reason.SessionEnded) ∷ (outcome.Refused reason.SessionEnded) ∷ (outcome.Refused reason.SessionEnded) ∷ (outcome.Refused reason.SessionEnded) ∷ (outcome.Refused reason.SessionEnded) ∷ (outcome.Refused reason.SessionEnded) ∷ (outcome.Refused reason.SessionEnded) ∷ (outcome.Refused reason.SessionEnded) ∷ (outcome.Refused reason.SessionEnded) ∷ (outcome.Refused reason.SessionEnded) ∷ (outcome.Refused reason.SessionEnded) ∷ (outcome.Refused reason.SessionEnded) ∷ (outcome.Refused reason.SessionEnded) ∷ (outcome.Refused reason.SessionEnded) ∷ (outcome.Refused reason.SessionEnded) ∷ (outcome.Refused reason.SessionEnded) ∷ (outcome.Refused reason.SessionEnded) ∷ (outcome.Refused reason.SessionEnded) ∷ (outcome.Refused reason.SessionEnded) ∷ (outcome.Refused reason.SessionEnded) ∷ (outcome.Refused reason.SessionEnded) ∷ (outcome.Refused reason.SessionEnded) ∷ (outcome.Refused reason.SessionEnded) ∷ (outcome.Refused reason.SessionEnded) ∷ (outcome.Refused reason.SessionEnded) ∷ (outcome.Refused reason.SessionEnded) ∷ (outcome.Refused reason.SessionEnded) ∷ (outcome.Refused reason.SessionEnded) ∷ (outcome.Refused reason.SessionEnded) ∷ (outcome.Refused reason.SessionEnded) ∷ (outcome.Refused reason.SessionEnded) ∷ (outcome.Refused reason.SessionEnded) ∷ (outcome.Refused reason.SessionEnded) ∷ (outcome.Refused reason.SessionEnded) ∷ (outcome.Refused reason.SessionEnded) ∷ (outcome.Refused reason.SessionEnded) ∷ (outcome.Refused reason.SessionEnded) ∷ (outcome.Refused reason.SessionEnded) ∷ (outcome.Refused reason.SessionEnded) ∷ (outcome.Refused reason.SessionEnded) ∷ (outcome.Refused reason.SessionEnded) ∷ (outcome.Refused reason.SessionEnded) ∷ (outcome.Refused reason.SessionEnded) ∷ (outcome.Refused reason.SessionEnded) ∷ (outcome.Refused reason.SessionEnded) ∷ (outcome.Refused reason.SessionEnded) ∷ (outcome.Refused reason.SessionEnded) ∷ (outcome.Refused reason.SessionEnded) ∷ (outcome.Refused reason.SessionEnded) ∷ (outcome.Refused reason.SessionEnded) ∷ (outcome.Refused reason.SessionEnded) ∷ (outcome.Refused reason.SessionEnded) ∷ (outcome.Refused reason.SessionEnded) ∷ (outcome.Refused reason.SessionEnded) ∷ (outcome.Refused reason.SessionEnded) ∷ (outcome.Refused reason.SessionEnded) ∷ (outcome.Refused reason.SessionEnded) ∷ (outcome.Refused reason.SessionEnded) ∷ (outcome.Refused reason.SessionEnded) ∷ (outcome.Refused reason.SessionEnded) ∷ (outcome.Refused reason.SessionEnded) ∷ (outcome.Refused reason.SessionEnded) ∷ (outcome.Refused reason.SessionEnded) ∷ (outcome.Refused reason.SessionEnded) ∷ (outcome.Refused reason.SessionEnded) ∷ (outcome.Refused reason.SessionEnded) ∷ (outcome.Refused reason.SessionEnded) ∷ (outcome.Refused reason.SessionEnded) ∷ (outcome.Refused reason.SessionEnded) ∷ (outcome.Refused reason.SessionEnded) ∷ (outcome.Refused reason.SessionEnded) ∷ (outcome.Refused reason.SessionEnded) ∷ (outcome.Refused reason.SessionEnded) ∷ (outcome.Refused reason.SessionEnded) ∷ (outcome.Refused reason.SessionEnded) ∷ (outcome.Refused reason.SessionEnded) ∷ (outcome.Refused reason.SessionEnded) ∷ (outcome.Refused reason.SessionEnded) ∷ (outcome.Refused reason.SessionEnded) ∷ (outcome.Refused reason.SessionEnded) ∷ (outcome.Refused reason.SessionEnded) ∷ (outcome.Refused reason.SessionEnded) ∷ (outcome.Refused reason.SessionEnded) ∷ (outcome.Refused reason.SessionEnded) ∷ (outcome.Refused reason.SessionEnded) ∷ (outcome.Refused reason.SessionEnded) ∷ (outcome.Refused reason.SessionEnded) ∷ (outcome.Refused reason.SessionEnded) ∷ (outcome.Refused reason.SessionEnded) ∷ (outcome.Refused reason.SessionEnded) ∷ (outcome.Refused reason.SessionEnded) ∷ (outcome.Refused reason.SessionEnded) ∷ (outcome.Refused reason.SessionEnded) ∷ (outcome.Refused reason.SessionEnded) ∷ (outcome.Refused reason.SessionEnded) ∷ (outcome.Refused reason.SessionEnded) ∷ (outcome.Refused reason.SessionEnded) ∷ (outcome.Refused reason.SessionEnded) ∷ (outcome.Refused reason.SessionEnded) ∷ (outcome.Refused reason.SessionEnded) ∷ (outcome.Refused reason.SessionEnded) ∷ (outcome.Refused reason.SessionEnded) ∷ (outcome.Refused reason.SessionEnded) ∷ (outcome.Refused reason.SessionEnded) ∷ (outcome.Refused reason.SessionEnded) ∷ (outcome.Refused reason.SessionEnded) ∷ (outcome.Refused reason.SessionEnded) ∷ (outcome.Refused reason.SessionEnded) ∷ (outcome.Refused reason.SessionEnded) ∷ (outcome.Refused reason.SessionEnded) ∷ (outcome.Refused reason.SessionEnded) ∷ (outcome.Refused reason.SessionEnded) ∷ (outcome.Refused reason.SessionEnded) ∷ (outcome.Refused reason.SessionEnded) ∷ (outcome.Refused reason.SessionEnded) ∷ (outcome.Refused reason.SessionEnded) ∷ (outcome.Refused reason.SessionEnded) ∷ (outcome.Refused reason.SessionEnded) ∷ (outcome.Refused reason.SessionEnded) ∷ (outcome.Refused reason.SessionEnded) ∷ (outcome.Refused reason.SessionEnded) ∷ (outcome.Refused reason.SessionEnded) ∷ (outcome.Refused reason.SessionEnded) ∷ (outcome.Refused reason.SessionEnded) ∷ (outcome.Refused reason.SessionEnded) ∷ (outcome.Refused reason.SessionEnded) ∷ (outcome.Refused reason.SessionEnded) ∷ (outcome.Refused reason.SessionEnded) ∷ (outcome.Refused reason.SessionEnded) ∷ (outcome.Refused reason.SessionEnded) ∷ (outcome.Refused reason.SessionEnded) ∷ (outcome.Refused reason.SessionEnded) ∷ (outcome.Refused reason.SessionEnded) ∷ (outcome.Refused reason.SessionEnded) ∷ (outcome.Refused reason.SessionEnded) ∷ (outcome.Refused reason.SessionEnded) ∷ (outcome.Refused reason.SessionEnded) ∷ (outcome.Refused reason.SessionEnded) ∷ (outcome.Refused reason.SessionEnded) ∷ (outcome.Refused reason.SessionEnded) ∷ (outcome.Refused reason.SessionEnded) ∷ (outcome.Refused reason.SessionEnded) ∷ (outcome.Refused reason.SessionEnded) ∷ (outcome.Refused reason.SessionEnded) ∷ (outcome.Refused reason.SessionEnded) ∷ (outcome.Refused reason.SessionEnded) ∷ (outcome.Refused reason.SessionEnded) ∷ (outcome.Refused reason.SessionEnded) ∷ (outcome.Refused reason.SessionEnded) ∷ (outcome.Refused reason.SessionEnded) ∷ (outcome.Refused reason.SessionEnded) ∷ (outcome.Refused reason.SessionEnded) ∷ (outcome.Refused reason.SessionEnded) ∷ (outcome.Refused reason.SessionEnded) ∷ (outcome.Refused reason.SessionEnded) ∷ (outcome.Refused reason.SessionEnded) ∷ (outcome.Refused reason.SessionEnded) ∷ (outcome.Refused reason.SessionEnded) ∷ (outcome.Refused reason.SessionEnded) ∷ (outcome.Refused reason.SessionEnded) ∷ (outcome.Refused reason.SessionEnded) ∷ (outcome.Refused reason.SessionEnded) ∷ (outcome.Refused reason.SessionEnded) ∷ (outcome.Refused reason.SessionEnded) ∷ (outcome.Refused reason.SessionEnded) ∷ (outcome.Refused reason.SessionEnded) ∷ (outcome.Refused reason.SessionEnded) ∷ (outcome.Refused reason.SessionEnded) ∷ (outcome.Refused reason.SessionEnded) ∷ (outcome.Refused reason.SessionEnded) ∷ (outcome.Refused reason.SessionEnded) ∷ (outcome.Refused reason.SessionEnded) ∷ (outcome.Refused reason.SessionEnded) ∷ (outcome.Refused reason.SessionEnded) ∷ (outcome.Refused reason.SessionEnded) ∷ (outcome.Refused reason.SessionEnded) ∷ (outcome.Refused reason.SessionEnded) ∷ (outcome.Refused reason.SessionEnded) ∷ (outcome.Refused reason.SessionEnded) ∷ (outcome.Refused reason.SessionEnded) ∷ (outcome.Refused reason.SessionEnded) ∷ (outcome.Refused reason.SessionEnded) ∷ (outcome.Refused reason.SessionEnded) ∷ (outcome.Refused reason.SessionEnded) ∷ (outcome.Refused reason.SessionEnded) ∷ (outcome.Refused reason.SessionEnded) ∷ (outcome.Refused reason.SessionEnded) ∷ (outcome.Refused reason.SessionEnded) ∷ (outcome.Refused reason.BoxFull) ∷ []) ∷ [])
tells = refl

pub order : order_alone setting history first_worker 2 ≡ (0 ∷ 1 ∷ [])
order = refl

pub noted : notes setting history ≡ []
unfolding digits
noted = refl

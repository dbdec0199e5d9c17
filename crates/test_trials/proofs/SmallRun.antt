-- Few messages: the third is refused before anything is asked of it.
use Rattle.std.specs.Prelude.{◌≡◌, ℕ, pos, negsuc, Bool, true, false, List, [], ◌∷◌, take, Option, None, Some}
use Rattle.std.proofs.Common.{refl}
use Rattle.std.specs.Fmt.{digits}
use Rattle.jolie_trees.specs.declared.root.Root.TheVariants as root
use Rattle.jolie_trees.specs.Data.{Tree, node, Fields, no_fields, field, Trees, no_trees, tree}
use Rattle.behaviour_tree.specs.declared.types.RootKind.TheVariants as kinds
use Rattle.behaviour_tree.specs.declared.expr.CompareOp.TheVariants as compare
use Rattle.behaviour_tree.specs.declared.expr.SumOp.TheVariants as sums
use Rattle.behaviour_tree.specs.declared.expr.MulOp.TheVariants as muls
use Rattle.behaviour_tree.specs.declared.expr.CastKind.TheVariants as casts
use Rattle.behaviour_tree.specs.declared.behaviour.HandlerKey.TheVariants as key
use Rattle.behaviour_tree.specs.declared.program.Execution.TheVariants as execution
use Rattle.behaviour_tree.specs.declared.words.Event.{Event}
use Rattle.behaviour_tree.specs.declared.words.Kind.TheVariants as kind
use Rattle.behaviour_tree.specs.declared.words.Outcome.TheVariants as outcome
use Rattle.behaviour_tree.specs.declared.words.Reason.TheVariants as reason
use Rattle.behaviour_tree.specs.Data.{plain, named, undefined, no_type_fields, type_field, here, step, step_at, constant, at_path, count_at, defined_at, literal, any_of, all_of, compared, sum, product, minus, negation, cast, no_exps, exp, no_sum_parts, sum_part, no_mul_parts, mul_part, no_member_list, member_of, Proc, nothing, assign, undef, copy, bind, sequence, parallel, choose, repeat, choice, notify, solicit, install, throw, comp, inner_handler, scope, block, no_procs, proc, no_branches, one_way, request, no_handlers, handler, ProgramParts}
use Rattle.correlation.specs.declared.bind_reply.BindReply.TheVariants as binding
use Rattle.office_core.specs.declared.post.PostReply.TheVariants as answer
use Rattle.office_core.specs.declared.history.Placed.TheVariants as at
use Rattle.office_core.specs.declared.history.Act.TheVariants as act
use Rattle.office_core.specs.declared.history.Entry.{Entry}
use Rattle.office_core.specs.declared.front.CallIn.TheVariants as call
use Rattle.office_core.specs.declared.front.Posting.{Posting}
use Rattle.office_core.specs.Limits.{Setting, run_of, first_worker}
use Rattle.office_core.specs.Accepted.{past_of}
use Rattle.office_core.specs.Legal.{IsLegal}
use Rattle.run_record.specs.Agrees.{IsSession}
use Rattle.run_record.specs.Quiet.{before_stop, sessions_at}
use Rattle.run_record.specs.Answered.{stand_together}
use Rattle.run_record.specs.Postings.{posts_by, posts_of}
use Rattle.run_record.specs.Order.{order_alone}
use Rattle.run_record.specs.Outside.{notes}
use Rattle.test_trials.specs.Counts.{legal_entries, with_at}
use Rattle.test_trials.specs.Fronts.{told_from}
use Rattle.test_trials.specs.Sessions.{event, agrees}
use Rattle.test_trials.specs.Quiet.{is_quiet, is_still}
use Rattle.test_trials.proofs.Told.{is_session}
use Rattle.std.specs.Prelude.{◌++◌}
use Rattle.run_record.specs.declared.record.Record.{Record}
use Rattle.run_record.specs.Run.{alone, workers, IsRun, IsSpent}
use Rattle.test_trials.proofs.Runs.{is_run, unstopped, unclosed, foreign, missing, too_many, restless}
use Rattle.run_record.specs.Order.{IsOrder}
use Rattle.test_trials.proofs.Workers.{is_run_of_workers, stranger, posts_apart, second_first, not_as_posted, not_without_one, not_twice}
use Rattle.test_trials.specs.Quiet.{can_act}
use Rattle.test_trials.proofs.Spends.{spends, is_spent, not_spent}

-- the program
abbrev program : ProgramParts
program = record {
  types = [];
  interfaces = (record { name = (73 ∷ []); operations = (record { name = (103 ∷ 111 ∷ []); request = (plain kinds.Int no_type_fields); response = (Some (plain kinds.Int no_type_fields)); throws = [] } ∷ []) } ∷ []);
  services = (record { name = (83 ∷ []); execution = execution.Concurrent; ports = (record { name = (73 ∷ 110 ∷ []); input = true; location = (115 ∷ 111 ∷ 99 ∷ 107 ∷ 101 ∷ 116 ∷ 58 ∷ 47 ∷ 47 ∷ 108 ∷ 111 ∷ 99 ∷ 97 ∷ 108 ∷ 104 ∷ 111 ∷ 115 ∷ 116 ∷ 58 ∷ 56 ∷ 48 ∷ 48 ∷ 48 ∷ []); interfaces = (0 ∷ []) } ∷ []); sets = []; init = nothing; main = (choice (request 0 (Some (step (120 ∷ []) here)) (Some (step (121 ∷ []) here)) (assign (step (121 ∷ []) here) (at_path (step (120 ∷ []) here))) nothing no_branches)) } ∷ []);
  names = ((73 ∷ 79 ∷ 69 ∷ 120 ∷ 99 ∷ 101 ∷ 112 ∷ 116 ∷ 105 ∷ 111 ∷ 110 ∷ []) ∷ (84 ∷ 121 ∷ 112 ∷ 101 ∷ 77 ∷ 105 ∷ 115 ∷ 109 ∷ 97 ∷ 116 ∷ 99 ∷ 104 ∷ []) ∷ (67 ∷ 111 ∷ 114 ∷ 114 ∷ 101 ∷ 108 ∷ 97 ∷ 116 ∷ 105 ∷ 111 ∷ 110 ∷ 69 ∷ 114 ∷ 114 ∷ 111 ∷ 114 ∷ []) ∷ (82 ∷ 101 ∷ 102 ∷ 117 ∷ 115 ∷ 101 ∷ 100 ∷ []) ∷ (85 ∷ 110 ∷ 100 ∷ 101 ∷ 99 ∷ 108 ∷ 97 ∷ 114 ∷ 101 ∷ 100 ∷ 70 ∷ 97 ∷ 117 ∷ 108 ∷ 116 ∷ []) ∷ (69 ∷ 120 ∷ 112 ∷ 114 ∷ 70 ∷ 97 ∷ 117 ∷ 108 ∷ 116 ∷ []) ∷ (72 ∷ 97 ∷ 110 ∷ 100 ∷ 108 ∷ 101 ∷ 114 ∷ 84 ∷ 111 ∷ 111 ∷ 76 ∷ 97 ∷ 114 ∷ 103 ∷ 101 ∷ []) ∷ (83 ∷ 116 ∷ 111 ∷ 114 ∷ 101 ∷ 84 ∷ 111 ∷ 111 ∷ 76 ∷ 97 ∷ 114 ∷ 103 ∷ 101 ∷ []) ∷ (109 ∷ 97 ∷ 105 ∷ 110 ∷ []) ∷ []);
}

-- what its office works by
abbrev setting : Setting
setting = record { parts = program; limits = record { sessions = 4096; messages = 2; weight = 67108864; box = 256 } }

-- its history
abbrev history : List Entry
history = (
    record { actor = 4096; act = act.Post 0 0 (record { service = 0; op = (103 ∷ 111 ∷ []); value = (node (root.Text (110 ∷ 111 ∷ [])) no_fields) }) (answer.Refused reason.NotConforming) } ∷
    record { actor = 4096; act = act.Post 0 1 (record { service = 0; op = (110 ∷ 111 ∷ []); value = (node (root.Int (pos 1)) no_fields) }) (answer.Refused reason.UnknownOperation) } ∷
    record { actor = 4096; act = act.Post 0 2 (record { service = 0; op = (103 ∷ 111 ∷ []); value = (node (root.Int (pos 1)) no_fields) }) (answer.Accepted 0) } ∷
    record { actor = 4096; act = act.Post 0 3 (record { service = 0; op = (103 ∷ 111 ∷ []); value = (node (root.Int (pos 2)) no_fields) }) (answer.Accepted 1) } ∷
    record { actor = 4096; act = act.Post 0 4 (record { service = 0; op = (103 ∷ 111 ∷ []); value = (node (root.Int (pos 3)) no_fields) }) (answer.Refused reason.RunFull) } ∷
    record { actor = 4096; act = act.Post 0 5 (record { service = 0; op = (110 ∷ 111 ∷ []); value = (node (root.Int (pos 3)) no_fields) }) (answer.Refused reason.RunFull) } ∷
    record { actor = 0; act = act.Adopt 0 } ∷
    record { actor = 1; act = act.Adopt 0 } ∷
    record { actor = 0; act = act.Take 0 } ∷
    record { actor = 0; act = act.Reply 0 (outcome.Value (node (root.Int (pos 1)) no_fields)) } ∷
    record { actor = 0; act = act.End } ∷
    record { actor = 4096; act = act.Post 1 0 (record { service = 0; op = (103 ∷ 111 ∷ []); value = (node (root.Int (pos 3)) no_fields) }) (answer.Refused reason.RunFull) } ∷
    record { actor = 4096; act = act.Close } ∷
    record { actor = 4096; act = act.Stop } ∷ [])

pub legal : IsLegal setting history
legal = (record { allowed = refl; reply = refl }, (record { allowed = refl; reply = refl }, (record { allowed = refl; reply = refl }, (record { allowed = refl; reply = refl }, (record { allowed = refl; reply = refl }, (record { allowed = refl; reply = refl }, (record { allowed = refl; reply = refl }, (record { allowed = refl; reply = refl }, (record { allowed = refl; reply = refl }, (record { allowed = refl; reply = refl }, (record { allowed = refl; reply = refl }, (record { allowed = refl; reply = refl }, (record { allowed = refl; reply = refl }, (record { allowed = refl; reply = refl }, tt))))))))))))))

pub spoilt_accepted_against_the_rules : legal_entries setting (with_at 0 (record { actor = 4096; act = act.Post 0 0 (record { service = 0; op = (103 ∷ 111 ∷ []); value = (node (root.Text (110 ∷ 111 ∷ [])) no_fields) }) (answer.Accepted 0) } ∷ []) history) ≡ 0
spoilt_accepted_against_the_rules = refl

pub spoilt_refused_for_another_reason : legal_entries setting (with_at 0 (record { actor = 4096; act = act.Post 0 0 (record { service = 0; op = (103 ∷ 111 ∷ []); value = (node (root.Text (110 ∷ 111 ∷ [])) no_fields) }) (answer.Refused reason.RunFull) } ∷ []) history) ≡ 0
spoilt_refused_for_another_reason = refl

pub spoilt_posted_by_a_session : legal_entries setting (with_at 0 (record { actor = 0; act = act.Post 0 0 (record { service = 0; op = (103 ∷ 111 ∷ []); value = (node (root.Text (110 ∷ 111 ∷ [])) no_fields) }) (answer.Refused reason.NotConforming) } ∷ []) history) ≡ 0
spoilt_posted_by_a_session = refl

pub spoilt_message_number_skipped : legal_entries setting (with_at 2 (record { actor = 4096; act = act.Post 0 2 (record { service = 0; op = (103 ∷ 111 ∷ []); value = (node (root.Int (pos 1)) no_fields) }) (answer.Accepted 1) } ∷ []) history) ≡ 2
spoilt_message_number_skipped = refl

pub spoilt_refused_without_cause : legal_entries setting (with_at 2 (record { actor = 4096; act = act.Post 0 2 (record { service = 0; op = (103 ∷ 111 ∷ []); value = (node (root.Int (pos 1)) no_fields) }) (answer.Refused reason.Correlation) } ∷ []) history) ≡ 2
spoilt_refused_without_cause = refl

pub spoilt_adopted_for_another_service : legal_entries setting (with_at 6 (record { actor = 0; act = act.Adopt 1 } ∷ []) history) ≡ 6
spoilt_adopted_for_another_service = refl

pub spoilt_adopted_twice : legal_entries setting (with_at 6 (record { actor = 0; act = act.Adopt 0 } ∷ record { actor = 0; act = act.Adopt 0 } ∷ []) history) ≡ 7
spoilt_adopted_twice = refl

pub spoilt_taken_by_another_session : legal_entries setting (with_at 8 (record { actor = 1; act = act.Take 0 } ∷ []) history) ≡ 8
spoilt_taken_by_another_session = refl

pub spoilt_taken_twice : legal_entries setting (with_at 8 (record { actor = 0; act = act.Take 0 } ∷ record { actor = 0; act = act.Take 0 } ∷ []) history) ≡ 9
spoilt_taken_twice = refl

pub spoilt_answered_twice : legal_entries setting (with_at 9 (record { actor = 0; act = act.Reply 0 (outcome.Value (node (root.Int (pos 1)) no_fields)) } ∷ record { actor = 0; act = act.Reply 0 (outcome.Value (node (root.Int (pos 1)) no_fields)) } ∷ []) history) ≡ 10
spoilt_answered_twice = refl

pub spoilt_reply_by_another_session : legal_entries setting (with_at 9 (record { actor = 1; act = act.Reply 0 (outcome.Value (node (root.Int (pos 1)) no_fields)) } ∷ []) history) ≡ 9
spoilt_reply_by_another_session = refl

pub spoilt_ended_twice : legal_entries setting (with_at 10 (record { actor = 0; act = act.End } ∷ record { actor = 0; act = act.End } ∷ []) history) ≡ 11
spoilt_ended_twice = refl

pub spoilt_closed_twice : legal_entries setting (with_at 12 (record { actor = 4096; act = act.Close } ∷ record { actor = 4096; act = act.Close } ∷ []) history) ≡ 13
spoilt_closed_twice = refl

pub spoilt_stopped_twice : legal_entries setting (with_at 13 (record { actor = 4096; act = act.Stop } ∷ record { actor = 4096; act = act.Stop } ∷ []) history) ≡ 14
spoilt_stopped_twice = refl

pub spoilt_stopped_by_a_session : legal_entries setting (with_at 13 (record { actor = 0; act = act.Stop } ∷ []) history) ≡ 13
spoilt_stopped_by_a_session = refl

pub spoilt_adopted_after_the_stop : legal_entries setting (with_at 13 (record { actor = 4096; act = act.Stop } ∷ record { actor = 0; act = act.Adopt 0 } ∷ []) history) ≡ 14
spoilt_adopted_after_the_stop = refl

pub spoilt_take_left_out : legal_entries setting (with_at 8 [] history) ≡ 8
spoilt_take_left_out = refl

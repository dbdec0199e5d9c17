-- A fault beside a request answers it; a one-way message has void at once.
use Rattle.std.specs.Prelude.{◌≡◌, ℕ, pos, negsuc, Bool, true, false, List, [], ◌∷◌, take, Option, None, Some}
use Rattle.std.proofs.Common.{refl}
use Rattle.std.specs.Fmt.{digits}
use Rattle.jolie_trees.specs.declared.root.Root.TheVariants as root
use Rattle.jolie_trees.specs.Data.{Tree, node, Fields, no_fields, field, Trees, no_trees, tree}
use Rattle.behaviour_tree.specs.declared.types.RootKind.TheVariants as kinds
use Rattle.behaviour_tree.specs.declared.expr.CompareOp.TheVariants as compare
use Rattle.behaviour_tree.specs.declared.expr.SumOp.TheVariants as sums
use Rattle.behaviour_tree.specs.declared.expr.MulOp.TheVariants as muls
use Rattle.behaviour_tree.specs.declared.expr.CastKind.TheVariants as casts
use Rattle.behaviour_tree.specs.declared.behaviour.HandlerKey.TheVariants as key
use Rattle.behaviour_tree.specs.declared.program.Execution.TheVariants as execution
use Rattle.behaviour_tree.specs.declared.words.Event.{Event}
use Rattle.behaviour_tree.specs.declared.words.Kind.TheVariants as kind
use Rattle.behaviour_tree.specs.declared.words.Outcome.TheVariants as outcome
use Rattle.behaviour_tree.specs.declared.words.Reason.TheVariants as reason
use Rattle.behaviour_tree.specs.Data.{plain, named, undefined, no_type_fields, type_field, here, step, step_at, constant, at_path, count_at, defined_at, literal, any_of, all_of, compared, sum, product, minus, negation, cast, no_exps, exp, no_sum_parts, sum_part, no_mul_parts, mul_part, no_member_list, member_of, Proc, nothing, assign, undef, copy, bind, sequence, parallel, choose, repeat, choice, notify, solicit, install, throw, comp, inner_handler, scope, block, no_procs, proc, no_branches, one_way, request, no_handlers, handler, ProgramParts}
use Rattle.correlation.specs.declared.bind_reply.BindReply.TheVariants as binding
use Rattle.office_core.specs.declared.post.PostReply.TheVariants as answer
use Rattle.office_core.specs.declared.history.Placed.TheVariants as at
use Rattle.office_core.specs.declared.history.Act.TheVariants as act
use Rattle.office_core.specs.declared.history.Entry.{Entry}
use Rattle.office_core.specs.declared.front.CallIn.TheVariants as call
use Rattle.office_core.specs.declared.front.Posting.{Posting}
use Rattle.office_core.specs.Limits.{Setting, run_of, first_worker}
use Rattle.office_core.specs.Accepted.{past_of}
use Rattle.office_core.specs.Legal.{IsLegal}
use Rattle.run_record.specs.Agrees.{IsSession}
use Rattle.run_record.specs.Quiet.{before_stop, sessions_at}
use Rattle.run_record.specs.Answered.{stand_together}
use Rattle.run_record.specs.Postings.{posts_by, posts_of}
use Rattle.run_record.specs.Order.{order_alone}
use Rattle.run_record.specs.Outside.{notes}
use Rattle.test_trials.specs.Counts.{legal_entries, with_at}
use Rattle.test_trials.specs.Fronts.{told_from}
use Rattle.test_trials.specs.Sessions.{event, agrees}
use Rattle.test_trials.specs.Quiet.{is_quiet, is_still}
use Rattle.test_trials.specs.Collected.{are_collected}
use Rattle.test_trials.proofs.Told.{is_session}
use Rattle.std.specs.Prelude.{◌++◌}
use Rattle.run_record.specs.declared.record.Record.{Record}
use Rattle.run_record.specs.Run.{alone, workers, IsRun, IsSpent}
use Rattle.test_trials.proofs.Runs.{is_run, unstopped, unclosed, foreign, missing, too_many, restless}
use Rattle.run_record.specs.Order.{IsOrder}
use Rattle.test_trials.proofs.Workers.{is_run_of_workers, stranger, posts_apart, second_first, not_as_posted, not_without_one, not_twice}
use Rattle.test_trials.specs.Quiet.{can_act}
use Rattle.test_trials.proofs.Spends.{spends, is_spent, not_spent}

-- the program
abbrev program : ProgramParts
program = record {
  types = [];
  interfaces = (record { name = (73 ∷ []); operations = (record { name = (103 ∷ 111 ∷ []); request = (plain kinds.Void no_type_fields); response = (Some (plain kinds.Int no_type_fields)); throws = [] } ∷ record { name = (112 ∷ 97 ∷ 117 ∷ 115 ∷ 101 ∷ []); request = (plain kinds.Void no_type_fields); response = None; throws = [] } ∷ record { name = (104 ∷ 97 ∷ 108 ∷ 116 ∷ []); request = (plain kinds.Void no_type_fields); response = None; throws = [] } ∷ []) } ∷ []);
  services = (record { name = (83 ∷ []); execution = execution.Single; ports = (record { name = (73 ∷ 110 ∷ []); input = true; location = (115 ∷ 111 ∷ 99 ∷ 107 ∷ 101 ∷ 116 ∷ 58 ∷ 47 ∷ 47 ∷ 108 ∷ 111 ∷ 99 ∷ 97 ∷ 108 ∷ 104 ∷ 111 ∷ 115 ∷ 116 ∷ 58 ∷ 56 ∷ 48 ∷ 48 ∷ 48 ∷ []); interfaces = (0 ∷ []) } ∷ []); sets = []; init = nothing; main = (parallel (proc (choice (request 0 None (Some (step (121 ∷ []) here)) (choice (one_way 1 None nothing no_branches)) nothing no_branches)) (proc (block (sequence (proc (choice (one_way 2 None nothing no_branches)) (proc (throw 9 (constant root.Void)) no_procs)))) no_procs))) } ∷ []);
  names = ((73 ∷ 79 ∷ 69 ∷ 120 ∷ 99 ∷ 101 ∷ 112 ∷ 116 ∷ 105 ∷ 111 ∷ 110 ∷ []) ∷ (84 ∷ 121 ∷ 112 ∷ 101 ∷ 77 ∷ 105 ∷ 115 ∷ 109 ∷ 97 ∷ 116 ∷ 99 ∷ 104 ∷ []) ∷ (67 ∷ 111 ∷ 114 ∷ 114 ∷ 101 ∷ 108 ∷ 97 ∷ 116 ∷ 105 ∷ 111 ∷ 110 ∷ 69 ∷ 114 ∷ 114 ∷ 111 ∷ 114 ∷ []) ∷ (82 ∷ 101 ∷ 102 ∷ 117 ∷ 115 ∷ 101 ∷ 100 ∷ []) ∷ (85 ∷ 110 ∷ 100 ∷ 101 ∷ 99 ∷ 108 ∷ 97 ∷ 114 ∷ 101 ∷ 100 ∷ 70 ∷ 97 ∷ 117 ∷ 108 ∷ 116 ∷ []) ∷ (69 ∷ 120 ∷ 112 ∷ 114 ∷ 70 ∷ 97 ∷ 117 ∷ 108 ∷ 116 ∷ []) ∷ (72 ∷ 97 ∷ 110 ∷ 100 ∷ 108 ∷ 101 ∷ 114 ∷ 84 ∷ 111 ∷ 111 ∷ 76 ∷ 97 ∷ 114 ∷ 103 ∷ 101 ∷ []) ∷ (83 ∷ 116 ∷ 111 ∷ 114 ∷ 101 ∷ 84 ∷ 111 ∷ 111 ∷ 76 ∷ 97 ∷ 114 ∷ 103 ∷ 101 ∷ []) ∷ (109 ∷ 97 ∷ 105 ∷ 110 ∷ []) ∷ (103 ∷ []) ∷ []);
}

-- what its office works by
abbrev setting : Setting
setting = run_of program

-- its history
abbrev history : List Entry
history = (
    record { actor = 4096; act = act.Post 0 0 (record { service = 0; op = (103 ∷ 111 ∷ []); value = (node root.Void no_fields) }) (answer.Accepted 0) } ∷
    record { actor = 0; act = act.Adopt 0 } ∷
    record { actor = 0; act = act.Take 0 } ∷
    record { actor = 4096; act = act.Post 1 0 (record { service = 0; op = (104 ∷ 97 ∷ 108 ∷ 116 ∷ []); value = (node root.Void no_fields) }) (answer.Accepted 1) } ∷
    record { actor = 0; act = act.Take 1 } ∷
    record { actor = 0; act = act.Reply 0 (outcome.Fault (103 ∷ []) (node root.Void no_fields)) } ∷
    record { actor = 0; act = act.End } ∷
    record { actor = 4096; act = act.Collect 0 (outcome.Fault (103 ∷ []) (node root.Void no_fields)) } ∷
    record { actor = 4096; act = act.Collect 1 (outcome.Value (node root.Void no_fields)) } ∷
    record { actor = 4096; act = act.Close } ∷
    record { actor = 4096; act = act.Stop } ∷ [])

pub legal : IsLegal setting history
legal = (record { allowed = refl; reply = refl }, (record { allowed = refl; reply = refl }, (record { allowed = refl; reply = refl }, (record { allowed = refl; reply = refl }, (record { allowed = refl; reply = refl }, (record { allowed = refl; reply = refl }, (record { allowed = refl; reply = refl }, (record { allowed = refl; reply = refl }, (record { allowed = refl; reply = refl }, (record { allowed = refl; reply = refl }, (record { allowed = refl; reply = refl }, tt)))))))))))

pub spoilt_message_number_skipped : legal_entries setting (with_at 0 (record { actor = 4096; act = act.Post 0 0 (record { service = 0; op = (103 ∷ 111 ∷ []); value = (node root.Void no_fields) }) (answer.Accepted 1) } ∷ []) history) ≡ 0
spoilt_message_number_skipped = refl

pub spoilt_refused_without_cause : legal_entries setting (with_at 0 (record { actor = 4096; act = act.Post 0 0 (record { service = 0; op = (103 ∷ 111 ∷ []); value = (node root.Void no_fields) }) (answer.Refused reason.Correlation) } ∷ []) history) ≡ 0
spoilt_refused_without_cause = refl

pub spoilt_posted_by_a_session : legal_entries setting (with_at 0 (record { actor = 0; act = act.Post 0 0 (record { service = 0; op = (103 ∷ 111 ∷ []); value = (node root.Void no_fields) }) (answer.Accepted 0) } ∷ []) history) ≡ 0
spoilt_posted_by_a_session = refl

pub spoilt_adopted_for_another_service : legal_entries setting (with_at 1 (record { actor = 0; act = act.Adopt 1 } ∷ []) history) ≡ 1
spoilt_adopted_for_another_service = refl

pub spoilt_adopted_twice : legal_entries setting (with_at 1 (record { actor = 0; act = act.Adopt 0 } ∷ record { actor = 0; act = act.Adopt 0 } ∷ []) history) ≡ 2
spoilt_adopted_twice = refl

pub spoilt_taken_twice : legal_entries setting (with_at 2 (record { actor = 0; act = act.Take 0 } ∷ record { actor = 0; act = act.Take 0 } ∷ []) history) ≡ 3
spoilt_taken_twice = refl

pub spoilt_answered_twice : legal_entries setting (with_at 5 (record { actor = 0; act = act.Reply 0 (outcome.Fault (103 ∷ []) (node root.Void no_fields)) } ∷ record { actor = 0; act = act.Reply 0 (outcome.Fault (103 ∷ []) (node root.Void no_fields)) } ∷ []) history) ≡ 6
spoilt_answered_twice = refl

pub spoilt_answer_left_out : legal_entries setting (with_at 5 [] history) ≡ 6
spoilt_answer_left_out = refl

pub spoilt_told_before_the_answer : legal_entries setting (with_at 5 (record { actor = 4096; act = act.Collect 0 (outcome.Fault (103 ∷ []) (node root.Void no_fields)) } ∷ record { actor = 0; act = act.Reply 0 (outcome.Fault (103 ∷ []) (node root.Void no_fields)) } ∷ []) history) ≡ 5
spoilt_told_before_the_answer = refl

pub spoilt_ended_twice : legal_entries setting (with_at 6 (record { actor = 0; act = act.End } ∷ record { actor = 0; act = act.End } ∷ []) history) ≡ 7
spoilt_ended_twice = refl

pub spoilt_another_answer_collected : legal_entries setting (with_at 7 (record { actor = 4096; act = act.Collect 0 (outcome.Value (node (root.Int (pos 424242)) no_fields)) } ∷ []) history) ≡ 7
spoilt_another_answer_collected = refl

pub spoilt_collected_twice : legal_entries setting (with_at 7 (record { actor = 4096; act = act.Collect 0 (outcome.Fault (103 ∷ []) (node root.Void no_fields)) } ∷ record { actor = 4096; act = act.Collect 0 (outcome.Fault (103 ∷ []) (node root.Void no_fields)) } ∷ []) history) ≡ 8
spoilt_collected_twice = refl

pub spoilt_collected_by_another : legal_entries setting (with_at 7 (record { actor = 4097; act = act.Collect 0 (outcome.Fault (103 ∷ []) (node root.Void no_fields)) } ∷ []) history) ≡ 7
spoilt_collected_by_another = refl

pub spoilt_closed_twice : legal_entries setting (with_at 9 (record { actor = 4096; act = act.Close } ∷ record { actor = 4096; act = act.Close } ∷ []) history) ≡ 10
spoilt_closed_twice = refl

pub spoilt_stopped_twice : legal_entries setting (with_at 10 (record { actor = 4096; act = act.Stop } ∷ record { actor = 4096; act = act.Stop } ∷ []) history) ≡ 11
spoilt_stopped_twice = refl

pub spoilt_stopped_by_a_session : legal_entries setting (with_at 10 (record { actor = 0; act = act.Stop } ∷ []) history) ≡ 10
spoilt_stopped_by_a_session = refl

pub spoilt_adopted_after_the_stop : legal_entries setting (with_at 10 (record { actor = 4096; act = act.Stop } ∷ record { actor = 0; act = act.Adopt 0 } ∷ []) history) ≡ 11
spoilt_adopted_after_the_stop = refl

pub spoilt_adoption_left_out : legal_entries setting (with_at 1 [] history) ≡ 1
spoilt_adoption_left_out = refl

pub spoilt_take_before_the_adoption : legal_entries setting (with_at 1 (record { actor = 0; act = act.Take 0 } ∷ []) history) ≡ 1
spoilt_take_before_the_adoption = refl

-- the events of session 0
abbrev events_0 : List Event
events_0 = (
    event 1 kind.In 0 0 0 ∷
    event 2 kind.In 1 0 0 ∷
    event 2 kind.Raise 2 8 9 ∷
    event 1 kind.Reply 0 0 0 ∷
    event 0 kind.Finish 0 0 0 ∷ [])

-- the events of each session
abbrev sessions : List (List Event)
sessions = events_0 ∷ []

pub session_0 : IsSession setting history 0 events_0
unfolding digits
session_0 = is_session setting history 0 0 events_0 refl refl (refl, (refl, ((refl, refl), (tt, tt))))

pub quiet : is_quiet setting 10000 (before_stop history) sessions ≡ true
unfolding digits
quiet = refl

pub still : is_still setting 10000 history sessions ≡ true
unfolding digits
still = refl

pub collected : are_collected setting history ≡ true
unfolding digits
collected = refl

pub together : stand_together history ≡ true
together = refl

pub run : (r : Record) → r.history.entries.items ≡ history → r.sessions ≡ sessions
    → IsRun setting 10000 alone false r
run = is_run setting 10000 history sessions
    (record { legal = legal; stopped = refl; actors = refl; all = refl; each = (session_0, tt); within = refl; quiet = quiet; closed = refl; posted = together; still = still; collected = collected })

pub spoilt_run_without_its_stop : (r : Record) → r.history.entries.items ≡ (with_at 10 [] history) → IsRun setting 10000 alone false r → ⊥
spoilt_run_without_its_stop r has = unstopped setting 10000 false (with_at 10 [] history) r has refl

pub spoilt_run_that_is_not_closed : (r : Record) → r.history.entries.items ≡ (with_at 9 [] history) → IsRun setting 10000 alone false r → ⊥
spoilt_run_that_is_not_closed r has = unclosed setting 10000 false (with_at 9 [] history) r has refl

pub spoilt_run_stopped_by_another : (r : Record) → r.history.entries.items ≡ (with_at 10 (record { actor = 4097; act = act.Stop } ∷ []) history) → IsRun setting 10000 alone false r → ⊥
spoilt_run_stopped_by_another r has = foreign setting 10000 false (with_at 10 (record { actor = 4097; act = act.Stop } ∷ []) history) r has refl

pub spoilt_run_that_lacks_a_session : (r : Record) → r.history.entries.items ≡ history → r.sessions ≡ ([])
    → IsRun setting 10000 alone false r → ⊥
spoilt_run_that_lacks_a_session r has events = missing setting 10000 false history r has ([]) events refl

pub spoilt_run_over_its_budget : (r : Record) → r.history.entries.items ≡ history → r.sessions ≡ sessions
    → IsRun setting 4 alone false r → ⊥
spoilt_run_over_its_budget r has events =
    too_many setting 4 false history r has sessions events 0 events_0 refl refl

-- the run, where it is stopped behind its first 5 entries
abbrev stopped_early : List Entry
stopped_early = take 5 history ++ record { actor = 4096; act = act.Stop } ∷ []

abbrev early_0 : List Event
early_0 = (
    event 1 kind.In 0 0 0 ∷
    event 2 kind.In 1 0 0 ∷
    event 2 kind.Raise 2 8 9 ∷ [])

early_session_0 : IsSession setting (before_stop stopped_early) 0 early_0
unfolding digits
early_session_0 = is_session setting (before_stop stopped_early) 0 0 early_0 refl refl (refl, (refl, tt))

left_to_do : is_quiet setting 10000 (before_stop stopped_early) (early_0 ∷ []) ≡ false
unfolding digits
left_to_do = refl

pub spoilt_run_stopped_early : (r : Record) → r.history.entries.items ≡ stopped_early → r.sessions ≡ (early_0 ∷ [])
    → IsRun setting 10000 alone false r → ⊥
spoilt_run_stopped_early r has events =
    restless setting 10000 false stopped_early r has (early_0 ∷ []) events (early_session_0, tt) left_to_do refl

pub spoilt_event_cut_at_the_end : agrees setting history 0 (
    event 1 kind.In 0 0 0 ∷
    event 2 kind.In 1 0 0 ∷
    event 2 kind.Raise 2 8 9 ∷
    event 1 kind.Reply 0 0 0 ∷ []) ≡ false
unfolding digits
spoilt_event_cut_at_the_end = refl

pub spoilt_events_exchanged : agrees setting history 0 (
    event 1 kind.In 0 0 0 ∷
    event 2 kind.Raise 2 8 9 ∷
    event 2 kind.In 1 0 0 ∷
    event 1 kind.Reply 0 0 0 ∷
    event 0 kind.Finish 0 0 0 ∷ []) ≡ false
unfolding digits
spoilt_events_exchanged = refl

pub spoilt_left_in_the_middle : is_quiet setting 10000 (take 5 history) (sessions_at setting (take 5 history) 0 sessions) ≡ false
unfolding digits
spoilt_left_in_the_middle = refl

pub spoilt_call_left_out : agrees setting (with_at 5 [] history) 0 events_0 ≡ false
unfolding digits
spoilt_call_left_out = refl

pub spoilt_posted_behind_the_start : is_still setting 10000 (record { actor = 0; act = act.Adopt 0 } ∷ with_at 1 [] history) sessions ≡ false
unfolding digits
spoilt_posted_behind_the_start = refl

-- what came in
abbrev postings : List Posting
postings = (
    record { calls = (call.Post (record { service = 0; op = (103 ∷ 111 ∷ []); value = (node root.Void no_fields) }) ∷ []) } ∷
    record { calls = (call.Post (record { service = 0; op = (104 ∷ 97 ∷ 108 ∷ 116 ∷ []); value = (node root.Void no_fields) }) ∷ []) } ∷ [])

pub posted : posts_by first_worker history ≡ posts_of 0 postings
posted = refl

pub tells : told_from setting (past_of setting history) 0 postings ≡ (
    Some ((outcome.Fault (103 ∷ []) (node root.Void no_fields)) ∷ []) ∷
    Some ((outcome.Value (node root.Void no_fields)) ∷ []) ∷ [])
tells = refl

pub order : order_alone setting history first_worker 2 ≡ (0 ∷ 1 ∷ [])
order = refl

pub noted : notes setting history ≡ []
unfolding digits
noted = refl

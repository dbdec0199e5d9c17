-- What was read and what was written, in the run HaltedBeside.
use Rattle.std.specs.Prelude.{◌≡◌, ℕ, pos, negsuc, Bool, true, false, List, [], ◌∷◌, take, Option, None, Some}
use Rattle.std.proofs.Common.{refl}
use lib.Utf8.{encode}
use Rattle.std.specs.Fmt.{digits}
use Rattle.jolie_trees.specs.declared.root.Root.TheVariants as root
use Rattle.jolie_trees.specs.Data.{Tree, node, Fields, no_fields, field, Trees, no_trees, tree}
use Rattle.behaviour_tree.specs.declared.types.RootKind.TheVariants as kinds
use Rattle.behaviour_tree.specs.declared.expr.CompareOp.TheVariants as compare
use Rattle.behaviour_tree.specs.declared.expr.SumOp.TheVariants as sums
use Rattle.behaviour_tree.specs.declared.expr.MulOp.TheVariants as muls
use Rattle.behaviour_tree.specs.declared.expr.CastKind.TheVariants as casts
use Rattle.behaviour_tree.specs.declared.behaviour.HandlerKey.TheVariants as key
use Rattle.behaviour_tree.specs.declared.program.Execution.TheVariants as execution
use Rattle.behaviour_tree.specs.declared.words.Event.{Event}
use Rattle.behaviour_tree.specs.declared.words.Kind.TheVariants as kind
use Rattle.behaviour_tree.specs.declared.words.Outcome.TheVariants as outcome
use Rattle.behaviour_tree.specs.declared.words.Reason.TheVariants as reason
use Rattle.behaviour_tree.specs.Data.{plain, named, undefined, no_type_fields, type_field, here, step, step_at, constant, at_path, count_at, defined_at, literal, any_of, all_of, compared, sum, product, minus, negation, cast, no_exps, exp, no_sum_parts, sum_part, no_mul_parts, mul_part, no_member_list, member_of, Proc, nothing, assign, undef, copy, bind, sequence, parallel, choose, repeat, choice, notify, solicit, install, throw, comp, inner_handler, scope, block, no_procs, proc, no_branches, one_way, request, no_handlers, handler, ProgramParts}
use Rattle.correlation.specs.declared.bind_reply.BindReply.TheVariants as binding
use Rattle.office_core.specs.declared.post.PostReply.TheVariants as answer
use Rattle.office_core.specs.declared.history.Placed.TheVariants as at
use Rattle.office_core.specs.declared.history.Act.TheVariants as act
use Rattle.office_core.specs.declared.history.Entry.{Entry}
use Rattle.office_core.specs.declared.front.CallIn.TheVariants as call
use Rattle.office_core.specs.declared.front.Posting.{Posting}
use Rattle.office_core.specs.Limits.{Setting, run_of, first_worker}
use Rattle.office_core.specs.Accepted.{past_of}
use Rattle.office_core.specs.Legal.{IsLegal}
use Rattle.run_record.specs.Agrees.{IsSession}
use Rattle.run_record.specs.Quiet.{before_stop, sessions_at}
use Rattle.run_record.specs.Answered.{stand_together}
use Rattle.run_record.specs.Postings.{posts_by, posts_of}
use Rattle.run_record.specs.Order.{order_alone}
use Rattle.run_record.specs.Outside.{notes}
use Rattle.std.specs.Str.{is_utf8, chars}
use Rattle.std.specs.Float.Numeral.{scan_numeral}
use Rattle.json.specs.Print.{escape_byte}
use Rattle.json.specs.Json.{value}
use Rattle.json.specs.Lex.{punctuate, lex}
use Rattle.json.specs.Text.{content}
use Rattle.json.specs.Word.{word, after_number}
use Rattle.serde_json.specs.Read.{number_of}
use Rattle.jsonrpc_text.specs.FromJson.{root_name}
use Rattle.jsonrpc_text.specs.Posted.{posted}
use Rattle.jsonrpc_text.specs.Responses.{answer, batch, early_answer}
use Rattle.run_record.specs.Run.{alone}
use Rattle.run_theorem.specs.Split.{split, all_lines, sent_lines}
use Rattle.run_theorem.specs.Texts.{Came, posting_of}
use Rattle.run_theorem.specs.Lines.{come_in, finished_before, lines_in, IsPrefix, AreDue, IsWritten, WroteEarly}
use Rattle.std.specs.Prelude.{◌≢◌, suc, length, map}
use Rattle.std.proofs.Common.{true≢false, ap, subst}
use Rattle.test_trials.proofs.Endings.{causes, last_of}

-- the program
abbrev program : ProgramParts
program = record {
  types = [];
  interfaces = (record { name = (73 ∷ []); operations = (record { name = (103 ∷ 111 ∷ []); request = (plain kinds.Void no_type_fields); response = (Some (plain kinds.Int no_type_fields)); throws = [] } ∷ record { name = (112 ∷ 97 ∷ 117 ∷ 115 ∷ 101 ∷ []); request = (plain kinds.Void no_type_fields); response = None; throws = [] } ∷ record { name = (104 ∷ 97 ∷ 108 ∷ 116 ∷ []); request = (plain kinds.Void no_type_fields); response = None; throws = [] } ∷ []) } ∷ []);
  services = (record { name = (83 ∷ []); execution = execution.Single; ports = (record { name = (73 ∷ 110 ∷ []); input = true; location = (115 ∷ 111 ∷ 99 ∷ 107 ∷ 101 ∷ 116 ∷ 58 ∷ 47 ∷ 47 ∷ 108 ∷ 111 ∷ 99 ∷ 97 ∷ 108 ∷ 104 ∷ 111 ∷ 115 ∷ 116 ∷ 58 ∷ 56 ∷ 48 ∷ 48 ∷ 48 ∷ []); interfaces = (0 ∷ []) } ∷ []); sets = []; init = nothing; main = (parallel (proc (choice (request 0 None (Some (step (121 ∷ []) here)) (choice (one_way 1 None nothing no_branches)) nothing no_branches)) (proc (block (sequence (proc (choice (one_way 2 None nothing no_branches)) (proc (throw 9 (constant root.Void)) no_procs)))) no_procs))) } ∷ []);
  names = ((73 ∷ 79 ∷ 69 ∷ 120 ∷ 99 ∷ 101 ∷ 112 ∷ 116 ∷ 105 ∷ 111 ∷ 110 ∷ []) ∷ (84 ∷ 121 ∷ 112 ∷ 101 ∷ 77 ∷ 105 ∷ 115 ∷ 109 ∷ 97 ∷ 116 ∷ 99 ∷ 104 ∷ []) ∷ (67 ∷ 111 ∷ 114 ∷ 114 ∷ 101 ∷ 108 ∷ 97 ∷ 116 ∷ 105 ∷ 111 ∷ 110 ∷ 69 ∷ 114 ∷ 114 ∷ 111 ∷ 114 ∷ []) ∷ (82 ∷ 101 ∷ 102 ∷ 117 ∷ 115 ∷ 101 ∷ 100 ∷ []) ∷ (85 ∷ 110 ∷ 100 ∷ 101 ∷ 99 ∷ 108 ∷ 97 ∷ 114 ∷ 101 ∷ 100 ∷ 70 ∷ 97 ∷ 117 ∷ 108 ∷ 116 ∷ []) ∷ (69 ∷ 120 ∷ 112 ∷ 114 ∷ 70 ∷ 97 ∷ 117 ∷ 108 ∷ 116 ∷ []) ∷ (72 ∷ 97 ∷ 110 ∷ 100 ∷ 108 ∷ 101 ∷ 114 ∷ 84 ∷ 111 ∷ 111 ∷ 76 ∷ 97 ∷ 114 ∷ 103 ∷ 101 ∷ []) ∷ (83 ∷ 116 ∷ 111 ∷ 114 ∷ 101 ∷ 84 ∷ 111 ∷ 111 ∷ 76 ∷ 97 ∷ 114 ∷ 103 ∷ 101 ∷ []) ∷ (109 ∷ 97 ∷ 105 ∷ 110 ∷ []) ∷ (103 ∷ []) ∷ []);
}

-- what its office works by
abbrev setting : Setting
setting = run_of program

-- its history
abbrev history : List Entry
history = (
    record { actor = 4096; act = act.Post 0 0 (record { service = 0; op = (103 ∷ 111 ∷ []); value = (node root.Void no_fields) }) (answer.Accepted 0) } ∷
    record { actor = 0; act = act.Adopt 0 } ∷
    record { actor = 0; act = act.Take 0 } ∷
    record { actor = 4096; act = act.Post 1 0 (record { service = 0; op = (104 ∷ 97 ∷ 108 ∷ 116 ∷ []); value = (node root.Void no_fields) }) (answer.Accepted 1) } ∷
    record { actor = 0; act = act.Take 1 } ∷
    record { actor = 0; act = act.Reply 0 (outcome.Fault (103 ∷ []) (node root.Void no_fields)) } ∷
    record { actor = 0; act = act.End } ∷
    record { actor = 4096; act = act.Collect 0 (outcome.Fault (103 ∷ []) (node root.Void no_fields)) } ∷
    record { actor = 4096; act = act.Collect 1 (outcome.Value (node root.Void no_fields)) } ∷
    record { actor = 4096; act = act.Close } ∷
    record { actor = 4096; act = act.Stop } ∷ [])

-- what was read
abbrev read : List ℕ
read = (123 ∷ 34 ∷ 106 ∷ 115 ∷ 111 ∷ 110 ∷ 114 ∷ 112 ∷ 99 ∷ 34 ∷ 58 ∷ 34 ∷ 50 ∷ 46 ∷ 48 ∷ 34 ∷ 44 ∷ 34 ∷ 109 ∷ 101 ∷ 116 ∷ 104 ∷ 111 ∷ 100 ∷ 34 ∷ 58 ∷ 34 ∷ 103 ∷ 111 ∷ 34 ∷ 44 ∷ 34 ∷ 112 ∷ 97 ∷ 114 ∷ 97 ∷ 109 ∷ 115 ∷ 34 ∷ 58 ∷ 123 ∷ 125 ∷ 44 ∷ 34 ∷ 105 ∷ 100 ∷ 34 ∷ 58 ∷ 49 ∷ 125 ∷ 10 ∷ 123 ∷ 34 ∷ 106 ∷ 115 ∷ 111 ∷ 110 ∷ 114 ∷ 112 ∷ 99 ∷ 34 ∷ 58 ∷ 34 ∷ 50 ∷ 46 ∷ 48 ∷ 34 ∷ 44 ∷ 34 ∷ 109 ∷ 101 ∷ 116 ∷ 104 ∷ 111 ∷ 100 ∷ 34 ∷ 58 ∷ 34 ∷ 104 ∷ 97 ∷ 108 ∷ 116 ∷ 34 ∷ 125 ∷ 10 ∷ [])

-- what was written
abbrev written : List ℕ
written = (123 ∷ 34 ∷ 101 ∷ 114 ∷ 114 ∷ 111 ∷ 114 ∷ 34 ∷ 58 ∷ 123 ∷ 34 ∷ 99 ∷ 111 ∷ 100 ∷ 101 ∷ 34 ∷ 58 ∷ 45 ∷ 51 ∷ 50 ∷ 48 ∷ 48 ∷ 48 ∷ 44 ∷ 34 ∷ 100 ∷ 97 ∷ 116 ∷ 97 ∷ 34 ∷ 58 ∷ 110 ∷ 117 ∷ 108 ∷ 108 ∷ 44 ∷ 34 ∷ 109 ∷ 101 ∷ 115 ∷ 115 ∷ 97 ∷ 103 ∷ 101 ∷ 34 ∷ 58 ∷ 34 ∷ 103 ∷ 34 ∷ 125 ∷ 44 ∷ 34 ∷ 105 ∷ 100 ∷ 34 ∷ 58 ∷ 49 ∷ 44 ∷ 34 ∷ 106 ∷ 115 ∷ 111 ∷ 110 ∷ 114 ∷ 112 ∷ 99 ∷ 34 ∷ 58 ∷ 34 ∷ 50 ∷ 46 ∷ 48 ∷ 34 ∷ 125 ∷ 10 ∷ [])

-- what came in with the lines
abbrev came : List Came
came = come_in (sent_lines (all_lines read))

pub posted_all : posts_by first_worker history ≡ posts_of 0 (map posting_of came)
unfolding digits escape_byte is_utf8 chars encode scan_numeral value punctuate lex content word after_number number_of root_name posted answer batch early_answer split
posted_all = refl

pub noted_nothing : notes setting history ≡ []
noted_nothing = refl

pub answered : AreDue alone setting history came written
unfolding digits escape_byte is_utf8 chars encode scan_numeral value punctuate lex content word after_number number_of root_name posted answer batch early_answer split
answered = record { order = (0 ∷ 1 ∷ []); in_order = refl; lines = refl }

-- what was not written of it
abbrev rest : List ℕ
rest = (109 ∷ 101 ∷ 115 ∷ 115 ∷ 97 ∷ 103 ∷ 101 ∷ 34 ∷ 58 ∷ 34 ∷ 103 ∷ 34 ∷ 125 ∷ 44 ∷ 34 ∷ 105 ∷ 100 ∷ 34 ∷ 58 ∷ 49 ∷ 44 ∷ 34 ∷ 106 ∷ 115 ∷ 111 ∷ 110 ∷ 114 ∷ 112 ∷ 99 ∷ 34 ∷ 58 ∷ 34 ∷ 50 ∷ 46 ∷ 48 ∷ 34 ∷ 125 ∷ 10 ∷ [])

rest_is_some : rest ≢ []
rest_is_some h = true≢false (ap (λ l. elim l [ [] ↦ false | b ∷ bs ↦ true ]) h)

-- what was written of it
abbrev cut : List ℕ
cut = (123 ∷ 34 ∷ 101 ∷ 114 ∷ 114 ∷ 111 ∷ 114 ∷ 34 ∷ 58 ∷ 123 ∷ 34 ∷ 99 ∷ 111 ∷ 100 ∷ 101 ∷ 34 ∷ 58 ∷ 45 ∷ 51 ∷ 50 ∷ 48 ∷ 48 ∷ 48 ∷ 44 ∷ 34 ∷ 100 ∷ 97 ∷ 116 ∷ 97 ∷ 34 ∷ 58 ∷ 110 ∷ 117 ∷ 108 ∷ 108 ∷ 44 ∷ 34 ∷ [])

pub cut_short : IsWritten causes written cut
cut_short = (rest, rest_is_some, refl)

pub written_early : WroteEarly setting history came cut
unfolding digits escape_byte is_utf8 chars encode scan_numeral value punctuate lex content word after_number number_of root_name posted answer batch early_answer split
written_early j long =
    subst (λ (k : ℕ). IsPrefix (lines_in setting history came (finished_before setting history (length came) k)) cut)
    (last_of (length came) j long) (_, refl)

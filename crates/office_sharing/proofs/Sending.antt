-- An office may go to another thread, and so may all that it is made of.
use denote.Param.Send.{IsSend, IsSync, sendable}
use Rattle.std.proofs.Crossing.{crosses}
use Rattle.std.proofs.MapsCrossing as maps
use Rattle.sqlite_items.proofs.items.Items.TheSendSync as items
use Rattle.jolie_trees.proofs.text.Text.TheSendSync as text
use Rattle.jolie_trees.proofs.root.Root.TheSendSync as root
use Rattle.jolie_trees.proofs.tree.Members.TheLaws.TheKnot as trees
use Rattle.behaviour_tree.proofs.types.TypeDef.TheLaws.TheKnot as types
use Rattle.behaviour_tree.proofs.expr.Expr.TheLaws.TheKnot as exprs
use Rattle.behaviour_tree.proofs.behaviour.Behaviour.TheLaws.TheKnot as behaviours
use Rattle.behaviour_tree.proofs.behaviour.HandlerKey.TheSendSync as key
use Rattle.behaviour_tree.proofs.words.Reason.TheSendSync as reason
use Rattle.behaviour_tree.proofs.program.Execution.TheSendSync as execution
use Rattle.behaviour_tree.proofs.program.Port.TheSendSync as port
use Rattle.behaviour_tree.proofs.program.CorrelationSet.TheSendSync as set
use Rattle.behaviour_tree.specs.contracts.types.TypeDef as type_def
use Rattle.behaviour_tree.specs.contracts.expr.PathExpr as path_expr
use Rattle.behaviour_tree.specs.contracts.expr.Expr as expr
use Rattle.behaviour_tree.specs.contracts.behaviour.Behaviour as behaviour
use Rattle.behaviour_tree.specs.contracts.words.Outcome as outcome
use Rattle.behaviour_tree.specs.contracts.program.Throws as throws
use Rattle.behaviour_tree.specs.contracts.program.Operation as operation
use Rattle.behaviour_tree.specs.contracts.program.Interface as interface
use Rattle.behaviour_tree.specs.contracts.program.Service as service
use Rattle.behaviour_tree.specs.contracts.program.Parts as parts
use Rattle.behaviour_tree.specs.contracts.program.Program as program
use Rattle.correlation.proofs.bind_reply.BindReply.TheSendSync as bind_reply
use Rattle.correlation.proofs.rows.Rows.TheSendSync as rows
use Rattle.post_box.proofs.boxes.Boxes.TheSendSync as boxes
use Rattle.reqresp_book.proofs.origin.Origin.TheSendSync as origin
use Rattle.reqresp_book.specs.contracts.place.Standing as standing
use Rattle.reqresp_book.specs.contracts.place.Place as place
use Rattle.reqresp_book.specs.contracts.book.Book as book
use Rattle.office_core.proofs.history.Placed.TheSendSync as placed
use Rattle.office_core.proofs.post.PostReply.TheSendSync as post_reply
use Rattle.office_core.specs.contracts.post.Posted as posted
use Rattle.office_core.specs.contracts.message.Message as message
use Rattle.office_core.specs.contracts.message.Call as call
use Rattle.office_core.specs.contracts.history.Act as act
use Rattle.office_core.specs.contracts.history.Entry as entry
use Rattle.office_core.specs.contracts.history.History as history
use Rattle.office_plain.proofs.kept.SessionRow.TheSendSync as row
use Rattle.office_plain.proofs.queue.Queue.TheSendSync as queue
use Rattle.office_plain.specs.contracts.kept.Kept as kept
use Rattle.office_plain.specs.contracts.log.Log as log
use Rattle.office_plain.specs.contracts.office.Office as office

ruleset values = (sendable, crosses, maps.crosses, trees.crosses, text.the_send, root.the_send, root.the_field_send)

-- ---- entries

outcome_field : IsSend outcome.the_field.row
outcome_field = search (values, reason.the_field_send) depth 20 fits 20000

outcome_send : IsSend outcome.the_row
outcome_send = search (values, reason.the_field_send) depth 20 fits 20000

posted_field : IsSend posted.the_field.row
posted_field = search values depth 20 fits 20000

act_field : IsSend act.the_field.row
act_field =
    search (
      values,
      outcome_field,
      posted_field,
      post_reply.the_field_send,
      bind_reply.the_field_send,
      placed.the_field_send,
    ) depth 20 fits 20000

entry_send : IsSend entry.the_row
entry_send = search (sendable, act_field) depth 20

history_field : IsSend history.the_field.row
history_field = search (sendable, crosses, entry_send) depth 20

-- ---- programs

type_send : IsSend type_def.the_row
type_send = search (sendable, crosses, types.crosses, text.the_send) depth 20 fits 20000

type_sync : IsSync type_def.the_row
type_sync = search (sendable, crosses, types.crosses, text.the_sync) depth 20 fits 20000

throws_send : IsSend throws.the_row
throws_send = search (sendable, crosses, types.crosses, text.the_send) depth 20 fits 20000

throws_sync : IsSync throws.the_row
throws_sync = search (sendable, crosses, types.crosses, text.the_sync) depth 20 fits 20000

operation_send : IsSend operation.the_row
operation_send = search (sendable, crosses, types.crosses, text.the_send, throws_send) depth 20 fits 20000

operation_sync : IsSync operation.the_row
operation_sync = search (sendable, crosses, types.crosses, text.the_sync, throws_sync) depth 20 fits 20000

interface_send : IsSend interface.the_row
interface_send = search (sendable, crosses, text.the_send, operation_send) depth 20

interface_sync : IsSync interface.the_row
interface_sync = search (sendable, crosses, text.the_sync, operation_sync) depth 20

path_field : IsSend path_expr.the_field.row
path_field = search (sendable, crosses, exprs.crosses, text.the_send) depth 20 fits 20000

path_field_sync : IsSync path_expr.the_field.row
path_field_sync = search (sendable, crosses, exprs.crosses, text.the_sync) depth 20 fits 20000

expr_field : IsSend expr.the_field.row
expr_field = search (sendable, crosses, exprs.crosses, text.the_send) depth 20 fits 20000

expr_field_sync : IsSync expr.the_field.row
expr_field_sync = search (sendable, crosses, exprs.crosses, text.the_sync) depth 20 fits 20000

behaviour_field : IsSend behaviour.the_field.row
behaviour_field =
    search (sendable, crosses, behaviours.crosses, path_field, expr_field, key.the_field_send) depth 20 fits 20000

behaviour_field_sync : IsSync behaviour.the_field.row
behaviour_field_sync =
    search (
      sendable,
      crosses,
      behaviours.crosses,
      path_field_sync,
      expr_field_sync,
      key.the_field_sync,
    ) depth 20 fits 20000

service_send : IsSend service.the_row
service_send =
    search (
      sendable,
      crosses,
      text.the_send,
      execution.the_field_send,
      port.the_send,
      set.the_send,
      behaviour_field,
    ) depth 20 fits 20000

service_sync : IsSync service.the_row
service_sync =
    search (
      sendable,
      crosses,
      text.the_sync,
      execution.the_field_sync,
      port.the_sync,
      set.the_sync,
      behaviour_field_sync,
    ) depth 20 fits 20000

parts_send : IsSend parts.the_row
parts_send = search (sendable, crosses, text.the_send, type_send, interface_send, service_send) depth 20

parts_sync : IsSync parts.the_row
parts_sync = search (sendable, crosses, text.the_sync, type_sync, interface_sync, service_sync) depth 20

program_field : IsSend program.the_field.row
program_field = search (sendable, crosses, parts_send, parts_sync) depth 20

-- ---- the office

message_send : IsSend message.the_row
message_send = search (values, origin.the_field_send) depth 20 fits 20000

call_send : IsSend call.the_row
call_send = search (values, placed.the_field_send) depth 20 fits 20000

standing_field : IsSend standing.the_field.row
standing_field = search (sendable, outcome_field) depth 20 fits 20000

place_send : IsSend place.the_row
place_send = search (sendable, origin.the_field_send, standing_field) depth 20 fits 20000

book_field : IsSend book.the_field.row
book_field = search (sendable, crosses, place_send) depth 20 fits 20000

kept_field : IsSend kept.the_field.row
kept_field =
    search (
      sendable,
      crosses,
      items.the_send,
      message_send,
      row.the_send,
      boxes.the_field_send,
      book_field,
      rows.the_field_send,
      call_send,
      outcome_send,
      queue.the_send,
    ) depth 20 fits 20000

log_field : IsSend log.the_field.row
log_field = search (sendable, history_field) depth 20 fits 20000

pub office_send : IsSend office.the_row
office_send = search (sendable, crosses, program_field, log_field, kept_field) depth 20 fits 20000

-- A piece more of the text is out, or the wire waits or failed.
use Rattle.std.proofs.Common.{rules, ◌≡◌, ◌<◌, ◌≤◌, ◌++◌, length, length-append, arith, inr, refl, sym, ap, ◌∙◌, subst, [], take, drop}
use Rattle.std.specs.Io.KnownBytes.{Appends}
use Rattle.http_connection.specs.Talking.{log_of}
use Rattle.http_connection.specs.Prompt.{OnlyWrites}
use Rattle.http_connection.proofs.Calls.{called_writes}
use Rattle.outside_polling.specs.Polls.{PollTold}
use Rattle.conn_future.specs.Outgoing.{Outgoing}
use Rattle.conn_future.specs.Stages.{stage_of}
use Rattle.conn_future.specs.Talking.{seen, plain}
use Rattle.conn_future.specs.Steps.{unmade}
use Rattle.conn_future.proofs.Writing.{moved, some_left}
use Rattle.conn_future.proofs.Sending.{Wrote, sending, not_none, wrote_carried, wrote_out, cut_now}
use Rattle.conn_future.proofs.Standing.{spends_sending}
use Rattle.conn_future.proofs.Turning.{stops_since, over_stops, one_write, taken_count, nothing_called, write_less, any_less, over_less, any_row, over_row, same_passed, row_ended_on, row_writes, rows_kept}
use Rattle.conn_future.proofs.turn.write_on.Goals as goal

pub returns-in_err-reserve-clause-talks : goal.returns-in_err-reserve-clause-talks
returns-in_err-reserve-clause-talks g c = λ first bodies texts h.
    let was = seen c.args.kept.now (g.W.PollWire.told c.args.wire.now) in
    let now = seen (record c.stand.new.self { written = c.reserve.new.self }) (g.W.PollWire.told c.args.wire.now) in
    spends_sending first was now c.args.close bodies texts h c.requires
    (record { reader = c.stand.ensures.same.reader; read = c.stand.ensures.same.read; written = c.in_err-reserve.ensures.items ∙ c.stand.ensures.same.written })
    refl c.stand.ensures.next

pub returns-in-Ok-NotYet-clause-talks : goal.returns-in-Ok-NotYet-clause-talks
returns-in-Ok-NotYet-clause-talks g c = λ first bodies texts h.
    let was = seen c.args.kept.now (g.W.PollWire.told c.args.wire.now) in
    let now = seen c.stand-in-Ok-NotYet.new.self (g.W.PollWire.told c.try_write.new.self) in
    moved first was now bodies texts h
    (record {
      reader = c.stand-in-Ok-NotYet.ensures.same.reader ∙ c.stand.ensures.same.reader;
      read = c.stand-in-Ok-NotYet.ensures.same.read ∙ c.stand.ensures.same.read;
      written = search rules;
    })
    (c.stand-in-Ok-NotYet.ensures.said ∙ c.stand.ensures.said)
    (c.stand-in-Ok-NotYet.ensures.due ∙ c.stand.ensures.due)
    (ap (λ (t : PollTold). t.wire) (rw c.in-Ok-NotYet.field-0-is at c.in-Ok-NotYet.ensures.writes).1)
    (c.stand-in-Ok-NotYet.ensures.next ∙ sym c.requires)

pub returns-in-Ok-Done-clause-talks : goal.returns-in-Ok-Done-clause-talks
returns-in-Ok-Done-clause-talks g c = λ first bodies texts h.
    let was = seen c.args.kept.now (g.W.PollWire.told c.args.wire.now) in
    let mid = seen (record c.stand.new.self { written = c.extend_from_slice.new.self; due = c.advance.new.self }) (g.W.PollWire.told c.try_write.new.self) in
    let n = c.in-Ok-Done.count in
    let did = (rw c.in-Ok-Done.field-0-is at c.in-Ok-Done.ensures.writes).0 in
    let same : c.left-rest.result.now ≡ was.kept.due.left = c.left-rest.ensures ∙ ap (λ (d : Outgoing). d.left) c.stand.ensures.due in
    let at = sending first was c.args.close bodies texts h c.requires in
    let wrote : Wrote (take n was.kept.due.left) was mid = record {
      taken = subst (λ l. Appends was.line.written mid.line.written (take n l)) same did.written;
      failures = λ i. record { read_failed = did.read_failed i; write_failed = did.write_failed i };
      given = did.read;
      left = did.unread;
      closed = did.closed;
      door = did.door;
      read = c.stand.ensures.same.read;
      written = search rules;
      reader = c.stand.ensures.same.reader;
    } in
    c.go_behind.ensures.talks first bodies texts
    (wrote_carried first was mid (take n was.kept.due.left) at.0 wrote)
    (wrote_out was mid c.args.close n bodies texts at.1 wrote
    (subst (λ (d : Outgoing). mid.kept.due.out ++ mid.kept.due.left ≡ d.out ++ d.left) c.stand.ensures.due c.advance.ensures.whole)
    (subst (λ (d : Outgoing). mid.kept.due.left ≡ drop n d.left) c.stand.ensures.due c.advance.ensures.left))

pub returns-in-Err-clause-talks : goal.returns-in-Err-clause-talks
returns-in-Err-clause-talks g c = λ first bodies texts h.
    let was = seen c.args.kept.now (g.W.PollWire.told c.args.wire.now) in
    let mid = seen (record c.stand.new.self { written = c.reserve.new.self }) (g.W.PollWire.told c.try_write.new.self) in
    let now = seen c.finish-in-Err.new.kept (g.W.PollWire.told c.finish-in-Err.new.wire) in
    let did = c.in-Err.ensures.writes.0 in
    let at = sending first was c.args.close bodies texts h c.requires in
    cut_now first was mid now c.args.close bodies texts at.0 at.1 at.2
    (record {
      taken = did.written;
      read_failed = did.read_failed;
      write_failed = did.write_failed;
      given = did.read;
      left = did.unread;
      door = did.door;
      read = c.stand.ensures.same.read;
      written = search rules;
      reader = c.stand.ensures.same.reader;
    })
    c.finish-in-Err.ensures.finishes

pub returns-in_err-reserve-clause-called : goal.returns-in_err-reserve-clause-called
returns-in_err-reserve-clause-called g c = λ first bodies texts h.
    nothing_called (seen c.args.kept.now (g.W.PollWire.told c.args.wire.now))
    (seen (record c.stand.new.self { written = c.reserve.new.self }) (g.W.PollWire.told c.args.wire.now)) bodies texts
    (record { reader = c.stand.ensures.same.reader; read = c.stand.ensures.same.read; written = c.in_err-reserve.ensures.items ∙ c.stand.ensures.same.written })
    refl

pub returns-in-Ok-NotYet-clause-called : goal.returns-in-Ok-NotYet-clause-called
returns-in-Ok-NotYet-clause-called g c = λ first bodies texts h.
    nothing_called (seen c.args.kept.now (g.W.PollWire.told c.args.wire.now))
    (seen c.stand-in-Ok-NotYet.new.self (g.W.PollWire.told c.try_write.new.self)) bodies texts
    (record {
      reader = c.stand-in-Ok-NotYet.ensures.same.reader ∙ c.stand.ensures.same.reader;
      read = c.stand-in-Ok-NotYet.ensures.same.read ∙ c.stand.ensures.same.read;
      written = search rules;
    })
    (ap (λ (t : PollTold). t.wire.calls) (rw c.in-Ok-NotYet.field-0-is at c.in-Ok-NotYet.ensures.writes).1)

pub returns-in-Ok-Done-clause-called : goal.returns-in-Ok-Done-clause-called
returns-in-Ok-Done-clause-called g c = λ first bodies texts h.
    let was = seen c.args.kept.now (g.W.PollWire.told c.args.wire.now) in
    let now = seen c.go_behind.new.kept (g.W.PollWire.told c.go_behind.new.wire) in
    let n = c.in-Ok-Done.count in
    called_writes was.line.calls now.line.calls (log_of (plain was) bodies texts) (log_of (plain now) bodies texts)
    (subst (λ l. OnlyWrites was.line.calls l was.kept.written.items now.kept.written.items) (sym c.go_behind.ensures.calls)
    (one_write was.line.calls (g.W.PollWire.told c.try_write.new.self).wire.calls was.kept.written.items now.kept.written.items (take n c.left-rest.result.now) n
    (rw c.in-Ok-Done.field-0-is at c.in-Ok-Done.ensures.writes).0.calls
    (taken_count n c.left-rest.result.now c.left-rest.result.now (rw c.in-Ok-Done.field-0-is at c.in-Ok-Done.ensures.bound) refl)
    (c.go_behind.ensures.written ∙ (search rules))))
    (c.go_behind.ensures.read ∙ c.stand.ensures.same.read)

pub returns-in-Err-clause-called : goal.returns-in-Err-clause-called
returns-in-Err-clause-called g c = λ first bodies texts h.
    let was = seen c.args.kept.now (g.W.PollWire.told c.args.wire.now) in
    let now = seen c.finish-in-Err.new.kept (g.W.PollWire.told c.finish-in-Err.new.wire) in
    called_writes was.line.calls now.line.calls (log_of (plain was) bodies texts) (log_of (plain now) bodies texts)
    (subst (λ l. OnlyWrites was.line.calls l was.kept.written.items now.kept.written.items) (sym c.finish-in-Err.ensures.calls)
    (one_write was.line.calls (g.W.PollWire.told c.try_write.new.self).wire.calls was.kept.written.items now.kept.written.items [] 0
    c.in-Err.ensures.writes.0.calls refl (c.finish-in-Err.ensures.finishes.plainly.written ∙ (search rules))))
    (c.finish-in-Err.ensures.finishes.plainly.read ∙ c.stand.ensures.same.read)

pub returns-in-Ok-NotYet-clause-stops : goal.returns-in-Ok-NotYet-clause-stops
returns-in-Ok-NotYet-clause-stops g c = (ap (λ (t : PollTold). t.waits) (rw c.in-Ok-NotYet.field-0-is at c.in-Ok-NotYet.ensures.writes).1, inr (ap stage_of c.stand-in-Ok-NotYet.ensures.next))

pub returns-in-Ok-Done-clause-stops : goal.returns-in-Ok-Done-clause-stops
returns-in-Ok-Done-clause-stops g c =
    stops_since c.go_behind.result (g.W.PollWire.told c.args.wire.now).waits (g.W.PollWire.told c.try_write.new.self).waits (g.W.PollWire.told c.go_behind.new.wire).waits (stage_of c.go_behind.new.kept.next)
    (rw c.in-Ok-Done.field-0-is at c.in-Ok-Done.ensures.writes).1 c.go_behind.ensures.stops

pub returns-in-Err-clause-stops : goal.returns-in-Err-clause-stops
returns-in-Err-clause-stops g c =
    over_stops c.finish-in-Err.result (g.W.PollWire.told c.args.wire.now).waits (g.W.PollWire.told c.finish-in-Err.new.wire).waits c.finish-in-Err.new.kept.next _
    c.finish-in-Err.ensures.turn (c.finish-in-Err.ensures.waits ∙ c.in-Err.ensures.writes.1) c.finish-in-Err.ensures.finishes.next

pub returns-in-Ok-Done-clause-less : goal.returns-in-Ok-Done-clause-less
returns-in-Ok-Done-clause-less g c =
    let was = c.args.kept.now in
    let n = c.in-Ok-Done.count in
    let rest = c.left-rest.result.now in
    let did = (rw c.in-Ok-Done.field-0-is at c.in-Ok-Done.ensures.writes).0 in
    let v = c.extend_from_slice.new.self in
    let some = did.some (subst (λ l. 0 < length l) (sym c.left-rest.ensures) (some_left _ (sym c.is_out.ensures ∙ c.if-is_out.false))) in
    let grown : v.items ≡ was.written.items ++ take n rest = search rules in
    let longer = ap length grown ∙ length-append was.written.items (take n rest) in
    let count = taken_count n rest rest (rw c.in-Ok-Done.field-0-is at c.in-Ok-Done.ensures.bound) refl in
    let same = ap length c.go_behind.ensures.written in
    any_less c.go_behind.result was c.go_behind.new.kept
    (write_less was c.go_behind.new.kept
    (omega (arith, longer, count, same, some))
    (omega (arith, same, v.ok.0, v.ok.1, v.small))
    (c.go_behind.ensures.read ∙ c.stand.ensures.same.read)
    c.go_behind.ensures.made)

pub returns-in-Ok-NotYet-clause-row : goal.returns-in-Ok-NotYet-clause-row
returns-in-Ok-NotYet-clause-row g c = (
  ap (λ (t : PollTold). t.in_a_row) (rw c.in-Ok-NotYet.field-0-is at c.in-Ok-NotYet.ensures.writes).1,
  same_passed c.args.kept.now c.stand-in-Ok-NotYet.new.self (record {
    reader = c.stand-in-Ok-NotYet.ensures.same.reader ∙ c.stand.ensures.same.reader;
    read = c.stand-in-Ok-NotYet.ensures.same.read ∙ c.stand.ensures.same.read;
    written = search rules;
  }),
)

pub returns-in-Ok-Done-clause-row : goal.returns-in-Ok-Done-clause-row
returns-in-Ok-Done-clause-row g c =
    let was = c.args.kept.now in
    let n = c.in-Ok-Done.count in
    let rest = c.left-rest.result.now in
    let did = (rw c.in-Ok-Done.field-0-is at c.in-Ok-Done.ensures.writes).0 in
    let v = c.extend_from_slice.new.self in
    let some = did.some (subst (λ l. 0 < length l) (sym c.left-rest.ensures) (some_left _ (sym c.is_out.ensures ∙ c.if-is_out.false))) in
    let grown : v.items ≡ was.written.items ++ take n rest = search rules in
    let longer = ap length grown ∙ length-append was.written.items (take n rest) in
    let count = taken_count n rest rest (rw c.in-Ok-Done.field-0-is at c.in-Ok-Done.ensures.bound) refl in
    let same = ap length c.go_behind.ensures.written in
    let read = ap length (c.go_behind.ensures.read ∙ c.stand.ensures.same.read) in
    any_row c.go_behind.result _ _ was c.go_behind.new.kept c.go_behind.ensures.moves (omega (arith, longer, count, same, some, read))

pub returns-in-Err-clause-row : goal.returns-in-Err-clause-row
returns-in-Err-clause-row g c = over_row c.finish-in-Err.result _ _ c.args.kept.now c.finish-in-Err.new.kept c.finish-in-Err.ensures.turn

pub returns-then-is_out-clause-row : goal.returns-then-is_out-clause-row
returns-then-is_out-clause-row g c = over_row c.finish.result _ _ c.args.kept.now c.finish.new.kept c.finish.ensures.turn

pub returns-in-Err-clause-less : goal.returns-in-Err-clause-less
returns-in-Err-clause-less g c = over_less c.finish-in-Err.result c.args.kept.now c.finish-in-Err.new.kept c.finish-in-Err.ensures.turn

pub returns-then-is_out-clause-talks : goal.returns-then-is_out-clause-talks
returns-then-is_out-clause-talks g c = λ first bodies texts h.
    let was = seen c.args.kept.now (g.W.PollWire.told c.args.wire.now) in
    absurd (not_none was.kept.due.left c.stand.new.self.due.left (ap (λ (d : Outgoing). d.left) c.stand.ensures.due)
    (sending first was c.args.close bodies texts h c.requires).2 (sym c.is_out.ensures ∙ c.if-is_out.true))

pub returns-then-is_out-clause-called : goal.returns-then-is_out-clause-called
returns-then-is_out-clause-called g c = λ first bodies texts h.
    let was = seen c.args.kept.now (g.W.PollWire.told c.args.wire.now) in
    absurd (not_none was.kept.due.left c.stand.new.self.due.left (ap (λ (d : Outgoing). d.left) c.stand.ensures.due)
    (sending first was c.args.close bodies texts h c.requires).2 (sym c.is_out.ensures ∙ c.if-is_out.true))

pub returns-then-is_out-clause-stops : goal.returns-then-is_out-clause-stops
returns-then-is_out-clause-stops g c =
    over_stops c.finish.result (g.W.PollWire.told c.args.wire.now).waits (g.W.PollWire.told c.finish.new.wire).waits c.finish.new.kept.next _
    c.finish.ensures.turn c.finish.ensures.waits c.finish.ensures.finishes.next

pub returns-then-is_out-clause-less : goal.returns-then-is_out-clause-less
returns-then-is_out-clause-less g c = over_less c.finish.result c.args.kept.now c.finish.new.kept c.finish.ensures.turn

pub returns-then-is_out-clause-made : goal.returns-then-is_out-clause-made
returns-then-is_out-clause-made g c = ap unmade c.finish.ensures.finishes.next

pub returns-in_err-reserve-clause-made : goal.returns-in_err-reserve-clause-made
returns-in_err-reserve-clause-made g c = ap unmade c.stand.ensures.next

pub returns-in-Ok-NotYet-clause-made : goal.returns-in-Ok-NotYet-clause-made
returns-in-Ok-NotYet-clause-made g c = ap unmade c.stand-in-Ok-NotYet.ensures.next

pub returns-in-Ok-Done-clause-made : goal.returns-in-Ok-Done-clause-made
returns-in-Ok-Done-clause-made g c = c.go_behind.ensures.made

pub returns-in-Err-clause-made : goal.returns-in-Err-clause-made
returns-in-Err-clause-made g c = ap unmade c.finish-in-Err.ensures.finishes.next

pub returns-then-is_out-clause-longest : goal.returns-then-is_out-clause-longest
returns-then-is_out-clause-longest g c = rows_kept _ _ _ _ c.finish.ensures.rows (λ a. inr (ap stage_of c.requires))

pub returns-in_err-reserve-clause-longest : goal.returns-in_err-reserve-clause-longest
returns-in_err-reserve-clause-longest g c = rows_kept _ _ _ _ (record { row = refl; longest = refl }) (λ a. inr (ap stage_of c.requires))

pub returns-in-Ok-NotYet-clause-longest : goal.returns-in-Ok-NotYet-clause-longest
returns-in-Ok-NotYet-clause-longest g c =
    row_writes _ _ (g.W.PollWire.told c.args.wire.now) (g.W.PollWire.told c.try_write.new.self) (rw c.in-Ok-NotYet.field-0-is at c.in-Ok-NotYet.ensures.writes).1
    (rw c.in-Ok-NotYet.field-0-is at c.in-Ok-NotYet.ensures.longest)

pub returns-in-Ok-Done-clause-longest : goal.returns-in-Ok-Done-clause-longest
returns-in-Ok-Done-clause-longest g c =
    row_ended_on _ _ (g.W.PollWire.told c.args.wire.now) (g.W.PollWire.told c.try_write.new.self) (g.W.PollWire.told c.go_behind.new.wire)
    (rw c.in-Ok-Done.field-0-is at c.in-Ok-Done.ensures.row) (rw c.in-Ok-Done.field-0-is at c.in-Ok-Done.ensures.longest) c.go_behind.ensures.rows

pub returns-in-Err-clause-longest : goal.returns-in-Err-clause-longest
returns-in-Err-clause-longest g c =
    row_ended_on _ _ (g.W.PollWire.told c.args.wire.now) (g.W.PollWire.told c.try_write.new.self) (g.W.PollWire.told c.finish-in-Err.new.wire)
    c.in-Err.ensures.row c.in-Err.ensures.longest c.finish-in-Err.ensures.rows

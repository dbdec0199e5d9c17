-- What a read brings is taken up, or the wire waits or failed.
use Rattle.std.proofs.Common.{rules, ◌≡◌, ◌+◌, ◌<◌, ◌≤◌, ◌^◌, ◌++◌, length, length-append, arith, inl, inr, refl, sym, ap, ◌∙◌, subst, [], ◌∷◌, take}
use Rattle.std.specs.Io.KnownBytes.{Appends, Consumes}
use Rattle.outside_traits.specs.Told.{Lists}
use Rattle.outside_traits.specs.declared.calls.WireCall.TheVariants.{Read}
use Rattle.http_connection.specs.Talking.{log_of}
use Rattle.http_connection.proofs.Passing.{read_going, read_ended, read_failed}
use Rattle.http_connection.proofs.Words.{done_so}
use Rattle.http_connection.proofs.Ends.{read_tells}
use Rattle.http_connection.proofs.Calls.{called_read}
use Rattle.outside_polling.specs.Polls.{PollTold}
use Rattle.conn_future.specs.Stages.{plain_standing, stage_of}
use Rattle.conn_future.specs.Talking.{seen, plain}
use Rattle.conn_future.specs.Steps.{unmade}
use Rattle.conn_future.proofs.Standing.{waits_fed, waits_spent, ended_now, read_failed_now}
use Rattle.conn_future.proofs.Writing.{moved}
use Rattle.conn_future.proofs.Turning.{over_stops, nothing_called, read_less, over_less, over_row, same_passed, row_ended, row_ended_on, row_reads, row_spent}
use Rattle.conn_future.proofs.turn.read_on.Goals as goal

pub returns-in_err-reserve-clause-talks : goal.returns-in_err-reserve-clause-talks
returns-in_err-reserve-clause-talks g c = λ first bodies texts h.
    waits_spent first (seen c.args.kept.now (g.W.PollWire.told c.args.wire.now))
    (seen (record c.stand.new.self { read = c.reserve.new.self }) (g.W.PollWire.told c.args.wire.now)) bodies texts h c.requires
    (record { reader = c.stand.ensures.same.reader; read = c.in_err-reserve.ensures.items ∙ c.stand.ensures.same.read; written = c.stand.ensures.same.written })
    refl c.stand.ensures.next

pub returns-in-Ok-NotYet-clause-talks : goal.returns-in-Ok-NotYet-clause-talks
returns-in-Ok-NotYet-clause-talks g c = λ first bodies texts h.
    moved first (seen c.args.kept.now (g.W.PollWire.told c.args.wire.now))
    (seen c.stand-in-Ok-NotYet.new.self (g.W.PollWire.told c.try_read.new.self)) bodies texts h
    (record {
      reader = c.stand-in-Ok-NotYet.ensures.same.reader ∙ c.stand.ensures.same.reader;
      read = search rules;
      written = c.stand-in-Ok-NotYet.ensures.same.written ∙ c.stand.ensures.same.written;
    })
    (c.stand-in-Ok-NotYet.ensures.said ∙ c.stand.ensures.said)
    (c.stand-in-Ok-NotYet.ensures.due ∙ c.stand.ensures.due)
    (ap (λ (t : PollTold). t.wire) (rw c.in-Ok-NotYet.field-0-is at c.in-Ok-NotYet.ensures.reads).1)
    (c.stand-in-Ok-NotYet.ensures.next ∙ sym c.requires)

pub returns-in-Ok-Done-eq0-clause-talks : goal.returns-in-Ok-Done-eq0-clause-talks
returns-in-Ok-Done-eq0-clause-talks g c = λ first bodies texts h.
    let was = seen c.args.kept.now (g.W.PollWire.told c.args.wire.now) in
    let mid = seen (record c.stand.new.self { read = c.reserve.new.self }) (g.W.PollWire.told c.try_read.new.self) in
    let now = seen c.finish.new.kept (g.W.PollWire.told c.finish.new.wire) in
    let did = (rw c.in-Ok-Done-eq0.field-0-is at c.in-Ok-Done-eq0.ensures.reads).0 in
    ended_now first now bodies texts
    (read_ended first (plain was) (plain mid) (plain now) bodies texts (waits_fed first was bodies texts h c.requires)
    (record {
      given = subst (λ n. Appends was.line.read mid.line.read (take n c.try_read.new.into)) c.in-Ok-Done-eq0.field-0-0-test did.read;
      left = subst (λ n. Consumes was.line.unread mid.line.unread (take n c.try_read.new.into)) c.in-Ok-Done-eq0.field-0-0-test did.bytes.0;
      taken = did.written;
      failures = λ i. record { read_failed = did.read_failed i; write_failed = did.write_failed i };
      closed = did.closed;
      door = did.door;
      read = search rules;
      written = c.stand.ensures.same.written;
      reader = c.stand.ensures.same.reader;
    })
    (did.bytes.1 c.in-Ok-Done-eq0.field-0-0-test (search rules))
    c.finish.ensures.finishes.plainly)
    (λ o. c.finish.ensures.ended
    ∙ read_tells first (plain was) bodies texts h.talks (ap plain_standing c.requires) o
    was.line.ended mid.line.ended 4096 c.in-Ok-Done-eq0.field-0-0 did.ended refl c.in-Ok-Done-eq0.field-0-0-test)
    c.finish.ensures.finishes.next

pub returns-in_err-go_on-in-Ok-Done-clause-talks : goal.returns-in_err-go_on-in-Ok-Done-clause-talks
returns-in_err-go_on-in-Ok-Done-clause-talks g c = λ first bodies texts h.
    let was = seen c.args.kept.now (g.W.PollWire.told c.args.wire.now) in
    let mid = seen (record c.stand.new.self { read = c.extend_from_slice.new.self }) (g.W.PollWire.told c.try_read.new.self) in
    let did = (rw c.in-Ok-Done.field-0-is at c.in-Ok-Done.ensures.reads).0 in
    c.in_err-go_on-in-Ok-Done.ensures.talks first mid.line bodies texts
    (read_going first (plain was) (plain mid) (take c.in-Ok-Done.count c.try_read.new.into) bodies texts (waits_fed first was bodies texts h c.requires)
    (record {
      given = did.read;
      left = did.bytes.0;
      taken = did.written;
      failures = λ i. record { read_failed = did.read_failed i; write_failed = did.write_failed i };
      closed = did.closed;
      door = did.door;
      read = search rules;
      written = c.stand.ensures.same.written;
      reader = c.stand.ensures.same.reader;
    }))

pub returns-in_ok-go_on-in-Ok-Done-clause-talks : goal.returns-in_ok-go_on-in-Ok-Done-clause-talks
returns-in_ok-go_on-in-Ok-Done-clause-talks g c = λ first bodies texts h.
    let was = seen c.args.kept.now (g.W.PollWire.told c.args.wire.now) in
    let mid = seen (record c.stand.new.self { read = c.extend_from_slice.new.self }) (g.W.PollWire.told c.try_read.new.self) in
    let did = (rw c.in-Ok-Done.field-0-is at c.in-Ok-Done.ensures.reads).0 in
    c.in_ok-go_on-in-Ok-Done.ensures.talks first mid.line bodies texts
    (read_going first (plain was) (plain mid) (take c.in-Ok-Done.count c.try_read.new.into) bodies texts (waits_fed first was bodies texts h c.requires)
    (record {
      given = did.read;
      left = did.bytes.0;
      taken = did.written;
      failures = λ i. record { read_failed = did.read_failed i; write_failed = did.write_failed i };
      closed = did.closed;
      door = did.door;
      read = search rules;
      written = c.stand.ensures.same.written;
      reader = c.stand.ensures.same.reader;
    }))

pub returns-in-Err-clause-talks : goal.returns-in-Err-clause-talks
returns-in-Err-clause-talks g c = λ first bodies texts h.
    let was = seen c.args.kept.now (g.W.PollWire.told c.args.wire.now) in
    let mid = seen (record c.stand.new.self { read = c.reserve.new.self }) (g.W.PollWire.told c.try_read.new.self) in
    let now = seen c.finish-in-Err.new.kept (g.W.PollWire.told c.finish-in-Err.new.wire) in
    let did = c.in-Err.ensures.reads.0 in
    read_failed_now first now bodies texts
    (read_failed first (plain was) (plain mid) (plain now) bodies texts (waits_fed first was bodies texts h c.requires)
    (record {
      given = did.read;
      left = did.bytes;
      taken = did.written;
      lost = did.read_failed;
      uncut = did.write_failed;
      door = did.door;
      read = search rules;
      written = c.stand.ensures.same.written;
      reader = c.stand.ensures.same.reader;
    })
    c.finish-in-Err.ensures.finishes.plainly)
    c.finish-in-Err.ensures.finishes.next

pub returns-in_err-reserve-clause-called : goal.returns-in_err-reserve-clause-called
returns-in_err-reserve-clause-called g c = λ first bodies texts h.
    nothing_called (seen c.args.kept.now (g.W.PollWire.told c.args.wire.now))
    (seen (record c.stand.new.self { read = c.reserve.new.self }) (g.W.PollWire.told c.args.wire.now)) bodies texts
    (record { reader = c.stand.ensures.same.reader; read = c.in_err-reserve.ensures.items ∙ c.stand.ensures.same.read; written = c.stand.ensures.same.written })
    refl

pub returns-in-Ok-NotYet-clause-called : goal.returns-in-Ok-NotYet-clause-called
returns-in-Ok-NotYet-clause-called g c = λ first bodies texts h.
    nothing_called (seen c.args.kept.now (g.W.PollWire.told c.args.wire.now))
    (seen c.stand-in-Ok-NotYet.new.self (g.W.PollWire.told c.try_read.new.self)) bodies texts
    (record {
      reader = c.stand-in-Ok-NotYet.ensures.same.reader ∙ c.stand.ensures.same.reader;
      read = search rules;
      written = c.stand-in-Ok-NotYet.ensures.same.written ∙ c.stand.ensures.same.written;
    })
    (ap (λ (t : PollTold). t.wire.calls) (rw c.in-Ok-NotYet.field-0-is at c.in-Ok-NotYet.ensures.reads).1)

pub returns-in-Ok-Done-eq0-clause-called : goal.returns-in-Ok-Done-eq0-clause-called
returns-in-Ok-Done-eq0-clause-called g c = λ first bodies texts h.
    let was = seen c.args.kept.now (g.W.PollWire.told c.args.wire.now) in
    let now = seen c.finish.new.kept (g.W.PollWire.told c.finish.new.wire) in
    let f = c.finish.ensures.finishes.plainly in
    called_read was.line.calls now.line.calls (log_of (plain was) bodies texts) (log_of (plain now) bodies texts) [] 0
    (subst (λ l. Lists was.line.calls l (Read 0 ∷ [])) (sym c.finish.ensures.calls)
    (subst (λ n. Lists was.line.calls (g.W.PollWire.told c.try_read.new.self).wire.calls (Read n ∷ [])) c.in-Ok-Done-eq0.field-0-0-test (rw c.in-Ok-Done-eq0.field-0-is at c.in-Ok-Done-eq0.ensures.reads).0.calls))
    refl (f.read ∙ (search rules)) (f.written ∙ c.stand.ensures.same.written)
    (done_so was.kept.reader (log_of (plain was) bodies texts) (waits_fed first was bodies texts h c.requires).given)

pub returns-in_err-go_on-in-Ok-Done-clause-called : goal.returns-in_err-go_on-in-Ok-Done-clause-called
returns-in_err-go_on-in-Ok-Done-clause-called g c = λ first bodies texts h.
    let was = seen c.args.kept.now (g.W.PollWire.told c.args.wire.now) in
    let now = seen c.go_on.new.kept (g.W.PollWire.told c.try_read.new.self) in
    called_read was.line.calls now.line.calls (log_of (plain was) bodies texts) (log_of (plain now) bodies texts)
    (take c.in-Ok-Done.count c.try_read.new.into) c.in-Ok-Done.count (rw c.in-Ok-Done.field-0-is at c.in-Ok-Done.ensures.reads).0.calls (rw c.in-Ok-Done.field-0-is at c.in-Ok-Done.ensures.bound).1
    (c.in_err-go_on-in-Ok-Done.ensures.read ∙ (search rules)) (c.in_err-go_on-in-Ok-Done.ensures.written ∙ c.stand.ensures.same.written)
    (done_so was.kept.reader (log_of (plain was) bodies texts) (waits_fed first was bodies texts h c.requires).given)

pub returns-in_ok-go_on-in-Ok-Done-clause-called : goal.returns-in_ok-go_on-in-Ok-Done-clause-called
returns-in_ok-go_on-in-Ok-Done-clause-called g c = λ first bodies texts h.
    let was = seen c.args.kept.now (g.W.PollWire.told c.args.wire.now) in
    let now = seen c.go_on.new.kept (g.W.PollWire.told c.try_read.new.self) in
    called_read was.line.calls now.line.calls (log_of (plain was) bodies texts) (log_of (plain now) bodies texts)
    (take c.in-Ok-Done.count c.try_read.new.into) c.in-Ok-Done.count (rw c.in-Ok-Done.field-0-is at c.in-Ok-Done.ensures.reads).0.calls (rw c.in-Ok-Done.field-0-is at c.in-Ok-Done.ensures.bound).1
    (c.in_ok-go_on-in-Ok-Done.ensures.read ∙ (search rules)) (c.in_ok-go_on-in-Ok-Done.ensures.written ∙ c.stand.ensures.same.written)
    (done_so was.kept.reader (log_of (plain was) bodies texts) (waits_fed first was bodies texts h c.requires).given)

pub returns-in-Err-clause-called : goal.returns-in-Err-clause-called
returns-in-Err-clause-called g c = λ first bodies texts h.
    let was = seen c.args.kept.now (g.W.PollWire.told c.args.wire.now) in
    let now = seen c.finish-in-Err.new.kept (g.W.PollWire.told c.finish-in-Err.new.wire) in
    let f = c.finish-in-Err.ensures.finishes.plainly in
    called_read was.line.calls now.line.calls (log_of (plain was) bodies texts) (log_of (plain now) bodies texts) [] 0
    (subst (λ l. Lists was.line.calls l (Read 0 ∷ [])) (sym c.finish-in-Err.ensures.calls) c.in-Err.ensures.reads.0.calls)
    refl (f.read ∙ (search rules)) (f.written ∙ c.stand.ensures.same.written)
    (done_so was.kept.reader (log_of (plain was) bodies texts) (waits_fed first was bodies texts h c.requires).given)

pub returns-in-Ok-NotYet-clause-stops : goal.returns-in-Ok-NotYet-clause-stops
returns-in-Ok-NotYet-clause-stops g c = (ap (λ (t : PollTold). t.waits) (rw c.in-Ok-NotYet.field-0-is at c.in-Ok-NotYet.ensures.reads).1, inl (ap stage_of c.stand-in-Ok-NotYet.ensures.next))

pub returns-in-Ok-Done-eq0-clause-stops : goal.returns-in-Ok-Done-eq0-clause-stops
returns-in-Ok-Done-eq0-clause-stops g c =
    over_stops c.finish.result (g.W.PollWire.told c.args.wire.now).waits (g.W.PollWire.told c.finish.new.wire).waits c.finish.new.kept.next _
    c.finish.ensures.turn (c.finish.ensures.waits ∙ (rw c.in-Ok-Done-eq0.field-0-is at c.in-Ok-Done-eq0.ensures.reads).1) c.finish.ensures.finishes.next

pub returns-in-Err-clause-stops : goal.returns-in-Err-clause-stops
returns-in-Err-clause-stops g c =
    over_stops c.finish-in-Err.result (g.W.PollWire.told c.args.wire.now).waits (g.W.PollWire.told c.finish-in-Err.new.wire).waits c.finish-in-Err.new.kept.next _
    c.finish-in-Err.ensures.turn (c.finish-in-Err.ensures.waits ∙ c.in-Err.ensures.reads.1) c.finish-in-Err.ensures.finishes.next

pub returns-in_ok-go_on-in-Ok-Done-clause-less : goal.returns-in_ok-go_on-in-Ok-Done-clause-less
returns-in_ok-go_on-in-Ok-Done-clause-less g c =
    let read = c.args.kept.now.read.items in
    let piece = take c.in-Ok-Done.count c.try_read.new.into in
    let v = c.extend_from_slice.new.self in
    let grown : v.items ≡ read ++ piece = search rules in
    let longer = ap length grown ∙ length-append read piece in
    let count = (rw c.in-Ok-Done.field-0-is at c.in-Ok-Done.ensures.bound).1 in
    let same = ap length c.in_ok-go_on-in-Ok-Done.ensures.read in
    read_less c.args.kept.now c.go_on.new.kept
    (omega (arith, longer, count, same, c.in-Ok-Done.count-test))
    (omega (arith, same, v.ok.0, v.ok.1, v.small))
    (c.in_ok-go_on-in-Ok-Done.ensures.written ∙ c.stand.ensures.same.written)
    c.in_ok-go_on-in-Ok-Done.ensures.made

pub returns-in-Ok-NotYet-clause-row : goal.returns-in-Ok-NotYet-clause-row
returns-in-Ok-NotYet-clause-row g c = (
  ap (λ (t : PollTold). t.in_a_row) (rw c.in-Ok-NotYet.field-0-is at c.in-Ok-NotYet.ensures.reads).1,
  same_passed c.args.kept.now c.stand-in-Ok-NotYet.new.self (record {
    reader = c.stand-in-Ok-NotYet.ensures.same.reader ∙ c.stand.ensures.same.reader;
    read = search rules;
    written = c.stand-in-Ok-NotYet.ensures.same.written ∙ c.stand.ensures.same.written;
  }),
)

pub returns-in_ok-go_on-in-Ok-Done-clause-row : goal.returns-in_ok-go_on-in-Ok-Done-clause-row
returns-in_ok-go_on-in-Ok-Done-clause-row g c =
    let read = c.args.kept.now.read.items in
    let piece = take c.in-Ok-Done.count c.try_read.new.into in
    let v = c.extend_from_slice.new.self in
    let grown : v.items ≡ read ++ piece = search rules in
    let longer = ap length grown ∙ length-append read piece in
    let count = (rw c.in-Ok-Done.field-0-is at c.in-Ok-Done.ensures.bound).1 in
    let same = ap length c.in_ok-go_on-in-Ok-Done.ensures.read in
    let written = ap length (c.in_ok-go_on-in-Ok-Done.ensures.written ∙ c.stand.ensures.same.written) in
    inr (omega (arith, longer, count, same, written, c.in-Ok-Done.count-test))

pub returns-in-Ok-Done-eq0-clause-row : goal.returns-in-Ok-Done-eq0-clause-row
returns-in-Ok-Done-eq0-clause-row g c = over_row c.finish.result _ _ c.args.kept.now c.finish.new.kept c.finish.ensures.turn

pub returns-in-Err-clause-row : goal.returns-in-Err-clause-row
returns-in-Err-clause-row g c = over_row c.finish-in-Err.result _ _ c.args.kept.now c.finish-in-Err.new.kept c.finish-in-Err.ensures.turn

pub returns-in-Ok-Done-eq0-clause-less : goal.returns-in-Ok-Done-eq0-clause-less
returns-in-Ok-Done-eq0-clause-less g c = over_less c.finish.result c.args.kept.now c.finish.new.kept c.finish.ensures.turn

pub returns-in-Err-clause-less : goal.returns-in-Err-clause-less
returns-in-Err-clause-less g c = over_less c.finish-in-Err.result c.args.kept.now c.finish-in-Err.new.kept c.finish-in-Err.ensures.turn

pub returns-in_err-reserve-clause-made : goal.returns-in_err-reserve-clause-made
returns-in_err-reserve-clause-made g c = ap unmade c.stand.ensures.next

pub returns-in-Ok-NotYet-clause-made : goal.returns-in-Ok-NotYet-clause-made
returns-in-Ok-NotYet-clause-made g c = ap unmade c.stand-in-Ok-NotYet.ensures.next

pub returns-in-Ok-Done-eq0-clause-made : goal.returns-in-Ok-Done-eq0-clause-made
returns-in-Ok-Done-eq0-clause-made g c = ap unmade c.finish.ensures.finishes.next

pub returns-in_err-go_on-in-Ok-Done-clause-made : goal.returns-in_err-go_on-in-Ok-Done-clause-made
returns-in_err-go_on-in-Ok-Done-clause-made g c = c.in_err-go_on-in-Ok-Done.ensures.made

pub returns-in_ok-go_on-in-Ok-Done-clause-made : goal.returns-in_ok-go_on-in-Ok-Done-clause-made
returns-in_ok-go_on-in-Ok-Done-clause-made g c = c.in_ok-go_on-in-Ok-Done.ensures.made

pub returns-in-Err-clause-made : goal.returns-in-Err-clause-made
returns-in-Err-clause-made g c = ap unmade c.finish-in-Err.ensures.finishes.next

pub returns-in_err-reserve-clause-longest : goal.returns-in_err-reserve-clause-longest
returns-in_err-reserve-clause-longest g c = row_spent _ _ _ _ refl (ap stage_of c.stand.ensures.next)

pub returns-in-Ok-NotYet-clause-longest : goal.returns-in-Ok-NotYet-clause-longest
returns-in-Ok-NotYet-clause-longest g c =
    row_reads _ _ (g.W.PollWire.told c.args.wire.now) (g.W.PollWire.told c.try_read.new.self) c.in-Ok-NotYet.ensures.longest (ap stage_of c.stand-in-Ok-NotYet.ensures.next)

pub returns-in-Ok-Done-eq0-clause-longest : goal.returns-in-Ok-Done-eq0-clause-longest
returns-in-Ok-Done-eq0-clause-longest g c =
    row_ended_on _ _ (g.W.PollWire.told c.args.wire.now) (g.W.PollWire.told c.try_read.new.self) (g.W.PollWire.told c.finish.new.wire)
    (rw c.in-Ok-Done-eq0.field-0-is at c.in-Ok-Done-eq0.ensures.row) c.in-Ok-Done-eq0.ensures.longest c.finish.ensures.rows

pub returns-in_err-go_on-in-Ok-Done-clause-longest : goal.returns-in_err-go_on-in-Ok-Done-clause-longest
returns-in_err-go_on-in-Ok-Done-clause-longest g c =
    row_ended _ _ (g.W.PollWire.told c.args.wire.now) (g.W.PollWire.told c.try_read.new.self)
    (rw c.in-Ok-Done.field-0-is at c.in-Ok-Done.ensures.row) c.in-Ok-Done.ensures.longest

pub returns-in_ok-go_on-in-Ok-Done-clause-longest : goal.returns-in_ok-go_on-in-Ok-Done-clause-longest
returns-in_ok-go_on-in-Ok-Done-clause-longest g c =
    row_ended _ _ (g.W.PollWire.told c.args.wire.now) (g.W.PollWire.told c.try_read.new.self)
    (rw c.in-Ok-Done.field-0-is at c.in-Ok-Done.ensures.row) c.in-Ok-Done.ensures.longest

pub returns-in-Err-clause-longest : goal.returns-in-Err-clause-longest
returns-in-Err-clause-longest g c =
    row_ended_on _ _ (g.W.PollWire.told c.args.wire.now) (g.W.PollWire.told c.try_read.new.self) (g.W.PollWire.told c.finish-in-Err.new.wire)
    c.in-Err.ensures.row c.in-Err.ensures.longest c.finish-in-Err.ensures.rows

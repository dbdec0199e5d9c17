use Rattle.std.proofs.Common.{ap}
use Rattle.outside_polling.specs.Polls.{PollTold}
use Rattle.http_connection.specs.Seen.{failures_of}
use Rattle.conn_future.specs.Stages.{plain_standing}
use Rattle.conn_future.proofs.turn.finish.Goals as goal

pub returns-clause-finishes : goal.returns-clause-finishes
returns-clause-finishes g c = record {
  next = c.stand.ensures.next;
  plainly = record {
    next = ap plain_standing c.stand.ensures.next;
    closed = ap (λ (t : PollTold). t.wire.closed) c.close.ensures.closed;
    door = ap (λ (t : PollTold). t.wire.door) c.close.ensures.closed;
    given = ap (λ (t : PollTold). t.wire.read) c.close.ensures.closed;
    taken = ap (λ (t : PollTold). t.wire.written) c.close.ensures.closed;
    failures = ap (λ (t : PollTold). failures_of t.wire) c.close.ensures.closed;
    read = c.stand.ensures.same.read;
    written = c.stand.ensures.same.written;
    reader = c.stand.ensures.same.reader;
  };
}

pub returns-clause-waits : goal.returns-clause-waits
returns-clause-waits g c = ap (λ (t : PollTold). t.waits) c.close.ensures.closed

pub returns-clause-calls : goal.returns-clause-calls
returns-clause-calls g c = ap (λ (t : PollTold). t.wire.calls) c.close.ensures.closed

pub returns-clause-ended : goal.returns-clause-ended
returns-clause-ended g c = ap (λ (t : PollTold). t.wire.ended) c.close.ensures.closed

pub returns-clause-rows : goal.returns-clause-rows
returns-clause-rows g c = record {
  row = ap (λ (t : PollTold). t.in_a_row) c.close.ensures.closed;
  longest = ap (λ (t : PollTold). t.longest) c.close.ensures.closed;
}

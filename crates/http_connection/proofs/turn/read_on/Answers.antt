-- What a read brings is carried along.
use Rattle.std.proofs.Common.{rules, ◌≡◌, ◌+◌, refl, ap, ◌∙◌, subst, arith, [], ◌∷◌, ◌++◌, length, length-append, take}
use Rattle.std.specs.Io.KnownBytes.{Appends, Consumes}
use Rattle.outside_traits.specs.Told.{Lists}
use Rattle.outside_traits.specs.declared.calls.WireCall.TheVariants.{Read}
use Rattle.http_connection.specs.Talking.{log}
use Rattle.http_connection.specs.declared.stage.Ending.TheVariants as Ends
use Rattle.http_connection.specs.declared.stage.Standing.TheVariants as Stands
use Rattle.http_connection.specs.Seen.{seen}
use Rattle.http_connection.proofs.Passing.{waiting_spent, waiting_fed, read_going, read_ended, read_failed, not_waiting, over_hand_out, hands_behind}
use Rattle.http_connection.proofs.Words.{done_so}
use Rattle.http_connection.proofs.Ends.{spent_unended, failed_unended, going_unended, read_tells}
use Rattle.http_connection.proofs.Calls.{called_nothing, called_on, called_read, called_writes}
use Rattle.http_connection.proofs.turn.read_on.Goals as goal

pub returns-in_err-reserve-clause-talks : goal.returns-in_err-reserve-clause-talks
returns-in_err-reserve-clause-talks g c = λ first bodies texts h.
    waiting_spent first (seen c.args.kept.now (g.W.Wire.told c.args.wire.now))
    (seen (record c.stand.new.self { read = c.reserve.new.self }) (g.W.Wire.told c.args.wire.now)) bodies texts h c.requires
    (record { line = refl; read = c.in_err-reserve.ensures.items ∙ c.stand.ensures.read; written = c.stand.ensures.written }) c.stand.ensures.next

pub returns-in-Ok-eq0-clause-talks : goal.returns-in-Ok-eq0-clause-talks
returns-in-Ok-eq0-clause-talks g c = λ first bodies texts h.
    let was = seen c.args.kept.now (g.W.Wire.told c.args.wire.now) in
    let mid = seen (record c.stand.new.self { read = c.reserve.new.self }) (g.W.Wire.told c.read.new.self) in
    let now = seen c.finish.new.kept (g.W.Wire.told c.finish.new.wire) in
    read_ended first was mid now bodies texts (waiting_fed first was bodies texts h c.requires)
    (record {
      given = subst (λ n. Appends was.line.read mid.line.read (take n c.read.new.into)) c.in-Ok-eq0.field-0-test c.in-Ok-eq0.ensures.read;
      left = subst (λ n. Consumes was.line.unread mid.line.unread (take n c.read.new.into)) c.in-Ok-eq0.field-0-test c.in-Ok-eq0.ensures.bytes.0;
      taken = c.in-Ok-eq0.ensures.written;
      failures = λ i. record { read_failed = c.in-Ok-eq0.ensures.read_failed i; write_failed = c.in-Ok-eq0.ensures.write_failed i };
      closed = c.in-Ok-eq0.ensures.closed;
      door = c.in-Ok-eq0.ensures.door;
      read = search rules;
      written = c.stand.ensures.written;
      reader = c.stand.ensures.reader;
    })
    (search rules)
    c.finish.ensures.finishes

pub returns-in-Ok-clause-talks : goal.returns-in-Ok-clause-talks
returns-in-Ok-clause-talks g c = λ first bodies texts h.
    let was = seen c.args.kept.now (g.W.Wire.told c.args.wire.now) in
    let mid = seen (record c.stand.new.self { read = c.extend_from_slice.new.self }) (g.W.Wire.told c.read.new.self) in
    let piece = take c.in-Ok.count c.read.new.into in
    c.go_on.ensures.talks first bodies texts
    (read_going first was mid piece bodies texts (waiting_fed first was bodies texts h c.requires)
    (record {
      given = c.in-Ok.ensures.read;
      left = c.in-Ok.ensures.bytes.0;
      taken = c.in-Ok.ensures.written;
      failures = λ i. record { read_failed = c.in-Ok.ensures.read_failed i; write_failed = c.in-Ok.ensures.write_failed i };
      closed = c.in-Ok.ensures.closed;
      door = c.in-Ok.ensures.door;
      read = search rules;
      written = c.stand.ensures.written;
      reader = c.stand.ensures.reader;
    }))

pub returns-in-Err-clause-talks : goal.returns-in-Err-clause-talks
returns-in-Err-clause-talks g c = λ first bodies texts h.
    let was = seen c.args.kept.now (g.W.Wire.told c.args.wire.now) in
    let mid = seen (record c.stand.new.self { read = c.reserve.new.self }) (g.W.Wire.told c.read.new.self) in
    let now = seen c.finish-in-Err.new.kept (g.W.Wire.told c.finish-in-Err.new.wire) in
    read_failed first was mid now bodies texts (waiting_fed first was bodies texts h c.requires)
    (record {
      given = c.in-Err.ensures.read;
      left = c.in-Err.ensures.bytes;
      taken = c.in-Err.ensures.written;
      lost = c.in-Err.ensures.read_failed;
      uncut = c.in-Err.ensures.write_failed;
      door = c.in-Err.ensures.door;
      read = search rules;
      written = c.stand.ensures.written;
      reader = c.stand.ensures.reader;
    })
    c.finish-in-Err.ensures.finishes

pub returns-in-Ok-eq0-clause-next : goal.returns-in-Ok-eq0-clause-next
returns-in-Ok-eq0-clause-next g c = λ held. over_hand_out c.finish.new.kept.next Ends.Ended c.finish.ensures.finishes.next

pub returns-in-Err-clause-next : goal.returns-in-Err-clause-next
returns-in-Err-clause-next g c = λ held. over_hand_out c.finish-in-Err.new.kept.next Ends.ReadFailed c.finish-in-Err.ensures.finishes.next

pub returns-in-Ok-clause-next : goal.returns-in-Ok-clause-next
returns-in-Ok-clause-next g c = hands_behind c.go_on.result c.go_on.new.kept.next c.go_on.ensures.next

pub returns-in_err-reserve-clause-further : goal.returns-in_err-reserve-clause-further
returns-in_err-reserve-clause-further g c = λ waits. absurd (not_waiting c.stand.new.self.next Stands.Spent c.stand.ensures.next refl waits)

pub returns-in-Ok-eq0-clause-further : goal.returns-in-Ok-eq0-clause-further
returns-in-Ok-eq0-clause-further g c = λ waits. absurd (not_waiting c.finish.new.kept.next (Stands.Over Ends.Ended) c.finish.ensures.finishes.next refl waits)

pub returns-in-Err-clause-further : goal.returns-in-Err-clause-further
returns-in-Err-clause-further g c = λ waits. absurd (not_waiting c.finish-in-Err.new.kept.next (Stands.Over Ends.ReadFailed) c.finish-in-Err.ensures.finishes.next refl waits)

pub returns-in-Ok-clause-further : goal.returns-in-Ok-clause-further
returns-in-Ok-clause-further g c = λ waits.
    let piece = take c.in-Ok.count c.read.new.into in
    let whole : c.extend_from_slice.new.self.items ≡ c.args.kept.now.read.items ++ piece = search rules in
    let longer : length c.extend_from_slice.new.self.items ≡ length c.args.kept.now.read.items + length piece = ap length whole ∙ length-append c.args.kept.now.read.items piece in
    let count : c.in-Ok.count ≡ length piece = c.in-Ok.ensures.bound.1 in
    let same : length c.go_on.new.kept.read.items ≡ length c.extend_from_slice.new.self.items = ap length c.go_on.ensures.read in
    omega (arith, longer, count, same, c.in-Ok.count-test)

pub returns-in_err-reserve-clause-called : goal.returns-in_err-reserve-clause-called
returns-in_err-reserve-clause-called g c = λ first bodies texts h.
    let was = log c.args.kept.now.read.items c.args.kept.now.written.items bodies texts in
    called_nothing (g.W.Wire.told c.args.wire.now).calls (g.W.Wire.told c.args.wire.now).calls was (log c.reserve.new.self.items c.stand.new.self.written.items bodies texts) refl (c.in_err-reserve.ensures.items ∙ c.stand.ensures.read) c.stand.ensures.written

pub returns-in-Ok-eq0-clause-called : goal.returns-in-Ok-eq0-clause-called
returns-in-Ok-eq0-clause-called g c = λ first bodies texts h.
    let was = log c.args.kept.now.read.items c.args.kept.now.written.items bodies texts in
    let mid = log c.reserve.new.self.items c.stand.new.self.written.items bodies texts in
    let is = log c.finish.new.kept.read.items c.finish.new.kept.written.items bodies texts in
    called_on (g.W.Wire.told c.args.wire.now).calls (g.W.Wire.told c.read.new.self).calls (g.W.Wire.told c.finish.new.wire).calls was mid is refl refl
    (called_read (g.W.Wire.told c.args.wire.now).calls (g.W.Wire.told c.read.new.self).calls was mid [] 0 (subst (λ n. Lists (g.W.Wire.told c.args.wire.now).calls (g.W.Wire.told c.read.new.self).calls (Read n ∷ [])) c.in-Ok-eq0.field-0-test c.in-Ok-eq0.ensures.calls) refl (search rules) c.stand.ensures.written (done_so c.args.kept.now.reader was (waiting_fed first (seen c.args.kept.now (g.W.Wire.told c.args.wire.now)) bodies texts h c.requires).given))
    (called_writes (g.W.Wire.told c.read.new.self).calls (g.W.Wire.told c.finish.new.wire).calls mid is c.finish.ensures.wrote c.finish.ensures.finishes.read)

pub returns-in-Ok-clause-called : goal.returns-in-Ok-clause-called
returns-in-Ok-clause-called g c = λ first bodies texts h.
    let was = log c.args.kept.now.read.items c.args.kept.now.written.items bodies texts in
    let mid = log c.extend_from_slice.new.self.items c.stand.new.self.written.items bodies texts in
    let is = log c.go_on.new.kept.read.items c.go_on.new.kept.written.items bodies texts in
    called_on (g.W.Wire.told c.args.wire.now).calls (g.W.Wire.told c.read.new.self).calls (g.W.Wire.told c.go_on.new.wire).calls was mid is refl refl
    (called_read (g.W.Wire.told c.args.wire.now).calls (g.W.Wire.told c.read.new.self).calls was mid (take c.in-Ok.count c.read.new.into) c.in-Ok.count c.in-Ok.ensures.calls c.in-Ok.ensures.bound.1 (search rules) c.stand.ensures.written (done_so c.args.kept.now.reader was (waiting_fed first (seen c.args.kept.now (g.W.Wire.told c.args.wire.now)) bodies texts h c.requires).given))
    (called_writes (g.W.Wire.told c.read.new.self).calls (g.W.Wire.told c.go_on.new.wire).calls mid is c.go_on.ensures.wrote c.go_on.ensures.read)

pub returns-in-Err-clause-called : goal.returns-in-Err-clause-called
returns-in-Err-clause-called g c = λ first bodies texts h.
    let was = log c.args.kept.now.read.items c.args.kept.now.written.items bodies texts in
    let mid = log c.reserve.new.self.items c.stand.new.self.written.items bodies texts in
    let is = log c.finish-in-Err.new.kept.read.items c.finish-in-Err.new.kept.written.items bodies texts in
    called_on (g.W.Wire.told c.args.wire.now).calls (g.W.Wire.told c.read.new.self).calls (g.W.Wire.told c.finish-in-Err.new.wire).calls was mid is refl refl
    (called_read (g.W.Wire.told c.args.wire.now).calls (g.W.Wire.told c.read.new.self).calls was mid [] 0 c.in-Err.ensures.calls refl (search rules) c.stand.ensures.written (done_so c.args.kept.now.reader was (waiting_fed first (seen c.args.kept.now (g.W.Wire.told c.args.wire.now)) bodies texts h c.requires).given))
    (called_writes (g.W.Wire.told c.read.new.self).calls (g.W.Wire.told c.finish-in-Err.new.wire).calls mid is c.finish-in-Err.ensures.wrote c.finish-in-Err.ensures.finishes.read)

pub returns-in_err-reserve-clause-ended : goal.returns-in_err-reserve-clause-ended
returns-in_err-reserve-clause-ended g c = λ first bodies texts h o e. absurd (spent_unended c.stand.new.self.next c.stand.ensures.next e)

pub returns-in-Ok-eq0-clause-ended : goal.returns-in-Ok-eq0-clause-ended
returns-in-Ok-eq0-clause-ended g c = λ first bodies texts h o e.
    c.finish.ensures.ended
    ∙ read_tells first (seen c.args.kept.now (g.W.Wire.told c.args.wire.now)) bodies texts h c.requires o
    (g.W.Wire.told c.args.wire.now).ended (g.W.Wire.told c.read.new.self).ended 4096 c.in-Ok-eq0.field-0 c.in-Ok-eq0.ensures.ended refl c.in-Ok-eq0.field-0-test

pub returns-in-Ok-clause-ended : goal.returns-in-Ok-clause-ended
returns-in-Ok-clause-ended g c = λ first bodies texts h o e. absurd (going_unended c.go_on.result c.go_on.new.kept.next c.go_on.ensures.next e)

pub returns-in-Err-clause-ended : goal.returns-in-Err-clause-ended
returns-in-Err-clause-ended g c = λ first bodies texts h o e. absurd (failed_unended c.finish-in-Err.new.kept.next c.finish-in-Err.ensures.finishes.next e)

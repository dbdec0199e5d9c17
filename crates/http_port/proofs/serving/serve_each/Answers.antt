use Rattle.std.proofs.Common.{Bool, [], ◌∷◌, take, refl, sym, ap, ap₂, ◌∙◌, subst, arith}
use Rattle.std.specs.Io.KnownBytes.{Appends, Consumes}
use Rattle.std.proofs.KnownBytes.{Appends-nil, Appends-kept, Consumes-nil, Consumes-kept}
use Rattle.outside_traits.specs.Told.{Lists}
use Rattle.outside_traits.specs.declared.calls.WireCall.TheVariants.{Read}
use Rattle.http_port.specs.Turns.{Reacts, cut_by, goes}
use Rattle.http_port.specs.declared.serving.WireEnd.TheVariants as Ends
use Rattle.http_port.specs.Serving.{cut_behind}
use Rattle.http_port.proofs.TurnLemmas.{turn_unlost}
use Rattle.http_port.proofs.ServingLemmas.{Told, Turned, ReadOn, going_first, go_on, read_on, finish_turn, finish_read}
use Rattle.http_port.proofs.serving.serve_each.Goals as goal

pub loop-pieces-init : goal.loop-pieces-init
loop-pieces-init g c = record {
  asks = c.asks_where_given.ensures;
  within = omega arith;
  going = going_first c.args.reader.now (record { given = (g.W.Wire.told c.args.wire.now).read; left = (g.W.Wire.told c.args.wire.now).unread; taken = (g.W.Wire.told c.args.wire.now).written; calls = (g.W.Wire.told c.args.wire.now).calls; heard = g.S.Serve.heard c.args.serve.now; said = g.S.Serve.said c.args.serve.now });
  lost = refl;
  cut = refl;
  closed = refl;
}

pub returns-in-Ends-clause-serves : goal.returns-in-Ends-clause-serves
returns-in-Ends-clause-serves g c =
    let before : Told = record { given = (g.W.Wire.told c.args.wire.now).read; left = (g.W.Wire.told c.args.wire.now).unread; taken = (g.W.Wire.told c.args.wire.now).written; calls = (g.W.Wire.told c.args.wire.now).calls; heard = g.S.Serve.heard c.args.serve.now; said = g.S.Serve.said c.args.serve.now } in
    let at : Told = record { given = (g.W.Wire.told c.loop-pieces.wire).read; left = (g.W.Wire.told c.loop-pieces.wire).unread; taken = (g.W.Wire.told c.loop-pieces.wire).written; calls = (g.W.Wire.told c.loop-pieces.wire).calls; heard = g.S.Serve.heard c.loop-pieces.serve; said = g.S.Serve.said c.loop-pieces.serve } in
    let turned : Told = record { given = (g.W.Wire.told c.take_turn.new.wire).read; left = (g.W.Wire.told c.take_turn.new.wire).unread; taken = (g.W.Wire.told c.take_turn.new.wire).written; calls = (g.W.Wire.told c.take_turn.new.wire).calls; heard = g.S.Serve.heard c.take_turn.new.serve; said = g.S.Serve.said c.take_turn.new.serve } in
    let turn = c.in_ok-take_turn.ensures.reacts in
    let t : Turned c.loop-pieces.reader at (take c.loop-pieces.count c.loop-pieces.chunk) c.take_turn.new.reader turned = record {
      fed = turn.0;
      said = turn.1;
      went = turn.2;
      whole = goes c.in_ok-take_turn.field-0;
      feeds = turn.3;
      given = c.in_ok-take_turn.ensures.given;
      left = c.in_ok-take_turn.ensures.left;
      taken = turn.5;
      written = turn.6;
      heard = turn.7;
      told = turn.8;
    } in
    finish_turn c.args.reader.now c.loop-pieces.invariant.asks before c.loop-pieces.reader at (take c.loop-pieces.count c.loop-pieces.chunk) c.loop-pieces.invariant.going c.take_turn.new.reader turned t c.in-Ends.end
    (subst (Reacts turn.0 turn.1 turn.2) c.in-Ends.is turn.4)

pub returns-in-Ends-clause-lost : goal.returns-in-Ends-clause-lost
returns-in-Ends-clause-lost g c =
    let turn = c.in_ok-take_turn.ensures.reacts in
    c.in_ok-take_turn.ensures.lost ∙ c.loop-pieces.invariant.lost
    ∙ sym (turn_unlost turn.0 turn.1 turn.2 c.in-Ends.end (subst (Reacts turn.0 turn.1 turn.2) c.in-Ends.is turn.4) (g.W.Wire.told c.args.wire.now).read_failed)

pub returns-in-Ends-clause-cut : goal.returns-in-Ends-clause-cut
returns-in-Ends-clause-cut g c =
    c.in_ok-take_turn.ensures.cut ∙ ap (λ e. cut_by e (g.W.Wire.told c.loop-pieces.wire).closed (g.W.Wire.told c.loop-pieces.wire).write_failed) c.in-Ends.is
    ∙ ap₂ (λ (closed cut : Bool). cut_behind c.in-Ends.end closed cut) c.loop-pieces.invariant.closed c.loop-pieces.invariant.cut

pub returns-in-Ok-eq0-clause-serves : goal.returns-in-Ok-eq0-clause-serves
returns-in-Ok-eq0-clause-serves g c =
    let before : Told = record { given = (g.W.Wire.told c.args.wire.now).read; left = (g.W.Wire.told c.args.wire.now).unread; taken = (g.W.Wire.told c.args.wire.now).written; calls = (g.W.Wire.told c.args.wire.now).calls; heard = g.S.Serve.heard c.args.serve.now; said = g.S.Serve.said c.args.serve.now } in
    let at : Told = record { given = (g.W.Wire.told c.loop-pieces.wire).read; left = (g.W.Wire.told c.loop-pieces.wire).unread; taken = (g.W.Wire.told c.loop-pieces.wire).written; calls = (g.W.Wire.told c.loop-pieces.wire).calls; heard = g.S.Serve.heard c.loop-pieces.serve; said = g.S.Serve.said c.loop-pieces.serve } in
    let turned : Told = record { given = (g.W.Wire.told c.take_turn.new.wire).read; left = (g.W.Wire.told c.take_turn.new.wire).unread; taken = (g.W.Wire.told c.take_turn.new.wire).written; calls = (g.W.Wire.told c.take_turn.new.wire).calls; heard = g.S.Serve.heard c.take_turn.new.serve; said = g.S.Serve.said c.take_turn.new.serve } in
    let turn = c.in_ok-take_turn.ensures.reacts in
    let t : Turned c.loop-pieces.reader at (take c.loop-pieces.count c.loop-pieces.chunk) c.take_turn.new.reader turned = record {
      fed = turn.0;
      said = turn.1;
      went = turn.2;
      whole = goes c.in_ok-take_turn.field-0;
      feeds = turn.3;
      given = c.in_ok-take_turn.ensures.given;
      left = c.in_ok-take_turn.ensures.left;
      taken = turn.5;
      written = turn.6;
      heard = turn.7;
      told = turn.8;
    } in
    let after : Told = record { given = (g.W.Wire.told c.read.new.self).read; left = (g.W.Wire.told c.read.new.self).unread; taken = (g.W.Wire.told c.read.new.self).written; calls = (g.W.Wire.told c.read.new.self).calls; heard = g.S.Serve.heard c.take_turn.new.serve; said = g.S.Serve.said c.take_turn.new.serve } in
    let read : ReadOn turned after [] = record {
      given = subst (λ n. Appends turned.given after.given (take n c.read.new.into)) c.in-Ok-eq0.field-0-test c.in-Ok-eq0.ensures.read;
      left = subst (λ n. Consumes turned.left after.left (take n c.read.new.into)) c.in-Ok-eq0.field-0-test c.in-Ok-eq0.ensures.bytes.0;
      taken = c.in-Ok-eq0.ensures.written;
      heard = refl;
      told = refl;
    } in
    finish_read c.args.reader.now c.loop-pieces.invariant.asks before c.loop-pieces.reader at (take c.loop-pieces.count c.loop-pieces.chunk) c.loop-pieces.invariant.going c.take_turn.new.reader turned t
    (subst (Reacts turn.0 turn.1 turn.2) c.in-Waits.is turn.4) (ap goes c.in-Waits.is) after read
    (subst (λ n. Lists turned.calls after.calls (Read n ∷ [])) c.in-Ok-eq0.field-0-test c.in-Ok-eq0.ensures.calls) Ends.Ended tt

pub returns-in-Err-clause-serves : goal.returns-in-Err-clause-serves
returns-in-Err-clause-serves g c =
    let before : Told = record { given = (g.W.Wire.told c.args.wire.now).read; left = (g.W.Wire.told c.args.wire.now).unread; taken = (g.W.Wire.told c.args.wire.now).written; calls = (g.W.Wire.told c.args.wire.now).calls; heard = g.S.Serve.heard c.args.serve.now; said = g.S.Serve.said c.args.serve.now } in
    let at : Told = record { given = (g.W.Wire.told c.loop-pieces.wire).read; left = (g.W.Wire.told c.loop-pieces.wire).unread; taken = (g.W.Wire.told c.loop-pieces.wire).written; calls = (g.W.Wire.told c.loop-pieces.wire).calls; heard = g.S.Serve.heard c.loop-pieces.serve; said = g.S.Serve.said c.loop-pieces.serve } in
    let turned : Told = record { given = (g.W.Wire.told c.take_turn.new.wire).read; left = (g.W.Wire.told c.take_turn.new.wire).unread; taken = (g.W.Wire.told c.take_turn.new.wire).written; calls = (g.W.Wire.told c.take_turn.new.wire).calls; heard = g.S.Serve.heard c.take_turn.new.serve; said = g.S.Serve.said c.take_turn.new.serve } in
    let turn = c.in_ok-take_turn.ensures.reacts in
    let t : Turned c.loop-pieces.reader at (take c.loop-pieces.count c.loop-pieces.chunk) c.take_turn.new.reader turned = record {
      fed = turn.0;
      said = turn.1;
      went = turn.2;
      whole = goes c.in_ok-take_turn.field-0;
      feeds = turn.3;
      given = c.in_ok-take_turn.ensures.given;
      left = c.in_ok-take_turn.ensures.left;
      taken = turn.5;
      written = turn.6;
      heard = turn.7;
      told = turn.8;
    } in
    let after : Told = record { given = (g.W.Wire.told c.read.new.self).read; left = (g.W.Wire.told c.read.new.self).unread; taken = (g.W.Wire.told c.read.new.self).written; calls = (g.W.Wire.told c.read.new.self).calls; heard = g.S.Serve.heard c.take_turn.new.serve; said = g.S.Serve.said c.take_turn.new.serve } in
    let read : ReadOn turned after [] = record {
      given = Appends-kept turned.given turned.given after.given [] (Appends-nil turned.given) c.in-Err.ensures.read;
      left = Consumes-kept turned.left turned.left after.left [] (Consumes-nil turned.left) c.in-Err.ensures.bytes;
      taken = c.in-Err.ensures.written;
      heard = refl;
      told = refl;
    } in
    finish_read c.args.reader.now c.loop-pieces.invariant.asks before c.loop-pieces.reader at (take c.loop-pieces.count c.loop-pieces.chunk) c.loop-pieces.invariant.going c.take_turn.new.reader turned t
    (subst (Reacts turn.0 turn.1 turn.2) c.in-Waits.is turn.4) (ap goes c.in-Waits.is) after read c.in-Err.ensures.calls Ends.ReadFailed tt

pub loop-pieces-preserved-in-GoesOn : goal.loop-pieces-preserved-in-GoesOn
loop-pieces-preserved-in-GoesOn g c =
    let before : Told = record { given = (g.W.Wire.told c.args.wire.now).read; left = (g.W.Wire.told c.args.wire.now).unread; taken = (g.W.Wire.told c.args.wire.now).written; calls = (g.W.Wire.told c.args.wire.now).calls; heard = g.S.Serve.heard c.args.serve.now; said = g.S.Serve.said c.args.serve.now } in
    let at : Told = record { given = (g.W.Wire.told c.loop-pieces.wire).read; left = (g.W.Wire.told c.loop-pieces.wire).unread; taken = (g.W.Wire.told c.loop-pieces.wire).written; calls = (g.W.Wire.told c.loop-pieces.wire).calls; heard = g.S.Serve.heard c.loop-pieces.serve; said = g.S.Serve.said c.loop-pieces.serve } in
    let turned : Told = record { given = (g.W.Wire.told c.take_turn.new.wire).read; left = (g.W.Wire.told c.take_turn.new.wire).unread; taken = (g.W.Wire.told c.take_turn.new.wire).written; calls = (g.W.Wire.told c.take_turn.new.wire).calls; heard = g.S.Serve.heard c.take_turn.new.serve; said = g.S.Serve.said c.take_turn.new.serve } in
    let turn = c.in_ok-take_turn.ensures.reacts in
    let t : Turned c.loop-pieces.reader at (take c.loop-pieces.count c.loop-pieces.chunk) c.take_turn.new.reader turned = record {
      fed = turn.0;
      said = turn.1;
      went = turn.2;
      whole = goes c.in_ok-take_turn.field-0;
      feeds = turn.3;
      given = c.in_ok-take_turn.ensures.given;
      left = c.in_ok-take_turn.ensures.left;
      taken = turn.5;
      written = turn.6;
      heard = turn.7;
      told = turn.8;
    } in
    let reacts = subst (Reacts turn.0 turn.1 turn.2) c.in-GoesOn.is turn.4 in
    let uncut = c.in_ok-take_turn.ensures.cut ∙ ap (λ e. cut_by e (g.W.Wire.told c.loop-pieces.wire).closed (g.W.Wire.told c.loop-pieces.wire).write_failed) c.in-GoesOn.is in
    record {
      asks = c.loop-pieces.invariant.asks;
      within = omega arith;
      going = go_on c.args.reader.now before c.loop-pieces.reader at (take c.loop-pieces.count c.loop-pieces.chunk) c.loop-pieces.invariant.going c.take_turn.new.reader turned t reacts (ap goes c.in-GoesOn.is);
      lost = c.in_ok-take_turn.ensures.lost ∙ c.loop-pieces.invariant.lost;
      cut = uncut ∙ c.loop-pieces.invariant.cut;
      closed = c.in_ok-take_turn.ensures.closed ∙ c.loop-pieces.invariant.closed;
    }

pub loop-pieces-preserved : goal.loop-pieces-preserved
loop-pieces-preserved g c =
    let before : Told = record { given = (g.W.Wire.told c.args.wire.now).read; left = (g.W.Wire.told c.args.wire.now).unread; taken = (g.W.Wire.told c.args.wire.now).written; calls = (g.W.Wire.told c.args.wire.now).calls; heard = g.S.Serve.heard c.args.serve.now; said = g.S.Serve.said c.args.serve.now } in
    let at : Told = record { given = (g.W.Wire.told c.loop-pieces.wire).read; left = (g.W.Wire.told c.loop-pieces.wire).unread; taken = (g.W.Wire.told c.loop-pieces.wire).written; calls = (g.W.Wire.told c.loop-pieces.wire).calls; heard = g.S.Serve.heard c.loop-pieces.serve; said = g.S.Serve.said c.loop-pieces.serve } in
    let turned : Told = record { given = (g.W.Wire.told c.take_turn.new.wire).read; left = (g.W.Wire.told c.take_turn.new.wire).unread; taken = (g.W.Wire.told c.take_turn.new.wire).written; calls = (g.W.Wire.told c.take_turn.new.wire).calls; heard = g.S.Serve.heard c.take_turn.new.serve; said = g.S.Serve.said c.take_turn.new.serve } in
    let turn = c.in_ok-take_turn.ensures.reacts in
    let t : Turned c.loop-pieces.reader at (take c.loop-pieces.count c.loop-pieces.chunk) c.take_turn.new.reader turned = record {
      fed = turn.0;
      said = turn.1;
      went = turn.2;
      whole = goes c.in_ok-take_turn.field-0;
      feeds = turn.3;
      given = c.in_ok-take_turn.ensures.given;
      left = c.in_ok-take_turn.ensures.left;
      taken = turn.5;
      written = turn.6;
      heard = turn.7;
      told = turn.8;
    } in
    let reacts = subst (Reacts turn.0 turn.1 turn.2) c.in-Waits.is turn.4 in
    let uncut = c.in_ok-take_turn.ensures.cut ∙ ap (λ e. cut_by e (g.W.Wire.told c.loop-pieces.wire).closed (g.W.Wire.told c.loop-pieces.wire).write_failed) c.in-Waits.is in
    let after : Told = record { given = (g.W.Wire.told c.read.new.self).read; left = (g.W.Wire.told c.read.new.self).unread; taken = (g.W.Wire.told c.read.new.self).written; calls = (g.W.Wire.told c.read.new.self).calls; heard = g.S.Serve.heard c.take_turn.new.serve; said = g.S.Serve.said c.take_turn.new.serve } in
    let read : ReadOn turned after (take c.in-Ok.read c.read.new.into) = record {
      given = c.in-Ok.ensures.read;
      left = c.in-Ok.ensures.bytes.0;
      taken = c.in-Ok.ensures.written;
      heard = refl;
      told = refl;
    } in
    record {
      asks = c.loop-pieces.invariant.asks;
      within = c.in-Ok.ensures.bound.0;
      going = read_on c.args.reader.now c.loop-pieces.invariant.asks before c.loop-pieces.reader at (take c.loop-pieces.count c.loop-pieces.chunk) c.loop-pieces.invariant.going c.take_turn.new.reader turned t reacts (ap goes c.in-Waits.is) after (take c.in-Ok.read c.read.new.into) read
          c.in-Ok.read c.in-Ok.ensures.calls c.in-Ok.ensures.bound.1 (omega (arith, c.in-Ok.read-test));
      lost = c.in-Ok.ensures.read_failed ∙ c.in_ok-take_turn.ensures.lost ∙ c.loop-pieces.invariant.lost;
      cut = c.in-Ok.ensures.write_failed ∙ uncut ∙ c.loop-pieces.invariant.cut;
      closed = c.in-Ok.ensures.closed ∙ c.in_ok-take_turn.ensures.closed ∙ c.loop-pieces.invariant.closed;
    }

-- Piece by piece, until all was taken or the wire failed.
use Rattle.std.proofs.Common.{◌≡◌, ◌-◌, ◌<◌, ◌≤◌, ◌||◌, ℕ, Bool, true, false, not, arith, refl, sym, ap, ap₂, subst, ◌∙◌, length, take, drop}
use Rattle.std.proofs.lemmas.List.{length-drop, length-take-le, take_rest}
use Rattle.std.proofs.Math.Seq.{take-add}
use Rattle.std.specs.Io.KnownBytes.{Appends}
use Rattle.std.proofs.KnownBytes.{Appends-nil, Appends-trans, Appends-kept}
use Rattle.http_port.specs.Writing.{IsWritten}
use Rattle.http_port.proofs.CallLemmas.{nothing_written, written_more, written_so, written_still}
use Rattle.http_connection.proofs.sending.write_all.Goals as goal

pub loop-done-init : goal.loop-done-init
loop-done-init g c = record {
  within = omega arith;
  written = Appends-nil (g.W.Wire.told c.args.wire.now).written;
  called = nothing_written (g.W.Wire.told c.args.wire.now).calls true;
  lost = refl;
  cut = refl;
  given = refl;
  left = refl;
  closed = refl;
  door = refl;
}

pub loop-done-preserved : goal.loop-done-preserved
loop-done-preserved g c =
    let bytes = c.args.bytes.now in
    let done = c.loop-done.done in
    let count = c.in-Ok.count in
    let rest = take_rest bytes done in
    let fits : count ≤ length bytes - done = subst (λ k. count ≤ k) (ap length rest ∙ length-drop done bytes) c.in-Ok.ensures.bound in
    let some : 0 < count = c.in-Ok.ensures.some (subst (λ (k : ℕ). 0 < k) (sym (ap length rest ∙ length-drop done bytes)) (omega (arith, c.loop-done-test.true))) in
    let taken : count ≡ length (take count (drop done bytes)) = sym (length-take-le count (drop done bytes) (omega (arith, length-drop done bytes))) in
    let more = subst (λ l. Appends (g.W.Wire.told c.loop-done.wire).written (g.W.Wire.told c.write.new.self).written (take count l)) rest c.in-Ok.ensures.bytes in
    record {
      within = omega arith;
      written = subst (Appends (g.W.Wire.told c.args.wire.now).written (g.W.Wire.told c.write.new.self).written) (sym (take-add done count bytes))
          (Appends-trans (g.W.Wire.told c.args.wire.now).written (g.W.Wire.told c.loop-done.wire).written (g.W.Wire.told c.write.new.self).written (take done bytes) (take count (drop done bytes)) c.loop-done.invariant.written more);
      called = subst (λ l. IsWritten (g.W.Wire.told c.args.wire.now).calls (g.W.Wire.told c.write.new.self).calls l true) (sym (take-add done count bytes))
          (written_more (g.W.Wire.told c.args.wire.now).calls (g.W.Wire.told c.loop-done.wire).calls (g.W.Wire.told c.write.new.self).calls (take done bytes) (take count (drop done bytes)) count c.loop-done.invariant.called c.in-Ok.ensures.calls taken some);
      lost = c.in-Ok.ensures.read_failed ∙ c.loop-done.invariant.lost;
      cut = c.in-Ok.ensures.write_failed ∙ c.loop-done.invariant.cut;
      given = c.in-Ok.ensures.read ∙ c.loop-done.invariant.given;
      left = c.in-Ok.ensures.unread ∙ c.loop-done.invariant.left;
      closed = c.in-Ok.ensures.closed ∙ c.loop-done.invariant.closed;
      door = c.in-Ok.ensures.door ∙ c.loop-done.invariant.door;
    }

pub returns-in-Err-clause-takes : goal.returns-in-Err-clause-takes
returns-in-Err-clause-takes g c =
    let done = c.loop-done.done in
    let bytes = c.args.bytes.now in
    let lt : done < length bytes = omega arith in
    record {
      within = omega arith;
      taken = Appends-kept (g.W.Wire.told c.args.wire.now).written (g.W.Wire.told c.loop-done.wire).written (g.W.Wire.told c.write.new.self).written (take done bytes) c.loop-done.invariant.written c.in-Err.ensures.bytes;
      unfailed = λ e. absurd (omega arith);
      cause = λ _. (
        c.in-Err.ensures.read_failed ∙ c.loop-done.invariant.lost,
        c.in-Err.ensures.write_failed ∙ ap₂ (λ (cut closed : Bool). cut || not closed) c.loop-done.invariant.cut c.loop-done.invariant.closed,
      );
      given = c.in-Err.ensures.read ∙ c.loop-done.invariant.given;
      left = c.in-Err.ensures.unread ∙ c.loop-done.invariant.left;
      closed = c.in-Err.ensures.closed ∙ c.loop-done.invariant.closed;
      door = c.in-Err.ensures.door ∙ c.loop-done.invariant.door;
    }

pub returns-in-Err-clause-calls : goal.returns-in-Err-clause-calls
returns-in-Err-clause-calls g c =
    written_still (g.W.Wire.told c.args.wire.now).calls (g.W.Wire.told c.loop-done.wire).calls (g.W.Wire.told c.write.new.self).calls (take c.loop-done.done c.args.bytes.now) c.loop-done.invariant.called c.in-Err.ensures.calls

pub returns-clause-calls : goal.returns-clause-calls
returns-clause-calls g c =
    written_so (g.W.Wire.told c.args.wire.now).calls (g.W.Wire.told c.loop-done.wire).calls (take c.loop-done.done c.args.bytes.now) false c.loop-done.invariant.called

pub returns-clause-takes : goal.returns-clause-takes
returns-clause-takes g c =
    let within = c.loop-done.invariant.within in
    record {
      within = within;
      taken = c.loop-done.invariant.written;
      unfailed = λ _ i. record { read_failed = c.loop-done.invariant.lost i; write_failed = c.loop-done.invariant.cut i };
      cause = λ lt. absurd (omega arith);
      given = c.loop-done.invariant.given;
      left = c.loop-done.invariant.left;
      closed = c.loop-done.invariant.closed;
      door = c.loop-done.invariant.door;
    }

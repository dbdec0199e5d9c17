use Rattle.std.proofs.Common.{◌≡◌, ◌-◌, ◌≤◌, ◌<◌, ℕ, true, arith, sym, ap, subst, ◌∙◌, length, take, drop}
use Rattle.std.proofs.lemmas.List.{length-drop, length-take-le, take_rest}
use Rattle.std.proofs.Math.Seq.{take-add}
use Rattle.std.specs.Io.KnownBytes.{Appends}
use Rattle.std.proofs.KnownBytes.{Appends-trans}
use Rattle.http_port.specs.Writing.{IsWritten}
use Rattle.http_port.proofs.CallLemmas.{written_more}
use Rattle.http_port.proofs.turn.write_all.Goals as goal

pub loop-done-preserved : goal.loop-done-preserved
loop-done-preserved g c =
    let bytes = c.args.bytes.now in
    let done = c.loop-done.done in
    let count = c.in_ok-done.field-0 in
    let rest = take_rest bytes done in
    let fits : count ≤ length bytes - done = subst (λ k. count ≤ k) (ap length rest ∙ length-drop done bytes) c.in_ok-done.ensures.bound in
    let some : 0 < count = c.in_ok-done.ensures.some (subst (λ (k : ℕ). 0 < k) (sym (ap length rest ∙ length-drop done bytes)) (omega (arith, c.loop-done-test.true))) in
    let more = subst (λ l. Appends (g.W.Wire.told c.loop-done.wire).written (g.W.Wire.told c.write.new.self).written (take count l)) rest c.in_ok-done.ensures.bytes in
    let taken : count ≡ length (take count (drop done bytes)) = sym (length-take-le count (drop done bytes) (omega (arith, length-drop done bytes))) in
    record {
      within = omega arith;
      written = subst (Appends (g.W.Wire.told c.args.wire.now).written (g.W.Wire.told c.write.new.self).written) (sym (take-add done count bytes))
          (Appends-trans (g.W.Wire.told c.args.wire.now).written (g.W.Wire.told c.loop-done.wire).written (g.W.Wire.told c.write.new.self).written (take done bytes) (take count (drop done bytes)) c.loop-done.invariant.written more);
      called = subst (λ l. IsWritten (g.W.Wire.told c.args.wire.now).calls (g.W.Wire.told c.write.new.self).calls l true) (sym (take-add done count bytes))
          (written_more (g.W.Wire.told c.args.wire.now).calls (g.W.Wire.told c.loop-done.wire).calls (g.W.Wire.told c.write.new.self).calls (take done bytes) (take count (drop done bytes)) count c.loop-done.invariant.called c.in_ok-done.ensures.calls taken some);
      lost = c.in_ok-done.ensures.read_failed ∙ c.loop-done.invariant.lost;
      cut = c.in_ok-done.ensures.write_failed ∙ c.loop-done.invariant.cut;
      ended = c.in_ok-done.ensures.ended ∙ c.loop-done.invariant.ended;
      given = c.in_ok-done.ensures.read ∙ c.loop-done.invariant.given;
      left = c.in_ok-done.ensures.unread ∙ c.loop-done.invariant.left;
      closed = c.in_ok-done.ensures.closed ∙ c.loop-done.invariant.closed;
    }

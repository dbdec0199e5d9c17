-- Piece by piece, until all was taken or the sink failed.
use Rattle.std.proofs.Common.{◌≡◌, ◌-◌, ◌+◌, ◌<◌, ◌≤◌, arith, refl, sym, ap, subst, ◌∙◌, [], length, take, drop, length-drop, length-take-le, take-add, take_all}
use Rattle.std.proofs.lemmas.List.{take_rest}
use Rattle.std.specs.Io.KnownBytes.{Appends}
use Rattle.std.proofs.KnownBytes.{Appends-nil, Appends-trans, Appends-kept}
use Rattle.outside_traits.specs.Causes.{Rose}
use Rattle.outside_writing.proofs.writing.write_all.Goals as goal

pub loop-done-init : goal.loop-done-init
loop-done-init g c = record { within = omega arith; written = Appends-nil (g.K.Sink.told c.args.sink.now).written; faults = refl }

pub loop-done-preserved : goal.loop-done-preserved
loop-done-preserved g c =
    let bytes = c.args.bytes.now in
    let done = c.loop-done.done in
    let count = c.in-Ok.count in
    let rest = take_rest bytes done in
    let fits : count ≤ length bytes - done = subst (λ k. count ≤ k) (ap length rest ∙ length-drop done bytes) c.in-Ok.ensures.bound in
    let more = subst (λ l. Appends (g.K.Sink.told c.loop-done.sink).written (g.K.Sink.told c.write.new.self).written (take count l)) rest c.in-Ok.ensures.bytes in
    record {
      within = omega arith;
      written = subst (Appends (g.K.Sink.told c.args.sink.now).written (g.K.Sink.told c.write.new.self).written) (sym (take-add done count bytes))
          (Appends-trans (g.K.Sink.told c.args.sink.now).written (g.K.Sink.told c.loop-done.sink).written (g.K.Sink.told c.write.new.self).written (take done bytes) (take count (drop done bytes)) c.loop-done.invariant.written more);
      faults = c.in-Ok.ensures.cause.unfailed ∙ c.loop-done.invariant.faults;
    }

pub returns-in-Err : goal.returns-in-Err
returns-in-Err g c =
    let done = c.loop-done.done in
    let bytes = c.args.bytes.now in
    let lt : done < length bytes = omega arith in
    let rose = c.in-Err.ensures.cause.failed in
    let unfailed = c.loop-done.invariant.faults in
    let later = c.in-Err.ensures.cause.later in
    record {
      within = omega arith;
      taken = Appends-kept (g.K.Sink.told c.args.sink.now).written (g.K.Sink.told c.loop-done.sink).written (g.K.Sink.told c.write.new.self).written (take done bytes) c.loop-done.invariant.written c.in-Err.ensures.bytes;
      unfailed = λ e. absurd (omega arith);
      cause = λ _. subst (λ n. Rose n (g.K.Sink.told c.write.new.self).faults) unfailed rose;
      later = subst (λ n. n ≤ (g.K.Sink.told c.write.new.self).faults) unfailed later;
    }

pub returns : goal.returns
returns g c =
    let within = c.loop-done.invariant.within in
    let unfailed = c.loop-done.invariant.faults in
    record {
      within = within;
      taken = c.loop-done.invariant.written;
      unfailed = λ _. unfailed;
      cause = λ lt. absurd (omega arith);
      later = omega (arith, unfailed);
    }

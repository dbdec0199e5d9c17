-- Piece by piece, until all was taken or the output failed.
use Rattle.std.proofs.Common.{◌≡◌, ◌≢◌, ◌-◌, ◌<◌, ◌≤◌, arith, refl, sym, ap, subst, ◌∙◌, ℕ, List, [], length, take, drop, length-drop, take-add, take_all, take-append-drop}
use Rattle.std.proofs.lemmas.List.{take_rest}
use Rattle.std.specs.Io.KnownBytes.{Appends}
use Rattle.std.proofs.KnownBytes.{Appends-nil, Appends-trans, Appends-kept}
use Rattle.outside_traits.specs.Causes.{Rose}
use Rattle.jolie_main.proofs.say.say.Goals as goal

-- what is left of a text that was not taken whole
left_over : (n : ℕ) (text : List ℕ) → n < length text → drop n text ≢ []
left_over n text lt none =
    let long : length (drop n text) ≡ length text - n = length-drop n text in
    let short : length (drop n text) ≡ 0 = ap length none in
    omega arith

pub loop-done-init : goal.loop-done-init
loop-done-init g c = record { within = omega arith; written = Appends-nil (g.K.Sink.told c.args.output.now).written; unfailed = refl }

pub loop-done-preserved : goal.loop-done-preserved
loop-done-preserved g c =
    let bytes = c.args.text.now in
    let done = c.loop-done.done in
    let count = c.in-Ok.count in
    let rest = take_rest bytes done in
    let fits : count ≤ length bytes - done = subst (λ k. count ≤ k) (ap length rest ∙ length-drop done bytes) c.in-Ok.ensures.bound in
    let more = subst (λ l. Appends (g.K.Sink.told c.loop-done.output).written (g.K.Sink.told c.write.new.self).written (take count l)) rest c.in-Ok.ensures.bytes in
    record {
      within = omega arith;
      written = subst (Appends (g.K.Sink.told c.args.output.now).written (g.K.Sink.told c.write.new.self).written) (sym (take-add done count bytes))
          (Appends-trans (g.K.Sink.told c.args.output.now).written (g.K.Sink.told c.loop-done.output).written (g.K.Sink.told c.write.new.self).written (take done bytes) (take count (drop done bytes)) c.loop-done.invariant.written more);
      unfailed = c.in-Ok.ensures.cause.unfailed ∙ c.loop-done.invariant.unfailed;
    }

pub returns-in-Err : goal.returns-in-Err
returns-in-Err g c =
    let done = c.loop-done.done in
    let bytes = c.args.text.now in
    let lt : done < length bytes = omega arith in
    record {
      piece = take done bytes;
      part = (drop done bytes, left_over done bytes lt, take-append-drop done bytes);
      bytes = Appends-kept (g.K.Sink.told c.args.output.now).written (g.K.Sink.told c.loop-done.output).written (g.K.Sink.told c.write.new.self).written (take done bytes) c.loop-done.invariant.written c.in-Err.ensures.bytes;
      cause = subst (λ n. Rose n (g.K.Sink.told c.write.new.self).faults) c.loop-done.invariant.unfailed c.in-Err.ensures.cause.failed;
    }

pub returns : goal.returns
returns g c =
    let done = c.loop-done.done in
    let bytes = c.args.text.now in
    record {
      bytes = subst (Appends (g.K.Sink.told c.args.output.now).written (g.K.Sink.told c.loop-done.output).written) (take_all done bytes (omega arith)) c.loop-done.invariant.written;
      unfailed = c.loop-done.invariant.unfailed;
    }

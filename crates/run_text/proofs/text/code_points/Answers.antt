use Rattle.std.proofs.Common.{get_or, refl, arith, flat_map, string_bytes}
use Rattle.std.specs.Char.{encode_utf8}
use Rattle.run_text.proofs.Turns.{turn, ended}
use Rattle.run_text.proofs.text.code_points.Goals as goal

pub loop-byte-preserved : goal.loop-byte-preserved
loop-byte-preserved c =
    turn (flat_map encode_utf8) encode_utf8 (string_bytes c.loop-byte.text) (string_bytes c.push.new.self) _ c.args.bytes.now c.loop-byte.byte-index (get_or c.args.bytes.now c.loop-byte.byte-index 0) 0
    (λ y ys. refl) c.loop-byte-test.true refl c.in_ok-push.ensures.bytes c.loop-byte.invariant

pub returns : goal.returns
returns c =
    ended (flat_map encode_utf8) (string_bytes c.loop-byte.text) _ c.args.bytes.now c.loop-byte.byte-index refl (omega (arith, c.loop-byte-test.false)) c.loop-byte.invariant

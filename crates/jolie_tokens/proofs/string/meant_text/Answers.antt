use Rattle.std.specs.Str.{IsUtf8}
use Rattle.jolie_tokens.proofs.string.meant_text.Goals as goal

pub unreachable-requires : goal.unreachable-requires
unreachable-requires c =
    let utf8 : IsUtf8 c.in_ok-bytes.bytes.items = rw c.in_ok-bytes.ensures c.requires in
    let bad = rw c.in-Err.is at (c.from_utf8.ensures.succeeds utf8) in
    absurd cc

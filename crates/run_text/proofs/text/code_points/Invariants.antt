use Rattle.std.proofs.Common.{◌≡◌, ◌++◌, drop, flat_map, string_bytes}
use Rattle.std.specs.Char.{encode_utf8}
use Rattle.run_text.proofs.text.code_points.Given as goal

abbrev pub invariant-loop-byte : goal.invariant-loop-byte
invariant-loop-byte l =
    string_bytes l.text ++ flat_map encode_utf8 (drop l.byte-index l.bytes) ≡ flat_map encode_utf8 l.bytes

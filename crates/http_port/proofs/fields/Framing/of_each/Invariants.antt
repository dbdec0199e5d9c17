use Rattle.std.proofs.Common.{◌≡◌, map, take}
use Rattle.httparse.specs.Spans.{header_bytes}
use Rattle.http_port.specs.Framing.{framing_of}
use Rattle.http_port.proofs.fields.Framing.of_each.Given as goal

abbrev pub invariant-loop-field : goal.invariant-loop-field
invariant-loop-field l = l.framing ≡ framing_of (map (header_bytes l.head) (take l.field-index l.fields))

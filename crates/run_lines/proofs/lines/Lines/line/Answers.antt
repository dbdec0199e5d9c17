-- A line's end stands inside of what is there.
use Rattle.std.proofs.Common.{◌≡◌, ◌<◌, length, ap, arith}
use Rattle.run_lines.proofs.Splitting.{line_inside}
use Rattle.run_lines.proofs.lines.Lines.line.Goals as goal

pub split_at-requires : goal.split_at-requires
split_at-requires c =
    let lt : c.args.length < length c.args.self.now.rest = line_inside c.args.length c.args.self.now.rest c.requires in
    let same : length c.rest.result.now ≡ length c.args.self.now.rest = ap length c.rest.ensures in
    omega arith

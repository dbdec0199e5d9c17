use Rattle.std.proofs.Common.{[], ◌∷◌, codes, decimal}
use Rattle.run_text.proofs.Lines.{line_written_well}
use Rattle.run_text.proofs.writer.Writer.sessions_line.Goals as goal

pub returns : goal.returns
returns c =
    line_written_well c.end_line.result c.args.self.now c.push.new.self c.number.new.self c.end_line.new.self (codes "sessions") (decimal c.args.count ∷ [])
    c.in_ok-push.ensures c.in_ok-number.ensures c.end_line.ensures

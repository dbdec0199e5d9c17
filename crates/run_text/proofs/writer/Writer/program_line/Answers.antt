use Rattle.std.proofs.Common.{[], ◌∷◌, codes}
use Rattle.run_text.specs.Strings.{bytes_string}
use Rattle.run_text.proofs.Lines.{line_written_well}
use Rattle.run_text.proofs.writer.Writer.program_line.Goals as goal

pub returns : goal.returns
returns c =
    line_written_well c.end_line.result c.args.self.now c.push.new.self c.bytes.new.self c.end_line.new.self (codes "program") (bytes_string c.args.program.now ∷ [])
    c.in_ok-push.ensures c.in_ok-bytes.ensures c.end_line.ensures

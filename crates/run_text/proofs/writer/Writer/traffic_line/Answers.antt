use Rattle.std.proofs.Common.{[], ◌∷◌, ap, ◌∙◌, codes}
use Rattle.run_text.specs.Strings.{bytes_string}
use Rattle.run_text.specs.Writing.{after}
use Rattle.run_text.proofs.Lines.{line_written_well}
use Rattle.run_text.proofs.writer.Writer.traffic_line.Goals as goal

pub returns : goal.returns
returns c =
    line_written_well c.end_line.result c.args.self.now c.push.new.self c.bytes-2.new.self c.end_line.new.self (codes "traffic") (bytes_string c.args.traffic.now.read ∷ (bytes_string c.args.traffic.now.written ∷ []))
    c.in_ok-push.ensures
    (c.in_ok-bytes-2.ensures ∙ ap (λ b. after c.bytes.new.self (bytes_string b ∷ [])) c.as_slice-2.ensures
    ∙ ap (λ s. after s (bytes_string c.args.traffic.now.written ∷ [])) (c.in_ok-bytes.ensures ∙ ap (λ b. after c.push.new.self (bytes_string b ∷ [])) c.as_slice.ensures))
    c.end_line.ensures

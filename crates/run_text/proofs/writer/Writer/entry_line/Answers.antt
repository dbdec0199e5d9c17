use Rattle.std.proofs.Common.{◌≡◌, [], ◌∷◌, ap, ◌∙◌, codes, decimal}
use Rattle.run_text.specs.Words.{act_words}
use Rattle.run_text.specs.Writing.{after}
use Rattle.run_text.proofs.Lines.{line_written_well}
use Rattle.run_text.proofs.writer.Writer.entry_line.Goals as goal

pub returns : goal.returns
returns c =
    let e = c.args.entry.now in
    let begun : c.number.new.self ≡ after c.push.new.self (decimal e.actor ∷ []) = cc (c.in_ok-number.ensures) in
    line_written_well c.end_line.result c.args.self.now c.push.new.self c.act.new.self c.end_line.new.self (codes "entry") (decimal e.actor ∷ act_words e.act)
    c.in_ok-push.ensures (c.in_ok-act.ensures ∙ ap (λ s. after s (act_words e.act)) begun) c.end_line.ensures

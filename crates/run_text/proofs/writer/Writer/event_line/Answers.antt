use Rattle.std.proofs.Common.{◌≡◌, [], ◌∷◌, codes, decimal}
use Rattle.run_text.specs.Words.{kind_word}
use Rattle.run_text.specs.Writing.{after}
use Rattle.run_text.proofs.Lines.{line_written_well}
use Rattle.run_text.proofs.writer.Writer.event_line.Goals as goal

pub returns : goal.returns
returns c =
    let e = c.args.event.now in
    let said : c.number-5.new.self ≡ after c.push.new.self (decimal c.args.session ∷ (decimal e.strand ∷ (kind_word e.kind ∷ (decimal e.number ∷ (decimal e.place ∷ (decimal e.fault ∷ [])))))) =
    cc (c.in_ok-number.ensures, c.in_ok-number-2.ensures, c.kind_word.ensures, c.in_ok-word.ensures, c.in_ok-number-3.ensures, c.in_ok-number-4.ensures, c.in_ok-number-5.ensures) in
    line_written_well c.end_line.result c.args.self.now c.push.new.self c.number-5.new.self c.end_line.new.self (codes "event") (decimal c.args.session ∷ (decimal e.strand ∷ (kind_word e.kind ∷ (decimal e.number ∷ (decimal e.place ∷ (decimal e.fault ∷ []))))))
    c.in_ok-push.ensures said c.end_line.ensures

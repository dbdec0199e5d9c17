use Rattle.std.proofs.Common.{ap, sym, ◌∙◌}
use Rattle.reqresp_book.specs.View.{standing_of}
use Rattle.office_plain.specs.Taken.{taken_out}
use Rattle.office_plain.proofs.AnswerTaken.{out_of_book}
use Rattle.office_plain.proofs.answer.take_out.Goals as goal

pub returns-clause-standings : goal.returns-clause-standings
returns-clause-standings c = λ n.
    let old = c.args.kept.now.book in
    out_of_book old c.collect.new.self c.in-Some.message c.collect.ensures.standing n
    ∙ ap (λ g. taken_out g n (standing_of old n)) (sym c.in-Some.is ∙ c.message_of.ensures)

pub returns-in_default-clause-standings : goal.returns-in_default-clause-standings
returns-in_default-clause-standings c = λ n.
    ap (λ g. taken_out g n (standing_of c.args.kept.now.book n)) (sym c.in_default.is ∙ c.message_of.ensures)

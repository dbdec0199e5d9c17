use Rattle.std.proofs.Common.{[], ◌∷◌, refl, sym, ◌∙◌}
use Rattle.jolie_parse.specs.ClassNames as classes
use Rattle.jolie_parse.specs.Grammar.{cardinal}
use Rattle.jolie_parse.proofs.Steps.{found_taken, none_taken}
use Rattle.jolie_parse.proofs.cursor.Cursor.cardinal.Goals as goal

pub returns-then-eat : goal.returns-then-eat
unfolding cardinal
returns-then-eat c =
    let a = sym c.eat.ensures.found ∙ c.if-eat.true in
    let e = found_taken (classes.sign_question ∷ []) c.args.self.now c.eat.new.self c.eat.result c.eat.ensures.found c.if-eat.true c.eat.ensures.rest in
    rw (a, e.1) refl

pub returns-then-eat-2 : goal.returns-then-eat-2
unfolding cardinal
returns-then-eat-2 c =
    let a = sym c.eat.ensures.found ∙ c.if-eat.false in
    let same = none_taken (classes.sign_question ∷ []) c.args.self.now c.eat.new.self c.eat.result c.eat.ensures.found c.if-eat.false c.eat.ensures.rest in
    let b = sym (rw same at c.eat-2.ensures.found) ∙ c.if-eat-2.true in
    let e = found_taken (classes.sign_star ∷ []) c.args.self.now c.eat-2.new.self c.eat-2.result (rw same at c.eat-2.ensures.found) c.if-eat-2.true (rw same at c.eat-2.ensures.rest) in
    rw (a, b, e.1) refl

pub returns : goal.returns
unfolding cardinal
returns c =
    let a = sym c.eat.ensures.found ∙ c.if-eat.false in
    let same = none_taken (classes.sign_question ∷ []) c.args.self.now c.eat.new.self c.eat.result c.eat.ensures.found c.if-eat.false c.eat.ensures.rest in
    let b = sym (rw same at c.eat-2.ensures.found) ∙ c.if-eat-2.false in
    let again = none_taken (classes.sign_star ∷ []) c.eat.new.self c.eat-2.new.self c.eat-2.result c.eat-2.ensures.found c.if-eat-2.false c.eat-2.ensures.rest ∙ same in
    rw (a, b) (rw again at c.bounds_in_brackets.ensures)

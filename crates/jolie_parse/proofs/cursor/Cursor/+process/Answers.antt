use Rattle.std.proofs.Common.{◌≡◌, ℕ, List, [], ◌∷◌, refl, sym, ◌∙◌, ◌-◌, Ok, Err}
use Rattle.jolie_ast.specs.declared.process.Otherwise.TheVariants as otherwise
use Rattle.jolie_parse.specs.ClassNames as classes
use Rattle.jolie_parse.specs.Classes.{Spelled}
use Rattle.jolie_parse.specs.Grammar.{id, handler_key, block, reply, input_parts, branch, choice, answer, output_parts, correlate, undefine, repetition, counted_loop, scope, install, throw, compensate, inner_handler, block_statement, nothing, marked_statement, in_sequence, in_parallel, handler}
use Rattle.jolie_parse.specs.Factored.{named_parts, named, else_if, alternative, one_else, one_statement}
use Rattle.jolie_parse.specs.Syntax as syntax
use Rattle.jolie_parse.specs.Syntax.{behind, between, inside, prefix, either, means, give}
use Rattle.jolie_parse.specs.Reading.{read}
use Rattle.jolie_parse.proofs.Lists.{passes, stops_then, first_stops, list_begun, next_fails, next_shorter, next_goes, nexts_end, turn_fails, turn_goes, turns_end, turn_shorter, optional_none, optional_stops, optional_read, left_reads, right_reads}
use Rattle.jolie_parse.proofs.Inside.{between_reads, inside_stops, inside_read, prefix_stops, prefix_read}
use Rattle.jolie_parse.proofs.Statements.{sequences_decided, statements_decided, handlers_decided, branches_decided}
use Rattle.jolie_parse.proofs.cursor.Cursor.+process.Goals as goal

pub block-returns-in_err-body : goal.block-returns-in_err-body
unfolding block
block-returns-in_err-body t c =
    passes _ c.from_residual-in_err-body.result c.in_err-body.field-0.0 _ c.from_residual-in_err-body.ensures.1
    (stops_then (read c.args.levels (inside classes.sign_open_brace syntax.a_body classes.sign_close_brace) c.args.self.now) _ _ _
    (inside_stops classes.sign_open_brace syntax.a_body classes.sign_close_brace c.args.levels (c.args.levels - 1) c.args.self.now _ _ _ _ c.body-part.result _ c.in_ok-open.ensures.opened refl c.in_ok-open.ensures.reads c.body-part.ensures c.in_err-body.ensures))

pub block-returns : goal.block-returns
unfolding block
block-returns t c =
    let e = inside_read classes.sign_open_brace syntax.a_body classes.sign_close_brace c.args.levels (c.args.levels - 1) c.args.self.now _ _ _ _ c.body-part.result _ c.in_ok-open.ensures.opened refl c.in_ok-open.ensures.reads c.body-part.ensures c.in_ok-body.ensures in
    rw (e, c.at.ensures) refl

pub body-returns-then-not-sees : goal.body-returns-then-not-sees
unfolding id nothing block block_statement one_statement one_else undefine correlate repetition counted_loop choice branch scope install throw compensate inner_handler
body-returns-then-not-sees t c =
    optional_none c.args.levels (in_parallel one_statement) c.args.self.now _ c.sees.ensures c.if-not-sees.true

pub body-returns-in_err-process : goal.body-returns-in_err-process
unfolding id nothing block block_statement one_statement one_else undefine correlate repetition counted_loop choice branch scope install throw compensate inner_handler
body-returns-in_err-process t c =
    passes _ c.from_residual.result c.in_err-process.field-0.0 _ c.from_residual.ensures.1
    (optional_stops c.args.levels (in_parallel one_statement) c.args.self.now _ _ _ c.sees.ensures c.if-not-sees.false c.in_err-process.ensures)

pub body-returns : goal.body-returns
unfolding id nothing block block_statement one_statement one_else undefine correlate repetition counted_loop choice branch scope install throw compensate inner_handler
body-returns t c =
    rw c.in_ok-new.ensures (optional_read c.args.levels (in_parallel one_statement) c.args.self.now _ _ _ c.sees.ensures c.if-not-sees.false c.in_ok-process.ensures)

pub statement-returns-then-sees_word : goal.statement-returns-then-sees_word
unfolding one_statement nothing id
statement-returns-then-sees_word t c =
    left_reads c.args.levels nothing (either named (marked_statement one_else)) c.args.self.now _ _ _ c.sees_word.ensures c.if-sees_word.true c.nothing.ensures

pub statement-returns-then-sees : goal.statement-returns-then-sees
unfolding one_statement nothing id
statement-returns-then-sees t c =
    let a = sym c.sees_word.ensures ∙ c.if-sees_word.false in
    let b = sym c.sees.ensures ∙ c.if-sees.true in
    rw (a, b) c.named.ensures

pub statement-returns : goal.statement-returns
unfolding one_statement nothing id
statement-returns t c =
    let a = sym c.sees_word.ensures ∙ c.if-sees_word.false in
    let b = sym c.sees.ensures ∙ c.if-sees.false in
    rw (a, b) c.marked_statement.ensures

pub marked_statement-returns-then-sees_word : goal.marked_statement-returns-then-sees_word
unfolding undefine correlate repetition counted_loop choice branch scope install throw compensate inner_handler
marked_statement-returns-then-sees_word t c =
    let b = sym c.sees_word.ensures ∙ c.if-sees_word.true in
    rw (b) c.undefine.ensures

pub marked_statement-returns-then-sees_word-2 : goal.marked_statement-returns-then-sees_word-2
unfolding undefine correlate repetition counted_loop choice branch scope install throw compensate inner_handler
marked_statement-returns-then-sees_word-2 t c =
    let a0 = sym c.sees_word.ensures ∙ c.if-sees_word.false in
    let b = sym c.sees_word-2.ensures ∙ c.if-sees_word-2.true in
    rw (a0, b) c.correlate.ensures

pub marked_statement-returns-then-sees_word-3 : goal.marked_statement-returns-then-sees_word-3
unfolding undefine correlate repetition counted_loop choice branch scope install throw compensate inner_handler
marked_statement-returns-then-sees_word-3 t c =
    let a0 = sym c.sees_word.ensures ∙ c.if-sees_word.false in
    let a1 = sym c.sees_word-2.ensures ∙ c.if-sees_word-2.false in
    let b = sym c.sees_word-3.ensures ∙ c.if-sees_word-3.true in
    rw (a0, a1, b) c.conditional.ensures

pub marked_statement-returns-then-sees_word-4 : goal.marked_statement-returns-then-sees_word-4
unfolding undefine correlate repetition counted_loop choice branch scope install throw compensate inner_handler
marked_statement-returns-then-sees_word-4 t c =
    let a0 = sym c.sees_word.ensures ∙ c.if-sees_word.false in
    let a1 = sym c.sees_word-2.ensures ∙ c.if-sees_word-2.false in
    let a2 = sym c.sees_word-3.ensures ∙ c.if-sees_word-3.false in
    let b = sym c.sees_word-4.ensures ∙ c.if-sees_word-4.true in
    rw (a0, a1, a2, b) c.repetition.ensures

pub marked_statement-returns-then-sees_word-5 : goal.marked_statement-returns-then-sees_word-5
unfolding undefine correlate repetition counted_loop choice branch scope install throw compensate inner_handler
marked_statement-returns-then-sees_word-5 t c =
    let a0 = sym c.sees_word.ensures ∙ c.if-sees_word.false in
    let a1 = sym c.sees_word-2.ensures ∙ c.if-sees_word-2.false in
    let a2 = sym c.sees_word-3.ensures ∙ c.if-sees_word-3.false in
    let a3 = sym c.sees_word-4.ensures ∙ c.if-sees_word-4.false in
    let b = sym c.sees_word-5.ensures ∙ c.if-sees_word-5.true in
    rw (a0, a1, a2, a3, b) c.counted_loop.ensures

pub marked_statement-returns-then-sees_sign : goal.marked_statement-returns-then-sees_sign
unfolding undefine correlate repetition counted_loop choice branch scope install throw compensate inner_handler
marked_statement-returns-then-sees_sign t c =
    let a0 = sym c.sees_word.ensures ∙ c.if-sees_word.false in
    let a1 = sym c.sees_word-2.ensures ∙ c.if-sees_word-2.false in
    let a2 = sym c.sees_word-3.ensures ∙ c.if-sees_word-3.false in
    let a3 = sym c.sees_word-4.ensures ∙ c.if-sees_word-4.false in
    let a4 = sym c.sees_word-5.ensures ∙ c.if-sees_word-5.false in
    let b = sym c.sees_sign.ensures ∙ c.if-sees_sign.true in
    rw (a0, a1, a2, a3, a4, b) c.choice.ensures

pub marked_statement-returns-then-sees_word-6 : goal.marked_statement-returns-then-sees_word-6
unfolding undefine correlate repetition counted_loop choice branch scope install throw compensate inner_handler
marked_statement-returns-then-sees_word-6 t c =
    let a0 = sym c.sees_word.ensures ∙ c.if-sees_word.false in
    let a1 = sym c.sees_word-2.ensures ∙ c.if-sees_word-2.false in
    let a2 = sym c.sees_word-3.ensures ∙ c.if-sees_word-3.false in
    let a3 = sym c.sees_word-4.ensures ∙ c.if-sees_word-4.false in
    let a4 = sym c.sees_word-5.ensures ∙ c.if-sees_word-5.false in
    let a5 = sym c.sees_sign.ensures ∙ c.if-sees_sign.false in
    let b = sym c.sees_word-6.ensures ∙ c.if-sees_word-6.true in
    rw (a0, a1, a2, a3, a4, a5, b) c.scope.ensures

pub marked_statement-returns-then-sees_word-7 : goal.marked_statement-returns-then-sees_word-7
unfolding undefine correlate repetition counted_loop choice branch scope install throw compensate inner_handler
marked_statement-returns-then-sees_word-7 t c =
    let a0 = sym c.sees_word.ensures ∙ c.if-sees_word.false in
    let a1 = sym c.sees_word-2.ensures ∙ c.if-sees_word-2.false in
    let a2 = sym c.sees_word-3.ensures ∙ c.if-sees_word-3.false in
    let a3 = sym c.sees_word-4.ensures ∙ c.if-sees_word-4.false in
    let a4 = sym c.sees_word-5.ensures ∙ c.if-sees_word-5.false in
    let a5 = sym c.sees_sign.ensures ∙ c.if-sees_sign.false in
    let a6 = sym c.sees_word-6.ensures ∙ c.if-sees_word-6.false in
    let b = sym c.sees_word-7.ensures ∙ c.if-sees_word-7.true in
    rw (a0, a1, a2, a3, a4, a5, a6, b) c.install.ensures

pub marked_statement-returns-then-sees_word-8 : goal.marked_statement-returns-then-sees_word-8
unfolding undefine correlate repetition counted_loop choice branch scope install throw compensate inner_handler
marked_statement-returns-then-sees_word-8 t c =
    let a0 = sym c.sees_word.ensures ∙ c.if-sees_word.false in
    let a1 = sym c.sees_word-2.ensures ∙ c.if-sees_word-2.false in
    let a2 = sym c.sees_word-3.ensures ∙ c.if-sees_word-3.false in
    let a3 = sym c.sees_word-4.ensures ∙ c.if-sees_word-4.false in
    let a4 = sym c.sees_word-5.ensures ∙ c.if-sees_word-5.false in
    let a5 = sym c.sees_sign.ensures ∙ c.if-sees_sign.false in
    let a6 = sym c.sees_word-6.ensures ∙ c.if-sees_word-6.false in
    let a7 = sym c.sees_word-7.ensures ∙ c.if-sees_word-7.false in
    let b = sym c.sees_word-8.ensures ∙ c.if-sees_word-8.true in
    rw (a0, a1, a2, a3, a4, a5, a6, a7, b) c.throw.ensures

pub marked_statement-returns-then-sees_word-9 : goal.marked_statement-returns-then-sees_word-9
unfolding undefine correlate repetition counted_loop choice branch scope install throw compensate inner_handler
marked_statement-returns-then-sees_word-9 t c =
    let a0 = sym c.sees_word.ensures ∙ c.if-sees_word.false in
    let a1 = sym c.sees_word-2.ensures ∙ c.if-sees_word-2.false in
    let a2 = sym c.sees_word-3.ensures ∙ c.if-sees_word-3.false in
    let a3 = sym c.sees_word-4.ensures ∙ c.if-sees_word-4.false in
    let a4 = sym c.sees_word-5.ensures ∙ c.if-sees_word-5.false in
    let a5 = sym c.sees_sign.ensures ∙ c.if-sees_sign.false in
    let a6 = sym c.sees_word-6.ensures ∙ c.if-sees_word-6.false in
    let a7 = sym c.sees_word-7.ensures ∙ c.if-sees_word-7.false in
    let a8 = sym c.sees_word-8.ensures ∙ c.if-sees_word-8.false in
    let b = sym c.sees_word-9.ensures ∙ c.if-sees_word-9.true in
    rw (a0, a1, a2, a3, a4, a5, a6, a7, a8, b) c.compensate.ensures

pub marked_statement-returns-then-sees_word-10 : goal.marked_statement-returns-then-sees_word-10
unfolding undefine correlate repetition counted_loop choice branch scope install throw compensate inner_handler
marked_statement-returns-then-sees_word-10 t c =
    let a0 = sym c.sees_word.ensures ∙ c.if-sees_word.false in
    let a1 = sym c.sees_word-2.ensures ∙ c.if-sees_word-2.false in
    let a2 = sym c.sees_word-3.ensures ∙ c.if-sees_word-3.false in
    let a3 = sym c.sees_word-4.ensures ∙ c.if-sees_word-4.false in
    let a4 = sym c.sees_word-5.ensures ∙ c.if-sees_word-5.false in
    let a5 = sym c.sees_sign.ensures ∙ c.if-sees_sign.false in
    let a6 = sym c.sees_word-6.ensures ∙ c.if-sees_word-6.false in
    let a7 = sym c.sees_word-7.ensures ∙ c.if-sees_word-7.false in
    let a8 = sym c.sees_word-8.ensures ∙ c.if-sees_word-8.false in
    let a9 = sym c.sees_word-9.ensures ∙ c.if-sees_word-9.false in
    let b = sym c.sees_word-10.ensures ∙ c.if-sees_word-10.true in
    rw (a0, a1, a2, a3, a4, a5, a6, a7, a8, a9, b) c.inner_handler.ensures

pub marked_statement-returns : goal.marked_statement-returns
unfolding undefine correlate repetition counted_loop choice branch scope install throw compensate inner_handler
marked_statement-returns t c =
    let a0 = sym c.sees_word.ensures ∙ c.if-sees_word.false in
    let a1 = sym c.sees_word-2.ensures ∙ c.if-sees_word-2.false in
    let a2 = sym c.sees_word-3.ensures ∙ c.if-sees_word-3.false in
    let a3 = sym c.sees_word-4.ensures ∙ c.if-sees_word-4.false in
    let a4 = sym c.sees_word-5.ensures ∙ c.if-sees_word-5.false in
    let a5 = sym c.sees_sign.ensures ∙ c.if-sees_sign.false in
    let a6 = sym c.sees_word-6.ensures ∙ c.if-sees_word-6.false in
    let a7 = sym c.sees_word-7.ensures ∙ c.if-sees_word-7.false in
    let a8 = sym c.sees_word-8.ensures ∙ c.if-sees_word-8.false in
    let a9 = sym c.sees_word-9.ensures ∙ c.if-sees_word-9.false in
    let a10 = sym c.sees_word-10.ensures ∙ c.if-sees_word-10.false in
    rw (a0, a1, a2, a3, a4, a5, a6, a7, a8, a9, a10) c.block_statement.ensures

pub named_parts-returns-then-sees_sign : goal.named_parts-returns-then-sees_sign
unfolding named_parts input_parts output_parts
named_parts-returns-then-sees_sign t c =
    let b = sym c.sees_sign.ensures ∙ c.if-sees_sign.true in
    rw b c.named_input.ensures

pub named_parts-returns-then-sees_sign-2 : goal.named_parts-returns-then-sees_sign-2
unfolding named_parts input_parts output_parts
named_parts-returns-then-sees_sign-2 t c =
    let a = sym c.sees_sign.ensures ∙ c.if-sees_sign.false in
    let b = sym c.sees_sign-2.ensures ∙ c.if-sees_sign-2.true in
    rw (a, b) c.named_output.ensures

pub named_parts-returns : goal.named_parts-returns
unfolding named_parts input_parts output_parts
named_parts-returns t c =
    let a = sym c.sees_sign.ensures ∙ c.if-sees_sign.false in
    let b = sym c.sees_sign-2.ensures ∙ c.if-sees_sign-2.false in
    rw (a, b) c.named_assignment.ensures

pub maybe_reply-returns-then-not-sees_sign : goal.maybe_reply-returns-then-not-sees_sign
unfolding reply
maybe_reply-returns-then-not-sees_sign t c =
    optional_none c.args.levels reply c.args.self.now _ c.sees_sign.ensures c.if-not-sees_sign.true

pub maybe_reply-returns-in_err-reply : goal.maybe_reply-returns-in_err-reply
unfolding reply
maybe_reply-returns-in_err-reply t c =
    passes _ c.from_residual.result c.in_err-reply.field-0.0 _ c.from_residual.ensures.1
    (optional_stops c.args.levels reply c.args.self.now _ _ _ c.sees_sign.ensures c.if-not-sees_sign.false c.in_err-reply.ensures)

pub maybe_reply-returns : goal.maybe_reply-returns
unfolding reply
maybe_reply-returns t c =
    optional_read c.args.levels reply c.args.self.now _ _ _ c.sees_sign.ensures c.if-not-sees_sign.false c.in_ok-reply.ensures

pub maybe_answer-returns-then-not-sees_sign : goal.maybe_answer-returns-then-not-sees_sign
unfolding answer
maybe_answer-returns-then-not-sees_sign t c =
    optional_none c.args.levels answer c.args.self.now _ c.sees_sign.ensures c.if-not-sees_sign.true

pub maybe_answer-returns-in_err-answer : goal.maybe_answer-returns-in_err-answer
unfolding answer
maybe_answer-returns-in_err-answer t c =
    passes _ c.from_residual.result c.in_err-answer.field-0.0 _ c.from_residual.ensures.1
    (optional_stops c.args.levels answer c.args.self.now _ _ _ c.sees_sign.ensures c.if-not-sees_sign.false c.in_err-answer.ensures)

pub maybe_answer-returns : goal.maybe_answer-returns
unfolding answer
maybe_answer-returns t c =
    optional_read c.args.levels answer c.args.self.now _ _ _ c.sees_sign.ensures c.if-not-sees_sign.false c.in_ok-answer.ensures

pub maybe_handlers-returns-then-not-sees_sign : goal.maybe_handlers-returns-then-not-sees_sign
maybe_handlers-returns-then-not-sees_sign t c =
    optional_none c.args.levels (between classes.sign_open_bracket syntax.some_handlers classes.sign_close_bracket) c.args.self.now _ c.sees_sign.ensures c.if-not-sees_sign.true

pub maybe_handlers-returns-in_err-handlers_in_brackets : goal.maybe_handlers-returns-in_err-handlers_in_brackets
maybe_handlers-returns-in_err-handlers_in_brackets t c =
    passes _ c.from_residual.result c.in_err-handlers_in_brackets.field-0.0 _ c.from_residual.ensures.1
    (optional_stops c.args.levels (between classes.sign_open_bracket syntax.some_handlers classes.sign_close_bracket) c.args.self.now _ _ _ c.sees_sign.ensures c.if-not-sees_sign.false c.in_err-handlers_in_brackets.ensures)

pub maybe_handlers-returns : goal.maybe_handlers-returns
maybe_handlers-returns t c =
    optional_read c.args.levels (between classes.sign_open_bracket syntax.some_handlers classes.sign_close_bracket) c.args.self.now _ _ _ c.sees_sign.ensures c.if-not-sees_sign.false c.in_ok-handlers_in_brackets.ensures

pub handlers_in_brackets-returns : goal.handlers_in_brackets-returns
handlers_in_brackets-returns t c =
    between_reads classes.sign_open_bracket syntax.some_handlers classes.sign_close_bracket c.args.levels (c.args.levels - 1) c.args.self.now _ _ _ _ c.handlers-part.result c.closed.result c.in_ok-open.ensures.opened refl c.in_ok-open.ensures.reads c.handlers-part.ensures c.closed.ensures

pub handlers_in_parens-returns : goal.handlers_in_parens-returns
handlers_in_parens-returns t c =
    between_reads classes.sign_open_paren syntax.some_handlers classes.sign_close_paren c.args.levels (c.args.levels - 1) c.args.self.now _ _ _ _ c.handlers-part.result c.closed.result c.in_ok-open.ensures.opened refl c.in_ok-open.ensures.reads c.handlers-part.ensures c.closed.ensures

pub branch-returns-in_err-input : goal.branch-returns-in_err-input
unfolding branch
branch-returns-in_err-input t c =
    passes _ c.from_residual-in_err-input.result c.in_err-input.field-0.0 _ c.from_residual-in_err-input.ensures.1
    (stops_then _ _ _ _ (stops_then (read c.args.levels (inside classes.sign_open_bracket syntax.an_input classes.sign_close_bracket) c.args.self.now) _ _ _
    (inside_stops classes.sign_open_bracket syntax.an_input classes.sign_close_bracket c.args.levels (c.args.levels - 1) c.args.self.now _ _ _ _ c.input-part.result _ c.in_ok-open.ensures.opened refl c.in_ok-open.ensures.reads c.input-part.ensures c.in_err-input.ensures)))

pub branch-returns-in_err-after : goal.branch-returns-in_err-after
unfolding branch
branch-returns-in_err-after t c =
    let e = inside_read classes.sign_open_bracket syntax.an_input classes.sign_close_bracket c.args.levels (c.args.levels - 1) c.args.self.now _ _ _ _ c.input-part.result _ c.in_ok-open.ensures.opened refl c.in_ok-open.ensures.reads c.input-part.ensures c.in_ok-input.ensures in
    passes _ c.from_residual-in_err-after.result c.in_err-after.field-0.0 _ c.from_residual-in_err-after.ensures.1
    (rw e (stops_then _ _ _ _ (stops_then (read c.args.levels block c.closed.new.self) _ _ _ c.in_err-after.ensures)))

pub branch-returns : goal.branch-returns
unfolding branch
branch-returns t c =
    let e = inside_read classes.sign_open_bracket syntax.an_input classes.sign_close_bracket c.args.levels (c.args.levels - 1) c.args.self.now _ _ _ _ c.input-part.result _ c.in_ok-open.ensures.opened refl c.in_ok-open.ensures.reads c.input-part.ensures c.in_ok-input.ensures in
    rw (e, c.in_ok-after.ensures, c.at.ensures) refl

pub otherwise-returns-then-sees_word : goal.otherwise-returns-then-sees_word
unfolding one_else
otherwise-returns-then-sees_word t c =
    left_reads c.args.levels (behind classes.the_else alternative) (give otherwise.Nothing) c.args.self.now _ _ _ c.sees_word.ensures c.if-sees_word.true c.behind_else.ensures

pub otherwise-returns : goal.otherwise-returns
unfolding one_else
otherwise-returns t c =
    right_reads c.args.levels (behind classes.the_else alternative) (give otherwise.Nothing) c.args.self.now _ _ (Ok _) c.sees_word.ensures c.if-sees_word.false refl

pub alternative-returns-then-sees_word : goal.alternative-returns-then-sees_word
alternative-returns-then-sees_word t c =
    left_reads c.args.levels else_if (means otherwise.Else block) c.args.self.now _ _ _ c.sees_word.ensures c.if-sees_word.true c.else_if.ensures

pub alternative-returns-in_err-block : goal.alternative-returns-in_err-block
alternative-returns-in_err-block t c =
    passes _ c.from_residual.result c.in_err-block.field-0.0 _ c.from_residual.ensures.1
    (right_reads c.args.levels else_if (means otherwise.Else block) c.args.self.now _ _ (Err _) c.sees_word.ensures c.if-sees_word.false (stops_then (read c.args.levels block c.args.self.now) _ _ _ c.in_err-block.ensures))

pub alternative-returns : goal.alternative-returns
alternative-returns t c =
    right_reads c.args.levels else_if (means otherwise.Else block) c.args.self.now _ _ (Ok _) c.sees_word.ensures c.if-sees_word.false (rw c.in_ok-block.ensures refl)

pub else_if-returns : goal.else_if-returns
else_if-returns t c =
    let e = prefix_read (classes.the_if ∷ []) syntax.an_else_if c.args.levels (c.args.levels - 1) c.args.self.now _ _ _ _ c.in_ok-word.ensures.opened refl c.in_ok-word.ensures.reads c.in_ok-parts.ensures in
    rw (e, c.in_ok-new.ensures, c.if_of-next.ensures) refl

pub else_if-returns-in_err-parts : goal.else_if-returns-in_err-parts
else_if-returns-in_err-parts t c =
    passes _ c.from_residual-in_err-parts.result c.in_err-parts.field-0.0 _ c.from_residual-in_err-parts.ensures.1
    (stops_then (read c.args.levels (prefix (classes.the_if ∷ []) syntax.an_else_if) c.args.self.now) _ _ _
    (prefix_stops (classes.the_if ∷ []) syntax.an_else_if c.args.levels (c.args.levels - 1) c.args.self.now _ _ _ _ c.in_ok-word.ensures.opened refl c.in_ok-word.ensures.reads c.in_err-parts.ensures))

pub sequences-returns-in_err-first : goal.sequences-returns-in_err-first
sequences-returns-in_err-first t c =
    passes _ c.from_residual.result c.in_err-first.field-0.0 _ c.from_residual.ensures.1
    (first_stops c.args.levels (in_sequence one_statement) (behind classes.sign_bar (in_sequence one_statement)) c.args.self.now _ _ c.in_err-first.ensures)

pub sequences-loop-sequences-init : goal.sequences-loop-sequences-init
sequences-loop-sequences-init t c = list_begun c.args.levels (in_sequence one_statement) (behind classes.sign_bar (in_sequence one_statement)) c.args.self.now _ _ _ c.in_ok-first.ensures c.in_ok-sequences.ensures

pub sequences-returns-in_err-sequence : goal.sequences-returns-in_err-sequence
sequences-returns-in_err-sequence t c =
    passes _ c.from_residual-in_err-sequence.result c.in_err-sequence.field-0.0 _ c.from_residual-in_err-sequence.ensures.1
    (next_fails c.args.levels classes.sign_bar (in_sequence one_statement) sequences_decided _ _ _ _ _ _ _ c.loop-sequences.invariant c.eat.ensures.found c.eat.ensures.rest c.loop-sequences-test.true c.in_err-sequence.ensures)

pub sequences-loop-sequences-smaller : goal.sequences-loop-sequences-smaller
sequences-loop-sequences-smaller t c = next_shorter c.args.levels classes.sign_bar (in_sequence one_statement) sequences_decided _ _ _ _ _ c.eat.ensures.found c.eat.ensures.rest c.loop-sequences-test.true c.in_ok-sequence.ensures

pub sequences-loop-sequences-preserved : goal.sequences-loop-sequences-preserved
sequences-loop-sequences-preserved t c =
    next_goes c.args.levels classes.sign_bar (in_sequence one_statement) sequences_decided _ _ _ _ _ _ _ _ c.loop-sequences.invariant c.eat.ensures.found c.eat.ensures.rest c.loop-sequences-test.true c.in_ok-sequence.ensures c.in_ok-push.ensures.ok

pub sequences-returns : goal.sequences-returns
sequences-returns t c = nexts_end c.args.levels classes.sign_bar (in_sequence one_statement) sequences_decided _ _ _ _ _ c.loop-sequences.invariant c.eat.ensures.found c.eat.ensures.rest c.loop-sequences-test.false

pub statements-returns-in_err-first : goal.statements-returns-in_err-first
statements-returns-in_err-first t c =
    passes _ c.from_residual.result c.in_err-first.field-0.0 _ c.from_residual.ensures.1
    (first_stops c.args.levels one_statement (behind classes.sign_semicolon one_statement) c.args.self.now _ _ c.in_err-first.ensures)

pub statements-loop-statements-init : goal.statements-loop-statements-init
statements-loop-statements-init t c = list_begun c.args.levels one_statement (behind classes.sign_semicolon one_statement) c.args.self.now _ _ _ c.in_ok-first.ensures c.in_ok-statements.ensures

pub statements-returns-in_err-statement : goal.statements-returns-in_err-statement
statements-returns-in_err-statement t c =
    passes _ c.from_residual-in_err-statement.result c.in_err-statement.field-0.0 _ c.from_residual-in_err-statement.ensures.1
    (next_fails c.args.levels classes.sign_semicolon one_statement statements_decided _ _ _ _ _ _ _ c.loop-statements.invariant c.eat.ensures.found c.eat.ensures.rest c.loop-statements-test.true c.in_err-statement.ensures)

pub statements-loop-statements-smaller : goal.statements-loop-statements-smaller
statements-loop-statements-smaller t c = next_shorter c.args.levels classes.sign_semicolon one_statement statements_decided _ _ _ _ _ c.eat.ensures.found c.eat.ensures.rest c.loop-statements-test.true c.in_ok-statement.ensures

pub statements-loop-statements-preserved : goal.statements-loop-statements-preserved
statements-loop-statements-preserved t c =
    next_goes c.args.levels classes.sign_semicolon one_statement statements_decided _ _ _ _ _ _ _ _ c.loop-statements.invariant c.eat.ensures.found c.eat.ensures.rest c.loop-statements-test.true c.in_ok-statement.ensures c.in_ok-push.ensures.ok

pub statements-returns : goal.statements-returns
statements-returns t c = nexts_end c.args.levels classes.sign_semicolon one_statement statements_decided _ _ _ _ _ c.loop-statements.invariant c.eat.ensures.found c.eat.ensures.rest c.loop-statements-test.false

pub handlers-returns-in_err-first : goal.handlers-returns-in_err-first
handlers-returns-in_err-first t c =
    passes _ c.from_residual.result c.in_err-first.field-0.0 _ c.from_residual.ensures.1
    (first_stops c.args.levels (handler one_statement) (behind classes.sign_comma (handler one_statement)) c.args.self.now _ _ c.in_err-first.ensures)

pub handlers-loop-handlers-init : goal.handlers-loop-handlers-init
handlers-loop-handlers-init t c = list_begun c.args.levels (handler one_statement) (behind classes.sign_comma (handler one_statement)) c.args.self.now _ _ _ c.in_ok-first.ensures c.in_ok-handlers.ensures

pub handlers-returns-in_err-handler : goal.handlers-returns-in_err-handler
handlers-returns-in_err-handler t c =
    passes _ c.from_residual-in_err-handler.result c.in_err-handler.field-0.0 _ c.from_residual-in_err-handler.ensures.1
    (next_fails c.args.levels classes.sign_comma (handler one_statement) handlers_decided _ _ _ _ _ _ _ c.loop-handlers.invariant c.eat.ensures.found c.eat.ensures.rest c.loop-handlers-test.true c.in_err-handler.ensures)

pub handlers-loop-handlers-smaller : goal.handlers-loop-handlers-smaller
handlers-loop-handlers-smaller t c = next_shorter c.args.levels classes.sign_comma (handler one_statement) handlers_decided _ _ _ _ _ c.eat.ensures.found c.eat.ensures.rest c.loop-handlers-test.true c.in_ok-handler.ensures

pub handlers-loop-handlers-preserved : goal.handlers-loop-handlers-preserved
handlers-loop-handlers-preserved t c =
    next_goes c.args.levels classes.sign_comma (handler one_statement) handlers_decided _ _ _ _ _ _ _ _ c.loop-handlers.invariant c.eat.ensures.found c.eat.ensures.rest c.loop-handlers-test.true c.in_ok-handler.ensures c.in_ok-push.ensures.ok

pub handlers-returns : goal.handlers-returns
handlers-returns t c = nexts_end c.args.levels classes.sign_comma (handler one_statement) handlers_decided _ _ _ _ _ c.loop-handlers.invariant c.eat.ensures.found c.eat.ensures.rest c.loop-handlers-test.false

pub branches-returns-in_err-first : goal.branches-returns-in_err-first
branches-returns-in_err-first t c =
    passes _ c.from_residual.result c.in_err-first.field-0.0 _ c.from_residual.ensures.1
    (first_stops c.args.levels branch branch c.args.self.now _ _ c.in_err-first.ensures)

pub branches-loop-branches-init : goal.branches-loop-branches-init
branches-loop-branches-init t c = list_begun c.args.levels branch branch c.args.self.now _ _ _ c.in_ok-first.ensures c.in_ok-branches.ensures

pub branches-returns-in_err-branch : goal.branches-returns-in_err-branch
unfolding branch
branches-returns-in_err-branch t c =
    passes _ c.from_residual-in_err-branch.result c.in_err-branch.field-0.0 _ c.from_residual-in_err-branch.ensures.1
    (turn_fails c.args.levels branch branches_decided _ _ _ _ _ _ c.loop-branches.invariant c.sees_sign.ensures c.loop-branches-test.true c.in_err-branch.ensures)

pub branches-loop-branches-smaller : goal.branches-loop-branches-smaller
unfolding branch
branches-loop-branches-smaller t c = turn_shorter c.args.levels branch branches_decided _ _ _ c.in_ok-branch.ensures

pub branches-loop-branches-preserved : goal.branches-loop-branches-preserved
unfolding branch
branches-loop-branches-preserved t c =
    turn_goes c.args.levels branch branches_decided _ _ _ _ _ _ _ c.loop-branches.invariant c.sees_sign.ensures c.loop-branches-test.true c.in_ok-branch.ensures c.in_ok-push.ensures.ok

pub branches-returns : goal.branches-returns
unfolding branch
branches-returns t c = turns_end c.args.levels branch branches_decided _ _ _ _ c.loop-branches.invariant c.sees_sign.ensures c.loop-branches-test.false

-- no level opens in what a handler is for
key_level : (n : ℕ) (ts : List Spelled) → read n handler_key ts ≡ read 0 handler_key ts
unfolding handler_key id
key_level n ts = refl

pub handler-returns-in_err-key : goal.handler-returns-in_err-key
handler-returns-in_err-key t c =
    passes _ c.from_residual.result c.in_err-key.field-0.0 _ c.from_residual.ensures.1
    (stops_then _ _ _ _ (stops_then (read c.args.levels handler_key c.args.self.now) _ _ _ (rw (key_level c.args.levels c.args.self.now) c.in_err-key.ensures)))

pub handler-returns-in_err-sign : goal.handler-returns-in_err-sign
handler-returns-in_err-sign t c =
    let e = key_level c.args.levels c.args.self.now ∙ c.in_ok-key.ensures in
    passes _ c.from_residual-in_err-sign.result c.in_err-sign.field-0.0 _ c.from_residual-in_err-sign.ensures.1
    (rw e (stops_then _ _ _ _ (stops_then _ _ _ _ (stops_then _ _ _ _ (stops_then _ _ _ _ c.in_err-sign.ensures)))))

pub handler-returns-in_err-body : goal.handler-returns-in_err-body
handler-returns-in_err-body t c =
    let e = key_level c.args.levels c.args.self.now ∙ c.in_ok-key.ensures in
    passes _ c.from_residual-in_err-body.result c.in_err-body.field-0.0 _ c.from_residual-in_err-body.ensures.1
    (rw (e, c.in_ok-sign.ensures) (stops_then _ _ _ _ (stops_then _ _ _ _ (stops_then _ _ _ _ (stops_then _ _ _ _ c.in_err-body.ensures)))))

pub handler-returns : goal.handler-returns
handler-returns t c =
    let e = key_level c.args.levels c.args.self.now ∙ c.in_ok-key.ensures in
    rw (e, c.in_ok-sign.ensures, c.in_ok-body.ensures) refl

use Rattle.std.proofs.Common.{◌-◌, refl, rules}
use Rattle.jolie_parse.specs.ClassNames as classes
use Rattle.jolie_parse.specs.Grammar as spec
use Rattle.jolie_parse.specs.Grammar.{field, word, cardinal, bounds, type_body, root_type, id}
use Rattle.jolie_parse.specs.Syntax as syntax
use Rattle.jolie_parse.proofs.Lists.{passes, stops_then, eaten, turn_fails, turn_goes, turns_end, turn_shorter}
use Rattle.jolie_parse.proofs.Inside.{between_reads}
use Rattle.jolie_parse.proofs.Steps.{none_read}
use Rattle.jolie_parse.proofs.cursor.Cursor.+types.Goals as goal

pub fields_in_braces-returns : goal.fields_in_braces-returns
fields_in_braces-returns t c =
    between_reads classes.sign_open_brace syntax.some_fields classes.sign_close_brace c.args.levels (c.args.levels - 1) c.args.self.now _ _ _ _ _ _ c.in_ok-open.ensures.opened refl c.in_ok-open.ensures.reads (rw none_read at c.fields-part.ensures) c.closed.ensures

pub fields-returns-in_err-field : goal.fields-returns-in_err-field
unfolding field word cardinal bounds type_body root_type id
fields-returns-in_err-field t c =
    passes _ c.from_residual.result c.in_err-field.field-0.0 _ c.from_residual.ensures.1
    (turn_fails c.args.levels spec.field refl _ _ _ _ _ _ c.loop-fields.invariant c.sees.ensures c.loop-fields-test.true c.in_err-field.ensures)

pub fields-loop-fields-smaller : goal.fields-loop-fields-smaller
unfolding field word cardinal bounds type_body root_type id
fields-loop-fields-smaller t c = turn_shorter c.args.levels spec.field refl _ _ _ c.in_ok-field.ensures

pub fields-loop-fields-preserved : goal.fields-loop-fields-preserved
unfolding field word cardinal bounds type_body root_type id
fields-loop-fields-preserved t c =
    turn_goes c.args.levels spec.field refl _ _ _ _ _ _ _ c.loop-fields.invariant c.sees.ensures c.loop-fields-test.true c.in_ok-field.ensures c.in_ok-push.ensures.ok

pub fields-returns : goal.fields-returns
unfolding field word cardinal bounds type_body root_type id
fields-returns t c = turns_end c.args.levels spec.field refl _ _ _ _ c.loop-fields.invariant c.sees.ensures c.loop-fields-test.false

pub field-returns-in_err-word : goal.field-returns-in_err-word
unfolding field word
field-returns-in_err-word t c =
    let dot = eaten c.args.levels classes.sign_dot c.args.self.now _ c.eat.ensures.rest in
    rw dot.1 (search (rules, passes, stops_then))

pub field-returns-in_err-cardinality : goal.field-returns-in_err-cardinality
unfolding field word
field-returns-in_err-cardinality t c =
    let dot = eaten c.args.levels classes.sign_dot c.args.self.now _ c.eat.ensures.rest in
    rw dot.1 (search (rules, passes, stops_then))

pub field-returns-in_err-sign : goal.field-returns-in_err-sign
unfolding field word
field-returns-in_err-sign t c =
    let dot = eaten c.args.levels classes.sign_dot c.args.self.now _ c.eat.ensures.rest in
    rw dot.1 (search (rules, passes, stops_then))

pub field-returns-in_err-body : goal.field-returns-in_err-body
unfolding field word
field-returns-in_err-body t c =
    let dot = eaten c.args.levels classes.sign_dot c.args.self.now _ c.eat.ensures.rest in
    rw dot.1 (search (rules, passes, stops_then))

pub field-returns : goal.field-returns
unfolding field word
field-returns t c =
    let dot = eaten c.args.levels classes.sign_dot c.args.self.now _ c.eat.ensures.rest in
    let comma = eaten c.args.levels classes.sign_comma c.type_body.new.self c.eat-2.new.self c.eat-2.ensures.rest in
    rw (dot.1, c.in_ok-word.ensures, c.in_ok-cardinality.ensures, c.in_ok-sign.ensures, c.in_ok-body.ensures, comma.1, c.in_ok-name.ensures) refl

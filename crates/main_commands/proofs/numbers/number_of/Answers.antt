-- The number that is read, where the text writes one.
use Rattle.std.proofs.Common.{◌<◌, ◌^◌, arith}
use Rattle.main_commands.proofs.NumbersWithin.{number_read, number_unread}
use Rattle.main_commands.proofs.numbers.number_of.Goals as goal

pub returns-in-Ok : goal.returns-in-Ok
returns-in-Ok c =
    let small : c.args.most < 2 ^ 32 = omega arith in
    number_read c.args.least c.args.most small c.args.text.now c.in-Ok.number c.within.result c.in-Ok.ensures.value.0.0.0 c.in-Ok.ensures.value.0.1 c.within.ensures

pub returns-in-Err : goal.returns-in-Err
returns-in-Err c =
    let small : c.args.most < 2 ^ 32 = omega arith in
    number_unread c.args.least c.args.most small c.args.text.now c.in-Err.ensures.value.0

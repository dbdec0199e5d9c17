use Rattle.handler_table.proofs.Places.{entry_found, rising_taken, take_remove}
use Rattle.handler_table.proofs.row.Row.take.Goals as goal

pub invariant_of-self : goal.invariant_of-self
invariant_of-self c =
    let old = c.args.self.now in
    let hs = old.list.items in
    let new = c.remove-body.new.self.items in
    let e = take_remove c.args.number c.in-Ok.place hs new old.rising c.in-Ok.ensures.place c.remove-body.ensures.items in
    record { rising = rising_taken c.args.number hs new old.rising e }

pub returns-in-Ok-clause-value : goal.returns-in-Ok-clause-value
returns-in-Ok-clause-value c =
    let old = c.args.self.now in
    entry_found c.args.number c.in-Ok.place old.list.items c.remove-body.result old.rising c.in-Ok.ensures.place c.remove-body.ensures.value

use Rattle.handler_table.proofs.Places.{put_insert, put_set, rising_put}
use Rattle.handler_table.proofs.row.Row.put.Goals as goal

pub invariant_of-self : goal.invariant_of-self
invariant_of-self c =
    let hs = c.args.self.now.list.items in
    let new = c.replaced.new.list.items in
    let e = put_set c.number_in.result c.in-Ok.place hs new c.args.handler c.number_in.ensures c.in-Ok.ensures.place c.replaced.ensures.items in
    record { rising = rising_put hs new c.args.handler c.args.self.now.rising e }

pub invariant_of-self-in-Err : goal.invariant_of-self-in-Err
invariant_of-self-in-Err c =
    let hs = c.args.self.now.list.items in
    let new = c.inserted.new.list.items in
    let e = put_insert c.number_in.result c.in-Err.place hs new c.args.handler c.number_in.ensures c.in-Err.ensures.place c.inserted.ensures.items in
    record { rising = rising_put hs new c.args.handler c.args.self.now.rising e }

pub returns-in-Ok-clause-row : goal.returns-in-Ok-clause-row
returns-in-Ok-clause-row c =
    let hs = c.args.self.now.list.items in
    put_set c.number_in.result c.in-Ok.place hs c.replaced.new.list.items c.args.handler c.number_in.ensures c.in-Ok.ensures.place c.replaced.ensures.items

pub returns-in-Err-clause-row : goal.returns-in-Err-clause-row
returns-in-Err-clause-row c =
    let hs = c.args.self.now.list.items in
    put_insert c.number_in.result c.in-Err.place hs c.inserted.new.list.items c.args.handler c.number_in.ensures c.in-Err.ensures.place c.inserted.ensures.items

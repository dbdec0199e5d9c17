use Rattle.std.proofs.Common.{◌<◌, length, sym, subst}
use Rattle.post_box.specs.Limit.{box_limit}
use Rattle.post_box.proofs.Mailboxes.{box_reached}
use Rattle.post_box.proofs.boxes.Boxes.put.Goals as goal

pub put-requires : goal.put-requires
put-requires c =
    let same = c.in_ok-reach.ensures.same in
    let within = c.in_ok-reach.ensures.within in
    let e = box_reached c.args.self.now c.reach.new.self c.args.session c.index_mut.result.now same within c.index_mut.ensures.value in
    let room = subst (λ n. n < box_limit) c.len.ensures.count c.if-len-ge-LIMIT.false in
    subst (λ ws. length ws < box_limit) (sym e) room

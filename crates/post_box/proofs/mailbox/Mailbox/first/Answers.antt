use Rattle.std.proofs.Common.{Some, sym, ap, ◌∙◌, arith}
use Rattle.post_box.specs.declared.mailbox.Waiting.{Waiting}
use Rattle.post_box.proofs.Oldest.{found}
use Rattle.post_box.proofs.mailbox.Mailbox.first.Goals as goal

pub index-requires : goal.index-requires
index-requires c =
    let f = found c.args.ops.now c.in-Some.place c.args.self.now.list.items c.in-Some.ensures in
    grind (arith, f.within)

pub returns-in-Some : goal.returns-in-Some
returns-in-Some c =
    let f = found c.args.ops.now c.in-Some.place c.args.self.now.list.items c.in-Some.ensures in
    ap (λ (w : Waiting). Some w.message) c.index.ensures ∙ sym (f.value c.index.result.now)

use Rattle.std.proofs.Common.{Some, sym, ap, ◌∙◌, arith}
use Rattle.post_box.specs.declared.mailbox.Waiting.{Waiting}
use Rattle.post_box.proofs.Oldest.{found}
use Rattle.post_box.proofs.mailbox.Mailbox.take.Goals as goal

pub remove-requires : goal.remove-requires
remove-requires c =
    let f = found c.args.ops.now c.in-Some.place c.args.self.now.list.items c.in-Some.ensures in
    grind (arith, f.within)

pub returns-in-Some-clause-value : goal.returns-in-Some-clause-value
returns-in-Some-clause-value c =
    let f = found c.args.ops.now c.in-Some.place c.args.self.now.list.items c.in-Some.ensures in
    ap (λ (w : Waiting). Some w.message) c.remove.ensures.value ∙ sym (f.value c.remove.result)

pub returns-in-Some-clause-rest : goal.returns-in-Some-clause-rest
returns-in-Some-clause-rest c =
    let f = found c.args.ops.now c.in-Some.place c.args.self.now.list.items c.in-Some.ensures in
    c.remove.ensures.items ∙ sym f.rest

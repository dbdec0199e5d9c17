use Rattle.std.proofs.Common.{[], ◌+◌, take}
use Rattle.check_ports.proofs.BroughtIn.{spared_more, taken}
use Rattle.check_ports.proofs.Nows.{texts_more}
use Rattle.check_ports.proofs.brought.bring.Goals as goal

pub loop-name-preserved : goal.loop-name-preserved
loop-name-preserved c =
    let ns = c.args.names.now in
    let i = c.loop-name.name-index in
    let more = taken ns i c.name-item.result c.loop-name-test.true c.name-item.is in (
      texts_more [] c.loop-name.seen c.add.new.self (take i ns) (take (i + 1) ns) c.name-item.result more c.loop-name.invariant.0 (rw (← c.as_str.ensures) c.in_ok-add.ensures.added),
      spared_more c.args.interfaces.now c.args.others.now c.loop-name.seen c.args.mentions.now.items c.loop-name.mentions.items c.bring_unless.new.mentions.items (take i ns) (take (i + 1) ns) c.name-item.result more c.loop-name.invariant.0 c.loop-name.invariant.1 c.in_ok-bring_unless.ensures,
    )

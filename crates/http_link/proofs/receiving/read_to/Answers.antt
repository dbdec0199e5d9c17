use Rattle.std.proofs.Common.{arith}
use Rattle.outside_dials.specs.Dials.{traffic}
use Rattle.http_link.proofs.Heard.{heard_nothing, heard_more, heard_end, heard_cut, unfinished_on}
use Rattle.http_link.proofs.receiving.read_to.Goals as goal

pub loop-inbox-init : goal.loop-inbox-init
loop-inbox-init g c = record { heard = heard_nothing _ c.args.inbox.now c.requires.bounded; unclosed = c.requires.open }

pub returns-in-Ok-eq0-clause-heard : goal.returns-in-Ok-eq0-clause-heard
returns-in-Ok-eq0-clause-heard g c =
    let read = c.in-Ok-eq0.ensures.read in
    let h = c.loop-inbox.invariant.heard in
    let long = c.len.ensures.len in
    let open_ = unfinished_on c.args.inbox.now c.loop-inbox.inbox h.piece c.args.end c.requires.unfinished h.grown (omega arith) in
    heard_end (traffic (g.W.Wire.told c.args.wire.now)) (traffic (g.W.Wire.told c.loop-inbox.wire)) (traffic (g.W.Wire.told c.fill.new.wire))
    c.args.inbox.now c.loop-inbox.inbox c.fill.new.self read.0 c.in-Ok-eq0.field-0 h open_
    (record { given = read.3; taken = c.in-Ok-eq0.ensures.taken; noted = read.4; unfailed = c.in-Ok-eq0.ensures.told })
    read.2 read.1 c.in-Ok-eq0.field-0-test c.in-Ok-eq0.ensures.bounded

pub loop-inbox-preserved : goal.loop-inbox-preserved
loop-inbox-preserved g c =
    let read = c.in-Ok.ensures.read in
    let h = c.loop-inbox.invariant.heard in
    let long = c.len.ensures.len in
    let open_ = unfinished_on c.args.inbox.now c.loop-inbox.inbox h.piece c.args.end c.requires.unfinished h.grown (omega arith) in
    record {
      heard = heard_more (traffic (g.W.Wire.told c.args.wire.now)) (traffic (g.W.Wire.told c.loop-inbox.wire)) (traffic (g.W.Wire.told c.fill.new.wire))
          c.args.inbox.now c.loop-inbox.inbox c.fill.new.self read.0 c.in-Ok.field-0 h open_
          (record { given = read.3; taken = c.in-Ok.ensures.taken; noted = read.4; unfailed = c.in-Ok.ensures.told })
          read.2 read.1 (omega arith) c.in-Ok.ensures.bounded;
      unclosed = c.in-Ok.ensures.open;
    }

pub returns-in-Err-clause-heard : goal.returns-in-Err-clause-heard
returns-in-Err-clause-heard g c =
    let read = c.in-Err.ensures.read in
    let h = c.loop-inbox.invariant.heard in
    let long = c.len.ensures.len in
    let open_ = unfinished_on c.args.inbox.now c.loop-inbox.inbox h.piece c.args.end c.requires.unfinished h.grown (omega arith) in
    heard_cut (traffic (g.W.Wire.told c.args.wire.now)) (traffic (g.W.Wire.told c.loop-inbox.wire)) (traffic (g.W.Wire.told c.fill.new.wire))
    c.args.inbox.now c.loop-inbox.inbox c.fill.new.self h open_
    read.0 read.1 c.in-Err.ensures.taken read.2 c.in-Err.ensures.told

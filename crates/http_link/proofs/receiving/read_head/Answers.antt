use Rattle.std.proofs.Common.{◌≡◌, ◌≤◌, false, true, length, take, sym, refl, ◌∙◌, subst, arith}
use Rattle.outside_dials.specs.Dials.{traffic}
use Rattle.http_port.specs.HeadPart.{longest_head, HoldsScan}
use Rattle.http_port.proofs.PartLemmas.{scan_start, scan_grows}
use Rattle.http_link.specs.Trips.{most_read}
use Rattle.http_link.proofs.Heads.{knows_front, knows_end, unfinished_front}
use Rattle.http_link.proofs.Heard.{heard_nothing, heard_more, heard_end, heard_cut}
use Rattle.http_link.proofs.receiving.read_head.Goals as goal

pub loop-announced-init : goal.loop-announced-init
loop-announced-init g c = record {
  heard = heard_nothing _ c.args.inbox.now (subst (λ l. length l ≤ most_read) (sym c.requires.empty) (omega arith));
  scan = scan_start (take longest_head c.args.inbox.now);
  unclosed = c.requires.open;
}

pub returns-in-Some-clause-heard : goal.returns-in-Some-clause-heard
returns-in-Some-clause-heard g c = (
  false,
  knows_front c.as_slice.result.now c.loop-announced.inbox c.in-Some.announced c.as_slice.ensures c.in-Some.ensures.some,
  c.loop-announced.invariant.heard,
)

pub returns-in-Ok-eq0-clause-heard : goal.returns-in-Ok-eq0-clause-heard
returns-in-Ok-eq0-clause-heard g c =
    let read = c.in-Ok-eq0.ensures.read in
    let none : length read.0 ≡ 0 = read.1 ∙ c.in-Ok-eq0.field-0-test in (
      true,
      knows_end c.as_slice.result.now c.loop-announced.inbox c.fill.new.self read.0 _ c.as_slice.ensures c.in_default.ensures.none.0 read.2 none refl,
      heard_end (traffic (g.W.Wire.told c.args.wire.now)) (traffic (g.W.Wire.told c.loop-announced.wire)) (traffic (g.W.Wire.told c.fill.new.wire))
          c.args.inbox.now c.loop-announced.inbox c.fill.new.self read.0 c.in-Ok-eq0.field-0
          c.loop-announced.invariant.heard
          (unfinished_front c.as_slice.result.now c.loop-announced.inbox c.as_slice.ensures c.in_default.ensures.none.0)
          (record { given = read.3; taken = c.in-Ok-eq0.ensures.taken; noted = read.4; unfailed = c.in-Ok-eq0.ensures.told })
          read.2 read.1 c.in-Ok-eq0.field-0-test c.in-Ok-eq0.ensures.bounded,
    )

pub returns-in-Err-clause-heard : goal.returns-in-Err-clause-heard
returns-in-Err-clause-heard g c =
    let read = c.in-Err.ensures.read in
    heard_cut (traffic (g.W.Wire.told c.args.wire.now)) (traffic (g.W.Wire.told c.loop-announced.wire)) (traffic (g.W.Wire.told c.fill.new.wire))
    c.args.inbox.now c.loop-announced.inbox c.fill.new.self
    c.loop-announced.invariant.heard
    (unfinished_front c.as_slice.result.now c.loop-announced.inbox c.as_slice.ensures c.in_default.ensures.none.0)
    read.0 read.1 c.in-Err.ensures.taken read.2 c.in-Err.ensures.told

pub loop-announced-preserved : goal.loop-announced-preserved
loop-announced-preserved g c =
    let read = c.in-Ok.ensures.read in
    let scanned : HoldsScan (take longest_head c.loop-announced.inbox) c.announced_in.new.scan =
    subst (λ l. HoldsScan (take longest_head l) c.announced_in.new.scan) c.as_slice.ensures c.in_default.ensures.scan in
    record {
      heard = heard_more (traffic (g.W.Wire.told c.args.wire.now)) (traffic (g.W.Wire.told c.loop-announced.wire)) (traffic (g.W.Wire.told c.fill.new.wire))
          c.args.inbox.now c.loop-announced.inbox c.fill.new.self read.0 c.in-Ok.field-0
          c.loop-announced.invariant.heard
          (unfinished_front c.as_slice.result.now c.loop-announced.inbox c.as_slice.ensures c.in_default.ensures.none.0)
          (record { given = read.3; taken = c.in-Ok.ensures.taken; noted = read.4; unfailed = c.in-Ok.ensures.told })
          read.2 read.1 (omega arith) c.in-Ok.ensures.bounded;
      scan = subst (λ l. HoldsScan (take longest_head l) c.announced_in.new.scan) (sym read.2)
          (scan_grows c.loop-announced.inbox read.0 c.announced_in.new.scan scanned);
      unclosed = c.in-Ok.ensures.open;
    }

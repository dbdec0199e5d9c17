use Rattle.std.proofs.Common.{◌≡◌, ◌+◌, ◌-◌, arith, sym, ap, ◌∙◌, take, drop}
use Rattle.http_port.specs.Walks.{begun_behind}
use Rattle.http_port.proofs.PartLemmas.{IsNextLf, next_lf, no_next_lf, scan_ends, scan_on, scan_fails}
use Rattle.http_port.proofs.scan.Scan.finish.Goals as goal

pub returns-in_default-begun_behind-clause-length : goal.returns-in_default-begun_behind-clause-length
returns-in_default-begun_behind-clause-length c =
    let scan = c.loop-before.self in
    let lf : IsNextLf c.args.bytes.now scan.at c.in-Some.before = next_lf _ _ _ c.loop-before.invariant.inside c.in-Some.ensures in
    let count : scan.at + c.in-Some.before + 1 - scan.at ≡ c.in-Some.before + 1 = omega arith in
    let line = ap (λ k. begun_behind scan.begun (take k (drop scan.at c.args.bytes.now))) count in
    sym (scan_ends c.args.bytes.now scan c.in-Some.before c.loop-before.invariant lf (sym (c.in_default-begun_behind.ensures ∙ line)))

pub loop-before-preserved : goal.loop-before-preserved
loop-before-preserved c =
    let scan = c.loop-before.self in
    let lf : IsNextLf c.args.bytes.now scan.at c.in-Some.before = next_lf _ _ _ c.loop-before.invariant.inside c.in-Some.ensures in
    let count : scan.at + c.in-Some.before + 1 - scan.at ≡ c.in-Some.before + 1 = omega arith in
    let line = ap (λ k. begun_behind scan.begun (take k (drop scan.at c.args.bytes.now))) count in
    scan_on c.args.bytes.now scan c.in-Some.before c.loop-before.invariant lf c.in-Some-begun_behind.begun (sym (c.in-Some-begun_behind.ensures ∙ line))

pub returns-clause-length : goal.returns-clause-length
returns-clause-length c =
    sym (scan_fails c.args.bytes.now c.loop-before.self c.loop-before.invariant (no_next_lf _ _ c.loop-before.invariant.inside c.in_default.ensures))
